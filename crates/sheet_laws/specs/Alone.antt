-- What a foil of a sheet is answered, and its lists, depend on the others only through their numbers of entries: it
-- goes as a foil of its own, so that what is stated of lists of calls on one foil holds for each foil of a sheet.
use Rattle.std.specs.Prelude.{ℕ, ◌/◌, ◌≤◌, ◌<◌, ◌≡◌, true, cond, ◌≢◌, List, [], ◌∷◌, ◌++◌, ltb, eqb, length, get_or, take, drop}
use Rattle.foil_spec.specs.Lists.{cons_if}
use Rattle.foil_spec.specs.Limits.{table_size, sheet_foils, sheet_entries, sheet_size}
use Rattle.foil_spec.specs.Ledger.{Room}
use Rattle.foil_spec.specs.Lent.{Lent, lent, held, sound}
use Rattle.foil_spec.specs.Sequence.{Lending, Left, run_lent, Begins}
use Rattle.foil_spec.specs.Sheet.{counts_ok, limit_of, SheetLent, no_board, counts, table_at, Sheet, SheetLending}
use Rattle.foil_spec.specs.Sheet.{lend_sheet}
use Rattle.foil_spec.specs.Calls.{output_by}
use Rattle.foil_spec.specs.declared.Board.{Board}
use Rattle.ledger_laws.specs.Demand2.{StripsRight}
use Rattle.ledger_laws.specs.LookUp.{LooksUpAt}
use Rattle.ledger_laws.specs.Demand3.{NoWayAt, LaysFirstAt, LiftsBackAt}
use Rattle.ledger_laws.specs.Drawn.{FindsNoWayAt, FindsFirstAt, BooksWaysAt}
use Rattle.ledger_laws.specs.Apart.{TracksApartAt}
use Rattle.ledger_laws.specs.Crossed.{NoneCrossedAt, TurnsPatchDownAt, TurnsLegDownAt}
use Rattle.ledger_laws.specs.Joins.{NoJoinAt, JoinsFirstAt, JoinsApartAt, JoinBendsAt, LiftsWholeAt}
use Rattle.ledger_laws.specs.Moments.{Moment, moments, AtEvery}

-- the records and the table of a sheet of eight foils within both limits, on at least 512 places; the foils may hold
-- anything
pub record EightFoils (bs : List Board) (t : List ℕ) : Type 0 where
  pub eight : length bs ≡ sheet_foils
  pub limits : counts_ok (counts bs) ≡ true
  pub places : sheet_size ≤ length t

-- r is the room of calls on foil k of a sheet of eight foils within both limits
pub record RoomOn (r : Room) (k : ℕ) (m : SheetLent) : Type 0 where
  pub here : k < sheet_foils
  pub eight-foils : EightFoils m.boards m.table
  pub limit : r.limit ≡ limit_of (counts m.boards) k

-- foil k of a sheet as a foil of its own
unfoldable pub foil_of : ℕ → Sheet → Lent
foil_of k m = lent (get_or m.boards k no_board) (table_at k m.boards m.table) (m.strips k)

-- the same call on it: lent the whole table where the sheet's 512 places are lent, else none of it; of the other foils
-- it knows how many entries they leave to it
unfoldable pub alone_call : SheetLending → Sheet → Lending
alone_call c m =
    record {
      call = c.call;
      table_front = cond (ltb (length (take c.table_front m.table) / 5) sheet_entries) 0 table_size;
      strip_front = c.strip_front;
      output = c.output;
      limit = limit_of (counts m.boards) c.foil;
    }

-- the calls of a list that are on foil k
unfoldable pub alone_calls : ℕ → Sheet → List SheetLending → List Lending
alone_calls k m [] = []
alone_calls k m (c ∷ cs) = cons_if (eqb c.foil k) (alone_call c m) (alone_calls k (lend_sheet c m).state cs)

-- what they leave of foil k
unfoldable pub left_of : ℕ → Sheet → List SheetLending → List Left
left_of k m [] = []
left_of k m (c ∷ cs) =
    cons_if (eqb c.foil k)
    (record {
      reply = (lend_sheet c m).answer;
      lists = foil_of k (lend_sheet c m).state;
      output = output_by (lend_sheet c m).answer c.output;
    })
    (left_of k (lend_sheet c m).state cs)

-- in any list of calls, those on foil k answer and leave what they do on the foil alone
abbrev pub FoilsAlone : Type 0
FoilsAlone =
    (m : Sheet) (cs : List SheetLending) (k : ℕ) → EightFoils m.boards m.table → k < sheet_foils
    → left_of k m cs ≡ run_lent (foil_of k m) (alone_calls k m cs)

-- x is what a call on foil k may leave of m: every other foil and the places past 512 as they were, and eight foils
-- within both limits
pub record LeavesOthers (k : ℕ) (m x : Sheet) : Type 0 where
  pub others : (j : ℕ) → j ≢ k → foil_of j x ≡ foil_of j m
  pub past : drop sheet_size x.table ≡ drop sheet_size m.table
  pub still-eight : EightFoils x.boards x.table

abbrev pub OthersStay : Type 0
OthersStay =
    (c : SheetLending) (m : Sheet) → EightFoils m.boards m.table
    → LeavesOthers c.foil m (lend_sheet c m).state

-- where a list of calls starts for foil k: with a call that begins it; or the foil is there already
pub data StartedOn : ℕ → Sheet → List SheetLending → Type 0 where
  begins : (m : Sheet) (c : SheetLending) (cs : List SheetLending) → Begins c.call (lend_sheet c m).answer
      → StartedOn c.foil m (c ∷ cs)
  carried : (k : ℕ) (m : Sheet) (cs : List SheetLending) → sound (foil_of k m) ≡ true → StartedOn k m cs

-- from there on, P holds of each step j that the calls on foil k run on the foil alone, and of the steps run after it
abbrev pub OnSheet : (Moment → List Moment → Type 0) → Type 0
OnSheet P =
    (m : Sheet) (cs : List SheetLending) (k : ℕ) → EightFoils m.boards m.table → k < sheet_foils → StartedOn k m cs
    → (earlier : List Moment) (j : Moment) (later : List Moment)
    → moments (foil_of k m) (held (foil_of k m)) (alone_calls k m cs) ≡ earlier ++ (j ∷ later) → P j later

-- what holds at every step of lists of calls on one foil holds for each foil of a sheet
abbrev pub AlsoOnSheet : Type 1
AlsoOnSheet = (P : Moment → List Moment → Type 0) → AtEvery P → OnSheet P

-- so no way and fewest bends are about the foil's own points, a lift as the next step on the foil gives it back as it
-- was before the track, its strips stay right, and a look up answers the place of one of them
abbrev pub SheetNoWay : Type 0
SheetNoWay = OnSheet NoWayAt

abbrev pub SheetLaysFirst : Type 0
SheetLaysFirst = OnSheet LaysFirstAt

abbrev pub SheetLiftsBack : Type 0
SheetLiftsBack = OnSheet LiftsBackAt

abbrev pub SheetStripsRight : Type 0
SheetStripsRight = OnSheet (λ j later. StripsRight j.ledger_after j.after)

abbrev pub SheetLooksUp : Type 0
SheetLooksUp = OnSheet LooksUpAt

-- so are no way and fewest bends of a join
abbrev pub SheetNoJoin : Type 0
SheetNoJoin = OnSheet NoJoinAt

abbrev pub SheetJoinsFirst : Type 0
SheetJoinsFirst = OnSheet JoinsFirstAt

-- a new track and a join keep apart from what is on their own foil, and from its edge
abbrev pub SheetTracksApart : Type 0
SheetTracksApart = OnSheet TracksApartAt

abbrev pub SheetJoinsApart : Type 0
SheetJoinsApart = OnSheet JoinsApartAt

-- no patch of a foil blocks a point of a leg of the same foil, and 21 is about these alone
abbrev pub SheetNoneCrossed : Type 0
SheetNoneCrossed = OnSheet NoneCrossedAt

abbrev pub SheetTurnsPatchDown : Type 0
SheetTurnsPatchDown = OnSheet TurnsPatchDownAt

abbrev pub SheetTurnsLegDown : Type 0
SheetTurnsLegDown = OnSheet TurnsLegDownAt

-- a join's bends and steps count for its net, and a lift of the net as the next step on the foil takes it whole
abbrev pub SheetJoinBends : Type 0
SheetJoinBends = OnSheet JoinBendsAt

abbrev pub SheetLiftsWhole : Type 0
SheetLiftsWhole = OnSheet LiftsWholeAt

-- what find and book promise
abbrev pub SheetFindsNoWay : Type 0
SheetFindsNoWay = OnSheet FindsNoWayAt

abbrev pub SheetFindsFirst : Type 0
SheetFindsFirst = OnSheet FindsFirstAt

abbrev pub SheetBooksWays : Type 0
SheetBooksWays = OnSheet BooksWaysAt
