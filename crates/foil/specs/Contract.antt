-- What the contracts of the steps say: answer, record and lists are what the definitions give.
use Rattle.std.specs.Prelude.{ℕ, ◌≡◌, Bool, true, false, not, List, [], ◌∷◌, ◌++◌, length, Result, Ok, Err}
use Rattle.std.proofs.Math.Option.{none, some}
use Rattle.foil_spec.specs.Foil.{Entry, pen, Layout}
use Rattle.foil_spec.specs.Ledger.{with_entries, Room, short, too_long, is_too_fine, Step, Refusal, ◌⇒◌, first}
use Rattle.foil_spec.specs.Ledger.{Clearance, by_pen, by_reach, after_lent, After, settle}
use Rattle.foil_spec.specs.Ledger.{Answer as Outcome, refused, accepted, laid, found, wrote, booked}
use Rattle.foil_spec.specs.Lent.{Lent, lent, held, store, sound, room_in, step_on, output_after}
use Rattle.foil_spec.specs.declared.Board.{Board}
use Rattle.foil.specs.declared.Accepted.{Accepted}
use Rattle.foil.specs.declared.Accepted.TheVariants.{Done, Laid, Found, Wrote as WroteBytes}
use Rattle.foil.specs.declared.pens.Clearance as asked
use Rattle.foil.specs.declared.pens.Clearance.TheVariants.{Pen, Reach}

-- what a call answers: its values, or the number of a refusal
abbrev pub Answer : Type 0
Answer = Result Accepted ℕ

-- what a check answers
abbrev pub Checked : Type 0
Checked = Result (Unit {0}) ℕ

-- document 01's number and values for each case of an answer
unfoldable pub answer_of : Outcome → Answer
answer_of (refused n) = Err n
answer_of accepted = Ok Done
answer_of (laid cs n) = Ok (Laid (length cs) n)
answer_of (found k) = Ok (Found k)
answer_of (wrote bs) = Ok (WroteBytes (length bs))
answer_of (booked k n) = Ok (Laid k n)

-- what each case of a clearance says
unfoldable pub clearance_of : asked.Clearance → Clearance
clearance_of (Pen half gap) = by_pen (pen half gap)
clearance_of (Reach d) = by_reach d

-- the answer r, the record b, the table t and the strips s are those of a
pub record Gave (a : After Outcome Lent) (r : Answer) (b : Board) (t s : List ℕ) : Type 0 where
  pub answer : r ≡ answer_of a.answer
  pub board : b ≡ a.state.board
  pub table : t ≡ a.state.table
  pub strips : s ≡ a.state.strips

-- a step that is lent m, in any room that is long enough, on a foil of so many entries at most
abbrev pub StepIn : Step → ℕ → Lent → Answer → Board → List ℕ → List ℕ → Type 0
StepIn c limit m a b t s = (r : Room) → short r ≡ false → r.limit ≡ limit → Gave (step_on r c m) a b t s

-- a step in the room r that is lent the output list out as well, and leaves it as out'
pub record Wrote (c : Step) (r : Room) (m : Lent) (out : List ℕ) (a : Answer) (b : Board) (t s out' : List ℕ)
    : Type 0 where
  pub gave : Gave (step_on r c m) a b t s
  pub output : out' ≡ output_after (step_on r c m).answer out

-- the same in any room that is long enough, with so many places of output, on a foil of so many entries at most
abbrev pub OutputIn : Step → ℕ → Lent → List ℕ → Answer → Board → List ℕ → List ℕ → List ℕ → Type 0
OutputIn c limit m out a b t s out' =
    (r : Room) → short r ≡ false → r.limit ≡ limit → r.output ≡ length out → Wrote c r m out a b t s out'

-- a step in the room r that only reads what it is lent of the foil, m: it answered a, and left its output list out as
-- out'
pub record Read (c : Step) (r : Room) (m : Lent) (out : List ℕ) (a : Answer) (out' : List ℕ) : Type 0 where
  pub answer : a ≡ answer_of (step_on r c m).answer
  pub state : m ≡ (step_on r c m).state
  pub output : out' ≡ output_after (step_on r c m).answer out

-- the same in any room that is long enough, with so many places of output
abbrev pub ReadIn : Step → Lent → List ℕ → Answer → List ℕ → Type 0
ReadIn c m out a out' = (r : Room) → short r ≡ false → r.output ≡ length out → Read c r m out a out'

-- the answer says whether lists of this length are too short, whatever else is lent
pub record TooShort (t s : List ℕ) (r : Bool) : Type 0 where
  pub is : (b : Board) (limit output : ℕ) → r ≡ short (room_in limit (lent b t s) output)

-- none of these refusals applies, or the first that does has this number
abbrev pub FirstChecked : List Refusal → Checked → Type 0
FirstChecked rs (Ok _) = first rs ≡ none
FirstChecked rs (Err n) = first rs ≡ some n

-- what is lent keeps the rules; or a step that reads it is refused by this number, whatever its own refusals are
abbrev pub LentChecked : Lent → Checked → Type 0
LentChecked m (Ok _) = sound m ≡ true
LentChecked m (Err n) =
    (limit output : ℕ) (rs : List Refusal) → first (after_lent (room_in limit m output) (not (sound m)) rs) ≡ some n

-- what comes of a layout l in place of what m holds, if only 11 can still refuse it
abbrev pub taken_over : Layout → Lent → After Outcome Lent
taken_over l m = settle (first ((is_too_fine l ⇒ 11) ∷ [])) (record { answer = accepted; state = store l m }) m

-- the layout that m holds, with an entry more
abbrev pub with_entry : Lent → Entry → Layout
with_entry m e = with_entries (held m) ((held m).entries ++ e ∷ [])

-- what comes of an entry more, if only 10 and 11 can still refuse it
abbrev pub entry_added : Room → Entry → Lent → After Outcome Lent
entry_added r e m =
    settle (first ((too_long r (with_entry m e) ⇒ 10) ∷ (is_too_fine (with_entry m e) ⇒ 11) ∷ []))
    (record { answer = accepted; state = store (with_entry m e) m }) m
