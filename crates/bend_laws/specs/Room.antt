-- With 8,192 corner places lent for each track no track lacks room for its corners, as it is stated: K is at most
-- 4,096. So many places are room for the bytes of any foil's file too. On a sheet it is so for each foil.
use Rattle.std.specs.Prelude.{ℕ, ◌*◌, ◌≤◌, ◌<◌, max, ◌≡◌, Bool, true, false, not, ◌&&◌, ◌↔◌, List, ◌∷◌, leb, length}
use Rattle.std.proofs.Math.Option.{some}
use Rattle.foil_spec.specs.Lists.{all}
use Rattle.foil_spec.specs.Limits.{corner_places, sheet_foils}
use Rattle.foil_spec.specs.Foil.{Point, Layout}
use Rattle.foil_spec.specs.Ledger.{strips_of, path_of, without, Room, short, corner_room, is_too_fine, refused}
use Rattle.foil_spec.specs.Ledger.{Step, new_foil, draw, lay, lift, look_up, put_leg, save, find, book, slip, join}
use Rattle.foil_spec.specs.Ledger.{carry}
use Rattle.foil_spec.specs.Carrying.{Old, old_short}
use Rattle.foil_spec.specs.Lent.{Lent, held, step_on}
use Rattle.foil_spec.specs.Wishes.{wishes, too_many}
use Rattle.foil_spec.specs.Calls.{Call, step, run_record, ohms, lay_list}
use Rattle.foil_spec.specs.Sequence.{Lending, Begins, room_for, run_lent, told}
use Rattle.foil_spec.specs.Sheet.{Sheet, SheetLending}
use Rattle.ledger_laws.specs.Numbers.{steps_in, numbers_of, among}
use Rattle.sheet_laws.specs.Alone.{EightFoils, foil_of, alone_calls, left_of}

-- the track found has two corners for each strip at most, and three where there is one strip
abbrev pub TrackCorners : Type 0
TrackCorners =
    (l : Layout) (S T : Point) (cs : List Point) → path_of l S T ≡ some cs → length cs ≤ max 3 (2 * length (strips_of l))

-- a step that has two corner places for each of 4,096 strips, on lists that hold anything, answers 12 exactly when the
-- table or the strip list is too short; a join, if the foil without its net has so few strips; a carry, if its old
-- lists are long enough
abbrev pub EnoughCorners : Type 0
EnoughCorners =
    (r : Room) (s : Step) (m : Lent) → corner_places ≤ corner_room r
    → ((net : ℕ) (S : Point) → s ≡ join net S → is_too_fine (without net (held m)) ≡ false)
    → ((o : Old) → s ≡ carry o → old_short o ≡ false)
    → ((step_on r s m).answer ≡ refused 12) ↔ (short r ≡ true)

-- so many corner places are enough for the step: it is no join, and the old lists of a carry are long enough
unfoldable pub asks_few : Step → Bool
asks_few (new_foil W H c) = true
asks_few (draw x0 y0 x1 y1) = true
asks_few (lay net S T) = true
asks_few (lift net) = true
asks_few (look_up p) = true
asks_few (put_leg e) = true
asks_few save = true
asks_few (find S T) = true
asks_few (book net ks) = true
asks_few slip = true
asks_few (join net S) = false
asks_few (carry o) = not (old_short o)

-- the corner places that a call has enough of: so many, and for a list so many for each net
unfoldable pub places_for : Call → ℕ
places_for (step s) = corner_places
places_for (run_record bs at) = corner_places
places_for (ohms net i) = corner_places
places_for (lay_list ws n) = corner_places * length (wishes ws)

-- it is no list of too many nets, or of more than its places for answers
unfoldable pub few_wishes : Call → Bool
few_wishes (step s) = true
few_wishes (run_record bs at) = true
few_wishes (ohms net i) = true
few_wishes (lay_list ws n) = not (too_many ws n)

-- the call is no join, and is lent a table and strips that are long enough, so many corner places, and for a list
-- places for its answers; m is what was lent at first
unfoldable pub lent_enough : Lent → Lending → Bool
lent_enough m c =
    all asks_few (steps_in c.call) && few_wishes c.call && not (short (room_for c m))
    && leb (places_for c.call) (corner_room (room_for c m))

-- from a call that begins a foil on, calls that are no joins and all lent enough never answer 12, by themselves, in a
-- record or in a list
abbrev pub NeverShort : Type 0
NeverShort =
    (m : Lent) (l : Layout) (c : Lending) (cs : List Lending) → Begins c.call (told m c l).answer
    → all (lent_enough m) (c ∷ cs) ≡ true → among 12 (numbers_of (run_lent m (c ∷ cs))) ≡ false

-- the same on a sheet: in any list of calls on its foils, those on foil k, from one that begins it on, if they are no
-- joins and all lent enough
abbrev pub SheetNeverShort : Type 0
SheetNeverShort =
    (m : Sheet) (cs : List SheetLending) (k : ℕ) (l : Layout) (c : Lending) (later : List Lending)
    → EightFoils m.boards m.table → k < sheet_foils → alone_calls k m cs ≡ c ∷ later
    → Begins c.call (told (foil_of k m) c l).answer → all (lent_enough (foil_of k m)) (c ∷ later) ≡ true
    → among 12 (numbers_of (left_of k m cs)) ≡ false
