-- Find and book, as it is stated (document 02, P2): what each promises in a list of calls, and that lay is the two.
use Rattle.std.specs.Prelude.{ℕ, ◌*◌, ◌≡◌, Bool, true, false, ◌↔◌, List, length, take}
use Rattle.foil_spec.specs.Lists.{each}
use Rattle.foil_spec.specs.Foil.{Point, net_ok, free}
use Rattle.foil_spec.specs.Paths.{at, is_path, bends}
use Rattle.foil_spec.specs.Corners.{point_numbers, corners_in}
use Rattle.foil_spec.specs.Nets.{in_use}
use Rattle.foil_spec.specs.Ledger.{Room, short, lay, find, book, refused, laid, booked}
use Rattle.foil_spec.specs.Lent.{Lent, step_on, output_after}
use Rattle.path_laws.specs.First.{IsFirst}
use Rattle.ledger_laws.specs.Moments.{Moment, AtEvery}

-- a find between points that are free by the ledger, the table and the strip list long enough, answers 9 exactly when
-- no path joins them
abbrev pub FindsNoWayAt : Moment → List Moment → Type 0
FindsNoWayAt k later =
    (S T : Point) → k.step ≡ find S T → short k.room ≡ false → free k.ledger_before S.x S.y ≡ true
    → free k.ledger_before T.x T.y ≡ true
    → (k.answer ≡ refused 9) ↔ ((cs : List Point) → is_path (free k.ledger_before) S T cs ≡ true → ⊥)

abbrev pub FindsNoWay : Type 0
FindsNoWay = AtEvery FindsNoWayAt

-- a track that is found is the first path of fewest bends, with the bends that are answered; its corners stand at the
-- front of the output list, and the record, the table and the strips are as they were
abbrev pub FindsFirstAt : Moment → List Moment → Type 0
FindsFirstAt k later =
    (S T : Point) (cs : List Point) (n : ℕ) → k.step ≡ find S T → k.answer ≡ laid cs n
    → IsFirst (free k.ledger_before) S (at T) cs × (n ≡ bends cs) × (corners_in k.output (length cs) ≡ cs)
    × (k.after ≡ k.before)

abbrev pub FindsFirst : Type 0
FindsFirst = AtEvery FindsFirstAt

-- the numbers are those of the corners of a path from some point to another, or to itself
abbrev pub DrawsPath : (ℕ → ℕ → Bool) → List ℕ → Type 0
DrawsPath f ks = (S T : Point) × (cs : List Point) × (each point_numbers cs ≡ ks) × (is_path f S T cs ≡ true)

-- a booking of a net that is allowed and not in use, the table and the strip list long enough, answers 19 exactly when
-- the numbers that it is lent, all of them, draw no path over the points that are free by the ledger
abbrev pub BooksWaysAt : Moment → List Moment → Type 0
BooksWaysAt k later =
    (net : ℕ) (ks : List ℕ) → k.step ≡ book net ks → short k.room ≡ false → net_ok net ≡ true
    → in_use net k.ledger_before.entries ≡ false
    → (k.answer ≡ refused 19) ↔ (DrawsPath (free k.ledger_before) ks → ⊥)

abbrev pub BooksWays : Type 0
BooksWays = AtEvery BooksWaysAt

-- a lay that is accepted is the two: find answers the same and leaves the foil as it is, and book of the corners found,
-- lent as they stand at the front of the output list, leaves the foil as the lay does and answers how many corners and
-- bends there are
abbrev pub LaysAsBooked : Type 0
LaysAsBooked =
    (r r' : Room) (m : Lent) (out : List ℕ) (net : ℕ) (S T : Point) (cs : List Point) (n : ℕ)
    → (step_on r (lay net S T) m).answer ≡ laid cs n → short r' ≡ false → r'.limit ≡ r.limit
    → (step_on r (find S T) m ≡ record { answer = laid cs n; state = m })
    × (step_on r' (book net (take (length cs * 2) (output_after (laid cs n) out))) m
    ≡ record { answer = booked (length cs) n; state = (step_on r (lay net S T) m).state })
