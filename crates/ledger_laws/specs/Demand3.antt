-- Demand 3, as it is stated: a whole list of calls behaves as the ledger, and what lay and lift promise in it.
use Rattle.std.specs.Prelude.{ℕ, ◌≡◌, true, false, ◌↔◌, List, ◌∷◌, length}
use Rattle.foil_spec.specs.Foil.{Point, Layout, net_ok, free}
use Rattle.foil_spec.specs.Paths.{at, is_path, bends}
use Rattle.foil_spec.specs.Corners.{corners_in}
use Rattle.foil_spec.specs.Nets.{in_use}
use Rattle.foil_spec.specs.Ledger.{lay, lift, refused, accepted, laid, short}
use Rattle.foil_spec.specs.Lent.{Lent}
use Rattle.foil_spec.specs.Sequence.{Lending, Begins, run_lent, told, run_ledger}
use Rattle.path_laws.specs.First.{IsFirst}
use Rattle.ledger_laws.specs.Moments.{Moment, AtEvery}
use Rattle.ledger_laws.specs.Apart.{Tracks}

-- m is what the lists hold at first and l what the ledger held before, both anything. From a call that begins a foil
-- on, all replies, the record, the table, the strips and the output lists are the ledger's.
abbrev pub BehavesAsLedger : Type 0
BehavesAsLedger =
    (m : Lent) (l : Layout) (c : Lending) (cs : List Lending) → Begins c.call (told m c l).answer
    → run_lent m (c ∷ cs) ≡ run_ledger m l (c ∷ cs)

-- by the layout l the net is allowed and not in use, and S and T are free
pub record MayLay (l : Layout) (net : ℕ) (S T : Point) : Type 0 where
  pub allowed : net_ok net ≡ true
  pub unused : in_use net l.entries ≡ false
  pub start-free : free l S.x S.y ≡ true
  pub end-free : free l T.x T.y ≡ true

-- a lay between points that are free by the ledger as it stands before the lay, its net allowed and not in use, the
-- table and the strip list long enough, answers 9 exactly when no path joins the points
abbrev pub NoWayAt : Moment → List Moment → Type 0
NoWayAt k later =
    (net : ℕ) (S T : Point) → k.step ≡ lay net S T → short k.room ≡ false → MayLay k.ledger_before net S T
    → (k.answer ≡ refused 9) ↔ ((cs : List Point) → is_path (free k.ledger_before) S T cs ≡ true → ⊥)

abbrev pub NoWay : Type 0
NoWay = AtEvery NoWayAt

-- a track that is laid is the first path of fewest bends over the points that are free before the lay, with the bends
-- that are answered, and its corners stand at the front of the output list
abbrev pub LaysFirstAt : Moment → List Moment → Type 0
LaysFirstAt k later =
    (net : ℕ) (S T : Point) (cs : List Point) (n : ℕ) → k.step ≡ lay net S T → k.answer ≡ laid cs n
    → IsFirst (free k.ledger_before) S (at T) cs × (n ≡ bends cs) × (corners_in k.output (length cs) ≡ cs)

abbrev pub LaysFirst : Type 0
LaysFirst = AtEvery LaysFirstAt

-- a track that is laid or booked: lifting it as the next step, in the same record or by another call, lent any front
-- parts that are long enough and any output list, is accepted and gives back the record, the table and the strips
abbrev pub LiftsBackAt : Moment → List Moment → Type 0
LiftsBackAt k later =
    (net : ℕ) (cs : List Point) → Tracks k net cs
    → (next : Moment) (rest : List Moment) → later ≡ next ∷ rest → next.step ≡ lift net → short next.room ≡ false
    → (next.answer ≡ accepted) × (next.after ≡ k.before)

abbrev pub LiftsBack : Type 0
LiftsBack = AtEvery LiftsBackAt
