-- Joins, as it is stated (document 02, P14): what a join promises in a list of calls, and what a lift after it does.
use Rattle.std.specs.Prelude.{ℕ, ◌+◌, ◌≡◌, true, false, ◌↔◌, List, ◌∷◌, ◌++◌, length}
use Rattle.foil_spec.specs.Foil.{Point, Layout, net_ok}
use Rattle.foil_spec.specs.Paths.{is_path_to, bends, path_length}
use Rattle.foil_spec.specs.Corners.{corners_in}
use Rattle.foil_spec.specs.Nets.{in_use, net_length, net_bends}
use Rattle.foil_spec.specs.Ledger.{without, free_for, on_legs, legs, short, is_too_fine}
use Rattle.foil_spec.specs.Ledger.{lift, join, refused, accepted, laid}
use Rattle.path_laws.specs.First.{IsFirst}
use Rattle.ledger_laws.specs.Moments.{Moment, AtEvery}
use Rattle.ledger_laws.specs.Apart.{KeepsApart}

-- by the layout l the net is allowed and in use, and S is free for it
pub record MayJoin (l : Layout) (net : ℕ) (S : Point) : Type 0 where
  pub allowed : net_ok net ≡ true
  pub used : in_use net l.entries ≡ true
  pub start-free : free_for net l S.x S.y ≡ true

-- a join of a net that is allowed and in use, from a point that is free for it by the ledger as it stands before the
-- join, the table and the strip list long enough, answers 9 exactly when no path over points that are free for the net
-- leads from the point to one of the net's legs
abbrev pub NoJoinAt : Moment → List Moment → Type 0
NoJoinAt k later =
    (net : ℕ) (S : Point) → k.step ≡ join net S → short k.room ≡ false → MayJoin k.ledger_before net S
    → (k.answer ≡ refused 9)
    ↔ ((cs : List Point) → is_path_to (free_for net k.ledger_before) S (on_legs net k.ledger_before) cs ≡ true → ⊥)

abbrev pub NoJoin : Type 0
NoJoin = AtEvery NoJoinAt

-- a join that is accepted is the first path of fewest bends to the net's legs over the points that are free for the net
-- before the join, with the bends that are answered, and its corners stand at the front of the output list
abbrev pub JoinsFirstAt : Moment → List Moment → Type 0
JoinsFirstAt k later =
    (net : ℕ) (S : Point) (cs : List Point) (n : ℕ) → k.step ≡ join net S → k.answer ≡ laid cs n
    → IsFirst (free_for net k.ledger_before) S (on_legs net k.ledger_before) cs × (n ≡ bends cs)
    × (corners_in k.output (length cs) ≡ cs)

abbrev pub JoinsFirst : Type 0
JoinsFirst = AtEvery JoinsFirstAt

-- its legs are appended under the same net, and keep apart from all entries of other nets and from the edge
abbrev pub JoinsApartAt : Moment → List Moment → Type 0
JoinsApartAt k later =
    (net : ℕ) (S : Point) (cs : List Point) (n : ℕ) → k.step ≡ join net S → k.answer ≡ laid cs n
    → (k.ledger_after.entries ≡ k.ledger_before.entries ++ legs net cs)
    × KeepsApart (without net k.ledger_before) (legs net cs)

abbrev pub JoinsApart : Type 0
JoinsApart = AtEvery JoinsApartAt

-- the net has the join's bends and one more of them than before, and is longer by the join
abbrev pub JoinBendsAt : Moment → List Moment → Type 0
JoinBendsAt k later =
    (net : ℕ) (S : Point) (cs : List Point) (n : ℕ) → k.step ≡ join net S → k.answer ≡ laid cs n
    → (net_bends net k.ledger_after ≡ net_bends net k.ledger_before + n + 1)
    × (net_length net k.ledger_after ≡ net_length net k.ledger_before + path_length cs)

abbrev pub JoinBends : Type 0
JoinBends = AtEvery JoinBendsAt

-- lifting the net as the next step, lent lists that are long enough, takes it whole: the foil is then the one before
-- the join without the net; where that would have too many strips, the lift answers 11
pub record TakesWhole (net : ℕ) (l : Layout) (next : Moment) : Type 0 where
  pub lifts : is_too_fine (without net l) ≡ false → (next.answer ≡ accepted) × (next.ledger_after ≡ without net l)
  pub too_fine : is_too_fine (without net l) ≡ true → next.answer ≡ refused 11

abbrev pub LiftsWholeAt : Moment → List Moment → Type 0
LiftsWholeAt k later =
    (net : ℕ) (S : Point) (cs : List Point) (n : ℕ) → k.step ≡ join net S → k.answer ≡ laid cs n
    → (next : Moment) (rest : List Moment) → later ≡ next ∷ rest → next.step ≡ lift net → short next.room ≡ false
    → TakesWhole net k.ledger_before next

abbrev pub LiftsWhole : Type 0
LiftsWhole = AtEvery LiftsWholeAt
