-- What is asked of patches and tracks (document 02, P8): no patch over a leg, and 21 just where there would be one.
use Rattle.std.specs.Prelude.{ℕ, ◌+◌, ◌<◌, ◌≡◌, true, false, List, ◌↔◌}
use Rattle.foil_spec.specs.Foil.{Point, Entry, entry, Pen, net_ok, box_ok, entry_ok, blocks}
use Rattle.foil_spec.specs.Ledger.{draw, put_leg, refused, short}
use Rattle.list_laws.specs.Members.{In}
use Rattle.ledger_laws.specs.Moments.{Moment, AtEvery}
use Rattle.ledger_laws.specs.Apart.{Has}

-- p is a patch, which blocks up to h + g away, and blocks a point of e, a leg
pub record Crosses (w : Pen) (p e : Entry) : Type 0 where
  pub patch : p.net ≡ 0
  pub leg : 0 < e.net
  pub at : Point
  pub on-leg : Has e at
  pub blocked : blocks (w.half + w.gap) p at.x at.y ≡ true

-- after every step that a list of calls runs no patch of the ledger's row blocks a point of a leg of it
abbrev pub NoneCrossedAt : Moment → List Moment → Type 0
NoneCrossedAt k later =
    (p e : Entry) → In p k.ledger_after.entries → In e k.ledger_after.entries
    → Crosses k.ledger_after.pen p e → ⊥

abbrev pub NoneCrossed : Type 0
NoneCrossed = AtEvery NoneCrossedAt

-- a patch whose box the foil may have, where the table and the strip list are long enough, is turned down by 21 exactly
-- when it would block a point of a leg that is there
abbrev pub TurnsPatchDownAt : Moment → List Moment → Type 0
TurnsPatchDownAt k later =
    (x0 y0 x1 y1 : ℕ) → k.step ≡ draw x0 y0 x1 y1 → short k.room ≡ false
    → box_ok k.ledger_before.width k.ledger_before.height (entry 0 x0 y0 x1 y1) ≡ true
    → (k.answer ≡ refused 21)
    ↔ ((e : Entry) × In e k.ledger_before.entries × Crosses k.ledger_before.pen (entry 0 x0 y0 x1 y1) e)

abbrev pub TurnsPatchDown : Type 0
TurnsPatchDown = AtEvery TurnsPatchDownAt

-- so is a leg as booked, whose net is allowed and whose box the foil may have, exactly when a patch that is there
-- blocks one of its points
abbrev pub TurnsLegDownAt : Moment → List Moment → Type 0
TurnsLegDownAt k later =
    (e : Entry) → k.step ≡ put_leg e → short k.room ≡ false → net_ok e.net ≡ true
    → entry_ok k.ledger_before.width k.ledger_before.height e ≡ true
    → (k.answer ≡ refused 21)
    ↔ ((p : Entry) × In p k.ledger_before.entries × Crosses k.ledger_before.pen p e)

abbrev pub TurnsLegDown : Type 0
TurnsLegDown = AtEvery TurnsLegDownAt
