-- Demand 2, as it is stated: after every step the strip list has the strips of the free points.
use Rattle.std.specs.Prelude.{ℕ, ◌+◌, ◌-◌, ◌*◌, ◌≤◌, ◌<◌, ◌≡◌, true, cond, ◌&&◌, [], ◌∷◌, ltb, length, get_or}
use Rattle.foil_spec.specs.Lists.{keep}
use Rattle.foil_spec.specs.Limits.{max_strips, strips_size}
use Rattle.foil_spec.specs.Foil.{Point, Pen, Layout, free}
use Rattle.foil_spec.specs.Strips.{Strip, holds}
use Rattle.foil_spec.specs.Ledger.{strips_of}
use Rattle.foil_spec.specs.Lent.{Lent, listed_strip, listed_strips}
use Rattle.strip_laws.specs.Rules.{IsStrip, strip_before}
use Rattle.ledger_laws.specs.Moments.{AtEvery}

-- the strip list of n, and its count in the record, are right for the layout l
pub record StripsRight (l : Layout) (n : Lent) : Type 0 where
  -- the list has its places, and the record counts no more strips than these
  pub long : strips_size ≤ length n.strips
  pub few : n.board.strips ≤ max_strips
  -- at each place that is counted stands a strip, as wide and then as tall as the rule makes it
  pub are-strips : (k : ℕ) → k < n.board.strips
      → IsStrip (free l) l.width l.height (listed_strip n.strips k)
  -- in their order
  pub in_order : (j k : ℕ) → j < k → k < n.board.strips
      → strip_before (listed_strip n.strips j) (listed_strip n.strips k) ≡ true
  -- a free point is in just one of them, any other point in none
  pub each-in-one : (p : Point)
      → length (keep (holds p) (listed_strips n.strips n.board.strips)) ≡ cond (free l p.x p.y) 1 0
  -- zeros after them
  pub zeros : (i : ℕ) → n.board.strips * 4 ≤ i → i < strips_size → get_or n.strips i 0 ≡ 0

-- after every step that a list of calls runs, accepted or not, they are right for the ledger's layout
abbrev pub StripsStayRight : Type 0
StripsStayRight = AtEvery (λ k later. StripsRight k.ledger_after k.after)

-- how far away the edge of a foil blocks by its pen
abbrev pub rim : Pen → ℕ
rim p = p.half + p.gap

-- a foil without entries
abbrev pub bare : ℕ → ℕ → Pen → Layout
bare W H p = record { width = W; height = H; pen = p; entries = [] }

-- what its edge leaves of it
abbrev pub inner : ℕ → ℕ → Pen → Strip
inner W H p = record { x0 = rim p; y0 = rim p; x1 = W - rim p; y1 = H - rim p }

-- its strips: that as the only one, or none where nothing is left
abbrev pub BareStrips : ℕ → ℕ → Pen → Type 0
BareStrips W H p =
    strips_of (bare W H p) ≡ cond (ltb (rim p + rim p) W && ltb (rim p + rim p) H) (inner W H p ∷ []) []
