-- What the plotter's engineer asks of a new track (document 02, P5 and P6): how far it keeps from all on the foil and
-- from its edge, which is what is free.
use Rattle.std.specs.Prelude.{ℕ, ◌+◌, ◌*◌, ◌≤◌, ◌<◌, ◌≡◌, true, List, ◌++◌, ◌⊎◌, ◌↔◌}
use Rattle.foil_spec.specs.Lists.{all}
use Rattle.foil_spec.specs.Foil.{Point, Entry, Layout, entry_ok, free}
use Rattle.foil_spec.specs.Paths.{gap}
use Rattle.foil_spec.specs.Corners.{drawn}
use Rattle.foil_spec.specs.Ledger.{legs, lay, book, laid, booked}
use Rattle.list_laws.specs.Members.{In}
use Rattle.ledger_laws.specs.Moments.{Moment, AtEvery}

-- the entry has the point: x0 ≤ x < x1 and y0 ≤ y < y1
pub record Has (e : Entry) (p : Point) : Type 0 where
  pub from-x : e.x0 ≤ p.x
  pub to-x : p.x < e.x1
  pub from-y : e.y0 ≤ p.y
  pub to-y : p.y < e.y1

-- the points are more than d apart, in x or in y
abbrev pub Apart : ℕ → Point → Point → Type 0
Apart d p q = (d < gap p.x q.x) ⊎ (d < gap p.y q.y)

-- m points or more lie between the point and each edge of a foil of W by H
pub record OffEdge (m W H : ℕ) (p : Point) : Type 0 where
  pub left : m ≤ p.x
  pub right : p.x + m < W
  pub above : m ≤ p.y
  pub below : p.y + m < H

-- with a pen of half width h and gap g, the point is more than 2h + g away from each point of a leg of the layout, and
-- more than h + g from each point of a patch; h + g points or more lie between it and each edge
pub record KeepsOff (l : Layout) (p : Point) : Type 0 where
  pub from-legs : (e : Entry) → In e l.entries → 0 < e.net
      → (q : Point) → Has e q → Apart (2 * l.pen.half + l.pen.gap) p q
  pub from-patches : (e : Entry) → In e l.entries → e.net ≡ 0
      → (q : Point) → Has e q → Apart (l.pen.half + l.pen.gap) p q
  pub from-edge : OffEdge (l.pen.half + l.pen.gap) l.width l.height p

-- whatever the pen, where the entries are such as a table may hold, a point is free exactly if it keeps off so; then it
-- is on the foil
abbrev pub FreeExactly : Type 0
FreeExactly =
    (l : Layout) (p : Point) → all (entry_ok l.width l.height) l.entries ≡ true
    → (free l p.x p.y ≡ true) ↔ KeepsOff l p

-- each point of the track, whose legs are given, keeps off so
abbrev pub KeepsApart : Layout → List Entry → Type 0
KeepsApart l track = (part : Entry) → In part track → (p : Point) → Has part p → KeepsOff l p

-- the step is a lay or a booking of the net that is accepted, over these corners
abbrev pub Tracks : Moment → ℕ → List Point → Type 0
Tracks k net cs =
    ((S T : Point) × (n : ℕ) × (k.step ≡ lay net S T) × (k.answer ≡ laid cs n))
    ⊎ ((ks : List ℕ) × (i n : ℕ) × (k.step ≡ book net ks) × (drawn ks ≡ cs) × (k.answer ≡ booked i n))

-- a track that is laid or booked keeps apart from all that was in the table before it and from the edge; its legs are
-- appended there
abbrev pub TracksApartAt : Moment → List Moment → Type 0
TracksApartAt k later =
    (net : ℕ) (cs : List Point) → Tracks k net cs
    → (k.ledger_after.entries ≡ k.ledger_before.entries ++ legs net cs) × KeepsApart k.ledger_before (legs net cs)

abbrev pub TracksApart : Type 0
TracksApart = AtEvery TracksApartAt
