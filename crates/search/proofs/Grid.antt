-- The lists that a grid has room in; the grid is faithful to the foil, the start is on it, and what is sown are the
-- targets.
use Prim.Native.Nat.{ℕ, ◌+◌, ◌*◌, ◌≤◌, ◌<◌}
use native.Mathlib.Omega.{arith}
use mathlib.Core.Path.{◌≡◌, refl, sym, ap, ◌∙◌}
use mathlib.Core.Bool.{Bool, true, false, not, ◌&&◌}
use mathlib.Core.List.{List, [], ◌∷◌, map}
use lib.Dec.{ltb}
use lib.ListN.{get_or, length}
use borrow.Author.Tests.{lt-ltb}
use Rattle.foil_spec.specs.Lists.{range, any, all}
use Rattle.foil_spec.specs.Foil.{point, Entry}
use Rattle.foil_spec.specs.Lent.{entry_at}
use Rattle.list_laws.proofs.Tests.{both, and_r}
use Rattle.zones.specs.Boxes.{covers, box_free}
use Rattle.zones.proofs.Free.{not_covered}
use Rattle.course_laws.specs.Course.{flip, TargetFree}
use Rattle.course_laws.specs.Best.{On}
use Rattle.grid.specs.Axis.{Axis}
use Rattle.grid.specs.Targets.{in_boxes, target}
use Rattle.grid.proofs.Board.{grid-marks, grid-steady, grid-links}
use Rattle.labels.specs.Rounds.{Sized}
use Rattle.labels.proofs.Faithful.{Faithful, faithful}
use Rattle.labels.proofs.Meaning.{Both}
use Rattle.sowing.specs.Seeds.{boxed, Sown, clear_at, aimed_at}
use Rattle.sowing.proofs.Seeds.{sown-same, sown-labels}
use Rattle.search.specs.Grid.{free_of, target_of, Aimed, GridRoom, Has, Grid}
use Rattle.search.specs.Choice.{Crossing}
use Rattle.search.specs.Search.{LabelRoom}
use Rattle.search.specs.declared.Aim.{Aim}

-- an axis has few lines
pub axis-few : {z : List ℕ} {n : ℕ} {t : List ℕ} {k : ℕ} {upright : Bool} {size p : ℕ} {lines : List ℕ} {m : ℕ}
    → Axis z n t k upright size p lines m → m ≤ 2 * (n + k) + 3
axis-few A = omega (arith, A.marked.few, A.collected.count)

-- a point of the foil is free just if no box has it
aimed-is : (b : Bool) (es : List Entry) (w h x y : ℕ) → x < w → y < h
    → (b && not (any (λ (e : Entry). covers e x y) es))
    ≡ (b && (ltb x w && ltb y h && all (λ (e : Entry). not (covers e x y)) es))
aimed-is b es w h x y lx ly =
    ap (λ (t : Bool). b && t)
    (none-all es ∙ sym (rw (lt-ltb x w lx, lt-ltb y h ly) refl))
  where
    none-all : (es : List Entry)
        → not (any (λ (e : Entry). covers e x y) es) ≡ all (λ (e : Entry). not (covers e x y)) es
    none-all [] = refl
    none-all (e ∷ es) =
        both (covers e x y) (λ t. rw t refl) (λ t. rw t (none-all es))

-- lists that are as long have the same room
pub same-sizes : {kl ku cols rows : List ℕ} {nc nr : ℕ} {l u wl wu l' u' wl' wu' : List ℕ}
    → Sized l u wl wu kl ku cols rows nc nr → length l' ≡ length l → length u' ≡ length u → length wl' ≡ length wl
    → length wu' ≡ length wu → Sized l' u' wl' wu' kl ku cols rows nc nr
same-sizes Z a b c d =
    record {
      column-lines = Z.column-lines;
      row-lines = Z.row-lines;
      level = omega (arith, Z.level);
      upright = omega (arith, Z.upright);
      level-inks = omega (arith, Z.level-inks);
      upright-inks = omega (arith, Z.upright-inks);
      level-links = Z.level-links;
      upright-links = Z.upright-links;
    }

-- and so has a crossing
pub crossing : {l u wl wu kl ku cols rows : List ℕ} {nc nr i j : ℕ} → Sized l u wl wu kl ku cols rows nc nr → i < nc
    → j < nr → Crossing l u wl wu ku rows nr i j
crossing Z li lj =
    record {
      lines = Z.row-lines;
      i-in = omega (arith, Z.column-lines.few);
      j-in = lj;
      level = Z.level;
      upright = omega (arith, Z.upright);
      level-inks = Z.level-inks;
      upright-inks = omega (arith, Z.upright-inks);
      upright-links = omega (arith, Z.upright-links);
    }

-- every target is free
pub target_free : (z t : List ℕ) (a : Aim) → TargetFree (free_of z a) (On (target_of z t a))
unfolding target
target_free z t a x y e = and_r (in_boxes a.k t x y) (free_of z a x y) e

module _ {z t : List ℕ} {a : Aim} where
  -- the start is on the foil
  pub aimed_on : Aimed z t a → (a.from.x < a.w) × (a.from.y < a.h)
  aimed_on P = let s = not_covered a.w a.h a.n z a.from.x a.from.y P.s-free in (s.0, s.1)

  module _ {cols rows kl ku : List ℕ} {nc nr : ℕ} (G : Grid z t a cols rows kl ku nc nr) where
    -- and on lines of the grid
    pub start-on : Aimed z t a → Has cols nc a.from.x × Has rows nr a.from.y
    start-on P =
        let on = aimed_on P in (
          G.column-axis.collected.whole a.from.x on.0 G.column-axis.marked.p-on,
          G.row-axis.collected.whole a.from.y on.1 G.row-axis.marked.p-on,
        )

    -- lists for the lines that there may be have room for those of the grid
    pub sizes : {cols₀ rows₀ kl₀ ku₀ l u wl wu : List ℕ} → GridRoom a cols₀ rows₀ kl₀ ku₀ → LabelRoom a l u wl wu
        → length kl ≡ length kl₀ → length ku ≡ length ku₀ → Sized l u wl wu kl ku cols rows nc nr
    sizes R M d e =
        let columns = axis-few G.column-axis in
        let rows = axis-few G.row-axis in
        record {
          column-lines = G.column-axis.fits;
          row-lines = G.row-axis.fits;
          level = omega (arith, M.level);
          upright = omega (arith, M.upright);
          level-inks = omega (arith, M.level-inks);
          upright-inks = omega (arith, M.upright-inks);
          level-links = omega (arith, R.level-links);
          upright-links = omega (arith, R.upright-links);
        }

    pub level-faithful : Faithful (free_of z a) (On (target_of z t a)) cols nc rows nr kl
    level-faithful =
        faithful
        (grid-marks a.w a.h a.n z a.k t false a.from.x G.column-axis.marks G.column-axis.marked)
        (grid-steady a.w a.h a.n z a.k t false a.from.x G.column-axis.marks G.column-axis.marked)
        G.column-axis.collected
        (grid-links a.w a.h false G.row-axis.collected G.column-axis.collected G.level)

    pub upright-faithful : Faithful (flip (free_of z a)) (flip (On (target_of z t a))) rows nr cols nc ku
    upright-faithful =
        faithful
        (grid-marks a.w a.h a.n z a.k t true a.from.y G.row-axis.marks G.row-axis.marked)
        (grid-steady a.w a.h a.n z a.k t true a.from.y G.row-axis.marks G.row-axis.marked)
        G.row-axis.collected
        (grid-links a.w a.h true G.column-axis.collected G.row-axis.collected G.upright)

    -- the crossings that are aimed at are the targets
    pub level-aimed : (j : ℕ) → j < nr → (i : ℕ) → i < nc
        → aimed_at a.n z a.k t false rows cols j i ≡ target_of z t a (point (get_or cols i 0) (get_or rows j 0))
    unfolding aimed_at clear_at boxed target in_boxes box_free
    level-aimed j lj i li =
        aimed-is (any (λ (e : Entry). covers e (get_or cols i 0) (get_or rows j 0)) (map (entry_at t) (range 0 a.k)))
        (map (entry_at z) (range 0 a.n)) a.w a.h (get_or cols i 0) (get_or rows j 0)
        (G.column-axis.collected.below i li) (G.row-axis.collected.below j lj)

    pub upright-aimed : (i : ℕ) → i < nc → (j : ℕ) → j < nr
        → aimed_at a.n z a.k t true cols rows i j ≡ target_of z t a (point (get_or cols i 0) (get_or rows j 0))
    unfolding aimed_at clear_at boxed target in_boxes box_free
    upright-aimed i li j lj =
        aimed-is (any (λ (e : Entry). covers e (get_or cols i 0) (get_or rows j 0)) (map (entry_at t) (range 0 a.k)))
        (map (entry_at z) (range 0 a.n)) a.w a.h (get_or cols i 0) (get_or rows j 0)
        (G.column-axis.collected.below i li) (G.row-axis.collected.below j lj)

    -- what is sown are the targets, and so the labels before the first round are right
    pub level-targets : {l w : List ℕ} → Sown (aimed_at a.n z a.k t false rows cols) nr nc l w
        → Sown (λ j i. target_of z t a (point (get_or cols i 0) (get_or rows j 0))) nr nc l w
    level-targets B = sown-same (λ j lj i li. sym (level-aimed j lj i li)) B

    pub upright-targets : {u w : List ℕ} → Sown (aimed_at a.n z a.k t true cols rows) nc nr u w
        → Sown (λ i j. target_of z t a (point (get_or cols i 0) (get_or rows j 0))) nc nr u w
    upright-targets B = sown-same (λ i li j lj. sym (upright-aimed i li j lj)) B

    pub seeds : {l u wl wu : List ℕ} → Sown (aimed_at a.n z a.k t false rows cols) nr nc l wl
        → Sown (aimed_at a.n z a.k t true cols rows) nc nr u wu
        → Both (free_of z a) (On (target_of z t a)) cols nc rows nr 0 l u
    seeds L U = (
      sown-labels (λ j lj i li e. e) (λ j lj i li e. e) (level-targets L),
      sown-labels (λ i li j lj e. e) (λ i li j lj e. e) (upright-targets U),
    )
