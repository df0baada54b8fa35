-- From row to row: up to which row each strip is known, at the start, between two rows and at the end.
use Prim.Native.Nat.{ℕ, suc, ◌+◌, ◌*◌, ◌≤◌, ◌<◌}
use native.Mathlib.Omega.{arith}
use mathlib.Core.Path.{◌≡◌, refl, sym, ap, ◌∙◌, subst}
use mathlib.Core.Bool.{Bool}
use mathlib.Core.List.{List, [], ◌∷◌, ◌++◌, append-nil}
use borrow.Author.Tests.{lt-ltb, le-ltb}
use lib.ListN.{length, drop, length-append}
use lib.Seq.{ext_get_or}
use Rattle.std.specs.Prelude.{Some}
use Rattle.foil_spec.specs.Lists.{each}
use Rattle.foil_spec.specs.Limits.{max_strips}
use Rattle.foil_spec.specs.Lent.{strip_numbers}
use Rattle.foil_spec.specs.Strips.{Strip, strips_from, strips}
use Rattle.strip_laws.proofs.Strips.{strips-end}
use Rattle.strips.specs.Built.{Listed}
use Rattle.strips.specs.Joining.{bound, no_strip, at, Placed, Joined, RowJoined}

module _ (v z x a : ℕ) where
  pub bound-in : a < x → bound v z x a ≡ z
  unfolding bound
  bound-in l = rw (lt-ltb a x l, bound)

  pub bound-out : x ≤ a → bound v z x a ≡ v
  unfolding bound
  bound-out l = rw (le-ltb a x l, bound)

-- bounds that say the same
module _
    (f : ℕ → ℕ → Bool) (w h : ℕ) (o out last : List ℕ) (count v z x v' z' x' : ℕ)
    (eq : (a : ℕ) → a < w → bound v z x a ≡ bound v' z' x' a) where
  placed-turn : (s t : Strip) (k : ℕ) → Placed f w h v z x last s t k → Placed f w h v' z' x' last s t k
  placed-turn s t k p =
      let q : bound v z x s.x0 ≡ bound v' z' x' s.x0 = eq s.x0 (omega (arith, p.lt, p.le)) in
      record {
        lt = p.lt;
        le = p.le;
        rows = p.rows;
        early = omega (arith, p.early);
        same-x0 = p.same-x0;
        same-y0 = p.same-y0;
        same-x1 = p.same-x1;
        known-y1 = rw q at p.known-y1;
        latest = λ m. p.latest (omega arith);
      }

  pub joined-turn : (rest rest' : List Strip) → rest ≡ rest' → Joined f w h o out last count v z x rest
      → Joined f w h o out last count v' z' x' rest'
  joined-turn rest rest' e j =
      record {
        small = j.small;
        same = j.same;
        wide = j.wide;
        done = j.done;
        cur = j.cur;
        split = j.split ∙ ap (λ (r : List Strip). j.done ++ r) e;
        counted = j.counted;
        len = j.len;
        held = j.held;
        placed = λ k l. placed-turn (at j.done k) (at j.cur k) k (j.placed k l);
        opens = λ a b l m r. rw (eq a l) at (j.opens a b l (omega (arith, eq a l)) (rw (eq a l) r));
      }

-- the start, with nothing written
pub joined-start : (f : ℕ → ℕ → Bool) (w h : ℕ) (o last : List ℕ) → w ≤ length last
    → Joined f w h o o last 0 0 0 0 (strips f w h)
joined-start f w h o last l =
    record {
      small = omega arith;
      same = refl;
      wide = l;
      done = [];
      cur = [];
      split = refl;
      counted = refl;
      len = refl;
      held = refl;
      placed = λ k m. absurd (omega arith);
      opens = λ a b m g r. absurd (omega (arith, bound-out 0 0 0 a (omega arith)));
    }

-- the end: all rows are known
module _
    (f : ℕ → ℕ → Bool) (w h : ℕ) (o out last : List ℕ) (count : ℕ)
    (j : Joined f w h o out last count h h 0 []) where
  settled : (k : ℕ) → k < count → at j.cur k ≡ at j.done k
  settled k l =
      let p : Placed f w h h h 0 last (at j.done k) (at j.cur k) k = j.placed k l in
      let q : (at j.cur k).y1 ≡ (at j.done k).y1 =
      omega (arith, p.known-y1, bound-out h h 0 (at j.done k).x0 (omega arith), p.rows.le) in
      λ i. record { x0 = p.same-x0 i; y0 = p.same-y0 i; x1 = p.same-x1 i; y1 = q i }

  joined-done : Listed o out (Some count) (strips f w h)
  joined-done =
      let e : j.cur ≡ j.done =
      ext_get_or no_strip j.cur j.done (j.len ∙ sym j.counted) (λ k l. settled k (omega (arith, j.len))) in
      let q : strips f w h ≡ j.done = j.split ∙ append-nil j.done in (
        omega (arith, ap length q, j.counted),
        j.small,
        j.held ∙ ap (λ (s : List Strip). each strip_numbers s ++ drop (count * 4) o) (e ∙ sym q),
      )

-- one strip more than there is room for
pub joined-full : (f : ℕ → ℕ → Bool) (w h : ℕ) (o out last : List ℕ) (count v z x : ℕ) (rest more : List Strip)
    (s : Strip) → rest ≡ s ∷ more → count ≡ max_strips → Joined f w h o out last count v z x rest
    → max_strips < length (strips f w h)
joined-full f w h o out last count v z x rest more s e q j =
    let n : length (strips f w h) ≡ length j.done + suc (length more) =
    ap length (j.split ∙ ap (λ (r : List Strip). j.done ++ r) e) ∙ length-append j.done (s ∷ more) in
    omega (arith, n, j.counted)

-- from row to row
module _ (f : ℕ → ℕ → Bool) (w h : ℕ) (o out last : List ℕ) (count y z : ℕ) where
  pub joined-toward : Joined f w h o out last count y y 0 (strips_from f w h y)
      → Joined f w h o out last count y z 0 (strips_from f w h y)
  joined-toward j =
      joined-turn f w h o out last count y y 0 y z 0
      (λ a l. bound-out y y 0 a (omega arith) ∙ sym (bound-out y z 0 a (omega arith)))
      (strips_from f w h y) (strips_from f w h y) refl j

  pub joined-next : RowJoined f w h o out last (Some count) y z
      → Joined f w h o out last count z z 0 (strips_from f w h z)
  joined-next r =
      joined-turn f w h o out last count y z w z z 0
      (λ a m. bound-in y z w a m ∙ sym (bound-out z z 0 a (omega arith)))
      (strips_from f w h z) (strips_from f w h z) refl r

pub joined_end : (f : ℕ → ℕ → Bool) (w h : ℕ) (o out last : List ℕ) (count y : ℕ) → h ≤ y → y ≤ h
    → Joined f w h o out last count y y 0 (strips_from f w h y) → Listed o out (Some count) (strips f w h)
joined_end f w h o out last count y a b j =
    let q : y ≡ h = omega arith in
    joined-done f w h o out last count
    (joined-turn f w h o out last count h h 0 h h 0 (λ a l. refl) (strips_from f w h h) []
    (strips-end f w h h (omega arith))
    (subst (λ (u : ℕ). Joined f w h o out last count u u 0 (strips_from f w h u)) q j))
