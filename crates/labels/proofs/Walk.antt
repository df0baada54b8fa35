-- Laws of the walk, step by step.
use Prim.Native.Nat.{ℕ, ◌+◌, ◌-◌, ◌≤◌, ◌<◌}
use native.Mathlib.Omega.{arith}
use native.Mathlib.Decide.{dec_lt}
use mathlib.Core.Path.{◌≡◌, refl, sym, ap, subst, ◌∙◌}
use mathlib.Core.Logic.{◌≢◌}
use mathlib.Core.Bool.{Bool, true, false}
use mathlib.Core.List.{List, [], ◌∷◌}
use lib.ListN.{get_or, length}
use Rattle.list_laws.proofs.Tests.{clash}
use Rattle.runs.specs.Line.{along, across, Linked, is_stop, Stop}
use Rattle.labels.specs.Walk.{Grounded, Trail, Trails, done, step, label_at, with_corner, walk_out, Walkable}
use Rattle.labels.specs.Walk.{Standing, Walk, Part}
use Rattle.labels.specs.declared.Walker.{Walker}
use Rattle.runs.proofs.Line.{of-stop}

-- from a label above 1 there is a next crossing
pub grounded-next : {own other wown wother link cross : List ℕ} {m n : ℕ} (line k v q : ℕ) →
    Grounded own other wown wother link cross m n → line < m → k < n → 1 ≤ v → v ≢ 1 → along own line k ≡ v →
    Stop other wother link cross line n k (v - 1) (along wown line k) q → (q < n) × (across other line q ≡ v - 1)
grounded-next {other = other} {wown = wown} {wother = wother} {link = link} {cross = cross} {n = n} line k v q G ll lk p
    z e s =
    let w = G.next line ll k lk (v - 1) (omega arith) (omega arith) in
    let lq = below w.0 w.1 w.2 w.3 (dec_lt q n) in
    (lq, (of-stop _ _ _ _ _ _ _ _ (s.found lq).1).0)
  where
    below : (r : ℕ) → r < n → Linked link line k r →
        is_stop other wother cross line (get_or cross k 0) (v - 1) (along wown line k) r ≡ true → Dec (q < n) → q < n
    below r lr h f (yes y) = y
    below r lr h f (no y) = clash f (s.before r (omega arith) h)

trail-step : {own other wown wother link link' cross lines : List ℕ} {m n line k : ℕ} (v : ℕ) {q : ℕ} {qs : List ℕ} →
    1 ≤ v → Stop other wother link cross line n k (v - 1) (along wown line k) q → q < n →
    Trail other own wother wown link' link lines cross n m q line (v - 1) qs →
    Trail own other wown wother link link' cross lines m n line k v (q ∷ qs)
trail-step {own} {other} {wown} {wother} {link} {link'} {cross} {lines} {m} {n} {line} {k} v {q} {qs} p s l t =
    let e : v ≡ (v - 1) + 1 = omega arith in
    subst (λ (w : ℕ). Trail own other wown wother link link' cross lines m n line k w (q ∷ qs)) (sym e) (step s l t)

-- of a walk that stands somewhere: its label, the next crossing from a label above 1, and that it stands there
module _ {l u : List ℕ} {nc nr : ℕ} {w : Walker} {out : List ℕ} (s : Standing l u nc nr w out) where
  pub level-at : w.upright ≡ false → along l w.j w.i ≡ w.label
  unfolding label_at
  level-at e = subst (λ (up : Bool). label_at up l u w.i w.j ≡ w.label) e s.label

  pub upright-at : w.upright ≡ true → along u w.i w.j ≡ w.label
  unfolding label_at
  upright-at e = subst (λ (up : Bool). label_at up l u w.i w.j ≡ w.label) e s.label

  pub level-stands : {q : ℕ} {mid : List ℕ} → w.label ≢ 1 → q < nc → across u w.j q ≡ w.label - 1
      → length mid ≡ length out
      → Standing l u nc nr
      (record { i = q; j = w.j; upright = true; label = w.label - 1; corners = w.corners + 1 }) mid
  unfolding label_at
  level-stands z lq e n = record {
    i-in = lq;
    j-in = s.j-in;
    some = omega (arith, s.some);
    label = e;
    room = omega (arith, s.some, s.room);
  }

  pub upright-stands : {q : ℕ} {mid : List ℕ} → w.label ≢ 1 → q < nr → across l w.i q ≡ w.label - 1
      → length mid ≡ length out
      → Standing l u nc nr
      (record { i = w.i; j = q; upright = false; label = w.label - 1; corners = w.corners + 1 }) mid
  unfolding label_at
  upright-stands z lq e n = record {
    i-in = s.i-in;
    j-in = lq;
    some = omega (arith, s.some);
    label = e;
    room = omega (arith, s.some, s.room);
  }

module _ {l u wl wu kl ku cols rows : List ℕ} {nc nr : ℕ} {w : Walker} {out : List ℕ}
    (k : Walkable l u wl wu kl ku cols rows nc nr) (s : Standing l u nc nr w out) where
  pub level-next : {q : ℕ} → w.upright ≡ false → w.label ≢ 1
      → Stop u wu kl cols w.j nc w.i (w.label - 1) (along wl w.j w.i) q
      → (q < nc) × (across u w.j q ≡ w.label - 1)
  level-next e z t =
      grounded-next w.j w.i w.label _ k.level s.j-in s.i-in s.some z (level-at s e) t

  pub upright-next : {q : ℕ} → w.upright ≡ true → w.label ≢ 1
      → Stop l wl ku rows w.i nr w.j (w.label - 1) (along wu w.i w.j) q
      → (q < nr) × (across l w.i q ≡ w.label - 1)
  upright-next e z t =
      grounded-next w.i w.j w.label _ k.upright s.i-in s.j-in s.some z (upright-at s e) t

module _ {l u wl wu kl ku cols rows : List ℕ} {nc nr : ℕ} {w : Walker} {out : List ℕ} where
  -- the target is met
  walk-done : w.label ≡ 1 → Walk l u wl wu kl ku cols rows nc nr w out out
  unfolding Trails walk_out
  walk-done e = go w.upright refl
    where
      go : (up : Bool) → w.upright ≡ up → Walk l u wl wu kl ku cols rows nc nr w out out
      go false f = record { crossings = []; trail = rw (f, e) done; wrote = refl }
      go true f = record { crossings = []; trail = rw (f, e) done; wrote = refl }

  -- nothing is walked where the target is met or no leg is left

  -- one segment, and a part from its end
  pub part-level : {legs q : ℕ} {w' : Walker} {mid out' : List ℕ} → w.upright ≡ false → 1 ≤ w.label
      → Stop u wu kl cols w.j nc w.i (w.label - 1) (along wl w.j w.i) q → q < nc
      → mid ≡ with_corner out w.corners (get_or cols q 0) (get_or rows w.j 0)
      → Part l u wl wu kl ku cols rows nc nr (legs - 1)
      (record { i = q; j = w.j; upright = true; label = w.label - 1; corners = w.corners + 1 }) mid w' out'
      → Part l u wl wu kl ku cols rows nc nr legs w out w' out'
  unfolding Trails walk_out
  part-level {q = q} {mid = mid} f some s lq e p = record {
    standing = p.standing;
    falls = let d = p.falls in omega arith;
    nearer = λ m k. let d = p.falls in omega arith;
    rest = λ end k. more end (p.rest end k);
  }
    where
      more : (end : List ℕ)
          → Walk l u wl wu kl ku cols rows nc nr
          (record { i = q; j = w.j; upright = true; label = w.label - 1; corners = w.corners + 1 }) mid end
          → Walk l u wl wu kl ku cols rows nc nr w out end
      more end k = record {
        crossings = q ∷ k.crossings;
        trail = rw f (trail-step w.label some s lq k.trail);
        wrote = rw f
            (k.wrote
            ∙ ap (λ (ks : List ℕ). walk_out true cols rows ks (w.corners + 1) q w.j k.crossings) e);
      }

  pub part-upright : {legs q : ℕ} {w' : Walker} {mid out' : List ℕ} → w.upright ≡ true → 1 ≤ w.label
      → Stop l wl ku rows w.i nr w.j (w.label - 1) (along wu w.i w.j) q → q < nr
      → mid ≡ with_corner out w.corners (get_or cols w.i 0) (get_or rows q 0)
      → Part l u wl wu kl ku cols rows nc nr (legs - 1)
      (record { i = w.i; j = q; upright = false; label = w.label - 1; corners = w.corners + 1 }) mid w' out'
      → Part l u wl wu kl ku cols rows nc nr legs w out w' out'
  unfolding Trails walk_out
  part-upright {q = q} {mid = mid} f some s lq e p = record {
    standing = p.standing;
    falls = let d = p.falls in omega arith;
    nearer = λ m k. let d = p.falls in omega arith;
    rest = λ end k. more end (p.rest end k);
  }
    where
      more : (end : List ℕ)
          → Walk l u wl wu kl ku cols rows nc nr
          (record { i = w.i; j = q; upright = false; label = w.label - 1; corners = w.corners + 1 }) mid end
          → Walk l u wl wu kl ku cols rows nc nr w out end
      more end k = record {
        crossings = q ∷ k.crossings;
        trail = rw f (trail-step w.label some s lq k.trail);
        wrote = rw f
            (k.wrote
            ∙ ap (λ (ks : List ℕ). walk_out false cols rows ks (w.corners + 1) w.i q k.crossings) e);
      }

-- a walk from where w₀ stands has come to where w does
pub record Walking (l u wl wu kl ku cols rows : List ℕ) (nc nr : ℕ) (w₀ : Walker) (out₀ : List ℕ) (w : Walker)
    (out : List ℕ) : Type 0 where
  pub same : length out ≡ length out₀
  pub standing : Standing l u nc nr w out
  pub rest : (end : List ℕ) → Walk l u wl wu kl ku cols rows nc nr w out end
      → Walk l u wl wu kl ku cols rows nc nr w₀ out₀ end

module _ {l u wl wu kl ku cols rows : List ℕ} {nc nr : ℕ} {w₀ : Walker} {out₀ : List ℕ} where
  pub walking_start : Standing l u nc nr w₀ out₀ → Walking l u wl wu kl ku cols rows nc nr w₀ out₀ w₀ out₀
  walking_start s = record { same = refl; standing = s; rest = λ end k. k }

  pub walking-more : {legs : ℕ} {w w' : Walker} {out out' : List ℕ}
      → Walking l u wl wu kl ku cols rows nc nr w₀ out₀ w out → length out' ≡ length out
      → Part l u wl wu kl ku cols rows nc nr legs w out w' out'
      → Walking l u wl wu kl ku cols rows nc nr w₀ out₀ w' out'
  walking-more k e p = record {
    same = e ∙ k.same;
    standing = p.standing;
    rest = λ end m. k.rest end (p.rest end m);
  }

  pub walking_done : {w : Walker} {out : List ℕ} → Walking l u wl wu kl ku cols rows nc nr w₀ out₀ w out
      → w.label ≤ 1 → Walk l u wl wu kl ku cols rows nc nr w₀ out₀ out
  walking_done {out = out} k e = k.rest out (walk-done (omega (arith, k.standing.some)))
