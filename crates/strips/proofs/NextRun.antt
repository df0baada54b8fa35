-- The next run of a row: it moves the last strip of its column on, or begins a strip.
use Prim.Native.Nat.{ℕ, ◌+◌, ◌*◌, ◌-◌, ◌≤◌, ◌<◌}
use native.Mathlib.Omega.{arith}
use native.Mathlib.Decide.{ℕ_discrete}
use mathlib.Core.Path.{◌≡◌, refl, sym, ap, ap₂, ◌∙◌, subst}
use mathlib.Core.Bool.{Bool, true}
use mathlib.Core.List.{List, [], ◌∷◌, ◌++◌, append_assoc}
use mathlib.Core.Logic.{◌⊎◌, ⊎_elim, inl, inr, by_cases}
use lib.ListN.{length, get_or, set, take, drop, length-set, length-append, get_or-append}
use lib.Seq.{get_or-set_same, get_or-set_other, get_or-append_seam}
use Rattle.foil_spec.specs.Limits.{max_strips}
use Rattle.foil_spec.specs.Strips.{run, Strip, until, strip_at}
use Rattle.list_laws.proofs.Tests.{lt-or-le}
use Rattle.strip_laws.specs.Rules.{Stop, columns}
use Rattle.strip_laws.proofs.Stop.{stop-is-stop}
use Rattle.strips.specs.Rows.{Change}
use Rattle.strips.specs.Joining.{bound, no_strip, at, Placed, Open, Joined}
use Rattle.strips.proofs.Listing.{with_top, set-top, put-strip}
use Rattle.strips.proofs.RowToRow.{bound-in, bound-out}
use Rattle.strips.proofs.RowRuns.{is_run_of, Alone, grown, row_now, outside, placed-keep, meets}

-- row v, which all rows from there up to z are equal to
module _ (f : ℕ → ℕ → Bool) (w h v z : ℕ) (ch : Change f h v z) where
  -- the next run of the row, from a up to b
  module _
      (x a b : ℕ) (xa : x ≤ a) (ab : a < b) (bw : b ≤ w) (only : Alone f w v x b a b) (r : is_run_of f w v a b ≡ true)
      (o out last : List ℕ) (count : ℕ) (rest : List Strip) (j : Joined f w h o out last count v z x rest) where
    xb : x ≤ b
    xb = omega arith

    -- the strip at place i as it is in the end, and as it stands
    abbrev final_at : ℕ → Strip
    final_at i = at j.done i

    abbrev cur_at : ℕ → Strip
    cur_at i = at j.cur i

    -- in lists that differ from those before at place k and column a only, the strip of the run stands at place k
    record Moved (done' cur' : List Strip) (last' : List ℕ) (count' k : ℕ) : Type 0 where
      more : count ≤ count'
      lt : k < count'
      others : (i : ℕ) → i < count' → (i ≡ k → ⊥) → i < count
      old-done : (i : ℕ) → i < count → (i ≡ k → ⊥) → at done' i ≡ final_at i
      old-cur : (i : ℕ) → i < count → (i ≡ k → ⊥) → at cur' i ≡ cur_at i
      old-last : (u : ℕ) → (u ≡ a → ⊥) → get_or last' u 0 ≡ get_or last u 0
      own : (i : ℕ) → i < count → i ≡ k → (cur_at i).x0 ≡ a
      short : (i : ℕ) → i < count → (i ≡ k → ⊥) → x ≤ (final_at i).x0 → (final_at i).x0 < b → (final_at i).y1 ≤ v
      here : Placed f w h v z b last' (at done' k) (at cur' k) k
      now : Open last' cur' count' a b z

    module _ (done' cur' : List Strip) (last' : List ℕ) (count' k : ℕ) (c : Moved done' cur' last' count' k) where
      placed-all : (i : ℕ) → i < count' → Placed f w h v z b last' (at done' i) (at cur' i) i
      placed-all i l =
          by_cases (ℕ_discrete i k)
          (λ q. subst (λ (u : ℕ). Placed f w h v z b last' (at done' u) (at cur' u) u) (sym q) c.here)
          (λ ne. old i (c.others i l ne) ne)
        where
          old : (i : ℕ) → i < count → (i ≡ k → ⊥) → Placed f w h v z b last' (at done' i) (at cur' i) i
          old i l ne =
              subst (λ (t : Strip). Placed f w h v z b last' (at done' i) t i) (sym (c.old-cur i l ne))
              (subst (λ (s : Strip). Placed f w h v z b last' s (cur_at i) i) (sym (c.old-done i l ne))
              (placed-keep f w h v z ch x b xb last last' (final_at i) (cur_at i) i (j.placed i l) (c.short i l ne)
              (λ g. c.old-last (final_at i).x0 (λ e. ⊎_elim (λ m. omega arith) (λ m. omega arith) g))))

      -- the last strip of another column
      keep-open : (a' b' t : ℕ) → (a' ≡ a → ⊥) → Open last j.cur count a' b' t → Open last' cur' count' a' b' t
      keep-open a' b' t ne p =
          let e : get_or last' a' 0 ≡ get_or last a' 0 = c.old-last a' ne in
          let q : at cur' (get_or last' a' 0) ≡ cur_at (get_or last a' 0) =
          ap (at cur') e
          ∙ c.old-cur (get_or last a' 0) p.lt
          (λ i. ne (sym p.is-x0 ∙ c.own (get_or last a' 0) p.lt i)) in
          record {
            lt = omega (arith, p.lt, c.more);
            is-x0 = ap (λ (s : Strip). s.x0) q ∙ p.is-x0;
            is-x1 = ap (λ (s : Strip). s.x1) q ∙ p.is-x1;
            is-y1 = ap (λ (s : Strip). s.y1) q ∙ p.is-y1;
          }

      open-outside : (a' b' : ℕ) → a' < w → 0 < bound v z b a' → is_run_of f w (bound v z b a' - 1) a' b' ≡ true
          → (a' < x) ⊎ (b ≤ a') → Open last' cur' count' a' b' (bound v z b a')
      open-outside a' b' l m e g =
          let q : bound v z b a' ≡ bound v z x a' = outside f w h v z ch x b xb a' g in
          rw q
          (keep-open a' b' (bound v z x a') (λ i. ⊎_elim (λ n. omega arith) (λ n. omega arith) g)
          (j.opens a' b' l (omega arith) (rw (← q) e)))

      open-inside : (a' b' : ℕ) → is_run_of f w (bound v z b a' - 1) a' b' ≡ true → x ≤ a' → a' < b
          → Open last' cur' count' a' b' (bound v z b a')
      open-inside a' b' e m g =
          let q = only a' b' (row_now f w h v z ch a' b' b g e) m g in
          rw (bound-in v z b a' g)
          (subst (λ (u : ℕ). Open last' cur' count' u b' z) (sym q.0)
          (subst (λ (u : ℕ). Open last' cur' count' a u z) (sym q.1) c.now))

      open-all : (a' b' : ℕ) → a' < w → 0 < bound v z b a' → is_run_of f w (bound v z b a' - 1) a' b' ≡ true
          → Open last' cur' count' a' b' (bound v z b a')
      open-all a' b' l m e =
          ⊎_elim
          (λ g. open-outside a' b' l m e (inl g))
          (λ g.
          ⊎_elim
          (λ i. open-inside a' b' e g i)
          (λ i. open-outside a' b' l m e (inr i))
          (lt-or-le a' b))
          (lt-or-le a' x)

    -- the run goes on from the row before: the strip at place k moves on
    module _
        (k : ℕ) (lk : k < count) (ek : k ≡ get_or last a 0) (e0 : (cur_at k).x0 ≡ a) (e1 : (cur_at k).x1 ≡ b)
        (et : (cur_at k).y1 ≡ v) where
      moved : Strip
      moved = with_top (cur_at k) z

      cur' : List Strip
      cur' = set j.cur k moved

      cur-here : at cur' k ≡ moved
      unfolding cur'
      cur-here = get_or-set_same j.cur k moved no_strip (omega (arith, j.len))

      moved-placed : Placed f w h v z b last (final_at k) moved k
      unfolding moved
      moved-placed =
          let p : Placed f w h v z x last (final_at k) (cur_at k) k = j.placed k lk in
          let sa : (final_at k).x0 ≡ a = sym p.same-x0 ∙ e0 in
          let sb : (final_at k).x1 ≡ b = sym p.same-x1 ∙ e1 in
          let i : bound v z b (final_at k).x0 ≡ z = bound-in v z b (final_at k).x0 (omega arith) in
          let i' : bound v z x (final_at k).x0 ≡ v = bound-out v z x (final_at k).x0 (omega arith) in
          let g : z ≤ (final_at k).y1 =
          grown f w h v z ch (columns (final_at k)) (final_at k).y0 (final_at k).y1 p.rows
          (omega (arith, p.known-y1))
          (ap₂ (λ (p q : ℕ). is_run_of f w v p q) sa sb ∙ r) in
          record {
            lt = p.lt;
            le = p.le;
            rows = p.rows;
            early = omega (arith, p.early, ch.gt);
            same-x0 = p.same-x0;
            same-y0 = p.same-y0;
            same-x1 = p.same-x1;
            known-y1 = omega arith;
            latest = λ m. p.latest (omega (arith, ch.gt));
          }

      old-short : (i : ℕ) → i < count → (i ≡ k → ⊥) → x ≤ (final_at i).x0 → (final_at i).x0 < b → (final_at i).y1 ≤ v
      old-short i l ne m g = ⊎_elim (λ n. absurd (ne (the_same n))) (λ n. n) (lt-or-le v (final_at i).y1)
        where
          the_same : v < (final_at i).y1 → i ≡ k
          the_same n =
              let p : Placed f w h v z x last (final_at i) (cur_at i) i = j.placed i l in
              let q : (final_at i).x0 ≡ a =
              (only (final_at i).x0 (final_at i).x1
              (meets f w h v z ch x b xb last last (final_at i) (cur_at i) i p m n) m g).0 in
              sym (p.latest (omega (arith, bound-out v z x (final_at i).x0 m)))
              ∙ ap (λ (u : ℕ). get_or last u 0) q
              ∙ sym ek

      moved_on : Moved j.done cur' last count k
      unfolding cur' moved
      moved_on =
          let q : at cur' (get_or last a 0) ≡ moved = ap (at cur') (sym ek) ∙ cur-here in
          record {
            more = omega arith;
            lt = lk;
            others = λ i l ne. l;
            old-done = λ i l ne. refl;
            old-cur = λ i l ne. get_or-set_other j.cur k i moved no_strip ne;
            old-last = λ u ne. refl;
            own = λ i l e. ap (λ (u : ℕ). (cur_at u).x0) e ∙ e0;
            short = old-short;
            here =
                subst (λ (t : Strip). Placed f w h v z b last (final_at k) t k) (sym cur-here) moved-placed;
            now = record {
              lt = omega arith;
              is-x0 = ap (λ (s : Strip). s.x0) q ∙ e0;
              is-x1 = ap (λ (s : Strip). s.x1) q ∙ e1;
              is-y1 = ap (λ (s : Strip). s.y1) q;
            };
          }

      pub joined-old : (out' : List ℕ) (rest' : List Strip) → rest ≡ rest' → out' ≡ set out (k * 4 + 3) z
          → Joined f w h o out' last count v z b rest'
      unfolding cur' moved
      joined-old out' rest' q e =
          record {
            small = j.small;
            same = ap length e ∙ length-set out (k * 4 + 3) z ∙ j.same;
            wide = j.wide;
            done = j.done;
            cur = cur';
            split = j.split ∙ ap (λ (r : List Strip). j.done ++ r) q;
            counted = j.counted;
            len = length-set j.cur k moved ∙ j.len;
            held =
                e ∙ ap (λ (l : List ℕ). set l (k * 4 + 3) z) j.held
                ∙ set-top (drop (count * 4) o) j.cur k z (omega (arith, j.len));
            placed = placed-all j.done cur' last count k moved_on;
            opens = open-all j.done cur' last count k moved_on;
          }

    -- it is new: a strip begins, at place `count`
    module _ (vh : v ≤ h) (fresh : 0 < v → is_run_of f w (v - 1) a b ≡ true → ⊥) where
      new : Strip
      new = strip_at f w h v (run a b)

      known : Strip
      known = record { x0 = a; y0 = v; x1 = b; y1 = z }

      done⁺ : List Strip
      done⁺ = j.done ++ (new ∷ [])

      cur⁺ : List Strip
      cur⁺ = j.cur ++ (known ∷ [])

      last⁺ : List ℕ
      last⁺ = set last a count

      last-here : get_or last⁺ a 0 ≡ count
      unfolding last⁺
      last-here = get_or-set_same last a count 0 (omega (arith, j.wide))

      done-new : at done⁺ count ≡ new
      unfolding done⁺
      done-new =
          ap (at (j.done ++ (new ∷ []))) (sym j.counted) ∙ get_or-append_seam j.done new [] no_strip

      cur-new : at cur⁺ count ≡ known
      unfolding cur⁺
      cur-new = ap (at (j.cur ++ (known ∷ []))) (sym j.len) ∙ get_or-append_seam j.cur known [] no_strip

      new-placed : Placed f w h v z b last⁺ new known count
      unfolding new known
      new-placed =
          let st : Stop (λ u. is_run_of f w u a b) h v (until f w h (run a b) v) =
          stop-is-stop (λ u. is_run_of f w u a b) h v vh in
          let g : z ≤ until f w h (run a b) v =
          grown f w h v z ch (run a b) v (until f w h (run a b) v) st st.ge r in
          let i : bound v z b a ≡ z = bound-in v z b a ab in
          record {
            lt = ab;
            le = bw;
            rows = st;
            early = omega (arith, ch.gt);
            same-x0 = refl;
            same-y0 = refl;
            same-x1 = refl;
            known-y1 = omega arith;
            latest = λ m. last-here;
          }

      new-short : (i : ℕ) → i < count → x ≤ (final_at i).x0 → (final_at i).x0 < b → (final_at i).y1 ≤ v
      new-short i l m g = ⊎_elim (λ n. absurd (not_new n)) (λ n. n) (lt-or-le v (final_at i).y1)
        where
          not_new : v < (final_at i).y1 → ⊥
          not_new n =
              let p : Placed f w h v z x last (final_at i) (cur_at i) i = j.placed i l in
              let q = only _ _ (meets f w h v z ch x b xb last last (final_at i) (cur_at i) i p m n) m g in
              let y : (final_at i).y0 < v = omega (arith, p.early, bound-out v z x (final_at i).x0 m) in
              fresh (omega arith)
              (sym (ap₂ (λ (c d : ℕ). is_run_of f w (v - 1) c d) q.0 q.1)
              ∙ p.rows.passes (v - 1) (omega arith) (omega arith))

      begun-new : Moved done⁺ cur⁺ last⁺ (count + 1) count
      unfolding done⁺ cur⁺ last⁺ known
      begun-new =
          let q : at cur⁺ (get_or last⁺ a 0) ≡ known = ap (at cur⁺) last-here ∙ cur-new in
          record {
            more = omega arith;
            lt = omega arith;
            others = λ i l ne. omega arith;
            old-done = λ i l ne. get_or-append j.done (new ∷ []) no_strip i (omega (arith, j.counted));
            old-cur = λ i l ne. get_or-append j.cur (known ∷ []) no_strip i (omega (arith, j.len));
            old-last = λ u ne. get_or-set_other last a u count 0 ne;
            own = λ i l e. absurd (omega arith);
            short = λ i l ne m g. new-short i l m g;
            here =
                subst (λ (t : Strip). Placed f w h v z b last⁺ (at done⁺ count) t count) (sym cur-new)
                (subst (λ (s : Strip). Placed f w h v z b last⁺ s known count) (sym done-new) new-placed);
            now = record {
              lt = omega (arith, last-here);
              is-x0 = ap (λ (s : Strip). s.x0) q;
              is-x1 = ap (λ (s : Strip). s.x1) q;
              is-y1 = ap (λ (s : Strip). s.y1) q;
            };
          }

      pub joined-new : (out' : List ℕ) (rest' : List Strip) → count < max_strips
          → rest ≡ strip_at f w h v (run a b) ∷ rest' → length out' ≡ length out
          → out' ≡ take (count * 4) out ++ (a ∷ v ∷ b ∷ z ∷ drop (count * 4 + 4) out)
          → Joined f w h o out' (set last a count) (count + 1) v z b rest'
      unfolding done⁺ cur⁺ last⁺ new known
      joined-new out' rest' lt q n e =
          record {
            small = omega arith;
            same = n ∙ j.same;
            wide = rw (length-set last a count) j.wide;
            done = done⁺;
            cur = cur⁺;
            split =
                j.split ∙ ap (λ (r : List Strip). j.done ++ r) q ∙ sym (append_assoc j.done (new ∷ []) rest');
            counted = length-append j.done (new ∷ []) ∙ omega (arith, j.counted);
            len = length-append j.cur (known ∷ []) ∙ omega (arith, j.len);
            held = e ∙ put-strip j.cur o out count j.len j.held known;
            placed = placed-all done⁺ cur⁺ last⁺ (count + 1) count begun-new;
            opens = open-all done⁺ cur⁺ last⁺ (count + 1) count begun-new;
          }
