-- How `first_path_to` finds what it gives: the first of the ways to go on by the fewest segments, and no path is missed.
use Prim.Native.Nat.{ℕ, zero, suc, ◌+◌, ◌*◌, ◌≤◌, ◌<◌}
use native.Mathlib.Omega.{arith}
use native.Mathlib.Decide.{ℕ_discrete, dec_le}
use mathlib.Core.Path.{◌≡◌, refl, sym, ap, ◌∙◌, subst, subst₂}
use mathlib.Core.Bool.{Bool, true, false, cond}
use mathlib.Core.List.{List, [], ◌∷◌}
use mathlib.Core.Option.{none, some, some-injective, none-ne-some}
use mathlib.Core.Logic.{◌⊎◌, inl, inr, ⊎_elim, by_cases}
use lib.ListN.{length}
use Rattle.foil_spec.specs.Foil.{Point, same}
use Rattle.foil_spec.specs.Paths.{either, segment, leads, is_path_to, bends, corners_before}
use Rattle.foil_spec.specs.Paths.{steps_from, path_length, before}
use Rattle.foil_spec.specs.Paths.{shortest, goings, first_from, first_path_to}
use Rattle.list_laws.proofs.Tests.{clash, and_l, parts, true-or-false}
use Rattle.list_laws.proofs.Members.{In, Sorted}
use Rattle.path_laws.proofs.Segments.{same-eq, same_self, Level, Upright, of-segment}
use Rattle.path_laws.proofs.Goings.{of-goings, in-goings, sorted-goings}
use Rattle.path_laws.proofs.Order.{by_length, in-shortest, shortest-first}
use Rattle.path_laws.proofs.Bound.{enough}

module _ (f : ℕ → ℕ → Bool) (S : Point) (T : Point → Bool) where
  -- a path, taken apart
  pub record Parts (cs : List Point) : Type 0 where
    pub rest : List Point
    pub is : cs ≡ S ∷ rest
    pub start : f S.x S.y ≡ true
    pub on : leads f T either S rest ≡ true

  pub of-path : (cs : List Point) → is_path_to f S T cs ≡ true → Parts cs
  unfolding is_path_to
  of-path [] h = clash h refl
  of-path (p ∷ cs) h =
      let a : same p S ≡ true = search parts in
      let b : f p.x p.y ≡ true = search parts in
      let c : leads f T either p cs ≡ true = search parts in
      let e : p ≡ S = same-eq p S a in
      record {
        rest = cs;
        is = ap (λ (q : Point). q ∷ cs) e;
        start = subst (λ (q : Point). f q.x q.y ≡ true) e b;
        on = subst (λ (q : Point). leads f T either q cs ≡ true) e c;
      }

  pub to-path : (cs : List Point) → f S.x S.y ≡ true → leads f T either S cs ≡ true
      → is_path_to f S T (S ∷ cs) ≡ true
  unfolding is_path_to
  to-path cs e h = simp (same_self S, e, h)

  -- a segment has at least one step
  one-step : (q : Point) → leads f T either S (q ∷ []) ≡ true → path_length (S ∷ []) < path_length (S ∷ q ∷ [])
  unfolding leads path_length steps_from
  one-step q h =
      ⊎_elim
      (λ (a : Level f S q). omega (arith, a.apart))
      (λ (a : Upright f S q). omega (arith, a.apart))
      (of-segment f either S q (and_l (segment f either S q) (T q) h))

  -- of two ways to go on from S with equal bends, of which the first has fewer segments, the first is shorter
  pub fewer-shorter : (cs ds : List Point) → leads f T either S ds ≡ true → length cs < length ds
      → bends (S ∷ ds) ≡ bends (S ∷ cs) → path_length (S ∷ cs) < path_length (S ∷ ds)
  unfolding bends
  fewer-shorter [] [] h l e = absurd (omega arith)
  fewer-shorter [] (q ∷ []) h l e = one-step q h
  fewer-shorter [] (q ∷ r ∷ ds) h l e = absurd (omega arith)
  fewer-shorter (c ∷ cs) ds h l e = absurd (omega arith)

module _ (f : ℕ → ℕ → Bool) (W H : ℕ) (S : Point) (T : Point → Bool) where
  -- the ways to go on from S by n segments
  abbrev going_on : ℕ → List (List Point)
  going_on n = goings f W H T n either S

  from-nil : (tries n : ℕ) → going_on n ≡ []
      → first_from f W H T S (suc tries) n ≡ first_from f W H T S tries (suc n)
  unfolding first_from
  from-nil tries n e = rw (e, first_from) refl

  from_cons : (tries n : ℕ) (cs : List Point) (more : List (List Point)) → going_on n ≡ cs ∷ more
      → first_from f W H T S (suc tries) n ≡ some (S ∷ shortest S cs more)
  unfolding first_from
  from_cons tries n cs more e = rw (e, first_from) refl

  -- what was found from n segments on: the shortest way by m segments, and there is none by fewer
  record FewestBy (n : ℕ) (cs : List Point) : Type 0 where
    m : ℕ
    head : List Point
    more : List (List Point)
    is : cs ≡ S ∷ shortest S head more
    here : going_on m ≡ head ∷ more
    none_yet : (k : ℕ) → n ≤ k → k < m → going_on k ≡ []

  found-step : (tries n : ℕ) (cs : List Point) (gs : List (List Point)) → going_on n ≡ gs
      → first_from f W H T S (suc tries) n ≡ some cs
      → (first_from f W H T S tries (suc n) ≡ some cs → FewestBy (suc n) cs) → FewestBy n cs
  found-step tries n cs [] e h go =
      let r = go (sym (from-nil tries n e) ∙ h) in
      record {
        m = r.m;
        head = r.head;
        more = r.more;
        is = r.is;
        here = r.here;
        none_yet = λ k l u.
            by_cases (ℕ_discrete k n) (λ (q : k ≡ n). ap going_on q ∙ e) (λ q. r.none_yet k (omega arith) u);
      }
  found-step tries n cs (ds ∷ more) e h go =
      record {
        m = n;
        head = ds;
        more = more;
        is = some-injective cs (S ∷ shortest S ds more) (sym h ∙ from_cons tries n ds more e);
        here = e;
        none_yet = λ k l u. absurd (let z : n < n = omega arith in omega arith);
      }

  found : (tries n : ℕ) (cs : List Point) → first_from f W H T S tries n ≡ some cs → FewestBy n cs
  unfolding first_from
  found zero n cs h = absurd (none-ne-some cs h)
  found (suc tries) n cs h = found-step tries n cs (going_on n) refl h (found tries (suc n) cs)

  empty-step : (tries n : ℕ) (gs : List (List Point)) → going_on n ≡ gs → first_from f W H T S (suc tries) n ≡ none
      → (first_from f W H T S tries (suc n) ≡ none → (k : ℕ) → suc n ≤ k → k < suc n + tries → going_on k ≡ [])
      → (k : ℕ) → n ≤ k → k < n + suc tries → going_on k ≡ []
  empty-step tries n [] e h go k l u =
      by_cases (ℕ_discrete k n) (λ (q : k ≡ n). ap going_on q ∙ e)
      (λ q. go (sym (from-nil tries n e) ∙ h) k (omega arith) (omega arith))
  empty-step tries n (ds ∷ more) e h go k l u =
      absurd (none-ne-some (S ∷ shortest S ds more) (sym h ∙ from_cons tries n ds more e))

  empty : (tries n : ℕ) → first_from f W H T S tries n ≡ none
      → (k : ℕ) → n ≤ k → k < n + tries → going_on k ≡ []
  empty zero n h k l u = absurd (omega arith)
  empty (suc tries) n h k l u = empty-step tries n (going_on n) refl h (empty tries (suc n)) k l u

  some-found : (cs : List Point) → first_path_to f W H S T ≡ some cs → (f S.x S.y ≡ true) × FewestBy 0 cs
  unfolding first_path_to
  some-found cs h =
      ⊎_elim (λ (e : f S.x S.y ≡ true). (e, found (suc (W * H)) 0 cs (given true e)))
      (λ (e : f S.x S.y ≡ false). absurd (none-ne-some cs (given false e)))
      (true-or-false (f S.x S.y))
    where
      given : (b : Bool) → f S.x S.y ≡ b → cond b (first_from f W H T S (suc (W * H)) 0) none ≡ some cs
      given b e = subst (λ (c : Bool). cond c (first_from f W H T S (suc (W * H)) 0) none ≡ some cs) e h

  module _ (inside : (x y : ℕ) → f x y ≡ true → (x < W) × (y < H)) where
    not-empty : (cs : List Point) → leads f T either S cs ≡ true → going_on (length cs) ≡ [] → ⊥
    not-empty cs h e = subst (λ (l : List (List Point)). In cs l) e (in-goings f W H T inside either S cs h)

    -- first_path_to gives nothing only where there is no path
    pub nothing-missed : first_path_to f W H S T ≡ none → (cs : List Point) → is_path_to f S T cs ≡ true → ⊥
    unfolding first_path_to
    nothing-missed h cs k =
        let a = of-path f S T cs k in
        let e = enough f W H inside T either S a.rest a.start a.on in
        let g : first_from f W H T S (suc (W * H)) 0 ≡ none =
        subst (λ (b : Bool). cond b (first_from f W H T S (suc (W * H)) 0) none ≡ none) a.start h in
        not-empty e.0 e.1 (empty (suc (W * H)) 0 g (length e.0) (omega arith) (omega arith))

    module _ (cs : List Point) (r : FewestBy 0 cs) where
      abbrev best : List Point
      best = shortest S r.head r.more

      first_on : (leads f T either S best ≡ true) × (length best ≡ r.m)
      first_on =
          of-goings f W H T r.m either S best
          (subst (λ (l : List (List Point)). In best l) (sym r.here) (in-shortest S r.head r.more))

      no-fewer : (es : List Point) → leads f T either S es ≡ true → length best ≤ length es
      no-fewer es h =
          by_cases (dec_le (length best) (length es)) (λ l. l)
          (λ l.
          let o = first_on.1 in
          absurd (not-empty es h (r.none_yet (length es) (omega arith) (omega arith))))

      same_length : (es : List Point) → leads f T either S es ≡ true → length es ≡ length best
          → (S ∷ best ≡ S ∷ es) ⊎ (before (S ∷ best) (S ∷ es) ≡ true)
      same_length es h e =
          let o = first_on.1 in
          let i : In es (going_on (length es)) = in-goings f W H T inside either S es h in
          let j : In es (r.head ∷ r.more) =
          subst (λ (l : List (List Point)). In es l) (ap going_on (e ∙ o) ∙ r.here) i in
          let s : Sorted corners_before (r.head ∷ r.more) =
          subst (λ (l : List (List Point)). Sorted corners_before l) r.here
          (sorted-goings f W H T r.m either S) in
          ⊎_elim (λ (q : best ≡ es). inl (ap (λ (l : List Point). S ∷ l) q))
          (λ (q : before (S ∷ best) (S ∷ es) ≡ true). inr q)
          (shortest-first S r.head r.more s es j)

    -- what first_path_to gives is a path, has fewest bends, and comes first among the paths with as few
    module _ (cs : List Point) (given : first_path_to f W H S T ≡ some cs) where
      pub given-path : is_path_to f S T cs ≡ true
      given-path =
          let a = some-found cs given in
          subst (λ (l : List Point). is_path_to f S T l ≡ true) (sym a.1.is)
          (to-path f S T (best cs a.1) a.0 (first_on cs a.1).0)

      pub given-fewest : (ds : List Point) → is_path_to f S T ds ≡ true → bends cs ≤ bends ds
      unfolding bends
      given-fewest ds k =
          let r = (some-found cs given).1 in
          let b = of-path f S T ds k in
          let l = no-fewer cs r b.rest b.on in
          let u : length cs ≡ suc (length (best cs r)) = ap length r.is in
          let v : length ds ≡ suc (length b.rest) = ap length b.is in
          omega arith

      pub given-first : (ds : List Point) → is_path_to f S T ds ≡ true → bends ds ≡ bends cs
          → (cs ≡ ds) ⊎ (before cs ds ≡ true)
      given-first ds k e =
          let r = (some-found cs given).1 in
          let b = of-path f S T ds k in
          let w : bends (S ∷ b.rest) ≡ bends (S ∷ best cs r) = ap bends (sym b.is) ∙ e ∙ ap bends r.is in
          subst₂ (λ (l m : List Point). (l ≡ m) ⊎ (before l m ≡ true)) (sym r.is) (sym b.is)
          (by_cases (ℕ_discrete (length b.rest) (length (best cs r)))
          (λ q. same_length cs r b.rest b.on q)
          (λ q.
          let l = no-fewer cs r b.rest b.on in
          inr (by_length (S ∷ best cs r) (S ∷ b.rest)
          (fewer-shorter f S T (best cs r) b.rest b.on (omega (arith, q)) w))))
