-- Laws of the rounds: how the marks go on from one round to the next, and when the rounds end.
use Prim.Native.Nat.{ℕ, ◌+◌, ◌*◌, ◌≤◌, ◌<◌}
use native.Mathlib.Omega.{arith}
use native.Mathlib.Decide.{ℕ_discrete}
use mathlib.Core.Path.{◌≡◌, refl, ◌∙◌}
use mathlib.Core.Logic.{◌≢◌}
use mathlib.Core.Bool.{false}
use mathlib.Core.List.{List}
use Rattle.grid.specs.Size.{stride, area}
use Rattle.grid.specs.Lines.{Lines}
use Rattle.runs.specs.Line.{along, label_top}
use Rattle.runs.specs.Ink.{Inked, Lean}
use Rattle.labels.specs.Pass.{zeros, Cell, kept, none, new, Pass, Below, floor, Full, Marked, Spanned, PassTo}
use Rattle.labels.specs.Rounds.{Twin, Begun, Rounds, start, more, Shallow, Ended, stuck}
use Rattle.labels.proofs.Runs.{zeros-le}
use Rattle.labels.proofs.Pass.{visited-all, visited-full}
use Rattle.labels.proofs.Part.{pass-parts, parts_below, parts-lean}

-- One crossing in a pass.
cell-keep : {other link : List ℕ} {line n v k a b : ℕ} → Cell other link line n v k a b → a ≢ 0 → b ≡ a
cell-keep (kept h) z = refl
cell-keep (none h) z = refl
cell-keep (new q l r e) z = absurd (z refl)

cell-back : {other link : List ℕ} {line n v k a b : ℕ} → Cell other link line n v k a b → b ≡ v → a ≡ v
cell-back (kept h) z = z
cell-back (none h) z = z
cell-back (new q l r e) z = absurd (omega arith)

cell-one : {other link : List ℕ} {line n v k a b : ℕ} → Cell other link line n v k a b → 1 ≤ v → b ≡ 1 → a ≡ 1
cell-one (kept h) p z = z
cell-one (none h) p z = z
cell-one (new q l r e) p z = absurd (omega arith)

module _ {other link : List ℕ} {m n v : ℕ} {l l' : List ℕ} (P : Pass other link m n v l l') where
  pub pass_below : Below m n l v → Below m n l' (v + 1)
  pass_below B = parts_below (pass-parts P) B

  -- marks that span the labels v still do so after the pass
  marked-kept : {t : List ℕ} → Marked t m n l v → Marked t m n l' v
  marked-kept M =
      record {
        fit = M.fit;
        whole = λ i li k lk z. M.whole i li k lk (cell-back (P.cell i li k lk) z);
      }

  -- and what the pass marked spans the labels v + 1
  marked_next : {t : List ℕ} → Below m n l v → Spanned t m n l l' → Marked t m n l' (v + 1)
  marked_next B A = record {
    fit = A.fit;
    whole = λ i li k lk z. A.whole i li k lk (was i li k lk z (ℕ_discrete (along l i k) 0)) (omega arith);
  }
    where
      was : (i : ℕ) → i < m → (k : ℕ) → k < n → along l' i k ≡ v + 1 → Dec (along l i k ≡ 0) → along l i k ≡ 0
      was i li k lk z (yes y) = y
      was i li k lk z (no y) =
          let e = cell-keep (P.cell i li k lk) y in let b = B.le i li k lk in absurd (omega arith)

-- The inks stay small.
pub pass-lean : {other inks link cross : List ℕ} {m n v : ℕ} {l l' w w' : List ℕ} → Lines cross n → 1 ≤ v →
    Pass other link m n v l l' → Inked other inks link cross m n v l l' w w' → Lean n m other inks → Lean m n l w →
    Lean m n l' w'
pass-lean C pos P I O L = parts-lean C pos (pass-parts P) I O L

module _ {kl ku cols rows : List ℕ} {nc nr : ℕ} (C : Lines cols nc) (R : Lines rows nr) {l₀ u₀ wl₀ wu₀ : List ℕ}
    (bl : Lean nr nc l₀ wl₀) (bu : Lean nc nr u₀ wu₀) where
  pub rounds-lean : {v : ℕ} {l u wl wu : List ℕ} → Rounds kl ku cols rows nc nr l₀ u₀ wl₀ wu₀ v l u wl wu →
      (1 ≤ v) × Lean nr nc l wl × Lean nc nr u wu
  rounds-lean start = (omega arith, bl, bu)
  rounds-lean (more r x a y b) =
      let h = rounds-lean r in
      let p = h.0 in
      let k = pass-lean C p x a h.2 h.1 in
      (omega arith, k, pass-lean R p y b k h.2)

-- before the round that looks for v, with the marks ml and mu
pub record Going (kl ku cols rows : List ℕ) (nc nr : ℕ) (l₀ u₀ wl₀ wu₀ : List ℕ) (v : ℕ) (l u wl wu ml mu : List ℕ)
    : Type 0 where
  pub pos : 1 ≤ v
  pub rounds : Rounds kl ku cols rows nc nr l₀ u₀ wl₀ wu₀ v l u wl wu
  pub level-low : Below nr nc l v
  pub upright-low : Below nc nr u v
  pub level-lean : Lean nr nc l wl
  pub upright-lean : Lean nc nr u wu
  pub level-marked : Marked ml nr nc l v
  pub upright-marked : Marked mu nc nr u v
  pub twin : Twin l u nc nr
  pub level-full : Full kl l nr nc (floor v)
  pub upright-full : Full ku u nc nr (floor v)
  pub top : v < label_top
  pub few : zeros l + zeros u ≤ 2 * area

full_start : (link : List ℕ) {lab : List ℕ} {m n : ℕ} → Below m n lab 1 → Full link lab m n (floor 1)
full_start link B = record {
  joined = λ i li. record { on = λ k q lk lq r z. let b = B.le i li k lk in absurd (omega arith) };
}

pub going_start : (kl ku cols rows : List ℕ) {nc nr : ℕ} {l u wl wu ml mu : List ℕ} → Begun l u wl wu nc nr →
    Marked ml nr nc l 1 → Marked mu nc nr u 1 → Going kl ku cols rows nc nr l u wl wu 1 l u wl wu ml mu
going_start kl ku cols rows {l = l} {u = u} B ML MU = record {
  pos = omega arith;
  rounds = start;
  level-low = B.level-low;
  upright-low = B.upright-low;
  level-lean = B.level-lean;
  upright-lean = B.upright-lean;
  level-marked = ML;
  upright-marked = MU;
  twin = B.twin;
  level-full = full_start kl B.level-low;
  upright-full = full_start ku B.upright-low;
  top = omega arith;
  few = omega (arith, zeros-le l, zeros-le u, B.level-few, B.upright-few);
}

-- A level pass, and an upright pass after it.
module _ {kl ku cols rows : List ℕ} {nc nr : ℕ} (C : Lines cols nc) (R : Lines rows nr) {l₀ u₀ wl₀ wu₀ : List ℕ}
    {v : ℕ} {l u wl wu ml mu : List ℕ} (G : Going kl ku cols rows nc nr l₀ u₀ wl₀ wu₀ v l u wl wu ml mu)
    {l' wl' nl : List ℕ} {le : ℕ} (P : PassTo u wu kl cols nr nc v (nc * stride) l l' wl wl' nl le) where
  level-pass : Pass u kl nr nc v l l'
  level-pass = visited-all R.few P.visited

  -- the marks and the inks for the second pass
  pub going-second : Marked ml nr nc l' v
  going-second = marked-kept level-pass G.level-marked

  pub going-lean : Lean nr nc l' wl'
  going-lean = pass-lean C G.pos level-pass P.inked G.upright-lean G.level-lean

  module _ {u' wu' nu : List ℕ} {ue : ℕ} (S : PassTo l' wl' ku rows nc nr v (nr * stride) u u' wu wu' nu ue) where
    upright-pass : Pass l' ku nc nr v u u'
    upright-pass = visited-all C.few S.visited

    -- both lists still have the label 1 at the same crossings
    level-twin : (i : ℕ) → i < nr → (k : ℕ) → k < nc → along l' i k ≡ 1 → along u k i ≡ 1
    level-twin i li k lk e = G.twin.level i li k lk (cell-one (level-pass.cell i li k lk) G.pos e)

    upright-twin : (i : ℕ) → i < nc → (k : ℕ) → k < nr → along u' i k ≡ 1 → along l' k i ≡ 1
    upright-twin i li k lk e =
        let w = G.twin.upright i li k lk (cell-one (upright-pass.cell i li k lk) G.pos e) in
        cell-keep (level-pass.cell k lk i li) (omega arith) ∙ w

    twin-next : Twin l' u' nc nr
    twin-next = record {
      level = λ i li k lk e.
          let w = level-twin i li k lk e in cell-keep (upright-pass.cell k lk i li) (omega arith) ∙ w;
      upright = upright-twin;
    }

    rounds-next : Rounds kl ku cols rows nc nr l₀ u₀ wl₀ wu₀ (v + 1) l' u' wl' wu'
    rounds-next = more G.rounds level-pass P.inked upright-pass S.inked

    -- one of the new labels says how large they are
    top-next : Shallow kl ku cols rows nc nr l₀ u₀ wl₀ wu₀ → le + ue ≢ 0 → Dec (le ≡ 0) → v + 1 < label_top
    top-next H ne (no y) =
        let w = P.visited.new y in
        omega (arith, w.is, H.level rounds-next w.line w.line-in w.k w.k-in)
    top-next H ne (yes y) =
        let w = S.visited.new (λ x. ne (omega arith)) in
        omega (arith, w.is, H.upright rounds-next w.line w.line-in w.k w.k-in)

    -- there are new labels
    pub going_next : Shallow kl ku cols rows nc nr l₀ u₀ wl₀ wu₀ → le + ue ≢ 0 →
        Going kl ku cols rows nc nr l₀ u₀ wl₀ wu₀ (v + 1) l' u' wl' wu' nl nu
    going_next H ne = record {
      pos = omega arith;
      rounds = rounds-next;
      level-low = pass_below level-pass G.level-low;
      upright-low = pass_below upright-pass G.upright-low;
      level-lean = going-lean;
      upright-lean = pass-lean R G.pos upright-pass S.inked going-lean G.upright-lean;
      level-marked = marked_next level-pass G.level-low P.spanned;
      upright-marked = marked_next upright-pass G.upright-low S.spanned;
      twin = twin-next;
      level-full = visited-full G.pos R.few P.visited level-twin;
      upright-full = visited-full G.pos C.few S.visited upright-twin;
      top = top-next H ne (ℕ_discrete le 0);
      few = omega (arith, G.few, P.visited.count, S.visited.count);
    }

    -- there are none
    pub going-stuck : (i j : ℕ) → le + ue ≡ 0 → along l j i ≡ 0 → along u i j ≡ 0 →
        Ended kl ku cols rows nc nr i j l₀ u₀ wl₀ wu₀ l' u' wl' wu' false
    going-stuck i j e x y =
        let sl : l' ≡ l = P.visited.same (omega arith) in
        let su : u' ≡ u = S.visited.same (omega arith) in
        rw (sl, su) (stuck G.rounds x y (rw sl at level-pass) (rw (su, sl) at upright-pass))
