-- Laws of a part of a pass, and of one that gives a crossing alone what a pass gives it.
use Prim.Native.Nat.{ℕ, ◌+◌, ◌*◌, ◌≤◌, ◌<◌}
use native.Mathlib.Omega.{arith}
use native.Mathlib.Decide.{dec_lt, ℕ_discrete}
use mathlib.Core.Path.{◌≡◌, refl, sym, ◌∙◌}
use mathlib.Core.Logic.{◌≢◌}
use mathlib.Core.Bool.{Bool, true}
use mathlib.Core.List.{List}
use lib.ListN.{get_or, set, length, length-set}
use lib.Seq.{get_or-set_same, get_or-set_other}
use Rattle.list_laws.proofs.Tests.{clash}
use Rattle.grid.specs.Size.{stride}
use Rattle.grid.specs.Lines.{Lines}
use Rattle.runs.specs.Line.{along, across, Linked, RunStart, RunEnd, FirstStop}
use Rattle.runs.specs.Ink.{Least, LeastInk, Inked, Lean}
use Rattle.runs.proofs.Line.{in-run, run-joined}
use Rattle.labels.specs.Pass.{Cell, kept, none, new, Pass, Part, stood, got, Parts, Below}
use Rattle.labels.specs.Pass.{Alone, had, gets, misses}
use Rattle.labels.proofs.Pass.{inked-none}

cell-part : {other link : List ℕ} {line n v k a b : ℕ} → Cell other link line n v k a b → Part other link line n v k a b
cell-part (kept h) = stood
cell-part (none h) = stood
cell-part (new q l r e) = got q l r e

-- a whole pass is one
pub pass-parts : {other link : List ℕ} {m n v : ℕ} {l l' : List ℕ} → Pass other link m n v l l' →
    Parts other link m n v l l'
pass-parts P = record { part = λ i li k lk. cell-part (P.cell i li k lk) }

pub part-keep : {other link : List ℕ} {line n v k a b : ℕ} → Part other link line n v k a b → a ≢ 0 → b ≡ a
part-keep stood z = refl
part-keep (got q l r e) z = absurd (z refl)

part-below : {other link : List ℕ} {line n v k a b : ℕ} → Part other link line n v k a b → a ≤ v → b ≤ v + 1
part-below stood z = omega arith
part-below (got q l r e) z = omega arith

pub parts_below : {other link : List ℕ} {m n v : ℕ} {l l' : List ℕ} → Parts other link m n v l l' → Below m n l v →
    Below m n l' (v + 1)
parts_below P B = record { le = λ i li k lk. part-below (P.part i li k lk) (B.le i li k lk) }

-- the inks stay small
pub parts-lean : {other inks link cross : List ℕ} {m n v : ℕ} {l l' w w' : List ℕ} → Lines cross n → 1 ≤ v →
    Parts other link m n v l l' → Inked other inks link cross m n v l l' w w' → Lean n m other inks → Lean m n l w →
    Lean m n l' w'
parts-lean {other} {inks} {link} {cross} {m} {n} {v} {l} {l'} {w} {w'} C pos P I O L = record {
  le = λ i li k lk z. pick i li k lk z (along l i k) (along l' i k) refl refl (P.part i li k lk);
}
  where
    pick : (i : ℕ) → i < m → (k : ℕ) → k < n → along l' i k ≢ 0 → (a b : ℕ) → along l i k ≡ a → along l' i k ≡ b →
        Part other link i n v k a b → along w' i k ≤ 4095 * along l' i k
    pick i li k lk z a b ea eb stood =
        let x : along l i k ≢ 0 = λ y. z (eb ∙ sym ea ∙ y) in
        let e = I.kept i li k lk x in
        omega (arith, L.le i li k lk x)
    pick i li k lk z a b ea eb (got q lq r e) =
        let s = I.fresh i li k lk ea z in
        let t = s.le q lq r e in
        omega (arith, O.le q lq i li (omega arith), C.below k lk, C.below q lq)

-- A crossing alone.
module _ {other inks link cross : List ℕ} {line n k v : ℕ} where
  pub alone-here : {l l' w w' : List ℕ} {b : Bool} → Alone other inks link cross line n k v l l' w w' b →
      line * stride + k < length l' → Cell other link line n v k (along l line k) (along l' line k)
  alone-here (had x) fit = kept x
  alone-here {l = l} (gets s z L) fit =
      let e = length-set l (line * stride + k) (v + 1) in
      rw (z, get_or-set_same l (line * stride + k) (v + 1) 0 (omega arith))
      (new L.q L.below L.linked L.stop)
  alone-here (misses z h) fit = rw z (none h)

  pub alone-some : {l l' w w' : List ℕ} {b : Bool} → Alone other inks link cross line n k v l l' w w' b →
      line * stride + k < length l' → b ≡ true → along l' line k ≢ 0
  alone-some (had x) fit e = x
  alone-some {l = l} (gets s z L) fit e =
      let d = length-set l (line * stride + k) (v + 1) in
      let i = get_or-set_same l (line * stride + k) (v + 1) 0 (omega arith) in
      λ y. omega arith
  alone-some (misses z h) fit e = clash e refl

  module _ {m : ℕ} (lk : k < n) (few : n ≤ stride) where
    pub alone-parts : {l l' w w' : List ℕ} {b : Bool} → Alone other inks link cross line n k v l l' w w' b →
        line * stride + k < length l' → Parts other link m n v l l'
    alone-parts (had x) fit = record { part = λ i li q lq. stood }
    alone-parts (misses z h) fit = record { part = λ i li q lq. stood }
    alone-parts {l = l} (gets s z L) fit = record {
      part = λ i li q lq. pick i q lq (ℕ_discrete (i * stride + q) (line * stride + k));
    }
      where
        pick : (i q : ℕ) → q < n → Dec (i * stride + q ≡ line * stride + k) →
            Part other link i n v q (along l i q) (along (set l (line * stride + k) (v + 1)) i q)
        pick i q lq (yes e) =
            let d = length-set l (line * stride + k) (v + 1) in
            let ei : i ≡ line = omega arith in
            let eq : q ≡ k = omega arith in
            rw (ei, eq)
            (rw (z, get_or-set_same l (line * stride + k) (v + 1) 0 (omega arith))
            (got L.q L.below L.linked L.stop))
        pick i q lq (no ne) =
            rw (get_or-set_other l (line * stride + k) (i * stride + q) (v + 1) 0 ne) stood

    pub alone-inked : {l l' w w' : List ℕ} {b : Bool} → Alone other inks link cross line n k v l l' w w' b →
        line * stride + k < length w' → Inked other inks link cross m n v l l' w w'
    alone-inked {l = l} {w = w} (had x) fit = inked-none other inks link cross m n v l w
    alone-inked {l = l} {w = w} (misses z h) fit = inked-none other inks link cross m n v l w
    alone-inked {l = l} {w = w} (gets s z L) fit = record {
      size = length-set w (line * stride + k) s;
      kept = λ i li q lq y. old i q y (ℕ_discrete (i * stride + q) (line * stride + k));
      fresh = λ i li q lq y x. least i q lq y x (ℕ_discrete (i * stride + q) (line * stride + k));
    }
      where
        old : (i q : ℕ) → along l i q ≢ 0 → Dec (i * stride + q ≡ line * stride + k) →
            along (set w (line * stride + k) s) i q ≡ along w i q
        old i q y (yes e) = absurd (y (rw e z))
        old i q y (no ne) = get_or-set_other w (line * stride + k) (i * stride + q) s 0 ne

        least : (i q : ℕ) → q < n → along l i q ≡ 0 → along (set l (line * stride + k) (v + 1)) i q ≢ 0 →
            Dec (i * stride + q ≡ line * stride + k) →
            LeastInk other inks link cross i n v q (along (set w (line * stride + k) s) i q)
        least i q lq y x (yes e) =
            let d = length-set w (line * stride + k) s in
            let ei : i ≡ line = omega arith in
            let eq : q ≡ k = omega arith in
            rw (ei, eq) (rw (get_or-set_same w (line * stride + k) s 0 (omega arith)) L)
        least i q lq y x (no ne) =
            absurd (x (get_or-set_other l (line * stride + k) (i * stride + q) (v + 1) 0 ne ∙ y))

    -- the inks stay small
    pub alone-lean : {l l' w w' : List ℕ} {b : Bool} → Lines cross n → 1 ≤ v →
        Alone other inks link cross line n k v l l' w w' b → line * stride + k < length l' →
        line * stride + k < length w' → Lean n m other inks → Lean m n l w → Lean m n l' w'
    alone-lean C pos A fl fw O L = parts-lean C pos (alone-parts A fl) (alone-inked A fw) O L

-- The run of crossing k, from lo to hi, and the first stop h on it.
module _ {other link : List ℕ} {line n k v lo hi h : ℕ} (lk : k < n) (s : RunStart link line k lo)
    (e : RunEnd link line n k hi) (F : FirstStop other line v lo hi h) where
  pub run-misses : h ≡ hi → (q : ℕ) → q < n → Linked link line k q → across other line q ≢ v
  run-misses z q lq j = let u = in-run q lk lq s e j in F.before q (omega (arith, u.1)) u.0

  pub run-least : {inks cross : List ℕ} {x : ℕ} → Least other inks cross line v h hi h hi (get_or cross k 0) x →
      LeastInk other inks link cross line n v k x
  run-least L =
      let le = e.le in
      let to = L.to in
      let from = L.from in
      let start = F.from in
      record {
        le = λ q lq j st. let u = in-run q lk lq s e j in L.le q (after q u.0 st (dec_lt q h)) u.1 st;
        q = L.q;
        below = omega arith;
        linked = run-joined s e k s.le e.after L.q (omega arith) L.to;
        stop = L.stop;
        ge = L.ge;
      }
    where
      after : (q : ℕ) → lo ≤ q → across other line q ≡ v → Dec (q < h) → h ≤ q
      after q f st (yes p) = absurd (F.before q p f st)
      after q f st (no p) = omega arith
