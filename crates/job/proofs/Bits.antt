-- The step of a bit is what its arm does, with the fields that it reads.
use Prim.Native.Nat.{ℕ, zero, suc}
use mathlib.Core.Path.{◌≡◌, refl, sym, ap, ◌∙◌}
use mathlib.Core.Bool.{true, false}
use mathlib.Core.List.{List}
use mathlib.Core.Option.{Option, none, some}
use Rattle.foil_spec.specs.Foil.{Point, point, Entry, pen, Layout}
use Rattle.foil_spec.specs.Ledger.{Clearance, by_pen, by_reach, Step, new_foil, draw, lay, lift, put_leg, accepted, reads}
use Rattle.foil_spec.specs.Ledger.{says, settle, Room, short, After}
use Rattle.foil_spec.specs.Ledger.{Answer as Outcome}
use Rattle.foil_spec.specs.Lent.{Lent, sound, step_on, output_after}
use Rattle.foil_spec.specs.Job.{RecordStep, board_step, leg_step, as_step, has, field, step_at}
use Rattle.foil_spec.specs.declared.Board.{Board}
use Rattle.foil.specs.Contract.{Answer, Gave, OutputIn}
use Rattle.job.specs.Parts.{BitReady}

-- ---- the foil before it

reads-later : (bs : List ℕ) (at k : ℕ) → (k ≡ 0 → ⊥) → reads (as_step (step_at bs at k)) ≡ true
unfolding step_at as_step reads
reads-later bs at zero h = absurd (h refl)
reads-later bs at (suc zero) h = refl
reads-later bs at (suc (suc zero)) h = refl
reads-later bs at (suc (suc (suc zero))) h = refl
reads-later bs at (suc (suc (suc (suc k)))) h = refl

-- it keeps the rules before every step but the board's
pub ready-sound : {bs : List ℕ} {at k : ℕ} {m : Lent} → BitReady bs at k m → (k ≡ 0 → ⊥) → sound m ≡ true
ready-sound {bs} {at} {k} b h = b.fine (reads-later bs at k h)

-- the board's step is that of bit 0
pub board-set : {bs : List ℕ} {at k : ℕ} {m : Lent} → BitReady bs at k m → k ≡ 0 → has bs at 0 ≡ true
board-set {bs} {at} b z = ap (has bs at) (sym z) ∙ b.set

-- ---- the steps that write no corners

pub still-output : (o : Option ℕ) (a : After Outcome Lent) (m : Lent) (out : List ℕ) → a.answer ≡ accepted
    → out ≡ output_after (settle o a m).answer out
unfolding settle output_after
still-output none a m out e = rw e refl
still-output (some n) a m out e = refl

module _ (c : Step) (still : (l : Layout) → says c l ≡ accepted) (limit : ℕ) (m : Lent) (out : List ℕ)
    (d : Answer) (b : Board) (t s : List ℕ) where
  still-done : ((r : Room) → short r ≡ false → r.limit ≡ limit → Gave (step_on r c m) d b t s)
      → OutputIn c limit m out d b t s out
  unfolding step_on
  still-done h r long few room =
      record { gave = h r long few; output = still-output _ _ m out (still _) }

-- ---- what the board keeps clear

module _ (bs : List ℕ) (at : ℕ) where
  -- the board's step, whatever it keeps clear
  abbrev begins : Clearance → RecordStep
  begins c = board_step (field bs at 0 0) (field bs at 0 1) c

  pub by-pen : has bs at 5 ≡ true → (h g : ℕ) → h ≡ field bs at 5 0 → g ≡ field bs at 5 1
      → begins (by_pen (pen h g)) ≡ step_at bs at 0
  unfolding step_at
  by-pen set h g e f = rw (set, e, f) refl

  pub by-reach : has bs at 5 ≡ false → (d : ℕ) → d ≡ field bs at 0 2 → begins (by_reach d) ≡ step_at bs at 0
  unfolding step_at
  by-reach unset d e = rw (unset, e) refl

-- ---- one law a bit

module _ (bs : List ℕ) (at k limit : ℕ) (m : Lent) (out : List ℕ) (d : Answer) (b : Board) (t s : List ℕ) where
  abbrev Does : Step → List ℕ → Type 0
  Does c out' = OutputIn c limit m out d b t s out'

  pub does-board : k ≡ 0 → (w h : ℕ) (c : Clearance) → w ≡ field bs at 0 0 → h ≡ field bs at 0 1
      → board_step (field bs at 0 0) (field bs at 0 1) c ≡ step_at bs at 0
      → ((r : Room) → short r ≡ false → Gave (step_on r (new_foil w h c) m) d b t s) → Does (as_step (step_at bs at k)) out
  unfolding as_step says
  does-board z w h c f g e done =
      rw (z, ← e, ← f, ← g)
      (still-done (new_foil w h c) (λ l. refl) limit m out d b t s (λ r long few. done r long))

  pub does-patch : k ≡ 1 → (x0 y0 x1 y1 : ℕ) → x0 ≡ field bs at 1 0 → y0 ≡ field bs at 1 1 → x1 ≡ field bs at 1 2
      → y1 ≡ field bs at 1 3
      → ((r : Room) → short r ≡ false → r.limit ≡ limit → Gave (step_on r (draw x0 y0 x1 y1) m) d b t s)
      → Does (as_step (step_at bs at k)) out
  unfolding step_at as_step says
  does-patch z x0 y0 x1 y1 e f g h done =
      rw (z, ← e, ← f, ← g, ← h) (still-done (draw x0 y0 x1 y1) (λ l. refl) limit m out d b t s done)

  pub does-track : (out' : List ℕ) → k ≡ 2 → (net : ℕ) (S T : Point) → net ≡ field bs at 2 0
      → S ≡ point (field bs at 2 1) (field bs at 2 2) → T ≡ point (field bs at 2 3) (field bs at 2 4)
      → Does (lay net S T) out' → Does (as_step (step_at bs at k)) out'
  unfolding step_at as_step
  does-track out' z net S T e f g done = rw (z, ← e, ← f, ← g) done

  pub does-lift : k ≡ 3 → (net : ℕ) → net ≡ field bs at 3 0
      → ((r : Room) → short r ≡ false → Gave (step_on r (lift net) m) d b t s) → Does (as_step (step_at bs at k)) out
  unfolding step_at as_step says
  does-lift z net e done =
      rw (z, ← e) (still-done (lift net) (λ l. refl) limit m out d b t s (λ r long few. done r long))

  pub does-leg : k ≡ 4 → (e : Entry) → leg_step e ≡ step_at bs at 4
      → ((r : Room) → short r ≡ false → r.limit ≡ limit → Gave (step_on r (put_leg e) m) d b t s)
      → Does (as_step (step_at bs at k)) out
  unfolding as_step says
  does-leg z e f done = rw (z, ← f) (still-done (put_leg e) (λ l. refl) limit m out d b t s done)
