-- The line of a step, by what the step told.
use Prim.Native.Nat.{ℕ, zero, suc, ◌+◌, ◌≤◌, ◌<◌}
use native.Mathlib.Omega.{arith}
use mathlib.Core.Path.{◌≡◌, refl, sym, ap, ◌∙◌, subst}
use mathlib.Core.List.{List, [], ◌∷◌, ◌++◌, append-nil}
use mathlib.Core.Option.{none}
use lib.ListN.{length}
use Rattle.foil_spec.specs.Lists.{range, each}
use Rattle.foil_spec.specs.Corners.{corners_in}
use Rattle.foil_spec.specs.Job.{map_bits, step_bits, field_count, field, step_at}
use Rattle.std.specs.Prelude.{Some, None, Ok, Err}
use Rattle.foil.specs.Contract.{Answer}
use Rattle.foil.specs.declared.Accepted.{Accepted}
use Rattle.foil.specs.declared.Accepted.TheVariants.{Done, Laid, Found, Wrote}
use Rattle.list_laws.proofs.Members.{each_append}
use Rattle.job.specs.Contract.{Told, told_by_bits}
use Rattle.job.specs.Parts.{Given}
use Rattle.job.specs.declared.Answers.{Answers}
use Rattle.job.proofs.Places.{field-given}
use Rattle.job.proofs.Acting.{range_split}
use Rattle.lines.specs.Lines.{board_line, patch_line, track_refused, track_laid, lift_line, leg_line}
use Rattle.lines.specs.Output.{track_line}
use Rattle.putting.specs.Put.{Put}
use Rattle.putting.proofs.Putting.{put-none, put_then}
use Rattle.job_report.specs.Told.{number_in, track_of, lay_line, line_of, told_line, lines_of, bytes_below, FromBit}

-- ---- the line of a track

module _ (net : ℕ) (ks : List ℕ) {a : Answer} {o : List ℕ} {at : ℕ} where
  pub laid-line : {o' : List ℕ} {r k n : ℕ} → a ≡ Ok (Laid k n) → Put o at (track_laid net n (corners_in ks k)) o' r
      → Put o at (lay_line net ks a) o' r
  unfolding track_of track_line
  laid-line e p = rw e p

pub refused-line : (net : ℕ) (ks : List ℕ) (a : Answer) {o o' : List ℕ} {at r n : ℕ}
    → ((x : Accepted) → a ≡ Ok x → ⊥) → n ≡ number_in a → Put o at (track_refused net n) o' r
    → Put o at (lay_line net ks a) o' r
unfolding number_in track_of track_line
refused-line net ks (Err k) h e p = rw (← e) p
refused-line net ks (Ok x) h e p = absurd (h x refl)

no-track : (ks : List ℕ) (x : Accepted) → ((k n : ℕ) → x ≡ Laid k n → ⊥) → track_of ks (Ok x) ≡ none
unfolding track_of
no-track ks Done h = refl
no-track ks (Laid k n) h = absurd (h k n refl)
no-track ks (Found k) h = refl
no-track ks (Wrote k) h = refl

pub unlaid-line : (net : ℕ) (ks : List ℕ) (x : Accepted) {a : Answer} {o o' : List ℕ} {at r : ℕ} → a ≡ Ok x
    → ((k i : ℕ) → x ≡ Laid k i → ⊥) → Put o at (track_refused net 0) o' r → Put o at (lay_line net ks a) o' r
unfolding number_in track_line
unlaid-line net ks x e h p = rw (e, no-track ks x h) p

-- ---- the net of a step that was run

pub net-given : {bs : List ℕ} {at : ℕ} {ks : List ℕ} {k : ℕ} {t : Told} (a : Answer) → t ≡ Some a → FromBit bs at ks k t
    → (j : ℕ) → k ≡ j → j < map_bits → 0 < field_count j → Given bs at j 0
net-given {bs} {at} {ks} {k} a e f j q l s =
    subst (λ (i : ℕ). i < map_bits → 0 < field_count i → Given bs at i 0) q
    (λ h g. field-given bs at f.whole k 0 h g (f.set a e)) l s

-- ---- the line of a bit

module _ (bs : List ℕ) (place : ℕ) (ks : List ℕ) (k : ℕ) {t : Told} {o : List ℕ} {at : ℕ} where
  pub no_line : t ≡ None → at ≤ length o → Put o at (told_line (step_at bs place k) ks t) o at
  unfolding told_line
  no_line e l = rw e (put-none o at l)

  module _ {o' : List ℕ} {r : ℕ} (a : Answer) (e : t ≡ Some a) where
    pub line-board : k ≡ 0 → (n : ℕ) → n ≡ number_in a → Put o at (board_line n) o' r
        → Put o at (told_line (step_at bs place k) ks t) o' r
    unfolding told_line line_of step_at
    line-board z n f p = rw (e, z, ← f) p

    pub line-patch : k ≡ 1 → (n : ℕ) → n ≡ number_in a → Put o at (patch_line n) o' r
        → Put o at (told_line (step_at bs place k) ks t) o' r
    unfolding told_line line_of step_at
    line-patch z n f p = rw (e, z, ← f) p

    pub line-track : k ≡ 2 → (net : ℕ) → net ≡ field bs place 2 0 → Put o at (lay_line net ks a) o' r
        → Put o at (told_line (step_at bs place k) ks t) o' r
    unfolding told_line line_of step_at
    line-track z net f p = rw (e, z, ← f) p

    pub line-lift : k ≡ 3 → (net : ℕ) → net ≡ field bs place 3 0 → (n : ℕ) → n ≡ number_in a
        → Put o at (lift_line net n) o' r → Put o at (told_line (step_at bs place k) ks t) o' r
    unfolding told_line line_of step_at
    line-lift z net f n g p = rw (e, z, ← f, ← g) p

    pub line-leg : k ≡ 4 → (net : ℕ) → net ≡ field bs place 4 0 → (n : ℕ) → n ≡ number_in a
        → Put o at (leg_line net n) o' r → Put o at (told_line (step_at bs place k) ks t) o' r
    unfolding told_line line_of step_at
    line-leg z net f n g p = rw (e, z, ← f, ← g) p

-- ---- how many bytes they take

pub bytes-rise : (k : ℕ) → k < step_bits → (bytes_below k ≤ bytes_below (k + 1)) × (bytes_below (k + 1) ≤ 98624)
unfolding bytes_below
bytes-rise zero h = (omega arith, omega arith)
bytes-rise (suc zero) h = (omega arith, omega arith)
bytes-rise (suc (suc zero)) h = (omega arith, omega arith)
bytes-rise (suc (suc (suc zero))) h = (omega arith, omega arith)
bytes-rise (suc (suc (suc (suc zero)))) h = (omega arith, omega arith)
bytes-rise (suc (suc (suc (suc (suc k))))) h = absurd (omega arith)

-- the line of bit j, of at most n bytes, has room, and ends where that of the next bit may begin
module _ {at k long : ℕ} (pre : (k < step_bits) × (at ≤ bytes_below k) × (98624 ≤ long)) (j n : ℕ) (e : k ≡ j)
    (longest : bytes_below (j + 1) ≡ bytes_below j + n) where
  grows : bytes_below (k + 1) ≡ bytes_below k + n
  grows = rw e longest

  pub line-room : at + n ≤ long
  line-room = omega (arith, grows, (bytes-rise k pre.0).1, pre.1, pre.2)

  pub line-end : {r : ℕ} → r ≤ at + n → r ≤ bytes_below (k + 1)
  line-end h = omega (arith, grows, pre.1, h)

-- ---- the lines of the bits below one

module _ (bs : List ℕ) (at : ℕ) (ks : List ℕ) (a : Answers) {o : List ℕ} where
  pub lines_none : Put o 0 (lines_of bs at ks a (range 0 0)) o 0
  unfolding lines_of
  lines_none = put-none o 0 (omega arith)

  pub lines_more : {o₁ o₂ : List ℕ} {p q : ℕ} (k : ℕ) (t : Told) → t ≡ told_by_bits a k
      → Put o 0 (lines_of bs at ks a (range 0 k)) o₁ p → Put o₁ p (told_line (step_at bs at k) ks t) o₂ q
      → Put o 0 (lines_of bs at ks a (range 0 (k + 1))) o₂ q
  unfolding lines_of
  lines_more {o₁} {o₂} {p} {q} k t e f g =
      let line : ℕ → List ℕ = λ j. told_line (step_at bs at j) ks (told_by_bits a j) in
      subst (λ (l : List ℕ). Put o 0 l o₂ q)
      (sym (ap (each line) (range_split k 1) ∙ each_append line (range 0 k) (k ∷ [])
      ∙ ap (λ (l : List ℕ). each line (range 0 k) ++ l) (append-nil (line k))))
      (put_then f (subst (λ (u : Told). Put o₁ p (told_line (step_at bs at k) ks u) o₂ q) e g))

  pub lines-all : {o₁ : List ℕ} {p : ℕ} (k : ℕ) → k ≡ step_bits → Put o 0 (lines_of bs at ks a (range 0 k)) o₁ p
      → Put o 0 (lines_of bs at ks a (range 0 step_bits)) o₁ p
  lines-all {o₁} {p} k e f = subst (λ (n : ℕ). Put o 0 (lines_of bs at ks a (range 0 n)) o₁ p) e f
