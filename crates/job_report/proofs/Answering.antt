-- The lines of a record's steps by the answers of the code are those by the answers of the definitions.
use Prim.Native.Nat.{ℕ, zero, suc, ◌+◌, ◌-◌, ◌*◌, ◌/◌, ◌≤◌}
use native.Mathlib.Omega.{arith}
use mathlib.Core.Path.{◌≡◌, refl, sym, ap, ap₂, ◌∙◌}
use mathlib.Core.Bool.{true}
use mathlib.Core.List.{List, [], ◌∷◌, ◌++◌}
use mathlib.Core.Option.{some}
use lib.ListN.{length, drop}
use lib.Seq.{drop-drop}
use Rattle.foil_spec.specs.Lists.{range, each}
use Rattle.foil_spec.specs.Limits.{max_strips, corner_places}
use Rattle.foil_spec.specs.Foil.{Point}
use Rattle.foil_spec.specs.Ledger.{strips_of, Answer, refused, accepted, laid, found, wrote, booked, number_of}
use Rattle.foil_spec.specs.Lent.{Lent, held}
use Rattle.foil_spec.specs.Job.{step_bits, RecordStep, board_step, patch_step, track_step, lift_step, leg_step, has, step_at}
use Rattle.foil_spec.specs.Job.{steps_at, record_steps}
use Rattle.list_laws.proofs.Tests.{both}
use Rattle.ledger_laws.proofs.Stored.{strips-fit, length-strips}
use Rattle.ledger_laws.proofs.Sound.{Sound}
use Rattle.std.specs.Prelude.{Some, Ok}
use Rattle.foil.specs.Contract.{Answer as Answered, answer_of}
use Rattle.foil.specs.declared.Accepted.TheVariants.{Laid}
use Rattle.job.specs.Contract.{set_below, told_at, told_by_bits, answers_of}
use Rattle.job.specs.Parts.{Whole}
use Rattle.job.proofs.ByBit.{said-none, said_here, SaidBy, told-by, told_in}
use Rattle.job.proofs.Replies.{Tracked}
use Rattle.lines.specs.Lines.{board_line, patch_line, lift_line, leg_line}
use Rattle.lines.specs.Output.{track_in, track_line, line_of_step, lines_of_steps}
use Rattle.job_report.specs.Told.{number_in, track_of, line_of, told_line, lines_of, answer_lines, FromBits}

-- ---- the line of a step

pub number-in : (a : Answer) → number_in (answer_of a) ≡ number_of a
unfolding number_in answer_of number_of
number-in (refused n) = refl
number-in accepted = refl
number-in (laid cs n) = refl
number-in (found n) = refl
number-in (wrote bs) = refl
number-in (booked k n) = refl

track-read : (room : ℕ) (ks : List ℕ) (a : Answer) → Tracked a room ks → track_of ks (answer_of a) ≡ track_in a
unfolding track_of track_in answer_of
track-read room ks (refused n) t = refl
track-read room ks accepted t = refl
track-read room ks (laid cs n) t =
    ap (λ (x : List Point). some (record { bends = n; corners = x })) (t.front cs n refl)
track-read room ks (found n) t = refl
track-read room ks (wrote bs) t = refl
track-read room ks (booked k n) t = absurd (t.unbooked k n refl)

step-read : (s : RecordStep) (room : ℕ) (ks : List ℕ) (a : Answer) → Tracked a room ks
    → line_of s ks (answer_of a) ≡ line_of_step s a
unfolding line_of line_of_step
step-read (board_step W H d) room ks a t = ap board_line (number-in a)
step-read (patch_step x0 y0 x1 y1) room ks a t = ap patch_line (number-in a)
step-read (track_step net S T) room ks a t = ap₂ (track_line net) (number-in a) (track-read room ks a t)
step-read (lift_step net) room ks a t = ap (lift_line net) (number-in a)
step-read (leg_step e) room ks a t = ap (leg_line e.net) (number-in a)

laid-few : (room : ℕ) (ks : List ℕ) (a : Answer) (k n : ℕ) → Tracked a room ks → answer_of a ≡ Ok (Laid k n) → k ≤ room / 2
unfolding answer_of
laid-few room ks (refused n) k i t e = absurd (let z : ◌≡◌ {A = ℕ} 0 1 = cc in omega arith)
laid-few room ks accepted k i t e = absurd (let z : ◌≡◌ {A = ℕ} 0 1 = cc in omega arith)
laid-few room ks (laid cs n) k i t e = let q : length cs ≡ k = cc in omega (arith, t.fits cs n refl)
laid-few room ks (found n) k i t e = absurd (let z : ◌≡◌ {A = ℕ} 0 1 = cc in omega arith)
laid-few room ks (wrote bs) k i t e = absurd (let z : ◌≡◌ {A = ℕ} 0 1 = cc in omega arith)
laid-few room ks (booked j n) k i t e = absurd (t.unbooked j n refl)

-- ---- the lines of the steps, bit by bit

no_lines : (ss : List RecordStep) → lines_of_steps ss [] ≡ []
unfolding lines_of_steps
no_lines [] = refl
no_lines (s ∷ ss) = refl

no_steps : (given : List Answer) → lines_of_steps [] given ≡ []
unfolding lines_of_steps
no_steps [] = refl
no_steps (a ∷ given) = refl

-- the answers that are left after one more bit
rest-after : (given : List Answer) (i : ℕ) → drop (i + 1) given ≡ drop 1 (drop i given)
rest-after given i = sym (drop-drop 1 i given)

module _ (bs : List ℕ) (at : ℕ) (ks : List ℕ) (room : ℕ) (given : List Answer) where
  -- the corners of every answer stand in the list
  abbrev AllTracked : Type 0
  AllTracked =
      (k j : ℕ) → k + suc j ≡ step_bits → (x : Answer) (rest : List Answer) → has bs at k ≡ true
      → drop (set_below (has bs at) k) given ≡ x ∷ rest → Tracked x room ks

  abbrev line : ℕ → List ℕ
  line k = told_line (step_at bs at k) ks (told_by_bits (answers_of (has bs at) given) k)

  module _ (tracked : AllTracked) where
    -- a bit that is set: its line, and those of the bits after it
    set_lines : (k n : ℕ) → k + suc n ≡ step_bits → has bs at k ≡ true → (ss : List RecordStep) (later : List ℕ)
        → later ≡ lines_of_steps ss (drop (set_below (has bs at) k + 1) given) → (left : List Answer)
        → drop (set_below (has bs at) k) given ≡ left
        → line k ++ later ≡ lines_of_steps (step_at bs at k ∷ ss) left
    unfolding told_at told_line lines_of_steps
    set_lines k n e set ss later f [] h =
        rw (
          told_in (has bs at) given k (omega arith),
          set,
          said-none given (set_below (has bs at) k) h,
          f,
          rest-after given (set_below (has bs at) k),
          h,
        )
        (no_lines ss)
    set_lines k n e set ss later f (x ∷ rest) h =
        rw (
          told_in (has bs at) given k (omega arith),
          set,
          said_here given (set_below (has bs at) k) x rest h,
          f,
          rest-after given (set_below (has bs at) k),
          h,
        )
        (ap (λ (l : List ℕ). l ++ lines_of_steps ss rest)
        (step-read (step_at bs at k) room ks x (tracked k n e x rest set h)))

    lines_from : (k n : ℕ) → k + n ≡ step_bits
        → each line (range k n) ≡ lines_of_steps (steps_at bs at (range k n)) (drop (set_below (has bs at) k) given)
    unfolding steps_at
    lines_from k zero e = sym (no_steps (drop (set_below (has bs at) k) given))
    lines_from k (suc n) e =
        let later = lines_from (suc k) n (omega arith) in
        both (has bs at k)
        (λ set.
        let next : set_below (has bs at) (suc k) ≡ set_below (has bs at) k + 1 = unfold set_below in rw set refl in
        rw set
        (set_lines k n e set (steps_at bs at (range (suc k) n)) (each line (range (suc k) n))
        (later ∙ ap (λ (i : ℕ). lines_of_steps (steps_at bs at (range (suc k) n)) (drop i given)) next)
        _ refl))
        (λ unset.
        let next : set_below (has bs at) (suc k) ≡ set_below (has bs at) k = unfold set_below in rw unset (omega arith) in
        let none : line k ≡ [] = unfold told_at told_line in rw (told_in (has bs at) given k (omega arith), unset) refl in
        rw unset
        (ap (λ (l : List ℕ). l ++ each line (range (suc k) n)) none
        ∙ later ∙ ap (λ (i : ℕ). lines_of_steps (steps_at bs at (range (suc k) n)) (drop i given)) next))

    pub answers-lines : answer_lines bs at ks (answers_of (has bs at) given) ≡ lines_of_steps (record_steps bs at) given
    unfolding lines_of record_steps
    answers-lines =
        lines_from 0 step_bits refl
        ∙ ap (λ (l : List Answer). lines_of_steps (steps_at bs at (range 0 step_bits)) l) (unfold set_below in refl)

    pub answers-from : Whole bs at → room ≤ 2 * corner_places → room ≤ length ks
        → FromBits bs at ks (answers_of (has bs at) given)
    answers-from w small long =
        record {
          bit = λ k l.
              let by : (a : Answered) → told_by_bits (answers_of (has bs at) given) k ≡ Some a → SaidBy (has bs at) given k a =
              λ a e. told-by (has bs at) given k a (sym (told_in (has bs at) given k l) ∙ e) in
              let few : (a : Answered) → told_by_bits (answers_of (has bs at) given) k ≡ Some a → (i n : ℕ) → a ≡ Ok (Laid i n)
              → i ≤ room / 2 =
              λ a e i n q.
              let s = by a e in
              laid-few room ks s.answer i n
              (tracked k (step_bits - suc k) (omega arith) s.answer s.rest s.set s.from) (s.is ∙ q) in
              record {
                whole = w;
                set = λ a e. (by a e).set;
                corners = λ a e.
                    record {
                      few = λ i n q. omega (arith, few a e i n q);
                      there = λ i n q. omega (arith, few a e i n q);
                    };
              };
        }

-- ---- the strips at the end of a job

pub strips-few : (m : Lent) → Sound m → m.board.strips ≤ max_strips
strips-few m fine =
    omega (arith, fine.counted, length-strips (strips_of (held m)), strips-fit (held m) fine.kept)
