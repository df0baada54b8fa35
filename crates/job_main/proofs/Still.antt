-- What is still to be written of a job's output: after each record, the lines of those to come.
use Prim.Native.Nat.{ℕ, zero, suc, ◌+◌, ◌*◌, ◌≤◌, ◌<◌}
use native.Mathlib.Omega.{arith}
use mathlib.Core.Path.{◌≡◌, refl, sym, ap, ◌∙◌, subst}
use mathlib.Core.List.{List, [], ◌++◌}
use mathlib.Core.Option.{Option, none, some}
use lib.ListN.{length}
use Rattle.foil_spec.specs.Limits.{max_bytes, sheet_size}
use Rattle.foil_spec.specs.Calls.{place_after}
use Rattle.foil_spec.specs.Sheet.{SheetLent, no_board}
use Rattle.foil_spec.specs.declared.Board.{Board}
use Rattle.std.specs.Prelude.{Some, None}
use Rattle.lines.specs.Output.{output}
use Rattle.putting.proofs.Putting.{put-length}
use Rattle.sheet_laws.specs.Jobs.{only_foil0}
use Rattle.job_report.specs.Report.{ran_record, record_lines, onward, report_from, RecordReported}
use Rattle.job_report.specs.Writing.{NextOf}
use Rattle.job_report.specs.declared.Reported.{Reported}
use Rattle.job_report.proofs.Output.{writes_output}
use Rattle.job_report.proofs.Places.{at_place, nowhere}
use Rattle.job_report.proofs.Writing.{Rest, all_rest, none_rest, next-part, after-part, put_front}

-- after so many records and so many bytes the next record is at a place of the file, on foil 0 of m
pub record Still (bs : List ℕ) (written count at : ℕ) (m : SheetLent) : Type 0 where
  -- how many records may come
  pub more : ℕ
  pub counted : more + count ≡ suc max_bytes
  pub rest : Rest (output bs) written (report_from more bs at m)
  pub few : written ≤ count * 131072

pub none_yet : (bs t s : List ℕ) (b : Board) → b ≡ no_board → length t ≡ sheet_size
    → Still bs 0 0 0 (only_foil0 b t s)
none_yet bs t s b e long =
    let none-there : b.entries ≡ 0 = ap (λ (x : Board). x.entries) e in
    record {
      more = suc max_bytes;
      counted = omega arith;
      rest =
          subst (Rest (output bs) 0) (sym (writes_output bs b t s (omega arith) (omega arith)))
          (all_rest (output bs));
      few = omega arith;
    }

onward-at : (o : Option ℕ) (p : ℕ) (rest : ℕ → List ℕ) → o ≡ some p → onward o rest ≡ rest p
unfolding onward
onward-at o p rest e = rw e refl

onward-none : (o : Option ℕ) (rest : ℕ → List ℕ) → o ≡ none → onward o rest ≡ []
unfolding onward
onward-none o rest e = rw e refl

-- the record at the place, and how many may come after it
record Begun (bs : List ℕ) (written count at : ℕ) (m : SheetLent) : Type 0 where
  after : ℕ
  counted : suc after + count ≡ suc max_bytes
  rest : Rest (output bs) written
      (record_lines bs at m
      ++ onward (place_after (ran_record bs at m).answer)
      (λ (n : ℕ). report_from after bs n (ran_record bs at m).state))

begun : (bs : List ℕ) (written count at : ℕ) (m : SheetLent) (n : ℕ) → n + count ≡ suc max_bytes → count < suc max_bytes
    → Rest (output bs) written (report_from n bs at m) → Begun bs written count at m
unfolding report_from
begun bs written count at m zero q going r = absurd (omega arith)
begun bs written count at m (suc n) q going r = record { after = n; counted = q; rest = r }

-- it was run, and has these lines
module _ (bs : List ℕ) (written count at : ℕ) (m : SheetLent) (now : Still bs written count at m)
    (going : count < suc max_bytes) (out old new : List ℕ) (r : Reported) (b : Board) (t s out' : List ℕ)
    (told : RecordReported bs at m out old new r b t s out') (small : r.size ≤ 131072) where
  abbrev this : Begun bs written count at m
  this = begun bs written count at m now.more now.counted going now.rest

  abbrev later : ℕ → List ℕ
  later n = report_from this.after bs n (ran_record bs at m).state

  sized : r.size ≡ length (record_lines bs at m)
  sized = omega (arith, told.lines.next)

  pub next-lines : NextOf (output bs) written new r.size
  next-lines =
      next-part (record_lines bs at m) (onward (place_after (ran_record bs at m).answer) later) r.size sized
      this.rest new (omega (arith, told.lines.fits, put-length told.lines, sized)) (put_front told.lines)
      (omega (arith, now.few, small, going))

  -- so many are written after it
  module _ (written' : ℕ) (more : written' ≡ written + r.size) where
    after-it : Rest (output bs) written' (onward (place_after (ran_record bs at m).answer) later)
    after-it =
        subst (λ (k : ℕ). Rest (output bs) k (onward (place_after (ran_record bs at m).answer) later)) (sym more)
        (after-part (record_lines bs at m) (onward (place_after (ran_record bs at m).answer) later) r.size sized
        this.rest)

    pub goes_on : (p : ℕ) → r.next ≡ Some p → Still bs written' (count + 1) p (only_foil0 b t s)
    goes_on p e =
        record {
          more = this.after;
          counted = omega (arith, this.counted);
          rest =
              subst (λ (x : SheetLent). Rest (output bs) written' (report_from this.after bs p x)) (sym told.state)
              (subst (Rest (output bs) written')
              (onward-at (place_after (ran_record bs at m).answer) p later (at_place _ p (sym told.next ∙ e)))
              after-it);
          few = omega (arith, now.few, small, more);
        }

    pub ends : r.next ≡ None → written' ≡ length (output bs)
    ends e =
        none_rest
        (subst (Rest (output bs) written')
        (onward-none (place_after (ran_record bs at m).answer) later (nowhere _ (sym told.next ∙ e)))
        after-it)

-- no record may come
pub all_told : (bs : List ℕ) (written count at : ℕ) (m : SheetLent) → Still bs written count at m
    → suc max_bytes ≤ count → written ≡ length (output bs)
unfolding report_from
all_told bs written count at m now over = go now.more now.counted now.rest
  where
    go : (n : ℕ) → n + count ≡ suc max_bytes → Rest (output bs) written (report_from n bs at m)
        → written ≡ length (output bs)
    go zero q r = none_rest r
    go (suc n) q r = absurd (omega arith)
