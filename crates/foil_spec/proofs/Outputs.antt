-- What a call leaves in its output list.
use Prim.Native.Nat.{ℕ}
use mathlib.Core.Path.{◌≡◌, refl, ap, ◌∙◌, subst}
use mathlib.Core.Bool.{Bool, true, false, ◌||◌, true≢false}
use mathlib.Core.List.{List, [], ◌∷◌, ◌++◌}
use lib.ListN.{length, take, drop}
use lib.Seq.{take-append_seam, drop-append_seam}
use Rattle.foil_spec.specs.Lists.{any, each}
use Rattle.foil_spec.specs.Corners.{point_numbers}
use Rattle.foil_spec.specs.Ledger.{Answer, refused, accepted, laid, found, wrote, booked}
use Rattle.foil_spec.specs.Lent.{over_front, output_after, numbers_out}
use Rattle.foil_spec.specs.Calls.{Reply, answered, ran, at_end, measured, laid_all, answers_in, output_all, output_by}
use Rattle.foil_spec.specs.Sequence.{lend, Left, leaves, run_lent}
use Rattle.foil_spec.specs.Sheet.{lend_sheet, SheetLeft, leaves_sheet, run_sheet}
use Rattle.foil_spec.specs.Outputs.{puts, AtFront, OutputLeft, OutputsLeft, SheetOutputsLeft}

over-front : (ns out : List ℕ) → AtFront ns out (over_front ns out)
unfolding over_front
over-front ns out =
    record {
      front = take-append_seam ns (drop (length ns) out);
      rest = drop-append_seam ns (drop (length ns) out);
    }

-- an answer that puts nothing there leaves the list
unchanged : (a : Answer) (out : List ℕ) → puts a ≡ false → output_after a out ≡ out
unfolding puts output_after
unchanged (refused n) out h = refl
unchanged accepted out h = refl
unchanged (laid cs n) out h = absurd (true≢false h)
unchanged (found n) out h = refl
unchanged (wrote bs) out h = absurd (true≢false h)
unchanged (booked k n) out h = refl

or-both : (a b : Bool) → (a || b) ≡ false → (a ≡ false) × (b ≡ false)
or-both true b h = absurd (true≢false h)
or-both false b h = (refl, h)

all-unchanged : (given : List Answer) (out : List ℕ) → any puts given ≡ false → output_all given out ≡ out
unfolding output_all
all-unchanged [] out h = refl
all-unchanged (a ∷ given) out h =
    let k = or-both (puts a) (any puts given) h in
    ap (output_all given) (unchanged a out k.0) ∙ all-unchanged given out k.1

none_out : (given : List Answer) → any puts given ≡ false → each numbers_out given ≡ []
unfolding numbers_out
none_out [] h = refl
none_out (a ∷ given) h =
    let k = or-both (puts a) (any puts given) h in
    rw (unchanged a [] k.0) (none_out given k.1)

output-after : (earlier : List Answer) (a : Answer) (later : List Answer) (out : List ℕ)
    → output_all (earlier ++ (a ∷ later)) out ≡ output_all later (output_after a (output_all earlier out))
unfolding output_all
output-after [] a later out = refl
output-after (b ∷ earlier) a later out = output-after earlier a later (output_after b out)

reply-still : (a : Reply) (out : List ℕ) → any puts (answers_in a) ≡ false → output_by a out ≡ out
unfolding answers_in output_by
reply-still (answered x) out h = unchanged x out (or-both (puts x) false h).0
reply-still (ran given place) out h = all-unchanged given out h
reply-still at_end out h = refl
reply-still (measured x) out h = refl
reply-still (laid_all given) out h = rw (none_out given h) (unfold over_front in refl)

output-left : (a : Reply) (out : List ℕ) → OutputLeft a out (output_by a out)
unfolding output_by output_after
output-left a out =
    record {
      corners = λ cs n e. rw e (over-front (each point_numbers cs) out);
      numbers = λ bs e. rw e (over-front bs out);
      in-record = λ earlier cs n later place e h.
          rw e
          (ap (take (length (each point_numbers cs)))
          (output-after earlier (laid cs n) later out
          ∙ all-unchanged later (output_after (laid cs n) (output_all earlier out)) h)
          ∙ (over-front (each point_numbers cs) (output_all earlier out)).front);
      still = reply-still a out;
    }

pub outputs-left : OutputsLeft
unfolding run_lent leaves
outputs-left m c cs o os e =
    let is : leaves c (lend c m).answer (lend c m).state ≡ o = cc in
    subst (λ (x : Left). OutputLeft x.reply c.output x.output) is (output-left (lend c m).answer c.output)

pub sheet-outputs-left : SheetOutputsLeft
unfolding run_sheet leaves_sheet
sheet-outputs-left m c cs o os e =
    let is : leaves_sheet c (lend_sheet c m).answer (lend_sheet c m).state ≡ o = cc in
    subst (λ (x : SheetLeft). OutputLeft x.reply c.output x.output) is
    (output-left (lend_sheet c m).answer c.output)
