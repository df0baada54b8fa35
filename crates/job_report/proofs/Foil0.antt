-- A record on foil 0 of a sheet else empty: it has the room of a job, goes as on the foil alone, and leaves such a
-- sheet.
use Prim.Native.Nat.{ℕ, ◌*◌, ◌≤◌}
use native.Mathlib.Omega.{arith}
use mathlib.Core.Path.{◌≡◌, refl, sym, ap, ◌∙◌, subst}
use mathlib.Core.Bool.{true, false, not}
use mathlib.Core.List.{List, ◌∷◌}
use mathlib.Core.Option.{Option, none, some}
use lib.ListN.{length, get_or, replicate}
use Rattle.foil_spec.specs.Limits.{max_entries, strips_size, corner_places, sheet_size}
use Rattle.foil_spec.specs.Ledger.{Room, with_output, Step, short, Answer, first, After, settle, after_lent}
use Rattle.foil_spec.specs.Lent.{Lent, held, sound}
use Rattle.foil_spec.specs.Job.{job_room, has}
use Rattle.foil_spec.specs.Calls.{run_record, RecordReply, refused_whole, Reply, replied, too_large, reply, record_on}
use Rattle.foil_spec.specs.Calls.{output_by}
use Rattle.foil_spec.specs.Sheet.{counts_ok, SheetLent, no_board, counts, view, put_back}
use Rattle.foil_spec.specs.Sheet.{sheet_room, writes, sheet_step, opening, sheet_refusal, sheet_call, unless_whole}
use Rattle.foil_spec.specs.Sheet.{sheet_record}
use Rattle.foil_spec.specs.declared.Board.{Board}
use Rattle.list_laws.proofs.Tests.{both}
use Rattle.ledger_laws.proofs.Replies.{shown_by, as-reply-is, reply-keeps}
use Rattle.job.specs.Contract.{Reply as JobReply, reply_of}
use Rattle.sheet_laws.specs.Jobs.{only_foil0}
use Rattle.sheet_laws.proofs.Views.{Stands, stands-in}
use Rattle.sheet_laws.proofs.Saved.{records-as-calls, record-view, record-stands}
use Rattle.sheet_laws.proofs.Jobs.{all-to-one, kept-room, job-room}
use Rattle.sheet_rows.specs.declared.Sheet.{Sheet}
use Rattle.sheet_rows.specs.Rows.{sheet_lent}
use Rattle.sheet.specs.Contract.{on_sheet, SheetRecordDone}
use Rattle.job_report.specs.Report.{ran_record, RecordRan}

-- ---- its room

module _ (b : Board) (t s : List ℕ) where
  has_room : (output : ℕ) → length t ≡ sheet_size → length s ≡ strips_size → output ≡ 2 * corner_places
      → sheet_room 0 (counts (b ∷ replicate 7 no_board)) (only_foil0 b t s) output ≡ job_room
  unfolding sheet_room counts job_room
  has_room output e f g = rw (e, f, g, sym (all-to-one b.entries)) refl

  kept-stands : counts_ok (counts (b ∷ replicate 7 no_board)) ≡ true → sheet_size ≤ length t
      → Stands job_room 0 (only_foil0 b t s)
  kept-stands kept long = stands-in job_room 0 (only_foil0 b t s) (kept-room b t s kept long)

  pub few-stands : b.entries ≤ max_entries → sheet_size ≤ length t → Stands job_room 0 (only_foil0 b t s)
  few-stands few long = stands-in job_room 0 (only_foil0 b t s) (job-room b t s few long)

-- ---- it goes as on the foil alone

-- the record at a place gave a on the sheet x: foil 0 alone goes the same way, and stands on the sheet as before
pub record Alone (bs : List ℕ) (at : ℕ) (x : SheetLent) (a : After RecordReply SheetLent) : Type 0 where
  pub is : record_on job_room bs at (view 0 x) ≡ shown_by (view 0) a
  pub stands : Stands job_room 0 a.state

module _ (bs : List ℕ) (at : ℕ) (x : SheetLent) where
  pub as-alone : Stands job_room 0 x → Alone bs at x (ran_record bs at x)
  as-alone w =
      record {
        is = record-view job_room 0 (omega arith) bs at x w;
        stands = record-stands job_room 0 (omega arith) bs at x w;
      }

  -- where the counts break a limit, it is refused by 18 or 13
  turned_down : counts_ok (counts x.boards) ≡ false → (P : RecordReply → Type 0)
      → ((n : ℕ) → P (refused_whole n) → ⊥) → P (ran_record bs at x).answer → ⊥
  unfolding sheet_record sheet_refusal opening after_lent first short job_room unless_whole
  turned_down broken P never h =
      both (too_large bs) (λ large. never 18 (rw (broken, large) at h)) (λ small. never 13 (rw (broken, small) at h))

-- so a record that is not refused as a whole goes as on the foil alone; P holds of its reply and of no refusal
pub unrefused-alone : (bs : List ℕ) (at : ℕ) (b : Board) (t s : List ℕ) → sheet_size ≤ length t
    → (P : RecordReply → Type 0) → ((n : ℕ) → P (refused_whole n) → ⊥) → P (ran_record bs at (only_foil0 b t s)).answer
    → record_on job_room bs at (view 0 (only_foil0 b t s)) ≡ shown_by (view 0) (ran_record bs at (only_foil0 b t s))
unrefused-alone bs at b t s long P never h =
    both (counts_ok (counts (b ∷ replicate 7 no_board)))
    (λ kept. (as-alone bs at (only_foil0 b t s) (kept-stands b t s kept long)).is)
    (λ broken. absurd (turned_down bs at (only_foil0 b t s) broken P never h))

-- ---- it leaves such a sheet

-- no foil is begun but foil 0
abbrev Only : SheetLent → Type 0
Only x = x.boards ≡ get_or x.boards 0 no_board ∷ replicate 7 no_board

put_only : (x : SheetLent) (v : Lent) → Only x → Only (put_back 0 x v)
unfolding put_back
put_only x v e = rw e refl

settled_only : (o : Option ℕ) (a : After Answer SheetLent) (x : SheetLent) → Only a.state → Only x
    → Only (settle o a x).state
unfolding settle
settled_only none a x e f = e
settled_only (some n) a x e f = f

step-only : (r : Room) (c : Step) (x : SheetLent) → Only x → Only (sheet_step 0 r c x).state
unfolding sheet_step
step-only r c x e = settled_only _ _ x (both (writes c) (λ w. rw w (put_only x _ e)) (λ w. rw w e)) e

unless-only : (o : Option ℕ) (a : After RecordReply SheetLent) (x : SheetLent) → Only a.state → Only x
    → Only (unless_whole o a x).state
unfolding unless_whole
unless-only none a x e f = e
unless-only (some n) a x e f = f

record-only : (bs : List ℕ) (at : ℕ) (x : SheetLent) → Only x → Only (ran_record bs at x).state
unfolding sheet_record reply
record-only bs at x e =
    unless-only _ _ x
    (reply-keeps (sheet_step 0) Only job_room (λ n. step-only (with_output job_room n)) (not (sound (view 0 x)))
    (run_record bs at) (held (view 0 x)) x e)
    e

-- ---- what `run_record` gave

module _ (bs : List ℕ) (at : ℕ) (b : Board) (t s out : List ℕ) (r : JobReply) (sheet : Sheet)
    (t' s' out' : List ℕ) where
  abbrev m : SheetLent
  m = only_foil0 b t s

  only-left : (c : Board) → c ≡ get_or sheet.boards 0 no_board
      → sheet_lent sheet.boards t' s' ≡ (ran_record bs at m).state → only_foil0 c t' s' ≡ (ran_record bs at m).state
  only-left c is e =
      let only = subst Only (sym e) (record-only bs at m refl) in
      ap (λ (bs' : List Board). sheet_lent bs' t' s')
      (ap (λ (a : Board). a ∷ replicate 7 no_board) is ∙ sym only)
      ∙ e

  pub record-ran : (bs₀ : List Board) → bs₀ ≡ b ∷ replicate 7 no_board
      → SheetRecordDone 0 bs at (sheet_lent bs₀ t s) out r sheet t' s' out'
      → length t ≡ sheet_size → length s ≡ strips_size → length out ≡ 2 * corner_places
      → (c : Board) → c ≡ get_or sheet.boards 0 no_board → RecordRan bs at m out r c t' s' out'
  record-ran bs₀ q given e f g c is =
      let done = subst (λ (x : List Board). SheetRecordDone 0 bs at (sheet_lent x t s) out r sheet t' s' out') q given in
      let same : on_sheet 0 (run_record bs at) m (length out) ≡ replied (ran_record bs at m) =
      ap (λ (x : Room). sheet_call x 0 (run_record bs at) m) (has_room b t s (length out) e f g)
      ∙ records-as-calls job_room 0 bs at m in
      let came-to = as-reply-is done.tells.came_to (ran_record bs at m).answer
      (sym done.tells.is ∙ ap (λ (a : After Reply SheetLent). a.answer) same) in
      record {
        places = omega (arith, e);
        reply = done.tells.reply ∙ ap (reply_of (has bs at)) came-to;
        state =
            only-left c is (done.state ∙ ap (λ (a : After Reply SheetLent). a.state) same);
        output = done.output ∙ ap (λ (a : After Reply SheetLent). output_by a.answer out) same;
      }
