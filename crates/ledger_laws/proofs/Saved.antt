-- What save wrote reads back, and save refuses by 11 the foils whose file would not.
use Prim.Native.Nat.{ℕ, ◌+◌, ◌≤◌}
use native.Mathlib.Omega.{arith}
use mathlib.Core.Path.{◌≡◌, refl, sym, ap, ◌∙◌, subst}
use mathlib.Core.Bool.{true, false, not, or-true}
use mathlib.Core.List.{List}
use mathlib.Core.Logic.{◌↔◌}
use mathlib.Core.Option.{Option, none, some}
use lib.ListN.{length, take}
use Rattle.foil_spec.specs.Lists.{each}
use Rattle.foil_spec.specs.Limits.{table_size, strips_size}
use Rattle.foil_spec.specs.Foil.{entry_numbers, Layout}
use Rattle.foil_spec.specs.Saving.{job_of}
use Rattle.foil_spec.specs.Ledger.{strips_of, beginning_too_fine, Room, short, save, refused, wrote, says, first, reads}
use Rattle.foil_spec.specs.Ledger.{refusals, After, settle, refusal_of}
use Rattle.foil_spec.specs.Lent.{Lent, strip_numbers, written, store, layout_of, held, layout_ok, sound, step_on}
use Rattle.foil_spec.specs.Calls.{RecordReply, record_on, read_job}
use Rattle.list_laws.proofs.Tests.{both, clash, not-ff}
use Rattle.ledger_laws.specs.Line.{but}
use Rattle.ledger_laws.specs.Saved.{last_place, SameFoil, ReadsBack, RefusesUnreadable}
use Rattle.ledger_laws.proofs.Refusals.{none-applies, first_passes, own-refused, unrefused-sound, unrefused-own}
use Rattle.ledger_laws.proofs.Line.{settled-refused}
use Rattle.ledger_laws.proofs.Stored.{entries_fit, strips-fit}
use Rattle.ledger_laws.proofs.Sound.{length-read, front-written, of-sound, sound-store-is}
use Rattle.ledger_laws.proofs.FileSize.{file-small}
use Rattle.ledger_laws.proofs.ReadAgain.{ends_last, reads_all, refuses}

-- ---- a foil that is stored in two places

-- a front that is written does not hang on what stood there
same-front : (n : ℕ) (ns old old' : List ℕ) → length ns ≤ n → take n (written n ns old) ≡ take n (written n ns old')
same-front n ns old old' fits = front-written n ns old fits ∙ sym (front-written n ns old' fits)

same-stored : (l : Layout) (m m' : Lent) → layout_ok l ≡ true → SameFoil (store l m) (store l m')
unfolding store
same-stored l m m' g =
    record {
      board = refl;
      table = same-front table_size (each entry_numbers l.entries) m.table m'.table (entries_fit l g);
      strips = same-front strips_size (each strip_numbers (strips_of l)) m.strips m'.strips (strips-fit l g);
    }

-- ---- what is known where save wrote

-- the foil has as many entries as its record counts
counted : (m : Lent) → length (held m).entries ≡ m.board.entries
unfolding held layout_of
counted m = length-read m.table m.board.entries

record Wrote (m : Lent) (bs : List ℕ) : Type 0 where
  unbroken : sound m ≡ true
  beginnings : beginning_too_fine (held m) ≡ false
  bytes : bs ≡ job_of (held m)

settled-wrote : (o : Option ℕ) (xs bs : List ℕ) (new old : Lent)
    → (settle o (record { answer = wrote xs; state = new }) old).answer ≡ wrote bs → (o ≡ none) × (bs ≡ xs)
unfolding settle
settled-wrote none xs bs new old e = (refl, cc)
settled-wrote (some n) xs bs new old e = absurd (let z : ◌≡◌ {A = ℕ} 0 1 = cc in omega arith)

wrote-file : (r : Room) (m : Lent) (bs : List ℕ) → (step_on r save m).answer ≡ wrote bs → Wrote m bs
unfolding step_on says reads refusals
wrote-file r m bs e =
    let l : Layout = held m in
    let (unrefused, is) = settled-wrote (refusal_of r (not (sound m)) save l) (job_of l) bs _ m e in
    let own = unrefused-own r save l (not (sound m)) unrefused in
    record {
      unbroken = not-ff (sound m) (unrefused-sound r save l (not (sound m)) unrefused refl);
      beginnings = search none-applies;
      bytes = is;
    }

pub reads-back : ReadsBack
reads-back r r' m m' bs e long fits =
    let w = wrote-file r m bs e in
    let l : Layout = held m in
    let k = of-sound m w.unbroken in
    let read : read_job (record_on r') bs m' ≡ _ =
    ap (λ (xs : List ℕ). read_job (record_on r') xs m') w.bytes
    ∙ reads_all r' long l k.kept (omega (arith, fits, counted m)) m' w.beginnings in
    let replies = ap (λ (a : After (List RecordReply) Lent). a.answer) read in
    record {
      replies = replies;
      ends = ap (λ (rs : List RecordReply). last_place 0 rs + 1) replies ∙ ends_last l ∙ sym (ap length w.bytes);
      small = omega (arith, ap length w.bytes, file-small l (omega (arith, k.few, counted m)));
      same =
          subst (λ (x : Lent). SameFoil m x) (sym (ap (λ (a : After (List RecordReply) Lent). a.state) read))
          (subst (λ (x : Lent). SameFoil x (store l m')) (sound-store-is m k) (same-stored l m m' k.kept));
    }

-- ---- 11

-- save's own refusals give 11 only where some beginning is too fine
own-11 : (r : Room) (l : Layout) → first (refusals save r l) ≡ some 11 → beginning_too_fine l ≡ true
unfolding refusals but
own-11 r l e =
    both (beginning_too_fine l) (λ t. t)
    (λ t. clash (first_passes (but 11) (refusals save r l) (simp (t, or-true)) 11 e) refl)

-- on a foil that keeps the rules it answers 11 exactly there
save-11 : (r : Room) (m : Lent) → short r ≡ false → sound m ≡ true
    → ((step_on r save m).answer ≡ refused 11) ↔ (beginning_too_fine (held m) ≡ true)
unfolding step_on settle refusals first
save-11 r m long ok =
    let own : refusal_of r (not (sound m)) save (held m) ≡ first (refusals save r (held m)) =
    own-refused r save (held m) (not (sound m)) long (rw ok refl) in (
      (λ e. own-11 r (held m) (sym own ∙ settled-refused _ save (held m) _ m 11 (omega arith) e)),
      (λ e. rw (own, e) refl),
    )

pub refuses-unreadable : RefusesUnreadable
refuses-unreadable r r' m m' long ok long' fits =
    let eleven = save-11 r m long ok in
    let read = refuses r' long' (held m) (of-sound m ok).kept (omega (arith, fits, counted m)) m' in
    (λ e. read ∙ eleven.0 e, λ e. eleven.1 (sym read ∙ e))
