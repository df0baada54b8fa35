-- A foil of a sheet that is saved reads back alike.
use Prim.Native.Nat.{ℕ, ◌+◌, ◌<◌}
use native.Mathlib.Omega.{arith}
use mathlib.Core.Path.{◌≡◌, refl, sym, ap, ◌∙◌, subst}
use mathlib.Core.Bool.{false, not}
use mathlib.Core.List.{List}
use mathlib.Core.Option.{Option, none, some}
use lib.ListN.{length, get_or}
use Rattle.foil_spec.specs.Limits.{sheet_foils}
use Rattle.foil_spec.specs.Ledger.{Room, save, wrote, After}
use Rattle.foil_spec.specs.Lent.{Lent, held, sound, step_on}
use Rattle.foil_spec.specs.Calls.{Call, step, run_record, RecordReply, Reply, answered, as_reply, replied, reply, call_on}
use Rattle.foil_spec.specs.Calls.{record_on, read_job}
use Rattle.foil_spec.specs.Sheet.{SheetLent, counts, view, sheet_step, sheet_refusal, unless, sheet_call, unless_whole}
use Rattle.foil_spec.specs.Sheet.{sheet_record}
use Rattle.ledger_laws.specs.Saved.{last_place, SameFoil}
use Rattle.ledger_laws.proofs.Replies.{shown_by, Shown, read-shown, of-replied}
use Rattle.ledger_laws.proofs.Saved.{reads-back}
use Rattle.sheet_laws.specs.Alone.{RoomOn}
use Rattle.sheet_laws.specs.Jobs.{RecordsAsCalls}
use Rattle.sheet_laws.specs.Saved.{SheetReadsBack}
use Rattle.sheet_laws.proofs.Views.{Stands, stands-in, counts-at, call-view, call-others}
use Rattle.sheet_laws.proofs.Alone.{opened-refused, opens-with}

-- ---- a record on a sheet, and its call

unless-replied : {S : Type 0} (o : Option ℕ) (a : After RecordReply S) (x : S)
    → unless o (replied a) x ≡ replied (unless_whole o a x)
unfolding unless unless_whole as_reply
unless-replied (some n) a x = refl
unless-replied none a x = refl

pub records-as-calls : RecordsAsCalls
unfolding sheet_call sheet_record reply
records-as-calls r k bs at m = unless-replied _ _ m

-- ---- the whole call on a sheet, and on the foil alone

module _ (r : Room) (k : ℕ) (here : k < sheet_foils) where
  called-view : (c : Call) (x : SheetLent) (o : Option ℕ) → sheet_refusal r false k c ≡ o → Stands r k x
      → Shown (view k) (Stands r k)
      (unless o (reply (sheet_step k) r (not (sound (view k x))) c (held (view k x)) x) x) (call_on r c (view k x))
  unfolding unless shown_by
  called-view c x (some n) e w =
      record { is = opened-refused r c (view k x) n (opens-with r k c n here e); kept = w }
  called-view c x none e w = record { is = call-view r k here c x w; kept = (call-others r k here c x w).0 }

  sheet-shown : (c : Call) (x : SheetLent) → Stands r k x
      → Shown (view k) (Stands r k) (sheet_call r k c x) (call_on r c (view k x))
  unfolding sheet_call
  sheet-shown c x w = rw w.whole.limits (called-view c x (sheet_refusal r false k c) refl w)

  pub sheet-view : (c : Call) (x : SheetLent) → Stands r k x
      → call_on r c (view k x) ≡ shown_by (view k) (sheet_call r k c x)
  sheet-view c x w = (sheet-shown c x w).is

  record-shown : (bs : List ℕ) (at : ℕ) (x : SheetLent) → Stands r k x
      → Shown (view k) (Stands r k) (sheet_record r k bs at x) (record_on r bs at (view k x))
  unfolding call_on reply record_on shown_by
  record-shown bs at x w =
      let h = sheet-shown (run_record bs at) x w in
      let same = records-as-calls r k bs at x in
      record {
        is =
            of-replied (record_on r bs at (view k x)) (shown_by (view k) (sheet_record r k bs at x))
            (h.is ∙ ap (shown_by (view k)) same);
        kept = subst (λ (a : After Reply SheetLent). Stands r k a.state) same h.kept;
      }

  pub record-view : (bs : List ℕ) (at : ℕ) (x : SheetLent) → Stands r k x
      → record_on r bs at (view k x) ≡ shown_by (view k) (sheet_record r k bs at x)
  record-view bs at x w = (record-shown bs at x w).is

  pub record-stands : (bs : List ℕ) (at : ℕ) (x : SheetLent) → Stands r k x
      → Stands r k (sheet_record r k bs at x).state
  record-stands bs at x w = (record-shown bs at x w).kept

  read_view : (bs : List ℕ) (x : SheetLent) → Stands r k x
      → read_job (record_on r) bs (view k x) ≡ shown_by (view k) (read_job (sheet_record r k) bs x)
  read_view bs x w = (read-shown (view k) (Stands r k) (sheet_record r k) (record_on r) record-shown bs x w).is

-- ---- saved, and read back

answer-alone : (r : Room) (v : Lent) (bs : List ℕ) → (call_on r (step save) v).answer ≡ answered (wrote bs)
    → (step_on r save v).answer ≡ wrote bs
unfolding call_on reply
answer-alone r v bs e = cc

saved-alone : (r : Room) (k : ℕ) (m : SheetLent) (bs : List ℕ) → RoomOn r k m
    → (sheet_call r k (step save) m).answer ≡ answered (wrote bs) → (step_on r save (view k m)).answer ≡ wrote bs
saved-alone r k m bs o e =
    let q = ap (λ (a : After Reply Lent). a.answer) (sheet-view r k o.here (step save) m (stands-in r k m o)) in
    answer-alone r (view k m) bs (q ∙ unfold shown_by in e)

module _ (r : Room) (j : ℕ) (x : SheetLent) (o : RoomOn r j x) (bs : List ℕ) where
  pub replies-alone : (read_job (sheet_record r j) bs x).answer ≡ (read_job (record_on r) bs (view j x)).answer
  unfolding shown_by
  replies-alone =
      ap (λ (a : After (List RecordReply) Lent). a.answer) (sym (read_view r j o.here bs x (stands-in r j x o)))

  pub state-alone : view j (read_job (sheet_record r j) bs x).state ≡ (read_job (record_on r) bs (view j x)).state
  unfolding shown_by
  state-alone =
      ap (λ (a : After (List RecordReply) Lent). a.state) (sym (read_view r j o.here bs x (stands-in r j x o)))

own-entries : (k : ℕ) (m : SheetLent) → (view k m).board.entries ≡ get_or (counts m.boards) k 0
unfolding view
own-entries k m = sym (counts-at m.boards k)

pub sheet-reads-back : SheetReadsBack
sheet-reads-back r r' k j m x bs o q long e few =
    let b =
    reads-back r r' (view k m) (view j x) bs (saved-alone r k m bs o e) long (omega (arith, own-entries k m)) in
    record {
      replies = replies-alone r' j x q bs ∙ b.replies;
      ends =
          subst (λ (rs : List RecordReply). last_place 0 rs + 1 ≡ length bs) (sym (replies-alone r' j x q bs))
          b.ends;
      small = b.small;
      same = subst (λ (v : Lent). SameFoil (view k m) v) (sym (state-alone r' j x q bs)) b.same;
    }
