-- Every list of calls on a sheet behaves as the ledger.
use Prim.Native.Nat.{ℕ}
use mathlib.Core.Path.{◌≡◌, refl, ap, ◌∙◌, subst}
use mathlib.Core.Bool.{true, false, or-true}
use mathlib.Core.List.{List, [], ◌∷◌}
use mathlib.Core.Option.{Option, none, some}
use lib.ListN.{get_or}
use Rattle.foil_spec.specs.Lists.{all}
use Rattle.foil_spec.specs.Foil.{Layout, no_foil}
use Rattle.foil_spec.specs.Ledger.{Room, with_output, Step, number_of, after_lent, After, ledger_step}
use Rattle.foil_spec.specs.Lent.{layout_ok}
use Rattle.foil_spec.specs.Calls.{Call, step, run_record, ohms, lay_list, Reply, ledger_call, answers_in}
use Rattle.foil_spec.specs.Sheet.{Sheet, store_sheet, SheetLending, lend_sheet, told_sheet, SheetLeft, leaves_sheet}
use Rattle.foil_spec.specs.Sheet.{run_sheet, run_sheet_ledger, opening, sheet_refusal, unless, row_step, row_call}
use Rattle.foil_spec.specs.Sheet.{sheet_ledger_call, row_counts, room_on}
use Rattle.list_laws.proofs.Tests.{and_i, not_f}
use Rattle.ledger_laws.specs.Line.{but}
use Rattle.ledger_laws.specs.Numbers.{numbers_in, carries_over}
use Rattle.ledger_laws.proofs.Refusals.{first_passes}
use Rattle.ledger_laws.proofs.Kept.{step_kept}
use Rattle.ledger_laws.proofs.Numbers.{not-among, call-but-13}
use Rattle.ledger_laws.proofs.Replies.{shown_by, reply-shown}
use Rattle.sheet_laws.specs.Sheet.{Starts, SheetBehaves, sheet_after, rows_after, SheetHoldsRows, RowsAreFoils}
use Rattle.sheet_laws.specs.Sheet.{SheetNeverBroken}
use Rattle.sheet_laws.proofs.Rows.{begun, row_ok}
use Rattle.sheet_laws.proofs.Lending.{Holds, lend-is, lend-kept}
use Rattle.sheet_laws.proofs.Starting.{starts-holds}

run_is : (m : Sheet) (cs : List SheetLending) (ls : List Layout) → Holds m ls
    → run_sheet (store_sheet ls m) cs ≡ run_sheet_ledger m ls cs
unfolding run_sheet run_sheet_ledger shown_by
run_is m [] ls h = refl
run_is m (c ∷ cs) ls h =
    let a : After Reply (List Layout) = told_sheet m c ls in
    rw (lend-is c m ls h)
    (ap (λ (os : List SheetLeft). leaves_sheet c a.answer (store_sheet a.state m) ∷ os)
    (run_is m cs a.state (lend-kept c m ls h)))

pub sheet-behaves : SheetBehaves
sheet-behaves m ls cs s =
    let (e, h) = starts-holds m ls s in
    subst (λ (x : Sheet). run_sheet x cs ≡ run_sheet_ledger m ls cs) e (run_is m cs ls h)

-- ---- between the calls

after_is : (m : Sheet) (cs : List SheetLending) (ls : List Layout) → Holds m ls
    → (sheet_after (store_sheet ls m) cs ≡ store_sheet (rows_after m ls cs) m) × Holds m (rows_after m ls cs)
unfolding sheet_after rows_after shown_by
after_is m [] ls h = (refl, h)
after_is m (c ∷ cs) ls h =
    let (e, k) = after_is m cs (told_sheet m c ls).state (lend-kept c m ls h) in
    (ap (λ (a : After Reply Sheet). sheet_after a.state cs) (lend-is c m ls h) ∙ e, k)

-- the sheet after some calls holds the rows
reached : (m : Sheet) (ls : List Layout) (cs : List SheetLending) → Starts m ls
    → (sheet_after m cs ≡ store_sheet (rows_after m ls cs) m) × Holds m (rows_after m ls cs)
reached m ls cs s =
    let (e, h) = starts-holds m ls s in
    let (q, k) = after_is m cs ls h in
    (subst (λ (x : Sheet). sheet_after x cs ≡ store_sheet (rows_after m ls cs) m) e q, k)

pub sheet-holds-rows : SheetHoldsRows
sheet-holds-rows m ls cs s =
    let (e, h) = reached m ls cs s in
    record { is = e; eight = h.eight; limits = h.limits; rows = h.rows }

-- ---- the ledger's line on a foil that is begun

begun-step : (r : Room) (s : Step) (l : Layout) → layout_ok l ≡ true
    → row_step r s l ≡ shown_by (λ x. x) (ledger_step r s l)
unfolding row_step ledger_step shown_by
begun-step r s l g = rw (begun l g) refl

pub rows-are-foils : RowsAreFoils
unfolding row_call ledger_call shown_by
rows-are-foils r c l g =
    rw (begun l g)
    (reply-shown (λ (x : Layout). x) (λ (x : Layout). layout_ok x ≡ true) ledger_step row_step r
    (λ n s x k. record { is = begun-step (with_output r n) s x k; kept = step_kept (with_output r n) s x k })
    false c l l g).is

-- ---- 13

opening-but-13 : (r : Room) (k : ℕ) (c : Call) (n : ℕ) → sheet_refusal r false k c ≡ some n → but 13 n ≡ true
unfolding sheet_refusal opening after_lent but
opening-but-13 r k (step s) = first_passes (but 13) _ (simp or-true)
opening-but-13 r k (run_record bs at) = first_passes (but 13) _ (simp or-true)
opening-but-13 r k (ohms net i) = first_passes (but 13) _ (simp or-true)
opening-but-13 r k (lay_list ws n) = first_passes (but 13) _ (simp or-true)

unless-but-13 : {S : Type 0} (o : Option ℕ) (done : After Reply S) (old : S) → ((n : ℕ) → o ≡ some n → but 13 n ≡ true)
    → all (but 13) (numbers_in done.answer) ≡ true → all (but 13) (numbers_in (unless o done old).answer) ≡ true
unfolding unless
unless-but-13 (some n) done old h k = unfold numbers_in answers_in number_of in and_i {a = but 13 n} (h n refl) refl
unless-but-13 none done old h k = k

told-but-13 : (r : Room) (k : ℕ) (c : Call) (ls : List Layout) → layout_ok (get_or ls k no_foil) ≡ true
    → carries_over c ≡ false → all (but 13) (numbers_in (sheet_ledger_call r k c ls).answer) ≡ true
unfolding sheet_ledger_call
told-but-13 r k c ls g o =
    unless-but-13 (sheet_refusal r false k c) _ ls (opening-but-13 r k c)
    (ap (λ (a : After Reply Layout). all (but 13) (numbers_in a.answer)) (rows-are-foils r c (get_or ls k no_foil) g)
    ∙ call-but-13 r c (get_or ls k no_foil) (not_f o))

pub sheet-never-broken : SheetNeverBroken
unfolding told_sheet shown_by
sheet-never-broken m ls cs c s b o =
    let (e, h) = reached m ls cs s in
    let rows : List Layout = rows_after m ls cs in
    not-among 13 _
    (ap (λ (x : Sheet). all (but 13) (numbers_in (lend_sheet c x).answer)) e
    ∙ ap (λ (a : After Reply Sheet). all (but 13) (numbers_in a.answer)) (lend-is c m rows h)
    ∙ told-but-13 (room_on c (row_counts rows) m) c.foil c.call rows
    (row_ok (get_or rows c.foil no_foil) (h.rows c.foil) b) o)
