-- Demand 3: from a call that begins a foil on, every list of calls behaves as the ledger, and each lay does what the
-- ledger's line promises.
use Prim.Native.Nat.{ℕ}
use mathlib.Core.Path.{◌≡◌, refl, sym, ap, ◌∙◌, subst}
use mathlib.Core.Bool.{true}
use mathlib.Core.List.{List, [], ◌∷◌}
use mathlib.Core.Logic.{◌↔◌}
use lib.ListN.{length, drop}
use Rattle.foil_spec.specs.Lists.{each}
use Rattle.foil_spec.specs.Foil.{Point, Layout, free}
use Rattle.foil_spec.specs.Paths.{is_path}
use Rattle.foil_spec.specs.Ledger.{Step, reads, lay, Answer, refused, laid, ledger_step}
use Rattle.foil_spec.specs.Corners.{point_numbers, corners_in}
use Rattle.foil_spec.specs.Lent.{Lent, store, layout_ok, over_front, output_after}
use Rattle.foil_spec.specs.Sequence.{Lending, front, room_for, lend, told, Left, leaves, run_lent, run_ledger}
use Rattle.list_laws.proofs.Tests.{clash}
use Rattle.ledger_laws.specs.Moments.{Moment}
use Rattle.ledger_laws.specs.Demand3.{BehavesAsLedger, NoWay, LaysFirst}
use Rattle.ledger_laws.proofs.CornerLists.{corners-read}
use Rattle.ledger_laws.proofs.Stored.{Long}
use Rattle.ledger_laws.proofs.Kept.{call_kept}
use Rattle.ledger_laws.proofs.Steps.{shown}
use Rattle.ledger_laws.proofs.Lay.{ledger-9, lay-seeks, ledger-first}
use Rattle.ledger_laws.proofs.Lending.{long-front, long-whole, lend-is, begun, lend-begun}
use Rattle.ledger_laws.proofs.Moments.{Goes, Onward, Standing, opens, runs_on, at_every}

-- ---- the whole list

-- a call that goes as on the ledger, and those after it
run-first : (m : Lent) (c : Lending) (cs : List Lending) (n : Lent) (l : Layout) → lend c n ≡ shown m (told m c l)
    → run_lent (store (told m c l).state m) cs ≡ run_ledger m (told m c l).state cs
    → run_lent n (c ∷ cs) ≡ run_ledger m l (c ∷ cs)
unfolding run_lent run_ledger shown
run-first m c cs n l e h =
    rw e (ap (λ (os : List Left). leaves c (told m c l).answer (store (told m c l).state m) ∷ os) h)

-- the calls after the first
run_is : (m : Lent) → Long m → (cs : List Lending) (l : Layout) → layout_ok l ≡ true
    → run_lent (store l m) cs ≡ run_ledger m l cs
unfolding run_lent run_ledger
run_is m long [] l g = refl
run_is m long (c ∷ cs) l g =
    let kept : layout_ok (told m c l).state ≡ true = unfold told in call_kept (room_for c m) c.call l g in
    run-first m c cs (store l m) l (lend-is m long c l g) (run_is m long cs (told m c l).state kept)

pub behaves-as-ledger : BehavesAsLedger
behaves-as-ledger m l c cs h =
    let b = begun (room_for c m) c.call l (front c m) (unfold told in h) in
    let k = long-whole c m (long-front c m b.long) in
    run-first m c cs m l (lend-begun c l m b) (run_is m k cs (told m c l).state (unfold told in b.kept))

-- ---- each lay

-- a step that reads the foil is not the new foil that begins the list
pub goes_on : (m : Lent) (k : Moment) (later : List Moment) (s : Step) → Standing m k later → k.step ≡ s
    → reads s ≡ true → Goes m k × Onward m k.ledger_after later
unfolding reads
goes_on m k later s (opens o) e r = clash r (ap reads (sym e) ∙ o.blind)
goes_on m k later s (runs_on g o) e r = (g, o)

-- what it answers
pub answer-is : (m : Lent) (k : Moment) (s : Step) → Goes m k → k.step ≡ s
    → k.answer ≡ (ledger_step k.room s k.ledger_before).answer
answer-is m k s g e = g.answer ∙ ap (λ (x : Step). (ledger_step k.room x k.ledger_before).answer) e

lay-goes : (m : Lent) (k : Moment) (later : List Moment) (net : ℕ) (S T : Point) → Standing m k later
    → k.step ≡ lay net S T → Goes m k × Onward m k.ledger_after later
lay-goes m k later net S T w e = goes_on m k later (lay net S T) w e (lay-seeks net S T).seen

pub no_way : NoWay
no_way m l cs b earlier k later e net S T s long may =
    let g = (lay-goes m k later net S T (at_every m l cs b earlier k later e) s).0 in
    subst
    (λ (x : Answer). (x ≡ refused 9) ↔ ((ds : List Point) → is_path (free k.ledger_before) S T ds ≡ true → ⊥))
    (sym (answer-is m k (lay net S T) g s)) (ledger-9 k.room k.ledger_before net S T long may)

-- the corners of a track are read from the front of the output list
pub corners-front : (m : Lent) (k : Moment) (cs : List Point) (n : ℕ) → Goes m k → k.answer ≡ laid cs n
    → corners_in k.output (length cs) ≡ cs
unfolding output_after over_front
corners-front m k cs n g h =
    ap (λ (ks : List ℕ). corners_in ks (length cs))
    (g.output ∙ ap (λ (x : Answer). output_after x g.given) h)
    ∙ corners-read cs (drop (length (each point_numbers cs)) g.given)

pub lays-first : LaysFirst
lays-first m l cs b earlier k later e net S T ds n s h =
    let g = (lay-goes m k later net S T (at_every m l cs b earlier k later e) s).0 in
    let a = answer-is m k (lay net S T) g s in
    let f = ledger-first (lay-seeks net S T) k.room k.ledger_before ds n (sym a ∙ h) in
    (f.0, f.1, corners-front m k ds n g h)
