-- The slips that a list of calls writes can be read.
use Prim.Native.Nat.{ℕ}
use native.Mathlib.Omega.{arith}
use mathlib.Core.Path.{◌≡◌, refl, sym, ap, ◌∙◌, subst}
use mathlib.Core.Bool.{false}
use mathlib.Core.List.{List}
use mathlib.Core.Option.{Option, none, some}
use lib.ListN.{length, take, drop}
use lib.Seq.{take-append_seam}
use Rattle.foil_spec.specs.Foil.{Layout}
use Rattle.foil_spec.specs.Slip.{slip_of}
use Rattle.foil_spec.specs.Ledger.{Room, slip, Answer, wrote, reads, says, settle, refusal_of, ledger_step}
use Rattle.foil_spec.specs.Lent.{over_front, output_after}
use Rattle.ledger_laws.proofs.Moments.{at_every}
use Rattle.ledger_laws.proofs.Demand3.{goes_on, answer-is}
use Rattle.sheet_laws.proofs.Alone.{also-on-sheet}
use Rattle.slip_laws.specs.Page.{PageRight}
use Rattle.slip_laws.specs.Slips.{SlipsWrittenAt, SlipsWritten, SheetSlipsWritten}
use Rattle.slip_laws.proofs.Pages.{slips-right}

settled-wrote : {A : Type 0} (o : Option ℕ) (cs bs : List ℕ) (new old : A)
    → (settle o (record { answer = wrote cs; state = new }) old).answer ≡ wrote bs → cs ≡ bs
unfolding settle
settled-wrote none cs bs new old h = cc
settled-wrote (some n) cs bs new old h = absurd (let z : ◌≡◌ {A = ℕ} 0 1 = cc in omega arith)

ledger-slip : (r : Room) (l : Layout) (bs : List ℕ) → (ledger_step r slip l).answer ≡ wrote bs → slip_of l ≡ bs
unfolding ledger_step says
ledger-slip r l bs h = settled-wrote (refusal_of r false slip l) (slip_of l) bs _ l h

pub slips-written : SlipsWritten
unfolding reads output_after over_front
slips-written m l cs b earlier k later e bs s h =
    let g = (goes_on m k later slip (at_every m l cs b earlier k later e) s refl).0 in
    let is = ledger-slip k.room k.ledger_before bs (sym (answer-is m k slip g s) ∙ h) in
    let page = slips-right k.ledger_before g.before.kept in (
      page.0,
      subst (PageRight k.ledger_before page.0) is page.1,
      ap (take (length bs)) (g.output ∙ ap (λ (a : Answer). output_after a g.given) h)
          ∙ take-append_seam bs (drop (length bs) g.given),
    )

pub sheet-slips-written : SheetSlipsWritten
sheet-slips-written = also-on-sheet SlipsWrittenAt slips-written
