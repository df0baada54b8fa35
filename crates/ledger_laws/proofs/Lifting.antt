-- A track that was laid or booked is lifted as the next step.
use Prim.Native.Nat.{ℕ}
use mathlib.Core.Path.{◌≡◌, refl, sym, ap, ap₂, ◌∙◌, subst}
use mathlib.Core.Bool.{Bool, true, false}
use mathlib.Core.List.{List, [], ◌∷◌}
use Rattle.foil_spec.specs.Foil.{Point, Layout, free}
use Rattle.foil_spec.specs.Paths.{is_way}
use Rattle.foil_spec.specs.Nets.{in_use}
use Rattle.foil_spec.specs.Ledger.{legs, Room, short, is_too_fine, Step, lift, Answer, accepted, After, ledger_step}
use Rattle.foil_spec.specs.Lent.{store}
use Rattle.list_laws.proofs.Tests.{clash}
use Rattle.ledger_laws.specs.Moments.{Moment}
use Rattle.ledger_laws.specs.Demand3.{LiftsBack}
use Rattle.ledger_laws.proofs.Rules.{of-ok}
use Rattle.ledger_laws.proofs.Lay.{legs-used, lifted}
use Rattle.ledger_laws.proofs.Moments.{Chain, at_every}
use Rattle.ledger_laws.proofs.Apart.{Drew, tracks-drew}

way-used : (f : ℕ → ℕ → Bool) (net : ℕ) (cs : List Point) → is_way f cs ≡ true → in_use net (legs net cs) ≡ true
unfolding is_way
way-used f net [] w = clash w refl
way-used f net (p ∷ cs) w = legs-used net p cs

-- a lift of the net that was drawn last is accepted and gives the layout back
pub ledger-lifts : (r r' : Room) (s : Step) (l : Layout) (net : ℕ) (cs : List Point) → Drew r s l net cs
    → is_too_fine l ≡ false → short r' ≡ false
    → ledger_step r' (lift net) (ledger_step r s l).state ≡ record { answer = accepted; state = l }
ledger-lifts r r' s l net cs d fine long =
    ap (ledger_step r' (lift net)) d.left
    ∙ lifted r' l net cs d.allowed d.unused (way-used (free l) net cs d.way) fine long

pub lifts-back : LiftsBack
lifts-back m l cs b earlier k later e net ds t next rest q u long =
    let d = tracks-drew m k later net ds (at_every m l cs b earlier k later e) t in
    let w = subst (λ (js : List Moment). Chain m k.ledger_after js d.1.end) q d.1.chain in
    let line : ledger_step next.room next.step next.ledger_before
    ≡ record { answer = accepted; state = k.ledger_before } =
    ap₂ (λ (x : Step) (y : Layout). ledger_step next.room x y) u (w.0 ∙ d.0.left)
    ∙ ledger-lifts k.room next.room k.step k.ledger_before net ds d.2
    (of-ok k.ledger_before d.0.before.kept).fine long in
    let back_is : next.ledger_after ≡ k.ledger_before =
    w.1.left ∙ ap (λ (a : After Answer Layout). a.state) line in (
      w.1.answer ∙ ap (λ (a : After Answer Layout). a.answer) line,
      w.1.after.is ∙ ap (λ (x : Layout). store x m) back_is ∙ sym d.0.before.is,
    )
