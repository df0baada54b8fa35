-- The call, return by return.
use Prim.Native.Nat.{ℕ, ◌≤◌, ◌<◌}
use native.Mathlib.Omega.{arith}
use mathlib.Core.Path.{◌≡◌, refl, sym, ap, ◌∙◌, subst}
use mathlib.Core.Bool.{true}
use mathlib.Core.List.{List}
use lib.ListN.{length, take}
use borrow.Author.Tests.{eq-eqb, lt-ltb, le-ltb}
use Rattle.foil_spec.specs.Foil.{entry_ok}
use Rattle.foil_spec.specs.Nets.{of_net, net_length}
use Rattle.foil_spec.specs.Slip.{slip_of}
use Rattle.foil_spec.specs.Ledger.{slip, next, says, first, refusals}
use Rattle.foil_spec.specs.Lent.{Lent, lent, entry_at, layout_of, pen_in, held, sound}
use Rattle.foil_spec.specs.declared.Board.{Board}
use Rattle.list_laws.proofs.Members.{at_place}
use Rattle.ledger_laws.proofs.Rules.{of-ok}
use Rattle.ledger_laws.proofs.Sound.{Sound, of-sound}
use Rattle.nets.specs.Measured.{Boxes, legs_to}
use Rattle.nets.proofs.Measuring.{sound-boxes}
use Rattle.slip_laws.proofs.Wide.{net-most, none-too-wide}
use Rattle.slip_laws.proofs.Pages.{slip-small}
use Rattle.foil.specs.Contract.{Read, ReadIn}
use Rattle.std.specs.Prelude.{Ok, Err}
use Rattle.foil.specs.declared.Accepted.TheVariants.{Wrote}
use Rattle.foil.proofs.Writing.{own-unwritten, written}
use Rattle.putting.specs.Put.{Put}
use Rattle.putting.proofs.Putting.{front-over}
use Rattle.slips.specs.Writing.{lines_to, Tracks}
use Rattle.slips.proofs.Rising.{slip-lines}

module _ (b : Board) (t s : List ℕ) where
  abbrev m : Lent
  m = lent b t s

  module _ (g : sound m ≡ true) where
    facts : Sound m
    facts = of-sound m g

    -- the lines of the table
    abbrev lines : List ℕ
    lines = lines_to t b.entries 999

    slip-is : slip_of (held m) ≡ lines
    unfolding held
    slip-is = slip-lines t b.entries b.width b.height (pen_in b)

    -- the tracks of a foil that keeps the rules
    pub tracks : Tracks t b.entries
    unfolding held layout_of of_net net_length legs_to
    tracks =
        let boxes : Boxes t b.entries = sound-boxes b t s g in
        record {
          nets =
              record {
                len = boxes.len;
                few = boxes.few;
                most = λ k l.
                    net-most b.width b.height (entry_at t k).net (entry_at t k)
                    (at_place (entry_ok b.width b.height) (entry_at t) b.entries
                    (of-ok (held m) facts.kept).entries k l)
                    (eq-eqb (entry_at t k).net (entry_at t k).net refl);
              };
          boxes = boxes;
          narrow = λ net low high. none-too-wide (held m) net facts.kept low high;
          small = omega (arith, ap (λ (bs : List ℕ). length bs) slip-is, slip-small (held m) facts.kept);
        }

    -- the page is made apart
    module _ (o : List ℕ) {f f₁ : List ℕ} {size : ℕ} (page : Put f 0 lines f₁ size) where
      long : length (slip_of (held m)) ≡ size
      long = ap (λ (bs : List ℕ). length bs) slip-is ∙ omega (arith, page.next)

      pub no_room : length o < size → ReadIn slip m o (Err 12) o
      unfolding refusals first
      no_room l room roomy lent_out =
          let small = lt-ltb room.output (length (slip_of (held m))) (omega (arith, long, lent_out)) in
          own-unwritten slip m o room g roomy 12 (rw small refl)

      pub slipped : size ≤ length o → {o₁ : List ℕ} {p : ℕ} → Put o 0 (take size f₁) o₁ p
          → ReadIn slip m o (Ok (Wrote size)) o₁
      unfolding refusals first says next
      slipped l {o₁} {p} out room roomy lent_out =
          let large = le-ltb room.output (length (slip_of (held m))) (omega (arith, long, lent_out)) in
          subst (λ (k : ℕ). Read slip room m o (Ok (Wrote k)) o₁) long
          (written slip m o room g roomy (slip_of (held m)) o₁ (rw large refl) refl refl
          (front-over (subst (λ (bs : List ℕ). Put f 0 bs f₁ size) (sym slip-is) page) out))
