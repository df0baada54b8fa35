-- The writer, return by return.
use Prim.Native.Nat.{ℕ, ◌≤◌, ◌<◌}
use native.Mathlib.Omega.{arith}
use mathlib.Core.Path.{◌≡◌, refl, sym, ◌∙◌, subst}
use mathlib.Core.Bool.{Bool, true, false}
use mathlib.Core.List.{List}
use lib.ListN.{length, take}
use borrow.Author.Tests.{lt-ltb, le-ltb}
use Rattle.foil_spec.specs.Foil.{Layout}
use Rattle.foil_spec.specs.Saving.{job_of}
use Rattle.foil_spec.specs.Ledger.{save, beginning_too_fine, next, says, first, refusals}
use Rattle.foil_spec.specs.Lent.{Lent, lent, layout_of, pen_in, held, sound}
use Rattle.foil_spec.specs.declared.Board.{Board}
use Rattle.foil.specs.Contract.{Read, ReadIn}
use Rattle.std.specs.Prelude.{Ok, Err}
use Rattle.foil.specs.declared.Accepted.TheVariants.{Wrote}
use Rattle.foil.proofs.Writing.{own-unwritten, written}
use Rattle.putting.specs.Put.{Put}
use Rattle.putting.proofs.Putting.{front-over}

module _ (b : Board) (t s o : List ℕ) where
  abbrev m : Lent
  m = lent b t s

  -- the foil that is lent
  abbrev foil : Layout
  foil = layout_of b.width b.height (pen_in b) b.entries t

  -- r says whether some beginning has too many strips
  module _ (g : sound m ≡ true) (r : Bool) (is : r ≡ beginning_too_fine foil) where
    pub begins-too-fine : r ≡ true → ReadIn save m o (Err 11) o
    unfolding refusals first held
    begins-too-fine over room roomy lent_out = own-unwritten save m o room g roomy 11 (rw (sym is ∙ over) refl)

    -- the file is made apart
    module _ (fine : r ≡ false) {f f₁ : List ℕ} {size : ℕ} (file : Put f 0 (job_of foil) f₁ size) where
      pub no_room : length o < size → ReadIn save m o (Err 12) o
      unfolding refusals first held
      no_room l room roomy lent_out =
          let small = lt-ltb room.output (length (job_of foil)) (omega (arith, file.next, lent_out)) in
          own-unwritten save m o room g roomy 12 (rw (sym is ∙ fine, small) refl)

      pub saved : size ≤ length o → {o₁ : List ℕ} {p : ℕ} → Put o 0 (take size f₁) o₁ p
          → ReadIn save m o (Ok (Wrote size)) o₁
      unfolding refusals first held says next
      saved l {o₁} {p} out room roomy lent_out =
          let large = le-ltb room.output (length (job_of foil)) (omega (arith, file.next, lent_out)) in
          let long : length (job_of foil) ≡ size = omega (arith, file.next) in
          subst (λ (k : ℕ). Read save room m o (Ok (Wrote k)) o₁) long
          (written save m o room g roomy (job_of foil) o₁ (rw (sym is ∙ fine, large) refl) refl refl
          (front-over file out))
