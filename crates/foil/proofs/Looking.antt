-- Look up, return by return: a point is free exactly if a strip holds it.
use Prim.Native.Nat.{ℕ, ◌*◌, ◌≤◌, ◌<◌}
use native.Mathlib.Omega.{arith}
use mathlib.Core.Path.{◌≡◌, refl, sym, ap, ◌∙◌, subst}
use mathlib.Core.Bool.{true, false, not, or-true}
use mathlib.Core.List.{List, []}
use mathlib.Core.Logic.{◌⊎◌, inl, inr}
use mathlib.Core.Option.{none}
use lib.ListN.{length}
use borrow.Author.Tests.{lt-leb, le-leb}
use Rattle.foil_spec.specs.Foil.{Point, free}
use Rattle.foil_spec.specs.Strips.{place_of}
use Rattle.foil_spec.specs.Ledger.{Room, look_up, strips_of, off_foil, blocked, next, says, first, refusals, settle}
use Rattle.foil_spec.specs.Ledger.{refusal_of}
use Rattle.foil_spec.specs.Lent.{Lent, lent, layout_of, held, sound, listed_strips, step_on, output_after}
use Rattle.foil_spec.specs.declared.Board.{Board}
use Rattle.list_laws.proofs.Tests.{both}
use Rattle.ledger_laws.proofs.Stored.{strips-fit, length-strips}
use Rattle.ledger_laws.proofs.Sound.{Sound, of-sound, sound-long, sound-store-is, strips-listed}
use Rattle.strips.specs.Places.{place_in}
use Rattle.strips.proofs.Placing.{place-free, place-blocked}
use Rattle.std.specs.Prelude.{Some, None, Ok, Err}
use Rattle.foil.specs.Contract.{Answer, answer_of, Read, ReadIn}
use Rattle.foil.specs.declared.Accepted.TheVariants.{Found}
use Rattle.foil.proofs.Writing.{own, own-unwritten}

module _ (b : Board) (t s : List ℕ) (p : Point) where
  abbrev m : Lent
  m = lent b t s

  -- what a look up is to answer, in each room that is long enough
  abbrev Looked : Answer → Type 0
  Looked a = ReadIn (look_up p) m [] a []

  looked-found : (room : Room) → Sound m → refusal_of room (not (sound m)) (look_up p) (held m) ≡ none
      → Read (look_up p) room m [] (Ok (Found (place_of p (strips_of (held m))))) []
  unfolding step_on settle answer_of says next output_after
  looked-found room k e =
      record { answer = rw e refl; state = rw e (sym (sound-store-is m k)); output = rw e refl }

  module _ (g : sound m ≡ true) where
    facts : Sound m
    facts = of-sound m g

    off : off_foil (held m) p ≡ true → Looked (Err 7)
    unfolding first refusals
    off e room long none_lent = own-unwritten (look_up p) m [] room g long 7 (rw e refl)

    pub off-foil : (b.width ≤ p.x) ⊎ ((p.x < b.width) × (b.height ≤ p.y)) → Looked (Err 7)
    unfolding off_foil held layout_of
    off-foil (inl l) = off (simp (le-leb b.width p.x l))
    off-foil (inr l) = off (simp (le-leb b.height p.y l.1, or-true))

    pub strips-long : b.strips * 4 ≤ length s
    strips-long =
        omega (
          arith,
          (sound-long m g).strips,
          facts.counted,
          strips-fit (held m) facts.kept,
          length-strips (strips_of (held m)),
        )

    listed : listed_strips s b.strips ≡ strips_of (held m)
    listed = strips-listed m facts

    module _ (wide : p.x < b.width) (high : p.y < b.height) where
      on-foil : off_foil (held m) p ≡ false
      unfolding off_foil held layout_of
      on-foil = simp (lt-leb b.width p.x wide, lt-leb b.height p.y high)

      -- the point is free exactly if a strip holds it
      at-free : free (held m) p.x p.y ≡ true
          → place_in p (listed_strips s b.strips) ≡ Some (place_of p (strips_of (held m)))
      unfolding strips_of held layout_of
      at-free f =
          ap (place_in p) listed ∙ place-free (free (held m)) (held m).width (held m).height p wide high f

      at-blocked : free (held m) p.x p.y ≡ false → place_in p (listed_strips s b.strips) ≡ None
      unfolding strips_of
      at-blocked f = ap (place_in p) listed ∙ place-blocked (free (held m)) (held m).width (held m).height p f

      pub nowhere-blocked : place_in p (listed_strips s b.strips) ≡ None → true ≡ blocked (held m) p
      unfolding blocked
      nowhere-blocked e =
          both (free (held m) p.x p.y)
          (λ f. let h = at-free f in absurd (let z : ◌≡◌ {A = ℕ} 0 1 = cc in omega arith))
          (λ f. rw f refl)

      pub somewhere-free : (k : ℕ) → place_in p (listed_strips s b.strips) ≡ Some k → false ≡ blocked (held m) p
      unfolding blocked
      somewhere-free k e =
          both (free (held m) p.x p.y)
          (λ f. rw f refl)
          (λ f. let h = at-blocked f in absurd (let z : ◌≡◌ {A = ℕ} 0 1 = cc in omega arith))

      pub nowhere : place_in p (listed_strips s b.strips) ≡ None → Looked (Err 8)
      unfolding first refusals
      nowhere e room long none_lent =
          own-unwritten (look_up p) m [] room g long 8 (rw (on-foil, sym (nowhere-blocked e)) refl)

      pub somewhere : (k : ℕ) → place_in p (listed_strips s b.strips) ≡ Some k → Looked (Ok (Found k))
      unfolding first refusals blocked
      somewhere k e room long none_lent =
          both (free (held m) p.x p.y)
          (λ f.
          let h = at-free f in
          let q : place_of p (strips_of (held m)) ≡ k = cc in
          subst (λ (i : ℕ). Read (look_up p) room m [] (Ok (Found i)) []) q
          (looked-found room facts (own (look_up p) m [] room g long ∙ rw (on-foil, f) refl)))
          (λ f. let h = at-blocked f in absurd (let z : ◌≡◌ {A = ℕ} 0 1 = cc in omega arith))
