-- The refusals stand in the order of specs/Orders.
use mathlib.Core.Path.{◌≡◌, refl}
use mathlib.Core.Bool.{Bool}
use Rattle.foil_spec.specs.Foil.{Layout}
use Rattle.foil_spec.specs.Ledger.{Room, by_pen, by_reach, Step, new_foil, draw, lay, lift, look_up, put_leg, save}
use Rattle.foil_spec.specs.Ledger.{find, book, slip, join, carry, clearance_refusal, refusals, after_lent}
use Rattle.foil_spec.specs.Job.{record_checks}
use Rattle.foil_spec.specs.Ohms.{ohms_refusals}
use Rattle.foil_spec.specs.Calls.{whole_refusals, list_refusals}
use Rattle.foil_spec.specs.Orders.{numbers_from, order, InOrder}

steps-in-order : (r : Room) (l : Layout) (s : Step) → numbers_from (refusals s r l) ≡ order s
unfolding numbers_from order refusals clearance_refusal
steps-in-order r l (new_foil W H (by_pen p)) = refl
steps-in-order r l (new_foil W H (by_reach d)) = refl
steps-in-order r l (draw x0 y0 x1 y1) = refl
steps-in-order r l (lay net S T) = refl
steps-in-order r l (lift net) = refl
steps-in-order r l (look_up p) = refl
steps-in-order r l (put_leg e) = refl
steps-in-order r l save = refl
steps-in-order r l (find S T) = refl
steps-in-order r l (book net ks) = refl
steps-in-order r l slip = refl
steps-in-order r l (join net S) = refl
steps-in-order r l (carry o) = refl

in_order : (r : Room) (broken : Bool) (l : Layout) → InOrder r broken l
unfolding numbers_from after_lent whole_refusals record_checks ohms_refusals list_refusals
in_order r broken l =
    record {
      of-step = λ s. rw (steps-in-order r l s) refl;
      of-record = λ bs at. refl;
      of-ohms = λ net i. refl;
      of-list = λ ws n. refl;
    }
