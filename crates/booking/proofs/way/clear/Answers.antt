-- `booking::way::clear` tests the box against the foil, and then against each blocked box.
use native.Mathlib.Omega.{arith}
use mathlib.Core.Path.{refl}
use Rattle.std.proofs.Common.{rules, tests}
use Rattle.std.proofs.lemmas.Iterator.{cases_from_any, YieldsList-from_range}
use Rattle.booking.proofs.Clear.{Hit, Missed, past-end, cleared-by}
use Rattle.booking.proofs.way.clear.Goals as goal

pub returns-then-w-b : goal.returns-then-w-b
returns-then-w-b c =
    past-end _ _ _ _ c.requires.boxes _ _ c.requires.x_le_x.0 c.requires.x_le_x.1 c.then-w-b.either

pub returns : goal.returns
returns c =
    cleared-by _ _ _ _ c.requires.boxes _ _ c.requires.x_le_x.0 c.requires.x_le_x.1 c.if-w-b.false c.if-h-b.false _
    (cases_from_any _ _ _ (Hit c.args.boxes.now c.args.a c.args.b) (Missed c.args.boxes.now c.args.a c.args.b)
    c.any.ensures.ran (YieldsList-from_range 0 c.args.n c.args.n refl (omega arith))
    (λ x q k. search (rules, tests)) (λ x q k. search (rules, tests)))
