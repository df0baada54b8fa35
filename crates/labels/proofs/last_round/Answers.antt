-- The level label of the crossing, then its upright one.
use native.Mathlib.Omega.{arith}
use mathlib.Core.Path.{refl}
use Rattle.runs.proofs.Inks.{lean-low}
use Rattle.labels.proofs.Pass.{line-lists}
use Rattle.labels.proofs.Part.{alone-lean}
use Rattle.labels.proofs.Last.{upright-way, sized_same, tried-level, tried-upright}
use Rattle.labels.proofs.last_round.Goals as goal

pub label_alone-up-requires : goal.label_alone-up-requires
label_alone-up-requires c = let lean = alone-lean c.requires.1.i-in c.requires.0.column-lines.few
    c.requires.0.column-lines c.requires.1.pos c.label_alone-along.ensures
    (omega (arith, c.requires.0.level, c.label_alone-along.auto.labels)) (omega (
      arith,
      c.requires.0.level-inks,
      c.label_alone-along.auto.own,
    ))
    c.requires.1.upright-lean c.requires.1.level-lean in (
      record {
        line-in = omega (arith, c.requires.0.column-lines.few);
        crossings = c.requires.0.row-lines;
        top = c.requires.1.top;
        others = omega (arith, c.requires.0.level, c.label_alone-along.auto.labels);
        other-inks = omega (arith, c.requires.0.level-inks, c.label_alone-along.auto.own);
        low = lean-low _ _ lean c.requires.1.i-in c.requires.1.pos;
      },
      line-lists (upright-way c.requires.0) c.requires.1.i-in refl refl,
      c.requires.1.j-in,
    )

pub returns-then-along : goal.returns-then-along
returns-then-along c = rw c.if-along.true (tried-level
    (sized_same c.requires.0 c.label_alone-along.auto.labels c.label_alone-up.auto.labels
    c.label_alone-along.auto.own c.label_alone-up.auto.own)
    c.requires.1.i-in c.requires.1.j-in c.label_alone-along.ensures c.label_alone-up.ensures c.if-along.true)

pub returns-else-along : goal.returns-else-along
returns-else-along c = tried-upright
    (sized_same c.requires.0 c.label_alone-along.auto.labels c.label_alone-up.auto.labels
    c.label_alone-along.auto.own c.label_alone-up.auto.own)
    c.requires.1.i-in c.requires.1.j-in c.label_alone-along.ensures c.label_alone-up.ensures c.if-along.false
