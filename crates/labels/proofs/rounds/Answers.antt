-- The marks are right before each round, and a round that goes on leaves fewer crossings without a label.
use native.Mathlib.Omega.{arith}
use mathlib.Core.Path.{refl, ◌∙◌}
use Rattle.labels.proofs.Marks.{no-marks}
use Rattle.labels.proofs.Going.{going_start, going-second, going-lean, going_next, going-stuck}
use Rattle.labels.proofs.Last.{level-way, upright-way, sized_same, tried-last, tried-on, tried_same}
use Rattle.labels.proofs.rounds.Goals as goal

pub mark_targets-requires-clause-below : goal.mark_targets-requires-clause-below
mark_targets-requires-clause-below c = (c.requires.begun.level-low, no-marks 538 _)

pub mark_targets-requires-2-clause-below : goal.mark_targets-requires-2-clause-below
mark_targets-requires-2-clause-below c = (c.requires.begun.upright-low, no-marks 538 _)

pub loop-ahead-init : goal.loop-ahead-init
loop-ahead-init c = (
  refl,
  refl,
  refl,
  refl,
  c.mark_targets.auto.marks,
  c.mark_targets-2.auto.marks,
  refl,
  refl,
  going_start _ _ _ _ c.requires.begun c.mark_targets.ensures
      c.mark_targets-2.ensures,
)

pub returns-then-last_round : goal.returns-then-last_round
returns-then-last_round c = tried-last c.last_round.ensures c.if-last_round.true (omega (
  arith,
  c.loop-ahead.invariant.8.top,
)) c.loop-ahead.invariant.8.rounds

pub label_pass-le-requires : goal.label_pass-le-requires
label_pass-le-requires c = let going = (tried-on c.last_round.ensures c.if-last_round.false
    c.loop-ahead.invariant.8).0 in (
      level-way (sized_same c.requires.sized.0 (c.last_round.auto.level ∙ c.loop-ahead.invariant.0)
          (c.last_round.auto.upright ∙ c.loop-ahead.invariant.1) (c.last_round.auto.il ∙ c.loop-ahead.invariant.2)
          (c.last_round.auto.iu ∙ c.loop-ahead.invariant.3)),
      record {
        pos = going.pos;
        top = omega (arith, going.top);
        few = omega (arith, c.requires.begun.level-few, c.loop-ahead.invariant.0, c.last_round.auto.level);
        lean = going.upright-lean;
        marked = going.upright-marked;
        full = going.level-full;
      },
      record {
        from-room = omega (arith, c.loop-ahead.invariant.5);
        marks-room = omega arith;
        marks-fit = no-marks 538 _;
        ahead-room = omega (arith, c.loop-ahead.invariant.6);
        behind-room = omega (arith, c.loop-ahead.invariant.7);
      },
    )

pub label_pass-ue-requires : goal.label_pass-ue-requires
label_pass-ue-requires c = let going = (tried-on c.last_round.ensures c.if-last_round.false
    c.loop-ahead.invariant.8).0 in (
      upright-way (sized_same c.requires.sized.0 (c.label_pass-le.ensures.visited.size ∙ (c.last_round.auto.level ∙
          c.loop-ahead.invariant.0)) (c.last_round.auto.upright ∙ c.loop-ahead.invariant.1)
          (c.label_pass-le.ensures.inked.size ∙ (c.last_round.auto.il ∙ c.loop-ahead.invariant.2)) (c.last_round.auto.iu
          ∙ c.loop-ahead.invariant.3)),
      record {
        pos = going.pos;
        top = omega (arith, going.top);
        few = omega (arith, c.requires.begun.upright-few, c.loop-ahead.invariant.1, c.last_round.auto.upright);
        lean = going-lean c.requires.sized.0.column-lines c.requires.sized.0.row-lines going c.label_pass-le.ensures;
        marked = going-second c.requires.sized.0.column-lines c.requires.sized.0.row-lines going c.label_pass-le.ensures;
        full = going.upright-full;
      },
      record {
        from-room = omega (arith, c.loop-ahead.invariant.4);
        marks-room = omega arith;
        marks-fit = no-marks 538 _;
        ahead-room = omega (arith, c.loop-ahead.invariant.6, c.label_pass-le.auto.ahead);
        behind-room = omega (arith, c.loop-ahead.invariant.7, c.label_pass-le.auto.behind);
      },
    )

pub overflow_add-le : goal.overflow_add-le
overflow_add-le c = let going = (tried-on c.last_round.ensures c.if-last_round.false c.loop-ahead.invariant.8).0 in
    omega (arith, going.few, c.label_pass-le.ensures.visited.count, c.label_pass-ue.ensures.visited.count)

pub returns-then-le-ue-eq0 : goal.returns-then-le-ue-eq0
returns-then-le-ue-eq0 c = let on = tried-on c.last_round.ensures c.if-last_round.false c.loop-ahead.invariant.8 in
    going-stuck c.requires.sized.0.column-lines c.requires.sized.0.row-lines on.0
    c.label_pass-le.ensures
    c.label_pass-ue.ensures _ _ c.if-le-ue-eq0.true on.1 on.2

pub loop-ahead-smaller : goal.loop-ahead-smaller
loop-ahead-smaller c = let same = tried_same c.last_round.ensures c.if-last_round.false in
    omega (
      arith,
      same,
      c.if-le-ue-eq0.false,
      c.label_pass-le.ensures.visited.count,
      c.label_pass-ue.ensures.visited.count,
    )

pub loop-ahead-preserved : goal.loop-ahead-preserved
loop-ahead-preserved c = let going = (tried-on c.last_round.ensures c.if-last_round.false c.loop-ahead.invariant.8).0
    in (
      c.label_pass-le.ensures.visited.size ∙ (c.last_round.auto.level ∙ c.loop-ahead.invariant.0),
      c.label_pass-ue.ensures.visited.size ∙ (c.last_round.auto.upright ∙ c.loop-ahead.invariant.1),
      c.label_pass-le.ensures.inked.size ∙ (c.last_round.auto.il ∙ c.loop-ahead.invariant.2),
      c.label_pass-ue.ensures.inked.size ∙ (c.last_round.auto.iu ∙ c.loop-ahead.invariant.3),
      c.label_pass-le.auto.marks,
      c.label_pass-ue.auto.marks,
      c.label_pass-ue.auto.ahead ∙ (c.label_pass-le.auto.ahead ∙ c.loop-ahead.invariant.6),
      c.label_pass-ue.auto.behind ∙ (c.label_pass-le.auto.behind ∙ c.loop-ahead.invariant.7),
      going_next c.requires.sized.0.column-lines c.requires.sized.0.row-lines going c.label_pass-le.ensures
          c.label_pass-ue.ensures c.requires.shallow c.if-le-ue-eq0.false,
    )
