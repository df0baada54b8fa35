-- The two steps of the walk call each other by turns; the legs that are left fall by one at each call.
use native.Mathlib.Omega.{arith}
use mathlib.Core.Path.{refl}
use Rattle.labels.proofs.Walk.{level-next, upright-next, level-stands, upright-stands, part-level, part-upright}
use Rattle.labels.proofs.+level_step_upright_step.Goals as goal

pub level_step-bounds-cols-k : goal.level_step-bounds-cols-k
level_step-bounds-cols-k t c =
    let next = level-next c.requires.walkable c.requires.standing c.requires.upright_value c.if-v-eq1.false c.next_stop-k.ensures in
    omega (arith, next.0, c.requires.walkable.sized.column-lines.fit)

pub level_step-upright_step-requires : goal.level_step-upright_step-requires
level_step-upright_step-requires t c =
    let next = level-next c.requires.walkable c.requires.standing c.requires.upright_value c.if-v-eq1.false c.next_stop-k.ensures in (
      omega (arith, c.decreases, c.if-legs-eq0.false),
      (
        c.requires.walkable,
        (
          level-stands c.requires.standing c.if-v-eq1.false next.0 next.1 c.put_corner.auto.list,
          refl,
        ),
      ),
    )

pub level_step-returns : goal.level_step-returns
level_step-returns t c =
    let next = level-next c.requires.walkable c.requires.standing c.requires.upright_value c.if-v-eq1.false c.next_stop-k.ensures in
    part-level c.requires.upright_value c.requires.standing.some c.next_stop-k.ensures next.0
    c.put_corner.ensures c.upright_step.ensures

pub upright_step-bounds-rows-k : goal.upright_step-bounds-rows-k
upright_step-bounds-rows-k t c =
    let next = upright-next c.requires.walkable c.requires.standing c.requires.upright_value c.if-v-eq1.false c.next_stop-k.ensures in
    omega (arith, next.0, c.requires.walkable.sized.row-lines.fit)

pub upright_step-level_step-requires : goal.upright_step-level_step-requires
upright_step-level_step-requires t c =
    let next = upright-next c.requires.walkable c.requires.standing c.requires.upright_value c.if-v-eq1.false c.next_stop-k.ensures in (
      omega (arith, c.decreases, c.if-legs-eq0.false),
      (
        c.requires.walkable,
        (
          upright-stands c.requires.standing c.if-v-eq1.false next.0 next.1 c.put_corner.auto.list,
          refl,
        ),
      ),
    )

pub upright_step-returns : goal.upright_step-returns
upright_step-returns t c =
    let next = upright-next c.requires.walkable c.requires.standing c.requires.upright_value c.if-v-eq1.false c.next_stop-k.ensures in
    part-upright c.requires.upright_value c.requires.standing.some c.next_stop-k.ensures next.0
    c.put_corner.ensures c.level_step.ensures
