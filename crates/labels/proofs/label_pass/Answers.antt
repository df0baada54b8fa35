-- Line after line of the other direction, and on it crossing after crossing with the label v.
use native.Mathlib.Omega.{arith}
use mathlib.Core.Path.{refl, ap, ◌∙◌}
use lib.ListN.{length}
use Rattle.labels.proofs.Pass.{on_line, line-lists}
use Rattle.labels.proofs.Pass.{passing-none, passing-first, passing-next, passing-line, passing-more}
use Rattle.labels.proofs.Pass.{passing-few, passing-still, visit-count, visit-in}
use Rattle.labels.proofs.label_pass.Goals as goal
use Rattle.labels.proofs.label_pass.Goals.{in-Some, in_default}

pub loop-k-init : goal.loop-k-init
loop-k-init c = (refl, refl, refl, passing-none _ _ _ _ _ _ _ _ _ c.requires.2.marks-fit c.requires.1.full)

pub visit-requires : goal.visit-requires
visit-requires c = let from = c.requires.1.marked.fit.from c.loop-k.k in
    let to = c.requires.1.marked.fit.to c.loop-k.k in
    let P =
    c.loop-line.invariant.5.on _ _
    (passing-first c.requires.0.few (omega (arith, c.loop-k-test)) (omega (arith, from)) to c.requires.1.marked
    c.next_new-line.ensures c.loop-k.invariant.3) in (
      on_line c.requires.0 (omega (arith, c.loop-line-test, to)) c.requires.1.pos c.requires.1.top c.requires.1.lean,
      line-lists c.requires.0 (omega (arith, c.loop-line-test, to)) P.visited.size P.inked.size,
      record {
        k-in = omega (arith, c.loop-k-test);
        stop = c.loop-line.invariant.1 (omega (arith, c.loop-line-test));
        ahead-room = omega (arith, c.requires.2.ahead-room, c.loop-k.invariant.1, c.loop-line.invariant.3);
        behind-room = omega (arith, c.requires.2.behind-room, c.loop-k.invariant.2, c.loop-line.invariant.4);
        low-is = c.saturating_sub-low.ensures;
        joined = P.visited.full.joined _ (omega (arith, c.loop-line-test, to));
      },
    )

pub overflow_add-new : goal.overflow_add-new
overflow_add-new c = let from = c.requires.1.marked.fit.from c.loop-k.k in
    let to = c.requires.1.marked.fit.to c.loop-k.k in
    let P =
    c.loop-line.invariant.5.on _ _
    (passing-first c.requires.0.few (omega (arith, c.loop-k-test)) (omega (arith, from)) to c.requires.1.marked
    c.next_new-line.ensures c.loop-k.invariant.3) in
    omega (arith, passing-few P, visit-count (rw c.in-Some.is at c.visit.ensures), c.requires.1.few)

pub widen-requires : goal.widen-requires
widen-requires c = let to = c.requires.1.marked.fit.to c.loop-k.k in
    let run = visit-in (omega (arith, c.loop-k-test)) (rw c.in-Some.is at c.visit.ensures) in (
      omega (arith, c.loop-line-test, to, c.requires.0.few),
      omega (arith, c.requires.2.marks-room, c.loop-k.invariant.0, c.loop-line.invariant.2),
      omega (arith, run.0, c.requires.0.crossings.few),
      omega (arith, run.1, c.requires.0.crossings.few),
    )

pub loop-line-preserved : goal.loop-line-preserved
loop-line-preserved c = let to = c.requires.1.marked.fit.to c.loop-k.k in (
  c.next_new-line-in-loop-line.ensures.le,
  λ l. (c.next_new-line-in-loop-line.ensures.found l).1,
  elim c.match-visit.branch [
    | in-Some w ↦ ap length w.marks-is ∙ w.widen.auto.marks ∙ c.loop-line.invariant.2
    | in_default w ↦ ap length w.marks-is ∙ c.loop-line.invariant.2
  ],
  c.visit.auto.ahead ∙ c.loop-line.invariant.3,
  c.visit.auto.behind ∙ c.loop-line.invariant.4,
  record {
    on = λ l₀ w₀ G.
        let P = c.loop-line.invariant.5.on l₀ w₀ G in
        passing-next c.requires.0.few c.next_new-line-in-loop-line.ensures to
        (elim c.match-visit.branch [
          | in-Some w ↦ rw (w.marks-is, w.new-is)
              (passing-more c.requires.0.crossings.few c.requires.0.few (omega (arith, c.loop-line-test, to))
              (omega (arith, c.loop-k-test)) (c.loop-line.invariant.1 (omega (arith, c.loop-line-test))) P
              (rw w.in-Some.is at c.visit.ensures) w.widen.ensures)
          | in_default w ↦ rw (w.marks-is, w.new-is)
              (passing-still c.requires.0.crossings.few c.requires.0.few (omega (arith, c.loop-line-test, to))
              (omega (arith, c.loop-k-test)) (c.loop-line.invariant.1 (omega (arith, c.loop-line-test))) P
              (rw w.in_default.is at c.visit.ensures))
        ]);
  },
)

pub loop-k-preserved : goal.loop-k-preserved
loop-k-preserved c = let from = c.requires.1.marked.fit.from c.loop-k.k in
    let to = c.requires.1.marked.fit.to c.loop-k.k in
    let P =
    c.loop-line.invariant.5.on _ _
    (passing-first c.requires.0.few (omega (arith, c.loop-k-test)) (omega (arith, from)) to c.requires.1.marked
    c.next_new-line.ensures c.loop-k.invariant.3) in (
      c.loop-line.invariant.2 ∙ c.loop-k.invariant.0,
      c.loop-line.invariant.3 ∙ c.loop-k.invariant.1,
      c.loop-line.invariant.4 ∙ c.loop-k.invariant.2,
      passing-line c.requires.0.few (omega (arith, c.loop-k-test)) (omega (arith, c.loop-line-test))
          c.requires.1.marked P,
    )
