-- The grid, the labels, and where the walk starts.
use native.Mathlib.Omega.{arith}
use Rattle.search.proofs.Grid.{sizes, same-sizes}
use Rattle.search.proofs.Search.{no_search, choice-asked, searched-at}
use Rattle.search.proofs.labels.Goals as goal

pub returns-in_err-at : goal.returns-in_err-at
returns-in_err-at c = rw c.from_residual.ensures (no_search c.requires.build.aimed c.build-size.ensures
    c.in_err-at.ensures)

pub start_at-requires : goal.start_at-requires
start_at-requires c =
    let sized = sizes c.build-size.ensures c.requires.build.room c.requires.labels (omega (arith, c.build-size.auto))
    (omega (arith, c.build-size.auto)) in
    choice-asked c.requires.build.aimed c.build-size.ensures
    (same-sizes sized (omega (arith, c.label.auto)) (omega (arith, c.label.auto)) (omega (arith, c.label.auto))
    (omega (arith, c.label.auto))) c.in_ok-at.ensures

pub returns : goal.returns
returns c =
    let sized = sizes c.build-size.ensures c.requires.build.room c.requires.labels (omega (arith, c.build-size.auto))
    (omega (arith, c.build-size.auto)) in
    searched-at c.requires.build.aimed c.build-size.ensures
    (same-sizes sized (omega (arith, c.label.auto)) (omega (arith, c.label.auto)) (omega (arith, c.label.auto))
    (omega (arith, c.label.auto))) c.in_ok-at.ensures c.start_at.ensures
