-- The place of the start, the labels of the targets, and the rounds.
use Rattle.sowing.proofs.Seeds.{begun}
use Rattle.sowing.proofs.Boxed.{aimed-twin}
use Rattle.search.proofs.Grid.{start-on}
use Rattle.search.proofs.Search.{labelled-if}
use Rattle.search.proofs.Shallow.{shallow}
use Rattle.search.proofs.label.Goals as goal

pub index_of-i-requires : goal.index_of-i-requires
index_of-i-requires c = (c.requires.sized.column-lines.fit, (start-on c.requires.grid c.requires.aimed).0)

pub index_of-j-requires : goal.index_of-j-requires
index_of-j-requires c = (c.requires.sized.row-lines.fit, (start-on c.requires.grid c.requires.aimed).1)

pub rounds-found-requires-clause-begun : goal.rounds-found-requires-clause-begun
rounds-found-requires-clause-begun c = begun (λ j lj i li. aimed-twin _ _ _ _ _ _ j i) c.sow_targets.ensures
    c.sow_targets-2.ensures

pub rounds-found-requires-clause-shallow : goal.rounds-found-requires-clause-shallow
rounds-found-requires-clause-shallow c = shallow c.requires.aimed c.requires.grid c.sow_targets.ensures
    c.sow_targets-2.ensures

pub returns : goal.returns
returns c = rw c.then_some.ensures (labelled-if _ (record {
  l₀ = c.sow_targets.new.labels;
  u₀ = c.sow_targets-2.new.labels;
  wl₀ = c.sow_targets.new.inks;
  wu₀ = c.sow_targets-2.new.inks;
  i-in = c.index_of-i.ensures.below;
  j-in = c.index_of-j.ensures.below;
  i-at = c.index_of-i.ensures.at;
  j-at = c.index_of-j.ensures.at;
  level-sown = c.sow_targets.ensures;
  upright-sown = c.sow_targets-2.ensures;
  ended = c.rounds-found.ensures;
}))
