-- `tables::legs::append_leg` meets its contract: a leg is the smaller and the larger ends of its two corners.
use Rattle.tables.proofs.Filling.{appended}
use Rattle.tables.proofs.Appending.{leg-appended}
use Rattle.tables.proofs.legs.append_leg.Goals as goal

pub returns : goal.returns
returns c = leg-appended _ _ _ _ _ _ _ _ _ _ _ _ c.corner_at-a.ensures c.corner_at-b.ensures
    c.min.ensures c.min-2.ensures c.max.ensures
    c.max-2.ensures
    (appended _ _ _ _ c.requires.n_lt_max_entries.0 c.requires.n_lt_max_entries.1 c.put_entry.ensures)
