-- `carrying::carry` meets its contract: 12 for the new lists, the old ones and the report, then 13, then the rows.
use Rattle.foil.proofs.Giving.{long-enough}
use Rattle.carrying.proofs.Ending.{short-new, short-old, short-report, old-broken, kept_by, old-rows, carried_on}
use Rattle.carrying.proofs.carry.Goals as goal
use Rattle.carrying.proofs.carry.Goals.{then-lists_short-via-then-lists_short}
use Rattle.carrying.proofs.carry.Goals.{then-lists_short-via-else-lists_short+then-lists_short-2}
use Rattle.carrying.proofs.carry.Goals.{then-lists_short-via-else-lists_short+else-lists_short-2+then-report-lt-REPORT_PLACES}

pub returns-then-lists_short : goal.returns-then-lists_short
returns-then-lists_short c =
    rw c.into.ensures
    (elim c.then-lists_short.branch [
      | then-lists_short-via-then-lists_short w ↦ short-new _ _ _ _ _ _ _ _ c.lists_short.ensures w.if-lists_short.true
      | then-lists_short-via-else-lists_short+then-lists_short-2 w ↦
          short-old _ _ _ _ _ _ _ _ c.lists_short.ensures w.if-lists_short.false _
          w.lists_short-else-lists_short.ensures w.if-lists_short-2.true
      | then-lists_short-via-else-lists_short+else-lists_short-2+then-report-lt-REPORT_PLACES w ↦
          short-report _ _ _ _ _ _ _ _ c.lists_short.ensures w.if-lists_short.false _
          w.lists_short-else-lists_short.ensures w.if-lists_short-2.false w.if-report-lt-REPORT_PLACES.true
    ])

pub returns-then-not-old_sound : goal.returns-then-not-old_sound
returns-then-not-old_sound c =
    rw c.into-then-not-old_sound.ensures
    (old-broken _ _ _ _ _ _ _ _ c.lists_short.ensures c.if-lists_short.false _
    c.lists_short-else-lists_short.ensures c.if-lists_short-2.false c.if-report-lt-REPORT_PLACES.false _
    c.old_sound.ensures c.if-not-old_sound.true)

pub carry_rows-requires : goal.carry_rows-requires
carry_rows-requires c =
    let lists = long-enough c.args.board.now _ _ _ c.lists_short.ensures c.if-lists_short.false in
    record {
      old_rows = old-rows _ _ _ (kept_by _ _ c.old_sound.ensures c.if-not-old_sound.false);
      table_size_in_bounds = (lists.table, lists.strips, c.if-report-lt-REPORT_PLACES.false);
    }

pub returns : goal.returns
returns c =
    carried_on _ _ _ _ _ _ _ _ c.lists_short.ensures c.if-lists_short.false _
    c.lists_short-else-lists_short.ensures c.if-lists_short-2.false c.if-report-lt-REPORT_PLACES.false _
    c.old_sound.ensures c.if-not-old_sound.false _ _ _ _ _ c.carry_rows.ensures
