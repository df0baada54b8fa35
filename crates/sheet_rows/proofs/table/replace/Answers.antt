-- `sheet_rows::table::replace` moves what stands behind, puts the rows before it, and zeros after it.
use Rattle.sheet_rows.proofs.Copying.{replaced-in}
use Rattle.sheet_rows.proofs.table.replace.Goals as goal

pub returns : goal.returns
returns c =
    replaced-in c.args.table.now c.args.rows.now c.args.start c.args.rest c.args.end c.requires.rest_bound.0
    c.requires.rest_bound.1 c.requires.rest_bound.2 c.requires.sheet_size_in_bounds c.copy_within.new.self
    c.copy_within.ensures.after _ c.copy.ensures _ (c.fill.ensures.after (λ y q. q))
