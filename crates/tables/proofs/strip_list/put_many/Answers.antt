-- `tables::strip_list::put_many` meets its contract.
use Rattle.tables.proofs.Putting.{put-over}
use Rattle.tables.proofs.strip_list.put_many.Goals as goal

pub returns : goal.returns
returns c =
    put-over _ _ _ _ _ _ _ c.requires.strips_size_in_bounds c.in_ok-count.ensures c.copy_from_slice.ensures.after
    (c.fill.ensures.after (λ y q. q))
