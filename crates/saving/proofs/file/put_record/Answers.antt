-- `saving::file::put_record` meets its contract: the numbers after the map byte.
use Rattle.putting.proofs.Putting.{put_then}
use Rattle.saving.proofs.file.put_record.Goals as goal

pub returns : goal.returns
returns c = put_then c.put_bytes-a.ensures c.put_numbers.ensures
