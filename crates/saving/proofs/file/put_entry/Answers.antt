-- `saving::file::put_entry` meets its contract: net 0 is a patch, any other a leg.
use Rattle.saving.proofs.Records.{patch-put, leg-put}
use Rattle.saving.proofs.file.put_entry.Goals as goal

pub returns-then-e-eq0 : goal.returns-then-e-eq0
returns-then-e-eq0 c = patch-put _ c.if-e-eq0.true c.put_record.ensures

pub returns : goal.returns
returns c = leg-put _ c.if-e-eq0.false c.put_record-2.ensures
