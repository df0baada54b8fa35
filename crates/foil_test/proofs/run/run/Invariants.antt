-- Each record may come after the one before it.
use Rattle.job_report.specs.Report.{MayCome}
use Rattle.foil_test.proofs.run.run.Given as goal

abbrev pub invariant-loop : goal.invariant-loop
invariant-loop l = MayCome l.at l.board l.table l.strips
