-- `react::report::write_pair` meets its contract.
use Rattle.encoding.proofs.Rows.{appended-more}
use Rattle.react.proofs.report.write_pair.Goals as goal

pub returns : goal.returns
returns c = appended-more c.put-next.ensures c.put.ensures
