-- `ran` meets its contract. Assumes nothing.
use Rattle.report_spec.specs.Printed as paper
use Rattle.texts.proofs.PutTheorems.{put_then}
use Rattle.report.proofs.ran.Goals as goal

pub returns : goal.returns
unfolding paper.run_text
returns c =
    put_then c.counts-rows.ensures.put (put_then c.rows-end.ensures.put c.ending.ensures)
