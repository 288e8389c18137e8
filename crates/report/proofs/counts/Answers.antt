-- `counts` meets its contract. Assumes nothing.
use borrow.Author.Rules.{rules}
use Rattle.report_spec.specs.Printed as paper
use Rattle.texts.proofs.PutTheorems.{put_then}
use Rattle.report.proofs.counts.Goals as goal

pub returns : goal.returns
unfolding paper.counts
returns c =
    record {
      put = put_then c.counted-second.ensures.put (put_then c.counted-third.ensures.put (put_then c.counted-fourth.ensures.put c.counted.ensures.put));
      upper_bound = search rules;
    }
