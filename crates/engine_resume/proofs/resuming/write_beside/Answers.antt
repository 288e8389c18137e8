-- `resuming::write_beside` meets its contract: each table is written by itself. Assumes nothing.
use mathlib.Core.Path.{refl}
use Rattle.engine_rows.specs.Marking.{valued_bounded}
use Rattle.engine_resume.proofs.ResumingTheorems.{marks_kept}
use Rattle.engine_resume.proofs.resuming.write_beside.Goals as goal

pub write_marks-requires : goal.write_marks-requires
write_marks-requires c = let p = c.requires in (
  p.rows,
  valued_bounded p.small p.rows c.write_values.ensures.0,
  p.mothered,
  p.marked,
)

pub returns : goal.returns
returns c = let d = c.write_degrees.ensures in
    let v = c.write_values.ensures in
    let w = c.write_words.ensures in
    let g = c.write_degrees-2.ensures in
    let m = c.write_marks.ensures in
    record {
      size = d.0;
      kept = d.1;
      valued = v.0;
      values = v.1;
      worded = w.0;
      words = w.1;
      measured = g.0;
      degrees = g.1;
      marked = m.marked _ v.0;
      marks = marks_kept m;
      mothers = refl;
    }
