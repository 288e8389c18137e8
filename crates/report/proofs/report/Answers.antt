-- `report` meets its contract. Assumes nothing.
use mathlib.Core.Path.{sym}
use native.Mathlib.Omega.{arith}
use lib.Seq.{length-take-le}
use Rattle.report.specs.ReportLaws.{put_first, refused_text, map_read}
use Rattle.report.proofs.report.Goals as goal

pub overflow_mul-n : goal.overflow_mul-n
overflow_mul-n c =
    let a = c.args in
    omega (arith, (map_read a.text.now _ c.read_map.ensures c.in-Ok.is).few)

pub slice_bounds-coefs-end : goal.slice_bounds-coefs-end
slice_bounds-coefs-end c =
    let a = c.args in
    (map_read a.text.now _ c.read_map.ensures c.in-Ok.is).fits

pub slice_bounds-solved-end-in-Ok : goal.slice_bounds-solved-end-in-Ok
slice_bounds-solved-end-in-Ok c =
    let a = c.args in
    sym (length-take-le _ _ (map_read a.text.now _ c.read_map.ensures c.in-Ok.is).fits)

pub returns-in-Err : goal.returns-in-Err
returns-in-Err c =
    let a = c.args in
    let all = rw (refused_text a.text.now _ c.read_map.ensures c.in-Err.is) at (put_first c.refused.ensures) in
    record { out_after = all.0; out_unchanged = all.1.0; upper_bound = all.1.1 }

pub returns-in-Ok : goal.returns-in-Ok
returns-in-Ok c =
    let a = c.args in
    let all = rw (map_read a.text.now _ c.read_map.ensures c.in-Ok.is).text at (put_first c.solved.ensures) in
    record { out_after = all.0; out_unchanged = all.1.0; upper_bound = all.1.1 }
