-- `map_text::lines::read_line` meets its contract. What is left to read, after the numbers in the table, comes to the same as at first.
-- Assumes nothing.
use Rattle.std.proofs.Common.{◌≡◌, ◌≤◌, ◌∙◌, ◌+◌, ◌-◌, length, length-set, w32, arith, rules, to_z-of_z}
use Rattle.map_text.proofs.LineLaws.{line_done, line_malformed, line_number, take_next}
use Rattle.map_text.proofs.lines.read_line.Goals as goal

pub returns-in_err-field : goal.returns-in_err-field
returns-in_err-field c =
    let l = c.loop-i in
    rw c.from_residual.ensures (line_malformed _ _ (c.args.k - l.i) (omega arith) c.in_err-field.ensures ∙ l.invariant.reads)

pub loop-i-preserved : goal.loop-i-preserved
loop-i-preserved c =
    let l = c.loop-i in
    let n : c.args.k - (l.i + 1) ≡ c.args.k - l.i - 1 = omega arith in
    let m : c.args.base + (l.i + 1) ≡ c.args.base + l.i + 1 = omega arith in
    let inside : c.args.base + l.i + 1 ≤ length l.coefs = omega arith in
    rw (n, m, to_z-of_z {w = w32} {z = c.in_ok-field.field.value} (search rules)) (record {
      same = length-set l.coefs (c.args.base + l.i) _ ∙ l.invariant.same;
      reads = rw (take_next l.coefs (c.args.base + l.i) c.in_ok-field.field.value (omega arith))
          (line_number _ _ (c.args.k - l.i) (omega arith) c.in_ok-field.ensures ∙ l.invariant.reads);
    })

pub returns : goal.returns
returns c =
    let l = c.loop-i in
    let e : c.args.base + l.i ≡ c.args.base + c.args.k = omega arith in
    rw (← e) (line_done _ _ (c.args.k - l.i) (omega arith) ∙ l.invariant.reads)
