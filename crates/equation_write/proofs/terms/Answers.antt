-- `equation_write::terms` meets its contract. Assumes nothing.
use Rattle.std.proofs.Common.{◌≡◌, ◌+◌, ap, pos, get_or, of_z, w32, arith, to_z-of_z}
use Rattle.texts.proofs.DecimalLaws.{decimal_digit}
use Rattle.texts.proofs.PutTheorems.{rest_next, rest_ends}
use Rattle.equation_write.specs.TextLaws.{rest_zero, rest_term, rest_end, word_fits, zero_word, term_short}
use Rattle.equation_write.proofs.terms.Goals as goal

pub loop-i-preserved-then-c-eq0 : goal.loop-i-preserved-then-c-eq0
loop-i-preserved-then-c-eq0 c =
    let row = c.args.row.now in
    let l = c.loop-i in
    let e = zero_word (get_or row l.i (pos 0)) (c.requires.1.range l.i c.loop-i-test.true) c.if-c-eq0.true in record {
      rest = rw (← rest_zero row l.i c.loop-i-test.true l.first e) l.invariant.rest;
      short = omega (arith, l.invariant.short);
    }

pub loop-i-preserved : goal.loop-i-preserved
loop-i-preserved c =
    let row = c.args.row.now in
    let l = c.loop-i in
    let z = get_or row l.i (pos 0) in
    let r = c.requires.1.range l.i c.loop-i-test.true in
    let p = rw (to_z-of_z {w = w32} {z = z} (word_fits z r)) at c.term-next.ensures in
    let h : z ≡ pos 0 → ⊥ = λ e. c.if-c-eq0.false (ap (of_z w32) e) in record {
      rest = rest_next (rw (rest_term row l.i c.loop-i-test.true l.first h) at l.invariant.rest) p;
      short = omega (arith, p.place, term_short l.first z (l.i + 1) r (omega (arith, c.loop-i-test.true, c.requires.0)), l.invariant.short);
    }

pub returns-then-first : goal.returns-then-first
returns-then-first c =
    let l = c.loop-i in
    let x = rw (c.if-first.true, (rest_end c.args.row.now l.i (l.i + 1) c.loop-i-test.false).0, decimal_digit 0 (omega arith)) at l.invariant.rest in
    x.completes c.byte.ensures

pub returns-else-first : goal.returns-else-first
returns-else-first c =
    let l = c.loop-i in
    rest_ends (rw (c.if-first.false, (rest_end c.args.row.now l.i (l.i + 1) c.loop-i-test.false).1) at l.invariant.rest)
