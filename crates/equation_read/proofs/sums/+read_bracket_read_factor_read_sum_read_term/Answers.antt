-- The readers of sums, terms, factors and brackets meet their contracts, one by the others: the depth falls with each bracket. Assumes nothing.
use Rattle.std.proofs.Common.{◌+◌, ◌≤◌, sym, ap, ◌∙◌, arith, rules, pos, ◌*ℤ◌, w64, SFits, to_z-of_z}
use Rattle.std.proofs.Math.Nat.{pos_of_ne-zero}
use Rattle.equation_read.specs.Totals.{signed_by, bounded}
use Rattle.equation_read.specs.SizeLaws.{product_small, bounded_small}
use Rattle.equation_read.specs.ByteLaws.{starts_inside}
use Rattle.equation_read.specs.RoomLaws.{skip_left, numeral_left, index_left, numeral_most, index_most, less_left, add_room, total_small, signed_small}
use Rattle.equation_read.specs.RoomLaws.{passed_from}
use Rattle.equation_read.specs.SumLaws.{after_left, factor_bracket, factor_malformed, factor_unknown, factor_none, term_end, term_factor}
use Rattle.equation_read.specs.SumLaws.{term_malformed, term_number, term_times, bracket_none, bracket_stopped, bracket_open, bracket_closed}
use Rattle.equation_read.specs.SumLaws.{due_first, due_stopped, due_over, due_next}
use Rattle.equation_read.proofs.sums.+read_bracket_read_factor_read_sum_read_term.Goals as goal

-- ---- a bracket

pub read_bracket-returns-then-depth-eq0-clause-read : goal.read_bracket-returns-then-depth-eq0-clause-read
read_bracket-returns-then-depth-eq0-clause-read t c = bracket_none _ _ _ _ _ c.if-depth-eq0.true

pub read_bracket-read_sum-requires : goal.read_bracket-read_sum-requires
read_bracket-read_sum-requires t c =
    let f : SFits w64 c.within.result = search rules in
    let text = c.args.text.now in (
      omega (arith, c.decreases, pos_of_ne-zero c.if-depth-eq0.false),
      record {
        few = c.requires.few;
        multiple = rw (to_z-of_z {w = w64} f, c.within.ensures, to_z-of_z c.ranges.times) (bounded_small c.args.times);
        room = less_left (skip_left text c.args.at c.skip.result c.skip.ensures) c.requires.room;
      },
    )

pub read_bracket-returns-then-not-stands-clause-read : goal.read_bracket-returns-then-not-stands-clause-read
read_bracket-returns-then-not-stands-clause-read t c =
    let f : SFits w64 c.within.result = search rules in
    let m = to_z-of_z {w = w64} f ∙ c.within.ensures ∙ ap bounded (to_z-of_z c.ranges.times) in
    let h = rw m at c.in_ok-sum.ensures.read in
    bracket_open
    c.args.q c.args.depth c.args.times c.args.totals.now c.args.text.now c.args.at c.skip.result
    c.if-depth-eq0.false c.skip.ensures
    c.in_ok-sum.sum.next c.skip-close.result h c.skip-close.ensures (sym c.stands.ensures ∙ c.if-not-stands.true)

pub read_bracket-overflow_add-result : goal.read_bracket-overflow_add-result
read_bracket-overflow_add-result t c =
    omega (arith, starts_inside c.args.text.now c.skip-close.result 41 (sym c.stands.ensures ∙ c.if-not-stands.false), c.well_formed)

pub read_bracket-returns-in_err-sum-clause-read : goal.read_bracket-returns-in_err-sum-clause-read
read_bracket-returns-in_err-sum-clause-read t c =
    let f : SFits w64 c.within.result = search rules in
    let m = to_z-of_z {w = w64} f ∙ c.within.ensures ∙ ap bounded (to_z-of_z c.ranges.times) in
    let h = rw m at c.in_err-sum.ensures.read in
    rw c.from_residual.ensures
    (bracket_stopped
    c.args.q c.args.depth c.args.times c.args.totals.now c.args.text.now c.args.at c.skip.result
    c.if-depth-eq0.false c.skip.ensures h)

pub read_bracket-returns : goal.read_bracket-returns
read_bracket-returns t c =
    let f : SFits w64 c.within.result = search rules in
    let text = c.args.text.now in
    let m = to_z-of_z {w = w64} f ∙ c.within.ensures ∙ ap bounded (to_z-of_z c.ranges.times) in
    let h = rw m at c.in_ok-sum.ensures.read in
    let a = c.in_ok-sum.ensures.passed in
    let x = sym c.stands.ensures ∙ c.if-not-stands.false in
    let y = skip_left text c.args.at c.skip.result c.skip.ensures in
    let v = skip_left text c.in_ok-sum.sum.next c.skip-close.result c.skip-close.ensures in record {
      read = rw (c.out_of_range.ensures, to_z-of_z c.ranges.times)
          (bracket_closed
          c.args.q c.args.depth c.args.times c.args.totals.now text c.args.at c.skip.result c.if-depth-eq0.false c.skip.ensures
          c.in_ok-sum.sum.next c.skip-close.result h c.skip-close.ensures x);
      passed = record { less = omega (arith, a.less); room = less_left (omega arith) a.room };
    }

-- ---- a factor

pub read_factor-overflow_add-at : goal.read_factor-overflow_add-at
read_factor-overflow_add-at t c = omega (arith, starts_inside c.args.text.now c.args.at 40 (sym c.stands.ensures ∙ c.if-stands.true), c.well_formed)

pub read_factor-read_bracket-requires : goal.read_factor-read_bracket-requires
read_factor-read_bracket-requires t c = (
  omega (arith, c.decreases),
  record { few = c.requires.few; multiple = rw (to_z-of_z c.ranges.times) c.requires.multiple; room = less_left (omega arith) c.requires.room },
)

pub read_factor-returns-then-stands : goal.read_factor-returns-then-stands
read_factor-returns-then-stands t c =
    let h = rw (to_z-of_z c.ranges.times) at c.read_bracket.ensures.read in record {
      read = factor_bracket c.args.q c.args.depth c.args.times c.args.totals.now c.args.text.now c.args.at (sym c.stands.ensures ∙ c.if-stands.true) h;
      passed = passed_from c.args.text.now c.args.at (c.args.at + 1) c.read_bracket.result _ (omega arith) c.read_bracket.ensures.passed;
    }

pub read_factor-returns-then-not-stands-clause-read : goal.read_factor-returns-then-not-stands-clause-read
read_factor-returns-then-not-stands-clause-read t c =
    factor_none _ _ _ _ _ (sym c.stands.ensures ∙ c.if-stands.false) (sym c.stands-2.ensures ∙ c.if-not-stands.true)

pub read_factor-overflow_add-at-2 : goal.read_factor-overflow_add-at-2
read_factor-overflow_add-at-2 t c =
    omega (arith, starts_inside c.args.text.now c.args.at 120 (sym c.stands-2.ensures ∙ c.if-not-stands.false), c.well_formed)

pub read_factor-add_at-requires : goal.read_factor-add_at-requires
read_factor-add_at-requires t c =
    let h = c.in_ok-index.ensures in
    let i : c.in_ok-index.index.value ≤ c.args.q = index_most c.args.q c.in_ok-index.index.value _ _ h in (
      omega (arith, i, c.requires.few),
      total_small c.in_ok-index.index.value c.requires.room,
      rw (to_z-of_z c.ranges.times) c.requires.multiple,
    )

pub read_factor-returns-in_err-index-clause-read : goal.read_factor-returns-in_err-index-clause-read
read_factor-returns-in_err-index-clause-read t c =
    let h = c.in_err-index.ensures in
    rw c.from_residual.ensures
    (factor_malformed c.args.q c.args.depth c.args.times c.args.totals.now c.args.text.now c.args.at (sym c.stands-2.ensures ∙ c.if-not-stands.false) h)

pub read_factor-returns : goal.read_factor-returns
read_factor-returns t c =
    let text = c.args.text.now in
    let n = c.in_ok-index.index.value in
    let h = c.in_ok-index.ensures in
    let y = index_left text (c.args.at + 1) c.in_ok-index.index.next c.args.q n h in record {
      read = rw (c.add_at.ensures, to_z-of_z c.ranges.times)
          (factor_unknown c.args.q c.args.depth c.args.times c.args.totals.now text c.args.at n
          (sym c.stands-2.ensures ∙ c.if-not-stands.false) h);
      passed = record {
        less = omega arith;
        room = rw (c.add_at.ensures, to_z-of_z c.ranges.times)
            (add_room n c.args.times c.args.totals.now c.requires.multiple (omega arith) c.requires.room);
      };
    }

-- ---- a sum

pub read_sum-loop-term-init : goal.read_sum-loop-term-init
read_sum-loop-term-init t c =
    rw (to_z-of_z c.ranges.times, c.is_minus-minus.ensures)
    (due_first c.args.q c.args.depth c.args.text.now c.args.at c.args.times c.args.totals.now c.after_sign-next.result
    c.after_sign-next.ensures c.requires.room)

pub read_sum-signed-requires : goal.read_sum-signed-requires
read_sum-signed-requires t c = rw (to_z-of_z c.ranges.times) c.requires.multiple

pub read_sum-read_term-requires : goal.read_sum-read_term-requires
read_sum-read_term-requires t c =
    let f : SFits w64 c.signed.result = search rules in (
      omega (arith, c.decreases),
      record {
        few = c.requires.few;
        multiple = rw (to_z-of_z {w = w64} f, c.signed.ensures, to_z-of_z c.ranges.times) (signed_small c.loop-term.minus c.args.times c.requires.multiple);
        room = c.loop-term.invariant.room;
      },
    )

pub read_sum-returns-in_err-term-clause-read : goal.read_sum-returns-in_err-term-clause-read
read_sum-returns-in_err-term-clause-read t c =
    let f : SFits w64 c.signed.result = search rules in
    let inv = rw (to_z-of_z c.ranges.times) at c.loop-term.invariant in
    let m = to_z-of_z {w = w64} f ∙ c.signed.ensures ∙ ap (signed_by c.loop-term.minus) (to_z-of_z c.ranges.times) in
    let h = rw m at c.in_err-term.ensures.read in
    rw c.from_residual.ensures (due_stopped c.args.q c.args.depth c.args.text.now c.args.at c.args.times c.args.totals.now inv h)

pub read_sum-returns-then-not-is_sign : goal.read_sum-returns-then-not-is_sign
read_sum-returns-then-not-is_sign t c =
    let f : SFits w64 c.signed.result = search rules in
    let inv = rw (to_z-of_z c.ranges.times) at c.loop-term.invariant in
    let m = to_z-of_z {w = w64} f ∙ c.signed.ensures ∙ ap (signed_by c.loop-term.minus) (to_z-of_z c.ranges.times) in
    let h = rw m at c.in_ok-term.ensures.read in
    let a = c.in_ok-term.ensures.passed in record {
      read = (due_over
          c.args.q c.args.depth c.args.text.now c.args.at c.args.times c.args.totals.now inv c.in_ok-term.term.next
          c.skip-sign.result h c.skip-sign.ensures
          (sym c.is_sign.ensures ∙ c.if-not-is_sign.true));
      passed = record { less = omega (arith, a.less, inv.onward); room = a.room };
    }

pub read_sum-loop-term-smaller : goal.read_sum-loop-term-smaller
read_sum-loop-term-smaller t c =
    let text = c.args.text.now in
    let a = c.in_ok-term.ensures.passed in
    omega (
      arith,
      a.less,
      skip_left text c.in_ok-term.term.next c.skip-sign.result c.skip-sign.ensures,
      after_left text c.skip-sign.result c.after_sign-next-in-loop-term.result c.after_sign-next-in-loop-term.ensures,
    )

pub read_sum-loop-term-preserved : goal.read_sum-loop-term-preserved
read_sum-loop-term-preserved t c =
    let f : SFits w64 c.signed.result = search rules in
    let inv = rw (to_z-of_z c.ranges.times) at c.loop-term.invariant in
    let m = to_z-of_z {w = w64} f ∙ c.signed.ensures ∙ ap (signed_by c.loop-term.minus) (to_z-of_z c.ranges.times) in
    let h = rw m at c.in_ok-term.ensures.read in
    let a = c.in_ok-term.ensures.passed in
    rw (to_z-of_z c.ranges.times, c.is_minus-minus-in-loop-term.ensures)
    (due_next
    c.args.q c.args.depth c.args.text.now c.args.at c.args.times c.args.totals.now inv c.in_ok-term.term.next
    c.skip-sign.result h c.skip-sign.ensures
    c.after_sign-next-in-loop-term.result (sym c.is_sign.ensures ∙ c.if-not-is_sign.false) c.after_sign-next-in-loop-term.ensures a.less a.room)

-- ---- a term

pub read_term-returns-then-text-at-clause-read : goal.read_term-returns-then-text-at-clause-read
read_term-returns-then-text-at-clause-read t c = term_end _ _ _ _ _ _ c.if-text-at.true

pub read_term-read_factor-requires : goal.read_term-read_factor-requires
read_term-read_factor-requires t c = (
  omega (arith, c.decreases),
  record { few = c.requires.few; multiple = rw (to_z-of_z c.ranges.times) (omega (arith, c.requires.multiple)); room = c.requires.room },
)

pub read_term-returns-then-not-is_digit : goal.read_term-returns-then-not-is_digit
read_term-returns-then-not-is_digit t c =
    let h = rw (to_z-of_z c.ranges.times) at c.read_factor.ensures.read in record {
      read = term_factor c.args.q c.args.depth c.args.times c.args.totals.now c.args.text.now c.args.at c.if-text-at.false
          (sym c.is_digit.ensures ∙ c.if-not-is_digit.true) h;
      passed = c.read_factor.ensures.passed;
    }

pub read_term-overflow_add-star : goal.read_term-overflow_add-star
read_term-overflow_add-star t c = omega (arith, starts_inside c.args.text.now c.skip-star.result 42 (sym c.stands.ensures ∙ c.if-stands.true), c.well_formed)

pub read_term-scaled-product-requires : goal.read_term-scaled-product-requires
read_term-scaled-product-requires t c =
    (rw (to_z-of_z c.ranges.times) c.requires.multiple, numeral_most c.in_ok-number.number.value _ _ c.in_ok-number.ensures)

pub read_term-read_factor-requires-then-stands : goal.read_term-read_factor-requires-then-stands
read_term-read_factor-requires-then-stands t c =
    let f : SFits w64 c.scaled-product.result = search rules in
    let text = c.args.text.now in
    let h = c.in_ok-number.ensures in
    let n = c.in_ok-number.number.value in
    let j = c.in_ok-number.number.next in
    let y = numeral_left text c.args.at j n h in
    let w = skip_left text j c.skip-star.result c.skip-star.ensures in
    let o = skip_left text (c.skip-star.result + 1) c.skip.result c.skip.ensures in (
      omega (arith, c.decreases),
      record {
        few = c.requires.few;
        multiple =
            rw (to_z-of_z {w = w64} f, c.scaled-product.ensures, to_z-of_z c.ranges.times)
            (product_small c.args.times n c.requires.multiple (numeral_most n _ _ h));
        room = less_left (omega arith) c.requires.room;
      },
    )

pub read_term-returns-then-stands : goal.read_term-returns-then-stands
read_term-returns-then-stands t c =
    let f : SFits w64 c.scaled-product.result = search rules in
    let text = c.args.text.now in
    let h = c.in_ok-number.ensures in
    let n = c.in_ok-number.number.value in
    let j = c.in_ok-number.number.next in
    let y = numeral_left text c.args.at j n h in
    let w = skip_left text j c.skip-star.result c.skip-star.ensures in
    let o = skip_left text (c.skip-star.result + 1) c.skip.result c.skip.ensures in
    let z = to_z-of_z {w = w64} f ∙ c.scaled-product.ensures ∙ ap (λ a. a *ℤ pos n) (to_z-of_z c.ranges.times) in record {
      read = term_times
          c.args.q c.args.depth c.args.times c.args.totals.now text c.args.at n j c.skip-star.result c.if-text-at.false
          (sym c.is_digit.ensures ∙ c.if-not-is_digit.false) h c.skip-star.ensures c.skip.result
          (sym c.stands.ensures ∙ c.if-stands.true) c.skip.ensures
          (rw z at c.read_factor-then-stands.ensures.read);
      passed = passed_from text c.args.at c.skip.result c.read_factor-then-stands.result _ (omega arith) c.read_factor-then-stands.ensures.passed;
    }

pub read_term-add_at-requires : goal.read_term-add_at-requires
read_term-add_at-requires t c =
    let f : SFits w64 c.scaled-product.result = search rules in
    let n = c.in_ok-number.number.value in
    let h = c.in_ok-number.ensures in (
      omega arith,
      total_small 0 c.requires.room,
      rw (to_z-of_z {w = w64} f, c.scaled-product.ensures, to_z-of_z c.ranges.times)
          (product_small c.args.times n c.requires.multiple (numeral_most n _ _ h)),
    )

pub read_term-returns-in_err-number-clause-read : goal.read_term-returns-in_err-number-clause-read
read_term-returns-in_err-number-clause-read t c =
    let h = c.in_err-number.ensures in
    rw c.from_residual.ensures
    (term_malformed c.args.q c.args.depth c.args.times c.args.totals.now c.args.text.now c.args.at c.if-text-at.false
    (sym c.is_digit.ensures ∙ c.if-not-is_digit.false) h)

pub read_term-returns : goal.read_term-returns
read_term-returns t c =
    let f : SFits w64 c.scaled-product.result = search rules in
    let text = c.args.text.now in
    let h = c.in_ok-number.ensures in
    let n = c.in_ok-number.number.value in
    let j = c.in_ok-number.number.next in
    let z = to_z-of_z {w = w64} f ∙ c.scaled-product.ensures ∙ ap (λ a. a *ℤ pos n) (to_z-of_z c.ranges.times) in record {
      read = rw (c.add_at.ensures, z)
          (term_number
          c.args.q c.args.depth c.args.times c.args.totals.now text c.args.at n j c.skip-star.result c.if-text-at.false
          (sym c.is_digit.ensures ∙ c.if-not-is_digit.false) h c.skip-star.ensures (sym c.stands.ensures ∙ c.if-stands.false));
      passed = record {
        less = numeral_left text c.args.at j n h;
        room = rw (c.add_at.ensures, z)
            (add_room 0 (c.args.times *ℤ pos n) c.args.totals.now (product_small c.args.times n c.requires.multiple (numeral_most n _ _ h))
            (numeral_left text c.args.at j n h) c.requires.room);
      };
    }
