-- `texts::number::more_digits` meets its contract. What is left to read, with the digits that are left, comes to the same as at first, and the
-- digits read leave room. Assumes nothing.
use Rattle.std.proofs.Common.{◌≡◌, ◌+◌, ◌-◌, ◌*◌, ◌<◌, ◌≤◌, ◌∙◌, arith}
use Rattle.texts.proofs.NumberLaws.{few_small, room_small, room_next, digit_range, more_none, more_stop, more_digit}
use Rattle.texts.proofs.number.more_digits.Goals as goal
use Rattle.texts.proofs.number.more_digits.Goals.{In-Some}

few : (c : In-Some) → c.in-Some.digit ≤ 9
few c = rw c.in-Some.ensures.2 (digit_range _ c.in-Some.ensures.1).1

-- one digit more, and the number still has at most nine
below : (c : In-Some) → c.loop.value * 10 + c.in-Some.digit < 1000000000
below c =
    let l = c.loop in
    let r = room_next c.args.most l.value (c.args.k - l.counter) c.in-Some.digit (omega arith) (few c) l.invariant.room in
    omega (arith, room_small r, few_small c.requires.0)

pub overflow_mul-value : goal.overflow_mul-value
overflow_mul-value c = omega (arith, below c)

pub overflow_add-value : goal.overflow_add-value
overflow_add-value c = omega (arith, below c)

pub loop-preserved : goal.loop-preserved
loop-preserved c =
    let l = c.loop in
    let n : c.args.k - (l.counter + 1) ≡ c.args.k - l.counter - 1 = omega arith in
    rw n (record {
      room = room_next c.args.most l.value (c.args.k - l.counter) c.in-Some.digit (omega arith) (few c) l.invariant.room;
      reads = rw c.in-Some.ensures.2
          (more_digit _ l.next l.value (c.args.k - l.counter) (omega arith) c.in-Some.ensures.0 c.in-Some.ensures.1 ∙ l.invariant.reads);
    })

pub returns-after-loop : goal.returns-after-loop
returns-after-loop c =
    let l = c.loop in
    more_none _ l.next l.value (c.args.k - l.counter) (omega arith) ∙ l.invariant.reads

pub returns-in_default : goal.returns-in_default
returns-in_default c =
    let l = c.loop in
    more_stop _ l.next l.value (c.args.k - l.counter) c.in_default.ensures ∙ l.invariant.reads
