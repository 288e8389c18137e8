-- `texts::number::more_digits` meets its contract. What is left to read, with the digits that are left, comes to the same as at first, and the
-- digits read leave room. Assumes nothing.
use Rattle.std.proofs.Common.{◌≡◌, ◌-◌, drop}
use Rattle.texts.specs.Reading.{more_digits}
use Rattle.texts.specs.Places.{Room}
use Rattle.texts.proofs.number.more_digits.Given as goal

abbrev pub invariant-loop : goal.invariant-loop
invariant-loop l = record {
  room : Room l.most l.value (l.k - l.counter);
  reads : more_digits (l.k - l.counter) l.value (drop l.next l.text) ≡ more_digits l.k l.first (drop l.at l.text);
}
