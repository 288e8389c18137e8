-- `words::word_of_fields` meets its contract: the fields from the last one down to j are made. Assumes nothing.
use Rattle.std.proofs.Common.{◌≡◌, ℕ, ◌<◌, ◌≤◌, ◌-◌}
use Rattle.engine_beside.specs.WordLaws.{fields_from, sevens}
use Rattle.engine_beside.proofs.words.word_of_fields.Given as goal

abbrev pub invariant-loop-j : goal.invariant-loop-j
invariant-loop-j g l =
    (l.word ≤ sevens (l.fields - l.j))
    × ((x : ℕ → ℕ) → ((j y : ℕ) → j < l.fields → goal.F-post g l.field j y → y ≡ x j) → l.word ≡ fields_from l.fields x l.j)
