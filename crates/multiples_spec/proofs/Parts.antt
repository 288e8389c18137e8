-- Theorems about what specs/Parts.antt defines. Assumes nothing.
use Rattle.std.specs.Prelude.{ℕ, List, ◌∷◌, [], ◌≡◌, refl, pos, negsuc}
use Rattle.linear.specs.Places.{else_if, first_to, last_to, place_if}
use Rattle.linear.specs.Sums.{sum_to}
use Rattle.linear.specs.Systems.{inner, value}
use Rattle.linear.specs.Tests.{all_to, any_to}
use Rattle.definitions.specs.Answers.{◌then◌, refuse_first, refuse_with}
use Rattle.definitions.specs.Highest.{highest}
use Rattle.definitions.specs.Input.{Input, input_of}
use Rattle.definitions.specs.Reasons as why
use Rattle.definitions.specs.Reasons.{reason_within, vanishes}
use Rattle.definitions.specs.Refusals.{check7, sizes}
use Rattle.definitions.specs.System.{is_at_or_below}
use Rattle.multiples_spec.specs.Parts.{
  Parts,
  all_taken,
  bounded,
  decomposed,
  decomposed_within,
  if_space,
  left_over,
  lower,
  made,
  no_space,
  off,
  often_to,
  parts_number,
  refused,
  taken_apart,
  unless_off,
  unlisted,
  write_times,
}

-- ---- it computes: on the paper's example 4 with its six minimal solutions as a run lists them, on the program's map with both of its own, and on 2 −3
-- with the list 3 2, 0 0

example4 : Input
example4 = input_of 1 4 (negsuc 0 ∷ pos 1 ∷ pos 2 ∷ negsuc 2 ∷ [])

six : List ℕ
six = 0 ∷ 0 ∷ 3 ∷ 2 ∷ 0 ∷ 1 ∷ 1 ∷ 1 ∷ 0 ∷ 3 ∷ 0 ∷ 1 ∷ 1 ∷ 0 ∷ 2 ∷ 1 ∷ 2 ∷ 0 ∷ 1 ∷ 0 ∷ 1 ∷ 1 ∷ 0 ∷ 0 ∷ []

-- 4 5 4 3 is 0 0 3 2, 0 1 1 1, and four times 1 1 0 0
plan : decomposed example4 six 6 (4 ∷ 5 ∷ 4 ∷ 3 ∷ []) (9 ∷ 9 ∷ 9 ∷ 9 ∷ 9 ∷ 9 ∷ []) ≡ record { answer = made; times = 1 ∷ 1 ∷ 0 ∷ 0 ∷ 0 ∷ 4 ∷ [] }
unfolding example4 six lower often_to bounded left_over write_times all_taken taken_apart if_space unless_off decomposed_within sum_to inner value all_to any_to
    else_if first_to place_if last_to refuse_with ◌then◌ refuse_first is_at_or_below why.is_same highest why.standing check7 why.reason_checks vanishes
    why.first_off why.zero_or why.off_or why.stands_or why.above_or why.in_list why.first_true why.unless_refused reason_within
plan = refl

example : Input
example = input_of 2 4 (negsuc 0 ∷ pos 1 ∷ pos 2 ∷ negsuc 2 ∷ negsuc 0 ∷ pos 3 ∷ negsuc 1 ∷ negsuc 0 ∷ [])

both : List ℕ
both = 0 ∷ 1 ∷ 1 ∷ 1 ∷ 4 ∷ 2 ∷ 1 ∷ 0 ∷ []

small : Input
small = input_of 1 2 (pos 2 ∷ negsuc 2 ∷ [])

nine : List ℕ
nine = 9 ∷ 9 ∷ 9 ∷ []

told : Input → List ℕ → ℕ → List ℕ → List ℕ → Parts × List ℕ
told i list found t times = ((decomposed i list found t times).answer, (decomposed i list found t times).times)

-- 8 7 5 3 is three times 0 1 1 1 and twice 4 2 1 0
answers : List (Parts × List ℕ)
answers =
    told example both 2 (8 ∷ 7 ∷ 5 ∷ 3 ∷ []) nine
    ∷ told example both 2 (0 ∷ 0 ∷ 0 ∷ 0 ∷ []) nine
    ∷ told example both 2 (4 ∷ 2 ∷ 1 ∷ 0 ∷ []) nine
    ∷ told example both 1 (8 ∷ 7 ∷ 5 ∷ 3 ∷ []) nine
    ∷ told example both 2 (8 ∷ 7 ∷ 5 ∷ 4 ∷ []) nine
    ∷ told small (3 ∷ 2 ∷ 0 ∷ 0 ∷ []) 2 (999999 ∷ 666666 ∷ []) nine
    ∷ told small (3 ∷ 2 ∷ 0 ∷ 0 ∷ []) 2 (6 ∷ 4 ∷ []) (9 ∷ [])
    ∷ told small (3 ∷ 2 ∷ 0 ∷ 0 ∷ []) 2 (6 ∷ 5 ∷ []) (9 ∷ [])
    ∷ told small (3 ∷ 2 ∷ 0 ∷ 0 ∷ []) 2 (1000002 ∷ 666668 ∷ []) (9 ∷ [])
    ∷ []

parts_hold : answers ≡ (made, 3 ∷ 2 ∷ 9 ∷ []) ∷ (made, 0 ∷ 0 ∷ 9 ∷ []) ∷ (made, 0 ∷ 1 ∷ 9 ∷ []) ∷ (unlisted, 3 ∷ 9 ∷ 9 ∷ []) ∷ (off 1 (negsuc 2), nine)
    ∷ (made, 333333 ∷ 0 ∷ 9 ∷ [])
    ∷ (no_space, 9 ∷ []) ∷ (off 1 (negsuc 2), 9 ∷ []) ∷ (refused 8 [], 9 ∷ []) ∷ []
unfolding example both small nine told answers lower often_to bounded left_over write_times all_taken taken_apart if_space unless_off decomposed_within sum_to
    inner value all_to any_to else_if first_to place_if last_to refuse_with ◌then◌ refuse_first is_at_or_below why.is_same highest why.standing check7
    why.reason_checks vanishes why.first_off why.zero_or why.off_or why.stands_or why.above_or why.in_list why.first_true why.unless_refused reason_within
parts_hold = refl

-- their numbers, and 1 and 2 within other sizes
numbers_hold : (parts_number (decomposed small (3 ∷ 2 ∷ 0 ∷ 0 ∷ []) 2 (6 ∷ 4 ∷ []) (9 ∷ [])).answer ≡ 29)
    × (parts_number (decomposed small (3 ∷ 2 ∷ 0 ∷ 0 ∷ []) 2 (1000002 ∷ 666668 ∷ []) (9 ∷ [])).answer ≡ 8)
    × (parts_number (decomposed (input_of 9 17 []) [] 0 [] []).answer ≡ 1)
    × (parts_number (decomposed_within (sizes 9 16) (input_of 9 17 []) [] 0 [] []).answer ≡ 2)
    × (parts_number (decomposed_within (sizes 9 17) (input_of 9 17 []) [] 0 [] []).answer ≡ 3)
unfolding small lower often_to bounded left_over write_times all_taken taken_apart if_space unless_off decomposed_within sum_to inner value all_to any_to
    else_if first_to place_if last_to refuse_with ◌then◌ refuse_first is_at_or_below why.is_same highest why.standing check7 why.reason_checks vanishes
    why.first_off why.zero_or why.off_or why.stands_or why.above_or why.in_list why.first_true why.unless_refused reason_within
numbers_hold = (refl, refl, refl, refl, refl)
