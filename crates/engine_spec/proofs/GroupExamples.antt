-- From end to end in three unknowns: x = y loaded by the engine, its list handed on to the engine with x = z, in which z is fresh; and both loaded at once. The
-- lists hold the same rows. Assumes nothing.
use Rattle.std.specs.Prelude.{◌≡◌, refl, List, ◌∷◌, [], ◌++◌, ℕ, ◌+◌, ◌*◌, ◌≤◌, ◌<◌, ℤ, pos, negsuc, length, replicate, take as part}
use Rattle.std.proofs.Common.{arith, get_or-take}
use Rattle.linear.specs.Sums.{sum_to}
use Rattle.linear.specs.Systems.{inner, value}
use Rattle.linear.specs.Tests.{all_to, any_to, count_to}
use Rattle.linear.specs.Tuples.{total, unit}
use Rattle.definitions.specs.Answers.{◌then◌, refuse_first, refuse_with}
use Rattle.definitions.specs.System.{is_at_or_below}
use Rattle.definitions.specs.Tables.{at, bit, frozen, write_to}
use Rattle.laws.proofs.TableLaws.{row_before}
use Rattle.laws.specs.Pack.{pack_to}
use Rattle.desk_spec.specs.Promises.{SameList}
use Rattle.engine_spec.specs.Calls.{checked, coefficients_small, in_order, is_alone, is_free, is_fresh, is_left, is_list, is_rising, is_row, marks_in_order}
use Rattle.engine_spec.specs.Calls.{resume, resume_checks, start, start_checks, start_from, start_from_checks, start_from_under, start_under, take, take_checks}
use Rattle.engine_spec.specs.Engine.{Work, after, all_done, begun_from_under, begun_under, fill_to, finish, finished, onward, rested, run, taken, taken_fresh}
use Rattle.engine_spec.specs.Engine.{values_small}
use Rattle.engine_spec.specs.Fresh.{put_at}
use Rattle.engine_spec.specs.Promise.{after_resume, after_start, after_take}
use Rattle.engine_spec.specs.Reduction.{is_small, is_within, reducible}
use Rattle.engine_spec.specs.Search.{first_from, least_to, lesser}
use Rattle.engine_spec.specs.Stage.{begin, degree_turn, grown, is_due, is_pair, next_degree, pair_degree, pair_turn, paired, passed, raised, row_turn, turn}
use Rattle.engine_spec.proofs.Groups.{Made, further, handed_on, loaded, one_map}

-- tables with room for 8 rows
abbrev lent : Work
lent =
    record {
      equations = replicate 6 (pos 9);
      basis = replicate 24 9;
      count = 9;
      done = 9;
      equation = 9;
      fresh = 9;
      stage = begin 0 (replicate 24 9) 9;
    }

roomy : 8 * 3 ≤ length lent.basis
roomy = let e : length lent.basis ≡ 24 = refl in omega (arith, e)

abbrev first : List ℤ
first = pos 1 ∷ negsuc 0 ∷ pos 0 ∷ []

abbrev second : List ℤ
second = pos 1 ∷ pos 0 ∷ negsuc 0 ∷ []

-- ---- the first group

abbrev first_taken : Work
first_taken = (take 1 3 8 8 0 3 (start 1 3 first 8 lent).work).work

abbrev first_left : Work
first_left = (resume 1 3 8 8 100 first_taken).work

first_made : Made 3 1 first first_left.basis first_left.count
unfolding start_under take resume checked start_checks take_checks resume_checks begun_under taken run after finish finished rested all_done values_small onward
    fill_to in_order marks_in_order coefficients_small is_row is_rising is_left refuse_first refuse_with ◌then◌ pack_to turn row_turn pair_turn degree_turn
    paired grown passed raised is_pair is_due pair_degree next_degree first_from lesser least_to is_within reducible is_small is_at_or_below value inner sum_to
    all_to any_to count_to total unit write_to frozen bit
first_made = loaded 1 first (after_take (after_start 8 8 lent refl roomy roomy refl) 0 3) 100 refl

-- ---- the second from its list

abbrev handed : List ℕ
handed = part (first_left.count * 3) first_left.basis

handed_same : (i : ℕ) → i < first_left.count → (j : ℕ) → j < 3 → at handed 3 i j ≡ at first_left.basis 3 i j
handed_same i l j jq =
    get_or-take (first_left.count * 3) first_left.basis (i * 3 + j) 0 (omega (arith, row_before 3 first_left.count i 0 j l jq))

abbrev second_begun : Work
second_begun = (start_from 1 3 second first_left.count handed 8 lent).work

abbrev second_left : Work
second_left = (resume 1 3 8 8 100 (take 1 3 8 8 0 2 second_begun).work).work

second_made : Made 3 2 (first ++ second) second_left.basis second_left.count
unfolding start_under start_from_under take resume checked start_checks start_from_checks take_checks resume_checks begun_under begun_from_under taken
    taken_fresh run after finish finished rested all_done values_small onward fill_to in_order marks_in_order coefficients_small is_row is_rising is_left
    is_list is_fresh is_free is_alone refuse_first refuse_with ◌then◌ pack_to turn row_turn pair_turn degree_turn paired grown passed raised is_pair is_due
    pair_degree next_degree first_from lesser least_to is_within reducible is_small is_at_or_below value inner sum_to all_to any_to count_to total unit write_to
    frozen bit put_at
second_made =
    further 1 first refl 1 second
    (after_take (handed_on first_made handed handed_same 1 second 8 8 lent roomy roomy refl) 0 2) 100 refl

-- ---- both at once

abbrev both_begun : Work
both_begun = (start 2 3 (first ++ second) 8 lent).work

abbrev both_one : Work
both_one = (resume 2 3 8 8 100 (take 2 3 8 8 0 3 both_begun).work).work

abbrev both_left : Work
both_left = (resume 2 3 8 8 100 (take 2 3 8 8 1 2 both_one).work).work

both_made : Made 3 2 (first ++ second) both_left.basis both_left.count
unfolding start_under take resume checked start_checks take_checks resume_checks begun_under taken taken_fresh run after finish finished rested all_done
    values_small onward fill_to in_order marks_in_order coefficients_small is_row is_rising is_left is_fresh is_free is_alone refuse_first refuse_with ◌then◌
    pack_to turn row_turn pair_turn degree_turn paired grown passed raised is_pair is_due pair_degree next_degree first_from lesser least_to is_within reducible
    is_small is_at_or_below value inner sum_to all_to any_to count_to total unit write_to frozen bit put_at
both_made =
    loaded 2 (first ++ second) (after_take (after_resume (after_take (after_start 8 8 lent refl roomy roomy refl) 0 3) 100) 1 2) 100 refl

-- The two lists hold the same rows
agree : SameList 3 second_left.basis second_left.count both_left.basis both_left.count
agree = one_map second_made both_made
