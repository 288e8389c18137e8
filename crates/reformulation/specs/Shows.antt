-- What the functions that show ask for, from what was checked before them; and the answer that the tests give. Assumes nothing.
use Rattle.std.specs.Prelude.{Result, Ok, Err, ◌≡◌, true, false, List, ℕ, ◌+◌, ◌≤◌, T, ℤ, nat_abs, pos, get_or, length}
use Rattle.std.proofs.Common.{inl, inr, mul-le-mul_right, arith}
use Rattle.std.proofs.Math.ListN.{get_or-eq_default}
use Rattle.linear.proofs.Cases.{split}
use Rattle.linear.proofs.TestLaws.{and_parts}
use Rattle.definitions.specs.Answers.{◌then◌, refuse_with}
use Rattle.calls.specs.Paper.{check_of, number_of, values_of}
use Rattle.calls.specs.declared.Refusal.{Refusal}
use Rattle.calls.specs.Codes.{refusal_code}
use Rattle.reformulation_spec.specs.Reformulation.{Reformulation, are_multiples, are_small, equations, given_checks, in_range, reformulates, shows, unknowns}
use Rattle.reformulation_spec.specs.Showing.{Small}
use Rattle.reformulation_spec.proofs.Showing.{multiples_from, range_from}
use Rattle.reformulation.specs.Given.{Given}
use Rattle.reformulation.specs.Numbers.{shown_told}
use Rattle.reformulation.specs.Sums.{Lines, Within}

-- a number that is read past the end of a table is 0
everywhere : (limit : ℕ) (table : List ℤ) → Small limit table → (i : ℕ) → nat_abs (get_or table i (pos 0)) ≤ limit
everywhere limit table s i =
    elim (split i (length table)) [ inl l ↦ s i l | inr l ↦ rw (get_or-eq_default table (pos 0) l) (omega arith) ]

within_of : {by rows table : List ℤ} → T (are_multiples by) → T (in_range rows) → T (in_range table) → Within by rows table
within_of {by} {rows} {table} a b c =
    record {
      multiples = everywhere _ by (multiples_from by a);
      row = everywhere _ rows (range_from rows b);
      others = everywhere _ table (range_from table c);
    }

module _ (r : Reformulation) (g : Given r) (small : are_small r ≡ true) where
  tests : T (in_range r.extended) × T (in_range r.other) × T (are_multiples r.onto) × T (are_multiples r.back) × T (are_multiples r.above)
  tests =
      let all : T (are_small r) = rw small tt in
      let (v, rest) = and_parts (in_range r.extended) _ all in
      let (w, more) = and_parts (in_range r.other) _ rest in
      let (o, others) = and_parts (are_multiples r.onto) _ more in
      let (b, u) = and_parts (are_multiples r.back) _ others in
      (v, w, o, b, u)

  pub onto_lines : Lines (unknowns r) (unknowns r) (equations r) r.m 0 r.onto r.other r.extended
  onto_lines =
      let zero : 0 + r.m ≡ r.m = omega arith in
      record {
        within = within_of tests.2 tests.1 tests.0;
        few = omega (arith, g.sized.p_few, g.sized.few);
        inside = omega arith;
        start = omega (arith, g.sized.m_few);
        by_long = omega (arith, g.lengths.onto);
        rows_long = rw zero (omega (arith, g.lengths.other));
        long = omega (arith, g.lengths.extended);
      }

  pub back_lines : Lines (unknowns r) (unknowns r) r.m (equations r) 0 r.back r.extended r.other
  back_lines =
      let zero : 0 + equations r ≡ equations r = omega arith in
      record {
        within = within_of tests.3 tests.0 tests.1;
        few = omega (arith, g.sized.m_few);
        inside = omega arith;
        start = omega (arith, g.sized.p_few, g.sized.few);
        by_long = omega (arith, g.lengths.back);
        rows_long = rw zero (omega (arith, g.lengths.extended));
        long = omega (arith, g.lengths.other);
      }

  pub above_lines : Lines r.q (unknowns r) r.p r.k r.p r.above r.extended r.extended
  above_lines =
      let fewer : r.p ≤ equations r = omega arith in
      record {
        within = within_of tests.4 tests.0 tests.0;
        few = omega (arith, g.sized.p_few);
        inside = omega arith;
        start = omega (arith, g.sized.p_few, g.sized.few);
        by_long = omega (arith, g.lengths.above);
        rows_long = omega (arith, g.lengths.extended);
        long = omega (arith, g.lengths.extended, mul-le-mul_right (unknowns r) fewer);
      }

-- ---- the answer

module _ (r : Reformulation) {c : Result (Unit {0}) Refusal} (e : check_of c ≡ given_checks r) where
  pub told_refused : {why : Refusal} → c ≡ Err why → refusal_code (number_of why) (values_of why) ≡ shown_told (reformulates r)
  unfolding reformulates ◌then◌
  told_refused g = rw (← e, g)

  module _ {x : Unit {0}} (g : c ≡ Ok x) where
    pub told_shown : shows r ≡ true → 128 ≡ shown_told (reformulates r)
    unfolding reformulates ◌then◌ refuse_with
    told_shown s = rw (← e, g, s)

    pub told_not : shows r ≡ false → 36 ≡ shown_told (reformulates r)
    unfolding reformulates ◌then◌ refuse_with
    told_not s = rw (← e, g, s)
