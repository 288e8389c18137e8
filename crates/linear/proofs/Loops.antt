-- The minimal solutions of any homogeneous system, listed once each, make up every solution, and no shorter list of solutions does.
-- Assumes nothing.
use Rattle.std.specs.Prelude.{ℕ, zero, suc, ◌-◌, ◌≤◌, ◌<◌, ℤ}
use Rattle.std.proofs.Math.Decide.{ℕ_discrete}
use Rattle.std.proofs.Common.{arith}
use Rattle.linear.specs.Combinations.{Enumerates, SumOf, combined_raise}
use Rattle.linear.proofs.Combinations.{combined_above, combined_none, combined_some, found_below, met_each, rest_solves}
use Rattle.linear.specs.Systems.{Solution, SolutionIn}
use Rattle.linear.specs.TupleLaws.{total_sum}
use Rattle.linear.proofs.TupleLaws.{least, term_le_total, total_some}
use Rattle.linear.specs.Tuples.{AtOrBelow, Minimal, Nonzero, Same, raise, total}

-- the minimal of the solutions that are not 0 (in the trade: the loops)
abbrev pub Loop : ℕ → ℕ → (ℕ → ℕ → ℤ) → (ℕ → ℕ) → Type 0
Loop p q a = Minimal q (SolutionIn p q a (Nonzero q))

-- each solution, of any size, is a sum of the first n rows with natural multiples
abbrev pub MakesUp : (p q : ℕ) (a : ℕ → ℕ → ℤ) (n : ℕ) (row : ℕ → ℕ → ℕ) → Type 0
MakesUp p q a n row = (t : ℕ → ℕ) → Solution p q a t → SumOf q n row t

-- each of the first n rows is a solution: 0, twice the same, or not minimal as it may be
abbrev pub Solutions : (p q : ℕ) (a : ℕ → ℕ → ℤ) (n : ℕ) (row : ℕ → ℕ → ℕ) → Type 0
Solutions p q a n row = (i : ℕ) → i < n → Solution p q a (row i)

-- What holds of a list of n rows (document 02, Job 13): it makes up every solution, and no shorter list of solutions does
pub record MadeOfRows (p q : ℕ) (a : ℕ → ℕ → ℤ) (n : ℕ) (row : ℕ → ℕ → ℕ) : Type 0 where
  -- "each natural solution of the system, of any size, is a sum of listed rows with natural multiples": there are `times` with
  -- t j ≡ times 0 * row 0 j + .. + times (n - 1) * row (n - 1) j at each place j
  pub every : MakesUp p q a n row
  -- "and no shorter list of solutions has that property": a list of m solutions that makes up every solution has n entries or more
  pub fewest : (m : ℕ) (other : ℕ → ℕ → ℕ) → Solutions p q a m other → MakesUp p q a m other → n ≤ m

module _ (p q : ℕ) (a : ℕ → ℕ → ℤ) (n : ℕ) (row : ℕ → ℕ → ℕ) where
  -- t is the sum without one copy of row i, and row i
  one_more : (t : ℕ → ℕ) (i : ℕ) → i < n → AtOrBelow q (row i) t → SumOf q n row (λ j. t j - row i j) → SumOf q n row t
  one_more t i l b r =
      record {
        times = raise r.times i;
        adds_up = λ j jq. omega (arith, combined_raise n r.times row i j l, r.adds_up j jq, b j jq);
      }

  -- By descent on the sum of components: take off a row at or below t, found in the list.
  descend : Solutions p q a n row → ((i : ℕ) → i < n → Nonzero q (row i)) → ((t : ℕ → ℕ) → Loop p q a t → (i : ℕ) × (i < n) × Same q (row i) t)
      → (d : ℕ) (t : ℕ → ℕ) → total t q < d → Solution p q a t → SumOf q n row t
  descend solves some all zero t l s = absurd (omega arith)
  descend solves some all (suc d) t l s =
      elim (ℕ_discrete (total t q) 0) [
        | yes z ↦ record { times = λ i. 0; adds_up = λ j jq. omega (arith, combined_none n row j, term_le_total t q j jq) }
        | no ne ↦
            let (i, il, b) = found_below q (SolutionIn p q a (Nonzero q)) n row all t (record { solution = s; admitted = total_some t q ne }) in
            let (x, xq, more) = some i il in
            let smaller : total (λ j. t j - row i j) q < d =
            omega (arith, total_sum t (row i) (λ j. t j - row i j) q (λ j jq. omega (arith, b j jq)), term_le_total (row i) q x xq) in
            one_more t i il b (descend solves some all d (λ j. t j - row i j) smaller (rest_solves p q a (row i) t b (solves i il) s))
      ]

  -- a list of nonzero solutions that holds each loop, and may hold more, makes up every solution
  pub loops_within : Solutions p q a n row → ((i : ℕ) → i < n → Nonzero q (row i)) → ((t : ℕ → ℕ) → Loop p q a t → (i : ℕ) × (i < n) × Same q (row i) t)
      → MakesUp p q a n row
  loops_within solves some all t s = descend solves some all (suc (total t q)) t (omega arith) s

  module _ (loops : Enumerates q (Loop p q a) n row) where
    -- "each natural solution of the system, of any size, is a sum of listed rows with natural multiples"
    pub loops_make_up : MakesUp p q a n row
    loops_make_up t s =
        loops_within (λ i l. (loops.only i l).holds.solution) (λ i l. (loops.only i l).holds.admitted) loops.all t s

    -- a list of solutions that makes up a loop holds it
    holds_loop : (m : ℕ) (other : ℕ → ℕ → ℕ) → Solutions p q a m other → (t : ℕ → ℕ) → Loop p q a t → SumOf q m other t → (k : ℕ) × (k < m) × Same q (other k) t
    holds_loop m other solves t loop sum =
        let (j, jq, more) = loop.holds.admitted in
        let (k, km, taken, some) = combined_some q m sum.times other (j, jq, omega (arith, sum.adds_up j jq)) in (
          k,
          km,
          least loop (other k) (record { solution = solves k km; admitted = some })
              (λ x xq. omega (arith, sum.adds_up x xq, combined_above m sum.times other k x km taken)),
        )

    -- "and no shorter list of solutions has that property"
    pub loops_fewest : (m : ℕ) (other : ℕ → ℕ → ℕ) → Solutions p q a m other → MakesUp p q a m other → n ≤ m
    loops_fewest m other solves makes =
        met_each n m (λ i k. Same q (other k) (row i))
        (λ i l. holds_loop m other solves (row i) (loops.only i l) (makes (row i) (loops.only i l).holds.solution))
        (λ i j k ij jn e f. loops.once i j ij jn (λ x xq. omega (arith, e x xq, f x xq)))

    pub made_of_loops : MadeOfRows p q a n row
    made_of_loops = record { every = loops_make_up; fewest = loops_fewest }
