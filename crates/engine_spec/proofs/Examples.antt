-- Stages, computed: one equation from the unit tuples, a pause, and a table that fills. Assumes nothing.
use Rattle.std.specs.Prelude.{◌≡◌, refl, List, ◌∷◌, [], ℕ, ◌*◌, ℤ, pos, negsuc, get_or, replicate, take}
use Rattle.linear.specs.Sums.{sum_to}
use Rattle.linear.specs.Systems.{inner, value}
use Rattle.linear.specs.Tests.{all_to, any_to}
use Rattle.linear.specs.Tuples.{total, unit}
use Rattle.definitions.specs.Answers.{Answer, complete, paused, refused}
use Rattle.definitions.specs.System.{is_at_or_below}
use Rattle.definitions.specs.Tables.{write_to}
use Rattle.engine_spec.specs.Reduction.{is_small, is_within, reducible}
use Rattle.engine_spec.specs.Search.{first_from, least_to, lesser}
use Rattle.engine_spec.specs.Stage.{Outcome, after, begin, degree_turn, grown, is_due, is_pair, next_degree, paired, pair_degree, pair_turn, passed, raised}
use Rattle.engine_spec.specs.Stage.{row_turn, run, turn}

abbrev ran : (q : ℕ) (c : List ℤ) (room budget : ℕ) → Outcome
ran q c room budget = run q (λ j. get_or c j (pos 0)) q unit room budget (begin 0 (replicate (room * q) 0) 0)

-- what a stage has come to: the answer, the steps taken, and the rows
pub record Shown : Type 0 where
  pub answer : Answer
  pub steps : ℕ
  pub rows : List ℕ

abbrev shown : ℕ → Outcome → Shown
shown q o = record { answer = o.answer; steps = o.stage.steps; rows = take (o.stage.rows * q) o.stage.table }

abbrev sees : Answer → ℕ → List ℕ → Shown
sees answer steps rows = record { answer = answer; steps = steps; rows = rows }

-- x + y = 2 z
abbrev half : List ℤ
half = pos 1 ∷ pos 1 ∷ negsuc 1 ∷ []

pub record Runs : Type 0 where
  -- the units; (1, 0, 1) and (0, 1, 1) of degree 2; (2, 0, 1), (1, 1, 1), (0, 2, 1) of degree 3: 3 rows, 6 pairs, 3 degrees
  pub one : shown 3 (ran 3 half 8 100)
      ≡ sees complete 12 (1 ∷ 0 ∷ 0 ∷ 0 ∷ 1 ∷ 0 ∷ 0 ∷ 0 ∷ 1 ∷ 1 ∷ 0 ∷ 1 ∷ 0 ∷ 1 ∷ 1 ∷ 2 ∷ 0 ∷ 1 ∷ 1 ∷ 1 ∷ 1 ∷ 0 ∷ 2 ∷ 1 ∷ [])
  pub cut : shown 3 (ran 3 half 8 6) ≡ sees paused 6 (1 ∷ 0 ∷ 0 ∷ 0 ∷ 1 ∷ 0 ∷ 0 ∷ 0 ∷ 1 ∷ 1 ∷ 0 ∷ 1 ∷ [])
  pub resumed : run 3 (λ j. get_or half j (pos 0)) 3 unit 8 100 (ran 3 half 8 6).stage ≡ ran 3 half 8 100
  pub full : (ran 3 half 4 100).answer ≡ refused 31 []

runs : Runs
unfolding run turn after row_turn pair_turn degree_turn paired grown passed raised is_pair is_due pair_degree next_degree first_from lesser least_to is_within
    reducible is_small is_at_or_below value inner sum_to all_to any_to total unit write_to
runs = record { one = refl; cut = refl; resumed = refl; full = refl }
