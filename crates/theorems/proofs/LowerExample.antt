-- Document 02, Job 4: "Rows 2 −2 1 and 0 0 1 from floor 0 0 1 have no solution, and our run goes round 2,000,000 steps until refusal 12." That the example ends
-- now: definitions/specs/LowerRuns (`runs_hold`); that the same rows from another bound still come to 12: `not_ended`. Assumes nothing.
use Rattle.std.specs.Prelude.{◌≡◌, Bool, true, false, ◌&&◌, List, [], ◌∷◌, ℤ, ◌+ℤ◌, ◌*ℤ◌}
use Rattle.std.proofs.Math.Path.{refl, ap}
use Rattle.std.proofs.Common.{◌∙◌, arith}
use Prim.Native.Nat.{ℕ, zero, suc, ◌+◌, ◌*◌, ◌-◌, ◌≤◌, ◌<◌, max}
use borrow.Author.Tests.{le-ltb, ne_eqb}
use Rattle.std.proofs.Math.IntN.{pos, negsuc}
use Rattle.std.specs.Int.Signed.{lt_z}
use Rattle.linear.specs.Differences.{down_mul, integers, up_mul}
use Rattle.linear.proofs.Differences.{sum_is}
use Rattle.linear.specs.Sums.{sum_to}
use Rattle.linear.specs.Systems.{inner, value, Solution}
use Rattle.linear.specs.Tests.{all_to, any_to, count_to}
use Rattle.linear.specs.Tuples.{AtOrBelow, total, unit}
use Rattle.definitions.specs.Answers.{◌then◌, go, refuse, refuse_with, refused}
use Rattle.definitions.specs.Calls.{machine_of}
use Rattle.definitions.specs.Input.{Input, above_system, bound_of, input_of}
use Rattle.definitions.specs.Machine.{Machine, walk, walk_steps}
use Rattle.definitions.specs.Refusals.{search_checks, too_large}
use Rattle.definitions.specs.Step.{grown, makes, marks_to, step, top, write_children}
use Rattle.definitions.specs.System.{System, coef, covered, image_of, is_at_or_below, is_zero, solves, towards}
use Rattle.definitions.specs.Tables.{Record, State, begun, bit, frozen, lower_above, lower_plain, lowered, write_row, write_to}
use Rattle.laws.proofs.MachineLaws.{walk_more, walk_refused}

pub rows : List ℤ
rows = pos 2 ∷ negsuc 1 ∷ pos 1 ∷ pos 0 ∷ pos 0 ∷ pos 1 ∷ []

pub lower : List ℕ
lower = 0 ∷ 0 ∷ 1 ∷ []

abbrev pub example : Input
example = input_of 2 3 rows

-- the system of the walk from the lower bound
abbrev pub walked : System
walked = above_system lower example

-- ---- "have no solution": no tuple at or above the bound is one

second_is : (x : ℕ → ℕ) → image_of walked x 1 ≡ pos (x 2)
unfolding rows value inner sum_to
second_is x =
    omega (
      integers,
      sum_is ((pos 0 +ℤ (pos 0 *ℤ pos (x 0))) +ℤ (pos 0 *ℤ pos (x 1))) (pos 1 *ℤ pos (x 2)),
      sum_is (pos 0 +ℤ (pos 0 *ℤ pos (x 0))) (pos 0 *ℤ pos (x 1)),
      sum_is (pos 0) (pos 0 *ℤ pos (x 0)),
      up_mul (pos 0) (pos (x 0)),
      down_mul (pos 0) (pos (x 0)),
      up_mul (pos 0) (pos (x 1)),
      down_mul (pos 0) (pos (x 1)),
      up_mul (pos 1) (pos (x 2)),
      down_mul (pos 1) (pos (x 2)),
    )

pub no_solution : (x : ℕ → ℕ) → AtOrBelow 3 (bound_of lower) x → ¬ (Solution 2 3 (coef walked) x)
unfolding lower
no_solution x above h = omega (integers, above 2 (omega arith), h 1 (omega arith), second_is x)

-- ---- "our run goes round 2,000,000 steps until refusal 12": document 01's walk from the bound, which had no second list; here none of its rows is found

first_is : (x : ℕ → ℕ) (z : ℤ) → (pos (2 * x 0 + x 2) ≡ z +ℤ pos (2 * x 1)) → image_of walked x 0 ≡ z
unfolding rows value inner sum_to
first_is x z e =
    omega (
      integers,
      e,
      sum_is z (pos (2 * x 1)),
      sum_is ((pos 0 +ℤ (pos 2 *ℤ pos (x 0))) +ℤ (negsuc 1 *ℤ pos (x 1))) (pos 1 *ℤ pos (x 2)),
      sum_is (pos 0 +ℤ (pos 2 *ℤ pos (x 0))) (negsuc 1 *ℤ pos (x 1)),
      sum_is (pos 0) (pos 2 *ℤ pos (x 0)),
      up_mul (pos 2) (pos (x 0)),
      down_mul (pos 2) (pos (x 0)),
      up_mul (negsuc 1) (pos (x 1)),
      down_mul (negsuc 1) (pos (x 1)),
      up_mul (pos 1) (pos (x 2)),
      down_mul (pos 1) (pos (x 2)),
    )

level_is : (x : ℕ → ℕ) → x 1 ≡ x 0 → x 2 ≡ 1 → image_of walked x 0 ≡ pos 1
level_is x e f = first_is x (pos 1) (omega (integers, e, f, sum_is (pos 1) (pos (2 * x 1))))

ahead_is : (x : ℕ → ℕ) → x 1 ≡ suc (x 0) → x 2 ≡ 1 → image_of walked x 0 ≡ negsuc 0
ahead_is x e f = first_is x (negsuc 0) (omega (integers, e, f, sum_is (negsuc 0) (pos (2 * x 1))))

towards_is : (x : ℕ → ℕ) (j : ℕ) (u v : ℤ) → image_of walked x 0 ≡ u → image_of walked x 1 ≡ v
    → towards walked x j ≡ (pos 0 +ℤ (u *ℤ coef walked 0 j)) +ℤ (v *ℤ coef walked 1 j)
unfolding inner sum_to
towards_is x j u v e f = rw (e, f)

and_false : (b : Bool) → (true && b) && false ≡ false
and_false true = refl
and_false false = refl

module _ (others list second : List ℕ) where
  -- after n steps, with the row a b 1 as the only one, and d as the greatest sum so far
  unfoldable pub shows : ℕ → ℕ → ℕ → ℕ → State
  shows a b n d =
      record {
        stack = a ∷ b ∷ 1 ∷ 0 ∷ others;
        list = list;
        second = second;
        run = record { kind = lower_above; height = 1; found = 0; steps = n; found2 = 0; steps2 = 0; deepest = d };
      }

  shows_same : {a b n d a' b' n' d' : ℕ} → a ≡ a' → b ≡ b' → n ≡ n' → d ≡ d' → shows a b n d ≡ shows a' b' n' d'
  shows_same e f g h = rw (e, f, g, h)

  -- the sums of the tuples taken off rise with the steps
  abbrev pub standing : ℕ → ℕ → ℕ → State
  standing a b n = shows a b n n

  -- that is where the walk begins, once the bound's row is written and while nothing is found
  pub begins : (a b c d : ℕ)
      → lowered (bound_of lower) 3 (record { stack = a ∷ b ∷ c ∷ d ∷ others; list = list; second = second; run = begun lower_plain 0 }) ≡ standing 0 0 0
  unfolding shows lower lowered write_row write_to
  begins a b c d = refl

  -- with a and b the same, x2 alone makes a child; with b one ahead, x1 alone
  level_makes : (a n : ℕ) → (makes walked (standing a a n) 0 ≡ false) × (makes walked (standing a a n) 1 ≡ true) × (makes walked (standing a a n) 2 ≡ false)
  unfolding shows makes frozen bit covered any_to rows
  level_makes a n =
      let x : ℕ → ℕ = top walked (standing a a n) in
      let e : image_of walked x 0 ≡ pos 1 = level_is x refl refl in
      let f : image_of walked x 1 ≡ pos 1 = second_is x in
      (rw (towards_is x 0 (pos 1) (pos 1) e f), rw (towards_is x 1 (pos 1) (pos 1) e f), rw (towards_is x 2 (pos 1) (pos 1) e f))

  ahead_makes : (a n : ℕ) → (makes walked (standing a (suc a) n) 0 ≡ true) × (makes walked (standing a (suc a) n) 1 ≡ false)
      × (makes walked (standing a (suc a) n) 2 ≡ false)
  unfolding shows makes frozen bit covered any_to rows
  ahead_makes a n =
      let x : ℕ → ℕ = top walked (standing a (suc a) n) in
      let e : image_of walked x 0 ≡ negsuc 0 = ahead_is x refl refl in
      let f : image_of walked x 1 ≡ pos 1 = second_is x in
      (rw (towards_is x 0 (negsuc 0) (pos 1) e f), rw (towards_is x 1 (negsuc 0) (pos 1) e f), rw (towards_is x 2 (negsuc 0) (pos 1) e f))

  unsolved : (a b n : ℕ) → solves walked (top walked (standing a b n)) ≡ false
  unfolding shows solves all_to
  unsolved a b n = let x : ℕ → ℕ = top walked (standing a b n) in rw (second_is x) (and_false (is_zero (image_of walked x 0)))

  -- the steps
  level_step : (a n : ℕ) → a + a ≡ n → step walked (standing a a n) ≡ standing a (suc a) (suc n)
  unfolding shows step grown write_children write_row write_to count_to marks_to unit total
  level_step a n e =
      let (x, y, z) = level_makes a n in
      rw (unsolved a a n, x, y, z)
      (shows_same {a = a + 0} {b = a + 1} {n = n + 1} {d = max n (0 + a + a + 1)} (omega arith) (omega arith) (omega arith) (omega (arith, e)))

  ahead_step : (a n : ℕ) → suc (a + a) ≡ n → step walked (standing a (suc a) n) ≡ standing (suc a) (suc a) (suc n)
  unfolding shows step grown write_children write_row write_to count_to marks_to unit total
  ahead_step a n e =
      let (x, y, z) = ahead_makes a n in
      rw (unsolved a (suc a) n, x, y, z)
      (shows_same {a = a + 1} {b = suc a + 0} {n = n + 1} {d = max n (0 + a + suc a + 1)} (omega arith) (omega arith) (omega arith) (omega (arith, e)))

  -- the refusals of the search: none, until a component would be 1,000,001
  level_goes : (a n : ℕ) → a < 1000000 → n < 1000000000000 → search_checks walked (standing a a n) ≡ go
  unfolding shows search_checks too_large any_to refuse_with ◌then◌ unit
  level_goes a n l few =
      let (x, y, z) = level_makes a n in
      rw (ne_eqb n 1000000000000 (λ e. omega arith), unsolved a a n, x, y, z, ne_eqb (a + 1) 1000001 (λ e. omega arith))

  ahead_goes : (a n : ℕ) → a < 1000000 → n < 1000000000000 → search_checks walked (standing a (suc a) n) ≡ go
  unfolding shows search_checks too_large any_to refuse_with ◌then◌ unit
  ahead_goes a n l few =
      let (x, y, z) = ahead_makes a n in
      rw (ne_eqb n 1000000000000 (λ e. omega arith), unsolved a (suc a) n, x, y, z, ne_eqb (a + 1) 1000001 (λ e. omega arith))

  -- the walk as it was: with no row in a second list, the steps are document 01's
  abbrev pub former : Machine State
  former = machine_of (λ s. go) walked

  -- twice round from a a 1 to the same with one more in each
  twice : (a budget : ℕ) → a < 1000000
      → (walk (suc (suc budget)) former (standing a a (a + a)) ≡ walk budget former (standing (suc a) (suc a) (suc a + suc a)))
      × (walk_steps (suc (suc budget)) former (standing a a (a + a)) ≡ suc (suc (walk_steps budget former (standing (suc a) (suc a) (suc a + suc a)))))
  twice a budget l =
      let n : suc (suc (a + a)) ≡ suc a + suc a = omega arith in
      let (e, f) = walk_more former (standing a a (a + a)) (suc budget) (unfold shows in omega arith) (level_goes a (a + a) l (omega arith)) in
      let (g, h) = walk_more former (standing a (suc a) (suc (a + a))) budget (unfold shows in omega arith) (ahead_goes a (suc (a + a)) l (omega arith)) in (
        e ∙ ap (walk (suc budget) former) (level_step a (a + a) refl) ∙ g
            ∙ ap (walk budget former) (ahead_step a (suc (a + a)) refl ∙ ap (standing (suc a) (suc a)) n),
        f
            ∙ ap suc
            (ap (walk_steps (suc budget) former) (level_step a (a + a) refl) ∙ h
            ∙ ap (λ s. suc (walk_steps budget former s)) (ahead_step a (suc (a + a)) refl ∙ ap (standing (suc a) (suc a)) n)),
      )

  round : (k budget : ℕ) → k ≤ 1000000
      → (walk (k + k + budget) former (standing 0 0 0) ≡ walk budget former (standing k k (k + k)))
      × (walk_steps (k + k + budget) former (standing 0 0 0) ≡ k + k + walk_steps budget former (standing k k (k + k)))
  round zero budget l = let z : 0 + 0 + budget ≡ budget = omega arith in (rw z, rw z (omega arith))
  round (suc k) budget l =
      let z : suc k + suc k + budget ≡ k + k + suc (suc budget) = omega arith in
      let (e, f) = round k (suc (suc budget)) (omega arith) in
      let (g, h) = twice k budget (omega arith) in
      (rw z (e ∙ g), rw z (f ∙ omega (arith, h)))

  stops : search_checks walked (standing 1000000 1000000 2000000) ≡ refuse 12 []
  unfolding shows search_checks too_large any_to refuse_with ◌then◌ unit
  stops = let (x, y, z) = level_makes 1000000 2000000 in rw (unsolved 1000000 1000000 2000000, x, y)

  -- from the bound with no steps taken, with every budget above 2,000,000
  pub goes_round : (budget : ℕ) → 2000000 < budget
      → (walk budget former (standing 0 0 0) ≡ record { answer = refused 12 []; state = standing 1000000 1000000 2000000 })
      × (walk_steps budget former (standing 0 0 0) ≡ 2000000)
  goes_round budget l =
      let (more, is) = above_by budget l in
      let (e, f) = round 1000000 (suc more) (omega arith) in
      let (g, h) = walk_refused former (standing 1000000 1000000 2000000) more 12 [] (unfold shows in omega arith) stops in
      (rw is (e ∙ g), rw is (f ∙ omega (arith, h)))
    where
      above_by : (budget : ℕ) → 2000000 < budget → (more : ℕ) × (budget ≡ 1000000 + 1000000 + suc more)
      above_by budget l = (budget - 2000001, omega arith)

-- ---- the same map from 1,000,000 0 1, which the second list does not end: x1 is never raised, so no child exceeds the bound by the row 1 1 0

pub limit_lower : List ℕ
limit_lower = 1000000 ∷ 0 ∷ 1 ∷ []

abbrev pub limit_system : System
limit_system = above_system limit_lower example

below_is : (z : ℤ) (n : ℕ) → z ≡ negsuc n → lt_z z (pos 0) ≡ true
below_is z n e = rw e

not_below_is : (z : ℤ) (n : ℕ) → z ≡ pos n → lt_z z (pos 0) ≡ false
not_below_is z n e = rw e (le-ltb n 0 (omega arith))

-- the inner products with the three columns, where the first equation is off by 2 c + 1
module _ (c : ℕ) where
  abbrev off : ℤ
  off = pos (suc (c + c))

  towards_0 : (pos 0 +ℤ (off *ℤ pos 2)) +ℤ (pos 1 *ℤ pos 0) ≡ pos (4 * c + 2)
  towards_0 =
      omega (integers, sum_is (pos 0 +ℤ (off *ℤ pos 2)) (pos 1 *ℤ pos 0), sum_is (pos 0) (off *ℤ pos 2), up_mul off (pos 2), down_mul off (pos 2))

  towards_1 : (pos 0 +ℤ (off *ℤ negsuc 1)) +ℤ (pos 1 *ℤ pos 0) ≡ negsuc (4 * c + 1)
  towards_1 =
      omega (integers, sum_is (pos 0 +ℤ (off *ℤ negsuc 1)) (pos 1 *ℤ pos 0), sum_is (pos 0) (off *ℤ negsuc 1), up_mul off (negsuc 1), down_mul off (negsuc 1))

  towards_2 : (pos 0 +ℤ (off *ℤ pos 1)) +ℤ (pos 1 *ℤ pos 1) ≡ pos (2 * c + 2)
  towards_2 =
      omega (integers, sum_is (pos 0 +ℤ (off *ℤ pos 1)) (pos 1 *ℤ pos 1), sum_is (pos 0) (off *ℤ pos 1), up_mul off (pos 1), down_mul off (pos 1))

-- after b steps above the bound, with the plain walk's row 1 1 0 in the second list
module _ (others list rest : List ℕ) (plain : ℕ) where
  unfoldable pub rises : ℕ → ℕ → ℕ → State
  rises b n d =
      record {
        stack = 1000000 ∷ b ∷ 1 ∷ 0 ∷ others;
        list = list;
        second = 1 ∷ 1 ∷ 0 ∷ rest;
        run = record { kind = lower_above; height = 1; found = 0; steps = n; found2 = 1; steps2 = plain; deepest = d };
      }

  -- that is where the walk begins, once the plain walk is at its end and the bound's row is written
  abbrev pub plain_ended : Record
  plain_ended = record { kind = lower_plain; height = 0; found = 0; steps = 0; found2 = 1; steps2 = plain; deepest = 0 }

  pub limit_begins : (a b c d : ℕ)
      → lowered (bound_of limit_lower) 3 (record { stack = a ∷ b ∷ c ∷ d ∷ others; list = list; second = 1 ∷ 1 ∷ 0 ∷ rest; run = plain_ended }) ≡ rises 0 0 0
  unfolding rises limit_lower lowered write_row write_to
  limit_begins a b c d = refl

  rises_same : {b n d b' n' d' : ℕ} → b ≡ b' → n ≡ n' → d ≡ d' → rises b n d ≡ rises b' n' d'
  rises_same e f g = rw (e, f, g)

  -- the greatest sum after b steps
  abbrev pub sum_after : ℕ → ℕ
  sum_after zero = 0
  sum_after (suc b) = 1000001 + b

  sum_next : (b : ℕ) → max (sum_after b) (0 + 1000000 + b + 1) ≡ sum_after (suc b)
  sum_next zero = refl
  sum_next (suc b) = omega arith

  module _ (b c n d : ℕ) (left : b + c ≡ 1000000) where
    abbrev here : State
    here = rises b n d

    here_first : image_of limit_system (top limit_system here) 0 ≡ pos (suc (c + c))
    unfolding rises
    here_first = first_is (top limit_system here) (pos (suc (c + c))) (omega (integers, left, sum_is (pos (suc (c + c))) (pos (2 * b))))

    here_second : image_of limit_system (top limit_system here) 1 ≡ pos 1
    unfolding rises
    here_second = second_is (top limit_system here)

    here_makes : (makes limit_system here 0 ≡ false) × (makes limit_system here 1 ≡ true) × (makes limit_system here 2 ≡ false)
    unfolding rises makes frozen bit covered any_to all_to is_at_or_below unit rows limit_lower
    here_makes =
        let x : ℕ → ℕ = top limit_system here in
        let by : (j : ℕ) → towards limit_system x j ≡ (pos 0 +ℤ (pos (suc (c + c)) *ℤ coef walked 0 j)) +ℤ (pos 1 *ℤ coef walked 1 j) =
        λ j. towards_is x j (pos (suc (c + c))) (pos 1) here_first here_second in (
          rw (not_below_is (towards limit_system x 0) (4 * c + 2) (by 0 ∙ towards_0 c)),
          rw (below_is (towards limit_system x 1) (4 * c + 1) (by 1 ∙ towards_1 c)),
          rw (not_below_is (towards limit_system x 2) (2 * c + 2) (by 2 ∙ towards_2 c)),
        )

    here_unsolved : solves limit_system (top limit_system here) ≡ false
    unfolding rises solves all_to
    here_unsolved = rw here_second (and_false (is_zero (image_of limit_system (top limit_system here) 0)))

    here_goes : b < 1000000 → n < 1000000000000 → search_checks limit_system here ≡ go
    unfolding rises search_checks too_large any_to refuse_with ◌then◌ unit
    here_goes l few =
        let (x, y, z) = here_makes in
        rw (ne_eqb n 1000000000000 (λ e. omega arith), here_unsolved, x, y, z, ne_eqb (b + 1) 1000001 (λ e. omega arith))

  rise : (b c n : ℕ) → b + c ≡ 1000000 → step limit_system (rises b n (sum_after b)) ≡ rises (suc b) (suc n) (sum_after (suc b))
  unfolding rises step grown write_children write_row write_to count_to marks_to unit total
  rise b c n left =
      let (x, y, z) = here_makes b c n (sum_after b) left in
      rw (here_unsolved b c n (sum_after b) left, x, y, z)
      (rises_same {b = b + 1} {n = n + 1} {d = max (sum_after b) (0 + 1000000 + b + 1)} (omega arith) (omega arith) (sum_next b))

  abbrev pub limit_walk : Machine State
  limit_walk = machine_of (λ s. go) limit_system

  up_to : (b budget : ℕ) → b ≤ 1000000
      → (walk (b + budget) limit_walk (rises 0 0 0) ≡ walk budget limit_walk (rises b b (sum_after b)))
      × (walk_steps (b + budget) limit_walk (rises 0 0 0) ≡ b + walk_steps budget limit_walk (rises b b (sum_after b)))
  up_to zero budget l = let z : 0 + budget ≡ budget = omega arith in (rw z, rw z (omega arith))
  up_to (suc b) budget l =
      let c : ℕ = 1000000 - b in
      let z : suc b + budget ≡ b + suc budget = omega arith in
      let left : b + c ≡ 1000000 = omega arith in
      let (e, f) = up_to b (suc budget) (omega arith) in
      let (g, h) = walk_more limit_walk (rises b b (sum_after b)) budget (unfold rises in omega arith)
      (here_goes b c b (sum_after b) left (omega arith) (omega arith)) in (
        rw z (e ∙ g ∙ ap (walk budget limit_walk) (rise b c b left)),
        rw z (f ∙ omega (arith, h, ap (walk_steps budget limit_walk) (rise b c b left))),
      )

  at_the_limit : search_checks limit_system (rises 1000000 1000000 (sum_after 1000000)) ≡ refuse 12 []
  unfolding rises search_checks too_large any_to refuse_with ◌then◌ unit
  at_the_limit =
      let (x, y, z) = here_makes 1000000 0 1000000 (sum_after 1000000) refl in
      rw (here_unsolved 1000000 0 1000000 (sum_after 1000000) refl, x, y)

  -- that a run ends where nothing at or above the bound is a solution is not promised: this one ends in 12, after 1,000,000 steps above the bound
  pub not_ended : (budget : ℕ) → 1000000 < budget
      → (walk budget limit_walk (rises 0 0 0) ≡ record { answer = refused 12 []; state = rises 1000000 1000000 2000000 })
      × (walk_steps budget limit_walk (rises 0 0 0) ≡ 1000000)
  not_ended budget l =
      let is : budget ≡ 1000000 + suc (budget - 1000001) = omega arith in
      let (e, f) = up_to 1000000 (suc (budget - 1000001)) (omega arith) in
      let (g, h) = walk_refused limit_walk (rises 1000000 1000000 (sum_after 1000000)) (budget - 1000001) 12 [] (unfold rises in omega arith) at_the_limit in
      (rw is (e ∙ g), rw is (f ∙ omega (arith, h)))
