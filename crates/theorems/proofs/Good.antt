-- Theorems about what specs/Good.antt defines. Assumes nothing.
use Rattle.std.specs.Prelude.{◌≡◌, Bool, T, leb, ℤ, pos, negsuc, nat_abs, length}
use Rattle.std.proofs.Math.Path.{refl, subst}
use Rattle.std.proofs.Common.{sym, ◌∙◌, ap, add-zero}
use Rattle.std.proofs.Math.Bool.{true, false}
use Prim.Native.Nat.{ℕ, ◌+◌, ◌*◌, ◌-◌, ◌^◌, ◌≤◌, ◌<◌}
use native.Mathlib.Omega.{arith}
use Rattle.linear.proofs.TestLaws.{count_at, count_step, max_bound}
use Rattle.linear.specs.Tests.{count_to, max_to}
use Rattle.linear.proofs.TupleLaws.{term_le_total, total_same, total_unit}
use Rattle.linear.specs.Tuples.{total, unit}
use Rattle.definitions.specs.Answers.{go}
use Rattle.definitions.specs.Bound.{depth, largest, lowest, negative, positive, step_bound}
use Rattle.definitions.specs.Input.{Input, system_of}
use Rattle.definitions.specs.Refusals.{start_checks}
use Rattle.definitions.specs.Step.{enlist, grown, level, listed as after_listing, makes, pick, row_width, step, top, width}
use Rattle.definitions.specs.System.{Kind, System, above, capped, coef, coef_limit, plain, solves}
use Rattle.definitions.specs.Tables.{State, at, capacity, units_start, units_to}
use Rattle.laws.specs.RefusalLaws.{Going, Room, RoomIn, Shaped}
use Rattle.laws.proofs.RefusalLaws.{start_shaped}
use Rattle.laws.proofs.StepLaws.{children_keep}
use Rattle.laws.specs.TableLaws.{RowIs}
use Rattle.laws.proofs.TableLaws.{units_row}
use Rattle.laws.proofs.ValidLaws.{enlists}
use Rattle.theorems.specs.Equation.{ByUnits, or_one_lem}
use Rattle.theorems.specs.Link.{Aim}
use Rattle.theorems.specs.Low.{Low, few, step_low, units_low}
use Rattle.theorems.specs.Potential.{potential}
use Rattle.theorems.proofs.Potential.{Step, height≤potential, potential_start, potential_step}
use Rattle.theorems.specs.Run.{aim_of}
use Rattle.theorems.specs.Good.{Good, SecondRoom, Single, lows, m, raises, sums}

-- lists with more rows than were found have room
room_in : (b : Bool) (w : ℕ) (s : State) → s.run.found < capacity w s.list → s.run.found2 < capacity w s.second → RoomIn b w s
room_in false w s l l₂ = l
room_in true w s l l₂ = l₂

room_left : (k : Kind) (q : ℕ) (s : State) (x : ℕ → ℕ) (n : ℕ) → s.run.found < n → s.run.found2 < n → n ≤ capacity (row_width k q) s.list
    → SecondRoom k n (row_width k q) s → Room k q s x
room_left plain q s x n l l₂ r r₂ = omega arith
room_left capped q s x n l l₂ r r₂ = room_in (leb 1 (x 0)) (q - 1) s (omega arith) (omega arith)
room_left (above f) q s x n l l₂ r r₂ = omega arith

second_stays : (k : Kind) (n w : ℕ) (s t : State) → length t.second ≡ length s.second → SecondRoom k n w s → SecondRoom k n w t
second_stays plain n w s t e r = tt
second_stays capped n w s t e r = rw e r
second_stays (above f) n w s t e r = tt

module _ (m : System) (c : Aim) (by : ByUnits c) (single : Single m) (s : State) (good : Good m c s) where
  pub steps_left : 0 < s.run.height → s.run.steps < step_bound m
  steps_left h = omega (arith, good.budget, height≤potential (depth m) m.q (sums m.q s) s.run.height)

  module _ (h : 0 < s.run.height) where
    height_is : s.run.height ≡ level s + 1
    height_is = omega arith

    child_small : ¬ (T (solves m (top m s))) → (j : ℕ) → j < m.q → T (makes m s j) → top m s j < m.limit
    child_small n j jq mj =
        let below : level s + count_to j (makes m s) < level s + count_to m.q (makes m s) = omega (arith, count_step (makes m s) j m.q jq mj) in
        omega (
          arith,
          (lows m c by single s good h) n (level s + count_to j (makes m s)) below,
          (raises m c by single s good h) j jq mj,
          term_le_total (top m s)
              m.q j jq,
          single.limited,
        )

    has_room : Room m.kind m.q s (top m s)
    has_room =
        room_left m.kind m.q s (top m s) (step_bound m) (omega (arith, steps_left h, good.listed)) (omega (arith, steps_left h, good.listed₂))
        good.roomy good.roomy₂

    -- no step is refused
    pub going : Going m s
    going =
        record {
          high = h;
          early = omega (arith, steps_left h, single.brief);
          roomy = λ y. has_room;
          small = child_small;
        }

    -- ---- a step keeps it

    listed_good : Low m c (after_listing m s) → Good m c (after_listing m s)
    unfolding after_listing
    listed_good low =
        let fall = potential_step (depth m) m.q (sums m.q s) (sums m.q s) (level s) 0
        (record {
          fits = omega (arith, good.low.sound.valid.ordered.height);
          kept = λ k k₁ kr. refl;
          larger = λ k k₁ kr. absurd (omega arith);
          room = λ c. absurd (omega arith);
        }) in
        let e = enlists m.kind m.q s (top m s) has_room in
        record {
          low = low;
          budget =
              let t : State = enlist m.kind m.q s (top m s) in
              subst (λ stack. t.run.steps + potential (depth m) m.q (λ k. total (at stack (m.q + 1) (k - 1)) m.q) t.run.height ≤ step_bound m)
              (sym e.stack)
              (rw (e.height, e.steps) (omega (arith, good.budget, rw (add-zero, ← height_is) at fall)));
          listed = omega (arith, good.listed, e.few, e.steps);
          listed₂ = omega (arith, good.listed₂, e.few₂, e.steps);
          roomy = rw e.room good.roomy;
          roomy₂ = second_stays m.kind (step_bound m) (width m) s _ e.room₂ good.roomy₂;
        }

    grown_good : ¬ (T (solves m (top m s))) → Low m c (grown m s) → Good m c (grown m s)
    unfolding grown
    grown_good n low =
        record {
          low = low;
          budget =
              omega (
                arith,
                good.budget,
                rw (← height_is) at (potential_step (depth m) m.q (sums m.q s) (sums m.q (grown m s)) (level s) (count_to m.q (makes m s)) made),
              );
          listed = omega (arith, good.listed);
          listed₂ = omega (arith, good.listed₂);
          roomy = good.roomy;
          roomy₂ = second_stays m.kind (step_bound m) (width m) s _ refl good.roomy₂;
        }
      where
        larger : (k : ℕ) → level s < k → k ≤ level s + count_to m.q (makes m s) → sums m.q (grown m s) k ≡ sums m.q s (level s + 1) + 1
        larger k k₁ kr =
            let (j, jq, mj, e) = count_at (makes m s) m.q (k - 1 - level s) (omega arith) in
            let here : level s + count_to j (makes m s) ≡ k - 1 = omega arith in
            let back : level s + 1 - 1 ≡ level s = omega arith in
            rw back (rw here at ((raises m c by single s good h) j jq mj))

        made : Step (depth m) m.q (sums m.q s) (sums m.q (grown m s)) (level s) (count_to m.q (makes m s))
        made =
            record {
              fits = few m c by single.one s good.low h;
              kept = λ k k₁ kr. total_same _ _ m.q (λ j jq. children_keep m s m.q (k - 1) j (omega arith) (omega arith));
              larger = larger;
              room = λ k.
                  let back : level s + 1 - 1 ≡ level s = omega arith in
                  let sum = rw back at (larger (level s + 1) (omega arith) (omega arith)) in
                  rw back (omega (arith, sum, (lows m c by single s good h) n (level s) (omega arith)));
            }

    pub step_good : Good m c (step m s)
    unfolding step
    step_good = go (solves m (top m s)) grown_good (step_low m c by single.one s good.low h going)
      where
        go : (b : Bool) → (¬ (T b) → Low m c (grown m s) → Good m c (grown m s)) → Low m c (pick b (after_listing m s) (grown m s))
            → Good m c (pick b (after_listing m s) (grown m s))
        go true grow low = listed_good low
        go false grow low = grow (λ y. y) low

-- ---- the plain start

positive_le : (z : ℤ) → positive z ≤ nat_abs z
positive_le (pos n) = omega arith
positive_le (negsuc n) = omega arith

negative_le : (z : ℤ) → negative z ≤ nat_abs z
negative_le (pos n) = omega arith
negative_le (negsuc n) = omega arith

module _ (i : Input) (s : State) (one : (system_of i).p ≡ 1) (checks : start_checks i s ≡ go) where
  shape : Shaped (m i s one checks) s
  shape = start_shaped i s checks

  small : (j : ℕ) → j < (m i s one checks).q → nat_abs (coef (m i s one checks) 0 j) ≤ coef_limit
  small j l = shape.range (0 * (m i s one checks).q + j) (omega (arith, shape.coefs, ap (λ p. p * (m i s one checks).q) one))

  -- D is at most 20,000, so document 01's limit is always D or more
  pub shallow : depth (m i s one checks) ≤ coef_limit + coef_limit
  unfolding depth largest lowest
  shallow =
      let P : ℕ → ℕ = λ j. positive (coef (m i s one checks) 0 j) in
      let N : ℕ → ℕ = λ j. negative (coef (m i s one checks) 0 j) in
      omega (
        arith,
        or_one_lem (max_to (m i s one checks).q P + max_to (m i s one checks).q N),
        max_bound P (m i s one checks).q coef_limit (λ j l. omega (arith, small j l, positive_le (coef (m i s one checks) 0 j))),
        max_bound N (m i s one checks).q coef_limit (λ j l. omega (arith, small j l, negative_le (coef (m i s one checks) 0 j))),
      )

  some_depth : 1 ≤ depth (m i s one checks)
  unfolding depth
  some_depth = omega (arith, or_one_lem (largest (m i s one checks) + lowest (m i s one checks)))

  -- the start is good
  pub units_good : step_bound (m i s one checks) ≤ capacity (width (m i s one checks)) s.list
      → SecondRoom (m i s one checks).kind (step_bound (m i s one checks)) (width (m i s one checks)) s
      → Good (m i s one checks) (aim_of i.extra) (units_start (m i s one checks) s)
  unfolding units_start step_bound
  units_good roomy roomy₂ =
      record {
        low = units_low i one s checks;
        budget =
            omega (
              arith,
              potential_start (depth (m i s one checks)) (m i s one checks).q (sums (m i s one checks).q (units_start (m i s one checks) s)) some_depth
                  (λ k k₁ kq. total_same _ (unit (k - 1)) (m i s one checks).q (row (k - 1) (omega arith)).tuple
                  ∙ total_unit (k - 1) (m i s one checks).q (omega arith)),
            );
        listed = omega arith;
        listed₂ = omega arith;
        roomy = roomy;
        roomy₂ = second_stays (m i s one checks).kind (step_bound (m i s one checks)) (width (m i s one checks)) s _ refl roomy₂;
      }
    where
      row : (l : ℕ) → l < (m i s one checks).q → RowIs (m i s one checks).q (units_to (m i s one checks).q (m i s one checks).q s.stack) l (unit l) (2 ^ l - 1)
      row = units_row (m i s one checks).q s.stack (m i s one checks).q (omega arith) shape.stack
