-- Theorems about what specs/Third.antt defines. Assumes nothing.
use Rattle.std.specs.Prelude.{◌≡◌, refl, List, ℕ, ◌≤◌, ◌<◌, ℤ}
use Rattle.std.proofs.Common.{◌∙◌, arith}
use Rattle.std.proofs.Math.Path.{ap}
use Rattle.linear.specs.Tuples.{total}
use Rattle.definitions.specs.Answers.{complete, go, started}
use Rattle.definitions.specs.Bound.{depth, step_bound}
use Rattle.definitions.specs.Calls.{machine, resume, resume_steps, start}
use Rattle.definitions.specs.Input.{Extra, Input, alone, rights, system_of, walk_system}
use Rattle.definitions.specs.Machine.{after}
use Rattle.definitions.specs.Refusals.{start_checks, step_limit}
use Rattle.definitions.specs.Step.{step, width}
use Rattle.definitions.specs.System.{most_component}
use Rattle.definitions.specs.Tables.{State, capacity, units_start}
use Rattle.laws.specs.RefusalLaws.{Handed}
use Rattle.laws.proofs.RefusalLaws.{going_search, start_handed}
use Rattle.theorems.specs.CallAnswers.{started_goes}
use Rattle.theorems.proofs.Counts.{after_counts}
use Rattle.theorems.specs.Equation.{ByUnits}
use Rattle.theorems.specs.Good.{Good, SecondRoom, Single}
use Rattle.theorems.proofs.Good.{going, shallow, step_good, steps_left, units_good}
use Rattle.theorems.specs.Low.{as_many, by_units, sum_at_most}
use Rattle.theorems.specs.OwnCalls.{Along, Completed, Log, Orderly, Status, Unrefused, ended, going_on}
use Rattle.theorems.proofs.OwnCalls.{along, along_answers, along_stays}
use Rattle.theorems.specs.Run.{Sound}
use Rattle.theorems.proofs.Run.{sound_resumes}
use Rattle.theorems.specs.Series.{Met, Series, by_start, by_step}
use Rattle.theorems.proofs.Series.{series_calls}
use Rattle.theorems.specs.WholeSteps.{after_keeps}
use Rattle.theorems.specs.Third.{Premises, c, first, m, one_equation}

pub single_premises : (e : Extra) (q : ℕ) (coefs : List ℤ) (s₀ : State) → let i = one_equation e q coefs in
    (start i s₀).answer ≡ started → step_bound (system_of i) ≤ capacity (width (system_of i)) s₀.list
    → SecondRoom (system_of i).kind (step_bound (system_of i)) (width (system_of i)) s₀ → step_bound (system_of i) ≤ step_limit → Premises i s₀
unfolding start
single_premises e q coefs s₀ begins roomy roomy₂ brief =
    let i : Input = one_equation e q coefs in
    let (checks, w) = started_goes (start_checks i s₀) s₀ _ begins in
    let large : (system_of i).limit ≡ most_component = full_limit e i refl in
    record {
      one = refl;
      begins = begins;
      limited = omega (arith, large, shallow i s₀ (as_many i) checks);
      roomy = roomy;
      roomy₂ = roomy₂;
      brief = brief;
    }
  where
    full_limit : (e : Extra) (i : Input) → i.limit ≡ most_component → (walk_system e i).limit ≡ most_component
    full_limit alone i l = rw l
    full_limit (rights b) i l = rw l

module _ (i : Input) (s₀ : State) (given : Premises i s₀) where
  by : ByUnits (c i s₀ given)
  by = by_units i.extra

  single_p : (m i s₀ given).p ≡ 1
  single_p = as_many i ∙ given.one

  plainly : (start_checks i s₀ ≡ go) × ((first i s₀ given) ≡ units_start (m i s₀ given) s₀)
  unfolding start
  plainly = let (g, w) = started_goes (start_checks i s₀) s₀ _ given.begins in (g, ap (λ o. o.state) w)

  single : Single (m i s₀ given)
  single = record { one = single_p; limited = given.limited; brief = given.brief }

  begins_good : Good (m i s₀ given) (c i s₀ given) (first i s₀ given)
  begins_good = rw plainly.1 (units_good i s₀ single_p plainly.0 given.roomy given.roomy₂)

  begins_high : (first i s₀ given).run.height ≡ (m i s₀ given).q
  begins_high = rw plainly.1 (unfold units_start in refl)

  begins_none : (first i s₀ given).run.steps ≡ 0
  begins_none = rw plainly.1 (unfold units_start in refl)

  begins_some : 0 < (first i s₀ given).run.height
  begins_some = omega (arith, begins_high, begins_good.low.sound.valid.shaped.q_some)

  unrefused : Unrefused (machine i) (Good (m i s₀ given) (c i s₀ given))
  unrefused =
      record {
        steady = λ s. refl;
        resumes = λ s g. sound_resumes i (c i s₀ given) (start_handed i s₀ plainly.0) g.low.sound;
        settles = λ s g. g;
        goes = λ s g h. going_search (m i s₀ given) s (going (m i s₀ given) (c i s₀ given) by single s g h);
        keeps = λ s g h. step_good (m i s₀ given) (c i s₀ given) by single s g h;
      }

  module _ {g : Log State} (r : Series i s₀ g) where
    a : Along (machine i) (Good (m i s₀ given) (c i s₀ given)) unrefused (first i s₀ given) begins_good refl begins_some g
    a = along (machine i) (Good (m i s₀ given) (c i s₀ given)) unrefused (first i s₀ given) begins_good refl begins_some (series_calls r)

    pub series_counted : g.state.run.steps ≡ g.taken
    series_counted = ap (λ x. x.run.steps) a.stepped ∙ after_counts i g.taken (first i s₀ given) ∙ omega (arith, begins_none)

    pub series_few : g.taken ≤ step_bound (m i s₀ given)
    series_few = omega (arith, series_counted, a.good.budget)

    pub series_stepped : g.state ≡ after g.taken (machine i) (first i s₀ given)
    series_stepped = a.stepped

    pub series_low : (t : ℕ → ℕ) → Met i s₀ g.taken t → total t (m i s₀ given).q ≤ depth (m i s₀ given)
    series_low t (by_start l h) = sum_at_most (m i s₀ given) (c i s₀ given) by single_p (first i s₀ given) begins_good.low l (rw begins_high h)
    series_low t (by_step n nk l _ b) =
        let good = after_keeps (machine i) (Good (m i s₀ given) (c i s₀ given)) (λ s g. g) (λ s g h. step_good (m i s₀ given) (c i s₀ given) by single s g h.0)
        n (first i s₀ given) begins_good
        (λ j l. a.before j (omega arith)) in
        sum_at_most (m i s₀ given) (c i s₀ given) by single_p (step (m i s₀ given) (after n (machine i) (first i s₀ given)))
        (step_good (m i s₀ given) (c i s₀ given) by single (after n (machine i) (first i s₀ given)) good (a.before n nk).0).low l b

    -- "the number shown is never above D"
    pub series_deep : g.state.run.deepest ≤ depth (m i s₀ given)
    series_deep = a.good.low.deep

    pub series_answers : Orderly g.answers
    series_answers =
        along_answers (machine i) (Good (m i s₀ given) (c i s₀ given)) unrefused (first i s₀ given) begins_good refl begins_some a

    pub series_handed : Handed i
    series_handed = start_handed i s₀ plainly.0

    pub series_sound : Sound (m i s₀ given) (c i s₀ given) g.state
    series_sound = a.good.low.sound

    pub series_ends : step_bound (m i s₀ given) ≤ g.allowed → Completed g.answers × (g.state.run.height ≡ 0)
    series_ends enough = sorted a.status
      where
        sorted : Status (machine i) g → Completed g.answers × (g.state.run.height ≡ 0)
        sorted (ended z earlier e o) = ((earlier, e), z)
        sorted (going_on h e p) = absurd (omega (arith, series_counted, steps_left (m i s₀ given) (c i s₀ given) by single g.state a.good h))

    pub series_stays : Completed g.answers → (n : ℕ)
        → (resume n i g.state ≡ record { answer = complete; state = g.state }) × (resume_steps n i g.state ≡ 0)
    series_stays = along_stays (machine i) (Good (m i s₀ given) (c i s₀ given)) unrefused (first i s₀ given) begins_good refl begins_some a
