-- One equation: the sums of the tuples in every plainly started run, whatever the room, the steps allowed and the limit of components. Assumes nothing.
use Rattle.std.specs.Prelude.{◌≡◌, refl, Bool, ℕ, ◌+◌, ◌-◌, ◌≤◌, ◌<◌, T}
use Rattle.std.proofs.Common.{◌∙◌, inl, inr, arith}
use Rattle.std.proofs.Math.Bool.{true, false}
use Rattle.linear.proofs.Cases.{split}
use Rattle.linear.proofs.TestLaws.{count_at}
use Rattle.linear.specs.Tests.{count_to}
use Rattle.linear.specs.TupleLaws.{total_sum}
use Rattle.linear.proofs.TupleLaws.{total_unit}
use Rattle.linear.specs.Tuples.{raise, total, unit}
use Rattle.definitions.specs.Answers.{go}
use Rattle.definitions.specs.Bound.{depth}
use Rattle.definitions.specs.Calls.{machine, resume, start}
use Rattle.definitions.specs.Input.{Extra, Input, alone, rights, system_of, walk_system}
use Rattle.definitions.specs.Refusals.{start_checks}
use Rattle.definitions.specs.Step.{children_to, deeper, grown, level, listed as after_listing, makes, marks_to, pick, step, top, top_marks}
use Rattle.definitions.specs.System.{System, coef, solves}
use Rattle.definitions.specs.Tables.{State, at, units_start}
use Rattle.laws.specs.RefusalLaws.{Going, Room}
use Rattle.laws.proofs.RefusalLaws.{search_going, start_shaped}
use Rattle.laws.proofs.StepLaws.{children_keep, children_row, makes_against}
use Rattle.laws.specs.TableLaws.{RowIs}
use Rattle.laws.proofs.TableLaws.{units_row}
use Rattle.laws.proofs.ValidLaws.{children_few, enlists}
use Rattle.theorems.specs.CallAnswers.{started_goes}
use Rattle.theorems.specs.Depth.{Chain, first, next}
use Rattle.theorems.specs.Equation.{ByUnits, chain_same, sum_bound, towards_one}
use Rattle.theorems.specs.Link.{Aim, grown_keeps}
use Rattle.theorems.specs.Run.{Run, Sound, aim_of, continued, relisted, relisted_sound, relisted₂, seconded_sound, started_units, step_sound, units_sound}
use Rattle.theorems.specs.WholeSteps.{call_keeps}

-- the tuple at level l has a chain
abbrev pub Chained : System → State → ℕ → Type 0
Chained m s l = (n : ℕ) × Chain (coef m 0) m.q (at s.stack (m.q + 1) l) n

-- what is kept along such a run: every stack tuple has a chain, and no sum above D was shown
pub record Low (m : System) (c : Aim) (s : State) : Type 0 where
  pub sound : Sound m c s
  pub chained : (l : ℕ) → l < s.run.height → Chained m s l
  pub deep : s.run.deepest ≤ depth m

module _ (m : System) (c : Aim) (by : ByUnits c) (one : m.p ≡ 1) (s : State) (low : Low m c s) where
  -- every stack tuple has a sum of at most D
  pub sum_at_most : (l : ℕ) → l < s.run.height → total (at s.stack (m.q + 1) l) m.q ≤ depth m
  sum_at_most l h = sum_bound m one s c by low.sound.inv l h (low.chained l h).1

  module _ (h : 0 < s.run.height) where
    pub few : level s + count_to m.q (makes m s) ≤ m.q
    few = children_few m s low.sound.valid h

    child_row : (j : ℕ) → j < m.q → T (makes m s j)
        → RowIs m.q (children_to m.q m s) (level s + count_to j (makes m s)) (raise (top m s) j) (top_marks m s + marks_to j (makes m s))
    child_row j jq mj = children_row m s low.sound.valid.shaped.stack few m.q (omega arith) j jq mj

    pub child_sum : (j : ℕ) → j < m.q → T (makes m s j)
        → total (at (children_to m.q m s) (m.q + 1) (level s + count_to j (makes m s))) m.q ≡ total (top m s) m.q + 1
    child_sum j jq mj = omega (arith, total_sum _ (top m s) (unit j) m.q (child_row j jq mj).tuple, total_unit j m.q jq)

    chained_grown : (l : ℕ) → l < level s + count_to m.q (makes m s) → (n : ℕ) × Chain (coef m 0) m.q (at (children_to m.q m s) (m.q + 1) l) n
    chained_grown l lh =
        elim (split l (level s)) [
          | inl lr ↦
              let (n, c) = low.chained l (omega arith) in
              (n, chain_same (λ j jq. children_keep m s m.q l j lr (omega arith)) c)
          | inr rl ↦
              let (j, jq, mj, e) = count_at (makes m s) m.q (l - level s) (omega arith) in
              let here : level s + count_to j (makes m s) ≡ l = omega arith in
              let (n, c) = low.chained (level s) (omega arith) in
              (n + 1, next {n = n} c j jq (rw (towards_one m (top m s) j one) at (makes_against m s j mj)) (rw here at (child_row j jq mj).tuple))
        ]

    -- a child has a sum of at most D too
    pub children_low : ¬ (T (solves m (top m s))) → (l : ℕ) → l < level s + count_to m.q (makes m s)
        → total (at (children_to m.q m s) (m.q + 1) l) m.q ≤ depth m
    unfolding grown
    children_low n l lh =
        sum_bound m one (grown m s) c by
        (grown_keeps m c low.sound.suits s low.sound.valid h low.sound.hand low.sound.inv n) l lh (chained_grown l lh).1

    -- the top's sum is shown, and it is at most D
    deeper_low : deeper m.q s (top m s) ≤ depth m
    deeper_low = omega (arith, low.deep, sum_at_most (level s) (omega arith))

    -- ---- a step keeps it

    listed_low : Room m.kind m.q s (top m s) → Sound m c (after_listing m s) → Low m c (after_listing m s)
    unfolding after_listing
    listed_low room sound =
        let e = enlists m.kind m.q s (top m s) room in
        record {
          sound = sound;
          chained = λ l lh. rw e.stack (low.chained l (omega (arith, rw e.height at lh)));
          deep = rw e.deepest deeper_low;
        }

    grown_low : Sound m c (grown m s) → Low m c (grown m s)
    unfolding grown
    grown_low sound = record { sound = sound; chained = chained_grown; deep = deeper_low }

    pub step_low : Going m s → Low m c (step m s)
    unfolding step
    step_low g = go (solves m (top m s)) g.roomy (step_sound m c s g low.sound)
      where
        go : (b : Bool) → (T b → Room m.kind m.q s (top m s)) → Sound m c (pick b (after_listing m s) (grown m s))
            → Low m c (pick b (after_listing m s) (grown m s))
        go true room sound = listed_low (room tt) sound
        go false room sound = grown_low sound

-- ---- the run

pub by_units : (e : Extra) → ByUnits (aim_of e)
by_units alone = tt
by_units (rights b) = tt

-- right sides are no further equation
pub as_many : (i : Input) → (system_of i).p ≡ i.p
as_many i = go i.extra
  where
    go : (e : Extra) → (walk_system e i).p ≡ i.p
    go alone = refl
    go (rights b) = refl

module _ (i : Input) (one : (system_of i).p ≡ 1) where
  abbrev m : System
  m = system_of i

  pub units_low : (s : State) → start_checks i s ≡ go → Low m (aim_of i.extra) (units_start m s)
  unfolding units_start
  units_low s checks =
      record {
        sound = units_sound i s checks;
        chained = λ l lq. (1, first l lq (units_row m.q s.stack m.q (omega arith) (start_shaped i s checks).stack l lq).tuple);
        deep = omega arith;
      }

  resume_low : (c : Aim) → ByUnits c → (n : ℕ) (s : State) → Low m c s → Low m c (resume n i s).state
  resume_low c by =
      call_keeps (machine i) (Low m c) (λ s o. o) (λ s o (h, e). step_low m c by one s o h (search_going m s o.sound.valid.ordered h e))

  pub run_low : {c : Aim} {s : State} → ByUnits c → Run i c s → Low m c s
  unfolding start
  run_low by (started_units s e) = let (g, w) = started_goes (start_checks i s) s _ e in rw w (units_low s g)
  run_low by (continued {c = c} {s = s} r budget) = resume_low c by budget s (run_low by r)
  run_low by (relisted {c = c} {s = s} r list same) =
      let o = run_low by r in record { sound = relisted_sound m c s list same o.sound; chained = o.chained; deep = o.deep }
  run_low by (relisted₂ {c = c} {s = s} r second same) =
      let o = run_low by r in record { sound = seconded_sound m c s second same o.sound; chained = o.chained; deep = o.deep }

-- (document 02, Job 6) "the number shown is never above D", nor is the sum of a tuple in the stack table
module _ (i : Input) (one : i.p ≡ 1) {s : State} (r : Run i (aim_of i.extra) s) where
  pub low : Low (system_of i) (aim_of i.extra) s
  low = run_low i (as_many i ∙ one) (by_units i.extra) r
