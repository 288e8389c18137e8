-- In which case a continuing call of the engine gives each of its answers; that the record counts its turns; and what more room changes. A call is that of a
-- machine whose steps are the turns, the last of which writes what the stage leaves. Assumes nothing.
use Rattle.std.proofs.Math.Path.{◌≡◌}
use Rattle.std.specs.Prelude.{◌≢◌, ◌↔◌, ◌⊎◌, Bool, ◌&&◌, List, [], T, ℤ, pos, ◌≤ℤ◌}
use Rattle.std.proofs.Math.Bool.{not, cond}
use Prim.Native.Nat.{ℕ, ◌^◌, ◌-◌, ◌≤◌, ◌<◌}
use Rattle.std.proofs.Math.Dec.{eqb, ltb}
use Rattle.linear.specs.Systems.{value}
use Rattle.linear.specs.Tests.{count_to, number}
use Rattle.definitions.specs.Answers.{Answer, Check, ◌then◌, complete, go, paused, refuse, refuse_if, refused, started}
use Rattle.definitions.specs.Machine as machine
use Rattle.definitions.specs.Machine.{Machine, call_steps}
use Rattle.definitions.specs.Refusals.{step_limit}
use Rattle.definitions.specs.System.{most_component}
use Rattle.laws.specs.CheckLaws.{AllSilent, FirstDue, Rules, ◌▹◌, end, rule}
use Rattle.theorems.specs.CallAnswers.{CallAnswers}
use Rattle.engine_spec.specs.Calls.{resume_checks}
use Rattle.engine_spec.specs.Caps.{Over}
use Rattle.engine_spec.specs.Engine.{Result, Work, all_done, basis_row, equation_of, finished, onward, result, stays, values_small}
use Rattle.engine_spec.specs.Signs.{Reduced}
use Rattle.engine_spec.specs.Stage.{Stage, Turned, above, below, due_row, ends, goes, is_needless, next_degree, paired, row, stops, sum_of, turn}

-- ---- the statements

-- What the next turn of the stage under way does: it takes a row of the basis;
abbrev pub TakesRow : ℕ → Work → Type 0
TakesRow q w = due_row q w.count (basis_row q w) w.stage < w.count

-- it looks at a pair, whose sum is
abbrev pub next_sum : ℕ → Work → ℕ → ℕ
next_sum q w = sum_of q w.stage (above q (equation_of q w) w.stage) (below q (equation_of q w) w.stage)

abbrev pub LooksAtPair : ℕ → Work → Type 0
LooksAtPair q w = (¬ (TakesRow q w)) × (above q (equation_of q w) w.stage < w.stage.rows)

-- and needs the sum, which does not pass the cap and which no row reduces;
abbrev pub NeedsSum : ℕ → Work → Type 0
NeedsSum q w =
    LooksAtPair q w × (¬ (Over w.stage.cap (next_sum q w) ⊎ Reduced q (equation_of q w) w.stage.rows (row q w.stage) (next_sum q w)))

-- or it finds that no degree is left, and ends the stage.
abbrev pub EndsStage : ℕ → Work → Type 0
EndsStage q w =
    (¬ (TakesRow q w))
    × ((¬ (above q (equation_of q w) w.stage < w.stage.rows)) × (next_degree q (equation_of q w) w.count (basis_row q w) w.stage ≡ 0))

-- a value that would be a component of a fresh unknown is above 1,000,000
abbrev pub LargeValue : ℕ → Work → Type 0
LargeValue q w = (i : ℕ) × (i < w.stage.rows) × (¬ (value (equation_of q w) q (row q w.stage i) ≤ℤ pos most_component))

-- 14: the steps taken stand at their limit. 12: a sum that is needed has a component above 1,000,000, or a value at the end of a stage that becomes one. 31:
-- there is no room in the stage's table for a row that is needed, or in the basis for the rows that the stage leaves.
abbrev pub turn_rules : (q most room : ℕ) → Work → Rules
turn_rules q most room w =
    rule 14 (w.stage.steps ≡ step_limit)
    ▹ rule 12 ((NeedsSum q w × ((j : ℕ) × (j < q) × (most_component < next_sum q w j))) ⊎ (EndsStage q w × ((w.fresh < q) × LargeValue q w)))
    ▹ rule 31 (((TakesRow q w ⊎ NeedsSum q w) × (room ≤ w.stage.rows)) ⊎ (EndsStage q w × (most < count_to w.stage.rows (stays q w))))
    ▹ end

-- every equation is done
abbrev pub AllDone : ℕ → Work → Type 0
AllDone p w = w.done ≡ 2 ^ p - 1

-- The answer a of a continuing call with a budget that took `taken` turns and left v: refused by the first of the rules before the first turn that is in its
-- case; else complete where no stage is under way and every equation is done; paused where none is under way and equations are left, or one is and the budget
-- is used up; and refused where one is under way, budget is left and the next turn is refused.
pub record EngineAnswers (before within : Rules) (p budget taken : ℕ) (v : Work) (a : Answer) : Type 0 where
  pub completes : (a ≡ complete) ↔ (AllSilent before × (p ≤ v.equation) × AllDone p v)
  pub pauses : (a ≡ paused) ↔ (AllSilent before × (((p ≤ v.equation) × (¬ (AllDone p v))) ⊎ ((v.equation < p) × (taken ≡ budget))))
  pub refuses : (n : ℕ) (values : List ℕ)
      → (a ≡ refused n values) ↔ (FirstDue before n values ⊎ (AllSilent before × (v.equation < p) × (taken < budget) × FirstDue within n values))
  pub never : a ≢ started

-- ---- a call as that of a machine

-- 1 while a stage is under way, else 0
abbrev pub under_way : ℕ → Work → ℕ
under_way p w = number (ltb w.equation p)

abbrev pub turn_of : (q room : ℕ) → Work → Turned
turn_of q room w = turn q (equation_of q w) w.count (basis_row q w) room w.stage

abbrev pub end_refusal : (q most : ℕ) → Work → Check
end_refusal q most w = refuse_if (ltb w.fresh q && not (values_small q w)) 12 then refuse_if (ltb most (count_to w.stage.rows (stays q w))) 31

abbrev pub refusal_of : Turned → Check → Check
refusal_of (goes s) c = go
refusal_of (stops n) c = refuse n []
refusal_of ends c = c

abbrev pub left_by : (p q : ℕ) → Turned → Work → Work
left_by p q (goes s) w = onward s w
left_by p q (stops n) w = w
left_by p q ends w = finished p q w

abbrev pub engine_machine : (p q most room : ℕ) → Machine Work
engine_machine p q most room =
    record {
      before = resume_checks p q most room;
      settle = λ w. w;
      height = under_way p;
      refusals = λ w. refusal_of (turn_of q room w) (end_refusal q most w);
      step = λ w. left_by p q (turn_of q room w) w;
    }

-- the whole turns that a call takes
abbrev pub turns_taken : (p q most room budget : ℕ) → Work → ℕ
turns_taken p q most room budget w = call_steps budget (engine_machine p q most room) w

-- where no stage is under way the engine says whether all is done
abbrev pub answer_of : ℕ → Answer → Work → Answer
answer_of p complete w = cond (all_done p w) complete paused
answer_of p paused w = paused
answer_of p started w = started
answer_of p (refused n values) w = refused n values

abbrev pub of_machine : ℕ → machine.Outcome Work → Result
of_machine p o = result (answer_of p o.answer o.state) o.state

module _ (p q most room : ℕ) where
  abbrev pub k : Machine Work
  k = engine_machine p q most room

-- ---- the refusals of a turn by rules

-- the test b tells whether P holds
abbrev pub Tells : Bool → Type 0 → Type 0
Tells b P = (T b → P) × (P → T b)

module _ (q most room : ℕ) (w : Work) where
  abbrev pub s : Stage
  s = w.stage

  abbrev pub c : ℕ → ℤ
  c = equation_of q w

  abbrev pub is_row : Bool
  is_row = ltb (due_row q w.count (basis_row q w) s) w.count

  abbrev pub is_pair : Bool
  is_pair = ltb (above q c s) s.rows

  abbrev pub is_passed : Bool
  is_passed = is_needless q c s (next_sum q w)

  abbrev pub is_last : Bool
  is_last = eqb (next_degree q c w.count (basis_row q w) s) 0

  abbrev pub is_needed : Bool
  is_needed = (not is_row && is_pair) && not is_passed

  abbrev pub is_end : Bool
  is_end = not is_row && (not is_pair && is_last)

module _ (before within : Rules) (p budget taken : ℕ) (v : Work) where
  abbrev pub Inner : Answer → Type 0
  Inner a = CallAnswers before within budget taken (under_way p v) a

  abbrev pub Outer : Answer → Type 0
  Outer a = EngineAnswers before within p budget taken v a

-- ---- more room

-- a turn that goes on is the same one with more room, and goes on
abbrev pub tested : (b r h needless small fits last : Bool) (taken skip more next : Stage) → Turned
tested b r h needless small fits last taken skip more next =
    cond b (stops 14) (cond r (cond fits (goes taken) (stops 31)) (cond h (paired needless small fits skip more) (cond last ends (goes next))))

abbrev pub Same : (t u : Turned) (c : Check) → Type 0
Same t u c = (u ≡ t) × (refusal_of u c ≡ go)

module _ (p q most room most' room' : ℕ) (wider : most ≤ most') (longer : room ≤ room') where
  abbrev pub short : Machine Work
  short = engine_machine p q most room

  abbrev pub long : Machine Work
  long = engine_machine p q most' room'

  module _ (w : Work) (b : ℕ) (e : resume_checks p q most room w ≡ go) (e' : resume_checks p q most' room' w ≡ go) where
    abbrev pub turns : ℕ
    turns = turns_taken p q most room b w
