-- What a run answers that had no turn. Assumes nothing.
use Rattle.std.specs.Prelude.{◌≡◌, List, ℕ, ◌+◌, ◌-◌, eqb, ℤ, length, take, drop, Result, Ok, Err}
use Rattle.std.proofs.Common.{sym, ◌∙◌, ap, arith, eq-eqb, ne_eqb}
use Rattle.std.proofs.Math.Decide.{ℕ_discrete}
use Rattle.definitions.specs.Answers as paper
use Rattle.definitions.specs.Calls.{machine, resume}
use Rattle.definitions.specs.Input.{Input, input_of}
use Rattle.definitions.specs.Machine as paper-machine
use Rattle.definitions.specs.Refusals.{resume_checks}
use Rattle.definitions.specs.Tables.{State}
use Rattle.laws.proofs.MachineLaws.{call_refused, call_walks, walk_done, walk_paused}
use Rattle.calls.specs.Paper.{check_of, answer_of, number_of, values_of, state_of}
use Rattle.calls.proofs.CallLaws.{passes}
use Rattle.calls.specs.declared.Record.{Record}
use Rattle.calls.specs.declared.Refusal.{Refusal}
use Rattle.calls.specs.declared.Outcome.{Outcome}
use Rattle.dispatch_spec.specs.Dispatch.{either, or_idle}
use Rattle.dispatch_spec.specs.Parts.{part_of}
use Rattle.dispatch.specs.declared.types.Part.{Part}
use Rattle.dispatch.specs.declared.types.Progress.{Progress}
use Rattle.dispatch.specs.TurnBack.{between}
use Rattle.dispatch.specs.declared.types.Share.{Share}
use Rattle.dispatch.specs.Cut.{Inside, cut_same}
use Rattle.dispatch.specs.Form.{input_for, own_state, last_of}

-- complete at height 0, and else paused
unfoldable pub rest_of : ℕ → paper.Answer
rest_of height = either (eqb height 0) paper.complete paper.paused

pub rest_done : (height : ℕ) → height ≡ 0 → paper.complete ≡ rest_of height
unfolding rest_of
rest_done height e = rw (eq-eqb height 0 e)

pub rest_more : (height : ℕ) → ¬ (height ≡ 0) → paper.paused ≡ rest_of height
unfolding rest_of
rest_more height ne = rw (ne_eqb height 0 ne)

-- the parts as code takes them
pub own_between : (a b : Part) (stack list : List ℕ) (r : Record) → state_of (between a stack) (between b list) r ≡ own_state a b stack list r
unfolding part_of
own_between a b stack list r =
    let ea : a.start + a.size - a.start ≡ a.size = omega arith in
    let eb : b.start + b.size - b.start ≡ b.size = omega arith in
    rw (ea, eb)

module _ (input : Input) (s : State) {c : Result (Unit {0}) Refusal} (e : check_of c ≡ resume_checks input s) where
  pub idle_refused : {why : Refusal} → c ≡ Err why → paper.refused (number_of why) (values_of why) ≡ (resume 0 input s).answer
  idle_refused {why} q =
      sym (ap (λ (o : paper-machine.Outcome State). o.answer) (call_refused (machine input) s 0 (number_of why) (values_of why) (sym e ∙ ap check_of q)).0)

  pub idle_passed : {x : Unit {0}} → c ≡ Ok x → rest_of s.run.height ≡ (resume 0 input s).answer
  idle_passed q =
      let w = (call_walks (machine input) s 0 (passes e q)).0 in
      elim (ℕ_discrete s.run.height 0) [
        | yes z ↦ sym (rest_done s.run.height z) ∙ sym (ap (λ (o : paper-machine.Outcome State). o.answer) (w ∙ (walk_done (machine input) s 0 z).0))
        | no z ↦ sym (rest_more s.run.height z)
            ∙ sym (ap (λ (o : paper-machine.Outcome State). o.answer) (w ∙ (walk_paused (machine input) s (omega (arith, z))).0))
      ]

-- what is answered for a run, and its record
pub record OutcomeFor (p : Progress) (m : Input) (s : State) (o : Outcome) : Type 0 where
  pub run : o.run ≡ p.run
  pub answer : answer_of o.answer ≡ or_idle (last_of p.last) m s

-- the checks of a run by itself, as code makes them on its parts
pub checks_back : (share : Share) (coefs : List ℤ) (stack list : List ℕ) (r : Record) (part : Part) {x : paper.Check}
    → Inside share.coefs (length coefs) part
    → x ≡ resume_checks (input_of share.p share.q (take (part.start + part.size - part.start) (drop part.start coefs)))
    (state_of (between share.stack stack) (between share.list list) r)
    → x ≡ resume_checks (input_for share coefs) (own_state share.stack share.list stack list r)
checks_back share coefs stack list r part i h =
    h
    ∙ ap (λ (l : List ℤ). resume_checks (input_of share.p share.q l) (state_of (between share.stack stack) (between share.list list) r))
    (cut_same coefs i)
    ∙ ap (resume_checks (input_for share coefs)) (own_between share.stack share.list stack list r)
