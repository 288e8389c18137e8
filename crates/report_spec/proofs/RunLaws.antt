-- The program's run: a map that is read is not refused before its walk, the rows found fit into the list, and the run does not end "started".
-- Assumes nothing.
use Rattle.std.specs.Prelude.{ℕ, zero, suc, ◌*◌, ◌≤◌, ◌<◌, Bool, List, ◌≡◌, eqb, ℤ, length}
use Rattle.std.proofs.Math.Bool.{true, false}
use Rattle.std.proofs.Common.{inl, inr, ◌∙◌, mul-le-mul, arith}
use Rattle.std.proofs.Math.Path.{refl, ap}
use Rattle.std.proofs.lemmas.Bool.{eqb-false}
use Rattle.definitions.specs.Answers.{Answer, started, complete, paused, refused, Check, refuse, go}
use Rattle.definitions.specs.Calls.{machine, start, resume}
use Rattle.definitions.specs.Input.{Input, input_of, system_of}
use Rattle.definitions.specs.Machine.{Outcome, call, checked, unless_done, walk}
use Rattle.definitions.specs.Refusals.{start_checks, resume_checks, search_checks}
use Rattle.definitions.specs.Step.{step}
use Rattle.definitions.specs.System.{System}
use Rattle.definitions.specs.Tables.{State, units_start}
use Rattle.laws.proofs.MachineLaws.{call_walks}
use Rattle.laws.specs.RefusalLaws.{Valid}
use Rattle.laws.proofs.RefusalLaws.{start_handed, start_renders, start_shaped, resume_valid, search_going, valid_resume}
use Rattle.laws.proofs.ValidLaws.{found_fits, step_valid, units_valid}
use Rattle.map_spec.specs.Form.{MapInRange}
use Rattle.map_spec.specs.Reading.{accepted, read_map}
use Rattle.map_text.proofs.MapLaws.{accepted_written}
use Rattle.report_spec.specs.Printed.{blank, run, run_text, reading_text, printed}

-- ---- how a walk ends

-- what holds of every way in which a call can end, and of what its work leaves, holds of what it leaves
module _ (P : Outcome State → Type 0) (s : State) (work : State → Outcome State) where
  checked_keeps : ((n : ℕ) (values : List ℕ) → P (record { answer = refused n values; state = s })) → (c : Check) → (c ≡ go → P (work s)) → P (checked c s work)
  unfolding checked
  checked_keeps p (refuse n values) h = p n values
  checked_keeps p go h = h refl

  unless_keeps : P (record { answer = complete; state = s }) → (b : Bool) → (b ≡ false → P (work s)) → P (unless_done b s work)
  unfolding unless_done
  unless_keeps p true h = p
  unless_keeps p false h = h refl

record Ended (m : System) (o : Outcome State) : Type 0 where
  valid : Valid m o.state
  not_started : ¬ (o.answer ≡ started)

apart : {a : Answer} → (a ≡ started → ◌≡◌ {A = ℕ} 0 1) → ¬ (a ≡ started)
apart h e = omega (arith, h e)

high : (n : ℕ) → eqb n 0 ≡ false → 0 < n
high zero e = absurd (eqb-false 0 0 e refl)
high (suc n) e = omega arith

walk_ended : (n : ℕ) (i : Input) (s : State) → Valid (system_of i) s → Ended (system_of i) (walk n (machine i) s)
unfolding walk
walk_ended zero i s v =
    unless_keeps (Ended (system_of i)) s (λ t. record { answer = paused; state = t })
    (record { valid = v; not_started = apart (λ e. cc) }) (eqb s.run.height 0)
    (λ e. record { valid = v; not_started = apart (λ e. cc) })
walk_ended (suc n) i s v =
    let m = system_of i in
    unless_keeps (Ended m) s (λ t. checked (search_checks m t) t (λ u. walk n (machine i) (step m u)))
    (record { valid = v; not_started = apart (λ e. cc) }) (eqb s.run.height 0)
    (λ e. checked_keeps (Ended m) s (λ u. walk n (machine i) (step m u))
    (λ k values. record { valid = v; not_started = apart (λ e. cc) }) (search_checks m s) (λ f.
    let h = high s.run.height e in walk_ended n i (step m s) (step_valid m s v h (search_going m s v.ordered h f))))

-- ---- the rows found

abbrev Fits : ℕ → State → Type 0
Fits q s = s.run.found * q ≤ length s.list

-- of a map alone
module _ (p q : ℕ) (coefs : List ℤ) where
  abbrev input : Input
  input = input_of p q coefs

  resume_fits : (n : ℕ) (s : State) → Fits q s → Fits q (resume n input s).state
  unfolding call
  resume_fits n s l =
      checked_keeps (λ o. Fits q o.state) s (walk n (machine input)) (λ k values. l) (resume_checks input s)
      (λ e. found_fits (system_of input) _ (walk_ended n input s (resume_valid input s e)).valid)

  start_fits : Fits q (start input blank).state
  unfolding start units_start
  start_fits =
      checked_keeps (λ o. Fits q o.state) blank (λ t. record { answer = started; state = units_start (system_of input) t }) (λ k values. omega arith)
      (start_checks input blank)
      (λ e. omega arith)

  run_fits : Fits q (run input).state
  unfolding run
  run_fits = resume_fits 1000000 (start input blank).state start_fits

  -- the run, by the calls that the program makes
  module _ {o : Outcome State} where
    pub ran_is : (begun : Outcome State) → begun ≡ start input blank → o ≡ resume 1000000 input begun.state → o ≡ run input
    unfolding run
    ran_is begun e f = f ∙ ap (λ (b : Outcome State). resume 1000000 input b.state) e

    pub ran_fits : o ≡ run input → Fits q o.state
    ran_fits e = rw e run_fits

-- ---- a map that is read

module _ {p q : ℕ} {coefs : List ℤ} (r : MapInRange p q coefs) where
  abbrev map : Input
  map = input_of p q coefs

  starts : start_checks map blank ≡ go
  starts =
      (start_renders map blank).silent (
        λ o. elim o [ inl l ↦ omega (arith, r.p_some) | inr l ↦ omega (arith, r.p_few) ],
        (
          λ o. elim o [ inl l ↦ omega (arith, r.q_some) | inr l ↦ omega (arith, r.q_few) ],
          (λ ne. ne r.count, (λ l. omega (arith, mul-le-mul r.q_few r.q_few, r.q_few), (λ i l h. omega (arith, r.range i l), tt))),
        ),
      )

  valid : Valid (system_of map) (units_start (system_of map) blank)
  valid = units_valid (system_of map) blank (start_shaped map blank starts) (λ l. tt)

  run_walks : run map ≡ walk 1000000 (machine map) (units_start (system_of map) blank)
  unfolding run start checked
  run_walks =
      rw starts (call_walks (machine map) (units_start (system_of map) blank) 1000000
      (valid_resume map (units_start (system_of map) blank) (start_handed map blank starts) valid)).0

  -- the program's start answers "started", and its continuing call does not
  pub run_starts : (start map blank).answer ≡ started
  unfolding start checked
  run_starts = rw starts

  pub run_ends : ¬ ((run map).answer ≡ started)
  run_ends = rw run_walks (walk_ended 1000000 map (units_start (system_of map) blank) valid).not_started

-- Neither the start nor the continuing call is refused before the walk, so that no "earlier refusal" is left to print;
-- and the walk's answer is one of those that have an ending.
pub map_printed : (t : List ℕ) {p q : ℕ} {coefs : List ℤ} → read_map t ≡ accepted p q coefs
    → let i : Input = input_of p q coefs in let o = walk 1000000 (machine i) (units_start (system_of i) blank) in
    (printed t ≡ run_text p q o) × (¬ (o.answer ≡ started))
unfolding printed reading_text
map_printed t {p} {q} {coefs} e =
    let r = (accepted_written t e).1 in (rw (e, run_walks r), (walk_ended 1000000 _ _ (valid r)).not_started)
