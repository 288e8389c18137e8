-- A call of the dispatcher, as the definitions have it. Assumes nothing.
use Rattle.std.specs.Prelude.{◌≡◌, ℤ, length, get_or, Result, Ok, Err}
use Rattle.std.proofs.Math.Path.{refl, sym, ap, fun_ext}
use Rattle.std.proofs.Common.{◌∙◌, arith, lt-ltb, le-ltb}
use Rattle.std.proofs.Math.Logic.{inl, inr}
use mathlib.Core.List.{List, []}
use Prim.Native.Nat.{ℕ, ◌≤◌, ◌<◌}
use Rattle.std.proofs.Math.ListN.{get_or-eq_default}
use Rattle.linear.proofs.Cases.{split}
use Rattle.definitions.specs.Answers as paper
use Rattle.calls.specs.Paper.{answer_of, run_of}
use Rattle.calls.specs.declared.Record.{Record}
use Rattle.calls.specs.declared.Outcome.{Outcome}
use Rattle.calls.specs.declared.Steps.{Steps}
use Rattle.dispatch_spec.specs.Dispatch as form
use Rattle.dispatch_spec.specs.Dispatch.{own, opened, after_turns, answer_for, steps_between, dispatch_checks, dispatch}
use Rattle.dispatch_spec.proofs.CheckRules.{accepted}
use Rattle.dispatch_spec.specs.ResumeLaws.{Rises}
use Rattle.dispatch_spec.proofs.TurnLaws.{turns_past, turns_rise}
use Rattle.dispatch.specs.declared.types.Share.{Share}
use Rattle.dispatch.specs.declared.types.Progress.{Progress}
use Rattle.dispatch.specs.declared.types.Fault.{Fault}
use Rattle.dispatch.specs.declared.types.Dispatched.{Dispatched}
use Rattle.dispatch.specs.Form.{no_record, no_progress, no_outcome, schedule_for, progress_of}
use Rattle.dispatch.specs.Form.{round_for, unserved_of, kept_of, fault_of, verdict_of, checks_for}
use Rattle.dispatch.specs.Filling.{Filled}
use Rattle.dispatch.specs.Turning.{Ready}
use Rattle.dispatch.specs.Finish.{Rising, Finishing}

-- what is handed over: the tables, the runs' records, and the number of the run served last
abbrev pub handed : List ℕ → List ℕ → List Record → ℕ → form.Round
handed stack list records last = record { stack = stack; list = list; progress = λ i. progress_of (unserved_of (get_or records i no_record)); last = last }

-- what a call returns, and leaves in the tables, is what the definitions have: at each of the eight places an answer and a record
pub record Returns (x : form.Dispatched) (d : Dispatched) (stack list : List ℕ) : Type 0 where
  pub check : verdict_of d.verdict ≡ x.check
  pub answers : (i : ℕ) → i < 8 → answer_of (get_or d.outcomes i no_outcome).answer ≡ x.answers i
  pub records : (i : ℕ) → i < 8 → run_of (get_or d.outcomes i no_outcome).run ≡ (x.round.progress i).run
  pub steps : d.steps.0 ≡ x.steps
  pub last : d.last ≡ x.round.last
  pub stacks : stack ≡ x.round.stack
  pub lists : list ≡ x.round.list

-- ---- refused

pub record Refused (why : Fault) (records : List Record) (last : ℕ) (d : Dispatched) : Type 0 where
  pub verdict : d.verdict ≡ Err why
  pub outcomes : Filled 8 (λ i. kept_of (get_or records i no_record)) no_outcome d.outcomes 8
  pub number : d.last ≡ last
  pub steps : d.steps.0 ≡ 0

-- the checks look at no more
pub checks_are : (count : ℕ) (shares : List Share) (coefs : List ℤ) (quantum : ℕ) (stack list : List ℕ) (records : List Record) (last : ℕ)
    → checks_for count shares quantum last (length stack) (length list)
    ≡ dispatch_checks (schedule_for count shares coefs quantum) (handed stack list records last)
unfolding checks_for dispatch_checks
checks_are count shares coefs quantum stack list records last = refl

module _ (count : ℕ) (shares : List Share) (coefs : List ℤ) (quantum : ℕ) (stack list : List ℕ) (records : List Record) (last turns : ℕ) where
  pub returns_refused : {why : Fault} {v : Result (Unit {0}) Fault} → verdict_of v ≡ checks_for count shares quantum last (length stack) (length list) → v
      ≡ Err why
      → (d : Dispatched) → Refused why records last d
      → Returns (dispatch turns (schedule_for count shares coefs quantum) (handed stack list records last)) d stack list
  unfolding dispatch
  returns_refused {why} e q d r =
      let c : paper.refuse (fault_of why) []
      ≡ dispatch_checks (schedule_for count shares coefs quantum) (handed stack list records last) = sym (ap verdict_of q) ∙ e
      ∙ checks_are count shares coefs quantum stack list records last in
      rw (← c)
      (record {
        check = rw r.verdict refl;
        answers = λ i l. rw (r.outcomes.same i l) refl;
        records = λ i l. rw (r.outcomes.same i l) refl;
        steps = r.steps;
        last = r.number;
        stacks = refl;
        lists = refl;
      })

  -- ---- served

  -- the records before the first turn
  unserved_at : {p : List Progress} → length records ≡ 8 → Filled 8 (λ i. unserved_of (get_or records i no_record)) no_progress p 8 → (j : ℕ)
      → progress_of (unserved_of (get_or records j no_record)) ≡ progress_of (get_or p j no_progress)
  unserved_at {p} e f j =
      elim (split j 8) [
        | inl l ↦ ap progress_of (sym (f.same j l))
        | inr l ↦
            let short : length records ≤ j = omega arith in
            let short' : length p ≤ j = omega (arith, f.long) in
            rw (get_or-eq_default records no_record short, get_or-eq_default p no_progress short')
      ]

  pub opened_handed : {p : List Progress} → length records ≡ 8 → Filled 8 (λ i. unserved_of (get_or records i no_record)) no_progress p 8
      → opened (handed stack list records last) ≡ round_for stack list p last
  unfolding opened
  opened_handed {p} e f = ap (λ (x : ℕ → form.Progress). record { stack = stack; list = list; progress = x; last = last }) (fun_ext (unserved_at e f))

  module _ {v : Result (Unit {0}) Fault} (e : verdict_of v ≡ checks_for count shares quantum last (length stack) (length list)) {x : Unit {0}} (q : v ≡ Ok x)
    where
      goes : dispatch_checks (schedule_for count shares coefs quantum) (handed stack list records last) ≡ paper.go
      goes = sym (sym (ap verdict_of q) ∙ e ∙ checks_are count shares coefs quantum stack list records last)

      pub ready : Ready count shares (length stack) (length list)
      ready =
          let a = accepted (schedule_for count shares coefs quantum) (handed stack list records last) goes in
          record { some_run = a.some_run; few = a.few_runs; stacks = λ i l. a.laid.stacks.fit i l; lists = λ i l. a.laid.lists.fit i l }

      module _ {p : List Progress} (long : length records ≡ 8) (f : Filled 8 (λ i. unserved_of (get_or records i no_record)) no_progress p 8)
          {stack' list' : List ℕ} (progress' : List Progress) {last' : ℕ}
          (h : round_for stack' list' progress' last' ≡ after_turns turns (schedule_for count shares coefs quantum) (round_for stack list p last)) where
        turned_to : after_turns turns (schedule_for count shares coefs quantum) (opened (handed stack list records last))
            ≡ round_for stack' list' progress' last'
        turned_to = ap (after_turns turns (schedule_for count shares coefs quantum)) (opened_handed long f) ∙ sym h

        rise : (i : ℕ) → Rises (get_or records i no_record).steps.0 (get_or progress' i no_progress).run.steps.0
        unfolding opened
        rise i = rw turned_to at (turns_rise turns (schedule_for count shares coefs quantum) (opened (handed stack list records last)) i)

        -- a place past the runs has no turn
        past : (i : ℕ) → count ≤ i → run_of (get_or records i no_record) ≡ run_of (get_or progress' i no_progress).run
        unfolding opened
        past i l =
            let t = turns_past turns (schedule_for count shares coefs quantum) (opened (handed stack list records last)) ready.some_run i l in
            sym (ap (λ (p : form.Progress). p.run) (rw turned_to at t))

        pub rising : Rising count records progress'
        rising = record { rises = λ i l. rise i }

        pub returns_served : {outcomes : List Outcome} {steps : Steps} → Finishing count shares coefs stack' list' records progress' outcomes steps.0 count
            → Returns (dispatch turns (schedule_for count shares coefs quantum) (handed stack list records last))
            (record { verdict = Ok tt; outcomes = outcomes; last = last'; steps = steps }) stack' list'
        unfolding dispatch answer_for own steps_between
        returns_served g =
            rw (goes, turned_to)
            (record {
              check = refl;
              answers = λ i l. elim (split i count) [ inl m ↦ rw (lt-ltb i count m) (g.each i m).answer | inr m ↦ rw (le-ltb i count m, g.others i m l) refl ];
              records = λ i l. elim (split i count) [
                | inl m ↦ ap run_of (g.each i m).run
                | inr m ↦ ap (λ (o : Outcome). run_of o.run) (g.others i m l) ∙ past i m
              ];
              steps = rw g.sum refl;
              last = refl;
              stacks = refl;
              lists = refl;
            })
