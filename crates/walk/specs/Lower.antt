-- What the code of a run from a lower bound leaves between its two walks, and what is known there. Assumes nothing.
use Rattle.std.specs.Prelude.{◌≡◌, List, ℕ, ◌+◌, ◌-◌, ◌≤◌, ◌<◌, length}
use Rattle.std.proofs.Math.Path.{refl, sym, ap}
use Rattle.std.proofs.Common.{◌∙◌, subst, mul-le-mul_right, arith}
use Rattle.definitions.specs.Answers as paper
use Rattle.definitions.specs.Calls.{machine_from, machine_of}
use Rattle.definitions.specs.Input.{Input, bound_of, map_of}
use Rattle.definitions.specs.Machine as machine
use Rattle.definitions.specs.Machine.{walk, walk_steps}
use Rattle.definitions.specs.Tables as tables
use Rattle.definitions.specs.Tables.{State, capped_run, desk_by_desk, lower_above, lower_plain, lowered, plain_part, plain_run, whole_of, write_row}
use Rattle.laws.specs.LowerLaws.{InOrderBy, ValidFrom}
use Rattle.laws.proofs.LowerLaws.{lowered_valid}
use Rattle.laws.proofs.LowerWalk.{above_walks, from_plain, plain_walk_valid, then_above, walk_counts, walk_steps_few}
use Rattle.calls.specs.Paper.{answer_of, outcome_with, record_of, state_with}
use Rattle.calls.specs.declared.Answer.{Answer}
use Rattle.calls.specs.declared.Answer.TheVariants.{Started, Complete, Paused, Refused}
use Rattle.calls.specs.declared.Outcome.{Outcome}
use Rattle.calls.specs.declared.RunKind.{RunKind}
use Rattle.calls.specs.declared.Record.{Record}
use Rattle.calls.specs.declared.RunKind.TheVariants.{LowerAbove}

-- the record of the run, from that of its plain walk: of the kind and the height that it has, and no count changed
abbrev pub run_by : RunKind → ℕ → Record → ℕ → Record
run_by kind height part deepest = record_of kind height part.found2 part.steps2 part.found part.steps deepest

-- ---- which walk the record names

module _ (lower : List ℕ) (i : Input) (s : State) (v : ValidFrom lower i s) where
  pub names_above : ¬ (s.run.kind ≡ lower_plain) → s.run.kind ≡ lower_above
  names_above n = go s.run.kind v.ordered n
    where
      go : (r : tables.RunKind) → InOrderBy r lower i s → ¬ (r ≡ lower_plain) → r ≡ lower_above
      go plain_run o n = absurd o
      go capped_run o n = absurd o
      go lower_plain o n = absurd (n refl)
      go lower_above o n = refl
      go desk_by_desk o n = absurd o

-- ---- the plain walk, by what it left: a state t of a plain run whose list is the second one

module _ (lower : List ℕ) (i : Input) (s : State) (v : ValidFrom lower i s) (e : s.run.kind ≡ lower_plain) (n : ℕ) where
  abbrev checks : State → paper.Check
  checks t = paper.go

  abbrev pub plainly : machine.Outcome State
  plainly = walk n (machine_of checks (map_of i)) (plain_part s)

  abbrev d : ℕ
  d = s.run.deepest

  left_valid : ValidFrom lower i (whole_of d plainly.state)
  left_valid = plain_walk_valid checks lower i d n (plain_part s) refl (subst (ValidFrom lower i) (back s e) v)
    where
      back : (s : State) → s.run.kind ≡ lower_plain → s ≡ whole_of s.run.deepest (plain_part s)
      back s e =
          ap (λ (r : tables.RunKind). record {
            stack = s.stack;
            list = s.list;
            second = s.second;
            run =
                record {
                  kind = r;
                  height = s.run.height;
                  found = s.run.found;
                  steps = s.run.steps;
                  found2 = s.run.found2;
                  steps2 = s.run.steps2;
                  deepest = s.run.deepest;
                };
          }) e

  -- its steps are those that the record has more than before, and no more than the budget
  pub steps_more : (plainly.state.run.steps ≡ s.run.steps2 + walk_steps n (machine_of checks (map_of i)) (plain_part s))
      × (walk_steps n (machine_of checks (map_of i)) (plain_part s) ≤ n)
  steps_more = ((walk_counts checks (map_of i) n (plain_part s)).0, walk_steps_few (machine_of checks (map_of i)) n (plain_part s))

  pub change_valid : ValidFrom lower i (lowered (bound_of lower) i.q (whole_of d plainly.state))
  change_valid = lowered_valid lower i (whole_of d plainly.state) refl left_valid

  -- a row of the bound fits
  pub first_row : (i.q < length plainly.state.stack) × (i.q ≤ length lower)
  first_row = let g = left_valid.shaped in (omega (arith, g.stack, mul-le-mul_right (i.q + 1) g.q_some), omega (arith, v.long))

  -- where it does not complete, that is the answer
  pub ended : (a : Answer) → plainly.answer ≡ answer_of a → ¬ (a ≡ Complete)
      → record { answer = answer_of a; state = whole_of d plainly.state } ≡ walk n (machine_from lower i) s
  ended a same not = sym (from_plain checks lower i n s e ∙ go a same not)
    where
      go : (a : Answer) → plainly.answer ≡ answer_of a → ¬ (a ≡ Complete)
          → then_above checks lower i plainly.answer (whole_of d plainly.state) (n - walk_steps n (machine_of checks (map_of i)) (plain_part s))
          ≡ record { answer = answer_of a; state = whole_of d plainly.state }
      go Started same not = rw same
      go Complete same not = absurd (not refl)
      go Paused same not = rw same
      go (Refused why) same not = rw same

  -- the same of what the code leaves, whose outcome o is that of the plain walk
  pub ended_by : (o : machine.Outcome State) → o ≡ plainly → {a b : Answer} → a ≡ b → o.answer ≡ answer_of a → ¬ (b ≡ Complete)
      → record { answer = answer_of b; state = whole_of d o.state } ≡ walk n (machine_from lower i) s
  ended_by o told {a} {b} same is not =
      ap (λ (u : machine.Outcome State). record { answer = answer_of b; state = whole_of d u.state }) told
      ∙ ended b (sym (ap (λ u. u.answer) told) ∙ is ∙ ap answer_of same) not

  -- else the bound's row is written, no count changed
  pub change_made : (o : Outcome) {stack list second stack' : List ℕ} {r : Record} → outcome_with o stack second list ≡ plainly
      → stack' ≡ write_row i.q stack 0 (bound_of lower) 0 → r ≡ run_by LowerAbove 1 o.run d
      → state_with stack' list second r ≡ lowered (bound_of lower) i.q (whole_of d plainly.state)
  unfolding lowered
  change_made o {stack} {list} {second} {stack'} told wrote is =
      ap (λ r. state_with stack' list second r) is ∙ ap (λ stack. state_with stack list second (run_by LowerAbove 1 o.run d)) wrote
      ∙ ap (λ (u : machine.Outcome State). lowered (bound_of lower) i.q (whole_of d u.state)) told

  -- and the walk above the bound goes on from there
  pub changed_walk : plainly.answer ≡ paper.complete → (left : ℕ) → left ≡ n - walk_steps n (machine_of checks (map_of i)) (plain_part s)
      → walk left (machine_from lower i) (lowered (bound_of lower) i.q (whole_of d plainly.state)) ≡ walk n (machine_from lower i) s
  unfolding lowered
  changed_walk done left is =
      above_walks checks lower i left (lowered (bound_of lower) i.q (whole_of d plainly.state)) refl
      ∙ sym (from_plain checks lower i n s e ∙ (rw (done, is)))
