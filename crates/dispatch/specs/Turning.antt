-- The loop over the turns of a call: what it keeps, a turn of it, and its ends. Assumes nothing.
use Rattle.std.specs.Prelude.{◌≡◌, refl, List, ℕ, zero, suc, ◌+◌, ◌≤◌, ◌<◌, ℤ, length, get_or, set}
use Rattle.std.proofs.Math.Path.{sym, ap, fun_ext}
use Rattle.std.proofs.Common.{◌∙◌, le_antisymm, add-one, arith, eq-eqb, ne_eqb, get_or-set_same, get_or-set_other}
use Rattle.std.proofs.Math.Option.{Option, none, some}
use Rattle.std.proofs.Math.Decide.{ℕ_discrete}
use Rattle.std.proofs.Math.ListN.{length-set}
use Rattle.definitions.specs.Calls.{resume}
use Rattle.definitions.specs.Machine as machine
use Rattle.definitions.specs.Tables.{State}
use Rattle.calls.specs.Paper.{outcome_of}
use Rattle.calls.specs.declared.Outcome.{Outcome}
use Rattle.dispatch_spec.specs.Dispatch as form
use Rattle.dispatch_spec.specs.Dispatch.{Schedule, put, own, next, leave_turn, serve_run, serve, after_turns}
use Rattle.dispatch.specs.declared.types.Share.{Share}
use Rattle.dispatch.specs.declared.types.Progress.{Progress}
use Rattle.dispatch.specs.Form.{no_share, no_progress, schedule_for, input_for, progress_of, round_for, turned, own_state, placed}

-- the runs are 1 to 8, and their parts lie in tables of these lengths
pub record Ready (count : ℕ) (shares : List Share) (stack_length list_length : ℕ) : Type 0 where
  pub some_run : 0 < count
  pub few : count ≤ 8
  pub stacks : (i : ℕ) → i < count → (get_or shares i no_share).stack.start + (get_or shares i no_share).stack.size ≤ stack_length
  pub lists : (i : ℕ) → i < count → (get_or shares i no_share).list.start + (get_or shares i no_share).list.size ≤ list_length

-- after k turns
pub record Turning (count : ℕ) (shares : List Share) (coefs : List ℤ) (quantum : ℕ) (r₀ : form.Round) (turns k : ℕ) (stack list : List ℕ)
    (progress : List Progress) (last : ℕ) : Type 0 where
  pub upto : k ≤ turns
  pub same : round_for stack list progress last ≡ after_turns k (schedule_for count shares coefs quantum) r₀
  pub stacks : length stack ≡ length r₀.stack
  pub lists : length list ≡ length r₀.list
  pub held : length progress ≡ 8

pub turning_begins : (count : ℕ) (shares : List Share) (coefs : List ℤ) (quantum turns : ℕ) (stack list : List ℕ) (progress : List Progress) (last : ℕ)
    → length progress ≡ 8 → Turning count shares coefs quantum (round_for stack list progress last) turns 0 stack list progress last
unfolding after_turns
turning_begins count shares coefs quantum turns stack list progress last h = record { upto = omega arith; same = refl; stacks = refl; lists = refl; held = h }

-- ---- a turn

-- what a call left goes to the round
abbrev left_by : form.Round → ℕ → machine.Outcome State → form.Round
left_by r i o =
    record {
      stack = o.state.stack;
      list = o.state.list;
      progress = put i (record { run = o.state.run; answer = some o.answer }) r.progress;
      last = suc i;
    }

stored_at : (progress : List Progress) (i : ℕ) (x : Progress) → i < length progress → (j : ℕ)
    → put i (progress_of x) (λ n. progress_of (get_or progress n no_progress)) j ≡ progress_of (get_or (set progress i x) j no_progress)
stored_at progress i x l j =
    elim (ℕ_discrete j i) [
      | yes e ↦ rw (e, eq-eqb i i refl) (ap progress_of (sym (get_or-set_same progress i x no_progress l)))
      | no ne ↦ rw (ne_eqb j i ne) (ap progress_of (sym (get_or-set_other progress i j x no_progress ne)))
    ]

stored : (stack list : List ℕ) (progress : List Progress) (last i : ℕ) (o : Outcome) (stack' list' : List ℕ) → i < length progress
    → left_by (round_for stack list progress last) i (outcome_of o stack' list') ≡ round_for stack' list' (set progress i (turned o)) (i + 1)
stored stack list progress last i o stack' list' l =
    rw (add-one i)
    (ap (λ (f : ℕ → form.Progress). record { stack = stack'; list = list'; progress = f; last = suc i }) (fun_ext (stored_at progress i (turned o) l)))

-- where a turn changes nothing, neither do more of them
after_idle : (d : Schedule) (r₀ r : form.Round) (k : ℕ) → r ≡ after_turns k d r₀ → serve d r ≡ r → (n : ℕ) → k ≤ n → after_turns n d r₀ ≡ r
unfolding after_turns
after_idle d r₀ r k e idle zero l = let z : k ≡ 0 = omega arith in sym (e ∙ ap (λ n. after_turns n d r₀) z)
after_idle d r₀ r k e idle (suc n) l =
    elim (ℕ_discrete k (suc n)) [
      | yes q ↦ sym (e ∙ ap (λ x. after_turns x d r₀) q)
      | no ne ↦ ap (serve d) (after_idle d r₀ r k e idle n (omega (arith, ne))) ∙ idle
    ]

module _ {count : ℕ} {shares : List Share} {coefs : List ℤ} {quantum : ℕ} {r₀ : form.Round} {turns k : ℕ} {stack list : List ℕ} {progress : List Progress}
    {last : ℕ} (t : Turning count shares coefs quantum r₀ turns k stack list progress last) where
  served_now : (o : Option ℕ) → next count (round_for stack list progress last) ≡ o
      → after_turns (suc k) (schedule_for count shares coefs quantum) r₀
      ≡ serve_run o (schedule_for count shares coefs quantum) (round_for stack list progress last)
  unfolding after_turns serve
  served_now o e = rw (← t.same, e)

  pub turning_more : {i : ℕ} → k < turns → i < 8 → next count (round_for stack list progress last) ≡ some i → (o : Outcome) {stack' list' : List ℕ}
      → outcome_of o stack' list'
      ≡ placed (get_or shares i no_share).stack (get_or shares i no_share).list stack list
      (resume quantum (input_for (get_or shares i no_share) coefs)
      (own_state (get_or shares i no_share).stack (get_or shares i no_share).list stack list (get_or progress i no_progress).run)) → length stack'
      ≡ length stack
      → length list' ≡ length list → Turning count shares coefs quantum r₀ turns (k + 1) stack' list' (set progress i (turned o)) (i + 1)
  unfolding leave_turn own
  turning_more {i} more l e o {stack'} {list'} h ls ll =
      record {
        upto = omega arith;
        same = rw (add-one k)
            (sym (served_now (some i) e ∙ ap (left_by (round_for stack list progress last) i) (sym h)
            ∙ stored stack list progress last i o stack' list' (omega (arith, t.held))));
        stacks = ls ∙ t.stacks;
        lists = ll ∙ t.lists;
        held = length-set progress i (turned o) ∙ t.held;
      }

  -- all turns were given
  pub turning_ends : turns ≤ k → round_for stack list progress last ≡ after_turns turns (schedule_for count shares coefs quantum) r₀
  turning_ends l = t.same ∙ ap (λ n. after_turns n (schedule_for count shares coefs quantum) r₀) (le_antisymm t.upto l)

  -- no run is left in the round
  pub turning_stops : next count (round_for stack list progress last) ≡ none
      → round_for stack list progress last ≡ after_turns turns (schedule_for count shares coefs quantum) r₀
  unfolding serve
  turning_stops e = sym (after_idle (schedule_for count shares coefs quantum) r₀ (round_for stack list progress last) k t.same (rw e) turns t.upto)
