-- Theorems about what specs/CallRules.antt defines. Assumes nothing.
use Rattle.std.specs.Prelude.{◌≡◌, refl, Bool, true, false, cond, List, [], ℕ, suc, ◌+◌, ◌*◌, ◌≤◌, ◌<◌, ltb, ℤ, length}
use Rattle.std.proofs.Common.{inl, inr, arith}
use Rattle.linear.specs.Tests.{count_to}
use Rattle.definitions.specs.Answers.{Check, refuse, refused}
use Rattle.definitions.specs.Refusals.{step_limit}
use Rattle.definitions.specs.Tables.{State}
use Rattle.laws.proofs.CheckLaws.{check_cases}
use Rattle.theorems.proofs.Series.{unchanged_leaves}
use Rattle.theorems.specs.Series.{Lending, meanwhile}
use Rattle.engine_spec.specs.Base.{Base}
use Rattle.engine_spec.specs.CallAnswers.{turns_taken}
use Rattle.engine_spec.proofs.CallAnswers.{counted, engine_answers, longer_left, longer_on, refused_by, refuses_again, turn_taken}
use Rattle.engine_spec.specs.Calls.{checked, combine, combine_checks, resume, resume_checks, start_checks, start_from_checks, start_from_under, start_under}
use Rattle.engine_spec.specs.Calls.{take, take_checks}
use Rattle.engine_spec.specs.Engine.{Result, Work, combined, result, stays, taken, taken_fresh}
use Rattle.engine_spec.proofs.LentRows.{lent_silent}
use Rattle.engine_spec.proofs.Own.{own_calls}
use Rattle.engine_spec.specs.Promise.{RunsOn, after_combine, after_resume, after_take, lent_anew, with_tables}
use Rattle.engine_spec.proofs.Promise.{runs_whole}
use Rattle.engine_spec.specs.ReductionLaws.{SameRows}
use Rattle.engine_spec.specs.CallRules.{Pausing, combining, else_resumed, handed, lent, none, paused_there, taking}

-- ---- of the calls

module _ {base : Base} (p q : ℕ) (coefs : List ℤ) {most room : ℕ} {w : Work} (r : RunsOn base p q coefs most room w) (roomy : q ≤ most) where
  -- "the same call again refuses again", and so does one with any other budget: 12, 14 and 31 change nothing.
  pub again : (n budget : ℕ) → (resume p q most room budget w).answer ≡ refused n [] → (b : ℕ)
      → resume p q most room (suc b) (resume p q most room budget w).work ≡ result (refused n []) (resume p q most room budget w).work
  again n budget e b = refuses_again p q most room budget w (own_calls p q coefs r roomy) (own_calls p q coefs (after_resume r budget) roomy) n [] e b

  -- More room than there was changes nothing but what 31 is about: a later call with it goes on as one call with it from the beginning would have.
  pub longer : {most' room' : ℕ} → RunsOn base p q coefs most' room' w → most ≤ most' → room ≤ room' → (b c : ℕ)
      → resume p q most' room' c (resume p q most room b w).work ≡ resume p q most' room' (turns_taken p q most room b w + c) w
  longer {most'} {room'} r' wider higher b c =
      let e = own_calls p q coefs r roomy in
      let e' = own_calls p q coefs r' (omega arith) in
      let is = longer_left p q most room most' room' wider higher w b e e' in
      let f = own_calls p q coefs (after_resume r' (turns_taken p q most room b w)) (omega arith) in
      longer_on p q most room most' room' wider higher w b e e' (rw (← is) at f) c

  -- After 31 a call goes on in longer tables with the same rows: where there is room for the row that was refused, and in the basis for what the stage leaves,
  -- it takes the turn that was refused.
  pub after_31 : (b : ℕ) → (resume p q most room b w).answer ≡ refused 31 [] → let v = (resume p q most room b w).work in
      (most' room' : ℕ) (basis table : List ℕ) → SameRows q v.count v.basis basis → SameRows q v.stage.rows v.stage.table table
      → q ≤ most' → v.count ≤ most' → most' * q ≤ length basis → room' * q ≤ length table
      → v.stage.rows < room' → count_to v.stage.rows (stays q v) ≤ most'
      → (more : ℕ) → 0 < turns_taken p q most' room' (suc more) (with_tables v basis table)
  after_31 b a most' room' basis table same same' roomy' few long wide fits enough more =
      let v : Work = (resume p q most room b w).work in
      let (going, due) = refused_by p q most room b w (own_calls p q coefs r roomy) 31 [] a in
      let there = lent_anew (after_resume r b) most' room' basis table same same' few (omega arith) long wide in
      turn_taken p q most' room' (with_tables v basis table) (own_calls p q coefs there roomy') going
      (lent_silent q v basis table same same' most room most' room' due fits enough) more

combine_steps : (p q most room r s : ℕ) (u t : ℤ) (w : Work) → (combine p q most room r s u t w).work.stage.steps ≡ w.stage.steps
unfolding combine checked combined
combine_steps p q most room r s u t w =
    elim (check_cases (combine_checks p q most room r s u t w)) [ inl e ↦ rw e refl | inr (n, values, e) ↦ rw e refl ]

take_steps : (p q most room e f : ℕ) (w : Work) → (take p q most room e f w).work.stage.steps ≡ w.stage.steps
unfolding take checked taken taken_fresh
take_steps p q most room e f w =
    elim (check_cases (take_checks p q most room e f w)) [ inl g ↦ rw g (by (ltb f q)) | inr (n, values, g) ↦ rw g refl ]
  where
    by : (b : Bool) → (cond b (taken_fresh q e f w) (taken q e w)).stage.steps ≡ w.stage.steps
    by true = refl
    by false = refl

module _ (base : Base) (p q : ℕ) (coefs : List ℤ) where
  pausing_runs : {most room : ℕ} {w : Work} {sum : ℕ} → Pausing base p q coefs most room w sum → RunsOn base p q coefs most room w
  pausing_runs (none r) = r
  pausing_runs (paused_there x budget e l) = after_resume (pausing_runs x) budget
  pausing_runs (else_resumed x budget) = after_resume (pausing_runs x) budget
  pausing_runs (combining x r s u t) = after_combine (pausing_runs x) r s u t
  pausing_runs (taking x e f) = after_take (pausing_runs x) e f
  pausing_runs (lent x most' room' basis table same same' few fits long wide) = lent_anew (pausing_runs x) most' room' basis table same same' few fits long wide

  pausing_steps : {most room : ℕ} {w : Work} {sum : ℕ} → Pausing base p q coefs most room w sum → sum ≤ w.stage.steps
  pausing_steps (none r) = omega arith
  pausing_steps (paused_there {most} {room} {w} x budget e l) =
      elim ((engine_answers p q most room budget w).pauses.0 e).1 [
        | inl (rests, left) ↦ absurd (omega arith)
        | inr (going, all) ↦ omega (arith, counted p q most room budget w, pausing_steps x)
      ]
  pausing_steps (else_resumed {most} {room} {w} x budget) = omega (arith, counted p q most room budget w, pausing_steps x)
  pausing_steps (combining {most} {room} {w} x r s u t) = omega (arith, combine_steps p q most room r s u t w, pausing_steps x)
  pausing_steps (taking {most} {room} {w} x e f) = omega (arith, take_steps p q most room e f w, pausing_steps x)
  pausing_steps (lent x most' room' basis table same same' few fits long wide) = pausing_steps x

  -- They come to 1,000,000,000,000 at most: of calls whose budgets pass that, one has ended its stage or was refused.
  pub paused_within : {most room : ℕ} {w : Work} {sum : ℕ} → Pausing base p q coefs most room w sum → sum ≤ step_limit
  paused_within x = omega (arith, pausing_steps x, (runs_whole base p q coefs (pausing_runs x)).early)

-- ---- foreign calls of document 01's third demand

pub refused_checked : (c : Check) (w : Work) (f : Work → Result) (n : ℕ) (values : List ℕ) → c ≡ refuse n values → (checked c w f).work ≡ w
unfolding checked
refused_checked c w f n values e = rw e refl

-- a call of the engine that is refused before its work leaves a run of document 01 as it was, whatever of its tables and record it was handed
module _ (l : Lending Work) (s : State) (p q : ℕ) (n : ℕ) (values : List ℕ) where
  pub start_leaves : (cap : ℕ) (coefs : List ℤ) (most : ℕ) → start_checks p q coefs most (handed l s p q n values) ≡ refuse n values
      → meanwhile (λ w. (start_under cap p q coefs most w).work) l s ≡ s
  unfolding start_under
  start_leaves cap coefs most e = unchanged_leaves (λ w. (start_under cap p q coefs most w).work) l s (refused_checked _ (handed l s p q n values) _ n values e)

  pub start_from_leaves : (cap : ℕ) (coefs : List ℤ) (m : ℕ) (rows : List ℕ) (most : ℕ) → start_from_checks p q coefs m rows most (handed l s p q n values)
      ≡ refuse n values
      → meanwhile (λ w. (start_from_under cap p q coefs m rows most w).work) l s ≡ s
  unfolding start_from_under
  start_from_leaves cap coefs m rows most e =
      unchanged_leaves (λ w. (start_from_under cap p q coefs m rows most w).work) l s (refused_checked _ (handed l s p q n values) _ n values e)

  pub combine_leaves : (most room i k : ℕ) (u t : ℤ) → combine_checks p q most room i k u t (handed l s p q n values) ≡ refuse n values
      → meanwhile (λ w. (combine p q most room i k u t w).work) l s ≡ s
  unfolding combine
  combine_leaves most room i k u t e =
      unchanged_leaves (λ w. (combine p q most room i k u t w).work) l s (refused_checked _ (handed l s p q n values) _ n values e)

  pub take_leaves : (most room e f : ℕ) → take_checks p q most room e f (handed l s p q n values) ≡ refuse n values
      → meanwhile (λ w. (take p q most room e f w).work) l s ≡ s
  unfolding take
  take_leaves most room e f g = unchanged_leaves (λ w. (take p q most room e f w).work) l s (refused_checked _ (handed l s p q n values) _ n values g)

  pub refused_leaves : (most room budget : ℕ) → resume_checks p q most room (handed l s p q n values) ≡ refuse n values
      → meanwhile (λ w. (resume p q most room budget w).work) l s ≡ s
  unfolding resume
  refused_leaves most room budget e =
      unchanged_leaves (λ w. (resume p q most room budget w).work) l s (refused_checked _ (handed l s p q n values) _ n values e)
