-- Theorems about what specs/First.antt defines. Assumes nothing.
use Rattle.std.proofs.Common.{◌∙◌, ap, inl, inr, mul-le-mul_right, arith}
use Rattle.std.specs.Prelude.{◌≡◌, List, [], ◌*◌, ◌+◌, ◌<◌, ◌≤◌, suc, ℕ, get_or, length}
use Rattle.std.proofs.Math.Path.{refl}
use Rattle.definitions.specs.Answers.{go, refuse, refused, started}
use Rattle.definitions.specs.Machine.{checked, walk}
use Rattle.definitions.specs.Tables.{State, capacity}
use Rattle.laws.specs.CheckLaws.{FirstDue}
use Rattle.laws.proofs.CheckLaws.{check_cases}
use Rattle.laws.proofs.MachineLaws.{call_refused}
use Rattle.laws.proofs.TableLaws.{write_length, write_outside}
use Rattle.laws.proofs.Pack.{pack_beyond, pack_length}
use Rattle.theorems.proofs.CallAnswers.{goes_on, refused_there}
use Rattle.theorems.specs.WholeSteps.{Goes, call_keeps}
use Rattle.desk_spec.specs.Desks.{Desk, always, desk_begin, desk_grown, desk_level, desk_listed, desk_machine, desk_makes, desk_resume}
use Rattle.desk_spec.specs.Desks.{desk_resume_checks, desk_search_checks, desk_start, desk_start_checks, desk_step, desk_top, freed, generator_count, settled}
use Rattle.desk_spec.specs.Desks.{swept}
use Rattle.desk_spec.proofs.Rows.{all_counted}
use Rattle.desk_spec.specs.Rules.{desk_search_rules}
use Rattle.desk_spec.proofs.Rules.{search_renders}
use Rattle.desk_spec.specs.Valid.{DeskValid}
use Rattle.desk_spec.proofs.Valid.{freed_has, freed_of, resume_valid, search_going, settled_has, settled_valid, start_shaped, start_valid}
use Rattle.desk_spec.proofs.Valid.{step_has, step_valid, sweep_leaves, swept_of, valid_resume}
use Rattle.desk_spec.proofs.Frames.{freed_when, settled_when}
use Rattle.desk_spec.specs.Runs.{left}
use Rattle.desk_spec.proofs.Runs.{desk_ruled}
use Rattle.desk_spec.specs.Walk.{with_list}
use Rattle.desk_spec.proofs.Walk.{relisted_valid}
use Rattle.desk_spec.specs.First.{DeskLonger, DeskMarked, Kept, Leaves, Untouched, longer_table}

-- ---- the start

-- "a refusal not given within a walk changes nothing lent"
begin_refused : (d : Desk) (s : State) (n : ℕ) (values : List ℕ) → desk_start_checks d s ≡ refuse n values
    → desk_begin d s ≡ record { answer = refused n values; state = s }
unfolding desk_begin checked
begin_refused d s n values e = rw e

begin_goes : (d : Desk) (s : State) → desk_start_checks d s ≡ go → desk_begin d s ≡ record { answer = started; state = desk_start d s }
unfolding desk_begin checked
begin_goes d s e = rw e

-- ---- the record counts the steps

module _ (d : Desk) where
  listed_counts : (s : State) → (desk_listed d s).run.steps ≡ s.run.steps + 1
  unfolding desk_listed
  listed_counts s = refl

  grown_counts : (s : State) → (desk_grown d s).run.steps ≡ s.run.steps + 1
  unfolding desk_grown
  grown_counts s = refl

  pub step_counts : (s : State) → (desk_step d s).run.steps ≡ s.run.steps + 1
  step_counts s =
      step_has (λ t. t.run.steps ≡ s.run.steps + 1) d s (λ y. listed_counts (freed d s) ∙ ap (λ n. n + 1) (freed_of d s).steps) (λ n. grown_counts s)

  -- ---- a call that goes on leaves record and tables in order

  valid_keeps : (s : State) → DeskValid d s → Goes (desk_machine d) s → DeskValid d (desk_step d s)
  valid_keeps s v (h, f) = step_valid d s v (search_going d s v.ordered h f)

  pub left_valid : (budget : ℕ) (s : State) → desk_resume_checks d s ≡ go → DeskValid d (left budget d s)
  left_valid budget s e = call_keeps (desk_machine d) (DeskValid d) (settled_valid d) valid_keeps budget s (resume_valid d s e)

  pub left_goes : (budget : ℕ) (s : State) → desk_resume_checks d s ≡ go → desk_resume_checks d (left budget d s) ≡ go
  left_goes budget s e = valid_resume d (left budget d s) (left_valid budget s e)

-- ---- "after 11 a longer list table with the same rows may be given"

full_only : (d : Desk) (t : State) (list : List ℕ) → FirstDue (desk_search_rules d t) 11 [] → t.run.found < capacity d.q list
    → desk_search_checks d (with_list t list) ≡ go
full_only d t list (inl (n, v, e)) room = absurd (omega arith)
full_only d t list (inr (before, inl (n, v, (sol, full)))) room =
    (search_renders d (with_list t list)).silent
    (before, (λ (y, l). omega (arith, rw ((freed_when d (with_list t list)).1 room) at l), (λ (y, z). y.2 (sol y.0 y.1), tt)))
full_only d t list (inr (before, inr (full, inl (n, v, e)))) room = absurd (omega arith)
full_only d t list (inr (before, inr (full, inr (over, y)))) room = absurd y

-- the call then takes the step that it had no room for
pub longer_list : (d : Desk) (budget : ℕ) (s : State) → desk_resume_checks d s ≡ go → (desk_resume budget d s).answer ≡ refused 11 [] → (u : State)
    → DeskLonger d (left budget d s) u → (more : ℕ) → desk_resume (suc more) d u ≡ walk more (desk_machine d) (desk_step d u)
longer_list d budget s e a u (longer_table list same room) more =
    let t : State = left budget d s in
    let (h, f) = refused_there (desk_ruled d) budget s 11 [] e a in
    let v = relisted_valid d t list same (left_valid d budget s e) in
    let stays = (settled_when d (with_list t list)).1 h in
    let goes : Goes (desk_machine d) (settled d (with_list t list)) = rw stays (h, full_only d t list ((search_renders d t).refuses 11 [] f) room) in
    goes_on (desk_machine d) (with_list t list) (valid_resume d (with_list t list) v) goes more ∙ ap (λ x. walk more (desk_machine d) (desk_step d x)) stays

nothing_moved : (q : ℕ) (s : State) → Kept q s s
nothing_moved q s = record { stack_length = refl; above = λ e l. refl; list_length = refl; past = λ e l. refl }

pub swept_kept : (q : ℕ) (s : State) → Kept q s (swept q s)
swept_kept q s =
    let o = swept_of q s in
    record {
      stack_length = ap length o.stack;
      above = λ e l. ap (λ stack. get_or stack e 0) o.stack;
      list_length = o.length_same;
      past = (sweep_leaves q s).past;
    }

module _ (d : Desk) (s : State) where
  pub start_kept : Kept d.q s (desk_start d s)
  unfolding desk_start
  start_kept =
      record {
        stack_length = pack_length (d.q + 2) s.stack 0 always _ (generator_count d);
        above = λ e l. pack_beyond (d.q + 2) s.stack 0 always _ (generator_count d) e (rw (all_counted (generator_count d)) (omega arith));
        list_length = refl;
        past = λ e l. refl;
      }

  pub settled_kept : Kept d.q s (settled d s)
  settled_kept = settled_has (Kept d.q s) d s (swept_kept d.q s) (nothing_moved d.q s)

  freed_kept : Kept d.q s (freed d s)
  freed_kept = freed_has (Kept d.q s) d s (swept_kept d.q s) (nothing_moved d.q s)

  grown_kept : Kept d.q s (desk_grown d s)
  unfolding desk_grown
  grown_kept =
      record {
        stack_length = pack_length (d.q + 2) s.stack (desk_level s) (desk_makes d s) _ (generator_count d);
        above = λ e l. pack_beyond (d.q + 2) s.stack (desk_level s) (desk_makes d s) _ (generator_count d) e l;
        list_length = refl;
        past = λ e l. refl;
      }

listed_kept : (d : Desk) (s t : State) → t.stack ≡ s.stack → Kept d.q s t → Kept d.q s (desk_listed d t)
unfolding desk_listed
listed_kept d s t same k =
    record {
      stack_length = k.stack_length;
      above = λ e l. ap (λ stack. get_or stack e 0) same;
      list_length = write_length (desk_top d t) t.list (t.run.found * d.q) d.q ∙ k.list_length;
      past = λ e l. write_outside (desk_top d t) t.list (t.run.found * d.q) d.q e (inr (omega arith)) ∙ k.past e (omega arith);
    }

pub step_kept : (d : Desk) (s : State) → Kept d.q s (desk_step d s)
step_kept d s = step_has (Kept d.q s) d s (λ y. listed_kept d s (freed d s) (freed_of d s).stack (freed_kept d s)) (λ n. grown_kept d s)

untouched : (d : Desk) (s : State) → Untouched d s s
untouched d s = record { stack_length = refl; beyond = λ e l. refl; list_length = refl; rest = λ e l. refl }

-- what is kept on the way from t to u, whose record is in order, is untouched since s
still_untouched : (d : Desk) (s t u : State) → DeskValid d u → Kept d.q t u → Untouched d s t → Untouched d s u
still_untouched d s t u v k o =
    let size : length u.list ≡ length s.list = k.list_length ∙ o.list_length in
    let few : u.run.found ≤ capacity d.q s.list = rw size at v.ordered.found in
    record {
      stack_length = k.stack_length ∙ o.stack_length;
      beyond = λ e l. k.above e (omega (arith, mul-le-mul_right (d.q + 2) v.ordered.height)) ∙ o.beyond e l;
      list_length = size;
      rest = λ e l. k.past e (omega (arith, mul-le-mul_right d.q few)) ∙ o.rest e l;
    }

pub begin_untouched : (d : Desk) (s : State) → Untouched d s (desk_begin d s).state
begin_untouched d s =
    elim (check_cases (desk_start_checks d s)) [
      | inl e ↦ rw (begin_goes d s e) (still_untouched d s s (desk_start d s) (start_valid d s (start_shaped d s e)) (start_kept d s) (untouched d s))
      | inr (n, values, e) ↦ rw (begin_refused d s n values e) (untouched d s)
    ]

pub resume_untouched : (d : Desk) (budget : ℕ) (s : State) → Untouched d s (left budget d s)
resume_untouched d budget s =
    elim (check_cases (desk_resume_checks d s)) [
      | inl e ↦ (call_keeps (desk_machine d) (Leaves d s) settles steps budget s (record { valid = resume_valid d s e; alone = untouched d s })).alone
      | inr (n, values, e) ↦ rw ((call_refused (desk_machine d) s budget n values e).0, left) (untouched d s)
    ]
  where
    settles : (t : State) → Leaves d s t → Leaves d s (settled d t)
    settles t o = let v = settled_valid d t o.valid in record { valid = v; alone = still_untouched d s t (settled d t) v (settled_kept d t) o.alone }

    steps : (t : State) → Leaves d s t → Goes (desk_machine d) t → Leaves d s (desk_step d t)
    steps t o g = let v = valid_keeps d t o.valid g in record { valid = v; alone = still_untouched d s t (desk_step d t) v (step_kept d t) o.alone }

pub begin_marked : (d : Desk) (s : State) → desk_start_checks d s ≡ go → DeskMarked d (desk_begin d s).state
begin_marked d s e = rw (begin_goes d s e) (λ k l. ((start_valid d s (start_shaped d s e)).ordered.rows k l).marked)

pub resume_marked : (d : Desk) (budget : ℕ) (s : State) → desk_resume_checks d s ≡ go → DeskMarked d (left budget d s)
resume_marked d budget s e k l = ((left_valid d budget s e).ordered.rows k l).marked
