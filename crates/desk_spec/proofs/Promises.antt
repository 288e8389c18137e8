-- Theorems about what specs/Promises.antt defines. Assumes nothing.
use Rattle.std.proofs.Common.{◌∙◌, ap, inl, inr, le_antisymm, arith}
use Rattle.std.specs.Prelude.{◌≡◌, refl, Bool, ◌&&◌, cond, false, not, true, ◌≢◌, List, [], ◌*◌, ◌+◌, ◌/◌, ◌<◌, ◌≤◌, max, ℕ, T, length, take}
use Rattle.linear.specs.Combinations.{Enumerates}
use Rattle.linear.proofs.Combinations.{met_each}
use Rattle.linear.proofs.TestLaws.{and_parts}
use Rattle.linear.specs.Tests.{count_to}
use Rattle.linear.specs.Tuples.{Same, total}
use Rattle.definitions.specs.Answers.{complete, go, refuse, refuse_if, refuse_with, refused}
use Rattle.definitions.specs.Calls.{resume}
use Rattle.definitions.specs.Input.{Input, input_of, system_of}
use Rattle.definitions.specs.Machine.{after}
use Rattle.definitions.specs.System.{MinimalSolution, System, coef, solves}
use Rattle.definitions.specs.Tables.{State, at}
use Rattle.laws.specs.CheckLaws.{FirstDue}
use Rattle.laws.proofs.CheckLaws.{refuse_not_go}
use Rattle.laws.proofs.MachineLaws.{call_walks, walk_done}
use Rattle.theorems.proofs.AnyRun.{Grounds, first_demand_of}
use Rattle.theorems.proofs.Proved.{second_demand}
use Rattle.theorems.specs.Link.{nonzero}
use Rattle.theorems.specs.Listed.{Exactly}
use Rattle.theorems.proofs.Listed.{enumerated, only_reads}
use Rattle.theorems.specs.Run.{Run}
use Rattle.theorems.proofs.Run.{run_sound}
use Rattle.theorems.specs.Series.{Lending, meanwhile}
use Rattle.theorems.proofs.Series.{unchanged_leaves}
use Rattle.theorems.proofs.StackRows.{each_step, rows_suffice}
use Rattle.linear.proofs.Loops.{MadeOfRows, made_of_loops}
use Rattle.desk_spec.specs.Desks.{Desk, deepest_limit, desk_begin, desk_grown, desk_in_order, desk_level, desk_listed, desk_machine, desk_makes, desk_resume}
use Rattle.desk_spec.specs.Desks.{desk_resume_checks, desk_resume_steps, desk_start_checks, desk_step, desk_top, desk_top_marks, freed}
use Rattle.desk_spec.specs.Desks.{generator_count, generators_in_order, second_group, settled}
use Rattle.desk_spec.specs.Rules.{DeskInOrder, desk_search_rules}
use Rattle.desk_spec.proofs.Rules.{order_from, resume_renders, start_renders}
use Rattle.desk_spec.proofs.Rows.{raises_free}
use Rattle.desk_spec.specs.Valid.{DeskValid}
use Rattle.desk_spec.proofs.Valid.{freed_of, resume_valid, search_going, settled_again, settled_done, settled_of, settled_valid}
use Rattle.desk_spec.proofs.Valid.{step_valid, sweep_leaves, valid_resume}
use Rattle.desk_spec.proofs.First.{begin_marked, begin_untouched, left_goes, longer_list, resume_marked}
use Rattle.desk_spec.proofs.First.{resume_untouched, settled_kept, start_kept, step_counts, step_kept}
use Rattle.desk_spec.proofs.Frames.{aside_kept, freed_when, settled_when, step_takes}
use Rattle.desk_spec.specs.Groups.{FirstGroup, both_groups, whole_system}
use Rattle.desk_spec.proofs.Groups.{handed_over}
use Rattle.desk_spec.specs.Runs.{DeskRun, continued, left}
use Rattle.desk_spec.proofs.Runs.{desk_answers, desk_ruled, left_swept, run_exactly, run_solutions, run_valid}
use Rattle.desk_spec.specs.Promises.{FirstDemandDesks, SameList, SecondDemand, WholeList, desk_terms}

silent_goes : (budget : ℕ) (d : Desk) (s : State) → (desk_resume budget d s).answer ≡ complete → desk_resume_checks d s ≡ go
silent_goes budget d s a = (resume_renders d s).silent ((desk_answers budget d s).completes.0 a).0

step_shows : (d : Desk) (s : State) → (desk_step d s).run.deepest ≡ max s.run.deepest (total (desk_top d s) d.q)
unfolding desk_step desk_listed desk_grown
step_shows d s = go (solves (second_group d) (desk_top d s))
  where
    go : (b : Bool) → (cond b (desk_listed d (freed d s)) (desk_grown d s)).run.deepest ≡ max s.run.deepest (total (desk_top d s) d.q)
    go true = let f = freed_of d s in rw (f.stack, f.height, f.deepest)
    go false = refl

grounds : (d : Desk) → Grounds (desk_machine d) (desk_terms d)
unfolding desk_begin
grounds d =
    record {
      start_is = λ s. refl;
      start_renders = start_renders d;
      ruled = desk_ruled d;
      steady = settled_again d;
      settles_steps = λ s. (settled_of d s).steps;
      step_steps = step_counts d;
      settles_deepest = λ s. (settled_of d s).deepest;
      step_deepest = step_shows d;
      goes_on = left_goes d;
      longer = longer_list d;
      start_untouched = begin_untouched d;
      untouched = resume_untouched d;
      start_marked = begin_marked d;
      marked = resume_marked d;
    }

pub first_demand_desks : (d : Desk) → FirstDemandDesks d
first_demand_desks d =
    record {
      calls = first_demand_of (desk_machine d) (desk_terms d) (grounds d);
      start_kept = start_kept d;
      step_kept = step_kept d;
      settled_kept = settled_kept d;
      takes = step_takes d;
      aside_kept = λ budget. aside_kept budget d;
      sweep = sweep_leaves;
      sweeps_done = settled_when d;
      sweeps_full = freed_when d;
      swept_before = λ budget s a. left_swept budget d s (silent_goes budget d s a) ((desk_answers budget d s).completes.0 a).1;
    }

pub second_demand_desks : (d : Desk) (g : FirstGroup d) (s : State) → DeskRun d s → SecondDemand d g s
second_demand_desks d g s r =
    let v = run_valid r in
    record {
      room = v.ordered.found;
      cut_short = λ some. run_solutions d g some r;
      finished = λ whole budget a. run_exactly d g whole r budget a;
      read = λ whole budget a. only_reads v.shaped.q_some v.shaped.q_few (run_exactly d g whole r budget a).part;
    }

-- a call of a desk that is refused before its walk, a start too, is a foreign call of the third demand (theorems/specs/Series): it leaves the run as it is
pub start_leaves : (l : Lending State) (d : Desk) (s : State) (n : ℕ) (values : List ℕ) → desk_start_checks d (l.handed s) ≡ refuse n values
    → meanwhile (λ t. (desk_begin d t).state) l s ≡ s
start_leaves l d s n values e =
    unchanged_leaves (λ t. (desk_begin d t).state) l s (ap (λ o. o.state) ((first_demand_desks d).calls.start_unchanged (l.handed s) n values e))

pub refused_leaves : (l : Lending State) (budget : ℕ) (d : Desk) (s : State) (n : ℕ) (values : List ℕ) → desk_resume_checks d (l.handed s) ≡ refuse n values
    → meanwhile (left budget d) l s ≡ s
refused_leaves l budget d s n values e =
    unchanged_leaves (left budget d) l s (ap (λ o. o.state) ((first_demand_desks d).calls.unchanged budget (l.handed s) n values e))

-- no continuing call of a run is refused before its walk: not by 6, nor by another of these numbers
pub own_calls : (d : Desk) (s : State) → DeskRun d s → desk_resume_checks d s ≡ go
own_calls d s r = valid_resume d s (run_valid r)

not_within : (d : Desk) (s : State) → FirstDue (desk_search_rules d s) 6 [] → ⊥
not_within d s (inl (n, v, e)) = omega arith
not_within d s (inr (a, inl (n, v, e))) = omega arith
not_within d s (inr (a, inr (b, inl (n, v, e)))) = omega arith
not_within d s (inr (a, inr (b, inr (c, y)))) = absurd y

pub never_six : (d : Desk) (s : State) → DeskRun d s → (budget : ℕ) → (desk_resume budget d s).answer ≢ refused 6 []
never_six d s r budget a =
    elim (((desk_answers budget d s).refuses 6 []).0 a) [
      | inl y ↦ refuse_not_go {n = 6} {values = []} (cc ((resume_renders d s).due 6 [] y, own_calls d s r))
      | inr (q, h, l, y) ↦ not_within d (left budget d s) y
    ]

-- after "complete" every own call answers so, takes no step and changes nothing
pub stays_complete : (d : Desk) (s : State) → DeskRun d s → (budget : ℕ) → (desk_resume budget d s).answer ≡ complete
    → (more : ℕ)
    → (desk_resume more d (left budget d s) ≡ record { answer = complete; state = left budget d s }) × (desk_resume_steps more d (left budget d s) ≡ 0)
stays_complete d s r budget a more =
    let t : State = left budget d s in
    let done = ((desk_answers budget d s).completes.0 a).1 in
    let same : settled d t ≡ t = settled_done d t done ∙ left_swept budget d s (own_calls d s r) done in
    let e = call_walks (desk_machine d) t more (own_calls d t (continued r budget)) in
    let w = walk_done (desk_machine d) t more (rw same done) in
    (e.0 ∙ rw same at w.0, e.1 ∙ w.1)

-- ---- the desks one after the other

-- "The first is a plain run": the rows listed by a complete one, handed over, are the first group's whole list
same_table : (q : ℕ) (W : (ℕ → ℕ) → Type 0) (generators part : List ℕ) → generators ≡ part → Enumerates q W (length part / q) (at part q)
    → Enumerates q W (length generators / q) (at generators q)
same_table q W generators part e h = rw e h

pub first_then_second : (d : Desk) (g : FirstGroup d) (s : State) → Run (input_of g.p d.q g.coefs) nonzero s → (budget : ℕ)
    → (resume budget (input_of g.p d.q g.coefs) s).answer ≡ complete
    → d.generators
    ≡ take ((resume budget (input_of g.p d.q g.coefs) s).state.run.found * d.q) (resume budget (input_of g.p d.q g.coefs) s).state.list
    → WholeList d g
first_then_second d g s r budget a e =
    let i : Input = input_of g.p d.q g.coefs in
    let t : State = (resume budget i s).state in
    same_table d.q _ d.generators _ e
    (handed_over (system_of i) t.list t.run.found (run_sound i r).valid.shaped.q_some ((second_demand.lists i s r).finished budget a))

-- More than two desks: the list of the first two, handed to the third, is the whole list of their equations; and so on, to any number of desks.
pub second_then_third : (d : Desk) (g : FirstGroup d) (s : State) → DeskRun d s → WholeList d g → (budget : ℕ) → (desk_resume budget d s).answer ≡ complete
    → (all : length d.coefs ≡ d.p * d.q) (e : Desk) (same : e.q ≡ d.q)
    → e.generators ≡ take ((left budget d s).run.found * d.q) (left budget d s).list
    → WholeList e (both_groups d g all e same)
second_then_third d g s r whole budget a all e same gens =
    let t : State = left budget d s in
    let h = handed_over (whole_system d g) t.list t.run.found (run_valid r).shaped.q_some ((second_demand_desks d g s r).finished whole budget a) in
    rw (← same) at (same_table d.q _ e.generators _ gens h)

-- ---- the same map in one run

-- two lists that hold each tuple of a set once and no other hold the same rows,
pub same_rows : {q : ℕ} {W : (ℕ → ℕ) → Type 0} {one other : List ℕ} {n m : ℕ} → Exactly q W one n → Exactly q W other m → (i : ℕ) → i < n
    → (k : ℕ) × (k < m) × Same q (at other q k) (at one q i)
same_rows {q} {one = one} x y i l = y.all (at one q i) (x.part.only i l)

no_more : {q : ℕ} {W : (ℕ → ℕ) → Type 0} {one other : List ℕ} {n m : ℕ} → Exactly q W one n → Exactly q W other m → n ≤ m
no_more {q} {one = one} {other = other} {n = n} {m = m} x y =
    met_each n m (λ i k. Same q (at other q k) (at one q i)) (λ i l. same_rows x y i l)
    (λ i j k ij jn e f. x.part.once i j ij jn (λ c cq. omega (arith, e c cq, f c cq)))

-- and as many of them
pub same_number : {q : ℕ} {W : (ℕ → ℕ) → Type 0} {one other : List ℕ} {n m : ℕ} → Exactly q W one n → Exactly q W other m → n ≡ m
same_number x y = le_antisymm (no_more x y) (no_more y x)

-- "the list of the whole map": a complete plain run on it lists what `SecondDemand` says of the run desk by desk
pub whole_run : (d : Desk) (g : FirstGroup d) (s : State) → Run (input_of (g.p + d.p) d.q (whole_system d g).coefs) nonzero s → (budget : ℕ)
    → (resume budget (input_of (g.p + d.p) d.q (whole_system d g).coefs) s).answer ≡ complete
    → Exactly d.q (MinimalSolution (whole_system d g)) (resume budget (input_of (g.p + d.p) d.q (whole_system d g).coefs) s).state.list
    (resume budget (input_of (g.p + d.p) d.q (whole_system d g).coefs) s).state.run.found
whole_run d g s r budget a = (second_demand.lists (input_of (g.p + d.p) d.q (whole_system d g).coefs) s r).finished budget a

-- "Solve the first group of equations, then let the second walk start from those loops and raise by them": a complete run of the first group, its list handed
-- over, and a complete run of the second desk from it; "a complete result is, as a set, the list of the whole map, each once": of any complete run on it
pub desk_after_desk : (d : Desk) (g : FirstGroup d) → let first = input_of g.p d.q g.coefs in let whole =
    input_of (g.p + d.p) d.q (whole_system d g).coefs in
    (s₁ : State) → Run first nonzero s₁ → (n₁ : ℕ) → (resume n₁ first s₁).answer ≡ complete
    → d.generators ≡ take ((resume n₁ first s₁).state.run.found * d.q) (resume n₁ first s₁).state.list
    → (s₂ : State) → DeskRun d s₂ → (n₂ : ℕ) → (desk_resume n₂ d s₂).answer ≡ complete
    → (s : State) → Run whole nonzero s → (n : ℕ) → (resume n whole s).answer ≡ complete
    → SameList d.q (left n₂ d s₂).list (left n₂ d s₂).run.found (resume n whole s).state.list (resume n whole s).state.run.found
desk_after_desk d g s₁ r₁ n₁ a₁ handed s₂ r₂ n₂ a₂ s r n a =
    let x = (second_demand_desks d g s₂ r₂).finished (first_then_second d g s₁ r₁ n₁ a₁ handed) n₂ a₂ in
    let y = whole_run d g s r n a in
    record { number = same_number x y; there = same_rows x y; back = same_rows y x }

-- ---- requests

-- Job 13: "each natural solution of the system, of any size, is a sum of listed rows with natural multiples, and no shorter list of solutions has that
-- property"
pub every_plan : (d : Desk) (g : FirstGroup d) (s : State) → DeskRun d s → WholeList d g → (budget : ℕ) → (desk_resume budget d s).answer ≡ complete
    → let m = whole_system d g in MadeOfRows m.p m.q (coef m) (left budget d s).run.found (at (left budget d s).list d.q)
every_plan d g s r whole budget a =
    let m : System = whole_system d g in
    let t : State = left budget d s in
    made_of_loops m.p m.q (coef m) t.run.found (at t.list d.q) (enumerated ((second_demand_desks d g s r).finished whole budget a))

-- Job 11: "from any run record that passes the check for 6, no step needs a row beyond the last one": by that check alone
passes_6 : (b : Bool) → refuse_if (not b) 6 ≡ go → T b
unfolding refuse_with
passes_6 true e = tt
passes_6 false e = absurd (refuse_not_go {n = 6} {values = []} e)

order_rows : (d : Desk) (s : State) → DeskInOrder d s → 0 < s.run.height → desk_level s + count_to (generator_count d) (desk_makes d s) ≤ generator_count d
order_rows d s o high =
    rows_suffice (generator_count d) (desk_level s) (desk_top_marks d s) (desk_makes d s) (o.rows (desk_level s) (omega arith)).marked
    (λ j l mj. raises_free d s.list s.run.found (desk_top d s) (desk_top_marks d s) j mj)

pub desk_rows : (d : Desk) (s : State) → refuse_if (not (generators_in_order d && desk_in_order d s)) 6 ≡ go → 0 < s.run.height
    → desk_level s + count_to (generator_count d) (desk_makes d s) ≤ generator_count d
desk_rows d s e high =
    let (handed, ordered) = and_parts (generators_in_order d) (desk_in_order d s) (passes_6 (generators_in_order d && desk_in_order d s) e) in
    order_rows d s (order_from d s ordered) high

-- and each step of a continuing call
pub desk_call_rows : (budget : ℕ) (d : Desk) (s : State) (n : ℕ) → n < desk_resume_steps budget d s → let t = after n (desk_machine d) s in
    desk_level t + count_to (generator_count d) (desk_makes d t) ≤ generator_count d
desk_call_rows budget d s n l =
    let (v, (h, f)) = each_step (desk_machine d) (DeskValid d) (resume_valid d) (settled_valid d)
    (λ t v (h, f). step_valid d t v (search_going d t v.ordered h f)) budget s n l in
    order_rows d (after n (desk_machine d) s) v.ordered h

-- Job 6: the number shown stays within what refusal 6 allows
pub deepest_fits : (d : Desk) (s : State) → DeskRun d s → s.run.deepest ≤ deepest_limit
deepest_fits d s r = (run_valid r).ordered.shallow
