-- The user's first sentence, for the engine: a map built one group of equations after the other, loaded as a whole, or walked to the end has one list. Open
-- this file after Kinds.antt. Assumes nothing.
use Rattle.std.specs.Prelude.{◌≡◌, List, ◌++◌, ℕ, ◌+◌, ◌*◌, ◌≤◌, ◌<◌, T, ℤ, length}
use Rattle.std.proofs.Common.{sym, ◌∙◌, arith}
use Rattle.linear.specs.Combinations.{Enumerates}
use Rattle.linear.specs.Systems.{Solution, SolutionIn}
use Rattle.linear.specs.Tuples.{Nonzero, Same}
use Rattle.definitions.specs.Answers.{complete, started}
use Rattle.definitions.specs.Calls as walk
use Rattle.definitions.specs.Input.{input_of}
use Rattle.definitions.specs.System.{MinimalSolution}
use Rattle.definitions.specs.Tables.{State, at, frozen}
use Rattle.theorems.proofs.Proved.{second_demand}
use Rattle.theorems.specs.Link.{nonzero}
use Rattle.theorems.specs.Listed.{Exactly}
use Rattle.theorems.proofs.Listed.{enumerated}
use Rattle.theorems.specs.Run.{Run}
use Rattle.linear.proofs.Loops.{Loop, MadeOfRows, made_of_loops}
use Rattle.desk_spec.specs.Desks.{desk_resume}
use Rattle.desk_spec.proofs.Groups.{handed_over}
use Rattle.desk_spec.specs.Promises.{SameList}
use Rattle.desk_spec.proofs.Promises.{second_demand_desks}
use Rattle.desk_spec.specs.Runs.{DeskRun, left}
use Rattle.desk_spec.proofs.Runs.{run_valid}
use Rattle.engine_spec.specs.Calls.{resume, start_from}
use Rattle.engine_spec.specs.Done.{among}
use Rattle.engine_spec.proofs.Done.{done_solved, solved_done}
use Rattle.engine_spec.specs.Engine.{Work, basis_row, system, system_of}
use Rattle.engine_spec.proofs.Operations.{value_alike}
use Rattle.engine_spec.specs.Promise.{Runs, RunsOn, after_start_from}
use Rattle.engine_spec.proofs.Promise.{run_members}
use Rattle.engine_spec.specs.Kinds.{before, desk_from}
use Rattle.engine_spec.proofs.KindsTheorems.{both_groups, from_list, same_list, solution_alike}
use Rattle.engine_spec.specs.Promises.{map_of}
use Rattle.engine_spec.proofs.Promises.{complete_exactly}
use Rattle.engine_spec.proofs.Sides.{minimal_alike, minimal_as}

-- ---- maps with the same solutions

pub record SameSolutions (q p : ℕ) (coefs : List ℤ) (p' : ℕ) (coefs' : List ℤ) : Type 0 where
  pub there : (t : ℕ → ℕ) → Solution p q (system_of q coefs) t → Solution p' q (system_of q coefs') t
  pub back : (t : ℕ → ℕ) → Solution p' q (system_of q coefs') t → Solution p q (system_of q coefs) t

wanted_as : {p p' q : ℕ} {a a' : ℕ → ℕ → ℤ} → ((t : ℕ → ℕ) → Solution p q a t → Solution p' q a' t) → (t : ℕ → ℕ) → SolutionIn p q a (Nonzero q) t
    → SolutionIn p' q a' (Nonzero q) t
wanted_as f t w = record { solution = f t w.solution; admitted = w.admitted }

loop_as : {p p' q : ℕ} {a a' : ℕ → ℕ → ℤ} → ((t : ℕ → ℕ) → Solution p q a t → Solution p' q a' t) → ((t : ℕ → ℕ) → Solution p' q a' t → Solution p q a t)
    → (t : ℕ → ℕ) → Loop p q a t → Loop p' q a' t
loop_as f g t m = minimal_as (wanted_as f) (wanted_as g) m

pub exchanged : (q p : ℕ) (coefs : List ℤ) (p' : ℕ) (coefs' : List ℤ) → length coefs ≡ p * q → length coefs' ≡ p' * q
    → SameSolutions q (p + p') (coefs ++ coefs') (p' + p) (coefs' ++ coefs)
exchanged q p coefs p' coefs' n n' =
    let one = both_groups q p coefs p' coefs' n in
    let other = both_groups q p' coefs' p coefs n' in
    record {
      there = λ t s. let (a, b) = (one t).0 s in (other t).1 b a;
      back = λ t s. let (a, b) = (other t).0 s in (one t).1 b a;
    }

-- ---- however a list was made

-- A list of the minimal solutions of a map of q unknowns: walked to the end (document 01); loaded as a whole by the engine; or one group of equations after the
-- other, each from the list of those before it, in any grouping: by Job 10's desk, or by the engine's start from a list.
pub data Made (q : ℕ) : (p : ℕ) → List ℤ → List ℕ → ℕ → Type 0 where
  walked : (p : ℕ) (coefs : List ℤ) (s : State) → Run (input_of p q coefs) nonzero s → (budget : ℕ) → (walk.resume budget (input_of p q coefs) s).answer
      ≡ complete
      → Made q p coefs (walk.resume budget (input_of p q coefs) s).state.list (walk.resume budget (input_of p q coefs) s).state.run.found
  loaded : (p : ℕ) (coefs : List ℤ) {most room : ℕ} {w : Work} → Runs p q coefs most room w → (budget : ℕ)
      → (resume p q most room budget w).answer ≡ complete
      → Made q p coefs (resume p q most room budget w).work.basis (resume p q most room budget w).work.count
  by_desk : {p : ℕ} {coefs : List ℤ} {list : List ℕ} {n : ℕ} → Made q p coefs list n → length coefs ≡ p * q → (p' : ℕ) (coefs' : List ℤ)
      → (s : State) → DeskRun (desk_from p' q coefs' n list) s → (budget : ℕ) → (desk_resume budget (desk_from p' q coefs' n list) s).answer ≡ complete
      → Made q (p + p') (coefs ++ coefs') (left budget (desk_from p' q coefs' n list) s).list (left budget (desk_from p' q coefs' n list) s).run.found
  further : (p : ℕ) (coefs : List ℤ) → length coefs ≡ p * q → (p' : ℕ) (coefs' : List ℤ) {most room : ℕ} {w : Work}
      → RunsOn (before p q coefs) p' q coefs' most room w → (budget : ℕ) → (resume p' q most room budget w).answer ≡ complete
      → Made q (p + p') (coefs ++ coefs') (resume p' q most room budget w).work.basis (resume p' q most room budget w).work.count

-- it is exactly the minimal solutions of the map, each once
pub made_exactly : {q p : ℕ} {coefs : List ℤ} {list : List ℕ} {n : ℕ} → Made q p coefs list n → Exactly q (MinimalSolution (map_of p q coefs)) list n
made_exactly {q} (walked p coefs s r budget a) = (second_demand.lists (input_of p q coefs) s r).finished budget a
made_exactly {q} (loaded p coefs r budget a) = complete_exactly p q coefs r budget a
made_exactly {q} (by_desk {p} {coefs} {list} {n} m numbers p' coefs' s r budget a) =
    (second_demand_desks (desk_from p' q coefs' n list) (record { p = p; coefs = coefs; numbers = numbers }) s r).finished
    (handed_over (map_of p q coefs) list n (run_valid r).shaped.q_some (made_exactly m)) budget a
made_exactly {q} (further p coefs numbers p' coefs' r budget a) = from_list p q coefs numbers p' coefs' r budget a

-- The engine's start from a list made so, in any table that holds its rows: the run that it begins is one from the whole list of the equations before.
pub handed_on : {q p : ℕ} {coefs : List ℤ} {list : List ℕ} {n : ℕ} → Made q p coefs list n → (rows : List ℕ)
    → ((i : ℕ) → i < n → Same q (at rows q i) (at list q i)) → (p' : ℕ) (coefs' : List ℤ) (most room : ℕ) (w : Work) → most * q ≤ length w.basis
    → room * q ≤ length w.stage.table → (start_from p' q coefs' n rows most w).answer ≡ started
    → RunsOn (before p q coefs) p' q coefs' most room (start_from p' q coefs' n rows most w).work
handed_on {q} {p} {coefs} {list} {n} m rows same p' coefs' most room w long wide e =
    let x = made_exactly m in
    after_start_from n rows most room w (record {
      only = λ i l. minimal_alike q (solution_alike p q (system_of q coefs)) (at list q i) (at rows q i) (λ j jq. sym (same i l j jq)) (x.part.only i l);
      once = λ i j ij jn g. x.part.once i j ij jn (λ k kq. omega (arith, g k kq, same i (omega arith) k kq, same j jn k kq));
      all = λ t b. let (i, l, g) = x.all t b in (i, l, λ j jq. same i l j jq ∙ g j jq);
    }) long wide e

-- The user's first sentence: of two maps with the same solutions, however either list was made, the lists hold the same rows, as many, each row of either in
-- the other.
pub one_list : {q p p' : ℕ} {coefs coefs' : List ℤ} → SameSolutions q p coefs p' coefs' → {one other : List ℕ} {n m : ℕ} → Made q p coefs one n
    → Made q p' coefs' other m → SameList q one n other m
one_list {q} {p} {p'} {coefs} {coefs'} same {other = other} {m = m} x y =
    let e = made_exactly x in
    let f = made_exactly y in
    let g : Exactly q (MinimalSolution (map_of p q coefs)) other m = record {
      part = record { room = f.part.room; only = λ i l. loop_as same.back same.there _ (f.part.only i l); once = f.part.once };
      all = λ t b. f.all t (loop_as same.there same.back t b);
    } in
    same_list e g

-- of one map
pub one_map : {q p : ℕ} {coefs : List ℤ} {one other : List ℕ} {n m : ℕ} → Made q p coefs one n → Made q p coefs other m → SameList q one n other m
one_map x y = one_list (record { there = λ t s. s; back = λ t s. s }) x y

-- Every plan is made of the rows, and no shorter list of solutions does (document 02, Job 13).
pub made_plans : {q p : ℕ} {coefs : List ℤ} {list : List ℕ} {n : ℕ} → Made q p coefs list n → MadeOfRows p q (system_of q coefs) n (at list q)
made_plans {q} {p} {coefs} {list} {n} m = made_of_loops p q (system_of q coefs) n (at list q) (enumerated (made_exactly m))

-- ---- between two groups

-- A run of the engine on the whole map, whose equations done are the first p₁ ones and are as the map has them: between two stages its basis is the list of the
-- first group, each minimal solution once.
pub first_group : (p q : ℕ) (coefs : List ℤ) {most room : ℕ} {w : Work} → Runs p q coefs most room w → w.equation ≡ p → (p₁ : ℕ) → p₁ ≤ p
    → ((i : ℕ) → i < p₁ → T (frozen w.done i)) → ((i : ℕ) → i < p → T (frozen w.done i) → i < p₁)
    → ((i j : ℕ) → i < p₁ → j < q → system q w i j ≡ system_of q coefs i j) → Enumerates q (Loop p₁ q (system_of q coefs)) w.count (basis_row q w)
first_group p q coefs {w = w} r rests p₁ low done only untouched =
    let e = run_members p q coefs r rests in
    record { only = λ i l. loop_as there back _ (e.only i l); once = e.once; all = λ t b. e.all t (loop_as back there t b) }
  where
    there : (t : ℕ → ℕ) → Solution p q (among w.done (system q w)) t → Solution p₁ q (system_of q coefs) t
    there t s i l = sym (value_alike q t (λ j jq. untouched i j l jq)) ∙ done_solved p q (system q w) w.done t s i (omega arith) (done i l)

    back : (t : ℕ → ℕ) → Solution p₁ q (system_of q coefs) t → Solution p q (among w.done (system q w)) t
    back t s = solved_done p q (system q w) w.done t (λ i l h. let k = only i l h in value_alike q t (λ j jq. untouched i j k jq) ∙ s i k)
