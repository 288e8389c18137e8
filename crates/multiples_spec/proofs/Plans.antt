-- EVERY PLAN IS MADE OF LOOPS (document 02, Job 13), under its words: "Trainers teach that any count that restores the trays is some listed loops, repeated." A
-- count that restores the trays is a natural solution of the system, a loop a minimal one. The theorem first; then that the call which takes a plan apart
-- (`decomposed` of crate `multiples_spec`, with which the code's contract equates its answer) finds the multiples. Assumes nothing.
use Rattle.std.specs.Prelude.{ℕ, ◌-◌, ◌≤◌, ◌<◌, Bool, true, false, List, ◌≢◌, ◌⊎◌, ◌≡◌, refl, T, leb, ℤ, get_or, length}
use Rattle.std.proofs.Common.{inl, inr, sym, ◌∙◌, ap, subst, arith, leb→le, le→leb}
use Rattle.std.proofs.Math.Decide.{ℕ_discrete}
use Rattle.linear.proofs.Cases.{split}
use Rattle.linear.specs.Combinations.{combined}
use Rattle.linear.proofs.Combinations.{combined_solves, found_below, rest_solves, solution_same}
use Rattle.linear.specs.Systems.{Solution, SolutionIn}
use Rattle.linear.proofs.TupleLaws.{term_le_total, total_some}
use Rattle.linear.specs.Tuples.{Nonzero, total}
use Rattle.definitions.specs.Answers.{complete}
use Rattle.definitions.specs.Calls.{resume}
use Rattle.definitions.specs.Input.{Input, alone, input_of, input_with, map_of, rights, system_of}
use Rattle.definitions.specs.Refusals.{Sizes}
use Rattle.definitions.specs.System.{MinimalSolution, System, coef}
use Rattle.definitions.specs.Tables.{State, at}
use Rattle.laws.specs.CheckLaws.{AllSilent}
use Rattle.laws.specs.ReasonLaws.{reason_rules}
use Rattle.laws.proofs.ReasonLaws.{reason_askable, reason_renders}
use Rattle.theorems.proofs.Proved.{second_demand}
use Rattle.theorems.specs.Link.{nonzero, up_to_one}
use Rattle.theorems.specs.Listed.{Exactly}
use Rattle.theorems.proofs.Listed.{enumerated}
use Rattle.theorems.specs.Run.{Run}
use Rattle.linear.proofs.Loops.{MadeOfRows, made_of_loops}
use Rattle.seat_spec.proofs.Promises.{training_promise}
use Rattle.seat_spec.specs.SeatRuns.{SeatRun}
use Rattle.seat_spec.specs.Training.{seat_input, seat_resume}
use Rattle.multiples_spec.proofs.AnswerLaws.{Apart, Way, apart, due, goes_one_way, never_due, off_fails, solved, uneven}
use Rattle.multiples_spec.specs.Parts.{Outcome, decomposed_within, if_space, made, no_space, off, refused, taken_apart, unlisted}
use Rattle.multiples_spec.proofs.PartsLaws.{Small}

abbrev system : (p q : ℕ) (coefs : List ℤ) → System
system p q coefs = system_of (input_of p q coefs)

-- ---- the theorem

-- of every list that holds each minimal solution once and nothing else
pub list_made : (m : System) (list : List ℕ) (found : ℕ) → Exactly m.q (MinimalSolution m) list found
    → MadeOfRows m.p m.q (coef m) found (at list m.q)
list_made m list found e = made_of_loops m.p m.q (coef m) found (at list m.q) (enumerated e)

-- "after a complete plain run whose map, tables and record nobody else altered, each natural solution of the system, of any size, is a sum of listed
-- rows with natural multiples, and no shorter list of solutions has that property.": under any limit of components
pub every_plan : (limit p q : ℕ) (coefs : List ℤ) (s : State) → let i = input_with alone limit p q coefs in Run i nonzero s → (budget : ℕ)
    → (resume budget i s).answer ≡ complete
    → MadeOfRows p q (coef (map_of i)) (resume budget i s).state.run.found (at (resume budget i s).state.list q)
every_plan limit p q coefs s r budget c =
    let i = input_with alone limit p q coefs in
    let end = (resume budget i s).state in
    list_made (map_of i) end.list end.run.found ((second_demand.lists i s r).finished budget c)

-- so after a complete run of the training seat (Job 9)
pub every_plan_at_the_seat : (p q : ℕ) (coefs : List ℤ) (s : State) → SeatRun p q coefs s → (budget : ℕ) → let i = seat_input p q coefs in let o =
    seat_resume budget i s in
    o.answer ≡ complete → MadeOfRows p q (coef (map_of i)) o.state.run.found (at o.state.list q)
every_plan_at_the_seat p q coefs s r budget c =
    let i = seat_input p q coefs in
    let end = (seat_resume budget i s).state in
    list_made (map_of i) end.list end.run.found ((training_promise p q coefs).finished s r budget c)

-- "The list of loops from Job 1 is included.": the list at 0 of a complete run with right sides
pub every_plan_at_0 : (limit p q : ℕ) (coefs b : List ℤ) (s : State) → let i =
    input_with (rights b) limit p q coefs in Run i up_to_one s → (budget : ℕ) → (resume budget i s).answer ≡ complete
    → MadeOfRows p q (coef (map_of i)) (resume budget i s).state.run.found (at (resume budget i s).state.list q)
every_plan_at_0 limit p q coefs b s r budget c =
    let i = input_with (rights b) limit p q coefs in
    let end = (resume budget i s).state in
    list_made (map_of i) end.list end.run.found ((second_demand.lists i s r).finished budget c).0

-- ---- the call

-- the rows, as often as the table of multiples says, add up to the tuple
abbrev pub AddUp : (q found : ℕ) (list t times : List ℕ) → Type 0
AddUp q found list t times = (j : ℕ) → j < q → get_or t j 0 ≡ combined found (λ i. get_or times i 0) (at list q) j

enough : (b : Bool) (times : List ℕ) (o : Outcome) → T b → if_space b times o ≡ o
unfolding if_space
enough true times o y = refl
enough false times o y = absurd y

short : (b : Bool) (times : List ℕ) (o : Outcome) → ((if_space b times o).answer ≡ no_space) ⊎ (T b)
unfolding if_space
short true times o = inr tt
short false times o = inl refl

too_short : (b : Bool) (times : List ℕ) (o : Outcome) → ¬ (T b) → if_space b times o ≡ record { answer = no_space; times = times }
unfolding if_space
too_short true times o n = absurd (n tt)
too_short false times o n = refl

module _ (most : Sizes) (p q : ℕ) (coefs : List ℤ) (list : List ℕ) (found : ℕ) (t times : List ℕ) where
  abbrev i : Input
  i = input_of p q coefs

  abbrev m : System
  m = system p q coefs

  abbrev row : ℕ → ℕ → ℕ
  row = at list q

  abbrev x : ℕ → ℕ
  x j = get_or t j 0

  abbrev o : Outcome
  o = decomposed_within most i list found t times

  small : AllSilent (reason_rules most i list found t) → Small q x
  small silent j l =
      let a = reason_askable most i list found t ((reason_renders most i list found t).silent silent) in
      a.small j (omega (arith, a.tuple))

  -- where there is a place for each row, a solution is taken apart
  with_space : AllSilent (reason_rules most i list found t) → o ≡ if_space (leb found (length times)) times (taken_apart q found row x times)
      → found ≤ length times → Apart q found row x times o
  with_space silent e space =
      let same = e ∙ enough (leb found (length times)) times (taken_apart q found row x times) (le→leb found (length times) space) in
      subst (Apart q found row x times) (sym same) (apart q found row x times (small silent) space)

  -- what is left of a solution is one
  left_solves : ((k : ℕ) → k < found → Solution p q (coef m) (row k)) → Solution p q (coef m) x → (a : Apart q found row x times o)
      → Solution p q (coef m) a.left
  left_solves rows s a =
      let sum : ℕ → ℕ = combined found (λ k. get_or o.times k 0) row in
      solution_same p q (coef m) {s = λ j. x j - sum j} {t = a.left} (λ j l. omega (arith, a.adds_up j l))
      (rest_solves p q (coef m) sum x (λ j l. omega (arith, a.adds_up j l)) (combined_solves p q found (coef m) (λ k. get_or o.times k 0) row rows) s)

  -- and where the list is the basis, it is zero: otherwise a listed row would lie at or below it
  all_taken : Exactly q (MinimalSolution m) list found → Solution p q (coef m) x → (a : Apart q found row x times o) → (j : ℕ) → j < q → a.left j ≡ 0
  all_taken e s a j l =
      elim (ℕ_discrete (total a.left q) 0) [
        | yes z ↦ omega (arith, term_le_total a.left q j l)
        | no ne ↦
            let rest : SolutionIn p q (coef m) (Nonzero q) a.left =
            record { solution = left_solves (λ k h. (e.part.only k h).holds.solution) s a; admitted = total_some a.left q ne } in
            let (k, h, below) = found_below q (SolutionIn p q (coef m) (Nonzero q)) found row e.all a.left rest in
            absurd (a.none_below k h (e.part.only k h).holds.admitted below)
      ]

  -- the way it went, where the answer is neither a refusal nor an equation that is off: the tuple is a solution
  went : {P : Type 0} → ((n : ℕ) (values : List ℕ) → o.answer ≢ refused n values) → ((k : ℕ) (amount : ℤ) → o.answer ≢ off k amount) → (o.answer ≢ no_space)
      → (Solution p q (coef m) x → Apart q found row x times o → P) → P
  went {P} not_refused not-off some then-so = of (goes_one_way most i list found t times)
    where
      of : Way most i list found t times → P
      of (due n values d e) = absurd (not_refused n values (ap (λ y. y.answer) e))
      of (uneven silent k amount d e) = absurd (not-off k amount (ap (λ y. y.answer) e))
      of (solved silent s e) =
          elim (short (leb found (length times)) times (taken_apart q found row x times)) [
            | inl f ↦ absurd (some (ap (λ y. y.answer) e ∙ f))
            | inr y ↦ then-so s (with_space silent e (leb→le found (length times) y))
          ]

  -- for any list: "made" means that the rows add up to the tuple
  made_adds_up : o.answer ≡ made → AddUp q found list t o.times
  made_adds_up c =
      went (λ n values e. clash (sym c ∙ e)) (λ k amount e. clash_off (sym c ∙ e)) (λ e. clash_space (sym c ∙ e))
      (λ s a j l. omega (arith, a.adds_up j l, a.whole c j l))
    where
      clash : {n : ℕ} {values : List ℕ} → made ≡ refused n values → ⊥
      clash e = let z : ◌≡◌ {A = ℕ} 0 1 = cc in omega arith

      clash_off : {k : ℕ} {amount : ℤ} → made ≡ off k amount → ⊥
      clash_off e = let z : ◌≡◌ {A = ℕ} 0 1 = cc in omega arith

      clash_space : made ≡ no_space → ⊥
      clash_space e = let z : ◌≡◌ {A = ℕ} 0 1 = cc in omega arith

  -- a solution that is not refused, and a table that has no place for each row
  abbrev pub NoPlace : Type 0
  NoPlace = AllSilent (reason_rules most i list found t) × Solution p q (coef m) x × (length times < found)

  space_due : o.answer ≡ no_space → NoPlace
  space_due c = of (goes_one_way most i list found t times)
    where
      clash : {n : ℕ} {values : List ℕ} → no_space ≡ refused n values → ⊥
      clash e = let z : ◌≡◌ {A = ℕ} 0 1 = cc in omega arith

      clash_off : {k : ℕ} {amount : ℤ} → no_space ≡ off k amount → ⊥
      clash_off e = let z : ◌≡◌ {A = ℕ} 0 1 = cc in omega arith

      clash_made : no_space ≡ made → ⊥
      clash_made e = let z : ◌≡◌ {A = ℕ} 0 1 = cc in omega arith

      clash_unlisted : no_space ≡ unlisted → ⊥
      clash_unlisted e = let z : ◌≡◌ {A = ℕ} 0 1 = cc in omega arith

      of : Way most i list found t times → NoPlace
      of (due n values d e) = absurd (clash (sym c ∙ ap (λ y. y.answer) e))
      of (uneven silent k amount d e) = absurd (clash_off (sym c ∙ ap (λ y. y.answer) e))
      of (solved silent s e) =
          elim (split (length times) found) [
            | inl l ↦ (silent, s, l)
            | inr space ↦ elim (with_space silent e space).answers [ inl f ↦ absurd (clash_made (sym c ∙ f)) | inr f ↦ absurd (clash_unlisted (sym c ∙ f)) ]
          ]

  due_space : NoPlace → o ≡ record { answer = no_space; times = times }
  due_space (silent, s, l) = of (goes_one_way most i list found t times)
    where
      of : Way most i list found t times → o ≡ record { answer = no_space; times = times }
      of (due n values d e) = absurd (never_due most i list found t silent d)
      of (uneven silent k amount d e) = absurd (off_fails m found row x d s)
      of (solved silent s e) =
          e ∙ too_short (leb found (length times)) times (taken_apart q found row x times) (λ h. omega (arith, leb→le found (length times) h))

  module _ (e : Exactly q (MinimalSolution m) list found) where
    -- a solution that is not refused is taken apart
    taken : AllSilent (reason_rules most i list found t) → Solution p q (coef m) x → found ≤ length times → o.answer ≡ made
    taken silent s space = of (goes_one_way most i list found t times)
      where
        of : Way most i list found t times → o.answer ≡ made
        of (due n values d f) = absurd (never_due most i list found t silent d)
        of (uneven silent k amount d f) = absurd (off_fails m found row x d s)
        of (solved silent s f) = let a = with_space silent f space in a.wholly (all_taken e s a)

    never : o.answer ≢ unlisted
    never c =
        went (λ n values f. clash (sym c ∙ f)) (λ k amount f. clash_off (sym c ∙ f)) (λ f. clash_space (sym c ∙ f))
        (λ s a. clash_made (sym c ∙ a.wholly (all_taken e s a)))
      where
        clash : {n : ℕ} {values : List ℕ} → unlisted ≡ refused n values → ⊥
        clash e = let z : ◌≡◌ {A = ℕ} 0 1 = cc in omega arith

        clash_off : {k : ℕ} {amount : ℤ} → unlisted ≡ off k amount → ⊥
        clash_off e = let z : ◌≡◌ {A = ℕ} 0 1 = cc in omega arith

        clash_space : unlisted ≡ no_space → ⊥
        clash_space e = let z : ◌≡◌ {A = ℕ} 0 1 = cc in omega arith

        clash_made : unlisted ≡ made → ⊥
        clash_made e = let z : ◌≡◌ {A = ℕ} 0 1 = cc in omega arith

-- the call that takes a plan apart, in the same order: a refusal of Job 8's, an equation that is off, and else the multiples; whatever the most
-- equations and unknowns are, document 02's 8 and 16 among them
pub record PlanPromise : Type 0 where
  -- every call goes one way of three: `Way` says which, and with what answer
  pub ways : (most : Sizes) (i : Input) (list : List ℕ) (found : ℕ) (t times : List ℕ) → Way most i list found t times
  -- "made" means that the rows, as often as the table says, add up to the tuple, whatever the list holds
  pub sums : (most : Sizes) (p q : ℕ) (coefs : List ℤ) (list : List ℕ) (found : ℕ) (t times : List ℕ)
      → (decomposed_within most (input_of p q coefs) list found t times).answer ≡ made
      → AddUp q found list t (decomposed_within most (input_of p q coefs) list found t times).times
  -- 29, "output space too short", is given last: of a solution that is not refused, where there is no place for a multiple of each row
  pub space : (most : Sizes) (p q : ℕ) (coefs : List ℤ) (list : List ℕ) (found : ℕ) (t times : List ℕ)
      → (decomposed_within most (input_of p q coefs) list found t times).answer ≡ no_space
      → NoPlace most p q coefs list found t times
  pub no_space_lem : (most : Sizes) (p q : ℕ) (coefs : List ℤ) (list : List ℕ) (found : ℕ) (t times : List ℕ) → NoPlace most p q coefs list found t times
      → decomposed_within most (input_of p q coefs) list found t times ≡ record { answer = no_space; times = times }
  -- where the list is the basis, each solution that is not refused is answered so, if there is space for a multiple of each row
  pub basis : (most : Sizes) (p q : ℕ) (coefs : List ℤ) (list : List ℕ) (found : ℕ) (t times : List ℕ)
      → Exactly q (MinimalSolution (system p q coefs)) list found
      → AllSilent (reason_rules most (input_of p q coefs) list found t) → Solution p q (coef (system p q coefs)) (λ j. get_or t j 0) → found ≤ length times
      → (decomposed_within most (input_of p q coefs) list found t times).answer ≡ made
  -- and nothing is ever left of one
  pub never_unlisted : (most : Sizes) (p q : ℕ) (coefs : List ℤ) (list : List ℕ) (found : ℕ) (t times : List ℕ)
      → Exactly q (MinimalSolution (system p q coefs)) list found
      → (decomposed_within most (input_of p q coefs) list found t times).answer ≢ unlisted
  -- so after every plain run that answered "complete", under any limit of components
  pub complete_list : (limit p q : ℕ) (coefs : List ℤ) (s : State) → let i = input_with alone limit p q coefs in Run i nonzero s → (budget : ℕ)
      → (resume budget i s).answer ≡ complete
      → Exactly q (MinimalSolution (system p q coefs)) (resume budget i s).state.list (resume budget i s).state.run.found

pub plan_promise : PlanPromise
plan_promise =
    record {
      ways = goes_one_way;
      sums = made_adds_up;
      space = space_due;
      no_space_lem = due_space;
      basis = λ most p q coefs list found t times e. taken most p q coefs list found t times e;
      never_unlisted = λ most p q coefs list found t times e. never most p q coefs list found t times e;
      complete_list = λ limit p q coefs s r budget c. (second_demand.lists (input_with alone limit p q coefs) s r).finished budget c;
    }
