-- The loop of the walk: what it keeps, a turn of it, and its ends. Assumes nothing.
use Rattle.std.specs.Prelude.{◌≡◌, refl, ◌≢◌, Bool, true, false, List, [], ◌∷◌, ℕ, zero, suc, ◌+◌, ◌-◌, ◌≤◌, ◌<◌, ℤ, pos, length, get_or, replicate}
use Rattle.std.specs.Prelude.{Result, Ok, Err}
use Rattle.std.proofs.Common.{sym, ◌∙◌, ap, inl, inr, arith, mul-le-mul_right, le-mul_of_pos_right, eq-eqb}
use Rattle.std.proofs.Math.ListN.{get_or-eq_default}
use Rattle.linear.proofs.Cases.{split}
use Rattle.definitions.specs.Answers.{Check, complete, paused, refused, refuse, go, refuse_with, ◌then◌}
use Rattle.definitions.specs.Machine.{walk}
use Rattle.definitions.specs.System.{Kind, System, above, capped, plain, solves}
use Rattle.definitions.specs.Tables.{RunKind, State, capacity}
use Rattle.definitions.specs.Step.{deeper, grown, listed, pick, step, to_second, top, width}
use Rattle.definitions.specs.Refusals.{step_limit, search_checks}
use Rattle.definitions.specs.Calls.{machine_of}
use Rattle.laws.proofs.MachineLaws.{walk_done, walk_paused, walk_refused, walk_more}
use Rattle.laws.specs.RefusalLaws.{Going, SecondFits, Valid}
use Rattle.laws.proofs.RefusalLaws.{search_going}
use Rattle.laws.proofs.ValidLaws.{rows_fit, step_valid}
use Rattle.calls.specs.Paper.{system_with, number_of, values_of}
use Rattle.calls.specs.declared.Refusal.{Refusal}
use Rattle.step.specs.declared.Stepped.{Stepped}
use Rattle.step.specs.declared.Stepped.TheVariants.{Listed, ListedSecond, Grown}
use Rattle.products.specs.Products.{SmallCoefs, Gram, SmallGram, SmallRows, Combined, Zeros}
use Rattle.candidates.specs.Kinds.{asked, beside}
use Rattle.step.specs.Taken.{Standing, Taken}
use Rattle.products.specs.Totals.{Totals}

-- a table as it is made
pub blank_zeros : Zeros (replicate 256 (pos 0)) 0
blank_zeros = record { zero = λ i l. get_d_replicate 256 i }
  where
    get_d_replicate : (n i : ℕ) → get_or (replicate n (pos 0)) i (pos 0) ≡ pos 0
    get_d_replicate zero i = refl
    get_d_replicate (suc n) zero = refl
    get_d_replicate (suc n) (suc i) = get_d_replicate n i

-- ---- what passed the checks is small

pub small_coefs : {m : System} {s : State} → Valid m s → SmallCoefs m.p m.q m.coefs
small_coefs {m} v =
    record {
      equations = v.shaped.p_few;
      unknowns = v.shaped.q_few;
      whole = omega (arith, v.shaped.coefs);
      small = λ n. elim (split n (length m.coefs)) [
        | inl l ↦ v.shaped.range n l
        | inr l ↦ rw (get_or-eq_default m.coefs (pos 0) l) (omega arith)
      ];
    }

pub small_rows : {m : System} {s : State} → Valid m s → SmallRows m.q s.stack s.run.height
small_rows {m} {s} v =
    record {
      few = v.ordered.height;
      whole = omega (arith, v.shaped.stack, mul-le-mul_right (m.q + 1) v.ordered.height);
      small = λ k i l h. omega (arith, (v.ordered.rows k l).small i h, v.shaped.limit_few);
    }

second_beside : (k : Kind) (q : ℕ) (s : State) (run : RunKind) (n n₂ d : ℕ) → SecondFits k q (beside s run n n₂ d) → SecondFits k q s
second_beside plain q s run n n₂ d h = h
second_beside capped q s run n n₂ d h = h
second_beside (above f) q s run n n₂ d h = h

pub standing : {k : Kind} {p q : ℕ} {coefs : List ℤ} {limit : ℕ} (s : State) (run : RunKind) (n n₂ d : ℕ) {g c : List ℤ} {sums : List ℕ}
    → Valid (system_with k p q coefs limit) (beside s run n n₂ d) → SmallGram q g → Combined q g s.stack s.run.height c
    → Totals q s.stack s.run.height sums → 0 < s.run.height → Standing k limit q g s c sums
standing {k} {p} {q} s run n n₂ d v a e t h =
    record {
      some = v.shaped.q_some;
      wide = v.shaped.wide;
      few = v.shaped.q_few;
      high = h;
      low = v.ordered.height;
      long = v.shaped.stack;
      rows = v.ordered.rows;
      bounded = v.shaped.limit_few;
      listed = v.ordered.found;
      listed₂ = second_beside k q s run n n₂ d v.ordered.found2;
      gram = a;
      cached = e;
      summed = t;
    }

-- ---- the loop

-- After some turns the walk from s₀ has come to s, with this budget left, whatever its call checks before.
pub record Walking (m : System) (g : List ℤ) (budget : ℕ) (s₀ : State) (left : ℕ) (s : State) (c : List ℤ) (sums : List ℕ) : Type 0 where
  pub valid : Valid m s
  pub cached : Combined m.q g s.stack s.run.height c
  pub summed : Totals m.q s.stack s.run.height sums
  pub same : (checks : State → Check) → walk budget (machine_of checks m) s₀ ≡ walk left (machine_of checks m) s

search_late : (m : System) (s : State) → s.run.steps ≡ step_limit → search_checks m s ≡ refuse 14 []
unfolding search_checks refuse_with ◌then◌
search_late m s e = rw (eq-eqb s.run.steps step_limit e)

module _ {m : System} {g : List ℤ} {budget : ℕ} {s₀ : State} {left : ℕ} {s : State} {c : List ℤ} {sums : List ℕ} (w : Walking m g budget s₀ left s c sums) where
  goes_on : 0 < s.run.height → {less : ℕ} → left ≡ suc less → {next : State} {c' : List ℤ} {sums' : List ℕ} → search_checks m s ≡ go → next ≡ step m s
      → Combined m.q g next.stack next.run.height c' → Totals m.q next.stack next.run.height sums'
      → Walking m g budget s₀ less next c' sums'
  goes_on h {less} more {next} f e d t =
      record {
        valid = rw e (step_valid m s w.valid h (search_going m s w.valid.ordered h f));
        cached = d;
        summed = t;
        same = λ checks.
            w.same checks
            ∙ ap (λ n. walk n (machine_of checks m) s) more
            ∙ (walk_more (machine_of checks m) s less h f).0
            ∙ ap (walk less (machine_of checks m)) (sym e);
      }

  module _ (checks : State → Check) where
    pub ends_complete : s.run.height ≡ 0 → walk budget (machine_of checks m) s₀ ≡ record { answer = complete; state = s }
    ends_complete h = w.same checks ∙ (walk_done (machine_of checks m) s left h).0

    module _ (h : 0 < s.run.height) where
      pub ends_paused : left ≡ 0 → walk budget (machine_of checks m) s₀ ≡ record { answer = paused; state = s }
      ends_paused e = w.same checks ∙ ap (λ n. walk n (machine_of checks m) s) e ∙ (walk_paused (machine_of checks m) s h).0

      ends_refused : {less : ℕ} → left ≡ suc less → {n : ℕ} {values : List ℕ} → search_checks m s ≡ refuse n values
          → walk budget (machine_of checks m) s₀ ≡ record { answer = refused n values; state = s }
      ends_refused {less} more {n} {values} e =
          w.same checks ∙ ap (λ k. walk k (machine_of checks m) s) more ∙ (walk_refused (machine_of checks m) s less n values h e).0

      pub ends_late : {less : ℕ} → left ≡ suc less → s.run.steps ≡ step_limit
          → walk budget (machine_of checks m) s₀ ≡ record { answer = refused 14 []; state = s }
      ends_late more e = ends_refused more (search_late m s e)

-- ---- the counts of the lists are places of slices

count_fits : (w n : ℕ) (table : List ℕ) → 0 < w → n ≤ capacity w table → n ≤ length table
count_fits w n table some h = omega (arith, rows_fit w n table some h, le-mul_of_pos_right n some)

pub found_small : {m : System} {s : State} → Valid m s → s.run.found ≤ length s.list
found_small {m} {s} v = count_fits (width m) s.run.found s.list v.shaped.wide v.ordered.found

-- a step that counts one more row of the second list has had room there
second_room : (m : System) (s : State) → Going m s → (step m s).run.found2 ≡ s.run.found2 + 1 → s.run.found2 < capacity (width m) s.second
unfolding step listed grown
second_room m s g e = of (solves m (top m s)) (to_second m.kind (top m s)) refl refl e
  where
    of : (solved b : Bool) → solves m (top m s) ≡ solved → to_second m.kind (top m s) ≡ b
        → (pick (solves m (top m s)) (listed m s) (grown m s)).run.found2 ≡ s.run.found2 + 1 → s.run.found2 < capacity (width m) s.second
    of false b y z h = absurd (omega (arith, rw y at h))
    of true false y z h = absurd (omega (arith, rw (y, z) at h))
    of true true y z h = rw z at (g.roomy (rw y tt))

-- ---- a turn, from what `take` ensures

module _ {k : Kind} {p q : ℕ} {coefs g : List ℤ} {limit budget left : ℕ} {s₀ : State} (s : State) (run : RunKind) (n n₂ d : ℕ) {c : List ℤ} {sums : List ℕ}
    (w : Walking (system_with k p q coefs limit) g budget s₀ left (beside s run n n₂ d) c sums) (gram : Gram p q coefs g) (h : 0 < s.run.height) {less : ℕ}
    (more : left ≡ suc less) (early : n ≢ step_limit) {r : Result Stepped Refusal} {stack list second : List ℕ} {c' : List ℤ} {sums' : List ℕ}
    (t : Taken k limit q g s r stack list second c' sums') where
  abbrev m : System
  m = system_with k p q coefs limit

  abbrev now : State
  now = beside s run n n₂ d

  abbrev deep : ℕ
  deep = deeper q now (top m now)

  -- the state that the step leaves, with these counts
  abbrev left_by : ℕ → ℕ → ℕ → ℕ → State
  left_by height found found2 depth = beside (asked stack list second height found found2) run (n + 1) n₂ depth

  pub turn_listed : r ≡ Ok Listed → {height found found2 depth : ℕ} → height ≡ s.run.height - 1 → found ≡ s.run.found + 1 → found2 ≡ s.run.found2
      → depth ≡ deep → Walking m g budget s₀ less (left_by height found found2 depth) c' sums'
  turn_listed e eh ef e₂ ed =
      let st = rw e at (t.steps p coefs gram run n n₂ d early) in
      rw (eh, ef, e₂, ed)
      (goes_on w h more {next = left_by (s.run.height - 1) (s.run.found + 1) s.run.found2 deep} st.checks st.leaves
      (rw e at t.cached) (rw e at t.summed))

  pub turn_listed₂ : r ≡ Ok ListedSecond → {height found found2 depth : ℕ} → height ≡ s.run.height - 1 → found ≡ s.run.found → found2 ≡ s.run.found2 + 1
      → depth ≡ deep → Walking m g budget s₀ less (left_by height found found2 depth) c' sums'
  turn_listed₂ e eh ef e₂ ed =
      let st = rw e at (t.steps p coefs gram run n n₂ d early) in
      rw (eh, ef, e₂, ed)
      (goes_on w h more {next = left_by (s.run.height - 1) s.run.found (s.run.found2 + 1) deep} st.checks st.leaves
      (rw e at t.cached) (rw e at t.summed))

  pub turn_grown : {rise : ℕ} → r ≡ Ok (Grown rise) → {height found found2 depth : ℕ} → height ≡ rise → found ≡ s.run.found → found2 ≡ s.run.found2
      → depth ≡ deep → Walking m g budget s₀ less (left_by height found found2 depth) c' sums'
  turn_grown {rise} e eh ef e₂ ed =
      let st = rw e at (t.steps p coefs gram run n n₂ d early) in
      rw (eh, ef, e₂, ed)
      (goes_on w h more {next = left_by rise s.run.found s.run.found2 deep} st.checks st.leaves (rw e at t.cached) (rw e at t.summed))

  pub turn_refused : (checks : State → Check) → {why : Refusal} → r ≡ Err why
      → walk budget (machine_of checks m) s₀ ≡ record {
        answer = refused (number_of why) (values_of why);
        state = beside (asked stack list second s.run.height s.run.found s.run.found2) run n n₂ d;
      }
  turn_refused checks {why} e =
      let st = rw e at (t.steps p coefs gram run n n₂ d early) in
      ends_refused w checks h more st.checks ∙ ap (λ x. record { answer = refused (number_of why) (values_of why); state = x }) (sym st.leaves)

  -- one row more in the second list is still a place of it
  pub second_small : r ≡ Ok ListedSecond → s.run.found2 + 1 ≤ length s.second
  second_small e =
      let st = rw e at (t.steps p coefs gram run n n₂ d early) in
      let room = second_room m now (search_going m now w.valid.ordered h st.checks) (sym (ap (λ x. x.run.found2) st.leaves)) in
      count_fits (width m) (s.run.found2 + 1) s.second w.valid.shaped.wide (omega (arith, room))

-- ---- a slice without places stays one

pub empty_is : (l : List ℕ) → length l ≡ 0 → l ≡ []
empty_is [] e = refl
empty_is (x ∷ l) e = absurd (omega (arith, e))
