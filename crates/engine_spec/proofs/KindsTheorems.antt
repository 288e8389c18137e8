-- Theorems about what specs/Kinds.antt defines. Assumes nothing.
use Rattle.std.specs.Prelude.{◌≡◌, refl, List, [], ◌++◌, ℕ, zero, suc, ◌+◌, ◌*◌, ◌-◌, ◌≤◌, ◌<◌, ℤ, pos, neg_ℤ, ◌+ℤ◌, get_or, length}
use Rattle.std.proofs.Common.{sym, ◌∙◌, inl, inr, le-div_iff_mul-le, mul-le-mul_right, arith, length-append, get_or-append-add}
use Rattle.std.proofs.Math.ListN.{get_or-append}
use Rattle.linear.proofs.Cases.{split}
use Rattle.linear.specs.Combinations.{Enumerates, SumOf}
use Rattle.linear.proofs.Combinations.{found_below, minimal_below, solution_same}
use Rattle.linear.specs.Differences.{integers}
use Rattle.linear.proofs.Differences.{sum_is}
use Rattle.linear.proofs.RightSides.{Extends}
use Rattle.linear.proofs.SystemLaws.{value_same, value_sum}
use Rattle.linear.specs.Systems.{Meets, Solution, SolutionIn, value}
use Rattle.linear.specs.Tuples.{AtOrBelow, Minimal, Nonzero, Same, put, rest, total}
use Rattle.definitions.specs.Answers.{complete, go}
use Rattle.definitions.specs.Input as map
use Rattle.definitions.specs.Input.{input_of}
use Rattle.definitions.specs.System.{MinimalFrom, MinimalMeeting, MinimalSolution, extend_to}
use Rattle.definitions.specs.Tables.{State, at}
use Rattle.laws.proofs.Extended.{extends}
use Rattle.theorems.specs.Held as Held
use Rattle.theorems.proofs.Held.{zero_sides}
use Rattle.theorems.specs.Listed.{Exactly}
use Rattle.theorems.proofs.Listed.{enumerated, only_one}
use Rattle.linear.proofs.Loops.{Loop, loops_make_up}
use Rattle.desk_spec.proofs.Groups.{groups_joined}
use Rattle.desk_spec.specs.Second.{Joined}
use Rattle.desk_spec.proofs.Second.{both_whole, whole_first, whole_second}
use Rattle.desk_spec.specs.Promises.{SameList}
use Rattle.desk_spec.proofs.Promises.{same_number, same_rows}
use Rattle.engine_spec.specs.Base.{Base, on_top, under}
use Rattle.engine_spec.proofs.Base.{before_solved, behind_solved, both_solved, enumerates_as}
use Rattle.engine_spec.specs.Calls.{resume, resume_checks}
use Rattle.engine_spec.specs.Caps.{Inside}
use Rattle.engine_spec.specs.Done.{among}
use Rattle.engine_spec.specs.Engine.{Work, basis_row, system, system_of}
use Rattle.engine_spec.specs.Equations.{LoopInside}
use Rattle.engine_spec.proofs.Equations.{inside_loop, loop_inside}
use Rattle.engine_spec.proofs.Operations.{value_alike}
use Rattle.engine_spec.proofs.Own.{own_calls, runs_shape}
use Rattle.engine_spec.specs.Promise.{Runs, RunsOn, RunsUnder, after_resume}
use Rattle.engine_spec.proofs.Promise.{all_complete, all_members, rows_inside, runs_whole, under_complete}
use Rattle.engine_spec.specs.Promises.{map_of}
use Rattle.engine_spec.specs.Stage.{row}
use Rattle.engine_spec.specs.Sides.{MeetsFrom, handed, handed_count, less_to}
use Rattle.engine_spec.proofs.Sides.{at_0_loop, at_1_loop, handed_exactly, less_entry, loop_at_0, loop_at_1, lowered_minimal, minimal_alike, minimal_as}
use Rattle.engine_spec.proofs.Sides.{neither, raised_minimal, value_apart}
use Rattle.engine_spec.specs.Kinds.{BothLists, From, FromBound, MinimalMeetingFrom, SameSides, a, b, b', before, before_under, both, desk_from, extended}
use Rattle.engine_spec.specs.Kinds.{extended', first, nothing, second}

-- ---- from the list of the extended system

pub solution_alike : (p q : ℕ) (a : ℕ → ℕ → ℤ) (s t : ℕ → ℕ) → Same q s t → SolutionIn p q a (Nonzero q) s → SolutionIn p q a (Nonzero q) t
solution_alike p q a s t e w =
    let (j, jq, h) = w.admitted in
    record { solution = solution_same p q a e w.solution; admitted = (j, jq, omega (arith, e j jq)) }

meets_alike : (p q : ℕ) (a : ℕ → ℕ → ℤ) (b : ℕ → ℤ) (s t : ℕ → ℕ) → Same q s t → Meets p q a b s → Meets p q a b t
meets_alike p q a b s t e m i l = sym (value_same (a i) q e) ∙ m i l

-- a cap, where there is one, is 1 or more: the rows that stand for the tuples of both lists are inside it
first_inside : (cap q c : ℕ) (s : ℕ → ℕ) → c ≤ 1 → Inside cap (suc q) (put c s)
first_inside cap q c s low capped columns = omega arith

module _ (cap p q : ℕ) (some : 0 < q) (coefs rights : List ℤ) (numbers : length coefs ≡ p * q) (list : List ℕ) (n : ℕ)
    (rows : Enumerates (suc q) (LoopInside cap p (suc q) (system_of (suc q) (extend_to p q coefs rights))) n (at list (suc q))) where
  loop : (t : ℕ → ℕ) → LoopInside cap p (suc q) (extended cap p q some coefs rights numbers list n rows) t
      → Loop p (suc q) (extended cap p q some coefs rights numbers list n rows) t
  loop = inside_loop cap p (suc q) (extended cap p q some coefs rights numbers list n rows)

  x : Extends p q (a cap p q some coefs rights numbers list n rows) (b cap p q some coefs rights numbers list n rows)
      (system_of (suc q) (extend_to p q coefs rights))
  x = extends (map_of p q coefs) rights numbers

  plain_alike : (s t : ℕ → ℕ) → Same q s t → Loop p q (a cap p q some coefs rights numbers list n rows) s
      → Loop p q (a cap p q some coefs rights numbers list n rows) t
  plain_alike = minimal_alike q (solution_alike p q (a cap p q some coefs rights numbers list n rows))

  meeting_alike : (s t : ℕ → ℕ) → Same q s t
      → Minimal q (Meets p q (a cap p q some coefs rights numbers list n rows) (b cap p q some coefs rights numbers list n rows)) s
      → Minimal q (Meets p q (a cap p q some coefs rights numbers list n rows) (b cap p q some coefs rights numbers list n rows)) t
  meeting_alike = minimal_alike q (meets_alike p q (a cap p q some coefs rights numbers list n rows) (b cap p q some coefs rights numbers list n rows))

  ones : (out : List ℕ) → handed_count 1 q list n * q ≤ length out
      → Exactly q (MinimalMeeting (map_of p q coefs) rights) (handed 1 q nothing list n out) (handed_count 1 q list n)
  ones out roomy =
      handed_exactly q some (LoopInside cap p (suc q) (extended cap p q some coefs rights numbers list n rows))
      (Minimal q (Meets p q (a cap p q some coefs rights numbers list n rows) (b cap p q some coefs rights numbers list n rows))) meeting_alike 1 nothing
      (λ t m z. meeting_alike (rest t) (λ j. rest t j + 0) (λ j l. omega arith) (loop_at_1 x t (loop t m) z))
      (λ s m. (
        put 1 s,
        loop_inside cap p (suc q) (extended cap p q some coefs rights numbers list n rows) (put 1 s) (first_inside cap q 1 s (omega arith))
            (at_1_loop x s m),
        refl,
        λ j l. omega arith,
      ))
      list n rows out roomy

  pub both_lists : BothLists p q coefs rights list n
  both_lists =
      record {
        at_zero = λ out roomy.
            handed_exactly q some (LoopInside cap p (suc q) (extended cap p q some coefs rights numbers list n rows))
            (Loop p q (a cap p q some coefs rights numbers list n rows)) plain_alike 0 nothing
            (λ t m z. plain_alike (rest t) (λ j. rest t j + 0) (λ j l. omega arith) (loop_at_0 x t (loop t m) z))
            (λ s m. (
              put 0 s,
              loop_inside cap p (suc q) (extended cap p q some coefs rights numbers list n rows) (put 0 s) (first_inside cap q 0 s (omega arith))
                  (at_0_loop x s m),
              refl,
              λ j l. omega arith,
            ))
            list n rows out roomy;
        at_one = ones;
        zero_alone = λ zeros out roomy.
            let (zero_is, least) = zero_sides (input_of p q coefs) rights zeros in
            only_one (ones out roomy) (λ j. 0) zero_is least;
        others = λ i l more. neither x (at list (suc q) i) (loop (at list (suc q) i) (rows.only i l)) more;
      }

-- The smallest tuples at or above a bound, from the list of the system extended by the right sides less what the bound makes of them.
module _ (cap p q : ℕ) (some : 0 < q) (coefs rights : List ℤ) (numbers : length coefs ≡ p * q) (lower : ℕ → ℕ) (list : List ℕ) (n : ℕ)
    (rows : Enumerates (suc q) (LoopInside cap p (suc q) (system_of (suc q) (extend_to p q coefs (less_to p q coefs rights lower)))) n
    (at list (suc q))) where
  x' : Extends p q (system_of q coefs) (b' cap p q some coefs rights numbers lower list n rows)
      (system_of (suc q) (extend_to p q coefs (less_to p q coefs rights lower)))
  x' = extends (map_of p q coefs) (less_to p q coefs rights lower) numbers

  less : (i : ℕ) → i < p → (b' cap p q some coefs rights numbers lower list n rows) i ≡ get_or rights i (pos 0) +ℤ neg_ℤ (value (system_of q coefs i) q lower)
  less = less_entry p q coefs rights lower

  from_alike : (s t : ℕ → ℕ) → Same q s t → (From cap p q some coefs rights numbers lower list n rows) s
      → (From cap p q some coefs rights numbers lower list n rows) t
  from_alike s t e m =
      record { meets = meets_alike p q (system_of q coefs) _ s t e m.meets; above = λ j l. omega (arith, m.above j l, e j l) }

  from_bound : (out : List ℕ) → handed_count 1 q list n * q ≤ length out
      → Exactly q (MinimalMeetingFrom p q coefs rights lower) (handed 1 q lower list n out) (handed_count 1 q list n)
  from_bound out roomy =
      handed_exactly q some (LoopInside cap p (suc q) (extended' cap p q some coefs rights numbers lower list n rows))
      (Minimal q (From cap p q some coefs rights numbers lower list n rows)) (minimal_alike q from_alike) 1 lower
      (λ t m z. raised_minimal p q (system_of q coefs) _ (b' cap p q some coefs rights numbers lower list n rows) lower less (rest t)
      (loop_at_1 x' t (inside_loop cap p (suc q) (extended' cap p q some coefs rights numbers lower list n rows) t m) z))
      (λ s m. (
        put 1 (λ j. s j - lower j),
        loop_inside cap p (suc q) (extended' cap p q some coefs rights numbers lower list n rows) (put 1 (λ j. s j - lower j))
            (first_inside cap q 1 (λ j. s j - lower j) (omega arith))
            (at_1_loop x' (λ j. s j - lower j)
            (lowered_minimal p q (system_of q coefs) _ (b' cap p q some coefs rights numbers lower list n rows) lower less s m)),
        refl,
        λ j l. omega (arith, m.holds.above j l),
      ))
      list n rows out roomy

  -- where none is handed out, nothing at or above the bound meets the right sides
  none_from : handed_count 1 q list n ≡ 0 → (t : ℕ → ℕ) → AtOrBelow q lower t → ¬ (Meets p q (system_of q coefs) (λ i. get_or rights i (pos 0)) t)
  none_from none t above meets =
      minimal_below q (From cap p q some coefs rights numbers lower list n rows) (suc (total t q)) t (omega arith) (record { meets = meets; above = above })
      (λ m low under.
      let (i, l, e) = (from_bound [] (rw none (omega arith))).all m low in
      omega arith)

  pub bound_list : FromBound p q coefs rights lower list n
  bound_list = record { smallest = from_bound; empty = none_from }

-- ---- the promises

pub same_list : {q : ℕ} {W : (ℕ → ℕ) → Type 0} {one other : List ℕ} {n m : ℕ} → Exactly q W one n → Exactly q W other m → SameList q one n other m
same_list x y = record { number = same_number x y; there = same_rows x y; back = same_rows y x }

-- a run on the extended system, with any cap on the first unknown
pub right_sides_under : (cap p q : ℕ) → 0 < q → (coefs rights : List ℤ) → length coefs ≡ p * q → {most room : ℕ} {w : Work}
    → RunsUnder cap p (suc q) (extend_to p q coefs rights) most room w → (budget : ℕ) → (resume p (suc q) most room budget w).answer ≡ complete
    → let v = (resume p (suc q) most room budget w).work in BothLists p q coefs rights v.basis v.count
right_sides_under cap p q some coefs rights numbers {most} {room} {w} r budget e =
    let v = (resume p (suc q) most room budget w).work in
    both_lists cap p q some coefs rights numbers v.basis v.count (under_complete cap p (suc q) (extend_to p q coefs rights) r budget e)

-- Right sides (document 02, Job 1): a run on the extended system gives both lists once a call says "complete".
pub right_sides : (p q : ℕ) → 0 < q → (coefs rights : List ℤ) → length coefs ≡ p * q → {most room : ℕ} {w : Work}
    → Runs p (suc q) (extend_to p q coefs rights) most room w → (budget : ℕ) → (resume p (suc q) most room budget w).answer ≡ complete
    → let v = (resume p (suc q) most room budget w).work in BothLists p q coefs rights v.basis v.count
right_sides = right_sides_under 0

-- The same with a cap of 1 on the first unknown: no row ever has more than 1 there, in the basis or in the stage's table, and none is left out at the end.
pub right_sides_capped : (p q : ℕ) → 0 < q → (coefs rights : List ℤ) → length coefs ≡ p * q → {most room : ℕ} {w : Work}
    → RunsUnder 1 p (suc q) (extend_to p q coefs rights) most room w
    → (((i : ℕ) → i < w.count → basis_row (suc q) w i 0 ≤ 1) × ((i : ℕ) → i < w.stage.rows → row (suc q) w.stage i 0 ≤ 1))
    × ((budget : ℕ) → (resume p (suc q) most room budget w).answer ≡ complete
    → let v = (resume p (suc q) most room budget w).work in BothLists p q coefs rights v.basis v.count)
right_sides_capped p q some coefs rights numbers r =
    let x = rows_inside (under 1) p (suc q) (extend_to p q coefs rights) r in (
      (λ i l. x.listed i l (omega arith) (omega arith), λ i l. x.staged i l (omega arith) (omega arith)),
      right_sides_under 1 p q some coefs rights numbers r,
    )

-- So they are with whatever cap either run had.
pub same_sides : (p q : ℕ) (coefs rights : List ℤ) {one other : List ℕ} {n m : ℕ} → BothLists p q coefs rights one n → BothLists p q coefs rights other m
    → SameSides q one n other m
same_sides p q coefs rights x y zero low out out' l l' = same_list (x.at_zero out l) (y.at_zero out' l')
same_sides p q coefs rights x y (suc zero) low out out' l l' = same_list (x.at_one out l) (y.at_one out' l')
same_sides p q coefs rights x y (suc (suc c)) low out out' l l' = absurd (omega arith)

-- So a state whose two lists are those handed out holds what a complete run with right sides does, word for word.
pub sides_held : (p q : ℕ) (coefs b : List ℤ) (list : List ℕ) (n : ℕ) → BothLists p q coefs b list n → (out out' : List ℕ)
    → handed_count 0 q list n * q ≤ length out → handed_count 1 q list n * q ≤ length out' → (s : State)
    → s.list ≡ handed 0 q nothing list n out → s.run.found ≡ handed_count 0 q list n
    → s.second ≡ handed 1 q nothing list n out' → s.run.found2 ≡ handed_count 1 q list n → Held.Whole (map.rights b) (input_of p q coefs) s
sides_held p q coefs b list n x out out' room room' s e f e' f' = (rw (e, f) (x.at_zero out room), rw (e', f') (x.at_one out' room'))

-- What meets the right sides is one of the smallest such tuples and loops besides: from both lists, in whatever tables they lie (Job 13).
pub sides_made : (p q : ℕ) (coefs rights : List ℤ) {loops smallest : List ℕ} {n m : ℕ} → Exactly q (MinimalSolution (map_of p q coefs)) loops n
    → Exactly q (MinimalMeeting (map_of p q coefs) rights) smallest m → (t : ℕ → ℕ) → Meets p q (system_of q coefs) (λ i. get_or rights i (pos 0)) t
    → (i : ℕ) × (i < m) × AtOrBelow q (at smallest q i) t × SumOf q n (at loops q) (λ j. t j - at smallest q i j)
sides_made p q coefs rights {loops} {smallest} {n} {m} x y t meets =
    let (i, l, under) = found_below q _ m (at smallest q) y.all t meets in
    let left = rest_is i (y.part.only i l).holds under in
    (i, l, under, loops_make_up p q (system_of q coefs) n (at loops q) (enumerated x) (λ j. t j - at smallest q i j) left)
  where
    -- both meet them: their difference meets 0
    rest_is : (i : ℕ) → Meets p q (system_of q coefs) (λ k. get_or rights k (pos 0)) (at smallest q i) → AtOrBelow q (at smallest q i) t
        → Solution p q (system_of q coefs) (λ j. t j - at smallest q i j)
    rest_is i low under k kp =
        let sum = value_sum (system_of q coefs k) q (λ j. t j - at smallest q i j) (at smallest q i) t (λ j jq. omega (arith, under j jq)) in
        omega (
          integers,
          sum,
          meets k kp,
          low k kp,
          sum_is (value (system_of q coefs k) q (λ j. t j - at smallest q i j)) (value (system_of q coefs k) q (at smallest q i)),
        )

pub lower_bound_under : (cap p q : ℕ) → 0 < q → (coefs rights : List ℤ) → length coefs ≡ p * q → (lower : ℕ → ℕ) → {most room : ℕ} {w : Work}
    → RunsUnder cap p (suc q) (extend_to p q coefs (less_to p q coefs rights lower)) most room w → (budget : ℕ)
    → (resume p (suc q) most room budget w).answer ≡ complete
    → let v = (resume p (suc q) most room budget w).work in FromBound p q coefs rights lower v.basis v.count
lower_bound_under cap p q some coefs rights numbers lower {most} {room} {w} r budget e =
    let v = (resume p (suc q) most room budget w).work in
    bound_list cap p q some coefs rights numbers lower v.basis v.count
    (under_complete cap p (suc q) (extend_to p q coefs (less_to p q coefs rights lower)) r budget e)

pub lower_bound_with : (p q : ℕ) → 0 < q → (coefs rights : List ℤ) → length coefs ≡ p * q → (lower : ℕ → ℕ) → {most room : ℕ} {w : Work}
    → Runs p (suc q) (extend_to p q coefs (less_to p q coefs rights lower)) most room w → (budget : ℕ)
    → (resume p (suc q) most room budget w).answer ≡ complete
    → let v = (resume p (suc q) most room budget w).work in FromBound p q coefs rights lower v.basis v.count
lower_bound_with = lower_bound_under 0

-- Lower bounds (Job 4): "the minimal solutions at or above the floor are meant, and the zero tuple counts". An empty list means that nothing at or above the
-- bound is a solution, which no floor walk promises.
pub lower_bound : (p q : ℕ) → 0 < q → (coefs : List ℤ) → length coefs ≡ p * q → (lower : ℕ → ℕ) → {most room : ℕ} {w : Work}
    → Runs p (suc q) (extend_to p q coefs (less_to p q coefs [] lower)) most room w → (budget : ℕ) → (resume p (suc q) most room budget w).answer ≡ complete
    → let v = (resume p (suc q) most room budget w).work in
    ((out : List ℕ) → handed_count 1 q v.basis v.count * q ≤ length out
    → Exactly q (MinimalFrom (map_of p q coefs) lower) (handed 1 q lower v.basis v.count out) (handed_count 1 q v.basis v.count))
    × (handed_count 1 q v.basis v.count ≡ 0 → (t : ℕ → ℕ) → AtOrBelow q lower t → ¬ (Solution p q (system_of q coefs) t))
lower_bound p q some coefs numbers lower r budget e =
    let f = lower_bound_with p q some coefs [] numbers lower r budget e in (
      λ out roomy.
          let x = f.smallest out roomy in
          record {
            part = record { room = x.part.room; only = λ i l. minimal_as there back (x.part.only i l); once = x.part.once };
            all = λ t m. x.all t (minimal_as back there m);
          },
      f.empty,
    )
  where
    there : (t : ℕ → ℕ) → MeetsFrom p q (system_of q coefs) (λ i. pos 0) lower t → SolutionIn p q (system_of q coefs) (AtOrBelow q lower) t
    there t m = record { solution = m.meets; admitted = m.above }

    back : (t : ℕ → ℕ) → SolutionIn p q (system_of q coefs) (AtOrBelow q lower) t → MeetsFrom p q (system_of q coefs) (λ i. pos 0) lower t
    back t w = record { meets = w.solution; above = w.admitted }

-- A map in two groups asks what both ask: so the order of groups, and of the equations in them, is all the same.
pub both_groups : (q p : ℕ) (coefs : List ℤ) (p' : ℕ) (coefs' : List ℤ) → length coefs ≡ p * q → (t : ℕ → ℕ)
    → (Solution (p + p') q (system_of q (coefs ++ coefs')) t → Solution p q (system_of q coefs) t × Solution p' q (system_of q coefs') t)
    × (Solution p q (system_of q coefs) t → Solution p' q (system_of q coefs') t → Solution (p + p') q (system_of q (coefs ++ coefs')) t)
both_groups q p coefs p' coefs' numbers t =
    let j = groups_joined (desk_from p' q coefs' 0 []) (record { p = p; coefs = coefs; numbers = numbers }) in
    (λ s. (whole_first j t s, whole_second j t s), λ s u. both_whole j t s u)

-- a run that started from the list of p₀ equations, with p further ones
module _ (p₀ q : ℕ) (coefs₀ : List ℤ) (numbers : length coefs₀ ≡ p₀ * q) (p : ℕ) (coefs : List ℤ) {most room : ℕ} {w : Work}
    (r : RunsOn (before p₀ q coefs₀) p q coefs most room w) where
  -- no continuing call is refused before its first turn, where there is room for q rows in the basis
  pub list_let_go_on : q ≤ most → resume_checks p q most room w ≡ go
  list_let_go_on = own_calls p q coefs r

  -- "From the first group's whole list, a complete result is, as a set, the list of the whole map, each once" (Job 10)
  pub from_list : (budget : ℕ) → (resume p q most room budget w).answer ≡ complete
      → let v = (resume p q most room budget w).work in Exactly q (MinimalSolution (map_of (p₀ + p) q (coefs₀ ++ coefs))) v.basis v.count
  from_list budget e =
      let v = (resume p q most room budget w).work in
      let whole = runs_whole (before p₀ q coefs₀) p q coefs (after_resume r budget) in
      let fits : v.count * q ≤ length v.basis = omega (arith, whole.long, mul-le-mul_right q whole.few) in
      let rows = enumerates_as 0 there back (all_complete (before p₀ q coefs₀) p q coefs r budget e) in
      record {
        part =
            record {
              room = (le-div_iff_mul-le {k = q} {x = v.count} {y = length v.basis} (runs_shape r).q_some).1 fits;
              only = rows.only;
              once = rows.once;
            };
        all = rows.all;
      }
    where
      there : (t : ℕ → ℕ) → Solution (p₀ + p) q (on_top (before p₀ q coefs₀) (system_of q coefs)) t → Solution (p₀ + p) q (system_of q (coefs₀ ++ coefs)) t
      there t s =
          (both_groups q p₀ coefs₀ p coefs numbers t).1 (before_solved (before p₀ q coefs₀) p q (system_of q coefs) t s)
          (behind_solved (before p₀ q coefs₀) p q (system_of q coefs) t s)

      back : (t : ℕ → ℕ) → Solution (p₀ + p) q (system_of q (coefs₀ ++ coefs)) t → Solution (p₀ + p) q (on_top (before p₀ q coefs₀) (system_of q coefs)) t
      back t s =
          let (x, y) = (both_groups q p₀ coefs₀ p coefs numbers t).0 s in
          both_solved (before p₀ q coefs₀) p q (system_of q coefs) t x y

  -- cut short between two stages, the list of the equations before and of those done
  pub list_cut_short : w.equation ≡ p
      → Enumerates q (Loop (p₀ + p) q (on_top (before p₀ q coefs₀) (among w.done (system q w)))) w.count (basis_row q w)
  list_cut_short rests = all_members (before p₀ q coefs₀) p q coefs r rests

-- ---- right sides, one group of equations after the other

module _ (p₀ q : ℕ) (coefs₀ rights₀ : List ℤ) (numbers₀ : length coefs₀ ≡ p₀ * q) (sides₀ : length rights₀ ≡ p₀) (p : ℕ) (coefs rights : List ℤ)
    (numbers : length coefs ≡ p * q) where
  all_numbers : length (coefs₀ ++ coefs) ≡ (p₀ + p) * q
  all_numbers = length-append coefs₀ coefs ∙ rw (numbers₀, numbers) (omega arith)

  joined : Joined p₀ p q (system_of q coefs₀) (system_of q coefs) (system_of q (coefs₀ ++ coefs))
  joined = groups_joined (desk_from p q coefs 0 []) (record { p = p₀; coefs = coefs₀; numbers = numbers₀ })

  -- the extended equations of both groups are those of the first, then those of the second
  value_of_first : (i : ℕ) → i < p₀ → (t : ℕ → ℕ) → value ((both p₀ q coefs₀ rights₀ numbers₀ sides₀ p coefs rights numbers) i) (suc q) t
      ≡ value ((first p₀ q coefs₀ rights₀ numbers₀ sides₀ p coefs rights numbers) i) (suc q) t
  value_of_first i l t =
      value_apart (extends (map_of (p₀ + p) q (coefs₀ ++ coefs)) (rights₀ ++ rights) all_numbers) i (omega arith) t
      ∙ rw (get_or-append rights₀ rights (pos 0) i (omega (arith, sides₀)), value_alike q (rest t) (λ j jq. joined.first i j l jq))
      (sym (value_apart (extends (map_of p₀ q coefs₀) rights₀ numbers₀) i l t))

  value_of_second : (i : ℕ) → i < p → (t : ℕ → ℕ) → value ((both p₀ q coefs₀ rights₀ numbers₀ sides₀ p coefs rights numbers) (p₀ + i)) (suc q) t
      ≡ value ((second p₀ q coefs₀ rights₀ numbers₀ sides₀ p coefs rights numbers) i) (suc q) t
  value_of_second i l t =
      let side : get_or (rights₀ ++ rights) (p₀ + i) (pos 0) ≡ get_or rights i (pos 0) = rw sides₀ at (get_or-append-add rights₀ rights i (pos 0)) in
      value_apart (extends (map_of (p₀ + p) q (coefs₀ ++ coefs)) (rights₀ ++ rights) all_numbers) (p₀ + i) (omega arith) t
      ∙ rw (side, value_alike q (rest t) (λ j jq. joined.second i j l jq)) (sym (value_apart (extends (map_of p q coefs) rights numbers) i l t))

  -- A run that started from the whole list of the first group's extended equations, with those of the second: a complete result is both lists of the whole
  -- map with all right sides, with a cap or without.
  pub sides_from_list : (cap : ℕ) → 0 < q → {most room : ℕ} {w : Work}
      → RunsOn (before_under cap p₀ (suc q) (extend_to p₀ q coefs₀ rights₀)) p (suc q) (extend_to p q coefs rights) most room w → (budget : ℕ)
      → (resume p (suc q) most room budget w).answer ≡ complete
      → let v = (resume p (suc q) most room budget w).work in BothLists (p₀ + p) q (coefs₀ ++ coefs) (rights₀ ++ rights) v.basis v.count
  sides_from_list cap some {most} {room} {w} r budget e =
      let v = (resume p (suc q) most room budget w).work in
      both_lists cap (p₀ + p) q some (coefs₀ ++ coefs) (rights₀ ++ rights) all_numbers v.basis v.count
      (enumerates_as cap there back (all_complete base p (suc q) (extend_to p q coefs rights) r budget e))
    where
      base : Base
      base = before_under cap p₀ (suc q) (extend_to p₀ q coefs₀ rights₀)

      there : (t : ℕ → ℕ) → Solution (p₀ + p) (suc q) (on_top base (second p₀ q coefs₀ rights₀ numbers₀ sides₀ p coefs rights numbers)) t
          → Solution (p₀ + p) (suc q) (both p₀ q coefs₀ rights₀ numbers₀ sides₀ p coefs rights numbers) t
      there t s i l =
          elim (split i p₀) [
            | inl low ↦ value_of_first i low t ∙ before_solved base p (suc q) (second p₀ q coefs₀ rights₀ numbers₀ sides₀ p coefs rights numbers) t s i low
            | inr high ↦
                let place : i ≡ p₀ + (i - p₀) = omega arith in
                rw place (value_of_second (i - p₀) (omega arith) t
                ∙ behind_solved base p (suc q) (second p₀ q coefs₀ rights₀ numbers₀ sides₀ p coefs rights numbers) t s (i - p₀) (omega arith))
          ]

      back : (t : ℕ → ℕ) → Solution (p₀ + p) (suc q) (both p₀ q coefs₀ rights₀ numbers₀ sides₀ p coefs rights numbers) t
          → Solution (p₀ + p) (suc q) (on_top base (second p₀ q coefs₀ rights₀ numbers₀ sides₀ p coefs rights numbers)) t
      back t s =
          both_solved base p (suc q) (second p₀ q coefs₀ rights₀ numbers₀ sides₀ p coefs rights numbers) t
          (λ i l. sym (value_of_first i l t) ∙ s i (omega arith))
          (λ i l. sym (value_of_second i l t) ∙ s (p₀ + i) (omega arith))
