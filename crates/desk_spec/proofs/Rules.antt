-- Theorems about what specs/Rules.antt defines. Assumes nothing.
use Rattle.std.specs.Prelude.{◌≡◌, ◌≢◌, ◌⊎◌, Bool, not, ◌&&◌, ◌||◌, List, ℕ, ◌+◌, ◌*◌, ◌^◌, ◌%◌, ◌≤◌, ◌<◌, T, eqb, nat_abs, length, get_or}
use Rattle.std.proofs.Math.Logic.{inl, inr}
use Rattle.std.proofs.Math.Decide.{ℕ_discrete}
use Rattle.std.proofs.Common.{arith, T_not, lt→ltb}
use Rattle.std.proofs.Math.Dec.{not_T, eqb_refl, eqb→eq, leb, leb→le, le→leb, ltb, ltb→lt}
use Rattle.linear.proofs.Cases.{split}
use Rattle.linear.specs.Systems.{Fails, Solution}
use Rattle.linear.proofs.TestLaws.{T-dec, all_at, all_from, all_not, and_both, and_parts, any_at, any_from, or_cases, or_left, or_right}
use Rattle.linear.specs.Tests.{all_to, count_to}
use Rattle.definitions.specs.Answers.{Check, go, refuse_if}
use Rattle.definitions.specs.Refusals.{step_limit}
use Rattle.definitions.specs.System.{coef, image_of, most_component, most_equations, most_unknowns}
use Rattle.definitions.specs.Tables.{State, capacity, frozen}
use Rattle.laws.specs.CheckLaws.{Decides, Renders, Rule, rule}
use Rattle.laws.proofs.CheckLaws.{decides_if, renders_last, renders_then}
use Rattle.laws.proofs.RefusalLaws.{decides_outside, decides_range}
use Rattle.laws.proofs.SystemLaws.{fails_fails, solution_solves, solves_solution}
use Rattle.desk_spec.specs.Records.{is_desk}
use Rattle.desk_spec.proofs.Records.{desk_is, is_desk_lem}
use Rattle.desk_spec.specs.Desks.{Desk, deepest_limit, desk_check3, desk_check4, desk_checks, desk_full, desk_in_order, desk_makes, desk_resume_checks}
use Rattle.desk_spec.specs.Desks.{desk_row_in_order, desk_search_checks, desk_start_checks, desk_too_large, desk_top, desk_tuple, freed, generator}
use Rattle.desk_spec.specs.Desks.{generator_count}
use Rattle.desk_spec.specs.Desks.{generators_in_order, group_input, image_limit, most_generators, plus, second_group, wide}
use Rattle.desk_spec.specs.Rules.{BadDeskRow, DeskInOrder, DeskOutOfOrder, DeskRowInOrder, LargeChild, LargeGenerator, Wide, beyond, deep, desk_resume_rules}
use Rattle.desk_spec.specs.Rules.{desk_rules, desk_search_rules, desk_start_rules, high, large, large_at, late, many, marks, miscounted, other_kind, row}
use Rattle.desk_spec.specs.Rules.{small_at, sol, wide_at}

-- ---- what is handed over

unequal_from : (k n : ℕ) → T (not (eqb k n)) → k ≢ n
unequal_from k n h e = T_not (eqb k n) h (rw e (eqb_refl n))

unequal_to : (k n : ℕ) → k ≢ n → T (not (eqb k n))
unequal_to k n ne = not_T (eqb k n) (λ h. ne (eqb→eq k n h))

module _ (d : Desk) where
  decides_numbers : Decides (desk_check3 d) (rule 3 ((length d.coefs ≢ d.p * d.q) ⊎ (length d.generators % d.q ≢ 0)))
  decides_numbers =
      let b : Bool = not (eqb (length d.coefs) (d.p * d.q)) in
      decides_if (b || not (eqb (length d.generators % d.q) 0)) 3 _
      (λ h. elim
      (or_cases b _ h) [ inl x ↦ inl (unequal_from (length d.coefs) (d.p * d.q) x) | inr x ↦ inr (unequal_from (length d.generators % d.q) 0 x) ])
      (λ h. elim h [
        | inl x ↦ or_left b _ (unequal_to (length d.coefs) (d.p * d.q) x)
        | inr x ↦ or_right b _
            (unequal_to (length d.generators % d.q) 0 x)
      ])

  pub numbers_go : desk_check3 d ≡ go → length d.coefs ≡ d.p * d.q
  numbers_go e =
      elim (ℕ_discrete (length d.coefs) (d.p * d.q)) [ yes same ↦ same | no ne ↦ absurd (decides_numbers.goes e (inl ne)) ]

  large_generator : ¬ (T (generators_in_order d)) → LargeGenerator d
  unfolding generators_in_order
  large_generator h =
      let (i, l, n) = all_not (length d.generators) (λ i. leb (get_or d.generators i 0) most_component) h in
      (i, l, elim (split most_component (get_or d.generators i 0)) [ inl y ↦ y | inr y ↦ absurd (n (le→leb (get_or d.generators i 0) most_component y)) ])

  not_large : LargeGenerator d → ¬ (T (generators_in_order d))
  unfolding generators_in_order
  not_large (i, l, y) h =
      omega (arith, leb→le (get_or d.generators i 0) most_component (all_at (length d.generators) (λ i. leb (get_or d.generators i 0) most_component) h i l))

  decides_generators : Decides (refuse_if (not (generators_in_order d)) 6) (rule 6 (LargeGenerator d))
  decides_generators =
      decides_if (not (generators_in_order d)) 6 _ (λ h. large_generator (T_not (generators_in_order d) h)) (λ b. not_T (generators_in_order d) (not_large b))

  decides_wide : Decides (refuse_if (wide d) 25) (rule 25 (Wide d))
  unfolding wide
  decides_wide =
      decides_if (wide d) 25 _
      (λ h. elim (or_cases (ltb most_generators (generator_count d)) _ h) [
        | inl x ↦ inl (ltb→lt most_generators (generator_count d) x)
        | inr x ↦
            let (k, kn, y) = any_at (generator_count d) (wide_at d) x in
            let (i, ip, z) = any_at d.p (λ i. ltb image_limit (nat_abs (image_of (second_group d) (generator d k) i))) y in
            inr (k, kn, i, ip, ltb→lt image_limit (nat_abs (image_of (second_group d) (generator d k) i)) z)
      ])
      (λ h. elim h [
        | inl x ↦ or_left (ltb most_generators (generator_count d)) _ (lt→ltb most_generators (generator_count d) x)
        | inr (k, kn, i, ip, z) ↦ or_right (ltb most_generators (generator_count d)) _
            (any_from (generator_count d) (wide_at d) k kn
            (any_from d.p (λ i. ltb image_limit (nat_abs (image_of (second_group d) (generator d k) i))) i ip
            (lt→ltb image_limit (nat_abs (image_of (second_group d) (generator d k) i)) z)))
      ])

module _ (d : Desk) (stack : List ℕ) (k : ℕ) where
  row_from : T (desk_row_in_order d stack k) → DeskRowInOrder d stack k
  unfolding desk_row_in_order
  row_from h =
      let (a, b) = and_parts (all_to d.q (small_at d stack k)) _ h in
      let (c, e) = and_parts (ltb (marks d stack k) (2 ^ generator_count d)) _ b in
      record {
        small = λ j l. leb→le (desk_tuple d.q stack k j) most_component (all_at d.q (small_at d stack k) a j l);
        fitting = ltb→lt (marks d stack k) (2 ^ generator_count d) c;
        marked = eqb→eq (count_to (generator_count d) (frozen (marks d stack k))) k e;
      }

  row_to : DeskRowInOrder d stack k → T (desk_row_in_order d stack k)
  unfolding desk_row_in_order
  row_to r =
      and_both (all_to d.q (small_at d stack k)) _
      (all_from d.q (small_at d stack k) (λ j l. le→leb (desk_tuple d.q stack k j) most_component (r.small j l)))
      (and_both (ltb (marks d stack k) (2 ^ generator_count d)) _ (lt→ltb (marks d stack k) (2 ^ generator_count d) r.fitting) (rw r.marked (eqb_refl k)))

  -- a row is in order, or bad
  row_bad : ¬ (T (desk_row_in_order d stack k)) → BadDeskRow d stack k
  row_bad h =
      elim (T-dec (all_to d.q (small_at d stack k))) [
        | inr n ↦
            let (j, l, y) = all_not d.q (small_at d stack k) n in
            large j l
            (elim (split most_component (desk_tuple d.q stack k j)) [
              | inl x ↦ x
              | inr x ↦ absurd
                  (y (le→leb (desk_tuple d.q stack k j) most_component x))
            ])
        | inl a ↦ elim (split (marks d stack k) (2 ^ generator_count d)) [
          | inr x ↦ beyond x
          | inl x ↦ miscounted
              (λ e. h (row_to
              (record { small = λ j l. leb→le (desk_tuple d.q stack k j) most_component (all_at d.q (small_at d stack k) a j l); fitting = x; marked = e })))
        ]
      ]

  bad_row : BadDeskRow d stack k → DeskRowInOrder d stack k → ⊥
  bad_row (large j l h) r = omega (arith, r.small j l)
  bad_row (beyond h) r = omega (arith, r.fitting)
  bad_row (miscounted ne) r = ne r.marked

module _ (d : Desk) (s : State) where
  pub order_from : T (desk_in_order d s) → DeskInOrder d s
  unfolding desk_in_order
  order_from h =
      let (k, a) = and_parts (is_desk s.run) _ h in
      let (x, b) = and_parts (leb s.run.height (generator_count d)) _ a in
      let (y, c) = and_parts (leb s.run.found (capacity d.q s.list)) _ b in
      let (z, e) = and_parts (leb s.run.steps step_limit) _ c in
      let (w, f) = and_parts (leb s.run.deepest deepest_limit) _ e in
      record {
        own = desk_is s.run k;
        height = leb→le s.run.height (generator_count d) x;
        found = leb→le s.run.found (capacity d.q s.list) y;
        early = leb→le s.run.steps step_limit z;
        shallow = leb→le s.run.deepest deepest_limit w;
        rows = λ n l. row_from d s.stack n (all_at s.run.height _ f n l);
      }

  pub order_to : DeskInOrder d s → T (desk_in_order d s)
  unfolding desk_in_order
  order_to o =
      and_both (is_desk s.run) _ (is_desk_lem s.run o.own)
      (and_both (leb s.run.height (generator_count d)) _ (le→leb s.run.height (generator_count d) o.height)
      (and_both (leb s.run.found (capacity d.q s.list)) _ (le→leb s.run.found (capacity d.q s.list) o.found)
      (and_both (leb s.run.steps step_limit) _ (le→leb s.run.steps step_limit o.early)
      (and_both (leb s.run.deepest deepest_limit) _ (le→leb s.run.deepest deepest_limit o.shallow)
      (all_from s.run.height _ (λ k l. row_to d s.stack k (o.rows k l)))))))

  out_of : ¬ (T (desk_in_order d s)) → DeskOutOfOrder d s
  out_of h =
      elim (T-dec (is_desk s.run)) [
        | inr n ↦ other_kind (λ e. n (is_desk_lem s.run e))
        | inl k ↦ elim (split (generator_count d) s.run.height) [
          | inl x ↦ high x
          | inr x ↦ elim (split (capacity d.q s.list) s.run.found) [
            | inl y ↦ many y
            | inr y ↦ elim (split step_limit s.run.steps) [
              | inl z ↦ late z
              | inr z ↦ elim (split deepest_limit s.run.deepest) [
                | inl w ↦ deep w
                | inr w ↦ out_row k x y z w
              ]
            ]
          ]
        ]
      ]
    where
      out_row : T (is_desk s.run) → s.run.height ≤ generator_count d → s.run.found ≤ capacity d.q s.list → s.run.steps ≤ step_limit
          → s.run.deepest ≤ deepest_limit → DeskOutOfOrder d s
      out_row k x y z w =
          elim (T-dec (all_to s.run.height (desk_row_in_order d s.stack))) [
            | inr n ↦ let (i, l, b) = all_not s.run.height (desk_row_in_order d s.stack) n in row i l (row_bad d s.stack i b)
            | inl a ↦ absurd (h (order_to (record {
              own = desk_is s.run k;
              height = x;
              found = y;
              early = z;
              shallow = w;
              rows = λ i l. row_from d s.stack i (all_at s.run.height _ a i l);
            })))
          ]

  pub not_order : DeskOutOfOrder d s → DeskInOrder d s → ⊥
  not_order (other_kind n) o = n o.own
  not_order (high h) o = omega (arith, o.height)
  not_order (many h) o = omega (arith, o.found)
  not_order (late h) o = omega (arith, o.early)
  not_order (deep h) o = omega (arith, o.shallow)
  not_order (row k l b) o = bad_row d s.stack k b (o.rows k l)

  decides_order : Decides (refuse_if (not (generators_in_order d && desk_in_order d s)) 6) (rule 6 (LargeGenerator d ⊎ DeskOutOfOrder d s))
  decides_order =
      let own : Bool = desk_in_order d s in
      decides_if (not (generators_in_order d && own)) 6 _
      (λ h. elim (T-dec (generators_in_order d)) [
        | inr n ↦ inl (large_generator d n)
        | inl y ↦ inr (out_of (λ o. T_not (generators_in_order d && own) h (and_both (generators_in_order d) own y o)))
      ])
      (λ b. not_T (generators_in_order d && own)
      (λ h. let (y, o) = and_parts (generators_in_order d) own h in elim b [ inl x ↦ not_large d x y | inr x ↦ not_order x (order_from o) ]))

  -- ---- the calls

  decides_short : Decides (desk_check4 d s) (rule 4 (length s.stack < generator_count d * (d.q + 2)))
  decides_short = decides_if _ 4 _ (ltb→lt (length s.stack) (generator_count d * (d.q + 2))) (lt→ltb (length s.stack) (generator_count d * (d.q + 2)))

  checks_render : {c : Check} {own : Rule} → Decides c own → Renders (desk_checks d s c) (desk_rules d s own)
  checks_render own =
      renders_then (decides_outside 1 1 most_equations d.p)
      (renders_then (decides_outside 2 1 most_unknowns d.q)
      (renders_then (decides_numbers d)
      (renders_then decides_short (renders_then own (renders_then (decides_range (group_input d)) (renders_last (decides_wide d)))))))

  pub start_renders : Renders (desk_start_checks d s) (desk_start_rules d s)
  unfolding desk_start_checks
  start_renders = checks_render (decides_generators d)

  pub resume_renders : Renders (desk_resume_checks d s) (desk_resume_rules d s)
  unfolding desk_resume_checks
  resume_renders = checks_render decides_order

  decides_full : Decides (refuse_if ((sol d s) && desk_full d s) 11)
      (rule 11 (Solution d.p d.q (coef (second_group d)) (desk_top d s) × (capacity d.q s.list ≤ (freed d s).run.found)))
  decides_full =
      decides_if ((sol d s) && desk_full d s) 11 _
      (λ h. let (y, l) = and_parts (sol d s) _ h in (solves_solution (second_group d) (desk_top d s) y, leb→le (capacity d.q s.list) (freed d s).run.found l))
      (λ (y, l). and_both (sol d s) _ (solution_solves (second_group d) (desk_top d s) y) (le→leb (capacity d.q s.list) (freed d s).run.found l))

  large_from : T (desk_too_large d s) → LargeChild d s
  unfolding desk_too_large
  large_from h =
      let (j, jn, y) = any_at (generator_count d) (λ j. desk_makes d s j && (large_at d s) j) h in
      let (mj, z) = and_parts (desk_makes d s j) ((large_at d s) j) y in
      let (i, iq, l) = any_at d.q (λ i. ltb most_component (plus (desk_top d s) (generator d j) i)) z in
      (j, jn, mj, i, iq, ltb→lt most_component (plus (desk_top d s) (generator d j) i) l)

  large_to : LargeChild d s → T (desk_too_large d s)
  unfolding desk_too_large
  large_to (j, jn, mj, i, iq, l) =
      any_from (generator_count d) (λ j. desk_makes d s j && (large_at d s) j) j jn
      (and_both (desk_makes d s j) ((large_at d s) j) mj
      (any_from d.q (λ i. ltb most_component (plus (desk_top d s) (generator d j) i)) i iq
      (lt→ltb most_component (plus (desk_top d s) (generator d j) i) l)))

  decides_over : Decides (refuse_if (not (sol d s) && desk_too_large d s) 12) (rule 12 (Fails d.p d.q (coef (second_group d)) (desk_top d s) × LargeChild d s))
  decides_over =
      decides_if (not (sol d s) && desk_too_large d s) 12 _
      (λ h. let (y, l) = and_parts (not (sol d s)) _ h in (fails_fails (second_group d) (desk_top d s) (T_not (sol d s) y), large_from l))
      (λ (y, l). and_both (not (sol d s)) _ (not_T (sol d s) (λ h. y.2 (solves_solution (second_group d) (desk_top d s) h y.0 y.1))) (large_to l))

  pub search_renders : Renders (desk_search_checks d s) (desk_search_rules d s)
  unfolding desk_search_checks
  search_renders =
      renders_then
      (decides_if (eqb s.run.steps step_limit) 14 (s.run.steps ≡ step_limit) (eqb→eq s.run.steps step_limit) (λ e. rw e (eqb_refl step_limit)))
      (renders_then decides_full (renders_last decides_over))
