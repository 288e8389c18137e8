-- Theorems about what specs/CallAnswers.antt defines. Assumes nothing.
use Rattle.std.proofs.Math.Path.{◌≡◌, refl, sym, ap, subst}
use Rattle.std.proofs.Common.{◌∙◌, arith, T_not, eqb→eq, leb→le, le→leb, nltb→le}
use Rattle.std.specs.Prelude.{◌↔◌, ◌⊎◌, Bool, ◌&&◌, ◌||◌, List, [], T, leb, ℤ, pos}
use Rattle.std.proofs.Math.Logic.{inl, inr}
use Rattle.std.proofs.Math.Bool.{true, false, not, cond}
use Prim.Native.Nat.{ℕ, zero, suc, ◌+◌, ◌^◌, ◌-◌, ◌≤◌, ◌<◌}
use Rattle.std.proofs.Math.Decide.{ℕ_discrete}
use Rattle.std.proofs.Math.Dec.{eqb, eqb_refl, not_T, ltb, ltb→lt, lt→ltb}
use Rattle.std.specs.Int.Signed.{le_z, le_z_yes}
use Rattle.linear.proofs.Cases.{split}
use Rattle.linear.specs.Systems.{value}
use Rattle.linear.proofs.TestLaws.{all_at, all_not, and_both, and_parts, number_false, number_true, or_cases, or_left, or_right}
use Rattle.linear.specs.Tests.{all_to, count_to, number}
use Rattle.definitions.specs.Answers.{Answer, Check, ◌then◌, complete, go, paused, refuse, refuse_if, refuse_with, refused, started}
use Rattle.definitions.specs.Machine as machine
use Rattle.definitions.specs.Machine.{call, unless_done, walk, walk_steps}
use Rattle.definitions.specs.Refusals.{step_limit}
use Rattle.definitions.specs.System.{most_component}
use Rattle.laws.specs.CheckLaws.{AllSilent, Decides, FirstDue, Renders, Rules, rule}
use Rattle.laws.proofs.CheckLaws.{check_cases, decides_if, refuse_not_go, renders_last, renders_then}
use Rattle.laws.proofs.MachineLaws.{call_refused, call_walks, walk_done, walk_more, walk_paused, walk_refused}
use Rattle.theorems.specs.CallAnswers.{Ruled}
use Rattle.theorems.proofs.CallAnswers.{call_answers, call_paced}
use Rattle.engine_spec.specs.Calls as calls
use Rattle.engine_spec.specs.Calls.{resume, resume_checks}
use Rattle.engine_spec.specs.Caps.{Over, is_over}
use Rattle.engine_spec.proofs.Caps.{over_from, over_to}
use Rattle.engine_spec.proofs.Counts.{Timed, turn_timed}
use Rattle.engine_spec.specs.Engine.{Result, Work, after, all_done, basis_row, equation_of, finish, finished, onward, rested, result, run, stays, values_small}
use Rattle.engine_spec.proofs.Reducing.{reducible_to}
use Rattle.engine_spec.specs.Reduction.{is_small, reducible}
use Rattle.engine_spec.proofs.ReductionLaws.{reducible_from}
use Rattle.engine_spec.proofs.Rules.{resume_renders, resume_rules}
use Rattle.engine_spec.specs.Signs.{Reduced}
use Rattle.engine_spec.specs.Stage.{Stage, Turned, above, degree_turn, due_row, ends, goes, next_degree, pair_turn, paired, row, row_turn, stops, turn}
use Rattle.engine_spec.specs.CallAnswers.{
  AllDone,
  EndsStage,
  EngineAnswers,
  Inner,
  LargeValue,
  NeedsSum,
  Outer,
  Same,
  TakesRow,
  Tells,
  answer_of,
  c,
  end_refusal,
  engine_machine,
  is_end,
  is_last,
  is_needed,
  is_pair,
  is_passed,
  is_row,
  k,
  left_by,
  long,
  next_sum,
  of_machine,
  refusal_of,
  s,
  short,
  tested,
  turn_of,
  turn_rules,
  turns,
  turns_taken,
  under_way,
}

module _ (p q most room : ℕ) where
  rests : (w : Work) → w.equation ≡ p → (n : ℕ) → rested p w ≡ of_machine p (walk n (k p q most room) w)
  unfolding rested
  rests w e n =
      let none : under_way p w ≡ 0 = rw e (number_false (ltb p p) (λ h. omega (arith, ltb→lt p p h))) in
      rw (walk_done (k p q most room) w n none).0

  ends_as : (w : Work) (n : ℕ) → finish p q most w ≡ of_machine p (machine.checked (end_refusal q most w) w (λ u. walk n (k p q most room) (finished p q u)))
  unfolding finish machine.checked refuse_with ◌then◌ finished
  ends_as w n = by (ltb w.fresh q && not (values_small q w)) (ltb most (count_to w.stage.rows (stays q w)))
    where
      by : (b c : Bool) → cond b (result (refused 12 []) w) (cond c (result (refused 31 []) w) (rested p (finished p q w)))
          ≡ of_machine p (machine.checked (refuse_if b 12 then refuse_if c 31) w (λ u. walk n (k p q most room) (finished p q u)))
      by true c = refl
      by false true = refl
      by false false = rests (finished p q w) refl n

  turned_as : (t : Turned) (w : Work) (n : ℕ) → w.equation < p
      → ((v : Work) → v.equation < p → run p q most room n v ≡ of_machine p (walk n (k p q most room) v))
      → after p q most t (run p q most room n) w
      ≡ of_machine p (machine.checked (refusal_of t (end_refusal q most w)) w (λ u. walk n (k p q most room) (left_by p q t u)))
  unfolding after machine.checked onward
  turned_as (goes s) w n l h = h (onward s w) l
  turned_as (stops m) w n l h = refl
  turned_as ends w n l h = ends_as w n

  checked_at : (c : Check) (w : Work) (f g : Work → machine.Outcome Work) → f w ≡ g w → machine.checked c w f ≡ machine.checked c w g
  unfolding machine.checked
  checked_at (refuse n values) w f g e = refl
  checked_at go w f g e = e

  unless_at : (b : Bool) (w : Work) (f : Work → machine.Outcome Work) → T b → unless_done (eqb (number b) 0) w f ≡ f w
  unfolding unless_done
  unless_at true w f h = refl
  unless_at false w f h = absurd h

  run_as : (budget : ℕ) (w : Work) → w.equation < p → run p q most room budget w ≡ of_machine p (walk budget (k p q most room) w)
  unfolding run walk
  run_as zero w l = ap (of_machine p) (sym (unless_at (ltb w.equation p) w _ (lt→ltb w.equation p l)))
  run_as (suc budget) w l =
      turned_as (turn_of q room w) w budget l (run_as budget)
      ∙ ap (of_machine p) (checked_at (refusal_of (turn_of q room w) (end_refusal q most w)) w _ _ refl
      ∙ sym (unless_at (ltb w.equation p) w
      (λ t. machine.checked ((k p q most room).refusals t) t (λ u. walk budget (k p q most room) ((k p q most room).step u))) (lt→ltb w.equation p l)))

  work_as : (budget : ℕ) (w : Work) → cond (ltb w.equation p) (run p q most room budget w) (rested p w) ≡ of_machine p (walk budget (k p q most room) w)
  unfolding rested
  work_as budget w = by (ltb w.equation p) (λ h. run_as budget w (ltb→lt w.equation p h)) (λ h. (walk_done (k p q most room) w budget h).0)
    where
      by : (b : Bool) → (T b → run p q most room budget w ≡ of_machine p (walk budget (k p q most room) w))
          → (number b ≡ 0 → walk budget (k p q most room) w ≡ record { answer = complete; state = w })
          → cond b (run p q most room budget w) (rested p w) ≡ of_machine p (walk budget (k p q most room) w)
      by true f g = f tt
      by false f g = rw (g refl)

  calls_as : (c : Check) (w : Work) (f : Work → Result) (g : Work → machine.Outcome Work) → f w ≡ of_machine p (g w)
      → calls.checked c w f ≡ of_machine p (machine.checked c w g)
  unfolding calls.checked machine.checked
  calls_as (refuse n values) w f g e = refl
  calls_as go w f g e = e

  resume_as : (budget : ℕ) (w : Work) → resume p q most room budget w ≡ of_machine p (call budget (k p q most room) w)
  unfolding resume call
  resume_as budget w = calls_as (resume_checks p q most room w) w _ _ (work_as budget w)

tells_not : (b : Bool) {P : Type 0} → Tells b P → Tells (not b) (¬ P)
tells_not b (f, g) = (λ h p. T_not b h (g p), λ n. not_T b (λ h. n (f h)))

tells_and : (b c : Bool) {P Q : Type 0} → Tells b P → Tells c Q → Tells (b && c) (P × Q)
tells_and b c (f, g) (f', g') = (λ h. let (x, y) = and_parts b c h in (f x, f' y), λ (x, y). and_both b c (g x) (g' y))

tells_or : (b c : Bool) {P Q : Type 0} → Tells b P → Tells c Q → Tells (b || c) (P ⊎ Q)
tells_or b c (f, g) (f', g') =
    (λ h. elim (or_cases b c h) [ inl x ↦ inl (f x) | inr y ↦ inr (f' y) ], λ h. elim h [ inl x ↦ or_left b c (g x) | inr y ↦ or_right b c (g' y) ])

tells_below : (m n : ℕ) → Tells (ltb m n) (m < n)
tells_below m n = (ltb→lt m n, lt→ltb m n)

tells_least : (m n : ℕ) → Tells (not (ltb m n)) (n ≤ m)
tells_least m n = (λ h. nltb→le m n h, λ l. not_T (ltb m n) (λ h. omega (arith, ltb→lt m n h)))

tells_equal : (m n : ℕ) → Tells (eqb m n) (m ≡ n)
tells_equal m n = (eqb→eq m n, λ e. rw e (eqb_refl n))

tells_large : (q : ℕ) (z : ℕ → ℕ) → Tells (not (is_small q z)) ((j : ℕ) × (j < q) × (most_component < z j))
unfolding is_small
tells_large q z = (
  λ h. let (j, jq, n) = all_not q (λ j. leb (z j) most_component) (T_not (all_to q (λ j. leb (z j) most_component)) h) in
      (j, jq, elim (split most_component (z j)) [ inl l ↦ l | inr l ↦ absurd (n (le→leb (z j) most_component l)) ]),
  λ (j, jq, l). not_T (all_to q (λ j. leb (z j) most_component)) (λ h. omega (arith, leb→le (z j) most_component (all_at q _ h j jq))),
)

tells_values : (q : ℕ) (w : Work) → Tells (not (values_small q w)) (LargeValue q w)
unfolding values_small
tells_values q w =
    let f : ℕ → Bool = λ i. le_z (value (equation_of q w) q (row q w.stage i)) (pos most_component) in (
      λ h. let (i, l, n) = all_not w.stage.rows f (T_not (all_to w.stage.rows f) h) in (i, l, λ y. n y.le),
      λ (i, l, n). not_T (all_to w.stage.rows f)
          (λ h. n (le_z_yes {a = value (equation_of q w) q (row q w.stage i)} {b = pos most_component} (all_at w.stage.rows f h i l))),
    )

tells_over : (cap : ℕ) (z : ℕ → ℕ) → Tells (is_over cap z) (Over cap z)
tells_over cap z = (over_from cap z, over_to cap z)

tells_reduced : (q : ℕ) (c : ℕ → ℤ) (n : ℕ) (row : ℕ → ℕ → ℕ) (z : ℕ → ℕ) → Tells (reducible q c n row z (value c q z)) (Reduced q c n row z)
tells_reduced q c n row z = (reducible_from q c n row z, reducible_to q c n row z)

-- the tests in the order of the turn: the limit, a row of the basis, a pair, its sum needless, small, room for a row; no degree left, values large, no room in
-- the basis
search_is : (b r h needless small fits last large full : Bool) (taken skip more next : Stage)
    → refusal_of (cond b (stops 14) (cond r (cond fits (goes taken) (stops 31)) (cond h (paired needless small fits skip more) (cond last ends (goes next)))))
    (refuse_if large 12 then refuse_if full 31)
    ≡ (refuse_if b 14
    then refuse_if ((((not r && h) && not needless) && not small) || ((not r && (not h && last)) && large)) 12
    then refuse_if (((r || ((not r && h) && not needless)) && not fits) || ((not r && (not h && last)) && full)) 31)
unfolding refuse_with ◌then◌ paired
search_is true r h needless small fits last large full taken skip more next = refl
search_is false true h needless small true last large full taken skip more next = refl
search_is false true h needless small false last large full taken skip more next = refl
search_is false false true true small fits last large full taken skip more next = refl
search_is false false true false false fits last large full taken skip more next = refl
search_is false false true false true false last large full taken skip more next = refl
search_is false false true false true true last large full taken skip more next = refl
search_is false false false needless small fits true true full taken skip more next = refl
search_is false false false needless small fits true false full taken skip more next = refl
search_is false false false needless small fits false large full taken skip more next = refl

module _ (q most room : ℕ) (w : Work) where
  tells_row : Tells (is_row q most room w) (TakesRow q w)
  tells_row = tells_below (due_row q w.count (basis_row q w) (s q most room w)) w.count

  tells_pair : Tells (is_pair q most room w) (above q (c q most room w) (s q most room w) < (s q most room w).rows)
  tells_pair = tells_below (above q (c q most room w) (s q most room w)) (s q most room w).rows

  tells_needed : Tells (is_needed q most room w) (NeedsSum q w)
  tells_needed =
      tells_and (not (is_row q most room w) && (is_pair q most room w)) (not (is_passed q most room w))
      (tells_and (not (is_row q most room w)) (is_pair q most room w) (tells_not (is_row q most room w) tells_row) tells_pair)
      (tells_not (is_passed q most room w)
      (tells_or (is_over (s q most room w).cap (next_sum q w)) _ (tells_over (s q most room w).cap (next_sum q w))
      (tells_reduced q (c q most room w) (s q most room w).rows (row q (s q most room w)) (next_sum q w))))

  tells_end : Tells (is_end q most room w) (EndsStage q w)
  tells_end =
      tells_and (not (is_row q most room w)) (not (is_pair q most room w) && (is_last q most room w)) (tells_not (is_row q most room w) tells_row)
      (tells_and (not (is_pair q most room w)) (is_last q most room w) (tells_not (is_pair q most room w) tells_pair)
      (tells_equal (next_degree q (c q most room w) w.count (basis_row q w) (s q most room w)) 0))

  decides : (b : Bool) (n : ℕ) {P : Type 0} → Tells b P → Decides (refuse_if b n) (rule n P)
  decides b n {P} (f, g) = decides_if b n P f g

  pub turn_renders : Renders (refusal_of (turn_of q room w) (end_refusal q most w)) (turn_rules q most room w)
  unfolding turn row_turn pair_turn degree_turn
  turn_renders =
      let b = eqb (s q most room w).steps step_limit in
      let small = is_small q (next_sum q w) in
      let fits = ltb (s q most room w).rows room in
      let large = ltb w.fresh q && not (values_small q w) in
      let full = ltb most (count_to (s q most room w).rows (stays q w)) in
      subst (λ x. Renders x (turn_rules q most room w))
      (sym (search_is b (is_row q most room w) (is_pair q most room w) (is_passed q most room w) small fits (is_last q most room w) large full _ _ _ _))
      (renders_then (decides b 14 (tells_equal (s q most room w).steps step_limit))
      (renders_then
      (decides _ 12
      (tells_or ((is_needed q most room w) && not small) ((is_end q most room w) && large)
      (tells_and (is_needed q most room w) (not small) tells_needed (tells_large q (next_sum q w)))
      (tells_and (is_end q most room w) large tells_end (tells_and (ltb w.fresh q) (not (values_small q w)) (tells_below w.fresh q) (tells_values q w)))))
      (renders_last
      (decides _ 31
      (tells_or (((is_row q most room w) || (is_needed q most room w)) && not fits) ((is_end q most room w) && full)
      (tells_and ((is_row q most room w) || (is_needed q most room w)) (not fits)
      (tells_or (is_row q most room w) (is_needed q most room w) tells_row tells_needed) (tells_least (s q most room w).rows room))
      (tells_and (is_end q most room w) full tells_end (tells_below most (count_to (s q most room w).rows (stays q w)))))))))

-- ---- the answers

module _ (p : ℕ) (v : Work) where
  resting_low : under_way p v ≡ 0 → p ≤ v.equation
  resting_low e = elim (split v.equation p) [ inl l ↦ absurd (omega (arith, number_true (ltb v.equation p) (lt→ltb v.equation p l))) | inr l ↦ l ]

  low_resting : p ≤ v.equation → under_way p v ≡ 0
  low_resting l = number_false (ltb v.equation p) (λ h. omega (arith, ltb→lt v.equation p h))

  going_high : 0 < under_way p v → v.equation < p
  going_high h = elim (split v.equation p) [ inl l ↦ l | inr l ↦ absurd (omega (arith, low_resting l)) ]

  high_going : v.equation < p → 0 < under_way p v
  high_going l = omega (arith, number_true (ltb v.equation p) (lt→ltb v.equation p l))

module _ (before within : Rules) (p budget taken : ℕ) (v : Work) where
  refuses_as : {a : Answer} → (Inner before within p budget taken v) a → (n : ℕ) (values : List ℕ)
      → (a ≡ refused n values) ↔ (FirstDue before n values ⊎ (AllSilent before × (v.equation < p) × (taken < budget) × FirstDue within n values))
  refuses_as x n values = (
    λ e. elim ((x.refuses n values).0 e) [ inl d ↦ inl d | inr (q, h, l, d) ↦ inr (q, going_high p v h, l, d) ],
    λ d. (x.refuses n values).1 (elim d [ inl y ↦ inl y | inr (q, g, l, y) ↦ inr (q, high_going p v g, l, y) ]),
  )

  rested_as : (b : Bool) → Tells b (AllDone p v) → (Inner before within p budget taken v) complete
      → (Outer before within p budget taken v) (cond b complete paused)
  rested_as true t x =
      let (quiet, z) = x.completes.0 refl in
      record {
        completes = (λ e. (quiet, resting_low p v z, t.0 tt), λ d. refl);
        pauses = (
          λ e. absurd (let o : ◌≡◌ {A = ℕ} 0 1 = cc in omega arith),
          λ (s, d). absurd (elim d [ inl (l, n) ↦ n (t.0 tt) | inr (l, n) ↦ omega (arith, z, high_going p v l) ]),
        );
        refuses = refuses_as x;
        never = x.never;
      }
  rested_as false t x =
      let (quiet, z) = x.completes.0 refl in
      record {
        completes = (λ e. absurd (let o : ◌≡◌ {A = ℕ} 0 1 = cc in omega arith), λ (s, l, d). absurd (t.1 d));
        pauses = (λ e. (quiet, inl (resting_low p v z, t.1)), λ d. refl);
        refuses = λ n values. (
          λ e. absurd (let o : ◌≡◌ {A = ℕ} 0 1 = cc in omega arith),
          λ d. absurd (let f = (refuses_as x n values).1 d in let o : ◌≡◌ {A = ℕ} 0 1 = cc in omega arith),
        );
        never = λ e. let o : ◌≡◌ {A = ℕ} 0 1 = cc in omega arith;
      }

  answers_as : (a : Answer) → (Inner before within p budget taken v) a → (Outer before within p budget taken v) (answer_of p a v)
  unfolding all_done
  answers_as complete x = rested_as (eqb v.done (2 ^ p - 1)) (tells_equal v.done (2 ^ p - 1)) x
  answers_as paused x =
      let (quiet, h, u) = x.pauses.0 refl in
      record {
        completes = (λ e. absurd (let o : ◌≡◌ {A = ℕ} 0 1 = cc in omega arith), λ (s, l, d). absurd (omega (arith, low_resting p v l)));
        pauses = (λ e. (quiet, inr (going_high p v h, u)), λ d. refl);
        refuses = refuses_as x;
        never = x.never;
      }
  answers_as started x = absurd (x.never refl)
  answers_as (refused n values) x =
      record {
        completes = (λ e. absurd (let o : ◌≡◌ {A = ℕ} 0 1 = cc in omega arith), λ (s, l, d). x.completes.1 (s, low_resting p v l));
        pauses = (
          λ e. absurd (let o : ◌≡◌ {A = ℕ} 0 1 = cc in omega arith),
          λ (s, d). elim d [
            | inl (l, m) ↦ absurd (let f = x.completes.1 (s, low_resting p v l) in let o : ◌≡◌ {A = ℕ} 0 1 = cc in omega arith)
            | inr (l, m) ↦ x.pauses.1 (s, high_going p v l, m)
          ],
        );
        refuses = refuses_as x;
        never = x.never;
      }

module _ (p q most room : ℕ) where
  ruled : Ruled (engine_machine p q most room) (resume_rules p q most room) (turn_rules q most room)
  ruled = record { before_renders = λ w. resume_renders p q most room w; within_renders = λ w. turn_renders q most room w }

  -- Each answer in its case and in no other.
  pub engine_answers : (budget : ℕ) (w : Work) → let o = resume p q most room budget w in
      EngineAnswers (resume_rules p q most room w) (turn_rules q most room o.work) p budget (turns_taken p q most room budget w) o.work o.answer
  engine_answers budget w =
      let o = call budget (engine_machine p q most room) w in
      rw (resume_as p q most room budget w)
      (answers_as (resume_rules p q most room w) (turn_rules q most room o.state) p budget (turns_taken p q most room budget w) o.state o.answer
      (call_answers ruled budget w))

  -- ---- the record counts the turns

  stepped : (t : Turned) (w : Work) → Timed w.stage t → refusal_of t (end_refusal q most w) ≡ go → (left_by p q t w).stage.steps ≡ w.stage.steps + 1
  unfolding onward finished
  stepped (goes s) w c e = c.1
  stepped (stops n) w c e = absurd (let z : ◌≡◌ {A = ℕ} 0 1 = cc in omega arith)
  stepped ends w c e = refl

  walk_counts : (n : ℕ) (w : Work) → let k = engine_machine p q most room in (walk n k w).state.stage.steps ≡ w.stage.steps + walk_steps n k w
  walk_counts zero w =
      let k = engine_machine p q most room in
      elim (ℕ_discrete (under_way p w) 0) [
        | yes e ↦ let d = walk_done k w 0 e in rw (d.0, d.1) (omega arith)
        | no ne ↦ let d = walk_paused k w (omega (arith, ne)) in rw (d.0, d.1) (omega arith)
      ]
  walk_counts (suc n) w =
      let k = engine_machine p q most room in
      elim (ℕ_discrete (under_way p w) 0) [
        | yes e ↦ let d = walk_done k w (suc n) e in rw (d.0, d.1) (omega arith)
        | no ne ↦
            let h : 0 < under_way p w = omega (arith, ne) in
            let t = turn_of q room w in
            elim (check_cases (refusal_of t (end_refusal q most w))) [
              | inl e ↦
                  let d = walk_more k w n h e in
                  rw (d.0, d.1)
                  (omega (
                    arith,
                    walk_counts n (left_by p q t w),
                    stepped t w (turn_timed q (equation_of q w) w.count (basis_row q w) room w.stage) e,
                  ))
              | inr (r, values, e) ↦ let d = walk_refused k w n r values h e in rw (d.0, d.1) (omega arith)
            ]
      ]

  -- the steps that the record shows grow by the turns that a call took, which are at most its budget
  pub counted : (budget : ℕ) (w : Work) → (resume p q most room budget w).work.stage.steps ≡ w.stage.steps + turns_taken p q most room budget w
  counted budget w =
      let k = engine_machine p q most room in
      ap (λ o. o.work.stage.steps) (resume_as p q most room budget w)
      ∙ elim (check_cases (resume_checks p q most room w)) [
        | inl e ↦ let d = call_walks k w budget e in rw (d.0, d.1) (walk_counts budget w)
        | inr (r, values, e) ↦ let d = call_refused k w budget r values e in rw (d.0, d.1) (omega arith)
      ]

  pub few_turns : (budget : ℕ) (w : Work) → turns_taken p q most room budget w ≤ budget
  few_turns budget w = (call_paced ruled budget w).few

  -- a call that was let go on and refused was refused by the rules of a turn
  pub refused_by : (budget : ℕ) (w : Work) → resume_checks p q most room w ≡ go → (n : ℕ) (values : List ℕ)
      → (resume p q most room budget w).answer ≡ refused n values → let v = (resume p q most room budget w).work in
      (v.equation < p) × FirstDue (turn_rules q most room v) n values
  refused_by budget w e n values a =
      elim (((engine_answers budget w).refuses n values).0 a) [
        | inl d ↦ absurd (refuse_not_go {n = n} {values = values} (sym ((resume_renders p q most room w).due n values d) ∙ e))
        | inr (quiet, going, left, d) ↦ (going, d)
      ]

  -- and is refused so again, with any budget above 0
  pub refuses_again : (budget : ℕ) (w : Work) → resume_checks p q most room w ≡ go → let v = (resume p q most room budget w).work in
      resume_checks p q most room v ≡ go → (n : ℕ) (values : List ℕ) → (resume p q most room budget w).answer ≡ refused n values → (more : ℕ)
      → resume p q most room (suc more) v ≡ result (refused n values) v
  refuses_again budget w e f n values a more =
      let v : Work = (resume p q most room budget w).work in
      let k = engine_machine p q most room in
      let (going, d) = refused_by budget w e n values a in
      let stops-there = (walk_refused k v more n values (high_going p v going) ((turn_renders q most room v).due n values d)).0 in
      resume_as p q most room (suc more) v ∙ ap (of_machine p) ((call_walks k v (suc more) f).0 ∙ stops-there)

  -- a turn that no rule refuses is taken
  pub turn_taken : (w : Work) → resume_checks p q most room w ≡ go → w.equation < p → AllSilent (turn_rules q most room w) → (more : ℕ)
      → 0 < turns_taken p q most room (suc more) w
  turn_taken w e going silent more =
      let k = engine_machine p q most room in
      omega (arith, (call_walks k w (suc more) e).1, (walk_more k w more (high_going p w going) ((turn_renders q most room w).silent silent)).1)

tested_more : (b r h needless small fits fits' last large full full' : Bool) (taken skip more next : Stage) → (T fits → T fits') → (T full' → T full)
    → refusal_of (tested b r h needless small fits last taken skip more next) (refuse_if large 12 then refuse_if full 31) ≡ go
    → Same (tested b r h needless small fits last taken skip more next) (tested b r h needless small fits' last taken skip more next)
    (refuse_if large 12 then refuse_if full' 31)
unfolding refuse_with ◌then◌ paired
tested_more true r h needless small fits fits' last large full full' taken skip more next f g e = absurd (refuse_not_go e)
tested_more false true h needless small false fits' last large full full' taken skip more next f g e = absurd (refuse_not_go e)
tested_more false true h needless small true true last large full full' taken skip more next f g e = (refl, refl)
tested_more false true h needless small true false last large full full' taken skip more next f g e = absurd (f tt)
tested_more false false true true small fits fits' last large full full' taken skip more next f g e = (refl, refl)
tested_more false false true false false fits fits' last large full full' taken skip more next f g e = absurd (refuse_not_go e)
tested_more false false true false true false fits' last large full full' taken skip more next f g e = absurd (refuse_not_go e)
tested_more false false true false true true true last large full full' taken skip more next f g e = (refl, refl)
tested_more false false true false true true false last large full full' taken skip more next f g e = absurd (f tt)
tested_more false false false needless small fits fits' false large full full' taken skip more next f g e = (refl, refl)
tested_more false false false needless small fits fits' true true full full' taken skip more next f g e = absurd (refuse_not_go e)
tested_more false false false needless small fits fits' true false full false taken skip more next f g e = (refl, refl)
tested_more false false false needless small fits fits' true false true true taken skip more next f g e = absurd (refuse_not_go e)
tested_more false false false needless small fits fits' true false false true taken skip more next f g e = absurd (g tt)

module _ (p q most room most' room' : ℕ) (wider : most ≤ most') (longer : room ≤ room') where
  turn_more : (w : Work) → (short p q most room most' room' wider longer).refusals w ≡ go → Same (turn_of q room w) (turn_of q room' w) (end_refusal q most' w)
  unfolding turn row_turn pair_turn degree_turn
  turn_more w =
      let s = w.stage in
      let n = count_to s.rows (stays q w) in
      tested_more (eqb s.steps step_limit) (is_row q most room w) (is_pair q most room w) (is_passed q most room w) (is_small q (next_sum q w))
      (ltb s.rows room) (ltb s.rows room') (is_last q most room w) (ltb w.fresh q && not (values_small q w)) (ltb most n) (ltb most' n) _ _ _ _
      (λ h. lt→ltb s.rows room' (omega (arith, ltb→lt s.rows room h))) (λ h. lt→ltb most n (omega (arith, ltb→lt most' n h)))

  walk_longer : (b c : ℕ) (w : Work) → walk c (long p q most room most' room' wider longer) (walk b (short p q most room most' room' wider longer) w).state
      ≡ walk (walk_steps b (short p q most room most' room' wider longer) w + c) (long p q most room most' room' wider longer) w
  walk_longer zero c w =
      let none : 0 + c ≡ c = omega arith in
      elim (ℕ_discrete (under_way p w) 0) [
        | yes e ↦ let d = walk_done (short p q most room most' room' wider longer) w 0 e in rw (d.0, d.1, none) refl
        | no ne ↦ let d = walk_paused (short p q most room most' room' wider longer) w (omega (arith, ne)) in rw (d.0, d.1, none) refl
      ]
  walk_longer (suc b) c w =
      let none : 0 + c ≡ c = omega arith in
      elim (ℕ_discrete (under_way p w) 0) [
        | yes e ↦ let d = walk_done (short p q most room most' room' wider longer) w (suc b) e in rw (d.0, d.1, none) refl
        | no ne ↦
            let h : 0 < under_way p w = omega (arith, ne) in
            elim (check_cases ((short p q most room most' room' wider longer).refusals w)) [
              | inl e ↦
                  let d = walk_more (short p q most room most' room' wider longer) w b h e in
                  let (same, g) = turn_more w e in
                  let v : Work = left_by p q (turn_of q room w) w in
                  let one : suc (walk_steps b (short p q most room most' room' wider longer) v) + c
                  ≡ suc (walk_steps b (short p q most room most' room' wider longer) v + c) = omega arith in
                  rw (d.0, d.1, one)
                  (walk_longer b c v
                  ∙ sym ((walk_more (long p q most room most' room' wider longer) w (walk_steps b (short p q most room most' room' wider longer) v + c) h g).0
                  ∙ ap (λ t. walk (walk_steps b (short p q most room most' room' wider longer) v + c) (long p q most room most' room' wider longer)
                  (left_by p q t w)) same))
              | inr (r, values, e) ↦ let d = walk_refused (short p q most room most' room' wider longer) w b r values h e in rw (d.0, d.1, none) refl
            ]
      ]

  -- ---- of the calls

  resume_walks : (m n : ℕ) (w : Work) → resume_checks p q m n w ≡ go → (budget : ℕ)
      → resume p q m n budget w ≡ of_machine p (walk budget (engine_machine p q m n) w)
  resume_walks m n w e budget = resume_as p q m n budget w ∙ ap (of_machine p) (call_walks (engine_machine p q m n) w budget e).0

  module _ (w : Work) (b : ℕ) (e : resume_checks p q most room w ≡ go) (e' : resume_checks p q most' room' w ≡ go) where
    left_walks : (resume p q most room b w).work ≡ (walk b (short p q most room most' room' wider longer) w).state
    left_walks = ap (λ o. o.work) (resume_walks most room w e b)

    stays_here : (v : Work) → (walk 0 (long p q most room most' room' wider longer) v).state ≡ v
    stays_here v =
        elim (ℕ_discrete (under_way p v) 0) [
          | yes z ↦ ap (λ o. o.state) (walk_done (long p q most room most' room' wider longer) v 0 z).0
          | no nz ↦ ap (λ o. o.state) (walk_paused (long p q most room most' room' wider longer) v (omega (arith, nz))).0
        ]

    -- what a call with less room leaves, one with more room and a budget of the turns that it took leaves too
    pub longer_left : (resume p q most room b w).work ≡ (resume p q most' room' (turns p q most room most' room' wider longer w b e e') w).work
    longer_left =
        let t = (call_walks (short p q most room most' room' wider longer) w b e).1 in
        let none : walk_steps b (short p q most room most' room' wider longer) w + 0 ≡ walk_steps b (short p q most room most' room' wider longer) w =
        omega arith in
        left_walks ∙ sym (stays_here (walk b (short p q most room most' room' wider longer) w).state) ∙ ap (λ o. o.state) (walk_longer b 0 w)
        ∙ (rw (none, t) (sym (ap (λ o. o.work) (resume_walks most' room' w e' (walk_steps b (short p q most room most' room' wider longer) w)))))

    -- and a later call with more room goes on as one call with it would have, with both budgets
    pub longer_on : resume_checks p q most' room' (resume p q most room b w).work ≡ go → (c : ℕ)
        → resume p q most' room' c (resume p q most room b w).work ≡ resume p q most' room' ((turns p q most room most' room' wider longer w b e e') + c) w
    longer_on f c =
        let t = (call_walks (short p q most room most' room' wider longer) w b e).1 in
        resume_walks most' room' (resume p q most room b w).work f c
        ∙ ap (λ v. of_machine p (walk c (long p q most room most' room' wider longer) v)) left_walks ∙ ap (of_machine p) (walk_longer b c w)
        ∙ (rw t (sym (resume_walks most' room' w e' (walk_steps b (short p q most room most' room' wider longer) w + c))))
