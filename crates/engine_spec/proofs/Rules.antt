-- Theorems about what specs/Rules.antt defines. Assumes nothing.
use Rattle.std.specs.Prelude.{◌≡◌, ◌≢◌, ◌⊎◌, Bool, true, false, ◌&&◌, ◌||◌, List, ℕ, ◌*◌, ◌-◌, ◌^◌, ◌≤◌, ◌<◌, T, eqb, ℤ, pos, negsuc, nat_abs, get_or, length}
use Rattle.std.proofs.Common.{ap, lt→ltb}
use Rattle.std.proofs.Math.Logic.{inl, inr}
use Rattle.std.proofs.Math.Bool.{not}
use Rattle.std.proofs.Math.Dec.{T_not, eqb→eq, eqb_refl, leb, leb→le, le→leb, ltb, ltb→lt, not_T}
use Rattle.linear.proofs.TestLaws.{all_at, all_from, and_both, and_parts, any_at, any_from}
use Rattle.linear.specs.Tests.{all_to, any_to}
use Rattle.linear.specs.Tuples.{total}
use Rattle.definitions.specs.Answers.{Check, go}
use Rattle.definitions.specs.Refusals.{step_limit}
use Rattle.definitions.specs.System.{coef_limit, is_zero, most_component}
use Rattle.definitions.specs.Tables.{at, frozen}
use Rattle.laws.specs.CheckLaws.{Decides, Renders, Rules, ◌▹◌, end, placed, rule}
use Rattle.laws.proofs.CheckLaws.{decides_first, decides_if, decides_not, renders_end, renders_last, renders_then}
use Rattle.laws.specs.RefusalLaws.{Outside}
use Rattle.laws.proofs.RefusalLaws.{decides_outside, decides_unequal}
use Rattle.laws.proofs.SystemLaws.{is_zero_lem, zero_is}
use Rattle.engine_spec.specs.Beside.{coefficient_limit, most_columns, most_rows}
use Rattle.engine_spec.specs.Calls.{check4, coefficients_small, combine_checks, in_order, is_alone, is_free, is_fresh, is_left, is_list, is_minus_one}
use Rattle.engine_spec.specs.Calls.{is_operation, is_rising, is_row, marks_in_order, resume_checks, standing_then, start_checks, start_from_checks, take_checks}
use Rattle.engine_spec.specs.Caps.{is_capped}
use Rattle.engine_spec.proofs.Caps.{capped_not, not_capped}
use Rattle.engine_spec.specs.Engine.{Work, basis_row, combination, system}
use Rattle.engine_spec.specs.Reduction.{is_small}
use Rattle.engine_spec.specs.Stage.{row}
use Rattle.engine_spec.specs.Rules.{Short}

-- ---- the cases

-- A record and tables in order.
pub record InOrder (p q most room : ℕ) (w : Work) : Type 0 where
  -- no more rows than there is room for, and no more steps than their limit
  pub few : w.count ≤ most
  pub fits : w.stage.rows ≤ room
  pub early : w.stage.steps ≤ step_limit
  -- the marks are of equations that there are; the equation under way is one that is not done, or there is none
  pub marks : w.done < 2 ^ p
  pub equation : w.equation ≤ p
  pub left : w.equation < p → ¬ (T (frozen w.done w.equation))
  -- the coefficients of the working system are in their range
  pub range : (k : ℕ) → k < p * q → nat_abs (get_or w.equations k (pos 0)) ≤ coefficient_limit
  -- the rows are within the component limit; none of the basis is all zero; those of the stage rise from degree 1 on up to the one under way
  pub basis : (i j : ℕ) → i < w.count → j < q → basis_row q w i j ≤ most_component
  pub some : (i : ℕ) → i < w.count → 0 < total (basis_row q w i) q
  pub rows : (i j : ℕ) → i < w.stage.rows → j < q → row q w.stage i j ≤ most_component
  pub positive : (i : ℕ) → i < w.stage.rows → 0 < total (row q w.stage i) q
  pub rising : (i : ℕ) → i < w.stage.rows → total (row q w.stage (i - 1)) q ≤ total (row q w.stage i) q
  pub low : (i : ℕ) → i < w.stage.rows → total (row q w.stage i) q ≤ w.stage.degree

-- Equation e is left: no stage is under way, there is such an equation, and it is not done.
pub record Left (p e : ℕ) (w : Work) : Type 0 where
  pub rests : w.equation ≡ p
  pub low : e < p
  pub undone : ¬ (T (frozen w.done e))

-- The unknown f is fresh in equation e: it has no cap, the coefficient −1 there, no equation done mentions it, and of the basis only its unit tuple has it.
pub record Fresh (p q e f : ℕ) (w : Work) : Type 0 where
  pub uncapped : 0 < w.stage.cap → 0 < f
  pub low : f < q
  pub minus : system q w e f ≡ negsuc 0
  pub free : (i : ℕ) → i < p → T (frozen w.done i) → system q w i f ≡ pos 0
  pub there : (i : ℕ) × (i < w.count) × (0 < basis_row q w i f)
  pub alone : (i : ℕ) → i < w.count → (basis_row q w i f ≡ 0) ⊎ (total (basis_row q w i) q ≡ 1)

-- A list handed over: n rows of q numbers, each within the component limit and not all zero.
pub record IsList (q n : ℕ) (rows : List ℕ) : Type 0 where
  pub numbers : length rows ≡ n * q
  pub small : (i j : ℕ) → i < n → j < q → at rows q i j ≤ most_component
  pub some : (i : ℕ) → i < n → 0 < total (at rows q i) q

-- u times equation r and t times equation s is a row operation that stays in the coefficients' range.
pub record Operation (q r s : ℕ) (u t : ℤ) (w : Work) : Type 0 where
  pub some : u ≢ pos 0
  pub apart : (r ≢ s) ⊎ (t ≡ pos 0)
  pub range : (j : ℕ) → j < q → nat_abs (combination q (system q w) r s u t j) ≤ coefficient_limit

abbrev pub start_rules : (p q : ℕ) (coefs : List ℤ) (most : ℕ) → Work → Rules
start_rules p q coefs most w =
    rule 1 (Outside 1 most_rows p)
    ▹ rule 2 (Outside 1 most_columns q)
    ▹ rule 3 (length coefs ≢ p * q)
    ▹ rule 4 (Short p q most w)
    ▹ placed 7 (p * q) (λ k. coef_limit < nat_abs (get_or coefs k (pos 0)))
    ▹ end

-- the start from a list of n rows: 4 also where there is no room for these, and 6 of the list
abbrev pub start_from_rules : (p q : ℕ) (coefs : List ℤ) (n : ℕ) (rows : List ℕ) (most : ℕ) → Work → Rules
start_from_rules p q coefs n rows most w =
    rule 1 (Outside 1 most_rows p)
    ▹ rule 2 (Outside 1 most_columns q)
    ▹ rule 3 (length coefs ≢ p * q)
    ▹ rule 4 (Short p q most w)
    ▹ rule 4 (most < n)
    ▹ rule 6 (¬ (IsList q n rows))
    ▹ placed 7 (p * q) (λ k. coef_limit < nat_abs (get_or coefs k (pos 0)))
    ▹ end

-- every call on a run, and then what is its own
abbrev pub standing_rules : (p q most room : ℕ) → Work → Rules → Rules
standing_rules p q most room w own =
    rule 1 (Outside 1 most_rows p) ▹ rule 2 (Outside 1 most_columns q) ▹ rule 4 (Short p q most w) ▹ rule 6 (¬ (InOrder p q most room w)) ▹ own

abbrev pub resume_rules : (p q most room : ℕ) → Work → Rules
resume_rules p q most room w = standing_rules p q most room w end

abbrev pub take_rules : (p q most room e f : ℕ) → Work → Rules
take_rules p q most room e f w = standing_rules p q most room w (rule 32 (¬ (Left p e w)) ▹ rule 33 (¬ ((f ≡ q) ⊎ Fresh p q e f w)) ▹ end)

abbrev pub combine_rules : (p q most room r s : ℕ) (u t : ℤ) → Work → Rules
combine_rules p q most room r s u t w =
    standing_rules p q most room w (rule 32 (¬ (Left p r w × (s < p))) ▹ rule 34 (¬ (Operation q r s u t w)) ▹ end)

-- ---- what the tests say

or_from : (b c : Bool) → T (b || c) → T b ⊎ T c
or_from true c h = inl tt
or_from false c h = inr h

or_to : (b c : Bool) → T b ⊎ T c → T (b || c)
or_to true c h = tt
or_to false c (inl h) = absurd h
or_to false c (inr h) = h

pub short_decides : (p q most : ℕ) (w : Work) → Decides (check4 p q most w) (rule 4 (Short p q most w))
short_decides p q most w =
    let a = ltb (length w.equations) (p * q) in
    let b = ltb most q in
    decides_if (a || b) 4 (Short p q most w)
    (λ h. elim (or_from a b h) [ inl x ↦ inl (ltb→lt (length w.equations) (p * q) x) | inr x ↦ inr (ltb→lt most q x) ])
    (λ h. or_to a b (elim h [ inl x ↦ inl (lt→ltb (length w.equations) (p * q) x) | inr x ↦ inr (lt→ltb most q x) ]))

pub small_from : (q : ℕ) (z : ℕ → ℕ) → T (is_small q z) → (j : ℕ) → j < q → z j ≤ most_component
unfolding is_small
small_from q z h j l = leb→le (z j) most_component (all_at q _ h j l)

pub small_to : (q : ℕ) (z : ℕ → ℕ) → ((j : ℕ) → j < q → z j ≤ most_component) → T (is_small q z)
unfolding is_small
small_to q z h = all_from q _ (λ j l. le→leb (z j) most_component (h j l))

row_from : (q : ℕ) (z : ℕ → ℕ) → T (is_row q z) → T (is_small q z) × (0 < total z q)
unfolding is_row
row_from q z h = let (a, b) = and_parts (is_small q z) _ h in (a, ltb→lt 0 (total z q) b)

row_to : (q : ℕ) (z : ℕ → ℕ) → T (is_small q z) → 0 < total z q → T (is_row q z)
unfolding is_row
row_to q z a b = and_both (is_small q z) _ a (lt→ltb 0 (total z q) b)

marks_from : (p done equation : ℕ) → T (marks_in_order p done equation) → (equation ≤ p) × (equation < p → ¬ (T (frozen done equation)))
unfolding marks_in_order
marks_from p done equation h =
    let (a, b) = and_parts (leb equation p) _ h in
    (leb→le equation p a, λ l f. T_not (ltb equation p && frozen done equation) b (and_both (ltb equation p) _ (lt→ltb equation p l) f))

marks_to : (p done equation : ℕ) → equation ≤ p → (equation < p → ¬ (T (frozen done equation))) → T (marks_in_order p done equation)
unfolding marks_in_order
marks_to p done equation low left =
    and_both (leb equation p) _ (le→leb equation p low)
    (not_T (ltb equation p && frozen done equation) (λ h. let (a, b) = and_parts (ltb equation p) _ h in left (ltb→lt equation p a) b))

module _ (p q most room : ℕ) (w : Work) where
  abbrev degree : ℕ → ℕ
  degree i = total (row q w.stage i) q

  abbrev rises : ℕ → Bool
  rises i = ltb 0 (degree i) && (leb (degree (i - 1)) (degree i) && leb (degree i) w.stage.degree)

  order_from : T (in_order p q most room w) → InOrder p q most room w
  unfolding in_order coefficients_small is_rising
  order_from h =
      let (a, h₁) = and_parts (leb w.count most && leb w.stage.rows room) _ h in
      let (a₁, a₂) = and_parts (leb w.count most) _ a in
      let (b, h₂) = and_parts (leb w.stage.steps step_limit && ltb w.done (2 ^ p)) _ h₁ in
      let (b₁, b₂) = and_parts (leb w.stage.steps step_limit) _ b in
      let (c, h₃) = and_parts (marks_in_order p w.done w.equation) _ h₂ in
      let (c₁, c₂) = marks_from p w.done w.equation c in
      let (d, h₄) = and_parts (all_to (p * q) (λ k. leb (nat_abs (get_or w.equations k (pos 0))) coefficient_limit)) _ h₃ in
      let (e, h₅) = and_parts (all_to w.count (λ i. is_row q (basis_row q w i))) _ h₄ in
      let (f, g) = and_parts (all_to w.stage.rows (λ i. is_small q (row q w.stage i))) _ h₅ in
      record {
        few = leb→le w.count most a₁;
        fits = leb→le w.stage.rows room a₂;
        early = leb→le w.stage.steps step_limit b₁;
        marks = ltb→lt w.done (2 ^ p) b₂;
        equation = c₁;
        left = c₂;
        range = λ k l. leb→le (nat_abs (get_or w.equations k (pos 0))) coefficient_limit (all_at (p * q) _ d k l);
        basis = λ i j l jq. small_from q (basis_row q w i) (row_from q (basis_row q w i) (all_at w.count _ e i l)).0 j jq;
        some = λ i l. (row_from q (basis_row q w i) (all_at w.count _ e i l)).1;
        rows = λ i j l jq. small_from q (row q w.stage i) (all_at w.stage.rows _ f i l) j jq;
        positive = λ i l. ltb→lt 0 (degree i) (and_parts (ltb 0 (degree i)) _ (all_at w.stage.rows rises g i l)).0;
        rising = λ i l.
            leb→le (degree (i - 1)) (degree i) (and_parts (leb (degree (i - 1)) (degree i)) _
            (and_parts (ltb 0 (degree i)) _ (all_at w.stage.rows rises g i l)).1).0;
        low = λ i l.
            leb→le (degree i) w.stage.degree (and_parts (leb (degree (i - 1)) (degree i)) _
            (and_parts (ltb 0 (degree i)) _ (all_at w.stage.rows rises g i l)).1).1;
      }

  order_to : InOrder p q most room w → T (in_order p q most room w)
  unfolding in_order coefficients_small is_rising
  order_to o =
      and_both (leb w.count most && leb w.stage.rows room) _
      (and_both (leb w.count most) _ (le→leb w.count most o.few) (le→leb w.stage.rows room o.fits))
      (and_both (leb w.stage.steps step_limit && ltb w.done (2 ^ p)) _
      (and_both (leb w.stage.steps step_limit) _ (le→leb w.stage.steps step_limit o.early) (lt→ltb w.done (2 ^ p) o.marks))
      (and_both (marks_in_order p w.done w.equation) _ (marks_to p w.done w.equation o.equation o.left)
      (and_both (all_to (p * q) (λ k. leb (nat_abs (get_or w.equations k (pos 0))) coefficient_limit)) _
      (all_from (p * q) _ (λ k l. le→leb (nat_abs (get_or w.equations k (pos 0))) coefficient_limit (o.range k l)))
      (and_both (all_to w.count (λ i. is_row q (basis_row q w i))) _
      (all_from w.count _ (λ i l. row_to q (basis_row q w i) (small_to q (basis_row q w i) (λ j jq. o.basis i j l jq)) (o.some i l)))
      (and_both (all_to w.stage.rows (λ i. is_small q (row q w.stage i))) _
      (all_from w.stage.rows _ (λ i l. small_to q (row q w.stage i) (λ j jq. o.rows i j l jq)))
      (all_from w.stage.rows rises (λ i l. and_both (ltb 0 (degree i)) _ (lt→ltb 0 (degree i) (o.positive i l))
      (and_both (leb (degree (i - 1)) (degree i)) _ (le→leb (degree (i - 1)) (degree i) (o.rising i l))
      (le→leb (degree i) w.stage.degree (o.low i l))))))))))

  standing_renders : (own : Check) (rules : Rules) → Renders own rules → Renders (standing_then p q most room w own) (standing_rules p q most room w rules)
  standing_renders own rules r =
      renders_then (decides_outside 1 1 most_rows p)
      (renders_then (decides_outside 2 1 most_columns q)
      (renders_then (short_decides p q most w) (renders_then (decides_not (in_order p q most room w) 6 (InOrder p q most room w) order_from order_to) r)))

  pub resume_renders : Renders (resume_checks p q most room w) (resume_rules p q most room w)
  unfolding resume_checks
  resume_renders = standing_renders go end renders_end

  left_from : (e : ℕ) → T (is_left p e w) → Left p e w
  unfolding is_left
  left_from e h =
      let (a, h₁) = and_parts (eqb w.equation p) _ h in
      let (b, c) = and_parts (ltb e p) _ h₁ in
      record { rests = eqb→eq w.equation p a; low = ltb→lt e p b; undone = T_not (frozen w.done e) c }

  left_to : (e : ℕ) → Left p e w → T (is_left p e w)
  unfolding is_left
  left_to e l =
      and_both (eqb w.equation p) _ (rw l.rests (eqb_refl p)) (and_both (ltb e p) _ (lt→ltb e p l.low) (not_T (frozen w.done e) l.undone))

  minus_from : (z : ℤ) → T (is_minus_one z) → z ≡ negsuc 0
  minus_from (pos n) h = absurd h
  minus_from (negsuc n) h = ap negsuc (eqb→eq n 0 h)

  minus_to : (z : ℤ) → z ≡ negsuc 0 → T (is_minus_one z)
  minus_to z e = rw e tt

  free_from : (i f : ℕ) → T (not (frozen w.done i) || is_zero (system q w i f)) → T (frozen w.done i) → system q w i f ≡ pos 0
  free_from i f h d =
      elim (or_from (not (frozen w.done i)) _ h) [ inl n ↦ absurd (T_not (frozen w.done i) n d) | inr z ↦ is_zero_lem (system q w i f) z ]

  free_to : (i f : ℕ) → (T (frozen w.done i) → system q w i f ≡ pos 0) → T (not (frozen w.done i) || is_zero (system q w i f))
  free_to i f h = by (frozen w.done i) h
    where
      by : (b : Bool) → (T b → system q w i f ≡ pos 0) → T (not b || is_zero (system q w i f))
      by true h = zero_is (system q w i f) (h tt)
      by false h = tt

  fresh_from : (e f : ℕ) → T (is_fresh p q e f w) → Fresh p q e f w
  unfolding is_fresh is_free is_alone
  fresh_from e f h =
      let (o, h₀) = and_parts (not (is_capped w.stage.cap f)) _ h in
      let (a, h₁) = and_parts (ltb f q) _ h₀ in
      let (b, h₂) = and_parts (is_minus_one (system q w e f)) _ h₁ in
      let (c, h₃) = and_parts (all_to p (λ i. not (frozen w.done i) || is_zero (system q w i f))) _ h₂ in
      let (d, g) = and_parts (any_to w.count (λ i. ltb 0 (basis_row q w i f))) _ h₃ in
      let (k, kl, has) = any_at w.count (λ i. ltb 0 (basis_row q w i f)) d in
      record {
        uncapped = not_capped w.stage.cap f (T_not (is_capped w.stage.cap f) o);
        low = ltb→lt f q a;
        minus = minus_from (system q w e f) b;
        free = λ i l. free_from i f (all_at p _ c i l);
        there = (k, kl, ltb→lt 0 (basis_row q w k f) has);
        alone = λ i l. elim (or_from (eqb (basis_row q w i f) 0) _ (all_at w.count _ g i l)) [
          | inl x ↦ inl (eqb→eq (basis_row q w i f) 0 x)
          | inr x ↦ inr (eqb→eq (total (basis_row q w i) q) 1 x)
        ];
      }

  fresh_to : (e f : ℕ) → Fresh p q e f w → T (is_fresh p q e f w)
  unfolding is_fresh is_free is_alone
  fresh_to e f r =
      let (k, kl, has) = r.there in
      and_both (not (is_capped w.stage.cap f)) _ (not_T (is_capped w.stage.cap f) (capped_not w.stage.cap f r.uncapped))
      (and_both (ltb f q) _ (lt→ltb f q r.low)
      (and_both (is_minus_one (system q w e f)) _ (minus_to (system q w e f) r.minus)
      (and_both (all_to p (λ i. not (frozen w.done i) || is_zero (system q w i f))) _ (all_from p _ (λ i l. free_to i f (r.free i l)))
      (and_both (any_to w.count (λ i. ltb 0 (basis_row q w i f))) _
      (any_from w.count (λ i. ltb 0 (basis_row q w i f)) k kl (lt→ltb 0 (basis_row q w k f) has))
      (all_from w.count _ (λ i l. or_to (eqb (basis_row q w i f) 0) _ (elim (r.alone i l) [
        | inl x ↦ inl (rw x tt)
        | inr x ↦ inr (rw x tt)
      ])))))))

  pub take_renders : (e f : ℕ) → Renders (take_checks p q most room e f w) (take_rules p q most room e f w)
  unfolding take_checks
  take_renders e f =
      standing_renders _ _
      (renders_then (decides_not (is_left p e w) 32 (Left p e w) (left_from e) (left_to e))
      (renders_last (decides_not (eqb f q || is_fresh p q e f w) 33 ((f ≡ q) ⊎ Fresh p q e f w)
      (λ h. elim (or_from (eqb f q) _ h) [ inl x ↦ inl (eqb→eq f q x) | inr x ↦ inr (fresh_from e f x) ])
      (λ h. or_to (eqb f q) _ (elim h [ inl x ↦ inl (rw x (eqb_refl q)) | inr x ↦ inr (fresh_to e f x) ])))))

  apart_from : (r s : ℕ) (t : ℤ) → T (not (eqb r s) || is_zero t) → (r ≢ s) ⊎ (t ≡ pos 0)
  apart_from r s t h =
      elim (or_from (not (eqb r s)) _ h) [ inl n ↦ inl (λ e. T_not (eqb r s) n (rw e (eqb_refl s))) | inr z ↦ inr (is_zero_lem t z) ]

  apart_to : (r s : ℕ) (t : ℤ) → (r ≢ s) ⊎ (t ≡ pos 0) → T (not (eqb r s) || is_zero t)
  apart_to r s t h =
      or_to (not (eqb r s)) _ (elim h [ inl n ↦ inl (not_T (eqb r s) (λ e. n (eqb→eq r s e))) | inr z ↦ inr (zero_is t z) ])

  operation_from : (r s : ℕ) (u t : ℤ) → T (is_operation q r s u t w) → Operation q r s u t w
  unfolding is_operation
  operation_from r s u t h =
      let (a, h₁) = and_parts (not (is_zero u)) _ h in
      let (b, c) = and_parts (not (eqb r s) || is_zero t) _ h₁ in
      record {
        some = λ e. T_not (is_zero u) a (zero_is u e);
        apart = apart_from r s t b;
        range = λ j jq. leb→le (nat_abs (combination q (system q w) r s u t j)) coefficient_limit (all_at q _ c j jq);
      }

  operation_to : (r s : ℕ) (u t : ℤ) → Operation q r s u t w → T (is_operation q r s u t w)
  unfolding is_operation
  operation_to r s u t o =
      and_both (not (is_zero u)) _ (not_T (is_zero u) (λ h. o.some (is_zero_lem u h)))
      (and_both (not (eqb r s) || is_zero t) _ (apart_to r s t o.apart)
      (all_from q _ (λ j jq. le→leb (nat_abs (combination q (system q w) r s u t j)) coefficient_limit (o.range j jq))))

  pub combine_renders : (r s : ℕ) (u t : ℤ) → Renders (combine_checks p q most room r s u t w) (combine_rules p q most room r s u t w)
  unfolding combine_checks
  combine_renders r s u t =
      standing_renders _ _
      (renders_then (decides_not (is_left p r w && ltb s p) 32 (Left p r w × (s < p))
      (λ h. let (a, b) = and_parts (is_left p r w) _ h in (left_from r a, ltb→lt s p b))
      (λ (l, b). and_both (is_left p r w) _ (left_to r l) (lt→ltb s p b)))
      (renders_last (decides_not (is_operation q r s u t w) 34 (Operation q r s u t w) (operation_from r s u t) (operation_to r s u t))))

pub start_renders : (p q : ℕ) (coefs : List ℤ) (most : ℕ) (w : Work) → Renders (start_checks p q coefs most w) (start_rules p q coefs most w)
unfolding start_checks
start_renders p q coefs most w =
    renders_then (decides_outside 1 1 most_rows p)
    (renders_then (decides_outside 2 1 most_columns q)
    (renders_then (decides_unequal 3 (length coefs) (p * q))
    (renders_then (short_decides p q most w)
    (renders_last (decides_first 7 (p * q) (λ k. ltb coef_limit (nat_abs (get_or coefs k (pos 0)))) _
    (λ k l. ltb→lt coef_limit (nat_abs (get_or coefs k (pos 0)))) (λ k l. lt→ltb coef_limit (nat_abs (get_or coefs k (pos 0)))))))))

list_from : (q n : ℕ) (rows : List ℕ) → T (is_list q n rows) → IsList q n rows
unfolding is_list
list_from q n rows h =
    let (a, b) = and_parts (eqb (length rows) (n * q)) _ h in
    record {
      numbers = eqb→eq (length rows) (n * q) a;
      small = λ i j l jq. small_from q (at rows q i) (row_from q (at rows q i) (all_at n _ b i l)).0 j jq;
      some = λ i l. (row_from q (at rows q i) (all_at n _ b i l)).1;
    }

list_to : (q n : ℕ) (rows : List ℕ) → IsList q n rows → T (is_list q n rows)
unfolding is_list
list_to q n rows o =
    and_both (eqb (length rows) (n * q)) _ (rw o.numbers (eqb_refl (n * q)))
    (all_from n _ (λ i l. row_to q (at rows q i) (small_to q (at rows q i) (λ j jq. o.small i j l jq)) (o.some i l)))

pub start_from_renders : (p q : ℕ) (coefs : List ℤ) (n : ℕ) (rows : List ℕ) (most : ℕ) (w : Work)
    → Renders (start_from_checks p q coefs n rows most w) (start_from_rules p q coefs n rows most w)
unfolding start_from_checks
start_from_renders p q coefs n rows most w =
    renders_then (decides_outside 1 1 most_rows p)
    (renders_then (decides_outside 2 1 most_columns q)
    (renders_then (decides_unequal 3 (length coefs) (p * q))
    (renders_then (short_decides p q most w)
    (renders_then (decides_if (ltb most n) 4 (most < n) (ltb→lt most n) (lt→ltb most n))
    (renders_then (decides_not (is_list q n rows) 6 (IsList q n rows) (list_from q n rows) (list_to q n rows))
    (renders_last (decides_first 7 (p * q) (λ k. ltb coef_limit (nat_abs (get_or coefs k (pos 0)))) _
    (λ k l. ltb→lt coef_limit (nat_abs (get_or coefs k (pos 0)))) (λ k l. lt→ltb coef_limit (nat_abs (get_or coefs k (pos 0)))))))))))
