-- Theorems about what specs/Promise.antt defines. Assumes nothing.
use Rattle.std.specs.Prelude.{◌≡◌, ◌≢◌, Bool, cond, ◌&&◌, ◌||◌, List, [], ◌∷◌, ℤ, pos, negsuc, length}
use Rattle.std.proofs.Math.Path.{refl}
use Rattle.std.proofs.Common.{sym, ◌∙◌, ap, mul-le-mul_right}
use Rattle.std.proofs.Math.Logic.{inl, inr}
use Rattle.std.proofs.Math.Bool.{true, false, not}
use Prim.Native.Nat.{ℕ, zero, suc, ◌+◌, ◌*◌, ◌-◌, ◌≤◌, ◌<◌}
use native.Mathlib.Omega.{arith}
use lib.Dec.{T, T_not, eqb, eqb→eq, leb, leb→le, ltb, ltb→lt, nltb→le, not_T}
use Rattle.std.proofs.Math.IntN.{nat_abs}
use Rattle.std.proofs.Math.ListN.{get_or}
use Rattle.std.proofs.Math.Pow.{pow_pos}
use Rattle.linear.specs.Cases.{below_suc}
use Rattle.linear.proofs.Cases.{split}
use Rattle.linear.specs.Combinations.{Enumerates}
use Rattle.linear.proofs.TestLaws.{T-dec, all_at, and_parts, count_le}
use Rattle.linear.specs.Tests.{all_to, count_to}
use Rattle.linear.proofs.TupleLaws.{term_le_total, total_same, total_unit}
use Rattle.linear.specs.Tuples.{Same, total, unit}
use Rattle.definitions.specs.Answers.{Check, complete, go, refuse, refuse_first, refuse_if, refuse_with, started}
use Rattle.definitions.specs.System.{coef_limit, is_zero, most_component}
use Rattle.definitions.specs.Tables.{at, frozen}
use Rattle.laws.proofs.AnswerLaws.{refuse_if_go, then_go}
use Rattle.laws.proofs.MarkLaws.{ones_frozen}
use Rattle.laws.proofs.TableLaws.{row_before, row_fits, write_inside, write_length}
use Rattle.linear.proofs.Loops.{Loop}
use Rattle.laws.proofs.Pack.{pack_length, pack_row}
use Rattle.laws.proofs.SystemLaws.{is_zero_lem}
use Rattle.engine_spec.specs.Base.{Base, on_top, under}
use Rattle.engine_spec.proofs.Base.{alone_enumerates, alone_free, before_free, before_solved, both_solved, done_whole, enumerates_as, free_alone, top_alike}
use Rattle.engine_spec.proofs.Base.{top_free}
use Rattle.engine_spec.specs.Beside.{coefficient_limit}
use Rattle.engine_spec.specs.Calls.{check1, check2, check3, check4, check6, check6_list, check7, checked, combine, combine_checks, is_alone, is_free, is_fresh}
use Rattle.engine_spec.specs.Calls.{is_left, is_list, is_minus_one, is_operation, is_row, resume, resume_checks, standing_then, start_checks, start_from_checks}
use Rattle.engine_spec.specs.Calls.{start_from_under, start_under, take, take_checks}
use Rattle.engine_spec.specs.Caps.{Inside, is_capped}
use Rattle.engine_spec.proofs.Caps.{not_capped}
use Rattle.engine_spec.specs.Done.{among}
use Rattle.engine_spec.proofs.Done.{none_asks}
use Rattle.engine_spec.proofs.Ends.{begin_sound}
use Rattle.engine_spec.specs.Engine.{Result, Work, always, basis_row, begun_from_under, begun_under, combination, combined, equation_of, fill_to, lacks, rested}
use Rattle.engine_spec.specs.Engine.{run, system, system_of, taken, taken_fresh}
use Rattle.engine_spec.specs.Equations.{LoopInside}
use Rattle.engine_spec.proofs.Equations.{units_enumerate, wanted_inside}
use Rattle.engine_spec.specs.Fresh.{without_at}
use Rattle.engine_spec.proofs.Fresh.{without_at_lem, without_given}
use Rattle.engine_spec.proofs.Moved.{moved_given, moved_sound}
use Rattle.engine_spec.specs.Operations.{Alike}
use Rattle.engine_spec.proofs.Operations.{Apart, alike_enumerates, alike_given, alike_then, combined_alike, done_alike, fill_inside, fill_length, fill_outside}
use Rattle.engine_spec.proofs.Operations.{value_alike}
use Rattle.engine_spec.specs.ReductionLaws.{SameRows}
use Rattle.engine_spec.specs.Sound.{Given, Sound}
use Rattle.engine_spec.specs.Stage.{Stage, row}
use Rattle.engine_spec.specs.Reduction.{is_small}
use Rattle.engine_spec.specs.Whole.{Standing, Whole, between, done_of, so_far, under_way, with_fresh}
use Rattle.engine_spec.proofs.Whole.{Good, picked_packed, rested_good, run_good}
use Rattle.engine_spec.specs.Promise.{
  Runs,
  RunsOn,
  RunsUnder,
  StaysInside,
  after_begin,
  after_combine,
  after_resume,
  after_start,
  after_start_from,
  after_take,
  given,
  lent_anew,
  list,
  resting_given,
  units,
  with_tables,
  written,
}

-- ---- what the checks say

pub false_not : (b : Bool) → b ≡ false → ¬ (T b)
false_not b e h = rw e at h

pub not_false : (b : Bool) → not b ≡ false → T b
not_false b e = elim (T-dec b) [ inl h ↦ h | inr n ↦ absurd (false_not (not b) e (not_T b n)) ]

or_false : (b c : Bool) → (b || c) ≡ false → (b ≡ false) × (c ≡ false)
or_false true c e = absurd (false_not true e tt)
or_false false c e = (refl, e)

-- a test passed: the check lets go on
pub passes : (b : Bool) (n : ℕ) → refuse_if (not b) n ≡ go → T b
passes b n e = not_false b (refuse_if_go (not b) n e)

with_silent : (b : Bool) (n : ℕ) (values : List ℕ) → refuse_with b n values ≡ go → b ≡ false
unfolding refuse_with
with_silent true n values e = cc
with_silent false n values e = refl

-- a search for the first place that finds none
pub first_silent : (n k : ℕ) (f : ℕ → Bool) → refuse_first n k f ≡ go → (i : ℕ) → i < k → f i ≡ false
unfolding refuse_first
first_silent n zero f e i l = absurd (omega arith)
first_silent n (suc k) f e i l =
    let (a, b) = then_go (refuse_first n k f) _ e in
    elim (below_suc l) [ inl m ↦ first_silent n k f a i m | inr g ↦ rw g (with_silent (f k) n (suc k ∷ []) b) ]

module _ (p q most room : ℕ) (w : Work) (own : Check) where
  -- what is its own lets the call go on too
  pub standing_own : standing_then p q most room w own ≡ go → own ≡ go
  standing_own e =
      let (a, e₁) = then_go (check1 p) _ e in
      let (b, e₂) = then_go (check2 q) _ e₁ in
      let (c, e₃) = then_go (check4 p q most w) _ e₂ in
      (then_go (check6 p q most room w) own e₃).1

-- ---- the start

count_always : (n : ℕ) → count_to n always ≡ n
unfolding count_to
count_always zero = refl
count_always (suc n) = omega (arith, count_always n)

-- what a start writes for the working system
module _ (p q : ℕ) (coefs : List ℤ) (w : Work) (numbers : p * q ≤ length w.equations) where
  written_long : p * q ≤ length (written p q coefs w numbers)
  written_long = omega (arith, fill_length (p * q) w.equations 0 (λ k. get_or coefs k (pos 0)))

  written_range : ((k : ℕ) → k < p * q → nat_abs (get_or coefs k (pos 0)) ≤ coefficient_limit) → (k : ℕ) → k < p * q
      → nat_abs (get_or (written p q coefs w numbers) k (pos 0)) ≤ coefficient_limit
  written_range range k kl =
      let place : 0 + k ≡ k = omega arith in
      rw (rw place at (fill_inside (p * q) w.equations 0 (λ k. get_or coefs k (pos 0)) (omega arith) k kl)) (range k kl)

  copied : (i j : ℕ) → i < p → j < q → system_of q (written p q coefs w numbers) i j ≡ system_of q coefs i j
  copied i j l jq =
      let place : 0 + (i * q + j) ≡ i * q + j = omega arith in
      rw place at (fill_inside (p * q) w.equations 0 (λ k. get_or coefs k (pos 0)) (omega arith) (i * q + j) (omega (arith, row_before q p i 0 j l jq)))

  written_alike : Alike p q (system_of q coefs) (system_of q (written p q coefs w numbers))
  written_alike =
      record {
        there = λ t h i l. value_alike q t (λ j jq. copied i j l jq) ∙ h i l;
        back = λ t h i l. sym (value_alike q t (λ j jq. copied i j l jq)) ∙ h i l;
      }

module _ (base : Base) (plain : base.p ≡ 0) (p q : ℕ) (coefs : List ℤ) (most room : ℕ) (w : Work) (numbers : p * q ≤ length w.equations) (some : q ≤ most)
    (long : most * q ≤ length w.basis) (wide : room * q ≤ length w.stage.table)
    (range : (k : ℕ) → k < p * q → nat_abs (get_or coefs k (pos 0)) ≤ coefficient_limit) where
  unit_rows : (i : ℕ) → i < q → Same q (at (units base plain p q coefs most room w numbers some long wide range) q i) (unit i)
  unit_rows i l j jq =
      let place : 0 + count_to i always ≡ i = omega (arith, count_always i) in
      rw place at (pack_row q w.basis 0 always unit most long q (omega (arith, count_always q)) i l tt j jq)

  pub begun_whole : Whole base p q (system_of q coefs) most room (begun_under base.cap p q coefs w)
  unfolding begun_under
  begun_whole =
      record {
        numbers = written_long p q coefs w numbers;
        long = omega (arith, pack_length q w.basis 0 always unit q);
        wide = wide;
        few = some;
        fits = omega arith;
        marks = pow_pos p;
        early = omega arith;
        capped = refl;
        range = written_range p q coefs w numbers range;
        alike = written_alike p q coefs w numbers;
        standing = between refl refl (given (system_of q (written p q coefs w numbers)));
      }
    where
      one : (i : ℕ) → i < q → total (at (units base plain p q coefs most room w numbers some long wide range) q i) q ≡ 1
      one i l = total_same (at (units base plain p q coefs most room w numbers some long wide range) q i) (unit i) q (unit_rows i l) ∙ total_unit i q l

      given : (a : ℕ → ℕ → ℤ) → Given base.cap (base.p + p) q (on_top base (among 0 a)) q
          (at (units base plain p q coefs most room w numbers some long wide range) q)
      given a =
          record {
            loops =
                units_enumerate base.cap (base.p + p) q (on_top base (among 0 a))
                (λ t. both_solved base p q (among 0 a) t (λ i l. absurd (omega arith)) (none_asks p q a t))
                (at (units base plain p q coefs most room w numbers some long wide range) q) unit_rows;
            small = λ i j l jq. omega (arith, one i l, term_le_total (at (units base plain p q coefs most room w numbers some long wide range) q i) q j jq);
          }

-- ---- the start from a list

module _ (base : Base) (p q : ℕ) (coefs : List ℤ) (n : ℕ) (rows : List ℕ) (most room : ℕ) (w : Work) (numbers : p * q ≤ length w.equations) (some : n ≤ most)
    (long : most * q ≤ length w.basis) (wide : room * q ≤ length w.stage.table)
    (range : (k : ℕ) → k < p * q → nat_abs (get_or coefs k (pos 0)) ≤ coefficient_limit)
    (small : (i j : ℕ) → i < n → j < q → at rows q i j ≤ most_component)
    (whole_list : Enumerates q (LoopInside base.cap base.p q base.a) n (at rows q)) where
  room_for : n * q ≤ length w.basis
  room_for = omega (arith, mul-le-mul_right q some)

  list_rows : (i : ℕ) → i < n → Same q (at (list base p q coefs n rows most room w numbers some long wide range small whole_list) q i) (at rows q i)
  list_rows i l j jq =
      let place : 0 + (i * q + j) ≡ i * q + j = omega arith in
      rw place at (write_inside (λ k. get_or rows k 0) w.basis 0 (n * q) (i * q + j) (omega (arith, room_for)) (omega (arith, row_before q n i 0 j l jq)))

  pub begun_from_whole : Whole base p q (system_of q coefs) most room (begun_from_under base.cap p q coefs n rows w)
  unfolding begun_from_under
  begun_from_whole =
      record {
        numbers = written_long p q coefs w numbers;
        long = omega (arith, write_length (λ k. get_or rows k 0) w.basis 0 (n * q));
        wide = wide;
        few = some;
        fits = omega arith;
        marks = pow_pos p;
        early = omega arith;
        capped = refl;
        range = written_range p q coefs w numbers range;
        alike = written_alike p q coefs w numbers;
        standing = between refl refl
            (moved_given base.cap (base.p + p) q _ n (at rows q) (at (list base p q coefs n rows most room w numbers some long wide range small whole_list) q)
            list_rows (given (system_of q (written p q coefs w numbers))));
      }
    where
      -- no equation of the run is done: the equations so far are those before
      given : (a : ℕ → ℕ → ℤ) → Given base.cap (base.p + p) q (on_top base (among 0 a)) n (at rows q)
      given a =
          record {
            loops =
                enumerates_as base.cap (λ t x. both_solved base p q (among 0 a) t x (none_asks p q a t))
                (λ t x. before_solved base p q (among 0 a) t x) whole_list;
            small = small;
          }

resting_rows : (base : Base) (p q : ℕ) (w : Work) → Standing base p q w → w.equation ≡ p → w.stage.rows ≡ 0
resting_rows base p q w (between e z given) none = z
resting_rows base p q w (under_way l n f given sound) none = absurd (omega arith)
resting_rows base p q w (with_fresh l n f o m r given sound) none = absurd (omega arith)

module _ (base : Base) (p q : ℕ) (a : ℕ → ℕ → ℤ) (most room : ℕ) (w : Work) (whole : Whole base p q a most room w) (rests : w.equation ≡ p) where
  combined_whole : (r s : ℕ) (u t : ℤ) → r < p → ¬ (T (frozen w.done r)) → s < p → u ≢ pos 0 → Apart r s t
      → ((j : ℕ) → j < q → nat_abs (combination q (system q w) r s u t j) ≤ coefficient_limit) → Whole base p q a most room (combined q r s u t w)
  combined_whole r s u t rp not_done sp some apart within =
      record {
        numbers = unfold combined in omega (arith, whole.numbers, fill_length q w.equations (r * q) (combination q (system q w) r s u t));
        long = unfold combined in whole.long;
        wide = unfold combined in whole.wide;
        few = unfold combined in whole.few;
        fits = unfold combined in whole.fits;
        marks = unfold combined in whole.marks;
        early = unfold combined in whole.early;
        capped = unfold combined in whole.capped;
        range = unfold combined in λ k kl. elim (split k (r * q)) [
          | inl l ↦ rw (fill_outside q w.equations (r * q) (combination q (system q w) r s u t) k (inl l)) (whole.range k kl)
          | inr l ↦ elim (split k (r * q + q)) [
            | inl m ↦ let place : k ≡ r * q + (k - r * q) = omega arith in rw place (new_row (k - r * q) (omega arith))
            | inr m ↦ rw (fill_outside q w.equations (r * q) (combination q (system q w) r s u t) k (inr m)) (whole.range k kl)
          ]
        ];
        alike = alike_then whole.alike (combined_alike p q w r s u t whole.numbers rp sp some apart);
        standing = between (unfold combined in rests) (unfold combined in resting_rows base p q w whole.standing rests)
            (unfold combined in alike_given base.cap (top_alike base (done_alike p q w r s u t whole.numbers rp not_done))
            (given base p q a most room w whole rests));
      }
    where
      new_row : (j : ℕ) → j < q
          → nat_abs (get_or (fill_to q w.equations (r * q) (combination q (system q w) r s u t)) (r * q + j) (pos 0)) ≤ coefficient_limit
      new_row j jq =
          rw (fill_inside q w.equations (r * q) (combination q (system q w) r s u t) (omega (arith, whole.numbers, row_fits q r p rp)) j jq) (within j jq)

  taken_whole : (e : ℕ) → e < p → ¬ (T (frozen w.done e)) → Whole base p q a most room (taken q e w)
  unfolding taken
  taken_whole e ep not_done =
      record {
        numbers = whole.numbers;
        long = whole.long;
        wide = whole.wide;
        few = whole.few;
        fits = omega arith;
        marks = whole.marks;
        early = whole.early;
        capped = whole.capped;
        range = whole.range;
        alike = whole.alike;
        standing = under_way ep not_done (omega arith) (given base p q a most room w whole rests)
            (begin_sound base.cap (base.p + p) q (so_far base q w) (system q w e) w.count (basis_row q w) whole.capped
            w.stage.table w.stage.steps);
      }

  fresh_whole : (e f : ℕ) → e < p → ¬ (T (frozen w.done e)) → f < q → (0 < base.cap → 0 < f) → system q w e f ≡ negsuc 0
      → ((i : ℕ) → i < base.p + p → so_far base q w i f ≡ pos 0) → Whole base p q a most room (taken_fresh q e f w)
  unfolding taken_fresh
  fresh_whole e f ep not_done fq uncapped minus free =
      let stay = lacks q f w.basis in
      let few : count_to w.count stay ≤ most = omega (arith, count_le stay w.count, whole.few) in
      record {
        numbers = whole.numbers;
        long = omega (arith, whole.long, pack_length q w.basis 0 stay (at w.basis q) w.count);
        wide = whole.wide;
        few = few;
        fits = omega arith;
        marks = whole.marks;
        early = whole.early;
        capped = whole.capped;
        range = whole.range;
        alike = whole.alike;
        standing = with_fresh ep not_done fq uncapped minus free
            (without_given base.cap (base.p + p) q (so_far base q w) f fq (suc (base.p + p)) (without_at (base.p + p) (so_far base q w) f)
            (without_at_lem (base.p + p) q (so_far base q w) f fq) w.count (basis_row q w) (given base p q a most room w whole rests)
            (count_to w.count stay) _ (picked_packed q w.count most w.basis stay (at w.basis q) whole.long few))
            (begin_sound base.cap (suc (base.p + p)) q (without_at (base.p + p) (so_far base q w) f) (system q w e) (count_to w.count stay) _
            whole.capped
            w.stage.table w.stage.steps);
      }

-- ---- what the calls' own checks say

module _ (p q : ℕ) (w : Work) where
  left_from : (e : ℕ) → T (is_left p e w) → (w.equation ≡ p) × (e < p) × (¬ (T (frozen w.done e)))
  unfolding is_left
  left_from e h =
      let (a, h₁) = and_parts (eqb w.equation p) _ h in
      let (b, c) = and_parts (ltb e p) _ h₁ in
      (eqb→eq w.equation p a, ltb→lt e p b, T_not (frozen w.done e) c)

  minus_one : (z : ℤ) → T (is_minus_one z) → z ≡ negsuc 0
  minus_one (pos n) h = absurd h
  minus_one (negsuc n) h = ap negsuc (eqb→eq n 0 h)

  free_at : (d : ℕ) (b : ℕ → ℕ → ℤ) (i f : ℕ) → T (not (frozen d i) || is_zero (b i f)) → among d b i f ≡ pos 0
  free_at d b i f h = go (frozen d i) h
    where
      go : (x : Bool) → T (not x || is_zero (b i f)) → cond x (b i f) (pos 0) ≡ pos 0
      go true h = is_zero_lem (b i f) h
      go false h = refl

  fresh_from : (e f : ℕ) → T (is_fresh p q e f w)
      → (0 < w.stage.cap → 0 < f) × (f < q) × (system q w e f ≡ negsuc 0) × ((i : ℕ) → i < p → done_of q w i f ≡ pos 0)
      × T (is_alone q f w.count (basis_row q w))
  unfolding is_fresh is_free
  fresh_from e f h =
      let (o, h₀) = and_parts (not (is_capped w.stage.cap f)) _ h in
      let (a, h₁) = and_parts (ltb f q) _ h₀ in
      let (b, h₂) = and_parts (is_minus_one (system q w e f)) _ h₁ in
      let (c, d) = and_parts (all_to p (λ i. not (frozen w.done i) || is_zero (system q w i f))) _ h₂ in (
        not_capped w.stage.cap f (T_not (is_capped w.stage.cap f) o),
        ltb→lt f q a,
        minus_one (system q w e f) b,
        λ i l. free_at w.done (system q w) i f (all_at p _ c i l),
        d,
      )

  not_zero : (u : ℤ) → T (not (is_zero u)) → u ≢ pos 0
  not_zero u h e = T_not (is_zero u) h (rw e tt)

  apart_from : (r s : ℕ) (t : ℤ) → T (not (eqb r s) || is_zero t) → Apart r s t
  apart_from r s t h = go (eqb r s) (λ e. rw e (lib.Dec.eqb_refl s)) h
    where
      go : (b : Bool) → (r ≡ s → T b) → T (not b || is_zero t) → Apart r s t
      go true same h = inr (is_zero_lem t h)
      go false same h = inl (λ e. same e)

  operation_from : (r s : ℕ) (u t : ℤ) → T (is_operation q r s u t w)
      → (u ≢ pos 0) × Apart r s t × ((j : ℕ) → j < q → nat_abs (combination q (system q w) r s u t j) ≤ coefficient_limit)
  unfolding is_operation
  operation_from r s u t h =
      let (a, h₁) = and_parts (not (is_zero u)) _ h in
      let (b, c) = and_parts (not (eqb r s) || is_zero t) _ h₁ in
      (not_zero u a, apart_from r s t b, λ j jq. leb→le (nat_abs (combination q (system q w) r s u t j)) coefficient_limit (all_at q _ c j jq))

-- ---- the calls

-- a call leaves what its work leaves where its checks let it go on, and else what it was lent
checked_keeps : (P : Work → Type 0) (c : Check) (w : Work) (work : Work → Result) → P w → (c ≡ go → P (work w).work) → P (checked c w work).work
unfolding checked
checked_keeps P (refuse n values) w work old new = old
checked_keeps P go w work old new = new refl

cond_holds : {A : Type 0} (P : A → Type 0) (b : Bool) (x y : A) → (T b → P x) → (T (not b) → P y) → P (cond b x y)
cond_holds P true x y f g = f tt
cond_holds P false x y f g = g tt

pub started_goes : (c : Check) (w : Work) (work : Work → Result) → (checked c w work).answer ≡ started → c ≡ go
unfolding checked
started_goes (refuse n values) w work e = absurd (let z : ◌≡◌ {A = ℕ} 0 1 = cc in omega arith)
started_goes go w work e = refl

module _ (base : Base) (p q : ℕ) (a : ℕ → ℕ → ℤ) (most room : ℕ) (w : Work) (whole : Whole base p q a most room w) where
  pub combine_whole : (r s : ℕ) (u t : ℤ) → Whole base p q a most room (combine p q most room r s u t w).work
  unfolding combine combine_checks
  combine_whole r s u t =
      checked_keeps (Whole base p q a most room) _ w _ whole
      (λ e.
      let (x, y) = then_go _ _ (standing_own p q most room w _ e) in
      let (lr, sp) = and_parts (is_left p r w) _ (passes (is_left p r w && ltb s p) 32 x) in
      let (rests, rp, not_done) = left_from p q w r lr in
      let (some, apart, within) = operation_from p q w r s u t (passes (is_operation q r s u t w) 34 y) in
      combined_whole base p q a most room w whole rests r s u t rp not_done (ltb→lt s p sp) some apart within)

  pub take_whole : (e f : ℕ) → Whole base p q a most room (take p q most room e f w).work
  unfolding take take_checks
  take_whole e f =
      checked_keeps (Whole base p q a most room) _ w _ whole
      (λ g.
      let (x, y) = then_go _ _ (standing_own p q most room w _ g) in
      let (rests, ep, not_done) = left_from p q w e (passes (is_left p e w) 32 x) in
      cond_holds (Whole base p q a most room) (ltb f q) (taken_fresh q e f w) (taken q e w)
      (λ l.
      let (uncapped, fq, minus, free, alone) = fresh_from p q w e f (fresh_else (eqb f q) (is_fresh p q e f w) (λ h. omega (arith, eqb→eq f q h, ltb→lt f q l))
      (passes (eqb f q || is_fresh p q e f w) 33 y)) in
      fresh_whole base p q a most room w whole rests e f ep not_done fq (rw whole.capped at uncapped) minus
      (top_free base p (done_of q w) f free
      (before_free base p (done_of q w) f
      (alone_free base.cap (base.p + p) q (so_far base q w) f fq w.count (basis_row q w)
      (resting_given base p q w whole.standing rests).loops alone))))
      (λ l. taken_whole base p q a most room w whole rests e ep not_done))
    where
      fresh_else : (b c : Bool) → ¬ (T b) → T (b || c) → T c
      fresh_else true c n h = absurd (n tt)
      fresh_else false c n h = h

  pub resume_good : (budget : ℕ) → Good base p q a most room (resume p q most room budget w)
  unfolding resume checked
  resume_good budget = by (resume_checks p q most room w)
    where
      rests : Standing base p q w → p ≤ w.equation → Good base p q a most room (rested p w)
      rests (between e z given) l = rested_good base p q a most room w whole e
      rests (under_way l' n f given sound) l = absurd (omega arith)
      rests (with_fresh l' n f o m r given sound) l = absurd (omega arith)

      by : (c : Check) → Good base p q a most room (checked c w (λ v. cond (ltb v.equation p) (run p q most room budget v) (rested p v)))
      by (refuse n values) = record { whole = whole; done = λ e. absurd (let z : ◌≡◌ {A = ℕ} 0 1 = cc in omega arith) }
      by go =
          cond_holds (Good base p q a most room) (ltb w.equation p) (run p q most room budget w) (rested p w)
          (λ l. run_good base p q a most room budget w whole (ltb→lt w.equation p l)) (λ l. rests whole.standing (nltb→le w.equation p l))

module _ (base : Base) (p q : ℕ) (a : ℕ → ℕ → ℤ) (most room most' room' : ℕ) (w : Work) (whole : Whole base p q a most room w) (basis table : List ℕ)
    (same : SameRows q w.count w.basis basis) (same' : SameRows q w.stage.rows w.stage.table table) (few : w.count ≤ most')
    (fits : w.stage.rows ≤ room') (long : most' * q ≤ length basis) (wide : room' * q ≤ length table) where
  alike_rows : (i : ℕ) → i < w.count → Same q (at basis q i) (basis_row q w i)
  alike_rows i l j jq = same.same (i * q + j) (omega (arith, row_before q w.count i 0 j l jq))

  lent_whole : Whole base p q a most' room' (with_tables w basis table)
  lent_whole =
      record {
        numbers = whole.numbers;
        long = long;
        wide = wide;
        few = few;
        fits = fits;
        marks = whole.marks;
        early = whole.early;
        capped = whole.capped;
        range = whole.range;
        alike = whole.alike;
        standing = by whole.standing;
      }
    where
      by : Standing base p q w → Standing base p q (with_tables w basis table)
      by (between e z given) = between e z (moved_given base.cap (base.p + p) q (so_far base q w) w.count (basis_row q w) (at basis q) alike_rows given)
      by (under_way l n f given sound) =
          under_way l n f (moved_given base.cap (base.p + p) q (so_far base q w) w.count (basis_row q w) (at basis q) alike_rows given)
          (moved_sound base.cap (base.p + p) q (so_far base q w) w.count (basis_row q w) (at basis q) alike_rows
          (equation_of q w) w.stage table same' sound)
      by (with_fresh l n f o m r given sound) =
          with_fresh l n f o m r
          (moved_given base.cap (suc (base.p + p)) q (without_at (base.p + p) (so_far base q w) w.fresh) w.count (basis_row q w) (at basis q)
          alike_rows given)
          (moved_sound base.cap (suc (base.p + p)) q (without_at (base.p + p) (so_far base q w) w.fresh) w.count (basis_row q w) (at basis q) alike_rows
          (equation_of q w) w.stage table
          same' sound)

-- what the checks that both starts share say
module _ (p q : ℕ) (coefs : List ℤ) (most : ℕ) (w : Work) where
  pub roomy : check4 p q most w ≡ go → (p * q ≤ length w.equations) × (q ≤ most)
  roomy e =
      let (short, less) = or_false (ltb (length w.equations) (p * q)) (ltb most q) (refuse_if_go _ 4 e) in (
        nltb→le (length w.equations) (p * q)
            (not_T (ltb (length w.equations) (p * q)) (false_not (ltb (length w.equations) (p * q)) short)),
        nltb→le most q (not_T (ltb most q) (false_not (ltb most q) less)),
      )

  pub in_range : check7 p q coefs ≡ go → (k : ℕ) → k < p * q → nat_abs (get_or coefs k (pos 0)) ≤ coefficient_limit
  in_range e k kl =
      omega (
        arith,
        nltb→le coef_limit (nat_abs (get_or coefs k (pos 0)))
            (not_T (ltb coef_limit (nat_abs (get_or coefs k (pos 0)))) (false_not (ltb coef_limit (nat_abs (get_or coefs k (pos 0)))) (first_silent 7 (p * q)
            _ e k kl))),
      )

-- a list that is let go on has no component above the limit
list_small : (q n : ℕ) (rows : List ℕ) → T (is_list q n rows) → (i j : ℕ) → i < n → j < q → at rows q i j ≤ most_component
unfolding is_list is_row is_small
list_small q n rows h i j l jq =
    let (a, b) = and_parts (eqb (length rows) (n * q)) _ h in
    let (c, d) = and_parts (all_to q (λ j. leb (at rows q i j) most_component)) _ (all_at n _ b i l) in
    leb→le (at rows q i j) most_component (all_at q _ c j jq)

module _ (base : Base) (p q : ℕ) (coefs : List ℤ) where
  start_whole : (most room : ℕ) (w : Work) → base.p ≡ 0 → most * q ≤ length w.basis → room * q ≤ length w.stage.table
      → (start_under base.cap p q coefs most w).answer ≡ started → Whole base p q (system_of q coefs) most room (start_under base.cap p q coefs most w).work
  unfolding start_under start_checks checked
  start_whole most room w plain long wide e =
      let all = started_goes _ w _ e in
      let (x₁, y₁) = then_go (check1 p) _ all in
      let (x₂, y₂) = then_go (check2 q) _ y₁ in
      let (x₃, y₃) = then_go (check3 p q coefs) _ y₂ in
      let (x₄, y₄) = then_go (check4 p q most w) _ y₃ in
      let (numbers, some) = roomy p q coefs most w x₄ in
      rw all (begun_whole base plain p q coefs most room w numbers some long wide (in_range p q coefs most w y₄))

  start_from_whole : (n : ℕ) (rows : List ℕ) (most room : ℕ) (w : Work) → Enumerates q (LoopInside base.cap base.p q base.a) n (at rows q)
      → most * q ≤ length w.basis → room * q ≤ length w.stage.table → (start_from_under base.cap p q coefs n rows most w).answer ≡ started
      → Whole base p q (system_of q coefs) most room (start_from_under base.cap p q coefs n rows most w).work
  unfolding start_from_under start_from_checks checked
  start_from_whole n rows most room w whole_list long wide e =
      let all = started_goes _ w _ e in
      let (x₁, y₁) = then_go (check1 p) _ all in
      let (x₂, y₂) = then_go (check2 q) _ y₁ in
      let (x₃, y₃) = then_go (check3 p q coefs) _ y₂ in
      let (x₄, y₄) = then_go (check4 p q most w) _ y₃ in
      let (x₅, y₅) = then_go (refuse_if (ltb most n) 4) _ y₄ in
      let (x₆, y₆) = then_go (check6_list q n rows) _ y₅ in
      let (numbers, some) = roomy p q coefs most w x₄ in
      rw all
      (begun_from_whole base p q coefs n rows most room w numbers
      (nltb→le most n (not_T (ltb most n) (false_not (ltb most n) (refuse_if_go (ltb most n) 4 x₅)))) long wide (in_range p q coefs most w y₆)
      (list_small q n rows (passes (is_list q n rows) 6 x₆)) whole_list)

  pub runs_whole : {most room : ℕ} {w : Work} → RunsOn base p q coefs most room w → Whole base p q (system_of q coefs) most room w
  runs_whole (after_start most room w plain long wide e) = start_whole most room w plain long wide e
  runs_whole (after_begin most room w plain s long wide) = begun_whole base plain p q coefs most room w s.numbers s.some long wide s.range
  runs_whole (after_start_from n rows most room w list long wide e) = start_from_whole n rows most room w list long wide e
  runs_whole (after_combine {most} {room} {w} r x y u t) = combine_whole base p q (system_of q coefs) most room w (runs_whole r) x y u t
  runs_whole (after_take {most} {room} {w} r e f) = take_whole base p q (system_of q coefs) most room w (runs_whole r) e f
  runs_whole (after_resume {most} {room} {w} r budget) = (resume_good base p q (system_of q coefs) most room w (runs_whole r) budget).whole
  runs_whole (lent_anew {most} {room} {w} r most' room' basis table same same' few fits long wide) =
      lent_whole base p q (system_of q coefs) most room most' room' w (runs_whole r) basis table same same' few fits long wide

  -- When a call says "complete", the rows of the basis are exactly the minimal solutions of the equations before and of the map together, each once.
  pub all_complete : {most room : ℕ} {w : Work} → RunsOn base p q coefs most room w → (budget : ℕ) → (resume p q most room budget w).answer ≡ complete
      → Enumerates q (LoopInside base.cap (base.p + p) q (on_top base (system_of q coefs))) (resume p q most room budget w).work.count
      (basis_row q (resume p q most room budget w).work)
  all_complete {most} {room} {w} r budget e =
      let v = (resume p q most room budget w).work in
      let g = resume_good base p q (system_of q coefs) most room w (runs_whole r) budget in
      let (rests, all) = g.done e in
      let done : (i : ℕ) → i < p → T (frozen v.done i) = λ i l. rw all (ones_frozen p i l) in
      alike_enumerates base.cap (top_alike base (alike_then (done_whole p q (system q v) v.done done) (turned g.whole.alike)))
      (resting_given base p q v g.whole.standing rests).loops
    where
      turned : {a b : ℕ → ℕ → ℤ} → Alike p q a b → Alike p q b a
      turned s = record { there = s.back; back = s.there }

  -- Between two stages they are exactly those of the equations before and of the equations done, in the working system, which has the map's solutions.
  pub all_members : {most room : ℕ} {w : Work} → RunsOn base p q coefs most room w → w.equation ≡ p
      → Enumerates q (LoopInside base.cap (base.p + p) q (on_top base (among w.done (system q w)))) w.count (basis_row q w)
  all_members {w = w} r rests = (resting_given base p q w (runs_whole r).standing rests).loops

  pub same_solutions : {most room : ℕ} {w : Work} → RunsOn base p q coefs most room w → Alike p q (system_of q coefs) (system q w)
  same_solutions r = (runs_whole r).alike

-- ---- rows stay inside the cap

inside_given : (cap p q : ℕ) (a : ℕ → ℕ → ℤ) (m : ℕ) (basis : ℕ → ℕ → ℕ) → Given cap p q a m basis → (i : ℕ) → i < m → Inside cap q (basis i)
inside_given cap p q a m basis given i l = wanted_inside cap p q a (given.loops.only i l).holds

inside_sound : (cap p q : ℕ) (a : ℕ → ℕ → ℤ) (c : ℕ → ℤ) (m : ℕ) (basis : ℕ → ℕ → ℕ) (s : Stage) → Sound cap p q a c m basis s → (i : ℕ) → i < s.rows
    → Inside cap q (row q s i)
inside_sound cap p q a c m basis s sound i l = wanted_inside cap p q a (sound.wanted i l)

-- So it is at any time: sums that pass the cap are dropped as they come.
pub rows_inside : (base : Base) (p q : ℕ) (coefs : List ℤ) {most room : ℕ} {w : Work} → RunsOn base p q coefs most room w → StaysInside base.cap q w
rows_inside base p q coefs {w = w} r = by (runs_whole base p q coefs r).standing
  where
    by : Standing base p q w → StaysInside base.cap q w
    by (between e z given) = record { listed = inside_given base.cap (base.p + p) q _ _ _ given; staged = λ i l. absurd (omega arith) }
    by (under_way l n f given sound) =
        record {
          listed = inside_given base.cap (base.p + p) q _ _ _ given;
          staged = inside_sound base.cap (base.p + p) q _ _ _ _ w.stage sound;
        }
    by (with_fresh l n f o m z given sound) =
        record {
          listed = inside_given base.cap (suc (base.p + p)) q _ _ _ given;
          staged = inside_sound base.cap (suc (base.p + p)) q _ _ _ _ w.stage sound;
        }

-- ---- on the map alone

-- with a cap: exactly those of the map, and of the equations done, that are inside it
module _ (cap p q : ℕ) (coefs : List ℤ) where
  pub under_complete : {most room : ℕ} {w : Work} → RunsUnder cap p q coefs most room w → (budget : ℕ) → (resume p q most room budget w).answer ≡ complete
      → Enumerates q (LoopInside cap p q (system_of q coefs)) (resume p q most room budget w).work.count
      (basis_row q (resume p q most room budget w).work)
  under_complete r budget e = alone_enumerates cap p q (system_of q coefs) (all_complete (under cap) p q coefs r budget e)

  pub under_members : {most room : ℕ} {w : Work} → RunsUnder cap p q coefs most room w → w.equation ≡ p
      → Enumerates q (LoopInside cap p q (among w.done (system q w))) w.count (basis_row q w)
  under_members {w = w} r rests = alone_enumerates cap p q (among w.done (system q w)) (all_members (under cap) p q coefs r rests)

module _ (p q : ℕ) (coefs : List ℤ) where
  -- When a call says "complete", the rows of the basis are exactly the minimal solutions of the map, each once.
  pub run_complete : {most room : ℕ} {w : Work} → Runs p q coefs most room w → (budget : ℕ) → (resume p q most room budget w).answer ≡ complete
      → Enumerates q (Loop p q (system_of q coefs)) (resume p q most room budget w).work.count (basis_row q (resume p q most room budget w).work)
  run_complete r budget e = under_complete 0 p q coefs r budget e

  -- Between two stages they are exactly the minimal solutions of the equations done, in the working system, which has the map's solutions.
  pub run_members : {most room : ℕ} {w : Work} → Runs p q coefs most room w → w.equation ≡ p
      → Enumerates q (Loop p q (among w.done (system q w))) w.count (basis_row q w)
  run_members r rests = under_members 0 p q coefs r rests

  -- An unknown that no equation done has is had by its unit tuple only: of a run on the map alone, 33 asks no more than the equations.
  pub fresh_alone : {most room : ℕ} {w : Work} → Runs p q coefs most room w → w.equation ≡ p → (f : ℕ) → f < q → T (is_free p q f w)
      → T (is_alone q f w.count (basis_row q w))
  unfolding is_free
  fresh_alone {w = w} r rests f fq h =
      free_alone 0 p q (done_of q w) f fq w.count (basis_row q w) (run_members r rests) (λ i l. free_at p q w w.done (system q w) i f (all_at p _ h i l))
