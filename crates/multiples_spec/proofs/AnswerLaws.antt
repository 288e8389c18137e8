-- What each answer of the call means: its refusals are Job 8's, each in its case and in no other; an equation that is off is the first; and a solution is taken
-- apart, whatever the list holds. Assumes nothing.
use Rattle.std.specs.Prelude.{ℕ, suc, ◌+◌, ◌-◌, ◌≤◌, ◌<◌, Bool, true, false, not, List, ◌⊎◌, ◌≡◌, T, leb, ℤ, get_or, length}
use Rattle.std.proofs.Math.Logic.{inl, inr}
use Rattle.std.proofs.Math.Path.{refl, ap}
use Rattle.std.proofs.Common.{sym, ◌∙◌, arith, T_not, eqb→eq}
use Rattle.std.proofs.Math.Dec.{not_T, eqb_refl}
use Rattle.std.proofs.Math.IntN.{pos}
use Rattle.linear.specs.Combinations.{combined}
use Rattle.linear.proofs.SystemLaws.{inner_zero}
use Rattle.linear.specs.Systems.{Solution, value}
use Rattle.linear.proofs.TestLaws.{T-dec, all_at, all_from, first_at}
use Rattle.linear.specs.Tuples.{AtOrBelow, Nonzero}
use Rattle.definitions.specs.Input.{Input, map_of}
use Rattle.definitions.specs.Reasons as why
use Rattle.definitions.specs.Reasons.{Reason, reason_checks, reason_within, vanishes}
use Rattle.definitions.specs.Refusals.{Sizes}
use Rattle.definitions.specs.System.{System, coef, image_of, is_zero}
use Rattle.definitions.specs.Tables.{at}
use Rattle.laws.specs.CheckLaws.{AllSilent, FirstDue}
use Rattle.laws.proofs.CheckLaws.{check_cases}
use Rattle.laws.specs.ReasonLaws.{AllZero, Off, reason_rules}
use Rattle.laws.proofs.ReasonLaws.{reason_given, reason_renders, refused_reason}
use Rattle.laws.proofs.SystemLaws.{is_zero_lem, zero_is}
use Rattle.multiples_spec.specs.Parts.{Outcome, all_taken, decomposed_within, if_space, left_over, made, off, refused, taken_apart, unless_off}
use Rattle.multiples_spec.specs.Parts.{unlisted}
use Rattle.multiples_spec.proofs.PartsLaws.{Small, none_left, times_add_up, times_length, times_outside}

-- ---- a tuple that leaves no equation off is a solution

module _ (m : System) (found : ℕ) (row : ℕ → ℕ → ℕ) (x : ℕ → ℕ) where
  zero_solves : AllZero m found row x → Solution m.p m.q (coef m) x
  unfolding value
  zero_solves z i l = inner_zero m.q (coef m i) (λ j. pos (x j)) (λ j h. ap pos (z j h))

  none_off_solves : ((k : ℕ) (amount : ℤ) → ¬ (Off m found row x k amount)) → Solution m.p m.q (coef m) x
  none_off_solves none i l =
      elim (T-dec (is_zero (image_of m x i))) [
        | inl h ↦ is_zero_lem (image_of m x i) h
        | inr n ↦
            let (k, kl, is, before) = first_at m.p (λ k. not (is_zero (image_of m x k))) i l (not_T (is_zero (image_of m x i)) n) in
            absurd (none (suc k) (image_of m x k) (record {
              some = omega arith;
              few = kl;
              by = ap (image_of m x) (omega arith);
              not_zero = λ e. T_not (is_zero (image_of m x k)) is (zero_is (image_of m x k) e);
              first =
                  λ j h. elim (T-dec (is_zero (image_of m x j))) [
                    | inl y ↦ is_zero_lem (image_of m x j) y
                    | inr y ↦ absurd (before j (omega arith) (not_T (is_zero (image_of m x j)) y))
                  ];
            }))
      ]

  pub off_fails : {k : ℕ} {amount : ℤ} → Off m found row x k amount → ¬ (Solution m.p m.q (coef m) x)
  off_fails {k} o s = o.not_zero (sym o.by ∙ s (k - 1) (omega (arith, o.some, o.few)))

-- ---- a question is refused or not

pub never_due : (s : Sizes) (i : Input) (list : List ℕ) (found : ℕ) (t : List ℕ) {n : ℕ} {values : List ℕ} → AllSilent (reason_rules s i list found t)
    → ¬ (FirstDue (reason_rules s i list found t) n values)
never_due s i list found t {n} {values} silent d =
    (reason_given s i list found t silent (why.refused n values) (refused_reason s i list found t n values d)).0

-- ---- a solution taken apart

-- what holds of the answer, and of the table of multiples, for any list of rows
pub record Apart (q found : ℕ) (row : ℕ → ℕ → ℕ) (x : ℕ → ℕ) (times : List ℕ) (o : Outcome) : Type 0 where
  -- what is left of x
  pub left : ℕ → ℕ
  pub adds_up : (j : ℕ) → j < q → x j ≡ combined found (λ i. get_or o.times i 0) row j + left j
  -- "nothing listed lies below it"
  pub none_below : (i : ℕ) → i < found → Nonzero q (row i) → ¬ (AtOrBelow q (row i) left)
  -- it is made of the rows just where nothing is left
  pub answers : (o.answer ≡ made) ⊎ (o.answer ≡ unlisted)
  pub whole : o.answer ≡ made → (j : ℕ) → j < q → left j ≡ 0
  pub wholly : ((j : ℕ) → j < q → left j ≡ 0) → o.answer ≡ made
  -- "Space lent for output keeps what stood past the written part."
  pub length_kept : length o.times ≡ length times
  pub past_kept : (i : ℕ) → found ≤ i → get_or o.times i 0 ≡ get_or times i 0

taken_cases : (b : Bool) → (all_taken b ≡ made) ⊎ (all_taken b ≡ unlisted)
unfolding all_taken
taken_cases true = inl refl
taken_cases false = inr refl

taken_made : (b : Bool) → all_taken b ≡ made → T b
unfolding all_taken
taken_made true e = tt
taken_made false e = absurd (let z : ◌≡◌ {A = ℕ} 0 1 = cc in omega arith)

made_taken : (b : Bool) → T b → all_taken b ≡ made
unfolding all_taken
made_taken true h = refl
made_taken false h = absurd h

pub apart : (q found : ℕ) (row : ℕ → ℕ → ℕ) (x : ℕ → ℕ) (times : List ℕ) → Small q x → found ≤ length times
    → Apart q found row x times (taken_apart q found row x times)
unfolding taken_apart vanishes
apart q found row x times small space =
    let left : ℕ → ℕ = left_over q found row x in
    record {
      left = left;
      adds_up = times_add_up q row found x times space;
      none_below = none_left q row found x small;
      answers = taken_cases (vanishes q left);
      whole = λ e j l. eqb→eq (left j) 0 (all_at q _ (taken_made (vanishes q left) e) j l);
      wholly = λ h. made_taken (vanishes q left) (all_from q _ (λ j l. rw (h j l) (eqb_refl 0)));
      length_kept = times_length q row found x times;
      past_kept = times_outside q row found x times;
    }

-- ---- the call

module _ (s : Sizes) (i : Input) (list : List ℕ) (found : ℕ) (t times : List ℕ) where
  abbrev m : System
  m = map_of i

  abbrev row : ℕ → ℕ → ℕ
  row = at list i.q

  abbrev x : ℕ → ℕ
  x j = get_or t j 0

  abbrev o : Outcome
  o = decomposed_within s i list found t times

  abbrev rest : Outcome
  rest = if_space (leb found (length times)) times (taken_apart i.q found row x times)

  -- the three ways that it goes: a refusal of Job 8's is due; or else an equation is off; or else the tuple is a solution
  pub data Way : Type 0 where
    due : (n : ℕ) (values : List ℕ) → FirstDue (reason_rules s i list found t) n values → o ≡ record { answer = refused n values; times = times } → Way
    uneven : AllSilent (reason_rules s i list found t) → (k : ℕ) (amount : ℤ) → Off m found row x k amount
        → o ≡ record { answer = off k amount; times = times } → Way
    solved : AllSilent (reason_rules s i list found t) → Solution m.p m.q (coef m) x → o ≡ rest → Way

  by_reason : AllSilent (reason_rules s i list found t) → (r : Reason) → reason_within s i list found t ≡ r → Way
  unfolding decomposed_within unless_off
  by_reason silent why.zero e = solved silent (zero_solves m found row x (reason_given s i list found t silent why.zero e).0) (rw e)
  by_reason silent (why.off k amount) e = uneven silent k amount (reason_given s i list found t silent (why.off k amount) e).0 (rw e)
  by_reason silent (why.stands n) e = solved silent (none_off_solves m found row x (reason_given s i list found t silent (why.stands n) e).1.1) (rw e)
  by_reason silent (why.above n) e = solved silent (none_off_solves m found row x (reason_given s i list found t silent (why.above n) e).1.1) (rw e)
  by_reason silent why.unlisted e = solved silent (none_off_solves m found row x (reason_given s i list found t silent why.unlisted e).1.1) (rw e)
  by_reason silent (why.refused n values) e = absurd (reason_given s i list found t silent (why.refused n values) e).0

  pub goes_one_way : Way
  unfolding decomposed_within unless_off
  goes_one_way =
      elim (check_cases (reason_checks s i list found t)) [
        | inl g ↦ by_reason ((reason_renders s i list found t).goes g) (reason_within s i list found t) refl
        | inr (n, values, g) ↦
            let d = (reason_renders s i list found t).refuses n values g in
            due n values d (rw (refused_reason s i list found t n values d))
      ]
