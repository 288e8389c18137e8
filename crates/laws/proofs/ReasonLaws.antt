-- Theorems about what specs/ReasonLaws.antt defines. Assumes nothing.
use Rattle.std.proofs.Math.Path.{◌≡◌, refl}
use Rattle.std.proofs.Common.{sym, ◌∙◌, T_not, leb→le, le→leb}
use Rattle.std.specs.Prelude.{Bool, not, ℕ, ◌*◌, ◌-◌, ◌<◌, T, leb, ℤ, pos, nat_abs, length, get_or}
use Rattle.std.proofs.Math.Logic.{inl, inr}
use Rattle.std.proofs.Math.Bool.{true, false}
use mathlib.Core.List.{List}
use Rattle.std.proofs.Math.Option.{Option, some, none}
use native.Mathlib.Omega.{arith}
use Rattle.std.proofs.Math.Dec.{not_T, eqb→eq, eqb_refl}
use Rattle.linear.proofs.Cases.{split}
use Rattle.linear.proofs.PlaceLaws.{First, FirstIs, Last, LastIs, Never, first_from, first_is, first_none, last_from, last_is, last_none}
use Rattle.linear.proofs.TestLaws.{all_at, all_from}
use Rattle.linear.specs.Systems.{SolutionIn}
use Rattle.linear.proofs.TupleLaws.{differ}
use Rattle.linear.specs.Tuples.{AtOrBelow, Below, Nonzero, Same}
use Rattle.definitions.specs.Answers.{Check, go, refuse}
use Rattle.definitions.specs.Highest.{highest}
use Rattle.definitions.specs.Input.{Input, limit_of, map_of}
use Rattle.definitions.specs.Reasons.{Reason, above, above_or, check_count, first_off, first_true, in_list, is_same, off, off_or, reason_checks, reason_within}
use Rattle.definitions.specs.Reasons.{refused, standing, stands, stands_or, unless_refused, unlisted, vanishes, zero, zero_or}
use Rattle.definitions.specs.Refusals.{Sizes}
use Rattle.definitions.specs.System.{System, coef, coef_limit, image_of, is_zero}
use Rattle.definitions.specs.Tables.{at, capacity}
use Rattle.laws.specs.CheckLaws.{AllSilent, Decides, FirstDue, Renders, rule}
use Rattle.laws.proofs.CheckLaws.{check_cases, decides_if, renders_last, renders_then}
use Rattle.laws.proofs.RefusalLaws.{at_most, decides_bound, decides_outside, decides_range, decides_unequal, equal}
use Rattle.laws.proofs.SystemLaws.{below_from, below_to, is_zero_lem, zero_is}
use Rattle.laws.specs.ReasonLaws.{Above, AllZero, Askable, Claim, Given, NoneBelow, NoneEarlier, Off, Stands, is_below, is_off, is_row, not_zero, reason_rules}
use Rattle.laws.specs.ReasonLaws.{row, x, zero_from}

pub decides_count : (i : Input) (list : List ℕ) (found : ℕ) → Decides (check_count i list found) (rule 6 (capacity i.q list < found))
decides_count i list found =
    let room : ℕ = capacity i.q list in
    decides_if (not (leb found room)) 6 (room < found)
    (λ h. elim (split room found) [ inl l ↦ l | inr l ↦ absurd (T_not (leb found room) h (le→leb found room l)) ])
    (λ l. not_T (leb found room) (λ h. omega (arith, leb→le found room h)))

module _ (s : Sizes) (i : Input) (list : List ℕ) (found : ℕ) (t : List ℕ) where
  pub reason_renders : Renders (reason_checks s i list found t) (reason_rules s i list found t)
  unfolding reason_checks
  reason_renders =
      renders_then (decides_outside 1 1 s.equations i.p)
      (renders_then (decides_outside 2 1 s.unknowns i.q)
      (renders_then (decides_unequal 3 (length i.coefs) (i.p * i.q))
      (renders_then (decides_unequal 5 (length t) i.q)
      (renders_then (decides_count i list found) (renders_then (decides_range i) (renders_last (decides_bound i t)))))))

  pub reason_askable : reason_checks s i list found t ≡ go → Askable s i list found t
  reason_askable e =
      let (p, (q, (c, (n, (k, (r, (b, u))))))) = reason_renders.goes e in
      record {
        p_some = at_most 1 i.p (λ l. p (inl l));
        p_few = at_most i.p s.equations (λ l. p (inr l));
        q_some = at_most 1 i.q (λ l. q (inl l));
        q_few = at_most i.q s.unknowns (λ l. q (inr l));
        coefs = equal (length i.coefs) (i.p * i.q) c;
        tuple = equal (length t) i.q n;
        rows = at_most found (capacity i.q list) k;
        range = λ k l. at_most (nat_abs (get_or i.coefs k (pos 0))) coef_limit (r k l);
        small = λ j l. at_most (get_or t j 0) (limit_of i.limit) (λ h. b (j, l, h));
      }

-- ---- the tests

not_not_T : (b : Bool) → T (not (not b)) → T b
not_not_T true h = tt
not_not_T false h = absurd h

module _ (q : ℕ) (s x : ℕ → ℕ) where
  same_from : T (is_same q s x) → Same q s x
  unfolding is_same
  same_from h j l = eqb→eq (s j) (x j) (all_at q _ h j l)

  same_to : Same q s x → T (is_same q s x)
  unfolding is_same
  same_to e = all_from q _ (λ j l. rw (e j l) (eqb_refl (x j)))

-- ---- what a reason claims: of a system, the first `found` rows of a list, and a tuple x

module _ (m : System) (found : ℕ) (row : ℕ → ℕ → ℕ) (x : ℕ → ℕ) where
  zero_to : (AllZero m found row x) → T (vanishes m.q x)
  unfolding vanishes
  zero_to h = all_from m.q _ (λ j l. rw (h j l) (eqb_refl 0))

  off_from : (k : ℕ) → First m.p (is_off m found row x) k → (Off m found row x) k (image_of m x (k - 1))
  off_from k h =
      record {
        some = h.some;
        few = h.few;
        by = refl;
        not_zero = λ e. T_not (is_zero (image_of m x (k - 1))) h.holds (zero_is (image_of m x (k - 1)) e);
        first = λ i l. is_zero_lem (image_of m x i) (not_not_T (is_zero (image_of m x i)) (not_T (not (is_zero (image_of m x i))) (h.none_before i l)));
      }

  off_to : {k : ℕ} {amount : ℤ} → (Off m found row x) k amount → First m.p (is_off m found row x) k
  off_to {k} {amount} o =
      record {
        some = o.some;
        few = o.few;
        holds = not_T (is_zero (image_of m x (k - 1))) (λ h. o.not_zero (sym o.by ∙ is_zero_lem (image_of m x (k - 1)) h));
        none_before = λ i l h. T_not (is_zero (image_of m x i)) h (zero_is (image_of m x i) (o.first i l));
      }

  stands_from : (n : ℕ) → Last found (is_row m found row x) n → (Stands m found row x) n
  stands_from n h =
      record {
        some = h.some;
        few = h.few;
        same = same_from m.q (row (n - 1)) x h.holds;
        last = λ i l k e. h.none_after i l k (same_to m.q (row i) x e);
      }

  stands_to : {n : ℕ} → (Stands m found row x) n → Last found (is_row m found row x) n
  stands_to {n} s =
      record {
        some = s.some;
        few = s.few;
        holds = same_to m.q (row (n - 1)) x s.same;
        none_after = λ i l k h. s.last i l k (same_from m.q (row i) x h);
      }

  -- where no row is x, a row at or below x lies below it
  module _ (other : Never found (is_row m found row x)) where
    lies_below : (i : ℕ) → i < found → AtOrBelow m.q (row i) x → Below m.q (row i) x
    lies_below i l b = record { at_most = b; other = λ e. other i l (same_to m.q (row i) x e) }

    above_from : (n : ℕ) → Last found (is_below m found row x) n → (Above m found row x) n
    above_from n h =
        record {
          some = h.some;
          few = h.few;
          below = lies_below (n - 1) (omega (arith, h.some, h.few)) (below_from m.q (row (n - 1)) x h.holds);
          last = λ i l k b. h.none_after i l k (below_to m.q (row i) x b.at_most);
        }

    above_to : {n : ℕ} → (Above m found row x) n → Last found (is_below m found row x) n
    above_to {n} a =
        record {
          some = a.some;
          few = a.few;
          holds = below_to m.q (row (n - 1)) x a.below.at_most;
          none_after = λ i l k h. a.last i l k (lies_below i k (below_from m.q (row i) x h));
        }

  given_above : ¬ (AllZero m found row x) → ((k : ℕ) (amount : ℤ) → ¬ ((Off m found row x) k amount)) → Never found (is_row m found row x) → (o : Option ℕ)
      → LastIs found (is_below m found row x) o → (Given m found row x) (above_or o unlisted)
  unfolding above_or
  given_above z f s none h =
      let none_below : (NoneBelow m found row x) = λ i l b. h i l (below_to m.q (row i) x b.at_most) in (
        none_below,
        (z, f, λ i y. s (i - 1) (omega (arith, y.some, y.few)) (stands_to y).holds, λ i y. none_below (i - 1) (omega (arith, y.some, y.few)) y.below),
      )
  given_above z f s (some n) h = (above_from s n h, (z, f, λ i y. s (i - 1) (omega (arith, y.some, y.few)) (stands_to y).holds))

  given_stands : ¬ (AllZero m found row x) → ((k : ℕ) (amount : ℤ) → ¬ ((Off m found row x) k amount)) → (o : Option ℕ) → LastIs found (is_row m found row x) o
      → (Given m found row x) (stands_or o (above_or (highest m.q found row x) unlisted))
  unfolding stands_or highest
  given_stands z f none h = given_above z f h (highest m.q found row x) (last_is found (is_below m found row x))
  given_stands z f (some n) h = (stands_from n h, (z, f))

  given_off : ¬ (AllZero m found row x) → (o : Option ℕ) → FirstIs m.p (is_off m found row x) o
      → (Given m found row x) (off_or (image_of m x) o (in_list m.q found row x))
  unfolding off_or standing in_list
  given_off z none h =
      given_stands z (λ k amount o. h (k - 1) (omega (arith, o.some, o.few)) (off_to o).holds) (standing m.q found row x) (last_is found (is_row m found row x))
  given_off z (some k) h = (off_from k h, z)

  given_zero : (b : Bool) → vanishes m.q x ≡ b → (Given m found row x) (zero_or b (off_or (image_of m x) (first_off m x) (in_list m.q found row x)))
  unfolding zero_or first_off
  given_zero true e = ((zero_from m found row x) (rw e tt), tt)
  given_zero false e = given_off (λ z. rw e at (zero_to z)) (first_off m x) (first_is m.p (is_off m found row x))

  pub first_given : (Claim m found row x) (first_true m found row x) × (NoneEarlier m found row x) (first_true m found row x)
  unfolding first_true
  first_given = given_zero (vanishes m.q x) refl

  is_all_zero : (AllZero m found row x) → vanishes m.q x ≡ true
  is_all_zero z = true_of (vanishes m.q x) (zero_to z)
    where
      true_of : (b : Bool) → T b → b ≡ true
      true_of true y = refl
      true_of false y = absurd y

  none_off : ((k : ℕ) (amount : ℤ) → ¬ ((Off m found row x) k amount)) → first_off m x ≡ none
  unfolding first_off
  none_off f = first_none m.p (is_off m found row x) (λ k h. f k (image_of m x (k - 1)) (off_from k h))

  none_stands : ((i : ℕ) → ¬ ((Stands m found row x) i)) → (standing m.q found row x ≡ none) × Never found (is_row m found row x)
  unfolding standing
  none_stands s =
      let e = last_none found (is_row m found row x) (λ k h. s k (stands_from k h)) in
      (e, rw e at (last_is found (is_row m found row x)))

  is_off_lem : {k : ℕ} {amount : ℤ} → (Off m found row x) k amount → first_off m x ≡ some k
  unfolding first_off
  is_off_lem {k} o = first_from m.p (is_off m found row x) (some k) (off_to o)

  is_standing : {n : ℕ} → (Stands m found row x) n → standing m.q found row x ≡ some n
  unfolding standing
  is_standing {n} s = last_from found (is_row m found row x) (some n) (stands_to s)

  module _ (other : Never found (is_row m found row x)) where
    is_above : {n : ℕ} → (Above m found row x) n → highest m.q found row x ≡ some n
    unfolding highest
    is_above {n} a = last_from found (is_below m found row x) (some n) (above_to other a)

    none_above : ((i : ℕ) → ¬ ((Above m found row x) i)) → highest m.q found row x ≡ none
    unfolding highest
    none_above a = last_none found (is_below m found row x) (λ k h. a k (above_from other k h))

  pub only_given : (r : Reason) → (Claim m found row x) r × (NoneEarlier m found row x) r → first_true m found row x ≡ r
  unfolding first_true zero_or off_or in_list stands_or above_or
  only_given zero (c, u) = rw (is_all_zero c)
  only_given (off k amount) (c, z) = rw ((not_zero m found row x) z, is_off_lem c, ← c.by)
  only_given (stands n) (c, (z, f)) = rw ((not_zero m found row x) z, none_off f, is_standing c)
  only_given (above n) (c, (z, f, s)) = let (e, other) = none_stands s in rw ((not_zero m found row x) z, none_off f, e, is_above other c)
  only_given unlisted (c, (z, f, s, a)) = let (e, other) = none_stands s in rw ((not_zero m found row x) z, none_off f, e, none_above other a)
  only_given (refused n values) (c, u) = absurd c

  -- what the last reason comes to: a solution, not all zero, with no row at or below it
  pub unlisted_means : (Claim m found row x) unlisted × (NoneEarlier m found row x) unlisted
      → SolutionIn m.p m.q (coef m) (Nonzero m.q) x × ((i : ℕ) → i < found → ¬ (AtOrBelow m.q (row i) x))
  unlisted_means (c, (z, f, s, a)) = (
    record {
      solution = λ i l. is_zero_lem (image_of m x i) (not_not_T (is_zero (image_of m x i)) (not_T ((is_off m found row x) i) (none_off_at i l)));
      admitted = elim (differ m.q x (λ j. 0)) [ inl e ↦ absurd (z e) | inr (j, l, ne) ↦ (j, l, omega arith) ];
    },
    λ i l b. c i l (lies_below (none_stands s).1 i l b),
  )
    where
      none_off_at : Never m.p (is_off m found row x)
      none_off_at = rw (first_none m.p (is_off m found row x) (λ k h. f k (image_of m x (k - 1)) (off_from k h))) at (first_is m.p (is_off m found row x))

-- ---- the answer to a question, refused or not

refused_by : (c : Check) (r : Reason) (n : ℕ) (values : List ℕ) → ¬ (r ≡ refused n values) → unless_refused c r ≡ refused n values → c ≡ refuse n values
unfolding unless_refused
refused_by (refuse k vs) r n values other e = cc
refused_by go r n values other e = absurd (other e)

module _ (s : Sizes) (i : Input) (list : List ℕ) (found : ℕ) (t : List ℕ) where
  -- a refusal is given exactly where it is due
  pub reason_refused : (n : ℕ) (values : List ℕ) → reason_within s i list found t ≡ refused n values → FirstDue (reason_rules s i list found t) n values
  unfolding reason_within
  reason_refused n values e =
      (reason_renders s i list found t).refuses n values
      (refused_by (reason_checks s i list found t) (first_true (map_of i) found (row s i list found t) (x s i list found t)) n values
      (λ f. rw f at (first_given (map_of i) found (row s i list found t) (x s i list found t)).0) e)

  pub refused_reason : (n : ℕ) (values : List ℕ) → FirstDue (reason_rules s i list found t) n values → reason_within s i list found t ≡ refused n values
  unfolding reason_within unless_refused
  refused_reason n values h = rw ((reason_renders s i list found t).due n values h)

  -- and where none is due, the first that is true
  module _ (none_due : AllSilent (reason_rules s i list found t)) where
    asked : reason_within s i list found t ≡ first_true (map_of i) found (row s i list found t) (x s i list found t)
    unfolding reason_within unless_refused
    asked = rw ((reason_renders s i list found t).silent none_due)

    pub reason_given : (r : Reason) → reason_within s i list found t ≡ r → Claim (map_of i) found (row s i list found t) (x s i list found t) r
        × NoneEarlier (map_of i) found (row s i list found t) (x s i list found t) r
    reason_given r e = rw (sym asked ∙ e) at (first_given (map_of i) found (row s i list found t) (x s i list found t))

    pub given_reason : (r : Reason) → Claim (map_of i) found (row s i list found t) (x s i list found t) r
        × NoneEarlier (map_of i) found (row s i list found t) (x s i list found t) r → reason_within s i list found t ≡ r
    given_reason r h = asked ∙ only_given (map_of i) found (row s i list found t) (x s i list found t) r h

  -- an answer that is no refusal comes where none is due
  pub unlisted_asked : reason_within s i list found t ≡ unlisted → AllSilent (reason_rules s i list found t)
  unfolding reason_within unless_refused
  unlisted_asked e =
      elim (check_cases (reason_checks s i list found t)) [
        | inl g ↦ (reason_renders s i list found t).goes g
        | inr (n, values, g) ↦ absurd (refused_unlisted (rw g at e))
      ]
    where
      refused_unlisted : {n : ℕ} {values : List ℕ} → refused n values ≡ unlisted → ⊥
      refused_unlisted f = let z : ◌≡◌ {A = ℕ} 0 1 = cc in omega arith

  -- refusal 6 is about the count of rows alone
  pub count_refused : (values : List ℕ) → reason_within s i list found t ≡ refused 6 values → capacity i.q list < found
  count_refused values e =
      elim (reason_refused 6 values e) [
        | inl d ↦ absurd (omega (arith, d.0))
        | inr h1 ↦ elim h1.1 [
          | inl d ↦ absurd (omega (arith, d.0))
          | inr h2 ↦ elim h2.1 [
            | inl d ↦ absurd (omega (arith, d.0))
            | inr h3 ↦ elim h3.1 [
              | inl d ↦ absurd (omega (arith, d.0))
              | inr h5 ↦ elim h5.1 [
                | inl d ↦ d.2
                | inr h6 ↦ elim h6.1 [
                  | inl d ↦ absurd (omega (arith, d.0))
                  | inr h7 ↦ elim h7.1 [ inl d ↦ absurd (omega (arith, d.0)) | inr h8 ↦ absurd h8.1 ]
                ]
              ]
            ]
          ]
        ]
      ]
