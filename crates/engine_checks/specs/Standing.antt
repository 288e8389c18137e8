-- What each call checks before its work, check by check, and what holds where they find nothing. Assumes nothing.
use Rattle.std.specs.Prelude.{◌≡◌, Bool, ◌&&◌, ◌||◌, List, ℕ, ◌+◌, ◌*◌, ◌^◌, ◌≤◌, ◌<◌, eqb, ℤ, pos, nat_abs, get_or, length}
use Rattle.std.proofs.Math.Path.{refl, sym}
use Rattle.std.proofs.Common.{◌∙◌, arith, eqb→eq, ltb→lt}
use Rattle.std.proofs.Math.Bool.{true, false}
use Rattle.std.proofs.Math.Nat.{mul-le-mul_right}
use borrow.Author.Tests.{eqb-true, ltb-false, not-false}
use Rattle.std.proofs.Math.Dec.{T, leb, leb→le, ltb}
use Rattle.linear.proofs.TestLaws.{all_at, and_parts}
use Rattle.linear.specs.Tests.{all_to}
use Rattle.definitions.specs.Answers.{Check, go, refuse, refuse_if, ◌then◌}
use Rattle.definitions.specs.Refusals.{step_limit}
use Rattle.laws.proofs.AnswerLaws.{refuse_if_go, then_assoc, then_go}
use Rattle.laws.proofs.TableLaws.{row_fits}
use Rattle.checks.specs.Coefficients.{coefficient_checks}
use Rattle.engine_spec.specs.Calls.{check1, check2, check3, check4, check6, check6_list, check7, coefficients_small, in_order, is_list, is_row, marks_in_order}
use Rattle.engine_spec.specs.Calls.{resume_checks, standing_then, start_checks, start_from_checks}
use Rattle.engine_spec.specs.Beside.{SmallEquation, SmallTable, coefficient_limit}
use Rattle.engine_spec.specs.Engine.{Work, basis_row}
use Rattle.engine_spec.specs.Reduction.{is_small}
use Rattle.engine_spec.proofs.ReductionLaws.{small_from}
use Rattle.engine_checks.specs.Sizes.{Sized, size_checks, sized}
use Rattle.engine_checks.specs.Taking.{left_by}

-- tables with room for these rows
pub record Roomed (q most room basis table : ℕ) : Type 0 where
  pub long : most * q ≤ basis
  pub wide : room * q ≤ table

-- ---- the start

-- 4, from the length of the working system
abbrev pub check4_by : (p q most numbers : ℕ) → Check
check4_by p q most numbers = refuse_if (ltb numbers (p * q) || ltb most q) 4

abbrev pub map_rest : (p q : ℕ) (coefs : List ℤ) (most numbers : ℕ) → Check
map_rest p q coefs most numbers = check3 p q coefs then check4_by p q most numbers

-- what every start checks of the map
unfoldable pub map_checks : (p q : ℕ) (coefs : List ℤ) (most numbers : ℕ) → Check
map_checks p q coefs most numbers = size_checks p q then map_rest p q coefs most numbers

unfoldable pub start_checks_by : (p q : ℕ) (coefs : List ℤ) (most numbers : ℕ) → Check
start_checks_by p q coefs most numbers = map_checks p q coefs most numbers then check7 p q coefs

-- the own checks of a start from a list
abbrev pub list_rest : (p q : ℕ) (coefs : List ℤ) (n : ℕ) (rows : List ℕ) (most : ℕ) → Check
list_rest p q coefs n rows most = refuse_if (ltb most n) 4 then check6_list q n rows then check7 p q coefs

unfoldable pub start_from_checks_by : (p q : ℕ) (coefs : List ℤ) (n : ℕ) (rows : List ℕ) (most numbers : ℕ) → Check
start_from_checks_by p q coefs n rows most numbers = map_checks p q coefs most numbers then list_rest p q coefs n rows most

map_then : (p q : ℕ) (coefs : List ℤ) (most numbers : ℕ) (own : Check)
    → map_checks p q coefs most numbers then own ≡ check1 p then check2 q then check3 p q coefs then check4_by p q most numbers then own
unfolding map_checks size_checks
map_then p q coefs most numbers own = simp then_assoc

pub start_checks_lem : (p q : ℕ) (coefs : List ℤ) (most : ℕ) (w : Work) → start_checks_by p q coefs most (length w.equations) ≡ start_checks p q coefs most w
unfolding start_checks_by start_checks
start_checks_lem p q coefs most w = map_then p q coefs most (length w.equations) (check7 p q coefs)

pub start_from_checks_lem : (p q : ℕ) (coefs : List ℤ) (n : ℕ) (rows : List ℕ) (most : ℕ) (w : Work)
    → start_from_checks_by p q coefs n rows most (length w.equations) ≡ start_from_checks p q coefs n rows most w
unfolding start_from_checks_by start_from_checks
start_from_checks_lem p q coefs n rows most w = map_then p q coefs most (length w.equations) (list_rest p q coefs n rows most)

-- the coefficients, where there are as many as the map has
pub coefficients_are : (p q : ℕ) (coefs : List ℤ) → length coefs ≡ p * q → {c : Check} → c ≡ coefficient_checks coefs → c ≡ check7 p q coefs
coefficients_are p q coefs n k = rw n at k

-- what holds where the map is not refused
pub record Starts (p q : ℕ) (coefs : List ℤ) (most numbers : ℕ) : Type 0 where
  pub size : Sized p q
  pub count : length coefs ≡ p * q
  pub whole : p * q ≤ numbers
  pub some : q ≤ most

pub map_starts : (p q : ℕ) (coefs : List ℤ) (most numbers : ℕ) → map_checks p q coefs most numbers ≡ go → Starts p q coefs most numbers
unfolding map_checks
map_starts p q coefs most numbers e =
    let (a, e₁) = then_go (size_checks p q) _ e in
    let (c, d) = then_go (check3 p q coefs) _ e₁ in
    let (s, m) = or_false (ltb numbers (p * q)) (ltb most q) (refuse_if_go _ 4 d) in
    record {
      size = sized p q a;
      count = eqb-true (length coefs) (p * q) (not-false _ (refuse_if_go _ 3 c));
      whole = ltb-false numbers (p * q) s;
      some = ltb-false most q m;
    }
  where
    or_false : (b c : Bool) → (b || c) ≡ false → (b ≡ false) × (c ≡ false)
    or_false true c e = (e, cc)
    or_false false c e = (refl, e)

pub starts : (p q : ℕ) (coefs : List ℤ) (most numbers : ℕ) → start_checks_by p q coefs most numbers ≡ go → Starts p q coefs most numbers
unfolding start_checks_by
starts p q coefs most numbers e = map_starts p q coefs most numbers (then_go (map_checks p q coefs most numbers) _ e).0

pub starts_from : (p q : ℕ) (coefs : List ℤ) (n : ℕ) (rows : List ℕ) (most numbers : ℕ) → start_from_checks_by p q coefs n rows most numbers ≡ go
    → Starts p q coefs most numbers × (n ≤ most) × (length rows ≡ n * q)
unfolding start_from_checks_by is_list
starts_from p q coefs n rows most numbers e =
    let (a, e₁) = then_go (map_checks p q coefs most numbers) _ e in
    let (b, e₂) = then_go (refuse_if (ltb most n) 4) _ e₁ in
    let (c, d) = then_go (check6_list q n rows) _ e₂ in
    let h : T (is_list q n rows) = rw (not-false (is_list q n rows) (refuse_if_go _ 6 c)) tt in
    let (l, _) = and_parts (eqb (length rows) (n * q)) _ h in
    (map_starts p q coefs most numbers a, ltb-false most n (refuse_if_go _ 4 b), eqb→eq (length rows) (n * q) l)

-- ---- a call on a run

abbrev pub standing_rest : (p q most room : ℕ) → Work → Check
standing_rest p q most room w = check4 p q most w then check6 p q most room w

unfoldable pub standing : (p q most room : ℕ) → Work → Check
standing p q most room w = size_checks p q then standing_rest p q most room w

pub standing_then_lem : (p q most room : ℕ) (w : Work) (own : Check) → standing p q most room w then own ≡ standing_then p q most room w own
unfolding standing size_checks
standing_then_lem p q most room w own = simp then_assoc

then_none : (c : Check) → c then go ≡ c
unfolding ◌then◌
then_none (refuse n values) = refl
then_none go = refl

pub resume_checks_lem : (p q most room : ℕ) (w : Work) → standing p q most room w ≡ resume_checks p q most room w
unfolding resume_checks
resume_checks_lem p q most room w = sym (then_none (standing p q most room w)) ∙ standing_then_lem p q most room w go

-- what holds where it is not refused
pub record Stands (p q most room : ℕ) (w : Work) : Type 0 where
  pub size : Sized p q
  pub whole : p * q ≤ length w.equations
  pub some : q ≤ most
  pub order : in_order p q most room w ≡ true

pub stands : (p q most room : ℕ) (w : Work) → standing p q most room w ≡ go → Stands p q most room w
unfolding standing
stands p q most room w e =
    let (a, e₁) = then_go (size_checks p q) _ e in
    let (c, d) = then_go (check4 p q most w) _ e₁ in
    let (s, m) = or_false (ltb (length w.equations) (p * q)) (ltb most q) (refuse_if_go _ 4 c) in
    record {
      size = sized p q a;
      whole = ltb-false (length w.equations) (p * q) s;
      some = ltb-false most q m;
      order = not-false _ (refuse_if_go _ 6 d);
    }
  where
    or_false : (b c : Bool) → (b || c) ≡ false → (b ≡ false) × (c ≡ false)
    or_false true c e = (e, cc)
    or_false false c e = (refl, e)

-- ---- what the own checks need of a run that stands

module _ {p q most room : ℕ} {w : Work} (s : Stands p q most room w) where
  coefficient_small : (k : ℕ) → k < p * q → nat_abs (get_or w.equations k (pos 0)) ≤ coefficient_limit
  unfolding in_order coefficients_small
  coefficient_small k l =
      let t : T (in_order p q most room w) = rw s.order tt in
      let (_, e₁) = and_parts (leb w.count most && leb w.stage.rows room) _ t in
      let (_, e₂) = and_parts (leb w.stage.steps step_limit && ltb w.done (2 ^ p)) _ e₁ in
      let (_, e₃) = and_parts (marks_in_order p w.done w.equation) _ e₂ in
      let (d, _) = and_parts (coefficients_small (p * q) w.equations) _ e₃ in
      leb→le (nat_abs (get_or w.equations k (pos 0))) coefficient_limit (all_at (p * q) _ d k l)

  -- the rows of the basis
  pub basis_small : most * q ≤ length w.basis → SmallTable q w.count w.basis
  unfolding in_order is_row
  basis_small long =
      let t : T (in_order p q most room w) = rw s.order tt in
      let (few, e₁) = and_parts (leb w.count most && leb w.stage.rows room) _ t in
      let (_, e₂) = and_parts (leb w.stage.steps step_limit && ltb w.done (2 ^ p)) _ e₁ in
      let (_, e₃) = and_parts (marks_in_order p w.done w.equation) _ e₂ in
      let (_, e₄) = and_parts (coefficients_small (p * q) w.equations) _ e₃ in
      let (rows, _) = and_parts (all_to w.count (λ i. is_row q (basis_row q w i))) _ e₄ in
      let low : w.count ≤ most = leb→le w.count most (and_parts (leb w.count most) _ few).0 in
      record {
        few = s.size.unknowns;
        whole = omega (arith, mul-le-mul_right q low);
        small = λ i j l jq. small_from q (basis_row q w i) (and_parts (is_small q (basis_row q w i)) _ (all_at w.count _ rows i l)).0 j jq;
      }

  pub equation_small : (i : ℕ) → i < p → SmallEquation q w.equations (i * q)
  equation_small i l =
      record {
        unknowns = s.size.unknowns;
        whole = omega (arith, s.whole, row_fits q i p l);
        small = λ j jq. coefficient_small (i * q + j) (omega (arith, row_fits q i p l));
      }

-- an equation that is left is one of p
pub left_below : (p e equation done : ℕ) → left_by p e equation done ≡ true → e < p
left_below p e equation done h =
    let t : T (left_by p e equation done) = rw h tt in
    let (_, a) = and_parts (eqb equation p) _ t in
    let (b, _) = and_parts (ltb e p) _ a in
    ltb→lt e p b
