-- What the writer answers, case by case. Assumes nothing.
use Rattle.std.specs.Prelude.{ℕ, ◌+◌, ◌≤◌, ◌<◌, true, false, List, [], ◌∷◌, ◌≡◌, ltb, ℤ, pos, nat_abs, length, get_or}
use Rattle.std.proofs.Common.{arith, ltb→lt, lt→ltb, length-append}
use borrow.Author.Tests.{eq-eqb, ne_eqb, le-leb, lt-leb, lt-ltb, le-ltb}
use Rattle.definitions.specs.Answers.{refuse, go, refuse_if, refuse_with, ◌then◌}
use Rattle.definitions.specs.System.{coef_limit}
use Rattle.definitions.specs.Refusals.{out_of_range}
use Rattle.laws.proofs.CheckLaws.{decides_first}
use Rattle.checks.specs.Coefficients.{coefficient_checks}
use Rattle.texts.specs.Decimals.{space, numeral}
use Rattle.texts.specs.Put.{Put}
use Rattle.texts.proofs.PutTheorems.{put_whole}
use Rattle.equation_spec.specs.Grammar.{equals_byte}
use Rattle.equation_spec.proofs.WriteLaws.{written_short}
use Rattle.equation_spec.specs.Writing.{terms, written, wrote, refused, write_checks, put_out, write}
use Rattle.equation_write.specs.Texts.{InRange}

module _ (q : ℕ) (row : List ℤ) (right : ℤ) (out : List ℕ) where
  pub no_unknown : q < 1 → refused 2 [] out ≡ write q row right out
  unfolding write write_checks put_out ◌then◌ refuse_with
  no_unknown l = rw (lt-leb 1 q l)

  module _ (some : 1 ≤ q) where
    pub many_unknowns : 16 < q → refused 2 [] out ≡ write q row right out
    unfolding write write_checks put_out ◌then◌ refuse_with
    many_unknowns l = rw (le-leb 1 q some, lt-leb q 16 l)

    module _ (few : q ≤ 16) where
      pub other_length : (length row ≡ q → ⊥) → refused 3 [] out ≡ write q row right out
      unfolding write write_checks put_out ◌then◌ refuse_with
      other_length h = rw (le-leb 1 q some, le-leb q 16 few, ne_eqb (length row) q h)

      module _ (whole : length row ≡ q) where
        pub large : {n : ℕ} {values : List ℕ} → refuse n values ≡ coefficient_checks row → refused n values out ≡ write q row right out
        unfolding write write_checks put_out ◌then◌ refuse_with
        large e = rw (le-leb 1 q some, le-leb q 16 few, eq-eqb (length row) q whole, ← e)

        pub in_range : go ≡ coefficient_checks row
            → put_out (refuse_if (out_of_range right) 15 then refuse_if (ltb (length out) (length (written row right))) 29)
            (written row right) out ≡ write q row right out
        unfolding write write_checks put_out ◌then◌ refuse_with
        in_range e = rw (le-leb 1 q some, le-leb q 16 few, eq-eqb (length row) q whole, ← e)

-- the coefficients that the check lets pass
pub passed : (row : List ℤ) → go ≡ coefficient_checks row → InRange row
passed row e =
    let size : ℕ → ℕ = λ i. nat_abs (get_or row i (pos 0)) in
    let d = decides_first 7 (length row) (λ i. out_of_range (get_or row i (pos 0))) (λ i. coef_limit < size i) (λ i l. ltb→lt coef_limit (size i))
    (λ i l. lt→ltb coef_limit (size i)) in
    record { range = λ i l. omega (arith, d.goes (rw (← e)) i l) }

module _ (right : ℤ) (text out : List ℕ) where
  pub right_out : out_of_range right ≡ true
      → refused 15 [] out ≡ put_out (refuse_if (out_of_range right) 15 then refuse_if (ltb (length out) (length text)) 29) text out
  unfolding put_out ◌then◌ refuse_with
  right_out e = rw e

  pub right_in : out_of_range right ≡ false
      → put_out (refuse_if (ltb (length out) (length text)) 29) text out
      ≡ put_out (refuse_if (out_of_range right) 15 then refuse_if (ltb (length out) (length text)) 29) text out
  unfolding put_out ◌then◌ refuse_with
  right_in e = rw e

module _ (text out : List ℕ) where
  pub no_space_lem : length out < length text → refused 29 [] out ≡ put_out (refuse_if (ltb (length out) (length text)) 29) text out
  unfolding put_out refuse_with
  no_space_lem l = rw (lt-ltb (length out) (length text) l)

  pub handed_out : {after : List ℕ} {n : ℕ} → length text ≤ length out → Put out 0 text after n
      → wrote n after ≡ put_out (refuse_if (ltb (length out) (length text)) 29) text out
  unfolding put_out refuse_with
  handed_out l p = let (a, b) = put_whole p in rw (le-ltb (length out) (length text) l, a, b)

-- both sides of a row in range fit into 256 bytes
pub sides_short : (row : List ℤ) (right : ℤ) → length row ≤ 16 → InRange row → nat_abs right ≤ coef_limit
    → length (terms 1 row) + 3 + length (numeral right) ≤ 256
unfolding written
sides_short row right few r l =
    omega (arith, written_short row right few r.range l, length-append (terms 1 row) (space ∷ equals_byte ∷ space ∷ numeral right))
