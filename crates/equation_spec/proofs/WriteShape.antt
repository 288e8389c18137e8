-- Theorems about what specs/WriteShape.antt defines. Assumes nothing.
use Rattle.std.specs.Prelude.{◌≡◌, refl, ◌≢◌, List, [], ◌∷◌, ◌++◌, ℕ, zero, suc, ℤ, pos, negsuc, nat_abs}
use Rattle.std.proofs.Common.{ap, arith}
use Rattle.texts.specs.Decimals.{space}
use Rattle.texts.specs.Decimals as texts
use Rattle.equation_spec.specs.Grammar.{equals_byte, minus, plus, sign_byte}
use Rattle.equation_spec.specs.Writing.{later_terms, multiple, spaced_sign, terms, written}
use Rattle.equation_spec.specs.WriteShape.{Shape, Terms, end, later_text, left_out, left_text, put}

-- ---- it is so

kept : ℕ → List ℤ → List (ℕ × ℤ)
kept k [] = []
kept k (pos zero ∷ row) = kept (suc k) row
kept k (pos (suc n) ∷ row) = (k, pos (suc n)) ∷ kept (suc k) row
kept k (negsuc n ∷ row) = (k, negsuc n) ∷ kept (suc k) row

some_pos : (n : ℕ) → pos (suc n) ≢ pos 0
some_pos n e = let z : suc n ≡ 0 = ap nat_abs e in omega arith

some_negative : (n : ℕ) → negsuc n ≢ pos 0
some_negative n e = let z : suc n ≡ 0 = ap nat_abs e in omega arith

are_kept : (k : ℕ) (row : List ℤ) → Terms k row (kept k row)
unfolding kept
are_kept k [] = end
are_kept k (pos zero ∷ row) = left_out (are_kept (suc k) row)
are_kept k (pos (suc n) ∷ row) = put (some_pos n) (are_kept (suc k) row)
are_kept k (negsuc n ∷ row) = put (some_negative n) (are_kept (suc k) row)

later_is : (k : ℕ) (row : List ℤ) → later_terms k row ≡ later_text (kept k row)
unfolding kept later_terms later_text
later_is k [] = refl
later_is k (pos zero ∷ row) = later_is (suc k) row
later_is k (pos (suc n) ∷ row) = ap (λ t. (spaced_sign plus ++ multiple (suc n) k) ++ t) (later_is (suc k) row)
later_is k (negsuc n ∷ row) = ap (λ t. (spaced_sign minus ++ multiple (suc n) k) ++ t) (later_is (suc k) row)

left_is : (k : ℕ) (row : List ℤ) → terms k row ≡ left_text (kept k row)
unfolding kept terms left_text
left_is k [] = refl
left_is k (pos zero ∷ row) = left_is (suc k) row
left_is k (pos (suc n) ∷ row) = ap (λ t. multiple (suc n) k ++ t) (later_is (suc k) row)
left_is k (negsuc n ∷ row) = ap (λ t. (sign_byte minus ∷ multiple (suc n) k) ++ t) (later_is (suc k) row)

pub written_shape : (row : List ℤ) (right : ℤ) → Shape row right
unfolding written
written_shape row right =
    record {
      put_down = kept 1 row;
      are = are_kept 1 row;
      no_one_times = λ k. refl;
      is = ap (λ t. t ++ (space ∷ equals_byte ∷ space ∷ texts.numeral right)) (left_is 1 row);
    }
