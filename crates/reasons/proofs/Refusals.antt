-- Theorems about what specs/Refusals.antt defines. Assumes nothing.
use Rattle.std.specs.Prelude.{◌≡◌, true, false, List, [], ℕ, leb, eqb, ℤ, length, Result, Ok, Err}
use Rattle.definitions.specs.Answers.{Check, ◌then◌, go, refuse, refuse_with}
use Rattle.definitions.specs.Reasons.{reason_checks}
use Rattle.definitions.specs.Refusals.{Sizes, check7}
use Rattle.definitions.specs.System.{most_component}
use Rattle.definitions.specs.Tables.{capacity}
use Rattle.laws.proofs.AnswerLaws.{then_assoc}
use Rattle.calls.specs.Paper.{check_of}
use Rattle.calls.specs.declared.Refusal.{Refusal}
use Rattle.checks.specs.Coefficients.{coefficient_checks}
use Rattle.checks.specs.Counts.{counts_within}
use Rattle.checks.specs.Shape.{above_limit}
use Rattle.reasons.specs.Refusals.{asked, own, range_checks}

module _ (coefs : List ℤ) (t : List ℕ) {c : Result (Unit {0}) Refusal} (e : check_of c ≡ coefficient_checks coefs) where
  pub coefficient_off : {why : Refusal} → c ≡ Err why → check_of (Err why) ≡ range_checks coefs t
  unfolding ◌then◌
  coefficient_off g = rw (← e, g)

  pub one_large : {x : Unit {0}} → c ≡ Ok x → above_limit most_component t ≡ true → refuse 8 [] ≡ range_checks coefs t
  unfolding ◌then◌ refuse_with
  one_large g h = rw (← e, g, h)

  pub all_small : {x : Unit {0}} → c ≡ Ok x → above_limit most_component t ≡ false → go ≡ range_checks coefs t
  unfolding ◌then◌ refuse_with
  all_small g h = rw (← e, g, h)

module _ (s : Sizes) (p q : ℕ) (coefs : List ℤ) (list : List ℕ) (found : ℕ) (t : List ℕ) where
  counts_then : counts_within s p q (length coefs) then (own s p q coefs list found t) ≡ (asked s p q coefs list found t)
  unfolding reason_checks
  counts_then = simp then_assoc

  module _ {c : Result (Unit {0}) Refusal} (k : check_of c ≡ counts_within s p q (length coefs)) where
    pub counts_off : {why : Refusal} → c ≡ Err why → check_of (Err why) ≡ (asked s p q coefs list found t)
    unfolding ◌then◌
    counts_off g = rw (← counts_then, ← k, g)

    module _ {x : Unit {0}} (g : c ≡ Ok x) where
      pub other_length : eqb (length t) q ≡ false → refuse 5 [] ≡ (asked s p q coefs list found t)
      unfolding refuse_with ◌then◌
      other_length f = rw (← counts_then, ← k, g, f)

      module _ (f : eqb (length t) q ≡ true) where
        pub many_rows : leb found (capacity q list) ≡ false → refuse 6 [] ≡ (asked s p q coefs list found t)
        unfolding refuse_with ◌then◌
        many_rows h = rw (← counts_then, ← k, g, f, h)

        pub in_ranges : leb found (capacity q list) ≡ true → {r : Check} → r ≡ range_checks coefs t → r ≡ (asked s p q coefs list found t)
        unfolding check7 refuse_with ◌then◌
        in_ranges h i = rw (← counts_then, ← k, g, f, h) i
