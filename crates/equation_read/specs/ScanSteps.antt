-- The steps of the scan, by the byte that is taken. Assumes nothing.
use Prim.Native.Nat.{ℕ, zero, suc, ◌+◌, ◌*◌, ◌≤◌, ◌<◌}
use Rattle.std.specs.Prelude.{Bool, true, false, cond, ◌&&◌, List, ◌≡◌, eqb, length, get_or, drop}
use Rattle.std.proofs.Common.{drop_of_length-le}
use Rattle.std.proofs.Math.Numerals.{add-one}
use native.Mathlib.Omega.{arith}
use Rattle.std.proofs.Math.Dec.{leb}
use Rattle.texts.specs.Reading.{is_digit, digit}
use Rattle.texts.proofs.NumberLaws.{byte_at}
use Rattle.equation_spec.specs.Scan.{Phase, nothing, sum_due, term_due, factor_due, index_due, in_number, after_number, in_index, after_bracket, after_term}
use Rattle.equation_spec.specs.Scan.{Step, to}
use Rattle.equation_spec.specs.Scan.{fault, onward, factor_begins, term_begins, sum_begins, after_digits, after_factor, step, final}
use Rattle.equation_spec.specs.Scan.{place_from}

-- ---- the loop: i bytes are passed

module _ (q : ℕ) (t : List ℕ) (i : ℕ) (f : Phase) (d : ℕ) (r : Bool) where
  pub at_fault : i < length t → fault ≡ step q (get_or t i 0) f d r → i + 1 ≡ place_from q (i + 1) f d r (drop i t)
  unfolding place_from
  at_fault l e = rw (byte_at t i l, ← e)

  pub at_step : {g : Phase} {e : ℕ} {s : Bool} → i < length t → to g e s ≡ step q (get_or t i 0) f d r
      → place_from q (i + 1 + 1) g e s (drop (i + 1) t) ≡ place_from q (i + 1) f d r (drop i t)
  unfolding place_from
  at_step l e = rw (byte_at t i l, ← e, add-one (i + 1))

  pub at_end : length t ≤ i → (b : Bool) → b ≡ final f d r → cond b 0 (i + 1) ≡ place_from q (i + 1) f d r (drop i t)
  unfolding place_from
  at_end l b e = rw (drop_of_length-le t l, e)

-- ---- a step opens at most one bracket

abbrev Opens : Step → ℕ → Type 0
Opens (to g e s) d = e ≤ suc d
Opens fault d = Unit {0}

opens_if : (c : Bool) (x y : Step) (d : ℕ) → Opens x d → Opens y d → Opens (cond c x y) d
opens_if true x y d a b = a
opens_if false x y d a b = b

module _ (b d : ℕ) (r : Bool) where
  same_opened : d ≤ suc d
  same_opened = omega arith

  onward_opens : Opens (onward b d r) d
  unfolding onward
  onward_opens =
      opens_if (eqb b 43) _ _ d same_opened
      (opens_if (eqb b 45) _ _ d same_opened (opens_if (eqb b 41) _ _ d (closing_opens d) (opens_if (eqb b 61) _ _ d (equating_opens d r) tt)))
    where
      closing_opens : (d : ℕ) → Opens (Rattle.equation_spec.specs.Scan.closing d r) d
      closing_opens zero = tt
      closing_opens (suc d) = omega arith

      equating_opens : (d : ℕ) (r : Bool) → Opens (Rattle.equation_spec.specs.Scan.equating d r) d
      equating_opens zero false = omega arith
      equating_opens zero true = tt
      equating_opens (suc d) r = tt

  factor_opens : Opens (factor_begins b d r) d
  unfolding factor_begins
  factor_opens = opens_if (eqb b 120) _ _ d same_opened (opens_if (eqb b 40) _ _ d (omega arith) tt)

  term_opens : Opens (term_begins b d r) d
  unfolding term_begins
  term_opens = opens_if (is_digit b) _ _ d same_opened factor_opens

  sum_opens : Opens (sum_begins b d r) d
  unfolding sum_begins
  sum_opens = opens_if (eqb b 43) _ _ d same_opened (opens_if (eqb b 45) _ _ d same_opened term_opens)

  digits_opens : Opens (after_digits b d r) d
  unfolding after_digits
  digits_opens = opens_if (eqb b 32) _ _ d same_opened (opens_if (eqb b 42) _ _ d same_opened onward_opens)

  ends_opens : Opens (after_factor b d r) d
  unfolding after_factor
  ends_opens = opens_if (eqb b 32) _ _ d same_opened onward_opens

  step_opens : (q : ℕ) (f : Phase) → Opens (step q b f d r) d
  unfolding step
  step_opens q nothing = sum_opens
  step_opens q sum_due = opens_if (eqb b 32) _ _ d same_opened sum_opens
  step_opens q term_due = opens_if (eqb b 32) _ _ d same_opened term_opens
  step_opens q factor_due = opens_if (eqb b 32) _ _ d same_opened factor_opens
  step_opens q index_due = opens_if (is_digit b) _ _ d (opens_if (leb 1 (digit b) && leb (digit b) q) _ _ d same_opened tt) tt
  step_opens q (in_number zero) = digits_opens
  step_opens q (in_number (suc k)) = opens_if (is_digit b) _ _ d same_opened digits_opens
  step_opens q after_number = digits_opens
  step_opens q (in_index k) = opens_if (is_digit b) _ _ d (opens_if (leb 1 (k * 10 + digit b) && leb (k * 10 + digit b) q) _ _ d same_opened tt) ends_opens
  step_opens q after_bracket = ends_opens
  step_opens q after_term = ends_opens

  pub opened_most : (q : ℕ) (f : Phase) {g : Phase} {e : ℕ} {s : Bool} → to g e s ≡ step q b f d r → e ≤ suc d
  opened_most q f h = rw (← h) at (step_opens q f)
