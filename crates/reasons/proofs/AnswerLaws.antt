-- What each way through the code comes to: the tests that were made, and the reason that they give. Assumes nothing.
use Rattle.std.specs.Prelude.{◌≡◌, true, false, List, ℕ, ◌-◌, ℤ, get_or, Option, Some, None, Result, Ok, Err}
use Rattle.std.proofs.Math.Option.{some, none}
use Rattle.definitions.specs.Reasons as paper
use Rattle.definitions.specs.Highest.{highest}
use Rattle.definitions.specs.Input.{Input, map_of}
use Rattle.definitions.specs.Reasons.{standing}
use Rattle.definitions.specs.Refusals.{Sizes}
use Rattle.definitions.specs.System.{System, image_of}
use Rattle.definitions.specs.Tables.{at}
use Rattle.table_rows.specs.Places.{place_of}
use Rattle.calls.specs.Paper.{check_of, number_of, values_of}
use Rattle.calls.specs.declared.Refusal.{Refusal}

-- ---- a solution in the list

module _ (q found : ℕ) (row : ℕ → ℕ → ℕ) (x : ℕ → ℕ) {s : Option ℕ} (e : place_of s ≡ standing q found row x) where
  pub stands_at : {n : ℕ} → s ≡ Some n → paper.stands n ≡ paper.in_list q found row x
  unfolding paper.in_list paper.stands_or
  stands_at g = rw (← e, g)

  module _ (g : s ≡ None) {h : Option ℕ} (f : place_of h ≡ highest q found row x) where
    pub above_at : {n : ℕ} → h ≡ Some n → paper.above n ≡ paper.in_list q found row x
    unfolding paper.in_list paper.stands_or paper.above_or
    above_at k = rw (← e, g, ← f, k)

    pub unlisted_at : h ≡ None → paper.unlisted ≡ paper.in_list q found row x
    unfolding paper.in_list paper.stands_or paper.above_or
    unlisted_at k = rw (← e, g, ← f, k)

-- ---- the first that is true

module _ (m : System) (found : ℕ) (row : ℕ → ℕ → ℕ) (x : ℕ → ℕ) where
  pub zero_at : paper.vanishes m.q x ≡ true → paper.zero ≡ paper.first_true m found row x
  unfolding paper.first_true paper.zero_or
  zero_at e = rw e

  module _ (e : paper.vanishes m.q x ≡ false) where
    pub off_at : {k : ℕ} {amount : ℤ} → paper.first_off m x ≡ some k → amount ≡ image_of m x (k - 1) → paper.off k amount ≡ paper.first_true m found row x
    unfolding paper.first_true paper.zero_or paper.off_or
    off_at f g = rw (e, f, g)

    pub even_at : paper.first_off m x ≡ none → {r : paper.Reason} → r ≡ paper.in_list m.q found row x → r ≡ paper.first_true m found row x
    unfolding paper.first_true paper.zero_or paper.off_or
    even_at f g = rw (e, f) g

-- ---- refused or not

module _ (s : Sizes) (i : Input) (list : List ℕ) (found : ℕ) (t : List ℕ) {c : Result (Unit {0}) Refusal}
    (e : check_of c ≡ paper.reason_checks s i list found t) where
  pub refused_at : {why : Refusal} → c ≡ Err why → paper.refused (number_of why) (values_of why) ≡ paper.reason_within s i list found t
  unfolding paper.reason_within paper.unless_refused
  refused_at g = rw (← e, g)

  pub passed_at : {x : Unit {0}} → c ≡ Ok x → {r : paper.Reason} → r ≡ paper.first_true (map_of i) found (at list i.q) (λ j. get_or t j 0) → r
      ≡ paper.reason_within s i list
      found t
  unfolding paper.reason_within paper.unless_refused
  passed_at g h = rw (← e, g) h
