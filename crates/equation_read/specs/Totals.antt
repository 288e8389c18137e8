-- Numbers collected while a text is read: the constants at place 0, and unknown k at place k. Assumes nothing.
use Rattle.std.specs.Prelude.{ℕ, ◌+◌, ◌*◌, ◌-◌, ◌≤◌, Bool, true, false, cond, ◌||◌, List, ℤ, pos, nat_abs, neg_ℤ, ◌+ℤ◌, ◌*ℤ◌, length, get_or, set}
use Rattle.definitions.specs.Refusals.{out_of_range}
use Rattle.texts.specs.Reading.{Parse, parsed, malformed}
use Rattle.equation_spec.specs.Grammar.{Sum, one, more, Term, number, plain, times, Factor, unknown, bracket}
use Rattle.equation_spec.specs.Meaning.{signed, led_by}

abbrev pub add_at : ℕ → ℤ → List ℤ → List ℤ
add_at k v ts = set ts k (get_or ts k (pos 0) +ℤ v)

abbrev pub signed_by : Bool → ℤ → ℤ
signed_by true z = neg_ℤ z
signed_by false z = z

abbrev pub bounded : ℤ → ℤ
bounded z = cond (out_of_range z) (pos 0) z

unfoldable mutual
  -- a sum's numbers, times z, added to ts
  pub add_sum : Sum → ℤ → List ℤ → List ℤ
  add_sum (one l u) z ts = add_term u (led_by l z) ts
  add_sum (more e s u) z ts = add_term u (signed s z) (add_sum e z ts)

  pub add_term : Term → ℤ → List ℤ → List ℤ
  add_term (number n) z ts = add_at 0 (z *ℤ pos n) ts
  add_term (plain f) z ts = add_factor f z ts
  add_term (times n f) z ts = add_factor f (z *ℤ pos n) ts

  pub add_factor : Factor → ℤ → List ℤ → List ℤ
  add_factor (unknown k) z ts = add_at k z ts
  add_factor (bracket e) z ts = add_sum e (bounded z) ts

unfoldable mutual
  -- in a sum, times z, the multipliers around a bracket exceed the limit
  pub exceeds_sum : Sum → ℤ → Bool
  exceeds_sum (one l u) z = exceeds_term u (led_by l z)
  exceeds_sum (more e s u) z = exceeds_sum e z || exceeds_term u (signed s z)

  pub exceeds_term : Term → ℤ → Bool
  exceeds_term (number n) z = false
  exceeds_term (plain f) z = exceeds_factor f z
  exceeds_term (times n f) z = exceeds_factor f (z *ℤ pos n)

  pub exceeds_factor : Factor → ℤ → Bool
  exceeds_factor (unknown k) z = false
  exceeds_factor (bracket e) z = exceeds_sum e (bounded z) || out_of_range z

-- The totals, whether the multipliers around a bracket exceed the limit, and the text that is left; or nothing of the form.
pub data Collected : Type 0 where
  collected : List ℤ → Bool → List ℕ → Collected
  stopped : Collected

unfoldable pub sum_collected : ℤ → List ℤ → Parse Sum → Collected
sum_collected z ts (parsed e r) = collected (add_sum e z ts) (exceeds_sum e z) r
sum_collected z ts malformed = stopped

unfoldable pub term_collected : ℤ → List ℤ → Parse Term → Collected
term_collected z ts (parsed u r) = collected (add_term u z ts) (exceeds_term u z) r
term_collected z ts malformed = stopped

unfoldable pub factor_collected : ℤ → List ℤ → Parse Factor → Collected
factor_collected z ts (parsed f r) = collected (add_factor f z ts) (exceeds_factor f z) r
factor_collected z ts malformed = stopped

unfoldable pub bracket_collected : ℤ → List ℤ → Parse Sum → Collected
bracket_collected z ts (parsed e r) = collected (add_factor (bracket e) z ts) (exceeds_factor (bracket e) z) r
bracket_collected z ts malformed = stopped

-- ---- sizes: each term adds at most 1,000,000,000 and takes a byte, of 4,096

-- there is room for a term at each of the bytes that are left
pub record Small (ts : List ℤ) (left : ℕ) : Type 0 where
  pub small : (i : ℕ) → nat_abs (get_or ts i (pos 0)) + 1000000000 * left ≤ 4096000000000

-- what a reader asks at place i of the text t
pub record Ready (most : ℕ) (t : List ℕ) (i q : ℕ) (z : ℤ) (ts : List ℤ) : Type 0 where
  pub few : q ≤ 16
  pub multiple : nat_abs z ≤ most
  pub room : Small ts (length t - i)
