-- A pointer that falls to the first row whose degree is not below a number, and with it the first row from there on whose value is below 0. Assumes nothing.
use Rattle.std.specs.Prelude.{◌≡◌, List, ℕ, ◌+◌, ◌-◌, ◌≤◌, ◌<◌, T, ℤ, pos, Option, Some, None, MatchOption}
use Rattle.std.proofs.Common.{inl, inr, arith}
use Rattle.std.specs.Int.Signed.{lt_z}
use Rattle.linear.proofs.Cases.{split}
use Rattle.engine_search.specs.Firsts.{IsFirst, is_false}
use Rattle.engine_search.specs.Places.{Falling, Ranked, degree_of, value_of}

abbrev pub is_below : List ℤ → ℕ → Type 0
is_below values k = T (lt_z (value_of values k) (pos 0))

-- ---- the pointer

-- from r up to `from` no degree is below e
pub record Late (degrees : List ℕ) (e from r : ℕ) : Type 0 where
  pub fallen : r ≤ from
  pub late : (k : ℕ) → r ≤ k → k < from → e ≤ degree_of degrees k

-- and it falls no further
pub record Back (degrees : List ℕ) (e from r : ℕ) : Type 0 where
  pub late : Late degrees e from r
  pub early : 0 < r → degree_of degrees (r - 1) < e

module _ {n : ℕ} {values : List ℤ} {degrees : List ℕ} (ranked : Ranked n values degrees) where
  -- before it every degree is below e
  pub back_early : {e from r : ℕ} → Back degrees e from r → r ≤ n → (k : ℕ) → k < r → degree_of degrees k < e
  back_early {e} {from} {r} b low k l = omega (arith, b.early (omega arith), ranked.sorted k (r - 1) (omega arith) (omega arith))

  -- what an upper row leaves, falls as its degree rises
  pub falling_next : {d upper first : ℕ} → Falling n degrees d upper first → Falling n degrees d (upper + 1) first
  falling_next {d} {upper} {first} f =
      record { late = λ l k low h. omega (arith, f.late (omega arith) k low h, ranked.sorted upper (upper + 1) (omega arith) l) }

pub falling_back : {n : ℕ} {degrees : List ℕ} {d e upper from r : ℕ} → Falling n degrees d upper from → Back degrees e from r
    → d ≤ degree_of degrees upper + e → Falling n degrees d upper r
falling_back {n} {degrees} {d} {e} {upper} {from} {r} f b s =
    record {
      late = λ l k low h. elim (split k from) [ inl x ↦ omega (arith, b.late.late k low x) | inr x ↦ f.late l k x h ];
    }

pub falling_start : (n : ℕ) (degrees : List ℕ) (d upper : ℕ) → Falling n degrees d upper n
falling_start n degrees d upper = record { late = λ l k low h. absurd (omega arith) }

-- ---- and with it the first row below 0

-- none of the rows from `first` up to `past` has a value below 0
abbrev pub NoneBelow : (values : List ℤ) (first past : ℕ) → Type 0
NoneBelow values first past = (k : ℕ) → first ≤ k → k < past → ¬ (is_below values k)

-- `low` is the first of the n rows from `first` on with a value below 0, or there is none
abbrev pub Low : (n : ℕ) (values : List ℤ) (first : ℕ) → Option ℕ → Type 0
Low n values first low = MatchOption low (NoneBelow values first n) (λ k. (first ≤ k) × (k < n) × is_below values k × NoneBelow values first k)

pub record Fallen (n : ℕ) (values : List ℤ) (degrees : List ℕ) (e from first : ℕ) (low : Option ℕ) : Type 0 where
  pub back : Back degrees e from first
  pub lowest : Low n values first low

pub low_start : (n : ℕ) (values : List ℤ) → Low n values n None
low_start n values = λ k l h. absurd (omega arith)

-- it falls to the first one that was passed, and else stays
pub low_falls : (n : ℕ) (values : List ℤ) (from first : ℕ) (passed low r : Option ℕ) → first ≤ from → from ≤ n → Low n values from low
    → IsFirst first from (λ k. lt_z (value_of values k) (pos 0)) passed → MatchOption passed (r ≡ low) (λ k. r ≡ Some k) → Low n values first r
low_falls n values from first None None r l fits low none e = rw e (λ k a b. elim (split k from) [ inl x ↦ is_false (none k a x) | inr x ↦ low k x b ])
low_falls n values from first None (Some m) r l fits low none e =
    rw e (omega arith, low.1, low.2, λ k a b. elim (split k from) [ inl x ↦ is_false (none k a x) | inr x ↦ low.3 k x b ])
low_falls n values from first (Some k) low r l fits h found e = rw e (found.0, omega arith, rw found.2 tt, λ j a b. is_false (found.3 j a b))
