-- What is left of a text, and the room for it. Assumes nothing.
use Rattle.std.specs.Prelude.{ℕ, zero, suc, ◌+◌, ◌*◌, ◌-◌, ◌≤◌, ◌<◌, List, [], ◌∷◌, ◌++◌, ◌≡◌, ℤ, pos, nat_abs, ◌+ℤ◌, Option, Some, None, length, get_or, drop}
use Rattle.std.specs.Prelude.{set}
use mathlib.Core.Bool.{true, false}
use Rattle.std.proofs.Common.{sym, ap, arith, length-drop, length-append}
use Rattle.linear.proofs.Integers.{nat_abs_+ℤ, nat_abs_negℤ}
use Rattle.texts.specs.Decimals.{decimal}
use Rattle.texts.specs.Reading.{parsed}
use Rattle.texts.proofs.DecimalLaws.{begins}
use Rattle.equation_spec.specs.Reader.{skip, read_numeral, read_index}
use Rattle.equation_spec.proofs.PartLaws.{skip_shorter}
use Rattle.equation_spec.proofs.SoundLaws.{numeral_read, index_read}
use Rattle.equation_read.specs.Totals.{add_at, signed_by, Small}
use Rattle.equation_read.specs.declared.sums.After.{After}
use Rattle.equation_read.specs.After.{Passed}

-- ---- what is left

module _ (t : List ℕ) (i j : ℕ) where
  pub skip_left : drop j t ≡ skip (drop i t) → length t - j ≤ length t - i
  skip_left e = omega (arith, ap length e, skip_shorter (drop i t), length-drop i t, length-drop j t)

  decimal_some : (m : ℕ) (r : List ℕ) → length r < length (decimal m ++ r)
  decimal_some m r = let b = begins m in omega (arith, length-append (decimal m) r, ap length b.digits)

  pub numeral_left : (n : ℕ) → parsed n (drop j t) ≡ read_numeral (drop i t) → length t - j < length t - i
  numeral_left n e =
      let (l, x) = numeral_read (drop i t) (sym e) in
      omega (arith, ap length x, decimal_some n (drop j t), length-drop i t, length-drop j t)

  pub index_left : (q n : ℕ) → parsed n (drop j t) ≡ read_index q (drop i t) → length t - j < length t - i
  index_left q n e =
      let (l, x) = index_read q (drop i t) (sym e) in
      omega (arith, ap length x, decimal_some n (drop j t), length-drop i t, length-drop j t)

pub numeral_most : (n : ℕ) (s r : List ℕ) → parsed n r ≡ read_numeral s → n ≤ 99999
numeral_most n s r e = (numeral_read s (sym e)).0

pub index_most : (q n : ℕ) (s r : List ℕ) → parsed n r ≡ read_index q s → n ≤ q
index_most q n s r e = (index_read q s (sym e)).0.1

-- ---- room

pub less_left : {ts : List ℤ} {m n : ℕ} → n ≤ m → Small ts m → Small ts n
less_left l r = record { small = λ i. omega (arith, r.small i) }

set_at : (P : ℤ → Type 0) (ts : List ℤ) (k i : ℕ) (x : ℤ) → P x → P (get_or ts i (pos 0)) → P (get_or (set ts k x) i (pos 0))
set_at P [] k i x p h = h
set_at P (t ∷ ts) zero zero x p h = p
set_at P (t ∷ ts) zero (suc i) x p h = h
set_at P (t ∷ ts) (suc k) zero x p h = h
set_at P (t ∷ ts) (suc k) (suc i) x p h = set_at P ts k i x p h

-- a term that takes a byte
pub add_room : (k : ℕ) (v : ℤ) (ts : List ℤ) {m n : ℕ} → nat_abs v ≤ 1000000000 → n < m → Small ts m → Small (add_at k v ts) n
add_room k v ts {m} {n} l h r =
    record {
      small = λ i.
          set_at (λ z. nat_abs z + 1000000000 * n ≤ 4096000000000) ts k i (get_or ts k (pos 0) +ℤ v)
          (omega (arith, r.small k, nat_abs_+ℤ (get_or ts k (pos 0)) v))
          (omega (arith, r.small i));
    }

pub total_small : {ts : List ℤ} {m : ℕ} (k : ℕ) → Small ts m → nat_abs (get_or ts k (pos 0)) ≤ 5000000000000
total_small k r = omega (arith, r.small k)

pub signed_small : (b : mathlib.Core.Bool.Bool) (z : ℤ) → nat_abs z ≤ 10000 → nat_abs (signed_by b z) ≤ 10000
signed_small true z l = omega (arith, nat_abs_negℤ z)
signed_small false z l = l

-- what was read from place j on was read from an earlier place on
pub passed_from : (t : List ℕ) (i j : ℕ) (r : Option After) (us : List ℤ) → length t - j ≤ length t - i → Passed t j r us → Passed t i r us
passed_from t i j (Some r) us l a = record { less = omega (arith, a.less); room = a.room }
passed_from t i j None us l a = tt
