-- Tables beside the rows as loops write them: one more entry written, and what is kept. Assumes nothing.
use Rattle.std.specs.Prelude.{◌≡◌, refl, List, ℕ, ◌+◌, ◌*◌, ◌≤◌, ◌<◌, ℤ, pos, get_or, length, set}
use Rattle.std.proofs.Common.{◌∙◌, inl, inr, arith, length-set, get_or-set_other, get_or-set_same}
use Rattle.linear.proofs.Cases.{split}
use Rattle.linear.specs.Systems.{value}
use Rattle.linear.specs.Tuples.{total}
use Rattle.definitions.specs.Tables.{at}
use Rattle.laws.proofs.TableLaws.{row_fits}
use Rattle.engine_spec.specs.Beside.{Measured, SmallRow, SmallTable, Valued, Worded, word_of}

-- A table after its first n entries have been written: it is as long as before, and the entries from n on are as they were. What stands past its end is z.
pub record Kept {A : Type 0} (z : A) (n : ℕ) (old new : List A) : Type 0 where
  pub long : length new ≡ length old
  pub rest : (i : ℕ) → n ≤ i → get_or new i z ≡ get_or old i z

-- Its first n entries are such that f holds of their places and them, whatever stands past its end.
pub record Written {A : Type 0} (f : ℕ → A → Type 0) (n : ℕ) (old new : List A) : Type 0 where
  pub long : length new ≡ length old
  pub each : (z : A) (i : ℕ) → i < n → f i (get_or new i z)
  pub rest : (z : A) (i : ℕ) → n ≤ i → get_or new i z ≡ get_or old i z

pub kept_none : {A : Type 0} {z : A} {n : ℕ} {old : List A} → Kept z n old old
kept_none = record { long = refl; rest = λ i l. refl }

pub kept_more : {A : Type 0} {z : A} {n : ℕ} {old new : List A} (i : ℕ) (v : A) → i < n → Kept z n old new → Kept z n old (set new i v)
kept_more {A} {z} {n} {old} {new} i v l k =
    record { long = length-set new i v ∙ k.long; rest = λ m ml. get_or-set_other new i m v z (omega arith) ∙ k.rest m ml }

-- the first n entries are those of f, and so is the one more
pub set_each : {A : Type 0} (z : A) (f : ℕ → A) (l : List A) (n : ℕ) (v : A) → n < length l → ((i : ℕ) → i < n → get_or l i z ≡ f i) → v ≡ f n
    → (i : ℕ) → i < n + 1 → get_or (set l n v) i z ≡ f i
set_each z f l n v room each e i il =
    elim (split i n) [
      | inl h ↦ get_or-set_other l n i v z (omega arith) ∙ each i h
      | inr h ↦ let s : i ≡ n = omega arith in rw s (get_or-set_same l n v z room ∙ e)
    ]

-- ---- one more row of the table

pub table_row : {q n : ℕ} {table : List ℕ} → SmallTable q n table → (i : ℕ) → i < n → SmallRow q table (i * q)
table_row {q} {n} s i l = record { whole = omega (arith, s.whole, row_fits q i n l); small = λ j jq. s.small i j l jq }

module _ {c : ℕ → ℤ} {q : ℕ} {table : List ℕ} where
  pub valued_none : {values : List ℤ} → Valued c q 0 table values
  valued_none = record { long = omega arith; each = λ i l. absurd (omega arith) }

  pub valued_more : {i : ℕ} {values : List ℤ} → i < length values → Valued c q i table values → (v : ℤ) → v ≡ value c q (at table q i)
      → Valued c q (i + 1) table (set values i v)
  valued_more {i} {values} l a v e =
      record { long = omega (arith, length-set values i v); each = set_each (pos 0) (λ k. value c q (at table q k)) values i v l a.each e }

module _ {q : ℕ} {table : List ℕ} where
  pub measured_none : {degrees : List ℕ} → Measured q 0 table degrees
  measured_none = record { long = omega arith; each = λ i l. absurd (omega arith) }

  pub measured_more : {i : ℕ} {degrees : List ℕ} → i < length degrees → Measured q i table degrees → (v : ℕ) → v ≡ total (at table q i) q
      → Measured q (i + 1) table (set degrees i v)
  measured_more {i} {degrees} l a v e =
      record { long = omega (arith, length-set degrees i v); each = set_each 0 (λ k. total (at table q k) q) degrees i v l a.each e }

  pub worded_none : {words : List ℕ} → Worded q 0 table words
  worded_none = record { long = omega arith; each = λ i l. absurd (omega arith) }

  pub worded_more : {i : ℕ} {words : List ℕ} → i < length words → Worded q i table words → (v : ℕ) → v ≡ word_of q (at table q i)
      → Worded q (i + 1) table (set words i v)
  worded_more {i} {words} l a v e =
      record { long = omega (arith, length-set words i v); each = set_each 0 (λ k. word_of q (at table q k)) words i v l a.each e }
