-- One row more in the table, and one entry more in each table beside it. Assumes nothing.
use Rattle.std.specs.Prelude.{◌≡◌, List, ℕ, ◌+◌, ◌*◌, ◌≤◌, ◌<◌, ℤ, length, set}
use Rattle.std.proofs.Common.{sym, ◌∙◌, inl, inr, arith}
use Rattle.linear.proofs.Cases.{split}
use Rattle.linear.proofs.SystemLaws.{value_same}
use Rattle.linear.specs.Systems.{value}
use Rattle.linear.proofs.TupleLaws.{total_same}
use Rattle.linear.specs.Tuples.{Same, total}
use Rattle.definitions.specs.System.{most_component}
use Rattle.definitions.specs.Tables.{at, write_to}
use Rattle.laws.proofs.TableLaws.{write_length}
use Rattle.engine_spec.specs.Beside.{Measured, SmallTable, Valued, Worded, word_of}
use Rattle.engine_spec.proofs.ReductionLaws.{append_kept, append_new}
use Rattle.engine_beside.specs.WordLaws.{word_same}
use Rattle.engine_beside.specs.Writing.{measured_more, valued_more, worded_more}

-- ---- another table that holds the same n rows

module _ {q n : ℕ} {old table : List ℕ} (same : (i : ℕ) → i < n → Same q (at table q i) (at old q i)) where
  pub valued_along : {c : ℕ → ℤ} {values : List ℤ} → Valued c q n old values → Valued c q n table values
  valued_along {c} a = record { long = a.long; each = λ i l. a.each i l ∙ sym (value_same c q (same i l)) }

  pub measured_along : {degrees : List ℕ} → Measured q n old degrees → Measured q n table degrees
  measured_along a = record { long = a.long; each = λ i l. a.each i l ∙ sym (total_same (at table q i) (at old q i) q (same i l)) }

  pub worded_along : {words : List ℕ} → Worded q n old words → Worded q n table words
  worded_along a = record { long = a.long; each = λ i l. a.each i l ∙ sym (word_same q (same i l)) }

-- ---- row n appended

module _ (q : ℕ) (table : List ℕ) (n : ℕ) (x : ℕ → ℕ) (room : n * q + q ≤ length table) where
  abbrev appended : List ℕ
  appended = write_to q table (n * q) x

  kept : (i : ℕ) → i < n → Same q (at appended q i) (at table q i)
  kept = append_kept q table n x

  new : Same q (at appended q n) x
  new = append_new q table n x room

  pub append_valued : {c : ℕ → ℤ} {values : List ℤ} (v : ℤ) → n < length values → v ≡ value c q x → Valued c q n table values
      → Valued c q (n + 1) (write_to q table (n * q) x) (set values n v)
  append_valued {c} v l e a = valued_more l (valued_along kept a) v (e ∙ sym (value_same c q new))

  pub append_measured : {degrees : List ℕ} (v : ℕ) → n < length degrees → v ≡ total x q → Measured q n table degrees
      → Measured q (n + 1) (write_to q table (n * q) x) (set degrees n v)
  append_measured v l e a = measured_more l (measured_along kept a) v (e ∙ sym (total_same (at appended q n) x q new))

  pub append_worded : {words : List ℕ} (v : ℕ) → n < length words → v ≡ word_of q x → Worded q n table words
      → Worded q (n + 1) (write_to q table (n * q) x) (set words n v)
  append_worded v l e a = worded_more l (worded_along kept a) v (e ∙ sym (word_same q new))

  pub append_small : ((j : ℕ) → j < q → x j ≤ most_component) → SmallTable q n table → SmallTable q (n + 1) (write_to q table (n * q) x)
  append_small h s =
      record {
        few = s.few;
        whole = omega (arith, room, write_length x table (n * q) q);
        small = λ i j il jq. elim (split i n) [
          | inl l ↦ rw (kept i l j jq) (s.small i j l jq)
          | inr l ↦ let e : i ≡ n = omega arith in rw (e, new j jq) (h j jq)
        ];
      }
