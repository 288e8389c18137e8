-- Theorems about what specs/Listed.antt defines. Assumes nothing.
use Rattle.std.specs.Prelude.{◌≡◌, List, ℕ, suc, ◌≤◌, ◌<◌}
use Rattle.std.proofs.Common.{sym, ◌∙◌, inl, inr, arith}
use Rattle.linear.specs.Combinations.{Enumerates}
use Rattle.linear.specs.Tuples.{Same}
use Rattle.definitions.specs.Reader.{Which, row_of_either, row_part, table_at}
use Rattle.definitions.specs.System.{most_unknowns}
use Rattle.definitions.specs.Tables.{at, capacity}
use Rattle.laws.specs.ReaderLaws.{missing, two}
use Rattle.laws.proofs.ReaderLaws.{either_row, listed_there, part_entry, part_length, shows}
use Rattle.theorems.specs.Listed.{Exactly, IsRow, Only, Reads}

-- so the rows are those of W, each once and no other
pub enumerated : {q : ℕ} {W : (ℕ → ℕ) → Type 0} {table : List ℕ} {n : ℕ} → Exactly q W table n → Enumerates q W n (at table q)
enumerated e = record { only = e.part.only; once = e.part.once; all = e.all }

-- where the set has one tuple, so has the list
pub only_one : {q : ℕ} {W : (ℕ → ℕ) → Type 0} {table : List ℕ} {n : ℕ} → Exactly q W table n → (z : ℕ → ℕ) → W z → ((t : ℕ → ℕ) → W t → Same q z t)
    → (n ≡ 1) × Same q (at table q 0) z
only_one {q} {W} {table} {n} e z wz least = (one, λ j jq. sym (least _ (e.part.only 0 (omega (arith, one))) j jq))
  where
    few : ¬ (1 < n)
    few l =
        e.part.once 0 1 (omega arith) l
        (λ j jq. sym (least _ (e.part.only 0 (omega arith)) j jq) ∙ least _ (e.part.only 1 l) j jq)

    one : n ≡ 1
    one = let (i, l, same) = e.all z wz in omega (arith, few)

pub only_reads : {q : ℕ} {W : (ℕ → ℕ) → Type 0} {table : List ℕ} {n : ℕ} → 0 < q → q ≤ most_unknowns → Only q W table n → (i : ℕ) → i < n → Reads q table n i
only_reads {q} {W} {table} {n} some few o i l =
    let here : i < capacity q table = omega (arith, o.room) in
    record {
      part = row_part q table (suc i);
      is_shown = shows q table n i some few l here;
      whole = part_length q table i some here;
      numbers = λ j jq. part_entry q table i j jq;
    }

-- of two lists: "A row asked for is handed out as a part of whichever table it was asked from"
pub only_reads_at : {q : ℕ} {W : (ℕ → ℕ) → Type 0} (w : Which) (list second : List ℕ) {n : ℕ} → 0 < q → q < most_unknowns → Only q W (table_at w list second) n
    → (i : ℕ) → i < n → IsRow q (table_at w list second) i (row_of_either w q list second n (suc i))
only_reads_at {q} {W} w list second {n} some few o i l =
    let here : i < capacity q (table_at w list second) = omega (arith, o.room) in
    let there = either_row w q list second n (suc i) (λ none. elim none [
      | two (inl h) ↦ omega arith
      | two (inr h) ↦ omega arith
      | missing m ↦ listed_there l here m
    ]) in
    rw there (record { whole = part_length q (table_at w list second) i some here; numbers = λ j jq. part_entry q (table_at w list second) i j jq })
