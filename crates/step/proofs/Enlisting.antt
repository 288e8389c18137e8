-- Theorems about what specs/Enlisting.antt defines. Assumes nothing.
use Rattle.std.specs.Prelude.{◌≡◌, refl, Bool, true, false, List, ℕ, ◌*◌, ◌-◌, ◌≤◌, ◌<◌, leb, Result, Ok, Err}
use Rattle.std.proofs.Common.{ap, ◌∙◌, zero-add, arith, le-leb}
use Rattle.std.proofs.lemmas.Bool.{lt-leb}
use Rattle.linear.specs.Tuples.{rest}
use Rattle.definitions.specs.System.{above, capped, plain}
use Rattle.definitions.specs.Tables.{State, capacity, write_to}
use Rattle.laws.proofs.TableLaws.{write_same}
use Rattle.calls.specs.declared.Refusal.{Refusal}
use Rattle.calls.specs.declared.Refusal.TheVariants.{ListFull}
use Rattle.table_rows.specs.Rows.{part}
use Rattle.step.specs.declared.Stepped.{Stepped}
use Rattle.step.specs.declared.Stepped.TheVariants.{Listed, ListedSecond}
use Rattle.step.specs.Enlisting.{Appended, Enlisted, append_answer, is_full, list_after, list_answer, lists_after}

module _ (w found : ℕ) (y : ℕ → ℕ) (list : List ℕ) (done : Stepped) where
  pub appended_none : capacity w list ≤ found → Appended w found y list list done (Err ListFull)
  appended_none h = let full = le-leb (capacity w list) found h in record { answers = rw full; leaves = rw full }

  pub appended_next : {after : List ℕ} → found < capacity w list → after ≡ write_to w list (found * w) y → Appended w found y list after done (Ok done)
  appended_next h e = let room = lt-leb (capacity w list) found h in record { answers = rw room; leaves = rw room e }

-- into the first list, or the second one, by what `append` ensures
module _ (w : ℕ) (s : State) (y : ℕ → ℕ) where
  first_answer : (full : Bool) → append_answer full Listed ≡ list_answer false full
  first_answer true = refl
  first_answer false = refl

  first_after : (full : Bool) → list_after full w s.run.found y s.list ≡ (lists_after false full w s y).list
  first_after true = refl
  first_after false = refl

  first_other : (full : Bool) → s.second ≡ (lists_after false full w s y).second
  first_other true = refl
  first_other false = refl

  second_answer : (full : Bool) → append_answer full ListedSecond ≡ list_answer true full
  second_answer true = refl
  second_answer false = refl

  second_after : (full : Bool) → list_after full w s.run.found2 y s.second ≡ (lists_after true full w s y).second
  second_after true = refl
  second_after false = refl

  second_other : (full : Bool) → s.list ≡ (lists_after true full w s y).list
  second_other true = refl
  second_other false = refl

after_same : (full : Bool) (w found : ℕ) {x y : ℕ → ℕ} (list : List ℕ) → ((j : ℕ) → j < w → x j ≡ y j)
    → list_after full w found x list ≡ list_after full w found y list
after_same true w found list e = refl
after_same false w found list e = write_same w list (found * w) e

pub enlisted_plain : (q : ℕ) (s : State) (x : ℕ → ℕ) {after : List ℕ} {r : Result Stepped Refusal} → Appended q s.run.found (part 0 x) s.list after Listed r
    → Enlisted plain q s x after s.second r
enlisted_plain q s x a =
    let full = is_full q s.run.found s.list in
    record {
      answers = a.answers ∙ first_answer q s x full;
      first = a.leaves ∙ after_same full q s.run.found s.list (λ j _. ap x (zero-add j)) ∙ first_after q s x full;
      other = first_other q s x full;
    }

-- a walk above a lower bound lists as a plain one
pub enlisted_above : (f : ℕ → ℕ) (q : ℕ) (s : State) (x : ℕ → ℕ) {after : List ℕ} {r : Result Stepped Refusal}
    → Appended q s.run.found (part 0 x) s.list after Listed r
    → Enlisted (above f) q s x after s.second r
enlisted_above f q s x a = let e = enlisted_plain q s x a in record { answers = e.answers; first = e.first; other = e.other }

module _ (q : ℕ) (s : State) (x : ℕ → ℕ) where
  pub enlisted_zero : x 0 ≡ 0 → {after : List ℕ} {r : Result Stepped Refusal} → Appended (q - 1) s.run.found (part 1 x) s.list after Listed r
      → Enlisted capped q s x after s.second r
  enlisted_zero z {after} {r} a =
      let full = is_full (q - 1) s.run.found s.list in
      record {
        answers = rw z (a.answers ∙ first_answer (q - 1) s (rest x) full);
        first = rw z (a.leaves ∙ after_same full (q - 1) s.run.found s.list (λ j _. ap x (omega arith)) ∙ first_after (q - 1) s (rest x) full);
        other = rw z (first_other (q - 1) s (rest x) full);
      }

  pub enlisted_one : 0 < x 0 → {after : List ℕ} {r : Result Stepped Refusal} → Appended (q - 1) s.run.found2 (part 1 x) s.second after ListedSecond r
      → Enlisted capped q s x s.list after r
  enlisted_one z {after} {r} a =
      let full = is_full (q - 1) s.run.found2 s.second in
      let one : leb 1 (x 0) ≡ true = le-leb 1 (x 0) (omega arith) in
      record {
        answers = rw one (a.answers ∙ second_answer (q - 1) s (rest x) full);
        first = rw one (second_other (q - 1) s (rest x) full);
        other = rw one (a.leaves ∙ after_same full (q - 1) s.run.found2 s.second (λ j _. ap x (omega arith)) ∙ second_after (q - 1) s (rest x) full);
      }
