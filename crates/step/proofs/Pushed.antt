-- Theorems about what specs/Pushed.antt defines. Assumes nothing.
use Rattle.std.specs.Prelude.{◌≡◌, Bool, true, false, List, ℕ, ◌+◌, ◌*◌, ◌%◌, ◌^◌, ◌≤◌, ◌<◌, ℤ, get_or, set}
use Rattle.std.proofs.Math.Path.{refl}
use Rattle.std.proofs.Common.{sym, ◌∙◌, ap, inr, arith, pow_mono}
use Rattle.std.proofs.Math.Numerals.{add-one}
use Rattle.std.proofs.lemmas.List.{set-get_or}
use Rattle.linear.specs.Tests.{count_to}
use Rattle.linear.proofs.TestLaws.{count_step}
use Rattle.linear.specs.Tuples.{Same, raise, unit}
use Rattle.definitions.specs.Tables.{write_row, write_to}
use Rattle.definitions.specs.Step.{marks_to, write_children}
use Rattle.laws.specs.TableLaws.{RowIs}
use Rattle.laws.proofs.TableLaws.{row_other, row_row, row_same, write_again, write_outside}
use Rattle.step.proofs.RowLaws.{write_raise}
use Rattle.products.specs.Marks.{count_over, marks_add, marks_over, marks_room}
use Rattle.products.specs.Scan.{Left, next_first, next_holds, next_inside, next_later, left_none}
use Rattle.products.specs.Products.{Combined}
use Rattle.step.proofs.GrowLaws.{grow_over, grow_same}
use Rattle.products.specs.Totals.{Totals}
use Rattle.step.specs.Pushed.{Others, Parent, Pushed, i}

-- a tuple that agrees with the row's below q is as good
pub parent_same : {q : ℕ} {g : List ℤ} {stack : List ℕ} {c : List ℤ} {sums : List ℕ} {level : ℕ} {x y : ℕ → ℕ} {marks : ℕ} → Same q x y
    → Parent q g stack c sums level x marks → Parent q g stack c sums level y marks
parent_same e p =
    record {
      few = p.few;
      long = p.long;
      small = record { at_most = λ j l. omega (arith, e j l, p.small.at_most j l) };
      fitting = p.fitting;
      gram = p.gram;
      row = record { tuple = λ j l. p.row.tuple j l ∙ e j l; marks_are = p.row.marks_are };
      cached = p.cached;
      summed = p.summed;
    }

module _ (q : ℕ) (stack : List ℕ) (level : ℕ) (x : ℕ → ℕ) (marks : ℕ) (f : ℕ → Bool) (first : ℕ) where
  -- f holds at `first`, and at none before
  module _ (none : (j : ℕ) → 0 ≤ j → j < first → f j ≡ false) (one : f first ≡ true) where
    pub pushed_first : first < 32 → RowIs q stack level x marks
        → (Pushed q stack level x marks f first) (first + 1) stack (level + 1) (marks + (1 * 2 ^ first) % 4294967296)
    unfolding write_children count_to marks_to
    pushed_first l r =
        let before = grow_over q stack level x marks f 0 first (omega arith) none in
        let counted = count_over f 0 first (omega arith) none in
        let marked = marks_over f 0 first (omega arith) none in
        record {
          rows = rw (add-one first, one, before, counted, marked) (ap₂_row (omega arith) (omega arith));
          row = r;
          height = rw (add-one first, one) (omega (arith, counted));
          next_marks = omega (arith, marks_add first f 0 (sym marked) l one);
          above = omega arith;
        }
      where
        ap₂_row : {k m : ℕ} → level ≡ k → marks ≡ m → write_row q stack level (raise x first) marks ≡ write_row q stack k (raise x first) m
        ap₂_row e d = rw (← e, ← d)

  module _ {n : ℕ} {table : List ℕ} {h passed : ℕ} (s : (Pushed q stack level x marks f first) n table h passed) where
    pushed_over : (i : ℕ) → n ≤ i → ((j : ℕ) → n ≤ j → j < i → f j ≡ false) → (Pushed q stack level x marks f first) i table h passed
    pushed_over i l none =
        record {
          rows = s.rows ∙ sym (grow_over q stack level x marks f n i l none);
          row = s.row;
          height = omega (arith, s.height, count_over f n i l none);
          next_marks = omega (arith, s.next_marks, marks_over f n i l none);
          above = s.above;
        }

    pushed_one : n < 32 → f n ≡ true → {written : List ℕ} → written ≡ write_row q table h (raise x n) passed
        → (Pushed q stack level x marks f first) (n + 1) written (h + 1) (passed + (1 * 2 ^ n) % 4294967296)
    unfolding write_children count_to
    pushed_one l e {written} w =
        record {
          rows =
              rw (w, add-one n, e, ← s.rows, ← s.height, ← s.next_marks) (row_row q table level h (raise x first) (raise x n) marks passed s.above);
          row = rw w (record {
            tuple = λ j jq. row_other q table h (raise x n) passed level j (omega (arith, s.above)) (omega arith) ∙ s.row.tuple j jq;
            marks_are = row_other q table h (raise x n) passed level q (omega (arith, s.above)) (omega arith) ∙ s.row.marks_are;
          });
          height = rw (add-one n, e) (omega (arith, s.height));
          next_marks = omega (arith, s.next_marks, marks_add n f (marks_to n f) refl l e);
          above = omega (arith, s.above);
        }

  -- a turn, with the lowest mark that is left
  module _ {n : ℕ} {table : List ℕ} {h passed : ℕ} (s : (Pushed q stack level x marks f first) n table h passed) {rest : ℕ} (left : Left q f n rest)
      (few : q ≤ 16) (some : 0 < rest) where
    at_next : (Pushed q stack level x marks f first) (i q stack level x marks f first s left few some) table h passed
    at_next = pushed_over s (i q stack level x marks f first s left few some) (next_later left few some) (next_first left few some)

    pub pushed_next : {written : List ℕ} → written ≡ write_row q table h (raise x (i q stack level x marks f first s left few some)) passed
        → (Pushed q stack level x marks f first) ((i q stack level x marks f first s left few some) + 1) written (h + 1)
        (passed + (1 * 2 ^ (i q stack level x marks f first s left few some)) % 4294967296)
    pushed_next w = pushed_one at_next (omega (arith, next_inside left few some)) (next_holds left few some) w

    -- the next row lies in the table, and its marks fit
    pub pushed_low : level + count_to q f ≤ q → h < q
    pushed_low low = omega (
      arith,
      at_next.height,
      count_step f (i q stack level x marks f first s left few some) q (next_inside left few some)
          (rw (next_holds left few some) tt),
    )

    pub pushed_room : marks < 2 ^ q → passed + (1 * 2 ^ (i q stack level x marks f first s left few some)) % 4294967296 < 4294967296
    pushed_room small =
        omega (
          arith,
          at_next.next_marks,
          marks_room (i q stack level x marks f first s left few some) f
              (marks_to (i q stack level x marks f first s left few some) f) refl (omega (arith, next_inside left few some)),
          pow_mono {i = q} {j = 16} few,
        )

  pub others_written : {n : ℕ} {table : List ℕ} {h passed : ℕ} {g c : List ℤ} {sums : List ℕ} → (Pushed q stack level x marks f first) n table h passed
      → Left q f n 0 → Combined q g table h c
      → Totals q table h sums → (Others q stack level x marks f first) g table c sums h
  others_written {n} s left d e =
      let t = pushed_over s q left.few (left_none left) in
      record { rows = t.rows; row = t.row; height = t.height; above = t.above; cached = d; summed = e }

pub others_same : {q : ℕ} {stack : List ℕ} {level : ℕ} {x y : ℕ → ℕ} {marks : ℕ} {f : ℕ → Bool} {first : ℕ} {g : List ℤ} {table : List ℕ} {c : List ℤ}
    {sums : List ℕ} {r : ℕ} → Same q x y → Others q stack level x marks f first g table c sums r → Others q stack level y marks f first g table c sums r
others_same {q} {stack} {level} {marks} {first} {table} e o =
    record {
      rows = sym (row_same q table level marks (λ j l. ap (λ z. z + unit first j) (e j l))) ∙ o.rows ∙ grow_same q q stack level marks e (λ j l. refl);
      row = record { tuple = λ j l. o.row.tuple j l ∙ e j l; marks_are = o.row.marks_are };
      height = o.height;
      above = o.above;
      cached = o.cached;
      summed = o.summed;
    }

-- component i of a row raised where it stands
pub raise_row : (q : ℕ) (table : List ℕ) (k : ℕ) (x : ℕ → ℕ) (marks i : ℕ) → RowIs q table k x marks → i < q
    → set table (k * (q + 1) + i) (x i + 1) ≡ write_row q table k (raise x i) marks
unfolding write_row
raise_row q table k x marks i r l =
    let base : ℕ = k * (q + 1) in
    let kept : get_or (write_to q table base (raise x i)) (base + q) 0 ≡ marks =
    write_outside (raise x i) table base q (base + q) (inr (omega arith)) ∙ r.marks_are in
    ap (λ t. set t (base + i) (x i + 1)) (sym (write_again q table base x r.tuple))
    ∙ write_raise q table base x i l
    ∙ sym (ap (set (write_to q table base (raise x i)) (base + q)) (sym kept) ∙ set-get_or (write_to q table base (raise x i)) (base + q) 0)

-- no child: nothing is written
pub none_pushed : (q : ℕ) (stack : List ℕ) (level : ℕ) (x : ℕ → ℕ) (marks : ℕ) (f : ℕ → Bool) → ((j : ℕ) → 0 ≤ j → j < q → f j ≡ false)
    → (level ≡ level + count_to q f) × (stack ≡ write_children q q stack level x marks f)
unfolding write_children count_to
none_pushed q stack level x marks f none = (omega (arith, count_over f 0 q (omega arith) none), sym (grow_over q stack level x marks f 0 q (omega arith) none))
