-- Laws of the test that admits a child: what decides it, and that it reads a tuple below q only. Assumes nothing.
use Rattle.std.specs.Prelude.{◌≡◌, refl, Bool, true, false, not, ◌&&◌, List, [], ℕ, suc, ◌+◌, ◌-◌, ◌<◌, T}
use Rattle.std.proofs.Common.{ap, ap₂, zero-add, arith}
use Rattle.std.proofs.Math.Bool.{and-false}
use Rattle.std.proofs.Math.Dec.{T_not}
use Rattle.linear.proofs.TestLaws.{and_parts}
use Rattle.linear.specs.Tuples.{Same, unit, raise, rest}
use Rattle.definitions.specs.System.{Kind, above, capped, covered, plain}
use Rattle.laws.specs.StepLaws.{first_open, second_open}
use Rattle.laws.proofs.SystemLaws.{covered_same}
use Rattle.definitions.specs.Tables.{RunKind, State, frozen, list_row, second_row}
use Rattle.definitions.specs.Step.{row_of, row_width}
use Rattle.table_rows.specs.Rows.{part}
use Rattle.candidates.specs.Kinds.{asked, beside}
use Rattle.candidates.specs.Grow.{child_by, child_for, open_for, place_in}

-- ---- the test that admits a child

module _ (w from found : ℕ) (row : ℕ → ℕ → ℕ) (t : ℕ → ℕ) (admitted j : ℕ) where
  pub closed_makes_none : frozen admitted j ≡ false → child_by w from found row t admitted j ≡ false
  unfolding child_by
  closed_makes_none e = rw e

  pub covered_makes_none : covered w found row (part from (raise t j)) ≡ true → child_by w from found row t admitted j ≡ false
  unfolding child_by
  covered_makes_none e = rw (e, and-false)

  pub makes_one : frozen admitted j ≡ true → covered w found row (part from (raise t j)) ≡ false → child_by w from found row t admitted j ≡ true
  unfolding child_by
  makes_one e h = rw (e, h)

module _ (k : Kind) (q : ℕ) (s : State) (t : ℕ → ℕ) (candidates j : ℕ) where
  pub closed_child : frozen candidates j ≡ false → child_for k q s t candidates j ≡ false
  unfolding child_for
  closed_child e = rw e

  pub child_free : (b : Bool) (marks : ℕ) → frozen candidates j ≡ b && not (frozen marks j) → T (child_for k q s t candidates j) → ¬ (T (frozen marks j))
  unfolding child_for
  child_free b marks e y z =
      let (a, _) = and_parts (frozen candidates j && second_open k q s (raise t j)) _ y in
      let (c, _) = and_parts (frozen candidates j) _ a in
      let (_, n) = and_parts b (not (frozen marks j)) (rw e at c) in
      T_not (frozen marks j) n z

-- ---- what a test reads of a tuple: it is the same for tuples that agree below q, and reads nothing of the record but the counts

part_row : (k : Kind) (x : ℕ → ℕ) (j : ℕ) → part (place_in k) x j ≡ row_of k x j
part_row plain x j = ap x (zero-add j)
part_row capped x j = ap x (omega arith)
part_row (above f) x j = ap x (zero-add j)

pub row_agrees : (k : Kind) (q : ℕ) {x y : ℕ → ℕ} → Same q x y → Same (row_width k q) (row_of k x) (row_of k y)
row_agrees plain q e = e
row_agrees capped q e = λ j l. e (suc j) (omega arith)
row_agrees (above f) q e = e

module _ (k : Kind) (q : ℕ) (s : State) where
  first_same : {x y : ℕ → ℕ} → Same q x y → first_open k q s x ≡ first_open k q s y
  first_same {x} {y} e = ap not (covered_same (row_width k q) s.run.found (list_row (row_width k q) s) {x = row_of k x} {y = row_of k y} (row_agrees k q e))

second_same : (k : Kind) (q : ℕ) (s : State) {x y : ℕ → ℕ} → 0 < q → Same q x y → second_open k q s x ≡ second_open k q s y
second_same plain q s some e = refl
second_same capped q s {x} {y} some e =
    rw (e 0 some, covered_same (q - 1) s.run.found2 (second_row (q - 1) s) {x = rest x} {y = rest y} (row_agrees capped q e))
second_same (above f) q s {x} {y} some e =
    ap not (covered_same q s.run.found2 (second_row q s) {x = λ j. x j - f j} {y = λ j. y j - f j} (λ j l. ap (λ z. z - f j) (e j l)))

second_beside : (k : Kind) (q : ℕ) (s : State) (x : ℕ → ℕ) (kind : RunKind) (n n₂ d : ℕ) → second_open k q (beside s kind n n₂ d) x ≡ second_open k q s x
second_beside plain q s x kind n n₂ d = refl
second_beside capped q s x kind n n₂ d = refl
second_beside (above f) q s x kind n n₂ d = refl

pub child_beside : (k : Kind) (q : ℕ) (s : State) (t : ℕ → ℕ) (candidates j : ℕ) (kind : RunKind) (n n₂ d : ℕ)
    → child_for k q (beside s kind n n₂ d) t candidates j ≡ child_for k q s t candidates j
unfolding child_for
child_beside k q s t candidates j kind n n₂ d =
    ap (λ b. (frozen candidates j && b) && first_open k q s (raise t j)) (second_beside k q s (raise t j) kind n n₂ d)

-- tuples that agree below q
pub child_same : (k : Kind) (q : ℕ) (s : State) {t u : ℕ → ℕ} (candidates j : ℕ) → 0 < q → Same q t u
    → child_for k q s t candidates j ≡ child_for k q s u candidates j
unfolding child_for
child_same k q s {t} {u} candidates j some e =
    let raised : Same q (raise t j) (raise u j) = λ i l. ap (λ y. y + unit j i) (e i l) in
    ap₂ (λ a b. (frozen candidates j && a) && b) (second_same k q s some raised) (first_same k q s raised)

-- the second list has left those of `left`
pub child_open : (k : Kind) (q : ℕ) (s : State) (t : ℕ → ℕ) (candidates left j : ℕ) → frozen left j ≡ open_for k q s t candidates j
    → child_by (row_width k q) (place_in k) s.run.found (list_row (row_width k q) s) t left j ≡ child_for k q s t candidates j
unfolding child_by child_for open_for
child_open k q s t candidates left j e =
    ap₂ (λ a b. a && not b) e
    (covered_same (row_width k q) s.run.found (list_row (row_width k q) s) {x = part (place_in k) (raise t j)} {y = row_of k (raise t j)}
    (λ i l. part_row k (raise t j) i))

-- which are left depends on the second list and its count only
pub open_asked : (k : Kind) (q : ℕ) (list second : List ℕ) (found found2 : ℕ) (t : ℕ → ℕ) (candidates j : ℕ)
    → open_for k q (asked [] [] second 0 0 found2) t candidates j ≡ open_for k q (asked [] list second 0 found found2) t candidates j
unfolding open_for
open_asked plain q list second found found2 t candidates j = refl
open_asked capped q list second found found2 t candidates j = refl
open_asked (above f) q list second found found2 t candidates j = refl
