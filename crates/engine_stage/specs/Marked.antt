-- The test of a pair of rows: by their marks, and else by the rows. Assumes nothing.
use Rattle.std.specs.Prelude.{
  ◌≡◌,
  refl,
  ◌≢◌,
  ◌⊎◌,
  Bool,
  true,
  false,
  not,
  cond,
  ◌||◌,
  List,
  ℕ,
  zero,
  suc,
  ◌+◌,
  ◌*◌,
  ◌≤◌,
  ◌<◌,
  T,
  leb,
  ltb,
  pos,
  nat_abs,
  ◌+ℤ◌,
  get_or,
  ◌<ℤ◌,
}
use Rattle.std.proofs.Common.{sym, ◌∙◌, ap, arith, to_z-of_z, of_z, to_z}
use Rattle.std.proofs.Math.Logic.{inl, inr}
use Rattle.std.proofs.Math.Dec.{leb→le}
use Rattle.std.proofs.Math.IntN.{ℤ}
use Rattle.std.specs.Int.Signed.{lt_z, lt_z_yes}
use Rattle.std.specs.Int.{w64}
use Rattle.linear.proofs.TestLaws.{is_true, true_is}
use Rattle.linear.specs.Differences.{up_lt}
use Rattle.linear.proofs.Differences.{one_side}
use Rattle.linear.proofs.Integers.{sfits_nat_abs}
use Rattle.linear.proofs.SystemLaws.{value_sum}
use Rattle.linear.specs.Systems.{value}
use Rattle.definitions.specs.Tables.{at}
use Rattle.engine_spec.specs.Beside.{AllMarked, SmallTable, Valued, Worded, no_mark, value_limit, word_of}
use Rattle.engine_spec.specs.Caps.{is_over}
use Rattle.engine_spec.specs.Marks.{Marked, size}
use Rattle.engine_spec.proofs.Marks.{lower_mark, marked_above, marked_below, upper_mark}
use Rattle.engine_spec.specs.Reduction.{reducible}
use Rattle.engine_spec.specs.ReductionLaws.{Against}
use Rattle.engine_spec.specs.Words.{joined}
use Rattle.engine_beside.specs.WordLaws.{word_sum}
use Rattle.engine_reduce.specs.Sums.{integer_at, reducible_by_lem, reducible_by, sum_of}
use Rattle.engine_rows.specs.Marking.{size_is}

-- the size of the lower row's value is at least the upper row's mark, or the other way round
unfoldable pub is_marked : (x y : ℤ) (mark other : ℕ) → Bool
is_marked x y mark other = leb mark (size y) || leb other (size x)

-- the mark of the sum of two rows of values x above 0 and y below
unfoldable pub mark_of : (x y : ℤ) → ℕ
mark_of x y = cond (lt_z (x +ℤ y) (pos 0)) (size y) (cond (lt_z (pos 0) (x +ℤ y)) (size x) 18446744073709551615)

-- two of n rows, with values above and below 0
pub record Paired (q : ℕ) (c : ℕ → ℤ) (n : ℕ) (table : List ℕ) (values : List ℤ) (words marks : List ℕ) (h k : ℕ) : Type 0 where
  pub rows : SmallTable q n table
  pub valued : Valued c q n table values
  pub worded : Worded q n table words
  pub marked : AllMarked q c n table marks
  pub bounded : (i : ℕ) → i < n → nat_abs (get_or values i (pos 0)) ≤ value_limit
  pub upper : h < n
  pub lower : k < n
  pub signs : Against (value c q (at table q h)) (value c q (at table q k))
  pub few : n < 4294967296

-- the stage's test of their sum
abbrev pub test_of : (q : ℕ) (c : ℕ → ℤ) (n : ℕ) (table : List ℕ) (h k : ℕ) → Bool
test_of q c n table h k = reducible q c n (at table q) (sum_of q table h k) (value c q (sum_of q table h k))

-- the same of a sum that may pass the cap
abbrev pub needless_of : (cap q : ℕ) (c : ℕ → ℤ) (n : ℕ) (table : List ℕ) (h k : ℕ) → Bool
needless_of cap q c n table h k = is_over cap (sum_of q table h k) || test_of q c n table h k

-- only the first component counts
first_counts : (cap : ℕ) (y z : ℕ → ℕ) → y 0 ≡ z 0 → is_over cap y ≡ is_over cap z
first_counts zero y z e = refl
first_counts (suc c) y z e = rw e refl

module _ (cap q : ℕ) (c : ℕ → ℤ) (n : ℕ) (table : List ℕ) (h k : ℕ) {b : Bool}
    (e : b ≡ is_over cap (λ _. get_or table (h * q) 0 + get_or table (k * q) 0)) where
  over_is : b ≡ is_over cap (sum_of q table h k)
  over_is =
      let x : h * q ≡ h * q + 0 = omega arith in
      let y : k * q ≡ k * q + 0 = omega arith in
      e ∙ first_counts cap _ (sum_of q table h k)
      (ap (λ i. get_or table i 0 + get_or table (k * q) 0) x ∙ ap (λ i. get_or table (h * q + 0) 0 + get_or table i 0) y)

  pub over_needless : b ≡ true → true ≡ needless_of cap q c n table h k
  over_needless t = rw (← over_is, t)

  pub under_needless : b ≡ false → {r : Bool} → r ≡ test_of q c n table h k → r ≡ needless_of cap q c n table h k
  under_needless t g = rw (← over_is, t) g

-- a cap that is none, and one that there is
pub no_cap : (cap : ℕ) (z : ℕ → ℕ) → cap ≡ 0 → false ≡ is_over cap z
no_cap cap z e = rw e

pub some_cap : (cap : ℕ) (z : ℕ → ℕ) → cap ≢ 0 → ltb cap (z 0) ≡ is_over cap z
some_cap zero z ne = absurd (ne refl)
some_cap (suc c) z ne = refl

or_cases : (b d : Bool) → (b || d) ≡ true → (b ≡ true) ⊎ (d ≡ true)
or_cases true d e = inl refl
or_cases false d e = inr e

module _ {q : ℕ} {c : ℕ → ℤ} {n : ℕ} {table : List ℕ} {values : List ℤ} {words marks : List ℕ} {h k : ℕ} (p : Paired q c n table values words marks h k) where
  abbrev x : ℤ
  x = integer_at values h

  abbrev y : ℤ
  y = integer_at values k

  -- a mark answers the test
  pub marked_yes : is_marked x y (get_or marks h 0) (get_or marks k 0) ≡ true → test_of q c n table h k ≡ true
  unfolding is_marked
  marked_yes e =
      elim (or_cases (leb (get_or marks h 0) (size y)) _ e) [
        | inl u ↦
            let less = leb→le (get_or marks h 0) (size y) (true_is _ u) in
            is_true (test_of q c n table h k)
            (upper_mark q c n (at table q) h k (get_or marks h 0) p.signs (p.marked.each h p.upper (omega (arith, p.bounded k p.lower, size_is y)))
            (rw (p.valued.each k p.lower) at less))
        | inr u ↦
            let less = leb→le (get_or marks k 0) (size x) (true_is _ u) in
            is_true (test_of q c n table h k)
            (lower_mark q c n (at table q) h k (get_or marks k 0) p.signs (p.marked.each k p.lower (omega (arith, p.bounded h p.upper, size_is x)))
            (rw (p.valued.each h p.upper) at less))
      ]

  -- the value of the sum
  pub sum_is : x +ℤ y ≡ value c q (sum_of q table h k)
  sum_is = rw (p.valued.each h p.upper, p.valued.each k p.lower) (sym (value_sum c q (at table q h) (at table q k) (sum_of q table h k)
      (λ j jq. refl)))

  -- the test that code makes is the stage's
  pub tested : {r : Bool} {v : ℤ} → v ≡ x +ℤ y → r ≡ reducible_by q n (at table q) (integer_at values) (sum_of q table h k) v → r ≡ test_of q c n table h k
  tested e g = g ∙ rw (e, sum_is) (reducible_by_lem q c n (at table q) (integer_at values) (sum_of q table h k) (value c q (sum_of q table h k)) p.valued.each)

  pub word_is : {w : ℕ} → w ≡ joined 16 (get_or words h 0) (get_or words k 0) → w ≡ word_of q (sum_of q table h k)
  word_is e = e ∙ rw (p.worded.each h p.upper, p.worded.each k p.lower) (word_sum q (at table q h) (at table q k))

  -- what the code writes as the sum's mark is one, or none
  pub mark_is : mark_of x y < no_mark → Marked q c n (at table q) (sum_of q table h k) (mark_of x y)
  unfolding mark_of
  mark_is less = go (lt_z (x +ℤ y) (pos 0)) (λ t. lt_z_yes t) (lt_z (pos 0) (x +ℤ y)) (λ t. lt_z_yes t) less
    where
      v : ℤ
      v = value c q (sum_of q table h k)

      go : (b : Bool) → (T b → (x +ℤ y) <ℤ pos 0) → (d : Bool) → (T d → pos 0 <ℤ (x +ℤ y))
          → cond b (size y) (cond d (size x) 18446744073709551615) < no_mark
          → Marked q c n (at table q) (sum_of q table h k) (cond b (size y) (cond d (size x) 18446744073709551615))
      go true f d g less =
          rw (p.valued.each k p.lower)
          (marked_below q c n (at table q) h k p.upper p.lower p.signs (sum_of q table h k) (λ j jq. refl)
          (let l : v <ℤ pos 0 = rw sum_is at (f tt) in omega (arith, up_lt l, one_side v)))
      go false f true g less =
          rw (p.valued.each h p.upper)
          (marked_above q c n (at table q) h k p.upper p.lower p.signs (sum_of q table h k) (λ j jq. refl)
          (let l : pos 0 <ℤ v = rw sum_is at (g tt) in omega (arith, up_lt l, one_side v)))
      go false f false g less = absurd (omega arith)

-- ---- numbers read back

-- a value within the limit as it is read from its bits
pub back : (v : ℤ) → nat_abs v ≤ value_limit → to_z w64 (of_z w64 v) ≡ v
back v l = to_z-of_z {w = w64} (sfits_nat_abs (omega arith))

-- ---- the mark, by cases

pub mark_below : (x y : ℤ) → lt_z (x +ℤ y) (pos 0) ≡ true → mark_of x y ≡ size y
unfolding mark_of
mark_below x y e = rw e

pub mark_above : (x y : ℤ) → lt_z (x +ℤ y) (pos 0) ≡ false → lt_z (pos 0) (x +ℤ y) ≡ true → mark_of x y ≡ size x
unfolding mark_of
mark_above x y e g = rw (e, g)

pub mark_none : (x y : ℤ) → lt_z (x +ℤ y) (pos 0) ≡ false → lt_z (pos 0) (x +ℤ y) ≡ false → mark_of x y ≡ 18446744073709551615
unfolding mark_of
mark_none x y e g = rw (e, g)

pub by_upper : (x y : ℤ) (mark other : ℕ) → leb mark (size y) ≡ true → is_marked x y mark other ≡ true
unfolding is_marked
by_upper x y mark other e = rw e

pub by_lower : (x y : ℤ) (mark other : ℕ) → leb mark (size y) ≡ false → is_marked x y mark other ≡ leb other (size x)
unfolding is_marked
by_lower x y mark other e = rw e

pub was_false : {b : Bool} → not b ≡ true → b ≡ false
was_false {b} e = elim_false b e
  where
    elim_false : (b : Bool) → not b ≡ true → b ≡ false
    elim_false true e = sym e
    elim_false false e = refl

pub was_true : {b : Bool} → not b ≡ false → b ≡ true
was_true {b} e = elim_true b e
  where
    elim_true : (b : Bool) → not b ≡ false → b ≡ true
    elim_true true e = refl
    elim_true false e = sym e
