-- What the contracts on marks cite, and one turn of their loop. Assumes nothing.
use Rattle.std.specs.Prelude.{◌≡◌, refl, List, Bool, true, false, not, ◌&&◌, ◌||◌, ℕ, ◌+◌}
use Rattle.std.specs.Prelude.{◌*◌, ◌≤◌, ◌<◌, T, ℤ, pos, negsuc, nat_abs, ◌-ℤ◌, length, get_or, ◌<ℤ◌}
use Rattle.std.proofs.Common.{sym, ◌∙◌, ap, inl, inr, arith, ltb-true, to_z-of_z, SFits, of_z, to_z}
use Rattle.std.proofs.lemmas.Bool.{not-false}
use Rattle.std.specs.Int.Signed.{lt_z, lt_z_yes}
use Rattle.std.specs.Int.{w64}
use Rattle.linear.specs.Differences.{up_lt}
use Rattle.linear.proofs.Differences.{one_side}
use Rattle.linear.proofs.Integers.{sfits_nat_abs}
use Rattle.linear.proofs.SystemLaws.{inner_bound}
use Rattle.linear.specs.Systems.{value}
use Rattle.linear.proofs.TestLaws.{and_parts, or_cases}
use Rattle.linear.specs.Tuples.{AtOrBelow}
use Rattle.definitions.specs.System.{is_at_or_below, most_component}
use Rattle.definitions.specs.Tables.{at}
use Rattle.laws.proofs.SystemLaws.{below_from}
use Rattle.engine_beside.specs.Writing.{Written}
use Rattle.engine_spec.specs.Beside.{AllMarked, SmallEquation, SmallTable, Valued, coefficient_limit, equation_at, no_mark, value_limit}
use Rattle.engine_spec.specs.Marks.{Opposed, size}
use Rattle.engine_spec.specs.ReductionLaws.{Against}

-- n integers as large as values can be
pub record BoundedValues (n : ℕ) (values : List ℤ) : Type 0 where
  pub long : n ≤ length values
  pub each : (i : ℕ) → i < n → nat_abs (get_or values i (pos 0)) ≤ value_limit

abbrev pub value_at : List ℤ → ℕ → ℤ
value_at values i = get_or values i (pos 0)

-- one integer is above 0 and the other below
unfoldable pub is_opposed : ℤ → ℤ → Bool
is_opposed x y = (lt_z (pos 0) x && lt_z y (pos 0)) || (lt_z x (pos 0) && lt_z (pos 0) y)

-- a row of the other sign, by the integers that stand for values, lies at or below row i, and the two sizes add up to at most `mark`
pub record ValueMarked (q n : ℕ) (table : List ℕ) (values : List ℤ) (i mark : ℕ) : Type 0 where
  pub by : ℕ
  pub low : by < n
  pub under : AtOrBelow q (at table q by) (at table q i)
  pub signs : Opposed (value_at values i) (value_at values by)
  pub sizes : size (value_at values i) + size (value_at values by) ≤ mark

-- Marks written from n values: those that are marks are so under every equation that has these values.
pub record MarksWritten (q n : ℕ) (table : List ℕ) (values : List ℤ) (marks₀ marks : List ℕ) : Type 0 where
  pub marked : (c : ℕ → ℤ) → Valued c q n table values → AllMarked q c n table marks
  pub same_length : length marks ≡ length marks₀
  pub beyond : (i : ℕ) → n ≤ i → get_or marks i 0 ≡ get_or marks₀ i 0

-- ---- the values of small rows under a small equation are so bounded

pub valued_bounded : {q n : ℕ} {coefs : List ℤ} {from : ℕ} {table : List ℕ} {values : List ℤ} → SmallEquation q coefs from → SmallTable q n table
    → Valued (equation_at coefs from) q n table values
    → BoundedValues n values
unfolding value
valued_bounded {q} {n} {coefs} {from} {table} {values} e t v =
    record {
      long = v.long;
      each = λ i l. rw (v.each i l)
          (omega (
            arith,
            e.unknowns,
            inner_bound q coefficient_limit most_component (equation_at coefs from) (λ j. pos (at table q i j)) e.small (λ j jq. t.small i j l jq),
          ));
    }

-- ---- signs

against_from : (x y : ℤ) → T (lt_z (pos 0) x && lt_z y (pos 0)) → Against x y
against_from x y t =
    let (u, w) = and_parts (lt_z (pos 0) x) (lt_z y (pos 0)) t in
    let over : pos 0 <ℤ x = lt_z_yes u in
    let under : y <ℤ pos 0 = lt_z_yes w in
    record { above = omega (arith, up_lt over, one_side x); below = omega (arith, up_lt under, one_side y) }

swap : (b c : Bool) → T (b && c) → T (c && b)
swap true true h = tt
swap true false h = absurd h
swap false c h = absurd h

pub opposed_from : (x y : ℤ) → is_opposed x y ≡ true → Opposed x y
unfolding is_opposed
opposed_from x y e =
    elim (or_cases (lt_z (pos 0) x && lt_z y (pos 0)) (lt_z x (pos 0) && lt_z (pos 0) y) (rw e tt)) [
      | inl h ↦ inl (against_from x y h)
      | inr h ↦ inr (against_from y x (swap (lt_z x (pos 0)) (lt_z (pos 0) y) h))
    ]

or_none : (b : Bool) → b ≡ (b || false)
or_none true = refl
or_none false = refl

pub opposed_below : (x y : ℤ) → lt_z x (pos 0) ≡ true → lt_z (pos 0) y ≡ is_opposed x y
unfolding is_opposed
opposed_below (pos n) y e = absurd (omega (arith, ltb-true n 0 e))
opposed_below (negsuc n) y e = refl

pub opposed_above : (x y : ℤ) → lt_z x (pos 0) ≡ false → lt_z (pos 0) x ≡ true → lt_z y (pos 0) ≡ is_opposed x y
unfolding is_opposed
opposed_above x y e g = rw (e, g) (or_none (lt_z y (pos 0)))

pub opposed_none : (x y : ℤ) → lt_z x (pos 0) ≡ false → lt_z (pos 0) x ≡ false → false ≡ is_opposed x y
unfolding is_opposed
opposed_none x y e g = rw (e, g)

-- ---- sizes

pub size_below : (v : ℤ) → lt_z v (pos 0) ≡ true → pos 0 -ℤ v ≡ pos (size v)
size_below (pos n) e = absurd (omega (arith, ltb-true n 0 e))
size_below (negsuc n) e = ap pos (omega arith)

pub size_above : (v : ℤ) → lt_z v (pos 0) ≡ false → v ≡ pos (size v)
size_above (pos n) e = ap pos (omega arith)
size_above (negsuc n) e = cc

pub size_is : (v : ℤ) → size v ≡ nat_abs v
size_is (pos n) = omega arith
size_is (negsuc n) = omega arith

pub size_fits : (v : ℤ) → nat_abs v ≤ value_limit → SFits w64 (pos (size v))
size_fits v l = sfits_nat_abs (omega (arith, size_is v))

-- a value as the code reads it
abbrev pub read_at : List ℤ → ℕ → ℤ
read_at values i = to_z w64 (of_z w64 (value_at values i))

pub value_read : {n : ℕ} {values : List ℤ} → BoundedValues n values → (i : ℕ) → i < n → read_at values i ≡ value_at values i
value_read b i l = to_z-of_z {w = w64} (sfits_nat_abs (omega (arith, b.each i l)))

-- ---- the mark that row m gives to row i, from what the code finds of them

module _ {n : ℕ} {values : List ℤ} (b : BoundedValues n values) {i m : ℕ} (il : i < n) (ml : m < n) {s t : ℕ} (sized : s ≡ size (read_at values i))
    (sized' : t ≡ size (read_at values m)) where
  pub mark_small : s + t ≤ 2 * value_limit
  mark_small =
      omega (
        arith,
        rw (value_read b i il) at sized,
        rw (value_read b m ml) at sized',
        size_is (value_at values i),
        size_is (value_at values m),
        b.each i il,
        b.each m ml,
      )

  pub marked_by : (q : ℕ) (table : List ℕ) {o u : Bool} → o ≡ is_opposed (read_at values i) (read_at values m) → not o ≡ false
      → u ≡ is_at_or_below q (at table q m) (at table q i) → not u ≡ false
      → ValueMarked q n table values i (s + t)
  marked_by q table {o} {u} signs on under un =
      record {
        by = m;
        low = ml;
        under = below_from q (at table q m) (at table q i) (rw (sym under ∙ not-false u un) tt);
        signs = opposed_from (value_at values i) (value_at values m) (rw (value_read b i il, value_read b m ml) at (sym signs ∙ not-false o on));
        sizes = omega (arith, rw (value_read b i il) at sized, rw (value_read b m ml) at sized');
      }

-- ---- all of them

pub marks_all : {q n : ℕ} {table : List ℕ} {values : List ℤ} {marks₀ marks : List ℕ} {f : ℕ → ℕ → Type 0} → Written f n marks₀ marks → n ≤ length marks₀
    → ((i : ℕ) → i < n → get_or marks i 0 < no_mark → ValueMarked q n table values i (get_or marks i 0))
    → MarksWritten q n table values marks₀ marks
marks_all {q} {n} {table} {values} {marks₀} {marks} w l each =
    record {
      marked = λ c v. record {
        long = omega (arith, w.long);
        each = λ i il h.
            let m = each i il h in
            record {
              by = m.by;
              low = m.low;
              under = m.under;
              signs = rw (v.each i il, v.each m.by m.low) at m.signs;
              sizes = rw (v.each i il, v.each m.by m.low) at m.sizes;
            };
      };
      same_length = w.long;
      beyond = w.rest 0;
    }
