-- Theorems about what specs/Taking.antt defines. Assumes nothing.
use Rattle.std.specs.Prelude.{List, ◌≢◌, ◌≡◌, refl, min, length, get_or, set}
use Rattle.std.proofs.Common.{inl, inr, ◌∙◌, add-one, arith, get_or-set_other, get_or-set_same, le-ltb, lt-ltb, ne_eqb}
use Prim.Native.Nat.{ℕ, zero, suc, ◌+◌, ◌*◌, ◌-◌, ◌/◌, ◌≤◌, ◌<◌}
use Rattle.std.proofs.Math.Decide.{ℕ_discrete}
use Rattle.std.proofs.Math.ListN.{length-set}
use Rattle.linear.proofs.Cases.{split}
use Rattle.linear.specs.Tuples.{Same}
use Rattle.definitions.specs.System.{most_component}
use Rattle.definitions.specs.Tables.{at}
use Rattle.table_rows.specs.Rows.{tuple}
use Rattle.multiples_spec.specs.Parts.{bounded, left_over, lower, often, often_to, without, write_times}
use Rattle.multiples_spec.proofs.PartsLaws.{left_same, often_fits, times_same}
use Rattle.multiples.specs.Taking.{Goes, Left, Less, Taking, row_at}

-- ---- how often a row goes

pub bounded_none : (n : ℕ) → n ≡ suc most_component → 0 ≡ bounded n
unfolding bounded
bounded_none n e = rw e

pub bounded_some : (n : ℕ) → n ≢ suc most_component → n ≡ bounded n
unfolding bounded
bounded_some n ne = rw (ne_eqb n (suc most_component) ne)

module _ (n : ℕ) where
  pub lower_none : (a b : ℕ) → a ≡ 0 → n ≡ lower n a b
  unfolding lower
  lower_none a b e = rw e

  pub lower_min : (a b : ℕ) → a ≢ 0 → min n (b / a) ≡ lower n a b
  unfolding lower
  lower_min zero b ne = absurd (ne refl)
  lower_min (suc a) b ne =
      elim (split (b / suc a) n) [
        | inl l ↦ rw (lt-ltb (b / suc a) n l) (omega arith)
        | inr l ↦ rw (le-ltb (b / suc a) n l) (omega arith)
      ]

pub often_next : (j : ℕ) (r x : ℕ → ℕ) → often_to (j + 1) r x ≡ lower (often_to j r x) (r j) (x j)
unfolding often_to
often_next j r x = rw add-one

pub often_goes : (q : ℕ) (table : List ℕ) (base : ℕ) (rest : List ℕ) {n : ℕ} → n ≡ often q (row_at table base) (tuple rest)
    → Goes q n (row_at table base) (tuple rest)
often_goes q table base rest e = record { fits = λ j l. rw e (often_fits q (row_at table base) (tuple rest) j l) }

pub less_none : (n : ℕ) (table : List ℕ) (base : ℕ) (rest : List ℕ) → Less 0 n table base rest rest
less_none n table base rest = record { long = refl; less = λ i l. absurd (omega arith); kept = λ i l. refl }

pub less_next : {j n : ℕ} {table : List ℕ} {base : ℕ} {rest₀ rest : List ℕ} → j < length rest → Less j n table base rest₀ rest
    → Less (j + 1) n table base rest₀ (set rest j (get_or rest j 0 - n * get_or table (base + j) 0))
less_next {j} {n} {table} {base} {rest₀} {rest} l h =
    let y = get_or rest j 0 - n * get_or table (base + j) 0 in
    record {
      long = length-set rest j y ∙ h.long;
      less = λ i k. elim (ℕ_discrete i j) [
        | yes e ↦ rw e (get_or-set_same rest j y 0 l ∙ rw (h.kept j (omega arith)))
        | no ne ↦ get_or-set_other rest j i y 0 ne ∙ h.less i (omega arith)
      ];
      kept = λ i k. get_or-set_other rest j i y 0 (omega arith) ∙ h.kept i (omega arith);
    }

-- it goes at a place that has not been passed
pub still_goes : {q j n : ℕ} {table : List ℕ} {base : ℕ} {rest₀ rest : List ℕ} → j < q → Goes q n (row_at table base) (tuple rest₀)
    → Less j n table base rest₀ rest
    → n * get_or table (base + j) 0 ≤ get_or rest j 0
still_goes {j = j} l g h = omega (arith, g.fits j l, h.kept j (omega arith))

module _ {q found : ℕ} {table rest₀ times₀ : List ℕ} where
  pub taking_first : Taking q found table rest₀ times₀ rest₀ times₀ found
  taking_first = record { few = omega arith; long = refl; many = refl; left = λ j l. refl; taken = refl }

  next : {rest rest' times : List ℕ} {n : ℕ} (k : ℕ) → Taking q found table rest₀ times₀ rest times (suc k) → n ≡ often q (row_at table (k * q)) (tuple rest)
      → Less q n table (k * q) rest rest' → Taking q found table rest₀ times₀ rest' (set times k n) k
  unfolding left_over write_times
  next {rest} {rest'} {times} {n} k h e l =
      let same : Same q (tuple rest') (without q (at table q k) (tuple rest)) = λ j jq. l.less j jq ∙ rw e in
      record {
        few = omega (arith, h.few);
        long = l.long ∙ h.long;
        many = length-set times k n ∙ h.many;
        left = λ j jq. left_same q (at table q) k same j jq ∙ h.left j jq;
        taken = times_same q (at table q) k (set times k n) same ∙ rw e h.taken;
      }

  pub taking_next : {rest rest' times : List ℕ} {n i : ℕ} → 0 < i → Taking q found table rest₀ times₀ rest times i
      → n ≡ often q (row_at table ((i - 1) * q)) (tuple rest)
      → Less q n table ((i - 1) * q) rest rest' → Taking q found table rest₀ times₀ rest' (set times (i - 1) n) (i - 1)
  taking_next {rest} {rest'} {times} {n} {i} some h e l = let g : i ≡ suc (i - 1) = omega arith in next {times = times} (i - 1) (rw (← g) h) e l

  pub taking_last : {rest times : List ℕ} {i : ℕ} → i ≡ 0 → Taking q found table rest₀ times₀ rest times i
      → Left q found table rest₀ rest × (times ≡ write_times q found (at table q) (tuple rest₀) times₀)
  unfolding left_over write_times
  taking_last {rest} {times} e h = let g = rw e at h in (record { left = g.left }, g.taken)
