-- A sweep of any table, whether or not all its rows stand in it; and a second sweep, which changes nothing. Assumes nothing.
use Rattle.std.specs.Prelude.{◌≡◌, refl, Bool, true, false, List, get_or}
use Rattle.std.proofs.Common.{sym, ◌∙◌, mul-le-mul_right, get_or-set_other, get_or-set_same}
use Rattle.std.proofs.Math.Logic.{inl, inr}
use Prim.Native.Nat.{ℕ, zero, suc, ◌+◌, ◌*◌, ◌<◌}
use native.Mathlib.Omega.{arith}
use Rattle.std.proofs.Math.Dec.{T}
use Rattle.std.proofs.Math.ListN.{length, get_or-eq_default}
use Rattle.linear.specs.Cases.{below_suc}
use Rattle.linear.proofs.Cases.{order, split}
use Rattle.linear.proofs.TestLaws.{count_le, count_mono, count_step, number_true}
use Rattle.linear.specs.Tests.{count_to}
use Rattle.definitions.specs.Tables.{at, write_to}
use Rattle.laws.proofs.TableLaws.{row_before, write_again, write_length}
use Rattle.laws.specs.Pack.{pack_to, write_if}
use Rattle.laws.proofs.Pack.{if_outside, pack_length}
use Rattle.laws.specs.Sweep.{keeps, swept_to}
use Rattle.laws.specs.SweepLaws.{Swept}
use Rattle.laws.proofs.SweepLaws.{comes_from, keeps_stays, stays_keeps}

-- ---- a number of a row that is written, where it stands in the table

write_entry : (n : ℕ) (table : List ℕ) (base : ℕ) (x : ℕ → ℕ) (j : ℕ) → base + j < length table → j < n → get_or (write_to n table base x) (base + j) 0 ≡ x j
unfolding write_to
write_entry zero table base x j l jn = absurd (omega arith)
write_entry (suc n) table base x j l jn =
    elim (below_suc jn) [
      | inl h ↦ get_or-set_other (write_to n table base x) (base + n) (base + j) (x n) 0 (omega arith) ∙ write_entry n table base x j l h
      | inr e ↦ rw e (get_or-set_same (write_to n table base x) (base + n) (x n) 0 (omega (arith, write_length x table base n)))
    ]

if_entry : (b : Bool) (w : ℕ) (table : List ℕ) (base : ℕ) (x : ℕ → ℕ) (j : ℕ) → T b → base + j < length table → j < w
    → get_or (write_if b w table base x) (base + j) 0 ≡ x j
if_entry true w table base x j h l jw = write_entry w table base x j l jw
if_entry false w table base x j h l jw = absurd h

module _ (w : ℕ) (table : List ℕ) (f : ℕ → Bool) (row : ℕ → ℕ → ℕ) where
  pack_entry : (n k : ℕ) → k < n → T (f k) → (j : ℕ) → j < w → count_to k f * w + j < length table → at (pack_to n w table 0 f row) w (count_to k f) j ≡ row k j
  unfolding pack_to
  pack_entry zero k h st j jw l = absurd (omega arith)
  pack_entry (suc n) k h st j jw l =
      elim (below_suc h) [
        | inl kn ↦
            if_outside (f n) w (pack_to n w table 0 f row) ((0 + count_to n f) * w) (row n) (count_to k f * w + j)
            (λ y. inl (omega (arith, row_before w (0 + count_to n f) (count_to k f) 0 j (omega (arith, count_step f k n kn st)) jw)))
            ∙ pack_entry n k kn st j jw l
        | inr e ↦ rw e (last (rw e at st) (rw e at l))
      ]
    where
      last : T (f n) → count_to n f * w + j < length table
          → at (write_if (f n) w (pack_to n w table 0 f row) ((0 + count_to n f) * w) (row n)) w (count_to n f) j ≡ row n j
      last y m =
          let place : 0 + count_to n f ≡ count_to n f = omega arith in
          rw place (if_entry (f n) w (pack_to n w table 0 f row) (count_to n f * w) (row n) j y (omega (arith, pack_length w table 0 f row n)) jw)

-- ---- what a sweep leaves, of any table: a row that stays and stands past the table's end is 0 where it goes, too

module _ (q n : ℕ) (table : List ℕ) where
  abbrev stay : ℕ → Bool
  stay = keeps q n (at table q)

  swept_row : (i : ℕ) → i < n → T (stay i) → (j : ℕ) → j < q → at (swept_to n q table stay) q (count_to i stay) j ≡ at table q i j
  swept_row i l st j jq =
      elim (split (count_to i stay * q + j) (length table)) [
        | inl h ↦ pack_entry q table stay (at table q) n i l st j jq h
        | inr h ↦
            get_or-eq_default (swept_to n q table stay) 0 (omega (arith, pack_length q table 0 stay (at table q) n))
            ∙ sym (get_or-eq_default table 0 (omega (arith, mul-le-mul_right q (count_le stay i))))
      ]

  pub table_swept : Swept q n (at table q) (count_to n stay) (at (swept_to n q table stay) q)
  table_swept = record { count = refl; rows = swept_row }

  pub swept_length : length (swept_to n q table stay) ≡ length table
  swept_length = pack_length q table 0 stay (at table q) n

-- ---- a second sweep

-- it finds nothing to remove
pub swept_stays : {q n : ℕ} {row : ℕ → ℕ → ℕ} {n' : ℕ} {row' : ℕ → ℕ → ℕ} → Swept q n row n' row' → (m : ℕ) → m < n' → T (keeps q n' row' m)
swept_stays {q} {n} {row} {n'} {row'} s m l =
    let f = comes_from s m l in
    let st = keeps_stays q n row f.i f.low f.stays in
    stays_keeps q n' row' m (record {
      least = λ k kn b.
          let g = comes_from s k kn in
          st.least g.i g.low (record {
            at_most = λ j jq. omega (arith, b.at_most j jq, f.same j jq, g.same j jq);
            other = λ e. b.other (λ j jq. omega (arith, e j jq, f.same j jq, g.same j jq));
          });
      first = λ k km e.
          let g = comes_from s k (omega arith) in
          elim (order g.i f.i) [
            | inl lt ↦ st.first g.i lt (λ j jq. omega (arith, e j jq, f.same j jq, g.same j jq))
            | inr o ↦ elim o [
              | inl same ↦ omega (arith, f.place, rw same at g.place)
              | inr gt ↦ omega (arith, f.place, g.place, count_mono (keeps q n row) f.i g.i (omega arith))
            ]
          ];
    })

count_all : (f : ℕ → Bool) (n : ℕ) → ((i : ℕ) → i < n → T (f i)) → count_to n f ≡ n
unfolding count_to
count_all f zero h = refl
count_all f (suc n) h = omega (arith, count_all f n (λ i l. h i (omega arith)), number_true (f n) (h n (omega arith)))

if_again : (b : Bool) (w : ℕ) (table : List ℕ) (base : ℕ) (x : ℕ → ℕ) → ((j : ℕ) → j < w → get_or table (base + j) 0 ≡ x j) → write_if b w table base x ≡ table
if_again true w table base x h = write_again w table base x h
if_again false w table base x h = refl

-- a sweep of which every row stays writes what is there
pub all_again : (q : ℕ) (table : List ℕ) (stay : ℕ → Bool) (n : ℕ) → ((i : ℕ) → i < n → T (stay i)) → swept_to n q table stay ≡ table
unfolding pack_to
all_again q table stay zero h = refl
all_again q table stay (suc n) h =
    let before = all_again q table stay n (λ i l. h i (omega arith)) in
    let place : 0 + count_to n stay ≡ n = omega (arith, count_all stay n (λ i l. h i (omega arith))) in
    rw (before, place) (if_again (stay n) q table (n * q) (at table q n) (λ j jq. refl))

module _ (q n : ℕ) (table : List ℕ) where
  abbrev left : ℕ
  left = count_to n (keeps q n (at table q))

  abbrev left_table : List ℕ
  left_table = swept_to n q table (keeps q n (at table q))

  pub sweep_again : (swept_to left q left_table (keeps q left (at left_table q)) ≡ left_table) × (count_to left (keeps q left (at left_table q)) ≡ left)
  sweep_again =
      let all = swept_stays (table_swept q n table) in
      (all_again q left_table (keeps q left (at left_table q)) left all, count_all (keeps q left (at left_table q)) left all)
