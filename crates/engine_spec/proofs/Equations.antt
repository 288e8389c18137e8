-- Theorems about what specs/Equations.antt defines. Assumes nothing.
use Rattle.std.specs.Prelude.{◌≡◌, ℕ, ◌<◌, ℤ, pos}
use Rattle.std.proofs.Common.{sym, inl, inr, arith}
use Rattle.std.proofs.Math.Decide.{ℕ_discrete}
use Rattle.linear.proofs.Cases.{order}
use Rattle.linear.specs.Combinations.{Enumerates}
use Rattle.linear.proofs.Combinations.{combined_above, combined_some, found_below, solution_same}
use Rattle.linear.proofs.Loops.{Loop}
use Rattle.linear.specs.Systems.{Solution, value}
use Rattle.linear.proofs.TestLaws.{count_at, count_mono, count_step}
use Rattle.linear.specs.Tests.{count_to}
use Rattle.linear.specs.TupleLaws.{unit_other, unit_same}
use Rattle.linear.proofs.TupleLaws.{least, minimal_from}
use Rattle.linear.specs.Tuples.{AtOrBelow, Minimal, Nonzero, Same, unit}
use Rattle.laws.specs.Sweep.{keeps}
use Rattle.laws.specs.SweepLaws.{Swept}
use Rattle.laws.proofs.SweepLaws.{comes_from, keeps_stays, left_below, none_earlier}
use Rattle.laws.proofs.SystemLaws.{is_zero_lem, zero_is}
use Rattle.engine_spec.specs.Caps.{Inside, inside_below}
use Rattle.engine_spec.proofs.Caps.{admitted_from, admitted_inside, admitted_some, inside_unit}
use Rattle.engine_spec.specs.Signs.{Closed}
use Rattle.engine_spec.proofs.Signs.{zero_rows}
use Rattle.engine_spec.specs.Equations.{Extends, Holding, LoopInside, Picked, Wanted, zero_row}

pub basis_holds : {cap p q : ℕ} {a : ℕ → ℕ → ℤ} {n : ℕ} {row : ℕ → ℕ → ℕ} → Enumerates q (LoopInside cap p q a) n row → Holding cap p q a n row
basis_holds e = record { wanted = λ i l. (e.only i l).holds; all = e.all }

pub wanted_some : (cap p q : ℕ) (a : ℕ → ℕ → ℤ) {t : ℕ → ℕ} → Wanted cap p q a t → Nonzero q t
wanted_some cap p q a {t} w = admitted_some cap q t w.admitted

pub wanted_inside : (cap p q : ℕ) (a : ℕ → ℕ → ℤ) {t : ℕ → ℕ} → Wanted cap p q a t → Inside cap q t
wanted_inside cap p q a {t} w = admitted_inside cap q t w.admitted

pub wanted_from : (cap p q : ℕ) (a : ℕ → ℕ → ℤ) {t : ℕ → ℕ} → Solution p q a t → Nonzero q t → Inside cap q t → Wanted cap p q a t
wanted_from cap p q a {t} s some inside = record { solution = s; admitted = admitted_from cap q t some inside }

-- a row lies at or below each nonzero solution inside the cap
pub holding_below : {cap p q : ℕ} {a : ℕ → ℕ → ℤ} {n : ℕ} {row : ℕ → ℕ → ℕ} → Holding cap p q a n row
    → (t : ℕ → ℕ) → Solution p q a t → Nonzero q t → Inside cap q t → (i : ℕ) × (i < n) × AtOrBelow q (row i) t
holding_below {cap} {p} {q} {a} {n} {row} h t s some inside =
    found_below q (Wanted cap p q a) n row h.all t (wanted_from cap p q a s some inside)

-- ---- small laws

pub wanted_alike : (cap p q : ℕ) (a : ℕ → ℕ → ℤ) {s t : ℕ → ℕ} → Same q s t → Wanted cap p q a s → Wanted cap p q a t
wanted_alike cap p q a {s} {t} e w =
    let (j, jq, h) = wanted_some cap p q a w in
    wanted_from cap p q a (solution_same p q a e w.solution) (j, jq, omega (arith, e j jq))
    (inside_below cap q t s (λ j jq. omega (arith, e j jq)) (wanted_inside cap p q a w))

-- a minimal solution inside the cap is a minimal solution: what is below it is inside too
pub inside_loop : (cap p q : ℕ) (a : ℕ → ℕ → ℤ) (t : ℕ → ℕ) → LoopInside cap p q a t → Loop p q a t
inside_loop cap p q a t m =
    minimal_from (record { solution = m.holds.solution; admitted = wanted_some cap p q a m.holds })
    (λ s w under. least m s (wanted_from cap p q a w.solution w.admitted (inside_below cap q s t under (wanted_inside cap p q a m.holds))) under)

pub loop_inside : (cap p q : ℕ) (a : ℕ → ℕ → ℤ) (t : ℕ → ℕ) → Inside cap q t → Loop p q a t → LoopInside cap p q a t
loop_inside cap p q a t inside m =
    minimal_from (wanted_from cap p q a m.holds.solution m.holds.admitted inside)
    (λ s w under. least m s (record { solution = w.solution; admitted = wanted_some cap p q a w }) under)

-- ---- a sweep leaves the minimal tuples

-- Rows of W such that each tuple of W is at or above one: a sweep leaves the minimal tuples of W, each once.
module _ (q : ℕ) (W : (ℕ → ℕ) → Type 0) (alike : (s t : ℕ → ℕ) → Same q s t → W s → W t) (n : ℕ) (row : ℕ → ℕ → ℕ)
    (inside : (i : ℕ) → i < n → W (row i)) (under : (t : ℕ → ℕ) → W t → (i : ℕ) × (i < n) × AtOrBelow q (row i) t)
    (n' : ℕ) (row' : ℕ → ℕ → ℕ) (s : Swept q n row n' row') where
  left_inside : (m : ℕ) → m < n' → W (row' m)
  left_inside m l = let f = comes_from s m l in alike (row f.i) (row' m) (λ j jq. omega (arith, f.same j jq)) (inside f.i f.low)

  left_minimal : (m : ℕ) → m < n' → Minimal q W (row' m)
  left_minimal m l =
      let f = comes_from s m l in
      record {
        holds = left_inside m l;
        none_below = λ t w b.
            let (k, kn, u) = under t w in
            (keeps_stays q n row f.i f.low f.stays).least k kn (record {
              at_most = λ j jq. omega (arith, u j jq, b.at_most j jq, f.same j jq);
              other = λ e. b.other (λ j jq. omega (arith, u j jq, b.at_most j jq, f.same j jq, e j jq));
            });
      }

  left_once : (i j : ℕ) → i < j → j < n' → ¬ (Same q (row' i) (row' j))
  left_once i j ij jn e =
      let f = comes_from s i (omega arith) in
      let g = comes_from s j jn in
      elim (order f.i g.i) [
        | inl lt ↦ none_earlier q n row g.i g.low g.stays f.i lt (λ x xq. omega (arith, e x xq, f.same x xq, g.same x xq))
        | inr o ↦ elim o [
          | inl same ↦ omega (arith, f.place, rw same at f.place, g.place)
          | inr gt ↦ omega (arith, f.place, g.place, count_mono (keeps q n row) g.i f.i (omega arith))
        ]
      ]

  pub sweep_enumerates : Enumerates q (Minimal q W) n' row'
  sweep_enumerates =
      record {
        only = left_minimal;
        once = left_once;
        all = λ t b.
            let (i, l, u) = under t b.holds in
            let (m, ml, w) = left_below s i l in
            (m, ml, least b (row' m) (left_inside m ml) (λ j jq. omega (arith, u j jq, w j jq)));
      }

-- The rows with value 0 of a list that is closed under the equation c.
module _ (cap p q : ℕ) (a a' : ℕ → ℕ → ℤ) (c : ℕ → ℤ) (x : Extends p q a a' c) (n : ℕ) (row : ℕ → ℕ → ℕ) (h : Holding cap p q a n row)
    (closed : Closed cap q c n row) where
  -- a nonzero solution inside the cap with value 0 is at or above a row with value 0
  zero_below : (t : ℕ → ℕ) → Wanted cap p q a' t → (i : ℕ) × (i < n) × (value c q (row i) ≡ pos 0) × AtOrBelow q (row i) t
  zero_below t w =
      let (sum, zeros) =
      zero_rows cap p q a c n row (λ i l. (h.wanted i l).solution) (λ i l. wanted_some cap p q a (h.wanted i l)) (holding_below h) closed t
      (x.less t w.solution) (wanted_inside cap p q a' w) (x.meets t w.solution)
      in
      let (j, jq, some) = wanted_some cap p q a' w in
      let (k, kn, taken, nz) = combined_some q n sum.times row (j, jq, omega (arith, sum.adds_up j jq)) in
      (k, kn, zeros k kn taken, λ y yq. omega (arith, sum.adds_up y yq, combined_above n sum.times row k y kn taken))

  module _ (n₁ : ℕ) (row₁ : ℕ → ℕ → ℕ) (picked : Picked q n row (zero_row q c row) n₁ row₁) where
    zeros_inside : (m : ℕ) → m < n₁ → Wanted cap p q a' (row₁ m)
    zeros_inside m l =
        let (i, il, z, e) = count_at (zero_row q c row) n m (omega (arith, picked.count)) in
        let same : Same q (row i) (row₁ m) = λ j jq. sym (rw e at (picked.rows i il z) j jq) in
        wanted_alike cap p q a' same
        (record { solution = x.more (row i) (h.wanted i il).solution (is_zero_lem (value c q (row i)) z); admitted = (h.wanted i il).admitted })

    zeros_under : (t : ℕ → ℕ) → Wanted cap p q a' t → (m : ℕ) × (m < n₁) × AtOrBelow q (row₁ m) t
    zeros_under t w =
        let (i, il, e, b) = zero_below t w in
        let z = zero_is (value c q (row i)) e in (
          count_to i (zero_row q c row),
          omega (arith, picked.count, count_step (zero_row q c row) i n il z),
          λ j jq. omega (arith, b j jq, picked.rows i il z j jq),
        )

    -- swept, the rows with value 0 are the minimal solutions of the system with the equation inside the cap, each once
    pub next_equation : (n₂ : ℕ) (row₂ : ℕ → ℕ → ℕ) → Swept q n₁ row₁ n₂ row₂ → Enumerates q (LoopInside cap p q a') n₂ row₂
    next_equation n₂ row₂ s =
        sweep_enumerates q (Wanted cap p q a') (λ s t e w. wanted_alike cap p q a' e w) n₁ row₁ zeros_inside zeros_under n₂ row₂ s

-- ---- before the first equation

-- rows that are the q unit tuples, where every tuple is a solution
pub units_enumerate : (cap p q : ℕ) (a : ℕ → ℕ → ℤ) (free : (t : ℕ → ℕ) → Solution p q a t) (row : ℕ → ℕ → ℕ)
    → ((i : ℕ) → i < q → Same q (row i) (unit i)) → Enumerates q (LoopInside cap p q a) q row
units_enumerate cap p q a free row is =
    record {
      only = λ i l. minimal_from (wanted i l) (λ s w b. whole i l s w b);
      once = λ i j ij jn e. omega (
        arith,
        e i (omega arith),
        is i (omega arith) i (omega arith),
        is j jn i (omega arith),
        unit_same i,
        unit_other j i (omega arith),
      );
      all = λ t b.
          let (j, jq, h) = wanted_some cap p q a b.holds in (
            j,
            jq,
            least b (row j) (wanted j jq)
                (λ x xq. elim (ℕ_discrete x j) [
                  | yes e ↦ rw e (omega (arith, is j jq j jq, unit_same j))
                  | no ne ↦ omega (arith, is j jq x xq, unit_other j x ne)
                ]),
          );
    }
  where
    wanted : (i : ℕ) → i < q → Wanted cap p q a (row i)
    wanted i l = wanted_from cap p q a (free (row i)) (i, l, omega (arith, is i l i l, unit_same i)) (inside_unit cap q i (row i) l (is i l))

    whole : (i : ℕ) → i < q → (s : ℕ → ℕ) → Wanted cap p q a s → AtOrBelow q s (row i) → Same q s (row i)
    whole i l s w b j jq =
        let (x, xq, h) = wanted_some cap p q a w in
        let at_i : x ≡ i = elim (ℕ_discrete x i) [ yes e ↦ e | no ne ↦ absurd (omega (arith, b x xq, is i l x xq, unit_other i x ne)) ] in
        elim (ℕ_discrete j i) [
          | yes e ↦ rw e (omega (arith, b i l, is i l i l, unit_same i, rw at_i at h))
          | no ne ↦ omega (arith, b j jq, is i l j jq, unit_other i j ne)
        ]
