-- Theorems about what specs/Starts.antt defines. Assumes nothing.
use Rattle.std.specs.Prelude.{◌≡◌, ℕ, ◌-◌, ◌<◌, T, ℤ}
use Rattle.std.proofs.Common.{inr, arith}
use Rattle.linear.proofs.Combinations.{combined_units}
use Rattle.linear.specs.Tuples.{Same}
use Rattle.theorems.specs.View.{View}
use Rattle.theorems.specs.Invariant.{Invariant}
use Rattle.theorems.specs.Starts.{lower_task}

pub record LowerStart (q : ℕ) (f : ℕ → ℕ) (v : View) : Type 0 where
  pub height : v.height ≡ 1
  pub found : (c : ℕ) → v.found c ≡ 0
  pub tuple : Same q (v.tuple 0) f
  pub free : (j : ℕ) → j < q → ¬ (T (v.frozen 0 j))

pub lower_starts : {p q : ℕ} {a : ℕ → ℕ → ℤ} {f : ℕ → ℕ} {v : View} → LowerStart q f v → Invariant (lower_task p q a f) v
lower_starts {q = q} {f = f} {v = v} s =
    record {
      cover = λ t b. inr (
        0,
        omega (arith, s.height),
        record {
          times = λ j. t j - f j;
          reaches = λ j jq. omega (arith, s.tuple j jq, b.holds.admitted j jq, combined_units q (λ i. t i - f i) j jq);
          stays = λ j jq fr. absurd (s.free j jq fr);
        },
      );
      apart = λ l m lm mh. absurd (omega (arith, s.height));
      clear = λ c i l iv. absurd (omega (arith, s.found c));
      sound = λ c i iv. absurd (omega (arith, s.found c));
      distinct = λ c i j ij jv. absurd (omega (arith, s.found c));
      admitted = λ l lh. let e : l ≡ 0 = omega (arith, s.height) in rw e (λ j jq. omega (arith, s.tuple j jq));
    }
