-- A turn that goes on counts one step, and none goes on or ends where the steps stand at their limit. Assumes nothing.
use Rattle.std.specs.Prelude.{◌≡◌, refl, ◌≢◌, Bool, true, false, not, cond, ℕ, ◌+◌, T, eqb, ltb, ℤ}
use Rattle.std.proofs.Common.{T_not}
use Rattle.std.proofs.Math.Dec.{eqb_refl}
use Rattle.definitions.specs.Refusals.{step_limit}
use Rattle.engine_spec.specs.Reduction.{is_small}
use Rattle.engine_spec.specs.Stage.{Stage, Turned, above, below, degree_turn, due_row, ends, goes, grown, is_needless, next_degree, pair_turn, paired, passed}
use Rattle.engine_spec.specs.Stage.{raised, row_turn, stops, sum_of, turn}

abbrev pub Timed : Stage → Turned → Type 0
Timed s (goes t) = (s.steps ≢ step_limit) × (t.steps ≡ s.steps + 1)
Timed s (stops n) = Unit {0}
Timed s ends = s.steps ≢ step_limit

cond_timed : (s : Stage) (b : Bool) (x y : Turned) → (T b → Timed s x) → (T (not b) → Timed s y) → Timed s (cond b x y)
cond_timed s true x y f g = f tt
cond_timed s false x y f g = g tt

paired_timed : (s : Stage) (b small fits : Bool) (skip more : Stage) → Timed s (goes skip) → Timed s (goes more) → Timed s (paired b small fits skip more)
unfolding paired
paired_timed s true small fits skip more f g = f
paired_timed s false false fits skip more f g = tt
paired_timed s false true false skip more f g = tt
paired_timed s false true true skip more f g = g

other : (m n : ℕ) → T (not (eqb m n)) → m ≢ n
other m n h e = T_not (eqb m n) h (rw e (eqb_refl n))

module _ (q : ℕ) (c : ℕ → ℤ) (m : ℕ) (basis : ℕ → ℕ → ℕ) (room : ℕ) (s : Stage) (ne : s.steps ≢ step_limit) where
  row_timed : (i : ℕ) → Timed s (row_turn q basis room s i)
  unfolding row_turn grown
  row_timed i = cond_timed s (ltb s.rows room) (goes (grown q (basis i) (i + 1) s.upper s.lower s)) (stops 31) (λ l. (ne, refl)) (λ l. tt)

  pair_timed : (h k : ℕ) → Timed s (pair_turn q c room s h k)
  unfolding pair_turn passed grown
  pair_timed h k =
      paired_timed s (is_needless q c s (sum_of q s h k)) (is_small q (sum_of q s h k)) (ltb s.rows room)
      (passed h (k + 1) s) (grown q (sum_of q s h k) s.taken h (k + 1) s) (ne, refl) (ne, refl)

  degree_timed : (d : ℕ) → Timed s (degree_turn d s)
  unfolding degree_turn raised
  degree_timed d = cond_timed s (eqb d 0) ends (goes (raised d s)) (λ h. ne) (λ h. (ne, refl))

pub turn_timed : (q : ℕ) (c : ℕ → ℤ) (m : ℕ) (basis : ℕ → ℕ → ℕ) (room : ℕ) (s : Stage) → Timed s (turn q c m basis room s)
unfolding turn
turn_timed q c m basis room s =
    let i = due_row q m basis s in
    let h = above q c s in
    cond_timed s (eqb s.steps step_limit) (stops 14) _ (λ l. tt)
    (λ l.
    let ne = other s.steps step_limit l in
    cond_timed s (ltb i m) (row_turn q basis room s i) _ (λ k. row_timed q c m basis room s ne i)
    (λ k. cond_timed s (ltb h s.rows) (pair_turn q c room s h (below q c s)) (degree_turn (next_degree q c m basis s) s)
    (λ n. pair_timed q c m basis room s ne h (below q c s)) (λ n. degree_timed q c m basis room s ne (next_degree q c m basis s))))
