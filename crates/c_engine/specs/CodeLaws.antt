-- A number of 64 bits holds each answer of the engine's calls, as a place is one of at most 1024 coefficients. Assumes nothing.
use Prim.Native.Nat.{ℕ, zero, suc, ◌+◌, ◌*◌, ◌≤◌, ◌<◌}
use Rattle.std.specs.Prelude.{Bool, cond, ◌&&◌, List, [], ◌≡◌, eqb, ltb, ℤ, length}
use Rattle.std.proofs.Math.Bool.{true, false, not}
use Rattle.std.proofs.Common.{mul-le-mul}
use native.Mathlib.Omega.{arith}
use Rattle.linear.specs.Tests.{count_to}
use Rattle.definitions.specs.Answers.{Check, ◌then◌, complete, go, paused, refuse, refuse_if, refused}
use Rattle.definitions.specs.Input.{bound_of}
use Rattle.definitions.specs.Refusals.{check15, step_limit}
use Rattle.c_record.specs.CodeLaws.{Fits, Small, small_first, small_if, small_then, within}
use Rattle.engine_spec.specs.Beside.{most_columns, most_rows}
use Rattle.engine_spec.specs.Calls as calls
use Rattle.engine_spec.specs.Engine as engine
use Rattle.engine_spec.specs.Engine.{Result, Work}
use Rattle.engine_spec.specs.Reduction.{is_small}
use Rattle.engine_spec.specs.Stage as stage
use Rattle.engine_spec.specs.Stage.{Turned, ends, goes, stops}
use Rattle.engine_spec.specs.StartSides.{sides_checks, start_sides}

-- ---- checks

module _ (p q : ℕ) where
  few : calls.check1 p ≡ go → calls.check2 q ≡ go → p * q ≤ 1024
  few a b =
      let bounds : p * q ≤ most_rows * most_columns = mul-le-mul (within 1 most_rows p 1 a) (within 1 most_columns q 2 b) in
      omega (arith, bounds)

  -- the checks of the shape, and what comes after them
  small_shape : (coefs : List ℤ) (most : ℕ) (w : Work) (d : Check) → (p * q ≤ 1024 → Small d)
      → Small (calls.check1 p then calls.check2 q then calls.check3 p q coefs then calls.check4 p q most w then d)
  small_shape coefs most w d h =
      small_then (calls.check1 p) _ (small_if _ 1 (omega arith)) (λ a.
      small_then (calls.check2 q) _ (small_if _ 2 (omega arith)) (λ b.
      small_then (calls.check3 p q coefs) _ (small_if _ 3 (omega arith)) (λ _.
      small_then (calls.check4 p q most w) d (small_if _ 4 (omega arith)) (λ _. h (few a b)))))

  pub small_start : (coefs : List ℤ) (most : ℕ) (w : Work) → Small (calls.start_checks p q coefs most w)
  unfolding calls.start_checks
  small_start coefs most w = small_shape coefs most w (calls.check7 p q coefs) (λ l. small_first 7 (p * q) _ (omega arith) l)

  pub small_start_from : (coefs : List ℤ) (n : ℕ) (rows : List ℕ) (most : ℕ) (w : Work) → Small (calls.start_from_checks p q coefs n rows most w)
  unfolding calls.start_from_checks
  small_start_from coefs n rows most w =
      small_shape coefs most w _ (λ l.
      small_then (refuse_if (ltb most n) 4) _ (small_if _ 4 (omega arith)) (λ _.
      small_then (calls.check6_list q n rows) (calls.check7 p q coefs) (small_if _ 6 (omega arith)) (λ _. small_first 7 (p * q) _ (omega arith) l)))

  small_sides : (coefs rights : List ℤ) (lower : List ℕ) (most : ℕ) (w : Work) → Small (sides_checks p q coefs rights lower most w)
  unfolding sides_checks
  small_sides coefs rights lower most w =
      small_then (calls.check1 p) _ (small_if _ 1 (omega arith)) (λ a.
      small_then (calls.check2 q) _ (small_if _ 2 (omega arith)) (λ b.
      small_then (refuse_if (eqb q most_columns) 2) _ (small_if _ 2 (omega arith)) (λ _.
      small_then (calls.check3 p q coefs) _ (small_if _ 3 (omega arith)) (λ _.
      small_then (refuse_if (not (eqb (length rights) p)) 3) _ (small_if _ 3 (omega arith)) (λ _.
      small_then (calls.check4 p (suc q) most w) _ (small_if _ 4 (omega arith)) (λ _.
      small_then (refuse_if (not (eqb (length lower) q)) 5) _ (small_if _ 5 (omega arith)) (λ _.
      small_then (calls.check7 p q coefs) _ (small_first 7 (p * q) _ (omega arith) (few a b)) (λ _.
      small_then (refuse_if (not (is_small q (bound_of lower))) 8) _ (small_if _ 8 (omega arith)) (λ _.
      small_then (check15 rights) _ (small_if _ 15 (omega arith)) (λ _.
      small_first 35 p _ (omega arith) (omega (arith, within 1 most_rows p 1 a))))))))))))

  module _ (most room : ℕ) (w : Work) where
    small_standing : (own : Check) → Small own → Small (calls.standing_then p q most room w own)
    small_standing own h =
        small_then (calls.check1 p) _ (small_if _ 1 (omega arith)) (λ _.
        small_then (calls.check2 q) _ (small_if _ 2 (omega arith)) (λ _.
        small_then (calls.check4 p q most w) _ (small_if _ 4 (omega arith)) (λ _.
        small_then (calls.check6 p q most room w) own (small_if _ 6 (omega arith)) (λ _. h))))

    small_two : (a b : Bool) (n m : ℕ) → n < 256 → m < 256 → Small (refuse_if a n then refuse_if b m)
    small_two a b n m k l = small_then (refuse_if a n) _ (small_if a n k) (λ _. small_if b m l)

    small_take : (e f : ℕ) → Small (calls.take_checks p q most room e f w)
    unfolding calls.take_checks
    small_take e f = small_standing _ (small_two _ _ 32 33 (omega arith) (omega arith))

    small_combine : (r s : ℕ) (u t : ℤ) → Small (calls.combine_checks p q most room r s u t w)
    unfolding calls.combine_checks
    small_combine r s u t = small_standing _ (small_two _ _ 32 34 (omega arith) (omega arith))

    small_resume : Small (calls.resume_checks p q most room w)
    unfolding calls.resume_checks
    small_resume = small_standing go tt

-- ---- calls

fits_checked : (c : Check) (w : Work) (work : Work → Result) → Small c → Fits (work w).answer → Fits (calls.checked c w work).answer
unfolding calls.checked
fits_checked (refuse n values) w work h g = h
fits_checked go w work h g = g

abbrev Few : Turned → Type 0
Few (goes s) = Unit
Few (stops n) = n < 256
Few ends = Unit

few_cond : (b : Bool) (x y : Turned) → Few x → Few y → Few (cond b x y)
few_cond true x y h g = h
few_cond false x y h g = g

few_paired : (is_reduced small fits : Bool) (skip more : stage.Stage) → Few (stage.paired is_reduced small fits skip more)
unfolding stage.paired
few_paired true small fits skip more = tt
few_paired false false fits skip more = omega arith
few_paired false true false skip more = omega arith
few_paired false true true skip more = tt

fits_cond : (b : Bool) (x y : Result) → Fits x.answer → Fits y.answer → Fits (cond b x y).answer
fits_cond true x y h g = h
fits_cond false x y h g = g

few_row : (q : ℕ) (basis : ℕ → ℕ → ℕ) (room : ℕ) (s : stage.Stage) (i : ℕ) → Few (stage.row_turn q basis room s i)
unfolding stage.row_turn
few_row q basis room s i = few_cond (ltb s.rows room) (goes (stage.grown q (basis i) (i + 1) s.upper s.lower s)) (stops 31) tt (omega arith)

few_degree : (d : ℕ) (s : stage.Stage) → Few (stage.degree_turn d s)
unfolding stage.degree_turn
few_degree d s = few_cond (eqb d 0) ends (goes (stage.raised d s)) tt tt

few_pair : (q : ℕ) (c : ℕ → ℤ) (room : ℕ) (s : stage.Stage) (h k : ℕ) → Few (stage.pair_turn q c room s h k)
unfolding stage.pair_turn
few_pair q c room s h k = few_paired _ _ _ _ _

module _ (q : ℕ) (c : ℕ → ℤ) (m : ℕ) (basis : ℕ → ℕ → ℕ) (room : ℕ) where
  few_turn : (s : stage.Stage) → Few (stage.turn q c m basis room s)
  unfolding stage.turn
  few_turn s =
      few_cond (eqb s.steps step_limit) (stops 14) _ (omega arith)
      (few_cond (ltb (stage.due_row q m basis s) m) _ _ (few_row q basis room s _)
      (few_cond (ltb (stage.above q c s) s.rows) _ _ (few_pair q c room s _ _) (few_degree _ s)))

module _ (p q most : ℕ) where
  fits_rested : (w : Work) → Fits (engine.rested p w).answer
  unfolding engine.rested
  fits_rested w = either (engine.all_done p w)
    where
      either : (b : Bool) → Fits (cond b complete paused)
      either true = omega arith
      either false = omega arith

  fits_finish : (w : Work) → Fits (engine.finish p q most w).answer
  unfolding engine.finish
  fits_finish w =
      let full = fits_cond (ltb most (count_to w.stage.rows (engine.stays q w))) (engine.result (refused 31 []) w) (engine.rested p (engine.finished p q w))
      (omega arith) (fits_rested (engine.finished p q w)) in
      fits_cond (ltb w.fresh q && not (engine.values_small q w)) (engine.result (refused 12 []) w) _ (omega arith) full

  fits_after : (t : Turned) (f : Work → Result) (w : Work) → Few t → ((v : Work) → Fits (f v).answer) → Fits (engine.after p q most t f w).answer
  unfolding engine.after
  fits_after (goes s) f w h g = g (engine.onward s w)
  fits_after (stops n) f w h g = omega arith
  fits_after ends f w h g = fits_finish w

  fits_run : (room budget : ℕ) (w : Work) → Fits (engine.run p q most room budget w).answer
  unfolding engine.run
  fits_run room zero w = omega arith
  fits_run room (suc budget) w = fits_after _ (engine.run p q most room budget) w (few_turn _ _ _ _ room w.stage) (fits_run room budget)

module _ (p q : ℕ) where
  pub start_fits : (coefs : List ℤ) (most : ℕ) (w : Work) → Fits (calls.start p q coefs most w).answer
  unfolding calls.start_under
  start_fits coefs most w = fits_checked (calls.start_checks p q coefs most w) w _ (small_start p q coefs most w) (omega arith)

  pub start_from_fits : (coefs : List ℤ) (n : ℕ) (rows : List ℕ) (most : ℕ) (w : Work) → Fits (calls.start_from p q coefs n rows most w).answer
  unfolding calls.start_from_under
  start_from_fits coefs n rows most w =
      fits_checked (calls.start_from_checks p q coefs n rows most w) w _ (small_start_from p q coefs n rows most w) (omega arith)

  pub start_sides_fits : (coefs rights : List ℤ) (lower : List ℕ) (most : ℕ) (w : Work) → Fits (start_sides p q coefs rights lower most w).answer
  unfolding start_sides
  start_sides_fits coefs rights lower most w =
      fits_checked (sides_checks p q coefs rights lower most w) w _ (small_sides p q coefs rights lower most w) (omega arith)

  module _ (most room : ℕ) (w : Work) where
    pub combine_fits : (r s : ℕ) (u t : ℤ) → Fits (calls.combine p q most room r s u t w).answer
    unfolding calls.combine
    combine_fits r s u t = fits_checked (calls.combine_checks p q most room r s u t w) w _ (small_combine p q most room w r s u t) (omega arith)

    pub take_fits : (e f : ℕ) → Fits (calls.take p q most room e f w).answer
    unfolding calls.take
    take_fits e f = fits_checked (calls.take_checks p q most room e f w) w _ (small_take p q most room w e f) (omega arith)

    pub resume_fits : (budget : ℕ) → Fits (calls.resume p q most room budget w).answer
    unfolding calls.resume
    resume_fits budget =
        fits_checked (calls.resume_checks p q most room w) w _ (small_resume p q most room w)
        (fits_cond (ltb w.equation p) _ _ (fits_run p q most room budget w) (fits_rested p q most w))
