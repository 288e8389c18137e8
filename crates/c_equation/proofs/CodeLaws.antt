-- A number of 64 bits holds each answer: places are bounded by the length of a text that is not too long, or by the number of unknowns; right sides are in
-- range; a written row is short. Assumes nothing.
use Rattle.std.specs.Prelude.{ℕ, ◌+◌, ◌*◌, ◌^◌, ◌≤◌, ◌<◌, List, ◌≢◌, ◌≡◌, refl, ℤ, Result, Ok, Err, nat_abs, length, set}
use Rattle.std.proofs.Common.{inl, inr, ap, arith, to_z-of_z, of_z, to_z}
use Rattle.std.proofs.Math.Decide.{ℕ_discrete}
use Rattle.std.specs.Int.{w32}
use Rattle.linear.proofs.Cases.{split}
use Rattle.linear.proofs.Integers.{sfits_nat_abs}
use Rattle.definitions.specs.Answers.{Check, refuse, go}
use Rattle.laws.specs.CheckLaws.{Rules, ◌▹◌, end, placed, rule, FirstDue}
use Rattle.laws.specs.RefusalLaws.{Outside}
use Rattle.calls.specs.declared.Refusal.{Refusal}
use Rattle.calls.specs.Paper as paper
use Rattle.equation_spec.specs.Outcome as form
use Rattle.equation_spec.specs.Outcome.{outcome}
use Rattle.equation_spec.specs.Writing as writing
use Rattle.equation_spec.specs.Writing.{written, write_checks, put_out, write}
use Rattle.equation_spec.proofs.Rules.{verdict, equation_rules, equation_renders}
use Rattle.equation_spec.proofs.WriteLaws.{written_short}
use Rattle.equation_spec.proofs.WriteRules.{write_rules, write_renders}
use Rattle.equation_read.specs.Answer.{answered, answer_of, number_of, values_of}
use Rattle.equation_read.specs.AnsweredLaws.{answered_refused, side_small}
use Rattle.equation_read.specs.declared.equation.EquationRefusal.{EquationRefusal}
use Rattle.equation_write.specs.Answer.{wrote_by}
use Rattle.equation_write.specs.declared.WriteRefusal.{WriteRefusal}
use Rattle.equation_write.specs.declared.WriteRefusal.TheVariants as unwritten
use Rattle.c_equation.specs.Codes.{refusal_code, read_told, write_told}

-- ---- refusals by rules

-- rules whose numbers and places are small, those before them being silent
abbrev pub Small : Rules → Type 0
Small end = Unit {0}
Small (rule r P ▹ rs) = (r < 256) × (¬ P → Small rs)
Small (placed r k P ▹ rs) = (r < 256) × (k ≤ 2 ^ 32) × Small rs

-- a refusal whose number has 8 bits, and whose value 32
pub record Fitting (n : ℕ) (values : List ℕ) : Type 0 where
  pub number : n < 256
  pub place : paper.value values ≤ 2 ^ 32

pub fitting_code : (n : ℕ) (values : List ℕ) → Fitting n values → refusal_code n values < 2 ^ 64
fitting_code n values f = omega (arith, f.number, f.place)

due_fits : (rs : Rules) (n : ℕ) (values : List ℕ) → Small rs → FirstDue rs n values → Fitting n values
due_fits end n values s d = absurd d
due_fits (rule r P ▹ rs) n values (a, s) (inl (e, v, h)) = rw (e, v) (record { number = a; place = omega arith })
due_fits (rule r P ▹ rs) n values (a, s) (inr (x, d)) = due_fits rs n values (s x) d
due_fits (placed r k P ▹ rs) n values (a, b, s) (inl (e, i, l, v, h, none)) = rw (e, v) (record { number = a; place = omega arith })
due_fits (placed r k P ▹ rs) n values (a, b, s) (inr (x, d)) = due_fits rs n values s d

few_unknowns : (q : ℕ) → ¬ (Outside 1 16 q) → q ≤ 16
few_unknowns q h = elim (split 16 q) [ inl l ↦ absurd (h (inr l)) | inr l ↦ l ]

-- ---- the reader

module _ (q n : ℕ) (t : List ℕ) where
  reader_small : Small (equation_rules q n t)
  reader_small = (
    omega arith,
    λ short. (
      omega arith,
      λ range. (
        omega arith,
        λ _. (omega arith, omega arith, (omega arith, λ _. (omega arith, λ _. (omega arith, omega (arith, few_unknowns q range), (omega arith, λ _. tt))))),
      ),
    ),
  )

  pub outcome_fits : (k : ℕ) (values : List ℕ) → outcome q n t ≡ form.refused k values → Fitting k values
  unfolding verdict
  outcome_fits k values e = due_fits (equation_rules q n t) k values reader_small ((equation_renders q n t).refuses k values (ap verdict e))

-- what a call answered and left, as it is told
module _ (q : ℕ) (t : List ℕ) (row : List ℤ) (r : Result ℤ EquationRefusal) (after : List ℤ) (e : answer_of r after ≡ answered (outcome q (length row) t) row)
  where
    pub read_refusal_fits : {why : EquationRefusal} → r ≡ Err why → refusal_code (number_of why) (values_of why) < 2 ^ 64
    read_refusal_fits {why} g =
        fitting_code (number_of why) (values_of why)
        (outcome_fits q (length row) t (number_of why) (values_of why) (answered_refused (outcome q (length row) t) row (rw g at e)))

    pub read_side_small : {right : ℤ} → r ≡ Ok right → nat_abs right ≤ 10000
    read_side_small {right} g = side_small q (length row) t row {right = right} {left = after} (rw g at e)

    pub read_refused_told : (side : List ℤ) {why : EquationRefusal} {a : ℕ} → r ≡ Err why → a ≡ refusal_code (number_of why) (values_of why)
        → (a, (after, side)) ≡ read_told (answered (outcome q (length row) t) row) side
    read_refused_told side g d = rw (← e, g, d)

    -- a right side that was read fits 32 bits
    pub read_told_lem : (side : List ℤ) {right : ℤ} → r ≡ Ok right
        → (130, (after, set side 0 (to_z w32 (of_z w32 right)))) ≡ read_told (answered (outcome q (length row) t) row) side
    read_told_lem side {right} g = rw (to_z-of_z {w = w32} {z = right} (sfits_nat_abs (omega (arith, read_side_small g))), ← e, g)

-- ---- the writer

module _ (q : ℕ) (row : List ℤ) (right : ℤ) (out : List ℕ) where
  whole_row : ¬ (Outside 1 16 q) → ¬ (length row ≢ q) → length row ≤ 16
  whole_row h w = elim (ℕ_discrete (length row) q) [ yes e ↦ omega (arith, few_unknowns q h) | no ne ↦ absurd (w ne) ]

  writer_small : Small (write_rules q row right (length out))
  writer_small = (omega arith, λ range. (omega arith, λ whole. (omega arith, omega (arith, whole_row range whole), (omega arith, λ _. (omega arith, λ _. tt)))))

  checks_fit : (n : ℕ) (values : List ℕ) → write_checks q row right (length out) ≡ refuse n values → refusal_code n values < 2 ^ 64
  checks_fit n values e =
      fitting_code n values (due_fits (write_rules q row right (length out)) n values writer_small
      ((write_renders q row right (length out)).refuses n values e))

  -- a row that is written is short
  passed_short : write_checks q row right (length out) ≡ go → length (written row right) ≤ 256
  passed_short e =
      let h = (write_renders q row right (length out)).goes e in
      written_short row right (whole_row h.0 h.1.0) (λ i l. omega (arith, h.1.1.0 i l)) (omega (arith, h.1.1.1.0))

put_refused : (c : Check) (text out : List ℕ) {n : ℕ} {values left : List ℕ} → writing.refused n values left ≡ put_out c text out → c ≡ refuse n values
unfolding put_out
put_refused go text out h = absurd (let z : ◌≡◌ {A = ℕ} 0 1 = cc in omega arith)
put_refused (refuse k values) text out h = cc

put_wrote : (c : Check) (text out : List ℕ) {n : ℕ} {left : List ℕ} → writing.wrote n left ≡ put_out c text out → (c ≡ go) × (n ≡ length text)
unfolding put_out
put_wrote go text out h = (refl, cc)
put_wrote (refuse k values) text out h = absurd (let z : ◌≡◌ {A = ℕ} 0 1 = cc in omega arith)

module _ (q : ℕ) (row : List ℤ) (right : ℤ) (out : List ℕ) (r : Result ℕ WriteRefusal) (after : List ℕ) (e : wrote_by r after ≡ write q row right out) where
  pub write_refusal_fits : {why : Refusal} → r ≡ Err (unwritten.Row why) → refusal_code (paper.number_of why) (paper.values_of why) < 2 ^ 64
  unfolding write
  write_refusal_fits {why} g =
      checks_fit q row right out (paper.number_of why) (paper.values_of why)
      (put_refused (write_checks q row right (length out)) (written row right) out (rw g at e))

  pub write_short : {n : ℕ} → r ≡ Ok n → n ≤ 256
  unfolding write
  write_short {n} g =
      let (a, b) = put_wrote (write_checks q row right (length out)) (written row right) out (rw g at e) in
      rw b (passed_short q row right out a)

  pub write_refused_told : {why : Refusal} {a : ℕ} → r ≡ Err (unwritten.Row why) → a ≡ refusal_code (paper.number_of why) (paper.values_of why)
      → (a, after) ≡ write_told (write q row right out)
  write_refused_told g d = rw (← e, g, d)

  pub write_told_lem : {n a : ℕ} → r ≡ Ok n → a ≡ 131 + 256 * n → (a, after) ≡ write_told (write q row right out)
  write_told_lem g d = rw (← e, g, d)

  pub side_told : r ≡ Err unwritten.RightSide → (15, after) ≡ write_told (write q row right out)
  side_told g = rw (← e, g)

  pub space_told : r ≡ Err unwritten.Space → (29, after) ≡ write_told (write q row right out)
  space_told g = rw (← e, g)
