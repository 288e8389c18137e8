-- A number of 64 bits holds each answer of a system of several lines: there are at most eight, and each line's own refusal is small. Assumes nothing.
use Rattle.std.specs.Prelude.{ℕ, ◌+◌, ◌*◌, ◌^◌, ◌≤◌, ◌<◌, Bool, true, false, List, [], ◌≡◌, refl, ℤ, Result, Ok, Err, set}
use Rattle.std.proofs.Common.{inl, inr, arith}
use Rattle.linear.proofs.Cases.{split}
use Rattle.definitions.specs.Answers.{Check, refuse, go, refuse_with}
use Rattle.laws.specs.CheckLaws.{AllSilent, FirstDue}
use Rattle.equation_spec.specs.Outcome as equation
use Rattle.equation_spec.specs.Outcome.{checked, outcome}
use Rattle.equation_spec.specs.Lines.{after_lines, line_count, line_of}
use Rattle.equation_spec.specs.Systems as form
use Rattle.equation_spec.specs.Systems.{Outcome, accepted, line_outcome, system_outcome, table_checks, hand_out, handed_out, read_system}
use Rattle.equation_spec.proofs.SystemRules.{FirstBad, system_rules, system_answers, tables_render}
use Rattle.equation_systems.specs.Answer.{answer_of, number_of, values_of}
use Rattle.equation_systems.specs.declared.SystemRefusal.{SystemRefusal}
use Rattle.c_equation.specs.Codes.{refusal_code, second, system_told}
use Rattle.c_equation.proofs.CodeLaws.{Fitting, outcome_fits}

-- ---- refusals

no_values : {n : ℕ} {values : List ℕ} → n < 256 → values ≡ [] → refusal_code n values < 2 ^ 64
no_values {n} l e = rw e (omega arith)

checked_fits : (b : Bool) (o : equation.Outcome) {n : ℕ} {own : List ℕ} → ((k : ℕ) (values : List ℕ) → o ≡ equation.refused k values → Fitting k values)
    → checked (refuse_with b 9 []) o ≡ equation.refused n own → Fitting n own
unfolding checked refuse_with
checked_fits true o {n} {own} f e = let a : n ≡ 9 = cc in let b : own ≡ [] = cc in rw (a, b) (record { number = omega arith; place = omega arith })
checked_fits false o {n} {own} f e = f n own e

line_fits : (q : ℕ) (t : List ℕ) {n : ℕ} {own : List ℕ} → line_outcome q t ≡ equation.refused n own → Fitting n own
unfolding line_outcome
line_fits q t e = checked_fits _ (outcome q q (line_of t)) (outcome_fits q q (line_of t)) e

-- where no rule before the lines is in its case, there are at most eight lines
few_lines : (q : ℕ) (t : List ℕ) → AllSilent (system_rules q t) → line_count t ≤ 8
few_lines q t s = elim (split 8 (line_count t)) [ inl l ↦ absurd (s.1.0 (inr l)) | inr l ↦ l ]

module _ (q : ℕ) (t : List ℕ) where
  rules_fit : (n : ℕ) (values : List ℕ) → FirstDue (system_rules q t) n values → refusal_code n values < 2 ^ 64
  rules_fit n values (inl (e, v, h)) = no_values (omega arith) v
  rules_fit n values (inr (x, inl (e, v, h))) = no_values (omega arith) v
  rules_fit n values (inr (x, inr (y, inl (e, v, h)))) = no_values (omega arith) v
  rules_fit n values (inr (x, inr (y, inr (z, h)))) = absurd h

  bad_fits : (n : ℕ) (values : List ℕ) → AllSilent (system_rules q t) → FirstBad q t n values → refusal_code n values < 2 ^ 64
  bad_fits n values s (i, own, e, b) =
      let f = line_fits q (after_lines i t) b.bad in
      rw e (omega (arith, f.number, f.place, b.there, few_lines q t s))

  outcome_fit : (n : ℕ) (values : List ℕ) → system_outcome q t ≡ form.refused n values → refusal_code n values < 2 ^ 64
  outcome_fit n values e =
      elim ((system_answers q t).refuses n values e) [ inl h ↦ rules_fit n values h | inr (s, b) ↦ bad_fits n values s b ]

  accepted_few : (p : ℕ) (zs rs : List ℤ) → system_outcome q t ≡ accepted p zs rs → p ≤ 8
  accepted_few p zs rs e = let (s, a, x) = (system_answers q t).accepts p zs rs e in rw a (few_lines q t s)

-- ---- the tables

tables_fit : (zs rs coefs rights : List ℤ) (n : ℕ) (values : List ℕ) → table_checks zs rs coefs rights ≡ refuse n values → refusal_code n values < 2 ^ 64
tables_fit zs rs coefs rights n values e =
    elim ((tables_render zs rs coefs rights).refuses n values e) [
      | inl (a, v, h) ↦ no_values (omega arith) v
      | inr (x, h) ↦ elim h [ inl (a, v, y) ↦ no_values (omega arith) v | inr (y, z) ↦ absurd z ]
    ]

hand_refused : (c : Check) (p : ℕ) (zs rs coefs rights : List ℤ) {n : ℕ} {values : List ℕ} {xs ds : List ℤ}
    → form.refused n values xs ds ≡ hand_out c p zs rs coefs rights → c ≡ refuse n values
unfolding hand_out
hand_refused go p zs rs coefs rights e = absurd (let z : ◌≡◌ {A = ℕ} 0 1 = cc in omega arith)
hand_refused (refuse k ws) p zs rs coefs rights e = cc

hand_read : (c : Check) (p : ℕ) (zs rs coefs rights : List ℤ) {k : ℕ} {xs ds : List ℤ} → form.read k xs ds ≡ hand_out c p zs rs coefs rights → k ≡ p
unfolding hand_out
hand_read go p zs rs coefs rights e = cc
hand_read (refuse j ws) p zs rs coefs rights e = absurd (let z : ◌≡◌ {A = ℕ} 0 1 = cc in omega arith)

handed_fits : (o : Outcome) (coefs rights : List ℤ) {n : ℕ} {values : List ℕ} {xs ds : List ℤ}
    → ((k : ℕ) (ws : List ℕ) → o ≡ form.refused k ws → refusal_code k ws < 2 ^ 64)
    → form.refused n values xs ds ≡ handed_out o coefs rights → refusal_code n values < 2 ^ 64
unfolding handed_out
handed_fits (accepted p zs rs) coefs rights {n} {values} f e =
    tables_fit zs rs coefs rights n values (hand_refused (table_checks zs rs coefs rights) p zs rs coefs rights e)
handed_fits (form.refused k ws) coefs rights {n} {values} f e = let a : k ≡ n = cc in let b : ws ≡ values = cc in f n values (rw (a, b))

handed_few : (o : Outcome) (coefs rights : List ℤ) {k : ℕ} {xs ds : List ℤ} → ((p : ℕ) (zs rs : List ℤ) → o ≡ accepted p zs rs → p ≤ 8)
    → form.read k xs ds ≡ handed_out o coefs rights → k ≤ 8
unfolding handed_out
handed_few (accepted p zs rs) coefs rights f e = let a = hand_read (table_checks zs rs coefs rights) p zs rs coefs rights e in rw a (f p zs rs refl)
handed_few (form.refused k ws) coefs rights f e = absurd (let z : ◌≡◌ {A = ℕ} 0 1 = cc in omega arith)

-- ---- what a call answered and left, as it is told

module _ (q : ℕ) (t : List ℕ) (coefs rights : List ℤ) (r : Result ℕ SystemRefusal) (after sides : List ℤ)
    (e : answer_of r after sides ≡ read_system q t coefs rights) where
  pub system_refusal_fits : {why : SystemRefusal} → r ≡ Err why → refusal_code (number_of why) (values_of why) < 2 ^ 64
  unfolding read_system
  system_refusal_fits {why} g =
      handed_fits (system_outcome q t) coefs rights {n = number_of why} {values = values_of why} {xs = after} {ds = sides} (outcome_fit q t) (rw g at e)

  pub system_few : {p : ℕ} → r ≡ Ok p → p ≤ 8
  unfolding read_system
  system_few {p} g = handed_few (system_outcome q t) coefs rights {k = p} {xs = after} {ds = sides} (accepted_few q t) (rw g at e)

  pub system_refused_told : (within : List ℕ) {why : SystemRefusal} {a place : ℕ} → r ≡ Err why → a ≡ refusal_code (number_of why) (values_of why)
      → place ≡ second (values_of why) → (a, (after, (sides, set within 0 place))) ≡ system_told (read_system q t coefs rights) within
  system_refused_told within g d f = rw (← e, g, d, f)

  pub system_told_lem : (within : List ℕ) {p a : ℕ} → r ≡ Ok p → a ≡ 132 + 256 * p
      → (a, (after, (sides, within))) ≡ system_told (read_system q t coefs rights) within
  system_told_lem within g d = rw (← e, g, d)
