-- When a text is refused as an equation, as rules in the papers' words and order, and that the reader's outcome renders them. Assumes nothing.
use Rattle.std.specs.Prelude.{ℕ, zero, suc, ◌≤◌, ◌<◌, ◌||◌, List, [], ◌∷◌, ◌++◌, ◌≢◌, ◌≡◌, refl, T, length, take, drop}
use Rattle.std.proofs.Common.{append_assoc, inl, inr, sym, ap, ◌∙◌, arith, take-append-drop, take-take, lt-ltb, le-ltb, le-leb, eq-eqb, ne_eqb}
use Rattle.std.proofs.Math.Decide.{ℕ_discrete}
use Rattle.std.proofs.Math.Dec.{ltb→lt, lt→ltb}
use Rattle.std.proofs.Math.IntN.{nat_abs}
use Rattle.std.proofs.lemmas.Bool.{lt-leb}
use Rattle.linear.proofs.Cases.{split}
use Rattle.definitions.specs.Answers.{Check, refuse, go, refuse_with, refuse_first, ◌then◌}
use Rattle.definitions.specs.Refusals.{out_of_range}
use Rattle.definitions.specs.System.{most_unknowns, coef_limit}
use Rattle.laws.specs.CheckLaws.{Rules, ◌▹◌, end, placed, rule, Decides, Renders}
use Rattle.laws.proofs.CheckLaws.{decides_if, renders_last, renders_then, renders_due, renders_silent}
use Rattle.laws.specs.RefusalLaws.{Outside}
use Rattle.texts.specs.Reading.{most_bytes, Parse, parsed, malformed}
use Rattle.texts.proofs.ParseLaws.{not_parsed}
use Rattle.equation_spec.specs.Grammar.{Equation, Reads}
use Rattle.equation_spec.specs.Meaning.{coefficient, right_side, sum_exceeds}
use Rattle.equation_spec.specs.Reader.{read_equation}
use Rattle.equation_spec.specs.Scan.{place}
use Rattle.equation_spec.specs.Outcome.{Outcome, accepted, refused, checked, most_depth, row, limits, tree_outcome, outcome}
use Rattle.equation_spec.proofs.Agreement.{depth, read_any, read_reads, unambiguous}
use Rattle.equation_spec.proofs.PlaceLaws.{Begins, Placed, placed as placed_at_lem, unplaced_reads}
use Rattle.equation_spec.proofs.Theorems.{range_decides}

-- ---- the cases

-- the text has a reading, and this holds of it
abbrev pub ReadSo : ℕ → List ℕ → (Equation → Type 0) → Type 0
ReadSo q t P = (e : Equation) × Reads q e t × P e

-- "the first byte up to which the text begins nothing allowed, or one past the end": place i, from 0, is one, where the text with that byte begins no equation,
-- or where the text ends and is none
pub data Stuck (q : ℕ) (t : List ℕ) (i : ℕ) : Type 0 where
  at_byte : i < length t → ¬ (Begins q (take (suc i) t)) → Stuck q t i
  at_end : i ≡ length t → ¬ ((e : Equation) × Reads q e t) → Stuck q t i

-- "product of the multipliers around a bracket above 10,000"
abbrev pub Exceeds : Equation → Type 0
Exceeds e = T (sum_exceeds e.left 1 || sum_exceeds e.right 1)

-- "10, 2 and 3 come first; 16, outside the grammar or an unknown above q, with the byte place; then 17, deeper than eight; then 18, product of the multipliers
-- around a bracket above 10,000; then 7 and 15", for q unknowns and a row of n numbers
abbrev pub equation_rules : ℕ → ℕ → List ℕ → Rules
equation_rules q n t =
    rule 10 (most_bytes < length t)
    ▹ rule 2 (Outside 1 most_unknowns q)
    ▹ rule 3 (n ≢ q)
    ▹ placed 16 (suc (length t)) (Stuck q t)
    ▹ rule 17 (ReadSo q t (λ e. most_depth < depth e))
    ▹ rule 18 (ReadSo q t Exceeds)
    ▹ placed 7 q (λ i. ReadSo q t (λ e. coef_limit < nat_abs (coefficient e (suc i))))
    ▹ rule 15 (ReadSo q t (λ e. coef_limit < nat_abs (right_side e)))
    ▹ end

-- what an outcome comes to as a check
unfoldable pub verdict : Outcome → Check
verdict (accepted zs z) = go
verdict (refused n values) = refuse n values

-- ---- a text in the grammar

module _ (q : ℕ) (t : List ℕ) (few : q ≤ 16) (e : Equation) (reads : Reads q e t) where
  abbrev last_rules : Rules
  last_rules =
      rule 17 (ReadSo q t (λ e. most_depth < depth e))
      ▹ rule 18 (ReadSo q t Exceeds)
      ▹ placed 7 q (λ i. ReadSo q t (λ e. coef_limit < nat_abs (coefficient e (suc i))))
      ▹ rule 15 (ReadSo q t (λ e. coef_limit < nat_abs (right_side e)))
      ▹ end

  -- what holds of a reading holds of this one
  only : {P : Equation → Type 0} → ReadSo q t P → P e
  only {P} (f, r, p) = rw (unambiguous q f e t few r reads) at p

  decides_range : Decides (refuse_first 7 q (λ i. out_of_range (coefficient e (suc i))))
      (placed 7 q (λ i. ReadSo q t (λ e. coef_limit < nat_abs (coefficient e (suc i)))))
  decides_range =
      let d = range_decides q e in
      record {
        refuses = λ n values h. let (a, i, l, b, x, none) = d.refuses n values h in (
          a,
          i,
          l,
          b,
          (e, reads, x),
          λ j m y. none j m (only {P = λ f. coef_limit < nat_abs (coefficient f (suc j))} y),
        );
        due = λ n values (a, i, l, b, x, none). d.due n values (
          a,
          i,
          l,
          b,
          only {P = λ f. coef_limit < nat_abs (coefficient f (suc i))} x,
          λ j m y. none j m (e, reads, y),
        );
        goes = λ h i l x. d.goes h i l (only {P = λ f. coef_limit < nat_abs (coefficient f (suc i))} x);
        silent = λ h. d.silent (λ i l x. h i l (e, reads, x));
      }

  limits_render : Renders (limits q e) last_rules
  unfolding limits
  limits_render =
      renders_then (decides_if _ 17 _ (λ h. (e, reads, ltb→lt most_depth (depth e) h))
      (λ x. lt→ltb most_depth (depth e) (only {P = λ f. most_depth < depth f} x)))
      (renders_then (decides_if _ 18 _ (λ h. (e, reads, h)) (λ x. only {P = Exceeds} x))
      (renders_then decides_range
      (renders_last (decides_if _ 15 _ (λ h. (e, reads, ltb→lt coef_limit (nat_abs (right_side e)) h))
      (λ x. lt→ltb coef_limit (nat_abs (right_side e)) (only {P = λ f. coef_limit < nat_abs (right_side f)} x))))))

  not_stuck : (i : ℕ) → ¬ (Stuck q t i)
  not_stuck i (at_byte l h) = h (record { rest = drop (suc i) t; equation = e; reads = rw (take-append-drop (suc i) t) reads })
  not_stuck i (at_end l h) = h (e, reads)

-- ---- a text outside the grammar

module _ (q : ℕ) (t : List ℕ) (some : 1 ≤ q) (few : q ≤ 16) (none : read_equation q (length t) t ≡ malformed) where
  no_reading : ¬ ((e : Equation) × Reads q e t)
  no_reading (e, r) = not_parsed (sym none ∙ read_any q e t few r)

  -- a text begins something allowed up to every byte before its place
  begins_before : (j k : ℕ) → suc j ≤ k → Begins q (take k t) → Begins q (take (suc j) t)
  begins_before j k l b =
      let e : take k t ≡ take (suc j) t ++ drop (suc j) (take k t) =
      sym (take-append-drop (suc j) (take k t)) ∙ ap (λ x. x ++ drop (suc j) (take k t)) (take-take (suc j) k t l) in
      record {
        rest = drop (suc j) (take k t) ++ b.rest;
        equation = b.equation;
        reads = rw (← append_assoc (take (suc j) t) (drop (suc j) (take k t)) b.rest, ← e) b.reads;
      }

  stuck_at : (k : ℕ) → Placed q t k → Stuck q t k
  stuck_at k p =
      elim (split k (length t)) [ inl l ↦ at_byte l (p.fault l) | inr l ↦ at_end (omega (arith, p.inside)) no_reading ]

  not_before : (j k : ℕ) → j < k → Placed q t k → ¬ (Stuck q t j)
  not_before j k l p (at_byte m h) = h (begins_before j k (omega arith) p.before)
  not_before j k l p (at_end m h) = omega (arith, p.inside)

  place_renders : {rs : Rules} (k : ℕ) → place q t ≡ k → Renders (refuse 16 (k ∷ [])) (placed 16 (suc (length t)) (Stuck q t) ▹ rs)
  place_renders zero h = absurd (no_reading (unplaced_reads q some few t h))
  place_renders (suc k) h =
      let p = placed_at_lem q some few t k h in
      renders_due (refl, k, omega (arith, p.inside), refl, stuck_at k p, λ j l. not_before j k l p)

-- ---- the text

checked_verdict : (c : Check) (o : Outcome) → verdict o ≡ go → verdict (checked c o) ≡ c
unfolding verdict checked
checked_verdict go o e = e
checked_verdict (refuse n values) o e = refl

abbrev grammar_rules : ℕ → List ℕ → Rules
grammar_rules q t =
    placed 16 (suc (length t)) (Stuck q t)
    ▹ rule 17 (ReadSo q t (λ e. most_depth < depth e))
    ▹ rule 18 (ReadSo q t Exceeds)
    ▹ placed 7 q (λ i. ReadSo q t (λ e. coef_limit < nat_abs (coefficient e (suc i))))
    ▹ rule 15 (ReadSo q t (λ e. coef_limit < nat_abs (right_side e)))
    ▹ end

tree_renders : (q : ℕ) (t : List ℕ) → 1 ≤ q → q ≤ 16 → (p : Parse Equation) → read_equation q (length t) t ≡ p
    → Renders (verdict (tree_outcome q t p)) (grammar_rules q t)
unfolding verdict tree_outcome
tree_renders q t some few malformed h = place_renders q t some few h (place q t) refl
tree_renders q t some few (parsed e r) h =
    let reads = (read_reads q (length t) t h).0 in
    rw (checked_verdict (limits q e) (accepted (row q e) (right_side e)) refl)
    (renders_silent (λ i l. not_stuck q t few e reads i) (limits_render q t few e reads))

-- Each refusal is given in its case, in the order of `equation_rules`, and in no other; a text that is in no case is accepted.
pub equation_renders : (q n : ℕ) (t : List ℕ) → Renders (verdict (outcome q n t)) (equation_rules q n t)
unfolding verdict outcome checked refuse_with ◌then◌
equation_renders q n t =
    elim (split most_bytes (length t)) [
      | inl l ↦ rw (lt-ltb most_bytes (length t) l) (renders_due (refl, refl, l))
      | inr l ↦ renders_silent (λ h. omega arith) (elim (split q 1) [
        | inl x ↦ rw (le-ltb most_bytes (length t) l, lt-leb 1 q x) (renders_due (refl, refl, inl x))
        | inr some ↦ elim (split most_unknowns q) [
          | inl x ↦ rw (le-ltb most_bytes (length t) l, le-leb 1 q some, lt-leb q most_unknowns x) (renders_due (refl, refl, inr x))
          | inr few ↦ renders_silent (λ o. elim o [ inl x ↦ omega arith | inr x ↦ omega arith ]) (elim (ℕ_discrete n q) [
            | no ne ↦ rw (le-ltb most_bytes (length t) l, le-leb 1 q some, le-leb q most_unknowns few, ne_eqb n q ne) (renders_due (refl, refl, ne))
            | yes y ↦
                rw (le-ltb most_bytes (length t) l, le-leb 1 q some, le-leb q most_unknowns few, eq-eqb n q y)
                (renders_silent (λ ne. ne y) (tree_renders q t some few (read_equation q (length t) t) refl))
          ])
        ]
      ])
    ]
