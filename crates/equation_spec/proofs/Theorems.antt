-- Request 3: "The text is accepted exactly when the grammar has a reading within the limits, and the row equals that reading's meaning.":
-- `read_exactly`, at the end; its two directions before it. Assumes nothing.
use Rattle.std.specs.Prelude.{ℕ, suc, ◌≤◌, ◌<◌, false, not, ◌&&◌, ◌||◌, List, ◌≡◌, refl, ℤ, nat_abs, length}
use Rattle.std.proofs.Common.{arith, le-ltb, le-leb, eq-eqb, ltb-false, eqb-true}
use lib.Dec.{ltb, leb, eqb, ltb→lt, leb→le}
use Rattle.std.proofs.lemmas.Bool.{not-false}
use Rattle.linear.proofs.TestLaws.{and_parts}
use Rattle.definitions.specs.Answers.{Check, refuse, go, refuse_with, refuse_if, refuse_first, ◌then◌}
use Rattle.definitions.specs.System.{coef_limit, most_unknowns}
use Rattle.definitions.specs.Refusals.{out_of_range}
use Rattle.laws.proofs.AnswerLaws.{then_go, refuse_if_go}
use Rattle.laws.specs.CheckLaws.{Decides, placed}
use Rattle.laws.proofs.CheckLaws.{decides_first}
use Rattle.texts.specs.Reading.{most_bytes, Parse, parsed, malformed}
use Rattle.equation_spec.specs.Grammar.{Equation, Reads}
use Rattle.equation_spec.specs.Meaning.{coefficient, right_side, sum_exceeds}
use Rattle.equation_spec.specs.Reader.{read_equation}
use Rattle.equation_spec.specs.Outcome.{Outcome, accepted, refused, checked, most_depth, row, limits, tree_outcome, outcome}
use Rattle.equation_spec.proofs.Agreement.{depth, read_any, read_reads, unambiguous}

-- the caller's part: 10, 2 and 3 are not due
pub record Called (q n : ℕ) (t : List ℕ) : Type 0 where
  pub short : length t ≤ most_bytes
  pub some : 1 ≤ q
  pub few : q ≤ most_unknowns
  pub whole : n ≡ q

-- the limits: 17, 18, 7 and 15 are not due
pub record Within (q : ℕ) (e : Equation) : Type 0 where
  pub shallow : depth e ≤ most_depth
  pub multipliers : (sum_exceeds e.left 1 || sum_exceeds e.right 1) ≡ false
  pub range : (i : ℕ) → i < q → nat_abs (coefficient e (suc i)) ≤ coef_limit
  pub right : nat_abs (right_side e) ≤ coef_limit

-- e is a reading of the text within the limits
pub record ReadAs (q n : ℕ) (t : List ℕ) (e : Equation) : Type 0 where
  pub called : Called q n t
  pub reads : Reads q e t
  pub within : Within q e

not_accepted : {P : Type 0} {n : ℕ} {values : List ℕ} {zs : List ℤ} {z : ℤ} → refused n values ≡ accepted zs z → P
not_accepted e = absurd (let z : ◌≡◌ {A = ℕ} 0 1 = cc in omega arith)

passed : (c : Check) (o : Outcome) {zs : List ℤ} {z : ℤ} → checked c o ≡ accepted zs z → (c ≡ go) × (o ≡ accepted zs z)
unfolding checked
passed (refuse n values) o e = not_accepted e
passed go o e = (refl, e)

pub range_decides : (q : ℕ) (e : Equation)
    → Decides (refuse_first 7 q (λ i. out_of_range (coefficient e (suc i)))) (placed 7 q (λ i. coef_limit < nat_abs (coefficient e (suc i))))
range_decides q e =
    decides_first 7 q (λ i. out_of_range (coefficient e (suc i))) (λ i. coef_limit < nat_abs (coefficient e (suc i)))
    (λ i l. ltb→lt coef_limit (nat_abs (coefficient e (suc i)))) (λ i l. lib.Dec.lt→ltb coef_limit (nat_abs (coefficient e (suc i))))

limits_go : (q : ℕ) (e : Equation) → limits q e ≡ go → Within q e
unfolding limits
limits_go q e h =
    let (a, h₁) = then_go (refuse_if (ltb most_depth (depth e)) 17) _ h in
    let (b, h₂) = then_go (refuse_if (sum_exceeds e.left 1 || sum_exceeds e.right 1) 18) _ h₁ in
    let (c, d) = then_go (refuse_first 7 q (λ i. out_of_range (coefficient e (suc i)))) _ h₂ in
    record {
      shallow = ltb-false most_depth (depth e) (refuse_if_go _ 17 a);
      multipliers = refuse_if_go _ 18 b;
      range = λ i l. omega (arith, (range_decides q e).goes c i l);
      right = ltb-false coef_limit (nat_abs (right_side e)) (refuse_if_go _ 15 d);
    }

within_go : (q : ℕ) (e : Equation) → Within q e → limits q e ≡ go
unfolding limits ◌then◌ refuse_with
within_go q e w =
    rw (
      le-ltb most_depth (depth e) w.shallow,
      w.multipliers,
      (range_decides q e).silent (λ i l h. omega (arith, w.range i l)),
      le-ltb coef_limit (nat_abs (right_side e)) w.right,
    )

tree_accepted : (q : ℕ) (t : List ℕ) (p : Parse Equation) {zs : List ℤ} {z : ℤ} → read_equation q (length t) t ≡ p → tree_outcome q t p ≡ accepted zs z
    → (e : Equation) × Reads q e t × Within q e × (zs ≡ row q e) × (z ≡ right_side e)
unfolding tree_outcome
tree_accepted q t (parsed e r) x h =
    let (a, b) = passed (limits q e) (accepted (row q e) (right_side e)) h in
    (e, (read_reads q (length t) t x).0, limits_go q e a, cc, cc)
tree_accepted q t malformed x h = not_accepted h

-- An accepted text has a reading within the limits, and the row and the right side are its meaning.
pub accepted_is_read : (q n : ℕ) (t : List ℕ) {zs : List ℤ} {z : ℤ} → outcome q n t ≡ accepted zs z
    → (e : Equation) × ReadAs q n t e × (zs ≡ row q e) × (z ≡ right_side e)
unfolding outcome
accepted_is_read q n t h =
    let (c, o) = passed _ (tree_outcome q t (read_equation q (length t) t)) h in
    let (a, c₁) = then_go (refuse_if (ltb most_bytes (length t)) 10) _ c in
    let (b, d) = then_go (refuse_if (not (leb 1 q && leb q most_unknowns)) 2) _ c₁ in
    let (x, y) = and_parts (leb 1 q) (leb q most_unknowns) (rw (not-false (leb 1 q && leb q most_unknowns) (refuse_if_go _ 2 b)) tt) in
    let (e, reads, within, u, v) = tree_accepted q t (read_equation q (length t) t) refl o in (
      e,
      record {
        called =
            record {
              short = ltb-false most_bytes (length t) (refuse_if_go _ 10 a);
              some = leb→le 1 q x;
              few = leb→le q most_unknowns y;
              whole = eqb-true n q (not-false (eqb n q) (refuse_if_go _ 3 d));
            };
        reads = reads;
        within = within;
      },
      u,
      v,
    )

-- A text with a reading within the limits is accepted as that reading's meaning.
pub read_is_accepted : (q n : ℕ) (t : List ℕ) (e : Equation) → ReadAs q n t e → outcome q n t ≡ accepted (row q e) (right_side e)
unfolding outcome tree_outcome checked ◌then◌ refuse_with
read_is_accepted q n t e r =
    let c = r.called in
    rw (
      le-ltb most_bytes (length t) c.short,
      le-leb 1 q c.some,
      le-leb q most_unknowns c.few,
      eq-eqb n q c.whole,
      read_any q e t c.few r.reads,
      within_go q e r.within,
    )

-- zs and z are the meaning of a reading of the text within the limits
abbrev pub MeansWithin : ℕ → ℕ → List ℕ → List ℤ → ℤ → Type 0
MeansWithin q n t zs z = (e : Equation) × ReadAs q n t e × (zs ≡ row q e) × (z ≡ right_side e)

-- Both directions: "The text is accepted exactly when the grammar has a reading within the limits, and the row equals that reading's meaning."
pub record ReadExactly (q n : ℕ) (t : List ℕ) : Type 0 where
  -- where the text is accepted, the grammar has a reading within the limits, and row and right side are its meaning
  pub only_readings : (zs : List ℤ) (z : ℤ) → outcome q n t ≡ accepted zs z → MeansWithin q n t zs z
  -- where the grammar has such a reading, the text is accepted, as its meaning
  pub all_readings : (zs : List ℤ) (z : ℤ) → MeansWithin q n t zs z → outcome q n t ≡ accepted zs z
  -- "that reading": there is no other
  pub one_reading : (e f : Equation) → ReadAs q n t e → ReadAs q n t f → e ≡ f

pub read_exactly : (q n : ℕ) (t : List ℕ) → ReadExactly q n t
read_exactly q n t =
    record {
      only_readings = λ zs z. accepted_is_read q n t;
      all_readings = λ zs z (e, r, u, v). rw (u, v) (read_is_accepted q n t e r);
      one_reading = λ e f r s. unambiguous q e f t r.called.few r.reads s.reads;
    }
