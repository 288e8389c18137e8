-- The lines in turn: what one of them leaves in the tables, and what is left to read after it. Assumes nothing.
use Prim.Native.Nat.{ℕ, suc, ◌+◌, ◌*◌, ◌-◌, ◌≤◌, ◌<◌}
use Rattle.std.specs.Prelude.{List, [], ◌∷◌, ◌++◌, ◌≡◌, ℤ, length, take, set}
use Rattle.std.proofs.Common.{append_assoc, ◌∙◌, mul-le-mul, add-one, length-append, length-drop, take_at, take-suc-set, length-take-le}
use Rattle.std.proofs.Math.Path.{ap}
use native.Mathlib.Omega.{arith}
use Rattle.std.proofs.Math.ListN.{drop}
use Rattle.std.proofs.Math.Seq.{drop-drop}
use borrow.Author.Tests.{lt-ltb, le-ltb}
use Rattle.definitions.specs.Answers.{refuse_with}
use Rattle.equation_spec.specs.Outcome as equation
use Rattle.equation_spec.specs.Outcome.{checked, outcome}
use Rattle.equation_read.specs.Answer.{answered, read, refused}
use Rattle.equation_read.specs.AnsweredLaws.{answered_refused, answered_read}
use Rattle.equation_spec.specs.Lines.{line_length, line_of}
use Rattle.equation_spec.specs.Systems.{Rows, rows, refused_at, at_line, line_outcome, read_lines}
use Rattle.equation_systems.specs.Answer.{Shape}

-- ---- one line

-- a row put into its place, after the rows before it
row_in : (b q : ℕ) (old after post : List ℤ) → b + q ≤ length old → length after ≡ q → take (b + q) (take b old ++ (after ++ post)) ≡ take b old ++ after
row_in b q old after post l e =
    rw (← append_assoc (take b old) after post)
    (take_at (take b old ++ after) post (b + q) (length-append (take b old) after ∙ omega (arith, length-take-le b old (omega arith))))

-- the row's part of the table
pub part_whole : (b q : ℕ) (table : List ℤ) → b + q ≤ length table → length (take (b + q - b) (drop b table)) ≡ q
part_whole b q table l =
    let e : b + q - b ≡ q = omega arith in
    rw e (length-take-le q (drop b table) (rw (length-drop b table) (omega arith)))

module _ (q n : ℕ) (zs rs : List ℤ) (line : List ℕ) (part : List ℤ) (whole : length part ≡ q) where
  pub row_refused : {k : ℕ} {values : List ℕ} {after : List ℤ} → refused k values after ≡ answered (outcome q (length part) line) part
      → refused_at n k values ≡ at_line n zs rs (outcome q q line) rows
  row_refused e = let o = rw whole at (answered_refused (outcome q (length part) line) part e) in rw o

  row_accepted : {right : ℤ} {after : List ℤ} → read right after ≡ answered (outcome q (length part) line) part
      → rows (zs ++ after) (rs ++ (right ∷ [])) ≡ at_line n zs rs (outcome q q line) rows
  row_accepted e = let o = rw whole at (answered_read (outcome q (length part) line) part e) in rw o

pub row_read : (q i n : ℕ) (coefs rights : List ℤ) (line : List ℕ) (part after post : List ℤ) (right : ℤ) → i * q + q ≤ length coefs → i < length rights
    → length part ≡ q
    → length after ≡ length part → read right after ≡ answered (outcome q (length part) line) part
    → rows (take (i * q + q) (take (i * q) coefs ++ (after ++ post))) (take (i + 1) (set rights i right))
    ≡ at_line n (take (i * q) coefs) (take i rights) (outcome q q line) rows
row_read q i n coefs rights line part after post right l m whole same e =
    rw (row_in (i * q) q coefs after post l (same ∙ whole), add-one i, take-suc-set rights i right m)
    (row_accepted q n (take (i * q) coefs) (take i rights) line part whole e)

-- ---- the lines: of p lines, i were read, and `at` is where the next begins

pub row_inside : {p q n m : ℕ} (i : ℕ) → Shape p q n m → i < p → i * q + q ≤ n
row_inside {p} {q} i s l = omega (arith, s.entries, mul-le-mul {n₁ = i + 1} {m₁ = q} {n₂ = 8} {m₂ = 16} (omega (arith, s.equations)) s.unknowns)

pub rows_inside : {p q n m : ℕ} → Shape p q n m → p * q ≤ 128
rows_inside s = mul-le-mul s.equations s.unknowns

-- what follows a line does not matter where it is refused, and is reached where it is read
still_refused : (n : ℕ) (zs rs : List ℤ) (o : equation.Outcome) (f : List ℤ → List ℤ → Rows) {k : ℕ} {values : List ℕ}
    → refused_at n k values ≡ at_line n zs rs o rows
    → refused_at n k values ≡ at_line n zs rs o f
still_refused n zs rs (equation.accepted row right) f h = absurd (let z : ◌≡◌ {A = ℕ} 0 1 = cc in omega arith)
still_refused n zs rs (equation.refused j own) f h = h

goes_on : (n : ℕ) (zs rs : List ℤ) (o : equation.Outcome) (f : List ℤ → List ℤ → Rows) {ys ss : List ℤ} → rows ys ss ≡ at_line n zs rs o rows
    → f ys ss ≡ at_line n zs rs o f
goes_on n zs rs (equation.accepted row right) f {ys} {ss} h = let a : ys ≡ zs ++ row = cc in let b : ss ≡ rs ++ (right ∷ []) = cc in rw (a, b)
goes_on n zs rs (equation.refused j own) f h = absurd (let z : ◌≡◌ {A = ℕ} 0 1 = cc in omega arith)

module _ (p q i : ℕ) (zs rs : List ℤ) (t : List ℕ) (at end : ℕ) (l : i < p) (inside : at ≤ length t) (e : end ≡ at + line_length (drop at t)) where
  left : p - i ≡ suc (p - (i + 1))
  left = omega arith

  pub lines_unended : length t ≤ end → refused_at (i + 1) 9 [] ≡ read_lines (p - i) q (i + 1) zs rs (drop at t)
  unfolding read_lines line_outcome checked refuse_with
  lines_unended m = rw (left, le-ltb (line_length (drop at t)) (length (drop at t)) (rw (length-drop at t) (omega arith)))

  ended : end < length t → line_outcome q (drop at t) ≡ outcome q q (line_of (drop at t))
  unfolding line_outcome checked refuse_with
  ended m = rw (lt-ltb (line_length (drop at t)) (length (drop at t)) (rw (length-drop at t) (omega arith)))

  line_is : take (end - at) (drop at t) ≡ line_of (drop at t)
  line_is = let k : end - at ≡ line_length (drop at t) = omega arith in rw k

  pub lines_refused : {k : ℕ} {values : List ℕ} → end < length t
      → refused_at (i + 1) k values ≡ at_line (i + 1) zs rs (outcome q q (take (end - at) (drop at t))) rows
      → refused_at (i + 1) k values ≡ read_lines (p - i) q (i + 1) zs rs (drop at t)
  unfolding read_lines
  lines_refused m h = rw (left, ended m) (still_refused (i + 1) zs rs (outcome q q (line_of (drop at t))) _ (rw line_is at h))

  pub lines_read : (cs ss : List ℤ) → end < length t
      → rows (take (i * q + q) cs) (take (i + 1) ss) ≡ at_line (i + 1) zs rs (outcome q q (take (end - at) (drop at t))) rows
      → read_lines (p - (i + 1)) q (i + 1 + 1) (take ((i + 1) * q) cs) (take (i + 1) ss) (drop (end + 1) t) ≡ read_lines (p - i) q (i + 1) zs rs (drop at t)
  unfolding read_lines
  lines_read cs ss m h =
      let n : i + 1 + 1 ≡ suc (i + 1) = omega arith in
      let b : (i + 1) * q ≡ i * q + q = omega arith in
      let k : at + suc (line_length (drop at t)) ≡ end + 1 = omega arith in
      let d : drop (suc (line_length (drop at t))) (drop at t) ≡ drop (end + 1) t = drop-drop (suc (line_length (drop at t))) at t ∙ ap (λ x. drop x t) k in
      rw (left, n, b, ended m, d) (goes_on (i + 1) zs rs (outcome q q (line_of (drop at t))) _ (rw line_is at h))

pub lines_end : (p q i : ℕ) (cs ss : List ℤ) (t : List ℕ) → i ≤ p → p ≤ i
    → rows (take (p * q) cs) (take p ss) ≡ read_lines (p - i) q (i + 1) (take (i * q) cs) (take i ss) t
unfolding read_lines
lines_end p q i cs ss t l m = let s : p - i ≡ 0 = omega arith in let n : i ≡ p = omega arith in rw (s, n)
