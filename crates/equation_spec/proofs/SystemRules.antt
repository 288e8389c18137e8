-- When a system of several lines is accepted and when it is refused, in words and order, and that the definition answers so. Assumes nothing.
use Prim.Native.Nat.{ℕ, zero, suc, ◌+◌, ◌<◌}
use mathlib.Core.List.{List, [], ◌∷◌, ◌++◌, append_assoc, append-nil}
use Rattle.std.specs.Prelude.{◌⊎◌, ◌≡◌, refl, ltb, ℤ, length}
use Rattle.std.proofs.Math.Logic.{inl, inr}
use Rattle.std.proofs.Common.{sym, ◌∙◌, ltb→lt, lt→ltb}
use native.Mathlib.Omega.{arith}
use Rattle.definitions.specs.Answers.{Check, refuse, go}
use Rattle.definitions.specs.System.{most_equations, most_unknowns}
use Rattle.laws.specs.CheckLaws.{Rules, ◌▹◌, end, rule, AllSilent, FirstDue, Renders}
use Rattle.laws.proofs.CheckLaws.{decides_if, renders_last, renders_then}
use Rattle.laws.specs.RefusalLaws.{Outside}
use Rattle.laws.proofs.RefusalLaws.{decides_outside}
use Rattle.texts.specs.Reading.{most_bytes}
use Rattle.equation_spec.specs.Outcome as equation
use Rattle.equation_spec.specs.Lines.{after_line, after_lines, line_count}
use Rattle.equation_spec.specs.Systems.{line_outcome, Rows, rows, refused_at, at_line, read_lines, Outcome}
use Rattle.equation_spec.specs.Systems.{accepted, refused, of_rows, unless, system_checks, system_outcome, table_checks}

-- ---- the cases

-- the first k lines of the text are accepted; zs are their rows one after the other, and rs their right sides
pub data Accepts (q : ℕ) : ℕ → List ℕ → List ℤ → List ℤ → Type 0 where
  no_line : {t : List ℕ} → Accepts q 0 t [] []
  line : {k : ℕ} {t : List ℕ} {row zs rs : List ℤ} {right : ℤ} → line_outcome q t ≡ equation.accepted row right → Accepts q k (after_line t) zs rs
      → Accepts q (suc k) t (row ++ zs) (right ∷ rs)

-- line i, from 0, is accepted
abbrev pub LineAccepted : ℕ → List ℕ → ℕ → Type 0
LineAccepted q t i = (row : List ℤ) × (right : ℤ) × (line_outcome q (after_lines i t) ≡ equation.accepted row right)

-- what is refused names the line: of k lines the first that is not accepted is line i, from 0, and its own refusal is n with the values `own`
pub record BadAt (q k : ℕ) (t : List ℕ) (i n : ℕ) (own : List ℕ) : Type 0 where
  pub there : i < k
  pub bad : line_outcome q (after_lines i t) ≡ equation.refused n own
  pub before : (j : ℕ) → j < i → LineAccepted q t j

-- it comes with the number of the line, from 1, and then with the values of its own
abbrev pub FirstBad : ℕ → List ℕ → ℕ → List ℕ → Type 0
FirstBad q t n values = (i : ℕ) × (own : List ℕ) × (values ≡ suc i ∷ own) × BadAt q (line_count t) t i n own

-- before the lines: 10; 1, more than 8 lines or none; 2
abbrev pub system_rules : ℕ → List ℕ → Rules
system_rules q t =
    rule 10 (most_bytes < length t)
    ▹ rule 1 (Outside 1 most_equations (line_count t))
    ▹ rule 2 (Outside 1 most_unknowns q)
    ▹ end

-- after them: 29, a table is too short for the coefficients, or for the right sides
abbrev pub table_rules : List ℤ → List ℤ → List ℤ → List ℤ → Rules
table_rules zs rs coefs rights =
    rule 29 (length coefs < length zs)
    ▹ rule 29 (length rights < length rs)
    ▹ end

-- Each refusal of a system in its case and in no other; and a system is accepted exactly where none is in its case.
pub record SystemAnswers (q : ℕ) (t : List ℕ) : Type 0 where
  pub refuses : (n : ℕ) (values : List ℕ) → system_outcome q t ≡ refused n values
      → FirstDue (system_rules q t) n values ⊎ (AllSilent (system_rules q t) × FirstBad q t n values)
  pub due : (n : ℕ) (values : List ℕ) → FirstDue (system_rules q t) n values ⊎ (AllSilent (system_rules q t) × FirstBad q t n values)
      → system_outcome q t ≡ refused n values
  pub accepts : (p : ℕ) (zs rs : List ℤ) → system_outcome q t ≡ accepted p zs rs → AllSilent (system_rules q t) × (p ≡ line_count t) × Accepts q p t zs rs
  pub accepted_due : (zs rs : List ℤ) → AllSilent (system_rules q t) → Accepts q (line_count t) t zs rs → system_outcome q t ≡ accepted (line_count t) zs rs

-- ---- the lines

lines_accept : (k q n : ℕ) (zs rs : List ℤ) (t : List ℕ) {ys ss : List ℤ} → read_lines k q n zs rs t ≡ rows ys ss
    → (xs : List ℤ) × (ds : List ℤ) × Accepts q k t xs ds × (ys ≡ zs ++ xs) × (ss ≡ rs ++ ds)
unfolding read_lines
lines_accept zero q n zs rs t e = ([], [], no_line, cc (append-nil zs), cc (append-nil rs))
lines_accept (suc k) q n zs rs t {ys} {ss} e = by (line_outcome q t) refl e (λ zs rs. lines_accept k q (suc n) zs rs (after_line t) {ys = ys} {ss = ss})
  where
    by : (o : equation.Outcome) → line_outcome q t ≡ o → at_line n zs rs o (λ zs rs. read_lines k q (suc n) zs rs (after_line t)) ≡ rows ys ss
        → ((zs rs : List ℤ) → read_lines k q (suc n) zs rs (after_line t) ≡ rows ys ss
        → (xs : List ℤ) × (ds : List ℤ) × Accepts q k (after_line t) xs ds × (ys ≡ zs ++ xs) × (ss ≡ rs ++ ds))
        → (xs : List ℤ) × (ds : List ℤ) × Accepts q (suc k) t xs ds × (ys ≡ zs ++ xs) × (ss ≡ rs ++ ds)
    by (equation.refused j values) h x ih = absurd (let z : ◌≡◌ {A = ℕ} 0 1 = cc in omega arith)
    by (equation.accepted row right) h x ih =
        let (xs, ds, a, u, v) = ih (zs ++ row) (rs ++ (right ∷ [])) x in
        (row ++ xs, right ∷ ds, line h a, u ∙ append_assoc zs row xs, v ∙ append_assoc rs (right ∷ []) ds)

accept_lines : (q n : ℕ) (zs rs : List ℤ) {k : ℕ} {t : List ℕ} {xs ds : List ℤ} → Accepts q k t xs ds → read_lines k q n zs rs t ≡ rows (zs ++ xs) (rs ++ ds)
unfolding read_lines
accept_lines q n zs rs no_line = rw (append-nil zs, append-nil rs)
accept_lines q n zs rs (line {row = row} {zs = xs} {rs = ds} {right = right} h a) =
    rw h (accept_lines q (suc n) (zs ++ row) (rs ++ (right ∷ [])) a ∙ rw (append_assoc zs row xs, append_assoc rs (right ∷ []) ds))

-- a line before others
bad_after : {q k : ℕ} {t : List ℕ} {row : List ℤ} {right : ℤ} {i n : ℕ} {own : List ℕ} → line_outcome q t ≡ equation.accepted row right
    → BadAt q k (after_line t) i n own
    → BadAt q (suc k) t (suc i) n own
unfolding after_lines
bad_after {q} {k} {t} {row} {right} {i} h b = record { there = omega (arith, b.there); bad = b.bad; before = before }
  where
    before : (j : ℕ) → j < suc i → LineAccepted q t j
    before zero m = (row, right, h)
    before (suc j) m = b.before j (omega arith)

bad_first : {q k n : ℕ} {t own : List ℕ} → line_outcome q t ≡ equation.refused n own → BadAt q (suc k) t 0 n own
unfolding after_lines
bad_first h = record { there = omega arith; bad = h; before = λ j l. absurd (omega arith) }

lines_refuse : (k q n : ℕ) (zs rs : List ℤ) (t : List ℕ) {m j : ℕ} {own : List ℕ} → read_lines k q n zs rs t ≡ refused_at m j own
    → (i : ℕ) × (m ≡ n + i) × BadAt q k t i j own
unfolding read_lines
lines_refuse zero q n zs rs t e = absurd (let z : ◌≡◌ {A = ℕ} 0 1 = cc in omega arith)
lines_refuse (suc k) q n zs rs t {m} {j} {own} e =
    by (line_outcome q t) refl e (λ zs rs. lines_refuse k q (suc n) zs rs (after_line t) {m = m} {j = j} {own = own})
  where
    by : (o : equation.Outcome) → line_outcome q t ≡ o → at_line n zs rs o (λ zs rs. read_lines k q (suc n) zs rs (after_line t)) ≡ refused_at m j own
        → ((zs rs : List ℤ) → read_lines k q (suc n) zs rs (after_line t) ≡ refused_at m j own → (i : ℕ) × (m ≡ suc n + i) × BadAt q k (after_line t) i j own)
        → (i : ℕ) × (m ≡ n + i) × BadAt q (suc k) t i j own
    by (equation.refused r values) h x ih =
        let a : n ≡ m = cc in let b : equation.refused r values ≡ equation.refused j own = cc in
        (0, sym a ∙ omega arith, bad_first (h ∙ b))
    by (equation.accepted row right) h x ih =
        let (i, a, b) = ih (zs ++ row) (rs ++ (right ∷ [])) x in
        (suc i, a ∙ omega arith, bad_after h b)

refuse_lines : (k q n : ℕ) (zs rs : List ℤ) (t : List ℕ) (i : ℕ) {j : ℕ} {own : List ℕ} → BadAt q k t i j own
    → read_lines k q n zs rs t ≡ refused_at (n + i) j own
unfolding read_lines after_lines
refuse_lines zero q n zs rs t i b = absurd (omega (arith, b.there))
refuse_lines (suc k) q n zs rs t zero b = let e : n + 0 ≡ n = omega arith in rw (b.bad, e)
refuse_lines (suc k) q n zs rs t (suc i) {j} {own} b =
    let (row, right, h) = b.before 0 (omega arith) in
    let e : n + suc i ≡ suc n + i = omega arith in
    rw (h, e) (refuse_lines k q (suc n) (zs ++ row) (rs ++ (right ∷ [])) (after_line t) i
    (record { there = omega (arith, b.there); bad = b.bad; before = λ x l. b.before (suc x) (omega arith) }))

-- ---- the system

checks_render : (q : ℕ) (t : List ℕ) → Renders (system_checks q t) (system_rules q t)
unfolding system_checks
checks_render q t =
    renders_then (decides_if (ltb most_bytes (length t)) 10 _ (ltb→lt most_bytes (length t)) (lt→ltb most_bytes (length t)))
    (renders_then (decides_outside 1 1 most_equations (line_count t)) (renders_last (decides_outside 2 1 most_unknowns q)))

-- 29 in its case and in no other
pub tables_render : (zs rs coefs rights : List ℤ) → Renders (table_checks zs rs coefs rights) (table_rules zs rs coefs rights)
unfolding table_checks
tables_render zs rs coefs rights =
    renders_then (decides_if (ltb (length coefs) (length zs)) 29 _ (ltb→lt (length coefs) (length zs)) (lt→ltb (length coefs) (length zs)))
    (renders_last (decides_if (ltb (length rights) (length rs)) 29 _ (ltb→lt (length rights) (length rs)) (lt→ltb (length rights) (length rs))))

unless_refused : (c : Check) (o : Outcome) {n : ℕ} {values : List ℕ} → unless c o ≡ refused n values
    → (c ≡ refuse n values) ⊎ ((c ≡ go) × (o ≡ refused n values))
unfolding unless
unless_refused (refuse k ws) o e = inl (cc)
unless_refused go o e = inr (refl, e)

unless_accepted : (c : Check) (o : Outcome) {p : ℕ} {zs rs : List ℤ} → unless c o ≡ accepted p zs rs → (c ≡ go) × (o ≡ accepted p zs rs)
unfolding unless
unless_accepted (refuse k ws) o e = absurd (let z : ◌≡◌ {A = ℕ} 0 1 = cc in omega arith)
unless_accepted go o e = (refl, e)

rows_refused : (p : ℕ) (r : Rows) {n : ℕ} {values : List ℕ} → of_rows p r ≡ refused n values
    → (m : ℕ) × (own : List ℕ) × (r ≡ refused_at m n own) × (values ≡ m ∷ own)
unfolding of_rows
rows_refused p (rows zs rs) e = absurd (let z : ◌≡◌ {A = ℕ} 0 1 = cc in omega arith)
rows_refused p (refused_at m k own) {n} {values} e = let a : k ≡ n = cc in (m, own, rw a, cc)

rows_accepted : (p : ℕ) (r : Rows) {k : ℕ} {zs rs : List ℤ} → of_rows p r ≡ accepted k zs rs → (k ≡ p) × (r ≡ rows zs rs)
unfolding of_rows
rows_accepted p (rows ys ss) e = (cc, cc)
rows_accepted p (refused_at m k own) e = absurd (let z : ◌≡◌ {A = ℕ} 0 1 = cc in omega arith)

moved : {q p k : ℕ} {t : List ℕ} {zs rs xs ds : List ℤ} → p ≡ k → zs ≡ xs → rs ≡ ds → Accepts q k t xs ds → Accepts q p t zs rs
moved a u v x = rw (a, u, v) x

module _ (q : ℕ) (t : List ℕ) where
  abbrev read : Rows
  read = read_lines (line_count t) q 1 [] [] t

  system_refuses : (n : ℕ) (values : List ℕ) → system_outcome q t ≡ refused n values
      → FirstDue (system_rules q t) n values ⊎ (AllSilent (system_rules q t) × FirstBad q t n values)
  unfolding system_outcome
  system_refuses n values e =
      elim (unless_refused (system_checks q t) (of_rows (line_count t) read) e) [
        | inl h ↦ inl ((checks_render q t).refuses n values h)
        | inr (h, o) ↦
            let (m, own, a, b) = rows_refused (line_count t) read o in
            let (i, c, bad) = lines_refuse (line_count t) q 1 [] [] t a in
            let d : m ≡ suc i = c ∙ omega arith in
            inr ((checks_render q t).goes h, (i, own, rw d at b, bad))
      ]

  system_due : (n : ℕ) (values : List ℕ) → FirstDue (system_rules q t) n values ⊎ (AllSilent (system_rules q t) × FirstBad q t n values)
      → system_outcome q t ≡ refused n values
  unfolding system_outcome unless of_rows
  system_due n values (inl h) = rw ((checks_render q t).due n values h)
  system_due n values (inr (s, (i, own, e, b))) =
      let d : 1 + i ≡ suc i = omega arith in
      rw ((checks_render q t).silent s, refuse_lines (line_count t) q 1 [] [] t i b, e, d)

  system_accepts : (p : ℕ) (zs rs : List ℤ) → system_outcome q t ≡ accepted p zs rs → AllSilent (system_rules q t) × (p ≡ line_count t) × Accepts q p t zs rs
  unfolding system_outcome
  system_accepts p zs rs e =
      let (h, o) = unless_accepted (system_checks q t) (of_rows (line_count t) read) e in
      let (a, b) = rows_accepted (line_count t) read o in
      let (xs, ds, x, u, v) = lines_accept (line_count t) q 1 [] [] t b in
      ((checks_render q t).goes h, a, moved a u v x)

  system_accepted : (zs rs : List ℤ) → AllSilent (system_rules q t) → Accepts q (line_count t) t zs rs → system_outcome q t ≡ accepted (line_count t) zs rs
  unfolding system_outcome unless of_rows
  system_accepted zs rs s x = rw ((checks_render q t).silent s, accept_lines q 1 [] [] x)

  pub system_answers : SystemAnswers q t
  system_answers = record { refuses = system_refuses; due = system_due; accepts = system_accepts; accepted_due = system_accepted }
