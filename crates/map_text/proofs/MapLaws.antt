-- A text is accepted exactly if it is the written form of a map in range. Assumes nothing.
use Rattle.std.specs.Prelude.{ℕ, zero, suc, ◌≤◌, ◌<◌, false, ◌&&◌, List, [], ◌∷◌, ◌≡◌, refl, leb, ltb, ℤ, pos, negsuc, nat_abs, length, get_or}
use Rattle.std.proofs.Common.{sym, ap, ◌∙◌, mul-le-mul, arith, lt→ltb, ltb→lt, leb→le, length-append, le-leb}
use Rattle.std.proofs.lemmas.Bool.{not-false}
use Rattle.linear.proofs.TestLaws.{and_parts}
use Rattle.definitions.specs.Answers.{Check, refuse, go, refuse_if, ◌then◌}
use Rattle.definitions.specs.Input.{Input, input_of}
use Rattle.definitions.specs.System.{most_equations, most_unknowns, coef_limit}
use Rattle.definitions.specs.Refusals.{out_of_range, check7}
use Rattle.laws.proofs.AnswerLaws.{then_go, refuse_if_go}
use Rattle.laws.specs.CheckLaws.{Decides, placed}
use Rattle.laws.proofs.CheckLaws.{decides_first}
use Rattle.texts.specs.Reading.{most_bytes, Parse, parsed, malformed}
use Rattle.map_spec.specs.Form.{ShortNumbers, line, lines, written, CoefsInRange, MapInRange}
use Rattle.map_spec.specs.Reading.{read_line, Rows, rows, malformed_at, Reading, accepted, refused, checked, outside, accept_rows, read_body, after_first}
use Rattle.map_spec.specs.Reading.{read_map}
use Rattle.map_text.proofs.ReadLaws.{line_read, rows_read}
use Rattle.map_text.proofs.WriteLaws.{line_back, rows_back, line_short, lines_short}
use Rattle.map_text.proofs.StageLaws.{counts_within, first_parsed}

-- ---- what was accepted

not_accepted : {P : Type 0} {n p q : ℕ} {values : List ℕ} {coefs : List ℤ} → refused n values ≡ accepted p q coefs → P
not_accepted e = absurd (let z : ◌≡◌ {A = ℕ} 0 1 = cc in omega arith)

checks_passed : (c : Check) (r : Reading) {p q : ℕ} {coefs : List ℤ} → checked c r ≡ accepted p q coefs → (c ≡ go) × (r ≡ accepted p q coefs)
unfolding checked
checks_passed (refuse n values) r e = not_accepted e
checks_passed go r e = (refl, e)

-- a count in range
pub record Counted (b : ℕ) (z : ℤ) : Type 0 where
  pub natural : z ≡ pos (nat_abs z)
  pub some : 1 ≤ nat_abs z
  pub few : nat_abs z ≤ b

counted : (b : ℕ) (z : ℤ) → outside b z ≡ false → Counted b z
counted b (pos n) e =
    let (l, m) = and_parts (leb 1 n) (leb n b) (rw (not-false (leb 1 n && leb n b) e) tt) in
    record { natural = refl; some = leb→le 1 n l; few = leb→le n b m }
counted b (negsuc n) e = absurd (let z : ◌≡◌ {A = ℕ} 0 1 = cc in omega arith)

-- what refusal 7 decides
pub range_decides : (m : Input) → Decides (check7 m) (placed 7 (length m.coefs) (λ i. coef_limit < nat_abs (get_or m.coefs i (pos 0))))
unfolding check7
range_decides m =
    let size : ℕ → ℕ = λ i. nat_abs (get_or m.coefs i (pos 0)) in
    decides_first 7 (length m.coefs) (λ i. out_of_range (get_or m.coefs i (pos 0))) (λ i. coef_limit < size i) (λ i l. ltb→lt coef_limit (size i))
    (λ i l. lt→ltb coef_limit (size i))

coefs_small : (m : Input) → check7 m ≡ go → CoefsInRange m.coefs
coefs_small m e i l = let none = (range_decides m).goes e i l in omega arith

small_coefs : (m : Input) → CoefsInRange m.coefs → check7 m ≡ go
small_coefs m f = (range_decides m).silent (λ i l h. let m = f i l in omega arith)

rows_accepted : (p q : ℕ) (r : Rows) {p' q' : ℕ} {coefs : List ℤ} → accept_rows p q r ≡ accepted p' q' coefs
    → (p ≡ p') × (q ≡ q') × (r ≡ rows coefs) × (check7 (input_of p q coefs) ≡ go)
unfolding accept_rows
rows_accepted p q (rows zs) {p'} {q'} {coefs} e =
    let (g, h) = checks_passed (check7 (input_of p q zs)) (accepted p q zs) e in
    let c : zs ≡ coefs = cc in
    (cc, cc, cc, rw c at g)
rows_accepted p q (malformed_at n) e = not_accepted e

body_accepted : (a b : ℤ) (t : List ℕ) {p q : ℕ} {coefs : List ℤ} → read_body a b t ≡ accepted p q coefs
    → (a ≡ pos p) × (b ≡ pos q) × (t ≡ lines p q coefs) × MapInRange p q coefs
unfolding read_body
body_accepted a b t {p} {q} {coefs} e =
    let (g, h) = checks_passed (refuse_if (outside most_equations a) 1 then refuse_if (outside most_unknowns b) 2) _ e in
    let (g1, g2) = then_go (refuse_if (outside most_equations a) 1) _ g in
    let x = counted most_equations a (refuse_if_go _ 1 g1) in
    let y = counted most_unknowns b (refuse_if_go _ 2 g2) in
    let (i, j, k, c) = rows_accepted (nat_abs a) (nat_abs b) _ h in
    let r = rows_read (nat_abs a) (nat_abs b) 2 [] t k in (
      x.natural ∙ ap pos i,
      y.natural ∙ ap pos j,
      cc (r.text, r.after),
      record {
        p_some = rw i at x.some;
        p_few = rw i at x.few;
        q_some = rw j at y.some;
        q_few = rw j at y.few;
        count = cc (r.count, r.after);
        range = coefs_small _ c;
      },
    )

-- a list of two
pub two : (zs : List ℤ) → length zs ≡ 2 → zs ≡ get_or zs 0 (pos 0) ∷ get_or zs 1 (pos 0) ∷ []
two [] e = absurd (omega arith)
two (x ∷ []) e = absurd (omega arith)
two (x ∷ y ∷ []) e = refl
two (x ∷ y ∷ z ∷ zs) e = absurd (omega arith)

first_accepted : (r : Parse (List ℤ)) {p q : ℕ} {coefs : List ℤ} → after_first r ≡ accepted p q coefs
    → (zs : List ℤ) × (t : List ℕ) × (r ≡ parsed zs t) × (read_body (get_or zs 0 (pos 0)) (get_or zs 1 (pos 0)) t ≡ accepted p q coefs)
first_accepted (parsed zs t) e = (zs, t, refl, e)
first_accepted malformed e = not_accepted e

-- An accepted text is the written form of the map that it gives, and that is in range:
-- "a line "p q", then p lines of q numbers, single spaces, each line ended by a newline, nothing after."
pub accepted_written : (t : List ℕ) {p q : ℕ} {coefs : List ℤ} → read_map t ≡ accepted p q coefs → (t ≡ written p q coefs) × MapInRange p q coefs
unfolding read_map written
accepted_written t {p} {q} {coefs} e =
    let (g, h) = checks_passed (refuse_if (ltb most_bytes (length t)) 10) (after_first (read_line 2 [] t)) e in
    let (zs, s, k, b) = first_accepted (read_line 2 [] t) h in
    let (m, n, x, y) = body_accepted (get_or zs 0 (pos 0)) (get_or zs 1 (pos 0)) s b in
    let l = line_read 2 [] t k in
    let f : l.numbers ≡ pos p ∷ pos q ∷ [] = cc (two zs (ap length l.after ∙ l.count), l.after) in
    (l.text ∙ cc, y)

-- ---- what is written

inside : (b n : ℕ) → 1 ≤ n → n ≤ b → outside b (pos n) ≡ false
inside b n l m = rw (le-leb 1 n l, le-leb n b m)

-- a number in range has few digits
short_range : (zs : List ℤ) → CoefsInRange zs → ShortNumbers zs
short_range zs f i l = omega (arith, f i l)

few_counts : (p q : ℕ) → p ≤ most_equations → q ≤ most_unknowns → CoefsInRange (pos p ∷ pos q ∷ [])
few_counts p q l m zero h = omega arith
few_counts p q l m (suc zero) h = omega arith
few_counts p q l m (suc (suc i)) h = absurd (omega arith)

written_short : {p q : ℕ} {coefs : List ℤ} → MapInRange p q coefs → length (written p q coefs) ≤ most_bytes
unfolding written
written_short {p} {q} {coefs} m =
    rw (length-append (line (pos p ∷ pos q ∷ [])))
    (omega (
      arith,
      m.count,
      line_short (pos p ∷ pos q ∷ []) (few_counts p q m.p_few m.q_few),
      lines_short p q coefs m.count m.range,
      mul-le-mul m.p_few m.q_few,
    ))

body_written : {p q : ℕ} {coefs : List ℤ} → MapInRange p q coefs → read_body (pos p) (pos q) (lines p q coefs) ≡ accepted p q coefs
unfolding accept_rows checked
body_written {p} {q} {coefs} m =
    rw (
      ← counts_within (pos p) (pos q) (lines p q coefs) (inside most_equations p m.p_some m.p_few) (inside most_unknowns q m.q_some m.q_few),
      rows_back p q 2 [] coefs m.count (short_range coefs m.range),
      small_coefs (input_of p q coefs) m.range,
    )

-- The written form of every map in range is accepted, and gives that map.
pub written_accepted : {p q : ℕ} {coefs : List ℤ} → MapInRange p q coefs → read_map (written p q coefs) ≡ accepted p q coefs
unfolding written
written_accepted {p} {q} {coefs} m =
    let counts : List ℤ = pos p ∷ pos q ∷ [] in
    let first = line_back counts [] (lines p q coefs) (short_range counts (few_counts p q m.p_few m.q_few)) in
    sym (first_parsed (written p q coefs) counts (written_short m) (sym first)) ∙ body_written m
