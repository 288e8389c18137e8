-- A text is refused by the first of `text_rules` that is in its case, and by no other; one that is in no case is accepted. Assumes nothing.
use Prim.Native.Nat.{ℕ, zero, suc, ◌+◌, ◌*◌, ◌≤◌, ◌<◌}
use Rattle.std.specs.Prelude.{true, false, ◌⊎◌, ◌≡◌, ℤ, negsuc, nat_abs, length, get_or}
use mathlib.Core.List.{List, [], ◌∷◌}
use Rattle.std.proofs.Math.Logic.{inl, inr}
use Rattle.std.proofs.Math.Path.{refl, sym, ap}
use Rattle.std.proofs.Common.{◌∙◌, mul-le-mul, arith, le-ltb, lt-ltb, le-leb}
use Rattle.std.proofs.Math.IntN.{pos}
use Rattle.std.proofs.lemmas.Bool.{lt-leb}
use Rattle.linear.proofs.Cases.{split}
use Rattle.definitions.specs.Answers.{Check, refuse, go, refuse_with, ◌then◌}
use Rattle.definitions.specs.Input.{input_of}
use Rattle.definitions.specs.System.{most_equations, most_unknowns, coef_limit}
use Rattle.definitions.specs.Refusals.{check7}
use Rattle.laws.specs.CheckLaws.{Rules, rule, placed, ◌▹◌, end, Renders}
use Rattle.laws.proofs.CheckLaws.{check_cases, renders_due, renders_silent, renders_end}
use Rattle.texts.specs.Reading.{most_bytes, Parse, parsed, malformed}
use Rattle.texts.proofs.ParseLaws.{same}
use Rattle.map_spec.specs.Form.{lines, written}
use Rattle.map_spec.specs.Reading.{Rows, rows, malformed_at, read_line, read_rows, Reading, accepted, refused, checked, outside, accept_rows, read_body}
use Rattle.map_spec.specs.Reading.{after_first, read_map}
use Rattle.map_text.specs.Rules.{after_line, after_lines, Begins, InForm, RowInForm, Counts, OutsideCount, BadLine, LargeAt, text_rules}
use Rattle.map_text.proofs.ReadLaws.{rows_read}
use Rattle.map_text.proofs.WriteLaws.{line_back, rows_back}
use Rattle.map_text.proofs.SplitLaws.{split as split_line, read_begins, begins_read, malformed_line, rows_all, rows_bad}
use Rattle.map_text.proofs.StageLaws.{counts_within}
use Rattle.map_text.proofs.MapLaws.{range_decides, two}

-- ---- a text whose counts are in range

-- what a reading comes to as a check
unfoldable pub verdict : Reading → Check
verdict (accepted p q coefs) = go
verdict (refused n values) = refuse n values

checked_verdict : (c : Check) (p q : ℕ) (coefs : List ℤ) → verdict (checked c (accepted p q coefs)) ≡ c
unfolding verdict checked
checked_verdict go p q coefs = refl
checked_verdict (refuse n values) p q coefs = refl

-- the first line is "p q", and r stands after it
module _ {t r : List ℕ} (p q : ℕ) (first : Begins 2 (pos p ∷ pos q ∷ []) t) (rest : after_line t ≡ r) where
  only_counts : (a b : ℤ) → Begins 2 (a ∷ b ∷ []) t → (a ≡ pos p) × (b ≡ pos q)
  only_counts a b f = let (e, g) = same (sym (begins_read [] f) ∙ begins_read [] first) in (cc, cc)

  bad_line : (j : ℕ) → ¬ (RowInForm p q j (after_lines j r)) → BadLine t (suc j)
  unfolding after_lines
  bad_line j h = (pos p, pos q, first, λ g. h (rw rest at g))

  good_line : (i : ℕ) → ((j : ℕ) → i ≡ suc j → RowInForm p q j (after_lines j r)) → ¬ (BadLine t i)
  unfolding after_lines
  good_line zero f h = h
  good_line (suc j) f (a, b, g, h) = let (x, y) = only_counts a b g in (rw (x, y, rest) at h) (f j refl)

  -- the other lines are in the form
  module _ (coefs : List ℤ) (e : read_rows p q 2 [] r ≡ rows coefs) where
    large_at : (i : ℕ) → i < length coefs → coef_limit < nat_abs (get_or coefs i (pos 0)) → LargeAt t i
    unfolding written
    large_at i l h =
        let a = rows_read p q 2 [] r e in
        record {
          p = p;
          q = q;
          coefs = coefs;
          count = cc (a.count, a.after);
          counts = first.short;
          short = rw (sym a.after) at a.short;
          text = sym (split_line t) ∙ cc (first.text, rest, a.text, a.after);
          place = l;
          large = h;
        }

    only_large : (i : ℕ) → LargeAt t i → (i < length coefs) × (coef_limit < nat_abs (get_or coefs i (pos 0)))
    unfolding written
    only_large i h =
        let a : read_line 2 [] t ≡ parsed (pos h.p ∷ pos h.q ∷ []) (lines h.p h.q h.coefs) =
        ap (read_line 2 []) h.text ∙ line_back (pos h.p ∷ pos h.q ∷ []) [] _ h.counts in
        let (x, y) = same (sym a ∙ begins_read [] first) in
        let u : h.p ≡ p = cc in
        let v : h.q ≡ q = cc in
        let w : lines h.p h.q h.coefs ≡ r = cc in
        let z : rows h.coefs ≡ rows coefs = sym (rows_back h.p h.q 2 [] h.coefs h.count h.short) ∙ cc in
        let c : h.coefs ≡ coefs = cc in
        (rw c at h.place, rw c at h.large)

  abbrev last_rules : Rules
  last_rules = placed 9 (most_equations + 2) (BadLine t) ▹ placed 7 (most_equations * most_unknowns) (LargeAt t) ▹ end

  module _ (p_few : p ≤ most_equations) (q_some : 1 ≤ q) (q_few : q ≤ most_unknowns) where
    range_case : (coefs : List ℤ) → read_rows p q 2 [] r ≡ rows coefs
        → Renders (check7 (input_of p q coefs)) (placed 7 (most_equations * most_unknowns) (LargeAt t) ▹ end)
    range_case coefs e =
        let a = rows_read p q 2 [] r e in
        let n : length coefs ≡ p * q = cc (a.count, a.after) in
        let d = range_decides (input_of p q coefs) in
        elim (check_cases (check7 (input_of p q coefs))) [
          | inl g ↦ rw g (renders_silent (λ i l h. let (x, y) = only_large coefs e i h in d.goes g i x y) renders_end)
          | inr (k, vs, g) ↦
              let (x, i, l, y, z, none) = d.refuses k vs g in
              rw g
              (renders_due (
                x,
                i,
                omega (arith, mul-le-mul p_few q_few),
                y,
                large_at coefs e i l z,
                λ j m h. none j m (only_large coefs e j h).1,
              ))
        ]

    rows_case : (x : Rows) → read_rows p q 2 [] r ≡ x → Renders (verdict (accept_rows p q x)) last_rules
    unfolding accept_rows verdict
    rows_case (rows coefs) e =
        rw (checked_verdict (check7 (input_of p q coefs)) p q coefs)
        (renders_silent (λ i l. good_line i (λ j h. rows_all p q 2 [] r q_some e j)) (range_case coefs e))
    rows_case (malformed_at m) e =
        let (j, x, b) = rows_bad p q 2 [] r q_some e in
        renders_due (
          refl,
          suc j,
          omega (arith, b.within),
          ap (λ n. n ∷ []) (omega arith),
          bad_line j b.bad,
          λ i l. good_line i (λ k h. b.before k (omega arith)),
        )

-- ---- the counts

-- a count is outside its range, or natural and within it
count_cases : (b : ℕ) (z : ℤ) → ((outside b z ≡ true) × OutsideCount b z) ⊎ ((n : ℕ) × (z ≡ pos n) × (outside b z ≡ false) × (1 ≤ n) × (n ≤ b))
count_cases b (negsuc n) = inl (refl, tt)
count_cases b (pos n) =
    elim (split n 1) [
      | inl l ↦ inl (rw (lt-leb 1 n l), inl l)
      | inr l ↦ elim (split b n) [
        | inl h ↦ inl (rw (le-leb 1 n l, lt-leb n b h), inr h)
        | inr h ↦ inr (n, refl, rw (le-leb 1 n l, le-leb n b h), l, h)
      ]
    ]

in_range : (b n : ℕ) → 1 ≤ n → n ≤ b → ¬ (OutsideCount b (pos n))
in_range b n l m o = elim o [ inl h ↦ omega arith | inr h ↦ omega arith ]

module _ {t r : List ℕ} (a b : ℤ) (first : Begins 2 (a ∷ b ∷ []) t) (rest : after_line t ≡ r) where
  only_first : (c d : ℤ) → Begins 2 (c ∷ d ∷ []) t → (c ≡ a) × (d ≡ b)
  only_first c d f = let (e, g) = same (sym (begins_read [] f) ∙ begins_read [] first) in (cc, cc)

  abbrev count_rules : Rules
  count_rules =
      rule 1 (Counts t (λ p q. OutsideCount most_equations p))
      ▹ rule 2 (Counts t (λ p q. OutsideCount most_unknowns q))
      ▹ placed 9 (most_equations + 2) (BadLine t)
      ▹ placed 7 (most_equations * most_unknowns) (LargeAt t)
      ▹ end

  body_case : Renders (verdict (read_body a b r)) count_rules
  unfolding verdict read_body checked refuse_with ◌then◌
  body_case =
      elim (count_cases most_equations a) [
        | inl (e, o) ↦ rw e (renders_due (refl, refl, (a, b, first, o)))
        | inr (p, pa, e, p_some, p_few) ↦
            renders_silent (λ (c, d, f, o). in_range most_equations p p_some p_few (rw ((only_first c d f).0, pa) at o))
            (elim (count_cases most_unknowns b) [
              | inl (g, o) ↦ rw (e, g) (renders_due (refl, refl, (a, b, first, o)))
              | inr (q, qb, g, q_some, q_few) ↦
                  renders_silent (λ (c, d, f, o). in_range most_unknowns q q_some q_few (rw ((only_first c d f).1, qb) at o))
                  (rw (← counts_within a b r e g, pa, qb) (rows_case p q (rw (pa, qb) at first) rest p_few q_some q_few (read_rows p q 2 [] r) refl))
            ])
      ]

-- ---- the text

first_case : (t : List ℕ) (x : Parse (List ℤ)) → read_line 2 [] t ≡ x → Renders (verdict (after_first x)) (
    placed 9 1 (λ i. ¬ (InForm 2 t))
    ▹ rule 1 (Counts t (λ p q. OutsideCount most_equations p))
    ▹ rule 2 (Counts t (λ p q. OutsideCount most_unknowns q))
    ▹ placed 9 (most_equations + 2) (BadLine t)
    ▹ placed 7 (most_equations * most_unknowns) (LargeAt t)
    ▹ end
    )
unfolding verdict
first_case t malformed e = renders_due (refl, 0, omega arith, refl, malformed_line [] t e, λ j l. absurd (omega arith))
first_case t (parsed xs r) e =
    let (zs, b, x, a) = read_begins 2 [] t (omega arith) e in
    let w : zs ≡ get_or xs 0 (pos 0) ∷ get_or xs 1 (pos 0) ∷ [] = cc (two zs b.count) in
    renders_silent (λ i l h. h (zs, b)) (body_case (get_or xs 0 (pos 0)) (get_or xs 1 (pos 0)) (rw w at b) a)

-- Each refusal of a text is given in its case, in the order of `text_rules`, and in no other; a text that is in no case is accepted.
pub text_renders : (t : List ℕ) → Renders (verdict (read_map t)) (text_rules t)
unfolding verdict read_map checked refuse_with
text_renders t =
    elim (split most_bytes (length t)) [
      | inl l ↦ rw (lt-ltb most_bytes (length t) l) (renders_due (refl, refl, l))
      | inr l ↦ rw (le-ltb most_bytes (length t) l) (renders_silent (λ h. omega arith) (first_case t (read_line 2 [] t) refl))
    ]
