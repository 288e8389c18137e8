-- The reader and the grammar agree: a text is read exactly if it has a reading whose brackets are at most d deep, and it has no other reading.
-- Assumes nothing.
use Rattle.std.specs.Prelude.{ℕ, ◌+◌, ◌≤◌, ◌<◌, max, ◌≡◌, refl, length, get_or}
use mathlib.Core.List.{List, [], ◌∷◌}
use Rattle.std.proofs.Common.{sym, ◌∙◌, arith}
use Rattle.texts.specs.Decimals.{space}
use Rattle.texts.specs.Reading.{parsed, and_then}
use Rattle.texts.proofs.ParseLaws.{not_parsed, same}
use Rattle.equation_spec.specs.Grammar.{bare, led, Sum, one, more, Term, number, plain, times, Factor, unknown, bracket, Equation, Part, sign, closing}
use Rattle.equation_spec.specs.Grammar.{equals, sum_parts, term_parts, factor_parts, parts, Spells, Reads}
use Rattle.equation_spec.specs.Meaning.{sum_depth, term_depth, factor_depth}
use Rattle.equation_spec.specs.Reader.{skip, on_byte, on_sign, read_factor, read_term, first_term, read_sum, read_equation}
use Rattle.equation_spec.proofs.PartLaws.{skip_byte, first}
use Rattle.equation_spec.proofs.SoundLaws.{equation_read}
use Rattle.equation_spec.proofs.CompleteLaws.{equation_back}

-- how deep the brackets of an equation are
abbrev pub depth : Equation → ℕ
depth e = max (sum_depth e.left) (sum_depth e.right)

-- ---- no space before the first part

pub no_space_lem : (t : List ℕ) → (get_or t 0 0 ≡ space → ⊥) → skip t ≡ t
unfolding skip
no_space_lem [] h = refl
no_space_lem (b ∷ t) h = skip_byte b t h

starts : (q d : ℕ) (t : List ℕ) {e : Equation} {r : List ℕ} → read_equation q d t ≡ parsed e r → get_or t 0 0 ≡ space → ⊥
unfolding read_equation read_sum first_term read_term read_factor on_sign on_byte and_then
starts q d [] e h = absurd (omega arith)
starts q d (b ∷ t) e h = not_parsed (rw h at e)

-- ---- the theorems

-- "The text is accepted exactly when the grammar has a reading within the limits": the limit on depth
pub read_reads : (q d : ℕ) (t : List ℕ) {e : Equation} {r : List ℕ} → read_equation q d t ≡ parsed e r → Reads q e t × (depth e ≤ d)
read_reads q d t h =
    let i = equation_read q d t h in
    (record { spells = i.text; begins = starts q d t h }, omega (arith, i.left_depth, i.right_depth))

pub reads_read : (q d : ℕ) (e : Equation) (t : List ℕ) → q ≤ 16 → depth e ≤ d → Reads q e t → read_equation q d t ≡ parsed e []
reads_read q d e t few l r = equation_back q d e t few (omega arith) (omega arith) r.spells (no_space_lem t r.begins)

-- Each text has at most one reading.
pub unambiguous : (q : ℕ) (e f : Equation) (t : List ℕ) → q ≤ 16 → Reads q e t → Reads q f t → e ≡ f
unambiguous q e f t few r s =
    let d = max (depth e) (depth f) in
    (same (sym (reads_read q d e t few (omega arith) r) ∙ reads_read q d f t few (omega arith) s)).0

-- ---- a text is longer than its brackets are deep

record Deep (q n : ℕ) (ps : List Part) (t : List ℕ) : Type 0 where
  rest : List ℕ
  spells : Spells q ps rest
  within : n + length rest ≤ length t
  shorter : length rest < length t

module _ (q : ℕ) where
  mutual
    unfolding sum_parts sum_depth

    sum_deep : (e : Sum) (ps : List Part) (t : List ℕ) → Spells q (sum_parts e ps) t → Deep q (sum_depth e) ps t
    sum_deep (one bare u) ps t s = term_deep u ps t s
    sum_deep (one (led g) u) ps t s =
        let i = first s in
        let a = term_deep u ps i.rest i.spells in
        record { rest = a.rest; spells = a.spells; within = omega (arith, a.within, i.shorter); shorter = omega (arith, a.shorter, i.shorter) }
    sum_deep (more e g u) ps t s =
        let c = sum_deep e (sign g ∷ term_parts u ps) t s in
        let i = first c.spells in
        let a = term_deep u ps i.rest i.spells in
        record {
          rest = a.rest;
          spells = a.spells;
          within = omega (arith, a.within, i.shorter, c.within);
          shorter = omega (arith, a.shorter, i.shorter, c.shorter);
        }

    term_deep : (u : Term) (ps : List Part) (t : List ℕ) → Spells q (term_parts u ps) t → Deep q (term_depth u) ps t
    term_deep (number n) ps t s =
        let i = first s in record { rest = i.rest; spells = i.spells; within = omega (arith, i.shorter); shorter = i.shorter }
    term_deep (plain f) ps t s = factor_deep f ps t s
    term_deep (times n f) ps t s =
        let i = first s in
        let j = first i.spells in
        let a = factor_deep f ps j.rest j.spells in
        record {
          rest = a.rest;
          spells = a.spells;
          within = omega (arith, a.within, i.shorter, j.shorter);
          shorter = omega (arith, a.shorter, i.shorter, j.shorter);
        }

    factor_deep : (f : Factor) (ps : List Part) (t : List ℕ) → Spells q (factor_parts f ps) t → Deep q (factor_depth f) ps t
    factor_deep (unknown k) ps t s =
        let i = first s in record { rest = i.rest; spells = i.spells; within = omega (arith, i.shorter); shorter = i.shorter }
    factor_deep (bracket e) ps t s =
        let i = first s in
        let c = sum_deep e (closing ∷ ps) i.rest i.spells in
        let j = first c.spells in
        record {
          rest = j.rest;
          spells = j.spells;
          within = omega (arith, i.shorter, c.within, j.shorter);
          shorter = omega (arith, i.shorter, c.shorter, j.shorter);
        }

  pub depth_least : (e : Equation) (t : List ℕ) → Reads q e t → depth e ≤ length t
  unfolding parts
  depth_least e t r =
      let a = sum_deep e.left (equals ∷ sum_parts e.right []) t r.spells in
      let i = first a.spells in
      let c = sum_deep e.right [] i.rest i.spells in
      omega (arith, a.within, i.shorter, c.within)

-- Whether a text has a reading, of any depth, is computed.
pub read_any : (q : ℕ) (e : Equation) (t : List ℕ) → q ≤ 16 → Reads q e t → read_equation q (length t) t ≡ parsed e []
read_any q e t few r = reads_read q (length t) e t few (depth_least q e t r) r
