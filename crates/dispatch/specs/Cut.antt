-- The coefficients of a run's part of the slice: those that lie in it, and none where the part leaves the slice, which is the run's own refusal 3. Assumes
-- nothing.
use Rattle.std.specs.Prelude.{◌≡◌, refl, List, [], ℕ, ◌+◌, ◌*◌, ◌-◌, ◌≤◌, ◌<◌, ℤ, length, take, drop}
use Rattle.std.proofs.Common.{sym, inl, inr, mul-le-mul_right, arith, le-leb}
use Rattle.std.proofs.lemmas.Bool.{lt-leb}
use Rattle.definitions.specs.Answers.{refuse}
use Rattle.definitions.specs.Refusals.{resume_checks}
use Rattle.definitions.specs.System.{most_equations, most_unknowns}
use Rattle.definitions.specs.Tables.{State}
use Rattle.laws.specs.RefusalLaws.{Outside}
use Rattle.laws.proofs.RefusalLaws.{resume_renders}
use Rattle.dispatch_spec.specs.Parts.{part_in, part_of}
use Rattle.dispatch.specs.declared.types.Part.{Part}
use Rattle.dispatch.specs.declared.types.Share.{Share}
use Rattle.dispatch.specs.Form.{input_for, part_for}

-- r lies in a slice of so many numbers, and has what the part a has of it
pub record Inside (a : Part) (len : ℕ) (r : Part) : Type 0 where
  pub fit : r.start + r.size ≤ len
  pub same : (coefs : List ℤ) → length coefs ≡ len → part_of (part_for r) coefs ≡ part_in (part_for a) coefs

-- a part that leaves the slice has nothing
gone : (a : Part) (coefs : List ℤ) → length coefs < a.start + a.size → part_in (part_for a) coefs ≡ []
unfolding part_in
gone a coefs l = rw (lt-leb _ _ l)

pub inside_none : (a : Part) (len start : ℕ) → start ≤ len → len < a.start + a.size → Inside a len (record { start = start; size = 0 })
unfolding part_of
inside_none a len start h l = record { fit = omega arith; same = λ coefs e. sym (gone a coefs (omega arith)) }

pub inside_whole : (a : Part) (len : ℕ) → a.start + a.size ≤ len → Inside a len a
unfolding part_in
inside_whole a len l = record { fit = l; same = λ coefs e. let h : a.start + a.size ≤ length coefs = omega arith in rw (le-leb _ _ h) }

-- "3: coefficients not p × q in number.": so a run whose part of the coefficients leaves them is refused, whatever its record and tables are
pub missing_refused : (share : Share) (coefs : List ℤ) → length coefs < share.coefs.start + share.coefs.size
    → 1 ≤ share.p → share.p ≤ most_equations → 1 ≤ share.q → share.q ≤ most_unknowns → (s : State) → resume_checks (input_for share coefs) s ≡ refuse 3 []
missing_refused share coefs l p₁ p₈ q₁ q₁₆ s =
    (resume_renders (input_for share coefs) s).due 3 []
    (inr (outside p₁ p₈, inr (outside q₁ q₁₆, inl (refl, refl, rw (gone share.coefs coefs l) (λ e. omega (arith, e, product share.p share.q p₁ q₁))))))
  where
    outside : {a b n : ℕ} → a ≤ n → n ≤ b → Outside a b n → ⊥
    outside x y (inl h) = omega arith
    outside x y (inr h) = omega arith

    product : (p q : ℕ) → 1 ≤ p → 1 ≤ q → 1 ≤ p * q
    product p q x y = omega (arith, mul-le-mul_right q x)

-- as code takes the part
pub cut_same : {a : Part} {r : Part} (coefs : List ℤ) → Inside a (length coefs) r
    → take (r.start + r.size - r.start) (drop r.start coefs) ≡ part_in (part_for a) coefs
unfolding part_of
cut_same {a} {r} coefs i =
    let e : r.start + r.size - r.start ≡ r.size = omega arith in
    rw e (i.same coefs refl)
