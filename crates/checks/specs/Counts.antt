-- Refusals 1 to 3 from counts alone, what holds where they find nothing, and a 3 that asks for more. Assumes nothing.
use Rattle.std.specs.Prelude.{ℕ, ◌*◌, ◌-◌, ◌≤◌, Bool, true, false, not, ◌||◌, ◌≡◌, refl, leb, eqb}
use Rattle.std.proofs.Common.{sym, ◌∙◌, ap, leb→le, mul-le-mul, arith, eqb-true}
use Rattle.std.proofs.lemmas.Bool.{not-false}
use Rattle.linear.proofs.TestLaws.{and_parts}
use Rattle.definitions.specs.Answers.{Check, go, ◌then◌, refuse_if, refuse_with}
use Rattle.definitions.specs.Refusals.{Sizes, between, large_sizes, sizes}
use Rattle.definitions.specs.System.{most_equations, most_unknowns}
use Rattle.laws.proofs.AnswerLaws.{refuse_if_go, then_assoc, then_go}

-- 1 and 2, and with them 3, for the most equations and unknowns
abbrev pub sizes_within : Sizes → (p q : ℕ) → Check
sizes_within s p q = refuse_if (not (between 1 s.equations p)) 1 then refuse_if (not (between 1 s.unknowns q)) 2

abbrev pub counts_within : Sizes → (p q coefs : ℕ) → Check
counts_within s p q coefs =
    refuse_if (not (between 1 s.equations p)) 1 then refuse_if (not (between 1 s.unknowns q)) 2 then refuse_if (not (eqb coefs (p * q))) 3

-- no call takes larger ones
pub record Modest (s : Sizes) : Type 0 where
  pub equations : s.equations ≤ large_sizes.equations
  pub unknowns : s.unknowns ≤ large_sizes.unknowns

-- document 01's, where `extra` unknowns come to those of the map: with right sides one
abbrev pub document_with : ℕ → Sizes
document_with extra = sizes most_equations (most_unknowns - extra)

unfoldable pub size_checks : (p q extra : ℕ) → Check
size_checks p q extra = sizes_within (document_with extra) p q

unfoldable pub count_checks : (p q extra coefs : ℕ) → Check
count_checks p q extra coefs = counts_within (document_with extra) p q coefs

pub sizes_then : (s : Sizes) (p q coefs : ℕ) → sizes_within s p q then refuse_if (not (eqb coefs (p * q))) 3 ≡ counts_within s p q coefs
sizes_then s p q coefs = simp then_assoc

-- where 1 and 2 find nothing, 3 decides
pub sizes_pass : (s : Sizes) (p q coefs : ℕ) → sizes_within s p q ≡ go → refuse_if (not (eqb coefs (p * q))) 3 ≡ counts_within s p q coefs
unfolding ◌then◌
sizes_pass s p q coefs e = sym (ap (λ x. x then refuse_if (not (eqb coefs (p * q))) 3) e) ∙ sizes_then s p q coefs

-- ---- where these find nothing

pub record Sized (s : Sizes) (p q : ℕ) : Type 0 where
  pub equations : p ≤ s.equations
  pub some : 1 ≤ q
  pub unknowns : q ≤ s.unknowns

pub record Counted (p q extra coefs : ℕ) : Type 0 where
  pub equations : p ≤ most_equations
  pub some : 1 ≤ q
  pub unknowns : q ≤ most_unknowns - extra
  pub count : coefs ≡ p * q

within : (a b n : ℕ) → between a b n ≡ true → (a ≤ n) × (n ≤ b)
within a b n e = let (l, m) = and_parts (leb a n) (leb n b) (rw e tt) in (leb→le a n l, leb→le n b m)

pub sized : (s : Sizes) (p q : ℕ) → sizes_within s p q ≡ go → Sized s p q
sized s p q e =
    let (equations, unknowns) = then_go (refuse_if (not (between 1 s.equations p)) 1) _ e in
    let (a, b) = within 1 s.equations p (not-false _ (refuse_if_go _ 1 equations)) in
    let (c, d) = within 1 s.unknowns q (not-false _ (refuse_if_go _ 2 unknowns)) in
    record { equations = b; some = c; unknowns = d }

-- the number of coefficients of a map that is not too large
pub sized_product : {s : Sizes} {p q : ℕ} → Modest s → Sized s p q → p * q ≤ 1024
sized_product {p} {q} m z =
    omega (arith, mul-le-mul {n₁ = p} {m₁ = q} {n₂ = 32} {m₂ = 32} (omega (arith, m.equations, z.equations)) (omega (arith, m.unknowns, z.unknowns)))

pub counted_within : (s : Sizes) (p q coefs : ℕ) → counts_within s p q coefs ≡ go → Sized s p q × (coefs ≡ p * q)
counted_within s p q coefs e =
    let (few, count) = then_go (sizes_within s p q) _ (sizes_then s p q coefs ∙ e) in
    (sized s p q few, eqb-true coefs (p * q) (not-false _ (refuse_if_go _ 3 count)))

pub counted : (p q extra coefs : ℕ) → count_checks p q extra coefs ≡ go → Counted p q extra coefs
unfolding count_checks
counted p q extra coefs e =
    let (s, count) = counted_within (document_with extra) p q coefs e in
    record { equations = s.equations; some = s.some; unknowns = s.unknowns; count = count }

-- ---- a refusal for either of two reasons, and for none

pub either_refuses : (a b : Bool) (n : ℕ) (c : Check) → refuse_if a n then refuse_if b n then c ≡ refuse_if (a || b) n then c
unfolding refuse_with ◌then◌
either_refuses true b n c = refl
either_refuses false b n c = refl

pub none_refuses : (n : ℕ) (c : Check) → refuse_if false n then c ≡ c
unfolding refuse_with ◌then◌
none_refuses n c = refl
