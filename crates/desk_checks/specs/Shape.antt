-- Refusals 1 to 4 from counts and lengths alone, what holds where they find nothing, and the checks that come after them. Assumes nothing.
use Rattle.std.specs.Prelude.{◌≡◌, Bool, true, false, not, ◌&&◌, List, [], ℕ, ◌+◌, ◌*◌, ◌/◌, ◌%◌, ◌≤◌, ◌<◌, leb, ltb, eqb, ℤ, pos, length, get_or}
use Rattle.std.proofs.Common.{refl, ap, ◌∙◌, inl, inr, le-div_iff_mul-le, arith, leb→le, ltb-false}
use Rattle.std.proofs.lemmas.Bool.{not-false}
use Rattle.std.proofs.Math.ListN.{get_or-eq_default}
use Rattle.linear.proofs.Cases.{split}
use Rattle.linear.proofs.TestLaws.{all_at}
use Rattle.linear.specs.Tests.{all_to}
use Rattle.definitions.specs.Answers.{Check, go, ◌then◌, refuse, refuse_if, refuse_with}
use Rattle.definitions.specs.Refusals.{check7}
use Rattle.definitions.specs.System.{most_component, most_equations, most_unknowns}
use Rattle.definitions.specs.Tables.{State}
use Rattle.laws.proofs.AnswerLaws.{refuse_if_go, then_assoc, then_go}
use Rattle.laws.proofs.RefusalLaws.{at_most, decides_range}
use Rattle.desk_spec.specs.Desks.{Desk, desk_checks, desk_in_order, desk_of, desk_resume_checks, desk_start_checks, generators_in_order, group_input}
use Rattle.desk_spec.specs.Desks.{ranges_checks}
use Rattle.checks.specs.Counts.{counted, count_checks, either_refuses}
use Rattle.desk_rows.specs.Images.{SmallDesk}

unfoldable pub shape_checks : (p q coefs generators stack : ℕ) → Check
shape_checks p q coefs generators stack =
    count_checks p q 0 coefs
    then refuse_if (not (eqb (generators % q) 0)) 3
    then refuse_if (ltb stack (generators / q * (q + 2))) 4

-- stack entries for n rows, asked by division
pub room_short : (q n stack : ℕ) → stack / (q + 2) < n → stack < n * (q + 2)
room_short q n stack l =
    elim (split stack (n * (q + 2))) [
      | inl h ↦ h
      | inr h ↦ absurd (omega (arith, (le-div_iff_mul-le {k = q + 2} {x = n} {y = stack} (omega arith)).1 h))
    ]

pub room_enough : (q n stack : ℕ) → n ≤ stack / (q + 2) → n * (q + 2) ≤ stack
room_enough q n stack l = (le-div_iff_mul-le {k = q + 2} {x = n} {y = stack} (omega arith)).0 l

-- ---- where these find nothing

pub record InShape (p q coefs generators stack : ℕ) : Type 0 where
  pub equations : p ≤ most_equations
  pub some : 0 < q
  pub unknowns : q ≤ most_unknowns
  pub count : coefs ≡ p * q
  pub rows : generators / q * (q + 2) ≤ stack

-- what a record is looked at with
pub record RowsFit (q generators stack : ℕ) : Type 0 where
  pub some : 0 < q
  pub unknowns : q ≤ most_unknowns
  pub rows : generators / q * (q + 2) ≤ stack

pub rows_fit : {p q coefs generators stack : ℕ} → InShape p q coefs generators stack → RowsFit q generators stack
rows_fit s = record { some = s.some; unknowns = s.unknowns; rows = s.rows }

pub shape_fits : (p q coefs generators stack : ℕ) → shape_checks p q coefs generators stack ≡ go → InShape p q coefs generators stack
unfolding shape_checks
shape_fits p q coefs generators stack e =
    let (counts, e2) = then_go (count_checks p q 0 coefs) _ e in
    let (_, long) = then_go (refuse_if (not (eqb (generators % q) 0)) 3) _ e2 in
    let m = counted p q 0 coefs counts in
    record {
      equations = m.equations;
      some = m.some;
      unknowns = m.unknowns;
      count = m.count;
      rows = ltb-false stack (generators / q * (q + 2)) (refuse_if_go _ 4 long);
    }

-- ---- the checks after them

-- what both calls look at first: refusals 1 to 4, then that no generator has a component above the limit
unfoldable pub table_checks : (p q coefs : ℕ) (generators : List ℕ) (stack : ℕ) → Check
table_checks p q coefs generators stack =
    shape_checks p q coefs (length generators) stack
    then refuse_if (not (all_to (length generators) (λ i. leb (get_or generators i 0) most_component))) 6

shape_then_lem : (d : Desk) (s : State) (own : Check)
    → shape_checks d.p d.q (length d.coefs) (length d.generators) (length s.stack) then own then ranges_checks d ≡ desk_checks d s own
unfolding shape_checks count_checks
shape_then_lem d s own =
    rw (← either_refuses (not (eqb (length d.coefs) (d.p * d.q))) (not (eqb (length d.generators % d.q) 0)) 3 _) (simp then_assoc)

-- a refusal where either of two tests fails
both_refuse : (a b : Bool) (n : ℕ) (c : Check) → refuse_if (not a) n then refuse_if (not b) n then c ≡ refuse_if (not (a && b)) n then c
unfolding refuse_with ◌then◌
both_refuse true b n c = refl
both_refuse false b n c = refl

module _ (d : Desk) (s : State) where
  abbrev first : Check
  first = table_checks d.p d.q (length d.coefs) d.generators (length s.stack)

  pub start_first : first then ranges_checks d ≡ desk_start_checks d s
  unfolding table_checks desk_start_checks generators_in_order
  start_first = then_assoc _ _ _ ∙ shape_then_lem d s _

  pub resume_first : first then refuse_if (not (desk_in_order d s)) 6 then ranges_checks d ≡ desk_resume_checks d s
  unfolding table_checks desk_resume_checks generators_in_order
  resume_first =
      then_assoc _ _ _
      ∙ ap (λ c. shape_checks d.p d.q (length d.coefs) (length d.generators) (length s.stack) then c)
      (both_refuse _ (desk_in_order d s) 6 (ranges_checks d))
      ∙ shape_then_lem d s _

pub six_refused : (b : Bool) (rest : Check) → b ≡ false → refuse 6 [] ≡ refuse_if (not b) 6 then rest
unfolding refuse_with ◌then◌
six_refused b rest e = rw e

pub six_passed : (b : Bool) (rest : Check) → b ≡ true → rest ≡ refuse_if (not b) 6 then rest
unfolding refuse_with ◌then◌
six_passed b rest e = rw e

-- ---- 7 and 25

-- what is known ahead of them
pub record Handed (p q coefs : ℕ) (generators : List ℕ) : Type 0 where
  pub equations : p ≤ most_equations
  pub some : 0 < q
  pub unknowns : q ≤ most_unknowns
  pub count : coefs ≡ p * q
  pub small : (i : ℕ) → i < length generators → get_or generators i 0 ≤ most_component

pub handed_by : {p q coefs : ℕ} {generators : List ℕ} {stack : ℕ} → InShape p q coefs (length generators) stack
    → all_to (length generators) (λ i. leb (get_or generators i 0) most_component) ≡ true → Handed p q coefs generators
handed_by {generators = generators} s h =
    record {
      equations = s.equations;
      some = s.some;
      unknowns = s.unknowns;
      count = s.count;
      small = λ i l. leb→le (get_or generators i 0) most_component (all_at (length generators) (λ i. leb (get_or generators i 0) most_component) (rw h tt) i l);
    }

pub tables_fit : (p q coefs : ℕ) (generators : List ℕ) (stack : ℕ) → table_checks p q coefs generators stack ≡ go
    → InShape p q coefs (length generators) stack × Handed p q coefs generators
unfolding table_checks
tables_fit p q coefs generators stack e =
    let (shape, small) = then_go (shape_checks p q coefs (length generators) stack) _ e in
    let fits = shape_fits p q coefs (length generators) stack shape in
    (fits, handed_by fits (not-false _ (refuse_if_go _ 6 small)))

pub handed_small : (p q : ℕ) (coefs : List ℤ) (generators : List ℕ) → Handed p q (length coefs) generators
    → check7 (group_input (desk_of p q coefs generators)) ≡ go → SmallDesk p q coefs generators
handed_small p q coefs generators s e =
    let range = (decides_range (group_input (desk_of p q coefs generators))).goes e in
    record {
      group =
          record {
            some = s.some;
            equations = s.equations;
            unknowns = s.unknowns;
            whole = omega (arith, s.count);
            small = λ n. elim (split n (length coefs)) [ inl l ↦ at_most _ _ (range n l) | inr l ↦ rw (get_or-eq_default coefs (pos 0) l) (omega arith) ];
          };
      handed = λ i. elim (split i (length generators)) [ inl l ↦ s.small i l | inr l ↦ rw (get_or-eq_default generators 0 l) (omega arith) ];
    }
