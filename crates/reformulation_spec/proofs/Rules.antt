-- Theorems about what specs/Rules.antt defines. Assumes nothing.
use Rattle.std.specs.Prelude.{◌≡◌, not, List, ℕ, ◌+◌, ◌*◌, ◌/◌, ◌≤◌, ◌<◌, T, eqb, leb, length}
use Rattle.std.proofs.Common.{inl, inr, arith, T_not, eqb→eq, leb→le, le→leb}
use Rattle.std.proofs.lemmas.Bool.{not-false}
use Rattle.std.proofs.Math.Dec.{eqb_refl, not_T}
use Rattle.linear.proofs.Cases.{split}
use Rattle.linear.proofs.TestLaws.{and_both, and_parts}
use Rattle.definitions.specs.Answers.{go, refuse_if}
use Rattle.definitions.specs.Input.{input_of}
use Rattle.definitions.specs.Refusals.{between}
use Rattle.laws.proofs.AnswerLaws.{refuse_if_go, then_go}
use Rattle.laws.specs.CheckLaws.{Decides, Renders, ◌▹◌, end, rule}
use Rattle.laws.proofs.CheckLaws.{by_test, decides_if, decides_not, renders_after, renders_last, renders_then}
use Rattle.laws.proofs.RefusalLaws.{at_most, decides_range}
use Rattle.reformulation_spec.specs.Reformulation.{Reformulation, are_lengths, equations, given_checks, project_checks, reformulates, shows, unknowns}
use Rattle.reformulation_spec.specs.Showing.{Shown}
use Rattle.reformulation_spec.proofs.Showing.{shown_from, shown_to}
use Rattle.reformulation_spec.specs.Rules.{FewEquations, FewUnknowns, Lengths, few_equations, few_unknowns, given_rules, project_rules, reformulate_rules}

-- ---- the tests

between_from : (n : ℕ) → T (between 1 32 n) → (1 ≤ n) × (n ≤ 32)
between_from n h = let (a, b) = and_parts (leb 1 n) (leb n 32) h in (leb→le 1 n a, leb→le n 32 b)

between_to : (n : ℕ) → 1 ≤ n → n ≤ 32 → T (between 1 32 n)
between_to n a b = and_both (leb 1 n) (leb n 32) (le→leb 1 n a) (le→leb n 32 b)

module _ (q k : ℕ) where
  unknowns_from : T (few_unknowns q k) → FewUnknowns q k
  unknowns_from h = let (a, b) = and_parts (leb 1 q) (leb (q + k) 32) h in record { some = leb→le 1 q a; few = leb→le (q + k) 32 b }

  unknowns_to : FewUnknowns q k → T (few_unknowns q k)
  unknowns_to u = and_both (leb 1 q) (leb (q + k) 32) (le→leb 1 q u.some) (le→leb (q + k) 32 u.few)

module _ (r : Reformulation) where
  equations_from : T (few_equations r) → FewEquations r
  equations_from h =
      let (x, y) = and_parts (between 1 32 r.p) (between 1 32 r.m) h in
      let (a, b) = between_from r.p x in
      let (c, d) = between_from r.m y in
      record { p_some = a; p_few = b; m_some = c; m_few = d }

  equations_to : FewEquations r → T (few_equations r)
  equations_to e =
      and_both (between 1 32 r.p) (between 1 32 r.m) (between_to r.p e.p_some e.p_few) (between_to r.m e.m_some e.m_few)

  lengths_from : T (are_lengths r) → Lengths r
  lengths_from h =
      let (a, x) = and_parts (eqb (length r.coefs) (r.p * r.q)) _ h in
      let (b, y) = and_parts (eqb (length r.extended) (equations r * unknowns r)) _ x in
      let (c, z) = and_parts (eqb (length r.other) (r.m * unknowns r)) _ y in
      let (d, u) = and_parts (eqb (length r.onto) (r.m * (1 + equations r))) _ z in
      let (e, f) = and_parts (eqb (length r.back) (equations r * (1 + r.m))) _ u in
      record {
        coefs = eqb→eq _ _ a;
        extended = eqb→eq _ _ b;
        other = eqb→eq _ _ c;
        onto = eqb→eq _ _ d;
        back = eqb→eq _ _ e;
        above = eqb→eq _ _ f;
      }

  equal_to : {x y : ℕ} → x ≡ y → T (eqb x y)
  equal_to {y} e = rw e (eqb_refl y)

  lengths_to : Lengths r → T (are_lengths r)
  lengths_to l =
      and_both (eqb (length r.coefs) (r.p * r.q)) _ (equal_to l.coefs)
      (and_both (eqb (length r.extended) (equations r * unknowns r)) _ (equal_to l.extended)
      (and_both (eqb (length r.other) (r.m * unknowns r)) _ (equal_to l.other)
      (and_both (eqb (length r.onto) (r.m * (1 + equations r))) _ (equal_to l.onto)
      (and_both (eqb (length r.back) (equations r * (1 + r.m))) _ (equal_to l.back) (equal_to l.above)))))

  -- ---- the call that checks

  given_renders : Renders (given_checks r) (given_rules r)
  unfolding given_checks
  given_renders =
      renders_then (decides_not (few_equations r) 1 (FewEquations r) equations_from equations_to)
      (renders_then (decides_not (few_unknowns r.q r.k) 2 (FewUnknowns r.q r.k) (unknowns_from r.q r.k) (unknowns_to r.q r.k))
      (renders_then (decides_not (are_lengths r) 3 (Lengths r) lengths_from lengths_to)
      (renders_last (decides_range (input_of r.p r.q r.coefs)))))

  pub reformulate_renders : Renders (reformulates r) (reformulate_rules r)
  unfolding reformulates
  reformulate_renders =
      renders_after (given_checks r) (refuse_if (not (shows r)) 36) (given_rules r) (rule 36 (¬ (Shown r)) ▹ end) given_renders
      (λ _. renders_last (decides_not (shows r) 36 (Shown r) (shown_from r) (shown_to r)))

  -- what holds where it is not refused before the numbers are looked at
  pub given_sizes : given_checks r ≡ go → FewEquations r × FewUnknowns r.q r.k × Lengths r
  given_sizes e =
      let (a, (b, (c, d))) = given_renders.goes e in (
        by_test (few_equations r) equations_from equations_to a,
        by_test (few_unknowns r.q r.k) (unknowns_from r.q r.k) (unknowns_to r.q r.k) b,
        by_test (are_lengths r) lengths_from lengths_to c,
      )

  -- where it says yes, the numbers show what they should
  pub says_yes : reformulates r ≡ go → Shown r
  unfolding reformulates
  says_yes e = shown_from r (rw (not-false (shows r) (refuse_if_go _ 36 (then_go (given_checks r) _ e).1)) tt)

-- ---- the call that projects

module _ (q k found : ℕ) (rows out : List ℕ) where
  too_many : (r n : ℕ) → Decides (refuse_if (not (leb found n)) r) (rule r (n < found))
  too_many r n =
      decides_if (not (leb found n)) r (n < found)
      (λ h. elim (split n found) [ inl l ↦ l | inr l ↦ absurd (T_not (leb found n) h (le→leb found n l)) ])
      (λ l. not_T (leb found n) (λ h. omega (arith, leb→le found n h)))

  pub project_renders : Renders (project_checks q k found rows out) (project_rules q k found rows out)
  unfolding project_checks
  project_renders =
      renders_then (decides_not (few_unknowns q k) 2 (FewUnknowns q k) (unknowns_from q k) (unknowns_to q k))
      (renders_then (too_many 6 (length rows / (q + k))) (renders_last (too_many 29 (length out / q))))

  -- what holds where it is not refused
  pub project_sizes : project_checks q k found rows out ≡ go → FewUnknowns q k × (found ≤ length rows / (q + k)) × (found ≤ length out / q)
  project_sizes e =
      let (a, (b, (c, _))) = project_renders.goes e in
      (by_test (few_unknowns q k) (unknowns_from q k) (unknowns_to q k) a, at_most found (length rows / (q + k)) b, at_most found (length out / q) c)
