-- Whether an equation is left, and an unknown fresh, from the marks and the working system. Assumes nothing.
use Rattle.std.specs.Prelude.{◌≡◌, refl, Bool, true, false, not, ◌&&◌, ◌||◌, List, ℕ, ◌*◌, ◌<◌, T, eqb, ltb, ℤ}
use Rattle.std.proofs.Common.{arith, ltb→lt}
use Rattle.linear.proofs.TestLaws.{and_parts}
use Rattle.linear.specs.Tests.{all_to, any_to}
use Rattle.linear.specs.Tuples.{total}
use Rattle.definitions.specs.System.{is_zero}
use Rattle.laws.proofs.TableLaws.{row_fits}
use Rattle.definitions.specs.Tables.{at, frozen}
use Rattle.engine_spec.specs.Beside.{SmallRow, SmallTable}
use Rattle.engine_spec.specs.Calls.{is_alone, is_free, is_fresh, is_minus_one}
use Rattle.engine_spec.specs.Caps.{is_capped}
use Rattle.engine_spec.specs.Engine.{Work, basis_row, system_of}

abbrev pub left_by : (p e equation done : ℕ) → Bool
left_by p e equation done = eqb equation p && (ltb e p && not (frozen done e))

unfoldable pub free_in : (p q f : ℕ) → List ℤ → ℕ → Bool
free_in p q f equations done = all_to p (λ i. not (frozen done i) || is_zero (system_of q equations i f))

abbrev pub fresh_by : (cap p q e f : ℕ) → List ℤ → ℕ → Bool
fresh_by cap p q e f equations done =
    not (is_capped cap f) && (ltb f q && (is_minus_one (system_of q equations e f) && free_in p q f equations done))

-- ---- of the basis

unfoldable pub has_unknown : (q f m : ℕ) → List ℕ → Bool
has_unknown q f m basis = any_to m (λ i. ltb 0 (at basis q i f))

unfoldable pub unit_or_lacks : (q f : ℕ) → (ℕ → ℕ) → Bool
unit_or_lacks q f x = eqb (x f) 0 || eqb (total x q) 1

unfoldable pub units_or_lack : (q f m : ℕ) → List ℕ → Bool
units_or_lack q f m basis = all_to m (λ i. unit_or_lacks q f (at basis q i))

pub alone_parts : (q f m : ℕ) (basis : List ℕ) → is_alone q f m (at basis q) ≡ has_unknown q f m basis && units_or_lack q f m basis
unfolding is_alone has_unknown units_or_lack unit_or_lacks
alone_parts q f m basis = refl

-- fresh by the cap and the equations, and of the basis only the unit tuple has it
pub fresh_parts : (p q e f : ℕ) (w : Work)
    → is_fresh p q e f w ≡ fresh_by w.stage.cap p q e f w.equations w.done && is_alone q f w.count (basis_row q w)
unfolding is_fresh is_free free_in
fresh_parts p q e f w = regroup (not (is_capped w.stage.cap f)) (ltb f q) (is_minus_one (system_of q w.equations e f)) _ _
  where
    regroup : (o a b c d : Bool) → o && (a && (b && (c && d))) ≡ (o && (a && (b && c))) && d
    regroup false a b c d = refl
    regroup true false b c d = refl
    regroup true true false c d = refl
    regroup true true true c d = refl

pub row_of : {q m : ℕ} {basis : List ℕ} → SmallTable q m basis → (i : ℕ) → i < m → SmallRow q basis (i * q)
row_of {q} {m} s i l = record { whole = omega (arith, s.whole, row_fits q i m l); small = λ j jq. s.small i j l jq }

module _ (p q e f : ℕ) (w : Work) where
  abbrev fresh : Bool
  fresh = fresh_by w.stage.cap p q e f w.equations w.done

  pub fresh_low : fresh ≡ true → f < q
  fresh_low h =
      let t : T fresh = rw h tt in
      let (_, a) = and_parts (not (is_capped w.stage.cap f)) _ t in
      ltb→lt f q (and_parts (ltb f q) _ a).0
