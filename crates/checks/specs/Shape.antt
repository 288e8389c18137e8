-- Refusals 1 to 4 from counts and lengths alone, what holds where they find nothing, and the test of 8. Assumes nothing.
use Rattle.std.specs.Prelude.{ℕ, suc, ◌+◌, ◌*◌, ◌≤◌, Bool, true, not, List, ◌≡◌, refl, ltb, eqb, ℤ, length, get_or}
use Rattle.std.proofs.Common.{arith, eq-eqb, ltb-false}
use Rattle.linear.specs.Tests.{any_to}
use Rattle.definitions.specs.Answers.{Check, go, ◌then◌, refuse_if}
use Rattle.laws.proofs.AnswerLaws.{then_assoc, then_go, refuse_if_go}
use Rattle.definitions.specs.Input.{Extra, alone, input_with, rights}
use Rattle.definitions.specs.Tables.{State}
use Rattle.definitions.specs.Refusals.{shape_then}
use Rattle.record_order.specs.Order.{InShape}
use Rattle.checks.specs.Counts.{counted, count_checks, either_refuses, none_refuses}

abbrev pub above_limit : ℕ → List ℕ → Bool
above_limit limit t = any_to (length t) (λ j. ltb limit (get_or t j 0))

-- how many unknowns come to those of the map: with right sides "an extra unknown"
abbrev pub extra_unknowns : Extra → ℕ
extra_unknowns alone = 0
extra_unknowns (rights b) = 1

-- how many right sides there are; a map alone has none to be counted, so it may say p
abbrev pub sides_of : Extra → ℕ → ℕ
sides_of alone p = p
sides_of (rights b) p = length b

unfoldable pub shape_checks : ℕ → ℕ → ℕ → ℕ → ℕ → ℕ → Check
shape_checks p q extra coefs sides stack =
    count_checks p q extra coefs
    then refuse_if (not (eqb sides p)) 3
    then refuse_if (ltb stack ((q + extra) * (q + extra + 1))) 4

pub shape_then_lem : (e : Extra) (limit p q : ℕ) (coefs : List ℤ) (s : State) (own : Check)
    → shape_checks p q (extra_unknowns e) (length coefs) (sides_of e p) (length s.stack) then own ≡ shape_then (input_with e limit p q coefs) s own
unfolding shape_checks count_checks
shape_then_lem alone limit p q coefs s own =
    let none : q + 0 ≡ q = omega arith in
    let same : eqb p p ≡ true = eq-eqb p p refl in
    rw (none, same, none_refuses 3 (refuse_if (ltb (length s.stack) (q * (q + 1))) 4)) (simp then_assoc)
shape_then_lem (rights b) limit p q coefs s own =
    let one : q + 1 ≡ suc q = omega arith in
    rw (one, ← either_refuses (not (eqb (length coefs) (p * q))) (not (eqb (length b) p)) 3 _) (simp then_assoc)

-- where these find nothing, the unknowns are in range and the stack table has a row for each
pub shape_fits : (p q extra coefs sides stack : ℕ) → extra ≤ 1 → shape_checks p q extra coefs sides stack ≡ go → (1 ≤ q) × InShape (q + extra) stack
unfolding shape_checks
shape_fits p q extra coefs sides stack few e =
    let (counts, e2) = then_go (count_checks p q extra coefs) _ e in
    let (_, long) = then_go (refuse_if (not (eqb sides p)) 3) _ e2 in
    let m = counted p q extra coefs counts in
    let least = m.some in
    let most = m.unknowns in
    (least, record { least = omega arith; most = omega arith; rows = ltb-false stack ((q + extra) * (q + extra + 1)) (refuse_if_go _ 4 long) })

pub alone_fits : (p q coefs sides stack : ℕ) → shape_checks p q 0 coefs sides stack ≡ go → InShape q stack
alone_fits p q coefs sides stack e = let none : q + 0 ≡ q = omega arith in rw none at (shape_fits p q 0 coefs sides stack (omega arith) e).1
