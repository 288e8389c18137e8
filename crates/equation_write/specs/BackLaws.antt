-- What the writer wrote is read as the row that it was handed. Assumes nothing.
use Rattle.std.specs.Prelude.{ℕ, not, ◌&&◌, List, ◌++◌, ◌≡◌, refl, leb, eqb, ℤ, pos, nat_abs, length, get_or, take, drop}
use Rattle.std.proofs.Common.{sym, arith, leb→le, take_at, ltb-false, eqb-true}
use Rattle.std.proofs.lemmas.Bool.{not-false}
use Rattle.linear.proofs.TestLaws.{and_parts}
use Rattle.definitions.specs.Answers.{Check, refuse, go, refuse_if, refuse_first}
use Rattle.definitions.specs.System.{coef_limit, most_unknowns}
use Rattle.definitions.specs.Refusals.{out_of_range}
use Rattle.laws.proofs.AnswerLaws.{then_go, refuse_if_go}
use Rattle.equation_spec.specs.Outcome.{accepted, outcome}
use Rattle.equation_spec.specs.Writing.{written, write_checks, wrote, put_out, write}
use Rattle.equation_spec.proofs.RoundTrip.{written_back}
use Rattle.equation_write.specs.CallLaws.{passed}

-- "and the reader gives that row again": what the writer wrote is read as the row that it was handed
pub wrote_back : (q : ℕ) (row : List ℤ) (right : ℤ) (out : List ℕ) {n : ℕ} {space : List ℕ} → write q row right out ≡ wrote n space
    → outcome q q (take n space) ≡ accepted row right
unfolding write put_out write_checks
wrote_back q row right out {n} {space} e = by (write_checks q row right (length out)) refl e
  where
    by : (c : Check) → write_checks q row right (length out) ≡ c → put_out c (written row right) out ≡ wrote n space
        → outcome q q (take n space) ≡ accepted row right
    by (refuse k values) h f = absurd (let z : ◌≡◌ {A = ℕ} 0 1 = cc in omega arith)
    by go h f =
        let (a, h₁) = then_go (refuse_if (not (leb 1 q && leb q most_unknowns)) 2) _ h in
        let (b, h₂) = then_go (refuse_if (not (eqb (length row) q)) 3) _ h₁ in
        let (c, h₃) = then_go (refuse_first 7 (length row) (λ i. out_of_range (get_or row i (pos 0)))) _ h₂ in
        let (d, g) = then_go (refuse_if (out_of_range right) 15) _ h₃ in
        let (x, y) = and_parts (leb 1 q) (leb q most_unknowns) (rw (not-false (leb 1 q && leb q most_unknowns) (refuse_if_go _ 2 a)) tt) in
        let w : length row ≡ q = eqb-true (length row) q (not-false (eqb (length row) q) (refuse_if_go _ 3 b)) in
        let m : length (written row right) ≡ n = cc in
        let s : written row right ++ drop (length (written row right)) out ≡ space = cc in
        let t : take n space ≡ written row right = rw (← m, ← s) (take_at (written row right) _ (length (written row right)) refl) in
        let r = written_back row right (rw w (leb→le q most_unknowns y)) (passed row (sym c)).range
        (ltb-false coef_limit (nat_abs right) (refuse_if_go _ 15 d)) (rw w (leb→le 1 q x)) in
        rw t (rw w at r)
