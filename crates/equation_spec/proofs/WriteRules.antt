-- When a row is refused as an equation to write, as rules in the papers' words and order, and that the writer's checks render them. Assumes nothing.
use Rattle.std.specs.Prelude.{ℕ, ◌<◌, List, ◌≢◌, ltb, ℤ, pos, nat_abs, length, get_or}
use Rattle.std.proofs.Common.{ltb→lt, lt→ltb}
use Rattle.definitions.specs.Refusals.{out_of_range}
use Rattle.definitions.specs.System.{most_unknowns, coef_limit}
use Rattle.laws.specs.CheckLaws.{Rules, ◌▹◌, end, placed, rule, Renders}
use Rattle.laws.proofs.CheckLaws.{decides_first, decides_if, renders_last, renders_then}
use Rattle.laws.specs.RefusalLaws.{Outside}
use Rattle.laws.proofs.RefusalLaws.{decides_outside, decides_unequal}
use Rattle.equation_spec.specs.Writing.{written, write_checks}

-- "The writer gives 2, 3, 7, 15, then 29, output space too short.": a row for q unknowns, into so many bytes
abbrev pub write_rules : ℕ → List ℤ → ℤ → ℕ → Rules
write_rules q row right bytes =
    rule 2 (Outside 1 most_unknowns q)
    ▹ rule 3 (length row ≢ q)
    ▹ placed 7 (length row) (λ i. coef_limit < nat_abs (get_or row i (pos 0)))
    ▹ rule 15 (coef_limit < nat_abs right)
    ▹ rule 29 (bytes < length (written row right))
    ▹ end

-- Each refusal is given in its case, in this order, and in no other; a row that is in no case is written.
pub write_renders : (q : ℕ) (row : List ℤ) (right : ℤ) (bytes : ℕ) → Renders (write_checks q row right bytes) (write_rules q row right bytes)
unfolding write_checks
write_renders q row right bytes =
    renders_then (decides_outside 2 1 most_unknowns q)
    (renders_then (decides_unequal 3 (length row) q)
    (renders_then (decides_first 7 (length row) (λ i. out_of_range (get_or row i (pos 0))) _ (λ i l. ltb→lt coef_limit (nat_abs (get_or row i (pos 0))))
    (λ i l. lt→ltb coef_limit (nat_abs (get_or row i (pos 0)))))
    (renders_then (decides_if (out_of_range right) 15 _ (ltb→lt coef_limit (nat_abs right)) (lt→ltb coef_limit (nat_abs right)))
    (renders_last (decides_if (ltb bytes (length (written row right))) 29 _ (ltb→lt bytes (length (written row right)))
    (lt→ltb bytes (length (written row right))))))))
