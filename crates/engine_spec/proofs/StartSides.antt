-- Theorems about what specs/StartSides.antt defines. Assumes nothing.
use Rattle.std.specs.Prelude.{◌≡◌, List, ℕ, suc, ◌*◌, ◌≤◌, ◌<◌, eqb, ltb, ℤ, pos, nat_abs, get_or, length}
use Rattle.std.proofs.Common.{eqb→eq, ltb→lt, lt→ltb}
use Rattle.std.proofs.Math.Dec.{eqb_refl}
use Rattle.linear.proofs.TestLaws.{any_at, any_from}
use Rattle.definitions.specs.Input.{bound_of}
use Rattle.definitions.specs.Refusals.{out_of_range}
use Rattle.definitions.specs.System.{coef_limit, most_component}
use Rattle.laws.specs.CheckLaws.{Renders}
use Rattle.laws.proofs.CheckLaws.{decides_first, decides_if, decides_not, renders_last, renders_then}
use Rattle.laws.proofs.RefusalLaws.{decides_outside, decides_unequal}
use Rattle.engine_spec.specs.Beside.{coefficient_limit, most_columns, most_rows}
use Rattle.engine_spec.specs.Engine.{Work}
use Rattle.engine_spec.specs.Reduction.{is_small}
use Rattle.engine_spec.proofs.Rules.{short_decides, small_from, small_to}
use Rattle.engine_spec.specs.StartSides.{side_at, sides_checks, sides_rules}

pub sides_renders : (p q : ℕ) (coefs rights : List ℤ) (lower : List ℕ) (most : ℕ) (w : Work)
    → Renders (sides_checks p q coefs rights lower most w) (sides_rules p q coefs rights lower most w)
unfolding sides_checks
sides_renders p q coefs rights lower most w =
    renders_then (decides_outside 1 1 most_rows p)
    (renders_then (decides_outside 2 1 most_columns q)
    (renders_then (decides_if (eqb q most_columns) 2 (q ≡ most_columns) (eqb→eq q most_columns) (λ e. rw e (eqb_refl most_columns)))
    (renders_then (decides_unequal 3 (length coefs) (p * q))
    (renders_then (decides_unequal 3 (length rights) p)
    (renders_then (short_decides p (suc q) most w)
    (renders_then (decides_unequal 5 (length lower) q)
    (renders_then (decides_first 7 (p * q) (λ k. ltb coef_limit (nat_abs (get_or coefs k (pos 0)))) _
    (λ k l. ltb→lt coef_limit (nat_abs (get_or coefs k (pos 0)))) (λ k l. lt→ltb coef_limit (nat_abs (get_or coefs k (pos 0)))))
    (renders_then (decides_not (is_small q (bound_of lower)) 8 ((j : ℕ) → j < q → bound_of lower j ≤ most_component) (small_from q (bound_of lower))
    (small_to q (bound_of lower)))
    (renders_then (decides_if _ 15 _
    (λ h. let (k, l, g) = any_at (length rights) (λ k. out_of_range (get_or rights k (pos 0))) h
    in (k, l, ltb→lt coef_limit (nat_abs (get_or rights k (pos 0))) g))
    (λ (k, l, g). any_from (length rights) (λ k. out_of_range (get_or rights k (pos 0))) k l (lt→ltb coef_limit (nat_abs (get_or rights k (pos 0))) g)))
    (renders_last (decides_first 35 p (λ i. ltb coefficient_limit (nat_abs (side_at q coefs rights lower i))) _
    (λ i l. ltb→lt coefficient_limit (nat_abs (side_at q coefs rights lower i)))
    (λ i l. lt→ltb coefficient_limit (nat_abs (side_at q coefs rights lower i))))))))))))))
