-- The test on a row within the component limit, of a whole table or tuple, and the other way round. Assumes nothing.
use Rattle.std.specs.Prelude.{◌≡◌, refl, List, Bool, true, false, not, ◌&&◌, ◌||◌, ℕ, zero, suc, ◌+◌, leb, ltb, get_or}
use Rattle.std.proofs.Common.{◌∙◌, ap, ap₂, inl, inr, arith, le-leb, le-ltb, lt-ltb}
use Rattle.std.proofs.lemmas.Bool.{lt-leb}
use Rattle.linear.proofs.Cases.{split}
use Rattle.linear.proofs.TestLaws.{all_same}
use Rattle.linear.specs.Tests.{all_to, any_to}
use Rattle.definitions.specs.System.{most_component}
use Rattle.table_rows.specs.Small.{row_at}

pub small_whole : (n : ℕ) (table : List ℕ) → all_to n (λ j. leb (row_at table 0 j) most_component) ≡ all_to n (λ i. leb (get_or table i 0) most_component)
small_whole n table = all_same n _ _ (λ i l. let e : 0 + i ≡ i = omega arith in rw e refl)

not_both : (a b : Bool) → not (a && b) ≡ not a || not b
not_both true b = refl
not_both false b = refl

not_at_most : (x m : ℕ) → not (leb x m) ≡ ltb m x
not_at_most x m = elim (split m x) [ inl l ↦ rw (lt-leb x m l, lt-ltb m x l) refl | inr l ↦ rw (le-leb x m l, le-ltb m x l) refl ]

none_above : (n : ℕ) (f : ℕ → ℕ) (m : ℕ) → not (all_to n (λ i. leb (f i) m)) ≡ any_to n (λ i. ltb m (f i))
unfolding all_to any_to
none_above zero f m = refl
none_above (suc n) f m = not_both (all_to n (λ i. leb (f i) m)) (leb (f n) m) ∙ ap₂ ◌||◌ (none_above n f m) (not_at_most (f n) m)

pub large_whole : (n : ℕ) (table : List ℕ) → not (all_to n (λ j. leb (row_at table 0 j) most_component)) ≡ any_to n (λ i. ltb most_component (get_or table i 0))
large_whole n table = ap not (small_whole n table) ∙ none_above n (λ i. get_or table i 0) most_component
