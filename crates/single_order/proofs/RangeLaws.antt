-- What `find`, and `count` after `filter`, answer over the places below n, in the mathematics' words. Assumes nothing.
use Rattle.std.proofs.Common.{◌≡◌, refl, ap, sym, ◌∙◌, ℕ, zero, suc, ◌+◌, ◌≤◌, ◌<◌, Bool, true, false, cond, List, [], ◌∷◌, ◌++◌, length, arith}
use Rattle.std.proofs.Common.{Option, None, Some}
use Rattle.std.proofs.Math.Nat.{zero-add}
use Rattle.std.proofs.iter.Yields.{nat_range_steps}
use Rattle.std.proofs.lemmas.Iterator.{YieldsList-from_range, first_from_Range}
use Rattle.std.proofs.lemmas.Iterator.Consumers.{count_from_yields_List, YieldsList-from_filter}
use Rattle.std.proofs.lemmas.List.Sums.{length-filter, sum_by-append}
use Rattle.std.specs.Fn.{CalledAt}
use Rattle.std.specs.Iterator.{YieldsThen, Drains}
use Rattle.std.specs.Iterator.Adapters.{filter_source, filter_callee, filter_steps}
use Rattle.std.specs.List.{count_by, range_with_len, FoldsTo}
use Rattle.std.specs.Option.{MatchOption}
use Rattle.std.specs.declared.ops.Range.{Range}
use Rattle.std.specs.declared.iter.Filter.{Filter}
use borrow.Author.Tests.{lt-ltb, le-ltb}
use Rattle.linear.specs.Tests.{count_to, number}
use Rattle.single_spec.specs.First.{find_to}
use Rattle.single_spec.proofs.FirstLaws.{first_is}
use Rattle.single_order.specs.Rows.{place_below}
use denote.Param.Members.{Mut}
use denote.Ref.{Bor}

-- the closure, called as `callee`, answers f of the place, and stays as it is
abbrev pub Answers : {F : Type 0} → Mut F (Bor ℕ × Unit {0}) Bool → F → (ℕ → Bool) → Type 0
Answers {F} g callee f = (x : ℕ) (b : Bool) (q : F) → CalledAt g callee x b q → (q ≡ callee) × (b ≡ f x)

-- ---- the first place

found : (n : ℕ) (f : ℕ → Bool) (r : Option ℕ)
    → MatchOption r ((k : ℕ) → 0 ≤ k → k < n → f k ≡ false) (λ i. (0 ≤ i) × (i < n) × (f i ≡ true) × ((k : ℕ) → 0 ≤ k → k < i → f k ≡ false))
    → r ≡ place_below n (find_to n f)
found n f None h =
    let e : find_to n f ≡ n = first_is n f n
    (record { most = omega arith; before = λ k l. rw (h k (omega arith) l) (λ y. y); holds = λ l. absurd (omega arith) }) in
    rw (e, le-ltb n n (omega arith))
found n f (Some i) (_, l, y, before) =
    let e : find_to n f ≡ i = first_is n f i
    (record { most = omega (arith, l); before = λ k u. rw (before k (omega arith) u) (λ z. z); holds = λ u. rw y tt }) in
    rw (e, lt-ltb i n l)

pub found_in_range : {F : Type 0} {g : Mut F (Bor ℕ × Unit {0}) Bool} {s : Range ℕ} {n : ℕ} {f : ℕ → Bool} {callee : F} {r : Option ℕ} (u : Range ℕ)
    → ((xs : List ℕ) × (j : F) × YieldsThen nat_range_steps s xs r u × FoldsTo (λ p x q. CalledAt g p x false q) callee xs j
    × MatchOption r (Unit {0}) (λ x. (h : F) × CalledAt g j x true h))
    → s ≡ record { start = 0; end = n } → Answers g callee f → r ≡ place_below n (find_to n f)
found_in_range {s} {n} {f} {callee} {r} u ran at each =
    found n f r
    (rw at at (first_from_Range s u callee r (λ i. f i ≡ true) (λ i. f i ≡ false) ran (λ x q k. sym (each x true q k).1)
    (λ x q k. let a = each x false q k in (a.0, sym a.1))))

-- ---- how many

range_last : (a n : ℕ) → range_with_len a (suc n) ≡ range_with_len a n ++ (a + n) ∷ []
range_last a zero = ap (λ x. x ∷ []) (omega arith)
range_last a (suc n) = ap (λ xs. a ∷ xs) (range_last (a + 1) n ∙ ap (λ x. range_with_len (a + 1) n ++ x ∷ []) (omega arith))

one : (b : Bool) → 0 + cond b 1 0 ≡ number b
one true = refl
one false = refl

count_over_range : (n : ℕ) (f : ℕ → Bool) → count_by f (range_with_len 0 n) ≡ count_to n f
unfolding count_to
count_over_range zero f = refl
count_over_range (suc n) f =
    ap (count_by f) (range_last 0 n) ∙ sum_by-append (λ x. cond (f x) 1 0) (range_with_len 0 n) ((0 + n) ∷ [])
    ∙ rw (count_over_range n f, zero-add n) (ap (λ x. count_to n f + x) (one (f n)))

pub counted_in_range : {F : Type 0} {g : Mut F (Bor ℕ × Unit {0}) Bool} {s : Filter (Range ℕ) F} {n : ℕ} {f : ℕ → Bool} {callee : F} {r : ℕ}
    → ((xs : List ℕ) × Drains (filter_steps nat_range_steps g) s xs × (r ≡ length xs))
    → filter_source s ≡ record { start = 0; end = n } → filter_callee s ≡ callee → Answers g callee f → r ≡ count_to n f
counted_in_range {g} {s} {n} {f} ran at kept each =
    count_from_yields_List s _ ran (YieldsList-from_filter g f (YieldsList-from_range 0 n n at (omega arith)) kept each)
    ∙ length-filter f (range_with_len 0 n) ∙ count_over_range n f
