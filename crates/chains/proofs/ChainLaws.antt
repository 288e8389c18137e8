-- What `all` and `any` answer over the places below n and over a slice, as tests over places. Each lemma takes the call's clause `ran`, what the chain
-- starts from, and what the closure answers. Assumes nothing.
use Rattle.std.proofs.Common.{◌≡◌, refl, ap, ◌∙◌, ℕ, zero, suc, ◌+◌, Bool, true, false, List, [], ◌∷◌, ◌++◌, length, get_or, Option, arith, take, ◌≤◌, add-one}
use Rattle.std.proofs.Math.Nat.{zero-add}
use Rattle.std.proofs.Math.Seq.{take-length}
use Rattle.std.proofs.iter.Yields.{fronts, nat_range_steps}
use Rattle.std.proofs.lemmas.Iterator.{YieldsList-from_range, YieldsList-from_slice}
use Rattle.std.proofs.lemmas.Iterator.Search.{all_from_yields_List, any_from_yields_List}
use Rattle.std.proofs.lemmas.List.Folds.{list_all-append, list_all_more, list_any-append, list_any_more}
use Rattle.std.specs.Fn.{Called}
use Rattle.std.specs.Iterator.{YieldsThen}
use Rattle.std.specs.List.{list_all, list_any, range_with_len, FoldsTo}
use Rattle.std.specs.Option.{MatchOption}
use Rattle.std.specs.Slice.Iter.{iter_rest}
use Rattle.std.specs.declared.ops.Range.{Range}
use Rattle.std.specs.declared.slice.Iter.{Iter}
use Rattle.linear.specs.Tests.{all_to, any_to}
use denote.Param.Members.{Mut}
use denote.Ref.{Bor}

-- ---- the places below n, as a list

range_last : (a n : ℕ) → range_with_len a (suc n) ≡ range_with_len a n ++ (a + n) ∷ []
range_last a zero = ap (λ x. x ∷ []) (omega arith)
range_last a (suc n) = ap (λ xs. a ∷ xs) (range_last (a + 1) n ∙ ap (λ x. range_with_len (a + 1) n ++ x ∷ []) (omega arith))

all_last : (f : ℕ → Bool) (x : ℕ) → list_all f (x ∷ []) ≡ f x
all_last f x = grind arith

all_over_range : (n : ℕ) (f : ℕ → Bool) → list_all f (range_with_len 0 n) ≡ all_to n f
unfolding all_to
all_over_range zero f = refl
all_over_range (suc n) f =
    ap (list_all f) (range_last 0 n) ∙ list_all-append f (range_with_len 0 n) ((0 + n) ∷ []) ∙ rw (all_over_range n f, all_last f (0 + n), zero-add n) refl

any_last : (f : ℕ → Bool) (x : ℕ) → list_any f (x ∷ []) ≡ f x
any_last f x = grind arith

any_over_range : (n : ℕ) (f : ℕ → Bool) → list_any f (range_with_len 0 n) ≡ any_to n f
unfolding any_to
any_over_range zero f = refl
any_over_range (suc n) f =
    ap (list_any f) (range_last 0 n) ∙ list_any-append f (range_with_len 0 n) ((0 + n) ∷ []) ∙ rw (any_over_range n f, any_last f (0 + n), zero-add n) refl

-- ---- what `all` and `any` leave known, as std's clause `ran` has it

module _ {S A F : Type 0} (steps : S → Option A → S → Type 0) (g : Mut F (A × Unit {0}) Bool) (s u : S) (callee : F) (r : Bool) where
  abbrev pub AllRan : Type 0
  AllRan =
      (xs : List A) × (o : Option A) × (j : F) × YieldsThen steps s xs o u × FoldsTo (λ p x q. Called g p (x, tt) true q) callee xs j
      × MatchOption o (r ≡ true) (λ x. (r ≡ false) × ((h : F) × Called g j (x, tt) false h))

  abbrev pub AnyRan : Type 0
  AnyRan =
      (xs : List A) × (o : Option A) × (j : F) × YieldsThen steps s xs o u × FoldsTo (λ p x q. Called g p (x, tt) false q) callee xs j
      × MatchOption o (r ≡ false) (λ x. (r ≡ true) × ((h : F) × Called g j (x, tt) true h))

-- the closure, called as `callee`, answers f of what v reads of an item, and stays as it is
abbrev pub Answers : {A B F : Type 0} → Mut F (A × Unit {0}) Bool → (A → B) → F → (B → Bool) → Type 0
Answers {A} {F} g v callee f = (x : A) (b : Bool) (q : F) → Called g callee (x, tt) b q → (q ≡ callee) × (b ≡ f (v x))

-- ---- over the places below n

pub all_in_range : {F : Type 0} {g : Mut F (ℕ × Unit {0}) Bool} {s : Range ℕ} {n : ℕ} {f : ℕ → Bool} {u : Range ℕ} {callee : F} {r : Bool}
    → AllRan nat_range_steps g s u callee r → s ≡ record { start = 0; end = n } → Answers g (λ x. x) callee f → r ≡ all_to n f
all_in_range {n} {f} ran at each = all_from_yields_List f _ _ _ ran (YieldsList-from_range 0 n n at (omega arith)) each ∙ all_over_range n f

pub any_in_range : {F : Type 0} {g : Mut F (ℕ × Unit {0}) Bool} {s : Range ℕ} {n : ℕ} {f : ℕ → Bool} {u : Range ℕ} {callee : F} {r : Bool}
    → AnyRan nat_range_steps g s u callee r → s ≡ record { start = 0; end = n } → Answers g (λ x. x) callee f → r ≡ any_to n f
any_in_range {n} {f} ran at each = any_from_yields_List f _ _ _ ran (YieldsList-from_range 0 n n at (omega arith)) each ∙ any_over_range n f

-- ---- over a slice

pub all_in_slice : {A F : Type 0} {g : Mut F (Bor A × Unit {0}) Bool} {s : Iter A} {xs : List A} (f : A → Bool) {u : Iter A} {callee : F} {r : Bool}
    → AllRan fronts g s u callee r → iter_rest s ≡ xs → Answers g (λ y. y.now) callee f → r ≡ list_all f xs
all_in_slice {xs} f ran at each = all_from_yields_List f _ _ _ ran (YieldsList-from_slice xs at) each

pub any_in_slice : {A F : Type 0} {g : Mut F (Bor A × Unit {0}) Bool} {s : Iter A} {xs : List A} (f : A → Bool) {u : Iter A} {callee : F} {r : Bool}
    → AnyRan fronts g s u callee r → iter_rest s ≡ xs → Answers g (λ y. y.now) callee f → r ≡ list_any f xs
any_in_slice {xs} f ran at each = any_from_yields_List f _ _ _ ran (YieldsList-from_slice xs at) each

-- ---- over a slice, by the places of its items

all_front : {A : Type 0} (f : A → Bool) (d : A) (xs : List A) (n : ℕ) → n ≤ length xs → list_all f (take n xs) ≡ all_to n (λ j. f (get_or xs j d))
unfolding all_to
all_front f d xs zero l = refl
all_front f d xs (suc n) l = rw (← add-one n) (rw (all_front f d xs n (omega arith)) at (list_all_more f xs n d (omega arith)))

any_front : {A : Type 0} (f : A → Bool) (d : A) (xs : List A) (n : ℕ) → n ≤ length xs → list_any f (take n xs) ≡ any_to n (λ j. f (get_or xs j d))
unfolding any_to
any_front f d xs zero l = refl
any_front f d xs (suc n) l = rw (← add-one n) (rw (any_front f d xs n (omega arith)) at (list_any_more f xs n d (omega arith)))

pub all_by_places : {A : Type 0} (f : A → Bool) (d : A) (xs : List A) → list_all f xs ≡ all_to (length xs) (λ j. f (get_or xs j d))
all_by_places f d xs = rw (take-length xs) at (all_front f d xs (length xs) (omega arith))

pub any_by_places : {A : Type 0} (f : A → Bool) (d : A) (xs : List A) → list_any f xs ≡ any_to (length xs) (λ j. f (get_or xs j d))
any_by_places f d xs = rw (take-length xs) at (any_front f d xs (length xs) (omega arith))
