-- The first place at which a test holds, as `position` finds it in a slice and over the places below n, and the refusal of it. Assumes nothing.
use Rattle.std.proofs.Common.{◌≡◌, refl, ◌∙◌, sym, ℕ, zero, suc, ◌+◌, ◌<◌, Bool, true, false, List, [], ◌∷◌, length, get_or, Option, Some, None, arith}
use Rattle.std.proofs.Common.{add-one}
use Rattle.std.proofs.Math.Nat.{zero-add}
use Rattle.std.proofs.iter.Yields.{fronts, nat_range_steps}
use Rattle.std.proofs.lemmas.Iterator.{YieldsList-from_range, YieldsList-from_slice, IsFirst-from_position}
use Rattle.std.proofs.lemmas.List.FromFn.{length-range_with_len, get_or-range_with_len}
use Rattle.std.specs.Fn.{Called}
use Rattle.std.specs.Iterator.{YieldsThen}
use Rattle.std.specs.List.{AllWithin, HoldsAt, range_with_len, FoldsTo}
use Rattle.std.specs.Option.{MatchOption}
use Rattle.std.specs.Slice.Iter.{iter_rest}
use Rattle.std.specs.declared.ops.Range.{Range}
use Rattle.std.specs.declared.slice.Iter.{Iter}
use Rattle.chains.proofs.ChainLaws.{Answers}
use Rattle.definitions.specs.Answers.{go, refuse, refuse_first}
use Rattle.laws.proofs.AnswerLaws.{refuse_next, refuse_at}
use denote.Param.Members.{Mut}
use denote.Ref.{Bor}

-- ---- what `position` leaves known, as std's clause `ran` has it

module _ {S A F : Type 0} (steps : S → Option A → S → Type 0) (g : Mut F (A × Unit {0}) Bool) (s u : S) (callee : F) (r : Option ℕ) where
  abbrev pub PositionRan : Type 0
  PositionRan =
      (xs : List A) × (o : Option A) × (j : F) × YieldsThen steps s xs o u × FoldsTo (λ p x q. Called g p (x, tt) false q) callee xs j
      × MatchOption o (r ≡ None) (λ x. (r ≡ Some (length xs)) × ((h : F) × Called g j (x, tt) true h))

-- r is the first place below n at which f holds, or none
abbrev pub First : ℕ → (ℕ → Bool) → Option ℕ → Type 0
First n f r = MatchOption r ((i : ℕ) → i < n → f i ≡ false) (λ i. (i < n) × (f i ≡ true) × ((k : ℕ) → k < i → f k ≡ false))

by_places : {B : Type 0} (f : B → Bool) (d : B) (xs : List B) (r : Option ℕ)
    → MatchOption r (AllWithin (λ x. f x ≡ false) xs 0 (length xs))
    (λ i. (i < length xs) × HoldsAt (λ x. f x ≡ true) xs i × AllWithin (λ x. f x ≡ false) xs 0 i)
    → First (length xs) (λ i. f (get_or xs i d)) r
by_places f d xs None h = λ i l. h i d (omega arith) l
by_places f d xs (Some i) h = (h.0, h.1 d, λ k l. h.2 k d (omega arith) l)

pub first_in_slice : {A F : Type 0} {g : Mut F (Bor A × Unit {0}) Bool} {s : Iter A} {xs : List A} (f : A → Bool) (d : A) {u : Iter A} {callee : F}
    {r : Option ℕ}
    → PositionRan fronts g s u callee r → iter_rest s ≡ xs → Answers g (λ y. y.now) callee f → First (length xs) (λ i. f (get_or xs i d)) r
first_in_slice {xs} f d {u} {callee} {r} ran at each =
    by_places f d xs r
    (IsFirst-from_position u callee r (λ x. f x ≡ true) (λ x. f x ≡ false) ran (YieldsList-from_slice xs at)
    (λ x q k. sym (each x true q k).1) (λ x q k. ((each x false q k).0, sym (each x false q k).1)))

at_place : (n i : ℕ) → i < n → get_or (range_with_len 0 n) i 0 ≡ i
at_place n i l = get_or-range_with_len 0 n i 0 l ∙ zero-add i

in_range : (n : ℕ) (f : ℕ → Bool) (r : Option ℕ) → First (length (range_with_len 0 n)) (λ i. f (get_or (range_with_len 0 n) i 0)) r → First n f r
in_range n f None h = λ i l. rw (at_place n i l) at (h i (rw (length-range_with_len 0 n) l))
in_range n f (Some i) (l, e, b) =
    let m : i < n = rw (length-range_with_len 0 n) at l in (
      m,
      rw (at_place n i m) at e,
      λ k h. let o : k < n = omega arith in rw (at_place n k o) at (b k h),
    )

pub first_in_range : {F : Type 0} {g : Mut F (ℕ × Unit {0}) Bool} {s : Range ℕ} {n : ℕ} (f : ℕ → Bool) {u : Range ℕ} {callee : F} {r : Option ℕ}
    → PositionRan nat_range_steps g s u callee r → s ≡ record { start = 0; end = n } → Answers g (λ x. x) callee f → First n f r
first_in_range {n} f {u} {callee} {r} ran at each =
    in_range n f r
    (by_places f 0 (range_with_len 0 n) r
    (IsFirst-from_position u callee r (λ x. f x ≡ true) (λ x. f x ≡ false) ran (YieldsList-from_range 0 n n at (omega arith))
    (λ x q k. sym (each x true q k).1) (λ x q k. ((each x false q k).0, sym (each x false q k).1))))

-- ---- the refusal of the first place

pub none_refused : (n k : ℕ) (f : ℕ → Bool) → ((i : ℕ) → i < k → f i ≡ false) → refuse_first n k f ≡ go
unfolding refuse_first
none_refused n zero f h = refl
none_refused n (suc k) f h = rw add-one at (refuse_next n k f (none_refused n k f (λ i l. h i (omega arith))) (h k (omega arith)))

pub first_refused : (n k : ℕ) (f : ℕ → Bool) {i : ℕ} → (i < k) × (f i ≡ true) × ((j : ℕ) → j < i → f j ≡ false)
    → refuse_first n k f ≡ refuse n ((i + 1) ∷ [])
first_refused n k f {i} (l, e, b) = refuse_at n k f i l (none_refused n i f b) e
