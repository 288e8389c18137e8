-- What `find` answers over a range, as a test over its places. Assumes nothing.
use Rattle.std.proofs.Common.{◌≡◌, sym, ℕ, Bool, true, false, List, Option}
use Rattle.std.proofs.iter.Yields.{nat_range_steps}
use Rattle.std.proofs.lemmas.Iterator.{first_from_Range}
use Rattle.std.specs.Fn.{CalledAt}
use Rattle.std.specs.Iterator.{YieldsThen}
use Rattle.std.specs.List.{FoldsTo}
use Rattle.std.specs.Option.{MatchOption}
use Rattle.std.specs.declared.ops.Range.{Range}
use Rattle.engine_search.specs.Firsts.{IsFirst}
use denote.Param.Members.{Mut}
use denote.Ref.{Bor}

-- what `find` leaves known, as std's clause `ran` has it
abbrev pub FindRan : {F : Type 0} → Mut F (Bor ℕ × Unit {0}) Bool → (s u : Range ℕ) → F → Option ℕ → Type 0
FindRan {F} g s u callee r =
    (xs : List ℕ) × (j : F) × YieldsThen nat_range_steps s xs r u × FoldsTo (λ p x q. CalledAt g p x false q) callee xs j
    × MatchOption r (Unit {0}) (λ x. (h : F) × CalledAt g j x true h)

-- the closure, called as `callee`, answers f of the place, and stays as it is
pub find_in_range : {F : Type 0} {g : Mut F (Bor ℕ × Unit {0}) Bool} {s : Range ℕ} (u : Range ℕ) {callee : F} (r : Option ℕ) (from n : ℕ) (f : ℕ → Bool)
    → FindRan g s u callee r → s ≡ record { start = from; end = n }
    → ((x : ℕ) (b : Bool) (q : F) → CalledAt g callee x b q → (q ≡ callee) × (b ≡ f x)) → IsFirst from n f r
find_in_range {g} {s} u {callee} r from n f ran at each =
    rw at at (first_from_Range {g = g} s u callee r (λ x. f x ≡ true) (λ x. f x ≡ false) ran (λ x q k. sym (each x true q k).1)
    (λ x q k. let e = each x false q k in (e.0, sym e.1)))
