-- A refusal with the first place, from 1, of a slice at which a test holds, or none, from what a test of all or a search for that place finds. Assumes nothing.
use Rattle.std.specs.Prelude.{◌≡◌, ℕ, zero, suc, ◌+◌, ◌<◌, Bool, true, false, List, [], ◌∷◌, length, get_or, Option, Some, None, refl, T}
use Rattle.std.proofs.Common.{arith, sym, add-one}
use Rattle.std.specs.List.{AllWithin, HoldsAt}
use Rattle.std.specs.Option.{MatchOption}
use Rattle.linear.specs.Tests.{any_to}
use Rattle.linear.proofs.TestLaws.{any_from}
use Rattle.definitions.specs.Answers.{go, refuse, refuse_first}
use Rattle.laws.proofs.AnswerLaws.{refuse_at, refuse_next}
use Rattle.laws.proofs.CheckLaws.{first_goes}

false_not : {b : Bool} → b ≡ false → ¬ (T b)
false_not e h = rw e at h

module _ {X : Type 0} (n : ℕ) (f : X → Bool) (d : X) (xs : List X) where
  none_before : (k : ℕ) → AllWithin (λ x. f x ≡ false) xs 0 k → refuse_first n k (λ i. f (get_or xs i d)) ≡ go
  unfolding refuse_first
  none_before zero none = refl
  none_before (suc k) none =
      let before = none_before k (λ j e low high. none j e low (omega arith)) in
      rw (add-one k) at (refuse_next n k (λ i. f (get_or xs i d)) before (none k d (omega arith) (omega arith)))

  abbrev pub Found : Option ℕ → Type 0
  Found r =
      MatchOption r (AllWithin (λ x. f x ≡ false) xs 0 (length xs))
      (λ i. (i < length xs) × HoldsAt (λ x. f x ≡ true) xs i × AllWithin (λ x. f x ≡ false) xs 0 i)

  pub place_found : (i : ℕ) → Found (Some i) → refuse n ((i + 1) ∷ []) ≡ refuse_first n (length xs) (λ i. f (get_or xs i d))
  place_found i h = sym (refuse_at n (length xs) (λ i. f (get_or xs i d)) i h.0 (none_before i h.2) (h.1 d))

  pub no_place : Found None → go ≡ refuse_first n (length xs) (λ i. f (get_or xs i d))
  no_place h = sym (none_before (length xs) h)

  pub none_at : any_to (length xs) (λ i. f (get_or xs i d)) ≡ false → go ≡ refuse_first n (length xs) (λ i. f (get_or xs i d))
  none_at e =
      let out : ℕ → Bool = λ i. f (get_or xs i d) in
      sym (first_goes n (length xs) out (λ i l y. false_not e (any_from (length xs) out i l y)))
