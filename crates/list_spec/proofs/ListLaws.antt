-- Lists given place by place. Assumes nothing.
use Prim.Native.Nat.{ℕ, zero, suc, ◌+◌, ◌<◌}
use mathlib.Core.List.{List, [], ◌∷◌, ◌++◌}
use Rattle.std.proofs.Math.Logic.{inl, inr}
use Rattle.std.specs.Prelude.{◌≡◌, length, get_or, set, drop}
use Rattle.std.proofs.Math.Path.{refl}
use Rattle.std.proofs.Common.{sym, ◌∙◌, add-one, arith, ext_get_or}
use Rattle.std.proofs.Math.ListN.{length-append, get_or-append}
use Rattle.std.proofs.lemmas.List.{get_or_at}
use Rattle.std.proofs.Math.Seq.{set_at, drop-cons, append_snoc}
use Rattle.linear.specs.Cases.{below_suc}
use Rattle.list_spec.specs.Reading.{listed}

module _ {A : Type 0} where
  pub listed_length : (n : ℕ) (f : ℕ → A) → length (listed n f) ≡ n
  unfolding listed
  listed_length zero f = refl
  listed_length (suc n) f = length-append (listed n f) (f n ∷ []) ∙ omega (arith, listed_length n f)

  pub listed_at : (d : A) (n : ℕ) (f : ℕ → A) (i : ℕ) → i < n → get_or (listed n f) i d ≡ f i
  unfolding listed
  listed_at d zero f i l = absurd (omega arith)
  listed_at d (suc n) f i l =
      elim (below_suc l) [
        | inl m ↦ get_or-append (listed n f) (f n ∷ []) d i (omega (arith, listed_length n f)) ∙ listed_at d n f i m
        | inr e ↦ rw e (get_or_at (listed n f) (f n) [] d n (listed_length n f))
      ]

  -- a list is what stands at its places
  pub listed_all : (d : A) (xs : List A) (n : ℕ) (f : ℕ → A) → length xs ≡ n → ((i : ℕ) → i < n → f i ≡ get_or xs i d) → listed n f ≡ xs
  listed_all d xs n f e h =
      ext_get_or d (listed n f) xs (listed_length n f ∙ sym e) (λ i l. let m : i < n = omega (arith, listed_length n f) in listed_at d n f i m ∙ h i m)

  -- one more place of a table is written
  pub listed_next : (d : A) (n : ℕ) (f : ℕ → A) (table : List A) → n < length table
      → set (listed n f ++ drop n table) n (f n) ≡ listed (n + 1) f ++ drop (n + 1) table
  unfolding listed
  listed_next d n f table l =
      rw (add-one, drop-cons table n d, set_at (listed n f) (get_or table n d) (drop (suc n) table) (f n) n (listed_length n f), append_snoc)
