-- An array filled by a closure, called with each number or with each element of another. Assumes nothing.
use Rattle.std.specs.Array.{IsFromFnResult, IsFromFnResultFrom, IsMapOf}
use Rattle.std.specs.Prelude.{◌≡◌, List, ℕ, zero, suc, ◌+◌, ◌≤◌, ◌<◌, length, get_or}
use Rattle.std.proofs.Common.{◌∙◌, arith}
use Rattle.std.proofs.Math.Decide.{ℕ_discrete}
use denote.Param.Members.{Mut, Called}

-- an array of n elements whose first i are those of f
pub record Filled {A : Type 0} (n : ℕ) (f : ℕ → A) (d : A) (l : List A) (i : ℕ) : Type 0 where
  pub upto : i ≤ n
  pub long : length l ≡ n
  pub same : (j : ℕ) → j < i → get_or l j d ≡ f j

-- the closure, called as f, answers h of its number, and stays as it is
abbrev pub Gives : {F B : Type 0} → Mut F (ℕ × Unit {0}) B → F → (ℕ → B) → Type 0
Gives {F} {B} g f h = (x : ℕ) (y : B) (q : F) → Called g f (x, tt) y q → (q ≡ f) × (y ≡ h x)

module _ {F B : Type 0} (g : Mut F (ℕ × Unit {0}) B) (f : F) (h : ℕ → B) (gives : Gives g f h) (d : B) (ys : List B) where
  filled_from : (i n : ℕ) → IsFromFnResultFrom g f ys i n → (j : ℕ) → i ≤ j → j < i + n → get_or ys j d ≡ h j
  filled_from i zero r j low high = absurd (omega arith)
  filled_from i (suc n) r j low high =
      let (stays, value) = gives i r.1 r.0 r.3 in
      elim (ℕ_discrete j i) [
        | yes e ↦ rw e (r.2.1 d ∙ value)
        | no ne ↦ filled_from (i + 1) n (rw stays at r.4) j (omega (arith, ne)) (omega arith)
      ]

pub filled_by_fn : {F B : Type 0} {g : Mut F (ℕ × Unit {0}) B} {f : F} {h : ℕ → B} {d : B} {ys : List B} {n : ℕ} → IsFromFnResult g f ys n → Gives g f h
    → Filled n h d ys n
filled_by_fn {g} {f} {h} {d} {ys} {n} r gives =
    record { upto = omega arith; long = r.long; same = λ j l. filled_from g f h gives d ys 0 n r.each j (omega arith) (omega arith) }

-- where what the closure holds makes no difference
pub filled_by_map : {F A B : Type 0} {g : Mut F (A × Unit {0}) B} {f : F} (h : A → B) (e : A) {d : B} {xs : List A} {ys : List B} {n : ℕ}
    → IsMapOf g f xs ys n → ((p : F) (x : A) (y : B) (q : F) → Called g p (x, tt) y q → y ≡ h x) → Filled n (λ i. h (get_or xs i e)) d ys n
filled_by_map h e {d} r gives =
    record { upto = omega arith; long = r.long; same = λ j l. let c = r.at j e d l in gives c.0 _ _ c.1 c.2 }
