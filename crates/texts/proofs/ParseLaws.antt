-- What was read, from what it came to. Assumes nothing.
use Rattle.std.specs.Prelude.{ℕ, Bool, true, false, cond, List, ◌≡◌, refl}
use Rattle.std.proofs.Common.{arith}
use Rattle.texts.specs.Reading.{Parse, parsed, malformed, and_then}

pub not_parsed : {A P : Type 0} {a : A} {t : List ℕ} → malformed ≡ parsed a t → P
not_parsed e = absurd (let z : ◌≡◌ {A = ℕ} 0 1 = cc in omega arith)

pub same : {A : Type 0} {a b : A} {t r : List ℕ} → parsed a t ≡ parsed b r → (a ≡ b) × (t ≡ r)
same e = (cc, cc)

pub cond_cases : {A P : Type 0} (d : Bool) {x y z : A} → cond d x y ≡ z → (d ≡ true → x ≡ z → P) → (d ≡ false → y ≡ z → P) → P
cond_cases true e f g = f refl e
cond_cases false e f g = g refl e

pub and_then_lem : {A B : Type 0} (p : Parse A) (f : A → List ℕ → Parse B) {b : B} {r : List ℕ}
    → and_then p f ≡ parsed b r → (a : A) × (t : List ℕ) × (p ≡ parsed a t) × (f a t ≡ parsed b r)
unfolding and_then
and_then_lem (parsed a t) f e = (a, t, refl, e)
and_then_lem malformed f e = not_parsed e

pub then_malformed : {A B : Type 0} {p : Parse A} (f : A → List ℕ → Parse B) → malformed ≡ p → malformed ≡ and_then p f
unfolding and_then
then_malformed f e = rw (← e)

pub then_parsed : {A B : Type 0} {p : Parse A} (f : A → List ℕ → Parse B) {a : A} {t : List ℕ} → parsed a t ≡ p → f a t ≡ and_then p f
unfolding and_then
then_parsed f e = rw (← e)
