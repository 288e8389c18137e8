-- Which generators make a child, from the images kept beside the stack; and one turn of trying them. Assumes nothing.
use Rattle.std.specs.Prelude.{◌≡◌, Bool, true, false, not, ◌&&◌, cond, List, ℕ, suc, ◌+◌, ◌*◌, ◌^◌, ◌%◌, ◌≤◌, ◌<◌, ltb, ℤ, pos, length, get_or, Result, Ok, Err}
use Rattle.std.proofs.Math.Path.{refl}
use Rattle.std.proofs.Common.{sym, ◌∙◌, ap, one-mul, add-one, arith, lit<, to_z-of_z, of_z, to_z}
use Rattle.std.proofs.Math.Bool.{and-false}
use Rattle.std.proofs.Math.Nat.{pow-le-pow_right}
use Rattle.std.specs.Int.Signed.{lt_z}
use Rattle.std.specs.Int.{w64}
use Rattle.linear.proofs.LoopLaws.{any_holds, any_next}
use Rattle.linear.specs.Systems.{inner}
use Rattle.linear.proofs.TestLaws.{any_same}
use Rattle.linear.specs.Tests.{any_to, number}
use Rattle.linear.specs.Tuples.{Same}
use Rattle.definitions.specs.Step.{marks_to}
use Rattle.definitions.specs.System.{covered, most_component}
use Rattle.definitions.specs.Tables.{at, frozen}
use Rattle.laws.proofs.SystemLaws.{covered_same}
use Rattle.laws.proofs.TableLaws.{row_fits}
use Rattle.laws.proofs.MarkLaws.{shift_one_wide}
use Rattle.table_rows.specs.Rows.{tuple}
use Rattle.products.specs.Marks.{any_zero, marks_below, marks_skip, marks_zero}
use Rattle.calls.specs.declared.Refusal.{Refusal}
use Rattle.calls.specs.declared.Refusal.TheVariants.{ComponentLimit}
use Rattle.table_rows.specs.Small.{SmallRow}
use Rattle.desk_spec.specs.Desks.{plus}
use Rattle.desk_rows.specs.Images.{Factors, entry, product_fits}
use Rattle.desk_rows.specs.Rows.{Raised, SmallTuple}

-- generator j is not marked, and the inner product of rows 64 and j is below zero
abbrev pub open_by : ℕ → List ℤ → ℕ → ℕ → Bool
open_by p images marks j = not (frozen marks j) && lt_z (inner p (entry images 64) (entry images j)) (pos 0)

-- and the raised tuple is not at or above any of the rows listed
unfoldable pub made_by : (p q : ℕ) (generators : List ℕ) (images : List ℤ) (list : List ℕ) (found : ℕ) (x : ℕ → ℕ) (marks j : ℕ) → Bool
made_by p q generators images list found x marks j =
    not (frozen marks j) && (lt_z (inner p (entry images 64) (entry images j)) (pos 0) && not (covered q found (at list q) (plus x (at generators q j))))

abbrev pub large_by : ℕ → List ℕ → (ℕ → ℕ) → ℕ → Bool
large_by q generators x j = any_to q (λ i. ltb most_component (plus x (at generators q j) i))

-- a child that would have a component above the limit decides; else the generators that make one are told, as marks
unfoldable pub generators_tried : (p q : ℕ) (generators : List ℕ) (n : ℕ) (images : List ℤ) (list : List ℕ) (found : ℕ) (x : ℕ → ℕ) (marks : ℕ)
    → Result ℕ Refusal
generators_tried p q generators n images list found x marks =
    cond (any_to n (λ j. made_by p q generators images list found x marks j && large_by q generators x j)) (Err ComponentLimit)
    (Ok (marks_to n (made_by p q generators images list found x marks)))

-- what is known as they are tried on the tuple that `top` holds
pub record Trying (p q : ℕ) (generators : List ℕ) (n : ℕ) (images : List ℤ) (list : List ℕ) (found : ℕ) (top : List ℕ) : Type 0 where
  pub some : 0 < q
  pub few : n ≤ 64
  pub whole : n * q ≤ length generators
  pub handed : (i : ℕ) → get_or generators i 0 ≤ most_component
  pub factors : (j : ℕ) → j < n → Factors p images 64 j
  pub small : SmallTuple q top
  pub listed : found * q ≤ length list

pub generator_row : (q n : ℕ) (generators : List ℕ) → n * q ≤ length generators → ((i : ℕ) → get_or generators i 0 ≤ most_component) → (j : ℕ) → j < n
    → SmallRow q generators (j * q)
generator_row q n generators whole handed j l = record { whole = omega (arith, row_fits q j n l); small = λ i iq. handed _ }

-- ---- the marks made so far, at one generator more

marks_next : (n : ℕ) (f : ℕ → Bool) (m : ℕ) → m ≡ marks_to n f → {r : ℕ} → r ≡ number (f n) * 2 ^ n → m + r ≡ marks_to (n + 1) f
unfolding marks_to
marks_next n f m e h = rw add-one (omega (arith, h, e))

marks_add : (n m : ℕ) (f : ℕ → Bool) → m ≡ marks_to n f → n < 64 → f n ≡ true → m + (1 * 2 ^ n) % 18446744073709551616 ≡ marks_to (n + 1) f
marks_add n m f e l h = rw (shift_one_wide n l) (marks_next n f m e (rw h (sym (one-mul (2 ^ n)))))

pub marks_room : (n m : ℕ) (f : ℕ → Bool) → m ≡ marks_to n f → n < 64 → m + (1 * 2 ^ n) % 18446744073709551616 < 18446744073709551616
marks_room n m f e l = rw (shift_one_wide n l) (omega (arith, e, marks_below n f, pow-le-pow_right {n = 2} (lit< tt) {i = suc n} {j = 64} l))

-- ---- a turn

module _ (p q : ℕ) (generators : List ℕ) (images : List ℤ) (list : List ℕ) (found : ℕ) (top : List ℕ) (marks : ℕ) where
  abbrev x : ℕ → ℕ
  x = tuple top

  abbrev makes : ℕ → Bool
  makes = made_by p q generators images list found x marks

  abbrev large : ℕ → Bool
  large j = makes j && large_by q generators x j

  -- the first j have been tried
  pub record Tries (j made : ℕ) : Type 0 where
    pub marked : made ≡ marks_to j makes
    pub none : any_to j large ≡ false

  pub tries_none : Tries 0 0
  tries_none = record { marked = sym (marks_zero makes); none = any_zero large }

  closed : (b c d : Bool) → b && c ≡ false → b && (c && d) ≡ false
  closed true true d e = absurd_bool e
    where
      absurd_bool : true ≡ false → d ≡ false
      absurd_bool h = same d
        where
          same : (d : Bool) → d ≡ false
          same true = h
          same false = refl
  closed true false d e = refl
  closed false c d e = refl

  opened : (b c d : Bool) → b && c ≡ true → d ≡ true → b && (c && d) ≡ true
  opened true true d e h = h
  opened true false d e h = e
  opened false c d e h = e

  skip : {j made : ℕ} → Tries j made → makes j ≡ false → Tries (j + 1) made
  skip {j} {made} t e = record { marked = marks_skip j makes made t.marked e; none = any_next j large t.none (rw e) }

  pub tries_closed : {j made : ℕ} → Tries j made → open_by p images marks j ≡ false → Tries (j + 1) made
  unfolding made_by
  tries_closed {j} t e = skip t (closed (not (frozen marks j)) _ _ e)

  module _ {j made : ℕ} (t : Tries j made) (o : open_by p images marks j ≡ true) {held : List ℕ} (raised : Raised q held top generators (j * q)) where
    abbrev z : ℕ → ℕ
    z = tuple held

    same : Same q z (plus x (at generators q j))
    same = raised.sums

    pub tries_covered : covered q found (at list q) z ≡ true → Tries (j + 1) made
    tries_covered e = skip t (unfold made_by in
        (rw (← covered_same q found (at list q) {x = z} {y = plus x (at generators q j)} same, e, and-false, and-false)))

    makes_one : covered q found (at list q) z ≡ false → makes j ≡ true
    unfolding made_by
    makes_one e = opened (not (frozen marks j)) _ _ o (rw (← covered_same q found (at list q) {x = z} {y = plus x (at generators q j)} same, e))

    large_same : any_to q (λ i. ltb most_component (z i)) ≡ large_by q generators x j
    large_same = any_same q _ _ (λ i l. ap (ltb most_component) (same i l))

    pub tries_large : covered q found (at list q) z ≡ false → any_to q (λ i. ltb most_component (z i)) ≡ true → (n : ℕ) → j < n
        → Err ComponentLimit ≡ generators_tried p q generators n images list found x marks
    unfolding generators_tried
    tries_large e h n l = rw (any_holds n large j l (rw (makes_one e) (sym large_same ∙ h)))

    pub tries_made : j < 64 → covered q found (at list q) z ≡ false → any_to q (λ i. ltb most_component (z i)) ≡ false
        → Tries (j + 1) (made + (1 * 2 ^ j) % 18446744073709551616)
    tries_made l e h =
        record { marked = marks_add j made makes t.marked l (makes_one e); none = any_next j large t.none (rw (makes_one e) (sym large_same ∙ h)) }

  pub tries_all : {n made : ℕ} → Tries n made → Ok made ≡ generators_tried p q generators n images list found x marks
  unfolding generators_tried
  tries_all t = rw (t.none, t.marked)

-- ---- the cases apart

large_if : (b : Bool) (m : ℕ) {why : Refusal} → Err why ≡ cond b (Err ComponentLimit) (Ok m) → (b ≡ true) × (why ≡ ComponentLimit)
large_if true m e = (refl, cc)
large_if false m e = (cc, cc)

made_if : (b : Bool) (m : ℕ) {n : ℕ} → Ok n ≡ cond b (Err ComponentLimit) (Ok m) → (b ≡ false) × (n ≡ m)
made_if true m e = (cc, cc)
made_if false m e = (refl, cc)

module _ (p q : ℕ) (generators : List ℕ) (n : ℕ) (images : List ℤ) (list : List ℕ) (found : ℕ) (top : List ℕ) (marks : ℕ) where
  pub large_tried : {why : Refusal} → Err why ≡ generators_tried p q generators n images list found (tuple top) marks
      → (any_to n (λ j. made_by p q generators images list found (tuple top) marks j && large_by q generators (tuple top) j) ≡ true)
      × (why ≡ ComponentLimit)
  unfolding generators_tried
  large_tried e = large_if _ _ e

  pub made_tried : {made : ℕ} → Ok made ≡ generators_tried p q generators n images list found (tuple top) marks
      → Tries p q generators images list found top marks n made
  unfolding generators_tried
  made_tried e = let (a, b) = made_if _ _ e in record { marked = b; none = a }

-- an inner product as it is handed on and read back
pub product_back : {p : ℕ} {images : List ℤ} {a b : ℕ} → Factors p images a b → {v : ℤ} → v ≡ inner p (entry images a) (entry images b)
    → to_z w64 (of_z w64 v) ≡ inner p (entry images a) (entry images b)
product_back {p} s h = rw h (to_z-of_z (product_fits s p (omega arith)))
