-- The coefficients of a system with right sides as code writes them, place by place. Assumes nothing.
use Rattle.std.specs.Prelude.{◌≡◌, refl, List, ℕ, zero, suc, ◌+◌, ◌*◌, ◌-◌, ◌/◌, ◌%◌, ◌≤◌, ◌<◌, ℤ, pos, neg_ℤ, nat_abs, ◌-ℤ◌, length, get_or, set, take}
use Rattle.std.proofs.Common.{sym, ◌∙◌, ap, inl, inr, mul-le-mul_right, div-add-mod', mod-lt, arith, SFits, length-set, ext_get_or, get_or-set_other}
use Rattle.std.proofs.Common.{get_or-set_same, get_or-take, length-take-le, add-one}
use Rattle.std.proofs.Math.Decide.{ℕ_discrete}
use Rattle.std.proofs.Math.IntN.{+ℤ_idl}
use Rattle.std.specs.Int.{w32}
use Rattle.std.proofs.Math.ListN.{get_or-eq_default}
use Rattle.linear.proofs.Cases.{split}
use Rattle.linear.proofs.Integers.{nat_abs_negℤ, sfits_nat_abs}
use Rattle.definitions.specs.Input.{input_with, limit_of, rights as delivered, system_of}
use Rattle.definitions.specs.System.{System, capped, coef_limit, extend_to, most_equations, most_unknowns, plain}
use Rattle.laws.proofs.Extended.{extend_length, extends}
use Rattle.laws.specs.RefusalLaws.{Handed}
use Rattle.laws.proofs.RefusalLaws.{at_most, equal}
use Rattle.laws.proofs.TableLaws.{row_fits}
use Rattle.calls.specs.Paper.{system_with}

-- what `write` starts from: coefficients and right sides in number and range, in a table of 128
pub record Sided (p q : ℕ) (coefs rights : List ℤ) : Type 0 where
  pub rows : p ≤ most_equations
  pub few : q + 1 ≤ 16
  pub whole : p * q ≤ length coefs
  pub sides : p ≤ length rights
  pub range : (k : ℕ) → nat_abs (get_or coefs k (pos 0)) ≤ coef_limit
  pub small : (i : ℕ) → nat_abs (get_or rights i (pos 0)) ≤ coef_limit

pub sided_less : {p q : ℕ} {coefs rights : List ℤ} → Sided p q coefs rights → (n : ℕ) → n ≤ p → Sided n q coefs rights
sided_less {p} {q} s n l =
    record {
      rows = omega (arith, s.rows);
      few = s.few;
      whole = omega (arith, s.whole, mul-le-mul_right q l);
      sides = omega (arith, s.sides);
      range = s.range;
      small = s.small;
    }

fits : (z : ℤ) → nat_abs z ≤ coef_limit → SFits w32 z
fits z l = sfits_nat_abs (omega arith)

pub side_fits : {p q : ℕ} {coefs rights : List ℤ} → Sided p q coefs rights → (i : ℕ) → SFits w32 (get_or rights i (pos 0))
side_fits {rights = rights} s i = fits (get_or rights i (pos 0)) (s.small i)

pub coef_number_fits : {p q : ℕ} {coefs rights : List ℤ} → Sided p q coefs rights → (k : ℕ) → SFits w32 (get_or coefs k (pos 0))
coef_number_fits {coefs = coefs} s k = fits (get_or coefs k (pos 0)) (s.range k)

-- what passed the checks
in_range : (b : List ℤ) → ((k : ℕ) → k < length b → nat_abs (get_or b k (pos 0)) ≤ coef_limit) → (k : ℕ) → nat_abs (get_or b k (pos 0)) ≤ coef_limit
in_range b h k = elim (split k (length b)) [ inl l ↦ h k l | inr l ↦ rw (get_or-eq_default b (pos 0) l) (omega arith) ]

pub handed_numbers : {p q limit : ℕ} {coefs b : List ℤ} → Handed (input_with (delivered b) limit p q coefs) → (length coefs ≡ p * q) × (length b ≡ p)
handed_numbers {p} {q} {limit} {coefs} {b} h = (equal (length coefs) (p * q) (λ ne. h.numbers (inl ne)), equal (length b) p (λ ne. h.numbers (inr ne)))

pub handed_sided : {p q limit : ℕ} {coefs b : List ℤ} → Handed (input_with (delivered b) limit p q coefs) → Sided p q coefs b
handed_sided {p} {q} {limit} {coefs} {b} h =
    let (number, sides) = handed_numbers h in
    let (range, (side, u)) = h.ranges in
    record {
      rows = at_most p most_equations (λ l. h.equations (inr l));
      few = omega (arith, at_most q (most_unknowns - 1) (λ l. h.unknowns (inr l)));
      whole = omega (arith, number);
      sides = omega (arith, sides);
      range = in_range coefs (λ k l. at_most (nat_abs (get_or coefs k (pos 0))) coef_limit (range k l));
      small = in_range b (λ k l. at_most (nat_abs (get_or b k (pos 0))) coef_limit (λ y. side (k, l, y)));
    }

pub negation_fits : (z : ℤ) → nat_abs z ≤ coef_limit → SFits w32 (pos 0 -ℤ z)
negation_fits z l = rw (+ℤ_idl (neg_ℤ z)) (sfits_nat_abs (omega (arith, nat_abs_negℤ z)))

-- number x of row i: the negated right side, and then the coefficients
abbrev pub row_entry : ℕ → List ℤ → List ℤ → ℕ → ℕ → ℤ
row_entry q coefs rights i zero = neg_ℤ (get_or rights i (pos 0))
row_entry q coefs rights i (suc j) = get_or coefs (i * q + j) (pos 0)

-- the first n rows are written
pub record Extends (n q : ℕ) (coefs rights wide : List ℤ) : Type 0 where
  pub size : length wide ≡ 128
  pub entries : (i x : ℕ) → i < n → x < suc q → get_or wide (i * (q + 1) + x) (pos 0) ≡ row_entry q coefs rights i x

-- of row i the extra unknown's number and the next n are, and no row before it has changed
pub record RowWritten (i q : ℕ) (coefs rights : List ℤ) (n : ℕ) (wide₀ wide : List ℤ) : Type 0 where
  pub size : length wide ≡ length wide₀
  pub before : (k : ℕ) → k < i * (q + 1) → get_or wide k (pos 0) ≡ get_or wide₀ k (pos 0)
  pub new : (x : ℕ) → x < suc n → get_or wide (i * (q + 1) + x) (pos 0) ≡ row_entry q coefs rights i x

pub place_fits : {p q : ℕ} {coefs rights : List ℤ} → Sided p q coefs rights → (i x : ℕ) → i < p → x < q + 1 → i * (q + 1) + x < 128
place_fits {p} {q} s i x l k = omega (arith, s.rows, s.few, row_fits (q + 1) i 8 (omega (arith, s.rows)))

pub table_fits : {p q : ℕ} {coefs rights : List ℤ} → Sided p q coefs rights → p * (q + 1) ≤ 128
table_fits {p} {q} s = omega (arith, s.few, mul-le-mul_right (q + 1) s.rows)

pub coef_fits : {p q : ℕ} {coefs rights : List ℤ} → Sided p q coefs rights → (i j : ℕ) → i < p → j < q → i * q + j < length coefs
coef_fits {p} {q} s i j l k = omega (arith, s.whole, row_fits q i p l)

-- ---- a row

module _ (i q : ℕ) (coefs rights : List ℤ) where
  -- the extra unknown's number is written first
  pub row_first : (wide₀ : List ℤ) {number : ℤ} → number ≡ neg_ℤ (get_or rights i (pos 0)) → i * (q + 1) < length wide₀
      → RowWritten i q coefs rights 0 (set wide₀ (i * (q + 1)) number) (set wide₀ (i * (q + 1)) number)
  row_first wide₀ {number} e l =
      record {
        size = refl;
        before = λ k h. refl;
        new =
            λ x h. let is : x ≡ 0 = omega arith in
            rw is (ap (λ n. get_or (set wide₀ (i * (q + 1)) number) n (pos 0)) (omega arith) ∙ get_or-set_same wide₀ (i * (q + 1)) number (pos 0) l ∙ e);
      }

  pub row_next : {j : ℕ} {wide₀ wide : List ℤ} {number : ℤ} → number ≡ get_or coefs (i * q + j) (pos 0) → RowWritten i q coefs rights j wide₀ wide
      → i * (q + 1) + (j + 1) < length wide → RowWritten i q coefs rights (j + 1) wide₀ (set wide (i * (q + 1) + (j + 1)) number)
  row_next {j} {wide₀} {wide} {number} e w l =
      let place : ℕ = i * (q + 1) + (j + 1) in
      record {
        size = length-set wide place number ∙ w.size;
        before = λ k h. get_or-set_other wide place k number (pos 0) (omega arith) ∙ w.before k h;
        new = λ x h. elim (ℕ_discrete x (suc j)) [
          | yes is ↦ rw is (ap (λ n. get_or (set wide place number) n (pos 0)) (omega arith) ∙ get_or-set_same wide place number (pos 0) l ∙ e)
          | no ne ↦ get_or-set_other wide place (i * (q + 1) + x) number (pos 0) (omega arith) ∙ w.new x (omega arith)
        ];
      }

  pub row_all : (wide₀ : List ℤ) (number : ℤ) {wide : List ℤ} → RowWritten i q coefs rights q (set wide₀ (i * (q + 1)) number) wide
      → RowWritten i q coefs rights q wide₀ wide
  row_all wide₀ number {wide} w =
      record {
        size = w.size ∙ length-set wide₀ (i * (q + 1)) number;
        before = λ k h. w.before k h ∙ get_or-set_other wide₀ (i * (q + 1)) k number (pos 0) (omega arith);
        new = w.new;
      }

-- ---- the rows

pub extends_none : (q : ℕ) (coefs rights wide : List ℤ) → length wide ≡ 128 → Extends 0 q coefs rights wide
extends_none q coefs rights wide e = record { size = e; entries = λ i x l k. absurd (omega arith) }

pub extends_next : {i q : ℕ} {coefs rights wide₀ wide : List ℤ} → Extends i q coefs rights wide₀ → RowWritten i q coefs rights q wide₀ wide
    → Extends (i + 1) q coefs rights wide
extends_next {i} {q} e w =
    record {
      size = w.size ∙ e.size;
      entries = λ n x l k. elim (split n i) [
        | inl b ↦ w.before (n * (q + 1) + x) (omega (arith, row_fits (q + 1) n i b)) ∙ e.entries n x b k
        | inr b ↦ let is : n ≡ i = omega arith in rw is (w.new x k)
      ];
    }

below_rows : (i x p w : ℕ) → i * w + x < p * w → i < p
below_rows i x p w h = elim (split i p) [ inl l ↦ l | inr l ↦ absurd (omega (arith, mul-le-mul_right w l)) ]

-- the first p rows are all coefficients of the extended system
pub extends_take : {p q : ℕ} {coefs rights wide : List ℤ} → Sided p q coefs rights → length coefs ≡ p * q → Extends p q coefs rights wide
    → take (p * (q + 1)) wide ≡ extend_to p q coefs rights
extends_take {p} {q} {coefs} {rights} {wide} s len e =
    ext_get_or (pos 0) (take (p * (q + 1)) wide) (extend_to p q coefs rights) (taken ∙ sym (all ∙ omega arith))
    (λ k l. get_or-take (p * (q + 1)) wide k (pos 0) (rw taken at l) ∙ here k (rw taken at l))
  where
    all : length (extend_to p q coefs rights) ≡ p * suc q
    all = extend_length q coefs rights p (omega (arith, len))

    taken : length (take (p * (q + 1)) wide) ≡ p * (q + 1)
    taken = length-take-le (p * (q + 1)) wide (omega (arith, table_fits s, e.size))

    bare : System
    bare = record { p = p; q = q; coefs = coefs; kind = plain; limit = 0 }

    entry : (i x : ℕ) → i < p → x < suc q → row_entry q coefs rights i x ≡ get_or (extend_to p q coefs rights) (i * suc q + x) (pos 0)
    entry i zero l k = sym ((extends bare rights len).first i l)
    entry i (suc j) l k = sym ((extends bare rights len).others i j l (omega arith))

    here : (k : ℕ) → k < p * (q + 1) → get_or wide k (pos 0) ≡ get_or (extend_to p q coefs rights) k (pos 0)
    here k l =
        let i : ℕ = k / (q + 1) in
        let x : ℕ = k % (q + 1) in
        let parts : k ≡ i * (q + 1) + x = sym (div-add-mod' k (q + 1)) in
        let inside : x < q + 1 = mod-lt k (omega arith) in
        let low : i < p = below_rows i x p (q + 1) (rw (← parts) l) in
        rw parts (e.entries i x low (omega arith) ∙ entry i x low (omega arith) ∙ ap (λ n. get_or (extend_to p q coefs rights) (n + x) (pos 0)) (omega arith))

-- the walk of a capped run goes through it
pub extended_system : {p q limit most : ℕ} {coefs b wide : List ℤ} → Handed (input_with (delivered b) limit p q coefs) → Extends p q coefs b wide
    → most ≡ limit_of limit → system_of (input_with (delivered b) limit p q coefs) ≡ system_with capped p (q + 1) (take (p * (q + 1)) wide) most
extended_system {p} {q} {limit} {most} {coefs} {b} {wide} h e l = rw (extends_take (handed_sided h) (handed_numbers h).0 e, l, add-one q)
