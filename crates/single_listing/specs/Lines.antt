-- The line of a minimal solution: what making it leaves, and its parts. Assumes nothing.
use Rattle.std.specs.Prelude.{◌≡◌, refl, Bool, true, false, Option, None, Some, is_some, List, [], ◌∷◌, ◌++◌, ℕ, ◌+◌, ◌≤◌, ◌<◌, T, length, get_or, take}
use Rattle.std.proofs.Common.{sym, ◌∙◌, ap, arith, length-take-le}
use Rattle.std.proofs.lemmas.List.{get_or-take}
use Rattle.definitions.specs.System.{System}
use Rattle.texts.specs.Decimals.{decimal, newline}
use Rattle.texts.proofs.DecimalLaws.{digits_most}
use Rattle.texts.specs.Put.{Put}
use Rattle.single_spec.specs.Listing.{loop_line, order_to, order_word, rising_to}
use Rattle.single_spec.proofs.ListingLaws.{line_from}
use Rattle.single_spec.specs.Profile.{is_circuit_of}
use Rattle.single_order.specs.Rows.{OrderOf, Ordered, if_so, so_none, so_some}

-- the line of a minimal solution stands at the beginning, n bytes long
pub record LineMade (m : System) (x : ℕ → ℕ) (line : List ℕ) (n : ℕ) : Type 0 where
  pub place : n ≡ length (loop_line m x)
  pub text : take n line ≡ loop_line m x
  pub few : n ≤ 128
  pub inside : n ≤ length line

-- of a row that is a minimal solution; of any other nothing is said
pub record LineOf (m : System) (x : ℕ → ℕ) (line : List ℕ) (r : Option ℕ) : Type 0 where
  pub result : r ≡ if_so (is_circuit_of m x) (length (loop_line m x))
  pub made : (n : ℕ) → r ≡ Some n → LineMade m x line n

-- the unknowns of an order have at most two digits
abbrev pub Low : List ℕ → Type 0
Low order = (k : ℕ) → k < length order → get_or order k 0 < 16

-- the row is a minimal solution, and its line fits from place `at` on
pub record Room (m : System) (x : ℕ → ℕ) (at space : ℕ) : Type 0 where
  pub minimal : T (is_circuit_of m x)
  pub fits : at + length (loop_line m x) ≤ space

pub two_digits : (j : ℕ) → j < 16 → length (decimal (j + 1)) ≤ 2
two_digits j l = digits_most 1 (j + 1) (omega arith)

-- what makes the line of a minimal solution makes one
pub line_there : {m : System} {x : ℕ → ℕ} {line : List ℕ} {r : Option ℕ} → LineOf m x line r → T (is_circuit_of m x) → is_some r ≡ true
line_there {m} {x} h t = go (is_circuit_of m x) t h.result
  where
    go : (b : Bool) → T b → {r : Option ℕ} → r ≡ if_so b (length (loop_line m x)) → is_some r ≡ true
    go true y e = rw e
    go false y e = absurd y

-- ---- the line from its order

pub no_line : {m : System} {x : ℕ → ℕ} {order line : List ℕ} → OrderOf m x order None → LineOf m x line None
no_line {m} {x} h = let e = so_none (is_circuit_of m x) _ h.result in record { result = rw e; made = λ n g. absurd (let z : Some n ≡ None = cc in cc) }

module _ {m : System} {x : ℕ → ℕ} {order : List ℕ} {n : ℕ} (h : OrderOf m x order (Some n)) (q_few : m.q ≤ 16) where
  ordered : Ordered m x order n
  ordered = h.ordered n refl

  front : length (take n order) ≡ n
  front = length-take-le n order (omega (arith, ordered.few, ordered.low, h.array))

  pub front_low : Low (take n order)
  front_low k u = let v : k < n = omega (arith, front) in rw (get_or-take n order k 0 v) (omega (arith, ordered.low k v))

  pub line_made : {before line : List ℕ} {r : ℕ} → 128 ≤ length before → Put before 0
      (rising_to m.q x ++ (order_word ++ (order_to (length (take n order)) (λ k. get_or (take n order) k 0) ++ (newline ∷ [])))) line r → r ≤ 128
      → LineOf m x line (Some r)
  line_made {before} {line} {r} long p l =
      let (e, all) = so_some (is_circuit_of m x) _ h.result in
      let t : loop_line m x ≡ rising_to m.q x ++ (order_word ++ (order_to n (λ k. get_or (take n order) k 0) ++ (newline ∷ [])))
      = line_from m x (take n order) (λ i u. get_or-take n order i 0 (omega (arith, u, all)) ∙ ordered.written i (omega (arith, u, all)))
      ∙ ap (λ s. rising_to m.q x ++ (order_word ++ (order_to s (λ k. get_or (take n order) k 0) ++ (newline ∷ [])))) (sym all) in
      let p' = rw front at p in
      let place : r ≡ length (loop_line m x) = rw t (omega (arith, p'.place)) in
      record {
        result = rw (e, place);
        made = λ k g. let z : r ≡ k = cc in rw (← z) (record { place = place; text = p'.written ∙ sym t; few = l; inside = omega (arith, p.same) });
      }
