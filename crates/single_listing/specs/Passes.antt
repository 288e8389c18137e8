-- The two passes of the listing: its checks as the code makes them, what is known once they find nothing, and the rows passed so far. Assumes nothing.
use Rattle.std.specs.Prelude.{◌≡◌, refl, Bool, Option, None, Some, List, [], ◌∷◌, ◌++◌, ℕ, zero, suc, ◌+◌, ◌*◌, ◌-◌, ◌/◌, ◌≤◌, ◌<◌, ltb, length, drop}
use Rattle.std.specs.Option.{MatchOption, SomeIff}
use Rattle.std.proofs.Math.Path.{sym}
use Rattle.std.proofs.Common.{◌∙◌, ap, inl, inr, div-add-mod', mul-le-mul_right, arith, take-append-drop}
use Rattle.std.proofs.Math.Bool.{true, false, not}
use Rattle.std.proofs.Math.Nat.{le_antisymm}
use Rattle.std.proofs.Math.Dec.{T}
use Rattle.std.proofs.Math.ListN.{length-append}
use borrow.Author.Tests.{le-ltb, lt-ltb, ltb-false, ltb-true}
use Rattle.std.proofs.lemmas.Bool.{not-false, not-true}
use Rattle.linear.proofs.Cases.{split}
use Rattle.definitions.specs.Answers.{Check, ◌then◌, go, refuse, refuse_first, refuse_if, refuse_with}
use Rattle.definitions.specs.Refusals.{check7}
use Rattle.definitions.specs.Input.{Input, map_of}
use Rattle.definitions.specs.System.{System, most_unknowns}
use Rattle.definitions.specs.Tables.{at}
use Rattle.laws.proofs.AnswerLaws.{refuse_at, refuse_if_go, refuse_next, then_assoc, then_go}
use Rattle.laws.proofs.CheckLaws.{decides_first}
use Rattle.checks.specs.Counts.{counted, count_checks}
use Rattle.texts.specs.Put.{Put}
use Rattle.single_order.specs.Rows.{if_so, so_none, so_some}
use Rattle.single_spec.specs.Listing.{lines_to, listed_by, listing, listing_call, listing_checks, loop_line, refused, row_checks, written}
use Rattle.single_spec.proofs.ListingLaws.{lines_next}
use Rattle.single_spec.specs.Profile.{check26, check30, is_circuit_of}

-- ---- the checks, as the code makes them

-- 1, 2, 3 and 6, from the numbers of coefficients and of entries of the list table
unfoldable pub shape_checks : ℕ → ℕ → ℕ → ℕ → ℕ → Check
shape_checks p q coefs list found = count_checks p q 0 coefs then refuse_if (ltb (list / q) found) 6

-- then 7 and 26: all that comes before the rows
unfoldable pub map_checks : Input → ℕ → ℕ → Check
map_checks i list found = shape_checks i.p i.q (length i.coefs) list found then check7 i then check26 (map_of i)

-- then the rows, into an output space of length `room`
unfoldable pub checks_in : Input → List ℕ → ℕ → ℕ → Check
checks_in i list found room = map_checks i (length list) found then row_checks (map_of i) list found room

pub checks_are : (i : Input) (list : List ℕ) (found : ℕ) (out : List ℕ) → checks_in i list found (length out) ≡ listing_checks i list found out
unfolding checks_in map_checks shape_checks count_checks listing_checks
checks_are i list found out = simp then_assoc

-- ---- what is known once they find nothing

pub record Whole (m : System) (list : List ℕ) (found : ℕ) : Type 0 where
  pub q_few : m.q ≤ most_unknowns
  pub coefs : m.p * m.q ≤ length m.coefs
  pub rows : found * m.q ≤ length list

pub record Listable (m : System) (list : List ℕ) (found room : ℕ) : Type 0 where
  pub whole : Whole m list found
  pub minimal : (i : ℕ) → i < found → T (is_circuit_of m (at list m.q i))
  pub fits : length (listing m list found) ≤ room

pub shape_whole : (p q coefs list found : ℕ) → shape_checks p q coefs list found ≡ go → (q ≤ most_unknowns) × (coefs ≡ p * q) × (found * q ≤ list)
unfolding shape_checks
shape_whole p q coefs list found e =
    let (counts, f) = then_go (count_checks p q 0 coefs) _ e in
    let m = counted p q 0 coefs counts in
    let room : found ≤ list / q = ltb-false (list / q) found (refuse_if_go _ 6 f) in
    (m.unknowns, m.count, omega (arith, mul-le-mul_right q room, div-add-mod' list q))

module _ (i : Input) (list : List ℕ) (found : ℕ) where
  abbrev m : System
  m = map_of i

  pub map_whole : map_checks i (length list) found ≡ go → Whole m list found
  unfolding map_checks
  map_whole e =
      let (a, _) = then_go (shape_checks m.p m.q (length m.coefs) (length list) found) _ e in
      let (few, same, rows) = shape_whole m.p m.q (length m.coefs) (length list) found a in
      record { q_few = few; coefs = omega (arith, same); rows = rows }

  rows_minimal : check30 m found (at list m.q) ≡ go → (k : ℕ) → k < found → T (is_circuit_of m (at list m.q k))
  unfolding check30
  rows_minimal e n l =
      let none = (decides_first 30 found (λ k. not (is_circuit_of m (at list m.q k))) (λ k. T (not (is_circuit_of m (at list m.q k)))) (λ k u t. t)
      (λ k u t. t)).goes e n l in
      yes (is_circuit_of m (at list m.q n)) none
    where
      yes : (b : Bool) → ¬ (T (not b)) → T b
      yes true h = tt
      yes false h = absurd (h tt)

  pub checks_listable : (room : ℕ) → checks_in i list found room ≡ go → Listable m list found room
  unfolding checks_in row_checks
  checks_listable room e =
      let (a, b) = then_go (map_checks i (length list) found) _ e in
      let (c, d) = then_go (check30 m found (at list m.q)) _ b in
      record { whole = map_whole a; minimal = rows_minimal c; fits = ltb-false room (length (listing m list found)) (refuse_if_go _ 29 d) }

-- ---- the call from its passes

module _ (i : Input) (list : List ℕ) (found : ℕ) (out : List ℕ) where
  pub call_refused : (n : ℕ) (values : List ℕ) → refuse n values ≡ checks_in i list found (length out)
      → record { answer = refused n values; out = out } ≡ listing_call i list found out
  unfolding listing_call listed_by
  call_refused n values e = let g = e ∙ checks_are i list found out in rw (← g)

  -- a text put to the beginning of a space
  put_whole : {text after : List ℕ} {r : ℕ} → Put out 0 text after r → (r ≡ length text) × (after ≡ text ++ drop (length text) out)
  put_whole {text} {after} {r} h =
      let e : r ≡ length text = omega (arith, h.place) in
      (e, sym (take-append-drop r after) ∙ ap (λ t. t ++ drop r after) h.written ∙ ap (λ t. text ++ t) (h.kept ∙ ap (λ k. drop k out) e))

  pub call_written : {after : List ℕ} {r : ℕ} → go ≡ checks_in i list found (length out) → Put out 0 (listing (map_of i) list found) after r
      → record { answer = written r; out = after } ≡ listing_call i list found out
  unfolding listing_call listed_by
  call_written {after} {r} e h = let g = e ∙ checks_are i list found out in let (a, b) = put_whole h in rw (← g, a, b)

-- ---- the first pass: one more row

-- what is left of a room after n more bytes
abbrev pub less : Option ℕ → ℕ → Option ℕ
less (Some room) n = if_so (not (ltb room n)) (room - n)
less None n = None

-- what a checked subtraction leaves of it
pub less_by : (left : Option ℕ) (n : ℕ) (r : Option ℕ) {Q : ℕ → Type 0} → MatchOption left (r ≡ None) Q
    → ((room : ℕ) → Q room → SomeIff r (n ≤ room) (room - n)) → r ≡ less left n
less_by None n r e each = e
less_by (Some room) n r e each =
    let h = each room e in
    elim (split room n) [
      | inl l ↦ rw (lt-ltb room n l) (grind arith)
      | inr l ↦ rw (le-ltb room n l) (grind arith)
    ]

module _ (m : System) (list : List ℕ) (room : ℕ) where
  -- how long the lines of the first i rows are
  abbrev lines : ℕ → ℕ
  lines i = length (lines_to i m (at list m.q))

  -- the first i rows are minimal solutions; and what is left of the space, where it is long enough for their lines
  pub record Checked (left : Option ℕ) (i : ℕ) : Type 0 where
    pub minimal : check30 m i (at list m.q) ≡ go
    pub rest : left ≡ if_so (not (ltb room (lines i))) (room - lines i)

  lines_more : (i : ℕ) → lines (i + 1) ≡ lines i + length (loop_line m (at list m.q i))
  lines_more i = ap length (lines_next m (at list m.q) i) ∙ length-append (lines_to i m (at list m.q)) (loop_line m (at list m.q i))

  pub checked_none : Checked (Some room) 0
  unfolding check30 refuse_first lines_to
  checked_none = record { minimal = refl; rest = rw (le-ltb room 0 (omega arith)) (ap Some (omega arith)) }

  module _ {left : Option ℕ} {i : ℕ} (h : Checked left i) where
    abbrev minimal_row : Bool
    minimal_row = is_circuit_of m (at list m.q i)

    abbrev row_line : ℕ
    row_line = length (loop_line m (at list m.q i))

    pub checked_fails : (found : ℕ) → i < found → None ≡ if_so minimal_row row_line → refuse 30 ((i + 1) ∷ []) ≡ row_checks m list found room
    unfolding row_checks check30 ◌then◌
    checked_fails found l e =
        let g = so_none minimal_row row_line e in
        rw (refuse_at 30 found (λ k. not (is_circuit_of m (at list m.q k))) i l h.minimal (rw g))

    -- the row's line has length n
    pub checked_more : (n : ℕ) → Some n ≡ if_so minimal_row row_line → {after : Option ℕ} → after ≡ less left n → Checked after (i + 1)
    unfolding check30
    checked_more n e {after} f =
        let (g, k) = so_some minimal_row row_line e in
        record {
          minimal = refuse_next 30 i (λ k. not (is_circuit_of m (at list m.q k))) h.minimal (rw g);
          rest = f ∙ ap (λ l. less l n) h.rest ∙ go (ltb room (lines i)) refl (k ∙ sym (omega (arith, lines_more i)));
        }
      where
        go : (b : Bool) → ltb room (lines i) ≡ b → n ≡ lines (i + 1) - lines i
            → less (if_so (not b) (room - lines i)) n ≡ if_so (not (ltb room (lines (i + 1)))) (room - lines (i + 1))
        go true u v = rw (lt-ltb room (lines (i + 1)) (omega (arith, ltb-true room (lines i) u, lines_more i)))
        go false u v =
            let l : lines i ≤ room = ltb-false room (lines i) u in
            elim (split room (lines (i + 1))) [
              | inl o ↦ rw (lt-ltb room (lines (i + 1)) o, lt-ltb (room - lines i) n (omega (arith, lines_more i)))
              | inr o ↦ rw (le-ltb room (lines (i + 1)) o, le-ltb (room - lines i) n (omega (arith, lines_more i))) (ap Some (omega (arith, lines_more i)))
            ]

  -- all rows are passed
  module _ {left : Option ℕ} {i found : ℕ} (h : Checked left i) (a : i ≤ found) (b : found ≤ i) where
    pub checked_lacks : left ≡ None → refuse 29 [] ≡ row_checks m list found room
    unfolding row_checks listing refuse_with ◌then◌
    checked_lacks s =
        let e = le_antisymm a b in
        let g = so_none (not (ltb room (lines i))) _ (sym s ∙ h.rest) in
        rw (← e, h.minimal, not-false (ltb room (lines i)) g)

    pub checked_all : (k : ℕ) → left ≡ Some k → go ≡ row_checks m list found room
    unfolding row_checks listing refuse_with ◌then◌
    checked_all k s =
        let e = le_antisymm a b in
        let (g, _) = so_some (not (ltb room (lines i))) _ (sym s ∙ h.rest) in
        rw (← e, h.minimal, not-true (ltb room (lines i)) g)

-- ---- the second pass: the next row has room

lines_grow : (m : System) (row : ℕ → ℕ → ℕ) (i found : ℕ) → i ≤ found → length (lines_to i m row) ≤ length (lines_to found m row)
unfolding lines_to
lines_grow m row i zero l = let e : i ≡ 0 = omega arith in rw e (omega arith)
lines_grow m row i (suc found) l =
    elim (split i (suc found)) [
      | inl k ↦ rw length-append (omega (arith, lines_grow m row i found (omega arith)))
      | inr k ↦ let e : i ≡ suc found = omega arith in rw e (omega arith)
    ]

-- the line of row i lies in the listing
pub line_inside : (m : System) (list : List ℕ) (i found : ℕ) → i < found → length (lines_to i m (at list m.q)) + length
    (loop_line m (at list m.q i)) ≤ length (listing m list found)
unfolding listing
line_inside m list i found l =
    let row = at list m.q in
    omega (arith, lines_grow m row (i + 1) found (omega arith), ap length (lines_next m row i), length-append (lines_to i m row) (loop_line m (row i)))
