-- Writing into one part of a table leaves what lies outside it, and every part that does not overlap it. Assumes nothing.
use Rattle.std.specs.Prelude.{◌≡◌, true, not, List, ◌++◌, ℕ, ◌+◌, ◌-◌, ◌≤◌, ◌<◌, T, take, drop}
use Rattle.std.proofs.Common.{sym, ◌∙◌, inl, inr, arith, lt-ltb, leb→le, length-append, length-drop, ext_get_or, get_or-drop, length-take-le}
use Rattle.std.proofs.Math.Path.{ap}
use Rattle.std.proofs.Math.ListN.{length, get_or, length-take, get_or-append}
use Rattle.std.proofs.Math.Seq.{get_or-take, get_or-append-add}
use Rattle.linear.proofs.Cases.{split}
use Rattle.linear.specs.Tests.{all_to}
use Rattle.linear.proofs.TestLaws.{all_at, and_parts}
use Rattle.dispatch_spec.specs.Parts.{Part, part_of, with_part, overlap, fits, all_fit, none_overlap, apart}

-- place x lies in the part
pub record In (a : Part) (x : ℕ) : Type 0 where
  pub from : a.start ≤ x
  pub before : x < a.start + a.size

-- ---- what lies in a part

module _ (a : Part) (table : List ℕ) (fit : a.start + a.size ≤ length table) where
  pub part_length : length (part_of a table) ≡ a.size
  unfolding part_of
  part_length = simp (length-take, length-drop) (omega arith)

  pub part_at : (i : ℕ) → i < a.size → get_or (part_of a table) i 0 ≡ get_or table (a.start + i) 0
  unfolding part_of
  part_at i l = rw (get_or-take, get_or-drop)

-- ---- writing into a part

module _ (a : Part) (table new : List ℕ) (fit : a.start + a.size ≤ length table) (same : length new ≡ a.size) where
  head_length : length (take a.start table) ≡ a.start
  head_length = length-take-le a.start table (omega arith)

  pub with_length : length (with_part a table new) ≡ length table
  unfolding with_part
  with_length = simp (length-append, length-take, length-drop) (omega arith)

  pub with_before : (x : ℕ) → x < a.start → get_or (with_part a table new) x 0 ≡ get_or table x 0
  unfolding with_part
  with_before x l =
      let h : x < length (take a.start table) = omega (arith, head_length) in
      get_or-append (take a.start table) _ 0 x h ∙ get_or-take a.start table x 0 l

  past : (y : ℕ) → get_or (with_part a table new) (a.start + y) 0 ≡ get_or (new ++ drop a.size (drop a.start table)) y 0
  unfolding with_part
  past y = ap (λ n. get_or (with_part a table new) (n + y) 0) (sym head_length) ∙ get_or-append-add (take a.start table) _ y 0

  pub with_in : (i : ℕ) → i < a.size → get_or (with_part a table new) (a.start + i) 0 ≡ get_or new i 0
  with_in i l = let h : i < length new = omega arith in past i ∙ get_or-append new _ 0 i h

  with_after : (y : ℕ) → get_or (with_part a table new) (a.start + (a.size + y)) 0 ≡ get_or table (a.start + (a.size + y)) 0
  with_after y =
      past (a.size + y)
      ∙ ap (λ n. get_or (new ++ drop a.size (drop a.start table)) (n + y) 0) (sym same)
      ∙ get_or-append-add new _ y 0
      ∙ get_or-drop a.size (drop a.start table) y 0
      ∙ get_or-drop a.start table (a.size + y) 0

  -- "Writing into one run's part touches" nothing outside the part
  pub with_outside : (x : ℕ) → ¬ (In a x) → get_or (with_part a table new) x 0 ≡ get_or table x 0
  with_outside x out =
      elim (split x a.start) [
        | inl l ↦ with_before x l
        | inr l ↦ elim (split x (a.start + a.size)) [
          | inl h ↦ absurd (out (record { from = l; before = h }))
          | inr h ↦
              let e : a.start + (a.size + (x - (a.start + a.size))) ≡ x = omega arith in
              rw e at (with_after (x - (a.start + a.size)))
        ]
      ]

  -- what was written lies there
  pub with_own : part_of a (with_part a table new) ≡ new
  with_own =
      let fit' : a.start + a.size ≤ length (with_part a table new) = omega (arith, with_length) in
      let e = part_length a (with_part a table new) fit' in
      ext_get_or 0 _ _ (e ∙ sym same) (λ i l. let h : i < a.size = omega arith in part_at a (with_part a table new) fit' i h ∙ with_in i h)

  -- "touches no other part"
  pub with_other : (b : Part) → b.start + b.size ≤ length table → ((x : ℕ) → In a x → In b x → ⊥) → part_of b (with_part a table new) ≡ part_of b table
  with_other b fit-b none =
      let fit' : b.start + b.size ≤ length (with_part a table new) = omega (arith, with_length) in
      let e = part_length b (with_part a table new) fit' in
      ext_get_or 0 _ _ (e ∙ sym (part_length b table fit-b)) (λ i l.
      let h : i < b.size = omega arith in
      part_at b (with_part a table new) fit' i h
      ∙ with_outside (b.start + i) (λ y. none (b.start + i) y (record { from = omega arith; before = omega arith }))
      ∙ sym (part_at b table fit-b i h))

-- ---- the test for overlapping

overlapping : (a b : Part) (x : ℕ) → In a x → In b x → overlap a b ≡ true
unfolding overlap
overlapping a b x y z =
    let a₁ : a.start < a.start + a.size = omega (arith, y.from, y.before) in
    let a₂ : a.start < b.start + b.size = omega (arith, y.from, z.before) in
    let b₁ : b.start < a.start + a.size = omega (arith, z.from, y.before) in
    let b₂ : b.start < b.start + b.size = omega (arith, z.from, z.before) in
    rw (lt-ltb _ _ a₁, lt-ltb _ _ a₂, lt-ltb _ _ b₁, lt-ltb _ _ b₂)

pub overlap_none : (a b : Part) → T (not (overlap a b)) → (x : ℕ) → In a x → In b x → ⊥
overlap_none a b h x y z = rw (overlapping a b x y z) at h

-- what the check for 28 says of the parts
pub record Apart (n len : ℕ) (part : ℕ → Part) : Type 0 where
  pub fit : (i : ℕ) → i < n → (part i).start + (part i).size ≤ len
  pub none : (i j : ℕ) → i < n → j < n → ¬ (i ≡ j) → (x : ℕ) → In (part i) x → In (part j) x → ⊥

pub apart_says : (n len : ℕ) (part : ℕ → Part) → T (apart n len part) → Apart n len part
unfolding apart
apart_says n len part h = record { fit = fit; none = none }
  where
    both : T (all_fit n len part) × T (none_overlap n part)
    both = and_parts (all_fit n len part) (none_overlap n part) h

    fit : (i : ℕ) → i < n → (part i).start + (part i).size ≤ len
    fit i l = leb→le ((part i).start + (part i).size) len (all_at n (λ i. fits len (part i)) both.0 i l)

    less : (i j : ℕ) → i < n → j < i → (x : ℕ) → In (part i) x → In (part j) x → ⊥
    less i j l h =
        overlap_none (part i) (part j)
        (all_at i (λ j. not (overlap (part i) (part j))) (all_at n (λ i. all_to i (λ j. not (overlap (part i) (part j)))) both.1 i l) j h)

    none : (i j : ℕ) → i < n → j < n → ¬ (i ≡ j) → (x : ℕ) → In (part i) x → In (part j) x → ⊥
    none i j li lj ne x y z = elim (split j i) [ inl h ↦ less i j li h x y z | inr h ↦ less j i lj (omega (arith, ne)) x z y ]
