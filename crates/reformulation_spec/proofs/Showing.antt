-- Theorems about what specs/Showing.antt defines. Assumes nothing.
use Rattle.std.specs.Prelude.{◌≡◌, ◌≢◌, Bool, List, ℕ, ◌+◌, ◌-◌, ◌≤◌, ◌<◌, ℤ, pos, negsuc, nat_abs, get_or, length}
use Rattle.std.proofs.Math.Logic.{inl, inr}
use Rattle.std.proofs.Math.Bool.{true, false}
use Rattle.std.proofs.Math.Decide.{ℕ_discrete}
use native.Mathlib.Omega.{arith}
use Rattle.std.proofs.Common.{eq-eqb, le-ltb, lt-ltb, ne_eqb, T_not, leb→le, le→leb, lt→ltb, ltb→lt}
use Rattle.std.proofs.Math.Dec.{T, not_T}
use Rattle.linear.proofs.Cases.{split}
use Rattle.linear.specs.Tests.{any_to}
use Rattle.linear.proofs.TestLaws.{all_at, all_from, and_both, and_parts, any_at, any_from}
use Rattle.definitions.specs.Refusals.{out_of_range}
use Rattle.definitions.specs.System.{coef_limit}
use Rattle.reformulation_spec.specs.Extension.{Extends}
use Rattle.reformulation_spec.proofs.Following.{at_least_from, at_least_to, exactly_from, exactly_to, same_from, same_to}
use Rattle.reformulation_spec.specs.Reformulation.{
  Reformulation,
  all_follow,
  are_multiples,
  are_small,
  beside,
  equations,
  extended_row,
  extends,
  follows,
  in_range,
  is_entry,
  map_row,
  most_multiple,
  other_row,
  shown_back,
  shown_onto,
  shows,
}
use Rattle.reformulation_spec.specs.Showing.{Shown, Small}

-- ---- limits

abbrev any_out : List ℤ → Bool
any_out table = any_to (length table) (λ i. out_of_range (get_or table i (pos 0)))

pub range_from : (table : List ℤ) → T (in_range table) → Small coef_limit table
range_from table h i l =
    elim (split coef_limit (nat_abs (get_or table i (pos 0)))) [
      | inl out ↦ absurd (T_not (any_out table) h (any_from (length table) (λ n. out_of_range (get_or table n (pos 0))) i l (lt→ltb coef_limit _ out)))
      | inr few ↦ few
    ]

range_to : (table : List ℤ) → Small coef_limit table → T (in_range table)
range_to table s =
    not_T (any_out table) (λ h.
    let (i, l, out) = any_at (length table) (λ n. out_of_range (get_or table n (pos 0))) h in
    omega (arith, s i l, ltb→lt coef_limit (nat_abs (get_or table i (pos 0))) out))

pub multiples_from : (by : List ℤ) → T (are_multiples by) → Small most_multiple by
multiples_from by h i l = leb→le _ most_multiple (all_at (length by) (λ n. _) h i l)

multiples_to : (by : List ℤ) → Small most_multiple by → T (are_multiples by)
multiples_to by s = all_from (length by) _ (λ i l. le→leb _ most_multiple (s i l))

-- ---- the extended map

beside_own : (p q i j : ℕ) → j + p ≡ i + q → beside p q i j ≡ negsuc 0
beside_own p q i j e = rw (eq-eqb (j + p) (i + q) e)

beside_other : (p q i j : ℕ) → j + p ≢ i + q → beside p q i j ≡ pos 0
beside_other p q i j ne = rw (ne_eqb (j + p) (i + q) ne)

module _ (p q : ℕ) (a : ℕ → ℕ → ℤ) (i j : ℕ) (x : ℤ) where
  entry_map : i < p → j < q → T (is_entry p q a i j x) → x ≡ a i j
  entry_map ip jq h = same_from x (a i j) (rw (lt-ltb j q jq, lt-ltb i p ip) at h)

  entry_beside : q ≤ j → T (is_entry p q a i j x) → x ≡ beside p q i j
  entry_beside qj h = same_from x (beside p q i j) (rw (le-ltb j q qj) at h)

  map_entry : i < p → j < q → x ≡ a i j → T (is_entry p q a i j x)
  map_entry ip jq e = rw (lt-ltb j q jq, lt-ltb i p ip) (same_to x (a i j) e)

  free_entry : p ≤ i → j < q → T (is_entry p q a i j x)
  free_entry pi jq = rw (lt-ltb j q jq, le-ltb i p pi) tt

  beside_entry : q ≤ j → x ≡ beside p q i j → T (is_entry p q a i j x)
  beside_entry qj e = rw (le-ltb j q qj) (same_to x (beside p q i j) e)

module _ (p q k : ℕ) (a v : ℕ → ℕ → ℤ) where
  entry_at : T (extends p q k a v) → (i j : ℕ) → i < p + k → j < q + k → T (is_entry p q a i j (v i j))
  unfolding extends
  entry_at h i j l m = all_at (q + k) (λ n. is_entry p q a i n (v i n)) (all_at (p + k) _ h i l) j m

  extends_from : T (extends p q k a v) → Extends p q k a v
  extends_from h =
      record {
        map = λ i j ip jq. entry_map p q a i j (v i j) ip jq (entry_at h i j (omega arith) (omega arith));
        free = λ i l ip lk. further i l (omega arith) lk (beside_other p q i (q + l) (λ e. omega arith));
        own = λ l lk. further (p + l) l (omega arith) lk (beside_own p q (p + l) (q + l) (omega arith));
        others = λ l n lk nk ne. further (p + l) n (omega arith) nk (beside_other p q (p + l) (q + n) (λ e. ne (omega arith)));
      }
    where
      further : (i l : ℕ) → i < p + k → l < k → {z : ℤ} → beside p q i (q + l) ≡ z → v i (q + l) ≡ z
      further i l ip lk e = rw (← e) (entry_beside p q a i (q + l) (v i (q + l)) (omega arith) (entry_at h i (q + l) ip (omega arith)))

  beside_is : Extends p q k a v → (i l : ℕ) → i < p + k → l < k → v i (q + l) ≡ beside p q i (q + l)
  beside_is e i l ip lk =
      elim (split i p) [
        | inl h ↦ rw (beside_other p q i (q + l) (λ g. omega arith)) (e.free i l h lk)
        | inr h ↦
            let there : p + (i - p) ≡ i = omega arith in
            elim (ℕ_discrete l (i - p)) [
              | yes g ↦
                  let same : q + (i - p) ≡ q + l = omega arith in
                  rw (beside_own p q i (q + l) (omega arith)) (rw (there, same) at (e.own (i - p) (omega arith)))
              | no ne ↦ rw (beside_other p q i (q + l) (λ g. ne (omega arith))) (rw there at (e.others (i - p) l (omega arith) lk ne))
            ]
      ]

  extends_to : Extends p q k a v → T (extends p q k a v)
  unfolding extends
  extends_to e = all_from (p + k) _ (λ i l. all_from (q + k) _ (λ j m. entry i j l m))
    where
      entry : (i j : ℕ) → i < p + k → j < q + k → T (is_entry p q a i j (v i j))
      entry i j l m =
          elim (split j q) [
            | inl jq ↦ elim (split i p) [
              | inl ip ↦ map_entry p q a i j (v i j) ip jq (e.map i j ip jq)
              | inr pi ↦ free_entry p q a i j (v i j) pi jq
            ]
            | inr qj ↦
                let there : q + (j - q) ≡ j = omega arith in
                beside_entry p q a i j (v i j) qj (rw there at (beside_is e i (j - q) l (omega arith)))
          ]

-- ---- all rows

module _ (exact : Bool) (columns n count first : ℕ) (by b a : ℕ → ℕ → ℤ) where
  rows_from : T (all_follow exact columns n count first by b a) → (i : ℕ) → i < count → T (follows exact columns n (by i) (b (first + i)) a)
  unfolding all_follow
  rows_from h = all_at count _ h

  rows_to : ((i : ℕ) → i < count → T (follows exact columns n (by i) (b (first + i)) a)) → T (all_follow exact columns n count first by b a)
  unfolding all_follow
  rows_to h = all_from count _ h

-- ---- all of it

module _ (r : Reformulation) where
  pub shown_from : T (shows r) → Shown r
  unfolding shows
  shown_from h =
      let (small, rest) = and_parts (are_small r) _ h in
      let (v, s1) = and_parts (in_range r.extended) _ small in
      let (w, s2) = and_parts (in_range r.other) _ s1 in
      let (o, s3) = and_parts (are_multiples r.onto) _ s2 in
      let (b, u) = and_parts (are_multiples r.back) _ s3 in
      let (e, r1) = and_parts (extends r.p r.q r.k (map_row r) (extended_row r)) _ rest in
      let (onto, r2) = and_parts (shown_onto r) _ r1 in
      let (back, above) = and_parts (shown_back r) _ r2 in
      record {
        extended = range_from r.extended v;
        other = range_from r.other w;
        onto_small = multiples_from r.onto o;
        back_small = multiples_from r.back b;
        above_small = multiples_from r.above u;
        extends_map = extends_from r.p r.q r.k (map_row r) (extended_row r) e;
        onto = λ i l. let z : 0 + i ≡ i = omega arith in
            exactly_from _ _ _ _ _ (rw z at (rows_from true _ _ r.m 0 _ (other_row r) (extended_row r) onto i l));
        back = λ i l. let z : 0 + i ≡ i = omega arith in
            exactly_from _ _ _ _ _ (rw z at (rows_from true _ _ (equations r) 0 _ (extended_row r) (other_row r) back i l));
        above = λ l h. at_least_from _ _ _ _ _ (rows_from false _ _ r.k r.p _ (extended_row r) (extended_row r) above l h);
      }

  pub shown_to : Shown r → T (shows r)
  unfolding shows
  shown_to s =
      and_both (are_small r) _
      (and_both (in_range r.extended) _ (range_to r.extended s.extended)
      (and_both (in_range r.other) _ (range_to r.other s.other)
      (and_both (are_multiples r.onto) _ (multiples_to r.onto s.onto_small)
      (and_both (are_multiples r.back) _ (multiples_to r.back s.back_small) (multiples_to r.above s.above_small)))))
      (and_both (extends r.p r.q r.k (map_row r) (extended_row r)) _ (extends_to r.p r.q r.k (map_row r) (extended_row r) s.extends_map)
      (and_both (shown_onto r) _
      (rows_to true _ _ r.m 0 _ (other_row r) (extended_row r) (λ i l. let z : 0 + i ≡ i = omega arith in rw z (exactly_to _ _ _ _ _ (s.onto i l))))
      (and_both (shown_back r) _
      (rows_to true _ _ (equations r) 0 _ (extended_row r) (other_row r) (λ i l. let z : 0 + i ≡ i = omega arith in rw z (exactly_to _ _ _ _ _ (s.back i l))))
      (rows_to false _ _ r.k r.p _ (extended_row r) (extended_row r) (λ l h. at_least_to _ _ _ _ _ (s.above l h))))))
