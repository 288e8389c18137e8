-- Theorems about what specs/Ranges.antt defines. Assumes nothing.
use Rattle.std.specs.Prelude.{ℕ, ◌+◌, ◌*◌, ◌%◌, ◌≤◌, ◌<◌, not, List, ◌≡◌, T, leb, eqb, ℤ, nat_abs, length, get_or}
use Rattle.std.proofs.Common.{inl, inr, arith, T_not, ltb→lt, lt→ltb, lt-ltb, le-ltb}
use Rattle.std.proofs.Math.Dec.{not_T, leb→le, le→leb, eqb→eq, eqb_refl}
use Rattle.linear.proofs.Cases.{split}
use Rattle.linear.proofs.TestLaws.{all_at, all_from, and_both, and_parts}
use Rattle.definitions.specs.Refusals.{between, out_of_range}
use Rattle.definitions.specs.System.{most_equations, most_unknowns, coef_limit, most_component}
use Rattle.list_spec.specs.Words.{word_at, signed}
use Rattle.list_spec.specs.Form.{ListFile, row_count, stream_words}
use Rattle.list_spec.specs.Writing.{most_rows, most_ending, rows_in_range, list_in_range}
use Rattle.list_spec.specs.Reading.{equations_of, unknowns_of, rows_of, ending_of, in_block, header_in_range, stream_word_in_range, block_in_range}
use Rattle.list_spec.specs.Ranges.{BlockInRange, HeaderInRange, RowsInRange, StreamWordInRange}

eqb_from : (a b : ℕ) → a ≡ b → T (eqb a b)
eqb_from a b e = rw e (eqb_refl b)

module _ (l : ListFile) where
  pub rows_from : T (list_in_range l) → RowsInRange l
  unfolding list_in_range rows_in_range
  rows_from h =
      let (a, b) = and_parts (eqb (length l.rows % l.q) 0) _ h in
      let (c, d) = and_parts (leb (row_count l) most_rows) _ b in
      let (e, f) = and_parts (leb l.ending most_ending) _ d in
      record {
        whole = eqb→eq (length l.rows % l.q) 0 a;
        few = leb→le (row_count l) most_rows c;
        ending = leb→le l.ending most_ending e;
        components = λ i m. leb→le (get_or l.rows i 0) most_component (all_at (length l.rows) _ f i m);
      }

  pub rows_to : RowsInRange l → T (list_in_range l)
  unfolding list_in_range rows_in_range
  rows_to r =
      and_both (eqb (length l.rows % l.q) 0) _ (eqb_from (length l.rows % l.q) 0 r.whole)
      (and_both (leb (row_count l) most_rows) _ (le→leb (row_count l) most_rows r.few)
      (and_both (leb l.ending most_ending) _ (le→leb l.ending most_ending r.ending)
      (all_from (length l.rows) _ (λ i m. le→leb (get_or l.rows i 0) most_component (r.components i m)))))

between_from : (a b n : ℕ) → T (between a b n) → (a ≤ n) × (n ≤ b)
between_from a b n h = let (l, m) = and_parts (leb a n) (leb n b) h in (leb→le a n l, leb→le n b m)

between_to : (a b n : ℕ) → a ≤ n → n ≤ b → T (between a b n)
between_to a b n l m = and_both (leb a n) (leb n b) (le→leb a n l) (le→leb n b m)

module _ (file : List ℕ) where
  pub header_from : T (header_in_range file) → HeaderInRange file
  unfolding header_in_range
  header_from h =
      let (a, b) = and_parts (between 1 most_equations (equations_of file)) _ h in
      let (c, d) = and_parts (between 1 most_unknowns (unknowns_of file)) _ b in
      let (e, f) = and_parts (leb (rows_of file) most_rows) _ d in
      let (g, z) = and_parts (leb (ending_of file) most_ending) _ f in
      let (p1, p2) = between_from 1 most_equations (equations_of file) a in
      let (q1, q2) = between_from 1 most_unknowns (unknowns_of file) c in
      record {
        p_some = p1;
        p_few = p2;
        q_some = q1;
        q_few = q2;
        rows = leb→le (rows_of file) most_rows e;
        ending = leb→le (ending_of file) most_ending g;
        zeros = λ j l. eqb→eq (word_at file (5 + j)) 0 (all_at 122 _ z j l);
      }

  pub header_to : HeaderInRange file → T (header_in_range file)
  unfolding header_in_range
  header_to r =
      and_both (between 1 most_equations (equations_of file)) _ (between_to 1 most_equations (equations_of file) r.p_some r.p_few)
      (and_both (between 1 most_unknowns (unknowns_of file)) _ (between_to 1 most_unknowns (unknowns_of file) r.q_some r.q_few)
      (and_both (leb (rows_of file) most_rows) _ (le→leb (rows_of file) most_rows r.rows)
      (and_both (leb (ending_of file) most_ending) _ (le→leb (ending_of file) most_ending r.ending)
      (all_from 122 _ (λ j l. eqb_from (word_at file (5 + j)) 0 (r.zeros j l))))))

module _ (coefs rows i w : ℕ) where
  pub coefficient_word : i < coefs → stream_word_in_range coefs rows i w ≡ not (out_of_range (signed w))
  coefficient_word l = rw (lt-ltb i coefs l)

  pub component_word : coefs ≤ i → i < coefs + rows → stream_word_in_range coefs rows i w ≡ leb w most_component
  component_word l m = rw (le-ltb i coefs l, lt-ltb i (coefs + rows) m)

  pub filler_word : coefs + rows ≤ i → stream_word_in_range coefs rows i w ≡ eqb w 0
  filler_word l = let m : coefs ≤ i = omega arith in rw (le-ltb i coefs m, le-ltb i (coefs + rows) l)

  in_range_small : (z : ℤ) → T (not (out_of_range z)) → nat_abs z ≤ coef_limit
  in_range_small z h = elim (split coef_limit (nat_abs z)) [ inl l ↦ absurd (T_not (out_of_range z) h (lt→ltb coef_limit (nat_abs z) l)) | inr l ↦ l ]

  small_in_range : (z : ℤ) → nat_abs z ≤ coef_limit → T (not (out_of_range z))
  small_in_range z l = not_T (out_of_range z) (λ h. omega (arith, ltb→lt coef_limit (nat_abs z) h))

  pub word_from : T (stream_word_in_range coefs rows i w) → StreamWordInRange coefs rows i w
  word_from h =
      record {
        coefficient = λ l. in_range_small (signed w) (rw (coefficient_word l) at h);
        component = λ l m. leb→le w most_component (rw (component_word l m) at h);
        filler = λ l. eqb→eq w 0 (rw (filler_word l) at h);
      }

  pub word_to : StreamWordInRange coefs rows i w → T (stream_word_in_range coefs rows i w)
  word_to r =
      elim (split i coefs) [
        | inl l ↦ rw (coefficient_word l) (small_in_range (signed w) (r.coefficient l))
        | inr l ↦ elim (split i (coefs + rows)) [
          | inl m ↦ rw (component_word l m) (le→leb w most_component (r.component l m))
          | inr m ↦ rw (filler_word m) (eqb_from w 0 (r.filler m))
        ]
      ]

module _ (file : List ℕ) (coefs rows b : ℕ) where
  pub block_from : T (block_in_range file coefs rows b) → BlockInRange file coefs rows b
  unfolding block_in_range
  block_from h j l = word_from coefs rows (stream_words * b + j) (in_block file (b + 1) (j + 1)) (all_at stream_words _ h j l)

  pub block_to : BlockInRange file coefs rows b → T (block_in_range file coefs rows b)
  unfolding block_in_range
  block_to r = all_from stream_words _ (λ j l. word_to coefs rows (stream_words * b + j) (in_block file (b + 1) (j + 1)) (r j l))
