-- Theorems about what specs/SweepTable.antt defines. Assumes nothing.
use Rattle.std.specs.Prelude.{◌≡◌, ◌⊎◌, Bool, ◌&&◌, List, ℕ, ◌+◌, ◌*◌, ◌≤◌, ◌<◌, T, length}
use Rattle.std.proofs.Common.{inl, inr, arith, lt→ltb}
use Rattle.std.proofs.Math.Bool.{not}
use Rattle.std.proofs.Math.Dec.{T_not, not_T, ltb, ltb→lt}
use Rattle.linear.proofs.Cases.{order}
use Rattle.linear.proofs.TestLaws.{T-same, and_both, and_parts, any_at, any_from, count_at, count_le, count_step}
use Rattle.linear.specs.Tests.{any_to, count_to}
use Rattle.linear.proofs.TupleLaws.{differ}
use Rattle.linear.specs.Tuples.{AtOrBelow, Same}
use Rattle.definitions.specs.System.{is_at_or_below}
use Rattle.definitions.specs.Tables.{at}
use Rattle.laws.proofs.SystemLaws.{below_from, below_to}
use Rattle.laws.proofs.Pack.{pack_outside, pack_row}
use Rattle.laws.specs.Sweep.{keeps, swept_to}
use Rattle.laws.proofs.SweepLaws.{keeps_stays, kept_below, none_earlier}
use Rattle.laws.specs.SweepTable.{StaysInPlace, now, stay, stays_here}

-- ---- the table

-- during a sweep, past the rows written so far the table is as it was: so are the rows still to be gone through
pub swept_ahead : (q : ℕ) (table : List ℕ) (stay : ℕ → Bool) (i m j : ℕ) → count_to i stay ≤ m → j < q → at (swept_to i q table stay) q m j ≡ at table q m j
swept_ahead q table stay i m j l jq = pack_outside q table 0 stay (at table q) i m j (inr (omega arith)) jq

module _ (q n : ℕ) (row : ℕ → ℕ → ℕ) (i : ℕ) (l : i < n) where
  pub keeps_in_place : T (keeps q n row i) → StaysInPlace q n row i
  keeps_in_place h =
      record { earlier = λ k ki st b. none_earlier q n row i l h k ki b; later = λ k ik kn. (keeps_stays q n row i l h).least k kn }

  -- no row at or below row i stands earlier, nor one below it anywhere
  none_at : StaysInPlace q n row i → (k : ℕ) → k < n → AtOrBelow q (row k) (row i) → T (keeps q n row k) → (i ≡ k) ⊎ ((i < k) × Same q (row k) (row i))
  none_at s k kn b st =
      elim (order i k) [
        | inl ik ↦ elim (differ q (row k) (row i)) [
          | inl e ↦ inr (ik, e)
          | inr (j, jq, ne) ↦ absurd (s.later k ik kn (record { at_most = b; other = λ e. ne (e j jq) }))
        ]
        | inr o ↦ elim o [ inl e ↦ inl e | inr ki ↦ absurd (s.earlier k ki st b) ]
      ]

  pub in_place_keeps : StaysInPlace q n row i → T (keeps q n row i)
  in_place_keeps s =
      let (k, kn, st, b) = kept_below q n row i l in
      elim (none_at s k kn b st) [
        | inl e ↦ rw e st
        | inr (ik, e) ↦ absurd (none_earlier q n row k kn st i ik (λ j jq. omega (arith, e j jq)))
      ]

module _ (q n : ℕ) (table : List ℕ) (long : n * q ≤ length table) (i : ℕ) (l : i < n) where
  -- the rows from i on
  ahead : (m : ℕ) → i ≤ m → Same q ((now q n table long i l) m) (at table q m)
  ahead m im j jq = swept_ahead q table (stay q n table long i l) i m j (omega (arith, count_le (stay q n table long i l) i)) jq

  -- the rows that stay of those before i
  behind : (k : ℕ) → k < i → T ((stay q n table long i l) k) → Same q ((now q n table long i l) (count_to k (stay q n table long i l))) (at table q k)
  behind k ki st j jq =
      let place : 0 + count_to k (stay q n table long i l) ≡ count_to k (stay q n table long i l) = omega arith in
      rw place at (pack_row q table 0 (stay q n table long i l) (at table q) n long i (omega (arith, count_le (stay q n table long i l) i)) k ki st j jq)

  here_stays : T (stays_here q n (now q n table long i l) (count_to i (stay q n table long i l)) i) → StaysInPlace q n (at table q) i
  unfolding stays_here
  here_stays h =
      let (a, b) = and_parts
      (not (any_to (count_to i (stay q n table long i l)) (λ m. is_at_or_below q ((now q n table long i l) m) ((now q n table long i l) i)))) _ h in
      record {
        earlier = λ k ki st u.
            T_not (any_to (count_to i (stay q n table long i l)) (λ m. is_at_or_below q ((now q n table long i l) m) ((now q n table long i l) i))) a
            (any_from (count_to i (stay q n table long i l)) (λ m. is_at_or_below q ((now q n table long i l) m) ((now q n table long i l) i))
            (count_to k (stay q n table long i l)) (count_step (stay q n table long i l) k i ki st)
            (below_to q ((now q n table long i l) (count_to k (stay q n table long i l))) ((now q n table long i l) i)
            (λ j jq. omega (arith, u j jq, behind k ki st j jq, ahead i (omega arith) j jq))));
        later = λ k ik kn u.
            T_not (any_to n (λ k. ltb i k &&
            (is_at_or_below q ((now q n table long i l) k) ((now q n table long i l) i) && not
            (is_at_or_below q ((now q n table long i l) i) ((now q n table long i l) k))))) b
            (any_from n (λ k. ltb i k &&
            (is_at_or_below q ((now q n table long i l) k) ((now q n table long i l) i) && not
            (is_at_or_below q ((now q n table long i l) i) ((now q n table long i l) k)))) k kn
            (and_both (ltb i k) _ (lt→ltb i k ik)
            (and_both (is_at_or_below q ((now q n table long i l) k) ((now q n table long i l) i)) _
            (below_to q ((now q n table long i l) k) ((now q n table long i l) i)
            (λ j jq. omega (arith, u.at_most j jq, ahead k (omega arith) j jq, ahead i (omega arith) j jq)))
            (not_T (is_at_or_below q ((now q n table long i l) i) ((now q n table long i l) k))
            (λ h. u.other
            (λ j jq. omega (
              arith,
              u.at_most j jq,
              below_from q ((now q n table long i l) i) ((now q n table long i l) k) h j jq,
              ahead k (omega arith) j jq,
              ahead i (omega arith) j jq,
            )))))));
      }

  stays_here_lem : StaysInPlace q n (at table q) i → T (stays_here q n (now q n table long i l) (count_to i (stay q n table long i l)) i)
  unfolding stays_here
  stays_here_lem s =
      and_both (not (any_to (count_to i (stay q n table long i l)) (λ m. is_at_or_below q ((now q n table long i l) m) ((now q n table long i l) i)))) _
      (not_T (any_to (count_to i (stay q n table long i l)) (λ m. is_at_or_below q ((now q n table long i l) m) ((now q n table long i l) i))) (λ h.
      let (m, mc, u) = any_at (count_to i (stay q n table long i l)) (λ m. is_at_or_below q ((now q n table long i l) m) ((now q n table long i l) i)) h in
      let (k, ki, st, e) = count_at (stay q n table long i l) i m mc in
      let under : AtOrBelow q ((now q n table long i l) (count_to k (stay q n table long i l))) ((now q n table long i l) i) =
      rw e (below_from q ((now q n table long i l) m) ((now q n table long i l) i) u) in
      s.earlier k ki st (λ j jq. omega (arith, under j jq, behind k ki st j jq, ahead i (omega arith) j jq))))
      (not_T (any_to n (λ k. ltb i k &&
      (is_at_or_below q ((now q n table long i l) k) ((now q n table long i l) i) && not
      (is_at_or_below q ((now q n table long i l) i) ((now q n table long i l) k))))) (λ h.
      let (k, kn, u) = any_at n
      (λ k. ltb i k && (is_at_or_below q ((now q n table long i l) k) ((now q n table long i l) i) && not
      (is_at_or_below q ((now q n table long i l) i) ((now q n table long i l) k)))) h in
      let (ik, v) = and_parts (ltb i k) _ u in
      let ik' : i < k = ltb→lt i k ik in
      let (a, b) = and_parts (is_at_or_below q ((now q n table long i l) k) ((now q n table long i l) i)) _ v in
      s.later k ik' kn (record {
        at_most = λ j jq. omega (
          arith,
          below_from q ((now q n table long i l) k) ((now q n table long i l) i) a j jq,
          ahead k (omega arith) j jq,
          ahead i
              (omega arith) j jq,
        );
        other =
            λ e. T_not (is_at_or_below q ((now q n table long i l) i) ((now q n table long i l) k)) b
            (below_to q ((now q n table long i l) i) ((now q n table long i l) k)
            (λ j jq. omega (arith, e j jq, ahead k (omega arith) j jq, ahead i (omega arith) j jq)));
      })))

  -- the loop's test is the sweep's
  pub sweep_test : stays_here q n (now q n table long i l) (count_to i (stay q n table long i l)) i ≡ keeps q n (at table q) i
  sweep_test =
      T-same (stays_here q n (now q n table long i l) (count_to i (stay q n table long i l)) i) (keeps q n (at table q) i)
      (λ h. in_place_keeps q n (at table q) i l (here_stays h))
      (λ h. stays_here_lem (keeps_in_place q n (at table q) i l h))
