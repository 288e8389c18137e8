-- Theorems about what specs/Fresh.antt defines. Assumes nothing.
use Rattle.std.specs.Prelude.{◌≡◌, refl, ◌≢◌, Bool, true, false, not, cond, T, eqb, ltb, ℤ, neg_ℤ, ◌*ℤ◌}
use Rattle.std.proofs.Common.{sym, ◌∙◌, inl, inr, eqb→eq, lt→ltb, ltb→lt}
use Rattle.std.proofs.Math.Path.{ap}
use Prim.Native.Nat.{ℕ, zero, suc, ◌+◌, ◌*◌, ◌≤◌, ◌<◌}
use Rattle.std.proofs.Math.Decide.{ℕ_discrete}
use native.Mathlib.Omega.{arith}
use Rattle.std.proofs.Math.Dec.{eqb_refl, not_T}
use Rattle.std.proofs.Math.IntN.{pos, negsuc, *ℤ_comm, zero-*ℤ}
use Rattle.std.specs.Int.Signed.{lt_z, lt_z_no, lt_z_yes}
use Rattle.linear.proofs.Cases.{split}
use Rattle.linear.specs.Combinations.{Enumerates}
use Rattle.linear.proofs.Combinations.{combined_above, combined_some}
use Rattle.linear.specs.Differences.{down, down_mul, down_neg, same, same_up, up, up_le, up_lt, up_mul, up_neg}
use Rattle.linear.proofs.Differences.{one_side, sum_is}
use Rattle.linear.specs.Sums.{sum_to}
use Rattle.linear.proofs.Sums.{sum_cong}
use Rattle.linear.proofs.SystemLaws.{inner_zero, value_same, value_sum, value_unit}
use Rattle.linear.specs.Systems.{Solution, inner, value}
use Rattle.linear.proofs.TestLaws.{count_mono, count_step}
use Rattle.linear.specs.Tests.{count_to}
use Rattle.linear.specs.TupleLaws.{unit_other, unit_same}
use Rattle.linear.proofs.TupleLaws.{term_le_total, total_some}
use Rattle.linear.specs.Tuples.{AtOrBelow, Nonzero, Same, total, unit}
use Rattle.engine_spec.specs.Caps.{Inside}
use Rattle.engine_spec.specs.Equations.{Extends, Holding, LoopInside, Picked, Wanted}
use Rattle.engine_spec.proofs.Equations.{holding_below, sweep_enumerates, wanted_alike, wanted_from, wanted_inside, wanted_some}
use Rattle.engine_spec.specs.Signs.{Closed}
use Rattle.engine_spec.proofs.Signs.{consistent_rows, sign_consistent}
use Rattle.engine_spec.specs.Ends.{Ended}
use Rattle.engine_spec.proofs.Ends.{irreducible, nothing_swept}
use Rattle.engine_spec.specs.Sound.{Given, Sound}
use Rattle.engine_spec.specs.Stage.{Stage, row}
use Rattle.engine_spec.specs.Fresh.{Without, filled, from, g, made, not_below, put_at, v, without_at}

pub put_same : (f x : ℕ) (t : ℕ → ℕ) → put_at f x t f ≡ x
unfolding put_at
put_same f x t = go (eqb f f) (eqb_refl f)
  where
    go : (b : Bool) → T b → cond b x (t f) ≡ x
    go true h = refl
    go false h = absurd h

pub put_other : (f x : ℕ) (t : ℕ → ℕ) (j : ℕ) → j ≢ f → put_at f x t j ≡ t j
unfolding put_at
put_other f x t j ne = go (eqb j f) (eqb→eq j f)
  where
    go : (b : Bool) → (T b → j ≡ f) → cond b x (t j) ≡ t j
    go true h = absurd (ne (h tt))
    go false h = refl

-- ---- values

module _ (q f : ℕ) (fq : f < q) where
  -- a form without f does not see it
  value_free : (c : ℕ → ℤ) → c f ≡ pos 0 → (t : ℕ → ℕ) (x : ℕ) → value c q (put_at f x t) ≡ value c q t
  unfolding value inner
  value_free c none t x =
      sum_cong q (λ j l. elim (ℕ_discrete j f) [
        | yes e ↦ rw (e, none, zero-*ℤ (pos (put_at f x t f)), zero-*ℤ (pos (t f)))
        | no ne ↦ rw (put_other f x t j ne)
      ])

  module _ (c : ℕ → ℤ) (minus : c f ≡ negsuc 0) where
    value_times : (k : ℕ) → up (value c q (λ j. k * unit f j)) + k ≡ down (value c q (λ j. k * unit f j))
    value_times zero =
        let e : value c q (λ j. 0 * unit f j) ≡ pos 0 = unfold value in inner_zero q c (λ j. pos (0 * unit f j)) (λ j l. ap pos (omega arith)) in
        rw e (omega arith)
    value_times (suc k) =
        let sum = value_sum c q (λ j. k * unit f j) (unit f) (λ j. suc k * unit f j) (λ j l. omega arith) in
        let one : value c q (unit f) ≡ negsuc 0 = value_unit c f q fq ∙ minus in
        omega (
          arith,
          value_times k,
          same_up sum,
          sum_is (value c q (λ j. k * unit f j)) (value c q (unit f)),
          ap up one,
          ap down one,
          one_side (value c q (λ j. suc k * unit f j)),
          one_side (value c q (λ j. k * unit f j)),
        )

    -- f taken away: the value rises by it
    value_rises : (t : ℕ → ℕ) → up (value c q (put_at f 0 t)) + down (value c q t) ≡ up (value c q t) + t f + down (value c q (put_at f 0 t))
    value_rises t =
        let split_off : (j : ℕ) → j < q → t j ≡ put_at f 0 t j + t f * unit f j = λ j l. elim (ℕ_discrete j f) [
          | yes e ↦ rw (e, put_same f 0 t, unit_same f) (omega arith)
          | no ne ↦ rw (put_other f 0 t j ne, unit_other f j ne) (omega arith)
        ] in
        omega (
          arith,
          value_times (t f),
          same_up (value_sum c q (put_at f 0 t) (λ j. t f * unit f j) t split_off),
          sum_is (value c q (put_at f 0 t)) (value c q (λ j. t f * unit f j)),
        )

value_one : (q f : ℕ) → f < q → (t : ℕ → ℕ) → value (λ j. pos (unit f j)) q t ≡ pos (t f)
unfolding value inner
value_one q f fq t = sum_cong q (λ j l. *ℤ_comm (pos (unit f j)) (pos (t j))) ∙ value_unit (λ j. pos (t j)) f q fq

pub without_at_lem : (p q : ℕ) (a : ℕ → ℕ → ℤ) (f : ℕ) → f < q → Without p q a f (suc p) (without_at p a f)
unfolding without_at
without_at_lem p q a f fq =
    record {
      less = λ t s i l. early (ltb i p) (lt→ltb i p l) i t (s i (omega arith));
      none = λ t s. let e = last (ltb p p) (not_T (ltb p p) (λ h. omega (arith, ltb→lt p p h))) p t (s p (omega arith)) in omega (arith, ap up e);
      more = λ t s z i l. both (ltb i p) i t (λ h. s i (ltb→lt i p h)) z;
    }
  where
    early : (b : Bool) → T b → (i : ℕ) (t : ℕ → ℕ) → value (λ j. cond b (a i j) (pos (unit f j))) q t ≡ pos 0 → value (a i) q t ≡ pos 0
    early true h i t e = e
    early false h i t e = absurd h

    last : (b : Bool) → T (not b) → (i : ℕ) (t : ℕ → ℕ) → value (λ j. cond b (a i j) (pos (unit f j))) q t ≡ pos 0 → pos (t f) ≡ pos 0
    last true h i t e = absurd h
    last false h i t e = sym (value_one q f fq t) ∙ e

    both : (b : Bool) (i : ℕ) (t : ℕ → ℕ) → (T b → value (a i) q t ≡ pos 0) → t f ≡ 0 → value (λ j. cond b (a i j) (pos (unit f j))) q t ≡ pos 0
    both true i t s z = s tt
    both false i t s z = value_one q f fq t ∙ ap pos z

-- the equation with all signs turned asks the same: where the coefficient is 1
turned : (c : ℕ → ℤ) (q : ℕ) (t : ℕ → ℕ) → up (value (λ j. neg_ℤ (c j)) q t) + up (value c q t) ≡ down (value (λ j. neg_ℤ (c j)) q t) + down (value c q t)
unfolding value inner sum_to
turned c zero t = refl
turned c (suc q) t =
    omega (
      arith,
      turned c q t,
      sum_is (sum_to q (λ j. neg_ℤ (c j) *ℤ pos (t j))) (neg_ℤ (c q) *ℤ pos (t q)),
      sum_is (sum_to q (λ j. c j *ℤ pos (t j))) (c q *ℤ pos (t q)),
      up_mul (neg_ℤ (c q)) (pos (t q)),
      down_mul (neg_ℤ (c q)) (pos (t q)),
      up_mul (c q) (pos (t q)),
      down_mul (c q) (pos (t q)),
      simp (up_neg, down_neg) at (up_mul (neg_ℤ (c q)) (pos (t q))),
      simp (up_neg, down_neg) at (down_mul (neg_ℤ (c q)) (pos (t q))),
    )

pub extends_turned : (p q : ℕ) (a a' : ℕ → ℕ → ℤ) (c : ℕ → ℤ) → Extends p q a a' c → Extends p q a a' (λ j. neg_ℤ (c j))
extends_turned p q a a' c x =
    record {
      less = x.less;
      meets = λ t s. let e = x.meets t s in same (omega (arith, turned c q t, ap up e, ap down e));
      more = λ t s z. x.more t s (same (omega (arith, turned c q t, ap up z, ap down z)));
    }

module _ (cap p q : ℕ) (a a' : ℕ → ℕ → ℤ) (c : ℕ → ℤ) (extends : Extends p q a a' c) (f : ℕ) (fq : f < q) (uncapped : 0 < cap → 0 < f)
    (minus : c f ≡ negsuc 0) (free : (i : ℕ) → i < p → a i f ≡ pos 0) (p₀ : ℕ) (a₀ : ℕ → ℕ → ℤ) (without : Without p q a f p₀ a₀) (n : ℕ)
    (row : ℕ → ℕ → ℕ) (holding : Holding cap p₀ q a₀ n row) (closed : Closed cap q c n row) where
  put_solves : (t : ℕ → ℕ) (x : ℕ) → Solution p q a t → Solution p q a (put_at f x t)
  put_solves t x st i l = value_free q f fq (a i) (free i l) t x ∙ st i l

  row_none : (i : ℕ) → i < n → row i f ≡ 0
  row_none i l = without.none (row i) (holding.wanted i l).solution

  -- taken away again, the value is gone
  emptied : (i x : ℕ) → i < n → Same q (put_at f 0 (put_at f x (row i))) (row i)
  emptied i x l j jq =
      elim (ℕ_discrete j f) [
        | yes e ↦ rw (e, put_same f 0 (put_at f x (row i))) (sym (row_none i l))
        | no ne ↦ put_other f 0 (put_at f x (row i)) j ne ∙ put_other f x (row i) j ne
      ]

  -- what is written into f leaves a tuple inside the cap
  put_inside : (t : ℕ → ℕ) (x : ℕ) → Inside cap q t → Inside cap q (put_at f x t)
  put_inside t x inside capped some = let more = uncapped capped in omega (arith, put_other f x t 0 (omega arith), inside capped some)

  -- a row of value 0 or more, filled, is a nonzero solution with the equation
  pub filled_wanted : (i : ℕ) → i < n → down ((v cap p q a a' c extends f fq uncapped minus free p₀ a₀ without n row holding closed) (row i)) ≡ 0
      → Wanted cap p q a' (filled q c f (row i))
  filled_wanted i l none =
      let t = filled q c f (row i) in
      let w = holding.wanted i l in
      let (j, jq, h) = wanted_some cap p₀ q a₀ w in
      let apart : j ≢ f = λ e. omega (arith, row_none i l, rw e at h) in
      let zero_value : (v cap p q a a' c extends f fq uncapped minus free p₀ a₀ without n row holding closed) t ≡ pos 0 =
      same (omega (
        arith,
        value_rises q f fq c minus t,
        put_same f (up ((v cap p q a a' c extends f fq uncapped minus free p₀ a₀ without n row holding closed) (row i))) (row i),
        ap up (value_same c q (emptied i (up ((v cap p q a a' c extends f fq uncapped minus free p₀ a₀ without n row holding closed) (row i))) l)),
        ap down (value_same c q (emptied i (up ((v cap p q a a' c extends f fq uncapped minus free p₀ a₀ without n row holding closed) (row i))) l)),
      )) in
      wanted_from cap p q a'
      (extends.more t (put_solves (row i) (up ((v cap p q a a' c extends f fq uncapped minus free p₀ a₀ without n row holding closed) (row i)))
      (without.less (row i) w.solution)) zero_value)
      (j, jq, omega (arith, put_other f (up ((v cap p q a a' c extends f fq uncapped minus free p₀ a₀ without n row holding closed) (row i))) (row i) j apart))
      (put_inside (row i) (up ((v cap p q a a' c extends f fq uncapped minus free p₀ a₀ without n row holding closed) (row i)))
      (wanted_inside cap p₀ q a₀ w))

  -- such a row lies at or below each nonzero solution with the equation
  pub filled_under : (t : ℕ → ℕ) → Wanted cap p q a' t → (i : ℕ) × (i < n)
      × (down ((v cap p q a a' c extends f fq uncapped minus free p₀ a₀ without n row holding closed) (row i)) ≡ 0) × AtOrBelow q (filled q c f (row i)) t
  filled_under t w =
      let t₀ = put_at f 0 t in
      let s₀ = without.more t₀ (put_solves t 0 (extends.less t w.solution)) (put_same f 0 t) in
      let meets = extends.meets t w.solution in
      let rises = value_rises q f fq c minus t in
      let some : Nonzero q t₀ = elim (ℕ_discrete (total t₀ q) 0) [
        | no ne ↦ total_some t₀ q ne
        | yes e ↦
            let flat : (v cap p q a a' c extends f fq uncapped minus free p₀ a₀ without n row holding closed) t₀ ≡ pos 0 =
            unfold value in inner_zero q c (λ j. pos (t₀ j)) (λ j jq. ap pos (omega (arith, term_le_total t₀ q j jq))) in
            let (j, jq, h) = wanted_some cap p q a' w in
            let at_f : t f ≡ 0 = omega (arith, ap up flat, ap down flat, ap up meets, ap down meets) in
            let apart : j ≢ f = λ g. omega (arith, rw g at h) in
            absurd (omega (arith, put_other f 0 t j apart, term_le_total t₀ q j jq))
      ] in
      let (j, jq, h) = some in
      let d =
      sign_consistent cap p₀ q a₀ c n row (λ i l. (holding.wanted i l).solution) (λ i l. wanted_some cap p₀ q a₀ (holding.wanted i l)) (holding_below holding)
      closed t₀ s₀ (put_inside t 0 (wanted_inside cap p q a' w)) in
      let (k, kn, taken, nz) = combined_some q n d.sum.times row (j, jq, omega (arith, d.sum.adds_up j jq)) in
      let b : AtOrBelow q (row k) t₀ = λ i iq. omega (arith, d.sum.adds_up i iq, combined_above n d.sum.times row k i kn taken) in
      let inside = consistent_rows q c n row d k kn taken in (
        k,
        kn,
        omega (
          arith,
          inside.downs,
          ap up meets,
          ap down meets,
          one_side
              ((v cap p q a a' c extends f fq uncapped minus free p₀ a₀ without n row holding closed) t₀),
        ),
        λ i iq. elim (ℕ_discrete i f) [
          | yes e ↦ rw (e, put_same f (up ((v cap p q a a' c extends f fq uncapped minus free p₀ a₀ without n row holding closed) (row k))) (row k))
              (omega (
                arith,
                inside.ups,
                ap up meets,
                ap down meets,
                one_side
                    ((v cap p q a a' c extends f fq uncapped minus free p₀ a₀ without n row holding closed) t₀),
              ))
          | no ne ↦ rw (put_other f (up ((v cap p q a a' c extends f fq uncapped minus free p₀ a₀ without n row holding closed) (row k))) (row k) i ne)
              (omega (arith, b i iq, put_other f 0 t i ne))
        ],
      )

-- ---- before the stage: the rows of the basis in which the unknown is 0

module _ (cap p q : ℕ) (a : ℕ → ℕ → ℤ) (f : ℕ) (fq : f < q) (p₀ : ℕ) (a₀ : ℕ → ℕ → ℤ) (without : Without p q a f p₀ a₀) (m : ℕ) (basis : ℕ → ℕ → ℕ)
    (given : Given cap p q a m basis) (m₀ : ℕ) (basis₀ : ℕ → ℕ → ℕ) (picked : Picked q m basis (λ i. eqb (basis i f) 0) m₀ basis₀) where
  there : (t : ℕ → ℕ) → Wanted cap p₀ q a₀ t → Wanted cap p q a t
  there t w = record { solution = without.less t w.solution; admitted = w.admitted }

  back : (t : ℕ → ℕ) → t f ≡ 0 → Wanted cap p q a t → Wanted cap p₀ q a₀ t
  back t e w = record { solution = without.more t w.solution e; admitted = w.admitted }

  pub without_given : Given cap p₀ q a₀ m₀ basis₀
  without_given =
      record {
        loops =
            record {
              only = λ x xn.
                  let (i, im, z, e, is) = (from cap p q a f fq p₀ a₀ without m basis given m₀ basis₀ picked) x xn in
                  let loop = given.loops.only i im in
                  record {
                    holds = wanted_alike cap p₀ q a₀ (λ j jq. sym (is j jq)) (back (basis i) (eqb→eq (basis i f) 0 z) loop.holds);
                    none_below = λ t w b. loop.none_below t (there t w) (record {
                      at_most = λ j jq. omega (arith, is j jq, b.at_most j jq);
                      other = λ g. b.other (λ j jq. omega (arith, is j jq, g j jq));
                    });
                  };
              once = λ x y xy yn g.
                  let (i, im, z, e, is) = (from cap p q a f fq p₀ a₀ without m basis given m₀ basis₀ picked) x (omega arith) in
                  let (k, km, z', e', is') = (from cap p q a f fq p₀ a₀ without m basis given m₀ basis₀ picked) y yn in
                  let ik : i < k = elim (split i k) [
                    | inl l ↦ l
                    | inr l ↦ absurd (omega (arith, count_mono (λ i. eqb (basis i f) 0) k i l))
                  ] in
                  given.loops.once i k ik km (λ j jq. omega (arith, g j jq, is j jq, is' j jq));
              all = λ t b.
                  let none = without.none t b.holds.solution in
                  let whole : LoopInside cap p q a t = record {
                    holds = there t b.holds;
                    none_below = λ s w u. b.none_below s (back s (omega (arith, u.at_most f fq)) w) u;
                  } in
                  let (i, im, e) = given.loops.all t whole in
                  let z : T (eqb (basis i f) 0) = let g : basis i f ≡ 0 = e f fq ∙ none in rw g tt in (
                    count_to i (λ i. eqb (basis i f) 0),
                    omega (arith, picked.count, count_step (λ i. eqb (basis i f) 0) i m im z),
                    λ j jq. picked.rows i im z j jq ∙ e j jq,
                  );
            };
        small = λ x j xn jq. let (i, im, z, e, is) =
            (from cap p q a f fq p₀ a₀ without m basis given m₀ basis₀ picked) x xn in omega (arith, given.small i j im jq, is j jq);
      }

not_below_lem : (z : ℤ) → T (not (lt_z z (pos 0))) → down z ≡ 0
not_below_lem z h = omega (arith, up_le (lt_z_no {a = z} {b = pos 0} h), one_side z)

below_not : (z : ℤ) → down z ≡ 0 → T (not (lt_z z (pos 0)))
below_not z e = not_T (lt_z z (pos 0)) (λ h. omega (arith, up_lt (lt_z_yes {a = z} {b = pos 0} h)))

module _ (cap p q : ℕ) (a a' : ℕ → ℕ → ℤ) (c : ℕ → ℤ) (extends : Extends p q a a' c) (f : ℕ) (fq : f < q) (uncapped : 0 < cap → 0 < f)
    (minus : c f ≡ negsuc 0) (free : (i : ℕ) → i < p → a i f ≡ pos 0) (p₀ : ℕ) (a₀ : ℕ → ℕ → ℤ) (without : Without p q a f p₀ a₀) (m : ℕ)
    (basis : ℕ → ℕ → ℕ) (s : Stage) (sound : Sound cap p₀ q a₀ c m basis s) (ended : Ended cap p₀ q a₀ c s) (n' : ℕ) (row' : ℕ → ℕ → ℕ)
    (picked : Picked q s.rows (λ i. filled q c f (row q s i)) (not_below q c (row q s)) n' row') where
  none_above : (x y : ℕ) → x < n' → y < n' → x ≢ y → ¬ (AtOrBelow q (row' x) (row' y))
  none_above x y xn yn ne b =
      let (i, il, fi, ei, si) = (made cap p q a a' c extends f fq uncapped minus free p₀ a₀ without m basis s sound ended n' row' picked) x xn in
      let (k, kl, fk, ek, sk) = (made cap p q a a' c extends f fq uncapped minus free p₀ a₀ without m basis s sound ended n' row' picked) y yn in
      let vi = value c q (row q s i) in
      let vk = value c q (row q s k) in
      let less : up vi ≤ up vk = omega (arith, b f fq, si f fq, sk f fq, put_same f (up vi) (row q s i), put_same f (up vk) (row q s k)) in
      irreducible cap p₀ q a₀ c m basis s sound i k il kl
      (λ e. ne (sym ei ∙ (ap (λ i. count_to i (g cap p q a a' c extends f fq uncapped minus free p₀ a₀ without m basis s sound ended n' row' picked)) e
      ∙ ek)))
      (record { ups = less; downs = omega (arith, not_below_lem vi fi) })
      (λ j jq. elim (ℕ_discrete j f) [
        | yes e ↦ rw e (omega (arith, without.none (row q s i) (sound.wanted i il).solution))
        | no other ↦ omega (arith, b j jq, si j jq, sk j jq, put_other f (up vi) (row q s i) j other, put_other f (up vk) (row q s k) j other)
      ])

  -- they are the minimal solutions of the system with the equation inside the cap, each once
  pub fresh_loops : Enumerates q (LoopInside cap p q a') n' row'
  fresh_loops =
      sweep_enumerates q (Wanted cap p q a') (λ s t e w. wanted_alike cap p q a' e w) n' row'
      (λ x xn.
      let (i, il, fi, ei, si) = (made cap p q a a' c extends f fq uncapped minus free p₀ a₀ without m basis s sound ended n' row' picked) x xn in
      wanted_alike cap p q a' (λ j jq. sym (si j jq))
      (filled_wanted cap p q a a' c extends f fq uncapped minus free p₀ a₀ without s.rows (row q s) ended.holding ended.closed i il
      (not_below_lem (value c q (row q s i)) fi)))
      (λ t w.
      let (i, il, e, b) = filled_under cap p q a a' c extends f fq uncapped minus free p₀ a₀ without s.rows (row q s) ended.holding ended.closed t w in
      let fi = below_not (value c q (row q s i)) e in (
        count_to i (g cap p q a a' c extends f fq uncapped minus free p₀ a₀ without m basis s sound ended n' row' picked),
        omega (
          arith,
          picked.count,
          count_step (g cap p q a a' c extends f fq uncapped minus free p₀ a₀ without m basis s sound ended n' row' picked) i s.rows
              il fi,
        ),
        λ j jq. omega (arith, picked.rows i il fi j jq, b j jq),
      ))
      n' row' (nothing_swept q n' row' none_above)
