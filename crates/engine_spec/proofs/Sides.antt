-- Theorems about what specs/Sides.antt defines. Assumes nothing.
use Rattle.std.specs.Prelude.{◌≡◌, refl, ◌⊎◌, List, [], ◌∷◌, ℕ, zero, suc, ◌+◌, ◌*◌, ◌-◌, ◌≤◌, ◌<◌, T, ℤ, pos, negsuc, neg_ℤ, ◌+ℤ◌, ◌*ℤ◌, get_or, length}
use Rattle.std.proofs.Common.{sym, ◌∙◌, ap, inl, inr, le-div_iff_mul-le, arith, eqb→eq, length-append, get_or-append-add}
use Rattle.std.proofs.Math.Dec.{eqb_refl}
use Rattle.std.proofs.Math.ListN.{get_or-append}
use Rattle.linear.specs.Cases.{below_suc}
use Rattle.linear.proofs.Cases.{split}
use Rattle.linear.specs.Combinations.{Enumerates}
use Rattle.linear.specs.Differences.{down, down_mul, down_neg, integers, same_up, up, up_mul, up_neg}
use Rattle.linear.proofs.Differences.{sum_is}
use Rattle.linear.proofs.RightSides.{Extends, value_first}
use Rattle.linear.proofs.SystemLaws.{value_sum}
use Rattle.linear.specs.Systems.{Meets, Solution, value}
use Rattle.linear.proofs.TestLaws.{count_mono, count_step}
use Rattle.linear.specs.Tests.{count_to}
use Rattle.linear.proofs.TupleLaws.{least, minimal_from}
use Rattle.linear.specs.Tuples.{Minimal, Same, put, rest}
use Rattle.definitions.specs.Tables.{at}
use Rattle.theorems.specs.Basis.{Basis}
use Rattle.theorems.specs.Listed.{Exactly}
use Rattle.theorems.proofs.RightSides.{at_0_basis, at_1_basis, basis_at_0, basis_at_1, extended_task, zero_minimal}
use Rattle.linear.proofs.Loops.{Loop}
use Rattle.laws.proofs.Pack.{pack_length}
use Rattle.engine_spec.specs.Ends.{picked_from}
use Rattle.engine_spec.specs.Engine.{system_of}
use Rattle.engine_spec.specs.Equations.{Picked}
use Rattle.engine_spec.proofs.Operations.{value_alike}
use Rattle.engine_spec.proofs.Whole.{picked_packed}
use Rattle.engine_spec.specs.Sides.{MeetsFrom, f, handed_count, less_to, lifted, list'}

-- ---- laws

pub less_length : (n q : ℕ) (coefs rights : List ℤ) (lower : ℕ → ℕ) → length (less_to n q coefs rights lower) ≡ n
unfolding less_to
less_length zero q coefs rights lower = refl
less_length (suc n) q coefs rights lower =
    omega (
      arith,
      less_length n q coefs rights lower,
      length-append (less_to n q coefs rights lower) ((get_or rights n (pos 0) +ℤ neg_ℤ (value (system_of q coefs n) q lower)) ∷ []),
    )

pub less_entry : (n q : ℕ) (coefs rights : List ℤ) (lower : ℕ → ℕ) (i : ℕ) → i < n
    → get_or (less_to n q coefs rights lower) i (pos 0) ≡ get_or rights i (pos 0) +ℤ neg_ℤ (value (system_of q coefs i) q lower)
unfolding less_to
less_entry zero q coefs rights lower i l = absurd (omega arith)
less_entry (suc n) q coefs rights lower i l =
    elim (below_suc l) [
      | inl k ↦
          get_or-append (less_to n q coefs rights lower) _ (pos 0) i (omega (arith, less_length n q coefs rights lower))
          ∙ less_entry n q coefs rights lower i k
      | inr e ↦
          let place : n ≡ length (less_to n q coefs rights lower) + 0 = omega (arith, less_length n q coefs rights lower) in
          rw e (ap (λ k. get_or (less_to (suc n) q coefs rights lower) k (pos 0)) place ∙ get_or-append-add (less_to n q coefs rights lower) _ 0 (pos 0))
    ]

-- minimal tuples of sets that have the same tuples
pub minimal_as : {q : ℕ} {U W : (ℕ → ℕ) → Type 0} → ((t : ℕ → ℕ) → U t → W t) → ((t : ℕ → ℕ) → W t → U t) → {t : ℕ → ℕ} → Minimal q U t → Minimal q W t
minimal_as f g {t} m = record { holds = f t m.holds; none_below = λ s v b. m.none_below s (g s v) b }

pub minimal_alike : (q : ℕ) {W : (ℕ → ℕ) → Type 0} → ((s t : ℕ → ℕ) → Same q s t → W s → W t) → (s t : ℕ → ℕ) → Same q s t → Minimal q W s → Minimal q W t
minimal_alike q alike s t e m =
    minimal_from (alike s t e m.holds) (λ u w under j l. least m u w (λ i k. omega (arith, under i k, e i k)) j l ∙ e j l)

-- ---- the rows handed out

-- Where the rows with c in the first unknown stand for the tuples of W, each for its own, what is handed out is W, each tuple once.
module _ (q : ℕ) (some : 0 < q) (L W : (ℕ → ℕ) → Type 0) (alike : (s t : ℕ → ℕ) → Same q s t → W s → W t) (c : ℕ) (lower : ℕ → ℕ)
    (there : (t : ℕ → ℕ) → L t → t 0 ≡ c → W (λ j. rest t j + lower j))
    (back : (s : ℕ → ℕ) → W s → (t : ℕ → ℕ) × L t × (t 0 ≡ c) × Same q (λ j. rest t j + lower j) s) (list : List ℕ) (n : ℕ)
    (rows : Enumerates (suc q) L n (at list (suc q))) (out : List ℕ) (roomy : handed_count c q list n * q ≤ length out) where
  picked : Picked q n (lifted q lower list) (f q some L W alike c lower there back list n rows out roomy)
      (count_to n (f q some L W alike c lower there back list n rows out roomy)) (at (list' q some L W alike c lower there back list n rows out roomy) q)
  picked = picked_packed q n (count_to n (f q some L W alike c lower there back list n rows out roomy)) out
      (f q some L W alike c lower there back list n rows out roomy) (lifted q lower list) roomy (omega arith)

  from : (x : ℕ) → x < count_to n (f q some L W alike c lower there back list n rows out roomy) → (i : ℕ) × (i < n)
      × T ((f q some L W alike c lower there back list n rows out roomy) i) × (count_to i (f q some L W alike c lower there back list n rows out roomy) ≡ x)
      × Same q (at (list' q some L W alike c lower there back list n rows out roomy) q x) (lifted q lower list i)
  from = picked_from q n (lifted q lower list) (f q some L W alike c lower there back list n rows out roomy)
      (count_to n (f q some L W alike c lower there back list n rows out roomy)) (at (list' q some L W alike c lower there back list n rows out roomy) q) picked

  first_is : (i : ℕ) → T ((f q some L W alike c lower there back list n rows out roomy) i) → at list (suc q) i 0 ≡ c
  first_is i h = eqb→eq (at list (suc q) i 0) c h

  pub handed_exactly : Exactly q W (list' q some L W alike c lower there back list n rows out roomy)
      (count_to n (f q some L W alike c lower there back list n rows out roomy))
  handed_exactly =
      record {
        part =
            record {
              room =
                  (le-div_iff_mul-le {k = q} {x = count_to n (f q some L W alike c lower there back list n rows out roomy)}
                  {y = length (list' q some L W alike c lower there back list n rows out roomy)} some).1
                  (omega (arith, roomy, pack_length q out 0 (f q some L W alike c lower there back list n rows out roomy) (lifted q lower list) n));
              only = λ x xn.
                  let (i, il, fi, e, is) = from x xn in
                  alike (lifted q lower list i) (at (list' q some L W alike c lower there back list n rows out roomy) q x) (λ j jq. sym (is j jq))
                  (there (at list (suc q) i) (rows.only i il) (first_is i fi));
              once = λ x y xy yn g.
                  let (i, il, fi, e, is) = from x (omega arith) in
                  let (k, kl, fk, e', is') = from y yn in
                  let ik : i < k = elim (split i k)
                  [ inl l ↦ l | inr l ↦ absurd (omega (arith, count_mono (f q some L W alike c lower there back list n rows out roomy) k i l)) ] in
                  rows.once i k ik kl (each_place i k (first_is i fi) (first_is k fk) (λ j jq. omega (arith, g j jq, is j jq, is' j jq)));
            };
        all = λ s w.
            let (t, h, z, e) = back s w in
            let (i, il, g) = rows.all t h in
            let first : at list (suc q) i 0 ≡ c = g 0 (omega arith) ∙ z in
            let fi : T ((f q some L W alike c lower there back list n rows out roomy) i) = rw first (eqb_refl c) in (
              count_to i (f q some L W alike c lower there back list n rows out roomy),
              count_step (f q some L W alike c lower there back list n rows out roomy) i n il fi,
              λ j jq. omega (arith, picked.rows i il fi j jq, g (suc j) (omega arith), e j jq),
            );
      }
    where
      each_place : (i k : ℕ) → at list (suc q) i 0 ≡ c → at list (suc q) k 0 ≡ c → Same q (lifted q lower list i) (lifted q lower list k)
          → Same (suc q) (at list (suc q) i) (at list (suc q) k)
      each_place i k x y g zero l = x ∙ sym y
      each_place i k x y g (suc j) l = omega (arith, g j (omega arith))

-- ---- right sides: minimal solutions of the extended system, and those of Job 1

module _ {p q : ℕ} {a : ℕ → ℕ → ℤ} {b : ℕ → ℤ} {e : ℕ → ℕ → ℤ} (x : Extends p q a b e) where
  -- below a tuple with at most 1 in the first unknown all tuples have that
  loop_capped : (t : ℕ → ℕ) → t 0 ≤ 1 → Loop p (suc q) e t → Basis (extended_task x) t
  loop_capped t low m =
      minimal_from (record { solution = m.holds.solution; admitted = record { some = m.holds.admitted; first = low } })
      (λ s w under. least m s (record { solution = w.solution; admitted = w.admitted.some }) under)

  capped_loop : (t : ℕ → ℕ) → Basis (extended_task x) t → Loop p (suc q) e t
  capped_loop t m =
      minimal_from (record { solution = m.holds.solution; admitted = m.holds.admitted.some })
      (λ s w under. least m s (record {
        solution = w.solution;
        admitted = record { some = w.admitted; first = omega (arith, under 0 (omega arith), m.holds.admitted.first) };
      }) under)

  pub loop_at_0 : (t : ℕ → ℕ) → Loop p (suc q) e t → t 0 ≡ 0 → Loop p q a (rest t)
  loop_at_0 t m z = basis_at_0 x t z (loop_capped t (omega arith) m)

  pub at_0_loop : (s : ℕ → ℕ) → Loop p q a s → Loop p (suc q) e (put 0 s)
  at_0_loop s m = capped_loop (put 0 s) (at_0_basis x s m)

  pub loop_at_1 : (t : ℕ → ℕ) → Loop p (suc q) e t → t 0 ≡ 1 → Minimal q (Meets p q a b) (rest t)
  loop_at_1 t m z = basis_at_1 x t z (loop_capped t (omega arith) m)

  pub at_1_loop : (s : ℕ → ℕ) → Minimal q (Meets p q a b) s → Loop p (suc q) e (put 1 s)
  at_1_loop s m = capped_loop (put 1 s) (at_1_basis x s m)

module _ (p q : ℕ) (a : ℕ → ℕ → ℤ) (b b' : ℕ → ℤ) (lower : ℕ → ℕ) (less : (i : ℕ) → i < p → b' i ≡ b i +ℤ neg_ℤ (value (a i) q lower)) where
  raised_meets : (y t : ℕ → ℕ) → Same q t (λ j. y j + lower j) → Meets p q a b' y → Meets p q a b t
  raised_meets y t e m i l =
      let sum = value_sum (a i) q y lower t e in
      omega (
        integers,
        sum,
        m i l,
        less i l,
        sum_is (value (a i) q y) (value (a i) q lower),
        sum_is (b i) (neg_ℤ (value (a i) q lower)),
        up_neg (value (a i) q lower),
        down_neg (value (a i) q lower),
      )

  lowered_meets : (y t : ℕ → ℕ) → Same q t (λ j. y j + lower j) → Meets p q a b t → Meets p q a b' y
  lowered_meets y t e m i l =
      let sum = value_sum (a i) q y lower t e in
      omega (
        integers,
        sum,
        m i l,
        less i l,
        sum_is (value (a i) q y) (value (a i) q lower),
        sum_is (b i) (neg_ℤ (value (a i) q lower)),
        up_neg (value (a i) q lower),
        down_neg (value (a i) q lower),
      )

  pub raised_minimal : (y : ℕ → ℕ) → Minimal q (Meets p q a b') y → Minimal q (MeetsFrom p q a b lower) (λ j. y j + lower j)
  raised_minimal y m =
      minimal_from (record { meets = raised_meets y (λ j. y j + lower j) (λ j l. refl) m.holds; above = λ j l. omega arith })
      (λ s w under j l. omega (
        arith,
        least m (λ j. s j - lower j) (lowered_meets (λ j. s j - lower j) s (λ j l. omega (arith, w.above j l)) w.meets)
            (λ j l. omega (arith, under j l, w.above j l)) j l,
        w.above j l,
      ))

  pub lowered_minimal : (t : ℕ → ℕ) → Minimal q (MeetsFrom p q a b lower) t → Minimal q (Meets p q a b') (λ j. t j - lower j)
  lowered_minimal t m =
      minimal_from (lowered_meets (λ j. t j - lower j) t (λ j l. omega (arith, m.holds.above j l)) m.holds.meets)
      (λ s w under j l. omega (
        arith,
        least m (λ j. s j + lower j) (record { meets = raised_meets s (λ j. s j + lower j) (λ j l. refl) w; above = λ j l. omega arith })
            (λ j l. omega (arith, under j l, m.holds.above j l)) j l,
      ))

-- ---- rows with more than 1 in the first unknown

-- c times the right side is 0 or the right side itself: it is 0
side_zero : (b v : ℤ) (c : ℕ) → 1 < c → neg_ℤ b *ℤ pos c +ℤ v ≡ pos 0 → (v ≡ pos 0) ⊎ (v ≡ b) → b ≡ pos 0
side_zero b v zero l e o = absurd (omega arith)
side_zero b v (suc zero) l e o = absurd (omega arith)
side_zero (pos zero) v (suc (suc c)) l e o = refl
side_zero (pos (suc n)) v (suc (suc c)) l e o =
    let sum = sum_is (negsuc n *ℤ pos (suc (suc c))) v in
    let ups = up_mul (negsuc n) (pos (suc (suc c))) in
    let downs = down_mul (negsuc n) (pos (suc (suc c))) in
    absurd (elim o [
      | inl z ↦ omega (arith, sum, same_up e, ups, downs, ap up z, ap down z)
      | inr z ↦ omega (arith, sum, same_up e, ups, downs, ap up z, ap down z)
    ])
side_zero (negsuc n) v (suc (suc c)) l e o =
    let sum = sum_is (pos (suc n) *ℤ pos (suc (suc c))) v in
    let ups = up_mul (pos (suc n)) (pos (suc (suc c))) in
    let downs = down_mul (pos (suc n)) (pos (suc (suc c))) in
    absurd (elim o [
      | inl z ↦ omega (arith, sum, same_up e, ups, downs, ap up z, ap down z)
      | inr z ↦ omega (arith, sum, same_up e, ups, downs, ap up z, ap down z)
    ])

-- the value of an extended equation, with the first unknown apart
pub value_apart : {p q : ℕ} {a : ℕ → ℕ → ℤ} {b : ℕ → ℤ} {e : ℕ → ℕ → ℤ} → Extends p q a b e → (i : ℕ) → i < p → (t : ℕ → ℕ)
    → value (e i) (suc q) t ≡ neg_ℤ (b i) *ℤ pos (t 0) +ℤ value (a i) q (rest t)
value_apart {q = q} {e = e} x i l t = rw (x.first i l, value_alike q (rest t) (λ j jq. x.others i j l jq)) at (value_first (e i) q t)

module _ {p q : ℕ} {a : ℕ → ℕ → ℤ} {b : ℕ → ℤ} {e : ℕ → ℕ → ℤ} (x : Extends p q a b e) (t : ℕ → ℕ) (m : Loop p (suc q) e t) (more : 1 < t 0) where
  first_apart : (i : ℕ) → i < p → neg_ℤ (b i) *ℤ pos (t 0) +ℤ value (a i) q (rest t) ≡ pos 0
  first_apart i l = sym (value_apart x i l t) ∙ m.holds.solution i l

  -- if all right sides were 0, the unit tuple of the first unknown would lie below
  sides_some : ((i : ℕ) → i < p → b i ≡ pos 0) → ⊥
  sides_some zeros =
      let one = at_1_loop x (λ j. 0) (zero_minimal p q a b zeros) in
      let same = least m (put 1 (λ j. 0)) one.holds (λ j l. under j) in
      omega (arith, same 0 (omega arith))
    where
      under : (j : ℕ) → put 1 (λ j. 0) j ≤ t j
      under zero = omega arith
      under (suc j) = omega arith

  -- without the first unknown they are no solutions of the map, and do not meet the right sides
  pub neither : ¬ (Solution p q a (rest t)) × ¬ (Meets p q a b (rest t))
  neither = (
    λ s. sides_some (λ i l. side_zero (b i) (value (a i) q (rest t)) (t 0) more (first_apart i l) (inl (s i l))),
    λ s. sides_some (λ i l. side_zero (b i) (value (a i) q (rest t)) (t 0) more (first_apart i l) (inr (s i l))),
  )
