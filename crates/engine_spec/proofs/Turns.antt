-- Each kind of turn keeps a stage sound, and a stage that ends is closed and has the whole basis. Assumes nothing.
use Rattle.std.specs.Prelude.{◌≡◌, refl, ◌≢◌, ◌⊎◌, Bool, ℕ, ◌+◌, ◌*◌, ◌-◌, ◌≤◌, ◌<◌, eqb, ℤ, length}
use Rattle.std.proofs.Common.{sym, ◌∙◌, eqb→eq}
use Rattle.std.proofs.Math.Logic.{inl, inr}
use native.Mathlib.Omega.{arith}
use Rattle.std.proofs.Math.Dec.{eqb_refl}
use Rattle.linear.proofs.Cases.{split}
use Rattle.linear.specs.TupleLaws.{total_sum}
use Rattle.linear.proofs.TupleLaws.{least, total_same}
use Rattle.linear.specs.Tuples.{Same, total}
use Rattle.definitions.specs.System.{most_component}
use Rattle.engine_spec.specs.Caps.{Inside}
use Rattle.engine_spec.specs.Equations.{Holding}
use Rattle.engine_spec.proofs.ReductionLaws.{plus_wanted}
use Rattle.engine_spec.proofs.ReductionLaws.{reduced_itself}
use Rattle.engine_spec.specs.Signs.{Closed, Reduced, plus}
use Rattle.engine_spec.proofs.Search.{before_next, first_least, first_passes, found_holds, none_found, pair_found, pair_passes}
use Rattle.engine_spec.specs.Sound.{Given, Gone, Sound}
use Rattle.engine_spec.proofs.Sound.{grown_sound, kept, new, still_reduced}
use Rattle.engine_spec.specs.Tests.{Pair}
use Rattle.engine_spec.proofs.Tests.{due_is, is_due_lem, next_above, next_pairs, next_rows}
use Rattle.engine_spec.specs.Stage.{Stage, above, below, due_row, grown, is_due, next_degree, passed, raised, row, sum_of}

module _ (cap p q : ℕ) (a : ℕ → ℕ → ℤ) (c : ℕ → ℤ) (m : ℕ) (basis : ℕ → ℕ → ℕ) (given : Given cap p q a m basis) (s : Stage)
    (sound : Sound cap p q a c m basis s) where
  -- ---- the next row of the basis

  abbrev i₀ : ℕ
  i₀ = due_row q m basis s

  abbrev is_degree : ℕ → Bool
  is_degree i = eqb (total (basis i) q) s.degree

  -- a row of the basis of the present degree before the next one was gone through
  row_passes : (i : ℕ) → i < i₀ → total (basis i) q ≡ s.degree → i < s.taken
  row_passes i l e =
      elim (split i s.taken) [
        | inl u ↦ u
        | inr u ↦ absurd (first_passes (m - s.taken) s.taken is_degree i u l (rw e (eqb_refl s.degree)))
      ]

  pub row_sound : i₀ < m → s.rows * q + q ≤ length s.table → Sound cap p q a c m basis (grown q (basis i₀) (i₀ + 1) s.upper s.lower s)
  row_sound more room =
      let x = basis i₀ in
      let exact : total x q ≡ s.degree = eqb→eq (total x q) s.degree (found_holds m s.taken is_degree more) in
      let late : s.taken ≤ i₀ = first_least (m - s.taken) s.taken is_degree in
      let stays = kept cap p q a c m basis s sound x (i₀ + 1) s.upper s.lower room exact in
      grown_sound cap p q a c m basis s sound x (i₀ + 1) s.upper s.lower room exact (given.loops.only i₀ more).holds
      (λ j jq. given.small i₀ j more jq)
      (λ i l g. elim g [
        | inl u ↦ inl (inl u)
        | inr (e, u) ↦ elim (split i i₀) [ inl w ↦ inl (inr (e, row_passes i w e)) | inr w ↦ let is : i ≡ i₀ = omega arith in inr (rw is (λ j jq. refl)) ]
      ])
      (λ h k hn kn o g inside.
      still_reduced cap p q a c m basis s sound x (i₀ + 1) s.upper s.lower room exact h k hn kn (sound.pairs h k hn kn o g inside))
      (λ i l w b.
      let e = least (given.loops.only i₀ more) (row q s i) (sound.wanted i l) b in
      let (i', l', e') = sound.first i₀ late more exact i l (total_same (row q s i) x q e ∙ exact) in
      given.loops.once i' i₀ (omega arith) more (λ j jq. omega (arith, e j jq, e' j jq)))
      (λ i il im ei k kn e. elim (split k s.rows) [
        | inl u ↦
            let (l, ll, g) = sound.first i₀ late more exact k u (sym (total_same _ _ q (stays k u)) ∙ e) in
            (l, omega arith, λ j jq. stays k u j jq ∙ g j jq)
        | inr u ↦
            let g : k ≡ s.rows = omega arith in
            (i₀, omega arith, rw g (new cap p q a c m basis s sound x (i₀ + 1) s.upper s.lower room exact))
      ])

  -- ---- the next pair of the present degree

  abbrev h₀ : ℕ
  h₀ = above q c s

  abbrev k₀ : ℕ
  k₀ = below q c s

  -- a pair gone through when (h₀, k₀) is: it was before, or it is that pair
  gone_next : (h k : ℕ) → k < s.rows → Pair q c (row q s) h k → Gone q (row q s) s.degree h₀ (k₀ + 1) h k
      → Gone q (row q s) s.degree s.upper s.lower h k ⊎ ((h ≡ h₀) × (k ≡ k₀))
  gone_next h k kn o (inl l) = inl (inl l)
  gone_next h k kn o (inr (e, b)) =
      elim (before_next h₀ k₀ h k b) [
        | inl u ↦
            inl (inr (e, pair_passes s.rows (is_due q c (row q s) s.degree) s.upper s.lower h k kn u (due_is q c (row q s) h k s.degree o e)))
        | inr u ↦ inr u
      ]

  pub passed_sound : (Inside cap q (sum_of q s h₀ k₀) → Reduced q c s.rows (row q s) (sum_of q s h₀ k₀)) → Sound cap p q a c m basis (passed h₀ (k₀ + 1) s)
  unfolding passed
  passed_sound r =
      record {
        capped = sound.capped;
        fits = sound.fits;
        small = sound.small;
        wanted = sound.wanted;
        sorted = sound.sorted;
        low = sound.low;
        within = sound.within;
        pairs = λ h k hn kn o g inside. elim (gone_next h k kn o g) [
          | inl u ↦ sound.pairs h k hn kn o u inside
          | inr (eh, ek) ↦ rw (eh, ek) (r (rw (eh, ek) at inside))
        ];
        apart = sound.apart;
        first = sound.first;
      }

  pub sum_sound : h₀ < s.rows → s.rows * q + q ≤ length s.table → ((j : ℕ) → j < q → sum_of q s h₀ k₀ j ≤ most_component)
      → Inside cap q (sum_of q s h₀ k₀) → ¬ (Reduced q c s.rows (row q s) (sum_of q s h₀ k₀)) → m ≤ i₀
      → Sound cap p q a c m basis (grown q (sum_of q s h₀ k₀) s.taken h₀ (k₀ + 1) s)
  sum_sound found room small within irreducible later =
      let x = sum_of q s h₀ k₀ in
      let (kn₀, due) = pair_found s.rows (is_due q c (row q s) s.degree) s.upper s.lower found in
      let exact : total x q ≡ s.degree = total_sum x (row q s h₀) (row q s k₀) q (λ j jq. refl) ∙ is_due_lem q c (row q s) h₀ k₀ s.degree due in
      let stays = kept cap p q a c m basis s sound x s.taken h₀ (k₀ + 1) room exact in
      let adds = new cap p q a c m basis s sound x s.taken h₀ (k₀ + 1) room exact in
      let t = grown q x s.taken h₀ (k₀ + 1) s in
      grown_sound cap p q a c m basis s sound x s.taken h₀ (k₀ + 1) room exact
      (plus_wanted cap p q a (row q s h₀) (row q s k₀) (sound.wanted h₀ found) (sound.wanted k₀ kn₀) within) small (λ i l g. inl g)
      (λ h k hn kn o g inside. elim (gone_next h k kn o g) [
        | inl u ↦ still_reduced cap p q a c m basis s sound x s.taken h₀ (k₀ + 1) room exact h k hn kn (sound.pairs h k hn kn o u inside)
        | inr (eh, ek) ↦
            reduced_itself q c (s.rows + 1) (row q t) s.rows (plus (row q t h) (row q t k)) (omega arith)
            (rw (eh, ek) (λ j jq. omega (arith, adds j jq, stays h₀ found j jq, stays k₀ kn₀ j jq)))
      ])
      (λ i l w b. irreducible (record { by = i; low = l; under = b; within = w }))
      (λ i il im ei k kn e. absurd (omega (arith, row_passes i (omega arith) ei)))

  -- ---- the next degree

  module _ (none : s.rows ≤ h₀) where
    -- every pair up to the present degree is gone through
    all_gone : (h k : ℕ) → h < s.rows → k < s.rows → Pair q c (row q s) h k → total (row q s h) q + total (row q s k) q ≤ s.degree
        → Inside cap q (plus (row q s h) (row q s k)) → Reduced q c s.rows (row q s) (plus (row q s h) (row q s k))
    all_gone h k hn kn o l inside =
        sound.pairs h k hn kn o
        (elim (split (total (row q s h) q + total (row q s k) q) s.degree) [
          | inl u ↦ inl u
          | inr u ↦
              let e : total (row q s h) q + total (row q s k) q ≡ s.degree = omega arith in
              inr (e, none_found s.rows (is_due q c (row q s) s.degree) s.upper s.lower none h k hn kn (due_is q c (row q s) h k s.degree o e))
        ]) inside

  abbrev d' : ℕ
  d' = next_degree q c m basis s

  module _ (none : s.rows ≤ h₀) (later : m ≤ i₀) where
    -- every row of the basis up to the present degree is in the table
    all_taken : (i : ℕ) → i < m → total (basis i) q ≤ s.degree → (k : ℕ) × (k < s.rows) × Same q (row q s k) (basis i)
    all_taken i im l =
        sound.within i im (elim (split (total (basis i) q) s.degree) [
          | inl u ↦ inl u
          | inr u ↦ let e : total (basis i) q ≡ s.degree = omega arith in inr (e, row_passes i (omega arith) e)
        ])

    pub raised_sound : d' ≢ 0 → Sound cap p q a c m basis (raised d' s)
    unfolding raised
    raised_sound ne =
        let more : s.degree < d' = next_above q c m basis s ne in
        record {
          capped = sound.capped;
          fits = sound.fits;
          small = sound.small;
          wanted = sound.wanted;
          sorted = sound.sorted;
          low = λ i l. omega (arith, sound.low i l);
          within = λ i im g. all_taken i im (elim g [
            | inl l ↦ elim (split s.degree (total (basis i) q)) [
              | inl u ↦ absurd (omega (arith, ((next_rows q c m basis s i im).clear u).1))
              | inr u ↦ u
            ]
            | inr (e, l) ↦ absurd (omega arith)
          ]);
          pairs = λ h k hn kn o g inside. all_gone none h k hn kn o (elim g [
            | inl l ↦ elim (split s.degree (total (row q s h) q + total (row q s k) q)) [
              | inl u ↦ absurd (omega (arith, ((next_pairs q c m basis s h k hn kn o).clear u).1))
              | inr u ↦ u
            ]
            | inr (e, b) ↦ absurd (elim b [ inl u ↦ omega arith | inr (x, u) ↦ omega arith ])
          ]) inside;
          apart = sound.apart;
          first = λ i il im e k kn g. absurd (omega (arith, sound.low k kn));
        }

    -- ---- the end

    pub end_closed : d' ≡ 0 → Closed cap q c s.rows (row q s)
    end_closed e h k hn kn uh dk inside =
        let o : Pair q c (row q s) h k = record { above = uh; below = dk } in
        all_gone none h k hn kn o (elim (split s.degree (total (row q s h) q + total (row q s k) q)) [
          | inl u ↦ absurd (((next_pairs q c m basis s h k hn kn o).clear u).0 e)
          | inr u ↦ u
        ]) inside

    pub end_holding : d' ≡ 0 → Holding cap p q a s.rows (row q s)
    end_holding e =
        record {
          wanted = sound.wanted;
          all = λ t b.
              let (i, im, g) = given.loops.all t b in
              let low : total (basis i) q ≤ s.degree = elim (split s.degree (total (basis i) q)) [
                | inl u ↦ absurd (((next_rows q c m basis s i im).clear u).0 e)
                | inr u ↦ u
              ] in
              let (k, kn, w) = all_taken i im low in
              (k, kn, λ j jq. w j jq ∙ g j jq);
        }
