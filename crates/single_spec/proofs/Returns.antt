-- Theorems about what specs/Returns.antt defines. Assumes nothing.
use Rattle.std.specs.Prelude.{◌≡◌, ◌≢◌, Bool, ℕ, zero, suc, ◌+◌, ◌-◌, ◌≤◌, ◌<◌, T, eqb}
use Rattle.std.proofs.Common.{sym, ◌∙◌, ap, inl, inr, arith, eqb→eq}
use Rattle.linear.proofs.Cases.{split}
use Rattle.linear.proofs.Pigeonhole.{pigeonhole}
use Rattle.linear.proofs.TestLaws.{T-dec, any_at, any_from, first_at}
use Rattle.linear.specs.Tests.{any_to}
use Rattle.single_spec.specs.First.{iterate}
use Rattle.single_spec.proofs.FirstLaws.{eqb_from}
use Rattle.single_spec.specs.Returns.{Returns}

pub iterate_more : (f : ℕ → ℕ) (y a b : ℕ) → iterate f y (a + b) ≡ iterate f (iterate f y a) b
unfolding iterate
iterate_more f y a zero = let e : a + 0 ≡ a = omega arith in rw e
iterate_more f y a (suc b) = let e : a + suc b ≡ suc (a + b) = omega arith in rw e (ap f (iterate_more f y a b))

module _ {f : ℕ → ℕ} {y L : ℕ} (r : Returns f y L) where
  -- then it goes round
  pub round : (k : ℕ) → iterate f y (L + k) ≡ iterate f y k
  round k = iterate_more f y L k ∙ ap (λ z. iterate f z k) r.back

  -- and meets no number twice on the way
  pub apart : (a b : ℕ) → a < b → b < L → iterate f y a ≢ iterate f y b
  apart a b l u e =
      let g : b + (L - b) ≡ L = omega arith in
      r.not_before (a + (L - b)) (omega arith) (omega arith)
      (iterate_more f y a (L - b) ∙ ap (λ z. iterate f z (L - b)) e ∙ sym (iterate_more f y b (L - b)) ∙ ap (iterate f y) g ∙ r.back)

  -- and comes back likewise from each number on the way
  pub returns_from : (c : ℕ) → c < L → Returns f (iterate f y c) L
  returns_from c l =
      record {
        some = r.some;
        back = let e : c + L ≡ L + c = omega arith in sym (iterate_more f y c L) ∙ ap (iterate f y) e ∙ round c;
        not_before = λ k some u e. elim (split (c + k) L) [
          | inl h ↦ apart c (c + k) (omega arith) h (sym (iterate_more f y c k ∙ e))
          | inr h ↦
              let g : c + k ≡ L + (c + k - L) = omega arith in
              apart (c + k - L) c (omega arith) l (sym (round (c + k - L)) ∙ ap (iterate f y) (sym g) ∙ iterate_more f y c k ∙ e)
        ];
      }

-- Below q there is no room for more than q numbers: one of those met is met again, and first comes back to itself.
pub comes_back : (f : ℕ → ℕ) (y q : ℕ) → ((k : ℕ) → iterate f y k < q) → (a : ℕ) × (L : ℕ) × Returns f (iterate f y a) L
comes_back f y q stays = elim (T-dec (any_to (suc q) again)) [ inl h ↦ found h | inr h ↦ absurd (omega (arith, none h)) ]
  where
    again : ℕ → Bool
    again b = any_to b (λ a. eqb (iterate f y a) (iterate f y b))

    none : ¬ (T (any_to (suc q) again)) → suc q ≤ q
    none h =
        pigeonhole q (suc q) (iterate f y) (λ i l. stays i)
        (λ i j l u e. h (any_from (suc q) again j u (any_from j (λ a. eqb (iterate f y a) (iterate f y j)) i l (eqb_from _ _ e))))

    first : (a b : ℕ) → a < b → iterate f y a ≡ iterate f y b → (L : ℕ) × Returns f (iterate f y a) L
    first a b l e =
        let z = iterate f y a in
        let g : a + suc (b - suc a) ≡ b = omega arith in
        let home : iterate f z (suc (b - suc a)) ≡ z = sym (iterate_more f y a (suc (b - suc a))) ∙ ap (iterate f y) g ∙ sym e in
        let (k, u, t, least) = first_at (suc (b - suc a)) (λ k. eqb (iterate f z (suc k)) z) (b - suc a) (omega arith) (eqb_from _ _ home) in (
          suc k,
          record {
            some = omega arith;
            back = eqb→eq (iterate f z (suc k)) z t;
            not_before = λ i some v w. let h : suc (i - 1) ≡ i = omega arith in least (i - 1) (omega arith) (eqb_from _ _ (ap (iterate f z) h ∙ w));
          },
        )

    found : T (any_to (suc q) again) → (a : ℕ) × (L : ℕ) × Returns f (iterate f y a) L
    found h =
        let (b, u, t) = any_at (suc q) again h in
        let (a, l, e) = any_at b (λ a. eqb (iterate f y a) (iterate f y b)) t in
        let (L, r) = first a b l (eqb→eq (iterate f y a) (iterate f y b) e) in
        (a, L, r)
