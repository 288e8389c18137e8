-- Theorems about what specs/Second.antt defines. Assumes nothing.
use Rattle.std.specs.Prelude.{◌≡◌, refl, ℕ, ◌+◌, ◌-◌, ◌<◌, ℤ}
use Rattle.std.proofs.Common.{sym, ◌∙◌, inl, inr, arith}
use Rattle.linear.proofs.Cases.{split}
use Rattle.linear.specs.Combinations.{Enumerates}
use Rattle.linear.proofs.SystemLaws.{inner_cong, value_sum}
use Rattle.linear.specs.Systems.{Solution, SolutionIn, value}
use Rattle.linear.specs.Tuples.{Minimal, Nonzero}
use Rattle.theorems.specs.View.{View}
use Rattle.theorems.specs.Reaching.{Begins, Plus, Raising, Reaching, Sure, WantedBy, alike_reaches, alike_sure, begins_reaching}
use Rattle.theorems.specs.Reaching.{begins_sure, growing_reaches, growing_sure, enlisting_reaches, enlisting_sure}
use Rattle.linear.proofs.Loops.{Loop, Solutions, loops_make_up}
use Rattle.desk_spec.specs.Sweeping.{Sweeps}
use Rattle.desk_spec.proofs.Sweeping.{sweeping_enumerates, sweeping_reaches, sweeping_sure}
use Rattle.desk_spec.specs.Second.{InFirst, Joined, Walked, begun, enlisting, growing, r, relisting, sweeping}

-- a sum of two solutions is one
sum_solves : (p q : ℕ) (a : ℕ → ℕ → ℤ) (s u t : ℕ → ℕ) → Plus q s u t → Solution p q a s → Solution p q a u → Solution p q a t
sum_solves p q a s u t e hs hu i l = value_sum (a i) q s u t e ∙ rw (hs i l, hu i l)

pub first_onwards : (p₁ q : ℕ) (a₁ : ℕ → ℕ → ℤ) (n : ℕ) (by : ℕ → ℕ → ℕ) → Solutions p₁ q a₁ n by
    → (s t : ℕ → ℕ) (k : ℕ) → k < n → Plus q s (by k) t → InFirst p₁ q a₁ s → InFirst p₁ q a₁ t
first_onwards p₁ q a₁ n by solves s t k l e f =
    record {
      solution = sum_solves p₁ q a₁ s (by k) t e f.solution (solves k l);
      admitted = let (j, jq, more) = f.admitted in (j, jq, omega (arith, e j jq));
    }

value_coefs : {c d : ℕ → ℤ} (q : ℕ) (x : ℕ → ℕ) → ((j : ℕ) → j < q → c j ≡ d j) → value c q x ≡ value d q x
unfolding value
value_coefs q x e = inner_cong q e (λ j l. refl)

module _ {p₁ p₂ q : ℕ} {a₁ a₂ a : ℕ → ℕ → ℤ} (w : Joined p₁ p₂ q a₁ a₂ a) (x : ℕ → ℕ) where
  pub whole_first : Solution (p₁ + p₂) q a x → Solution p₁ q a₁ x
  whole_first s i l = value_coefs q x (λ j jq. sym (w.first i j l jq)) ∙ s i (omega arith)

  pub whole_second : Solution (p₁ + p₂) q a x → Solution p₂ q a₂ x
  whole_second s i l = value_coefs q x (λ j jq. sym (w.second i j l jq)) ∙ s (p₁ + i) (omega arith)

  pub both_whole : Solution p₁ q a₁ x → Solution p₂ q a₂ x → Solution (p₁ + p₂) q a x
  both_whole f g i l =
      elim (split i p₁) [
        | inl h ↦ value_coefs q x (λ j jq. w.first i j h jq) ∙ f i h
        | inr h ↦
            let e : p₁ + (i - p₁) ≡ i = omega arith in
            let k : i - p₁ < p₂ = omega arith in
            rw e at (value_coefs q x (λ j jq. w.second (i - p₁) j k jq) ∙ g (i - p₁) k)
      ]

-- the minimal tuples of two sets that are the same are the same
minimal_of : {q : ℕ} {W U : (ℕ → ℕ) → Type 0} → ((t : ℕ → ℕ) → W t → U t) → ((t : ℕ → ℕ) → U t → W t) → (t : ℕ → ℕ) → Minimal q W t → Minimal q U t
minimal_of f g t m = record { holds = f t m.holds; none_below = λ s v b. m.none_below s (g s v) b }

module _ {r : Raising} where
  walked_sure : ((v : View) → Begins r v → Sure r v) → {v : View} → Walked r v → Sure r v
  walked_sure start (begun {v = v} b) = start v b
  walked_sure start (enlisting w s) = enlisting_sure s (walked_sure start w)
  walked_sure start (growing w s) = growing_sure s (walked_sure start w)
  walked_sure start (sweeping w s) = sweeping_sure s (walked_sure start w)
  walked_sure start (relisting w s) = alike_sure s (walked_sure start w)

  walked_reaches : ((v : View) → Begins r v → Reaching r v) → {v : View} → Walked r v → Reaching r v
  walked_reaches start (begun {v = v} b) = start v b
  walked_reaches start (enlisting w s) = enlisting_reaches s (walked_reaches start w)
  walked_reaches start (growing w s) = growing_reaches s (walked_reaches start w)
  walked_reaches start (sweeping w s) = sweeping_reaches s (walked_reaches start w)
  walked_reaches start (relisting w s) = alike_reaches s (walked_reaches start w)

-- ---- what it promises

module _ {p₁ p₂ q : ℕ} {a₁ a₂ a : ℕ → ℕ → ℤ} (w : Joined p₁ p₂ q a₁ a₂ a) (n : ℕ) (by : ℕ → ℕ → ℕ) where
  -- the solutions that the second walk looks for are the nonzero solutions of the whole map
  wanted_whole : (t : ℕ → ℕ) → WantedBy (r w n by) t → SolutionIn (p₁ + p₂) q a (Nonzero q) t
  wanted_whole t h = record { solution = both_whole w t h.admitted.solution h.solution; admitted = h.admitted.admitted }

  whole_wanted : (t : ℕ → ℕ) → SolutionIn (p₁ + p₂) q a (Nonzero q) t → WantedBy (r w n by) t
  whole_wanted t h =
      record { solution = whole_second w t h.solution; admitted = record { solution = whole_first w t h.solution; admitted = h.admitted } }

  -- "cut short, it promises solutions only": from any n nonzero solutions of the first group, each row listed is a nonzero solution of the whole map
  pub second_solutions : ((k : ℕ) → k < n → InFirst p₁ q a₁ (by k)) → {v : View} → Walked (r w n by) v → (i : ℕ) → i < v.found 0
      → SolutionIn (p₁ + p₂) q a (Nonzero q) (v.row 0 i)
  second_solutions some {v} h i l = wanted_whole (v.row 0 i) ((walked_sure (λ v b. begins_sure b some) h).wanted 0 i l)

  -- The start: each generator is a row, with those before it marked. "From the first group's whole list" each minimal solution of the whole map can be reached.
  second_begin : Enumerates q (Loop p₁ q a₁) n by → (v : View) → Begins (r w n by) v → Reaching (r w n by) v
  second_begin basis v s =
      begins_reaching s (λ k l. (basis.only k l).holds)
      (λ t b. (loops_make_up p₁ q a₁ n by basis t b.holds.admitted.solution, b.holds.admitted.admitted))

  -- "a complete result is, as a set, the list of the whole map, each once": at height 0, after a sweep
  pub second_complete : Enumerates q (Loop p₁ q a₁) n by → {v v' : View} → Walked (r w n by) v → v.height ≡ 0 → Sweeps (r w n by) v v'
      → Enumerates q (Loop (p₁ + p₂) q a) (v'.found 0) (v'.row 0)
  second_complete basis {v} {v'} h done s =
      let e = sweeping_enumerates s (walked_reaches (second_begin basis) h) done in
      record {
        only = λ i l. minimal_of wanted_whole whole_wanted (v'.row 0 i) (e.only i l);
        once = e.once;
        all = λ t b. e.all t (minimal_of whole_wanted wanted_whole t b);
      }
