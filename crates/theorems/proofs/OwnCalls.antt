-- Theorems about what specs/OwnCalls.antt defines. Assumes nothing.
use Rattle.std.specs.Prelude.{◌≡◌, ◌⊎◌, List, ◌∷◌, ℕ, ◌+◌, ◌-◌, ◌<◌}
use Rattle.std.proofs.Math.Path.{refl, sym}
use Rattle.std.proofs.Common.{◌∙◌, ap, inl, inr, arith}
use Rattle.linear.proofs.Cases.{split}
use Rattle.definitions.specs.Answers.{Answer, complete, paused}
use Rattle.definitions.specs.Machine.{Machine, after, call, call_steps}
use Rattle.laws.proofs.CheckLaws.{refuse_not_go}
use Rattle.laws.proofs.MachineLaws.{call_walks, walk_done}
use Rattle.theorems.specs.WholeSteps.{Ends, Goes, call_going, call_keeps, called, completes, pauses, refuses}
use Rattle.theorems.proofs.WholeSteps.{after_more, settled_after}
use Rattle.theorems.specs.OwnCalls.{
  Along,
  Completed,
  Log,
  Orderly,
  OwnCalls,
  Pausing,
  Status,
  Unrefused,
  begun,
  completed,
  ended,
  foreign,
  going_on,
  more,
  none,
  outset,
  own,
  owned,
  pausing,
}

not_pausing : {answers earlier : List Answer} → Pausing answers → answers ≡ complete ∷ earlier → ⊥
not_pausing none e = let z : ◌≡◌ {A = ℕ} 0 1 = cc in omega arith
not_pausing (more p) e = let z : ◌≡◌ {A = ℕ} 0 1 = cc in omega arith

module _ {S : Type 0} (k : Machine S) (P : S → Type 0) (u : Unrefused k P) where
  -- ---- one own call

  module _ (n : ℕ) (s : S) (p : P s) where
    pub call_good : P (call n k s).state
    call_good = call_keeps k P u.settles (λ t q g. u.keeps t q g.0) n s p

    -- it is complete, or has used up its budget
    call_ends : (((call n k s).answer ≡ complete) × (k.height (call n k s).state ≡ 0))
        ⊎ (((call n k s).answer ≡ paused) × (0 < k.height (call n k s).state) × (call_steps n k s ≡ n))
    call_ends = sort (called k n s (u.resumes s p)).ends call_good
      where
        sort : {i : ℕ} {t : S} {a : Answer} → Ends n i k t a → P t → ((a ≡ complete) × (k.height t ≡ 0)) ⊎ ((a ≡ paused) × (0 < k.height t) × (i ≡ n))
        sort (completes z) g = inl (refl, z)
        sort (pauses h e) g = inr (refl, h, e)
        sort {t = t} (refuses r values h l e) g = absurd (refuse_not_go {n = r} {values = values} (cc (u.goes t g h)))

    -- a finished run stays as it is
    pub call_done : k.settle s ≡ s → k.height s ≡ 0 → (call n k s ≡ record { answer = complete; state = s }) × (call_steps n k s ≡ 0)
    call_done same h =
        let e = call_walks k s n (u.resumes s p) in
        let d = walk_done k s n (rw same h) in
        (e.0 ∙ d.0 ∙ ap (λ t. record { answer = complete; state = t }) same, e.1 ∙ d.1)

  -- ---- the series

  module _ (s₀ : S) (p₀ : P s₀) (settled : k.settle s₀ ≡ s₀) (high : 0 < k.height s₀) where
    begun_along : (Along k P u s₀ p₀ settled high) (outset s₀)
    unfolding after
    begun_along = record { good = p₀; stepped = sym settled; before = λ i l. absurd (omega arith); status = going_on high refl none }

    module _ (n : ℕ) (g : Log S) (a : (Along k P u s₀ p₀ settled high) g) where
      same : k.settle g.state ≡ g.state
      same = ap k.settle a.stepped ∙ settled_after k u.steady g.taken s₀ ∙ sym a.stepped

      own_stepped : (call n k g.state).state ≡ after (g.taken + call_steps n k g.state) k s₀
      own_stepped =
          (called k n g.state (u.resumes g.state a.good)).state ∙ ap (after (call_steps n k g.state) k) a.stepped
          ∙ sym (after_more k u.steady g.taken (call_steps n k g.state) s₀)

      -- a step of the call is a step of the run
      own_before : (i : ℕ) → i < g.taken + call_steps n k g.state → Goes k (after i k s₀)
      own_before i l =
          elim (split i g.taken) [
            | inl h ↦ a.before i h
            | inr h ↦
                let at : i ≡ g.taken + (i - g.taken) = omega arith in
                let there : after i k s₀ ≡ after (i - g.taken) k g.state =
                ap (λ x. after x k s₀) at ∙ after_more k u.steady g.taken (i - g.taken) s₀ ∙ ap (after (i - g.taken) k) (sym a.stepped) in
                rw there (call_going k n g.state (u.resumes g.state a.good) (i - g.taken) (omega arith))
          ]

      own_status : Status k g → Status k (owned n k g)
      own_status (ended z earlier e o) =
          let d = call_done n g.state a.good same z in
          ended (ap (λ x. k.height x.state) d.0 ∙ z) g.answers (ap (λ x. x.answer ∷ g.answers) d.0) (rw e (completed o))
      own_status (going_on h e p) =
          elim (call_ends n g.state a.good) [
            | inl (b, z) ↦ ended z g.answers (ap (λ x. x ∷ g.answers) b) (pausing p)
            | inr (b, z, all) ↦ going_on z (omega arith) (rw b (more p))
          ]

    pub along : {g : Log S} → OwnCalls k s₀ g → (Along k P u s₀ p₀ settled high) g
    along begun = begun_along
    along (own {g = g} r n) =
        let a = along r in
        record { good = call_good n g.state a.good; stepped = own_stepped n g a; before = own_before n g a; status = own_status n g a a.status }
    along (foreign {g = g} r t leaves) = rw leaves (along r)

    -- "Under the demand's premises an own call answers "paused" or "complete""
    pub along_answers : {g : Log S} → (Along k P u s₀ p₀ settled high) g → Orderly g.answers
    along_answers {g} a = sorted a.status
      where
        sorted : Status k g → Orderly g.answers
        sorted (ended z earlier e o) = rw e (completed o)
        sorted (going_on h e p) = pausing p

    -- "after the first "complete" every own call answers so and takes no step"
    pub along_stays : {g : Log S} → (Along k P u s₀ p₀ settled high) g → Completed g.answers → (n : ℕ)
        → (call n k g.state ≡ record { answer = complete; state = g.state }) × (call_steps n k g.state ≡ 0)
    along_stays {g} a (last, c) n = stays a.status
      where
        stays : Status k g → (call n k g.state ≡ record { answer = complete; state = g.state }) × (call_steps n k g.state ≡ 0)
        stays (ended z earlier e o) = call_done n g.state a.good (same n g a) z
        stays (going_on h e p) = absurd (not_pausing p c)
