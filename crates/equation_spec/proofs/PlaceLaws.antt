-- The place that the scan finds is document 01's: "the first byte up to which the text begins nothing allowed, or one past the end". Assumes nothing.
use Prim.Native.Nat.{ℕ, zero, suc, ◌+◌, ◌≤◌, ◌<◌}
use Rattle.std.specs.Prelude.{Bool, cond, ◌≡◌, length, take, replicate}
use Rattle.std.proofs.Math.Bool.{true, false}
use mathlib.Core.List.{List, [], ◌∷◌, ◌++◌}
use Rattle.std.proofs.Math.Path.{refl}
use Rattle.std.proofs.Common.{sym, ◌∙◌, arith, le-leb}
use Rattle.equation_spec.specs.Grammar.{Equation, Reads, close_byte}
use Rattle.equation_spec.specs.Scan.{Phase, nothing, sum_due, term_due, factor_due, index_due, in_number, after_number, in_index, after_bracket, after_term}
use Rattle.equation_spec.specs.Scan.{Step, to}
use Rattle.equation_spec.specs.Scan.{fault, onward, factor_begins, term_begins, sum_begins, after_digits, after_factor, step, final, go_on, place_from, place}
use Rattle.equation_spec.proofs.ScanBack.{accepts, accepted_reads}
use Rattle.equation_spec.proofs.ScanRun.{Over, closes, equates, over_byte, reads_accepted}

-- u begins something allowed
pub record Begins (q : ℕ) (u : List ℕ) : Type 0 where
  pub rest : List ℕ
  pub equation : Equation
  pub reads : Reads q equation (u ++ rest)

-- place k + 1: the k bytes before it begin something allowed, and with the byte there they do not, if there is one
pub record Placed (q : ℕ) (t : List ℕ) (k : ℕ) : Type 0 where
  pub inside : k ≤ length t
  pub before : Begins q (take k t)
  pub fault : k < length t → Begins q (take (suc k) t) → ⊥

-- ---- each phase can be completed

module _ (q : ℕ) (least : 1 ≤ q) where
  tail : Bool → List ℕ
  tail true = []
  tail false = 61 ∷ 48 ∷ []

  closers : (d : ℕ) (r : Bool) → Over q d r (replicate d close_byte ++ tail r)
  unfolding tail accepts onward step sum_begins term_begins
  closers zero true f e = rw e
  closers zero false f e = over_byte q 0 61 (48 ∷ []) 0 false equates refl f e
  closers (suc d) r f e = over_byte q 0 41 (replicate d close_byte ++ tail r) (suc d) r closes (closers d r after_bracket refl) f e

  completion : (f : Phase) (d : ℕ) (r : Bool) → (v : List ℕ) × (accepts q f d r v ≡ true)
  unfolding accepts step sum_begins term_begins factor_begins onward after_digits after_factor
  completion nothing d r = (48 ∷ (replicate d close_byte ++ tail r), closers d r (in_number 0) refl)
  completion sum_due d r = (48 ∷ (replicate d close_byte ++ tail r), closers d r (in_number 0) refl)
  completion term_due d r = (48 ∷ (replicate d close_byte ++ tail r), closers d r (in_number 0) refl)
  completion factor_due d r = (120 ∷ 49 ∷ (replicate d close_byte ++ tail r), rw (le-leb 1 q least) (closers d r (in_index 1) refl))
  completion index_due d r = (49 ∷ (replicate d close_byte ++ tail r), rw (le-leb 1 q least) (closers d r (in_index 1) refl))
  completion (in_number k) d r = (replicate d close_byte ++ tail r, closers d r (in_number k) refl)
  completion after_number d r = (43 ∷ 48 ∷ (replicate d close_byte ++ tail r), closers d r (in_number 0) refl)
  completion (in_index k) d r = (replicate d close_byte ++ tail r, closers d r (in_index k) refl)
  completion after_bracket d r = (replicate d close_byte ++ tail r, closers d r after_bracket refl)
  completion after_term d r = (43 ∷ 48 ∷ (replicate d close_byte ++ tail r), closers d r (in_number 0) refl)

  -- ---- the place, from any phase

  record Fault (f : Phase) (d : ℕ) (r : Bool) (n : ℕ) (t : List ℕ) (m : ℕ) : Type 0 where
    k : ℕ
    is : m ≡ n + k
    inside : k ≤ length t
    rest : List ℕ
    before : accepts q f d r (take k t ++ rest) ≡ true
    stops : k < length t → (v : List ℕ) → accepts q f d r (take (suc k) t ++ v) ≡ false

  never : {P : Type 0} → false ≡ true → P
  never e = absurd (let z : ◌≡◌ {A = ℕ} 0 1 = cc in omega arith)

  step_accepts : (s : Step) (t : List ℕ) (n : ℕ) → ((g : Phase) (e : ℕ) (x : Bool) → accepts q g e x t ≡ true → place_from q (suc n) g e x t ≡ 0)
      → go_on s (λ g e x. accepts q g e x t) false ≡ true → go_on s (λ g e x. place_from q (suc n) g e x t) n ≡ 0
  step_accepts (to g e x) t n ih h = ih g e x h
  step_accepts fault t n ih h = never h

  no_fault : (t : List ℕ) (f : Phase) (d : ℕ) (r : Bool) (n : ℕ) → accepts q f d r t ≡ true → place_from q n f d r t ≡ 0
  unfolding accepts place_from
  no_fault [] f d r n h = rw h
  no_fault (b ∷ t) f d r n h = step_accepts (step q b f d r) t n (λ g e x i. no_fault t g e x (suc n) i) h

  clean_step : (s : Step) (t : List ℕ) (n : ℕ) → 1 ≤ n → ((g : Phase) (e : ℕ) (x : Bool) → place_from q (suc n) g e x t ≡ 0 → accepts q g e x t ≡ true)
      → go_on s (λ g e x. place_from q (suc n) g e x t) n ≡ 0 → go_on s (λ g e x. accepts q g e x t) false ≡ true
  clean_step (to g e x) t n l ih h = ih g e x h
  clean_step fault t n l ih h = absurd (omega arith)

  clean_end : (c : Bool) (n : ℕ) → 1 ≤ n → cond c 0 n ≡ 0 → c ≡ true
  clean_end true n l h = refl
  clean_end false n l h = absurd (omega arith)

  clean : (t : List ℕ) (f : Phase) (d : ℕ) (r : Bool) (n : ℕ) → 1 ≤ n → place_from q n f d r t ≡ 0 → accepts q f d r t ≡ true
  unfolding accepts place_from
  clean [] f d r n l h = clean_end (final f d r) n l h
  clean (b ∷ t) f d r n l h = clean_step (step q b f d r) t n l (λ g e x i. clean t g e x (suc n) (omega arith) i) h

  -- a place that is not 0, after the byte b
  byte_fault : (b : ℕ) (t : List ℕ) (f : Phase) (d : ℕ) (r : Bool) (n m : ℕ) (s : Step) → step q b f d r ≡ s → 1 ≤ m
      → go_on s (λ g e x. place_from q (suc n) g e x t) n ≡ m
      → ((g : Phase) (e : ℕ) (x : Bool) → place_from q (suc n) g e x t ≡ m → Fault g e x (suc n) t m) → Fault f d r n (b ∷ t) m
  unfolding accepts
  byte_fault b t f d r n m (to g e x) y l h ih =
      let i = ih g e x h in
      record {
        k = suc i.k;
        is = omega (arith, i.is);
        inside = omega (arith, i.inside);
        rest = i.rest;
        before = rw y i.before;
        stops = λ a v. rw y (i.stops (omega arith) v);
      }
  byte_fault b t f d r n m fault y l h ih =
      let c = completion f d r in
      record { k = 0; is = omega (arith, h); inside = omega arith; rest = c.0; before = c.1; stops = λ a v. rw y }

  end_fault : (f : Phase) (d : ℕ) (r : Bool) (n m : ℕ) (c : Bool) → 1 ≤ m → cond c 0 n ≡ m → Fault f d r n [] m
  end_fault f d r n m true l h = absurd (omega (arith, h))
  end_fault f d r n m false l h =
      let c = completion f d r in
      record { k = 0; is = omega (arith, h); inside = omega arith; rest = c.0; before = c.1; stops = λ a v. absurd (omega arith) }

  fault_at : (t : List ℕ) (f : Phase) (d : ℕ) (r : Bool) (n m : ℕ) → 1 ≤ m → place_from q n f d r t ≡ m → Fault f d r n t m
  unfolding place_from
  fault_at [] f d r n m l h = end_fault f d r n m (final f d r) l h
  fault_at (b ∷ t) f d r n m l h = byte_fault b t f d r n m (step q b f d r) refl l h (λ g e x i. fault_at t g e x (suc n) m l i)

  -- ---- the theorems

  module _ (few : q ≤ 16) where
    -- A text that has a reading has no place of a fault.
    pub reads_placed : (e : Equation) (t : List ℕ) → Reads q e t → place q t ≡ 0
    unfolding place
    reads_placed e t r = no_fault t nothing 0 false 1 (reads_accepted q few e t r)

    -- A text whose place is k + 1 begins something allowed up to there, and no further.
    pub placed : (t : List ℕ) (k : ℕ) → place q t ≡ suc k → Placed q t k
    unfolding place
    placed t k h =
        let i = fault_at t nothing 0 false 1 (suc k) (omega arith) h in
        let e : i.k ≡ k = omega (arith, i.is) in
        let (a, b) = accepted_reads q (take i.k t ++ i.rest) i.before in
        let w : Placed q t i.k =
        record {
          inside = i.inside;
          before = record { rest = i.rest; equation = a; reads = b };
          fault = λ l c. never (sym (i.stops l c.rest) ∙ reads_accepted q few c.equation (take (suc i.k) t ++ c.rest) c.reads);
        }
        in
        rw e at w

    -- A text without such a place has a reading.
    pub unplaced_reads : (t : List ℕ) → place q t ≡ 0 → (e : Equation) × Reads q e t
    unfolding place
    unplaced_reads t h = accepted_reads q t (clean t nothing 0 false 1 (omega arith) h)
