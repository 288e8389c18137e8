-- The two sides of an equation that has a reading, as they are read and collected. Assumes nothing.
use Rattle.std.specs.Prelude.{ℕ, zero, suc, ◌+◌, ◌-◌, ◌≤◌, ◌<◌, Bool, true, false, ◌||◌, List, [], ◌∷◌, ◌≡◌, refl, ℤ, pos, negsuc, ◌+ℤ◌, ◌*ℤ◌, length, get_or}
use Rattle.std.specs.Prelude.{drop, replicate}
use Rattle.std.proofs.Common.{sym, ap, ap₂, ◌∙◌, arith, drop_of_length-le}
use Rattle.std.proofs.Math.Decide.{dec_lt}
use Rattle.linear.specs.Terms.{#◌, ◌⊕◌, ◌⊗◌, ⊖◌}
use Rattle.linear.proofs.Terms.{ring}
use Rattle.texts.specs.Reading.{Parse}
use Rattle.texts.proofs.NumberLaws.{byte_at}
use Rattle.equation_spec.specs.Grammar.{Sum, Equation, Reads, sum_parts, Spells}
use Rattle.equation_spec.specs.Meaning.{of_sum, sum_depth, sum_exceeds}
use Rattle.equation_spec.specs.Reader.{skip, read_sum, read_bracket, read_equation}
use Rattle.equation_spec.specs.Outcome.{tree_outcome}
use Rattle.equation_spec.proofs.Unknowns.{reads_upto}
use Rattle.equation_spec.proofs.DepthLaws.{left_deeper, left_is, left_within, equals_after, right_deeper, right_is}
use Rattle.equation_read.specs.Totals.{add_sum, exceeds_sum, collected, stopped, sum_collected, Small}
use Rattle.equation_read.specs.SumLaws.{sum_parsed, sum_stopped}
use Rattle.equation_read.specs.MeaningLaws.{sum_exceeds_lem, sum_length, sum_adds}
use Rattle.equation_read.specs.Answer.{Answer, refused, answered, totals_outcome}
use Rattle.equation_read.specs.EquationLaws.{too_deep, exceeding, from_totals}

abbrev pub eight : ℕ → List ℕ → Parse Sum
eight q s = read_sum (read_bracket q 8) q s

-- before anything is read
abbrev pub zeros : List ℤ
zeros = replicate 17 (pos 0)

all_zero : (n i : ℕ) → get_or (replicate n (pos 0)) i (pos 0) ≡ pos 0
all_zero zero i = refl
all_zero (suc n) zero = refl
all_zero (suc n) (suc i) = all_zero n i

pub zeros_small : (n : ℕ) → n ≤ 4096 → Small zeros (n - 0)
zeros_small n l = record { small = λ i. rw (all_zero 17 i) (omega arith) }

-- after the left side: "=" stands at place k
pub record Middle (q : ℕ) (e : Equation) (t : List ℕ) (k : ℕ) (ts us : List ℤ) (st : Bool) : Type 0 where
  pub inside : k < length t
  pub spells : Spells q (sum_parts e.right []) (drop (k + 1) t)
  pub within : sum_depth e.left ≤ 8
  pub totals : us ≡ add_sum e.left (pos 1) ts
  pub exceeds : st ≡ exceeds_sum e.left (pos 1)

-- after the right side
pub record Both (e : Equation) (us vs : List ℤ) (st : Bool) : Type 0 where
  pub within : sum_depth e.right ≤ 8
  pub totals : vs ≡ add_sum e.right (negsuc 0) us
  pub exceeds : st ≡ exceeds_sum e.right (negsuc 0)

first_inside : (t : List ℕ) (k : ℕ) (b : ℕ) (s : List ℕ) → drop k t ≡ b ∷ s → (k < length t) × (drop (k + 1) t ≡ s)
first_inside t k b s e =
    elim (dec_lt k (length t)) [
      | yes l ↦ let x = sym (byte_at t k l) ∙ e in (l, cc)
      | no l ↦ absurd (let m : length t ≤ k = omega arith in let x = sym (drop_of_length-le t m) ∙ e in let z : ◌≡◌ {A = ℕ} 0 1 = cc in omega arith)
    ]

module _ (q : ℕ) (few : q ≤ 16) (e : Equation) (t : List ℕ) (reads : Reads q e t) where
  pub left_stopped : (row ts : List ℤ) → stopped ≡ sum_collected (pos 1) ts (eight q t)
      → refused 17 [] row ≡ answered (tree_outcome q t (read_equation q (length t) t)) row
  left_stopped row ts h =
      too_deep q few e t reads row (omega (arith, left_deeper q few e t reads 8 (sym (sum_stopped (pos 1) ts (eight q t) h))))

  pub middle : (n k : ℕ) (ts : List ℤ) {us : List ℤ} {st : Bool} → collected us st (drop n t) ≡ sum_collected (pos 1) ts (eight q t)
      → drop k t ≡ skip (drop n t) → Middle q e t k ts us st
  middle n k ts h s =
      let (f, p, x, y) = sum_parsed (pos 1) ts (eight q t) h in
      let (v, w, m) = equals_after q few e t reads 8 p in
      let (l, u) = first_inside t k 61 v (s ∙ w) in
      let i = left_is q few e t reads 8 p in
      record {
        inside = l;
        spells = rw u m;
        within = left_within q few e t reads 8 p;
        totals = x ∙ ap (λ g. add_sum g (pos 1) ts) i;
        exceeds = y ∙ ap (λ g. exceeds_sum g (pos 1)) i;
      }

  module _ {k : ℕ} {ts us : List ℤ} {st : Bool} (a : Middle q e t k ts us st) (m : ℕ) (s : drop m t ≡ skip (drop (k + 1) t)) where
    pub right_stopped : (row : List ℤ) → stopped ≡ sum_collected (negsuc 0) us (eight q (drop m t))
        → refused 17 [] row ≡ answered (tree_outcome q t (read_equation q (length t) t)) row
    right_stopped row h =
        let x = ap (eight q) (sym s) ∙ sum_stopped (negsuc 0) us (eight q (drop m t)) h in
        too_deep q few e t reads row (omega (arith, right_deeper q few e t reads 8 (drop (k + 1) t) a.spells (sym x)))

    pub both : {vs : List ℤ} {sr : Bool} {r : List ℕ} → collected vs sr r ≡ sum_collected (negsuc 0) us (eight q (drop m t)) → Both e us vs sr
    both h =
        let (f, p, x, y) = sum_parsed (negsuc 0) us (eight q (drop m t)) h in
        let (i, d) = right_is q few e t reads 8 (drop (k + 1) t) a.spells (ap (eight q) (sym s) ∙ p) in
        record { within = d; totals = x ∙ ap (λ g. add_sum g (negsuc 0) us) i; exceeds = y ∙ ap (λ g. exceeds_sum g (negsuc 0)) i }

    module _ {vs : List ℤ} {sr : Bool} (b : Both e us vs sr) (row : List ℤ) where
      exceeds_is : (st || sr) ≡ (sum_exceeds e.left 1 || sum_exceeds e.right 1)
      exceeds_is = ap₂ (λ x y. x || y) (a.exceeds ∙ sum_exceeds_lem e.left (pos 1)) (b.exceeds ∙ sum_exceeds_lem e.right (negsuc 0))

      pub sides_exceed : (st || sr) ≡ true → refused 18 [] row ≡ answered (tree_outcome q t (read_equation q (length t) t)) row
      sides_exceed h = exceeding q few e t reads row (omega (arith, a.within, b.within)) (sym exceeds_is ∙ h)

      pub sides_taken : {x : Answer} → (st || sr) ≡ false → ts ≡ zeros → x ≡ answered (totals_outcome q vs) row
          → x ≡ answered (tree_outcome q t (read_equation q (length t) t)) row
      sides_taken h start y =
          let (sl, sr) = parts st sr h in
          let (l, r) = reads_upto q 16 few e t reads in
          let n : length ts ≡ 17 = ap length start in
          let z : (i : ℕ) → get_or ts i (pos 0) ≡ pos 0 = λ i. ap (λ g. get_or g i (pos 0)) start ∙ all_zero 17 i in
          y ∙ from_totals q few e t reads row (omega (arith, a.within, b.within)) vs (sym exceeds_is ∙ h)
          (λ i.
          ap (λ g. get_or g i (pos 0)) b.totals
          ∙ sum_adds e.right (negsuc 0) r (sym b.exceeds ∙ sr) us i (ap length a.totals ∙ sum_length e.left (pos 1) ts ∙ n)
          ∙ ap (λ g. g +ℤ negsuc 0 *ℤ of_sum e.right i)
          (ap (λ g. get_or g i (pos 0)) a.totals ∙ sum_adds e.left (pos 1) l (sym a.exceeds ∙ sl) ts i n
          ∙ ap (λ g. g +ℤ pos 1 *ℤ of_sum e.left i) (z i))
          ∙ ring (# pos 0 ⊕ # pos 1 ⊗ # of_sum e.left i ⊕ # negsuc 0 ⊗ # of_sum e.right i) (# of_sum e.left i ⊕ ⊖ (# of_sum e.right i)) (omega arith))
        where
          parts : (a b : Bool) → (a || b) ≡ false → (a ≡ false) × (b ≡ false)
          parts true b e = absurd (let z : ◌≡◌ {A = ℕ} 0 1 = cc in omega arith)
          parts false b e = (refl, e)
