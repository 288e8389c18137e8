-- Words that do not let their rows lie at or below a sum, one after the other. Assumes nothing.
use Rattle.std.specs.Prelude.{◌≡◌, ◌⊎◌, Bool, true, false, List, ℕ, zero, suc, ◌+◌, ◌≤◌, ◌<◌, ℤ, get_or, length, Option, Some, None, MatchOption}
use Rattle.std.proofs.Common.{sym, ◌∙◌, inl, inr, add-one, arith}
use Rattle.linear.proofs.Cases.{split}
use Rattle.definitions.specs.Tables.{at}
use Rattle.engine_spec.specs.Words.{fits}
use Rattle.engine_beside.specs.WordLaws.{not_fits, word_low}
use Rattle.engine_reduce.specs.Sums.{Looked, integer_at, never, passed_row, reducible_by, sum_of}

-- n words, with no guard set above the largest
pub record Low (n : ℕ) (words : List ℕ) : Type 0 where
  pub long : n ≤ length words
  pub each : (i : ℕ) → i < n → get_or words i 0 ≤ 8608480567731124087

-- none of the words from place `from` to `past` - 1 fits
pub record Unfit (words : List ℕ) (word from past : ℕ) : Type 0 where
  pub behind : from ≤ past
  pub none : (i : ℕ) → from ≤ i → i < past → fits 16 (get_or words i 0) word ≡ false

-- the first of n words from place `from` on that fits, or there is none
abbrev pub FirstFit : (words : List ℕ) (word from n : ℕ) → Option ℕ → Type 0
FirstFit words word from n r = MatchOption r (Unfit words word from n) (λ k. Unfit words word from k × (k < n))

-- so it is unless r says otherwise
pub record UnfitIf (r : Bool) (words : List ℕ) (word from past : ℕ) : Type 0 where
  pub unless : r ≡ false → Unfit words word from past

pub unfit_none : (words : List ℕ) (word from : ℕ) → Unfit words word from from
unfit_none words word from = record { behind = omega arith; none = λ i l h. absurd (omega arith) }

pub unfit_more : {words : List ℕ} {word from past : ℕ} → Unfit words word from past → {b : Bool} → b ≡ fits 16 (get_or words past 0) word → b ≡ false
    → Unfit words word from (past + 1)
unfit_more {words} {word} {from} {past} u e f =
    record {
      behind = omega (arith, u.behind);
      none = λ i l h. elim (split i past) [ inl k ↦ u.none i l k | inr k ↦ let s : i ≡ past = omega arith in rw s (sym e ∙ f) ];
    }

pub unfit_then : {words : List ℕ} {word from past last : ℕ} → Unfit words word from past → Unfit words word past last → Unfit words word from last
unfit_then {words} {word} {from} {past} {last} u v =
    record {
      behind = omega (arith, u.behind, v.behind);
      none = λ i l h. elim (split i past) [ inl k ↦ u.none i l k | inr k ↦ v.none i k h ];
    }

pub first_then : (words : List ℕ) (word from past n : ℕ) (r : Option ℕ) → Unfit words word from past → FirstFit words word past n r
    → FirstFit words word from n r
first_then words word from past n None u h = unfit_then u h
first_then words word from past n (Some k) u h = (unfit_then u h.0, h.1)

pub if_none : (r : Bool) (words : List ℕ) (word from : ℕ) → UnfitIf r words word from (from + 0)
if_none r words word from = let s : from + 0 ≡ from = omega arith in rw s (record { unless = λ e. unfit_none words word from })

-- one more word is looked at: it fits and r' says so, or it does not and r' is r
pub if_more : {r r' : Bool} {words : List ℕ} {word from : ℕ} (j : ℕ) → UnfitIf r words word from (from + j) → {b : Bool} → b ≡ fits 16
    (get_or words (from + j) 0) word
    → (((b ≡ true) × (r' ≡ true)) ⊎ ((b ≡ false) × (r' ≡ r)))
    → UnfitIf r' words word from (from + (j + 1))
if_more {r} {r'} {words} {word} {from} j u e (inl h) = record { unless = λ n. never (sym n ∙ h.1) }
if_more {r} {r'} {words} {word} {from} j u e (inr h) =
    let s : from + (j + 1) ≡ from + j + 1 = omega arith in
    rw s (record { unless = λ n. unfit_more (u.unless (sym h.1 ∙ n)) e h.0 })

-- ---- rows by their words

pub looked_low : {q n : ℕ} {table : List ℕ} {values : List ℤ} {words : List ℕ} {upper lower word : ℕ} → Looked q n table values words upper lower word → Low n
    words
looked_low {q} {n} {table} l = record { long = l.worded.long; each = λ i h. omega (arith, l.worded.each i h, word_low q (at table q i)) }

-- rows whose words do not fit do not reduce the sum
pub passed_unfit : {q n : ℕ} {table : List ℕ} {values : List ℤ} {words : List ℕ} {upper lower word : ℕ} → Looked q n table values words upper lower word →
    (sum : ℤ)
    → (i k : ℕ) → k ≤ n → Unfit words word i k
    → reducible_by q i (at table q) (integer_at values) (sum_of q table upper lower) sum ≡ false
    → reducible_by q k (at table q) (integer_at values) (sum_of q table upper lower) sum ≡ false
passed_unfit {q} {n} {table} {values} {words} {upper} {lower} {word} l sum i zero kn u e = let s : i ≡ 0 = omega (arith, u.behind) in rw s at e
passed_unfit {q} {n} {table} {values} {words} {upper} {lower} {word} l sum i (suc k) kn u e =
    elim (split i (suc k)) [
      | inl h ↦
          let no = rw (l.worded.each k (omega arith), l.word_is) at (u.none k (omega arith) (omega arith)) in
          let before = passed_unfit l sum i k (omega arith) (record { behind = omega arith; none = λ j a b. u.none j a (omega arith) }) e in
          rw (← add-one k) (passed_row q (at table q) (integer_at values) (sum_of q table upper lower) sum k before
          (not_fits q (at table q k) (sum_of q table upper lower) no))
      | inr h ↦ let s : i ≡ suc k = omega (arith, u.behind) in rw s at e
    ]
