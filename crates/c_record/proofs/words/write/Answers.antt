-- `words::write` meets its contract: words of a record's number are all written, in their order. Assumes nothing.
use Rattle.std.proofs.Common.{ℕ, List, [], ◌∷◌, ◌≡◌, ◌∙◌, length, set, refl, arith}
use Rattle.c_record.specs.WordLaws.{words_fitting, words_high, words_misfit}
use Rattle.c_record.proofs.words.write.Goals as goal
use Rattle.c_record.proofs.words.write.Goals.{else-words-eq7-via-then-words-eq7+else-r-lt65, else-words-eq7-via-else-words-eq7}

filled : (words : List ℕ) {a b c d e f g : ℕ} → length words ≡ 7
    → (a ∷ b ∷ c ∷ d ∷ e ∷ f ∷ g ∷ []) ≡ set (set (set (set (set (set (set words 0 a) 1 b) 2 c) 3 d) 4 e) 5 f) 6 g
filled [] h = absurd (omega arith)
filled (_ ∷ []) h = absurd (omega arith)
filled (_ ∷ _ ∷ []) h = absurd (omega arith)
filled (_ ∷ _ ∷ _ ∷ []) h = absurd (omega arith)
filled (_ ∷ _ ∷ _ ∷ _ ∷ []) h = absurd (omega arith)
filled (_ ∷ _ ∷ _ ∷ _ ∷ _ ∷ []) h = absurd (omega arith)
filled (_ ∷ _ ∷ _ ∷ _ ∷ _ ∷ _ ∷ []) h = absurd (omega arith)
filled (_ ∷ _ ∷ _ ∷ _ ∷ _ ∷ _ ∷ _ ∷ []) h = refl
filled (_ ∷ _ ∷ _ ∷ _ ∷ _ ∷ _ ∷ _ ∷ _ ∷ xs) h = absurd (omega arith)

pub returns-then-r-lt65 : goal.returns-then-r-lt65
returns-then-r-lt65 c =
    rw (c.copy_from_slice.ensures.after, c.run_number.ensures)
    (filled _ c.if-words-eq7.true ∙ words_fitting _ _ c.if-words-eq7.true c.if-r-lt65.true)

pub returns-else-words-eq7 : goal.returns-else-words-eq7
returns-else-words-eq7 c =
    elim c.else-words-eq7.branch [
      | else-words-eq7-via-then-words-eq7+else-r-lt65 w ↦ words_high _ _ w.if-words-eq7.true w.if-r-lt65.false
      | else-words-eq7-via-else-words-eq7 w ↦ words_misfit _ _ w.if-words-eq7.false
    ]
