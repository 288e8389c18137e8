-- Whole files read, by computation: the file of the equation 2 -3 with its one minimal solution, and that file changed. Assumes nothing.
use Rattle.std.specs.Prelude.{◌≡◌, ℕ, cond, List, [], ◌==◌, nat_lt, refl}
use Rattle.linear.specs.Tests.{all_to}
use Rattle.definitions.specs.Answers.{Check, refuse, go, ◌then◌, refuse_if, refuse_with}
use Rattle.list_spec.specs.Words.{encoded, word_at, total}
use Rattle.list_spec.specs.Form.{block_word, file_word}
use Rattle.list_spec.specs.Reading.{coef_words, row_words, block_checks, header_in_range, block_in_range, stream_checks, file_checks, read_checks}
use Rattle.list_spec.proofs.Facts.{small, small_file}

-- the file with word k changed, and the last word of a block with it
changed : ℕ → ℕ → ℕ → ℕ → List ℕ
unfolding encoded block_word total
changed k w last sum = encoded 256 (λ i. cond (i == k) w (cond (i == last) sum (file_word small i)))

checked : List ℕ → Check
unfolding file_checks stream_checks block_checks header_in_range block_in_range word_at total all_to ◌then◌ refuse_with
checked file = file_checks file

-- the sum of a block, before its number; its number; a word that is to be zero; a row count that asks for more blocks
refused_in_order :
    (checked (changed 0 1 127 4294967292) ≡ refuse 20 [])
    × (checked (changed 0 1 127 4294967291) ≡ refuse 21 [])
    × (checked (changed 5 7 127 4294967285) ≡ refuse 22 [])
    × (checked (changed 3 200 127 4294967093) ≡ refuse 19 [])
unfolding checked changed
refused_in_order = (refl, refl, refl, refl)

-- ---- "with 29 last": tables too short, for a file in form and for one with a coefficient out of range

last : {c : Check} (file : List ℕ) (coefs list a b : ℕ) → file_checks file ≡ c → coef_words file ≡ a → row_words file ≡ b
    → read_checks file coefs list ≡ (c then refuse_if (nat_lt coefs a) 29 then refuse_if (nat_lt list b) 29)
unfolding read_checks
last file coefs list a b e f g = rw (e, f, g)

accepted : file_checks small_file ≡ go
unfolding checked small_file
accepted = refl

counted : (coef_words small_file ≡ 2) × (row_words small_file ≡ 2)
unfolding word_at small_file
counted = (refl, refl)

small_read : (coefs list : ℕ) → read_checks small_file coefs list ≡ (refuse_if (nat_lt coefs 2) 29 then refuse_if (nat_lt list 2) 29)
unfolding ◌then◌
small_read coefs list = last small_file coefs list 2 2 accepted counted.0 counted.1

tables_short : (read_checks small_file 2 2 ≡ go) × (read_checks small_file 1 2 ≡ refuse 29 []) × (read_checks small_file 2 1 ≡ refuse 29 [])
unfolding ◌then◌ refuse_with
tables_short = (small_read 2 2, small_read 1 2, small_read 2 1)

coef_off : List ℕ
unfolding changed
coef_off = changed 129 10001 255 4294957292

out_of_range : file_checks coef_off ≡ refuse 22 []
unfolding checked coef_off
out_of_range = refl

range_first : (coefs list : ℕ) → read_checks coef_off coefs list ≡ refuse 22 []
unfolding ◌then◌
range_first coefs list = last coef_off coefs list (coef_words coef_off) (row_words coef_off) out_of_range refl refl
