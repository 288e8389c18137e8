-- A list written, and what is asked of a file, of a block and of a word, by computation. (Whole files read: try_texts/specs/WholeFiles.antt.) Assumes nothing.
use Rattle.std.specs.Prelude.{ℕ, Bool, true, false, not, List, [], ◌∷◌, ◌++◌, ◌≡◌, refl, pos, negsuc, take, replicate}
use Rattle.linear.specs.Tests.{all_to}
use Rattle.definitions.specs.Answers.{Check, refuse, go, ◌then◌, refuse_if, refuse_with, refuse_first}
use Rattle.list_spec.specs.Words.{encoded, word_at, total}
use Rattle.list_spec.specs.Form.{ListFile, block_word, file_word, written}
use Rattle.list_spec.specs.Writing.{rows_in_range, list_in_range, write_checks}
use Rattle.list_spec.specs.Reading.{listed, block_checks, stream_word_in_range, file_checks, read_checks}

-- the equation 2 -3 with its one minimal solution
abbrev pub small : ListFile
small = record { p = 1; q = 2; coefs = pos 2 ∷ negsuc 2 ∷ []; rows = 3 ∷ 2 ∷ []; ending = 0 }

-- ---- its words

abbrev zeros : ℕ → List ℕ
zeros n = replicate n 0

small_words : List ℕ
unfolding block_word total listed
small_words = listed 256 (file_word small)

words_written : small_words ≡ (0 ∷ 1 ∷ 2 ∷ 1 ∷ 0 ∷ zeros 122) ++ (4294967292 ∷ 1 ∷ 2 ∷ 4294967293 ∷ 3 ∷ 2 ∷ zeros 122) ++ (4294967291 ∷ [])
unfolding small_words
words_written = refl

-- ---- blocks that the stream fills: 126 words each, and the sum of all of them

filled : ListFile
filled = record { p = 1; q = 1; coefs = []; rows = replicate 126 5 ++ (7 ∷ []); ending = 0 }

blocks_filled : (block_word filled 1 1 ≡ 5) × (block_word filled 1 126 ≡ 5) × (block_word filled 1 127 ≡ 4294966665) × (block_word filled 2 1 ≡ 7)
unfolding filled block_word total
blocks_filled = (refl, refl, refl, refl)

-- ---- its file

unfoldable pub small_file : List ℕ
unfolding written encoded block_word total
small_file = written small

begins : take 12 small_file ≡ 0 ∷ 0 ∷ 0 ∷ 0 ∷ 1 ∷ 0 ∷ 0 ∷ 0 ∷ 2 ∷ 0 ∷ 0 ∷ 0 ∷ []
unfolding small_file
begins = refl

-- ---- what is asked of a file: below one block, before a table too short

below_block : read_checks (take 12 small_file) 1 2 ≡ refuse 19 []
unfolding read_checks file_checks word_at ◌then◌ refuse_with small_file
below_block = refl

-- ---- of a block: its sum, its number, and then its words. (Words past the end of a file read as zero.)

block_numbered : block_checks [] 1 true ≡ refuse 21 []
unfolding block_checks word_at total ◌then◌ refuse_with
block_numbered = refl

block_summed : (in_range : Bool) → block_checks small_file 0 in_range ≡ refuse_if (not in_range) 22
unfolding block_checks word_at total ◌then◌ refuse_with small_file
block_summed in_range = refl

-- ---- of a word of the stream: a coefficient, a component, filler

word_refused :
    (stream_word_in_range 2 2 1 4294957296 ≡ true)
    × (stream_word_in_range 2 2 1 10001 ≡ false)
    × (stream_word_in_range 2 2 3 1000000 ≡ true)
    × (stream_word_in_range 2 2 3 1000001 ≡ false)
    × (stream_word_in_range 2 2 4 0 ≡ true)
    × (stream_word_in_range 2 2 4 7 ≡ false)
word_refused = (refl, refl, refl, refl, refl, refl)

-- ---- the writer

writes : ListFile → ℕ → Check
unfolding write_checks list_in_range rows_in_range refuse_first refuse_with all_to ◌then◌
writes l room = write_checks l room

abbrev with : List ℕ → ℕ → ListFile
with rows ending = record { p = 1; q = 2; coefs = pos 2 ∷ negsuc 2 ∷ []; rows = rows; ending = ending }

writer_refused :
    (writes small 1024 ≡ go)
    × (writes small 512 ≡ refuse 19 [])
    × (writes (with (3 ∷ 2 ∷ 1 ∷ []) 0) 1024 ≡ refuse 22 [])
    × (writes (with (3 ∷ 1000001 ∷ []) 0) 1024 ≡ refuse 22 [])
    × (writes (with (3 ∷ 2 ∷ []) 2) 1024 ≡ refuse 22 [])
    × (writes (with (3 ∷ 2 ∷ []) 1) 1024 ≡ go)
unfolding writes
writer_refused = (refl, refl, refl, refl, refl, refl)
