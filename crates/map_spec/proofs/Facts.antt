-- Texts read and maps written, by computation. Assumes nothing.
use Rattle.std.specs.Prelude.{ℕ, ◌≡◌, refl, List, [], ◌∷◌, map, pos, negsuc, replicate}
use Prim.Native.String.{String}
use Rattle.definitions.specs.Answers.{◌then◌, refuse_with, refuse_first}
use Rattle.definitions.specs.Refusals.{check7}
use Rattle.texts.specs.Decimals.{bytes, last_digits, decimal}
use Rattle.texts.specs.Reading.{and_then, more_digits, read_natural, read_number}
use Rattle.map_spec.specs.Form.{line, lines, written}
use Rattle.map_spec.specs.Reading.{read_field, read_line, read_rows, Reading, accepted, refused, checked, accept_rows, read_body, read_map}

-- ---- reading

-- a text, and what it is read as
abbrev Case : Type 0
Case = String × Reading

as_read : List Case → List Reading
unfolding ◌then◌ refuse_with refuse_first check7 and_then more_digits read_natural read_number read_field read_line read_rows checked accept_rows read_body
    read_map
as_read cases = map (λ (c : Case). read_map (bytes c.0)) cases

as_said : List Case → List Reading
as_said cases = map (λ (c : Case). c.1) cases

abbrev malformed_line : ℕ → Reading
malformed_line n = refused 9 (n ∷ [])

-- the map of document 01, and the ends of the range
maps : List Case
maps =
    ("2 4\n-1 1 2 -3\n-1 3 -2 -1\n", accepted 2 4 (negsuc 0 ∷ pos 1 ∷ pos 2 ∷ negsuc 2 ∷ negsuc 0 ∷ pos 3 ∷ negsuc 1 ∷ negsuc 0 ∷ []))
    ∷ ("1 2\n10000 -10000\n", accepted 1 2 (pos 10000 ∷ negsuc 9999 ∷ []))
    ∷ ("1 1\n0\n", accepted 1 1 (pos 0 ∷ []))
    ∷ []

maps_read : as_read maps ≡ as_said maps
unfolding as_read as_said maps
maps_read = refl

-- no first line, a first line without its newline, and too few and too many numbers in it
first_lines : List Case
first_lines =
    ("", malformed_line 1)
    ∷ ("1 4", malformed_line 1)
    ∷ ("4\n", malformed_line 1)
    ∷ ("1 4 4\n", malformed_line 1)
    ∷ []

first_lines_read : as_read first_lines ≡ as_said first_lines
unfolding as_read as_said first_lines
first_lines_read = refl

-- leading zeros, "-0", seven digits, and other spaces than single ones between numbers
numbers : List Case
numbers =
    ("01 4\n", malformed_line 1)
    ∷ ("-0 4\n", malformed_line 1)
    ∷ ("1000000 4\n", malformed_line 1)
    ∷ (" 1 4\n", malformed_line 1)
    ∷ ("1  4\n", malformed_line 1)
    ∷ ("1 4 \n", malformed_line 1)
    ∷ ("1 1\n00\n", malformed_line 2)
    ∷ ("1 1\n-0\n", malformed_line 2)
    ∷ []

numbers_read : as_read numbers ≡ as_said numbers
unfolding as_read as_said numbers
numbers_read = refl

-- counts out of range: p before q, and both before the other lines
counts : List Case
counts =
    ("-1 4\n", refused 1 [])
    ∷ ("0 4\n", refused 1 [])
    ∷ ("999999 4\n", refused 1 [])
    ∷ ("9 17\n", refused 1 [])
    ∷ ("8 0\n", refused 2 [])
    ∷ ("1 17\nx", refused 2 [])
    ∷ []

counts_read : as_read counts ≡ as_said counts
unfolding as_read as_said counts
counts_read = refl

-- the other lines: missing, too short, too long and extra ones, and no newline at the end; all before 7
other_lines : List Case
other_lines =
    ("1 1\n", malformed_line 2)
    ∷ ("2 1\n5\n", malformed_line 3)
    ∷ ("2 2\n1 2\n3\n", malformed_line 3)
    ∷ ("2 2\n1 2 3\n4\n", malformed_line 2)
    ∷ ("1 1\n5\n6\n", malformed_line 3)
    ∷ ("1 1\n5\n\n", malformed_line 3)
    ∷ ("1 1\n5", malformed_line 2)
    ∷ ("1 1\n10001\n\n", malformed_line 3)
    ∷ []

other_lines_read : as_read other_lines ≡ as_said other_lines
unfolding as_read as_said other_lines
other_lines_read = refl

-- the first coefficient out of range, row by row
coefficients : List Case
coefficients =
    ("1 2\n10001 -10001\n", refused 7 (1 ∷ []))
    ∷ ("2 2\n1 -10000\n-10001 999999\n", refused 7 (3 ∷ []))
    ∷ []

coefficients_read : as_read coefficients ≡ as_said coefficients
unfolding as_read as_said coefficients
coefficients_read = refl

-- ---- length

long : read_map (replicate 4097 10) ≡ refused 10 []
unfolding as_read
long = refl

not_long : read_map (replicate 4096 10) ≡ malformed_line 1
unfolding as_read
not_long = refl

-- ---- writing

example_written : written 2 4 (negsuc 0 ∷ pos 1 ∷ pos 2 ∷ negsuc 2 ∷ negsuc 0 ∷ pos 3 ∷ negsuc 1 ∷ negsuc 0 ∷ []) ≡ bytes "2 4\n-1 1 2 -3\n-1 3 -2 -1\n"
unfolding last_digits decimal line lines written
example_written = refl

numbers_written : written 1 3 (pos 0 ∷ pos 10000 ∷ negsuc 9999 ∷ []) ≡ bytes "1 3\n0 10000 -10000\n"
unfolding last_digits decimal line lines written
numbers_written = refl
