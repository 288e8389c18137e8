-- How numbers are written: the bytes, decimal digits, and what separates the numbers of a line. A text is the list of its bytes. Assumes nothing.
use Rattle.std.specs.Prelude.{ℕ, zero, suc, ◌+◌, ◌/◌, ◌%◌, cond, List, [], ◌∷◌, ◌++◌, ltb, ℤ, pos, negsuc}
use Prim.Native.Char.{code}
use Prim.Native.String.{String, len, char_at}

-- ---- bytes

abbrev pub newline : ℕ
newline = 10

abbrev pub space : ℕ
space = 32

abbrev pub minus : ℕ
minus = 45

-- the digit 0; the others follow it in order
abbrev pub zero_digit : ℕ
zero_digit = 48

-- k characters of a word in ASCII, from place i on
abbrev pub bytes_from : ℕ → ℕ → String → List ℕ
bytes_from zero i word = []
bytes_from (suc k) i word = code (char_at word i) ∷ bytes_from k (suc i) word

-- the bytes of a word
abbrev pub bytes : String → List ℕ
bytes word = bytes_from (len word) 0 word

-- ---- numbers

-- the digits of n, the last k of them if there are more
unfoldable pub last_digits : ℕ → ℕ → List ℕ
last_digits zero n = []
last_digits (suc k) n = let others = last_digits k (n / 10) in cond (ltb n 10) ((zero_digit + n) ∷ []) (others ++ ((zero_digit + n % 10) ∷ []))

-- "digits without leading zeros": n has at most n + 1
unfoldable pub decimal : ℕ → List ℕ
decimal n = last_digits (suc n) n

-- "A number is an optional minus and .. digits without leading zeros; "-0" is not in the form."
abbrev pub numeral : ℤ → List ℕ
numeral (pos n) = decimal n
numeral (negsuc n) = minus ∷ decimal (suc n)

-- ---- separators

-- what stands after a number when k numbers of its line follow: "single spaces, each line ended by a newline"
abbrev pub separator : ℕ → ℕ
separator zero = newline
separator (suc k) = space
