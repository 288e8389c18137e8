-- Document 01, "The program": the bytes that it prints for the bytes that it reads. Assumes nothing.
use Rattle.std.specs.Prelude.{ℕ, cond, List, [], ◌∷◌, ◌++◌, map, eqb, pos, replicate}
use Rattle.definitions.specs.Answers.{Answer, started, complete, paused, refused}
use Rattle.definitions.specs.Input.{Input, input_of}
use Rattle.definitions.specs.Machine.{Outcome}
use Rattle.definitions.specs.Tables.{State, begun, plain_run}
use Rattle.definitions.specs.Calls.{start, resume}
use Rattle.texts.specs.Decimals.{newline, bytes, decimal}
use Rattle.map_spec.specs.Form.{lines}
use Rattle.map_spec.specs.Reading as reading
use Rattle.map_spec.specs.Reading.{Reading, read_map}

-- ---- words

-- a line that ends with a number
unfoldable pub counted : List ℕ → ℕ → List ℕ
counted word n = word ++ (decimal n ++ newline ∷ [])

-- ---- "An earlier refusal prints one line only: "refused 1", "refused 9 line 3", "refused 7 place 5"."

-- 9 comes with a line, and 7 with a place
abbrev pub value_word : ℕ → List ℕ
value_word n = cond (eqb n 9) (bytes " line ") (bytes " place ")

unfoldable pub refusal_text : ℕ → List ℕ → List ℕ
refusal_text n [] = counted (bytes "refused ") n
refusal_text n (value ∷ others) = bytes "refused " ++ (decimal n ++ counted (value_word n) value)

-- ---- "p, q, steps taken, rows found, the rows in the order found, the ending."

unfoldable pub counts : ℕ → ℕ → ℕ → ℕ → List ℕ
counts p q steps found =
    counted (bytes "equations ") p ++ (counted (bytes "unknowns ") q ++ (counted (bytes "steps ") steps ++ counted (bytes "solutions ") found))

-- "The ending may also be "end paused" or "end refused 11" (12, 13 or 14)." No continuing call answers "started".
unfoldable pub ending : Answer → List ℕ
ending started = []
ending complete = bytes "end complete\n"
ending paused = bytes "end paused\n"
ending (refused n values) = counted (bytes "end refused ") n

unfoldable pub run_text : ℕ → ℕ → Outcome State → List ℕ
run_text p q o =
    counts p q o.state.run.steps o.state.run.found ++ (lines o.state.run.found q (map pos o.state.list) ++ ending o.answer)

-- ---- the run

-- what the program lends, before the start: 16 rows of 17 numbers for the stack, and "room for 8,192 numbers in the list"
abbrev pub blank : State
blank = record { stack = replicate 272 0; list = replicate 8192 0; second = []; run = begun plain_run 0 }

-- a plain start, and one continuing call: "It allows 1,000,000 steps"
unfoldable pub run : Input → Outcome State
run m = resume 1000000 m (start m blank).state

-- ---- the program

unfoldable pub reading_text : Reading → List ℕ
reading_text (reading.accepted p q coefs) = run_text p q (run (input_of p q coefs))
reading_text (reading.refused n values) = refusal_text n values

unfoldable pub printed : List ℕ → List ℕ
printed text = reading_text (read_map text)
