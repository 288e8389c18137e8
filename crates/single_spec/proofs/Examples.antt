-- Small maps: which columns are in the profile, which rows are minimal solutions, what the listing answers and writes, and what a call refused with 26 leaves,
-- by computation.
-- Assumes nothing.
use Rattle.std.specs.Prelude.{ℕ, ◌≡◌, refl, Bool, true, false, List, [], ◌∷◌, ◌++◌, map, ℤ, pos, negsuc, get_or, replicate}
use Rattle.linear.specs.Tests.{all_to, count_to}
use Rattle.definitions.specs.Answers as paper
use Rattle.definitions.specs.Answers.{◌then◌, go, refuse, refuse_first, refuse_with}
use Rattle.definitions.specs.Calls.{start}
use Rattle.definitions.specs.Machine.{call, checked}
use Rattle.definitions.specs.Refusals.{check7, in_order, resume_checks, row_fits, start_checks}
use Rattle.definitions.specs.Tables.{State, bit, frozen, plain_run, units_start, units_to, write_row, write_to}
use Rattle.definitions.specs.Input.{Input, input_of, map_of}
use Rattle.texts.specs.Decimals.{bytes, decimal, last_digits}
use Rattle.single_spec.specs.Calls.{single_resume, single_resume_checks, single_start, single_start_checks}
use Rattle.single_spec.specs.First.{find_to, iterate}
use Rattle.single_spec.specs.Graph.{is_circuit, leaving, lowest, size}
use Rattle.single_spec.specs.Listing.{Listing, lines_to, listed_by, listing, listing_call, listing_checks, loop_line, order_to, refused, rising_to, row_checks}
use Rattle.single_spec.specs.Listing.{written}
use Rattle.single_spec.specs.Profile.{check26, check30, in_profile, is_circuit_of, node_of}

-- ---- maps

-- "as "1 2 3 order 1 3 2"": activity 1 moves from tray 3 to tray 1, activity 2 from 2 to 3, activity 3 from 1 to 2
three : Input
three = input_of 3 3 (pos 1 ∷ pos 0 ∷ negsuc 0 ∷ pos 0 ∷ negsuc 0 ∷ pos 1 ∷ negsuc 0 ∷ pos 1 ∷ pos 0 ∷ [])

-- from tray 2 to tray 1 by activity 1, back by 3 and by 4; 2 and 5 are columns of zeros
ways : Input
ways = input_of 2 5 (pos 1 ∷ pos 0 ∷ negsuc 0 ∷ negsuc 0 ∷ pos 0 ∷ negsuc 0 ∷ pos 0 ∷ pos 1 ∷ pos 1 ∷ pos 0 ∷ [])

-- six trays, and activities from 1 to 2, 4 to 5, 2 to 3, 5 to 6, 3 to 4 and 6 to 1
six : Input
six =
    input_of 6 6 (
    negsuc 0 ∷ pos 0 ∷ pos 0 ∷ pos 0 ∷ pos 0 ∷ pos 1
    ∷ pos 1 ∷ pos 0 ∷ negsuc 0 ∷ pos 0 ∷ pos 0 ∷ pos 0
    ∷ pos 0 ∷ pos 0 ∷ pos 1 ∷ pos 0 ∷ negsuc 0 ∷ pos 0
    ∷ pos 0 ∷ negsuc 0 ∷ pos 0 ∷ pos 0 ∷ pos 1 ∷ pos 0
    ∷ pos 0 ∷ pos 1 ∷ pos 0 ∷ negsuc 0 ∷ pos 0 ∷ pos 0
    ∷ pos 0 ∷ pos 0 ∷ pos 0 ∷ pos 1 ∷ pos 0 ∷ negsuc 0 ∷ []
    )

-- four trays and two activities
four : List ℤ → Input
four c = input_of 4 2 c

-- ---- the profile: "26, a column outside the profile, with the first such column"

-- 2 and -2 in column 2; two 1 and two -1 in column 1, and a 2 in column 2; a 1 alone in column 2
outside : List Input
outside =
    four (pos 0 ∷ pos 2 ∷ pos 0 ∷ negsuc 1 ∷ pos 0 ∷ pos 0 ∷ pos 0 ∷ pos 0 ∷ [])
    ∷ four (pos 1 ∷ pos 0 ∷ pos 1 ∷ pos 0 ∷ negsuc 0 ∷ pos 0 ∷ negsuc 0 ∷ pos 2 ∷ [])
    ∷ four (negsuc 0 ∷ pos 0 ∷ pos 1 ∷ pos 0 ∷ pos 0 ∷ pos 0 ∷ pos 0 ∷ pos 1 ∷ [])
    ∷ []

profile_holds : map (λ i. check26 (map_of i)) (three ∷ ways ∷ outside) ≡ go ∷ go ∷ refuse 26 (2 ∷ []) ∷ refuse 26 (1 ∷ []) ∷ refuse 26 (2 ∷ []) ∷ []
unfolding three ways four outside check26 refuse_first refuse_with ◌then◌ in_profile all_to count_to
profile_holds = refl

-- ---- rows

minimal : Input → List ℕ → Bool
minimal i x = is_circuit_of (map_of i) (λ j. get_or x j 0)

line : Input → List ℕ → List ℕ
line i x = loop_line (map_of i) (λ j. get_or x j 0)

-- once round; twice round, part of the way and nothing at all are no minimal solutions; nor are two rounds in one row, or a column of zeros beside another
rows_hold :
    (map (minimal three) ((1 ∷ 1 ∷ 1 ∷ []) ∷ (2 ∷ 2 ∷ 2 ∷ []) ∷ (1 ∷ 0 ∷ 1 ∷ []) ∷ (0 ∷ 0 ∷ 0 ∷ []) ∷ []) ≡ true ∷ false ∷ false ∷ false ∷ [])
    × (map (minimal ways) ((1 ∷ 0 ∷ 1 ∷ 0 ∷ 0 ∷ []) ∷ (0 ∷ 0 ∷ 0 ∷ 0 ∷ 1 ∷ []) ∷ (2 ∷ 0 ∷ 1 ∷ 1 ∷ 0 ∷ []) ∷ (1 ∷ 0 ∷ 1 ∷ 1 ∷ 0 ∷ []) ∷
    (0 ∷ 1 ∷ 0 ∷ 0 ∷ 1 ∷ []) ∷ []) ≡ true ∷ true ∷ false ∷ false ∷ false ∷ [])
    × (line three (1 ∷ 1 ∷ 1 ∷ []) ≡ bytes "1 2 3 order 1 3 2\n")
    × (line six (1 ∷ 1 ∷ 1 ∷ 1 ∷ 1 ∷ 1 ∷ []) ≡ bytes "1 2 3 4 5 6 order 1 3 5 2 4 6\n")
    × (line ways (1 ∷ 0 ∷ 0 ∷ 1 ∷ 0 ∷ []) ≡ bytes "1 4 order 1 4\n")
    × (line ways (0 ∷ 0 ∷ 0 ∷ 0 ∷ 1 ∷ []) ≡ bytes "5 order 5\n")
unfolding three ways six minimal line loop_line rising_to order_to decimal last_digits is_circuit all_to count_to size lowest leaving node_of find_to iterate
rows_hold = (refl, refl, refl, refl, refl, refl)

-- ---- the listing, into a space of 7s

called : Input → List ℕ → ℕ → ℕ → Listing
called m list found room = listing_call m list found (replicate room 7)

refuses : ℕ → List ℕ → ℕ → Listing
refuses n values room = record { answer = refused n values; out = replicate room 7 }

-- two rows, the first of them repeated, and a number of an unfinished row
ways_list : List ℕ
ways_list = 1 ∷ 0 ∷ 0 ∷ 1 ∷ 0 ∷ 0 ∷ 0 ∷ 0 ∷ 0 ∷ 1 ∷ 1 ∷ 0 ∷ 0 ∷ 1 ∷ 0 ∷ 9 ∷ []

-- 38 bytes are written, or none: 29 where there is one less; a count above the room is 6; 30 comes before 29, and 26 before 30
listing_holds :
    (called ways ways_list 3 40 ≡ record { answer = written 38; out = bytes "1 4 order 1 4\n5 order 5\n1 4 order 1 4\n" ++ (7 ∷ 7 ∷ []) })
    × (called ways ways_list 0 2 ≡ record { answer = written 0; out = 7 ∷ 7 ∷ [] })
    × (called ways ways_list 3 37 ≡ refuses 29 [] 37)
    × (called ways ways_list 4 40 ≡ refuses 6 [] 40)
    × (called ways (1 ∷ 0 ∷ 0 ∷ 1 ∷ 0 ∷ 1 ∷ 1 ∷ 0 ∷ 1 ∷ 0 ∷ []) 2 3 ≡ refuses 30 (2 ∷ []) 3)
    × (called (four (pos 0 ∷ pos 2 ∷ pos 0 ∷ negsuc 1 ∷ pos 0 ∷ pos 0 ∷ pos 0 ∷ pos 0 ∷ [])) (0 ∷ 0 ∷ []) 1 3 ≡ refuses 26 (2 ∷ []) 3)
unfolding ways four called refuses ways_list listing_call listed_by listing_checks row_checks listing lines_to loop_line rising_to order_to decimal last_digits
    check7
    check26 check30 refuse_first refuse_with ◌then◌ in_profile is_circuit all_to count_to size lowest leaving node_of find_to iterate
listing_holds = (refl, refl, refl, refl, refl, refl)

-- ---- the calls: a map outside the profile is refused with 26, and nothing lent changes

lent : State
lent =
    record {
      stack = 1 ∷ 0 ∷ 0 ∷ 0 ∷ 1 ∷ 1 ∷ [];
      list = 9 ∷ 9 ∷ [];
      second = [];
      run = record { kind = plain_run; height = 2; found = 0; steps = 3; found2 = 4; steps2 = 5; deepest = 6 };
    }

-- 2 and -2 in column 2
other : Input
other = four (pos 0 ∷ pos 2 ∷ pos 0 ∷ negsuc 1 ∷ pos 0 ∷ pos 0 ∷ pos 0 ∷ pos 0 ∷ [])

calls_hold : (single_start other lent ≡ record { answer = paper.refused 26 (2 ∷ []); state = lent })
    × (single_resume 9 other lent ≡ record { answer = paper.refused 26 (2 ∷ []); state = lent })
unfolding lent other four single_start single_resume single_start_checks single_resume_checks start_checks resume_checks start call checked units_start units_to
    write_row
    write_to in_order row_fits bit frozen check7 check26 refuse_first refuse_with ◌then◌ in_profile all_to count_to
calls_hold = (refl, refl)
