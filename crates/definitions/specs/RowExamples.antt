-- Rows of two lists, by computation: at 0 the row 1 2, at 1 the rows 3 4 and 5 6. Assumes nothing.
use Rattle.std.specs.Prelude.{◌≡◌, refl, List, ◌∷◌, [], ℕ}
use Rattle.definitions.specs.Answers.{refuse_with}
use Rattle.definitions.specs.Reader.{at_one, at_zero, has_row, row_of_either, row_part, show_if, shown_at, shown_by}

list : List ℕ
list = 1 ∷ 2 ∷ []

second : List ℕ
second = 3 ∷ 4 ∷ 5 ∷ 6 ∷ []

at_zero_lem : row_of_either at_zero 2 list second 1 1 ≡ 1 ∷ 2 ∷ []
unfolding list second row_of_either shown_at shown_by refuse_with show_if has_row row_part
at_zero_lem = refl

first_at_one : row_of_either at_one 2 list second 2 1 ≡ 3 ∷ 4 ∷ []
unfolding list second row_of_either shown_at shown_by refuse_with show_if has_row row_part
first_at_one = refl

second_at_one : row_of_either at_one 2 list second 2 2 ≡ 5 ∷ 6 ∷ []
unfolding list second row_of_either shown_at shown_by refuse_with show_if has_row row_part
second_at_one = refl

-- there is none at 0, past the found count or past the room
zeroth : row_of_either at_one 2 list second 2 0 ≡ []
unfolding list second row_of_either shown_at shown_by refuse_with show_if has_row row_part
zeroth = refl

past_found : row_of_either at_one 2 list second 1 2 ≡ []
unfolding list second row_of_either shown_at shown_by refuse_with show_if has_row row_part
past_found = refl

past_room : row_of_either at_zero 2 list second 2 2 ≡ []
unfolding list second row_of_either shown_at shown_by refuse_with show_if has_row row_part
past_room = refl

-- at 16 unknowns 2 is due, at 15 it is not
wide : List ℕ
wide = 1 ∷ 2 ∷ 3 ∷ 4 ∷ 5 ∷ 6 ∷ 7 ∷ 8 ∷ 9 ∷ 10 ∷ 11 ∷ 12 ∷ 13 ∷ 14 ∷ 15 ∷ []

at_fifteen : row_of_either at_zero 15 wide [] 1 1 ≡ wide
unfolding wide row_of_either shown_at shown_by refuse_with show_if has_row row_part
at_fifteen = refl

at_sixteen : row_of_either at_zero 16 (0 ∷ wide) [] 1 1 ≡ []
unfolding wide row_of_either shown_at shown_by refuse_with show_if has_row row_part
at_sixteen = refl
