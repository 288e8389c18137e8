-- Four rows of values 1, -1, 2, -2 and degrees 1, 1, 2, 2, and a basis with one row of degree 5: the pairs of degree 3, and the degrees. Assumes nothing.
use Rattle.std.specs.Prelude.{◌≡◌, refl, List, [], ◌∷◌, ℕ, ℤ, pos, negsuc}
use Rattle.engine_spec.specs.Search.{first_from, least_to, lesser}
use Rattle.engine_search.specs.Places.{degree_of, due_by, lower_of, next_degree_by, pair_degree_by, upper_of, value_of}

abbrev values : List ℤ
values = pos 1 ∷ negsuc 0 ∷ pos 2 ∷ negsuc 1 ∷ []

abbrev degrees : List ℕ
degrees = 1 ∷ 1 ∷ 2 ∷ 2 ∷ []

-- (0, 3), then (2, 1), then none
first_pair : (upper_of 4 values degrees 3 0 0 ≡ 0) × (lower_of 4 values degrees 3 0 0 ≡ 3)
unfolding first_from due_by
first_pair = (refl, refl)

second_pair : (upper_of 4 values degrees 3 0 4 ≡ 2) × (lower_of 4 values degrees 3 0 4 ≡ 1)
unfolding first_from due_by
second_pair = (refl, refl)

no_pair : upper_of 4 values degrees 3 2 2 ≡ 4
unfolding first_from due_by
no_pair = refl

-- 2, 3, 4 of pairs, then 5 of the basis, then none
abbrev next : ℕ → ℕ
next d = next_degree_by d 1 (degree_of (5 ∷ [])) 4 (value_of values) (degree_of degrees)

degrees_rise : (next 0 ≡ 2) × (next 2 ≡ 3) × (next 3 ≡ 4) × (next 4 ≡ 5) × (next 5 ≡ 0)
unfolding least_to lesser next_degree_by pair_degree_by
degrees_rise = (refl, refl, refl, refl, refl)
