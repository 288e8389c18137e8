-- Theorems about what specs/Parts.antt defines. Assumes nothing.
use Rattle.std.specs.Prelude.{ℕ, true, false, [], ◌∷◌, ◌≡◌, refl}
use Rattle.dispatch_spec.specs.Parts.{overlap, part, part_in, part_of}

-- a part that ends with the table, one that leaves it by one number, and one that begins past it
part_in_holds :
    (part_in {A = ℕ} (part 1 2) (5 ∷ 6 ∷ 7 ∷ []) ≡ 6 ∷ 7 ∷ [])
    × (part_in {A = ℕ} (part 1 3) (5 ∷ 6 ∷ 7 ∷ []) ≡ [])
    × (part_in {A = ℕ} (part 4 0) (5 ∷ 6 ∷ 7 ∷ []) ≡ [])
unfolding part part_of part_in
part_in_holds = (refl, refl, refl)

-- parts that touch do not overlap, and an empty part overlaps none
overlap_holds :
    (overlap (part 1 13) (part 13 6) ≡ true)
    × (overlap (part 1 13) (part 14 6) ≡ false)
    × (overlap (part 14 6) (part 1 13) ≡ false)
    × (overlap (part 2 0) (part 1 13) ≡ false)
    × (overlap (part 1 13) (part 2 0) ≡ false)
    × (overlap (part 2 1) (part 1 13) ≡ true)
unfolding part overlap
overlap_holds = (refl, refl, refl, refl, refl, refl)
