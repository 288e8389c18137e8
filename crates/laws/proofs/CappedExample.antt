-- A longer run with right sides, by computation: the map of "The program" with right sides 3 and 1, whole, cut short, and with too little room in either
-- list. It stands apart from the definitions, where every edit would run it. Assumes nothing.
use Rattle.std.specs.Prelude.{◌≡◌, refl, ◌∷◌, [], pos, negsuc}
use Rattle.definitions.specs.Answers.{complete, paused, refused}
use Rattle.definitions.specs.System.{most_component}
use Rattle.definitions.specs.Input.{Input, input_with, rights}
use Rattle.definitions.specs.CappedRuns.{ran, comes}

example : Input
example = input_with (rights (pos 3 ∷ pos 1 ∷ [])) most_component 2 4 (negsuc 0 ∷ pos 1 ∷ pos 2 ∷ negsuc 2 ∷ negsuc 0 ∷ pos 3 ∷ negsuc 1 ∷ negsuc 0 ∷ [])

runs_hold :
    (ran 100 9 9 example ≡ comes complete (0 ∷ 1 ∷ 1 ∷ 1 ∷ 4 ∷ 2 ∷ 1 ∷ 0 ∷ []) (0 ∷ 1 ∷ 1 ∷ 0 ∷ []) 0 20 7)
    × (ran 7 9 9 example ≡ comes paused (0 ∷ 1 ∷ 1 ∷ 1 ∷ []) [] 2 7 3)
    × (ran 100 9 3 example ≡ comes (refused 11 []) (0 ∷ 1 ∷ 1 ∷ 1 ∷ 4 ∷ 2 ∷ 1 ∷ 0 ∷ []) [] 1 19 7)
    × (ran 100 7 9 example ≡ comes (refused 11 []) (0 ∷ 1 ∷ 1 ∷ 1 ∷ []) [] 2 15 6)
unfolding example ran comes
runs_hold = (refl, refl, refl, refl)
