-- Computed: 2 x = 3 y in the place of which x = 3 z and y = 2 z are listed, z being x − y; and what shows nothing. Assumes nothing.
use Rattle.std.specs.Prelude.{◌≡◌, refl, List, [], ◌∷◌, ℤ, pos, negsuc}
use Rattle.linear.specs.Tests.{all_to, any_to}
use Rattle.definitions.specs.Answers.{Check, ◌then◌, go, refuse, refuse_first, refuse_with}
use Rattle.definitions.specs.Refusals.{check7}
use Rattle.definitions.specs.Tables.{write_to}
use Rattle.reformulation_spec.specs.Reformulation.{all_follow, extends, follows, given_checks, left_over, project_checks, project_to, projected, reformulates}
use Rattle.reformulation_spec.specs.Reformulation.{reformulation, shows}

abbrev three : ℤ → ℤ → ℤ → List ℤ → List ℤ
three x y z rest = x ∷ y ∷ z ∷ rest

-- the map, the two others, and how often each row is taken
abbrev given : List ℤ
given = pos 2 ∷ negsuc 2 ∷ []

abbrev further : List ℤ
further = three (pos 2) (negsuc 2) (pos 0) (three (pos 1) (negsuc 0) (negsuc 0) [])

abbrev instead : List ℤ
instead = three (pos 1) (pos 0) (negsuc 2) (three (pos 0) (pos 1) (negsuc 1) [])

abbrev there : List ℤ
there = three (pos 1) (pos 1) (negsuc 2) (three (pos 1) (pos 1) (negsuc 1) [])

abbrev again : List ℤ
again = three (pos 1) (negsuc 1) (pos 3) (three (pos 1) (negsuc 0) (pos 1) [])

abbrev over : List ℤ
over = pos 2 ∷ negsuc 0 ∷ []

abbrev asked : (extended other onto back above : List ℤ) → Check
asked extended other onto back above = reformulates (reformulation 1 2 1 2 given extended other onto back above)

-- another extended map with the row of the further unknown: x − y + e = f z
abbrev defined : (e f : ℤ) → List ℤ
defined e f = three (pos 2) (negsuc 2) e (three (pos 1) (negsuc 0) f [])

pub record Computed : Type 0 where
  pub yes : asked further instead there again over ≡ go
  -- a row taken no times, or less: x = 3 z follows from everything
  pub not_taken : asked further instead (three (pos 0) (pos 0) (pos 0) (three (pos 1) (pos 1) (negsuc 1) [])) again over ≡ refuse 36 []
  pub taken_back : asked further instead (three (negsuc 0) (negsuc 0) (pos 3) (three (pos 1) (pos 1) (negsuc 1) [])) again over ≡ refuse 36 []
  -- the other map has an equation more than follows, or one less than is needed: z = 0; y = 2 z twice
  pub more : asked further (three (pos 1) (pos 0) (negsuc 2) (three (pos 0) (pos 0) (pos 1) [])) there again over ≡ refuse 36 []
  pub fewer : asked further (three (pos 0) (pos 1) (negsuc 1) (three (pos 0) (pos 1) (negsuc 1) []))
      (three (pos 1) (pos 1) (negsuc 1) (three (pos 1) (pos 1) (negsuc 1) [])) again over
      ≡ refuse 36 []
  -- z may be below 0, as far as is shown: x − y is in the column of y, and 2 (x − y) + (3 y − 2 x) is not
  pub below : asked further instead there again (pos 1 ∷ pos 0 ∷ []) ≡ refuse 36 []
  pub below_not_taken : asked further instead there again (pos 0 ∷ pos 0 ∷ []) ≡ refuse 36 []
  -- the extended map is another: with z in the map's own row; with z twice; with another map
  pub inside : asked (defined (negsuc 0) (negsuc 0)) instead there again over ≡ refuse 36 []
  pub twice : asked (defined (pos 0) (negsuc 1)) instead there again over ≡ refuse 36 []
  pub another : asked (three (pos 4) (negsuc 5) (pos 0) (three (pos 1) (negsuc 0) (negsuc 0) [])) instead there again over ≡ refuse 36 []
  -- multiples as large as may be, and one more
  pub large : asked further instead (three (pos 1000000000000) (pos 1000000000000) (negsuc 2999999999999) (three (pos 1) (pos 1) (negsuc 1) [])) again over
      ≡ refuse 36 []
  pub largest : asked further instead
      (three (pos 333333333333) (pos 333333333333) (negsuc 999999999998) (three (pos 1) (pos 1) (negsuc 1) [])) again over
      ≡ go
  -- sizes and lengths
  pub no_equations : reformulates (reformulation 1 2 1 0 given further instead there again over) ≡ refuse 1 []
  pub many_equations : reformulates (reformulation 33 2 1 2 given further instead there again over) ≡ refuse 1 []
  pub many_others : reformulates (reformulation 1 2 1 33 given further instead there again over) ≡ refuse 1 []
  pub no_unknown : reformulates (reformulation 1 0 1 2 given further instead there again over) ≡ refuse 2 []
  pub many_unknowns : reformulates (reformulation 1 2 31 2 given further instead there again over) ≡ refuse 2 []
  pub short : asked further instead there again [] ≡ refuse 3 []
  pub out_of_range : reformulates (reformulation 1 2 1 2 (pos 2 ∷ pos 10001 ∷ []) further instead there again over) ≡ refuse 7 (2 ∷ [])
  -- no further unknown: the map itself, and its double
  pub itself : reformulates (reformulation 1 2 0 1 given given (pos 4 ∷ negsuc 5 ∷ []) (pos 1 ∷ negsuc 1 ∷ []) (pos 2 ∷ negsuc 0 ∷ []) []) ≡ go
  -- two rows of three numbers, to rows of two; a place behind them stays
  pub rows : projected 2 1 2 (3 ∷ 2 ∷ 1 ∷ 6 ∷ 4 ∷ 2 ∷ []) (9 ∷ 9 ∷ 9 ∷ 9 ∷ 9 ∷ []) ≡ 3 ∷ 2 ∷ 6 ∷ 4 ∷ 9 ∷ []
  pub few_rows : project_checks 2 1 2 (3 ∷ 2 ∷ 1 ∷ 6 ∷ 4 ∷ []) (9 ∷ 9 ∷ 9 ∷ 9 ∷ []) ≡ refuse 6 []
  pub no_room : project_checks 2 1 2 (3 ∷ 2 ∷ 1 ∷ 6 ∷ 4 ∷ 2 ∷ []) (9 ∷ 9 ∷ 9 ∷ []) ≡ refuse 29 []
  pub no_width : project_checks 0 1 0 [] [] ≡ refuse 2 []
  pub wide : project_checks 2 31 0 [] [] ≡ refuse 2 []
  pub widest : project_checks 2 30 0 [] [] ≡ go

pub computed : Computed
unfolding all_to any_to ◌then◌ refuse_first refuse_with check7 write_to all_follow extends follows given_checks left_over reformulates shows project_checks
    project_to projected
computed =
    record {
      yes = refl;
      not_taken = refl;
      taken_back = refl;
      more = refl;
      fewer = refl;
      below = refl;
      below_not_taken = refl;
      inside = refl;
      twice = refl;
      another = refl;
      large = refl;
      largest = refl;
      no_equations = refl;
      many_equations = refl;
      many_others = refl;
      no_unknown = refl;
      many_unknowns = refl;
      short = refl;
      out_of_range = refl;
      itself = refl;
      rows = refl;
      few_rows = refl;
      no_room = refl;
      no_width = refl;
      wide = refl;
      widest = refl;
    }
