-- Right sides, lower bounds and starts from a list, computed from the start to what is handed out, and what the starts refuse. Assumes nothing.
use Rattle.std.specs.Prelude.{◌≡◌, refl, List, ◌∷◌, [], ◌++◌, ℕ, suc, ◌*◌, ℤ, pos, negsuc, get_or, replicate, take}
use Rattle.linear.specs.Sums.{sum_to}
use Rattle.linear.specs.Systems.{inner, value}
use Rattle.linear.specs.Tests.{all_to, any_to, count_to}
use Rattle.linear.specs.Tuples.{total, unit}
use Rattle.definitions.specs.Answers.{Answer, ◌then◌, complete, refuse_first, refuse_with, refused, started}
use Rattle.definitions.specs.System.{extend_to, is_at_or_below}
use Rattle.definitions.specs.Tables.{bit, frozen, write_to}
use Rattle.laws.specs.Pack.{pack_to}
use Rattle.engine_spec.specs.Calls as engine
use Rattle.engine_spec.specs.Calls.{checked, coefficients_small, in_order, is_alone, is_free, is_fresh, is_left, is_list, is_rising, is_row, marks_in_order}
use Rattle.engine_spec.specs.Calls.{resume, resume_checks, start, start_checks, start_from, start_from_checks, start_from_under, start_under, take_checks}
use Rattle.engine_spec.specs.Engine.{Result, Work, after, all_done, begun_from_under, begun_under, fill_to, finish, finished, onward, rested, run, taken}
use Rattle.engine_spec.specs.Engine.{taken_fresh, values_small}
use Rattle.engine_spec.specs.Fresh.{put_at}
use Rattle.engine_spec.specs.Reduction.{is_small, is_within, reducible}
use Rattle.engine_spec.specs.Search.{first_from, least_to, lesser}
use Rattle.engine_spec.specs.Stage.{begin, degree_turn, grown, is_due, is_pair, next_degree, pair_degree, pair_turn, paired, passed, raised, row_turn, turn}
use Rattle.engine_spec.specs.Sides.{handed, handed_count, less_to}
use Rattle.engine_spec.specs.StartSides.{side_at, sides_checks, sides_system, start_sides}

-- tables of 9s, with room for 16 rows of q + 1 numbers
abbrev lent : ℕ → Work
lent q =
    record {
      equations = replicate 6 (pos 9);
      basis = replicate (16 * suc q) 9;
      count = 9;
      done = 9;
      equation = 9;
      fresh = 9;
      stage = begin 0 (replicate (16 * suc q) 9) 9;
    }

-- one equation in q unknowns besides the extra one: the start, the stage of the equation with the fresh unknown f, and turns to its end
abbrev taking : (cap q f : ℕ) → List ℤ → Result
taking cap q f coefs = engine.take 1 (suc q) 16 16 0 f (start_under cap 1 (suc q) coefs 16 (lent q)).work

abbrev ran_under : (cap q : ℕ) → List ℤ → Result
ran_under cap q coefs = resume 1 (suc q) 16 16 100 (taking cap q (suc q) coefs).work

abbrev ran : (q : ℕ) → List ℤ → Result
ran = ran_under 0

pub record Shown : Type 0 where
  pub answer : Answer
  pub rows : List ℕ

-- the answer, and the rows with c in the first unknown, with the bound added
abbrev shown : (c q : ℕ) (lower : ℕ → ℕ) → Result → Shown
shown c q lower o =
    let w = o.work in
    record {
      answer = o.answer;
      rows = take (handed_count c q w.basis w.count * q) (handed c q lower w.basis w.count (replicate (16 * q) 9));
    }

abbrev sees : List ℕ → Shown
sees rows = record { answer = complete; rows = rows }

abbrev none : ℕ → ℕ
none j = 0

abbrev two : ℕ → ℕ
two j = get_or (2 ∷ 0 ∷ []) j 0

-- x = 2 y, and x = 2 y + 3
abbrev double : List ℤ
double = pos 1 ∷ negsuc 1 ∷ []

pub record Kinds : Type 0 where
  pub loops : shown 0 2 none (ran 2 (extend_to 1 2 double (pos 3 ∷ []))) ≡ sees (2 ∷ 1 ∷ [])
  pub meeting : shown 1 2 none (ran 2 (extend_to 1 2 double (pos 3 ∷ []))) ≡ sees (3 ∷ 0 ∷ [])
  -- 2 x = 3: no tuple meets it; the row (2, 3) of the extended system is handed out nowhere
  pub without : shown 1 1 none (ran 1 (extend_to 1 1 (pos 2 ∷ []) (pos 3 ∷ []))) ≡ sees []
  pub left_out : take 2 (ran 1 (extend_to 1 1 (pos 2 ∷ []) (pos 3 ∷ []))).work.basis ≡ 2 ∷ 3 ∷ []
  -- with a cap of 1 on the first unknown it is no row at all, and no unknown with a cap is fresh: x = 1
  pub dropped : (ran_under 1 1 (extend_to 1 1 (pos 2 ∷ []) (pos 3 ∷ []))).work.count ≡ 0
  pub capped_loops : shown 0 2 none (ran_under 1 2 (extend_to 1 2 double (pos 3 ∷ []))) ≡ sees (2 ∷ 1 ∷ [])
  pub capped_meeting : shown 1 2 none (ran_under 1 2 (extend_to 1 2 double (pos 3 ∷ []))) ≡ sees (3 ∷ 0 ∷ [])
  pub fresh : (taking 0 1 0 (extend_to 1 1 (pos 1 ∷ []) (pos 1 ∷ []))).answer ≡ started
  pub capped_fresh : (taking 1 1 0 (extend_to 1 1 (pos 1 ∷ []) (pos 1 ∷ []))).answer ≡ refused 33 []
  -- "zero if all of them are zero"
  pub zeros : shown 1 2 none (ran 2 (extend_to 1 2 double (pos 0 ∷ []))) ≡ sees (0 ∷ 0 ∷ [])
  -- 3 x = 2 y with x at least 2; x + y = 0 with x at least 2
  pub bound : shown 1 2 two (ran 2 (extend_to 1 2 (pos 3 ∷ negsuc 1 ∷ []) (less_to 1 2 (pos 3 ∷ negsuc 1 ∷ []) [] two))) ≡ sees (2 ∷ 3 ∷ [])
  pub nothing_above : shown 1 2 two (ran 2 (extend_to 1 2 (pos 1 ∷ pos 1 ∷ []) (less_to 1 2 (pos 1 ∷ pos 1 ∷ []) [] two))) ≡ sees []

kinds : Kinds
unfolding start_under engine.take resume checked start_checks take_checks resume_checks begun_under taken run after finish finished rested all_done values_small
    onward fill_to in_order marks_in_order coefficients_small is_row is_rising is_left refuse_first refuse_with ◌then◌ pack_to extend_to less_to turn row_turn
    pair_turn degree_turn paired grown passed raised is_pair is_due pair_degree next_degree first_from lesser least_to is_within reducible is_small
    is_at_or_below value inner sum_to all_to any_to count_to total unit write_to frozen bit is_fresh is_free is_alone
kinds =
    record {
      loops = refl;
      meeting = refl;
      without = refl;
      left_out = refl;
      dropped = refl;
      capped_loops = refl;
      capped_meeting = refl;
      fresh = refl;
      capped_fresh = refl;
      zeros = refl;
      bound = refl;
      nothing_above = refl;
    }

-- ---- from a list

-- one further equation in three unknowns from a list of n rows, with the fresh unknown f or none where f is 3
abbrev begins : List ℤ → ℕ → List ℕ → Result
begins coefs n rows = start_from 1 3 coefs n rows 16 (lent 2)

abbrev takes : List ℤ → ℕ → List ℕ → ℕ → Result
takes coefs n rows f = engine.take 1 3 16 16 0 f (begins coefs n rows).work

abbrev listed : List ℤ → ℕ → List ℕ → ℕ → Shown
listed coefs n rows f =
    let o = resume 1 3 16 16 100 (takes coefs n rows f).work in
    record { answer = o.answer; rows = take (o.work.count * 3) o.work.basis }

-- x = y, and its list in the unknowns x, y, z; x + y = 2 z, and its list
abbrev same : List ℤ
same = pos 1 ∷ negsuc 0 ∷ pos 0 ∷ []

abbrev same_list : List ℕ
same_list = 1 ∷ 1 ∷ 0 ∷ 0 ∷ 0 ∷ 1 ∷ []

abbrev half_list : List ℕ
half_list = 2 ∷ 0 ∷ 1 ∷ 1 ∷ 1 ∷ 1 ∷ 0 ∷ 2 ∷ 1 ∷ []

-- x = z
abbrev ends : List ℤ
ends = pos 1 ∷ pos 0 ∷ negsuc 0 ∷ []

pub record Lists : Type 0 where
  pub both : listed same 3 half_list 3 ≡ sees (1 ∷ 1 ∷ 1 ∷ [])
  pub other_way : listed (pos 1 ∷ pos 1 ∷ negsuc 1 ∷ []) 2 same_list 3 ≡ sees (1 ∷ 1 ∷ 1 ∷ [])
  -- z is fresh in x = z where of the list only its unit tuple has it, and refused where it is not: rows would be lost
  pub fresh : listed ends 2 same_list 2 ≡ sees (1 ∷ 1 ∷ 1 ∷ [])
  pub not_fresh : (takes ends 3 half_list 2).answer ≡ refused 33 []
  pub nowhere : (takes ends 1 (1 ∷ 1 ∷ 0 ∷ []) 2).answer ≡ refused 33 []
  -- a list without rows is the whole list of equations with no solution but 0
  pub none_left : listed same 0 [] 3 ≡ sees []
  -- the list: rows that are not all zero, of so many numbers, and room for them
  pub zero_row : (begins same 2 (1 ∷ 1 ∷ 0 ∷ 0 ∷ 0 ∷ 0 ∷ [])).answer ≡ refused 6 []
  pub large : (begins same 1 (1000001 ∷ 1 ∷ 0 ∷ [])).answer ≡ refused 6 []
  pub cut : (begins same 2 (1 ∷ 1 ∷ 0 ∷ 0 ∷ 0 ∷ [])).answer ≡ refused 6 []
  pub many : (begins same 17 []).answer ≡ refused 4 []
  pub first_of_two : (begins (pos 10001 ∷ pos 0 ∷ pos 0 ∷ []) 1 (0 ∷ 0 ∷ 0 ∷ [])).answer ≡ refused 6 []
  pub range : (begins (pos 0 ∷ pos 10001 ∷ pos 0 ∷ []) 2 same_list).answer ≡ refused 7 (2 ∷ [])

lists : Lists
unfolding start_from_under engine.take resume checked start_from_checks take_checks resume_checks begun_from_under taken taken_fresh run after finish finished
    rested all_done values_small onward fill_to in_order marks_in_order coefficients_small is_row is_rising is_left is_list is_fresh is_free is_alone
    refuse_first refuse_with ◌then◌ pack_to turn row_turn pair_turn degree_turn paired grown passed raised is_pair is_due pair_degree next_degree first_from
    lesser least_to is_within reducible is_small is_at_or_below value inner sum_to all_to any_to count_to total unit write_to frozen bit put_at
lists =
    record {
      both = refl;
      other_way = refl;
      fresh = refl;
      not_fresh = refl;
      nowhere = refl;
      none_left = refl;
      zero_row = refl;
      large = refl;
      cut = refl;
      many = refl;
      first_of_two = refl;
      range = refl;
    }

-- ---- the start for right sides and lower bounds

-- a map with right sides and a bound, in tables with room for 16 rows
abbrev starts_with : (p q : ℕ) (coefs rights : List ℤ) (lower : List ℕ) → Result
starts_with p q coefs rights lower = start_sides p q coefs rights lower 16 (lent q)

-- one equation in two unknowns, to its end
abbrev ran_with : (coefs rights : List ℤ) (lower : List ℕ) → Result
ran_with coefs rights lower = resume 1 3 16 16 100 (engine.take 1 3 16 16 0 3 (starts_with 1 2 coefs rights lower).work).work

-- 3 x = 2 y, and x + y = 0
abbrev thirds : List ℤ
thirds = pos 3 ∷ negsuc 1 ∷ []

abbrev sum : List ℤ
sum = pos 1 ∷ pos 1 ∷ []

pub record Starts : Type 0 where
  -- the negated right side stands first; from a bound, less what the bound makes of the equation
  pub column : take 3 (starts_with 1 2 double (pos 3 ∷ []) (0 ∷ 0 ∷ [])).work.equations ≡ negsuc 2 ∷ pos 1 ∷ negsuc 1 ∷ []
  pub lowered : take 3 (starts_with 1 2 thirds (pos 1 ∷ []) (2 ∷ 4 ∷ [])).work.equations ≡ negsuc 2 ∷ pos 3 ∷ negsuc 1 ∷ []
  pub cap : (starts_with 1 2 double (pos 3 ∷ []) (0 ∷ 0 ∷ [])).work.stage.cap ≡ 1
  pub rows : (starts_with 1 2 double (pos 3 ∷ []) (0 ∷ 0 ∷ [])).work.count ≡ 3
  pub loops : shown 0 2 none (ran_with double (pos 3 ∷ []) (0 ∷ 0 ∷ [])) ≡ sees (2 ∷ 1 ∷ [])
  pub meeting : shown 1 2 none (ran_with double (pos 3 ∷ []) (0 ∷ 0 ∷ [])) ≡ sees (3 ∷ 0 ∷ [])
  pub bound : shown 1 2 two (ran_with thirds (pos 0 ∷ []) (2 ∷ 0 ∷ [])) ≡ sees (2 ∷ 3 ∷ [])
  pub nothing_above : shown 1 2 two (ran_with sum (pos 0 ∷ []) (2 ∷ 0 ∷ [])) ≡ sees []
  -- refusals, each where all before it pass, and where the next is due too
  pub unknowns : (starts_with 1 32 [] (pos 0 ∷ []) []).answer ≡ refused 2 []
  pub numbers : (starts_with 1 2 (pos 1 ∷ []) [] []).answer ≡ refused 3 []
  pub sides : (starts_with 1 2 double [] []).answer ≡ refused 3 []
  pub short : (starts_with 3 2 (double ++ double ++ double) (pos 0 ∷ pos 0 ∷ pos 0 ∷ []) []).answer ≡ refused 4 []
  pub length : (starts_with 1 2 (pos 10001 ∷ pos 1 ∷ []) (pos 0 ∷ []) (0 ∷ [])).answer ≡ refused 5 []
  pub range : (starts_with 1 2 (pos 1 ∷ pos 10001 ∷ []) (pos 0 ∷ []) (1000001 ∷ 0 ∷ [])).answer ≡ refused 7 (2 ∷ [])
  pub large : (starts_with 1 2 double (pos 10001 ∷ []) (0 ∷ 1000001 ∷ [])).answer ≡ refused 8 []
  pub outside : (starts_with 1 2 double (negsuc 10000 ∷ []) (1000000 ∷ 0 ∷ [])).answer ≡ refused 15 []
  pub beyond : (starts_with 2 2 (pos 1 ∷ pos 0 ∷ pos 1 ∷ negsuc 0 ∷ []) (pos 0 ∷ negsuc 0 ∷ []) (1000000 ∷ 0 ∷ [])).answer ≡ refused 35 (2 ∷ [])

starts : Starts
unfolding start_sides sides_checks sides_system side_at engine.take resume checked take_checks resume_checks begun_under taken run after finish finished rested
    all_done values_small onward fill_to in_order marks_in_order coefficients_small is_row is_rising is_left refuse_first refuse_with ◌then◌ pack_to extend_to
    less_to turn row_turn pair_turn degree_turn paired grown passed raised is_pair is_due pair_degree next_degree first_from lesser least_to is_within reducible
    is_small is_at_or_below value inner sum_to all_to any_to count_to total unit write_to frozen bit
starts =
    record {
      column = refl;
      lowered = refl;
      cap = refl;
      rows = refl;
      loops = refl;
      meeting = refl;
      bound = refl;
      nothing_above = refl;
      unknowns = refl;
      numbers = refl;
      sides = refl;
      short = refl;
      length = refl;
      range = refl;
      large = refl;
      outside = refl;
      beyond = refl;
    }
