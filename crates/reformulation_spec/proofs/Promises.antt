-- The promises of a reformulation, in one place: open this file first. Nothing is assumed of the numbers but that the call said yes. Rules.antt has the
-- refusals of both calls, each in its case and in no other (`reformulate_renders`, `project_renders`), Showing.antt what a yes says of the numbers (`Shown`),
-- and Projection.antt what the call that projects leaves (`projected_row`, `projected_behind`, `projected_not`). Complete.antt has what a complete run of the
-- engine on the other map is worth (`complete_projected`), and one with right sides (`sides_projected`). Assumes nothing.
use Rattle.std.specs.Prelude.{◌≡◌, List, ℕ, ◌<◌, ℤ}
use Rattle.std.proofs.Common.{sym, ◌∙◌, arith}
use Rattle.linear.specs.Combinations.{Enumerates}
use Rattle.linear.proofs.Loops.{Loop}
use Rattle.linear.specs.Systems.{Solution}
use Rattle.linear.specs.Tuples.{Same}
use Rattle.definitions.specs.Answers.{go}
use Rattle.definitions.specs.Input.{input_of}
use Rattle.definitions.specs.Input as map
use Rattle.definitions.specs.System.{MinimalSolution, System}
use Rattle.definitions.specs.Tables.{at}
use Rattle.engine_spec.specs.Equations.{LoopInside}
use Rattle.engine_spec.proofs.Equations.{inside_loop, loop_inside, wanted_alike, wanted_inside, wanted_some}
use Rattle.engine_spec.proofs.Sides.{minimal_alike}
use Rattle.reformulation_spec.proofs.Extension.{NeverBelow, loop_map, map_loop, row_map, same_all, with, with_map, with_same}
use Rattle.reformulation_spec.proofs.Following.{at_least_nonneg, exactly_zero}
use Rattle.reformulation_spec.proofs.Projection.{projected_row}
use Rattle.reformulation_spec.specs.Reformulation.{Reformulation, equations, extended_row, map_row, other_row, project_checks, projected, reformulates}
use Rattle.reformulation_spec.specs.Reformulation.{unknowns}
use Rattle.reformulation_spec.proofs.Rules.{says_yes}
use Rattle.reformulation_spec.specs.Showing.{Shown}

-- the map of document 01, beyond its own limits of 8 and 16 where p and q are
abbrev pub map_of : (p q : ℕ) (coefs : List ℤ) → System
map_of p q coefs = map.system_of (input_of p q coefs)

-- ---- systems with the same solutions, and lists of the same rows

loop_there : {p m q : ℕ} {a b : ℕ → ℕ → ℤ} → ((t : ℕ → ℕ) → Solution p q a t → Solution m q b t) → ((t : ℕ → ℕ) → Solution m q b t → Solution p q a t)
    → (t : ℕ → ℕ) → Loop p q a t → Loop m q b t
loop_there there back t l =
    record {
      holds = record { solution = there t l.holds.solution; admitted = l.holds.admitted };
      none_below = λ s w. l.none_below s (record { solution = back s w.solution; admitted = w.admitted });
    }

-- a list reads each row up to its width
loop_same : (cap p q : ℕ) (a : ℕ → ℕ → ℤ) (s t : ℕ → ℕ) → Same q s t → LoopInside cap p q a s → LoopInside cap p q a t
loop_same cap p q a = minimal_alike q (λ s t e w. wanted_alike cap p q a e w)

rows_same : {q : ℕ} {W : (ℕ → ℕ) → Type 0} → ((s t : ℕ → ℕ) → Same q s t → W s → W t) → {n : ℕ} {one other : ℕ → ℕ → ℕ}
    → ((i : ℕ) → i < n → Same q (one i) (other i)) → Enumerates q W n one → Enumerates q W n other
rows_same alike {one = one} {other = other} e list =
    record {
      only = λ i l. alike (one i) (other i) (e i l) (list.only i l);
      once = λ i j ij jn s. list.once i j ij jn (λ x h. omega (arith, e i (omega arith) x h, s x h, e j jn x h));
      all = λ t l. let (i, h, s) = list.all t l in (i, h, λ j g. sym (e i h j g) ∙ s j g);
    }

-- ---- the promises, of a call that says yes

module _ (r : Reformulation) (yes : reformulates r ≡ go) where
  shown : Shown r
  shown = says_yes r yes

  -- The solutions of the other map are those of the extended one.
  pub same_solutions : (t : ℕ → ℕ) → (Solution r.m (unknowns r) (other_row r) t → Solution (equations r) (unknowns r) (extended_row r) t)
      × (Solution (equations r) (unknowns r) (extended_row r) t → Solution r.m (unknowns r) (other_row r) t)
  same_solutions t = (λ s i l. exactly_zero t s (shown.back i l), λ s i l. exactly_zero t s (shown.onto i l))

  never : NeverBelow r.p r.q r.k (map_row r) (extended_row r)
  never x s l h = at_least_nonneg x (λ i ip. row_map shown.extends_map x i ip ∙ s i ip) (shown.above l h)

  -- x with the further unknowns beside it: each is the sum of x that its equation says
  abbrev pub beside : (ℕ → ℕ) → ℕ → ℕ
  beside = with r.p r.q (extended_row r)

  abbrev Given : (ℕ → ℕ) → Type 0
  Given = MinimalSolution (map_of r.p r.q r.coefs)

  abbrev Other : (ℕ → ℕ) → Type 0
  Other = MinimalSolution (map_of r.m (unknowns r) r.other)

  -- A minimal solution of the map, with the further unknowns beside it, is one of the other map;
  pub minimal_beside : (x : ℕ → ℕ) → Given x → Other (beside x)
  minimal_beside x l =
      loop_there (λ t. (same_solutions t).1) (λ t. (same_solutions t).0) (beside x) (map_loop shown.extends_map never x l)

  -- each of the other map is such;
  pub minimal_other : (t : ℕ → ℕ) → Other t → Given t × Same (unknowns r) (beside t) t
  minimal_other t l =
      let e = loop_there (λ s. (same_solutions s).0) (λ s. (same_solutions s).1) t l in
      (loop_map shown.extends_map never t e, with_same shown.extends_map never t e.holds.solution)

  -- and a tuple is one of the map only where it is one of the other with the further unknowns beside it.
  pub minimal_only : (x : ℕ → ℕ) → Other (beside x) → Given x
  minimal_only x l = loop_same 0 r.p r.q (map_row r) (beside x) x (with_map shown.extends_map never x) (minimal_other (beside x) l).0

  -- those inside a cap on the first unknown, which is the map's
  abbrev GivenInside : ℕ → (ℕ → ℕ) → Type 0
  GivenInside cap = LoopInside cap r.p r.q (map_row r)

  abbrev OtherInside : ℕ → (ℕ → ℕ) → Type 0
  OtherInside cap = LoopInside cap r.m (unknowns r) (other_row r)

  inside_map : (cap : ℕ) (t : ℕ → ℕ) → OtherInside cap t → GivenInside cap t
  inside_map cap t m =
      loop_inside cap r.p r.q (map_row r) t (λ capped some. wanted_inside cap r.m (unknowns r) (other_row r) m.holds capped (omega arith))
      (minimal_other t (inside_loop cap r.m (unknowns r) (other_row r) t m)).0

  inside_beside : (cap : ℕ) (x : ℕ → ℕ) → GivenInside cap x → OtherInside cap (beside x)
  inside_beside cap x m =
      loop_inside cap r.m (unknowns r) (other_row r) (beside x)
      (λ capped some.
      let (j, jq, h) = wanted_some cap r.p r.q (map_row r) m.holds in
      let inside = wanted_inside cap r.p r.q (map_row r) m.holds capped (omega arith) in
      omega (arith, inside, with_map shown.extends_map never x 0 (omega arith)))
      (minimal_beside x (inside_loop cap r.p r.q (map_row r) x m))

  -- So a list of the other map's inside a cap, each once, is a list of the map's inside it, each once, read up to the further unknowns;
  pub reformulated_under : (cap : ℕ) {n : ℕ} {row : ℕ → ℕ → ℕ} → Enumerates (unknowns r) (OtherInside cap) n row → Enumerates r.q (GivenInside cap) n row
  reformulated_under cap {row = row} list =
      record {
        only = λ i l. inside_map cap (row i) (list.only i l);
        once = λ i j ij jn e. list.once i j ij jn
            (same_all shown.extends_map never (row i) (row j) ((same_solutions (row i)).0 (list.only i (omega arith)).holds.solution)
            ((same_solutions (row j)).0 (list.only j jn).holds.solution) e);
        all = λ x m.
            let (i, l, e) = list.all (beside x) (inside_beside cap x m) in
            (i, l, λ j h. e j (omega arith) ∙ with_map shown.extends_map never x j h);
      }

  -- and as the call that projects leaves it in a table of its own;
  pub projected_under : (cap found : ℕ) (rows out : List ℕ) → project_checks r.q r.k found rows out ≡ go
      → Enumerates (unknowns r) (OtherInside cap) found (at rows (unknowns r))
      → Enumerates r.q (GivenInside cap) found (at (projected r.q r.k found rows out) r.q)
  projected_under cap found rows out fits list =
      rows_same (loop_same cap r.p r.q (map_row r)) (λ i l j h. sym (projected_row r.q r.k found rows out fits i j l h))
      (reformulated_under cap list)

  -- without a cap, of all.
  pub reformulated : {n : ℕ} {row : ℕ → ℕ → ℕ} → Enumerates (unknowns r) Other n row → Enumerates r.q Given n row
  reformulated = reformulated_under 0

  pub projected_lists : (found : ℕ) (rows out : List ℕ) → project_checks r.q r.k found rows out ≡ go
      → Enumerates (unknowns r) Other found (at rows (unknowns r))
      → Enumerates r.q Given found (at (projected r.q r.k found rows out) r.q)
  projected_lists = projected_under 0
