-- Theorems about what specs/Lines.antt defines. Assumes nothing.
use Rattle.std.proofs.Common.{◌∙◌, ap₂, subst, append-nil, le-ltb, lt-ltb, ltb→lt, lt→ltb}
use Rattle.std.specs.Prelude.{◌≡◌, refl, Bool, false, true, List, [], ◌++◌, ◌∷◌, T, drop, length}
use Rattle.std.proofs.Math.Path.{ap, sym}
use Rattle.std.proofs.Math.Logic.{inl, inr}
use Prim.Native.Nat.{◌+◌, ◌<◌, suc, zero, ℕ}
use native.Mathlib.Omega.{arith}
use Rattle.linear.specs.Cases.{below_suc}
use Rattle.linear.proofs.TestLaws.{T-dec}
use Rattle.linear.specs.Tests.{count_to, number}
use Rattle.definitions.specs.Answers.{complete, go}
use Rattle.definitions.specs.Input.{Input, alone, map_of}
use Rattle.definitions.specs.System.{MinimalSolution, System, column}
use Rattle.definitions.specs.Tables.{State, at}
use Rattle.laws.proofs.RefusalLaws.{at_most}
use Rattle.theorems.specs.Maps.{Map, by_itself}
use Rattle.theorems.proofs.Proved.{second_demand}
use Rattle.theorems.specs.Held.{Whole}
use Rattle.theorems.specs.Listed.{Exactly}
use Rattle.theorems.proofs.Run.{run_handed}
use Rattle.texts.specs.Decimals.{decimal, newline, space}
use Rattle.single_spec.specs.Calls.{single_resume}
use Rattle.single_spec.specs.Graph.{named, size}
use Rattle.single_spec.specs.Listing.{lines_to, listed_by, listing, listing_call, listing_checks, loop_line, number_if, order_to, order_word, rising_to}
use Rattle.single_spec.specs.Listing.{written}
use Rattle.single_spec.specs.Profile.{SingleFile, circuit_order, is_circuit_of}
use Rattle.single_spec.proofs.ProfileLaws.{profile_decides}
use Rattle.single_spec.specs.Promises.{Ordered}
use Rattle.single_spec.proofs.Promises.{single_file_solutions}
use Rattle.single_spec.proofs.Runs.{SingleRun, listing_refuses, single_calls}
use Rattle.single_spec.specs.Lines.{FinishedLists, Line, Lists, Spelt, further, joined, spelled}

-- ---- the unknowns named, rising

spelled_same : (n : ℕ) (f g : ℕ → ℕ) → ((k : ℕ) → k < n → f k ≡ g k) → spelled n f ≡ spelled n g
unfolding spelled
spelled_same zero f g e = refl
spelled_same (suc n) f g e = ap₂ (λ t k. t ++ (decimal (suc k) ++ (space ∷ []))) (spelled_same n f g (λ k l. e k (omega arith))) (e n (omega arith))

further_old : (K : ℕ) (name : ℕ → ℕ) (n k : ℕ) → k < K → further K name n k ≡ name k
further_old K name n k l = rw (lt-ltb k K l)

further_new : (K : ℕ) (name : ℕ → ℕ) (n : ℕ) → further K name n K ≡ n
further_new K name n = rw (le-ltb K K (omega arith))

module _ (n : ℕ) (x : ℕ → ℕ) {K : ℕ} {text : List ℕ} (s : Spelt n x K text) where
  spelt_named : 0 < x n → Spelt (suc n) x (suc K) (text ++ (decimal (suc n) ++ (space ∷ [])))
  unfolding spelled
  spelt_named some =
      let f : ℕ → ℕ = further K s.name n in
      record {
        name = f;
        rising =
            record {
              inside = λ k l. elim (below_suc l) [
                | inl h ↦ rw (further_old K s.name n k h) (let (a, b) = s.rising.inside k h in (omega arith, b))
                | inr h ↦ rw (h, further_new K s.name n) (omega arith, some)
              ];
              all = λ j l h. elim (below_suc l) [
                | inl a ↦ let (k, lk, q) = s.rising.all j a h in (k, omega arith, further_old K s.name n k lk ∙ q)
                | inr a ↦ (K, omega arith, further_new K s.name n ∙ sym a)
              ];
              rises = λ a b ab l. elim (below_suc l) [
                | inl h ↦
                    let low : a < K = omega arith in
                    rw (further_old K s.name n a low, further_old K s.name n b h) (s.rising.rises a b ab h)
                | inr h ↦
                    let low : a < K = omega arith in
                    rw (h, further_old K s.name n a low, further_new K s.name n) (s.rising.inside a low).0
              ];
            };
        is =
            ap (λ t. t ++ (decimal (suc n) ++ (space ∷ []))) (s.is ∙ spelled_same K s.name f (λ k l. sym (further_old K s.name n k l)))
            ∙ ap (λ k. spelled K f ++ (decimal (suc k) ++ (space ∷ []))) (sym (further_new K s.name n));
      }

  spelt_other : ¬ (0 < x n) → Spelt (suc n) x K (text ++ [])
  spelt_other none =
      record {
        name = s.name;
        rising =
            record {
              inside = λ k l. let (a, b) = s.rising.inside k l in (omega arith, b);
              all = λ j l h. elim (below_suc l) [ inl a ↦ s.rising.all j a h | inr a ↦ absurd (none (rw a at h)) ];
              rises = s.rising.rises;
            };
        is = append-nil text ∙ s.is;
      }

  spelt_next : (b : Bool) → named x n ≡ b → Spelt (suc n) x (K + number b) (text ++ number_if b n)
  spelt_next true e = let one : K + 1 ≡ suc K = omega arith in rw one (spelt_named (ltb→lt 0 (x n) (rw e tt)))
  spelt_next false e =
      let same : K + 0 ≡ K = omega arith in
      rw same (spelt_other (λ h. let t : T (named x n) = lt→ltb 0 (x n) h in rw e at t))

spelt : (n : ℕ) (x : ℕ → ℕ) → Spelt n x (count_to n (named x)) (rising_to n x)
unfolding rising_to spelled count_to
spelt zero x =
    record {
      name = λ k. 0;
      rising = record { inside = λ k l. absurd (omega arith); all = λ j l h. absurd (omega arith); rises = λ a b ab l. absurd (omega arith) };
      is = refl;
    }
spelt (suc n) x = spelt_next n x (spelt n x) (named x n) refl

-- ---- the lines

line_of : (m : System) (x : ℕ → ℕ) → Ordered m x (size m.q x) (circuit_order m x) → Line m x (loop_line m x)
unfolding size loop_line
line_of m x o =
    let s = spelt m.q x in
    record {
      number = count_to m.q (named x);
      name = s.name;
      rising = s.rising;
      order = circuit_order m x;
      ordered = o;
      is = ap (λ t. t ++ (order_word ++ (order_to (count_to m.q (named x)) (circuit_order m x) ++ (newline ∷ [])))) s.is;
    }

lines_joined : (n : ℕ) (m : System) (row : ℕ → ℕ → ℕ) → lines_to n m row ≡ joined n (λ k. loop_line m (row k))
unfolding lines_to joined
lines_joined zero m row = refl
lines_joined (suc n) m row = ap (λ t. t ++ loop_line m (row n)) (lines_joined n m row)

module _ (i : Input) (list : List ℕ) (found : ℕ) (out : List ℕ) (e : listing_checks i list found out ≡ go) where
  text_is : listing (map_of i) list found ≡ joined found (λ k. loop_line (map_of i) (at list i.q k))
  unfolding listing
  text_is = lines_joined found (map_of i) (at list i.q)

  went : listing_call i list found out
      ≡ record {
        answer = written (length (listing (map_of i) list found));
        out = listing (map_of i) list found ++ drop (length (listing (map_of i) list found)) out;
      }
  unfolding listing_call listed_by
  went = rw e

  pub listing_lists : Lists i list found out
  listing_lists =
      let (a, (b, (c, (d, (f, (g, (h, (r, u)))))))) = (listing_refuses i list found out).refuses.goes e in
      let profile : SingleFile (map_of i) = λ j l. profile_decides i.p (column (map_of i) j) (g j l) in
      let l = single_file_solutions (map_of i) profile in
      let minimal : (k : ℕ) → k < found → MinimalSolution (map_of i) (at list i.q k) = λ k lk.
      elim (T-dec (is_circuit_of (map_of i) (at list i.q k))) [ inl y ↦ (l.test _).0 y | inr n ↦ absurd (h k lk (λ y. n ((l.test _).1 y))) ] in
      record {
        line = λ k. loop_line (map_of i) (at list i.q k);
        lines = λ k lk. (minimal k lk, line_of (map_of i) (at list i.q k) (l.ordered _ (minimal k lk)));
        fits = rw (← text_is) (at_most _ _ r);
        answers = ap (λ o. o.answer) went ∙ ap (λ t. written (length t)) text_is;
        writes = ap (λ o. o.out) went ∙ ap (λ t. t ++ drop (length t) out) text_is;
      }

-- ---- a finished run

pub finished_lists : (m : Map) (s : State) → SingleRun m s → (budget : ℕ) → let o = single_resume budget (by_itself m) s in
    o.answer ≡ complete → FinishedLists (by_itself m) o.state.list o.state.run.found
finished_lists m s r budget e =
    let i : Input = by_itself m in
    let is = (single_calls i).resume_same r.profile budget s in
    let t : State = (single_resume budget i s).state in
    let whole : Exactly i.q (MinimalSolution (map_of i)) t.list t.run.found =
    subst (λ o. Whole alone i o.state) (sym is)
    ((second_demand.lists i s r.run).finished budget (ap (λ o. o.answer) (sym is) ∙ e)) in
    let h = run_handed i r.run in
    record {
      whole = whole;
      goes = λ out room.
          (listing_refuses i t.list t.run.found out).refuses.silent (
            h.equations,
            (
              h.unknowns,
              (
                h.numbers,
                (
                  λ l. omega (arith, whole.part.room),
                  (
                    h.ranges.0,
                    (λ j l none. none (r.profile j l), (λ k l none. none (whole.part.only k l), (λ l. omega arith, tt))),
                  ),
                ),
              ),
            ),
          );
      lists = λ out. listing_lists i t.list t.run.found out;
    }
