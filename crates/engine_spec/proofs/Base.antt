-- Theorems about what specs/Base.antt defines. Assumes nothing.
use Rattle.std.specs.Prelude.{◌≡◌, refl, Bool, cond, ◌||◌, ℕ, ◌+◌, ◌-◌, ◌≤◌, ◌<◌, ℤ, pos}
use Rattle.std.proofs.Math.Path.{sym}
use Rattle.std.proofs.Common.{◌∙◌, inl, inr, arith, lt→ltb, nltb→le}
use Rattle.std.proofs.Math.Bool.{true, false}
use Rattle.std.proofs.Math.Decide.{ℕ_discrete}
use Rattle.std.proofs.Math.Dec.{T, eqb, eqb→eq, ltb, ltb→lt, not_T}
use Rattle.linear.proofs.Cases.{split}
use Rattle.linear.specs.Combinations.{Enumerates}
use Rattle.linear.proofs.SystemLaws.{value_same, value_unit}
use Rattle.linear.specs.Systems.{Solution, value}
use Rattle.linear.proofs.TestLaws.{all_at, all_from, and_both, and_parts, any_at, any_from}
use Rattle.linear.specs.Tests.{any_to}
use Rattle.linear.specs.TupleLaws.{unit_other, unit_same}
use Rattle.linear.proofs.TupleLaws.{least, minimal_from, total_less, total_same, total_unit}
use Rattle.linear.specs.Tuples.{AtOrBelow, Same, total, unit}
use Rattle.definitions.specs.Tables.{frozen}
use Rattle.engine_spec.specs.Calls.{is_alone}
use Rattle.engine_spec.specs.Done.{among}
use Rattle.engine_spec.proofs.Done.{done_solved, solved_done}
use Rattle.engine_spec.proofs.Caps.{inside_unit}
use Rattle.engine_spec.specs.Equations.{Extends, LoopInside, Wanted}
use Rattle.engine_spec.proofs.Equations.{wanted_from, wanted_some}
use Rattle.engine_spec.specs.Operations.{Alike}
use Rattle.engine_spec.specs.Base.{Base, on_top, under}

-- ---- its solutions are those of both

value_early : (x : Bool) (c d : ℕ → ℤ) (q : ℕ) (t : ℕ → ℕ) → T x → value (λ j. cond x (c j) (d j)) q t ≡ value c q t
value_early true c d q t h = refl
value_early false c d q t h = absurd h

value_late : (x : Bool) (c d : ℕ → ℤ) (q : ℕ) (t : ℕ → ℕ) → ¬ (T x) → value (λ j. cond x (c j) (d j)) q t ≡ value d q t
value_late true c d q t h = absurd (h tt)
value_late false c d q t h = refl

module _ (b : Base) (p q : ℕ) (a : ℕ → ℕ → ℤ) (t : ℕ → ℕ) where
  early : (i : ℕ) → i < b.p → value (on_top b a i) q t ≡ value (b.a i) q t
  unfolding on_top
  early i l = value_early (ltb i b.p) (b.a i) (a (i - b.p)) q t (lt→ltb i b.p l)

  late : (i : ℕ) → b.p ≤ i → value (on_top b a i) q t ≡ value (a (i - b.p)) q t
  unfolding on_top
  late i l = value_late (ltb i b.p) (b.a i) (a (i - b.p)) q t (λ h. omega (arith, ltb→lt i b.p h))

  pub before_solved : Solution (b.p + p) q (on_top b a) t → Solution b.p q b.a t
  before_solved s i l = sym (early i l) ∙ s i (omega arith)

  pub behind_solved : Solution (b.p + p) q (on_top b a) t → Solution p q a t
  behind_solved s i l =
      let e : b.p + i - b.p ≡ i = omega arith in
      rw e at (sym (late (b.p + i) (omega arith)) ∙ s (b.p + i) (omega arith))

  pub both_solved : Solution b.p q b.a t → Solution p q a t → Solution (b.p + p) q (on_top b a) t
  both_solved s u i l = elim (split i b.p) [ inl h ↦ early i h ∙ s i h | inr h ↦ late i h ∙ u (i - b.p) (omega arith) ]

-- one equation more behind
pub top_extends : (b : Base) (p q : ℕ) (a a' : ℕ → ℕ → ℤ) (c : ℕ → ℤ) → Extends p q a a' c → Extends (b.p + p) q (on_top b a) (on_top b a') c
top_extends b p q a a' c x =
    record {
      less = λ t s. both_solved b p q a t (before_solved b p q a' t s) (x.less t (behind_solved b p q a' t s));
      meets = λ t s. x.meets t (behind_solved b p q a' t s);
      more = λ t s z. both_solved b p q a' t (before_solved b p q a t s) (x.more t (behind_solved b p q a t s) z);
    }

pub top_alike : (b : Base) {p q : ℕ} {a a' : ℕ → ℕ → ℤ} → Alike p q a a' → Alike (b.p + p) q (on_top b a) (on_top b a')
top_alike b {p} {q} {a} {a'} x =
    record {
      there = λ t s. both_solved b p q a' t (before_solved b p q a t s) (x.there t (behind_solved b p q a t s));
      back = λ t s. both_solved b p q a t (before_solved b p q a' t s) (x.back t (behind_solved b p q a' t s));
    }

-- no equation has the unknown f: of those behind as they say, of those before by what holds of all
pub top_free : (b : Base) (p : ℕ) (a : ℕ → ℕ → ℤ) (f : ℕ) → ((i : ℕ) → i < p → a i f ≡ pos 0) → ((i : ℕ) → i < b.p → b.a i f ≡ pos 0)
    → (i : ℕ) → i < b.p + p → on_top b a i f ≡ pos 0
unfolding on_top
top_free b p a f behind before i l = by (ltb i b.p) (λ h. ltb→lt i b.p h) (λ h. nltb→le i b.p (not_T (ltb i b.p) h))
  where
    by : (x : Bool) → (T x → i < b.p) → (¬ (T x) → b.p ≤ i) → cond x (b.a i f) (a (i - b.p) f) ≡ pos 0
    by true low high = before i (low tt)
    by false low high = let k : b.p ≤ i = high (λ h. h) in behind (i - b.p) (omega arith)

pub before_free : (b : Base) (p : ℕ) (a : ℕ → ℕ → ℤ) (f : ℕ) → ((i : ℕ) → i < b.p + p → on_top b a i f ≡ pos 0) → (i : ℕ) → i < b.p → b.a i f ≡ pos 0
unfolding on_top
before_free b p a f all i l = by (ltb i b.p) (lt→ltb i b.p l) (all i (omega arith))
  where
    by : (x : Bool) → T x → cond x (b.a i f) (a (i - b.p) f) ≡ pos 0 → b.a i f ≡ pos 0
    by true h e = e
    by false h e = absurd h

-- ---- an unknown that only its unit tuple has

module _ (cap p q : ℕ) (a : ℕ → ℕ → ℤ) (f : ℕ) (fq : f < q) (n : ℕ) (row : ℕ → ℕ → ℕ) (rows : Enumerates q (LoopInside cap p q a) n row) where
  unit_under : (s : ℕ → ℕ) → 0 < s f → AtOrBelow q (unit f) s
  unit_under s more j jq = elim (ℕ_discrete j f) [ yes e ↦ rw e (omega (arith, unit_same f)) | no ne ↦ omega (arith, unit_other f j ne) ]

  one_place : (x : ℕ → ℕ) → 0 < x f → total x q ≡ 1 → Same q x (unit f)
  one_place x some one j jq =
      elim (ℕ_discrete (unit f j) (x j)) [
        | yes e ↦ sym e
        | no ne ↦ absurd (omega (arith, total_less q (unit_under x some) j jq ne, total_unit f q fq))
      ]

  -- its unit tuple is a solution, so that no equation has it
  pub alone_free : T (is_alone q f n row) → (i : ℕ) → i < p → a i f ≡ pos 0
  unfolding is_alone
  alone_free h i l =
      let (some, all) = and_parts (any_to n (λ k. ltb 0 (row k f))) _ h in
      let (k, kn, has) = any_at n (λ k. ltb 0 (row k f)) some in
      let more = ltb→lt 0 (row k f) has in
      let one = degree_one (row k f) (total (row k) q) more (all_at n _ all k kn) in
      sym (value_unit (a i) f q fq) ∙ (sym (value_same (a i) q (one_place (row k) more one)) ∙ (rows.only k kn).holds.solution i l)
    where
      degree_one : (x d : ℕ) → 0 < x → T (eqb x 0 || eqb d 1) → d ≡ 1
      degree_one x d more h = by (eqb x 0) (λ g. omega (arith, eqb→eq x 0 g)) h
        where
          by : (c : Bool) → ¬ (T c) → T (c || eqb d 1) → d ≡ 1
          by true never h = absurd (never tt)
          by false never h = eqb→eq d 1 h

  -- and where no equation has it, it is so
  pub free_alone : ((i : ℕ) → i < p → a i f ≡ pos 0) → T (is_alone q f n row)
  unfolding is_alone
  free_alone free =
      and_both (any_to n (λ k. ltb 0 (row k f))) _
      (let (k, kn, e) = rows.all (unit f) minimal in any_from n (λ k. ltb 0 (row k f)) k kn (lt→ltb 0 (row k f) (omega (arith, e f fq, unit_same f))))
      (all_from n _ (λ k kn. each k kn (eqb (row k f) 0) (λ never. some k never)))
    where
      wanted : Wanted cap p q a (unit f)
      wanted =
          wanted_from cap p q a (λ i l. value_unit (a i) f q fq ∙ free i l) (f, fq, omega (arith, unit_same f))
          (inside_unit cap q f (unit f) fq (λ j jq. refl))

      minimal : LoopInside cap p q a (unit f)
      minimal =
          minimal_from wanted (λ s w b j jq.
          let (x, xq, h) = wanted_some cap p q a w in
          let is : x ≡ f = elim (ℕ_discrete x f) [ yes e ↦ e | no ne ↦ absurd (omega (arith, b x xq, unit_other f x ne)) ] in
          omega (arith, b j jq, unit_under s (rw is at h) j jq))

      some : (k : ℕ) → ¬ (T (eqb (row k f) 0)) → 0 < row k f
      some k never = elim (ℕ_discrete (row k f) 0) [ yes e ↦ absurd (never (rw e tt)) | no ne ↦ omega arith ]

      each : (k : ℕ) → k < n → (c : Bool) → (¬ (T c) → 0 < row k f) → T (c || eqb (total (row k) q) 1)
      each k kn true more = tt
      each k kn false more =
          let e = least (rows.only k kn) (unit f) wanted (unit_under (row k) (more (λ h. h))) in
          let d : total (row k) q ≡ 1 = sym (total_same (unit f) (row k) q e) ∙ total_unit f q fq in
          rw d tt

-- ---- no equations before, and all done

-- systems with the same solutions, of however many equations, have the same minimal solutions
module _ (cap : ℕ) {p p' q : ℕ} {a a' : ℕ → ℕ → ℤ} (there : (t : ℕ → ℕ) → Solution p q a t → Solution p' q a' t)
    (back : (t : ℕ → ℕ) → Solution p' q a' t → Solution p q a t) where
  wanted_there : (t : ℕ → ℕ) → Wanted cap p q a t → Wanted cap p' q a' t
  wanted_there t w = record { solution = there t w.solution; admitted = w.admitted }

  wanted_back : (t : ℕ → ℕ) → Wanted cap p' q a' t → Wanted cap p q a t
  wanted_back t w = record { solution = back t w.solution; admitted = w.admitted }

  pub enumerates_as : {n : ℕ} {row : ℕ → ℕ → ℕ} → Enumerates q (LoopInside cap p q a) n row
      → Enumerates q (LoopInside cap p' q a') n row
  enumerates_as {n} {row} e =
      record {
        only = λ i l. record {
          holds = wanted_there (row i) (e.only i l).holds;
          none_below = λ u w b. (e.only i l).none_below u (wanted_back u w) b;
        };
        once = e.once;
        all = λ t b. e.all t (record { holds = wanted_back t b.holds; none_below = λ u w l. b.none_below u (wanted_there u w) l });
      }

-- where there are none before, the minimal solutions are those of the equations behind
pub alone_enumerates : (cap p q : ℕ) (a : ℕ → ℕ → ℤ) {n : ℕ} {row : ℕ → ℕ → ℕ}
    → Enumerates q (LoopInside cap ((under cap).p + p) q (on_top (under cap) a)) n row → Enumerates q (LoopInside cap p q a) n row
alone_enumerates cap p q a =
    enumerates_as cap (λ t s. behind_solved (under cap) p q a t s) (λ t s. both_solved (under cap) p q a t (λ i l. absurd (omega arith)) s)

-- where all are done, the equations done ask what all ask
pub done_whole : (p q : ℕ) (a : ℕ → ℕ → ℤ) (done : ℕ) → ((i : ℕ) → i < p → T (frozen done i)) → Alike p q (among done a) a
done_whole p q a done all =
    record { there = λ t s i l. done_solved p q a done t s i l (all i l); back = λ t s. solved_done p q a done t (λ i l h. s i l) }
