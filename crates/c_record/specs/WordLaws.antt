-- The calls on a record of words, as the code goes about them; and that another number of words is refused with 6, after 1 to 4. (With a lower bound it is
-- after 5: c_walk/specs/LowerLaws.) Assumes nothing.
use Rattle.std.specs.Prelude.{ℕ, zero, suc, ◌^◌, ◌≤◌, ◌<◌, ◌≢◌, List, [], ◌∷◌, ◌≡◌, refl, ltb, length, get_or, Result, Ok, Err}
use Rattle.std.proofs.Common.{inl, inr, subst, ◌∙◌, arith, lit<}
use Rattle.std.proofs.Math.Path.{sym, ap}
use Rattle.std.proofs.Math.Decide.{ℕ_discrete}
use Rattle.std.proofs.Math.ListN.{set}
use borrow.Author.Tests.{le-ltb, lt-ltb, eq-eqb, ne_eqb}
use Rattle.definitions.specs.Answers.{Answer, Check, refuse, go, ◌then◌}
use Rattle.definitions.specs.Input.{Extra, Input, alone, rights, system_of, walk_system}
use Rattle.definitions.specs.Machine.{Outcome, call, checked, walk}
use Rattle.definitions.specs.System.{most_unknowns}
use Rattle.linear.proofs.Cases.{split}
use Rattle.definitions.specs.Tables.{Record, State, run_number}
use Rattle.definitions.specs.Refusals.{check1, check4, check6, most_for, numbers_check, range_checks, resume_checks, shape_then, unknowns_check}
use Rattle.definitions.specs.Calls.{machine, resume}
use Rattle.laws.proofs.AnswerLaws.{then_go}
use Rattle.laws.proofs.CheckLaws.{refuse_not_go}
use Rattle.laws.specs.RefusalLaws.{high}
use Rattle.laws.proofs.RefusalLaws.{decides_order}
use Rattle.calls.specs.Paper.{check_of, kind_of, number_of, run_of, state_with, values_of}
use Rattle.calls.specs.declared.Refusal.{Refusal}
use Rattle.calls.specs.declared.RunKind.TheVariants.{LowerAbove}
use Rattle.c_record.specs.Codes.{code, refusal_code}
use Rattle.c_record.specs.CodeLaws.{Small, small_resume, within}
use Rattle.c_record.specs.Words.{height_if, kind_at, record_at, record_in, start_on, told, told_both, words_left, words_of}

-- ---- reading and writing the words

pub record_fitting : (words : List ℕ) → length words ≡ 7
    → record_at (get_or words 0 0) (get_or words 1 0) (get_or words 2 0) (get_or words 3 0) (get_or words 4 0) (get_or words 5 0) (get_or words 6 0)
    ≡ record_in words
unfolding record_in
record_fitting words e = rw (eq-eqb (length words) 7 e)

pub record_misfit : (words : List ℕ) → length words ≢ 7 → record_at 65 0 0 0 0 0 0 ≡ record_in words
unfolding record_in
record_misfit words ne = rw (ne_eqb (length words) 7 ne)

-- the height that is read: that of the words where the number is a kind's
pub height_low : (kind height : ℕ) → kind < 5 → height ≡ height_if (ltb kind 5) height
height_low kind height l = rw (lt-ltb kind 5 l)

pub height_none : (kind height : ℕ) → 5 ≤ kind → 65 ≡ height_if (ltb kind 5) height
height_none kind height l = rw (le-ltb kind 5 l)

pub words_fitting : (words : List ℕ) (r : Record) → length words ≡ 7 → r.height < 65 → words_of words r ≡ words_left words r
unfolding words_left
words_fitting words r e l = rw (eq-eqb (length words) 7 e, lt-ltb r.height 65 l)

pub words_high : (words : List ℕ) (r : Record) → length words ≡ 7 → 65 ≤ r.height → words ≡ words_left words r
unfolding words_left
words_high words r e l = rw (eq-eqb (length words) 7 e, le-ltb r.height 65 l)

pub words_misfit : (words : List ℕ) (r : Record) → length words ≢ 7 → words ≡ words_left words r
unfolding words_left
words_misfit words r ne = rw (ne_eqb (length words) 7 ne)

-- a call that is refused before its walk leaves the record that was read, and so the words
pub set_own : (xs : List ℕ) (i : ℕ) → i < length xs → set xs i (get_or xs i 0) ≡ xs
set_own [] i l = absurd (omega arith)
set_own (x ∷ xs) zero l = refl
set_own (x ∷ xs) (suc i) l = ap (λ ys. x ∷ ys) (set_own xs i (omega arith))

pub kind_number : (k : ℕ) → k < 5 → run_number (kind_of (kind_at k)) ≡ k
kind_number zero l = refl
kind_number (suc zero) l = refl
kind_number (suc (suc zero)) l = refl
kind_number (suc (suc (suc zero))) l = refl
kind_number (suc (suc (suc (suc zero)))) l = refl
kind_number (suc (suc (suc (suc (suc k))))) l = absurd (omega arith)

pub kind_none : (k : ℕ) → 5 ≤ k → kind_at k ≡ LowerAbove
kind_none k l =
    let other : (n : ℕ) → n < 5 → k ≢ n = λ n h e. omega arith in
    rw (ne_eqb k 0 (other 0 (lit< tt)), ne_eqb k 1 (other 1 (lit< tt)), ne_eqb k 2 (other 2 (lit< tt)), ne_eqb k 4 (other 4 (lit< tt)))

module _ (words : List ℕ) (e : length words ≡ 7) where
  own_words : get_or words 3 0 < 5 → words_of words (run_of (record_in words)) ≡ words
  unfolding record_in
  own_words l =
      let own : (i : ℕ) → i < 7 → set words i (get_or words i 0) ≡ words = λ i h. set_own words i (rw e h) in
      rw (eq-eqb (length words) 7 e, lt-ltb (get_or words 3 0) 5 l, kind_number (get_or words 3 0) l)
      (rw (own 0 (lit< tt), own 1 (lit< tt), own 2 (lit< tt), own 3 (lit< tt), own 4 (lit< tt), own 5 (lit< tt), own 6 (lit< tt)))

  high_words : 5 ≤ get_or words 3 0 → (run_of (record_in words)).height ≡ 65
  unfolding record_in
  high_words l = rw (eq-eqb (length words) 7 e, le-ltb (get_or words 3 0) 5 l)

  kept_record : words_left words (run_of (record_in words)) ≡ words
  kept_record =
      let r : Record = run_of (record_in words) in
      elim (split (get_or words 3 0) 5) [
        | inr l ↦ sym (words_high words r e (omega (arith, high_words l)))
        | inl l ↦ elim (split r.height 65) [
          | inl h ↦ sym (words_fitting words r e h) ∙ own_words l
          | inr h ↦ sym (words_high words r e h)
        ]
      ]

pub kept_words : (words : List ℕ) → words_left words (run_of (record_in words)) ≡ words
kept_words words = elim (ℕ_discrete (length words) 7) [ yes e ↦ kept_record words e | no ne ↦ sym (words_misfit words (run_of (record_in words)) ne) ]

-- ---- what a call by value answered and left

module _ (words : List ℕ) {answer : Answer} {r : Record} {stack list second left : List ℕ} {whole : Outcome State} {a : ℕ}
    (e : ◌≡◌ {A = Outcome State} (record { answer = answer; state = record { stack = stack; list = list; second = second; run = r } }) whole)
    (d : a ≡ code answer)
    (l : left ≡ words_left words r) where
  pub call_told : (a, (stack, (list, left))) ≡ told words whole
  call_told = rw (← e, d, l)

  pub both_told : (a, (stack, (list, (second, left)))) ≡ told_both words whole
  both_told = rw (← e, d, l)

-- ---- a start, by the number of words: what it begins, or what the continuing call is told

module _ (words : List ℕ) {answer : Answer} {r : Record} {stack list second left : List ℕ} {begun : Outcome State} {a : ℕ}
    (e : ◌≡◌ {A = Outcome State} (record { answer = answer; state = record { stack = stack; list = list; second = second; run = r } }) begun)
    (fits : length words ≡ 7) (d : a ≡ code answer) (l : left ≡ words_left words r) (misfit : Outcome State) where
  begun_fitting : begun ≡ start_on words begun misfit
  unfolding start_on
  begun_fitting = rw (eq-eqb (length words) 7 fits)

  pub start_told : (a, (stack, (list, left))) ≡ told words (start_on words begun misfit)
  start_told = call_told words (e ∙ begun_fitting) d l

  pub start_both_told : (a, (stack, (list, (second, left)))) ≡ told_both words (start_on words begun misfit)
  start_both_told = both_told words (e ∙ begun_fitting) d l

module _ (words : List ℕ) (begun misfit : Outcome State) where
  -- in whatever form it is told
  pub told_misfit : {A : Type 0} (tell : Outcome State → A) {a : A} → a ≡ tell misfit → length words ≢ 7 → a ≡ tell (start_on words begun misfit)
  unfolding start_on
  told_misfit tell e ne = rw (ne_eqb (length words) 7 ne) e

-- ---- another number of words: "6: run record or tables out of order"

pub then_same : (c d e : Check) → (c ≡ go → d ≡ e) → c then d ≡ c then e
unfolding ◌then◌
then_same (refuse n values) d e h = refl
then_same go d e h = h refl

disordered : (m : Input) (s : State) → (system_of m).q < s.run.height → (check6 (system_of m) s then range_checks m.extra m) ≡ refuse 6 []
unfolding ◌then◌
disordered m s h = rw ((decides_order (system_of m) s).due 6 [] (refl, refl, high h))

-- a walk has one unknown more than the map, or none
walk_few : (e : Extra) (m : Input) → m.q ≤ most_for e → (walk_system e m).q ≤ most_unknowns
walk_few alone m l = l
walk_few (rights b) m l = omega arith

module _ (words : List ℕ) (m : Input) (stack list second : List ℕ) (ne : length words ≢ 7) where
  abbrev lent : State
  lent = state_with stack list second (record_in words)

  misfit_checks_lem : resume_checks m lent ≡ shape_then m lent (refuse 6 [])
  unfolding resume_checks record_in
  misfit_checks_lem =
      let above : (system_of m).q ≤ most_unknowns → (system_of m).q < lent.run.height = λ l. rw (ne_eqb (length words) 7 ne) (omega arith) in
      then_same (check1 m) _ _ (λ _.
      then_same (unknowns_check m) _ _ (λ b.
      then_same (numbers_check m) _ _ (λ _.
      then_same (check4 (system_of m) lent) _ _ (λ _. disordered m lent (above (walk_few m.extra m (within _ _ _ _ b)))))))

  -- "Refusals 1 to 8 are checked in rising number": the first of 1 to 4 that is due, or else 6, and nothing lent is changed
  pub misfit_refused : (budget : ℕ) → resume budget m lent ≡ checked (shape_then m lent (refuse 6 [])) lent (walk budget (machine m))
  unfolding call
  misfit_refused budget = ap (λ c. checked c lent (walk budget (machine m))) misfit_checks_lem

  -- ---- the same from a check of the code

  module _ {k : Result (Unit {0}) Refusal} (e : check_of k ≡ resume_checks m lent) where
    pub misfit_never_passes : {x : Unit {0}} → k ≡ Ok x → ⊥
    misfit_never_passes h =
        let a = sym misfit_checks_lem ∙ sym e ∙ ap check_of h in
        let b = (then_go _ _ (then_go _ _ (then_go _ _ a).1).1).1 in
        refuse_not_go (then_go _ _ b).1

    module _ {why : Refusal} (h : k ≡ Err why) where
      refuses : resume_checks m lent ≡ refuse (number_of why) (values_of why)
      refuses = sym e ∙ ap check_of h

      pub misfit_fits : refusal_code (number_of why) (values_of why) < 2 ^ 64
      misfit_fits = subst Small refuses (small_resume m lent)

      pub misfit_told : (budget : ℕ) {a : ℕ} → a ≡ refusal_code (number_of why) (values_of why) → (a, (stack, (list, words)))
          ≡ told words (resume budget m lent)
      unfolding call checked
      misfit_told budget d =
          (λ i. (d i, (stack, (list, sym (kept_words words) i))))
          ∙ ap (λ c. told words (checked c lent (walk budget (machine m)))) (sym refuses)
