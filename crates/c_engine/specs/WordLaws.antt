-- The engine's calls on a record of words, as the code goes about them; a call that is refused leaves the words; and other words are refused with 6, after what
-- is checked before it. Assumes nothing.
use Rattle.std.specs.Prelude.{Result as Checking, Ok, Err, ℕ, zero, suc, ◌+◌, ◌*◌, ◌^◌, ◌<◌, ◌≤◌, Bool, true, not, ◌&&◌, cond, ◌≢◌, ◌≡◌, T, eqb, ltb, ℤ, length}
use Rattle.std.specs.Prelude.{get_or, set}
use Rattle.std.proofs.Math.Bool.{false}
use mathlib.Core.List.{List, [], ◌∷◌}
use Rattle.std.proofs.Math.Path.{refl, ap}
use Rattle.std.proofs.Common.{sym, subst, ◌∙◌, arith, eq-eqb, le-ltb, lt-ltb, ne_eqb, lit<}
use Rattle.std.proofs.Math.Decide.{ℕ_discrete}
use Rattle.std.proofs.Math.Dec.{leb}
use Rattle.definitions.specs.Answers.{Check, go, refuse, refuse_first, refuse_if, refuse_with, started, ◌then◌}
use Rattle.definitions.specs.Refusals.{step_limit}
use Rattle.calls.specs.Paper.{answer_of, check_of, number_of, values_of}
use Rattle.calls.specs.declared.Refusal.{Refusal}
use Rattle.c_record.specs.CodeLaws.{Fits}
use Rattle.c_record.specs.Codes.{code, refusal_code}
use Rattle.c_record.specs.WordLaws.{set_own}
use Rattle.engine_spec.specs.Calls as calls
use Rattle.engine_spec.specs.StartSides.{sides_checks, sides_system, start_sides}
use Rattle.laws.proofs.AnswerLaws.{then_assoc}
use Rattle.laws.proofs.CheckLaws.{refuse_not_go}
use Rattle.engine_spec.specs.Engine.{Result, Work, begun, begun_from, begun_from_under, begun_under, result}
use Rattle.engine_beside.specs.Records.{outcome_of, work_of}
use Rattle.engine_beside.specs.declared.Outcome.{Outcome}
use Rattle.engine_beside.specs.declared.Record.{Record}
use Rattle.engine_checks.specs.Room.{basis_rows}
use Rattle.engine_checks.specs.Sides.{shape_checks}
use Rattle.engine_checks.specs.Sizes.{size_checks}
use Rattle.engine_checks.specs.Standing.{start_checks_lem, start_from_checks_lem, start_checks_by, start_from_checks_by}
use Rattle.c_engine.specs.Words.{is_record, misfit, misfit_checks, misfit_list_checks, record_if, record_in, record_left, start_from_words, start_words, told}
use Rattle.c_engine.specs.Words.{misfit_sides_checks, start_sides_words, words_if, words_left, work_in}

-- ---- which words are a record

pub fits_short : (words : List ℕ) → length words ≢ 11 → false ≡ is_record words
unfolding is_record
fits_short words ne = rw (ne_eqb (length words) 11 ne)

pub fits_by : (words : List ℕ) {b : Bool} → length words ≡ 11 → b ≡ ltb (get_or words 0 0) (2 ^ 32) → b ≡ is_record words
unfolding is_record
fits_by words e f = rw (eq-eqb (length words) 11 e) f

-- ---- reading and writing the words

pub record_in_lem : (words : List ℕ) → length words ≡ 11 → get_or words 0 0 < 2 ^ 32 → record_if true words ≡ record_in words
unfolding record_in is_record
record_in_lem words e l = rw (eq-eqb (length words) 11 e, lt-ltb (get_or words 0 0) (2 ^ 32) l)

pub record_large : (words : List ℕ) → length words ≡ 11 → 2 ^ 32 ≤ get_or words 0 0 → record_if false words ≡ record_in words
unfolding record_in is_record
record_large words e l = rw (eq-eqb (length words) 11 e, le-ltb (get_or words 0 0) (2 ^ 32) l)

pub record_short : (words : List ℕ) → length words ≢ 11 → record_if false words ≡ record_in words
unfolding record_in is_record
record_short words ne = rw (ne_eqb (length words) 11 ne)

record_long : (b : Bool) (n : ℕ) → (eqb n 11 && b) ≡ true → n ≡ 11
record_long b n e = elim (ℕ_discrete n 11) [ yes h ↦ h | no ne ↦ absurd (subst T (sym e ∙ ap (λ x. x && b) (ne_eqb n 11 ne)) tt) ]

module _ (words : List ℕ) {b : Bool} (e : b ≡ is_record words) where
  pub long_by : b ≡ true → length words ≡ 11
  unfolding is_record
  long_by t = record_long (ltb (get_or words 0 0) (2 ^ 32)) (length words) (sym e ∙ t)

  pub written : (r : Record) → b ≡ true → words_if true words r ≡ words_left words r
  unfolding words_left
  written r t = rw (← e, t)

  pub unwritten : (r : Record) → b ≡ false → words ≡ words_left words r
  unfolding words_left
  unwritten r t = rw (← e, t)

-- a call that is refused before its work leaves the record that was read, and so the words
own_words : (words : List ℕ) → length words ≡ 11 → words_if true words (record_if true words) ≡ words
own_words words e =
    let own : (i : ℕ) → i < 11 → set words i (get_or words i 0) ≡ words = λ i h. set_own words i (rw e h) in
    rw (
      own 0 (lit< tt),
      own 1 (lit< tt),
      own 2 (lit< tt),
      own 3 (lit< tt),
      own 4 (lit< tt),
      own 5 (lit< tt),
      own 6 (lit< tt),
      own 7 (lit< tt),
      own 8 (lit< tt),
      own 9 (lit< tt),
      own 10 (lit< tt),
    )

pub kept_words : (words : List ℕ) → words_left words (record_in words) ≡ words
unfolding words_left record_in
kept_words words = by (is_record words) refl
  where
    by : (b : Bool) → b ≡ is_record words → words_if b words (record_if b words) ≡ words
    by true e = own_words words (long_by words e refl)
    by false e = refl

-- ---- what a call by value answered and left

pub answer_fits : (o : Outcome) {equations : List ℤ} {basis table : List ℕ} {whole : Result} → outcome_of o equations basis table ≡ whole → Fits whole.answer
    → Fits (answer_of o.answer)
answer_fits o e h = rw (← e) at h

pub call_told : (words : List ℕ) (o : Outcome) {equations : List ℤ} {basis table left : List ℕ} {whole : Result} {a : ℕ}
    → outcome_of o equations basis table ≡ whole
    → a ≡ code (answer_of o.answer) → left ≡ words_left words o.run → (a, (equations, (basis, (table, left)))) ≡ told words whole
call_told words o e d l = rw (← e, d, l)

-- ---- other words: 6, after what is checked before it

past_limit : (words : List ℕ) → is_record words ≡ false → (record_in words).steps.0 ≡ step_limit + 1
unfolding record_in
past_limit words other = rw other

and_false : (b c : Bool) → c ≡ false → (b && c) ≡ false
and_false true c e = e
and_false false c e = refl

module _ (p q most room : ℕ) (equations : List ℤ) (basis table words : List ℕ) (other : is_record words ≡ false) where
  abbrev lent : Work
  lent = work_in equations basis table words

  disordered : calls.in_order p q most room lent ≡ false
  unfolding calls.in_order
  disordered =
      let steps : leb lent.stage.steps step_limit ≡ false = rw (past_limit words other) in
      rw steps (and_false (leb lent.count most && leb lent.stage.rows room) false refl)

  pub misfit_standing : (own : Check)
      → calls.standing_then p q most room lent own ≡ calls.check1 p then calls.check2 q then calls.check4 p q most lent then refuse 6 []
  unfolding refuse_with ◌then◌
  misfit_standing own = rw disordered

-- ---- a start whose words are no record

-- 7 and no refusal give way to 6
unfoldable pub instead : Check → Check
instead (refuse n values) = cond (eqb n 7) (refuse 6 []) (refuse n [])
instead go = refuse 6 []

-- the number that tells of a check
abbrev pub check_code : Check → ℕ
check_code (refuse n values) = refusal_code n values
check_code go = code started

instead_then : (b : Bool) (n : ℕ) (c : Check) → eqb n 7 ≡ false → instead (refuse_if b n then c) ≡ refuse_if b n then instead c
unfolding instead refuse_with ◌then◌
instead_then true n c e = rw e
instead_then false n c e = refl

instead_first : (k : ℕ) (f : ℕ → Bool) → instead (refuse_first 7 k f) ≡ refuse 6 []
unfolding refuse_first instead refuse_with ◌then◌
instead_first zero f = refl
instead_first (suc k) f = by (refuse_first 7 k f) (f k) (instead_first k f)
  where
    by : (c : Check) (b : Bool) → instead c ≡ refuse 6 [] → instead (c then refuse_with b 7 (suc k ∷ [])) ≡ refuse 6 []
    by (refuse n values) b h = h
    by go true h = refl
    by go false h = refl

pub misfit_checks_lem : (p q : ℕ) (coefs : List ℤ) (most : ℕ) (w : Work) → instead (calls.start_checks p q coefs most w) ≡ misfit_checks p q coefs most w
unfolding calls.start_checks
misfit_checks_lem p q coefs most w =
    instead_then _ 1 _ refl
    ∙ ap (λ c. calls.check1 p then c)
    (instead_then _ 2 _ refl
    ∙ ap (λ c. calls.check2 q then c)
    (instead_then _ 3 _ refl
    ∙ ap (λ c. calls.check3 p q coefs then c)
    (instead_then _ 4 _ refl ∙ ap (λ c. calls.check4 p q most w then c) (instead_first (p * q) _))))

instead_list : (b : Bool) (c : Check) → instead c ≡ refuse 6 [] → instead (refuse_if b 6 then c) ≡ refuse 6 []
unfolding instead refuse_with ◌then◌
instead_list true c h = refl
instead_list false c h = h

-- of a start from a list: 6 is due of the words, whatever the rows are
pub misfit_list_checks_lem : (p q : ℕ) (coefs : List ℤ) (n : ℕ) (rows : List ℕ) (most : ℕ) (w : Work)
    → instead (calls.start_from_checks p q coefs n rows most w) ≡ misfit_list_checks p q coefs n most w
unfolding calls.start_from_checks
misfit_list_checks_lem p q coefs n rows most w =
    instead_then _ 1 _ refl
    ∙ ap (λ c. calls.check1 p then c)
    (instead_then _ 2 _ refl
    ∙ ap (λ c. calls.check2 q then c)
    (instead_then _ 3 _ refl
    ∙ ap (λ c. calls.check3 p q coefs then c)
    (instead_then _ 4 _ refl
    ∙ ap (λ c. calls.check4 p q most w then c)
    (instead_then _ 4 _ refl
    ∙ ap (λ c. refuse_if (ltb most n) 4 then c) (instead_list (not (calls.is_list q n rows)) (calls.check7 p q coefs) (instead_first (p * q) _))))))

-- from the check of the code
pub refused_first : {k : Checking (Unit {0}) Refusal} {c : Check} {why : Refusal} → check_of k ≡ c → k ≡ Err why
    → instead (refuse (number_of why) (values_of why)) ≡ instead c
refused_first e h = ap instead (sym (ap check_of h) ∙ e)

pub passed_first : {k : Checking (Unit {0}) Refusal} {c : Check} → check_of k ≡ c → {nothing : Unit {0}} → k ≡ Ok nothing → check_code (instead c) ≡ 6
unfolding instead
passed_first e h = rw (← e, h)

pub place_instead : (n : ℕ) (values : List ℕ) → n ≡ 7 → 6 ≡ check_code (instead (refuse n values))
unfolding instead
place_instead n values e = rw (eq-eqb n 7 e)

pub number_instead : (n : ℕ) (values : List ℕ) → n ≢ 7 → n ≡ check_code (instead (refuse n values))
unfolding instead
number_instead n values ne = rw (ne_eqb n 7 ne) (omega arith)

misfit_by : (equations : List ℤ) (basis words : List ℕ) (c : Check)
    → (check_code c, (equations, (basis, ([], words)))) ≡ told words (misfit c (work_in equations basis [] words))
unfolding misfit calls.checked
misfit_by equations basis words (refuse n values) = rw (kept_words words)
misfit_by equations basis words go = rw (kept_words words)

module _ (p q : ℕ) (coefs : List ℤ) (most : ℕ) (equations : List ℤ) (basis words : List ℕ) {b : Bool} (e : b ≡ is_record words) where
  abbrev fresh : Work
  fresh = work_in equations basis [] words

  pub start_misfit : b ≡ false → {a : ℕ} → a ≡ check_code (instead (start_checks_by p q coefs most (length equations)))
      → (a, (equations, (basis, ([], words)))) ≡ told words (start_words p q coefs most equations basis words)
  unfolding start_words
  start_misfit t h =
      let checks = ap instead (start_checks_lem p q coefs most fresh) ∙ misfit_checks_lem p q coefs most fresh in
      rw (← e, t) (ap (λ n. (n, (equations, (basis, ([], words))))) (h ∙ ap check_code checks)
      ∙ misfit_by equations basis words (misfit_checks p q coefs most fresh))

  pub start_fitting : b ≡ true → calls.start p q coefs most (work_in equations basis [] words) ≡ start_words p q coefs most equations basis words
  unfolding start_words
  start_fitting t = rw (← e, t)

  module _ (n : ℕ) (rows : List ℕ) where
    pub list_misfit : b ≡ false → {a : ℕ} → a ≡ check_code (instead (start_from_checks_by p q coefs n rows most (length equations)))
        → (a, (equations, (basis, ([], words)))) ≡ told words (start_from_words p q coefs n rows most equations basis words)
    unfolding start_from_words
    list_misfit t h =
        let checks = ap instead (start_from_checks_lem p q coefs n rows most fresh) ∙ misfit_list_checks_lem p q coefs n rows most fresh in
        rw (← e, t) (ap (λ a. (a, (equations, (basis, ([], words))))) (h ∙ ap check_code checks)
        ∙ misfit_by equations basis words (misfit_list_checks p q coefs n most fresh))

    pub list_fitting : b ≡ true
        → calls.start_from p q coefs n rows most (work_in equations basis [] words) ≡ start_from_words p q coefs n rows most equations basis words
    unfolding start_from_words
    list_fitting t = rw (← e, t)

-- ---- of a start for right sides and lower bounds

-- a check whose refusals come with no value
abbrev Bare : Check → Type 0
Bare c = (n : ℕ) (values : List ℕ) → c ≡ refuse n values → values ≡ []

bare_if : (b : Bool) (m : ℕ) → Bare (refuse_if b m)
unfolding refuse_with
bare_if true m n values e = cc
bare_if false m n values e = absurd (refuse_not_go (sym e))

bare_then : (c d : Check) → Bare c → Bare d → Bare (c then d)
unfolding ◌then◌
bare_then (refuse n values) d x y = x
bare_then go d x y = y

shape_bare : (p q coefs rights lower numbers basis sizes : ℕ) → Bare (shape_checks p q coefs rights lower numbers basis sizes)
unfolding shape_checks size_checks
shape_bare p q coefs rights lower numbers basis sizes =
    bare_then _ _ (bare_then _ _ (bare_if _ 1) (bare_if _ 2))
    (bare_then _ _ (bare_if _ 2) (bare_then _ _ (bare_if _ 3) (bare_then _ _ (bare_if _ 3) (bare_then _ _ (bare_if _ 4) (bare_if _ 5)))))

pub shape_refused : (p q coefs rights lower numbers basis sizes : ℕ) {k : Checking (Unit {0}) Refusal} {why : Refusal}
    → check_of k ≡ shape_checks p q coefs rights lower numbers basis sizes → k ≡ Err why
    → number_of why ≡ check_code (shape_checks p q coefs rights lower numbers basis sizes then refuse 6 [])
unfolding ◌then◌
shape_refused p q coefs rights lower numbers basis sizes {why = why} e h =
    let none : values_of why ≡ [] = shape_bare p q coefs rights lower numbers basis sizes (number_of why) (values_of why) (sym e ∙ ap check_of h) in
    rw (← e, h, none) (omega arith)

pub shape_passed : {k : Checking (Unit {0}) Refusal} {c : Check} → check_of k ≡ c → {nothing : Unit {0}} → k ≡ Ok nothing → 6 ≡ check_code (c then refuse 6 [])
unfolding ◌then◌
shape_passed e h = rw (← e, h)

module _ (p q : ℕ) (coefs rights : List ℤ) (lower : List ℕ) (equations : List ℤ) (basis words : List ℕ) (sizes : ℕ) {b : Bool} (e : b ≡ is_record words) where
  abbrev most : ℕ
  most = basis_rows (suc q) (length basis) sizes

  pub sides_misfit : b ≡ false → {a : ℕ}
      → a ≡ check_code (shape_checks p q (length coefs) (length rights) (length lower) (length equations) (length basis) sizes then refuse 6 [])
      → (a, (equations, (basis, ([], words)))) ≡ told words (start_sides_words p q coefs rights lower most equations basis words)
  unfolding start_sides_words shape_checks size_checks
  sides_misfit t h =
      let w = work_in equations basis [] words in
      let checks : shape_checks p q (length coefs) (length rights) (length lower) (length equations) (length basis) sizes then refuse 6 []
      ≡ misfit_sides_checks p q coefs rights lower most w = simp then_assoc in
      rw (← e, t) (ap (λ n. (n, (equations, (basis, ([], words))))) (h ∙ ap check_code checks)
      ∙ misfit_by equations basis words (misfit_sides_checks p q coefs rights lower most w))

pub sides_fitting : (p q : ℕ) (coefs rights : List ℤ) (lower : List ℕ) (most : ℕ) (equations : List ℤ) (basis words : List ℕ) {b : Bool}
    → b ≡ is_record words → b ≡ true
    → start_sides p q coefs rights lower most (work_in equations basis [] words) ≡ start_sides_words p q coefs rights lower most equations basis words
unfolding start_sides_words
sides_fitting p q coefs rights lower most equations basis words e t = rw (← e, t)

-- a start looks at no table of the stage
abbrev without_table : Result → Result
without_table o = result o.answer (work_of o.work.equations o.work.basis [] (record_left o.work))

module _ (p q : ℕ) (coefs : List ℤ) (most : ℕ) (equations : List ℤ) (basis table : List ℕ) (r : Record) where
  abbrev lent_none : Work
  lent_none = work_of equations basis [] r

  abbrev lent_table : Work
  lent_table = work_of equations basis table r

  without : (begins : Work → Work) → without_table (result started (begins lent_table)) ≡ result started (begins lent_none) → (c : Check)
      → without_table (calls.checked c lent_table (λ v. result started (begins v))) ≡ calls.checked c lent_none (λ v. result started (begins v))
  unfolding calls.checked
  without begins h (refuse n values) = refl
  without begins h go = h

  pub start_without : (o : Outcome) {equations' : List ℤ} {basis' : List ℕ} → outcome_of o equations' basis' table ≡ calls.start p q coefs most lent_table
      → outcome_of o equations' basis' [] ≡ calls.start p q coefs most lent_none
  unfolding calls.start_under calls.start_checks
  start_without o e = ap without_table e ∙ without (begun p q coefs) (unfold begun_under in refl) (calls.start_checks p q coefs most lent_table)

  pub sides_without : (rights : List ℤ) (lower : List ℕ) (o : Outcome) {equations' : List ℤ} {basis' : List ℕ}
      → outcome_of o equations' basis' table ≡ start_sides p q coefs rights lower most lent_table
      → outcome_of o equations' basis' [] ≡ start_sides p q coefs rights lower most lent_none
  unfolding start_sides sides_checks
  sides_without rights lower o e =
      ap without_table e
      ∙ without (begun_under 1 p (suc q) (sides_system p q coefs rights lower)) (unfold begun_under in refl)
      (sides_checks p q coefs rights lower most lent_table)

  pub list_without : (n : ℕ) (rows : List ℕ) (o : Outcome) {equations' : List ℤ} {basis' : List ℕ}
      → outcome_of o equations' basis' table ≡ calls.start_from p q coefs n rows most lent_table
      → outcome_of o equations' basis' [] ≡ calls.start_from p q coefs n rows most lent_none
  unfolding calls.start_from_under calls.start_from_checks
  list_without n rows o e =
      ap without_table e ∙ without (begun_from p q coefs n rows) (unfold begun_from_under in refl) (calls.start_from_checks p q coefs n rows most lent_table)
