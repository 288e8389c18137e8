-- Theorems about what specs/WordLaws.antt defines. Assumes nothing.
use Rattle.std.specs.Prelude.{ℕ, zero, suc, ◌+◌, ◌*◌, ◌≤◌, ◌<◌, ◌≡◌, refl, ◌≢◌, Bool, true, false, List, ltb, ℤ, length, get_or, set, Result, Ok, Err}
use Rattle.std.proofs.Common.{sym, subst, ap, ◌∙◌, inl, inr, add-one, arith, lt-ltb, le-ltb, eq-eqb, ne_eqb, length-set}
use Rattle.std.proofs.Math.Path.{fun_ext}
use Rattle.std.proofs.Math.Option.{none}
use Rattle.std.proofs.Math.Decide.{ℕ_discrete}
use Rattle.std.proofs.Math.ListN.{get_or-eq_default}
use Rattle.linear.proofs.Cases.{split}
use Rattle.definitions.specs.Answers as paper
use Rattle.definitions.specs.Tables as tables
use Rattle.calls.specs.Paper.{answer_of, kind_of, run_of}
use Rattle.calls.specs.declared.Outcome.{Outcome}
use Rattle.calls.specs.declared.Record.{Record}
use Rattle.dispatch_spec.proofs.CheckRules.{accepted}
use Rattle.dispatch_spec.specs.Dispatch as form
use Rattle.dispatch_spec.specs.Dispatch.{dispatch, dispatch_checks, in_round, opened}
use Rattle.dispatch.specs.Entry.{Returns, handed}
use Rattle.dispatch.specs.Filling.{Filled}
use Rattle.dispatch.specs.Form.{fault_of, no_outcome, no_record, no_share, schedule_for, share_for, verdict_of}
use Rattle.dispatch.specs.declared.types.Dispatched.{Dispatched}
use Rattle.dispatch.specs.declared.types.Fault.{Fault}
use Rattle.dispatch.specs.declared.types.Share.{Share}
use Rattle.c_record.specs.WordLaws.{kind_none, kind_number, set_own}
use Rattle.c_dispatch.specs.Words.{base, dispatch_words, last_in, record_in, records_in, round_in, run_at}
use Rattle.c_dispatch.specs.Words.{schedule_in, share_in, shares_in, told, write_counts, write_if, write_others, write_record, write_run, write_runs}
use Rattle.c_dispatch.specs.WordLaws.{Fitting, Writing, left_by, served, served_by, told_by}

-- ---- reading

-- "round the unfinished runs (height above 0)": a run is in the round as a call begins where the word of its height is above 0, whatever its other words are
pub unfinished_words : (stack list words : List ℕ) (i : ℕ) → i < 8 → in_round (opened (round_in stack list words)) i ≡ ltb 0 (get_or words (base i) 0)
unfolding opened records_in record_in
unfinished_words stack list words i l = rw (lt-ltb i 8 l)

-- and one whose kind is no kind's number is no plain run's: "6: run record or tables out of order"
pub no_kind_words : (words : List ℕ) (i : ℕ) → i < 8 → 5 ≤ get_or words (base i + 3) 0 → (run_of (records_in words i)).kind ≡ tables.lower_above
unfolding records_in record_in
no_kind_words words i l h = rw (lt-ltb i 8 l) (ap kind_of (kind_none (get_or words (base i + 3) 0) h))

pub last_round : (words : List ℕ) → length words ≡ 74 → get_or words 0 0 ≡ last_in words
unfolding last_in
last_round words e = rw (eq-eqb (length words) 74 e)

pub last_other : (words : List ℕ) → length words ≢ 74 → 9 ≡ last_in words
unfolding last_in
last_other words ne = rw (ne_eqb (length words) 74 ne)

shares_at : (words : List ℕ) {all : List Share} → Filled 8 (share_in words) no_share all 8 → (i : ℕ) → get_or all i no_share ≡ shares_in words i
unfolding shares_in
shares_at words {all} f i =
    elim (split i 8) [
      | inl l ↦ rw (lt-ltb i 8 l) (f.same i l)
      | inr l ↦ let short : length all ≤ i = omega (arith, f.long) in rw (le-ltb i 8 l) (get_or-eq_default all no_share short)
    ]

records_at : (words : List ℕ) {all : List Record} → Filled 8 (record_in words) no_record all 8 → (i : ℕ) → get_or all i no_record ≡ records_in words i
unfolding records_in
records_at words {all} f i =
    elim (split i 8) [
      | inl l ↦ rw (lt-ltb i 8 l) (f.same i l)
      | inr l ↦ let short : length all ≤ i = omega (arith, f.long) in rw (le-ltb i 8 l) (get_or-eq_default all no_record short)
    ]

module _ (count quantum : ℕ) (shares : List ℕ) (coefs : List ℤ) (stack list words : List ℕ) {all : List Share} {records : List Record}
    (f : Filled 8 (share_in shares) no_share all 8) (g : Filled 8 (record_in words) no_record records 8) {last : ℕ} (e : last ≡ last_in words) where
  schedule_is : schedule_for count all coefs quantum ≡ schedule_in count quantum shares coefs
  schedule_is = ap (λ (h : ℕ → Share). record { count = count; shares = λ i. share_for (h i) coefs; quantum = quantum }) (fun_ext (shares_at shares f))

  round_is : handed stack list records last ≡ round_in stack list words
  round_is =
      rw e (ap (λ (h : ℕ → Record). record { stack = stack; list = list; progress = λ i. record { run = run_of (h i); answer = none }; last = last_in words })
      (fun_ext (records_at words g)))

  pub dispatch_is : (turns : ℕ)
      → dispatch turns (schedule_for count all coefs quantum) (handed stack list records last)
      ≡ dispatch turns (schedule_in count quantum shares coefs) (round_in stack list words)
  dispatch_is turns = rw (schedule_is, round_is)

pub fitting_pass : (words : List ℕ) {v : Result (Unit {0}) Fault} {x : Unit {0}} → v ≡ Ok x → Fitting v words → length words ≡ 74
fitting_pass words e h = rw e at h

module _ (words : List ℕ) (d : Dispatched) {v : Result (Unit {0}) Fault} where
  pub told_refused : {why : Fault} → v ≡ Err why → {a : ℕ} → a ≡ fault_of why → (a, words) ≡ told_by v words d
  told_refused e q = rw (e, q)

  pub told_served : {x : Unit {0}} → v ≡ Ok x → {left : List ℕ} → left ≡ served_by words d → (110, left) ≡ told_by v words d
  told_served e q = rw (e, q)

pub record_length : (words : List ℕ) (at : ℕ) (r : tables.Record) → length (write_record words at r) ≡ length words
unfolding write_record
record_length words at r = if_length (ltb (get_or words (at + 3) 0) 5)
  where
    if_length : (b : Bool) → length (write_if b words at r) ≡ length words
    if_length true = rw (length-set, length-set, length-set, length-set, length-set, length-set, length-set)
    if_length false = refl

pub record_written : (words : List ℕ) (at : ℕ) (r : tables.Record) → get_or words (at + 3) 0 < 5
    → write_others (write_counts words at r) at r ≡ write_record words at r
unfolding write_record
record_written words at r l = rw (lt-ltb (get_or words (at + 3) 0) 5 l)

pub record_left : (words : List ℕ) (at : ℕ) (r : tables.Record) → 5 ≤ get_or words (at + 3) 0 → words ≡ write_record words at r
unfolding write_record
record_left words at r l = rw (le-ltb (get_or words (at + 3) 0) 5 l)

-- a record that a call leaves as it was read leaves its words, whatever their kind
pub kept_run : (words : List ℕ) (at : ℕ) → at + 6 < length words → write_record words at (run_of (run_at words at)) ≡ words
kept_run words at l =
    elim (split (get_or words (at + 3) 0) 5) [
      | inr h ↦ sym (record_left words at _ h)
      | inl h ↦
          let own : (i : ℕ) → i ≤ at + 6 → set words i (get_or words i 0) ≡ words = λ i m. set_own words i (omega arith) in
          sym (record_written words at _ h) ∙ rw (kind_number (get_or words (at + 3) 0) h) (rw (
            own at (omega arith),
            own (at + 1) (omega arith),
            own (at + 2) (omega arith),
            own (at + 3) (omega arith),
            own (at + 4) (omega arith),
            own (at + 5) (omega arith),
            own (at + 6) (omega arith),
          ))
    ]

pub run_length : (words : List ℕ) (at : ℕ) (r : tables.Record) (a : paper.Answer) → length (write_run words at r a) ≡ length words
unfolding write_run
run_length words at r a = rw (length-set, length-set) (record_length words at r)

pub runs_length : (n : ℕ) (words : List ℕ) (runs : ℕ → tables.Record) (answers : ℕ → paper.Answer) → length (write_runs n words runs answers) ≡ length words
unfolding write_runs
runs_length zero words runs answers = refl
runs_length (suc n) words runs answers = run_length _ (base n) (runs n) (answers n) ∙ runs_length n words runs answers

pub served_length : (words : List ℕ) (d : Dispatched) → length (served_by words d) ≡ length words
served_length words d = runs_length 8 _ _ _ ∙ length-set (set words 0 d.last) 1 d.steps.0 ∙ length-set words 0 d.last

pub runs_next : (n : ℕ) (words : List ℕ) (runs : ℕ → tables.Record) (answers : ℕ → paper.Answer)
    → write_run (write_runs n words runs answers) (2 + 9 * n) (runs n) (answers n) ≡ write_runs (n + 1) words runs answers
unfolding write_runs
runs_next n words runs answers = rw (add-one n)

pub writing_begins : (outcomes : List Outcome) (words : List ℕ) → length words ≡ 74 → Writing outcomes words words 0
unfolding write_runs
writing_begins outcomes words e = record { upto = omega arith; long = e; same = refl }

module _ {outcomes : List Outcome} {words₀ words : List ℕ} {i : ℕ} (w : Writing outcomes words₀ words i) where
  pub writing_more : i < 8 → {left : List ℕ}
      → left ≡ write_run words (2 + 9 * i) (run_of (get_or outcomes i no_outcome).run) (answer_of (get_or outcomes i no_outcome).answer)
      → Writing outcomes words₀ left (i + 1)
  writing_more l {left} e =
      record {
        upto = omega arith;
        long = ap length e ∙ run_length words _ _ _ ∙ w.long;
        same = e ∙ ap (λ x. write_run x (2 + 9 * i) (run_of (get_or outcomes i no_outcome).run) (answer_of (get_or outcomes i no_outcome).answer)) w.same
            ∙ runs_next i words₀ _ _;
      }

  pub writing_ends : 8 ≤ i → words ≡ left_by 8 words₀ outcomes
  writing_ends l = let e : i ≡ 8 = omega (arith, w.upto) in w.same ∙ ap (λ n. left_by n words₀ outcomes) e

runs_same : (n : ℕ) (words : List ℕ) (runs runs' : ℕ → tables.Record) (answers answers' : ℕ → paper.Answer) → ((i : ℕ) → i < n → runs i ≡ runs' i)
    → ((i : ℕ) → i < n → answers i ≡ answers' i) → write_runs n words runs answers ≡ write_runs n words runs' answers'
unfolding write_runs
runs_same zero words runs runs' answers answers' h g = refl
runs_same (suc n) words runs runs' answers answers' h g =
    rw (runs_same n words runs runs' answers answers' (λ i l. h i (omega arith)) (λ i l. g i (omega arith)), h n (omega arith), g n (omega arith))

module _ (x : form.Dispatched) (d : Dispatched) {stack list : List ℕ} (r : Returns x d stack list) (words : List ℕ) where
  told_is : (v : Result (Unit {0}) Fault) → verdict_of v ≡ x.check → {a : ℕ} {left : List ℕ} → (a, left) ≡ told_by v words d → (a, (stack, (list, left)))
      ≡ told words x
  told_is (Err why) e {a} {left} q =
      let ea : a ≡ fault_of why = ap (λ (p : ℕ × List ℕ). p.0) q in
      let el : left ≡ words = ap (λ (p : ℕ × List ℕ). p.1) q in
      rw (ea, el, ← e, r.stacks, r.lists) refl
  told_is (Ok _) e {a} {left} q =
      let ea : a ≡ 110 = ap (λ (p : ℕ × List ℕ). p.0) q in
      let el : left ≡ served_by words d = ap (λ (p : ℕ × List ℕ). p.1) q in
      rw (ea, el, ← e, r.stacks, r.lists, r.last, r.steps)
      (ap (λ (w : List ℕ). (110, (x.round.stack, (x.round.list, w)))) (runs_same 8 _ _ _ _ _ r.records r.answers))

-- ---- the whole call

check_of : (c : paper.Check) (turns : ℕ) (d : form.Schedule) (r : form.Round) → (form.checked_turns c turns d r).check ≡ c
check_of (paper.refuse n values) turns d r = refl
check_of paper.go turns d r = refl

check_is : (turns : ℕ) (d : form.Schedule) (r : form.Round) → (dispatch turns d r).check ≡ dispatch_checks d r
unfolding dispatch
check_is turns d r = check_of (dispatch_checks d r) turns d r

module _ (count quantum turns : ℕ) (shares : List ℕ) (coefs : List ℤ) (stack list words : List ℕ) where
  fitting_by : (v : Result (Unit {0}) Fault) → verdict_of v ≡ (served count quantum turns shares coefs stack list words).check → Fitting v words
  fitting_by (Err why) e = tt
  fitting_by (Ok _) e =
      let a = accepted (schedule_in count quantum shares coefs) (round_in stack list words) (sym (check_is turns _ _) ∙ sym e) in
      elim (ℕ_discrete (length words) 74) [ yes q ↦ q | no ne ↦ absurd (omega (arith, a.kept, last_other words ne)) ]

  module _ {all : List Share} {records : List Record} {last : ℕ} (f : Filled 8 (share_in shares) no_share all 8)
      (g : Filled 8 (record_in words) no_record records 8) (e : last ≡ last_in words) (d : Dispatched) {stack' list' : List ℕ}
      (r : Returns (dispatch turns (schedule_for count all coefs quantum) (handed stack list records last)) d stack' list') where
    returned : Returns (served count quantum turns shares coefs stack list words) d stack' list'
    returned = subst (λ x. Returns x d stack' list') (dispatch_is count quantum shares coefs stack list words f g e turns) r

    pub fitting : Fitting d.verdict words
    fitting = fitting_by d.verdict returned.check

    pub dispatched : {a : ℕ} {left : List ℕ} → (a, left) ≡ told_by d.verdict words d
        → (a, (stack', (list', left))) ≡ dispatch_words count quantum turns shares coefs stack list words
    unfolding dispatch_words
    dispatched q = told_is (served count quantum turns shares coefs stack list words) d returned words d.verdict returned.check q
