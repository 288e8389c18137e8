-- A text that has a reading has no fault. Assumes nothing.
use Prim.Native.Nat.{ℕ, zero, suc, ◌+◌, ◌*◌, ◌/◌, ◌%◌, ◌≤◌}
use Rattle.std.specs.Prelude.{Bool, cond, ◌≡◌, length, replicate}
use Rattle.std.proofs.Math.Bool.{true, false}
use mathlib.Core.List.{List, [], ◌∷◌, ◌++◌}
use Rattle.std.proofs.Math.Path.{refl}
use Rattle.std.proofs.Common.{sym, ap, ◌∙◌}
use Rattle.std.proofs.Math.Decide.{dec_lt}
use native.Mathlib.Omega.{arith}
use Rattle.std.proofs.Math.Dec.{eqb}
use borrow.Author.Tests.{ne_eqb, le-leb}
use Rattle.texts.specs.Decimals.{space, zero_digit, decimal}
use Rattle.texts.specs.Reading.{may_follow, is_digit, digit}
use Rattle.texts.proofs.DecimalLaws.{decimal_digit, decimal_more, by_digits, Begins, begins, digits_most, by_first}
use Rattle.texts.proofs.WriteLaws.{digit_is, digit_of}
use Rattle.equation_spec.specs.Grammar.{Sign, plus, minus, bare, led, Sum, one, more, Term, number, plain, times, Factor, unknown, bracket, Equation, Part}
use Rattle.equation_spec.specs.Grammar.{sign, star, closing, equals, sum_parts, term_parts, factor_parts, parts, letter, star_byte, open_byte, close_byte}
use Rattle.equation_spec.specs.Grammar.{equals_byte, sign_byte, Spells, done, next, Reads}
use Rattle.equation_spec.specs.Reader.{skip, most_digits}
use Rattle.equation_spec.proofs.PartLaws.{first}
use Rattle.equation_spec.proofs.Agreement.{no_space_lem}
use Rattle.equation_spec.specs.Scan.{Phase, nothing, sum_due, term_due, factor_due, index_due, in_number, after_number, in_index, after_bracket, after_term, to}
use Rattle.equation_spec.specs.Scan.{fault}
use Rattle.equation_spec.specs.Scan.{onward, factor_begins, term_begins, sum_begins, after_digits, after_factor, step, term_ends, go_on}
use Rattle.equation_spec.specs.Scan as scan
use Rattle.equation_spec.proofs.ScanBack.{accepts}

module _ (q : ℕ) where
  -- ---- spaces

  sum_skip : (t : List ℕ) (d : ℕ) (r : Bool) → accepts q sum_due d r (skip t) ≡ true → accepts q sum_due d r t ≡ true
  unfolding skip accepts step
  sum_skip [] d r h = h
  sum_skip (b ∷ t) d r h = go (λ x. sum_skip t d r x) (eqb b space) refl h
    where
      go : (accepts q sum_due d r (skip t) ≡ true → accepts q sum_due d r t ≡ true) → (c : Bool) → eqb b space ≡ c
          → accepts q sum_due d r (cond c (skip t) (b ∷ t)) ≡ true → accepts q sum_due d r (b ∷ t) ≡ true
      go ih true e h = rw e (ih h)
      go ih false e h = h

  term_skip : (t : List ℕ) (d : ℕ) (r : Bool) → accepts q term_due d r (skip t) ≡ true → accepts q term_due d r t ≡ true
  unfolding skip accepts step
  term_skip [] d r h = h
  term_skip (b ∷ t) d r h = go (λ x. term_skip t d r x) (eqb b space) refl h
    where
      go : (accepts q term_due d r (skip t) ≡ true → accepts q term_due d r t ≡ true) → (c : Bool) → eqb b space ≡ c
          → accepts q term_due d r (cond c (skip t) (b ∷ t)) ≡ true → accepts q term_due d r (b ∷ t) ≡ true
      go ih true e h = rw e (ih h)
      go ih false e h = h

  factor_skip : (t : List ℕ) (d : ℕ) (r : Bool) → accepts q factor_due d r (skip t) ≡ true → accepts q factor_due d r t ≡ true
  unfolding skip accepts step
  factor_skip [] d r h = h
  factor_skip (b ∷ t) d r h = go (λ x. factor_skip t d r x) (eqb b space) refl h
    where
      go : (accepts q factor_due d r (skip t) ≡ true → accepts q factor_due d r t ≡ true) → (c : Bool) → eqb b space ≡ c
          → accepts q factor_due d r (cond c (skip t) (b ∷ t)) ≡ true → accepts q factor_due d r (b ∷ t) ≡ true
      go ih true e h = rw e (ih h)
      go ih false e h = h

  -- ---- after a term

  -- a byte that may follow a term, and that is neither a digit nor a space nor a star
  pub data Onward : ℕ → Type 0 where
    signs : (s : Sign) → Onward (sign_byte s)
    closes : Onward close_byte
    equates : Onward equals_byte

  -- the text from there on is accepted, whatever ended the term
  abbrev pub Over : ℕ → Bool → List ℕ → Type 0
  Over d r t = (f : Phase) → term_ends f ≡ true → accepts q f d r t ≡ true

  never : {P : Type 0} → false ≡ true → P
  never e = absurd (let z : ◌≡◌ {A = ℕ} 0 1 = cc in omega arith)

  number_byte : (b : ℕ) (d : ℕ) (r : Bool) → Onward b → after_digits b d r ≡ onward b d r
  unfolding after_digits
  number_byte b d r (signs plus) = refl
  number_byte b d r (signs minus) = refl
  number_byte b d r closes = refl
  number_byte b d r equates = refl

  factor_byte : (b : ℕ) (d : ℕ) (r : Bool) → Onward b → after_factor b d r ≡ onward b d r
  unfolding after_factor
  factor_byte b d r (signs plus) = refl
  factor_byte b d r (signs minus) = refl
  factor_byte b d r closes = refl
  factor_byte b d r equates = refl

  no_digit_byte : {b : ℕ} → Onward b → is_digit b ≡ false
  no_digit_byte (signs plus) = refl
  no_digit_byte (signs minus) = refl
  no_digit_byte closes = refl
  no_digit_byte equates = refl

  space_number : (d : ℕ) (r : Bool) → after_digits space d r ≡ to after_number d r
  unfolding after_digits
  space_number d r = refl

  space_factor : (d : ℕ) (r : Bool) → after_factor space d r ≡ to after_term d r
  unfolding after_factor
  space_factor d r = refl

  -- after a term and spaces
  after_number_lem : (n b : ℕ) (t : List ℕ) (d : ℕ) (r : Bool) → Onward b → go_on (onward b d r) (λ g e s. accepts q g e s t) false ≡ true
      → accepts q after_number d r (replicate n space ++ (b ∷ t)) ≡ true
  unfolding accepts step
  after_number_lem zero b t d r o h = rw (number_byte b d r o) h
  after_number_lem (suc n) b t d r o h = rw (space_number d r) (after_number_lem n b t d r o h)

  after_term_lem : (n b : ℕ) (t : List ℕ) (d : ℕ) (r : Bool) → Onward b → go_on (onward b d r) (λ g e s. accepts q g e s t) false ≡ true
      → accepts q after_term d r (replicate n space ++ (b ∷ t)) ≡ true
  unfolding accepts step
  after_term_lem zero b t d r o h = rw (factor_byte b d r o) h
  after_term_lem (suc n) b t d r o h = rw (space_factor d r) (after_term_lem n b t d r o h)

  -- after a term, with any spaces
  pub over_byte : (n b : ℕ) (t : List ℕ) (d : ℕ) (r : Bool) → Onward b → go_on (onward b d r) (λ g e s. accepts q g e s t) false ≡ true
      → Over d r (replicate n space ++ (b ∷ t))
  unfolding accepts step
  over_byte zero b t d r o h (in_number zero) e = rw (number_byte b d r o) h
  over_byte zero b t d r o h (in_number (suc k)) e = rw (no_digit_byte o, number_byte b d r o) h
  over_byte zero b t d r o h (in_index k) e = rw (no_digit_byte o, factor_byte b d r o) h
  over_byte zero b t d r o h after_bracket e = rw (factor_byte b d r o) h
  over_byte zero b t d r o h nothing e = never e
  over_byte zero b t d r o h sum_due e = never e
  over_byte zero b t d r o h term_due e = never e
  over_byte zero b t d r o h factor_due e = never e
  over_byte zero b t d r o h index_due e = never e
  over_byte zero b t d r o h after_number e = never e
  over_byte zero b t d r o h after_term e = never e
  over_byte (suc n) b t d r o h (in_number zero) e = rw (space_number d r) (after_number_lem n b t d r o h)
  over_byte (suc n) b t d r o h (in_number (suc k)) e = rw (space_number d r) (after_number_lem n b t d r o h)
  over_byte (suc n) b t d r o h (in_index k) e = rw (space_factor d r) (after_term_lem n b t d r o h)
  over_byte (suc n) b t d r o h after_bracket e = rw (space_factor d r) (after_term_lem n b t d r o h)
  over_byte (suc n) b t d r o h nothing e = never e
  over_byte (suc n) b t d r o h sum_due e = never e
  over_byte (suc n) b t d r o h term_due e = never e
  over_byte (suc n) b t d r o h factor_due e = never e
  over_byte (suc n) b t d r o h index_due e = never e
  over_byte (suc n) b t d r o h after_number e = never e
  over_byte (suc n) b t d r o h after_term e = never e

  -- each part that may follow a term
  over_sign : (g : Sign) {ps : List Part} {t : List ℕ} (d : ℕ) (r : Bool) → Spells q (sign g ∷ ps) t
      → ((s : List ℕ) → Spells q ps s → accepts q term_due d r s ≡ true) → Over d r t
  unfolding onward
  over_sign plus d r (next {r = s} n m) k f e = rw n.text (over_byte n.spaces 43 s d r (signs plus) (k s m) f e)
  over_sign minus d r (next {r = s} n m) k f e = rw n.text (over_byte n.spaces 45 s d r (signs minus) (k s m) f e)

  over_close : {ps : List Part} {t : List ℕ} (d : ℕ) (r : Bool) → Spells q (closing ∷ ps) t → ((s : List ℕ) → Spells q ps s → Over d r s) → Over (suc d) r t
  unfolding onward
  over_close d r (next {r = s} n m) k f e = rw n.text (over_byte n.spaces 41 s (suc d) r closes (k s m after_bracket refl) f e)

  over_equals : {ps : List Part} {t : List ℕ} → Spells q (equals ∷ ps) t → ((s : List ℕ) → Spells q ps s → accepts q sum_due 0 true s ≡ true) → Over 0 false t
  unfolding onward
  over_equals (next {r = s} n m) k f e = rw n.text (over_byte n.spaces 61 s 0 false equates (k s m) f e)

  over_end : {t : List ℕ} → Spells q [] t → Over 0 true t
  unfolding accepts
  over_end done f e = rw e

  -- ---- numbers

  AllDigits : List ℕ → Type 0
  AllDigits [] = Unit {0}
  AllDigits (b ∷ t) = (is_digit b ≡ true) × AllDigits t

  all_append : (s : List ℕ) (b : ℕ) → AllDigits s → is_digit b ≡ true → AllDigits (s ++ (b ∷ []))
  unfolding AllDigits
  all_append [] b a e = (e, tt)
  all_append (c ∷ s) b a e = (a.0, all_append s b a.1 e)

  decimal_all : (n : ℕ) → AllDigits (decimal n)
  unfolding AllDigits
  decimal_all =
      by_digits (λ n. AllDigits (decimal n))
      (λ n l. rw (decimal_digit n l) (digit_is n (omega arith), tt))
      (λ n l a. rw (decimal_more n l) (all_append (decimal (n / 10)) (zero_digit + n % 10) a (digit_is (n % 10) (omega arith))))

  digits_run : (ds s : List ℕ) (k d : ℕ) (r : Bool) → AllDigits ds → length ds ≤ k → ((j : ℕ) → accepts q (in_number j) d r s ≡ true)
      → accepts q (in_number k) d r (ds ++ s) ≡ true
  unfolding AllDigits accepts step
  digits_run [] s k d r a l h = h k
  digits_run (b ∷ ds) s zero d r a l h = absurd (omega arith)
  digits_run (b ∷ ds) s (suc k) d r a l h = rw a.0 (digits_run ds s k d r a.1 (omega arith) h)

  -- ---- what a term, a factor and a sum begin with

  record Plain (b : ℕ) : Type 0 where
    no_space_lem : b ≡ space → ⊥
    no_plus : b ≡ sign_byte plus → ⊥
    no_minus : b ≡ sign_byte minus → ⊥

  record FactorRun (d : ℕ) (r : Bool) (t : List ℕ) : Type 0 where
    byte : ℕ
    rest : List ℕ
    text : skip t ≡ byte ∷ rest
    plain : Plain byte
    no_digit : is_digit byte ≡ false
    runs : go_on (factor_begins byte d r) (λ g e s. accepts q g e s rest) false ≡ true

  record TermRun (d : ℕ) (r : Bool) (t : List ℕ) : Type 0 where
    byte : ℕ
    rest : List ℕ
    text : skip t ≡ byte ∷ rest
    plain : Plain byte
    runs : go_on (term_begins byte d r) (λ g e s. accepts q g e s rest) false ≡ true

  record SumRun (d : ℕ) (r : Bool) (t : List ℕ) : Type 0 where
    byte : ℕ
    rest : List ℕ
    text : skip t ≡ byte ∷ rest
    no_space_lem : byte ≡ space → ⊥
    runs : go_on (sum_begins byte d r) (λ g e s. accepts q g e s rest) false ≡ true

  factor_accepted : (d : ℕ) (r : Bool) (t : List ℕ) → FactorRun d r t → accepts q factor_due d r t ≡ true
  unfolding accepts step
  factor_accepted d r t i = factor_skip t d r (rw (i.text, ne_eqb _ space i.plain.no_space_lem) i.runs)

  term_accepted : (d : ℕ) (r : Bool) (t : List ℕ) → TermRun d r t → accepts q term_due d r t ≡ true
  unfolding accepts step
  term_accepted d r t i = term_skip t d r (rw (i.text, ne_eqb _ space i.plain.no_space_lem) i.runs)

  sum_accepted : (d : ℕ) (r : Bool) (t : List ℕ) → SumRun d r t → accepts q sum_due d r t ≡ true
  unfolding accepts step
  sum_accepted d r t i = sum_skip t d r (rw (i.text, ne_eqb _ space i.no_space_lem) i.runs)

  factor_term : {d : ℕ} {r : Bool} {t : List ℕ} → FactorRun d r t → TermRun d r t
  unfolding term_begins
  factor_term i = record { byte = i.byte; rest = i.rest; text = i.text; plain = i.plain; runs = rw i.no_digit i.runs }

  term_sum : {d : ℕ} {r : Bool} {t : List ℕ} → TermRun d r t → SumRun d r t
  unfolding sum_begins
  term_sum i =
      record {
        byte = i.byte;
        rest = i.rest;
        text = i.text;
        no_space_lem = i.plain.no_space_lem;
        runs = rw (ne_eqb _ 43 i.plain.no_plus, ne_eqb _ 45 i.plain.no_minus) i.runs;
      }

  -- a number in front
  number_run : (n d : ℕ) (r : Bool) (t s : List ℕ) → n ≤ 99999 → skip t ≡ decimal n ++ s → ((j : ℕ) → accepts q (in_number j) d r s ≡ true) → TermRun d r t
  unfolding term_begins AllDigits
  number_run n d r t s l e h =
      let b = begins n in
      let a = rw b.digits at (decimal_all n) in
      record {
        byte = zero_digit + b.d;
        rest = b.others ++ s;
        text = e ∙ by_first n b s;
        plain = record { no_space_lem = λ x. omega arith; no_plus = λ x. omega arith; no_minus = λ x. omega arith };
        runs = rw (digit_is b.d b.most, digit_of b.d) (digits_run b.others s (may_follow most_digits b.d) d r a.1 (few n b l) h);
      }
    where
      follow : (d : ℕ) → 1 ≤ d → may_follow most_digits d ≡ 4
      follow zero l = absurd (omega arith)
      follow (suc d) l = refl

      few : (n : ℕ) (b : Begins n) → n ≤ 99999 → length b.others ≤ may_follow most_digits b.d
      few zero b l = omega (arith, ap length (sym b.digits ∙ decimal_digit 0 (omega arith)))
      few (suc n) b l = rw (follow b.d (b.some (omega arith))) (omega (arith, ap length b.digits, digits_most 4 (suc n) (omega arith)))

  index_run : (k d : ℕ) (r : Bool) (s : List ℕ) → q ≤ 16 → 1 ≤ k → k ≤ q → ((j : ℕ) → accepts q (in_index j) d r s ≡ true)
      → accepts q index_due d r (decimal k ++ s) ≡ true
  unfolding accepts step
  index_run k d r s few l m h =
      elim (dec_lt k 10) [
        | yes x ↦ rw (decimal_digit k x, digit_is k (omega arith), digit_of k, le-leb 1 k l, le-leb k q m) (h k)
        | no x ↦
            let e : k / 10 ≡ 1 = omega arith in
            let v : 1 * 10 + k % 10 ≡ k = omega arith in
            rw (
              decimal_more k (omega arith),
              e,
              decimal_digit 1 (omega arith),
              le-leb 1 q (omega arith),
              digit_is (k % 10) (omega arith),
              digit_of (k % 10),
              v,
              le-leb 1 k l,
              le-leb k q m,
            ) (h k)
      ]

  -- ---- every tree

  star_step : (d : ℕ) (r : Bool) → after_digits star_byte d r ≡ to factor_due d r
  unfolding after_digits
  star_step d r = refl

  star_later : (n : ℕ) (s : List ℕ) (d : ℕ) (r : Bool) → accepts q factor_due d r s ≡ true
      → accepts q after_number d r (replicate n space ++ (star_byte ∷ s)) ≡ true
  unfolding accepts step
  star_later zero s d r h = rw (star_step d r) h
  star_later (suc n) s d r h = rw (space_number d r) (star_later n s d r h)

  star_soon : (n j : ℕ) (s : List ℕ) (d : ℕ) (r : Bool) → accepts q factor_due d r s ≡ true
      → accepts q (in_number j) d r (replicate n space ++ (star_byte ∷ s)) ≡ true
  unfolding accepts step
  star_soon zero zero s d r h = rw (star_step d r) h
  star_soon zero (suc j) s d r h = rw (star_step d r) h
  star_soon (suc n) zero s d r h = rw (space_number d r) (star_later n s d r h)
  star_soon (suc n) (suc j) s d r h = rw (space_number d r) (star_later n s d r h)

  -- after a number and spaces: a star, and then a factor
  star_run : {ps : List Part} {t : List ℕ} (d : ℕ) (r : Bool) → Spells q (star ∷ ps) t → ((s : List ℕ) → Spells q ps s → accepts q factor_due d r s ≡ true)
      → (j : ℕ) → accepts q (in_number j) d r t ≡ true
  star_run d r (next {r = s} n m) k j = rw n.text (star_soon n.spaces j s d r (k s m))

  -- what follows a tree is accepted
  abbrev Follows : ℕ → Bool → List Part → Type 0
  Follows d r ps = (s : List ℕ) → Spells q ps s → Over d r s

  abbrev FactorRuns : Factor → Type 0
  FactorRuns f = (d : ℕ) (r : Bool) (ps : List Part) (t : List ℕ) → Spells q (factor_parts f ps) t → Follows d r ps → FactorRun d r t

  abbrev TermRuns : Term → Type 0
  TermRuns u = (d : ℕ) (r : Bool) (ps : List Part) (t : List ℕ) → Spells q (term_parts u ps) t → Follows d r ps → TermRun d r t

  abbrev SumRuns : Sum → Type 0
  SumRuns e = (d : ℕ) (r : Bool) (ps : List Part) (t : List ℕ) → Spells q (sum_parts e ps) t → Follows d r ps → SumRun d r t

  unknown_runs : q ≤ 16 → (k : ℕ) → FactorRuns (unknown k)
  unfolding factor_parts factor_begins
  unknown_runs few k d r ps t s h =
      let i = first s in
      record {
        byte = letter;
        rest = decimal k ++ i.rest;
        text = i.text;
        plain = record { no_space_lem = λ x. omega arith; no_plus = λ x. omega arith; no_minus = λ x. omega arith };
        no_digit = refl;
        runs = index_run k d r i.rest few i.allowed.0 i.allowed.1 (λ j. h i.rest i.spells (in_index j) refl);
      }

  bracket_runs : (e : Sum) → SumRuns e → FactorRuns (bracket e)
  unfolding factor_parts factor_begins
  bracket_runs e ih d r ps t s h =
      let i = first s in
      record {
        byte = open_byte;
        rest = i.rest;
        text = i.text;
        plain = record { no_space_lem = λ x. omega arith; no_plus = λ x. omega arith; no_minus = λ x. omega arith };
        no_digit = refl;
        runs = sum_accepted (suc d) r i.rest (ih (suc d) r (closing ∷ ps) i.rest i.spells (λ v m. over_close d r m h));
      }

  number_runs : (n : ℕ) → TermRuns (number n)
  unfolding term_parts
  number_runs n d r ps t s h = let i = first s in number_run n d r t i.rest i.allowed i.text (λ j. h i.rest i.spells (in_number j) refl)

  plain_runs : (f : Factor) → FactorRuns f → TermRuns (plain f)
  unfolding term_parts
  plain_runs f ih d r ps t s h = factor_term (ih d r ps t s h)

  times_runs : (n : ℕ) (f : Factor) → FactorRuns f → TermRuns (times n f)
  unfolding term_parts
  times_runs n f ih d r ps t s h =
      let i = first s in
      number_run n d r t i.rest i.allowed i.text (star_run d r i.spells (λ v m. factor_accepted d r v (ih d r ps v m h)))

  bare_runs : (u : Term) → TermRuns u → SumRuns (one bare u)
  unfolding sum_parts
  bare_runs u ih d r ps t s h = term_sum (ih d r ps t s h)

  led_runs : (g : Sign) (u : Term) → TermRuns u → SumRuns (one (led g) u)
  unfolding sum_parts sum_begins
  led_runs plus u ih d r ps t s h =
      let i = first s in
      record {
        byte = sign_byte plus;
        rest = i.rest;
        text = i.text;
        no_space_lem = λ x. omega arith;
        runs = term_accepted d r i.rest (ih d r ps i.rest i.spells h);
      }
  led_runs minus u ih d r ps t s h =
      let i = first s in
      record {
        byte = sign_byte minus;
        rest = i.rest;
        text = i.text;
        no_space_lem = λ x. omega arith;
        runs = term_accepted d r i.rest (ih d r ps i.rest i.spells h);
      }

  more_runs : (e : Sum) (g : Sign) (u : Term) → SumRuns e → TermRuns u → SumRuns (more e g u)
  unfolding sum_parts
  more_runs e g u sums terms d r ps t s h =
      sums d r (sign g ∷ term_parts u ps) t s (λ v m. over_sign g d r m (λ w o. term_accepted d r w (terms d r ps w o h)))

  module _ (few : q ≤ 16) where
    mutual
      sum_runs : (e : Sum) → SumRuns e
      sum_runs (one bare u) = bare_runs u (term_runs u)
      sum_runs (one (led g) u) = led_runs g u (term_runs u)
      sum_runs (more e g u) = more_runs e g u (sum_runs e) (term_runs u)

      term_runs : (u : Term) → TermRuns u
      term_runs (number n) = number_runs n
      term_runs (plain f) = plain_runs f (factor_runs f)
      term_runs (times n f) = times_runs n f (factor_runs f)

      factor_runs : (f : Factor) → FactorRuns f
      factor_runs (unknown k) = unknown_runs few k
      factor_runs (bracket e) = bracket_runs e (sum_runs e)

    -- A text that has a reading has no fault.
    pub reads_accepted : (e : Equation) (t : List ℕ) → Reads q e t → accepts q nothing 0 false t ≡ true
    unfolding parts accepts step
    reads_accepted e t m =
        let i = sum_runs e.left 0 false (equals ∷ sum_parts e.right []) t m.spells
        (λ v o. over_equals o (λ w p. sum_accepted 0 true w (sum_runs e.right 0 true [] w p (λ x y. over_end y))))
        in
        rw (sym (no_space_lem t m.begins) ∙ i.text) i.runs
