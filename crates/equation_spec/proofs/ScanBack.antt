-- A text without a fault has a reading: what may follow each phase, in terms of the grammar. Assumes nothing.
use Prim.Native.Nat.{ℕ, zero, suc, ◌+◌, ◌*◌, ◌≤◌}
use Rattle.std.specs.Prelude.{Bool, cond, ◌&&◌, ◌≡◌, eqb, get_or}
use Rattle.std.proofs.Math.Bool.{true, false}
use mathlib.Core.List.{List, [], ◌∷◌, ◌++◌}
use Rattle.std.proofs.Math.Path.{refl, ap}
use Rattle.std.proofs.Common.{sym, ◌∙◌, arith, leb→le, eqb-true, ne_eqb}
use Rattle.std.proofs.Math.Dec.{leb}
use Rattle.std.proofs.Math.Seq.{append_snoc}
use Rattle.linear.proofs.TestLaws.{and_parts}
use Rattle.texts.specs.Decimals.{space, decimal}
use Rattle.texts.specs.Reading.{may_follow, is_digit, digit}
use Rattle.texts.proofs.NumberLaws.{digit_range}
use Rattle.texts.proofs.ReadLaws.{digit_byte}
use Rattle.texts.proofs.DecimalLaws.{decimal_digit, decimal_next}
use Rattle.equation_spec.specs.Grammar.{Sign, plus, minus, Lead, bare, led, Sum, one, more, Term, number, plain, times, Factor, unknown, bracket, Equation}
use Rattle.equation_spec.specs.Grammar.{Part, numeral, variable, sign, star, opening, closing, equals, sum_parts, term_parts, factor_parts, parts, letter}
use Rattle.equation_spec.specs.Grammar.{star_byte, open_byte, close_byte, equals_byte, sign_byte, Spells, done, Reads}
use Rattle.equation_spec.specs.Reader.{most_digits}
use Rattle.equation_spec.proofs.TextLaws.{NonEmpty, some, term_some, factor_some, sum_some, one_space}
use Rattle.equation_spec.proofs.SoundLaws.{here, few_digits}
use Rattle.texts.specs.Places.{Room}
use Rattle.texts.proofs.NumberLaws.{room_small, room_digit, room_first}
use Rattle.equation_spec.specs.Scan.{Phase, nothing, sum_due, term_due, factor_due, index_due, in_number, after_number, in_index, after_bracket, after_term}
use Rattle.equation_spec.specs.Scan.{Step, to}
use Rattle.equation_spec.specs.Scan.{fault, equating, onward, factor_begins, term_begins, sum_begins, after_digits, after_factor, indexed, step, final, go_on}
use Rattle.equation_spec.specs.Scan as scan

-- the text has no fault from this phase on
unfoldable pub accepts : ℕ → Phase → ℕ → Bool → List ℕ → Bool
accepts q f d r [] = final f d r
accepts q f d r (b ∷ t) = go_on (step q b f d r) (λ g e s. accepts q g e s t) false

never : {P : Type 0} → false ≡ true → P
never e = absurd (let z : ◌≡◌ {A = ℕ} 0 1 = cc in omega arith)

-- ---- what may follow a term, with d brackets open; r says whether "=" has been passed

pub data After : ℕ → Bool → List Part → Type 0 where
  join : (s : Sign) (u : Term) {d : ℕ} {r : Bool} {ps qs : List Part} → qs ≡ term_parts u ps → After d r ps → After d r (sign s ∷ qs)
  close : {d : ℕ} {r : Bool} {ps : List Part} → After d r ps → After (suc d) r (closing ∷ ps)
  equate : (e : Sum) {qs : List Part} → qs ≡ sum_parts e [] → After 0 false (equals ∷ qs)
  end : After 0 true []

-- after a number: also "*" and a factor
pub data NumberAfter : ℕ → Bool → List Part → Type 0 where
  over : {d : ℕ} {r : Bool} {ps : List Part} → After d r ps → NumberAfter d r ps
  scaled : (f : Factor) {d : ℕ} {r : Bool} {ps qs : List Part} → qs ≡ factor_parts f ps → After d r ps → NumberAfter d r (star ∷ qs)

pub record FactorOpen (d : ℕ) (r : Bool) (ps : List Part) : Type 0 where
  pub factor : Factor
  pub rest : List Part
  pub is : ps ≡ factor_parts factor rest
  pub after : After d r rest

pub record TermOpen (d : ℕ) (r : Bool) (ps : List Part) : Type 0 where
  pub term : Term
  pub rest : List Part
  pub is : ps ≡ term_parts term rest
  pub after : After d r rest

pub record SumOpen (d : ℕ) (r : Bool) (ps : List Part) : Type 0 where
  pub lead : Lead
  pub term : Term
  pub rest : List Part
  pub is : ps ≡ sum_parts (one lead term) rest
  pub after : After d r rest

-- the sum e, with the terms that follow it, up to its end
record Closed (d : ℕ) (r : Bool) (ps : List Part) (e : Sum) : Type 0 where
  sum : Sum
  rest : List Part
  is : sum_parts e ps ≡ sum_parts sum (closing ∷ rest)
  after : After d r rest

closed_by : {d : ℕ} {r : Bool} {ps : List Part} → After (suc d) r ps → (e : Sum) → Closed d r ps e
unfolding sum_parts
closed_by (join s u {d} {r} {ps} x a) e =
    let c = closed_by a (more e s u) in
    record { sum = c.sum; rest = c.rest; is = rw x c.is; after = c.after }
closed_by (close {ps = ps} a) e = record { sum = e; rest = ps; is = refl; after = a }

ended_by : {ps : List Part} → After 0 true ps → (e : Sum) → (f : Sum) × (sum_parts e ps ≡ sum_parts f [])
unfolding sum_parts
ended_by (join s u x a) e = let (f, y) = ended_by a (more e s u) in (f, rw x y)
ended_by end e = (e, refl)

equated_by : {ps : List Part} → After 0 false ps → (e : Sum) → (f : Sum) × (g : Sum) × (sum_parts e ps ≡ sum_parts f (equals ∷ sum_parts g []))
unfolding sum_parts
equated_by (join s u x a) e = let (f, g, y) = equated_by a (more e s u) in (f, g, rw x y)
equated_by (equate g x) e = (e, g, rw x)

-- ---- what may follow a phase

module _ (q : ℕ) where
  record Sums (d : ℕ) (r : Bool) (t : List ℕ) : Type 0 where
    ps : List Part
    due : SumOpen d r ps
    text : Spells q ps t

  record Terms (d : ℕ) (r : Bool) (t : List ℕ) : Type 0 where
    ps : List Part
    due : TermOpen d r ps
    text : Spells q ps t

  record Factors (d : ℕ) (r : Bool) (t : List ℕ) : Type 0 where
    ps : List Part
    due : FactorOpen d r ps
    text : Spells q ps t

  record Ends (d : ℕ) (r : Bool) (t : List ℕ) : Type 0 where
    ps : List Part
    due : After d r ps
    text : Spells q ps t

  -- what follows a term after spaces is something
  record Later (d : ℕ) (r : Bool) (t : List ℕ) : Type 0 where
    ps : List Part
    due : After d r ps
    text : Spells q ps t
    present : NonEmpty ps

  record NumberLater (d : ℕ) (r : Bool) (t : List ℕ) : Type 0 where
    ps : List Part
    due : NumberAfter d r ps
    text : Spells q ps t
    present : NonEmpty ps

  -- more digits of the number n, and what follows
  record Digits (d : ℕ) (r : Bool) (n : ℕ) (t : List ℕ) : Type 0 where
    m : ℕ
    rest : List ℕ
    ps : List Part
    digits : decimal n ++ t ≡ decimal m ++ rest
    small : m ≤ 99999
    due : NumberAfter d r ps
    text : Spells q ps rest

  -- the number n of an unknown, and what follows
  record Index (d : ℕ) (r : Bool) (t : List ℕ) : Type 0 where
    m : ℕ
    rest : List ℕ
    ps : List Part
    digits : t ≡ decimal m ++ rest
    least : 1 ≤ m
    most : m ≤ q
    due : After d r ps
    text : Spells q ps rest

  Completes : Phase → ℕ → Bool → List ℕ → Type 0
  Completes nothing d r t = Sums d r t × (get_or t 0 0 ≡ space → ⊥)
  Completes sum_due d r t = Sums d r t
  Completes term_due d r t = Terms d r t
  Completes factor_due d r t = Factors d r t
  Completes index_due d r t = Index d r t
  Completes (in_number k) d r t = (n : ℕ) → (1 ≤ k → 1 ≤ n) → Room most_digits n k → Digits d r n t
  Completes after_number d r t = NumberLater d r t
  Completes (in_index k) d r t = 1 ≤ k → k ≤ q → Index d r (decimal k ++ t)
  Completes after_bracket d r t = Ends d r t
  Completes after_term d r t = Later d r t

  -- ---- one byte

  module _ (b : ℕ) (t : List ℕ) (ih : (f : Phase) (d : ℕ) (r : Bool) → accepts q f d r t ≡ true → Completes f d r t) where
    abbrev rest : Phase → ℕ → Bool → Bool
    rest g e s = accepts q g e s t

    cond_step : {P : Type 0} (c : Bool) (x y : Step) → go_on (cond c x y) rest false ≡ true
        → (c ≡ true → go_on x rest false ≡ true → P) → (c ≡ false → go_on y rest false ≡ true → P) → P
    cond_step true x y e f h = f refl e
    cond_step false x y e f h = h refl e

    sign_back : (s : Sign) (d : ℕ) (r : Bool) → b ≡ sign_byte s → accepts q term_due d r t ≡ true → Later d r (b ∷ t)
    unfolding Completes
    sign_back s d r e h =
        let i = ih term_due d r h in
        record {
          ps = sign s ∷ i.ps;
          due = join s i.due.term i.due.is i.due.after;
          text = rw e (here (sign s) _ refl tt i.text);
          present = some;
        }

    close_back : (d : ℕ) (r : Bool) → b ≡ close_byte → go_on (scan.closing d r) rest false ≡ true → Later d r (b ∷ t)
    unfolding Completes
    close_back zero r e h = never h
    close_back (suc d) r e h =
        let i = ih after_bracket d r h in
        record { ps = closing ∷ i.ps; due = close i.due; text = rw e (here closing _ refl tt i.text); present = some }

    equals_back : (d : ℕ) (r : Bool) → b ≡ equals_byte → go_on (equating d r) rest false ≡ true → Later d r (b ∷ t)
    unfolding Completes
    equals_back zero false e h =
        let i = ih sum_due 0 true h in
        let (f, x) = ended_by i.due.after (one i.due.lead i.due.term) in
        record { ps = equals ∷ i.ps; due = equate f (i.due.is ∙ x); text = rw e (here equals _ refl tt i.text); present = some }
    equals_back zero true e h = never h
    equals_back (suc d) r e h = never h

    onward_back : (d : ℕ) (r : Bool) → go_on (onward b d r) rest false ≡ true → Later d r (b ∷ t)
    unfolding onward
    onward_back d r h =
        cond_step (eqb b 43) _ _ h (λ c e. sign_back plus d r (eqb-true b 43 c) e)
        (λ _ h. cond_step (eqb b 45) _ _ h (λ c e. sign_back minus d r (eqb-true b 45 c) e)
        (λ _ h. cond_step (eqb b 41) _ _ h (λ c e. close_back d r (eqb-true b 41 c) e)
        (λ _ h. cond_step (eqb b 61) _ _ h (λ c e. equals_back d r (eqb-true b 61 c) e) (λ _ h. never h))))

    factor_back : (d : ℕ) (r : Bool) → go_on (factor_begins b d r) rest false ≡ true → Factors d r (b ∷ t)
    unfolding factor_begins Completes factor_parts
    factor_back d r h =
        cond_step (eqb b letter) _ _ h
        (λ c e.
        let i = ih index_due d r e in
        record {
          ps = variable i.m ∷ i.ps;
          due = record { factor = unknown i.m; rest = i.ps; is = refl; after = i.due };
          text = here (variable i.m) _ (rw (eqb-true b letter c) (ap (λ x. letter ∷ x) i.digits)) (i.least, i.most) i.text;
        })
        (λ _ h. cond_step (eqb b open_byte) _ _ h
        (λ c e.
        let i = ih sum_due (suc d) r e in
        let k = closed_by i.due.after (one i.due.lead i.due.term) in
        record {
          ps = opening ∷ i.ps;
          due = record { factor = bracket k.sum; rest = k.rest; is = ap (λ x. opening ∷ x) (i.due.is ∙ k.is); after = k.after };
          text = rw (eqb-true b open_byte c) (here opening _ refl tt i.text);
        })
        (λ _ h. never h))

    first_some : (d : ℕ) → 1 ≤ may_follow most_digits d → 1 ≤ d
    first_some zero l = absurd (omega arith)
    first_some (suc d) l = omega arith

    number_term : (d : ℕ) (r : Bool) {n : ℕ} {s : List ℕ} → Digits d r n s → {v : List ℕ} → v ≡ decimal n ++ s → Terms d r v
    unfolding term_parts
    number_term d r i {v} e = go i.due i.text
      where
        go : {ps : List Part} → NumberAfter d r ps → Spells q ps i.rest → Terms d r v
        go (over {ps = ps} a) s =
            record {
              ps = numeral i.m ∷ ps;
              due = record { term = number i.m; rest = ps; is = refl; after = a };
              text = here (numeral i.m) _ (e ∙ i.digits) i.small s;
            }
        go (scaled f {ps = ps} {qs = qs} x a) s =
            record {
              ps = numeral i.m ∷ star ∷ qs;
              due = record { term = times i.m f; rest = ps; is = ap (λ y. numeral i.m ∷ star ∷ y) x; after = a };
              text = here (numeral i.m) _ (e ∙ i.digits) i.small s;
            }

    term_back : (d : ℕ) (r : Bool) → go_on (term_begins b d r) rest false ≡ true → Terms d r (b ∷ t)
    unfolding term_begins Completes term_parts
    term_back d r h =
        cond_step (is_digit b) _ _ h
        (λ c e.
        let (low, high) = digit_range b c in
        let i = ih (in_number (may_follow most_digits (digit b))) d r e (digit b) (first_some (digit b)) (room_first most_digits (digit b) few_digits high) in
        number_term d r i (rw (decimal_digit (digit b) (omega arith), digit_byte b low)))
        (λ _ h.
        let i = factor_back d r h in
        record { ps = i.ps; due = record { term = plain i.due.factor; rest = i.due.rest; is = i.due.is; after = i.due.after }; text = i.text })

    led_back : (s : Sign) (d : ℕ) (r : Bool) → b ≡ sign_byte s → accepts q term_due d r t ≡ true → Sums d r (b ∷ t)
    unfolding Completes sum_parts
    led_back s d r e h =
        let i = ih term_due d r h in
        record {
          ps = sign s ∷ i.ps;
          due = record { lead = led s; term = i.due.term; rest = i.due.rest; is = ap (λ x. sign s ∷ x) i.due.is; after = i.due.after };
          text = rw e (here (sign s) _ refl tt i.text);
        }

    sum_back : (d : ℕ) (r : Bool) → go_on (sum_begins b d r) rest false ≡ true → Sums d r (b ∷ t)
    unfolding sum_begins sum_parts
    sum_back d r h =
        cond_step (eqb b 43) _ _ h (λ c e. led_back plus d r (eqb-true b 43 c) e)
        (λ _ h. cond_step (eqb b 45) _ _ h (λ c e. led_back minus d r (eqb-true b 45 c) e)
        (λ _ h.
        let i = term_back d r h in
        record { ps = i.ps; due = record { lead = bare; term = i.due.term; rest = i.due.rest; is = i.due.is; after = i.due.after }; text = i.text }))

    no_space_lem : (d : ℕ) (r : Bool) → go_on (sum_begins b d r) rest false ≡ true → b ≡ space → ⊥
    unfolding sum_begins term_begins factor_begins
    no_space_lem d r h e = never (rw e at h)

    -- ---- every phase

    digits_back : (d : ℕ) (r : Bool) → go_on (after_digits b d r) rest false ≡ true → NumberLater d r (b ∷ t)
    unfolding after_digits Completes
    digits_back d r h =
        cond_step (eqb b space) _ _ h
        (λ c e. let i = ih after_number d r e in
        record { ps = i.ps; due = i.due; text = rw (eqb-true b space c) (one_space i.present i.text); present = i.present })
        (λ _ h. cond_step (eqb b star_byte) _ _ h
        (λ c e.
        let i = ih factor_due d r e in
        record {
          ps = star ∷ i.ps;
          due = scaled i.due.factor i.due.is i.due.after;
          text = rw (eqb-true b star_byte c) (here star _ refl tt i.text);
          present = some;
        })
        (λ _ h. let i = onward_back d r h in record { ps = i.ps; due = over i.due; text = i.text; present = i.present }))

    ends_back : (d : ℕ) (r : Bool) → go_on (after_factor b d r) rest false ≡ true → Later d r (b ∷ t)
    unfolding after_factor Completes
    ends_back d r h =
        cond_step (eqb b space) _ _ h
        (λ c e. let i = ih after_term d r e in
        record { ps = i.ps; due = i.due; text = rw (eqb-true b space c) (one_space i.present i.text); present = i.present })
        (λ _ h. onward_back d r h)

    -- a space before a sum, a term, a factor
    spaced_sum : {d : ℕ} {r : Bool} → b ≡ space → Sums d r t → Sums d r (b ∷ t)
    spaced_sum e i =
        record { ps = i.ps; due = i.due; text = rw e (one_space (rw i.due.is (sum_some (one i.due.lead i.due.term) i.due.rest)) i.text) }

    spaced_term : {d : ℕ} {r : Bool} → b ≡ space → Terms d r t → Terms d r (b ∷ t)
    spaced_term e i = record { ps = i.ps; due = i.due; text = rw e (one_space (rw i.due.is (term_some i.due.term i.due.rest)) i.text) }

    spaced_factor : {d : ℕ} {r : Bool} → b ≡ space → Factors d r t → Factors d r (b ∷ t)
    spaced_factor e i = record { ps = i.ps; due = i.due; text = rw e (one_space (rw i.due.is (factor_some i.due.factor i.due.rest)) i.text) }

    -- the number k of an unknown, read up to the byte b, with what followed before it: x
    index_back : (k : ℕ) (d : ℕ) (r : Bool) (x : List ℕ) → decimal k ≡ x ++ (b ∷ []) → go_on (indexed q k d r) rest false ≡ true → Index d r (x ++ (b ∷ t))
    unfolding Completes
    index_back k d r x e h =
        cond_step (leb 1 k && leb k q) _ _ h
        (λ c f.
        let (l, m) = and_parts (leb 1 k) (leb k q) (rw c tt) in
        let i = ih (in_index k) d r f (leb→le 1 k l) (leb→le k q m) in
        rw (e, append_snoc) at i)
        (λ _ h. never h)

    number_more : (k d : ℕ) (r : Bool) (n : ℕ) → is_digit b ≡ true → 1 ≤ n → Room most_digits n (suc k) → accepts q (in_number k) d r t ≡ true
        → Digits d r n (b ∷ t)
    unfolding Completes
    number_more k d r n c least room h =
        let (low, high) = digit_range b c in
        let i = ih (in_number k) d r h (n * 10 + digit b) (λ _. omega arith) (room_digit (digit b) high room) in
        record {
          m = i.m;
          rest = i.rest;
          ps = i.ps;
          digits = rw (decimal_next n (digit b) least high, digit_byte b low, append_snoc) at i.digits;
          small = i.small;
          due = i.due;
          text = i.text;
        }

    number_over : (d : ℕ) (r : Bool) (n : ℕ) → n ≤ 99999 → go_on (after_digits b d r) rest false ≡ true → Digits d r n (b ∷ t)
    number_over d r n l h = let i = digits_back d r h in record { m = n; rest = b ∷ t; ps = i.ps; digits = refl; small = l; due = i.due; text = i.text }

    byte_back : (f : Phase) (d : ℕ) (r : Bool) → go_on (step q b f d r) rest false ≡ true → Completes f d r (b ∷ t)
    unfolding step Completes
    byte_back nothing d r h = (sum_back d r h, no_space_lem d r h)
    byte_back sum_due d r h = cond_step (eqb b space) _ _ h (λ c e. spaced_sum (eqb-true b space c) (ih sum_due d r e)) (λ _ h. sum_back d r h)
    byte_back term_due d r h = cond_step (eqb b space) _ _ h (λ c e. spaced_term (eqb-true b space c) (ih term_due d r e)) (λ _ h. term_back d r h)
    byte_back factor_due d r h = cond_step (eqb b space) _ _ h (λ c e. spaced_factor (eqb-true b space c) (ih factor_due d r e)) (λ _ h. factor_back d r h)
    byte_back index_due d r h =
        cond_step (is_digit b) _ _ h
        (λ c e.
        let (low, high) = digit_range b c in
        index_back (digit b) d r [] (rw (decimal_digit (digit b) (omega arith), digit_byte b low)) e)
        (λ _ h. never h)
    byte_back (in_number zero) d r h = λ n least room. number_over d r n (omega (arith, room_small room)) h
    byte_back (in_number (suc k)) d r h =
        λ n least room.
        cond_step (is_digit b) _ _ h (λ c e. number_more k d r n c (least (omega arith)) room e) (λ _ h. number_over d r n (omega (arith, room_small room)) h)
    byte_back after_number d r h = digits_back d r h
    byte_back (in_index k) d r h =
        λ least most.
        cond_step (is_digit b) _ _ h
        (λ c e.
        let (low, high) = digit_range b c in
        index_back (k * 10 + digit b) d r (decimal k) (rw (decimal_next k (digit b) least high, digit_byte b low)) e)
        (λ _ h. let i = ends_back d r h in record { m = k; rest = b ∷ t; ps = i.ps; digits = refl; least = least; most = most; due = i.due; text = i.text })
    byte_back after_bracket d r h = let i = ends_back d r h in record { ps = i.ps; due = i.due; text = i.text }
    byte_back after_term d r h = ends_back d r h

  -- ---- every text

  final_after : (d : ℕ) (r : Bool) → (eqb d 0 && r) ≡ true → After d r []
  final_after zero true h = end
  final_after zero false h = never h
  final_after (suc d) r h = never (sym (ap (λ b. b && r) (ne_eqb (suc d) 0 (λ e. omega arith))) ∙ h)

  end_back : (f : Phase) (d : ℕ) (r : Bool) → final f d r ≡ true → Completes f d r []
  unfolding Completes
  end_back nothing d r h = never h
  end_back sum_due d r h = never h
  end_back term_due d r h = never h
  end_back factor_due d r h = never h
  end_back index_due d r h = never h
  end_back (in_number k) d r h =
      λ n least room. record { m = n; rest = []; ps = []; digits = refl; small = omega (arith, room_small room); due = over (final_after d r h); text = done }
  end_back after_number d r h = never h
  end_back (in_index k) d r h =
      λ least most. record { m = k; rest = []; ps = []; digits = refl; least = least; most = most; due = final_after d r h; text = done }
  end_back after_bracket d r h = record { ps = []; due = final_after d r h; text = done }
  end_back after_term d r h = never h

  completes : (t : List ℕ) (f : Phase) (d : ℕ) (r : Bool) → accepts q f d r t ≡ true → Completes f d r t
  unfolding accepts
  completes [] f d r h = end_back f d r h
  completes (b ∷ t) f d r h = byte_back b t (λ g e s x. completes t g e s x) f d r h

  -- A text without a fault has a reading.
  pub accepted_reads : (t : List ℕ) → accepts q nothing 0 false t ≡ true → (e : Equation) × Reads q e t
  unfolding Completes parts
  accepted_reads t h =
      let (i, j) = completes t nothing 0 false h in
      let (f, g, x) = equated_by i.due.after (one i.due.lead i.due.term) in
      (record { left = f; right = g }, record { spells = rw (i.due.is ∙ x) at i.text; begins = j })
