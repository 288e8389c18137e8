-- The readers of sums, terms and brackets, by what stands at a place of the text. Assumes nothing.
use Prim.Native.Nat.{ℕ, zero, suc, ◌+◌, ◌-◌, ◌≤◌, ◌<◌}
use Rattle.std.specs.Prelude.{Bool, true, false, cond, ◌||◌, List, [], ◌∷◌, ◌≡◌, eqb, ℤ, pos, ◌*ℤ◌, get_or, drop}
use Rattle.std.proofs.Math.Path.{refl, sym, ap}
use Rattle.std.proofs.Common.{◌∙◌, drop_of_length-le}
use native.Mathlib.Omega.{arith}
use Rattle.std.proofs.Math.ListN.{length, length-drop}
use Rattle.definitions.specs.Refusals.{out_of_range}
use Rattle.texts.specs.Reading.{Parse, parsed, malformed, and_then, is_digit}
use Rattle.texts.proofs.NumberLaws.{byte_at}
use Rattle.equation_spec.specs.Grammar.{Sign, plus, minus, Lead, bare, led, Sum, one, more, Term, number, plain, times, Factor, bracket}
use Rattle.equation_spec.specs.Meaning.{signed, led_by}
use Rattle.equation_spec.specs.Reader.{skip, on_byte, on_sign, read_numeral, read_index, read_factor, after_numeral, read_term, more_terms, first_term}
use Rattle.equation_spec.specs.Reader.{read_sum}
use Rattle.equation_spec.specs.Reader.{closed, read_bracket}
use Rattle.equation_read.specs.Places.{lead_of, after_lead, is_led, is_minus, starts}
use Rattle.equation_read.specs.Totals.{add_at, signed_by, bounded, add_sum, add_term, add_factor, exceeds_sum, exceeds_term, exceeds_factor, Collected}
use Rattle.equation_read.specs.Totals.{collected, stopped, sum_collected, term_collected, factor_collected, bracket_collected, Small}
use Rattle.equation_read.specs.ByteLaws.{starts_byte, lead_none, after_shorter}
use Rattle.equation_read.specs.RoomLaws.{less_left, skip_left}

never : {P : Type 0} → ◌≡◌ {A = ℕ} 0 1 → P
never e = absurd (omega arith)

other_byte : {A : Type 0} (b : ℕ) (s : List ℕ) (f : List ℕ → A) (a : A) → starts b s ≡ false → on_byte b s f a ≡ a
unfolding on_byte
other_byte b [] f a e = refl
other_byte b (c ∷ s) f a e = rw e

number_value : (z : ℤ) (ts : List ℤ) (n : ℕ) (r : List ℕ) → collected (add_at 0 (z *ℤ pos n) ts) false r ≡ term_collected z ts (parsed (number n) r)
unfolding term_collected add_term exceeds_term
number_value z ts n r = refl

-- ---- what was collected tells what was read

module _ (z : ℤ) (ts : List ℤ) where
  pub sum_parsed : (p : Parse Sum) {us : List ℤ} {st : Bool} {r : List ℕ} → collected us st r ≡ sum_collected z ts p
      → (e : Sum) × (p ≡ parsed e r) × (us ≡ add_sum e z ts) × (st ≡ exceeds_sum e z)
  unfolding sum_collected
  sum_parsed (parsed e t) {us} {st} {r} h = let x : t ≡ r = cc in (e, ap (parsed e) x, cc, cc)
  sum_parsed malformed h = never cc

  pub sum_stopped : (p : Parse Sum) → stopped ≡ sum_collected z ts p → p ≡ malformed
  unfolding sum_collected
  sum_stopped (parsed e t) h = never cc
  sum_stopped malformed h = refl

  pub term_parsed : (p : Parse Term) {us : List ℤ} {st : Bool} {r : List ℕ} → collected us st r ≡ term_collected z ts p
      → (u : Term) × (p ≡ parsed u r) × (us ≡ add_term u z ts) × (st ≡ exceeds_term u z)
  unfolding term_collected
  term_parsed (parsed u t) {us} {st} {r} h = let x : t ≡ r = cc in (u, ap (parsed u) x, cc, cc)
  term_parsed malformed h = never cc

  pub term_stopped : (p : Parse Term) → stopped ≡ term_collected z ts p → p ≡ malformed
  unfolding term_collected
  term_stopped (parsed u t) h = never cc
  term_stopped malformed h = refl

  -- ---- a factor

  bracket_factor : (p : Parse Sum) → bracket_collected z ts p ≡ factor_collected z ts (and_then p (λ e. parsed (bracket e)))
  unfolding bracket_collected factor_collected and_then
  bracket_factor (parsed e r) = refl
  bracket_factor malformed = refl

  plain_factor : (p : Parse Factor) → factor_collected z ts p ≡ term_collected z ts (and_then p (λ f. parsed (plain f)))
  unfolding factor_collected term_collected and_then add_term exceeds_term
  plain_factor (parsed f r) = refl
  plain_factor malformed = refl

  times_factor : (n : ℕ) (p : Parse Factor) → factor_collected (z *ℤ pos n) ts p ≡ term_collected z ts (and_then p (λ f. parsed (times n f)))
  unfolding factor_collected term_collected and_then add_term exceeds_term
  times_factor n (parsed f r) = refl
  times_factor n malformed = refl

module _ (q d : ℕ) (z : ℤ) (ts : List ℤ) (t : List ℕ) (i : ℕ) where
  pub factor_bracket : {x : Collected} → starts 40 (drop i t) ≡ true → x ≡ bracket_collected z ts (read_bracket q d (drop (i + 1) t))
      → x ≡ factor_collected z ts (read_factor (read_bracket q d) q (drop i t))
  unfolding read_factor on_byte
  factor_bracket e h = rw (starts_byte t i 40 e) (h ∙ bracket_factor z ts _)

  pub factor_malformed : starts 120 (drop i t) ≡ true → malformed ≡ read_index q (drop (i + 1) t)
      → stopped ≡ factor_collected z ts (read_factor (read_bracket q d) q (drop i t))
  unfolding read_factor on_byte and_then factor_collected
  factor_malformed e h = rw (starts_byte t i 120 e, ← h)

  pub factor_unknown : (k : ℕ) {r : List ℕ} → starts 120 (drop i t) ≡ true → parsed k r ≡ read_index q (drop (i + 1) t)
      → collected (add_at k z ts) false r ≡ factor_collected z ts (read_factor (read_bracket q d) q (drop i t))
  unfolding read_factor on_byte and_then factor_collected add_factor exceeds_factor
  factor_unknown k e h = rw (starts_byte t i 120 e, ← h)

pub factor_none : (q d : ℕ) (z : ℤ) (ts : List ℤ) (s : List ℕ) → starts 40 s ≡ false → starts 120 s ≡ false
    → stopped ≡ factor_collected z ts (read_factor (read_bracket q d) q s)
unfolding read_factor on_byte factor_collected
factor_none q d z ts [] e h = refl
factor_none q d z ts (b ∷ s) e h = rw (h, e)

-- ---- a term

module _ (q d : ℕ) (z : ℤ) (ts : List ℤ) (t : List ℕ) (i : ℕ) where
  pub term_end : length t ≤ i → stopped ≡ term_collected z ts (read_term (read_bracket q d) q (drop i t))
  unfolding read_term term_collected
  term_end l = rw (drop_of_length-le t l)

  pub term_factor : {x : Collected} → i < length t → is_digit (get_or t i 0) ≡ false → x ≡ factor_collected z ts (read_factor (read_bracket q d) q (drop i t))
      → x ≡ term_collected z ts (read_term (read_bracket q d) q (drop i t))
  unfolding read_term
  term_factor l e h = h ∙ plain_factor z ts _ ∙ ap (term_collected z ts) (rw (byte_at t i l, e))

  -- a number is read first
  number_first : i < length t → is_digit (get_or t i 0) ≡ true
      → read_term (read_bracket q d) q (drop i t) ≡ and_then (read_numeral (drop i t)) (after_numeral (read_bracket q d) q)
  unfolding read_term
  number_first l e = rw (byte_at t i l, e)

  pub term_malformed : i < length t → is_digit (get_or t i 0) ≡ true → malformed ≡ read_numeral (drop i t)
      → stopped ≡ term_collected z ts (read_term (read_bracket q d) q (drop i t))
  unfolding and_then term_collected
  term_malformed l e h = rw (number_first l e, ← h)

  module _ (n j k : ℕ) (l : i < length t) (e : is_digit (get_or t i 0) ≡ true) (h : parsed n (drop j t) ≡ read_numeral (drop i t))
      (s : drop k t ≡ skip (drop j t)) where
    pub term_number : starts 42 (drop k t) ≡ false
        → collected (add_at 0 (z *ℤ pos n) ts) false (drop j t) ≡ term_collected z ts (read_term (read_bracket q d) q (drop i t))
    unfolding and_then after_numeral
    term_number x = rw (number_first l e, ← h, ← s, other_byte 42 (drop k t) _ _ x) (number_value z ts n (drop j t))

    pub term_times : (m : ℕ) {x : Collected} → starts 42 (drop k t) ≡ true → drop m t ≡ skip (drop (k + 1) t)
        → x ≡ factor_collected (z *ℤ pos n) ts (read_factor (read_bracket q d) q (drop m t))
        → x ≡ term_collected z ts (read_term (read_bracket q d) q (drop i t))
    unfolding and_then after_numeral on_byte
    term_times m y v w = w ∙ times_factor z ts n _ ∙ ap (term_collected z ts) (rw (number_first l e, ← h, ← s, starts_byte t k 42 y, ← v))

-- ---- a bracket

pub bracket_none : (q d : ℕ) (z : ℤ) (ts : List ℤ) (s : List ℕ) → d ≡ 0 → stopped ≡ bracket_collected z ts (read_bracket q d s)
unfolding read_bracket bracket_collected
bracket_none q zero z ts s e = refl
bracket_none q (suc d) z ts s e = absurd (omega arith)

module _ (q d : ℕ) (z : ℤ) (ts : List ℤ) (t : List ℕ) (i j : ℕ) (some : d ≡ 0 → ⊥) (s : drop j t ≡ skip (drop i t)) where
  pub bracket_opened : read_bracket q d (drop i t) ≡ and_then (read_sum (read_bracket q (d - 1)) q (drop j t)) closed
  unfolding read_bracket
  bracket_opened = go d some
    where
      go : (d : ℕ) → (d ≡ 0 → ⊥) → read_bracket q d (drop i t) ≡ and_then (read_sum (read_bracket q (d - 1)) q (drop j t)) closed
      go zero f = absurd (f refl)
      go (suc d) f = let x : suc d - 1 ≡ d = omega arith in rw (x, s)

  pub bracket_stopped : stopped ≡ sum_collected (bounded z) ts (read_sum (read_bracket q (d - 1)) q (drop j t))
      → stopped ≡ bracket_collected z ts (read_bracket q d (drop i t))
  unfolding and_then bracket_collected
  bracket_stopped h = rw (bracket_opened, sum_stopped (bounded z) ts _ h)

  module _ (n k : ℕ) {us : List ℤ} {st : Bool} (h : collected us st (drop n t) ≡ sum_collected (bounded z) ts (read_sum (read_bracket q (d - 1)) q (drop j t)))
      (v : drop k t ≡ skip (drop n t)) where
    pub bracket_open : starts 41 (drop k t) ≡ false → stopped ≡ bracket_collected z ts (read_bracket q d (drop i t))
    unfolding and_then closed bracket_collected
    bracket_open x =
        let (e, a, b, c) = sum_parsed (bounded z) ts (read_sum (read_bracket q (d - 1)) q (drop j t)) h in
        rw (bracket_opened, a, ← v, other_byte 41 (drop k t) (parsed e) malformed x)

    closed_with : (e : Sum) → read_sum (read_bracket q (d - 1)) q (drop j t) ≡ parsed e (drop n t) → us ≡ add_sum e (bounded z) ts
        → st ≡ exceeds_sum e (bounded z)
        → starts 41 (drop k t) ≡ true → collected us (st || out_of_range z) (drop (k + 1) t) ≡ bracket_collected z ts (read_bracket q d (drop i t))
    unfolding and_then closed on_byte bracket_collected add_factor exceeds_factor
    closed_with e a b c x = rw (bracket_opened, a, ← v, starts_byte t k 41 x, b, c)

    pub bracket_closed : starts 41 (drop k t) ≡ true
        → collected us (st || out_of_range z) (drop (k + 1) t) ≡ bracket_collected z ts (read_bracket q d (drop i t))
    bracket_closed x =
        let (e, a, b, c) = sum_parsed (bounded z) ts (read_sum (read_bracket q (d - 1)) q (drop j t)) h in
        closed_with e a b c x

-- ---- signs

on_none : {A : Type 0} (s : List ℕ) (f : Sign → List ℕ → A) (a : A) → is_led (lead_of s) ≡ false → on_sign s f a ≡ a
unfolding lead_of on_sign on_byte
on_none [] f a e = refl
on_none (b ∷ s) f a e = go (eqb b 43) (eqb b 45) e
  where
    go : (c d : Bool) → is_led (cond c (led plus) (cond d (led minus) bare)) ≡ false → cond c (f plus s) (cond d (f minus s) a) ≡ a
    go true d e = never cc
    go false true e = never cc
    go false false e = refl

on_led : {A : Type 0} (s : List ℕ) (f : Sign → List ℕ → A) (a : A) (g : Sign) → lead_of s ≡ led g → on_sign s (λ h r. f h (skip r)) a ≡ f g (after_lead s)
unfolding lead_of after_lead on_sign on_byte
on_led [] f a g e = never cc
on_led (b ∷ s) f a g e = go (eqb b 43) (eqb b 45) e
  where
    go : (c d : Bool) → cond c (led plus) (cond d (led minus) bare) ≡ led g
        → cond c (f plus (skip s)) (cond d (f minus (skip s)) a) ≡ f g (cond c (skip s) (cond d (skip s) (b ∷ s)))
    go true d e = let x : plus ≡ g = cc in rw x
    go false true e = let x : minus ≡ g = cc in rw x
    go false false e = never cc

led_some : (l : Lead) → is_led l ≡ true → (g : Sign) × (l ≡ led g)
led_some bare e = never cc
led_some (led g) e = (g, refl)

bare_some : (l : Lead) → is_led l ≡ false → l ≡ bare
bare_some bare e = refl
bare_some (led g) e = never cc

lead_value : (l : Lead) (z : ℤ) → led_by l z ≡ signed_by (is_minus l) z
lead_value bare z = refl
lead_value (led plus) z = refl
lead_value (led minus) z = refl

module _ (inside : List ℕ → Parse Sum) (q : ℕ) where
  sum_first : (s : List ℕ) → read_sum inside q s ≡ first_term inside q (length s) (lead_of s) (after_lead s)
  unfolding read_sum
  sum_first s = go (lead_of s) refl
    where
      go : (l : Lead) → lead_of s ≡ l → read_sum inside q s ≡ first_term inside q (length s) (lead_of s) (after_lead s)
      go bare e = rw e (on_none s _ _ (ap is_led e) ∙ ap (first_term inside q (length s) bare) (sym (lead_none s (ap is_led e))))
      go (led g) e = rw e (on_led s (λ h r. first_term inside q (length s) (led h) r) _ g e)

  more_none : (k : ℕ) (e : Sum) (s : List ℕ) → is_led (lead_of (skip s)) ≡ false → more_terms inside q k e s ≡ parsed e s
  unfolding more_terms
  more_none zero e s h = refl
  more_none (suc k) e s h = on_none (skip s) _ _ h

  more_led : (k : ℕ) (e : Sum) (s : List ℕ) (g : Sign) → lead_of (skip s) ≡ led g
      → more_terms inside q (suc k) e s ≡ and_then (read_term inside q (after_lead (skip s))) (λ u. more_terms inside q k (more e g u))
  unfolding more_terms
  more_led k e s g h = on_led (skip s) (λ f r. and_then (read_term inside q r) (λ u. more_terms inside q k (more e f u))) (parsed e s) g h

sign_value : (g : Sign) (z : ℤ) → signed g z ≡ signed_by (is_minus (led g)) z
sign_value plus z = refl
sign_value minus z = refl

fuel : (n : ℕ) → 1 ≤ n → (m : ℕ) × (n ≡ suc m)
fuel zero l = absurd (omega arith)
fuel (suc m) l = (m, refl)

-- ---- the terms of a sum

-- Of a sum that began at place i, the terms before place `next` are in the totals ts, and one more is due there.
pub record Due (q d : ℕ) (t : List ℕ) (i : ℕ) (z : ℤ) (ts₀ ts : List ℤ) (next : ℕ) (neg : Bool) (exceeds : Bool) : Type 0 where
  pub sum : Term → Sum
  pub k : ℕ
  pub enough : length t - next ≤ k
  pub comes : and_then (read_term (read_bracket q d) q (drop next t)) (λ u. more_terms (read_bracket q d) q k (sum u))
      ≡ read_sum (read_bracket q d) q (drop i t)
  pub adds : (u : Term) → add_sum (sum u) z ts₀ ≡ add_term u (signed_by neg z) ts
  pub exceed : (u : Term) → exceeds_sum (sum u) z ≡ (exceeds || exceeds_term u (signed_by neg z))
  pub onward : length t - next ≤ length t - i
  pub room : Small ts (length t - next)

pub after_left : (t : List ℕ) (i j : ℕ) → drop j t ≡ after_lead (drop i t) → length t - j ≤ length t - i
after_left t i j e = omega (arith, ap length e, after_shorter (drop i t), length-drop i t, length-drop j t)

module _ (q d : ℕ) (t : List ℕ) (i : ℕ) (z : ℤ) (ts : List ℤ) where
  pub due_first : (next : ℕ) → drop next t ≡ after_lead (drop i t) → Small ts (length t - i) → Due q d t i z ts ts next (is_minus (lead_of (drop i t))) false
  unfolding first_term add_sum exceeds_sum
  due_first next e r =
      let l = lead_of (drop i t) in
      record {
        sum = one l;
        k = length (drop i t);
        enough = omega (arith, after_left t i next e, length-drop i t);
        comes = rw e (sym (sum_first (read_bracket q d) q (drop i t)));
        adds = λ u. ap (λ x. add_term u x ts) (lead_value l z);
        exceed = λ u. ap (λ x. exceeds_term u x) (lead_value l z);
        onward = after_left t i next e;
        room = less_left (after_left t i next e) r;
      }

  module _ {us : List ℤ} {next : ℕ} {neg : Bool} {exceeds : Bool} (a : Due q d t i z ts us next neg exceeds) where
    pub due_stopped : stopped ≡ term_collected (signed_by neg z) us (read_term (read_bracket q d) q (drop next t))
        → stopped ≡ sum_collected z ts (read_sum (read_bracket q d) q (drop i t))
    unfolding and_then sum_collected
    due_stopped h =
        ap (sum_collected z ts)
        (sym (ap (λ p. and_then p (λ u. more_terms (read_bracket q d) q a.k (a.sum u))) (term_stopped (signed_by neg z) us _ h)) ∙ a.comes)

    -- the term is read, up to place j
    module _ (j k : ℕ) {vs : List ℤ} {more' : Bool}
        (h : collected vs more' (drop j t) ≡ term_collected (signed_by neg z) us (read_term (read_bracket q d) q (drop next t)))
        (s : drop k t ≡ skip (drop j t)) where
      -- the sum with it, and what is left to read
      with_term : (e : Sum) × (more_terms (read_bracket q d) q a.k e (drop j t) ≡ read_sum (read_bracket q d) q (drop i t)) × (vs ≡ add_sum e z ts)
          × ((exceeds || more') ≡ exceeds_sum e z)
      unfolding and_then
      with_term =
          let (u, x, y, w) = term_parsed (signed_by neg z) us (read_term (read_bracket q d) q (drop next t)) h in (
            a.sum u,
            sym (ap (λ p. and_then p (λ u. more_terms (read_bracket q d) q a.k (a.sum u))) x) ∙ a.comes,
            y ∙ sym (a.adds u),
            ap (λ b. exceeds || b) w ∙ sym (a.exceed u),
          )

      over_with : (e : Sum) → more_terms (read_bracket q d) q a.k e (drop j t) ≡ read_sum (read_bracket q d) q (drop i t) → vs ≡ add_sum e z ts
          → (exceeds || more') ≡ exceeds_sum e z
          → is_led (lead_of (drop k t)) ≡ false → collected vs (exceeds || more') (drop j t) ≡ sum_collected z ts (read_sum (read_bracket q d) q (drop i t))
      unfolding sum_collected
      over_with e x y w l = rw (← x, more_none (read_bracket q d) q a.k e (drop j t) (rw s at l), y, w)

      pub due_over : is_led (lead_of (drop k t)) ≡ false
          → collected vs (exceeds || more') (drop j t) ≡ sum_collected z ts (read_sum (read_bracket q d) q (drop i t))
      due_over l = let (e, x, y, w) = with_term in over_with e x y w l

      next_with : (e : Sum) (g : Sign) (k' m : ℕ) → a.k ≡ suc k' → lead_of (drop k t) ≡ led g
          → more_terms (read_bracket q d) q a.k e (drop j t) ≡ read_sum (read_bracket q d) q (drop i t) → vs ≡ add_sum e z ts
          → (exceeds || more') ≡ exceeds_sum e z → drop m t ≡ after_lead (drop k t) → length t - j < length t - next → Small vs (length t - j)
          → Due q d t i z ts vs m (is_minus (lead_of (drop k t))) (exceeds || more')
      unfolding add_sum exceeds_sum
      next_with e g k' m c led-by x y w v less r =
          let n = after_left t k m v in
          let o = skip_left t j k s in
          record {
            sum = more e g;
            k = k';
            enough = omega (arith, a.enough);
            comes = rw (v, s) (sym (more_led (read_bracket q d) q k' e (drop j t) g (rw s at led-by)) ∙ rw c at x);
            adds = λ u. rw (led-by, ← y) (ap (λ b. add_term u b vs) (sign_value g z));
            exceed = λ u. rw (led-by, ← w) (ap (λ b. (exceeds || more') || exceeds_term u b) (sign_value g z));
            onward = omega (arith, a.onward);
            room = less_left (omega arith) r;
          }

      pub due_next : (m : ℕ) → is_led (lead_of (drop k t)) ≡ true → drop m t ≡ after_lead (drop k t) → length t - j < length t - next → Small vs (length t - j)
          → Due q d t i z ts vs m (is_minus (lead_of (drop k t))) (exceeds || more')
      due_next m l v less r =
          let (e, x, y, w) = with_term in
          let (g, led-by) = led_some (lead_of (drop k t)) l in
          let (k', c) = fuel a.k (omega (arith, a.enough)) in
          next_with e g k' m c led-by x y w v less r
