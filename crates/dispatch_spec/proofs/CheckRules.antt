-- Document 02, job 14: 27 and 28 as rules in its words and order, that the checks render them, and what is known once both let a call go on.
-- Assumes nothing.
use Rattle.std.specs.Prelude.{◌≡◌, ◌⊎◌, Bool, true, false, not, ◌&&◌, ◌||◌, ℕ, ◌+◌, ◌≤◌, ◌<◌, T, leb, ltb, eqb, length}
use Rattle.std.proofs.Math.Logic.{inl, inr}
use Rattle.std.proofs.Math.Decide.{ℕ_discrete}
use Rattle.std.proofs.Common.{arith, T_not, leb→le, le→leb, ltb→lt, lt→ltb, eqb→eq}
use Rattle.std.proofs.Math.Dec.{not_T}
use Rattle.linear.proofs.Cases.{split}
use Rattle.linear.specs.Tests.{all_to}
use Rattle.linear.proofs.TestLaws.{T-dec, all_not, and_both, and_parts}
use Rattle.definitions.specs.Answers.{go}
use Rattle.definitions.specs.Refusals.{between}
use Rattle.laws.specs.CheckLaws.{Decides, Renders, Rules, ◌▹◌, end, rule}
use Rattle.laws.proofs.CheckLaws.{decides_if, renders_last, renders_then}
use Rattle.laws.specs.RefusalLaws.{Outside}
use Rattle.dispatch_spec.specs.Parts.{Part, fits, overlap, all_fit, none_overlap, apart}
use Rattle.dispatch_spec.proofs.PartLaws.{In, Apart, apart_says}
use Rattle.dispatch_spec.proofs.TurnLaws.{Laid}
use Rattle.dispatch_spec.specs.Dispatch.{Schedule, Round, most_runs, check27, check28, dispatch_checks}

-- ---- the cases

-- "two parts overlap or leave the table"
pub data Clash (n len : ℕ) (part : ℕ → Part) : Type 0 where
  leaves : (i : ℕ) → i < n → len < (part i).start + (part i).size → Clash n len part
  overlaps : (i j : ℕ) → i < n → j < n → ¬ (i ≡ j) → (x : ℕ) → In (part i) x → In (part j) x → Clash n len part

-- "27, not 1 to 8 runs, a turn of 0 steps or a kept number above 8"
abbrev pub Case27 : Schedule → Round → Type 0
Case27 d r = Outside 1 most_runs d.count ⊎ ((d.quantum ≡ 0) ⊎ (most_runs < r.last))

-- "28, two parts overlap or leave the table"
abbrev pub Case28 : Schedule → Round → Type 0
Case28 d r = Clash d.count (length r.stack) (λ i. (d.shares i).stack_part) ⊎ Clash d.count (length r.list) (λ i. (d.shares i).list_part)

abbrev pub dispatch_rules : Schedule → Round → Rules
dispatch_rules d r = rule 27 (Case27 d r) ▹ rule 28 (Case28 d r) ▹ end

-- ---- tests

or_cases : (b c : Bool) → T (b || c) → T b ⊎ T c
or_cases true c h = inl tt
or_cases false c h = inr h

or_left : (b c : Bool) → T b → T (b || c)
or_left true c h = tt
or_left false c h = absurd h

or_right : (b c : Bool) → T c → T (b || c)
or_right true c h = tt
or_right false c h = h

fails : (b : Bool) → T (not b) → ¬ (T b)
fails b h y = T_not b h y

-- ---- 27

outside_from : (a b n : ℕ) → T (not (between a b n)) → Outside a b n
outside_from a b n h =
    elim (split n a) [
      | inl l ↦ inl l
      | inr l ↦ elim (split b n) [
        | inl k ↦ inr k
        | inr k ↦ absurd (T_not (between a b n) h (and_both (leb a n) (leb n b) (le→leb a n l) (le→leb n b k)))
      ]
    ]

outside_to : (a b n : ℕ) → Outside a b n → T (not (between a b n))
outside_to a b n o =
    not_T (between a b n) (λ h.
    let (x, y) = and_parts (leb a n) (leb n b) h in
    let l = leb→le a n x in
    let k = leb→le n b y in
    elim o [ inl u ↦ omega arith | inr u ↦ omega arith ])

module _ (d : Schedule) (r : Round) where
  abbrev count : Bool
  count = not (between 1 most_runs d.count)

  abbrev turn : Bool
  turn = eqb d.quantum 0

  abbrev kept : Bool
  kept = ltb most_runs r.last

  decides_27 : Decides (check27 d r) (rule 27 (Case27 d r))
  decides_27 = decides_if (count || (turn || kept)) 27 (Case27 d r) to from
    where
      to : T (count || (turn || kept)) → Case27 d r
      to h =
          elim (or_cases count (turn || kept) h) [
            | inl x ↦ inl (outside_from 1 most_runs d.count x)
            | inr y ↦ elim (or_cases turn kept y) [ inl x ↦ inr (inl (eqb→eq d.quantum 0 x)) | inr x ↦ inr (inr (ltb→lt most_runs r.last x)) ]
          ]

      from : Case27 d r → T (count || (turn || kept))
      from c =
          elim c [
            | inl o ↦ or_left count (turn || kept) (outside_to 1 most_runs d.count o)
            | inr y ↦ or_right count (turn || kept) (elim y [ inl e ↦ or_left turn kept (rw e tt) | inr l ↦ or_right turn kept (lt→ltb most_runs r.last l) ])
          ]

-- ---- 28

-- parts that overlap have a place in common
common : (a b : Part) → T (overlap a b) → (x : ℕ) × In a x × In b x
unfolding overlap
common a b h =
    let (u, v) = and_parts (ltb a.start (a.start + a.size) && ltb a.start (b.start + b.size))
    (ltb b.start (a.start + a.size) && ltb b.start (b.start + b.size)) h in
    let (p, q) = and_parts (ltb a.start (a.start + a.size)) (ltb a.start (b.start + b.size)) u in
    let (s, t) = and_parts (ltb b.start (a.start + a.size)) (ltb b.start (b.start + b.size)) v in
    let p' = ltb→lt a.start (a.start + a.size) p in
    let q' = ltb→lt a.start (b.start + b.size) q in
    let s' = ltb→lt b.start (a.start + a.size) s in
    let t' = ltb→lt b.start (b.start + b.size) t in
    elim (split a.start b.start) [
      | inl l ↦ (b.start, record { from = omega arith; before = s' }, record { from = omega arith; before = t' })
      | inr l ↦ (a.start, record { from = omega arith; before = p' }, record { from = omega arith; before = q' })
    ]

module _ (n len : ℕ) (part : ℕ → Part) where
  leaving : ¬ (T (all_fit n len part)) → Clash n len part
  leaving h =
      let (i, l, f) = all_not n (λ i. fits len (part i)) h in
      leaves i l (elim (split len ((part i).start + (part i).size)) [ inl k ↦ k | inr k ↦ absurd (f (le→leb _ _ k)) ])

  overlapping : ¬ (T (none_overlap n part)) → Clash n len part
  overlapping h =
      let (i, l, f) = all_not n (λ i. all_to i (λ j. not (overlap (part i) (part j)))) h in
      let (j, k, g) = all_not i (λ j. not (overlap (part i) (part j))) f in
      let (x, p, q) = common (part i) (part j)
      (elim (T-dec (overlap (part i) (part j))) [ inl w ↦ w | inr w ↦ absurd (g (not_T (overlap (part i) (part j)) w)) ]) in
      overlaps i j l (omega arith) (λ e. omega arith) x p q

  clash_from : ¬ (T (apart n len part)) → Clash n len part
  unfolding apart
  clash_from h =
      elim (T-dec (all_fit n len part)) [
        | inr y ↦ leaving y
        | inl y ↦ overlapping (λ z. h (and_both (all_fit n len part) (none_overlap n part) y z))
      ]

  clash_not : Clash n len part → ¬ (T (apart n len part))
  clash_not (leaves i l k) h = omega (arith, (apart_says n len part h).fit i l)
  clash_not (overlaps i j l k ne x p q) h = (apart_says n len part h).none i j l k ne x p q

module _ (d : Schedule) (r : Round) where
  abbrev stacks : Bool
  stacks = apart d.count (length r.stack) (λ i. (d.shares i).stack_part)

  abbrev lists : Bool
  lists = apart d.count (length r.list) (λ i. (d.shares i).list_part)

  decides_28 : Decides (check28 d r) (rule 28 (Case28 d r))
  decides_28 = decides_if (not (stacks && lists)) 28 (Case28 d r) to from
    where
      to : T (not (stacks && lists)) → Case28 d r
      to h =
          elim (T-dec stacks) [
            | inr x ↦ inl (clash_from d.count (length r.stack) (λ i. (d.shares i).stack_part) x)
            | inl x ↦ inr (clash_from d.count (length r.list) (λ i. (d.shares i).list_part) (λ y. fails (stacks && lists) h (and_both stacks lists x y)))
          ]

      from : Case28 d r → T (not (stacks && lists))
      from c =
          not_T (stacks && lists) (λ h.
          let (x, y) = and_parts stacks lists h in
          elim c [
            | inl k ↦ clash_not d.count (length r.stack) (λ i. (d.shares i).stack_part) k x
            | inr k ↦ clash_not d.count (length r.list) (λ i. (d.shares i).list_part) k y
          ])

-- each is given in its case and in no other, 27 first
pub dispatch_renders : (d : Schedule) (r : Round) → Renders (dispatch_checks d r) (dispatch_rules d r)
unfolding dispatch_checks
dispatch_renders d r = renders_then (decides_27 d r) (renders_last (decides_28 d r))

-- ---- a call that goes on

pub record Accepted (d : Schedule) (r : Round) : Type 0 where
  pub some_run : 0 < d.count
  pub few_runs : d.count ≤ most_runs
  pub some_step : 0 < d.quantum
  pub kept : r.last ≤ most_runs
  pub laid : Laid d r

apart_by : (n len : ℕ) (part : ℕ → Part) → ¬ (Clash n len part) → Apart n len part
apart_by n len part h =
    record {
      fit = λ i l. elim (split len ((part i).start + (part i).size)) [ inl k ↦ absurd (h (leaves i l k)) | inr k ↦ k ];
      none = λ i j l k ne x p q. h (overlaps i j l k ne x p q);
    }

pub accepted : (d : Schedule) (r : Round) → dispatch_checks d r ≡ go → Accepted d r
accepted d r e =
    let silent = (dispatch_renders d r).goes e in
    let a = silent.0 in
    let b = silent.1.0 in
    record {
      some_run = elim (split 0 d.count) [ inl l ↦ l | inr l ↦ absurd (a (inl (inl (omega arith)))) ];
      few_runs = elim (split most_runs d.count) [ inl l ↦ absurd (a (inl (inr l))) | inr l ↦ l ];
      some_step = elim (ℕ_discrete d.quantum 0) [ yes q ↦ absurd (a (inr (inl q))) | no q ↦ omega (arith, q) ];
      kept = elim (split most_runs r.last) [ inl l ↦ absurd (a (inr (inr l))) | inr l ↦ l ];
      laid = record { stacks = apart_by _ _ _ (λ k. b (inl k)); lists = apart_by _ _ _ (λ k. b (inr k)) };
    }
