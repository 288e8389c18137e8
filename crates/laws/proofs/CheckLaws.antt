-- Theorems about what specs/CheckLaws.antt defines. Assumes nothing.
use Rattle.std.specs.Prelude.{◌≡◌, refl, ◌⊎◌, Bool, true, false, not, List, ◌∷◌, [], ℕ, zero, suc, ◌<◌, T, ltb}
use Rattle.std.proofs.Common.{sym, ◌∙◌, inl, inr, arith, T_not, ltb→lt, lt→ltb}
use Rattle.std.proofs.Math.Dec.{not_T}
use Rattle.linear.specs.Cases.{below_suc}
use Rattle.linear.proofs.Cases.{order}
use Rattle.linear.proofs.TestLaws.{T-dec}
use Rattle.definitions.specs.Answers.{Check, ◌then◌, go, refuse, refuse_first, refuse_if, refuse_with}
use Rattle.laws.proofs.AnswerLaws.{then_go}
use Rattle.laws.specs.CheckLaws.{AllSilent, Decides, Due, FirstDue, Renders, Rule, Rules, Silent, end, placed, rule, ◌▹▹◌, ◌▹◌}

pub refuse_not_go : {n : ℕ} {values : List ℕ} → refuse n values ≡ go → ⊥
refuse_not_go e = let z : ◌≡◌ {A = ℕ} 0 1 = cc in omega arith

-- a check goes on or refuses
pub check_cases : (c : Check) → (c ≡ go) ⊎ ((n : ℕ) × (values : List ℕ) × (c ≡ refuse n values))
check_cases go = inl refl
check_cases (refuse n values) = inr (n, values, refl)

then_refuses : {c : Check} {n : ℕ} {values : List ℕ} (d : Check) → c ≡ refuse n values → (c then d) ≡ refuse n values
unfolding ◌then◌
then_refuses d e = rw e

then_goes : {c : Check} (d : Check) → c ≡ go → (c then d) ≡ d
unfolding ◌then◌
then_goes d e = rw e

pub renders_last : {c : Check} {r : Rule} → Decides c r → Renders c (r ▹ end)
renders_last d =
    record {
      refuses = λ n values e. inl (d.refuses n values e);
      due = λ n values h. elim h [ inl y ↦ d.due n values y | inr (s, y) ↦ absurd y ];
      goes = λ e. (d.goes e, tt);
      silent = λ h. d.silent h.0;
    }

-- a rule before others
pub renders_then : {c d : Check} {r : Rule} {rs : Rules} → Decides c r → Renders d rs → Renders (c then d) (r ▹ rs)
renders_then {c} {d} {r} {rs} one rest = record { refuses = refuses; due = due; goes = goes; silent = silent }
  where
    refuses : (n : ℕ) (values : List ℕ) → (c then d) ≡ refuse n values → FirstDue (r ▹ rs) n values
    refuses n values e =
        elim (check_cases c) [
          | inl g ↦ inr (one.goes g, rest.refuses n values (cc (then_goes {c = c} d g)))
          | inr (k, vs, g) ↦ inl (one.refuses n values (cc (then_refuses {c = c} d g)))
        ]

    due : (n : ℕ) (values : List ℕ) → FirstDue (r ▹ rs) n values → (c then d) ≡ refuse n values
    due n values h =
        elim h [
          | inl y ↦ then_refuses d (one.due n values y)
          | inr (s, y) ↦ cc (then_goes d (one.silent s), rest.due n values y)
        ]

    goes : (c then d) ≡ go → AllSilent (r ▹ rs)
    goes e =
        elim (check_cases c) [
          | inl g ↦ (one.goes g, rest.goes (cc (then_goes {c = c} d g)))
          | inr (k, vs, g) ↦ absurd (refuse_not_go {n = k} {values = vs} (cc (then_refuses {c = c} d g)))
        ]

    silent : AllSilent (r ▹ rs) → (c then d) ≡ go
    silent (s, h) = cc (then_goes d (one.silent s), rest.silent h)

-- ---- the checks of document 01 are of two forms

pub decides_if : (b : Bool) (r : ℕ) (P : Type 0) → (T b → P) → (P → T b) → Decides (refuse_if b r) (rule r P)
unfolding refuse_with
decides_if true r P f g =
    record {
      refuses = λ n values e. (cc, cc, f tt);
      due = λ n values (a, v, h). cc;
      goes = λ e. absurd (refuse_not_go e);
      silent = λ h. absurd (h (f tt));
    }
decides_if false r P f g =
    record {
      refuses = λ n values e. absurd (let z : ◌≡◌ {A = ℕ} 0 1 = cc in omega arith);
      due = λ n values (a, v, h). absurd (g h);
      goes = λ e h. g h;
      silent = λ h. refl;
    }

-- the test fails at every place, or there is a first place
pub first_place : (k : ℕ) (f : ℕ → Bool) → ((i : ℕ) → i < k → ¬ (T (f i))) ⊎ ((i : ℕ) × (i < k) × T (f i) × ((j : ℕ) → j < i → ¬ (T (f j))))
first_place zero f = inl (λ i l. absurd (omega arith))
first_place (suc k) f =
    elim (first_place k f) [
      | inr (i, l, y, none) ↦ inr (i, omega arith, y, none)
      | inl none ↦ elim (T-dec (f k)) [
        | inl y ↦ inr (k, omega arith, y, none)
        | inr n ↦ inl (λ i l. elim (below_suc l) [ inl h ↦ none i h | inr e ↦ rw e n ])
      ]
    ]

refused_with : (b : Bool) (n : ℕ) (values : List ℕ) → T b → refuse_with b n values ≡ refuse n values
unfolding refuse_with
refused_with true n values h = refl
refused_with false n values h = absurd h

gone_with : (b : Bool) (n : ℕ) (values : List ℕ) → ¬ (T b) → refuse_with b n values ≡ go
unfolding refuse_with
gone_with true n values h = absurd (h tt)
gone_with false n values h = refl

pub first_goes : (n k : ℕ) (f : ℕ → Bool) → ((i : ℕ) → i < k → ¬ (T (f i))) → refuse_first n k f ≡ go
unfolding refuse_first ◌then◌
first_goes n zero f h = refl
first_goes n (suc k) f h = rw (first_goes n k f (λ i l. h i (omega arith))) (gone_with (f k) n (suc k ∷ []) (h k (omega arith)))

pub first_refuses : (n k : ℕ) (f : ℕ → Bool) (i : ℕ) → i < k → T (f i) → ((j : ℕ) → j < i → ¬ (T (f j))) → refuse_first n k f ≡ refuse n (suc i ∷ [])
unfolding refuse_first ◌then◌
first_refuses n zero f i l y none = absurd (omega arith)
first_refuses n (suc k) f i l y none =
    elim (below_suc l) [
      | inl h ↦ rw (first_refuses n k f i h y none)
      | inr e ↦ rw (first_goes n k f (λ j h. none j (omega arith))) (rw e (refused_with (f k) n (suc k ∷ []) (rw e at y)))
    ]

same_place : {P : ℕ → Type 0} (i j : ℕ) → P i → ((x : ℕ) → x < i → ¬ (P x)) → P j → ((x : ℕ) → x < j → ¬ (P x)) → i ≡ j
same_place i j yi ni yj nj =
    elim (order i j) [ inl l ↦ absurd (nj i l yi) | inr o ↦ elim o [ inl e ↦ e | inr l ↦ absurd (ni j l yj) ] ]

pub decides_first : (r k : ℕ) (f : ℕ → Bool) (P : ℕ → Type 0) → ((i : ℕ) → i < k → T (f i) → P i) → ((i : ℕ) → i < k → P i → T (f i))
    → Decides (refuse_first r k f) (placed r k P)
decides_first r k f P to from =
    elim (first_place k f) [
      | inl none ↦
          let g = first_goes r k f none in
          record {
            refuses = λ n values e. absurd (refuse_not_go {n = n} {values = values} (cc));
            due = λ n values (a, i, l, v, y, before). absurd (none i l (from i l y));
            goes = λ e i l y. none i l (from i l y);
            silent = λ h. g;
          }
      | inr (i, l, y, none) ↦
          let g = first_refuses r k f i l y none in
          let before : (j : ℕ) → j < i → ¬ (P j) = λ j h p. none j h (from j (omega arith) p) in
          record {
            refuses = λ n values e. (cc, i, l, cc, to i l y, before);
            due = λ n values (a, j, lj, v, yj, nj). let e : i ≡ j = same_place {P = P} i j (to i l y) before yj nj in cc;
            goes = λ e. absurd (refuse_not_go {n = r} {values = suc i ∷ []} (cc));
            silent = λ h. absurd (h i l (to i l y));
          }
    ]

-- a test and what it renders: refused where that does not hold
pub decides_not : (b : Bool) (r : ℕ) (P : Type 0) → (T b → P) → (P → T b) → Decides (refuse_if (not b) r) (rule r (¬ P))
decides_not b r P f g = decides_if (not b) r (¬ P) (λ h y. T_not b h (g y)) (λ n. not_T b (λ h. n (f h)))

-- what the test renders holds, where it does not fail to
pub by_test : (b : Bool) {P : Type 0} → (T b → P) → (P → T b) → ¬ (¬ P) → P
by_test b f g h = elim (T-dec b) [ inl y ↦ f y | inr n ↦ absurd (h (λ y. n (g y))) ]

pub decides_below : (r a b : ℕ) → Decides (refuse_if (ltb a b) r) (rule r (a < b))
decides_below r a b = decides_if (ltb a b) r (a < b) (ltb→lt a b) (lt→ltb a b)

-- ---- a refusal by the first rule, one by a later rule, and no rule

due_once : (r : Rule) {n n' : ℕ} {vs vs' : List ℕ} → Due r n vs → Due r n' vs' → refuse n vs ≡ refuse n' vs'
due_once (rule k P) (a, b, x) (c, d, y) = cc
due_once (placed k m P) (a, i, l, b, x, nx) (c, j, h, d, y, ny) = let e : i ≡ j = same_place {P = P} i j x nx y ny in cc

due_loud : (r : Rule) (n : ℕ) (vs : List ℕ) → Due r n vs → ¬ (Silent r)
due_loud (rule k P) n vs (a, b, x) s = s x
due_loud (placed k m P) n vs (a, i, l, b, x, nx) s = s i l x

-- the first rule is in its case
pub renders_due : {r : Rule} {rs : Rules} {n : ℕ} {vs : List ℕ} → Due r n vs → Renders (refuse n vs) (r ▹ rs)
renders_due {r} {rs} {n} {vs} d =
    record {
      refuses = λ k ws e. inl (moved e);
      due = λ k ws h. elim h [ inl x ↦ due_once r d x | inr (s, x) ↦ absurd (due_loud r n vs d s) ];
      goes = λ e. absurd (refuse_not_go e);
      silent = λ (s, x). absurd (due_loud r n vs d s);
    }
  where
    moved : {k : ℕ} {ws : List ℕ} → refuse n vs ≡ refuse k ws → Due r k ws
    moved {k} {ws} e = let a : n ≡ k = cc in let b : vs ≡ ws = cc in rw (a, b) at d

-- the first rule is not in its case
pub renders_silent : {c : Check} {r : Rule} {rs : Rules} → Silent r → Renders c rs → Renders c (r ▹ rs)
renders_silent {c} {r} s x =
    record {
      refuses = λ n vs e. inr (s, x.refuses n vs e);
      due = λ n vs h. elim h [ inl d ↦ absurd (due_loud r n vs d s) | inr (q, f) ↦ x.due n vs f ];
      goes = λ e. (s, x.goes e);
      silent = λ (q, f). x.silent f;
    }

pub renders_end : Renders go end
renders_end =
    record {
      refuses = λ n vs e. absurd (refuse_not_go (sym e));
      due = λ n vs h. absurd h;
      goes = λ e. tt;
      silent = λ h. refl;
    }

due_parts : (rs ss : Rules) (n : ℕ) (values : List ℕ) → FirstDue (rs ▹▹ ss) n values → FirstDue rs n values ⊎ (AllSilent rs × FirstDue ss n values)
due_parts end ss n values h = inr (tt, h)
due_parts (r ▹ rs) ss n values (inl d) = inl (inl d)
due_parts (r ▹ rs) ss n values (inr (s, h)) =
    elim (due_parts rs ss n values h) [ inl d ↦ inl (inr (s, d)) | inr (t, d) ↦ inr ((s, t), d) ]

due_first : (rs ss : Rules) (n : ℕ) (values : List ℕ) → FirstDue rs n values → FirstDue (rs ▹▹ ss) n values
due_first end ss n values h = absurd h
due_first (r ▹ rs) ss n values (inl d) = inl d
due_first (r ▹ rs) ss n values (inr (s, h)) = inr (s, due_first rs ss n values h)

due_later : (rs ss : Rules) (n : ℕ) (values : List ℕ) → AllSilent rs → FirstDue ss n values → FirstDue (rs ▹▹ ss) n values
due_later end ss n values t d = d
due_later (r ▹ rs) ss n values (s, t) d = inr (s, due_later rs ss n values t d)

silent_parts : (rs ss : Rules) → AllSilent (rs ▹▹ ss) → AllSilent rs × AllSilent ss
silent_parts end ss h = (tt, h)
silent_parts (r ▹ rs) ss (s, h) = let (a, b) = silent_parts rs ss h in ((s, a), b)

silent_both : (rs ss : Rules) → AllSilent rs → AllSilent ss → AllSilent (rs ▹▹ ss)
silent_both end ss a b = b
silent_both (r ▹ rs) ss (s, a) b = (s, silent_both rs ss a b)

-- checks after checks render rules after rules; the later ones need do so only where the case of no rule before them holds
pub renders_after : (c d : Check) (rs ss : Rules) → Renders c rs → (AllSilent rs → Renders d ss) → Renders (c then d) (rs ▹▹ ss)
renders_after c d rs ss a b = record { refuses = refuses; due = due; goes = goes; silent = silent }
  where
    refuses : (n : ℕ) (values : List ℕ) → (c then d) ≡ refuse n values → FirstDue (rs ▹▹ ss) n values
    refuses n values e =
        elim (check_cases c) [
          | inl g ↦ due_later rs ss n values (a.goes g) ((b (a.goes g)).refuses n values (cc (then_goes {c = c} d g)))
          | inr (k, vs, g) ↦ due_first rs ss n values (a.refuses n values (cc (then_refuses {c = c} d g)))
        ]

    due : (n : ℕ) (values : List ℕ) → FirstDue (rs ▹▹ ss) n values → (c then d) ≡ refuse n values
    due n values h =
        elim (due_parts rs ss n values h) [
          | inl y ↦ then_refuses d (a.due n values y)
          | inr (s, y) ↦ then_goes d (a.silent s) ∙ (b s).due n values y
        ]

    goes : (c then d) ≡ go → AllSilent (rs ▹▹ ss)
    goes e = let (f, g) = then_go c d e in silent_both rs ss (a.goes f) ((b (a.goes f)).goes g)

    silent : AllSilent (rs ▹▹ ss) → (c then d) ≡ go
    silent h = let (f, g) = silent_parts rs ss h in then_goes d (a.silent f) ∙ (b f).silent g
