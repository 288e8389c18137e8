-- Document 01, "A run as a whole": "C(n, k) is the number of ways to choose k things out of n." A way is told by saying of each thing, in turn, whether it is
-- chosen; the ways are numbered from 0 on. Assumes nothing.
use Rattle.std.specs.Prelude.{◌≡◌, refl, Bool, true, false, List, [], ◌∷◌, ℕ, zero, suc, ◌+◌, ◌-◌, ◌<◌, ltb, length}
use Rattle.std.proofs.Common.{ap, inl, inr, arith, le-ltb, lt-ltb}
use Rattle.linear.proofs.Cases.{split}
use Rattle.linear.specs.Choose.{choose}

-- how many are chosen
unfoldable pub chosen : List Bool → ℕ
chosen [] = 0
chosen (true ∷ others) = suc (chosen others)
chosen (false ∷ others) = chosen others

pub record Way (n k : ℕ) (way : List Bool) : Type 0 where
  pub things : length way ≡ n
  pub choice : chosen way ≡ k

-- the ways to choose k things out of n have the numbers below C(n, k): each has one, and each of these is a way's
pub record Numbered (n k : ℕ) : Type 0 where
  pub way : ℕ → List Bool
  pub place : List Bool → ℕ
  pub ways : (i : ℕ) → i < choose n k → Way n k (way i)
  pub places : (w : List Bool) → Way n k w → place w < choose n k
  pub there : (w : List Bool) → Way n k w → way (place w) ≡ w
  pub back : (i : ℕ) → i < choose n k → place (way i) ≡ i

-- ---- the numbering: first the ways in which the first thing is chosen

abbrev either : Bool → List Bool → List Bool → List Bool
either true a b = true ∷ a
either false a b = false ∷ b

unfoldable way_at : ℕ → ℕ → ℕ → List Bool
way_at zero k i = []
way_at (suc n) zero i = false ∷ way_at n zero i
way_at (suc n) (suc k) i = either (ltb i (choose n k)) (way_at n k i) (way_at n (suc k) (i - choose n k))

-- those in which it is not chosen come after
abbrev behind : ℕ → ℕ → ℕ → ℕ
behind n zero i = i
behind n (suc k) i = choose n k + i

unfoldable place_of : List Bool → ℕ
place_of [] = 0
place_of (true ∷ others) = place_of others
place_of (false ∷ others) = behind (length others) (chosen others) (place_of others)

way_chosen : {n k : ℕ} {w : List Bool} → Way n k w → Way (suc n) (suc k) (true ∷ w)
unfolding chosen
way_chosen v = record { things = ap suc v.things; choice = ap suc v.choice }

way_other : {n k : ℕ} {w : List Bool} → Way n k w → Way (suc n) k (false ∷ w)
unfolding chosen
way_other v = record { things = ap suc v.things; choice = v.choice }

ways : (n k i : ℕ) → i < choose n k → Way n k (way_at n k i)
unfolding way_at choose chosen
ways zero zero i l = record { things = refl; choice = refl }
ways zero (suc k) i l = absurd (omega arith)
ways (suc n) zero i l = way_other (ways n zero i (omega arith))
ways (suc n) (suc k) i l =
    elim (split i (choose n k)) [
      | inl h ↦ rw (lt-ltb i (choose n k) h) (way_chosen (ways n k i h))
      | inr h ↦ rw (le-ltb i (choose n k) h) (way_other (ways n (suc k) (i - choose n k) (omega arith)))
    ]

back : (n k i : ℕ) → i < choose n k → place_of (way_at n k i) ≡ i
unfolding way_at choose place_of
back zero zero i l = omega arith
back zero (suc k) i l = absurd (omega arith)
back (suc n) zero i l = let v = ways n zero i (omega arith) in rw v.choice (back n zero i (omega arith))
back (suc n) (suc k) i l =
    elim (split i (choose n k)) [
      | inl h ↦ rw (lt-ltb i (choose n k) h) (back n k i h)
      | inr h ↦
          let v = ways n (suc k) (i - choose n k) (omega arith) in
          rw (le-ltb i (choose n k) h, v.things, v.choice) (omega (arith, back n (suc k) (i - choose n k) (omega arith)))
    ]

places : (w : List Bool) → place_of w < choose (length w) (chosen w)
unfolding place_of choose chosen
places [] = omega arith
places (true ∷ w) = omega (arith, places w)
places (false ∷ w) = by (chosen w) (places w)
  where
    by : (k : ℕ) → place_of w < choose (length w) k → behind (length w) k (place_of w) < choose (suc (length w)) k
    by zero l = omega (arith, l)
    by (suc k) l = omega (arith, l)

there : (w : List Bool) → way_at (length w) (chosen w) (place_of w) ≡ w
unfolding place_of way_at chosen
there [] = refl
there (true ∷ w) = rw (lt-ltb (place_of w) (choose (length w) (chosen w)) (places w)) (ap (λ x. true ∷ x) (there w))
there (false ∷ w) = by (chosen w) (there w)
  where
    by : (k : ℕ) → way_at (length w) k (place_of w) ≡ w → way_at (suc (length w)) k (behind (length w) k (place_of w)) ≡ false ∷ w
    by zero e = ap (λ x. false ∷ x) e
    by (suc k) e =
        let less : (choose (length w) k + place_of w) - choose (length w) k ≡ place_of w = omega arith in
        rw (le-ltb (choose (length w) k + place_of w) (choose (length w) k) (omega arith), less) (ap (λ x. false ∷ x) e)

pub choose_counts : (n k : ℕ) → Numbered n k
choose_counts n k =
    record {
      way = way_at n k;
      place = place_of;
      ways = ways n k;
      places = λ w v. rw (v.things, v.choice) at (places w);
      there = λ w v. rw (v.things, v.choice) at (there w);
      back = back n k;
    }
