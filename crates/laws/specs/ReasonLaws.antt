-- Document 02, Job 8, "Why is my loop not in the list?": what each reason claims of the tuple, and that the answer is the first that is true, or the
-- refusal that is due. Assumes nothing.
use Rattle.std.proofs.Math.Path.{◌≡◌, refl}
use Rattle.std.specs.Prelude.{◌≢◌, Bool, not, ℕ, ◌*◌, ◌-◌, ◌≤◌, ◌<◌, T, ℤ, pos, nat_abs, length, get_or}
use Rattle.std.proofs.Math.Logic.{inl, inr}
use Rattle.std.proofs.Math.Bool.{true, false}
use mathlib.Core.List.{List}
use Rattle.std.proofs.Math.Option.{some}
use Rattle.std.proofs.Math.Dec.{eqb→eq}
use Rattle.linear.proofs.TestLaws.{T-dec, all_at}
use Rattle.linear.specs.Tuples.{Below, Same}
use Rattle.definitions.specs.Input.{Input, limit_of}
use Rattle.definitions.specs.Reasons.{Reason, above, is_same, off}
use Rattle.definitions.specs.Reasons.{refused, stands, unlisted, vanishes, zero}
use Rattle.definitions.specs.Refusals.{Sizes}
use Rattle.definitions.specs.System.{System, coef_limit, image_of, is_at_or_below, is_zero}
use Rattle.definitions.specs.Tables.{at, capacity}
use Rattle.laws.specs.CheckLaws.{Rules, ◌▹◌, end, rule}
use Rattle.laws.specs.RefusalLaws.{Outside, range_rule}

-- ---- the refusals as rules

abbrev pub reason_rules : Sizes → Input → List ℕ → ℕ → List ℕ → Rules
reason_rules s i list found t =
    rule 1 (Outside 1 s.equations i.p)
    ▹ rule 2 (Outside 1 s.unknowns i.q)
    ▹ rule 3 (length i.coefs ≢ i.p * i.q)
    ▹ rule 5 (length t ≢ i.q)
    ▹ rule 6 (capacity i.q list < found)
    ▹ range_rule i
    ▹ rule 8 ((j : ℕ) × (j < length t) × (limit_of i.limit < get_or t j 0))
    ▹ end

-- what is known of a question that is not refused
pub record Askable (s : Sizes) (i : Input) (list : List ℕ) (found : ℕ) (t : List ℕ) : Type 0 where
  pub p_some : 0 < i.p
  pub p_few : i.p ≤ s.equations
  pub q_some : 0 < i.q
  pub q_few : i.q ≤ s.unknowns
  pub coefs : length i.coefs ≡ i.p * i.q
  pub tuple : length t ≡ i.q
  pub rows : found ≤ capacity i.q list
  pub range : (k : ℕ) → k < length i.coefs → nat_abs (get_or i.coefs k (pos 0)) ≤ coef_limit
  pub small : (j : ℕ) → j < length t → get_or t j 0 ≤ limit_of i.limit

-- ---- what a reason claims: of a system, the first `found` rows of a list, and a tuple x

module _ (m : System) (found : ℕ) (row : ℕ → ℕ → ℕ) (x : ℕ → ℕ) where
  -- "it is all zero"
  abbrev pub AllZero : Type 0
  AllZero = (j : ℕ) → j < m.q → x j ≡ 0

  -- "equation k is the first that is off, and by what signed amount"
  pub record Off (k : ℕ) (amount : ℤ) : Type 0 where
    pub some : 0 < k
    pub few : k ≤ m.p
    pub by : image_of m x (k - 1) ≡ amount
    pub not_zero : amount ≢ pos 0
    pub first : (i : ℕ) → i < k - 1 → image_of m x i ≡ pos 0

  -- "it stands at highest place n"
  pub record Stands (n : ℕ) : Type 0 where
    pub some : 0 < n
    pub few : n ≤ found
    pub same : Same m.q (row (n - 1)) x
    pub last : (i : ℕ) → n ≤ i → i < found → ¬ (Same m.q (row i) x)

  -- "the row at highest place n lies below it"
  pub record Above (n : ℕ) : Type 0 where
    pub some : 0 < n
    pub few : n ≤ found
    pub below : Below m.q (row (n - 1)) x
    pub last : (i : ℕ) → n ≤ i → i < found → ¬ (Below m.q (row i) x)

  -- "nothing listed lies below it"
  abbrev pub NoneBelow : Type 0
  NoneBelow = (i : ℕ) → i < found → ¬ (Below m.q (row i) x)

  abbrev pub Claim : Reason → Type 0
  Claim zero = AllZero
  Claim (off k amount) = Off k amount
  Claim (stands n) = Stands n
  Claim (above n) = Above n
  Claim unlisted = NoneBelow
  Claim (refused n values) = ⊥

  -- no reason that comes before it in the document's order is true
  abbrev pub NoneEarlier : Reason → Type 0
  NoneEarlier zero = Unit {0}
  NoneEarlier (off k amount) = ¬ AllZero
  NoneEarlier (stands n) = (¬ AllZero) × ((k : ℕ) (amount : ℤ) → ¬ (Off k amount))
  NoneEarlier (above n) = (¬ AllZero) × ((k : ℕ) (amount : ℤ) → ¬ (Off k amount)) × ((i : ℕ) → ¬ (Stands i))
  NoneEarlier unlisted = (¬ AllZero) × ((k : ℕ) (amount : ℤ) → ¬ (Off k amount)) × ((i : ℕ) → ¬ (Stands i)) × ((i : ℕ) → ¬ (Above i))
  NoneEarlier (refused n values) = ⊥

  -- ---- the tests and the claims

  abbrev pub is_off : ℕ → Bool
  is_off i = not (is_zero (image_of m x i))

  abbrev pub is_row : ℕ → Bool
  is_row i = is_same m.q (row i) x

  abbrev pub is_below : ℕ → Bool
  is_below i = is_at_or_below m.q (row i) x

  pub zero_from : T (vanishes m.q x) → AllZero
  unfolding vanishes
  zero_from h j l = eqb→eq (x j) 0 (all_at m.q _ h j l)

  -- ---- the answer is true, and none before it is

  abbrev pub Given : Reason → Type 0
  Given r = Claim r × NoneEarlier r

  -- ---- and no other answer is

  pub not_zero : ¬ AllZero → vanishes m.q x ≡ false
  not_zero z = elim (T-dec (vanishes m.q x)) [ inl y ↦ absurd (z (zero_from y)) | inr n ↦ false_of (vanishes m.q x) n ]
    where
      false_of : (b : Bool) → ¬ (T b) → b ≡ false
      false_of true n = absurd (n tt)
      false_of false n = refl

module _ (s : Sizes) (i : Input) (list : List ℕ) (found : ℕ) (t : List ℕ) where
  abbrev pub row : ℕ → ℕ → ℕ
  row = at list i.q

  abbrev pub x : ℕ → ℕ
  x j = get_or t j 0
