-- What an appended row needs, and what it leaves in the table and beside it. Assumes nothing.
use Rattle.std.specs.Prelude.{◌≡◌, List, ℕ, ◌+◌, ◌*◌, ◌≤◌, ◌<◌, ℤ, nat_abs, ◌+ℤ◌, get_or, length, set}
use Rattle.linear.specs.Systems.{value}
use Rattle.definitions.specs.Tables.{write_to}
use Rattle.engine_spec.specs.Beside.{SmallEquation, SmallRow, SmallTable, no_mark, value_limit}
use Rattle.engine_reduce.specs.Sums.{integer_at, sum_of}
use Rattle.engine_stage.specs.Marked.{mark_of}

-- room for row n
pub record Room (q n : ℕ) (table : List ℕ) (values : List ℤ) (words degrees marks mothers : List ℕ) : Type 0 where
  pub fits : n * q + q ≤ length table
  pub valued : n < length values
  pub worded : n < length words
  pub measured : n < length degrees
  pub marked : n < length marks
  pub mothered : n < length mothers

-- rows h and k of n, with values within their limit and degrees that add up
pub record PairFits (q n : ℕ) (table : List ℕ) (values : List ℤ) (words degrees marks mothers : List ℕ) (h k : ℕ) : Type 0 where
  pub room : Room q n table values words degrees marks mothers
  pub rows : SmallTable q n table
  pub upper : h < n
  pub lower : k < n
  pub first : nat_abs (integer_at values h) ≤ value_limit
  pub second : nat_abs (integer_at values k) ≤ value_limit
  pub low : (i : ℕ) → i < n → get_or degrees i 0 ≤ 32000000
  pub few : n < 4294967296

pub record PairAppended (q n h k word : ℕ) (table : List ℕ) (values : List ℤ) (words degrees marks mothers : List ℕ) (table' : List ℕ) (values' : List ℤ)
    (words' degrees' marks' mothers' : List ℕ) : Type 0 where
  pub mother : ℕ
  pub row_is : table' ≡ write_to q table (n * q) (sum_of q table h k)
  pub value_is : values' ≡ set values n (integer_at values h +ℤ integer_at values k)
  pub word_is : words' ≡ set words n word
  pub degree_is : degrees' ≡ set degrees n (get_or degrees h 0 + get_or degrees k 0)
  pub mark_is : marks' ≡ set marks n (mark_of (integer_at values h) (integer_at values k))
  pub mother_is : mothers' ≡ set mothers n mother

-- row i of the basis
pub record RowFits (q n : ℕ) (coefs : List ℤ) (from : ℕ) (basis : List ℕ) (i : ℕ) (table : List ℕ) (values : List ℤ) (words degrees marks mothers : List ℕ)
    : Type 0 where
  pub room : Room q n table values words degrees marks mothers
  pub equation : SmallEquation q coefs from
  pub row : SmallRow q basis (i * q)

pub record RowAppended (q n : ℕ) (c : ℕ → ℤ) (x : ℕ → ℕ) (word degree : ℕ) (table : List ℕ) (values : List ℤ) (words degrees marks mothers : List ℕ)
    (table' : List ℕ) (values' : List ℤ) (words' degrees' marks' mothers' : List ℕ) : Type 0 where
  pub mark : ℕ
  pub mother : ℕ
  pub row_is : table' ≡ write_to q table (n * q) x
  pub value_is : values' ≡ set values n (value c q x)
  pub word_is : words' ≡ set words n word
  pub degree_is : degrees' ≡ set degrees n degree
  pub mark_is : marks' ≡ set marks n mark
  pub unmarked : no_mark ≤ mark
  pub mother_is : mothers' ≡ set mothers n mother
