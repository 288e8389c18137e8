-- A number of 64 bits holds each answer: a place is one of at most 128 coefficients. Assumes nothing.
use Prim.Native.Nat.{ℕ, zero, suc, ◌*◌, ◌^◌, ◌≤◌, ◌<◌}
use Rattle.std.specs.Prelude.{Bool, true, false, not, List, [], ◌∷◌, ◌≡◌, refl, eqb, ℤ, Result, Ok, Err, length, set}
use Rattle.std.proofs.Common.{inr, mul-le-mul}
use native.Mathlib.Omega.{arith}
use Rattle.definitions.specs.Answers.{Check, refuse, go, refuse_with, refuse_if, refuse_first, ◌then◌}
use Rattle.definitions.specs.Refusals.{between}
use Rattle.definitions.specs.System.{most_equations, most_unknowns}
use Rattle.laws.proofs.RefusalLaws.{at_most, decides_outside, decides_unequal, equal}
use Rattle.list_spec.specs.Form.{ListFile}
use Rattle.list_spec.specs.Writing.{write_checks, write_decided, write_list}
use Rattle.list_spec.specs.Reading.{block_checks, stream_checks, file_checks, read_checks, list_in, handed_out, read_decided, read_file, coef_words, row_words}
use Rattle.list_file.specs.Paper.{number_of, values_of}
use Rattle.list_file.specs.declared.words.FileRefusal.{FileRefusal}
use Rattle.list_file.specs.WriteAnswer.{write_answer, write_outcome}
use Rattle.list_file.specs.ReadAnswer.{read_answer, read_outcome}
use Rattle.list_file.specs.declared.read.Read.{Read}
use Rattle.c_list.specs.Codes.{refusal_code, write_code, read_code, write_told, read_told}

abbrev Small : Check → Type 0
Small (refuse n values) = refusal_code n values < 2 ^ 64
Small go = Unit

small_with : (b : Bool) (n : ℕ) (values : List ℕ) → refusal_code n values < 2 ^ 64 → Small (refuse_with b n values)
unfolding refuse_with
small_with true n values h = h
small_with false n values h = tt

small_if : (b : Bool) (n : ℕ) → n < 256 → Small (refuse_if b n)
small_if b n h = small_with b n [] (omega arith)

small_then : (c d : Check) → Small c → (c ≡ go → Small d) → Small (c then d)
unfolding ◌then◌
small_then (refuse n values) d a b = a
small_then go d a b = b refl

small_first : (n k : ℕ) (f : ℕ → Bool) → n < 256 → k ≤ 128 → Small (refuse_first n k f)
unfolding refuse_first
small_first n zero f h l = tt
small_first n (suc k) f h l =
    small_then (refuse_first n k f) (refuse_with (f k) n (suc k ∷ [])) (small_first n k f h (omega arith)) (λ _. small_with (f k) n (suc k ∷ []) (omega arith))

-- ---- the writer

module _ (l : ListFile) where
  few : refuse_if (not (between 1 most_equations l.p)) 1 ≡ go → refuse_if (not (between 1 most_unknowns l.q)) 2 ≡ go
      → refuse_if (not (eqb (length l.coefs) (l.p * l.q))) 3 ≡ go → length l.coefs ≤ 128
  few a b c =
      let p = (decides_outside 1 1 most_equations l.p).goes a in
      let q = (decides_outside 2 1 most_unknowns l.q).goes b in
      let n = equal (length l.coefs) (l.p * l.q) ((decides_unequal 3 (length l.coefs) (l.p * l.q)).goes c) in
      omega (arith, n, mul-le-mul (at_most l.p most_equations (λ h. p (inr h))) (at_most l.q most_unknowns (λ h. q (inr h))))

  small_write : (room : ℕ) → Small (write_checks l room)
  unfolding write_checks
  small_write room =
      small_then (refuse_if _ 1) _ (small_if _ 1 (omega arith)) (λ a.
      small_then (refuse_if _ 2) _ (small_if _ 2 (omega arith)) (λ b.
      small_then (refuse_if _ 3) _ (small_if _ 3 (omega arith)) (λ c.
      small_then (refuse_first 7 _ _) _ (small_first 7 (length l.coefs) _ (omega arith) (few a b c)) (λ _.
      small_then (refuse_if _ 22) _ (small_if _ 22 (omega arith)) (λ _. small_if _ 19 (omega arith))))))

  write_decided_fits : (c : Check) (out : List ℕ) → Small c → write_code (write_decided c l out).answer < 2 ^ 64
  unfolding write_decided
  write_decided_fits (refuse n values) out h = h
  write_decided_fits go out h = omega arith

  pub write_fits : (out : List ℕ) → write_code (write_list l out).answer < 2 ^ 64
  unfolding write_list
  write_fits out = write_decided_fits (write_checks l (length out)) out (small_write (length out))

-- ---- the reader

module _ (file : List ℕ) where
  small_block : (b : ℕ) (ranged : Bool) → Small (block_checks file b ranged)
  unfolding block_checks
  small_block b ranged =
      small_then (refuse_if _ 20) _ (small_if _ 20 (omega arith)) (λ _.
      small_then (refuse_if _ 21) _ (small_if _ 21 (omega arith)) (λ _. small_if _ 22 (omega arith)))

  small_stream : (coefs rows n : ℕ) → Small (stream_checks file coefs rows n)
  unfolding stream_checks
  small_stream coefs rows zero = tt
  small_stream coefs rows (suc b) = small_then (stream_checks file coefs rows b) _ (small_stream coefs rows b) (λ _. small_block _ _)

  small_read : (coefs list : ℕ) → Small (read_checks file coefs list)
  unfolding read_checks file_checks
  small_read coefs list =
      small_then (file_checks file) _
      (small_then (refuse_if _ 19) _ (small_if _ 19 (omega arith)) (λ _.
      small_then (block_checks file 0 _) _ (small_block 0 _) (λ _.
      small_then (refuse_if _ 19) _ (small_if _ 19 (omega arith)) (λ _. small_stream (coef_words file) (row_words file) _))))
      (λ _. small_then (refuse_if _ 29) _ (small_if _ 29 (omega arith)) (λ _. small_if _ 29 (omega arith)))

  read_decided_fits : (c : Check) (coefs : List ℤ) (list : List ℕ) → Small c → read_code (read_decided c (list_in file) coefs list).answer < 2 ^ 64
  unfolding read_decided handed_out
  read_decided_fits (refuse n values) coefs list h = h
  read_decided_fits go coefs list h = omega arith

  pub read_fits : (coefs : List ℤ) (list : List ℕ) → read_code (read_file file coefs list).answer < 2 ^ 64
  unfolding read_file
  read_fits coefs list = read_decided_fits (read_checks file (length coefs) (length list)) coefs list (small_read (length coefs) (length list))

-- ---- what a call answered and left, as it is told

module _ (l : ListFile) (out : List ℕ) {r : Result (Unit {0}) FileRefusal} {after : List ℕ} (e : write_outcome r after ≡ write_list l out) where
  pub write_refusal_fits : {why : FileRefusal} → r ≡ Err why → refusal_code (number_of why) (values_of why) < 2 ^ 64
  write_refusal_fits g = let h : write_code (write_answer r) < 2 ^ 64 = rw (← e) at (write_fits l out) in rw g at h

  pub write_refused_told : {why : FileRefusal} {a : ℕ} → r ≡ Err why → a ≡ refusal_code (number_of why) (values_of why)
      → (a, after) ≡ write_told (write_list l out)
  write_refused_told g d = rw (← e, g, d)

  pub write_whole_told : {done : Unit {0}} → r ≡ Ok done → (106, after) ≡ write_told (write_list l out)
  write_whole_told g = rw (← e, g)

module _ (file : List ℕ) (coefs : List ℤ) (list : List ℕ) {r : Result Read FileRefusal} {coefs' : List ℤ} {list' : List ℕ}
    (e : read_outcome r coefs' list' ≡ read_file file coefs list) where
  pub read_refusal_fits : {why : FileRefusal} → r ≡ Err why → refusal_code (number_of why) (values_of why) < 2 ^ 64
  read_refusal_fits g = let h : read_code (read_answer r) < 2 ^ 64 = rw (← e) at (read_fits file coefs list) in rw g at h

  pub read_refused_told : (words : List ℕ) {why : FileRefusal} {a : ℕ} → r ≡ Err why → a ≡ refusal_code (number_of why) (values_of why)
      → (a, (coefs', (list', words))) ≡ read_told (read_file file coefs list) words
  read_refused_told words g d = rw (← e, g, d)

  pub read_list_told : (words : List ℕ) {l : Read} → r ≡ Ok l
      → (107, (coefs', (list', set (set (set (set words 0 l.p) 1 l.q) 2 l.found.0) 3 l.ending))) ≡ read_told (read_file file coefs list) words
  read_list_told words g = rw (← e, g)
