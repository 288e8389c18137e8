-- Document 02, Job 5, the two promises: "Every accepted file is the one the writer makes of what was read, and every written file is accepted, the
-- tables being long enough." Assumes nothing.
use Rattle.std.specs.Prelude.{ℕ, ◌*◌, ◌≤◌, List, ◌++◌, ◌≡◌, refl, ℤ, length, take, drop}
use Rattle.std.proofs.Common.{sym, ◌∙◌, arith, take_at}
use Rattle.definitions.specs.Answers.{Check, refuse, go}
use Rattle.list_spec.specs.Form.{ListFile, block_bytes, file_blocks, written}
use Rattle.list_spec.specs.Writing.{WriteAnswer, wrote, refused, write_checks, write_decided, write_list}
use Rattle.list_spec.specs.Reading.{ReadAnswer, read, ReadOutcome, read_checks, list_in, handed_out, read_decided, read_file}
use Rattle.list_spec.proofs.WordLaws.{Bytes}
use Rattle.list_spec.specs.RuleLaws.{ListInRange}
use Rattle.list_spec.proofs.RuleLaws.{write_in, write_out, read_in, read_out}
use Rattle.list_spec.proofs.AcceptedLaws.{blocks_count, read_in_range, file_written}
use Rattle.list_spec.proofs.WrittenLaws.{rows_whole, coefs_back, row_numbers_back, list_back, written_in_order}

-- ---- a call that is not refused

not_read : {P : Type 0} {n p q rows ending : ℕ} {values : List ℕ} → ReadAnswer.refused n values ≡ read p q rows ending → P
not_read e = absurd (let z : ◌≡◌ {A = ℕ} 0 1 = cc in omega arith)

read_passed : (c : Check) (l : ListFile) (coefs : List ℤ) (list : List ℕ) {p q rows ending : ℕ}
    → (read_decided c l coefs list).answer ≡ read p q rows ending → c ≡ go
unfolding read_decided
read_passed (refuse n values) l coefs list e = not_read e
read_passed go l coefs list e = refl

not_written : {P : Type 0} {n : ℕ} {values : List ℕ} → WriteAnswer.refused n values ≡ wrote → P
not_written e = absurd (let z : ◌≡◌ {A = ℕ} 0 1 = cc in omega arith)

write_passed : (c : Check) (l : ListFile) (out : List ℕ) → (write_decided c l out).answer ≡ wrote → c ≡ go
unfolding write_decided
write_passed (refuse n values) l out e = not_written e
write_passed go l out e = refl

-- ---- what the caller has

-- the list in the caller's hands: p, q and the ending as answered, and as many entries of the tables as these and the row count say
abbrev pub list_held : ReadOutcome → ℕ → ℕ → ℕ → ℕ → ListFile
list_held o p q rows ending = record { p = p; q = q; coefs = take (p * q) o.coefs; rows = take (rows * q) o.list; ending = ending }

read_same : {p q rows ending p' q' rows' ending' : ℕ} → ReadAnswer.read p q rows ending ≡ read p' q' rows' ending'
    → (p ≡ p') × (q ≡ q') × (rows ≡ rows') × (ending ≡ ending')
read_same e = (cc, cc, cc, cc)

-- it is the list that was handed out
held_handed : (l : ListFile) → ListInRange l → (coefs : List ℤ) (list : List ℕ) {p q rows ending : ℕ} → (handed_out l coefs list).answer ≡ read p q rows ending
    → list_held (handed_out l coefs list) p q rows ending ≡ l
unfolding handed_out
held_handed l r coefs list {p} {q} {rows} {ending} e =
    let (a, b, c, d) = read_same e in
    let m : length l.coefs ≡ p * q = r.count ∙ rw (a, b) in
    let n : length l.rows ≡ rows * q = sym (rows_whole l r) ∙ rw (c, b) in
    let x : take (p * q) (l.coefs ++ drop (length l.coefs) coefs) ≡ l.coefs = take_at l.coefs _ (p * q) m in
    let y : take (rows * q) (l.rows ++ drop (length l.rows) list) ≡ l.rows = take_at l.rows _ (rows * q) n in
    λ i. record { p = sym a i; q = sym b i; coefs = x i; rows = y i; ending = sym d i }

-- ---- the promises

-- "Every accepted file is the one the writer makes of what was read": the writer, given what the reader handed out and a buffer as long as the
-- file, leaves the file in it.
pub accepted_written : (file : List ℕ) → Bytes file → (coefs : List ℤ) (list : List ℕ) {p q rows ending : ℕ}
    → (read_file file coefs list).answer ≡ read p q rows ending
    → (out : List ℕ) → length out ≡ length file
    → write_list (list_held (read_file file coefs list) p q rows ending) out ≡ record { answer = wrote; out = file }
unfolding read_file read_decided write_list write_decided
accepted_written file bytes coefs list e out m =
    let g = read_passed (read_checks file (length coefs) (length list)) (list_in file) coefs list e in
    let (o, _, _) = read_in file (length coefs) (length list) g in
    let r = read_in_range file bytes o in
    let h = held_handed (list_in file) r coefs list (rw g at e) in
    let x : length out ≡ block_bytes * file_blocks (list_in file) = m ∙ o.exact ∙ rw (blocks_count file) in
    rw (g, h, write_out (list_in file) (length out) r x, ← file_written file bytes o)

-- "every written file is accepted, the tables being long enough", and gives what was written
pub written_accepted : (l : ListFile) (out : List ℕ) → (write_list l out).answer ≡ wrote → (coefs : List ℤ) (list : List ℕ)
    → length l.coefs ≤ length coefs → length l.rows ≤ length list
    → read_file (write_list l out).out coefs list ≡ handed_out l coefs list
unfolding read_file read_decided write_list write_decided
written_accepted l out e coefs list m n =
    let g = write_passed (write_checks l (length out)) l out e in
    let (r, _) = write_in l (length out) g in
    let passed = read_out (written l) (length coefs) (length list) (written_in_order l r) (rw (coefs_back l r) m) (rw (row_numbers_back l r) n) in
    rw (g, passed, list_back l r)
