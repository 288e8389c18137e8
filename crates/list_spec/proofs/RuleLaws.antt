-- Theorems about what specs/RuleLaws.antt defines. Assumes nothing.
use Prim.Native.Nat.{ℕ, zero, suc, ◌+◌, ◌*◌, ◌≤◌, ◌<◌}
use Rattle.std.specs.Prelude.{Bool, not, List, ◌≡◌, T, ltb, eqb, ℤ, pos, nat_abs, length, get_or}
use Rattle.std.proofs.Math.Logic.{inl, inr}
use Rattle.std.proofs.Math.Path.{refl}
use Rattle.std.proofs.Common.{arith, ltb→lt, lt→ltb}
use Rattle.linear.specs.Cases.{below_suc}
use Rattle.definitions.specs.Answers.{Check, go, ◌then◌, refuse_if, refuse_first}
use Rattle.definitions.specs.Refusals.{out_of_range}
use Rattle.definitions.specs.System.{most_equations, most_unknowns, coef_limit}
use Rattle.laws.proofs.AnswerLaws.{then_assoc, then_go}
use Rattle.laws.specs.CheckLaws.{Decides, Renders, Rules, end, placed}
use Rattle.laws.proofs.CheckLaws.{by_test, decides_below, decides_first, decides_not, renders_last, renders_then}
use Rattle.laws.proofs.RefusalLaws.{at_most, decides_outside, decides_unequal, equal}
use Rattle.list_spec.specs.Words.{wrapping_sum}
use Rattle.list_spec.specs.Form.{ListFile, block_bytes, block_words, later_blocks, block_count, file_blocks}
use Rattle.list_spec.specs.Writing.{list_in_range, write_checks}
use Rattle.list_spec.specs.Reading.{coef_words, row_words, in_block, block_checks, header_in_range, block_in_range, stream_checks, file_checks, read_checks}
use Rattle.list_spec.specs.Ranges.{RowsInRange, HeaderInRange, BlockInRange}
use Rattle.list_spec.proofs.Ranges.{rows_from, rows_to, header_from, header_to, block_from, block_to}
use Rattle.list_spec.specs.RuleLaws.{BlockInOrder, FileInOrder, ListInRange, block_rules, file_rules, later, read_rules, stream_rules, write_rules}

-- 7: the first coefficient out of range
decides_coefs : (coefs : List ℤ)
    → Decides (refuse_first 7 (length coefs) (λ i. out_of_range (get_or coefs i (pos 0))))
    (placed 7 (length coefs) (λ i. coef_limit < nat_abs (get_or coefs i (pos 0))))
decides_coefs coefs =
    decides_first 7 (length coefs) (λ i. out_of_range (get_or coefs i (pos 0))) (λ i. coef_limit < nat_abs (get_or coefs i (pos 0)))
    (λ i l. ltb→lt coef_limit (nat_abs (get_or coefs i (pos 0))))
    (λ i l. lt→ltb coef_limit (nat_abs (get_or coefs i (pos 0))))

pub write_renders : (l : ListFile) (room : ℕ) → Renders (write_checks l room) (write_rules l room)
unfolding write_checks
write_renders l room =
    renders_then (decides_outside 1 1 most_equations l.p)
    (renders_then (decides_outside 2 1 most_unknowns l.q)
    (renders_then (decides_unequal 3 (length l.coefs) (l.p * l.q))
    (renders_then (decides_coefs l.coefs)
    (renders_then (decides_not (list_in_range l) 22 (RowsInRange l) (rows_from l) (rows_to l))
    (renders_last (decides_unequal 19 room (block_bytes * file_blocks l)))))))

module _ (l : ListFile) (room : ℕ) where
  pub write_in : write_checks l room ≡ go → ListInRange l × (room ≡ block_bytes * file_blocks l)
  write_in e =
      let (p, (q, (c, (r, (b, (s, u)))))) = (write_renders l room).goes e in (
        record {
          p_some = at_most 1 l.p (λ h. p (inl h));
          p_few = at_most l.p most_equations (λ h. p (inr h));
          q_some = at_most 1 l.q (λ h. q (inl h));
          q_few = at_most l.q most_unknowns (λ h. q (inr h));
          count = equal (length l.coefs) (l.p * l.q) c;
          range = λ i m. at_most (nat_abs (get_or l.coefs i (pos 0))) coef_limit (r i m);
          rows = by_test (list_in_range l) (rows_from l) (rows_to l) b;
        },
        equal room (block_bytes * file_blocks l) s,
      )

  pub write_out : ListInRange l → room ≡ block_bytes * file_blocks l → write_checks l room ≡ go
  write_out g e =
      (write_renders l room).silent (
        λ o. elim o [ inl h ↦ omega (arith, g.p_some) | inr h ↦ omega (arith, g.p_few) ],
        (
          λ o. elim o [ inl h ↦ omega (arith, g.q_some) | inr h ↦ omega (arith, g.q_few) ],
          (λ ne. ne g.count, (λ i m h. omega (arith, g.range i m), (λ n. n g.rows, (λ ne. ne e, tt)))),
        ),
      )

module _ (file : List ℕ) (b : ℕ) (t : Bool) (P : Type 0) (from : T t → P) (to : P → T t) where
  block_renders_then : {c : Check} {rs : Rules} → Renders c rs → Renders (block_checks file b t then c) (block_rules file b P rs)
  unfolding block_checks
  block_renders_then {c} {rs} r =
      rw (then_assoc, then_assoc)
      (renders_then (decides_unequal 20 (wrapping_sum block_words (in_block file b)) 0)
      (renders_then (decides_unequal 21 (in_block file b 0) b) (renders_then (decides_not t 22 P from to) r)))

  block_renders : Renders (block_checks file b t) (block_rules file b P end)
  unfolding block_checks
  block_renders =
      renders_then (decides_unequal 20 (wrapping_sum block_words (in_block file b)) 0)
      (renders_then (decides_unequal 21 (in_block file b 0) b) (renders_last (decides_not t 22 P from to)))

  block_in : block_checks file b t ≡ go → BlockInOrder file b P
  block_in e =
      let (s, (n, (r, u))) = block_renders.goes e in
      record { sum = equal (wrapping_sum block_words (in_block file b)) 0 s; number = equal (in_block file b 0) b n; range = by_test t from to r }

  block_out : BlockInOrder file b P → block_checks file b t ≡ go
  block_out o = block_renders.silent (λ ne. ne o.sum, (λ ne. ne o.number, (λ n. n o.range, tt)))

module _ (file : List ℕ) (coefs rows : ℕ) where
  stream_renders : (n : ℕ) {c : Check} {rs : Rules} → Renders c rs → Renders (stream_checks file coefs rows n then c) (stream_rules file coefs rows n rs)
  unfolding stream_checks stream_rules ◌then◌
  stream_renders zero r = r
  stream_renders (suc b) {c} {rs} r =
      rw (then_assoc (stream_checks file coefs rows b) (block_checks file (b + 1) (block_in_range file coefs rows b)) c)
      (stream_renders b
      (block_renders_then file (b + 1) (block_in_range file coefs rows b) (BlockInRange file coefs rows b) (block_from file coefs rows b)
      (block_to file coefs rows b) r))

  stream_in : (n : ℕ) → stream_checks file coefs rows n ≡ go → (b : ℕ) → b < n → BlockInOrder file (b + 1) (BlockInRange file coefs rows b)
  unfolding stream_checks
  stream_in zero e b l = absurd (omega arith)
  stream_in (suc n) e b l =
      let (f, g) = then_go (stream_checks file coefs rows n) _ e in
      let here : BlockInOrder file (n + 1) (BlockInRange file coefs rows n) =
      block_in file (n + 1) (block_in_range file coefs rows n) _ (block_from file coefs rows n) (block_to file coefs rows n) g in
      elim (below_suc l) [ inl m ↦ stream_in n f b m | inr h ↦ rw h here ]

  stream_out : (n : ℕ) → ((b : ℕ) → b < n → BlockInOrder file (b + 1) (BlockInRange file coefs rows b)) → stream_checks file coefs rows n ≡ go
  unfolding stream_checks ◌then◌
  stream_out zero h = refl
  stream_out (suc n) h =
      rw (stream_out n (λ b l. h b (omega arith)))
      (block_out file (n + 1) (block_in_range file coefs rows n) _ (block_from file coefs rows n) (block_to file coefs rows n) (h n (omega arith)))

module _ (file : List ℕ) where
  file_renders : {c : Check} {rs : Rules} → Renders c rs → Renders (file_checks file then c) (file_rules file rs)
  unfolding file_checks
  file_renders {c} {rs} r =
      simp then_assoc
      (renders_then (decides_below 19 (length file) block_bytes)
      (block_renders_then file 0 (header_in_range file) (HeaderInRange file) (header_from file) (header_to file)
      (renders_then (decides_unequal 19 (length file) (block_bytes * block_count (coef_words file + row_words file)))
      (stream_renders file (coef_words file) (row_words file) (later_blocks (coef_words file + row_words file)) r))))

  pub read_renders : (coef_room list_room : ℕ) → Renders (read_checks file coef_room list_room) (read_rules file coef_room list_room)
  unfolding read_checks
  read_renders coef_room list_room =
      file_renders (renders_then (decides_below 29 coef_room (coef_words file)) (renders_last (decides_below 29 list_room (row_words file))))

module _ (file : List ℕ) where
  pub file_in : file_checks file ≡ go → FileInOrder file
  unfolding file_checks
  file_in e =
      let (_, e1) = then_go (refuse_if (ltb (length file) block_bytes) 19) _ e in
      let (h, e2) = then_go (block_checks file 0 (header_in_range file)) _ e1 in
      let (x, s) = then_go (refuse_if (not (eqb (length file) (block_bytes * block_count (coef_words file + row_words file)))) 19) _ e2 in
      record {
        header = block_in file 0 (header_in_range file) (HeaderInRange file) (header_from file) (header_to file) h;
        exact = equal (length file) _ ((decides_unequal 19 (length file) (block_bytes * block_count (coef_words file + row_words file))).goes x);
        blocks = stream_in file (coef_words file) (row_words file) (later file) s;
      }

  pub file_out : FileInOrder file → file_checks file ≡ go
  unfolding file_checks ◌then◌
  file_out o =
      rw (
        (decides_below 19 (length file) block_bytes).silent (λ l. omega (arith, o.exact)),
        block_out file 0 (header_in_range file) (HeaderInRange file) (header_from file) (header_to file) o.header,
        (decides_unequal 19 (length file) (block_bytes * block_count (coef_words file + row_words file))).silent (λ ne. ne o.exact),
      )
      (stream_out file (coef_words file) (row_words file) (later file) o.blocks)

  -- block 0 alone
  pub header_in : block_checks file 0 (header_in_range file) ≡ go → HeaderInRange file
  header_in e = (block_in file 0 (header_in_range file) (HeaderInRange file) (header_from file) (header_to file) e).range

  -- the checks of a call: the file is in order, and both tables are long enough
  pub read_in : (coef_room list_room : ℕ) → read_checks file coef_room list_room ≡ go → FileInOrder file × (coef_words file ≤ coef_room)
      × (row_words file ≤ list_room)
  unfolding read_checks
  read_in coef_room list_room e =
      let (f, e1) = then_go (file_checks file) _ e in
      let (c, r) = then_go (refuse_if (ltb coef_room (coef_words file)) 29) _ e1 in (
        file_in f,
        at_most (coef_words file) coef_room ((decides_below 29 coef_room (coef_words file)).goes c),
        at_most (row_words file) list_room ((decides_below 29 list_room (row_words file)).goes r),
      )

  pub read_out : (coef_room list_room : ℕ) → FileInOrder file → coef_words file ≤ coef_room → row_words file ≤ list_room
      → read_checks file coef_room list_room ≡ go
  unfolding read_checks ◌then◌
  read_out coef_room list_room o l m =
      rw (
        file_out o,
        (decides_below 29 coef_room (coef_words file)).silent (λ h. omega arith),
        (decides_below 29 list_room (row_words file)).silent (λ h. omega arith),
      )
