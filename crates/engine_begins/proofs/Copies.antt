-- A part of a table that holds a copy of other numbers is what writing them one by one leaves. Assumes nothing.
use Rattle.std.specs.Prelude.{◌≡◌, List, ℕ, zero, suc, ◌+◌, ◌≤◌, ◌<◌, ℤ, pos, get_or, length}
use Rattle.std.proofs.Common.{sym, ◌∙◌, arith}
use Rattle.std.proofs.Math.Seq.{paste, paste-suc, paste-zero}
use Rattle.std.proofs.lemmas.Slice.{put_mid-paste}
use borrow.Rule.Slice.PartMut.{put_mid}
use Rattle.definitions.specs.Tables.{write_to}
use Rattle.engine_spec.specs.Engine.{fill_to}

fill_paste : (n : ℕ) (table : List ℤ) (base : ℕ) (s : List ℤ) (f : ℕ → ℤ) → base + n ≤ length table → n ≤ length s
    → ((j : ℕ) → j < n → get_or s j (pos 0) ≡ f j) → paste table base s n ≡ fill_to n table base f
unfolding fill_to
fill_paste zero table base s f l m same = sym (paste-zero table base s)
fill_paste (suc n) table base s f l m same =
    sym (paste-suc table base s n (pos 0) (omega arith) (omega arith))
    ∙ rw (fill_paste n table base s f (omega arith) (omega arith) (λ j k. same j (omega arith)), same n (omega arith))

pub fill_copied : (k n : ℕ) (table : List ℤ) (base : ℕ) {new : List ℤ} (s : List ℤ) (f : ℕ → ℤ) → new ≡ s → n ≡ k → length s ≡ n → base + n ≤ length table
    → ((j : ℕ) → j < n → get_or s j (pos 0) ≡ f j) → put_mid base k table new ≡ fill_to n table base f
fill_copied k n table base {new} s f e l m r same =
    put_mid-paste base k table new s n e l (sym m) ∙ fill_paste n table base s f r (omega arith) same

write_paste : (n : ℕ) (table : List ℕ) (base : ℕ) (s : List ℕ) (f : ℕ → ℕ) → base + n ≤ length table → n ≤ length s
    → ((j : ℕ) → j < n → get_or s j 0 ≡ f j) → paste table base s n ≡ write_to n table base f
unfolding write_to
write_paste zero table base s f l m same = sym (paste-zero table base s)
write_paste (suc n) table base s f l m same =
    sym (paste-suc table base s n 0 (omega arith) (omega arith))
    ∙ rw (write_paste n table base s f (omega arith) (omega arith) (λ j k. same j (omega arith)), same n (omega arith))

pub write_copied : (k n : ℕ) (table : List ℕ) (base : ℕ) {new : List ℕ} (s : List ℕ) (f : ℕ → ℕ) → new ≡ s → n ≡ k → length s ≡ n → base + n ≤ length table
    → ((j : ℕ) → j < n → get_or s j 0 ≡ f j) → put_mid base k table new ≡ write_to n table base f
write_copied k n table base {new} s f e l m r same =
    put_mid-paste base k table new s n e l (sym m) ∙ write_paste n table base s f r (omega arith) same
