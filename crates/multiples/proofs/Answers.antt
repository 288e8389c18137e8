-- Theorems about what specs/Answers.antt defines. Assumes nothing.
use Rattle.std.specs.Prelude.{List, ◌≡◌, ℕ, ℤ}
use Rattle.std.proofs.Common.{sym, to_z-of_z, of_z, to_z}
use Rattle.std.specs.Int.{w64}
use Rattle.definitions.specs.Input.{input_of}
use Rattle.definitions.specs.Refusals.{Sizes}
use Rattle.definitions.specs.Reasons as why
use Rattle.checks.specs.Counts.{Modest}
use Rattle.reasons.proofs.Amounts.{told_fits}

pub off_told : {s : Sizes} → Modest s → (p q : ℕ) (coefs : List ℤ) (list : List ℕ) (found : ℕ) (t : List ℕ) {k : ℕ} {amount : ℤ}
    → why.off k amount ≡ why.reason_within s (input_of p q coefs) list found t
    → why.reason_within s (input_of p q coefs) list found t ≡ why.off k (to_z w64 (of_z w64 amount))
off_told m p q coefs list found t e = rw (to_z-of_z (told_fits m p q coefs list found t _ _ e)) (sym e)
