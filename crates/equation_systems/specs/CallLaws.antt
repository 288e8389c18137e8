-- What the call answers, case by case. Assumes nothing.
use Rattle.std.specs.Prelude.{ℕ, ◌≤◌, ◌<◌, List, [], ◌∷◌, ◌++◌, ◌≡◌, ℤ, Err, length, drop}
use borrow.Author.Tests.{lt-ltb, le-ltb, lt-leb, le-leb}
use Rattle.definitions.specs.Answers.{refuse_with, ◌then◌}
use Rattle.texts.specs.Reading.{most_bytes}
use Rattle.equation_spec.specs.Lines.{line_count}
use Rattle.equation_spec.specs.Systems as form
use Rattle.equation_spec.specs.Systems.{Rows, rows, refused_at, read_lines, accepted, of_rows}
use Rattle.equation_spec.specs.Systems.{unless, system_checks, system_outcome, hand_out, table_checks, handed_out, read_system}
use Rattle.equation_systems.specs.Answer.{number_of, values_of, rows_by, RefusesLine}
use Rattle.equation_systems.specs.declared.SystemRefusal.{SystemRefusal}
use Rattle.equation_systems.specs.declared.lines.BadLine.{BadLine}
use Rattle.equation_systems.specs.declared.lines.BadLine.TheVariants as bad

-- ---- the tables

module _ (p : ℕ) (zs rs coefs rights : List ℤ) where
  pub coefs_short : length coefs < length zs → form.refused 29 [] coefs rights ≡ handed_out (accepted p zs rs) coefs rights
  unfolding handed_out hand_out table_checks refuse_with ◌then◌
  coefs_short l = rw (lt-ltb (length coefs) (length zs) l)

  pub rights_short : length zs ≤ length coefs → length rights < length rs → form.refused 29 [] coefs rights ≡ handed_out (accepted p zs rs) coefs rights
  unfolding handed_out hand_out table_checks refuse_with ◌then◌
  rights_short l m = rw (le-ltb (length coefs) (length zs) l, lt-ltb (length rights) (length rs) m)

  pub both_written : {after sides : List ℤ} → length zs ≤ length coefs → length rs ≤ length rights → after ≡ zs ++ drop (length zs) coefs
      → sides ≡ rs ++ drop (length rs) rights → form.read p after sides ≡ handed_out (accepted p zs rs) coefs rights
  unfolding handed_out hand_out table_checks refuse_with ◌then◌
  both_written l m e f = rw (le-ltb (length coefs) (length zs) l, le-ltb (length rights) (length rs) m, e, f)

-- ---- the lines

module _ (p : ℕ) (r : Rows) (coefs rights : List ℤ) where
  pub line_refused : {n k : ℕ} {values : List ℕ} → refused_at n k values ≡ r → form.refused k (n ∷ values) coefs rights ≡ handed_out (of_rows p r) coefs rights
  unfolding handed_out of_rows
  line_refused e = rw (← e)

  pub bad_line : (zs rs : List ℤ) (line : BadLine) (why : SystemRefusal) → RefusesLine line why → rows_by (Err line) zs rs ≡ r
      → form.refused (number_of why) (values_of why) coefs rights ≡ handed_out (of_rows p r) coefs rights
  bad_line zs rs (bad.Newline n) why e h = rw e (line_refused h)
  bad_line zs rs (bad.Refused n w) why e h = rw e (line_refused h)

  pub lines_accepted : {zs rs : List ℤ} {a : form.Answer} → rows zs rs ≡ r → a ≡ handed_out (accepted p zs rs) coefs rights
      → a ≡ handed_out (of_rows p r) coefs rights
  unfolding handed_out of_rows
  lines_accepted e h = rw (← e) h

-- ---- the checks before them: p lines

module _ (q : ℕ) (t : List ℕ) (coefs rights : List ℤ) where
  pub too_long : most_bytes < length t → form.refused 10 [] coefs rights ≡ read_system q t coefs rights
  unfolding read_system handed_out system_outcome system_checks unless refuse_with ◌then◌
  too_long l = rw (lt-ltb most_bytes (length t) l)

  module _ (p : ℕ) (e : p ≡ line_count t) (short : length t ≤ most_bytes) where
    pub no_line : p < 1 → form.refused 1 [] coefs rights ≡ read_system q t coefs rights
    unfolding read_system handed_out system_outcome system_checks unless refuse_with ◌then◌
    no_line l = rw (le-ltb most_bytes (length t) short, ← e, lt-leb 1 p l)

    module _ (some : 1 ≤ p) where
      pub many_lines : 8 < p → form.refused 1 [] coefs rights ≡ read_system q t coefs rights
      unfolding read_system handed_out system_outcome system_checks unless refuse_with ◌then◌
      many_lines l = rw (le-ltb most_bytes (length t) short, ← e, le-leb 1 p some, lt-leb p 8 l)

      module _ (few : p ≤ 8) where
        pub no_unknown : q < 1 → form.refused 2 [] coefs rights ≡ read_system q t coefs rights
        unfolding read_system handed_out system_outcome system_checks unless refuse_with ◌then◌
        no_unknown l = rw (le-ltb most_bytes (length t) short, ← e, le-leb 1 p some, le-leb p 8 few, lt-leb 1 q l)

        pub many_unknowns : 1 ≤ q → 16 < q → form.refused 2 [] coefs rights ≡ read_system q t coefs rights
        unfolding read_system handed_out system_outcome system_checks unless refuse_with ◌then◌
        many_unknowns m l = rw (le-ltb most_bytes (length t) short, ← e, le-leb 1 p some, le-leb p 8 few, le-leb 1 q m, lt-leb q 16 l)

        pub to_lines : 1 ≤ q → q ≤ 16 → handed_out (of_rows p (read_lines p q 1 [] [] t)) coefs rights ≡ read_system q t coefs rights
        unfolding read_system system_outcome system_checks unless refuse_with ◌then◌
        to_lines m l = rw (le-ltb most_bytes (length t) short, ← e, le-leb 1 p some, le-leb p 8 few, le-leb 1 q m, le-leb q 16 l)
