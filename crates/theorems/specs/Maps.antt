-- A map by itself, with the limit of its components: what is handed over where no right sides are. Assumes nothing.
use Rattle.std.specs.Prelude.{List, ℕ, ℤ}
use Rattle.definitions.specs.Input.{Input, alone, input_with}

pub record Map : Type 0 where
  pub p : ℕ
  pub q : ℕ
  pub coefs : List ℤ
  pub limit : ℕ

abbrev pub by_itself : Map → Input
by_itself m = input_with alone m.limit m.p m.q m.coefs
