-- Places of a text and what stands there. A place stands for the text from there on. Assumes nothing.
use Rattle.std.specs.Prelude.{ℕ, Bool, true, false, List, [], ◌∷◌, eqb}
use Rattle.equation_spec.specs.Grammar.{plus, minus, Lead, bare, led}
use Rattle.equation_spec.specs.Reader.{skip, on_sign}

abbrev pub starts : ℕ → List ℕ → Bool
starts b [] = false
starts b (c ∷ t) = eqb c b

-- the sign with which a text begins, and the text after it and its spaces
unfoldable pub lead_of : List ℕ → Lead
lead_of t = on_sign t (λ s r. led s) bare

unfoldable pub after_lead : List ℕ → List ℕ
after_lead t = on_sign t (λ s r. skip r) t

abbrev pub is_led : Lead → Bool
is_led bare = false
is_led (led s) = true

abbrev pub is_minus : Lead → Bool
is_minus bare = false
is_minus (led plus) = false
is_minus (led minus) = true
