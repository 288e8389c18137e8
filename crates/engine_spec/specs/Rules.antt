-- The engine's refusals before a call's work, as rules in words and in their order: each is given in its case and in no other. Assumes nothing.
use Rattle.std.specs.Prelude.{◌⊎◌, ℕ, ◌*◌, ◌<◌, length}
use Rattle.engine_spec.specs.Engine.{Work}

-- ---- the rules

-- 4: the table of the working system is shorter than p × q numbers, or there is room for fewer than q rows in the basis
abbrev pub Short : (p q most : ℕ) → Work → Type 0
Short p q most w = (length w.equations < p * q) ⊎ (most < q)
