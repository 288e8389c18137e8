-- Theorems about what specs/Held.antt defines. Assumes nothing.
use Rattle.std.specs.Prelude.{◌≡◌, refl, List, ℕ, suc, ◌*◌, ◌-◌, ◌<◌, ℤ, pos, get_or, length}
use Rattle.std.proofs.Common.{subst, inl, arith}
use Rattle.linear.proofs.RightSides.{Extends}
use Rattle.linear.specs.Systems.{SolutionIn}
use Rattle.linear.proofs.TupleLaws.{least, minimal_from}
use Rattle.linear.specs.Tuples.{AtOrBelow, Same, put}
use Rattle.definitions.specs.Input.{Extra, Input, alone, map_of, rights, system_of, walk_system}
use Rattle.definitions.specs.Reader.{at_one, at_zero}
use Rattle.definitions.specs.System.{MinimalFrom, MinimalMeeting, System, coef}
use Rattle.definitions.specs.Tables.{State}
use Rattle.laws.proofs.Extended.{extends}
use Rattle.laws.specs.RefusalLaws.{Handed}
use Rattle.laws.proofs.RefusalLaws.{equal}
use Rattle.theorems.specs.Link.{up_to_one}
use Rattle.theorems.specs.Listed.{Exactly, Only}
use Rattle.theorems.proofs.Listed.{only_reads, only_reads_at}
use Rattle.theorems.proofs.RightSides.{at_0_basis, at_1_basis, basis_at_0, basis_at_1, only_zero, zero_minimal}
use Rattle.theorems.specs.Run.{Sound, aim_of}
use Rattle.theorems.proofs.Run.{sound_exactly, sound_only, sound_second, sound_seconds}
use Rattle.theorems.specs.Held.{Part, Read, Whole, m}

-- rows of another set, and of as many numbers
only_as : {q w n : ℕ} {U W : (ℕ → ℕ) → Type 0} {table : List ℕ} → w ≡ q → ((y : ℕ → ℕ) → U y → W y) → Only w U table n → Only q W table n
only_as {q} {w} {n} {U} {W} {table} e f o = subst (λ w. Only w W table n) e (record { room = o.room; only = λ i l. f _ (o.only i l); once = o.once })

exactly_as : {q w n : ℕ} {U W : (ℕ → ℕ) → Type 0} {table : List ℕ} → w ≡ q → ((y : ℕ → ℕ) → U y → W y) → ((y : ℕ → ℕ) → W y → U y) → Exactly w U table n
    → Exactly q W table n
exactly_as {q} {w} {n} {U} {W} {table} e f g o =
    subst (λ w. Exactly w W table n) e
    (record { part = record { room = o.part.room; only = λ i l. f _ (o.part.only i l); once = o.part.once }; all = λ t h. o.all t (g t h) })

-- the map has the coefficients that it says
numbered : (e : Extra) (i : Input) → i.extra ≡ e → Handed i → length i.coefs ≡ i.p * i.q
numbered alone i is h = equal (length i.coefs) (i.p * i.q) (rw is at h.numbers)
numbered (rights b) i is h = equal (length i.coefs) (i.p * i.q) (λ ne. rw is at h.numbers (inl ne))

module _ (i : Input) (b : List ℤ) (len : length i.coefs ≡ i.p * i.q) (s : State) where
  x : Extends i.p i.q (coef (map_of i)) (λ k. get_or b k (pos 0)) (coef (m i b len s))
  x = extends (map_of i) b len

  less : suc i.q - 1 ≡ i.q
  less = omega arith

  sides_part : Sound (m i b len s) up_to_one s → Part (rights b) i s
  sides_part o = (
    only_as less (λ y h. basis_at_0 x (put 0 y) refl h) (sound_only (m i b len s) up_to_one s o),
    only_as less (λ y h. basis_at_1 x (put 1 y) refl h) (sound_second (m i b len s) up_to_one refl s o),
  )

  sides_whole : Sound (m i b len s) up_to_one s → s.run.height ≡ 0 → Whole (rights b) i s
  sides_whole o e = (
    exactly_as less (λ y h. basis_at_0 x (put 0 y) refl h) (λ y h. at_0_basis x y h) (sound_exactly (m i b len s) up_to_one s o e),
    exactly_as less (λ y h. basis_at_1 x (put 1 y) refl h) (λ y h. at_1_basis x y h) (sound_seconds (m i b len s) up_to_one refl s o e),
  )

module _ (i : Input) (h : Handed i) (s : State) where
  part_for : (e : Extra) → i.extra ≡ e → Sound (walk_system e i) (aim_of e) s → Part e i s
  part_for alone is o = sound_only (map_of i) (aim_of alone) s o
  part_for (rights b) is o = sides_part i b (numbered (rights b) i is h) s o

  whole_for : (e : Extra) → i.extra ≡ e → Sound (walk_system e i) (aim_of e) s → s.run.height ≡ 0 → Whole e i s
  whole_for alone is o z = sound_exactly (map_of i) (aim_of alone) s o z
  whole_for (rights b) is o z = sides_whole i b (numbered (rights b) i is h) s o z

  pub sound_part : Sound (system_of i) (aim_of i.extra) s → Part i.extra i s
  sound_part = part_for i.extra refl

  pub sound_whole : Sound (system_of i) (aim_of i.extra) s → s.run.height ≡ 0 → Whole i.extra i s
  sound_whole = whole_for i.extra refl

  read_for : (e : Extra) → 0 < i.q → Sound (walk_system e i) (aim_of e) s → Part e i s → Read e i s
  read_for alone some o p = only_reads some o.valid.shaped.q_few p
  read_for (rights b) some o (p, p₂) =
      let few = o.valid.shaped.q_few in (
        only_reads some (omega arith) p,
        only_reads some (omega arith) p₂,
        only_reads_at at_zero s.list s.second some (omega arith) p,
        only_reads_at at_one s.list s.second some (omega arith) p₂,
      )

  wide_for : (e : Extra) → Sound (walk_system e i) (aim_of e) s → 0 < i.q
  wide_for alone o = o.valid.shaped.wide
  wide_for (rights b) o = let w = o.valid.shaped.wide in omega arith

  pub sound_read : Sound (system_of i) (aim_of i.extra) s → Read i.extra i s
  sound_read o = read_for i.extra (wide_for i.extra o) o (sound_part o)

-- "zero if all of them are zero"
pub zero_sides : (i : Input) (b : List ℤ) → ((k : ℕ) → k < i.p → get_or b k (pos 0) ≡ pos 0)
    → MinimalMeeting (map_of i) b (λ j. 0) × ((t : ℕ → ℕ) → MinimalMeeting (map_of i) b t → Same i.q (λ j. 0) t)
zero_sides i b zeros = (zero_minimal i.p i.q (coef (map_of i)) _ zeros, only_zero i.p i.q (coef (map_of i)) _ zeros)

-- "the zero tuple counts: floor zero has the list "0 0 .. 0"": of every map, the minimal solution at or above 0 is 0, and no other
pub zero_bound : (m : System) (lower : ℕ → ℕ) → ((j : ℕ) → j < m.q → lower j ≡ 0)
    → MinimalFrom m lower (λ j. 0) × ((t : ℕ → ℕ) → MinimalFrom m lower t → Same m.q (λ j. 0) t)
zero_bound m lower zeros =
    let w : SolutionIn m.p m.q (coef m) (AtOrBelow m.q lower) (λ j. 0) = record {
      solution = (zero_minimal m.p m.q (coef m) (λ k. pos 0) (λ k l. refl)).holds;
      admitted = λ j l. omega (arith, zeros j l);
    } in
    (minimal_from w (λ s v under j l. omega (arith, under j l)), λ t v. least v (λ j. 0) w (λ j l. omega arith))
