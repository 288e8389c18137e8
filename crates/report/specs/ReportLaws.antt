-- What a report is, from what reading the text answered. Assumes nothing.
use Rattle.std.specs.Prelude.{Result, Ok, Err, ℕ, ◌*◌, ◌≤◌, List, ◌++◌, ◌≡◌, ℤ, length, take, drop}
use Rattle.std.proofs.Common.{sym, ap, subst, mul-le-mul, arith, length-append, length-take, take_at}
use Rattle.definitions.specs.Input.{input_of}
use Rattle.map_spec.specs.Reading as reading
use Rattle.texts.specs.Put.{Put}
use Rattle.map_spec.specs.Reading.{Reading, read_map}
use Rattle.map_text.specs.Answer.{Outcome, answered, outcome, number_of, values_of}
use Rattle.map_text.proofs.MapLaws.{accepted_written}
use Rattle.map_text.specs.declared.Map.{Map}
use Rattle.map_text.specs.declared.TextRefusal.{TextRefusal}
use Rattle.report_spec.specs.Printed.{refusal_text, run_text, run, reading_text, printed}

-- a text at the beginning of a buffer
pub put_first : {before text after : List ℕ} {next : ℕ} → Put before 0 text after next
    → (take next after ≡ text) × ((drop next after ≡ drop next before) × (next ≤ length after))
put_first p = (p.written, (p.kept, omega (arith, p.place, rw length-take at (ap length p.written))))

-- ---- a text that is refused

refused_as : (x : Reading) (before table : List ℤ) (why : TextRefusal) → outcome (Err why) table ≡ answered x before
    → refusal_text (number_of why) (values_of why) ≡ reading_text x
unfolding answered reading_text
refused_as (reading.accepted p q coefs) before table why e = let a = ap (λ (o : Outcome). o.answer) e in absurd (let z : ◌≡◌ {A = ℕ} 0 1 = cc in omega arith)
refused_as (reading.refused n values) before table why e = let a = ap (λ (o : Outcome). o.answer) e in cc

pub refused_text : (t : List ℕ) (before : List ℤ) {table : List ℤ} {r : Result Map TextRefusal} {why : TextRefusal}
    → outcome r table ≡ answered (read_map t) before → r ≡ Err why
    → refusal_text (number_of why) (values_of why) ≡ printed t
unfolding printed
refused_text t before {table} {r} {why} e h = refused_as (read_map t) before table why (rw h at e)

-- ---- a map

-- the coefficients of a map stand at the beginning of the table
pub record MapRead (t : List ℕ) (table : List ℤ) (p q : ℕ) : Type 0 where
  pub few : p * q ≤ 128
  pub fits : p * q ≤ length table
  pub text : run_text p q (run (input_of p q (take (p * q) table))) ≡ printed t

accepted_as : (x : Reading) (before table : List ℤ) (m : Map) → outcome (Ok m) table ≡ answered x before
    → (zs : List ℤ) × (x ≡ reading.accepted m.p m.q zs) × (table ≡ zs ++ drop (length zs) before)
unfolding answered
accepted_as (reading.accepted p q coefs) before table m e = let a = ap (λ (o : Outcome). o.answer) e in (coefs, cc, ap (λ (o : Outcome). o.table) e)
accepted_as (reading.refused n values) before table m e = let a = ap (λ (o : Outcome). o.answer) e in absurd (let z : ◌≡◌ {A = ℕ} 0 1 = cc in omega arith)

accepted_text : (t : List ℕ) (zs before : List ℤ) (p q : ℕ) → read_map t ≡ reading.accepted p q zs → MapRead t (zs ++ drop (length zs) before) p q
unfolding printed reading_text
accepted_text t zs before p q x =
    let m = (accepted_written t x).1 in
    let n : length zs ≡ p * q = m.count in
    record {
      few = omega (arith, mul-le-mul m.p_few m.q_few);
      fits = rw length-append (omega arith);
      text = rw (x, take_at zs (drop (length zs) before) (p * q) n);
    }

pub map_read : (t : List ℕ) (before : List ℤ) {table : List ℤ} {r : Result Map TextRefusal} {m : Map} → outcome r table ≡ answered (read_map t) before
    → r ≡ Ok m → MapRead t table m.p m.q
map_read t before {table} {r} {m} e h =
    let (zs, x, y) = accepted_as (read_map t) before table m (rw h at e) in
    subst (λ (l : List ℤ). MapRead t l m.p m.q) (sym y) (accepted_text t zs before m.p m.q x)
