-- A turn of the second walk's loop, from what its parts ensure. Assumes nothing.
use Rattle.std.specs.Prelude.{◌≡◌, ◌≢◌, List, ℕ, ◌+◌, ◌*◌, ◌-◌, ◌/◌, ◌≤◌, ◌<◌, max, ℤ, length, get_or, Result, Ok, Err}
use Rattle.std.proofs.Common.{sym, ◌∙◌, ap, ap₂, le-div_iff_mul-le, arith}
use Rattle.linear.proofs.TupleLaws.{total_same}
use Rattle.linear.specs.Tuples.{total}
use Rattle.definitions.specs.Answers.{refused}
use Rattle.definitions.specs.Machine.{walk}
use Rattle.definitions.specs.Refusals.{step_limit}
use Rattle.definitions.specs.Tables.{State, at}
use Rattle.laws.proofs.TableLaws.{row_fits}
use Rattle.table_rows.specs.Rows.{Holds, tuple}
use Rattle.table_rows.specs.Small.{SmallRow}
use Rattle.calls.specs.Paper.{number_of, values_of}
use Rattle.calls.specs.declared.Record.{Record}
use Rattle.calls.specs.declared.Refusal.{Refusal}
use Rattle.desk_spec.specs.Desks.{Desk, desk_machine, desk_of}
use Rattle.desk_spec.specs.Valid.{DeskValid}
use Rattle.desk_rows.specs.Images.{ImageWritten, Images, image_at}
use Rattle.desk_rows.specs.Rows.{SmallTuple}
use Rattle.desk_walk.specs.declared.step.DeskStepped.{DeskStepped}
use Rattle.desk_walk.specs.declared.step.DeskStepped.TheVariants.{Grown, Listed}
use Rattle.desk_walk.specs.Taking.{Standing, Taken, state_at}
use Rattle.desk_walk.specs.Walking.{Walking, ends_refused, goes_on}

module _ (r : Record) {p q : ℕ} {coefs : List ℤ} {generators stack list : List ℕ} {height found steps deepest : ℕ}
    (v : DeskValid (desk_of p q coefs generators) (state_at r stack list height found steps deepest)) where
  pub found_place : found * q ≤ length list
  found_place = (le-div_iff_mul-le {k = q} {x = found} {y = length list} v.shaped.q_some).0 v.ordered.found

  module _ (h : 0 < height) where
    pub top_row : SmallRow q stack ((height - 1) * (q + 2))
    top_row =
        record {
          whole = omega (arith, row_fits (q + 2) (height - 1) (length generators / q) (omega (arith, v.ordered.height)), v.shaped.stack);
          small = λ i l. (v.ordered.rows (height - 1) (omega arith)).small i l;
        }

    pub held_small : {top : List ℕ} → Holds q top stack ((height - 1) * (q + 2)) → q ≤ length top → SmallTuple q top
    held_small t l = record { whole = l; small = λ j jq. rw (t.same j jq) (top_row.small j jq) }

    pub standing : steps ≢ step_limit → {n : ℕ} → n ≡ length generators / q → {images₀ images : List ℤ} {top : List ℕ} → Images p q coefs generators n images₀
        → ImageWritten 64 p (image_at q coefs stack ((height - 1) * (q + 2))) images₀ images → Holds q top stack ((height - 1) * (q + 2)) → q ≤ length top
        → Standing p q coefs generators images top (state_at r stack list height found steps deepest)
    standing early {n} e i w t l =
        record {
          valid = v;
          high = h;
          early = early;
          handed =
              record { each = λ k x kn xp. w.other k x (omega (arith, v.shaped.few)) (omega (arith, v.shaped.p_few)) ∙ i.each k x (omega (arith, e)) xp };
          image = w.new;
          held = t.same;
          long = l;
        }

-- the images of the generators stay as that of the top is written
pub images_stay : {p q : ℕ} {coefs : List ℤ} {generators : List ℕ} {n : ℕ} {images₀ images : List ℤ} {f : ℕ → ℤ} → p ≤ 8 → n ≤ 64
    → Images p q coefs generators n images₀ → ImageWritten 64 p f images₀ images → Images p q coefs generators n images
images_stay few low i w = record { each = λ k x kn xp. w.other k x (omega arith) (omega arith) ∙ i.each k x kn xp }

pub deeper : {q : ℕ} {top stack : List ℕ} {base : ℕ} (deepest : ℕ) {deepest' sum : ℕ} → Holds q top stack base → sum ≡ total (tuple top) q
    → deepest' ≡ max deepest sum → deepest' ≡ max deepest (total (λ j. get_or stack (base + j) 0) q)
deeper {q} {top} {stack} {base} deepest h e m = m ∙ ap (max deepest) (e ∙ total_same (tuple top) (λ j. get_or stack (base + j) 0) q h.same)

module _ (r : Record) {d : Desk} {budget left : ℕ} {s₀ : State} {stack list : List ℕ} {height found steps deepest : ℕ}
    (w : Walking d budget s₀ left (state_at r stack list height found steps deepest)) (h : 0 < height) (more : 0 < left)
    {came : Result DeskStepped Refusal} {stack' list' : List ℕ} (t : Taken d (state_at r stack list height found steps deepest) stack' list' came) where
  abbrev s : State
  s = state_at r stack list height found steps deepest

  pub turn_listed : {k : ℕ} → came ≡ Ok (Listed k) → {height' found' deepest' : ℕ} → height' ≡ height - 1 → found' ≡ k
      → deepest' ≡ max deepest (total (at stack (d.q + 2) (height - 1)) d.q)
      → Walking d budget s₀ (left - 1) (state_at r stack' list' height' found' (steps + 1) deepest')
  turn_listed e eh ef ed = let c = rw e at t.came in rw (eh, ef, ed) (goes_on d w h more c.0 c.1)

  pub turn_grown : {n : ℕ} → came ≡ Ok (Grown n) → {height' found' deepest' : ℕ} → height' ≡ n → found' ≡ found
      → deepest' ≡ max deepest (total (at stack (d.q + 2) (height - 1)) d.q)
      → Walking d budget s₀ (left - 1) (state_at r stack' list' height' found' (steps + 1) deepest')
  turn_grown e eh ef ed = let c = rw e at t.came in rw (eh, ef, ed) (goes_on d w h more c.0 c.1)

  pub turn_refused : {why : Refusal} → came ≡ Err why
      → walk budget (desk_machine d) s₀
      ≡ record { answer = refused (number_of why) (values_of why); state = state_at r stack' list' height found steps deepest }
  turn_refused {why} e =
      let c = rw e at t.came in
      ends_refused d w h more c.0
      ∙ ap₂ (λ x y. record { answer = refused (number_of why) (values_of why); state = state_at r x y height found steps deepest }) (sym c.1) (sym c.2)
