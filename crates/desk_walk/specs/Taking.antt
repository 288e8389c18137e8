-- One step of the second walk: what is known ahead of it, what it comes to, and its ways out. Assumes nothing.
use Rattle.std.specs.Prelude.{◌≡◌, ◌≢◌, Bool, true, false, List, [], ℕ, zero, suc, ◌+◌, ◌*◌, ◌/◌, ◌≤◌, ◌<◌, T, leb, ltb, ℤ, pos, length, Result, Ok, Err}
use Rattle.std.proofs.Math.Path.{refl, sym, ap, ap₂}
use Rattle.std.proofs.Common.{◌∙◌, inl, inr, le-div_iff_mul-le, mul-le-mul_right, arith, le-leb, ne_eqb, lit<}
use Rattle.std.proofs.Math.Bool.{◌&&◌}
use Rattle.std.proofs.Math.Nat.{pow-le-pow_right}
use Rattle.std.proofs.lemmas.Bool.{lt-leb}
use Rattle.std.proofs.Math.ListN.{get_or-eq_default}
use Rattle.linear.specs.Cases.{below_suc}
use Rattle.linear.proofs.Cases.{split}
use Rattle.linear.proofs.SystemLaws.{inner_cong}
use Rattle.linear.specs.Systems.{inner}
use Rattle.linear.proofs.TestLaws.{T-dec, all_same, any_same, count_le, count_same, number_false}
use Rattle.linear.specs.Tests.{all_to, any_to, count_to, number}
use Rattle.linear.specs.Tuples.{Same}
use Rattle.definitions.specs.Answers.{◌then◌, go, refuse, refuse_with}
use Rattle.definitions.specs.Refusals.{step_limit}
use Rattle.definitions.specs.Step.{marks_to}
use Rattle.definitions.specs.System.{image_of, is_zero, most_component, solves}
use Rattle.definitions.specs.Tables.{State, at, capacity, frozen, write_to}
use Rattle.laws.proofs.MarkLaws.{marks_fit}
use Rattle.laws.proofs.SystemLaws.{covered_same}
use Rattle.laws.proofs.TableLaws.{row_fits, write_same}
use Rattle.laws.proofs.Again.{all_again}
use Rattle.laws.specs.Pack.{pack_to, write_if}
use Rattle.laws.specs.Sweep.{keeps}
use Rattle.table_rows.specs.Rows.{tuple}
use Rattle.products.specs.Marks.{marks_frozen, marks_same}
use Rattle.calls.specs.Paper.{number_of, record_of, state_of, values_of}
use Rattle.calls.specs.declared.Record.{Record}
use Rattle.calls.specs.declared.Refusal.{Refusal}
use Rattle.calls.specs.declared.Refusal.TheVariants.{ComponentLimit}
use Rattle.desk_spec.specs.Desks.{Desk, desk_children, desk_deeper, desk_full, desk_grown, desk_level, desk_listed, desk_makes, desk_row}
use Rattle.desk_spec.specs.Desks.{desk_search_checks, desk_step}
use Rattle.desk_spec.specs.Desks.{desk_of, desk_too_large, desk_top, desk_top_marks, freed, generator, generator_count, plus, raises, second_group, swept}
use Rattle.desk_spec.specs.Desks.{towards_generator}
use Rattle.desk_spec.specs.Records.{lent_with}
use Rattle.desk_spec.specs.Valid.{DeskShaped, DeskValid}
use Rattle.desk_spec.proofs.Valid.{children_few, free}
use Rattle.desk_rows.specs.Images.{Factors, Images, SmallDesk, entry, map_value}
use Rattle.desk_rows.specs.Rows.{SmallTuple, row_alike}
use Rattle.desk_walk.specs.Enlisting as enlisting
use Rattle.desk_walk.specs.Enlisting.{Enlisted, swept_count, swept_list}
use Rattle.desk_walk.specs.Pushing.{Pushing, pushed}
use Rattle.desk_walk.specs.Trying.{Tries, Trying, large_tried, large_by, made_tried, made_by, generators_tried}
use Rattle.desk_walk.specs.declared.step.DeskStepped.{DeskStepped}
use Rattle.desk_walk.specs.declared.step.DeskStepped.TheVariants.{Grown, Listed}

-- a state with other tables, counts and depth
abbrev pub moved_to : State → List ℕ → List ℕ → ℕ → ℕ → ℕ → ℕ → State
moved_to s stack list height found steps deepest =
    lent_with s stack list
    (record { kind = s.run.kind; height = height; found = found; steps = steps; found2 = s.run.found2; steps2 = s.run.steps2; deepest = deepest })

-- the state of a walk that was handed the record r, whose counts and depth have moved
abbrev pub state_at : Record → List ℕ → List ℕ → ℕ → ℕ → ℕ → ℕ → State
state_at r stack list height found steps deepest =
    state_of stack list (record_of r.kind height (record { 0 = found }) (record { 0 = steps }) r.found2 r.steps2 deepest)

-- ---- what is handed over

pub shaped_small : (p q : ℕ) (coefs : List ℤ) (generators : List ℕ) {size : ℕ} → DeskShaped (desk_of p q coefs generators) size → SmallDesk p q coefs generators
shaped_small p q coefs generators g =
    record {
      group =
          record {
            some = g.q_some;
            equations = g.p_few;
            unknowns = g.q_few;
            whole = omega (arith, g.coefs);
            small = λ n. elim (split n (length coefs)) [ inl l ↦ g.range n l | inr l ↦ rw (get_or-eq_default coefs (pos 0) l) (omega arith) ];
          };
      handed = λ i. elim (split i (length generators)) [ inl l ↦ g.handed i l | inr l ↦ rw (get_or-eq_default generators 0 l) (omega arith) ];
    }

-- ---- ahead of a step

-- `top` holds the tuple of the top, row 64 of the images its image, and the rows before it those of the generators
pub record Standing (p q : ℕ) (coefs : List ℤ) (generators : List ℕ) (images : List ℤ) (top : List ℕ) (s : State) : Type 0 where
  pub valid : DeskValid (desk_of p q coefs generators) s
  pub high : 0 < s.run.height
  pub early : s.run.steps ≢ step_limit
  pub handed : Images p q coefs generators (length generators / q) images
  pub image : (i : ℕ) → i < p → entry images 64 i ≡ image_of (second_group (desk_of p q coefs generators)) (desk_top (desk_of p q coefs generators) s) i
  pub held : Same q (tuple top) (desk_top (desk_of p q coefs generators) s)
  pub long : q ≤ length top

-- what a step came to
abbrev pub Came : Desk → State → List ℕ → List ℕ → Result DeskStepped Refusal → Type 0
Came d s stack list (Ok (Listed k)) =
    (desk_search_checks d s ≡ go) × (moved_to s stack list (desk_level s) k (s.run.steps + 1) (desk_deeper d s) ≡ desk_step d s)
Came d s stack list (Ok (Grown h)) = (desk_search_checks d s ≡ go) × (moved_to s stack list h s.run.found (s.run.steps + 1) (desk_deeper d s) ≡ desk_step d s)
Came d s stack list (Err why) = (desk_search_checks d s ≡ refuse (number_of why) (values_of why)) × (stack ≡ s.stack) × (list ≡ s.list)

pub record Taken (d : Desk) (s : State) (stack list : List ℕ) (r : Result DeskStepped Refusal) : Type 0 where
  pub came : Came d s stack list r

-- ---- lists of rows that all stay

all_counted : (f : ℕ → Bool) (n : ℕ) → n ≤ count_to n f → (i : ℕ) → i < n → T (f i)
unfolding count_to
all_counted f zero h i l = absurd (omega arith)
all_counted f (suc n) h i l =
    elim (T-dec (f n)) [
      | inl y ↦ elim (below_suc l) [ inl k ↦ all_counted f n (omega (arith, count_le f n, few (f n))) i k | inr e ↦ rw e y ]
      | inr y ↦ absurd (omega (arith, count_le f n, number_false (f n) y))
    ]
  where
    few : (b : Bool) → number b ≤ 1
    few true = omega arith
    few false = omega arith

-- ---- packs alike

if_alike : (b : Bool) (w : ℕ) (table : List ℕ) (base : ℕ) (x y : ℕ → ℕ) → ((t : List ℕ) (k : ℕ) → write_to w t k x ≡ write_to w t k y)
    → write_if b w table base x ≡ write_if b w table base y
if_alike true w table base x y e = e table base
if_alike false w table base x y e = refl

pack_alike : (n w : ℕ) (table : List ℕ) (level : ℕ) (f g : ℕ → Bool) (x y : ℕ → ℕ → ℕ) → ((j : ℕ) → j < n → f j ≡ g j)
    → ((j : ℕ) → j < n → (t : List ℕ) (k : ℕ) → write_to w t k (x j) ≡ write_to w t k (y j)) → pack_to n w table level f x ≡ pack_to n w table level g y
unfolding pack_to
pack_alike zero w table level f g x y e h = refl
pack_alike (suc n) w table level f g x y e h =
    let rest = pack_alike n w table level f g x y (λ j l. e j (omega arith)) (λ j l. h j (omega arith)) in
    let count = count_same f g n (λ j l. e j (omega arith)) in
    rw (e n (omega arith), rest, count) (if_alike (g n) w (pack_to n w table level g y) ((level + count_to n g) * w) (x n) (y n) (h n (omega arith)))

module _ {p q : ℕ} {coefs : List ℤ} {generators : List ℕ} {images : List ℤ} {top : List ℕ} (s : State) (z : Standing p q coefs generators images top s) where
  abbrev d : Desk
  d = desk_of p q coefs generators

  abbrev n : ℕ
  n = generator_count d

  abbrev small : SmallDesk p q coefs generators
  small = shaped_small p q coefs generators z.valid.shaped

  abbrev marks : ℕ
  marks = desk_top_marks d s

  -- the test for a solution
  pub solved : all_to p (λ i. is_zero (entry images 64 i)) ≡ solves (second_group d) (desk_top d s)
  unfolding solves
  solved = all_same p _ _ (λ i l. ap is_zero (z.image i l))

  top_small : SmallTuple q top
  top_small = record { whole = z.long; small = λ j l. rw (z.held j l) ((z.valid.ordered.rows (desk_level s) (omega (arith, z.high))).small j l) }

  factors : (j : ℕ) → j < n → Factors p images 64 j
  factors j l =
      record {
        few = z.valid.shaped.p_few;
        low = (omega arith, omega (arith, z.valid.shaped.few));
        left = λ i ip. rw (z.image i ip)
            (map_value small.group i (desk_top d s) (λ k kq. (z.valid.ordered.rows (desk_level s) (omega (arith, z.high))).small k kq));
        right = λ i ip. rw (z.handed.each j i l ip) (z.valid.shaped.images j i l ip);
      }

  rows_whole : n * q ≤ length generators
  rows_whole = (le-div_iff_mul-le {k = q} {x = n} {y = length generators} z.valid.shaped.q_some).0 (omega arith)

  pub listed_whole : s.run.found * q ≤ length s.list
  listed_whole = (le-div_iff_mul-le {k = q} {x = s.run.found} {y = length s.list} z.valid.shaped.q_some).0 z.valid.ordered.found

  pub trying : Trying p q generators n images s.list s.run.found top
  trying =
      record {
        some = z.valid.shaped.q_some;
        few = z.valid.shaped.few;
        whole = rows_whole;
        handed = small.handed;
        factors = factors;
        small = top_small;
        listed = listed_whole;
      }

  -- the top's row stands in the table
  pub top_place : desk_level s * (q + 2) + (q + 2) ≤ length s.stack
  top_place = omega (arith, row_fits (q + 2) (desk_level s) n (omega (arith, z.high, z.valid.ordered.height)), z.valid.shaped.stack)

  raised_same : (j : ℕ) → Same q (plus (desk_top d s) (generator d j)) (plus (tuple top) (at generators q j))
  raised_same j i l = ap (λ x. x + at generators q j i) (sym (z.held i l))

  makes_same : (j : ℕ) → j < n → desk_makes d s j ≡ made_by p q generators images s.list s.run.found (tuple top) marks j
  unfolding raises made_by
  makes_same j l =
      let product : towards_generator d (desk_top d s) j ≡ inner p (entry images 64) (entry images j) =
      inner_cong p (λ i ip. sym (z.image i ip)) (λ i ip. sym (z.handed.each j i l ip)) in
      rw (
        product,
        covered_same q s.run.found (at s.list q) {x = plus (desk_top d s) (generator d j)} {y = plus (tuple top) (at generators q j)} (raised_same j),
      )

  -- ---- a solution

  module _ (y : solves (second_group d) (desk_top d s) ≡ true) where
    abbrev full : Bool
    full = leb (capacity q s.list) s.run.found

    unfreed : s.run.found < capacity q s.list → freed d s ≡ s
    unfolding freed
    unfreed l = rw (lt-leb (capacity q s.list) s.run.found l)

    was_freed : capacity q s.list ≤ s.run.found → freed d s ≡ swept q s
    unfolding freed
    was_freed l = rw (le-leb (capacity q s.list) s.run.found l)

    goes : desk_full d s ≡ false → desk_search_checks d s ≡ go
    unfolding desk_search_checks refuse_with ◌then◌
    goes f = rw (ne_eqb s.run.steps step_limit z.early, y, f)

    refuses : desk_full d s ≡ true → desk_search_checks d s ≡ refuse 11 []
    unfolding desk_search_checks refuse_with ◌then◌
    refuses f = rw (ne_eqb s.run.steps step_limit z.early, y, f)

    steps_listed : desk_step d s ≡ desk_listed d (freed d s)
    unfolding desk_step
    steps_listed = rw y

    written : (list : List ℕ) (k : ℕ) → write_to q list (k * q) (tuple top) ≡ write_to q list (k * q) (desk_top d s)
    written list k = write_same q list (k * q) z.held

    listed_now : {after : List ℕ} → after ≡ write_to q s.list (s.run.found * q) (tuple top)
        → moved_to s s.stack after (desk_level s) (s.run.found + 1) (s.run.steps + 1) (desk_deeper d s) ≡ desk_listed d s
    unfolding desk_listed
    listed_now e = rw (e ∙ written s.list s.run.found)

    listed_swept : {after : List ℕ} → after ≡ write_to q (swept_list q s.run.found s.list) (swept_count q s.run.found s.list * q) (tuple top)
        → moved_to s s.stack after (desk_level s) (swept_count q s.run.found s.list + 1) (s.run.steps + 1) (desk_deeper d s) ≡ desk_listed d (swept q s)
    unfolding desk_listed swept
    listed_swept e = rw (e ∙ written (swept_list q s.run.found s.list) (swept_count q s.run.found s.list))

    swept_found : (swept q s).run.found ≡ swept_count q s.run.found s.list
    unfolding swept
    swept_found = refl

    -- what a step came to that lists
    abbrev listed_of : Result ℕ Refusal → Result DeskStepped Refusal
    listed_of (Ok k) = Ok (Listed k)
    listed_of (Err why) = Err why

    pub came_listed : {after : List ℕ} {r : Result ℕ Refusal} → Enlisted q s.run.found (tuple top) s.list after r → Taken d s s.stack after (listed_of r)
    came_listed {after} (enlisting.roomy room e w) =
        let none = unfreed room in
        let f : desk_full d s ≡ false = ap (λ t. leb (capacity q s.list) t.run.found) none ∙ lt-leb (capacity q s.list) s.run.found room in
        rw e (record { came = (goes f, listed_now w ∙ sym (steps_listed ∙ ap (desk_listed d) none)) })
    came_listed {after} (enlisting.freed l room e w) =
        let swept-now = was_freed l in
        let f : desk_full d s ≡ false =
        ap (λ t. leb (capacity q s.list) t.run.found) swept-now ∙ ap (leb (capacity q s.list)) swept_found
        ∙ lt-leb (capacity q s.list) (swept_count q s.run.found s.list) room in
        rw e (record { came = (goes f, listed_swept w ∙ sym (steps_listed ∙ ap (desk_listed d) swept-now)) })
    came_listed {after} (enlisting.full l none e w) =
        let swept-now = was_freed l in
        let f : desk_full d s ≡ true =
        ap (λ t. leb (capacity q s.list) t.run.found) swept-now ∙ ap (leb (capacity q s.list)) swept_found
        ∙ le-leb (capacity q s.list) (swept_count q s.run.found s.list) none in
        let all = all_counted (keeps q s.run.found (at s.list q)) s.run.found (omega (arith, z.valid.ordered.found)) in
        rw e (record { came = (refuses f, refl, w ∙ all_again q s.list (keeps q s.run.found (at s.list q)) s.run.found all) })

  -- ---- no solution

  module _ (y : solves (second_group d) (desk_top d s) ≡ false) where
    large_same : desk_too_large d s
        ≡ any_to n (λ j. made_by p q generators images s.list s.run.found (tuple top) marks j && large_by q generators (tuple top) j)
    unfolding desk_too_large
    large_same = any_same n _ _ (λ j l. ap₂ ◌&&◌ (makes_same j l) (any_same q _ _ (λ i iq. ap (ltb most_component) (raised_same j i iq))))

    refused : any_to n (λ j. made_by p q generators images s.list s.run.found (tuple top) marks j && large_by q generators (tuple top) j) ≡ true
        → desk_search_checks d s ≡ refuse 12 []
    unfolding desk_search_checks refuse_with ◌then◌
    refused e = rw (ne_eqb s.run.steps step_limit z.early, y, large_same ∙ e)

    pub came_large : any_to n (λ j. made_by p q generators images s.list s.run.found (tuple top) marks j && large_by q generators (tuple top) j) ≡ true
        → Taken d s s.stack s.list (Err ComponentLimit)
    came_large e = record { came = (refused e, refl, refl) }

    module _ {made : ℕ} (t : Tries p q generators images s.list s.run.found top marks n made) where
      made_frozen : (j : ℕ) → j < n → frozen made j ≡ desk_makes d s j
      made_frozen j l =
          ap (λ m. frozen m j) t.marked ∙ marks_frozen n (made_by p q generators images s.list s.run.found (tuple top) marks) j l
          ∙ sym (makes_same j l)

      made_count : count_to n (frozen made) ≡ count_to n (desk_makes d s)
      made_count = count_same (frozen made) (desk_makes d s) n made_frozen

      made_marks : (j : ℕ) → j ≤ n → marks_to j (frozen made) ≡ marks_to j (desk_makes d s)
      made_marks j l = marks_same j (frozen made) (desk_makes d s) (λ i k. made_frozen i (omega arith))

      few : desk_level s + count_to n (desk_makes d s) ≤ n
      few = children_few d s z.valid z.high

      pub pushing : Pushing q generators n s.stack (desk_level s) top marks made
      pushing =
          record {
            unknowns = z.valid.shaped.q_few;
            few = z.valid.shaped.few;
            whole = rows_whole;
            handed = small.handed;
            small = top_small;
            low = omega (arith, made_count, few, z.valid.shaped.few);
            room = rw made_count (omega (arith, mul-le-mul_right (q + 2) few, z.valid.shaped.stack));
            fits = λ j l.
                let fit = marks_fit marks (desk_makes d s) n (free d s z.valid z.high) j l
                (z.valid.ordered.rows (desk_level s) (omega (arith, z.high))).fitting in
                omega (arith, made_marks j l, fit, pow-le-pow_right {n = 2} (lit< tt) {i = n} {j = 64} z.valid.shaped.few);
          }

      pushed_same : pushed n q generators s.stack (desk_level s) (tuple top) marks (frozen made)
          ≡ desk_children n d s.stack (desk_level s) (desk_top d s) marks (desk_makes d s)
      pushed_same =
          pack_alike n (q + 2) s.stack (desk_level s) (frozen made) (desk_makes d s) _ _ made_frozen
          (λ j l table base. row_alike q table base (marks + marks_to j (frozen made)) (λ i iq. sym (raised_same j i iq))
          ∙ ap (λ m. write_to (q + 2) table base (desk_row q (plus (desk_top d s) (generator d j)) (marks + m))) (made_marks j (omega arith)))

      grown_now : {h : ℕ} {after : List ℕ} → h ≡ desk_level s + count_to n (desk_makes d s)
          → after ≡ desk_children n d s.stack (desk_level s) (desk_top d s) marks (desk_makes d s)
          → moved_to s after s.list h s.run.found (s.run.steps + 1) (desk_deeper d s) ≡ desk_grown d s
      unfolding desk_grown
      grown_now e w = rw (e, w)

      steps_grown : desk_step d s ≡ desk_grown d s
      unfolding desk_step
      steps_grown = rw y

      goes_on : desk_search_checks d s ≡ go
      unfolding desk_search_checks refuse_with ◌then◌
      goes_on = rw (ne_eqb s.run.steps step_limit z.early, y, large_same ∙ t.none)

      pub came_grown : {h : ℕ} {after : List ℕ} → h ≡ desk_level s + count_to n (frozen made)
          → after ≡ pushed n q generators s.stack (desk_level s) (tuple top) marks (frozen made) → Taken d s after s.list (Ok (Grown h))
      came_grown e w = record { came = (goes_on, grown_now (e ∙ ap (λ k. desk_level s + k) made_count) (w ∙ pushed_same) ∙ sym steps_grown) }

    -- ---- as code has them: the number of generators and the marks of the top known by equations

    module _ {m marks' : ℕ} (em : m ≡ n) (ek : marks' ≡ marks) where
      pub take_large : {why : Refusal} → Err why ≡ generators_tried p q generators m images s.list s.run.found (tuple top) marks'
          → Taken d s s.stack s.list (Err why)
      take_large e =
          let (large, is) = large_tried p q generators n images s.list s.run.found top marks (rw (em, ek) at e) in
          rw is (came_large large)

      module _ {made : ℕ} (e : Ok made ≡ generators_tried p q generators m images s.list s.run.found (tuple top) marks') where
        tries : Tries p q generators images s.list s.run.found top marks n made
        tries = made_tried p q generators n images s.list s.run.found top marks (rw (em, ek) at e)

        pub take_pushing : Pushing q generators m s.stack (desk_level s) top marks' made
        take_pushing = rw (em, ek) (pushing tries)

        pub take_grown : {h : ℕ} {after : List ℕ} → h ≡ desk_level s + count_to m (frozen made)
            → after ≡ pushed m q generators s.stack (desk_level s) (tuple top) marks' (frozen made) → Taken d s after s.list (Ok (Grown h))
        take_grown eh w = came_grown tries (rw em at eh) (rw (em, ek) at w)
