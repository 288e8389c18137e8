-- Theorems about what specs/Groups.antt defines. Assumes nothing.
use Rattle.std.specs.Prelude.{◌≡◌, List, ◌++◌, ℕ, ◌+◌, ◌*◌, ◌/◌, ◌≤◌, ◌<◌, pos, length, get_or, take}
use Rattle.std.proofs.Common.{sym, ◌∙◌, ap, le-div_iff_mul-le, mul-div_cancel, arith, get_or-append-add, get_or-take, length-take-le}
use Rattle.std.proofs.Math.ListN.{get_or-append}
use Rattle.linear.specs.Combinations.{Enumerates}
use Rattle.linear.specs.Tuples.{Same}
use Rattle.definitions.specs.System.{MinimalSolution, System, coef}
use Rattle.definitions.specs.Tables.{at}
use Rattle.laws.proofs.TableLaws.{row_before}
use Rattle.theorems.specs.Listed.{Exactly}
use Rattle.desk_spec.specs.Desks.{Desk, second_group}
use Rattle.desk_spec.specs.Second.{Joined, first_alike}
use Rattle.desk_spec.specs.Groups.{FirstGroup, first_system, whole_system}

pub groups_joined : (d : Desk) (g : FirstGroup d) → Joined g.p d.p d.q (coef (first_system d g)) (coef (second_group d)) (coef (whole_system d g))
groups_joined d g =
    record {
      first = λ i j l jq. get_or-append g.coefs d.coefs (pos 0) (i * d.q + j) (omega (arith, g.numbers, row_before d.q g.p i 0 j l jq));
      second = λ i j l jq.
          let place : (g.p + i) * d.q + j ≡ length g.coefs + (i * d.q + j) = rw g.numbers (omega arith) in
          ap (λ k. get_or (g.coefs ++ d.coefs) k (pos 0)) place ∙ get_or-append-add g.coefs d.coefs (i * d.q + j) (pos 0);
    }

-- ---- a list handed over

minimal_alike : (m : System) {t u : ℕ → ℕ} → Same m.q t u → MinimalSolution m t → MinimalSolution m u
minimal_alike m {t} {u} e b =
    record {
      holds = first_alike m.p m.q (coef m) t u e b.holds;
      none_below =
          λ s w h. b.none_below s w (record { at_most = λ j jq. omega (arith, h.at_most j jq, e j jq); other = λ g. h.other (λ j jq. g j jq ∙ e j jq) });
    }

-- the first n rows of a list table, as a table of their own
pub handed_over : (m : System) (list : List ℕ) (n : ℕ) → 0 < m.q → Exactly m.q (MinimalSolution m) list n
    → Enumerates m.q (MinimalSolution m) (length (take (n * m.q) list) / m.q) (at (take (n * m.q) list) m.q)
handed_over m list n some e =
    let long : n * m.q ≤ length list = (le-div_iff_mul-le {k = m.q} {x = n} {y = length list} some).0 e.part.room in
    let size : length (take (n * m.q) list) / m.q ≡ n = ap (λ k. k / m.q) (length-take-le (n * m.q) list long) ∙ mul-div_cancel n some in
    rw size (record {
      only = λ i l. minimal_alike m (λ j jq. sym (same i l j jq)) (e.part.only i l);
      once = λ i j ij jn h. e.part.once i j ij jn (λ x xq. sym (same i (omega arith) x xq) ∙ h x xq ∙ same j jn x xq);
      all = λ t b. let (i, l, h) = e.all t b in (i, l, λ j jq. same i l j jq ∙ h j jq);
    })
  where
    same : (i : ℕ) → i < n → Same m.q (at (take (n * m.q) list) m.q i) (at list m.q i)
    same i l j jq = get_or-take (n * m.q) list (i * m.q + j) 0 (omega (arith, row_before m.q n i 0 j l jq))
