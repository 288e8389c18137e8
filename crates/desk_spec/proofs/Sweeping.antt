-- Theorems about what specs/Sweeping.antt defines. Assumes nothing.
use Rattle.std.specs.Prelude.{◌≡◌, ℕ, zero, suc, ◌<◌}
use Rattle.std.proofs.Common.{inl, inr, arith}
use Rattle.linear.specs.Combinations.{Enumerates}
use Rattle.linear.proofs.Combinations.{minimal_below}
use Rattle.linear.proofs.Cases.{order}
use Rattle.linear.proofs.TestLaws.{count_mono}
use Rattle.linear.proofs.TupleLaws.{least, minimal_from}
use Rattle.linear.specs.Tuples.{Below, Same, total}
use Rattle.theorems.specs.View.{Listed, View}
use Rattle.theorems.specs.Reaching.{BasisBy, Raising, Reaching, Sure, WantedBy, covers_kept, wanted_same}
use Rattle.theorems.proofs.Reaching.{all_listed}
use Rattle.laws.proofs.SweepLaws.{comes_from, keeps_stays, left_below, none_earlier}
use Rattle.laws.specs.Sweep.{keeps}
use Rattle.desk_spec.specs.Sweeping.{OneList, Sweeps}

pub in_first : {q : ℕ} (v : View) {t : ℕ → ℕ} → OneList v → Listed q v t → (i : ℕ) × (i < v.found 0) × Same q (v.row 0 i) t
in_first v one (zero, i, l, e) = (i, l, e)
in_first v one (suc c, i, l, e) = absurd (omega (arith, one c))

module _ {r : Raising} {v w : View} (s : Sweeps r v w) where
  left_wanted : Sure r v → (c m : ℕ) → m < w.found c → WantedBy r (w.row c m)
  left_wanted inv zero m l = let f = comes_from s.swept m l in wanted_same r (λ j jq. omega (arith, f.same j jq)) (inv.wanted 0 f.i f.low)
  left_wanted inv (suc c) m l = absurd (omega (arith, s.one' c))

  pub sweeping_sure : Sure r v → Sure r w
  sweeping_sure inv =
      record {
        wanted = left_wanted inv;
        admitted =
            λ l lh. r.alike (v.tuple l) (w.tuple l) (λ j jq. omega (arith, s.kept.tuples l (rw s.height at lh) j jq))
            (inv.admitted l (rw s.height at lh));
      }

  -- a basis tuple that was listed is listed still: what stays at or below it is it
  still_listed : Sure r v → (t : ℕ → ℕ) → BasisBy r t → Listed r.q v t → Listed r.q w t
  still_listed inv t b at =
      let (i, l, e) = in_first v s.one at in
      let (m, mw, under) = left_below s.swept i l in
      (0, m, mw, least b (w.row 0 m) ((sweeping_sure inv).wanted 0 m mw) (λ j jq. omega (arith, under j jq, e j jq)))

  pub sweeping_reaches : Reaching r v → Reaching r w
  sweeping_reaches inv =
      record {
        sure = sweeping_sure inv.sure;
        cover = λ t b. elim (inv.cover t b) [
          | inl at ↦ inl (still_listed inv.sure t b at)
          | inr (l, lh, c) ↦ inr (l, omega (arith, s.height), covers_kept s.kept lh c)
        ];
      }

  -- ---- after a finished walk

  module _ (inv : Reaching r v) (done : v.height ≡ 0) where
    -- a row that stays is minimal: below a wanted tuple below it a basis tuple would be listed
    left_basis : (i : ℕ) → i < v.found 0 → ((k : ℕ) → k < v.found 0 → ¬ (Below r.q (v.row 0 k) (v.row 0 i))) → BasisBy r (v.row 0 i)
    left_basis i l none =
        record {
          holds = inv.sure.wanted 0 i l;
          none_below = λ u w b. minimal_below r.q (WantedBy r) (suc (total u r.q)) u (omega arith) w (λ t bt c.
              let (k, kl, e) = in_first v s.one (all_listed inv done t bt) in
              none k kl (record {
                at_most = λ j jq. omega (arith, e j jq, c j jq, b.at_most j jq);
                other = λ h. b.other (λ j jq. omega (arith, h j jq, e j jq, c j jq, b.at_most j jq));
              }));
        }

    basis_alike : {t u : ℕ → ℕ} → Same r.q t u → BasisBy r t → BasisBy r u
    basis_alike {t} {u} e b =
        minimal_from (wanted_same r e b.holds) (λ x y h j jq. omega (arith, least b x y (λ i iq. omega (arith, h i iq, e i iq)) j jq, e j jq))

    left_once : (i j : ℕ) → i < j → j < w.found 0 → ¬ (Same r.q (w.row 0 i) (w.row 0 j))
    left_once i j ij jw e =
        let f = comes_from s.swept i (omega arith) in
        let g = comes_from s.swept j jw in
        elim (order f.i g.i) [
          | inl lt ↦ none_earlier r.q (v.found 0) (v.row 0) g.i g.low g.stays f.i lt
              (λ x xq. omega (arith, e x xq, f.same x xq, g.same x xq))
          | inr o ↦ elim o [
            | inl same ↦ omega (arith, f.place, rw same at f.place, g.place)
            | inr gt ↦ omega (arith, f.place, g.place, count_mono (keeps r.q (v.found 0) (v.row 0)) g.i f.i (omega arith))
          ]
        ]

    -- "a complete result is, as a set, the list .., each once"
    pub sweeping_enumerates : Enumerates r.q (BasisBy r) (w.found 0) (w.row 0)
    sweeping_enumerates =
        record {
          only = λ m l.
              let f = comes_from s.swept m l in
              basis_alike (λ j jq. omega (arith, f.same j jq))
              (left_basis f.i f.low (keeps_stays r.q (v.found 0) (v.row 0) f.i f.low f.stays).least);
          once = left_once;
          all = λ t b. in_first w s.one' (still_listed inv.sure t b (all_listed inv done t b));
        }
