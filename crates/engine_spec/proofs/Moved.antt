-- Theorems about what specs/Moved.antt defines. Assumes nothing.
use Rattle.std.specs.Prelude.{◌≡◌, List, ℕ, ◌<◌, ℤ}
use Rattle.std.proofs.Common.{sym, ◌∙◌, arith}
use Rattle.linear.proofs.SystemLaws.{value_same}
use Rattle.linear.proofs.TupleLaws.{total_same}
use Rattle.linear.specs.Tuples.{Same, total}
use Rattle.definitions.specs.Tables.{at}
use Rattle.engine_spec.specs.Caps.{inside_below}
use Rattle.engine_spec.proofs.Equations.{wanted_alike}
use Rattle.engine_spec.proofs.ReductionLaws.{reduced_more}
use Rattle.engine_spec.specs.ReductionLaws.{SameRows}
use Rattle.engine_spec.specs.Signs.{plus}
use Rattle.engine_spec.specs.Sound.{Given, Sound}
use Rattle.engine_spec.specs.Stage.{Stage, row}
use Rattle.engine_spec.specs.Moved.{degree, same, with_table}

module _ (cap p q : ℕ) (a : ℕ → ℕ → ℤ) (m : ℕ) (basis basis' : ℕ → ℕ → ℕ) (alike : (i : ℕ) → i < m → Same q (basis' i) (basis i)) where
  pub moved_given : Given cap p q a m basis → Given cap p q a m basis'
  moved_given given =
      record {
        loops =
            record {
              only = λ i l.
                  let loop = given.loops.only i l in
                  record {
                    holds = wanted_alike cap p q a (λ j jq. sym (alike i l j jq)) loop.holds;
                    none_below = λ t w b. loop.none_below t w (record {
                      at_most = λ j jq. omega (arith, alike i l j jq, b.at_most j jq);
                      other = λ g. b.other (λ j jq. omega (arith, alike i l j jq, g j jq));
                    });
                  };
              once = λ i k ik kn g. given.loops.once i k ik kn (λ j jq. omega (arith, g j jq, alike i (omega arith) j jq, alike k kn j jq));
              all = λ t b. let (i, l, e) = given.loops.all t b in (i, l, λ j jq. alike i l j jq ∙ e j jq);
            };
        small = λ i j l jq. omega (arith, given.small i j l jq, alike i l j jq);
      }

  module _ (c : ℕ → ℤ) (s : Stage) (table : List ℕ) (r : SameRows q s.rows s.table table) (sound : Sound cap p q a c m basis s) where
    basis_degree : (i : ℕ) → i < m → total (basis' i) q ≡ total (basis i) q
    basis_degree i l = total_same (basis' i) (basis i) q (alike i l)

    pub moved_sound : Sound cap p q a c m basis' (with_table s table)
    moved_sound =
        record {
          capped = sound.capped;
          fits = r.long;
          small = λ i j l jq. omega (arith, sound.small i j l jq, (same cap p q a m basis basis' alike c s table r sound) i l j jq);
          wanted = λ i l. wanted_alike cap p q a (λ j jq. sym ((same cap p q a m basis basis' alike c s table r sound) i l j jq)) (sound.wanted i l);
          sorted = λ i k ik kn.
              omega (
                arith,
                sound.sorted i k ik kn,
                (degree cap p q a m basis basis' alike c s table r sound) i (omega arith),
                (degree cap p q a m basis basis' alike c s table r sound) k kn,
              );
          low = λ i l. omega (arith, sound.low i l, (degree cap p q a m basis basis' alike c s table r sound) i l);
          within = λ i im g.
              let (k, kn, e) = sound.within i im (rw (basis_degree i im) at g) in
              (k, kn, λ j jq. omega (arith, (same cap p q a m basis basis' alike c s table r sound) k kn j jq, e j jq, alike i im j jq));
          pairs = λ h k hn kn o g inside.
              reduced_more q c s.rows s.rows (row q s) (at table q) (plus (row q s h) (row q s k)) (plus (at table q h) (at table q k)) (omega arith)
              (same cap p q a m basis basis' alike c s table r sound)
              (λ j jq. omega (
                arith,
                (same cap p q a m basis basis' alike c s table r sound) h hn j jq,
                (same cap p q a m basis basis' alike c s table r sound)
                    k kn j jq,
              ))
              (sound.pairs h k hn kn
              (rw (
                value_same c q ((same cap p q a m basis basis' alike c s table r sound) h hn),
                value_same c q
                    ((same cap p q a m basis basis' alike c s table r sound) k kn),
              ) at o)
              (rw ((degree cap p q a m basis basis' alike c s table r sound) h hn, (degree cap p q a m basis basis' alike c s table r sound) k kn)
              at g)
              (inside_below cap q (plus (row q s h) (row q s k)) (plus (at table q h) (at table q k))
              (λ j jq. omega (
                arith,
                (same cap p q a m basis basis' alike c s table r sound) h hn j jq,
                (same cap p q a m basis basis' alike c s table r sound) k kn j jq,
              ))
              inside));
          apart = λ i k ik kn w b.
              let il : i < s.rows = omega arith in
              sound.apart i k ik kn
              (rw (
                value_same c q ((same cap p q a m basis basis' alike c s table r sound) i il),
                value_same c q
                    ((same cap p q a m basis basis' alike c s table r sound) k kn),
              ) at w)
              (λ j jq. omega (
                arith,
                b j jq,
                (same cap p q a m basis basis' alike c s table r sound) i il j jq,
                (same cap p q a m basis basis' alike c s table r sound) k kn j jq,
              ));
          first = λ i il im e k kn g.
              let (l, ll, f) = sound.first i il im (sym (basis_degree i im) ∙ e) k kn (sym ((degree cap p q a m basis basis' alike c s table r sound) k kn) ∙ g)
              in
              (l, ll, λ j jq. omega (arith, (same cap p q a m basis basis' alike c s table r sound) k kn j jq, f j jq, alike l (omega arith) j jq));
        }
