-- `images::write_all` meets its contract. The images of the generators passed have been written. Assumes nothing.
use lib.ListN.{length}
use mathlib.Core.Path.{◌≡◌}
use Rattle.desk_rows.specs.Images.{Images}
use Rattle.desk_rows.proofs.images.write_all.Given as goal

abbrev pub invariant-loop-k : goal.invariant-loop-k
invariant-loop-k l = (length l.images ≡ 520) × Images l.p l.q l.coefs l.generators l.k l.images
