-- `images::write` meets its contract. The sums passed have been written. Assumes nothing.
use Rattle.desk_rows.specs.Images.{ImageWritten, image_at}
use Rattle.desk_rows.proofs.images.write.Given as goal

abbrev pub invariant-loop-i : goal.invariant-loop-i
invariant-loop-i l = ImageWritten l.k l.i (image_at l.q l.coefs l.table l.base) l.initial.images l.images
