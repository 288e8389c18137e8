-- Theorems about what specs/Put.antt defines. Assumes nothing.
use Rattle.std.specs.Prelude.{ℕ, ◌+◌, ◌≤◌, List, [], ◌++◌, ◌≡◌, refl, length, take, drop}
use Rattle.std.proofs.Common.{append-nil, append_assoc, sym, ◌∙◌, arith, length-append, take-append-drop, drop-drop}
use Rattle.std.proofs.Common.{length-drop, length-take-le}
use Rattle.std.proofs.lemmas.Slice.{take-put_mid, drop-put_mid}
use borrow.Rule.Slice.PartMut.{put_mid, same_len_mid}
use Rattle.texts.specs.Put.{Put, Rest}

pub put_none : (before : List ℕ) (at : ℕ) → Put before at [] before at
put_none before at = record { written = sym (append-nil (take at before)); kept = refl; place = omega arith; same = refl }

kept_past : (now before : List ℕ) (i n k : ℕ) → n ≡ i + k → drop i now ≡ drop i before → drop n now ≡ drop n before
kept_past now before i n k e h = rw (e, ← drop-drop k i now, ← drop-drop k i before, h)

pub put_then : {before now after : List ℕ} {at i next : ℕ} {x y : List ℕ} → Put before at x now i → Put now i y after next → Put before at (x ++ y) after next
put_then {before} {now} {after} {at} {i} {next} {x} {y} a b =
    record {
      written = rw (b.written, a.written, append_assoc);
      kept = b.kept ∙ kept_past now before i next (length y) b.place a.kept;
      place = rw length-append (omega (arith, a.place, b.place));
      same = b.same ∙ a.same;
    }

-- ---- a word

pub put_part : (before : List ℕ) {at k : ℕ} {bytes part : List ℕ} → k ≡ length bytes → part ≡ bytes → at + length bytes ≤ length before
    → Put before at bytes (put_mid at k before part) (at + length bytes)
put_part before {at} {k} {bytes} {part} n e l =
    rw (e, n) (record {
      written = take-put_mid at (length bytes) before bytes (at + length bytes) refl (omega arith);
      kept = drop-put_mid at (length bytes) before bytes (at + length bytes) (omega arith) (omega arith) refl;
      place = refl;
      same = same_len_mid at (length bytes) before bytes (omega (arith, length-take-le (length bytes) (drop at before) (omega (arith, length-drop at before))));
    })

pub rest_begins : (before : List ℕ) (at : ℕ) (whole : List ℕ) → Rest before at whole before at whole
rest_begins before at whole = record { completes = λ p. p; same = refl }

pub rest_next : {before whole now after rest : List ℕ} {at next n : ℕ} {part : List ℕ} → Rest before at whole now next (part ++ rest)
    → Put now next part after n → Rest before at whole after n rest
rest_next r p = record { completes = λ q. r.completes (put_then p q); same = p.same ∙ r.same }

pub rest_ends : {before whole now : List ℕ} {at next : ℕ} → Rest before at whole now next [] → Put before at whole now next
rest_ends {now = now} {next = next} r = r.completes (put_none now next)

-- ---- a text at the beginning

-- "Space lent for output keeps what stood past the written part."
pub put_whole : {before text after : List ℕ} {next : ℕ} → Put before 0 text after next → (next ≡ length text) × (after ≡ text ++ drop (length text) before)
put_whole {before} {text} {after} {next} p =
    let n : next ≡ length text = p.place ∙ omega arith in
    (n, sym (take-append-drop next after) ∙ rw (p.written, p.kept, n))
