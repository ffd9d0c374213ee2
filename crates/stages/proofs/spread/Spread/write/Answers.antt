-- `stages::spread::Spread::write`: each call fills one list, the values, the basis of words, the images of the word's encodings; `write` makes
-- the table of them, and `spread_made` of `laws.Spread` says that it is the spread table of the cipher. Its premises are what the calls ensure. No sum wraps:
-- p words of 2 m nibbles are at most 15 times 32 of them. The section has all encodings (`encodings_long`), and the words have one of the two widths that are
-- written (`word_width`).
-- Assumes nothing.
use Prim.Native.Nat.{◌*◌, ◌≤◌}
use Rattle.bits.proofs.laws.Multiples.{product_le}
use Rattle.bundle.specs.Format.{encodings}
use Rattle.whitebox.specs.Parts.{parts_for}
use Rattle.whitebox.proofs.laws.Ciphers.{parts_fine, parts_read}
use Rattle.stages.proofs.laws.Encodings.{encodings_long}
use Rattle.stages.proofs.laws.Spread.{spread_made}
use Rattle.stages.proofs.laws.Tables.{word_width}
use Rattle.stages.proofs.laws.Words.{images_lt}
use native.Mathlib.Omega.{arith}
use Rattle.stages.proofs.spread.Spread.write.Goals as goal

pub all_images-requires : goal.all_images-requires
unfolding encodings
all_images-requires c =
    let at = c.args.self.now in
    let before : at.position * (2 * c.width_of-m.result) ≤ 15 * 32 = product_le _ _ 15 32 (omega (arith, at.standing)) (omega (arith, c.width_of-m.ensures.1)) in
    let most = c.width_of-m.ensures.1 in
    let last = c.first_number.ensures.1 in
    let long = encodings_long _ _ _ c.encodings.ensures at.source.opened.accepted in
    record {
      number = omega (arith, before, last, at.source.opened.known);
      few = omega (arith, most);
      stored = omega (arith, before, most, last, long);
      room = omega (arith, most);
    }

pub write-requires : goal.write-requires
write-requires c =
    let at = c.args.self.now in
    let nibbles = images_lt _ _ _ _ _ _ _ at.source.opened.bytes c.encodings.ensures c.all_images.ensures in
    record {
      valued = omega (arith, c.values);
      rows = omega (arith, c.basis);
      width = word_width _ at.stage _ at.in_rounds c.width_of-m.ensures.0;
      encoded = record { long = omega (arith, c.all_images); small = λ i h. nibbles i (omega arith) };
      room = rw c.width_of-m.ensures.0 c.requires;
    }

pub returns : goal.returns
returns c =
    let at = c.args.self.now in
    let source = at.source in
    let nr = source.opened.rounds in
    let fine = parts_fine source.cipher nr _ source.key_bytes in
    spread_made (parts_for source.cipher nr source.keys.now) fine nr _ source.opened.bytes
    source.opened.accepted _ at.in_rounds _ at.standing _ _ _ _ _ _ _ _ _ _
    (parts_read nr source.keys.now source.cipher) c.width_of-m.ensures.0 c.first_number.ensures.0
    c.encodings.ensures (omega arith)
    c.values.ensures (c.basis.ensures _) c.all_images.ensures c.write.ensures
