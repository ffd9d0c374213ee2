-- `stages::spread::Spread::read_bytes`: position p reads byte j, whose two nibbles have the encodings `high` and `low`; by `read_made` of
-- `laws.Encodings` the bytes decoded with them are the bytes read. Decoding asks for permutations: an accepted bundle's encodings are, by
-- `encodings_permute`.
-- Assumes nothing.
use Rattle.layout.specs.Ciphers.{reads_of}
use Rattle.stages.proofs.laws.Encodings.{encodings_permute, in_format, read_made}
use Rattle.stages.proofs.spread.Spread.read_bytes.Goals as goal

pub decoded_bytes-requires : goal.decoded_bytes-requires
decoded_bytes-requires c =
    let opened = c.args.self.now.source.opened in
    let permutes = encodings_permute _ _ _ c.encodings.ensures opened.bytes opened.accepted in (
      c.requires,
      permutes _ (in_format _ opened.known _ c.standing_number-high.ensures.1),
      permutes _ (in_format _ opened.known _ c.standing_number-low.ensures.1),
    )

pub returns : goal.returns
returns c =
    read_made _ (reads_of c.args.self.now.source.cipher) _ _ _ _ _ _ _ _ c.encodings.ensures c.source_of-j.ensures.0
    c.standing_number-high.ensures.0 c.standing_number-low.ensures.0 c.decoded_bytes.ensures
