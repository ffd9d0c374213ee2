-- Laws, not definitions: the examples, computed from the definitions.
-- Assumes nothing.
use mathlib.Core.Path.{refl}
use Rattle.bits.specs.Lists.{tabulate}
use Rattle.bits.specs.Groups.{xor_all}
use Rattle.field.specs.Field.{xtime, times, mul, squares, inverse}
use Rattle.field.specs.Sbox.{turn, affine, sbox_of}
use Rattle.round.specs.State.{state, SubBytes, ShiftRows, MixColumns, mix_by, mix_rows, AddRoundKey}
use Rattle.round.specs.Key.{rcon, word_at, RotWord, SubWord, xor_word, Rcon, temp, next_word_of, expand, KeyExpansion, key_of}
use Rattle.aes.specs.Cipher.{rounds, Cipher, encipher_of}
use Rattle.aes_vectors.specs.Examples.{block, key, Examples}

pub examples : Examples
unfolding
    block key tabulate xor_all xtime times mul squares inverse turn affine sbox_of
    rcon word_at RotWord SubWord xor_word Rcon temp next_word_of expand KeyExpansion key_of
    state SubBytes ShiftRows MixColumns mix_by mix_rows AddRoundKey rounds Cipher encipher_of
examples = record { c_2 = refl; c_3 = refl }
