-- Laws, not definitions: the theorems of specs/Witness.antt.
-- Assumes nothing.
use mathlib.Core.List.{List}
use mathlib.Core.Path.{sym, ap, ◌∙◌}
use Prim.Native.Nat.{ℕ}
use Rattle.judgement.proofs.laws.Witness.{ten_accepted, ten_built}
use Rattle.external.proofs.laws.Coding.{plain_coding}
use Rattle.calls.specs.Calls.{walked_over}
use Rattle.whitebox.specs.Bundles.{cipher_block, made_set}
use Rattle.whitebox.specs.Witness.{Witness, PlainWalkIsCipher, PlainCrossed}
use Rattle.whitebox.proofs.laws.Ciphers.{cipher_block_lem}
use Rattle.whitebox.proofs.laws.Demands.{demand2}

pub witness : Witness
witness = record {
  holds = ten_built.1;
  bytes = ten_built.0;
  judged = ten_accepted;
  given = λ key long key_bytes. record { long = long; key_bytes = key_bytes; bundle_bytes = ten_built.0; judged = ten_accepted };
}

pub plain_walk_is_cipher : PlainWalkIsCipher
plain_walk_is_cipher c key l b lent B C given plain block room =
    let walk = demand2 c key l b lent given.long given.key_bytes given.bundle_bytes given.judged block room in
    ap (λ (x : List ℕ). walked_over c 10 (made_set c 4 key l) x lent) (sym (plain_coding 10 l B C plain b block).input)
    ∙ walk.coded
    ∙ (plain_coding 10 l B C plain (cipher_block c 4 key b) (cipher_block_lem c 4 key b given.key_bytes block)).output

pub plain_crossed : PlainCrossed
plain_crossed l B C plain =
    record {
      input = λ b block. let same = plain_coding 10 l B C plain b block in same.input ∙ sym same.output;
      output = λ b block. let same = plain_coding 10 l B C plain b block in same.output ∙ sym same.input;
    }
