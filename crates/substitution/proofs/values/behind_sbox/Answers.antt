-- `substitution::values::behind_sbox` inverts the byte matrix of round r at the byte that p reads, takes the key bytes
-- before and behind the S-box, and lets `substitute` fill the list; `behind_is` of `laws.Values` says that these are
-- the bytes that the rule asks for, of the cipher's parts. Its premises are what the calls ensure, and whitebox's laws
-- of what the parts of a cipher are (`parts_substitute`, `parts_read`). Since the bundle is accepted, its byte matrix
-- has 8 bytes (`byte_part_room`) and an inverse (`byte_part_invertible`).
-- Assumes nothing.
use mathlib.Core.Path.{sym, ap, ◌∙◌}
use Prim.Native.Nat.{ℕ}
use Rattle.whitebox.specs.Parts.{parts_for}
use Rattle.whitebox.proofs.laws.Ciphers.{parts_substitute, parts_read}
use Rattle.substitution.proofs.laws.Values.{byte_part_room, byte_part_invertible, behind_is}
use borrow.Author.Rules.{rules}
use Rattle.substitution.proofs.values.behind_sbox.Goals as goal

pub read-requires : goal.read-requires
read-requires c =
    let opened = c.args.source.now.opened in
    let bytes = opened.bytes in
    let accepted = opened.accepted in
    search (rules, byte_part_room, byte_part_invertible)

pub returns : goal.returns
returns c =
    let source = c.args.source.now in
    let keys = source.keys.now in
    let cipher = source.cipher in
    let nr = source.opened.rounds in
    let at = c.requires.0 in
    behind_is nr _ _ _ _ at.least at.most c.reads_of-j.ensures.1 c.part.ensures
    (parts_for cipher nr keys) _ c.args.read.now _ _ _ _ _ _ (parts_substitute nr keys cipher)
    (c.reads_of-j.ensures.0 ∙ ap (λ (reads : ℕ → ℕ). reads c.args.p) (sym (parts_read nr keys cipher)))
    c.read.ensures c.key_before-before.ensures c.key_behind-behind.ensures c.substitute.ensures
