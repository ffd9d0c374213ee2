-- THE ROUND TRIP of document 02, Ticket 1, for a reader; proved in proofs/laws/RoundTrip.antt. "If a forward and an inverse set have the same key, and the
-- input coding of each is the output coding of the other, walking one set and then the other gives back any presented block."
use Rattle.std.specs.Prelude.{List, ◌≢◌, ◌≡◌, ℕ, length}
use Rattle.round.specs.Key.{rounds_of}
use Rattle.external.specs.Coding.{Crossed}
use Rattle.calls.specs.Calls.{walked_over}
use Rattle.whitebox.specs.Bundles.{made_set}
use Rattle.whitebox.specs.Demand3.{Given, Presented}

-- The claim, as a property of two memories: walking one and then the other, from the block x, gives x again. `RoundTripFor` makes it of made sets only. What the first
-- walk's fetch leaves in a lent block, which may have held anything, is presented to the second, which answers into another. The walk over `forward` is for the forward
-- cipher, the one over `inverse` for the cipher that i names.
pub record GivesBack (nr i : ℕ) (forward inverse x lent lent' : List ℕ) : Type 0 where
  pub forward_first : walked_over i nr inverse (walked_over 0 nr forward x lent) lent' ≡ x
  pub inverse_first : walked_over 0 nr forward (walked_over i nr inverse x lent) lent' ≡ x

-- It holds of the sets made from one key of nk words with the bundles l and l', for any presented block. The inverse cipher is named by any number but 0, and the
-- making of the inverse set may name it by another than the walk.
abbrev pub RoundTripFor : ℕ → Type 0
RoundTripFor nk =
    (i i' : ℕ) (key l l' x lent lent' : List ℕ) → i ≢ 0 → i' ≢ 0 → Given nk key l → Given nk key l' → Crossed (rounds_of nk) l l' → Presented x
    → length lent ≡ 16 → length lent' ≡ 16 → GivesBack (rounds_of nk) i (made_set 0 nk key l) (made_set i' nk key l') x lent lent'

-- AES-128: a key of 16 bytes, ten rounds.
abbrev pub RoundTrip : Type 0
RoundTrip = RoundTripFor 4
