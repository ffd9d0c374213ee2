-- Laws, not definitions: the round trip of specs/RoundTrip.antt. The first walk's answer is the block that FIPS 197 makes of the uncoded presented block, under
-- the first output coding, which is the second input coding: so the second walk makes the uncoded presented block of it again, under the second output
-- coding, which is the first input coding.
-- Assumes nothing.
use mathlib.Core.List.{List}
use mathlib.Core.Logic.{◌≢◌}
use mathlib.Core.Path.{◌≡◌, refl, sym, ap, ap₂, ◌∙◌}
use Prim.Native.Nat.{ℕ, zero, suc}
use lib.ListN.{length}
use Rattle.bits.specs.Bytes.{Block}
use Rattle.round.specs.Key.{rounds_of}
use Rattle.external.specs.Coding.{encode_input, decode_input, encode_output}
use Rattle.external.proofs.laws.Coding.{undoing}
use Rattle.layout.specs.Ciphers.{other, kept}
use Rattle.layout.specs.Stages.{lookups}
use Rattle.calls.specs.Calls.{Held, to_stop, fetch, handed, block_left, walked_over}
use Rattle.whitebox.specs.Bundles.{cipher_block, made_set}
use Rattle.whitebox.specs.Demand3.{Given, Presented}
use Rattle.external.specs.Coding.{Crossed}
use Rattle.whitebox.specs.RoundTrip.{RoundTripFor, RoundTrip}
use Rattle.whitebox.proofs.laws.Ciphers.{cipher_block_lem, other_undoes}
use Rattle.whitebox.proofs.laws.Demands.{block_x, block_b, fetched, demand2_for}
use Rattle.whitebox.proofs.laws.Named.{same_cipher}

-- A set of the cipher c with the bundle l, and one of the other cipher with the bundle l'.
module _ (c nk : ℕ) (key l l' : List ℕ) (g : Given nk key l) (g' : Given nk key l') (crossed : Crossed (rounds_of nk) l l') (x : List ℕ) (p : Presented x) where
  abbrev nr : ℕ
  nr = rounds_of nk

  -- The uncoded presented block, and what the cipher makes of it.
  abbrev b : List ℕ
  b = decode_input nr l x

  abbrev y : List ℕ
  y = cipher_block c nk key b

  block : Block b
  block = block_b c nk key l g x p

  made : Block y
  made = cipher_block_lem c nk key b g.key_bytes block

  -- The first answer is y under the second input coding.
  first : (lent : List ℕ) → length lent ≡ 16 → walked_over c nr (made_set c nk key l) x lent ≡ encode_input nr l' y
  first lent room = fetched c nk key l g x p lent room ∙ crossed.output y made

  -- From there the second walk makes b again, under the first input coding: the presented block.
  second : (lent : List ℕ) → length lent ≡ 16 → walked_over (other c) nr (made_set (other c) nk key l') (encode_input nr l' y) lent ≡ x
  second lent room =
      (demand2_for nk (other c) key l' y lent g'.long g'.key_bytes g'.bundle_bytes g'.judged made room).coded
      ∙ ap (encode_output nr l') (other_undoes c nk key b g.key_bytes block)
      ∙ sym (crossed.input b block)
      ∙ (undoing nr l g.bundle_bytes g.judged x (block_x c nk key l g x p)).input_back

  pub there_and_back : (lent lent' : List ℕ) → length lent ≡ 16 → length lent' ≡ 16
      → walked_over (other c) nr (made_set (other c) nk key l') (walked_over c nr (made_set c nk key l) x lent) lent' ≡ x
  there_and_back lent lent' room room' =
      ap (λ (z : List ℕ). walked_over (other c) nr (made_set (other c) nk key l') z lent') (first lent room) ∙ second lent' room'

-- The other way round.
crossed_back : {nr : ℕ} {l l' : List ℕ} → Crossed nr l l' → Crossed nr l' l
crossed_back X = record { input = λ b h. sym (X.output b h); output = λ b h. sym (X.input b h) }

-- Any number but 0 names the inverse cipher as 1 does, in a making and in a walk.
kept_one : (i : ℕ) → i ≢ 0 → kept i ≡ 1
kept_one zero away = absurd (away refl)
kept_one (suc i) away = refl

as_one : (nk i i' : ℕ) (key l x lent : List ℕ) → i ≢ 0 → i' ≢ 0
    → walked_over i (rounds_of nk) (made_set i' nk key l) x lent ≡ walked_over 1 (rounds_of nk) (made_set 1 nk key l) x lent
as_one nk i i' key l x lent away away' =
    let nr = rounds_of nk in
    ap₂ (λ (set : List ℕ) (w : Held). block_left nr (fetch lent) (handed nr (to_stop set (lookups nr)) w))
    ((same_cipher nk i' 1 (kept_one i' away')).set key l) ((same_cipher nk i 1 (kept_one i away)).start x)

pub round_trip_for : (nk : ℕ) → RoundTripFor nk
round_trip_for nk i i' key l l' x lent lent' away away' g g' X p room room' =
    let over : List ℕ → List ℕ → List ℕ = walked_over 0 (rounds_of nk) (made_set 0 nk key l) in
    record {
      forward_first = as_one nk i i' key l' (over x lent) lent' away away' ∙ there_and_back 0 nk key l l' g g' X x p lent lent' room room';
      inverse_first =
          ap (λ (y : List ℕ). over y lent') (as_one nk i i' key l' x lent away away')
          ∙ there_and_back 1 nk key l' l g' g (crossed_back X) x p lent lent' room room';
    }

pub round_trip : RoundTrip
round_trip = round_trip_for 4
