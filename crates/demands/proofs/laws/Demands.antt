-- Laws, not definitions: demands 2 and 3 and the round trip of the calls in code, from those of the definitions (crate whitebox), and `whole_walk` and
-- `chain_serves` of crate evaluate: calls in code answer what the definitions do.
-- Assumes nothing.
use mathlib.Core.List.{List, map}
use mathlib.Core.Path.{◌≡◌, sym, ap, ◌∙◌, subst}
use Prim.Native.Nat.{ℕ}
use Rattle.answers.specs.Answers.{reply_of}
use Rattle.answers.proofs.laws.Tests.{reply_was}
use Rattle.round.specs.Key.{rounds_of}
use Rattle.external.specs.Coding.{decode_input}
use Rattle.calls.specs.Calls.{Held, started, to_stop, handed, reply, serve, last_walk, walked_over}
use Rattle.calls.specs.PlainCount.{args_of, plain_count, seen}
use Rattle.whitebox.specs.Bundles.{made_set}
use Rattle.whitebox.specs.Demand3.{Presented, Places}
use Rattle.whitebox.proofs.laws.Demands.{demand3_for}
use Rattle.whitebox.proofs.laws.RoundTrip.{round_trip_for}
use Rattle.evaluate.specs.Held.{held}
use Rattle.evaluate.specs.Chains.{CallMade, call_of, served_in, last_in, Chain}
use Rattle.evaluate.specs.Whole.{WalkMade}
use Rattle.evaluate.specs.declared.walk.Opening.{Opening}
use Rattle.evaluate.proofs.laws.Whole.{whole_walk}
use Rattle.evaluate.proofs.laws.Chains.{same_walk, chain_serves}
use Rattle.demands.specs.Demands.{TripsMade, Begun, ChainsAnswered, TwoChains, CallsFor, Calls128}

-- Two walks, the second over the block that the first left: where the definitions give the block x again, so do the calls.
trip : (nr c c' : ℕ) (set set' x lent lent' first last : List ℕ) → WalkMade c nr set x lent first → WalkMade c' nr set' first lent' last
    → walked_over c' nr set' (walked_over c nr set x lent) lent' ≡ x → last ≡ x
trip nr c c' set set' x lent lent' first last w w' back =
    whole_walk nr c' set' first lent' last w'
    ∙ ap (λ (b : List ℕ). walked_over c' nr set' b lent') (whole_walk nr c set x lent first w)
    ∙ back

trips : (nk : ℕ) → TripsMade nk
trips nk i i' key l l' x away away' given given' crossed presented =
    let nr = rounds_of nk in
    let set = made_set 0 nk key l in
    let set' = made_set i' nk key l' in
    record {
      forward_first = λ lent lent' first last room room' w w'.
          trip nr 0 i set set' x lent lent' first last w w'
          (round_trip_for nk i i' key l l' x lent lent' away away' given given' crossed presented room room').forward_first;
      inverse_first = λ lent lent' first last room room' w w'.
          trip nr i 0 set' set x lent lent' first last w w'
          (round_trip_for nk i i' key l l' x lent lent' away away' given given' crossed presented room room').inverse_first;
    }

-- ---- from the walk of an accepted start
module _ (c : ℕ) (x : List ℕ) (o : Opening) (begun : Begun c x o) where
  pub presented : Presented x
  presented = record { bytes = begun.bytes; started = sym begun.opens.answer ∙ begun.accepted }

  module _ (nr : ℕ) (ms : List CallMade) (chain : Chain nr o.walk ms) where
    served : served_in nr o.walk ms ≡ serve nr (started c x) (map call_of ms)
    served = (chain_serves nr o.walk ms chain).answers ∙ ap (λ (w : Held). serve nr w (map call_of ms)) begun.opens.walk

    last : held (last_in o.walk ms) ≡ last_walk nr (started c x) (map call_of ms)
    last = (chain_serves nr o.walk ms chain).last ∙ ap (λ (w : Held). last_walk nr w (map call_of ms)) begun.opens.walk

chains : (nk : ℕ) → ChainsAnswered nk
chains nk c key l x given o begun ms chain lent =
    let nr = rounds_of nk in
    let due = (demand3_for nk).calls c key l x given (presented c x o begun) (map call_of ms) lent in
    let n = plain_count nr 0 (map args_of (map call_of ms)) in
    let set = made_set c nk key l in
    record {
      calls = served c x o begun nr ms chain ∙ due.calls;
      within = due.within;
      places = subst (λ (w : Held). Places c nk key l (decode_input nr l x) n w.state) (sym (last c x o begun nr ms chain)) due.places;
      last = last c x o begun nr ms chain ∙ due.last;
      straight = λ r h.
          record {
            answer =
                reply_was r.answer
                (ap reply_of h.answer ∙ ap (λ (w : Held). reply nr (to_stop set n) w) begun.opens.walk ∙ due.straight_reply);
            walk =
                same_walk r.walk (last_in o.walk ms)
                (h.walk ∙ ap (λ (w : Held). handed nr (to_stop set n) w) begun.opens.walk ∙ due.straight ∙ sym (last c x o begun nr ms chain));
          };
    }

two : (nk : ℕ) → TwoChains nk
two nk c key l l' x given given' outer o o' begun begun' ms ms' chain chain' alike lent lent' =
    ap (map seen) (served c x o begun (rounds_of nk) ms chain)
    ∙ (demand3_for nk).two c key l l' x given given' outer (presented c x o begun) (map call_of ms) (map call_of ms') alike lent lent'
    ∙ sym (ap (map seen) (served c x o' begun' (rounds_of nk) ms' chain'))

pub calls_for : (nk : ℕ) → CallsFor nk
calls_for nk = record { whole_walk = whole_walk (rounds_of nk); round_trip = trips nk; chains = chains nk; two = two nk }

pub calls : Calls128
calls = calls_for 4
