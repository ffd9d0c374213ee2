-- Laws, not definitions: the statements of specs/Theorems.antt. Over a memory of the right length the call is accepted and hands back what the search finds in the list,
-- which rises (crate sensitivity); so bit i is in the list exactly if a call from i on gives i.
-- Assumes nothing.
use mathlib.Core.List.{List, [], ◌∷◌, map}
use mathlib.Core.Path.{◌≡◌, refl, sym, ap, ap₂, ◌∙◌, subst}
use Prim.Native.Nat.{ℕ, zero, suc, ◌+◌, ◌<◌}
use native.Mathlib.Nat.{le_refl}
use native.Mathlib.Omega.{arith}
use lib.ListN.{length, drop}
use lib.Seq.{drop-cons, drop-length}
use Rattle.answers.specs.Answers.{reply_of}
use Rattle.answers.proofs.laws.Tests.{same_value}
use Rattle.bits.specs.Flips.{flipped}
use Rattle.bits.specs.Lists.{Listed}
use Rattle.round.specs.Key.{rounds_of}
use Rattle.layout.specs.Ciphers.{reads_of}
use Rattle.layout.proofs.laws.Lookup.{own_sizes}
use Rattle.calls.specs.Calls.{Held, judge_whole, serve}
use Rattle.calls.proofs.laws.Kept.{reads_kept}
use Rattle.whitebox.specs.Bundles.{made_set}
use Rattle.sensitivity.specs.Reads.{bits_read}
use Rattle.sensitivity.specs.Theorems.{Lendable}
use Rattle.sensitivity.proofs.laws.Proved.{sensitivity}
use Rattle.evaluate.specs.Chains.{call_of}
use Rattle.evaluate.proofs.laws.Chains.{chain_serves}
use Rattle.evaluate.proofs.laws.Whole.{whole_walk}
use Rattle.passes.proofs.laws.Judged.{bad_set, bad_block, good}
use Rattle.next_bit.specs.Promises.{Finds}
use Rattle.next_bit.specs.NextBit.{next_in, next_by, bit_answer, next_bit_of}
use Rattle.next_bit.specs.Search.{Tells}
use Rattle.next_bit.specs.Theorems.{TestsInOrder, AnswersByLengths, GoesByCipher, Asked, ListsHad, OthersAloneMade, AnswersRestOn, BitsHad}
use Rattle.next_bit.proofs.laws.Calls.{next_answers, next_accepted, finds}
use Rattle.next_bit.proofs.laws.Listed.{searches_exact, search_start, searches_enumerate}
use Rattle.next_bit.proofs.laws.Runs.{not_both}
use Rattle.next_bit.specs.NextBit.{NextBit}
use Rattle.std.specs.Prelude.{Ok, Some}

-- ---- what is turned down
tests : TestsInOrder
tests nr set block =
    record {
      set_first = λ n. ap reply_of (sym (bad_set own_sizes set block n));
      block_second = λ e n. ap reply_of (sym (bad_block own_sizes set block e n));
      none = λ e f. sym (good own_sizes set block e f);
    }

by_lengths : AnswersByLengths
by_lengths c nr set x from r f = ap bit_answer f.result ∙ next_answers c nr set x from

by_cipher : GoesByCipher
unfolding next_bit_of
by_cipher c nr set x from = sym (reads_kept (λ (reads : ℕ → ℕ). next_by (judge_whole nr (length set) (length x)) (next_in (bits_read reads nr set x) from)) c)

-- ---- over a memory of the right length
module _ (c nr : ℕ) (set x : List ℕ) (lent : Lendable nr set x) where
  abbrev l : List ℕ
  l = bits_read (reads_of c) nr set x

  found : (from : ℕ) → next_bit_of c nr set x from ≡ Ok (next_in l from)
  found from = next_accepted c nr set x from (sym (good own_sizes (length set) (length x) lent.long lent.block.long))

  told : (from : ℕ) (r : NextBit) → Finds c nr set x from r → Tells l from r
  told from r f = subst (Tells l from) (sym (f.result ∙ found from)) (searches_exact l (sensitivity.in_order (reads_of c) nr set x lent).rising from)

  -- Bit i is in the list exactly if a call from i on gives i.
  given_listed : (i : ℕ) (r : NextBit) → Finds c nr set x i r → r ≡ Ok (Some i) → Listed l i
  given_listed i r f e = ((told i r f).bit_only i e).listed

  listed_given : (i : ℕ) (r : NextBit) → Finds c nr set x i r → Listed l i → r ≡ Ok (Some i)
  listed_given i r f p = (told i r f).bit_if i (record { listed = p; reached = le_refl i; least = λ u q h. h })

  -- ---- one call after the other
  -- From where the search for position p starts, the calls give what stands there and behind.
  asked : (n p : ℕ) → n + p ≡ length l → Asked c nr set x (search_start l p) (drop p l)
  unfolding search_start
  asked zero p e =
      let at_end : p ≡ length l = omega arith in
      subst (Asked c nr set x (search_start l p)) (sym (ap (λ (q : ℕ). drop q l) at_end ∙ drop-length l))
      (finds c nr set x (search_start l p)
      (sym (found (search_start l p) ∙ ap (λ (q : ℕ). Ok (next_in l (search_start l q))) at_end
      ∙ ap Ok ((searches_enumerate l (sensitivity.in_order (reads_of c) nr set x lent).rising).end))))
  asked (suc n) p e =
      let inside : p < length l = omega arith in
      subst (Asked c nr set x (search_start l p)) (sym (drop-cons l p 0 inside)) (
        finds c nr set x (search_start l p)
            (sym (found (search_start l p) ∙ ap Ok ((searches_enumerate l (sensitivity.in_order (reads_of c) nr set x lent).rising).each p inside))),
        asked n (suc p) (omega arith),
      )

  -- Calls that meet their contract give one list.
  one_list : (from : ℕ) (vs ws : List ℕ) → Asked c nr set x from vs → Asked c nr set x from ws → vs ≡ ws
  one_list from [] [] a b = refl
  one_list from [] (w ∷ ws) a b = not_both (same_value (sym b.0.result) (sym a.result))
  one_list from (v ∷ vs) [] a b = not_both (same_value (sym a.0.result) (sym b.result))
  one_list from (v ∷ vs) (w ∷ ws) a b =
      let e : v ≡ w = same_bit (same_value (sym a.0.result) (sym b.0.result)) in
      ap₂ (λ (y : ℕ) (ys : List ℕ). y ∷ ys) e (one_list (suc v) vs ws a.1 (subst (λ (y : ℕ). Asked c nr set x (suc y) ws) (sym e) b.1))
    where
      same_bit : Some v ≡ Some w → v ≡ w
      same_bit e = cc

lists : ListsHad
lists c nr set x lent =
    let l = bits_read (reads_of c) nr set x in
    let had : Asked c nr set x 0 l = unfold search_start in asked c nr set x lent (length l) 0 (omega arith) in
    let only : (vs : List ℕ) → Asked c nr set x 0 vs → vs ≡ l = λ vs a. one_list c nr set x lent 0 vs l a had in
    record { had = had; only = only; many = λ vs a. ap length (only vs a) ∙ (sensitivity.in_order (reads_of c) nr set x lent).many }

-- ---- a bit that is not given
others : OthersAloneMade
others c nr set x lent i r f ungiven o opens ms ms' chain chain' alike over over' =
    (chain_serves nr o.walk ms' chain').answers
    ∙ ap (λ (w : Held). serve nr w (map call_of ms')) opens.walk
    ∙ sensitivity.calls c nr set x lent i (λ p. ungiven (listed_given c nr set x lent i r f p)) (map call_of ms) (map call_of ms') alike over over'
    ∙ ap (λ (w : Held). serve nr w (map call_of ms)) (sym opens.walk)
    ∙ sym (chain_serves nr o.walk ms chain).answers

-- ---- a made set
made : (nk : ℕ) → AnswersRestOn nk
made nk c key l x given presented i r f lent lent' left left' room room' w w' =
    let nr : ℕ = rounds_of nk in
    let set : List ℕ = made_set c nk key l in
    let S = sensitivity.made nk c key l x given presented in
    let D = S.exactly i lent lent' room room' in
    let left_is = whole_walk nr c set x lent left w in
    let left'-is = whole_walk nr c (flipped set i) x lent' left' w' in
    record {
      differ_exactly = (
        λ other. listed_given c nr set x S.right i r f (D.differ_exactly.0 (λ same. other (left'-is ∙ same ∙ sym left_is))),
        λ e same. D.differ_exactly.1 (given_listed c nr set x S.right i r f e) (sym left'-is ∙ same ∙ left_is),
      );
      keeps = λ n. left'-is ∙ D.keeps (λ p. n (listed_given c nr set x S.right i r f p)) ∙ sym left_is;
    }

pub bits_had : BitsHad
bits_had =
    record {
      tests = tests;
      answers = by_lengths;
      ciphers = by_cipher;
      smallest = told;
      lists = lists;
      others = others;
      made = made;
      ten_rounds = λ c set x lent vs a. (lists c 10 set x lent).many vs a;
    }
