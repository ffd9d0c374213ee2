-- Laws, not definitions: there and back by the cipher c, call by call. Each law is one way out of a function, its premises what the calls ensure. Where a call
-- refuses, `?` hands its answer on (h).
-- Assumes nothing.
use mathlib.Core.Bool.{not}
use mathlib.Core.List.{List}
use mathlib.Core.Path.{◌≡◌, sym, ap, ap₂, ◌∙◌}
use Prim.Native.Nat.{ℕ}
use lib.Dec.{eqb}
use lib.ListN.{length}
use Rattle.answers.specs.Answers.{refused_if, wants_length, and_then, if_accepted}
use Rattle.answers.specs.declared.Refusal.{Refusal}
use Rattle.answers.specs.declared.Refusal.TheVariants.{BlockLength, Unfinished}
use Rattle.answers.proofs.laws.Tests.{handed_back, Both, both, length_was, lengths_were, left_old, left_new, twice, stops, keeps, decides, by_later}
use Rattle.bits.specs.Bytes.{Bytes}
use Rattle.aes.specs.Answers.{answer_of, enciphered, deciphered}
use Rattle.judgement.specs.Judge.{judge}
use Rattle.external.specs.Calls as external
use Rattle.external.specs.Coding.{encode_input, encode_output, decode_output}
use Rattle.layout.specs.Ciphers.{other}
use Rattle.layout.specs.Stages.{lookups, ten_lookups}
use Rattle.layout.proofs.laws.Ciphers.{by_forward, by_inverse}
use Rattle.layout.proofs.laws.Ten.{ten}
use Rattle.calls.specs.Calls.{Held, judge_start, started, to_stop, fetch, judge_fetch, answer, handed, block_left}
use Rattle.calls.specs.Calls.{walked_over}
use Rattle.whitebox.specs.Bundles.{cipher_block, made_set}
use Rattle.whitebox.specs.Demand2.{WalkIsCipher}
use Rattle.whitebox.proofs.laws.Demands.{demand2}
use Rattle.tables.specs.Calls.{set_answer, set_left}
use Rattle.tables.proofs.laws.Calls.{set_lent}
use Rattle.evaluate.specs.Promises.{Opens, Moves, Fetches}
use Rattle.evaluate.specs.declared.walk.Move.{Move}
use Rattle.evaluate.specs.declared.walk.Opening.{Opening}
use Rattle.evaluate.proofs.laws.Whole.{whole_walk}
use Rattle.chains.specs.Whole.{present_answer, over_answer, off_answer, coded_answer, whole_answer, Presents, Walks, TakesOff, ThereAndBack}
use Rattle.answers.specs.Answer.{Answer, Accepted, Refused}
use Rattle.std.specs.Prelude.{IsErrAnd}

-- ---- the set and the block under the input coding
module _ (c : ℕ) (key l block set x : List ℕ) {a : Answer} {set' : List ℕ} (e : a ≡ set_answer (length key) l (length set))
    (m : set' ≡ set_left c 4 key l set) where
  pub not_made : {P : Type 0} {b : Answer} {r : Refusal} → P × IsErrAnd b (λ y. y ≡ r) → a ≡ Refused r → Presents c key l block set x b set' x
  unfolding present_answer
  not_made h f = record { answer = handed_back h f ∙ stops e f _; made = m; coded = keeps e f _ (encode_input 10 l block) x }

  pub presented : {b : Answer} {x' : List ℕ} → a ≡ Accepted → b ≡ external.answer 10 l (length block) (length x)
      → x' ≡ external.leaves 10 l (encode_input 10 l) block x → Presents c key l block set x b set' x'
  unfolding present_answer
  presented f g h = record { answer = g ∙ decides e f _; made = m; coded = h ∙ by_later e f _ (encode_input 10 l block) x }

-- ---- the walk
module _ (c : ℕ) (set x lent : List ℕ) {o : Opening} (s : Opens c x o) where
  pub not_started : {P : Type 0} {b : Answer} {r : Refusal} → P × IsErrAnd b (λ y. y ≡ r) → o.answer ≡ Refused r → Walks c set x lent b lent
  unfolding over_answer
  not_started h f = record { answer = handed_back h f ∙ stops s.answer f _; block = keeps s.answer f _ (walked_over c 10 set x lent) lent }

  module _ (f : o.answer ≡ Accepted) {m : Move} (h : Moves 10 (to_stop set ten_lookups) o.walk m) where
    -- The move is the definition's, from the walk that the start gave.
    all_moves : Moves 10 (to_stop set (lookups 10)) o.walk m
    all_moves = rw ten.all_lookups h

    moves : m.answer ≡ answer 10 (to_stop set (lookups 10)) (started c x)
    moves = all_moves.answer ∙ ap (answer 10 (to_stop set (lookups 10))) s.walk

    pub not_moved : {P : Type 0} {b : Answer} {r : Refusal} → P × IsErrAnd b (λ y. y ≡ r) → m.answer ≡ Refused r → Walks c set x lent b lent
    unfolding over_answer
    not_moved h g =
        record {
          answer = handed_back h g ∙ stops moves g _ ∙ decides s.answer f _;
          block = keeps moves g _ (walked_over c 10 set x lent) lent ∙ by_later s.answer f _ (walked_over c 10 set x lent) lent;
        }

    pub walked : m.answer ≡ Accepted → {b : Answer} {left : List ℕ} → Fetches 10 lent m.walk b left → Walks c set x lent b left
    unfolding over_answer answer block_left
    walked g {b} {left} k =
        let w : Held = handed 10 (to_stop set (lookups 10)) (started c x) in
        let same = all_moves.walk ∙ ap (handed 10 (to_stop set (lookups 10))) s.walk in
        let B : Answer = answer 10 (fetch lent) w in
        let over : List ℕ = walked_over c 10 set x lent in
        record {
          answer = k.answer ∙ ap (answer 10 (fetch lent)) same ∙ decides moves g B ∙ decides s.answer f _;
          block =
              whole_walk 10 c set x lent left (record { opening = o; move = m; answer = b; opens = s; moves = all_moves; fetches = k })
              ∙ twice B w.state.standing lent
              ∙ by_later moves g B over lent
              ∙ by_later s.answer f _ over lent;
        }

-- ---- the output coding and the cipher taken off, where 16 bytes are lent for the block between
module _ (c : ℕ) (key l coded again : List ℕ) {room : ℕ} (long : room ≡ 16) {a : Answer} (e : a ≡ external.answer 10 l (length coded) room) where
  is_answer : a ≡ external.answer 10 l (length coded) 16
  is_answer = e ∙ ap (external.answer 10 l (length coded)) long

  -- FIPS 197's block by the cipher that undoes the cipher c.
  abbrev undone : List ℕ → List ℕ
  undone = cipher_block (other c) 4 key

  pub not_uncoded : {P : Type 0} {b : Answer} {r : Refusal} → P × IsErrAnd b (λ y. y ≡ r) → a ≡ Refused r → TakesOff c key l coded again b again
  unfolding off_answer
  not_uncoded h f = record { answer = handed_back h f ∙ stops is_answer f _; block = keeps is_answer f _ (undone (decode_output 10 l coded)) again }

  module _ (z : List ℕ) {t : List ℕ} {b : Answer} {left : List ℕ} (f : a ≡ Accepted)
      (h : t ≡ if_accepted (external.answer 10 l (length coded) room) (decode_output 10 l coded) z) (g : b ≡ answer_of key t again) where
    taken_off : left ≡ if_accepted (answer_of key t again) (undone t) again → TakesOff c key l coded again b left
    unfolding off_answer
    taken_off d =
        let y : List ℕ = decode_output 10 l coded in
        let is = h ∙ sym (left_new _ y z (sym e ∙ f)) in
        record {
          answer = g ∙ ap (λ (t : List ℕ). answer_of key t again) is ∙ decides is_answer f _;
          block =
              d
              ∙ ap (λ (t : List ℕ). if_accepted (answer_of key t again) (undone t) again) is
              ∙ by_later is_answer f _ (undone y) again;
        }

    -- By the code's test of the cipher: the forward one by deciphering, the inverse one by enciphering.
    pub by_deciphering : c ≡ 0 → left ≡ deciphered key t again → TakesOff c key l coded again b left
    unfolding deciphered
    by_deciphering q d = taken_off (by_forward (λ (k : ℕ). if_accepted (answer_of key t again) (cipher_block k 4 key t) again) c 1 0 q d)

    pub by_enciphering : (c ≡ 0 → ⊥) → left ≡ enciphered key t again → TakesOff c key l coded again b left
    unfolding enciphered
    by_enciphering q d = taken_off (by_inverse (λ (k : ℕ). if_accepted (answer_of key t again) (cipher_block k 4 key t) again) c 1 0 q d)

-- ---- what an accepted run has been lent
pub set_given : (key l set : List ℕ) → set_answer (length key) l (length set) ≡ Accepted → (length key ≡ 16) × (judge 10 l ≡ Accepted)
set_given key l set e = let lent = set_lent 4 (length key) l (length set) e in (lent.long, lent.judged)

block_given : (l block : List ℕ) (room : ℕ) → external.answer 10 l (length block) room ≡ Accepted → length block ≡ 16
unfolding external.answer
block_given l block room e =
    let b = both (judge 10 l) (and_then (wants_length 16 (length block) BlockLength) (wants_length 16 room BlockLength)) e in
    (lengths_were 16 (length block) room BlockLength b.second).0

walk_given : (c : ℕ) (set x lent : List ℕ) → over_answer c set x lent ≡ Accepted → length lent ≡ 16
unfolding over_answer answer judge_fetch
walk_given c set x lent e =
    let w : Held = handed 10 (to_stop set (lookups 10)) (started c x) in
    let move : Answer = answer 10 (to_stop set (lookups 10)) (started c x) in
    let fetched : Answer = answer 10 (fetch lent) w in
    let behind = both move fetched (both (judge_start (length x)) (and_then move fetched) e).second in
    let ended : Answer = refused_if (not (eqb w.state.count (lookups 10))) Unfinished in
    length_was 16 (length lent) BlockLength (both (wants_length 16 (length lent) BlockLength) ended behind.second).first

-- ---- all of it
module _ (c : ℕ) (key l block set coded again x : List ℕ) (long : length x ≡ 16) {a : Answer} {set' x' : List ℕ} (P : Presents c key l block set x a set' x') where
  first : a ≡ present_answer key l block set 16
  first = P.answer ∙ ap (present_answer key l block set) long

  pub back_none : {P : Type 0} {b : Answer} {r : Refusal} → P × IsErrAnd b (λ y. y ≡ r) → a ≡ Refused r → ThereAndBack c key l block set coded again b set' coded again
  unfolding coded_answer whole_answer
  back_none h f =
      let out : List ℕ = encode_output 10 l (cipher_block c 4 key block) in
      let none : a ≡ coded_answer c key l block set coded = stops first f _ in
      record { answer = handed_back h f ∙ stops none f _; made = P.made; walked = keeps first f _ out coded; back = keeps none f _ block again }

  module _ (f : a ≡ Accepted) {b : Answer} {coded' : List ℕ} (W : Walks c set' x' coded b coded') where
    present_accepts : present_answer key l block set (length x) ≡ Accepted
    present_accepts = sym P.answer ∙ f

    both_accept : Both (set_answer (length key) l (length set)) (external.answer 10 l (length block) (length x))
    unfolding present_answer
    both_accept = both (set_answer (length key) l (length set)) (external.answer 10 l (length block) (length x)) present_accepts

    set_accepts : set_answer (length key) l (length set) ≡ Accepted
    set_accepts = both_accept.first

    -- What is walked over is the made set, from the block under the input coding.
    set_is : set' ≡ made_set c 4 key l
    set_is = P.made ∙ sym (left_new _ (made_set c 4 key l) set set_accepts)

    x_is : x' ≡ encode_input 10 l block
    x_is = P.coded ∙ sym (left_new _ (encode_input 10 l block) x present_accepts)

    walks : b ≡ over_answer c (made_set c 4 key l) (encode_input 10 l block) coded
    walks = W.answer ∙ ap₂ (λ (s y : List ℕ). over_answer c s y coded) set_is x_is

    second : b ≡ coded_answer c key l block set coded
    unfolding coded_answer
    second = walks ∙ decides first f _

    pub back_not : {P : Type 0} {d : Answer} {r : Refusal} → P × IsErrAnd d (λ y. y ≡ r) → b ≡ Refused r → ThereAndBack c key l block set coded again d set' coded' again
    unfolding whole_answer
    back_not {d} {r} h g =
        let out : List ℕ = encode_output 10 l (cipher_block c 4 key block) in
        record {
          answer = handed_back h g ∙ stops second g _;
          made = P.made;
          walked = W.block ∙ sym (left_old _ r _ coded (sym W.answer ∙ g)) ∙ left_old _ r out coded (sym second ∙ g);
          back = keeps second g _ block again;
        }

    -- The block fetched is FIPS 197's under the output coding, by demand 2: the key, the bundle and the blocks are as it asks, since no call refused.
    module _ (g : b ≡ Accepted) (key_bytes : Bytes key) (bundle_bytes : Bytes l) (block-bytes : Bytes block) where
      block_long : length block ≡ 16
      block_long = block_given l block (length x) both_accept.second

      room : length coded ≡ 16
      room = walk_given c (made_set c 4 key l) (encode_input 10 l block) coded (sym walks ∙ g)

      walk_is : WalkIsCipher c 4 key l (made_set c 4 key l) block coded
      walk_is =
          let given = set_given key l set set_accepts in
          demand2 c key l block coded given.0 key_bytes bundle_bytes given.1 (record { long = block_long; bytes = block-bytes }) room

      coded_is : coded' ≡ encode_output 10 l (cipher_block c 4 key block)
      coded_is =
          W.block
          ∙ sym (left_new _ (walked_over c 10 set' x' coded) coded (sym W.answer ∙ g))
          ∙ ap₂ (λ (s y : List ℕ). walked_over c 10 s y coded) set_is x_is
          ∙ walk_is.coded

      block_is : cipher_block (other c) 4 key (decode_output 10 l (encode_output 10 l (cipher_block c 4 key block))) ≡ block
      block_is = ap (λ (y : List ℕ). cipher_block (other c) 4 key (decode_output 10 l y)) (sym walk_is.coded) ∙ walk_is.undone

      pub back_done : {d : Answer} {again' : List ℕ} → TakesOff c key l coded' again d again' → ThereAndBack c key l block set coded again d set' coded' again'
      unfolding whole_answer
      back_done T =
          let out : List ℕ = encode_output 10 l (cipher_block c 4 key block) in
          record {
            answer = T.answer ∙ ap (λ (y : List ℕ). off_answer key l y again) coded_is ∙ decides second g _;
            made = P.made;
            walked = coded_is ∙ left_new _ out coded (sym second ∙ g);
            back =
                T.block
                ∙ ap (λ (y : List ℕ). if_accepted (off_answer key l y again) (cipher_block (other c) 4 key (decode_output 10 l y)) again) coded_is
                ∙ ap (λ (y : List ℕ). if_accepted (off_answer key l out again) y again) block_is
                ∙ by_later second g _ block again;
          }
