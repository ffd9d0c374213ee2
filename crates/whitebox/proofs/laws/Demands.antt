-- Laws, not definitions: demands 2 and 3, as stated in specs/Demand2.antt and specs/Demand3.antt.
-- Assumes nothing.
use mathlib.Core.List.{List, [], map, map-map}
use mathlib.Core.Path.{◌≡◌, refl, sym, ap, ◌∙◌, subst}
use Prim.Native.Nat.{ℕ, suc, ◌+◌, ◌-◌, ◌≤◌, ◌<◌}
use native.Mathlib.Nat.{le_refl}
use native.Mathlib.Omega.{arith}
use borrow.Author.Tests.{eq-eqb}
use lib.ListN.{length}
use Rattle.answers.proofs.laws.Tests.{left_new}
use Rattle.bits.specs.Bytes.{Block}
use Rattle.bits.specs.Encodings.{encode, decode}
use Rattle.bits.specs.Nibbles.{nibble}
use Rattle.bits.proofs.laws.Nibbles.{packed_ext}
use Rattle.inversion.specs.Elimination.{inverse_of}
use Rattle.round.specs.Key.{KeyExpansion, rounds_of}
use Rattle.round.proofs.laws.Key.{round_key_bytes}
use Rattle.bundle.specs.Format.{encodings, encoding_of, input_matrix, output_matrix}
use Rattle.external.specs.Coding.{encode_nibbles, decode_nibbles, multiply, encode_by, decode_by, encode_input, decode_input, output_first, encode_output, decode_output}
use Rattle.external.specs.Undoing.{Undone}
use Rattle.external.proofs.laws.Coding.{undoing, multiply_block, multiply_back, accepted_input, accepted_encodings, input_room, decode_nibbles_bytes}
use Rattle.network.specs.Due.{Values, Due, values_of, left_by, standing_due, area_due, closed, encoded, decoded}
use Rattle.network.specs.Lookups.{State, state_at, zero_area, walked}
use Rattle.network.specs.Numbers.{start_numbers, numbers_after}
use Rattle.network.specs.Rule.{label_of, under, labels}
use Rattle.network.specs.Sizes.{lookups_in}
use Rattle.network.specs.Tables.{Layer}
use Rattle.network.specs.Theorems.{Reads, GoodWidths}
use Rattle.network.proofs.laws.Network.{from_any_layer}
use Rattle.network.proofs.laws.Places.{place_by_place}
use Rattle.network.proofs.laws.Rule.{good_widths, rule_labels}
use Rattle.network.proofs.laws.Values.{follows_standing, follows_area}
use Rattle.layout.specs.Stages as stages
use Rattle.layout.specs.Ciphers.{kept, other, reads_of}
use Rattle.layout.specs.Stages.{widths, lookups}
use Rattle.layout.proofs.laws.Ciphers.{kept_names}
use Rattle.calls.specs.Calls.{marked, Held, holding, zero_held, started, Call, to_stop, fetch, step, reply, handed, block_left, serve, last_walk, walked_over}
use Rattle.calls.specs.PlainCount.{args_of, plain, plain_count, Lent, due_served, seen}
use Rattle.calls.proofs.laws.Calls.{count_le, mark_kept}
use Rattle.calls.proofs.laws.Judged.{presented_right, presented_was}
use Rattle.calls.proofs.laws.Served.{Known, block_is, serve_is, last_is, straight_reply, straight, alike_seen}
use Rattle.whitebox.specs.Bundles.{codings_of, parts_of, cipher_block, made_set, made_table, due_at, due_held}
use Rattle.whitebox.specs.Codings.{Codings, Sound}
use Rattle.whitebox.specs.Demand2.{Demand2For, Demand2}
use Rattle.whitebox.specs.Joined.{InSet}
use Rattle.whitebox.specs.Demand3.{Given, Presented, Answered, Places, TwoSets, Demand3For, Demand3}
use Rattle.whitebox.specs.Parts.{Parts, Fine}
use Rattle.whitebox.specs.Values.{values_at, values, ended, due_standing, due_area, state_due}
use Rattle.whitebox.specs.Tables.{layers}
use Rattle.whitebox.proofs.laws.Bundles.{codings_sound, encodings_agree, encoding_is}
use Rattle.whitebox.proofs.laws.Joined.{made_in_set}
use Rattle.whitebox.proofs.laws.Set.{widths_are, due_count, due_step, due_end}
use Rattle.whitebox.proofs.laws.Ciphers.{parts_fine, parts_read, result_is, cipher_block_lem, other_undoes}
use Rattle.whitebox.proofs.laws.Values.{layers_good, follows, closed_is_due}

-- ---- a presented block that the start accepts has 16 bytes
long_presented : (x : List ℕ) → Block x → Presented x
long_presented x h = record { bytes = h.bytes; started = sym (presented_right (length x) h.long) }

some : (nk : ℕ) → 1 ≤ rounds_of nk
some nk = omega arith

-- ---- a cipher, a key and an accepted bundle
module _ (c nk : ℕ) (key l : List ℕ) (given : Given nk key l) where
  abbrev nr : ℕ
  nr = rounds_of nk

  abbrev C : Codings
  C = codings_of nr l

  abbrev P : Parts
  P = parts_of c nk key

  sound : Sound C
  sound = codings_sound nr l given.bundle_bytes given.judged

  fine : Fine P
  fine = parts_fine c nr (KeyExpansion nk key) (round_key_bytes nk key given.key_bytes)

  -- The encodings of the first and of the last 32 numbers are the bundle's.
  first_encoding : (q : ℕ) → q < 32 → C.encoding q ≡ encoding_of nr l (0 + q)
  first_encoding q h = encoding_is nr l q (omega (arith, input_room nr)) ∙ ap (encoding_of nr l) (let e : q ≡ 0 + q = omega arith in e)

  last_encoding : (q : ℕ) → q < 32 → C.encoding (stages.encodings nr - 32 + q) ≡ encoding_of nr l (output_first nr + q)
  unfolding output_first
  last_encoding q h =
      ap (λ (n : ℕ). C.encoding (n - 32 + q)) (sym (encodings_agree nr (some nk)))
      ∙ encoding_is nr l (encodings nr - 32 + q) (omega (arith, input_room nr))

  module _ (b : List ℕ) (block : Block b) where
    counts : (n : ℕ) → (due_at c nk key l b n).count ≡ n
    unfolding due_at
    counts n = due_count P fine C sound nr (some nk) b block n

    -- The walk keeps 0 or 1, and its lookups read as the parts do.
    reads_same : reads_of (kept c) ≡ P.reads
    reads_same = kept_names c _ _ ∙ sym (parts_read nr (KeyExpansion nk key) c)

    steps : (n : ℕ) → n < lookups nr → step (reads_of (kept c)) nr (made_table c nk key l n) (due_at c nk key l b n) ≡ due_at c nk key l b (suc n)
    unfolding due_at made_table
    steps n h =
        ap (λ (reads : ℕ → ℕ). step reads nr (made_table c nk key l n) (due_at c nk key l b n)) reads_same ∙ due_step P fine C sound nr (some nk) b block n h

    ends : (due_at c nk key l b (lookups nr)).standing ≡ encode_output nr l (cipher_block c nk key b)
    unfolding due_at encode_output encode_by encode_nibbles encoded ended codings_of
    ends =
        due_end P fine C sound nr (some nk) b block
        ∙ ap (λ (y : List ℕ). encoded C.encoding (λ q. stages.encodings nr - 32 + q) (multiply (output_matrix nr l) y)) (result_is c nk key b (some nk))
        ∙ packed_ext 16 _ _ (λ q h. ap (λ (e : List ℕ). encode e (nibble (multiply (output_matrix nr l) (cipher_block c nk key b)) q)) (last_encoding q h))

  module _ (x : List ℕ) (presented : Presented x) where
    pub block_x : Block x
    block_x = record { long = presented_was (length x) presented.started; bytes = presented.bytes }

    abbrev b : List ℕ
    b = decode_input nr l x

    pub block_b : Block b
    block_b = (undoing nr l given.bundle_bytes given.judged x block_x).input_block.1

    -- The input matrix times the uncoded block is the presented block with its encodings off.
    plain_x : multiply C.input_matrix b ≡ decoded C.encoding start_numbers.standing x
    unfolding decode_input decode_by codings_of decode_nibbles decoded start_numbers
    plain_x =
        multiply_back (inverse_of 128 (input_matrix nr l)) (input_matrix nr l) (accepted_input nr l given.bundle_bytes given.judged).right
        (decode_nibbles (encoding_of nr l) 0 x)
        (decode_nibbles_bytes (encoding_of nr l) 0 (accepted_encodings nr l given.bundle_bytes given.judged 0 (input_room nr)) x block_x)
        ∙ packed_ext 16 _ _ (λ q h. ap (λ (e : List ℕ). decode e (nibble x q)) (sym (first_encoding q h)))

    begins : started c x ≡ due_held c nk key l b 0
    unfolding started due_at numbers_after start_numbers lookups_in state_due walked
    begins =
        sym (left_new _ (holding (marked c) (state_at 0 x zero_area)) zero_held presented.started)
        ∙ ap (holding (marked c))
        (from_any_layer C.encoding sound.encodings [] (layers P C nr) (layers_good P fine C nr) x block_x 0 (omega arith)
        ∙ ap (λ (y : List ℕ). closed C.encoding (layers P C nr) start_numbers y 0 0) (sym plain_x)
        ∙ closed_is_due P fine C sound nr b block_b (some nk) 0)

    abbrev A : List ℕ
    A = encode_output nr l (cipher_block c nk key b)

    abbrev S : ℕ → State
    S = due_at c nk key l b

    abbrev W : ℕ → Held
    W = due_held c nk key l b

    -- The walk at every count is the one due.
    known : Known (marked c) nr (made_table c nk key l) (made_set c nk key l) S A
    known =
        record { keeps = mark_kept c; counts = counts b block_b; steps = steps b block_b; ends = ends b block_b; parts = made.part; long = made.long }
      where
        made : InSet nr (made_set c nk key l) (made_table c nk key l)
        made = made_in_set nk c key l

    served : (cs : List Call) → Lent nr (made_table c nk key l) (made_set c nk key l) 0 cs → serve nr (started c x) cs ≡ due_served nr W A 0 cs
    served cs lent =
        ap (λ (w : Held). serve nr w cs) begins
        ∙ serve_is known cs 0 (omega arith) lent

    -- One move to the end, and a fetch into 16 bytes.
    pub fetched : (lent : List ℕ) → length lent ≡ 16 → walked_over c nr (made_set c nk key l) x lent ≡ A
    unfolding plain
    fetched lent room =
        let n = lookups nr in
        ap (λ (w : Held). block_left nr (fetch lent) (handed nr (to_stop (made_set c nk key l) n) w)) begins
        ∙ ap (block_left nr (fetch lent))
        (straight known n (le_refl n))
        ∙ block_is known (fetch lent) n
        ∙ rw (eq-eqb (length lent) 16 room, eq-eqb n n refl)

    -- ---- place by place
    abbrev Ls : List Layer
    Ls = layers P C nr

    abbrev plain_bytes : List ℕ
    plain_bytes = multiply C.input_matrix b

    same_state : (k : ℕ) → closed C.encoding Ls start_numbers plain_bytes 0 k ≡ S k
    unfolding due_at
    same_state k = closed_is_due P fine C sound nr b block_b (some nk) k

    standing_due_lem : (k q : ℕ) → standing_due (values_of Ls plain_bytes) (left_by Ls plain_bytes) start_numbers k q ≡ due_standing P C nr b k q
    unfolding due_standing
    standing_due_lem k q =
        follows_standing Ls (values P C nr b) plain_bytes (ended P C nr b) (follows P fine C sound nr b block_b (some nk)) (layers_good P fine C nr) start_numbers k q

    area_due_lem : (k q : ℕ) → area_due (values_of Ls plain_bytes) start_numbers k q ≡ due_area P C nr b k q
    unfolding due_area
    area_due_lem k q =
        follows_area Ls (values P C nr b) plain_bytes (ended P C nr b) (follows P fine C sound nr b block_b (some nk)) (layers_good P fine C nr) start_numbers k q

    value_widths : map (λ (D : Values). D.width) (values P C nr b) ≡ widths nr
    unfolding values widths
    value_widths = map-map (λ (D : Values). D.width) (values_at P C nr b) (stages.stages nr)

    good : GoodWidths (map (λ (D : Values). D.width) (values P C nr b))
    good = subst GoodWidths (widths_are P C nr ∙ sym value_widths) (good_widths Ls (layers_good P fine C nr))

    by_rule : (k : ℕ) → k ≤ lookups nr
        → ((q : ℕ) → q < 32 → label_of (due_standing P C nr b k q) ≡ under ((labels (widths nr) k).standing q))
        × ((q : ℕ) → q < 512 → label_of (due_area P C nr b k q) ≡ (labels (widths nr) k).area q)
    unfolding due_standing due_area lookups
    by_rule k h =
        let R = rule_labels (values P C nr b) (ended P C nr b) good k (subst (λ (ms : List ℕ). k ≤ lookups_in ms) (sym value_widths) h) in (
          λ q c. R.0 q c ∙ ap (λ (ms : List ℕ). under ((labels ms k).standing q)) value_widths,
          λ q c. R.1 q c ∙ ap (λ (ms : List ℕ). (labels ms k).area q) value_widths,
        )

    places : (k : ℕ) → k ≤ lookups nr → Places c nk key l b k (S k)
    places k h =
        let R = place_by_place C.encoding sound.encodings Ls (layers_good P fine C nr) start_numbers plain_bytes (multiply_block C.input_matrix b).bytes 0 k in
        record {
          standing = λ q c.
              subst (λ (d : Due). Reads C.encoding (nibble (S k).standing q) d) (standing_due_lem k q)
              (subst (λ (w : State). Reads C.encoding (nibble w.standing q) (standing_due (values_of Ls plain_bytes) (left_by Ls plain_bytes) start_numbers k q))
              (same_state k) (R.0 q c));
          area = λ q c.
              subst (λ (d : Due). Reads C.encoding (nibble (S k).area q) d) (area_due_lem k q)
              (subst (λ (w : State). Reads C.encoding (nibble w.area q) (area_due (values_of Ls plain_bytes) start_numbers k q)) (same_state k) (R.1 q c));
          standing_label = λ q c. (by_rule k h).0 q c;
          area_label = λ q c. (by_rule k h).1 q c;
        }

    -- ---- a list of calls, with the places of the walk that it left
    answered : (cs : List Call) → Lent nr (made_table c nk key l) (made_set c nk key l) 0 cs → Answered c nk key l x cs (plain_count nr 0 (map args_of cs))
    answered cs lent =
        let n = plain_count nr 0 (map args_of cs) in
        let most : n ≤ lookups nr = count_le nr (map args_of cs) 0 (omega arith) in
        let at_end : last_walk nr (started c x) cs ≡ W n =
        ap (λ (w : Held). last_walk nr w cs) begins
        ∙ last_is known cs 0 (omega arith) lent in
        record {
          calls = served cs lent;
          within = most;
          places = subst (λ (w : Held). Places c nk key l b n w.state) (sym at_end) (places n most);
          last = at_end;
          straight_reply =
              ap (reply nr (to_stop (made_set c nk key l) n)) begins
              ∙ straight_reply known n most;
          straight =
              ap (handed nr (to_stop (made_set c nk key l) n)) begins
              ∙ straight known n most
              ∙ sym at_end;
        }

pub demand3_for : (nk : ℕ) → Demand3For nk
demand3_for nk =
    record { calls = λ c key l x g p cs lent. answered c nk key l g x p cs lent; two = two }
  where
    two : TwoSets nk
    two c key l l' x g g' outer p cs cs' alike lent lent' =
        ap (map seen) (served c nk key l g x p cs lent)
        ∙ alike_seen (rounds_of nk) (W c nk key l g x p) (W c nk key l' g' x p) (A c nk key l g x p) (A c nk key l' g' x p)
        (counts c nk key l g (b c nk key l g x p) (block_b c nk key l g x p)) (counts c nk key l' g' (b c nk key l' g' x p) (block_b c nk key l' g' x p))
        same_answer cs cs' 0 alike
        ∙ sym (ap (map seen) (served c nk key l' g' x p cs' lent'))
      where
        nr' : ℕ
        nr' = rounds_of nk

        -- The uncoded block is one.
        same_block : decode_input nr' l x ≡ decode_input nr' l' x
        same_block =
            let bx : Block x = block_x c nk key l g x p in
            let bb : Block (decode_input nr' l x) = block_b c nk key l g x p in
            sym (undoing nr' l' g'.bundle_bytes g'.judged (decode_input nr' l x) bb).input
            ∙ ap (decode_input nr' l') (sym (outer.input (decode_input nr' l x) bb) ∙ (undoing nr' l g.bundle_bytes g.judged x bx).input_back)

        same_answer : encode_output nr' l (cipher_block c nk key (decode_input nr' l x)) ≡ encode_output nr' l' (cipher_block c nk key (decode_input nr' l' x))
        same_answer =
            outer.output (cipher_block c nk key (decode_input nr' l x)) (cipher_block_lem c nk key (decode_input nr' l x) g.key_bytes (block_b c nk key l g x p))
            ∙ ap (λ (y : List ℕ). encode_output nr' l' (cipher_block c nk key y)) same_block

pub demand3 : Demand3
demand3 = demand3_for 4

pub demand2_for : (nk : ℕ) → Demand2For nk
demand2_for nk c key l b lent long key_bytes bundle_bytes judged block room =
    record {
      coded = is;
      uncoded = ap (decode_output nr' l) is ∙ off;
      undone =
          ap (λ (y : List ℕ). cipher_block (other c) nk key (decode_output nr' l y)) is
          ∙ ap (cipher_block (other c) nk key) off
          ∙ other_undoes c nk key b key_bytes block;
    }
  where
    nr' : ℕ
    nr' = rounds_of nk

    g : Given nk key l
    g = record { long = long; key_bytes = key_bytes; bundle_bytes = bundle_bytes; judged = judged }

    back : Undone nr' l b
    back = undoing nr' l bundle_bytes judged b block

    is : walked_over c nr' (made_set c nk key l) (encode_input nr' l b) lent ≡ encode_output nr' l (cipher_block c nk key b)
    is =
        fetched c nk key l g (encode_input nr' l b) (long_presented (encode_input nr' l b) back.input_block.0) lent room
        ∙ ap (λ (y : List ℕ). encode_output nr' l (cipher_block c nk key y)) back.input

    off : decode_output nr' l (encode_output nr' l (cipher_block c nk key b)) ≡ cipher_block c nk key b
    off = (undoing nr' l bundle_bytes judged (cipher_block c nk key b) (cipher_block_lem c nk key b key_bytes block)).output

pub demand2 : Demand2
demand2 = demand2_for 4
