-- Laws, not definitions: texts that are put one behind the other into lent memory stand there as one.
-- Assumes nothing.
use mathlib.Core.List.{List, [], ◌++◌, append-nil}
use mathlib.Core.Path.{◌≡◌, refl, sym, ap, ◌∙◌}
use Prim.Native.Nat.{ℕ, ◌+◌, ◌≤◌}
use native.Mathlib.Omega.{arith}
use lib.ListN.{length, take, drop, length-append, drop_of_length-le}
use lib.Seq.{length-take-le, take-append_seam, drop-append-add, drop-drop, take-length, paste}
use Rattle.streams.specs.Received.{IsPrefixLen}
use Rattle.streams.specs.Digits.{last_digits}
use Rattle.answers.specs.Numbers.{cause_of, second_of}
use Rattle.answers.specs.declared.Refusal.{Refusal}
use Rattle.streams.specs.Lines.{word, space, newline, decimal, hex_digits, cause_text, cause_line, refusal_line, answer_line, matrix_line}
use Rattle.streams.specs.Lines.{number_room, cause_room, matrix_digits}
use Rattle.streams.specs.Written.{Written, Put}

-- ---- one text behind the other
joined : (text next held : List ℕ)
    → paste (text ++ drop (length text) held) (length text) next (length next) ≡ text ++ next ++ drop (length text + length next) held
joined text next held =
    ap (λ (l : List ℕ). l ++ take (length next) next ++ drop (length text + length next) (text ++ drop (length text) held))
    (take-append_seam text (drop (length text) held))
    ∙ ap (λ (l : List ℕ). text ++ l ++ drop (length text + length next) (text ++ drop (length text) held)) (take-length next)
    ∙ ap (λ (l : List ℕ). text ++ next ++ l) (drop-append-add text (drop (length text) held) (length next) ∙ drop-drop (length next) (length text) held)

written_none : {held : List ℕ} → Written [] held 0 held
written_none = record { ends = refl; bytes = refl }

written_more : {text next held mid left : List ℕ} {from end : ℕ}
    → Written text held from mid → Put next mid from end left → Written (text ++ next) held end left
written_more {text} {next} {held} {mid} {left} {from} {end} w p =
    let e : end ≡ length text + length next = omega (arith, w.ends, p.ends) in
    record {
      ends = omega (arith, length-append text next);
      bytes =
          p.bytes ∙ ap (λ (l : List ℕ). paste l from next (length next)) w.bytes
          ∙ ap (λ (n : ℕ). paste (text ++ drop n held) n next (length next)) w.ends
          ∙ joined text next held
          ∙ ap (λ (n : ℕ). text ++ next ++ drop n held) (sym e);
    }

-- the first text of all
written_first : {text held left : List ℕ} {end : ℕ} → Put text held 0 end left → Written text held end left
written_first p = written_more written_none p

-- What is written is a front of the memory.
pub written_counts : {text held left : List ℕ} {end : ℕ} → Written text held end left → IsPrefixLen end left
written_counts {text} {held} {left} {end} w =
    let long : length left ≡ length text + length (drop end held) = ap length w.bytes ∙ length-append text (drop end held) in
    let fits : end ≤ length left = omega (arith, w.ends) in
    (fits, sym (length-take-le end left fits))

-- A text as long as the memory is all that is left.
pub written_whole : {text held left : List ℕ} {end : ℕ} → Written text held end left → length text ≡ length left → left ≡ text
written_whole {text} {held} {left} {end} w e =
    let long : length left ≡ length text + length (drop end held) = ap length w.bytes ∙ length-append text (drop end held) in
    w.bytes ∙ ap (λ (l : List ℕ). text ++ l) (drop_of_length-le (drop end held) {i = 0} (omega arith)) ∙ append-nil text

-- ---- the lines
-- `refused N`: the word, and a number n that is the cause's.
pub cause_written : (r : Refusal) {n : ℕ} {held mid left : List ℕ} {from end : ℕ}
    → Put word held 0 from mid → n ≡ cause_of r → Put (decimal n) mid from end left → length (decimal n) ≤ number_room
    → Written (cause_text r) held end left × (end ≤ cause_room)
unfolding cause_text
cause_written r p e q l = (written_more (written_first p) (rw e at q), omega (arith, p.ends, q.ends))

pub cause_line_written : (r : Refusal) {held mid left : List ℕ} {from end : ℕ}
    → Written (cause_text r) held from mid → Put newline mid from end left → Written (cause_line r) held end left
unfolding cause_line
cause_line_written r w p = written_more w p

-- The same with a second number.
pub refusal_line_written : (r : Refusal) {n : ℕ} {held a b d left : List ℕ} {i j k end : ℕ}
    → Written (cause_text r) held i a → Put space a i j b → n ≡ second_of r → Put (decimal n) b j k d → Put newline d k end left
    → Written (refusal_line r) held end left
unfolding refusal_line
refusal_line_written r w p e q s = written_more (written_more (written_more w p) (rw e at q)) s

pub answer_line_written : (block : List ℕ) {digits held mid left : List ℕ} {from end : ℕ}
    → digits ≡ hex_digits block → Put digits held 0 from mid → Put newline mid from end left → Written (answer_line block) held end left
unfolding answer_line
answer_line_written block e p q = written_more (written_first (rw e at p)) q

pub matrix_line_written : (v : ℕ) {digits held mid left : List ℕ} {from end : ℕ}
    → digits ≡ last_digits 16 matrix_digits v → Put digits held 0 from mid → Put newline mid from end left → Written (matrix_line v) held end left
unfolding matrix_line
matrix_line_written v e p q = written_more (written_first (rw e at p)) q
