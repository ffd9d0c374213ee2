use Prim.Native.Nat.{◌+◌}
use Rattle.bits.proofs.laws.Parts.{Parts}
use Rattle.encodings.specs.Encodings.{encoding_in}
use Rattle.encodings.proofs.lists.all_images.Given as goal

abbrev pub invariant-loop-h : goal.invariant-loop-h
invariant-loop-h l = Parts l.count 16 (λ k. encoding_in l.section (l.n + k)) l.initial.dst l.dst l.h
