-- What is proved of views: the statements. They are proved in proofs/laws/Serving.antt.
use Rattle.std.specs.Prelude.{List, [], ◌≡◌, ℕ}
use Rattle.std.specs.Borrow.{Bor}
use Rattle.bundle.specs.Format.{frame}
use Rattle.answers.specs.declared.Refusal.{Refusal}
use Rattle.view.specs.declared.part.Part.{Part}
use Rattle.view.specs.declared.starts.Starts.{Starts}
use Rattle.view.specs.Views.{view_of, starts_in, served_by, part_in}
use Rattle.answers.specs.Answer.{Refused}

-- The view of a bundle serves the bundle's parts.
abbrev pub Serves : Type 0
Serves = (b : Bor (List ℕ)) (p : Part) → served_by (view_of b) p ≡ part_in 10 b.now p

abbrev pub no_starts : Starts
no_starts = record { encodings = 0; bytes = 0; columns = 0; input = 0; output = 0 }

-- "over a bundle with cause 2 or 3 its starts are 0 and its parts empty".
abbrev pub EmptyOver : Type 0
EmptyOver = (b : Bor (List ℕ)) (r : Refusal) → frame 10 b.now ≡ Refused r
    → (starts_in (view_of b) ≡ no_starts) × ((p : Part) → served_by (view_of b) p ≡ [])
