-- `view::view_of` meets its contract. A view is made of the bundle and the five numbers that `starts_of` answers (`made`); these are the
-- starts due, by what `starts_of` ensures.
-- Assumes nothing.
use mathlib.Core.List.{List}
use mathlib.Core.Path.{ap}
use Prim.Native.Nat.{ℕ}
use Rattle.std.proofs.Common.{Bor}
use Rattle.view.specs.Views.{view_of}
use Rattle.view.specs.declared.View.{View}
use Rattle.view.specs.declared.starts.Starts.{Starts}
use Rattle.view.proofs.view_of.Goals as goal

-- the view of a bundle with the starts t
abbrev made : Bor (List ℕ) → Starts → View
made b t = record { bundle = b; encodings = t.encodings; bytes = t.bytes; columns = t.columns; input = t.input; output = t.output }

pub returns : goal.returns
unfolding view_of
returns c = ap (made c.args.bundle) c.starts_of-s.ensures
