-- `maker::run` meets its contract: the key and the bundle are fronts of arrays that `receive` filled, and `make` leaves what is written for them (`runs` of
-- `laws.Writes`).
-- Assumes nothing.
use mathlib.Core.Path.{ap, sym, ◌∙◌}
use Prim.Native.Nat.{suc}
use Rattle.bundle.proofs.laws.Frame.{sizes}
use Rattle.maker.proofs.laws.Writes.{runs}
use Rattle.maker.proofs.run.Goals as goal

pub returns : goal.returns
returns g c =
    runs 4 c.receive-k.result c.receive-b.result c.receive-k.new.memory c.receive-b.new.memory
    c.receive-k.ensures c.receive-k.auto.memory c.receive-b.ensures (c.receive-b.auto.memory ∙ ap suc (sym sizes.high))
    c.make.ensures
