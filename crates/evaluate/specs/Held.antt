-- The walk that the code holds. Definitions only.
use Rattle.network.specs.Lookups.{state_at}
use Rattle.calls.specs.Calls.{Held, holding}
use Rattle.evaluate.specs.declared.walk.Walk.{Walk}

abbrev pub held : Walk → Held
held w = holding (record { cipher = w.cipher }) (state_at w.count w.standing w.area)
