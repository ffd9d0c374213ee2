-- `lookups::layer::lookups_of` meets its contract. The numbers are those of the two widths, by `lookups_16` and `lookups_4` of `layout`; by the
-- `requires` a width other than 16 is 4.
-- Assumes nothing.
use mathlib.Core.Logic.{⊎_elim}
use mathlib.Core.Path.{sym, ap, ◌∙◌}
use Rattle.network.specs.Order.{layer_lookups}
use Rattle.layout.proofs.laws.Stages.{lookups_16, lookups_4}
use Rattle.lookups.proofs.layer.lookups_of.Goals as goal

pub returns-then-width-eq16 : goal.returns-then-width-eq16
returns-then-width-eq16 c = sym lookups_16 ∙ ap layer_lookups (sym c.if-width-eq16.true)

pub returns-else-width-eq16 : goal.returns-else-width-eq16
returns-else-width-eq16 c =
    sym lookups_4 ∙ ⊎_elim (λ e. ap layer_lookups (sym e)) (λ e. absurd (c.if-width-eq16.false e)) c.requires
