-- `view::part::section_from` meets its contract. Each way out has a law of `laws.Code`, whose premises are the tests on the way and the section's
-- length: the section starts nowhere (`from_nowhere`), it is longer than the bundle (`from_long`), or it would end behind the bundle (`from_late`), and
-- is empty; else it is cut out of the bundle (`from_cut`). The tests keep the difference and the sum from wrapping.
-- Assumes nothing.
use Rattle.view.proofs.laws.Code.{from_nowhere, from_long, from_late, from_cut}
use Rattle.view.proofs.part.section_from.Goals as goal

pub returns-then-a-eq0 : goal.returns-then-a-eq0
returns-then-a-eq0 c = from_nowhere _ _ _ _ (search)

pub returns-then-bundle-n : goal.returns-then-bundle-n
returns-then-bundle-n c =
    from_long _ _ _ _ (search) c.section_length-n.ensures.0 (search)

pub returns-then-bundle-n-2 : goal.returns-then-bundle-n-2
returns-then-bundle-n-2 c =
    from_late _ _ _ _ (search) c.section_length-n.ensures.0 (search) (search)

pub returns : goal.returns
returns c =
    from_cut _ _ _ _ (search) c.section_length-n.ensures.0 (search) (search)
