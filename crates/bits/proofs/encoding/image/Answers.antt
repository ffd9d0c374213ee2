-- `bits::encoding::image` meets its contract. Above 15 there is no image and the list reads 0 (`image_past` of `laws.Images`); else the image
-- of v is nibble v, which `nibble` reads and bounds (`image_read`).
-- Assumes nothing.
use Rattle.bits.proofs.laws.Images.{image_past, image_read}
use native.Mathlib.Omega.{arith}
use Rattle.bits.proofs.encoding.image.Goals as goal

pub returns-then-v-ge16 : goal.returns-then-v-ge16
returns-then-v-ge16 c = (image_past _ _ (search), omega arith)

pub returns : goal.returns
returns c = (image_read _ _ _ _ (search) c.from-q.ensures c.nibble.ensures.0, c.nibble.ensures.1)
