use Rattle.std.proofs.Common.{refl}
use Rattle.quadrant_compile.specs.QuadrantText.{quadrant_of}
use Rattle.quadrant_compile.proofs.parts.QuadrantParts.new.Goals as goal

pub returns : goal.returns
unfolding quadrant_of
returns c = rw (c.new.ensures, c.in_ok-new.ensures, c.new-3.ensures.items, c.new-4.ensures.items) refl
