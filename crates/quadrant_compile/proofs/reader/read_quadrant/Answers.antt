use Rattle.std.proofs.Common.{sym, subst}
use Rattle.std.specs.Prelude.{None, []}
use Rattle.tile_io.proofs.Progress.{reads_is_mark}
use Rattle.quadrant_compile.specs.Quadrants.{RuleQuadrant}
use Rattle.quadrant_compile.specs.QuadrantText.{quadrant_format}
use Rattle.quadrant_compile.specs.Inner.SoFar.{HoldsLines, quadrant_in}
use Rattle.quadrant_compile.proofs.Built.{nothing_held, IsQuadrant-read}
use Rattle.quadrant_compile.proofs.reader.read_quadrant.Goals as goal

pub read_text-requires-clause-empty : goal.read_text-requires-clause-empty
read_text-requires-clause-empty c = subst (λ (q : RuleQuadrant). HoldsLines q None []) (sym c.in-Ok.ensures) nothing_held

pub new-requires-2 : goal.new-requires-2
new-requires-2 c =
    let read = c.in_ok-to.ensures.read in
    let reader = c.read_text.new.reader in
    IsQuadrant-read (quadrant_in reader.parts) reader.last read.items c.args.text.now c.args.from c.in_ok-to.to read.held read.reads

pub returns-clause-mark : goal.returns-clause-mark
returns-clause-mark c =
    let read = c.in_ok-to.ensures.read in
    reads_is_mark quadrant_format c.args.text.now c.args.from c.in_ok-to.to read.items c.requires.mark read.reads
