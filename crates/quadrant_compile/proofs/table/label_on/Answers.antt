use Rattle.std.proofs.Common.{ap, sym, ◌∙◌}
use Rattle.quadrant_compile.specs.Tiles.{label_on}
use Rattle.quadrant_compile.proofs.table.label_on.Goals as goal

pub returns-in-Corner : goal.returns-in-Corner
returns-in-Corner c = c.corner_label.ensures c.args.quadrant.now ∙ sym (ap (λ k. label_on c.args.quadrant.now k c.args.side) c.in-Corner.is)
