use Rattle.std.proofs.Common.{length, ap, sym, ◌∙◌}
use Rattle.assembly.specs.Cells.{site_at}
use Rattle.assembly.proofs.Contents.{length-places}
use Rattle.assembly.proofs.grid.Grid.count.Goals as goal

pub returns : goal.returns
returns c =
    c.self.invariant.counted ∙ sym (length-places (site_at c.self.inside.area) 0 c.self.inside.cells.items)
    ∙ ap (λ v. length v.tiles) c.self.view_is
