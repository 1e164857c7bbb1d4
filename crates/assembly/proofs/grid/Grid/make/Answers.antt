use Rattle.std.proofs.Common.{◌*◌, ◌∙◌, ap}
use Rattle.assembly.specs.Cells.{site_at}
use Rattle.assembly.specs.Grids.{places_of}
use Rattle.assembly.proofs.Contents.{places-replicate}
use Rattle.assembly.proofs.grid.Grid.make.Goals as goal

pub returns-clause-empty : goal.returns-clause-empty
returns-clause-empty c =
    let zeros = c.in_ok-from_elem.ensures.items_if_clones_equal (λ y same. same) in
    ap (places_of (site_at c.args.area) 0) zeros ∙ places-replicate (site_at c.args.area) 0 (c.width.result * c.height.result)
