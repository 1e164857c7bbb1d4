use Rattle.std.proofs.Common.{◌≡◌, ◌∙◌, length, drop, ap, arith}
use Rattle.std.proofs.lemmas.List.{take_at}
use Rattle.assembly.specs.Cells.{site_at}
use Rattle.assembly.specs.Grids.{places_of}
use Rattle.assembly.proofs.Contents.{places-replicate}
use Rattle.assembly.proofs.grid.Grid.clear.Goals as goal

-- all cells are written
pub returns-clause-empty : goal.returns-clause-empty
returns-clause-empty c =
    let cells = c.self.inside.cells in
    let zeros = c.fill.ensures.after (λ y same. same) in
    let as_long : length c.fill.new.self ≡ cells.len = omega (arith, c.fill.ensures.len, ap length c.as_mut_slice.ensures.value, cells.ok.0) in
    ap (places_of (site_at c.self.inside.area) 0)
    (take_at c.fill.new.self (drop (length c.fill.new.self) cells.items) cells.len as_long ∙ zeros)
    ∙ places-replicate (site_at c.self.inside.area) 0 (length c.as_mut_slice.result.now)
