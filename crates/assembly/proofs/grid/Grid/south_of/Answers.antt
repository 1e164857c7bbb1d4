use Rattle.assembly.proofs.Beside.{south_edge, south_told, south_left}
use Rattle.assembly.proofs.grid.Grid.south_of.Goals as goal

pub returns-then-site-self : goal.returns-then-site-self
returns-then-site-self c = south_edge c.self.inside.area c.self.inside.cells.items c.self.inside.count c.self.invariant c.args.self.now c.self.view_is c.args.site c.requires.inside c.if-site-self.true

pub overflow_sub-index : goal.overflow_sub-index
overflow_sub-index c = south_left c.self.inside.area c.self.inside.cells.items c.self.inside.count c.self.invariant c.args.self.now c.self.view_is c.args.site c.requires.inside c.args.index c.width.result c.requires.number c.width.ensures c.if-site-self.false

pub returns : goal.returns
returns c = south_told c.self.inside.area c.self.inside.cells.items c.self.inside.count c.self.invariant c.args.self.now c.self.view_is c.args.site c.requires.inside c.args.index c.width.result c.requires.number c.width.ensures c.if-site-self.false c.tile.result c.tile.ensures
