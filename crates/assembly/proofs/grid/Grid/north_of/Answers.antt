use Rattle.assembly.proofs.Beside.{north_edge, north_told, north_within}
use Rattle.assembly.proofs.grid.Grid.north_of.Goals as goal

pub returns-then-site-self : goal.returns-then-site-self
returns-then-site-self c = north_edge c.self.inside.area c.self.inside.cells.items c.self.inside.count c.self.invariant c.args.self.now c.self.view_is c.args.site c.requires.inside c.if-site-self.true

pub tile-requires : goal.tile-requires
tile-requires c = north_within c.self.inside.area c.self.inside.cells.items c.self.inside.count c.self.invariant c.args.self.now c.self.view_is c.args.site c.requires.inside c.args.index c.width.result c.requires.number c.width.ensures c.if-site-self.false

pub returns : goal.returns
returns c = north_told c.self.inside.area c.self.inside.cells.items c.self.inside.count c.self.invariant c.args.self.now c.self.view_is c.args.site c.requires.inside c.args.index c.width.result c.requires.number c.width.ensures c.if-site-self.false c.tile.result c.tile.ensures
