use Rattle.std.proofs.Common.{refl}
use Rattle.atam.specs.Sites.{width_of}
use Rattle.assembly.proofs.Beside.{west_edge, west_told, west_left}
use Rattle.assembly.proofs.grid.Grid.west_of.Goals as goal

pub returns-then-site-self : goal.returns-then-site-self
returns-then-site-self c = west_edge c.self.inside.area c.self.inside.cells.items c.self.inside.count c.self.invariant c.args.self.now c.self.view_is c.args.site c.requires.inside c.if-site-self.true

pub overflow_sub-index : goal.overflow_sub-index
overflow_sub-index c = west_left c.self.inside.area c.self.inside.cells.items c.self.inside.count c.self.invariant c.args.self.now c.self.view_is c.args.site c.requires.inside c.args.index (width_of c.self.inside.area) c.requires.number refl c.if-site-self.false

pub returns : goal.returns
returns c = west_told c.self.inside.area c.self.inside.cells.items c.self.inside.count c.self.invariant c.args.self.now c.self.view_is c.args.site c.requires.inside c.args.index (width_of c.self.inside.area) c.requires.number refl c.if-site-self.false c.tile.result c.tile.ensures
