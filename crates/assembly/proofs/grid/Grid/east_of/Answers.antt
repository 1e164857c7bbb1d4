use Rattle.std.proofs.Common.{refl}
use Rattle.atam.specs.Sites.{width_of}
use Rattle.assembly.proofs.Beside.{east_edge, east_told, east_within}
use Rattle.assembly.proofs.grid.Grid.east_of.Goals as goal

pub returns-then-site-self : goal.returns-then-site-self
returns-then-site-self c = east_edge c.self.inside.area c.self.inside.cells.items c.self.inside.count c.self.invariant c.args.self.now c.self.view_is c.args.site c.requires.inside c.if-site-self.true

pub tile-requires : goal.tile-requires
tile-requires c = east_within c.self.inside.area c.self.inside.cells.items c.self.inside.count c.self.invariant c.args.self.now c.self.view_is c.args.site c.requires.inside c.args.index (width_of c.self.inside.area) c.requires.number refl c.if-site-self.false

pub returns : goal.returns
returns c = east_told c.self.inside.area c.self.inside.cells.items c.self.inside.count c.self.invariant c.args.self.now c.self.view_is c.args.site c.requires.inside c.args.index (width_of c.self.inside.area) c.requires.number refl c.if-site-self.false c.tile.result c.tile.ensures
