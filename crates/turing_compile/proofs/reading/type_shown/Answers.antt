use Rattle.std.proofs.Common.{◌∙◌}
use Rattle.turing_compile.specs.declared.kind.Kind.TheVariants.{First}
use Rattle.turing_compile.proofs.TypesShown.{kind_read, type_shown-read}
use Rattle.turing_compile.proofs.reading.type_shown.Goals as goal

pub shown-requires-clause-kind : goal.shown-requires-clause-kind
shown-requires-clause-kind c = kind_read c.args.machine.now c.states.ensures.valid c.args.listed.now c.args.tile.0 (First 0) c.requires.listed c.requires.tile

pub returns : goal.returns
returns c = c.shown.ensures ∙ type_shown-read c.args.machine.now c.args.listed.now c.args.tile (First 0) c.requires.listed c.requires.tile
