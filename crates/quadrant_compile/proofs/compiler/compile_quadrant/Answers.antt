use Rattle.std.proofs.Common.{subst, sym, ◌∙◌, Contains}
use Rattle.atam.specs.Sites.{IsBox}
use Rattle.quadrant_compile.specs.declared.tile.Kind.TheVariants.{Corner}
use Rattle.quadrant_compile.proofs.Listed.{is_tile_set}
use Rattle.quadrant_compile.proofs.Named.{within_limits, seed_listed, box_fits}
use Rattle.quadrant_compile.proofs.compiler.compile_quadrant.Goals as goal

pub build_system-requires-clause-numbered : goal.build_system-requires-clause-numbered
build_system-requires-clause-numbered c = is_tile_set c.args.quadrant.now c.symbols.ensures.valid

pub build_system-requires-clause-limits : goal.build_system-requires-clause-limits
build_system-requires-clause-limits c = within_limits c.args.quadrant.now c.symbols.ensures.valid

pub build_system-requires-clause-seed : goal.build_system-requires-clause-seed
build_system-requires-clause-seed c =
    subst (λ ks. Contains ks Corner) (sym (c.as_slice-2.ensures.value ∙ c.in_ok-kinds.ensures)) (seed_listed c.args.quadrant.now c.symbols.ensures.valid)

pub build_system-requires-clause-area : goal.build_system-requires-clause-area
build_system-requires-clause-area c = subst IsBox (sym c.area.ensures) (box_fits c.args.quadrant.now c.symbols.ensures.valid)
