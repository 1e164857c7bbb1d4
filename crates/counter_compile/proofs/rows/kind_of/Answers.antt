use Rattle.std.proofs.Common.{arith, ◌-◌}
use Rattle.std.proofs.lemmas.Option.{slice_get-get_or}
use Rattle.counter_compile.specs.declared.kind.Kind.TheVariants.{First}
use Rattle.counter_compile.specs.Tiles.{later_kinds}
use Rattle.counter_compile.proofs.Listed.{first_kind, later_kind}
use Rattle.counter_compile.proofs.rows.kind_of.Goals as goal

pub returns-then-tile-bits : goal.returns-then-tile-bits
returns-then-tile-bits c = let less = c.if-tile-bits.true in first_kind _ c.args.tile.0 (omega (arith, less))

pub returns-else-tile-bits : goal.returns-else-tile-bits
returns-else-tile-bits c =
    let n = c.args.tile.0 - c.args.bits in
    let past = c.if-tile-bits.false in
    let some = c.requires.some in
    let listed = c.requires.listed in
    later_kind (c.args.bits - 1) c.args.tile.0 n _ (omega (arith, past, some)) (slice_get-get_or later_kinds n (First 0) (omega (arith, listed, past)))
