use Rattle.std.proofs.Common.{◌≡◌, ◌+◌, ◌-◌, suc, slice_get, sym, ◌∙◌, arith}
use Rattle.quadrant_compile.proofs.CellReading.{border_symbols, pair_symbols}
use Rattle.quadrant_compile.proofs.cells.type_symbols.Goals as goal

pub returns-then-tile-borders : goal.returns-then-tile-borders
returns-then-tile-borders c =
    let less = c.if-tile-borders.true in
    sym (border_symbols c.args.quadrant.now c.requires c.args.tile (omega (arith, less, c.width.ensures, c.height.ensures)))

pub returns : goal.returns
returns c =
    let q = c.args.quadrant.now in
    let past = c.if-tile-borders.false in
    let number : c.args.tile.0 - (1 + c.width.result + c.height.result) ≡ c.args.tile.0 - (suc q.width + q.height) = omega (arith, c.width.ensures, c.height.ensures) in
    c.pair_at.ensures ∙ (λ z. slice_get (c.ruled.ensures z) (number z)) ∙ sym (pair_symbols q c.requires c.args.tile (omega (arith, past, c.width.ensures, c.height.ensures)))
