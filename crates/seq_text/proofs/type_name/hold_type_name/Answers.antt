use Rattle.std.proofs.Common.{◌≡◌, ◌≤◌, length, ap, arith}
use Rattle.atam.specs.TileSystem.{type_name}
use Rattle.seq_text.proofs.Printed.{typed_name}
use Rattle.seq_text.proofs.type_name.hold_type_name.Goals as goal

pub hold-requires : goal.hold-requires
hold-requires c =
    let sys = c.args.sys.now in
    let tile = c.args.tile in
    let short : length (type_name sys tile) ≤ 40 = (typed_name sys c.recall_valid.ensures.valid tile c.requires.known).1 in
    let same : length c.type_name.result.now ≡ length (type_name sys tile) = ap length c.type_name.ensures in
    omega (arith, short, same, c.requires.room)

pub returns-in-None-clause-len : goal.returns-in-None-clause-len
returns-in-None-clause-len c =
    let sys = c.args.sys.now in
    let tile = c.args.tile in
    let short : length (type_name sys tile) ≤ 40 = (typed_name sys c.recall_valid.ensures.valid tile c.requires.known).1 in
    let same : length c.type_name.result.now ≡ length (type_name sys tile) = ap length c.type_name.ensures in
    omega (arith, short, same, c.hold.ensures.len)
