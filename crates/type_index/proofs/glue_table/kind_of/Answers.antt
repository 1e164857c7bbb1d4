use Rattle.std.proofs.Common.{◌<◌, ◌∙◌, Some, ap, arith, false, length}
use Rattle.std.proofs.lemmas.Option.{slice_get-get_or}
use Rattle.type_index.proofs.Mosts.{lone_unmarked}
use Rattle.type_index.proofs.glue_table.kind_of.Goals as goal

-- a glue that is of no pair
pub returns-then-not-paired-glue-clause-lone : goal.returns-then-not-paired-glue-clause-lone
returns-then-not-paired-glue-clause-lone c is =
    let within : c.args.glue.0 < length c.args.paired.now = omega (arith, c.requires.known, c.requires.paired.count) in
    lone_unmarked c.args.sys.now c.args.paired.now c.args.glue c.requires.paired (slice_get-get_or c.args.paired.now c.args.glue.0 false within ∙ ap Some c.if-not-paired-glue.true)
