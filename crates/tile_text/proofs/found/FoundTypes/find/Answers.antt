use Rattle.std.proofs.Common.{refl, sym}
use Rattle.std.specs.Prelude.{slice_index_or}
use Rattle.tile_text.proofs.Names.{type_of_name}
use Rattle.tile_text.proofs.found.FoundTypes.find.Goals as goal

pub returns-then-has_name-clause-index : goal.returns-then-has_name-clause-index
returns-then-has_name-clause-index c =
    let valid = c.recall_valid.ensures.valid in
    let kept = slice_index_or c.args.self.now.kept c.place_of-place.result (record { 0 = 0 }) in
    let has = c.if-has_name.ensures in
    sym (type_of_name c.args.sys.now kept c.args.name.now valid.type_names valid.distinct_types (has.known refl) (has.named refl))
