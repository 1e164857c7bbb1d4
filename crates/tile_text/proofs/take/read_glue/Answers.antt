use Rattle.std.proofs.Common.{◌≡◌, ◌∙◌, Some, None, sym}
use Rattle.tile_system.specs.Names.{glue_named}
use Rattle.tile_text.proofs.Built.{glue_found}
use Rattle.tile_text.proofs.Names.{name_of_glue}
use Rattle.tile_text.proofs.Sides.{glue_named_read, glue_refused}
use Rattle.tile_text.proofs.take.read_glue.Goals as goal

pub returns-in-Some-clause-glue : goal.returns-in-Some-clause-glue
returns-in-Some-clause-glue c = λ items built.
    let word = c.args.word.now in
    let draft = c.args.builder.now in
    let at : Some c.in-Some.glue.0 ≡ glue_named draft.glues word = c.in-Some.ensures in
    let named = name_of_glue draft.glues word c.in-Some.glue.0 (sym at) c.recall_valid.ensures.valid.glue_names in
    glue_named_read items word c.in-Some.glue (at ∙ glue_found draft items built word) named

pub returns-in-None-clause-fault : goal.returns-in-None-clause-fault
returns-in-None-clause-fault c = λ items built.
    let found = c.in-None.ensures ∙ glue_found c.args.builder.now items built c.args.word.now in
    glue_refused items c.args.word.now None found c.read_name.result c.read_name.ensures.name
