use Rattle.std.proofs.Common.{arith}
use Rattle.std.proofs.lemmas.List.{length-map}
use Rattle.design.specs.TileSets.{glue_of, tile_type}
use Rattle.quadrant_compile.specs.QuadrantSystems.{tiles_of}
use Rattle.quadrant_compile.specs.Inner.Listed.{kinds, labels}
use Rattle.quadrant_compile.proofs.Listed.{label_count, kind_count}
use Rattle.quadrant_compile.proofs.Named.{quadrant_system_valid}
use Rattle.quadrant_compile.proofs.laws.law_valid.Goals as goal

pub returns-clause-valid : goal.returns-clause-valid
returns-clause-valid c = λ q is_quadrant. quadrant_system_valid q is_quadrant

pub returns-clause-small : goal.returns-clause-small
returns-clause-small c = λ q is_quadrant.
    let glues = length-map (labels q) (glue_of (tiles_of q)) in
    let types = length-map (kinds q) (tile_type (tiles_of q)) in
    let few_glues = label_count q is_quadrant in
    let few_types = kind_count q is_quadrant in
    (omega (arith, glues, few_glues), omega (arith, types, few_types))
