use Rattle.std.proofs.Common.{arith}
use Rattle.std.proofs.lemmas.List.{length-map}
use Rattle.design.specs.TileSets.{glue_of, tile_type}
use Rattle.turing_compile.specs.Compiled.{tiles_of}
use Rattle.turing_compile.specs.Inner.Listed.{kinds, labels}
use Rattle.turing_compile.proofs.Listed.{label_count, kind_count}
use Rattle.turing_compile.proofs.Named.{compiled_valid}
use Rattle.turing_compile.proofs.laws.law_valid.Goals as goal

pub returns : goal.returns
returns c = record {
  limits = λ M is_machine. compiled_valid M is_machine;
  small = λ M is_machine. (
    omega (arith, label_count M is_machine, length-map (labels M) (glue_of (tiles_of M))),
    omega (arith, kind_count M is_machine, length-map (kinds M) (tile_type (tiles_of M))),
  );
}
