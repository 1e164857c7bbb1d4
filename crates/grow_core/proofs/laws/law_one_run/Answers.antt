use Rattle.std.proofs.Common.{sym, subst, List}
use Rattle.atam.specs.Canonical.{IsCanonical}
use Rattle.atam.proofs.Canon.{canonical_unique}
use Rattle.grow_core.specs.declared.placed_tile.PlacedTile.{PlacedTile}
use Rattle.grow_core.specs.Core.{places}
use Rattle.grow_core.proofs.Start.{start-invariant}
use Rattle.grow_core.proofs.Stepped.{run-invariant}
use Rattle.grow_core.proofs.Runs.{run_like, start_like}
use Rattle.grow_core.proofs.laws.law_one_run.Goals as goal

pub returns-clause-outcome : goal.returns-clause-outcome
returns-clause-outcome c sys one two s t runs memory memory' =
    run_like sys runs.first runs.second s t one two (start_like sys runs.first runs.second runs.first_start runs.second_start) runs.first_run runs.second_run runs.events memory memory'

pub returns-clause-canonical : goal.returns-clause-canonical
returns-clause-canonical c sys one two s t a b runs memory memory' canonical_a canonical_b =
    let same = run_like sys runs.first runs.second s t one two (start_like sys runs.first runs.second runs.first_start runs.second_start) runs.first_run runs.second_run runs.events memory memory' in
    let holds = run-invariant sys runs.first s one runs.valid runs.first_run (start-invariant sys runs.valid runs.first runs.first_start) in
    canonical_unique sys (places s.tiles) holds.growth.history.distinct a b canonical_a
    (subst (λ (l : List PlacedTile). IsCanonical sys (places l) b) (sym same.1) canonical_b)
