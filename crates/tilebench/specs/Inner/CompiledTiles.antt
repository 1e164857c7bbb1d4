-- What the tiles of a machine, a quadrant or a counter are seen as.
use Rattle.atam.specs.TileSystem.{TileSystem}
use Rattle.tilebench.specs.declared.spelled.CompiledTiles.{CompiledTiles}
use Rattle.tilebench.specs.declared.spelled.CompiledTiles.TheVariants.{Machine, Quadrant, Counter}

-- the system that the tiles make
abbrev pub compiled_system : CompiledTiles → TileSystem
compiled_system (Machine sys) = sys
compiled_system (Quadrant sys) = sys
compiled_system (Counter sys) = sys
