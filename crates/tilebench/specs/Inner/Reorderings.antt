-- What the program says of an order, or of what keeps tiles from having one.
use Rattle.std.specs.Prelude.{ℕ, Bool, true, false, List, codes, decimal}
use Rattle.atam.specs.declared.place.Place.{Place}
use Rattle.atam.specs.TileSystem.{TileSystem}
use Rattle.replay_order.specs.ReplayAnswers.{IsWholeOrder, IsStuckAt}
use Rattle.seq_text.specs.GrowthLines.{place_lines}
use Rattle.seq_text.specs.StuckLines.{stuck_line}
use Rattle.tilebench.specs.declared.reordering.Reordering.{Reordering}
use Rattle.tilebench.specs.declared.reordering.Reordering.TheVariants.{Whole, SeedMissing, Stuck}
use Rattle.tilebench.specs.Commands.Replay.{LacksSeedAt}

-- the canonical order of the tiles; or the site of the first seed that isn't there; or how many tiles can't be reached, and the least site of those
abbrev pub IsReordering : TileSystem → List Place → Reordering → Type 0
IsReordering sys tiles (Whole order) = IsWholeOrder sys tiles order
IsReordering sys tiles (SeedMissing site) = LacksSeedAt sys tiles site
IsReordering sys tiles (Stuck left least) = IsStuckAt sys tiles left least

-- its text
abbrev pub reordering_text : TileSystem → Reordering → List ℕ
reordering_text sys (Whole order) = place_lines sys order
reordering_text sys (SeedMissing site) = stuck_line (codes "seed") site
reordering_text sys (Stuck left least) = stuck_line (decimal left) least

-- it is a yes where all tiles are in order
abbrev pub is_whole : Reordering → Bool
is_whole (Whole order) = true
is_whole _ = false
