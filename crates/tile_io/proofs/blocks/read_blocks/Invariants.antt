use Rattle.std.proofs.Common.{◌≡◌, ◌-◌}
use Rattle.tile_io.specs.Checks.{table_format}
use Rattle.tile_io.proofs.CameSoFar.{CameSoFar}
use Rattle.tile_io.proofs.blocks.read_blocks.Given as goal

-- the lines before what is kept are items that the reader holds; the context is that of the start
abbrev pub invariant-lines : goal.invariant-lines
invariant-lines g l = record {
  context : g.R.LineReader.context l.reader ≡ g.R.LineReader.context l.fn.reader;
  so_far : CameSoFar g.S.Source.left g.S.Source.faults (table_format (g.R.LineReader.table (g.R.LineReader.context l.fn.reader))) l.fn.front.items l.fn.from l.initial.source l.source (g.R.LineReader.holds l.reader) l.text.items l.came l.passed l.missing;
}

abbrev pub decreases-lines : goal.decreases-lines
decreases-lines g l = 67108865 - l.came
