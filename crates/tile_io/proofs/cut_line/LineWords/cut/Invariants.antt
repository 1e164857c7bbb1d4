use Rattle.std.proofs.Common.{◌≢◌, ℕ, ◌<◌, ◌≤◌, get_or}
use Rattle.tile_io.specs.Inner.AtHand.{IsCutUpTo}
use Rattle.tile_io.proofs.cut_line.LineWords.cut.Given as goal

-- the words before the start are noted, and no space stands from it on
abbrev pub invariant-loop-at : goal.invariant-loop-at
invariant-loop-at l = record {
  order : l.start ≤ l.at;
  cut : IsCutUpTo l.line l.start l.places.count l.places.starts l.places.ends;
  inside : (k : ℕ) → l.start ≤ k → k < l.at → get_or l.line k 0 ≢ 32;
}
