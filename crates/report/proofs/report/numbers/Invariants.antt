use Rattle.std.proofs.Common.{◌≡◌, map, take}
use Rattle.serde_json.specs.View.{view}
use Rattle.report.specs.Inner.Values.{number_data}
use Rattle.report.proofs.report.numbers.Given as goal

-- the numbers so far
abbrev pub invariant-loop-count : goal.invariant-loop-count
invariant-loop-count l = map view l.values.items ≡ number_data (take l.count-index l.won)
