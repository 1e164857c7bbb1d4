use Rattle.tilebench.proofs.Watches.{answers_as_grow, prints_as_grow}
use Rattle.tilebench.proofs.laws.law_watch.Goals as goal

pub returns : goal.returns
returns c = record { answers = answers_as_grow; bytes = prints_as_grow }
