use Rattle.command_line.proofs.CallLemmas.{alone_taken, alone_wanting, call_spelled, spelled_taken}
use Rattle.command_line.proofs.laws.law_plain_words.Goals as goal

pub returns : goal.returns
returns c = record { alone = alone_taken; wanting = alone_wanting; taken = spelled_taken; spelled = call_spelled }
