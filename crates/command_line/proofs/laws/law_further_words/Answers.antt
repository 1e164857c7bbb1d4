use Rattle.command_line.proofs.PlainLemmas.{further_words, further_words_taken}
use Rattle.command_line.proofs.laws.law_further_words.Goals as goal

pub returns : goal.returns
returns c = λ name rest. (further_words name rest, further_words_taken name rest)
