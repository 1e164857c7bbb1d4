use Rattle.std.proofs.Common.{◌∙◌, sym, map, string_bytes}
use Rattle.std.proofs.lemmas.Option.{none-some}
use Rattle.command_line.proofs.NameLemmas.{no_name}
use Rattle.command_line.proofs.words.command_of.Goals as goal

pub returns-clause-no_command : goal.returns-clause-no_command
returns-clause-no_command c = (
  λ none. absurd (c.read_words.ensures.named none),
  λ unnamed. absurd (none-some _ (sym (no_name (map string_bytes c.args.words.now) unnamed) ∙ (sym c.named_command.ensures ∙ c.in-Some.is))),
)
