use Rattle.std.proofs.Common.{◌∙◌, ap, List, ℕ, map, string_bytes}
use Rattle.std.proofs.lemmas.Result.{IfOk-weaker}
use Rattle.clap.specs.Words.{App, is_simple_and_free}
use Rattle.clap.proofs.WalkLemmas.{IfOk-both}
use Rattle.command_line.proofs.CommandLemmas.{app_simple, command_parsed}
use Rattle.command_line.proofs.parse.matches_of.Goals as goal

pub parsed-requires : goal.parsed-requires
parsed-requires c = ap (λ (app : App). is_simple_and_free app) c.in_ok-clap_command.ensures ∙ app_simple c.args.name

pub returns-clause-exact : goal.returns-clause-exact
returns-clause-exact c =
    let words : List (List ℕ) = map string_bytes c.args.words.now in
    IfOk-weaker c.parsed.result _ _ (λ found h. (command_parsed c.args.name c.in_ok-clap_command.field-0 words found c.in_ok-clap_command.ensures h.0 h.1).0)
    (IfOk-both c.parsed.result _ _ c.parsed.ensures.parsed c.parsed.ensures.exact)

pub returns-clause-numbers : goal.returns-clause-numbers
returns-clause-numbers c =
    let words : List (List ℕ) = map string_bytes c.args.words.now in
    IfOk-weaker c.parsed.result _ _ (λ found h. (command_parsed c.args.name c.in_ok-clap_command.field-0 words found c.in_ok-clap_command.ensures h.0 h.1).1)
    (IfOk-both c.parsed.result _ _ c.parsed.ensures.parsed c.parsed.ensures.exact)
