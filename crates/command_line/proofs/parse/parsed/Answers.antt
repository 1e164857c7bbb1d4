use Rattle.std.proofs.Common.{map, string_bytes}
use Rattle.clap.specs.Words.{app_of, fault_of, kind_of, takes}
use Rattle.command_line.proofs.ParseLemmas.{has_fault, names_a_command, not_true, usage_not_memory}
use Rattle.command_line.proofs.parse.parsed.Goals as goal

pub returns-in-Err-clause-refused : goal.returns-in-Err-clause-refused
returns-in-Err-clause-refused c = λ usage.
    has_fault (fault_of (app_of c.args.command) (map string_bytes c.args.words.now)) c.in-Err.error (c.in-Err.ensures.kinds c.requires)
    (usage_not_memory c.kind.result (kind_of c.in-Err.error) c.of_kind.result c.of_kind.ensures c.kind.ensures usage)

pub returns-in-Err-clause-untaken : goal.returns-in-Err-clause-untaken
returns-in-Err-clause-untaken c = λ usage.
    not_true (takes (app_of c.args.command) (map string_bytes c.args.words.now))
    (λ taken. usage_not_memory c.kind.result (kind_of c.in-Err.error) c.of_kind.result c.of_kind.ensures c.kind.ensures usage (c.in-Err.ensures.passes taken))

pub returns-in-Err-clause-named : goal.returns-in-Err-clause-named
returns-in-Err-clause-named c = names_a_command c.kind.result (kind_of c.in-Err.error) c.of_kind.result c.of_kind.ensures c.kind.ensures
