use Rattle.std.proofs.Common.{◌∙◌, ap, true}
use Rattle.clap.specs.Words.{App}
use Rattle.clap.specs.Simple.{app_of_fields, on_top}
use Rattle.command_line.proofs.commands.plain_command.Goals as goal

pub returns : goal.returns
returns c = ap app_of_fields c.disable_help_flag.ensures ∙ ap (λ (a : App). on_top (λ shape. record shape { disable_help_flag = true }) a) c.new.ensures.app
