use Rattle.command_line.proofs.CallLemmas.{call_not_usage, call_once, same_arguments, same_command}
use Rattle.command_line.proofs.laws.law_one_reading.Goals as goal

pub returns : goal.returns
returns c = record { one = call_once; not_both = call_not_usage; arguments = same_arguments; numbers = same_command }
