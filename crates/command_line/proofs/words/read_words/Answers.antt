use Rattle.std.proofs.Common.{◌≡◌, ap, inr, rules, Err, map, string_bytes}
use Rattle.command_line.specs.declared.words_stop.WordsStop.TheVariants.{Usage}
use Rattle.command_line.proofs.CallLemmas.{call_read, range_read, taken_stops, usage_read}
use Rattle.command_line.proofs.words.read_words.Goals as goal

pub returns-in_err-found-clause-usage : goal.returns-in_err-found-clause-usage
returns-in_err-found-clause-usage c = λ usage.
    let is : c.in_err-found.field-0.0 ≡ Usage = search (rules, usage) in
    usage_read (map string_bytes c.args.words.now) c.args.name c.requires (c.in_err-found.ensures.refused (ap Err is)) (c.in_err-found.ensures.untaken (ap Err is))

pub returns-in_err-found-clause-taken : goal.returns-in_err-found-clause-taken
returns-in_err-found-clause-taken c = λ taken.
    let stops = taken_stops (map string_bytes c.args.words.now) c.args.name c.in_err-found.field-0.0 c.requires
    (λ same. c.in_err-found.ensures.named (ap Err same)) (λ same. c.in_err-found.ensures.untaken (ap Err same)) taken in
    inr (search (rules, stops))

pub returns-clause-called : goal.returns-clause-called
returns-clause-called c = call_read (map string_bytes c.args.words.now) c.in_ok-found.found c.command_found.result c.args.name c.command_found.ensures.name c.requires
    c.in_ok-found.ensures.accepted c.in_ok-found.ensures.exact c.command_found.ensures.values

pub returns-clause-range : goal.returns-clause-range
returns-clause-range c = range_read c.command_found.result c.args.name c.command_found.ensures.name c.command_found.ensures.range
