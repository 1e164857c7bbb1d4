use Rattle.std.proofs.Common.{◌≡◌, ap, refl, subst, inr, Err, map, string_bytes, arith}
use Rattle.command_line.specs.declared.words_stop.WordsStop.TheVariants.{NoCommand}
use Rattle.tilebench.specs.declared.stop.Stop.{Stop}
use Rattle.tilebench.specs.Inner.Stops.{stop_of_words}
use Rattle.tilebench.specs.Inner.Tells.{Refuses}
use Rattle.tilebench.proofs.Tops.{call_ended, call_batched, call_grown, call_watched, call_named, call_complete, call_unread, call_read_fault, call_no_memory, same_stop, stop_ended, stop_no_read_fault, stop_no_answer, stop_unnamed, stop_later, stop_complete}
use Rattle.tilebench.proofs.top.tilebench.Goals as goal

pub returns-in-Ok-clause-ends : goal.returns-in-Ok-clause-ends
returns-in-Ok-clause-ends g c = call_ended _ _ _ _ _ _ _ _ _ _ _ _ _ c.in-Ok.command c.in-Ok.ensures.called c.run_command.result c.run_command.ensures

pub returns-in-Ok-clause-growth : goal.returns-in-Ok-clause-growth
returns-in-Ok-clause-growth g c = call_grown _ _ _ _ _ _ _ _ _ _ _ _ _ c.in-Ok.command c.in-Ok.ensures.called c.run_command.result c.run_command.ensures

pub returns-in-Ok-clause-watched : goal.returns-in-Ok-clause-watched
returns-in-Ok-clause-watched g c = call_watched _ _ _ _ _ _ _ _ _ _ _ _ _ c.in-Ok.command c.in-Ok.ensures.called c.run_command.result c.run_command.ensures

pub returns-in-Ok-clause-batched : goal.returns-in-Ok-clause-batched
returns-in-Ok-clause-batched g c = call_batched _ _ _ _ _ _ _ _ _ _ _ _ _ c.in-Ok.command c.in-Ok.ensures.called c.run_command.result c.run_command.ensures

pub returns-in-Ok-clause-unread : goal.returns-in-Ok-clause-unread
returns-in-Ok-clause-unread g c = call_unread _ _ _ _ _ _ _ _ _ _ _ _ _ c.in-Ok.command c.in-Ok.ensures.called c.run_command.result c.run_command.ensures

pub returns-in-Ok-clause-read_fault : goal.returns-in-Ok-clause-read_fault
returns-in-Ok-clause-read_fault g c = call_read_fault _ _ _ _ _ _ _ _ _ _ _ _ _ c.in-Ok.command c.in-Ok.ensures.called c.run_command.result c.run_command.ensures

pub returns-in-Ok-clause-no_memory : goal.returns-in-Ok-clause-no_memory
returns-in-Ok-clause-no_memory g c = λ _. call_no_memory _ _ _ _ _ _ _ _ _ _ _ _ _ c.in-Ok.command c.in-Ok.ensures.called c.run_command.result c.run_command.ensures

pub returns-in-Ok-clause-no_command : goal.returns-in-Ok-clause-no_command
returns-in-Ok-clause-no_command g c = λ unnamed. absurd (call_named _ _ _ _ _ _ _ _ _ _ _ _ _ c.in-Ok.command c.in-Ok.ensures.called c.run_command.result c.run_command.ensures unnamed)

pub returns-in-Ok-clause-faults : goal.returns-in-Ok-clause-faults
returns-in-Ok-clause-faults g c =
    let run = c.run_command.ensures in
    (run.source_later, run.out_later, run.err_later)

pub returns-in-Ok-clause-complete : goal.returns-in-Ok-clause-complete
returns-in-Ok-clause-complete g c = call_complete _ _ _ _ _ _ _ _ _ _ _ _ _ c.in-Ok.command c.in-Ok.ensures.called c.run_command.result c.run_command.ensures

pub returns-in-Err-clause-ends : goal.returns-in-Err-clause-ends
returns-in-Err-clause-ends g c =
    let stop = c.in-Err.stop in
    let status = c.refuse.result in
    let Told : Stop → Type 0 = λ told. Refuses g.E.Sink.written g.E.Sink.faults c.args.err.now c.refuse.new.err told status in
    let refuses : Refuses g.E.Sink.written g.E.Sink.faults c.args.err.now c.refuse.new.err (stop_of_words stop) status = subst Told c.from.ensures c.refuse.ensures in
    stop_ended g.S.Source.left g.S.Source.faults g.K.Sink.written g.K.Sink.faults g.E.Sink.written g.E.Sink.faults (map string_bytes c.args.words.now)
    c.args.source.now c.args.source.now c.args.out.now c.args.out.now c.args.err.now c.refuse.new.err
    stop (λ is. c.in-Err.ensures.no_command.0 (ap Err is)) (λ is. c.in-Err.ensures.usage (ap Err is)) status refuses refl

pub returns-in-Err-clause-growth : goal.returns-in-Err-clause-growth
returns-in-Err-clause-growth g c = λ crew is_yes _ is.
    let stop = c.in-Err.stop in
    let status = c.refuse.result in
    let Told : Stop → Type 0 = λ told. Refuses g.E.Sink.written g.E.Sink.faults c.args.err.now c.refuse.new.err told status in
    let refuses : Refuses g.E.Sink.written g.E.Sink.faults c.args.err.now c.refuse.new.err (stop_of_words stop) status = subst Told c.from.ensures c.refuse.ensures in
    absurd (stop_no_answer g.E.Sink.written g.E.Sink.faults (map string_bytes c.args.words.now) c.args.err.now c.refuse.new.err stop status is_yes refuses is)

pub returns-in-Err-clause-watched : goal.returns-in-Err-clause-watched
returns-in-Err-clause-watched g c = λ crew frames is_yes _ is.
    let stop = c.in-Err.stop in
    let status = c.refuse.result in
    let Told : Stop → Type 0 = λ told. Refuses g.E.Sink.written g.E.Sink.faults c.args.err.now c.refuse.new.err told status in
    let refuses : Refuses g.E.Sink.written g.E.Sink.faults c.args.err.now c.refuse.new.err (stop_of_words stop) status = subst Told c.from.ensures c.refuse.ensures in
    absurd (stop_no_answer g.E.Sink.written g.E.Sink.faults (map string_bytes c.args.words.now) c.args.err.now c.refuse.new.err stop status is_yes refuses is)

pub returns-in-Err-clause-batched : goal.returns-in-Err-clause-batched
returns-in-Err-clause-batched g c = λ workers is_yes _ is.
    let stop = c.in-Err.stop in
    let status = c.refuse.result in
    let Told : Stop → Type 0 = λ told. Refuses g.E.Sink.written g.E.Sink.faults c.args.err.now c.refuse.new.err told status in
    let refuses : Refuses g.E.Sink.written g.E.Sink.faults c.args.err.now c.refuse.new.err (stop_of_words stop) status = subst Told c.from.ensures c.refuse.ensures in
    absurd (stop_no_answer g.E.Sink.written g.E.Sink.faults (map string_bytes c.args.words.now) c.args.err.now c.refuse.new.err stop status is_yes refuses is)

pub returns-in-Err-clause-read_fault : goal.returns-in-Err-clause-read_fault
returns-in-Err-clause-read_fault g c = λ is.
    let stop = c.in-Err.stop in
    let status = c.refuse.result in
    let Told : Stop → Type 0 = λ told. Refuses g.E.Sink.written g.E.Sink.faults c.args.err.now c.refuse.new.err told status in
    let refuses : Refuses g.E.Sink.written g.E.Sink.faults c.args.err.now c.refuse.new.err (stop_of_words stop) status = subst Told c.from.ensures c.refuse.ensures in
    absurd (stop_no_read_fault g.E.Sink.written g.E.Sink.faults (map string_bytes c.args.words.now) c.args.err.now c.refuse.new.err stop status refuses is)

pub returns-in-Err-clause-no_command : goal.returns-in-Err-clause-no_command
returns-in-Err-clause-no_command g c = λ unnamed.
    let stop = c.in-Err.stop in
    let status = c.refuse.result in
    let Told : Stop → Type 0 = λ told. Refuses g.E.Sink.written g.E.Sink.faults c.args.err.now c.refuse.new.err told status in
    let refuses : Refuses g.E.Sink.written g.E.Sink.faults c.args.err.now c.refuse.new.err (stop_of_words stop) status = subst Told c.from.ensures c.refuse.ensures in
    let is : stop ≡ NoCommand = same_stop stop NoCommand (c.in-Err.ensures.no_command.1 unnamed) in
    stop_unnamed g.E.Sink.written g.E.Sink.faults (map string_bytes c.args.words.now) c.args.err.now c.refuse.new.err stop status refuses is

pub returns-in-Err-clause-faults : goal.returns-in-Err-clause-faults
returns-in-Err-clause-faults g c =
    let stop = c.in-Err.stop in
    let status = c.refuse.result in
    let Told : Stop → Type 0 = λ told. Refuses g.E.Sink.written g.E.Sink.faults c.args.err.now c.refuse.new.err told status in
    let refuses : Refuses g.E.Sink.written g.E.Sink.faults c.args.err.now c.refuse.new.err (stop_of_words stop) status = subst Told c.from.ensures c.refuse.ensures in
    let later = stop_later g.E.Sink.written g.E.Sink.faults (map string_bytes c.args.words.now) c.args.err.now c.refuse.new.err stop status refuses in
    (omega arith, omega arith, later)

pub returns-in-Err-clause-complete : goal.returns-in-Err-clause-complete
returns-in-Err-clause-complete g c = λ due _ _ _.
    let stop = c.in-Err.stop in
    let status = c.refuse.result in
    let Told : Stop → Type 0 = λ told. Refuses g.E.Sink.written g.E.Sink.faults c.args.err.now c.refuse.new.err told status in
    let refuses : Refuses g.E.Sink.written g.E.Sink.faults c.args.err.now c.refuse.new.err (stop_of_words stop) status = subst Told c.from.ensures c.refuse.ensures in
    inr (stop_complete g.E.Sink.written g.E.Sink.faults (map string_bytes c.args.words.now) c.args.err.now c.refuse.new.err stop status
    (λ is. c.in-Err.ensures.no_command.0 (ap Err is)) (λ is. c.in-Err.ensures.usage (ap Err is)) refuses due.taken)
