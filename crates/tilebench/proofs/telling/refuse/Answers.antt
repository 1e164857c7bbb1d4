use Rattle.std.proofs.Common.{◌∙◌, ap, sym, subst}
use Rattle.tilebench.specs.declared.status.Status.{Status}
use Rattle.tilebench.specs.declared.status.Status.TheVariants.{Words, Text}
use Rattle.tilebench.specs.declared.stop.Stop.{Stop}
use Rattle.tilebench.specs.Inner.Tells.{Refuses, written_status}
use Rattle.tilebench.proofs.Writing.{Writes-printed}
use Rattle.tilebench.proofs.telling.refuse.Goals as goal

pub returns-in-Words : goal.returns-in-Words
returns-in-Words g c =
    let Told : Stop → Type 0 = λ stop. Refuses g.E.Sink.written g.E.Sink.faults c.args.err.now c.print_words_stop.new.err stop c.written.result in
    let outcome = c.written.ensures ∙ ap (λ (told : Status). written_status c.print_words_stop.result told) c.status.ensures in
    subst Told (sym c.in-Words.is) (Writes-printed c.print_words_stop.result Words c.written.result outcome c.print_words_stop.ensures)

pub returns-in-Counter : goal.returns-in-Counter
returns-in-Counter g c =
    let Told : Stop → Type 0 = λ stop. Refuses g.E.Sink.written g.E.Sink.faults c.args.err.now c.print_counter_stop.new.err stop c.written-in-Counter.result in
    let outcome = c.written-in-Counter.ensures ∙ ap (λ (told : Status). written_status c.print_counter_stop.result told) c.status-in-Counter.ensures in
    subst Told (sym c.in-Counter.is) (Writes-printed c.print_counter_stop.result Words c.written-in-Counter.result outcome c.print_counter_stop.ensures)

pub returns-in-Text : goal.returns-in-Text
returns-in-Text g c =
    let Told : Stop → Type 0 = λ stop. Refuses g.E.Sink.written g.E.Sink.faults c.args.err.now c.print_fault.new.err stop c.written-in-Text.result in
    let outcome = c.written-in-Text.ensures ∙ ap (λ (told : Status). written_status c.print_fault.result told) c.status-in-Text.ensures in
    subst Told (sym c.in-Text.is) (Writes-printed c.print_fault.result Text c.written-in-Text.result outcome c.print_fault.ensures)
