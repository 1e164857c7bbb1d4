use Rattle.std.proofs.Common.{sym, ◌∙◌}
use Rattle.tilebench.proofs.Endings.{run_ends}
use Rattle.tilebench.proofs.run.run_in_blocks.Goals as goal

pub returns : goal.returns
returns g c =
    let room = c.args.room.now in
    let reads = g.met.C.SourceRoom.reads_source room in
    run_ends g.S.Source.left g.S.Source.faults g.K.Sink.written g.K.Sink.faults g.E.Sink.written g.E.Sink.faults
    g.C.Answer.Reply.yes g.C.Answer.Reply.text g.C.Answer.Reply.printable c.args.out.now c.tell.new.out c.args.err.now c.tell.new.err c.answer_from.result c.tell.result c.tell.ensures
    (g.C.Room.room_row room) c.args.source.now c.answer_from.new.source (g.met.C.Room.one_of_two room)
    c.answer_from.ensures.answer (λ no. absurd (cc (sym reads ∙ no))) (λ no. absurd (cc (sym reads ∙ no))) c.answer_from.ensures.later
