use Rattle.seq_text.proofs.closed.put_closed.Goals as goal

pub returns-in-None : goal.returns-in-None
returns-in-None g c = rw c.in-None.is c.put_line.ensures
