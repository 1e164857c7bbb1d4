use Rattle.std.proofs.Common.{◌≡◌, [], subst, sym}
use Rattle.job_board.specs.declared.position.Position.{Position}
use Rattle.job_board.specs.BatchLines.{row_at}
use Rattle.job_board.proofs.batch_line.fields.Goals as goal

pub returns-in-Behind : goal.returns-in-Behind
returns-in-Behind c = subst (λ (p : Position). c.choice.result ≡ (row_at p).fields [] c.args.words.now) (sym c.in-Behind.is) (c.choice.ensures c.in-Behind.field-0)
