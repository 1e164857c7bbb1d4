use Rattle.job_board.proofs.Reading.{something_more}
use Rattle.job_board.proofs.reader.read_within.Goals as goal

pub read_present-requires-clause-more : goal.read_present-requires-clause-more
read_present-requires-clause-more c = something_more c.args.text.now c.args.from c.in-Err._more.line c.in-Err._more.cause c.in-Err.ensures
