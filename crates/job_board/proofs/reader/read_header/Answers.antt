use Rattle.job_board.proofs.Reading.{header_found}
use Rattle.job_board.proofs.reader.read_header.Goals as goal

pub returns : goal.returns
returns c = header_found c.args.text.now c.args.from c.in_ok-_header.start c.in_ok-_header._header c.in_ok-_header.ensures
