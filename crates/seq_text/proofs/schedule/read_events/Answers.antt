use Rattle.tile_io.proofs.ReadItems.{reads_few}
use Rattle.seq_text.specs.ScheduleText.{schedule_format}
use Rattle.seq_text.proofs.schedule.read_events.Goals as goal

pub returns-clause-count : goal.returns-clause-count
returns-clause-count c =
    let read = c.in_ok-read_text.ensures.read in
    rw read.held (reads_few (schedule_format c.args.sys.now) c.args.text.now c.args.from c.in_ok-read_text.field-0 read.items read.reads)
