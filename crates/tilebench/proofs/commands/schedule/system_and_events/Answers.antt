use Rattle.std.proofs.Common.{Global, Vec}
use Rattle.std.proofs.lemmas.Result.{err_from_is_err_and}
use Rattle.atam.specs.TileSystem.{TileSystem}
use Rattle.atam.specs.declared.event.Event.{Event}
use Rattle.seq_text.specs.ScheduleText.{schedule_format, ReadsEvents}
use Rattle.tilebench.specs.Inputs.{IsSystemThen}
use Rattle.tilebench.proofs.Orders.{stops_within}
use Rattle.tilebench.proofs.commands.schedule.system_and_events.Goals as goal

pub returns-in_err-events : goal.returns-in_err-events
returns-in_err-events c =
    let sys = c.in_ok-sys.sys in
    let p = err_from_is_err_and c.from_residual-in_err-events.result c.from_residual-in_err-events.ensures.1 in
    let stops =
    stops_within {Answer = Vec Event Global} {T = TileSystem × Vec Event Global} schedule_format c.args.input.now sys c.in_ok-sys.end c.in_ok-sys.ensures.read (λ events. ReadsEvents sys c.args.input.now c.in_ok-sys.end events.items)
    c.in_err-events.field-0.0 c.in_err-events.ensures.read (λ found. IsSystemThen ReadsEvents c.args.input.now found.0 found.1.items)
    in
    rw (p.1, p.2) stops
