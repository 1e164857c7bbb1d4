use Rattle.std.proofs.Common.{◌∙◌, ap}
use Rattle.serde_json.specs.Written.{compact_text, has_float}
use Rattle.report.proofs.ReportLines.{no_float, line_text}
use Rattle.report.proofs.report.report_text.Goals as goal

pub returns : goal.returns
returns c =
    let told = c.in_ok-value.ensures in
    c.in_ok-to_string.ensures.text (ap has_float told ∙ no_float c.args.sys.now c.args.tiles c.args.won.now c.args.clipped c.args.unique)
    ∙ ap compact_text told ∙ line_text c.args.sys.now c.args.tiles c.args.won.now c.args.clipped c.args.unique
