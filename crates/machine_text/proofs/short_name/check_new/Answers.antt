use Rattle.std.proofs.Common.{sym, ap, refl, ◌∙◌}
use Rattle.std.specs.Prelude.{bytes_eq, is_some}
use Rattle.tile_io.proofs.PassedFields.{is_some-position}
use Rattle.machine_text.proofs.short_name.check_new.Goals as goal

pub returns-then-is_some : goal.returns-then-is_some
returns-then-is_some c =
    let taken = sym (is_some-position (bytes_eq c.args.name.now) c.args.names.now) ∙ ap is_some (sym c.find.ensures) ∙ sym c.is_some.ensures ∙ c.if-is_some.true in
    rw (sym c.if-not-is_short_name.ensures, taken) refl

pub returns : goal.returns
returns c =
    let free = sym (is_some-position (bytes_eq c.args.name.now) c.args.names.now) ∙ ap is_some (sym c.find.ensures) ∙ sym c.is_some.ensures ∙ c.if-is_some.false in
    rw (sym c.if-not-is_short_name.ensures, free) refl
