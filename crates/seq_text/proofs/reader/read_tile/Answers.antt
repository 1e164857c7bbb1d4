use Rattle.std.proofs.Common.{◌≡◌, true, Ok, Err, Result, sym, ap, ◌∙◌, rules}
use Rattle.tile_io.specs.declared.fault.Cause.{Cause}
use Rattle.tile_io.specs.Checks.{◌>>=◌}
use Rattle.atam.specs.declared.site.Site.{Site}
use Rattle.atam.specs.declared.place.Place.{Place}
use Rattle.atam.specs.declared.place.TypeId.{TypeId}
use Rattle.atam.specs.TileSystem.{is_name}
use Rattle.tile_text.specs.Fields.{place_field}
use Rattle.seq_text.specs.GrowthText.{names_of}
use Rattle.seq_text.proofs.Fields.{type_found, place_of_found}
use Rattle.seq_text.proofs.Printed.{named_type}
use Rattle.seq_text.proofs.reader.read_tile.Goals as goal

-- a site, and then the tile there
abbrev at_site : TypeId → Result Site Cause → Result Place Cause
at_site tile read = read >>= λ m. Ok (record { site = m; tile = tile })

pub returns-in_err-site-in-Some-clause-place : goal.returns-in_err-site-in-Some-clause-place
returns-in_err-site-in-Some-clause-place c =
    let sys = c.args.sys.now in
    let tile = c.in-Some.tile in
    let named : is_name c.args.name.now ≡ true = named_type sys c.recall_valid.ensures.valid tile c.in-Some.ensures.in_range c.args.name.now c.in-Some.ensures.named in
    let whole = place_of_found sys c.args.column.now c.args.row.now c.args.name.now tile named (sym c.in-Some.ensures.index) in
    let bad : Err c.in_err-site-in-Some.field-0.0 ≡ place_field (names_of sys) c.args.column.now c.args.row.now c.args.name.now = ap (at_site tile) c.in_err-site-in-Some.ensures ∙ sym whole in
    search (rules, bad)

pub returns-in_ok-site-in-Some-clause-place : goal.returns-in_ok-site-in-Some-clause-place
returns-in_ok-site-in-Some-clause-place c =
    let sys = c.args.sys.now in
    let tile = c.in-Some.tile in
    let named : is_name c.args.name.now ≡ true = named_type sys c.recall_valid.ensures.valid tile c.in-Some.ensures.in_range c.args.name.now c.in-Some.ensures.named in
    let whole = place_of_found sys c.args.column.now c.args.row.now c.args.name.now tile named (sym c.in-Some.ensures.index) in
    ap (at_site tile) c.in_ok-site-in-Some.ensures ∙ sym whole

pub returns-in-None-clause-place : goal.returns-in-None-clause-place
returns-in-None-clause-place c =
    let sys = c.args.sys.now in
    c.read_place.ensures.place (names_of sys) (c.in-None.ensures.index ∙ type_found sys c.args.name.now)
