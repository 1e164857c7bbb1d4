use Rattle.std.proofs.Common.{◌≡◌, ◌<◌, length, Some, ap, sym, ◌∙◌, arith}
use Rattle.std.specs.Prelude.{option_map, slice_get}
use Rattle.std.proofs.lemmas.Option.{get_or_from_slice_get, slice_get-map}
use Rattle.atam.specs.declared.place.Place.{Place}
use Rattle.atam.specs.TileSystem.{IsType}
use Rattle.atam.proofs.Lists.{All-slice_get}
use Rattle.cert_check.specs.declared.entry.Entry.{Entry}
use Rattle.cert_check.specs.Certificates.{places_of}
use Rattle.std.proofs.lemmas.Result.{err_from_is_err_and}
use Rattle.tile_io.proofs.Printing.{PassesOn-next, PassesOn-halted, PassesOn-text}
use Rattle.cert_text.specs.CertificateLines.{mark_line}
use Rattle.cert_text.proofs.printing.put_marks.Goals as goal

pub returns-in_err-put_mark : goal.returns-in_err-put_mark
returns-in_err-put_mark g c =
    let line = mark_line c.args.sys.now in
    let entries = g.C.EntryList.entries c.args.cert.now in
    let p = err_from_is_err_and c.from_residual.result c.from_residual.ensures.1 in
    let within : c.loop-index.index < length entries = omega (arith, c.loop-index-test.true, c.len-index-end.ensures) in
    let there = ap line (sym (get_or_from_slice_get entries c.loop-index.index c.get.result c.get.result c.get.ensures)) in
    rw p.1 (PassesOn-halted line entries c.loop-index.index c.get.result within c.loop-index.invariant.passes (PassesOn-text there c.in_err-put_mark.ensures))

pub loop-index-preserved : goal.loop-index-preserved
loop-index-preserved g c =
    let line = mark_line c.args.sys.now in
    let entries = g.C.EntryList.entries c.args.cert.now in
    let within : c.loop-index.index < length entries = omega (arith, c.loop-index-test.true, c.len-index-end.ensures) in
    let there = ap line (sym (get_or_from_slice_get entries c.loop-index.index c.get.result c.get.result c.get.ensures)) in
    record {
      passes = PassesOn-next line entries c.loop-index.index c.get.result within c.loop-index.invariant.passes (PassesOn-text there c.in_ok-put_mark.ensures);
    }

pub put_mark-requires-clause-known : goal.put_mark-requires-clause-known
put_mark-requires-clause-known g c =
    let entries = g.C.EntryList.entries c.args.cert.now in
    let k = c.loop-index.index in
    let there : slice_get (places_of entries) k ≡ Some c.get.result.place =
    slice_get-map (λ (e : Entry). e.place) entries k ∙ ap (option_map (λ (e : Entry). e.place)) c.get.ensures in
    All-slice_get (λ (p : Place). IsType c.args.sys.now p.tile) (places_of entries) k c.get.result.place c.requires there

pub put_mark-requires-clause-sides : goal.put_mark-requires-clause-sides
put_mark-requires-clause-sides g c =
    All-slice_get (λ (e : Entry). e.sides < 16) (g.C.EntryList.entries c.args.cert.now) c.loop-index.index c.get.result c.recall_entries.ensures.sides c.get.ensures
