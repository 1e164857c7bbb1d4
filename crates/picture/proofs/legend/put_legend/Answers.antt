use Rattle.std.proofs.Common.{◌∙◌, refl, sym, arith}
use Rattle.std.specs.List.{range_with_len}
use Rattle.std.proofs.lemmas.Result.{err_from_is_err_and}
use Rattle.std.proofs.lemmas.List.FromFn.{length-range_with_len}
use Rattle.tile_io.proofs.Printing.{PassesOn-next, PassesOn-halted, PassesOn-text}
use Rattle.picture.specs.Pictures.{is_standing}
use Rattle.picture.specs.Inner.Entries.{entry}
use Rattle.picture.proofs.Legends.{entries_all, entry_is, standing_type}
use Rattle.picture.proofs.legend.put_legend.Goals as goal

pub put_entry-requires : goal.put_entry-requires
put_entry-requires g c = λ marked.
    standing_type c.args.sys.now c.args.grid.now.tiles c.loop-index.index c.requires (sym (c.standing_types-standing.ensures c.loop-index.index c.loop-index-test.true) ∙ marked)

pub returns-in_err-put_entry : goal.returns-in_err-put_entry
returns-in_err-put_entry g c =
    let sys = c.args.sys.now in
    let tiles = c.args.grid.now.tiles in
    let less = c.loop-index-test.true in
    let long = length-range_with_len 0 62 in
    let p = err_from_is_err_and c.from_residual.result c.from_residual.ensures.1 in
    rw p.1 (PassesOn-text (entries_all sys tiles 62 refl)
    (PassesOn-halted (λ t. entry sys (is_standing tiles t) (record { 0 = t })) (range_with_len 0 62) c.loop-index.index 0 (omega (arith, long, less)) c.loop-index.invariant
    (PassesOn-text (entry_is sys tiles c.loop-index.index _ less (c.standing_types-standing.ensures c.loop-index.index less)) c.in_err-put_entry.ensures)))

pub loop-index-preserved : goal.loop-index-preserved
loop-index-preserved g c =
    let sys = c.args.sys.now in
    let tiles = c.args.grid.now.tiles in
    let less = c.loop-index-test.true in
    let long = length-range_with_len 0 62 in
    PassesOn-next (λ t. entry sys (is_standing tiles t) (record { 0 = t })) (range_with_len 0 62) c.loop-index.index 0 (omega (arith, long, less)) c.loop-index.invariant
    (PassesOn-text (entry_is sys tiles c.loop-index.index _ less (c.standing_types-standing.ensures c.loop-index.index less)) c.in_ok-put_entry.ensures)

pub returns : goal.returns
returns g c =
    let to_end = c.loop-index-test.false in
    let within = c.loop-index.auto.index-end in
    PassesOn-text (entries_all c.args.sys.now c.args.grid.now.tiles c.loop-index.index (omega (arith, to_end, within))) c.loop-index.invariant
