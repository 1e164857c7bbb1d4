use Rattle.std.proofs.Common.{◌++◌, Contains, flat_map, subst, ◌∙◌}
use Rattle.std.proofs.lemmas.Result.{err_from_is_err_and}
use Rattle.tile_io.specs.Lines.{line_of}
use Rattle.tile_io.proofs.Printing.{PassesOn-then, PassesOn-fails, PassesOn-stopped, PassesOn-text}
use Rattle.tile_text.specs.Inner.Words.{box_words}
use Rattle.tile_text.proofs.PrintLemmas.{end_line}
use Rattle.tile_table.specs.Inner.TableLines.{seed_words}
use Rattle.tile_table.proofs.TableSpelled.{label_text, kind_text, spelled_table}
use Rattle.tile_table.proofs.print.put_table.Goals as goal

pub returns-in_err-put_head : goal.returns-in_err-put_head
returns-in_err-put_head g c =
    let set = g.T.Table.tiles c.args.table.now in
    let seed = c.args.seed in
    let listed = subst (λ kinds. Contains kinds seed) c.requires.kinds c.requires.seed in
    let all = spelled_table set c.requires.numbered seed c.args.area c.args.lists.now.labels.now c.args.lists.now.kinds.now c.requires.labels c.requires.kinds listed in
    let p = err_from_is_err_and c.from_residual.result c.from_residual.ensures.1 in
    rw p.1 (PassesOn-text all (PassesOn-stopped (flat_map (label_text set) c.args.lists.now.labels.now ++ (flat_map (kind_text set) c.args.lists.now.kinds.now ++ (line_of (box_words c.args.area) ++ (line_of (seed_words set seed) ++ (end_line))))) c.in_err-put_head.ensures))

pub returns-in_err-put_labels : goal.returns-in_err-put_labels
returns-in_err-put_labels g c =
    let set = g.T.Table.tiles c.args.table.now in
    let seed = c.args.seed in
    let listed = subst (λ kinds. Contains kinds seed) c.requires.kinds c.requires.seed in
    let all = spelled_table set c.requires.numbered seed c.args.area c.args.lists.now.labels.now c.args.lists.now.kinds.now c.requires.labels c.requires.kinds listed in
    let p = err_from_is_err_and c.from_residual-in_err-put_labels.result c.from_residual-in_err-put_labels.ensures.1 in
    rw p.1 (PassesOn-text all (PassesOn-fails c.in_ok-put_head.ensures (PassesOn-stopped (flat_map (kind_text set) c.args.lists.now.kinds.now ++ (line_of (box_words c.args.area) ++ (line_of (seed_words set seed) ++ (end_line)))) c.in_err-put_labels.ensures)))

pub returns-in_err-put_kinds : goal.returns-in_err-put_kinds
returns-in_err-put_kinds g c =
    let set = g.T.Table.tiles c.args.table.now in
    let seed = c.args.seed in
    let listed = subst (λ kinds. Contains kinds seed) c.requires.kinds c.requires.seed in
    let all = spelled_table set c.requires.numbered seed c.args.area c.args.lists.now.labels.now c.args.lists.now.kinds.now c.requires.labels c.requires.kinds listed in
    let p = err_from_is_err_and c.from_residual-in_err-put_kinds.result c.from_residual-in_err-put_kinds.ensures.1 in
    rw p.1 (PassesOn-text all (PassesOn-fails c.in_ok-put_head.ensures (PassesOn-fails c.in_ok-put_labels.ensures (PassesOn-stopped (line_of (box_words c.args.area) ++ (line_of (seed_words set seed) ++ (end_line))) c.in_err-put_kinds.ensures))))

pub returns-in_err-put_box : goal.returns-in_err-put_box
returns-in_err-put_box g c =
    let set = g.T.Table.tiles c.args.table.now in
    let seed = c.args.seed in
    let listed = subst (λ kinds. Contains kinds seed) c.requires.kinds c.requires.seed in
    let all = spelled_table set c.requires.numbered seed c.args.area c.args.lists.now.labels.now c.args.lists.now.kinds.now c.requires.labels c.requires.kinds listed in
    let p = err_from_is_err_and c.from_residual-in_err-put_box.result c.from_residual-in_err-put_box.ensures.1 in
    rw p.1 (PassesOn-text all (PassesOn-fails c.in_ok-put_head.ensures (PassesOn-fails c.in_ok-put_labels.ensures (PassesOn-fails c.in_ok-put_kinds.ensures (PassesOn-stopped (line_of (seed_words set seed) ++ (end_line)) c.in_err-put_box.ensures)))))

pub returns-in_err-put : goal.returns-in_err-put
returns-in_err-put g c =
    let set = g.T.Table.tiles c.args.table.now in
    let seed = c.args.seed in
    let listed = subst (λ kinds. Contains kinds seed) c.requires.kinds c.requires.seed in
    let all = spelled_table set c.requires.numbered seed c.args.area c.args.lists.now.labels.now c.args.lists.now.kinds.now c.requires.labels c.requires.kinds listed in
    let line = c.as_slice.ensures ∙ c.set_seed_line.ensures in
    let p = err_from_is_err_and c.from_residual-in_err-put.result c.from_residual-in_err-put.ensures.1 in
    rw p.1 (PassesOn-text all (PassesOn-fails c.in_ok-put_head.ensures (PassesOn-fails c.in_ok-put_labels.ensures (PassesOn-fails c.in_ok-put_kinds.ensures (PassesOn-fails c.in_ok-put_box.ensures (PassesOn-stopped end_line (PassesOn-text line c.in_err-put.ensures)))))))

pub returns : goal.returns
returns g c =
    let set = g.T.Table.tiles c.args.table.now in
    let seed = c.args.seed in
    let listed = subst (λ kinds. Contains kinds seed) c.requires.kinds c.requires.seed in
    let all = spelled_table set c.requires.numbered seed c.args.area c.args.lists.now.labels.now c.args.lists.now.kinds.now c.requires.labels c.requires.kinds listed in
    let line = c.as_slice.ensures ∙ c.set_seed_line.ensures in
    PassesOn-text all (PassesOn-then c.put_line.result c.in_ok-put_head.ensures (PassesOn-then c.put_line.result c.in_ok-put_labels.ensures (PassesOn-then c.put_line.result c.in_ok-put_kinds.ensures (PassesOn-then c.put_line.result c.in_ok-put_box.ensures (PassesOn-then c.put_line.result (PassesOn-text line c.in_ok-put.ensures) c.put_line.ensures)))))
