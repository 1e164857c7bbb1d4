use Rattle.std.proofs.Common.{◌≡◌, ◌≤◌, ◌*◌, ◌∙◌, ap, sym, arith, true≢false}
use Rattle.assembly.specs.Cells.{cell_count}
use Rattle.replay_order.proofs.Rests.{none_lacks_more, least_from, empty_lacks}
use Rattle.replay_order.proofs.rest.least_left.Goals.{else-is_lacking-via-then-is_lacking+else-is_some, else-is_lacking-via-else-is_lacking}
use Rattle.replay_order.proofs.rest.least_left.Goals as goal

pub returns-then-is_some-clause-least : goal.returns-then-is_some-clause-least
returns-then-is_some-clause-least c =
    let cells : c.width.result * c.height.result ≡ cell_count c.args.area.now = λ k. c.width.ensures k * c.height.ensures k in
    least_from c.args.grid.now.tiles c.args.waiting.now c.args.area.now c.loop-index.index c.site_of_index-site.result c.requires.same c.site_of_index-site.ensures.site
    c.at.result c.at.ensures.tile (sym c.is_some.ensures ∙ c.if-is_some.true) (c.is_lacking.ensures.0 c.if-is_lacking.true) (omega (arith, cells, c.loop-index-test.true)) c.loop-index.invariant

pub loop-index-preserved : goal.loop-index-preserved
loop-index-preserved c =
    none_lacks_more c.args.grid.now.tiles c.args.waiting.now c.loop-index.index c.loop-index.invariant (
    elim c.else-is_lacking.branch [
      | else-is_lacking-via-then-is_lacking+else-is_some w ↦
          empty_lacks c.args.grid.now.tiles c.args.waiting.now c.args.area.now c.loop-index.index c.site_of_index-site.result c.requires.same c.site_of_index-site.ensures.site
          w.at.result w.at.ensures.tile (sym w.is_some.ensures ∙ w.if-is_some.false)
      | else-is_lacking-via-else-is_lacking w ↦ λ lacking. true≢false (sym (c.is_lacking.ensures.1 lacking.lacks) ∙ w.if-is_lacking.false)
    ])

pub returns-clause-none : goal.returns-clause-none
returns-clause-none c =
    let cells : c.width.result * c.height.result ≡ cell_count c.args.area.now = λ k. c.width.ensures k * c.height.ensures k in
    let same : cell_count c.args.area.now ≡ cell_count c.args.waiting.now.area = ap cell_count c.requires.same in
    let end : c.width.result * c.height.result ≤ c.loop-index.index = c.loop-index-test.false in
    λ k below. c.loop-index.invariant k (omega (arith, below, cells, same, end))
