use Rattle.std.proofs.Common.{◌++◌, ◌∙◌, arith, ap, sym, subst}
use Rattle.atam.specs.Placements.{SamePlacements, rest_of}
use Rattle.atam.specs.Growth.{IsLegal}
use Rattle.atam.proofs.Sequences.{IsLegal-distinct}
use Rattle.atam.proofs.Confluence.{confluence_part}
use Rattle.atam.proofs.Extension.{extension_legal, extension_same}
use Rattle.atam.proofs.Opening.{Fits-part}
use Rattle.replay_order.specs.Legalities.{legal_part}
use Rattle.atam.proofs.Tiles.{SameTiles-from}
use Rattle.unique_law.proofs.Rests.{rest_of-same, few}
use Rattle.unique_law.proofs.extension.law_extends.Goals as goal

pub check_legal-requires-clause-fits : goal.check_legal-requires-clause-fits
check_legal-requires-clause-fits c =
    let sys = c.args.sys.now in
    let distinct = c.area.ensures.valid.distinct_seeds in
    Fits-part sys c.args.b.now c.args.a.now (confluence_part sys c.args.a.now c.args.b.now distinct c.requires.deterministic c.requires.legal) c.requires.fits

pub check_legal-requires-clause-short : goal.check_legal-requires-clause-short
check_legal-requires-clause-short c =
    let sys = c.args.sys.now in
    let distinct = c.area.ensures.valid.distinct_seeds in
    let part = confluence_part sys c.args.a.now c.args.b.now distinct c.requires.deterministic c.requires.legal in
    let count = few sys c.args.b.now c.area.ensures.valid.box (IsLegal-distinct sys c.args.b.now distinct c.requires.legal) (Fits-part sys c.args.b.now c.args.a.now part c.requires.fits) in
    omega (arith, count)

pub returns-clause-order : goal.returns-clause-order
returns-clause-order c =
    let b = c.args.b.now in
    let tiles = c.check_legal.new.scratch.tiles in
    let legal = c.check_legal.ensures.legal.1 c.requires.legal in
    let placed : SamePlacements b tiles = subst (λ r. SamePlacements (legal_part b r) tiles) legal c.check_legal.ensures.placements in
    let same = SameTiles-from b tiles (IsLegal-distinct c.args.sys.now b c.area.ensures.valid.distinct_seeds c.requires.legal) placed in
    c.in_ok-push_rest.ensures
    ∙ ap (λ s. s ++ rest_of tiles c.args.a.now) c.in_ok-whole.ensures
    ∙ ap (λ s. b ++ s) (sym (rest_of-same b tiles c.args.a.now same))

pub returns-clause-legal : goal.returns-clause-legal
returns-clause-legal c =
    let sys = c.args.sys.now in
    let a = c.args.a.now in
    let b = c.args.b.now in
    let distinct = c.area.ensures.valid.distinct_seeds in
    let part = confluence_part sys a b distinct c.requires.deterministic c.requires.legal in
    subst (IsLegal sys) (sym (returns-clause-order c)) (extension_legal sys a b distinct c.requires.deterministic.legal c.requires.legal part)

pub returns-clause-same : goal.returns-clause-same
returns-clause-same c =
    let sys = c.args.sys.now in
    let a = c.args.a.now in
    let b = c.args.b.now in
    let distinct = c.area.ensures.valid.distinct_seeds in
    let part = confluence_part sys a b distinct c.requires.deterministic c.requires.legal in
    subst (λ s. SamePlacements s a) (sym (returns-clause-order c)) (extension_same sys a b distinct c.requires.deterministic.legal c.requires.legal part)
