use Rattle.tile_io.specs.Lines.{first_mark}
use Rattle.std.proofs.Common.{ℕ, List, [], Err, subst}
use Rattle.std.proofs.lemmas.Result.{err_from_is_err_and}
use Rattle.tile_io.specs.declared.mark.Mark.{Mark}
use Rattle.tile_io.proofs.Beginnings.{begun_text, stops_begun}
use Rattle.tile_io.proofs.Inputs.{all_there}
use Rattle.tile_io.proofs.TakenOn.{takes_none}
use Rattle.atam.specs.TileSystem.{TileSystem}
use Rattle.tile_text.specs.SystemText.{ReadsAny}
use Rattle.tilebench.specs.Inner.Fronts.{IsFront, FailsAtFront}
use Rattle.tilebench.specs.Inner.Gives.{Gives}
use Rattle.tilebench.proofs.Fronts.{front_faulty, from_before, unread_behind, whole_input}
use Rattle.tilebench.proofs.input.front_of.Goals as goal

pub returns-in_err-begun-clause-read : goal.returns-in_err-begun-clause-read
returns-in_err-begun-clause-read g c =
    let p = err_from_is_err_and c.from_residual.result c.from_residual.ensures.1 in
    let left = g.S.Source.left in
    let source = c.args.source.now in
    rw (p.1, p.2) (unread_behind left g.S.Source.faults IsFront FailsAtFront (left source) source c.begin_text.new.source [] c.in_err-begun.field-0.0 (takes_none (left source) []) (stops_begun left g.S.Source.faults source c.begin_text.new.source [] c.in_err-begun.field-0.0 c.in_err-begun.ensures.read))

pub returns-in-Ok-clause-read : goal.returns-in-Ok-clause-read
returns-in-Ok-clause-read g c =
    let begun = begun_text g.S.Source.left g.S.Source.faults c.args.source.now c.begin_text.new.source c.in_ok-begun.begun.text.items c.in_ok-begun.begun.is_whole c.in_ok-begun.ensures.read in
    let Reads : List ℕ → Type 0 = λ text. ReadsAny text first_mark c.in-Ok.sys c.in-Ok.end in
    (record { taken = begun.taken; short = begun.short; whole = begun.whole; reads = subst Reads c.deref.ensures.value c.in-Ok.ensures.read }, begun.later)

pub returns-in-Err-clause-read : goal.returns-in-Err-clause-read
returns-in-Err-clause-read g c =
    let left = g.S.Source.left in
    let source = c.args.source.now in
    let after = c.begin_text.new.source in
    let text = c.in_ok-begun.begun.text.items in
    let begun = begun_text left g.S.Source.faults source after text c.in_ok-begun.begun.is_whole c.in_ok-begun.ensures.read in
    let Faulty : List ℕ → Type 0 = λ text. Gives {T = TileSystem × Mark} (λ found. ReadsAny text first_mark found.0 found.1) (FailsAtFront text) (Err c.in-Err.stop) in
    let whole = whole_input (left source) (left after) (left after) text text begun.taken (all_there (left after) text begun.short (begun.whole c.if-begun.true)) in
    front_faulty left g.S.Source.faults (left source) source after text c.in-Err.stop whole begun.later (subst Faulty c.deref.ensures.value c.in-Err.ensures.read)

pub returns-clause-read : goal.returns-clause-read
returns-clause-read g c =
    let left = g.S.Source.left in
    let begun = begun_text left g.S.Source.faults c.args.source.now c.begin_text.new.source c.in_ok-begun.begun.text.items c.in_ok-begun.begun.is_whole c.in_ok-begun.ensures.read in
    from_before left g.S.Source.faults IsFront FailsAtFront c.args.source.now c.begin_text.new.source c.front_of_whole.new.source c.front_of_whole.result begun.later (c.front_of_whole.ensures.read (left c.args.source.now) begun.taken)
