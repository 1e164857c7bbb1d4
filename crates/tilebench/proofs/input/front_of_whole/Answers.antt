use Rattle.tile_io.specs.Lines.{first_mark}
use Rattle.std.proofs.Common.{ℕ, List, Err, subst}
use Rattle.std.proofs.lemmas.Result.{err_from_is_err_and}
use Rattle.tile_io.specs.declared.mark.Mark.{Mark}
use Rattle.atam.specs.TileSystem.{TileSystem}
use Rattle.tile_text.specs.SystemText.{ReadsAny}
use Rattle.tilebench.specs.Inner.Fronts.{IsFront, FailsAtFront}
use Rattle.tilebench.specs.Inner.Gives.{Gives}
use Rattle.tilebench.proofs.Fronts.{front_faulty, taken_behind, unread_behind, whole_input}
use Rattle.tilebench.proofs.input.front_of_whole.Goals as goal

pub returns-in_err-text-clause-read : goal.returns-in_err-text-clause-read
returns-in_err-text-clause-read g c = λ before taken.
    let p = err_from_is_err_and c.from_residual.result c.from_residual.ensures.1 in
    rw (p.1, p.2) (unread_behind g.S.Source.left g.S.Source.faults IsFront FailsAtFront before c.args.source.now c.read_rest.new.source c.args.begun.text.items c.in_err-text.field-0.0 taken c.in_err-text.ensures.read)

pub returns-in_err-sys-clause-read : goal.returns-in_err-sys-clause-read
returns-in_err-sys-clause-read g c = λ before taken.
    let p = err_from_is_err_and c.from_residual-in_err-sys.result c.from_residual-in_err-sys.ensures.1 in
    let left = g.S.Source.left in
    let source = c.args.source.now in
    let after = c.read_rest.new.source in
    let all = c.in_ok-text.ensures.read in
    let text = c.in_ok-text.text.items in
    let stop = c.in_err-sys.field-0.0 in
    let Faulty : List ℕ → Type 0 = λ text. Gives {T = TileSystem × Mark} (λ found. ReadsAny text first_mark found.0 found.1) (FailsAtFront text) (Err stop) in
    rw (p.1, p.2) (front_faulty left g.S.Source.faults before source after text stop (whole_input before (left source) (left after) c.args.begun.text.items text taken all.0) all.1 (subst Faulty c.deref.ensures.value c.in_err-sys.ensures.read))

pub returns-clause-read : goal.returns-clause-read
returns-clause-read g c = λ before taken.
    let left = g.S.Source.left in
    let source = c.args.source.now in
    let after = c.read_rest.new.source in
    let all = c.in_ok-text.ensures.read in
    let text = c.in_ok-text.text.items in
    let Reads : List ℕ → Type 0 = λ text. ReadsAny text first_mark c.in_ok-sys.sys c.in_ok-sys.end in (
      record {
        taken = taken_behind before (left source) (left after) c.args.begun.text.items text taken all.0.taken;
        short = all.0.short;
        whole = λ _. all.0.at_end;
        reads = subst Reads c.deref.ensures.value c.in_ok-sys.ensures.read;
      },
      all.1,
    )
