use Rattle.std.proofs.Common.{List, refl, false}
use Rattle.std.proofs.lemmas.Result.{err_from_is_err_and}
use Rattle.atam.specs.declared.place.Place.{Place}
use Rattle.atam.specs.TileSystem.{TileSystem}
use Rattle.tilebench.specs.Inputs.{IsSystemThen}
use Rattle.tilebench.specs.declared.commands.check.Checked.{Checked}
use Rattle.tilebench.specs.Commands.Check.{is_judged_unique, judgement_text}
use Rattle.tilebench.specs.Inner.CommandRows.{check_row}
use Rattle.tilebench.specs.Inner.Rooms.{NamesItsTypes}
use Rattle.tilebench.specs.Inner.Gives.{HoldsWhole}
use Rattle.tilebench.proofs.Fronts.{reading_stop}
use Rattle.tilebench.proofs.commands.check.CheckSourceRoom.answer_from.Goals as goal
use Rattle.seq_text.specs.GrowthText.{ReadsPlaces}

pub returns-in_err-sys-clause-answer : goal.returns-in_err-sys-clause-answer
returns-in_err-sys-clause-answer g c =
    let p = err_from_is_err_and c.from_residual.result c.from_residual.ensures.1 in
    rw (p.1, p.2) (reading_stop g.S.Source.left g.S.Source.faults (λ (r : Checked). is_judged_unique r.judgement) (λ (r : Checked). judgement_text r.sys r.judgement) (λ (r : Checked). NamesItsTypes r.sys r.judgement) check_row refl (HoldsWhole (λ input (found : TileSystem × List Place). IsSystemThen (ReadsPlaces false) input found.0 found.1)) c.args.source.now c.system_and_sequence.new.source c.in_err-sys.field-0.0 c.in_err-sys.ensures.read)

pub returns-in_err-judgement-clause-answer : goal.returns-in_err-judgement-clause-answer
returns-in_err-judgement-clause-answer g c =
    let p = err_from_is_err_and c.from_residual-in_err-judgement.result c.from_residual-in_err-judgement.ensures.1 in
    rw (p.1, p.2) c.in_ok-sys.ensures.read.1

pub returns-clause-answer : goal.returns-clause-answer
returns-clause-answer g c =
    let read = c.in_ok-sys.ensures.read in
    let input = read.0.0 in (
      record {
        answer = record {
          input = input;
          whole = λ _. read.0.1;
          unread = λ no. absurd (cc no);
          answer = record { none = refl; told = (c.in_ok-sys.sys, c.in_ok-sys.sequence, read.0.2, (c.in_ok-judgement.judgement, c.in_ok-judgement.ensures.judged, refl, refl)) };
        };
        prints = c.in_ok-judgement.ensures.types;
      },
      read.1,
    )
