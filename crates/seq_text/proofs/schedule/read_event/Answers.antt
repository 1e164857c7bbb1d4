use Rattle.std.proofs.Common.{◌≡◌, sym, subst}
use Rattle.seq_text.specs.declared.action.Action.{Action}
use Rattle.seq_text.specs.Inner.Kinds.{action_row}
use Rattle.seq_text.proofs.schedule.read_event.Goals as goal

pub returns-in-Look : goal.returns-in-Look
returns-in-Look c = λ earlier.
    let sys = c.args.system.now in
    let Read : Action → Type 0 = λ action. c.read_look.result ≡ (action_row sys action).fields earlier c.args.words.now in
    subst Read (sym c.in-Look.is) (c.read_look.ensures sys)

pub returns-in-Split : goal.returns-in-Split
returns-in-Split c = λ earlier.
    let sys = c.args.system.now in
    let Read : Action → Type 0 = λ action. c.read_split.result ≡ (action_row sys action).fields earlier c.args.words.now in
    subst Read (sym c.in-Split.is) (c.read_split.ensures sys)

pub returns-in-Join : goal.returns-in-Join
returns-in-Join c = λ earlier.
    let sys = c.args.system.now in
    let Read : Action → Type 0 = λ action. c.read_join.result ≡ (action_row sys action).fields earlier c.args.words.now in
    subst Read (sym c.in-Join.is) (c.read_join.ensures sys)
