use Rattle.machine_text.proofs.short_name.next_word.Goals as goal

pub returns : goal.returns
returns c = c.next.ensures.steps
