use Rattle.atam.proofs.OneSeed.{interaction-equal, bond-equal, pull-equal, to_legal, from_legal, to_deterministic, from_deterministic}
use Rattle.atam.proofs.laws.law_sole_seed.Goals as goal

pub returns : goal.returns
returns c = record {
  interaction = λ sys a b unpaired. interaction-equal sys unpaired a b;
  bonds = λ sys tiles m t unpaired. (λ d. bond-equal sys unpaired tiles m t d, pull-equal sys unpaired tiles m t);
  legal = λ sys seed s unpaired one. (to_legal sys unpaired seed one s, from_legal sys unpaired seed one s);
  deterministic = λ sys seed s unpaired one. (to_deterministic sys unpaired seed one s, from_deterministic sys unpaired seed one s);
}
