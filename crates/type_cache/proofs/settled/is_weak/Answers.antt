use Rattle.std.proofs.Common.{◌∙◌, sym, arith}
use Rattle.std.proofs.lemmas.Bool.{eqb-true}
use Rattle.type_cache.proofs.Settling.{alone}
use Rattle.type_cache.proofs.settled.is_weak.Goals as goal

pub returns : goal.returns
returns c said own =
    alone c.args.sys.now c.args.glue (omega (arith, c.pair_count.ensures.count)) (sym c.between.ensures.strength ∙ eqb-true c.between.result 0 said) own
