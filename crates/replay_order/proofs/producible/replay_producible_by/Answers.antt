use Rattle.replay_order.proofs.Replayed.{replayed_or_memory, replayed_whole}
use Rattle.replay_order.proofs.producible.replay_producible_by.Goals as goal

pub whole_order-requires : goal.whole_order-requires
whole_order-requires g c = replayed_or_memory c.args.sys.now c.args.grid.now.tiles c.replay_by.result c.replay_by.ensures.answer c.replay_by.ensures.producible c.requires.producible

pub returns : goal.returns
returns g c = replayed_whole c.args.sys.now c.args.grid.now.tiles c.replay_by.result c.whole_order.result c.replay_by.ensures.answer c.whole_order.ensures.order c.whole_order.ensures.none
