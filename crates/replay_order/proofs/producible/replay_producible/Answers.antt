use Rattle.replay_order.proofs.Replayed.{replayed_or_memory, replayed_whole}
use Rattle.replay_order.proofs.producible.replay_producible.Goals as goal

pub whole_order-requires : goal.whole_order-requires
whole_order-requires c = replayed_or_memory c.args.sys.now c.args.grid.now.tiles c.replay.result c.replay.ensures.answer c.replay.ensures.producible c.requires.producible

pub returns : goal.returns
returns c = replayed_whole c.args.sys.now c.args.grid.now.tiles c.replay.result c.whole_order.result c.replay.ensures.answer c.whole_order.ensures.order c.whole_order.ensures.none
