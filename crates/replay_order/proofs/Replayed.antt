-- What `replay` answers of a producible assembly.
use Rattle.std.proofs.Common.{◌≡◌, ◌≢◌, ◌↔◌, List, Result, Ok, Err, IfOk, IfErr, IsOk, IsErr, refl, sym, subst, true≢false}
use Rattle.atam.specs.declared.place.Place.{Place}
use Rattle.atam.specs.TileSystem.{TileSystem}
use Rattle.atam.specs.Growth.{IsProducible}
use Rattle.tile_system.specs.declared.memory.NoMemory.{NoMemory}
use Rattle.replay_order.specs.declared.stop.ReplayStop.{ReplayStop}
use Rattle.replay_order.specs.declared.stop.ReplayStop.TheVariants as halts
use Rattle.replay_order.specs.ReplayAnswers.{IsReplayAnswer, IsWholeOrder}

-- it is replayed, or there was no memory
pub replayed_or_memory : (sys : TileSystem) (tiles : List Place) (replayed : Result (List Place) ReplayStop) → IsReplayAnswer sys tiles replayed →
    (replayed ≢ Err halts.NoMemory → IsOk replayed ↔ IsProducible sys tiles) → IsProducible sys tiles → IfErr replayed (λ stop. stop ≡ halts.NoMemory)
replayed_or_memory sys tiles (Ok order) answer decides producible = tt
replayed_or_memory sys tiles (Err halts.NoSeedThere) answer decides producible = absurd (true≢false (sym ((decides (λ same. cc)).1 producible)))
replayed_or_memory sys tiles (Err (halts.Stuck left least)) answer decides producible = absurd (answer.unproducible producible)
replayed_or_memory sys tiles (Err halts.NoMemory) answer decides producible = refl

-- and what is handed on then is the whole order
pub replayed_whole : (sys : TileSystem) (tiles : List Place) (replayed : Result (List Place) ReplayStop) (result : Result (List Place) NoMemory) →
    IsReplayAnswer sys tiles replayed → IfOk replayed (λ order. result ≡ Ok order) → IfErr replayed (λ _. IsErr result) → IfOk result (IsWholeOrder sys tiles)
replayed_whole sys tiles (Ok order) result answer same none =
    let Whole : Result (List Place) NoMemory → Type 0 = λ r. IfOk r (IsWholeOrder sys tiles) in
    subst Whole (sym same) answer
replayed_whole sys tiles (Err stop) (Ok order) answer same none = absurd (true≢false (sym none))
replayed_whole sys tiles (Err stop) (Err memory) answer same none = tt
