use Rattle.std.proofs.Common.{◌≡◌, ◌≤◌, ◌<◌, ◌+◌, ◌-◌, ◌++◌, ◌∙◌, ap, ℕ, List, [], take, drop, length, min, arith, sym}
use Rattle.std.proofs.Math.ListN.{drop_of_length-le}
use Rattle.std.proofs.lemmas.Grind.{common_steps}
use Rattle.std.proofs.lemmas.List.{drop-drop, take-append-drop}
use Rattle.tile_io.proofs.memory.MemorySourceSource.read.Goals as goal

-- what is left is what was taken from its front, and the rest
taken : (at n : ℕ) (bs front : List ℕ) → front ≡ take n (drop at bs) → drop at bs ≡ front ++ drop (at + n) bs
taken at n bs front is = rw (is, ← drop-drop n at bs) (sym (take-append-drop n (drop at bs)))

-- where nothing was taken and there was room, nothing is left
ended : (at n most room : ℕ) (bs : List ℕ) → n ≡ min (min most room) (length bs - at) → 1 ≤ most → 0 < room → n ≡ 0 → drop (at + n) bs ≡ []
ended at n most room bs is some has none = drop_of_length-le bs {i = at + n} (omega arith)

pub returns-clause-bytes : goal.returns-clause-bytes
returns-clause-bytes c =
    let source = c.self.inside in
    let bytes = source.bytes.items in
    let n = c.min-count.result in
    let front : take n c.put_front.new.buf ≡ take n (drop source.at bytes) = grind (arith, common_steps) in
    let count : n ≡ min (min source.most (length c.put_front.new.buf)) (length bytes - source.at) = grind (arith, common_steps) in (
      ap (λ s. s.left) (sym c.self.view_is) ∙ taken source.at n bytes (take n c.put_front.new.buf) front,
      λ none room. ended source.at n source.most (length c.put_front.new.buf) bytes count c.self.invariant.1 room none,
    )
