use Rattle.std.proofs.Common.{◌≡◌, ◌<◌, ◌≤◌, length, vec_capacity, All}
use Rattle.cert_check.proofs.InOrder.{AreInputBits}
use Rattle.cert_check.proofs.certify.certificate_in_order.Given as goal

-- the input sides of the places so far, with room for those of all
abbrev pub invariant-loop-index : goal.invariant-loop-index
invariant-loop-index l = record {
  count : length l.stated.items ≡ l.index;
  room : length l.order ≤ vec_capacity l.stated;
  inputs : AreInputBits l.sides l.stated.items;
  small : All (λ s. s < 16) l.stated.items;
}
