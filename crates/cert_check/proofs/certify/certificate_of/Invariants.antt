use Rattle.std.proofs.Common.{◌≡◌, ◌<◌, ◌≤◌, ℕ, length, take, vec_capacity, Some, slice_get, All}
use Rattle.atam.specs.declared.site.Side.{Side}
use Rattle.atam.specs.Determinism.{is_input}
use Rattle.cert_check.specs.declared.entry.Entry.{Entry}
use Rattle.cert_check.specs.Certificates.{states, places_of}
use Rattle.cert_check.proofs.certify.certificate_of.Given as goal

-- the entries of the places so far, with room for those of all
abbrev pub invariant-loop-index : goal.invariant-loop-index
invariant-loop-index l = record {
  places : places_of l.entries.items ≡ take l.index l.seq;
  count : length l.entries.items ≡ l.index;
  room : length l.seq ≤ vec_capacity l.entries;
  sides : (i : ℕ) (e : Entry) (d : Side) → slice_get l.entries.items i ≡ Some e → states e d ≡ is_input l.sys l.seq i d;
  ranks : (i : ℕ) (e : Entry) → slice_get l.entries.items i ≡ Some e → e.rank ≡ i;
  four : All (λ e. e.sides < 16) l.entries.items;
}
