-- Whether two glues are paired already.
use Rattle.std.proofs.Common.{◌≡◌, Bool, true, false, cond, List, [], ◌∷◌, Option, Some, refl}
use Rattle.std.specs.Prelude.{◌||◌, find, is_some, option_map}
use Rattle.std.specs.List.{list_any}
use Rattle.atam.specs.declared.place.GlueId.{GlueId}
use Rattle.atam.specs.declared.place.GluePair.{GluePair}
use Rattle.atam.specs.TileSystem.{is_pair_of}
use Rattle.tile_system.specs.Pairs.{paired_strength}

any_by : (same : Bool) (q : GluePair) (rest : Option GluePair) (any : Bool) → is_some (option_map (λ (p : GluePair). p.strength) rest) ≡ any →
    is_some (option_map (λ (p : GluePair). p.strength) (cond same (Some q) rest)) ≡ (same || any)
any_by true q rest any e = refl
any_by false q rest any e = e

pub paired_any : (pairs : List GluePair) (g h : GlueId) → is_some (paired_strength pairs g h) ≡ list_any (λ p. is_pair_of p g h) pairs
paired_any [] g h = refl
paired_any (q ∷ pairs) g h = any_by (is_pair_of q g h) q (find (λ p. is_pair_of p g h) pairs) (list_any (λ p. is_pair_of p g h) pairs) (paired_any pairs g h)
