-- A report as a value of JSON.
use Rattle.std.specs.Prelude.{ℕ, Bool, List, length, codes, map, if◌then◌else◌}
use Rattle.serde_json.specs.Data.{Data, string, number, unsigned, array, object, member, no_members}
use Rattle.serde_json.specs.View.{items_of}
use Rattle.atam.specs.Sites.{height_of, width_of}
use Rattle.atam.specs.TileSystem.{TileSystem}

abbrev pub number_data : List ℕ → List Data
number_data = map (λ n. number (unsigned n))

-- by its parts: the two words, the counts of glues, rows, tiles, types and columns, the temperature, and the wins
abbrev pub object_data : List ℕ → ℕ → ℕ → ℕ → ℕ → ℕ → List ℕ → ℕ → List ℕ → Data
object_data closed glues height tau tiles types unique width won =
    object
    (member (codes "closed") (string closed)
    (member (codes "glues") (number (unsigned glues))
    (member (codes "height") (number (unsigned height))
    (member (codes "tau") (number (unsigned tau))
    (member (codes "tiles") (number (unsigned tiles))
    (member (codes "types") (number (unsigned types))
    (member (codes "unique") (string unique)
    (member (codes "width") (number (unsigned width))
    (member (codes "won") (array (items_of (number_data won))) no_members)))))))))

abbrev pub report_data : TileSystem → ℕ → List ℕ → Bool → Bool → Data
report_data sys tiles won clipped unique =
    object_data (if clipped then codes "clipped" else codes "terminal") (length sys.glues)
    (height_of sys.area) sys.tau tiles (length sys.types)
    (if unique then codes "yes" else codes "no") (width_of sys.area) won
