-- The line of a report: compact JSON, its keys in the order of their bytes.
use Rattle.std.specs.Prelude.{ℕ, Bool, List, ◌++◌, length, codes, decimal, drop, flat_map, if◌then◌else◌}
use Rattle.atam.specs.Sites.{height_of, width_of}
use Rattle.atam.specs.TileSystem.{TileSystem}

-- Whether a type attaches outside the box, and whether the verdict is yes; and what was won, in
-- decimal, with a comma between two numbers.
abbrev pub report_line : TileSystem → ℕ → List ℕ → Bool → Bool → List ℕ
report_line sys tiles won clipped unique =
    codes "{\"closed\":\"" ++ (if clipped then codes "clipped" else codes "terminal")
    ++ codes "\",\"glues\":" ++ decimal (length sys.glues)
    ++ codes ",\"height\":" ++ decimal (height_of sys.area)
    ++ codes ",\"tau\":" ++ decimal sys.tau
    ++ codes ",\"tiles\":" ++ decimal tiles
    ++ codes ",\"types\":" ++ decimal (length sys.types)
    ++ codes ",\"unique\":\"" ++ (if unique then codes "yes" else codes "no")
    ++ codes "\",\"width\":" ++ decimal (width_of sys.area)
    ++ codes ",\"won\":[" ++ drop 1 (flat_map (λ n. codes "," ++ decimal n) won) ++ codes "]}"
