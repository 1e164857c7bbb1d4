-- `picture`: an assembly as text, a character for each site.
use Rattle.std.specs.Prelude.{◌≡◌, ℕ, Bool, true, List}
use Rattle.atam.specs.declared.place.Place.{Place}
use Rattle.atam.specs.TileSystem.{TileSystem}
use Rattle.picture.specs.Pictures.{picture_text}

-- this is the picture of the assembly in the system's box
abbrev pub IsPictureAnswer : TileSystem → List Place → Bool → List ℕ → Type 0
IsPictureAnswer sys tiles is_yes text =
    (text ≡ picture_text sys (record { area = sys.area; tiles = tiles })) × (is_yes ≡ true)
