-- An index of types, whoever owns it.
use Rattle.type_index.specs.Indexes.{TypeLists}
use Rattle.frontier_seat.specs.declared.types.Holding.{Holding}
use Rattle.frontier_seat.specs.declared.types.Holding.TheVariants.{Own, Lent}

-- the index itself
abbrev pub index_in : Holding → TypeLists
index_in (Own index) = index.value
index_in (Lent index) = index.now
