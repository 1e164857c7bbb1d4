-- What a growth that is watched is lent.
use Rattle.std.specs.Prelude.{◌≡◌}
use Rattle.type_index.specs.Indexes.{IsIndexOf}
use Rattle.watch_frames.specs.declared.watching.OnTable.{OnTable}

-- the table and the index are the system's
pub record IsLent {G : Type 0} (on : OnTable G) : Type 0 where
  pub system : on.table.now.sys ≡ on.sys.now
  pub types : IsIndexOf on.sys.now on.types.now
