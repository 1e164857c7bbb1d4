-- The names of causes, as the program prints them.
use Rattle.std.specs.Prelude.{ℕ, List, codes}
use Rattle.tile_io.specs.declared.fault.Cause.{Cause}
use Rattle.tile_io.specs.declared.fault.Cause.TheVariants.{NoHeader, BadLine, BadName, BadNumber, OutOfRange, DoubleName, UnknownName, OutOfOrder, SeedOutside, TooMany, LineTooLong, NoEnd, TooLong, OutsideBox, AfterEnd, DoubleSite}

abbrev pub cause_name : Cause → List ℕ
cause_name NoHeader = codes "NoHeader"
cause_name BadLine = codes "BadLine"
cause_name BadName = codes "BadName"
cause_name BadNumber = codes "BadNumber"
cause_name OutOfRange = codes "OutOfRange"
cause_name DoubleName = codes "DoubleName"
cause_name UnknownName = codes "UnknownName"
cause_name OutOfOrder = codes "OutOfOrder"
cause_name SeedOutside = codes "SeedOutside"
cause_name TooMany = codes "TooMany"
cause_name LineTooLong = codes "LineTooLong"
cause_name NoEnd = codes "NoEnd"
cause_name TooLong = codes "TooLong"
cause_name OutsideBox = codes "OutsideBox"
cause_name AfterEnd = codes "AfterEnd"
cause_name DoubleSite = codes "DoubleSite"
