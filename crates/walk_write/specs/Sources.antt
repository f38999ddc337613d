-- What a walk that writes takes from.
use Rattle.std.specs.Prelude.{◌≤◌, Bool, List, drop, length}
use Rattle.walk_write.specs.declared.source.HeaderSource.{HeaderSource}

-- the bits from the place where the header begins
abbrev pub front : HeaderSource → List Bool
front s = drop s.from s.cursor.now.left

-- that place is among the bits that are left
abbrev pub IsWithin : HeaderSource → Type 0
IsWithin s = s.from ≤ length s.cursor.now.left
