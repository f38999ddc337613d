-- The limit of a header (docs/LIMITS.md).
use Rattle.std.specs.Prelude.{ℕ}

-- a header has at most so many bits
abbrev pub header_limit : ℕ
header_limit = 4096
