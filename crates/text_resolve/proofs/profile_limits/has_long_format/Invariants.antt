use Rattle.std.proofs.Common.{◌≡◌, drop}
use Rattle.std.specs.List.{list_any}
use Rattle.text_resolve.specs.ProfileLimits.{is_long}
use Rattle.text_resolve.proofs.profile_limits.has_long_format.Given as goal

abbrev pub invariant-loop-format : goal.invariant-loop-format
invariant-loop-format l = list_any is_long (drop l.format-index l.formats) ≡ list_any is_long l.formats
