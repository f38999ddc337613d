use Rattle.std.proofs.Common.{◌+◌, ◌*◌}
use Rattle.walk_write.proofs.header_constants.+lacking.Given as goal

abbrev pub decreases-lacks : goal.decreases-lacks
decreases-lacks l = 3 * l.depth + 1

abbrev pub decreases-lacks_inside : goal.decreases-lacks_inside
decreases-lacks_inside l = 3 * l.depth

abbrev pub decreases-lacks_field : goal.decreases-lacks_field
decreases-lacks_field l = 3 * l.depth + 2
