use Rattle.std.proofs.Common.{◌≡◌, ◌≤◌, ◌^◌, length}
use Rattle.walk_line.proofs.UnfinishedKeeping.{few_bits}
use Rattle.walk_line.proofs.unfinished.Unfinished.push.Goals as goal

pub add_octet-requires : goal.add_octet-requires
add_octet-requires c =
    let same : c.self.inside.octets.items ≡ c.args.self.now = c.self.view_is in
    let few : length c.self.inside.octets.items ≤ 2 ^ 20 = rw same c.requires in
    few_bits c.self.inside.octets.items c.self.inside.bits c.self.invariant.0 few
