use Rattle.std.proofs.Common.{◌≡◌, length, rules}
use Rattle.sem_pages.proofs.Words.{spilled}
use Rattle.sem_pages.proofs.joined.spill.Goals as goal

pub returns-clause-ok : goal.returns-clause-ok
returns-clause-ok c =
    let count : length c.octets_of.result ≡ 8 = (search rules) in
    spilled c.args.octets.now.items c.make_room.new.octets.items c.extend_from_slice.new.self.items c.octets_of.result _ c.args.tail.now c.args.bits.now c.filled-first.result.1 c.make_room.ensures (search rules) count c.octets_of.ensures
    c.filled-first.ensures
