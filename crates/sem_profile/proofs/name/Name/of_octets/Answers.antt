use Rattle.sem_profile.proofs.NameSpelled.{name_utf8}
use Rattle.sem_profile.proofs.name.Name.of_octets.Goals as goal

pub unreachable-requires : goal.unreachable-requires
unreachable-requires c = c.in-Err.ensures.cases.0 (name_utf8 c.args.octets.now c.requires)
