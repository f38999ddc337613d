use Rattle.std.proofs.Common.{◌≡◌, true, arith, rules}
use Rattle.sem_bits.proofs.OctetsKept.{cut_kept, cut_seen}
use Rattle.sem_bits.proofs.long.Long.from_octets.Goals as goal

pub invariant_of-result : goal.invariant_of-result
invariant_of-result c =
    let yes : c.ends_in_zeros.result ≡ true = (search rules) in
    cut_kept c.args.octets.now _ c.args.count c.in_ok-octets.ensures.ok (omega arith) (omega arith) (c.ends_in_zeros.ensures.0 yes)

pub returns-clause-found : goal.returns-clause-found
returns-clause-found c =
    let yes : c.ends_in_zeros.result ≡ true = (search rules) in
    cut_seen c.args.octets.now _ c.args.count c.in_ok-octets.ensures.ok (omega arith) (c.ends_in_zeros.ensures.0 yes)
