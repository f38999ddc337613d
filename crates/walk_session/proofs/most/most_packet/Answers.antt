use Rattle.std.proofs.Common.{◌∙◌, sym, ap, subst, arith}
use Rattle.std.specs.Option.{option_copied}
use Rattle.sem_profile.specs.Resolved.{IsSound}
use Rattle.walk_session.proofs.Bounds.{few_bits, packet_most, no_packet}
use Rattle.walk_session.proofs.most.most_packet.Goals as goal

pub small-requires : goal.small-requires
small-requires c =
    let at = sym c.top_sizes.ensures ∙ ap option_copied c.in-Some.is in
    (few_bits _ (subst IsSound c.profile-profile.ensures c.keeps.ensures) _ at).1

pub returns-in-Some-clause-most : goal.returns-in-Some-clause-most
returns-in-Some-clause-most c =
    packet_most c.args.accepted.now (subst IsSound c.profile-profile.ensures c.keeps.ensures) _ _ (sym c.top_sizes.ensures ∙ ap option_copied c.in-Some.is) c.small.ensures

pub returns-in-Some-clause-few : goal.returns-in-Some-clause-few
returns-in-Some-clause-few c =
    let at = sym c.top_sizes.ensures ∙ ap option_copied c.in-Some.is in
    let few = (few_bits _ (subst IsSound c.profile-profile.ensures c.keeps.ensures) _ at).1 in
    omega (arith, c.small.ensures)

pub returns-in-None-clause-most : goal.returns-in-None-clause-most
returns-in-None-clause-most c = no_packet c.args.accepted.now (subst IsSound c.profile-profile.ensures c.keeps.ensures) (sym c.top_sizes.ensures ∙ ap option_copied c.in-None.is)
