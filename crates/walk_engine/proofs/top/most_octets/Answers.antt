use Rattle.std.proofs.Common.{◌∙◌, sym, ap, subst}
use Rattle.std.specs.Option.{option_copied}
use Rattle.sem_profile.specs.Resolved.{IsSound}
use Rattle.walk_engine.proofs.TopStanding.{few_by_bounds, octets_are, no_octets}
use Rattle.walk_engine.proofs.top.most_octets.Goals as goal

pub octets_of-requires : goal.octets_of-requires
octets_of-requires c =
    let at = sym c.top_sizes.ensures ∙ ap option_copied c.in-Some.is in
    few_by_bounds _ (subst IsSound c.profile-profile.ensures c.keeps.ensures) _ at

pub returns-in-Some : goal.returns-in-Some
returns-in-Some c = octets_are c.args.accepted.now _ _ (sym c.top_sizes.ensures ∙ ap option_copied c.in-Some.is) c.octets_of.ensures

pub returns-in-None : goal.returns-in-None
returns-in-None c = no_octets c.args.accepted.now _ (sym c.top_sizes.ensures ∙ ap option_copied c.in-None.is)
