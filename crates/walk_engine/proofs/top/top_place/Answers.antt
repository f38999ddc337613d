use Rattle.std.proofs.Common.{◌∙◌}
use Rattle.walk_engine.proofs.TopStanding.{stands_at_top}
use Rattle.walk_engine.proofs.top.top_place.Goals as goal

pub returns-clause-stands : goal.returns-clause-stands
returns-clause-stands c =
    let stands = stands_at_top _ c.keeps.ensures c.args.accepted.now c.profile-profile.ensures _ c.top_frame.ensures.method _ c.top_frame.ensures.arguments in
    record { profile_is = c.top_frame.ensures.profile ∙ c.profile-profile.ensures; within = stands.0; lie = stands.1 }
