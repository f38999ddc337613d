use Rattle.std.proofs.Common.{sym, refl}
use Rattle.walk_engine.proofs.TopStanding.{few_packed}
use Rattle.walk_engine.proofs.top.keeps_few.Goals as goal

pub returns : goal.returns
returns c = few_packed _ c.keeps.ensures c.args.accepted.now (sym c.profile-profile.ensures) c.args.context.now c.args.filling.now c.requires _ refl
