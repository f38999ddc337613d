use Rattle.std.proofs.Common.{refl, rules}
use Rattle.rohcfn_c.proofs.Openings.{not_opened}
use Rattle.rohcfn_c.proofs.opening.open.Goals as goal

pub returns-in-Ok-None : goal.returns-in-Ok-None
returns-in-Ok-None c =
    (not_opened c.args.texts.now.top.now c.args.texts.now.profile.now c.args.texts.now.certificate.now c.args.line.now c.judge.new.line 0 c.judge.new.said c.judge.result (search rules) refl c.judge.ensures, c.take.ensures.none)
