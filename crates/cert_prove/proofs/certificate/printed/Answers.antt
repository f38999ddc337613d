use Rattle.std.proofs.Common.{rules, refl}
use Rattle.cert_prove.specs.Proved.{by_text}
use Rattle.cert_prove.proofs.certificate.printed.Goals as goal

pub returns-then-len-gt-TEXT_LIMIT-clause-unproved : goal.returns-then-len-gt-TEXT_LIMIT-clause-unproved
returns-then-len-gt-TEXT_LIMIT-clause-unproved c = λ p is. by_text c.args.certificate refl is (search rules)
