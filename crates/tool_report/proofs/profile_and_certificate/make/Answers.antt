use Rattle.std.proofs.Common.{refl}
use Rattle.tool_report.specs.Accepting.{made}
use Rattle.tool_report.proofs.AcceptingCertificates.{none_made}
use Rattle.tool_report.proofs.profile_and_certificate.make.Goals as goal

pub returns-in-Ok : goal.returns-in-Ok
returns-in-Ok c =
    (made c.args.version refl c.in-Ok.ensures.proved c.keeps.ensures, λ k m s first. c.ordered_is_right.ensures.right c.args.profile.now.methods c.args.profile.now.sizes _ c.in-Ok.ensures.proved.ordered k m s first)

pub returns-in_ok-unproved_line-in-Err : goal.returns-in_ok-unproved_line-in-Err
returns-in_ok-unproved_line-in-Err c = none_made c.args.version _ c.in-Err.unproved _ _ c.in-Err.ensures.unproved c.methods.ensures c.in_ok-unproved_line-in-Err.ensures c.keeps-in-Err.ensures
