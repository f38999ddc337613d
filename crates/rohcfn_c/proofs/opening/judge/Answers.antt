use Rattle.std.proofs.Common.{◌≡◌, ◌∙◌, rules, subst, string_bytes}
use Rattle.tool_report.specs.Accepting.{JudgesOctets, RefusesProfile}
use Rattle.rohcfn_c.specs.Lines.{IsCut}
use Rattle.rohcfn_c.specs.Opening.{told_why}
use Rattle.rohcfn_c.proofs.opening.judge.Goals as goal

pub returns-in-Refused : goal.returns-in-Refused
returns-in-Refused c zero =
    let top : c.in-Ok.top.now ≡ c.args.texts.now.top.now = search rules in
    let why : RefusesProfile c.in-Ok.top.now c.args.texts.now.profile.now c.origin_of.result (string_bytes c.in-Refused.text) =
    subst (JudgesOctets c.in-Ok.top.now c.args.texts.now.profile.now c.origin_of.result) c.in-Refused.is c.in_ok-accepted.ensures in
    told_why c.origin_of.result (string_bytes c.in-Refused.text) c.origin_of.ensures (subst (λ t. RefusesProfile t c.args.texts.now.profile.now c.origin_of.result (string_bytes c.in-Refused.text)) top why)
    (subst (λ t. IsCut t c.args.line.now c.cut.new.room c.cut.new.said) (c.as_bytes.ensures.value ∙ c.as_str.ensures.value) c.cut.ensures)
