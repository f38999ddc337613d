use Rattle.std.proofs.Common.{◌∙◌, ap, refl}
use Rattle.tool_run.proofs.avoidance.fate_at_top.Goals as goal

pub returns-in-Some : goal.returns-in-Some
returns-in-Some c =
    (c.args.best.now.packed, c.requires.best, (c.top-method.ensures ∙ ap (λ p. p.top) c.profile.ensures, refl, c.if-taken-format.false), rw c.in-Some.is at c.in_ok-bits.ensures)

pub returns : goal.returns
returns c =
    (c.args.best.now.packed, c.requires.best, (c.top-method.ensures ∙ ap (λ p. p.top) c.profile.ensures, refl, c.if-taken-format.false, c.in_ok-lines.ensures))
