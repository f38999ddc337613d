use Rattle.std.proofs.Common.{◌≡◌, length, ◌∙◌, sym, ap, arith}
use Rattle.std.proofs.lemmas.Iterator.Consumers.{YieldsList-end}
use Rattle.std.proofs.lemmas.Iterator.Splits.{YieldsList-from_lines}
use Rattle.std.proofs.lemmas.List.{length-map}
use Rattle.std.specs.Str.Lines.{lines}
use Rattle.cert_text.proofs.reader.after_last.Goals as goal

pub returns : goal.returns
returns c =
    let all = YieldsList-end (YieldsList-from_lines c.args.text.now cc) c.loop-line.yielded _ c.loop-line.yielded_by _ _ c.in-None.is c.next.ensures.steps in
    let count : length c.loop-line.yielded ≡ length (lines c.args.text.now) = sym (length-map c.loop-line.yielded (λ x. x.now)) ∙ ap length all.0 in
    omega (arith, c.loop-line.invariant, count)
