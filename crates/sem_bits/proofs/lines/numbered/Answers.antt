use Rattle.std.proofs.Common.{◌∙◌, ap, sym, refl, arith}
use Rattle.std.proofs.lemmas.Iterator.Consumers.{YieldsList-end}
use Rattle.std.proofs.lemmas.Iterator.Splits.{YieldsList-from_lines}
use Rattle.std.proofs.lemmas.List.{length_push}
use Rattle.sem_bits.proofs.LineLists.{kept, more_full, more_empty}
use Rattle.sem_bits.proofs.lines.numbered.Goals as goal

pub loop-line-preserved : goal.loop-line-preserved
loop-line-preserved c = (
  omega (arith, c.loop-line.invariant.0, length_push c.loop-line.yielded c.in-Some.line),
  more_full (λ x. (x.number, x.text.now)) (λ x. x.now) _ _ c.loop-line.yielded _ c.in-Some.line _ c.in_ok-push.ensures.items c.loop-line.invariant.0 c.loop-line.invariant.1 refl (sym c.is_empty.ensures ∙ c.if-is_empty.false),
)

pub loop-line-preserved-then-is_empty : goal.loop-line-preserved-then-is_empty
loop-line-preserved-then-is_empty c = (
  omega (arith, c.loop-line.invariant.0, length_push c.loop-line.yielded c.in-Some.line),
  more_empty (λ x. (x.number, x.text.now)) (λ x. x.now) c.loop-line.found.items c.loop-line.yielded c.in-Some.line c.loop-line.invariant.1 (sym c.is_empty.ensures ∙ c.if-is_empty.true),
)

pub returns : goal.returns
returns c =
    let all = YieldsList-end (YieldsList-from_lines c.args.text.now cc) c.loop-line.yielded _ c.loop-line.yielded_by _ _ c.in-None.is c.next.ensures.steps in
    c.loop-line.invariant.1 ∙ ap (kept 1) all.0
