use Rattle.std.proofs.Common.{rules, ◌≡◌, ◌∙◌, ◌+◌, [], ◌∷◌, ◌++◌, ap, refl, sym, subst}
use Rattle.tool_survey.proofs.MeantLines.{SoFar, all_lines, starts, line_ends, line_goes_on, piece_cut, rest_cut}
use Rattle.tool_survey.proofs.meant.meant_lines.Goals.{then-octets-place-eq10+in_ok-push, else-octets-place-eq10}
use Rattle.tool_survey.proofs.meant.meant_lines.Goals as goal

pub loop-place-preserved : goal.loop-place-preserved
loop-place-preserved c = elim c.if-octets-place-eq10.branch [
  | then-octets-place-eq10+in_ok-push w ↦
      subst (λ n. SoFar c.args.octets.now n (c.loop-place.place + 1) c.if-octets-place-eq10.meant.items) (sym w.start-is)
      (subst (SoFar c.args.octets.now (c.loop-place.place + 1) (c.loop-place.place + 1)) (sym (ap (λ v. v.items) w.meant-is ∙ w.in_ok-push.ensures.items ∙ ap (λ b. c.loop-place.meant.items ++ b ∷ []) w.is_meant.ensures))
      (line_ends c.args.octets.now c.loop-place.start c.loop-place.place c.loop-place.meant.items c.loop-place-test.true w.if-octets-place-eq10.true c.loop-place.invariant _ (piece_cut c.args.octets.now c.loop-place.start c.loop-place.place c.loop-place.invariant.0)))
  | else-octets-place-eq10 w ↦
      subst (λ n. SoFar c.args.octets.now n (c.loop-place.place + 1) c.if-octets-place-eq10.meant.items) (sym w.start-is)
      (subst (SoFar c.args.octets.now c.loop-place.start (c.loop-place.place + 1)) (sym (ap (λ v. v.items) w.meant-is))
      (line_goes_on c.args.octets.now c.loop-place.start c.loop-place.place c.loop-place.meant.items c.loop-place-test.true w.if-octets-place-eq10.false c.loop-place.invariant))
]

pub returns : goal.returns
returns c = c.in_ok-push-2.ensures.items ∙ ap (λ b. c.loop-place.meant.items ++ b ∷ []) c.is_meant-2.ensures ∙ all_lines c.args.octets.now c.loop-place.start c.loop-place.place c.loop-place.meant.items c.loop-place-test.false c.loop-place.invariant _ (rest_cut c.args.octets.now c.loop-place.start)

pub loop-place-init : goal.loop-place-init
loop-place-init c = starts c.args.octets.now c.new-meant.result.items c.new-meant.ensures.items
