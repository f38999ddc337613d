use Rattle.std.proofs.Common.{◌≡◌, refl, subst, length, ◌<◌, ◌-◌, arith}
use Rattle.std.proofs.lemmas.Option.{slice_get_read}
use Rattle.walk_loss.specs.Journal.{AddsFirst}
use Rattle.walk_loss.proofs.Journals.{back_is, none_added, one_added}
use Rattle.walk_loss.proofs.journal.judge.Goals as goal

pub loop-lost-init : goal.loop-lost-init
loop-lost-init c = none_added c.args.accepted.now c.args.held.now c.args.number c.args.item.now c.args.sent.now c.args.journal.now

pub loop-lost-preserved : goal.loop-lost-preserved
loop-lost-preserved c =
    let lt = c.loop-lost-test.true in
    let within : length c.args.held.now - 1 - c.loop-lost.lost < length c.args.held.now = omega (arith, lt) in
    let at = slice_get_read c.args.held.now _ (length c.args.held.now - 1 - c.loop-lost.lost) c.index-held-held.result refl within c.index-held-held.is in
    one_added c.args.accepted.now c.args.held.now c.args.number c.args.item.now c.args.sent.now c.loop-lost.lost c.index-held-held.result _ _ _
    (back_is c.args.held.now c.loop-lost.lost _ c.index-held-held.result lt refl at) c.loop-lost.invariant c.in_ok-judge_in.ensures

pub returns : goal.returns
returns c =
    let all : c.loop-lost.lost ≡ length c.args.held.now = omega (arith, c.loop-lost-test.false, c.loop-lost.auto.lost-end) in
    subst (λ n. AddsFirst c.args.accepted.now c.args.held.now c.args.number c.args.item.now c.args.sent.now n c.args.journal.now c.loop-lost.journal) all c.loop-lost.invariant
