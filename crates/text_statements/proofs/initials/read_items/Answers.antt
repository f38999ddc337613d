use Rattle.std.proofs.Common.{subst, refl, ◌+◌, take}
use Rattle.std.proofs.lemmas.Option.{slice_get_read}
use Rattle.text_statements.specs.Initials.{ReadOn, bounds_of}
use Rattle.text_statements.proofs.InitialsFronts.{whole_front}
use Rattle.text_statements.proofs.InitialsBoundsRead.{read_none, read_more, read_past}
use Rattle.text_statements.proofs.initials.read_items.Goals as goal
use Rattle.text_statements.proofs.initials.read_items.Goals.{in-Bound+in_ok-read_bound, in_default}

pub loop-item-init : goal.loop-item-init
loop-item-init c = read_none c.args.scope.now c.args.initials.now

pub loop-item-preserved : goal.loop-item-preserved
loop-item-preserved c =
    let here = slice_get_read c.args.items.now _ c.loop-item.item-index c.item-item.result refl c.loop-item-test.true c.item-item.is in
    elim c.match-item.branch as (λ _. ReadOn c.args.scope.now (bounds_of (take (c.loop-item.item-index + 1) c.args.items.now)) c.args.initials.now c.match-item.initials) [
      | in-Bound+in_ok-read_bound w ↦
          rw w.initials-is (read_more c.args.scope.now c.args.items.now c.loop-item.item-index c.item-item.result w.in-Bound.bound c.args.initials.now c.loop-item.initials _ here w.in-Bound.is
          c.loop-item.invariant w.in_ok-read_bound.ensures)
      | in_default w ↦
          rw w.initials-is (read_past c.args.scope.now c.args.items.now c.loop-item.item-index c.item-item.result c.args.initials.now c.loop-item.initials here w.in_default.not-Bound c.loop-item.invariant)
    ]

pub returns : goal.returns
returns c = subst (λ items. ReadOn c.args.scope.now (bounds_of items) c.args.initials.now c.loop-item.initials) (whole_front c.args.items.now c.loop-item.item-index c.loop-item-test.false) c.loop-item.invariant
