use Rattle.std.proofs.Common.{◌∙◌, sym, ap, subst, [], ◌++◌, append_assoc, arith}
use Rattle.std.proofs.lemmas.List.{append-nil}
use Rattle.walk_line.specs.States.{Receiving, Hears}
use Rattle.walk_line.proofs.LinesBegun.{hears_nothing, hears_further, fails_next, slice_from, slice_left, within_piece}
use Rattle.walk_line.proofs.receiver.Receiver.feed.Goals as goal

pub loop-place-init : goal.loop-place-init
loop-place-init c = (
  omega arith,
  [],
  sym (append-nil c.args.out.now.items),
  subst (λ (r : Receiving). Hears r r [] []) c.self.view_is
      (hears_nothing (record { accepted = c.self.inside.accepted.now; contexts = c.self.inside.contexts.items; rest = c.self.inside.rest; fault = c.self.inside.fault }) c.in_default.is c.self.invariant.2),
)

pub loop-place-preserved : goal.loop-place-preserved
loop-place-preserved c =
    let l = c.loop-place in
    let more = c.in-Ok.ensures.ok in (
      within_piece c.args.piece.now (slice_from c.args.piece.now l.place) l.place c.in-Ok.count (slice_left c.args.piece.now l.place) l.invariant.0 more.2.within,
      l.invariant.1 ++ more.0,
      more.1 ∙ ap (λ o. o ++ more.0) l.invariant.2 ∙ append_assoc c.args.out.now.items l.invariant.1 more.0,
      hears_further c.args.self.now l.self c.take_next.new.self c.args.piece.now (slice_from c.args.piece.now l.place) l.place c.in-Ok.count l.invariant.1 more.0 (slice_left c.args.piece.now l.place) l.invariant.3 more.2,
    )

pub returns-in-Err-clause-err : goal.returns-in-Err-clause-err
returns-in-Err-clause-err c =
    let l = c.loop-place in (
      l.invariant.1,
      c.in-Err.ensures.err.0 ∙ l.invariant.2,
      fails_next c.args.self.now l.self c.take_next.new.self c.args.piece.now (slice_from c.args.piece.now l.place) l.place l.invariant.1 c.in-Err.fault c.loop-place-test.true (slice_left c.args.piece.now l.place) l.invariant.3 c.in-Err.ensures.err.1,
    )
