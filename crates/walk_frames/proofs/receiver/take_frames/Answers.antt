use Rattle.std.proofs.Common.{◌∙◌, refl, sym, ap, subst, [], ◌++◌, append_assoc}
use Rattle.std.proofs.lemmas.List.{append-nil}
use Rattle.walk_line.proofs.LinesBegun.{slice_from, slice_left}
use Rattle.walk_frames.specs.Frames.{IsBegun}
use Rattle.walk_frames.proofs.Takings.{takes_further, takes_none, takes_stop}
use Rattle.walk_frames.proofs.receiver.take_frames.Goals as goal

pub loop-count-init : goal.loop-count-init
loop-count-init c = (c.requires, [], sym (append-nil c.args.out.now.items), takes_none c.args.accepted.now c.args.contexts.now.items c.args.octets.now)

pub loop-count-preserved : goal.loop-count-preserved
loop-count-preserved c =
    let l = c.loop-count in
    let some = rw c.in-Ok-Some.field-0-is at c.in-Ok-Some.ensures.some in (
      c.take_frame.ensures.flows ∙ l.invariant.0,
      l.invariant.1 ++ some.0,
      some.1 ∙ ap (λ z. z ++ some.0) l.invariant.2 ∙ append_assoc c.args.out.now.items l.invariant.1 some.0,
      takes_further c.args.accepted.now c.args.contexts.now.items l.contexts.items c.take_frame.new.contexts.items c.args.octets.now (slice_from c.args.octets.now l.place) l.place c.in-Ok-Some.count l.invariant.1 some.0
          (slice_left c.args.octets.now l.place) l.invariant.3 some.3,
    )
