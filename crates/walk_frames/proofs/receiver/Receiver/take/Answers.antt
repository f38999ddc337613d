use Rattle.std.proofs.Common.{◌∙◌, refl, sym, ap, subst, [], ◌++◌}
use Rattle.std.proofs.lemmas.List.{append-nil}
use Rattle.walk_frames.specs.States.{Receiver, Stops, TakesTo}
use Rattle.walk_frames.specs.declared.fault.FrameFault.TheVariants.{OutOfMemory}
use Rattle.walk_frames.proofs.Takings.{runs_out, runs_out_after}
use Rattle.walk_frames.proofs.receiver.Receiver.take.Goals as goal

pub returns-in-Err-clause-err : goal.returns-in-Err-clause-err
returns-in-Err-clause-err c =
    ([], sym (append-nil c.args.out.now.items), runs_out c.args.self.now.accepted c.args.self.now.contexts (c.args.self.now.rest ++ c.args.piece.now))

pub returns-in-Err-from_slice-clause-err : goal.returns-in-Err-from_slice-clause-err
returns-in-Err-from_slice-clause-err c =
    let ok = c.in-Ok-take_frames.ensures.ok in
    let octets = c.as_slice-octets.ensures.value ∙ c.in-Ok.ensures.items in
    let stops = runs_out_after c.self.inside.accepted.now c.self.inside.contexts.items c.take_frames.new.contexts.items c.as_slice-octets.result.now c.in-Ok-take_frames.count ok.0 ok.2 in (
      ok.0,
      ok.1,
      subst (λ (z : Receiver). Stops z.accepted z.contexts (z.rest ++ c.args.piece.now) ok.0 OutOfMemory) c.self.view_is
          (subst (λ o. Stops c.self.inside.accepted.now c.self.inside.contexts.items o ok.0 OutOfMemory) octets stops),
    )
