use Rattle.std.proofs.Common.{arith, ◌∙◌}
use Rattle.std.specs.Prelude.{None}
use Rattle.std.proofs.lemmas.List.{take_all}
use Rattle.text_methods.specs.Encodings.{FieldMeans, field_fault}
use Rattle.text_methods.proofs.EncodingsGathering.{nothing_yet, fine_at, refused_at, refused_is}
use Rattle.text_methods.proofs.encodings.field_encodings.Goals.{in-Ok+in_ok-push-in-Ok, in-Err+in_ok-fault_of-in-Err}
use Rattle.text_methods.proofs.encodings.field_encodings.Goals as goal

pub loop-choice-init : goal.loop-choice-init
loop-choice-init c = rw (c.from_vec-found.ensures, c.in_ok-with_capacity.ensures.items) nothing_yet

pub loop-choice-preserved : goal.loop-choice-preserved
loop-choice-preserved c =
    let scope = c.args.scope.now in
    let methods = c.args.methods.now in
    let sections = c.args.sections.now in
    elim c.match-field_encoding.branch [
      | in-Ok+in_ok-push-in-Ok w ↦
          fine_at (FieldMeans scope methods sections) (field_fault scope methods sections) c.args.chosen.now c.loop-choice.choice-index None _ _ _ _ _
          c.loop-choice-test.true c.loop-choice.invariant w.in-Ok.ensures.right w.in-Ok.ensures.means (w.found-is ∙ w.in_ok-push-in-Ok.ensures.ok) w.fault-is
      | in-Err+in_ok-fault_of-in-Err w ↦
          refused_at (FieldMeans scope methods sections) (field_fault scope methods sections) c.args.chosen.now c.loop-choice.choice-index None _ _ _ _ _
          c.loop-choice-test.true c.loop-choice.invariant (refused_is _ _ _ w.in-Err.ensures.refused w.in_ok-fault_of-in-Err.ensures.fault) w.found-is (w.fault-is ∙ w.earlier-fault.ensures)
    ]

pub returns-clause-fault : goal.returns-clause-fault
returns-clause-fault c =
    let all = take_all c.loop-choice.choice-index c.args.chosen.now (omega arith) in
    rw all at c.loop-choice.invariant.fault_is

pub returns-clause-found : goal.returns-clause-found
returns-clause-found c =
    let all = take_all c.loop-choice.choice-index c.args.chosen.now (omega arith) in
    rw all at c.loop-choice.invariant.found
