use Rattle.std.proofs.Common.{◌∙◌, sym, ap}
use Rattle.std.specs.Prelude.{slice_get}
use Rattle.walk_steps.specs.Partial.{gives_value}
use Rattle.walk_steps.proofs.solutions.solved.Goals as goal

pub value-requires : goal.value-requires
value-requires c = record {
  asked = gives_value c.args.field c.args.constraint c.in-Some.found.now (ap (λ z. slice_get z.constraints c.args.constraint) (sym c.format.ensures) ∙ sym c.in-Some.ensures.value)
      (rw c.get-2.ensures at (sym c.in-Some-value_given.ensures));
}
