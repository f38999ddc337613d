use Rattle.std.proofs.Common.{◌∙◌, sym}
use Rattle.std.specs.Option.{option_copied}
use Rattle.sem_bounds.proofs.ParametersCalling.{not-called}
use Rattle.sem_bounds.proofs.parameters.with_format.Goals as goal

pub returns-then-not-calls : goal.returns-then-not-calls
returns-then-not-calls c =
    not-called c.args.parameters.now c.args.method c.args.found c.args.format.now (option_copied c.args.sizes) (sym c.calls.ensures ∙ c.if-not-calls.true)
