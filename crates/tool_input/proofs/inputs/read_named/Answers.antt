use Rattle.std.proofs.Common.{refl, sym, subst}
use Rattle.sem_context.proofs.Paths.{name_lacks}
use Rattle.tool_input.specs.Inputs.{IsBits}
use Rattle.tool_input.proofs.InputLines.{value_cut}
use Rattle.tool_input.proofs.inputs.read_named.Goals as goal

pub returns-in_default-clause-none : goal.returns-in_default-clause-none
returns-in_default-clause-none c = λ v s.
    let cut = value_cut _ c.args.name.now c.args.spelled.now v refl (name_lacks 61 c.args.name.now refl refl c.keeps.ensures) s in
    let none = rw c.in_default.is at c.in_ok-bits.ensures.none in
    none v.bits (subst (λ t. IsBits t v.bits) (sym cut.1) s.bits_are)
