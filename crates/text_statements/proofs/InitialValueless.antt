-- Why a statement of INITIAL gives no value.
use Rattle.std.proofs.Common.{IfErr}
use Rattle.std.specs.Prelude.{Result, Ok, Err}
use Rattle.text_source.specs.declared.span.Span.{Span}
use Rattle.text_tree.specs.declared.tree.Expr.{Expr as Tree}
use Rattle.sem_profile.specs.declared.fault.ProfileFault.{ProfileFault}
use Rattle.sem_profile.specs.declared.fault.ResolveError.{ResolveError}
use Rattle.sem_profile.specs.declared.fault.ResolveError.TheVariants as errors
use Rattle.sem_profile.specs.Precedence.{Blames}
use Rattle.text_statements.specs.Constants as constants
use Rattle.text_statements.specs.Names.{Names}
use Rattle.text_statements.specs.Initial.{at_field, IsNoValue, no_constant}

-- a cause of one thing as that of another
pub blamed : {C D : ProfileFault → Type 0} (e : ResolveError) → ((f : ProfileFault) → C f → D f) → Blames C e → Blames D e
blamed (errors.Fault f) to b = to f b
blamed errors.OutOfMemory to b = tt

pub all_blamed : {T : Type 0} {C D : ProfileFault → Type 0} (r : Result T ResolveError) → ((f : ProfileFault) → C f → D f) → IfErr r (Blames C) → IfErr r (Blames D)
all_blamed (Ok t) to b = tt
all_blamed (Err e) to b = blamed e to b

pub argument_blamed : (s : Names) (field : Span) (part : Tree) (e : ResolveError) → constants.Blames (constants.ValueFault s part) e → Blames (IsNoValue s field part) (at_field field e)
argument_blamed s field part (errors.Fault f) cause = no_constant cause
argument_blamed s field part errors.OutOfMemory cause = tt
