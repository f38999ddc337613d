use Rattle.std.proofs.Common.{sym, subst, List, Bool}
use Rattle.std.specs.Prelude.{IfOk, IfSome}
use Rattle.sem_context.specs.Entries.{bits_at}
use Rattle.sem_filling.specs.Entries.{below}
use Rattle.sem_filling.specs.Fits.{reference_of}
use Rattle.sem_library.specs.Methods.{Lib}
use Rattle.sem_library.specs.Methods as lib
use Rattle.sem_profile.specs.declared.profile.Library.TheVariants as library
use Rattle.sem_pages.specs.Pages.{IsCodedOn, Seen}
use Rattle.sem_pages.proofs.CodedSides.{found_weaker, raised_on}
use Rattle.sem_pages.proofs.coding.encoded_by.Goals as goal

pub returns-in-Static : goal.returns-in-Static
returns-in-Static c =
    subst (λ l. IfOk c.kept_down.result (λ o. IfSome o (λ (w : List Bool). IsCodedOn (bits_at c.args.frame.now.context.now) c.args.frame.now.path.now c.args.view.now c.args.field.now l c.args.up w))) (sym c.in-Static.is)
    (found_weaker (λ (w : List Bool). (v : Seen) → IsCodedOn (bits_at c.args.frame.now.context.now) c.args.frame.now.path.now v c.args.field.now library.Static c.args.up w)
    (λ (w : List Bool). IsCodedOn (bits_at c.args.frame.now.context.now) c.args.frame.now.path.now c.args.view.now c.args.field.now library.Static c.args.up w) c.kept_down.result (λ w is. is c.args.view.now) c.kept_down.ensures)

pub returns-in-Some : goal.returns-in-Some
returns-in-Some c =
    subst (λ l. IfOk c.lowered.result (λ o. IfSome o (λ (w : List Bool). IsCodedOn (bits_at c.args.frame.now.context.now) c.args.frame.now.path.now c.args.view.now c.args.field.now l c.args.up w))) (sym c.in-Lsb.is)
    (found_weaker (λ (w : List Bool). Lib (lib.lsb c.in-Some.arguments.bits c.in-Some.arguments.offset) (reference_of c.args.field.now.declared.part (bits_at c.args.frame.now.context.now) (below c.args.frame.now.path.now c.args.field.now.declared.name) c.args.field.now.initial) c.args.up w)
    (λ (w : List Bool). IsCodedOn (bits_at c.args.frame.now.context.now) c.args.frame.now.path.now c.args.view.now c.args.field.now (library.Lsb c.in-Lsb.bits c.in-Lsb.offset) c.args.up w) c.lowered.result
    (λ w is. raised_on c.args.view.now (bits_at c.args.frame.now.context.now) c.args.frame.now.path.now c.args.field.now c.args.up w c.in-Lsb.bits c.in-Lsb.offset c.in-Some.arguments.bits c.in-Some.arguments.offset c.in-Some.ensures.0 c.in-Some.ensures.1 is)
    c.lowered.ensures)
