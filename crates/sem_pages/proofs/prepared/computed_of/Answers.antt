use Rattle.std.proofs.Common.{◌∙◌, sym}
use Rattle.sem_pages.specs.Prepared.{IsComputed, IsComputedBy}
use Rattle.sem_pages.proofs.CodedSides.{found_weaker}
use Rattle.sem_pages.proofs.prepared.computed_of.Goals as goal

pub returns-in-Library : goal.returns-in-Library
returns-in-Library c =
    found_weaker (IsComputedBy c.in-Library.library) (IsComputed c.args.field.now) c.computed_by.result
    (λ x is. record { library = c.in-Library.library; encoding_is = sym c.get.ensures ∙ c.in-Library.is; by = is })
    c.computed_by.ensures
