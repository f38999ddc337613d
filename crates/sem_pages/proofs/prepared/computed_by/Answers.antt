use Rattle.sem_pages.specs.Prepared.{IsComputedBy, IsWorkedOut}
use Rattle.sem_pages.proofs.CodedSides.{found_weaker}
use Rattle.sem_pages.proofs.prepared.computed_by.Goals as goal

pub returns-in-UncompressedValue : goal.returns-in-UncompressedValue
returns-in-UncompressedValue c =
    let own = c.in-UncompressedValue in
    found_weaker (IsWorkedOut own.length own.value) (IsComputedBy c.args.library.now) c.worked_out.result
    (λ x is. record { length = own.length; value = own.value; library_is = own.is; is = is })
    c.worked_out.ensures
