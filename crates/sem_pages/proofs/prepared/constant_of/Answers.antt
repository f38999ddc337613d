use Rattle.std.proofs.Common.{◌∙◌, sym}
use Rattle.sem_pages.specs.declared.page.BothSides.{BothSides}
use Rattle.sem_pages.specs.Prepared.{IsConstant, IsConstantBy}
use Rattle.sem_pages.proofs.CodedSides.{some_weaker}
use Rattle.sem_pages.proofs.Preparing.{constant_field}
use Rattle.sem_pages.proofs.prepared.constant_of.Goals as goal

pub returns-in-Library : goal.returns-in-Library
returns-in-Library c =
    some_weaker (λ (b : BothSides). IsConstantBy c.in-Library.library b.uncompressed b.compressed) (λ (b : BothSides). IsConstant c.args.field.now b.uncompressed b.compressed) c.constant_by.result
    (λ b told. constant_field c.args.field.now c.in-Library.library b.uncompressed b.compressed (sym c.get.ensures ∙ c.in-Library.is) told) c.constant_by.ensures
