use Rattle.std.proofs.Common.{◌∙◌, sym}
use Rattle.sem_context.specs.Entries.{bits_at}
use Rattle.sem_pages.specs.declared.page.BothSides.{BothSides}
use Rattle.sem_pages.specs.Pages.{IsCodedOn, ReadsAs}
use Rattle.sem_pages.proofs.CodedSides.{found_weaker}
use Rattle.sem_pages.proofs.Pages.{plain_has}
use Rattle.sem_pages.proofs.coding.coded.Goals as goal

pub returns-in-Library : goal.returns-in-Library
returns-in-Library c =
    found_weaker (λ (b : BothSides). IsCodedOn (bits_at c.args.frame.now.context.now) c.args.frame.now.path.now c.args.view.now c.args.field.now c.in-Library.library b.uncompressed b.compressed)
    (λ (b : BothSides). ReadsAs c.args.frame.now.methods.now (bits_at c.args.frame.now.context.now) c.args.frame.now.path.now c.args.view.now c.args.field.now b.uncompressed b.compressed) c.coded_by.result
    (λ b coded s plain l bears.
    plain_has c.args.frame.now.methods.now (bits_at c.args.frame.now.context.now) c.args.frame.now.path.now l c.args.field.now s c.in-Library.library b.uncompressed b.compressed (sym c.get.ensures ∙ c.in-Library.is) plain (coded l bears))
    c.coded_by.ensures
