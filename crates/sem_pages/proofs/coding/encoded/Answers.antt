use Rattle.std.proofs.Common.{rules, ◌∙◌, sym, List, Bool}
use Rattle.sem_context.specs.Entries.{bits_at}
use Rattle.sem_pages.specs.Pages.{IsCodedOn, ReadsAs}
use Rattle.sem_pages.proofs.CodedSides.{found_weaker}
use Rattle.sem_pages.proofs.Pages.{bare_plain, plain_has}
use Rattle.sem_pages.proofs.coding.encoded.Goals as goal

pub returns-in-Library : goal.returns-in-Library
returns-in-Library c =
    found_weaker (λ (w : List Bool). IsCodedOn (bits_at c.args.frame.now.context.now) c.args.frame.now.path.now c.args.view.now c.args.field.now c.in-Library.library c.args.up w)
    (λ (w : List Bool). ReadsAs c.args.frame.now.methods.now (bits_at c.args.frame.now.context.now) c.args.frame.now.path.now c.args.view.now c.args.field.now c.args.up w) c.encoded_by.result
    (λ w coded s plain l bears.
    plain_has c.args.frame.now.methods.now (bits_at c.args.frame.now.context.now) c.args.frame.now.path.now l c.args.field.now s c.in-Library.library c.args.up w (sym c.get.ensures ∙ c.in-Library.is) plain (coded l bears))
    c.encoded_by.ensures

pub returns-in-Bare : goal.returns-in-Bare
returns-in-Bare c = λ s plain l bears.
    bare_plain c.args.frame.now.methods.now (bits_at c.args.frame.now.context.now) c.args.frame.now.path.now l c.args.field.now s c.args.up c.new.result (sym c.get.ensures ∙ c.in-Bare.is) plain (search rules) c.new.ensures
