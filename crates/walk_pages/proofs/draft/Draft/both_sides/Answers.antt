use Rattle.std.proofs.Common.{◌∙◌, ap, subst, sym}
use Rattle.std.specs.Prelude.{Some, slice_get}
use Rattle.sem_context.specs.Entries.{bits_at}
use Rattle.sem_pages.specs.declared.page.BothSides.{BothSides}
use Rattle.sem_pages.specs.Pages.{ReadsAs}
use Rattle.sem_pages.specs.Prepared.{IsReadOn}
use Rattle.sem_pages.proofs.CodedSides.{some_weaker}
use Rattle.walk_pages.specs.Drafts.{seen_of}
use Rattle.walk_pages.proofs.Drafting.{told_in}
use Rattle.walk_pages.proofs.draft.Draft.both_sides.Goals as goal

pub returns-in-Some-Some : goal.returns-in-Some-Some
returns-in-Some-Some c =
    let methods = c.args.frame.now.methods.now in
    let ctx = bits_at c.args.frame.now.context.now in
    let path = c.args.frame.now.path.now in
    let field = c.args.declared.now in
    let own = c.in-Some-Some in
    told_in c.args.frame.now c.args.self.now c.args.field field c.sides.result (λ prepared here.
    let at = ap (λ xs. slice_get xs c.args.field) (sym c.as_slice.ensures) ∙ sym own.ensures ∙ ap Some own.field-0-is in
    some_weaker (λ (b : BothSides). IsReadOn c.view.result field b.uncompressed b.compressed) (λ (b : BothSides). ReadsAs methods ctx path (seen_of c.args.self.now) field b.uncompressed b.compressed) c.sides.result
    (λ b is. subst (λ v. ReadsAs methods ctx path v field b.uncompressed b.compressed) c.view.ensures (is methods ctx path))
    (c.sides.ensures field (prepared.computed.each c.args.field field _ here at)))
