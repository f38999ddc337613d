use Rattle.std.proofs.Common.{◌+◌, ◌∷◌, ◌∙◌, ap, sym, subst, length}
use Rattle.text_resolve.specs.Parts.{methods_of}
use Rattle.text_resolve.specs.Methods.{Leads}
use Rattle.text_resolve.proofs.PartsForms.{at_method, at_constant}
use Rattle.text_resolve.proofs.methods.add_part.Goals as goal

pub returns-in_ok-add_method-in-Method : goal.returns-in_ok-add_method-in-Method
returns-in_ok-add_method-in-Method c = λ parts rest table so.
    let file = c.args.file.now in
    let top = c.args.top in
    let before = subst (λ n. Leads file parts top n (methods_of (c.args.part ∷ rest)) c.args.drafts.now) (sym c.len-place.ensures) so in
    let led = c.in_ok-add_method-in-Method.ensures.leads parts top c.len-place.result table c.is_at.ensures (methods_of rest) (at_method file parts top c.len-place.result c.args.part c.in-Method.method rest c.args.drafts.now c.in-Method.is before) in
    subst (λ n. Leads file parts top n (methods_of rest) c.add_method.new.drafts) (ap (λ n. n + 1) c.len-place.ensures ∙ sym c.in_ok-add_method-in-Method.ensures.one) led

pub returns-in-Constant : goal.returns-in-Constant
returns-in-Constant c = λ parts rest table so.
    at_constant c.args.file.now parts c.args.top _ c.args.part c.in-Constant._constant rest _ c.in-Constant.is so
