use Rattle.std.proofs.Common.{◌≡◌, ◌∙◌, ap, of_z, refl, rules, sym, to_z, w64}
use Rattle.sem_pages.specs.declared.chains.Operand.TheVariants as operand
use Rattle.sem_pages.proofs.Chaining.{one_link, spells_pair}
use Rattle.sem_pages.proofs.chains.pair_of.Goals as goal

pub returns-in-Field-Number : goal.returns-in-Field-Number
returns-in-Field-Number c = λ chains whole s.
    let own : to_z w64 (of_z w64 c.in-Field-Number.number) ≡ c.in-Field-Number.number = (search rules) in
    spells_pair chains c.args.first c.args.links.now _ _ whole (one_link c.args.links.now _ (search rules)) c.in-Field-Number.is-0 (c.in-Field-Number.is-1 ∙ ap operand.Number (sym own)) refl s
