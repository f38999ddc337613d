use Rattle.std.proofs.Common.{◌∙◌, ◌++◌, ap, rules, sym}
use Rattle.sem_pages.proofs.Comparing.{of_header}
use Rattle.sem_pages.proofs.sides.goes_past.Goals as goal

pub returns-in-Some : goal.returns-in-Some
returns-in-Some c is front come =
    let more = c.goes_past_word.ensures is front come in (more.0, more.1 ∙ ap (λ z. front ++ z) (sym (of_header c.args.field.now c.args.shown.now _ (search rules) (search rules))))
