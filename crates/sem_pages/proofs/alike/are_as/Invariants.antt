use Rattle.sem_filling.proofs.Each.{Before}
use Rattle.sem_pages.specs.Alike.{CallAs}
use Rattle.sem_pages.proofs.alike.are_as.Given as goal

abbrev pub invariant-loop-format : goal.invariant-loop-format
invariant-loop-format l = Before (λ j f. CallAs f.fields l.first × CallAs l.first f.fields) l.formats l.format-index
