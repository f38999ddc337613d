use Rattle.std.proofs.Common.{◌≡◌, fold, drop}
use Rattle.sem_profile.specs.Precedence.{earlier}
use Rattle.text_sections.specs.Tables.{find_in}
use Rattle.text_sections.specs.Causes.{earliest, encoded_before}
use Rattle.text_sections.proofs.lookups.all_encoded_before.Given as goal

abbrev pub invariant-loop-mention : goal.invariant-loop-mention
invariant-loop-mention l = fold (λ found m. earlier found (encoded_before l.text (find_in l.table) m)) l.found (drop l.mention-index l.mentions) ≡ earliest (encoded_before l.text (find_in l.table)) l.mentions
