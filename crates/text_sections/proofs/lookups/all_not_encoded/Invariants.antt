use Rattle.std.proofs.Common.{◌≡◌, fold, drop}
use Rattle.sem_profile.specs.Precedence.{earlier}
use Rattle.text_sections.specs.Tables.{find_in}
use Rattle.text_sections.specs.Causes.{earliest, look_in, not_encoded}
use Rattle.text_sections.proofs.lookups.all_not_encoded.Given as goal

abbrev pub invariant-loop-mention : goal.invariant-loop-mention
invariant-loop-mention l =
    fold (λ found m. earlier found (not_encoded l.text (look_in (find_in l.table) (find_in l.more)) m)) l.found (drop l.mention-index l.mentions) ≡ earliest (not_encoded l.text (look_in (find_in l.table) (find_in l.more))) l.mentions
