use Rattle.std.proofs.Common.{◌≡◌, fold, drop}
use Rattle.sem_profile.specs.Precedence.{earlier}
use Rattle.text_sections.specs.Mentions.{first_of}
use Rattle.text_sections.specs.Tables.{find_in}
use Rattle.text_sections.specs.Causes.{earliest, look_in, unknown}
use Rattle.text_sections.proofs.lookups.all_not_among.Given as goal

abbrev pub invariant-loop-mention : goal.invariant-loop-mention
invariant-loop-mention l =
    fold (λ found m. earlier found (unknown l.text (look_in (find_in l.table) (first_of l.text l.more)) m)) l.found (drop l.mention-index l.mentions) ≡ earliest (unknown l.text (look_in (find_in l.table) (first_of l.text l.more))) l.mentions
