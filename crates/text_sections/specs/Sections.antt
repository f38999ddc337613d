-- Which sections a method has.
use Rattle.std.specs.Prelude.{◌&&◌, ◌||◌, ℕ, Bool, List, length, filter, Option, Some, None, if◌then◌else◌, nat_eq, nat_lt}
use Rattle.sem_profile.specs.declared.fault.ProfileFault.{ProfileFault}
use Rattle.sem_profile.specs.declared.fault.ProfileFaultKind.TheVariants as faults
use Rattle.sem_profile.specs.Faults.{about}
use Rattle.text_tree.specs.declared.tree.Section.{Section}
use Rattle.text_tree.specs.declared.tree.Method.{Method}
use Rattle.text_sections.specs.Mentions.{is_in}
use Rattle.text_sections.specs.declared.mention.Group.{Group}
use Rattle.text_sections.specs.declared.mention.Group.TheVariants as groups

abbrev pub count_in : Group → List Section → ℕ
count_in group sections = length (filter (λ s. is_in group s.kind) sections)

-- one UNCOMPRESSED, and one format, or several that are named
abbrev pub are_complete : List Section → Bool
are_complete sections =
    nat_eq (count_in groups.Header sections) 1 && (nat_eq (count_in groups.Formats sections) 1 || nat_lt 1 (count_in groups.Formats sections) && nat_eq (count_in groups.Unnamed sections) 0)

abbrev pub incomplete : Method → Option ProfileFault
incomplete m = if are_complete m.sections then None else Some (about faults.Sections m.name)
