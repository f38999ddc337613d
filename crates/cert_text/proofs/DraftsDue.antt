-- What is due by a draft.
use Rattle.std.specs.Prelude.{List, Option}
use Rattle.sem_profile.specs.declared.profile.Format.{Format}
use Rattle.sem_profile.specs.declared.profile.Method.{Method}
use Rattle.cert_text.specs.declared.draft.Draft.{Draft}
use Rattle.cert_text.specs.declared.draft.Stage.{Stage}
use Rattle.cert_text.specs.declared.draft.Stage.TheVariants as stage
use Rattle.cert_text.specs.Drafts.{open_method, open_format}
use Rattle.cert_text.specs.Due.{Begun, no_list, a_tree, a_plan, Due}
use Rattle.cert_text.specs.Shapes.{method_within, format_within}

abbrev pub method_at : List Method → Draft → Option Method
method_at methods d = method_within d.stage (open_method methods d)

abbrev pub format_at : List Method → Draft → Option Format
format_at methods d = format_within d.stage (open_format methods d)

abbrev pub begun_at : Stage → Draft → Begun
begun_at stage.Tree d = a_tree d.tree
begun_at stage.Read d = a_plan d.read
begun_at stage.Write d = a_plan d.write
begun_at _ d = no_list

abbrev pub due_of : List Method → Draft → Due
due_of methods d = record { version = d.version; method = method_at methods d; format = format_at methods d; begun = begun_at d.stage d }
