-- What `why --robust` prints of an item that can't be packed for all that a receiver may hold: a line for each format (docs/FORMATS.md).
use Rattle.std.specs.Prelude.{ℕ, List, [], ◌++◌, codes, decimal, flat_map}
use Rattle.text_source.specs.Places.{line_of, column_of}
use Rattle.sem_profile.specs.declared.profile.Method.{Method}
use Rattle.walk_loss.specs.declared.unserved.Lack.{Lack}
use Rattle.tool_loss.specs.Loss.{unserved_words}
use Rattle.tool_items.specs.Why.{reason_text}
use Rattle.tool_names.specs.Names.{format_name, method_name, method_place}

-- after how many lost packets what doesn't serve
abbrev pub lack_words : ℕ → List ℕ → List ℕ
lack_words gap unserved = codes "lost " ++ decimal gap ++ codes ": " ++ unserved

abbrev pub lack_text : ℕ → ℕ → List Method → ℕ → Lack → List ℕ
lack_text line column methods top l = reason_text line column [] (method_name methods top) (format_name methods top l.format) (lack_words l.gap (unserved_words l.unserved))

-- each after a line feed, at the place of the top method
abbrev pub lacks_text : List ℕ → List Method → ℕ → List Lack → List ℕ
lacks_text octets methods top ls = flat_map (lack_text (line_of octets (method_place methods top).from) (column_of octets (method_place methods top).from) methods top) ls
