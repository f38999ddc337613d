-- How the code finds what is wrong with a line, for its inner clauses alone: what the code means is `Tells`.
use Rattle.std.specs.Prelude.{◌≡◌, ℕ, ◌++◌, map, ◌==◌, ◌&&◌, ◌||◌, not, Bool, true, false, if◌then◌else◌, List, [], ◌∷◌, length, Option, Some, None, is_none, option_and_then, slice_get, unwrap_or, codes}
use Rattle.std.specs.Str.{bytes_eq}
use Rattle.cert_text.specs.declared.faults.Fault.{Fault}
use Rattle.cert_text.specs.declared.faults.Fault.TheVariants.{BadWord, UnknownName, AboveLimits}
use Rattle.cert_types.specs.declared.certificate.Version.{Version}
use Rattle.cert_types.specs.declared.certificate.Version.TheVariants.{One, Two}
use Rattle.sem_profile.specs.declared.profile.Format.{Format}
use Rattle.sem_profile.specs.declared.profile.Method.{Method}
use Rattle.cert_text.specs.declared.draft.Draft.{Draft}
use Rattle.cert_text.specs.declared.draft.Standing.{Standing}
use Rattle.cert_text.specs.declared.draft.Stage.{Stage}
use Rattle.cert_text.specs.declared.draft.Stage.TheVariants as stage
use Rattle.cert_types.specs.Kept.{offset_limit}
use Rattle.cert_text.specs.Drafts.{words, number_below, constant_of, method_place, format_place, node_of, step_of, next, read_lines, start}
use Rattle.cert_text.specs.Table.{is_number, is_signed}

-- the word is a number in its range
abbrev pub in_range : {A : Type 0} → Option A → Option Fault
in_range (Some n) = None
in_range None = Some AboveLimits

abbrev pub number_fault : {A : Type 0} → Bool → Option A → Option Fault
number_fault true value = in_range value
number_fault false value = Some BadWord

abbrev pub is_plain_step : List ℕ → Bool
is_plain_step word = bytes_eq word (codes "take") || (bytes_eq word (codes "call") || (bytes_eq word (codes "choose") || bytes_eq word (codes "ask")))

abbrev pub one_fault : List ℕ → Option Fault
one_fault word =
    if bytes_eq word (codes "none") || (bytes_eq word (codes "read") || (bytes_eq word (codes "write") || bytes_eq word (codes "end"))) then None else Some BadWord

abbrev pub two_fault : List ℕ → List ℕ → Option Fault
two_fault word name =
    if bytes_eq word (codes "bit") then number_fault (is_number name) (number_below offset_limit name)
    else if bytes_eq word (codes "rohcfn-certificate") && (bytes_eq name (codes "1") || bytes_eq name (codes "2")) then None
    else if length name == 0 then Some BadWord
    else if bytes_eq word (codes "method") || (bytes_eq word (codes "format") || (bytes_eq word (codes "leaf") || is_plain_step word)) then None
    else Some BadWord

abbrev pub reference_fault : List ℕ → List ℕ → Option Fault
reference_fault word last = if bytes_eq word (codes "ref") then number_fault (is_signed last) (constant_of last) else Some BadWord

-- only the second version tests references
abbrev pub referring_fault : Version → List ℕ → List ℕ → Option Fault
referring_fault One word last = Some BadWord
referring_fault Two word last = reference_fault word last

abbrev pub three_fault : Version → List ℕ → List ℕ → List ℕ → Option Fault
three_fault version word name last =
    if length name == 0 then Some BadWord
    else if bytes_eq word (codes "param") then number_fault (is_signed last) (constant_of last)
    else if bytes_eq word (codes "solve") then number_fault (is_number last) (constant_of last)
    else if bytes_eq word (codes "library") && (bytes_eq last (codes "up") || bytes_eq last (codes "down")) then None
    else referring_fault version word last

abbrev pub four_fault : List ℕ → List ℕ → List ℕ → List ℕ → Option Fault
four_fault word name side last =
    if not (bytes_eq word (codes "length")) || (length name == 0 || not (bytes_eq side (codes "U") || bytes_eq side (codes "C"))) then Some BadWord
    else if bytes_eq last (codes "method") then None
    else number_fault (is_number last) (constant_of last)

-- what is wrong with a line of these words, wherever it stands in a certificate of that version
abbrev pub line_fault : Version → List (List ℕ) → Option Fault
line_fault version [] = Some BadWord
line_fault version (a ∷ []) = one_fault a
line_fault version (a ∷ b ∷ []) = two_fault a b
line_fault version (a ∷ b ∷ c ∷ []) = three_fault version a b c
line_fault version (a ∷ b ∷ c ∷ e ∷ []) = four_fault a b c e
line_fault version (a ∷ b ∷ c ∷ e ∷ g ∷ more) = Some BadWord

-- ---- names

-- the method and the format whose lines are being read, where there is one
abbrev pub method_within : Stage → Option Method → Option Method
method_within stage.Version method = None
method_within stage.Between method = None
method_within stage.End method = None
method_within _ method = method

abbrev pub format_within : Stage → Option Format → Option Format
format_within stage.Head format = format
format_within stage.Read format = format
format_within stage.Write format = format
format_within _ format = None

-- where a line stands
abbrev pub stands_at : Draft → Standing
stands_at d = record { version = d.version; stage = d.stage; method = length d.entries; format = length d.formats }

abbrev pub standing_method : Standing → List Method → Option Method
standing_method place methods = method_within place.stage (slice_get methods place.method)

abbrev pub standing_format : Standing → List Method → Option Format
standing_format place methods = format_within place.stage (option_and_then (λ m. slice_get m.formats place.format) (slice_get methods place.method))

abbrev pub is_node : List ℕ → Bool
is_node word = bytes_eq word (codes "bit") || (bytes_eq word (codes "param") || (bytes_eq word (codes "ref") || (bytes_eq word (codes "leaf") || bytes_eq word (codes "none"))))

abbrev pub is_step : List ℕ → Bool
is_step word = is_plain_step word || (bytes_eq word (codes "library") || (bytes_eq word (codes "length") || bytes_eq word (codes "solve")))

-- no method that the top reaches
abbrev pub is_bare : Option Method → Bool
is_bare None = true
is_bare (Some m) = length m.formats == 0

abbrev pub lacks_method : List Method → List (List ℕ) → Bool
lacks_method methods [] = true
lacks_method methods (name ∷ more) = is_bare (option_and_then (slice_get methods) (method_place name methods))

abbrev pub lacks_format : Option Method → List (List ℕ) → Bool
lacks_format None more = false
lacks_format (Some m) [] = true
lacks_format (Some m) (name ∷ more) = is_none (format_place name m)

abbrev pub lacks_node : Version → Option Method → List ℕ → List (List ℕ) → Bool
lacks_node version None word more = false
lacks_node version (Some m) word more = is_none (node_of version m word more)

abbrev pub lacks_step : Option Format → List ℕ → List (List ℕ) → Bool
lacks_step None word more = false
lacks_step (Some f) word more = is_none (step_of f word more)

abbrev pub is_unknown : Standing → List Method → List ℕ → List (List ℕ) → Bool
is_unknown place methods word more =
    if bytes_eq word (codes "method") then lacks_method methods more
    else if bytes_eq word (codes "format") then lacks_format (standing_method place methods) more
    else if is_node word then lacks_node place.version (standing_method place methods) word more
    else if is_step word then lacks_step (standing_format place methods) word more
    else false

-- ---- the fault

abbrev pub goes_on : Stage → List ℕ → Bool
goes_on stage.Tree word = is_node word
goes_on stage.Read word = is_step word
goes_on stage.Write word = is_step word
goes_on _ word = false

abbrev pub shaped_fault : Standing → List Method → List ℕ → List (List ℕ) → Fault
shaped_fault place methods word more = if is_unknown place methods word more then UnknownName else if goes_on place.stage word then AboveLimits else BadWord

abbrev pub words_fault : Standing → List Method → List (List ℕ) → Fault
words_fault place methods [] = BadWord
words_fault place methods (word ∷ more) = shaped_fault place methods word more

abbrev pub fault_told : Standing → List Method → List (List ℕ) → Fault
fault_told place methods words = unwrap_or (line_fault place.version words) (words_fault place methods words)

-- the lines before that of the number make a draft, of which this line makes none
pub record Stops (methods : List Method) (numbered : List (ℕ × List ℕ)) (fault : Fault) (number : ℕ) : Type 0 where
  pub before : List (ℕ × List ℕ)
  pub line : List ℕ
  pub after : List (ℕ × List ℕ)
  pub cut : numbered ≡ before ++ (number, line) ∷ after
  pub draft : Draft
  pub so_far : read_lines methods start (map (λ l. l.1) before) ≡ Some draft
  pub stops : next methods draft (words line) ≡ None
  pub told : fault ≡ fault_told (stands_at draft) methods (words line)
