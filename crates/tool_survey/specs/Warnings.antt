-- What `lint` prints below the lines on formats by which nothing can be packed: warnings (docs/FORMATS.md).
use Rattle.std.specs.Prelude.{◌≡◌, ℕ, ◌-◌, ◌^◌, Bool, true, false, List, [], ◌++◌, codes, decimal, flat_map, nat_eq, nat_lt, string_bytes, if◌then◌else◌}
use Rattle.std.specs.List.{enumerate_from}
use Rattle.text_source.specs.Places.{line_of, column_of}
use Rattle.sem_profile.specs.declared.profile.Format.{Format}
use Rattle.sem_profile.specs.declared.profile.Method.{Method}
use Rattle.sem_profile.specs.Resolved.{Resolved}
use Rattle.cert_types.specs.declared.certificate.Version.TheVariants.{One}
use Rattle.cert_types.specs.Kept.{Certified, Entries, candidate_limit}
use Rattle.cert_prove.specs.Proved.{IsProved, IsUnproved}
use Rattle.cert_prove.specs.declared.unproved.Unproved.{Unproved}
use Rattle.cert_prove.specs.declared.unproved.Unproved.TheVariants.{OutOfMemory}
use Rattle.sem_lint.specs.declared.needs.Needing.{Needing}
use Rattle.sem_lint.specs.declared.spelled.Misspelled.{Misspelled}
use Rattle.sem_lint.specs.declared.unlike.UnlikeCall.{UnlikeCall}
use Rattle.sem_lint.specs.declared.unnoticed.Unnoticed.{Unnoticed}
use Rattle.sem_lint.specs.Needs.{AreNeeding}
use Rattle.sem_lint.specs.Paths.{AreThose, IsUnknown}
use Rattle.sem_lint.specs.Spelled.{misspelled_names}
use Rattle.sem_lint.specs.Unlike.{unlike_calls}
use Rattle.sem_lint.specs.Unnoticed.{AreUnnoticed}
use Rattle.tool_names.specs.declared.candidates.Counts.{Counts}
use Rattle.tool_names.specs.declared.candidates.Factor.{Factor}
use Rattle.tool_names.specs.Candidates.{AreCounted, factors_of, format_count, method_count, write_steps}
use Rattle.tool_names.specs.Names.{field_name, format_name, method_name, method_place}

-- ---- where a line begins

-- a line and a column of the profile, and the method there
abbrev pub head_words : ℕ → ℕ → List ℕ → List ℕ
head_words line column method = decimal line ++ codes ":" ++ decimal column ++ codes ": warning " ++ method

abbrev pub method_head : List ℕ → List Method → ℕ → List ℕ
method_head octets methods k = head_words (line_of octets (method_place methods k).from) (column_of octets (method_place methods k).from) (method_name methods k)

-- the same of a format of the method
abbrev pub format_head : List ℕ → List Method → ℕ → ℕ → List ℕ
format_head octets methods k n = method_head octets methods k ++ codes "." ++ format_name methods k n

-- ---- what the rules find

-- a format that needs an entry of the context
abbrev pub needing_words : List ℕ → List ℕ → List ℕ
needing_words head path = head ++ codes " is never used: it needs " ++ path ++ codes " in the context, which no format that can come before puts there\n"

abbrev pub needing_line : List ℕ → List Method → Needing → List ℕ
needing_line octets methods w = needing_words (format_head octets methods w.method w.format) (string_bytes w.path)

abbrev pub needing_lines : List ℕ → List Method → List Needing → List ℕ
needing_lines octets methods found = flat_map (needing_line octets methods) found

-- a name that may be misspelled, and the header field that may be meant
abbrev pub misspelled_words : List ℕ → List ℕ → List ℕ → List ℕ
misspelled_words head name meant = head ++ codes ": " ++ name ++ codes " is listed here alone, and " ++ meant ++ codes " is a field of the header: is it meant?\n"

abbrev pub misspelled_line : List ℕ → List Method → Misspelled → List ℕ
misspelled_line octets methods w =
    misspelled_words (format_head octets methods w.method w.format) (field_name methods w.method w.format w.field) (field_name methods w.method w.format w.meant)

abbrev pub misspelled_lines : List ℕ → List Method → List Misspelled → List ℕ
misspelled_lines octets methods found = flat_map (misspelled_line octets methods) found

-- a format by which a wrong reference is not noticed
abbrev pub unnoticed_words : List ℕ → List ℕ
unnoticed_words head = head ++ codes ": a wrong reference is not noticed\n"

abbrev pub unnoticed_line : List ℕ → List Method → Unnoticed → List ℕ
unnoticed_line octets methods w = unnoticed_words (format_head octets methods w.method w.format)

abbrev pub unnoticed_lines : List ℕ → List Method → List Unnoticed → List ℕ
unnoticed_lines octets methods found = flat_map (unnoticed_line octets methods) found

-- a method whose formats don't call alike
abbrev pub unlike_words : List ℕ → List ℕ → List ℕ → List ℕ
unlike_words head name callee = head ++ codes ": " ++ name ++ codes " calls " ++ callee ++ codes " in one format and not in another: losses multiply what a receiver may hold\n"

abbrev pub unlike_line : List ℕ → List Method → UnlikeCall → List ℕ
unlike_line octets methods w = unlike_words (method_head octets methods w.method) (field_name methods w.method w.format w.field) (method_name methods w.callee)

abbrev pub unlike_lines : List ℕ → List Method → List UnlikeCall → List ℕ
unlike_lines octets methods found = flat_map (unlike_line octets methods) found

-- a path of the context at which no format has a field
abbrev pub unknown_line : List ℕ → List ℕ
unknown_line path = codes "context: warning " ++ path ++ codes ": no format has a field there\n"

abbrev pub unknown_lines : List (List ℕ) → List ℕ
unknown_lines paths = flat_map unknown_line paths

-- ---- candidates

-- a number as far as 64 bits go: the greatest stands for all above it
abbrev pub count_text : ℕ → List ℕ
count_text count = if nat_eq count (2 ^ 64 - 1) then decimal count ++ codes " or more" else decimal count

-- a method with more candidates than the limit
abbrev pub crowded_words : List ℕ → List ℕ → List ℕ
crowded_words head count = head ++ codes ": " ++ count ++ codes " candidates an item, and the limit is " ++ decimal candidate_limit ++ codes "\n"

abbrev pub candidate_word : ℕ → List ℕ
candidate_word count = if nat_eq count 1 then codes " candidate" else codes " candidates"

-- what multiplies: each field with its number of ways, after a sign
abbrev pub sign_at : ℕ → List ℕ
sign_at place = if nat_eq place 0 then codes " = " else codes " x "

abbrev pub factor_words : List ℕ → List ℕ → List ℕ → List ℕ
factor_words sign name count = sign ++ name ++ codes " " ++ count

abbrev pub factor_text : List Method → ℕ → ℕ → ℕ → Factor → List ℕ
factor_text methods k n place f = factor_words (sign_at place) (field_name methods k n f.field) (count_text f.count)

abbrev pub factors_text : List Method → ℕ → ℕ → List Factor → List ℕ
factors_text methods k n fs = flat_map (λ (f : ℕ × Factor). factor_text methods k n f.0 f.1) (enumerate_from 0 fs)

abbrev pub ways_words : List ℕ → List ℕ → List ℕ → List ℕ → List ℕ
ways_words head count word factors = head ++ codes ": " ++ count ++ word ++ factors ++ codes "\n"

-- the candidates of a format, with what multiplies in its write plan
abbrev pub ways_line : List ℕ → List Method → Entries → Counts → ℕ → ℕ → Format → List ℕ
ways_line octets methods cert counts k n format =
    ways_words (format_head octets methods k n) (count_text (format_count counts k n)) (candidate_word (format_count counts k n))
    (factors_text methods k n (factors_of counts.methods format (write_steps cert k n)))

abbrev pub ways_lines : List ℕ → List Method → Entries → Counts → ℕ → List Format → List ℕ
ways_lines octets methods cert counts k formats = flat_map (λ (f : ℕ × Format). ways_line octets methods cert counts k f.0 f.1) (enumerate_from 0 formats)

-- a method, where it has more than the limit, and then each format of it
abbrev pub crowded_lines : List ℕ → List Method → Entries → Counts → ℕ → Method → List ℕ
crowded_lines octets methods cert counts k m =
    if nat_lt candidate_limit (method_count counts k) then crowded_words (method_head octets methods k) (count_text (method_count counts k)) ++ ways_lines octets methods cert counts k m.formats else []

abbrev pub candidates_text : List ℕ → List Method → Entries → Counts → List ℕ
candidates_text octets methods cert counts = flat_map (λ (m : ℕ × Method). crowded_lines octets methods cert counts m.0 m.1) (enumerate_from 0 methods)

-- by the numbers of a certificate
pub record AreCountedLines (octets : List ℕ) (p : Resolved) (cert : Entries) (text : List ℕ) : Type 0 where
  pub counts : Counts
  pub are_counted : AreCounted p.methods cert counts
  pub text_is : text ≡ candidates_text octets p.methods cert counts

-- a refusal where memory is out is none of the profile
abbrev pub is_of_profile : Unproved → Bool
is_of_profile OutOfMemory = false
is_of_profile _ = true

-- The lines on methods with too many candidates by the certificate of version 1 that the prover makes. Where it makes none there are no lines.
pub data AreCandidates (octets : List ℕ) (p : Resolved) : List ℕ → Type 0 where
  unproved : (why : Unproved) → IsUnproved One p why → is_of_profile why ≡ true → AreCandidates octets p []
  counted : {text : List ℕ} (cert : Certified) → IsProved One p cert → AreCountedLines octets p cert.methods text → AreCandidates octets p text

-- ---- all of them

abbrev pub warning_lines : List ℕ → List Method → List Needing → List Misspelled → List Unnoticed → List UnlikeCall → List ℕ → List (List ℕ) → List ℕ
warning_lines octets methods needing misspelled unnoticed unlike candidates unknown =
    needing_lines octets methods needing ++ misspelled_lines octets methods misspelled ++ unnoticed_lines octets methods unnoticed ++ unlike_lines octets methods unlike ++ candidates
    ++ unknown_lines unknown

-- The text is a line for each format that is never used in a flow that begins with entries at these paths, for each name that may be misspelled, for formats by which a wrong
-- reference is not noticed, for methods whose formats don't call alike, for methods with too many candidates, and for each of the paths at which no format has a field.
pub record AreWarnings (octets : List ℕ) (p : Resolved) (paths : List (List ℕ)) (text : List ℕ) : Type 0 where
  pub needing : List Needing
  pub are_needing : AreNeeding p paths needing
  pub unnoticed : List Unnoticed
  pub are_unnoticed : AreUnnoticed p unnoticed
  pub candidates : List ℕ
  pub are_candidates : AreCandidates octets p candidates
  pub unknown : List (List ℕ)
  pub are_unknown : AreThose (IsUnknown p) paths unknown
  pub text_is : text ≡ warning_lines octets p.methods needing (misspelled_names p.methods) unnoticed (unlike_calls p.methods) candidates unknown
