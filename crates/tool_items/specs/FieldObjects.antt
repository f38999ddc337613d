-- What `fields` lists of a filling, as an object of JSON (docs/FORMATS.md, JSON lines): of the same values as its table.
use Rattle.std.specs.Prelude.{ℕ, ◌+◌, Bool, List, [], ◌++◌, Option, None, Some, codes, flat_map, option_map}
use Rattle.std.specs.List.{enumerate_from}
use Rattle.json.specs.Token.{Token}
use Rattle.sem_filling.specs.declared.filling.Filling.{Filling, out-Filling}
use Rattle.sem_filling.specs.declared.filling.FilledField.TheOpen.{FilledField-F, Filling-F}
use Rattle.sem_filling.specs.declared.filling.FilledField.TheFolds.{fold-Filling}
use Rattle.sem_profile.specs.declared.profile.Declared.{Declared}
use Rattle.sem_profile.specs.declared.profile.Encoding.{Encoding}
use Rattle.sem_profile.specs.declared.profile.Encoding.TheVariants as encoding
use Rattle.sem_profile.specs.declared.profile.Method.{Method}
use Rattle.tool_items.specs.Fields.{library_word, part_word}
use Rattle.tool_names.specs.Names.{callee, encoding_at, format_name, method_name}
use Rattle.tool_names.specs.Objects.{array_closed, array_opened, bits, closed, line, null_member, number, opened, text}

abbrev pub none_members : List Token
none_members = null_member (codes "method") ++ null_member (codes "format")

abbrev pub library_members : List ℕ → List Token
library_members word = text (codes "method") word ++ null_member (codes "format")

abbrev pub format_member : List Method → ℕ → Option ℕ → List Token
format_member methods k None = null_member (codes "format")
format_member methods k (Some n) = text (codes "format") (format_name methods k n)

abbrev pub call_members : List Method → ℕ → Option ℕ → List Token
call_members methods k inside = text (codes "method") (method_name methods k) ++ format_member methods k inside

-- what encodes a field: a library method; a method of the profile, with the format of the filling inside; or nothing
abbrev pub method_members : List Method → Option Encoding → Option ℕ → List Token
method_members methods None inside = none_members
method_members methods (Some encoding.Bare) inside = none_members
method_members methods (Some (encoding.Library l)) inside = library_members (library_word l)
method_members methods (Some (encoding.Call k arguments)) inside = call_members methods k inside

abbrev pub declared_tokens : ℕ → List ℕ → List ℕ → List Token
declared_tokens depth name part = opened ++ number (codes "depth") depth ++ text (codes "name") name ++ text (codes "part") part

abbrev pub sides_tokens : List Bool → List Bool → List Token
sides_tokens uncompressed compressed = bits (codes "uncompressed") uncompressed ++ bits (codes "compressed") compressed

abbrev pub field_tokens : List Method → Option Encoding → ℕ → Declared → List Bool → List Bool → Option ℕ → List Token
field_tokens methods encoding depth declared uncompressed compressed inside =
    declared_tokens depth declared.name (part_word declared.part) ++ sides_tokens uncompressed compressed ++ method_members methods encoding inside ++ closed

-- what is listed of a filling: the number of its format; and its fields, by the number of its method and by how deep it is inside others
pub record Listed : Type 0 where
  pub format : ℕ
  pub tokens : ℕ → ℕ → List Token

-- of the filling inside a field, where that calls a method
abbrev pub inner_tokens : Option ℕ → ℕ → Option Listed → List Token
inner_tokens None depth inside = []
inner_tokens (Some k) depth None = []
inner_tokens (Some k) depth (Some listed) = listed.tokens k (depth + 1)

-- a field, and then those of the filling inside it
abbrev pub both_tokens : List Method → FilledField-F (Option Encoding → ℕ → List Token) Listed → Option Encoding → ℕ → List Token
both_tokens methods g encoding depth =
    field_tokens methods encoding depth g.declared g.uncompressed g.compressed (option_map (λ l. l.format) g.inner) ++ inner_tokens (callee encoding) depth g.inner

-- those of its fields, in field order
abbrev pub level_tokens : List Method → Filling-F (Option Encoding → ℕ → List Token) Listed → Listed
level_tokens methods f = record {
  format = f.format;
  tokens = λ k depth. flat_map (λ p. p.1 (encoding_at methods k f.format p.0) depth) (enumerate_from 0 f.fields);
}

abbrev pub listed : List Method → Filling → Listed
listed methods = fold-Filling (Option Encoding → ℕ → List Token) Listed (both_tokens methods) (level_tokens methods)

abbrev pub headed : List ℕ → ℕ → List ℕ → ℕ → List Token
headed what number_is format count = opened ++ text (codes "kind") what ++ number (codes "number") number_is ++ text (codes "format") format ++ number (codes "bits") count

-- a filling of the top
abbrev pub fields_object : List Method → ℕ → List ℕ → ℕ → ℕ → Filling → List ℕ
fields_object methods top what number_is count f =
    line (headed what number_is (format_name methods top (out-Filling f).format) count ++ array_opened (codes "fields") ++ (listed methods f).tokens top 0 ++ array_closed)
