-- The calls of a file.
use Rattle.std.specs.Prelude.{◌≡◌, false, ℕ, List, [], Option, Some, None, slice_get, map, position, if◌then◌else◌}
use Rattle.std.specs.List.{filter_map, flat_map}
use Rattle.std.specs.Option.{option_map}
use Rattle.std.specs.Str.{bytes_eq}
use Rattle.text_tree.specs.declared.tree.Encoding.{Encoding}
use Rattle.text_tree.specs.declared.tree.Encoding.TheVariants as encodings
use Rattle.text_tree.specs.declared.tree.Item.{Item}
use Rattle.text_tree.specs.declared.tree.Item.TheVariants as items
use Rattle.text_tree.specs.declared.tree.Section.{Section}
use Rattle.text_tree.specs.declared.tree.Method.{Method}
use Rattle.text_tree.specs.declared.tree.Part.{Part}
use Rattle.text_tree.specs.Limits.{is_initial_kind}
use Rattle.sem_profile.specs.Words.{word}
use Rattle.text_statements.specs.Callees.{is_library}
use Rattle.text_resolve.specs.declared.calls.CallSite.{CallSite}
use Rattle.text_resolve.specs.Parts.{methods_of}

-- none of the names is a library method's
abbrev pub AreOwn : List (List ℕ) → Type 0
AreOwn names = (k : ℕ) (name : List ℕ) → slice_get names k ≡ Some name → is_library name ≡ false

-- the method that an encoding names
abbrev pub call_by : List ℕ → List (List ℕ) → Encoding → Option CallSite
call_by text methods (encodings.Call name arguments) = option_map (λ k. record { method = k; at = name }) (position (bytes_eq (word text name)) methods)
call_by text methods (encodings.Bits at count number) = None

abbrev pub call_of : List ℕ → List (List ℕ) → Item → Option CallSite
call_of text methods (items.Bound bound) = call_by text methods bound.encoding
call_of text methods (items.Field name bracket) = None
call_of text methods (items.Enforce at condition) = None

abbrev pub calls_in : List ℕ → List (List ℕ) → Section → List CallSite
calls_in text methods section = if is_initial_kind section.kind then [] else filter_map (call_of text methods) section.items

-- the calls of a method in the order of the text: all that its sections bind, INITIAL left out
abbrev pub calls_from : List ℕ → List (List ℕ) → Method → List CallSite
calls_from text methods method = flat_map (calls_in text methods) method.sections

abbrev pub callees_of : List ℕ → List (List ℕ) → Method → List ℕ
callees_of text methods method = map (λ c. c.method) (calls_from text methods method)

-- for each method of the file those that it calls
abbrev pub graph_of : List ℕ → List (List ℕ) → List Part → List (List ℕ)
graph_of text methods parts = map (callees_of text methods) (methods_of parts)
