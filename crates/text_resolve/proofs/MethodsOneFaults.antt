-- What faults formats and DEFAULT have is one for all settings of a method of the file.
use Rattle.std.proofs.Common.{◌≡◌, ◌∙◌, ap, ℕ, List, Option, Some, None, map, refl}
use Rattle.std.specs.Prelude.{ℤ, position, slice_get}
use Rattle.std.specs.Option.{option_map, option_or, unwrap_or}
use Rattle.std.specs.Str.{bytes_eq}
use Rattle.text_source.specs.declared.span.Span.{Span}
use Rattle.text_tree.specs.declared.tree.Encoding.{Encoding as TreeEncoding}
use Rattle.text_tree.specs.declared.tree.Encoding.TheVariants as trees
use Rattle.text_tree.specs.declared.tree.Expr.{Expr as Tree}
use Rattle.text_tree.specs.declared.tree.Item.{Item}
use Rattle.text_tree.specs.declared.tree.Item.TheVariants as items
use Rattle.text_tree.specs.declared.tree.Section.{Section}
use Rattle.sem_profile.specs.declared.fault.ProfileFault.{ProfileFault}
use Rattle.sem_profile.specs.Precedence.{earlier, earliest}
use Rattle.sem_profile.specs.Words.{word}
use Rattle.text_statements.specs.Names.{Names, names}
use Rattle.text_sections.specs.declared.mention.Mention.{Mention}
use Rattle.text_sections.specs.declared.mention.Group.TheVariants as groups
use Rattle.text_sections.specs.Fields.{in_field_order, encoding as encoding_by}
use Rattle.text_sections.specs.Mentions.{mentions_of, mentions_in, encoded, first_of, firsts, names_of}
use Rattle.text_statements.specs.declared.callee.Callee.{Callee}
use Rattle.text_statements.specs.declared.callee.Callee.TheVariants as callees
use Rattle.text_statements.specs.declared.callee.Methods.{Methods}
use Rattle.text_statements.specs.Arguments.{numbers_fault}
use Rattle.text_statements.specs.Callees.{library, callee}
use Rattle.text_statements.specs.Constraints.{item_fault}
use Rattle.text_statements.specs.Encodings.{call_fault, callee_fault, fault_of}
use Rattle.text_methods.specs.declared.drafts.Setting.{Setting}
use Rattle.text_methods.specs.Constraints.{statements, statement_fault}
use Rattle.text_methods.specs.Drafts.{encodings_fault, constraints_fault}
use Rattle.text_methods.specs.Encodings.{given, given_fault, own_fault, format_fault}
use Rattle.text_methods.specs.Defaults.{all_fields, bound_fault, default_items, default_fault}

-- two tables of methods with the same names and counts of parameters
pub record SameMethods (m n : Methods) : Type 0 where
  pub names : m.names.now ≡ n.names.now
  pub arities : m.arities.now ≡ n.arities.now

call_same : (s : Names) (m n : Methods) → SameMethods m n → (name : Span) (c : Callee) (xs : List Tree) → call_fault s m name c xs ≡ call_fault s n name c xs
call_same s m n same name callees.UncompressedValue xs = refl
call_same s m n same name callees.CompressedValue xs = refl
call_same s m n same name callees.Irregular xs = refl
call_same s m n same name callees.Static xs = refl
call_same s m n same name callees.Lsb xs = refl
call_same s m n same name callees.Crc xs = refl
call_same s m n same name (callees.Own k) xs = ap (λ (l : List ℕ). numbers_fault s name (unwrap_or (slice_get l k) 0) xs) same.arities

callee_same : (s : Names) (m n : Methods) → SameMethods m n → (name : Span) (o : Option Callee) (xs : List Tree) → callee_fault s m name o xs ≡ callee_fault s n name o xs
callee_same s m n same name (Some c) xs = call_same s m n same name c xs
callee_same s m n same name None xs = refl

fault_same : (s : Names) (m n : Methods) → SameMethods m n → (e : TreeEncoding) → fault_of s m e ≡ fault_of s n e
fault_same s m n same (trees.Bits at count value) = refl
fault_same s m n same (trees.Call name xs) =
    ap (λ (l : List (List ℕ)). callee_fault s m name (option_or (library (word s.text name)) (option_map callees.Own (position (bytes_eq (word s.text name)) l))) xs) same.names
    ∙ callee_same s m n same name (callee n (word s.text name)) xs

given_same : (s : Names) (m n : Methods) → SameMethods m n → (o : Option TreeEncoding) → given_fault s m o ≡ given_fault s n o
given_same s m n same (Some e) = fault_same s m n same e
given_same s m n same None = refl

own_same : (s : Names) (m n : Methods) → SameMethods m n → (item : Item) → own_fault s m item ≡ own_fault s n item
own_same s m n same (items.Bound b) = fault_same s m n same b.encoding
own_same s m n same (items.Field name bracket) = refl
own_same s m n same (items.Enforce at condition) = refl

bound_same : (s : Names) (m n : Methods) → SameMethods m n → (item : Item) → bound_fault s m item ≡ bound_fault s n item
bound_same s m n same (items.Bound b) = ap (λ o. earlier o (item_fault s (items.Bound b))) (fault_same s m n same b.encoding)
bound_same s m n same (items.Field name bracket) = refl
bound_same s m n same (items.Enforce at condition) = refl

format_same : (s : Names) (m n : Methods) → SameMethods m n → (sections : List Section) (choices : List (Option Mention)) (xs : List Item) → format_fault s m sections choices xs ≡ format_fault s n sections choices xs
unfolding format_fault
format_same s m n same sections choices xs = λ i. earlier (earliest (λ choice. given_same s m n same (given sections choice) i) choices) (earliest (λ item. own_same s m n same item i) xs)

-- ---- by what a setting tells

abbrev fields_by : List ℕ → List Section → ℕ → Section → List Mention
fields_by text sections k section = firsts text (in_field_order text sections (mentions_of text k section.items))

abbrev choices_by : List ℕ → List Section → ℕ → Section → List (Option Mention)
choices_by text sections k section =
    map (encoding_by text (first_of text (encoded (mentions_in text groups.Base 0 sections))) (first_of text (encoded (mentions_of text k section.items))) (first_of text (encoded (mentions_in text groups.Default 0 sections))))
    (fields_by text sections k section)

abbrev scope_by : List ℕ → List (List ℕ) → List ℤ → List (List ℕ) → List Section → ℕ → Section → Names
scope_by text constants values parameters sections k section = names text constants values parameters (names_of text (fields_by text sections k section))

abbrev format_faults : List ℕ → List (List ℕ) → List ℤ → List (List ℕ) → List Section → Methods → ℕ → Section → Option ProfileFault
format_faults text constants values parameters sections methods k section =
    earlier (format_fault (scope_by text constants values parameters sections k section) methods sections (choices_by text sections k section) section.items)
    (earliest (statement_fault (scope_by text constants values parameters sections k section)) (statements (scope_by text constants values parameters sections k section) (choices_by text sections k section) sections section.items))

abbrev default_faults : List ℕ → List (List ℕ) → List ℤ → List (List ℕ) → List Section → Methods → Option ProfileFault
default_faults text constants values parameters sections methods = earliest (bound_fault (names text constants values parameters (names_of text (all_fields text sections))) methods) (default_items sections)

-- two settings that tell the same
pub record TellTheSame (x y : Setting) : Type 0 where
  pub text : x.text.now ≡ y.text.now
  pub constants : x.constants.now ≡ y.constants.now
  pub values : x.values.now ≡ y.values.now
  pub parameters : x.parameters.now ≡ y.parameters.now
  pub sections : x.sections.now ≡ y.sections.now
  pub methods : SameMethods x.methods.now y.methods.now

pub same_format_faults : (x y : Setting) → TellTheSame x y → (k : ℕ) (section : Section)
    → earlier (encodings_fault x k section) (constraints_fault x k section) ≡ earlier (encodings_fault y k section) (constraints_fault y k section)
same_format_faults x y same k section =
    let changed : format_faults x.text.now x.constants.now x.values.now x.parameters.now x.sections.now x.methods.now k section ≡ format_faults y.text.now y.constants.now y.values.now y.parameters.now y.sections.now x.methods.now k section =
    λ i. format_faults (same.text i) (same.constants i) (same.values i) (same.parameters i) (same.sections i) x.methods.now k section in
    changed
    ∙ ap (λ o. earlier o (constraints_fault y k section))
    (format_same (scope_by y.text.now y.constants.now y.values.now y.parameters.now y.sections.now k section) x.methods.now y.methods.now same.methods y.sections.now (choices_by y.text.now y.sections.now k section) section.items)

pub same_default_fault : (x y : Setting) → TellTheSame x y → default_fault x ≡ default_fault y
same_default_fault x y same =
    let changed : default_faults x.text.now x.constants.now x.values.now x.parameters.now x.sections.now x.methods.now ≡ default_faults y.text.now y.constants.now y.values.now y.parameters.now y.sections.now x.methods.now =
    λ i. default_faults (same.text i) (same.constants i) (same.values i) (same.parameters i) (same.sections i) x.methods.now in
    changed
    ∙ (λ i. earliest (λ item. bound_same (names y.text.now y.constants.now y.values.now y.parameters.now (names_of y.text.now (all_fields y.text.now y.sections.now))) x.methods.now y.methods.now same.methods item i) (default_items y.sections.now))
