-- A section gives one format under a setting, up to boxes.
use Rattle.std.proofs.Common.{◌≡◌, ◌∙◌, ap, ℕ, List, [], ◌∷◌, ◌++◌, Option, Some, None, drop, get_or, map, refl, sym}
use Rattle.std.specs.Prelude.{ℤ, Bool, position}
use Rattle.std.specs.List.{AllZip, flat_map}
use Rattle.std.specs.Option.{option_map, option_or}
use Rattle.std.specs.Str.{bytes_eq}
use Rattle.std.proofs.lemmas.List.{map-append}
use Rattle.text_source.specs.declared.span.Span.{Span}
use Rattle.text_tree.specs.declared.tree.Bracket.{Bracket as TreeBracket}
use Rattle.text_tree.specs.declared.tree.Bracket.TheVariants as brackets
use Rattle.text_tree.specs.declared.tree.Encoding.{Encoding as TreeEncoding}
use Rattle.text_tree.specs.declared.tree.Encoding.TheVariants as trees
use Rattle.text_tree.specs.declared.tree.Expr.{Expr as Tree}
use Rattle.text_tree.specs.declared.tree.Item.{Item}
use Rattle.text_tree.specs.declared.tree.Item.TheVariants as items
use Rattle.text_tree.specs.declared.tree.Section.{Section}
use Rattle.sem_expr.specs.declared.expr.Attribute.{Attribute}
use Rattle.sem_expr.specs.declared.expr.Expr.{Expr}
use Rattle.sem_expr.specs.declared.expr.Measure.TheVariants.{Value}
use Rattle.sem_expr.specs.declared.expr.Side.{Side}
use Rattle.sem_expr.specs.declared.expr.Side.TheVariants.{Uncompressed}
use Rattle.sem_expr.specs.declared.expr.Subject.TheVariants.{This}
use Rattle.sem_profile.specs.declared.profile.Constraint.{Constraint}
use Rattle.sem_profile.specs.declared.profile.CrcArguments.{CrcArguments}
use Rattle.sem_profile.specs.declared.profile.Encoding.{Encoding}
use Rattle.sem_profile.specs.declared.profile.Encoding.TheVariants as encoding
use Rattle.sem_profile.specs.declared.profile.Format.{Format}
use Rattle.sem_profile.specs.declared.profile.Library.TheVariants as library
use Rattle.sem_profile.specs.Words.{word}
use Rattle.text_statements.specs.Names.{Names, names, field_of}
use Rattle.text_sections.specs.declared.mention.Mention.{Mention}
use Rattle.text_sections.specs.declared.mention.Group.TheVariants as groups
use Rattle.text_sections.specs.Fields.{in_field_order, place, encoding as encoding_by}
use Rattle.text_sections.specs.Mentions.{mentions_of, mentions_in, encoded, first_of, firsts, names_of}
use Rattle.text_statements.specs.declared.callee.Callee.{Callee}
use Rattle.text_statements.specs.declared.callee.Callee.TheVariants as callees
use Rattle.text_statements.specs.declared.callee.Methods.{Methods}
use Rattle.text_statements.specs.Arguments.{AreCrc, are_crc}
use Rattle.text_statements.specs.Callees.{library as library_method}
use Rattle.text_statements.specs.Constraints.{on_index, BracketMeans, OptionalMeans, ItemMeans}
use Rattle.text_statements.specs.Constraints as statements
use Rattle.text_statements.specs.Encodings.{Calls, Means, bit_text}
use Rattle.text_statements.specs.Encodings as meant
use Rattle.text_methods.specs.declared.drafts.Setting.{Setting}
use Rattle.text_methods.specs.Constraints.{Statement, AreNumbered, none, more}
use Rattle.text_methods.specs.Constraints as formats
use Rattle.text_methods.specs.Drafts.{fields, scope, chosen}
use Rattle.text_methods.specs.Encodings.{GivenMeans, FieldMeans, given}
use Rattle.text_methods.specs.Encodings as chosen_by
use Rattle.text_methods.specs.Fields.{part, is_one_of, initial_of, joined}
use Rattle.text_methods.specs.Formats.{IsFormat, name}
use Rattle.text_resolve.specs.Plain.{PlainExpr, PlainEncoding, bare, uncompressed_value, compressed_value, irregular, static, lsb, crc, call, plain_expr, plain_encoding, PlainConstraint, bracket, plain_constraint, PlainField, plain_field, PlainFormat, plain_format, OneFormat}
use Rattle.text_resolve.proofs.PlainTrees.{reading, number_of, number_is, numbers_are, subject_given, side_given, data_is, conjuncts_are}

-- ---- encodings

abbrev no_attribute : Attribute
no_attribute = record { subject = This; side = Uncompressed; measure = Value }

abbrev call_form : Names → Callee → List Tree → PlainEncoding
call_form s callees.UncompressedValue (x ∷ y ∷ []) = uncompressed_value (number_of s x) (number_of s y)
call_form s callees.CompressedValue (x ∷ y ∷ []) = compressed_value (number_of s x) (number_of s y)
call_form s callees.Irregular (x ∷ []) = irregular (number_of s x)
call_form s callees.Static xs = static
call_form s callees.Lsb (x ∷ y ∷ []) = lsb (number_of s x) (number_of s y)
call_form s callees.Crc (b ∷ p ∷ i ∷ d ∷ l ∷ []) =
    crc (number_of s b) (number_of s p) (number_of s i) (subject_given s d no_attribute) (side_given s d no_attribute) (number_of s l)
call_form s (callees.Own k) xs = call k (map (number_of s) xs)
call_form s _ _ = bare

crc_is : (s : Names) (xs : List Tree) (c : CrcArguments) → AreCrc s xs c → plain_encoding (encoding.Library (library.Crc c)) ≡ call_form s callees.Crc xs
crc_is s xs c (are_crc {bits = b} {polynomial = p} {initial = i} {data_part = d} {length_part = l} five) =
    let read = data_is s d _ no_attribute five.data_is in
    λ j. crc (number_is s b c.bits five.bits_is j) (number_is s p c.polynomial five.polynomial_is j) (number_is s i c.initial five.initial_is j) (read.0 j) (read.1 j) (number_is s l c.length five.length_is j)

call_is : (s : Names) (methods : Methods) (c : Callee) (xs : List Tree) (r : Encoding) → Calls s methods c xs r → plain_encoding r ≡ call_form s c xs
call_is s methods c xs r (meant.uncompressed_value p are) =
    (λ i. uncompressed_value (number_is s are.0 p.first are.3 i) (number_is s are.1 p.second are.4 i)) ∙ ap (call_form s callees.UncompressedValue) (sym are.2)
call_is s methods c xs r (meant.compressed_value p are) =
    (λ i. compressed_value (number_is s are.0 p.first are.3 i) (number_is s are.1 p.second are.4 i)) ∙ ap (call_form s callees.CompressedValue) (sym are.2)
call_is s methods c xs r (meant.irregular {e = e} is) = ap irregular (number_is s is.0 e is.2) ∙ ap (call_form s callees.Irregular) (sym is.1)
call_is s methods c xs r (meant.static are) = refl
call_is s methods c xs r (meant.lsb p are) = (λ i. lsb (number_is s are.0 p.first are.3 i) (number_is s are.1 p.second are.4 i)) ∙ ap (call_form s callees.Lsb) (sym are.2)
call_is s methods c xs r (meant.crc {c = d} are) = crc_is s xs d are
call_is s methods c xs r (meant.own {k = k} {es = es} are) = ap (call k) (numbers_are s xs es are.1)

abbrev callee_form : Names → Option Callee → List Tree → PlainEncoding
callee_form s (Some c) xs = call_form s c xs
callee_form s None xs = bare

-- what a name stands for, where the methods of the file have these names
abbrev callee_among : List (List ℕ) → List ℕ → Option Callee
callee_among methods name = option_or (library_method name) (option_map callees.Own (position (bytes_eq name) methods))

abbrev encoding_form : Names → List (List ℕ) → TreeEncoding → PlainEncoding
encoding_form s methods (trees.Bits at count value) = plain_encoding (encoding.Library (bit_text at count value))
encoding_form s methods (trees.Call name xs) = callee_form s (callee_among methods (word s.text name)) xs

encoding_is : (s : Names) (methods : Methods) (e : TreeEncoding) (r : Encoding) → Means s methods e r → plain_encoding r ≡ encoding_form s methods.names.now e
encoding_is s methods e r meant.bits = refl
encoding_is s methods e r (meant.call {arguments = xs} c known calls) = call_is s methods c xs r calls ∙ ap (λ o. callee_form s o xs) (sym known)

abbrev given_form : Names → List (List ℕ) → Option TreeEncoding → PlainEncoding
given_form s methods (Some e) = encoding_form s methods e
given_form s methods None = bare

given_is : (s : Names) (methods : Methods) (o : Option TreeEncoding) (r : Encoding) → GivenMeans s methods o r → plain_encoding r ≡ given_form s methods.names.now o
given_is s methods o r chosen_by.bare = refl
given_is s methods o r (chosen_by.encoded {e = e} means) = encoding_is s methods e r means

encodings_are : (s : Names) (methods : Methods) (sections : List Section) (choices : List (Option Mention)) (es : List Encoding) → AllZip (FieldMeans s methods sections) choices es
    → map plain_encoding es ≡ map (λ choice. given_form s methods.names.now (given sections choice)) choices
encodings_are s methods sections [] [] all = refl
encodings_are s methods sections [] (e ∷ es) all = absurd all
encodings_are s methods sections (c ∷ cs) [] all = absurd all
encodings_are s methods sections (c ∷ cs) (e ∷ es) all = λ i. given_is s methods (given sections c) e all.0 i ∷ encodings_are s methods sections cs es all.1 i

-- ---- fields

-- what of a setting tells its formats
pub record Ground : Type 0 where
  pub text : List ℕ
  pub constants : List (List ℕ)
  pub values : List ℤ
  pub parameters : List (List ℕ)
  pub methods : List (List ℕ)
  pub sections : List Section
  pub initial_names : List (List ℕ)
  pub initial_values : List (List Bool)
  pub asked : List (List ℕ)

abbrev pub ground_of : Setting → Ground
ground_of x = record {
  text = x.text.now;
  constants = x.constants.now;
  values = x.values.now;
  parameters = x.parameters.now;
  methods = x.methods.now.names.now;
  sections = x.sections.now;
  initial_names = x.initial_names.now;
  initial_values = x.initial_values.now;
  asked = x.asked.now;
}

abbrev field_form : Ground → Mention → PlainEncoding → PlainField
field_form g m p = record {
  declared = record { name = word g.text m.name; part = part g.sections m; asked = is_one_of g.asked (word g.text m.name) };
  encoding = p;
  initial = initial_of g.initial_names g.initial_values (word g.text m.name);
}

abbrev fields_form : Ground → List Mention → List PlainEncoding → List PlainField
fields_form g [] ps = []
fields_form g (m ∷ ms) ps = field_form g m (get_or ps 0 bare) ∷ fields_form g ms (drop 1 ps)

first_plain : (es : List Encoding) → plain_encoding (get_or es 0 encoding.Bare) ≡ get_or (map plain_encoding es) 0 bare
first_plain [] = refl
first_plain (e ∷ es) = refl

rest_plain : (es : List Encoding) → map plain_encoding (drop 1 es) ≡ drop 1 (map plain_encoding es)
rest_plain [] = refl
rest_plain (e ∷ es) = refl

fields_are : (x : Setting) (ms : List Mention) (es : List Encoding) → map plain_field (joined x ms es) ≡ fields_form (ground_of x) ms (map plain_encoding es)
fields_are x [] es = refl
fields_are x (m ∷ ms) es = λ i. field_form (ground_of x) m (first_plain es i) ∷ (fields_are x ms (drop 1 es) ∙ ap (fields_form (ground_of x) ms) (rest_plain es)) i

-- ---- constraints

abbrev on_form : Side → Span → List PlainExpr → Option ℕ → List PlainConstraint
on_form side place lengths (Some i) = bracket i side lengths place ∷ []
on_form side place lengths None = []

abbrev bracket_form : Names → Side → Span → TreeBracket → List PlainConstraint
bracket_form s side name (brackets.Variable at) = []
bracket_form s side name (brackets.Lengths place xs) = on_form side place (map (number_of s) xs) (field_of s name)

abbrev optional_form : Names → Side → Span → Option TreeBracket → List PlainConstraint
optional_form s side name None = []
optional_form s side name (Some b) = bracket_form s side name b

abbrev item_form : Names → Side → Item → List PlainConstraint
item_form s side (items.Field name b) = optional_form s side name b
item_form s side (items.Bound b) = optional_form s side b.name b.bracket
item_form s side (items.Enforce at condition) = (reading s condition).parts

on_is : (side : Side) (place : Span) (xs : List PlainExpr) (es : List Expr) (o : Option ℕ) → map plain_expr es ≡ xs → map plain_constraint (on_index side place es o) ≡ on_form side place xs o
on_is side place xs es (Some i) e = ap (λ ls. bracket i side ls place ∷ []) e
on_is side place xs es None e = refl

bracket_is : (s : Names) (side : Side) (name : Span) (b : TreeBracket) (cs : List Constraint) → BracketMeans s side name b cs → map plain_constraint cs ≡ bracket_form s side name b
bracket_is s side name b cs statements.variable = refl
bracket_is s side name b cs (statements.lengths {place = place} {parts = xs} es all) = on_is side place (map (number_of s) xs) es (field_of s name) (numbers_are s xs es all)

optional_is : (s : Names) (side : Side) (name : Span) (b : Option TreeBracket) (cs : List Constraint) → OptionalMeans s side name b cs → map plain_constraint cs ≡ optional_form s side name b
optional_is s side name b cs statements.no_bracket = refl
optional_is s side name b cs (statements.with_bracket {b = inner} means) = bracket_is s side name inner cs means

item_is : (s : Names) (side : Side) (item : Item) (cs : List Constraint) → ItemMeans s side item cs → map plain_constraint cs ≡ item_form s side item
item_is s side item cs (statements.field {name = name} {bracket = b} means) = optional_is s side name b cs means
item_is s side item cs (statements.bound {b = b} means) = optional_is s side b.name b.bracket cs means
item_is s side item cs (statements.enforced {condition = condition} are) = conjuncts_are s condition cs are

constraints_are : (s : Names) (xs : List Statement) (cs : List Constraint) → AreNumbered s xs cs → map plain_constraint cs ≡ flat_map (λ (x : Statement). item_form s x.side x.item) xs
constraints_are s xs cs none = refl
constraints_are s xs cs (more {x = x} {xs = rest} {cs = first} {ds = ds} means others) =
    map-append plain_constraint first ds ∙ (λ i. item_is s x.side x.item first means i ++ constraints_are s rest ds others i)

-- ---- the format

abbrev pub format_form : Ground → ℕ → Section → PlainFormat
format_form g number section =
    let own = mentions_of g.text number section.items in
    let all = firsts g.text (in_field_order g.text g.sections own) in
    let s = names g.text g.constants g.values g.parameters (names_of g.text all) in
    let look = λ (ms : List Mention). first_of g.text (encoded ms) in
    let choices = map (encoding_by g.text (look (mentions_in g.text groups.Base 0 g.sections)) (look own) (look (mentions_in g.text groups.Default 0 g.sections))) all in
    record {
      name = name g.text section.kind;
      fields = fields_form g all (map (λ choice. given_form s g.methods (given g.sections choice)) choices);
      listing = map (place g.text (names_of g.text all)) own;
      constraints = flat_map (λ (x : Statement). item_form s x.side x.item) (formats.statements s choices g.sections section.items);
    }

pub format_is : (x : Setting) (number : ℕ) (section : Section) (f : Format) → IsFormat x number section f → plain_format f ≡ format_form (ground_of x) number section
format_is x number section f form =
    let s = scope x number section in
    let all = fields x number section in
    let choices = chosen x number section in
    let xs = formats.statements s choices x.sections.now section.items in
    let encodings = encodings_are s x.methods.now x.sections.now choices form.encodings form.encoded in
    let same_fields = ap (map plain_field) form.fields_are ∙ (fields_are x all form.encodings ∙ ap (fields_form (ground_of x) all) encodings) in
    let same_constraints = constraints_are s xs f.constraints form.constraints_are in
    λ i. record { name = form.name_is i; fields = same_fields i; listing = form.listing_is i; constraints = same_constraints i }

pub one_format : OneFormat
one_format x number section f g form_f form_g = format_is x number section f form_f ∙ sym (format_is x number section g form_g)
