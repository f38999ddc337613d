-- The fields of a format: what encodes each, its value of INITIAL, and which are listed.
use Rattle.std.proofs.Common.{◌≡◌, ◌∙◌, ap, ℕ, suc, zero, ◌≤◌, inl, inr, Bool, true, false, cond, List, [], ◌∷◌, ◌++◌, ◌||◌, get_or, map, length, refl, sym, subst, arith}
use Rattle.std.specs.Prelude.{Option, Some, None, slice_get, position, option_and_then, codes}
use Rattle.std.specs.List.{AllZip}
use Rattle.std.specs.Option.{option_map, option_or}
use Rattle.std.specs.Str.{bytes_eq}
use Rattle.std.proofs.lemmas.List.Quantifiers.{position-Some}
use Rattle.std.proofs.lemmas.Option.{slice_get_within, slice_get-get_or}
use Rattle.std.proofs.lemmas.Slice.Eq.{bytes_eq-Decides}
use Rattle.text_tree.specs.declared.tree.Bound.{Bound}
use Rattle.text_tree.specs.declared.tree.Encoding.{Encoding as TreeEncoding}
use Rattle.text_tree.specs.declared.tree.Expr.{Expr as Tree}
use Rattle.text_tree.specs.declared.tree.Item.{Item}
use Rattle.text_tree.specs.declared.tree.Item.TheVariants as items
use Rattle.text_tree.specs.declared.tree.Section.{Section}
use Rattle.sem_profile.specs.declared.profile.Encoding.{Encoding}
use Rattle.sem_profile.specs.declared.profile.Encoding.TheVariants as encoding
use Rattle.sem_profile.specs.declared.profile.Field.{Field}
use Rattle.sem_profile.specs.Words.{word}
use Rattle.text_statements.specs.Names.{Names}
use Rattle.text_sections.specs.declared.mention.Mention.{Mention}
use Rattle.text_sections.specs.Fields.{encoding_at, PointsAt}
use Rattle.text_sections.specs.Mentions.{mention_of, needs_context}
use Rattle.text_statements.specs.declared.callee.Callee.{Callee}
use Rattle.text_statements.specs.declared.callee.Callee.TheVariants as callees
use Rattle.text_statements.specs.declared.callee.Methods.{Methods}
use Rattle.text_statements.specs.Callees.{library as library_method}
use Rattle.text_statements.specs.Encodings.{Calls, Means, bits, call, uncompressed_value, compressed_value, irregular, static, lsb, crc, own}
use Rattle.text_statements.specs.Initial.{IsInitial, IsEncoded, AreArguments, is_encoded, are_arguments}
use Rattle.text_statements.specs.Initials.{AreInitials, no_values, first, again}
use Rattle.text_methods.specs.declared.drafts.Setting.{Setting}
use Rattle.text_methods.specs.Encodings.{GivenMeans, FieldMeans, bare, encoded}
use Rattle.text_methods.specs.Fields.{field, initial_of, joined}
use Rattle.sem_profile.specs.WellFormed.{refers, initial_limit}
use Rattle.sem_graph.proofs.OrderPushing.{some_is, get_pushed, get_kept, get_last, pushed_length}

-- ---- a field with its mention and what encodes it

pub record IsFieldOf (x : Setting) (s : Names) (methods : Methods) (sections : List Section) (choice : Mention → Option Mention) (ms : List Mention) (i : ℕ) (d : Field) : Type 0 where
  pub mention : Mention
  pub at : slice_get ms i ≡ Some mention
  pub means : FieldMeans s methods sections (choice mention) d.encoding
  pub is : d ≡ field x mention d.encoding

pub field_of : (x : Setting) (s : Names) (methods : Methods) (sections : List Section) (choice : Mention → Option Mention) (ms : List Mention) (es : List Encoding)
    → AllZip (FieldMeans s methods sections) (map choice ms) es → (i : ℕ) (d : Field) → slice_get (joined x ms es) i ≡ Some d → IsFieldOf x s methods sections choice ms i d
field_of x s methods sections choice [] es all i d at = let wrong : None ≡ Some d = at in absurd cc
field_of x s methods sections choice (m ∷ ms) [] all i d at = absurd all
field_of x s methods sections choice (m ∷ ms) (e ∷ es) all zero d at =
    let same : field x m e ≡ d = some_is at in
    let which : e ≡ d.encoding = ap (λ (z : Field). z.encoding) same in
    record { mention = m; at = refl; means = subst (λ r. FieldMeans s methods sections (choice m) r) which all.0; is = sym same ∙ ap (λ r. field x m r) which }
field_of x s methods sections choice (m ∷ ms) (e ∷ es) all (suc i) d at =
    let rest = field_of x s methods sections choice ms es all.1 i d at in
    record { mention = rest.mention; at = rest.at; means = rest.means; is = rest.is }

-- ---- which encodings refer to the context

abbrev refers_to : Callee → Bool
refers_to callees.Static = true
refers_to callees.Lsb = true
refers_to _ = false

by_name : (a b c d e f : Bool) (k : Callee)
    → cond a (Some callees.UncompressedValue) (cond b (Some callees.CompressedValue) (cond c (Some callees.Irregular) (cond d (Some callees.Static) (cond e (Some callees.Lsb) (cond f (Some callees.Crc) None))))) ≡ Some k
    → refers_to k ≡ true → d || e ≡ true
by_name true b c d e f k is refers = let wrong : false ≡ true = ap refers_to (some_is is) ∙ refers in absurd cc
by_name false true c d e f k is refers = let wrong : false ≡ true = ap refers_to (some_is is) ∙ refers in absurd cc
by_name false false true d e f k is refers = let wrong : false ≡ true = ap refers_to (some_is is) ∙ refers in absurd cc
by_name false false false true e f k is refers = refl
by_name false false false false true f k is refers = refl
by_name false false false false false true k is refers = let wrong : false ≡ true = ap refers_to (some_is is) ∙ refers in absurd cc
by_name false false false false false false k is refers = let wrong : None ≡ Some k = is in absurd cc

library_needs : (name : List ℕ) (k : Callee) → library_method name ≡ Some k → refers_to k ≡ true → bytes_eq name (codes "static") || bytes_eq name (codes "lsb") ≡ true
library_needs name k is refers = by_name _ _ _ _ _ _ k is refers

either_needs : (name : List ℕ) (o : Option Callee) (place : Option ℕ) (k : Callee) → library_method name ≡ o → option_or o (option_map callees.Own place) ≡ Some k → refers_to k ≡ true
    → bytes_eq name (codes "static") || bytes_eq name (codes "lsb") ≡ true
either_needs name (Some l) place k of_library is refers = library_needs name l of_library (ap refers_to (some_is is) ∙ refers)
either_needs name None (Some j) k of_library is refers = let wrong : false ≡ true = ap refers_to (some_is is) ∙ refers in absurd cc
either_needs name None None k of_library is refers = let wrong : None ≡ Some k = is in absurd cc

callee_refers : (s : Names) (methods : Methods) (c : Callee) (arguments : List Tree) (r : Encoding) → Calls s methods c arguments r → refers r ≡ true → refers_to c ≡ true
callee_refers s methods c arguments r (uncompressed_value p are) e = absurd cc
callee_refers s methods c arguments r (compressed_value p are) e = absurd cc
callee_refers s methods c arguments r (irregular is) e = absurd cc
callee_refers s methods c arguments r (static are) e = refl
callee_refers s methods c arguments r (lsb p are) e = refl
callee_refers s methods c arguments r (crc are) e = absurd cc
callee_refers s methods c arguments r (own are) e = absurd cc

means_needs : (s : Names) (methods : Methods) (e : TreeEncoding) (r : Encoding) → Means s methods e r → refers r ≡ true → needs_context s.text e ≡ true
means_needs s methods e r bits refer = absurd cc
means_needs s methods e r (call {name = at} {arguments = arguments} c known calls) refer =
    either_needs (word s.text at) (library_method (word s.text at)) (position (bytes_eq (word s.text at)) methods.names.now) c refl known (callee_refers s methods c arguments r calls refer)

-- the encoding of the tree that refers to the context
pub given_needs : (s : Names) (methods : Methods) (o : Option TreeEncoding) (r : Encoding) → GivenMeans s methods o r → refers r ≡ true → (e : TreeEncoding) × (o ≡ Some e) × (needs_context s.text e ≡ true)
given_needs s methods o r bare refer = absurd cc
given_needs s methods o r (encoded {e = e} means) refer = (e, refl, means_needs s methods e r means refer)

-- ---- fields without an encoding

calls_not_bare : (s : Names) (methods : Methods) (c : Callee) (arguments : List Tree) (r : Encoding) → Calls s methods c arguments r → r ≡ encoding.Bare → ⊥
calls_not_bare s methods c arguments r (uncompressed_value p are) e = absurd cc
calls_not_bare s methods c arguments r (compressed_value p are) e = absurd cc
calls_not_bare s methods c arguments r (irregular is) e = absurd cc
calls_not_bare s methods c arguments r (static are) e = absurd cc
calls_not_bare s methods c arguments r (lsb p are) e = absurd cc
calls_not_bare s methods c arguments r (crc are) e = absurd cc
calls_not_bare s methods c arguments r (own are) e = absurd cc

means_not_bare : (s : Names) (methods : Methods) (e : TreeEncoding) (r : Encoding) → Means s methods e r → r ≡ encoding.Bare → ⊥
means_not_bare s methods e r bits is = absurd cc
means_not_bare s methods e r (call {arguments = arguments} c known calls) is = calls_not_bare s methods c arguments r calls is

pub given_none : (s : Names) (methods : Methods) (o : Option TreeEncoding) (r : Encoding) → GivenMeans s methods o r → r ≡ encoding.Bare → o ≡ None
given_none s methods o r bare is = refl
given_none s methods o r (encoded {e = e} means) is = absurd (means_not_bare s methods e r means is)

-- ---- the statement at a mention's place

tells_encoding : (text : List ℕ) (section place : ℕ) (x : Item) (m : Mention) → mention_of text section place x ≡ Some m → m.is_encoded ≡ true
    → (b : Bound) × (x ≡ items.Bound b) × (m.needs_context ≡ needs_context text b.encoding)
tells_encoding text section place (items.Field name bracket) m e gives = let wrong : false ≡ true = ap (λ (z : Mention). z.is_encoded) (some_is e) ∙ gives in absurd cc
tells_encoding text section place (items.Bound b) m e gives = (b, refl, ap (λ (z : Mention). z.needs_context) (sym (some_is e)))
tells_encoding text section place (items.Enforce at condition) m e gives = let wrong : None ≡ Some m = e in absurd cc

abbrev of_item : Item → Option TreeEncoding
of_item (items.Bound b) = Some b.encoding
of_item _ = None

-- an encoded mention points at an encoding, and knows whether it refers to the context
pub points_at_encoding : (text : List ℕ) (sections : List Section) (m : Mention) → PointsAt text sections m → m.is_encoded ≡ true
    → (e : TreeEncoding) × (encoding_at sections m ≡ Some e) × (m.needs_context ≡ needs_context text e)
points_at_encoding text sections m points gives =
    let t = tells_encoding text m.section m.item points.item m points.tells gives in
    let here : slice_get points.section.items m.item ≡ Some (items.Bound t.0) = points.item_at ∙ ap Some t.1 in
    (t.0.encoding, ap (λ o. option_and_then (λ (s : Section). option_and_then of_item (slice_get s.items m.item)) o) points.section_at ∙ ap (λ o. option_and_then of_item o) here, t.2)

-- ---- values of INITIAL

pub record HasInitial (s : Names) (bs : List Bound) (name : List ℕ) (value : List Bool) : Type 0 where
  pub place : ℕ
  pub bound : Bound
  pub at : slice_get bs place ≡ Some bound
  pub named : word s.text bound.name ≡ name
  pub is : IsInitial s bound value

as_many : (s : Names) (bs : List Bound) (names : List (List ℕ)) (values : List (List Bool)) → AreInitials s bs names values → length names ≡ length values
as_many s bs names values no_values = refl
as_many s bs names values (first {bs = before} {names = ns} {values = vs} b value_bits are fresh is) =
    omega (arith, pushed_length ns (word s.text b.name), pushed_length vs value_bits, as_many s before ns vs are)
as_many s bs names values (again {bs = before} b value_bits are old is) = as_many s before names values are

later : (s : Names) (bs : List Bound) (b : Bound) (name : List ℕ) (value : List Bool) → HasInitial s bs name value → HasInitial s (bs ++ b ∷ []) name value
later s bs b name value has = record { place = has.place; bound = has.bound; at = get_kept bs b has.place has.bound has.at; named = has.named; is = has.is }

initial_at : (s : Names) (bs : List Bound) (names : List (List ℕ)) (values : List (List Bool)) → AreInitials s bs names values → (k : ℕ) (name : List ℕ) (value : List Bool)
    → slice_get names k ≡ Some name → slice_get values k ≡ Some value → HasInitial s bs name value
initial_at s bs names values no_values k name value at_name at_value = let wrong : None ≡ Some name = at_name in absurd cc
initial_at s bs names values (first {bs = before} {names = ns} {values = vs} b value_bits are fresh is) k name value at_name at_value =
    let many = as_many s before ns vs are in
    elim (get_pushed ns (word s.text b.name) k name at_name) as (λ _. HasInitial s (before ++ b ∷ []) name value) [
      | inl n ↦ elim (get_pushed vs value_bits k value at_value) as (λ _. HasInitial s (before ++ b ∷ []) name value) [
        | inl v ↦ later s before b name value (initial_at s before ns vs are k name value n v)
        | inr v ↦ absurd (omega (arith, slice_get_within ns k name n, v.0, many))
      ]
      | inr n ↦ elim (get_pushed vs value_bits k value at_value) as (λ _. HasInitial s (before ++ b ∷ []) name value) [
        | inl v ↦ absurd (omega (arith, slice_get_within vs k value v, n.0, many))
        | inr v ↦ record { place = length before; bound = b; at = get_last before b; named = n.1; is = subst (λ z. IsInitial s b z) v.1 is }
      ]
    ]
initial_at s bs names values (again {bs = before} b value_bits are old is) k name value at_name at_value = later s before b name value (initial_at s before names values are k name value at_name at_value)

pub at_position : (name : List ℕ) (names : List (List ℕ)) (k : ℕ) → position (bytes_eq name) names ≡ Some k → slice_get names k ≡ Some name
at_position name names k is =
    let p = position-Some (bytes_eq name) names k [] is in
    slice_get-get_or names k [] p.0 ∙ ap Some (sym ((bytes_eq-Decides name (get_or names k [])).0 p.1))

pub initial_has : (s : Names) (bs : List Bound) (names : List (List ℕ)) (values : List (List Bool)) → AreInitials s bs names values → (name : List ℕ) (value : List Bool)
    → initial_of names values name ≡ Some value → HasInitial s bs name value
initial_has s bs names values are name value is = by (position (bytes_eq name) names) refl is
  where
    by : (o : Option ℕ) → position (bytes_eq name) names ≡ o → option_and_then (slice_get values) o ≡ Some value → HasInitial s bs name value
    by (Some k) e at = initial_at s bs names values are k name value (at_position name names k e) at
    by None e at = let wrong : None ≡ Some value = at in absurd cc

short_arguments : (s : Names) (arguments : List Tree) (value : List Bool) → AreArguments s arguments value → length value ≤ initial_limit
short_arguments s arguments value (are_arguments count number is_count is_number spelled) = spelled.short

short_encoded : (s : Names) (e : TreeEncoding) (value : List Bool) → IsEncoded s e value → length value ≤ initial_limit
short_encoded s e value (is_encoded {arguments = arguments} named are) = short_arguments s arguments value are

pub initial_short : (s : Names) (b : Bound) (value : List Bool) → IsInitial s b value → length value ≤ initial_limit
initial_short s b value is = short_encoded s b.encoding value is.encoded
