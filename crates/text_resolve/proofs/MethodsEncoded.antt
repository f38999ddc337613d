-- The encodings of fields name only what their scope has, and call methods that are there.
use Rattle.std.proofs.Common.{◌≡◌, ◌∙◌, ap, ℕ, suc, ◌<◌, List, [], ◌∷◌, length, refl, subst, IfSome, arith}
use Rattle.std.specs.Prelude.{⊤, Bool, true, false, cond, Option, Some, None, drop, map, position}
use Rattle.std.specs.List.{AllByRecursion, AllZip}
use Rattle.std.specs.Option.{option_map, option_or}
use Rattle.std.specs.Str.{bytes_eq}
use Rattle.std.proofs.lemmas.Slice.Zip.{AllZip-long}
use Rattle.text_tree.specs.declared.tree.Encoding.{Encoding as TreeEncoding}
use Rattle.text_tree.specs.declared.tree.Expr.{Expr as Tree}
use Rattle.text_tree.specs.declared.tree.Section.{Section}
use Rattle.sem_expr.specs.declared.expr.Expr.{Expr}
use Rattle.sem_profile.specs.declared.profile.CrcArguments.{CrcArguments}
use Rattle.sem_profile.specs.declared.profile.Encoding.{Encoding}
use Rattle.sem_profile.specs.declared.profile.Encoding.TheVariants as encoding
use Rattle.sem_profile.specs.declared.profile.Field.{Field}
use Rattle.sem_profile.specs.declared.profile.Library.{Library}
use Rattle.sem_profile.specs.declared.profile.Library.TheVariants as library
use Rattle.sem_profile.specs.Words.{word}
use Rattle.text_sections.specs.declared.mention.Mention.{Mention}
use Rattle.sem_graph.proofs.OrderPushing.{some_is}
use Rattle.text_statements.specs.declared.term.Term.TheVariants.{Number}
use Rattle.text_statements.specs.Names.{Names}
use Rattle.text_statements.specs.declared.callee.Callee.{Callee}
use Rattle.text_statements.specs.declared.callee.Callee.TheVariants as callees
use Rattle.text_statements.specs.declared.callee.Methods.{Methods}
use Rattle.text_statements.specs.Arguments.{IsNumber, AreCrc, are_crc}
use Rattle.text_statements.specs.Callees.{library as library_method, callee, arity}
use Rattle.text_statements.specs.Encodings.{Calls, Means, bits, call, uncompressed_value, compressed_value, irregular, static, lsb, crc, own}
use Rattle.sem_profile.specs.BoundsLaws.{library_exprs}
use Rattle.text_methods.specs.declared.drafts.Setting.{Setting}
use Rattle.text_methods.specs.Encodings.{GivenMeans, FieldMeans, bare, encoded, given}
use Rattle.text_methods.specs.Fields.{joined}
use Rattle.text_resolve.proofs.MethodsWithin.{ScopeIsWithin, SubjectIsWithin, meaning_is_within, position_is_within}
use Rattle.text_resolve.proofs.MethodsConstrained.{ExprIsWithin, numbers_are_within}

-- the data of a crc are of THIS or of one of so many fields
abbrev pub DataAreWithin : ℕ → Library → Type 0
DataAreWithin fields (library.Crc c) = SubjectIsWithin fields c.subject
DataAreWithin fields _ = ⊤

abbrev pub CallIsWithin : Methods → ℕ → List Expr → Type 0
CallIsWithin methods k es = (k < length methods.names.now) × (length es ≡ arity methods (callees.Own k))

abbrev pub EncodingIsWithin : ℕ → ℕ → Methods → Encoding → Type 0
EncodingIsWithin fields parameters methods encoding.Bare = ⊤
EncodingIsWithin fields parameters methods (encoding.Library l) = AllByRecursion (ExprIsWithin fields parameters) (library_exprs l) × DataAreWithin fields l
EncodingIsWithin fields parameters methods (encoding.Call k es) = AllByRecursion (ExprIsWithin fields parameters) es × CallIsWithin methods k es

-- ---- the method that a name stands for

abbrev CalleeIsWithin : ℕ → Callee → Type 0
CalleeIsWithin count (callees.Own k) = k < count
CalleeIsWithin count _ = ⊤

one_or : (count : ℕ) (b : Bool) (d : Callee) (o : Option Callee) (c : Callee) → CalleeIsWithin count d → (o ≡ Some c → CalleeIsWithin count c) → cond b (Some d) o ≡ Some c → CalleeIsWithin count c
one_or count true d o c here rest is = subst (CalleeIsWithin count) (some_is is) here
one_or count false d o c here rest is = rest is

library_is_within : (count : ℕ) (at : List ℕ) (c : Callee) → library_method at ≡ Some c → CalleeIsWithin count c
library_is_within count at c =
    one_or count _ callees.UncompressedValue _ c tt (one_or count _ callees.CompressedValue _ c tt (one_or count _ callees.Irregular _ c tt
    (one_or count _ callees.Static _ c tt (one_or count _ callees.Lsb _ c tt (one_or count _ callees.Crc None c tt (λ is. let wrong : None ≡ Some c = is in absurd cc))))))

either_is_within : (count : ℕ) (c : Callee) (first : Option Callee) (place : Option ℕ) → (first ≡ Some c → CalleeIsWithin count c) → IfSome place (λ k. k < count)
    → option_or first (option_map callees.Own place) ≡ Some c → CalleeIsWithin count c
either_is_within count c (Some d) place of_library lt is = of_library is
either_is_within count c None (Some k) of_library lt is = subst (CalleeIsWithin count) (some_is is) lt
either_is_within count c None None of_library lt is = let wrong : None ≡ Some c = is in absurd cc

callee_is_within : (methods : Methods) (at : List ℕ) (c : Callee) → callee methods at ≡ Some c → CalleeIsWithin (length methods.names.now) c
callee_is_within methods at c known =
    let count = length methods.names.now in
    either_is_within count c (library_method at) (position (bytes_eq at) methods.names.now) (library_is_within count at c) (position_is_within (bytes_eq at) methods.names.now count (omega arith)) known

-- ---- what a call means

crc_is_within : (s : Names) (fields parameters : ℕ) (methods : Methods) → ScopeIsWithin s fields parameters → (arguments : List Tree) (c : CrcArguments) → AreCrc s arguments c
    → EncodingIsWithin fields parameters methods (encoding.Library (library.Crc c))
crc_is_within s fields parameters methods scope arguments c (are_crc {bits = b} {polynomial = p} {initial = i} {data_part = d} {length_part = l} five) =
    let means = meaning_is_within s fields parameters scope in (
      (means b (Number c.bits) five.bits_is, (means p (Number c.polynomial) five.polynomial_is, (means i (Number c.initial) five.initial_is, (means l (Number c.length) five.length_is, tt)))),
      (means d _ five.data_is.means).0,
    )

call_is_within : (s : Names) (fields parameters : ℕ) (methods : Methods) → ScopeIsWithin s fields parameters → (c : Callee) → CalleeIsWithin (length methods.names.now) c → (arguments : List Tree) (r : Encoding)
    → Calls s methods c arguments r → EncodingIsWithin fields parameters methods r
call_is_within s fields parameters methods scope c there arguments r (uncompressed_value p are) =
    ((meaning_is_within s fields parameters scope are.0 (Number p.first) are.3, (meaning_is_within s fields parameters scope are.1 (Number p.second) are.4, tt)), tt)
call_is_within s fields parameters methods scope c there arguments r (compressed_value p are) =
    ((meaning_is_within s fields parameters scope are.0 (Number p.first) are.3, (meaning_is_within s fields parameters scope are.1 (Number p.second) are.4, tt)), tt)
call_is_within s fields parameters methods scope c there arguments r (irregular {e = e} is) = ((meaning_is_within s fields parameters scope is.0 (Number e) is.2, tt), tt)
call_is_within s fields parameters methods scope c there arguments r (static are) = (tt, tt)
call_is_within s fields parameters methods scope c there arguments r (lsb p are) =
    ((meaning_is_within s fields parameters scope are.0 (Number p.first) are.3, (meaning_is_within s fields parameters scope are.1 (Number p.second) are.4, tt)), tt)
call_is_within s fields parameters methods scope c there arguments r (crc {c = d} are) = crc_is_within s fields parameters methods scope arguments d are
call_is_within s fields parameters methods scope c there arguments r (own {es = es} are) =
    (numbers_are_within s fields parameters scope arguments es are.1, (there, AllZip-long (IsNumber s) arguments es are.1 ∙ are.0))

encoding_is_within : (s : Names) (fields parameters : ℕ) (methods : Methods) → ScopeIsWithin s fields parameters → (e : TreeEncoding) (r : Encoding) → Means s methods e r → EncodingIsWithin fields parameters methods r
encoding_is_within s fields parameters methods scope e r bits = ((tt, (tt, tt)), tt)
encoding_is_within s fields parameters methods scope e r (call {name = at} {arguments = arguments} c known calls) =
    call_is_within s fields parameters methods scope c (callee_is_within methods (word s.text at) c known) arguments r calls

given_is_within : (s : Names) (fields parameters : ℕ) (methods : Methods) → ScopeIsWithin s fields parameters → (o : Option TreeEncoding) (r : Encoding) → GivenMeans s methods o r
    → EncodingIsWithin fields parameters methods r
given_is_within s fields parameters methods scope o r bare = tt
given_is_within s fields parameters methods scope o r (encoded {e = e} means) = encoding_is_within s fields parameters methods scope e r means

-- ---- the fields of a format

abbrev pub AreEncoded : ℕ → ℕ → Methods → List Field → Type 0
AreEncoded fields parameters methods ds = AllByRecursion (λ (d : Field). EncodingIsWithin fields parameters methods d.encoding) ds

pub fields_are_encoded : (x : Setting) (s : Names) (fields parameters : ℕ) (methods : Methods) (sections : List Section) → ScopeIsWithin s fields parameters
    → (choice : Mention → Option Mention) (ms : List Mention) (es : List Encoding) → AllZip (FieldMeans s methods sections) (map choice ms) es → AreEncoded fields parameters methods (joined x ms es)
fields_are_encoded x s fields parameters methods sections scope choice [] es all = tt
fields_are_encoded x s fields parameters methods sections scope choice (m ∷ ms) [] all = absurd all
fields_are_encoded x s fields parameters methods sections scope choice (m ∷ ms) (e ∷ es) all =
    (given_is_within s fields parameters methods scope (given sections (choice m)) e all.0, fields_are_encoded x s fields parameters methods sections scope choice ms es all.1)

pub joined_length : (x : Setting) (ms : List Mention) (es : List Encoding) → length (joined x ms es) ≡ length ms
joined_length x [] es = refl
joined_length x (m ∷ ms) es = ap suc (joined_length x ms (drop 1 es))
