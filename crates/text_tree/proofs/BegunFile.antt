-- Where a text is refused, some tokens end it.
use Rattle.std.proofs.Common.{◌≡◌, ◌⊎◌, inl, inr, ◌&&◌, ◌||◌, not, ℕ, List, [], ◌∷◌, ◌++◌, length, Option, Some, None, Bool, true, false, refl, sym, ap, subst, ◌∙◌}
use Rattle.std.proofs.lemmas.List.{append-nil}
use Rattle.text_source.specs.declared.span.Span.{Span}
use Rattle.text_source.specs.declared.fault.FaultKind.TheVariants as f
use Rattle.text_source.specs.declared.token.TokenKind.{TokenKind}
use Rattle.text_source.specs.declared.token.TokenKind.TheVariants as k
use Rattle.text_source.specs.declared.token.Mark.{Mark}
use Rattle.text_source.specs.declared.token.Mark.TheVariants as m
use Rattle.text_source.specs.declared.token.Token.{Token}
use Rattle.text_source.specs.Kinds.{is_mark}
use Rattle.text_tree.specs.declared.refusal.FaultPlace.TheVariants.{At}
use Rattle.text_tree.specs.declared.tree.Attribute.TheVariants as attributes
use Rattle.text_tree.specs.declared.tree.Owner.TheVariants as owners
use Rattle.text_tree.specs.declared.tree.Expr.{Expr}
use Rattle.text_tree.specs.declared.tree.Expr.TheVariants as e
use Rattle.text_tree.specs.declared.tree.Encoding.{Encoding}
use Rattle.text_tree.specs.declared.tree.Encoding.TheVariants as encodings
use Rattle.text_tree.specs.declared.tree.Bracket.{Bracket}
use Rattle.text_tree.specs.declared.tree.Item.{Item}
use Rattle.text_tree.specs.declared.tree.Item.TheVariants as i
use Rattle.text_tree.specs.declared.tree.SectionKind.{SectionKind}
use Rattle.text_tree.specs.declared.tree.SectionKind.TheVariants as kinds
use Rattle.text_tree.specs.declared.tree.Section.{Section}
use Rattle.text_tree.specs.declared.tree.Part.{Part}
use Rattle.text_tree.specs.declared.tree.Part.TheVariants as p
use Rattle.text_tree.specs.declared.counts.SectionsSoFar.{SectionsSoFar}
use Rattle.text_tree.specs.declared.counts.Tally.{Tally}
use Rattle.text_tree.specs.declared.file.SectionHead.{SectionHead}
use Rattle.text_tree.specs.Spans.{cover, span_of}
use Rattle.text_tree.specs.Counts.{seen_in, tally_of}
use Rattle.text_tree.specs.Rules.{all, is_full, is_out, most_parameters, most_statements, most_values}
use Rattle.text_tree.specs.Grammar as g
use Rattle.text_tree.specs.Grammar.{Many, IsWhole, IsNext, IsExprs, IsBracket, IsArguments, IsEncoding, IsBound, IsItem, IsStatement, IsHead, IsSection, IsParameter, IsParameters, IsPart, holds_bound, mark, name_at, number_at, bits_at}
use Rattle.text_tree.specs.Refused.{Stands, begins, begins_by, stands_once, follows_name}
use Rattle.text_tree.specs.Reading.{Reader, kind_at, stops, stops_at, is_next, is_there, either}
use Rattle.text_tree.specs.File.{name_by, name, limited, is_name, begins_expr, before, begins_statement, begins_method, call_of, variable_of, lengths_of, head_at, repeats, next_expr, exprs, variable, lengths, filled, bracket_of, bracket, given, arguments_of, arguments, encoding_by, encoding, field, binding, bound, named_item, enforce, item_by, item, any_statement, statement, statements, called_by, called, format, plain, heading_by, heading, section_of, section, sections, next_name, names, declared, parameters_of, parameters, constant_of, constant, stop, method_of, method, part, parts}
use Rattle.text_tree.proofs.FileLemmas.{once_of, consumes_next_expr, consumes_statement, consumes_section, consumes_next_name, consumes_part}
use Rattle.text_tree.proofs.ReadingBegun.{Relation, Begun, After, Sees, Reads, Any, AnyOf, IsToken, it, Last, nowhere, mark_is, reads_bind, reads_pure, reads_map, reads_as, sees_refuse, sees_stops, sees_stops_at, reads_peek, sees_take, sees_taken, reads_test, reads_mark, reads_expect, begun_token, reads_many}
use Rattle.text_tree.proofs.BegunExpr.{reads_whole, up_six}

freely : {A : Type 0} {Pre : List Token → Type 0} {X : Relation A} {Post : A → List Token → Type 0} {p : Reader A} → Reads Any X Post p → Reads Pre X Post p
freely r = reads_as (λ x from to h. h) (λ x us h. h) (λ us pre. tt) r

begun_as : {A : Type 0} {X Z : Relation A} {tokens : List Token} → ((x : A) (from to : List Token) → X from to x → Z from to x) → Begun X tokens → Begun Z tokens
begun_as {tokens = tokens} is b = record { more = b.more; value = b.value; spans = λ to. is b.value ((tokens ++ b.more) ++ to) to (b.spans to) }

and_right : (a b : Bool) → (a && b) ≡ true → b ≡ true
and_right true b h = h
and_right false b h = absurd cc

or_cases : (a b : Bool) → (a || b) ≡ true → (a ≡ true) ⊎ (b ≡ true)
or_cases true b h = inl refl
or_cases false b h = inr h

-- where the next token is this mark
module _ {A : Type 0} {X : Relation A} {Post : A → List Token → Type 0} (which : Mark) {q : Reader A} (first : List Token) (there : (at : Span) (us : List Token) → Sees first X Post q (mark which at ∷ us) (q (mark which at ∷ us))) where
  at_mark : (ts : List Token) → is_next which (kind_at ts) ≡ true → Sees first X Post q ts (q ts)
  at_mark [] h = absurd cc
  at_mark (t ∷ ts) h =
      let same : mark which t.span ≡ t = ap (λ (kind : TokenKind). record { kind = kind; span = t.span }) (sym (mark_is which t.kind h)) in
      subst (λ (u : Token). Sees first X Post q (u ∷ ts) (q (u ∷ ts))) same (there t.span ts)

name_sees : (kind : TokenKind) (at : Span) (first ts : List Token)
    → Sees first (IsToken k.Name) (Last k.Name) (name_by (Some kind)) (record { kind = kind; span = at } ∷ ts) (name_by (Some kind) (record { kind = kind; span = at } ∷ ts))
name_sees k.Name at first ts = sees_take k.Name at first ts
name_sees (k.Mark which) at first ts = sees_refuse first (mark which at ∷ ts) (begun_token k.Name)
name_sees (k.Number n) at first ts = sees_refuse first (number_at n at ∷ ts) (begun_token k.Name)
name_sees (k.BitText count value) at first ts = sees_refuse first (bits_at count value at ∷ ts) (begun_token k.Name)

reads_name : {Pre : List Token → Type 0} → Reads Pre (IsToken k.Name) (Last k.Name) name
unfolding name
reads_name = reads_peek name_by (begun_token k.Name) (λ first ts pre. by_next first ts)
  where
    by_next : (first ts : List Token) → Sees first (IsToken k.Name) (Last k.Name) (name_by (kind_at ts)) ts (name_by (kind_at ts) ts)
    by_next first [] = sees_refuse first [] (begun_token k.Name)
    by_next first (t ∷ ts) = name_sees t.kind t.span first ts

-- no more where there are as many as may be
module _ {A : Type 0} {Pre : List Token → Type 0} {X : Relation A} {Post : A → List Token → Type 0} (full : Bool) (begins_it : Option TokenKind → Bool) {q : Reader A} (reads : Reads Pre X Post q) (none : begins_it None ≡ false)
    (stands : (first : List Token) (t : Token) (ts : List Token) → Pre first → begins_it (Some t.kind) ≡ true → Stands f.TooManyParts (At t.span) (first ++ []) (t ∷ ts))
    (begun : (kind : TokenKind) (at : Span) → begins_it (Some kind) ≡ true → Begun X (record { kind = kind; span = at } ∷ [])) where
  limited_sees : (first ts : List Token) → Pre first → Sees first X Post (either (full && begins_it (kind_at ts)) (stops f.TooManyParts) q) ts (either (full && begins_it (kind_at ts)) (stops f.TooManyParts) q ts)
  limited_sees first [] pre = by_test (full && begins_it None) refl
    where
      by_test : (b : Bool) → (full && begins_it None) ≡ b → Sees first X Post (either b (stops f.TooManyParts) q) [] (either b (stops f.TooManyParts) q [])
      by_test true is = let bad : true ≡ false = sym (and_right full (begins_it None) is) ∙ none in absurd cc
      by_test false is = reads.sees first [] pre
  limited_sees first (t ∷ ts) pre = by_test (full && begins_it (Some t.kind)) refl
    where
      by_test : (b : Bool) → (full && begins_it (Some t.kind)) ≡ b → Sees first X Post (either b (stops f.TooManyParts) q) (t ∷ ts) (either b (stops f.TooManyParts) q (t ∷ ts))
      by_test true is =
          let yes = and_right full (begins_it (Some t.kind)) is in
          sees_stops f.TooManyParts first t ts (stands first t ts pre yes) (begun t.kind t.span yes)
      by_test false is = reads.sees first (t ∷ ts) pre

  reads_limited : Reads Pre X Post (limited full begins_it q)
  unfolding limited
  reads_limited = reads_peek (λ next. either (full && begins_it next) (stops f.TooManyParts) q) reads.some limited_sees

-- ---- expressions

begun_expr_mark : (which : Mark) (at : Span) → begins_expr (Some (k.Mark which)) ≡ true → Begun IsWhole (mark which at ∷ [])
begun_expr_mark m.Minus at h = record { more = number_at 0 nowhere ∷ []; value = e.Negative (cover at nowhere) 0; spans = λ to. up_six g.negative }
begun_expr_mark m.True at h = record { more = []; value = e.Truth at true; spans = λ to. up_six g.truth }
begun_expr_mark m.False at h = record { more = []; value = e.Truth at false; spans = λ to. up_six g.falsehood }
begun_expr_mark m.This at h = record { more = mark m.Dot nowhere ∷ mark m.Uvalue nowhere ∷ []; value = e.Attribute (cover at nowhere) owners.This attributes.Uvalue; spans = λ to. up_six (g.this refl) }
begun_expr_mark m.Open at h = record { more = number_at 0 nowhere ∷ mark m.Close nowhere ∷ []; value = e.Group (cover at nowhere) (e.Number nowhere 0); spans = λ to. up_six (g.group (up_six g.number)) }
begun_expr_mark m.Not at h = record { more = number_at 0 nowhere ∷ []; value = e.Not (cover at (span_of (e.Number nowhere 0))) (e.Number nowhere 0); spans = λ to. up_six (g.not g.number) }
begun_expr_mark _ at h = absurd cc

begun_expr : (kind : TokenKind) (at : Span) → begins_expr (Some kind) ≡ true → Begun IsWhole (record { kind = kind; span = at } ∷ [])
begun_expr k.Name at h = record { more = []; value = e.Name at; spans = λ to. up_six g.name }
begun_expr (k.Number n) at h = record { more = []; value = e.Number at n; spans = λ to. up_six g.number }
begun_expr (k.Mark which) at h = begun_expr_mark which at h
begun_expr (k.BitText count value) at h = absurd cc

next_is : {sign : Span} {x : Expr} {one two to : List Token} → IsToken (k.Mark m.Comma) one two sign → IsWhole two to x → IsNext one to x
next_is it h = g.next h

sees_next : (count : ℕ) (at : Span) (first ts : List Token) → Sees first IsNext AnyOf (next_expr all count) (mark m.Comma at ∷ ts) (next_expr all count (mark m.Comma at ∷ ts))
unfolding next_expr
sees_next count at first ts =
    sees_taken (k.Mark m.Comma) at first ts (λ sign. reads_limited (is_full all most_values count) begins_expr (reads_as (λ x from to h one comma. next_is comma h) (λ x us h. h) (λ us pre. tt) reads_whole) refl
    (λ front t us last yes. inl (refl, tt, inr (sign, last.0, append-nil front ∙ last.1)))
    (λ kind place yes. begun_as (λ x from to h one comma. next_is comma h) (begun_expr kind place yes)))

begun_next : Begun IsNext []
begun_next = record { more = mark m.Comma nowhere ∷ number_at 0 nowhere ∷ []; value = e.Number nowhere 0; spans = λ to. g.next (up_six g.number) }

reads_exprs : Reads Any IsExprs AnyOf (exprs all)
unfolding exprs
reads_exprs =
    reads_bind reads_whole (λ x. reads_as (λ ys from to more start h. subst (λ (zs : List Expr). IsExprs start to zs) (sym more.1) (g.exprs h more.2)) (λ ys us h. tt) (λ us pre. tt)
    (reads_many (is_next m.Comma) (λ found. consumes_next_expr all (length found)) IsNext Any
    (λ found first ts goes inv. at_mark m.Comma first (λ at us. sees_next (length found) at first us) ts goes) begun_next (x ∷ [])))

-- ---- brackets and arguments

variable_is : {a b c : Span} {one two three to : List Token} → IsToken (k.Mark m.CloseSquare) three to c → IsToken (k.Mark m.Variable) two three b → IsToken (k.Mark m.OpenSquare) one two a → IsBracket one to (variable_of a c)
variable_is it it it = g.variable

lengths_is : {a c : Span} {xs : List Expr} {one two three to : List Token} → IsToken (k.Mark m.CloseSquare) three to c → IsExprs two three xs → IsToken (k.Mark m.OpenSquare) one two a → IsBracket one to (lengths_of a xs c)
lengths_is it h it = g.lengths h

reads_lengths : {Pre : List Token → Type 0} (a : Span) → Reads Pre (After (IsToken (k.Mark m.OpenSquare)) IsBracket a) AnyOf (lengths all a)
unfolding lengths
reads_lengths a = reads_bind (freely reads_exprs) (λ xs. reads_bind (reads_expect m.CloseSquare) (λ c. reads_pure (lengths_of a xs c) (λ us three shut two h one opened. lengths_is shut h opened) (λ us pre. tt)))

sees_variable : (a at : Span) (first ts : List Token) → Sees first (After (IsToken (k.Mark m.OpenSquare)) IsBracket a) AnyOf (variable all a) (mark m.Variable at ∷ ts) (variable all a (mark m.Variable at ∷ ts))
unfolding variable
sees_variable a at first ts = sees_taken (k.Mark m.Variable) at first ts (λ b. reads_bind (reads_expect m.CloseSquare) (λ c. reads_pure (variable_of a c) (λ us three shut two word one opened. variable_is shut word opened) (λ us pre. tt)))

reads_filled : {Pre : List Token → Type 0} (a : Span) → Reads Pre (After (IsToken (k.Mark m.OpenSquare)) IsBracket a) AnyOf (filled all a)
unfolding filled
reads_filled a = reads_test m.Variable (λ first at us pre. sees_variable a at first us) (reads_lengths a)

reads_bracket : {Pre : List Token → Type 0} → Reads Pre IsBracket AnyOf (bracket all)
unfolding bracket bracket_of
reads_bracket =
    reads_mark m.OpenSquare
    (λ a. reads_test m.CloseSquare
    (λ first at us last. sees_stops_at f.EmptyBracket a first (mark m.CloseSquare at ∷ us) (a, at, last.0, us, append-nil first ∙ last.1, refl, refl) (reads_filled {Pre = Any} a).some) (reads_filled a))
    (reads_pure None (λ us. g.unbracketed) (λ us pre. tt))

given_is : {a b : Span} {xs : List Expr} {one two three to : List Token} → IsToken (k.Mark m.Close) three to b → IsExprs two three xs → IsToken (k.Mark m.Open) one two a → IsArguments one to xs
given_is it h it = g.some_arguments h

empty_is : {a b : Span} {one two to : List Token} → IsToken (k.Mark m.Close) two to b → IsToken (k.Mark m.Open) one two a → IsArguments one to []
empty_is it it = g.empty_arguments

reads_given : {Pre : List Token → Type 0} (a : Span) → Reads Pre (After (IsToken (k.Mark m.Open)) IsArguments a) AnyOf (given all)
unfolding given
reads_given a = reads_bind (freely reads_exprs) (λ xs. reads_bind (reads_expect m.Close) (λ b. reads_pure xs (λ us three shut two h one opened. given_is shut h opened) (λ us pre. tt)))

reads_arguments : {Pre : List Token → Type 0} → Reads Pre IsArguments AnyOf (arguments all)
unfolding arguments arguments_of
reads_arguments =
    reads_mark m.Open (λ a. reads_mark m.Close (λ b. reads_pure [] (λ us two shut one opened. empty_is shut opened) (λ us pre. tt)) (reads_given a)) (reads_pure [] (λ us. g.no_arguments) (λ us pre. tt))

bits_is : {count value : ℕ} {at : Span} {from to : List Token} → IsToken (k.BitText count value) from to at → IsEncoding from to (encodings.Bits at count value)
bits_is it = g.bits

call_is : {at : Span} {xs : List Expr} {one two to : List Token} → IsArguments two to xs → IsToken k.Name one two at → IsEncoding one to (call_of at xs)
call_is h it = g.call h

begun_encoding : Begun IsEncoding []
begun_encoding = record { more = bits_at 0 0 nowhere ∷ []; value = encodings.Bits nowhere 0 0; spans = λ to. g.bits }

encoding_sees : (kind : TokenKind) (at : Span) (first ts : List Token)
    → Sees first IsEncoding AnyOf (encoding_by all (Some kind)) (record { kind = kind; span = at } ∷ ts) (encoding_by all (Some kind) (record { kind = kind; span = at } ∷ ts))
encoding_sees (k.BitText count value) at first ts = sees_taken (k.BitText count value) at first ts (λ sign. reads_pure (encodings.Bits sign count value) (λ us start h. bits_is h) (λ us pre. tt))
encoding_sees k.Name at first ts = sees_taken k.Name at first ts (λ sign. reads_map (λ xs. call_of sign xs) reads_arguments (λ xs from to h one named. call_is h named) (λ xs us h. tt))
encoding_sees (k.Number n) at first ts = sees_refuse first (number_at n at ∷ ts) begun_encoding
encoding_sees (k.Mark which) at first ts = sees_refuse first (mark which at ∷ ts) begun_encoding

reads_encoding : {Pre : List Token → Type 0} → Reads Pre IsEncoding AnyOf (encoding all)
unfolding encoding
reads_encoding = reads_peek (encoding_by all) begun_encoding (λ first ts pre. by_next first ts)
  where
    by_next : (first ts : List Token) → Sees first IsEncoding AnyOf (encoding_by all (kind_at ts)) ts (encoding_by all (kind_at ts) ts)
    by_next first [] = sees_refuse first [] begun_encoding
    by_next first (t ∷ ts) = encoding_sees t.kind t.span first ts

-- ---- statements

binding_is : {at sign end : Span} {c : Encoding} {b : Option Bracket} {one two three four five to : List Token} → IsToken (k.Mark m.Semicolon) five to end → IsBracket four five b → IsEncoding three four c
    → IsToken (k.Mark m.Binds) two three sign → IsToken k.Name one two at → IsBound one to (record { name = at; encoding = c; bracket = b })
binding_is it b c it it = g.binding c b

reads_binding : {Pre : List Token → Type 0} (at : Span) → Reads Pre (After (IsToken k.Name) IsBound at) AnyOf (binding all at)
unfolding binding
reads_binding at = reads_bind (reads_expect m.Binds) (λ sign. reads_bind reads_encoding (λ c. reads_bind reads_bracket (λ b. reads_bind (reads_expect m.Semicolon) (λ end.
    reads_pure (record { name = at; encoding = c; bracket = b }) (λ us five shut four h three j two binds one named. binding_is shut h j binds named) (λ us pre. tt)))))

field_is : {at end : Span} {b : Option Bracket} {one two three to : List Token} → IsToken (k.Mark m.Semicolon) three to end → IsBracket two three b → IsToken k.Name one two at → IsItem one to (i.Field at b)
field_is it b it = g.field b

reads_field : {Pre : List Token → Type 0} (at : Span) → Reads Pre (After (IsToken k.Name) IsItem at) AnyOf (field all at)
unfolding field
reads_field at = reads_bind reads_bracket (λ b. reads_bind (reads_expect m.Semicolon) (λ end. reads_pure (i.Field at b) (λ us three shut two h one named. field_is shut h named) (λ us pre. tt)))

reads_bound : {Pre : List Token → Type 0} → Reads Pre IsBound AnyOf (bound all)
unfolding bound
reads_bound = reads_bind reads_name (λ at. reads_binding at)

sees_named_item : (at : Span) (first ts : List Token) → Sees first IsItem AnyOf (named_item all) (name_at at ∷ ts) (named_item all (name_at at ∷ ts))
unfolding named_item
sees_named_item at first ts =
    sees_taken k.Name at first ts (λ sign. reads_test m.Binds
    (λ front place us pre. (reads_map {Pre = Any} {Post = AnyOf} (λ b. i.Bound b) (reads_binding sign) (λ b from to h one named. g.bound (h one named)) (λ b vs h. tt)).sees front (mark m.Binds place ∷ us) tt) (reads_field sign))

enforce_is : {at a b end : Span} {x : Expr} {one two three four five to : List Token} → IsToken (k.Mark m.Semicolon) five to end → IsToken (k.Mark m.Close) four five b → IsWhole three four x
    → IsToken (k.Mark m.Open) two three a → IsToken (k.Mark m.Enforce) one two at → IsItem one to (i.Enforce at x)
enforce_is it it h it it = g.enforce h

sees_enforce : (at : Span) (first ts : List Token) → Sees first IsItem AnyOf (enforce all) (mark m.Enforce at ∷ ts) (enforce all (mark m.Enforce at ∷ ts))
unfolding enforce
sees_enforce at first ts =
    sees_taken (k.Mark m.Enforce) at first ts (λ sign. reads_bind (reads_expect m.Open) (λ a. reads_bind (freely reads_whole) (λ x. reads_bind (reads_expect m.Close) (λ b. reads_bind (reads_expect m.Semicolon) (λ end.
    reads_pure (i.Enforce sign x) (λ us five shut four close three h two opened one word. enforce_is shut close h opened word) (λ us pre. tt))))))

begun_item : Begun IsItem []
begun_item = record { more = name_at nowhere ∷ mark m.Semicolon nowhere ∷ []; value = i.Field nowhere None; spans = λ to. g.field g.unbracketed }

item_mark : (which : Mark) (at : Span) (first ts : List Token) → Sees first IsItem AnyOf (item_by all (Some (k.Mark which))) (mark which at ∷ ts) (item_by all (Some (k.Mark which)) (mark which at ∷ ts))
item_mark m.Enforce at first ts = sees_enforce at first ts
item_mark which at first ts = sees_refuse first (mark which at ∷ ts) begun_item

item_sees : (kind : TokenKind) (at : Span) (first ts : List Token) → Sees first IsItem AnyOf (item_by all (Some kind)) (record { kind = kind; span = at } ∷ ts) (item_by all (Some kind) (record { kind = kind; span = at } ∷ ts))
item_sees k.Name at first ts = sees_named_item at first ts
item_sees (k.Mark which) at first ts = item_mark which at first ts
item_sees (k.Number n) at first ts = sees_refuse first (number_at n at ∷ ts) begun_item
item_sees (k.BitText count value) at first ts = sees_refuse first (bits_at count value at ∷ ts) begun_item

reads_item : {Pre : List Token → Type 0} → Reads Pre IsItem AnyOf (item all)
unfolding item
reads_item = reads_peek (item_by all) begun_item (λ first ts pre. by_next first ts)
  where
    by_next : (first ts : List Token) → Sees first IsItem AnyOf (item_by all (kind_at ts)) ts (item_by all (kind_at ts) ts)
    by_next first [] = sees_refuse first [] begun_item
    by_next first (t ∷ ts) = item_sees t.kind t.span first ts

reads_any : (only_bound : Bool) → Reads Any (IsStatement only_bound) AnyOf (any_statement all only_bound)
unfolding any_statement
reads_any true = reads_map {Pre = Any} {Post = AnyOf} (λ b. i.Bound b) (reads_bound {Pre = Any}) (λ b from to h. g.bound_item h) (λ b us h. tt)
reads_any false = reads_as (λ x from to h. g.any_item h) (λ x us h. h) (λ us pre. tt) (reads_item {Pre = Any})

begun_statement : (only_bound : Bool) → Begun (IsStatement only_bound) []
begun_statement only_bound = (reads_any only_bound).some

begun_named : (only_bound : Bool) (at : Span) → Begun (IsStatement only_bound) (name_at at ∷ [])
begun_named true at = record {
  more = mark m.Binds nowhere ∷ bits_at 0 0 nowhere ∷ mark m.Semicolon nowhere ∷ [];
  value = i.Bound (record { name = at; encoding = encodings.Bits nowhere 0 0; bracket = None });
  spans = λ to. g.bound_item (g.binding g.bits g.unbracketed);
}
begun_named false at = record { more = mark m.Semicolon nowhere ∷ []; value = i.Field at None; spans = λ to. g.any_item (g.field g.unbracketed) }

begun_enforce : (at : Span) → Begun (IsStatement false) (mark m.Enforce at ∷ [])
begun_enforce at = record {
  more = mark m.Open nowhere ∷ number_at 0 nowhere ∷ mark m.Close nowhere ∷ mark m.Semicolon nowhere ∷ [];
  value = i.Enforce at (e.Number nowhere 0);
  spans = λ to. g.any_item (g.enforce (up_six g.number));
}

begun_marked : (only_bound : Bool) (which : Mark) (at : Span) → (false || (not only_bound && is_next m.Enforce (Some (k.Mark which)))) ≡ true → Begun (IsStatement only_bound) (mark which at ∷ [])
begun_marked true which at h = absurd cc
begun_marked false which at h = subst (λ (kind : TokenKind). Begun (IsStatement false) (record { kind = kind; span = at } ∷ [])) (sym (mark_is m.Enforce (k.Mark which) h)) (begun_enforce at)

statement_begun : (only_bound : Bool) (kind : TokenKind) (at : Span) → begins_statement only_bound (Some kind) ≡ true → Begun (IsStatement only_bound) (record { kind = kind; span = at } ∷ [])
statement_begun only_bound k.Name at h = begun_named only_bound at
statement_begun only_bound (k.Mark which) at h = begun_marked only_bound which at h
statement_begun true (k.Number n) at h = absurd cc
statement_begun false (k.Number n) at h = absurd cc
statement_begun true (k.BitText count value) at h = absurd cc
statement_begun false (k.BitText count value) at h = absurd cc

statement_mark : (only_bound : Bool) (which : Mark) → (false || (not only_bound && is_next m.Enforce (Some (k.Mark which)))) ≡ true → follows_name which ≡ false
statement_mark true which h = absurd cc
statement_mark false which h = ap (begins_by follows_name) (mark_is m.Enforce (k.Mark which) h)

statement_stands : (only_bound : Bool) (kind : TokenKind) → begins_statement only_bound (Some kind) ≡ true → begins_by follows_name kind ≡ false
statement_stands only_bound k.Name h = refl
statement_stands only_bound (k.Mark which) h = statement_mark only_bound which h
statement_stands only_bound (k.Number n) h = refl
statement_stands only_bound (k.BitText count value) h = refl

no_statement : (only_bound : Bool) → begins_statement only_bound None ≡ false
no_statement true = refl
no_statement false = refl

reads_statement : (only_bound : Bool) (count : ℕ) → Reads Any (IsStatement only_bound) AnyOf (statement all only_bound count)
unfolding statement
reads_statement only_bound count =
    reads_limited (is_full all most_statements count) (begins_statement only_bound) (reads_any only_bound) (no_statement only_bound)
    (λ first t ts pre yes. inl (refl, tt, inl (statement_stands only_bound t.kind yes))) (λ kind at yes. statement_begun only_bound kind at yes)

reads_statements : {Pre : List Token → Type 0} (only_bound : Bool) → Reads Pre (Many (IsStatement only_bound)) AnyOf (statements all only_bound)
unfolding statements
reads_statements only_bound =
    reads_as (λ ys from to more. subst (λ (zs : List Item). Many (IsStatement only_bound) from to zs) (sym more.1) more.2) (λ ys us h. tt) (λ us pre. tt)
    (reads_many (before m.CloseBrace) (λ found. consumes_statement all only_bound (length found)) (IsStatement only_bound) Any
    (λ found first ts goes inv. (reads_statement only_bound (length found)).sees first ts inv) (begun_statement only_bound) [])

-- ---- sections

data IsCalled : List Token → List Token → Option Span → Type 0 where
  uncalled : {to : List Token} → IsCalled to to None
  called_so : {at : Span} {to : List Token} → IsCalled (name_at at ∷ to) to (Some at)

abbrev IsHeading : List Token → List Token → SectionHead → Type 0
IsHeading from to h = IsHead from to h.word h.kind

called_is : {at : Span} {from to : List Token} → IsToken k.Name from to at → IsCalled from to (Some at)
called_is it = called_so

called_sees : (kind : TokenKind) (at : Span) (first ts : List Token) → Sees first IsCalled AnyOf (called_by all (Some kind)) (record { kind = kind; span = at } ∷ ts) (called_by all (Some kind) (record { kind = kind; span = at } ∷ ts))
called_sees k.Name at first ts = sees_taken k.Name at first ts (λ sign. reads_pure (Some sign) (λ us start h. called_is h) (λ us pre. tt))
called_sees (k.Mark which) at first ts = (reads_pure {Pre = Any} {X = IsCalled} {Post = AnyOf} None (λ us. uncalled) (λ us pre. tt)).sees first (mark which at ∷ ts) tt
called_sees (k.Number n) at first ts = (reads_pure {Pre = Any} {X = IsCalled} {Post = AnyOf} None (λ us. uncalled) (λ us pre. tt)).sees first (number_at n at ∷ ts) tt
called_sees (k.BitText count value) at first ts = (reads_pure {Pre = Any} {X = IsCalled} {Post = AnyOf} None (λ us. uncalled) (λ us pre. tt)).sees first (bits_at count value at ∷ ts) tt

reads_called : {Pre : List Token → Type 0} → Reads Pre IsCalled AnyOf (called all)
unfolding called
reads_called = reads_peek (called_by all) (record { more = []; value = None; spans = λ to. uncalled }) (λ first ts pre. by_next first ts)
  where
    by_next : (first ts : List Token) → Sees first IsCalled AnyOf (called_by all (kind_at ts)) ts (called_by all (kind_at ts) ts)
    by_next first [] = (reads_pure {Pre = Any} {X = IsCalled} {Post = AnyOf} None (λ us. uncalled) (λ us pre. tt)).sees first [] tt
    by_next first (t ∷ ts) = called_sees t.kind t.span first ts

format_is : {at : Span} {called_as : Option Span} {one two to : List Token} → IsCalled two to called_as → IsToken (k.Mark m.Compressed) one two at → IsHead one to at (kinds.Compressed called_as)
format_is uncalled it = g.unnamed
format_is called_so it = g.named

sees_format : (at : Span) (first ts : List Token) → Sees first IsHeading AnyOf (format all) (mark m.Compressed at ∷ ts) (format all (mark m.Compressed at ∷ ts))
unfolding format
sees_format at first ts = sees_taken (k.Mark m.Compressed) at first ts (λ sign. reads_map (λ o. head_at (kinds.Compressed o) sign) reads_called (λ o from to h one word. format_is h word) (λ o us h. tt))

uncompressed_is : {at : Span} {from to : List Token} → IsToken (k.Mark m.Uncompressed) from to at → IsHead from to at kinds.Uncompressed
uncompressed_is it = g.uncompressed

control_is : {at : Span} {from to : List Token} → IsToken (k.Mark m.Control) from to at → IsHead from to at kinds.Control
control_is it = g.control

initial_is : {at : Span} {from to : List Token} → IsToken (k.Mark m.Initial) from to at → IsHead from to at kinds.Initial
initial_is it = g.initial

default_is : {at : Span} {from to : List Token} → IsToken (k.Mark m.Default) from to at → IsHead from to at kinds.Default
default_is it = g.default

sees_plain : (which : Mark) (kind : SectionKind) → ((at : Span) (from to : List Token) → IsToken (k.Mark which) from to at → IsHead from to at kind) → (at : Span) (first ts : List Token)
    → Sees first IsHeading AnyOf (plain all kind) (mark which at ∷ ts) (plain all kind (mark which at ∷ ts))
unfolding plain
sees_plain which kind is at first ts = sees_taken (k.Mark which) at first ts (λ sign. reads_pure (head_at kind sign) (λ us start h. is sign start us h) (λ us pre. tt))

begun_heading : Begun IsHeading []
begun_heading = record { more = mark m.Control nowhere ∷ []; value = head_at kinds.Control nowhere; spans = λ to. g.control }

heading_mark : (which : Mark) (at : Span) (first ts : List Token) → Sees first IsHeading AnyOf (heading_by all (Some (k.Mark which))) (mark which at ∷ ts) (heading_by all (Some (k.Mark which)) (mark which at ∷ ts))
heading_mark m.Uncompressed at first ts = sees_plain m.Uncompressed kinds.Uncompressed (λ place from to h. uncompressed_is h) at first ts
heading_mark m.Control at first ts = sees_plain m.Control kinds.Control (λ place from to h. control_is h) at first ts
heading_mark m.Initial at first ts = sees_plain m.Initial kinds.Initial (λ place from to h. initial_is h) at first ts
heading_mark m.Default at first ts = sees_plain m.Default kinds.Default (λ place from to h. default_is h) at first ts
heading_mark m.Compressed at first ts = sees_format at first ts
heading_mark which at first ts = sees_refuse first (mark which at ∷ ts) begun_heading

heading_sees : (kind : TokenKind) (at : Span) (first ts : List Token) → Sees first IsHeading AnyOf (heading_by all (Some kind)) (record { kind = kind; span = at } ∷ ts) (heading_by all (Some kind) (record { kind = kind; span = at } ∷ ts))
heading_sees (k.Mark which) at first ts = heading_mark which at first ts
heading_sees k.Name at first ts = sees_refuse first (name_at at ∷ ts) begun_heading
heading_sees (k.Number n) at first ts = sees_refuse first (number_at n at ∷ ts) begun_heading
heading_sees (k.BitText count value) at first ts = sees_refuse first (bits_at count value at ∷ ts) begun_heading

reads_heading : Reads Any IsHeading AnyOf (heading all)
unfolding heading
reads_heading = reads_peek (heading_by all) begun_heading (λ first ts pre. by_next first ts)
  where
    by_next : (first ts : List Token) → Sees first IsHeading AnyOf (heading_by all (kind_at ts)) ts (heading_by all (kind_at ts) ts)
    by_next first [] = sees_refuse first [] begun_heading
    by_next first (t ∷ ts) = heading_sees t.kind t.span first ts

section_is : {a b : Span} {h : SectionHead} {xs : List Item} {one two three four to : List Token} → IsToken (k.Mark m.CloseBrace) four to b → Many (IsStatement (holds_bound h.kind)) three four xs → IsToken (k.Mark m.OpenBrace) two three a → IsHeading one two h
    → IsSection one to (record { kind = h.kind; word = h.word; items = xs })
section_is it hs it j = g.section j hs

reads_section_of : Reads Any IsSection AnyOf (section_of all)
unfolding section_of
reads_section_of = reads_bind reads_heading (λ h. reads_bind (reads_expect m.OpenBrace) (λ a. reads_bind (reads_statements (holds_bound h.kind)) (λ xs. reads_bind (reads_expect m.CloseBrace) (λ b.
    reads_pure (record { kind = h.kind; word = h.word; items = xs }) (λ us four shut three hs two opened one j. section_is shut hs opened j) (λ us pre. tt)))))

begun_section : (which : Mark) (at : Span) (kind : SectionKind) → ((to : List Token) → IsHead (mark which at ∷ to) to at kind) → Begun IsSection (mark which at ∷ [])
begun_section which at kind is = record {
  more = mark m.OpenBrace nowhere ∷ mark m.CloseBrace nowhere ∷ [];
  value = record { kind = kind; word = at; items = [] };
  spans = λ to. g.section (is (mark m.OpenBrace nowhere ∷ mark m.CloseBrace nowhere ∷ to)) g.ended;
}

begun_once_mark : (which : Mark) (at : Span) → stands_once which ≡ true → Begun IsSection (mark which at ∷ [])
begun_once_mark m.Control at h = begun_section m.Control at kinds.Control (λ to. g.control)
begun_once_mark m.Initial at h = begun_section m.Initial at kinds.Initial (λ to. g.initial)
begun_once_mark m.Default at h = begun_section m.Default at kinds.Default (λ to. g.default)
begun_once_mark _ at h = absurd cc

begun_once : (kind : TokenKind) (at : Span) → begins_by stands_once kind ≡ true → Begun IsSection (record { kind = kind; span = at } ∷ [])
begun_once (k.Mark which) at h = begun_once_mark which at h
begun_once k.Name at h = absurd cc
begun_once (k.Number n) at h = absurd cc
begun_once (k.BitText count value) at h = absurd cc

and_left : (a b : Bool) → (a && b) ≡ true → a ≡ true
and_left true b h = refl
and_left false b h = absurd cc

section_room : (seen : SectionsSoFar) (first ts : List Token) → Sees first IsSection AnyOf (either (is_next m.Compressed (kind_at ts) && is_out all seen.formats_left) (stops f.TooManyParts) (section_of all)) ts
    (either (is_next m.Compressed (kind_at ts) && is_out all seen.formats_left) (stops f.TooManyParts) (section_of all) ts)
section_room seen first [] = reads_section_of.sees first [] tt
section_room seen first (t ∷ ts) = by_test (is_mark m.Compressed t.kind && is_out all seen.formats_left) refl
  where
    by_test : (b : Bool) → (is_mark m.Compressed t.kind && is_out all seen.formats_left) ≡ b → Sees first IsSection AnyOf (either b (stops f.TooManyParts) (section_of all)) (t ∷ ts) (either b (stops f.TooManyParts) (section_of all) (t ∷ ts))
    by_test true is =
        let kind_is = mark_is m.Compressed t.kind (and_left (is_mark m.Compressed t.kind) (is_out all seen.formats_left) is) in
        sees_stops f.TooManyParts first t ts (inl (refl, tt, inl (ap (begins_by follows_name) kind_is)))
        (subst (λ (kind : TokenKind). Begun IsSection (record { kind = kind; span = t.span } ∷ [])) (sym kind_is) (begun_section m.Compressed t.span (kinds.Compressed None) (λ to. g.unnamed)))
    by_test false is = reads_section_of.sees first (t ∷ ts) tt

section_sees : (seen : SectionsSoFar) (first ts : List Token)
    → Sees first IsSection AnyOf (either (true && repeats (kind_at ts) seen) (stops f.RepeatedSection) (either (is_next m.Compressed (kind_at ts) && is_out all seen.formats_left) (stops f.TooManyParts) (section_of all))) ts
    (either (true && repeats (kind_at ts) seen) (stops f.RepeatedSection) (either (is_next m.Compressed (kind_at ts) && is_out all seen.formats_left) (stops f.TooManyParts) (section_of all)) ts)
section_sees seen first [] = section_room seen first []
section_sees seen first (t ∷ ts) = by_test (true && repeats (Some t.kind) seen) refl
  where
    by_test : (b : Bool) → (true && repeats (Some t.kind) seen) ≡ b
        → Sees first IsSection AnyOf (either b (stops f.RepeatedSection) (either (is_mark m.Compressed t.kind && is_out all seen.formats_left) (stops f.TooManyParts) (section_of all))) (t ∷ ts)
        (either b (stops f.RepeatedSection) (either (is_mark m.Compressed t.kind && is_out all seen.formats_left) (stops f.TooManyParts) (section_of all)) (t ∷ ts))
    by_test true is = let once = once_of true seen (t ∷ ts) is in sees_stops f.RepeatedSection first t ts (refl, once) (begun_once t.kind t.span once)
    by_test false is = section_room seen first (t ∷ ts)

reads_section : (seen : SectionsSoFar) → Reads Any IsSection AnyOf (section all seen)
unfolding section
reads_section seen =
    reads_peek (λ next. either (true && repeats next seen) (stops f.RepeatedSection) (either (is_next m.Compressed next && is_out all seen.formats_left) (stops f.TooManyParts) (section_of all))) reads_section_of.some
    (λ first ts pre. section_sees seen first ts)

reads_sections : {Pre : List Token → Type 0} → Reads Pre (Many IsSection) AnyOf (sections all)
unfolding sections
reads_sections =
    reads_as (λ ys from to more. subst (λ (zs : List Section). Many IsSection from to zs) (sym more.1) more.2) (λ ys us h. tt) (λ us pre. tt)
    (reads_many (before m.CloseBrace) (λ found. consumes_section all (seen_in found)) IsSection Any (λ found first ts goes inv. (reads_section (seen_in found)).sees first ts inv) reads_section_of.some [])

-- ---- parameters

data IsNames : List Token → List Token → List Span → Type 0 where
  listed : {at : Span} {mid to : List Token} {xs : List Span} → Many IsParameter mid to xs → IsNames (name_at at ∷ mid) to (at ∷ xs)

parameter_is : {a b : Span} {one two to : List Token} → IsToken k.Name two to b → IsToken (k.Mark m.Comma) one two a → IsParameter one to b
parameter_is it it = g.parameter

name_stands : (kind : TokenKind) → is_name (Some kind) ≡ true → begins_by follows_name kind ≡ false
name_stands k.Name h = refl
name_stands (k.Mark which) h = absurd cc
name_stands (k.Number n) h = refl
name_stands (k.BitText count value) h = refl

begun_parameter : (sign : Span) (kind : TokenKind) (at : Span) → is_name (Some kind) ≡ true → Begun (After (IsToken (k.Mark m.Comma)) IsParameter sign) (record { kind = kind; span = at } ∷ [])
begun_parameter sign k.Name at h = record { more = []; value = at; spans = λ to start comma. parameter_is it comma }
begun_parameter sign (k.Mark which) at h = absurd cc
begun_parameter sign (k.Number n) at h = absurd cc
begun_parameter sign (k.BitText count value) at h = absurd cc

sees_next_name : (count : ℕ) (at : Span) (first ts : List Token) → Sees first IsParameter AnyOf (next_name all count) (mark m.Comma at ∷ ts) (next_name all count (mark m.Comma at ∷ ts))
unfolding next_name
sees_next_name count at first ts =
    sees_taken (k.Mark m.Comma) at first ts (λ sign. reads_limited (is_full all most_parameters count) is_name
    (reads_as (λ x from to h one comma. parameter_is h comma) (λ x us h. tt) (λ us pre. tt) (reads_name {Pre = Any})) refl
    (λ front t us last yes. inl (refl, tt, inl (name_stands t.kind yes))) (λ kind place yes. begun_parameter sign kind place yes))

begun_comma_name : Begun IsParameter []
begun_comma_name = record { more = mark m.Comma nowhere ∷ name_at nowhere ∷ []; value = nowhere; spans = λ to. g.parameter }

names_are : {at : Span} {xs : List Span} {one two to : List Token} → Many IsParameter two to xs → IsToken k.Name one two at → IsNames one to (at ∷ xs)
names_are hs it = listed hs

reads_names : {Pre : List Token → Type 0} → Reads Pre IsNames AnyOf (names all)
unfolding names
reads_names =
    reads_bind reads_name (λ x. reads_as (λ ys from to more start h. subst (λ (zs : List Span). IsNames start to zs) (sym more.1) (names_are more.2 h)) (λ ys us h. tt) (λ us pre. tt)
    (reads_many (is_next m.Comma) (λ found. consumes_next_name all (length found)) IsParameter Any
    (λ found first ts goes inv. at_mark m.Comma first (λ at us. sees_next_name (length found) at first us) ts goes) begun_comma_name (x ∷ [])))

declared_are : {a b : Span} {xs : List Span} {one two three to : List Token} → IsToken (k.Mark m.Close) three to b → IsNames two three xs → IsToken (k.Mark m.Open) one two a → IsParameters one to xs
declared_are it (listed hs) it = g.some_parameters hs

none_are : {a b : Span} {one two to : List Token} → IsToken (k.Mark m.Close) two to b → IsToken (k.Mark m.Open) one two a → IsParameters one to []
none_are it it = g.empty_parameters

reads_declared : {Pre : List Token → Type 0} (a : Span) → Reads Pre (After (IsToken (k.Mark m.Open)) IsParameters a) AnyOf (declared all)
unfolding declared
reads_declared a = reads_bind reads_names (λ xs. reads_bind (reads_expect m.Close) (λ b. reads_pure xs (λ us three shut two h one opened. declared_are shut h opened) (λ us pre. tt)))

reads_parameters : {Pre : List Token → Type 0} → Reads Pre IsParameters AnyOf (parameters all)
unfolding parameters parameters_of
reads_parameters =
    reads_mark m.Open (λ a. reads_mark m.Close (λ b. reads_pure [] (λ us two shut one opened. none_are shut opened) (λ us pre. tt)) (reads_declared a)) (reads_pure [] (λ us. g.no_parameters) (λ us pre. tt))

-- ---- constants and methods

constant_is : {at sign end : Span} {x : Expr} {one two three four to : List Token} → IsToken (k.Mark m.Semicolon) four to end → IsWhole three four x → IsToken (k.Mark m.Is) two three sign → IsToken k.Name one two at
    → IsPart one to (p.Constant (record { name = at; value = x }))
constant_is it h it it = g.constant h

sees_constant_of : (at sign : Span) (first ts : List Token) → Sees first (After (IsToken k.Name) IsPart at) AnyOf (constant_of all at) (mark m.Is sign ∷ ts) (constant_of all at (mark m.Is sign ∷ ts))
unfolding constant_of
sees_constant_of at sign first ts =
    sees_taken (k.Mark m.Is) sign first ts (λ is_sign. reads_bind (freely reads_whole) (λ x. reads_bind (reads_expect m.Semicolon) (λ end.
    reads_pure (p.Constant (record { name = at; value = x })) (λ us four shut three h two equals one named. constant_is shut h equals named) (λ us pre. tt))))

-- [ ";" ], as the reader answers it
abbrev IsEnd : List Token → List Token → Unit {0} → Type 0
IsEnd from to u = g.IsStop from to

stopped_is : {at : Span} {from to : List Token} → IsToken (k.Mark m.Semicolon) from to at → g.IsStop from to
stopped_is it = g.stopped

reads_stop : {Pre : List Token → Type 0} → Reads Pre IsEnd AnyOf (stop all)
unfolding stop
reads_stop = reads_mark m.Semicolon (λ a. reads_pure tt (λ us start h. stopped_is h) (λ us pre. tt)) (reads_pure tt (λ us. g.unstopped) (λ us pre. tt))

method_is : {at a b : Span} {ps : List Span} {xs : List Section} {one two three four five to : List Token} → g.IsStop five to → IsToken (k.Mark m.CloseBrace) four five b → Many IsSection three four xs → {six : List Token}
    → IsToken (k.Mark m.OpenBrace) six three a → IsParameters two six ps → IsToken k.Name one two at → IsPart one to (p.Method (record { name = at; parameters = ps; sections = xs }))
method_is stop it hs it ps it = g.method ps hs stop

reads_method_of : {Pre : List Token → Type 0} (at : Span) → Reads Pre (After (IsToken k.Name) IsPart at) AnyOf (method_of all at)
unfolding method_of
reads_method_of at = reads_bind reads_parameters (λ ps. reads_bind (reads_expect m.OpenBrace) (λ a. reads_bind reads_sections (λ xs. reads_bind (reads_expect m.CloseBrace) (λ b. reads_bind reads_stop (λ u.
    reads_pure (p.Method (record { name = at; parameters = ps; sections = xs })) (λ us five end four shut three hs two opened six taken one named. method_is end shut hs opened taken named) (λ us pre. tt))))))

begun_constant : (at sign : Span) → Begun (After (IsToken k.Name) IsPart at) (mark m.Is sign ∷ [])
begun_constant at sign = record {
  more = number_at 0 nowhere ∷ mark m.Semicolon nowhere ∷ [];
  value = p.Constant (record { name = at; value = e.Number nowhere 0 });
  spans = λ to start named. constant_is it (up_six g.number) it named;
}

name_stands_at : (at : Span) (first ts : List Token) → Last k.Name at first → begins follows_name ts ≡ true → Stands f.TooManyParts (At at) (first ++ []) ts
name_stands_at at first ts last goes = inr (at, last.0, append-nil first ∙ last.1, refl, goes)

sees_constant : (left : ℕ) (at sign : Span) (first ts : List Token) → Last k.Name at first → Sees first (After (IsToken k.Name) IsPart at) AnyOf (constant all left at) (mark m.Is sign ∷ ts) (constant all left at (mark m.Is sign ∷ ts))
unfolding constant
sees_constant left at sign first ts last = by_test (is_out all left)
  where
    by_test : (b : Bool) → Sees first (After (IsToken k.Name) IsPart at) AnyOf (either b (stops_at f.TooManyParts at) (constant_of all at)) (mark m.Is sign ∷ ts) (either b (stops_at f.TooManyParts at) (constant_of all at) (mark m.Is sign ∷ ts))
    by_test true = sees_stops_at f.TooManyParts at first (mark m.Is sign ∷ ts) (name_stands_at at first (mark m.Is sign ∷ ts) last refl) (begun_constant at sign)
    by_test false = sees_constant_of at sign first ts

begun_method : (at : Span) (kind : TokenKind) (sign : Span) → (is_mark m.Open kind || is_mark m.OpenBrace kind) ≡ true → Begun (After (IsToken k.Name) IsPart at) (record { kind = kind; span = sign } ∷ []) × (begins_by follows_name kind ≡ true)
begun_method at kind sign h = by_case (or_cases (is_mark m.Open kind) (is_mark m.OpenBrace kind) h)
  where
    opened : Begun (After (IsToken k.Name) IsPart at) (mark m.Open sign ∷ [])
    opened = record {
      more = mark m.Close nowhere ∷ mark m.OpenBrace nowhere ∷ mark m.CloseBrace nowhere ∷ [];
      value = p.Method (record { name = at; parameters = []; sections = [] });
      spans = λ to start named. method_is g.unstopped it g.ended it g.empty_parameters named;
    }

    braced : Begun (After (IsToken k.Name) IsPart at) (mark m.OpenBrace sign ∷ [])
    braced = record {
      more = mark m.CloseBrace nowhere ∷ [];
      value = p.Method (record { name = at; parameters = []; sections = [] });
      spans = λ to start named. method_is g.unstopped it g.ended it g.no_parameters named;
    }

    by_case : (is_mark m.Open kind ≡ true) ⊎ (is_mark m.OpenBrace kind ≡ true) → Begun (After (IsToken k.Name) IsPart at) (record { kind = kind; span = sign } ∷ []) × (begins_by follows_name kind ≡ true)
    by_case (inl is) = subst (λ (x : TokenKind). Begun (After (IsToken k.Name) IsPart at) (record { kind = x; span = sign } ∷ []) × (begins_by follows_name x ≡ true)) (sym (mark_is m.Open kind is)) (opened, refl)
    by_case (inr is) = subst (λ (x : TokenKind). Begun (After (IsToken k.Name) IsPart at) (record { kind = x; span = sign } ∷ []) × (begins_by follows_name x ≡ true)) (sym (mark_is m.OpenBrace kind is)) (braced, refl)

method_sees : (left : ℕ) (at : Span) (first ts : List Token) → Last k.Name at first → Sees first (After (IsToken k.Name) IsPart at) AnyOf (either (is_out all left && begins_method (kind_at ts)) (stops_at f.TooManyParts at) (method_of all at)) ts
    (either (is_out all left && begins_method (kind_at ts)) (stops_at f.TooManyParts at) (method_of all at) ts)
method_sees left at first [] last = by_test (is_out all left && false) refl
  where
    by_test : (b : Bool) → (is_out all left && false) ≡ b → Sees first (After (IsToken k.Name) IsPart at) AnyOf (either b (stops_at f.TooManyParts at) (method_of all at)) [] (either b (stops_at f.TooManyParts at) (method_of all at) [])
    by_test true is = let bad : true ≡ false = sym (and_right (is_out all left) false is) in absurd cc
    by_test false is = (reads_method_of {Pre = Last k.Name at} at).sees first [] last
method_sees left at first (t ∷ ts) last = by_test (is_out all left && begins_method (Some t.kind)) refl
  where
    by_test : (b : Bool) → (is_out all left && begins_method (Some t.kind)) ≡ b
        → Sees first (After (IsToken k.Name) IsPart at) AnyOf (either b (stops_at f.TooManyParts at) (method_of all at)) (t ∷ ts) (either b (stops_at f.TooManyParts at) (method_of all at) (t ∷ ts))
    by_test true is =
        let both = begun_method at t.kind t.span (and_right (is_out all left) (begins_method (Some t.kind)) is) in
        sees_stops_at f.TooManyParts at first (t ∷ ts) (name_stands_at at first (t ∷ ts) last both.1) both.0
    by_test false is = (reads_method_of {Pre = Last k.Name at} at).sees first (t ∷ ts) last

reads_method : (left : ℕ) (at : Span) → Reads (Last k.Name at) (After (IsToken k.Name) IsPart at) AnyOf (method all left at)
unfolding method
reads_method left at = reads_peek (λ next. either (is_out all left && begins_method next) (stops_at f.TooManyParts at) (method_of all at)) (reads_method_of {Pre = Any} at).some (λ first ts last. method_sees left at first ts last)

reads_part : (tally : Tally) → Reads Any IsPart AnyOf (part all tally)
unfolding part
reads_part tally = reads_bind reads_name (λ at. reads_test m.Is (λ first sign us last. sees_constant tally.constants_left at sign first us last) (reads_method tally.methods_left at))

pub reads_parts : Reads Any (Many IsPart) AnyOf (parts all)
unfolding parts
reads_parts =
    reads_as (λ ys from to more. subst (λ (zs : List Part). Many IsPart from to zs) (sym more.1) more.2) (λ ys us h. tt) (λ us pre. tt)
    (reads_many is_there (λ found. consumes_part all (tally_of found)) IsPart Any (λ found first ts goes inv. (reads_part (tally_of found)).sees first ts inv) (reads_part (tally_of [])).some [])
