-- No reader of a text looks further than one token.
use Rattle.std.proofs.Common.{◌≡◌, ℕ, ◌<◌, arith, ◌&&◌, List, [], ◌∷◌, length, Option, Some, None, Ok, Bool, true, false, refl, inl}
use Rattle.text_source.specs.declared.span.Span.{Span}
use Rattle.text_source.specs.declared.fault.FaultKind.TheVariants as f
use Rattle.text_source.specs.declared.token.TokenKind.{TokenKind}
use Rattle.text_source.specs.declared.token.TokenKind.TheVariants as k
use Rattle.text_source.specs.declared.token.Mark.{Mark}
use Rattle.text_source.specs.declared.token.Mark.TheVariants as m
use Rattle.text_source.specs.declared.token.Token.{Token}
use Rattle.text_tree.specs.declared.tree.Encoding.TheVariants as encodings
use Rattle.text_tree.specs.declared.tree.Item.TheVariants as i
use Rattle.text_tree.specs.declared.tree.SectionKind.{SectionKind}
use Rattle.text_tree.specs.declared.tree.SectionKind.TheVariants as kinds
use Rattle.text_tree.specs.declared.tree.Section.{Section}
use Rattle.text_tree.specs.declared.tree.Part.TheVariants as p
use Rattle.text_tree.specs.declared.counts.SectionsSoFar.{SectionsSoFar}
use Rattle.text_tree.specs.declared.counts.Tally.{Tally}
use Rattle.text_tree.specs.Rules.{Rules, is_full, is_out, most_parameters, most_statements, most_values}
use Rattle.text_tree.specs.Counts.{seen_in, is_repeated, tally_of}
use Rattle.text_tree.specs.Refused.{begins_by, begins, stands_once}
use Rattle.text_tree.specs.Grammar.{holds_bound, mark, name_at}
use Rattle.text_tree.specs.Reading.{Reader, ◌>>=◌, stops, peek, either, is_next, is_there, kind_at}
use Rattle.text_tree.specs.File.{name_by, name, limited, is_name, begins_expr, before, begins_statement, begins_method, call_of, variable_of, lengths_of, head_at, repeats, next_expr, exprs, variable, lengths, filled, bracket_of, bracket, given, arguments_of, arguments, encoding_by, encoding, field, binding, bound, named_item, enforce, item_by, item, any_statement, statement, statements, called_by, called, format, plain, heading_by, heading, section_of, section, sections, next_name, names, declared, parameters_of, parameters, constant_of, stop, method_of, constant, method, part, parts}
use Rattle.text_tree.proofs.ReadingLocal.{IsLocal, Looks, local_peek_at, stops_looks, local_pure, local_refuse, local_stops, local_peek, local_take, local_bind, local_map, local_either, local_expect, bind_ok}
use Rattle.text_tree.proofs.ReadingAfter.{IsLocalAfter, after_local, after_either, after_peek, after_shrinks, after_too_many, local_name, local_opened}
use Rattle.text_tree.proofs.Exprs.{local_whole}
use Rattle.text_tree.proofs.ReadingMany.{Consumes, consumes_refuse, consumes_stops, consumes_take, consumes_peek, consumes_either, consumes_bind, consumes_one, local_many}

pub consumes_name_by : (o : Option TokenKind) → Consumes (name_by o)
consumes_name_by (Some k.Name) = consumes_one
consumes_name_by (Some (k.Number n)) = consumes_refuse
consumes_name_by (Some (k.BitText count value)) = consumes_refuse
consumes_name_by (Some (k.Mark mark)) = consumes_refuse
consumes_name_by None = consumes_refuse

pub consumes_name : Consumes name
unfolding name
consumes_name = consumes_peek consumes_name_by

pub local_limited : {A : Type 0} (full : Bool) (begins : Option TokenKind → Bool) {p : Reader A} → IsLocal p → IsLocal (limited full begins p)
unfolding limited
local_limited full begins l = local_bind local_peek (λ next. local_either (full && begins next) (local_stops f.TooManyParts (λ ts. inl refl)) l)

pub consumes_limited : {A : Type 0} (full : Bool) (begins : Option TokenKind → Bool) {p : Reader A} → Consumes p → Consumes (limited full begins p)
unfolding limited
consumes_limited full begins c = consumes_peek (λ next. consumes_either (full && begins next) (consumes_stops f.TooManyParts (λ ts. inl refl)) c)

once_word : (which : Mark) (seen : SectionsSoFar) → is_repeated which seen ≡ true → stands_once which ≡ true
once_word m.Control seen h = refl
once_word m.Initial seen h = refl
once_word m.Default seen h = refl
once_word _ seen h = absurd cc

once_kind : (kind : TokenKind) (seen : SectionsSoFar) → repeats (Some kind) seen ≡ true → begins_by stands_once kind ≡ true
once_kind (k.Mark which) seen h = once_word which seen h
once_kind k.Name seen h = absurd cc
once_kind (k.Number n) seen h = absurd cc
once_kind (k.BitText count value) seen h = absurd cc

pub once_of : (flag : Bool) (seen : SectionsSoFar) (ts : List Token) → (flag && repeats (kind_at ts) seen) ≡ true → begins stands_once ts ≡ true
once_of false seen ts h = absurd cc
once_of true seen [] h = absurd cc
once_of true seen (t ∷ ts) h = once_kind t.kind seen h

module _ (r : Rules) where
  pub consumes_next_expr : (count : ℕ) → Consumes (next_expr r count)
  unfolding next_expr
  consumes_next_expr count = consumes_take (λ _. local_limited (is_full r most_values count) begins_expr (local_whole r))

  pub local_exprs : IsLocal (exprs r)
  unfolding exprs
  local_exprs = local_bind (local_whole r) (λ first. local_many (is_next m.Comma) (λ found. consumes_next_expr (length found)) (first ∷ []))

  pub local_variable : (first : Span) → IsLocal (variable r first)
  unfolding variable
  local_variable first = local_bind local_take (λ _. local_bind (local_expect m.CloseSquare) (λ last. local_pure (variable_of first last)))

  pub local_lengths : (first : Span) → IsLocal (lengths r first)
  unfolding lengths
  local_lengths first = local_bind local_exprs (λ found. local_bind (local_expect m.CloseSquare) (λ last. local_pure (lengths_of first found last)))

  pub local_filled : (first : Span) → IsLocal (filled r first)
  unfolding filled
  local_filled first = local_bind local_peek (λ next. local_either (is_next m.Variable next) (local_variable first) (local_lengths first))

  pub local_bracket : IsLocal (bracket r)
  unfolding bracket bracket_of
  local_bracket = local_opened local_filled None

  pub local_given : IsLocal (given r)
  unfolding given
  local_given = local_bind local_exprs (λ found. local_bind (local_expect m.Close) (λ _. local_pure found))

  pub local_arguments : IsLocal (arguments r)
  unfolding arguments arguments_of
  local_arguments = local_bind local_peek (λ next. local_either (is_next m.Open next)
      (local_bind local_take (λ _. local_bind local_peek (λ next. local_either (is_next m.Close next) (local_bind local_take (λ _. local_pure [])) local_given))) (local_pure []))

  pub local_encoding_by : (o : Option TokenKind) → IsLocal (encoding_by r o)
  local_encoding_by (Some (k.BitText count value)) = local_map (λ at. encodings.Bits at count value) local_take
  local_encoding_by (Some k.Name) = local_bind local_take (λ at. local_map (λ xs. call_of at xs) local_arguments)
  local_encoding_by (Some (k.Number n)) = local_refuse
  local_encoding_by (Some (k.Mark mark)) = local_refuse
  local_encoding_by None = local_refuse

  pub local_encoding : IsLocal (encoding r)
  unfolding encoding
  local_encoding = local_bind local_peek local_encoding_by

  pub local_field : (at : Span) → IsLocal (field r at)
  unfolding field
  local_field at = local_bind local_bracket (λ found. local_bind (local_expect m.Semicolon) (λ _. local_pure (i.Field at found)))

  pub local_binding : (at : Span) → IsLocal (binding r at)
  unfolding binding
  local_binding at = local_bind (local_expect m.Binds) (λ _. local_bind local_encoding (λ called. local_bind local_bracket (λ found. local_bind (local_expect m.Semicolon) (λ _. local_pure (record { name = at; encoding = called; bracket = found })))))

  pub consumes_bound : Consumes (bound r)
  unfolding bound
  consumes_bound = consumes_bind consumes_name (λ at. local_binding at)

  pub consumes_named : Consumes (named_item r)
  unfolding named_item
  consumes_named = consumes_take (λ at. local_bind local_peek (λ next. local_either (is_next m.Binds next) (local_map (λ b. i.Bound b) (local_binding at)) (local_field at)))

  pub consumes_enforce : Consumes (enforce r)
  unfolding enforce
  consumes_enforce = consumes_take (λ at. local_bind (local_expect m.Open) (λ _. local_bind (local_whole r) (λ test. local_bind (local_expect m.Close) (λ _. local_bind (local_expect m.Semicolon) (λ _. local_pure (i.Enforce at test))))))

  pub consumes_marked : (mark : Mark) → Consumes (item_by r (Some (k.Mark mark)))
  consumes_marked m.Enforce = consumes_enforce
  consumes_marked _ = consumes_refuse

  pub consumes_item_by : (o : Option TokenKind) → Consumes (item_by r o)
  consumes_item_by (Some k.Name) = consumes_named
  consumes_item_by (Some (k.Mark mark)) = consumes_marked mark
  consumes_item_by (Some (k.Number n)) = consumes_refuse
  consumes_item_by (Some (k.BitText count value)) = consumes_refuse
  consumes_item_by None = consumes_refuse

  pub consumes_item : Consumes (item r)
  unfolding item
  consumes_item = consumes_peek consumes_item_by

  pub consumes_any : (only_bound : Bool) → Consumes (any_statement r only_bound)
  unfolding any_statement
  consumes_any only_bound = consumes_either only_bound (consumes_bind consumes_bound (λ b. local_pure (i.Bound b))) consumes_item

  pub consumes_statement : (only_bound : Bool) (count : ℕ) → Consumes (statement r only_bound count)
  unfolding statement
  consumes_statement only_bound count = consumes_limited (is_full r most_statements count) (begins_statement only_bound) (consumes_any only_bound)

  pub local_statements : (only_bound : Bool) → IsLocal (statements r only_bound)
  unfolding statements
  local_statements only_bound = local_many (before m.CloseBrace) (λ found. consumes_statement only_bound (length found)) []

  pub local_called_by : (o : Option TokenKind) → IsLocal (called_by r o)
  local_called_by (Some k.Name) = local_map (λ at. Some at) local_take
  local_called_by (Some (k.Number n)) = local_pure None
  local_called_by (Some (k.BitText count value)) = local_pure None
  local_called_by (Some (k.Mark mark)) = local_pure None
  local_called_by None = local_pure None

  pub consumes_format : Consumes (format r)
  unfolding format called
  consumes_format = consumes_take (λ at. local_map (λ name. head_at (kinds.Compressed name) at) (local_bind local_peek local_called_by))

  pub consumes_plain : (kind : SectionKind) → Consumes (plain r kind)
  unfolding plain
  consumes_plain kind = consumes_take (λ at. local_pure (head_at kind at))

  pub consumes_word : (mark : Mark) → Consumes (heading_by r (Some (k.Mark mark)))
  consumes_word m.Uncompressed = consumes_plain kinds.Uncompressed
  consumes_word m.Control = consumes_plain kinds.Control
  consumes_word m.Initial = consumes_plain kinds.Initial
  consumes_word m.Default = consumes_plain kinds.Default
  consumes_word m.Compressed = consumes_format
  consumes_word _ = consumes_refuse

  pub consumes_heading_by : (o : Option TokenKind) → Consumes (heading_by r o)
  consumes_heading_by (Some (k.Mark mark)) = consumes_word mark
  consumes_heading_by (Some k.Name) = consumes_refuse
  consumes_heading_by (Some (k.Number n)) = consumes_refuse
  consumes_heading_by (Some (k.BitText count value)) = consumes_refuse
  consumes_heading_by None = consumes_refuse

  pub consumes_heading : Consumes (heading r)
  unfolding heading
  consumes_heading = consumes_peek consumes_heading_by

  pub consumes_section_of : Consumes (section_of r)
  unfolding section_of
  consumes_section_of = consumes_bind consumes_heading (λ h. local_bind (local_expect m.OpenBrace) (λ _. local_bind (local_statements (holds_bound h.kind)) (λ found. local_bind (local_expect m.CloseBrace) (λ _. local_pure (record { kind = h.kind; word = h.word; items = found })))))

  pub consumes_room : (seen : SectionsSoFar) (next : Option TokenKind) → Consumes (either (is_next m.Compressed next && is_out r seen.formats_left) (stops f.TooManyParts) (section_of r))
  consumes_room seen next = consumes_either (is_next m.Compressed next && is_out r seen.formats_left) (consumes_stops f.TooManyParts (λ ts. inl refl)) consumes_section_of

  section_looks : (seen : SectionsSoFar) (ts : List Token) → Looks (either (r.repeats && repeats (kind_at ts) seen) (stops f.RepeatedSection) (either (is_next m.Compressed (kind_at ts) && is_out r seen.formats_left) (stops f.TooManyParts) (section_of r))) ts
      (either (r.repeats && repeats (kind_at ts) seen) (stops f.RepeatedSection) (either (is_next m.Compressed (kind_at ts) && is_out r seen.formats_left) (stops f.TooManyParts) (section_of r)) ts)
  section_looks seen ts = by_test (r.repeats && repeats (kind_at ts) seen) refl
    where
      by_test : (b : Bool) → (r.repeats && repeats (kind_at ts) seen) ≡ b → Looks (either b (stops f.RepeatedSection) (either (is_next m.Compressed (kind_at ts) && is_out r seen.formats_left) (stops f.TooManyParts) (section_of r))) ts
          (either b (stops f.RepeatedSection) (either (is_next m.Compressed (kind_at ts) && is_out r seen.formats_left) (stops f.TooManyParts) (section_of r)) ts)
      by_test true is = stops_looks f.RepeatedSection ts (refl, once_of r.repeats seen ts is)
      by_test false is = (consumes_room seen (kind_at ts)).local.looks ts

  pub consumes_section : (seen : SectionsSoFar) → Consumes (section r seen)
  unfolding section
  consumes_section seen = record { local = local_peek_at (λ next. either (r.repeats && repeats next seen) (stops f.RepeatedSection) (either (is_next m.Compressed next && is_out r seen.formats_left) (stops f.TooManyParts) (section_of r))) (section_looks seen); shorter = λ x ts rest e. shorter_at x ts rest (r.repeats && repeats (kind_at ts) seen) e }
    where
      shorter_at : (x : Section) (ts rest : List Token) (b : Bool) → either b (stops f.RepeatedSection) (either (is_next m.Compressed (kind_at ts) && is_out r seen.formats_left) (stops f.TooManyParts) (section_of r)) ts ≡ Ok (x, rest) → length rest < length ts
      shorter_at x ts rest true e = absurd cc
      shorter_at x ts rest false e = (consumes_room seen (kind_at ts)).shorter x ts rest e

  pub local_sections : IsLocal (sections r)
  unfolding sections
  local_sections = local_many (before m.CloseBrace) (λ found. consumes_section (seen_in found)) []

  pub consumes_next_name : (count : ℕ) → Consumes (next_name r count)
  unfolding next_name
  consumes_next_name count = consumes_take (λ _. local_limited (is_full r most_parameters count) is_name consumes_name.local)

  pub local_declared : IsLocal (declared r)
  unfolding declared names
  local_declared = local_bind (local_bind consumes_name.local (λ first. local_many (is_next m.Comma) (λ found. consumes_next_name (length found)) (first ∷ []))) (λ found. local_bind (local_expect m.Close) (λ _. local_pure found))

  pub local_parameters : IsLocal (parameters r)
  unfolding parameters parameters_of
  local_parameters = local_bind local_peek (λ next. local_either (is_next m.Open next)
      (local_bind local_take (λ _. local_bind local_peek (λ next. local_either (is_next m.Close next) (local_bind local_take (λ _. local_pure [])) local_declared))) (local_pure []))

  pub local_constant_of : (at : Span) → IsLocal (constant_of r at)
  unfolding constant_of
  local_constant_of at = local_bind local_take (λ _. local_bind (local_whole r) (λ value. local_bind (local_expect m.Semicolon) (λ _. local_pure (p.Constant (record { name = at; value = value })))))

  pub local_stop : IsLocal (stop r)
  unfolding stop
  local_stop = local_bind local_peek (λ next. local_either (is_next m.Semicolon next) (local_bind local_take (λ _. local_pure tt)) (local_pure tt))

  pub local_method_of : (at : Span) → IsLocal (method_of r at)
  unfolding method_of
  local_method_of at = local_bind local_parameters (λ taken. local_bind (local_expect m.OpenBrace) (λ _. local_bind local_sections (λ found. local_bind (local_expect m.CloseBrace) (λ _. local_bind local_stop (λ _.
      local_pure (p.Method (record { name = at; parameters = taken; sections = found })))))))

  after_constant : (left : ℕ) (at : Span) → IsLocalAfter (name_at at ∷ []) (constant r left at)
  unfolding constant
  after_constant left at = after_either (is_out r left) (after_too_many at) (after_local (local_constant_of at))

  after_method : (left : ℕ) (at : Span) → IsLocalAfter (name_at at ∷ []) (method r left at)
  unfolding method
  after_method left at = after_peek (λ next. after_either (is_out r left && begins_method next) (after_too_many at) (after_local (local_method_of at)))

  after_name : (tally : Tally) (at : Span) → IsLocalAfter (name_at at ∷ []) (peek >>= λ next. either (is_next m.Is next) (constant r tally.constants_left at) (method r tally.methods_left at))
  after_name tally at = after_peek (λ next. after_either (is_next m.Is next) (after_constant tally.constants_left at) (after_method tally.methods_left at))

  pub consumes_part : (tally : Tally) → Consumes (part r tally)
  unfolding part
  consumes_part tally = record {
    local = local_name (after_name tally);
    shorter = λ x ts rest e.
        let b = bind_ok name (λ at. peek >>= λ next. either (is_next m.Is next) (constant r tally.constants_left at) (method r tally.methods_left at)) ts x rest e in
        let first = consumes_name.shorter b.0 ts b.1 b.2 in
        let second = after_shrinks (after_name tally b.0) b.1 x rest b.3 in
        omega arith;
  }

  pub local_parts : IsLocal (parts r)
  unfolding parts
  local_parts = local_many is_there (λ found. consumes_part (tally_of found)) []
