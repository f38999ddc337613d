-- What is read under every rule is read so under fewer: all of a text but its expressions.
use Rattle.std.proofs.Common.{◌&&◌, ◌==◌, nat_le, ℕ, List, [], ◌∷◌, ◌++◌, length, Option, Some, None, Bool, true, false, refl}
use Rattle.text_source.specs.declared.span.Span.{Span}
use Rattle.text_source.specs.declared.fault.FaultKind.TheVariants as f
use Rattle.text_source.specs.declared.token.TokenKind.{TokenKind}
use Rattle.text_source.specs.declared.token.TokenKind.TheVariants as k
use Rattle.text_source.specs.declared.token.Mark.{Mark}
use Rattle.text_source.specs.declared.token.Mark.TheVariants as m
use Rattle.text_tree.specs.declared.tree.Item.TheVariants as i
use Rattle.text_tree.specs.declared.tree.SectionKind.{SectionKind}
use Rattle.text_tree.specs.declared.counts.SectionsSoFar.{SectionsSoFar}
use Rattle.text_tree.specs.declared.counts.Tally.{Tally}
use Rattle.text_tree.specs.Counts.{seen_in, tally_of}
use Rattle.text_tree.specs.Rules.{Rules, all, most_parameters, most_statements, most_values}
use Rattle.text_tree.specs.Grammar.{holds_bound}
use Rattle.text_tree.specs.Reading.{Reader, ◌>>=◌, pure, stops, stops_at, peek, take, expect, either, is_next, is_there}
use Rattle.text_tree.specs.File.{name, gather, many, limited, is_name, begins_expr, before, begins_statement, begins_method, call_of, repeats, next_expr, exprs, variable, lengths, filled, bracket_of, bracket, given, arguments_of, arguments, encoding_by, encoding, field, binding, bound, named_item, enforce, item_by, item, any_statement, statement, statements, called_by, called, format, plain, heading_by, heading, section_of, section, sections, next_name, names, declared, parameters_of, parameters, constant_of, constant, stop, method_of, method, part, parts}
use Rattle.text_tree.proofs.ReadingMany.{Consumes, gather_advances}
use Rattle.text_tree.proofs.FileLemmas.{consumes_next_expr, consumes_statement, consumes_section, consumes_next_name, consumes_part}
use Rattle.text_tree.proofs.ReadingAgree.{Agree, agree_same, agree_bind, agree_then, agree_map, agree_either, agree_test, agree_repeat, agree_whole}

module _ (r : Rules) where
  agree_many : {A : Type 0} (goes : Option TokenKind → Bool) {x y : List A → Reader A} (cx : (found : List A) → Consumes (x found)) (cy : (found : List A) → Consumes (y found)) (a : (found : List A) → Agree r (x found) (y found))
      → (found : List A) → Agree r (many goes x found) (many goes y found)
  unfolding many gather
  agree_many goes cx cy a = agree_repeat (gather_advances goes cx) (gather_advances goes cy)
      (λ found. agree_then peek (λ next. agree_either (goes next) (agree_map (λ xs. Some xs) (agree_map (λ z. found ++ z ∷ []) (a found))) (agree_same {p = pure None})))

  agree_limited : {A : Type 0} (most count : ℕ) (begins : Option TokenKind → Bool) {x y : Reader A} → Agree r x y → Agree r (limited (true && nat_le most count) begins x) (limited (r.counts && nat_le most count) begins y)
  unfolding limited
  agree_limited most count begins a = agree_then peek (λ next. agree_test r.counts (λ b. (b && nat_le most count) && begins next) (stops f.TooManyParts) refl (λ _ is ts h. absurd cc) a)

  agree_next_expr : (count : ℕ) → Agree r (next_expr all count) (next_expr r count)
  unfolding next_expr
  agree_next_expr count = agree_then take (λ _. agree_limited most_values count begins_expr (agree_whole r))

  agree_exprs : Agree r (exprs all) (exprs r)
  unfolding exprs
  agree_exprs = agree_bind (agree_whole r) (λ first. agree_many (is_next m.Comma) (λ found. consumes_next_expr all (length found)) (λ found. consumes_next_expr r (length found)) (λ found. agree_next_expr (length found)) (first ∷ []))

  agree_lengths : (first : Span) → Agree r (lengths all first) (lengths r first)
  unfolding lengths
  agree_lengths first = agree_bind agree_exprs (λ found. agree_same)

  agree_variable : (first : Span) → Agree r (variable all first) (variable r first)
  unfolding variable
  agree_variable first = agree_same

  agree_filled : (first : Span) → Agree r (filled all first) (filled r first)
  unfolding filled
  agree_filled first = agree_then peek (λ next. agree_either (is_next m.Variable next) (agree_variable first) (agree_lengths first))

  agree_bracket : Agree r (bracket all) (bracket r)
  unfolding bracket bracket_of
  agree_bracket = agree_then peek (λ next. agree_either (is_next m.OpenSquare next)
      (agree_then take (λ first. agree_then peek (λ next. agree_either (is_next m.CloseSquare next) (agree_same {p = stops_at f.EmptyBracket first}) (agree_filled first)))) (agree_same {p = pure None}))

  agree_given : Agree r (given all) (given r)
  unfolding given
  agree_given = agree_bind agree_exprs (λ found. agree_same)

  agree_arguments : Agree r (arguments all) (arguments r)
  unfolding arguments arguments_of
  agree_arguments = agree_then peek (λ next. agree_either (is_next m.Open next)
      (agree_then take (λ _. agree_then peek (λ next. agree_either (is_next m.Close next) (agree_same {p = take >>= λ _. pure []}) agree_given))) (agree_same {p = pure []}))

  agree_encoding_by : (o : Option TokenKind) → Agree r (encoding_by all o) (encoding_by r o)
  agree_encoding_by (Some (k.BitText count value)) = agree_same
  agree_encoding_by (Some k.Name) = agree_then take (λ at. agree_map (λ xs. call_of at xs) agree_arguments)
  agree_encoding_by (Some (k.Number n)) = agree_same
  agree_encoding_by (Some (k.Mark mark)) = agree_same
  agree_encoding_by None = agree_same

  agree_encoding : Agree r (encoding all) (encoding r)
  unfolding encoding
  agree_encoding = agree_then peek agree_encoding_by

  agree_field : (at : Span) → Agree r (field all at) (field r at)
  unfolding field
  agree_field at = agree_bind agree_bracket (λ found. agree_same)

  agree_binding : (at : Span) → Agree r (binding all at) (binding r at)
  unfolding binding
  agree_binding at = agree_then (expect m.Binds) (λ _. agree_bind agree_encoding (λ called. agree_bind agree_bracket (λ found. agree_same)))

  agree_bound : Agree r (bound all) (bound r)
  unfolding bound
  agree_bound = agree_then name agree_binding

  agree_named_item : Agree r (named_item all) (named_item r)
  unfolding named_item
  agree_named_item = agree_then take (λ at. agree_then peek (λ next. agree_either (is_next m.Binds next) (agree_map (λ b. i.Bound b) (agree_binding at)) (agree_field at)))

  agree_enforce : Agree r (enforce all) (enforce r)
  unfolding enforce
  agree_enforce = agree_then take (λ at. agree_then (expect m.Open) (λ _. agree_bind (agree_whole r) (λ test. agree_same)))

  agree_marked : (mark : Mark) → Agree r (item_by all (Some (k.Mark mark))) (item_by r (Some (k.Mark mark)))
  agree_marked m.Enforce = agree_enforce
  agree_marked _ = agree_same

  agree_item_by : (o : Option TokenKind) → Agree r (item_by all o) (item_by r o)
  agree_item_by (Some k.Name) = agree_named_item
  agree_item_by (Some (k.Mark mark)) = agree_marked mark
  agree_item_by (Some (k.Number n)) = agree_same
  agree_item_by (Some (k.BitText count value)) = agree_same
  agree_item_by None = agree_same

  agree_item : Agree r (item all) (item r)
  unfolding item
  agree_item = agree_then peek agree_item_by

  agree_any : (only_bound : Bool) → Agree r (any_statement all only_bound) (any_statement r only_bound)
  unfolding any_statement
  agree_any only_bound = agree_either only_bound (agree_map (λ b. i.Bound b) agree_bound) agree_item

  agree_statement : (only_bound : Bool) (count : ℕ) → Agree r (statement all only_bound count) (statement r only_bound count)
  unfolding statement
  agree_statement only_bound count = agree_limited most_statements count (begins_statement only_bound) (agree_any only_bound)

  agree_statements : (only_bound : Bool) → Agree r (statements all only_bound) (statements r only_bound)
  unfolding statements
  agree_statements only_bound = agree_many (before m.CloseBrace) (λ found. consumes_statement all only_bound (length found)) (λ found. consumes_statement r only_bound (length found)) (λ found. agree_statement only_bound (length found)) []

  agree_called_by : (o : Option TokenKind) → Agree r (called_by all o) (called_by r o)
  agree_called_by (Some k.Name) = agree_same
  agree_called_by (Some (k.Number n)) = agree_same
  agree_called_by (Some (k.BitText count value)) = agree_same
  agree_called_by (Some (k.Mark mark)) = agree_same
  agree_called_by None = agree_same

  agree_format : Agree r (format all) (format r)
  unfolding format called
  agree_format = agree_then take (λ at. agree_bind (agree_then peek agree_called_by) (λ name. agree_same))

  agree_plain : (kind : SectionKind) → Agree r (plain all kind) (plain r kind)
  unfolding plain
  agree_plain kind = agree_same

  agree_word : (mark : Mark) → Agree r (heading_by all (Some (k.Mark mark))) (heading_by r (Some (k.Mark mark)))
  agree_word m.Compressed = agree_format
  agree_word m.Uncompressed = agree_plain _
  agree_word m.Control = agree_plain _
  agree_word m.Initial = agree_plain _
  agree_word m.Default = agree_plain _
  agree_word _ = agree_same

  agree_heading_by : (o : Option TokenKind) → Agree r (heading_by all o) (heading_by r o)
  agree_heading_by (Some (k.Mark mark)) = agree_word mark
  agree_heading_by (Some k.Name) = agree_same
  agree_heading_by (Some (k.Number n)) = agree_same
  agree_heading_by (Some (k.BitText count value)) = agree_same
  agree_heading_by None = agree_same

  agree_heading : Agree r (heading all) (heading r)
  unfolding heading
  agree_heading = agree_then peek agree_heading_by

  agree_section_of : Agree r (section_of all) (section_of r)
  unfolding section_of
  agree_section_of = agree_bind agree_heading (λ h. agree_then (expect m.OpenBrace) (λ _. agree_bind (agree_statements (holds_bound h.kind)) (λ found. agree_same)))

  agree_section : (seen : SectionsSoFar) → Agree r (section all seen) (section r seen)
  unfolding section
  agree_section seen = agree_then peek (λ next.
      agree_test r.repeats (λ b. b && repeats next seen) (stops f.RepeatedSection) refl (λ _ is ts h. absurd cc)
      (agree_room (is_next m.Compressed next) seen))
    where
      agree_room : (c : Bool) (seen : SectionsSoFar) → Agree r (either (c && (true && seen.formats_left == 0)) (stops f.TooManyParts) (section_of all)) (either (c && (r.counts && seen.formats_left == 0)) (stops f.TooManyParts) (section_of r))
      agree_room true seen = agree_test r.counts (λ b. b && seen.formats_left == 0) (stops f.TooManyParts) refl (λ _ is ts h. absurd cc) agree_section_of
      agree_room false seen = agree_section_of

  agree_sections : Agree r (sections all) (sections r)
  unfolding sections
  agree_sections = agree_many (before m.CloseBrace) (λ found. consumes_section all (seen_in found)) (λ found. consumes_section r (seen_in found)) (λ found. agree_section (seen_in found)) []

  agree_next_name : (count : ℕ) → Agree r (next_name all count) (next_name r count)
  unfolding next_name
  agree_next_name count = agree_then take (λ _. agree_limited most_parameters count is_name agree_same)

  agree_declared : Agree r (declared all) (declared r)
  unfolding declared names
  agree_declared = agree_bind (agree_then name (λ first. agree_many (is_next m.Comma) (λ found. consumes_next_name all (length found)) (λ found. consumes_next_name r (length found)) (λ found. agree_next_name (length found)) (first ∷ []))) (λ found. agree_same)

  agree_parameters : Agree r (parameters all) (parameters r)
  unfolding parameters parameters_of
  agree_parameters = agree_then peek (λ next. agree_either (is_next m.Open next)
      (agree_then take (λ _. agree_then peek (λ next. agree_either (is_next m.Close next) (agree_same {p = take >>= λ _. pure []}) agree_declared))) (agree_same {p = pure []}))

  agree_constant_of : (at : Span) → Agree r (constant_of all at) (constant_of r at)
  unfolding constant_of
  agree_constant_of at = agree_then take (λ _. agree_bind (agree_whole r) (λ value. agree_same))

  agree_stop : Agree r (stop all) (stop r)
  unfolding stop
  agree_stop = agree_same

  agree_method_of : (at : Span) → Agree r (method_of all at) (method_of r at)
  unfolding method_of
  agree_method_of at = agree_bind agree_parameters (λ taken. agree_then (expect m.OpenBrace) (λ _. agree_bind agree_sections (λ found. agree_then (expect m.CloseBrace) (λ _. agree_bind agree_stop (λ _. agree_same)))))

  agree_constant : (left : ℕ) (at : Span) → Agree r (constant all left at) (constant r left at)
  unfolding constant
  agree_constant left at = agree_test r.counts (λ b. b && left == 0) (stops_at f.TooManyParts at) refl (λ _ is ts h. absurd cc) (agree_constant_of at)

  agree_method : (left : ℕ) (at : Span) → Agree r (method all left at) (method r left at)
  unfolding method
  agree_method left at = agree_then peek (λ next. agree_test r.counts (λ b. (b && left == 0) && begins_method next) (stops_at f.TooManyParts at) refl (λ _ is ts h. absurd cc) (agree_method_of at))

  agree_part : (tally : Tally) → Agree r (part all tally) (part r tally)
  unfolding part
  agree_part tally = agree_then name (λ at. agree_then peek (λ next. agree_either (is_next m.Is next) (agree_constant tally.constants_left at) (agree_method tally.methods_left at)))

  pub agree_parts : Agree r (parts all) (parts r)
  unfolding parts
  agree_parts = agree_many is_there (λ found. consumes_part all (tally_of found)) (λ found. consumes_part r (tally_of found)) (λ found. agree_part (tally_of found)) []
