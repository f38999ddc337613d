-- What is a text is read as that one.
use Rattle.std.proofs.Common.{◌≡◌, ℕ, List, [], ◌∷◌, length, Option, Some, Ok, Bool, true, false, not, refl, ap}
use denote.Enum.Bare.{true_same}
use Rattle.text_source.specs.contracts.token.Mark.{the_type}
use Rattle.text_source.specs.declared.span.Span.{Span}
use Rattle.text_source.specs.declared.token.TokenKind.TheVariants as k
use Rattle.text_source.specs.declared.token.Mark.{Mark}
use Rattle.text_source.specs.declared.token.Mark.TheVariants as m
use Rattle.text_source.specs.declared.token.Token.{Token}
use Rattle.text_source.specs.Kinds.{same_mark}
use Rattle.text_tree.specs.declared.tree.Expr.{Expr}
use Rattle.text_tree.specs.declared.tree.Encoding.{Encoding}
use Rattle.text_tree.specs.declared.tree.Bracket.{Bracket}
use Rattle.text_tree.specs.declared.tree.Bound.{Bound}
use Rattle.text_tree.specs.declared.tree.Item.{Item}
use Rattle.text_tree.specs.declared.tree.SectionKind.{SectionKind}
use Rattle.text_tree.specs.declared.tree.Section.{Section}
use Rattle.text_tree.specs.declared.tree.Part.{Part}
use Rattle.text_tree.specs.declared.progress.Progress.{Progress}
use Rattle.text_tree.specs.Counts.{seen_in, tally_of}
use Rattle.text_tree.specs.Rules.{Rules}
use Rattle.text_tree.proofs.GrammarStrict as g
use Rattle.text_tree.specs.Grammar.{mark, name_at}
use Rattle.text_tree.proofs.GrammarStrict.{Many, IsExpr, IsWhole, IsNext, IsExprs, IsBracket, IsArguments, IsEncoding, IsBound, IsItem, IsStatement, IsHead, IsSection, IsParameter, IsParameters, IsStop, IsPart}
use Rattle.text_tree.specs.Reading.{kind_at, is_next, is_there}
use Rattle.text_tree.specs.File.{name, limited, next_expr, exprs, variable, lengths, filled, bracket_of, bracket, given, arguments_of, arguments, encoding, field, binding, bound, named_item, enforce, item, any_statement, statement, before, statements, called, format, plain, heading, head_at, section_of, section, sections, next_name, names, declared, parameters_of, parameters, constant_of, constant, stop, method_of, method, part, parts}
use Rattle.text_tree.proofs.WholeExpr.{Ends, whole_reads, expect_token}
use Rattle.text_tree.proofs.FileLemmas.{consumes_next_expr, consumes_statement, consumes_section, consumes_next_name, consumes_part}
use Rattle.text_tree.proofs.ReadingMany.{many_whole, good_before}

is_it : (which : Mark) (at : Span) (ts : List Token) → is_next which (kind_at (mark which at ∷ ts)) ≡ true
unfolding same_mark
is_it which at ts = true_same the_type which which refl

ends_comma : (at : Span) (ts : List Token) → Ends 6 (mark m.Comma at ∷ ts)
unfolding same_mark
ends_comma at ts = (refl, λ tier lt. refl)

ends_close : (at : Span) (ts : List Token) → Ends 6 (mark m.Close at ∷ ts)
unfolding same_mark
ends_close at ts = (refl, λ tier lt. refl)

ends_square : (at : Span) (ts : List Token) → Ends 6 (mark m.CloseSquare at ∷ ts)
unfolding same_mark
ends_square at ts = (refl, λ tier lt. refl)

ends_semicolon : (at : Span) (ts : List Token) → Ends 6 (mark m.Semicolon at ∷ ts)
unfolding same_mark
ends_semicolon at ts = (refl, λ tier lt. refl)

module _ (r : Rules) where
  next_whole : (found : List Expr) (from to : List Token) (x : Expr) → IsNext r found from to x → Ends 6 to → next_expr r (length found) from ≡ Ok (x, to)
  unfolding next_expr limited
  next_whole found _ to x (g.next room h) ends = rw room (whole_reads r h ends)

  next_starts : (found : List Expr) (from to : List Token) (x : Expr) → IsNext r found from to x → Ends 6 from × (is_next m.Comma (kind_at from) ≡ true)
  next_starts found _ to x (g.next {at = at} {mid = mid} room h) = (ends_comma at mid, is_it m.Comma at mid)

  exprs_whole : {from to : List Token} {xs : List Expr} → IsExprs r from to xs → Ends 6 to → is_next m.Comma (kind_at to) ≡ false → exprs r from ≡ Ok (xs, to)
  unfolding exprs
  exprs_whole (g.exprs {x = x} h hs) ends none =
      rw (whole_reads r h (good_before (is_next m.Comma) (λ found. consumes_next_expr r (length found)) (Ends 6) next_whole next_starts hs ends))
      (many_whole (is_next m.Comma) (λ found. consumes_next_expr r (length found)) (Ends 6) next_whole next_starts hs ends none)

  -- no expression begins so
  expr_first : {depth tier : ℕ} {p q : Progress} {from to : List Token} {x : Expr} → IsExpr r depth tier p from to x q
      → (is_next m.Close (kind_at from) ≡ false) × (is_next m.CloseSquare (kind_at from) ≡ false) × (is_next m.Variable (kind_at from) ≡ false)
  unfolding same_mark
  expr_first g.number = (refl, refl, refl)
  expr_first g.negative = (refl, refl, refl)
  expr_first g.truth = (refl, refl, refl)
  expr_first g.falsehood = (refl, refl, refl)
  expr_first g.name = (refl, refl, refl)
  expr_first (g.attribute is) = (refl, refl, refl)
  expr_first (g.this is) = (refl, refl, refl)
  expr_first (g.group h) = (refl, refl, refl)
  expr_first (g.not h) = (refl, refl, refl)
  expr_first (g.operand h) = expr_first h
  expr_first (g.power h is free i) = expr_first h
  expr_first (g.operation h is free i) = expr_first h

  exprs_first : {from to : List Token} {xs : List Expr} → IsExprs r from to xs
      → (is_next m.Close (kind_at from) ≡ false) × (is_next m.CloseSquare (kind_at from) ≡ false) × (is_next m.Variable (kind_at from) ≡ false)
  exprs_first (g.exprs (g.whole h) hs) = expr_first h

  bracket_whole : {from to : List Token} {b : Option Bracket} {end : Span} → IsBracket r from (mark m.Semicolon end ∷ to) b → bracket r from ≡ Ok (b, mark m.Semicolon end ∷ to)
  unfolding bracket bracket_of filled variable lengths same_mark
  bracket_whole g.unbracketed = refl
  bracket_whole {to = to} {end = end} (g.variable {last = last}) = rw (expect_token m.CloseSquare last (mark m.Semicolon end ∷ to)) refl
  bracket_whole {to = to} {end = end} (g.lengths {last = last} h) =
      rw ((exprs_first h).1, (exprs_first h).2, exprs_whole h (ends_square last (mark m.Semicolon end ∷ to)) refl, expect_token m.CloseSquare last (mark m.Semicolon end ∷ to)) refl

  bracket_first : {from to : List Token} {b : Option Bracket} {end : Span} → IsBracket r from (mark m.Semicolon end ∷ to) b → (is_next m.Binds (kind_at from) ≡ false) × (is_next m.Open (kind_at from) ≡ false)
  unfolding same_mark
  bracket_first g.unbracketed = (refl, refl)
  bracket_first g.variable = (refl, refl)
  bracket_first (g.lengths h) = (refl, refl)

  arguments_whole : {from to : List Token} {xs : List Expr} → IsArguments r from to xs → is_next m.Open (kind_at to) ≡ false → arguments r from ≡ Ok (xs, to)
  unfolding arguments arguments_of given same_mark
  arguments_whole g.no_arguments none = rw none refl
  arguments_whole g.empty_arguments none = refl
  arguments_whole (g.some_arguments {first = first} {last = last} {mid = mid} {to = to} h) none =
      rw ((exprs_first h).0, exprs_whole h (ends_close last to) refl, expect_token m.Close last to) refl

  encoding_whole : {from to : List Token} {c : Encoding} → IsEncoding r from to c → is_next m.Open (kind_at to) ≡ false → encoding r from ≡ Ok (c, to)
  unfolding encoding
  encoding_whole g.bits none = refl
  encoding_whole (g.call h) none = rw (arguments_whole h none) refl

  binding_whole : (at sign : Span) {end : Span} {mid after to : List Token} {c : Encoding} {b : Option Bracket} → IsEncoding r mid after c → IsBracket r after (mark m.Semicolon end ∷ to) b
      → binding r at (mark m.Binds sign ∷ mid) ≡ Ok (record { name = at; encoding = c; bracket = b }, to)
  unfolding binding
  binding_whole at sign {end = end} {mid = mid} {to = to} c b =
      rw (expect_token m.Binds sign mid, encoding_whole c (bracket_first b).1, bracket_whole b, expect_token m.Semicolon end to) refl

  bound_whole : {from to : List Token} {b : Bound} → IsBound r from to b → bound r from ≡ Ok (b, to)
  unfolding bound name
  bound_whole (g.binding {at = at} {sign = sign} c b) = rw (binding_whole at sign c b) refl

  item_whole : {from to : List Token} {x : Item} → IsItem r from to x → item r from ≡ Ok (x, to)
  unfolding item named_item field enforce same_mark
  item_whole {to = to} (g.field {end = end} b) = rw ((bracket_first b).0, bracket_whole b, expect_token m.Semicolon end to) refl
  item_whole {to = to} (g.bound (g.binding {at = at} {sign = sign} c b)) = rw (binding_whole at sign c b) refl
  item_whole {to = to} (g.enforce {first = first} {last = last} {end = end} {mid = mid} h) =
      rw (expect_token m.Open first mid, whole_reads r h (ends_close last (mark m.Semicolon end ∷ to)), expect_token m.Close last (mark m.Semicolon end ∷ to), expect_token m.Semicolon end to) refl

  statement_whole : (only_bound : Bool) (found : List Item) (from to : List Token) (x : Item) → IsStatement r only_bound found from to x → Unit {0} → statement r only_bound (length found) from ≡ Ok (x, to)
  unfolding statement limited any_statement
  statement_whole _ found from to x (g.any_item room h) good = rw room (item_whole h)
  statement_whole _ found from to _ (g.bound_item room h) good = rw (room, bound_whole h) refl

  bound_starts : {from to : List Token} {b : Bound} → IsBound r from to b → before m.CloseBrace (kind_at from) ≡ true
  bound_starts (g.binding c b) = refl

  item_starts : {from to : List Token} {x : Item} → IsItem r from to x → before m.CloseBrace (kind_at from) ≡ true
  unfolding same_mark
  item_starts (g.field b) = refl
  item_starts (g.bound b) = bound_starts b
  item_starts (g.enforce h) = refl

  statement_starts : (only_bound : Bool) (found : List Item) (from to : List Token) (x : Item) → IsStatement r only_bound found from to x → (Unit {0}) × (before m.CloseBrace (kind_at from) ≡ true)
  statement_starts _ found from to x (g.any_item room h) = (tt, item_starts h)
  statement_starts _ found from to _ (g.bound_item room h) = (tt, bound_starts h)

  statements_whole : {only_bound : Bool} {from to : List Token} {xs : List Item} {last : Span} → Many (IsStatement r only_bound) [] from (mark m.CloseBrace last ∷ to) xs → statements r only_bound from ≡ Ok (xs, mark m.CloseBrace last ∷ to)
  unfolding statements
  statements_whole {only_bound = only_bound} {to = to} {last = last} hs =
      many_whole (before m.CloseBrace) (λ found. consumes_statement r only_bound (length found)) (λ _. Unit {0}) (statement_whole only_bound) (statement_starts only_bound) hs tt (ap not (is_it m.CloseBrace last to))

  heading_whole : {from mid : List Token} {first at : Span} {word : Mark} {kind : SectionKind} → IsHead from (mark m.OpenBrace first ∷ mid) word at kind → heading r from ≡ Ok (head_at kind at, mark m.OpenBrace first ∷ mid)
  unfolding heading plain format called
  heading_whole g.uncompressed = refl
  heading_whole g.control = refl
  heading_whole g.initial = refl
  heading_whole g.default = refl
  heading_whole g.unnamed = refl
  heading_whole g.named = refl

  head_mark : {from to : List Token} {at : Span} {word : Mark} {kind : SectionKind} → IsHead from to word at kind → kind_at from ≡ Some (k.Mark word)
  head_mark g.uncompressed = refl
  head_mark g.control = refl
  head_mark g.initial = refl
  head_mark g.default = refl
  head_mark g.unnamed = refl
  head_mark g.named = refl

  head_starts : {from to : List Token} {at : Span} {word : Mark} {kind : SectionKind} → IsHead from to word at kind → before m.CloseBrace (kind_at from) ≡ true
  unfolding same_mark
  head_starts g.uncompressed = refl
  head_starts g.control = refl
  head_starts g.initial = refl
  head_starts g.default = refl
  head_starts g.unnamed = refl
  head_starts g.named = refl

  section_whole : (found : List Section) (from to : List Token) (x : Section) → IsSection r found from to x → Unit {0} → section r (seen_in found) from ≡ Ok (x, to)
  unfolding section section_of
  section_whole found from to _ (g.section {first = first} {last = last} {mid = mid} once room h hs) good =
      rw (head_mark h, once, room, heading_whole h, expect_token m.OpenBrace first mid, statements_whole hs, expect_token m.CloseBrace last to) refl

  section_starts : (found : List Section) (from to : List Token) (x : Section) → IsSection r found from to x → (Unit {0}) × (before m.CloseBrace (kind_at from) ≡ true)
  section_starts found from to _ (g.section once room h hs) = (tt, head_starts h)

  sections_whole : {from to : List Token} {xs : List Section} {last : Span} → Many (IsSection r) [] from (mark m.CloseBrace last ∷ to) xs → sections r from ≡ Ok (xs, mark m.CloseBrace last ∷ to)
  unfolding sections
  sections_whole {to = to} {last = last} hs =
      many_whole (before m.CloseBrace) (λ found. consumes_section r (seen_in found)) (λ _. Unit {0}) section_whole section_starts hs tt (ap not (is_it m.CloseBrace last to))

  parameter_whole : (found : List Span) (from to : List Token) (x : Span) → IsParameter r found from to x → Unit {0} → next_name r (length found) from ≡ Ok (x, to)
  unfolding next_name limited name
  parameter_whole found _ to x (g.parameter room) good = rw room refl

  parameter_starts : (found : List Span) (from to : List Token) (x : Span) → IsParameter r found from to x → (Unit {0}) × (is_next m.Comma (kind_at from) ≡ true)
  unfolding same_mark
  parameter_starts found _ to x (g.parameter room) = (tt, refl)

  names_whole : {at last : Span} {mid to : List Token} {xs : List Span} → Many (IsParameter r) (at ∷ []) mid (mark m.Close last ∷ to) xs → names r (name_at at ∷ mid) ≡ Ok (at ∷ xs, mark m.Close last ∷ to)
  unfolding names name same_mark
  names_whole hs = many_whole (is_next m.Comma) (λ found. consumes_next_name r (length found)) (λ _. Unit {0}) parameter_whole parameter_starts hs tt refl

  parameters_whole : {from to : List Token} {first : Span} {ps : List Span} → IsParameters r from (mark m.OpenBrace first ∷ to) ps → parameters r from ≡ Ok (ps, mark m.OpenBrace first ∷ to)
  unfolding parameters parameters_of declared same_mark
  parameters_whole g.no_parameters = refl
  parameters_whole g.empty_parameters = refl
  parameters_whole {to = to} {first = brace} (g.some_parameters {last = last} hs) = rw (names_whole hs, expect_token m.Close last (mark m.OpenBrace brace ∷ to)) refl

  parameters_first : {from to : List Token} {first : Span} {ps : List Span} → IsParameters r from (mark m.OpenBrace first ∷ to) ps → is_next m.Is (kind_at from) ≡ false
  unfolding same_mark
  parameters_first g.no_parameters = refl
  parameters_first g.empty_parameters = refl
  parameters_first (g.some_parameters hs) = refl

  abbrev NotStop : List Token → Type 0
  NotStop ts = is_next m.Semicolon (kind_at ts) ≡ false

  stop_whole : {from to : List Token} → IsStop from to → NotStop to → stop r from ≡ Ok (tt, to)
  unfolding stop
  stop_whole g.unstopped none = rw none refl
  stop_whole {to = to} (g.stopped {at = at}) none = rw (is_it m.Semicolon at to) refl

  part_whole : (found : List Part) (from to : List Token) (x : Part) → IsPart r found from to x → NotStop to → part r (tally_of found) from ≡ Ok (x, to)
  unfolding part name constant constant_of method method_of same_mark
  part_whole found _ to _ (g.constant {end = end} room h) none = rw (room, whole_reads r h (ends_semicolon end to), expect_token m.Semicolon end to) refl
  part_whole found _ to _ (g.method {first = first} {last = last} {inner = inner} {after = after} room ps hs s) none =
      rw (parameters_first ps, room, parameters_whole ps, expect_token m.OpenBrace first inner, sections_whole hs, expect_token m.CloseBrace last after, stop_whole s none) refl

  part_starts : (found : List Part) (from to : List Token) (x : Part) → IsPart r found from to x → NotStop from × (is_there (kind_at from) ≡ true)
  unfolding same_mark
  part_starts found _ to _ (g.constant room h) = (refl, refl)
  part_starts found _ to _ (g.method room ps hs s) = (refl, refl)

  pub parts_whole : {from : List Token} {xs : List Part} → Many (IsPart r) [] from [] xs → parts r from ≡ Ok (xs, [])
  unfolding parts
  parts_whole hs = many_whole is_there (λ found. consumes_part r (tally_of found)) NotStop part_whole part_starts hs refl refl
