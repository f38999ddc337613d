-- The names of a tree are name tokens of its text.
use Rattle.std.proofs.Common.{◌≡◌, refl, sym, subst, ℕ, zero, suc, ◌<◌, ◌≤◌, ◌+◌, ◌-◌, ◌&&◌, Bool, true, List, [], ◌∷◌, length, take, drop, arith}
use Rattle.std.specs.Prelude.{Option}
use Rattle.std.proofs.lemmas.Bool.Decides.{nat_tests}
use Rattle.std.specs.List.{AllByRecursion, list_all}
use Rattle.text_source.specs.declared.span.Span.{Span}
use Rattle.text_source.specs.declared.token.TokenKind.{TokenKind}
use Rattle.text_source.specs.declared.token.TokenKind.TheVariants as k
use Rattle.text_source.specs.declared.token.Token.{Token}
use Rattle.text_source.specs.Lexical as lexical
use Rattle.text_source.specs.Lexical.{IsToken, Run, is_word, Lexed}
use Rattle.text_source.specs.Laws.{Rise, IsItsText}
use Rattle.text_source.proofs.LexicalSlices.{tokens_are_their_text, spans_rise}
use Rattle.text_tree.specs.declared.tree.Bound.{Bound}
use Rattle.text_tree.specs.declared.tree.Bracket.{Bracket}
use Rattle.text_tree.specs.declared.tree.Encoding.{Encoding}
use Rattle.text_tree.specs.declared.tree.Expr.{Expr}
use Rattle.text_tree.specs.declared.tree.Item.{Item}
use Rattle.text_tree.specs.declared.tree.Part.{Part}
use Rattle.text_tree.specs.declared.tree.Section.{Section}
use Rattle.text_tree.specs.declared.tree.SectionKind.{SectionKind}
use Rattle.text_tree.specs.declared.tree.File.{File}
use Rattle.text_tree.specs.Grammar as g
use Rattle.text_tree.specs.Grammar.{IsExpr, IsWhole, Many, IsNext, IsExprs, IsBracket, IsArguments, IsEncoding, IsBound, IsItem, IsStatement, IsHead, IsSection, IsParameter, IsParameters, IsStop, IsPart}
use Rattle.text_tree.specs.Limits.{Parsed}
use Rattle.text_source.specs.Names.{is_name, is_name_octet}
use Rattle.text_methods.specs.Worded.{IsNamed, ItemIsWorded, KindIsWorded, SectionIsWorded, AreSectionsWorded, PartIsWorded, AreWorded}

-- ---- from tokens to their tree

-- where it is a name token it is a name of the text
abbrev pub TokenIsWorded : List ℕ → Token → Type 0
TokenIsWorded text t = t.kind ≡ k.Name → IsNamed text t.span

module _ (text : List ℕ) where
  abbrev Words : List Token → Type 0
  Words ts = AllByRecursion (TokenIsWorded text) ts

  after_expr : {tier : ℕ} {from to : List Token} {x : Expr} → IsExpr tier from to x → Words from → Words to
  after_expr g.number h = h.1
  after_expr g.negative h = h.1.1
  after_expr g.truth h = h.1
  after_expr g.falsehood h = h.1
  after_expr g.name h = h.1
  after_expr (g.attribute e) h = h.1.1.1
  after_expr (g.this e) h = h.1.1.1
  after_expr (g.group x) h = (after_expr x h.1).1
  after_expr (g.not x) h = after_expr x h.1
  after_expr (g.operand x) h = after_expr x h
  after_expr (g.power x e y) h = after_expr y (after_expr x h).1
  after_expr (g.operation x e y) h = after_expr y (after_expr x h).1

  after_whole : {from to : List Token} {x : Expr} → IsWhole from to x → Words from → Words to
  after_whole x h = after_expr x h

  after_next : {from to : List Token} {xs : List Expr} → Many IsNext from to xs → Words from → Words to
  after_next g.ended h = h
  after_next (g.more (g.next x) xs) h = after_next xs (after_whole x h.1)

  after_exprs : {from to : List Token} {xs : List Expr} → IsExprs from to xs → Words from → Words to
  after_exprs (g.exprs x xs) h = after_next xs (after_whole x h)

  after_bracket : {from to : List Token} {b : Option Bracket} → IsBracket from to b → Words from → Words to
  after_bracket g.unbracketed h = h
  after_bracket g.variable h = h.1.1.1
  after_bracket (g.lengths xs) h = (after_exprs xs h.1).1

  after_arguments : {from to : List Token} {xs : List Expr} → IsArguments from to xs → Words from → Words to
  after_arguments g.no_arguments h = h
  after_arguments g.empty_arguments h = h.1.1
  after_arguments (g.some_arguments xs) h = (after_exprs xs h.1).1

  after_encoding : {from to : List Token} {e : Encoding} → IsEncoding from to e → Words from → Words to
  after_encoding g.bits h = h.1
  after_encoding (g.call xs) h = after_arguments xs h.1

  -- what is read has names of the text, and so has the rest
  bound_words : {from to : List Token} {b : Bound} → IsBound from to b → Words from → IsNamed text b.name × Words to
  bound_words (g.binding e b) h = (h.0 refl, (after_bracket b (after_encoding e h.1.1)).1)

  item_words : {from to : List Token} {x : Item} → IsItem from to x → Words from → ItemIsWorded text x × Words to
  item_words (g.field b) h = (h.0 refl, (after_bracket b h.1).1)
  item_words (g.bound b) h = bound_words b h
  item_words (g.enforce x) h = (tt, (after_whole x h.1.1).1.1)

  statement_words : {bound : Bool} {from to : List Token} {x : Item} → IsStatement bound from to x → Words from → ItemIsWorded text x × Words to
  statement_words (g.any_item x) h = item_words x h
  statement_words (g.bound_item b) h = bound_words b h

  statements_words : {bound : Bool} {from to : List Token} {xs : List Item} → Many (IsStatement bound) from to xs → Words from
      → AllByRecursion (ItemIsWorded text) xs × Words to
  statements_words g.ended h = (tt, h)
  statements_words (g.more x xs) h =
      let one = statement_words x h in
      let others = statements_words xs one.1 in
      ((one.0, others.0), others.1)

  head_words : {from to : List Token} {at : Span} {kind : SectionKind} → IsHead from to at kind → Words from → KindIsWorded text kind × Words to
  head_words g.uncompressed h = (tt, h.1)
  head_words g.control h = (tt, h.1)
  head_words g.initial h = (tt, h.1)
  head_words g.default h = (tt, h.1)
  head_words g.unnamed h = (tt, h.1)
  head_words g.named h = (h.1.0 refl, h.1.1)

  section_words : {from to : List Token} {s : Section} → IsSection from to s → Words from → SectionIsWorded text s × Words to
  section_words (g.section head items) h =
      let first = head_words head h in
      let inside = statements_words items first.1.1 in
      (record { kind = first.0; items = inside.0 }, inside.1.1)

  sections_words : {from to : List Token} {xs : List Section} → Many IsSection from to xs → Words from → AreSectionsWorded text xs × Words to
  sections_words g.ended h = (tt, h)
  sections_words (g.more x xs) h =
      let one = section_words x h in
      let others = sections_words xs one.1 in
      ((one.0, others.0), others.1)

  more_parameters : {from to : List Token} {xs : List Span} → Many IsParameter from to xs → Words from → AllByRecursion (IsNamed text) xs × Words to
  more_parameters g.ended h = (tt, h)
  more_parameters (g.more g.parameter xs) h =
      let others = more_parameters xs h.1.1 in
      ((h.1.0 refl, others.0), others.1)

  parameters_words : {from to : List Token} {xs : List Span} → IsParameters from to xs → Words from → AllByRecursion (IsNamed text) xs × Words to
  parameters_words g.no_parameters h = (tt, h)
  parameters_words g.empty_parameters h = (tt, h.1.1)
  parameters_words (g.some_parameters xs) h =
      let others = more_parameters xs h.1.1 in
      ((h.1.0 refl, others.0), others.1.1)

  after_stop : {from to : List Token} → IsStop from to → Words from → Words to
  after_stop g.unstopped h = h
  after_stop g.stopped h = h.1

  part_words : {from to : List Token} {x : Part} → IsPart from to x → Words from → PartIsWorded text x × Words to
  part_words (g.constant x) h = (tt, (after_whole x h.1.1).1)
  part_words (g.method ps xs stop) h =
      let parameters = parameters_words ps h.1 in
      let sections = sections_words xs parameters.1.1 in
      (record { name = h.0 refl; parameters = parameters.0; sections = sections.0 }, after_stop stop sections.1.1)

  parts_words : {from to : List Token} {xs : List Part} → Many IsPart from to xs → Words from → AreWorded text xs
  parts_words g.ended h = tt
  parts_words (g.more x xs) h = let one = part_words x h in (one.0, parts_words xs one.1)

-- ---- from the text to its tokens

word_octet : (c : ℕ) → is_word c ≡ true → is_name_octet c ≡ true
word_octet c h = grind (arith, nat_tests)

run_shorter : {test : ℕ → Bool} {from to : List ℕ} → Run test from to → length to ≤ length from
run_shorter (lexical.end e) = omega arith
run_shorter (lexical.more e run) = let less = run_shorter run in omega arith

run_octets : {from to : List ℕ} (n : ℕ) → Run is_word from to → length from ≡ n + length to → list_all is_name_octet (take n from) ≡ true
run_octets zero run e = refl
run_octets (suc n) (lexical.end x) e = absurd (omega (arith, e))
run_octets (suc n) (lexical.more {c = c} {from = from} x run) e =
    let first = word_octet c x in
    let others = run_octets n run (omega (arith, e)) in
    (λ i. first i && others i)

-- the octets of a name token are a name
token_name : {from to : List ℕ} (n : ℕ) → IsToken k.Name from to → length from ≡ n + length to → length to < length from → is_name (take n from) ≡ true
token_name zero token e less = absurd (omega (arith, e, less))
token_name (suc n) (lexical.name {c = c} {from = from} letter run other) e less =
    let others = run_octets n run (omega (arith, e)) in
    (λ i. letter i && others i)

length_drop : (n : ℕ) (xs : List ℕ) → n ≤ length xs → length (drop n xs) + n ≡ length xs
length_drop zero xs le = omega arith
length_drop (suc n) [] le = absurd (omega (arith, le))
length_drop (suc n) (x ∷ xs) le = omega (arith, length_drop n xs (omega (arith, le)))

one_word : (text : List ℕ) (t : Token) → IsItsText text t → t.span.from < t.span.to → t.span.to ≤ length text → TokenIsWorded text t
one_word text t its less within is =
    let first = length_drop t.span.from text (omega (arith, less, within)) in
    let last = length_drop t.span.to text within in
    token_name (t.span.to - t.span.from) (subst (λ (kind : TokenKind). IsToken kind (drop t.span.from text) (drop t.span.to text)) is its) (omega (arith, first, last, less)) (omega (arith, first, last, less))

rise_within : (low high : ℕ) (ts : List Token) → Rise low high ts → low ≤ high
rise_within low high [] rise = rise
rise_within low high (t ∷ ts) rise = omega (arith, rise.0, rise.1, rise_within t.span.to high ts rise.2)

all_words : (text : List ℕ) (low : ℕ) (ts : List Token) → Rise low (length text) ts → AllByRecursion (IsItsText text) ts → AllByRecursion (TokenIsWorded text) ts
all_words text low [] rise its = tt
all_words text low (t ∷ ts) rise its =
    (one_word text t its.0 rise.1 (rise_within t.span.to (length text) ts rise.2), all_words text t.span.to ts rise.2 its.1)

-- the names of the tree of a text are names of the text
pub tree_words : (text source : List ℕ) (items slice : List Token) (file : File) → source ≡ text → Lexed source items → slice ≡ items → Parsed slice file → AreWorded text file.parts
tree_words text source items slice file same lexed at h =
    let here : Lexed text items = subst (λ (us : List ℕ). Lexed us items) same lexed in
    let words = all_words text 0 items (spans_rise text items here) (tokens_are_their_text text items here) in
    parts_words text h.text (subst (λ (ts : List Token). AllByRecursion (TokenIsWorded text) ts) (sym at) words)
