-- A text that the parser's counts let pass is one of the grammar whose tree keeps the rules, and the other way round.
use Rattle.std.proofs.Common.{◌≡◌, ◌&&◌, ◌||◌, ◌==◌, nat_le, cond, ℕ, zero, suc, ◌+◌, ◌<◌, ◌≤◌, List, [], ◌∷◌, ◌++◌, length, Option, Some, None, Bool, true, false, refl, sym, ap, subst, ◌∙◌, append_assoc, arith, length-append}
use Rattle.std.specs.List.{AllByRecursion, count_by}
use Rattle.std.proofs.lemmas.Bool.{lt-leb, ne_eqb}
use Rattle.std.proofs.lemmas.List.Sums.{sum_by-append}
use Rattle.text_source.specs.declared.span.Span.{Span}
use Rattle.text_source.specs.declared.token.TokenKind.TheVariants as k
use Rattle.text_source.specs.declared.token.Mark.{Mark}
use Rattle.text_source.specs.declared.token.Mark.TheVariants as m
use Rattle.text_source.specs.declared.token.Token.{Token}
use Rattle.text_source.specs.Kinds.{same_mark, is_mark}
use Rattle.text_tree.specs.declared.tree.Expr.{Expr}
use Rattle.text_tree.specs.declared.tree.Encoding.{Encoding}
use Rattle.text_tree.specs.declared.tree.Encoding.TheVariants as encodings
use Rattle.text_tree.specs.declared.tree.Bracket.{Bracket}
use Rattle.text_tree.specs.declared.tree.Bracket.TheVariants as brackets
use Rattle.text_tree.specs.declared.tree.Bound.{Bound}
use Rattle.text_tree.specs.declared.tree.Item.{Item}
use Rattle.text_tree.specs.declared.tree.Item.TheVariants as i
use Rattle.text_tree.specs.declared.tree.SectionKind.{SectionKind}
use Rattle.text_tree.specs.declared.tree.Section.{Section}
use Rattle.text_tree.specs.declared.tree.Part.{Part}
use Rattle.text_tree.specs.declared.tree.Part.TheVariants as parts
use Rattle.text_tree.specs.declared.tree.File.{File}
use Rattle.text_tree.specs.declared.counts.SectionsSoFar.{SectionsSoFar}
use Rattle.text_tree.specs.Operators.{start}
use Rattle.text_tree.specs.Counts.{with_section, unseen, seen_from, seen_in, is_repeated, tally_of}
use Rattle.text_tree.specs.Rules.{Rules, all, nesting, is_full, is_out, most_values, most_statements, most_parameters}
use Rattle.text_tree.specs.Limits.{operators, levels, sums_in, is_mixed, BracketKeeps, EncodingKeeps, ItemKeeps, SectionKeeps, PartKeeps, Lists, IsOnce, PartIsOnce, PartIsFew, is_format_kind, is_control_kind, is_initial_kind, is_default_kind, is_constant, is_method, AreFew, Parsed}
use Rattle.text_tree.specs.Grammar as g
use Rattle.text_tree.specs.Grammar.{mark, name_at, holds_bound}
use Rattle.text_tree.proofs.GrammarStrict as s
use Rattle.text_tree.proofs.RuledExpr.{sorts, nests, totals, text_expr, counts, and_off}
use Rattle.text_tree.proofs.RulesFew.{short, each, full_false, is_format, count_first, formats_left, constants_left, methods_left, control_law, initial_law, default_law, part_once, part_few, few_constants, few_methods}

-- an expression keeps the rules that count
pub record Keeps (r : Rules) (x : Expr) : Type 0 where
  pub deep : levels x ≤ nesting r
  pub room : r.counts ≡ true → operators x ≤ 256
  pub apart : r.sums ≡ true → is_mixed (sums_in x) ≡ false

abbrev pub ListKeeps : Rules → List Expr → Type 0
ListKeeps r xs = (r.counts ≡ true → length xs ≤ 32) × AllByRecursion (Keeps r) xs

-- ---- what the parser lets pass

abbrev All : List Expr → Type 0
All = ListKeeps all

whole_keeps : {from to : List Token} {x : Expr} → s.IsWhole all from to x → Keeps all x
whole_keeps (s.whole {q = q} {x = x} h) = record {
  deep = nests h;
  room = λ on. let t = totals h in let same : q.operators ≡ 0 + operators x = t.count in let few : q.operators ≤ 256 = t.few (omega arith) in omega arith;
  apart = λ on. (sorts h).fine refl;
}

whole_text : {from to : List Token} {x : Expr} → s.IsWhole all from to x → g.IsWhole from to x
whole_text (s.whole h) = text_expr h

many_text : {A : Type 0} {X : List A → List Token → List Token → A → Type 0} {Y : List Token → List Token → A → Type 0} (each_text : (found : List A) (from to : List Token) (x : A) → X found from to x → Y from to x)
    {found : List A} {from to : List Token} {xs : List A} → s.Many X found from to xs → g.Many Y from to xs
many_text t s.ended = g.ended
many_text t (s.more {before = found} {from = from} {mid = mid} {x = x} j js) = g.more (t found from mid x j) (many_text t js)

next_text : (found : List Expr) (from to : List Token) (x : Expr) → s.IsNext all found from to x → g.IsNext from to x
next_text found _ to x (s.next room h) = g.next (whole_text h)

next_keeps : (found : List Expr) (from to : List Token) (x : Expr) → s.IsNext all found from to x → Keeps all x
next_keeps found _ to x (s.next room h) = whole_keeps h

next_room : (found : List Expr) (from to : List Token) (x : Expr) → s.IsNext all found from to x → length found < most_values
next_room found _ to x (s.next room h) = full_false most_values (length found) room

exprs_text : {from to : List Token} {xs : List Expr} → s.IsExprs all from to xs → g.IsExprs from to xs
exprs_text (s.exprs h hs) = g.exprs (whole_text h) (many_text next_text hs)

exprs_keep : {from to : List Token} {xs : List Expr} → s.IsExprs all from to xs → All xs
exprs_keep (s.exprs h hs) = (λ on. short most_values next_room hs (omega arith), (whole_keeps h, each (Keeps all) next_keeps hs))

one_keeps : {from to : List Token} {x : Expr} → s.IsWhole all from to x → All (x ∷ [])
one_keeps h = (λ on. omega arith, (whole_keeps h, tt))

bracket_text : {from to : List Token} {b : Option Bracket} → s.IsBracket all from to b → g.IsBracket from to b × BracketKeeps All b
bracket_text s.unbracketed = (g.unbracketed, tt)
bracket_text s.variable = (g.variable, tt)
bracket_text (s.lengths h) = (g.lengths (exprs_text h), exprs_keep h)

arguments_text : {from to : List Token} {xs : List Expr} → s.IsArguments all from to xs → g.IsArguments from to xs × All xs
arguments_text s.no_arguments = (g.no_arguments, (λ on. omega arith, tt))
arguments_text s.empty_arguments = (g.empty_arguments, (λ on. omega arith, tt))
arguments_text (s.some_arguments h) = (g.some_arguments (exprs_text h), exprs_keep h)

encoding_text : {from to : List Token} {c : Encoding} → s.IsEncoding all from to c → g.IsEncoding from to c × EncodingKeeps All c
encoding_text s.bits = (g.bits, tt)
encoding_text (s.call h) = let found = arguments_text h in (g.call found.0, found.1)

bound_text : {from to : List Token} {b : Bound} → s.IsBound all from to b → g.IsBound from to b × (EncodingKeeps All b.encoding × BracketKeeps All b.bracket)
bound_text (s.binding c b) = let first = encoding_text c in let second = bracket_text b in (g.binding first.0 second.0, (first.1, second.1))

item_text : {from to : List Token} {x : Item} → s.IsItem all from to x → g.IsItem from to x × ItemKeeps All x
item_text (s.field b) = let found = bracket_text b in (g.field found.0, found.1)
item_text (s.bound b) = let found = bound_text b in (g.bound found.0, found.1)
item_text (s.enforce h) = (g.enforce (whole_text h), one_keeps h)

statement_text : (only_bound : Bool) (found : List Item) (from to : List Token) (x : Item) → s.IsStatement all only_bound found from to x → g.IsStatement only_bound from to x
statement_text _ found from to x (s.any_item room h) = g.any_item (item_text h).0
statement_text _ found from to _ (s.bound_item room h) = g.bound_item (bound_text h).0

statement_keeps : (only_bound : Bool) (found : List Item) (from to : List Token) (x : Item) → s.IsStatement all only_bound found from to x → ItemKeeps All x
statement_keeps _ found from to x (s.any_item room h) = (item_text h).1
statement_keeps _ found from to _ (s.bound_item room h) = (bound_text h).1

head_text : {from to : List Token} {word : Mark} {at : Span} {kind : SectionKind} → s.IsHead from to word at kind → g.IsHead from to at kind
head_text s.uncompressed = g.uncompressed
head_text s.control = g.control
head_text s.initial = g.initial
head_text s.default = g.default
head_text s.unnamed = g.unnamed
head_text s.named = g.named

section_text : (found : List Section) (from to : List Token) (x : Section) → s.IsSection all found from to x → g.IsSection from to x
section_text found from to _ (s.section {kind = kind} once room h hs) = g.section (head_text h) (many_text (statement_text (holds_bound kind)) hs)

section_keeps : (found : List Section) (from to : List Token) (x : Section) → s.IsSection all found from to x → SectionKeeps All x
section_keeps found from to _ (s.section {kind = kind} once room h hs) = each (ItemKeeps All) (statement_keeps (holds_bound kind)) hs

parameter_text : (found : List Span) (from to : List Token) (x : Span) → s.IsParameter all found from to x → g.IsParameter from to x
parameter_text found _ to x (s.parameter room) = g.parameter

parameters_text : {from to : List Token} {ps : List Span} → s.IsParameters all from to ps → g.IsParameters from to ps
parameters_text s.no_parameters = g.no_parameters
parameters_text s.empty_parameters = g.empty_parameters
parameters_text (s.some_parameters hs) = g.some_parameters (many_text parameter_text hs)

stop_text : {from to : List Token} → s.IsStop from to → g.IsStop from to
stop_text s.unstopped = g.unstopped
stop_text s.stopped = g.stopped

part_text : (found : List Part) (from to : List Token) (x : Part) → s.IsPart all found from to x → g.IsPart from to x
part_text found _ to _ (s.constant room h) = g.constant (whole_text h)
part_text found _ to _ (s.method room ps hs stop) = g.method (parameters_text ps) (many_text section_text hs) (stop_text stop)

part_keeps : (found : List Part) (from to : List Token) (x : Part) → s.IsPart all found from to x → PartKeeps All x
part_keeps found _ to _ (s.constant room h) = one_keeps h
part_keeps found _ to _ (s.method room ps hs stop) = each (SectionKeeps All) section_keeps hs

-- ---- what holds of each list holds of the lists of a file

module _ {P Q : List Expr → Type 0} (weak : (xs : List Expr) → P xs → Q xs) where
  pub weak_all : {A : Type 0} {X Y : A → Type 0} → ((x : A) → X x → Y x) → (xs : List A) → AllByRecursion X xs → AllByRecursion Y xs
  weak_all w [] h = tt
  weak_all w (x ∷ xs) h = (w x h.0, weak_all w xs h.1)

  pub weak_bracket : (b : Option Bracket) → BracketKeeps P b → BracketKeeps Q b
  weak_bracket (Some (brackets.Lengths at xs)) h = weak xs h
  weak_bracket (Some (brackets.Variable at)) h = tt
  weak_bracket None h = tt

  pub weak_encoding : (c : Encoding) → EncodingKeeps P c → EncodingKeeps Q c
  weak_encoding (encodings.Bits at count value) h = tt
  weak_encoding (encodings.Call at xs) h = weak xs h

  pub weak_item : (x : Item) → ItemKeeps P x → ItemKeeps Q x
  weak_item (i.Field at b) h = weak_bracket b h
  weak_item (i.Bound b) h = (weak_encoding b.encoding h.0, weak_bracket b.bracket h.1)
  weak_item (i.Enforce at x) h = weak (x ∷ []) h

  pub weak_section : (x : Section) → SectionKeeps P x → SectionKeeps Q x
  weak_section x h = weak_all weak_item x.items h

  pub weak_part : (x : Part) → PartKeeps P x → PartKeeps Q x
  weak_part (parts.Constant c) h = weak (c.value ∷ []) h
  weak_part (parts.Method x) h = weak_all weak_section x.sections h

  pub weak_lists : (file : File) → Lists P file → Lists Q file
  weak_lists file h = weak_all weak_part file.parts h

keeps_deep : (xs : List Expr) → AllByRecursion (Keeps all) xs → AllByRecursion (λ x. levels x ≤ 64) xs
keeps_deep [] h = tt
keeps_deep (x ∷ xs) h = (h.0.deep, keeps_deep xs h.1)

keeps_apart : (xs : List Expr) → AllByRecursion (Keeps all) xs → AllByRecursion (λ x. is_mixed (sums_in x) ≡ false) xs
keeps_apart [] h = tt
keeps_apart (x ∷ xs) h = (h.0.apart refl, keeps_apart xs h.1)

keeps_room : (xs : List Expr) → AllByRecursion (Keeps all) xs → AllByRecursion (λ x. operators x ≤ 256) xs
keeps_room [] h = tt
keeps_room (x ∷ xs) h = (h.0.room refl, keeps_room xs h.1)

pub parsed : (tokens : List Token) (file : File) → s.IsFile all tokens file → Parsed tokens file
parsed tokens file (s.is_file hs) =
    let lists : Lists All file = each (PartKeeps All) part_keeps hs in
    record {
      text = many_text part_text hs;
      shallow = weak_lists {P = All} {Q = AllByRecursion (λ x. levels x ≤ 64)} (λ xs h. keeps_deep xs h.1) file lists;
      unrepeated = each PartIsOnce part_once hs;
      unmixed = weak_lists {P = All} {Q = AllByRecursion (λ x. is_mixed (sums_in x) ≡ false)} (λ xs h. keeps_apart xs h.1) file lists;
      limited = record {
        expressions = weak_lists {P = All} {Q = AreFew} (λ xs h. (h.0 refl, keeps_room xs h.1)) file lists;
        methods = each PartIsFew part_few hs;
        constants = few_constants hs;
        parts = few_methods hs;
      };
    }

-- ---- what keeps the rules passes

count_before : {A : Type 0} (p : A → Bool) (before : List A) (x : A) (xs : List A) → count_by p (before ++ x ∷ xs) ≡ count_by p before + (cond (p x) 1 0 + count_by p xs)
count_before p before x xs = let both = sum_by-append (λ y. cond (p y) 1 0) before (x ∷ xs) in let first = count_first p x xs in omega (arith, both)

count_room : {A : Type 0} (p : A → Bool) (most : ℕ) (before : List A) (x : A) (xs : List A) → p x ≡ true → count_by p (before ++ x ∷ xs) ≤ most → count_by p before < most
count_room p most before x xs is h =
    let total = count_before p before x xs in
    let once : ◌≡◌ {A = ℕ} (cond (p x) 1 0) 1 = ap (λ (b : Bool). cond b 1 0) is in
    omega arith

length_room : {A : Type 0} (most : ℕ) (before : List A) (x : A) (xs : List A) → length (before ++ x ∷ xs) ≤ most → length before < most
length_room most before x xs h = omega (arith, length-append before (x ∷ xs))

module _ {A : Type 0} {X : List Token → List Token → A → Type 0} {Y : List A → List Token → List Token → A → Type 0} (P : A → Type 0) (R : List A → Type 0)
    (pass : (before : List A) (x : A) (xs : List A) (from to : List Token) → R (before ++ x ∷ xs) → P x → X from to x → Y before from to x) where
  many_pass : (before : List A) {from to : List Token} {xs : List A} → g.Many X from to xs → R (before ++ xs) → AllByRecursion P xs → s.Many Y before from to xs
  many_pass before g.ended whole h = s.ended
  many_pass before (g.more {from = from} {mid = mid} {x = x} {xs = xs} j js) whole h =
      s.more (pass before x xs from mid whole h.0 j) (many_pass (before ++ x ∷ []) js (subst R (sym (append_assoc before (x ∷ []) xs)) whole) h.1)

trivial : {A : Type 0} (xs : List A) → AllByRecursion (λ _. Unit {0}) xs
trivial [] = tt
trivial (x ∷ xs) = (tt, trivial xs)

full_free : (r : Rules) (most count : ℕ) → (r.counts ≡ true → count < most) → is_full r most count ≡ false
full_free r most count h = and_off r.counts (nat_le most count) (λ on. lt-leb most count (h on))

out_free : (r : Rules) (n : ℕ) → (r.counts ≡ true → 0 < n) → is_out r n ≡ false
out_free r zero h = and_off r.counts (0 == 0) (λ on. absurd (let less = h on in omega arith))
out_free r (suc n) h = and_off r.counts (suc n == 0) (λ on. ne_eqb (suc n) 0 (λ e. omega arith))

-- a flag that no section before set
module _ (flag : SectionsSoFar → Bool) (sets : SectionKind → Bool) (law : (kind : SectionKind) (seen : SectionsSoFar) → flag (with_section kind seen) ≡ (sets kind || flag seen)) where
  off_next : (kind : SectionKind) (seen : SectionsSoFar) (xs : List Section) (count : ℕ) → count ≡ cond (sets kind) 1 0 + count_by (λ s. sets s.kind) xs → count ≡ 0 → flag seen ≡ false
      → (b : Bool) → sets kind ≡ b → (count_by (λ s. sets s.kind) xs ≡ 0) × (flag (with_section kind seen) ≡ false)
  off_next kind seen xs count first none h true is = let once : ◌≡◌ {A = ℕ} (cond (sets kind) 1 0) 1 = ap (λ (b : Bool). cond b 1 0) is in absurd (omega arith)
  off_next kind seen xs count first none h false is =
      let zero_is : ◌≡◌ {A = ℕ} (cond (sets kind) 1 0) 0 = ap (λ (b : Bool). cond b 1 0) is in
      (omega arith, law kind seen ∙ ap (λ (b : Bool). b || flag seen) is ∙ h)

  still_off : (seen : SectionsSoFar) (xs : List Section) → count_by (λ s. sets s.kind) xs ≡ 0 → flag seen ≡ false → flag (seen_from seen xs) ≡ false
  still_off seen [] none h = h
  still_off seen (x ∷ xs) none h =
      let next = off_next x.kind seen xs (count_by (λ s. sets s.kind) (x ∷ xs)) (count_first (λ s. sets s.kind) x xs) none h (sets x.kind) refl in
      still_off (with_section x.kind seen) xs next.0 next.1

  once_off : (before : List Section) (x : Section) (xs : List Section) → sets x.kind ≡ true → flag unseen ≡ false → count_by (λ s. sets s.kind) (before ++ x ∷ xs) ≤ 1 → flag (seen_in before) ≡ false
  once_off before x xs is none h =
      let room = count_room (λ s. sets s.kind) 1 before x xs is h in
      still_off unseen before (omega arith) none

module _ (r : Rules) where
  abbrev Own : List Expr → Type 0
  Own = ListKeeps r

  whole_pass : {from to : List Token} {x : Expr} → g.IsWhole from to x → Keeps r x → s.IsWhole r from to x
  whole_pass {x = x} h keeps =
      s.whole (counts r h (nesting r) start (record { deep = keeps.deep; room = λ on. let few = keeps.room on in omega arith; apart = keeps.apart }) (λ le. refl)).is

  next_pass : (before : List Expr) (x : Expr) (xs : List Expr) (from to : List Token) → (r.counts ≡ true → length (before ++ x ∷ xs) ≤ 32) → Keeps r x → g.IsNext from to x → s.IsNext r before from to x
  next_pass before x xs _ to few keeps (g.next h) = s.next (full_free r most_values (length before) (λ on. length_room 32 before x xs (few on))) (whole_pass h keeps)

  exprs_pass : {from to : List Token} {xs : List Expr} → g.IsExprs from to xs → Own xs → s.IsExprs r from to xs
  exprs_pass (g.exprs {x = x} {xs = xs} h hs) keeps =
      s.exprs (whole_pass h keeps.1.0) (many_pass (Keeps r) (λ ys. r.counts ≡ true → length ys ≤ 32) next_pass (x ∷ []) hs keeps.0 keeps.1.1)

  bracket_pass : {from to : List Token} {b : Option Bracket} → g.IsBracket from to b → BracketKeeps Own b → s.IsBracket r from to b
  bracket_pass g.unbracketed keeps = s.unbracketed
  bracket_pass g.variable keeps = s.variable
  bracket_pass (g.lengths h) keeps = s.lengths (exprs_pass h keeps)

  arguments_pass : {from to : List Token} {xs : List Expr} → g.IsArguments from to xs → Own xs → s.IsArguments r from to xs
  arguments_pass g.no_arguments keeps = s.no_arguments
  arguments_pass g.empty_arguments keeps = s.empty_arguments
  arguments_pass (g.some_arguments h) keeps = s.some_arguments (exprs_pass h keeps)

  encoding_pass : {from to : List Token} {c : Encoding} → g.IsEncoding from to c → EncodingKeeps Own c → s.IsEncoding r from to c
  encoding_pass g.bits keeps = s.bits
  encoding_pass (g.call h) keeps = s.call (arguments_pass h keeps)

  bound_pass : {from to : List Token} {b : Bound} → g.IsBound from to b → EncodingKeeps Own b.encoding × BracketKeeps Own b.bracket → s.IsBound r from to b
  bound_pass (g.binding c b) keeps = s.binding (encoding_pass c keeps.0) (bracket_pass b keeps.1)

  item_pass : {from to : List Token} {x : Item} → g.IsItem from to x → ItemKeeps Own x → s.IsItem r from to x
  item_pass (g.field b) keeps = s.field (bracket_pass b keeps)
  item_pass (g.bound b) keeps = s.bound (bound_pass b keeps)
  item_pass (g.enforce h) keeps = s.enforce (whole_pass h keeps.1.0)

  statement_pass : (only_bound : Bool) (before : List Item) (x : Item) (xs : List Item) (from to : List Token) → (r.counts ≡ true → length (before ++ x ∷ xs) ≤ 128) → ItemKeeps Own x
      → g.IsStatement only_bound from to x → s.IsStatement r only_bound before from to x
  statement_pass _ before x xs from to few keeps (g.any_item h) = s.any_item (full_free r most_statements (length before) (λ on. length_room 128 before x xs (few on))) (item_pass h keeps)
  statement_pass _ before x xs from to few keeps (g.bound_item h) = s.bound_item (full_free r most_statements (length before) (λ on. length_room 128 before x xs (few on))) (bound_pass h keeps)

  -- what a method's sections keep, and each of them
  record SectionsKeep (xs : List Section) : Type 0 where
    once : r.repeats ≡ true → IsOnce xs
    few : r.counts ≡ true → count_by is_format xs ≤ 64

  abbrev OwnSection : Section → Type 0
  OwnSection x = (r.counts ≡ true → length x.items ≤ 128) × SectionKeeps Own x

  statements_pass : (only_bound : Bool) {from to : List Token} {xs : List Item} → g.Many (g.IsStatement only_bound) from to xs → (r.counts ≡ true → length xs ≤ 128) → AllByRecursion (ItemKeeps Own) xs
      → s.Many (s.IsStatement r only_bound) [] from to xs
  statements_pass only_bound hs few keeps = many_pass (ItemKeeps Own) (λ ys. r.counts ≡ true → length ys ≤ 128) (statement_pass only_bound) [] hs few keeps

  record HeadPasses (before : List Section) (from to : List Token) (at : Span) (kind : SectionKind) : Type 0 where
    word : Mark
    is : s.IsHead from to word at kind
    once : (r.repeats && is_repeated word (seen_in before)) ≡ false
    room : (is_mark m.Compressed (k.Mark word) && is_out r (seen_in before).formats_left) ≡ false

  format_free : (before : List Section) (x : Section) (xs : List Section) → SectionsKeep (before ++ x ∷ xs) → is_format x ≡ true → is_out r (seen_in before).formats_left ≡ false
  format_free before x xs keeps is =
      out_free r (seen_in before).formats_left (λ on. let room = count_room is_format 64 before x xs is (keeps.few on) in let same = formats_left unseen before in omega arith)

  head_pass : (before : List Section) (x : Section) (xs : List Section) {from to : List Token} {at : Span} {kind : SectionKind} → SectionsKeep (before ++ x ∷ xs) → x.kind ≡ kind → g.IsHead from to at kind
      → HeadPasses before from to at kind
  unfolding same_mark
  head_pass before x xs keeps is g.uncompressed = record { word = m.Uncompressed; is = s.uncompressed; once = and_off r.repeats false (λ on. refl); room = refl }
  head_pass before x xs keeps is g.control = record {
    word = m.Control;
    is = s.control;
    room = refl;
    once = and_off r.repeats (seen_in before).control (λ on. once_off (λ s. s.control) is_control_kind control_law before x xs (ap is_control_kind is) refl (keeps.once on).control);
  }
  head_pass before x xs keeps is g.initial = record {
    word = m.Initial;
    is = s.initial;
    room = refl;
    once = and_off r.repeats (seen_in before).initial (λ on. once_off (λ s. s.initial) is_initial_kind initial_law before x xs (ap is_initial_kind is) refl (keeps.once on).initial);
  }
  head_pass before x xs keeps is g.default = record {
    word = m.Default;
    is = s.default;
    room = refl;
    once = and_off r.repeats (seen_in before).default (λ on. once_off (λ s. s.default) is_default_kind default_law before x xs (ap is_default_kind is) refl (keeps.once on).default);
  }
  head_pass before x xs keeps is g.unnamed = record { word = m.Compressed; is = s.unnamed; once = and_off r.repeats false (λ on. refl); room = format_free before x xs keeps (ap is_format_kind is) }
  head_pass before x xs keeps is g.named = record { word = m.Compressed; is = s.named; once = and_off r.repeats false (λ on. refl); room = format_free before x xs keeps (ap is_format_kind is) }

  section_pass : (before : List Section) (x : Section) (xs : List Section) (from to : List Token) → SectionsKeep (before ++ x ∷ xs) → OwnSection x → g.IsSection from to x → s.IsSection r before from to x
  section_pass before x xs from to keeps own (g.section {kind = kind} h hs) =
      let head = head_pass before x xs keeps refl h in
      s.section head.once head.room head.is (statements_pass (holds_bound kind) hs own.0 own.1)

  parameter_pass : (before : List Span) (x : Span) (xs : List Span) (from to : List Token) → (r.counts ≡ true → length (before ++ x ∷ xs) ≤ 32) → Unit {0} → g.IsParameter from to x → s.IsParameter r before from to x
  parameter_pass before x xs _ to few own g.parameter = s.parameter (full_free r most_parameters (length before) (λ on. length_room 32 before x xs (few on)))

  parameters_pass : {from to : List Token} {ps : List Span} → g.IsParameters from to ps → (r.counts ≡ true → length ps ≤ 32) → s.IsParameters r from to ps
  parameters_pass g.no_parameters few = s.no_parameters
  parameters_pass g.empty_parameters few = s.empty_parameters
  parameters_pass (g.some_parameters {at = at} {xs = xs} hs) few = s.some_parameters (many_pass (λ _. Unit {0}) (λ ys. r.counts ≡ true → length ys ≤ 32) parameter_pass (at ∷ []) hs few (trivial xs))

  stop_pass : {from to : List Token} → g.IsStop from to → s.IsStop from to
  stop_pass g.unstopped = s.unstopped
  stop_pass g.stopped = s.stopped

  -- what a part keeps, and the parts together
  abbrev OwnPart : Part → Type 0
  OwnPart x = (r.repeats ≡ true → PartIsOnce x) × (r.counts ≡ true → PartIsFew x) × PartKeeps Own x

  record PartsKeep (xs : List Part) : Type 0 where
    constants : r.counts ≡ true → count_by is_constant xs ≤ 1024
    methods : r.counts ≡ true → count_by is_method xs ≤ 128

  own_sections : (xs : List Section) → (r.counts ≡ true → AllByRecursion (λ s. length s.items ≤ 128) xs) → AllByRecursion (SectionKeeps Own) xs → AllByRecursion OwnSection xs
  own_sections [] few keeps = tt
  own_sections (x ∷ xs) few keeps = ((λ on. (few on).0, keeps.0), own_sections xs (λ on. (few on).1) keeps.1)

  part_pass : (before : List Part) (x : Part) (xs : List Part) (from to : List Token) → PartsKeep (before ++ x ∷ xs) → OwnPart x → g.IsPart from to x → s.IsPart r before from to x
  part_pass before x xs _ to keeps own (g.constant h) =
      s.constant (out_free r (tally_of before).constants_left (λ on. let room = count_room is_constant 1024 before x xs refl (keeps.constants on) in let same = constants_left (tally_of []) before in omega arith))
      (whole_pass h own.2.1.0)
  part_pass before x xs _ to keeps own (g.method {ps = ps} {xs = ys} taken hs stop) =
      s.method (out_free r (tally_of before).methods_left (λ on. let room = count_room is_method 128 before x xs refl (keeps.methods on) in let same = methods_left (tally_of []) before in omega arith))
      (parameters_pass taken (λ on. (own.1 on).parameters))
      (many_pass OwnSection SectionsKeep section_pass [] hs (record { once = λ on. own.0 on; few = λ on. (own.1 on).formats }) (own_sections ys (λ on. (own.1 on).statements) own.2))
      (stop_pass stop)

  pub passes : (tokens : List Token) (file : File) → g.IsText tokens file → Lists Own file → (r.repeats ≡ true → AllByRecursion PartIsOnce file.parts) → (r.counts ≡ true → AllByRecursion PartIsFew file.parts)
      → (r.counts ≡ true → count_by is_constant file.parts ≤ 1024) → (r.counts ≡ true → count_by is_method file.parts ≤ 128) → s.IsFile r tokens file
  passes tokens file text lists once few constants methods =
      s.is_file (many_pass OwnPart PartsKeep part_pass [] text (record { constants = constants; methods = methods }) (own_parts file.parts once few lists))
    where
      own_parts : (xs : List Part) → (r.repeats ≡ true → AllByRecursion PartIsOnce xs) → (r.counts ≡ true → AllByRecursion PartIsFew xs) → AllByRecursion (PartKeeps Own) xs → AllByRecursion OwnPart xs
      own_parts [] once few keeps = tt
      own_parts (x ∷ xs) once few keeps = ((λ on. (once on).0, λ on. (few on).0, keeps.0), own_parts xs (λ on. (once on).1) (λ on. (few on).1) keeps.1)
