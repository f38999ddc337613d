-- What keeps the one rule that a fault speaks of passes where that rule alone counts.
use Rattle.std.proofs.Common.{◌≡◌, ℕ, ◌+◌, ◌≤◌, max, List, [], ◌∷◌, Option, Some, None, true, false, arith}
use Rattle.std.specs.List.{AllByRecursion}
use Rattle.std.proofs.Math.Nat.{le-max_left, le-max_right}
use Rattle.text_source.specs.declared.token.Token.{Token}
use Rattle.text_tree.specs.declared.tree.Expr.{Expr}
use Rattle.text_tree.specs.declared.tree.Encoding.{Encoding}
use Rattle.text_tree.specs.declared.tree.Encoding.TheVariants as encodings
use Rattle.text_tree.specs.declared.tree.Bracket.{Bracket}
use Rattle.text_tree.specs.declared.tree.Bracket.TheVariants as brackets
use Rattle.text_tree.specs.declared.tree.Item.{Item}
use Rattle.text_tree.specs.declared.tree.Item.TheVariants as i
use Rattle.text_tree.specs.declared.tree.Section.{Section}
use Rattle.text_tree.specs.declared.tree.Part.{Part}
use Rattle.text_tree.specs.declared.tree.Part.TheVariants as parts
use Rattle.text_tree.specs.declared.tree.File.{File}
use Rattle.text_tree.specs.Rules.{Rules, all, none, nesting}
use Rattle.text_tree.specs.Limits.{levels, sums_in, is_mixed, operators, BracketKeeps, EncodingKeeps, ItemKeeps, SectionKeeps, PartKeeps, Lists, AreFew, IsShallow, IsUnrepeated, IsUnmixed, IsLimited, Parsed}
use Rattle.text_tree.specs.Grammar.{IsText}
use Rattle.text_tree.proofs.GrammarStrict as s
use Rattle.text_tree.proofs.RuledFile.{Keeps, ListKeeps, weak_bracket, weak_encoding, weak_item, weak_section, weak_part, weak_lists, passes}

-- ---- both of two

module _ (P Q : List Expr → Type 0) where
  abbrev Both : List Expr → Type 0
  Both xs = P xs × Q xs

  both_all : {A : Type 0} {X Y Z : A → Type 0} → ((x : A) → X x → Y x → Z x) → (xs : List A) → AllByRecursion X xs → AllByRecursion Y xs → AllByRecursion Z xs
  both_all w [] h j = tt
  both_all w (x ∷ xs) h j = (w x h.0 j.0, both_all w xs h.1 j.1)

  both_bracket : (b : Option Bracket) → BracketKeeps P b → BracketKeeps Q b → BracketKeeps Both b
  both_bracket (Some (brackets.Lengths at xs)) h j = (h, j)
  both_bracket (Some (brackets.Variable at)) h j = tt
  both_bracket None h j = tt

  both_encoding : (c : Encoding) → EncodingKeeps P c → EncodingKeeps Q c → EncodingKeeps Both c
  both_encoding (encodings.Bits at count value) h j = tt
  both_encoding (encodings.Call at xs) h j = (h, j)

  both_item : (x : Item) → ItemKeeps P x → ItemKeeps Q x → ItemKeeps Both x
  both_item (i.Field at b) h j = both_bracket b h j
  both_item (i.Bound b) h j = (both_encoding b.encoding h.0 j.0, both_bracket b.bracket h.1 j.1)
  both_item (i.Enforce at x) h j = (h, j)

  both_section : (x : Section) → SectionKeeps P x → SectionKeeps Q x → SectionKeeps Both x
  both_section x h j = both_all both_item x.items h j

  both_part : (x : Part) → PartKeeps P x → PartKeeps Q x → PartKeeps Both x
  both_part (parts.Constant c) h j = (h, j)
  both_part (parts.Method x) h j = both_all both_section x.sections h j

  both_lists : (file : File) → Lists P file → Lists Q file → Lists Both file
  both_lists file h j = both_all both_part file.parts h j

-- ---- each file has a depth

-- nested no deeper than this
abbrev Within : ℕ → List Expr → Type 0
Within n xs = AllByRecursion (λ x. levels x ≤ n) xs

within_up : (n m : ℕ) → n ≤ m → (xs : List Expr) → Within n xs → Within m xs
within_up n m le [] h = tt
within_up n m le (x ∷ xs) h = (let here = h.0 in omega arith, within_up n m le xs h.1)

module _ {A : Type 0} (X : ℕ → A → Type 0) (up : (n m : ℕ) → n ≤ m → (x : A) → X n x → X m x) (find : (x : A) → (n : ℕ) × X n x) where
  deep_all : (xs : List A) → (n : ℕ) × AllByRecursion (X n) xs
  deep_all [] = (0, tt)
  deep_all (x ∷ xs) =
      let first = find x in
      let others = deep_all xs in
      let n = max first.0 others.0 in
      (n, (up first.0 n (le-max_left first.0 others.0) x first.1, up_all others.0 n (le-max_right first.0 others.0) xs others.1))
    where
      up_all : (n m : ℕ) → n ≤ m → (ys : List A) → AllByRecursion (X n) ys → AllByRecursion (X m) ys
      up_all n m le [] h = tt
      up_all n m le (y ∷ ys) h = (up n m le y h.0, up_all n m le ys h.1)

deep_list : (xs : List Expr) → (n : ℕ) × Within n xs
deep_list xs = deep_all (λ n x. levels x ≤ n) (λ n m le x h. omega arith) (λ x. (levels x, omega arith)) xs

deep_bracket : (b : Option Bracket) → (n : ℕ) × BracketKeeps (Within n) b
deep_bracket (Some (brackets.Lengths at xs)) = deep_list xs
deep_bracket (Some (brackets.Variable at)) = (0, tt)
deep_bracket None = (0, tt)

deep_encoding : (c : Encoding) → (n : ℕ) × EncodingKeeps (Within n) c
deep_encoding (encodings.Bits at count value) = (0, tt)
deep_encoding (encodings.Call at xs) = deep_list xs

deep_item : (x : Item) → (n : ℕ) × ItemKeeps (Within n) x
deep_item (i.Field at b) = deep_bracket b
deep_item (i.Bound b) =
    let first = deep_encoding b.encoding in
    let second = deep_bracket b.bracket in
    let n = max first.0 second.0 in
    (n, (weak_encoding {P = Within first.0} {Q = Within n} (within_up first.0 n (le-max_left first.0 second.0)) b.encoding first.1, weak_bracket {P = Within second.0} {Q = Within n} (within_up second.0 n (le-max_right first.0 second.0)) b.bracket second.1))
deep_item (i.Enforce at x) = deep_list (x ∷ [])

deep_section : (x : Section) → (n : ℕ) × SectionKeeps (Within n) x
deep_section x = deep_all (λ n y. ItemKeeps (Within n) y) (λ n m le y. weak_item {P = Within n} {Q = Within m} (within_up n m le) y) deep_item x.items

deep_part : (x : Part) → (n : ℕ) × PartKeeps (Within n) x
deep_part (parts.Constant c) = deep_list (c.value ∷ [])
deep_part (parts.Method x) = deep_all (λ n y. SectionKeeps (Within n) y) (λ n m le y. weak_section {P = Within n} {Q = Within m} (within_up n m le) y) deep_section x.sections

up_part : (n m : ℕ) → n ≤ m → (x : Part) → PartKeeps (Within n) x → PartKeeps (Within m) x
up_part n m le x h = weak_part {P = Within n} {Q = Within m} (within_up n m le) x h

pub deep_file : (file : File) → (n : ℕ) × Lists (Within n) file
deep_file file = deep_all (λ n y. PartKeeps (Within n) y) up_part deep_part file.parts

-- ---- one rule alone

lists_keep : (r : Rules) (xs : List Expr) → Within (nesting r) xs → (r.counts ≡ true → AreFew xs) → (r.sums ≡ true → AllByRecursion (λ x. is_mixed (sums_in x) ≡ false) xs) → ListKeeps r xs
lists_keep r xs deep few apart = (λ on. (few on).0, each_keeps xs deep (λ on. (few on).1) apart)
  where
    each_keeps : (ys : List Expr) → Within (nesting r) ys → (r.counts ≡ true → AllByRecursion (λ x. operators x ≤ 256) ys) → (r.sums ≡ true → AllByRecursion (λ x. is_mixed (sums_in x) ≡ false) ys) → AllByRecursion (Keeps r) ys
    each_keeps [] deep few apart = tt
    each_keeps (y ∷ ys) deep few apart =
        (record { deep = deep.0; room = λ on. (few on).0; apart = λ on. (apart on).0 }, each_keeps ys deep.1 (λ on. (few on).1) (λ on. (apart on).1))

-- the rule on `%` alone, that on sections, that on counts
abbrev pub sums_alone : ℕ → Rules
sums_alone deeper = record { deeper = deeper; repeats = false; sums = true; counts = false }

abbrev pub repeats_alone : ℕ → Rules
repeats_alone deeper = record { deeper = deeper; repeats = true; sums = false; counts = false }

abbrev pub counts_alone : ℕ → Rules
counts_alone deeper = record { deeper = deeper; repeats = false; sums = false; counts = true }

up_to : (n : ℕ) (file : File) → Lists (Within n) file → Lists (Within (64 + n)) file
up_to n file h = weak_lists {P = Within n} {Q = Within (64 + n)} (within_up n (64 + n) (omega arith)) file h

pub none_passes : (n : ℕ) (tokens : List Token) (file : File) → Lists (Within (64 + n)) file → IsText tokens file → s.IsFile (none n) tokens file
none_passes n tokens file deep text =
    passes (none n) tokens file text (weak_lists {P = Within (64 + n)} {Q = ListKeeps (none n)} (λ xs h. lists_keep (none n) xs h (λ on. absurd cc) (λ on. absurd cc)) file deep)
    (λ on. absurd cc) (λ on. absurd cc) (λ on. absurd cc) (λ on. absurd cc)

pub shallow_passes : (tokens : List Token) (file : File) → IsShallow file → IsText tokens file → s.IsFile (none 0) tokens file
shallow_passes tokens file deep text = none_passes 0 tokens file deep text

pub text_passes : (tokens : List Token) (file : File) → IsText tokens file → (n : ℕ) × s.IsFile (none n) tokens file
text_passes tokens file text = let deep = deep_file file in (deep.0, none_passes deep.0 tokens file (up_to deep.0 file deep.1) text)

pub sums_pass : (tokens : List Token) (file : File) → IsUnmixed file → IsText tokens file → (n : ℕ) × s.IsFile (sums_alone n) tokens file
sums_pass tokens file apart text =
    let deep = deep_file file in
    let r = sums_alone deep.0 in
    let Apart : List Expr → Type 0 = AllByRecursion (λ x. is_mixed (sums_in x) ≡ false) in (
      deep.0,
      passes r tokens file text
          (weak_lists {P = Both (Within (64 + deep.0)) Apart} {Q = ListKeeps r} (λ xs h. lists_keep r xs h.0 (λ on. absurd cc) (λ on. h.1)) file (both_lists (Within (64 + deep.0)) Apart file (up_to deep.0 file deep.1) apart))
          (λ on. absurd cc) (λ on. absurd cc) (λ on. absurd cc) (λ on. absurd cc),
    )

pub repeats_pass : (tokens : List Token) (file : File) → IsUnrepeated file → IsText tokens file → (n : ℕ) × s.IsFile (repeats_alone n) tokens file
repeats_pass tokens file once text =
    let deep = deep_file file in
    let r = repeats_alone deep.0 in (
      deep.0,
      passes r tokens file text (weak_lists {P = Within (64 + deep.0)} {Q = ListKeeps r} (λ xs h. lists_keep r xs h (λ on. absurd cc) (λ on. absurd cc)) file (up_to deep.0 file deep.1))
          (λ on. once) (λ on. absurd cc) (λ on. absurd cc) (λ on. absurd cc),
    )

pub counts_pass : (tokens : List Token) (file : File) → IsLimited file → IsText tokens file → (n : ℕ) × s.IsFile (counts_alone n) tokens file
counts_pass tokens file few text =
    let deep = deep_file file in
    let r = counts_alone deep.0 in (
      deep.0,
      passes r tokens file text
          (weak_lists {P = Both (Within (64 + deep.0)) AreFew} {Q = ListKeeps r} (λ xs h. lists_keep r xs h.0 (λ on. h.1) (λ on. absurd cc)) file (both_lists (Within (64 + deep.0)) AreFew file (up_to deep.0 file deep.1) few.expressions))
          (λ on. absurd cc) (λ on. few.methods) (λ on. few.constants) (λ on. few.parts),
    )

pub parsed_passes : (tokens : List Token) (file : File) → Parsed tokens file → s.IsFile all tokens file
parsed_passes tokens file h =
    let Apart : List Expr → Type 0 = AllByRecursion (λ x. is_mixed (sums_in x) ≡ false) in
    let Few : List Expr → Type 0 = Both AreFew Apart in
    passes all tokens file h.text
    (weak_lists {P = Both (Within 64) Few} {Q = ListKeeps all} (λ xs j. lists_keep all xs j.0 (λ on. j.1.0) (λ on. j.1.1)) file
    (both_lists (Within 64) Few file h.shallow (both_lists AreFew Apart file h.limited.expressions h.unmixed)))
    (λ on. h.unrepeated) (λ on. h.limited.methods) (λ on. h.limited.constants) (λ on. h.limited.parts)

-- two files at once, for one depth
pub two_pass : (tokens : List Token) (a b : File) → IsText tokens a → IsText tokens b → (n : ℕ) × s.IsFile (none n) tokens a × s.IsFile (none n) tokens b
two_pass tokens a b first second =
    let deep_a = deep_file a in
    let deep_b = deep_file b in
    let n = max deep_a.0 deep_b.0 in
    let up_a = weak_lists {P = Within deep_a.0} {Q = Within (64 + n)} (within_up deep_a.0 (64 + n) (let le = le-max_left deep_a.0 deep_b.0 in omega arith)) a deep_a.1 in
    let up_b = weak_lists {P = Within deep_b.0} {Q = Within (64 + n)} (within_up deep_b.0 (64 + n) (let le = le-max_right deep_a.0 deep_b.0 in omega arith)) b deep_b.1 in
    (n, none_passes n tokens a up_a first, none_passes n tokens b up_b second)
