-- A bundle that is spelled from parts has those parts.
use Rattle.std.proofs.Common.{◌≡◌, ◌≢◌, ◌∙◌, ℕ, ◌-◌, Bool, true, false, List, [], ◌∷◌, ◌++◌, length, take, if◌then◌else◌, ◌==◌, refl, sym, ap, ap₂, arith, append_assoc, append-nil, length-append, codes}
use Rattle.std.specs.List.{AllByRecursion, ends_with, flat_map}
use Rattle.std.specs.Prelude.{nat_eq, slice_index}
use Rattle.std.proofs.lemmas.Bool.Decides.{Decides-eqb}
use Rattle.std.proofs.lemmas.List.{append_cancel_right, get_or_push}
use Rattle.std.proofs.lemmas.Slice.Eq.{ends_is}
use Rattle.std.proofs.Math.Seq.{take-append_seam}
use Rattle.tool_input.specs.Bundle.{HasSpelled, IsSpellable, IsWhole, Part, front_of, full_lines, is_heading, name_in, named, onto_first_line, parts_in, parts_of, spelled, text_before, without_end}
use Rattle.tool_input.proofs.BundleLines.{not_ten}

-- lines that are joined
onto_joined : (x : ℕ) (a b : List (List ℕ)) → (a ≡ [] → ⊥) → onto_first_line x (a ++ b) ≡ onto_first_line x a ++ b
onto_joined x [] b some = absurd (some refl)
onto_joined x (line ∷ lines) b some = refl

onto_some : (x : ℕ) (a : List (List ℕ)) → onto_first_line x a ≡ [] → ⊥
onto_some x [] e = cc
onto_some x (line ∷ lines) e = cc

lines_some : (x : ℕ) (xs : List ℕ) → full_lines (x ∷ xs) ≡ [] → ⊥
lines_some x xs = elim (x == 10) as (λ b. (if b then (10 ∷ []) ∷ full_lines xs else onto_first_line x (full_lines xs)) ≡ [] → ⊥) [ true ↦ λ e. cc | false ↦ onto_some x (full_lines xs) ]

full_lines-append : (xs ys : List ℕ) → IsWhole xs → full_lines (xs ++ ys) ≡ full_lines xs ++ full_lines ys
full_lines-append [] ys whole = refl
full_lines-append (x ∷ []) ys whole = rw whole refl
full_lines-append (x ∷ y ∷ xs) ys whole =
    let rest = full_lines-append (y ∷ xs) ys whole in
    let joined : onto_first_line x (full_lines (y ∷ xs) ++ full_lines ys) ≡ onto_first_line x (full_lines (y ∷ xs)) ++ full_lines ys = onto_joined x (full_lines (y ∷ xs)) (full_lines ys) (lines_some y xs) in
    ap (λ r. if x == 10 then (10 ∷ []) ∷ r else onto_first_line x r) rest
    ∙ elim (x == 10) as (λ b. (if b then (10 ∷ []) ∷ (full_lines (y ∷ xs) ++ full_lines ys) else onto_first_line x (full_lines (y ∷ xs) ++ full_lines ys)) ≡ (if b then (10 ∷ []) ∷ full_lines (y ∷ xs) else onto_first_line x (full_lines (y ∷ xs))) ++ full_lines ys) [ true ↦ refl | false ↦ joined ]

-- a line, and what follows it
line_first : (xs rest : List ℕ) → AllByRecursion (λ x. x ≢ 10) xs → full_lines (xs ++ 10 ∷ rest) ≡ (xs ++ 10 ∷ []) ∷ full_lines rest
line_first [] rest none = refl
line_first (x ∷ xs) rest none = rw (not_ten x none.0, line_first xs rest none.1) refl

-- lines with no heading
text_before-append : (a b : List (List ℕ)) → AllByRecursion (λ line. is_heading line ≡ false) a → text_before (a ++ b) ≡ text_before a ++ text_before b
text_before-append [] b plain = refl
text_before-append (line ∷ lines) b plain =
    ap (λ h. if h then [] else line ++ text_before (lines ++ b)) plain.0
    ∙ ap (λ t. line ++ t) (text_before-append lines b plain.1)
    ∙ sym (append_assoc line (text_before lines) (text_before b))
    ∙ sym (ap (λ h. (if h then [] else line ++ text_before lines) ++ text_before b) plain.0)

parts_in-append : (a b : List (List ℕ)) → AllByRecursion (λ line. is_heading line ≡ false) a → parts_in (a ++ b) ≡ parts_in b
parts_in-append [] b plain = refl
parts_in-append (line ∷ lines) b plain =
    ap (λ h. if h then named (name_in line) (text_before (lines ++ b)) ∷ parts_in (lines ++ b) else parts_in (lines ++ b)) plain.0 ∙ parts_in-append lines b plain.1

joined_onto : (x : ℕ) (lines : List (List ℕ)) → flat_map (λ line. line) (onto_first_line x lines) ≡ x ∷ flat_map (λ line. line) lines
joined_onto x [] = refl
joined_onto x (line ∷ lines) = refl

joined_more : (x : ℕ) (xs : List ℕ) (b : Bool) → (x == 10) ≡ b → flat_map (λ line. line) (full_lines xs) ≡ xs → flat_map (λ line. line) (full_lines (x ∷ xs)) ≡ x ∷ xs
joined_more x xs true e rest = ap (λ b. flat_map (λ line. line) (if b then (10 ∷ []) ∷ full_lines xs else onto_first_line x (full_lines xs))) e
    ∙ ap₂ (λ y ys. y ∷ ys) (sym ((Decides-eqb x 10).0 e)) rest
joined_more x xs false e rest = ap (λ b. flat_map (λ line. line) (if b then (10 ∷ []) ∷ full_lines xs else onto_first_line x (full_lines xs))) e
    ∙ joined_onto x (full_lines xs) ∙ ap (λ ys. x ∷ ys) rest

joined_lines : (xs : List ℕ) → flat_map (λ line. line) (full_lines xs) ≡ xs
joined_lines [] = refl
joined_lines (x ∷ xs) = joined_more x xs (x == 10) refl (joined_lines xs)

text_before_plain : (lines : List (List ℕ)) → AllByRecursion (λ line. is_heading line ≡ false) lines → text_before lines ≡ flat_map (λ line. line) lines
text_before_plain [] plain = refl
text_before_plain (line ∷ lines) plain = ap (λ h. if h then [] else line ++ text_before lines) plain.0 ∙ ap (λ t. line ++ t) (text_before_plain lines plain.1)

last_is : (front : List ℕ) → slice_index (front ++ 13 ∷ []) (length (front ++ 13 ∷ []) - 1) ≡ 13
last_is front =
    let at : length (front ++ 13 ∷ []) - 1 ≡ length front = omega (arith, length-append front (13 ∷ [])) in
    ap (λ n. slice_index (front ++ 13 ∷ []) n) at ∙ get_or_push front 13 0 (length front) refl

not_both : (name : List ℕ) (b : Bool) → slice_index name (length name - 1) ≢ 13 → ends_with nat_eq (name ++ 10 ∷ []) (13 ∷ 10 ∷ []) ≡ b → b ≡ false
not_both name false other e = refl
not_both name true other e =
    let text = name ++ 10 ∷ [] in
    let front = take (length text - 2) text in
    let is : name ++ 10 ∷ [] ≡ (front ++ 13 ∷ []) ++ 10 ∷ [] = (ends_is Decides-eqb text (13 ∷ 10 ∷ []) _ refl).0 e ∙ sym (append_assoc front (13 ∷ []) (10 ∷ [])) in
    let same : name ≡ front ++ 13 ∷ [] = append_cancel_right name (front ++ 13 ∷ []) (10 ∷ []) is in
    absurd (other (ap (λ (n : List ℕ). slice_index n (length n - 1)) same ∙ last_is front))

-- the name comes back
name_back : (name : List ℕ) → slice_index name (length name - 1) ≢ 13 → without_end (name ++ 10 ∷ []) ≡ name
name_back name other =
    let text = name ++ 10 ∷ [] in
    let bare : ends_with nat_eq text (13 ∷ 10 ∷ []) ≡ false = not_both name (ends_with nat_eq text (13 ∷ 10 ∷ [])) other refl in
    let feed : ends_with nat_eq text (10 ∷ []) ≡ true = (ends_is Decides-eqb text (10 ∷ []) _ refl).1 name refl in
    let size : length text - 1 ≡ length name = omega (arith, length-append name (10 ∷ [])) in
    let cut : take (length text - 1) text ≡ name = ap (λ n. take n text) size ∙ take-append_seam name (10 ∷ []) in
    ap (λ b. if b then take (length text - 2) text else (if ends_with nat_eq text (10 ∷ []) then take (length text - 1) text else text)) bare
    ∙ ap (λ b. if b then take (length text - 1) text else text) feed ∙ cut

-- one part, and what follows it
module _ (part : Part) (rest : List ℕ) (fits : IsSpellable part) where
  abbrev head : List ℕ
  head = codes "=== " ++ part.name ++ 10 ∷ []

  lines_are : full_lines (spelled part ++ rest) ≡ head ∷ (full_lines part.text ++ full_lines rest)
  lines_are =
      let whole : spelled part ++ rest ≡ (codes "=== " ++ part.name) ++ 10 ∷ (part.text ++ rest) = append_assoc (codes "=== " ++ part.name) (10 ∷ part.text) rest in
      ap full_lines whole ∙ line_first (codes "=== " ++ part.name) (part.text ++ rest) (λ e. cc, (λ e. cc, (λ e. cc, (λ e. cc, fits.name)))) ∙ ap (λ ls. head ∷ ls) (full_lines-append part.text rest fits.whole)

  pub front_none : front_of (spelled part ++ rest) ≡ []
  front_none = ap text_before lines_are

  pub parts_are : front_of rest ≡ [] → parts_of (spelled part ++ rest) ≡ part ∷ parts_of rest
  parts_are none =
      let text : text_before (full_lines part.text ++ full_lines rest) ≡ part.text = text_before-append (full_lines part.text) (full_lines rest) fits.plain ∙ ap₂ (λ a b. a ++ b) (text_before_plain (full_lines part.text) fits.plain ∙ joined_lines part.text) none ∙ append-nil part.text in
      let others : parts_in (full_lines part.text ++ full_lines rest) ≡ parts_of rest = parts_in-append (full_lines part.text) (full_lines rest) fits.plain in
      ap parts_in lines_are ∙ ap₂ (λ p ps. p ∷ ps) (ap₂ named (name_back part.name fits.name_end) text) others

pub spelled_back : (parts : List Part) → AllByRecursion IsSpellable parts → HasSpelled parts
spelled_back [] fits = (refl, refl)
spelled_back (part ∷ parts) fits =
    let rest = spelled_back parts fits.1 in
    (parts_are part (flat_map spelled parts) fits.0 rest.1 ∙ ap (λ ps. part ∷ ps) rest.0, front_none part (flat_map spelled parts) fits.0)
