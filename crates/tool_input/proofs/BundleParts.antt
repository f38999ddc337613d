-- The parts of the lines.
use Rattle.std.proofs.Common.{◌≡◌, ◌∙◌, ℕ, ◌+◌, ◌<◌, ◌≤◌, true, false, List, [], ◌∷◌, ◌++◌, length, take, drop, if◌then◌else◌, refl, sym, ap, arith, append_assoc, length-drop, ◌-◌, Option, None, Some}
use Rattle.std.proofs.lemmas.List.{drop-drop, take_all}
use Rattle.std.proofs.Math.Seq.{take-add}
use Rattle.std.specs.Str.{bytes_eq}
use Rattle.tool_input.specs.Bundle.{Part, full_lines, is_heading, name_in, named, parts_in, text_before, text_named}

-- what is there first, and else the second
abbrev pub first_there : Option (List ℕ) → Option (List ℕ) → Option (List ℕ)
first_there None second = second
first_there (Some text) second = Some text

-- the text by a name, where one part more stands last
pub text_named-push : (name : List ℕ) (parts : List Part) (part : Part) → text_named name (parts ++ part ∷ []) ≡ first_there (text_named name parts) (if bytes_eq part.name name then Some part.text else None)
text_named-push name [] part = refl
text_named-push name (first ∷ parts) part =
    elim (bytes_eq first.name name) as (λ b. (if b then Some first.text else text_named name (parts ++ part ∷ [])) ≡ first_there (if b then Some first.text else text_named name parts) (if bytes_eq part.name name then Some part.text else None)) [ true ↦ refl | false ↦ text_named-push name parts part ]

first_there-None : (o : Option (List ℕ)) → first_there o None ≡ o
first_there-None None = refl
first_there-None (Some t) = refl

-- a part of another name changes nothing
pub text_kept : (name : List ℕ) (parts : List Part) (part : Part) (text : Option (List ℕ)) → bytes_eq part.name name ≡ false → text ≡ text_named name parts → text ≡ text_named name (parts ++ part ∷ [])
text_kept name parts part text other e =
    e ∙ sym (text_named-push name parts part ∙ ap (λ b. first_there (text_named name parts) (if b then Some part.text else None)) other ∙ first_there-None (text_named name parts))

-- a part of this name is found
pub text_put : (name : List ℕ) (parts : List Part) (part : Part) → bytes_eq part.name name ≡ true → None ≡ text_named name parts → Some part.text ≡ text_named name (parts ++ part ∷ [])
text_put name parts part same absent =
    sym (text_named-push name parts part ∙ ap (λ b. first_there (text_named name parts) (if b then Some part.text else None)) same ∙ ap (λ o. first_there o (Some part.text)) (sym absent))

-- a line that begins the parts is a heading
pub heading_first : (line : List ℕ) (lines : List (List ℕ)) → 0 < length line → text_before (line ∷ lines) ≡ [] → is_heading line ≡ true
heading_first [] lines some none = absurd (omega arith)
heading_first (x ∷ line) lines some none =
    elim (is_heading (x ∷ line)) as (λ b. (if b then [] else (x ∷ line) ++ text_before lines) ≡ [] → b ≡ true) [ true ↦ λ e. refl | false ↦ λ e. cc ] none

-- what follows a place
pub tail_is : (at : ℕ) (input : List ℕ) → take (length input - at) (drop at input) ≡ drop at input
tail_is at input = take_all (length input - at) (drop at input) (omega (arith, length-drop at input))

-- one line more before the first heading
pub cut_more : (input : List ℕ) (at : ℕ) (rest line : List ℕ) → rest ≡ drop at input → at ≤ length input → line ≡ take (length line) rest → length line ≤ length rest → full_lines rest ≡ line ∷ full_lines (drop (length line) rest) → is_heading line ≡ false
    → (at + length line ≤ length input)
    × (take (at + length line) input ++ text_before (full_lines (drop (at + length line) input)) ≡ take at input ++ text_before (full_lines (drop at input)))
    × (parts_in (full_lines (drop (at + length line) input)) ≡ parts_in (full_lines (drop at input)))
cut_more input at rest line is within front short lines plain =
    let n = length line in
    let size : length rest ≡ length input - at = ap length is ∙ length-drop at input in
    let fits : at + n ≤ length input = omega arith in
    let after : drop (at + n) input ≡ drop n rest = sym (drop-drop n at input) ∙ ap (drop n) (sym is) in
    let before : take (at + n) input ≡ take at input ++ line = take-add at n input ∙ ap (λ r. take at input ++ take n r) (sym is) ∙ ap (λ r. take at input ++ r) (sym front) in
    let text : text_before (full_lines rest) ≡ line ++ text_before (full_lines (drop n rest)) = ap text_before lines ∙ ap (λ b. if b then [] else line ++ text_before (full_lines (drop n rest))) plain in
    let parts : parts_in (full_lines rest) ≡ parts_in (full_lines (drop n rest)) = ap parts_in lines ∙ ap (λ b. if b then named (name_in line) (text_before (full_lines (drop n rest))) ∷ parts_in (full_lines (drop n rest)) else parts_in (full_lines (drop n rest))) plain in (
      fits,
      rw (before, after) (append_assoc (take at input) line (text_before (full_lines (drop n rest))) ∙ ap (λ t. take at input ++ t) (sym text) ∙ ap (λ r. take at input ++ text_before (full_lines r)) is),
      ap (λ r. parts_in (full_lines r)) after ∙ sym parts ∙ ap (λ r. parts_in (full_lines r)) is,
    )

-- what begins with a heading is a part, and then others
pub first_part : (rest heading tail text others name : List ℕ) → tail ≡ drop (length heading) rest → 0 < length heading → full_lines rest ≡ heading ∷ full_lines (drop (length heading) rest) → text_before (full_lines rest) ≡ []
    → text ≡ text_before (full_lines tail) → parts_in (full_lines others) ≡ parts_in (full_lines tail) → name ≡ name_in heading
    → parts_in (full_lines rest) ≡ named name text ∷ parts_in (full_lines others)
first_part rest heading tail text others name is some line begins text_is parts_is name_is =
    let lines : full_lines rest ≡ heading ∷ full_lines tail = line ∙ ap (λ t. heading ∷ full_lines t) (sym is) in
    let head : is_heading heading ≡ true = heading_first heading (full_lines tail) some (ap text_before (sym lines) ∙ begins) in
    let parts : parts_in (full_lines rest) ≡ named (name_in heading) (text_before (full_lines tail)) ∷ parts_in (full_lines tail) = ap parts_in lines ∙ ap (λ b. if b then named (name_in heading) (text_before (full_lines tail)) ∷ parts_in (full_lines tail) else parts_in (full_lines tail)) head in
    parts ∙ ap (λ n. named n (text_before (full_lines tail)) ∷ parts_in (full_lines tail)) (sym name_is) ∙ ap (λ t. named name t ∷ parts_in (full_lines tail)) (sym text_is) ∙ ap (λ ps. named name text ∷ ps) (sym parts_is)
