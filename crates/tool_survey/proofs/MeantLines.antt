-- Which lines of a text are meant, found octet by octet, and of which something is warned, line by line.
use Rattle.std.proofs.Common.{◌≡◌, ◌∙◌, ap, refl, sym, subst, ℕ, zero, suc, ◌+◌, ◌-◌, ◌<◌, ◌≤◌, Bool, true, false, List, [], ◌∷◌, ◌++◌, length, map, take, drop, get_or, append_assoc, arith, if◌then◌else◌}
use Rattle.std.specs.Prelude.{◌==◌, ◌||◌, flat_map, nat_eq, replicate, slice_get}
use Rattle.std.specs.List.{enumerate_from, list_any, slice_split, onto_first}
use Rattle.std.proofs.lemmas.Bool.{ne_eqb}
use Rattle.std.proofs.lemmas.List.{append-nil, drop-append-le, drop-take, drop_all, drop_more, length-drop, length-take-le, take_all, take_more}
use Rattle.tool_survey.specs.Meant.{Notes, at, is_meant, is_told, lines_of, number_of, unused_by, unused_line, unused_lines}

-- lines of which the first begins with this piece, too
abbrev pub onto : List ℕ → List (List ℕ) → List (List ℕ)
onto piece [] = piece ∷ []
onto piece (line ∷ lines) = (piece ++ line) ∷ lines

onto_more : (piece : List ℕ) (c : ℕ) (lines : List (List ℕ)) → onto piece (onto_first c lines) ≡ onto (piece ++ c ∷ []) lines
onto_more piece c [] = refl
onto_more piece c (line ∷ lines) = ap (λ l. l ∷ lines) (sym (append_assoc piece (c ∷ []) line))

onto_none : (text : List ℕ) → onto [] (lines_of text) ≡ lines_of text
onto_none [] = refl
onto_none (c ∷ cs) = by (c == 10) (lines_of cs)
  where
    by : (b : Bool) (lines : List (List ℕ)) → onto [] (if b then [] ∷ lines else onto_first c lines) ≡ (if b then [] ∷ lines else onto_first c lines)
    by true lines = refl
    by false [] = refl
    by false (line ∷ lines) = refl

-- those before, and those from the piece of this line on
abbrev pub SoFar : List ℕ → ℕ → ℕ → List Bool → Type 0
SoFar octets start place found = (start ≤ place) × (found ++ map is_meant (onto (drop start (take place octets)) (lines_of (drop place octets))) ≡ map is_meant (lines_of octets))

pub starts : (octets : List ℕ) (found : List Bool) → found ≡ [] → SoFar octets 0 0 found
starts octets found none = ((omega arith), ap (λ xs. xs ++ map is_meant (onto [] (lines_of octets))) none ∙ ap (map is_meant) (onto_none octets))

module _ (octets : List ℕ) (start place : ℕ) (found : List Bool) (within : place < length octets) where
  pub line_ends : get_or octets place 0 ≡ 10 → SoFar octets start place found → (piece : List ℕ) → piece ≡ drop start (take place octets) → SoFar octets (place + 1) (place + 1) (found ++ is_meant piece ∷ [])
  line_ends is so piece same = (
    (omega arith),
    append_assoc found (is_meant piece ∷ []) _
        ∙ ap (λ p. found ++ is_meant piece ∷ map is_meant (onto p (lines_of (drop (place + 1) octets)))) nothing
        ∙ ap (λ ls. found ++ is_meant piece ∷ map is_meant ls) (onto_none (drop (place + 1) octets))
        ∙ ap (λ p. found ++ is_meant p ∷ map is_meant (lines_of (drop (place + 1) octets))) (same ∙ sym (append-nil (drop start (take place octets))))
        ∙ ap (λ ls. found ++ map is_meant ls) (sym (ends (drop start (take place octets))))
        ∙ so.1,
  )
    where
      nothing : drop (place + 1) (take (place + 1) octets) ≡ []
      nothing = drop_all (place + 1) (take (place + 1) octets) (omega (arith, length-take-le (place + 1) octets (omega (arith, within))))

      ends : (p : List ℕ) → onto p (lines_of (drop place octets)) ≡ (p ++ []) ∷ lines_of (drop (place + 1) octets)
      ends p = ap (λ xs. onto p (lines_of xs)) (drop_more octets place 0 within) ∙ ap (λ c. onto p (lines_of (c ∷ drop (place + 1) octets))) is

  pub line_goes_on : (get_or octets place 0 ≡ 10 → ⊥) → SoFar octets start place found → SoFar octets start (place + 1) found
  line_goes_on isnt so = (
    (omega (arith, so.0)),
    ap (λ p. found ++ map is_meant (onto p (lines_of (drop (place + 1) octets)))) longer ∙ ap (λ ls. found ++ map is_meant ls) (sym (goes (drop start (take place octets)))) ∙ so.1,
  )
    where
      c : ℕ
      c = get_or octets place 0

      longer : drop start (take (place + 1) octets) ≡ drop start (take place octets) ++ c ∷ []
      longer = ap (drop start) (take_more octets place 0 within) ∙ drop-append-le start (take place octets) (c ∷ []) (omega (arith, so.0, length-take-le place octets (omega (arith, within))))

      other : (c == 10) ≡ false
      other = ne_eqb c 10 isnt

      goes : (p : List ℕ) → onto p (lines_of (drop place octets)) ≡ onto (p ++ c ∷ []) (lines_of (drop (place + 1) octets))
      goes p = ap (λ xs. onto p (lines_of xs)) (drop_more octets place 0 within)
          ∙ ap (λ b. onto p (if b then [] ∷ lines_of (drop (place + 1) octets) else onto_first c (lines_of (drop (place + 1) octets)))) other
          ∙ onto_more p c (lines_of (drop (place + 1) octets))

pub all_lines : (octets : List ℕ) (start place : ℕ) (found : List Bool) → length octets ≤ place → SoFar octets start place found → (piece : List ℕ) → piece ≡ drop start octets → found ++ is_meant piece ∷ [] ≡ map is_meant (lines_of octets)
all_lines octets start place found all so piece same =
    ap (λ p. found ++ is_meant p ∷ []) (same ∙ ap (drop start) (sym (take_all place octets all)) ∙ sym (append-nil (drop start (take place octets))))
    ∙ ap (λ xs. found ++ map is_meant (onto (drop start (take place octets)) (lines_of xs))) (sym (drop_all place octets all)) ∙ so.1

-- a piece as the code cuts it
pub piece_cut : (octets : List ℕ) (start place : ℕ) → start ≤ place → take (place - start) (drop start octets) ≡ drop start (take place octets)
piece_cut octets start place h = sym (drop-take start (place - start) octets) ∙ ap (λ n. drop start (take n octets)) (omega (arith, h))

pub rest_cut : (octets : List ℕ) (start : ℕ) → take (length octets - start) (drop start octets) ≡ drop start octets
rest_cut octets start = take_all (length octets - start) (drop start octets) (omega (arith, length-drop start octets))

-- ---- of which lines something is warned

-- marks that say of each line whether one of these begins with its number
pub record ToldSoFar (lines : List (List ℕ)) (count : ℕ) (used : List Bool) : Type 0 where
  pub count_is : length used ≡ count
  pub marks : (i : ℕ) → i < count → at used i ≡ is_told lines (i + 1)

no_mark : (count i : ℕ) → at (replicate count false) i ≡ false
no_mark zero i = refl
no_mark (suc count) zero = refl
no_mark (suc count) (suc i) = no_mark count i

length_replicate : (count : ℕ) → length (replicate count false) ≡ count
length_replicate zero = refl
length_replicate (suc count) = ap suc (length_replicate count)

pub told_none : (count : ℕ) (used : List Bool) → used ≡ replicate count false → ToldSoFar [] count used
told_none count used none = record {
  count_is = ap length none ∙ length_replicate count;
  marks = λ i h. ap (λ xs. at xs i) none ∙ no_mark count i;
}

or_more : (b all : Bool) (rest last : Bool) → rest ≡ (all || last) → (b || rest) ≡ ((b || all) || last)
or_more true all rest last e = refl
or_more false all rest last e = e

or_false : (b : Bool) → (b || false) ≡ b
or_false true = refl
or_false false = refl

any_more : (n : ℕ) (lines : List (List ℕ)) (line : List ℕ) → is_told (lines ++ line ∷ []) n ≡ (is_told lines n || nat_eq (number_of line) n)
any_more n [] line = or_false (nat_eq (number_of line) n)
any_more n (x ∷ xs) line = or_more (nat_eq (number_of x) n) (is_told xs n) (is_told (xs ++ line ∷ []) n) (nat_eq (number_of line) n) (any_more n xs line)

pub told_more : (lines : List (List ℕ)) (count : ℕ) (line : List ℕ) (old new : List Bool) → ToldSoFar lines count old → Notes line old new → ToldSoFar (lines ++ line ∷ []) count new
told_more lines count line old new so notes = record {
  count_is = notes.count ∙ so.count_is;
  marks = λ i h. notes.marks i (subst (λ n. i < n) (sym so.count_is) h) ∙ ap (λ b. b || nat_eq (number_of line) (i + 1)) (so.marks i h) ∙ sym (any_more (i + 1) lines line);
}

unused_from : (lines : List (List ℕ)) (used meant : List Bool) (k : ℕ) → ((i : ℕ) → k ≤ i → i < k + length meant → at used i ≡ is_told lines (i + 1))
    → flat_map (λ (p : ℕ × Bool). unused_line (at used p.0) p.0 p.1) (enumerate_from k meant) ≡ flat_map (λ (p : ℕ × Bool). unused_line (is_told lines (p.0 + 1)) p.0 p.1) (enumerate_from k meant)
unused_from lines used [] k same = refl
unused_from lines used (m ∷ ms) k same =
    ap (λ b. unused_line b k m ++ flat_map (λ (p : ℕ × Bool). unused_line (at used p.0) p.0 p.1) (enumerate_from (k + 1) ms)) (same k (omega arith) (omega arith))
    ∙ ap (λ ys. unused_line (is_told lines (k + 1)) k m ++ ys) (unused_from lines used ms (k + 1) (λ i low high. same i (omega (arith, low)) (omega (arith, high))))

pub unused_same : (lines : List (List ℕ)) (used meant : List Bool) → ToldSoFar lines (length meant) used → unused_by used meant ≡ unused_lines lines meant
unused_same lines used meant so = unused_from lines used meant 0 (λ i low high. so.marks i (omega (arith, high)))
