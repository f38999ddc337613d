-- Parts of a text in which no line ends, and each octet is a character.
use Rattle.std.proofs.Common.{◌≡◌, ℕ, zero, suc, ◌+◌, ◌-◌, ◌<◌, ◌≤◌, Bool, true, false, List, length, take, drop, get_or, length-take, length-drop, refl, ap, subst, sym, ◌∙◌, arith}
use Rattle.std.specs.Prelude.{nat_lt, nat_le, ◌&&◌, ◌||◌, not, ◌==◌}
use Rattle.std.specs.List.{after_last, suffix_len}
use Rattle.std.proofs.lemmas.List.Sums.{count_by-le-length}
use Rattle.text_source.specs.Places.{is_line_end, begins_character}
use Rattle.text_source.specs.declared.source.Position.{Position}
use Rattle.text_listing.specs.Known.{IsPlace, ArePlain, is_plain}
use Rattle.text_listing.proofs.PlacesSteps.{Stands, after_other, first_counts, read_in_part}

first_holds : (a b : Bool) → (a && b) ≡ true → a ≡ true
first_holds true b h = refl
first_holds false b h = absurd (cc)

one_holds : (a b : Bool) → a ≡ true → (a || b) ≡ true
one_holds true b h = refl
one_holds false b h = absurd (cc)

no_end : (c : ℕ) → is_plain c ≡ true → c ≡ 10 → ⊥
no_end c h e = let wrong : false ≡ true = ap is_plain (sym e) ∙ h in absurd cc

begins : (c : ℕ) → is_plain c ≡ true → begins_character c ≡ true
begins c h = one_holds (nat_lt c 128) (nat_le 192 c) (first_holds (nat_lt c 128) (not (c == 10)) h)

-- each octet is one column further
walked : (octets : List ℕ) (from line column d : ℕ) → from + d ≤ length octets → ((j : ℕ) → j < d → is_plain (get_or octets (from + j) 0) ≡ true) → Stands octets from line column → Stands octets (from + d) line (column + d)
walked octets from line column zero le plain so =
    let there : from ≡ from + 0 = omega arith in
    let same : column ≡ column + 0 = omega arith in
    subst (λ (n : ℕ). Stands octets (from + 0) line n) same (subst (λ (n : ℕ). Stands octets n line column) there so)
walked octets from line column (suc d) le plain so =
    let c = get_or octets (from + d) 0 in
    let here = walked octets from line column d (omega (arith, le)) (λ j h. plain j (omega (arith, h))) so in
    let test = plain d (omega arith) in
    after_other octets (from + d) (from + suc d) c line (column + d) line (column + suc d) (omega (arith, le)) (omega arith) refl here (no_end c test) refl
    (first_counts (begins_character c) (column + d) (column + suc d) (begins c test) (omega arith)) (omega arith)

pub stands_at : (octets : List ℕ) (from : ℕ) (place : Position) → IsPlace octets from place → Stands octets from place.line place.column
stands_at octets from place so =
    let before = take from octets in
    let short = length-take from octets in
    let lines = count_by-le-length is_line_end before in
    let columns = count_by-le-length begins_character (after_last is_line_end before) in
    let line_part = length-drop (length before - suffix_len (λ x. not (is_line_end x)) before) before in
    record {
      line_is = so.line;
      column_is = so.column;
      short_line = omega (arith, so.line, lines, short);
      short_column = omega (arith, so.column, columns, line_part, short);
    }

-- further on the line, inside a part that ends no line
pub within : (octets : List ℕ) (from to n : ℕ) (place next : Position) → from + n ≤ length octets → from ≤ to → to ≤ from + n → IsPlace octets from place → ArePlain (take (from + n - from) (drop from octets))
    → next.line ≡ place.line → next.column ≡ place.column + (to - from) → IsPlace octets to next
within octets from to n place next le order most so plain line column =
    let part = take (from + n - from) (drop from octets) in
    let long : length part ≡ n = omega (arith, le, length-take (from + n - from) (drop from octets), length-drop from octets) in
    let each : (j : ℕ) → j < to - from → is_plain (get_or octets (from + j) 0) ≡ true = λ j h. ap is_plain (sym (read_in_part octets from (from + n) j (omega (arith, h, most)))) ∙ plain j (omega (arith, h, most, long)) in
    let there = walked octets from place.line place.column (to - from) (omega (arith, le, most, order)) each (stands_at octets from place so) in
    let same : from + (to - from) ≡ to = omega (arith, order) in
    subst (λ k. IsPlace octets k next) same (record { line = line ∙ there.line_is; column = column ∙ there.column_is })
