-- What is counted goes on one by one.
use Rattle.std.proofs.Common.{◌≡◌, List, [], ◌∷◌, ◌++◌, refl}
use Rattle.text_tree.specs.declared.counts.SectionsSoFar.{SectionsSoFar}
use Rattle.text_tree.specs.declared.counts.Tally.{Tally}
use Rattle.text_tree.specs.declared.tree.Section.{Section}
use Rattle.text_tree.specs.declared.tree.Part.{Part}
use Rattle.text_tree.specs.Rules.{most_constants, most_methods}
use Rattle.text_tree.specs.Counts.{with_section, unseen, seen_from, seen_in, with_part, tally_from, tally_of}

seen_on : (seen : SectionsSoFar) (xs : List Section) (x : Section) → seen_from seen (xs ++ x ∷ []) ≡ with_section x.kind (seen_from seen xs)
seen_on seen [] x = refl
seen_on seen (y ∷ ys) x = seen_on (with_section y.kind seen) ys x

pub seen_more : (xs : List Section) (x : Section) → seen_in (xs ++ x ∷ []) ≡ with_section x.kind (seen_in xs)
seen_more xs x = seen_on unseen xs x

tally_on : (tally : Tally) (xs : List Part) (x : Part) → tally_from tally (xs ++ x ∷ []) ≡ with_part x (tally_from tally xs)
tally_on tally [] x = refl
tally_on tally (y ∷ ys) x = tally_on (with_part y tally) ys x

pub tally_more : (xs : List Part) (x : Part) → tally_of (xs ++ x ∷ []) ≡ with_part x (tally_of xs)
tally_more xs x = tally_on (record { constants_left = most_constants; methods_left = most_methods }) xs x
