-- The mentions of one section among those of all formats.
use Rattle.std.proofs.Common.{◌≡◌, ◌∙◌, ap, ℕ, suc, ◌+◌, ◌-◌, Bool, true, List, [], ◌∷◌, ◌++◌, length, length-drop, take, drop, Some, arith, if◌then◌else◌}
use Rattle.std.specs.Prelude.{slice_get}
use Rattle.std.proofs.lemmas.List.{take_all}
use Rattle.std.proofs.Math.Seq.{drop-append_seam}
use Rattle.text_tree.specs.declared.tree.Item.{Item}
use Rattle.text_tree.specs.declared.tree.Section.{Section}
use Rattle.sem_profile.proofs.Loops.{dropped}
use Rattle.text_sections.specs.declared.mention.Mention.{Mention}
use Rattle.text_sections.specs.declared.mention.Group.TheVariants as groups
use Rattle.text_sections.specs.Mentions.{is_in, mentions_from, mentions_of, mentions_in}
use Rattle.text_sections.specs.Names.{own_mentions}

-- so many are counted, and the others are left
abbrev pub Counts : List Item → ℕ → ℕ → Type 0
Counts xs i count = (text : List ℕ) (section : ℕ) → count + length (mentions_from text section i (drop i xs)) ≡ length (mentions_of text section xs)

pub of_format : (text : List ℕ) (place : ℕ) (s : Section) (own : List Mention) → is_in groups.Formats s.kind ≡ true → own ≡ own_mentions text place s → own ≡ mentions_of text place s.items
of_format text place s own is so = so ∙ ap (λ (b : Bool). if b then mentions_of text place s.items else []) is

pub at_place : (sections : List Section) (place : ℕ) (s : Section) → slice_get sections place ≡ Some s → drop place sections ≡ s ∷ drop (place + 1) sections
at_place sections place s here = let next : suc place ≡ place + 1 = omega arith in dropped sections place s here ∙ ap (λ (n : ℕ). s ∷ drop n sections) next

-- the mentions of a section, and those of the sections after it
pub parted : (text : List ℕ) (sections : List Section) (place : ℕ) (s : Section) (rest : List Mention) → drop place sections ≡ s ∷ drop (place + 1) sections → rest ≡ mentions_in text groups.Formats place (drop place sections)
    → rest ≡ own_mentions text place s ++ mentions_in text groups.Formats (place + 1) (drop (place + 1) sections)
parted text sections place s rest here so = so ∙ ap (λ (ss : List Section). mentions_in text groups.Formats place ss) here

pub rest_of : (own mine more rest : List Mention) → own ≡ mine → rest ≡ mine ++ more → take (length rest - length own) (drop (length own) rest) ≡ more
rest_of own mine more rest same so =
    let long : length own ≡ length mine = ap (λ (xs : List Mention). length xs) same in
    take_all (length rest - length own) (drop (length own) rest) (omega (arith, length-drop (length own) rest))
    ∙ ap (λ (n : ℕ). drop n rest) long ∙ ap (λ (xs : List Mention). drop (length mine) xs) so ∙ drop-append_seam mine more
