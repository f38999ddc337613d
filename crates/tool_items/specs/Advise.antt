-- What `advise` prints (docs/FORMATS.md). Of its words the first line is claimed; the others are tested.
use Rattle.std.specs.Prelude.{◌≡◌, ℕ, ◌+◌, List, [], ◌∷◌, ◌++◌, codes, decimal, option_map, unwrap_or}
use Rattle.sem_profile.specs.declared.profile.Field.{Field}
use Rattle.sem_profile.specs.declared.profile.Format.{Format}
use Rattle.sem_profile.specs.declared.profile.Method.{Method}
use Rattle.sem_profile.specs.declared.profile.Part.{Part}
use Rattle.sem_profile.specs.declared.profile.Part.TheVariants.{Header, Control, Local}
use Rattle.tool_names.specs.Names.{format_at}

-- how many fields stand before the first local one
abbrev pub with_part : Part → ℕ → ℕ
with_part Header n = 1 + n
with_part Control n = 1 + n
with_part Local n = 0

abbrev pub shared : List Field → ℕ
shared [] = 0
shared (f ∷ fs) = with_part f.declared.part (shared fs)

-- of the first format of the top; all have the same there
abbrev pub shared_fields : List Method → ℕ → ℕ
shared_fields methods top = unwrap_or (option_map (λ (f : Format). shared f.fields) (format_at methods top 0)) 0

-- how many items there are, and how many may be lost in a row
abbrev pub head_line : ℕ → ℕ → List ℕ
head_line items lost = codes "items " ++ decimal items ++ codes " lost " ++ decimal lost

-- a text goes on from another
abbrev pub FollowsOn : List ℕ → List ℕ → Type 0
FollowsOn old new = (more : List ℕ) × (new ≡ old ++ more)

-- the text of so many items begins with that line
abbrev pub IsAdviceText : ℕ → ℕ → List ℕ → Type 0
IsAdviceText items lost text = FollowsOn (head_line items lost) text
