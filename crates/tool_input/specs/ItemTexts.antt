-- The text of an item.
use Rattle.std.specs.Prelude.{◌≡◌, ℕ, List, [], ◌∷◌, ◌++◌, codes}
use Rattle.sem_bits.specs.Text.{IsText}
use Rattle.sem_filling.specs.declared.filling.Item.{Item}
use Rattle.sem_filling.specs.declared.filling.AskedValue.{AskedValue}

-- the value of a field: a blank, its name, an equals sign and the text of its bits
abbrev pub IsValueText : AskedValue → List ℕ → Type 0
IsValueText v text = (spelled : List ℕ) × IsText spelled v.bits × (text ≡ codes " " ++ v.name ++ codes "=" ++ spelled)

abbrev pub AreValuesText : List AskedValue → List ℕ → Type 0
AreValuesText [] text = text ≡ []
AreValuesText (v ∷ vs) text = (word : List ℕ) × (rest : List ℕ) × IsValueText v word × AreValuesText vs rest × (text ≡ word ++ rest)

-- an item: the text of its header, then its values
abbrev pub IsItemText : Item → List ℕ → Type 0
IsItemText it text = (front : List ℕ) × (values : List ℕ) × IsText front it.header × AreValuesText it.asked values × (text ≡ front ++ values)

-- ---- a text that grows

-- the text goes on by one of which this is so
abbrev pub HasMore : (List ℕ → Type 0) → List ℕ → List ℕ → Type 0
HasMore P before after = (text : List ℕ) × P text × (after ≡ before ++ text)
