-- The values of asked fields as octets: each in the octets that its bits fill, one after another.
use Rattle.std.specs.Prelude.{◌≡◌, ◌<◌, ◌≤◌, ◌^◌, ℕ, pos, List, [], ◌∷◌, ◌++◌, length, take}
use Rattle.sem_bits.specs.Octets.{Holds}
use Rattle.sem_filling.specs.declared.filling.AskedValue.{AskedValue}
use Rattle.sem_profile.specs.declared.asked.AskedField.{AskedField}

-- the octets hold a value of the field, of its name and length
pub record IsValue (f : AskedField) (octets : List ℕ) (v : AskedValue) : Type 0 where
  pub name_is : v.name ≡ f.name
  pub length_is : f.length ≡ pos (length v.bits)
  pub few : length v.bits < 2 ^ 31
  pub holds : Holds octets v.bits

-- the octets hold a value of each field, in their order, and nothing else
pub data AreValues : List AskedField → List ℕ → List AskedValue → Type 0 where
  no_values : AreValues [] [] []
  values_on : {f : AskedField} {fs : List AskedField} {here rest : List ℕ} {v : AskedValue} {vs : List AskedValue} →
      IsValue f here v → AreValues fs rest vs → AreValues (f ∷ fs) (here ++ rest) (v ∷ vs)

-- the octets hold the values, in their order, and nothing else
pub data Spells : List AskedValue → List ℕ → Type 0 where
  spells_none : Spells [] []
  spells_on : {v : AskedValue} {vs : List AskedValue} {here rest : List ℕ} → Holds here v.bits → Spells vs rest → Spells (v ∷ vs) (here ++ rest)

-- a value of the field is at the front of the octets, so many of them
pub record IsValueAt (f : AskedField) (octets : List ℕ) (v : AskedValue) (n : ℕ) : Type 0 where
  pub within : n ≤ length octets
  pub value : IsValue f (take n octets) v

-- none is there
abbrev pub LacksValue : AskedField → List ℕ → Type 0
LacksValue f octets = (here rest : List ℕ) (v : AskedValue) → octets ≡ here ++ rest → IsValue f here v → ⊥
