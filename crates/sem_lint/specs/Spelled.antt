-- Names that may be misspelled (docs/DEFINITIONS.md, What lint tells).
use Rattle.std.specs.Prelude.{◌≡◌, ◌≢◌, ℕ, ◌&&◌, ◌||◌, Bool, true, false, not, nat_eq, nat_le, List, [], ◌∷◌, length, flat_map, Option, Some, None, suc, if◌then◌else◌}
use Rattle.std.specs.Char.{is_ascii_alphabetic}
use Rattle.std.specs.List.{enumerate_from, list_all, list_any}
use Rattle.std.specs.Str.{bytes_eq}
use Rattle.sem_profile.specs.declared.profile.Field.{Field}
use Rattle.sem_profile.specs.declared.profile.Format.{Format}
use Rattle.sem_profile.specs.declared.profile.Method.{Method}
use Rattle.sem_profile.specs.declared.profile.Part.{Part}
use Rattle.sem_profile.specs.declared.profile.Part.TheVariants as part
use Rattle.sem_lint.specs.declared.spelled.Misspelled.{Misspelled}
use Rattle.sem_lint.specs.declared.spelled.Owner.{Owner}

-- ---- one letter apart

-- the longer text is the shorter one with a letter in front
abbrev pub has_letter_more : List ℕ → List ℕ → Bool
has_letter_more short [] = false
has_letter_more short (x ∷ long) = is_ascii_alphabetic x && bytes_eq long short

-- both begin with a letter, and go on alike
abbrev pub have_other_letter : List ℕ → List ℕ → Bool
have_other_letter (x ∷ one) (y ∷ other) = is_ascii_alphabetic x && (is_ascii_alphabetic y && bytes_eq one other)
have_other_letter _ _ = false

-- one has another letter than the other, one more, or one less
abbrev pub differ_once : List ℕ → List ℕ → Bool
differ_once one other = have_other_letter one other || (has_letter_more one other || has_letter_more other one)

abbrev pub begin_alike : List ℕ → List ℕ → Bool
begin_alike (x ∷ one) (y ∷ other) = nat_eq x y
begin_alike _ _ = false

-- so it is behind what both begin with
abbrev pub is_near : List ℕ → List ℕ → Bool
is_near (x ∷ one) (y ∷ other) = if nat_eq x y then is_near one other else differ_once (x ∷ one) (y ∷ other)
is_near one other = differ_once one other

-- What that says without a way through the texts: a letter is another one, is missing, or is one too many.
pub data AreNear : List ℕ → List ℕ → Type 0 where
  another : (x y : ℕ) (rest : List ℕ) → is_ascii_alphabetic x ≡ true → is_ascii_alphabetic y ≡ true → x ≢ y → AreNear (x ∷ rest) (y ∷ rest)
  missing : (x : ℕ) (rest : List ℕ) → is_ascii_alphabetic x ≡ true → AreNear rest (x ∷ rest)
  too_many : (x : ℕ) (rest : List ℕ) → is_ascii_alphabetic x ≡ true → AreNear (x ∷ rest) rest
  further : (x : ℕ) {one other : List ℕ} → AreNear one other → AreNear (x ∷ one) (x ∷ other)

abbrev pub NearIsOneLetter : Type 0
NearIsOneLetter = (one other : List ℕ) → (is_near one other ≡ true → AreNear one other) × (AreNear one other → is_near one other ≡ true)

-- ---- names of fields

abbrev pub is_local : Part → Bool
is_local part.Local = true
is_local _ = false

abbrev pub is_header : Part → Bool
is_header part.Header = true
is_header _ = false

-- a name of three octets or more
abbrev pub is_long : List ℕ → Bool
is_long name = nat_le 3 (length name)

-- a field of a header that may be meant by the name
abbrev pub may_be_meant : List ℕ → Field → Bool
may_be_meant name d = is_header d.declared.part && (is_long name && (is_long d.declared.name && is_near name d.declared.name))

-- the place of the first one, counted from i
abbrev pub meant_from : ℕ → List ℕ → List Field → Option ℕ
meant_from i name [] = None
meant_from i name (d ∷ ds) = if may_be_meant name d then Some i else meant_from (suc i) name ds

-- a format has a field of this name
abbrev pub has_field : List ℕ → Format → Bool
has_field name f = list_any (λ (d : Field). bytes_eq d.declared.name name) f.fields

-- no format but that of the number n has one
abbrev pub is_alone : List Format → ℕ → List ℕ → Bool
is_alone formats n name = list_all (λ (f : ℕ × Format). nat_eq f.0 n || not (has_field name f.1)) (enumerate_from 0 formats)

-- ---- which formats have a name

-- the field's name is another one, or its format has the number n
abbrev pub lets_alone : ℕ → ℕ → List ℕ → Field → Bool
lets_alone i n name d = nat_eq i n || not (bytes_eq d.declared.name name)

-- no format but that of the number n has a field of the name of which that is known
abbrev pub alone_by : Option Owner → ℕ → Bool
alone_by (Some o) n = nat_eq o.first n && not o.is_shared
alone_by None n = true

-- what is known where the format n has one, too
abbrev pub owner_with : Option Owner → ℕ → Owner
owner_with (Some o) n = record { first = o.first; is_shared = o.is_shared || not (nat_eq o.first n) }
owner_with None n = record { first = n; is_shared = false }

-- that is found of each name
abbrev pub AreOwners : List Format → (List ℕ → Option Owner) → Type 0
AreOwners formats find = (name : List ℕ) (n : ℕ) → alone_by (find name) n ≡ is_alone formats n name

-- ---- what is told

abbrev pub told_of : ℕ → ℕ → ℕ → Option ℕ → List Misspelled
told_of k n i (Some j) = record { method = k; format = n; field = i; meant = j } ∷ []
told_of k n i None = []

-- the field i of the format n of the method k, where COMPRESSED of that format alone declares its name, and a field of the header may be meant
abbrev pub misspelled_field : ℕ → List Format → ℕ → Format → ℕ → Field → List Misspelled
misspelled_field k formats n f i d =
    if is_local d.declared.part && is_alone formats n d.declared.name then told_of k n i (meant_from 0 d.declared.name f.fields) else []

abbrev pub misspelled_format : ℕ → List Format → ℕ → Format → List Misspelled
misspelled_format k formats n f = flat_map (λ (d : ℕ × Field). misspelled_field k formats n f d.0 d.1) (enumerate_from 0 f.fields)

abbrev pub misspelled_method : ℕ → Method → List Misspelled
misspelled_method k m = flat_map (λ (f : ℕ × Format). misspelled_format k m.formats f.0 f.1) (enumerate_from 0 m.formats)

-- all names that may be misspelled, in the order of the text
abbrev pub misspelled_names : List Method → List Misspelled
misspelled_names methods = flat_map (λ (m : ℕ × Method). misspelled_method m.0 m.1) (enumerate_from 0 methods)
