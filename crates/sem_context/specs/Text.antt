-- The text of a context: for each entry a line `PATH BITS`.
use Rattle.std.specs.Prelude.{◌≡◌, ℕ, ◌≤◌, Bool, List, [], ◌∷◌, ◌++◌, length, IsSome}
use Rattle.std.specs.List.{AllZip, AllByRecursion}
use Rattle.sem_bits.specs.Text.{IsText, ReadsAs}
use Rattle.sem_context.specs.Entries.{Entries, AreDistinct, bits_at}
use Rattle.sem_context.specs.Path.{IsPath}
use Rattle.sem_context.specs.declared.text.ContextError.{ContextError}
use Rattle.sem_context.specs.declared.text.ContextError.TheVariants.{BadLine, OutOfMemory}

-- The text of entries: each one's path, a space, the text of its bits, and a line feed.
abbrev pub IsContextText : Entries → List ℕ → Type 0
IsContextText [] text = text ≡ []
IsContextText (e ∷ es) text =
    (spelled : List ℕ) × (rest : List ℕ) × IsText spelled e.1 × IsContextText es rest × (text ≡ e.0 ++ (32 ∷ spelled ++ (10 ∷ rest)))

-- The line is read as this entry: its path, a space, and a text of its bits, which are at most 65,536.
pub record IsEntryLine (line : List ℕ) (e : List ℕ × List Bool) : Type 0 where
  pub is_path : IsPath e.0
  pub spelled : List ℕ
  pub parts : line ≡ e.0 ++ 32 ∷ spelled
  pub reads : ReadsAs spelled e.1
  pub short : length e.1 ≤ 65536

-- The lines, each with its number, are read one by one as these entries, whose paths are distinct.
pub record IsReading (numbered : List (ℕ × List ℕ)) (es : Entries) : Type 0 where
  pub each : AllZip (λ l e. IsEntryLine l.1 e) numbered es
  pub distinct : AreDistinct es

-- The line of that number is read as no entry, or repeats the path of one before it; those before it have a reading.
pub record IsFirstFault (numbered : List (ℕ × List ℕ)) (number : ℕ) : Type 0 where
  pub before : List (ℕ × List ℕ)
  pub line : List ℕ
  pub after : List (ℕ × List ℕ)
  pub cut : numbered ≡ before ++ (number, line) ∷ after
  pub es : Entries
  pub so_far : IsReading before es
  pub unfit : (e : List ℕ × List Bool) → IsEntryLine line e → IsSome (bits_at es e.0)

-- what an error of `read_text` says of the lines
abbrev pub Blames : ContextError → List (ℕ × List ℕ) → Type 0
Blames (BadLine number) numbered = IsFirstFault numbered number
Blames OutOfMemory numbered = Unit {0}

-- the new text is the old one and the line of an entry
abbrev pub AddsLine : List ℕ → List ℕ × List Bool → List ℕ → Type 0
AddsLine old e new = (spelled : List ℕ) × IsText spelled e.1 × (new ≡ old ++ e.0 ++ (32 ∷ spelled ++ (10 ∷ [])))

-- each path is names joined by dots, and no entry has more bits than a text may have
abbrev pub AreReadable : Entries → Type 0
AreReadable es = AllByRecursion (λ e. IsPath e.0 × (length e.1 ≤ 65536)) es
