-- Where a walk that writes stands, and the fillings that it may write (docs/DEFINITIONS.md, The steps of a writing walk).
use Rattle.std.specs.Prelude.{◌≡◌, ℕ, ℤ, ◌+◌, ◌<◌, ◌≤◌, Bool, true, false, List, [], ◌++◌, length, take, drop, filter, slice_get, Some}
use Rattle.sem_bits.specs.Number.{num}
use Rattle.sem_expr.specs.declared.expr.Expr.{Expr}
use Rattle.sem_expr.specs.declared.expr.Side.TheVariants.{Uncompressed, Compressed}
use Rattle.sem_profile.specs.declared.profile.Field.{Field}
use Rattle.sem_profile.specs.declared.profile.Format.{Format}
use Rattle.sem_profile.specs.declared.profile.Method.{Method}
use Rattle.sem_profile.specs.declared.profile.MethodSizes.{MethodSizes}
use Rattle.sem_profile.specs.Outcome.{AreSizes}
use Rattle.sem_filling.specs.declared.filling.Filling.{Filling, out-Filling}
use Rattle.sem_filling.specs.declared.filling.Item.{Item}
use Rattle.sem_filling.specs.declared.filling.AskedValue.{AskedValue}
use Rattle.sem_filling.specs.Fillings.{is_header, header, header_bits, packed, level, asked_values, inner_at}
use Rattle.sem_filling.specs.Entries.{Path, below}
use Rattle.sem_filling.specs.Fits.{Context, Fits, format_at, vals}
use Rattle.cert_types.specs.declared.certificate.Step.{Step}
use Rattle.cert_types.specs.declared.certificate.Version.{Version}
use Rattle.cert_types.specs.Kept.{Entries}
use Rattle.cert_rules.specs.declared.slots.Learnt.{Learnt}
use Rattle.cert_rules.specs.declared.slots.Learnt.TheVariants.{Nothing, Length, Whole}
use Rattle.cert_rules.specs.declared.slots.Slot.{Slot}
use Rattle.cert_rules.specs.Counts.{AreCounts}
use Rattle.cert_rules.specs.Reading.{Spot, known_numbers}
use Rattle.cert_rules.specs.Slots.{HasSlots, Grows, learnt_at, slot_sides}
use Rattle.cert_rules.specs.Valid.{Valid}
use Rattle.cert_rules.specs.Views.{view, side_at}
use Rattle.cert_candidates.specs.declared.digits.Digits.{Digits}
use Rattle.cert_candidates.specs.Codes.{number}
use Rattle.cert_candidates.specs.Digits.{HasRead, InSpan}
use Rattle.cert_candidates.specs.Reading.{IsReading}

-- ---- where a walk stands

-- the method, the values of its arguments, its path, the bits that its header takes from, and the values of its asked fields
pub record Site : Type 0 where
  pub method : ℕ
  pub args : List ℤ
  pub path : Path
  pub source : List Bool
  pub asked : List AskedValue

-- the filling fits there, its header is at the front of the source, and its asked fields have these values
pub record Begins (methods : List Method) (ctx : Context) (site : Site) (f : Filling) : Type 0 where
  pub fits : Fits methods ctx site.method site.args site.path f
  pub rest : List Bool
  pub in_front : site.source ≡ header f ++ rest
  pub asked_are : asked_values (level f) ≡ site.asked

-- the top, for an item
abbrev pub top_site : ℕ → Item → Site
top_site top it = record { method = top; args = []; path = []; source = it.header; asked = it.asked }

-- For the steps that both directions have: what begins the source is ahead here, as nothing is said of the packed bits.
abbrev pub spot_at : Site → Spot
spot_at site = record { method = site.method; args = site.args; path = site.path; bits = [] }

-- what a walk rests on: the bounds of the methods, a valid certificate, and the numbers of its candidates
pub record IsChecked (methods : List Method) (table : List MethodSizes) (top : ℕ) (cert : Entries) (counts : List ℕ) : Type 0 where
  pub are_sizes : AreSizes methods table
  pub version : Version
  pub valid : Valid methods table top (record { version = version; methods = cert })
  pub are_counts : AreCounts methods cert counts

-- ---- where it stands in a plan

-- the filling begins the source, and its number is one of those that share the digits which were read
pub record IsOpen (methods : List Method) (cert : Entries) (counts : List ℕ) (ctx : Context) (site : Site) (format : Format) (base : ℕ) (steps : List Step) (f : Filling) : Type 0 where
  pub begins : Begins methods ctx site f
  pub within : InSpan methods cert counts site.method format base steps f

-- what has what these slots know, or slots that grew from them, has the digits that were read: the chosen bits and the fillings inside tell them
abbrev pub SlotsTell : List Method → Entries → List ℕ → ℕ → ℕ → Format → ℕ → List Step → List Slot → Type 0
SlotsTell methods cert counts k n format base steps slots =
    (later : List Slot) (f : Filling) → Grows slots later → (out-Filling f).format ≡ n → HasSlots f later → HasRead methods cert counts k n format base steps f

-- Of the number c, of the format n, the digits are read up to these steps; each filling that is open has what the slots know.
pub record IsWriting (methods : List Method) (cert : Entries) (counts : List ℕ) (ctx : Context) (site : Site) (n : ℕ) (format : Format) (steps : List Step) (c : ℕ) (place : Digits) (slots : List Slot) : Type 0 where
  pub at : format_at methods site.method n ≡ Some format
  pub count : length slots ≡ length format.fields
  pub reading : IsReading methods cert counts site.method n format steps c place
  pub have : (f : Filling) → IsOpen methods cert counts ctx site format reading.base steps f → HasSlots f slots
  pub tell : SlotsTell methods cert counts site.method n format reading.base steps slots

-- ---- what steps find

-- where a header field begins: the lengths that are known of the header fields before it
abbrev pub header_offset : Format → List Slot → ℕ → ℕ
header_offset format slots i = length (header_bits (take i (slot_sides format.fields slots)))

-- what is taken: the next bits of the source, which has as many
pub record TakenIs (format : Format) (slots : List Slot) (site : Site) (i n : ℕ) (f : Filling) : Type 0 where
  pub enough : header_offset format slots i + n ≤ length site.source
  pub taken : side_at (view f) i Uncompressed ≡ take n (drop (header_offset format slots i) site.source)

-- the bits of a side, none where they are not known
abbrev pub known_bits : Learnt → List Bool
known_bits Nothing = []
known_bits (Length n) = []
known_bits (Whole bits) = bits

-- what a called field takes from: a header field from the source at its offset, another from its own bits
abbrev pub source_for : Bool → List Bool → List Bool → List Bool
source_for true next own = next
source_for false next own = own

-- where the called method stands; it asks nothing
abbrev pub inner_site : Format → List Slot → Site → ℕ → Field → ℕ → List ℤ → Site
inner_site format slots site i d j args = record {
  method = j;
  args = args;
  path = below site.path d.declared.name;
  source = source_for (is_header d.declared.part) (drop (header_offset format slots i) site.source) (known_bits (learnt_at slots i Uncompressed));
  asked = [];
}

-- no format of the method has an asked field
abbrev pub AsksNothing : List Method → ℕ → Type 0
AsksNothing methods k = (n i : ℕ) (format : Format) (d : Field) → format_at methods k n ≡ Some format → slice_get format.fields i ≡ Some d → d.declared.asked ≡ false

-- what a call gives: the filling inside the field, which begins the source of the called method, and of a field that is no header field uses it up
pub record InnerIs (methods : List Method) (ctx : Context) (site : Site) (format : Format) (slots : List Slot) (i : ℕ) (d : Field) (j : ℕ) (es : List Expr) (f : Filling) : Type 0 where
  pub args : List ℤ
  pub args_are : vals (known_numbers format slots site.args) es ≡ Some args
  pub inner : Filling
  pub inner_is : inner_at f i ≡ Some inner
  pub uncompressed : side_at (view f) i Uncompressed ≡ header inner
  pub compressed : side_at (view f) i Compressed ≡ packed inner
  pub begins : Begins methods ctx (inner_site format slots site i d j args) inner
  pub used_up : is_header d.declared.part ≡ false → (inner_site format slots site i d j args).source ≡ header inner

-- the bits have that length and are that number
pub record IsChosen (n digit : ℕ) (bits : List Bool) : Type 0 where
  pub as_long : length bits ≡ n
  pub number_is : num bits ≡ digit

-- how many asked fields stand before a field
abbrev pub asked_before : Format → ℕ → ℕ
asked_before format i = length (filter (λ (d : Field). d.declared.asked) (take i format.fields))

-- ---- what a walk owes

-- no filling that begins the source has one of so many numbers from c on
abbrev pub NoneNumbered : List Method → Entries → List ℕ → Context → Site → ℕ → ℕ → Type 0
NoneNumbered methods cert counts ctx site c skipped =
    (f : Filling) → Begins methods ctx site f → c ≤ number methods cert counts f site.method → number methods cert counts f site.method < c + skipped → ⊥

-- the filling has the number c, and no other that begins the source has it
pub record IsNumbered (methods : List Method) (cert : Entries) (counts : List ℕ) (ctx : Context) (site : Site) (c : ℕ) (g : Filling) : Type 0 where
  pub number_is : number methods cert counts g site.method ≡ c
  pub alone : (f : Filling) → Begins methods ctx site f → number methods cert counts f site.method ≡ c → f ≡ g
