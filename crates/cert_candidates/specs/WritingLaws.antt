-- What each step of a walk that writes finds, and how a walk goes on, fails and ends.
use Rattle.std.specs.Prelude.{◌≡◌, ℕ, ℤ, ◌+◌, ◌≤◌, Bool, true, false, List, [], ◌∷◌, ◌++◌, length, slice_get, Some, option_and_then}
use Rattle.sem_bits.specs.Number.{num}
use Rattle.sem_expr.specs.declared.expr.Expr.{Expr}
use Rattle.sem_expr.specs.declared.expr.Side.TheVariants.{Uncompressed, Compressed}
use Rattle.sem_profile.specs.declared.profile.Encoding.TheVariants as encoding
use Rattle.sem_profile.specs.declared.profile.Field.{Field}
use Rattle.sem_profile.specs.declared.profile.Format.{Format}
use Rattle.sem_profile.specs.declared.profile.Method.{Method}
use Rattle.sem_profile.specs.declared.profile.MethodSizes.{MethodSizes}
use Rattle.sem_profile.specs.Outcome.{AreSizes}
use Rattle.sem_filling.specs.declared.filling.Filling.{Filling}
use Rattle.sem_filling.specs.declared.filling.Item.{Item}
use Rattle.sem_filling.specs.Fillings.{is_header, header, item, inner_at, packed}
use Rattle.sem_filling.specs.Fits.{Context, format_at, vals}
use Rattle.sem_filling.specs.Fronts.{FitsTop}
use Rattle.cert_types.specs.declared.certificate.Direction.TheVariants.{Write}
use Rattle.cert_types.specs.declared.certificate.Step.{Step}
use Rattle.cert_types.specs.declared.certificate.Step.TheVariants.{Call, Choose}
use Rattle.cert_types.specs.declared.certificate.Plans.{Plans}
use Rattle.cert_types.specs.declared.rule.Fact.{Fact}
use Rattle.cert_types.specs.declared.rule.Fact.TheVariants.{LengthOf}
use Rattle.cert_types.specs.Kept.{Entries}
use Rattle.cert_rules.specs.declared.slots.Learnt.TheVariants.{Whole}
use Rattle.cert_rules.specs.declared.slots.Slot.{Slot}
use Rattle.cert_rules.specs.Facts.{inputs_of_all}
use Rattle.cert_rules.specs.Plans.{goals_of, is_complete}
use Rattle.cert_rules.specs.Reading.{IsLevel, IsMade, known_numbers, start_slots}
use Rattle.cert_rules.specs.Rules.{headers_before, is_headless, own_bits, in_header, choice}
use Rattle.cert_rules.specs.Counts.{ways}
use Rattle.cert_rules.specs.Slots.{HasSlots, Grows, learnt_at, bits_of, slot_inner}
use Rattle.cert_rules.specs.Views.{view, side_at}
use Rattle.cert_candidates.specs.declared.digits.Digits.{Digits}
use Rattle.cert_candidates.specs.Codes.{number, write_plan, ways_before}
use Rattle.cert_candidates.specs.Packing.{NoneAmong}
use Rattle.cert_candidates.specs.Reading.{IsReading, ReadsOn, ShareDigits, ShareUpTo}
use Rattle.cert_candidates.specs.Knowing.{writer_knows_all}
use Rattle.cert_candidates.specs.Writing.{Site, Begins, top_site, spot_at, IsChecked, IsOpen, IsWriting, TakenIs, inner_site, AsksNothing, InnerIs, IsChosen, asked_before, NoneNumbered, IsNumbered}

-- ---- where a walk stands

-- What fits the top and has the item begins the item's header.
abbrev pub TopBegins : Type 0
TopBegins = (methods : List Method) (ctx : Context) (top : ℕ) (it : Item) (f : Filling) → FitsTop methods top ctx f → item f ≡ it → Begins methods ctx (top_site top it) f

-- A filling of the format that begins the source is ahead for the steps of both directions, with what the slots know.
abbrev pub BeginsAhead : Type 0
BeginsAhead = (methods : List Method) (table : List MethodSizes) (top : ℕ) (cert : Entries) (counts : List ℕ) → IsChecked methods table top cert counts →
    (ctx : Context) (site : Site) (n : ℕ) (format : Format) (steps : List Step) (c : ℕ) (place : Digits) (slots : List Slot) (w : IsWriting methods cert counts ctx site n format steps c place slots) →
    (f : Filling) → IsOpen methods cert counts ctx site format w.reading.base steps f → IsLevel methods ctx (spot_at site) n format slots f

-- ---- steps

-- A header field is taken: the next bits.
abbrev pub TakeLaw : Type 0
TakeLaw = (methods : List Method) (ctx : Context) (site : Site) (n : ℕ) (format : Format) (slots : List Slot) (f : Filling) → Begins methods ctx site f → IsLevel methods ctx (spot_at site) n format slots f →
    (i : ℕ) (d : Field) → slice_get format.fields i ≡ Some d → is_header d.declared.part ≡ true → writer_knows_all format slots (LengthOf Uncompressed i ∷ headers_before format i) ≡ true →
    TakenIs format slots site i (length (bits_of (learnt_at slots i Uncompressed))) f

-- A called field: what fills it begins the source of the called method.
abbrev pub CallLaw : Type 0
CallLaw = (methods : List Method) (table : List MethodSizes) → AreSizes methods table → (ctx : Context) (site : Site) (n : ℕ) (format : Format) (slots : List Slot) (f : Filling) → Begins methods ctx site f →
    IsLevel methods ctx (spot_at site) n format slots f →
    (i : ℕ) (d : Field) (j : ℕ) (es : List Expr) → slice_get format.fields i ≡ Some d → d.encoding ≡ encoding.Call j es → AsksNothing methods j →
    writer_knows_all format slots (inputs_of_all format es ++ in_header (is_header d.declared.part) (headers_before format i) (own_bits (is_headless (slice_get table j)) i)) ≡ true →
    InnerIs methods ctx site format slots i d j es f

-- An asked field has its value in the item, in field order.
abbrev pub AskLaw : Type 0
AskLaw = (methods : List Method) (ctx : Context) (site : Site) (n : ℕ) (format : Format) (slots : List Slot) (f : Filling) → Begins methods ctx site f → IsLevel methods ctx (spot_at site) n format slots f →
    (i : ℕ) (d : Field) → slice_get format.fields i ≡ Some d → d.declared.asked ≡ true →
    slice_get site.asked (asked_before format i) ≡ Some (record { name = d.declared.name; bits = side_at (view f) i Uncompressed })

-- A chosen field has the digit as its number.
abbrev pub ChooseLaw : Type 0
ChooseLaw = (methods : List Method) (table : List MethodSizes) (top : ℕ) (cert : Entries) (counts : List ℕ) → IsChecked methods table top cert counts →
    (ctx : Context) (site : Site) (n : ℕ) (format : Format) (i : ℕ) (steps : List Step) (c : ℕ) (place : Digits) (slots : List Slot) (w : IsWriting methods cert counts ctx site n format (Choose i ∷ steps) c place slots) →
    (digit : ℕ) (next : Digits) (reads : ReadsOn methods cert counts site.method n format (Choose i) steps c place w.reading digit next) → (bits : ℕ) → option_and_then (choice format i) (slice_get format.fields i) ≡ Some bits →
    (f : Filling) → IsOpen methods cert counts ctx site format reads.after.base steps f → IsChosen bits digit (side_at (view f) i Uncompressed)

-- ---- from step to step

-- At the start of a format's write plan only this is known: a field that is not listed has no packed bits.
abbrev pub WritingStarts : Type 0
WritingStarts = (methods : List Method) (table : List MethodSizes) (top : ℕ) (cert : Entries) (counts : List ℕ) → IsChecked methods table top cert counts →
    (ctx : Context) (site : Site) (n : ℕ) (format : Format) (plans : Plans) → format_at methods site.method n ≡ Some format → write_plan cert site.method n ≡ Some plans →
    (c : ℕ) (place : Digits) (reading : IsReading methods cert counts site.method n format plans.write c place) → reading.base ≡ ways_before methods cert counts site.method n →
    IsWriting methods cert counts ctx site n format plans.write c place (start_slots format.listing 0 format.fields)

-- the step has no digit
abbrev pub is_plain : Step → Bool
is_plain (Call i) = false
is_plain (Choose i) = false
is_plain _ = true

-- After a step without a digit the same fillings are open; where they have what was learnt the walk goes on.
abbrev pub WritingPasses : Type 0
WritingPasses = (methods : List Method) (table : List MethodSizes) (top : ℕ) (cert : Entries) (counts : List ℕ) → IsChecked methods table top cert counts →
    (ctx : Context) (site : Site) (n : ℕ) (format : Format) (step : Step) (steps : List Step) (c : ℕ) (place : Digits) (old new : List Slot) → (w : IsWriting methods cert counts ctx site n format (step ∷ steps) c place old) →
    is_plain step ≡ true → length new ≡ length old → Grows old new →
    ((f : Filling) → IsOpen methods cert counts ctx site format w.reading.base (step ∷ steps) f → HasSlots f new) →
    IsWriting methods cert counts ctx site n format steps c place new

-- After a choice those with its digit are open; the walk goes on where the bits are learnt.
abbrev pub WritingChooses : Type 0
WritingChooses = (methods : List Method) (table : List MethodSizes) (top : ℕ) (cert : Entries) (counts : List ℕ) → IsChecked methods table top cert counts →
    (ctx : Context) (site : Site) (n : ℕ) (format : Format) (i : ℕ) (steps : List Step) (c : ℕ) (place next : Digits) (old new : List Slot) (w : IsWriting methods cert counts ctx site n format (Choose i ∷ steps) c place old) →
    (digit : ℕ) (reads : ReadsOn methods cert counts site.method n format (Choose i) steps c place w.reading digit next) → length new ≡ length old → Grows old new →
    (bits : List Bool) → learnt_at new i Uncompressed ≡ Whole bits → num bits ≡ digit →
    ((f : Filling) → IsOpen methods cert counts ctx site format reads.after.base steps f → HasSlots f new) →
    IsWriting methods cert counts ctx site n format steps c next new

-- what a field knows after a call: the filling inside it, with its two sides
pub record IsFilled (f : Filling) (i : ℕ) (g : Filling) : Type 0 where
  pub inner_is : inner_at f i ≡ Some g
  pub uncompressed : side_at (view f) i Uncompressed ≡ header g
  pub compressed : side_at (view f) i Compressed ≡ packed g

-- The one filling that has the digit as its number where the called method stands is in the field of each that is open.
abbrev pub FilledLaw : Type 0
FilledLaw = (methods : List Method) (table : List MethodSizes) (top : ℕ) (cert : Entries) (counts : List ℕ) → IsChecked methods table top cert counts →
    (ctx : Context) (site : Site) (n : ℕ) (format : Format) (i : ℕ) (steps : List Step) (c : ℕ) (place next : Digits) (slots : List Slot) (w : IsWriting methods cert counts ctx site n format (Call i ∷ steps) c place slots) →
    (digit : ℕ) (reads : ReadsOn methods cert counts site.method n format (Call i) steps c place w.reading digit next) → (d : Field) (j : ℕ) (es : List Expr) → slice_get format.fields i ≡ Some d → d.encoding ≡ encoding.Call j es → AsksNothing methods j →
    writer_knows_all format slots (inputs_of_all format es ++ in_header (is_header d.declared.part) (headers_before format i) (own_bits (is_headless (slice_get table j)) i)) ≡ true →
    (args : List ℤ) → vals (known_numbers format slots site.args) es ≡ Some args → (g : Filling) → IsNumbered methods cert counts ctx (inner_site format slots site i d j args) digit g →
    (f : Filling) → IsOpen methods cert counts ctx site format reads.after.base steps f → IsFilled f i g

-- After a call those with its digit are open; the walk goes on where the filling inside is learnt.
abbrev pub WritingCalls : Type 0
WritingCalls = (methods : List Method) (table : List MethodSizes) (top : ℕ) (cert : Entries) (counts : List ℕ) → IsChecked methods table top cert counts →
    (ctx : Context) (site : Site) (n : ℕ) (format : Format) (i : ℕ) (steps : List Step) (c : ℕ) (place next : Digits) (old new : List Slot) (w : IsWriting methods cert counts ctx site n format (Call i ∷ steps) c place old) →
    (digit : ℕ) (reads : ReadsOn methods cert counts site.method n format (Call i) steps c place w.reading digit next) → length new ≡ length old → Grows old new →
    (d : Field) (j : ℕ) (es : List Expr) (g : Filling) → slice_get format.fields i ≡ Some d → d.encoding ≡ encoding.Call j es → slot_inner (slice_get new i) ≡ Some g → number methods cert counts g j ≡ digit →
    ((f : Filling) → IsOpen methods cert counts ctx site format reads.after.base steps f → HasSlots f new) →
    IsWriting methods cert counts ctx site n format steps c next new

-- ---- failing

-- Where none is open, so many numbers are passed.
abbrev pub WritingFails : Type 0
WritingFails = (methods : List Method) (table : List MethodSizes) (top : ℕ) (cert : Entries) (counts : List ℕ) → IsChecked methods table top cert counts →
    (ctx : Context) (site : Site) (n : ℕ) (format : Format) (steps : List Step) (c : ℕ) (place : Digits) (reading : IsReading methods cert counts site.method n format steps c place) →
    ((f : Filling) → IsOpen methods cert counts ctx site format reading.base steps f → ⊥) → (skipped : ℕ) → ShareDigits place skipped → NoneNumbered methods cert counts ctx site c skipped

-- Where the called method has none with m numbers from the digit on, so many numbers are passed.
abbrev pub CallFails : Type 0
CallFails = (methods : List Method) (table : List MethodSizes) (top : ℕ) (cert : Entries) (counts : List ℕ) → IsChecked methods table top cert counts →
    (ctx : Context) (site : Site) (n : ℕ) (format : Format) (i : ℕ) (steps : List Step) (c : ℕ) (place next : Digits) (slots : List Slot) (w : IsWriting methods cert counts ctx site n format (Call i ∷ steps) c place slots) →
    (digit : ℕ) → ReadsOn methods cert counts site.method n format (Call i) steps c place w.reading digit next → (d : Field) (j : ℕ) (es : List Expr) → slice_get format.fields i ≡ Some d → d.encoding ≡ encoding.Call j es → AsksNothing methods j →
    writer_knows_all format slots (inputs_of_all format es ++ in_header (is_header d.declared.part) (headers_before format i) (own_bits (is_headless (slice_get table j)) i)) ≡ true →
    (args : List ℤ) → vals (known_numbers format slots site.args) es ≡ Some args →
    (m : ℕ) → digit + m ≤ ways counts format (Call i) → NoneNumbered methods cert counts ctx (inner_site format slots site i d j args) digit m →
    (skipped : ℕ) → ShareUpTo m next skipped → NoneNumbered methods cert counts ctx site c skipped

-- ---- the end

-- Where the slots know all that a plan wants, the filling that is made of them has the number, and no other does that begins the source.
abbrev pub WritingEnds : Type 0
WritingEnds = (methods : List Method) (table : List MethodSizes) (top : ℕ) (cert : Entries) (counts : List ℕ) → IsChecked methods table top cert counts →
    (ctx : Context) (site : Site) (n : ℕ) (format : Format) (c : ℕ) (place : Digits) (slots : List Slot) → IsWriting methods cert counts ctx site n format [] c place slots →
    (known : List Fact) → is_complete (goals_of Write format) known ≡ true → writer_knows_all format slots known ≡ true → (g : Filling) → IsMade n format slots g → IsNumbered methods cert counts ctx site c g

-- What a walk of the top owes is what a search for the best filling passes.
abbrev pub TopPasses : Type 0
TopPasses = (methods : List Method) (cert : Entries) (counts : List ℕ) (ctx : Context) (top : ℕ) (it : Item) (c skipped : ℕ) → NoneNumbered methods cert counts ctx (top_site top it) c skipped → NoneAmong methods cert counts top ctx it c skipped

-- Where the only filling of a number doesn't fit the top, or has another item, nothing that fits and has the item has that number.
abbrev pub TopRefuses : Type 0
TopRefuses = (methods : List Method) (cert : Entries) (counts : List ℕ) (ctx : Context) (top : ℕ) (it : Item) (c : ℕ) (g : Filling) → IsNumbered methods cert counts ctx (top_site top it) c g →
    (FitsTop methods top ctx g → item g ≡ it → ⊥) → NoneAmong methods cert counts top ctx it c 1

-- ---- one filling

-- each method that a field of some format calls asks nothing
abbrev pub CallsAskNothing : List Method → Type 0
CallsAskNothing methods = (k n i j : ℕ) (format : Format) (d : Field) (es : List Expr) → format_at methods k n ≡ Some format → slice_get format.fields i ≡ Some d → d.encoding ≡ encoding.Call j es → AsksNothing methods j

-- Two fillings that begin a site, in which called methods ask nothing, and that have one number there, are one.
abbrev pub OneNumbered : Type 0
OneNumbered = (methods : List Method) (table : List MethodSizes) (top : ℕ) (cert : Entries) (counts : List ℕ) → IsChecked methods table top cert counts → CallsAskNothing methods →
    (ctx : Context) (site : Site) (f g : Filling) → Begins methods ctx site f → Begins methods ctx site g → number methods cert counts f site.method ≡ number methods cert counts g site.method → f ≡ g
