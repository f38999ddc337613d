-- What is so of codes and numbers.
use Rattle.std.specs.Prelude.{◌≡◌, ◌↔◌, ℕ, ◌+◌, ◌*◌, ◌^◌, ◌≤◌, ◌<◌, List, [], ◌∷◌, Some, slice_get, option_and_then, ℤ}
use Rattle.std.specs.List.{sum}
use Rattle.sem_bits.specs.Number.{num}
use Rattle.sem_expr.specs.declared.expr.Side.TheVariants.{Uncompressed}
use Rattle.sem_profile.specs.declared.profile.Format.{Format}
use Rattle.sem_profile.specs.declared.profile.Method.{Method}
use Rattle.sem_profile.specs.declared.profile.MethodSizes.{MethodSizes}
use Rattle.sem_profile.specs.Outcome.{AreSizes}
use Rattle.sem_profile.specs.Resolved.{Resolved, IsSound}
use Rattle.sem_filling.specs.declared.filling.Filling.{Filling, out-Filling}
use Rattle.sem_filling.specs.declared.filling.Item.{Item}
use Rattle.sem_filling.specs.Entries.{Path}
use Rattle.sem_filling.specs.Fillings.{item, inner_at, level}
use Rattle.sem_filling.specs.Fits.{Context, Fits, format_at, field_side}
use Rattle.sem_filling.specs.Fronts.{FitsTop}
use Rattle.cert_types.specs.declared.certificate.Step.{Step}
use Rattle.cert_types.specs.declared.certificate.Step.TheVariants.{Call, Choose}
use Rattle.cert_types.specs.declared.certificate.Plans.{Plans}
use Rattle.cert_types.specs.declared.certificate.Version.{Version}
use Rattle.cert_types.specs.Kept.{Entries}
use Rattle.cert_rules.specs.Counts.{ways, plan_ways, AreCounts}
use Rattle.cert_rules.specs.Rules.{choice}
use Rattle.cert_rules.specs.Valid.{Valid}
use Rattle.cert_rules.specs.Capped.{AreCapped}
use Rattle.cert_candidates.specs.declared.digits.Digits.{Digits}
use Rattle.cert_candidates.specs.declared.digits.Start.{Start}
use Rattle.cert_candidates.specs.Codes.{code, number, codes_in, numbers_in, plan_code, plan_number, write_plan, ways_before, step_digit, called_at, IsCandidate}
use Rattle.cert_candidates.specs.Best.{IsUpTo, Best}
use Rattle.cert_candidates.specs.Digits.{HasRead, InSpan, AllRead}
use Rattle.cert_rules.specs.Spans.{AreFew, method_spans, AreSpans}
use Rattle.cert_candidates.specs.Starts.{IsStart}
use Rattle.cert_candidates.specs.Reading.{Divides, IsReading, ReadsOn, Shares}
use Rattle.cert_candidates.specs.Packing.{NoneBelow, NoneAmong}

-- the code by that of the fillings inside
abbrev pub CodeByLevel : Type 0
CodeByLevel = (methods : List Method) (cert : Entries) (k : ℕ) (f : Filling) →
    code methods cert f k ≡ (out-Filling f).format ∷ plan_code (codes_in methods cert f) (format_at methods k (out-Filling f).format) (write_plan cert k (out-Filling f).format)

-- the number by that of the fillings inside
abbrev pub NumberByLevel : Type 0
NumberByLevel = (methods : List Method) (cert : Entries) (counts : List ℕ) (k : ℕ) (f : Filling) →
    number methods cert counts f k ≡ ways_before methods cert counts k (out-Filling f).format
    + plan_number counts (numbers_in methods cert counts f) (format_at methods k (out-Filling f).format) (write_plan cert k (out-Filling f).format)

abbrev pub BestIsOne : Type 0
BestIsOne = (methods : List Method) (cert : Entries) (top : ℕ) (ctx : Context) (it : Item) (f g : Filling) →
    Best methods cert top ctx it f → Best methods cert top ctx it g → f ≡ g

abbrev pub NumberBelow : Type 0
NumberBelow = (methods : List Method) (cert : Entries) (counts : List ℕ) → AreCounts methods cert counts → (k n : ℕ) (f : Filling) →
    IsCandidate methods cert counts k f → slice_get counts k ≡ Some n → number methods cert counts f k < n

abbrev pub SameOrder : Type 0
SameOrder = (methods : List Method) (cert : Entries) (counts : List ℕ) → AreCounts methods cert counts → (k : ℕ) (f g : Filling) →
    IsCandidate methods cert counts k f → IsCandidate methods cert counts k g →
    (number methods cert counts f k ≤ number methods cert counts g k) ↔ IsUpTo (code methods cert f k) (code methods cert g k)

-- Where no filling that fits and has the item has a number below that of one that does, and no other has its number, that one is the best.
abbrev pub FirstIsBest : Type 0
FirstIsBest = (methods : List Method) (cert : Entries) (counts : List ℕ) → AreCounts methods cert counts → (top : ℕ) (ctx : Context) (it : Item) →
    ((g : Filling) → FitsTop methods top ctx g → item g ≡ it → IsCandidate methods cert counts top g) →
    (f : Filling) → FitsTop methods top ctx f → item f ≡ it →
    ((g : Filling) → FitsTop methods top ctx g → item g ≡ it → number methods cert counts g top ≤ number methods cert counts f top → g ≡ f) ↔ Best methods cert top ctx it f

-- ---- digits

-- All candidates whose number lies in the part of a format have that format.
abbrev pub DigitsStart : Type 0
DigitsStart = (methods : List Method) (cert : Entries) (counts : List ℕ) → AreCounts methods cert counts → (k n : ℕ) (format : Format) (plans : Plans) →
    format_at methods k n ≡ Some format → write_plan cert k n ≡ Some plans → AllRead methods cert counts k n format (ways_before methods cert counts k n) plans.write

-- With the next digit the candidates of the smaller span have read that digit too, and it is theirs.
abbrev pub DigitsKnown : Type 0
DigitsKnown = (methods : List Method) (cert : Entries) (counts : List ℕ) → AreCounts methods cert counts → (k n : ℕ) (format : Format) (base : ℕ) (step : Step) (steps : List Step) →
    AllRead methods cert counts k n format base (step ∷ steps) → (d : ℕ) → d < ways counts format step →
    AllRead methods cert counts k n format (base + d * plan_ways counts format steps) steps
    × ((f : Filling) → IsCandidate methods cert counts k f → InSpan methods cert counts k format (base + d * plan_ways counts format steps) steps f → step_digit format (numbers_in methods cert counts f) step ≡ d)

-- With the digit the filling goes on to the next step.
abbrev pub DigitsOnward : Type 0
DigitsOnward = (methods : List Method) (cert : Entries) (counts : List ℕ) (k n : ℕ) (format : Format) (base : ℕ) (step : Step) (steps : List Step) (f : Filling) →
    HasRead methods cert counts k n format base (step ∷ steps) f →
    HasRead methods cert counts k n format (base + step_digit format (numbers_in methods cert counts f) step * plan_ways counts format steps) steps f

-- The fillings that share the digits read so far have the numbers from base up to base and the ways of the steps that are left.
abbrev pub DigitsBack : Type 0
DigitsBack = (methods : List Method) (cert : Entries) (counts : List ℕ) → AreCounts methods cert counts → (k n : ℕ) (format : Format) (base : ℕ) (steps : List Step) (f : Filling) →
    IsCandidate methods cert counts k f → HasRead methods cert counts k n format base steps f →
    (base ≤ number methods cert counts f k) × (number methods cert counts f k < base + plan_ways counts format steps)

-- At the end of the plan the number is read.
abbrev pub DigitsEnd : Type 0
DigitsEnd = (methods : List Method) (cert : Entries) (counts : List ℕ) (k n : ℕ) (format : Format) (base : ℕ) (f : Filling) →
    HasRead methods cert counts k n format base [] f → number methods cert counts f k ≡ base

-- The candidates of m next digits from d on, of which all have read the same digits so far, have these digits.
abbrev pub DigitsSkip : Type 0
DigitsSkip = (methods : List Method) (cert : Entries) (counts : List ℕ) → AreCounts methods cert counts → (k n : ℕ) (format : Format) (base : ℕ) (step : Step) (steps : List Step) →
    AllRead methods cert counts k n format base (step ∷ steps) → (d m : ℕ) → d + m ≤ ways counts format step → (f : Filling) → IsCandidate methods cert counts k f →
    base + d * plan_ways counts format steps ≤ number methods cert counts f k → number methods cert counts f k < base + (d + m) * plan_ways counts format steps →
    HasRead methods cert counts k n format base (step ∷ steps) f
    × (d ≤ step_digit format (numbers_in methods cert counts f) step) × (step_digit format (numbers_in methods cert counts f) step < d + m)

-- What is skipped: the candidates of the span of one that has read digits have read these same digits.
abbrev pub DigitsShared : Type 0
DigitsShared = (methods : List Method) (cert : Entries) (counts : List ℕ) → AreCounts methods cert counts → (k n : ℕ) (format : Format) (base : ℕ) (steps : List Step) (f g : Filling) →
    IsCandidate methods cert counts k f → IsCandidate methods cert counts k g → (h : HasRead methods cert counts k n format base steps f) → InSpan methods cert counts k format base steps g →
    HasRead methods cert counts k n format base steps g
    × ((j : ℕ) (s : Step) → slice_get h.done j ≡ Some s → step_digit format (numbers_in methods cert counts g) s ≡ step_digit format (numbers_in methods cert counts f) s)

-- The digit of a choice is the number of the bits, that of a call is the number of the inner filling.
abbrev pub DigitOfChoice : Type 0
DigitOfChoice = (methods : List Method) (cert : Entries) (counts : List ℕ) (format : Format) (f : Filling) (i : ℕ) →
    step_digit format (numbers_in methods cert counts f) (Choose i) ≡ num (field_side (slice_get (level f) i) Uncompressed)

abbrev pub DigitOfCall : Type 0
DigitOfCall = (methods : List Method) (cert : Entries) (counts : List ℕ) (format : Format) (f : Filling) (i c : ℕ) (inner : Filling) →
    called_at format i ≡ Some c → inner_at f i ≡ Some inner → step_digit format (numbers_in methods cert counts f) (Call i) ≡ number methods cert counts inner c

-- At the start of the plan each filling of the format has read no digit.
abbrev pub DigitsBegun : Type 0
DigitsBegun = (methods : List Method) (cert : Entries) (counts : List ℕ) (k n : ℕ) (format : Format) (plans : Plans) → format_at methods k n ≡ Some format → write_plan cert k n ≡ Some plans →
    (f : Filling) → (out-Filling f).format ≡ n → HasRead methods cert counts k n format (ways_before methods cert counts k n) plans.write f

-- ---- the numbers that are kept

-- With a valid certificate of a profile the numbers that are kept are the true ones, and none is above the limit of candidates.
abbrev pub KeptAreCounts : Type 0
KeptAreCounts = (p : Resolved) (version : Version) (cert : Entries) (kept : List ℕ) → IsSound p → Valid p.methods p.sizes p.top (record { version = version; methods = cert }) → AreCapped p.methods cert kept → AreCounts p.methods cert kept × AreFew kept

-- Then so are those of the formats.
abbrev pub SpansAreKept : Type 0
SpansAreKept = (methods : List Method) (cert : Entries) (counts : List ℕ) → AreCounts methods cert counts → AreFew counts → (table : List (List ℕ)) → AreSpans methods cert counts table → table ≡ method_spans counts methods cert

-- The number of a method is the sum over its formats.
abbrev pub SpansAddUp : Type 0
SpansAddUp = (methods : List Method) (cert : Entries) (counts : List ℕ) → AreCounts methods cert counts → (k n : ℕ) → slice_get counts k ≡ Some n →
    (spans : List ℕ) → slice_get (method_spans counts methods cert) k ≡ Some spans → sum spans ≡ n

-- ---- reading a number

-- Where a number falls into a format, its digits are to be read by the whole write plan.
abbrev pub ReadingStarts : Type 0
ReadingStarts = (methods : List Method) (cert : Entries) (counts : List ℕ) → AreCounts methods cert counts → (k : ℕ) (spans : List ℕ) → slice_get (method_spans counts methods cert) k ≡ Some spans → (c : ℕ) (start : Start) → IsStart spans c start →
    (format : Format) (plans : Plans) → format_at methods k start.format ≡ Some format → write_plan cert k start.format ≡ Some plans →
    (reading : IsReading methods cert counts k start.format format plans.write c start.digits) × (reading.base ≡ ways_before methods cert counts k start.format)

-- A step with one way alone has no digit to read: it is 0.
abbrev pub ReadingPasses : Type 0
ReadingPasses = (methods : List Method) (cert : Entries) (counts : List ℕ) → AreCounts methods cert counts → (k n : ℕ) (format : Format) (step : Step) (steps : List Step) (c : ℕ) (place : Digits) →
    ways counts format step ≡ 1 → (before : IsReading methods cert counts k n format (step ∷ steps) c place) → ReadsOn methods cert counts k n format step steps c place before 0 place

-- The ways of the next step part the span.
abbrev pub ReadingParts : Type 0
ReadingParts = (methods : List Method) (cert : Entries) (counts : List ℕ) (k n : ℕ) (format : Format) (step : Step) (steps : List Step) (c : ℕ) (place : Digits) →
    IsReading methods cert counts k n format (step ∷ steps) c place → (radix : ℕ) → radix ≡ ways counts format step → Divides radix place.span

-- A choice has as many ways as its bits have values, a call as many as the called method has candidates.
abbrev pub WaysOfChoice : Type 0
WaysOfChoice = (counts : List ℕ) (format : Format) (i bits : ℕ) → option_and_then (choice format i) (slice_get format.fields i) ≡ Some bits → ways counts format (Choose i) ≡ 2 ^ bits

abbrev pub WaysOfCall : Type 0
WaysOfCall = (counts : List ℕ) (format : Format) (i called n : ℕ) → called_at format i ≡ Some called → slice_get counts called ≡ Some n → ways counts format (Call i) ≡ n

-- A candidate with the number has read its digits so far.
abbrev pub ReadingReaches : Type 0
ReadingReaches = (methods : List Method) (cert : Entries) (counts : List ℕ) (k n : ℕ) (format : Format) (steps : List Step) (c : ℕ) (place : Digits) → (reading : IsReading methods cert counts k n format steps c place) →
    (f : Filling) → IsCandidate methods cert counts k f → number methods cert counts f k ≡ c → Shares methods cert counts k n format steps c place reading f

-- What has read all its digits has the number.
abbrev pub ReadingEnds : Type 0
ReadingEnds = (methods : List Method) (cert : Entries) (counts : List ℕ) (k n : ℕ) (format : Format) (c : ℕ) (place : Digits) → (reading : IsReading methods cert counts k n format [] c place) →
    (f : Filling) → HasRead methods cert counts k n format reading.base [] f → number methods cert counts f k ≡ c

-- ---- packing

-- At the start nothing is passed.
abbrev pub PackStarts : Type 0
PackStarts = (methods : List Method) (cert : Entries) (counts : List ℕ) (top : ℕ) (ctx : Context) (it : Item) → NoneBelow methods cert counts top ctx it 0

-- Numbers that nothing has are passed.
abbrev pub PackPasses : Type 0
PackPasses = (methods : List Method) (cert : Entries) (counts : List ℕ) (top : ℕ) (ctx : Context) (it : Item) (c skipped : ℕ) →
    NoneBelow methods cert counts top ctx it c → NoneAmong methods cert counts top ctx it c skipped → NoneBelow methods cert counts top ctx it (c + skipped)

-- The only filling of the first number that any has is the best.
abbrev pub PackFound : Type 0
PackFound = (methods : List Method) (table : List MethodSizes) (top : ℕ) (version : Version) (cert : Entries) → AreSizes methods table → Valid methods table top (record { version = version; methods = cert }) → (counts : List ℕ) → AreCounts methods cert counts →
    (ctx : Context) (it : Item) (c : ℕ) → NoneBelow methods cert counts top ctx it c → (f : Filling) → FitsTop methods top ctx f → item f ≡ it → number methods cert counts f top ≡ c →
    ((g : Filling) → FitsTop methods top ctx g → item g ≡ it → number methods cert counts g top ≡ c → g ≡ f) → Best methods cert top ctx it f

-- Where none has a number below the count, none fits and has the item.
abbrev pub PackNone : Type 0
PackNone = (methods : List Method) (table : List MethodSizes) (top : ℕ) (version : Version) (cert : Entries) → AreSizes methods table → Valid methods table top (record { version = version; methods = cert }) → (counts : List ℕ) → AreCounts methods cert counts →
    (ctx : Context) (it : Item) (n : ℕ) → slice_get counts top ≡ Some n → NoneBelow methods cert counts top ctx it n → (f : Filling) → FitsTop methods top ctx f → item f ≡ it → ⊥

-- ---- candidates

-- What fits a method is a candidate of it, where the certificate is valid.
abbrev pub FittingAreCandidates : Type 0
FittingAreCandidates = (methods : List Method) (table : List MethodSizes) (top : ℕ) (version : Version) (cert : Entries) → AreSizes methods table → Valid methods table top (record { version = version; methods = cert }) → (counts : List ℕ) →
    (ctx : Context) (k : ℕ) (args : List ℤ) (path : Path) (f : Filling) → Fits methods ctx k args path f → IsCandidate methods cert counts k f
