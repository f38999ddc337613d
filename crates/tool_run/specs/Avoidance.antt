-- Why items that are packed aren't packed by a format of the top, or of a method that is called inside (docs/FORMATS.md).
use Rattle.std.specs.Prelude.{◌≡◌, ◌≢◌, ℕ, ℤ, ◌+◌, ◌<◌, List, [], ◌∷◌, ◌++◌, length, map, slice_get, Some, true, codes, string_bytes}
use Rattle.cert_accepted.specs.Accepted.{Accepting}
use Rattle.sem_context.specs.Entries.{Entries}
use Rattle.walk_engine.specs.Reading.{Fitting}
use Rattle.walk_engine.specs.Writing as writing
use Rattle.walk_engine.specs.declared.search.Packed.{Packed}
use Rattle.walk_engine.specs.declared.writer.PackFault.{PackFault}
use Rattle.sem_expr.specs.declared.expr.Side.TheVariants.{Uncompressed}
use Rattle.sem_expr.specs.declared.interval.Interval.{Interval}
use Rattle.sem_filling.specs.Entries.{Path, below, next}
use Rattle.sem_filling.specs.Fillings.{header, item, packed}
use Rattle.sem_filling.specs.declared.filling.Filling.{Filling, out-Filling}
use Rattle.sem_filling.specs.declared.filling.Item.{Item}
use Rattle.sem_filling.specs.Bounded.{ArgumentsLie}
use Rattle.sem_profile.specs.Resolved.{Resolved}
use Rattle.sem_reasons.specs.Reasons.{IsVerdict}
use Rattle.sem_reasons.specs.Settings.{Setting}
use Rattle.sem_filling.specs.declared.reason.Line.{Line}
use Rattle.tool_input.specs.Refusals.{Holds}
use Rattle.tool_input.specs.declared.status.Answer.{Answer}
use Rattle.tool_input.specs.declared.status.Status.{Status}
use Rattle.tool_input.specs.declared.status.Status.TheVariants as status
use Rattle.tool_items.specs.Avoided.{IsAvoidedText, Keeps}
use Rattle.tool_items.specs.declared.avoided.Fate.{Fate}
use Rattle.tool_items.specs.declared.avoided.Fate.TheVariants.{Refused, Absent, Taken, Against, Later}
use Rattle.tool_items.specs.declared.avoided.Verdict.{Verdict}
use Rattle.tool_items.specs.declared.avoided.Verdicts.{Verdicts}
use Rattle.tool_items.specs.Inside.{StandsBelow}
use Rattle.tool_items.specs.declared.inside.Standing.{Standing}
use Rattle.tool_names.specs.Names.{format_name, formats_of}
use Rattle.tool_run.specs.declared.avoidance.Aim.{Aim}
use Rattle.tool_run.specs.declared.avoidance.Aim.TheVariants.{Top, Inside}
use Rattle.tool_run.specs.declared.avoidance.Sought.{Sought}

-- Which format is asked for: one of the top, by its number, or one of that name, of the method that is called at the path.
pub data Wanted : Type 0 where
  at_top : (n : ℕ) → Wanted
  inside : (path name : List ℕ) → Wanted

abbrev pub wanted : Aim → Wanted
wanted (Top n) = at_top n
wanted (Inside path format) = inside path.now format.now

-- the fillings of the top that have the header and the asked values of the item
abbrev pub item_setting : Accepting → Entries → Item → Setting
item_setting a ctx it = record { profile = a.profile; context = ctx; method = a.profile.top; parameters = []; path = []; side = Uncompressed; bits = it.header; is_whole = true; asked = it.asked }

abbrev pub format_of : Filling → ℕ
format_of f = (out-Filling f).format

-- what stands at the path inside a filling of the top
abbrev pub IsPart : Resolved → Filling → Path → Standing → Type 0
IsPart p f path s = StandsBelow p p.top [] [] f s × (string_bytes s.path ≡ path)

-- the range that holds a value alone
abbrev pub point : ℤ → Interval
point v = record { from = v; to = v }

abbrev pub points : List ℤ → List Interval
points vs = map point vs

-- the fillings of its method, under arguments in these ranges and below its path, that have the same header
abbrev pub part_setting : Accepting → Entries → Standing → List Interval → Setting
part_setting a ctx s ranges = record { profile = a.profile; context = ctx; method = s.method; parameters = ranges; path = string_bytes s.path; side = Uncompressed; bits = header s.filling.now; is_whole = true; asked = [] }

-- these lines tell what stands against the format n of its method, under arguments in ranges that hold its own
abbrev pub AreOfPart : Accepting → Entries → Standing → ℕ → List Line → Type 0
AreOfPart a ctx s n lines = (ranges : List Interval) × ArgumentsLie ranges s.arguments × IsVerdict (part_setting a ctx s ranges) n lines

-- the format n of the method has the name
abbrev pub HasName : Resolved → ℕ → ℕ → List ℕ → Type 0
HasName p method n name = format_name p.methods method n ≡ name

-- the filling has the format: its own, or that of what stands at the path
abbrev pub GoesBy : Resolved → Filling → Wanted → Type 0
GoesBy p f (at_top n) = format_of f ≡ n
GoesBy p f (inside path name) = (s : Standing) × IsPart p f path s × HasName p s.method (format_of s.filling.now) name

-- a filling that has the format fits in the context and has the item, and has so many packed bits
pub record FitsBy (a : Accepting) (ctx : Entries) (it : Item) (w : Wanted) (bits : ℕ) : Type 0 where
  pub filling : Filling
  pub fits : Fitting a ctx filling
  pub has : item filling ≡ it
  pub goes_by : GoesBy a.profile filling w
  pub bits_are : bits ≡ length (packed filling)

-- The filling has another format of the method, the number taken, and these lines tell what stands against the one that is asked for.
abbrev pub StandsAgainst : Accepting → Entries → Item → Filling → Wanted → ℕ → ℕ → List Line → Type 0
StandsAgainst a ctx it f (at_top n) method taken lines = (method ≡ a.profile.top) × (format_of f ≡ taken) × (taken ≢ n) × IsVerdict (item_setting a ctx it) n lines
StandsAgainst a ctx it f (inside path name) method taken lines =
    (s : Standing) × IsPart a.profile f path s × (method ≡ s.method) × (format_of s.filling.now ≡ taken) × (n : ℕ) × HasName a.profile s.method n name × (taken ≢ n) × AreOfPart a ctx s n lines

-- it has another format of the method, the number taken
abbrev pub GoesByOther : Resolved → Filling → Wanted → ℕ → ℕ → Type 0
GoesByOther p f (at_top n) method taken = (method ≡ p.top) × (format_of f ≡ taken) × (taken ≢ n)
GoesByOther p f (inside path name) method taken = (s : Standing) × IsPart p f path s × (method ≡ s.method) × (format_of s.filling.now ≡ taken) × (n : ℕ) × HasName p s.method n name × (taken ≢ n)

-- What becomes of the format for an item in a context. Where it is packed by another one, each reason that is told is true (sem_reasons, `reasons_are_true`), and
-- a filling that is said to fit does. Which packets are counted as being without the format's method is tested.
abbrev pub IsFate : Accepting → Entries → Item → Wanted → Fate → Type 0
IsFate a ctx it w Refused = (e : PackFault) × writing.Blames e a ctx it
IsFate a ctx it w Absent = (p : Packed) × writing.IsPacked a ctx it p
IsFate a ctx it w Taken = (p : Packed) × writing.IsPacked a ctx it p × GoesBy a.profile p.filling w
IsFate a ctx it w (Against method taken lines) = (p : Packed) × writing.IsPacked a ctx it p × StandsAgainst a ctx it p.filling w method taken lines
IsFate a ctx it w (Later method taken bits) = (p : Packed) × writing.IsPacked a ctx it p × GoesByOther a.profile p.filling w method taken × FitsBy a ctx it w bits

-- To which context these items lead: each that can be packed goes over it, and one that is refused leaves it as it was.
pub data Leads (a : Accepting) : Entries → List Item → Entries → Type 0 where
  leads_nowhere : {ctx : Entries} → Leads a ctx [] ctx
  leads_packed : {ctx last : Entries} {it : Item} {items : List Item} (p : Packed) → writing.IsPacked a ctx it p → Leads a (next ctx p.filling) items last → Leads a ctx (it ∷ items) last
  leads_refused : {ctx last : Entries} {it : Item} {items : List Item} (e : PackFault) → writing.Blames e a ctx it → Leads a ctx items last → Leads a ctx (it ∷ items) last

-- the verdict on an item of these, in the context to which those before it lead
pub record IsJudged (a : Accepting) (start : Entries) (items : List Item) (w : Wanted) (v : Verdict) : Type 0 where
  pub before : List Item
  pub it : Item
  pub rest : List Item
  pub items_are : items ≡ before ++ it ∷ rest
  pub number_is : v.number ≡ length before + 1
  pub context : Entries
  pub leads : Leads a start before context
  pub fate_is : IsFate a context it w v.fate

-- all that is kept is so
abbrev pub AreJudged : Accepting → Entries → List Item → Wanted → List Verdict → Type 0
AreJudged a start items w kept = (place : ℕ) (v : Verdict) → slice_get kept place ≡ Some v → IsJudged a start items w v

-- the method has no format of this name
abbrev pub LacksFormat : Resolved → ℕ → List ℕ → Type 0
LacksFormat p method name = (n : ℕ) → n < length (formats_of p.methods method) → format_name p.methods method n ≢ name

-- the top has a format of this name, and has none
abbrev pub IsFormat : Resolved → List ℕ → ℕ → Type 0
IsFormat p name n = HasName p p.top n name

abbrev pub HasNoFormat : Resolved → List ℕ → Type 0
HasNoFormat p name = LacksFormat p p.top name

-- the format that is asked for has this name: alone, or behind its path and a point
abbrev pub IsNamed : Resolved → List ℕ → Wanted → Type 0
IsNamed p name (at_top n) = IsFormat p name n
IsNamed p name (inside path format) = below path format ≡ name

-- the items whose asked values are those of the format
abbrev pub asking : Wanted → List Item → List Item
asking (at_top n) items = items
asking (inside path name) items = []

-- What `why --not` prints of items. The names that are near, and of which paths it is said that no such format stands there, are tested.
pub data AvoidedBy (octets name : List ℕ) (a : Accepting) (start : Entries) (items : List Item) : Status → List ℕ → Type 0 where
  no_format : (near : List ℕ) → HasNoFormat a.profile name → AvoidedBy octets name a start items status.Refused ((codes "words: N1 no such format" ++ near) ++ 10 ∷ [])
  avoided : (w : Wanted) (vs : Verdicts) (text : List ℕ) → IsNamed a.profile name w → AreJudged a start items w vs.kept → IsAvoidedText octets a.profile name (asking w items) vs text
      → AvoidedBy octets name a start items status.Done (text ++ 10 ∷ [])

-- ---- the steps

abbrev pub AnswersAvoided : List ℕ → List ℕ → Accepting → Entries → List Item → Answer → Type 0
AnswersAvoided octets name a start items = Holds (AvoidedBy octets name a start items)

-- the line that there is no such format
abbrev pub IsUnknown : Answer → Type 0
IsUnknown answer = (near : List ℕ) × (answer.status ≡ status.Refused) × (string_bytes answer.output ≡ (codes "words: N1 no such format" ++ near) ++ 10 ∷ [])

-- what is asked for belongs to one profile
abbrev pub IsWhole : Sought → Type 0
IsWhole s = s.judged.now ≡ s.accepted.now.profile

-- what becomes of it, by what was packed
abbrev pub IsFateOf : Sought → Entries → Item → Fate → Type 0
IsFateOf s ctx it fate = IsFate s.accepted.now ctx it (wanted s.aim) fate

-- One item more: what becomes of the format is told, and the context goes on by what is packed.
pub record AddsItem (s : Sought) (old new : Entries) (before after : Verdicts) (n : ℕ) (it : Item) : Type 0 where
  pub fate : Fate
  pub fate_is : IsFateOf s old it fate
  pub keeps : Keeps n fate before.kept after.kept
  pub leads : Leads s.accepted.now old (it ∷ []) new
