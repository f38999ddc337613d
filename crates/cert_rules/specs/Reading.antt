-- Fillings ahead of a reading walk, and what each step finds of them (docs/DEFINITIONS.md, The steps of a reading walk).
use Rattle.std.specs.Prelude.{◌≡◌, ℕ, suc, ◌+◌, ◌<◌, ◌≤◌, Bool, true, false, List, [], ◌∷◌, ◌++◌, length, take, drop, slice_get, Option, Some, None, ℤ}
use Rattle.sem_expr.specs.declared.expr.Side.{Side}
use Rattle.sem_expr.specs.declared.expr.Side.TheVariants.{Uncompressed, Compressed}
use Rattle.sem_expr.specs.declared.expr.Subject.{Subject}
use Rattle.sem_expr.specs.declared.expr.Expr.{Expr}
use Rattle.sem_expr.specs.Values.{Assignment}
use Rattle.sem_profile.specs.declared.profile.Library.{Library}
use Rattle.sem_profile.specs.declared.profile.Encoding.TheVariants as encoding
use Rattle.sem_profile.specs.declared.profile.Constraint.{Constraint}
use Rattle.sem_profile.specs.declared.profile.Method.{Method}
use Rattle.sem_profile.specs.declared.profile.FormatSizes.{FormatSizes}
use Rattle.sem_profile.specs.declared.profile.Sizes.{Sizes}
use Rattle.sem_profile.specs.declared.profile.MethodSizes.{MethodSizes}
use Rattle.sem_profile.specs.declared.profile.Field.{Field}
use Rattle.sem_profile.specs.declared.profile.Format.{Format}
use Rattle.sem_profile.specs.Fields.{lists}
use Rattle.sem_profile.specs.Outcome.{AreSizes}
use Rattle.sem_filling.specs.declared.filling.Filling.{Filling, out-Filling}
use Rattle.sem_filling.specs.Fillings.{header, packed, packed_bits, inner_at, listing_of, level}
use Rattle.sem_filling.specs.Entries.{Path, below}
use Rattle.sem_filling.specs.Fits.{Context, vals, format_at, side_of, assigned, reference_of}
use Rattle.sem_filling.specs.Fronts.{InFrontsAt}
use Rattle.cert_types.specs.declared.certificate.Direction.TheVariants.{Read}
use Rattle.cert_types.specs.declared.certificate.Node.{Node}
use Rattle.cert_types.specs.declared.certificate.Node.TheVariants as node
use Rattle.cert_rules.specs.declared.slots.Learnt.{Learnt}
use Rattle.cert_rules.specs.declared.slots.Learnt.TheVariants.{Nothing, Whole}
use Rattle.cert_rules.specs.declared.slots.Slot.{Slot}
use Rattle.cert_types.specs.declared.rule.Fact.{Fact}
use Rattle.cert_types.specs.declared.rule.Fact.TheVariants.{LengthOf}
use Rattle.cert_rules.specs.Facts.{inputs, inputs_of_all, before}
use Rattle.cert_types.specs.declared.rule.Rule.{Rule}
use Rattle.cert_rules.specs.Rules.{up_needs, down_needs, length_needs, length_given, value_given, Congruence, remainder_given, listed_before, where_true}
use Rattle.cert_rules.specs.Plans.{enabled, known_at_start, goals_of, is_complete}
use Rattle.sem_profile.specs.Alike.{AreAlike}
use Rattle.cert_rules.specs.Trees.{Arrival, leads, nowhere, cut_off, references, way, PartsFormats}
use Rattle.cert_rules.specs.Views.{view, side_at}
use Rattle.cert_rules.specs.Slots.{HasSlots, Grows, learnt_at, knows_all, bits_of, slot_inner, slot_sides}
use Rattle.cert_rules.specs.Steps.{UpIs, DownIs, IsValue, LengthIs, SolvedIs, RemainderIs}

-- where a walk stands: the method, the values of its arguments, its path, and the bits ahead
pub record Spot : Type 0 where
  pub method : ℕ
  pub args : List ℤ
  pub path : Path
  pub bits : List Bool

-- the filling is at the front of the bits, with more bits after them
pub record IsAhead (methods : List Method) (ctx : Context) (spot : Spot) (f : Filling) : Type 0 where
  pub more : List Bool
  pub in_front : InFrontsAt methods spot.method ctx spot.args spot.path (spot.bits ++ more) f

-- no filling is ahead, whatever more bits come
abbrev pub NoneAhead : List Method → Context → Spot → Type 0
NoneAhead methods ctx spot = (f : Filling) → IsAhead methods ctx spot f → ⊥

-- each that is ahead is longer than the bits, so none is at the front of them
abbrev pub AllLonger : List Method → Context → Spot → Type 0
AllLonger methods ctx spot = (f : Filling) → IsAhead methods ctx spot f → length spot.bits < length (packed f)

-- no other is ahead
abbrev pub OnlyAhead : List Method → Context → Spot → Filling → Type 0
OnlyAhead methods ctx spot g = (f : Filling) → IsAhead methods ctx spot f → f ≡ g

-- each that is ahead is of that format
abbrev pub OneFormat : List Method → Context → Spot → ℕ → Type 0
OneFormat methods ctx spot n = (f : Filling) → IsAhead methods ctx spot f → (out-Filling f).format ≡ n

-- each that is ahead has what the slots know
abbrev pub AllHave : List Method → Context → Spot → List Slot → Type 0
AllHave methods ctx spot slots = (f : Filling) → IsAhead methods ctx spot f → HasSlots f slots

-- the offset of a listed field: the lengths that are known of the fields listed before it
abbrev pub offset_of : Format → List Slot → ℕ → ℕ
offset_of format slots i = length (packed_bits (before i format.listing) (slot_sides format.fields slots))

-- where the method stands that a field calls: a listed one reads on at its offset, another reads nothing
abbrev pub bits_from : Bool → ℕ → List Bool → List Bool
bits_from true o bits = drop o bits
bits_from false o bits = []

-- where the called method stands
abbrev pub inner_spot : Format → List Slot → Spot → ℕ → Field → ℕ → List ℤ → Spot
inner_spot format slots spot i d j args = record { method = j; args = args; path = below spot.path d.declared.name; bits = bits_from (lists format.listing i) (offset_of format slots i) spot.bits }

-- where a way leads that a filling of the format n takes, whose packed bits are these
abbrev pub Follows : ℕ → List Bool → List Bool → Arrival → Type 0
Follows n bits own (leads k) = n ≡ k
Follows n bits own nowhere = ⊥
Follows n bits own cut_off = length bits < length own

-- a filling ahead, by a format, that has what the slots know
pub record IsLevel (methods : List Method) (ctx : Context) (spot : Spot) (n : ℕ) (format : Format) (slots : List Slot) (f : Filling) : Type 0 where
  pub ahead : IsAhead methods ctx spot f
  pub format_is : (out-Filling f).format ≡ n
  pub at : format_at methods spot.method n ≡ Some format
  pub count : length slots ≡ length format.fields
  pub has : HasSlots f slots

-- the sides and the numbers that the slots know
abbrev pub known_sides : Format → List Slot → Subject → Side → List Bool
known_sides format slots = side_of format.listing (slot_sides format.fields slots)

-- the numbers of the level that the slots make
abbrev pub known_numbers : Format → List Slot → List ℤ → Assignment
known_numbers format slots args = assigned format.listing (slot_sides format.fields slots) args

-- the reference of a field
abbrev pub ref_at : Context → Spot → Field → Option (List Bool)
ref_at ctx spot d = reference_of d.declared.part ctx (below spot.path d.declared.name) d.initial

-- what a call gives of a filling ahead: the filling inside the field, ahead where the called method stands
pub record InnerIs (methods : List Method) (ctx : Context) (spot : Spot) (format : Format) (slots : List Slot) (i : ℕ) (d : Field) (j : ℕ) (es : List Expr) (f : Filling) : Type 0 where
  pub args : List ℤ
  pub args_are : vals (known_numbers format slots spot.args) es ≡ Some args
  pub inner : Filling
  pub inner_is : inner_at f i ≡ Some inner
  pub uncompressed : side_at (view f) i Uncompressed ≡ header inner
  pub compressed : side_at (view f) i Compressed ≡ packed inner
  pub ahead : IsAhead methods ctx (inner_spot format slots spot i d j args) inner
  -- where it is longer than what is left for it, so is the whole; of a field that is not listed it has no packed bits
  pub longer : lists format.listing i ≡ true → length (drop (offset_of format slots i) spot.bits) < length (packed inner) → length spot.bits < length (packed f)
  pub unsent : lists format.listing i ≡ false → packed inner ≡ []

-- what is taken: the next bits at the offset, or else the whole is longer than the bits
pub record TakenIs (format : Format) (slots : List Slot) (spot : Spot) (i n : ℕ) (f : Filling) : Type 0 where
  pub enough : offset_of format slots i + n ≤ length spot.bits → side_at (view f) i Compressed ≡ take n (drop (offset_of format slots i) spot.bits)
  pub few : length spot.bits < offset_of format slots i + n → length spot.bits < length (packed f)

-- ---- laws: each says of a filling ahead what a step finds

-- The way through the tree leads to the format of each filling ahead, or is cut off, and then the filling is longer than the bits.
abbrev pub TreeLeads : Type 0
TreeLeads = (methods : List Method) (table : List MethodSizes) → AreSizes methods table → AreAlike methods → (ctx : Context) (spot : Spot) (f : Filling) → (h : IsAhead methods ctx spot f) → (m : Method) (s : MethodSizes) (nodes : List Node) →
    slice_get methods spot.method ≡ Some m → slice_get table spot.method ≡ Some s → PartsFormats m.formats s nodes → Follows (out-Filling f).format spot.bits (packed f) (way (references ctx spot.path m.formats) spot.bits spot.args 0 nodes)

-- where each bit that the tree tests is below a limit, a way that is cut off has fewer bits than that
abbrev pub CutOffBelow : Type 0
CutOffBelow = (limit : ℕ) (nodes : List Node) (refs : ℕ → Option ℤ) (bits : List Bool) (args : List ℤ) (j : ℕ) → ((n o : ℕ) → slice_get nodes n ≡ Some (node.Bit o) → o < limit) →
    way refs bits args j nodes ≡ cut_off → length bits < limit

-- at the start only this is known: a field that is not listed has no packed bits
abbrev pub start_side : Bool → Learnt
start_side true = Nothing
start_side false = Whole []

-- a field at the start
abbrev pub start_slot : List ℕ → ℕ → Slot
start_slot listing n = record { uncompressed = Nothing; compressed = start_side (lists listing n); inner = None }

-- the fields of a format from the index n on
abbrev pub start_slots : List ℕ → ℕ → List Field → List Slot
start_slots listing n [] = []
start_slots listing n (d ∷ ds) = start_slot listing n ∷ start_slots listing (suc n) ds

-- they know what is known at the start
abbrev pub StartKnows : Type 0
StartKnows = (format : Format) → knows_all format (start_slots format.listing 0 format.fields) (known_at_start format) ≡ true

-- Each filling ahead has what the start slots know.
abbrev pub StartHas : Type 0
StartHas = (methods : List Method) (ctx : Context) (spot : Spot) (n : ℕ) (format : Format) (f : Filling) → IsAhead methods ctx spot f → (out-Filling f).format ≡ n → format_at methods spot.method n ≡ Some format →
    HasSlots f (start_slots format.listing 0 format.fields)

-- what an enabled step needs is known to slots that know all that is known
abbrev pub NeedsKnown : Type 0
NeedsKnown = (format : Format) (slots : List Slot) (known : List Fact) (r : Rule) → enabled known (Some r) ≡ true → knows_all format slots known ≡ true → knows_all format slots r.needs ≡ true

-- slots that grow know what they knew
abbrev pub GrownKnow : Type 0
GrownKnow = (format : Format) (old new : List Slot) (xs : List Fact) → Grows old new → knows_all format old xs ≡ true → knows_all format new xs ≡ true

-- Up by the library: the relation gives the uncompressed side.
abbrev pub UpLaw : Type 0
UpLaw = (methods : List Method) (ctx : Context) (spot : Spot) (n : ℕ) (format : Format) (slots : List Slot) (f : Filling) → IsLevel methods ctx spot n format slots f →
    (i : ℕ) (d : Field) (l : Library) → slice_get format.fields i ≡ Some d → d.encoding ≡ encoding.Library l → knows_all format slots (up_needs format i l) ≡ true →
    UpIs (known_numbers format slots spot.args) (ref_at ctx spot d) (bits_of (learnt_at slots i Compressed)) l (side_at (view f) i Uncompressed)

-- Down by the library: it gives the compressed side.
abbrev pub DownLaw : Type 0
DownLaw = (methods : List Method) (ctx : Context) (spot : Spot) (n : ℕ) (format : Format) (slots : List Slot) (f : Filling) → IsLevel methods ctx spot n format slots f →
    (i : ℕ) (d : Field) (l : Library) → slice_get format.fields i ≡ Some d → d.encoding ≡ encoding.Library l → knows_all format slots (down_needs format i l) ≡ true →
    DownIs (known_sides format slots) (known_numbers format slots spot.args) (bits_of (learnt_at slots i Uncompressed)) l (side_at (view f) i Compressed)

-- A length by the library.
abbrev pub LengthLaw : Type 0
LengthLaw = (methods : List Method) (ctx : Context) (spot : Spot) (n : ℕ) (format : Format) (slots : List Slot) (f : Filling) → IsLevel methods ctx spot n format slots f →
    (i : ℕ) (d : Field) (l : Library) (side : Side) → slice_get format.fields i ≡ Some d → d.encoding ≡ encoding.Library l → knows_all format slots (length_needs format side l) ≡ true →
    LengthIs (known_numbers format slots spot.args) (ref_at ctx spot d) side l (length (side_at (view f) i side))

-- A length by a constraint: the value of its expression.
abbrev pub ConstraintLaw : Type 0
ConstraintLaw = (methods : List Method) (ctx : Context) (spot : Spot) (n : ℕ) (format : Format) (slots : List Slot) (f : Filling) → IsLevel methods ctx spot n format slots f →
    (i j : ℕ) (side : Side) (k : Constraint) (e : Expr) → slice_get format.constraints j ≡ Some k → length_given i side k ≡ Some e → knows_all format slots (inputs format e) ≡ true →
    IsValue (known_numbers format slots spot.args) e (length (side_at (view f) i side))

-- A value by an equation: the bits of the known length that spell the value of its expression.
abbrev pub SolveLaw : Type 0
SolveLaw = (methods : List Method) (ctx : Context) (spot : Spot) (n : ℕ) (format : Format) (slots : List Slot) (f : Filling) → IsLevel methods ctx spot n format slots f →
    (i j : ℕ) (k : Constraint) (e : Expr) → slice_get format.constraints j ≡ Some k → value_given i k ≡ Some e → knows_all format slots (LengthOf Uncompressed i ∷ inputs format e) ≡ true →
    SolvedIs (known_numbers format slots spot.args) (length (bits_of (learnt_at slots i Uncompressed))) e (side_at (view f) i Uncompressed)

-- A value by an equation of a remainder, where each number of the length is below the divisor: the bits of the known length that spell what is left.
abbrev pub RemainderLaw : Type 0
RemainderLaw = (methods : List Method) (ctx : Context) (spot : Spot) (n : ℕ) (format : Format) (slots : List Slot) (f : Filling) → IsLevel methods ctx spot n format slots f →
    (sizes : FormatSizes) (b : Sizes) (i j : ℕ) (k : Constraint) (c : Congruence) → slice_get format.constraints j ≡ Some k → remainder_given sizes i k ≡ Some c → slice_get sizes.fields i ≡ Some b →
    length (side_at (view f) i Uncompressed) ≤ b.uncompressed.most → knows_all format slots (LengthOf Uncompressed i ∷ inputs format c.more ++ inputs format c.left) ≡ true →
    RemainderIs (known_numbers format slots spot.args) (length (bits_of (learnt_at slots i Uncompressed))) c (side_at (view f) i Uncompressed)

-- A listed field is taken: the next bits.
abbrev pub TakeLaw : Type 0
TakeLaw = (methods : List Method) (ctx : Context) (spot : Spot) (n : ℕ) (format : Format) (slots : List Slot) (f : Filling) → IsLevel methods ctx spot n format slots f →
    (i : ℕ) → lists format.listing i ≡ true → knows_all format slots (LengthOf Compressed i ∷ listed_before format i) ≡ true →
    TakenIs format slots spot i (length (bits_of (learnt_at slots i Compressed))) f

-- A called field: what fills it is ahead where the called method stands.
abbrev pub CallLaw : Type 0
CallLaw = (methods : List Method) (ctx : Context) (spot : Spot) (n : ℕ) (format : Format) (slots : List Slot) (f : Filling) → IsLevel methods ctx spot n format slots f →
    (i : ℕ) (d : Field) (j : ℕ) (es : List Expr) → slice_get format.fields i ≡ Some d → d.encoding ≡ encoding.Call j es →
    knows_all format slots (inputs_of_all format es ++ where_true (lists format.listing i) (listed_before format i)) ≡ true →
    InnerIs methods ctx spot format slots i d j es f

-- what the slots know of all fields is the filling
pub record IsMade (n : ℕ) (format : Format) (slots : List Slot) (g : Filling) : Type 0 where
  pub format_is : (out-Filling g).format ≡ n
  pub listing_is : listing_of g ≡ format.listing
  pub level_is : level g ≡ slot_sides format.fields slots
  pub inner_is : (i : ℕ) → inner_at g i ≡ slot_inner (slice_get slots i)

-- Where the slots know all that a plan wants, the filling that is made of them is the only one ahead.
abbrev pub OnlyMade : Type 0
OnlyMade = (methods : List Method) (ctx : Context) (spot : Spot) (n : ℕ) (format : Format) (slots : List Slot) (f : Filling) → IsLevel methods ctx spot n format slots f →
    (known : List Fact) → is_complete (goals_of Read format) known ≡ true → knows_all format slots known ≡ true →
    (g : Filling) → IsMade n format slots g → f ≡ g
