-- What a page shows of a filling.
use Rattle.std.specs.Prelude.{◌≡◌, ℕ, Bool, false, List, [], ◌∷◌, length, Option, Some, None, ℤ, slice_get, option_map, unwrap_or}
use Rattle.sem_expr.specs.declared.expr.Expr.{Expr}
use Rattle.sem_expr.specs.declared.expr.Side.{Side}
use Rattle.sem_expr.specs.declared.expr.Side.TheVariants.{Uncompressed, Compressed}
use Rattle.sem_expr.specs.declared.expr.Subject.{Subject}
use Rattle.sem_expr.specs.declared.expr.Subject.TheVariants as subject
use Rattle.sem_expr.specs.Values.{Assignment}
use Rattle.sem_library.specs.Methods.{Method, Lib}
use Rattle.sem_profile.specs.declared.profile.Constraint.{Constraint}
use Rattle.sem_profile.specs.declared.profile.Encoding.{Encoding}
use Rattle.sem_profile.specs.declared.profile.Encoding.TheVariants as encoding
use Rattle.sem_profile.specs.declared.profile.Field.{Field}
use Rattle.sem_profile.specs.declared.profile.Format.{Format}
use Rattle.sem_profile.specs.declared.profile.Library.{Library}
use Rattle.sem_profile.specs.declared.profile.Method as profile
use Rattle.sem_profile.specs.Fields.{lists}
use Rattle.sem_filling.specs.declared.filling.Filling.{Filling, out-Filling}
use Rattle.sem_filling.specs.declared.filling.FilledField.{FilledField}
use Rattle.sem_filling.specs.declared.filling.AskedValue.{AskedValue}
use Rattle.sem_filling.specs.Fillings.{Sides, sides_of, inner_of, inner_at, listing_of, level, header, packed}
use Rattle.sem_filling.specs.Entries.{Path, below}
use Rattle.sem_filling.specs.declared.whole_sides.WholeSides.{WholeSides}
use Rattle.sem_filling.specs.Fits.{Context, Fits, FieldFits, Holds, assigned, measured, side_of, format_at, method_of, reference_of, vals}
use Rattle.sem_pages.specs.declared.page.Page.{Page, out-Page}
use Rattle.sem_pages.specs.declared.page.Shown.{Shown, out-Shown}

-- ---- a level

-- a field of a format with the two sides that are shown of it, without bits where they aren't read
abbrev pub sides_by : Field → Shown → Sides
sides_by d s = record { declared = d.declared; uncompressed = unwrap_or (out-Shown s).uncompressed []; compressed = unwrap_or (out-Shown s).compressed [] }

-- the value of a field: its name with its uncompressed side
abbrev pub value_by : Field → Shown → AskedValue
value_by d s = record { name = d.declared.name; bits = unwrap_or (out-Shown s).uncompressed [] }

-- both sides of each field
abbrev pub level_by : List Field → List Shown → List Sides
level_by [] ss = []
level_by (d ∷ ds) [] = []
level_by (d ∷ ds) (s ∷ ss) = sides_by d s ∷ level_by ds ss

-- a level as its expressions see it
pub record Looked : Type 0 where
  pub listing : List ℕ
  pub sides : List Sides
  pub arguments : List ℤ

-- the numbers of its attributes and parameters, and the bits of its sides
abbrev pub numbers_in : Looked → Assignment
numbers_in l = assigned l.listing l.sides l.arguments

abbrev pub side_in : Looked → Subject → Side → List Bool
side_in l = side_of l.listing l.sides

-- the library method relates the two sides of the field
pub record IsCodedBy (ctx : Context) (path : Path) (l : Looked) (d : Field) (library : Library) (u c : List Bool) : Type 0 where
  pub method : Method
  pub method_is : method_of (side_in l) (numbers_in l) library ≡ Some method
  pub related : Lib method (reference_of d.declared.part ctx (below path d.declared.name) d.initial) u c

-- ---- what is seen of a level on the way

-- what is there of the fields, the values of the parameters, and each side of the whole once it is known
pub record Seen : Type 0 where
  pub fields : List Shown
  pub arguments : List ℤ
  pub header : Option (List Bool)
  pub packed : Option (List Bool)

-- before the sides of the whole are known
abbrev pub seen_in : List Shown → List ℤ → Seen
seen_in ss args = record { fields = ss; arguments = args; header = None; packed = None }

-- at the end
abbrev pub seen_at_end : List Shown → List ℤ → WholeSides → Seen
seen_at_end ss args w = record { fields = ss; arguments = args; header = Some w.header; packed = Some w.packed }

-- the side of a field, once it is read
abbrev pub shown_side : Option Shown → Side → Option (List Bool)
shown_side None side = None
shown_side (Some s) Uncompressed = (out-Shown s).uncompressed
shown_side (Some s) Compressed = (out-Shown s).compressed

abbrev pub seen_side : Seen → Subject → Side → Option (List Bool)
seen_side v (subject.Field i) side = shown_side (slice_get v.fields i) side
seen_side v subject.This Uncompressed = v.header
seen_side v subject.This Compressed = v.packed

-- the numbers of the attributes that are known, and of the parameters
abbrev pub numbers_seen : Seen → Assignment
numbers_seen v = record { attribute = λ t. option_map (measured t.measure) (seen_side v t.subject t.side); parameter = λ i. slice_get v.arguments i }

-- the level has all that is seen
pub record Bears (l : Looked) (v : Seen) : Type 0 where
  pub arguments_are : l.arguments ≡ v.arguments
  pub sides_are : (subject : Subject) (side : Side) (b : List Bool) → seen_side v subject side ≡ Some b → side_in l subject side ≡ b

-- the library method relates the two sides of the field on each level that has what is seen
abbrev pub IsCodedOn : Context → Path → Seen → Field → Library → List Bool → List Bool → Type 0
IsCodedOn ctx path v d library u c = (l : Looked) → Bears l v → IsCodedBy ctx path l d library u c

-- the constraint holds of each level that has what is seen
abbrev pub HoldsOn : Seen → Constraint → Type 0
HoldsOn v c = (l : Looked) → Bears l v → Holds (side_in l) (numbers_in l) c

-- ---- what is shown

mutual
  -- The page shows the filling of the method k: its format, the fields of that format with the sides that stand on the page, and what is inside each of them.
  pub data Shows (methods : List profile.Method) : ℕ → Page → Filling → Type 0 where
    shows : {k : ℕ} {p : Page} {f : Filling} (format : Format) →
        format_at methods k (out-Page p).format ≡ Some format →
        (out-Filling f).format ≡ (out-Page p).format →
        listing_of f ≡ format.listing →
        level f ≡ level_by format.fields (out-Page p).fields →
        ((i : ℕ) (d : Field) (s : Shown) → slice_get format.fields i ≡ Some d → slice_get (out-Page p).fields i ≡ Some s →
        ShowsInside methods d.encoding (out-Shown s).inner (inner_at f i)) →
        Shows methods k p f

  -- Neither has anything inside the field; or the field calls a method, and the page inside shows the filling inside.
  pub data ShowsInside (methods : List profile.Method) : Encoding → Option Page → Option Filling → Type 0 where
    nothing : {e : Encoding} → ShowsInside methods e None None
    called : {e : Encoding} {k : ℕ} {es : List Expr} {p : Page} {f : Filling} → e ≡ encoding.Call k es → Shows methods k p f → ShowsInside methods e (Some p) (Some f)

-- the field of a filling is what the page shows of it
pub record StandsFor (methods : List profile.Method) (d : Field) (s : Shown) (g : FilledField) : Type 0 where
  pub sides_are : sides_of g ≡ sides_by d s
  pub inside : ShowsInside methods d.encoding (out-Shown s).inner (inner_of g)

-- ---- what a page is of: its fields, its filling, what is called

-- a field of a filling that fits its encoding among these numbers, and that stands on the page
pub record IsShownBy (methods : List profile.Method) (ctx : Context) (path : Path) (l : Looked) (d : Field) (s : Shown) (g : FilledField) : Type 0 where
  pub sides_are : sides_of g ≡ sides_by d s
  pub fits : FieldFits methods ctx (side_in l) (numbers_in l) path d d.encoding g
  pub inside : ShowsInside methods d.encoding (out-Shown s).inner (inner_of g)

-- there is such a field
abbrev pub HasField : List profile.Method → Context → Path → Looked → Field → Shown → Type 0
HasField methods ctx path l d s = (g : FilledField) × IsShownBy methods ctx path l d s g

-- of each field of the format with what stands on the page of it
abbrev pub HasFields : List profile.Method → Context → Path → Looked → List Field → List Shown → Type 0
HasFields methods ctx path l ds ss = (i : ℕ) (d : Field) (s : Shown) → slice_get ds i ≡ Some d → slice_get ss i ≡ Some s → HasField methods ctx path l d s

-- a filling that fits the method, that the page shows, and that has these two sides
pub record IsPageOf (methods : List profile.Method) (ctx : Context) (k : ℕ) (args : List ℤ) (path : Path) (p : Page) (header_is packed_is : List Bool) : Type 0 where
  pub filling : Filling
  pub fits : Fits methods ctx k args path filling
  pub shown : Shows methods k p filling
  pub header_same : header_is ≡ header filling
  pub packed_same : packed_is ≡ packed filling

-- inside the field is a page of a filling that fits the method, which gives the field its two sides
pub record IsInside (methods : List profile.Method) (ctx : Context) (k : ℕ) (args : List ℤ) (path : Path) (s : Shown) : Type 0 where
  pub page : Page
  pub page_is : (out-Shown s).inner ≡ Some page
  pub is_page : IsPageOf methods ctx k args path page (unwrap_or (out-Shown s).uncompressed []) (unwrap_or (out-Shown s).compressed [])

-- the same under the values of these expressions, below the path of the field
pub record IsCalledBy (methods : List profile.Method) (ctx : Context) (path : Path) (l : Looked) (d : Field) (s : Shown) (k : ℕ) (es : List Expr) : Type 0 where
  pub args : List ℤ
  pub values_are : vals (numbers_in l) es ≡ Some args
  pub inside : IsInside methods ctx k args (below path d.declared.name) s

-- ---- what is read of a level

-- the field is read: both its sides are there
pub record IsWhole (s : Shown) (u c : List Bool) : Type 0 where
  pub uncompressed_is : (out-Shown s).uncompressed ≡ Some u
  pub compressed_is : (out-Shown s).compressed ≡ Some c

-- it is read, and has no packed bits unless the listing has its index
pub record IsUnsent (listing : List ℕ) (i : ℕ) (s : Shown) : Type 0 where
  pub uncompressed : List Bool
  pub compressed : List Bool
  pub sides_are : IsWhole s uncompressed compressed
  pub unsent : lists listing i ≡ false → compressed ≡ []

-- it is read, and nothing is inside it
pub record IsPlain (s : Shown) (u c : List Bool) : Type 0 where
  pub sides_are : IsWhole s u c
  pub inner_is : (out-Shown s).inner ≡ None

-- the field with what stands on the page of it fits its encoding on each level that has what is seen
abbrev pub FitsOn : List profile.Method → Context → Path → Seen → Field → Shown → Type 0
FitsOn methods ctx path v d s = (l : Looked) → Bears l v → HasField methods ctx path l d s

-- the same of these sides with nothing inside
abbrev pub ReadsAs : List profile.Method → Context → Path → Seen → Field → List Bool → List Bool → Type 0
ReadsAs methods ctx path v d u c = (s : Shown) → IsPlain s u c → FitsOn methods ctx path v d s

-- what is there of the one stands in the other
abbrev pub Keeps : Shown → Shown → Type 0
Keeps s t = (side : Side) (b : List Bool) → shown_side (Some s) side ≡ Some b → shown_side (Some t) side ≡ Some b

-- Of the fields of a format each that is read fits its encoding, and each constraint of these holds, on each level that has what is seen.
pub record AreRead (methods : List profile.Method) (ctx : Context) (path : Path) (format : Format) (v : Seen) (solved : List ℕ) : Type 0 where
  pub count : length v.fields ≡ length format.fields
  pub fields : (i : ℕ) (d : Field) (s : Shown) (u c : List Bool) → slice_get format.fields i ≡ Some d → slice_get v.fields i ≡ Some s → IsWhole s u c → FitsOn methods ctx path v d s
  pub constraints : (n j : ℕ) (c : Constraint) → slice_get solved n ≡ Some j → slice_get format.constraints j ≡ Some c → HoldsOn v c
