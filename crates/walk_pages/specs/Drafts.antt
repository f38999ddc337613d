-- What is known of a level that is being read.
use Rattle.std.specs.Prelude.{◌≡◌, ℕ, ℤ, Bool, List, [], length, Option, None, Some, slice_get, slice_set}
use Rattle.sem_context.specs.Entries.{bits_at}
use Rattle.cert_rules.specs.Rules.{value_given}
use Rattle.sem_expr.specs.declared.expr.Expr.{Expr}
use Rattle.sem_profile.specs.declared.profile.Encoding.TheVariants as encoding
use Rattle.sem_profile.specs.declared.profile.Constraint.{Constraint}
use Rattle.sem_profile.specs.declared.profile.Field.{Field}
use Rattle.sem_profile.specs.declared.profile.Format.{Format}
use Rattle.sem_profile.specs.declared.profile.Method.{Method}
use Rattle.sem_filling.specs.Fillings.{header_bits}
use Rattle.sem_filling.specs.Entries.{Path, below}
use Rattle.sem_filling.specs.Fits.{Context, vals}
use Rattle.sem_pages.specs.declared.frame.PageFrame.{PageFrame}
use Rattle.sem_pages.specs.declared.page.BothSides.{BothSides}
use Rattle.sem_pages.specs.declared.page.Shown.{Shown, out-Shown, roll-Shown}
use Rattle.sem_pages.specs.declared.prepared.LengthTest.{LengthTest}
use Rattle.sem_pages.specs.Prepared.{IsPrepared, IsTest}
use Rattle.sem_pages.specs.Prepared as prepared
use Rattle.sem_pages.specs.Pages.{AreRead, HoldsOn, IsPageOf, IsPlain, ReadsAs, Seen, level_by, numbers_seen, seen_in}
use Rattle.walk_pages.specs.declared.draft.Draft.{Draft}
use Rattle.walk_pages.specs.declared.draft.PackedPage.{PackedPage}
use Rattle.walk_pages.specs.declared.draft.WholePage.{WholePage}

-- a field of which nothing is read
abbrev pub blank : Shown
blank = roll-Shown record { uncompressed = None; compressed = None; inner = None }

-- what a field begins with: a constant has both its sides, and of all else nothing is read
abbrev pub BeginsWith : Option BothSides → Shown → Type 0
BeginsWith None s = s ≡ blank
BeginsWith (Some b) s = IsPlain s b.uncompressed b.compressed

-- what is seen of it
abbrev pub seen_of : Draft → Seen
seen_of d = seen_in d.fields d.arguments.now

-- each field that is read fits its encoding in the frame, and each constraint that is solved holds; and what is prepared is of the format
pub record IsRight (frame : PageFrame) (d : Draft) : Type 0 where
  pub read : AreRead frame.methods.now (bits_at frame.context.now) frame.path.now d.format.now (seen_of d) d.solved.items
  pub prepared : IsPrepared d.format.now d.told.prepared.now

-- the field of the format, which has this index, fits its encoding with these sides
abbrev pub IsReadIn : PageFrame → Draft → ℕ → Field → BothSides → Type 0
IsReadIn frame d i field b = IsPrepared d.format.now d.told.prepared.now → slice_get d.format.now.fields i ≡ Some field → ReadsAs frame.methods.now (bits_at frame.context.now) frame.path.now (seen_of d) field b.uncompressed b.compressed

-- the format, what is prepared of it, and the values of the parameters stay
pub record IsSame (old new : Draft) : Type 0 where
  pub format_is : new.format.now ≡ old.format.now
  pub arguments_are : new.arguments.now ≡ old.arguments.now
  pub prepared_is : new.told.prepared.now ≡ old.told.prepared.now

-- Of a field nothing was read, and this stands there now; nothing else is read or solved.
pub record IsPut (i : ℕ) (after : Shown) (old new : Draft) : Type 0 where
  pub before : Shown
  pub before_is : slice_get old.fields i ≡ Some before
  pub not_up : (out-Shown before).uncompressed ≡ None
  pub not_down : (out-Shown before).compressed ≡ None
  pub fields_are : new.fields ≡ slice_set old.fields i after
  pub solved_are : new.solved.items ≡ old.solved.items
  pub same : IsSame old new

-- the draft goes on: it is right if it was, and of the same format and arguments
pub record GoesOn (frame : PageFrame) (old new : Draft) : Type 0 where
  pub right : IsRight frame old → IsRight frame new
  pub same : IsSame old new

-- Of a field nothing was there; it has these bits now, and those that are sent.
pub record HasValue (i : ℕ) (bits : List Bool) (old new : Draft) : Type 0 where
  pub down : List Bool
  pub after : Shown
  pub plain : IsPlain after bits down
  pub put : IsPut i after old new

-- the draft goes on with the constraint of that number, if that says that the field's value is that of the expression
abbrev pub IsSolved : PageFrame → ℕ → ℕ → Expr → Draft → Draft → Type 0
IsSolved frame i j e old new = (c : Constraint) → slice_get old.format.now.constraints j ≡ Some c → value_given i c ≡ Some e → GoesOn frame old new

-- the page is that of a filling that fits the frame, with these sides of its whole
abbrev pub IsWholePage : PageFrame → WholePage → Type 0
IsWholePage frame w = IsPageOf frame.methods.now (bits_at frame.context.now) frame.method frame.arguments.now frame.path.now w.page w.whole.header w.whole.packed

-- the same of a page whose header is this one
abbrev pub IsPackedPage : PageFrame → List Bool → PackedPage → Type 0
IsPackedPage frame h w = IsPageOf frame.methods.now (bits_at frame.context.now) frame.method frame.arguments.now frame.path.now w.page h w.packed

-- the field calls a method, of which the page is one under the values of the arguments, below the path of the field
pub record IsCalled (frame : PageFrame) (d : Draft) (i : ℕ) (w : WholePage) : Type 0 where
  pub field : Field
  pub field_is : slice_get d.format.now.fields i ≡ Some field
  pub method : ℕ
  pub exprs : List Expr
  pub encoding_is : field.encoding ≡ encoding.Call method exprs
  pub arguments : List ℤ
  pub values_are : vals (numbers_seen (seen_of d)) exprs ≡ Some arguments
  pub is_page : IsPageOf frame.methods.now (bits_at frame.context.now) method arguments (below frame.path.now field.declared.name) w.page w.whole.header w.whole.packed

-- the field sends a checksum, and these are its bits on each level that has what is seen
abbrev pub IsSummed : Seen → Field → List Bool → Type 0
IsSummed v d c = (methods : List Method) (ctx : Context) (path : Path) → ReadsAs methods ctx path v d [] c

-- what is seen once the header is known
abbrev pub seen_with_header : List Shown → List ℤ → List Bool → Seen
seen_with_header ss args h = record { fields = ss; arguments = args; header = Some h; packed = None }

-- the constraint of this index holds of what is seen, if it does where it is solved
abbrev pub IsSettled : Seen → List Constraint → List ℕ → ℕ → Type 0
IsSettled v cs solved j = (c : Constraint) → slice_get cs j ≡ Some c → ((n : ℕ) → slice_get solved n ≡ Some j → HoldsOn v c) → HoldsOn v c

-- what the encodings of these fields settle holds of what is seen
abbrev pub AreEncoded : Seen → List Field → Type 0
AreEncoded v ds = (t : LengthTest) → prepared.IsSettled ds t → (c : Constraint) → IsTest c t → HoldsOn v c

-- the constraints of the format hold of what is seen, if those do that are solved or settled by encodings
abbrev pub AreSettled : Seen → Format → List ℕ → Type 0
AreSettled v format solved = AreEncoded v format.fields → ((n j : ℕ) (c : Constraint) → slice_get solved n ≡ Some j → slice_get format.constraints j ≡ Some c → HoldsOn v c)
    → (j : ℕ) (c : Constraint) → slice_get format.constraints j ≡ Some c → HoldsOn v c

-- the fields are as right as they were, and the header is the same
pub record AreEnded (format : Format) (args : List ℤ) (h : List Bool) (old new : List Shown) : Type 0 where
  pub read : (methods : List Method) (ctx : Context) (path : Path) (solved : List ℕ) → AreRead methods ctx path format (seen_with_header old args h) solved → AreRead methods ctx path format (seen_with_header new args h) solved
  pub count_is : length new ≡ length old
  pub header_is : header_bits (level_by format.fields new) ≡ header_bits (level_by format.fields old)
