-- What a format alone tells of each of its levels.
use Rattle.std.specs.Prelude.{◌≡◌, ℕ, ◌<◌, Bool, List, length, Option, Some, IfSome, ℤ, pos, slice_get}
use Rattle.sem_expr.specs.declared.expr.Expr.{Expr}
use Rattle.sem_expr.specs.declared.expr.Side.{Side}
use Rattle.sem_expr.specs.declared.expr.Side.TheVariants.{Compressed, Uncompressed}
use Rattle.sem_expr.specs.declared.expr.Subject.{Subject}
use Rattle.sem_expr.specs.declared.expr.Subject.TheVariants as subject
use Rattle.sem_expr.specs.Values.{Assignment, val}
use Rattle.sem_profile.specs.declared.profile.Constraint.{Constraint}
use Rattle.sem_profile.specs.declared.profile.Encoding.TheVariants as encoding
use Rattle.sem_profile.specs.declared.profile.Field.{Field}
use Rattle.sem_profile.specs.declared.profile.Format.{Format}
use Rattle.sem_profile.specs.declared.profile.Library.{Library}
use Rattle.sem_profile.specs.declared.profile.Library.TheVariants as library
use Rattle.sem_profile.specs.declared.profile.Method.{Method}
use Rattle.sem_filling.specs.Coding.{HasSpelling}
use Rattle.sem_filling.specs.Entries.{Path}
use Rattle.sem_filling.specs.Fits.{Context, method_of}
use Rattle.sem_library.specs.Methods as lib
use Rattle.sem_pages.specs.declared.page.BothSides.{BothSides}
use Rattle.sem_pages.specs.declared.prepared.Computed.{Computed}
use Rattle.sem_pages.specs.declared.prepared.LengthTest.{LengthTest}
use Rattle.sem_pages.specs.declared.prepared.Prepared.{Prepared}
use Rattle.sem_pages.specs.Chains.{IsOperand}
use Rattle.sem_pages.specs.Made.{AreMade}
use Rattle.sem_pages.specs.Pages.{HoldsOn, IsCodedOn, ReadsAs, Seen, seen_side}

-- the expression is a number: it has this value whatever is known
abbrev pub IsNumber : Expr → ℤ → Type 0
IsNumber e n = (a : Assignment) → val a e ≡ Some n

-- these bits are as many as the one expression says, and spell the other, whatever is known
abbrev pub IsSpelled : Expr → Expr → List Bool → Type 0
IsSpelled len n w = (a : Assignment) → HasSpelling a len n w

-- the library method relates these sides on each level
abbrev pub IsConstantBy : Library → List Bool → List Bool → Type 0
IsConstantBy library u c = (ctx : Context) (path : Path) (v : Seen) (d : Field) → IsCodedOn ctx path v d library u c

-- a field with these sides fits its encoding on each level
abbrev pub IsConstant : Field → List Bool → List Bool → Type 0
IsConstant d u c = (methods : List Method) (ctx : Context) (path : Path) (v : Seen) → ReadsAs methods ctx path v d u c

abbrev pub HasConstant : Field → Option BothSides → Type 0
HasConstant d o = IfSome o (λ b. IsConstant d b.uncompressed b.compressed)

-- for each field, in field order, the sides that it has on each level, where it is told that it has some
pub record AreConstants (ds : List Field) (cs : List (Option BothSides)) : Type 0 where
  pub count : length cs ≡ length ds
  pub each : (i : ℕ) (d : Field) (o : Option BothSides) → slice_get ds i ≡ Some d → slice_get cs i ≡ Some o → HasConstant d o

-- a field with these sides fits its encoding on each level that has what is seen
abbrev pub IsReadOn : Seen → Field → List Bool → List Bool → Type 0
IsReadOn v d u c = (methods : List Method) (ctx : Context) (path : Path) → ReadsAs methods ctx path v d u c

-- the one expression is the count of bits, and the other means the operand among the chains
pub record IsWorkedOut (length value : Expr) (x : Computed) : Type 0 where
  pub count_is : IsNumber length (pos x.count)
  pub value_is : IsOperand x.chains x.value (λ a. val a value)

-- the library method says the count of bits and the expression
pub record IsComputedBy (l : Library) (x : Computed) : Type 0 where
  pub length : Expr
  pub value : Expr
  pub library_is : l ≡ library.UncompressedValue length value
  pub is : IsWorkedOut length value x

-- the field is worked out so
pub record IsComputed (d : Field) (x : Computed) : Type 0 where
  pub library : Library
  pub encoding_is : d.encoding ≡ encoding.Library library
  pub by : IsComputedBy library x

abbrev pub HasComputed : Field → Option Computed → Type 0
HasComputed d o = IfSome o (IsComputed d)

-- one of the lengths of a bracket is this one, whatever is known
abbrev pub IsOneCount : List Expr → ℕ → Type 0
IsOneCount lengths n = (a : Assignment) → (j : ℕ) × (e : Expr) × (slice_get lengths j ≡ Some e) × (val a e ≡ Some (pos n))

-- the side has so many bits
abbrev pub Passes : Seen → LengthTest → Type 0
Passes v t = (w : List Bool) × (seen_side v (subject.Field t.field) t.side ≡ Some w) × (length w ≡ t.count)

-- what passes the test is a level of which the constraint holds
abbrev pub IsTest : Constraint → LengthTest → Type 0
IsTest c t = (v : Seen) → Passes v t → HoldsOn v c

-- the bits of a side
abbrev pub on_side : Side → List Bool → List Bool → List Bool
on_side Uncompressed u c = u
on_side Compressed u c = c

-- the side has so many bits where the library method relates the two
abbrev pub HasCountBy : Library → Side → ℕ → Type 0
HasCountBy l which n = (sides : Subject → Side → List Bool) (a : Assignment) (m : lib.Method) (ref : Option (List Bool)) (u c : List Bool) → method_of sides a l ≡ Some m → lib.Lib m ref u c → length (on_side which u c) ≡ n

-- the side has so many bits by the field's encoding
pub record HasCount (d : Field) (which : Side) (n : ℕ) : Type 0 where
  pub library : Library
  pub encoding_is : d.encoding ≡ encoding.Library library
  pub count : HasCountBy library which n

-- the test is passed by the encoding of its field
pub record IsSettled (ds : List Field) (t : LengthTest) : Type 0 where
  pub field : Field
  pub field_is : slice_get ds t.field ≡ Some field
  pub count : HasCount field t.side t.count

-- the constraint of this index has one of the tests, or one that is settled, or its index is among the others
pub data IsCovered (ds : List Field) (tests : List LengthTest) (others : List ℕ) (j : ℕ) (c : Constraint) : Type 0 where
  by_test : (m : ℕ) (t : LengthTest) → slice_get tests m ≡ Some t → IsTest c t → IsCovered ds tests others j c
  by_encoding : (t : LengthTest) → IsSettled ds t → IsTest c t → IsCovered ds tests others j c
  by_value : (m : ℕ) → slice_get others m ≡ Some j → IsCovered ds tests others j c

-- those of these constraints up to an index are covered
abbrev pub AreCovered : List Field → List Constraint → List LengthTest → List ℕ → ℕ → Type 0
AreCovered ds all tests others n = (j : ℕ) (c : Constraint) → j < n → slice_get all j ≡ Some c → IsCovered ds tests others j c

-- what is prepared is of the format
pub record IsPrepared (format : Format) (p : Prepared) : Type 0 where
  pub constants : AreConstants format.fields p.constants
  pub computed : AreMade HasComputed format.fields p.computed (length format.fields)
  pub covered : AreCovered format.fields format.constraints p.lengths p.others (length format.constraints)
