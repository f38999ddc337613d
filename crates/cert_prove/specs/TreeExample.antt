-- Worked trees, by hand from the rule: of the method tick, of static_or_irreg, which opt calls, and of kind, which wrap calls (tests/reference/samples.py).
use Rattle.std.specs.Prelude.{ℕ, false, [], ◌∷◌, List, None, Some, ℤ, pos, codes}
use Rattle.text_source.specs.declared.span.Span.{Span}
use Rattle.sem_expr.specs.declared.expr.Comparison.TheVariants.{Equal}
use Rattle.sem_expr.specs.declared.expr.Side.TheVariants.{Uncompressed, Compressed}
use Rattle.sem_expr.specs.declared.expr.Measure.TheVariants as measure
use Rattle.sem_expr.specs.declared.expr.Subject.TheVariants.{This}
use Rattle.sem_expr.specs.declared.expr.Expr.{Expr}
use Rattle.sem_expr.specs.declared.expr.Expr.TheVariants as expr
use Rattle.sem_expr.specs.declared.expr.Cond.TheVariants.{Compare}
use Rattle.sem_profile.specs.declared.profile.Part.{Part}
use Rattle.sem_profile.specs.declared.profile.Part.TheVariants.{Header, Local}
use Rattle.sem_profile.specs.declared.profile.Library.{Library}
use Rattle.sem_profile.specs.declared.profile.Library.TheVariants as library
use Rattle.sem_profile.specs.declared.profile.Encoding.TheVariants as encoding
use Rattle.sem_profile.specs.declared.profile.Constraint.{Constraint}
use Rattle.sem_profile.specs.declared.profile.Constraint.TheVariants.{Bracket, Enforce}
use Rattle.sem_profile.specs.declared.profile.Bounds.{Bounds}
use Rattle.sem_profile.specs.declared.profile.Sizes.{Sizes}
use Rattle.sem_profile.specs.declared.profile.Field.{Field}
use Rattle.sem_profile.specs.declared.profile.Format.{Format}
use Rattle.sem_profile.specs.declared.profile.FormatSizes.{FormatSizes}
use Rattle.sem_profile.specs.declared.profile.MethodSizes.{MethodSizes}
use Rattle.cert_types.specs.declared.certificate.Version.TheVariants.{One}
use Rattle.cert_types.specs.declared.certificate.Node.TheVariants.{Bit, Parameter, Leaf}
use Rattle.cert_prove.specs.Growing.{OrderedTree}

-- ---- parts of formats

-- the place of everything
abbrev pub at : Span
at = record { from = 0; to = 0 }

abbrev pub number : ℤ → Expr
number n = expr.Number at n

abbrev pub field : List ℕ → Part → Library → Field
field name part l = record { declared = record { name = name; part = part; asked = false }; encoding = encoding.Library l; initial = None }

-- a field of the format alone that spells a constant of so many bits
abbrev pub tag : ℤ → ℤ → Field
tag width value = field (codes "d") Local (library.CompressedValue (number width) (number value))

-- [e]
abbrev pub bracket : ℕ → Expr → Constraint
bracket i e = Bracket i Compressed (e ∷ []) at

abbrev pub just : ℕ → Bounds
just n = record { least = n; most = n }

-- the lengths of a field's two sides, of so many bits each
abbrev pub lengths : ℕ → ℕ → Sizes
lengths u c = record { uncompressed = just u; compressed = just c }

-- ---- tick

abbrev pub short : Format
short = record {
  name = Some (codes "short");
  fields = field (codes "sn") Header (library.Lsb (number (pos 4)) (number (pos 1))) ∷ tag (pos 1) (pos 0) ∷ field (codes "c") Local
      (library.Crc record {
        bits = number (pos 3);
        polynomial = number (pos 6);
        initial = number (pos 7);
        subject = This;
        side = Uncompressed;
        length = expr.Attribute at (record { subject = This; side = Uncompressed; measure = measure.Length });
      }) ∷ [];
  listing = 1 ∷ 0 ∷ 2 ∷ [];
  constraints = Bracket 0 Uncompressed (number (pos 8) ∷ []) at ∷ bracket 1 (number (pos 1)) ∷ bracket 0 (number (pos 4)) ∷ bracket 2 (number (pos 3)) ∷ [];
}

abbrev pub full : Format
full = record {
  name = Some (codes "full");
  fields = field (codes "sn") Header (library.Irregular (number (pos 8))) ∷ tag (pos 1) (pos 1) ∷ [];
  listing = 1 ∷ 0 ∷ [];
  constraints = Bracket 0 Uncompressed (number (pos 8) ∷ []) at ∷ bracket 1 (number (pos 1)) ∷ bracket 0 (number (pos 8)) ∷ [];
}

abbrev pub tick_sizes : MethodSizes
tick_sizes = record {
  formats = record { fields = lengths 8 4 ∷ lengths 0 1 ∷ lengths 0 3 ∷ []; whole = lengths 8 8 } ∷ record { fields = lengths 8 8 ∷ lengths 0 1 ∷ []; whole = lengths 8 9 } ∷ [];
  whole = record { uncompressed = just 8; compressed = record { least = 8; most = 9 } };
  parameters = [];
}

-- bit 0, leaf short, leaf full
abbrev pub TickIsOrdered : Type 0
TickIsOrdered = OrderedTree One (short ∷ full ∷ []) tick_sizes (Bit 0 ∷ Leaf 0 ∷ Leaf 1 ∷ [])

-- ---- static_or_irreg

-- flag == n
abbrev pub flag_is : ℤ → Constraint
flag_is n = Enforce (Compare at Equal (expr.Parameter at 0) (number n)) at

abbrev pub width : Expr
width = expr.Parameter at 1

abbrev pub irreg_enc : Format
irreg_enc = record {
  name = Some (codes "irreg_enc");
  fields = field (codes "field") Header (library.Irregular width) ∷ [];
  listing = 0 ∷ [];
  constraints = Bracket 0 Uncompressed (width ∷ []) at ∷ flag_is (pos 1) ∷ bracket 0 width ∷ [];
}

abbrev pub static_enc : Format
static_enc = record {
  name = Some (codes "static_enc");
  fields = field (codes "field") Header library.Static ∷ [];
  listing = 0 ∷ [];
  constraints = Bracket 0 Uncompressed (width ∷ []) at ∷ flag_is (pos 0) ∷ bracket 0 (number (pos 0)) ∷ [];
}

abbrev pub up_to : ℕ → Bounds
up_to n = record { least = 0; most = n }

-- the flag is 0 or 1, the width is 8
abbrev pub opt_sizes : MethodSizes
opt_sizes = record {
  formats = record { fields = record { uncompressed = up_to 64; compressed = up_to 64 } ∷ []; whole = record { uncompressed = up_to 64; compressed = up_to 64 } } ∷
      record { fields = record { uncompressed = up_to 64; compressed = just 0 } ∷ []; whole = record { uncompressed = up_to 64; compressed = just 0 } } ∷ [];
  whole = record { uncompressed = up_to 64; compressed = up_to 64 };
  parameters = record { from = pos 0; to = pos 1 } ∷ record { from = pos 8; to = pos 8 } ∷ [];
}

-- param flag 1, leaf irreg_enc, leaf static_enc
abbrev pub OptIsOrdered : Type 0
OptIsOrdered = OrderedTree One (irreg_enc ∷ static_enc ∷ []) opt_sizes (Parameter 0 (pos 1) ∷ Leaf 0 ∷ Leaf 1 ∷ [])

-- ---- kind

-- a format of a value, with a tag of so many bits
abbrev pub kind : List ℕ → ℤ → ℤ → ℤ → Format
kind name bits tagged value = record {
  name = Some name;
  fields = field (codes "x") Header (library.UncompressedValue (number (pos 8)) (number value)) ∷ tag bits tagged ∷ [];
  listing = 1 ∷ 0 ∷ [];
  constraints = Bracket 0 Uncompressed (number (pos 8) ∷ []) at ∷ bracket 1 (number bits) ∷ [];
}

abbrev pub tagged_sizes : ℕ → FormatSizes
tagged_sizes n = record { fields = lengths 8 0 ∷ lengths 0 n ∷ []; whole = lengths 8 n }

abbrev pub kind_sizes : MethodSizes
kind_sizes = record {
  formats = tagged_sizes 1 ∷ tagged_sizes 2 ∷ tagged_sizes 2 ∷ [];
  whole = record { uncompressed = just 8; compressed = record { least = 1; most = 2 } };
  parameters = [];
}

-- the tags are 0, 10 and 11
abbrev pub kinds : List Format
kinds = kind (codes "one") (pos 1) (pos 0) (pos 1) ∷ kind (codes "two") (pos 2) (pos 2) (pos 2) ∷ kind (codes "three") (pos 2) (pos 3) (pos 3) ∷ []

-- bit 0, leaf one, bit 1, leaf two, leaf three
abbrev pub KindIsOrdered : Type 0
KindIsOrdered = OrderedTree One kinds kind_sizes (Bit 0 ∷ Leaf 0 ∷ Bit 1 ∷ Leaf 1 ∷ Leaf 2 ∷ [])
