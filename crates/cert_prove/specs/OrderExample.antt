-- The plans of the order for a format that calls a method for a header field, by the bits of a flag before it.
use Rattle.std.specs.Prelude.{false, List, [], ◌∷◌, None, pos, codes}
use Rattle.sem_expr.specs.declared.expr.Subject.TheVariants as subject
use Rattle.sem_expr.specs.declared.expr.Side.TheVariants.{Uncompressed, Compressed}
use Rattle.sem_expr.specs.declared.expr.Measure.TheVariants as measure
use Rattle.sem_expr.specs.declared.expr.Expr.TheVariants.{Number, Attribute}
use Rattle.sem_profile.specs.declared.profile.Part.TheVariants.{Header, Local}
use Rattle.sem_profile.specs.declared.profile.Library.TheVariants as library
use Rattle.sem_profile.specs.declared.profile.Encoding.TheVariants as encoding
use Rattle.sem_profile.specs.declared.profile.Constraint.TheVariants.{Bracket}
use Rattle.sem_profile.specs.declared.profile.Field.{Field}
use Rattle.sem_profile.specs.declared.profile.Format.{Format}
use Rattle.sem_profile.specs.declared.profile.FormatSizes.{FormatSizes}
use Rattle.sem_profile.specs.declared.profile.MethodSizes.{MethodSizes}
use Rattle.cert_types.specs.declared.certificate.Version.{Version}
use Rattle.cert_types.specs.declared.certificate.Direction.TheVariants.{Read, Write}
use Rattle.cert_types.specs.declared.certificate.Step.TheVariants.{Take, Call, LibraryUp, LibraryDown, MethodLength, ConstraintLength, Choose}
use Rattle.cert_rules.specs.Example.{at}
use Rattle.cert_rules.specs.Plans.{way_of}
use Rattle.cert_prove.specs.Order.{order_of}
use Rattle.cert_prove.specs.Ordered.{OrderedPlan}

-- the header field, whose method is given the flag's packed bits
abbrev pub ttl : Field
ttl = record {
  declared = record { name = codes "ttl"; part = Header; asked = false };
  encoding = encoding.Call 0 (Attribute at record { subject = subject.Field 1; side = Compressed; measure = measure.Value } ∷ Number at (pos 8) ∷ []);
  initial = None;
}

-- the flag: irregular(1)
abbrev pub flag : Field
flag = record { declared = record { name = codes "flag"; part = Local; asked = false }; encoding = encoding.Library (library.Irregular (Number at (pos 1))); initial = None }

-- the flag stands before the field; ttl has eight bits, and none or eight of them are sent
abbrev pub format : Format
format = record {
  name = None;
  fields = ttl ∷ flag ∷ [];
  listing = 1 ∷ 0 ∷ [];
  constraints = Bracket 0 Uncompressed (Number at (pos 8) ∷ []) at ∷ Bracket 1 Compressed (Number at (pos 1) ∷ []) at ∷ Bracket 0 Compressed (Number at (pos 0) ∷ Number at (pos 8) ∷ []) at ∷ [];
}

-- Its two plans, of either version and whatever the bounds.
pub record AreOrdered (version : Version) (table : List MethodSizes) (sizes : FormatSizes) : Type 0 where
  pub read : OrderedPlan (way_of version Read table sizes format) (order_of Read format) (MethodLength 1 Compressed ∷ Take 1 ∷ Call 0 ∷ LibraryUp 1 ∷ [])
  pub write : OrderedPlan (way_of version Write table sizes format) (order_of Write format)
      (ConstraintLength 0 Uncompressed 0 ∷ MethodLength 1 Uncompressed ∷ MethodLength 1 Compressed ∷ Choose 1 ∷ LibraryDown 1 ∷ Call 0 ∷ [])

abbrev pub ExampleIsOrdered : Type 0
ExampleIsOrdered = (version : Version) (table : List MethodSizes) (sizes : FormatSizes) → AreOrdered version table sizes
