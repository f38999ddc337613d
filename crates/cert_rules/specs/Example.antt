-- A profile of one method, whose header field of four bits is sent as it is, with a certificate.
use Rattle.std.specs.Prelude.{false, [], ◌∷◌, None, Some, pos, codes}
use Rattle.text_source.specs.declared.span.Span.{Span}
use Rattle.sem_expr.specs.declared.expr.Side.TheVariants.{Uncompressed, Compressed}
use Rattle.sem_expr.specs.declared.expr.Expr.TheVariants.{Number}
use Rattle.sem_profile.specs.declared.profile.Part.TheVariants.{Header}
use Rattle.sem_profile.specs.declared.profile.Library.TheVariants as library
use Rattle.sem_profile.specs.declared.profile.Encoding.TheVariants as encoding
use Rattle.sem_profile.specs.declared.profile.Sizes.{Sizes}
use Rattle.sem_profile.specs.declared.profile.Field.{Field}
use Rattle.sem_profile.specs.declared.profile.Format.{Format}
use Rattle.sem_profile.specs.declared.profile.Method.{Method}
use Rattle.sem_profile.specs.declared.profile.MethodSizes.{MethodSizes}
use Rattle.cert_types.specs.declared.certificate.Version.TheVariants.{One}
use Rattle.cert_types.specs.declared.certificate.Step.TheVariants.{Take, LibraryUp, LibraryDown, MethodLength}
use Rattle.cert_types.specs.declared.certificate.Node.TheVariants as node
use Rattle.cert_types.specs.Kept.{Certified}
use Rattle.cert_rules.specs.Valid.{Valid}

-- the place of everything
abbrev pub at : Span
at = record { from = 0; to = 0 }

-- both sides have four bits
abbrev pub four : Sizes
four = record { uncompressed = record { least = 4; most = 4 }; compressed = record { least = 4; most = 4 } }

-- the header field: irregular(4)
abbrev pub x : Field
x = record { declared = record { name = codes "x"; part = Header; asked = false }; encoding = encoding.Library (library.Irregular (Number at (pos 4))); initial = None }

-- the one format
abbrev pub format : Format
format = record { name = None; fields = x ∷ []; listing = 0 ∷ []; constraints = [] }

-- its method
abbrev pub method : Method
method = record { name = codes "plain"; place = at; parameters = []; formats = format ∷ [] }

-- the bounds of the method
abbrev pub sizes : MethodSizes
sizes = record { formats = record { fields = four ∷ []; whole = four } ∷ []; whole = four; parameters = [] }

-- the certificate, of one leaf and two plans of three steps
abbrev pub certificate : Certified
certificate = record {
  version = One;
  methods = Some record {
    name = codes "plain";
    parameters = [];
    tree = node.Leaf 0 ∷ [];
    formats = record {
      name = None;
      fields = codes "x" ∷ [];
      plans = Some record {
        read = MethodLength 0 Compressed ∷ Take 0 ∷ LibraryUp 0 ∷ [];
        write = MethodLength 0 Uncompressed ∷ Take 0 ∷ LibraryDown 0 ∷ [];
      };
    } ∷ [];
  } ∷ [];
}

-- It is valid.
abbrev pub PlainIsValid : Type 0
PlainIsValid = Valid (method ∷ []) (sizes ∷ []) 0 certificate
