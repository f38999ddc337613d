-- A certificate that has each kind of line, and its text.
use Rattle.std.specs.Prelude.{◌≡◌, [], ◌∷◌, Some, None, pos, negsuc, codes}
use Rattle.sem_expr.specs.declared.expr.Side.TheVariants.{Uncompressed, Compressed}
use Rattle.cert_types.specs.declared.certificate.Version.TheVariants.{One, Two}
use Rattle.cert_types.specs.declared.certificate.Step.TheVariants.{Take, Call, LibraryUp, LibraryDown, MethodLength, ConstraintLength, Solve, Choose, Ask}
use Rattle.cert_types.specs.declared.certificate.Node.TheVariants.{Bit, Parameter, Reference, Leaf, Nowhere}
use Rattle.cert_types.specs.Kept.{Certified}
use Rattle.cert_text.specs.Text.{certificate_text}

-- one method of two formats, of which it names the first
abbrev pub certificate : Certified
certificate = record {
  version = One;
  methods = Some record {
    name = codes "m";
    parameters = codes "p" ∷ [];
    tree = Parameter 0 (negsuc 2) ∷ Bit 12 ∷ Leaf 0 ∷ Nowhere ∷ Leaf 1 ∷ [];
    formats = record {
      name = Some (codes "one");
      fields = codes "a" ∷ codes "b" ∷ [];
      plans = Some record {
        read = Take 0 ∷ Call 1 ∷ LibraryUp 0 ∷ LibraryDown 1 ∷ MethodLength 0 Compressed ∷ ConstraintLength 1 Uncompressed 10 ∷ Solve 0 2 ∷ [];
        write = Choose 0 ∷ Ask 1 ∷ [];
      };
    } ∷ record { name = None; fields = []; plans = None } ∷ [];
  } ∷ None ∷ [];
}

-- one of the second version, that tests a reference
abbrev pub referring : Certified
referring = record {
  version = Two;
  methods = Some record {
    name = codes "m";
    parameters = [];
    tree = Reference 1 (pos 3) ∷ Leaf 0 ∷ Leaf 1 ∷ [];
    formats = record { name = Some (codes "one"); fields = codes "a" ∷ codes "b" ∷ []; plans = None } ∷ record { name = None; fields = codes "a" ∷ codes "b" ∷ []; plans = None } ∷ [];
  } ∷ [];
}

-- Its text.
abbrev pub IsPrinted : Type 0
IsPrinted = certificate_text certificate ≡
    codes "rohcfn-certificate 1\nmethod m\nparam p -3\nbit 12\nleaf one\nnone\nleaf -\nformat one\nread\ntake a\ncall b\nlibrary a up\nlibrary b down\nlength a C method\nlength b U 10\nsolve a 2\nwrite\nchoose a\nask b\nend\n"

abbrev pub ReferringIsPrinted : Type 0
ReferringIsPrinted = certificate_text referring ≡ codes "rohcfn-certificate 2\nmethod m\nref b 3\nleaf one\nleaf -\nend\n"
