-- The text of the example.
use Rattle.std.proofs.Common.{refl}
use Rattle.std.specs.Fmt.{digits}
use Rattle.cert_text.specs.Example.{IsPrinted, ReferringIsPrinted}

pub is_printed : IsPrinted
unfolding digits
is_printed = refl

pub referring_is_printed : ReferringIsPrinted
unfolding digits
referring_is_printed = refl
