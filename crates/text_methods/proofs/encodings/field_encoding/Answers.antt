use Rattle.std.proofs.Common.{sym}
use Rattle.text_methods.specs.Encodings.{bare}
use Rattle.text_methods.proofs.encodings.field_encoding.Goals as goal

pub returns-in-Some-encoding-clause-right : goal.returns-in-Some-encoding-clause-right
returns-in-Some-encoding-clause-right c = rw c.in-Some.is (c.requires.given c.in-Some.mention c.in-Some-encoding.encoding.now (sym c.in-Some-encoding.ensures)).1

pub returns-in_default-clause-means : goal.returns-in_default-clause-means
returns-in_default-clause-means c = rw (c.in_default.is, c.in_ok-share.ensures, c.requires.bare) bare
