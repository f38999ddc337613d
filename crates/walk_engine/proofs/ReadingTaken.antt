-- What is taken with a filling that fits is read.
use Rattle.std.proofs.Common.{sym, subst}
use Rattle.std.specs.Prelude.{Option, Some, None, IfSome}
use Rattle.sem_bits.specs.Cursor.{Place}
use Rattle.cert_accepted.specs.Accepted.{Accepting}
use Rattle.sem_context.specs.Entries.{Entries}
use Rattle.sem_filling.specs.declared.filling.Filling.{Filling}
use Rattle.walk_engine.specs.declared.reader.Unpacked.{Unpacked}
use Rattle.walk_engine.specs.Reading.{Fitting, IsTaken, IsUnpacked}

module _ (a : Accepting) (ctx : Entries) (f : Filling) (holds : Fitting a ctx f) (old new : Place) where
  pub read_of : (r : Unpacked) → IsTaken f old new r → IsUnpacked a ctx old new r
  read_of r t = record {
    fits = subst (Fitting a ctx) (sym t.filling_is) holds;
    advances = t.advances;
    header_is = t.header_is;
    bits_is = t.bits_is;
  }

  pub if_taken : (r : Option Unpacked) → IfSome r (IsTaken f old new) → IfSome r (IsUnpacked a ctx old new)
  if_taken (Some r) t = read_of r t
  if_taken None t = tt
