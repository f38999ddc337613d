-- The facts that a step needs, written out: those of THIS once for each side and measure.
use Rattle.std.specs.Prelude.{◌≡◌, Bool, true, List, ◌++◌}
use Rattle.std.specs.List.{list_all}
use Rattle.sem_expr.specs.declared.expr.Side.{Side}
use Rattle.sem_expr.specs.declared.expr.Side.TheVariants.{Uncompressed, Compressed}
use Rattle.sem_expr.specs.declared.expr.Measure.{Measure}
use Rattle.sem_expr.specs.declared.expr.Measure.TheVariants.{Length, Value}
use Rattle.sem_expr.specs.declared.expr.Subject.TheVariants.{This}
use Rattle.sem_profile.specs.declared.profile.Format.{Format}
use Rattle.cert_types.specs.declared.rule.Fact.{Fact}
use Rattle.cert_rules.specs.Facts.{side_facts}
use Rattle.cert_prove.specs.declared.needed.Wholes.{Wholes}

-- a side and a measure of THIS are among those that are written out
abbrev pub is_in : Wholes → Side → Measure → Bool
is_in w Uncompressed Length = w.uncompressed_length
is_in w Uncompressed Value = w.uncompressed_bits
is_in w Compressed Length = w.compressed_length
is_in w Compressed Value = w.compressed_bits

-- and these too
abbrev pub with_whole : Wholes → Side → Measure → Wholes
with_whole w Uncompressed Length = record w { uncompressed_length = true }
with_whole w Uncompressed Value = record w { uncompressed_bits = true }
with_whole w Compressed Length = record w { compressed_length = true }
with_whole w Compressed Value = record w { compressed_bits = true }

-- whatever is known, all of the first is known just where all of the second is
abbrev pub AskTheSame : List Fact → List Fact → Type 0
AskTheSame xs ys = (known : Fact → Bool) → list_all known xs ≡ list_all known ys

-- the facts stand for what is asked for, and what of THIS is written out is asked for
pub record AreWritten (format : Format) (asked facts : List Fact) (wholes : Wholes) : Type 0 where
  pub same : AskTheSame facts asked
  pub written : (side : Side) (measure : Measure) → is_in wholes side measure ≡ true → (known : Fact → Bool) → list_all known asked ≡ true → list_all known (side_facts format This side measure) ≡ true

-- whatever was asked for before, now it is that and more
abbrev pub Adds : Format → List Fact → List Fact → Wholes → List Fact → Wholes → Type 0
Adds format more facts wholes facts_then wholes_then = (asked : List Fact) → AreWritten format asked facts wholes → AreWritten format (asked ++ more) facts_then wholes_then
