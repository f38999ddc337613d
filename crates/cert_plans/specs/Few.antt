-- Lists of a few facts.
use Rattle.std.specs.Prelude.{List, [], ◌∷◌}
use Rattle.sem_expr.specs.declared.expr.Side.TheVariants.{Uncompressed, Compressed}
use Rattle.cert_types.specs.declared.rule.Fact.{Fact}
use Rattle.cert_types.specs.declared.rule.Fact.TheVariants.{LengthOf, BitsOf, Done}
use Rattle.cert_plans.specs.declared.few.FewFacts.{FewFacts}
use Rattle.cert_plans.specs.declared.few.FewFacts.TheVariants as few
use Rattle.cert_plans.specs.declared.few.WrittenFacts.{WrittenFacts}
use Rattle.cert_plans.specs.declared.few.WrittenFacts.TheVariants as written

-- the facts
abbrev pub facts_in : FewFacts → List Fact
facts_in few.None = []
facts_in (few.Done i) = Done i ∷ []
facts_in (few.Length side i) = LengthOf side i ∷ []
facts_in (few.Bits side i) = BitsOf side i ∷ []
facts_in (few.Whole side i) = LengthOf side i ∷ BitsOf side i ∷ []
facts_in (few.Taken side i) = BitsOf side i ∷ Done i ∷ []
facts_in (few.All i) = LengthOf Uncompressed i ∷ BitsOf Uncompressed i ∷ LengthOf Compressed i ∷ BitsOf Compressed i ∷ Done i ∷ []

-- the facts that are written out
abbrev pub written_in : WrittenFacts → List Fact
written_in written.None = []
written_in (written.One xs) = xs
written_in (written.Two xs) = xs
written_in (written.Five xs) = xs
