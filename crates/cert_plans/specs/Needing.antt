-- What a rule needs, by its parts, and what of it isn't known.
use Rattle.std.specs.Prelude.{◌≡◌, ℕ, true, List, [], ◌∷◌, ◌++◌, Option, None, not}
use Rattle.std.specs.List.{flat_map, find}
use Rattle.sem_expr.specs.declared.expr.Side.{Side}
use Rattle.sem_expr.specs.declared.expr.Measure.{Measure}
use Rattle.sem_expr.specs.declared.expr.Measure.TheVariants.{Value}
use Rattle.sem_expr.specs.declared.expr.Subject.TheVariants.{This}
use Rattle.sem_profile.specs.declared.profile.CrcArguments.{CrcArguments}
use Rattle.sem_profile.specs.declared.profile.Format.{Format}
use Rattle.cert_types.specs.declared.rule.Fact.{Fact}
use Rattle.cert_types.specs.declared.rule.Fact.TheVariants.{LengthOf, BitsOf}
use Rattle.cert_types.specs.declared.rule.Rule.{Rule}
use Rattle.cert_rules.specs.Facts.{fact_of, side_facts, inputs, inputs_of_all}
use Rattle.cert_rules.specs.Rules.{listed_before, headers_before}
use Rattle.cert_plans.specs.declared.needs.Need.{Need}
use Rattle.cert_plans.specs.declared.needs.Need.TheVariants as need
use Rattle.cert_plans.specs.declared.needs.NeedRule.{NeedRule}
use Rattle.cert_plans.specs.declared.few.FewFacts.{FewFacts}
use Rattle.cert_plans.specs.declared.few.FewFacts.TheVariants as few
use Rattle.cert_plans.specs.Few.{facts_in}
use Rattle.cert_plans.specs.declared.knowledge.FieldKnowledge.{FieldKnowledge}
use Rattle.cert_plans.specs.declared.knowledge.Knowledge.{Knowledge}
use Rattle.cert_plans.specs.Knowing.{shows_of, shows}

-- those of a crc: of the bits that it covers, and of its arguments
abbrev pub facts_of_crc : Format → CrcArguments → List Fact
facts_of_crc format crc = side_facts format crc.subject crc.side Value ++ inputs format crc.bits ++ inputs format crc.polynomial ++ inputs format crc.initial ++ inputs format crc.length

-- the facts of a part
abbrev pub facts_of : Format → Need → List Fact
facts_of format need.Nothing = []
facts_of format (need.Length side i) = LengthOf side i ∷ []
facts_of format (need.Bits side i) = BitsOf side i ∷ []
facts_of format (need.Inputs e) = inputs format e.now
facts_of format (need.Arguments es) = inputs_of_all format es.now
facts_of format (need.Crc crc) = facts_of_crc format crc.now
facts_of format (need.ListedBefore i) = listed_before format i
facts_of format (need.HeadersBefore i) = headers_before format i

-- those of several parts
abbrev pub facts_of_all : Format → List Need → List Fact
facts_of_all format needs = flat_map (facts_of format) needs

-- the rule with its facts
abbrev pub told : Format → NeedRule → Rule
told format r = record { needs = facts_of_all format r.needs; absent = facts_in r.absent; gives = facts_in r.gives }

-- a rule that nothing hinders but what it needs
abbrev pub free : List Need → FewFacts → NeedRule
free needs gives = record { needs = needs; absent = few.None; gives = gives }

-- one that is followed once for a field
abbrev pub once : ℕ → List Need → FewFacts → NeedRule
once i needs gives = record { needs = needs; absent = few.Done i; gives = gives }

-- the first of the facts that isn't known
abbrev pub first_unknown : Knowledge → List Fact → Option Fact
first_unknown known facts = find (λ x. not (shows known x)) facts

-- what is marked is known of each field for which THIS stands
abbrev pub IsSure : Knowledge → Format → FieldKnowledge → Type 0
IsSure known format sure = (side : Side) (measure : Measure) → shows_of sure (fact_of side measure 0) ≡ true → first_unknown known (side_facts format This side measure) ≡ None
