-- A format in one direction, and its plans (docs/DEFINITIONS.md, Certificates).
use Rattle.std.specs.Prelude.{◌≡◌, ℕ, suc, Bool, true, false, List, [], ◌∷◌, ◌++◌, Option, Some, None, ◌&&◌, ◌||◌}
use Rattle.sem_expr.specs.declared.expr.Side.{Side}
use Rattle.sem_expr.specs.declared.expr.Side.TheVariants.{Uncompressed, Compressed}
use Rattle.sem_profile.specs.declared.profile.Field.{Field}
use Rattle.sem_profile.specs.declared.profile.Format.{Format}
use Rattle.sem_profile.specs.declared.profile.FormatSizes.{FormatSizes}
use Rattle.sem_profile.specs.declared.profile.MethodSizes.{MethodSizes}
use Rattle.sem_profile.specs.Fields.{lists}
use Rattle.sem_filling.specs.Fillings.{is_header}
use Rattle.cert_types.specs.declared.certificate.Version.{Version}
use Rattle.cert_types.specs.declared.certificate.Version.TheVariants.{Two}
use Rattle.cert_types.specs.declared.certificate.Direction.{Direction}
use Rattle.cert_types.specs.declared.certificate.Direction.TheVariants.{Read, Write}
use Rattle.cert_types.specs.declared.certificate.Step.{Step}
use Rattle.cert_types.specs.declared.rule.Fact.{Fact}
use Rattle.cert_types.specs.declared.rule.Fact.TheVariants.{BitsOf, Done}
use Rattle.cert_types.specs.declared.rule.Rule.{Rule}
use Rattle.cert_rules.specs.Facts.{has_all, has_none, at_start}
use Rattle.cert_rules.specs.Rules.{is_call, where_true, read_rule, write_rule}

-- the rule of a step in certificates of a version, if it is ever enabled
abbrev pub rule_of : Version → Direction → List MethodSizes → FormatSizes → Format → Step → Option Rule
rule_of version Read table sizes format step = read_rule version sizes format step
rule_of version Write table sizes format step = write_rule version table sizes format step

-- the step may be taken: all that it needs is known, and nothing that hinders it
abbrev pub enabled : List Fact → Option Rule → Bool
enabled known None = false
enabled known (Some r) = has_all known r.needs && has_none known r.absent

-- what is known after it
abbrev pub learnt : Option Rule → List Fact
learnt None = []
learnt (Some r) = r.gives

-- what is known after the steps
abbrev pub known_after : (Step → Option Rule) → List Fact → List Step → List Fact
known_after rules known [] = known
known_after rules known (step ∷ steps) = known_after rules (learnt (rules step) ++ known) steps

-- each is enabled after those before it
abbrev pub all_enabled : (Step → Option Rule) → List Fact → List Step → Bool
all_enabled rules known [] = true
all_enabled rules known (step ∷ steps) = enabled known (rules step) && all_enabled rules (learnt (rules step) ++ known) steps

-- what is known before the first step
abbrev pub known_at_start : Format → List Fact
known_at_start format = at_start format.listing 0 format.fields

-- whether a field has to be taken or called: a listed field, or a header field, and a called one
abbrev pub is_due : Direction → Format → ℕ → Field → Bool
is_due Read format i d = lists format.listing i || is_call d.encoding
is_due Write format i d = is_header d.declared.part || is_call d.encoding

-- whether that is told with the uncompressed side or with the compressed one
abbrev pub is_told : Direction → Side → Bool
is_told Read Uncompressed = false
is_told Read Compressed = true
is_told Write Uncompressed = true
is_told Write Compressed = false

-- what a complete plan has learnt of a side of a field
abbrev pub wanted : Direction → Format → ℕ → Field → Side → List Fact
wanted direction format i d side = BitsOf side i ∷ where_true (is_told direction side && is_due direction format i d) (Done i ∷ [])

-- a side of a field, with what a complete plan has learnt of it
pub record Goal : Type 0 where
  pub field : ℕ
  pub side : Side
  pub facts : List Fact

-- that of one side
abbrev pub goal : Direction → Format → ℕ → Field → Side → Goal
goal direction format i d side = record { field = i; side = side; facts = wanted direction format i d side }

-- those of the fields from the index n on, in field order, the uncompressed side first
abbrev pub goals_from : Direction → Format → ℕ → List Field → List Goal
goals_from direction format n [] = []
goals_from direction format n (d ∷ ds) = goal direction format n d Uncompressed ∷ goal direction format n d Compressed ∷ goals_from direction format (suc n) ds

-- those of a format
abbrev pub goals_of : Direction → Format → List Goal
goals_of direction format = goals_from direction format 0 format.fields

-- a format in one direction: the rules of its steps, what is known at the start, and what a plan is to learn
pub record Way : Type 0 where
  pub rule : Step → Option Rule
  pub start : List Fact
  pub goals : List Goal

-- the way to read or to write a format with these bounds
abbrev pub way_of : Version → Direction → List MethodSizes → FormatSizes → Format → Way
way_of version direction table sizes format = record { rule = rule_of version direction table sizes format; start = known_at_start format; goals = goals_of direction format }

-- all that is wanted is known
abbrev pub is_complete : List Goal → List Fact → Bool
is_complete [] known = true
is_complete (goal ∷ goals) known = has_all known goal.facts && is_complete goals known

-- each step is enabled after those before it, and at the end all that is wanted is known
pub record IsPlan (way : Way) (steps : List Step) : Type 0 where
  pub enabled : all_enabled way.rule way.start steps ≡ true
  pub complete : is_complete way.goals (known_after way.rule way.start steps) ≡ true

-- ---- versions

-- What is a plan in a certificate of either version is one in the second, by the same rules.
abbrev pub PlansGoOn : Type 0
PlansGoOn = (version : Version) (direction : Direction) (table : List MethodSizes) (sizes : FormatSizes) (format : Format) (steps : List Step) →
    IsPlan (way_of version direction table sizes format) steps → IsPlan (way_of Two direction table sizes format) steps

-- A rule of either version is one of the second.
abbrev pub RulesGoOn : Type 0
RulesGoOn = (version : Version) (direction : Direction) (table : List MethodSizes) (sizes : FormatSizes) (format : Format) (step : Step) (r : Rule) →
    rule_of version direction table sizes format step ≡ Some r → rule_of Two direction table sizes format step ≡ Some r
