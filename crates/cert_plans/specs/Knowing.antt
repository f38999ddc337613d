-- What a knowledge shows.
use Rattle.std.specs.Prelude.{◌≡◌, ℕ, Bool, true, false, List, length, get_or, ◌&&◌, not}
use Rattle.std.specs.List.{list_all}
use Rattle.sem_expr.specs.declared.expr.Side.TheVariants.{Uncompressed, Compressed}
use Rattle.cert_types.specs.declared.rule.Fact.{Fact}
use Rattle.cert_types.specs.declared.rule.Fact.TheVariants.{LengthOf, BitsOf, Done}
use Rattle.cert_types.specs.declared.rule.Rule.{Rule}
use Rattle.cert_rules.specs.Facts.{has}
use Rattle.cert_plans.specs.declared.knowledge.FieldKnowledge.{FieldKnowledge}
use Rattle.cert_plans.specs.declared.knowledge.Knowledge.{Knowledge}

-- the field of a fact
abbrev pub field_of : Fact → ℕ
field_of (LengthOf side i) = i
field_of (BitsOf side i) = i
field_of (Done i) = i

-- whether a fact of a field is among those that are known of it
abbrev pub shows_of : FieldKnowledge → Fact → Bool
shows_of f (LengthOf Uncompressed i) = f.uncompressed_length
shows_of f (LengthOf Compressed i) = f.compressed_length
shows_of f (BitsOf Uncompressed i) = f.uncompressed_bits
shows_of f (BitsOf Compressed i) = f.compressed_bits
shows_of f (Done i) = f.done

-- nothing is known of a field that isn't there
abbrev pub nothing : FieldKnowledge
nothing = record { uncompressed_length = false; uncompressed_bits = false; compressed_length = false; compressed_bits = false; done = false }

-- whether the fact is known
abbrev pub shows : Knowledge → Fact → Bool
shows k x = shows_of (get_or k.fields (field_of x) nothing) x

-- how many fields it speaks of
abbrev pub width : Knowledge → ℕ
width k = length k.fields

-- what is known is just these facts
abbrev pub Knows : Knowledge → List Fact → Type 0
Knows k facts = (x : Fact) → shows k x ≡ has facts x

-- by what is known: all that the rule needs, and nothing that hinders it
abbrev pub enables : (Fact → Bool) → Rule → Bool
enables known r = list_all known r.needs && list_all (λ x. not (known x)) r.absent

-- what is known of a field with one more fact
abbrev pub with_fact : FieldKnowledge → Fact → FieldKnowledge
with_fact f (LengthOf Uncompressed i) = record f { uncompressed_length = true }
with_fact f (LengthOf Compressed i) = record f { compressed_length = true }
with_fact f (BitsOf Uncompressed i) = record f { uncompressed_bits = true }
with_fact f (BitsOf Compressed i) = record f { compressed_bits = true }
with_fact f (Done i) = record f { done = true }

-- what is known of a field before the first step
abbrev pub at_start : Bool → FieldKnowledge
at_start listed = record nothing { compressed_length = not listed; compressed_bits = not listed }
