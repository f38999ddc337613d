use Rattle.std.proofs.Common.{◌∙◌, [], map, refl}
use Rattle.sem_expr.specs.declared.expr.Side.TheVariants.{Uncompressed, Compressed}
use Rattle.text_sections.specs.declared.mention.Group.TheVariants.{Header, Control}
use Rattle.text_methods.specs.Constraints.{Leads, on, of_group, defaults_from, statements}
use Rattle.text_methods.proofs.ConstraintsNumbering.{joined, ended}
use Rattle.text_methods.proofs.constraints.format_constraints.Goals as goal

all_of : (c : goal.In_ok-add_items) → Leads c.args.scope.now [] (statements c.args.scope.now c.args.chosen.now c.args.sections.now c.args.own.now) c.add_items.new.all.found c.add_items.new.all.fault
all_of c = joined
    (of_group Uncompressed Header c.args.sections.now) (of_group Uncompressed Control c.args.sections.now) (defaults_from c.args.scope.now c.args.chosen.now 0 c.args.sections.now) (map (on Compressed) c.args.own.now)
    (c.from_vec.ensures ∙ c.in_ok-with_capacity.ensures.items) refl c.in_ok-add_group.ensures c.in_ok-add_group-2.ensures c.in_ok-add_defaults.ensures c.in_ok-add_items.ensures

pub returns-clause-fault : goal.returns-clause-fault
returns-clause-fault c = (all_of c).faults

pub returns-clause-found : goal.returns-clause-found
returns-clause-found c = ended (all_of c)
