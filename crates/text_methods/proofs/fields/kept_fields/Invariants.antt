use Rattle.std.specs.List.{AllByRecursion}
use Rattle.text_methods.specs.Kept.{IsKeptField}
use Rattle.text_methods.proofs.fields.kept_fields.Given as goal

abbrev pub invariant-loop-mention : goal.invariant-loop-mention
invariant-loop-mention l = AllByRecursion (IsKeptField l.setting) l.all
