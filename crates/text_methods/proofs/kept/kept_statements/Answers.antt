use Rattle.std.proofs.Common.{subst, sym, []}
use Rattle.text_sections.specs.Fields.{in_field_order}
use Rattle.text_sections.specs.Tables.{IsTable}
use Rattle.text_methods.specs.declared.kept.Kept.{Kept}
use Rattle.text_methods.proofs.KeptLemmas.{kept_of_base}
use Rattle.text_methods.proofs.kept.kept_statements.Goals as goal

pub returns : goal.returns
returns c =
    let x = c.args.setting.now in
    let table = subst (IsTable x.text.now (in_field_order x.text.now x.sections.now [])) (sym c.in_ok-table.ensures) c.in_ok-found.ensures in
    let kept : Kept = record { sections = c.in_ok-sections.sections; table = c.in_ok-table.table; fields = c.in_ok-fields.fields; bare = c.in_ok-bare.bare } in
    record {
      statements = kept_of_base x c.new-scope.result c.in_ok-table.table kept c.new-scope.ensures table c.in_ok-sections.ensures;
      table = table;
      fields = c.in_ok-fields.ensures;
      bare = c.in_ok-bare.ensures;
    }
