use Rattle.std.proofs.Common.{◌∙◌, ap, sym, Some}
use Rattle.text_statements.proofs.CrcDataLaws.{data_right, data_wrong}
use Rattle.text_statements.specs.Judged.{wrong_kind}
use Rattle.text_statements.proofs.crc_data.data_of.Goals as goal

pub returns-in-Some-clause-right : goal.returns-in-Some-clause-right
returns-in-Some-clause-right c =
    data_right c.args.scope.now c.args.part.now c.in_ok-found.found c.in-Some.data c.in_ok-found.ensures.means c.in_ok-found.ensures.right (sym c.in-Some.ensures)

pub returns-clause-refused : goal.returns-clause-refused
returns-clause-refused c =
    data_wrong c.args.scope.now c.args.part.now c.in_ok-found.found c.in_ok-found.ensures.means c.in_ok-found.ensures.right (sym c.in-None.ensures)
    ∙ ap Some (sym (c.wrong_kind.ensures ∙ ap wrong_kind c.place.ensures))
