use Rattle.std.proofs.lemmas.Result.{err_from_is_err_and}
use Rattle.text_resolve.proofs.PartsDistinct.{distinct_there, twice_refused, value_refused}
use Rattle.text_resolve.proofs.file_names.head_of.Goals as goal

pub returns-in_err-names-clause-refused : goal.returns-in_err-names-clause-refused
returns-in_err-names-clause-refused c =
    let p = err_from_is_err_and c.from_residual.result c.from_residual.ensures.1 in
    rw (p.1, p.2) (twice_refused c.args.text.now c.args.parts.now _ c.in_err-names.ensures.refused)

pub of_parts-requires : goal.of_parts-requires
of_parts-requires c = distinct_there c.args.text.now c.args.parts.now c.in_ok-names.ensures.found.distinct

pub returns-in_err-constants-clause-refused : goal.returns-in_err-constants-clause-refused
returns-in_err-constants-clause-refused c =
    let p = err_from_is_err_and c.from_residual-in_err-constants.result c.from_residual-in_err-constants.ensures.1 in
    rw (p.1, p.2) (value_refused c.args.text.now c.args.parts.now _ c.in_ok-names.ensures.found.distinct c.in_err-constants.ensures.refused)
