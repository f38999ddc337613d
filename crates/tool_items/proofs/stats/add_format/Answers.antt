use Rattle.std.proofs.Common.{◌∙◌, ap, sym, refl}
use Rattle.std.specs.Prelude.{slice_get}
use Rattle.std.proofs.lemmas.Option.{slice_get_past, slice_get_read}
use Rattle.tool_items.proofs.StatsInside.{format_none_pushed, format_there}
use Rattle.tool_items.proofs.stats.add_format.Goals as goal

pub returns-in_ok-push-in-Some : goal.returns-in_ok-push-in-Some
returns-in_ok-push-in-Some c =
    format_there c.args.methods.now c.args.top c.args.number c.args.listing.now c.args.sums.now c.in-Some.sums.now _ _ _ _ _ _ c.add_fields.result refl
    (ap (λ xs. slice_get xs c.args.number) (sym c.deref.ensures.value) ∙ slice_get_read c.deref.result.now _ c.args.number c.in-Some.sums.now refl c.in-Some.ensures.lookup.3.0 c.in-Some.ensures.lookup.1)
    (c.in_ok-name.ensures.ok ∙ c.format_name.ensures) (c.row_of.ensures) c.in_ok-push-in-Some.ensures.ok c.add_fields.ensures

pub returns-in-None : goal.returns-in-None
returns-in-None c =
    format_none_pushed c.args.methods.now c.args.top c.args.number c.args.listing.now c.args.sums.now _ _ _ _ _ _ c.push-in-None.result refl
    (ap (λ xs. slice_get xs c.args.number) (sym c.deref.ensures.value) ∙ slice_get_past c.deref.result.now c.args.number c.in-None.ensures.lookup.3) (c.in_ok-name.ensures.ok ∙ c.format_name.ensures) c.none.ensures c.row_of-in-None.ensures
    c.push-in-None.ensures.ok
