use Rattle.std.proofs.Common.{◌≡◌, refl, rules, subst}
use Rattle.std.specs.Prelude.{IfSome, Some}
use Rattle.sem_pages.specs.declared.page.Page.{out-Page}
use Rattle.walk_pages.specs.Kept.{IsKeptIn}
use Rattle.walk_pages.proofs.Leaving.{fields_kept}
use Rattle.walk_pages.proofs.draft.fields_of.Goals as goal

pub returns : goal.returns
returns c = (
  (search rules),
  λ frame kept at.
      let is : c.args.last ≡ Some c.in_ok-page.page = c.in_ok-page.was in
      let index_is : (out-Page c.in_ok-page.page).format ≡ c.args.index = (search rules) in
      fields_kept c.in_ok-page.page c.args.index c.args.format.now _ index_is refl frame (subst (λ o. IfSome o (IsKeptIn frame)) is kept) at,
)
