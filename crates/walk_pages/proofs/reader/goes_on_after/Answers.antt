use Rattle.std.proofs.Common.{rules, subst}
use Rattle.sem_context.specs.Entries.{bits_at}
use Rattle.sem_filling.specs.Entries.{entries}
use Rattle.sem_pages.specs.Progress.{WhereKnown}
use Rattle.sem_profile.specs.Alike.{AreAlike}
use Rattle.sem_profile.specs.Resolved.{Resolved}
use Rattle.walk_pages.proofs.Going.{all_begin, shown_moved}
use Rattle.walk_pages.proofs.Leaving.{kept_moved}
use Rattle.walk_pages.proofs.reader.goes_on_after.Goals as goal

pub returns-clause-ok : goal.returns-clause-ok
returns-clause-ok c = λ is f fit shown.
    c.in_ok-is.ensures.ok is f (shown_moved c.methods.result.now c.args.accepted.now.profile.methods c.top.result c.args.accepted.now.profile.top c.args.page.now f (search rules) (search rules) shown)
    (λ told. c.requires (c.are_told-told.ensures.known told) (c.are_told-told.ensures.alike told) (bits_at c.args.context.now) f fit)

pub returns-clause-kept : goal.returns-clause-kept
returns-clause-kept c = λ is f fit shown.
    let seen = shown_moved c.methods.result.now c.args.accepted.now.profile.methods c.top.result c.args.accepted.now.profile.top c.args.page.now f (search rules) (search rules) shown in
    let where_told : WhereKnown c.are_told-told.result c.args.context.now (entries f) = λ told. c.requires (c.are_told-told.ensures.known told) (c.are_told-told.ensures.alike told) (bits_at c.args.context.now) f fit in
    record {
      steady = kept_moved c.methods.result.now c.args.accepted.now.profile.methods c.top.result c.args.accepted.now.profile.top (bits_at c.args.context.now) (bits_at c.advance.new.context) f c.args.page.now (search rules) (search rules)
          (λ args fit' shown'. c.in_ok-is.ensures.kept is f args fit' shown' where_told) fit shown;
      paths = all_begin c.args.accepted.now (bits_at c.args.context.now) c.advance.new.context f (subst (λ (p : Resolved). AreAlike p.methods) c.profile-profile.ensures c.keeps.ensures.alike) fit (c.in_ok-is.ensures.begins is f seen where_told);
    }
