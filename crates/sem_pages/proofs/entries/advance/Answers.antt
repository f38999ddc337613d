use Rattle.std.proofs.Common.{rules, []}
use Rattle.sem_pages.proofs.Steadying.{kept_by}
use Rattle.sem_pages.proofs.entries.advance.Goals as goal

pub returns-clause-kept : goal.returns-clause-kept
returns-clause-kept c = λ _ f args fit shown where_known. kept_by c.args.methods.now _ _ c.args.method args [] c.args.page.now f fit shown (search rules)
