use Rattle.std.proofs.Common.{rules, tests, lit<}
use Rattle.std.proofs.lemmas.Iterator.Search.{all_from_yields_List}
use Rattle.std.proofs.lemmas.Iterator.Splits.{YieldsList-from_str_split}
use Rattle.text_source.specs.Names.{is_name}
use Rattle.sem_context.proofs.Paths.{path_decided}
use Rattle.sem_context.proofs.path.is_path.Goals as goal

pub returns : goal.returns
returns c =
    path_decided c.args.text.now c.all.result
    (all_from_yields_List is_name _ _ _ c.all.ensures.ran (YieldsList-from_str_split 46 c.args.text.now (lit< tt) c.split.ensures.text c.split.ensures.has_more c.split.ensures.pattern) (λ x b q k. search (rules, tests)))
