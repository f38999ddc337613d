use Rattle.text_resolve.proofs.PassesRefusing.{no_tree_at}
use Rattle.text_resolve.proofs.PassesTokens.{tree_words}
use Rattle.text_resolve.proofs.passes.read.Goals as goal

pub returns-in_err-tree-clause-refused : goal.returns-in_err-tree-clause-refused
returns-in_err-tree-clause-refused c =
    no_tree_at _ _ _ _ _ _ _ c.in_ok-source.ensures.accepted.1 c.in_ok-source.ensures.accepted.0 c.in_ok-tokens.ensures.lexed c.as_slice.ensures.value c.in_err-tree.ensures.refused c.from_residual-in_err-tree.ensures.1

pub resolve-requires : goal.resolve-requires
resolve-requires c = tree_words _ _ _ _ _ c.in_ok-source.ensures.accepted.1 c.in_ok-tokens.ensures.lexed c.as_slice.ensures.value c.in_ok-tree.ensures.found
