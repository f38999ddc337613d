-- The blocks of what is told of a format, one after the other.
use Rattle.std.proofs.Common.{◌≡◌, ◌∙◌, ap, sym, subst, append_assoc, ℕ, List, [], ◌++◌, Some}
use Rattle.std.specs.Prelude.{slice_get}
use Rattle.std.proofs.lemmas.List.{append-nil}
use Rattle.sem_filling.specs.declared.filling.Item.{Item}
use Rattle.sem_profile.specs.Resolved.{Resolved}
use Rattle.tool_items.specs.Avoided.{AreBlocks, IsAvoidedText, a_block, block_text, count_line, no_blocks}
use Rattle.tool_items.specs.declared.avoided.Verdict.{Verdict}
use Rattle.tool_items.specs.declared.avoided.Verdicts.{Verdicts}

-- the blocks so far, after the head: whatever blocks follow, they and these are blocks
pub record BlocksSoFar (octets : List ℕ) (p : Resolved) (items : List Item) (kept : List Verdict) (head text : List ℕ) : Type 0 where
  pub blocks : List ℕ
  pub text_is : text ≡ head ++ blocks
  pub goes_on : (rest : List ℕ) → AreBlocks octets p items kept rest → AreBlocks octets p items kept (blocks ++ rest)

module _ (octets : List ℕ) (p : Resolved) (items : List Item) (kept : List Verdict) (head : List ℕ) where
  pub blocks_begin : (text : List ℕ) → text ≡ head → BlocksSoFar octets p items kept head text
  blocks_begin text e = record { blocks = []; text_is = e ∙ sym (append-nil head); goes_on = λ rest are. are }

  pub blocks_more : (place count : ℕ) (v : Verdict) (old new : List ℕ) → slice_get kept place ≡ Some v → new ≡ old ++ block_text octets p items count v → BlocksSoFar octets p items kept head old → BlocksSoFar octets p items kept head new
  blocks_more place count v old new at grown so =
      let block = block_text octets p items count v in
      record {
        blocks = so.blocks ++ block;
        text_is = grown ∙ ap (λ t. t ++ block) so.text_is ∙ append_assoc head so.blocks block;
        goes_on = λ rest are. subst (AreBlocks octets p items kept) (sym (append_assoc so.blocks block rest)) (so.goes_on (block ++ rest) (a_block place count v at are));
      }

pub blocks_end : (octets : List ℕ) (p : Resolved) (items : List Item) (name text : List ℕ) (vs : Verdicts) → BlocksSoFar octets p items vs.kept (count_line name vs) text → IsAvoidedText octets p name items vs text
blocks_end octets p items name text vs so = record {
  blocks = so.blocks;
  blocks_are = subst (AreBlocks octets p items vs.kept) (append-nil so.blocks) (so.goes_on [] no_blocks);
  text_is = so.text_is;
}
