-- A fold over the statements of sections, one section after the other.
use Rattle.std.proofs.Common.{◌≡◌, ◌∙◌, ap, ℕ, ◌+◌, List, sym, drop, fold, suc, arith}
use Rattle.std.proofs.lemmas.List.Sums.{fold-append}
use Rattle.std.specs.Prelude.{slice_get, Some, Option}
use Rattle.text_tree.specs.declared.tree.Section.{Section}
use Rattle.text_tree.specs.declared.tree.Item.{Item}
use Rattle.sem_profile.specs.declared.fault.ProfileFault.{ProfileFault}
use Rattle.sem_profile.proofs.Loops.{dropped}
use Rattle.text_methods.specs.Defaults.{default_part, default_items}

pub next_section : (f : Option ProfileFault → Item → Option ProfileFault) (sections : List Section) (i : ℕ) (section : Section) (before after whole : Option ProfileFault)
    → slice_get sections i ≡ Some section → after ≡ fold f before (default_part section)
    → fold f before (default_items (drop i sections)) ≡ whole → fold f after (default_items (drop (i + 1) sections)) ≡ whole
next_section f sections i section before after whole here is so =
    let e : i + 1 ≡ suc i = omega arith in
    ap (λ n. fold f after (default_items (drop n sections))) e
    ∙ ap (λ o. fold f o (default_items (drop (suc i) sections))) is
    ∙ sym (fold-append f before (default_part section) (default_items (drop (suc i) sections)))
    ∙ ap (λ xs. fold f before (default_items xs)) (sym (dropped sections i section here))
    ∙ so
