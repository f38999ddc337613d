-- One filling brings two contexts together.
use Rattle.std.proofs.Common.{◌≡◌, ◌∙◌, refl, sym, Bool, List}
use Rattle.std.specs.Prelude.{Option, Some, None, reverse}
use Rattle.std.specs.Option.{option_or}
use Rattle.sem_context.specs.Entries.{Entries, bits_at}
use Rattle.sem_context.proofs.EntriesOverrides.{overridden-value}
use Rattle.sem_filling.specs.declared.filling.Filling.{Filling}
use Rattle.sem_filling.specs.Entries.{Path, entries, next}
use Rattle.sem_elsewhere.specs.Laws.{AgreeAfter, Repaired}

-- the entry of a filling, or else what both have
either : (o : Option (List Bool)) (x y : Option (List Bool)) → (o ≡ None → x ≡ y) → option_or o x ≡ option_or o y
either None x y same = same refl
either (Some bits) x y same = refl

after : (ctx other : Entries) (f : Filling) (path : Path) → (bits_at (reverse (entries f)) path ≡ None → bits_at ctx path ≡ bits_at other path) → bits_at (next ctx f) path ≡ bits_at (next other f) path
after ctx other f path same =
    overridden-value ctx (entries f) path ∙ either (bits_at (reverse (entries f)) path) (bits_at ctx path) (bits_at other path) same ∙ sym (overridden-value other (entries f) path)

pub agree_after : AgreeAfter
agree_after ctx other f path there = after ctx other f path (λ none. absurd (there none))

pub repaired : Repaired
repaired ctx other f same path = after ctx other f path (same path)
