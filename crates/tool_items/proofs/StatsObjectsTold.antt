-- What `stats` tells of sums is what it tells of the fillings that they are over.
use Rattle.std.proofs.Common.{◌≡◌, ◌∙◌, ℕ, List, []}
use Rattle.std.specs.Global.{Global}
use Rattle.std.specs.Prelude.{Result, Ok, Err, IfOk, String, string_bytes}
use Rattle.std.specs.declared.alloc.AllocError.{AllocError}
use Rattle.sem_filling.specs.declared.filling.Filling.{Filling}
use Rattle.sem_profile.specs.declared.profile.Method.{Method}
use Rattle.tool_items.specs.Sums.{AreSums}
use Rattle.tool_items.specs.declared.sums.Sums.{Sums, out-Sums}
use Rattle.tool_items.specs.Counted.{Counted}
use Rattle.tool_items.specs.Stats.{rows}
use Rattle.tool_items.specs.StatsObjects.{counted_objects, stats_objects}

pub told : (methods : List Method) (top : ℕ) (s : Sums) (made shown : List Counted) (r : Result (String Global) AllocError) → ((fs : List Filling) → AreSums fs s → made ≡ rows methods top fs) → shown ≡ made
    → IfOk r (λ text. string_bytes text ≡ counted_objects (out-Sums s).all shown) → IfOk r (λ text. (fs : List Filling) → AreSums fs s → string_bytes text ≡ stats_objects methods top fs)
told methods top s made shown (Err e) are same is = tt
told methods top s made shown (Ok text) are same is = λ fs sums. is ∙ (λ i. counted_objects ((sums []).all_is i) ((same ∙ are fs sums) i))
