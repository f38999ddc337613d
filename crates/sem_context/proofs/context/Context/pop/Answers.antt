use Rattle.std.proofs.Common.{◌≡◌, ◌∙◌, ◌∷◌, ◌++◌, [], Some, None, ap, sym, subst, cond, string_bytes}
use Rattle.std.specs.BTreeMap.{get_by_text}
use Rattle.std.specs.Str.{bytes_eq}
use Rattle.std.proofs.lemmas.List.{map-append}
use Rattle.std.proofs.lemmas.Map.Text.{btree_map_updates_text}
use Rattle.sem_context.specs.Placing.{ArePlaced, shown}
use Rattle.sem_context.proofs.PlacingPaths.{placed_pop}
use Rattle.sem_context.proofs.context.Context.pop.Goals as goal

pub invariant_of-self : goal.invariant_of-self
invariant_of-self c =
    let items = c.pop.new.self.items in
    let path = string_bytes c.in-Some.path in
    let kept : c.self.inside.kept.items ≡ items ++ (c.in-Some.path, c.in-Some.field-0-1) ∷ [] = c.in-Some.ensures.items in
    let placed : ArePlaced (shown items ++ (path, c.in-Some.field-0-1) ∷ []) (get_by_text c.self.inside.places) =
    subst (λ es. ArePlaced es (get_by_text c.self.inside.places)) (ap shown kept ∙ map-append (λ e. (string_bytes e.0, e.1)) items ((c.in-Some.path, c.in-Some.field-0-1) ∷ [])) c.self.invariant in
    placed_pop (shown items) path c.in-Some.field-0-1 (get_by_text c.self.inside.places) (get_by_text c.remove.new.self) placed (λ q.
    btree_map_updates_text c.as_str.result.now c.self.inside.places c.remove.new.self None c.remove.ensures.updates q
    ∙ ap (λ k. cond (bytes_eq k q) None (get_by_text c.self.inside.places q)) c.as_str.ensures.value)
