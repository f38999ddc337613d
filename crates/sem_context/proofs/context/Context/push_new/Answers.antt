use Rattle.std.proofs.Common.{rules, ◌≡◌, ◌∙◌, ℕ, List, Bool, ◌∷◌, ◌++◌, [], Some, None, ap, sym, subst, cond, length, map, string_bytes}
use Rattle.std.specs.BTreeMap.{get_by_text}
use Rattle.std.specs.Str.{bytes_eq}
use Rattle.std.proofs.lemmas.List.{map-append}
use Rattle.std.proofs.lemmas.Map.Text.{btree_map_updates_text}
use Rattle.sem_context.specs.Entries.{bits_at}
use Rattle.sem_context.specs.Placing.{ArePlaced, shown}
use Rattle.sem_context.proofs.PlacingPaths.{length-shown, placed_push}
use Rattle.sem_context.proofs.context.Context.push_new.Goals as goal

pub invariant_of-self-2 : goal.invariant_of-self-2
invariant_of-self-2 c =
    let items = c.self.inside.kept.items in
    let path = string_bytes c.args.path in
    let kept : c.push_reserved.new.self.items ≡ items ++ (c.args.path, c.args.bits) ∷ [] = cc (c.push_reserved.ensures.items, c.reserve.ensures.items) in
    let key : string_bytes c.in_ok-key.key ≡ path = cc (c.in_ok-key.ensures.cases) in
    let here : c.len-place.result ≡ length items = search rules in
    let count : c.len-place.result ≡ length (shown items) = here ∙ sym (length-shown items) in
    subst (λ es. ArePlaced es (get_by_text c.insert.new.self)) (sym (ap shown kept ∙ map-append (λ e. (string_bytes e.0, e.1)) items ((c.args.path, c.args.bits) ∷ [])))
    (placed_push (shown items) path c.args.bits (get_by_text c.self.inside.places) (get_by_text c.insert.new.self) c.self.invariant (ap (λ es. bits_at es path) c.self.view_is ∙ c.requires) (λ q.
    btree_map_updates_text (string_bytes c.in_ok-key.key) c.self.inside.places c.insert.new.self (Some c.len-place.result) c.in_ok-insert.ensures.updates q
    ∙ ap (λ k. cond (bytes_eq k q) (Some c.len-place.result) (get_by_text c.self.inside.places q)) key
    ∙ ap (λ n. cond (bytes_eq path q) (Some n) (get_by_text c.self.inside.places q)) count))
