use Rattle.std.proofs.Common.{◌≡◌, ◌∙◌, ◌+◌, ◌∷◌, ◌++◌, [], ap, drop, get_or, sym, subst, take, string_bytes}
use Rattle.std.proofs.lemmas.List.{drop_more, map-append, take-append-drop, take_more}
use Rattle.sem_context.specs.Entries.{Entries, overridden}
use Rattle.sem_context.specs.Placing.{HasPaths, shown, with_path}
use Rattle.sem_context.proofs.PlacingMissing.{missing_more, one_more_there, still_first}
use Rattle.sem_context.proofs.context.Context.add_missing.Goals as goal

pub loop-path-preserved : goal.loop-path-preserved
loop-path-preserved c =
    let items = c.args.entries.now in
    let i = c.loop-path.path-index in
    let e = c.loop-path-item.result in
    let es = c.loop-path.self in
    let inside = c.loop-path-test.true in
    let put : c.add_if_missing.new.self ≡ with_path es (string_bytes e.0) = c.in-Ok.ensures.ok in
    let now : take (i + 1) items ≡ take i items ++ e ∷ [] = take_more items i e inside ∙ ap (λ x. take i items ++ x ∷ []) (sym c.loop-path-item.is) in
    let all : shown items ≡ shown (take i items) ++ (string_bytes e.0, e.1) ∷ shown (drop (i + 1) items) =
    ap shown (sym (take-append-drop i items) ∙ ap (λ xs. take i items ++ xs) (drop_more items i e inside ∙ ap (λ x. x ∷ drop (i + 1) items) (sym c.loop-path-item.is)))
    ∙ map-append (λ x. (string_bytes x.0, x.1)) (take i items) (e ∷ drop (i + 1) items) in
    let first = still_first es c.args.self.now c.loop-path.invariant.2.0 (string_bytes e.0) c.loop-path.invariant.2.1 in (
      subst (λ xs. HasPaths c.add_if_missing.new.self xs) (sym (ap shown now ∙ map-append (λ x. (string_bytes x.0, x.1)) (take i items) (e ∷ [])))
          (subst (λ xs. HasPaths xs (shown (take i items) ++ (string_bytes e.0, e.1) ∷ [])) (sym put) (one_more_there es (shown (take i items)) (string_bytes e.0) e.1 c.loop-path.invariant.0)),
      ap (λ xs. overridden xs (shown items)) put ∙ ap (overridden (with_path es (string_bytes e.0))) all
          ∙ missing_more es (shown (take i items)) (string_bytes e.0) e.1 (shown (drop (i + 1) items)) c.loop-path.invariant.0
          ∙ ap (overridden es) (sym all) ∙ c.loop-path.invariant.1,
      (first.0, put ∙ first.1),
      c.loop-path.invariant.3,
    )
