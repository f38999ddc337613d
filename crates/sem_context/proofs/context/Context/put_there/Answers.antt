use Rattle.std.proofs.Common.{◌≡◌, ◌∙◌, Some, None, ap, sym, subst}
use Rattle.std.specs.Prelude.{is_some, slice_get}
use Rattle.std.specs.Map.{keys_of}
use Rattle.std.proofs.lemmas.Bool.{false≢true}
use Rattle.sem_context.specs.Entries.{AreDistinct, bits_at}
use Rattle.sem_context.specs.Placing.{place_of, shown}
use Rattle.sem_context.proofs.EntriesInOrder.{put_at_path}
use Rattle.sem_context.proofs.PlacingPaths.{found_path, none_found, not_found}
use Rattle.sem_context.proofs.context.Context.put_there.Goals as goal

pub returns-then-is_at : goal.returns-then-is_at
returns-then-is_at c =
    let there : slice_get (keys_of c.args.self.now) c.args.place ≡ Some c.args.path.now =
    ap (λ es. slice_get (keys_of es) c.args.place) (sym c.self.view_is) ∙ ap (λ xs. slice_get (keys_of (shown xs)) c.args.place) (sym c.as_slice.ensures.value) ∙ c.is_at.ensures.0 c.if-is_at.true in
    c.set_bits.ensures ∙ put_at_path c.args.self.now c.args.place c.args.path.now c.args.bits (subst AreDistinct c.self.view_is c.self.invariant.distinct) there

pub returns-in-Some : goal.returns-in-Some
returns-in-Some c =
    c.set_bits-in-Some.ensures
    ∙ put_at_path c.args.self.now c.in-Some.found c.args.path.now c.args.bits (subst AreDistinct c.self.view_is c.self.invariant.distinct) (found_path c.args.self.now c.args.path.now c.in-Some.found (sym c.in-Some.ensures))

pub returns-in_default : goal.returns-in_default
returns-in_default c =
    let none : bits_at c.args.self.now c.args.path.now ≡ None = not_found c.args.self.now c.args.path.now (sym c.place_of.ensures ∙ none_found c.place_of.result c.in_default.not-Some) in
    absurd (false≢true (sym (ap is_some none) ∙ c.requires))
