use Rattle.std.proofs.Common.{◌≡◌, ◌∙◌, sym, ap, subst, refl, ◌<◌, length}
use Rattle.std.proofs.lemmas.Option.{slice_get_read}
use Rattle.std.specs.Prelude.{Some, slice_get, slice_set}
use Rattle.walk_steps.proofs.FrontsAdvancing.{fronts_same}
use Rattle.walk_steps.proofs.LevelHeld.{with_inner, sides_same, kept_held}
use Rattle.walk_steps.proofs.level.Partial.hold.Goals as goal

here : (c : goal.Joined-index_mut) → slice_get c.self.inside.slots.items c.args.field ≡ Some c.index_mut.result.now
here c =
    let xs = c.self.inside.slots.items in
    slice_get_read xs (length xs) c.args.field c.index_mut.result.now refl (subst (λ z. c.args.field < length z.slots) (sym c.self.view_is) c.requires.within) c.index_mut.ensures.value

pub invariant_of-self : goal.invariant_of-self
invariant_of-self c =
    let i = c.self.inside in
    let old = i.slots.items in
    let slot = c.index_mut.result.now in
    let new = slice_set old c.args.field (with_inner c.args.inner slot) in
    record {
      kept = kept_held c.args.inner i.format.now i.sizes.now old c.args.field slot (here c) i.parameters c.self.invariant.kept;
      headers_are = c.self.invariant.headers_are;
      fronts_are = fronts_same old new (sides_same c.args.inner old c.args.field slot (here c)) i.headers.items i.format.now.listing i.fronts c.self.invariant.fronts_are;
    }

pub returns : goal.returns
returns c = record {
  format_is = ap (λ z. z.format) c.self.view_is;
  sizes_are = ap (λ z. z.sizes) c.self.view_is;
  args_are = ap (λ z. z.args) c.self.view_is;
  slot = c.index_mut.result.now;
  slot_is = ap (λ z. slice_get z.slots c.args.field) (sym c.self.view_is) ∙ here c;
  slots_are = ap (λ z. slice_set z.slots c.args.field (with_inner c.args.inner c.index_mut.result.now)) c.self.view_is;
}
