-- What each filling has that shows what a level knows.
use Rattle.std.proofs.Common.{◌≡◌, sym, ◌∙◌, ap, subst, ℕ, ◌<◌, ◌≤◌, ◌^◌, List, [], Bool, length, arith}
use Rattle.std.specs.Prelude.{Some, None, slice_get, Option, unwrap_or}
use Rattle.sem_context.specs.Entries.{bits_at}
use Rattle.sem_expr.specs.declared.expr.Side.{Side}
use Rattle.sem_expr.specs.declared.expr.Side.TheVariants.{Uncompressed, Compressed}
use Rattle.sem_expr.specs.declared.expr.Subject.{Subject}
use Rattle.sem_expr.specs.Values.{Assignment}
use Rattle.sem_library.specs.Methods.{Lib}
use Rattle.sem_library.specs.Methods as lib
use Rattle.sem_profile.specs.declared.profile.Encoding.{Encoding}
use Rattle.sem_profile.specs.declared.profile.Encoding.TheVariants as encoding
use Rattle.sem_profile.specs.declared.profile.Field.{Field}
use Rattle.sem_profile.specs.declared.profile.Library.{Library}
use Rattle.sem_profile.specs.declared.profile.Method.{Method}
use Rattle.sem_profile.specs.declared.profile.MethodSizes.{MethodSizes}
use Rattle.sem_profile.specs.declared.profile.Sizes.{Sizes}
use Rattle.sem_profile.specs.Outcome.{AreSizes}
use Rattle.sem_profile.specs.BoundsFaults.{side_bounds}
use Rattle.sem_profile.specs.Fields.{bounds, sides}
use Rattle.sem_profile.proofs.FieldsRuling.{there}
use Rattle.sem_profile.specs.Resolved.{IsSound}
use Rattle.sem_filling.specs.declared.filling.Filling.{Filling}
use Rattle.sem_filling.specs.declared.filling.FilledField.{FilledField}
use Rattle.sem_filling.specs.Fillings.{sides_of, fields_of, level}
use Rattle.sem_filling.specs.Fillings as fillings
use Rattle.sem_filling.specs.Entries.{Path}
use Rattle.sem_filling.specs.Fits.{Context, Fits, FieldFits, field_side}
use Rattle.sem_filling.specs.Fits as fit
use Rattle.sem_filling.specs.Bounded.{LiesBetween, SidesLie}
use Rattle.sem_filling.proofs.Bounding.{lie-in-bounds}
use Rattle.sem_filling.proofs.Fronts.{short_sides}
use Rattle.sem_filling.proofs.FitsInverted.{length-level, length-fields, coded_parts}
use Rattle.sem_filling.proofs.FitsJudged.{Fitting, fitting, sized}
use Rattle.cert_rules.specs.Views.{view, side_at}
use Rattle.cert_rules.proofs.ViewsAgree.{side_is}
use Rattle.cert_rules.proofs.SlotsWithin.{bound_count}
use Rattle.walk_steps.specs.Partial.{Reached, IsKept, bounds_at}
use Rattle.walk_steps.specs.declared.level_frame.LevelFrame.{LevelFrame}
use Rattle.walk_steps.specs.Finding.{IsAt, Shows}

-- ---- sides are short

none_short : (bits : List Bool) (n : ℕ) → bits ≡ [] → length bits ≤ n
none_short bits n e = let l : length bits ≡ 0 = ap length e in omega (arith, l)

lib_short : (m : lib.Method) (ref : Option (List Bool)) (u c : List Bool) → Lib m ref u c → (length u ≤ 64) × (length c ≤ 64)
lib_short (lib.uncompressed_value len v) ref u c h = (h.0.short, none_short c 64 h.1)
lib_short (lib.compressed_value len v) ref u c h = (none_short u 64 h.0, h.1.short)
lib_short (lib.irregular len) ref u c h = let short : length u ≤ 64 = h.2 in (short, subst (λ z. length z ≤ 64) h.0 short)
lib_short lib.static ref u c h = (h.1, none_short c 64 h.2)
lib_short (lib.lsb k offset) None u c h = absurd h
lib_short (lib.lsb k offset) (Some r) u c h = let w = h.within in let s = h.short in (s, omega (arith, w, s))
lib_short (lib.crc n poly init covered len) ref u c h = (none_short u 64 h.0, h.1.short)

field_short : (methods : List Method) (table : List MethodSizes) → AreSizes methods table → (ctx : Context) (s : Subject → Side → List Bool) (a : Assignment) (path : Path) (d : Field) (e : Encoding) (g : FilledField) →
    FieldFits methods ctx s a path d e g → (side : Side) → length (field_side (Some (sides_of g)) side) ≤ 2 ^ 18
field_short methods table are ctx s a path d e g (fit.bare short none plain) Uncompressed = omega (arith, short)
field_short methods table are ctx s a path d e g (fit.bare short none plain) Compressed = none_short (sides_of g).compressed (2 ^ 18) none
field_short methods table are ctx s a path d e g (fit.coded m is holds plain) Uncompressed = omega (arith, (lib_short m _ _ _ holds).0)
field_short methods table are ctx s a path d e g (fit.coded m is holds plain) Compressed = omega (arith, (lib_short m _ _ _ holds).1)
field_short methods table are ctx s a path d e g (fit.called {k = k} args inner is_args is_inner fitted u c) Uncompressed =
    let short = (short_sides methods table are ctx k args _ inner fitted).0 in let same = ap length u in omega (arith, short, same)
field_short methods table are ctx s a path d e g (fit.called {k = k} args inner is_args is_inner fitted u c) Compressed =
    let short = (short_sides methods table are ctx k args _ inner fitted).1 in let same = ap length c in omega (arith, short, same)

either : (side : Side) (s : fillings.Sides) → (length s.uncompressed ≤ 64) × (length s.compressed ≤ 64) → length (field_side (Some s) side) ≤ 64
either Uncompressed s h = h.0
either Compressed s h = h.1

-- ---- a filling that shows what is known

abbrev pub no_sizes : Sizes
no_sizes = sides (bounds 0 0) (bounds 0 0)

side_lies : (side : Side) (b : Sizes) (s : fillings.Sides) → SidesLie b (length s.uncompressed) (length s.compressed) → LiesBetween (side_bounds side b) (length (field_side (Some s) side))
side_lies Uncompressed b s h = h.uncompressed_lies
side_lies Compressed b s h = h.compressed_lies

module _ (level_frame : LevelFrame) (l : Reached) (sound : IsSound level_frame.frame.profile.now) (kept : IsKept l) (at : IsAt level_frame l) (bits : List Bool) (f : Filling) (shows : Shows level_frame l bits f) (i : ℕ) (within : i < length l.slots) where
  shown : Fitting level_frame.frame.profile.now.methods (bits_at level_frame.frame.context.now) l.args level_frame.frame.path.now l.format f
  shown = fitting l.format (ap (fit.format_at level_frame.frame.profile.now.methods level_frame.frame.method) shows.format_is ∙ at.format_is) shows.ahead.in_front.fits

  -- the lengths of its sides lie in the bounds of their fields
  pub lies : (side : Side) → LiesBetween (bounds_at l.sizes i side) (length (side_at (view f) i side))
  lies side =
      let p = level_frame.frame.profile.now in
      let z = sized p.sizes level_frame.frame.method level_frame.format l.sizes at.sizes_are in
      let placed = kept.placed in
      let count = bound_count placed.methods placed.table placed.are_sizes placed.method l.format placed.whole l.sizes placed.at l.slots kept.count kept.within in
      let all = (lie-in-bounds p.methods p.sizes sound.sized (bits_at level_frame.frame.context.now) level_frame.frame.method l.args level_frame.frame.path.now f shows.ahead.in_front.fits z.whole l.sizes z.whole_at
      (ap (slice_get z.whole.formats) shows.format_is ∙ z.sizes_is)).0 in
      let s = there (level f) i (omega (arith, within, kept.count, length-level l.format f shown.level_fits.shaped)) in
      let b = there l.sizes.fields i (omega (arith, within, count)) in
      let here = side_lies side b.0 s.0 (all.fields i s.0 b.0 s.1 b.1) in
      subst (λ x. LiesBetween x (length (side_at (view f) i side))) (sym (ap (λ o. side_bounds side (unwrap_or o no_sizes)) b.1))
      (subst (λ o. LiesBetween (side_bounds side b.0) (length (field_side o side))) (sym s.1) here)

  -- and they are short
  pub side_short : (side : Side) → length (side_at (view f) i side) ≤ 2 ^ 18
  side_short side =
      let p = level_frame.frame.profile.now in
      let d = there l.format.fields i (omega (arith, within, kept.count)) in
      let g = there (fields_of f) i (omega (arith, within, kept.count, length-fields l.format f shown.level_fits.shaped)) in
      let short = field_short p.methods p.sizes sound.sized (bits_at level_frame.frame.context.now) _ _ level_frame.frame.path.now d.0 d.0.encoding g.0 (shown.each i d.0 g.0 d.1 g.1) side in
      subst (λ z. length z ≤ 2 ^ 18) (sym (side_is f i g.0 side g.1)) short

  -- of a library method, at most 64 bits
  pub coded_short : (d : Field) (m : Library) → slice_get l.format.fields i ≡ Some d → d.encoding ≡ encoding.Library m → (side : Side) → length (side_at (view f) i side) ≤ 64
  coded_short d m at_d is side =
      let g = there (fields_of f) i (omega (arith, within, kept.count, length-fields l.format f shown.level_fits.shaped)) in
      let c = coded_parts level_frame.frame.profile.now.methods (bits_at level_frame.frame.context.now) (shown.each i d g.0 at_d g.1) m is in
      subst (λ z. length z ≤ 64) (sym (side_is f i g.0 side g.1)) (either side (sides_of g.0) (lib_short c.method _ _ _ c.holds))
