-- What was written is the only filling that can be read.
use Rattle.std.proofs.Common.{◌≡◌, ◌∙◌, refl, sym, ap, subst, List, Bool, [], ◌++◌, length, append_assoc}
use Rattle.std.proofs.lemmas.List.{append_cancel_left}
use Rattle.std.specs.Option.{option_or}
use Rattle.std.specs.Prelude.{reverse}
use Rattle.sem_bits.specs.Cursor.{Place}
use Rattle.cert_accepted.specs.Accepted.{Accepting, IsDeterminate}
use Rattle.sem_context.proofs.EntriesOverrides.{overridden-value}
use Rattle.sem_context.specs.Entries.{Entries, bits_at}
use Rattle.sem_filling.specs.declared.filling.Filling.{Filling}
use Rattle.sem_filling.specs.declared.filling.Item.{Item}
use Rattle.sem_filling.specs.Entries.{entries, next}
use Rattle.sem_filling.specs.Fillings.{packed, item}
use Rattle.sem_filling.specs.Fronts.{FitsTop}
use Rattle.walk_engine.specs.declared.reader.UnpackFault.{UnpackFault}
use Rattle.walk_engine.specs.declared.reader.UnpackFault.TheVariants.{Truncated, Refused, OutOfMemory}
use Rattle.walk_engine.specs.declared.reader.Unpacked.{Unpacked}
use Rattle.walk_engine.specs.declared.search.Packed.{Packed}
use Rattle.walk_engine.specs.Laws.{AreSame, IsReadBack, ReadBack}
use Rattle.walk_engine.specs.Reading as reading
use Rattle.walk_engine.specs.Reading.{Fitting, Fronts}
use Rattle.walk_engine.specs.Writing as writing

-- a path that two contexts hold alike they hold alike after one filling
next_same : (ctx other : Entries) → AreSame ctx other → (f g : Filling) → g ≡ f → AreSame (next ctx f) (next other g)
next_same ctx other same f g is path =
    overridden-value ctx (entries f) path ∙ ap (option_or (bits_at (reverse (entries f)) path)) (same path) ∙ sym (overridden-value other (entries f) path)
    ∙ ap (λ h. bits_at (next other h) path) (sym is)

module _ (a : Accepting) (det : IsDeterminate a) (ctx other : Entries) (same : AreSame ctx other) (it : Item) (w : Packed) (written : writing.IsPacked a ctx it w) (more : List Bool) where
  -- what was written fits in the other context too
  fits_there : Fitting a other w.filling
  fits_there = subst (λ c. FitsTop a.profile.methods a.profile.top c w.filling) (λ i path. same path i) written.best.fits

  -- and is at the front of its bits, whatever follows
  front_on : (rest : List Bool) → Fronts a other ((w.packed ++ more) ++ rest) w.filling
  front_on rest = record { fits = fits_there; rest = more ++ rest; front = append_assoc w.packed more rest ∙ ap (λ p. p ++ (more ++ rest)) written.packed_is }

  front_alone : Fronts a other (w.packed ++ more) w.filling
  front_alone = record { fits = fits_there; rest = more; front = ap (λ p. p ++ more) written.packed_is }

  pub is_read_back : (old new : Place) (r : Unpacked) → old.left ≡ w.packed ++ more → reading.IsUnpacked a other old new r → IsReadBack ctx other it w more new r
  is_read_back old new r at read =
      let there : Fronts a other (w.packed ++ more) r.filling = record { fits = read.fits; rest = new.left; front = sym at ∙ read.advances.left } in
      let one : r.filling ≡ w.filling = det.top (bits_at other) (w.packed ++ more) r.filling w.filling there front_alone in
      let bits : packed r.filling ≡ w.packed = ap packed one ∙ sym written.packed_is in
      let has : item r.filling ≡ it = ap item one ∙ written.best.has in
      record {
        item_is = has;
        header_is = read.header_is ∙ ap (λ (i : Item). i.header) has;
        filling_is = one;
        bits_is = read.bits_is ∙ ap length bits;
        left_is = append_cancel_left w.packed new.left more (ap (λ b. b ++ new.left) (sym bits) ∙ sym read.advances.left ∙ at);
        next_are = next_same ctx other same w.filling r.filling one;
      }

  pub never_refused : (e : UnpackFault) → reading.Blames e a other (w.packed ++ more) → e ≡ OutOfMemory
  never_refused Truncated h = absurd (h.none w.filling front_alone)
  never_refused (Refused at) h = absurd (h [] w.filling (front_on []))
  never_refused OutOfMemory h = refl

pub read_back : ReadBack
read_back a det ctx other same it w written more = record { read = is_read_back a det ctx other same it w written more; never_refused = never_refused a det ctx other same it w written more }
