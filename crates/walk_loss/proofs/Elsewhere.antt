-- What was written, read in another context in which it fits.
use Rattle.std.proofs.Common.{◌≡◌, ◌∙◌, refl, sym, ap, subst, List, Bool, [], ◌++◌, length, append_assoc}
use Rattle.std.proofs.lemmas.List.{append_cancel_left}
use Rattle.sem_bits.specs.Cursor.{Place}
use Rattle.cert_accepted.specs.Accepted.{Accepting, IsDeterminate}
use Rattle.sem_context.specs.Entries.{Entries, bits_at}
use Rattle.sem_filling.specs.declared.filling.Item.{Item}
use Rattle.sem_filling.specs.Fillings.{packed, item}
use Rattle.sem_filling.specs.Entries.{next}
use Rattle.walk_engine.specs.declared.reader.Unpacked.{Unpacked}
use Rattle.walk_engine.specs.declared.reader.UnpackFault.{UnpackFault}
use Rattle.walk_engine.specs.declared.reader.UnpackFault.TheVariants.{Truncated, Refused, OutOfMemory}
use Rattle.walk_engine.specs.declared.search.Packed.{Packed}
use Rattle.walk_engine.specs.Reading as reading
use Rattle.walk_engine.specs.Reading.{Fitting, Fronts}
use Rattle.walk_engine.specs.Writing as writing
use Rattle.sem_elsewhere.proofs.Agreeing.{agree_after}
use Rattle.sem_elsewhere.proofs.Moving.{fits_elsewhere}
use Rattle.walk_loss.specs.Laws.{IsReadThere, ReadElsewhere, FitsByReferences, RightOrNot}

module _ (a : Accepting) (ctx other : Entries) (it : Item) (w : Packed) (written : writing.IsPacked a ctx it w) (more : List Bool) where
  front_there : (old new : Place) (r : Unpacked) → old.left ≡ w.packed ++ more → reading.IsUnpacked a other old new r → Fronts a other (w.packed ++ more) r.filling
  front_there old new r at read = record { fits = read.fits; rest = new.left; front = sym at ∙ read.advances.left }

  module _ (there : Fitting a other w.filling) where
    front_on : (rest : List Bool) → Fronts a other ((w.packed ++ more) ++ rest) w.filling
    front_on rest = record { fits = there; rest = more ++ rest; front = append_assoc w.packed more rest ∙ ap (λ p. p ++ (more ++ rest)) written.packed_is }

    front_alone : Fronts a other (w.packed ++ more) w.filling
    front_alone = record { fits = there; rest = more; front = ap (λ p. p ++ more) written.packed_is }

    never_refused : (e : UnpackFault) → reading.Blames e a other (w.packed ++ more) → e ≡ OutOfMemory
    never_refused Truncated h = absurd (h.none w.filling front_alone)
    never_refused (Refused at) h = absurd (h [] w.filling (front_on []))
    never_refused OutOfMemory h = refl

    module _ (det : IsDeterminate a) where
      one_filling : (old new : Place) (r : Unpacked) → old.left ≡ w.packed ++ more → reading.IsUnpacked a other old new r → r.filling ≡ w.filling
      one_filling old new r at read = det.top (bits_at other) (w.packed ++ more) r.filling w.filling (front_there old new r at read) front_alone

      is_read : (old new : Place) (r : Unpacked) → old.left ≡ w.packed ++ more → reading.IsUnpacked a other old new r → IsReadThere ctx other it w more new r
      is_read old new r at read =
          let one : r.filling ≡ w.filling = one_filling old new r at read in
          let bits : packed r.filling ≡ w.packed = ap packed one ∙ sym written.packed_is in
          record {
            item_is = ap item one ∙ written.best.has;
            header_is = read.header_is ∙ ap (λ (i : Item). i.header) (ap item one ∙ written.best.has);
            filling_is = one;
            bits_is = read.bits_is ∙ ap length bits;
            left_is = append_cancel_left w.packed new.left more (ap (λ b. b ++ new.left) (sym bits) ∙ sym read.advances.left ∙ at);
            agree = λ path some. agree_after ctx other w.filling path some ∙ ap (λ f. bits_at (next other f) path) (sym one);
          }

pub read_elsewhere : ReadElsewhere
read_elsewhere a det ctx other it w written there more = record {
  read = is_read a ctx other it w written more there det;
  never_refused = never_refused a ctx other it w written more there;
}

pub fits_by_references : FitsByReferences
fits_by_references a ctx other it w written = fits_elsewhere a.profile.methods a.profile.top (bits_at ctx) (bits_at other) [] [] w.filling written.best.fits

pub right_or_not : RightOrNot
right_or_not a det ctx other it w written more old new r at read = (
  λ e. subst (λ f. Fitting a other f) e read.fits,
  λ there. one_filling a ctx other it w written more there det old new r at read,
)
