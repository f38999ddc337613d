-- What is said of the octets of one packet.
use Rattle.std.proofs.Common.{◌≡◌, ◌∙◌, refl, sym, ap, subst, ℕ, zero, suc, ◌+◌, ◌*◌, ◌<◌, ◌≤◌, ◌^◌, Bool, false, List, [], ◌∷◌, ◌++◌, length, replicate, arith}
use Rattle.std.proofs.lemmas.List.{append-nil, length-append, length-replicate}
use Rattle.hex.specs.Hex.{IsBytes}
use Rattle.sem_bits.specs.Cursor.{Place, Advances}
use Rattle.sem_bits.specs.Octets.{bits_of, Holds}
use Rattle.sem_bits.proofs.Octets.{length-bits_of}
use Rattle.sem_context.specs.Entries.{Entries}
use Rattle.sem_filling.specs.declared.filling.Filling.{Filling}
use Rattle.sem_filling.specs.declared.filling.Item.{Item}
use Rattle.sem_filling.specs.Fillings.{header, item, packed}
use Rattle.sem_filling.specs.Entries.{next}
use Rattle.cert_accepted.specs.Accepted.{Accepting}
use Rattle.walk_engine.specs.declared.reader.Unpacked.{Unpacked}
use Rattle.walk_engine.specs.Reading.{Fitting, IsUnpacked}
use Rattle.walk_engine.specs.Reading as reading
use Rattle.walk_frames.specs.Receiving.{Blames, HasMore, HasPadding, IsRead}
use Rattle.walk_frames.specs.Reading.{IsTold}

-- as many bits as the octets have are all of them
pub whole_bits : (body : List ℕ) (bits : List Bool) (count : ℕ) → length bits ≡ count → count ≡ length body * 8 → Holds body bits → bits ≡ bits_of body
whole_bits body bits count is count_is h =
    let all : 8 * length body ≡ length bits + h.padding = sym (length-bits_of body) ∙ ap length h.filled ∙ length-append bits (replicate h.padding false) ∙ ap (λ n. length bits + n) (length-replicate h.padding false) in
    let none : h.padding ≡ 0 = omega (arith, all, is, count_is) in
    sym (append-nil bits) ∙ ap (λ n. bits ++ replicate n false) (sym none) ∙ sym h.filled

-- and the octets hold these
pub never_none : (body : List ℕ) (count : ℕ) → IsBytes body → count ≡ length body * 8 → length body < 2 ^ 15 → ((b : List Bool) → length b ≡ count → count < 2 ^ 31 → Holds body b → ⊥) → ⊥
never_none body count fit count_is few none =
    none (bits_of body) (length-bits_of body ∙ omega (arith, count_is)) (omega (arith, count_is, few)) (record { octets_fit = fit; padding = 0; few = omega arith; filled = sym (append-nil (bits_of body)) })

pub read_is : (p : Accepting) (old new : Entries) (body : List ℕ) (bits left : List Bool) (f : Filling) (it : Item) → Holds body bits → bits ≡ bits_of body → Fitting p old f → bits ≡ packed f ++ left →
    (length left < 8) × (left ≡ replicate (length left) false) → new ≡ next old f → it ≡ item f → IsRead p old new body it
read_is p old new body bits left f it held bits_are fits front pads next_is item_is = record {
  filling = f;
  fits = fits;
  holds = record { octets_fit = held.octets_fit; padding = length left; few = pads.0; filled = sym bits_are ∙ front ∙ ap (λ b. packed f ++ b) pads.1 };
  next_is = next_is;
  item_is = item_is;
}

pub front_is : (from to : Place) (bits own : List Bool) → from ≡ record { used = []; left = bits } → Advances from to own → bits ≡ own ++ to.left
front_is from to bits own begins at = ap (λ (c : Place). c.left) (sym begins) ∙ at.left

pub told_is : (p : Accepting) (ctx : Entries) (bits : List Bool) (from to : Place) (u : Unpacked) → from ≡ record { used = []; left = bits } → IsUnpacked p ctx from to u → IsTold p ctx bits to u
told_is p ctx bits from to u begins r = record { fits = r.fits; bits_are = front_is from to bits (packed u.filling) begins r.advances; header_is = r.header_is }

pub more_is : (p : Accepting) (ctx : Entries) (body : List ℕ) (bits : List Bool) (at : Place) (u : Unpacked) → bits ≡ bits_of body → IsTold p ctx bits at u → 8 ≤ length at.left → HasMore p ctx body
more_is p ctx body bits at u bits_are told many = record { filling = u.filling; more = at.left; fits = told.fits; bits_are = sym bits_are ∙ told.bits_are; many = many }

pub padding_is : (p : Accepting) (ctx : Entries) (body : List ℕ) (bits : List Bool) (at : Place) (u : Unpacked) → bits ≡ bits_of body → IsTold p ctx bits at u → length at.left < 8 →
    ((length at.left < 8) × (at.left ≡ replicate (length at.left) false) → ⊥) → HasPadding p ctx body
padding_is p ctx body bits at u bits_are told few never = record { filling = u.filling; padding = at.left; fits = told.fits; bits_are = sym bits_are ∙ told.bits_are; few = few; not_zero = λ z. never (few, z) }

pub truncated_is : (p : Accepting) (ctx : Entries) (body : List ℕ) (bits : List Bool) (from : Place) → bits ≡ bits_of body → from ≡ record { used = []; left = bits } → reading.IsTruncated p ctx from.left → reading.IsTruncated p ctx (bits_of body)
truncated_is p ctx body bits from bits_are begins h = subst (reading.IsTruncated p ctx) (ap (λ (c : Place). c.left) begins ∙ bits_are) h

pub refused_is : (p : Accepting) (ctx : Entries) (body : List ℕ) (bits : List Bool) (from : Place) → bits ≡ bits_of body → from ≡ record { used = []; left = bits } → reading.IsRefused p ctx from.left → reading.IsRefused p ctx (bits_of body)
refused_is p ctx body bits from bits_are begins h = subst (reading.IsRefused p ctx) (ap (λ (c : Place). c.left) begins ∙ bits_are) h
