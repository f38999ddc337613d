-- What one session packs another unpacks.
use Rattle.std.proofs.Common.{◌≡◌, ◌∙◌, sym, ap, subst, ℕ, ◌+◌, ◌/◌, Bool, List, [], ◌++◌, length, drop}
use Rattle.sem_bits.specs.Octets.{Holds}
use Rattle.sem_bits.proofs.OctetsHeld.{bits_same, split_same}
use Rattle.sem_bits.specs.Cursor.{Place}
use Rattle.sem_context.specs.Entries.{Entries, bits_at}
use Rattle.sem_filling.specs.declared.filling.Item.{Item}
use Rattle.sem_filling.specs.Fillings.{item}
use Rattle.sem_filling.specs.Entries.{next}
use Rattle.cert_accepted.specs.Accepted.{Accepting, IsDeterminate}
use Rattle.walk_engine.specs.Laws.{AreSame}
use Rattle.walk_engine.specs.declared.reader.Unpacked.{Unpacked}
use Rattle.walk_engine.specs.Reading as reading
use Rattle.walk_engine.proofs.ReadingBack.{read_back}
use Rattle.walk_session.specs.declared.ends.Sending.{Sending}
use Rattle.walk_session.specs.declared.ends.Sending.TheVariants.{Plain, Robust}
use Rattle.walk_session.specs.Octets.{IsWritten}
use Rattle.walk_session.specs.Packer.{IsSent, IsSentPlain}
use Rattle.walk_session.specs.Steps.{own_of}
use Rattle.walk_session.specs.Laws as laws
use Rattle.walk_session.proofs.Values.{count_of}

-- a room begins with one run of bits of a count
pub one_written : (a b : List Bool) (old new : List ℕ) → length a ≡ length b → IsWritten a old new → IsWritten b old new → a ≡ b
one_written a b old new same w x =
    let many : length w.octets ≡ length x.octets = count_of w.octets a w.holds ∙ ap (λ n. (n + 7) / 8) same ∙ sym (count_of x.octets b x.holds) in
    let parts = split_same w.octets x.octets (drop (length w.octets) old) (drop (length x.octets) old) many (sym w.put.new_is ∙ x.put.new_is) in
    bits_same w.octets a b w.holds (subst (λ o. Holds o b) (sym parts.0) x.holds) same

module _ (a : Accepting) (det : IsDeterminate a) (it : Item) (room written : List ℕ) (n : ℕ) where
  -- what was packed in one context is unpacked in the same one
  plain : (ctx new other receiving : Entries) → AreSame ctx other → IsSentPlain a ctx new it room written n → (packed more : List Bool) → length packed ≡ n → IsWritten packed room written →
      (bits : List Bool) (u : Unpacked) (rest : Place) → reading.IsUnpacked a other (record { used = []; left = bits }) rest u → bits ≡ packed ++ more → (k : ℕ) → k ≡ u.bits → receiving ≡ next other u.filling →
      laws.IsReadBack it (item u.filling) n k new receiving
  plain ctx new other receiving same sent packed more long there bits u rest unpacked begins k k_is on =
      let one : packed ≡ sent.p.packed = one_written packed sent.p.packed room written (long ∙ sent.bits_are) there sent.output in
      let back = (read_back a det ctx other same it sent.p sent.packed more).read (record { used = []; left = bits }) rest u (begins ∙ ap (λ b. b ++ more) one) unpacked in
      record {
        item_is = back.item_is;
        taken_are = k_is ∙ back.bits_is ∙ sym sent.bits_are;
        next_are = λ path. ap (λ c. bits_at c path) sent.new_is ∙ back.next_are path ∙ ap (λ c. bits_at c path) (sym on);
      }

  by_ends : (old new : Sending) → IsSent a old new it room written n → (ctx : Entries) → old ≡ Plain ctx → (other receiving : Entries) → AreSame ctx other → (packed more : List Bool) → length packed ≡ n → IsWritten packed room written →
      (bits : List Bool) (u : Unpacked) (rest : Place) → reading.IsUnpacked a other (record { used = []; left = bits }) rest u → bits ≡ packed ++ more → (k : ℕ) → k ≡ u.bits → receiving ≡ next other u.filling →
      laws.IsReadBack it (item u.filling) n k (own_of new) receiving
  by_ends (Plain old) (Plain new) sent ctx is other receiving same packed more long there bits u rest unpacked begins k k_is on =
      plain old new other receiving (subst (λ c. AreSame c other) (sym (plain_same old ctx is)) same) sent packed more long there bits u rest unpacked begins k k_is on
    where
      plain_same : (x y : Entries) → Plain x ≡ Plain y → x ≡ y
      plain_same x y e = cc
  by_ends (Plain old) (Robust new) sent ctx is other receiving same packed more long there bits u rest unpacked begins k k_is on = absurd sent
  by_ends (Robust old) (Plain new) sent ctx is other receiving same packed more long there bits u rest unpacked begins k k_is on = absurd sent
  by_ends (Robust old) (Robust new) sent ctx is other receiving same packed more long there bits u rest unpacked begins k k_is on = let wrong : Robust old ≡ Plain ctx = is in absurd cc

pub session_read_back : laws.ReadBack
session_read_back s new t next flow other header count asked room written n octets m h hw a aw k det same_profile sent heard ctx is same packed more long there begins =
    let read = heard.received.read in
    by_ends s.accepted det sent.it room written n sent.ends.sending sent.sending sent.sent ctx is heard.ends.receiving heard.receiving same packed more long there
    read.bits read.u read.rest (subst (λ p. reading.IsUnpacked p heard.ends.receiving (record { used = []; left = read.bits }) read.rest read.u) same_profile read.unpacked) begins k.bits read.bits_taken heard.received.new_is
