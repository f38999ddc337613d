-- The steps of a session, from what the code knows.
use Rattle.std.proofs.Common.{◌≡◌, ◌∙◌, refl, sym, ap, subst, ℕ, ◌≤◌, Bool, List, [], ◌++◌, length, drop}
use Rattle.std.specs.Prelude.{slice_get, slice_set, Some, Result, Ok, Err, IfOk, IfErr}
use Rattle.sem_bits.specs.Cursor.{Place}
use Rattle.sem_context.specs.Entries.{Entries}
use Rattle.sem_filling.specs.declared.filling.Item.{Item}
use Rattle.sem_filling.specs.declared.filling.AskedValue.{AskedValue}
use Rattle.sem_filling.specs.declared.filling.Filling.{Filling}
use Rattle.sem_filling.specs.Fillings.{item, asked_values, level}
use Rattle.sem_filling.specs.Entries.{next}
use Rattle.sem_profile.specs.declared.asked.AskedField.{AskedField}
use Rattle.cert_accepted.specs.Accepted.{Accepting}
use Rattle.walk_engine.specs.declared.reader.Unpacked.{Unpacked}
use Rattle.walk_engine.specs.Reading as reading
use Rattle.sem_pages.specs.Pages.{Shows}
use Rattle.walk_pages.specs.declared.reader.ReadPage.{ReadPage}
use Rattle.walk_pages.specs.Reader as flat
use Rattle.walk_session.specs.declared.ends.Ends.{Ends}
use Rattle.walk_session.specs.declared.ends.Sending.{Sending}
use Rattle.walk_session.specs.declared.unpacker.Taken.{Taken}
use Rattle.walk_session.specs.declared.refusal.PackRefusal.{PackRefusal}
use Rattle.walk_session.specs.declared.refusal.PackRefusal.TheVariants as pack
use Rattle.walk_session.specs.declared.refusal.UnpackRefusal.{UnpackRefusal}
use Rattle.walk_session.specs.declared.refusal.UnpackRefusal.TheVariants as unpack
use Rattle.walk_session.specs.Asked.{Spells}
use Rattle.walk_session.specs.Octets.{IsOf, IsWritten}
use Rattle.walk_session.specs.State.{State}
use Rattle.walk_session.specs.Packer.{IsGiven, BlamesGiven, IsSent, BlamesSend}
use Rattle.walk_session.specs.Unpacker.{IsRead, IsReceived, BlamesReceive}
use Rattle.walk_session.specs.Steps.{IsPacked, IsNotPacked, pack_no_flow, not_given, not_sent, IsUnpacked, IsNotUnpacked, unpack_no_flow, not_received}

pub if_ok_more : {A E : Type 0} (P Q : A → Type 0) (r : Result A E) → ((a : A) → P a → Q a) → IfOk r P → IfOk r Q
if_ok_more P Q (Ok x) f h = f x h
if_ok_more P Q (Err e) f h = tt

pub if_err_more : {A E : Type 0} (P Q : E → Type 0) (r : Result A E) → ((e : E) → P e → Q e) → IfErr r P → IfErr r Q
if_err_more P Q (Ok x) f h = tt
if_err_more P Q (Err e) f h = f e h

-- ---- one packet

-- what was read, as the code has it
pub read_is : (a : Accepting) (ctx : Entries) (packed : List ℕ) (count : ℕ) (bits : List Bool) (place rest : Place) (u : Unpacked) (it : Item) (slice : List AskedValue) (values : List ℕ) (t : Taken) →
    IsOf packed count bits → place ≡ record { used = []; left = bits } → reading.IsUnpacked a ctx place rest u → it ≡ item u.filling → slice ≡ it.asked → Spells slice values →
    t.header_bits ≡ length it.header → t.asked_octets ≡ length values → t.bits ≡ u.bits → IsRead a ctx packed count t
read_is a ctx packed count bits place rest u it slice values t are begins read same listed spelled header asked taken = record {
  bits = bits;
  bits_are = are;
  u = u;
  rest = rest;
  unpacked = subst (λ p. reading.IsUnpacked a ctx p rest u) begins read;
  values = values;
  values_are = subst (λ vs. Spells vs values) (listed ∙ ap (λ i. i.asked) same) spelled;
  header_bits_are = header ∙ ap (λ i. length i.header) same ∙ ap length (sym read.header_is);
  asked_octets_are = asked;
  bits_taken = taken;
}

pub received_is : (a : Accepting) (ctx new : Entries) (packed : List ℕ) (count : ℕ) (bits : List Bool) (place rest : Place) (u : Unpacked) (it : Item) (slice : List AskedValue) (values : List ℕ) (t : Taken)
    (header header_new asked asked_new : List ℕ) → IsOf packed count bits → place ≡ record { used = []; left = bits } → reading.IsUnpacked a ctx place rest u → it ≡ item u.filling → slice ≡ it.asked → Spells slice values →
    t.header_bits ≡ length it.header → t.asked_octets ≡ length values → t.bits ≡ u.bits → IsWritten it.header header header_new → length values ≤ length asked → asked_new ≡ values ++ drop (length values) asked →
    new ≡ next ctx u.filling → IsReceived a ctx new packed count header header_new asked asked_new t
unfolding read_is
received_is a ctx new packed count bits place rest u it slice values t header header_new asked asked_new are begins read same listed spelled long many taken put within put_there on = record {
  read = read_is a ctx packed count bits place rest u it slice values t are begins read same listed spelled long many taken;
  header_put = subst (λ h. IsWritten h header header_new) (ap (λ i. i.header) same ∙ sym read.header_is) put;
  asked_put = record { within = within; new_is = put_there };
  new_is = on;
}

-- the same of a page that was read
pub page_received : (a : Accepting) (ctx new : Entries) (packed : List ℕ) (count : ℕ) (bits : List Bool) (place rest : Place) (r : ReadPage) (given slice : List AskedValue) (values : List ℕ) (t : Taken)
    (header header_new asked asked_new : List ℕ) → IsOf packed count bits → place ≡ record { used = []; left = bits } → flat.IsRead a ctx place rest r
    → ((f : Filling) → Shows a.profile.methods a.profile.top r.page f → given ≡ asked_values (level f)) → slice ≡ given → Spells slice values →
    t.header_bits ≡ length r.header → t.asked_octets ≡ length values → t.bits ≡ r.bits → IsWritten r.header header header_new → length values ≤ length asked → asked_new ≡ values ++ drop (length values) asked →
    ((f : Filling) → reading.Fitting a ctx f → Shows a.profile.methods a.profile.top r.page f → new ≡ next ctx f) → IsReceived a ctx new packed count header header_new asked asked_new t
page_received a ctx new packed count bits place rest r given slice values t header header_new asked asked_new are begins read listed same spelled long many taken put within put_there on =
    received_is a ctx new packed count bits place rest (record { header = r.header; filling = read.filling; bits = r.bits }) (record { header = r.header; asked = given }) slice values t header header_new asked asked_new are begins
    (record { fits = read.fits; advances = read.advances; header_is = read.header_is; bits_is = read.bits_is })
    (λ i. record { header = read.header_is i; asked = listed read.filling read.shown i })
    same spelled long many taken put within put_there (on read.filling read.fits read.shown)

-- ---- at a flow

pub packed_at : (p : Accepting) (flows : List Ends) (s : State) (flow : ℕ) (ends : Ends) (sending : Sending) (it : Item) (fields : List AskedField) (header : List ℕ) (count : ℕ) (asked room written : List ℕ) (n : ℕ) →
    slice_get flows flow ≡ Some ends → record { accepted = p; flows = flows } ≡ s → fields ≡ p.profile.asked → IsGiven fields header count asked it → IsSent p ends.sending sending it room written n →
    IsPacked s (record { accepted = p; flows = slice_set flows flow (record { sending = sending; receiving = ends.receiving }) }) flow header count asked room written n
packed_at p flows s flow ends sending it fields header count asked room written n at is same given sent =
    subst (λ z. IsPacked z (record { accepted = p; flows = slice_set flows flow (record { sending = sending; receiving = ends.receiving }) }) flow header count asked room written n) is
    (record { ends = ends; at = at; it = it; given = subst (λ fs. IsGiven fs header count asked it) same given; sending = sending; sent = sent; new_is = refl })

pub pack_nowhere : (p : Accepting) (flows : List Ends) (s : State) (flow : ℕ) (header : List ℕ) (count : ℕ) (asked : List ℕ) (room : ℕ) → record { accepted = p; flows = flows } ≡ s → length flows ≤ flow →
    IsNotPacked s flow header count asked room pack.Flow
pack_nowhere p flows s flow header count asked room is beyond = pack_no_flow (subst (λ (z : State). length z.flows ≤ flow) is beyond)

pub pack_not_given : (p : Accepting) (flows : List Ends) (s : State) (flow : ℕ) (fields : List AskedField) (header : List ℕ) (count : ℕ) (asked : List ℕ) (room : ℕ) (e : PackRefusal) → record { accepted = p; flows = flows } ≡ s →
    fields ≡ p.profile.asked → BlamesGiven e fields header count asked → IsNotPacked s flow header count asked room e
pack_not_given p flows s flow fields header count asked room e is same blames =
    not_given (subst (λ fs. BlamesGiven e fs header count asked) (same ∙ ap (λ (z : State). z.accepted.profile.asked) is) blames)

pub pack_not_sent : (p : Accepting) (flows : List Ends) (s : State) (flow : ℕ) (ends : Ends) (it : Item) (fields : List AskedField) (header : List ℕ) (count : ℕ) (asked : List ℕ) (room : ℕ) (e : PackRefusal) →
    slice_get flows flow ≡ Some ends → record { accepted = p; flows = flows } ≡ s → fields ≡ p.profile.asked → IsGiven fields header count asked it → BlamesSend e p ends.sending it room →
    IsNotPacked s flow header count asked room e
pack_not_sent p flows s flow ends it fields header count asked room e at is same given blames =
    subst (λ z. IsNotPacked z flow header count asked room e) is (not_sent ends it at (subst (λ fs. IsGiven fs header count asked it) same given) blames)

pub unpacked_at : (p : Accepting) (flows : List Ends) (s : State) (flow : ℕ) (ends : Ends) (receiving : Entries) (packed : List ℕ) (count : ℕ) (header header_new asked asked_new : List ℕ) (t : Taken) →
    slice_get flows flow ≡ Some ends → record { accepted = p; flows = flows } ≡ s → IsReceived p ends.receiving receiving packed count header header_new asked asked_new t →
    IsUnpacked s (record { accepted = p; flows = slice_set flows flow (record { sending = ends.sending; receiving = receiving }) }) flow packed count header header_new asked asked_new t
unpacked_at p flows s flow ends receiving packed count header header_new asked asked_new t at is received =
    subst (λ z. IsUnpacked z (record { accepted = p; flows = slice_set flows flow (record { sending = ends.sending; receiving = receiving }) }) flow packed count header header_new asked asked_new t) is
    (record { ends = ends; at = at; receiving = receiving; received = received; new_is = refl })

pub unpack_nowhere : (p : Accepting) (flows : List Ends) (s : State) (flow : ℕ) (packed : List ℕ) (count header asked : ℕ) → record { accepted = p; flows = flows } ≡ s → length flows ≤ flow →
    IsNotUnpacked s flow packed count header asked unpack.Flow
unpack_nowhere p flows s flow packed count header asked is beyond = unpack_no_flow (subst (λ (z : State). length z.flows ≤ flow) is beyond)

pub unpack_not_received : (p : Accepting) (flows : List Ends) (s : State) (flow : ℕ) (ends : Ends) (packed : List ℕ) (count header asked : ℕ) (e : UnpackRefusal) → slice_get flows flow ≡ Some ends →
    record { accepted = p; flows = flows } ≡ s → BlamesReceive e p ends.receiving packed count header asked → IsNotUnpacked s flow packed count header asked e
unpack_not_received p flows s flow ends packed count header asked e at is blames = subst (λ z. IsNotUnpacked z flow packed count header asked e) is (not_received ends at blames)
