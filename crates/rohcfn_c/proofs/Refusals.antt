-- What is told of a step that is refused.
use Rattle.std.proofs.Common.{◌≡◌, refl, sym, ap, subst, ℕ, List, length}
use Rattle.walk_session.specs.State.{State}
use Rattle.walk_session.specs.declared.refusal.PackRefusal.{PackRefusal}
use Rattle.walk_session.specs.declared.refusal.UnpackRefusal.{UnpackRefusal}
use Rattle.walk_session.specs.Steps.{IsNotPacked, IsNotUnpacked}
use Rattle.rohcfn_c.specs.declared.opened.Opened.{Opened}
use Rattle.rohcfn_c.specs.declared.opened.Last.TheVariants.{Pack, Unpack}
use Rattle.rohcfn_c.specs.declared.steps.Counts.{Counts}
use Rattle.rohcfn_c.specs.declared.answer.CallAnswer.{CallAnswer}
use Rattle.rohcfn_c.specs.CallAnswer.{told_of_pack, told_of_unpack}
use Rattle.rohcfn_c.specs.Steps.{bits_of, counts_told, PackTold, not_packed, UnpackTold, not_unpacked}

pub pack_refused : (o : Opened) (s : State) (flow : ℕ) (header : List ℕ) (count : ℕ) (asked room written : List ℕ) (before n : ℕ) (e : PackRefusal) (told : CallAnswer) → told ≡ told_of_pack e →
    IsNotPacked o.session flow header count asked (length room) e → s ≡ o.session → written ≡ room → n ≡ bits_of e before →
    PackTold o (record { session = s; last = Pack e }) flow header count asked room written before n told
pack_refused o s flow header count asked room written before n e told is why same stays bits =
    subst (PackTold o (record { session = s; last = Pack e }) flow header count asked room written before n) (sym is) (not_packed e why (ap (λ z. record { session = z; last = Pack e }) same) stays bits)

pub unpack_refused : (o : Opened) (s : State) (flow : ℕ) (packed : List ℕ) (count : ℕ) (header header_written asked asked_written : List ℕ) (before n : Counts) (e : UnpackRefusal) (told : CallAnswer) → told ≡ told_of_unpack e →
    IsNotUnpacked o.session flow packed count (length header) (length asked) e → s ≡ o.session → header_written ≡ header → asked_written ≡ asked → n ≡ counts_told e before →
    UnpackTold o (record { session = s; last = Unpack e }) flow packed count header header_written asked asked_written before n told
unpack_refused o s flow packed count header header_written asked asked_written before n e told is why same stays asked_stays counts =
    subst (UnpackTold o (record { session = s; last = Unpack e }) flow packed count header header_written asked asked_written before n) (sym is)
    (not_unpacked e why (ap (λ z. record { session = z; last = Unpack e }) same) stays asked_stays counts)
