-- What comes through is read back.
use Rattle.std.proofs.Common.{◌≡◌, ◌∙◌, refl, sym, ap, subst, List, Bool, [], ◌∷◌, ◌++◌, append_assoc, map}
use Rattle.sem_bits.specs.Cursor.{Place}
use Rattle.sem_context.specs.Entries.{Entries, bits_at}
use Rattle.sem_filling.specs.declared.filling.Filling.{Filling}
use Rattle.sem_filling.specs.Fillings.{packed, header}
use Rattle.sem_filling.specs.Entries.{next}
use Rattle.cert_accepted.specs.Accepted.{Accepting, IsDeterminate}
use Rattle.walk_engine.specs.declared.reader.Unpacked.{Unpacked}
use Rattle.walk_engine.specs.declared.reader.UnpackFault.{UnpackFault}
use Rattle.walk_engine.specs.declared.reader.UnpackFault.TheVariants.{Truncated, Refused, OutOfMemory}
use Rattle.walk_engine.specs.Reading as reading
use Rattle.walk_engine.specs.Reading.{Fitting, Fronts}
use Rattle.sem_elsewhere.specs.Runs.{Survives, all_survive, survives, Arrives, nothing, arrives}
use Rattle.sem_elsewhere.proofs.Surviving.{loss_fits}
use Rattle.sem_elsewhere.proofs.Covering.{covers}
use Rattle.walk_loss.specs.Losses.{Unpacks, unpacks_none, unpacks, Refuses, refuses_here, refuses_later, AreReadBack, SurvivesLosses, SurvivesLossesAlike}

module _ (a : Accepting) (det : IsDeterminate a) where
  at_front : (other : Entries) (f : Filling) (bits rest more : List Bool) → bits ≡ packed f ++ rest → Fitting a other f → Fronts a other (bits ++ more) f
  at_front other f bits rest more is it_fits = record { fits = it_fits; rest = rest ++ more; front = ap (λ z. z ++ more) is ∙ append_assoc (packed f) rest more }

  alone_front : (other : Entries) (f : Filling) (bits rest : List Bool) → bits ≡ packed f ++ rest → Fitting a other f → Fronts a other bits f
  alone_front other f bits rest is it_fits = record { fits = it_fits; rest = rest; front = is }

  one : (other : Entries) (f : Filling) (bits rest : List Bool) (old new : Place) (r : Unpacked) → bits ≡ packed f ++ rest → Fitting a other f → old.left ≡ bits → reading.IsUnpacked a other old new r → r.filling ≡ f
  one other f bits rest old new r is it_fits at read =
      det.top (bits_at other) bits r.filling f (record { fits = read.fits; rest = new.left; front = sym at ∙ read.advances.left }) (alone_front other f bits rest is it_fits)

  kept : (other : Entries) (f : Filling) (bits rest : List Bool) (e : UnpackFault) → bits ≡ packed f ++ rest → Fitting a other f → reading.Blames e a other bits → e ≡ OutOfMemory
  kept other f bits rest Truncated is it_fits h = absurd (h.none f (alone_front other f bits rest is it_fits))
  kept other f bits rest (Refused at) is it_fits h = absurd (h [] f (at_front other f bits rest [] is it_fits))
  kept other f bits rest OutOfMemory is it_fits h = refl

  fillings : (other : Entries) {got : List Filling} {bits : List (List Bool)} {rs : List Unpacked} → Survives a.profile.methods a.profile.top other got → Arrives got bits → Unpacks a other bits rs
      → map (λ (r : Unpacked). r.filling) rs ≡ got
  fillings other all_survive nothing unpacks_none = refl
  fillings other (survives {f = f} {fs = fs} it_fits s) (arrives {bits = bits} {more = more} rest is later) (unpacks {us = rs} old new r at read on) =
      let same : r.filling ≡ f = one other f bits rest old new r is it_fits at read in
      ap (λ z. z ∷ map (λ (x : Unpacked). x.filling) rs) same ∙ ap (λ z. f ∷ z) (fillings (next other f) s later (subst (λ z. Unpacks a (next other z) more rs) same on))

  -- a header is that of its filling
  headers : (other : Entries) {bits : List (List Bool)} {rs : List Unpacked} → Unpacks a other bits rs → map (λ (r : Unpacked). r.header) rs ≡ map (λ f. header f) (map (λ (r : Unpacked). r.filling) rs)
  headers other unpacks_none = refl
  headers other (unpacks {us = rs} old new r at read on) =
      ap (λ z. z ∷ map (λ (x : Unpacked). x.header) rs) read.header_is ∙ ap (λ z. header r.filling ∷ z) (headers (next other r.filling) on)

  none_refused : {other : Entries} {bits : List (List Bool)} {e : UnpackFault} → Refuses a other bits e → bits ≡ [] → e ≡ OutOfMemory
  none_refused (refuses_here h) is = absurd (cc)
  none_refused (refuses_later old new r at read on) is = absurd (cc)

  refusals : (other : Entries) {got : List Filling} {bits : List (List Bool)} {e : UnpackFault} → Survives a.profile.methods a.profile.top other got → Arrives got bits → Refuses a other bits e → e ≡ OutOfMemory
  refusals other all_survive nothing h = none_refused h refl
  refusals other (survives {f = f} it_fits s) (arrives {bits = bits} rest is later) (refuses_here {e = e} h) = kept other f bits rest e is it_fits h
  refusals other (survives {f = f} it_fits s) (arrives {bits = bits} {more = more} rest is later) (refuses_later {e = e} old new r at read on) =
      let same : r.filling ≡ f = one other f bits rest old new r is it_fits at read in
      refusals (next other f) s later (subst (λ z. Refuses a (next other z) more e) same on)

-- what comes through of fillings that fit where they come is read back
pub read_back : (a : Accepting) → IsDeterminate a → (other : Entries) (got : List Filling) (bits : List (List Bool)) → Survives a.profile.methods a.profile.top other got → Arrives got bits → AreReadBack a other got bits
read_back a det other got bits s come = record {
  fillings_are = λ rs read. fillings a det other s come read;
  headers_are = λ rs read. headers a det other read ∙ ap (map (λ f. header f)) (fillings a det other s come read);
  never_refused = λ e h. refusals a det other s come h;
}

pub survives_losses : SurvivesLosses
survives_losses a det n ctx other same fs got bits sent through come = read_back a det other got bits (loss_fits a.profile.methods a.profile.top n ctx other same fs got sent through) come

pub survives_losses_alike : SurvivesLossesAlike
survives_losses_alike a det alike calls n ctx other same fs got bits sent through come =
    survives_losses a det n ctx other same fs got bits (covers a.profile.methods a.profile.top n alike calls ctx fs sent) through come
