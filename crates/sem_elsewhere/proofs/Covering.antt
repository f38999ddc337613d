-- Contexts of one sender agree at the paths at which no filling has an entry.
use Rattle.std.proofs.Common.{◌≡◌, ◌∙◌, refl, ap, ℕ, zero, suc, List, [], ◌∷◌, arith}
use Rattle.std.specs.Prelude.{None, Some, slice_get, reverse}
use Rattle.std.specs.Option.{option_or}
use Rattle.sem_context.specs.Entries.{Entries, bits_at}
use Rattle.sem_context.proofs.EntriesOverrides.{overridden-value}
use Rattle.sem_profile.specs.declared.profile.Method.{Method}
use Rattle.sem_filling.specs.declared.filling.Filling.{Filling}
use Rattle.sem_filling.specs.Entries.{Path, entries, next}
use Rattle.sem_filling.specs.Fits.{Context}
use Rattle.sem_filling.specs.Fronts.{FitsTop}
use Rattle.sem_profile.specs.Alike.{AreAlike}
use Rattle.sem_elsewhere.specs.Robust.{Sends, all_sent, sends}
use Rattle.sem_elsewhere.specs.Paths.{CallAlike}
use Rattle.sem_elsewhere.specs.Covering.{SendsFitting, none_left, sends_one, Covers, LossProofAlike}
use Rattle.sem_elsewhere.proofs.Pathing.{same_paths}
use Rattle.sem_elsewhere.proofs.Surviving.{loss_proof}

module _ (methods : List Method) (top n : ℕ) (alike : AreAlike methods) (calls : CallAlike methods) where
  -- the contexts so far agree where a filling that fits anywhere has no entry
  abbrev AgreeElse : Entries → List Entries → Type 0
  AgreeElse ctx before = (i : ℕ) (c : Entries) → slice_get (ctx ∷ before) i ≡ Some c → (other : Context) (f : Filling) → FitsTop methods top other f → (path : Path) → bits_at (reverse (entries f)) path ≡ None
      → bits_at ctx path ≡ bits_at c path

  begin : (ctx : Entries) → AgreeElse ctx []
  begin ctx zero c at other f h path none = let same : ctx ≡ c = cc in ap (λ e. bits_at e path) same
  begin ctx (suc i) c at other f h path none = absurd (cc)

  onward : (ctx : Entries) (before : List Entries) (g : Filling) → FitsTop methods top (bits_at ctx) g → AgreeElse ctx before → AgreeElse (next ctx g) (ctx ∷ before)
  onward ctx before g here agree zero c at other f h path none = let same : next ctx g ≡ c = cc in ap (λ e. bits_at e path) same
  onward ctx before g here agree (suc i) c at other f h path none =
      overridden-value ctx (entries g) path
      ∙ ap (λ o. option_or o (bits_at ctx path)) (same_paths methods top alike calls (bits_at ctx) other g f here h path none)
      ∙ agree i c at other f h path none

  each_covers : {ctx : Entries} {before : List Entries} {fs : List Filling} → AgreeElse ctx before → SendsFitting methods top n ctx before fs → Sends methods top n ctx before fs
  each_covers agree none_left = all_sent
  each_covers {ctx} {before} agree (sends_one {f = f} each later) =
      let here : FitsTop methods top (bits_at ctx) f = each 0 ctx (omega arith) refl in
      sends (record { fits_each = each; covers = λ i c within at path none. agree i c at (bits_at ctx) f here path none }) (each_covers (onward ctx before f here agree) later)

pub covers : Covers
covers methods top n alike calls ctx fs s = each_covers methods top n alike calls (begin methods top n alike calls ctx) s

pub loss_proof_alike : LossProofAlike
loss_proof_alike methods top n det alike calls ctx other same fs got gs bits s through come read =
    loss_proof methods top n det ctx other same fs got gs bits (covers methods top n alike calls ctx fs s) through come read
