-- The parts at hand where one more is put in.
use Rattle.std.proofs.Common.{◌≡◌, ◌∙◌, ℕ, true, false, List, [], ◌∷◌, ◌++◌, refl, ap, Option, None, Some, Bor, codes, is_some, option_map}
use Rattle.std.specs.Str.{bytes_eq}
use Rattle.std.proofs.lemmas.Slice.Eq.{bytes_eq-Decides}
use Rattle.tool_input.specs.declared.bundle.Parts.{Parts}
use Rattle.tool_input.specs.Bundle.{HoldsParts, Part, named, text_named}
use Rattle.tool_input.proofs.BundleParts.{text_kept, text_put}

no_text : (o : Option (Bor (List ℕ))) (t : Option (List ℕ)) → is_some o ≡ false → option_map (λ text. text.now) o ≡ t → None ≡ t
no_text None t none e = e
no_text (Some x) t none e = cc

is_other : (name same wanted : List ℕ) → bytes_eq name same ≡ true → bytes_eq same wanted ≡ false → bytes_eq name wanted ≡ false
is_other name same wanted e other = ap (λ n. bytes_eq n wanted) ((bytes_eq-Decides name same).0 e) ∙ other

module _ (parts : Parts) (before : List Part) (name : List ℕ) (text : Bor (List ℕ)) (held : HoldsParts parts before) where
  kept : (same wanted : List ℕ) (o : Option (List ℕ)) → bytes_eq name same ≡ true → bytes_eq same wanted ≡ false → o ≡ text_named wanted before → o ≡ text_named wanted (before ++ named name text.now ∷ [])
  kept same wanted o e other h = text_kept wanted before (named name text.now) o (is_other name same wanted e other) h

  pub held_words : bytes_eq name (codes "words") ≡ true → is_some parts.words ≡ false → HoldsParts (record parts { words = Some text }) (before ++ named name text.now ∷ [])
  held_words e none = record {
    words = text_put (codes "words") before (named name text.now) e (no_text parts.words _ none held.words);
    profile = kept (codes "words") (codes "profile") _ e refl held.profile;
    certificate = kept (codes "words") (codes "certificate") _ e refl held.certificate;
    context = kept (codes "words") (codes "context") _ e refl held.context;
    items = kept (codes "words") (codes "items") _ e refl held.items;
    packets = kept (codes "words") (codes "packets") _ e refl held.packets;
    events = kept (codes "words") (codes "events") _ e refl held.events;
    octets = kept (codes "words") (codes "octets") _ e refl held.octets;
  }

  pub held_profile : bytes_eq name (codes "profile") ≡ true → is_some parts.profile ≡ false → HoldsParts (record parts { profile = Some text }) (before ++ named name text.now ∷ [])
  held_profile e none = record {
    words = kept (codes "profile") (codes "words") _ e refl held.words;
    profile = text_put (codes "profile") before (named name text.now) e (no_text parts.profile _ none held.profile);
    certificate = kept (codes "profile") (codes "certificate") _ e refl held.certificate;
    context = kept (codes "profile") (codes "context") _ e refl held.context;
    items = kept (codes "profile") (codes "items") _ e refl held.items;
    packets = kept (codes "profile") (codes "packets") _ e refl held.packets;
    events = kept (codes "profile") (codes "events") _ e refl held.events;
    octets = kept (codes "profile") (codes "octets") _ e refl held.octets;
  }

  pub held_certificate : bytes_eq name (codes "certificate") ≡ true → is_some parts.certificate ≡ false → HoldsParts (record parts { certificate = Some text }) (before ++ named name text.now ∷ [])
  held_certificate e none = record {
    words = kept (codes "certificate") (codes "words") _ e refl held.words;
    profile = kept (codes "certificate") (codes "profile") _ e refl held.profile;
    certificate = text_put (codes "certificate") before (named name text.now) e (no_text parts.certificate _ none held.certificate);
    context = kept (codes "certificate") (codes "context") _ e refl held.context;
    items = kept (codes "certificate") (codes "items") _ e refl held.items;
    packets = kept (codes "certificate") (codes "packets") _ e refl held.packets;
    events = kept (codes "certificate") (codes "events") _ e refl held.events;
    octets = kept (codes "certificate") (codes "octets") _ e refl held.octets;
  }

  pub held_context : bytes_eq name (codes "context") ≡ true → is_some parts.context ≡ false → HoldsParts (record parts { context = Some text }) (before ++ named name text.now ∷ [])
  held_context e none = record {
    words = kept (codes "context") (codes "words") _ e refl held.words;
    profile = kept (codes "context") (codes "profile") _ e refl held.profile;
    certificate = kept (codes "context") (codes "certificate") _ e refl held.certificate;
    context = text_put (codes "context") before (named name text.now) e (no_text parts.context _ none held.context);
    items = kept (codes "context") (codes "items") _ e refl held.items;
    packets = kept (codes "context") (codes "packets") _ e refl held.packets;
    events = kept (codes "context") (codes "events") _ e refl held.events;
    octets = kept (codes "context") (codes "octets") _ e refl held.octets;
  }

  pub held_items : bytes_eq name (codes "items") ≡ true → is_some parts.items ≡ false → HoldsParts (record parts { items = Some text }) (before ++ named name text.now ∷ [])
  held_items e none = record {
    words = kept (codes "items") (codes "words") _ e refl held.words;
    profile = kept (codes "items") (codes "profile") _ e refl held.profile;
    certificate = kept (codes "items") (codes "certificate") _ e refl held.certificate;
    context = kept (codes "items") (codes "context") _ e refl held.context;
    items = text_put (codes "items") before (named name text.now) e (no_text parts.items _ none held.items);
    packets = kept (codes "items") (codes "packets") _ e refl held.packets;
    events = kept (codes "items") (codes "events") _ e refl held.events;
    octets = kept (codes "items") (codes "octets") _ e refl held.octets;
  }

  pub held_packets : bytes_eq name (codes "packets") ≡ true → is_some parts.packets ≡ false → HoldsParts (record parts { packets = Some text }) (before ++ named name text.now ∷ [])
  held_packets e none = record {
    words = kept (codes "packets") (codes "words") _ e refl held.words;
    profile = kept (codes "packets") (codes "profile") _ e refl held.profile;
    certificate = kept (codes "packets") (codes "certificate") _ e refl held.certificate;
    context = kept (codes "packets") (codes "context") _ e refl held.context;
    items = kept (codes "packets") (codes "items") _ e refl held.items;
    packets = text_put (codes "packets") before (named name text.now) e (no_text parts.packets _ none held.packets);
    events = kept (codes "packets") (codes "events") _ e refl held.events;
    octets = kept (codes "packets") (codes "octets") _ e refl held.octets;
  }

  pub held_events : bytes_eq name (codes "events") ≡ true → is_some parts.events ≡ false → HoldsParts (record parts { events = Some text }) (before ++ named name text.now ∷ [])
  held_events e none = record {
    words = kept (codes "events") (codes "words") _ e refl held.words;
    profile = kept (codes "events") (codes "profile") _ e refl held.profile;
    certificate = kept (codes "events") (codes "certificate") _ e refl held.certificate;
    context = kept (codes "events") (codes "context") _ e refl held.context;
    items = kept (codes "events") (codes "items") _ e refl held.items;
    packets = kept (codes "events") (codes "packets") _ e refl held.packets;
    events = text_put (codes "events") before (named name text.now) e (no_text parts.events _ none held.events);
    octets = kept (codes "events") (codes "octets") _ e refl held.octets;
  }

  pub held_octets : bytes_eq name (codes "octets") ≡ true → is_some parts.octets ≡ false → HoldsParts (record parts { octets = Some text }) (before ++ named name text.now ∷ [])
  held_octets e none = record {
    words = kept (codes "octets") (codes "words") _ e refl held.words;
    profile = kept (codes "octets") (codes "profile") _ e refl held.profile;
    certificate = kept (codes "octets") (codes "certificate") _ e refl held.certificate;
    context = kept (codes "octets") (codes "context") _ e refl held.context;
    items = kept (codes "octets") (codes "items") _ e refl held.items;
    packets = kept (codes "octets") (codes "packets") _ e refl held.packets;
    events = kept (codes "octets") (codes "events") _ e refl held.events;
    octets = text_put (codes "octets") before (named name text.now) e (no_text parts.octets _ none held.octets);
  }
