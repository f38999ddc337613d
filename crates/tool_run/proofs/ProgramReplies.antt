-- What replies there are to an input.
use Rattle.std.proofs.Common.{◌≡◌, ◌∙◌, ℕ, ◌<◌, ◌≤◌, Bool, true, false, List, [], ◌∷◌, Option, None, Some, refl, sym, ap, subst, length, option_map, codes, string_bytes, Bor, map, ◌==◌, arith}
use Rattle.std.specs.Prelude.{option_and_then}
use Rattle.std.proofs.lemmas.Bool.Decides.{Decides-eqb}
use Rattle.tool_input.specs.Bundle.{BlamesPart, HoldsParts, IsBundle, parts_of, shown_name}
use Rattle.tool_run.specs.Program.{RunPrints, RefusesBy, Replies, RepliesBy, Tells, TellsBy, bad_part_line, large_line, words_of}
use Rattle.tool_input.specs.Counted.{most_octets}
use Rattle.tool_input.specs.PartWords.{words_in}
use Rattle.tool_run.specs.Program.RunPrints.{large, bad_part, no_words, answered}
use Rattle.tool_input.specs.declared.bundle.BadPart.{BadPart}
use Rattle.tool_input.specs.declared.bundle.Parts.{Parts}
use Rattle.tool_run.specs.declared.program.Reply.{Reply}
use Rattle.tool_run.specs.declared.program.Reply.TheVariants.{Print, Tell}
use Rattle.tool_input.specs.declared.status.Status.{Status}
use Rattle.tool_input.specs.declared.status.Status.TheVariants.{Done, Refused, Usage, Failed}

-- a print that is known to be this one
print_is : (given : List (List ℕ)) (input : List ℕ) (status status' : Status) (output output' : List ℕ) → status' ≡ status → output' ≡ output → RunPrints given input status output → RunPrints given input status' output'
print_is given input status status' output output' s o p =
    subst (λ (x : Status). RunPrints given input x output') (sym s) (subst (λ (x : List ℕ). RunPrints given input status x) (sym o) p)

refused_by : (given : List (List ℕ)) (input line : List ℕ) (reply : Reply) → RunPrints given input Refused line → RefusesBy line reply → Replies given input reply
refused_by given input line (Print status output) p says = print_is given input Refused status line (string_bytes output) says.0 says.1 p
refused_by given input line (Tell status text) p says = absurd says

pub large_refused : (given : List (List ℕ)) (input : List ℕ) (reply : Reply) → most_octets < length input → RefusesBy large_line reply → Replies given input reply
large_refused given input reply long says = refused_by given input large_line reply (large long) says

pub part_refused : (given : List (List ℕ)) (input : List ℕ) (bad : BadPart) (name : List ℕ) (reply : Reply) → length input ≤ most_octets → BlamesPart input bad → name ≡ shown_name bad → RefusesBy (bad_part_line name) reply → Replies given input reply
part_refused given input bad name reply short blames is says =
    refused_by given input (bad_part_line name) reply (subst (λ (n : List ℕ). RunPrints given input Refused (bad_part_line n)) (sym is) (bad_part bad short blames)) says

pub none_refused : (given : List (List ℕ)) (input : List ℕ) (reply : Reply) → length input ≤ most_octets → IsBundle input → words_of given input ≡ None → RefusesBy (bad_part_line (codes "words")) reply → Replies given input reply
none_refused given input reply short bundle none says = refused_by given input _ reply (no_words short bundle none) says

told : (given : List (List ℕ)) (input : List ℕ) (words : List (List ℕ)) (status : Status) → length input ≤ most_octets → IsBundle input → words_of given input ≡ Some words → TellsBy words status → Tells given input status
told given input words Done short bundle is says = (words, record { short = short; bundle = bundle; words = is; nothing = says.0 }, says.1)
told given input words Usage short bundle is says = (words, record { short = short; bundle = bundle; words = is; nothing = says.0 }, says.1)
told given input words Refused short bundle is says = says
told given input words (Failed why) short bundle is says = says

pub replied : (given : List (List ℕ)) (input : List ℕ) (words : List (List ℕ)) (parts : Parts) (reply : Reply) → length input ≤ most_octets → IsBundle input → HoldsParts parts (parts_of input) → words_of given input ≡ Some words → RepliesBy words parts reply → Replies given input reply
replied given input words parts (Print status output) short bundle holds is says = answered words says.0 parts short bundle is says.1 holds says.2
replied given input words parts (Tell status text) short bundle holds is says = told given input words status short bundle is says

-- the words of a call
pub words_given : (given : List (Bor (List ℕ))) (input : List ℕ) (b : Bool) → b ≡ (length given == 0) → b ≡ false → words_of (map (λ word. word.now) given) input ≡ Some (map (λ word. word.now) given)
words_given [] input b is some = absurd (let e : true ≡ false = sym is ∙ some in cc)
words_given (word ∷ words) input b is some = refl

pub words_read : (given : List (Bor (List ℕ))) (input : List ℕ) (b : Bool) (parts : Parts) (words : Option (List (List ℕ))) → b ≡ (length given == 0) → b ≡ true → HoldsParts parts (parts_of input) → words ≡ option_and_then words_in (option_map (λ text. text.now) parts.words) → words_of (map (λ word. word.now) given) input ≡ words
words_read [] input b parts words is none holds e = ap (option_and_then words_in) (sym holds.words) ∙ sym e
words_read (word ∷ more) input b parts words is none holds e = absurd (let h : length (word ∷ more) ≡ 0 = (Decides-eqb (length (word ∷ more)) 0).0 (sym is ∙ none) in omega arith)
