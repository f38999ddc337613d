-- What clap's clauses say of the program's command line.
use Rattle.std.proofs.Common.{◌≡◌, ◌∙◌, ℕ, Bool, true, List, [], ◌∷◌, Option, None, Some, refl, sym, ap, subst, option_map, codes, Bor, ◌⊎◌, inl, inr}
use Rattle.std.specs.Prelude.{Box}
use Rattle.std.specs.Box.{box_value}
use Rattle.clap.specs.Words.{App, IsAmong, Kinds, Row, fault_of, first_of, found_of, is_simple, is_simple_and_free, rows_of, subcommand_of, subcommand_rows}
use Rattle.clap.specs.declared.error.kind.ErrorKind.{ErrorKind}
use Rattle.clap.specs.declared.error.kind.ErrorKind.TheVariants.{DisplayHelp, OutOfMemory}
use Rattle.clap.specs.declared.parser.matches.ArgMatches.{ArgMatches}
use Rattle.clap.specs.declared.parser.matches.ArgMatches.TheViews.{out-SubCommand}
use Rattle.clap.specs.declared.parser.matches.SubCommand.{SubCommand}
use Rattle.cert_types.specs.declared.certificate.Version.{Version}
use Rattle.tool_words.specs.declared.words.Command.{Command}
use Rattle.tool_words.specs.declared.words.Form.{Form}
use Rattle.tool_words.specs.declared.words.WordsError.{WordsError}
use Rattle.tool_words.specs.declared.words.WordsError.TheVariants as error
use Rattle.tool_words.specs.Words.{AskHelp, AskJustHelp, Asked, RefusesError, RefusesWords, asked_by, asked_in, asked_of, asked_unless, command_in, form_asked, is_set, program, text_or_empty, version_asked}

program_is_simple : is_simple program ≡ true
unfolding program
program_is_simple = refl

program_is_free : is_simple_and_free program ≡ true
unfolding program
program_is_free = refl

-- the subcommand that clap met, by its name and its rows
pub subcommand_read : {Z : Type 0} (raw : Option (Box SubCommand Z)) (met : Option (Bor (List ℕ) × Bor ArgMatches)) → option_map (λ p. p.0.now) met ≡ option_map (λ b. (out-SubCommand (box_value b)).name.now) raw → option_map (λ p. rows_of (found_of p.1.now)) met ≡ option_map (λ p. p.1) (subcommand_rows raw) → subcommand_rows raw ≡ option_map (λ p. (p.0.now, rows_of (found_of p.1.now))) met
subcommand_read None None name rows = refl
subcommand_read None (Some p) name rows = cc
subcommand_read (Some b) None name rows = cc
subcommand_read (Some b) (Some p) name rows =
    let n : p.0.now ≡ (out-SubCommand (box_value b)).name.now = cc in
    let r : rows_of (found_of p.1.now) ≡ rows_of (found_of (out-SubCommand (box_value b)).matches) = cc in
    ap Some (λ i. (sym n i, sym r i))

-- what a command's name and the values of its flags ask for
pub asked_whole : (met : Option (List ℕ × List Row)) (name : List ℕ) (rows : List Row) (command : Command) (top : List ℕ) (context : Bool) (version : Version) (wide strict : Bool) (form : Form) (avoided : List ℕ) → met ≡ Some (name, rows)
    → Some command ≡ command_in name rows → Some top ≡ first_of (codes "top") rows → context ≡ is_set (first_of (codes "context") rows) → version ≡ version_asked (is_set (first_of (codes "v2") rows))
    → wide ≡ is_set (first_of (codes "wide") rows) → strict ≡ is_set (first_of (codes "strict") rows) → form ≡ form_asked (is_set (first_of (codes "json") rows)) → avoided ≡ text_or_empty (first_of (codes "not") rows)
    → Some (record { command = command; top = top; shows_context = context; version = version; is_wide = wide; is_strict = strict; form = form; avoided = avoided }) ≡ asked_in met
asked_whole met name rows command top context version wide strict form avoided m c t x v w s o a =
    (λ i. Some (record { command = command; top = top; shows_context = x i; version = v i; is_wide = w i; is_strict = s i; form = o i; avoided = a i })) ∙ (λ i. asked_by (c i) (t i) rows) ∙ sym (ap asked_in m)

pub no_top : (m : Option (List ℕ × List Row)) (name : List ℕ) (rows : List Row) (command : Command) → m ≡ Some (name, rows) → Some command ≡ command_in name rows → None ≡ first_of (codes "top") rows → None ≡ asked_in m
no_top m name rows command met c t = (λ i. asked_by (c i) (t i) rows) ∙ sym (ap asked_in met)

pub asked_found : (app : App) (words : List (List ℕ)) (met : Option (List ℕ × List Row)) (x : Option Asked) → app ≡ program → (is_simple_and_free app ≡ true → fault_of app words ≡ []) → (is_simple app ≡ true → met ≡ subcommand_of app words) → x ≡ asked_in met → asked_of words ≡ x
unfolding asked_of
asked_found app words met x is none matches e =
    let faultless : fault_of program words ≡ [] = ap (λ a. fault_of a words) (sym is) ∙ none (ap is_simple_and_free is ∙ program_is_free) in
    let same : met ≡ subcommand_of program words = matches (ap is_simple is ∙ program_is_simple) ∙ ap (λ a. subcommand_of a words) is in
    ap (λ (kinds : Kinds). asked_unless kinds (subcommand_of program words)) faultless ∙ ap asked_in (sym same) ∙ sym e

faulty_asks_none : (words : List (List ℕ)) (kinds : Kinds) (kind : ErrorKind) → fault_of program words ≡ kinds → IsAmong kind kinds → asked_of words ≡ None
unfolding asked_of
faulty_asks_none words [] kind e among = absurd among
faulty_asks_none words (k ∷ ks) kind e among = ap (λ (kinds : Kinds). asked_unless kinds (subcommand_of program words)) e

help_asked : (words : List (List ℕ)) (kind : ErrorKind) → kind ≡ DisplayHelp → IsAmong kind (fault_of program words) → AskHelp words
unfolding AskHelp
help_asked words kind e h = subst (λ (k : ErrorKind). IsAmong k (fault_of program words)) e h

-- what is told of words that ask for help alone is help
only_help : (words : List (List ℕ)) (kind : ErrorKind) → AskJustHelp words → IsAmong kind (fault_of program words) → kind ≡ DisplayHelp
unfolding AskJustHelp
only_help words kind just h = of_one (subst (λ (kinds : Kinds). IsAmong kind kinds) just h)
  where
    of_one : IsAmong kind (DisplayHelp ∷ []) → kind ≡ DisplayHelp
    of_one (inl e) = e
    of_one (inr none) = absurd none

-- of words without a fault none is told
pub faultless_asks_no_help : (app : App) (words : List (List ℕ)) → app ≡ program → (is_simple_and_free app ≡ true → fault_of app words ≡ []) → ¬ (AskJustHelp words)
unfolding AskJustHelp
faultless_asks_no_help app words is none just =
    let faultless : fault_of program words ≡ [] = ap (λ a. fault_of a words) (sym is) ∙ none (ap is_simple_and_free is ∙ program_is_free) in
    absurd (let e : [] ≡ DisplayHelp ∷ [] = sym faultless ∙ just in cc)

refused_by : (words : List (List ℕ)) (kind : ErrorKind) (told : WordsError) → (kind ≡ OutOfMemory) ⊎ IsAmong kind (fault_of program words) → RefusesError kind told → RefusesWords words told
refused_by words kind (error.Help text) (inl e) says = absurd (let h : DisplayHelp ≡ OutOfMemory = sym says ∙ e in cc)
refused_by words kind (error.Help text) (inr h) says = (faulty_asks_none words _ kind refl h, help_asked words kind says h)
refused_by words kind (error.Usage text) (inl e) says = absurd (says.0 e)
refused_by words kind (error.Usage text) (inr h) says = (faulty_asks_none words _ kind refl h, λ just. says.1 (only_help words kind just h))
refused_by words kind error.OutOfMemory h says = tt

pub words_refused : (app : App) (words : List (List ℕ)) (kind : ErrorKind) (told : WordsError) → app ≡ program → (is_simple_and_free app ≡ true → (kind ≡ OutOfMemory) ⊎ IsAmong kind (fault_of app words)) → RefusesError kind told → RefusesWords words told
words_refused app words kind told is among says =
    let has : (kind ≡ OutOfMemory) ⊎ IsAmong kind (fault_of program words) = subst (λ (a : App). (kind ≡ OutOfMemory) ⊎ IsAmong kind (fault_of a words)) is (among (ap is_simple_and_free is ∙ program_is_free)) in
    refused_by words kind told has says
