-- What the formats of resolved methods call, the text calls.
use Rattle.std.proofs.Common.{◌≡◌, ◌∙◌, ap, ℕ, ◌+◌, List, ◌∷◌, refl, sym, subst, suc, zero, arith, true, length}
use Rattle.std.specs.Prelude.{slice_get, Some, None, Option}
use Rattle.text_tree.specs.declared.tree.Method.{Method as TreeMethod}
use Rattle.text_tree.specs.declared.tree.Section.{Section}
use Rattle.text_tree.specs.declared.tree.Part.{Part}
use Rattle.sem_profile.specs.declared.profile.Format.{Format}
use Rattle.sem_profile.specs.declared.profile.Method.{Method}
use Rattle.text_sections.specs.declared.mention.Mention.{Mention}
use Rattle.text_sections.specs.declared.mention.Group.TheVariants as groups
use Rattle.text_sections.specs.Mentions.{is_in}
use Rattle.sem_graph.specs.Calls.{Calls, Has}
use Rattle.text_methods.specs.declared.drafts.Setting.{Setting}
use Rattle.text_methods.specs.Formats.{IsFormat}
use Rattle.text_methods.specs.declared.methods.FileSetting.{FileSetting}
use Rattle.text_methods.specs.MethodFormats.{AreFormats, no_sections, gives, gives_none}
use Rattle.text_methods.specs.Methods.{IsMethod}
use Rattle.text_resolve.specs.Parts.{methods_of, method_names}
use Rattle.text_resolve.specs.Calls.{graph_of, callees_of}
use Rattle.text_resolve.specs.Methods.{AreMethods, no_methods, a_method, is_at, HaveForm}
use Rattle.sem_profile.specs.Uses.{Uses}
use Rattle.text_resolve.proofs.CallsStated.{calls_of_text}
use Rattle.text_resolve.proofs.CallsUsing.{calls_of_method}

-- a format is that of one of the sections
pub record Given (x : Setting) (k : ℕ) (sections : List Section) (f : Format) : Type 0 where
  pub place : ℕ
  pub section : Section
  pub at : slice_get sections place ≡ Some section
  pub is_format_section : is_in groups.Formats section.kind ≡ true
  pub is_format : IsFormat x (k + place) section f

later : (x : Setting) (k : ℕ) (section : Section) (sections : List Section) (f : Format) → Given x (k + 1) sections f → Given x k (section ∷ sections) f
later x k section sections f g =
    let e : (k + 1) + g.place ≡ k + suc g.place = omega arith in
    record { place = suc g.place; section = g.section; at = g.at; is_format_section = g.is_format_section; is_format = subst (λ n. IsFormat x n g.section f) e g.is_format }

pub format_given : (x : Setting) (k : ℕ) (sections : List Section) (formats : List Format) → AreFormats x k sections formats → (n : ℕ) (f : Format) → slice_get formats n ≡ Some f → Given x k sections f
format_given x k _ _ no_sections n f at = let wrong : None ≡ Some f = at in absurd cc
format_given x k _ _ (gives {section = section} {format = format} here is rest) zero f at =
    let same : format ≡ f = cc in
    let e : k ≡ k + 0 = omega arith in
    record { place = 0; section = section; at = refl; is_format_section = here; is_format = subst (λ n. IsFormat x n section f) e (subst (IsFormat x k section) same is) }
format_given x k _ _ (gives {section = section} {sections = sections} {formats = formats} here is rest) (suc n) f at = later x k section sections f (format_given x (k + 1) sections formats rest n f at)
format_given x k _ _ (gives_none {section = section} {sections = sections} {formats = formats} other rest) n f at = later x k section sections f (format_given x (k + 1) sections formats rest n f at)

-- a method is the normal form of one of the tree's
pub record Formed (file : FileSetting) (constants : List Mention) (top : Option ℕ) (k i : ℕ) (ms : List TreeMethod) (r : Method) : Type 0 where
  pub tree : TreeMethod
  pub at : slice_get ms i ≡ Some tree
  pub is_method : IsMethod file constants tree (is_at top (k + i)) r

pub method_formed : (file : FileSetting) (constants : List Mention) (top : Option ℕ) (k : ℕ) (ms : List TreeMethod) (rs : List Method) → AreMethods file constants top k ms rs
    → (i : ℕ) (r : Method) → slice_get rs i ≡ Some r → Formed file constants top k i ms r
method_formed file constants top k _ _ no_methods i r at = let wrong : None ≡ Some r = at in absurd cc
method_formed file constants top k _ _ (a_method {m = m} {r = first} is rest) zero r at =
    let same : first ≡ r = cc in
    let e : k ≡ k + 0 = omega arith in
    record { tree = m; at = refl; is_method = subst (λ n. IsMethod file constants m (is_at top n) r) e (subst (IsMethod file constants m (is_at top k)) same is) }
method_formed file constants top k _ _ (a_method {ms = ms} {rs = rs} is rest) (suc i) r at =
    let there = method_formed file constants top (k + 1) ms rs rest i r at in
    let e : (k + 1) + i ≡ k + suc i = omega arith in
    record { tree = there.tree; at = there.at; is_method = subst (λ n. IsMethod file constants there.tree (is_at top n) r) e there.is_method }

pub as_many : (file : FileSetting) (constants : List Mention) (top : Option ℕ) (k : ℕ) (ms : List TreeMethod) (rs : List Method) → AreMethods file constants top k ms rs → length rs ≡ length ms
as_many file constants top k _ _ no_methods = refl
as_many file constants top k _ _ (a_method {ms = ms} {rs = rs} is rest) = ap suc (as_many file constants top (k + 1) ms rs rest)

pub uses_of_text : (text : List ℕ) (parts : List Part) (top : Option ℕ) (methods : List Method) → HaveForm text parts top methods
    → (i j : ℕ) → Uses methods i j → Calls (graph_of text (method_names text parts) parts) i j
uses_of_text text parts top methods form i j uses =
    let formed = method_formed form.file _ top 0 (methods_of parts) methods form.are_methods i uses.method uses.at in
    let body = formed.is_method.body in
    let call = uses.calls in
    let given = format_given body.setting 0 formed.tree.sections uses.method.formats body.formats_are call.format_place call.format call.format_at in
    let x = body.setting in
    let number : 0 + given.place ≡ given.place = omega arith in
    let has = calls_of_text x formed.tree given.place given.section call.format call.field_place j call.field call.arguments
    (sym body.is_setting.sections_are) (subst (λ ss. slice_get ss given.place ≡ Some given.section) (sym body.is_setting.sections_are) given.at) given.is_format_section
    (subst (λ n. IsFormat x n given.section call.format) number given.is_format) call.field_at call.is_call in
    let texts = subst (λ t. Has (callees_of t x.methods.now.names.now formed.tree) j) (body.is_setting.text_is ∙ form.is_file.text_is) has in
    let names = subst (λ ns. Has (callees_of text ns formed.tree) j) (ap (λ m. m.names.now) body.is_setting.methods_are ∙ form.is_file.methods_are) texts in
    calls_of_method text (method_names text parts) parts i j formed.tree formed.at names
