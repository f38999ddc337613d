-- A method from its parts: where no part has a fault it is whole, and a fault is that of a part.
use Rattle.std.proofs.Common.{◌≡◌, ◌∙◌, ◌⊎◌, inl, inr, Bool, List, map, sym, subst, Some}
use Rattle.std.specs.Prelude.{Option}
use Rattle.text_tree.specs.declared.tree.Method.{Method as TreeMethod}
use Rattle.sem_profile.specs.declared.fault.ProfileFault.{ProfileFault}
use Rattle.sem_profile.specs.declared.profile.Method.{Method}
use Rattle.sem_profile.specs.declared.profile.Format.{Format}
use Rattle.sem_profile.specs.Precedence.{earlier, Judged}
use Rattle.sem_profile.specs.Words.{word}
use Rattle.sem_profile.proofs.PrecedenceLemmas.{neither, which}
use Rattle.text_sections.specs.declared.mention.Mention.{Mention}
use Rattle.text_sections.specs.Names.{NameCause}
use Rattle.text_sections.specs.Causes.{Answers}
use Rattle.text_statements.specs.declared.method.Givens.{Givens}
use Rattle.text_statements.specs.Givens.{AreGiven, IsNotGiven}
use Rattle.text_methods.specs.declared.drafts.Setting.{Setting}
use Rattle.text_methods.specs.declared.methods.FileSetting.{FileSetting}
use Rattle.text_methods.specs.Defaults.{default_fault}
use Rattle.text_methods.specs.MethodFormats.{AreFormats, FormatCause}
use Rattle.text_methods.specs.Methods.{bare_scope, IsSetting, HasGivens, IsBody, IsMethod, AreListed, HasFormats, BodyCause, MethodCause, in_names, in_body, in_initial, in_format, in_default}

-- the formats and the statements of DEFAULT
pub both_listed : (x : Setting) (formats : List Format) (a b fault : Option ProfileFault) → Judged (AreFormats x 0 x.sections.now formats) (FormatCause x) a → b ≡ default_fault x → fault ≡ earlier a b
    → AreListed x formats fault
both_listed x formats a b fault listed defaults is = record {
  listed = λ e. listed.fine (neither a b (sym is ∙ e)).0;
  defaults = λ e. sym defaults ∙ (neither a b (sym is ∙ e)).1;
  causes = λ f e. elim (which a b f (sym is ∙ e)) as (λ _. FormatCause x f ⊎ (default_fault x ≡ Some f)) [
    | inl it ↦ inl (listed.cause f it)
    | inr it ↦ inr (sym defaults ∙ it)
  ];
}

-- those of a method's setting
pub with_formats : (file : FileSetting) (m : TreeMethod) (x : Setting) (givens : Givens) (formats : List Format) (fault : Option ProfileFault)
    → IsSetting file m x → HasGivens givens x → AreListed x formats fault → HasFormats file m givens formats fault
with_formats file m x givens formats fault is_setting has_givens both = record {
  setting = x;
  is_setting = is_setting;
  has_givens = has_givens;
  listed = λ e. subst (λ sections. AreFormats x 0 sections formats) is_setting.sections_are (both.listed e);
  defaults = both.defaults;
  causes = λ f e. elim (both.causes f e) as (λ _. BodyCause file m f) [
    | inl it ↦ in_format is_setting it
    | inr it ↦ in_default is_setting it
  ];
}

-- what is given, and the formats
pub with_givens : (file : FileSetting) (m : TreeMethod) (is_top : Bool) (givens : Givens) (formats : List Format) (a b fault : Option ProfileFault)
    → Judged (AreGiven (bare_scope file m) m.sections is_top givens) (IsNotGiven (bare_scope file m) m.sections) a
    → HasFormats file m givens formats b → fault ≡ earlier a b
    → Judged (IsBody file m is_top formats) (BodyCause file m) fault
with_givens file m is_top givens formats a b fault given has is = record {
  fine = λ e.
      let both = neither a b (sym is ∙ e) in
      record {
        setting = has.setting;
        is_setting = has.is_setting;
        givens = givens;
        given = given.fine both.0;
        has_givens = has.has_givens;
        formats_are = has.listed both.1;
        defaults = has.defaults both.1;
      };
  cause = λ f e. elim (which a b f (sym is ∙ e)) as (λ _. BodyCause file m f) [
    | inl it ↦ in_initial (given.cause f it)
    | inr it ↦ has.causes f it
  ];
}

-- the names, and what the sections give
pub with_body : (file : FileSetting) (constants : List Mention) (m : TreeMethod) (is_top : Bool) (r : Method) (a b fault : Option ProfileFault)
    → Answers (NameCause file.text.now constants m) a → Judged (IsBody file m is_top r.formats) (BodyCause file m) b → fault ≡ earlier a b
    → r.name ≡ word file.text.now m.name → r.place ≡ m.name → r.parameters ≡ map (word file.text.now) m.parameters
    → Judged (IsMethod file constants m is_top r) (MethodCause file constants m) fault
with_body file constants m is_top r a b fault names body is name place parameters = record {
  fine = λ e.
      let both = neither a b (sym is ∙ e) in
      record { name_is = name; place_is = place; parameters_are = parameters; named = names.fine both.0; body = body.fine both.1 };
  cause = λ f e. elim (which a b f (sym is ∙ e)) as (λ _. MethodCause file constants m f) [
    | inl it ↦ in_names (names.cause f it)
    | inr it ↦ in_body (body.cause f it)
  ];
}
