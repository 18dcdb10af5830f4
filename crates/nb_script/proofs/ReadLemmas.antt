-- When each refusal of a text comes, by what the text is.
use Rattle.std.proofs.Common.{◌≡◌, List}
use Rattle.std.specs.Prelude.{Result, Ok, Err, ◌↔◌}
use Rattle.std.specs.Result.{IsErrOf}
use Rattle.nb_defs.specs.ScriptLines.{Line, Reading, script, no_script, script_too_long, line_too_long}
use Rattle.nb_script.specs.declared.error.ScriptError.{ScriptError}
use Rattle.nb_script.specs.declared.error.ScriptError.TheVariants.{NotScript, ScriptTooLong, LineTooLong, NoMemory}

-- each refusal comes exactly where it is to come
pub record IsRefused {T : Type 0} (r : Result T ScriptError) (found : Reading) : Type 0 where
  pub not_script : IsErrOf r NotScript ↔ found ≡ no_script
  pub script_too_long : IsErrOf r ScriptTooLong ↔ found ≡ script_too_long
  pub line_too_long : IsErrOf r LineTooLong ↔ (found ≡ line_too_long) × ¬ IsErrOf r NoMemory

pub refused_none : {T : Type 0} (r : Result T ScriptError) (found : Reading) → r ≡ Err NotScript → found ≡ no_script → IsRefused r found
refused_none r found e f = record {
  not_script = (λ h. f, λ h. e);
  script_too_long = (λ h. cc, λ h. cc);
  line_too_long = (λ h. cc, λ h. let g = h.0 in cc);
}

pub refused_long : {T : Type 0} (r : Result T ScriptError) (found : Reading) → r ≡ Err ScriptTooLong → found ≡ script_too_long → IsRefused r found
refused_long r found e f = record {
  not_script = (λ h. cc, λ h. cc);
  script_too_long = (λ h. f, λ h. e);
  line_too_long = (λ h. cc, λ h. let g = h.0 in cc);
}

pub refused_line : {T : Type 0} (r : Result T ScriptError) (found : Reading) → r ≡ Err LineTooLong → found ≡ line_too_long → IsRefused r found
refused_line r found e f = record {
  not_script = (λ h. cc, λ h. cc);
  script_too_long = (λ h. cc, λ h. cc);
  line_too_long = (λ h. (f, λ g. cc), λ h. e);
}

pub refused_memory : {T : Type 0} (r : Result T ScriptError) (found : Reading) → r ≡ Err NoMemory → (found ≡ no_script → ⊥) × (found ≡ script_too_long → ⊥) → IsRefused r found
refused_memory r found e f = record {
  not_script = (λ h. cc, λ h. absurd (f.0 h));
  script_too_long = (λ h. cc, λ h. absurd (f.1 h));
  line_too_long = (λ h. cc, λ h. absurd (h.1 e));
}

pub refused_not : {T : Type 0} (r : Result T ScriptError) (found : Reading) (x : T) (code : List Line) → r ≡ Ok x → found ≡ script code → IsRefused r found
refused_not r found x code e f = record {
  not_script = (λ h. cc, λ h. cc);
  script_too_long = (λ h. cc, λ h. cc);
  line_too_long = (λ h. cc, λ h. let g = h.0 in cc);
}
