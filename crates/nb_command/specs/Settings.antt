-- own, after ipxe.org's settings: the setting that a command names, and a value put into it
use Rattle.std.specs.Prelude.{ℕ, List, [], Option, Some, None, unwrap_or, if◌then◌else◌}
use Rattle.std.specs.Prelude.{Result, Ok, Err}
use Rattle.nb_settings.specs.declared.error.SetError.{SetError}
use Rattle.nb_settings.specs.declared.kind.Kind.{Kind}
use Rattle.nb_settings.specs.declared.setting.OwnedKey.{OwnedKey}
use Rattle.nb_settings.specs.Names.{SettingName}
use Rattle.nb_settings.specs.Tables.{TableLists, has_block, setting_of, with_value, put_refusal}
use Rattle.nb_expand.specs.Reading.{parsed}
use Rattle.nb_command.specs.declared.error.ApplyError.{ApplyError}
use Rattle.nb_command.specs.declared.error.ApplyError.TheVariants.{BadName, BadValue}
use Rattle.nb_command.specs.Failures.{set_failure}

-- the table that a change leaves, or why it is refused
abbrev pub Change : Type 0
Change = Result TableLists ApplyError

-- the block that a name means: the root, whose name is empty, where it names none
abbrev pub named_block : SettingName → List ℕ
named_block name = unwrap_or name.block []

-- a change of the named block; one that isn't there is BadName
abbrev pub in_named_block : SettingName → TableLists → Change → Change
in_named_block name table change =
    if has_block (named_block name) table.blocks then change else Err BadName

-- the same for what a word names; a word that is no name is BadName
abbrev pub change_named : (SettingName → Change) → TableLists → Option SettingName → Change
change_named change table None = Err BadName
change_named change table (Some name) = in_named_block name table (change name)

abbrev pub put_answer : Option SetError → TableLists → Change
put_answer None table = Ok table
put_answer (Some why) table = Err (set_failure why)

-- the table with a value of a kind, where there is one
abbrev pub put_value : List ℕ → OwnedKey → Kind → Option (List ℕ) → TableLists → Change
put_value block key kind None table = Err BadValue
put_value block key kind (Some bytes) table =
    put_answer (put_refusal block key bytes table)
    (with_value (setting_of block key kind bytes) table)

-- the table with the value that a text is of a kind, in the block that is named, or the root
abbrev pub put_text : SettingName → Kind → List ℕ → TableLists → Change
put_text name kind text table = put_value (named_block name) name.key kind (parsed kind text) table
