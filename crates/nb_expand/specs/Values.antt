-- Own, after ipxe.org's settings: the text that the name of a setting stands for
use Rattle.std.specs.Prelude.{ℕ, List, [], Option, Some, None, option_map, unwrap_or}
use Rattle.nb_settings.specs.declared.kind.Kind.{Kind}
use Rattle.nb_settings.specs.Names.{SettingName, name_read}
use Rattle.nb_settings.specs.Tables.{TableLists, SettingValue, look}
use Rattle.nb_expand.specs.Printing.{printed}

-- a value as text, by the kind that is given, or else by its own; of nothing, nothing
abbrev pub value_text : Option Kind → Option SettingValue → List ℕ
value_text kind None = []
value_text kind (Some value) = printed (unwrap_or kind value.kind) value.bytes

-- what a name stands for
abbrev pub text_of_name : TableLists → SettingName → List ℕ
text_of_name table name = value_text name.kind (look name.block name.key table)

-- what the bytes of a name stand for; None where they are no name
unfoldable pub named_text : TableLists → List ℕ → Option (List ℕ)
named_text table bytes = option_map (text_of_name table) (name_read bytes)
