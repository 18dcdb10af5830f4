-- own: which setting a command may change
use Rattle.std.specs.Prelude.{ℕ, Bool, true, false, ◌&&◌, List, Option, Some, None}
use Rattle.std.specs.Str.{bytes_eq}
use Rattle.nb_settings.specs.declared.setting.OwnedKey.{OwnedKey}
use Rattle.nb_settings.specs.Keys.{same_key}
use Rattle.nb_settings.specs.Names.{SettingName, name_read}
use Rattle.nb_command.specs.declared.command_plan.CommandPlan.{CommandPlan}
use Rattle.nb_command.specs.declared.command_plan.CommandPlan.TheVariants as plan
use Rattle.nb_command.specs.Settings.{named_block}

-- it is the setting that a name means
abbrev pub is_meant : Option SettingName → List ℕ → OwnedKey → Bool
is_meant None block key = false
is_meant (Some name) block key = bytes_eq (named_block name) block && same_key name.key key

-- a command may change the setting of this block with this key
abbrev pub may_change : CommandPlan → List ℕ → OwnedKey → Bool
may_change (plan.Set name value) block key = is_meant (name_read name) block key
may_change (plan.Clear name) block key = is_meant (name_read name) block key
may_change (plan.Inc name by) block key = is_meant (name_read name) block key
may_change (plan.Echo newline text) block key = false
may_change (plan.Goto label) block key = false
may_change (plan.Exit n) block key = false
may_change (plan.Isset word) block key = false
may_change (plan.Iseq a b) block key = false
may_change (plan.Show name) block key = false
may_change (plan.Images command) block key = false
may_change (plan.Drives command) block key = false
may_change (plan.Ifopen device) block key = false
may_change (plan.Ifclose device) block key = false
may_change (plan.Dhcp device) block key = false
may_change (plan.Ping host) block key = false
may_change (plan.Nslookup name host) block key = false
may_change (plan.Sleep seconds) block key = false

-- it is a command on images
abbrev pub is_on_images : CommandPlan → Bool
is_on_images (plan.Images command) = true
is_on_images (plan.Drives command) = false
is_on_images (plan.Echo newline text) = false
is_on_images (plan.Goto label) = false
is_on_images (plan.Exit n) = false
is_on_images (plan.Isset word) = false
is_on_images (plan.Iseq a b) = false
is_on_images (plan.Set name value) = false
is_on_images (plan.Clear name) = false
is_on_images (plan.Show name) = false
is_on_images (plan.Inc name by) = false
is_on_images (plan.Ifopen device) = false
is_on_images (plan.Ifclose device) = false
is_on_images (plan.Dhcp device) = false
is_on_images (plan.Ping host) = false
is_on_images (plan.Nslookup name host) = false
is_on_images (plan.Sleep seconds) = false
