-- own: how much a command prints, so that it fits a record
use Rattle.std.specs.Prelude.{ℕ, ◌+◌, List, length, sum_by}
use Rattle.nb_command.specs.declared.command_plan.CommandPlan.{CommandPlan}
use Rattle.nb_command.specs.declared.command_plan.CommandPlan.TheVariants as plan
use Rattle.nb_imagecmd.specs.Promises.{args_len}
use Rattle.nb_command.specs.declared.outcome.Outcome.{Outcome}
use Rattle.nb_command.specs.declared.outcome.Outcome.TheVariants.{Done, Text, Goto, Leave, Wait, Down, Images, Drives}

-- The most bytes that a command prints as one text. Of `echo` the words, a byte after each, and a line feed; of
-- `show` a name of 201 bytes, ` = `, the text of a value, 3,108 bytes, and a line feed.
abbrev pub most_printed : CommandPlan → ℕ
most_printed (plan.Echo newline text) = sum_by length text + length text + 1
most_printed (plan.Show name) = 3313
most_printed (plan.Goto label) = 0
most_printed (plan.Exit n) = 0
most_printed (plan.Isset word) = 0
most_printed (plan.Iseq a b) = 0
most_printed (plan.Set name value) = 0
most_printed (plan.Clear name) = 0
most_printed (plan.Inc name by) = 0
most_printed (plan.Images command) = 0
most_printed (plan.Drives command) = 0
most_printed (plan.Ifopen device) = 0
most_printed (plan.Ifclose device) = 0
most_printed (plan.Dhcp device) = 0
most_printed (plan.Ping host) = 0
most_printed (plan.Nslookup name host) = 0
most_printed (plan.Sleep seconds) = 0

-- the same, or of the arguments that it gives an image
abbrev pub most_text : CommandPlan → ℕ
most_text (plan.Echo newline text) = most_printed (plan.Echo newline text)
most_text (plan.Show name) = most_printed (plan.Show name)
most_text (plan.Goto label) = 0
most_text (plan.Exit n) = 0
most_text (plan.Isset word) = 0
most_text (plan.Iseq a b) = 0
most_text (plan.Set name value) = 0
most_text (plan.Clear name) = 0
most_text (plan.Inc name by) = 0
most_text (plan.Images command) = args_len command
most_text (plan.Drives command) = 0
most_text (plan.Ifopen device) = 0
most_text (plan.Ifclose device) = 0
most_text (plan.Dhcp device) = 0
most_text (plan.Ping host) = 0
most_text (plan.Nslookup name host) = 0
most_text (plan.Sleep seconds) = 0

-- a fact on the text that is printed, where a command prints
abbrev pub IfText : Outcome → (List ℕ → Type 0) → Type 0
IfText (Text text) P = P text
IfText Done P = Unit {0}
IfText (Goto label) P = Unit {0}
IfText (Leave n) P = Unit {0}
IfText (Wait job) P = Unit {0}
IfText Down P = Unit {0}
IfText (Images outcome) P = Unit {0}
IfText (Drives outcome) P = Unit {0}
