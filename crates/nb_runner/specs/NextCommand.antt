-- What a script comes to next, as its call answers it.
use Rattle.std.specs.Prelude.{◌≡◌, ◌<◌, ◌≤◌, ℕ, List, ◌∷◌, length, sum_by, Option, Some, None, Ok, Err}
use Rattle.nb_terms.specs.declared.cause.Cause.{Cause}
use Rattle.nb_defs.specs.ScriptLines.{Line, label, list, empty}
use Rattle.nb_settings.specs.Tables.{TableLists}
use Rattle.nb_expand.specs.declared.error.ExpandError.{ExpandError}
use Rattle.nb_machine.specs.Effects.{expansion, expand_cause}
use Rattle.nb_machine.specs.Running.{Running, coming, leaving, beginning, PassesOn}
use Rattle.nb_runner.specs.Steps.{moves_in}
use Rattle.nb_runner.specs.declared.running.Next.{Next}
use Rattle.nb_runner.specs.declared.running.Next.TheVariants as next

-- the list that stands on a line, if one does
abbrev pub list_of : Line → Option (List ℕ)
list_of (label name) = None
list_of (list text) = Some text
list_of empty = None

-- a command of these words, expanded or not, may begin
pub record IsReady (s : Running) (ws : List (List ℕ)) : Type 0 where
  pub early : s.begun < 4096
  pub short : length s.code ≤ 1048576
  pub there : 0 < length s.rest
  pub few : length ws ≤ 64
  pub total : sum_by length ws ≤ 4096

-- a command begins, whose words are these once they are expanded
pub record HasCommand (s : Running) (table : TableLists) (ws : List (List ℕ)) : Type 0 where
  pub name : List ℕ
  pub args : List (List ℕ)
  pub comes : coming s ≡ beginning name args
  pub expands : expansion table (name ∷ args) ≡ Ok ws
  pub is_ready : IsReady s ws

-- a command begins with these words, and they aren't expanded, for this cause
pub record HasRefused (s : Running) (table : TableLists) (ws : List (List ℕ)) (cause : Cause) : Type 0 where
  pub name : List ℕ
  pub args : List (List ℕ)
  pub comes : coming s ≡ beginning name args
  pub are : ws ≡ name ∷ args
  pub why : ExpandError
  pub refuses : expansion table (name ∷ args) ≡ Err why
  pub cause_is : cause ≡ expand_cause why
  pub is_ready : IsReady s ws

-- a command is to begin, and 4,096 began in this step
pub record IsStepFull (s : Running) : Type 0 where
  pub name : List ℕ
  pub args : List (List ℕ)
  pub comes : coming s ≡ beginning name args
  pub full : s.begun ≡ 4096

-- lines or commands were passed
pub record HasPassed (s t : Running) : Type 0 where
  pub passes : PassesOn s t
  pub nearer : moves_in t < moves_in s

-- the script is left with this cause, after what it passes first
pub record IsScriptLeft (s : Running) (cause : Cause) : Type 0 where
  pub last : Running
  pub passes : PassesOn s last
  pub comes : coming last ≡ leaving cause
  pub same_depth : last.depth ≡ s.depth
  pub same_begun : last.begun ≡ s.begun

-- what the expansion of a command's words is
abbrev pub IsExpansion : Next → TableLists → List (List ℕ) → Type 0
IsExpansion (next.Begins ws) table written = (expansion table written ≡ Ok ws) × (length ws ≤ 64) × (sum_by length ws ≤ 4096)
IsExpansion (next.Refused ws cause) table written =
    (ws ≡ written) × (why : ExpandError) × (expansion table written ≡ Err why) × (cause ≡ expand_cause why)
IsExpansion next.Passed table written = ⊥
IsExpansion (next.Left cause) table written = ⊥
IsExpansion next.Full table written = ⊥

abbrev pub IsNext : Next → TableLists → Running → Running → Type 0
IsNext next.Passed table s t = HasPassed s t
IsNext (next.Left cause) table s t = (t ≡ s) × IsScriptLeft s cause
IsNext (next.Begins ws) table s t = (t ≡ s) × HasCommand s table ws
IsNext (next.Refused ws cause) table s t = (t ≡ s) × HasRefused s table ws cause
IsNext next.Full table s t = (t ≡ s) × IsStepFull s
