-- What a run in a lab keeps to: its one script has the commands `imgfetch`, `imgfree` and `exit` alone, so no image or disk is booted and no
-- further script runs.
use Rattle.std.specs.Prelude.{◌≡◌, ◌⊎◌, ℕ, List, [], ◌∷◌, IfSome, codes}
use Rattle.nb_defs.specs.ScriptLines.{Item, Line, label, list, empty, items}
use Rattle.nb_imagecmd.specs.declared.asking.After.TheVariants as after
use Rattle.nb_imagecmd.specs.declared.asking.Asking.{Asking}
use Rattle.nb_machine.specs.Courses.{Standing, ready, running, waiting, reaching, yielded, handing, left, handed_off, stopped}
use Rattle.nb_machine.specs.Errands.{Errand, fetches_then, echoes_then, hooks_then, Onward, fetches_now, echoes_now, hooks_now, looks_up_now}
use Rattle.nb_machine.specs.Running.{Running}
use Rattle.nb_machine.specs.Scripts.{Job, fetch, takes_lease, hears_echo, keeps_address, hooks, boots, asks_on, sleep}

abbrev pub IsLabName : List ℕ → Type 0
IsLabName name = (name ≡ codes "imgfetch") ⊎ ((name ≡ codes "imgfree") ⊎ (name ≡ codes "exit"))

abbrev pub IsLabCommand : List (List ℕ) → Type 0
IsLabCommand [] = Unit {0}
IsLabCommand (name ∷ args) = IsLabName name

abbrev pub AreLabCommands : List Item → Type 0
AreLabCommands [] = Unit {0}
AreLabCommands (i ∷ others) = IsLabCommand i.words × AreLabCommands others

abbrev pub IsLabLine : Line → Type 0
IsLabLine (label name) = Unit {0}
IsLabLine (list text) = IfSome (items text) AreLabCommands
IsLabLine empty = Unit {0}

abbrev pub AreLabLines : List Line → Type 0
AreLabLines [] = Unit {0}
AreLabLines (line ∷ others) = IsLabLine line × AreLabLines others

pub record IsLabScript (r : Running) : Type 0 where
  pub code : AreLabLines r.code
  pub rest : AreLabCommands r.rest

-- a file that is asked for becomes an image, and nothing more
abbrev pub IsKept : Asking → Type 0
IsKept asking = asking.after ≡ after.Keep

abbrev pub IsErrandKept : Errand → Type 0
IsErrandKept (fetches_then asking) = IsKept asking
IsErrandKept echoes_then = Unit {0}
IsErrandKept (hooks_then hooking) = ⊥

abbrev pub IsNextKept : Onward → Type 0
IsNextKept (fetches_now wanted) = IsKept wanted.asking
IsNextKept (echoes_now server) = Unit {0}
IsNextKept (hooks_now hooking server) = ⊥
IsNextKept (looks_up_now errand name by) = IsErrandKept errand

abbrev pub IsJobKept : Job → Type 0
IsJobKept (fetch wanted) = IsKept wanted.asking
IsJobKept takes_lease = Unit {0}
IsJobKept hears_echo = Unit {0}
IsJobKept (keeps_address setting) = Unit {0}
IsJobKept (asks_on errand) = IsErrandKept errand
IsJobKept (hooks hooking) = ⊥
IsJobKept (boots d) = ⊥
IsJobKept sleep = Unit {0}

-- where the run stands: no other script runs, nothing is handed off, and the power wasn't switched off
abbrev pub StandsInLab : Standing → Type 0
StandsInLab ready = Unit {0}
StandsInLab (running s inner outer) = IsLabScript inner × (outer ≡ [])
StandsInLab (waiting s w) = IsLabScript w.script × (w.outer ≡ []) × IsJobKept w.job
StandsInLab (reaching s inner outer next) = IsLabScript inner × (outer ≡ []) × IsNextKept next
StandsInLab (yielded s inner outer) = IsLabScript inner × (outer ≡ [])
StandsInLab (handing s rest) = ⊥
StandsInLab (left s outer cause) = outer ≡ []
StandsInLab (handed_off s) = ⊥
StandsInLab (stopped s) = ⊥
