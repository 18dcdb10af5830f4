-- What records of opens leave as it was: the settings, the commands, the images; and the end of a command's open.
use Rattle.std.proofs.Common.{◌≡◌, ℕ, ◌+◌, ◌==◌, ◌&&◌, false, cond, List, [], ◌∷◌, ◌++◌, Option, Some, None, refl, sym, ◌∙◌, ap, append_assoc, append-nil, add-zero, fold, Bool, true}
use Rattle.std.specs.List.{flat_map, AllByRecursion}
use Rattle.std.proofs.lemmas.List.Sums.{fold-append}
use Rattle.nb_terms.specs.declared.cause.Cause.{Cause}
use Rattle.nb_defs.specs.Causes.{is_ok_cause}
use Rattle.nb_defs.specs.Parts.{IsNoPart, HaveNoParts}
use Rattle.nb_defs.specs.Records.{Out, step, sent, command, result, script, opened, tried, advanced, ended, part, done}
use Rattle.nb_machine.specs.CommandRecords.{reply_records}
use Rattle.nb_laws.specs.Events.{Event, puts, EachEvent, followed}
use Rattle.nb_laws.specs.Lists.{commands_by, came_ok, last_end, openings, made, opens_by}
use Rattle.nb_laws.specs.Moves.{moved_by_server, moves_by, moves}
use Rattle.nb_laws.specs.CommandsSoFar.{CommandsSoFar, so_far, so_far_by}
use Rattle.nb_laws.specs.Agreement.{IsStill}
use Rattle.nb_laws.specs.Silence.{IsSilent}
use Rattle.nb_laws.proofs.Tellings.{told, made_more}
use Rattle.nb_laws.proofs.HandOffs.{last_end_more}
use Rattle.nb_laws.proofs.Moved.{moves_more}
use Rattle.nb_laws.proofs.SoFar.{told_so_far, IsNoScript, HaveNoScripts}
use Rattle.nb_laws.specs.Endings.{MayStandBehind}
use Rattle.nb_openlaws.proofs.Puts.{IsQuiet, AreQuiet, IsClosing, AreClosing}
use Rattle.nb_laws.specs.CommandOpens.{command_open_by, command_open, CommandOpen, over_of}
use Rattle.nb_lawful.specs.Results.{CommandsSo}

pub reply_quiet : (bytes : List ℕ) → AreQuiet (reply_records bytes)
unfolding IsQuiet
reply_quiet [] = tt
reply_quiet (b ∷ bytes) = (tt, tt)

-- THE SETTINGS AND THE COMMAND

quiet_one : (before : List Event) (m : CommandsSoFar) (o : Out) → IsQuiet o → so_far_by before m (puts o) ≡ m
unfolding IsQuiet
quiet_one before m (sent bytes) h = refl
quiet_one before m (tried number count) h = refl
quiet_one before m (advanced number place) h = refl
quiet_one before m (ended number cause) h = refl
quiet_one before m _ h = absurd h

quiet_all : (before : List Event) (m : CommandsSoFar) (outs : List Out) → AreQuiet outs → followed so_far_by before m (told outs) ≡ m
unfolding followed
quiet_all before m [] h = refl
quiet_all before m (o ∷ outs) h =
    ap (λ z. followed so_far_by (before ++ puts o ∷ []) z (told outs)) (quiet_one before m o h.0) ∙ quiet_all (before ++ puts o ∷ []) m outs h.1

pub quiet_so_far : (es : List Event) (outs : List Out) → AreQuiet outs → so_far (es ++ told outs) ≡ so_far es
quiet_so_far es outs h = told_so_far es outs ∙ quiet_all es (so_far es) outs h

quiet_begins_none : (n : ℕ) (o : Out) → IsQuiet o → commands_by n (puts o) ≡ n
unfolding IsQuiet
quiet_begins_none n (sent bytes) h = refl
quiet_begins_none n (tried number count) h = refl
quiet_begins_none n (advanced number place) h = refl
quiet_begins_none n (ended number cause) h = refl
quiet_begins_none n _ h = absurd h

pub quiet_begin : (n : ℕ) (outs : List Out) → AreQuiet outs → fold commands_by n (told outs) ≡ n
quiet_begin n [] h = refl
quiet_begin n (o ∷ outs) h = ap (λ z. fold commands_by z (told outs)) (quiet_begins_none n o h.0) ∙ quiet_begin n outs h.1

-- THE SCRIPTS

quiet_script : (o : Out) → IsQuiet o → IsNoScript o
unfolding IsQuiet
quiet_script (script what depth cause) h = absurd h
quiet_script (step number) h = absurd h
quiet_script _ h = tt

pub quiet_scripts : (outs : List Out) → AreQuiet outs → HaveNoScripts outs
quiet_scripts [] h = tt
quiet_scripts (o ∷ outs) h = (quiet_script o h.0, quiet_scripts outs h.1)

quiet_part : (o : Out) → IsQuiet o → IsNoPart o
unfolding IsQuiet
quiet_part (part kind index offset bytes) h = absurd h
quiet_part _ h = tt

pub quiet_parts : (outs : List Out) → AreQuiet outs → HaveNoParts outs
quiet_parts [] h = tt
quiet_parts (o ∷ outs) h = (quiet_part o h.0, quiet_parts outs h.1)

-- how many opens were made
quiet_made_one : (o : Out) → IsQuiet o → opens_by (puts o) ≡ 0
unfolding IsQuiet
quiet_made_one (sent bytes) h = refl
quiet_made_one (tried number count) h = refl
quiet_made_one (advanced number place) h = refl
quiet_made_one (ended number cause) h = refl
quiet_made_one _ h = absurd h

pub quiet_made : (es : List Event) (outs : List Out) → AreQuiet outs → made (es ++ told outs) ≡ made es
quiet_made es [] h = ap made (append-nil es)
quiet_made es (o ∷ outs) h =
    ap made (sym (append_assoc es (puts o ∷ []) (told outs))) ∙ quiet_made (es ++ puts o ∷ []) outs h.1
    ∙ made_more es (puts o) ∙ ap (λ n. made es + n) (quiet_made_one o h.0) ∙ add-zero (made es)

-- THEIR PLACE

quiet_stands : (before : List Event) (o : Out) → IsQuiet o → CommandsSo before (puts o)
unfolding IsQuiet
quiet_stands before (sent bytes) h = tt
quiet_stands before (tried number count) h = tt
quiet_stands before (advanced number place) h = tt
quiet_stands before (ended number cause) h = tt
quiet_stands before _ h = absurd h

pub quiet_commands : (es : List Event) (outs : List Out) → AreQuiet outs → EachEvent CommandsSo es (told outs)
quiet_commands es [] h = tt
quiet_commands es (o ∷ outs) h = (quiet_stands es o h.0, quiet_commands (es ++ puts o ∷ []) outs h.1)

-- so have the records of a hand-off
pub silent_stands : (before : List Event) (o : Out) → IsStill o → IsSilent o → CommandsSo before (puts o)
silent_stands before (sent bytes) still h = absurd h
silent_stands before (command depth line place expanded words) still h = absurd h
silent_stands before (result cause) still h = absurd h
silent_stands before (script what depth cause) still h = absurd h
silent_stands before (opened number kind server port own target) still h = absurd h
silent_stands before (done status) still h = absurd h
silent_stands before (step number) still h = absurd still
silent_stands before _ still h = tt

-- THE COMMAND'S OPEN

pub command_open_more : (es : List Event) (e : Event) → command_open (es ++ e ∷ []) ≡ command_open_by (command_open es) e
unfolding command_open
command_open_more es e = fold-append command_open_by None es (e ∷ [])

pub told_command_open : (es : List Event) (outs : List Out) → command_open (es ++ told outs) ≡ fold command_open_by (command_open es) (told outs)
unfolding command_open
told_command_open es outs = fold-append command_open_by None es (told outs)

-- a command that has made none makes none by records of opens
quiet_none_one : (o : Out) → IsQuiet o → command_open_by None (puts o) ≡ None
unfolding IsQuiet
quiet_none_one (sent bytes) h = refl
quiet_none_one (tried number count) h = refl
quiet_none_one (advanced number place) h = refl
quiet_none_one (ended number cause) h = refl
quiet_none_one _ h = absurd h

quiet_none : (outs : List Out) → AreQuiet outs → fold command_open_by None (told outs) ≡ None
quiet_none [] h = refl
quiet_none (o ∷ outs) h = ap (λ z. fold command_open_by z (told outs)) (quiet_none_one o h.0) ∙ quiet_none outs h.1

pub quiet_makes_none : (es : List Event) (outs : List Out) → AreQuiet outs → command_open es ≡ None → command_open (es ++ told outs) ≡ None
quiet_makes_none es outs h none = told_command_open es outs ∙ ap (λ z. fold command_open_by z (told outs)) none ∙ quiet_none outs h

-- CLOSES

closing_quiet : (cause : Cause) (o : Out) → IsClosing cause o → IsQuiet o
unfolding IsQuiet
closing_quiet cause (sent bytes) h = tt
closing_quiet cause (ended k other) h = tt
closing_quiet cause (step number) h = absurd h
closing_quiet cause _ h = absurd h

pub ends_quiet : (cause : Cause) (outs : List Out) → AreClosing cause outs → AreQuiet outs
ends_quiet cause [] h = tt
ends_quiet cause (o ∷ outs) h = (closing_quiet cause o h.0, ends_quiet cause outs h.1)

closing_one : (cause : Cause) (o : Out) → IsClosing cause o → MayStandBehind o
closing_one cause (sent bytes) h = tt
closing_one cause (ended k other) h = tt
closing_one cause (step number) h = absurd h
closing_one cause _ h = absurd h

pub ends_alone : (cause : Cause) (outs : List Out) → AreClosing cause outs → AllByRecursion MayStandBehind outs
ends_alone cause [] h = tt
ends_alone cause (o ∷ outs) h = (closing_one cause o h.0, ends_alone cause outs h.1)

one_end_fails : (b : Bool) (k : ℕ) (cause other : Cause) (o : CommandOpen) → other ≡ cause → came_ok (Some cause) ≡ false → came_ok o.over ≡ false → came_ok (over_of (Some (cond b (record { number = k; over = Some other }) o))) ≡ false
one_end_fails true k cause other o same bad failed = ap (λ z. came_ok (Some z)) same ∙ bad
one_end_fails false k cause other o same bad failed = failed

closing_fails : (cause : Cause) (last : Option CommandOpen) (o : Out) → came_ok (Some cause) ≡ false → IsClosing cause o → came_ok (over_of last) ≡ false → came_ok (over_of (command_open_by last (puts o))) ≡ false
closing_fails cause last (sent bytes) bad h failed = failed
closing_fails cause None (ended k other) bad h failed = refl
closing_fails cause (Some o) (ended k other) bad h failed = one_end_fails (k == o.number) o.number cause other o h bad failed
closing_fails cause last (step number) bad h failed = absurd h
closing_fails cause last _ bad h failed = absurd h

-- ends that aren't Ok leave none that is
pub ends_fail : (cause : Cause) (es : List Event) (outs : List Out) → came_ok (Some cause) ≡ false → AreClosing cause outs → came_ok (last_end es) ≡ false → came_ok (last_end (es ++ told outs)) ≡ false
ends_fail cause es [] bad h failed = ap (λ z. came_ok (last_end z)) (append-nil es) ∙ failed
ends_fail cause es (o ∷ outs) bad h failed =
    ap (λ z. came_ok (last_end z)) (sym (append_assoc es (puts o ∷ []) (told outs)))
    ∙ ends_fail cause (es ++ puts o ∷ []) outs bad h.1 (ap came_ok (last_end_more es (puts o)) ∙ closing_fails cause (command_open es) o bad h.0 failed)

-- nor do they move a command's file
closing_move : (cause : Cause) (es : List Event) (o : Out) → came_ok (Some cause) ≡ false → IsClosing cause o → moves_by es (moves es) (puts o) ≡ moves es
closing_move cause es (sent bytes) bad h = refl
closing_move cause es (ended k other) bad h = ap (λ b. cond (b && (k + 1 == made es)) (moves es ++ flat_map (moved_by_server k es) (openings k es)) (moves es)) (ap is_ok_cause h ∙ bad)
closing_move cause es (step number) bad h = absurd h
closing_move cause es _ bad h = absurd h

pub closing_moves : (cause : Cause) (es : List Event) (outs : List Out) → came_ok (Some cause) ≡ false → AreClosing cause outs → moves (es ++ told outs) ≡ moves es
closing_moves cause es [] bad h = ap moves (append-nil es)
closing_moves cause es (o ∷ outs) bad h =
    ap moves (sym (append_assoc es (puts o ∷ []) (told outs))) ∙ closing_moves cause (es ++ puts o ∷ []) outs bad h.1 ∙ moves_more es (puts o) ∙ closing_move cause es o bad h.0
