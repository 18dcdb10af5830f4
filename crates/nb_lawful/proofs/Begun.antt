-- A command begins: what the history says of it then, and why its record and its result stand, where it is over at once.
use Rattle.std.proofs.Common.{◌≡◌, ℕ, ◌<◌, arith, length, Bool, true, false, List, [], ◌∷◌, ◌++◌, Option, Some, None, refl, sym, ◌∙◌, ap, subst, append_assoc, add-zero, map, IsSome}
use Rattle.std.proofs.lemmas.List.{map-append}
use Rattle.std.proofs.lemmas.Option.{none-some}
use Rattle.nb_laws.specs.Lists.{last_end, came_ok}
use Rattle.nb_machine.specs.Conclusions.{Conclusion}
use Rattle.nb_terms.specs.declared.cause.Cause.{Cause}
use Rattle.nb_defs.specs.Causes.{ok}
use Rattle.nb_defs.specs.Commands.{CommandOutcome, refused}
use Rattle.nb_defs.specs.Records.{Out, text, result}
use Rattle.nb_defs.specs.ScriptLines.{label_place}
use Rattle.nb_machine.specs.Effects.{Effect, says, goes, shuts_device, effect_in, settled_effect, shown_words, expansion, table_after, up_after}
use Rattle.nb_machine.specs.Scripts.{surroundings}
use Rattle.nb_machine.specs.Courses as course
use Rattle.nb_machine.specs.Running.{Running, no_label}
use Rattle.nb_machine.specs.CommandRecords.{prints, command_record, command_records}
use Rattle.nb_machine.specs.States.{State}
use Rattle.nb_laws.specs.Events.{Event, puts, EachEvent}
use Rattle.nb_laws.specs.Lists.{made, commands_begun}
use Rattle.nb_laws.specs.CommandsSoFar.{CommandsSoFar, so_far, running_code, running_base, script_code, shown_effect, shown_table, shown_up, surroundings_in, comes_by, comes_after, ComesTo, concluded_in, hooking_in, booted_in, booted_drive}
use Rattle.nb_laws.specs.Drives.{asked_by}
use Rattle.nb_laws.proofs.DriveTalks.{command_asks_none}
use Rattle.nb_laws.specs.Moves.{moves}
use Rattle.nb_laws.specs.Agreement.{as_so_far, AgreesScript}
use Rattle.nb_laws.proofs.Histories.{each_append}
use Rattle.nb_laws.proofs.Tellings.{told, made_more}
use Rattle.nb_laws.proofs.HandOffs.{last_end_more}
use Rattle.nb_laws.proofs.Moved.{moves_more}
use Rattle.nb_laws.proofs.SoFar.{so_far_more, told_scripts, over_so_far, begun_so_far, begins_so_far, shown_effect_is, shown_table_is, shown_up_is, shown_refused, found_so_far}
use Rattle.nb_openlaws.proofs.Puts.{AreClosing}
use Rattle.nb_openlaws.proofs.Doings.{comes_to}
use Rattle.nb_laws.specs.CommandOpens.{command_open, CommandOpen}
use Rattle.nb_laws.specs.Frames.{HoldsResult, by_words, by_jump, by_no_label, by_shut, HoldsOf}
use Rattle.nb_laws.proofs.Settling.{hooks_same}
use Rattle.nb_lawful.specs.Results.{ResultStands, CommandsSo}
use Rattle.nb_lawful.specs.ScriptAgreement.{SettingsAre, HasImages, ScriptsAgree}
use Rattle.nb_lawful.proofs.Quiet.{command_open_more, quiet_makes_none, quiet_so_far, quiet_scripts, quiet_commands, quiet_made, ends_quiet, ends_fail, closing_moves}
use Rattle.nb_lawful.proofs.HookedLives.{LivesSo}
use Rattle.nb_lawful.proofs.NoBlocks.{words_boot_none, no_block_first}

pub told_two : (es : List Event) (a b : List Out) → es ++ told (a ++ b) ≡ (es ++ told a) ++ told b
told_two es a b = ap (λ z. es ++ z) (map-append puts a b) ∙ sym (append_assoc es (told a) (told b))

pub stand_then : (es : List Event) (a b : List Out) → EachEvent CommandsSo es (told a) → EachEvent CommandsSo (es ++ told a) (told b) → EachEvent CommandsSo es (told (a ++ b))
stand_then es a b p q = subst (λ z. EachEvent CommandsSo es z) (sym (map-append puts a b)) (each_append CommandsSo es (told a) (told b) p q)

-- WHAT IT COMES TO

-- what the history says of all that a command of this script finds, but for how many opens were made
pub record FindsAll (m : CommandsSoFar) (s : State) (inner : Running) : Type 0 where
  pub table : m.table ≡ s.table
  pub images : m.images ≡ s.images
  pub base : running_base m.scripts ≡ inner.base
  pub depth : length m.scripts ≡ inner.depth
  pub drives : m.drives ≡ s.drives

many_scripts : (scripts : List Running) → length (map as_so_far scripts) ≡ length scripts
many_scripts [] = refl
many_scripts (s ∷ scripts) = omega (arith, many_scripts scripts)

pub depth_is : (es : List Event) (inner : Running) (outer : List Running) → AgreesScript es inner outer → length (so_far es).scripts ≡ inner.depth
depth_is es inner outer a =
    let here = ap length a.scripts.same in
    let depth = a.scripts.depths.0.0 in
    let many = many_scripts outer in
    omega (arith, here, depth, many)

pub finds_all : (es : List Event) (outs : List Out) (s : State) (inner : Running) (outer : List Running) (still : Bool) → LivesSo es s → AgreesScript es inner outer → SettingsAre (so_far es) s still → HasImages es outs s → FindsAll (found_so_far es) s inner
finds_all es outs s inner outer still lives script settings images =
    record { table = settings.table; images = images.list; base = ap running_base script.scripts.same; depth = depth_is es inner outer script; drives = lives }

pub running_finds : (es : List Event) (outs : List Out) (s : State) (inner : Running) (outer : List Running) → LivesSo es s → ScriptsAgree es outs (course.running s inner outer) → FindsAll (found_so_far es) s inner
running_finds es outs s inner outer lives a = finds_all es outs s inner outer false lives a.0 a.1 a.2

pub surroundings_are : (opens : ℕ) (m : CommandsSoFar) (s : State) (inner : Running) → FindsAll m s inner →
    surroundings_in opens m ≡ record { opens = opens; table = s.table; images = s.images; drives = s.drives; base = inner.base; depth = inner.depth }
surroundings_are opens m s inner f =
    ap (λ t. record { opens = opens; table = t; images = m.images; drives = m.drives; base = running_base m.scripts; depth = length m.scripts }) f.table
    ∙ ap (λ l. record { opens = opens; table = s.table; images = l; drives = m.drives; base = running_base m.scripts; depth = length m.scripts }) f.images
    ∙ ap (λ d. record { opens = opens; table = s.table; images = s.images; drives = d; base = running_base m.scripts; depth = length m.scripts }) f.drives
    ∙ ap (λ b. record { opens = opens; table = s.table; images = s.images; drives = s.drives; base = b; depth = length m.scripts }) f.base
    ∙ ap (λ d. record { opens = opens; table = s.table; images = s.images; drives = s.drives; base = inner.base; depth = d }) f.depth

pub comes_is : (m : CommandsSoFar) (s : State) (inner : Running) (ws : List (List ℕ)) → FindsAll m s inner → comes_by s.opens m (shown_words s.table ws) ≡ comes_to s inner ws
unfolding effect_in
comes_is m s inner ws f =
    ap (λ x. settled_effect x (shown_effect s.opens m.table (shown_words s.table ws))) (surroundings_are s.opens m s inner f)
    ∙ ap (λ t. settled_effect (surroundings s inner) (shown_effect s.opens t (shown_words s.table ws))) f.table
    ∙ ap (settled_effect (surroundings s inner)) (shown_effect_is s.opens s.table ws)

-- it concludes nothing at once, where its effect doesn't
pub concludes_none : (es : List Event) (outs : List Out) (s : State) (inner : Running) (outer : List Running) (ws : List (List ℕ)) (e : Effect) → made es ≡ s.opens → LivesSo es s → ScriptsAgree es outs (course.running s inner outer) → comes_to s inner ws ≡ e →
    concluded_in e ≡ None → concluded_in (comes_by (made es) (found_so_far es) (shown_words s.table ws)) ≡ None
concludes_none es outs s inner outer ws e opens lives a is none =
    ap (λ k. concluded_in (comes_by k (found_so_far es) (shown_words s.table ws))) opens ∙ ap concluded_in (comes_is (found_so_far es) s inner ws (running_finds es outs s inner outer lives a) ∙ is) ∙ none

-- nor hooks it a disk
pub hooks_nothing : (es : List Event) (outs : List Out) (s : State) (inner : Running) (outer : List Running) (ws : List (List ℕ)) (e : Effect) → LivesSo es s → ScriptsAgree es outs (course.running s inner outer) → comes_to s inner ws ≡ e →
    hooking_in e ≡ None → hooking_in (comes_by 0 (found_so_far es) (shown_words s.table ws)) ≡ None
hooks_nothing es outs s inner outer ws e lives a is none =
    hooks_same 0 s.opens (found_so_far es) (shown_words s.table ws) ∙ ap hooking_in (comes_is (found_so_far es) s inner ws (running_finds es outs s inner outer lives a) ∙ is) ∙ none

-- what a command that has begun comes to
pub begun_comes : (es : List Event) (m : CommandsSoFar) (s : State) (inner : Running) (ws : List (List ℕ)) (e : Effect) → FindsAll m s inner → so_far es ≡ begun_so_far m (shown_words s.table ws) → moves es ≡ [] → comes_to s inner ws ≡ e → ComesTo es s.opens e
begun_comes es m s inner ws e finds is unmoved comes = (
  shown_words s.table ws,
  ap (λ (x : CommandsSoFar). x.shown) is,
  ap (comes_after s.opens (so_far es) (shown_words s.table ws)) unmoved ∙ ap (λ (x : CommandsSoFar). comes_by s.opens x (shown_words s.table ws)) is ∙ comes_is m s inner ws finds ∙ comes,
)

-- the same, by its record
pub command_comes : (es : List Event) (outs : List Out) (s : State) (inner : Running) (outer : List Running) (ws : List (List ℕ)) (e : Effect) → LivesSo es s → ScriptsAgree es outs (course.running s inner outer) → comes_to s inner ws ≡ e →
    ComesTo (es ++ puts (command_record inner (shown_words s.table ws)) ∷ []) s.opens e
command_comes es outs s inner outer ws e lives a comes =
    let command = puts (command_record inner (shown_words s.table ws)) in
    begun_comes (es ++ command ∷ []) (found_so_far es) s inner ws e (running_finds es outs s inner outer lives a) (begins_so_far es inner (shown_words s.table ws)) (moves_more es command) comes

-- why it begins
pub begins_so : (es : List Event) (s : State) (inner : Running) (ws : List (List ℕ)) → SettingsAre (so_far es) s false → commands_begun es < 4096 → CommandsSo es (puts (command_record inner (shown_words s.table ws)))
begins_so es s inner ws settings few = record {
  few = few;
  over = settings.is_open;
  refused_so = λ off. let r = shown_refused s.table ws off in (r.0, ap (λ t. expansion t (shown_words s.table ws).words) settings.table ∙ r.1);
}

-- ITS RESULT

-- a command that has begun and has made no open
pub record HasBegun (es : List Event) (s : State) (inner : Running) (ws : List (List ℕ)) : Type 0 where
  pub opens : made es ≡ s.opens
  pub before : CommandsSoFar
  pub finds : FindsAll before s inner
  pub none_left : before.left ≡ None
  pub so_far_is : so_far es ≡ begun_so_far before (shown_words s.table ws)
  pub code : script_code es ≡ inner.code
  pub none : command_open es ≡ None
  pub unmoved : moves es ≡ []
  pub ended_none : came_ok (last_end es) ≡ false

pub begun_silently : (es : List Event) (outs : List Out) (s : State) (inner : Running) (outer : List Running) (ws : List (List ℕ)) → made es ≡ s.opens → LivesSo es s → ScriptsAgree es outs (course.running s inner outer) →
    HasBegun (es ++ puts (command_record inner (shown_words s.table ws)) ∷ []) s inner ws
begun_silently es outs s inner outer ws opens lives a =
    let e = puts (command_record inner (shown_words s.table ws)) in
    record {
      opens = made_more es e ∙ add-zero (made es) ∙ opens;
      before = found_so_far es;
      finds = running_finds es outs s inner outer lives a;
      none_left = a.3;
      so_far_is = begins_so_far es inner (shown_words s.table ws);
      code = ap running_code (ap (λ (m : CommandsSoFar). m.scripts) (so_far_more es e) ∙ a.0.scripts.same);
      none = command_open_more es e;
      unmoved = moves_more es e;
      ended_none = ap came_ok (last_end_more es e);
    }

pub begun_printing : (es : List Event) (s : State) (inner : Running) (ws : List (List ℕ)) (bytes : List ℕ) → HasBegun es s inner ws → HasBegun (es ++ puts (text bytes) ∷ []) s inner ws
begun_printing es s inner ws bytes b = record {
  opens = made_more es (puts (text bytes)) ∙ add-zero (made es) ∙ b.opens;
  before = b.before;
  finds = b.finds;
  none_left = b.none_left;
  so_far_is = so_far_more es (puts (text bytes)) ∙ b.so_far_is;
  code = ap (λ (m : CommandsSoFar). running_code m.scripts) (so_far_more es (puts (text bytes))) ∙ b.code;
  none = command_open_more es (puts (text bytes)) ∙ b.none;
  unmoved = moves_more es (puts (text bytes)) ∙ b.unmoved;
  ended_none = ap came_ok (last_end_more es (puts (text bytes))) ∙ b.ended_none;
}

-- all that lives is closed
pub begun_closing : (es : List Event) (s : State) (inner : Running) (ws : List (List ℕ)) (cause : Cause) (put : List Out) → came_ok (Some cause) ≡ false → AreClosing cause put → HasBegun es s inner ws → HasBegun (es ++ told put) s inner ws
begun_closing es s inner ws cause put bad all b =
    let quiet = ends_quiet cause put all in
    record {
      opens = quiet_made es put quiet ∙ b.opens;
      before = b.before;
      finds = b.finds;
      none_left = b.none_left;
      so_far_is = quiet_so_far es put quiet ∙ b.so_far_is;
      code = ap running_code (told_scripts es put (quiet_scripts put quiet)) ∙ b.code;
      none = quiet_makes_none es put quiet b.none;
      unmoved = closing_moves cause es put bad all ∙ b.unmoved;
      ended_none = ends_fail cause es put bad all b.ended_none;
    }

-- what it comes to
pub has_begun_comes : (es : List Event) (s : State) (inner : Running) (ws : List (List ℕ)) (e : Effect) → HasBegun es s inner ws → comes_to s inner ws ≡ e → ComesTo es (made es) e
has_begun_comes es s inner ws e b comes = subst (λ k. ComesTo es k e) (sym b.opens) (begun_comes es b.before s inner ws e b.finds b.so_far_is b.unmoved comes)

-- one that has made no open
pub opened_none : (x : Option CommandOpen) → x ≡ None → IsSome x → ⊥
opened_none None e some = absurd (let clash : false ≡ true = some in cc clash)
opened_none (Some o) e some = none-some o (sym e)

-- its record asks no drive for anything
pub asks_nothing : (es : List Event) (s : State) (inner : Running) (ws : List (List ℕ)) (e : Effect) → HasBegun (es ++ puts (command_record inner (shown_words s.table ws)) ∷ []) s inner ws → comes_to s inner ws ≡ e → booted_in e ≡ None → (k : ℕ) →
    asked_by k es (command_record inner (shown_words s.table ws)) ≡ []
asks_nothing es s inner ws e b comes none k =
    let es1 = es ++ puts (command_record inner (shown_words s.table ws)) ∷ [] in
    command_asks_none k es inner.depth inner.passed inner.place (shown_words s.table ws).expanded (shown_words s.table ws).words
    (sym (ap booted_drive (so_far_more es (puts (command_record inner (shown_words s.table ws))))) ∙ words_boot_none es1 (made es1) e none (has_begun_comes es1 s inner ws e b comes))

-- its result stands
result_stands : (es : List Event) (s : State) (inner : Running) (ws : List (List ℕ)) (cause : Cause) (e : Effect) → HasBegun es s inner ws → comes_to s inner ws ≡ e → booted_in e ≡ None →
    (command_open es ≡ None → ComesTo es (made es) e → HoldsResult es cause) → ResultStands es cause
result_stands es s inner ws cause e b comes unbooted holds = record {
  is_open = ap (λ (x : CommandsSoFar). x.is_open) b.so_far_is;
  holds = subst (λ l. HoldsOf l es cause) (sym (ap (λ (x : CommandsSoFar). x.left) b.so_far_is ∙ b.none_left)) (holds b.none (has_begun_comes es s inner ws e b comes));
  hooks = λ left some. absurd (opened_none (command_open es) b.none some);
  reads = λ left k bytes boots read. absurd (no_block_first es b.none (words_boot_none es (made es) e unbooted (has_begun_comes es s inner ws e b comes)) k bytes boots read);
  frees = λ left some. absurd (opened_none (command_open es) b.none some);
}

-- a command that is over at once
pub command_stands : (es : List Event) (outs : List Out) (s : State) (inner : Running) (outer : List Running) (ws : List (List ℕ)) (o : CommandOutcome) → made es ≡ s.opens → LivesSo es s → ScriptsAgree es outs (course.running s inner outer) → comes_to s inner ws ≡ says o →
    commands_begun es < 4096 → EachEvent CommandsSo es (told (command_records inner (shown_words s.table ws) o))
command_stands es outs s inner outer ws o opens lives a comes few = by o.prints
  where
    by : (p : Option (List ℕ)) → EachEvent CommandsSo es (told ((command_record inner (shown_words s.table ws) ∷ []) ++ prints p ++ (result o.cause ∷ [])))
    by None = (begins_so es s inner ws a.1 few, (result_stands _ s inner ws o.cause (says o) (begun_silently es outs s inner outer ws opens lives a) comes refl (λ none c. by_words o none c refl), tt))
    by (Some bytes) = (
      begins_so es s inner ws a.1 few,
      (tt, (result_stands _ s inner ws o.cause (says o) (begun_printing _ s inner ws bytes (begun_silently es outs s inner outer ws opens lives a)) comes refl (λ none c. by_words o none c refl), tt)),
    )

-- `goto`
pub jump_stands : (es : List Event) (outs : List Out) (s : State) (inner : Running) (outer : List Running) (ws : List (List ℕ)) (name : List ℕ) (line : ℕ) → made es ≡ s.opens → LivesSo es s → ScriptsAgree es outs (course.running s inner outer) → comes_to s inner ws ≡ goes name →
    label_place name inner.code ≡ Some line → commands_begun es < 4096 → EachEvent CommandsSo es (told (command_records inner (shown_words s.table ws) (refused ok)))
jump_stands es outs s inner outer ws name line opens lives a is there few =
    let b = begun_silently es outs s inner outer ws opens lives a in
    (begins_so es s inner ws a.1 few, (result_stands _ s inner ws ok (goes name) b is refl (λ none c. by_jump name line none c (ap (label_place name) b.code ∙ there) refl), tt))

pub no_label_stands : (es : List Event) (outs : List Out) (s : State) (inner : Running) (outer : List Running) (ws : List (List ℕ)) (name : List ℕ) → made es ≡ s.opens → LivesSo es s → ScriptsAgree es outs (course.running s inner outer) → comes_to s inner ws ≡ goes name →
    label_place name inner.code ≡ None → commands_begun es < 4096 → EachEvent CommandsSo es (told (command_records inner (shown_words s.table ws) (refused no_label)))
no_label_stands es outs s inner outer ws name opens lives a is nowhere few =
    let b = begun_silently es outs s inner outer ws opens lives a in
    (begins_so es s inner ws a.1 few, (result_stands _ s inner ws no_label (goes name) b is refl (λ none c. by_no_label name none c (ap (label_place name) b.code ∙ nowhere) refl), tt))

-- `ifclose`, with the ends of all that lives
pub shut_stands : (es : List Event) (outs : List Out) (s : State) (inner : Running) (outer : List Running) (ws : List (List ℕ)) (cause : Cause) (put : List Out) → came_ok (Some cause) ≡ false → AreClosing cause put → made es ≡ s.opens → LivesSo es s → ScriptsAgree es outs (course.running s inner outer) → comes_to s inner ws ≡ shuts_device →
    commands_begun es < 4096 → EachEvent CommandsSo es (told (command_record inner (shown_words s.table ws) ∷ put ++ (result ok ∷ [])))
shut_stands es outs s inner outer ws cause put bad all opens lives a is few =
    let es1 = es ++ puts (command_record inner (shown_words s.table ws)) ∷ [] in
    let b = begun_closing es1 s inner ws cause put bad all (begun_silently es outs s inner outer ws opens lives a) in
    (begins_so es s inner ws a.1 few, stand_then es1 put (result ok ∷ []) (quiet_commands es1 put (ends_quiet cause put all)) (result_stands _ s inner ws ok shuts_device b is refl (λ none c. by_shut none c refl), tt))

-- THE SETTINGS THEN

-- a command that is over
pub settings_done : (es : List Event) {m' : CommandsSoFar} {c : Option Conclusion} (s s' : State) (ws : List (List ℕ)) → m' ≡ over_so_far c (begun_so_far (found_so_far es) (shown_words s.table ws)) → SettingsAre (so_far es) s false →
    table_after s.table ws ≡ s'.table → up_after s.table s.up ws ≡ s'.up → s'.now ≡ s.now → SettingsAre m' s' false
settings_done es {m'} {c} s s' ws e settings leaves up now =
    subst (λ x. SettingsAre x s' false) (sym e) (record {
      table = ap (λ t. shown_table t (Some (shown_words s.table ws))) settings.table ∙ shown_table_is s.table ws ∙ leaves;
      up = ap (λ u. shown_up u (shown_words s.table ws)) settings.up ∙ shown_up_is s.table s.up ws ∙ up;
      now = settings.now ∙ sym now;
      is_open = refl;
    })

-- one that has begun
pub settings_begun : (es : List Event) {m' : CommandsSoFar} (s s' : State) (ws : List (List ℕ)) → m' ≡ begun_so_far (found_so_far es) (shown_words s.table ws) → s'.table ≡ s.table → up_after s.table s.up ws ≡ s'.up → s'.now ≡ s.now → SettingsAre (so_far es) s false → SettingsAre m' s' true
settings_begun es {m'} s s' ws e table up now settings =
    subst (λ x. SettingsAre x s' true) (sym e) (record {
      table = settings.table ∙ sym table;
      up = ap (λ u. shown_up u (shown_words s.table ws)) settings.up ∙ shown_up_is s.table s.up ws ∙ up;
      now = settings.now ∙ sym now;
      is_open = refl;
    })
