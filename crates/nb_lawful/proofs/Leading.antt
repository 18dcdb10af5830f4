-- Where a conclusion leads: the command has its result, and its script goes on; an image is handed off; or another script runs within it
-- or in its place.
use Rattle.std.proofs.Common.{◌≡◌, ℕ, ◌+◌, ◌-◌, ◌<◌, Bool, true, false, cond, length, drop, List, [], ◌∷◌, ◌++◌, Option, Some, None, refl, sym, ◌∙◌, ap, subst, append_assoc, arith, ne_eqb, IsSome, inl}
use Rattle.nb_terms.specs.declared.cause.Cause.{Cause}
use Rattle.nb_defs.specs.Causes.{ok}
use Rattle.nb_defs.specs.Records.{Out, result, enter, leave}
use Rattle.nb_defs.specs.ScriptLines.{script_reading}
use Rattle.nb_image.specs.Images.{ImageList}
use Rattle.nb_imagecmd.specs.declared.outcome.ScriptImage.{ScriptImage}
use Rattle.nb_scripts.specs.Records.{replace}
use Rattle.nb_machine.specs.Conclusions.{Conclusion, keeps, tells, fails, boots, runs_script, conclusion_records, handoff_records}
use Rattle.nb_machine.specs.FirstText.{text_refusal, lines_of}
use Rattle.nb_machine.specs.Running.{Running, with_result, script_within, script_in_place, counting_on}
use Rattle.nb_machine.specs.CommandRecords.{stopped_cause}
use Rattle.nb_machine.specs.States.{State, with_images}
use Rattle.nb_machine.specs.Courses as course
use Rattle.nb_machine.specs.Courses.{Standing, text_records, text_standing, ScriptLeads, ConclusionLeads}
use Rattle.nb_machine.specs.BootTables.{boot_table}
use Rattle.nb_laws.specs.Agreement.{AgreesScript}
use Rattle.nb_laws.specs.CommandsSoFar.{CommandsSoFar, so_far, shown_table, left_table, conclusion_so_far, images_after, list_after, script_run, GivesCause}
use Rattle.nb_laws.specs.Events.{Event, puts}
use Rattle.nb_laws.specs.Frames.{ScriptStands, enters, replaces, HoldsResult, HoldsOf}
use Rattle.nb_laws.specs.Lists.{last_end, made}
use Rattle.nb_laws.proofs.Asides.{silent_handoff}
use Rattle.nb_laws.proofs.Commands.{begun_more, script_as, script_told}
use Rattle.nb_laws.proofs.HandOffs.{parts_more}
use Rattle.nb_laws.proofs.SoFar.{so_far_more, over_so_far, result_so_far, hooks_so_far}
use Rattle.nb_laws.proofs.Tellings.{told}
use Rattle.nb_openlaws.proofs.Puts.{close_ends}
use Rattle.nb_openlaws.specs.Standings.{AgreesState}
use Rattle.nb_openlaws.proofs.OpenStates.{still_state}
use Rattle.nb_laws.specs.CommandOpens.{command_open}
use Rattle.nb_laws.specs.Hookings as Hookings
use Rattle.nb_laws.specs.Hookings.{KeepsDisk, HasDriveAnswer, HasRead, boots_hooking}
use Rattle.nb_lawful.specs.Results.{ResultStands, HasEndedOpens, CommandsSo}
use Rattle.nb_lawful.specs.ScriptAgreement.{SettingsAre, HasImages, NoneLeft, ScriptsAgree}
use Rattle.nb_lawful.proofs.Quiet.{quiet_so_far, quiet_parts, quiet_commands, ends_quiet, ends_alone}
use Rattle.nb_lawful.proofs.Begun.{depth_is}
use Rattle.nb_lawful.proofs.AtOnce.{Goes, goes_two, goes_as, images_as, left_goes}
use Rattle.nb_lawful.proofs.Fits.{Fits}
use Rattle.nb_lawful.proofs.DriveAnswers.{tells_all}
use Rattle.nb_openlaws.proofs.SessionSteps.{still_sessions}
use Rattle.nb_lawful.proofs.HookedLives.{drives_still}
use Rattle.nb_lawful.proofs.BootTable.{table_same}
use Rattle.nb_openlaws.specs.Sessions.{SessionsAgree}

-- what the history says of what is concluded: the same, or nothing where the command's open has failed
pub data ConcludedSo (said : Option Conclusion) (c : Conclusion) : Type 0 where
  concluded_so : said ≡ Some c → ConcludedSo said c
  failed_so : (cause : Cause) → c ≡ fails cause → said ≡ None → ConcludedSo said c

-- a command concludes, and has no result yet
pub record Concluding (es : List Event) (outs : List Out) (s : State) (inner : Running) (outer : List Running) (c : Conclusion) : Type 0 where
  pub base : AgreesState es s
  pub script : AgreesScript es inner outer
  pub settings : SettingsAre (so_far es) s true
  pub images : HasImages es outs s
  pub none_left : NoneLeft es
  pub concluded : ConcludedSo (conclusion_so_far (last_end es) es (so_far es)) c
  pub keeps_table : shown_table (so_far es).table (so_far es).shown ≡ (so_far es).table
  pub leaves_table : left_table es (so_far es).table (so_far es).shown ≡ shown_table (so_far es).table (so_far es).shown
  pub holds : (cause : Cause) → GivesCause c cause → HoldsResult es cause
  pub ended : HasEndedOpens (command_open es)
  pub fits : Fits (length (so_far es).scripts) c
  -- it hooks no disk: none that its words hook has answered
  pub unhooked : (cause : Cause) → GivesCause c cause → hooks_so_far cause es ≡ so_far es
  pub no_disk : (cause : Cause) → GivesCause c cause → (so_far es).left ≡ None → IsSome (command_open es) → KeepsDisk es → HasDriveAnswer es → ⊥
  -- nor has it read the block of one
  pub no_block : (k : ℕ) (bytes : List ℕ) → Hookings.BootsBy k es → HasRead k es bytes → ⊥
  -- what those that live have answered as drives, the history says
  pub settled : SessionsAgree es s.live

pub said_is : {said : Option Conclusion} (c : Conclusion) → ((cause : Cause) → c ≡ fails cause → ⊥) → ConcludedSo said c → said ≡ Some c
said_is {said} c never (concluded_so is) = is
said_is {said} c never (failed_so cause same is) = absurd (never cause same)

images_then : (said : Option Conclusion) (c : Conclusion) (list : ImageList) → ConcludedSo said c → images_after said list ≡ list_after c list
images_then said c list (concluded_so is) = ap (λ z. images_after z list) is
images_then said c list (failed_so cause same is) = ap (λ z. images_after z list) is ∙ sym (ap (λ z. list_after z list) same)

-- ITS RESULT

over_is : (es : List Event) (outs : List Out) (s : State) (inner : Running) (outer : List Running) (c : Conclusion) (cause : Cause) → GivesCause c cause → Concluding es outs s inner outer c →
    so_far (es ++ puts (result cause) ∷ []) ≡ over_so_far (conclusion_so_far (last_end es) es (so_far es)) (so_far es)
over_is es outs s inner outer c cause gives k = result_so_far es cause (conclusion_so_far (last_end es) es (so_far es)) k.none_left refl k.leaves_table ∙ ap (over_so_far (conclusion_so_far (last_end es) es (so_far es))) (k.unhooked cause gives)

result_holds : (es : List Event) (outs : List Out) (s : State) (inner : Running) (outer : List Running) (c : Conclusion) (cause : Cause) → Concluding es outs s inner outer c → GivesCause c cause → ResultStands es cause
result_holds es outs s inner outer c cause k gives = record {
  is_open = k.settings.is_open;
  holds = subst (λ l. HoldsOf l es cause) (sym k.none_left) (k.holds cause gives);
  hooks = λ left some disk answer. absurd (k.no_disk cause gives left some disk answer);
  reads = λ left j bytes boots_it read. absurd (k.no_block j bytes boots_it read);
  frees = λ left some d bytes read. absurd (k.no_block (made es - 1) bytes (boots_hooking d some refl) read);
}

-- the same but for the images
pub record IsWith (s s' : State) (list : ImageList) : Type 0 where
  pub table : s'.table ≡ s.table
  pub up : s'.up ≡ s.up
  pub now : s'.now ≡ s.now
  pub images : s'.images ≡ list
  pub drives : s'.drives ≡ s.drives
  pub lives : s'.live ≡ s.live
  pub opens : s'.opens ≡ s.opens

result_agrees : (es : List Event) (outs : List Out) (s s' : State) (inner : Running) (outer : List Running) (c : Conclusion) (cause : Cause) → GivesCause c cause → Concluding es outs s inner outer c → IsWith s s' (list_after c s.images) →
    ScriptsAgree (es ++ puts (result cause) ∷ []) (outs ++ result cause ∷ []) (course.running s' (with_result inner cause) outer)
result_agrees es outs s s' inner outer c cause gives k w =
    let is = over_is es outs s inner outer c cause gives k in
    let es1 = es ++ puts (result cause) ∷ [] in (
      script_as es1 inner (with_result inner cause) outer (record { same = refl; depth = refl; begun = refl }) (script_told es (result cause ∷ []) inner outer (tt, tt) refl k.script),
      subst (λ m. SettingsAre m s' false) (sym is) (record { table = k.keeps_table ∙ k.settings.table ∙ sym w.table; up = k.settings.up ∙ sym w.up; now = k.settings.now ∙ sym w.now; is_open = refl }),
      record {
        list = ap (λ (m : CommandsSoFar). m.images) is ∙ images_then (conclusion_so_far (last_end es) es (so_far es)) c (so_far es).images k.concluded ∙ ap (list_after c) k.images.list ∙ sym w.images;
        drives = drives_still (so_far es) (so_far es1) s s' (ap (λ (m : CommandsSoFar). m.hooked) is) w.drives w.lives w.opens k.images.drives;
        none = parts_more outs (result cause ∷ []) k.images.none (tt, tt);
      },
      ap (λ (m : CommandsSoFar). m.left) is ∙ k.none_left,
    )

pub result_goes : (es : List Event) (outs : List Out) (s s' : State) (inner : Running) (outer : List Running) (c : Conclusion) (cause : Cause) → Concluding es outs s inner outer c → GivesCause c cause → IsWith s s' (list_after c s.images) →
    Goes es outs (result cause ∷ []) (course.running s' (with_result inner cause) outer)
result_goes es outs s s' inner outer c cause k gives w = record { stands = (result_holds es outs s inner outer c cause k gives, tt); agrees = result_agrees es outs s s' inner outer c cause gives k w }

-- with another list
pub with_list : (s : State) (list : ImageList) → IsWith s (with_images s list) list
with_list s list = record { table = refl; up = refl; now = refl; images = refl; drives = refl; lives = refl; opens = refl }

-- what the history says of a command that boots this image, and of the settings before its result and after
pub record BootsBy (es : List Event) (s : State) (list : ImageList) (kernel : ℕ) : Type 0 where
  pub is_so : conclusion_so_far (last_end es) es (so_far es) ≡ Some (boots list kernel)
  pub settings : SettingsAre (so_far es) s true
  pub ended_so : SettingsAre (so_far (es ++ puts (result ok) ∷ [])) s false
  pub sessions : SessionsAgree es s.live

pub boots_by : (es : List Event) (outs : List Out) (s : State) (inner : Running) (outer : List Running) (list : ImageList) (kernel : ℕ) → Concluding es outs s inner outer (boots list kernel) → BootsBy es s list kernel
boots_by es outs s inner outer list kernel k = record {
  is_so = said_is (boots list kernel) (λ cause e. absurd (cc e)) k.concluded;
  settings = k.settings;
  sessions = k.settled;
  ended_so = subst (λ m. SettingsAre m s false) (sym (over_is es outs s inner outer (boots list kernel) ok refl k)) (record { table = k.keeps_table ∙ k.settings.table; up = k.settings.up; now = k.settings.now; is_open = refl });
}

-- A SCRIPT RUNS

-- a text runs, or is left at once
text_goes : (es : List Event) (outs : List Out) (s : State) (new : Running) (outer : List Running) (o : Out) (refused : Option Cause) → CommandsSo es (puts o) → ScriptsAgree (es ++ puts o ∷ []) (outs ++ o ∷ []) (course.running s new outer) →
    Goes es outs (text_records new.depth o refused) (text_standing s new outer refused)
text_goes es outs s new outer o None stands a = record { stands = (stands, tt); agrees = a }
text_goes es outs s new outer o (Some cause) stands a =
    goes_two es outs (o ∷ []) (leave new.depth cause ∷ []) (course.left s (counting_on new outer) cause) (stands, tt) (left_goes (es ++ puts o ∷ []) (outs ++ o ∷ []) s new outer cause a)

-- within the one that runs
entered_is : (es : List Event) (outs : List Out) (s : State) (inner : Running) (outer : List Running) (list : ImageList) (image : ScriptImage) → Concluding es outs s inner outer (runs_script list image false) →
    so_far (es ++ puts (enter (inner.depth + 1)) ∷ []) ≡ record (so_far es) { images = list; scripts = script_run (Some (runs_script list image false)) ++ (so_far es).scripts; is_open = false }
entered_is es outs s inner outer list image k =
    let first = k.script.scripts.depths.0.0 in
    so_far_more es (puts (enter (inner.depth + 1)))
    ∙ ap (λ b. cond b (so_far es) (record (so_far es) {
      images = images_after (conclusion_so_far (last_end es) es (so_far es)) (so_far es).images;
      scripts = script_run (conclusion_so_far (last_end es) es (so_far es)) ++ (so_far es).scripts;
      is_open = false;
    })) (ne_eqb (inner.depth + 1) 1 (λ one. omega (arith, one, first)))
    ∙ ap (λ z. record (so_far es) { images = images_after z (so_far es).images; scripts = script_run z ++ (so_far es).scripts; is_open = false }) (said_is (runs_script list image false) (λ cause e. absurd (cc e)) k.concluded)

enter_stands : (es : List Event) (outs : List Out) (s : State) (inner : Running) (outer : List Running) (list : ImageList) (image : ScriptImage) → Concluding es outs s inner outer (runs_script list image false) → ScriptStands es 0 (inner.depth + 1) ok
enter_stands es outs s inner outer list image k =
    subst (λ d. ScriptStands es 0 (d + 1) ok) (depth_is es inner outer k.script)
    (enters list image k.settings.is_open k.none_left (said_is (runs_script list image false) (λ cause e. absurd (cc e)) k.concluded) k.fits)

enter_agrees : (es : List Event) (outs : List Out) (s : State) (inner : Running) (outer : List Running) (list : ImageList) (image : ScriptImage) → Concluding es outs s inner outer (runs_script list image false) →
    ScriptsAgree (es ++ puts (enter (inner.depth + 1)) ∷ []) (outs ++ enter (inner.depth + 1) ∷ []) (course.running (with_images s list) (script_within inner image.uri (lines_of (script_reading image.text))) (inner ∷ outer))
enter_agrees es outs s inner outer list image k =
    let is = entered_is es outs s inner outer list image k in
    let first = k.script.scripts.depths.0.0 in
    let many = depth_is es inner outer k.script in
    let few : length (so_far es).scripts < 8 = k.fits in (
      record {
        scripts = record {
          same = ap (λ (m : CommandsSoFar). m.scripts) is ∙ ap (λ z. script_run (Some (runs_script list image false)) ++ z) k.script.scripts.same;
          depths = ((omega (arith, first), k.script.scripts.depths.0), omega (arith, first, many, few));
        };
        begun = begun_more es (puts (enter (inner.depth + 1))) ∙ k.script.begun;
      },
      subst (λ m. SettingsAre m (with_images s list) false) (sym is) (record { table = k.settings.table; up = k.settings.up; now = k.settings.now; is_open = refl }),
      record { list = ap (λ (m : CommandsSoFar). m.images) is; drives = drives_still (so_far es) (so_far (es ++ puts (enter (inner.depth + 1)) ∷ [])) s (with_images s list) (ap (λ (m : CommandsSoFar). m.hooked) is) refl refl refl k.images.drives; none = parts_more outs (enter (inner.depth + 1) ∷ []) k.images.none (tt, tt) },
      ap (λ (m : CommandsSoFar). m.left) is ∙ k.none_left,
    )

-- in its place
replace_agrees : (es : List Event) (outs : List Out) (s : State) (inner : Running) (outer : List Running) (list : ImageList) (image : ScriptImage) → (so_far es).concluded ≡ Some (runs_script list image true) → ScriptsAgree es outs (course.running s inner outer) →
    ScriptsAgree (es ++ puts (replace inner.depth) ∷ []) (outs ++ replace inner.depth ∷ []) (course.running s (script_in_place inner image.uri (lines_of (script_reading image.text))) outer)
replace_agrees es outs s inner outer list image concluded a =
    let is : so_far (es ++ puts (replace inner.depth) ∷ []) ≡ record (so_far es) { scripts = script_run (Some (runs_script list image true)) ++ drop 1 (so_far es).scripts; concluded = None } =
    so_far_more es (puts (replace inner.depth)) ∙ ap (λ z. record (so_far es) { scripts = script_run z ++ drop 1 (so_far es).scripts; concluded = None }) concluded in (
      record {
        scripts = record {
          same = ap (λ (m : CommandsSoFar). m.scripts) is ∙ ap (λ z. script_run (Some (runs_script list image true)) ++ drop 1 z) a.0.scripts.same;
          depths = ((a.0.scripts.depths.0.0, a.0.scripts.depths.0.1), a.0.scripts.depths.1);
        };
        begun = begun_more es (puts (replace inner.depth)) ∙ a.0.begun;
      },
      subst (λ m. SettingsAre m s false) (sym is) (record { table = a.1.table; up = a.1.up; now = a.1.now; is_open = a.1.is_open }),
      images_as es (es ++ puts (replace inner.depth) ∷ []) outs (replace inner.depth ∷ []) s s (ap (λ (m : CommandsSoFar). m.images) is) refl (drives_still (so_far es) (so_far (es ++ puts (replace inner.depth) ∷ [])) s s (ap (λ (m : CommandsSoFar). m.hooked) is) refl refl refl a.2.drives) (tt, tt) a.2,
      ap (λ (m : CommandsSoFar). m.left) is ∙ a.3,
    )

script_goes : (es : List Event) (outs : List Out) (s : State) (inner : Running) (outer : List Running) (list : ImageList) (image : ScriptImage) (replaces_it : Bool) (put : List Out) (p : Standing) → Concluding es outs s inner outer (runs_script list image replaces_it) →
    ScriptLeads (with_images s list) inner outer image replaces_it put p → Goes es outs (conclusion_records (runs_script list image replaces_it) ++ put) p
script_goes es outs s inner outer list image false put p k (puts_so, is) =
    let new = script_within inner image.uri (lines_of (script_reading image.text)) in
    goes_as es outs (text_records new.depth (enter (inner.depth + 1)) (text_refusal (script_reading image.text))) put p (sym puts_so)
    (subst (λ z. Goes es outs (text_records new.depth (enter (inner.depth + 1)) (text_refusal (script_reading image.text))) z) (sym is)
    (text_goes es outs (with_images s list) new (inner ∷ outer) (enter (inner.depth + 1)) (text_refusal (script_reading image.text)) (record { stands = enter_stands es outs s inner outer list image k; ended = λ enters_so. k.ended }) (enter_agrees es outs s inner outer list image k)))
script_goes es outs s inner outer list image true put p k (puts_so, is) =
    let o = result ok in
    let es1 = es ++ puts o ∷ [] in
    let c = runs_script list image true in
    let after_it = with_result inner ok in
    let new = script_in_place inner image.uri (lines_of (script_reading image.text)) in
    let refused = text_refusal (script_reading image.text) in
    let over = over_is es outs s inner outer c ok refl k in
    let a = result_agrees es outs s (with_images s list) inner outer c ok refl k (with_list s list) in
    let concluded : (so_far es1).concluded ≡ Some c = ap (λ (m : CommandsSoFar). m.concluded) over ∙ said_is c (λ cause e. absurd (cc e)) k.concluded in
    let stands : ScriptStands es1 2 inner.depth ok = subst (λ d. ScriptStands es1 2 d ok) (depth_is es1 after_it outer a.0) (replaces list image a.1.is_open concluded) in
    goes_two es outs (o ∷ []) put p (result_holds es outs s inner outer c ok k refl, tt)
    (goes_as es1 (outs ++ o ∷ []) (text_records new.depth (replace inner.depth) refused) put p (sym puts_so)
    (subst (λ z. Goes es1 (outs ++ o ∷ []) (text_records new.depth (replace inner.depth) refused) z) (sym is)
    (text_goes es1 (outs ++ o ∷ []) (with_images s list) new outer (replace inner.depth) refused (record { stands = stands; ended = λ no. absurd (omega arith) }) (replace_agrees es1 (outs ++ o ∷ []) (with_images s list) after_it outer list image concluded a))))

-- AN IMAGE IS HANDED OFF

boots_goes : (es : List Event) (outs : List Out) (s : State) (inner : Running) (outer : List Running) (list : ImageList) (kernel : ℕ) (more : List Out) (p : Standing) → Concluding es outs s inner outer (boots list kernel) →
    ConclusionLeads s inner outer (boots list kernel) more p → Goes es outs (result ok ∷ more) p
boots_goes es outs s inner outer list kernel more p k (over, all, leads) =
    let o = result ok in
    let es1 = es ++ puts o ∷ [] in
    let ends = close_ends s.devices stopped_cause s.live more [] over all in
    let quiet = ends_quiet stopped_cause more ends in
    let at : es ++ told (o ∷ more) ≡ es1 ++ told more = sym (append_assoc es (puts o ∷ []) (told more)) in
    subst (λ z. Goes es outs (o ∷ more) z) (sym leads) (record {
      stands = (result_holds es outs s inner outer (boots list kernel) ok k refl, quiet_commands es1 more quiet);
      agrees = (
        silent_handoff kernel list.images (boot_table s),
        ap (λ (z : List Event). (so_far z).is_open) at ∙ ap (λ (m : CommandsSoFar). m.is_open) (quiet_so_far es1 more quiet ∙ over_is es outs s inner outer (boots list kernel) ok refl k),
        inl (record {
          booted = record {
            before = es;
            since = more;
            ends = refl;
            behind = ends_alone stopped_cause more ends;
            list = list;
            kernel = kernel;
            boots = said_is (boots list kernel) (λ cause e. absurd (cc e)) k.concluded;
          };
          place = k.fits;
          list_is = sym (ap (λ (z : List Event). (so_far z).images) at ∙ ap (λ (m : CommandsSoFar). m.images) (quiet_so_far es1 more quiet)
              ∙ (result_agrees es outs s (with_images s list) inner outer (boots list kernel) ok refl k (with_list s list)).2.list);
          before = outs ++ o ∷ more;
          none = parts_more outs (o ∷ more) k.images.none (tt, quiet_parts more quiet);
          ends = ap (λ t. (outs ++ o ∷ more) ++ handoff_records kernel list.images t) (sym (table_same es1 s (still_state es (o ∷ []) s (tt, tt) k.base)
              (drives_still (so_far es) (so_far es1) s s (ap (λ (m : CommandsSoFar). m.hooked) (over_is es outs s inner outer (boots list kernel) ok refl k)) refl refl refl k.images.drives)
              (tells_all es1 s.live (still_sessions es (o ∷ []) s.live (tt, tt) ((λ j. refl), tt) k.settled))
              (boots_by es outs s inner outer list kernel k).ended_so.table));
        }),
      );
    })

-- WHERE IT LEADS

-- what a command prints stands before
pub conclusion_goes : (es : List Event) (outs : List Out) (s : State) (inner : Running) (outer : List Running) (c : Conclusion) (put : List Out) (p : Standing) → ((list : ImageList) (lines : List (List ℕ)) → c ≡ tells list lines → ⊥) →
    Concluding es outs s inner outer c → ConclusionLeads s inner outer c put p → Goes es outs (conclusion_records c ++ put) p
conclusion_goes es outs s inner outer (keeps list) put p tells_none k (none, is) =
    subst (λ z. Goes es outs (result ok ∷ z) p) (sym none) (subst (λ z. Goes es outs (result ok ∷ []) z) (sym is) (result_goes es outs s (with_images s list) inner outer (keeps list) ok k refl (with_list s list)))
conclusion_goes es outs s inner outer (tells list lines) put p tells_none k leads = absurd (tells_none list lines refl)
conclusion_goes es outs s inner outer (fails cause) put p tells_none k (none, is) =
    subst (λ z. Goes es outs (result cause ∷ z) p) (sym none)
    (subst (λ z. Goes es outs (result cause ∷ []) z) (sym is) (result_goes es outs s s inner outer (fails cause) cause k refl (record { table = refl; up = refl; now = refl; images = refl; drives = refl; lives = refl; opens = refl })))
conclusion_goes es outs s inner outer (boots list kernel) put p tells_none k leads = boots_goes es outs s inner outer list kernel put p k leads
conclusion_goes es outs s inner outer (runs_script list image replaces_it) put p tells_none k leads = script_goes es outs s inner outer list image replaces_it put p k leads
