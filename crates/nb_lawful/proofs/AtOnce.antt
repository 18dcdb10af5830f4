-- What a script does without an open: it passes lines, its commands are over at once, or it waits for a time.
use Rattle.std.proofs.Common.{◌≡◌, ℕ, ◌+◌, ◌*◌, ◌<◌, cond, length, drop, true, false, List, [], ◌∷◌, ◌++◌, Some, None, add-zero, ne_eqb, refl, sym, ◌∙◌, ap, subst, append_assoc, append-nil, arith}
use Rattle.std.proofs.lemmas.Option.{none-some}
use Rattle.nb_terms.specs.declared.cause.Cause.{Cause}
use Rattle.nb_defs.specs.Causes.{ok}
use Rattle.nb_defs.specs.Commands.{CommandOutcome, refused}
use Rattle.nb_defs.specs.Records.{Out, result, leave}
use Rattle.nb_defs.specs.ScriptLines.{label_place}
use Rattle.nb_machine.specs.Effects.{Effect, says, asks, goes, sleeps, shuts_device, inquires, on_images, on_drives, hooks_disk, unhooks_drive, boots_drive, concludes_at_once, Surroundings, settled_effect, effect, effect_in, shown_words, table_after, up_after}
use Rattle.nb_machine.specs.Running.{Running, coming, passing, entered, further, behind_line, no_label, with_result, counting_on}
use Rattle.nb_machine.specs.CommandRecords.{command_record, command_records}
use Rattle.nb_machine.proofs.Words.{sleeps_some}
use Rattle.nb_machine.proofs.Eithers.{images_either, drives_either}
use Rattle.nb_defs.specs.Parts.{HaveNoParts}
use Rattle.nb_machine.specs.Lives.{close}
use Rattle.nb_machine.specs.States.{State, with_live}
use Rattle.nb_machine.specs.Takings.{Over, AllTake}
use Rattle.nb_machine.specs.Scripts.{moment, sleep, ends, goes_to, waits_until, shuts, surroundings, doing}
use Rattle.nb_machine.specs.Courses as course
use Rattle.nb_machine.specs.Courses.{Standing, down_cause}
use Rattle.nb_laws.specs.Events.{Event, puts, EachEvent}
use Rattle.nb_laws.specs.Lists.{made, commands_begun, came_ok, last_end}
use Rattle.nb_laws.specs.CommandsSoFar.{CommandsSoFar, so_far, conclusion_so_far, concluded_in, left_so_far, hooking_in, comes_by}
use Rattle.nb_laws.specs.Agreement.{as_so_far, AreScripts, AgreesScript}
use Rattle.nb_laws.specs.Frames.{ScriptStands, leaves, HoldsOf}
use Rattle.nb_laws.proofs.Tellings.{told, made_more}
use Rattle.nb_laws.proofs.Commands.{begun_more, command_begins, may_begin, script_passes, script_begins, script_told, command_no_script, first_as, scripts_as}
use Rattle.nb_laws.proofs.HandOffs.{parts_more, no_command, last_end_more}
use Rattle.nb_laws.proofs.SoFar.{so_far_more, over_so_far, begun_so_far, begins_so_far, begun_concludes, command_so_far, left_quiet, result_so_far, handed_so_far, found_so_far, hooks_none, hooks_unshown}
use Rattle.nb_openlaws.proofs.Puts.{close_ends}
use Rattle.nb_openlaws.proofs.Doings.{comes_to, left_by, ends_by, shuts_by, goes_by, waits_by, table_stays, up_stays}
use Rattle.nb_lawful.specs.Results.{CommandsSo}
use Rattle.nb_lawful.specs.ScriptAgreement.{SleepsUntil, awaits_time, HasImages, ScriptsAgree, HasDrives}
use Rattle.nb_lawful.proofs.Quiet.{quiet_so_far, quiet_begin, quiet_parts, quiet_scripts, quiet_made, command_open_more, ends_quiet, ends_fail}
use Rattle.nb_lawful.proofs.Begun.{told_two, stand_then, running_finds, depth_is, comes_is, concludes_none, begins_so, command_stands, jump_stands, no_label_stands, shut_stands, settings_done, settings_begun, hooks_nothing}
use Rattle.nb_lawful.proofs.HookedLives.{LivesSo, drives_still, drives_keep, none_keeps}

-- records that are written next have their places, and the history agrees with where the scripts stand then
pub record Goes (es : List Event) (outs added : List Out) (p : Standing) : Type 0 where
  pub stands : EachEvent CommandsSo es (told added)
  pub agrees : ScriptsAgree (es ++ told added) (outs ++ added) p

pub goes_nowhere : (es : List Event) (outs : List Out) (p : Standing) → ScriptsAgree es outs p → Goes es outs [] p
goes_nowhere es outs p a = record {
  stands = tt;
  agrees = subst (λ z. ScriptsAgree z (outs ++ []) p) (sym (append-nil es)) (subst (λ z. ScriptsAgree es z p) (sym (append-nil outs)) a);
}

-- records, and more after them
pub goes_two : (es : List Event) (outs a b : List Out) (p : Standing) → EachEvent CommandsSo es (told a) → Goes (es ++ told a) (outs ++ a) b p → Goes es outs (a ++ b) p
goes_two es outs a b p stands g = record {
  stands = stand_then es a b stands g.stands;
  agrees = subst (λ z. ScriptsAgree z (outs ++ (a ++ b)) p) (sym (told_two es a b)) (subst (λ z. ScriptsAgree ((es ++ told a) ++ told b) z p) (append_assoc outs a b) g.agrees);
}

pub goes_as : (es : List Event) (outs a b : List Out) (p : Standing) → a ≡ b → Goes es outs a p → Goes es outs b p
goes_as es outs a b p same g = subst (λ z. Goes es outs z p) same g

pub passes_goes : (es : List Event) (outs : List Out) (s : State) (inner next : Running) (outer : List Running) → coming inner ≡ passing next → ScriptsAgree es outs (course.running s inner outer) →
    Goes es outs [] (course.running s next outer)
passes_goes es outs s inner next outer comes a = goes_nowhere es outs _ (script_passes es inner next outer comes a.0, a.1, a.2, a.3)

-- the same images
pub images_as : (es es2 : List Event) (outs added : List Out) (s s' : State) → (so_far es2).images ≡ (so_far es).images → s'.images ≡ s.images → HasDrives (so_far es2) s' → HaveNoParts added → HasImages es outs s → HasImages es2 (outs ++ added) s'
images_as es es2 outs added s s' same images drives parts a = record { list = same ∙ a.list ∙ sym images; drives = drives; none = parts_more outs added a.none parts }

-- A SCRIPT IS LEFT

-- what is left of the scripts then
left_over : CommandsSoFar → List Running → Cause → CommandsSoFar
left_over m [] cause = record m { scripts = drop 1 m.scripts }
left_over m (s ∷ outer) cause = record m { scripts = drop 1 m.scripts; shown = None; is_open = true; left = Some cause }

left_is : (es : List Event) (inner : Running) (outer : List Running) (cause : Cause) → inner.depth ≡ length outer + 1 → so_far (es ++ puts (leave inner.depth cause) ∷ []) ≡ left_over (so_far es) outer cause
unfolding left_over
left_is es inner [] cause at = so_far_more es (puts (leave inner.depth cause)) ∙ ap (λ d. left_so_far d cause (so_far es)) at
left_is es inner (s ∷ outer) cause at =
    so_far_more es (puts (leave inner.depth cause))
    ∙ ap (λ b. cond b (record (so_far es) { scripts = drop 1 (so_far es).scripts }) (record (so_far es) { scripts = drop 1 (so_far es).scripts; shown = None; is_open = true; left = Some cause }))
    (ne_eqb inner.depth 1 (λ one. omega (arith, one, at)))

-- the scripts outside it
outside_are : (m n : CommandsSoFar) (inner : Running) (outer : List Running) → n.scripts ≡ drop 1 m.scripts → AreScripts m (inner ∷ outer) → AreScripts n (counting_on inner outer)
outside_are m n inner [] same a = record { same = same ∙ ap (drop 1) a.same; depths = (tt, omega arith) }
outside_are m n inner (s ∷ outer) same a = record { same = same ∙ ap (drop 1) a.same; depths = ((a.depths.0.1.0, a.depths.0.1.1), let few = a.depths.1 in omega (arith, few)) }

leave_stands : (es : List Event) (inner : Running) (outer : List Running) (cause : Cause) → AgreesScript es inner outer → (so_far es).is_open ≡ false → ScriptStands es 1 inner.depth cause
leave_stands es inner outer cause script over =
    let depth = depth_is es inner outer script in
    let first = script.scripts.depths.0.0 in
    subst (λ d. ScriptStands es 1 d cause) depth (leaves cause over (omega (arith, depth, first)))

leave_agrees : (es : List Event) (outs : List Out) (s : State) (inner : Running) (outer : List Running) (cause : Cause) → ScriptsAgree es outs (course.running s inner outer) →
    ScriptsAgree (es ++ puts (leave inner.depth cause) ∷ []) (outs ++ leave inner.depth cause ∷ []) (course.left s (counting_on inner outer) cause)
unfolding left_over
leave_agrees es outs s inner [] cause a =
    let es1 = es ++ puts (leave inner.depth cause) ∷ [] in
    let is = left_is es inner [] cause a.0.scripts.depths.0.0 in (
      outside_are (so_far es) (so_far es1) inner [] (ap (λ (m : CommandsSoFar). m.scripts) is) a.0.scripts,
      tt,
      (ap (λ (m : CommandsSoFar). m.is_open) is ∙ a.1.is_open, ap (λ (m : CommandsSoFar). m.left) is ∙ a.3),
      record { table = ap (λ (m : CommandsSoFar). m.table) is ∙ a.1.table; up = ap (λ (m : CommandsSoFar). m.up) is ∙ a.1.up; now = ap (λ (m : CommandsSoFar). m.now) is ∙ a.1.now; is_open = refl },
      images_as es es1 outs (leave inner.depth cause ∷ []) s s (ap (λ (m : CommandsSoFar). m.images) is) refl (drives_still (so_far es) (so_far es1) s s (ap (λ (m : CommandsSoFar). m.hooked) is) refl refl refl a.2.drives) (tt, tt) a.2,
    )
leave_agrees es outs s inner (x ∷ outer) cause a =
    let es1 = es ++ puts (leave inner.depth cause) ∷ [] in
    let is = left_is es inner (x ∷ outer) cause a.0.scripts.depths.0.0 in (
      outside_are (so_far es) (so_far es1) inner (x ∷ outer) (ap (λ (m : CommandsSoFar). m.scripts) is) a.0.scripts,
      begun_more es (puts (leave inner.depth cause)) ∙ a.0.begun,
      (ap (λ (m : CommandsSoFar). m.is_open) is, ap (λ (m : CommandsSoFar). m.left) is, ap (λ (m : CommandsSoFar). m.shown) is),
      record { table = ap (λ (m : CommandsSoFar). m.table) is ∙ a.1.table; up = ap (λ (m : CommandsSoFar). m.up) is ∙ a.1.up; now = ap (λ (m : CommandsSoFar). m.now) is ∙ a.1.now; is_open = refl },
      images_as es es1 outs (leave inner.depth cause ∷ []) s s (ap (λ (m : CommandsSoFar). m.images) is) refl (drives_still (so_far es) (so_far es1) s s (ap (λ (m : CommandsSoFar). m.hooked) is) refl refl refl a.2.drives) (tt, tt) a.2,
    )

pub left_goes : (es : List Event) (outs : List Out) (s : State) (inner : Running) (outer : List Running) (cause : Cause) → ScriptsAgree es outs (course.running s inner outer) →
    Goes es outs (leave inner.depth cause ∷ []) (course.left s (counting_on inner outer) cause)
left_goes es outs s inner outer cause a = record {
  stands = (record { stands = leave_stands es inner outer cause a.0 a.1.is_open; ended = λ no. absurd (omega arith) }, tt);
  agrees = leave_agrees es outs s inner outer cause a;
}

-- the command that ran it has its cause
pub hands_back_goes : (es : List Event) (outs : List Out) (s : State) (inner : Running) (outer : List Running) (cause : Cause) → ScriptsAgree es outs (course.left s (inner ∷ outer) cause) →
    Goes es outs (result cause ∷ []) (course.running s (with_result inner cause) outer)
hands_back_goes es outs s inner outer cause a =
    let o = result cause in
    let es1 = es ++ puts o ∷ [] in
    let is = handed_so_far es cause cause a.2.1 ∙ ap (λ (m : CommandsSoFar). record m { is_open = false; left = None; concluded = None }) (hooks_unshown es cause a.2.2) in
    record {
      stands = (
        record {
          is_open = a.2.0;
          holds = subst (λ l. HoldsOf l es cause) (sym a.2.1) refl;
          hooks = λ none. absurd (none-some cause (sym none ∙ a.2.1));
          reads = λ none. absurd (none-some cause (sym none ∙ a.2.1));
          frees = λ none. absurd (none-some cause (sym none ∙ a.2.1));
        },
        tt,
      );
      agrees = (
        record {
          scripts = first_as (so_far es1) inner (with_result inner cause) outer refl refl (scripts_as (so_far es) (so_far es1) (inner ∷ outer) (ap (λ (m : CommandsSoFar). m.scripts) is) a.0);
          begun = begun_more es (puts o) ∙ a.1;
        },
        record { table = ap (λ (m : CommandsSoFar). m.table) is ∙ a.3.table; up = ap (λ (m : CommandsSoFar). m.up) is ∙ a.3.up; now = ap (λ (m : CommandsSoFar). m.now) is ∙ a.3.now; is_open = ap (λ (m : CommandsSoFar). m.is_open) is },
        images_as es es1 outs (o ∷ []) s s (ap (λ (m : CommandsSoFar). m.images) is) refl (drives_still (so_far es) (so_far es1) s s (ap (λ (m : CommandsSoFar). m.hooked) is) refl refl refl a.4.drives) (tt, tt) a.4,
        ap (λ (m : CommandsSoFar). m.left) is,
      );
    }

-- A COMMAND IS OVER AT ONCE

-- one that concludes nothing
record IsOverBy (s : State) (inner : Running) (ws : List (List ℕ)) : Type 0 where
  effect : Effect
  comes : comes_to s inner ws ≡ effect
  none : concluded_in effect ≡ None
  unhooked : hooking_in effect ≡ None

over_agrees : (es : List Event) (outs : List Out) (s s' : State) (inner next : Running) (outer : List Running) (ws : List (List ℕ)) (o : CommandOutcome) → made es ≡ s.opens → LivesSo es s → IsOverBy s inner ws →
    as_so_far next ≡ as_so_far inner → next.depth ≡ inner.depth → next.begun ≡ inner.begun + 1 →
    table_after s.table ws ≡ s'.table → up_after s.table s.up ws ≡ s'.up → s'.now ≡ s.now → s'.images ≡ s.images → s'.drives ≡ s.drives → s'.live ≡ s.live → s'.opens ≡ s.opens → ScriptsAgree es outs (course.running s inner outer) →
    ScriptsAgree (es ++ told (command_records inner (shown_words s.table ws) o)) (outs ++ command_records inner (shown_words s.table ws) o) (course.running s' next outer)
over_agrees es outs s s' inner next outer ws o opens lives by same depth begun table up now images drives live made_is a =
    let shown = shown_words s.table ws in
    let is = command_so_far es inner shown o a.3 (concludes_none es outs s inner outer ws by.effect opens lives a by.comes by.none) (hooks_nothing es outs s inner outer ws by.effect lives a by.comes by.unhooked) in (
      script_begins es (command_records inner shown o) inner next outer (command_no_script inner shown o) (command_begins (commands_begun es) inner shown o) same depth begun a.0,
      settings_done es s s' ws is a.1 table up now,
      images_as es (es ++ told (command_records inner shown o)) outs (command_records inner shown o) s s' (ap (λ (m : CommandsSoFar). m.images) is) images
          (drives_still (so_far es) (so_far (es ++ told (command_records inner shown o))) s s' (ap (λ (m : CommandsSoFar). m.hooked) is) drives live made_is a.2.drives) (no_command inner shown o) a.2,
      ap (λ (m : CommandsSoFar). m.left) is ∙ a.3,
    )

pub does_goes : (es : List Event) (outs : List Out) (s s' : State) (inner : Running) (outer : List Running) (ws : List (List ℕ)) (o : CommandOutcome) → made es ≡ s.opens → LivesSo es s → inner.begun < 4096 → doing s inner ws ≡ ends o s' →
    ScriptsAgree es outs (course.running s inner outer) → Goes es outs (command_records inner (shown_words s.table ws) o) (course.running s' (further inner o.cause) outer)
does_goes es outs s s' inner outer ws o opens lives few is a =
    let d = ends_by s inner ws o s' is in
    record {
      stands = command_stands es outs s inner outer ws o opens lives a d.0 (may_begin es inner outer a.0 few);
      agrees = subst (λ z. ScriptsAgree (es ++ told (command_records inner (shown_words s.table ws) o)) (outs ++ command_records inner (shown_words s.table ws) o) (course.running z (further inner o.cause) outer)) (sym d.1)
          (over_agrees es outs s (left_by s ws) inner (further inner o.cause) outer ws o opens lives (record { effect = says o; comes = d.0; none = refl; unhooked = refl }) refl refl refl refl refl refl refl refl refl refl a);
    }

pub leaves_goes : (es : List Event) (outs : List Out) (s s' : State) (inner : Running) (outer : List Running) (ws : List (List ℕ)) (o : CommandOutcome) → made es ≡ s.opens → LivesSo es s → inner.begun < 4096 → doing s inner ws ≡ ends o s' →
    ScriptsAgree es outs (course.running s inner outer) → Goes es outs (command_records inner (shown_words s.table ws) o ++ (leave inner.depth o.cause ∷ [])) (course.left s' (counting_on (entered inner) outer) o.cause)
leaves_goes es outs s s' inner outer ws o opens lives few is a =
    let d = ends_by s inner ws o s' is in
    let b = command_records inner (shown_words s.table ws) o in
    goes_two es outs b (leave inner.depth o.cause ∷ []) (course.left s' (counting_on (entered inner) outer) o.cause)
    (command_stands es outs s inner outer ws o opens lives a d.0 (may_begin es inner outer a.0 few))
    (left_goes (es ++ told b) (outs ++ b) s' (entered inner) outer o.cause (subst (λ z. ScriptsAgree (es ++ told b) (outs ++ b) (course.running z (entered inner) outer)) (sym d.1)
    (over_agrees es outs s (left_by s ws) inner (entered inner) outer ws o opens lives (record { effect = says o; comes = d.0; none = refl; unhooked = refl }) refl refl refl refl refl refl refl refl refl refl a)))

pub jumps_goes : (es : List Event) (outs : List Out) (s : State) (inner : Running) (outer : List Running) (ws : List (List ℕ)) (name : List ℕ) (line : ℕ) → made es ≡ s.opens → LivesSo es s → inner.begun < 4096 → doing s inner ws ≡ goes_to name →
    label_place name inner.code ≡ Some line → ScriptsAgree es outs (course.running s inner outer) → Goes es outs (command_records inner (shown_words s.table ws) (refused ok)) (course.running s (behind_line inner line) outer)
jumps_goes es outs s inner outer ws name line opens lives few is there a =
    let e = goes_by s inner ws name is in
    record {
      stands = jump_stands es outs s inner outer ws name line opens lives a e there (may_begin es inner outer a.0 few);
      agrees = over_agrees es outs s s inner (behind_line inner line) outer ws (refused ok) opens lives (record { effect = goes name; comes = e; none = refl; unhooked = refl }) refl refl refl (table_stays s inner (goes name) ws e) (up_stays s inner (goes name) ws e) refl refl refl refl refl a;
    }

pub no_label_goes : (es : List Event) (outs : List Out) (s : State) (inner : Running) (outer : List Running) (ws : List (List ℕ)) (name : List ℕ) → made es ≡ s.opens → LivesSo es s → inner.begun < 4096 → doing s inner ws ≡ goes_to name →
    label_place name inner.code ≡ None → ScriptsAgree es outs (course.running s inner outer) → Goes es outs (command_records inner (shown_words s.table ws) (refused no_label)) (course.running s (further inner no_label) outer)
no_label_goes es outs s inner outer ws name opens lives few is nowhere a =
    let e = goes_by s inner ws name is in
    record {
      stands = no_label_stands es outs s inner outer ws name opens lives a e nowhere (may_begin es inner outer a.0 few);
      agrees = over_agrees es outs s s inner (further inner no_label) outer ws (refused no_label) opens lives (record { effect = goes name; comes = e; none = refl; unhooked = refl }) refl refl refl (table_stays s inner (goes name) ws e) (up_stays s inner (goes name) ws e) refl refl refl refl refl a;
    }

-- `ifclose`: all that lives ends
pub shuts_goes : (es : List Event) (outs : List Out) (s s' : State) (inner : Running) (outer : List Running) (ws : List (List ℕ)) (put : List Out) (over : List Over) → made es ≡ s.opens → LivesSo es s → inner.begun < 4096 → doing s inner ws ≡ shuts s' →
    AllTake s'.devices (close down_cause) (course.drives_first s'.drives s'.live) put [] over → ScriptsAgree es outs (course.running s inner outer) →
    Goes es outs (command_record inner (shown_words s.table ws) ∷ put ++ (result ok ∷ [])) (course.running (with_live s' []) (further inner ok) outer)
shuts_goes es outs s s' inner outer ws put over opens lives few is all a =
    let d = shuts_by s inner ws s' is in
    let shown = shown_words s.table ws in
    let command = command_record inner shown in
    let all_ends = close_ends s'.devices down_cause (course.drives_first s'.drives s'.live) put [] over all in
    let quiet = ends_quiet down_cause put all_ends in
    let es1 = es ++ puts command ∷ [] in
    let es2 = es1 ++ told put in
    let at : es ++ told (command ∷ put ++ (result ok ∷ [])) ≡ es2 ++ puts (result ok) ∷ [] = sym (append_assoc es (puts command ∷ []) (told (put ++ (result ok ∷ [])))) ∙ told_two es1 put (result ok ∷ []) in
    let failed : came_ok (last_end es2) ≡ false = ends_fail down_cause es1 put refl all_ends (ap came_ok (last_end_more es (puts command))) in
    let began : so_far es2 ≡ begun_so_far (found_so_far es) shown = quiet_so_far es1 put quiet ∙ begins_so_far es inner shown in
    let many : made es2 ≡ made es = quiet_made es1 put quiet ∙ made_more es (puts command) ∙ add-zero (made es) in
    let none : conclusion_so_far (last_end es2) es2 (so_far es2) ≡ None = begun_concludes es es2 shown began many failed ∙ concludes_none es outs s inner outer ws shuts_device opens lives a d.0 refl in
    let over_is : so_far (es2 ++ puts (result ok) ∷ []) ≡ over_so_far None (begun_so_far (found_so_far es) shown) =
    result_so_far es2 ok None (ap (λ (m : CommandsSoFar). m.left) began ∙ a.3) none (left_quiet es2 (so_far es2).table (so_far es2).shown failed) ∙ ap (over_so_far None) (hooks_none es2 ok shown (ap (λ (m : CommandsSoFar). m.shown) began) (ap (λ m. hooking_in (comes_by 0 m shown)) began ∙ hooks_nothing es outs s inner outer ws shuts_device lives a d.0 refl) ∙ began) in
    record {
      stands = shut_stands es outs s inner outer ws down_cause put refl all_ends opens lives a d.0 (may_begin es inner outer a.0 few);
      agrees = subst (λ z. ScriptsAgree (es ++ told (command ∷ put ++ (result ok ∷ []))) (outs ++ (command ∷ put ++ (result ok ∷ []))) (course.running (with_live z []) (further inner ok) outer)) (sym d.1)
          (subst (λ z. ScriptsAgree z (outs ++ (command ∷ put ++ (result ok ∷ []))) (course.running (with_live (left_by s ws) []) (further inner ok) outer)) (sym at) (
            script_told es2 (result ok ∷ []) (further inner ok) outer (tt, tt) refl
                (script_told es1 put (further inner ok) outer (quiet_scripts put quiet) (quiet_begin (commands_begun es1) put quiet) (script_begins es (command ∷ []) inner (further inner ok) outer (tt, tt) refl refl refl refl a.0)),
            settings_done es s (with_live (left_by s ws) []) ws over_is a.1 refl refl refl,
            images_as es (es2 ++ puts (result ok) ∷ []) outs (command ∷ put ++ (result ok ∷ [])) s (with_live (left_by s ws) []) (ap (λ (m : CommandsSoFar). m.images) over_is) refl
                (drives_keep (so_far es) (so_far (es2 ++ puts (result ok) ∷ [])) (left_by s ws) (with_live (left_by s ws) []) (ap (λ (m : CommandsSoFar). m.hooked) over_is) (none_keeps (left_by s ws)) (drives_still (so_far es) (so_far es) s (left_by s ws) refl refl refl refl a.2.drives))
                (tt, parts_more put (result ok ∷ []) (quiet_parts put quiet) (tt, tt)) a.2,
            ap (λ (m : CommandsSoFar). m.left) over_is ∙ a.3,
          ));
    }

-- A COMMAND SLEEPS

-- for some time
abbrev IsRested : Effect → Type 0
IsRested (sleeps seconds) = 0 < seconds
IsRested (says o) = Unit {0}
IsRested (asks wanted) = Unit {0}
IsRested (goes name) = Unit {0}
IsRested shuts_device = Unit {0}
IsRested (inquires q) = Unit {0}
IsRested (on_images c) = Unit {0}
IsRested (on_drives c) = Unit {0}
IsRested (hooks_disk hooking) = Unit {0}
IsRested (unhooks_drive number cause) = Unit {0}
IsRested (boots_drive number) = Unit {0}
IsRested (concludes_at_once c) = Unit {0}

settled_rests : (x : Surroundings) (e : Effect) → ((n : ℕ) → e ≡ sleeps n → 0 < n) → IsRested (settled_effect x e)
settled_rests x (sleeps seconds) h = h seconds refl
settled_rests x (on_images c) h = images_either IsRested (λ o. tt) (λ y. tt) (λ wanted. tt) (λ q. tt) x c
settled_rests x (on_drives c) h = drives_either IsRested (λ o. tt) (λ hooking. tt) (λ number cause. tt) (λ number. tt) x c
settled_rests x (hooks_disk hooking) h = tt
settled_rests x (unhooks_drive number cause) h = tt
settled_rests x (boots_drive number) h = tt
settled_rests x (says o) h = tt
settled_rests x (asks wanted) h = tt
settled_rests x (goes name) h = tt
settled_rests x shuts_device h = tt
settled_rests x (inquires q) h = tt
settled_rests x (concludes_at_once c) h = tt

sleeps_for_some : (s : State) (inner : Running) (ws : List (List ℕ)) (seconds : ℕ) → comes_to s inner ws ≡ sleeps seconds → 0 < seconds
unfolding effect_in
sleeps_for_some s inner ws seconds is = subst IsRested is (settled_rests (surroundings s inner) (effect s.opens s.table ws) (λ n e. sleeps_some s.opens s.table ws n e))

pub sleeps_goes : (es : List Event) (outs : List Out) (s : State) (inner : Running) (outer : List Running) (ws : List (List ℕ)) (time : ℕ) → made es ≡ s.opens → LivesSo es s → inner.begun < 4096 → doing s inner ws ≡ waits_until time →
    ScriptsAgree es outs (course.running s inner outer) →
    Goes es outs (command_record inner (shown_words s.table ws) ∷ []) (course.waiting s (record { script = entered inner; outer = outer; awaited = moment time; job = sleep }))
sleeps_goes es outs s inner outer ws time opens lives few is a =
    let (seconds, e, at) = waits_by s inner ws time is in
    let shown = shown_words s.table ws in
    let command = command_record inner shown in
    let began = begins_so_far es inner shown in
    let some : 0 < seconds = sleeps_for_some s inner ws seconds e in
    let sleeping : SleepsUntil (begun_so_far (found_so_far es) shown) s time = record {
      shown = shown;
      is_shown = refl;
      seconds = seconds;
      sleeps_so = comes_is (found_so_far es) s inner ws (running_finds es outs s inner outer lives a) ∙ e;
      until_is = at ∙ ap (λ t. t + 1000 * seconds) (sym a.1.now);
      early = omega (arith, some, at);
    } in
    record {
      stands = (begins_so es s inner ws a.1 (may_begin es inner outer a.0 few), tt);
      agrees = (
        script_begins es (command ∷ []) inner (entered inner) outer (tt, tt) refl refl refl refl a.0,
        settings_begun es s s ws began refl (up_stays s inner (sleeps seconds) ws e) refl a.1,
        images_as es (es ++ puts command ∷ []) outs (command ∷ []) s s (ap (λ (m : CommandsSoFar). m.images) began) refl (drives_still (so_far es) (so_far (es ++ puts command ∷ [])) s s (ap (λ (m : CommandsSoFar). m.hooked) began) refl refl refl a.2.drives) (tt, tt) a.2,
        ap (λ (m : CommandsSoFar). m.left) began ∙ a.3,
        awaits_time time refl refl (command_open_more es (puts command)) (subst (λ m. SleepsUntil m s time) (sym began) sleeping),
      );
    }
