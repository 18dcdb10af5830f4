-- A drive is let go, by `sanunhook` or by a disk that is hooked in its place; and a disk is hooked.
use Rattle.std.proofs.Common.{◌≡◌, ℕ, ◌<◌, false, true, List, [], ◌∷◌, ◌++◌, None, Result, Ok, Err, refl, sym, ◌∙◌, ap, subst}
use Rattle.std.specs.List.{list_any}
use Rattle.nb_terms.specs.declared.cause.Cause.{Cause}
use Rattle.nb_defs.specs.Records.{Out, result}
use Rattle.nb_drivecmd.specs.declared.outcome.Hooking.{Hooking}
use Rattle.nb_drivecmd.specs.HookedDrives.{is_drive}
use Rattle.nb_machine.specs.Effects.{Effect, hooks_disk, unhooks_drive, shown_words, next_at_target, up_after}
use Rattle.nb_machine.specs.Errands.{Onward}
use Rattle.nb_machine.specs.Running.{Running, entered, further}
use Rattle.nb_machine.specs.CommandRecords.{command_record, stopped_cause}
use Rattle.nb_machine.specs.States.{State}
use Rattle.nb_machine.specs.Scripts.{hooks_one, lets_go, doing}
use Rattle.nb_machine.specs.Courses as course
use Rattle.nb_machine.specs.Courses.{DropsDrive}
use Rattle.nb_laws.specs.Agreement.{AgreesScript}
use Rattle.nb_laws.specs.CommandsSoFar.{CommandsSoFar, so_far, ComesTo, conclusion_so_far, concluded_in, booted_in, shown_table, comes_by}
use Rattle.nb_laws.specs.CommandOpens.{command_open}
use Rattle.nb_laws.specs.Events.{Event, puts, EachEvent}
use Rattle.nb_laws.specs.Frames.{HoldsResult, by_unhook, by_no_hooking, HoldsOf}
use Rattle.nb_laws.specs.Hookings.{hooked_drives}
use Rattle.nb_laws.specs.Lists.{made, commands_begun, last_end}
use Rattle.nb_laws.specs.Moves.{moves}
use Rattle.nb_laws.proofs.Afterwards.{IsNext, after_by_words, after_unhooked}
use Rattle.nb_laws.proofs.Commands.{may_begin, script_as, script_begins, script_told}
use Rattle.nb_laws.proofs.Settling.{LeavesTable, comes_keeps}
use Rattle.nb_laws.proofs.SoFar.{over_so_far, result_so_far, left_quiet, concludes_at_once_so, hooks_so_far, hooks_failed, hooks_none, begun_so_far, found_so_far, begins_so_far}
use Rattle.nb_laws.proofs.Tellings.{told}
use Rattle.nb_openlaws.proofs.Doings.{comes_to, hooks_by, lets_by, up_stays}
use Rattle.nb_openlaws.proofs.Puts.{close_ends}
use Rattle.nb_openlaws.specs.Standings.{AgreesState}
use Rattle.nb_lawful.specs.Results.{CommandsSo}
use Rattle.nb_lawful.specs.ScriptAgreement.{SettingsAre, HasImages, NoneLeft, reaches_disk, ScriptsAgree}
use Rattle.nb_lawful.proofs.AtOnce.{Goes, goes_two, images_as}
use Rattle.nb_lawful.proofs.Begun.{HasBegun, begun_silently, begun_closing, has_begun_comes, begins_so, settings_begun, opened_none, told_two}
use Rattle.nb_lawful.proofs.HookedLives.{LivesSo, drives_still, drives_keep, drop_keeps, drop_none, lives_so}
use Rattle.nb_lawful.proofs.Quiet.{quiet_begin, quiet_parts, quiet_scripts, quiet_commands, ends_quiet, quiet_so_far}
use Rattle.nb_lawful.proofs.NoBlocks.{words_boot_none, no_block_first}
use Rattle.nb_lawful.proofs.Targets.{target_fails}
use Rattle.nb_lawful.proofs.Units.{unit_is_whole}

-- THE DRIVE IS CLOSED

-- what is known then: the command of these words has begun, and this was put
record HasDropped (es es2 : List Event) (outs : List Out) (s s2 : State) (inner : Running) (outer : List Running) (ws : List (List ℕ)) (put : List Out) : Type 0 where
  stands : EachEvent CommandsSo es (told (command_record inner (shown_words s.table ws) ∷ put))
  begun : HasBegun es2 s inner ws
  script : AgreesScript es2 (entered inner) outer
  settings : SettingsAre (so_far es2) s2 true
  images : HasImages es2 (outs ++ command_record inner (shown_words s.table ws) ∷ put) s2
  none_left : NoneLeft es2
  opens : made es2 ≡ s2.opens

-- the command comes to that
abbrev KeepsUpAs : State → List (List ℕ) → Type 0
KeepsUpAs s ws = up_after s.table s.up ws ≡ s.up

drops_so : (es : List Event) (outs : List Out) (s s2 : State) (inner : Running) (outer : List Running) (ws : List (List ℕ)) (number : ℕ) (put : List Out) → made es ≡ s.opens → LivesSo es s → inner.begun < 4096 → KeepsUpAs s ws →
    DropsDrive s number put s2 → ScriptsAgree es outs (course.running s inner outer) → HasDropped es (es ++ told (command_record inner (shown_words s.table ws) ∷ put)) outs s s2 inner outer ws put
drops_so es outs s s2 inner outer ws number put opens lives few up drops a =
    let command = command_record inner (shown_words s.table ws) in
    let es1 = es ++ puts command ∷ [] in
    let es2 = es ++ told (command ∷ put) in
    let all = close_ends s.devices stopped_cause _ put [] drops.over drops.closes in
    let quiet = ends_quiet stopped_cause put all in
    let at : es2 ≡ es1 ++ told put = told_two es (command ∷ []) put in
    let b : HasBegun es2 s inner ws = subst (λ z. HasBegun z s inner ws) (sym at) (begun_closing es1 s inner ws stopped_cause put refl all (begun_silently es outs s inner outer ws opens lives a)) in
    let same : so_far es2 ≡ begun_so_far (found_so_far es) (shown_words s.table ws) = ap so_far at ∙ quiet_so_far es1 put quiet ∙ begins_so_far es inner (shown_words s.table ws) in
    let hooked : (so_far es2).hooked ≡ (so_far es).hooked = ap (λ (m : CommandsSoFar). m.hooked) same in
    record {
      stands = (begins_so es s inner ws a.1 (may_begin es inner outer a.0 few), quiet_commands es1 put quiet);
      begun = b;
      script = subst (λ z. AgreesScript z (entered inner) outer) (sym at)
          (script_told es1 put (entered inner) outer (quiet_scripts put quiet) (quiet_begin (commands_begun es1) put quiet) (script_begins es (command ∷ []) inner (entered inner) outer (tt, tt) refl refl refl refl a.0));
      settings = settings_begun es s s2 ws same (ap (λ (z : State). z.table) drops.leaves) (up ∙ ap (λ (z : State). z.up) (sym drops.leaves)) (ap (λ (z : State). z.now) drops.leaves) a.1;
      images = images_as es es2 outs (command ∷ put) s s2 (ap (λ (m : CommandsSoFar). m.images) same) (ap (λ (z : State). z.images) drops.leaves) (drives_keep (so_far es) (so_far es2) s s2 hooked (drop_keeps s s2 number put drops) a.2.drives) (tt, quiet_parts put quiet) a.2;
      none_left = ap (λ (m : CommandsSoFar). m.left) b.so_far_is ∙ b.none_left;
      opens = b.opens ∙ ap (λ (z : State). z.opens) (sym drops.leaves);
    }

-- IT IS OVER

over_goes : (es es2 : List Event) (outs outs2 : List Out) (s s2 : State) (inner : Running) (outer : List Running) (ws : List (List ℕ)) (put : List Out) (e : Effect) (cause : Cause) → HasDropped es es2 outs s s2 inner outer ws put →
    outs2 ≡ outs ++ command_record inner (shown_words s.table ws) ∷ put → comes_to s inner ws ≡ e → (IsNext e → ⊥) → LeavesTable e → concluded_in e ≡ None → booted_in e ≡ None → (command_open es2 ≡ None → ComesTo es2 (made es2) e → HoldsResult es2 cause) →
    hooks_so_far cause es2 ≡ so_far es2 → Goes es2 outs2 (result cause ∷ []) (course.running s2 (further inner cause) outer)
over_goes es es2 outs outs2 s s2 inner outer ws put e cause d same comes never leaves none unbooted holds unhooked =
    let b = d.begun in
    let names : ComesTo es2 (made es2) e = has_begun_comes es2 s inner ws e b comes in
    let words : comes_by (made es2) (so_far es2) names.0 ≡ e = after_by_words (made es2) (so_far es2) names.0 (moves es2) e never names.2 in
    let nothing : conclusion_so_far (last_end es2) es2 (so_far es2) ≡ None = concludes_at_once_so es2 (so_far es2) names.0 b.ended_none names.1 ∙ ap concluded_in words ∙ none in
    let keeps : shown_table (so_far es2).table (so_far es2).shown ≡ (so_far es2).table = ap (shown_table (so_far es2).table) names.1 ∙ comes_keeps (made es2) (so_far es2) names.0 e words leaves in
    let es3 = es2 ++ puts (result cause) ∷ [] in
    let is : so_far es3 ≡ over_so_far None (so_far es2) =
    result_so_far es2 cause None d.none_left nothing (left_quiet es2 (so_far es2).table (so_far es2).shown b.ended_none) ∙ ap (over_so_far None) unhooked in
    record {
      stands = (
        record {
          is_open = d.settings.is_open;
          holds = subst (λ l. HoldsOf l es2 cause) (sym d.none_left) (holds b.none names);
          hooks = λ left some. absurd (opened_none (command_open es2) b.none some);
          reads = λ left k bytes boots_it read. absurd (no_block_first es2 b.none (words_boot_none es2 (made es2) e unbooted names) k bytes boots_it read);
          frees = λ left some. absurd (opened_none (command_open es2) b.none some);
        },
        tt,
      );
      agrees = (
        script_as es3 (entered inner) (further inner cause) outer (record { same = refl; depth = refl; begun = refl }) (script_told es2 (result cause ∷ []) (entered inner) outer (tt, tt) refl d.script),
        subst (λ m. SettingsAre m s2 false) (sym is) (record { table = keeps ∙ d.settings.table; up = d.settings.up; now = d.settings.now; is_open = refl }),
        images_as es2 es3 outs2 (result cause ∷ []) s2 s2 (ap (λ (m : CommandsSoFar). m.images) is) refl
            (drives_still (so_far es2) (so_far es3) s2 s2 (ap (λ (m : CommandsSoFar). m.hooked) is) refl refl refl d.images.drives) (tt, tt) (subst (λ z. HasImages es2 z s2) (sym same) d.images),
        ap (λ (m : CommandsSoFar). m.left) is ∙ d.none_left,
      );
    }

-- what is asked of the disk's host, by the history
asked_so : (es es2 : List Event) (outs : List Out) (s s2 : State) (inner : Running) (outer : List Running) (ws : List (List ℕ)) (put : List Out) (hooking : Hooking) → HasDropped es es2 outs s s2 inner outer ws put → AgreesState es2 s2 → (r : Result Onward Cause) →
    next_at_target s2.opens s2.table s2.drives hooking ≡ r → next_at_target (made es2) (so_far es2).table (hooked_drives es2) hooking ≡ r
asked_so es es2 outs s s2 inner outer ws put hooking d then r asks =
    ap (λ k. next_at_target k (so_far es2).table (hooked_drives es2) hooking) d.opens ∙ ap (λ t. next_at_target s2.opens t (hooked_drives es2) hooking) d.settings.table
    ∙ ap (λ ds. next_at_target s2.opens s2.table ds hooking) (lives_so es2 s2 then d.images.drives) ∙ asks

-- a drive is let go
pub unhooks_goes : (es : List Event) (outs : List Out) (s s2 : State) (inner : Running) (outer : List Running) (ws : List (List ℕ)) (number : ℕ) (put : List Out) (cause : Cause) → made es ≡ s.opens → LivesSo es s → inner.begun < 4096 → doing s inner ws ≡ lets_go number cause →
    DropsDrive s number put s2 → ScriptsAgree es outs (course.running s inner outer) →
    Goes es outs (command_record inner (shown_words s.table ws) ∷ put ++ (result cause ∷ [])) (course.running s2 (further inner cause) outer)
unhooks_goes es outs s s2 inner outer ws number put cause opens lives few is drops a =
    let comes = lets_by s inner ws number cause is in
    let d = drops_so es outs s s2 inner outer ws number put opens lives few (up_stays s inner (unhooks_drive number cause) ws comes) drops a in
    let command = command_record inner (shown_words s.table ws) in
    goes_two es outs (command ∷ put) (result cause ∷ []) (course.running s2 (further inner cause) outer) d.stands
    (over_goes es (es ++ told (command ∷ put)) outs (outs ++ command ∷ put) s s2 inner outer ws put (unhooks_drive number cause) cause d refl comes (λ no. no) tt refl refl (λ none names. by_unhook number cause none names refl)
    (let names = has_begun_comes (es ++ told (command ∷ put)) s inner ws (unhooks_drive number cause) d.begun comes in
    hooks_none (es ++ told (command ∷ put)) cause names.0 names.1 (after_unhooked (made (es ++ told (command ∷ put))) (so_far (es ++ told (command ∷ put))) names.0 (moves (es ++ told (command ∷ put))) (unhooks_drive number cause) refl names.2)))

-- nothing may be opened for a disk
pub hooks_none_goes : (es : List Event) (outs : List Out) (s s2 : State) (inner : Running) (outer : List Running) (ws : List (List ℕ)) (hooking : Hooking) (put : List Out) (cause : Cause) → made es ≡ s.opens → LivesSo es s →
    AgreesState (es ++ told (command_record inner (shown_words s.table ws) ∷ put)) s2 → inner.begun < 4096 → doing s inner ws ≡ hooks_one hooking → DropsDrive s hooking.number put s2 → next_at_target s2.opens s2.table s2.drives hooking ≡ Err cause →
    ScriptsAgree es outs (course.running s inner outer) → Goes es outs (command_record inner (shown_words s.table ws) ∷ put ++ (result cause ∷ [])) (course.running s2 (further inner cause) outer)
hooks_none_goes es outs s s2 inner outer ws hooking put cause opens lives then few is drops asks a =
    let comes = hooks_by s inner ws hooking is in
    let d = drops_so es outs s s2 inner outer ws hooking.number put opens lives few (up_stays s inner (hooks_disk hooking) ws comes) drops a in
    let command = command_record inner (shown_words s.table ws) in
    let es2 = es ++ told (command ∷ put) in
    let failed = target_fails s2.opens s2.table s2.drives hooking cause asks in
    goes_two es outs (command ∷ put) (result cause ∷ []) (course.running s2 (further inner cause) outer) d.stands
    (over_goes es es2 outs (outs ++ command ∷ put) s s2 inner outer ws put (hooks_disk hooking) cause d refl comes (λ no. no) tt refl refl
    (λ none names. by_no_hooking hooking none names (asked_so es es2 outs s s2 inner outer ws put hooking d then (Err cause) asks)) (hooks_failed es2 cause failed))

-- A DISK IS HOOKED

pub hooks_goes : (es : List Event) (outs : List Out) (s s2 : State) (inner : Running) (outer : List Running) (ws : List (List ℕ)) (hooking : Hooking) (put : List Out) (next : Onward) → made es ≡ s.opens → LivesSo es s →
    AgreesState (es ++ told (command_record inner (shown_words s.table ws) ∷ put)) s2 → inner.begun < 4096 → doing s inner ws ≡ hooks_one hooking → DropsDrive s hooking.number put s2 → next_at_target s2.opens s2.table s2.drives hooking ≡ Ok next →
    ScriptsAgree es outs (course.running s inner outer) → Goes es outs (command_record inner (shown_words s.table ws) ∷ put) (course.reaching s2 (entered inner) outer next)
hooks_goes es outs s s2 inner outer ws hooking put next opens lives then few is drops asks a =
    let comes = hooks_by s inner ws hooking is in
    let d = drops_so es outs s s2 inner outer ws hooking.number put opens lives few (up_stays s inner (hooks_disk hooking) ws comes) drops a in
    let command = command_record inner (shown_words s.table ws) in
    let es2 = es ++ told (command ∷ put) in
    record {
      stands = d.stands;
      agrees = (
        d.script,
        d.settings,
        d.images,
        d.none_left,
        reaches_disk (record {
          first = d.begun.none;
          hooking = hooking;
          names = has_begun_comes es2 s inner ws (hooks_disk hooking) d.begun comes;
          asks = asked_so es es2 outs s s2 inner outer ws put hooking d then (Ok next) asks;
          gone = ap (list_any (is_drive hooking.number)) (lives_so es2 s2 then d.images.drives) ∙ drop_none s s2 hooking.number put drops;
          unit = (let names = has_begun_comes es2 s inner ws (hooks_disk hooking) d.begun comes in unit_is_whole (made es2) (so_far es2) names.0 hooking (after_by_words (made es2) (so_far es2) names.0 (moves es2) (hooks_disk hooking) (λ no. no) names.2));
        }),
      );
    }
