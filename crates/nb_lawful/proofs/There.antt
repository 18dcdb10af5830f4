-- A command on images that waits for nothing: what comes of it at once.
use Rattle.std.proofs.Common.{◌≡◌, ℕ, ◌<◌, true, List, [], ◌∷◌, ◌++◌, map, refl, sym, ◌∙◌, ap, subst, append-nil}
use Rattle.nb_defs.specs.Causes.{ok}
use Rattle.nb_defs.specs.Records.{Out, text, result}
use Rattle.nb_image.specs.Images.{ImageList}
use Rattle.nb_machine.specs.Conclusions.{Conclusion, keeps, tells, fails, boots, runs_script, conclusion_records}
use Rattle.nb_machine.specs.Effects.{concludes_at_once, shown_words}
use Rattle.nb_machine.specs.Running.{Running, entered, with_result}
use Rattle.nb_machine.specs.CommandRecords.{command_record}
use Rattle.nb_machine.specs.States.{State, with_images}
use Rattle.nb_machine.specs.Scripts.{concludes_now, doing}
use Rattle.nb_machine.specs.Courses as course
use Rattle.nb_machine.specs.Courses.{Standing, ConclusionLeads}
use Rattle.nb_laws.specs.Agreement.{AgreesScript}
use Rattle.nb_laws.specs.CommandsSoFar.{CommandsSoFar, so_far, shown_table, comes_by, concluded_in, hooking_in}
use Rattle.nb_laws.specs.Moves.{moves}
use Rattle.nb_laws.specs.Events.{Event, puts}
use Rattle.nb_laws.specs.Lists.{made}
use Rattle.nb_laws.proofs.Commands.{may_begin, script_begins, script_told}
use Rattle.nb_laws.proofs.Afterwards.{after_by_words}
use Rattle.nb_laws.proofs.Settling.{comes_keeps, hooks_same}
use Rattle.nb_laws.proofs.SoFar.{so_far_more, begins_so_far, left_quiet, concludes_at_once_so, hooks_none}
use Rattle.nb_laws.specs.Frames.{by_images}
use Rattle.nb_laws.specs.CommandOpens.{command_open}
use Rattle.nb_openlaws.proofs.Doings.{comes_to, concludes_by, up_stays}
use Rattle.nb_openlaws.specs.Standings.{AgreesState}
use Rattle.nb_openlaws.proofs.OpenStates.{still_state}
use Rattle.nb_lawful.specs.Results.{HasEndedOpens}
use Rattle.nb_lawful.specs.ScriptAgreement.{SettingsAre, HasImages, ScriptsAgree}
use Rattle.nb_lawful.proofs.Begun.{HasBegun, has_begun_comes, begun_silently, begun_printing, begins_so, settings_begun, opened_none, asks_nothing}
use Rattle.nb_openlaws.proofs.SessionSteps.{still_sessions}
use Rattle.nb_lawful.proofs.NoBlocks.{words_boot_none, no_block_first}
use Rattle.nb_lawful.proofs.AtOnce.{Goes, goes_two, images_as}
use Rattle.nb_lawful.proofs.Fits.{comes_fit}
use Rattle.nb_lawful.proofs.Leading.{concluded_so, Concluding, result_goes, with_list, conclusion_goes}
use Rattle.nb_lawful.proofs.HookedLives.{LivesSo, drives_still}
use Rattle.nb_openlaws.specs.Sessions.{SessionsAgree}

-- a command that has begun, and concludes by its words
pub record ConcludesThere (es : List Event) (outs : List Out) (s : State) (inner : Running) (outer : List Running) (ws : List (List ℕ)) (c : Conclusion) : Type 0 where
  base : AgreesState es s
  begun : HasBegun es s inner ws
  comes : comes_to s inner ws ≡ concludes_at_once c
  script : AgreesScript es (entered inner) outer
  settings : SettingsAre (so_far es) s true
  images : HasImages es outs s
  settled : SessionsAgree es s.live

concluding_there : (es : List Event) (outs : List Out) (s : State) (inner : Running) (outer : List Running) (ws : List (List ℕ)) (c : Conclusion) → ConcludesThere es outs s inner outer ws c → Concluding es outs s (entered inner) outer c
concluding_there es outs s inner outer ws c k =
    let (shown, said, comes) = has_begun_comes es s inner ws (concludes_at_once c) k.begun k.comes in
    let words : comes_by (made es) (so_far es) shown ≡ concludes_at_once c = after_by_words (made es) (so_far es) shown (moves es) (concludes_at_once c) (λ no. no) comes in
    record {
      base = k.base;
      script = k.script;
      settings = k.settings;
      images = k.images;
      none_left = ap (λ (m : CommandsSoFar). m.left) k.begun.so_far_is ∙ k.begun.none_left;
      concluded = concluded_so (concludes_at_once_so es (so_far es) shown k.begun.ended_none said ∙ ap concluded_in words);
      keeps_table = ap (shown_table (so_far es).table) said ∙ comes_keeps (made es) (so_far es) shown (concludes_at_once c) words tt;
      leaves_table = left_quiet es (so_far es).table (so_far es).shown k.begun.ended_none;
      holds = λ cause gives. by_images c k.begun.none (shown, said, comes) gives;
      ended = subst HasEndedOpens (sym k.begun.none) tt;
      fits = comes_fit (made es) (so_far es) shown c words;
      unhooked = λ cause gives. hooks_none es cause shown said (hooks_same 0 (made es) (so_far es) shown ∙ ap hooking_in words);
      no_disk = λ cause gives left some. absurd (opened_none (command_open es) k.begun.none some);
      no_block = no_block_first es k.begun.none (words_boot_none es (made es) (concludes_at_once c) refl (shown, said, comes));
      settled = k.settled;
    }

-- what it prints stands before its result
tells_goes : (es : List Event) (outs : List Out) (s : State) (inner : Running) (outer : List Running) (ws : List (List ℕ)) (list : ImageList) (all lines : List (List ℕ)) → ConcludesThere es outs s inner outer ws (tells list all) →
    Goes es outs (map text lines ++ (result ok ∷ [])) (course.running (with_images s list) (with_result (entered inner) ok) outer)
tells_goes es outs s inner outer ws list all [] k = result_goes es outs s (with_images s list) (entered inner) outer (tells list all) ok (concluding_there es outs s inner outer ws (tells list all) k) refl (with_list s list)
tells_goes es outs s inner outer ws list all (line ∷ lines) k =
    let o = text line in
    let same = so_far_more es (puts o) in
    goes_two es outs (o ∷ []) (map text lines ++ (result ok ∷ [])) (course.running (with_images s list) (with_result (entered inner) ok) outer) (tt, tt)
    (tells_goes (es ++ puts o ∷ []) (outs ++ o ∷ []) s inner outer ws list all lines (record {
      begun = begun_printing es s inner ws line k.begun;
      base = still_state es (o ∷ []) s (tt, tt) k.base;
      comes = k.comes;
      script = script_told es (o ∷ []) (entered inner) outer (tt, tt) refl k.script;
      settings = subst (λ m. SettingsAre m s true) (sym same) k.settings;
      images = images_as es (es ++ puts o ∷ []) outs (o ∷ []) s s (ap (λ (m : CommandsSoFar). m.images) same) refl (drives_still (so_far es) (so_far (es ++ puts o ∷ [])) s s (ap (λ (m : CommandsSoFar). m.hooked) same) refl refl refl k.images.drives) (tt, tt) k.images;
      settled = still_sessions es (o ∷ []) s.live (tt, tt) ((λ j. refl), tt) k.settled;
    }))

leads_there : (es : List Event) (outs : List Out) (s : State) (inner : Running) (outer : List Running) (ws : List (List ℕ)) (c : Conclusion) (put : List Out) (p : Standing) → ConcludesThere es outs s inner outer ws c → ConclusionLeads s (entered inner) outer c put p →
    Goes es outs (conclusion_records c ++ put) p
leads_there es outs s inner outer ws (tells list lines) put p k (none, is) =
    subst (λ z. Goes es outs ((map text lines ++ (result ok ∷ [])) ++ z) p) (sym none)
    (subst (λ z. Goes es outs z p) (sym (append-nil (map text lines ++ (result ok ∷ []))))
    (subst (λ z. Goes es outs (map text lines ++ (result ok ∷ [])) z) (sym is) (tells_goes es outs s inner outer ws list lines lines k)))
leads_there es outs s inner outer ws (keeps list) put p k leads = conclusion_goes es outs s (entered inner) outer (keeps list) put p (λ l x e. absurd (cc e)) (concluding_there es outs s inner outer ws (keeps list) k) leads
leads_there es outs s inner outer ws (fails cause) put p k leads = conclusion_goes es outs s (entered inner) outer (fails cause) put p (λ l x e. absurd (cc e)) (concluding_there es outs s inner outer ws (fails cause) k) leads
leads_there es outs s inner outer ws (boots list kernel) put p k leads = conclusion_goes es outs s (entered inner) outer (boots list kernel) put p (λ l x e. absurd (cc e)) (concluding_there es outs s inner outer ws (boots list kernel) k) leads
leads_there es outs s inner outer ws (runs_script list image replaces) put p k leads =
    conclusion_goes es outs s (entered inner) outer (runs_script list image replaces) put p (λ l x e. absurd (cc e)) (concluding_there es outs s inner outer ws (runs_script list image replaces) k) leads

-- COMMAND has begun
pub began_there : (es : List Event) (outs : List Out) (s : State) (inner : Running) (outer : List Running) (ws : List (List ℕ)) (c : Conclusion) → AgreesState es s → SessionsAgree es s.live → made es ≡ s.opens → LivesSo es s →
    doing s inner ws ≡ concludes_now c → ScriptsAgree es outs (course.running s inner outer) →
    ConcludesThere (es ++ puts (command_record inner (shown_words s.table ws)) ∷ []) (outs ++ command_record inner (shown_words s.table ws) ∷ []) s inner outer ws c
began_there es outs s inner outer ws c base settled opens lives is a =
    let command = command_record inner (shown_words s.table ws) in
    let began = begins_so_far es inner (shown_words s.table ws) in
    let comes = concludes_by s inner ws c is in
    record {
      begun = begun_silently es outs s inner outer ws opens lives a;
      base = still_state es (command ∷ []) s (tt, tt) base;
      comes = comes;
      script = script_begins es (command ∷ []) inner (entered inner) outer (tt, tt) refl refl refl refl a.0;
      settings = settings_begun es s s ws began refl (up_stays s inner (concludes_at_once c) ws comes) refl a.1;
      images = images_as es (es ++ puts command ∷ []) outs (command ∷ []) s s (ap (λ (m : CommandsSoFar). m.images) began) refl (drives_still (so_far es) (so_far (es ++ puts command ∷ [])) s s (ap (λ (m : CommandsSoFar). m.hooked) began) refl refl refl a.2.drives) (tt, tt) a.2;
      settled = still_sessions es (command ∷ []) s.live (tt, tt) (asks_nothing es s inner ws (concludes_at_once c) (begun_silently es outs s inner outer ws opens lives a) comes refl, tt) settled;
    }

-- a command that concludes at once
pub there_goes : (es : List Event) (outs : List Out) (s : State) (inner : Running) (outer : List Running) (ws : List (List ℕ)) (c : Conclusion) (put : List Out) (p : Standing) → AgreesState es s → SessionsAgree es s.live →
    made es ≡ s.opens → LivesSo es s → inner.begun < 4096 → doing s inner ws ≡ concludes_now c →
    ConclusionLeads s (entered inner) outer c put p → ScriptsAgree es outs (course.running s inner outer) → Goes es outs (command_record inner (shown_words s.table ws) ∷ conclusion_records c ++ put) p
there_goes es outs s inner outer ws c put p base settled opens lives few is leads a =
    let command = command_record inner (shown_words s.table ws) in
    goes_two es outs (command ∷ []) (conclusion_records c ++ put) p (begins_so es s inner ws a.1 (may_begin es inner outer a.0 few), tt)
    (leads_there (es ++ puts command ∷ []) (outs ++ command ∷ []) s inner outer ws c put p (began_there es outs s inner outer ws c base settled opens lives is a) leads)

-- what it boots, by the history
pub there_boots : (es : List Event) (outs : List Out) (s : State) (inner : Running) (outer : List Running) (ws : List (List ℕ)) (c : Conclusion) → AgreesState es s → SessionsAgree es s.live → made es ≡ s.opens → LivesSo es s →
    doing s inner ws ≡ concludes_now c → ScriptsAgree es outs (course.running s inner outer) →
    Concluding (es ++ puts (command_record inner (shown_words s.table ws)) ∷ []) (outs ++ command_record inner (shown_words s.table ws) ∷ []) s (entered inner) outer c
there_boots es outs s inner outer ws c base settled opens lives is a = concluding_there _ _ s inner outer ws c (began_there es outs s inner outer ws c base settled opens lives is a)
