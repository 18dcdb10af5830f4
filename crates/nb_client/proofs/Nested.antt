-- A script that runs within another or in its place, and one that is left, as the machine says where a conclusion leads.
use Rattle.std.proofs.Common.{◌≡◌, ℕ, ◌+◌, ◌<◌, ◌≤◌, Bool, true, false, List, [], ◌∷◌, ◌++◌, length, map, Some, refl, sym, ◌∙◌, ap, subst, arith, append-nil}
use Rattle.std.specs.List.{AllByRecursion}
use Rattle.std.proofs.lemmas.List.Sums.{sum_by-cons}
use Rattle.nb_terms.specs.declared.cause.Cause.{Cause}
use Rattle.nb_defs.specs.Causes.{ok}
use Rattle.nb_defs.specs.Records.{Out, enter, leave, out_texts, result, text}
use Rattle.nb_defs.specs.ScriptLines.{Line, Reading, script, no_script, script_too_long, line_too_long, script_reading}
use Rattle.nb_record.specs.Logged.{Logged, Puts}
use Rattle.nb_image.specs.Images.{ImageList}
use Rattle.nb_imagecmd.specs.declared.outcome.ScriptImage.{ScriptImage}
use Rattle.nb_imagecmd.specs.declared.stat.Lines.{Lines}
use Rattle.nb_scripts.specs.Records.{replace}
use Rattle.nb_scripts.specs.Texts.{IsRefusal, IsTextRead}
use Rattle.nb_scripts.specs.declared.entry.TextRead.{TextRead}
use Rattle.nb_scripts.specs.declared.entry.TextRead.TheVariants as read
use Rattle.nb_machine.specs.Conclusions.{conclusion_records}
use Rattle.nb_machine.specs.Courses.{ConclusionLeads, Standing, left, running, stands}
use Rattle.nb_machine.specs.FirstText.{lines_of, text_refusal}
use Rattle.nb_machine.specs.Lives.{Live}
use Rattle.nb_machine.specs.Running.{Running, counting_on, script_in_place, script_within, with_result}
use Rattle.nb_runner.proofs.Puts.{Puts-outs}
use Rattle.nb_runner.specs.ImageDeeds.{conclusion_of}
use Rattle.nb_runner.specs.Steps.{moves_between, moves_in, moves_left, moves_outside}
use Rattle.nb_runner.specs.World.{world_within}
use Rattle.nb_runner.specs.declared.images.Conclusion.{Conclusion}
use Rattle.nb_runner.specs.declared.images.Conclusion.TheVariants as conclusion
use Rattle.nb_runner.specs.declared.world.World.{World}
use Rattle.nb_traced.specs.Outputs.{apart}
use Rattle.nb_traced.specs.Pieces.{IsApart}
use Rattle.nb_network.specs.Many.{AreOpensOf}
use Rattle.nb_client.specs.Leading.{LeadsOnBy, RunsBy, RunsTextInPlace, RunsTextWithin}
use Rattle.nb_client.specs.Progressing.{IsAtWork, most_moves}
use Rattle.nb_client.specs.Snapshots.{Snapshot, StandsForProgress, at_returning, at_running, snapshot, state_of_world}
use Rattle.nb_client.specs.Soundness.{IsSound, snapshot_at}
use Rattle.nb_client.specs.Turning.{LeftTo}
use Rattle.nb_client.specs.declared.site.Site.{Site}
use Rattle.nb_client.specs.declared.stage.Stage.{Stage}
use Rattle.nb_client.specs.declared.stage.Stage.TheVariants as stage
use Rattle.nb_client.proofs.Moves.{IsQuiet, left_nearer, left_quiet, left_stands, none_waits, quiet_sound, quiet_under_way, within_sound}
use Rattle.nb_client.proofs.OpenSites.{same_snapshot}
use Rattle.nb_client.proofs.Traces.{apart_append, plain_apart}

-- a text that is refused has the cause, and one that runs has its lines
refused_so : (r : Reading) (cause : Cause) → IsRefusal r cause → text_refusal r ≡ Some cause
refused_so (script code) cause h = absurd h
refused_so no_script cause h = ap (λ c. Some c) (sym h)
refused_so script_too_long cause h = ap (λ c. Some c) (sym h)
refused_so line_too_long cause h = ap (λ c. Some c) (sym h)

-- WHAT QUIET RECORDS LEAD TO

-- what a conclusion that puts records which concern no open has to say
record IsQuietly (before : Site) (inner : Running) (c : Conclusion) (w' : World) (st : Stage) (rest : List Out) : Type 0 where
  more : List Out
  to : List Live → Standing
  quiet : IsQuiet st
  same : w'.opens ≡ before.world.opens
  apart_all : AllByRecursion IsApart rest
  is_put : rest ≡ conclusion_records (conclusion_of c before.world.state.images) ++ more
  leads : (live : List Live) → ConclusionLeads (state_of_world before.world live) inner before.world.outer (conclusion_of c before.world.state.images) more (to live)
  stood : (live : List Live) → AreOpensOf before.opens.graph before.opens.list live → StandsForProgress (snapshot before.used w' before.opens st) (stands before.used (to live))
  sound : IsSound before.used w' before.opens st
  nearer : IsAtWork st → most_moves st (snapshot before.used w' before.opens st) < moves_in inner + moves_between + moves_outside before.world.outer

quiet_leads : {old new : Logged} (before after : Site) (inner : Running) (c : Conclusion) (w' : World) (st : Stage) (rest : List Out) → IsQuietly before inner c w' st rest → after.used ≡ before.used → after.opens ≡ before.opens → after.world ≡ w' →
    Puts old new (out_texts rest) → LeadsOnBy inner c before (snapshot_at after st) old new
quiet_leads {old} {new} before after inner c w' st rest q used opens world puts =
    subst (λ (x : Snapshot). LeadsOnBy inner c before x old new) (sym (same_snapshot st st used world opens refl)) (record {
      rest = rest;
      puts = puts;
      comes = λ live are. record {
        more = q.more;
        to = q.to live;
        is_put = plain_apart rest q.apart_all ∙ q.is_put;
        leads = q.leads live;
        stands_so = q.stood live are;
      };
      traces = λ outs h so_far traced fits. record {
        holdings = h;
        traced = apart outs rest h so_far traced q.apart_all;
        fits = record {
          state = fits.state;
          living = fits.living;
          waiting = fits.waiting ∙ sym (none_waits st q.quiet);
          numbered = subst (λ k. h.begun ≤ k) (sym q.same) fits.numbered;
        };
      };
      sound = q.sound;
      under_way = quiet_under_way st q.quiet;
      nearer = q.nearer;
    })

-- lines that are printed concern no open
apart_texts : (lines : List (List ℕ)) → AllByRecursion IsApart (map text lines)
apart_texts [] = tt
apart_texts (line ∷ lines) = (tt, apart_texts lines)

-- THE SCRIPT GOES ON

more_moves : (a b : ℕ) → a + b < a + moves_between + b
more_moves a b = omega arith

module _ (before : Site) (s : Running) (sound : IsSound before.used before.world before.opens (stage.Running s)) where
  abbrev w : World
  w = before.world

  abbrev images : ImageList
  images = before.world.state.images

  -- with a result
  goes_on : (c : Conclusion) (cause : Cause) (front : List Out) → AllByRecursion IsApart front → conclusion_records (conclusion_of c images) ≡ front ++ (result cause ∷ []) →
      ((live : List Live) → ConclusionLeads (state_of_world w live) s w.outer (conclusion_of c images) [] (running (state_of_world w live) (with_result s cause) w.outer)) →
      IsQuietly before s c w (stage.Running (with_result s cause)) (front ++ (result cause ∷ []))
  goes_on c cause front all is leads = record {
    more = [];
    to = λ live. running (state_of_world w live) (with_result s cause) w.outer;
    quiet = tt;
    same = refl;
    apart_all = apart_append front (result cause ∷ []) all (tt, tt);
    is_put = sym (append-nil (front ++ (result cause ∷ []))) ∙ ap (λ x. x ++ []) (sym is);
    leads = leads;
    stood = λ live are. at_running before.used w before.opens (with_result s cause) live are;
    sound = quiet_sound (stage.Running (with_result s cause)) tt sound;
    nearer = λ _. more_moves (moves_in s) (moves_outside w.outer);
  }

  pub keeps_leads : {old new : Logged} (after : Site) → after.used ≡ before.used → after.opens ≡ before.opens → after.world ≡ w → Puts old new (out_texts (result ok ∷ [])) →
      LeadsOnBy s conclusion.Keeps before (snapshot_at after (stage.Running (with_result s ok))) old new
  keeps_leads after used opens world puts = quiet_leads before after s conclusion.Keeps w _ (result ok ∷ []) (goes_on conclusion.Keeps ok [] tt refl (λ live. (refl, refl))) used opens world puts

  pub tells_leads : {old new : Logged} (lines : Lines) (after : Site) → after.used ≡ before.used → after.opens ≡ before.opens → after.world ≡ w → Puts old new (out_texts (map text lines ++ (result ok ∷ []))) →
      LeadsOnBy s (conclusion.Tells lines) before (snapshot_at after (stage.Running (with_result s ok))) old new
  tells_leads lines after used opens world puts = quiet_leads before after s (conclusion.Tells lines) w _ (map text lines ++ (result ok ∷ [])) (goes_on (conclusion.Tells lines) ok (map text lines) (apart_texts lines) refl (λ live. (refl, refl))) used opens world puts

  pub fails_leads : {old new : Logged} (cause : Cause) (after : Site) → after.used ≡ before.used → after.opens ≡ before.opens → after.world ≡ w → Puts old new (out_texts (result cause ∷ [])) →
      LeadsOnBy s (conclusion.Fails cause) before (snapshot_at after (stage.Running (with_result s cause))) old new
  fails_leads cause after used opens world puts = quiet_leads before after s (conclusion.Fails cause) w _ (result cause ∷ []) (goes_on (conclusion.Fails cause) cause [] tt refl (λ live. (refl, refl))) used opens world puts

  -- ANOTHER SCRIPT RUNS

  -- where the text runs
  enters_within : (image : ScriptImage) (code : List Line) → script_reading image.text ≡ script code → length code ≤ 1048576 →
      IsQuietly before s (conclusion.Runs image false) (world_within w (s ∷ w.outer)) (stage.Running (script_within s image.uri code)) (enter (s.depth + 1) ∷ [])
  enters_within image code reads short = record {
    more = enter (s.depth + 1) ∷ [];
    to = λ live. running (state_of_world w live) (script_within s image.uri code) (s ∷ w.outer);
    quiet = tt;
    same = refl;
    apart_all = (tt, tt);
    is_put = refl;
    leads = λ live. (rw reads refl, rw reads refl);
    stood = λ live are. at_running before.used (world_within w (s ∷ w.outer)) before.opens (script_within s image.uri code) live are;
    sound = quiet_sound (stage.Running (script_within s image.uri code)) tt (within_sound (s ∷ w.outer) sound);
    nearer = λ _. let sum = sum_by-cons (λ (x : Running). moves_left x + 2) s w.outer in omega (arith, short, sum);
  }

  -- where it doesn't
  refuses_within : (image : ScriptImage) (cause : Cause) → IsRefusal (script_reading image.text) cause →
      IsQuietly before s (conclusion.Runs image false) w (stage.Returning s cause) (enter (s.depth + 1) ∷ leave (s.depth + 1) cause ∷ [])
  refuses_within image cause refusal =
      let why = refused_so (script_reading image.text) cause refusal in
      record {
        more = enter (s.depth + 1) ∷ leave (s.depth + 1) cause ∷ [];
        to = λ live. left (state_of_world w live) (s ∷ w.outer) cause;
        quiet = tt;
        same = refl;
        apart_all = (tt, (tt, tt));
        is_put = refl;
        leads = λ live. (rw why refl, rw why refl);
        stood = λ live are. at_returning before.used w before.opens s cause live are;
        sound = quiet_sound (stage.Returning s cause) tt sound;
        nearer = λ _. omega arith;
      }

  enters_in_place : (image : ScriptImage) (code : List Line) → script_reading image.text ≡ script code → length code ≤ 1048576 →
      IsQuietly before s (conclusion.Runs image true) w (stage.Running (script_in_place s image.uri code)) (result ok ∷ replace s.depth ∷ [])
  enters_in_place image code reads short = record {
    more = replace s.depth ∷ [];
    to = λ live. running (state_of_world w live) (script_in_place s image.uri code) w.outer;
    quiet = tt;
    same = refl;
    apart_all = (tt, (tt, tt));
    is_put = refl;
    leads = λ live. (rw reads refl, rw reads refl);
    stood = λ live are. at_running before.used w before.opens (script_in_place s image.uri code) live are;
    sound = quiet_sound (stage.Running (script_in_place s image.uri code)) tt sound;
    nearer = λ _. omega (arith, short);
  }

  refuses_in_place : (image : ScriptImage) (cause : Cause) (now : List Running) (st : Stage) → IsRefusal (script_reading image.text) cause → LeftTo s.begun cause w.outer st now →
      IsQuietly before s (conclusion.Runs image true) (world_within w now) st (result ok ∷ replace s.depth ∷ leave s.depth cause ∷ [])
  refuses_in_place image cause now st refusal to =
      let why = refused_so (script_reading image.text) cause refusal in
      let new = script_in_place s image.uri (lines_of (script_reading image.text)) in
      record {
        more = replace s.depth ∷ leave s.depth cause ∷ [];
        to = λ live. left (state_of_world w live) (counting_on new w.outer) cause;
        quiet = left_quiet s.begun cause w.outer now st to;
        same = refl;
        apart_all = (tt, (tt, (tt, tt)));
        is_put = refl;
        leads = λ live. (rw why refl, rw why refl);
        stood = λ live are. left_stands before.used w now before.opens new cause st live w.outer are to;
        sound = quiet_sound st (left_quiet s.begun cause w.outer now st to) (within_sound now sound);
        nearer = λ at_work. let less = left_nearer before.used w before.opens s cause w.outer now st to at_work in omega (arith, less);
      }

  -- a script of the list runs
  pub runs_leads : {old new : Logged} (image : ScriptImage) (replaces : Bool) (after : Site) (st : Stage) → RunsBy s image replaces before after st old new → LeadsOnBy s (conclusion.Runs image replaces) before (snapshot_at after st) old new
  runs_leads {old} {new} image false after st r = by r.text r.is_read r.runs
    where
      by : (t : TextRead) → IsTextRead image.text t → RunsTextWithin s t image.uri before after st old new → LeadsOnBy s (conclusion.Runs image false) before (snapshot_at after st) old new
      by (read.Runs code) reads runs =
          rw runs.0 (quiet_leads before after s (conclusion.Runs image false) (world_within w (s ∷ w.outer)) (stage.Running (script_within s image.uri code)) (enter (s.depth + 1) ∷ [])
          (enters_within image code reads runs.1) runs.2.used runs.2.opens runs.2.world runs.3)
      by (read.Refused cause) reads runs =
          rw (runs.0, runs.1) (quiet_leads before before s (conclusion.Runs image false) w (stage.Returning s cause) (enter (s.depth + 1) ∷ leave (s.depth + 1) cause ∷ [])
          (refuses_within image cause reads) refl refl refl runs.2)
  runs_leads {old} {new} image true after st r = by r.text r.is_read r.runs
    where
      by : (t : TextRead) → IsTextRead image.text t → RunsTextInPlace s t image.uri before after st r.between new → LeadsOnBy s (conclusion.Runs image true) before (snapshot_at after st) old new
      by (read.Runs code) reads runs =
          rw (runs.0, runs.2) (quiet_leads before before s (conclusion.Runs image true) w (stage.Running (script_in_place s image.uri code)) (result ok ∷ replace s.depth ∷ [])
          (enters_in_place image code reads runs.1) refl refl refl (Puts-outs (result ok ∷ []) (replace s.depth ∷ []) r.ends runs.3))
      by (read.Refused cause) reads runs =
          quiet_leads before after s (conclusion.Runs image true) (world_within w after.world.outer) st (result ok ∷ replace s.depth ∷ leave s.depth cause ∷ [])
          (refuses_in_place image cause after.world.outer st reads runs.0.to) runs.0.used runs.0.opens runs.0.world (Puts-outs (result ok ∷ []) (replace s.depth ∷ leave s.depth cause ∷ []) r.ends runs.1)
