-- The open of a command that fetches a file has ended, and its server has moved the file: the command goes on to its place, or fails.
use Rattle.std.proofs.Common.{◌≡◌, ℕ, ◌&&◌, Bool, true, false, cond, List, [], ◌++◌, Option, Some, None, Result, Ok, Err, refl, sym, ◌∙◌, ap, subst}
use Rattle.std.specs.Option.{option_and_then}
use Rattle.std.proofs.lemmas.Option.{none-some}
use Rattle.nb_terms.specs.declared.cause.Cause.{Cause}
use Rattle.nb_defs.specs.Causes.{is_ok_cause}
use Rattle.nb_defs.specs.Commands.{refused}
use Rattle.nb_defs.specs.Records.{Out}
use Rattle.nb_imagecmd.specs.declared.error.ImageFailure.TheVariants.{NoScheme}
use Rattle.nb_imagecmd.specs.Asking.{target_host}
use Rattle.nb_imagecmd.specs.Moving.{moved_file}
use Rattle.nb_imagecmd.specs.declared.asking.Asking.{Asking}
use Rattle.nb_imagecmd.specs.declared.error.ImageFailure.{ImageFailure}
use Rattle.nb_machine.specs.Conclusions.{fails}
use Rattle.nb_machine.specs.Effects.{next_effect, next_moved}
use Rattle.nb_machine.specs.Errands.{Wanted, Onward, fetches_now, echoes_now, hooks_now, looks_up_now}
use Rattle.nb_machine.specs.Kinds as kinds
use Rattle.nb_machine.specs.Running.{Running}
use Rattle.nb_machine.specs.Lives.{Live}
use Rattle.nb_machine.specs.Scripts.{place_moved_to, upshot_moved, upshot_records}
use Rattle.nb_machine.specs.States.{State}
use Rattle.nb_machine.specs.Courses as course
use Rattle.nb_machine.specs.Courses.{Standing, LeadsTo}
use Rattle.nb_laws.specs.Events.{Event}
use Rattle.nb_laws.specs.CommandsSoFar.{CommandsSoFar, so_far, shown_table, comes_by, comes_after, asking_moved, wanted_so_far, arrived_so_far, concluded_by_open, concluded_in, conclusion_so_far}
use Rattle.nb_laws.specs.Lists.{Opening, openings, hardware, made, came_ok, last_end}
use Rattle.nb_laws.specs.Moves.{MovedOpen, moved_open, moves}
use Rattle.nb_laws.specs.Wanting.{may_serve, is_open_at}
use Rattle.nb_laws.proofs.Moved.{has_asking, serves_so, then_moved, full_none}
use Rattle.nb_laws.proofs.Afterwards.{asked_keeps, asked_leaves, asking_hooks, IsNext, moved_next}
use Rattle.nb_laws.specs.Openings.{HasMoved}
use Rattle.nb_laws.specs.Frames.{by_move}
use Rattle.nb_laws.proofs.SoFar.{hooks_none}
use Rattle.nb_openlaws.specs.Standings.{live_opening}
use Rattle.nb_lawful.specs.Results.{HasEndedOpens}
use Rattle.nb_lawful.specs.ScriptAgreement.{FetchesWith, reaches_place, OpensNoDrive}
use Rattle.nb_lawful.proofs.AtOnce.{Goes, goes_nowhere}
use Rattle.nb_lawful.proofs.CommandEnds.{ended_so, HasEnded, ends_with}
use Rattle.nb_lawful.proofs.Concluded.{asks_its_target, no_file_where_moved, open_brings}
use Rattle.nb_lawful.proofs.Leading.{failed_so, Concluding, conclusion_goes}
use Rattle.nb_lawful.proofs.Disks.{no_disk_where}
use Rattle.nb_lawful.proofs.NoBlocks.{kept_disk, booted_disk, no_block_later}
use Rattle.nb_settings.specs.Tables.{TableLists}

-- the open, with the place to which its server has moved the file
abbrev moved_there : Live → List ℕ → MovedOpen
moved_there l place = record { opening = live_opening l; place = place }

-- it has ended well
moves_well : (l : Live) (cause : Cause) (place : List ℕ) → place_moved_to (ended_so l cause) ≡ Some place → (is_ok_cause cause ≡ true) × (kinds.moved l ≡ Some place)
moves_well l cause place is = by (is_ok_cause cause) refl is
  where
    by : (b : Bool) → is_ok_cause cause ≡ b → cond b (kinds.moved l) None ≡ Some place → (is_ok_cause cause ≡ true) × (kinds.moved l ≡ Some place)
    by true well is = (well, is)
    by false bad is = absurd (none-some place is)

-- the file is asked for there, if it may be
asked_there : (es : List Event) (moved : List MovedOpen) (l : Live) (wanted : Wanted) (place : List ℕ) → FetchesWith (hardware es) (so_far es) moved l wanted → asking_moved (Ok wanted.asking) (moved_there l place) ≡ moved_file wanted.asking place
asked_there es moved l wanted place f =
    let host = target_host wanted.asking.target in
    let served : may_serve host l.server ≡ true = ap (may_serve host) f.server_is ∙ serves_so l.number (so_far es) f.shown moved (live_opening l) wanted f.asked in
    ap (λ b. cond (b && is_open_at wanted.asking.target (live_opening l)) (moved_file wanted.asking place) (Err NoScheme)) served
    ∙ ap (λ b. cond b (moved_file wanted.asking place) (Err NoScheme)) (asks_its_target (hardware es) (so_far es) moved l wanted f)

-- what is known then
record IsMoved (es : List Event) (outs : List Out) (s : State) (inner : Running) (outer : List Running) (moved : List MovedOpen) (l : Live) (cause : Cause) (wanted : Wanted) (place : List ℕ) : Type 0 where
  ended_well : HasEnded es outs s inner outer moved l cause
  fetches : FetchesWith (hardware es) (so_far es) moved l wanted
  goes : place_moved_to (ended_so l cause) ≡ Some place

has_been_moved : (es : List Event) (outs : List Out) (s : State) (inner : Running) (outer : List Running) (moved : List MovedOpen) (l : Live) (cause : Cause) (wanted : Wanted) (place : List ℕ) → IsMoved es outs s inner outer moved l cause wanted place → HasMoved es
has_been_moved es outs s inner outer moved l cause wanted place x =
    let h = x.ended_well in
    record {
      earlier = moved;
      last = moved_there l place;
      moved_so = h.moved_so ∙ ap (λ z. moved ++ moved_open (live_opening l) z) x.goes;
      opened = ap (λ n. openings n es) h.number ∙ h.opening;
      ended = ap came_ok (ends_with es outs s inner outer moved l cause h) ∙ (moves_well l cause place x.goes).0;
    }

-- what the command comes to
comes_there : (es : List Event) (outs : List Out) (s : State) (inner : Running) (outer : List Running) (moved : List MovedOpen) (l : Live) (cause : Cause) (wanted : Wanted) (place : List ℕ) (x : IsMoved es outs s inner outer moved l cause wanted place) →
    comes_after (made es) (so_far es) x.fetches.shown (moves es) ≡ next_effect (next_moved s.opens s.table (moved_file wanted.asking place))
comes_there es outs s inner outer moved l cause wanted place x =
    let h = x.ended_well in
    let f = x.fetches in
    let m = so_far es in
    ap (comes_after (made es) m f.shown) (h.moved_so ∙ ap (λ z. moved ++ moved_open (live_opening l) z) x.goes)
    ∙ then_moved m f.shown moved wanted.asking (has_asking l.number m f.shown moved (live_opening l) wanted f.asked) (made es) (moved_there l place)
    ∙ ap (λ r. next_effect (next_moved (made es) m.table r)) (asked_there es moved l wanted place f)
    ∙ ap (λ n. next_effect (next_moved n m.table (moved_file wanted.asking place))) h.opens
    ∙ ap (λ t. next_effect (next_moved s.opens t (moved_file wanted.asking place))) h.settings.table

-- IT FAILS

nothing_arrives : (m : CommandsSoFar) (o : Opening) (w : Option Wanted) → option_and_then (arrived_so_far None m o) w ≡ None
nothing_arrives m o None = refl
nothing_arrives m o (Some wanted) = refl

concludes_none : (es : List Event) (outs : List Out) (s : State) (inner : Running) (outer : List Running) (moved : List MovedOpen) (l : Live) (cause : Cause) (wanted : Wanted) (place : List ℕ) → IsMoved es outs s inner outer moved l cause wanted place →
    conclusion_so_far (last_end es) es (so_far es) ≡ None
concludes_none es outs s inner outer moved l cause wanted place x =
    let h = x.ended_well in
    let m = so_far es in
    let well = moves_well l cause place x.goes in
    ap (λ b. cond b (concluded_by_open es m) (option_and_then (λ shown. concluded_in (comes_by (made es) m shown)) m.shown)) (ap came_ok h.last ∙ well.0)
    ∙ open_brings es outs s inner outer moved l cause wanted h x.fetches
    ∙ ap (λ z. option_and_then (arrived_so_far z m (live_opening l)) (wanted_so_far l.number m (moves es) (live_opening l))) (no_file_where_moved es outs s inner outer moved l cause place h well.1 l.kind refl)
    ∙ nothing_arrives m (live_opening l) (wanted_so_far l.number m (moves es) (live_opening l))

fails_there : (es : List Event) (outs : List Out) (s : State) (inner : Running) (outer : List Running) (moved : List MovedOpen) (l : Live) (cause : Cause) (wanted : Wanted) (place : List ℕ) (why : Cause) → IsMoved es outs s inner outer moved l cause wanted place →
    next_moved s.opens s.table (moved_file wanted.asking place) ≡ Err why → Concluding es outs s inner outer (fails why)
fails_there es outs s inner outer moved l cause wanted place why x is =
    let h = x.ended_well in
    let f = x.fetches in
    let m = so_far es in
    let asking = has_asking l.number m f.shown moved (live_opening l) wanted f.asked in
    record {
      base = h.base;
      script = h.script;
      settings = h.settings;
      images = h.images;
      none_left = h.none_left;
      concluded = failed_so why refl (concludes_none es outs s inner outer moved l cause wanted place x);
      keeps_table = ap (shown_table m.table) f.said ∙ asked_keeps m f.shown asking.first asking.words;
      leaves_table = asked_leaves es m f.shown asking.first f.said asking.words;
      holds = λ given gives. by_move (refused why) (has_been_moved es outs s inner outer moved l cause wanted place x) (f.shown, f.said, comes_there es outs s inner outer moved l cause wanted place x ∙ ap next_effect is) gives;
      ended = subst HasEndedOpens (sym h.its_end) (cause, refl);
      unhooked = λ given gives. hooks_none es given f.shown f.said (asking_hooks (comes_by 0 m f.shown) asking.first asking.words);
      no_disk = λ given gives left some disk. absurd (no_disk_where es f.shown f.said (asking_hooks (comes_by 0 m f.shown) asking.first asking.words) (kept_disk es disk));
      no_block = no_block_later es _ h.its_end (λ d bytes read. no_disk_where es f.shown f.said (asking_hooks (comes_by 0 m f.shown) asking.first asking.words) (booted_disk es d));
      settled = h.settled;
      fits = tt;
    }

-- IT GOES ON

-- no drive is opened where a file was moved
no_drive_there : (k : ℕ) (table : TableLists) (r : Result Asking ImageFailure) (next : Onward) → next_moved k table r ≡ Ok next → OpensNoDrive next
no_drive_there k table r (fetches_now wanted) is = tt
no_drive_there k table r (echoes_now server) is = tt
no_drive_there k table r (hooks_now hooking server) is = subst IsNext (ap next_effect is) (moved_next k table r)
no_drive_there k table r (looks_up_now errand name by) is = tt

pub moved_goes : (es : List Event) (outs : List Out) (s : State) (inner : Running) (outer : List Running) (moved : List MovedOpen) (l : Live) (cause : Cause) (wanted : Wanted) (place : List ℕ) (more : List Out) (p : Standing) →
    HasEnded es outs s inner outer moved l cause → FetchesWith (hardware es) (so_far es) moved l wanted → place_moved_to (ended_so l cause) ≡ Some place →
    LeadsTo s inner outer (upshot_moved (next_moved s.opens s.table (moved_file wanted.asking place))) more p → Goes es outs (upshot_records (upshot_moved (next_moved s.opens s.table (moved_file wanted.asking place))) ++ more) p
moved_goes es outs s inner outer moved l cause wanted place more p h f goes leads = by (next_moved s.opens s.table (moved_file wanted.asking place)) refl leads
  where
    x : IsMoved es outs s inner outer moved l cause wanted place
    x = record { ended_well = h; fetches = f; goes = goes }

    by : (r : Result Onward Cause) → next_moved s.opens s.table (moved_file wanted.asking place) ≡ r → LeadsTo s inner outer (upshot_moved r) more p → Goes es outs (upshot_records (upshot_moved r) ++ more) p
    by (Ok next) is (none, leads) =
        subst (λ z. Goes es outs z p) (sym none) (subst (λ z. Goes es outs [] z) (sym leads) (goes_nowhere es outs (course.reaching s inner outer next) (
          h.script,
          h.settings,
          h.images,
          h.none_left,
          reaches_place (has_been_moved es outs s inner outer moved l cause wanted place x) (f.shown, f.said, comes_there es outs s inner outer moved l cause wanted place x ∙ ap next_effect is)
              (λ full. full_none s.table (moved_file wanted.asking place) next (ap (λ n. next_moved n s.table (moved_file wanted.asking place)) (sym full ∙ h.opens) ∙ is)) (no_drive_there s.opens s.table (moved_file wanted.asking place) next is),
        )))
    by (Err why) is leads = conclusion_goes es outs s inner outer (fails why) more p (λ list lines e. absurd (cc e)) (fails_there es outs s inner outer moved l cause wanted place why x is) leads
