-- What a script's next line does where no open is concerned.
use Rattle.std.proofs.Common.{◌≡◌, ℕ, ◌+◌, ◌*◌, ◌<◌, ◌≤◌, Bool, true, false, List, [], ◌∷◌, ◌++◌, length, Option, Some, None, refl, sym, ◌∙◌, ap, subst, arith, append-nil}
use Rattle.std.proofs.lemmas.List.Sums.{sum_by-cons}
use Rattle.std.specs.List.{AllByRecursion}
use Rattle.nb_terms.specs.declared.cause.Cause.{Cause}
use Rattle.nb_defs.specs.Causes.{ok}
use Rattle.nb_defs.specs.Commands.{CommandOutcome, refused}
use Rattle.nb_defs.specs.Records.{Out, leave, out_texts, result}
use Rattle.nb_defs.specs.ScriptLines.{label_place}
use Rattle.nb_record.specs.Logged.{Logged, Puts}
use Rattle.nb_traced.specs.Plain.{without_graph}
use Rattle.nb_runner.specs.declared.world.World.{World}
use Rattle.nb_runner.specs.NextCommand.{IsStepFull, IsScriptLeft, HasPassed}
use Rattle.nb_runner.specs.Steps.{Does, GoesToLabel, moves_in, moves_left, moves_outside}
use Rattle.nb_runner.specs.World.{world_with, world_within}
use Rattle.nb_runner.proofs.Measures.{further_nearer, jump_nearer}
use Rattle.nb_runner.proofs.Puts.{Puts-nothing}
use Rattle.nb_machine.specs.CommandRecords.{command_record, command_records, prints}
use Rattle.nb_machine.specs.Courses.{Progress, stands, running, waiting, yielded, left, Proceeds, passes, is_left, hands_back, yields, does, leaves, jumps, finds_no_label, falls_asleep}
use Rattle.nb_machine.specs.Effects.{Effect, ShownWords, effect_in, table_after, up_after, goes, shown_words, sleeps}
use Rattle.nb_machine.specs.Lives.{Live}
use Rattle.nb_machine.specs.Running.{Running, PassesOn, here, further_on, beginning, coming, counting_on, entered, further, behind_line, no_label, with_result}
use Rattle.nb_machine.specs.Scripts.{doing, doing_by}
use Rattle.nb_traced.specs.Holdings.{Holdings}
use Rattle.nb_traced.specs.Outputs.{Arrived, Traced}
use Rattle.nb_traced.specs.Pieces.{IsApart}
use Rattle.nb_network.specs.Many.{AreOpensOf, Many}
use Rattle.nb_network.proofs.Sound.{sound_over}
use Rattle.nb_settings.specs.Tables.{TableLists}
use Rattle.nb_client.specs.Progressing.{IsAtWork, ProceedsTo, most_moves, no_further, one_further}
use Rattle.nb_client.specs.Snapshots.{StandsForProgress, at_running, at_waiting, at_yielded, at_left, at_returning, pieces_waiting, snapshot, state_of_world, waiting_for}
use Rattle.nb_client.specs.Soundness.{IsSound, WasStarted, snapshot_at}
use Rattle.nb_client.specs.Turning.{ComesToEnd, GoesOnBy, IsSettledAt, LeftTo, MovesOn, found_by_script, world_left_by}
use Rattle.nb_client.specs.declared.pending.Expected.TheVariants.{Open, Moment}
use Rattle.nb_client.specs.declared.site.Site.{Site}
use Rattle.nb_client.specs.declared.stage.Stage.{Stage}
use Rattle.nb_client.specs.declared.stage.Stage.TheVariants as stage
use Rattle.nb_client.proofs.Standing.{stands_at}
use Rattle.nb_client.proofs.Traces.{apart_append, apart_ends, plain_command, trace_apart, trace_command}

-- no open is awaited, and nothing waits
abbrev pub IsQuiet : Stage → Type 0
IsQuiet (stage.Running s) = Unit {0}
IsQuiet (stage.Yielded s) = Unit {0}
IsQuiet (stage.Returning s cause) = Unit {0}
IsQuiet (stage.Left cause) = Unit {0}
IsQuiet (stage.Waiting s (Moment time)) = Unit {0}
IsQuiet (stage.Waiting s (Open p)) = ⊥
IsQuiet stage.Ready = ⊥
IsQuiet (stage.Reaching s k) = ⊥
IsQuiet (stage.HandingOff h) = ⊥
IsQuiet stage.HandedOff = ⊥
IsQuiet stage.Stopped = ⊥

pub none_waits : (st : Stage) → IsQuiet st → pieces_waiting st ≡ []
none_waits (stage.Running s) q = refl
none_waits (stage.Yielded s) q = refl
none_waits (stage.Returning s cause) q = refl
none_waits (stage.Left cause) q = refl
none_waits (stage.Waiting s (Moment time)) q = refl
none_waits (stage.Waiting s (Open p)) q = absurd q
none_waits stage.Ready q = absurd q
none_waits (stage.Reaching s k) q = absurd q
none_waits (stage.HandingOff h) q = absurd q
none_waits stage.HandedOff q = absurd q
none_waits stage.Stopped q = absurd q

pub quiet_under_way : (st : Stage) → IsQuiet st → WasStarted st
quiet_under_way (stage.Running s) q = tt
quiet_under_way (stage.Yielded s) q = tt
quiet_under_way (stage.Returning s cause) q = tt
quiet_under_way (stage.Left cause) q = tt
quiet_under_way (stage.Waiting s (Moment time)) q = tt
quiet_under_way (stage.Waiting s (Open p)) q = absurd q
quiet_under_way stage.Ready q = absurd q
quiet_under_way (stage.Reaching s k) q = absurd q
quiet_under_way (stage.HandingOff h) q = absurd q
quiet_under_way stage.HandedOff q = absurd q
quiet_under_way stage.Stopped q = absurd q

-- the client is as sound as it was where a script ran
pub quiet_sound : {n : ℕ} {w : World} {m : Many} {s : Running} (st : Stage) → IsQuiet st → IsSound n w m (stage.Running s) → IsSound n w m st
quiet_sound (stage.Running s) q x = record { time = x.time; opens = x.opens; serials = x.serials; tied = x.tied; well = tt; short = x.short; named = x.named; linked = x.linked; hooked = x.hooked }
quiet_sound (stage.Yielded s) q x = record { time = x.time; opens = x.opens; serials = x.serials; tied = x.tied; well = tt; short = x.short; named = x.named; linked = x.linked; hooked = x.hooked }
quiet_sound (stage.Returning s cause) q x = record { time = x.time; opens = x.opens; serials = x.serials; tied = x.tied; well = tt; short = x.short; named = x.named; linked = x.linked; hooked = x.hooked }
quiet_sound (stage.Left cause) q x = record { time = x.time; opens = x.opens; serials = x.serials; tied = x.tied; well = tt; short = x.short; named = x.named; linked = x.linked; hooked = x.hooked }
quiet_sound (stage.Waiting s (Moment time)) q x = record { time = x.time; opens = x.opens; serials = x.serials; tied = x.tied; well = tt; short = x.short; named = x.named; linked = x.linked; hooked = x.hooked }
quiet_sound (stage.Waiting s (Open p)) q x = absurd q
quiet_sound stage.Ready q x = absurd q
quiet_sound (stage.Reaching s k) q x = absurd q
quiet_sound (stage.HandingOff h) q x = absurd q
quiet_sound stage.HandedOff q x = absurd q
quiet_sound stage.Stopped q x = absurd q

-- the machine's progress from where a script runs, whatever opens live
abbrev pub LeadsQuietly : ℕ → World → World → Many → Running → Stage → List Out → Type 0
LeadsQuietly n w w' m s st added =
    (live : List Live) → AreOpensOf m.graph m.list live →
    (q : Progress) × ProceedsTo (stands n (running (state_of_world w live) s w.outer)) added q × StandsForProgress (snapshot n w' m st) q

abbrev pub TracesQuietly : List Out → Type 0
TracesQuietly added = (outs : List Out) (h : Holdings) (so_far : List Arrived) → Traced outs h so_far → h.waits ≡ [] → Traced (outs ++ added) h (so_far ++ [])

-- a script that runs goes on by records that concern no open
pub quiet_goes : {old new : Logged} (n : ℕ) (w w' : World) (m : Many) (s : Running) (st : Stage) (added : List Out) → IsQuiet st → w'.opens ≡ w.opens → IsSound n w' m (stage.Running s) →
    without_graph added ≡ added → Puts old new (out_texts added) → LeadsQuietly n w w' m s st added → TracesQuietly added → GoesOnBy [] (snapshot n w m (stage.Running s)) (snapshot n w' m st) old new
quiet_goes {old} {new} n w w' m s st added quiet same sound plain puts leads traces = record {
  advances = λ p is_for.
      let at = stands_at (snapshot n w m (stage.Running s)) p is_for in
      let led = leads at.0 at.1 in
      record {
        added = added;
        came = [];
        puts = puts;
        leads = record {
          progress = led.0;
          steps = subst (λ x. ProceedsTo x (without_graph added) led.0) (sym at.2) (subst (λ x. ProceedsTo (stands n (running (state_of_world w at.0) s w.outer)) x led.0) (sym plain) led.1);
          stands = led.2;
        };
        begins = refl;
        traces = λ outs h so_far t fits. record {
          holdings = h;
          traced = traces outs h so_far t fits.waiting;
          fits = record {
            state = fits.state;
            living = fits.living;
            waiting = fits.waiting ∙ sym (none_waits st quiet);
            numbered = subst (λ k. h.begun ≤ k) (sym same) fits.numbered;
          };
        };
      };
  sound = quiet_sound st quiet sound;
  under_way = quiet_under_way st quiet;
}

-- one move
pub one_move : (p q : Progress) (added : List Out) → Proceeds p added q → ProceedsTo p added q
one_move p q added v = subst (λ x. ProceedsTo p x q) (append-nil added) (one_further p q q added [] v (no_further q))

passes_to : (n : ℕ) (w : World) (live : List Live) (s t : Running) (q : Progress) (more : List Out) → PassesOn s t → ProceedsTo (stands n (running (state_of_world w live) t w.outer)) more q →
    ProceedsTo (stands n (running (state_of_world w live) s w.outer)) more q
passes_to n w live s t q more (here _) v = v
passes_to n w live s t q more (further_on _ mid _ comes p) v =
    one_further (stands n (running (state_of_world w live) s w.outer)) (stands n (running (state_of_world w live) mid w.outer)) q [] more
    (passes n (state_of_world w live) s mid w.outer comes) (passes_to n w live mid t q more p v)

-- lines or commands are passed
pub pass_goes : {old : Logged} (n : ℕ) (w : World) (m : Many) (s t : Running) → IsSound n w m (stage.Running s) → HasPassed s t → MovesOn (snapshot n w m (stage.Running s)) (snapshot n w m (stage.Running t)) old old
pass_goes n w m s t sound passed = record {
  goes = quiet_goes n w w m s (stage.Running t) [] tt refl sound refl Puts-nothing
      (λ live are. (stands n (running (state_of_world w live) t w.outer), passes_to n w live s t _ [] passed.passes (no_further _), at_running n w m t live are))
      (λ outs h so_far t none. trace_apart outs [] h so_far t tt);
  nearer = λ _. omega (arith, passed.nearer);
}

-- WHERE A SCRIPT IS LEFT

-- the scripts outside are others
pub within_sound : {n : ℕ} {w : World} {m : Many} {s : Running} (outer : List Running) → IsSound n w m (stage.Running s) → IsSound n (world_within w outer) m (stage.Running s)
within_sound outer x = record { time = x.time; opens = x.opens; serials = x.serials; tied = x.tied; well = tt; short = x.short; named = x.named; linked = record { address = x.linked.address; up = x.linked.up }; hooked = x.hooked }

-- the settings are others, and the device follows them
pub settings_sound : {n : ℕ} {w : World} {m : Many} {s : Running} (table : TableLists) (up : Bool) → IsSound n w m (stage.Running s) → IsSound n (world_with w table up) m (stage.Running s)
settings_sound table up x = record { time = x.time; opens = sound_over _ _ _ _ _ refl x.opens; serials = x.serials; tied = x.tied; well = tt; short = x.short; named = x.named; linked = record { address = refl; up = refl }; hooked = x.hooked }

pub left_stands : (n : ℕ) (w : World) (now : List Running) (m : Many) (gone : Running) (cause : Cause) (st : Stage) (live : List Live) (outer : List Running) → AreOpensOf m.graph m.list live → LeftTo gone.begun cause outer st now →
    StandsForProgress (snapshot n (world_within w now) m st) (stands n (left (state_of_world w live) (counting_on gone outer) cause))
left_stands n w now m gone cause st live [] are h =
    subst (λ (x : Stage). StandsForProgress (snapshot n (world_within w now) m x) (stands n (left (state_of_world w live) [] cause))) (sym h.0) (at_left n (world_within w now) m cause live are)
left_stands n w now m gone cause st live (t ∷ others) are h =
    let u : Running = record t { begun = gone.begun } in
    subst (λ (x : Stage). StandsForProgress (snapshot n (world_within w now) m x) (stands n (left (state_of_world w live) (u ∷ others) cause))) (sym h.0)
    (subst (λ (o : List Running). StandsForProgress (snapshot n (world_within w now) m (stage.Returning u cause)) (stands n (left (state_of_world w live) (u ∷ o) cause))) h.1 (at_returning n (world_within w now) m u cause live are))

pub left_quiet : (commands : ℕ) (cause : Cause) (outer now : List Running) (st : Stage) → LeftTo commands cause outer st now → IsQuiet st
left_quiet commands cause [] now st h = subst IsQuiet (sym h.0) tt
left_quiet commands cause (t ∷ others) now st h = subst IsQuiet (sym h.0) tt

-- which brings the end of the step nearer
pub left_nearer : (n : ℕ) (w : World) (m : Many) (s : Running) (cause : Cause) (outer now : List Running) (st : Stage) → LeftTo s.begun cause outer st now → IsAtWork st →
    most_moves st (snapshot n (world_within w now) m st) < moves_in s + moves_outside outer
left_nearer n w m s cause [] now st h at_work = absurd (subst IsAtWork h.0 at_work)
left_nearer n w m s cause (t ∷ others) now st h at_work =
    let u : Running = record t { begun = s.begun } in
    let both = sum_by-cons (λ (x : Running). moves_left x + 2) t others in
    rw (h.0, h.1) (omega (arith, both))

-- the script is left, after what it passes first
pub left_goes : {old new : Logged} (n : ℕ) (w : World) (now : List Running) (m : Many) (s : Running) (cause : Cause) (st : Stage) → IsSound n w m (stage.Running s) → IsScriptLeft s cause → LeftTo s.begun cause w.outer st now → Puts old new (out_texts (leave s.depth cause ∷ [])) →
    MovesOn (snapshot n w m (stage.Running s)) (snapshot n (world_within w now) m st) old new
left_goes {old} {new} n w now m s cause st sound is to puts =
    let to_last : LeftTo is.last.begun cause w.outer st now = subst (λ k. LeftTo k cause w.outer st now) (sym is.same_begun) to in
    record {
      goes = quiet_goes n w (world_within w now) m s st (leave is.last.depth cause ∷ []) (left_quiet s.begun cause w.outer now st to) refl (within_sound now sound) refl (subst (λ d. Puts old new (out_texts (leave d cause ∷ []))) (sym is.same_depth) puts)
          (λ live are. (
            stands n (left (state_of_world w live) (counting_on is.last w.outer) cause),
            passes_to n w live s is.last _ (leave is.last.depth cause ∷ []) is.passes (one_move _ _ (leave is.last.depth cause ∷ []) (is_left n (state_of_world w live) is.last w.outer cause is.comes)),
            left_stands n w now m is.last cause st live w.outer are to_last,
          ))
          (λ outs h so_far t none. trace_apart outs (leave is.last.depth cause ∷ []) h so_far t (tt, tt));
      nearer = left_nearer n w m s cause w.outer now st to;
    }

-- the command that ran a script has its cause, and the script outside goes on
pub back_goes : {old new : Logged} (n : ℕ) (w : World) (m : Many) (s : Running) (cause : Cause) → IsSound n w m (stage.Returning s cause) → Puts old new (out_texts (result cause ∷ [])) →
    MovesOn (snapshot n w m (stage.Returning s cause)) (snapshot n w m (stage.Running (with_result s cause))) old new
back_goes {old} {new} n w m s cause sound puts = record {
  goes = record {
    advances = λ p is_for.
        let at = stands_at (snapshot n w m (stage.Returning s cause)) p is_for in
        let to = stands n (running (state_of_world w at.0) (with_result s cause) w.outer) in
        record {
          added = result cause ∷ [];
          came = [];
          puts = puts;
          leads = record {
            progress = to;
            steps = subst (λ x. ProceedsTo x (result cause ∷ []) to) (sym at.2) (one_move _ to (result cause ∷ []) (hands_back n (state_of_world w at.0) s w.outer cause));
            stands = at_running n w m (with_result s cause) at.0 at.1;
          };
          begins = refl;
          traces = λ outs hold so_far t fits. record {
            holdings = hold;
            traced = trace_apart outs (result cause ∷ []) hold so_far t (tt, tt);
            fits = record { state = fits.state; living = fits.living; waiting = fits.waiting; numbered = fits.numbered };
          };
        };
    sound = record { time = sound.time; opens = sound.opens; serials = sound.serials; tied = sound.tied; well = tt; short = sound.short; named = sound.named; linked = sound.linked; hooked = sound.hooked };
    under_way = tt;
  };
  nearer = λ _. omega arith;
}

-- its next command has to wait
pub yield_goes : {old : Logged} (n : ℕ) (w : World) (m : Many) (s : Running) → IsSound n w m (stage.Running s) → IsStepFull s → MovesOn (snapshot n w m (stage.Running s)) (snapshot n w m (stage.Yielded s)) old old
yield_goes n w m s sound full = record {
  goes = quiet_goes n w w m s (stage.Yielded s) [] tt refl sound refl Puts-nothing
      (λ live are. (stands n (yielded (state_of_world w live) s w.outer), one_move _ _ [] (yields n (state_of_world w live) s w.outer full.name full.args full.comes full.full), at_yielded n w m s live are))
      (λ outs h so_far t none. trace_apart outs [] h so_far t tt);
  nearer = λ x. absurd x;
}

-- a command is over at once, in the world that it leaves
pub goes_further : {old new : Logged} (n : ℕ) (w w' : World) (m : Many) (s : Running) (shown : ShownWords) (o : CommandOutcome) → IsSound n w' m (stage.Running s) → s.begun < 4096 →
    ComesToEnd s w shown o w' → o.leaves ≡ false → Puts old new (out_texts (command_records s shown o)) → MovesOn (snapshot n w m (stage.Running s)) (snapshot n w' m (stage.Running (further s o.cause))) old new
goes_further {old} {new} n w w' m s shown o sound early e stays puts =
    let ws = e.name ∷ e.args in
    let rest = prints o.prints ++ (result o.cause ∷ []) in
    let t = further s o.cause in
    let led : LeadsQuietly n w w' m s (stage.Running t) (command_record s shown ∷ rest) =
    λ live are. (
      stands n (running (state_of_world w' live) t w'.outer),
      subst (λ v. ProceedsTo (stands n (running (state_of_world w live) s w.outer)) (command_record s shown ∷ rest) (stands n (running (state_of_world v live) t v.outer))) e.leaves
          (subst (λ x. ProceedsTo (stands n (running (state_of_world w live) s w.outer)) (command_record s x ∷ rest) (stands n (running (state_of_world (world_left_by w ws) live) t w.outer))) e.shows
          (one_move _ _ (command_record s (shown_words w.state.table ws) ∷ rest) (does n (state_of_world w live) (state_of_world (world_left_by w ws) live) s w.outer e.name e.args o e.comes early
          (ap (doing_by (state_of_world w live) _ _) e.ends) stays))),
      at_running n w' m t live are,
    ) in
    let same_outer : w'.outer ≡ w.outer = sym (ap (λ (v : World). v.outer) e.leaves) in
    record {
      goes = quiet_goes n w w' m s (stage.Running t) (command_record s shown ∷ rest) tt (sym (ap (λ (v : World). v.opens) e.leaves)) sound (plain_command s shown rest (apart_ends o)) puts led
          (λ outs h so_far tr none. trace_command outs rest s shown h so_far tr none (apart_ends o));
      nearer = λ _. rw same_outer (omega (arith, further_nearer s o.cause early));
    }

-- or its script is left with it
pub goes_out : {old new : Logged} (n : ℕ) (w w' : World) (now : List Running) (m : Many) (s : Running) (st : Stage) (shown : ShownWords) (o : CommandOutcome) → IsSound n w' m (stage.Running s) → s.begun < 4096 →
    ComesToEnd s w shown o w' → o.leaves ≡ true → LeftTo (s.begun + 1) o.cause w'.outer st now → Puts old new (out_texts (command_records s shown o ++ (leave s.depth o.cause ∷ []))) →
    MovesOn (snapshot n w m (stage.Running s)) (snapshot n (world_within w' now) m st) old new
goes_out {old} {new} n w w' now m s st shown o sound early e leaves_it to puts =
    let ws = e.name ∷ e.args in
    let front = prints o.prints ++ (result o.cause ∷ []) in
    let rest = front ++ (leave s.depth o.cause ∷ []) in
    let apart : AllByRecursion IsApart rest = apart_append front (leave s.depth o.cause ∷ []) (apart_ends o) (tt, tt) in
    let led : LeadsQuietly n w (world_within w' now) m s st (command_record s shown ∷ rest) =
    λ live are. (
      stands n (left (state_of_world w' live) (counting_on (entered s) w'.outer) o.cause),
      subst (λ v. ProceedsTo (stands n (running (state_of_world w live) s w.outer)) (command_record s shown ∷ rest) (stands n (left (state_of_world v live) (counting_on (entered s) v.outer) o.cause))) e.leaves
          (subst (λ x. ProceedsTo (stands n (running (state_of_world w live) s w.outer)) (command_record s x ∷ rest) (stands n (left (state_of_world (world_left_by w ws) live) (counting_on (entered s) w.outer) o.cause))) e.shows
          (one_move _ _ (command_record s (shown_words w.state.table ws) ∷ rest) (leaves n (state_of_world w live) (state_of_world (world_left_by w ws) live) s w.outer e.name e.args o e.comes early
          (ap (doing_by (state_of_world w live) _ _) e.ends) leaves_it))),
      left_stands n w' now m (entered s) o.cause st live w'.outer are to,
    ) in
    let same_outer : w'.outer ≡ w.outer = sym (ap (λ (v : World). v.outer) e.leaves) in
    record {
      goes = quiet_goes n w (world_within w' now) m s st (command_record s shown ∷ rest) (left_quiet (s.begun + 1) o.cause w'.outer now st to) (sym (ap (λ (v : World). v.opens) e.leaves)) (within_sound now sound) (plain_command s shown rest apart) puts led
          (λ outs h so_far tr none. trace_command outs rest s shown h so_far tr none apart);
      nearer = λ at_work. let less = left_nearer n w' m (further s o.cause) o.cause w'.outer now st to at_work in rw (← same_outer) (omega (arith, less, further_nearer s o.cause early));
    }

pub ends_goes : {old new : Logged} (w : World) (before after : Site) (s then : Running) (st : Stage) (shown : ShownWords) (o : CommandOutcome) (gone : Option Cause) → IsSound before.used before.world before.opens (stage.Running s) → s.begun < 4096 →
    ComesToEnd s w shown o before.world → Does shown o gone s then old new → IsSettledAt gone then before st after → MovesOn (snapshot before.used w before.opens (stage.Running s)) (snapshot_at after st) old new
ends_goes {old} {new} w before after s then st shown o None sound early e d settled =
    let there : st ≡ stage.Running (further s o.cause) = settled.0 ∙ ap (λ x. stage.Running x) d.1 in
    rw (settled.1, there) (goes_further before.used w before.world before.opens s shown o sound early e d.0 d.2)
ends_goes {old} {new} w before after s then st shown o (Some cause) sound early e d settled =
    let to : LeftTo (s.begun + 1) o.cause before.world.outer st after.world.outer = subst (λ k. LeftTo (s.begun + 1) k before.world.outer st after.world.outer) d.1
    (subst (λ (x : Running). LeftTo x.begun cause before.world.outer st after.world.outer) d.2 settled.to) in
    let puts : Puts old new (out_texts (command_records s shown o ++ (leave s.depth o.cause ∷ []))) = subst (λ k. Puts old new (out_texts (command_records s shown o ++ (leave s.depth k ∷ [])))) d.1 d.3 in
    rw (settled.used, settled.opens, settled.world) (goes_out before.used w before.world after.world.outer before.opens s st shown o sound early e d.0 to puts)

-- what a command comes to in the machine's state, by its effect
pub effect_doing : (w : World) (s : Running) (live : List Live) (ws : List (List ℕ)) (e : Effect) → effect_in (found_by_script w s) ws ≡ e →
    doing (state_of_world w live) s ws ≡ doing_by (state_of_world w live) (table_after w.state.table ws) (up_after w.state.table w.state.up ws) e
effect_doing w s live ws e is = ap (doing_by (state_of_world w live) (table_after w.state.table ws) (up_after w.state.table w.state.up ws)) is

-- a command is over with one record of its end, and the script goes on
after_goto : {old new : Logged} (n : ℕ) (w : World) (m : Many) (s t : Running) (shown : ShownWords) (cause : Cause) → IsSound n w m (stage.Running s) →
    Puts old new (out_texts (command_records s shown (refused cause))) →
    ((live : List Live) → Proceeds (stands n (running (state_of_world w live) s w.outer)) (command_records s shown (refused cause)) (stands n (running (state_of_world w live) t w.outer))) →
    moves_in t < moves_in s → MovesOn (snapshot n w m (stage.Running s)) (snapshot n w m (stage.Running t)) old new
after_goto n w m s t shown cause sound puts moves near = record {
  goes = quiet_goes n w w m s (stage.Running t) (command_records s shown (refused cause)) tt refl sound refl puts
      (λ live are. (stands n (running (state_of_world w live) t w.outer), one_move _ _ (command_records s shown (refused cause)) (moves live), at_running n w m t live are))
      (λ outs h so_far tr none. trace_command outs (result cause ∷ []) s shown h so_far tr none (tt, tt));
  nearer = λ _. omega (arith, near);
}

-- `goto`
pub goto_goes : {old new : Logged} (n : ℕ) (w : World) (m : Many) (s t : Running) (shown : ShownWords) (c : List ℕ) (cs : List (List ℕ)) (name : List ℕ) (place : Option ℕ) → IsSound n w m (stage.Running s) →
    coming s ≡ beginning c cs → s.begun < 4096 → length s.code ≤ 1048576 → effect_in (found_by_script w s) (c ∷ cs) ≡ goes name → shown_words w.state.table (c ∷ cs) ≡ shown → label_place name s.code ≡ place → GoesToLabel shown place s t old new →
    MovesOn (snapshot n w m (stage.Running s)) (snapshot n w m (stage.Running t)) old new
goto_goes {old} {new} n w m s t shown c cs name (Some line) sound comes early short e shows there to =
    let moves : (live : List Live) → Proceeds (stands n (running (state_of_world w live) s w.outer)) (command_records s shown (refused ok)) (stands n (running (state_of_world w live) (behind_line s line) w.outer)) =
    λ live. subst (λ x. Proceeds (stands n (running (state_of_world w live) s w.outer)) (command_records s x (refused ok)) (stands n (running (state_of_world w live) (behind_line s line) w.outer))) shows
    (jumps n (state_of_world w live) s w.outer c cs name line comes early (effect_doing w s live (c ∷ cs) (goes name) e) there) in
    subst (λ x. MovesOn (snapshot n w m (stage.Running s)) (snapshot n w m (stage.Running x)) old new) (sym to.0) (after_goto n w m s (behind_line s line) shown ok sound to.1 moves (jump_nearer s line early short))
goto_goes {old} {new} n w m s t shown c cs name None sound comes early short e shows there to =
    let moves : (live : List Live) → Proceeds (stands n (running (state_of_world w live) s w.outer)) (command_records s shown (refused no_label)) (stands n (running (state_of_world w live) (further s no_label) w.outer)) =
    λ live. subst (λ x. Proceeds (stands n (running (state_of_world w live) s w.outer)) (command_records s x (refused no_label)) (stands n (running (state_of_world w live) (further s no_label) w.outer))) shows
    (finds_no_label n (state_of_world w live) s w.outer c cs name comes early (effect_doing w s live (c ∷ cs) (goes name) e) there) in
    subst (λ x. MovesOn (snapshot n w m (stage.Running s)) (snapshot n w m (stage.Running x)) old new) (sym to.0) (after_goto n w m s (further s no_label) shown no_label sound to.1 moves (further_nearer s no_label early))

-- `sleep`
pub sleep_goes : {old new : Logged} (n : ℕ) (w : World) (m : Many) (s : Running) (shown : ShownWords) (c : List ℕ) (cs : List (List ℕ)) (seconds : ℕ) → IsSound n w m (stage.Running s) →
    coming s ≡ beginning c cs → s.begun < 4096 → effect_in (found_by_script w s) (c ∷ cs) ≡ sleeps seconds → shown_words w.state.table (c ∷ cs) ≡ shown → Puts old new (out_texts (command_record s shown ∷ [])) →
    MovesOn (snapshot n w m (stage.Running s)) (snapshot n w m (stage.Waiting (entered s) (Moment (w.time + 1000 * seconds)))) old new
sleep_goes {old} {new} n w m s shown c cs seconds sound comes early e shows puts =
    let until = w.time + 1000 * seconds in
    let to : List Live → Progress = λ live. stands n (waiting (state_of_world w live) (waiting_for w (entered s) (Moment until))) in
    let moves : (live : List Live) → Proceeds (stands n (running (state_of_world w live) s w.outer)) (command_record s shown ∷ []) (to live) =
    λ live. subst (λ x. Proceeds (stands n (running (state_of_world w live) s w.outer)) (command_record s x ∷ []) (to live)) shows
    (falls_asleep n (state_of_world w live) s w.outer c cs until comes early (effect_doing w s live (c ∷ cs) (sleeps seconds) e)) in
    record {
      goes = quiet_goes n w w m s (stage.Waiting (entered s) (Moment until)) (command_record s shown ∷ []) tt refl sound refl puts
          (λ live are. (to live, one_move _ _ (command_record s shown ∷ []) (moves live), at_waiting n w m (entered s) (Moment until) live are))
          (λ outs h so_far tr none. trace_command outs [] s shown h so_far tr none tt);
      nearer = λ x. absurd x;
    }
