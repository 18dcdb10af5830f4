-- What comes of a record while a command waits, or a script has had all the commands of a step.
use Rattle.std.proofs.Common.{◌≡◌, ℕ, ◌+◌, ◌≤◌, true, false, List, [], ◌∷◌, ◌++◌, Option, Some, None, refl, sym, ◌∙◌, ap, subst, append-nil, append_assoc, arith, nat_le}
use Rattle.std.proofs.lemmas.Bool.Decides.{nat_tests}
use Rattle.std.specs.Prelude.{find, cond}
use Rattle.std.specs.Option.{is_some, option_and_then}
use Rattle.nb_defs.specs.Causes.{ok}
use Rattle.nb_defs.specs.Records.{In, IsIn, Out, out_texts, result, step}
use Rattle.nb_record.specs.Logged.{Logged, Puts}
use Rattle.nb_runner.proofs.Puts.{Puts-outs}
use Rattle.nb_traced.specs.Plain.{without_graph}
use Rattle.nb_machine.specs.Courses.{Progress, stands, running, waiting, yielded, StepBegins, waits_on, is_answered, resumes}
use Rattle.nb_machine.specs.Running.{Running, anew, with_result}
use Rattle.nb_machine.specs.Kinds.{answered, read_last}
use Rattle.nb_machine.specs.Lives.{Live}
use Rattle.nb_machine.specs.Scripts.{answer_in, by_time, concluded_by, has_number, is_number, moment, upshot_records}
use Rattle.nb_machine.specs.States.{State}
use Rattle.nb_machine.specs.Takings.{Over}
use Rattle.nb_traced.specs.Holdings.{Holdings}
use Rattle.nb_traced.specs.Outputs.{Arrived, Traced}
use Rattle.nb_network.specs.Many.{AreOpensOf, AreSound, Many}
use Rattle.nb_network.proofs.Sound.{some_live}
use Rattle.nb_stack.specs.Client.{Client}
use Rattle.nb_network.specs.Takes.{AnswersBy, IsEndOf, awaited_over, still_awaited}
use Rattle.nb_network.specs.declared.over.HasEnded.{HasEnded}
use Rattle.nb_client.specs.Asked.{job_asked}
use Rattle.nb_client.specs.Progressing.{TracesTo}
use Rattle.nb_client.specs.Serving.{Concludes, FitsAnswer, IsAnswerBy, IsSoundAfter, Serves, WaitsOrEnds, WakesBy, sleeps_still, wakes_now}
use Rattle.nb_client.specs.Snapshots.{FitsOutput, Snapshot, StandsForProgress, at_running, at_waiting, state_of_world, waiting_for, waiting_within}
use Rattle.nb_client.specs.Soundness.{HasRoomFor, IsBacked, IsClean, IsDriveAnswered, IsPendingWell, IsSound, asked_hooks, asks_block, has_its_open, snapshot_at}
use Rattle.nb_runner.specs.declared.world.World.{World}
use Rattle.nb_client.specs.declared.asked.Asked.{Asked}
use Rattle.nb_client.specs.declared.asked.Asked.TheVariants.{File, Query as Exchange, Disk, Block}
use Rattle.nb_client.specs.declared.pending.Answer.{Answer as TheAnswer}
use Rattle.nb_client.specs.declared.pending.Answer.TheVariants.{End, Drive as Lives}
use Rattle.nb_client.specs.Turning.{GoesOnBy, IsServed}
use Rattle.nb_client.specs.declared.pending.Pending.{Pending}
use Rattle.nb_client.specs.declared.pending.Expected.{Expected}
use Rattle.nb_client.specs.declared.pending.Expected.TheVariants.{Open, Moment}
use Rattle.nb_client.specs.declared.site.Site.{Site}
use Rattle.nb_client.specs.declared.stage.Stage.{Stage}
use Rattle.nb_client.specs.declared.stage.Stage.TheVariants as stage
use Rattle.nb_client.proofs.Standing.{stands_at}
use Rattle.nb_client.proofs.Arrivals.{none_moves}
use Rattle.nb_client.proofs.DriveFirsts.{lives_rise}
use Rattle.nb_client.proofs.DriveKinds.{answered_drive, gone, has_none, none_asked_now, none_has}
use Rattle.nb_client.proofs.Traces.{trace_apart}
use Rattle.nb_client.proofs.DriveWaits.{found_answer, lives_untied, none_asked, room_if_kept, same_end}
use Rattle.nb_client.proofs.Served.{HasServed, Place, asks_on, brings_waiting, brings_yielded, served, served_but, served_sound, step_goes, step_goes_so, takes_some}

-- the scripts outside stay
from_within : {n : ℕ} {t : State} {r : In} {put : List Out} {to : Progress} (s : Running) (e : Expected) (o o' : List Running) → o ≡ o' → StepBegins (stands n (waiting t (waiting_within o s e))) r put to →
    StepBegins (stands n (waiting t (waiting_within o' s e))) r put to
from_within {n} {t} {r} {put} {to} s e o o' same b = subst (λ (x : List Running). StepBegins (stands n (waiting t (waiting_within x s e))) r put to) same b

abbrev pub place_waiting : (before : Site) (s : Running) (e : Expected) (r : In) → IsServed r → Place before (stage.Waiting s e) r
place_waiting before s e r is = record {
  standing = λ live. waiting (state_of_world before.world live) (waiting_for before.world s e);
  is_served = is;
  picks = λ p x. stands_at (snapshot_at before (stage.Waiting s e)) p x;
  brings_so = λ live came a. brings_waiting r (before.used + 1) (state_of_world before.world live) (waiting_for before.world s e) came is a;
}

abbrev pub place_yielded : (before : Site) (s : Running) (r : In) → IsServed r → Place before (stage.Yielded s) r
place_yielded before s r is = record {
  standing = λ live. yielded (state_of_world before.world live) s before.world.outer;
  is_served = is;
  picks = λ p x. stands_at (snapshot_at before (stage.Yielded s)) p x;
  brings_so = λ live came a. brings_yielded r (before.used + 1) (state_of_world before.world live) s before.world.outer came is a;
}

-- nothing more was put
pub nothing_more : (l0 l1 : Logged) (n : ℕ) (records : List Out) → Puts l0 l1 (out_texts (step n ∷ records)) → Puts l0 l1 (out_texts ((step n ∷ records) ++ []))
nothing_more l0 l1 n records p = subst (λ x. Puts l0 l1 (out_texts x)) (sym (append-nil (step n ∷ records))) p

-- what is put is traced, where the opens stand as they do
pub trace_on : (after : Snapshot) (opens : ℕ) (rest : List Out) → ((outs : List Out) (h : Holdings) (so_far : List Arrived) → Traced outs h so_far → FitsOutput after h → TracesTo after (outs ++ rest) so_far) →
    (outs : List Out) (h : Holdings) (so_far : List Arrived) → Traced outs h so_far → FitsOutput after h → TracesTo after (outs ++ rest) so_far
trace_on after opens rest f = f

-- a script that had all its commands goes on
pub resume_goes : {r : In} {before mid : Site} {old new : Logged} (s : Running) → IsIn r → IsServed r → IsSound before.used before.world before.opens (stage.Yielded s) → Serves r None None before mid old new →
    GoesOnBy (r ∷ []) (snapshot_at before (stage.Yielded s)) (snapshot_at mid (stage.Running (anew s))) old new
resume_goes {r} {before} {mid} {old} {new} s valid is sound v =
    let t = takes_some sound.opens v in
    step_goes (stage.Yielded s) (place_yielded before s r is) (snapshot_at mid (stage.Running (anew s))) [] v (nothing_more old new (before.used + 1))
    (λ live h.
    let to = running (state_of_world mid.world h.after) (anew s) mid.world.outer in (
      to,
      subst (λ (o : List Running). StepBegins (stands before.used (yielded (state_of_world before.world live) s o)) r (step (before.used + 1) ∷ (without_graph h.records ++ [])) (stands (before.used + 1) to)) (ap (λ w. w.outer) v.world)
          (subst (λ x. StepBegins (stands before.used (yielded (state_of_world before.world live) s mid.world.outer)) r (step (before.used + 1) ∷ x) (stands (before.used + 1) to)) (sym (append-nil (without_graph h.records)))
          (resumes before.used (state_of_world before.world live) (state_of_world mid.world h.after) s mid.world.outer r (without_graph h.records) h.overs valid h.network)),
      subst (λ k. StandsForProgress (snapshot_at mid (stage.Running (anew s))) (stands k to)) v.used (at_running mid.used mid.world mid.opens (anew s) h.after h.are),
    ))
    (λ outs h so_far tr fits. record {
      holdings = h;
      traced = subst (λ x. Traced x h so_far) (sym (append-nil outs)) tr;
      fits = record { state = fits.state; living = fits.living; waiting = fits.waiting; numbered = subst (λ k. h.begun ≤ k) (sym (ap (λ w. w.opens) v.world)) fits.numbered };
    })
    refl
    (served_sound (stage.Yielded s) (stage.Running (anew s)) sound v (t.takes.tied sound.tied) tt (asks_on None)) tt

-- nothing is answered where no open is awaited
no_answer : (e : Option HasEnded) → AnswersBy e None → e ≡ None
no_answer None a = refl
no_answer (Some e) a = absurd a

pub none_answered : {r : In} {e : Option HasEnded} {before mid : Site} {old new : Logged} {at : Stage} → IsSound before.used before.world before.opens at → Serves r None e before mid old new → Serves r None None before mid old new
none_answered {r} {e} {before} {mid} {old} {new} sound v =
    let t = takes_some sound.opens v in
    subst (λ x. Serves r None x before mid old new) (no_answer e t.takes.does.answers) v

-- what is awaited has not ended
pub none_found : (k : ℕ) (overs : List Over) → AnswersBy None (awaited_over (Some k) overs) → find (is_number k) overs ≡ None
none_found k overs a = is_none (find (is_number k) overs) a
  where
    is_none : (o : Option Over) → AnswersBy None o → o ≡ None
    is_none None b = refl
    is_none (Some o) b = absurd b

-- the command waits on for its open
pub waits_goes : {r : In} {before mid : Site} {l0 l1 old new : Logged} (s : Running) (p : Pending) → IsIn r → IsServed r → IsSound before.used before.world before.opens (stage.Waiting s (Open p)) → Serves r (Some p.number) None before mid l0 l1 →
    IsDriveAnswered p.asked p.number mid.opens false →
    ((records : List Out) → Puts l0 l1 (out_texts (step (before.used + 1) ∷ records)) → Puts old new (out_texts ((step (before.used + 1) ∷ records) ++ []))) →
    IsSound mid.used mid.world mid.opens (stage.Waiting (anew s) (Open p)) →
    GoesOnBy (r ∷ []) (snapshot_at before (stage.Waiting s (Open p))) (snapshot_at mid (stage.Waiting (anew s) (Open p))) old new
waits_goes {r} {before} {mid} {l0} {l1} {old} {new} s p valid is sound v silent puts after_sound =
    step_goes (stage.Waiting s (Open p)) (place_waiting before s (Open p) r is) (snapshot_at mid (stage.Waiting (anew s) (Open p))) [] v puts
    (λ live h.
    let to = waiting (state_of_world mid.world h.after) (waiting_for mid.world (anew s) (Open p)) in
    let none = none_asked p.asked p.number mid.opens (state_of_world mid.world h.after) r h.overs (none_found p.number h.overs h.answers) h.are silent in (
      to,
      from_within s (Open p) mid.world.outer before.world.outer (ap (λ w. w.outer) v.world) (subst (λ x. StepBegins (stands before.used (waiting (state_of_world before.world live) (waiting_for mid.world s (Open p)))) r (step (before.used + 1) ∷ x) (stands (before.used + 1) to)) (sym (append-nil (without_graph h.records)))
          (waits_on before.used (state_of_world before.world live) (state_of_world mid.world h.after) (waiting_for mid.world s (Open p)) r (without_graph h.records) h.overs valid h.network none)),
      subst (λ k. StandsForProgress (snapshot_at mid (stage.Waiting (anew s) (Open p))) (stands k to)) v.used (at_waiting mid.used mid.world mid.opens (anew s) (Open p) h.after h.are),
    ))
    (λ outs h so_far tr fits. record {
      holdings = h;
      traced = subst (λ x. Traced x h so_far) (sym (append-nil outs)) tr;
      fits = record { state = fits.state; living = fits.living; waiting = fits.waiting; numbered = subst (λ k. h.begun ≤ k) (sym (ap (λ w. w.opens) v.world)) fits.numbered };
    })
    refl
    after_sound tt

pub some_found : (k : ℕ) (overs : List Over) (e : HasEnded) → AnswersBy (Some e) (awaited_over (Some k) overs) → (o : Over) × (find (is_number k) overs ≡ Some o) × IsEndOf e o
some_found k overs e a = is_some (find (is_number k) overs) a
  where
    is_some : (x : Option Over) → AnswersBy (Some e) x → (o : Over) × (x ≡ Some o) × IsEndOf e o
    is_some None b = absurd b
    is_some (Some o) b = (o, refl, b)

none_is_found : {e : HasEnded} (k : ℕ) (overs : List Over) → overs ≡ [] → (o : Over) × (find (is_number k) overs ≡ Some o) × IsEndOf e o → ⊥
none_is_found {e} k overs none f =
    let gone : find (is_number k) overs ≡ None = ap (find (is_number k)) none in
    let no : Some f.0 ≡ None = sym f.1 ∙ gone in cc

-- what hadn't come comes by nothing
still_silent : (a : Asked) (k : ℕ) (m m' : Many) (live after : List Live) → AreOpensOf m.graph m.list live → AreOpensOf m'.graph m'.list after → after ≡ live → IsDriveAnswered a k m false → IsDriveAnswered a k m' true → ⊥
still_silent (File w) k m m' live after are are' same silent spoke = let no : true ≡ false = spoke in cc
still_silent (Exchange q) k m m' live after are are' same silent spoke = let no : true ≡ false = spoke in cc
still_silent (Disk d) k m m' live after are are' same silent spoke =
    let no : true ≡ false = spoke after are' ∙ (ap (λ ls. is_some (option_and_then answered (find (has_number k) ls))) same ∙ sym (silent live are)) in cc
still_silent (Block d) k m m' live after are are' same silent spoke =
    let no : true ≡ false = spoke after are' ∙ (ap (λ ls. is_some (option_and_then read_last (find (has_number k) ls))) same ∙ sym (silent live are)) in cc

-- where nothing comes to an open, the command gets nothing
none_comes : {r : In} {before mid : Site} {l0 l1 : Logged} (p : Pending) (ended : Option HasEnded) (x : TheAnswer) (live : List Live) → AreOpensOf before.opens.graph before.opens.list live →
    (h : HasServed r (Some p.number) ended before mid l0 l1 live) → h.came ≡ [] → IsDriveAnswered p.asked p.number before.opens false → IsAnswerBy p ended mid.opens (Some x) → ⊥
none_comes {r} p (Some e) x live are h none silent is = none_is_found p.number h.overs (none_moves _ _ r _ _ h.overs h.came h.arrives none h.network).0 (some_found p.number h.overs e h.answers)
none_comes p None (End e) live are h none silent is = is
none_comes {r} {before} {mid} p None Lives live are h none silent is =
    still_silent p.asked p.number before.opens mid.opens live h.after are h.are (none_moves _ _ r _ _ h.overs h.came h.arrives none h.network).1 silent is

-- the command got what it has waited for
pub comes_goes : {r : In} {before mid : Site} {l0 l1 new : Logged} (s : Running) (p : Pending) (ended : Option HasEnded) (x : TheAnswer) (after : Snapshot) → IsIn r → IsServed r → IsDriveAnswered p.asked p.number before.opens false →
    Serves r (Some p.number) ended before mid l0 l1 → IsAnswerBy p ended mid.opens (Some x) → (c : Concludes p x (anew s) mid after l1 new) → GoesOnBy (r ∷ []) (snapshot_at before (stage.Waiting s (Open p))) after l0 new
comes_goes {r} {before} {mid} {l0} {l1} {new} s p ended x after valid is silent v by c =
    let same : mid.world.opens ≡ before.world.opens = ap (λ w. w.opens) v.world in
    step_goes_so (stage.Waiting s (Open p)) (place_waiting before s (Open p) r is) after v (λ live are h.
    let s' = state_of_world mid.world h.after in
    let f = found_answer p ended x mid.opens s' r h.overs h.answers h.are by in
    let a = f.0 in
    let k = c.ends h.after h.are in
    let d = k.comes a f.1 in
    record {
      rest = k.rest;
      puts = Puts-outs (step (before.used + 1) ∷ h.records) k.rest h.puts k.puts;
      steps = (
        d.to,
        from_within s (Open p) mid.world.outer before.world.outer (ap (λ w. w.outer) v.world) (subst (λ x. StepBegins (stands before.used (waiting (state_of_world before.world live) (waiting_for mid.world s (Open p)))) r (step (before.used + 1) ∷ x) (stands (before.used + 1) d.to))
            (append_assoc (without_graph h.records) (upshot_records (concluded_by s' s.depth (job_asked p.asked) a)) d.more ∙ ap (λ z. without_graph h.records ++ z) (sym d.is_put))
            (is_answered before.used (state_of_world before.world live) s' (waiting_for mid.world s (Open p)) r (without_graph h.records) d.more h.overs a d.to valid h.network f.2 d.leads)),
        subst (λ k. StandsForProgress after (stands k d.to)) v.used d.stands_so,
      );
      traces = λ outs hold so_far tr fits. k.traces outs hold so_far tr (record { state = fits.state; living = fits.living; waiting = fits.waiting; numbered = subst (λ k. hold.begun ≤ k) (sym same) fits.numbered });
      quiet = λ none. absurd (none_comes p ended x live are h none silent by);
    })
    c.sound c.under_way

-- the command sleeps on, or wakes
pub sleeps_goes : {r : In} {before mid : Site} {old l1 new : Logged} (s : Running) (until : ℕ) (st : Stage) → IsIn r → IsServed r → IsSound before.used before.world before.opens (stage.Waiting s (Moment until)) → Serves r None None before mid old l1 →
    WakesBy until mid.world.time s st l1 new → GoesOnBy (r ∷ []) (snapshot_at before (stage.Waiting s (Moment until))) (snapshot_at mid st) old new
sleeps_goes {r} {before} {mid} {old} {l1} {new} s until st valid is sound v (sleeps_still early there same) =
    let t = takes_some sound.opens v in
    let P : Logged → Stage → Type 0 = λ l x. GoesOnBy (r ∷ []) (snapshot_at before (stage.Waiting s (Moment until))) (snapshot_at mid x) old l in
    let goes : P l1 (stage.Waiting (anew s) (Moment until)) =
    step_goes (stage.Waiting s (Moment until)) (place_waiting before s (Moment until) r is) (snapshot_at mid (stage.Waiting (anew s) (Moment until))) [] v (nothing_more old l1 (before.used + 1))
    (λ live h.
    let to = waiting (state_of_world mid.world h.after) (waiting_for mid.world (anew s) (Moment until)) in
    let none : answer_in (state_of_world mid.world h.after) r h.overs (moment until) ≡ None =
    let no : nat_le until mid.world.time ≡ false = grind (arith, nat_tests) in ap (λ b. cond b (Some by_time) None) no in (
      to,
      from_within s (Moment until) mid.world.outer before.world.outer (ap (λ w. w.outer) v.world) (subst (λ x. StepBegins (stands before.used (waiting (state_of_world before.world live) (waiting_for mid.world s (Moment until)))) r (step (before.used + 1) ∷ x) (stands (before.used + 1) to)) (sym (append-nil (without_graph h.records)))
          (waits_on before.used (state_of_world before.world live) (state_of_world mid.world h.after) (waiting_for mid.world s (Moment until)) r (without_graph h.records) h.overs valid h.network none)),
      subst (λ k. StandsForProgress (snapshot_at mid (stage.Waiting (anew s) (Moment until))) (stands k to)) v.used (at_waiting mid.used mid.world mid.opens (anew s) (Moment until) h.after h.are),
    ))
    (λ outs h so_far tr fits. record {
      holdings = h;
      traced = subst (λ x. Traced x h so_far) (sym (append-nil outs)) tr;
      fits = record { state = fits.state; living = fits.living; waiting = fits.waiting; numbered = subst (λ k. h.begun ≤ k) (sym (ap (λ w. w.opens) v.world)) fits.numbered };
    })
    refl
    (served_sound (stage.Waiting s (Moment until)) (stage.Waiting (anew s) (Moment until)) sound v (t.takes.tied sound.tied) tt (asks_on None)) tt in
    subst (λ x. P x st) (sym same) (subst (λ x. P l1 x) (sym there) goes)
sleeps_goes {r} {before} {mid} {old} {l1} {new} s until st valid is sound v (wakes_now late there p) =
    let t = takes_some sound.opens v in
    let woken = stage.Running (with_result (anew s) ok) in
    subst (λ x. GoesOnBy (r ∷ []) (snapshot_at before (stage.Waiting s (Moment until))) (snapshot_at mid x) old new) (sym there)
    (step_goes (stage.Waiting s (Moment until)) (place_waiting before s (Moment until) r is) (snapshot_at mid woken) (result ok ∷ []) v
    (λ records q. Puts-outs (step (before.used + 1) ∷ records) (result ok ∷ []) q p)
    (λ live h.
    let s' = state_of_world mid.world h.after in
    let to = running s' (with_result (anew s) ok) mid.world.outer in
    let is_answer : answer_in s' r h.overs (moment until) ≡ Some by_time =
    let yes : nat_le until mid.world.time ≡ true = grind (arith, nat_tests) in ap (λ b. cond b (Some by_time) None) yes in (
      to,
      from_within s (Moment until) mid.world.outer before.world.outer (ap (λ w. w.outer) v.world) (subst (λ x. StepBegins (stands before.used (waiting (state_of_world before.world live) (waiting_for mid.world s (Moment until)))) r (step (before.used + 1) ∷ x) (stands (before.used + 1) to)) (append-nil (without_graph h.records ++ (result ok ∷ [])))
          (is_answered before.used (state_of_world before.world live) s' (waiting_for mid.world s (Moment until)) r (without_graph h.records) [] h.overs by_time to valid h.network is_answer (refl, refl))),
      subst (λ k. StandsForProgress (snapshot_at mid woken) (stands k to)) v.used (at_running mid.used mid.world mid.opens (with_result (anew s) ok) h.after h.are),
    ))
    (λ outs h so_far tr fits. record {
      holdings = h;
      traced = subst (λ x. Traced (outs ++ (result ok ∷ [])) h x) (append-nil so_far) (trace_apart outs (result ok ∷ []) h so_far tr (tt, tt));
      fits = record { state = fits.state; living = fits.living; waiting = fits.waiting; numbered = subst (λ k. h.begun ≤ k) (sym (ap (λ w. w.opens) v.world)) fits.numbered };
    })
    refl
    (served_sound (stage.Waiting s (Moment until)) woken sound v (t.takes.tied sound.tied) tt (asks_on None)) tt)

-- what was gathered is put at once
pub gathered_puts : {g0 g1 old new : Logged} (bytes : List ℕ) → IsClean g0 → g1.is_short ≡ false → Puts g0 g1 bytes → Puts old new g1.bytes → Puts old new bytes
gathered_puts {g0} {g1} {old} {new} bytes clean whole p q =
    subst (λ x. Puts old new x) ((p.whole whole).1 ∙ ap (λ x. x ++ bytes) clean.empty) q

-- what a command has asked for fits still, where its open has ended or not
asked_well : {r : In} {before mid : Site} {old new : Logged} (s : Running) (p : Pending) (ended : Option HasEnded) (k : Option ℕ) → k ≡ still_awaited (Some p.number) ended → IsSound before.used before.world before.opens (stage.Waiting s (Open p)) →
    Serves r (Some p.number) ended before mid old new → IsPendingWell p k mid.opens
asked_well {r} {before} {mid} s p ended k is sound v =
    let t = takes_some sound.opens v in
    subst (λ (j : Option ℕ). IsPendingWell p j mid.opens) (sym is) (record {
      fits = sound.well.asked.fits;
      backed = sound.well.asked.backed;
      waiting = record {
        beside = λ c is. t.takes.waiting _ c (sound.well.asked.waiting.beside c is);
        newest = λ c is. t.takes.newest c (sound.well.asked.waiting.newest c is);
      };
    })

-- and a drive more may be hooked still
room_still : {r : In} {ended : Option HasEnded} {before mid : Site} {old new : Logged} (s : Running) (p : Pending) → IsSound before.used before.world before.opens (stage.Waiting s (Open p)) → Serves r (Some p.number) ended before mid old new →
    HasRoomFor p.asked mid.world.state.drives
room_still {r} {ended} {before} {mid} s p sound v =
    let ds = before.world.state.drives in
    let test = has_its_open mid.opens.list in
    subst (λ (w : World). HasRoomFor p.asked w.state.drives) (sym v.world) (room_if_kept (asked_hooks p.asked) test ds sound.well.room)

-- nothing waits beside a disk's open, so none is the newest
alone_well : (p : Pending) (m : Many) → p.waits ≡ None → IsPendingWell p (Some p.number) m → IsPendingWell p None m
alone_well p m alone h = record {
  fits = h.fits;
  backed = h.backed;
  waiting = record { beside = h.waiting.beside; newest = λ c is. absurd (let no : None ≡ Some c = sym alone ∙ is in cc) };
}

lives_well : (a : Asked) (p : Pending) (m : Many) → p.asked ≡ a → IsDriveAnswered a p.number m true → IsPendingWell p (Some p.number) m → IsPendingWell p None m
lives_well (File w) p m same spoke h = absurd (let no : true ≡ false = spoke in cc)
lives_well (Exchange q) p m same spoke h = absurd (let no : true ≡ false = spoke in cc)
lives_well (Disk d) p m same spoke h = alone_well p m (subst (λ (x : Asked). IsBacked x p.waits) same h.backed) h
lives_well (Block d) p m same spoke h = alone_well p m (subst (λ (x : Asked). IsBacked x p.waits) same h.backed) h

lives_fits : (a : Asked) (k w opens : ℕ) (net : Client) (m : Many) → AreSound w opens net m → IsDriveAnswered a k m true → FitsAnswer Lives a k m
lives_fits (File x) k w opens net m sound spoke = let no : true ≡ false = spoke in cc
lives_fits (Exchange q) k w opens net m sound spoke = let no : true ≡ false = spoke in cc
lives_fits (Disk d) k w opens net m sound spoke =
    let lives = some_live m.graph m.list sound.lives in
    answered_drive m.graph m.list lives.0 k opens lives.1 sound.rising (spoke lives.0 lives.1)
lives_fits (Block d) k w opens net m sound spoke = spoke

-- an open that has ended lives no longer, nor does another of its number
ended_gone : {r : In} {before mid : Site} {l0 l1 : Logged} (k : ℕ) (e : HasEnded) (live : List Live) → AreSound before.world.w before.world.opens before.world.net before.opens → AreOpensOf before.opens.graph before.opens.list live →
    (h : HasServed r (Some k) (Some e) before mid l0 l1 live) → has_none k h.after
ended_gone {r} {before} {mid} k e live sound are h =
    let f = some_found k h.overs e h.answers in
    gone (state_of_world before.world live) (before.used + 1) r (without_graph h.records) (state_of_world mid.world h.after) h.overs k f.0 (lives_rise before.opens.graph before.opens.list live 0 before.world.opens are sound.rising) h.network f.1

block_number : (a : Asked) (n k : ℕ) → asks_block a n ≡ Some k → n ≡ k
block_number (File w) n k e = absurd (let no : None ≡ Some k = e in cc)
block_number (Exchange q) n k e = absurd (let no : None ≡ Some k = e in cc)
block_number (Disk d) n k e = absurd (let no : None ≡ Some k = e in cc)
block_number (Block d) n k e = some_number n k e
  where
    some_number : (x y : ℕ) → Some x ≡ Some y → x ≡ y
    some_number x y same = cc

-- the client is sound, whether the command waits on or got what it waited for
pub sound_after : {r : In} {before mid : Site} {old new : Logged} (s : Running) (p : Pending) (ended : Option HasEnded) (x : Option TheAnswer) → IsSound before.used before.world before.opens (stage.Waiting s (Open p)) →
    Serves r (Some p.number) ended before mid old new → IsAnswerBy p ended mid.opens x → IsSoundAfter x mid s p
sound_after s p (Some e) None sound v by = absurd (let no : None ≡ Some (End e) = by in cc)
sound_after {r} {before} {mid} s p (Some e) (Some x) sound v by =
    let t = takes_some sound.opens v in
    let f = some_found p.number t.takes.does.overs e t.takes.does.answers in
    let left = room_still s p sound v in
    let x0 = sound.hooked in
    let h = served x0.live v x0.are in
    subst (λ (y : TheAnswer). IsSoundAfter (Some y) mid s p) (sym (same_end x e by)) (
      served_but (stage.Waiting s (Open p)) None sound v (t.takes.tied sound.tied)
          (λ live are h u. none_asked_now (asks_block p.asked p.number) h.after (λ k same. subst (λ n. has_none n h.after) (block_number p.asked p.number k same) (ended_gone p.number e live sound.opens are h)) u),
      record { asked = asked_well s p (Some e) None refl sound v; room = left; fits = (f.2.message, none_has mid.opens.graph mid.opens.list h.after p.number h.are ∙ ended_gone p.number e x0.live sound.opens x0.are h) },
    )
sound_after s p None (Some (End e)) sound v by = absurd by
sound_after {r} {before} {mid} s p None (Some Lives) sound v by =
    let t = takes_some sound.opens v in
    let left = room_still s p sound v in
    let none = lives_untied p.asked p.number mid.world.w mid.world.opens mid.world.net mid.opens v.opens by (t.takes.tied sound.tied) in (
      served_but (stage.Waiting s (Open p)) (asks_block p.asked p.number) sound v none (asks_on (asks_block p.asked p.number)),
      record { asked = lives_well p.asked p mid.opens refl by (asked_well s p None (Some p.number) refl sound v); room = left; fits = lives_fits p.asked p.number mid.world.w mid.world.opens mid.world.net mid.opens v.opens by },
    )
sound_after s p None None sound v by =
    let t = takes_some sound.opens v in
    let left = room_still s p sound v in
    served_sound (stage.Waiting s (Open p)) (stage.Waiting s (Open p)) sound v (t.takes.tied sound.tied)
    (record { asked = asked_well s p None (Some p.number) refl sound v; room = left; silent = by }) (asks_on (asks_block p.asked p.number))

-- a step in which a command waits for an open
pub waited_goes : {r : In} {before mid : Site} {old l1 new : Logged} (s : Running) (p : Pending) (ended : Option HasEnded) (x : Option TheAnswer) (after : Snapshot) → IsIn r → IsServed r →
    IsSound before.used before.world before.opens (stage.Waiting s (Open p)) → Serves r (Some p.number) ended before mid old l1 → IsAnswerBy p ended mid.opens x → WaitsOrEnds x p s mid after l1 new →
    GoesOnBy (r ∷ []) (snapshot_at before (stage.Waiting s (Open p))) after old new
waited_goes s p (Some e) None after valid is sound v by does = absurd (let no : None ≡ Some (End e) = by in cc)
waited_goes {r} {before} {mid} {old} {l1} {new} s p None None after valid is sound v by does =
    let one = sound_after s p None None sound v by in
    subst (λ (l : Logged). GoesOnBy (r ∷ []) (snapshot_at before (stage.Waiting s (Open p))) after old l) (sym does.1)
    (subst (λ x. GoesOnBy (r ∷ []) (snapshot_at before (stage.Waiting s (Open p))) x old l1) (sym does.0)
    (waits_goes s p valid is sound v by (nothing_more old l1 (before.used + 1))
    (record { time = one.time; opens = one.opens; serials = one.serials; tied = one.tied; well = one.well; short = one.short; named = one.named; linked = one.linked; hooked = one.hooked })))
waited_goes {r} {before} {mid} {old} {l1} {new} s p ended (Some x) after valid is sound v by does =
    comes_goes s p ended x after valid is sound.well.silent v by does
