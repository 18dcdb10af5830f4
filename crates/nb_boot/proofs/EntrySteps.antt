-- What a run used and wrote agrees with its history: how each step begins, what entered the opens, and where what they sent stands.
use Rattle.std.specs.List.{list_any}
use Rattle.std.proofs.lemmas.Option.{none-some, same_Some}
use Rattle.std.proofs.Common.{◌≡◌, ◌⊎◌, inl, inr, ℕ, ◌+◌, ◌==◌, true, false, cond, List, [], ◌∷◌, ◌++◌, map, filter, Option, Some, None, IsSome, option_and_then, add-zero, refl, sym, ◌∙◌, ap, subst, append_assoc, append-nil}
use Rattle.nb_defs.specs.Records.{In, Out, step, sent, tried, result, graph}
use Rattle.nb_ledger.specs.Flat.{way_number}
use Rattle.nb_stack.specs.Brings.{Brought}
use Rattle.nb_stack.specs.Takes.{reply_of}
use Rattle.nb_traced.specs.Plain.{without_graph}
use Rattle.nb_machine.specs.Courses.{Progress, Course}
use Rattle.nb_laws.specs.Events.{Event, starts, hears, waits, stops, puts, outputs, EachEvent, EachThen}
use Rattle.nb_laws.specs.Histories.{IsHistory, client}
use Rattle.nb_laws.specs.Lists.{Opening, gathered, live, made}
use Rattle.nb_laws.specs.Endings.{off_by, is_off, closes_off, closes_down, closes_booted, closes_booted_disk}
use Rattle.nb_laws.specs.CommandsSoFar.{CommandsSoFar, so_far, comes_by, comes_after, booted_in, booted_drive, ComesTo}
use Rattle.nb_laws.specs.Frames.{TriesSo}
use Rattle.nb_laws.specs.Hookings.{is_on_open, OnlyDrivesLive, boots_hooking, boots_hooked, NamesDrive, by_unhook, by_hooking, LetsGo}
use Rattle.nb_laws.specs.Moves.{moves}
use Rattle.nb_laws.specs.Progress.{IsResumed, by_live, by_reading, by_count, by_sleep, StepsSo}
use Rattle.nb_machine.specs.Effects.{Effect, ShownWords, sleeps, shuts_device, hooks_disk, unhooks_drive}
use Rattle.nb_terms.specs.declared.cause.Cause.{Cause}
use Rattle.nb_defs.specs.Causes.{ok}
use Rattle.nb_drivecmd.specs.declared.drive.Drive.{Drive}
use Rattle.nb_drivecmd.specs.HookedDrives.{is_drive, drive_numbered}
use Rattle.nb_laws.specs.Webs.{ComesToNone}
use Rattle.nb_laws.proofs.Bootings.{after_unbooted}
use Rattle.nb_laws.proofs.Histories.{each_append, one_history}
use Rattle.nb_laws.proofs.Tellings.{told, made_more}
use Rattle.std.proofs.lemmas.List.Sums.{fold-append}
use Rattle.nb_lawful.proofs.CourseLaws.{has_one}
use Rattle.nb_lawful.proofs.Runs.{Story, course_story}
use Rattle.nb_lawful.proofs.Quiet.{command_open_more}
use Rattle.nb_lawful.proofs.Solitude.{Solitude, live_then}
use Rattle.nb_lawful.proofs.Todays.{not_shut}
use Rattle.nb_laws.proofs.SoFar.{so_far_more}
use Rattle.nb_laws.proofs.Moved.{moves_more}
use Rattle.nb_lawful.proofs.StepOpens.{opens_give}
use Rattle.nb_openlaws.proofs.UsedEvents.{IsUsed}
use Rattle.nb_traced.specs.Entries.{EntryArrival, came_to, IsOutside}
use Rattle.nb_traced.specs.Holdings.{Holdings}
use Rattle.nb_traced.specs.LowestObjects.{GraphSoFar}
use Rattle.nb_traced.specs.Outputs.{Arrived, Traced}
use Rattle.nb_traced.specs.Places.{FramesStand, TriesStandWithin}
use Rattle.nb_traced.proofs.Entering.{entered}
use Rattle.nb_traced.proofs.Following.{frames_stand, lowest_are_own, tries_stand}
use Rattle.nb_traced.proofs.Seeing.{so_far_append}
use Rattle.nb_client.specs.Progressing.{BeginsStep, BringsTo, StandsFirst}
use Rattle.nb_boot.specs.Entries.{way_of_call, arrivals, plain, LeavesSo, EntriesAgree}
use Rattle.nb_boot.specs.Stepped.{AreStepped, StartsSo}
use Rattle.nb_boot.specs.Stepped as stepped
use Rattle.nb_boot.specs.Following.{FollowsMachine, nothing, uses, goes_on}
use Rattle.nb_boot.proofs.EntryAlone.{Known, alone_then, course_alone, course_known, course_tries, drives_where_on}
use Rattle.nb_boot.proofs.EntryMoves.{BeginsNoFrame, moves_first}
use Rattle.nb_boot.proofs.EntryArrivals.{none_first, step_comes, time_arrives, time_comes_to}
use Rattle.nb_boot.proofs.EntryFrames.{StepComes}
use Rattle.nb_boot.proofs.EntryComings.{HaveNoGraph, arrivals_more, arrivals_told}
use Rattle.nb_boot.proofs.EntryHistories.{FirstUsed, all_told, each_first, each_last, each_then_last, outputs_append, plain_events_append, plain_told, plain_used, told_outputs, used_history, written_history}
use Rattle.nb_boot.proofs.EntryPlaces.{ClosesNow, Context, RepliesNothing, ArrivesSome, all_told_so, due_at, last_out, same_last}
use Rattle.nb_boot.proofs.Following.{follows_course}

came_append : (k : ℕ) (xs ys : List Arrived) → came_to k (xs ++ ys) ≡ came_to k xs ++ came_to k ys
came_append k [] ys = refl
came_append k (x ∷ xs) ys =
    let this : List EntryArrival = cond (x.whose == k) (record { number = x.number; way = way_number x.way } ∷ []) [] in
    ap (λ z. this ++ z) (came_append k xs ys) ∙ sym (append_assoc this (came_to k xs) (came_to k ys))

-- what is known of a course with this history
story_of : (ins : List In) (outs : List Out) (p : Progress) (es : List Event) → Course ins outs p → IsHistory ins outs es → Story ins outs es p.standing
story_of ins outs p es c h =
    let (found, t) = course_story opens_give ins outs p c in
    subst (λ z. Story ins outs z p.standing) (one_history ins outs found es (record { used = t.used; written = t.written; read = t.read }) h) t

pub record Agreed (ins : List In) (outs : List Out) (es : List Event) (so_far : List Arrived) : Type 0 where
  pub whole : List Event
  pub written : outputs whole ≡ outs
  pub without : plain whole ≡ es
  pub steps : AreStepped ins outs
  pub arrived : (k : ℕ) → came_to k so_far ≡ arrivals k es
  pub leaves : EachEvent LeavesSo [] whole

none_arrived : (k : ℕ) → [] ≡ arrivals k []
unfolding arrivals gathered
none_arrived k = refl

leaves_used : (w : List Event) (e : Event) → IsUsed e → LeavesSo w e
leaves_used w (puts o) used = absurd used
leaves_used w (starts n s) used = tt
leaves_used w (hears n bytes m) used = tt
leaves_used w (waits n ms) used = tt
leaves_used w (stops n) used = tt

-- where something comes to an open, no FRAME stands directly after the STEP
not_due : (es : List Event) (e : Event) (more : List Out) (bytes : List ℕ) (rest : List Out) (k : ℕ) → IsUsed e → StartsSo es e more → more ≡ sent bytes ∷ rest → ArrivesSome k es e → ⊥
not_due es (puts o) more bytes rest k used so is comes = used
not_due es (starts n s) more bytes rest k used so is comes = let no : [] ≡ comes.arrives ∷ comes.rest = comes.at in cc
not_due es (hears n b m) more bytes rest k used so is comes = let f = so.enters k comes.arrives comes.rest comes.at in let no : sent bytes ∷ rest ≡ graph _ ∷ f.more = sym is ∙ f.all in cc
not_due es (waits n ms) more bytes rest k used so is comes = let f = so.enters k comes.arrives comes.rest comes.at in let no : sent bytes ∷ rest ≡ graph _ ∷ f.more = sym is ∙ f.all in cc
not_due es (stops n) more bytes rest k used so is comes = let no : [] ≡ comes.arrives ∷ comes.rest = comes.at in cc

-- nor does it in the step of OFF, where an open lives
off_last : (es : List Event) (e : Event) → is_off (es ++ e ∷ []) ≡ off_by (is_off es) e
unfolding is_off
off_last es e = fold-append off_by false es (e ∷ [])

-- words that come to a sleep come to nothing else, and those that have been said are of no script that was left
comes_once : (es : List Event) (n : ℕ) (d e : Effect) → ComesTo es n d → ComesTo es n e → d ≡ e
comes_once es n d e (shown, said, is) (words, told_so, at) =
    sym is ∙ ap (λ (x : ShownWords). comes_after n (so_far es) x (moves es)) (same_Some shown words (sym said ∙ told_so)) ∙ at

-- nor do those that boot a hooked drive come to anything else
boots_only : (es : List Event) (n : ℕ) (drive : Drive) (e : Effect) → booted_drive (so_far es) ≡ Some drive → booted_in e ≡ None → ComesTo es n e → ⊥
boots_only es n drive e booted none (shown, said, is) =
    let words : option_and_then (λ x. booted_in (comes_by 0 (so_far es) x)) (so_far es).shown ≡ None =
    ap (option_and_then (λ x. booted_in (comes_by 0 (so_far es) x))) said ∙ after_unbooted n (so_far es) shown (moves es) e none is in
    none-some drive (sym (ap (option_and_then (λ number. drive_numbered number (so_far es).drives)) words) ∙ booted)

none_left : (es : List Event) (n : ℕ) (e : Effect) → Solitude es → ComesTo es n e → (so_far es).left ≡ None
none_left es n e a (shown, said, is) = by (so_far es).left refl
  where
    by : (left : Option Cause) → (so_far es).left ≡ left → (so_far es).left ≡ None
    by None at = at
    by (Some cause) at = absurd (none-some shown (sym (a.none_shown cause at) ∙ said))

-- where a record may be used, no command closes an open
not_shutting : (es : List Event) → Solitude es → IsResumed es → (so_far es).is_open ≡ true → ComesTo es (made es) shuts_device → ⊥
not_shutting es a (by_live k o lives still own) on comes = not_shut es k a own still (none_left es (made es) shuts_device a comes) comes
not_shutting es a (by_reading k o lives still (boots_hooking disk has is)) on comes =
    let no : hooks_disk disk.hooking ≡ shuts_device = comes_once es (made es) (hooks_disk disk.hooking) shuts_device disk.names comes in cc no
not_shutting es a (by_reading k o lives still (boots_hooked drive none booted is)) on comes = boots_only es (made es) drive shuts_device booted refl comes
not_shutting es a (by_count full over) on comes = let no : false ≡ true = sym over ∙ on in cc no
not_shutting es a (by_sleep seconds still asleep) on comes = let no : sleeps seconds ≡ shuts_device = comes_once es (made es) (sleeps seconds) shuts_device asleep comes in cc no

not_named : (es : List Event) (seconds number : ℕ) → ComesTo es (made es) (sleeps seconds) → NamesDrive es number → ⊥
not_named es seconds number asleep (by_unhook cause comes) = let no : sleeps seconds ≡ unhooks_drive number cause = comes_once es (made es) (sleeps seconds) (unhooks_drive number cause) asleep comes in cc no
not_named es seconds number asleep (by_hooking hooking comes is) = let no : sleeps seconds ≡ hooks_disk hooking = comes_once es (made es) (sleeps seconds) (hooks_disk hooking) asleep comes in cc no

not_named_booting : (es : List Event) (drive : Drive) (number : ℕ) → booted_drive (so_far es) ≡ Some drive → NamesDrive es number → ⊥
not_named_booting es drive number booted (by_unhook cause comes) = boots_only es (made es) drive (unhooks_drive number cause) booted refl comes
not_named_booting es drive number booted (by_hooking hooking comes is) = boots_only es (made es) drive (hooks_disk hooking) booted refl comes

not_letting : (es : List Event) (k : ℕ) → IsResumed es → LetsGo k es → ⊥
not_letting es k (by_live j o lives still own) lets = none-some _ (sym lets.first ∙ own)
not_letting es k (by_reading j o lives still (boots_hooking disk has is)) lets = let no : false ≡ true = subst IsSome lets.first has in cc no
not_letting es k (by_reading j o lives still (boots_hooked drive none booted is)) lets = not_named_booting es drive lets.number booted lets.names
not_letting es k (by_count full over) lets = let no : false ≡ true = sym over ∙ lets.still in cc no
not_letting es k (by_sleep seconds still asleep) lets = not_named es seconds lets.number asleep lets.names

-- the last record of a command that has booted is written
boots_written : (es before : List Event) (e : Event) (o : Out) (since : List Out) → es ++ e ∷ [] ≡ before ++ puts o ∷ told since → (x : Out) × (e ≡ puts x)
boots_written es before e o [] at = (o, (same_last es before e (puts o) at).last)
boots_written es before e o (x ∷ since) at = boots_written es (before ++ puts o ∷ []) e x since (at ∙ sym (append_assoc before (puts o ∷ []) (puts x ∷ told since)))

-- a frame that is used leaves what the commands have come to
heard_same : (es : List Event) (n : ℕ) (b : List ℕ) (m : Brought) (k : ℕ) (e : Effect) → ComesTo (es ++ hears n b m ∷ []) k e → ComesTo es k e
heard_same es n b m k e (shown, said, is) =
    let now : so_far (es ++ hears n b m ∷ []) ≡ so_far es = so_far_more es (hears n b m) in (
      shown,
      ap (λ (x : CommandsSoFar). x.shown) (sym now) ∙ said,
      ap (λ z. comes_after k (so_far es) shown z) (sym (moves_more es (hears n b m))) ∙ ap (λ (x : CommandsSoFar). comes_after k x shown (moves (es ++ hears n b m ∷ []))) (sym now) ∙ is,
    )

heard_made : (es : List Event) (n : ℕ) (b : List ℕ) (m : Brought) → made (es ++ hears n b m ∷ []) ≡ made es
heard_made es n b m = made_more es (hears n b m) ∙ add-zero (made es)

heard_named : (es : List Event) (n : ℕ) (b : List ℕ) (m : Brought) (number : ℕ) → NamesDrive (es ++ hears n b m ∷ []) number → NamesDrive es number
heard_named es n b m number (by_unhook cause comes) = by_unhook cause (heard_same es n b m (made es) (unhooks_drive number cause) (subst (λ z. ComesTo (es ++ hears n b m ∷ []) z (unhooks_drive number cause)) (heard_made es n b m) comes))
heard_named es n b m number (by_hooking hooking comes is) = by_hooking hooking (heard_same es n b m (made es) (hooks_disk hooking) (subst (λ z. ComesTo (es ++ hears n b m ∷ []) z (hooks_disk hooking)) (heard_made es n b m) comes)) is

heard_letting : (es : List Event) (n : ℕ) (b : List ℕ) (m : Brought) (k : ℕ) → LetsGo k (es ++ hears n b m ∷ []) → LetsGo k es
heard_letting es n b m k lets =
    let now : so_far (es ++ hears n b m ∷ []) ≡ so_far es = so_far_more es (hears n b m) in
    record {
      still = ap (λ (x : CommandsSoFar). x.is_open) (sym now) ∙ lets.still;
      first = sym (command_open_more es (hears n b m)) ∙ lets.first;
      number = lets.number;
      names = heard_named es n b m lets.number lets.names;
      hooked = ap (λ (x : CommandsSoFar). list_any (is_on_open k) (filter (is_drive lets.number) x.drives)) (sym now) ∙ lets.hooked;
    }

heard_none : (es : List Event) (n : ℕ) (b : List ℕ) (m : Brought) (k : ℕ) → Solitude es → IsResumed es → ClosesNow k (es ++ hears n b m ∷ []) → ⊥
heard_none es n b m k a resumed (inl (closes_off off)) = let no : false ≡ true = sym (off_last es (hears n b m)) ∙ off in cc no
heard_none es n b m k a resumed (inl (closes_down still comes)) =
    not_shutting es a resumed (ap (λ (x : CommandsSoFar). x.is_open) (sym (so_far_more es (hears n b m))) ∙ still)
    (heard_same es n b m (made es) shuts_device (subst (λ z. ComesTo (es ++ hears n b m ∷ []) z shuts_device) (heard_made es n b m) comes))
heard_none es n b m k a resumed (inl (closes_booted booted)) = let w = boots_written es booted.before (hears n b m) (result ok) booted.since booted.ends in let no : hears n b m ≡ puts w.0 = w.1 in cc no
heard_none es n b m k a resumed (inl (closes_booted_disk booted)) = let w = boots_written es booted.before (hears n b m) (result ok) booted.since booted.ends in let no : hears n b m ≡ puts w.0 = w.1 in cc no
heard_none es n b m k a resumed (inr lets) = not_letting es k resumed (heard_letting es n b m k lets)

-- no open is closed directly after a STEP
none_shut : (es : List Event) (e : Event) (more : List Out) (bytes : List ℕ) (rest : List Out) (k : ℕ) (o : Opening) → Solitude es → StepsSo es e → IsUsed e → StartsSo es e more → more ≡ sent bytes ∷ rest → live k (es ++ e ∷ []) ≡ o ∷ [] →
    ClosesNow k (es ++ e ∷ []) → ⊥
none_shut es (puts x) more bytes rest k o a steps used so is lives why = used
none_shut es (starts n s) more bytes rest k o a steps used so is lives why =
    let none : live k (es ++ starts n s ∷ []) ≡ [] = live_then es (starts n s) k refl refl ∙ ap (live k) steps.1 ∙ none_first k in let no : [] ≡ o ∷ [] = sym none ∙ lives in cc no
none_shut es (hears n b m) more bytes rest k o a steps used so is lives why = heard_none es n b m k a steps.1 why
none_shut es (waits n ms) more bytes rest k o a steps used so is lives why =
    let before : live k es ≡ o ∷ [] = sym (live_then es (waits n ms) k refl refl) ∙ lives in
    not_due es (waits n ms) more bytes rest k tt so is (record { arrives = record { number = n; way = 3 }; rest = []; at = time_arrives k es n ms ∙ ap (λ cs. map (λ c. record { number = n; way = way_of_call c }) cs) (time_comes_to k es n ms o before) })
none_shut es (stops n) more bytes rest k o a steps used so is lives why =
    let f = so k o (sym (live_then es (stops n) k refl refl) ∙ lives) in let no : sent bytes ∷ rest ≡ graph _ ∷ f.1 = sym is ∙ f.2 in cc no

-- what stands after the STEP of this event is no reply, unless nothing of the graph's follows
quiet_other : (es : List Event) (e : Event) → ((n : ℕ) (bytes : List ℕ) (m : Brought) → e ≡ hears n bytes m → ⊥) → RepliesNothing (es ++ e ∷ [])
quiet_other es e other = λ b n taken m at alone. absurd (other n taken m (same_last es b e (hears n taken m) at).last)

quiet_frame : (es : List Event) (n : ℕ) (bytes : List ℕ) (m : Brought) → (ComesToNone es m → reply_of (client es) m ≡ []) → RepliesNothing (es ++ hears n bytes m ∷ [])
quiet_frame es n bytes m none = λ b i taken x at alone.
    let l = same_last es b (hears n bytes m) (hears i taken x) at in
    let same : m ≡ x = message_of n i bytes taken m x l.last in
    subst (λ z. reply_of (client b) z ≡ []) same (subst (λ z. reply_of (client z) m ≡ []) l.front (none (subst (λ z. ComesToNone z m) (sym l.front) (subst (ComesToNone b) (sym same) alone))))
  where
    message_of : (n i : ℕ) (b c : List ℕ) (x y : Brought) → hears n b x ≡ hears i c y → x ≡ y
    message_of n i b c x y e = cc

silent_after : (es : List Event) (e : Event) (came : List Arrived) (more outs : List Out) → IsUsed e → IsOutside outs → StepComes es e came more → RepliesNothing (es ++ e ∷ []) ⊎ (HaveNoGraph more × IsOutside outs)
silent_after es (puts o) came more outs used still c = absurd used
silent_after es (starts n s) came more outs used still c = inl (quiet_other es (starts n s) (λ i bytes m is. let no : starts n s ≡ hears i bytes m = is in cc))
silent_after es (waits n ms) came more outs used still c = inl (quiet_other es (waits n ms) (λ i bytes m is. let no : waits n ms ≡ hears i bytes m = is in cc))
silent_after es (stops n) came more outs used still c = inl (quiet_other es (stops n) (λ i bytes m is. let no : stops n ≡ hears i bytes m = is in cc))
silent_after es (hears n bytes m) came more outs used still c = elim (c.silent n bytes m refl) [
  | inl none ↦ inl (quiet_frame es n bytes m none)
  | inr plainly ↦ inr (plainly, still)
]

-- a STEP begins no entry, and ends none
still_then : (outs : List Out) (n : ℕ) → IsOutside outs → IsOutside (outs ++ step n ∷ [])
still_then outs n still = ap (λ (g : GraphSoFar). g.running) (so_far_append outs (step n ∷ [])) ∙ still

module _ (all : List Out) (framed : FramesStand all) (tried_so : TriesStandWithin all) where
  -- one more record was used
  step_agreed : (ins : List In) (outs : List Out) (p : Progress) (so_far came : List Arrived) (r : In) (number : ℕ) (more later : List Out) (before es : List Event) → all ≡ (outs ++ (step number ∷ more)) ++ later →
      IsOutside outs → Course ins (without_graph outs) p → IsHistory ins (without_graph outs) before → EachEvent Known [] es → EachThen TriesSo [] es → (u : FirstUsed before es r number (without_graph more)) → StepComes before u.event came more →
      Agreed ins outs before so_far → Agreed (ins ++ r ∷ []) (outs ++ (step number ∷ more)) es (so_far ++ came)
  step_agreed ins outs p so_far came r number more later before es at still c h known tries u comes i =
      let e = u.event in
      let w = i.whole ++ e ∷ [] in
      let known_all = subst (EachEvent Known []) u.goes_on known in
      let tries_after = each_then_last TriesSo [] (before ++ e ∷ []) (told (without_graph more)) (subst (EachThen TriesSo []) u.goes_on tries) in
      let known_there = each_first Known [] (before ++ e ∷ []) (told (without_graph more)) known_all in
      let known_after = each_last Known [] (before ++ e ∷ []) (told (without_graph more)) known_all in
      let known_here : Known before e = (each_last Known [] before (e ∷ []) known_there).0 in
      let outputs_w : outputs w ≡ outs ++ step number ∷ [] = outputs_append i.whole (e ∷ []) ∙ ap (λ z. z ++ outputs (e ∷ [])) i.written ∙ ap (λ z. outs ++ z ∷ []) u.is_step in
      let plain_w : plain w ≡ before ++ e ∷ [] = plain_events_append i.whole (e ∷ []) ∙ ap (λ z. z ++ plain (e ∷ [])) i.without ∙ ap (λ z. before ++ z) (plain_used e u.used) in
      let outside_w : IsOutside (outputs w) = subst IsOutside (sym outputs_w) (still_then outs number still) in
      let context : Context w more = record {
        alone = subst Solitude (sym plain_w) (alone_then before e known_here (course_alone ins (without_graph outs) p before c h));
        there = inr (record {
          due = λ bytes rest is earlier n there k due.
              let d = due_at k (plain w) before e u.used due plain_w in absurd (not_due before e more bytes rest k u.used comes.starts_so is d);
          closes = λ bytes rest is earlier n there k o lives why.
              none_shut before e more bytes rest k o (course_alone ins (without_graph outs) p before c h) known_here.steps u.used comes.starts_so is (subst (λ z. live k z ≡ o ∷ []) plain_w lives) (subst (ClosesNow k) plain_w why);
          silent = subst (λ z. RepliesNothing z ⊎ (HaveNoGraph more × IsOutside (outputs w))) (sym plain_w) (silent_after before e came more (outputs w) u.used outside_w comes);
          last = inl (λ front k count there. let no : step number ≡ tried k count = last_out outs front (step number) (tried k count) (sym outputs_w ∙ there) in cc no);
        });
      } in
      let at_w : all ≡ outputs w ++ (more ++ later) =
      at ∙ append_assoc outs (step number ∷ more) later ∙ sym (append_assoc outs (step number ∷ []) (more ++ later)) ∙ ap (λ z. z ++ (more ++ later)) (sym outputs_w) in
      let put_there = all_told_so all framed tried_so w more later at_w (subst (λ z. EachEvent Known z (told (without_graph more))) (sym plain_w) known_after)
      (subst (λ z. EachThen TriesSo z (told (without_graph more))) (sym plain_w) tries_after) context in
      record {
        whole = i.whole ++ (e ∷ told more);
        written = ap outputs (sym (append_assoc i.whole (e ∷ []) (told more))) ∙ outputs_append w (told more) ∙ ap (λ z. z ++ outputs (told more)) outputs_w
            ∙ ap (λ z. (outs ++ step number ∷ []) ++ z) (told_outputs more) ∙ append_assoc outs (step number ∷ []) more;
        without = ap plain (sym (append_assoc i.whole (e ∷ []) (told more))) ∙ plain_events_append w (told more) ∙ ap (λ z. z ++ plain (told more)) plain_w
            ∙ ap (λ z. (before ++ e ∷ []) ++ z) (plain_told more) ∙ sym u.goes_on;
        steps = stepped.uses ins outs before r e number more i.steps h u.is_record u.is_step u.read comes.starts_so;
        arrived = λ k. came_append k so_far came ∙ ap (λ z. z ++ came_to k came) (i.arrived k) ∙ ap (λ z. arrivals k before ++ z) (comes.counted k)
            ∙ sym (arrivals_more k before e) ∙ sym (arrivals_told k (before ++ e ∷ []) (without_graph more)) ∙ ap (arrivals k) (sym u.goes_on);
        leaves = each_append LeavesSo [] i.whole (e ∷ told more) i.leaves (leaves_used i.whole e u.used, put_there);
      }

  -- or a step went on, while no open lived but drives'
  more_agreed : (ins : List In) (outs : List Out) (so_far : List Arrived) (added later : List Out) (before es : List Event) → all ≡ (outs ++ added) ++ later → IsHistory ins (without_graph outs) before → Solitude before → OnlyDrivesLive before →
      BeginsNoFrame (without_graph added) →
      EachEvent Known [] es → EachThen TriesSo [] es → es ≡ before ++ told (without_graph added) → Agreed ins outs before so_far → Agreed ins (outs ++ added) es so_far
  more_agreed ins outs so_far added later before es at h alone drives first known tries goes i =
      let w = i.whole in
      let known_after = each_last Known [] before (told (without_graph added)) (subst (EachEvent Known []) goes known) in
      let tries_after = each_then_last TriesSo [] before (told (without_graph added)) (subst (EachThen TriesSo []) goes tries) in
      let at_w : all ≡ outputs w ++ (added ++ later) = at ∙ append_assoc outs added later ∙ ap (λ z. z ++ (added ++ later)) (sym i.written) in
      let put_there = all_told_so all framed tried_so w added later at_w (subst (λ z. EachEvent Known z (told (without_graph added))) (sym i.without) known_after)
      (subst (λ z. EachThen TriesSo z (told (without_graph added))) (sym i.without) tries_after) (record { alone = subst Solitude (sym i.without) alone; there = inl first }) in
      record {
        whole = w ++ told added;
        written = outputs_append w (told added) ∙ ap (λ z. z ++ outputs (told added)) i.written ∙ ap (λ z. outs ++ z) (told_outputs added);
        without = plain_events_append w (told added) ∙ ap (λ z. z ++ plain (told added)) i.without ∙ ap (λ z. before ++ z) (plain_told added) ∙ sym goes;
        steps = stepped.goes_on ins outs before added i.steps h drives;
        arrived = λ k. i.arrived k ∙ sym (arrivals_told k before (without_graph added)) ∙ ap (arrivals k) (sym goes);
        leaves = each_append LeavesSo [] w (told added) i.leaves put_there;
      }

  used_agreed : (ins : List In) (outs : List Out) (p : Progress) (so_far came : List Arrived) (r : In) (number : ℕ) (more later : List Out) (before es : List Event) → all ≡ (outs ++ (step number ∷ more)) ++ later → number ≡ p.used + 1 →
      IsOutside outs → Course ins (without_graph outs) p → IsHistory ins (without_graph outs) before → EachEvent Known [] es → EachThen TriesSo [] es → IsHistory (ins ++ r ∷ []) (without_graph (outs ++ (step number ∷ more))) es →
      BeginsStep (r ∷ []) p (step number ∷ more) came → Agreed ins outs before so_far → Agreed (ins ++ r ∷ []) (outs ++ (step number ∷ more)) es (so_far ++ came)
  used_agreed ins outs p so_far came r number more later before es at numbered still c h known tries hall s i =
      let u = used_history ins outs more before es r number h hall in
      let t = story_of ins (without_graph outs) p before c h in
      let same : s.0 ≡ more = outs_same (step (p.used + 1)) (step number) s.0 more (sym s.1) in
      let comes = step_comes before p.standing r number came more u.event t.base t.device u.used u.is_record u.is_step u.read
      (subst (λ z. StandsFirst r p.standing came z) same s.2) (subst (λ z. BringsTo r z p.standing came) (sym numbered) s.3) in
      step_agreed ins outs p so_far came r number more later before es at still c h known tries u comes i
    where
      outs_same : (x y : Out) (xs ys : List Out) → x ∷ xs ≡ y ∷ ys → xs ≡ ys
      outs_same x y xs ys e = cc

  pub agreed : (ins : List In) (outs : List Out) (p : Progress) (so_far : List Arrived) (later : List Out) (es : List Event) → FollowsMachine ins outs p so_far → all ≡ outs ++ later → IsHistory ins (without_graph outs) es → Agreed ins outs es so_far
  agreed ins outs p so_far later es nothing at h =
      subst (λ z. Agreed [] [] z []) (sym (all_told es (sym h.used) ∙ ap told (sym h.written)))
      (record { whole = []; written = refl; without = refl; steps = stepped.nothing; arrived = none_arrived; leaves = tt })
  agreed ins outs p so_far later es (uses ins0 outs0 p0 before_came r added p1 came f still b s) at h =
      let c0 = follows_course ins0 outs0 p0 before_came f in
      let (before, h0, one) = has_one ins0 (without_graph outs0) p0 c0 in
      let i = agreed ins0 outs0 p0 before_came (added ++ later) before f (at ∙ append_assoc outs0 added later) h0 in
      let whole = follows_course (ins0 ++ r ∷ []) (outs0 ++ added) p1 (before_came ++ came) (uses ins0 outs0 p0 before_came r added p1 came f still b s) in
      let known = course_known (ins0 ++ r ∷ []) (without_graph (outs0 ++ added)) p1 es whole h in
      let tries = course_tries (ins0 ++ r ∷ []) (without_graph (outs0 ++ added)) p1 es whole h in
      let number = p0.used + 1 in
      subst (λ z. Agreed (ins0 ++ r ∷ []) (outs0 ++ z) es (before_came ++ came)) (sym s.1)
      (used_agreed ins0 outs0 p0 before_came came r number s.0 later before es (subst (λ z. all ≡ (outs0 ++ z) ++ later) s.1 at) refl still c0 h0 known tries
      (subst (λ z. IsHistory (ins0 ++ r ∷ []) (without_graph (outs0 ++ z)) es) s.1 h) (subst (λ z. BeginsStep (r ∷ []) p0 z came) s.1 s) i)
  agreed ins outs p so_far later es (goes_on ins0 outs0 p0 came added p1 f busy v) at h =
      let c0 = follows_course ins0 outs0 p0 came f in
      let (before, h0, one) = has_one ins0 (without_graph outs0) p0 c0 in
      let i = agreed ins0 outs0 p0 came (added ++ later) before f (at ∙ append_assoc outs0 added later) h0 in
      let whole = follows_course ins0 (outs0 ++ added) p1 came (goes_on ins0 outs0 p0 came added p1 f busy v) in
      let known = course_known ins0 (without_graph (outs0 ++ added)) p1 es whole h in
      let tries = course_tries ins0 (without_graph (outs0 ++ added)) p1 es whole h in
      let alone = course_alone ins0 (without_graph outs0) p0 before c0 h0 in
      let t = story_of ins0 (without_graph outs0) p0 before c0 h0 in
      more_agreed ins0 outs0 came added later before es at h0 alone (drives_where_on before (without_graph outs0) p0.standing alone t.scripts busy)
      (moves_first before (without_graph outs0) (without_graph added) p0 p1 t.scripts v) known tries (written_history ins0 outs0 added before es h0 h) i

-- what a run used and wrote, and what closes it
pub run_agrees : (ins : List In) (outs closing : List Out) (p : Progress) (came : List Arrived) (h last : Holdings) (es : List Event) → FollowsMachine ins outs p came → Traced outs h came → Traced (outs ++ closing) last came → IsHistory ins (without_graph outs) es →
    AreStepped ins outs × EntriesAgree outs closing es
run_agrees ins outs closing p came h last es f t all_t history =
    let a = agreed outs (frames_stand outs h came t) (tries_stand outs h came t) ins outs p came [] es f (sym (append-nil outs)) history in (
      a.steps,
      record {
        whole = a.whole;
        written = a.written;
        without = a.without;
        entered = λ k. entered outs h came t k ∙ a.arrived k;
        leaves = a.leaves;
        own = lowest_are_own (outs ++ closing) last came all_t;
      },
    )
