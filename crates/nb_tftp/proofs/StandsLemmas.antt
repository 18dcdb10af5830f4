-- A transfer goes on to stand for its calls.
use Rattle.std.proofs.Common.{◌≡◌, ℕ, suc, List, [], ◌∷◌, ◌++◌, length, Option, Some, None, Bool, true, false, cond, ◌&&◌, ◌||◌, refl, ap, ◌∙◌, sym, subst, ltb, eqb, drop}
use Rattle.std.specs.Prelude.{unwrap_or, filter, map}
use Rattle.std.specs.List.{flat_map, list_any}
use Rattle.std.specs.Option.{option_map_or, is_some, is_none}
use Rattle.std.proofs.lemmas.Bool.{false≢true}
use Rattle.std.proofs.lemmas.List.{append-nil}
use Rattle.std.proofs.lemmas.List.Concat.{flat_map-append}
use Rattle.std.proofs.lemmas.List.Folds.{list_any-append}
use Rattle.nb_retry.specs.declared.plan.Plan.TheVariants.{Common}
use Rattle.nb_retry.specs.Calls.{fires, TimerStands}
use Rattle.nb_retry.specs.Plans.{firings, waits}
use Rattle.nb_retry.specs.Timer.{started}
use Rattle.nb_terms.specs.declared.acts.Acts.{Acts}
use Rattle.nb_terms.specs.declared.acts.SendTo.{SendTo}
use Rattle.nb_terms.specs.declared.cause.Cause.{Cause}
use Rattle.nb_tftpmsg.proofs.PacketLemmas.{IsBytes}
use Rattle.nb_tftp.specs.declared.answer.Answer.{Answer}
use Rattle.nb_tftp.specs.declared.answer.Answer.TheVariants.{Ignored, Stranger, Again, Agreed, Declined, Taken, Ended}
use Rattle.nb_tftp.specs.declared.answer.Phase.TheVariants.{Taking, Over}
use Rattle.nb_tftp.specs.declared.state.State.{State}
use Rattle.nb_tftp.specs.Asks.{Begun, acts_of, ack_of, taken}
use Rattle.nb_tftp.specs.Ends.{broken_block}
use Rattle.nb_tftp.specs.Decisions.{from_server, block_size_of, transfer_has_ended, end_of_block}
use Rattle.nb_tftp.specs.Steps.{state_after_answer}
use Rattle.nb_tftp.specs.Received.{Received, packet_in, block_bytes, is_block, is_grant, size_in, port_with, size_with}
use Rattle.nb_tftp.specs.Blocks.{blocks_with, count_with, file_with, whole_with, last_block}
use Rattle.nb_tftp.specs.History.{Entry, entry, came, got, last_advance, given, given_of, is_ended, ends_ok, watched, Watch, watch_from}
use Rattle.nb_tftp.specs.Sentences.{MeetsWith, AsksSoWith, OkWhereWholeWith, TriesUnanswered, FollowsCommonPlan, answers_with, answer_to, grants_first}
use Rattle.nb_tftp.specs.Stands.{StandsWith}
use Rattle.nb_tftp.proofs.BlockLemmas.{either_way, last_block-append}
use Rattle.nb_tftp.proofs.ReceivedLemmas.{by_option, and_left, no_blocks, size_stays, Waits, is_next, fits, kept_agreement, kept_size, kept_blocks, kept_waits, granted_port, granted_size, granted_waits, grant_next, none_counted, more_port, more_size, more_blocks, more_count, more_waits}
use Rattle.nb_tftp.proofs.AnswerLemmas.{Means, means, block_body, given_block}
use Rattle.nb_tftp.proofs.HistoryLemmas.{got-append, given-append, last_advance-append, is_ended-append, watched-append, EachEntry-append}

pub or_left : (a b : Bool) → (a || b) ≡ false → a ≡ false
or_left true b is = is
or_left false b is = refl

-- the promises keep when a call gives no place and no bytes, changes no block and no time that was asked
pub keeps : (opts : Bool) (b : Begun) (start : ℕ) (h : List Entry) (e : Entry) → MeetsWith opts b start h
    → (e.acts.advance ≡ None) → (given_of e.call e.acts.give ≡ [])
    → (blocks_with opts (got (h ++ e ∷ [])) ≡ blocks_with opts (got h))
    → (ends_ok e.acts ≡ whole_with opts (got (h ++ e ∷ [])))
    → AsksSoWith opts b h e → TriesUnanswered opts start h e
    → FollowsCommonPlan start (h ++ e ∷ [])
    → MeetsWith opts b start (h ++ e ∷ [])
keeps opts b start h e meets no_place no_bytes same whole asks unanswered tries = record {
  advance = last_advance-append h e ∙ ap (λ a. unwrap_or a (last_advance h)) no_place ∙ meets.advance ∙ sym (ap length same);
  bytes = given-append h e ∙ ap (λ g. given h ++ g) no_bytes ∙ append-nil (given h) ∙ meets.bytes ∙ sym (ap (λ bs. flat_map (λ block. block) bs) same);
  whole = EachEntry-append (OkWhereWholeWith opts) [] h e meets.whole whole;
  sending = EachEntry-append (AsksSoWith opts b) [] h e meets.sending asks;
  tries = tries;
  unanswered = EachEntry-append (TriesUnanswered opts start) [] h e meets.unanswered unanswered;
}

pub or_none : (a : Bool) → (a || false) ≡ a
or_none true = refl
or_none false = refl

pub or_some : (a : Bool) → (a || true) ≡ true
or_some true = refl
or_some false = refl

-- how a watch goes on at a datagram that starts no timer
heard_more : (start : ℕ) (h : List Entry) (m : Received) (now : ℕ) (acts : Acts) → acts.tried ≡ None → watched start (h ++ entry (came m now) acts ∷ []) ≡ record (watched start h) { heard = (watched start h).heard ++ m ∷ [] }
heard_more start h m now acts quiet = watched-append start h (entry (came m now) acts) ∙ ap (λ t. cond (is_some t) (watch_from now) (record (watched start h) { heard = (watched start h).heard ++ m ∷ [] })) quiet

abbrev pub PlanOf : Watch → Type 0
PlanOf w = filter (λ call. fires call.said) w.times ≡ firings w.since (waits Common) (map (λ call. call.at) w.times)

-- a datagram that calls for nothing, or for a message without a timer
quiet_step : (opts : Bool) (b : Begun) (start : ℕ) (state : State) (h : List Entry) (m : Received) (now : ℕ) (acts : Acts)
    → StandsWith opts b start state h → transfer_has_ended state.phase ≡ false
    → is_next opts (got h) m ≡ false → answers_with opts (port_with opts (got h)) (count_with opts (got h)) m ≡ false
    → acts.advance ≡ None → acts.give ≡ None → acts.tried ≡ None → acts.over ≡ None
    → AsksSoWith opts b h (entry (came m now) acts)
    → StandsWith opts b start state (h ++ entry (came m now) acts ∷ [])
quiet_step opts b start state h m now acts stands unended other unanswered no_place no_range no_try no_end asks =
    let e : Entry = entry (came m now) acts in
    let live = stands.live unended in
    let more : got (h ++ e ∷ []) ≡ got h ++ m ∷ [] = got-append h e in
    let ungranted = or_left (grants_first opts (port_with opts (got h)) m) _ unanswered in
    let same : blocks_with opts (got (h ++ e ∷ [])) ≡ blocks_with opts (got h) = ap (blocks_with opts) more ∙ kept_blocks opts (got h) m live.waiting (ap (λ x. x && fits (size_with opts (got h)) m) other) in
    let port : port_with opts (got (h ++ e ∷ [])) ≡ port_with opts (got h) = ap (port_with opts) more ∙ kept_agreement opts (got h) m other ungranted in
    let sized : size_with opts (got (h ++ e ∷ [])) ≡ size_with opts (got h) = ap (size_with opts) more ∙ kept_size opts (got h) m ungranted in
    let number : count_with opts (got (h ++ e ∷ [])) ≡ count_with opts (got h) = ap length same in
    let unfinished : whole_with opts (got (h ++ e ∷ [])) ≡ false =
    ap (λ bs. option_map_or (λ block. ltb (length block) (size_with opts (got (h ++ e ∷ [])))) (last_block bs) false) same
    ∙ ap (λ s. option_map_or (λ block. ltb (length block) s) (last_block (blocks_with opts (got h))) false) sized ∙ live.unfinished in
    let watch = heard_more start h m now acts no_try in
    record {
      meets = keeps opts b start h e stands.meets no_place (ap (λ r. given_of (came m now) r) no_range) same
          (ap (λ o. option_map_or (λ (c : Cause). eqb c.code 0) o false) no_end ∙ sym unfinished)
          asks tt (subst PlanOf (sym watch) stands.meets.tries);
      over = stands.over ∙ sym (is_ended-append h e ∙ ap (λ o. is_ended h || is_some o) no_end ∙ or_none (is_ended h));
      live = λ _. record {
        begun = live.begun;
        asked = live.asked;
        fixed = live.fixed ∙ sym port;
        size = live.size ∙ sym sized;
        last = live.last ∙ sym number;
        waiting = subst (Waits opts) (sym more) (kept_waits opts (got h) m live.waiting other ungranted);
        unfinished = unfinished;
        timer = subst (λ (w : Watch). TimerStands state.retry w.times) (sym watch) live.timer;
        since = live.since ∙ sym (ap (λ w. w.since) watch);
        plan = live.plan;
        unanswered =
            ap (λ f. list_any (answers_with opts f (count_with opts (got (h ++ e ∷ [])))) (watched start (h ++ e ∷ [])).heard) port
            ∙ ap (λ n. list_any (answers_with opts (port_with opts (got h)) n) (watched start (h ++ e ∷ [])).heard) number
            ∙ ap (λ w. list_any (answers_with opts (port_with opts (got h)) (count_with opts (got h))) w.heard) watch
            ∙ list_any-append (answers_with opts (port_with opts (got h)) (count_with opts (got h))) (watched start h).heard (m ∷ [])
            ∙ ap (λ x. x || (answers_with opts (port_with opts (got h)) (count_with opts (got h)) m || false)) live.unanswered
            ∙ ap (λ x. x || false) unanswered;
      };
    }

-- where no block is taken, the file is no more whole than before: as long as there is a block the size stays
still_open : (opts : Bool) (got : List Received) (m : Received) → Waits opts got → (is_next opts got m && fits (size_with opts got) m) ≡ false → whole_with opts got ≡ false → whole_with opts (got ++ m ∷ []) ≡ false
still_open opts got m waits other unfinished = by_option (port_with opts got)
    (λ none. ap (λ bs. option_map_or (λ block. ltb (length block) (size_with opts (got ++ m ∷ []))) (last_block bs) false) (kept_blocks opts got m waits other ∙ no_blocks opts got none))
    (λ port some.
    ap (λ bs. option_map_or (λ block. ltb (length block) (size_with opts (got ++ m ∷ []))) (last_block bs) false) (kept_blocks opts got m waits other)
    ∙ ap (λ s. option_map_or (λ block. ltb (length block) s) (last_block (blocks_with opts got)) false) (size_stays opts got m port some) ∙ unfinished)

-- a datagram that ends the transfer, and is no block
ended_step : (opts : Bool) (b : Begun) (start : ℕ) (state : State) (h : List Entry) (m : Received) (now : ℕ) (cause : Cause) (acts : Acts)
    → StandsWith opts b start state h → transfer_has_ended state.phase ≡ false
    → (is_next opts (got h) m && fits (size_with opts (got h)) m) ≡ false → eqb cause.code 0 ≡ false
    → acts.advance ≡ None → acts.give ≡ None → acts.tried ≡ None → acts.over ≡ Some cause
    → AsksSoWith opts b h (entry (came m now) acts)
    → StandsWith opts b start (record state { phase = Over }) (h ++ entry (came m now) acts ∷ [])
ended_step opts b start state h m now cause acts stands unended other bad no_place no_range no_try told asks =
    let e : Entry = entry (came m now) acts in
    let live = stands.live unended in
    let more : got (h ++ e ∷ []) ≡ got h ++ m ∷ [] = got-append h e in
    let same : blocks_with opts (got (h ++ e ∷ [])) ≡ blocks_with opts (got h) = ap (blocks_with opts) more ∙ kept_blocks opts (got h) m live.waiting other in
    let unfinished : whole_with opts (got (h ++ e ∷ [])) ≡ false = ap (whole_with opts) more ∙ still_open opts (got h) m live.waiting other live.unfinished in
    record {
      meets = keeps opts b start h e stands.meets no_place (ap (λ r. given_of (came m now) r) no_range) same
          (ap (λ o. option_map_or (λ (c : Cause). eqb c.code 0) o false) told ∙ bad ∙ sym unfinished)
          asks tt (subst PlanOf (sym (heard_more start h m now acts no_try)) stands.meets.tries);
      over = sym (is_ended-append h e ∙ ap (λ o. is_ended h || is_some o) told ∙ or_some (is_ended h));
      live = λ unended. absurd (false≢true (sym unended));
    }

-- the first OACK, with a size to agree on
agreed_step : (opts : Bool) (b : Begun) (start : ℕ) (state : State) (h : List Entry) (m : Received) (now size : ℕ)
    → StandsWith opts b start state h → transfer_has_ended state.phase ≡ false
    → port_with opts (got h) ≡ None → (opts && is_grant m) ≡ true → size ≡ size_in m
    → AsksSoWith opts b h (entry (came m now) (acts_of b m.port (Agreed size)))
    → StandsWith opts b start (state_after_answer state m.port (Agreed size) now) (h ++ entry (came m now) (acts_of b m.port (Agreed size)) ∷ [])
agreed_step opts b start state h m now size stands unended none on sized asks =
    let acts : Acts = acts_of b m.port (Agreed size) in
    let e : Entry = entry (came m now) acts in
    let live = stands.live unended in
    let more : got (h ++ e ∷ []) ≡ got h ++ m ∷ [] = got-append h e in
    let other : (is_next opts (got h) m && fits (size_with opts (got h)) m) ≡ false = ap (λ x. x && fits (size_with opts (got h)) m) (grant_next opts (got h) m on) in
    let same : blocks_with opts (got (h ++ e ∷ [])) ≡ blocks_with opts (got h) = ap (blocks_with opts) more ∙ kept_blocks opts (got h) m live.waiting other in
    let unfinished : whole_with opts (got (h ++ e ∷ [])) ≡ false = ap (whole_with opts) more ∙ still_open opts (got h) m live.waiting other live.unfinished in
    let watch : watched start (h ++ e ∷ []) ≡ watch_from now = watched-append start h e in
    record {
      meets = keeps opts b start h e stands.meets refl refl same (sym unfinished) asks tt (subst PlanOf (sym watch) refl);
      over = sym (is_ended-append h e ∙ or_none (is_ended h) ∙ sym stands.over ∙ unended);
      live = λ _. record {
        begun = live.begun;
        asked = live.asked;
        fixed = sym (ap (port_with opts) more ∙ granted_port opts (got h) m none on);
        size = sized ∙ sym (ap (size_with opts) more ∙ granted_size opts (got h) m none on);
        last = sym (ap length same ∙ none_counted opts (got h) none);
        waiting = subst (Waits opts) (sym more) (granted_waits opts (got h) m live.waiting none on);
        unfinished = unfinished;
        timer = subst (λ (w : Watch). TimerStands (started now Common) w.times) (sym watch) refl;
        since = sym (ap (λ w. w.since) watch);
        plan = refl;
        unanswered = ap (λ w. list_any (answers_with opts (port_with opts (got (h ++ e ∷ []))) (count_with opts (got (h ++ e ∷ [])))) w.heard) watch;
      };
    }

-- a block ends the transfer in Ok exactly where it is short
end_whole : (size n len : ℕ) → option_map_or (λ (c : Cause). eqb c.code 0) (end_of_block size n len) false ≡ ltb len size
end_whole size n len = either_way (ltb len size)
    (λ on. rw on refl)
    (λ off. either_way (eqb n 65535) (λ last. rw (off, last) refl) (λ more. rw (off, more) refl))

block_more : (opts : Bool) (got : List Received) (m : Received) → Waits opts got → is_next opts got m ≡ true → fits (size_with opts got) m ≡ true → file_with opts (got ++ m ∷ []) ≡ file_with opts got ++ block_bytes m
block_more opts got m waits next short =
    ap (λ bs. flat_map (λ block. block) bs) (more_blocks opts got m waits next short)
    ∙ flat_map-append (λ block. block) (blocks_with opts got) (block_bytes m ∷ [])
    ∙ ap (λ bs. file_with opts got ++ bs) (append-nil (block_bytes m))

whole_more : (opts : Bool) (got : List Received) (m : Received) → Waits opts got → is_next opts got m ≡ true → fits (size_with opts got) m ≡ true → whole_with opts (got ++ m ∷ []) ≡ ltb (length (block_bytes m)) (size_with opts got)
whole_more opts got m waits next short =
    ap (λ bs. option_map_or (λ block. ltb (length block) (size_with opts (got ++ m ∷ []))) (last_block bs) false) (more_blocks opts got m waits next short)
    ∙ ap (λ s. option_map_or (λ block. ltb (length block) s) (last_block (blocks_with opts got ++ block_bytes m ∷ [])) false) (more_size opts got m next)
    ∙ ap (λ l. option_map_or (λ block. ltb (length block) (size_with opts got)) l false) (last_block-append (blocks_with opts got) (block_bytes m))

-- the promises keep at the next block
taken_meets : (opts : Bool) (b : Begun) (start : ℕ) (h : List Entry) (m : Received) (now n len : ℕ) (send : SendTo) (over : Option Cause)
    → MeetsWith opts b start h → Waits opts (got h)
    → n ≡ suc (count_with opts (got h)) → len ≡ length (block_bytes m) → is_next opts (got h) m ≡ true → fits (size_with opts (got h)) m ≡ true → drop 4 m.body ≡ block_bytes m
    → option_map_or (λ (c : Cause). eqb c.code 0) over false ≡ ltb len (size_with opts (got h))
    → AsksSoWith opts b h (entry (came m now) (taken send n len over))
    → FollowsCommonPlan start (h ++ entry (came m now) (taken send n len over) ∷ [])
    → MeetsWith opts b start (h ++ entry (came m now) (taken send n len over) ∷ [])
taken_meets opts b start h m now n len send over meets waits number size next short there whole asks tries =
    let e : Entry = entry (came m now) (taken send n len over) in
    let more : got (h ++ e ∷ []) ≡ got h ++ m ∷ [] = got-append h e in
    record {
      advance = last_advance-append h e ∙ number ∙ sym (ap (count_with opts) more ∙ more_count opts (got h) m waits next short);
      bytes = given-append h e ∙ ap (λ g. given h ++ g) (given_block m now (block_bytes m) len there size) ∙ ap (λ g. g ++ block_bytes m) meets.bytes ∙ sym (ap (file_with opts) more ∙ block_more opts (got h) m waits next short);
      whole = EachEntry-append (OkWhereWholeWith opts) [] h e meets.whole (whole ∙ ap (λ l. ltb l (size_with opts (got h))) size ∙ sym (ap (whole_with opts) more ∙ whole_more opts (got h) m waits next short));
      sending = EachEntry-append (AsksSoWith opts b) [] h e meets.sending asks;
      tries = tries;
      unanswered = EachEntry-append (TriesUnanswered opts start) [] h e meets.unanswered tt;
    }

-- a watch begins anew at a block after which more come
watch_anew : (start : ℕ) (h : List Entry) (m : Received) (now n len : ℕ) (send : SendTo) → watched start (h ++ entry (came m now) (taken send n len None) ∷ []) ≡ watch_from now
watch_anew start h m now n len send = watched-append start h (entry (came m now) (taken send n len None))

-- the next block, by the end that it makes
taken_by : (opts : Bool) (b : Begun) (start : ℕ) (state : State) (h : List Entry) (m : Received) (now n len : ℕ) (send : SendTo) (over : Option Cause)
    → StandsWith opts b start state h → transfer_has_ended state.phase ≡ false
    → n ≡ suc (count_with opts (got h)) → len ≡ length (block_bytes m) → is_next opts (got h) m ≡ true → fits (size_with opts (got h)) m ≡ true → drop 4 m.body ≡ block_bytes m
    → option_map_or (λ (c : Cause). eqb c.code 0) over false ≡ ltb len (size_with opts (got h))
    → AsksSoWith opts b h (entry (came m now) (taken send n len over))
    → StandsWith opts b start (cond (is_none over) (record state { phase = Taking m.port (block_size_of state.phase) n; retry = started now Common }) (record state { phase = Over })) (h ++ entry (came m now) (taken send n len over) ∷ [])
taken_by opts b start state h m now n len send None stands unended number size next short there whole asks =
    let e : Entry = entry (came m now) (taken send n len None) in
    let live = stands.live unended in
    let more : got (h ++ e ∷ []) ≡ got h ++ m ∷ [] = got-append h e in
    let watch = watch_anew start h m now n len send in
    record {
      meets = taken_meets opts b start h m now n len send None stands.meets live.waiting number size next short there whole asks (subst PlanOf (sym watch) refl);
      over = sym (is_ended-append h e ∙ or_none (is_ended h) ∙ sym stands.over ∙ unended);
      live = λ _. record {
        begun = live.begun;
        asked = live.asked;
        fixed = sym (ap (port_with opts) more ∙ more_port opts (got h) m next);
        size = live.size ∙ sym (ap (size_with opts) more ∙ more_size opts (got h) m next);
        last = number ∙ sym (ap (count_with opts) more ∙ more_count opts (got h) m live.waiting next short);
        waiting = subst (Waits opts) (sym more) (more_waits opts (got h) m live.waiting next short);
        unfinished = ap (whole_with opts) more ∙ whole_more opts (got h) m live.waiting next short ∙ ap (λ l. ltb l (size_with opts (got h))) (sym size) ∙ sym whole;
        timer = subst (λ (w : Watch). TimerStands (started now Common) w.times) (sym watch) refl;
        since = sym (ap (λ w. w.since) watch);
        plan = refl;
        unanswered = ap (λ w. list_any (answers_with opts (port_with opts (got (h ++ e ∷ []))) (count_with opts (got (h ++ e ∷ [])))) w.heard) watch;
      };
    }
taken_by opts b start state h m now n len send (Some cause) stands unended number size next short there whole asks =
    let e : Entry = entry (came m now) (taken send n len (Some cause)) in
    let live = stands.live unended in
    record {
      meets = taken_meets opts b start h m now n len send (Some cause) stands.meets live.waiting number size next short there whole asks (subst PlanOf (sym (heard_more start h m now (taken send n len (Some cause)) refl)) stands.meets.tries);
      over = sym (is_ended-append h e ∙ or_some (is_ended h));
      live = λ unended. absurd (false≢true (sym unended));
    }

-- any datagram, by its answer
pub came_by : (opts : Bool) (b : Begun) (start : ℕ) (state : State) (h : List Entry) (m : Received) (now : ℕ) (a : Answer)
    → StandsWith opts b start state h → transfer_has_ended state.phase ≡ false → IsBytes m.body
    → Means opts (port_with opts (got h)) (size_with opts (got h)) (count_with opts (got h)) m.port (packet_in m) a → a ≡ answer_to opts (port_with opts (got h)) (size_with opts (got h)) (count_with opts (got h)) m
    → StandsWith opts b start (state_after_answer state m.port a now) (h ++ entry (came m now) (acts_of b m.port a) ∷ [])
came_by opts b start state h m now Ignored stands unended are means is = quiet_step opts b start state h m now (acts_of b m.port Ignored) stands unended means.0 means.1 refl refl refl refl (ap (acts_of b m.port) is)
came_by opts b start state h m now Stranger stands unended are means is = quiet_step opts b start state h m now (acts_of b m.port Stranger) stands unended means.0 means.1 refl refl refl refl (ap (acts_of b m.port) is)
came_by opts b start state h m now (Again n) stands unended are means is = quiet_step opts b start state h m now (acts_of b m.port (Again n)) stands unended means.0 means.1 refl refl refl refl (ap (acts_of b m.port) is)
came_by opts b start state h m now (Ended cause) stands unended are means is =
    ended_step opts b start state h m now cause (acts_of b m.port (Ended cause)) stands unended means.0 means.1 refl refl refl refl (ap (acts_of b m.port) is)
came_by opts b start state h m now (Declined rec) stands unended are means is =
    ended_step opts b start state h m now (broken_block rec) (acts_of b m.port (Declined rec)) stands unended means refl refl refl refl refl (ap (acts_of b m.port) is)
came_by opts b start state h m now (Agreed size) stands unended are means is =
    agreed_step opts b start state h m now size stands unended means.0 means.1 means.2 (ap (acts_of b m.port) is)
came_by opts b start state h m now (Taken n len over) stands unended are means is =
    taken_by opts b start state h m now n len (ack_of b m.port n) over stands unended means.0 means.1 means.2 means.3
    (block_body m.body (suc (count_with opts (got h))) (packet_in m) are refl (and_left (is_block (suc (count_with opts (got h))) m) (from_server (port_with opts (got h)) m.port) means.2))
    (ap (λ (o : Option Cause). option_map_or (λ (c : Cause). eqb c.code 0) o false) means.4 ∙ end_whole (size_with opts (got h)) n len)
    (ap (acts_of b m.port) is)
