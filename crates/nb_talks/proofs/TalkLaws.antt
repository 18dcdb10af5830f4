-- All that is to be said has been said, in order and once.
use Rattle.std.proofs.Common.{◌≡◌, ℕ, Bool, List, [], ◌∷◌, ◌++◌, length, drop, false, refl, ap, ◌∙◌, sym, subst, append-nil, append_assoc}
use Rattle.std.specs.List.{flat_map, fold}
use Rattle.std.proofs.lemmas.List.{drop_at}
use Rattle.std.proofs.lemmas.List.Concat.{flat_map-append}
use Rattle.std.proofs.lemmas.List.Sums.{fold-append}
use Rattle.nb_streams.specs.Segments.{Arrival}
use Rattle.nb_streams.specs.Streams.{HeldBytes, front, has_ended, IsPrefixOf}
use Rattle.nb_streams.specs.Flows.{TcpCall, segment_came, time_came, text_came, ConnPhase, asking, flowing, conn_phase, after_tcp_call, held_in, held_after}
use Rattle.nb_talks.specs.Talking.{Came, by_segment, by_time, by_task, time_of, Talker, OnlyAdds, Talk, text_of_call, said_in_all, talk_held, to_say, unsaid, text_to_send, says_on, receives, more_of, texts_by, come_of, ended_of, texts_for, text_calls, talks_on, begun_talk, talk_after}
use Rattle.nb_streams.proofs.FlowLaws.{front_grows, held_going}
use Rattle.nb_streams.proofs.OtherSendLaws.{phase_append}

-- text to send brings nothing of the stream
held_as_before : (isn : ℕ) (p : ConnPhase) (bytes : List ℕ) (now : ℕ) → held_in (after_tcp_call isn p (text_came bytes now)) ≡ held_in p
held_as_before isn (asking text) bytes now = refl
held_as_before isn (flowing f) bytes now = held_going false (record f { text = f.text ++ bytes })

held_with_text : (isn : ℕ) (cs : List TcpCall) (text : List ℕ) (now : ℕ) → held_after isn (cs ++ text_to_send text now) ≡ held_after isn cs
held_with_text isn cs [] now = ap (held_after isn) (append-nil cs)
held_with_text isn cs (b ∷ bytes) now =
    ap held_in (phase_append isn cs (text_came (b ∷ bytes) now)) ∙ held_as_before isn (conn_phase isn cs) (b ∷ bytes) now

said_with_text : (cs : List TcpCall) (text : List ℕ) (now : ℕ) → said_in_all (cs ++ text_to_send text now) ≡ said_in_all cs ++ text
said_with_text cs [] now = flat_map-append text_of_call cs []
said_with_text cs (b ∷ bytes) now = flat_map-append text_of_call cs (text_came (b ∷ bytes) now ∷ []) ∙ ap (λ t. said_in_all cs ++ t) (append-nil (b ∷ bytes))

-- so do texts that are given one after another
pub held_with_texts : (isn : ℕ) (cs : List TcpCall) (texts : List (List ℕ)) (now : ℕ) → held_after isn (cs ++ text_calls texts now) ≡ held_after isn cs
held_with_texts isn cs [] now = ap (held_after isn) (append-nil cs)
held_with_texts isn cs (x ∷ xs) now =
    ap (held_after isn) (sym (append_assoc cs (text_to_send x now) (text_calls xs now)))
    ∙ held_with_texts isn (cs ++ text_to_send x now) xs now ∙ held_with_text isn cs x now

-- texts as one
abbrev all_of : List (List ℕ) → List ℕ
all_of [] = []
all_of (x ∷ xs) = x ++ all_of xs

all_of_both : (xs ys : List (List ℕ)) → all_of (xs ++ ys) ≡ all_of xs ++ all_of ys
all_of_both [] ys = refl
all_of_both (x ∷ xs) ys = ap (λ z. x ++ z) (all_of_both xs ys) ∙ sym (append_assoc x (all_of xs) (all_of ys))

said_with_texts : (cs : List TcpCall) (texts : List (List ℕ)) (now : ℕ) → said_in_all (cs ++ text_calls texts now) ≡ said_in_all cs ++ all_of texts
said_with_texts cs [] now = flat_map-append text_of_call cs []
said_with_texts cs (x ∷ xs) now =
    ap said_in_all (sym (append_assoc cs (text_to_send x now) (text_calls xs now)))
    ∙ said_with_texts (cs ++ text_to_send x now) xs now ∙ ap (λ z. z ++ all_of xs) (said_with_text cs x now) ∙ append_assoc (said_in_all cs) x (all_of xs)

-- the rest of what is to be said completes what was
completes : (so_far all : List ℕ) → IsPrefixOf so_far all → so_far ++ drop (length so_far) all ≡ all
completes so_far all (rest, is) = ap (λ t. so_far ++ t) (ap (drop (length so_far)) is ∙ drop_at so_far rest (length so_far) refl) ∙ sym is

module _ {T : Type 0} (t : Talker T) (adds : OnlyAdds t) (isn : ℕ) where
  -- where only more is to be said, all is said then
  all_said_then : (now : ℕ) (d : Talk T) → IsPrefixOf (said_in_all d.calls) (to_say t isn d) → said_in_all (says_on t isn now d).calls ≡ to_say t isn (says_on t isn now d)
  all_said_then now d more =
      let text : List ℕ = unsaid t isn d in
      said_with_text d.calls text now ∙ completes (said_in_all d.calls) (to_say t isn d) more
      ∙ ap (λ (h : HeldBytes). t.says (front h) (has_ended h) d.tasks) (sym (held_with_text isn d.calls text now))

  -- the texts of bytes that come later complete what was to be said before
  texts_complete : (ended : Bool) (tasks : List (T × ℕ)) (come later : List ℕ) → t.says come ended tasks ++ all_of (texts_by t ended tasks come later) ≡ t.says (come ++ later) ended tasks
  texts_complete ended tasks come [] = append-nil (t.says come ended tasks) ∙ ap (λ x. t.says x ended tasks) (sym (append-nil come))
  texts_complete ended tasks come (b ∷ later) =
      let one = come ++ b ∷ [] in
      sym (append_assoc (t.says come ended tasks) (more_of (t.says come ended tasks) (t.says one ended tasks)) (all_of (texts_by t ended tasks one later)))
      ∙ ap (λ x. x ++ all_of (texts_by t ended tasks one later)) (completes (t.says come ended tasks) (t.says one ended tasks) (adds.stream come (b ∷ []) ended ended tasks))
      ∙ texts_complete ended tasks one later ∙ ap (λ x. t.says x ended tasks) (append_assoc come (b ∷ []) later)

  -- and what the end of the stream calls for completes that
  end_completes : (come : List ℕ) (before after : Bool) (tasks : List (T × ℕ)) → t.says come before tasks ++ more_of (t.says come before tasks) (t.says come after tasks) ≡ t.says come after tasks
  end_completes come before after tasks =
      completes (t.says come before tasks) (t.says come after tasks)
      (subst (λ x. IsPrefixOf (t.says come before tasks) (t.says x after tasks)) (append-nil come) (adds.stream come [] before after tasks))

  -- all that a segment brings completes what was to be said before it
  segment_completes : (d : Talk T) (m : Arrival) (now : ℕ) → to_say t isn d ++ all_of (texts_for t isn d (by_segment m now)) ≡ to_say t isn (receives isn d (by_segment m now))
  segment_completes d m now =
      let heard = receives isn d (by_segment m now) in
      let come = come_of isn d in
      let later = more_of come (come_of isn heard) in
      let grows : IsPrefixOf come (come_of isn heard) = front_grows isn d.calls (segment_came m now ∷ []) in
      let whole : come ++ later ≡ come_of isn heard = completes come (come_of isn heard) grows in
      let last = more_of (t.says (come_of isn heard) (ended_of isn d) d.tasks) (t.says (come_of isn heard) (ended_of isn heard) d.tasks) in
      let bytes = texts_by t (ended_of isn d) d.tasks come later in
      ap (λ x. to_say t isn d ++ x) (all_of_both bytes (last ∷ []) ∙ ap (λ x. all_of bytes ++ x) (append-nil last))
      ∙ sym (append_assoc (to_say t isn d) (all_of bytes) last)
      ∙ ap (λ x. x ++ last) (texts_complete (ended_of isn d) d.tasks come later ∙ ap (λ x. t.says x (ended_of isn d) d.tasks) whole)
      ∙ end_completes (come_of isn heard) (ended_of isn d) (ended_of isn heard) d.tasks

  said_still : (cs : List TcpCall) (c : TcpCall) → text_of_call c ≡ [] → said_in_all (cs ++ c ∷ []) ≡ said_in_all cs
  said_still cs c none = flat_map-append text_of_call cs (c ∷ []) ∙ ap (λ x. said_in_all cs ++ (x ++ [])) none ∙ append-nil (said_in_all cs)

  -- texts that complete what is to be said leave nothing to say
  all_said_with : (d heard : Talk T) (texts : List (List ℕ)) (now : ℕ) → said_in_all heard.calls ≡ to_say t isn d → to_say t isn d ++ all_of texts ≡ to_say t isn heard
      → said_in_all (heard.calls ++ text_calls texts now) ≡ to_say t isn (record heard { calls = heard.calls ++ text_calls texts now })
  all_said_with d heard texts now so whole =
      said_with_texts heard.calls texts now ∙ ap (λ x. x ++ all_of texts) so ∙ whole
      ∙ ap (λ (h : HeldBytes). t.says (front h) (has_ended h) heard.tasks) (sym (held_with_texts isn heard.calls texts now))

  -- a time brings nothing of the stream
  time_held : (d : Talk T) (now : ℕ) → talk_held isn (receives isn d (by_time now)) ≡ talk_held isn d
  time_held d now = ap held_in (phase_append isn d.calls (time_came now))

  one_more : (d : Talk T) (c : Came T) → said_in_all d.calls ≡ to_say t isn d → said_in_all (talks_on t isn d c).calls ≡ to_say t isn (talks_on t isn d c)
  one_more d (by_segment m now) so =
      all_said_with d (receives isn d (by_segment m now)) (texts_for t isn d (by_segment m now)) now (said_still d.calls (segment_came m now) refl ∙ so) (segment_completes d m now)
  one_more d (by_time now) so =
      all_said_with d (receives isn d (by_time now)) [] now (said_still d.calls (time_came now) refl ∙ so)
      (append-nil (to_say t isn d) ∙ ap (λ (h : HeldBytes). t.says (front h) (has_ended h) d.tasks) (sym (time_held d now)))
  one_more d (by_task task now) so =
      let heard = receives isn d (by_task task now) in
      let text : List ℕ = unsaid t isn heard in
      let more : IsPrefixOf (said_in_all d.calls) (to_say t isn heard) = subst (λ x. IsPrefixOf x (to_say t isn heard)) (sym so) (adds.task (come_of isn d) (ended_of isn d) d.tasks task) in
      said_with_texts heard.calls (text ∷ []) now ∙ ap (λ x. said_in_all d.calls ++ x) (append-nil text) ∙ completes (said_in_all d.calls) (to_say t isn heard) more
      ∙ ap (λ (h : HeldBytes). t.says (front h) (has_ended h) heard.tasks) (sym (held_with_texts isn heard.calls (text ∷ []) now))

  all_said_on : (d : Talk T) (came : List (Came T)) → said_in_all d.calls ≡ to_say t isn d → said_in_all (fold (talks_on t isn) d came).calls ≡ to_say t isn (fold (talks_on t isn) d came)
  all_said_on d [] so = so
  all_said_on d (c ∷ cs) so = all_said_on (talks_on t isn d c) cs (one_more d c so)

  pub all_is_said : (start : ℕ) (came : List (Came T)) → said_in_all (talk_after t isn start came).calls ≡ to_say t isn (talk_after t isn start came)
  all_is_said start came =
      let nothing : Talk T = record { calls = []; tasks = [] } in
      all_said_on (begun_talk t isn start) came (all_said_then start nothing (to_say t isn nothing, refl))
