-- What an entry of a segment asks, and what it leaves of the stream, as nb_webtalks has it of a fetch's connection.
use Rattle.std.proofs.Common.{◌≡◌, ℕ, ◌+◌, ◌==◌, Bool, true, false, not, List, [], ◌∷◌, ◌++◌, length, refl, sym, ap, ◌∙◌, subst, append_assoc, append-nil, length-append, arith}
use Rattle.std.proofs.lemmas.Bool.{eqb-true, false≢true}
use Rattle.std.proofs.lemmas.List.Concat.{flat_map-append}
use Rattle.nb_terms.specs.declared.acts.Acts.{Acts}
use Rattle.nb_streams.specs.Endings.{segment_end}
use Rattle.nb_streams.specs.Flows.{TcpCall, ConnPhase, after_tcp_call, conn_phase, held_after, held_in, segment_came}
use Rattle.nb_streams.specs.Segments.{Arrival}
use Rattle.nb_streams.specs.Sending.{calls_for}
use Rattle.nb_streams.specs.Streams.{front, grown, next}
use Rattle.nb_streams.proofs.FlowLaws.{front_grows}
use Rattle.nb_tcp.specs.ConnHistory.{ConnEntry, EachConnEntry, calls_in, conn_entry, delivered, delivered_by, lends_out, tcp_calls, tcp_calls_of}
use Rattle.nb_tcp.specs.Replies.{only_ready}
use Rattle.nb_tcp.specs.ConnPromises.{AsksAsPromised, ConnKeeps, segment_asks}
use Rattle.nb_tcp.proofs.ConnHistoryLemmas.{calls-append, delivered-append, phase-append}
use Rattle.nb_conns.specs.declared.conn_ask.ConnAsk.{ConnAsk}
use Rattle.nb_conns.specs.ConnAsks.{link_of}
use Rattle.nb_conns.specs.ConnEffects.{downs_for, place_says}
use Rattle.nb_webtalks.specs.TalkStands.{stream_by}
use Rattle.nb_webtalks.specs.Comings.{sends_say}
use Rattle.nb_webtalks.proofs.Coming.{each_at}
use Rattle.nb_webtalks.proofs.Upward.{LetsUp, lets_all, lets_none}

-- ALL THAT HAS COME

no_longer : (xs rest ys : List ℕ) → ys ≡ xs ++ rest → length xs ≡ length ys → xs ≡ ys
no_longer xs [] ys is same = sym (append-nil xs) ∙ sym is
no_longer xs (r ∷ rest) ys is same = absurd (let z : length ys ≡ length xs + length (r ∷ rest) = ap length is ∙ length-append xs (r ∷ rest) in omega (arith, z, same))

-- nothing more waited after a segment: as much has come as before
none_more : (isn : ℕ) (calls : List TcpCall) (c : TcpCall) → (next (held_after isn calls) == next (held_after isn (calls ++ c ∷ []))) ≡ true → front (held_after isn calls) ≡ front (held_after isn (calls ++ c ∷ []))
none_more isn calls c same = let p = front_grows isn calls (c ∷ []) in no_longer (front (held_after isn calls)) p.0 (front (held_after isn (calls ++ c ∷ []))) p.1 (eqb-true _ _ same)

not_off : (b : Bool) → not b ≡ false → b ≡ true
not_off true h = refl
not_off false h = absurd (false≢true (sym h))

module _ (a : ConnAsk) (start : ℕ) (calls : List TcpCall) (entries : List ConnEntry) (called : tcp_calls entries ≡ calls) (gave : delivered entries ≡ stream_by a calls) (m : Arrival) (now : ℕ) (acts : Acts) where
  abbrev entry : ConnEntry
  entry = conn_entry (calls_in (segment_came m now)) acts

  abbrev phase : ConnPhase
  phase = conn_phase a.isn calls

  -- what the entry asked is what its promise says
  pub asks_so : (es more : List ConnEntry) → es ≡ entries ++ entry ∷ more → ConnKeeps (link_of a) start es → acts ≡ segment_asks (link_of a) phase m now
  asks_so es more is keeps =
      (each_at (AsksAsPromised (link_of a) start) [] entries entry more (subst (EachConnEntry (AsksAsPromised (link_of a) start) []) is keeps.each)).0 ∙ ap (λ z. segment_asks (link_of a) (conn_phase a.isn z) m now) called

  come_then : after_tcp_call a.isn phase (segment_came m now) ≡ conn_phase a.isn (calls ++ segment_came m now ∷ [])
  come_then = sym (phase-append a.isn calls (segment_came m now))

  module _ (asked : acts ≡ segment_asks (link_of a) phase m now) where
    pub says_so : downs_for m.rec acts ≡ place_says m.rec (grown (next (held_after a.isn calls)) (next (held_after a.isn (calls ++ segment_came m now ∷ [])))) ++ sends_say (link_of a) m.rec (calls_for a.isn phase m.segment)
    says_so =
        ap (downs_for m.rec) asked
        ∙ ap (λ z. place_says m.rec (grown (next (held_in phase)) (next (held_in z))) ++ sends_say (link_of a) m.rec (calls_for a.isn phase m.segment)) come_then

    pub ends_so : acts.over ≡ segment_end a.isn phase m
    ends_so = ap (λ (z : Acts). z.over) asked

    -- with what rose then all has risen
    pub comes_so : (es behind more : List ConnEntry) (up : List ℕ) → LetsUp acts.ready behind up → es ≡ (entries ++ entry ∷ behind) ++ more → ConnKeeps (link_of a) start es
        → stream_by a calls ++ up ≡ stream_by a (calls ++ segment_came m now ∷ [])
    comes_so es _ more _ (lets_none none) is keeps =
        append-nil (stream_by a calls)
        ∙ none_more a.isn calls (segment_came m now) (ap (λ z. next (held_in phase) == next (held_in z)) (sym come_then) ∙ not_off _ (sym (ap (λ (z : Acts). z.ready) asked) ∙ none))
    comes_so es _ more _ (lets_all bytes back silent nothing) is keeps =
        let last : ConnEntry = conn_entry (lends_out bytes) (only_ready false) in
        let parts : es ≡ (entries ++ entry ∷ []) ++ last ∷ (back ++ more) =
        is ∙ ap (λ z. z ++ more) (sym (append_assoc entries (entry ∷ []) (last ∷ back))) ∙ append_assoc (entries ++ entry ∷ []) (last ∷ back) more in
        ap (λ z. z ++ bytes) (sym gave ∙ sym (append-nil (delivered entries)) ∙ sym (delivered-append entries entry))
        ∙ each_at (AsksAsPromised (link_of a) start) [] (entries ++ entry ∷ []) last (back ++ more) (subst (EachConnEntry (AsksAsPromised (link_of a) start) []) parts keeps.each)
        ∙ ap (stream_by a) (calls-append entries entry ∙ ap (λ z. z ++ segment_came m now ∷ []) called)

-- THE CALLS AND THE BYTES WITH AN ENTRY

module _ (entries behind es : List ConnEntry) (call : TcpCall) (acts : Acts) (is : es ≡ entries ++ conn_entry (calls_in call) acts ∷ behind) where
  pub calls_with : tcp_calls behind ≡ [] → tcp_calls es ≡ tcp_calls entries ++ call ∷ []
  calls_with silent = ap tcp_calls is ∙ flat_map-append (λ (x : ConnEntry). tcp_calls_of x.call) entries (conn_entry (calls_in call) acts ∷ behind) ∙ ap (λ z. tcp_calls entries ++ call ∷ z) silent

  pub gave_with : (up : List ℕ) → delivered behind ≡ up → delivered es ≡ delivered entries ++ up
  gave_with up holds = ap delivered is ∙ flat_map-append (λ (x : ConnEntry). delivered_by x.call) entries (conn_entry (calls_in call) acts ∷ behind) ∙ ap (λ z. delivered entries ++ z) holds
