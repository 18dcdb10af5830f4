-- The records that an open puts when something comes to it: frames, tries and places, and its end last, if it ends.
use Rattle.std.proofs.Common.{◌≡◌, ℕ, Bool, true, false, cond, List, [], ◌∷◌, ◌++◌, Option, Some, None, refl, sym, ◌∙◌, ap, subst}
use Rattle.std.specs.List.{AllByRecursion}
use Rattle.nb_terms.specs.declared.acts.Acts.{Acts}
use Rattle.nb_terms.specs.declared.cause.Cause.{Cause}
use Rattle.nb_defs.specs.Records.{Out, step, sent, tried, advanced, ended}
use Rattle.nb_stack.specs.Client.{Client}
use Rattle.nb_tftp.specs.History.{Call, came, ticked, Entry}
use Rattle.nb_nodes.specs.Exchanges.{Service}
use Rattle.nb_terms.specs.declared.acts.SendTo.{SendTo}
use Rattle.nb_stack.specs.Sends.{put_on, way_of}
use Rattle.nb_streams.specs.Sending.{closing_segment}
use Rattle.nb_talks.specs.TalkPromises.{Sends, phase_of, close_put}
use Rattle.nb_tcp.specs.Messages.{outgoing_message}
use Rattle.nb_machine.specs.Connections.{Connection, connection_of, segment_records, talk_of, talk_end, PutsAt, KeepsAt, Talking}
use Rattle.nb_machine.specs.Drives.{session_talking}
use Rattle.nb_machine.specs.Webs.{web_talking}
use Rattle.nb_openlaws.proofs.OpenRecords.{snoc_one, no_snoc, IsFrame, frame_by, last_exchange}
use Rattle.nb_machine.specs.Sendings.{has_route, send_records, try_records, advance_records, acts_records}
use Rattle.nb_streams.proofs.FlowLaws.{all_append}
use Rattle.nb_machine.specs.Lives.{OpenKind, tftp, http, iscsi, dns, dhcp, ping, OpenInput, message, time, close, Exchange, exchange, Live, continued}
use Rattle.nb_machine.specs.Transfers.{arrival_of, end_records, Exchanged, at_first, takes, closes}
use Rattle.nb_machine.specs.Cores as cores
use Rattle.nb_machine.specs.Cores.{CoreExchanged}
use Rattle.nb_machine.specs.Kinds.{KeepsBy, Keeps}
use Rattle.nb_machine.specs.Takings.{end_told, end_among, Over, AllTake, all_have, lives_on, is_over}
use Rattle.nb_laws.proofs.HandOffs.{IsOpens, AreOpens, opens_acts}
use Rattle.nb_laws.proofs.Tellings.{same_number}

-- what was put in an exchange of open k; at a close frames alone, and its end
pub record PutsSo (k : ℕ) (x : Exchange) : Type 0 where
  pub front : List Out
  pub over : Option Cause
  pub opens : AreOpens front
  pub put_is : x.put ≡ front ++ end_records k over
  pub closed : (cause : Cause) → x.came ≡ close cause → AllByRecursion IsFrame front × (over ≡ Some cause)

by_entry : (k : ℕ) (call : Call) (link : Client) (acts : Acts) (over : Option Cause) → PutsSo k (exchange (arrival_of call) link (acts_records link k acts ++ end_records k over))
by_entry k (came m now) link acts over = record { front = acts_records link k acts; over = over; opens = opens_acts link k acts; put_is = refl; closed = λ cause e. absurd (cc) }
by_entry k (ticked now) link acts over = record { front = acts_records link k acts; over = over; opens = opens_acts link k acts; put_is = refl; closed = λ cause e. absurd (cc) }

by_message : (k : ℕ) (rec port : ℕ) (body : List ℕ) (now : ℕ) (link : Client) (acts : Acts) (over : Option Cause) → PutsSo k (exchange (message rec port body now) link (acts_records link k acts ++ end_records k over))
by_message k rec port body now link acts over = record { front = acts_records link k acts; over = over; opens = opens_acts link k acts; put_is = refl; closed = λ cause e. absurd (cc) }

by_time : (k : ℕ) (now : ℕ) (link : Client) (acts : Acts) (over : Option Cause) → PutsSo k (exchange (time now) link (acts_records link k acts ++ end_records k over))
by_time k now link acts over = record { front = acts_records link k acts; over = over; opens = opens_acts link k acts; put_is = refl; closed = λ cause e. absurd (cc) }

by_close : (k : ℕ) (link : Client) (cause : Cause) → PutsSo k (exchange (close cause) link (ended k cause ∷ []))
by_close k link cause = record { front = []; over = Some cause; opens = tt; put_is = refl; closed = λ c e. let same : cause ≡ c = cc in (tt, ap (λ z. Some z) same) }

last_of_transfer : (k server : ℕ) (es : List Entry) (ys xs : List Exchange) (x : Exchange) → Exchanged k server es ys → ys ≡ xs ++ x ∷ [] → PutsSo k x
last_of_transfer k server es ys xs x at_first e = absurd (no_snoc xs x e)
last_of_transfer k server es ys xs x (takes es0 xs0 link call acts h) e = subst (PutsSo k) (snoc_one xs0 xs _ x e).1 (by_entry k call link acts _)
last_of_transfer k server es ys xs x (closes es0 xs0 link cause h) e = subst (PutsSo k) (snoc_one xs0 xs _ x e).1 (by_close k link cause)

last_of_core : {S B C : Type 0} (s : Service S B C) (k server : ℕ) (cs : List C) (ys xs : List Exchange) (x : Exchange) → CoreExchanged s k server cs ys → ys ≡ xs ++ x ∷ [] → PutsSo k x
last_of_core s k server cs ys xs x cores.at_first e = absurd (no_snoc xs x e)
last_of_core s k server cs ys xs x (cores.takes_message cs0 xs0 link rec port body now acts h) e = subst (PutsSo k) (snoc_one xs0 xs _ x e).1 (by_message k rec port body now link acts _)
last_of_core s k server cs ys xs x (cores.takes_time cs0 xs0 link now acts h) e = subst (PutsSo k) (snoc_one xs0 xs _ x e).1 (by_time k now link acts _)
last_of_core s k server cs ys xs x (cores.closes cs0 xs0 link cause h) e = subst (PutsSo k) (snoc_one xs0 xs _ x e).1 (by_close k link cause)

-- an open on a connection
opens_send : (link : Client) (k : ℕ) (try : Option ℕ) (m : SendTo) → AreOpens (send_records link k try m)
unfolding IsOpens
opens_send link k try m = by (has_route link m) try
  where
    by : (b : Bool) (t : Option ℕ) → AreOpens (cond b (try_records k t ++ (sent (put_on link m (way_of link m)) ∷ [])) [])
    by true None = (tt, tt)
    by true (Some n) = (tt, (tt, tt))
    by false t = tt

opens_segments : (c : Connection) (link : Client) (sends : Sends) → AreOpens (segment_records c link sends)
opens_segments c link [] = tt
opens_segments c link (s ∷ sends) =
    all_append IsOpens (send_records link c.number s.1 (outgoing_message c.link s.0)) (segment_records c link sends) (opens_send link c.number s.1 (outgoing_message c.link s.0)) (opens_segments c link sends)

opens_advance : (k : ℕ) (place : Option ℕ) → AreOpens (advance_records k place)
unfolding IsOpens
opens_advance k None = tt
opens_advance k (Some n) = (tt, tt)

puts_talk : {T : Type 0} (t : Talking T) (c : Connection) (before : List Exchange) (x : Exchange) → KeepsAt t c before x → PutsSo c.number x
puts_talk t c before x h = record {
  front = advance_records c.number h.put.advance ++ segment_records c x.link h.put.sends;
  over = talk_end c x.link h.put;
  opens = all_append IsOpens (advance_records c.number h.put.advance) (segment_records c x.link h.put.sends) (opens_advance c.number h.put.advance) (opens_segments c x.link h.put.sends);
  put_is = h.records;
  closed = λ cause is.
      let p : h.put ≡ close_put c.link.isn (talk_of t c before) cause = subst (λ z. PutsAt t c (talk_of t c before) z h.put) is h.puts in (
        subst (λ z. AllByRecursion IsFrame (advance_records c.number z.advance ++ segment_records c x.link z.sends)) (sym p)
            (frame_by (has_route x.link (outgoing_message c.link (closing_segment c.link.isn (phase_of c.link.isn (talk_of t c before))))) _),
        ap (talk_end c x.link) p,
      );
}

-- of each kind
pub puts_so : (l : Live) (x : Exchange) → Keeps (continued l x) → PutsSo l.number x
puts_so l x h = by l.kind h
  where
    by : (kind : OpenKind) → KeepsBy kind (continued l x) → PutsSo l.number x
    by tftp k = last_of_transfer l.number l.server k.entries _ l.exchanges x k.exchanged refl
    by (http isn) k = puts_talk (web_talking l.target) (connection_of isn l) l.exchanges x (last_exchange (KeepsAt (web_talking l.target) (connection_of isn l)) [] l.exchanges x k)
    by (iscsi isn i) k = puts_talk (session_talking i) (connection_of isn l) l.exchanges x (last_exchange (KeepsAt (session_talking i) (connection_of isn l)) [] l.exchanges x k)
    by (dns id) k = last_of_core _ l.number l.server k.calls _ l.exchanges x k.exchanged refl
    by (dhcp a) k = last_of_core _ l.number l.server k.calls _ l.exchanges x k.exchanged refl
    by ping k = last_of_core _ l.number l.server k.calls _ l.exchanges x k.exchanged refl

-- ITS END

opens_no_end : (k : ℕ) (o : Out) (later : Option Cause) → IsOpens o → end_told k o later ≡ later
unfolding IsOpens
opens_no_end k (sent bytes) later h = refl
opens_no_end k (tried number count) later h = refl
opens_no_end k (advanced number place) later h = refl
opens_no_end k _ later h = absurd h

end_after : (k : ℕ) (front : List Out) (over : Option Cause) → AreOpens front → end_among k (front ++ end_records k over) ≡ over
end_after k [] None h = refl
end_after k [] (Some cause) h = ap (λ b. cond b (Some cause) None) (same_number k)
end_after k (o ∷ front) over h = opens_no_end k o _ h.0 ∙ end_after k front over h.1

-- the end that its records tell is this
pub over_is : (k : ℕ) (x : Exchange) (over : Option Cause) (p : PutsSo k x) → end_among k x.put ≡ over → p.over ≡ over
over_is k x over p e = sym (end_after k p.front p.over p.opens) ∙ sym (ap (end_among k) p.put_is) ∙ e

-- A FRAME, A TRY, A PLACE OR AN END

unfoldable pub IsQuiet : Out → Type 0
IsQuiet (sent bytes) = Unit {0}
IsQuiet (tried number count) = Unit {0}
IsQuiet (advanced number place) = Unit {0}
IsQuiet (ended number cause) = Unit {0}
IsQuiet (step number) = ⊥
IsQuiet _ = ⊥

abbrev pub AreQuiet : List Out → Type 0
AreQuiet outs = AllByRecursion IsQuiet outs

opens_one_quiet : (o : Out) → IsOpens o → IsQuiet o
unfolding IsOpens IsQuiet
opens_one_quiet (sent bytes) h = tt
opens_one_quiet (tried number count) h = tt
opens_one_quiet (advanced number place) h = tt
opens_one_quiet _ h = absurd h

pub opens_quiet : (outs : List Out) → AreOpens outs → AreQuiet outs
opens_quiet [] h = tt
opens_quiet (o ∷ outs) h = (opens_one_quiet o h.0, opens_quiet outs h.1)

pub end_quiet : (k : ℕ) (over : Option Cause) → AreQuiet (end_records k over)
unfolding IsQuiet
end_quiet k None = tt
end_quiet k (Some cause) = (tt, tt)

pub put_quiet : (k : ℕ) (x : Exchange) → PutsSo k x → AreQuiet x.put
put_quiet k x p = subst AreQuiet (sym p.put_is) (all_append IsQuiet p.front (end_records k p.over) (opens_quiet p.front p.opens) (end_quiet k p.over))

pub take_quiet : (devices : List Client) (input : OpenInput) (ls : List Live) (put : List Out) (after : List Live) (over : List Over) → AllTake devices input ls put after over → AreQuiet put
take_quiet devices input ls put after over all_have = tt
take_quiet devices input ls0 put0 after0 over0 (lives_on l ls after link put more over got keeps none rest) =
    all_append IsQuiet put more (put_quiet l.number (exchange input link put) (puts_so l (exchange input link put) keeps)) (take_quiet devices input ls more after over rest)
take_quiet devices input ls0 put0 after0 over0 (is_over l ls after link put more over cause got keeps some rest) =
    all_append IsQuiet put more (put_quiet l.number (exchange input link put) (puts_so l (exchange input link put) keeps)) (take_quiet devices input ls more after over rest)

-- AT A CLOSE

-- frames and ends alone, these with this cause
abbrev pub IsClosing : Cause → Out → Type 0
IsClosing cause (sent bytes) = Unit {0}
IsClosing cause (ended k other) = other ≡ cause
IsClosing cause (step number) = ⊥
IsClosing cause _ = ⊥

abbrev pub AreClosing : Cause → List Out → Type 0
AreClosing cause outs = AllByRecursion (IsClosing cause) outs

frame_closes : (cause : Cause) (o : Out) → IsFrame o → IsClosing cause o
frame_closes cause (sent bytes) h = tt
frame_closes cause (step number) h = absurd h
frame_closes cause _ h = absurd h

pub frames_close : (cause : Cause) (outs : List Out) → AllByRecursion IsFrame outs → AreClosing cause outs
frames_close cause [] h = tt
frames_close cause (o ∷ outs) h = (frame_closes cause o h.0, frames_close cause outs h.1)

pub closed_put : (k : ℕ) (cause : Cause) (link : Client) (put : List Out) → PutsSo k (exchange (close cause) link put) → AreClosing cause put
closed_put k cause link put p =
    let c = p.closed cause refl in
    subst (AreClosing cause) (sym p.put_is)
    (all_append (IsClosing cause) p.front (end_records k p.over) (frames_close cause p.front c.0) (subst (λ z. AreClosing cause (end_records k z)) (sym c.1) (refl, tt)))

pub close_ends : (devices : List Client) (cause : Cause) (ls : List Live) (put : List Out) (after : List Live) (over : List Over) → AllTake devices (close cause) ls put after over → AreClosing cause put
close_ends devices cause ls put after over all_have = tt
close_ends devices cause ls0 put0 after0 over0 (lives_on l ls after link put more over got keeps none rest) =
    all_append (IsClosing cause) put more (closed_put l.number cause link put (puts_so l (exchange (close cause) link put) keeps)) (close_ends devices cause ls more after over rest)
close_ends devices cause ls0 put0 after0 over0 (is_over l ls after link put more over c got keeps some rest) =
    all_append (IsClosing cause) put more (closed_put l.number cause link put (puts_so l (exchange (close cause) link put) keeps)) (close_ends devices cause ls more after over rest)
