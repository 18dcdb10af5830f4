-- A connection that stands for its calls stands for one call more.
use Rattle.std.proofs.Common.{◌≡◌, ℕ, List, [], ◌∷◌, ◌++◌, Bool, true, false, ◌||◌, refl, ap, ◌∙◌, sym, subst, append-nil}
use Rattle.std.specs.Prelude.{unwrap_or}
use Rattle.std.specs.Option.{is_some}
use Rattle.nb_terms.specs.declared.acts.Acts.{Acts}
use Rattle.nb_streams.specs.Streams.{next, has_ended}
use Rattle.nb_streams.specs.Flows.{TcpCall, ConnPhase, conn_phase, after_tcp_call, held_in}
use Rattle.nb_streams.specs.Trying.{timer_by, timer_after}
use Rattle.nb_tcp.specs.declared.link.Link.{Link}
use Rattle.nb_tcp.specs.declared.conn.Conn.{Conn}
use Rattle.nb_tcp.specs.Replies.{has_finished, has_come_all}
use Rattle.nb_tcp.specs.ConnHistory.{calls_in, ConnEntry, conn_entry, tcp_calls, delivered, waits_after, is_waiting_after, is_lent_after, has_ended_after}
use Rattle.nb_tcp.specs.ConnPromises.{conn_asks, FiresSo, AsksAsPromised, ConnKeeps}
use Rattle.nb_tcp.specs.ConnStanding.{waits_in, HoldsRest, StateStands, TimerStandsFor, ConnStands}
use Rattle.nb_tcp.proofs.ConnHistoryLemmas.{calls-append, delivered-append, advanced-append, waiting-append, lent-append, ended-append, EachConnEntry-append, phase-append, timer-append}

abbrev pub phase_of : Link → List ConnEntry → ConnPhase
phase_of l h = conn_phase l.isn (tcp_calls h)

-- what a connection stands for without its window
pub record StandsBut (l : Link) (start : ℕ) (c : Conn) (entries : List ConnEntry) : Type 0 where
  pub keeps : ConnKeeps l start entries
  pub link : c.link ≡ l
  pub over : has_finished c.state ≡ has_ended_after entries
  pub at_end : has_come_all c.state ≡ has_ended (held_in (phase_of l entries))
  pub state : StateStands c.state c.given c.unacked.items (phase_of l entries)
  pub timer : has_finished c.state ≡ false → TimerStandsFor c.retry (timer_after l.isn start (tcp_calls entries))

-- what of it has to be shown of a segment, a time or text
pub record GoesOnBut (l : Link) (start : ℕ) (h : List ConnEntry) (c : TcpCall) (acts : Acts) (new : Conn) : Type 0 where
  pub asks : acts ≡ conn_asks l (phase_of l h) (is_waiting_after h) (timer_after l.isn start (tcp_calls h)).plan c acts
  pub fires : FiresSo l start (tcp_calls h) c acts
  pub advance : unwrap_or acts.advance (next (held_in (phase_of l h))) ≡ next (held_in (after_tcp_call l.isn (phase_of l h) c))
  pub link : new.link ≡ l
  pub over : has_finished new.state ≡ is_some acts.over
  pub at_end : has_come_all new.state ≡ has_ended (held_in (after_tcp_call l.isn (phase_of l h) c))
  pub state : StateStands new.state new.given new.unacked.items (after_tcp_call l.isn (phase_of l h) c)
  pub timer : has_finished new.state ≡ false → TimerStandsFor new.retry (timer_by l.isn (phase_of l h) c (timer_after l.isn start (tcp_calls h)))

-- what has to be shown of a segment, a time or text
pub record GoesOn (l : Link) (start : ℕ) (h : List ConnEntry) (c : TcpCall) (acts : Acts) (new : Conn) : Type 0 where
  pub asks : acts ≡ conn_asks l (phase_of l h) (is_waiting_after h) (timer_after l.isn start (tcp_calls h)).plan c acts
  pub fires : FiresSo l start (tcp_calls h) c acts
  pub advance : unwrap_or acts.advance (next (held_in (phase_of l h))) ≡ next (held_in (after_tcp_call l.isn (phase_of l h) c))
  pub link : new.link ≡ l
  pub over : has_finished new.state ≡ is_some acts.over
  pub at_end : has_come_all new.state ≡ has_ended (held_in (after_tcp_call l.isn (phase_of l h) c))
  pub held : HoldsRest new.held (held_in (after_tcp_call l.isn (phase_of l h) c)) (delivered h) (is_lent_after h)
  pub waits : waits_in new.held ≡ waits_after (is_waiting_after h) (calls_in c) acts
  pub state : StateStands new.state new.given new.unacked.items (after_tcp_call l.isn (phase_of l h) c)
  pub timer : has_finished new.state ≡ false → TimerStandsFor new.retry (timer_by l.isn (phase_of l h) c (timer_after l.isn start (tcp_calls h)))

pub phase_then : (l : Link) (h : List ConnEntry) (c : TcpCall) (acts : Acts) → phase_of l (h ++ conn_entry (calls_in c) acts ∷ []) ≡ after_tcp_call l.isn (phase_of l h) c
phase_then l h c acts = ap (λ cs. conn_phase l.isn cs) (calls-append h (conn_entry (calls_in c) acts)) ∙ phase-append l.isn (tcp_calls h) c

timer_then : (l : Link) (start : ℕ) (h : List ConnEntry) (c : TcpCall) (acts : Acts) → timer_after l.isn start (tcp_calls (h ++ conn_entry (calls_in c) acts ∷ [])) ≡ timer_by l.isn (phase_of l h) c (timer_after l.isn start (tcp_calls h))
timer_then l start h c acts = ap (λ cs. timer_after l.isn start cs) (calls-append h (conn_entry (calls_in c) acts)) ∙ timer-append l.isn start (tcp_calls h) c

or_more : (a b : Bool) → a ≡ false → (a || (b || false)) ≡ b
or_more true b e = absurd (clash e)
  where
    clash : true ≡ false → ⊥
    clash e = cc
or_more false true e = refl
or_more false false e = refl

pub goes_on_but : (l : Link) (start : ℕ) (old new : Conn) (h : List ConnEntry) (c : TcpCall) (acts : Acts) → ConnStands l start old h → has_ended_after h ≡ false → GoesOnBut l start h c acts new
    → StandsBut l start new (h ++ conn_entry (calls_in c) acts ∷ [])
goes_on_but l start old new h c acts was alive g =
    let phase : phase_of l (h ++ conn_entry (calls_in c) acts ∷ []) ≡ after_tcp_call l.isn (phase_of l h) c = phase_then l h c acts in
    record {
      keeps = record {
        advance = advanced-append h (conn_entry (calls_in c) acts) ∙ ap (λ k. unwrap_or acts.advance k) was.keeps.advance ∙ g.advance ∙ ap (λ p. next (held_in p)) (sym phase);
        each = EachConnEntry-append (AsksAsPromised l start) [] h (conn_entry (calls_in c) acts) was.keeps.each (g.asks, g.fires);
      };
      link = g.link;
      over = g.over ∙ sym (or_more (has_ended_after h) (is_some acts.over) alive) ∙ sym (ended-append h (conn_entry (calls_in c) acts));
      at_end = g.at_end ∙ ap (λ p. has_ended (held_in p)) (sym phase);
      state = subst (λ p. StateStands new.state new.given new.unacked.items p) (sym phase) g.state;
      timer = λ running. subst (λ w. TimerStandsFor new.retry w) (sym (timer_then l start h c acts)) (g.timer running);
    }

pub goes_on : (l : Link) (start : ℕ) (old new : Conn) (h : List ConnEntry) (c : TcpCall) (acts : Acts) → ConnStands l start old h → has_ended_after h ≡ false → GoesOn l start h c acts new
    → ConnStands l start new (h ++ conn_entry (calls_in c) acts ∷ [])
goes_on l start old new h c acts was alive g =
    let phase : phase_of l (h ++ conn_entry (calls_in c) acts ∷ []) ≡ after_tcp_call l.isn (phase_of l h) c = phase_then l h c acts in
    let but : StandsBut l start new (h ++ conn_entry (calls_in c) acts ∷ []) = goes_on_but l start old new h c acts was alive (record { asks = g.asks; fires = g.fires; advance = g.advance; link = g.link; over = g.over; at_end = g.at_end; state = g.state; timer = g.timer }) in
    record {
      keeps = but.keeps;
      link = but.link;
      over = but.over;
      at_end = but.at_end;
      held = subst (λ p. HoldsRest new.held (held_in p) (delivered (h ++ conn_entry (calls_in c) acts ∷ [])) (is_lent_after (h ++ conn_entry (calls_in c) acts ∷ []))) (sym phase)
          (subst (λ bytes. HoldsRest new.held (held_in (after_tcp_call l.isn (phase_of l h) c)) bytes (is_lent_after (h ++ conn_entry (calls_in c) acts ∷ []))) (sym (delivered-append h (conn_entry (calls_in c) acts) ∙ append-nil (delivered h)))
          (subst (λ b. HoldsRest new.held (held_in (after_tcp_call l.isn (phase_of l h) c)) (delivered h) b) (sym (lent-append h (conn_entry (calls_in c) acts))) g.held));
      waits = g.waits ∙ sym (waiting-append h (conn_entry (calls_in c) acts));
      state = but.state;
      timer = but.timer;
    }
