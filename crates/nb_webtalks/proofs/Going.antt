-- Where all go on after a call, they stand for its calls: whichever runs of theirs are taken.
use Rattle.std.proofs.Common.{◌≡◌, ℕ, false, List, [], ◌∷◌, ◌++◌, refl, sym, ap, ◌∙◌, subst}
use Rattle.nb_graph.specs.Deeds.{Stage}
use Rattle.nb_graph.specs.Trace.{NodeEntry}
use Rattle.nb_graph.specs.Whole.{Objects}
use Rattle.nb_ledger.specs.Flat.{Notice}
use Rattle.nb_streams.specs.Flows.{TcpCall, held_after}
use Rattle.nb_streams.specs.Streams.{has_ended}
use Rattle.nb_tcp.specs.ConnHistory.{ConnEntry, delivered, tcp_calls}
use Rattle.nb_conns.specs.declared.conn_ask.ConnAsk.{ConnAsk}
use Rattle.nb_conns.specs.Dialogues.{ConversesTo, Dialogue, IsConnAt, unopened}
use Rattle.nb_nodes.specs.declared.load.Load.{Load}
use Rattle.nb_nodes.specs.declared.obj.Obj.{Obj}
use Rattle.nb_nodes.specs.Carriers.{conn_carrier, web_carrier}
use Rattle.nb_nodes.specs.Fetches.{taken_below}
use Rattle.nb_opens.specs.Entries.{entries_of}
use Rattle.nb_webchains.specs.declared.web_chain.WebChain.{WebChain}
use Rattle.nb_webchains.specs.WebChains.{IsInOrder}
use Rattle.nb_webnodes.specs.WebAsks.{AskParts}
use Rattle.nb_webnodes.specs.WebTalks.{FetchedTo, WebTalk, cut_short, fetching, web_decided, web_unasked}
use Rattle.nb_webtalks.specs.TalkStands.{HasHadCalls, HasTaken, StandsForTalk, stream_by}
use Rattle.nb_webtalks.proofs.Starting.{Started, call_of}
use Rattle.nb_webtalks.proofs.Coming.{GoesOn, gave_all}

abbrev stream_of : WebTalk → List ℕ
stream_of web_unasked = []
stream_of (fetching q core taken given) = taken
stream_of (web_decided q core taken given over) = taken
stream_of cut_short = []

module _ (c : WebChain) (order : IsInOrder c) (g h : Objects Obj) (now : ℕ) (asks : List (Stage Obj Load)) (ns : List Notice) (above between below : List (NodeEntry Obj Load)) (st : Started c order g h now asks ns above between below) (a : ConnAsk) (start : ℕ) (calls : List TcpCall) (call : TcpCall) (stream : List ℕ) (rec : ℕ) where
  -- by these runs all go on
  pub record PairGoes (w : WebTalk) (d : Dialogue) : Type 0 where
    pub entries : List ConnEntry
    pub q : AskParts
    pub called : tcp_calls entries ≡ calls
    pub gave : delivered entries ≡ stream
    pub goes : GoesOn (call_of c order h now (above ++ entries_of c.fetch.0 st.deeds) w d) st.deeds a start entries call q stream rec

  module _ (every : (w : WebTalk) (d : Dialogue) → FetchedTo web_carrier web_unasked (between ++ entries_of c.web.0 st.deeds) w → ConversesTo conn_carrier unopened (below ++ entries_of c.conn.0 st.deeds) d → PairGoes w d) (unended : has_ended (held_after a.isn (calls ++ call ∷ [])) ≡ false) where
    -- what the connection has delivered is all that has come
    all_come : (w : WebTalk) (y : PairGoes w st.dialogue) → stream ++ y.goes.sent ≡ stream_by a (calls ++ call ∷ [])
    all_come w y =
        ap (λ z. z ++ y.goes.sent) (sym y.gave) ∙ sym y.goes.gave ∙ gave_all st.state a start y.goes.after (subst (IsConnAt st.state) y.goes.conn st.is_conn) ∙ ap (stream_by a) (y.goes.calls ∙ ap (λ z. z ++ call ∷ []) y.called)

    pub stands_then : StandsForTalk a start (calls ++ call ∷ []) c h
    stands_then =
        let one = every st.talk st.dialogue st.fetched st.talked in
        record {
          above = above ++ entries_of c.fetch.0 st.deeds;
          between = between ++ entries_of c.web.0 st.deeds;
          below = below ++ entries_of c.conn.0 st.deeds;
          fetch = st.fetch;
          web = st.web;
          conn = st.conn;
          gathering = one.goes.gathering;
          took = λ w reads. let y = every w st.dialogue reads st.talked in subst (HasTaken (stream_by a (calls ++ call ∷ [])) (taken_below (above ++ entries_of c.fetch.0 st.deeds))) (sym y.goes.web) (all_come w y, sym y.goes.taken, y.goes.reads);
          called = λ d talks. let y = every st.talk d st.fetched talks in
              let same : stream ++ y.goes.sent ≡ stream ++ one.goes.sent = ap stream_of (sym y.goes.web ∙ one.goes.web) in
              subst (HasHadCalls a start (calls ++ call ∷ [])) (sym y.goes.conn)
              (refl, refl, y.goes.calls ∙ ap (λ z. z ++ call ∷ []) y.called, y.goes.gave ∙ ap (λ z. z ++ y.goes.sent) y.gave ∙ same ∙ all_come st.talk one, refl);
          unended = unended;
        }
