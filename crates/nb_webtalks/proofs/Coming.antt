-- What the three stand for after a call, whichever runs of theirs are taken.
use Rattle.std.proofs.Common.{◌≡◌, ℕ, Bool, true, false, List, [], ◌∷◌, ◌++◌, Option, Some, None, refl, sym, ap, ◌∙◌, subst, append_assoc, append-nil}
use Rattle.std.proofs.lemmas.List.Concat.{flat_map-append}
use Rattle.std.proofs.lemmas.Option.{none-some, same_Some}
use Rattle.nb_terms.specs.declared.acts.Acts.{Acts}
use Rattle.nb_graph.specs.Deeds.{Deed, told_of}
use Rattle.nb_graph.specs.Trace.{NodeEntry}
use Rattle.nb_streams.specs.Flows.{TcpCall}
use Rattle.nb_tcp.specs.ConnHistory.{ConnEntry, EachConnEntry, calls_in, conn_entry, delivered, delivered_by, tcp_calls, tcp_calls_of}
use Rattle.nb_tcp.specs.ConnPromises.{ConnKeeps}
use Rattle.nb_tcp.proofs.ConnLaws.{all_went_up}
use Rattle.nb_conns.specs.declared.conn_ask.ConnAsk.{ConnAsk}
use Rattle.nb_conns.specs.declared.conn_load.Lent.{Lent}
use Rattle.nb_conns.specs.declared.stage.ConnStage.{ConnStage}
use Rattle.nb_conns.specs.ConnAsks.{link_of}
use Rattle.nb_conns.specs.ConnEffects.{downs_for}
use Rattle.nb_conns.specs.Dialogues.{ConversesTo, Dialogue, IsConnAt, unopened, talking, closed_off, given_up, before_asked, never_asked, once_closed, while_talking, is_talking, talked_on, with_lending}
use Rattle.nb_http.specs.Standing.{Core}
use Rattle.nb_nodes.specs.declared.load.Load.{Load}
use Rattle.nb_nodes.specs.declared.obj.Obj.{Obj}
use Rattle.nb_nodes.specs.Carriers.{conn_carrier, web_carrier}
use Rattle.nb_nodes.specs.Fetches.{gathers, taken_below}
use Rattle.nb_opens.specs.Notices.{first_close}
use Rattle.nb_webnodes.specs.WebAsks.{AskParts}
use Rattle.nb_webnodes.specs.WebTalks.{FetchedTo, ReadsOn, WebTalk, cut_short, fetching, web_decided, web_unasked}
use Rattle.nb_webtalks.specs.TalkStands.{HasHadCalls, HasTaken, stream_by}
use Rattle.nb_webtalks.specs.Tellings.{messages_of}
use Rattle.nb_webtalks.proofs.Walking.{WebCall}
use Rattle.nb_webtalks.proofs.Steps.{walked}
use Rattle.nb_webtalks.proofs.Lowers.{asked_at, had, lent_of}
use Rattle.nb_webtalks.proofs.Begins.{home_at, nothing_owed}
use Rattle.nb_webtalks.proofs.Calls.{CallDid, did_break, did_decide, did_fail, did_go}

-- RUNS IN TWO PARTS

pub fetched_parts : (r f : WebTalk) (s t : List (NodeEntry Obj Load)) → FetchedTo web_carrier r (s ++ t) f → (q : WebTalk) × FetchedTo web_carrier r s q × FetchedTo web_carrier q t f
fetched_parts r f [] t h = (r, refl, h)
fetched_parts r f (e ∷ s) t h = let y = fetched_parts h.0 f s t h.2 in (y.0, (h.0, h.1, y.1), y.2)

pub conversed_parts : (d f : Dialogue) (s t : List (NodeEntry Obj Load)) → ConversesTo conn_carrier d (s ++ t) f → (q : Dialogue) × ConversesTo conn_carrier d s q × ConversesTo conn_carrier q t f
conversed_parts d f [] t h = (d, refl, h)
conversed_parts d f (e ∷ s) t h = let y = conversed_parts h.0 f s t h.2 in (y.0, (h.0, h.1, y.1), y.2)

-- WHERE THEY WERE

-- a fetch that goes on
pub record Fetching (p : WebTalk) (stream body : List ℕ) : Type 0 where
  pub q : AskParts
  pub core : Core
  pub is : p ≡ fetching q core stream body
  pub reads : ReadsOn core stream body

pub is_fetching : (p : WebTalk) (stream body : List ℕ) → HasTaken stream body p → Fetching p stream body
is_fetching web_unasked stream body h = absurd h
is_fetching (fetching q core taken given) stream body h = record {
  q = q;
  core = core;
  is = ap (λ z. fetching q core z given) h.0 ∙ ap (fetching q core stream) h.1;
  reads = subst (λ z. ReadsOn core stream z) h.1 (subst (λ z. ReadsOn core z given) h.0 h.2);
}
is_fetching (web_decided q core taken given over) stream body h = absurd h
is_fetching cut_short stream body h = absurd h

-- a connection that goes on
pub record Talking (p : Dialogue) (a : ConnAsk) (start : ℕ) (calls : List TcpCall) : Type 0 where
  pub entries : List ConnEntry
  pub is : p ≡ talking a start entries None
  pub called : tcp_calls entries ≡ calls
  pub gave : delivered entries ≡ stream_by a calls

pub is_talked : (p : Dialogue) (a : ConnAsk) (start : ℕ) (calls : List TcpCall) → HasHadCalls a start calls p → Talking p a start calls
is_talked unopened a start calls h = absurd h
is_talked (talking b since entries out) a start calls h = record {
  entries = entries;
  is = ap (λ z. talking z since entries out) h.0 ∙ ap (λ z. talking a z entries out) h.1 ∙ ap (talking a start entries) h.4;
  called = h.2;
  gave = h.3;
}
is_talked (closed_off b since entries) a start calls h = absurd h
is_talked given_up a start calls h = absurd h

-- WHAT A CONNECTION HAS KEPT

pub each_at : (P : List ConnEntry → ConnEntry → Type 0) (before es : List ConnEntry) (e : ConnEntry) (more : List ConnEntry) → EachConnEntry P before (es ++ e ∷ more) → P (before ++ es) e
each_at P before [] e more each = subst (λ h. P h e) (sym (append-nil before)) each.0
each_at P before (x ∷ es) e more each = subst (λ h. P h e) (append_assoc before (x ∷ []) es) (each_at P (before ++ x ∷ []) es e more each.1)

pub kept_at : (s : ConnStage) (d : Dialogue) (a : ConnAsk) (start : ℕ) → IsConnAt s d → asked_at d ≡ Some (a, start) → ConnKeeps (link_of a) start (had d)
kept_at _ _ a start before_asked e = absurd (let z = e in cc)
kept_at _ _ a start (while_talking r b since calls out t) e = subst (λ (z : ConnAsk × ℕ). ConnKeeps (link_of z.0) z.1 calls) (same_Some (b, since) (a, start) e) t.stands.keeps
kept_at _ _ a start (once_closed b since calls k) e = subst (λ (z : ConnAsk × ℕ). ConnKeeps (link_of z.0) z.1 calls) (same_Some (b, since) (a, start) e) k
kept_at _ _ a start never_asked e = absurd (let z = e in cc)

-- all that has come was delivered, between calls
pub gave_all : (s : ConnStage) (a : ConnAsk) (start : ℕ) (entries : List ConnEntry) → IsConnAt s (talking a start entries None) → delivered entries ≡ stream_by a (tcp_calls entries)
gave_all _ a start entries (while_talking r _ _ _ _ t) = all_went_up (link_of a) start r.conn entries t.stands t.none_waits

-- WHERE THEY ARE THEN

-- Nothing was closed in a call of the connection: all go on, with what it asked, and what rose then.
pub record GoesOn (c : WebCall) (ds : List (Deed Obj Load)) (a : ConnAsk) (start : ℕ) (entries : List ConnEntry) (call : TcpCall) (q : AskParts) (stream : List ℕ) (rec : ℕ) : Type 0 where
  pub acts : Acts
  pub sent : List ℕ
  pub more : List ConnEntry
  pub after : List ConnEntry
  pub core : Core
  pub given : List ℕ
  pub says : messages_of (told_of ds) ≡ downs_for rec acts
  pub over : acts.over ≡ None
  pub web : c.web_end ≡ fetching q core (stream ++ sent) given
  pub reads : ReadsOn core (stream ++ sent) given
  pub gathering : gathers c.above ≡ true
  pub taken : taken_below c.above ≡ given
  pub conn : c.conn_end ≡ talking a start after None
  pub grows : after ≡ entries ++ conn_entry (calls_in call) acts ∷ more
  pub calls : tcp_calls after ≡ tcp_calls entries ++ call ∷ []
  pub gave : delivered after ≡ delivered entries ++ sent

-- what was lent stands after the entry
pub behind : (calls : List ConnEntry) (e : ConnEntry) (out : Option Lent) (more : List ConnEntry) → (behind : List ConnEntry) × (with_lending (calls ++ e ∷ []) out ++ more ≡ calls ++ e ∷ behind)
behind calls e None more = (more, append_assoc calls (e ∷ []) more)
behind calls e (Some l) more = (_, append_assoc (calls ++ e ∷ []) _ more ∙ append_assoc calls (e ∷ []) _)

module _ {c : WebCall} {n : ℕ} {ds : List (Deed Obj Load)} {a : ConnAsk} {start : ℕ} {entries : List ConnEntry} {call : TcpCall} {q : AskParts} {stream : List ℕ} {rec : ℕ}
    (acts : Acts) (es behind : List ConnEntry) (gave : List ℕ) (out : Option Lent) (ended : Bool) (is : es ≡ entries ++ conn_entry (calls_in call) acts ∷ behind) (silent : tcp_calls behind ≡ []) (holds : delivered behind ≡ gave) where
  pub on_from : CallDid c n ds (talked_on a start es out acts.over) acts.over (downs_for rec acts) q rec stream gave ended → first_close (told_of ds) ≡ None
      → GoesOn c ds a start entries call q stream rec × (ended ≡ false)
  on_from (did_fail fails) none = absurd (none-some _ (sym none ∙ fails))
  on_from (did_go core given b p over off reads going taken r owes w) none =
      let t = walked w in
      let e : ConnEntry = conn_entry (calls_in call) acts in
      let d : talked_on a start es out acts.over ≡ talking a start es out = ap (talked_on a start es out) over in
      let on : is_talking p ≡ true = r.talks ∙ ap is_talking d in
      let at = home_at a start p (r.asked ∙ ap asked_at d) on (nothing_owed (lent_of p) (owes on)) in
      let then : List ConnEntry = behind ++ r.more in
      let grows : had p ≡ entries ++ e ∷ then = r.grows ∙ ap (λ z. had z ++ r.more) d ∙ ap (λ z. z ++ r.more) is ∙ append_assoc entries (e ∷ behind) r.more in (
        record {
          acts = acts;
          sent = gave;
          more = then;
          after = had p;
          core = core;
          given = given;
          says = t.0;
          over = over;
          web = sym t.3;
          reads = reads;
          gathering = subst (λ z. gathers z ≡ true) t.2 going;
          taken = subst (λ z. taken_below z ≡ given) t.2 taken;
          conn = sym t.4 ∙ at;
          grows = grows;
          calls = ap tcp_calls grows ∙ flat_map-append (λ (x : ConnEntry). tcp_calls_of x.call) entries (e ∷ then)
              ∙ ap (λ z. tcp_calls entries ++ call ∷ z) (flat_map-append (λ (x : ConnEntry). tcp_calls_of x.call) behind r.more ∙ ap (λ z. z ++ tcp_calls r.more) silent ∙ r.silent);
          gave = ap delivered grows ∙ flat_map-append (λ (x : ConnEntry). delivered_by x.call) entries (e ∷ then)
              ∙ ap (λ z. delivered entries ++ z) (flat_map-append (λ (x : ConnEntry). delivered_by x.call) behind r.more ∙ ap (λ z. delivered behind ++ z) r.holds ∙ append-nil (delivered behind) ∙ holds);
        },
        off,
      )
  on_from (did_decide core taken later given by_end x b p net told v cut whole answers closing w) none = absurd (none-some x (sym none ∙ (walked w).1))
  on_from (did_break core given y b p over off reads r w) none = absurd (none-some y (sym none ∙ (walked w).1))
