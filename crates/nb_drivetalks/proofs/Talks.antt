-- What comes to a connection in a call on a drive, besides what begins it: texts, and what was lent. Its calls only grow.
use Rattle.std.proofs.Common.{◌≡◌, ℕ, true, false, List, [], ◌∷◌, ◌++◌, Option, Some, None, refl, sym, ap, ◌∙◌, subst, append_assoc, append-nil}
use Rattle.std.specs.List.{flat_map}
use Rattle.std.proofs.lemmas.List.Concat.{flat_map-append}
use Rattle.nb_terms.specs.declared.acts.Acts.{Acts}
use Rattle.nb_terms.specs.declared.cause.Cause.{Cause}
use Rattle.nb_graph.specs.Deeds.{Deed, told_of}
use Rattle.nb_graph.specs.Trace.{NodeEntry, Said}
use Rattle.nb_streams.specs.Flows.{TcpCall, segment_came, text_came, time_came}
use Rattle.nb_tcp.specs.ConnHistory.{ConnCall, ConnEntry, calls_in, closes_from_above, comes_back, conn_entry, delivered, delivered_by, lends_out, tcp_calls, tcp_calls_of}
use Rattle.nb_conns.specs.declared.conn_ask.ConnAsk.{ConnAsk}
use Rattle.nb_conns.specs.declared.conn_load.Lent.{Lent}
use Rattle.nb_conns.specs.ConnEffects.{downs_for}
use Rattle.nb_conns.specs.Dialogues.{Converses, ConversesTo, Dialogue, unopened, talking, closed_off, given_up, arriving, at_close, ends_short, hands_on, has_back, is_asked, is_closed, rests_still, takes_none, takes_segment, takes_text, takes_tick, is_talking, with_lending}
use Rattle.nb_nodes.specs.declared.load.Load.{Load}
use Rattle.nb_nodes.specs.declared.obj.Obj.{Obj}
use Rattle.nb_nodes.specs.Carriers.{conn_carrier}
use Rattle.nb_opens.specs.Notices.{first_close}
use Rattle.nb_webtalks.proofs.Coming.{behind}
use Rattle.nb_webtalks.proofs.Lowers.{IsBegun, Regains, asked_at, had}
use Rattle.nb_webtalks.proofs.Segments.{asked_then, had_then}
use Rattle.nb_drivetalks.proofs.Returning.{RanOut}
use Rattle.nb_drivetalks.proofs.Walking.{DriveCall}

-- ITS CALLS GROW

pub record Grew (d f : Dialogue) : Type 0 where
  pub begun : IsBegun f
  pub asked : asked_at f ≡ asked_at d
  pub rest : List ConnEntry
  pub grows : had f ≡ had d ++ rest

grew_none : (d : Dialogue) → IsBegun d → Grew d d
grew_none d b = record { begun = b; asked = refl; rest = []; grows = sym (append-nil (had d)) }

begun_by : (d : Dialogue) (a : ConnAsk) (start : ℕ) → asked_at d ≡ Some (a, start) → IsBegun d
begun_by unopened a start e = absurd (let z = e in cc)
begun_by (talking b since calls out) a start e = tt
begun_by (closed_off b since calls) a start e = tt
begun_by given_up a start e = tt

-- by an entry, perhaps with what was lent then
grew_entry : (a : ConnAsk) (start : ℕ) (calls es : List ConnEntry) (q : Dialogue) (e : ConnEntry) (behind : List ConnEntry) → had q ≡ es → es ≡ calls ++ e ∷ behind → asked_at q ≡ Some (a, start) → (out : Option Lent)
    → Grew (talking a start calls out) q
grew_entry a start calls es q e behind is parts asked out = record { begun = begun_by q a start asked; asked = asked; rest = e ∷ behind; grows = is ∙ parts }

at_close_grew : (d : Dialogue) → IsBegun d → Grew d (at_close d)
at_close_grew unopened b = absurd b
at_close_grew (talking a start calls out) b = record { begun = tt; asked = refl; rest = []; grows = sym (append-nil calls) }
at_close_grew (closed_off a start calls) b = record { begun = tt; asked = refl; rest = []; grows = sym (append-nil calls) }
at_close_grew given_up b = record { begun = tt; asked = refl; rest = []; grows = refl }

grew_one : (d f : Dialogue) (e : NodeEntry Obj Load) → IsBegun d → Converses conn_carrier d e f → Grew d f
grew_one _ _ _ b (is_asked a m now fx tag asks effects) = absurd b
grew_one _ _ _ b (takes_segment a start calls slot m now fx s acts out comes is lends effects all) =
    let e : ConnEntry = conn_entry (calls_in (segment_came (arriving m.rec s) now)) acts in
    let y = behind calls e out [] in
    grew_entry a start calls (with_lending (calls ++ e ∷ []) out) _ e y.0 (had_then a start (with_lending (calls ++ e ∷ []) out) out acts.over) (sym (append-nil (with_lending (calls ++ e ∷ []) out)) ∙ y.1) (asked_then a start (with_lending (calls ++ e ∷ []) out) out acts.over) None
grew_one _ _ _ b (hands_on a start calls slot m now fx s acts comes is alive ready lasts effects all) =
    record { begun = tt; asked = refl; rest = _; grows = append_assoc calls (conn_entry (calls_in (segment_came (arriving m.rec s) now)) acts ∷ []) _ }
grew_one d _ _ b (takes_none a start calls out slot m now fx none says closes all) = grew_none d b
grew_one _ _ _ b (takes_text a start calls out m now fx acts tag effects) =
    let es = calls ++ conn_entry (calls_in (text_came m.bytes now)) acts ∷ [] in
    grew_entry a start calls es _ _ [] (had_then a start es out acts.over) refl (asked_then a start es out acts.over) out
grew_one _ _ _ b (takes_tick a start calls out now fx acts effects) =
    let es = calls ++ conn_entry (calls_in (time_came now)) acts ∷ [] in
    grew_entry a start calls es _ _ [] (had_then a start es out acts.over) refl (asked_then a start es out acts.over) out
grew_one _ _ _ b (has_back a start calls l load is) = record { begun = tt; asked = refl; rest = _; grows = refl }
grew_one _ _ _ b (is_closed a start calls out cause now fx acts effects) = record { begun = tt; asked = refl; rest = _; grows = refl }
grew_one d _ _ b (ends_short _ _ cut hands) = at_close_grew d b
grew_one d _ _ b (rests_still _ _ quiet idle) = grew_none d b

pub grew_all : (d f : Dialogue) (t : List (NodeEntry Obj Load)) → IsBegun d → ConversesTo conn_carrier d t f → Grew d f
grew_all d f [] b run = subst (Grew d) run (grew_none d b)
grew_all d f (e ∷ t) b run =
    let one = grew_one d run.0 e b run.1 in
    let more = grew_all run.0 f t one.begun run.2 in
    record { begun = more.begun; asked = more.asked ∙ one.asked; rest = one.rest ++ more.rest; grows = more.grows ∙ ap (λ z. z ++ more.rest) one.grows ∙ append_assoc (had d) one.rest more.rest }

-- WHAT MAY GO WRONG

-- Memory ran out, or a text ended the connection, which the connection's promise rules out.
pub data Failed (c : DriveCall) (ds : List (Deed Obj Load)) : Type 0 where
  ran_out : RanOut ds → Failed c ds
  text_broke : (b : ConnAsk) (start : ℕ) (before rest : List ConnEntry) (text : List ℕ) (acts : Acts) (y : Cause) → asked_at c.conn_end ≡ Some (b, start)
      → had c.conn_end ≡ before ++ conn_entry (calls_in (text_came text c.now)) acts ∷ rest → acts.over ≡ Some y → first_close (told_of ds) ≡ Some y → Failed c ds

-- THE TEXTS THAT COME

-- what an entry of a text says, and what those of a list do
abbrev pub text_told : ℕ → ConnCall → Acts → List Said
text_told rec (calls_in (segment_came m now)) acts = []
text_told rec (calls_in (time_came now)) acts = []
text_told rec (calls_in (text_came bytes now)) acts = downs_for rec acts
text_told rec (lends_out bytes) acts = []
text_told rec comes_back acts = []
text_told rec closes_from_above acts = []

abbrev pub texts_told : ℕ → List ConnEntry → List Said
texts_told rec es = flat_map (λ (e : ConnEntry). text_told rec e.call e.acts) es

-- To a connection that goes on come these texts, and what was lent, and nothing else; one that has ended takes none.
pub record Speaks (rec : ℕ) (texts : List TcpCall) (d q : Dialogue) (told : List Said) : Type 0 where
  pub asked : asked_at q ≡ asked_at d
  pub talks : is_talking q ≡ is_talking d
  pub begun : IsBegun d → IsBegun q
  pub more : List ConnEntry
  pub grows : had q ≡ had d ++ more
  pub calls : is_talking d ≡ true → tcp_calls more ≡ texts
  pub silent : is_talking d ≡ false → tcp_calls more ≡ []
  pub holds : delivered more ≡ []
  pub says : told ≡ texts_told rec more

silent_call : (rec : ℕ) (call : ConnCall) (acts : Acts) → tcp_calls_of call ≡ [] → text_told rec call acts ≡ []
silent_call rec (calls_in t) acts e = absurd (let z = e in cc)
silent_call rec (lends_out bytes) acts e = refl
silent_call rec comes_back acts e = refl
silent_call rec closes_from_above acts e = refl

first_none : {A : Type 0} (xs ys : List A) → xs ++ ys ≡ [] → (xs ≡ []) × (ys ≡ [])
first_none [] ys e = (refl, e)
first_none (x ∷ xs) ys e = absurd (let z = e in cc)

pub silent_told : (rec : ℕ) (es : List ConnEntry) → tcp_calls es ≡ [] → texts_told rec es ≡ []
silent_told rec [] e = refl
silent_told rec (x ∷ es) e =
    let parts = first_none (tcp_calls_of x.call) (tcp_calls es) e in
    ap (λ z. z ++ texts_told rec es) (silent_call rec x.call x.acts parts.0) ∙ silent_told rec es parts.1

pub speaks_none : (rec : ℕ) {d q : Dialogue} → Regains d q → Speaks rec [] d q []
speaks_none rec r = record {
  asked = r.asked;
  talks = r.talks;
  begun = r.begun;
  more = r.more;
  grows = r.grows;
  calls = λ on. r.silent;
  silent = λ off. r.silent;
  holds = r.holds;
  says = sym (silent_told rec r.more r.silent);
}

pub speaks_both : (rec : ℕ) {xs ys : List TcpCall} {d p q : Dialogue} {s t : List Said} → Speaks rec xs d p s → Speaks rec ys p q t → Speaks rec (xs ++ ys) d q (s ++ t)
speaks_both rec {xs} {ys} {d} {p} {q} {s} {t} a b = record {
  asked = b.asked ∙ a.asked;
  talks = b.talks ∙ a.talks;
  begun = λ x. b.begun (a.begun x);
  more = a.more ++ b.more;
  grows = b.grows ∙ ap (λ z. z ++ b.more) a.grows ∙ append_assoc (had d) a.more b.more;
  calls = λ on. both ∙ ap (λ z. z ++ tcp_calls b.more) (a.calls on) ∙ ap (λ z. xs ++ z) (b.calls (a.talks ∙ on));
  silent = λ off. both ∙ ap (λ z. z ++ tcp_calls b.more) (a.silent off) ∙ b.silent (a.talks ∙ off);
  holds = flat_map-append (λ (e : ConnEntry). delivered_by e.call) a.more b.more ∙ ap (λ z. z ++ delivered b.more) a.holds ∙ b.holds;
  says = ap (λ z. z ++ t) a.says ∙ ap (λ z. texts_told rec a.more ++ z) b.says ∙ sym (flat_map-append (λ (e : ConnEntry). text_told rec e.call e.acts) a.more b.more);
}
  where
    both : tcp_calls (a.more ++ b.more) ≡ tcp_calls a.more ++ tcp_calls b.more
    both = flat_map-append (λ (e : ConnEntry). tcp_calls_of e.call) a.more b.more

-- the same, where the texts are spelled otherwise
pub speaks_as : (rec : ℕ) {xs ys : List TcpCall} {d q : Dialogue} {told : List Said} → xs ≡ ys → Speaks rec xs d q told → Speaks rec ys d q told
speaks_as rec {d = d} {q = q} {told = told} is s = subst (λ z. Speaks rec z d q told) is s
