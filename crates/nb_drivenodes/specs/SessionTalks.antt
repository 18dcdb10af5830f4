-- What a session has done over its trace (RFC 7143), in terms of its login's promise and of the PDUs of its stream: our own.
use Rattle.std.specs.Prelude.{◌≡◌, ℕ, ◌==◌, ◌&&◌, ◌||◌, Bool, true, false, not, List, [], ◌∷◌, ◌++◌, take, map, nat_lt, Option, Some, None, Result, Ok, Err}
use Rattle.std.specs.Option.{is_some}
use Rattle.nb_terms.specs.declared.cause.Cause.{Cause}
use Rattle.nb_effects.specs.declared.effects.Emit.{Emit}
use Rattle.nb_effects.specs.declared.effects.Few.{Few}
use Rattle.nb_effects.specs.declared.effects.Fx.{Fx}
use Rattle.nb_graph.specs.Trace.{Said, NodeEntry, up, down, closed, time, regain}
use Rattle.nb_conns.specs.declared.stream_tag.StreamTag.{StreamTag}
use Rattle.nb_conns.specs.declared.stream_tag.StreamTag.TheVariants as stream
use Rattle.nb_conns.specs.StreamTags.{stream_tag_number}
use Rattle.nb_conns.specs.ConnEffects.{TookAll, closes_for}
use Rattle.nb_conns.specs.Dialogues.{AsksIdly, HandsOnClose}
use Rattle.nb_iscsipdu.specs.PduTexts.{PduParts}
use Rattle.nb_iscsipdu.specs.Streams.{cut}
use Rattle.nb_login.specs.declared.info.LoginInfo.{LoginInfo}
use Rattle.nb_login.specs.declared.session.Session.{Session}
use Rattle.nb_login.specs.declared.refusal.LoginRefusal.{LoginRefusal}
use Rattle.nb_login.specs.declared.refusal.LoginRefusal.TheVariants.{ZeroByte, NoMemory}
use Rattle.nb_login.specs.declared.refusal.SentName.{SentName}
use Rattle.nb_login.specs.Logins.{login_said}
use Rattle.nb_login.specs.Refusals.{zero_name, refusal_cause}
use Rattle.nb_login.specs.LoginHistory.{PduCame, LoginEntry, pdu_came, login_entry, decided_at, expected_of, text_put, end_given, last_done, login_ended, LoginMeets}
use Rattle.nb_login.specs.LoginStands.{LoginStands, session_opened}
use Rattle.nb_login.specs.LoginEndings.{login_broken}
use Rattle.nb_drivenodes.specs.declared.iscsi.Iscsi.{Iscsi}
use Rattle.nb_drivenodes.specs.declared.login_answer.LoginAnswer.{LoginAnswer}
use Rattle.nb_drivenodes.specs.declared.login_answer.LoginAnswer.TheVariants as answer
use Rattle.nb_drivenodes.specs.declared.session_stage.SessionStage.{SessionStage}
use Rattle.nb_drivenodes.specs.declared.session_stage.SessionStage.TheVariants.{Unasked, LoggingIn, Open, Drained, Ended}
use Rattle.nb_drivenodes.specs.DriveAsks.{DriveAskParts, drive_ask_in}
use Rattle.nb_drivenodes.specs.SessionNotes.{note_bytes, note_of}
use Rattle.nb_drivenodes.specs.DriveEffects.{TextCarrier, DriveEffects, OnlyFirst, conn_says, sends_says, opens_says, pdu_says, stream_end_says, text_emit, opened_emit}
use Rattle.nb_drivenodes.specs.StreamCuts.{CutsTo, HasCut, cuts_none, cuts_one, cuts_off}

-- How far a session is: nothing was asked for; its login has had these answers; it is open; or it was, and no PDU comes
-- any more: each after it took these bytes of the stream. Or the login has failed so; or it ended otherwise.
pub data SessionTalk : Type 0 where
  session_unasked : SessionTalk
  logging_in : (a : DriveAskParts) (taken : List ℕ) (h : List LoginEntry) → SessionTalk
  in_session : (a : DriveAskParts) (taken : List ℕ) (h : List LoginEntry) → SessionTalk
  session_drained : (a : DriveAskParts) (taken : List ℕ) (h : List LoginEntry) → SessionTalk
  login_failed : (a : DriveAskParts) (taken : List ℕ) (h : List LoginEntry) (over : Option Cause) → SessionTalk
  session_cut : SessionTalk

abbrev pub session_lives : SessionTalk → Bool
session_lives session_unasked = true
session_lives (logging_in a taken h) = true
session_lives (in_session a taken h) = true
session_lives (session_drained a taken h) = true
session_lives (login_failed a taken h over) = false
session_lives session_cut = false

-- the stream is read
abbrev pub session_reads : SessionTalk → Bool
session_reads session_unasked = false
session_reads (logging_in a taken h) = true
session_reads (in_session a taken h) = true
session_reads (session_drained a taken h) = false
session_reads (login_failed a taken h over) = false
session_reads session_cut = false

-- a message by slot 1 of this kind
abbrev pub comes_below : StreamTag → ℕ → Said → Bool
comes_below tag slot m = (slot == 1) && (m.tag == stream_tag_number tag)

abbrev pub session_comes : SessionTalk → ℕ → Said → Bool
session_comes d slot m = session_reads d && (comes_below stream.Received slot m || comes_below stream.End slot m)

-- a message from above that counts: it asks for the session, or is a text for an open one
abbrev pub session_asks : SessionTalk → Said → Bool
session_asks session_unasked m = (m.tag == stream_tag_number stream.Begin) && is_some (drive_ask_in m.bytes)
session_asks (logging_in a taken h) m = false
session_asks (in_session a taken h) m = m.tag == stream_tag_number stream.Send
session_asks (session_drained a taken h) m = false
session_asks (login_failed a taken h over) m = false
session_asks session_cut m = false

-- an entry in which nothing comes of the stream and nothing is asked for
abbrev pub is_quiet_session : {N L : Type 0} → SessionTalk → NodeEntry N L → Bool
is_quiet_session d (up slot m now done fx) = done && not (session_comes d slot m)
is_quiet_session d (down m now done fx) = done && not (session_asks d m)
is_quiet_session d (closed slot cause now fx) = not (session_lives d && nat_lt slot 2)
is_quiet_session d (time now done fx) = done
is_quiet_session d (regain load) = true

-- it ran out of memory, or a port was closed
abbrev pub is_cut_session : {N L : Type 0} → SessionTalk → NodeEntry N L → Bool
is_cut_session d (up slot m now done fx) = not done
is_cut_session d (down m now done fx) = not done
is_cut_session d (closed slot cause now fx) = session_lives d && nat_lt slot 2
is_cut_session d (time now done fx) = false
is_cut_session d (regain load) = false

-- the answers of a login with one more, to this PDU
abbrev pub answered_to : LoginInfo → List LoginEntry → PduCame → List LoginEntry
answered_to i h m = h ++ login_entry m (decided_at i h m) ∷ []

-- the request that it puts then
abbrev pub reply_to : LoginInfo → List LoginEntry → PduCame → Option (List ℕ)
reply_to i h m = text_put i (expected_of m) (decided_at i h m)

-- where a login is after its last answer: it puts a request, opens a session, or fails with this end
abbrev pub login_leads : DriveAskParts → List ℕ → List LoginEntry → Option (List ℕ) → Option Session → SessionTalk
login_leads a taken h (Some text) session = logging_in a taken h
login_leads a taken h None (Some session) = in_session a taken h
login_leads a taken h None None = login_failed a taken h (end_given (last_done h))

-- the end of one that fails
abbrev pub login_fault : List LoginEntry → Option (List ℕ) → Option Session → Option Cause
login_fault h (Some text) session = None
login_fault h None (Some session) = None
login_fault h None None = end_given (last_done h)

-- One entry of a session. Each PDU of its stream stands in an entry, and an entry takes no further one.
pub data SessionTalks {N L : Type 0} (k : TextCarrier L) : SessionTalk → NodeEntry N L → SessionTalk → Type 0 where
  -- the connection is asked for, and given the login's first request
  login_begins : (a : DriveAskParts) (m : Said) (now : ℕ) (fx : Fx N L) → m.tag ≡ stream_tag_number stream.Begin → drive_ask_in m.bytes ≡ Some a
      → zero_name a.info ≡ None → DriveEffects k m (conn_says m (login_said a.info [])) [] [] fx
      → SessionTalks k session_unasked (down m now true fx) (logging_in a [] [])
  -- a name that would be sent has a zero byte
  login_refused : (a : DriveAskParts) (name : SentName) (m : Said) (now : ℕ) (fx : Fx N L) → m.tag ≡ stream_tag_number stream.Begin → drive_ask_in m.bytes ≡ Some a
      → zero_name a.info ≡ Some name → DriveEffects k m [] [] (closes_for (Some (refusal_cause (ZeroByte name)))) fx
      → SessionTalks k session_unasked (down m now true fx) (login_failed a [] [] (Some (refusal_cause (ZeroByte name))))
  -- bytes of the stream that make no PDU whole
  login_waits : (a : DriveAskParts) (taken : List ℕ) (h : List LoginEntry) (slot : ℕ) (m : Said) (now : ℕ) (fx : Fx N L)
      → comes_below stream.Received slot m ≡ true → CutsTo taken m.bytes fx.took cuts_none → DriveEffects k m [] [] [] fx
      → SessionTalks k (logging_in a taken h) (up slot m now true fx) (logging_in a (taken ++ take fx.took m.bytes) h)
  -- A PDU of the stream: the login comes to what its promise says of all that came, sends its next request, opens the
  -- session, or fails.
  login_answers : (a : DriveAskParts) (taken : List ℕ) (h : List LoginEntry) (p : PduParts) (slot : ℕ) (m : Said) (now : ℕ) (fx : Fx N L)
      → comes_below stream.Received slot m ≡ true → CutsTo taken m.bytes fx.took (cuts_one p)
      → (let h2 = answered_to a.info h (pdu_came m.rec p) in let text = reply_to a.info h (pdu_came m.rec p) in let session = session_opened a.info h2 in
      DriveEffects k m (sends_says m.rec text) (opens_says m.rec text session) (closes_for (login_fault h2 text session)) fx)
      → SessionTalks k (logging_in a taken h) (up slot m now true fx)
      (let h2 = answered_to a.info h (pdu_came m.rec p) in login_leads a (taken ++ take fx.took m.bytes) h2 (reply_to a.info h (pdu_came m.rec p)) (session_opened a.info h2))
  -- bytes with which no PDU begins, and the stream's end: the login is broken
  login_breaks : (a : DriveAskParts) (taken : List ℕ) (h : List LoginEntry) (slot : ℕ) (m : Said) (now : ℕ) (fx : Fx N L)
      → comes_below stream.Received slot m ≡ true → CutsTo taken m.bytes fx.took cuts_off → DriveEffects k m [] [] (closes_for (Some (login_broken m.rec))) fx
      → SessionTalks k (logging_in a taken h) (up slot m now true fx) (login_failed a (taken ++ take fx.took m.bytes) h (Some (login_broken m.rec)))
  login_lacks : (a : DriveAskParts) (taken : List ℕ) (h : List LoginEntry) (slot : ℕ) (m : Said) (now : ℕ) (fx : Fx N L)
      → comes_below stream.End slot m ≡ true → TookAll m fx → DriveEffects k m [] [] (closes_for (Some (login_broken m.rec))) fx
      → SessionTalks k (logging_in a taken h) (up slot m now true fx) (login_failed a taken h (Some (login_broken m.rec)))
  -- of an open session: bytes that make no PDU whole, a PDU, bytes with which none begins, and the stream's end
  session_waits : (a : DriveAskParts) (taken : List ℕ) (h : List LoginEntry) (slot : ℕ) (m : Said) (now : ℕ) (fx : Fx N L)
      → comes_below stream.Received slot m ≡ true → CutsTo taken m.bytes fx.took cuts_none → DriveEffects k m [] [] [] fx
      → SessionTalks k (in_session a taken h) (up slot m now true fx) (in_session a (taken ++ take fx.took m.bytes) h)
  session_gives : (a : DriveAskParts) (taken : List ℕ) (h : List LoginEntry) (p : PduParts) (slot : ℕ) (m : Said) (now : ℕ) (fx : Fx N L)
      → comes_below stream.Received slot m ≡ true → CutsTo taken m.bytes fx.took (cuts_one p) → DriveEffects k m [] (pdu_says m.rec p) [] fx
      → SessionTalks k (in_session a taken h) (up slot m now true fx) (in_session a (taken ++ take fx.took m.bytes) h)
  session_breaks : (a : DriveAskParts) (taken : List ℕ) (h : List LoginEntry) (slot : ℕ) (m : Said) (now : ℕ) (fx : Fx N L)
      → comes_below stream.Received slot m ≡ true → CutsTo taken m.bytes fx.took cuts_off → DriveEffects k m [] (stream_end_says m.rec) [] fx
      → SessionTalks k (in_session a taken h) (up slot m now true fx) (session_drained a (taken ++ take fx.took m.bytes) h)
  session_lacks : (a : DriveAskParts) (taken : List ℕ) (h : List LoginEntry) (slot : ℕ) (m : Said) (now : ℕ) (fx : Fx N L)
      → comes_below stream.End slot m ≡ true → TookAll m fx → DriveEffects k m [] (stream_end_says m.rec) [] fx
      → SessionTalks k (in_session a taken h) (up slot m now true fx) (session_drained a taken h)
  -- a text is sent
  session_sends : (a : DriveAskParts) (taken : List ℕ) (h : List LoginEntry) (m : Said) (now : ℕ) (fx : Fx N L) → m.tag ≡ stream_tag_number stream.Send
      → DriveEffects k m (sends_says m.rec (Some m.bytes)) [] [] fx → SessionTalks k (in_session a taken h) (down m now true fx) (in_session a taken h)
  session_ends : (d : SessionTalk) (e : NodeEntry N L) → is_cut_session d e ≡ true → HandsOnClose e → SessionTalks k d e session_cut
  session_rests : (d : SessionTalk) (e : NodeEntry N L) → is_quiet_session d e ≡ true → AsksIdly e → SessionTalks k d e d

-- the entries lead from one to the other
abbrev pub SessionTalksTo : {N L : Type 0} → TextCarrier L → SessionTalk → List (NodeEntry N L) → SessionTalk → Type 0
SessionTalksTo k d [] f = d ≡ f
SessionTalksTo k d (e ∷ t) f = (g : SessionTalk) × SessionTalks k d e g × SessionTalksTo k g t f

-- the login was given the PDUs that the stream is cut into
abbrev pub pdus_given : List LoginEntry → List PduParts
pdus_given h = map (λ e. e.came.pdu) h

-- the answers of a login that has opened a session
pub record HasSession (a : DriveAskParts) (h : List LoginEntry) : Type 0 where
  pub meets : LoginMeets a.info h
  pub session : Session
  pub opens : session_opened a.info h ≡ Some session

-- the object has a login that stands for these answers
abbrev pub HasStandingLogin : SessionStage → LoginInfo → List LoginEntry → Type 0
HasStandingLogin Unasked i h = ⊥
HasStandingLogin (LoggingIn l) i h = LoginStands i l h
HasStandingLogin Open i h = ⊥
HasStandingLogin Drained i h = ⊥
HasStandingLogin Ended i h = ⊥

-- what the object is meanwhile: its login stands for the answers, and they are the PDUs of what it took of the stream
pub data IsSessionAt : SessionStage → List ℕ → SessionTalk → Type 0 where
  before_login : (gathered : List ℕ) → HasCut [] gathered → IsSessionAt Unasked gathered session_unasked
  while_logging_in : (s : SessionStage) (gathered : List ℕ) (a : DriveAskParts) (taken : List ℕ) (h : List LoginEntry) → HasStandingLogin s a.info h → login_ended h ≡ false
      → pdus_given h ≡ (cut taken).pdus → HasCut taken gathered → IsSessionAt s gathered (logging_in a taken h)
  while_in_session : (gathered : List ℕ) (a : DriveAskParts) (taken : List ℕ) (h : List LoginEntry) → HasSession a h → HasCut taken gathered
      → IsSessionAt Open gathered (in_session a taken h)
  once_drained : (gathered : List ℕ) (a : DriveAskParts) (taken : List ℕ) (h : List LoginEntry) → HasSession a h → IsSessionAt Drained gathered (session_drained a taken h)
  once_failed : (gathered : List ℕ) (a : DriveAskParts) (taken : List ℕ) (h : List LoginEntry) (over : Option Cause) → LoginMeets a.info h → IsSessionAt Ended gathered (login_failed a taken h over)
  once_session_cut : (gathered : List ℕ) → IsSessionAt Ended gathered session_cut

-- A session stands for a trace whose entries lead from the beginning to where it is.
pub record IscsiStands {N L : Type 0} (k : TextCarrier L) (p : Iscsi) (t : List (NodeEntry N L)) : Type 0 where
  pub talk : SessionTalk
  pub run : SessionTalksTo k session_unasked t talk
  pub at : IsSessionAt p.stage p.pdus talk

-- wherever the session was before an entry, it is afterwards where the entry leads
abbrev pub SessionOn : {N L : Type 0} → TextCarrier L → SessionStage → List ℕ → SessionStage → List ℕ → NodeEntry N L → Type 0
SessionOn k old gathered new gathers e = (d : SessionTalk) → IsSessionAt old gathered d → (f : SessionTalk) × SessionTalks k d e f × IsSessionAt new gathers f

-- nothing was asked for yet
pub record IsUnaskedSession (p : Iscsi) : Type 0 where
  pub stage : p.stage ≡ Unasked
  pub fresh : HasCut [] p.pdus

-- THE STEPS

-- whether the stream is read, and whether a message from below or above may count, by what the object is
abbrev pub stage_reads : SessionStage → Bool
stage_reads Unasked = false
stage_reads (LoggingIn l) = true
stage_reads Open = true
stage_reads Drained = false
stage_reads Ended = false

abbrev pub stage_takes_session : SessionStage → StreamTag → ℕ → Said → Bool
stage_takes_session s tag slot m = stage_reads s && comes_below tag slot m

abbrev pub stage_is_ended_session : SessionStage → Bool
stage_is_ended_session Unasked = false
stage_is_ended_session (LoggingIn l) = false
stage_is_ended_session Open = false
stage_is_ended_session Drained = false
stage_is_ended_session Ended = true

-- what a login's answer comes to, made ready
abbrev pub opens_so : Session → LoginAnswer
opens_so s = answer.Opens (note_bytes (note_of s)) s.exp_stat_sn s.chap

abbrev pub answer_by : Option (List ℕ) → Option Session → Option Cause → LoginAnswer
answer_by (Some text) session over = answer.Asks text
answer_by None (Some session) over = opens_so session
answer_by None None over = answer.Fails over

-- A login that stood for these answers has made this of a PDU; it stands then for one answer more, while it goes on.
pub record AnswersLogin (i : LoginInfo) (h : List LoginEntry) (m : PduCame) (stands : List LoginEntry → Type 0) (a : LoginAnswer) : Type 0 where
  pub does : a ≡ answer_by (reply_to i h m) (session_opened i (answered_to i h m)) (end_given (last_done (answered_to i h m)))
  pub meets : LoginMeets i (answered_to i h m)
  pub stands_on : (text : List ℕ) → reply_to i h m ≡ Some text → stands (answered_to i h m)

abbrev pub stage_by : LoginAnswer → SessionStage → SessionStage
stage_by (answer.Asks text) s = s
stage_by (answer.Opens note exp_stat_sn chap) s = Open
stage_by (answer.Fails over) s = Ended

abbrev pub IsNoEmit : {L : Type 0} → Few (Emit L) → Type 0
IsNoEmit f = (f.first ≡ None) × (f.second ≡ None)

abbrev pub AnswerDowns : {L : Type 0} → TextCarrier L → LoginAnswer → Few (Emit L) → Type 0
AnswerDowns k (answer.Asks text) f = OnlyFirst (text_emit k text) f
AnswerDowns k (answer.Opens note exp_stat_sn chap) f = IsNoEmit f
AnswerDowns k (answer.Fails over) f = IsNoEmit f

abbrev pub AnswerUps : {L : Type 0} → TextCarrier L → LoginAnswer → Few (Emit L) → Type 0
AnswerUps k (answer.Asks text) f = IsNoEmit f
AnswerUps k (answer.Opens note exp_stat_sn chap) f = OnlyFirst (opened_emit k note exp_stat_sn chap) f
AnswerUps k (answer.Fails over) f = IsNoEmit f

abbrev pub answer_closes : LoginAnswer → List (ℕ × Cause)
answer_closes (answer.Asks text) = []
answer_closes (answer.Opens note exp_stat_sn chap) = []
answer_closes (answer.Fails over) = closes_for over

-- an entry asks for what an answer says
pub record AnsweredBy {N L : Type 0} (k : TextCarrier L) (a : LoginAnswer) (fx : Fx N L) : Type 0 where
  pub no_make : fx.makes ≡ None
  pub downs : AnswerDowns k a fx.downs
  pub ups : AnswerUps k a fx.ups
  pub closes : fx.closes.items ≡ answer_closes a

-- a login was begun, or wasn't for a name with a zero byte
abbrev pub StartsLogin : {S : Type 0} → LoginInfo → (S → Type 0) → Result (S × List ℕ) LoginRefusal → Type 0
StartsLogin i stands (Ok r) = stands r.0 × (r.1 ≡ login_said i []) × (zero_name i ≡ None)
StartsLogin i stands (Err (ZeroByte name)) = zero_name i ≡ Some name
StartsLogin i stands (Err NoMemory) = Unit {0}
