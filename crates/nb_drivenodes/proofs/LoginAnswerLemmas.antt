-- Where the messages of its stream, and those from above, lead a session.
use Rattle.std.proofs.Common.{◌≡◌, ℕ, ◌&&◌, Bool, true, false, List, [], ◌∷◌, ◌++◌, take, Option, Some, None, refl, ap, sym, ◌∙◌, subst}
use Rattle.std.proofs.lemmas.List.{map-append}
use Rattle.std.proofs.lemmas.Bool.{false≢true}
use Rattle.nb_effects.specs.declared.effects.Fx.{Fx}
use Rattle.nb_graph.specs.Trace.{Said, up, down}
use Rattle.nb_conns.specs.declared.stream_tag.StreamTag.{StreamTag}
use Rattle.nb_conns.specs.declared.stream_tag.StreamTag.TheVariants as stream
use Rattle.nb_conns.specs.StreamTags.{stream_tag_number}
use Rattle.nb_conns.specs.ConnEffects.{SaysNothing, TookAll, closes_for}
use Rattle.nb_iscsipdu.specs.PduTexts.{PduParts}
use Rattle.nb_iscsipdu.specs.Streams.{cut}
use Rattle.nb_login.specs.declared.info.LoginInfo.{LoginInfo}
use Rattle.nb_login.specs.declared.session.Session.{Session}
use Rattle.nb_login.specs.declared.refusal.LoginRefusal.TheVariants.{ZeroByte}
use Rattle.nb_login.specs.declared.refusal.SentName.{SentName}
use Rattle.nb_login.specs.Refusals.{zero_name, refusal_cause}
use Rattle.nb_login.specs.Logins.{login_said}
use Rattle.nb_login.specs.LoginHistory.{PduCame, LoginEntry, pdu_came, login_entry, decided_at, expected_of, end_given, last_done, login_ended, LoginMeets}
use Rattle.nb_login.specs.LoginStands.{session_opened}
use Rattle.nb_login.specs.LoginEndings.{login_broken}
use Rattle.nb_login.proofs.DecisionLemmas.{asks-on}
use Rattle.nb_drivenodes.specs.declared.login_answer.LoginAnswer.{LoginAnswer}
use Rattle.nb_drivenodes.specs.declared.session_stage.SessionStage.{SessionStage}
use Rattle.nb_drivenodes.specs.declared.session_stage.SessionStage.TheVariants.{Unasked, LoggingIn, Open, Drained, Ended}
use Rattle.nb_drivenodes.specs.DriveAsks.{DriveAskParts, drive_ask_in}
use Rattle.nb_drivenodes.specs.DriveEffects.{TextCarrier, DriveEffects, sends_says, conn_says, opens_says, pdu_says, stream_end_says}
use Rattle.nb_drivenodes.specs.StreamCuts.{HasCut, FeedsSo, cuts_none, cuts_one, cuts_off}
use Rattle.nb_drivenodes.specs.SessionTalks.{logging_in, in_session, session_drained, login_failed, comes_below, answered_to, reply_to, login_leads, login_fault, login_begins, login_refused, login_waits, login_answers, login_breaks, login_lacks, session_waits, session_gives, session_breaks, session_lacks, session_sends, pdus_given, HasStandingLogin, IsSessionAt, before_login, while_logging_in, while_in_session, once_drained, once_failed, once_session_cut, SessionOn, stage_reads, stage_takes_session, answer_by, AnswersLogin, stage_by, IsNoEmit, AnsweredBy}
use Rattle.nb_drivenodes.proofs.DriveEffectLemmas.{closes-alone, sends-alone, opens-alone}

pub some-same : {A : Type 0} {a b : A} → Some a ≡ Some b → a ≡ b
some-same h = let z = h in cc

and-right : (a b : Bool) → (a && b) ≡ true → b ≡ true
and-right true b h = h
and-right false b h = absurd (false≢true h)

pub comes-of : (w : SessionStage) (tag : StreamTag) (slot : ℕ) (m : Said) → stage_takes_session w tag slot m ≡ true → comes_below tag slot m ≡ true
comes-of w tag slot m h = and-right (stage_reads w) (comes_below tag slot m) h

pub nothing-emitted : {N L : Type 0} (fx : Fx N L) → SaysNothing fx → IsNoEmit fx.downs × IsNoEmit fx.ups
nothing-emitted fx s = ((s.no_down, s.no_downs), (s.no_up, s.no_ups))

-- bytes that make no PDU whole
pub waits-on : {N L : Type 0} (k : TextCarrier L) (m : Said) (slot now : ℕ) (fx : Fx N L) (w : SessionStage) (before after : List ℕ) → stage_takes_session w stream.Received slot m ≡ true
    → FeedsSo before after m.bytes fx.took cuts_none → DriveEffects k m [] [] [] fx → SessionOn k w before w after (up slot m now true fx)
waits-on k m slot now fx w before after takes feeds effects _ (before_login _ s) = absurd (false≢true takes)
waits-on k m slot now fx w before after takes feeds effects _ (while_logging_in _ _ a taken h has on pdus stands) =
    let fed = feeds taken stands in (
      logging_in a (taken ++ take fx.took m.bytes) h,
      login_waits a taken h slot m now fx (comes-of w stream.Received slot m takes) fed.0 effects,
      while_logging_in w after a (taken ++ take fx.took m.bytes) h has on (pdus ∙ sym fed.0.comes.0) (fed.1, fed.2),
    )
waits-on k m slot now fx w before after takes feeds effects _ (while_in_session _ a taken h opened stands) =
    let fed = feeds taken stands in (
      in_session a (taken ++ take fx.took m.bytes) h,
      session_waits a taken h slot m now fx takes fed.0 effects,
      while_in_session after a (taken ++ take fx.took m.bytes) h opened (fed.1, fed.2),
    )
waits-on k m slot now fx w before after takes feeds effects _ (once_drained _ a taken h opened) = absurd (false≢true takes)
waits-on k m slot now fx w before after takes feeds effects _ (once_failed _ a taken h over meets) = absurd (false≢true takes)
waits-on k m slot now fx w before after takes feeds effects _ (once_session_cut _) = absurd (false≢true takes)

-- a PDU of an open session
pub gives-on : {N L : Type 0} (k : TextCarrier L) (m : Said) (slot now : ℕ) (fx : Fx N L) (w : SessionStage) (before after : List ℕ) (p : PduParts) → w ≡ Open → stage_takes_session w stream.Received slot m ≡ true
    → FeedsSo before after m.bytes fx.took (cuts_one p) → DriveEffects k m [] (pdu_says m.rec p) [] fx → SessionOn k w before w after (up slot m now true fx)
gives-on k m slot now fx w before after p o takes feeds effects _ (before_login _ s) = absurd (false≢true takes)
gives-on k m slot now fx w before after p o takes feeds effects _ (while_logging_in _ _ a taken h has on pdus stands) = absurd (subst (λ (z : SessionStage). HasStandingLogin z a.info h) o has)
gives-on k m slot now fx w before after p o takes feeds effects _ (while_in_session _ a taken h opened stands) =
    let fed = feeds taken stands in (
      in_session a (taken ++ take fx.took m.bytes) h,
      session_gives a taken h p slot m now fx takes fed.0 effects,
      while_in_session after a (taken ++ take fx.took m.bytes) h opened (fed.1, fed.2),
    )
gives-on k m slot now fx w before after p o takes feeds effects _ (once_drained _ a taken h opened) = absurd (false≢true takes)
gives-on k m slot now fx w before after p o takes feeds effects _ (once_failed _ a taken h over meets) = absurd (false≢true takes)
gives-on k m slot now fx w before after p o takes feeds effects _ (once_session_cut _) = absurd (false≢true takes)

-- what an answer asks for, by what the login comes to
answer-effects : {N L : Type 0} (k : TextCarrier L) (m : Said) (h : List LoginEntry) (fx : Fx N L) (a : LoginAnswer) (text : Option (List ℕ)) (session : Option Session) → a ≡ answer_by text session (end_given (last_done h)) → AnsweredBy k a fx
    → DriveEffects k m (sends_says m.rec text) (opens_says m.rec text session) (closes_for (login_fault h text session)) fx
answer-effects {N} {L} k m h fx a text session is asked = by text session (subst (λ (z : LoginAnswer). AnsweredBy k z fx) is asked)
  where
    by : (text : Option (List ℕ)) (session : Option Session) → AnsweredBy k (answer_by text session (end_given (last_done h))) fx
        → DriveEffects k m (sends_says m.rec text) (opens_says m.rec text session) (closes_for (login_fault h text session)) fx
    by (Some text) session e = sends-alone k m text fx e.no_make e.downs e.ups e.closes
    by None (Some s) e = opens-alone k m s fx e.no_make e.downs e.ups e.closes
    by None None e = closes-alone k m _ fx e.no_make e.downs e.ups e.closes

-- where a login is after an answer
answer-at : (a : DriveAskParts) (h : List LoginEntry) (m : PduCame) (w : SessionStage) (after taken : List ℕ) (stands : List LoginEntry → Type 0) (answer : LoginAnswer) (v : SessionStage) (text : Option (List ℕ)) (session : Option Session)
    → AnswersLogin a.info h m stands answer → answer ≡ answer_by text session (end_given (last_done (answered_to a.info h m))) → w ≡ stage_by answer v → ((e : List LoginEntry) → stands e → HasStandingLogin v a.info e)
    → reply_to a.info h m ≡ text → session_opened a.info (answered_to a.info h m) ≡ session → pdus_given (answered_to a.info h m) ≡ (cut taken).pdus → HasCut taken after
    → IsSessionAt w after (login_leads a taken (answered_to a.info h m) text session)
answer-at a h m w after taken stands answer v (Some text) session answers is stage has put opens pdus cuts =
    subst (λ (z : SessionStage). IsSessionAt z after (logging_in a taken (answered_to a.info h m))) (sym (stage ∙ ap (λ z. stage_by z v) is))
    (while_logging_in v after a taken (answered_to a.info h m) (has (answered_to a.info h m) (answers.stands_on text put))
    (asks-on a.info h (login_entry m (decided_at a.info h m)) (expected_of m) text put) pdus cuts)
answer-at a h m w after taken stands answer v None (Some s) answers is stage has put opens pdus cuts =
    subst (λ (z : SessionStage). IsSessionAt z after (in_session a taken (answered_to a.info h m))) (sym (stage ∙ ap (λ z. stage_by z v) is))
    (while_in_session after a taken (answered_to a.info h m) (record { meets = answers.meets; session = s; opens = opens }) cuts)
answer-at a h m w after taken stands answer v None None answers is stage has put opens pdus cuts =
    subst (λ (z : SessionStage). IsSessionAt z after (login_failed a taken (answered_to a.info h m) (end_given (last_done (answered_to a.info h m))))) (sym (stage ∙ ap (λ z. stage_by z v) is))
    (once_failed after a taken (answered_to a.info h m) (end_given (last_done (answered_to a.info h m))) answers.meets)

given-more : (h : List LoginEntry) (e : LoginEntry) → pdus_given (h ++ e ∷ []) ≡ pdus_given h ++ e.came.pdu ∷ []
given-more h e = map-append (λ (x : LoginEntry). x.came.pdu) h (e ∷ [])

-- a PDU for the login
pub answers-on : {N L : Type 0} (k : TextCarrier L) (m : Said) (slot now : ℕ) (fx : Fx N L) (w v : SessionStage) (before after : List ℕ) (p : PduParts) (stands : LoginInfo → List LoginEntry → Type 0) (answer : LoginAnswer) (old : SessionStage)
    → stage_takes_session old stream.Received slot m ≡ true → (old ≡ Open → ⊥)
    → ((i : LoginInfo) (h : List LoginEntry) → HasStandingLogin old i h → login_ended h ≡ false → AnswersLogin i h (pdu_came m.rec p) (stands i) answer)
    → ((i : LoginInfo) (e : List LoginEntry) → stands i e → HasStandingLogin v i e) → w ≡ stage_by answer v → AnsweredBy k answer fx
    → FeedsSo before after m.bytes fx.took (cuts_one p) → SessionOn k old before w after (up slot m now true fx)
answers-on k m slot now fx w v before after p stands answer old takes shut answers has stage asked feeds _ (before_login _ s) = absurd (false≢true takes)
answers-on k m slot now fx w v before after p stands answer old takes shut answers has stage asked feeds _ (while_logging_in _ _ a taken h holds on pdus cuts) =
    let fed = feeds taken cuts in
    let c = pdu_came m.rec p in
    let all = answers a.info h holds on in
    let later = taken ++ take fx.took m.bytes in (
      login_leads a later (answered_to a.info h c) (reply_to a.info h c) (session_opened a.info (answered_to a.info h c)),
      login_answers a taken h p slot m now fx (comes-of old stream.Received slot m takes) fed.0
          (answer-effects k m (answered_to a.info h c) fx answer (reply_to a.info h c) (session_opened a.info (answered_to a.info h c)) all.does asked),
      answer-at a h c w after later (stands a.info) answer v (reply_to a.info h c) (session_opened a.info (answered_to a.info h c)) all all.does stage (has a.info) refl refl
          (given-more h (login_entry c (decided_at a.info h c)) ∙ ap (λ (z : List PduParts). z ++ p ∷ []) pdus ∙ sym fed.0.comes.0) (fed.1, fed.2),
    )
answers-on k m slot now fx w v before after p stands answer old takes shut answers has stage asked feeds _ (while_in_session _ a taken h opened cuts) = absurd (shut refl)
answers-on k m slot now fx w v before after p stands answer old takes shut answers has stage asked feeds _ (once_drained _ a taken h opened) = absurd (false≢true takes)
answers-on k m slot now fx w v before after p stands answer old takes shut answers has stage asked feeds _ (once_failed _ a taken h over meets) = absurd (false≢true takes)
answers-on k m slot now fx w v before after p stands answer old takes shut answers has stage asked feeds _ (once_session_cut _) = absurd (false≢true takes)

-- the login has these answers, and they meet its promise
meets-at : (w : SessionStage) (i : LoginInfo) (h : List LoginEntry) → HasStandingLogin w i h → LoginMeets i h
meets-at Unasked i h has = absurd has
meets-at (LoggingIn l) i h has = has.meets
meets-at Open i h has = absurd has
meets-at Drained i h has = absurd has
meets-at Ended i h has = absurd has

-- a login is broken by what comes of the stream, or by its end
pub login-breaks-on : {N L : Type 0} (k : TextCarrier L) (m : Said) (slot now : ℕ) (fx : Fx N L) (old : SessionStage) (before after : List ℕ) → stage_takes_session old stream.Received slot m ≡ true → (old ≡ Open → ⊥)
    → FeedsSo before after m.bytes fx.took cuts_off → DriveEffects k m [] [] (closes_for (Some (login_broken m.rec))) fx → SessionOn k old before Ended after (up slot m now true fx)
login-breaks-on k m slot now fx old before after takes shut feeds effects _ (before_login _ s) = absurd (false≢true takes)
login-breaks-on k m slot now fx old before after takes shut feeds effects _ (while_logging_in _ _ a taken h has on pdus cuts) = (
  login_failed a (taken ++ take fx.took m.bytes) h (Some (login_broken m.rec)),
  login_breaks a taken h slot m now fx (comes-of old stream.Received slot m takes) (feeds taken cuts).0 effects,
  once_failed after a (taken ++ take fx.took m.bytes) h (Some (login_broken m.rec)) (meets-at old a.info h has),
)
login-breaks-on k m slot now fx old before after takes shut feeds effects _ (while_in_session _ a taken h opened cuts) = absurd (shut refl)
login-breaks-on k m slot now fx old before after takes shut feeds effects _ (once_drained _ a taken h opened) = absurd (false≢true takes)
login-breaks-on k m slot now fx old before after takes shut feeds effects _ (once_failed _ a taken h over meets) = absurd (false≢true takes)
login-breaks-on k m slot now fx old before after takes shut feeds effects _ (once_session_cut _) = absurd (false≢true takes)

pub login-lacks-on : {N L : Type 0} (k : TextCarrier L) (m : Said) (slot now : ℕ) (fx : Fx N L) (old : SessionStage) (before after : List ℕ) → stage_takes_session old stream.End slot m ≡ true → (old ≡ Open → ⊥)
    → TookAll m fx → DriveEffects k m [] [] (closes_for (Some (login_broken m.rec))) fx → SessionOn k old before Ended after (up slot m now true fx)
login-lacks-on k m slot now fx old before after takes shut all effects _ (before_login _ s) = absurd (false≢true takes)
login-lacks-on k m slot now fx old before after takes shut all effects _ (while_logging_in _ _ a taken h has on pdus cuts) = (
  login_failed a taken h (Some (login_broken m.rec)),
  login_lacks a taken h slot m now fx (comes-of old stream.End slot m takes) all effects,
  once_failed after a taken h (Some (login_broken m.rec)) (meets-at old a.info h has),
)
login-lacks-on k m slot now fx old before after takes shut all effects _ (while_in_session _ a taken h opened cuts) = absurd (shut refl)
login-lacks-on k m slot now fx old before after takes shut all effects _ (once_drained _ a taken h opened) = absurd (false≢true takes)
login-lacks-on k m slot now fx old before after takes shut all effects _ (once_failed _ a taken h over meets) = absurd (false≢true takes)
login-lacks-on k m slot now fx old before after takes shut all effects _ (once_session_cut _) = absurd (false≢true takes)

-- an open session is drained by what comes of the stream, or by its end
pub session-breaks-on : {N L : Type 0} (k : TextCarrier L) (m : Said) (slot now : ℕ) (fx : Fx N L) (old : SessionStage) (before after : List ℕ) → old ≡ Open → stage_takes_session old stream.Received slot m ≡ true
    → FeedsSo before after m.bytes fx.took cuts_off → DriveEffects k m [] (stream_end_says m.rec) [] fx → SessionOn k old before Drained after (up slot m now true fx)
session-breaks-on k m slot now fx old before after o takes feeds effects _ (before_login _ s) = absurd (false≢true takes)
session-breaks-on k m slot now fx old before after o takes feeds effects _ (while_logging_in _ _ a taken h has on pdus cuts) = absurd (subst (λ (z : SessionStage). HasStandingLogin z a.info h) o has)
session-breaks-on k m slot now fx old before after o takes feeds effects _ (while_in_session _ a taken h opened cuts) = (
  session_drained a (taken ++ take fx.took m.bytes) h,
  session_breaks a taken h slot m now fx takes (feeds taken cuts).0 effects,
  once_drained after a (taken ++ take fx.took m.bytes) h opened,
)
session-breaks-on k m slot now fx old before after o takes feeds effects _ (once_drained _ a taken h opened) = absurd (false≢true takes)
session-breaks-on k m slot now fx old before after o takes feeds effects _ (once_failed _ a taken h over meets) = absurd (false≢true takes)
session-breaks-on k m slot now fx old before after o takes feeds effects _ (once_session_cut _) = absurd (false≢true takes)

pub session-lacks-on : {N L : Type 0} (k : TextCarrier L) (m : Said) (slot now : ℕ) (fx : Fx N L) (old : SessionStage) (before after : List ℕ) → old ≡ Open → stage_takes_session old stream.End slot m ≡ true
    → TookAll m fx → DriveEffects k m [] (stream_end_says m.rec) [] fx → SessionOn k old before Drained after (up slot m now true fx)
session-lacks-on k m slot now fx old before after o takes all effects _ (before_login _ s) = absurd (false≢true takes)
session-lacks-on k m slot now fx old before after o takes all effects _ (while_logging_in _ _ a taken h has on pdus cuts) = absurd (subst (λ (z : SessionStage). HasStandingLogin z a.info h) o has)
session-lacks-on k m slot now fx old before after o takes all effects _ (while_in_session _ a taken h opened cuts) = (
  session_drained a taken h,
  session_lacks a taken h slot m now fx takes all effects,
  once_drained after a taken h opened,
)
session-lacks-on k m slot now fx old before after o takes all effects _ (once_drained _ a taken h opened) = absurd (false≢true takes)
session-lacks-on k m slot now fx old before after o takes all effects _ (once_failed _ a taken h over meets) = absurd (false≢true takes)
session-lacks-on k m slot now fx old before after o takes all effects _ (once_session_cut _) = absurd (false≢true takes)

-- a text is sent
pub session-sends-on : {N L : Type 0} (k : TextCarrier L) (m : Said) (now : ℕ) (fx : Fx N L) (old : SessionStage) (g : List ℕ) → old ≡ Open → m.tag ≡ stream_tag_number stream.Send
    → DriveEffects k m (sends_says m.rec (Some m.bytes)) [] [] fx → SessionOn k old g old g (down m now true fx)
session-sends-on k m now fx old g o tag effects _ (before_login _ s) = absurd (let z = o in cc)
session-sends-on k m now fx old g o tag effects _ (while_logging_in _ _ a taken h has on pdus cuts) = absurd (subst (λ (z : SessionStage). HasStandingLogin z a.info h) o has)
session-sends-on k m now fx old g o tag effects _ (while_in_session _ a taken h opened cuts) = (in_session a taken h, session_sends a taken h m now fx tag effects, while_in_session g a taken h opened cuts)
session-sends-on k m now fx old g o tag effects _ (once_drained _ a taken h opened) = absurd (let z = o in cc)
session-sends-on k m now fx old g o tag effects _ (once_failed _ a taken h over meets) = absurd (let z = o in cc)
session-sends-on k m now fx old g o tag effects _ (once_session_cut _) = absurd (let z = o in cc)

-- the session is asked for
pub login-begins-on : {N L : Type 0} (k : TextCarrier L) (m : Said) (now : ℕ) (fx : Fx N L) (old new : SessionStage) (g : List ℕ) (a : DriveAskParts) → old ≡ Unasked → m.tag ≡ stream_tag_number stream.Begin → drive_ask_in m.bytes ≡ Some a
    → zero_name a.info ≡ None → HasStandingLogin new a.info [] → DriveEffects k m (conn_says m (login_said a.info [])) [] [] fx → SessionOn k old g new g (down m now true fx)
login-begins-on k m now fx old new g a o tag asks names has effects _ (before_login _ s) = (
  logging_in a [] [],
  login_begins a m now fx tag asks names effects,
  while_logging_in new g a [] [] has refl refl s,
)
login-begins-on k m now fx old new g a o tag asks names has effects _ (while_logging_in _ _ b taken h holds on pdus cuts) = absurd (subst (λ (z : SessionStage). HasStandingLogin z b.info h) o holds)
login-begins-on k m now fx old new g a o tag asks names has effects _ (while_in_session _ b taken h opened cuts) = absurd (let z = o in cc)
login-begins-on k m now fx old new g a o tag asks names has effects _ (once_drained _ b taken h opened) = absurd (let z = o in cc)
login-begins-on k m now fx old new g a o tag asks names has effects _ (once_failed _ b taken h over meets) = absurd (let z = o in cc)
login-begins-on k m now fx old new g a o tag asks names has effects _ (once_session_cut _) = absurd (let z = o in cc)

-- a name that would be sent has a zero byte
pub login-refused-on : {N L : Type 0} (k : TextCarrier L) (m : Said) (now : ℕ) (fx : Fx N L) (old : SessionStage) (g : List ℕ) (a : DriveAskParts) (name : SentName) → old ≡ Unasked → m.tag ≡ stream_tag_number stream.Begin → drive_ask_in m.bytes ≡ Some a
    → zero_name a.info ≡ Some name → DriveEffects k m [] [] (closes_for (Some (refusal_cause (ZeroByte name)))) fx → SessionOn k old g Ended g (down m now true fx)
login-refused-on k m now fx old g a name o tag asks names effects _ (before_login _ s) = (
  login_failed a [] [] (Some (refusal_cause (ZeroByte name))),
  login_refused a name m now fx tag asks names effects,
  once_failed g a [] [] (Some (refusal_cause (ZeroByte name))) (record { answers = tt }),
)
login-refused-on k m now fx old g a name o tag asks names effects _ (while_logging_in _ _ b taken h holds on pdus cuts) = absurd (subst (λ (z : SessionStage). HasStandingLogin z b.info h) o holds)
login-refused-on k m now fx old g a name o tag asks names effects _ (while_in_session _ b taken h opened cuts) = absurd (let z = o in cc)
login-refused-on k m now fx old g a name o tag asks names effects _ (once_drained _ b taken h opened) = absurd (let z = o in cc)
login-refused-on k m now fx old g a name o tag asks names effects _ (once_failed _ b taken h over meets) = absurd (let z = o in cc)
login-refused-on k m now fx old g a name o tag asks names effects _ (once_session_cut _) = absurd (let z = o in cc)
