-- Where the entries of a session lead.
use Rattle.std.proofs.Common.{◌≡◌, ℕ, ◌==◌, ◌&&◌, ◌||◌, ◌<◌, ◌≤◌, Bool, true, false, not, List, [], ◌∷◌, ◌++◌, nat_lt, refl, ap, sym, ◌∙◌, subst, arith}
use Rattle.std.proofs.lemmas.Bool.{lt-ltb, le-ltb}
use Rattle.std.specs.Option.{is_some}
use Rattle.nb_terms.specs.declared.cause.Cause.{Cause}
use Rattle.nb_effects.specs.declared.effects.Fx.{Fx}
use Rattle.nb_graph.specs.Trace.{Said, NodeEntry, up, down, closed, regain}
use Rattle.nb_conns.specs.declared.stream_tag.StreamTag.TheVariants as stream
use Rattle.nb_conns.specs.StreamTags.{stream_tag_number}
use Rattle.nb_conns.specs.Dialogues.{AsksIdly, HandsOnClose}
use Rattle.nb_drivenodes.specs.declared.session_stage.SessionStage.{SessionStage}
use Rattle.nb_drivenodes.specs.declared.session_stage.SessionStage.TheVariants.{Unasked, LoggingIn, Open, Drained, Ended}
use Rattle.nb_drivenodes.specs.declared.iscsi.Iscsi.{Iscsi}
use Rattle.nb_drivenodes.specs.DriveAsks.{drive_ask_in}
use Rattle.nb_drivenodes.specs.DriveEffects.{TextCarrier}
use Rattle.nb_drivenodes.specs.SessionTalks.{SessionTalk, session_unasked, session_cut, session_lives, session_reads, comes_below, is_quiet_session, is_cut_session, SessionTalks, session_ends, session_rests, SessionTalksTo, HasStandingLogin, IsSessionAt, before_login, while_logging_in, while_in_session, once_drained, once_failed, once_session_cut, IscsiStands, SessionOn, IsUnaskedSession, stage_reads, stage_takes_session, stage_is_ended_session}

-- an entry in which nothing comes and nothing is asked for
pub session-rests : {N L : Type 0} (k : TextCarrier L) (w : SessionStage) (g : List ℕ) (e : NodeEntry N L) → ((d : SessionTalk) → IsSessionAt w g d → is_quiet_session d e ≡ true) → AsksIdly e → SessionOn k w g w g e
session-rests k w g e quiet asks = λ d at. (d, session_rests d e (quiet d at) asks, at)

-- one that ends it
pub session-cuts : {N L : Type 0} (k : TextCarrier L) (w new : SessionStage) (g h : List ℕ) (e : NodeEntry N L) → new ≡ Ended → ((d : SessionTalk) → IsSessionAt w g d → is_cut_session d e ≡ true) → HandsOnClose e → SessionOn k w g new h e
session-cuts k w new g h e o cut hands = subst (λ (z : SessionStage). SessionOn k w g z h e) (sym o) (λ d at. (session_cut, session_ends d e (cut d at) hands, once_session_cut h))

-- the stream is read by what the object is
reads-at : (w : SessionStage) (g : List ℕ) (d : SessionTalk) → IsSessionAt w g d → stage_reads w ≡ session_reads d
reads-at _ _ _ (before_login g s) = refl
reads-at w _ _ (while_logging_in s g a taken h has on pdus stands) = by s has
  where
    by : (s : SessionStage) → HasStandingLogin s a.info h → stage_reads s ≡ true
    by Unasked has = absurd has
    by (LoggingIn l) has = refl
    by Open has = absurd has
    by Drained has = absurd has
    by Ended has = absurd has
reads-at _ _ _ (while_in_session g a taken h opened stands) = refl
reads-at _ _ _ (once_drained g a taken h opened) = refl
reads-at _ _ _ (once_failed g a taken h over meets) = refl
reads-at _ _ _ (once_session_cut g) = refl

none-comes : (b r e : Bool) → (b && r) ≡ false → (b && e) ≡ false → not (b && (r || e)) ≡ true
none-comes true r e h i = ap (λ z. not (z || e)) h ∙ ap not i
none-comes false r e h i = refl

-- a message that isn't of the stream
pub quiet-up-session : {N L : Type 0} (w : SessionStage) (g : List ℕ) (slot : ℕ) (m : Said) (now : ℕ) (fx : Fx N L) (d : SessionTalk) → stage_takes_session w stream.Received slot m ≡ false → stage_takes_session w stream.End slot m ≡ false
    → IsSessionAt w g d → is_quiet_session d (up slot m now true fx) ≡ true
quiet-up-session w g slot m now fx d h i at =
    let same = reads-at w g d at in
    ap (λ z. not (z && (comes_below stream.Received slot m || comes_below stream.End slot m))) (sym same) ∙ none-comes (stage_reads w) (comes_below stream.Received slot m) (comes_below stream.End slot m) h i

-- a message from above to one that asks for nothing then
pub quiet-down-session : {N L : Type 0} (w : SessionStage) (g : List ℕ) (m : Said) (now : ℕ) (fx : Fx N L) (d : SessionTalk) → (w ≡ Unasked → ((m.tag == stream_tag_number stream.Begin) && is_some (drive_ask_in m.bytes)) ≡ false)
    → (w ≡ Open → (m.tag == stream_tag_number stream.Send) ≡ false) → IsSessionAt w g d → is_quiet_session d (down m now true fx) ≡ true
quiet-down-session w g m now fx _ h i (before_login _ s) = ap not (h refl)
quiet-down-session w g m now fx _ h i (while_logging_in s _ a taken l has on pdus stands) = refl
quiet-down-session w g m now fx _ h i (while_in_session _ a taken l opened stands) = ap not (i refl)
quiet-down-session w g m now fx _ h i (once_drained _ a taken l opened) = refl
quiet-down-session w g m now fx _ h i (once_failed _ a taken l over meets) = refl
quiet-down-session w g m now fx _ h i (once_session_cut _) = refl

not-and : (a b : Bool) → b ≡ false → not (a && b) ≡ true
not-and true b h = ap not h
not-and false b h = refl

pub quiet-slot-session : {N L : Type 0} (slot : ℕ) (cause : Cause) (now : ℕ) (fx : Fx N L) (d : SessionTalk) → 1 < slot → is_quiet_session d (closed slot cause now fx) ≡ true
quiet-slot-session slot cause now fx d h = not-and (session_lives d) (nat_lt slot 2) (le-ltb slot 2 (omega (arith, h)))

-- it has ended by what the object is
ended-at : (w : SessionStage) (g : List ℕ) (d : SessionTalk) → IsSessionAt w g d → not (stage_is_ended_session w) ≡ session_lives d
ended-at _ _ _ (before_login g s) = refl
ended-at w _ _ (while_logging_in s g a taken h has on pdus stands) = by s has
  where
    by : (s : SessionStage) → HasStandingLogin s a.info h → not (stage_is_ended_session s) ≡ true
    by Unasked has = absurd has
    by (LoggingIn l) has = refl
    by Open has = absurd has
    by Drained has = absurd has
    by Ended has = absurd has
ended-at _ _ _ (while_in_session g a taken h opened stands) = refl
ended-at _ _ _ (once_drained g a taken h opened) = refl
ended-at _ _ _ (once_failed g a taken h over meets) = refl
ended-at _ _ _ (once_session_cut g) = refl

pub quiet-ended-session : {N L : Type 0} (w : SessionStage) (g : List ℕ) (slot : ℕ) (cause : Cause) (now : ℕ) (fx : Fx N L) (d : SessionTalk) → stage_is_ended_session w ≡ true → IsSessionAt w g d → is_quiet_session d (closed slot cause now fx) ≡ true
quiet-ended-session w g slot cause now fx d h at = ap (λ z. not (z && nat_lt slot 2)) (sym (ended-at w g d at) ∙ ap not h)

-- a close that ends it
pub cut-close-session : {N L : Type 0} (w : SessionStage) (g : List ℕ) (slot : ℕ) (cause : Cause) (now : ℕ) (fx : Fx N L) (d : SessionTalk) → slot ≤ 1 → stage_is_ended_session w ≡ false → IsSessionAt w g d → is_cut_session d (closed slot cause now fx) ≡ true
cut-close-session w g slot cause now fx d l h at = ap (λ z. z && nat_lt slot 2) (sym (ended-at w g d at) ∙ ap not h) ∙ lt-ltb slot 2 (omega (arith, l))

-- the entries of a longer trace
talks-more : {N L : Type 0} (k : TextCarrier L) (d f g : SessionTalk) (t : List (NodeEntry N L)) (e : NodeEntry N L) → SessionTalksTo k d t f → SessionTalks k f e g → SessionTalksTo k d (t ++ e ∷ []) g
talks-more k d f g [] e run goes = (g, subst (λ (z : SessionTalk). SessionTalks k z e g) (sym run) goes, refl)
talks-more k d f g (x ∷ t) e run goes = (run.0, run.1, talks-more k run.0 f g t e run.2 goes)

pub session-stands-on : {N L : Type 0} (k : TextCarrier L) (p q : Iscsi) (t : List (NodeEntry N L)) (e : NodeEntry N L) → SessionOn k p.stage p.pdus q.stage q.pdus e → IscsiStands k p t → IscsiStands k q (t ++ e ∷ [])
session-stands-on k p q t e goes s =
    let g = goes s.talk s.at in
    record { talk = g.0; run = talks-more k session_unasked s.talk g.0 t e s.run g.1; at = g.2 }

-- one that wasn't asked for stands for the empty trace
pub session-stands-anew : {N L : Type 0} (k : TextCarrier L) (p : Iscsi) → IsUnaskedSession p → IscsiStands {N = N} k p []
session-stands-anew k p e = record { talk = session_unasked; run = refl; at = subst (λ (z : SessionStage). IsSessionAt z p.pdus session_unasked) (sym e.stage) (before_login p.pdus e.fresh) }

-- a load that comes back
pub session-has-back : {N L : Type 0} (k : TextCarrier L) (p q : Iscsi) (t : List (NodeEntry N L)) (load : L) → q.stage ≡ p.stage → q.pdus ≡ p.pdus → IscsiStands k p t → IscsiStands k q (t ++ regain load ∷ [])
session-has-back {N} {L} k p q t load e f s =
    let entry : NodeEntry N L = regain load in
    session-stands-on k p q t entry
    (subst (λ (z : SessionStage). SessionOn k p.stage p.pdus z q.pdus entry) (sym e)
    (subst (λ (z : List ℕ). SessionOn k p.stage p.pdus p.stage z entry) (sym f) (session-rests k p.stage p.pdus entry (λ d at. refl) tt))) s
