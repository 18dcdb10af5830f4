-- A session and a logical unit close both their ports or none.
use Rattle.std.proofs.Common.{inl, ◌≡◌, ℕ, true, false, List, [], ◌∷◌, ◌++◌, length, take, nat_lt, Option, Some, None, refl, ap, ◌∙◌, arith}
use Rattle.std.specs.Option.{is_some}
use Rattle.nb_terms.specs.declared.cause.Cause.{Cause}
use Rattle.nb_graph.specs.Trace.{NodeEntry, up, down, closed, time, regain}
use Rattle.nb_conns.specs.ConnEffects.{closes_for}
use Rattle.nb_login.specs.declared.info.LoginInfo.{LoginInfo}
use Rattle.nb_login.specs.declared.refusal.LoginRefusal.TheVariants.{ZeroByte}
use Rattle.nb_login.specs.declared.session.Session.{Session}
use Rattle.nb_login.specs.LoginEndings.{login_broken}
use Rattle.nb_login.specs.LoginHistory.{LoginEntry, PduCame, pdu_came, login_entry, last_done, decided_at, end_given, text_put, expected_of}
use Rattle.nb_login.specs.LoginStands.{session_opened}
use Rattle.nb_login.specs.Refusals.{refusal_cause}
use Rattle.nb_login.proofs.LoginHistoryLemmas.{last_done-append}
use Rattle.nb_disk.specs.DiskAnswers.{disk_answer}
use Rattle.nb_disk.specs.Histories.{SessionNumbers, DiskCall, came, reading, stream_ended}
use Rattle.nb_drivenodes.specs.DriveAsks.{DriveAskParts}
use Rattle.nb_drivenodes.specs.declared.iscsi.Iscsi.{Iscsi}
use Rattle.nb_drivenodes.specs.declared.logical_unit.LogicalUnit.{LogicalUnit}
use Rattle.nb_drivenodes.specs.DriveEffects.{TextCarrier}
use Rattle.nb_drivenodes.specs.SessionTalks.{SessionTalk, session_unasked, session_lives, SessionTalks, SessionTalksTo, answered_to, reply_to, login_leads, login_fault, IscsiStands, login_begins, login_refused, login_waits, login_answers, login_breaks, login_lacks, session_waits, session_gives, session_breaks, session_lacks, session_sends, session_ends, session_rests}
use Rattle.nb_drivenodes.specs.UnitTalks.{UnitTalk, unit_unasked, unit_lives, UnitTalks, UnitTalksTo, worked_on, UnitStands, unit_begins, unit_starts, unit_takes, unit_lacks, unit_reads, unit_ends, unit_rests}
use Rattle.nb_closings.specs.Passing.{ends_object, object_has_ended, PassesEndOn}
use Rattle.nb_closings.proofs.TraceLemmas.{none_ended}
use Rattle.nb_closings.proofs.CorePassing.{and_right, false_not, not_and, not_both, not_done, passes_close, rests_closed}
use Rattle.nb_closings.proofs.StreamPassing.{at_end, not_over}

-- where an end was given it goes on no more
never_on : {P : Type 0} (c : Cause) (xs : List (ℕ × Cause)) → xs ≡ closes_for (Some c) → nat_lt 0 (length xs) ≡ false → P
never_on c xs e h = not_both true refl (not_over (Some c) xs e h)

-- OF A LOGICAL UNIT

record UnitStep {N L : Type 0} (e : NodeEntry N L) (w : UnitTalk) : Type 0 where
  pub passes : PassesEndOn e
  pub goes_on : ends_object e ≡ false → unit_lives w ≡ true

works_further : (o : SessionNumbers) (chap : ℕ) (calls : List DiskCall) (over : Option Cause) → is_some over ≡ false → unit_lives (worked_on o chap calls over) ≡ true
works_further o chap calls None h = refl
works_further o chap calls (Some c) h = absurd (let z = h in cc)

unit_step : {N L : Type 0} (k : TextCarrier L) (v w : UnitTalk) (e : NodeEntry N L) → UnitTalks k v e w → unit_lives v ≡ true → UnitStep e w
unit_step k _ _ _ (unit_begins m now fx tag effects) live = record { passes = λ d. inl effects.closes; goes_on = λ h. refl }
unit_step k _ _ _ (unit_starts n slot m now fx tagged notes took effects) live = record { passes = λ d. inl effects.closes; goes_on = λ h. refl }
unit_step k _ _ _ (unit_takes o chap calls p slot m now fx tagged reads took effects) live =
    let over = (disk_answer o (reading o calls) (came m.rec p)).over in
    record { passes = λ d. at_end over fx.closes.items effects.closes; goes_on = λ h. works_further o chap (calls ++ came m.rec p ∷ []) over (not_over over fx.closes.items effects.closes h) }
unit_step k _ _ _ (unit_lacks o chap calls slot m now fx tagged took effects) live =
    let over = (disk_answer o (reading o calls) (stream_ended m.rec)).over in
    record { passes = λ d. at_end over fx.closes.items effects.closes; goes_on = λ h. works_further o chap (calls ++ stream_ended m.rec ∷ []) over (not_over over fx.closes.items effects.closes h) }
unit_step k _ _ _ (unit_reads o chap calls m now fx tag takes effects) live = record { passes = λ d. inl effects.closes; goes_on = λ h. refl }
unit_step k _ _ _ (unit_ends v (up slot m now done fx) cut passes) live = record { passes = λ d. false_not done cut d; goes_on = λ h. not_done done fx.closes.items cut h }
unit_step k _ _ _ (unit_ends v (down m now done fx) cut passes) live = record { passes = λ d. false_not done cut d; goes_on = λ h. not_done done fx.closes.items cut h }
unit_step k _ _ _ (unit_ends v (closed slot c now fx) cut passes) live =
    let low = and_right (unit_lives v) (nat_lt slot 2) cut in
    record { passes = passes_close slot c fx.closes.items low passes.1; goes_on = λ h. not_both (nat_lt slot 2) low h }
unit_step k _ _ _ (unit_ends v (time now done fx) cut passes) live = absurd (let z = cut in cc)
unit_step k _ _ _ (unit_ends v (regain l) cut passes) live = absurd (let z = cut in cc)
unit_step k _ _ _ (unit_rests v (up slot m now done fx) quiet asks) live = record { passes = λ d. inl asks.1; goes_on = λ h. live }
unit_step k _ _ _ (unit_rests v (down m now done fx) quiet asks) live = record { passes = λ d. inl asks.1; goes_on = λ h. live }
unit_step k _ _ _ (unit_rests v (closed slot c now fx) quiet asks) live =
    record { passes = rests_closed slot fx.closes.items (not_and (unit_lives v) (nat_lt slot 2) live quiet) asks.1; goes_on = λ h. live }
unit_step k _ _ _ (unit_rests v (time now done fx) quiet asks) live = record { passes = λ d. inl asks.1; goes_on = λ h. live }
unit_step k _ _ _ (unit_rests v (regain l) quiet asks) live = record { passes = tt; goes_on = λ h. live }

unit_last : {N L : Type 0} (k : TextCarrier L) (t : List (NodeEntry N L)) (e : NodeEntry N L) (v w : UnitTalk) → UnitTalksTo k v (t ++ e ∷ []) w → unit_lives v ≡ true → object_has_ended t ≡ false → PassesEndOn e
unit_last k [] e v w (u, goes, run) live h = (unit_step k v u e goes live).passes
unit_last k (d ∷ t) e v w (u, goes, run) live h = let z = none_ended d t h in unit_last k t e u w run ((unit_step k v u d goes live).goes_on z.0) z.1

pub unit_passes : {N L : Type 0} (k : TextCarrier L) (p : LogicalUnit) (t : List (NodeEntry N L)) (e : NodeEntry N L) → UnitStands k p (t ++ e ∷ []) → object_has_ended t ≡ false → PassesEndOn e
unit_passes k p t e s h = unit_last k t e unit_unasked s.talk s.run refl h

-- OF A SESSION

record SessionStep {N L : Type 0} (e : NodeEntry N L) (w : SessionTalk) : Type 0 where
  pub passes : PassesEndOn e
  pub goes_on : ends_object e ≡ false → session_lives w ≡ true

-- where an answer puts no request the login has an end, or a session with Ok
silent_ends : (i : LoginInfo) (sn : ℕ) (e : LoginEntry) → text_put i sn e.does ≡ None → is_some (end_given e.does) ≡ true
silent_ends i sn e h = grind arith

leads_further : (a : DriveAskParts) (taken : List ℕ) (h : List LoginEntry) (m : PduCame) → is_some (login_fault (answered_to a.info h m) (reply_to a.info h m) (session_opened a.info (answered_to a.info h m))) ≡ false
    → session_lives (login_leads a taken (answered_to a.info h m) (reply_to a.info h m) (session_opened a.info (answered_to a.info h m))) ≡ true
leads_further a taken h m none = by (reply_to a.info h m) refl (session_opened a.info after) none
  where
    after : List LoginEntry
    after = answered_to a.info h m

    by : (text : Option (List ℕ)) → reply_to a.info h m ≡ text → (session : Option Session) → is_some (login_fault after text session) ≡ false → session_lives (login_leads a taken after text session) ≡ true
    by (Some text) is session free = refl
    by None is (Some s) free = refl
    by None is None free =
        let last = login_entry m (decided_at a.info h m) in
        let ends = silent_ends a.info (expected_of m) last is in
        not_both (is_some (end_given (last_done after))) (ap (λ d. is_some (end_given d)) (last_done-append h last) ∙ ends) free

session_step : {N L : Type 0} (k : TextCarrier L) (v w : SessionTalk) (e : NodeEntry N L) → SessionTalks k v e w → session_lives v ≡ true → SessionStep e w
session_step k _ _ _ (login_begins a m now fx tag asks zero effects) live = record { passes = λ d. inl effects.closes; goes_on = λ h. refl }
session_step k _ _ _ (login_refused a name m now fx tag asks zero effects) live =
    let over = refusal_cause (ZeroByte name) in
    record { passes = λ d. at_end (Some over) fx.closes.items effects.closes; goes_on = λ g. never_on over fx.closes.items effects.closes g }
session_step k _ _ _ (login_waits a taken h slot m now fx comes cuts effects) live = record { passes = λ d. inl effects.closes; goes_on = λ h. refl }
session_step k _ _ _ (login_answers a taken h p slot m now fx comes cuts effects) live =
    let last = pdu_came m.rec p in
    let after = answered_to a.info h last in
    let over = login_fault after (reply_to a.info h last) (session_opened a.info after) in
    record { passes = λ d. at_end over fx.closes.items effects.closes; goes_on = λ g. leads_further a (taken ++ take fx.took m.bytes) h last (not_over over fx.closes.items effects.closes g) }
session_step k _ _ _ (login_breaks a taken h slot m now fx comes cuts effects) live =
    record { passes = λ d. at_end (Some (login_broken m.rec)) fx.closes.items effects.closes; goes_on = λ g. never_on (login_broken m.rec) fx.closes.items effects.closes g }
session_step k _ _ _ (login_lacks a taken h slot m now fx comes took effects) live =
    record { passes = λ d. at_end (Some (login_broken m.rec)) fx.closes.items effects.closes; goes_on = λ g. never_on (login_broken m.rec) fx.closes.items effects.closes g }
session_step k _ _ _ (session_waits a taken h slot m now fx comes cuts effects) live = record { passes = λ d. inl effects.closes; goes_on = λ g. refl }
session_step k _ _ _ (session_gives a taken h p slot m now fx comes cuts effects) live = record { passes = λ d. inl effects.closes; goes_on = λ g. refl }
session_step k _ _ _ (session_breaks a taken h slot m now fx comes cuts effects) live = record { passes = λ d. inl effects.closes; goes_on = λ g. refl }
session_step k _ _ _ (session_lacks a taken h slot m now fx comes took effects) live = record { passes = λ d. inl effects.closes; goes_on = λ g. refl }
session_step k _ _ _ (session_sends a taken h m now fx tag effects) live = record { passes = λ d. inl effects.closes; goes_on = λ g. refl }
session_step k _ _ _ (session_ends v (up slot m now done fx) cut passes) live = record { passes = λ d. false_not done cut d; goes_on = λ h. not_done done fx.closes.items cut h }
session_step k _ _ _ (session_ends v (down m now done fx) cut passes) live = record { passes = λ d. false_not done cut d; goes_on = λ h. not_done done fx.closes.items cut h }
session_step k _ _ _ (session_ends v (closed slot c now fx) cut passes) live =
    let low = and_right (session_lives v) (nat_lt slot 2) cut in
    record { passes = passes_close slot c fx.closes.items low passes.1; goes_on = λ h. not_both (nat_lt slot 2) low h }
session_step k _ _ _ (session_ends v (time now done fx) cut passes) live = absurd (let z = cut in cc)
session_step k _ _ _ (session_ends v (regain l) cut passes) live = absurd (let z = cut in cc)
session_step k _ _ _ (session_rests v (up slot m now done fx) quiet asks) live = record { passes = λ d. inl asks.1; goes_on = λ h. live }
session_step k _ _ _ (session_rests v (down m now done fx) quiet asks) live = record { passes = λ d. inl asks.1; goes_on = λ h. live }
session_step k _ _ _ (session_rests v (closed slot c now fx) quiet asks) live =
    record { passes = rests_closed slot fx.closes.items (not_and (session_lives v) (nat_lt slot 2) live quiet) asks.1; goes_on = λ h. live }
session_step k _ _ _ (session_rests v (time now done fx) quiet asks) live = record { passes = λ d. inl asks.1; goes_on = λ h. live }
session_step k _ _ _ (session_rests v (regain l) quiet asks) live = record { passes = tt; goes_on = λ h. live }

session_last : {N L : Type 0} (k : TextCarrier L) (t : List (NodeEntry N L)) (e : NodeEntry N L) (v w : SessionTalk) → SessionTalksTo k v (t ++ e ∷ []) w → session_lives v ≡ true → object_has_ended t ≡ false → PassesEndOn e
session_last k [] e v w (u, goes, run) live h = (session_step k v u e goes live).passes
session_last k (d ∷ t) e v w (u, goes, run) live h = let z = none_ended d t h in session_last k t e u w run ((session_step k v u d goes live).goes_on z.0) z.1

pub session_passes : {N L : Type 0} (k : TextCarrier L) (p : Iscsi) (t : List (NodeEntry N L)) (e : NodeEntry N L) → IscsiStands k p (t ++ e ∷ []) → object_has_ended t ≡ false → PassesEndOn e
session_passes k p t e s h = session_last k t e session_unasked s.talk s.run refl h
