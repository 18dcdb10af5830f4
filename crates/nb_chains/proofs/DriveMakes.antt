-- Neither a session nor a logical unit asks for a make.
use Rattle.std.proofs.Common.{◌≡◌, ℕ, Bool, true, false, not, List, [], ◌∷◌, ◌++◌}
use Rattle.nb_conns.specs.Dialogues.{AsksIdly}
use Rattle.nb_drivenodes.specs.DriveEffects.{TextCarrier}
use Rattle.nb_drivenodes.specs.SessionTalks.{SessionTalk, SessionTalks, SessionTalksTo, login_begins, login_refused, login_waits, login_answers, login_breaks, login_lacks, session_waits, session_gives, session_breaks, session_lacks, session_sends, session_ends, session_rests}
use Rattle.nb_drivenodes.specs.UnitTalks.{UnitTalk, UnitTalks, UnitTalksTo, unit_begins, unit_starts, unit_takes, unit_lacks, unit_reads, unit_ends, unit_rests}
use Rattle.nb_frames.specs.Within.{AsksNoMake}
use Rattle.nb_graph.specs.Trace.{NodeEntry, up, down, closed, time, regain}

false_not : (b : Bool) → not b ≡ true → b ≡ true → ⊥
false_not true h e = let z = h in cc
false_not false h e = let z = e in cc

idly_makes : {N L : Type 0} (e : NodeEntry N L) → AsksIdly e → AsksNoMake e
idly_makes (up slot m now done fx) h = λ d. h.0.no_make
idly_makes (down m now done fx) h = λ d. h.0.no_make
idly_makes (closed slot c now fx) h = h.0.no_make
idly_makes (time now done fx) h = λ d. h.0.no_make
idly_makes (regain l) h = tt

session_makes : {N L : Type 0} (k : TextCarrier L) (v w : SessionTalk) (e : NodeEntry N L) → SessionTalks k v e w → AsksNoMake e
session_makes k _ _ _ (login_begins a m now fx tag asks zero effects) = λ d. effects.no_make
session_makes k _ _ _ (login_refused a name m now fx tag asks zero effects) = λ d. effects.no_make
session_makes k _ _ _ (login_waits a taken h slot m now fx comes cuts effects) = λ d. effects.no_make
session_makes k _ _ _ (login_answers a taken h p slot m now fx comes cuts effects) = λ d. effects.no_make
session_makes k _ _ _ (login_breaks a taken h slot m now fx comes cuts effects) = λ d. effects.no_make
session_makes k _ _ _ (login_lacks a taken h slot m now fx comes took effects) = λ d. effects.no_make
session_makes k _ _ _ (session_waits a taken h slot m now fx comes cuts effects) = λ d. effects.no_make
session_makes k _ _ _ (session_gives a taken h p slot m now fx comes cuts effects) = λ d. effects.no_make
session_makes k _ _ _ (session_breaks a taken h slot m now fx comes cuts effects) = λ d. effects.no_make
session_makes k _ _ _ (session_lacks a taken h slot m now fx comes took effects) = λ d. effects.no_make
session_makes k _ _ _ (session_sends a taken h m now fx tag effects) = λ d. effects.no_make
session_makes k _ _ _ (session_ends v (up slot m now done fx) cut passes) = λ d. absurd (false_not done cut d)
session_makes k _ _ _ (session_ends v (down m now done fx) cut passes) = λ d. absurd (false_not done cut d)
session_makes k _ _ _ (session_ends v (closed slot c now fx) cut passes) = passes.0.no_make
session_makes k _ _ _ (session_ends v (time now done fx) cut passes) = absurd (let z = cut in cc)
session_makes k _ _ _ (session_ends v (regain l) cut passes) = tt
session_makes k _ _ _ (session_rests v e quiet asks) = idly_makes e asks

pub session_last : {N L : Type 0} (k : TextCarrier L) (t : List (NodeEntry N L)) (e : NodeEntry N L) (v w : SessionTalk) → SessionTalksTo k v (t ++ e ∷ []) w → AsksNoMake e
session_last k [] e v w (u, goes, run) = session_makes k v u e goes
session_last k (d ∷ t) e v w (u, goes, run) = session_last k t e u w run

unit_makes : {N L : Type 0} (k : TextCarrier L) (v w : UnitTalk) (e : NodeEntry N L) → UnitTalks k v e w → AsksNoMake e
unit_makes k _ _ _ (unit_begins m now fx tag effects) = λ d. effects.no_make
unit_makes k _ _ _ (unit_starts n slot m now fx tagged notes took effects) = λ d. effects.no_make
unit_makes k _ _ _ (unit_takes o chap calls p slot m now fx tagged reads took effects) = λ d. effects.no_make
unit_makes k _ _ _ (unit_lacks o chap calls slot m now fx tagged took effects) = λ d. effects.no_make
unit_makes k _ _ _ (unit_reads o chap calls m now fx tag takes effects) = λ d. effects.no_make
unit_makes k _ _ _ (unit_ends v (up slot m now done fx) cut passes) = λ d. absurd (false_not done cut d)
unit_makes k _ _ _ (unit_ends v (down m now done fx) cut passes) = λ d. absurd (false_not done cut d)
unit_makes k _ _ _ (unit_ends v (closed slot c now fx) cut passes) = passes.0.no_make
unit_makes k _ _ _ (unit_ends v (time now done fx) cut passes) = absurd (let z = cut in cc)
unit_makes k _ _ _ (unit_ends v (regain l) cut passes) = tt
unit_makes k _ _ _ (unit_rests v e quiet asks) = idly_makes e asks

pub unit_last : {N L : Type 0} (k : TextCarrier L) (t : List (NodeEntry N L)) (e : NodeEntry N L) (v w : UnitTalk) → UnitTalksTo k v (t ++ e ∷ []) w → AsksNoMake e
unit_last k [] e v w (u, goes, run) = unit_makes k v u e goes
unit_last k (d ∷ t) e v w (u, goes, run) = unit_last k t e u w run
