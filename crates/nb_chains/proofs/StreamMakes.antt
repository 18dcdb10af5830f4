-- Neither a connection nor a fetch by HTTP asks for a make.
use Rattle.std.proofs.Common.{◌≡◌, ℕ, Bool, true, false, not, List, [], ◌∷◌, ◌++◌}
use Rattle.nb_conns.specs.ConnLoads.{Carrier}
use Rattle.nb_conns.specs.Dialogues.{AsksIdly, Converses, ConversesTo, Dialogue, is_asked, takes_segment, hands_on, takes_none, takes_text, takes_tick, has_back, is_closed, ends_short, rests_still}
use Rattle.nb_frames.specs.Within.{AsksNoMake}
use Rattle.nb_graph.specs.Trace.{NodeEntry, up, down, closed, time, regain}
use Rattle.nb_webnodes.specs.WebEffects.{WebCarrier}
use Rattle.nb_webnodes.specs.WebTalks.{Fetched, FetchedTo, WebTalk, is_begun, takes_part, takes_end, ends_early, stays_idle}

false_not : (b : Bool) → not b ≡ true → b ≡ true → ⊥
false_not true h e = let z = h in cc
false_not false h e = let z = e in cc

idly_makes : {N L : Type 0} (e : NodeEntry N L) → AsksIdly e → AsksNoMake e
idly_makes (up slot m now done fx) h = λ d. h.0.no_make
idly_makes (down m now done fx) h = λ d. h.0.no_make
idly_makes (closed slot c now fx) h = h.0.no_make
idly_makes (time now done fx) h = λ d. h.0.no_make
idly_makes (regain l) h = tt

web_makes : {N L : Type 0} (k : WebCarrier L) (v w : WebTalk) (e : NodeEntry N L) → Fetched k v e w → AsksNoMake e
web_makes k _ _ _ (is_begun a c m now fx tag asks reads goes effects) = λ d. effects.no_make
web_makes k _ _ _ (takes_part a c new stream given gave slot m now fx over from took takes decides effects) = λ d. effects.no_make
web_makes k _ _ _ (takes_end a c new stream given slot m now fx over from ends took effects) = λ d. effects.no_make
web_makes k _ _ _ (ends_early v (up slot m now done fx) cut passes) = λ d. absurd (false_not done cut d)
web_makes k _ _ _ (ends_early v (down m now done fx) cut passes) = λ d. absurd (false_not done cut d)
web_makes k _ _ _ (ends_early v (closed slot c now fx) cut passes) = passes.0.no_make
web_makes k _ _ _ (ends_early v (time now done fx) cut passes) = absurd (let z = cut in cc)
web_makes k _ _ _ (ends_early v (regain l) cut passes) = tt
web_makes k _ _ _ (stays_idle v e quiet asks) = idly_makes e asks

pub web_last : {N L : Type 0} (k : WebCarrier L) (t : List (NodeEntry N L)) (e : NodeEntry N L) (v w : WebTalk) → FetchedTo k v (t ++ e ∷ []) w → AsksNoMake e
web_last k [] e v w (u, goes, run) = web_makes k v u e goes
web_last k (d ∷ t) e v w (u, goes, run) = web_last k t e u w run

conn_makes : {N L : Type 0} (k : Carrier L) (v w : Dialogue) (e : NodeEntry N L) → Converses k v e w → AsksNoMake e
conn_makes k _ _ _ (is_asked a m now fx tag asks effects) = λ d. effects.no_make
conn_makes k _ _ _ (takes_segment a start past slot m now fx s acts out from is lends effects took) = λ d. effects.no_make
conn_makes k _ _ _ (hands_on a start past slot m now fx s acts from is goes waits unended effects took) = λ d. effects.no_make
conn_makes k _ _ _ (takes_none a start past out slot m now fx isnt says closes took) = λ d. says.no_make
conn_makes k _ _ _ (takes_text a start past out m now fx acts tag effects) = λ d. effects.no_make
conn_makes k _ _ _ (takes_tick a start past out now fx acts effects) = λ d. effects.no_make
conn_makes k _ _ _ (has_back a start past l load is) = tt
conn_makes k _ _ _ (is_closed a start past out cause now fx acts effects) = effects.no_make
conn_makes k _ _ _ (ends_short v (up slot m now done fx) cut passes) = λ d. absurd (false_not done cut d)
conn_makes k _ _ _ (ends_short v (down m now done fx) cut passes) = λ d. absurd (false_not done cut d)
conn_makes k _ _ _ (ends_short v (closed slot c now fx) cut passes) = passes.0.no_make
conn_makes k _ _ _ (ends_short v (time now done fx) cut passes) = λ d. absurd (false_not done cut d)
conn_makes k _ _ _ (ends_short v (regain l) cut passes) = tt
conn_makes k _ _ _ (rests_still v e quiet asks) = idly_makes e asks

pub conn_last : {N L : Type 0} (k : Carrier L) (t : List (NodeEntry N L)) (e : NodeEntry N L) (v w : Dialogue) → ConversesTo k v (t ++ e ∷ []) w → AsksNoMake e
conn_last k [] e v w (u, goes, run) = conn_makes k v u e goes
conn_last k (d ∷ t) e v w (u, goes, run) = conn_last k t e u w run
