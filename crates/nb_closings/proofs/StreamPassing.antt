-- A fetch by HTTP and a connection close both their ports or none.
use Rattle.std.proofs.Common.{inl, inr, ◌≡◌, ℕ, ◌<◌, ◌≤◌, ◌-◌, ◌&&◌, ◌||◌, Bool, true, false, not, List, [], ◌∷◌, ◌++◌, length, nat_lt, Option, Some, None, refl, sym, ap, ◌∙◌, subst, if◌then◌else◌, arith}
use Rattle.std.specs.Option.{is_some}
use Rattle.nb_terms.specs.declared.cause.Cause.{Cause}
use Rattle.nb_graph.specs.Trace.{NodeEntry, up, down, closed, time, regain}
use Rattle.nb_conns.specs.ConnEffects.{closes_for}
use Rattle.nb_conns.specs.ConnLoads.{Carrier}
use Rattle.nb_conns.specs.declared.tcp.Tcp.{Tcp}
use Rattle.nb_conns.specs.Dialogues.{AsksIdly, Converses, ConversesTo, Dialogue, unopened, talking, closed_off, given_up, is_live, is_talking, talked_on, is_asked, takes_segment, hands_on, takes_none, takes_text, takes_tick, has_back, is_closed, ends_short, rests_still, TcpStands}
use Rattle.nb_responses.specs.Chunks.{Verdict, more, open_body, body, moved, status, broken, large, long, many}
use Rattle.nb_readings.specs.Ends.{verdict_end, is_decided}
use Rattle.nb_http.specs.Standing.{Core, HasReadStream, is_over}
use Rattle.nb_webnodes.specs.declared.web.Web.{Web}
use Rattle.nb_webnodes.specs.WebEffects.{WebCarrier}
use Rattle.nb_webnodes.specs.WebTalks.{Fetched, FetchedTo, WebTalk, web_unasked, fetching, web_decided, cut_short, is_open_web, fetched_on, is_begun, takes_part, takes_end, ends_early, stays_idle, WebStands}
use Rattle.nb_closings.specs.Passing.{ends_object, object_has_ended, ClosesBothOrNone, PassesEndOn}
use Rattle.nb_closings.proofs.TraceLemmas.{none_ended}
use Rattle.nb_closings.proofs.CorePassing.{and_right, false_not, is_not, not_and, not_both, not_done, passes_close, rests_closed}

-- the closes at an end, or none
pub at_end : (over : Option Cause) (xs : List (ℕ × Cause)) → xs ≡ closes_for over → ClosesBothOrNone xs
at_end None xs e = inl e
at_end (Some c) xs e = subst ClosesBothOrNone (sym e) (inr (inl refl, inr (inl refl)))

pub not_over : (over : Option Cause) (xs : List (ℕ × Cause)) → xs ≡ closes_for over → nat_lt 0 (length xs) ≡ false → is_some over ≡ false
not_over None xs e h = refl
not_over (Some c) xs e h = absurd (let z = sym (ap (λ (w : List (ℕ × Cause)). nat_lt 0 (length w)) e) ∙ h in cc)

-- OF A FETCH

undecided : (rec : ℕ) (v : Verdict) → is_some (verdict_end rec v) ≡ false → is_decided v ≡ false
undecided rec more h = refl
undecided rec open_body h = refl
undecided rec body h = absurd (let z = h in cc)
undecided rec (moved text) h = absurd (let z = h in cc)
undecided rec (status code) h = absurd (let z = h in cc)
undecided rec broken h = absurd (let z = h in cc)
undecided rec large h = absurd (let z = h in cc)
undecided rec long h = absurd (let z = h in cc)
undecided rec many h = absurd (let z = h in cc)

-- it goes on: what its core has read isn't decided
abbrev WebGoesOn : WebTalk → Type 0
WebGoesOn web_unasked = Unit {0}
WebGoesOn (fetching a c stream given) = HasReadStream c stream given × (is_over c.state ≡ false)
WebGoesOn (web_decided a c stream given over) = ⊥
WebGoesOn cut_short = ⊥

is_open : (d : WebTalk) → WebGoesOn d → is_open_web d ≡ true
is_open web_unasked h = refl
is_open (fetching a c stream given) h = refl
is_open (web_decided a c stream given over) h = absurd h
is_open cut_short h = absurd h

record WebStep {N L : Type 0} (e : NodeEntry N L) (w : WebTalk) : Type 0 where
  pub passes : PassesEndOn e
  pub goes_on : ends_object e ≡ false → WebGoesOn w

fetched_further : (a : _) (c : Core) (stream given : List ℕ) (over : Option Cause) → is_some over ≡ false → HasReadStream c stream given → is_over c.state ≡ false → WebGoesOn (fetched_on a c stream given over)
fetched_further a c stream given over h read goes = subst (λ (z : Bool). WebGoesOn (if z then web_decided a c stream given over else fetching a c stream given)) (sym h) (read, goes)

web_step : {N L : Type 0} (k : WebCarrier L) (v w : WebTalk) (e : NodeEntry N L) → Fetched k v e w → WebGoesOn v → WebStep e w
web_step k _ _ _ (is_begun a c m now fx tag asks reads goes effects) live = record { passes = λ d. inl effects.closes; goes_on = λ h. (reads, goes) }
web_step k _ _ _ (takes_part a c new stream given gave slot m now fx over from took takes decides effects) live = record {
  passes = λ d. at_end over fx.closes.items effects.closes;
  goes_on = λ h.
      let none = not_over over fx.closes.items effects.closes h in
      let read = takes stream given live.0 live.1 in
      fetched_further a new _ _ over none read.0 (read.0.decided ∙ undecided m.rec _ (ap is_some (sym read.1) ∙ none));
}
web_step k _ _ _ (takes_end a c new stream given slot m now fx over from ends took effects) live = record {
  passes = λ d. at_end over fx.closes.items effects.closes;
  goes_on = λ h.
      let none = not_over over fx.closes.items effects.closes h in
      let read = ends.live stream given live.0 live.1 in
      not_both _ read.2 (undecided m.rec _ (ap is_some (sym read.1) ∙ none));
}
web_step k _ _ _ (ends_early v (up slot m now done fx) cut passes) live = record { passes = λ d. false_not done cut d; goes_on = λ h. not_done done fx.closes.items cut h }
web_step k _ _ _ (ends_early v (down m now done fx) cut passes) live = record { passes = λ d. false_not done cut d; goes_on = λ h. not_done done fx.closes.items cut h }
web_step k _ _ _ (ends_early v (closed slot c now fx) cut passes) live =
    let low = and_right (is_open_web v) (nat_lt slot 2) cut in
    record { passes = passes_close slot c fx.closes.items low passes.1; goes_on = λ h. not_both (nat_lt slot 2) low h }
web_step k _ _ _ (ends_early v (time now done fx) cut passes) live = absurd (let z = cut in cc)
web_step k _ _ _ (ends_early v (regain l) cut passes) live = absurd (let z = cut in cc)
web_step k _ _ _ (stays_idle v (up slot m now done fx) quiet asks) live = record { passes = λ d. inl asks.1; goes_on = λ h. live }
web_step k _ _ _ (stays_idle v (down m now done fx) quiet asks) live = record { passes = λ d. inl asks.1; goes_on = λ h. live }
web_step k _ _ _ (stays_idle v (closed slot c now fx) quiet asks) live =
    record { passes = rests_closed slot fx.closes.items (not_and (is_open_web v) (nat_lt slot 2) (is_open v live) quiet) asks.1; goes_on = λ h. live }
web_step k _ _ _ (stays_idle v (time now done fx) quiet asks) live = record { passes = λ d. inl asks.1; goes_on = λ h. live }
web_step k _ _ _ (stays_idle v (regain l) quiet asks) live = record { passes = tt; goes_on = λ h. live }

web_last : {N L : Type 0} (k : WebCarrier L) (t : List (NodeEntry N L)) (e : NodeEntry N L) (v w : WebTalk) → FetchedTo k v (t ++ e ∷ []) w → WebGoesOn v → object_has_ended t ≡ false → PassesEndOn e
web_last k [] e v w (u, goes, run) live h = (web_step k v u e goes live).passes
web_last k (d ∷ t) e v w (u, goes, run) live h = let z = none_ended d t h in web_last k t e u w run ((web_step k v u d goes live).goes_on z.0) z.1

pub web_passes : {N L : Type 0} (k : WebCarrier L) (p : Web) (t : List (NodeEntry N L)) (e : NodeEntry N L) → WebStands k p (t ++ e ∷ []) → object_has_ended t ≡ false → PassesEndOn e
web_passes k p t e s h = web_last k t e web_unasked s.talk s.run tt h

-- OF A CONNECTION

and_left : (a b : Bool) → (a && b) ≡ true → a ≡ true
and_left true b h = refl
and_left false b h = absurd (let z = h in cc)

record ConnStep {N L : Type 0} (e : NodeEntry N L) (w : Dialogue) : Type 0 where
  pub passes : PassesEndOn e
  pub goes_on : ends_object e ≡ false → is_live w ≡ true

talked_further : (a : _) (start : ℕ) (calls : _) (out : _) (over : Option Cause) → is_some over ≡ false → is_live (talked_on a start calls out over) ≡ true
talked_further a start calls out over h = ap (λ (z : Bool). is_live (if z then closed_off a start calls else talking a start calls out)) h

conn_step : {N L : Type 0} (k : Carrier L) (v w : Dialogue) (e : NodeEntry N L) → Converses k v e w → is_live v ≡ true → ConnStep e w
conn_step k _ _ _ (is_asked a m now fx tag asks effects) live = record { passes = λ d. inl effects.closes; goes_on = λ h. refl }
conn_step k _ _ _ (takes_segment a start past slot m now fx s acts out from is lends effects took) live =
    record { passes = λ d. at_end acts.over fx.closes.items effects.closes; goes_on = λ h. talked_further a start _ out acts.over (not_over acts.over fx.closes.items effects.closes h) }
conn_step k _ _ _ (hands_on a start past slot m now fx s acts from is goes waits unended effects took) live = record { passes = λ d. inl effects.closes; goes_on = λ h. refl }
conn_step k _ _ _ (takes_none a start past out slot m now fx isnt says closes took) live = record { passes = λ d. inl closes; goes_on = λ h. refl }
conn_step k _ _ _ (takes_text a start past out m now fx acts tag effects) live =
    record { passes = λ d. at_end acts.over fx.closes.items effects.closes; goes_on = λ h. talked_further a start _ out acts.over (not_over acts.over fx.closes.items effects.closes h) }
conn_step k _ _ _ (takes_tick a start past out now fx acts effects) live =
    record { passes = λ d. at_end acts.over fx.closes.items effects.closes; goes_on = λ h. talked_further a start _ out acts.over (not_over acts.over fx.closes.items effects.closes h) }
conn_step k _ _ _ (has_back a start past l load is) live = record { passes = tt; goes_on = λ h. refl }
conn_step k _ _ _ (is_closed a start past out cause now fx acts effects) live = record { passes = passes_close 0 cause fx.closes.items refl effects.closes; goes_on = λ h. absurd (let z = h in cc) }
conn_step k _ _ _ (ends_short v (up slot m now done fx) cut passes) live = record { passes = λ d. false_not done cut d; goes_on = λ h. not_done done fx.closes.items cut h }
conn_step k _ _ _ (ends_short v (down m now done fx) cut passes) live = record { passes = λ d. false_not done cut d; goes_on = λ h. not_done done fx.closes.items cut h }
conn_step k _ _ _ (ends_short v (closed slot c now fx) cut passes) live =
    let low = and_left (nat_lt slot 2) _ (and_right (is_live v) _ cut) in
    record { passes = passes_close slot c fx.closes.items low passes.1; goes_on = λ h. not_both (nat_lt slot 2) low h }
conn_step k _ _ _ (ends_short v (time now done fx) cut passes) live = record { passes = λ d. false_not done cut d; goes_on = λ h. not_done done fx.closes.items cut h }
conn_step k _ _ _ (ends_short v (regain l) cut passes) live = absurd (let z = cut in cc)
conn_step k _ _ _ (rests_still v (up slot m now done fx) quiet asks) live = record { passes = λ d. inl asks.1; goes_on = λ h. live }
conn_step k _ _ _ (rests_still v (down m now done fx) quiet asks) live = record { passes = λ d. inl asks.1; goes_on = λ h. live }
conn_step k _ _ _ (rests_still v (closed slot c now fx) quiet asks) live =
    record { passes = rests_closed slot fx.closes.items (not_and (is_live v) (nat_lt slot 2) live quiet) asks.1; goes_on = λ h. live }
conn_step k _ _ _ (rests_still v (time now done fx) quiet asks) live = record { passes = λ d. inl asks.1; goes_on = λ h. live }
conn_step k _ _ _ (rests_still v (regain l) quiet asks) live = record { passes = tt; goes_on = λ h. live }

conn_last : {N L : Type 0} (k : Carrier L) (t : List (NodeEntry N L)) (e : NodeEntry N L) (v w : Dialogue) → ConversesTo k v (t ++ e ∷ []) w → is_live v ≡ true → object_has_ended t ≡ false → PassesEndOn e
conn_last k [] e v w (u, goes, run) live h = (conn_step k v u e goes live).passes
conn_last k (d ∷ t) e v w (u, goes, run) live h = let z = none_ended d t h in conn_last k t e u w run ((conn_step k v u d goes live).goes_on z.0) z.1

pub conn_passes : {N L : Type 0} (k : Carrier L) (p : Tcp) (t : List (NodeEntry N L)) (e : NodeEntry N L) → TcpStands k p (t ++ e ∷ []) → object_has_ended t ≡ false → PassesEndOn e
conn_passes k p t e s h = conn_last k t e unopened s.dialogue s.run refl h
