-- What entries that call nothing, or end a connection, make of its dialogue.
use Rattle.std.proofs.Common.{◌≡◌, ℕ, ◌<◌, ◌≤◌, ◌++◌, ◌&&◌, ◌==◌, Bool, true, false, not, List, [], ◌∷◌, length, min, ◌+◌, length-append, Option, Some, None, refl, ap, sym, ◌∙◌, subst, nat_lt, arith}
use Rattle.std.proofs.lemmas.Bool.{lt-ltb, le-ltb, false≢true}
use Rattle.std.proofs.lemmas.Option.{none-some}
use Rattle.std.specs.Option.{is_some}
use Rattle.std.specs.Prelude.{IfSome}
use Rattle.nb_terms.specs.declared.cause.Cause.{Cause}
use Rattle.nb_effects.specs.declared.effects.Emit.{Emit}
use Rattle.nb_effects.specs.declared.effects.Fx.{Fx}
use Rattle.nb_graph.specs.Effects.{IsNothing, IsDown, IsUp, AreCloseSlots}
use Rattle.nb_ledger.specs.declared.message.Msg.{Msg}
use Rattle.nb_graph.specs.Trace.{Said, said, NodeEntry, up, down, closed, time, regain, IsSettled}
use Rattle.nb_conns.specs.declared.conn_load.Lent.{Lent}
use Rattle.nb_conns.specs.declared.stage.ConnStage.{ConnStage}
use Rattle.nb_conns.specs.declared.stage.ConnStage.TheVariants.{Waiting, Running, Over}
use Rattle.nb_conns.specs.declared.stage.Running.{Running as Connected}
use Rattle.nb_conns.specs.declared.stream_tag.StreamTag.TheVariants.{Begin}
use Rattle.nb_conns.specs.declared.tcp.Tcp.{Tcp}
use Rattle.nb_conns.specs.StreamTags.{stream_tag_number}
use Rattle.nb_conns.specs.ConnAsks.{conn_ask_in}
use Rattle.nb_conns.specs.ConnLoads.{Carrier, window_of_conn}
use Rattle.nb_conns.specs.ConnEffects.{SaysNothing, ConnWithin, TookAll}
use Rattle.nb_conns.specs.Dialogues.{Dialogue, unopened, is_talking, is_live, at_close, comes_from_peer, is_window, is_quiet, is_cut, AsksIdly, HandsOnClose, Converses, ends_short, rests_still, ConversesTo, IsConnAt, before_asked, while_talking, once_closed, never_asked, TcpStands, CarriesOn, CarriesOnHome, IsUnopened, stage_takes, stage_asks, conn_stage_is_over}
use Rattle.nb_conns.proofs.WindowLemmas.{home_settled}

-- an entry that calls nothing
pub rests_on : {N L : Type 0} (k : Carrier L) (w : ConnStage) (e : NodeEntry N L) → ((d : Dialogue) → IsConnAt w d → is_quiet k d e ≡ true) → AsksIdly e → CarriesOn k w w e
rests_on k w e quiet asks = λ d at. (d, rests_still d e (quiet d at) asks, at)

-- one that ends it
over_at : (w : ConnStage) (d : Dialogue) → IsConnAt w d → IsConnAt Over (at_close d)
over_at _ _ before_asked = never_asked
over_at _ _ (while_talking r a start calls out t) = once_closed a start calls t.stands.keeps
over_at _ _ (once_closed a start calls keeps) = once_closed a start calls keeps
over_at _ _ never_asked = never_asked

pub cuts_on : {N L : Type 0} (k : Carrier L) (w new : ConnStage) (e : NodeEntry N L) → new ≡ Over → ((d : Dialogue) → IsConnAt w d → is_cut d e ≡ true) → HandsOnClose e → CarriesOn k w new e
cuts_on k w new e o cut hands = subst (λ (z : ConnStage). CarriesOn k w z e) (sym o) (λ d at. (at_close d, ends_short d e (cut d at) hands, over_at w d at))

pub at_home : {N L : Type 0} (k : Carrier L) (w new : ConnStage) (e : NodeEntry N L) → CarriesOn k w new e → CarriesOnHome k w new e
at_home k w new e goes = λ d home at. goes d at

-- a message that isn't the peer's
pub quiet_up : {N L : Type 0} (k : Carrier L) (w : ConnStage) (slot : ℕ) (m : Said) (now : ℕ) (fx : Fx N L) (d : Dialogue) → stage_takes w slot m ≡ false → IsConnAt w d → is_quiet k d (up slot m now true fx) ≡ true
quiet_up k _ slot m now fx _ h before_asked = refl
quiet_up k _ slot m now fx _ h (while_talking r a start calls out t) = ap (λ z. not (comes_from_peer z slot m)) (sym t.asked) ∙ ap not h
quiet_up k _ slot m now fx _ h (once_closed a start calls keeps) = refl
quiet_up k _ slot m now fx _ h never_asked = refl

pub quiet_down : {N L : Type 0} (k : Carrier L) (w : ConnStage) (m : Said) (now : ℕ) (fx : Fx N L) (d : Dialogue) → stage_asks w m ≡ false → IsConnAt w d → is_quiet k d (down m now true fx) ≡ true
quiet_down k _ m now fx _ h before_asked = ap (λ z. not (z && is_some (conn_ask_in m.bytes))) h
quiet_down k _ m now fx _ h (while_talking r a start calls out t) = ap not h
quiet_down k _ m now fx _ h (once_closed a start calls keeps) = refl
quiet_down k _ m now fx _ h never_asked = refl

and_off : (a : Bool) → (a && false) ≡ false
and_off true = refl
and_off false = refl

pub quiet_ask : {N L : Type 0} (k : Carrier L) (w : ConnStage) (m : Said) (now : ℕ) (fx : Fx N L) (d : Dialogue) → w ≡ Waiting → conn_ask_in m.bytes ≡ None → IsConnAt w d → is_quiet k d (down m now true fx) ≡ true
quiet_ask k _ m now fx _ w h before_asked = ap (λ z. not ((m.tag == stream_tag_number Begin) && is_some z)) h ∙ ap not (and_off (m.tag == stream_tag_number Begin))
quiet_ask k _ m now fx _ w h (while_talking r a start calls out t) = absurd (let z = w in cc)
quiet_ask k _ m now fx _ w h (once_closed a start calls keeps) = absurd (let z = w in cc)
quiet_ask k _ m now fx _ w h never_asked = absurd (let z = w in cc)

pub quiet_time : {N L : Type 0} (k : Carrier L) (w : ConnStage) (now : ℕ) (fx : Fx N L) (d : Dialogue) → ((r : Connected) → w ≡ Running r → ⊥) → IsConnAt w d → is_quiet k d (time now true fx) ≡ true
quiet_time k _ now fx _ other before_asked = refl
quiet_time k _ now fx _ other (while_talking r a start calls out t) = absurd (other r refl)
quiet_time k _ now fx _ other (once_closed a start calls keeps) = refl
quiet_time k _ now fx _ other never_asked = refl

not_and : (a b : Bool) → b ≡ false → not (a && b) ≡ true
not_and true b h = ap not h
not_and false b h = refl

pub quiet_other : {L : Type 0} (N : Type 0) (k : Carrier L) (load : L) (d : Dialogue) → window_of_conn (k.as_conn load) ≡ [] → is_quiet {N = N} k d (regain load) ≡ true
quiet_other N k load d h = not_and (is_talking d) (is_window k load) (ap (λ (z : List Lent). nat_lt 0 (length z)) h)

pub quiet_slot : {N L : Type 0} (k : Carrier L) (slot : ℕ) (cause : Cause) (now : ℕ) (fx : Fx N L) (d : Dialogue) → 1 < slot → is_quiet k d (closed slot cause now fx) ≡ true
quiet_slot k slot cause now fx d h = not_and (is_live d) (nat_lt slot 2) (le-ltb slot 2 (omega (arith, h)))

pub quiet_over : {N L : Type 0} (k : Carrier L) (w : ConnStage) (slot : ℕ) (cause : Cause) (now : ℕ) (fx : Fx N L) (d : Dialogue) → conn_stage_is_over w ≡ true → IsConnAt w d → is_quiet k d (closed slot cause now fx) ≡ true
quiet_over k _ slot cause now fx _ h before_asked = absurd (false≢true h)
quiet_over k _ slot cause now fx _ h (while_talking r a start calls out t) = absurd (false≢true h)
quiet_over k _ slot cause now fx _ h (once_closed a start calls keeps) = refl
quiet_over k _ slot cause now fx _ h never_asked = refl

-- a close that ends it at once
pub cut_close : {N L : Type 0} (w : ConnStage) (slot : ℕ) (cause : Cause) (now : ℕ) (fx : Fx N L) (d : Dialogue) → slot ≤ 1 → conn_stage_is_over w ≡ false → ((r : Connected) → w ≡ Running r → (slot == 0) ≡ false) → IsConnAt w d → is_cut d (closed slot cause now fx) ≡ true
cut_close _ slot cause now fx _ l h other before_asked = ap (λ z. z && true) (lt-ltb slot 2 (omega (arith, l)))
cut_close _ slot cause now fx _ l h other (while_talking r a start calls out t) = ap (λ z. z && not (slot == 0)) (lt-ltb slot 2 (omega (arith, l))) ∙ ap not (other r refl)
cut_close _ slot cause now fx _ l h other (once_closed a start calls keeps) = absurd (false≢true (sym h))
cut_close _ slot cause now fx _ l h other never_asked = absurd (false≢true (sym h))

-- the entries of a longer trace
pub runs_more : {N L : Type 0} (k : Carrier L) (d f g : Dialogue) (t : List (NodeEntry N L)) (e : NodeEntry N L) → ConversesTo k d t f → Converses k f e g → ConversesTo k d (t ++ e ∷ []) g
runs_more k d f g [] e run goes = (g, subst (λ (z : Dialogue). Converses k z e g) (sym run) goes, refl)
runs_more k d f g (x ∷ t) e run goes = (run.0, run.1, runs_more k run.0 f g t e run.2 goes)

pub stands_on : {N L : Type 0} (k : Carrier L) (p q : Tcp) (t : List (NodeEntry N L)) (e : NodeEntry N L) → CarriesOn k p.stage q.stage e → TcpStands k p t → TcpStands k q (t ++ e ∷ [])
stands_on k p q t e goes s =
    let g = goes s.dialogue s.at in
    record { dialogue = g.0; run = runs_more k unopened s.dialogue g.0 t e s.run g.1; at = g.2 }

pub stands_home : {N L : Type 0} (k : Carrier L) (p q : Tcp) (t : List (NodeEntry N L)) (e : NodeEntry N L) → CarriesOnHome k p.stage q.stage e → TcpStands k p t → IsSettled t → TcpStands k q (t ++ e ∷ [])
stands_home k p q t e goes s settled =
    let g = goes s.dialogue (home_settled k p t s settled) s.at in
    record { dialogue = g.0; run = runs_more k unopened s.dialogue g.0 t e s.run g.1; at = g.2 }

-- one that wasn't asked for stands for the empty trace
pub stands_anew : {N L : Type 0} (k : Carrier L) (p : Tcp) → IsUnopened p → TcpStands {N = N} k p []
stands_anew k p e = record { dialogue = unopened; run = refl; at = subst (λ (z : ConnStage). IsConnAt z unopened) (sym e) before_asked }

-- an entry that asks for nothing
pub nothing_said : {N L : Type 0} (fx : Fx N L) → IsNothing fx → SaysNothing fx × (fx.closes.items ≡ [])
nothing_said fx h = (record { no_make = h.0; no_down = h.1; no_downs = h.2; no_up = h.3; no_ups = h.4 }, h.5)

none_within : {L : Type 0} (len : ℕ) (o : Option (Emit L)) → o ≡ None → IfSome o (IsDown len) × IfSome o (IsUp len)
none_within len None h = (tt, tt)
none_within len (Some e) h = absurd (none-some e (sym h))

none_alike : {L : Type 0} (o p : Option (Emit L)) → o ≡ None → IfSome o (λ e. IfSome p (λ d. d.slot ≡ e.slot))
none_alike None p h = tt
none_alike (Some e) p h = absurd (none-some e (sym h))

no_close : (xs : List (ℕ × Cause)) → xs ≡ [] → AreCloseSlots xs
no_close [] h i d below = absurd (omega arith)
no_close (x ∷ xs) h i d below = absurd (let z = h in cc)

pub idle_within : {N L : Type 0} (len : ℕ) (fx : Fx N L) → SaysNothing fx → fx.closes.items ≡ [] → ConnWithin len fx
idle_within len fx s c =
    record {
      no_make = s.no_make;
      downs = ((λ _. s.no_downs), (none_within len fx.downs.first s.no_down).0, (none_within len fx.downs.second s.no_downs).0, none_alike fx.downs.first fx.downs.second s.no_down);
      ups = ((λ _. s.no_ups), (none_within len fx.ups.first s.no_up).1, (none_within len fx.ups.second s.no_ups).1);
      closes = no_close fx.closes.items c;
    }

-- how many bytes are taken
pub took_all : {N L : Type 0} (m : Msg) (fx : Fx N L) → fx.took ≡ min (length m.first.now + length m.second.now) 4294967295 → TookAll (said m) fx
took_all m fx e = e ∙ ap (λ z. min z 4294967295) (sym (length-append m.first.now m.second.now))
