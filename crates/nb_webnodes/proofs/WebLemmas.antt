-- Where the entries of a fetch lead.
use Rattle.std.proofs.Common.{◌≡◌, ℕ, ◌==◌, ◌&&◌, ◌||◌, ◌<◌, ◌≤◌, Bool, true, false, not, List, [], ◌∷◌, ◌++◌, nat_lt, Option, Some, None, refl, ap, sym, ◌∙◌, subst, arith}
use Rattle.std.proofs.lemmas.Bool.{lt-ltb, le-ltb, false≢true}
use Rattle.std.specs.Option.{is_some}
use Rattle.nb_terms.specs.declared.cause.Cause.{Cause}
use Rattle.nb_effects.specs.declared.effects.Fx.{Fx}
use Rattle.nb_graph.specs.Trace.{Said, NodeEntry, up, down, closed, regain}
use Rattle.nb_conns.specs.declared.stream_tag.StreamTag.TheVariants.{Begin}
use Rattle.nb_conns.specs.StreamTags.{stream_tag_number}
use Rattle.nb_conns.specs.Dialogues.{AsksIdly, HandsOnClose}
use Rattle.nb_webnodes.specs.declared.stage.WebStage.{WebStage}
use Rattle.nb_webnodes.specs.declared.stage.WebStage.TheVariants.{Ended}
use Rattle.nb_webnodes.specs.declared.web.Web.{Web}
use Rattle.nb_webnodes.specs.WebAsks.{web_ask_in}
use Rattle.nb_webnodes.specs.WebEffects.{WebCarrier, begin_emit, send_emit, AsksBelow}
use Rattle.nb_conns.specs.ConnEffects.{ConnWithin}
use Rattle.nb_effects.specs.declared.effects.Emit.{Emit}
use Rattle.nb_graph.specs.Effects.{IsDown, IsUp, AreCloseSlots}
use Rattle.std.proofs.lemmas.Option.{none-some}
use Rattle.std.specs.Prelude.{IfSome}
use Rattle.nb_webnodes.specs.WebTalks.{WebTalk, web_unasked, cut_short, is_open_web, is_from_below, is_quiet_web, is_cut_web, Fetched, ends_early, stays_idle, FetchedTo, IsWebAt, before_begin, while_fetching, once_answered, once_cut, WebStands, FetchesOn, IsUnaskedWeb, stage_takes_web, stage_asks_web, stage_is_ended}

-- an entry that calls nothing
pub rests_on : {N L : Type 0} (k : WebCarrier L) (w : WebStage) (e : NodeEntry N L) → ((d : WebTalk) → IsWebAt w d → is_quiet_web d e ≡ true) → AsksIdly e → FetchesOn k w w e
rests_on k w e quiet asks = λ d at. (d, stays_idle d e (quiet d at) asks, at)

-- one that ends it
pub cuts_on : {N L : Type 0} (k : WebCarrier L) (w new : WebStage) (e : NodeEntry N L) → new ≡ Ended → ((d : WebTalk) → IsWebAt w d → is_cut_web d e ≡ true) → HandsOnClose e → FetchesOn k w new e
cuts_on k w new e o cut hands = subst (λ (z : WebStage). FetchesOn k w z e) (sym o) (λ d at. (cut_short, ends_early d e (cut d at) hands, once_cut))

-- a message that isn't the connection's
pub quiet_up : {N L : Type 0} (w : WebStage) (slot : ℕ) (m : Said) (now : ℕ) (fx : Fx N L) (d : WebTalk) → stage_takes_web w 5 slot m ≡ false → stage_takes_web w 8 slot m ≡ false → IsWebAt w d → is_quiet_web d (up slot m now true fx) ≡ true
quiet_up _ slot m now fx _ h i before_begin = refl
quiet_up _ slot m now fx _ h i (while_fetching c a core stream given e r) = ap (λ z. not (z || is_from_below 8 slot m)) h ∙ ap not i
quiet_up _ slot m now fx _ h i (once_answered a c stream given over r) = refl
quiet_up _ slot m now fx _ h i once_cut = refl

pub quiet_down : {N L : Type 0} (w : WebStage) (m : Said) (now : ℕ) (fx : Fx N L) (d : WebTalk) → stage_asks_web w m ≡ false → IsWebAt w d → is_quiet_web d (down m now true fx) ≡ true
quiet_down _ m now fx _ h before_begin = ap (λ z. not (z && is_some (web_ask_in m.a m.bytes))) h
quiet_down _ m now fx _ h (while_fetching c a core stream given e r) = refl
quiet_down _ m now fx _ h (once_answered a c stream given over r) = refl
quiet_down _ m now fx _ h once_cut = refl

and_off : (a : Bool) → (a && false) ≡ false
and_off true = refl
and_off false = refl

-- bytes that ask for nothing
pub quiet_ask : {N L : Type 0} (w : WebStage) (m : Said) (now : ℕ) (fx : Fx N L) (d : WebTalk) → web_ask_in m.a m.bytes ≡ None → IsWebAt w d → is_quiet_web d (down m now true fx) ≡ true
quiet_ask _ m now fx _ h before_begin = ap (λ z. not ((m.tag == stream_tag_number Begin) && is_some z)) h ∙ ap not (and_off (m.tag == stream_tag_number Begin))
quiet_ask _ m now fx _ h (while_fetching c a core stream given e r) = refl
quiet_ask _ m now fx _ h (once_answered a c stream given over r) = refl
quiet_ask _ m now fx _ h once_cut = refl

not_and : (a b : Bool) → b ≡ false → not (a && b) ≡ true
not_and true b h = ap not h
not_and false b h = refl

pub quiet_slot : {N L : Type 0} (slot : ℕ) (cause : Cause) (now : ℕ) (fx : Fx N L) (d : WebTalk) → 1 < slot → is_quiet_web d (closed slot cause now fx) ≡ true
quiet_slot slot cause now fx d h = not_and (is_open_web d) (nat_lt slot 2) (le-ltb slot 2 (omega (arith, h)))

pub quiet_ended : {N L : Type 0} (w : WebStage) (slot : ℕ) (cause : Cause) (now : ℕ) (fx : Fx N L) (d : WebTalk) → stage_is_ended w ≡ true → IsWebAt w d → is_quiet_web d (closed slot cause now fx) ≡ true
quiet_ended _ slot cause now fx _ h before_begin = absurd (false≢true h)
quiet_ended _ slot cause now fx _ h (while_fetching c a core stream given e r) = absurd (false≢true h)
quiet_ended _ slot cause now fx _ h (once_answered a c stream given over r) = refl
quiet_ended _ slot cause now fx _ h once_cut = refl

-- a close that ends it
pub cut_close : {N L : Type 0} (w : WebStage) (slot : ℕ) (cause : Cause) (now : ℕ) (fx : Fx N L) (d : WebTalk) → slot ≤ 1 → stage_is_ended w ≡ false → IsWebAt w d → is_cut_web d (closed slot cause now fx) ≡ true
cut_close _ slot cause now fx _ l h before_begin = lt-ltb slot 2 (omega (arith, l))
cut_close _ slot cause now fx _ l h (while_fetching c a core stream given e r) = lt-ltb slot 2 (omega (arith, l))
cut_close _ slot cause now fx _ l h (once_answered a c stream given over r) = absurd (false≢true (sym h))
cut_close _ slot cause now fx _ l h once_cut = absurd (false≢true (sym h))

-- the entries of a longer trace
runs_more : {N L : Type 0} (k : WebCarrier L) (d f g : WebTalk) (t : List (NodeEntry N L)) (e : NodeEntry N L) → FetchedTo k d t f → Fetched k f e g → FetchedTo k d (t ++ e ∷ []) g
runs_more k d f g [] e run goes = (g, subst (λ (z : WebTalk). Fetched k z e g) (sym run) goes, refl)
runs_more k d f g (x ∷ t) e run goes = (run.0, run.1, runs_more k run.0 f g t e run.2 goes)

pub web_stands_on : {N L : Type 0} (k : WebCarrier L) (p q : Web) (t : List (NodeEntry N L)) (e : NodeEntry N L) → FetchesOn k p.stage q.stage e → WebStands k p t → WebStands k q (t ++ e ∷ [])
web_stands_on k p q t e goes s =
    let g = goes s.talk s.at in
    record { talk = g.0; run = runs_more k web_unasked s.talk g.0 t e s.run g.1; at = g.2 }

-- one that wasn't asked for stands for the empty trace
pub web_stands_anew : {N L : Type 0} (k : WebCarrier L) (p : Web) → IsUnaskedWeb p → WebStands {N = N} k p []
web_stands_anew k p e = record { talk = web_unasked; run = refl; at = subst (λ (z : WebStage). IsWebAt z web_unasked) (sym e) before_begin }

-- a load that comes back
pub back_on : {N L : Type 0} (k : WebCarrier L) (p q : Web) (t : List (NodeEntry N L)) (load : L) → q.stage ≡ p.stage → WebStands k p t → WebStands k q (t ++ regain load ∷ [])
back_on {N} {L} k p q t load e s =
    let entry : NodeEntry N L = regain load in
    web_stands_on k p q t entry (subst (λ (z : WebStage). FetchesOn k p.stage z entry) (sym e) (rests_on k p.stage entry (λ d at. refl) tt)) s

-- what a message asks for, by its parts
pub ask_same : (m : Said) (host : ℕ) (bytes : List ℕ) → m.a ≡ host → m.bytes ≡ bytes → web_ask_in m.a m.bytes ≡ web_ask_in host bytes
ask_same m host bytes a b = ap (λ z. web_ask_in z m.bytes) a ∙ ap (web_ask_in host) b

-- what a beginning asks for lies within its message
pub ask_within : {N L : Type 0} (k : WebCarrier L) (len : ℕ) (text : List ℕ) (fx : Fx N L) → AsksBelow k text fx.downs → 16 ≤ len → fx.makes ≡ None → fx.ups.first ≡ None → fx.ups.second ≡ None → fx.closes.items ≡ [] → ConnWithin len fx
ask_within {N} {L} k len text fx below enough mk u1 u2 cl =
    record { no_make = mk; downs = downs fx.downs.first fx.downs.second below.0 below.1; ups = ((λ _. u2), none fx.ups.first u1, none fx.ups.second u2); closes = no_close fx.closes.items cl }
  where
    none : (o : Option (Emit L)) → o ≡ None → IfSome o (IsUp len)
    none None e = tt
    none (Some x) e = absurd (none-some x (sym e))

    no_close : (xs : List (ℕ × Cause)) → xs ≡ [] → AreCloseSlots xs
    no_close [] h i d below = absurd (omega arith)
    no_close (x ∷ xs) h i d below = absurd (let z = h in cc)

    downs : (o p : Option (Emit L)) → o ≡ Some (begin_emit {L = L}) → p ≡ Some (send_emit k text)
        → (o ≡ None → p ≡ None) × IfSome o (IsDown len) × IfSome p (IsDown len) × IfSome o (λ e. IfSome p (λ d. d.slot ≡ e.slot))
    downs o p a b =
        subst (λ (z : Option (Emit L)). (z ≡ None → p ≡ None) × IfSome z (IsDown len) × IfSome p (IsDown len) × IfSome z (λ e. IfSome p (λ d. d.slot ≡ e.slot))) (sym a)
        (subst (λ (z : Option (Emit L)). (Some (begin_emit {L = L}) ≡ None → z ≡ None) × IfSome (Some (begin_emit {L = L})) (IsDown len) × IfSome z (IsDown len) × IfSome (Some (begin_emit {L = L})) (λ e. IfSome z (λ d. d.slot ≡ e.slot))) (sym b)
        ((λ e. absurd (none-some (begin_emit {L = L}) (sym e))), (omega arith, omega arith, (λ _. (omega arith, enough))), (omega arith, omega arith, (λ e. absurd (none-some (k.as_load text) (sym e)))), refl))
