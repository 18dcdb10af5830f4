-- What one entry of a Tftp makes of its conversation.
use Rattle.std.proofs.Common.{◌≡◌, ℕ, ◌<◌, ◌≤◌, ◌++◌, ◌&&◌, ◌||◌, ◌==◌, Bool, true, false, not, List, [], ◌∷◌, length, min, ◌+◌, length-append, Option, Some, None, refl, ap, sym, ◌∙◌, subst, if◌then◌else◌, nat_lt, arith}
use Rattle.std.proofs.lemmas.Bool.{lt-ltb, le-ltb}
use Rattle.std.specs.Option.{is_some}
use Rattle.nb_terms.specs.declared.acts.Acts.{Acts}
use Rattle.nb_terms.specs.declared.cause.Cause.{Cause}
use Rattle.nb_effects.specs.declared.effects.Fx.{Fx}
use Rattle.nb_ledger.specs.declared.message.Msg.{Msg}
use Rattle.nb_graph.specs.Trace.{Said, said, NodeEntry, up, down, closed, time, regain, silence}
use Rattle.nb_tftp.specs.Asks.{Begun}
use Rattle.nb_tftp.specs.Received.{received}
use Rattle.nb_tftp.specs.History.{Call, Entry as Step, entry, came, ticked, is_ended}
use Rattle.nb_tftp.specs.Stands.{Stands}
use Rattle.nb_tftp.specs.declared.state.State.{State}
use Rattle.nb_tftp.proofs.HistoryLemmas.{is_ended-append}
use Rattle.nb_nodes.specs.declared.load.Load.{Load}
use Rattle.nb_nodes.specs.declared.obj.Obj.{Obj}
use Rattle.nb_nodes.specs.declared.tag.Tag.TheVariants.{Begin}
use Rattle.nb_nodes.specs.declared.tftp.Work.{Work}
use Rattle.nb_nodes.specs.declared.tftp.Work.TheVariants.{Waiting, Running, Over}
use Rattle.nb_nodes.specs.declared.tftp.Tftp.{Tftp}
use Rattle.nb_nodes.specs.Tags.{tag_number}
use Rattle.nb_nodes.specs.Asking.{AskValue, ask_in, begun_with}
use Rattle.std.specs.Prelude.{IfSome}
use Rattle.nb_effects.specs.declared.effects.Emit.{Emit}
use Rattle.nb_graph.specs.Effects.{IsDown, IsUp, AreCloseSlots}
use Rattle.nb_nodes.specs.Carried.{EffectsOf, AsksNone, AsksWithin}
use Rattle.nb_nodes.specs.Conversations.{Conversation, unbegun, under_way, over, cancelled, talk_has_ended, conversation_ended, talk_went_on, is_datagram, is_begin, first_acts, is_idle, is_fatal, TakesWhole, AsksOfIdle, PassesClose, Continues, begins, receives, ticks, ends, rests, RunsTo, WorksAt, waits, runs, stays, never, is_waiting, talk_is_done, TftpStands, ContinuesAs}

and_off : (a : Bool) → (a && false) ≡ false
and_off true = refl
and_off false = refl

-- an entry that calls nothing
pub rests_on : (w : Work) (e : NodeEntry Obj Load) → ((v : Conversation) → WorksAt w v → is_idle v e ≡ true) → AsksOfIdle e → ContinuesAs w w e
rests_on w e idle asks = λ v at. (v, rests v e (idle v at) asks, at)

-- one that ends it
over_at : (w : Work) (v : Conversation) → WorksAt w v → WorksAt Over (conversation_ended v)
over_at _ _ waits = never
over_at _ _ (runs b start calls state stands alive) = stays b start calls stands.meets
over_at _ _ (stays b start calls meets) = stays b start calls meets
over_at _ _ never = never

pub ends_on : (w : Work) (e : NodeEntry Obj Load) → ((v : Conversation) → WorksAt w v → is_fatal v e ≡ true) → PassesClose e → ContinuesAs w Over e
ends_on w e fatal passes = λ v at. (conversation_ended v, ends v e (fatal v at) passes, over_at w v at)

pub fails_on : (w new : Work) (e : NodeEntry Obj Load) → new ≡ Over → ((v : Conversation) → is_fatal v e ≡ true) → PassesClose e → ContinuesAs w new e
fails_on w new e o fatal passes = subst (λ (z : Work). ContinuesAs w z e) (sym o) (ends_on w e (λ v at. fatal v) passes)

-- how many bytes are taken
pub took_all : (m : Msg) (n : ℕ) → n ≡ min (length m.first.now + length m.second.now) 4294967295 → n ≡ min (length (said m).bytes) 4294967295
took_all m n e = e ∙ ap (λ z. min z 4294967295) (sym (length-append m.first.now m.second.now))

-- a message with another tag begins nothing
pub no_begin : (m : Said) → (m.tag == tag_number Begin) ≡ false → is_begin m ≡ false
no_begin m h = ap (λ z. z && is_some (ask_in m.bytes)) h

pub no_ask : (m : Said) → ask_in m.bytes ≡ None → is_begin m ≡ false
no_ask m h = ap (λ z. (m.tag == tag_number Begin) && is_some z) h ∙ and_off (m.tag == tag_number Begin)

-- when nothing is called
pub idle_up : (slot : ℕ) (m : Said) (now : ℕ) (fx : Fx Obj Load) (v : Conversation) → is_datagram slot m ≡ false → is_idle v (up slot m now true fx) ≡ true
idle_up slot m now fx unbegun h = refl
idle_up slot m now fx (under_way b start calls) h = ap not h
idle_up slot m now fx (over b start calls) h = refl
idle_up slot m now fx cancelled h = refl

pub idle_up_other : (w : Work) (slot : ℕ) (m : Said) (now : ℕ) (fx : Fx Obj Load) (v : Conversation) → ((s : State) → w ≡ Running s → ⊥) → WorksAt w v → is_idle v (up slot m now true fx) ≡ true
idle_up_other _ slot m now fx _ other waits = refl
idle_up_other _ slot m now fx _ other (runs b start calls state stands alive) = absurd (other state refl)
idle_up_other _ slot m now fx _ other (stays b start calls meets) = refl
idle_up_other _ slot m now fx _ other never = refl

pub idle_time_other : (w : Work) (now : ℕ) (fx : Fx Obj Load) (v : Conversation) → ((s : State) → w ≡ Running s → ⊥) → WorksAt w v → is_idle v (time now true fx) ≡ true
idle_time_other _ now fx _ other waits = refl
idle_time_other _ now fx _ other (runs b start calls state stands alive) = absurd (other state refl)
idle_time_other _ now fx _ other (stays b start calls meets) = refl
idle_time_other _ now fx _ other never = refl

pub idle_down : (m : Said) (now : ℕ) (fx : Fx Obj Load) (v : Conversation) → is_begin m ≡ false → is_idle v (down m now true fx) ≡ true
idle_down m now fx unbegun h = ap not h
idle_down m now fx (under_way b start calls) h = refl
idle_down m now fx (over b start calls) h = refl
idle_down m now fx cancelled h = refl

pub idle_down_begun : (w : Work) (m : Said) (now : ℕ) (fx : Fx Obj Load) (v : Conversation) → is_waiting w ≡ false → WorksAt w v → is_idle v (down m now true fx) ≡ true
idle_down_begun _ m now fx _ h waits = absurd (let z = h in cc)
idle_down_begun _ m now fx _ h (runs b start calls state stands alive) = refl
idle_down_begun _ m now fx _ h (stays b start calls meets) = refl
idle_down_begun _ m now fx _ h never = refl

pub idle_close_over : (w : Work) (slot : ℕ) (cause : Cause) (now : ℕ) (fx : Fx Obj Load) (v : Conversation) → talk_is_done w ≡ true → WorksAt w v → is_idle v (closed slot cause now fx) ≡ true
idle_close_over _ slot cause now fx _ h waits = absurd (let z = h in cc)
idle_close_over _ slot cause now fx _ h (runs b start calls state stands alive) = absurd (let z = h in cc)
idle_close_over _ slot cause now fx _ h (stays b start calls meets) = refl
idle_close_over _ slot cause now fx _ h never = refl

pub not_below_two : (n : ℕ) → 1 < n → nat_lt n 2 ≡ false
not_below_two n h = le-ltb n 2 (omega arith)

pub below_two : (n : ℕ) → n ≤ 1 → nat_lt n 2 ≡ true
below_two n h = lt-ltb n 2 (omega arith)

not_and : (a b : Bool) → b ≡ false → not (a && b) ≡ true
not_and true b h = ap not h
not_and false b h = refl

pub idle_close : (slot : ℕ) (cause : Cause) (now : ℕ) (fx : Fx Obj Load) (v : Conversation) → nat_lt slot 2 ≡ false → is_idle v (closed slot cause now fx) ≡ true
idle_close slot cause now fx v h = not_and (not (talk_has_ended v)) (nat_lt slot 2) h

pub fatal_close : (w : Work) (slot : ℕ) (cause : Cause) (now : ℕ) (fx : Fx Obj Load) (v : Conversation) → talk_is_done w ≡ false → nat_lt slot 2 ≡ true → WorksAt w v → is_fatal v (closed slot cause now fx) ≡ true
fatal_close _ slot cause now fx _ h l waits = l
fatal_close _ slot cause now fx _ h l (runs b start calls state stands alive) = l
fatal_close _ slot cause now fx _ h l (stays b start calls meets) = absurd (let z = h in cc)
fatal_close _ slot cause now fx _ h l never = absurd (let z = h in cc)

-- a call of the transfer
works_if : (o : Bool) (b : Begun) (start : ℕ) (calls : List Step) (state : State) → Stands b start state calls → is_ended calls ≡ o → WorksAt (if o then Over else Running state) (if o then over b start calls else under_way b start calls)
works_if true b start calls state stands e = stays b start calls stands.meets
works_if false b start calls state stands e = runs b start calls state stands e

ended_by_last : (calls : List Step) (call : Call) (acts : Acts) → is_ended calls ≡ false → is_ended (calls ++ entry call acts ∷ []) ≡ is_some acts.over
ended_by_last calls call acts alive = is_ended-append calls (entry call acts) ∙ ap (λ z. z || is_some acts.over) alive

-- the transfer stands for one call more
abbrev pub CallsOnce : State → State → Call → Acts → Type 0
CallsOnce old new call acts = (b : Begun) (start : ℕ) (h : List Step) → Stands b start old h → is_ended h ≡ false → Stands b start new (h ++ entry call acts ∷ [])

works_then : (b : Begun) (start : ℕ) (calls : List Step) (call : Call) (acts : Acts) (old state : State) (new : Work) → Stands b start old calls → is_ended calls ≡ false → CallsOnce old state call acts → new ≡ (if is_some acts.over then Over else Running state) → WorksAt new (talk_went_on b start (calls ++ entry call acts ∷ []) acts)
works_then b start calls call acts old state new stands alive once e =
    subst (λ (z : Work). WorksAt z (talk_went_on b start (calls ++ entry call acts ∷ []) acts)) (sym e)
    (works_if (is_some acts.over) b start (calls ++ entry call acts ∷ []) state (once b start calls stands alive) (ended_by_last calls call acts alive))

message_at : (slot : ℕ) (m : Said) (now : ℕ) (fx : Fx Obj Load) (acts : Acts) (old state : State) (new : Work) → is_datagram slot m ≡ true → EffectsOf m acts fx → TakesWhole m fx
    → CallsOnce old state (came (received m.rec m.a m.bytes) now) acts → new ≡ (if is_some acts.over then Over else Running state)
    → (v : Conversation) → WorksAt (Running old) v → (w : Conversation) × Continues v (up slot m now true fx) w × WorksAt new w
message_at slot m now fx acts old state new d effects takes once e _ (runs b start calls _ stands alive) = (
  talk_went_on b start (calls ++ entry (came (received m.rec m.a m.bytes) now) acts ∷ []) acts,
  receives b start calls slot m now fx acts d effects takes,
  works_then b start calls (came (received m.rec m.a m.bytes) now) acts old state new stands alive once e,
)

pub message_on : (slot : ℕ) (m : Said) (now : ℕ) (fx : Fx Obj Load) (acts : Acts) (old state : State) (new : Work) → is_datagram slot m ≡ true → EffectsOf m acts fx → TakesWhole m fx
    → CallsOnce old state (came (received m.rec m.a m.bytes) now) acts → new ≡ (if is_some acts.over then Over else Running state) → ContinuesAs (Running old) new (up slot m now true fx)
message_on slot m now fx acts old state new d effects takes once e = λ v at. message_at slot m now fx acts old state new d effects takes once e v at

tick_at : (now : ℕ) (fx : Fx Obj Load) (acts : Acts) (old state : State) (new : Work) → EffectsOf silence acts fx → CallsOnce old state (ticked now) acts → new ≡ (if is_some acts.over then Over else Running state)
    → (v : Conversation) → WorksAt (Running old) v → (w : Conversation) × Continues v (time now true fx) w × WorksAt new w
tick_at now fx acts old state new effects once e _ (runs b start calls _ stands alive) = (
  talk_went_on b start (calls ++ entry (ticked now) acts ∷ []) acts,
  ticks b start calls now fx acts effects,
  works_then b start calls (ticked now) acts old state new stands alive once e,
)

pub tick_on : (now : ℕ) (fx : Fx Obj Load) (acts : Acts) (old state : State) (new : Work) → EffectsOf silence acts fx → CallsOnce old state (ticked now) acts → new ≡ (if is_some acts.over then Over else Running state) → ContinuesAs (Running old) new (time now true fx)
tick_on now fx acts old state new effects once e = λ v at. tick_at now fx acts old state new effects once e v at

begin_at : (a : AskValue) (m : Said) (now : ℕ) (fx : Fx Obj Load) (acts : Acts) (state : State) → m.tag ≡ tag_number Begin → ask_in m.bytes ≡ Some a → acts ≡ first_acts (begun_with a) → EffectsOf m acts fx → Stands (begun_with a) now state []
    → (v : Conversation) → WorksAt Waiting v → (w : Conversation) × Continues v (down m now true fx) w × WorksAt (Running state) w
begin_at a m now fx acts state tag asks e effects stands _ waits =
    (under_way (begun_with a) now [], begins a m now fx tag asks (subst (λ (z : Acts). EffectsOf m z fx) e effects), runs (begun_with a) now [] state stands refl)

pub begin_on : (a : AskValue) (m : Said) (now : ℕ) (fx : Fx Obj Load) (acts : Acts) (state : State) → m.tag ≡ tag_number Begin → ask_in m.bytes ≡ Some a → acts ≡ first_acts (begun_with a) → EffectsOf m acts fx → Stands (begun_with a) now state [] → ContinuesAs Waiting (Running state) (down m now true fx)
begin_on a m now fx acts state tag asks e effects stands = λ v at. begin_at a m now fx acts state tag asks e effects stands v at

-- the entries of a longer trace
runs_more : (v w u : Conversation) (t : List (NodeEntry Obj Load)) (e : NodeEntry Obj Load) → RunsTo v t w → Continues w e u → RunsTo v (t ++ e ∷ []) u
runs_more v w u [] e run goes = (u, subst (λ (z : Conversation). Continues z e u) (sym run) goes, refl)
runs_more v w u (x ∷ t) e run goes = (run.0, run.1, runs_more run.0 w u t e run.2 goes)

pub stands_more : (p q : Tftp) (t : List (NodeEntry Obj Load)) (e : NodeEntry Obj Load) → ContinuesAs p.work q.work e → TftpStands p t → TftpStands q (t ++ e ∷ [])
stands_more p q t e goes s =
    let g = goes s.conversation s.works in
    record { conversation = g.0; run = runs_more unbegun s.conversation g.0 t e s.run g.1; works = g.2 }

pub stands_anew : (p : Tftp) → p.work ≡ Waiting → TftpStands p []
stands_anew p e = record { conversation = unbegun; run = refl; works = subst (λ (z : Work). WorksAt z unbegun) (sym e) waits }

-- nothing is asked for
none_within : (len : ℕ) (o : Option (Emit Load)) → o ≡ None → IfSome o (IsDown len) × IfSome o (IsUp len)
none_within len None h = (tt, tt)
none_within len (Some e) h = absurd (let z = h in cc)

none_alike : (o p : Option (Emit Load)) → o ≡ None → IfSome o (λ e. IfSome p (λ d. d.slot ≡ e.slot))
none_alike None p h = tt
none_alike (Some e) p h = absurd (let z = h in cc)

no_close : (xs : List (ℕ × Cause)) → xs ≡ [] → AreCloseSlots xs
no_close [] h k d below = absurd (omega arith)
no_close (x ∷ xs) h k d below = absurd (let z = h in cc)

pub asks_within : (len : ℕ) (fx : Fx Obj Load) → AsksNone fx → AsksWithin len fx
asks_within len fx asks =
    record {
      no_make = asks.0.no_make;
      downs = ((λ _. asks.0.no_downs), (none_within len fx.downs.first asks.0.no_down).0, (none_within len fx.downs.second asks.0.no_downs).0, none_alike fx.downs.first fx.downs.second asks.0.no_down);
      ups = ((λ _. asks.0.no_ups), (none_within len fx.ups.first asks.0.no_up).1, (none_within len fx.ups.second asks.0.no_ups).1);
      closes = no_close fx.closes.items asks.1;
    }

-- what was lent comes back
pub regain_on : (w new : Work) (l : Load) → new ≡ w → ContinuesAs w new (regain l)
regain_on w new l e = subst (λ (z : Work). ContinuesAs w z (regain l)) (sym e) (rests_on w (regain l) (λ v at. refl) tt)
