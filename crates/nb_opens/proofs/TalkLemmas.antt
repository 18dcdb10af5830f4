-- The trace of a Tftp has one conversation, if the calls in it are answered as promised.
use Rattle.std.proofs.Common.{◌≡◌, ℕ, ◌++◌, Bool, true, false, not, List, [], ◌∷◌, Option, Some, refl, ap, sym, ◌∙◌, subst, if◌then◌else◌, ◌&&◌}
use Rattle.std.proofs.lemmas.Bool.{eq-eqb}
use Rattle.std.specs.Option.{is_some}
use Rattle.nb_terms.specs.declared.acts.Acts.{Acts}
use Rattle.nb_retry.specs.declared.retry.Due.{Due}
use Rattle.nb_retry.specs.declared.retry.Due.TheVariants.{Not, Again, Over}
use Rattle.nb_effects.specs.declared.effects.Fx.{Fx}
use Rattle.nb_graph.specs.Trace.{Said, NodeEntry, up, down, closed, time, regain, silence}
use Rattle.nb_tftp.specs.Asks.{Begun, due_acts}
use Rattle.nb_tftp.specs.Received.{received, port_with}
use Rattle.nb_tftp.specs.History.{Call, Entry as Step, entry, came, ticked, got, due_of, EachEntry}
use Rattle.nb_tftp.specs.Blocks.{count_with}
use Rattle.nb_tftp.specs.Sentences.{AsksSoWith, Meets}
use Rattle.nb_tftp.proofs.PlainLaws.{EachEntry-last}
use Rattle.nb_nodes.specs.declared.load.Load.{Load}
use Rattle.nb_nodes.specs.declared.obj.Obj.{Obj}
use Rattle.nb_nodes.specs.declared.tag.Tag.TheVariants.{Begin}
use Rattle.nb_nodes.specs.Tags.{tag_number}
use Rattle.nb_nodes.specs.Asking.{AskValue, ask_in, begun_with}
use Rattle.nb_nodes.specs.Carried.{EffectsOf, downs_of, end_closes}
use Rattle.nb_nodes.specs.Conversations.{Conversation, unbegun, under_way, over, cancelled, conversation_ended, talk_went_on, is_begin, is_idle, is_fatal, Continues, begins, receives, ticks, ends, rests, RunsTo}

-- the calls of a conversation meet the promises
abbrev pub TalkMeets : Conversation → Type 0
TalkMeets unbegun = Unit {0}
TalkMeets (under_way b start calls) = Meets b start calls
TalkMeets (over b start calls) = Meets b start calls
TalkMeets cancelled = Unit {0}

-- of which this is enough here: each asks what it has to
abbrev TalkAsks : Conversation → Type 0
TalkAsks unbegun = Unit {0}
TalkAsks (under_way b start calls) = EachEntry (AsksSoWith true b) [] calls
TalkAsks (over b start calls) = EachEntry (AsksSoWith true b) [] calls
TalkAsks cancelled = Unit {0}

asks_of : (v : Conversation) → TalkMeets v → TalkAsks v
asks_of unbegun h = tt
asks_of (under_way b start calls) h = h.sending
asks_of (over b start calls) h = h.sending
asks_of cancelled h = tt

-- what each call before the last asks
front_asks : (P : List Step → Step → Type 0) (before calls : List Step) (e : Step) → EachEntry P before (calls ++ e ∷ []) → EachEntry P before calls
front_asks P before [] e h = tt
front_asks P before (x ∷ calls) e h = (h.0, front_asks P (before ++ x ∷ []) calls e h.1)

asks_either : (o : Bool) (b : Begun) (start : ℕ) (calls : List Step) → TalkAsks (if o then over b start calls else under_way b start calls) → EachEntry (AsksSoWith true b) [] calls
asks_either true b start calls h = h
asks_either false b start calls h = h

asks_ended : (v : Conversation) → TalkAsks (conversation_ended v) → TalkAsks v
asks_ended unbegun h = tt
asks_ended (under_way b start calls) h = h
asks_ended (over b start calls) h = h
asks_ended cancelled h = h

-- what was asked later was asked before
asks_before : (u v : Conversation) (e : NodeEntry Obj Load) → Continues u e v → TalkAsks v → TalkAsks u
asks_before _ _ _ (begins a m now fx tag ask effects) h = tt
asks_before _ _ _ (receives b start calls slot m now fx acts is effects takes) h =
    let e : Step = entry (came (received m.rec m.a m.bytes) now) acts in
    front_asks (AsksSoWith true b) [] calls e (asks_either (is_some acts.over) b start (calls ++ e ∷ []) h)
asks_before _ _ _ (ticks b start calls now fx acts effects) h =
    let e : Step = entry (ticked now) acts in
    front_asks (AsksSoWith true b) [] calls e (asks_either (is_some acts.over) b start (calls ++ e ∷ []) h)
asks_before _ _ _ (ends v e fatal passes) h = asks_ended v h
asks_before _ _ _ (rests v e idle asks) h = h

asks_back : (t : List (NodeEntry Obj Load)) (u v : Conversation) → RunsTo u t v → TalkAsks v → TalkAsks u
asks_back [] u v run h = subst TalkAsks (sym run) h
asks_back (e ∷ t) u v (w, goes, run) h = asks_before u w e goes (asks_back t w v run h)

-- the number of the first message's try
abbrev first_number : List Said → ℕ
first_number [] = 0
first_number (m ∷ ms) = m.a

-- the answer of a timer shows itself in what goes down and what is closed
due_shows : (b : Begun) (fixed : Option ℕ) (last rec : ℕ) (x y : Due) → downs_of rec (due_acts b fixed last x) ≡ downs_of rec (due_acts b fixed last y)
    → end_closes (due_acts b fixed last x).over ≡ end_closes (due_acts b fixed last y).over → x ≡ y
due_shows b fixed last rec Not Not d c = refl
due_shows b fixed last rec Not (Again n) d c = absurd (let z = d in cc)
due_shows b fixed last rec Not Over d c = absurd (let z = c in cc)
due_shows b fixed last rec (Again n) Not d c = absurd (let z = d in cc)
due_shows b fixed last rec (Again n) (Again k) d c = ap (λ (i : ℕ). Again i) (ap first_number d)
due_shows b fixed last rec (Again n) Over d c = absurd (let z = d in cc)
due_shows b fixed last rec Over Not d c = absurd (let z = c in cc)
due_shows b fixed last rec Over (Again n) d c = absurd (let z = d in cc)
due_shows b fixed last rec Over Over d c = refl

-- two answers with the same effects are one
one_answer : (b : Begun) (calls : List Step) (call : Call) (m : Said) (fx : Fx Obj Load) (x y : Acts) → AsksSoWith true b calls (entry call x) → AsksSoWith true b calls (entry call y)
    → EffectsOf m x fx → EffectsOf m y fx → x ≡ y
one_answer b calls (came r now) m fx x y p q f g = p ∙ sym q
one_answer b calls (ticked now) m fx x y p q f g =
    let same : due_of x ≡ due_of y =
    due_shows b (port_with true (got calls)) (count_with true (got calls)) m.rec (due_of x) (due_of y)
    (sym (ap (λ (a : Acts). downs_of m.rec a) p) ∙ sym f.downs ∙ g.downs ∙ ap (λ (a : Acts). downs_of m.rec a) q)
    (sym (ap (λ (a : Acts). end_closes a.over) p) ∙ sym f.closes ∙ g.closes ∙ ap (λ (a : Acts). end_closes a.over) q) in
    p ∙ ap (λ (d : Due). due_acts b (port_with true (got calls)) (count_with true (got calls)) d) same ∙ sym q

-- and so lead to the same
same_answer : (b : Begun) (start : ℕ) (calls : List Step) (call : Call) (m : Said) (fx : Fx Obj Load) (x y : Acts) → EffectsOf m x fx → EffectsOf m y fx
    → TalkAsks (talk_went_on b start (calls ++ entry call x ∷ []) x) → TalkAsks (talk_went_on b start (calls ++ entry call y ∷ []) y)
    → talk_went_on b start (calls ++ entry call x ∷ []) x ≡ talk_went_on b start (calls ++ entry call y ∷ []) y
same_answer b start calls call m fx x y f g h k =
    let p = EachEntry-last (AsksSoWith true b) [] calls (entry call x) (asks_either (is_some x.over) b start (calls ++ entry call x ∷ []) h) in
    let q = EachEntry-last (AsksSoWith true b) [] calls (entry call y) (asks_either (is_some y.over) b start (calls ++ entry call y ∷ []) k) in
    ap (λ (a : Acts). talk_went_on b start (calls ++ entry call a ∷ []) a) (one_answer b calls call m fx x y p q f g)

-- no entry both ends it and calls nothing
not_both : (v : Conversation) (e : NodeEntry Obj Load) → is_fatal v e ≡ true → is_idle v e ≡ true → ⊥
not_both v (up slot m now true fx) f i = let z = f in cc
not_both v (up slot m now false fx) f i = let z = i in cc
not_both v (down m now true fx) f i = let z = f in cc
not_both v (down m now false fx) f i = let z = i in cc
not_both v (closed slot cause now fx) f i = let z = sym (ap not f) ∙ i in cc
not_both v (time now true fx) f i = let z = f in cc
not_both v (time now false fx) f i = let z = i in cc
not_both v (regain load) f i = let z = f in cc

does_begin : (a : AskValue) (m : Said) → m.tag ≡ tag_number Begin → ask_in m.bytes ≡ Some a → is_begin m ≡ true
does_begin a m tag ask = ap (λ z. z && is_some (ask_in m.bytes)) (eq-eqb m.tag (tag_number Begin) tag) ∙ ap (λ (o : Option AskValue). is_some o) ask

same_begin : (x y : AskValue) (now : ℕ) (o : Option AskValue) → o ≡ Some x → o ≡ Some y → under_way (begun_with x) now [] ≡ under_way (begun_with y) now []
same_begin x y now o p q = let z = sym p ∙ q in let same : x ≡ y = cc in ap (λ (a : AskValue). under_way (begun_with a) now []) same

-- one entry leads to one conversation
one_next : (u v w : Conversation) (e : NodeEntry Obj Load) → Continues u e v → Continues u e w → TalkAsks v → TalkAsks w → v ≡ w
one_next _ _ _ _ (begins a m now fx tag ask effects) (begins b _ _ _ tag2 ask2 effects2) h k = same_begin a b now (ask_in m.bytes) ask ask2
one_next _ _ _ _ (begins a m now fx tag ask effects) (ends _ _ fatal passes) h k = absurd (let z = fatal in cc)
one_next _ _ _ _ (begins a m now fx tag ask effects) (rests _ _ idle asks) h k = absurd (let z = sym (ap not (does_begin a m tag ask)) ∙ idle in cc)
one_next _ _ _ _ (receives b start calls slot m now fx acts is effects takes) (receives _ _ _ _ _ _ _ acts2 is2 effects2 takes2) h k =
    same_answer b start calls (came (received m.rec m.a m.bytes) now) m fx acts acts2 effects effects2 h k
one_next _ _ _ _ (receives b start calls slot m now fx acts is effects takes) (ends _ _ fatal passes) h k = absurd (let z = fatal in cc)
one_next _ _ _ _ (receives b start calls slot m now fx acts is effects takes) (rests _ _ idle asks) h k = absurd (let z = sym (ap not is) ∙ idle in cc)
one_next _ _ _ _ (ticks b start calls now fx acts effects) (ticks _ _ _ _ _ acts2 effects2) h k =
    same_answer b start calls (ticked now) silence fx acts acts2 effects effects2 h k
one_next _ _ _ _ (ticks b start calls now fx acts effects) (ends _ _ fatal passes) h k = absurd (let z = fatal in cc)
one_next _ _ _ _ (ticks b start calls now fx acts effects) (rests _ _ idle asks) h k = absurd (let z = idle in cc)
one_next _ _ _ _ (ends _ _ fatal passes) (begins a m now fx tag ask effects) h k = absurd (let z = fatal in cc)
one_next _ _ _ _ (ends _ _ fatal passes) (receives b start calls slot m now fx acts is effects takes) h k = absurd (let z = fatal in cc)
one_next _ _ _ _ (ends _ _ fatal passes) (ticks b start calls now fx acts effects) h k = absurd (let z = fatal in cc)
one_next _ _ _ _ (ends v e fatal passes) (ends _ _ fatal2 passes2) h k = refl
one_next _ _ _ _ (ends v e fatal passes) (rests _ _ idle asks) h k = absurd (not_both v e fatal idle)
one_next _ _ _ _ (rests _ _ idle asks) (begins a m now fx tag ask effects) h k = absurd (let z = sym (ap not (does_begin a m tag ask)) ∙ idle in cc)
one_next _ _ _ _ (rests _ _ idle asks) (receives b start calls slot m now fx acts is effects takes) h k = absurd (let z = sym (ap not is) ∙ idle in cc)
one_next _ _ _ _ (rests _ _ idle asks) (ticks b start calls now fx acts effects) h k = absurd (let z = idle in cc)
one_next _ _ _ _ (rests v e idle asks) (ends _ _ fatal passes) h k = absurd (not_both v e fatal idle)
one_next _ _ _ _ (rests v e idle asks) (rests _ _ idle2 asks2) h k = refl

-- a trace leads to one conversation
one_end : (t : List (NodeEntry Obj Load)) (u v w : Conversation) → RunsTo u t v → RunsTo u t w → TalkAsks v → TalkAsks w → v ≡ w
one_end [] u v w p q h k = sym p ∙ q
one_end (e ∷ t) u v w (x, f, p) (y, g, q) h k =
    let same : x ≡ y = one_next u x y e f g (asks_back t x v p h) (asks_back t y w q k) in
    one_end t y v w (subst (λ (z : Conversation). RunsTo z t v) same p) q h k

-- a run over two traces is one over the first and then one over the second
pub runs_split : (v w : Conversation) (s t : List (NodeEntry Obj Load)) → RunsTo v (s ++ t) w → (u : Conversation) × RunsTo v s u × RunsTo u t w
runs_split v w [] t run = (v, refl, run)
runs_split v w (e ∷ s) t (x, goes, run) = let r = runs_split x w s t run in (r.0, (x, goes, r.1), r.2)

-- after more entries, the conversation of those before was continued
pub talk_goes_on : (s t : List (NodeEntry Obj Load)) (v w : Conversation) → RunsTo unbegun s v → TalkMeets v → RunsTo unbegun (s ++ t) w → TalkMeets w → RunsTo v t w
talk_goes_on s t v w p h q k =
    let r = runs_split unbegun w s t q in
    let same : r.0 ≡ v = one_end s unbegun r.0 v r.1 p (asks_back t r.0 w r.2 (asks_of w k)) (asks_of v h) in
    subst (λ (z : Conversation). RunsTo z t w) same r.2
