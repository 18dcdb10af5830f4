-- Whose each event of a traced output is, what each OPEN takes, and where what an open puts stands.
use Rattle.std.proofs.Common.{◌≡◌, inl, inr, ℕ, ◌≤◌, Bool, true, false, List, [], ◌∷◌, ◌++◌, Option, Some, None, refl, sym, ◌∙◌, ap, subst, append_assoc, append-nil}
use Rattle.std.specs.List.{AllByRecursion}
use Rattle.std.proofs.lemmas.Bool.{eqb-true, false≢true}
use Rattle.nb_defs.specs.Records.{Out, step, sent, text, command, result, script, opened, tried, advanced, ended, graph, part, done}
use Rattle.nb_ledger.specs.Flat.{flat}
use Rattle.nb_ledger.specs.declared.event.Way.{Way}
use Rattle.nb_ledger.specs.declared.event.GraphEvent.{GraphEvent}
use Rattle.nb_ledger.specs.declared.event.GraphEvent.TheVariants.{Made, Held, LetGo, Plugged, Entered, Left, Dropped, Closed, Unplugged, Freed}
use Rattle.nb_ledger.specs.GraphRun.{GraphState}
use Rattle.nb_frames.specs.Frames.{is_one_of}
use Rattle.nb_frames.specs.Within.{IsEventWithin}
use Rattle.nb_traced.specs.Holdings.{Holdings, Kin, GraphObject, AreJoined, kinds, lowest_of, objects_for, serials}
use Rattle.nb_traced.specs.LowestObjects.{graph_so_far}
use Rattle.nb_traced.specs.Openings.{IsCommand, IsMadeLast, IsNoEnd, WasMadeLast}
use Rattle.nb_traced.specs.Outputs.{Arrived, IsNewest, MayWaitOn, Traced, own_serials, at_first, apart, replies, commands, opens, calls, ends, ends_with_all, gives_up}
use Rattle.nb_traced.specs.Pieces.{IsApart, IsCallOn, IsMaking, IsOfOpen, StandOnEntries, event_records, is_entry_of, none_more, happens_then, puts_then}
use Rattle.nb_traced.specs.Runs.{HasLedTo}
use Rattle.nb_traced.proofs.Calling.{unopened_aside}
use Rattle.nb_traced.proofs.EventLemmas.{all_append, all_first, all_map}
use Rattle.nb_traced.proofs.Following.{waits_made}
use Rattle.nb_traced.proofs.Keeping.{Kept, Lives, Waits, lowest_then, opened_then}
use Rattle.nb_traced.proofs.Leading.{has_led}
use Rattle.nb_traced.proofs.RecordLemmas.{goes_on_then, made_last_then, no_end_aside, put_aside, put_no_command}
use Rattle.nb_traced.proofs.Rules.{beside, has_pieces, kept, kept_makes, made_for, made_led}
use Rattle.nb_traced.proofs.Saying.{held_living}
use Rattle.nb_traced.proofs.Serials.{at_serial, one_in_either}
use Rattle.nb_traced.specs.Whose.{EventsAreTheirs, FollowsEntry, FrameFollows, IsTheirObject, OpensTakeAll, PutsFollow, TakesAllMade, by_entry, by_step, is_making}

-- EACH RECORD

abbrev SaysWhose : List Out → Out → Type 0
SaysWhose before (graph happens) = is_making happens ≡ false → IsTheirObject before happens.object
SaysWhose before (opened number kind server port own target) = TakesAllMade before kind
SaysWhose before (sent bytes) = FrameFollows before
SaysWhose before (tried number count) = FollowsEntry number before
SaysWhose before (advanced number place) = FollowsEntry number before
SaysWhose before (ended number cause) = Unit {0}
SaysWhose before (command depth line place expanded words) = Unit {0}
SaysWhose before (step number) = Unit {0}
SaysWhose before (text bytes) = Unit {0}
SaysWhose before (result cause) = Unit {0}
SaysWhose before (script what depth cause) = Unit {0}
SaysWhose before (part kind index offset bytes) = Unit {0}
SaysWhose before (done status) = Unit {0}

abbrev EachWhose : List Out → List Out → Type 0
EachWhose before [] = Unit {0}
EachWhose before (o ∷ outs) = SaysWhose before o × EachWhose (before ++ o ∷ []) outs

-- so do all of these, after those
record AreWhose (before outs : List Out) : Type 0 where
  each : EachWhose before outs

append_whose : (before xs ys : List Out) → EachWhose before xs → EachWhose (before ++ xs) ys → EachWhose before (xs ++ ys)
append_whose before [] ys a b = subst (λ z. EachWhose z ys) (append-nil before) b
append_whose before (x ∷ xs) ys a b =
    (a.0, append_whose (before ++ x ∷ []) xs ys a.1 (subst (λ z. EachWhose z ys) (sym (append_assoc before (x ∷ []) xs)) b))

both_whose : {before xs ys : List Out} → AreWhose before xs → AreWhose (before ++ xs) ys → AreWhose before (xs ++ ys)
both_whose {before = before} {xs = xs} {ys = ys} a b = record { each = append_whose before xs ys a.each b.each }

whose_at : (before xs ys : List Out) (o : Out) → EachWhose before (xs ++ (o ∷ ys)) → SaysWhose (before ++ xs) o
whose_at before [] ys o h = subst (λ z. SaysWhose z o) (sym (append-nil before)) h.0
whose_at before (x ∷ xs) ys o h = subst (λ z. SaysWhose z o) (append_assoc before (x ∷ []) xs) (whose_at (before ++ x ∷ []) xs ys o h.1)

apart_whose : (before : List Out) (o : Out) → IsApart o → SaysWhose before o
apart_whose before (step number) h = tt
apart_whose before (text bytes) h = tt
apart_whose before (result cause) h = tt
apart_whose before (script what depth cause) h = tt
apart_whose before (part kind index offset bytes) h = tt
apart_whose before (done status) h = tt
apart_whose before (command depth line place expanded words) h = absurd h
apart_whose before (sent bytes) h = absurd h
apart_whose before (tried number count) h = absurd h
apart_whose before (advanced number place) h = absurd h
apart_whose before (graph happens) h = absurd h
apart_whose before (opened number kind server port own target) h = absurd h
apart_whose before (ended number cause) h = absurd h

aparts_whose : (before outs : List Out) → AllByRecursion IsApart outs → EachWhose before outs
aparts_whose before [] h = tt
aparts_whose before (o ∷ outs) h = (apart_whose before o h.0, aparts_whose (before ++ o ∷ []) outs h.1)

-- WHAT IS MADE

making_whose : (before : List Out) (e : GraphEvent) → IsMaking e → SaysWhose before (graph (flat e))
making_whose before (Made x kind) w = λ no. absurd (false≢true (sym no))
making_whose before (Held x) w = λ no. absurd (false≢true (sym no))
making_whose before (Plugged p q) w = λ no. absurd (false≢true (sym no))
making_whose before (LetGo x) w = absurd w
making_whose before (Entered p way) w = absurd w
making_whose before (Left p) w = absurd w
making_whose before (Dropped p) w = absurd w
making_whose before (Closed p cause) w = absurd w
making_whose before (Unplugged p q) w = absurd w
making_whose before (Freed x) w = absurd w

makings_each : (before : List Out) (es : List GraphEvent) → AllByRecursion IsMaking es → EachWhose before (event_records es)
makings_each before [] w = tt
makings_each before (e ∷ es) w = (making_whose before e w.0, makings_each (before ++ graph (flat e) ∷ []) es w.1)

makings_whose : {before : List Out} (es : List GraphEvent) → AllByRecursion IsMaking es → AreWhose before (event_records es)
makings_whose {before = before} es w = record { each = makings_each before es w }

-- WHOSE OBJECTS

-- these objects are of opens that go on, or wait
abbrev pub AreTheirs : List ℕ → List Out → Type 0
AreTheirs ids outs = (x : ℕ) → is_one_of ids x ≡ true → IsTheirObject outs x

their_then : (outs : List Out) (o : Out) (x : ℕ) → ((k : ℕ) → IsNoEnd k o) → (IsCommand o → ⊥) → IsTheirObject outs x → IsTheirObject (outs ++ o ∷ []) x
their_then outs o x no_end no_command (inl l) = inl (record {
  number = l.number;
  pieces = l.pieces;
  since = l.since ++ o ∷ [];
  begun = opened_then outs (o ∷ []) l.number l.pieces l.since l.begun;
  is_piece = l.is_piece;
  goes_on = goes_on_then l.number outs (o ∷ []) l.goes_on (no_end l.number, tt);
})
their_then outs o x no_end no_command (inr m) = inr (record { kind = m.kind; made = made_last_then outs (o ∷ []) (record { serial = x; kind = m.kind }) m.made (no_command, tt) })

event_theirs : (own : ℕ → Bool) (before : List Out) (e : GraphEvent) → IsEventWithin own e → ((x : ℕ) → own x ≡ true → IsTheirObject before x) → IsTheirObject before (flat e).object
event_theirs own before (Made x kind) w f = absurd w
event_theirs own before (Held x) w f = f x.0 w
event_theirs own before (LetGo x) w f = f x.0 w
event_theirs own before (Plugged p q) w f = f p.obj.0 w.0
event_theirs own before (Entered p way) w f = f p.obj.0 w
event_theirs own before (Left p) w f = f p.obj.0 w
event_theirs own before (Dropped p) w f = f p.obj.0 w
event_theirs own before (Closed p cause) w f = f p.obj.0 w
event_theirs own before (Unplugged p q) w f = f p.obj.0 w.0
event_theirs own before (Freed x) w f = f x.0 w

-- WHAT AN OPEN PUTS

follows_then : (k : ℕ) (outs : List Out) (o : Out) → FollowsEntry k outs → IsOfOpen k o → FollowsEntry k (outs ++ o ∷ [])
follows_then k outs o f own = record {
  earlier = f.earlier;
  port = f.port;
  by = f.by;
  put = f.put ++ o ∷ [];
  all = ap (λ z. z ++ o ∷ []) f.all ∙ append_assoc f.earlier (graph (flat (Entered f.port f.by)) ∷ f.put) (o ∷ []);
  are = all_append (IsOfOpen k) f.put (o ∷ []) f.are (own, tt);
  is_lowest = f.is_lowest;
}

entered_follows : (k x : ℕ) (outs : List Out) (e : GraphEvent) → is_entry_of x e ≡ true → (graph_so_far outs).lowest k ≡ Some x → FollowsEntry k (outs ++ graph (flat e) ∷ [])
entered_follows k x outs (Entered p way) is low = record { earlier = outs; port = p; by = way; put = []; all = refl; are = tt; is_lowest = low ∙ ap Some (sym (eqb-true p.obj.0 x is)) }
entered_follows k x outs (Made y kind) is low = absurd (false≢true is)
entered_follows k x outs (Held y) is low = absurd (false≢true is)
entered_follows k x outs (LetGo y) is low = absurd (false≢true is)
entered_follows k x outs (Plugged p q) is low = absurd (false≢true is)
entered_follows k x outs (Left p) is low = absurd (false≢true is)
entered_follows k x outs (Dropped p) is low = absurd (false≢true is)
entered_follows k x outs (Closed p cause) is low = absurd (false≢true is)
entered_follows k x outs (Unplugged p q) is low = absurd (false≢true is)
entered_follows k x outs (Freed y) is low = absurd (false≢true is)

put_whose : (k : ℕ) (outs : List Out) (o : Out) → FollowsEntry k outs → IsOfOpen k o → SaysWhose outs o
put_whose k outs (sent bytes) f h = by_entry k f
put_whose k outs (tried number count) f h = subst (λ z. FollowsEntry z outs) (sym h) f
put_whose k outs (advanced number place) f h = subst (λ z. FollowsEntry z outs) (sym h) f
put_whose k outs (graph happens) f h = absurd h
put_whose k outs (opened number kind server port own target) f h = absurd h
put_whose k outs (ended number cause) f h = absurd h
put_whose k outs (step number) f h = absurd h
put_whose k outs (text bytes) f h = absurd h
put_whose k outs (command depth line place expanded words) f h = absurd h
put_whose k outs (result cause) f h = absurd h
put_whose k outs (script what depth cause) f h = absurd h
put_whose k outs (part kind index offset bytes) f h = absurd h
put_whose k outs (done status) f h = absurd h

-- A CALL

entries_whose : (k x : ℕ) (ids : List ℕ) (entered : Bool) (before outs : List Out) (es : List GraphEvent) → StandOnEntries k x entered outs es → AllByRecursion (IsEventWithin (is_one_of ids)) es → AreTheirs ids before →
    (graph_so_far before).lowest k ≡ Some x → (entered ≡ true → FollowsEntry k before) → EachWhose before outs
entries_whose k x ids entered before _ _ (none_more _) within theirs low f = tt
entries_whose k x ids entered before _ _ (happens_then _ e outs es h) within theirs low f = (
  λ no. event_theirs (is_one_of ids) before e within.0 theirs,
  entries_whose k x ids (is_entry_of x e) (before ++ graph (flat e) ∷ []) outs es h within.1 (λ y own. their_then before (graph (flat e)) y (λ j. tt) (λ c. c) (theirs y own))
      (lowest_then before (graph (flat e) ∷ []) k (tt, tt) ∙ low) (λ is. entered_follows k x before e is low),
)
entries_whose k x ids entered before _ _ (puts_then _ o outs es is own h) within theirs low f = (
  put_whose k before o (f is) own,
  entries_whose k x ids true (before ++ o ∷ []) outs es h within (λ y mine. their_then before o y (λ j. no_end_aside j o (put_aside k o own)) (put_no_command k o own) (theirs y mine))
      (lowest_then before (o ∷ []) k (unopened_aside k o (put_aside k o own), tt) ∙ low) (λ t. follows_then k before o (f is) own),
)

call_whose : (outs : List Out) (k x : ℕ) (ids : List ℕ) (by : Option Way) (added : List Out) (s t : GraphState) → IsCallOn k ids x by added s t → AreTheirs ids outs → (graph_so_far outs).lowest k ≡ Some x → AreWhose outs added
call_whose outs k x ids by added s t c theirs low = record { each = entries_whose k x ids false outs added c.events c.stand c.within theirs low (λ e. absurd (false≢true e)) }

-- what is given up
given_each : (ids : List ℕ) (before : List Out) (es : List GraphEvent) → AllByRecursion (IsEventWithin (is_one_of ids)) es → AreTheirs ids before → EachWhose before (event_records es)
given_each ids before [] within theirs = tt
given_each ids before (e ∷ es) within theirs = (
  λ no. event_theirs (is_one_of ids) before e within.0 theirs,
  given_each ids (before ++ graph (flat e) ∷ []) es within.1 (λ y own. their_then before (graph (flat e)) y (λ j. tt) (λ c. c) (theirs y own)),
)

lives_theirs : (outs : List Out) (s : GraphState) (owner : ℕ → Option ℕ) (o : Kin) → Lives outs s owner o → AreTheirs (own_serials o) outs
lives_theirs outs s owner o l = λ x e. inl (record { number = o.number; pieces = o.pieces; since = l.since; begun = l.begun; is_piece = e; goes_on = l.goes_on })

waits_theirs : (outs : List Out) (h : Holdings) → Kept outs h → AreTheirs (serials h.waits) outs
waits_theirs outs h a = λ x e. inr (at_serial (λ y. IsMadeLast outs y) h.waits (waits_made outs h.state a.owner h.waits a.waits) x e)

all_theirs : (outs : List Out) (h : Holdings) (o : Kin) (a : Kept outs h) → Lives outs h.state a.owner o → AreTheirs (own_serials o ++ serials h.waits) outs
all_theirs outs h o a l = λ x e. elim (one_in_either (own_serials o) (serials h.waits) x e) [
  | inl f ↦ lives_theirs outs h.state a.owner o l x f
  | inr f ↦ waits_theirs outs h a x f
]

-- AN OPEN

abbrev pub takes_so : (outs : List Out) (h : Holdings) (first : List GraphObject) (o : Kin) (kind server port own : ℕ) (target : List ℕ) → Kept outs h → HasLedTo outs h.state → h.waits ≡ first ++ o.pieces → MayWaitOn kind first →
    kinds o.pieces ≡ objects_for kind → (o.pieces ≡ [] → ⊥) → AreJoined h.state (own_serials o) → IsNewest h.state (lowest_of (own_serials o)) → h.begun ≤ o.number → TakesAllMade outs kind
takes_so outs h first o kind server port own target a led waits on are some joined newest later = record {
  pieces = o.pieces;
  has = has_pieces outs h first o kind server port own target a led waits are some joined newest later;
  waits = first;
  may = on;
  made = all_map (Waits outs h.state a.owner) (WasMadeLast outs) first (λ p w. w.made) (all_first (Waits outs h.state a.owner) first o.pieces (subst (AllByRecursion (Waits outs h.state a.owner)) waits a.waits));
  state = h.state;
  led = led;
  theirs = λ x lives. elim (a.held x lives) [
    | inl e ↦ inl (held_living outs h.state a.owner x h.living a.opens e)
    | inr e ↦ inr (sym (ap (λ z. is_one_of (serials z) x) waits) ∙ e)
  ];
}

-- ALL OF THEM

whose : (outs : List Out) (h : Holdings) (came : List Arrived) → Traced outs h came → AreWhose [] outs
whose _ _ _ at_first = record { each = tt }
whose _ _ _ (apart outs added h came t aside) = both_whose (whose outs h came t) (record { each = aparts_whose outs added aside })
whose _ _ _ (replies outs n bytes h came t) =
    subst (AreWhose []) (append_assoc outs (step n ∷ []) (sent bytes ∷ [])) (both_whose (whose (outs ++ (step n ∷ [])) h came t) (record { each = (by_step outs n refl, tt) }))
whose _ _ _ (commands outs depth line place expanded words h came t none) = both_whose (whose outs h came t) (record { each = (tt, tt) })
whose _ _ _ (opens outs h came es s first o kind server port own target t w run waits on lone are some joined newest later) =
    let front : List Out = outs ++ event_records es in
    let a = kept_makes outs h es s (kept outs h came t) w run in
    let led = made_led outs h es s (has_led outs h came t) run in
    both_whose (whose outs h came t) (both_whose (makings_whose es w) (record { each = (takes_so front (made_for h es s) first o kind server port own target a led waits on are some joined newest later, tt) }))
whose _ _ _ (calls outs added h came before after o by s t living call none) =
    let a = kept outs h came t in
    let b = beside outs h before after o a living in
    both_whose (whose outs h came t) (call_whose outs o.number (lowest_of (own_serials o)) (own_serials o) by added h.state s call (lives_theirs outs h.state a.owner o b.this) b.this.lowest)
whose _ _ _ (ends outs added h came before after o by s cause t living call closed gone) =
    let a = kept outs h came t in
    let b = beside outs h before after o a living in
    both_whose (whose outs h came t) (both_whose (call_whose outs o.number (lowest_of (own_serials o)) (own_serials o) by added h.state s call (lives_theirs outs h.state a.owner o b.this) b.this.lowest)
    (record { each = (tt, tt) }))
whose _ _ _ (ends_with_all outs added h came before after o s cause t living call closed gone) =
    let a = kept outs h came t in
    let b = beside outs h before after o a living in
    both_whose (whose outs h came t) (both_whose (call_whose outs o.number (lowest_of (own_serials o)) (own_serials o ++ serials h.waits) None added h.state s call (all_theirs outs h o a b.this) b.this.lowest)
    (record { each = (tt, tt) }))
whose _ _ _ (gives_up outs h came es s t run within inner gone rests) =
    both_whose (whose outs h came t) (record { each = given_each (serials h.waits) outs es within (waits_theirs outs h (kept outs h came t)) })

at : (outs : List Out) (h : Holdings) (came : List Arrived) → Traced outs h came → (before after : List Out) (o : Out) → outs ≡ before ++ (o ∷ after) → SaysWhose before o
at outs h came t before after o is = whose_at [] before after o (subst (EachWhose []) is (whose outs h came t).each)

pub opens_take_all : (outs : List Out) (h : Holdings) (came : List Arrived) → Traced outs h came → OpensTakeAll outs
opens_take_all outs h came t before after k kind server port own target is = at outs h came t before after (opened k kind server port own target) is

pub events_are_theirs : (outs : List Out) (h : Holdings) (came : List Arrived) → Traced outs h came → EventsAreTheirs outs
events_are_theirs outs h came t before after happens is = at outs h came t before after (graph happens) is

pub puts_follow : (outs : List Out) (h : Holdings) (came : List Arrived) → Traced outs h came → PutsFollow outs
puts_follow outs h came t = record {
  frames = λ before after bytes is. at outs h came t before after (sent bytes) is;
  tries = λ before after k count is. at outs h came t before after (tried k count) is;
  advances = λ before after k place is. at outs h came t before after (advanced k place) is;
}
