-- What each record of a traced output says of those before it.
use Rattle.std.proofs.Common.{◌≡◌, inl, inr, ℕ, Bool, true, false, List, [], ◌∷◌, ◌++◌, Option, Some, None, refl, sym, ◌∙◌, ap, subst, append_assoc, append-nil}
use Rattle.std.specs.List.{AllByRecursion}
use Rattle.std.proofs.lemmas.Bool.{eqb-true, false≢true}
use Rattle.nb_terms.specs.declared.cause.Cause.{Cause}
use Rattle.nb_defs.specs.Records.{Out, step, sent, text, command, result, script, opened, tried, advanced, ended, graph, part, done}
use Rattle.nb_ledger.specs.Flat.{flat}
use Rattle.nb_ledger.specs.declared.event.Way.{Way}
use Rattle.nb_ledger.specs.declared.event.GraphEvent.{GraphEvent}
use Rattle.nb_ledger.specs.declared.event.GraphEvent.TheVariants.{Made, Held, LetGo, Plugged, Entered, Left, Dropped, Closed, Unplugged, Freed}
use Rattle.nb_ledger.specs.GraphRun.{GraphState}
use Rattle.nb_frames.specs.Frames.{is_one_of}
use Rattle.nb_traced.specs.Holdings.{Holdings, Kin, GraphObject, lowest_of, serials}
use Rattle.nb_traced.specs.Pieces.{AreGone, IsApart, IsCallOn, IsOfOpen, StandOnEntries, event_records, first_close_of, is_entry_of, none_more, happens_then, puts_then}
use Rattle.nb_traced.specs.Outputs.{Arrived, Traced, own_serials, at_first, apart, replies, commands, opens, calls, ends, ends_with_all, gives_up}
use Rattle.nb_traced.specs.Runs.{HasLedTo, LeadsBy}
use Rattle.nb_traced.specs.Openings.{HasOpened, HasPieces, EndsAs, WasFreed, IsNoEnd, HasNoEnd, IsOfLiving, LeavesNone, IsNumberedBelow}
use Rattle.nb_traced.specs.LowestObjects.{GraphSoFar, graph_so_far, graph_by, first_in}
use Rattle.nb_traced.specs.Places.{FrameStands, IsWithinOpen, by_open, by_step}
use Rattle.nb_traced.proofs.Serials.{at_serial, each_serial, one_in_first}
use Rattle.nb_traced.proofs.StateLemmas.{runners}
use Rattle.nb_traced.proofs.RecordLemmas.{close_in_last, goes_on_then, no_end_aside, put_aside, was_freed}
use Rattle.nb_traced.proofs.Leading.{has_led, leads_then}
use Rattle.nb_traced.proofs.Seeing.{IsNoOpening, so_far_append}
use Rattle.nb_traced.proofs.Keeping.{Kept, Lives, HeldBy, lowest_then, opened_then, all_named_raised, Called}
use Rattle.nb_traced.proofs.Calling.{called, unopened_aside}
use Rattle.nb_traced.proofs.Rules.{beside, has_pieces, kept, kept_makes, made_for, made_led, newest_is}

-- an OPEN has its objects, of which the lowest is the newest of all that live, and its number is above all before it
pub record OpensSo (before : List Out) (k kind : ℕ) : Type 0 where
  pub pieces : List GraphObject
  pub has : HasPieces before kind pieces
  pub newest : first_in (graph_so_far before).living ≡ Some (lowest_of (serials pieces))
  pub rising : AllByRecursion (IsNumberedBelow k) before

abbrev pub Says : List Out → Out → Type 0
Says before (opened number kind server port own target) = OpensSo before number kind
Says before (ended number cause) = EndsAs before number cause
Says before (command depth line place expanded words) = LeavesNone before
Says before (sent bytes) = FrameStands before
Says before (tried number count) = IsWithinOpen number before
Says before (advanced number place) = IsWithinOpen number before
Says before (graph happens) = Unit {0}
Says before (step number) = Unit {0}
Says before (text bytes) = Unit {0}
Says before (result cause) = Unit {0}
Says before (script what depth cause) = Unit {0}
Says before (part kind index offset bytes) = Unit {0}
Says before (done status) = Unit {0}

abbrev pub EachSays : List Out → List Out → Type 0
EachSays before [] = Unit {0}
EachSays before (o ∷ outs) = Says before o × EachSays (before ++ o ∷ []) outs

-- so do all of these, after those
pub record EachOut (before outs : List Out) : Type 0 where
  pub each : EachSays before outs

append_says : (before xs ys : List Out) → EachSays before xs → EachSays (before ++ xs) ys → EachSays before (xs ++ ys)
append_says before [] ys a b = subst (λ z. EachSays z ys) (append-nil before) b
append_says before (x ∷ xs) ys a b =
    (a.0, append_says (before ++ x ∷ []) xs ys a.1 (subst (λ z. EachSays z ys) (sym (append_assoc before (x ∷ []) xs)) b))

pub says_at : (before xs ys : List Out) (o : Out) → EachSays before (xs ++ (o ∷ ys)) → Says (before ++ xs) o
says_at before [] ys o h = subst (λ z. Says z o) (sym (append-nil before)) h.0
says_at before (x ∷ xs) ys o h = subst (λ z. Says z o) (append_assoc before (x ∷ []) xs) (says_at (before ++ x ∷ []) xs ys o h.1)

pub says_after : (before xs ys : List Out) → EachSays before (xs ++ ys) → EachSays (before ++ xs) ys
says_after before [] ys h = subst (λ z. EachSays z ys) (sym (append-nil before)) h
says_after before (x ∷ xs) ys h = subst (λ z. EachSays z ys) (append_assoc before (x ∷ []) xs) (says_after (before ++ x ∷ []) xs ys h.1)

each_append : {before xs ys : List Out} → EachOut before xs → EachOut (before ++ xs) ys → EachOut before (xs ++ ys)
each_append {before = before} {xs = xs} {ys = ys} a b = record { each = append_says before xs ys a.each b.each }

says_apart : (before : List Out) (o : Out) → IsApart o → Says before o
says_apart before (step number) h = tt
says_apart before (text bytes) h = tt
says_apart before (result cause) h = tt
says_apart before (script what depth cause) h = tt
says_apart before (part kind index offset bytes) h = tt
says_apart before (done status) h = tt
says_apart before (graph happens) h = tt
says_apart before (command depth line place expanded words) h = absurd h
says_apart before (sent bytes) h = absurd h
says_apart before (tried number count) h = absurd h
says_apart before (advanced number place) h = absurd h
says_apart before (opened number kind server port own target) h = absurd h
says_apart before (ended number cause) h = absurd h

aparts_say : (before outs : List Out) → AllByRecursion IsApart outs → EachSays before outs
aparts_say before [] h = tt
aparts_say before (o ∷ outs) h = (says_apart before o h.0, aparts_say (before ++ o ∷ []) outs h.1)

events_say : (before : List Out) (es : List GraphEvent) → EachSays before (event_records es)
events_say before [] = tt
events_say before (e ∷ es) = (tt, events_say (before ++ graph (flat e) ∷ []) es)

each_events : {before : List Out} (es : List GraphEvent) → EachOut before (event_records es)
each_events {before = before} es = record { each = events_say before es }

-- WHAT AN OPEN SENDS

put_same : (k : ℕ) (g : GraphSoFar) (o : Out) → IsOfOpen k o → graph_by g o ≡ g
put_same k g (sent bytes) h = refl
put_same k g (tried number count) h = refl
put_same k g (advanced number place) h = refl
put_same k g (graph happens) h = absurd h
put_same k g (opened number kind server port own target) h = absurd h
put_same k g (ended number cause) h = absurd h
put_same k g (step number) h = absurd h
put_same k g (text bytes) h = absurd h
put_same k g (command depth line place expanded words) h = absurd h
put_same k g (result cause) h = absurd h
put_same k g (script what depth cause) h = absurd h
put_same k g (part kind index offset bytes) h = absurd h
put_same k g (done status) h = absurd h

within_then : (k : ℕ) (outs : List Out) (o : Out) → IsWithinOpen k outs → IsOfOpen k o → IsWithinOpen k (outs ++ o ∷ [])
within_then k outs o w h =
    let same : graph_so_far (outs ++ o ∷ []) ≡ graph_so_far outs = so_far_append outs (o ∷ []) ∙ put_same k (graph_so_far outs) o h in
    record {
      pieces = w.pieces;
      since = w.since ++ o ∷ [];
      begun = opened_then outs (o ∷ []) k w.pieces w.since w.begun;
      goes_on = goes_on_then k outs (o ∷ []) w.goes_on (no_end_aside k o (put_aside k o h), tt);
      within = record {
        object = w.within.object;
        outer = w.within.outer;
        is_lowest = ap (λ g. g.lowest k) same ∙ w.within.is_lowest;
        runs = ap (λ g. g.running) same ∙ w.within.runs;
      };
    }

put_says : (k : ℕ) (outs : List Out) (o : Out) → IsWithinOpen k outs → IsOfOpen k o → Says outs o
put_says k outs (sent bytes) w h = by_open k w
put_says k outs (tried number count) w h = subst (λ z. IsWithinOpen z outs) (sym h) w
put_says k outs (advanced number place) w h = subst (λ z. IsWithinOpen z outs) (sym h) w
put_says k outs (graph happens) w h = absurd h
put_says k outs (opened number kind server port own target) w h = absurd h
put_says k outs (ended number cause) w h = absurd h
put_says k outs (step number) w h = absurd h
put_says k outs (text bytes) w h = absurd h
put_says k outs (command depth line place expanded words) w h = absurd h
put_says k outs (result cause) w h = absurd h
put_says k outs (script what depth cause) w h = absurd h
put_says k outs (part kind index offset bytes) w h = absurd h
put_says k outs (done status) w h = absurd h

-- an open that has begun in these records, and hasn't ended, with its lowest object
record GoesOnSo (k x : ℕ) (outs : List Out) : Type 0 where
  pieces : List GraphObject
  since : List Out
  begun : HasOpened outs k pieces since
  goes_on : HasNoEnd k outs
  lowest : (graph_so_far outs).lowest k ≡ Some x

on_then : (k x : ℕ) (outs : List Out) (o : Out) → GoesOnSo k x outs → IsNoEnd k o → IsNoOpening k o → GoesOnSo k x (outs ++ o ∷ [])
on_then k x outs o g no_end no_opening = record {
  pieces = g.pieces;
  since = g.since ++ o ∷ [];
  begun = opened_then outs (o ∷ []) k g.pieces g.since g.begun;
  goes_on = goes_on_then k outs (o ∷ []) g.goes_on (no_end, tt);
  lowest = lowest_then outs (o ∷ []) k (no_opening, tt) ∙ g.lowest;
}

entered_within : (k x : ℕ) (outs : List Out) (e : GraphEvent) → is_entry_of x e ≡ true → GoesOnSo k x (outs ++ graph (flat e) ∷ []) → IsWithinOpen k (outs ++ graph (flat e) ∷ [])
entered_within k x outs (Entered p way) is g = record {
  pieces = g.pieces;
  since = g.since;
  begun = g.begun;
  goes_on = g.goes_on;
  within = record {
    object = x;
    outer = (graph_so_far outs).running;
    is_lowest = g.lowest;
    runs = ap (λ (h : GraphSoFar). h.running) (so_far_append outs (graph (flat (Entered p way)) ∷ [])) ∙ ap (λ z. z ∷ (graph_so_far outs).running) (eqb-true p.obj.0 x is);
  };
}
entered_within k x outs (Made y kind) is g = absurd (false≢true is)
entered_within k x outs (Held y) is g = absurd (false≢true is)
entered_within k x outs (LetGo y) is g = absurd (false≢true is)
entered_within k x outs (Plugged p q) is g = absurd (false≢true is)
entered_within k x outs (Left p) is g = absurd (false≢true is)
entered_within k x outs (Dropped p) is g = absurd (false≢true is)
entered_within k x outs (Closed p cause) is g = absurd (false≢true is)
entered_within k x outs (Unplugged p q) is g = absurd (false≢true is)
entered_within k x outs (Freed y) is g = absurd (false≢true is)

on_entries_say : (k x : ℕ) (entered : Bool) (before outs : List Out) (es : List GraphEvent) → StandOnEntries k x entered outs es → GoesOnSo k x before → (entered ≡ true → IsWithinOpen k before) →
    EachSays before outs
on_entries_say k x entered before _ _ (none_more _) g w = tt
on_entries_say k x entered before _ _ (happens_then _ e outs es h) g w =
    let next : GoesOnSo k x (before ++ graph (flat e) ∷ []) = on_then k x before (graph (flat e)) g tt tt in
    (tt, on_entries_say k x (is_entry_of x e) (before ++ graph (flat e) ∷ []) outs es h next (λ is. entered_within k x before e is next))
on_entries_say k x entered before _ _ (puts_then _ o outs es is own h) g w = (
  put_says k before o (w is) own,
  on_entries_say k x true (before ++ o ∷ []) outs es h (on_then k x before o g (no_end_aside k o (put_aside k o own)) (unopened_aside k o (put_aside k o own))) (λ t. within_then k before o (w is) own),
)

module _ (outs : List Out) (s0 : GraphState) (owner : ℕ → Option ℕ) (o : Kin) (l : Lives outs s0 owner o) (ids : List ℕ) (by : Option Way) (added : List Out) (s t : GraphState)
    (c : IsCallOn o.number ids (lowest_of (own_serials o)) by added s t) where
  call_says : EachOut outs added
  call_says = record {
    each = on_entries_say o.number (lowest_of (own_serials o)) false outs added c.events c.stand
        (record { pieces = o.pieces; since = l.since; begun = l.begun; goes_on = l.goes_on; lowest = l.lowest }) (λ e. absurd (false≢true e));
  }

  -- ITS END

  pub ends_as : (cause : Cause) → s0 ≡ s → first_close_of (own_serials o) added ≡ Some cause → AreGone (own_serials o) t → Called (is_one_of ids) outs added s t → EndsAs (outs ++ added) o.number cause
  ends_as cause same closed gone d =
      let since : List Out = l.since ++ added in
      record {
        pieces = o.pieces;
        since = since;
        begun = opened_then outs added o.number o.pieces l.since l.begun;
        first = close_in_last (own_serials o) l.since added (Some cause) l.unclosed closed;
        freed = each_serial (λ x. WasFreed since x) o.pieces (λ x e.
            was_freed since l.begun.has.state t x (leads_then l.begun.has.state s0 t l.since added l.leads (subst (λ z. LeadsBy z added t) (sym same) d.leads))
            (at_serial (λ y. l.begun.has.state.live y ≡ true) o.pieces l.begun.has.lives x e) (gone x e));
        goes_on = goes_on_then o.number outs added l.goes_on (d.goes_on o.number);
      }

-- WHERE A COMMAND BEGINS

pub held_living : (outs : List Out) (s : GraphState) (owner : ℕ → Option ℕ) (x : ℕ) (os : List Kin) → AllByRecursion (Lives outs s owner) os → HeldBy x os → IsOfLiving outs x
held_living outs s owner x [] a h = absurd h
held_living outs s owner x (o ∷ os) a (inl e) = record { number = o.number; pieces = o.pieces; since = a.0.since; begun = a.0.begun; is_piece = e; goes_on = a.0.goes_on }
held_living outs s owner x (o ∷ os) a (inr h) = held_living outs s owner x os a.1 h

leaves_none : (outs : List Out) (h : Holdings) → (a : Kept outs h) → HasLedTo outs h.state → h.waits ≡ [] → LeavesNone outs
leaves_none outs h a led none = record {
  state = h.state;
  led = led;
  theirs = λ x lives. elim (a.held x lives) [
    | inl e ↦ held_living outs h.state a.owner x h.living a.opens e
    | inr e ↦ absurd (false≢true (ap (λ z. is_one_of (serials z) x) (sym none) ∙ e))
  ];
}

-- ALL OF THEM

pub says : (outs : List Out) (h : Holdings) (came : List Arrived) → Traced outs h came → EachOut [] outs
says _ _ _ at_first = record { each = tt }
says _ _ _ (apart outs added h came t aside) = each_append (says outs h came t) (record { each = aparts_say outs added aside })
says _ _ _ (replies outs n bytes h came t) =
    let a = kept (outs ++ (step n ∷ [])) h came t in
    subst (EachOut []) (append_assoc outs (step n ∷ []) (sent bytes ∷ []))
    (each_append (says (outs ++ (step n ∷ [])) h came t) (record { each = (by_step outs n refl (a.sees.runs ∙ ap runners a.rests), tt) }))
says _ _ _ (commands outs depth line place expanded words h came t none) =
    each_append (says outs h came t) (record { each = (leaves_none outs h (kept outs h came t) (has_led outs h came t) none, tt) })
says _ _ _ (opens outs h came es s first o kind server port own target t w run waits on lone are some joined newest later) =
    let a = kept_makes outs h es s (kept outs h came t) w run in
    let led = made_led outs h es s (has_led outs h came t) run in
    let front : List Out = outs ++ event_records es in
    let h1 : Holdings = made_for h es s in
    each_append (says outs h came t) (each_append (each_events es) (record {
      each = (
        record {
          pieces = o.pieces;
          has = has_pieces front h1 first o kind server port own target a led waits are some joined newest later;
          newest = newest_is front h1 first o kind server port own target a led waits are some joined newest later;
          rising = all_named_raised h.begun o.number front later a.named;
        },
        tt,
      );
    }))
says _ _ _ (calls outs added h came before after o by s t living call none) =
    let a = kept outs h came t in
    let b = beside outs h before after o a living in
    each_append (says outs h came t) (call_says outs h.state a.owner o b.this (own_serials o) by added h.state s call)
says _ _ _ (ends outs added h came before after o by s cause t living call closed gone) =
    let a = kept outs h came t in
    let b = beside outs h before after o a living in
    let d = called o.number (lowest_of (own_serials o)) (own_serials o) by outs added h.state s call in
    each_append (says outs h came t) (each_append (call_says outs h.state a.owner o b.this (own_serials o) by added h.state s call)
    (record { each = (ends_as outs h.state a.owner o b.this (own_serials o) by added h.state s call cause refl closed gone d, tt) }))
says _ _ _ (ends_with_all outs added h came before after o s cause t living call closed gone) =
    let a = kept outs h came t in
    let b = beside outs h before after o a living in
    let ids : List ℕ = own_serials o ++ serials h.waits in
    let d = called o.number (lowest_of (own_serials o)) ids None outs added h.state s call in
    each_append (says outs h came t) (each_append (call_says outs h.state a.owner o b.this ids None added h.state s call)
    (record { each = (ends_as outs h.state a.owner o b.this ids None added h.state s call cause refl closed (λ x e. gone x (one_in_first (own_serials o) (serials h.waits) x e)) d, tt) }))
says _ _ _ (gives_up outs h came es s t run within inner gone rests) = each_append (says outs h came t) (each_events es)
