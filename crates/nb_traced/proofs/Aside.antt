-- Within an entry only what an open puts in a call stands beside the records of the graph.
use Rattle.std.proofs.Common.{◌≡◌, ℕ, Bool, true, false, List, [], ◌∷◌, ◌++◌, refl, sym, ◌∙◌, ap, subst, append_assoc, append-nil}
use Rattle.std.specs.List.{AllByRecursion}
use Rattle.nb_defs.specs.Records.{Out, step, sent, text, command, result, script, opened, tried, advanced, ended, graph, part, done}
use Rattle.nb_ledger.specs.Flat.{flat}
use Rattle.nb_ledger.specs.declared.event.GraphEvent.{GraphEvent}
use Rattle.nb_ledger.specs.GraphRun.{GraphState}
use Rattle.nb_traced.specs.Holdings.{Holdings, lowest_of, serials}
use Rattle.nb_traced.specs.Pieces.{IsApart, IsCallOn, IsOfOpen, StandOnEntries, event_records, is_entry_of, none_more, happens_then, puts_then}
use Rattle.nb_traced.specs.Outputs.{Arrived, Traced, own_serials, at_first, apart, replies, commands, opens, calls, ends, ends_with_all, gives_up}
use Rattle.nb_traced.specs.LowestObjects.{GraphSoFar, graph_so_far, graph_by}
use Rattle.nb_traced.specs.Entries.{IsOutside}
use Rattle.nb_traced.specs.Places.{IsOfNoCall, OthersStandOutside}
use Rattle.nb_traced.proofs.StateLemmas.{runners}
use Rattle.nb_traced.proofs.Seeing.{so_far_append}
use Rattle.nb_traced.proofs.Calling.{called}
use Rattle.nb_traced.proofs.Rules.{kept, kept_makes}
use Rattle.nb_traced.proofs.Following.{rests}

abbrev EachAside : List Out → List Out → Type 0
EachAside before [] = Unit {0}
EachAside before (o ∷ outs) = (IsOfNoCall o → IsOutside before) × EachAside (before ++ o ∷ []) outs

-- so do these, after those
record AreAsideAfter (before outs : List Out) : Type 0 where
  each : EachAside before outs

append_aside : (before xs ys : List Out) → EachAside before xs → EachAside (before ++ xs) ys → EachAside before (xs ++ ys)
append_aside before [] ys a b = subst (λ z. EachAside z ys) (append-nil before) b
append_aside before (x ∷ xs) ys a b =
    (a.0, append_aside (before ++ x ∷ []) xs ys a.1 (subst (λ z. EachAside z ys) (sym (append_assoc before (x ∷ []) xs)) b))

both_aside : {before xs ys : List Out} → AreAsideAfter before xs → AreAsideAfter (before ++ xs) ys → AreAsideAfter before (xs ++ ys)
both_aside {before = before} {xs = xs} {ys = ys} a b = record { each = append_aside before xs ys a.each b.each }

aside_at : (before xs ys : List Out) (o : Out) → EachAside before (xs ++ (o ∷ ys)) → IsOfNoCall o → IsOutside (before ++ xs)
aside_at before [] ys o h = subst (λ z. IsOfNoCall o → IsOutside z) (sym (append-nil before)) h.0
aside_at before (x ∷ xs) ys o h = subst (λ z. IsOfNoCall o → IsOutside z) (append_assoc before (x ∷ []) xs) (aside_at (before ++ x ∷ []) xs ys o h.1)

-- the records of a call
events_each : (before : List Out) (es : List GraphEvent) → EachAside before (event_records es)
events_each before [] = tt
events_each before (e ∷ es) = (λ h. absurd h, events_each (before ++ graph (flat e) ∷ []) es)

events_aside : {before : List Out} (es : List GraphEvent) → AreAsideAfter before (event_records es)
events_aside {before = before} es = record { each = events_each before es }

put_aside : (k : ℕ) (before : List Out) (o : Out) → IsOfOpen k o → IsOfNoCall o → IsOutside before
put_aside k before (sent bytes) h n = absurd n
put_aside k before (tried number count) h n = absurd n
put_aside k before (advanced number place) h n = absurd n
put_aside k before (graph happens) h n = absurd h
put_aside k before (opened number kind server port own target) h n = absurd h
put_aside k before (ended number cause) h n = absurd h
put_aside k before (step number) h n = absurd h
put_aside k before (text bytes) h n = absurd h
put_aside k before (command depth line place expanded words) h n = absurd h
put_aside k before (result cause) h n = absurd h
put_aside k before (script what depth cause) h n = absurd h
put_aside k before (part kind index offset bytes) h n = absurd h
put_aside k before (done status) h n = absurd h

on_entries_each : (k x : ℕ) (entered : Bool) (before outs : List Out) (es : List GraphEvent) → StandOnEntries k x entered outs es → EachAside before outs
on_entries_each k x entered before _ _ (none_more _) = tt
on_entries_each k x entered before _ _ (happens_then _ e outs es h) = (λ h. absurd h, on_entries_each k x (is_entry_of x e) (before ++ graph (flat e) ∷ []) outs es h)
on_entries_each k x entered before _ _ (puts_then _ o outs es is own h) = (put_aside k before o own, on_entries_each k x true (before ++ o ∷ []) outs es h)

call_aside : {before : List Out} (k : ℕ) (ids : List ℕ) (x : ℕ) (added : List Out) (s t : GraphState) → {by : _} → IsCallOn k ids x by added s t → AreAsideAfter before added
call_aside {before = before} k ids x added s t c = record { each = on_entries_each k x false before added c.events c.stand }

-- records that say nothing of opens
apart_runs : (g : GraphSoFar) (o : Out) → IsApart o → (graph_by g o).running ≡ g.running
apart_runs g (step number) h = refl
apart_runs g (text bytes) h = refl
apart_runs g (result cause) h = refl
apart_runs g (script what depth cause) h = refl
apart_runs g (part kind index offset bytes) h = refl
apart_runs g (done status) h = refl
apart_runs g (graph happens) h = absurd h
apart_runs g (command depth line place expanded words) h = absurd h
apart_runs g (sent bytes) h = absurd h
apart_runs g (tried number count) h = absurd h
apart_runs g (advanced number place) h = absurd h
apart_runs g (opened number kind server port own target) h = absurd h
apart_runs g (ended number cause) h = absurd h

aparts_each : (before outs : List Out) → IsOutside before → AllByRecursion IsApart outs → EachAside before outs
aparts_each before [] still h = tt
aparts_each before (o ∷ outs) still h = (
  λ n. still,
  aparts_each (before ++ o ∷ []) outs (ap (λ (g : GraphSoFar). g.running) (so_far_append before (o ∷ [])) ∙ apart_runs (graph_so_far before) o h.0 ∙ still) h.1,
)

one_aside : {before : List Out} {o : Out} → IsOutside before → AreAsideAfter before (o ∷ [])
one_aside still = record { each = (λ n. still, tt) }

asides : (outs : List Out) (h : Holdings) (came : List Arrived) → Traced outs h came → AreAsideAfter [] outs
asides _ _ _ at_first = record { each = tt }
asides _ _ _ (apart outs added h came t aside) = both_aside (asides outs h came t) (record { each = aparts_each outs added (rests outs h came t) aside })
asides _ _ _ (replies outs n bytes h came t) =
    subst (AreAsideAfter []) (append_assoc outs (step n ∷ []) (sent bytes ∷ [])) (both_aside (asides (outs ++ (step n ∷ [])) h came t) (record { each = (λ none. absurd none, tt) }))
asides _ _ _ (commands outs depth line place expanded words h came t none) = both_aside (asides outs h came t) (one_aside (rests outs h came t))
asides _ _ _ (opens outs h came es s first o kind server port own target t w run waits on lone are some joined newest later) =
    let a = kept_makes outs h es s (kept outs h came t) w run in
    both_aside (asides outs h came t) (both_aside (events_aside es) (one_aside (a.sees.runs ∙ ap runners a.rests)))
asides _ _ _ (calls outs added h came before after o by s t living call none) =
    both_aside (asides outs h came t) (call_aside o.number (own_serials o) (lowest_of (own_serials o)) added h.state s call)
asides _ _ _ (ends outs added h came before after o by s cause t living call closed gone) =
    let d = called o.number (lowest_of (own_serials o)) (own_serials o) by outs added h.state s call in
    both_aside (asides outs h came t) (both_aside (call_aside o.number (own_serials o) (lowest_of (own_serials o)) added h.state s call)
    (one_aside ((d.sees (kept outs h came t).sees).runs ∙ ap runners d.rests)))
asides _ _ _ (ends_with_all outs added h came before after o s cause t living call closed gone) =
    let ids : List ℕ = own_serials o ++ serials h.waits in
    let d = called o.number (lowest_of (own_serials o)) ids _ outs added h.state s call in
    both_aside (asides outs h came t) (both_aside (call_aside o.number ids (lowest_of (own_serials o)) added h.state s call)
    (one_aside ((d.sees (kept outs h came t).sees).runs ∙ ap runners d.rests)))
asides _ _ _ (gives_up outs h came es s t run within inner gone rest) = both_aside (asides outs h came t) (events_aside es)

pub others_stand_outside : (outs : List Out) (h : Holdings) (came : List Arrived) → Traced outs h came → OthersStandOutside outs
others_stand_outside outs h came t before after o is = aside_at [] before after o (subst (EachAside []) is (asides outs h came t).each)
