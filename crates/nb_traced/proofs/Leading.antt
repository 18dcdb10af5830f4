-- Where the records of an output lead the graph.
use Rattle.std.proofs.Common.{ℕ, false, List, [], ◌∷◌, ◌++◌, map, Option, refl, sym, ◌∙◌, ap, subst, append_assoc}
use Rattle.std.proofs.lemmas.List.{map-append}
use Rattle.nb_terms.specs.declared.cause.Cause.{Cause}
use Rattle.nb_defs.specs.Records.{Out, step, sent, command, opened, ended}
use Rattle.nb_ledger.specs.Flat.{flat}
use Rattle.nb_ledger.specs.declared.event.Way.{Way}
use Rattle.nb_ledger.specs.declared.event.GraphEvent.{GraphEvent}
use Rattle.nb_ledger.specs.GraphRun.{GraphState, GraphRunOf}
use Rattle.nb_ledger.proofs.RunLemmas.{Run-append}
use Rattle.nb_traced.specs.Holdings.{Holdings, no_state}
use Rattle.nb_traced.specs.Pieces.{IsCallOn, event_records}
use Rattle.nb_traced.specs.Outputs.{Arrived, Traced, at_first, apart, replies, commands, opens, calls, ends, ends_with_all, gives_up}
use Rattle.nb_traced.specs.Runs.{LeadsBy, HasLedTo, events_in}
use Rattle.nb_traced.proofs.EventLemmas.{Spells, spells_events, spells_apart, events_append}
use Rattle.nb_traced.proofs.OnEntries.{spells_on_entries}

pub leads_none : (s : GraphState) → LeadsBy s [] s
leads_none s = record { events = []; are = refl; run = refl }

pub leads_then : (s t u : GraphState) (xs ys : List Out) → LeadsBy s xs t → LeadsBy t ys u → LeadsBy s (xs ++ ys) u
leads_then s t u xs ys a b = record {
  events = a.events ++ b.events;
  are = map-append flat a.events b.events ∙ ap (λ z. z ++ map flat b.events) a.are ∙ ap (λ z. events_in xs ++ z) b.are ∙ sym (events_append xs ys);
  run = Run-append s t u a.events b.events a.run b.run;
}

pub leads_by : (s t : GraphState) (es : List GraphEvent) (outs : List Out) → Spells es outs → GraphRunOf s es t → LeadsBy s outs t
leads_by s t es outs spells run = record { events = es; are = spells.are; run = run }

pub call_leads : (k x : ℕ) (ids : List ℕ) (by : Option Way) (added : List Out) (s t : GraphState) → IsCallOn k ids x by added s t → LeadsBy s added t
call_leads k x ids by added s t c = leads_by s t c.events added (spells_on_entries k x false added c.events c.stand) c.run

pub ended_leads : (k : ℕ) (cause : Cause) (s : GraphState) → LeadsBy s (ended k cause ∷ []) s
ended_leads k cause s = record { events = []; are = refl; run = refl }

pub has_led : (outs : List Out) (h : Holdings) (came : List Arrived) → Traced outs h came → HasLedTo outs h.state
has_led _ _ _ at_first = leads_none no_state
has_led _ _ _ (apart outs added h came traced aside) = leads_then no_state h.state h.state outs added (has_led outs h came traced) (leads_by h.state h.state [] added (spells_apart added aside) refl)
has_led _ _ _ (replies outs n bytes h came traced) =
    subst (λ z. HasLedTo z h.state) (append_assoc outs (step n ∷ []) (sent bytes ∷ []))
    (leads_then no_state h.state h.state (outs ++ (step n ∷ [])) (sent bytes ∷ []) (has_led (outs ++ (step n ∷ [])) h came traced) (record { events = []; are = refl; run = refl }))
has_led _ _ _ (commands outs depth line place expanded words h came traced none) =
    leads_then no_state h.state h.state outs (command depth line place expanded words ∷ []) (has_led outs h came traced) (record { events = []; are = refl; run = refl })
has_led _ _ _ (opens outs h came es s first o kind server port own target traced making run waits on lone are some joined newest later) =
    leads_then no_state h.state s outs (event_records es ++ (opened o.number kind server port own target ∷ [])) (has_led outs h came traced)
    (leads_then h.state s s (event_records es) (opened o.number kind server port own target ∷ []) (leads_by h.state s es (event_records es) (spells_events es) run) (record { events = []; are = refl; run = refl }))
has_led _ _ _ (calls outs added h came before after o way s traced living call none) =
    leads_then no_state h.state s outs added (has_led outs h came traced) (call_leads _ _ _ _ added h.state s call)
has_led _ _ _ (ends outs added h came before after o way s cause traced living call closed gone) =
    leads_then no_state h.state s outs (added ++ (ended o.number cause ∷ [])) (has_led outs h came traced)
    (leads_then h.state s s added (ended o.number cause ∷ []) (call_leads _ _ _ _ added h.state s call) (ended_leads o.number cause s))
has_led _ _ _ (ends_with_all outs added h came before after o s cause traced living call closed gone) =
    leads_then no_state h.state s outs (added ++ (ended o.number cause ∷ [])) (has_led outs h came traced)
    (leads_then h.state s s added (ended o.number cause ∷ []) (call_leads _ _ _ _ added h.state s call) (ended_leads o.number cause s))
has_led _ _ _ (gives_up outs h came es s traced run within inner gone rests) =
    leads_then no_state h.state s outs (event_records es) (has_led outs h came traced) (leads_by h.state s es (event_records es) (spells_events es) run)
