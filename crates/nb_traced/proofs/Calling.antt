-- What a call on some objects adds to an output, by the records that it puts.
use Rattle.std.proofs.Common.{◌≡◌, ℕ, Bool, true, false, List, [], ◌∷◌, ◌++◌, fold, Option, None, refl, sym, ◌∙◌, ap, subst}
use Rattle.std.specs.List.{AllByRecursion}
use Rattle.nb_defs.specs.Records.{Out, step, opened, ended, graph}
use Rattle.nb_ledger.specs.Flat.{flat}
use Rattle.nb_ledger.specs.declared.event.Way.{Way}
use Rattle.nb_ledger.specs.declared.event.GraphEvent.{GraphEvent}
use Rattle.nb_ledger.specs.GraphRun.{GraphState, GraphRunOf}
use Rattle.nb_frames.specs.Frames.{is_one_of}
use Rattle.nb_frames.specs.Within.{IsEventWithin}
use Rattle.nb_traced.specs.Pieces.{IsCallOn, IsOfOpen, StandOnEntries, event_records, first_close_of, first_or, is_entry_of, none_more, happens_then, puts_then}
use Rattle.nb_traced.specs.LowestObjects.{GraphSoFar, graph_so_far, graph_by, graph_moves}
use Rattle.nb_traced.proofs.EventLemmas.{all_map, spells_events}
use Rattle.nb_traced.proofs.OnEntries.{each_on_entries}
use Rattle.nb_traced.proofs.StateLemmas.{run_leaves}
use Rattle.nb_traced.proofs.RecordLemmas.{IsAside, AreAside, close_aside, close_other, closes_other, events_no_command, goes_on_events, no_end_aside, put_aside, put_no_command}
use Rattle.nb_traced.proofs.Leading.{leads_by, call_leads}
use Rattle.nb_traced.proofs.Seeing.{Sees, so_far_append, IsNoOpening, IsNotOfGraph, sees_run, sees_step, sees_others}
use Rattle.nb_traced.specs.Openings.{IsCommand, IsNoEnd, IsNumberedBelow}
use Rattle.nb_traced.proofs.Keeping.{Called}

-- RECORDS ASIDE, AND OF EVENTS

pub unopened_aside : (k : ℕ) (o : Out) → IsAside o → IsNoOpening k o
unopened_aside k (opened number kind server port own target) h = absurd h
unopened_aside k (step number) h = tt
unopened_aside k _ h = tt

pub asides_unopened : (k : ℕ) (outs : List Out) → AreAside outs → AllByRecursion (IsNoOpening k) outs
asides_unopened k outs h = all_map IsAside (IsNoOpening k) outs (unopened_aside k) h

named_aside : (n : ℕ) (o : Out) → IsAside o → IsNumberedBelow n o
named_aside n (opened number kind server port own target) h = absurd h
named_aside n (ended number cause) h = absurd h
named_aside n (step number) h = tt
named_aside n _ h = tt

pub asides_named : (n : ℕ) (outs : List Out) → AreAside outs → AllByRecursion (IsNumberedBelow n) outs
asides_named n outs h = all_map IsAside (IsNumberedBelow n) outs (named_aside n) h

pub not_graph_aside : (o : Out) → IsAside o → IsNotOfGraph o
not_graph_aside (graph v) h = absurd h
not_graph_aside (step number) h = tt
not_graph_aside _ h = tt

pub asides_not_graph : (outs : List Out) → AreAside outs → AllByRecursion IsNotOfGraph outs
asides_not_graph outs h = all_map IsAside IsNotOfGraph outs not_graph_aside h

pub events_unopened : (k : ℕ) (es : List GraphEvent) → AllByRecursion (IsNoOpening k) (event_records es)
events_unopened k [] = tt
events_unopened k (e ∷ es) = (tt, events_unopened k es)

pub events_named : (n : ℕ) (es : List GraphEvent) → AllByRecursion (IsNumberedBelow n) (event_records es)
events_named n [] = tt
events_named n (e ∷ es) = (tt, events_named n es)

pub sees_then : (outs added : List Out) (t : GraphState) → Sees (fold graph_by (graph_so_far outs) added) t → Sees (graph_so_far (outs ++ added)) t
sees_then outs added t a = subst (λ g. Sees g t) (sym (so_far_append outs added)) a

pub sees_aside : (outs added : List Out) (s : GraphState) → AreAside added → Sees (graph_so_far outs) s → Sees (graph_so_far (outs ++ added)) s
sees_aside outs added s h a = sees_then outs added s (sees_others added (graph_so_far outs) s (asides_not_graph added h) a)

-- A CALL

closes_on_entries : (other : List ℕ) (own : ℕ → Bool) (k x : ℕ) (entered : Bool) (outs : List Out) (es : List GraphEvent) → StandOnEntries k x entered outs es → AllByRecursion (IsEventWithin own) es →
    ((y : ℕ) → own y ≡ true → is_one_of other y ≡ false) → first_close_of other outs ≡ None
closes_on_entries other own k x entered _ _ (none_more _) within apart = refl
closes_on_entries other own k x entered _ _ (happens_then _ e outs es h) within apart =
    ap (λ z. first_or z (first_close_of other outs)) (close_other other own e within.0 apart) ∙ closes_on_entries other own k x (is_entry_of x e) outs es h within.1 apart
closes_on_entries other own k x entered _ _ (puts_then _ o outs es is mine h) within apart =
    ap (λ z. first_or z (first_close_of other outs)) (close_aside other o (put_aside k o mine)) ∙ closes_on_entries other own k x true outs es h within apart

sees_on_entries : (k x : ℕ) (entered : Bool) (outs : List Out) (es : List GraphEvent) (g : GraphSoFar) (s t : GraphState) → StandOnEntries k x entered outs es → Sees g s → GraphRunOf s es t →
    Sees (fold graph_by g outs) t
sees_on_entries k x entered _ _ g s t (none_more _) a r = subst (Sees g) r a
sees_on_entries k x entered _ _ g s t (happens_then _ e outs es h) a (mid, first, r) =
    sees_on_entries k x (is_entry_of x e) outs es (graph_moves g (flat e)) mid t h (sees_step e g s mid a first) r
sees_on_entries k x entered _ _ g s t (puts_then _ o outs es is mine h) a r =
    sees_on_entries k x true outs es (graph_by g o) s t h (sees_others (o ∷ []) g s (not_graph_aside o (put_aside k o mine), tt) a) r

module _ (k x : ℕ) (ids : List ℕ) (by : Option Way) (outs added : List Out) (s t : GraphState) (c : IsCallOn k ids x by added s t) where
  call_each : (P : Out → Type 0) → ((e : GraphEvent) → P (graph (flat e))) → ((o : Out) → IsOfOpen k o → P o) → AllByRecursion P added
  call_each P event put = each_on_entries P k x event put false added c.events c.stand

  pub called : Called (is_one_of ids) outs added s t
  called = record {
    leads = call_leads k x ids by added s t c;
    others = run_leaves (is_one_of ids) c.events s t c.within c.run;
    closes = λ other apart. closes_on_entries other (is_one_of ids) k x false added c.events c.stand c.within apart;
    goes_on = λ j. call_each (IsNoEnd j) (λ e. tt) (λ o own. no_end_aside j o (put_aside k o own));
    no_command = call_each (λ o. IsCommand o → ⊥) (λ e d. d) (put_no_command k);
    no_opening = λ j. call_each (IsNoOpening j) (λ e. tt) (λ o own. unopened_aside j o (put_aside k o own));
    rests = c.rests;
    sees = λ a. sees_then outs added t (sees_on_entries k x false added c.events (graph_so_far outs) s t c.stand a c.run);
    named = λ n. call_each (IsNumberedBelow n) (λ e. tt) (λ o own. named_aside n o (put_aside k o own));
  }

-- what is given up
pub given_up : (own : ℕ → Bool) (outs : List Out) (es : List GraphEvent) (s t : GraphState) → GraphRunOf s es t → AllByRecursion (IsEventWithin own) es → t.stack ≡ [] → Called own outs (event_records es) s t
given_up own outs es s t run within rests = record {
  leads = leads_by s t es (event_records es) (spells_events es) run;
  others = run_leaves own es s t within run;
  closes = λ ids apart. closes_other ids own es within apart;
  goes_on = λ j. goes_on_events j es;
  no_command = events_no_command es;
  no_opening = λ j. events_unopened j es;
  rests = rests;
  sees = λ a. sees_then outs (event_records es) t (sees_run es (graph_so_far outs) s t a run);
  named = λ n. events_named n es;
}
