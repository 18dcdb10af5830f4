-- What each object of a traced output is made for: the OPEN that comes next.
use Rattle.std.proofs.Common.{◌≡◌, ℕ, Bool, true, false, List, [], ◌∷◌, ◌++◌, Option, None, refl, sym, ◌∙◌, ap, subst, append_assoc, append-nil}
use Rattle.std.specs.List.{AllByRecursion}
use Rattle.nb_terms.specs.declared.event.Event.{Event as GraphRecord}
use Rattle.nb_defs.specs.Records.{Out, step, sent, text, command, result, script, opened, tried, advanced, ended, graph, part, done}
use Rattle.nb_ledger.specs.Flat.{flat}
use Rattle.nb_ledger.specs.declared.event.Way.{Way}
use Rattle.nb_ledger.specs.declared.event.GraphEvent.{GraphEvent}
use Rattle.nb_ledger.specs.declared.event.GraphEvent.TheVariants.{Made, Held, LetGo, Plugged, Entered, Left, Dropped, Closed, Unplugged, Freed}
use Rattle.nb_ledger.specs.GraphRun.{GraphState}
use Rattle.nb_frames.specs.Frames.{is_one_of}
use Rattle.nb_frames.specs.Within.{IsEventWithin}
use Rattle.nb_traced.specs.Holdings.{Holdings, GraphObject, lowest_of, serials}
use Rattle.nb_traced.specs.Openings.{made_record}
use Rattle.nb_traced.specs.Outputs.{Arrived, Traced, own_serials, at_first, apart, replies, commands, opens, calls, ends, ends_with_all, gives_up}
use Rattle.nb_traced.specs.Pieces.{IsApart, IsCallOn, IsMaking, IsOfOpen, StandOnEntries, event_records, is_entry_of, made_by, none_more, happens_then, pieces_made, puts_then}
use Rattle.nb_traced.proofs.EventLemmas.{all_map}
use Rattle.nb_traced.proofs.Leading.{has_led}
use Rattle.nb_traced.proofs.Rules.{kept, kept_makes, made_for, made_led}
use Rattle.nb_traced.proofs.Serials.{one_first, one_in_first, one_in_last, serials_append}
use Rattle.nb_traced.specs.Whose.{IsMadeFor, IsOfMaking, MadesAreTheirs, TakesAllMade}
use Rattle.nb_traced.proofs.WhoseEvents.{takes_so}

-- EACH RECORD, WITH WHAT STANDS AFTER IT

abbrev MadeSo : List Out → Out → List Out → Type 0
MadeSo before o after = (p : GraphObject) → o ≡ made_record p → IsMadeFor before p after

abbrev EachMade : List Out → List Out → List Out → Type 0
EachMade before [] later = Unit {0}
EachMade before (o ∷ outs) later = MadeSo before o (outs ++ later) × EachMade (before ++ o ∷ []) outs later

record AreMade (before outs later : List Out) : Type 0 where
  each : EachMade before outs later

made_more : (before : List Out) (p : GraphObject) (after more : List Out) → IsMadeFor before p after → IsMadeFor before p (after ++ more)
made_more before p after more m = record {
  making = m.making;
  are = m.are;
  number = m.number;
  kind = m.kind;
  server = m.server;
  port = m.port;
  own = m.own;
  target = m.target;
  later = m.later ++ more;
  all = ap (λ z. z ++ more) m.all ∙ append_assoc m.making (opened m.number m.kind m.server m.port m.own m.target ∷ m.later) more;
  takes = m.takes;
  is_its = m.is_its;
}

each_more : (before outs later more : List Out) → EachMade before outs later → EachMade before outs (later ++ more)
each_more before [] later more h = tt
each_more before (o ∷ outs) later more h = (
  λ p is. subst (IsMadeFor before p) (append_assoc outs later more) (made_more before p (outs ++ later) more (h.0 p is)),
  each_more (before ++ o ∷ []) outs later more h.1,
)

append_made : (before xs ys later : List Out) → EachMade before xs (ys ++ later) → EachMade (before ++ xs) ys later → EachMade before (xs ++ ys) later
append_made before [] ys later a b = subst (λ z. EachMade z ys later) (append-nil before) b
append_made before (x ∷ xs) ys later a b = (
  subst (MadeSo before x) (sym (append_assoc xs ys later)) a.0,
  append_made (before ++ x ∷ []) xs ys later a.1 (subst (λ z. EachMade z ys later) (sym (append_assoc before (x ∷ []) xs)) b),
)

-- one part after the other, of an output that ends there
both_made : (outs added : List Out) → AreMade [] outs [] → AreMade outs added [] → AreMade [] (outs ++ added) []
both_made outs added a b = record { each = append_made [] outs added [] (each_more [] outs [] (added ++ []) a.each) b.each }

made_at : (before xs ys later : List Out) (o : Out) → EachMade before (xs ++ (o ∷ ys)) later → MadeSo (before ++ xs) o (ys ++ later)
made_at before [] ys later o h = subst (λ z. MadeSo z o (ys ++ later)) (sym (append-nil before)) h.0
made_at before (x ∷ xs) ys later o h = subst (λ z. MadeSo z o (ys ++ later)) (append_assoc before (x ∷ []) xs) (made_at (before ++ x ∷ []) xs ys later o h.1)

-- RECORDS THAT MAKE NOTHING

-- a record that isn't one of the graph's
abbrev IsNoEvent : Out → Type 0
IsNoEvent (graph happens) = ⊥
IsNoEvent (step number) = Unit {0}
IsNoEvent _ = Unit {0}

other_makes_none : (before : List Out) (o : Out) (after : List Out) → IsNoEvent o → MadeSo before o after
other_makes_none before (graph happens) after h = absurd h
other_makes_none before (step number) after h = λ p is. absurd (let no : step number ≡ made_record p = is in cc)
other_makes_none before (sent bytes) after h = λ p is. absurd (let no : sent bytes ≡ made_record p = is in cc)
other_makes_none before (text bytes) after h = λ p is. absurd (let no : text bytes ≡ made_record p = is in cc)
other_makes_none before (command depth line place expanded words) after h = λ p is. absurd (let no : command depth line place expanded words ≡ made_record p = is in cc)
other_makes_none before (result cause) after h = λ p is. absurd (let no : result cause ≡ made_record p = is in cc)
other_makes_none before (script what depth cause) after h = λ p is. absurd (let no : script what depth cause ≡ made_record p = is in cc)
other_makes_none before (opened number kind server port own target) after h = λ p is. absurd (let no : opened number kind server port own target ≡ made_record p = is in cc)
other_makes_none before (tried number count) after h = λ p is. absurd (let no : tried number count ≡ made_record p = is in cc)
other_makes_none before (advanced number place) after h = λ p is. absurd (let no : advanced number place ≡ made_record p = is in cc)
other_makes_none before (ended number cause) after h = λ p is. absurd (let no : ended number cause ≡ made_record p = is in cc)
other_makes_none before (part kind index offset bytes) after h = λ p is. absurd (let no : part kind index offset bytes ≡ made_record p = is in cc)
other_makes_none before (done status) after h = λ p is. absurd (let no : done status ≡ made_record p = is in cc)

others_make_none : (before outs later : List Out) → AllByRecursion IsNoEvent outs → EachMade before outs later
others_make_none before [] later h = tt
others_make_none before (o ∷ outs) later h = (other_makes_none before o (outs ++ later) h.0, others_make_none (before ++ o ∷ []) outs later h.1)

apart_no_event : (o : Out) → IsApart o → IsNoEvent o
apart_no_event (graph happens) h = absurd h
apart_no_event (step number) h = tt
apart_no_event _ h = tt

put_no_event : (k : ℕ) (o : Out) → IsOfOpen k o → IsNoEvent o
put_no_event k (graph happens) h = absurd h
put_no_event k (step number) h = tt
put_no_event k _ h = tt

same_event : (a b : GraphRecord) → graph a ≡ graph b → a ≡ b
same_event a b e = cc

-- an event that isn't numbered 1 makes none
makes_none : (before : List Out) (n : ℕ) (v : GraphRecord) (after : List Out) → v.event ≡ n → (n ≡ 1 → ⊥) → MadeSo before (graph v) after
makes_none before n v after is other = λ p same. absurd (other (sym is ∙ ap (λ (z : GraphRecord). z.event) (same_event v _ same)))

event_makes_none : (own : ℕ → Bool) (before : List Out) (e : GraphEvent) (after : List Out) → IsEventWithin own e → MadeSo before (graph (flat e)) after
event_makes_none own before (Made x kind) after w = absurd w
event_makes_none own before (Held x) after w = makes_none before 2 (flat (Held x)) after refl (λ e. let no : ◌≡◌ {A = ℕ} 2 1 = e in cc)
event_makes_none own before (LetGo x) after w = makes_none before 3 (flat (LetGo x)) after refl (λ e. let no : ◌≡◌ {A = ℕ} 3 1 = e in cc)
event_makes_none own before (Plugged p q) after w = makes_none before 4 (flat (Plugged p q)) after refl (λ e. let no : ◌≡◌ {A = ℕ} 4 1 = e in cc)
event_makes_none own before (Entered p way) after w = makes_none before 5 (flat (Entered p way)) after refl (λ e. let no : ◌≡◌ {A = ℕ} 5 1 = e in cc)
event_makes_none own before (Left p) after w = makes_none before 6 (flat (Left p)) after refl (λ e. let no : ◌≡◌ {A = ℕ} 6 1 = e in cc)
event_makes_none own before (Dropped p) after w = makes_none before 7 (flat (Dropped p)) after refl (λ e. let no : ◌≡◌ {A = ℕ} 7 1 = e in cc)
event_makes_none own before (Closed p cause) after w = makes_none before 8 (flat (Closed p cause)) after refl (λ e. let no : ◌≡◌ {A = ℕ} 8 1 = e in cc)
event_makes_none own before (Unplugged p q) after w = makes_none before 9 (flat (Unplugged p q)) after refl (λ e. let no : ◌≡◌ {A = ℕ} 9 1 = e in cc)
event_makes_none own before (Freed x) after w = makes_none before 10 (flat (Freed x)) after refl (λ e. let no : ◌≡◌ {A = ℕ} 10 1 = e in cc)

entries_make_none : (k x : ℕ) (own : ℕ → Bool) (entered : Bool) (before outs later : List Out) (es : List GraphEvent) → StandOnEntries k x entered outs es → AllByRecursion (IsEventWithin own) es → EachMade before outs later
entries_make_none k x own entered before _ later _ (none_more _) within = tt
entries_make_none k x own entered before _ later _ (happens_then _ e outs es h) within = (
  event_makes_none own before e (outs ++ later) within.0,
  entries_make_none k x own (is_entry_of x e) (before ++ graph (flat e) ∷ []) outs later es h within.1,
)
entries_make_none k x own entered before _ later _ (puts_then _ o outs es is mine h) within = (
  other_makes_none before o (outs ++ later) (put_no_event k o mine),
  entries_make_none k x own true (before ++ o ∷ []) outs later es h within,
)

call_makes_none : (outs : List Out) (k x : ℕ) (ids : List ℕ) (by : Option Way) (added : List Out) (s t : GraphState) → IsCallOn k ids x by added s t → EachMade outs added []
call_makes_none outs k x ids by added s t c = entries_make_none k x (is_one_of ids) false outs added [] c.events c.stand c.within

given_makes_none : (own : ℕ → Bool) (before : List Out) (es : List GraphEvent) → AllByRecursion (IsEventWithin own) es → EachMade before (event_records es) []
given_makes_none own before [] w = tt
given_makes_none own before (e ∷ es) w = (event_makes_none own before e (event_records es ++ []) w.0, given_makes_none own (before ++ graph (flat e) ∷ []) es w.1)

ending_makes_none : (outs added : List Out) (k : ℕ) (cause : _) → EachMade outs added [] → AreMade outs (added ++ (ended k cause ∷ [])) []
ending_makes_none outs added k cause h = record { each = append_made outs added (ended k cause ∷ []) [] (each_more outs added [] (ended k cause ∷ []) h) (others_make_none (outs ++ added) (ended k cause ∷ []) [] (tt, tt)) }

-- WHAT IS MADE

events_of_making : (es : List GraphEvent) → AllByRecursion IsMaking es → AllByRecursion IsOfMaking (event_records es)
events_of_making [] w = tt
events_of_making (Made x kind ∷ es) w = (refl, events_of_making es w.1)
events_of_making (Held x ∷ es) w = (refl, events_of_making es w.1)
events_of_making (Plugged p q ∷ es) w = (refl, events_of_making es w.1)
events_of_making (LetGo x ∷ es) w = absurd w.0
events_of_making (Entered p way ∷ es) w = absurd w.0
events_of_making (Left p ∷ es) w = absurd w.0
events_of_making (Dropped p ∷ es) w = absurd w.0
events_of_making (Closed p cause ∷ es) w = absurd w.0
events_of_making (Unplugged p q ∷ es) w = absurd w.0
events_of_making (Freed x ∷ es) w = absurd w.0

module _ (front : List Out) (number kind server port own : ℕ) (target : List ℕ) (takes : TakesAllMade front kind) where
  abbrev opening : List Out
  opening = opened number kind server port own target ∷ []

  -- it is one of the objects that this OPEN takes
  abbrev IsIts : ℕ → Type 0
  IsIts x = is_one_of (serials (takes.waits ++ takes.pieces)) x ≡ true

  made_for_it : (before : List Out) (p : GraphObject) (es : List GraphEvent) → AllByRecursion IsMaking es → front ≡ before ++ (made_record p ∷ event_records es) → IsIts p.serial → IsMadeFor before p (event_records es ++ (opening ++ []))
  made_for_it before p es w at its =
      let pair = subst (λ z. (t : TakesAllMade z kind) × (is_one_of (serials (t.waits ++ t.pieces)) p.serial ≡ true)) at (takes, its) in
      record {
        making = event_records es;
        are = events_of_making es w;
        number = number;
        kind = kind;
        server = server;
        port = port;
        own = own;
        target = target;
        later = [];
        all = refl;
        takes = pair.0;
        is_its = pair.1;
      }

  making_made : (before : List Out) (e : GraphEvent) (es : List GraphEvent) → IsMaking e → AllByRecursion IsMaking es → before ++ (graph (flat e) ∷ event_records es) ≡ front →
      ((x : ℕ) → is_one_of (serials (made_by e)) x ≡ true → IsIts x) → MadeSo before (graph (flat e)) (event_records es ++ (opening ++ []))
  making_made before (Made x kind) es m w at its = λ p same.
      let serial : x.0 ≡ p.serial = ap (λ (z : GraphRecord). z.object) (same_event (flat (Made x kind)) _ same) in
      made_for_it before p es w (sym at ∙ ap (λ z. before ++ (z ∷ event_records es)) same) (subst IsIts serial (its x.0 (one_first x.0 [])))
  making_made before (Held x) es m w at its = makes_none before 2 (flat (Held x)) (event_records es ++ (opening ++ [])) refl (λ e. let no : ◌≡◌ {A = ℕ} 2 1 = e in cc)
  making_made before (Plugged p q) es m w at its = makes_none before 4 (flat (Plugged p q)) (event_records es ++ (opening ++ [])) refl (λ e. let no : ◌≡◌ {A = ℕ} 4 1 = e in cc)
  making_made before (LetGo x) es m w at its = absurd m
  making_made before (Entered p way) es m w at its = absurd m
  making_made before (Left p) es m w at its = absurd m
  making_made before (Dropped p) es m w at its = absurd m
  making_made before (Closed p cause) es m w at its = absurd m
  making_made before (Unplugged p q) es m w at its = absurd m
  making_made before (Freed x) es m w at its = absurd m

  makings_made : (before : List Out) (es : List GraphEvent) → AllByRecursion IsMaking es → before ++ event_records es ≡ front → ((x : ℕ) → is_one_of (serials (pieces_made es)) x ≡ true → IsIts x) →
      EachMade before (event_records es) (opening ++ [])
  makings_made before [] w at its = tt
  makings_made before (e ∷ es) w at its = (
    making_made before e es w.0 w.1 at (λ x h. its x (ap (λ z. is_one_of z x) (serials_append (made_by e) (pieces_made es)) ∙ one_in_first (serials (made_by e)) (serials (pieces_made es)) x h)),
    makings_made (before ++ graph (flat e) ∷ []) es w.1 (append_assoc before (graph (flat e) ∷ []) (event_records es) ∙ at)
        (λ x h. its x (ap (λ z. is_one_of z x) (serials_append (made_by e) (pieces_made es)) ∙ one_in_last (serials (made_by e)) (serials (pieces_made es)) x h)),
  )

  opening_made : (before : List Out) (es : List GraphEvent) → AllByRecursion IsMaking es → before ++ event_records es ≡ front → ((x : ℕ) → is_one_of (serials (pieces_made es)) x ≡ true → IsIts x) →
      AreMade before (event_records es ++ opening) []
  opening_made before es w at its = record { each = append_made before (event_records es) opening [] (makings_made before es w at its) (others_make_none (before ++ event_records es) opening [] (tt, tt)) }

-- ALL OF THEM

made_all : (outs : List Out) (h : Holdings) (came : List Arrived) → Traced outs h came → AreMade [] outs []
made_all _ _ _ at_first = record { each = tt }
made_all _ _ _ (apart outs added h came t aside) = both_made outs added (made_all outs h came t) (record { each = others_make_none outs added [] (all_map IsApart IsNoEvent added apart_no_event aside) })
made_all _ _ _ (replies outs n bytes h came t) =
    subst (λ z. AreMade [] z []) (append_assoc outs (step n ∷ []) (sent bytes ∷ []))
    (both_made (outs ++ (step n ∷ [])) (sent bytes ∷ []) (made_all (outs ++ (step n ∷ [])) h came t) (record { each = others_make_none (outs ++ (step n ∷ [])) (sent bytes ∷ []) [] (tt, tt) }))
made_all _ _ _ (commands outs depth line place expanded words h came t none) =
    both_made outs (command depth line place expanded words ∷ []) (made_all outs h came t) (record { each = others_make_none outs (command depth line place expanded words ∷ []) [] (tt, tt) })
made_all _ _ _ (opens outs h came es s first o kind server port own target t w run waits on lone are some joined newest later) =
    let front : List Out = outs ++ event_records es in
    let a = kept_makes outs h es s (kept outs h came t) w run in
    let led = made_led outs h es s (has_led outs h came t) run in
    both_made outs (event_records es ++ (opened o.number kind server port own target ∷ [])) (made_all outs h came t)
    (opening_made front o.number kind server port own target (takes_so front (made_for h es s) first o kind server port own target a led waits on are some joined newest later) outs es w refl
    (λ x e. ap (λ z. is_one_of (serials z) x) (sym waits) ∙ ap (λ z. is_one_of z x) (serials_append h.waits (pieces_made es)) ∙ one_in_last (serials h.waits) (serials (pieces_made es)) x e))
made_all _ _ _ (calls outs added h came before after o by s t living call none) =
    both_made outs added (made_all outs h came t) (record { each = call_makes_none outs o.number (lowest_of (own_serials o)) (own_serials o) by added h.state s call })
made_all _ _ _ (ends outs added h came before after o by s cause t living call closed gone) =
    both_made outs (added ++ (ended o.number cause ∷ [])) (made_all outs h came t)
    (ending_makes_none outs added o.number cause (call_makes_none outs o.number (lowest_of (own_serials o)) (own_serials o) by added h.state s call))
made_all _ _ _ (ends_with_all outs added h came before after o s cause t living call closed gone) =
    both_made outs (added ++ (ended o.number cause ∷ [])) (made_all outs h came t)
    (ending_makes_none outs added o.number cause (call_makes_none outs o.number (lowest_of (own_serials o)) (own_serials o ++ serials h.waits) None added h.state s call))
made_all _ _ _ (gives_up outs h came es s t run within inner gone rests) =
    both_made outs (event_records es) (made_all outs h came t) (record { each = given_makes_none (is_one_of (serials h.waits)) outs es within })

pub mades_are_theirs : (outs : List Out) (h : Holdings) (came : List Arrived) → Traced outs h came → MadesAreTheirs outs
mades_are_theirs outs h came t before after p is =
    subst (IsMadeFor before p) (append-nil after) (made_at [] before after [] (made_record p) (subst (λ z. EachMade [] z []) is (made_all outs h came t).each) p refl)
