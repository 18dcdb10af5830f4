-- The entries of an open's lowest object from outside are what came to the open.
use Rattle.std.proofs.Common.{◌≡◌, ◌⊎◌, inl, inr, ℕ, ◌==◌, ◌&&◌, Bool, true, false, cond, List, [], ◌∷◌, ◌++◌, fold, Option, Some, None, refl, sym, ◌∙◌, ap, subst, append_assoc, append-nil, if◌then◌else◌}
use Rattle.std.specs.List.{AllByRecursion}
use Rattle.std.proofs.lemmas.Bool.{and_right, cases_eq, eq-eqb, ne_eqb, false≢true}
use Rattle.nb_defs.specs.Records.{Out, step, sent, command, opened, ended, graph}
use Rattle.nb_ledger.specs.Flat.{flat, way_number}
use Rattle.nb_ledger.specs.declared.port.Port.{Port}
use Rattle.nb_ledger.specs.declared.event.Way.{Way}
use Rattle.nb_ledger.specs.declared.event.Way.TheVariants as way
use Rattle.nb_ledger.specs.declared.event.GraphEvent.{GraphEvent}
use Rattle.nb_ledger.specs.declared.event.GraphEvent.TheVariants.{Made, Held, LetGo, Plugged, Entered, Left, Dropped, Closed, Unplugged, Freed}
use Rattle.nb_ledger.specs.GraphRun.{GraphState}
use Rattle.nb_frames.specs.Frames.{is_one_of}
use Rattle.nb_frames.specs.Within.{IsEventWithin}
use Rattle.nb_traced.specs.Holdings.{Holdings, lowest_of, serials}
use Rattle.nb_traced.specs.Pieces.{AreInner, BeginsBy, EntersFirst, IsCallOn, IsInnerEvent, IsMaking, IsOutsideWay, StandOnEntries, event_records, is_entry_of, none_more, happens_then, puts_then}
use Rattle.nb_traced.specs.Outputs.{Arrived, Traced, arrived_by_way, last_step, own_serials, at_first, apart, replies, commands, opens, calls, ends, ends_with_all, gives_up}
use Rattle.nb_traced.specs.LowestObjects.{GraphSoFar, graph_so_far, graph_by, graph_moves, is_it, no_graph}
use Rattle.nb_traced.specs.Entries.{EntryArrival, came_to, entries, entries_from, entry_at, entry_in}
use Rattle.nb_traced.proofs.EventLemmas.{all_each, all_map}
use Rattle.nb_traced.proofs.OnEntries.{BeginsWith, begins_with}
use Rattle.nb_traced.proofs.Serials.{not_one, one_in_either}
use Rattle.nb_traced.proofs.RecordLemmas.{aparts_aside, put_aside}
use Rattle.nb_traced.proofs.Seeing.{IsNotOfGraph, lowest_stays, number_is}
use Rattle.nb_traced.proofs.Calling.{asides_not_graph, not_graph_aside, unopened_aside}
use Rattle.nb_traced.proofs.Rules.{beside, kept, none_some, some_same, waiting_free}

pub entries_append : (k : ℕ) (g : GraphSoFar) (xs ys : List Out) → entries_from k g (xs ++ ys) ≡ entries_from k g xs ++ entries_from k (fold graph_by g xs) ys
unfolding entries_from
entries_append k g [] ys = refl
entries_append k g (x ∷ xs) ys =
    ap (λ z. entry_at k g x ++ z) (entries_append k (graph_by g x) xs ys) ∙ sym (append_assoc (entry_at k g x) (entries_from k (graph_by g x) xs) (entries_from k (fold graph_by (graph_by g x) xs) ys))

entries_then : (k : ℕ) (xs ys : List Out) → entries k (xs ++ ys) ≡ entries k xs ++ entries_from k (graph_so_far xs) ys
unfolding graph_so_far
entries_then k xs ys = entries_append k no_graph xs ys

entry_other : (k : ℕ) (g : GraphSoFar) (o : Out) → IsNotOfGraph o → entry_at k g o ≡ []
entry_other k g (graph h) plainly = absurd plainly
entry_other k g (step n) _ = refl
entry_other k g _ _ = refl

others_none : (k : ℕ) (g : GraphSoFar) (outs : List Out) → AllByRecursion IsNotOfGraph outs → entries_from k g outs ≡ []
unfolding entries_from
others_none k g [] none = refl
others_none k g (o ∷ outs) none = ap (λ z. z ++ entries_from k (graph_by g o) outs) (entry_other k g o none.0) ∙ others_none k (graph_by g o) outs none.1

-- the event isn't an entry of that object from outside, if there is one
abbrev IsInnerOf : Option ℕ → GraphEvent → Type 0
IsInnerOf None e = Unit {0}
IsInnerOf (Some y) e = IsInnerEvent y e

not_entered_up : (l : Option ℕ) (p : Port) → IsInnerOf l (Entered p way.Up) → is_it l p.obj.0 ≡ false
not_entered_up None p h = refl
not_entered_up (Some y) p h = ne_eqb y p.obj.0 (λ e. h (sym e))

not_entered_time : (l : Option ℕ) (p : Port) → IsInnerOf l (Entered p way.Time) → is_it l p.obj.0 ≡ false
not_entered_time None p h = refl
not_entered_time (Some y) p h = ne_eqb y p.obj.0 (λ e. h (sym e))

inner_none : (k : ℕ) (g : GraphSoFar) (e : GraphEvent) → IsInnerOf (g.lowest k) e → entry_in k g (flat e) ≡ []
inner_none k g (Made x kind) h = refl
inner_none k g (Held x) h = refl
inner_none k g (LetGo x) h = refl
inner_none k g (Plugged p q) h = refl
inner_none k g (Entered p way.Up) h = ap (λ b. cond (b && true) (record { number = g.number; way = 0 } ∷ []) []) (not_entered_up (g.lowest k) p h)
inner_none k g (Entered p way.Time) h = ap (λ b. cond (b && true) (record { number = g.number; way = 3 } ∷ []) []) (not_entered_time (g.lowest k) p h)
inner_none k g (Entered p way.Down) h = ap (λ b. cond b (record { number = g.number; way = 1 } ∷ []) []) (and_right (is_it (g.lowest k) p.obj.0) false refl)
inner_none k g (Entered p way.Close) h = ap (λ b. cond b (record { number = g.number; way = 2 } ∷ []) []) (and_right (is_it (g.lowest k) p.obj.0) false refl)
inner_none k g (Left p) h = refl
inner_none k g (Dropped p) h = refl
inner_none k g (Closed p cause) h = refl
inner_none k g (Unplugged p q) h = refl
inner_none k g (Freed x) h = refl

inners_none : (k : ℕ) (l : Option ℕ) (g : GraphSoFar) (es : List GraphEvent) → g.lowest k ≡ l → AllByRecursion (IsInnerOf l) es → entries_from k g (event_records es) ≡ []
unfolding entries_from
inners_none k l g [] is h = refl
inners_none k l g (e ∷ es) is h =
    ap (λ z. z ++ entries_from k (graph_moves g (flat e)) (event_records es)) (inner_none k g e (subst (λ z. IsInnerOf z e) (sym is) h.0))
    ∙ inners_none k l (graph_moves g (flat e)) es (lowest_stays k g (graph (flat e) ∷ []) (tt, tt) ∙ is) h.1

-- an entry from outside is one
entered_once : (k x : ℕ) (g : GraphSoFar) (p : Port) (by : Way) → g.lowest k ≡ Some x → p.obj.0 ≡ x → IsOutsideWay by → entries_from k g (graph (flat (Entered p by)) ∷ []) ≡ record { number = g.number; way = way_number by } ∷ []
unfolding entries_from
entered_once k x g p way.Up is object out = ap (λ o. cond (is_it o p.obj.0 && true) (record { number = g.number; way = 0 } ∷ []) [] ++ []) is ∙ ap (λ b. cond (b && true) (record { number = g.number; way = 0 } ∷ []) [] ++ []) (eq-eqb x p.obj.0 (sym object))
entered_once k x g p way.Time is object out = ap (λ o. cond (is_it o p.obj.0 && true) (record { number = g.number; way = 3 } ∷ []) [] ++ []) is ∙ ap (λ b. cond (b && true) (record { number = g.number; way = 3 } ∷ []) [] ++ []) (eq-eqb x p.obj.0 (sym object))
entered_once k x g p way.Down is object out = absurd out
entered_once k x g p way.Close is object out = absurd out

within_inner : (own : ℕ → Bool) (y : ℕ) (e : GraphEvent) → own y ≡ false → IsEventWithin own e → IsInnerEvent y e
within_inner own y (Made x kind) n w = tt
within_inner own y (Held x) n w = tt
within_inner own y (LetGo x) n w = tt
within_inner own y (Plugged p q) n w = tt
within_inner own y (Entered p way.Up) n w = λ e. false≢true (sym n ∙ ap own (sym e) ∙ w)
within_inner own y (Entered p way.Time) n w = λ e. false≢true (sym n ∙ ap own (sym e) ∙ w)
within_inner own y (Entered p way.Down) n w = tt
within_inner own y (Entered p way.Close) n w = tt
within_inner own y (Left p) n w = tt
within_inner own y (Dropped p) n w = tt
within_inner own y (Closed p cause) n w = tt
within_inner own y (Unplugged p q) n w = tt
within_inner own y (Freed x) n w = tt

making_inner : (l : Option ℕ) (e : GraphEvent) → IsMaking e → IsInnerOf l e
making_inner None e h = tt
making_inner (Some y) (Made x kind) h = tt
making_inner (Some y) (Held x) h = tt
making_inner (Some y) (Plugged p q) h = tt
making_inner (Some y) (LetGo x) h = tt
making_inner (Some y) (Entered p b) h = absurd h
making_inner (Some y) (Left p) h = tt
making_inner (Some y) (Dropped p) h = tt
making_inner (Some y) (Closed p cause) h = tt
making_inner (Some y) (Unplugged p q) h = tt
making_inner (Some y) (Freed x) h = tt

inner_all : (l : Option ℕ) (es : List GraphEvent) → ((x : ℕ) → AreInner x es) → AllByRecursion (IsInnerOf l) es
inner_all None es h = all_each (IsInnerOf None) es (λ e. tt)
inner_all (Some y) es h = h y

-- WHAT CAME

came_append : (k : ℕ) (xs ys : List Arrived) → came_to k (xs ++ ys) ≡ came_to k xs ++ came_to k ys
came_append k [] ys = refl
came_append k (a ∷ xs) ys =
    let this : List EntryArrival = if a.whose == k then record { number = a.number; way = way_number a.way } ∷ [] else [] in
    ap (λ z. this ++ z) (came_append k xs ys) ∙ sym (append_assoc this (came_to k xs) (came_to k ys))

came_other : (k n : ℕ) (outs : List Out) (by : Option Way) → (n ≡ k → ⊥) → came_to k (arrived_by_way outs n by) ≡ []
came_other k n outs None other = refl
came_other k n outs (Some w) other = ap (λ b. cond b (record { number = last_step outs; way = way_number w } ∷ []) [] ++ []) (ne_eqb n k other)

came_this : (k n : ℕ) (outs : List Out) (w : Way) → n ≡ k → came_to k (arrived_by_way outs n (Some w)) ≡ record { number = last_step outs; way = way_number w } ∷ []
came_this k n outs w same = ap (λ b. cond b (record { number = last_step outs; way = way_number w } ∷ []) [] ++ []) (eq-eqb n k same)

-- A CALL

-- no event of these is an entry of that object from outside
inners_on_entries : (k n x : ℕ) (l : Option ℕ) (g : GraphSoFar) (entered : Bool) (outs : List Out) (es : List GraphEvent) → g.lowest k ≡ l → StandOnEntries n x entered outs es → AllByRecursion (IsInnerOf l) es →
    entries_from k g outs ≡ []
unfolding entries_from
inners_on_entries k n x l g entered _ _ is (none_more _) h = refl
inners_on_entries k n x l g entered _ _ is (happens_then _ e outs es stand) h =
    ap (λ z. z ++ entries_from k (graph_moves g (flat e)) outs) (inner_none k g e (subst (λ z. IsInnerOf z e) (sym is) h.0))
    ∙ inners_on_entries k n x l (graph_moves g (flat e)) (is_entry_of x e) outs es (lowest_stays k g (graph (flat e) ∷ []) (tt, tt) ∙ is) stand h.1
inners_on_entries k n x l g entered _ _ is (puts_then _ o outs es true_is own stand) h =
    ap (λ z. z ++ entries_from k (graph_by g o) outs) (entry_other k g o (not_graph_aside o (put_aside n o own)))
    ∙ inners_on_entries k n x l (graph_by g o) true outs es (lowest_stays k g (o ∷ []) (unopened_aside k o (put_aside n o own), tt) ∙ is) stand h

module _ (k n x : ℕ) (ids : List ℕ) (by : Option Way) (outs added : List Out) (s t : GraphState) (c : IsCallOn n ids x by added s t) where
  abbrev the_graph : GraphSoFar
  the_graph = graph_so_far outs

  -- another open's
  others_enter : (l : Option ℕ) → the_graph.lowest k ≡ l → AllByRecursion (IsInnerOf l) c.events → entries_from k the_graph added ≡ []
  others_enter l is h = inners_on_entries k n x l the_graph false added c.events is c.stand h

  -- its own
  own_first : (w : Way) → EntersFirst x w c.events → the_graph.lowest k ≡ Some x → n ≡ k → entries_from k the_graph added ≡ came_to k (arrived_by_way outs n (Some w))
  own_first w f is same =
      let b : BeginsWith n x (Entered f.port w) f.rest added = begins_with n x added c.events (Entered f.port w) f.rest c.stand f.first in
      let this : Out = graph (flat (Entered f.port w)) in
      ap (entries_from k the_graph) b.first ∙ entries_append k the_graph (this ∷ []) b.behind
      ∙ ap (λ z. entries_from k the_graph (this ∷ []) ++ z) (inners_on_entries k n x (Some x) (fold graph_by the_graph (this ∷ [])) (is_entry_of x (Entered f.port w)) b.behind f.rest
      (lowest_stays k the_graph (this ∷ []) (tt, tt) ∙ is) b.stand f.inner)
      ∙ append-nil (entries_from k the_graph (this ∷ [])) ∙ entered_once k x the_graph f.port w is f.object f.outside
      ∙ ap (λ m. record { number = m; way = way_number w } ∷ []) (number_is outs) ∙ sym (came_this k n outs w same)

  own_by : (w : Option Way) → BeginsBy x w c.events → the_graph.lowest k ≡ Some x → n ≡ k → entries_from k the_graph added ≡ came_to k (arrived_by_way outs n w)
  own_by None begins is same = others_enter (Some x) is begins
  own_by (Some w) begins is same = own_first w begins is same

  own_enters : the_graph.lowest k ≡ Some x → n ≡ k → entries_from k the_graph added ≡ came_to k (arrived_by_way outs n by)
  own_enters is same = own_by by c.begins is same

  -- its events are none of another open's lowest object
  inner_of : (owner : ℕ → Option ℕ) (l : Option ℕ) → the_graph.lowest k ≡ l → ((j y : ℕ) → the_graph.lowest j ≡ Some y → owner y ≡ Some j) → ((y : ℕ) → is_one_of ids y ≡ true → (owner y ≡ Some n) ⊎ (owner y ≡ None)) →
      (n ≡ k → ⊥) → AllByRecursion (IsInnerOf l) c.events
  inner_of owner None is lowests whose other = all_each (IsInnerOf None) c.events (λ e. tt)
  inner_of owner (Some y) is lowests whose other =
      let theirs : owner y ≡ Some k = lowests k y is in
      let not_own : is_one_of ids y ≡ false = not_one ids y (λ e. elim (whose y e) [ inl f ↦ other (some_same n k (sym f ∙ theirs)) | inr f ↦ none_some (owner y) k f theirs ]) in
      all_map (IsEventWithin (is_one_of ids)) (IsInnerEvent y) c.events (λ e w. within_inner (is_one_of ids) y e not_own w) c.within

  call_enters : (owner : ℕ → Option ℕ) → ((j y : ℕ) → the_graph.lowest j ≡ Some y → owner y ≡ Some j) → the_graph.lowest n ≡ Some x → ((y : ℕ) → is_one_of ids y ≡ true → (owner y ≡ Some n) ⊎ (owner y ≡ None)) →
      entries_from k the_graph added ≡ came_to k (arrived_by_way outs n by)
  call_enters owner lowests is whose = elim (cases_eq n k) [
    | inl same ↦ own_enters (ap (λ j. the_graph.lowest j) (sym same) ∙ is) same
    | inr other ↦ others_enter (the_graph.lowest k) refl (inner_of owner (the_graph.lowest k) refl lowests whose other) ∙ sym (came_other k n outs by other)
  ]

-- ALL OF THEM

more_entered : (k : ℕ) (outs added : List Out) (came new : List Arrived) → entries k outs ≡ came_to k came → entries_from k (graph_so_far outs) added ≡ came_to k new → entries k (outs ++ added) ≡ came_to k (came ++ new)
more_entered k outs added came new a b = entries_then k outs added ∙ ap (λ z. z ++ entries_from k (graph_so_far outs) added) a ∙ ap (λ z. came_to k came ++ z) b ∙ sym (came_append k came new)

none_entered : (k : ℕ) (outs added : List Out) (came : List Arrived) → entries k outs ≡ came_to k came → entries_from k (graph_so_far outs) added ≡ [] → entries k (outs ++ added) ≡ came_to k came
none_entered k outs added came a b = entries_then k outs added ∙ ap (λ z. z ++ entries_from k (graph_so_far outs) added) a ∙ ap (λ z. came_to k came ++ z) b ∙ append-nil (came_to k came)

before_end : (k : ℕ) (g : GraphSoFar) (added last : List Out) (came : List EntryArrival) → entries_from k g added ≡ came → AllByRecursion IsNotOfGraph last → entries_from k g (added ++ last) ≡ came
before_end k g added last came is none = entries_append k g added last ∙ ap (λ z. entries_from k g added ++ z) (others_none k (fold graph_by g added) last none) ∙ append-nil (entries_from k g added) ∙ is

first_entries : (k : ℕ) → entries k [] ≡ []
unfolding entries_from
first_entries k = refl

pub entered : (outs : List Out) (h : Holdings) (came : List Arrived) → Traced outs h came → (k : ℕ) → entries k outs ≡ came_to k came
entered _ _ _ at_first k = first_entries k
entered _ _ _ (apart outs added h came t aside) k = none_entered k outs added came (entered outs h came t k) (others_none k (graph_so_far outs) added (asides_not_graph added (aparts_aside added aside)))
entered _ _ _ (replies outs n bytes h came t) k =
    ap (entries k) (sym (append_assoc outs (step n ∷ []) (sent bytes ∷ [])))
    ∙ none_entered k (outs ++ (step n ∷ [])) (sent bytes ∷ []) came (entered (outs ++ (step n ∷ [])) h came t k) (others_none k (graph_so_far (outs ++ (step n ∷ []))) (sent bytes ∷ []) (tt, tt))
entered _ _ _ (commands outs depth line place expanded words h came t none) k =
    none_entered k outs (command depth line place expanded words ∷ []) came (entered outs h came t k) (others_none k (graph_so_far outs) (command depth line place expanded words ∷ []) (tt, tt))
entered _ _ _ (opens outs h came es s first o kind server port own target t w run waits on lone are some joined newest later) k =
    none_entered k outs (event_records es ++ (opened o.number kind server port own target ∷ [])) came (entered outs h came t k)
    (before_end k (graph_so_far outs) (event_records es) (opened o.number kind server port own target ∷ []) []
    (inners_none k ((graph_so_far outs).lowest k) (graph_so_far outs) es refl (all_map IsMaking (IsInnerOf ((graph_so_far outs).lowest k)) es (making_inner ((graph_so_far outs).lowest k)) w)) (tt, tt))
entered _ _ _ (calls outs added h came before after o by s t living call none) k =
    let a = kept outs h came t in
    let b = beside outs h before after o a living in
    more_entered k outs added came (arrived_by_way outs o.number by) (entered outs h came t k)
    (call_enters k o.number (lowest_of (own_serials o)) (own_serials o) by outs added h.state s call a.owner a.lowests b.this.lowest (λ y e. inl (b.this.owned y e)))
entered _ _ _ (ends outs added h came before after o by s cause t living call closed gone) k =
    let a = kept outs h came t in
    let b = beside outs h before after o a living in
    more_entered k outs (added ++ (ended o.number cause ∷ [])) came (arrived_by_way outs o.number by) (entered outs h came t k)
    (before_end k (graph_so_far outs) added (ended o.number cause ∷ []) (came_to k (arrived_by_way outs o.number by))
    (call_enters k o.number (lowest_of (own_serials o)) (own_serials o) by outs added h.state s call a.owner a.lowests b.this.lowest (λ y e. inl (b.this.owned y e))) (tt, tt))
entered _ _ _ (ends_with_all outs added h came before after o s cause t living call closed gone) k =
    let a = kept outs h came t in
    let b = beside outs h before after o a living in
    none_entered k outs (added ++ (ended o.number cause ∷ [])) came (entered outs h came t k)
    (before_end k (graph_so_far outs) added (ended o.number cause ∷ []) []
    (call_enters k o.number (lowest_of (own_serials o)) (own_serials o ++ serials h.waits) None outs added h.state s call a.owner a.lowests b.this.lowest (λ y e.
    elim (one_in_either (own_serials o) (serials h.waits) y e) [ inl f ↦ inl (b.this.owned y f) | inr f ↦ inr (waiting_free outs h a y f) ])) (tt, tt))
entered _ _ _ (gives_up outs h came es s t run within inner gone rests) k =
    none_entered k outs (event_records es) came (entered outs h came t k)
    (inners_none k ((graph_so_far outs).lowest k) (graph_so_far outs) es refl (inner_all ((graph_so_far outs).lowest k) es inner))
