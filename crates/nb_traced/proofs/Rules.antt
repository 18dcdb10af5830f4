-- What is so wherever an output is traced, rule by rule.
use Rattle.std.proofs.Common.{◌≡◌, ◌⊎◌, inl, inr, ℕ, ◌+◌, ◌<◌, ◌≤◌, ◌==◌, Bool, true, false, List, [], ◌∷◌, ◌++◌, Option, Some, None, refl, sym, ◌∙◌, ap, subst, append_assoc, arith, if◌then◌else◌, lt_irrefl, le_refl}
use Rattle.std.specs.List.{AllByRecursion}
use Rattle.std.proofs.lemmas.Bool.{cases_eq, cases_Bool, eq-eqb, ne_eqb, false≢true}
use Rattle.nb_terms.specs.declared.cause.Cause.{Cause}
use Rattle.nb_defs.specs.Records.{Out, step, sent, command, opened, ended}
use Rattle.nb_ledger.specs.declared.event.Way.{Way}
use Rattle.nb_ledger.specs.declared.event.GraphEvent.{GraphEvent}
use Rattle.nb_ledger.specs.GraphRun.{GraphState, GraphRunOf}
use Rattle.nb_frames.specs.Frames.{is_one_of}
use Rattle.nb_frames.specs.Within.{IsEventWithin}
use Rattle.nb_traced.specs.Holdings.{Holdings, Kin, GraphObject, AreJoined, kinds, lowest_of, no_holdings, objects_for, serials}
use Rattle.nb_traced.specs.Pieces.{AreGone, IsMaking, event_records, first_close_of, pieces_made}
use Rattle.nb_traced.specs.Outputs.{Arrived, CallsOpen, IsNewest, ShutsOpen, Traced, own_serials, at_first, apart, replies, commands, opens, calls, ends, ends_with_all, gives_up}
use Rattle.nb_traced.specs.Runs.{HasLedTo, LeadsBy}
use Rattle.nb_traced.specs.Openings.{HaveNoCommand, HasPieces, WasMadeLast, IsNumberedBelow}
use Rattle.nb_traced.specs.LowestObjects.{graph_so_far, first_in}
use Rattle.nb_traced.proofs.EventLemmas.{all_append, all_first, all_last, all_map, all_zip, spells_events}
use Rattle.nb_traced.proofs.Serials.{AreRising, at_serial, each_serial, lowest_in, not_one, one_in_either, one_in_first, one_in_last, rising_append, rising_first, rising_parts, serials_append}
use Rattle.nb_traced.proofs.StateLemmas.{making}
use Rattle.nb_traced.proofs.RecordLemmas.{AreAside, aparts_aside, aparts_no_command, all_made_last, closes_aside, closes_making, events_no_command, goes_on_aside, goes_on_events, goes_on_then, made_last_then, spells_aside}
use Rattle.nb_traced.proofs.Leading.{has_led, leads_by, leads_none, leads_then}
use Rattle.nb_traced.proofs.Seeing.{Sees, first_is_newest, sees_none, sees_others, sees_run, so_far_append, IsNoOpening}
use Rattle.nb_traced.proofs.Keeping.{Kept, Lives, Waits, HeldBy, held_first, held_last, held_without, AreNumbered, numbered_more, numbered_without, numbered_below, IsAnother, another_first, another_last, another_new, all_named_raised, goes_on_new, lowest_then, lives_on, Called, IsStranger, strangers_live, waits_on, ended_strangers, ended_waits}
use Rattle.nb_traced.proofs.Calling.{asides_unopened, asides_named, events_unopened, events_named, sees_then, sees_aside, called, given_up}

pub some_same : (x y : ℕ) → Some x ≡ Some y → x ≡ y
some_same x y e = cc

pub none_some : (o : Option ℕ) (x : ℕ) → o ≡ None → o ≡ Some x → ⊥
none_some o x a b = let e : None ≡ Some x = sym a ∙ b in absurd (cc)

no_lowest : (k : ℕ) → (graph_so_far []).lowest k ≡ None
unfolding graph_so_far
no_lowest k = refl

first_sees : Sees (graph_so_far []) no_holdings.state
unfolding graph_so_far
first_sees = sees_none

kept_first : Kept [] no_holdings
kept_first = record {
  rests = refl;
  sees = first_sees;
  owner = λ x. None;
  unmade = λ x h. refl;
  lowests = λ k x h. absurd (none_some ((graph_so_far []).lowest k) x (no_lowest k) h);
  waits = tt;
  rising = tt;
  opens = tt;
  numbers = tt;
  named = tt;
  held = λ x h. absurd (false≢true h);
}

leads_aside : (s : GraphState) (added : List Out) → AreAside added → LeadsBy s added s
leads_aside s added aside = leads_by s s [] added (spells_aside added aside) refl

-- records aside
kept_aside : (outs added : List Out) (h : Holdings) → Kept outs h → AreAside added → HaveNoCommand added ⊎ (h.waits ≡ []) → Kept (outs ++ added) h
kept_aside outs added h a aside calm = record {
  rests = a.rests;
  sees = sees_aside outs added h.state aside a.sees;
  owner = a.owner;
  unmade = a.unmade;
  lowests = λ k x e. a.lowests k x (sym (lowest_then outs added k (asides_unopened k added aside)) ∙ e);
  waits = elim calm [
    | inl none ↦ all_map (Waits outs h.state a.owner) (Waits (outs ++ added) h.state a.owner) h.waits (λ p w. record { made = made_last_then outs added p w.made none; lives = w.lives; below = w.below; free = w.free }) a.waits
    | inr none ↦ subst (AllByRecursion (Waits (outs ++ added) h.state a.owner)) (sym none) tt
  ];
  rising = a.rising;
  opens = all_map (Lives outs h.state a.owner) (Lives (outs ++ added) h.state a.owner) h.living (λ o l.
      lives_on outs added h.state h.state a.owner o l (leads_aside h.state added aside) (closes_aside (own_serials o) added aside) (goes_on_aside o.number added aside) (asides_unopened o.number added aside)) a.opens;
  numbers = a.numbers;
  named = all_append (IsNumberedBelow h.begun) outs added a.named (asides_named h.begun added aside);
  held = a.held;
}

new_waits : (outs : List Out) (s : GraphState) (made : ℕ) (owner : ℕ → Option ℕ) (ps : List GraphObject) → ((x : ℕ) → made < x → owner x ≡ None) → AllByRecursion (WasMadeLast outs) ps →
    AllByRecursion (λ p. s.live p.serial ≡ true) ps → AllByRecursion (λ p. made < p.serial) ps → AllByRecursion (λ p. p.serial ≤ s.made) ps → AllByRecursion (Waits outs s owner) ps
new_waits outs s made owner [] unmade a b c d = tt
new_waits outs s made owner (p ∷ ps) unmade a b c d = (record { made = a.0; lives = b.0; below = d.0; free = unmade p.serial c.0 }, new_waits outs s made owner ps unmade a.1 b.1 c.1 d.1)

-- objects are made
pub kept_makes : (outs : List Out) (h : Holdings) (es : List GraphEvent) (s : GraphState) → Kept outs h → AllByRecursion IsMaking es → GraphRunOf h.state es s →
    Kept (outs ++ event_records es) (record h { state = s; waits = h.waits ++ pieces_made es })
kept_makes outs h es s a w r =
    let m = making es h.state s w r in
    let added : List Out = event_records es in
    let unmade : (x : ℕ) → s.made < x → a.owner x ≡ None = λ x less. a.unmade x (let up = m.more in omega (arith, less, up)) in
    record {
      rests = m.still ∙ a.rests;
      sees = sees_then outs added s (sees_run es (graph_so_far outs) h.state s a.sees r);
      owner = a.owner;
      unmade = unmade;
      lowests = λ k x e. a.lowests k x (sym (lowest_then outs added k (events_unopened k es)) ∙ e);
      waits = all_append (Waits (outs ++ added) s a.owner) h.waits (pieces_made es)
          (all_map (Waits outs h.state a.owner) (Waits (outs ++ added) s a.owner) h.waits (λ p v. record {
            made = made_last_then outs added p v.made (events_no_command es);
            lives = m.kept p.serial v.lives;
            below = let up = m.more in let low = v.below in omega (arith, low, up);
            free = v.free;
          }) a.waits)
          (new_waits (outs ++ added) s h.state.made a.owner (pieces_made es) a.unmade (all_made_last outs es w) m.lives m.new m.below);
      rising = rising_append h.state.made h.waits (pieces_made es) a.rising (all_map (Waits outs h.state a.owner) (λ p. p.serial ≤ h.state.made) h.waits (λ p v. v.below) a.waits) m.rising m.new;
      opens = all_map (Lives outs h.state a.owner) (Lives (outs ++ added) s a.owner) h.living (λ o l.
          lives_on outs added h.state s a.owner o l (leads_by h.state s es added (spells_events es) r) (closes_making (own_serials o) es w) (goes_on_events o.number es) (events_unopened o.number es)) a.opens;
      numbers = a.numbers;
      named = all_append (IsNumberedBelow h.begun) outs added a.named (events_named h.begun es);
      held = λ x lives. elim (m.only x lives) [
        | inl was ↦ elim (a.held x was) [
          | inl e ↦ inl e
          | inr e ↦ inr (ap (λ z. is_one_of z x) (serials_append h.waits (pieces_made es)) ∙ one_in_first (serials h.waits) (serials (pieces_made es)) x e)
        ]
        | inr e ↦ inr (ap (λ z. is_one_of z x) (serials_append h.waits (pieces_made es)) ∙ one_in_last (serials h.waits) (serials (pieces_made es)) x e)
      ];
    }

-- what an open has, once that is made
abbrev pub made_for : Holdings → List GraphEvent → GraphState → Holdings
made_for h es s = record h { state = s; waits = h.waits ++ pieces_made es }

pub made_led : (outs : List Out) (h : Holdings) (es : List GraphEvent) (s : GraphState) → HasLedTo outs h.state → GraphRunOf h.state es s → HasLedTo (outs ++ event_records es) s
made_led outs h es s led run = leads_then no_holdings.state h.state s outs (event_records es) led (leads_by h.state s es (event_records es) (spells_events es) run)

-- an open begins

abbrev with_owner : List ℕ → ℕ → (ℕ → Option ℕ) → ℕ → Option ℕ
with_owner ids k f x = if is_one_of ids x then Some k else f x

owner_own : (ids : List ℕ) (k : ℕ) (f : ℕ → Option ℕ) (x : ℕ) → is_one_of ids x ≡ true → with_owner ids k f x ≡ Some k
owner_own ids k f x e = ap (λ b. if b then Some k else f x) e

owner_other : (ids : List ℕ) (k : ℕ) (f : ℕ → Option ℕ) (x : ℕ) → is_one_of ids x ≡ false → with_owner ids k f x ≡ f x
owner_other ids k f x e = ap (λ b. if b then Some k else f x) e

opened_waits : (outs added : List Out) (s : GraphState) (owner : ℕ → Option ℕ) (ids : List ℕ) (k : ℕ) (ps : List GraphObject) → HaveNoCommand added → ((x : ℕ) → is_one_of (serials ps) x ≡ true → is_one_of ids x ≡ false) →
    AllByRecursion (Waits outs s owner) ps → AllByRecursion (Waits (outs ++ added) s (with_owner ids k owner)) ps
opened_waits outs added s owner ids k ps none other a = all_zip (Waits outs s owner) (λ p. is_one_of ids p.serial ≡ false) (Waits (outs ++ added) s (with_owner ids k owner)) ps (λ p w n.
    record { made = made_last_then outs added p w.made none; lives = w.lives; below = w.below; free = owner_other ids k owner p.serial n ∙ w.free }) a (each_serial (λ x. is_one_of ids x ≡ false) ps other)

module _ (outs : List Out) (h : Holdings) (first : List GraphObject) (o : Kin) (kind server port own : ℕ) (target : List ℕ) (a : Kept outs h) (led : HasLedTo outs h.state)
    (waits : h.waits ≡ first ++ o.pieces) (are : kinds o.pieces ≡ objects_for kind) (some : o.pieces ≡ [] → ⊥) (joined : AreJoined h.state (own_serials o))
    (newest : IsNewest h.state (lowest_of (own_serials o))) (later : h.begun ≤ o.number) where
  abbrev opening : List Out
  opening = opened o.number kind server port own target ∷ []

  all_wait : AllByRecursion (Waits outs h.state a.owner) (first ++ o.pieces)
  all_wait = subst (AllByRecursion (Waits outs h.state a.owner)) waits a.waits

  first_wait : AllByRecursion (Waits outs h.state a.owner) first
  first_wait = all_first (Waits outs h.state a.owner) first o.pieces all_wait

  own_wait : AllByRecursion (Waits outs h.state a.owner) o.pieces
  own_wait = all_last (Waits outs h.state a.owner) first o.pieces all_wait

  pub has_pieces : HasPieces outs kind o.pieces
  has_pieces = record {
    of_kind = are;
    some = some;
    made = all_map (Waits outs h.state a.owner) _ o.pieces (λ p w. w.made) own_wait;
    state = h.state;
    led = led;
    joined = joined;
    lives = all_map (Waits outs h.state a.owner) (λ p. h.state.live p.serial ≡ true) o.pieces (λ p w. w.lives) own_wait;
    newest = newest;
  }

  is_free : (x : ℕ) → is_one_of (own_serials o) x ≡ true → a.owner x ≡ None
  is_free x e = at_serial (λ y. a.owner y ≡ None) o.pieces (all_map (Waits outs h.state a.owner) (λ p. a.owner p.serial ≡ None) o.pieces (λ p w. w.free) own_wait) x e

  is_low : (x : ℕ) → is_one_of (own_serials o) x ≡ true → x ≤ h.state.made
  is_low x e = at_serial (λ y. y ≤ h.state.made) o.pieces (all_map (Waits outs h.state a.owner) (λ p. p.serial ≤ h.state.made) o.pieces (λ p w. w.below) own_wait) x e

  not_taken : (x n : ℕ) → a.owner x ≡ Some n → is_one_of (own_serials o) x ≡ false
  not_taken x n is = not_one (own_serials o) x (λ e. none_some (a.owner x) n (is_free x e) is)

  abbrev new_owner : ℕ → Option ℕ
  new_owner x = with_owner (own_serials o) o.number a.owner x

  still_owned : (x n : ℕ) → a.owner x ≡ Some n → new_owner x ≡ Some n
  still_owned x n is = owner_other (own_serials o) o.number a.owner x (not_taken x n is) ∙ is

  pub newest_is : first_in (graph_so_far outs).living ≡ Some (lowest_of (own_serials o))
  unfolding has_pieces
  newest_is =
      let lives : h.state.live (lowest_of (own_serials o)) ≡ true = at_serial (λ x. h.state.live x ≡ true) o.pieces has_pieces.lives (lowest_of (own_serials o)) (lowest_in o.pieces some) in
      first_is_newest (graph_so_far outs).living (lowest_of (own_serials o)) a.sees.falls (a.sees.live (lowest_of (own_serials o)) ∙ lives) (λ y e. newest y (sym (a.sees.live y) ∙ e))

  lowest_opened : (k : ℕ) → (graph_so_far (outs ++ opening)).lowest k ≡ (if o.number == k then first_in (graph_so_far outs).living else (graph_so_far outs).lowest k)
  lowest_opened k = ap (λ g. g.lowest k) (so_far_append outs opening)

  lowest_own : (k : ℕ) → o.number ≡ k → (graph_so_far (outs ++ opening)).lowest k ≡ Some (lowest_of (own_serials o))
  lowest_own k e = lowest_opened k ∙ ap (λ b. if b then first_in (graph_so_far outs).living else (graph_so_far outs).lowest k) (eq-eqb o.number k e) ∙ newest_is

  lowest_other : (k : ℕ) → (o.number ≡ k → ⊥) → (graph_so_far (outs ++ opening)).lowest k ≡ (graph_so_far outs).lowest k
  lowest_other k n = lowest_opened k ∙ ap (λ b. if b then first_in (graph_so_far outs).living else (graph_so_far outs).lowest k) (ne_eqb o.number k n)

  opened_lives : Lives (outs ++ opening) h.state new_owner o
  unfolding has_pieces
  opened_lives = record {
    since = [];
    begun = record { before = outs; kind = kind; server = server; port = port; own = own; target = target; all = refl; has = has_pieces };
    leads = leads_none h.state;
    unclosed = refl;
    goes_on = goes_on_then o.number outs opening (goes_on_new h.begun o.number outs later a.named) (tt, tt);
    owned = λ x e. owner_own (own_serials o) o.number a.owner x e;
    lowest = lowest_own o.number refl;
  }

  others_live : AllByRecursion (Lives (outs ++ opening) h.state new_owner) h.living
  others_live = all_zip (Lives outs h.state a.owner) (IsAnother o.number) (Lives (outs ++ opening) h.state new_owner) h.living (λ p l n.
      let on = lives_on outs opening h.state h.state a.owner p l (record { events = []; are = refl; run = refl }) refl (tt, tt) ((λ e. n (sym e)), tt) in
      record {
        since = on.since;
        begun = on.begun;
        leads = on.leads;
        unclosed = on.unclosed;
        goes_on = on.goes_on;
        owned = λ x e. still_owned x p.number (on.owned x e);
        lowest = on.lowest;
      }) a.opens (another_new h.begun h.living o.number a.numbers later)

  kept_opens : Kept (outs ++ opening) (record h { living = h.living ++ o ∷ []; waits = first; begun = o.number + 1 })
  kept_opens = record {
    rests = a.rests;
    sees = sees_then outs opening h.state (sees_others opening (graph_so_far outs) h.state (tt, tt) a.sees);
    owner = new_owner;
    unmade = λ x more. owner_other (own_serials o) o.number a.owner x (not_one (own_serials o) x (λ e. let low = is_low x e in lt_irrefl x (omega (arith, more, low)))) ∙ a.unmade x more;
    lowests = λ k x e. elim (cases_eq o.number k) [
      | inl same ↦
          let is : x ≡ lowest_of (own_serials o) = some_same x (lowest_of (own_serials o)) (sym e ∙ lowest_own k same) in
          subst (λ z. new_owner z ≡ Some k) (sym is) (owner_own (own_serials o) o.number a.owner (lowest_of (own_serials o)) (lowest_in o.pieces some) ∙ ap Some same)
      | inr n ↦ still_owned x k (a.lowests k x (sym (lowest_other k n) ∙ e))
    ];
    waits = opened_waits outs opening h.state a.owner (own_serials o) o.number first ((λ z. z), tt) (λ x e. not_one (own_serials o) x (λ f. rising_parts first o.pieces x (subst AreRising waits a.rising) e f)) first_wait;
    rising = rising_first first o.pieces (subst AreRising waits a.rising);
    opens = all_append (Lives (outs ++ opening) h.state new_owner) h.living (o ∷ []) others_live (opened_lives, tt);
    numbers = numbered_more h.begun h.living o a.numbers later;
    named = all_append (IsNumberedBelow (o.number + 1)) outs opening (all_named_raised h.begun (o.number + 1) outs (omega (arith, later)) a.named) (omega arith, tt);
    held = λ x lives. elim (a.held x lives) [
      | inl e ↦ inl (held_first x h.living (o ∷ []) e)
      | inr e ↦ elim (one_in_either (serials first) (serials o.pieces) x (sym (ap (λ z. is_one_of z x) (ap serials waits ∙ serials_append first o.pieces)) ∙ e)) [
        | inl f ↦ inr f
        | inr f ↦ inl (held_last x h.living (o ∷ []) (inl f))
      ]
    ];
  }

-- CALLS

-- none of these is of another open than that of this number
strangers : (k : ℕ) (own : ℕ → Bool) (owner : ℕ → Option ℕ) (os : List Kin) → ((x : ℕ) → own x ≡ true → (owner x ≡ Some k) ⊎ (owner x ≡ None)) → AllByRecursion (IsAnother k) os → AllByRecursion (IsStranger own owner) os
strangers k own owner os whose a = all_map (IsAnother k) (IsStranger own owner) os (λ o n x mine theirs. elim (whose x mine) [
  | inl e ↦ n (some_same o.number k (sym theirs ∙ e))
  | inr e ↦ none_some (owner x) o.number e theirs
]) a

-- the opens beside one that lives
pub record Beside (outs : List Out) (h : Holdings) (owner : ℕ → Option ℕ) (before after : List Kin) (o : Kin) : Type 0 where
  pub first : AllByRecursion (Lives outs h.state owner) before
  pub this : Lives outs h.state owner o
  pub last : AllByRecursion (Lives outs h.state owner) after
  pub numbers : AreNumbered h.begun (before ++ o ∷ after)

pub beside : (outs : List Out) (h : Holdings) (before after : List Kin) (o : Kin) → (a : Kept outs h) → h.living ≡ before ++ o ∷ after → Beside outs h a.owner before after o
beside outs h before after o a living =
    let all : AllByRecursion (Lives outs h.state a.owner) (before ++ o ∷ after) = subst (AllByRecursion (Lives outs h.state a.owner)) living a.opens in
    let last : AllByRecursion (Lives outs h.state a.owner) (o ∷ after) = all_last (Lives outs h.state a.owner) before (o ∷ after) all in
    record {
      first = all_first (Lives outs h.state a.owner) before (o ∷ after) all;
      this = last.0;
      last = last.1;
      numbers = subst (AreNumbered h.begun) living a.numbers;
    }

kept_calls : (outs added : List Out) (h : Holdings) (before after : List Kin) (o : Kin) (by : Option Way) (s : GraphState) → Kept outs h → h.living ≡ before ++ o ∷ after → CallsOpen o by added h.state s →
    first_close_of (own_serials o) added ≡ None → Kept (outs ++ added) (record h { state = s })
kept_calls outs added h before after o by s a living call none =
    let b = beside outs h before after o a living in
    let own : ℕ → Bool = is_one_of (own_serials o) in
    let c : Called own outs added h.state s = called o.number (lowest_of (own_serials o)) (own_serials o) by outs added h.state s call in
    let whose : (x : ℕ) → own x ≡ true → (a.owner x ≡ Some o.number) ⊎ (a.owner x ≡ None) = λ x e. inl (b.this.owned x e) in
    record {
      rests = c.rests;
      sees = c.sees a.sees;
      owner = a.owner;
      unmade = λ x more. a.unmade x (subst (λ n. n < x) c.others.made more);
      lowests = λ k x e. a.lowests k x (sym (lowest_then outs added k (c.no_opening k)) ∙ e);
      waits = waits_on own outs added h.state s a.owner h.waits c (λ x mine free. none_some (a.owner x) o.number free (b.this.owned x mine)) a.waits;
      rising = a.rising;
      opens = subst (AllByRecursion (Lives (outs ++ added) s a.owner)) (sym living) (all_append (Lives (outs ++ added) s a.owner) before (o ∷ after)
          (strangers_live own outs added h.state s a.owner before c b.first (strangers o.number own a.owner before whose (another_first h.begun before after o b.numbers))) (
            lives_on outs added h.state s a.owner o b.this c.leads none (c.goes_on o.number) (c.no_opening o.number),
            strangers_live own outs added h.state s a.owner after c b.last (strangers o.number own a.owner after whose (another_last h.begun before after o b.numbers)),
          ));
      numbers = a.numbers;
      named = all_append (IsNumberedBelow h.begun) outs added a.named (c.named h.begun);
      held = λ x lives. elim (cases_Bool (own x)) [
        | inl mine ↦ inl (subst (HeldBy x) (sym living) (held_last x before (o ∷ after) (inl mine)))
        | inr not_mine ↦ a.held x (sym (c.others.live x not_mine) ∙ lives)
      ];
    }

-- an open ends: what it had is gone, with all of what waits or none of it
module _ (outs added : List Out) (h : Holdings) (before after : List Kin) (o : Kin) (s : GraphState) (cause : Cause) (own : ℕ → Bool) (still : List GraphObject) (a : Kept outs h) (living : h.living ≡ before ++ o ∷ after)
    (c : Called own outs added h.state s) (whose : (x : ℕ) → own x ≡ true → (a.owner x ≡ Some o.number) ⊎ (a.owner x ≡ None)) (mine : (x : ℕ) → is_one_of (own_serials o) x ≡ true → own x ≡ true)
    (gone : (x : ℕ) → own x ≡ true → s.live x ≡ false) (waits : AllByRecursion (Waits (outs ++ added) s a.owner) still) (rising : AreRising still)
    (waits_still : (x : ℕ) → own x ≡ false → is_one_of (serials h.waits) x ≡ true → is_one_of (serials still) x ≡ true) where
  abbrev ending : List Out
  ending = ended o.number cause ∷ []

  ends_named : AllByRecursion (IsNumberedBelow h.begun) (outs ++ (added ++ ending))
  ends_named = all_append (IsNumberedBelow h.begun) outs (added ++ ending) a.named (all_append (IsNumberedBelow h.begun) added ending (c.named h.begun)
      (numbered_below h.begun before after o (subst (AreNumbered h.begun) living a.numbers), tt))

  more : (P : List Out → Type 0) → P ((outs ++ added) ++ ending) → P (outs ++ (added ++ ending))
  more P p = subst P (append_assoc outs added ending) p

  none_opens : (k : ℕ) → AllByRecursion (IsNoOpening k) (added ++ ending)
  none_opens k = all_append (IsNoOpening k) added ending (c.no_opening k) (tt, tt)

  others_go_on : (os : List Kin) → AllByRecursion (Lives outs h.state a.owner) os → AllByRecursion (IsAnother o.number) os → AllByRecursion (Lives ((outs ++ added) ++ ending) s a.owner) os
  others_go_on os l n = ended_strangers (outs ++ added) s a.owner o.number cause os (strangers_live own outs added h.state s a.owner os c l (strangers o.number own a.owner os whose n)) n

  kept_ended : Kept (outs ++ (added ++ ending)) (record { state = s; living = before ++ after; waits = still; begun = h.begun })
  kept_ended =
      let b = beside outs h before after o a living in
      record {
        rests = c.rests;
        sees = more (λ z. Sees (graph_so_far z) s) (sees_then (outs ++ added) ending s (sees_others ending (graph_so_far (outs ++ added)) s (tt, tt) (c.sees a.sees)));
        owner = a.owner;
        unmade = λ x less. a.unmade x (subst (λ n. n < x) c.others.made less);
        lowests = λ k x e. a.lowests k x (sym (lowest_then outs (added ++ ending) k (none_opens k)) ∙ e);
        waits = more (λ z. AllByRecursion (Waits z s a.owner) still) (ended_waits (outs ++ added) s a.owner o.number cause still waits);
        rising = rising;
        opens = more (λ z. AllByRecursion (Lives z s a.owner) (before ++ after)) (all_append (Lives ((outs ++ added) ++ ending) s a.owner) before after
            (others_go_on before b.first (another_first h.begun before after o b.numbers)) (others_go_on after b.last (another_last h.begun before after o b.numbers)));
        numbers = numbered_without h.begun before after o b.numbers;
        named = ends_named;
        held = λ x lives. elim (cases_Bool (own x)) [
          | inl is ↦ absurd (false≢true (sym (gone x is) ∙ lives))
          | inr is_not ↦ elim (a.held x (sym (c.others.live x is_not) ∙ lives)) [
            | inl e ↦ inl (held_without x before after o (subst (HeldBy x) living e) (not_one (own_serials o) x (λ f. false≢true (sym is_not ∙ mine x f))))
            | inr e ↦ inr (waits_still x is_not e)
          ]
        ];
      }

kept_ends : (outs added : List Out) (h : Holdings) (before after : List Kin) (o : Kin) (by : Option Way) (s : GraphState) (cause : Cause) → Kept outs h → h.living ≡ before ++ o ∷ after → CallsOpen o by added h.state s →
    AreGone (own_serials o) s → Kept (outs ++ (added ++ (ended o.number cause ∷ []))) (record h { state = s; living = before ++ after })
kept_ends outs added h before after o by s cause a living call gone =
    let b = beside outs h before after o a living in
    let own : ℕ → Bool = is_one_of (own_serials o) in
    let c : Called own outs added h.state s = called o.number (lowest_of (own_serials o)) (own_serials o) by outs added h.state s call in
    kept_ended outs added h before after o s cause own h.waits a living c (λ x e. inl (b.this.owned x e)) (λ x e. e) gone
    (waits_on own outs added h.state s a.owner h.waits c (λ x mine free. none_some (a.owner x) o.number free (b.this.owned x mine)) a.waits) a.rising (λ x n e. e)

pub waiting_free : (outs : List Out) (h : Holdings) → (a : Kept outs h) → (x : ℕ) → is_one_of (serials h.waits) x ≡ true → a.owner x ≡ None
waiting_free outs h a x e = at_serial (λ y. a.owner y ≡ None) h.waits (all_map (Waits outs h.state a.owner) (λ p. a.owner p.serial ≡ None) h.waits (λ p w. w.free) a.waits) x e

kept_ends_all : (outs added : List Out) (h : Holdings) (before after : List Kin) (o : Kin) (s : GraphState) (cause : Cause) → Kept outs h → h.living ≡ before ++ o ∷ after → ShutsOpen o h.waits added h.state s →
    AreGone (own_serials o ++ serials h.waits) s → Kept (outs ++ (added ++ (ended o.number cause ∷ []))) (record { state = s; living = before ++ after; waits = []; begun = h.begun })
kept_ends_all outs added h before after o s cause a living call gone =
    let b = beside outs h before after o a living in
    let ids : List ℕ = own_serials o ++ serials h.waits in
    let own : ℕ → Bool = is_one_of ids in
    let c : Called own outs added h.state s = called o.number (lowest_of (own_serials o)) ids None outs added h.state s call in
    kept_ended outs added h before after o s cause own [] a living c
    (λ x e. elim (one_in_either (own_serials o) (serials h.waits) x e) [ inl f ↦ inl (b.this.owned x f) | inr f ↦ inr (waiting_free outs h a x f) ])
    (λ x e. one_in_first (own_serials o) (serials h.waits) x e) gone tt tt (λ x n e. absurd (false≢true (sym n ∙ one_in_last (own_serials o) (serials h.waits) x e)))

kept_gives_up : (outs : List Out) (h : Holdings) (es : List GraphEvent) (s : GraphState) → Kept outs h → GraphRunOf h.state es s → AllByRecursion (IsEventWithin (is_one_of (serials h.waits))) es →
    AreGone (serials h.waits) s → s.stack ≡ [] → Kept (outs ++ event_records es) (record h { state = s; waits = [] })
kept_gives_up outs h es s a run within gone rests =
    let own : ℕ → Bool = is_one_of (serials h.waits) in
    let added : List Out = event_records es in
    let c : Called own outs added h.state s = given_up own outs es h.state s run within rests in
    record {
      rests = c.rests;
      sees = c.sees a.sees;
      owner = a.owner;
      unmade = λ x more. a.unmade x (subst (λ n. n < x) c.others.made more);
      lowests = λ k x e. a.lowests k x (sym (lowest_then outs added k (c.no_opening k)) ∙ e);
      waits = tt;
      rising = tt;
      opens = strangers_live own outs added h.state s a.owner h.living c a.opens (strangers h.begun own a.owner h.living (λ x e. inr (waiting_free outs h a x e)) (another_new h.begun h.living h.begun a.numbers (le_refl h.begun)));
      numbers = a.numbers;
      named = all_append (IsNumberedBelow h.begun) outs added a.named (c.named h.begun);
      held = λ x lives. elim (cases_Bool (own x)) [
        | inl mine ↦ absurd (false≢true (sym (gone x mine) ∙ lives))
        | inr is_not ↦ elim (a.held x (sym (c.others.live x is_not) ∙ lives)) [ inl e ↦ inl e | inr e ↦ absurd (false≢true (sym is_not ∙ e)) ]
      ];
    }

-- ALL OF THEM

pub kept : (outs : List Out) (h : Holdings) (came : List Arrived) → Traced outs h came → Kept outs h
kept _ _ _ at_first = kept_first
kept _ _ _ (apart outs added h came t aside) = kept_aside outs added h (kept outs h came t) (aparts_aside added aside) (inl (aparts_no_command added aside))
kept _ _ _ (replies outs n bytes h came t) =
    subst (λ z. Kept z h) (append_assoc outs (step n ∷ []) (sent bytes ∷ [])) (kept_aside (outs ++ (step n ∷ [])) (sent bytes ∷ []) h (kept (outs ++ (step n ∷ [])) h came t) (tt, tt) (inl ((λ z. z), tt)))
kept _ _ _ (commands outs depth line place expanded words h came t none) = kept_aside outs (command depth line place expanded words ∷ []) h (kept outs h came t) (tt, tt) (inr none)
kept _ _ _ (opens outs h came es s first o kind server port own target t w run waits on lone are some joined newest later) =
    subst (λ z. Kept z (record { state = s; living = h.living ++ o ∷ []; waits = first; begun = o.number + 1 })) (append_assoc outs (event_records es) (opened o.number kind server port own target ∷ []))
    (kept_opens (outs ++ event_records es) (made_for h es s) first o kind server port own target (kept_makes outs h es s (kept outs h came t) w run) (made_led outs h es s (has_led outs h came t) run) waits are some joined newest later)
kept _ _ _ (calls outs added h came before after o by s t living call none) = kept_calls outs added h before after o by s (kept outs h came t) living call none
kept _ _ _ (ends outs added h came before after o by s cause t living call closed gone) = kept_ends outs added h before after o by s cause (kept outs h came t) living call gone
kept _ _ _ (ends_with_all outs added h came before after o s cause t living call closed gone) = kept_ends_all outs added h before after o s cause (kept outs h came t) living call gone
kept _ _ _ (gives_up outs h came es s t run within inner gone rests) = kept_gives_up outs h es s (kept outs h came t) run within gone rests
