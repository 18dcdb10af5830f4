-- What follows of an output from what each of its records says.
use Rattle.std.proofs.Common.{◌≡◌, inl, inr, ℕ, false, List, [], ◌∷◌, ◌++◌, refl, sym, ◌∙◌, ap, subst, Option, if◌then◌else◌, le_refl}
use Rattle.std.specs.List.{AllByRecursion}
use Rattle.std.proofs.lemmas.Bool.{cases_Bool, eq-eqb, false≢true}
use Rattle.nb_defs.specs.Records.{Out, step, sent, command, opened, tried, advanced, ended}
use Rattle.nb_ledger.specs.GraphRun.{GraphState}
use Rattle.nb_frames.specs.Frames.{is_one_of}
use Rattle.nb_traced.specs.Holdings.{Holdings, GraphObject, serials}
use Rattle.nb_traced.specs.Outputs.{Arrived, Traced}
use Rattle.nb_traced.specs.Openings.{OpensHavePieces, EndsAreTheirs, CommandsLeaveNone, NumbersRise, IsMadeLast, LeavesTheirs}
use Rattle.nb_traced.specs.LowestObjects.{graph_so_far, graph_by, first_in}
use Rattle.nb_traced.specs.Entries.{IsOutside}
use Rattle.nb_traced.specs.Places.{LowestAreTheirs, LowestAreOwn, FramesStand, TriesStandWithin, AdvancesStand}
use Rattle.nb_traced.proofs.EventLemmas.{all_first, all_last}
use Rattle.nb_traced.proofs.StateLemmas.{runners}
use Rattle.nb_traced.proofs.Seeing.{IsNoOpening, lowest_stays, so_far_append}
use Rattle.nb_traced.proofs.Serials.{at_serial}
use Rattle.nb_traced.proofs.Leading.{has_led}
use Rattle.nb_traced.proofs.Keeping.{HeldBy, Waits, unopened_new}
use Rattle.nb_traced.proofs.Rules.{kept, some_same}
use Rattle.nb_traced.proofs.Saying.{held_living, EachSays, Says, OpensSo, says, says_at, says_after}

at : (outs : List Out) (h : Holdings) (came : List Arrived) → Traced outs h came → (before after : List Out) (o : Out) → outs ≡ before ++ (o ∷ after) → Says before o
at outs h came t before after o is = says_at [] before after o (subst (EachSays []) is (says outs h came t).each)

pub opens_have_pieces : (outs : List Out) (h : Holdings) (came : List Arrived) → Traced outs h came → OpensHavePieces outs
opens_have_pieces outs h came t before after k kind server port own target is =
    let o : OpensSo before k kind = at outs h came t before after (opened k kind server port own target) is in
    (o.pieces, o.has)

pub numbers_rise : (outs : List Out) (h : Holdings) (came : List Arrived) → Traced outs h came → NumbersRise outs
numbers_rise outs h came t before after k kind server port own target is =
    let o : OpensSo before k kind = at outs h came t before after (opened k kind server port own target) is in
    o.rising

pub ends_are_theirs : (outs : List Out) (h : Holdings) (came : List Arrived) → Traced outs h came → EndsAreTheirs outs
ends_are_theirs outs h came t before after k cause is = at outs h came t before after (ended k cause) is

pub commands_leave_none : (outs : List Out) (h : Holdings) (came : List Arrived) → Traced outs h came → CommandsLeaveNone outs
commands_leave_none outs h came t before after depth line place expanded words is = at outs h came t before after (command depth line place expanded words) is

pub waits_made : (outs : List Out) (s : GraphState) (owner : ℕ → Option ℕ) (ps : List GraphObject) → AllByRecursion (Waits outs s owner) ps → AllByRecursion (λ p. IsMadeLast outs p.serial) ps
waits_made outs s owner [] all = tt
waits_made outs s owner (p ∷ ps) all = (record { kind = p.kind; made = all.0.made }, waits_made outs s owner ps all.1)

pub leaves_theirs : (outs : List Out) (h : Holdings) (came : List Arrived) → Traced outs h came → LeavesTheirs outs
leaves_theirs outs h came t =
    let a = kept outs h came t in
    record {
      state = h.state;
      led = has_led outs h came t;
      theirs = λ x lives. elim (a.held x lives) [
        | inl e ↦ inl (held_living outs h.state a.owner x h.living a.opens e)
        | inr e ↦ inr (at_serial (λ y. IsMadeLast outs y) h.waits (waits_made outs h.state a.owner h.waits a.waits) x e)
      ];
    }

pub none_is_left : (outs : List Out) (h : Holdings) (came : List Arrived) → Traced outs h came → h.living ≡ [] → h.waits ≡ [] → (x : ℕ) → h.state.live x ≡ false
none_is_left outs h came t living waits x = elim (cases_Bool (h.state.live x)) [
  | inl e ↦ elim ((kept outs h came t).held x e) [
    | inl f ↦ absurd (subst (HeldBy x) living f)
    | inr f ↦ absurd (false≢true (ap (λ z. is_one_of (serials z) x) (sym waits) ∙ f))
  ]
  | inr e ↦ e
]

pub frames_stand : (outs : List Out) (h : Holdings) (came : List Arrived) → Traced outs h came → FramesStand outs
frames_stand outs h came t before after bytes is = at outs h came t before after (sent bytes) is

pub tries_stand : (outs : List Out) (h : Holdings) (came : List Arrived) → Traced outs h came → TriesStandWithin outs
tries_stand outs h came t before after k count is = at outs h came t before after (tried k count) is

pub advances_stand : (outs : List Out) (h : Holdings) (came : List Arrived) → Traced outs h came → AdvancesStand outs
advances_stand outs h came t before after k place is = at outs h came t before after (advanced k place) is

pub rests : (outs : List Out) (h : Holdings) (came : List Arrived) → Traced outs h came → IsOutside outs
rests outs h came t = let a = kept outs h came t in a.sees.runs ∙ ap runners a.rests

-- THE LOWEST OBJECTS

pub lowest_are_own : (outs : List Out) (h : Holdings) (came : List Arrived) → Traced outs h came → LowestAreOwn outs
lowest_are_own outs h came t j k x a b = let e = (kept outs h came t).lowests in some_same j k (sym (e j x a) ∙ e k x b)

-- an open's OPEN stands once
another_opening : (before : List Out) (k : ℕ) (o : Out) → Says before o → (AllByRecursion (IsNoOpening k) before → ⊥) → IsNoOpening k o
another_opening before k (opened number kind server port own target) h there = λ e. there (subst (λ z. AllByRecursion (IsNoOpening z) before) e (unopened_new number number before (le_refl number) h.rising))
another_opening before k (step number) h there = tt
another_opening before k _ h there = tt

no_later : (before : List Out) (k : ℕ) (after : List Out) → EachSays before after → (AllByRecursion (IsNoOpening k) before → ⊥) → AllByRecursion (IsNoOpening k) after
no_later before k [] h there = tt
no_later before k (o ∷ outs) h there = (another_opening before k o h.0 there, no_later (before ++ o ∷ []) k outs h.1 (λ none. there (all_first (IsNoOpening k) before (o ∷ []) none)))

pub lowest_are_theirs : (outs : List Out) (h : Holdings) (came : List Arrived) → Traced outs h came → LowestAreTheirs outs
lowest_are_theirs outs h came t before after k kind server port own target is =
    let this : Out = opened k kind server port own target in
    let each : EachSays [] (before ++ (this ∷ after)) = subst (EachSays []) is (says outs h came t).each in
    let o : OpensSo before k kind = says_at [] before after this each in
    let there : AllByRecursion (IsNoOpening k) (before ++ this ∷ []) → ⊥ = λ none. (all_last (IsNoOpening k) before (this ∷ []) none).0 refl in
    let later : AllByRecursion (IsNoOpening k) after = no_later (before ++ this ∷ []) k after (says_after before (this ∷ []) after (says_after [] before (this ∷ after) each)) there in (
      o.pieces,
      o.has,
      ap (λ z. (graph_so_far z).lowest k) is ∙ ap (λ g. g.lowest k) (so_far_append before (this ∷ after)) ∙ lowest_stays k (graph_by (graph_so_far before) this) after later
          ∙ ap (λ b. if b then first_in (graph_so_far before).living else (graph_so_far before).lowest k) (eq-eqb k k refl) ∙ o.newest,
    )
