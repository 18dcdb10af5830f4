-- What is so wherever an output is traced: whose each object is, which opens live, and what waits.
use Rattle.std.proofs.Common.{◌≡◌, ◌⊎◌, inl, inr, ℕ, ◌+◌, ◌<◌, ◌≤◌, Bool, true, false, List, [], ◌∷◌, ◌++◌, Option, Some, None, refl, sym, ◌∙◌, ap, subst, append_assoc, arith, lt_irrefl}
use Rattle.std.specs.List.{AllByRecursion}
use Rattle.std.proofs.lemmas.Bool.{cases_Bool, false≢true}
use Rattle.nb_terms.specs.declared.cause.Cause.{Cause}
use Rattle.nb_defs.specs.Records.{Out, step, opened, ended}
use Rattle.nb_ledger.specs.GraphRun.{GraphState}
use Rattle.nb_frames.specs.Frames.{is_one_of}
use Rattle.nb_traced.specs.Holdings.{Holdings, Kin, GraphObject, lowest_of, serials}
use Rattle.nb_traced.specs.Pieces.{first_close_of}
use Rattle.nb_traced.specs.Outputs.{own_serials}
use Rattle.nb_traced.specs.Runs.{LeadsBy}
use Rattle.nb_traced.specs.Openings.{HaveNoCommand, WasMadeLast, HasOpened, IsNoEnd, HasNoEnd, IsNumberedBelow}
use Rattle.nb_traced.specs.LowestObjects.{graph_so_far}
use Rattle.nb_traced.proofs.EventLemmas.{all_append, all_first, all_last, all_map, all_zip}
use Rattle.nb_traced.proofs.Serials.{AreRising, not_one}
use Rattle.nb_traced.proofs.StateLemmas.{LeavesOthers}
use Rattle.nb_traced.proofs.RecordLemmas.{close_in_last, made_last_then, goes_on_then}
use Rattle.nb_traced.proofs.Leading.{leads_then, ended_leads}
use Rattle.nb_traced.proofs.Seeing.{Sees, so_far_append, IsNoOpening, lowest_stays}

-- An open that lives: its OPEN stands, and nothing of it was closed since; it hasn't ended; its objects are its own, and the lowest of them is known.
pub record Lives (outs : List Out) (s : GraphState) (owner : ℕ → Option ℕ) (o : Kin) : Type 0 where
  pub since : List Out
  pub begun : HasOpened outs o.number o.pieces since
  pub leads : LeadsBy begun.has.state since s
  pub unclosed : first_close_of (own_serials o) since ≡ None
  pub goes_on : HasNoEnd o.number outs
  pub owned : (x : ℕ) → is_one_of (own_serials o) x ≡ true → owner x ≡ Some o.number
  pub lowest : (graph_so_far outs).lowest o.number ≡ Some (lowest_of (own_serials o))

-- an object that waits lives, was made since the last COMMAND, and is no open's yet
pub record Waits (outs : List Out) (s : GraphState) (owner : ℕ → Option ℕ) (p : GraphObject) : Type 0 where
  pub made : WasMadeLast outs p
  pub lives : s.live p.serial ≡ true
  pub below : p.serial ≤ s.made
  pub free : owner p.serial ≡ None

-- it is an object of one of these opens
abbrev pub HeldBy : ℕ → List Kin → Type 0
HeldBy x [] = ⊥
HeldBy x (o ∷ os) = (is_one_of (own_serials o) x ≡ true) ⊎ HeldBy x os

-- the numbers of these opens rise, and are below this one
abbrev pub AreNumbered : ℕ → List Kin → Type 0
AreNumbered n [] = Unit {0}
AreNumbered n (o ∷ os) = AllByRecursion (λ p. o.number < p.number) os × (o.number < n) × AreNumbered n os

pub record Kept (outs : List Out) (h : Holdings) : Type 0 where
  pub rests : h.state.stack ≡ []
  pub sees : Sees (graph_so_far outs) h.state
  -- whose each object is or was
  pub owner : ℕ → Option ℕ
  pub unmade : (x : ℕ) → h.state.made < x → owner x ≡ None
  pub lowests : (k x : ℕ) → (graph_so_far outs).lowest k ≡ Some x → owner x ≡ Some k
  pub waits : AllByRecursion (Waits outs h.state owner) h.waits
  pub rising : AreRising h.waits
  pub opens : AllByRecursion (Lives outs h.state owner) h.living
  pub numbers : AreNumbered h.begun h.living
  pub named : AllByRecursion (IsNumberedBelow h.begun) outs
  pub held : (x : ℕ) → h.state.live x ≡ true → HeldBy x h.living ⊎ (is_one_of (serials h.waits) x ≡ true)

-- WHICH HOLDS IT

pub held_first : (x : ℕ) (os ps : List Kin) → HeldBy x os → HeldBy x (os ++ ps)
held_first x [] ps h = absurd h
held_first x (o ∷ os) ps (inl e) = inl e
held_first x (o ∷ os) ps (inr h) = inr (held_first x os ps h)

pub held_last : (x : ℕ) (os ps : List Kin) → HeldBy x ps → HeldBy x (os ++ ps)
held_last x [] ps h = h
held_last x (o ∷ os) ps h = inr (held_last x os ps h)

pub held_without : (x : ℕ) (os ps : List Kin) (o : Kin) → HeldBy x (os ++ o ∷ ps) → is_one_of (own_serials o) x ≡ false → HeldBy x (os ++ ps)
held_without x [] ps o (inl e) n = absurd (false≢true (sym n ∙ e))
held_without x [] ps o (inr h) n = h
held_without x (q ∷ os) ps o (inl e) n = inl e
held_without x (q ∷ os) ps o (inr h) n = inr (held_without x os ps o h n)

-- THE NUMBERS

raised : (n m : ℕ) (os : List Kin) → n ≤ m → AreNumbered n os → AreNumbered m os
raised n m [] h a = tt
raised n m (o ∷ os) h a = (a.0, omega (arith, a.1), raised n m os h a.2)

below_this : (n : ℕ) (o : Kin) (os : List Kin) → AreNumbered n os → n ≤ o.number → AllByRecursion (λ p. p.number < o.number) os
below_this n o [] a h = tt
below_this n o (p ∷ os) a h = (omega (arith, a.1), below_this n o os a.2 h)

pub numbered_more : (n : ℕ) (os : List Kin) (o : Kin) → AreNumbered n os → n ≤ o.number → AreNumbered (o.number + 1) (os ++ o ∷ [])
numbered_more n [] o a h = (tt, omega arith, tt)
numbered_more n (p ∷ os) o a h =
    (all_append (λ q. p.number < q.number) os (o ∷ []) a.0 (omega (arith, a.1), tt), omega (arith, a.1), numbered_more n os o a.2 h)

pub numbered_without : (n : ℕ) (os ps : List Kin) (o : Kin) → AreNumbered n (os ++ o ∷ ps) → AreNumbered n (os ++ ps)
numbered_without n [] ps o a = a.2
numbered_without n (q ∷ os) ps o a =
    (all_append (λ p. q.number < p.number) os ps (all_first (λ p. q.number < p.number) os (o ∷ ps) a.0) (all_last (λ p. q.number < p.number) os (o ∷ ps) a.0).1, a.1, numbered_without n os ps o a.2)

pub numbered_below : (n : ℕ) (os ps : List Kin) (o : Kin) → AreNumbered n (os ++ o ∷ ps) → o.number < n
numbered_below n [] ps o a = a.1
numbered_below n (q ∷ os) ps o a = numbered_below n os ps o a.2

-- another number than this one's
abbrev pub IsAnother : ℕ → Kin → Type 0
IsAnother k o = o.number ≡ k → ⊥

more_another : (k : ℕ) (ps : List Kin) → AllByRecursion (λ p. k < p.number) ps → AllByRecursion (IsAnother k) ps
more_another k [] a = tt
more_another k (p ∷ ps) a = ((λ e. lt_irrefl k (omega (arith, a.0, e))), more_another k ps a.1)

pub another_first : (n : ℕ) (os ps : List Kin) (o : Kin) → AreNumbered n (os ++ o ∷ ps) → AllByRecursion (IsAnother o.number) os
another_first n [] ps o a = tt
another_first n (q ∷ os) ps o a =
    let less : q.number < o.number = (all_last (λ p. q.number < p.number) os (o ∷ ps) a.0).0 in
    ((λ e. lt_irrefl o.number (omega (arith, less, e))), another_first n os ps o a.2)

pub another_last : (n : ℕ) (os ps : List Kin) (o : Kin) → AreNumbered n (os ++ o ∷ ps) → AllByRecursion (IsAnother o.number) ps
another_last n [] ps o a = more_another o.number ps a.0
another_last n (q ∷ os) ps o a = another_last n os ps o a.2

pub another_new : (n : ℕ) (os : List Kin) (k : ℕ) → AreNumbered n os → n ≤ k → AllByRecursion (IsAnother k) os
another_new n [] k a h = tt
another_new n (q ∷ os) k a h = ((λ e. lt_irrefl k (omega (arith, a.1, e))), another_new n os k a.2 h)

named_raised : (n m : ℕ) (o : Out) → n ≤ m → IsNumberedBelow n o → IsNumberedBelow m o
named_raised n m (opened number kind server port own target) h a = omega (arith, a)
named_raised n m (ended number cause) h a = omega (arith, a)
named_raised n m (step number) h a = tt
named_raised n m _ h a = tt

pub all_named_raised : (n m : ℕ) (outs : List Out) → n ≤ m → AllByRecursion (IsNumberedBelow n) outs → AllByRecursion (IsNumberedBelow m) outs
all_named_raised n m outs h a = all_map (IsNumberedBelow n) (IsNumberedBelow m) outs (λ o b. named_raised n m o h b) a

unended : (n k : ℕ) (o : Out) → n ≤ k → IsNumberedBelow n o → IsNoEnd k o
unended n k (ended number cause) h a = λ e. lt_irrefl k (omega (arith, a, e))
unended n k (step number) h a = tt
unended n k _ h a = tt

-- an open of a later number hasn't ended, and hasn't begun
pub goes_on_new : (n k : ℕ) (outs : List Out) → n ≤ k → AllByRecursion (IsNumberedBelow n) outs → HasNoEnd k outs
goes_on_new n k outs h a = all_map (IsNumberedBelow n) (IsNoEnd k) outs (λ o b. unended n k o h b) a

unopened : (n k : ℕ) (o : Out) → n ≤ k → IsNumberedBelow n o → IsNoOpening k o
unopened n k (opened number kind server port own target) h a = λ e. lt_irrefl k (omega (arith, a, e))
unopened n k (step number) h a = tt
unopened n k _ h a = tt

pub unopened_new : (n k : ℕ) (outs : List Out) → n ≤ k → AllByRecursion (IsNumberedBelow n) outs → AllByRecursion (IsNoOpening k) outs
unopened_new n k outs h a = all_map (IsNumberedBelow n) (IsNoOpening k) outs (λ o b. unopened n k o h b) a

-- ONE MORE STEP

pub opened_then : (outs added : List Out) (k : ℕ) (pieces : List GraphObject) (since : List Out) → HasOpened outs k pieces since → HasOpened (outs ++ added) k pieces (since ++ added)
opened_then outs added k pieces since b = record {
  before = b.before;
  kind = b.kind;
  server = b.server;
  port = b.port;
  own = b.own;
  target = b.target;
  all = ap (λ z. z ++ added) b.all ∙ append_assoc b.before (opened k b.kind b.server b.port b.own b.target ∷ since) added;
  has = b.has;
}

pub lowest_then : (outs added : List Out) (k : ℕ) → AllByRecursion (IsNoOpening k) added → (graph_so_far (outs ++ added)).lowest k ≡ (graph_so_far outs).lowest k
lowest_then outs added k none = ap (λ g. g.lowest k) (so_far_append outs added) ∙ lowest_stays k (graph_so_far outs) added none

pub lives_on : (outs added : List Out) (s t : GraphState) (owner : ℕ → Option ℕ) (o : Kin) → Lives outs s owner o → LeadsBy s added t → first_close_of (own_serials o) added ≡ None →
    HasNoEnd o.number added → AllByRecursion (IsNoOpening o.number) added → Lives (outs ++ added) t owner o
unfolding opened_then
lives_on outs added s t owner o l leads unclosed goes_on unopened = record {
  since = l.since ++ added;
  begun = opened_then outs added o.number o.pieces l.since l.begun;
  leads = leads_then l.begun.has.state s t l.since added l.leads leads;
  unclosed = close_in_last (own_serials o) l.since added None l.unclosed unclosed;
  goes_on = goes_on_then o.number outs added l.goes_on goes_on;
  owned = l.owned;
  lowest = lowest_then outs added o.number unopened ∙ l.lowest;
}

-- what a call on some objects adds
pub record Called (own : ℕ → Bool) (outs added : List Out) (s t : GraphState) : Type 0 where
  pub leads : LeadsBy s added t
  pub others : LeavesOthers own s t
  pub closes : (ids : List ℕ) → ((x : ℕ) → own x ≡ true → is_one_of ids x ≡ false) → first_close_of ids added ≡ None
  pub goes_on : (k : ℕ) → HasNoEnd k added
  pub no_command : HaveNoCommand added
  pub no_opening : (k : ℕ) → AllByRecursion (IsNoOpening k) added
  pub rests : t.stack ≡ []
  pub sees : Sees (graph_so_far outs) s → Sees (graph_so_far (outs ++ added)) t
  pub named : (n : ℕ) → AllByRecursion (IsNumberedBelow n) added

-- none of its objects is of this open
abbrev pub IsStranger : (ℕ → Bool) → (ℕ → Option ℕ) → Kin → Type 0
IsStranger own owner o = (x : ℕ) → own x ≡ true → owner x ≡ Some o.number → ⊥

pub strangers_live : (own : ℕ → Bool) (outs added : List Out) (s t : GraphState) (owner : ℕ → Option ℕ) (os : List Kin) → Called own outs added s t →
    AllByRecursion (Lives outs s owner) os → AllByRecursion (IsStranger own owner) os → AllByRecursion (Lives (outs ++ added) t owner) os
strangers_live own outs added s t owner os c a b = all_zip (Lives outs s owner) (IsStranger own owner) (Lives (outs ++ added) t owner) os (λ o l strange.
    lives_on outs added s t owner o l c.leads (c.closes (own_serials o) (λ x is. not_one (own_serials o) x (λ mine. strange x is (l.owned x mine)))) (c.goes_on o.number) (c.no_opening o.number)) a b

pub waits_on : (own : ℕ → Bool) (outs added : List Out) (s t : GraphState) (owner : ℕ → Option ℕ) (ps : List GraphObject) → Called own outs added s t →
    ((x : ℕ) → own x ≡ true → owner x ≡ None → ⊥) → AllByRecursion (Waits outs s owner) ps → AllByRecursion (Waits (outs ++ added) t owner) ps
waits_on own outs added s t owner ps c taken a = all_map (Waits outs s owner) (Waits (outs ++ added) t owner) ps (λ p w. record {
  made = made_last_then outs added p w.made c.no_command;
  lives = c.others.live p.serial (elim (cases_Bool (own p.serial)) [ inl e ↦ absurd (taken p.serial e w.free) | inr e ↦ e ]) ∙ w.lives;
  below = subst (λ n. p.serial ≤ n) (sym c.others.made) w.below;
  free = w.free;
}) a

-- an open ends, and others go on
pub ended_strangers : (outs : List Out) (s : GraphState) (owner : ℕ → Option ℕ) (k : ℕ) (cause : Cause) (os : List Kin) → AllByRecursion (Lives outs s owner) os → AllByRecursion (IsAnother k) os →
    AllByRecursion (Lives (outs ++ (ended k cause ∷ [])) s owner) os
ended_strangers outs s owner k cause os a b = all_zip (Lives outs s owner) (IsAnother k) (Lives (outs ++ (ended k cause ∷ [])) s owner) os (λ o l n.
    lives_on outs (ended k cause ∷ []) s s owner o l (ended_leads k cause s) refl ((λ e. n (sym e)), tt) (tt, tt)) a b

pub ended_waits : (outs : List Out) (s : GraphState) (owner : ℕ → Option ℕ) (k : ℕ) (cause : Cause) (ps : List GraphObject) → AllByRecursion (Waits outs s owner) ps → AllByRecursion (Waits (outs ++ (ended k cause ∷ [])) s owner) ps
ended_waits outs s owner k cause ps a = all_map (Waits outs s owner) (Waits (outs ++ (ended k cause ∷ [])) s owner) ps (λ p w. record {
  made = made_last_then outs (ended k cause ∷ []) p w.made ((λ z. z), tt);
  lives = w.lives;
  below = w.below;
  free = w.free;
}) a
