-- What is true of a link in the middle of a call, until it ends.
use Rattle.std.proofs.Common.{◌≡◌, ℕ, ◌+◌, ◌≤◌, inl, inr, Bool, true, false, cond, eqb, List, ◌∷◌, ◌++◌, length, Option, Some, None, refl, ap, ◌∙◌, arith}
use Rattle.nb_ledger.specs.declared.port.Port.{Port}
use Rattle.nb_ledger.specs.declared.event.Way.{Way}
use Rattle.nb_ledger.specs.declared.event.Way.TheVariants as way
use Rattle.nb_ledger.specs.declared.event.GraphEvent.{GraphEvent}
use Rattle.nb_ledger.specs.declared.event.GraphEvent.TheVariants.{Entered}
use Rattle.nb_effects.specs.Trace.{Nature, Said}
use Rattle.nb_effects.specs.Deeds.{Stage, Holds}
use Rattle.nb_effects.specs.Scene.{Scene}
use Rattle.nb_effects.specs.Accounts.{Account, after_note, rests, enters, is_same_port}
use Rattle.nb_effects.specs.Drained.{LinkWatch, IsClosedBy, running_after}
use Rattle.nb_effects.proofs.DueLemmas.{Is, Bears, Bars, Due, Fit, Order, entered, due-push, order-entered}
use Rattle.nb_effects.proofs.TiedLemmas.{Tied, same-true}

-- as long as the link hasn't ended: n entries of p's object run at most, and what q didn't take is still to be brought
pub record Fair {N L : Type 0} (p q : Port) (s : Scene) (n : ℕ) (a b : Account) (st : List (Stage N L)) : Type 0 where
  pub tied : Tied p q s
  pub peer : a.peer ≡ Some q
  pub runs : entered p.obj.0 st ≤ n
  pub order : Order p q b.entered st
  pub missing : ℕ
  pub due : Due p q missing st
  pub short : length a.sent ≤ length b.taken + missing

-- it is seen until then
abbrev pub Seen : {N L : Type 0} → Port → Port → LinkWatch → Scene → Account → Account → List (Stage N L) → Type 0
Seen p q w s a b st = w.ended ≡ false → Fair p q s w.running a b st

-- the claim at an event
abbrev pub Claim : Port → Account → Account → LinkWatch → GraphEvent → Type 0
Claim p a b w e = IsClosedBy p e → w.ended ≡ false → w.running ≤ 1 → a.sent ≡ b.taken

pub bump-both : (c : Bool) (h n : ℕ) → h ≤ n → cond c (h + 1) h ≤ cond c (n + 1) n
bump-both true h n e = omega (arith, e)
bump-both false h n e = e

-- an account where an entry begins
pub noted-sent : (c : Bool) (by : Way) (a : Account) → (cond c (enters by a) (rests a)).sent ≡ a.sent
noted-sent true way.Up a = refl
noted-sent true way.Down a = refl
noted-sent true way.Close a = refl
noted-sent true way.Time a = refl
noted-sent false by a = refl

pub noted-taken : (c : Bool) (by : Way) (a : Account) → (cond c (enters by a) (rests a)).taken ≡ a.taken
noted-taken true way.Up a = refl
noted-taken true way.Down a = refl
noted-taken true way.Close a = refl
noted-taken true way.Time a = refl
noted-taken false by a = refl

pub noted-peer : (c : Bool) (by : Way) (a : Account) → (cond c (enters by a) (rests a)).peer ≡ a.peer
noted-peer true way.Up a = refl
noted-peer true way.Down a = refl
noted-peer true way.Close a = refl
noted-peer true way.Time a = refl
noted-peer false by a = refl

module _ {N L : Type 0} (known : Nature N L) (p q : Port) where
  pub popped : (g : Stage N L) (gs : List (Stage N L)) (n : ℕ) → ((k : ℕ) → Bears p q g k → ⊥) → (Bars q g → ⊥) → Due p q n (g ∷ gs) → Due p q n gs
  popped g gs n away nor d = elim d [
    | inl b ↦ absurd (away b.0 b.1)
    | inr r ↦ elim r [ inl b ↦ absurd (nor b.0) | inr f ↦ f ]
  ]

  pub order-noted : (c : Bool) (by : Way) (b : Account) (st : List (Stage N L)) → Order p q b.entered st → Order p q (cond c (enters by b) (rests b)).entered st
  order-noted true way.Up b st o = order-entered known p q b.entered st o
  order-noted true way.Down b st o = order-entered known p q b.entered st o
  order-noted true way.Close b st o = o
  order-noted true way.Time b st o = o
  order-noted false by b st o = o

  -- an entry begins
  pub noted : (s : Scene) (n : ℕ) (a b : Account) (r : Port) (by : Way) (g : Stage N L) (gs st : List (Stage N L)) (f : Fair p q s n a b (g ∷ gs))
      → entered p.obj.0 st ≤ running_after p.obj.0 n (Entered r by) → Order p q (after_note q b (Entered r by)).entered st → Due p q f.missing st
      → Fair p q s (running_after p.obj.0 n (Entered r by)) (after_note p a (Entered r by)) (after_note q b (Entered r by)) st
  noted s n a b r by g gs st f runs order due =
      let sent = noted-sent (is_same_port p r) by a in
      let taken = noted-taken (is_same_port q r) by b in
      let short = f.short in
      record {
        tied = f.tied;
        peer = noted-peer (is_same_port p r) by a ∙ f.peer;
        runs = runs;
        order = order;
        missing = f.missing;
        due = due;
        short = rw (sent, taken) short;
      }

  -- a message enters by q
  pub takes-it : (r : Port) (by : Way) (b : Account) (m : Said) (gs : List (Stage N L)) → ((c : Account) → (enters by c).entered ≡ true) → (Is q r → 1 ≤ entered p.obj.0 gs) → Fit p q (after_note q b (Entered r by)).entered (Holds r by (Some m)) gs
  takes-it r by b m gs counts i = λ z. (ap (λ c. (cond c (enters by b) (rests b)).entered) (same-true q r z) ∙ counts b, i z)

  -- a message enters
  pub enters-fair : (s : Scene) (n : ℕ) (a b : Account) (r : Port) (by : Way) (g : Stage N L) (m : Said) (gs : List (Stage N L)) (f : Fair p q s n a b (g ∷ gs))
      → ((c : Account) → (enters by c).entered ≡ true) → entered p.obj.0 gs ≤ n → (Is q r → 1 ≤ entered p.obj.0 gs) → Order p q b.entered gs → Due p q f.missing (Holds r by (Some m) ∷ gs)
      → Fair p q s (running_after p.obj.0 n (Entered r by)) (after_note p a (Entered r by)) (after_note q b (Entered r by)) (Holds r by (Some m) ∷ gs)
  enters-fair s n a b r by g m gs f counts runs i o d =
      noted s n a b r by g gs (Holds r by (Some m) ∷ gs) f (bump-both (eqb p.obj.0 r.obj.0) (entered p.obj.0 gs) n runs)
      (takes-it r by b m gs counts i, order-noted (is_same_port q r) by b gs o) d

  -- what stands below goes on, with harmless stages above it
  pub on : (s : Scene) (n : ℕ) (a b : Account) (g : Stage N L) (gs us : List (Stage N L)) → ((k : ℕ) → Bears p q g k → ⊥) → (Bars q g → ⊥) → entered p.obj.0 (us ++ gs) ≤ n → (f : Fair p q s n a b (g ∷ gs)) → (Order p q b.entered gs → Order p q b.entered (us ++ gs)) → Fair p q s n (rests a) (rests b) (us ++ gs)
  on s n a b g gs us away nor runs f order = record {
    tied = f.tied;
    peer = f.peer;
    runs = runs;
    order = order f.order.1;
    missing = f.missing;
    due = due-push known p q us gs f.missing (popped g gs f.missing away nor f.due);
    short = f.short;
  }

  pub still : (s : Scene) (n : ℕ) (a b : Account) (g : Stage N L) (gs us : List (Stage N L)) → ((k : ℕ) → Bears p q g k → ⊥) → (Bars q g → ⊥) → entered p.obj.0 (us ++ gs) ≤ n → (f : Fair p q s n a b (g ∷ gs)) → (Order p q b.entered gs → Order p q b.entered (us ++ gs)) → Fair p q s n a b (us ++ gs)
  still s n a b g gs us away nor runs f order = record {
    tied = f.tied;
    peer = f.peer;
    runs = runs;
    order = order f.order.1;
    missing = f.missing;
    due = due-push known p q us gs f.missing (popped g gs f.missing away nor f.due);
    short = f.short;
  }

  -- with other ports
  pub in-scene : (s t : Scene) (n : ℕ) (a b : Account) (st : List (Stage N L)) → Tied p q t → Fair p q s n a b st → Fair p q t n a b st
  in-scene s t n a b st tied f = record { tied = tied; peer = f.peer; runs = f.runs; order = f.order; missing = f.missing; due = f.due; short = f.short }

  -- an entry at another port than q brings nothing
  pub fit-other : (e : Bool) (r : Port) (by : Way) (o : Option Said) (gs : List (Stage N L)) → (Is q r → ⊥) → Fit p q e (Holds r by o) gs
  fit-other e r by None gs n = tt
  fit-other e r by (Some m) gs n = λ i. absurd (n i)

  pub bears-other : (r : Port) (by : Way) (o : Option Said) (k : ℕ) → (Is q r → ⊥) → Bears {N = N} {L = L} p q (Holds r by o) k → ⊥
  bears-other r by None k n b = b
  bears-other r by (Some m) k n b = n b.0
