-- What else is on the graph where an open begins, or has ended at once.
use Rattle.std.proofs.Common.{◌≡◌, ◌⊎◌, inl, inr, ℕ, ◌+◌, ◌<◌, ◌≤◌, true, false, List, [], ◌∷◌, length, Option, Some, None, refl, sym, ◌∙◌, ap, arith}
use Rattle.nb_terms.specs.declared.cause.Cause.{Cause}
use Rattle.nb_ledger.specs.declared.port.ObjId.{ObjId}
use Rattle.nb_ledger.specs.GraphRun.{GraphRunOf}
use Rattle.nb_ledger.specs.Flat.{Heard}
use Rattle.nb_ledger.specs.Ledger.{run_state}
use Rattle.nb_graph.specs.Whole.{Objects}
use Rattle.nb_frames.specs.Frames.{KeepsObject, KeepsOthers, is_one_of}
use Rattle.nb_nodes.specs.declared.obj.Obj.{Obj}
use Rattle.nb_chains.specs.declared.chain.Chain.{Chain}
use Rattle.nb_chains.specs.declared.kind.ChainKind.{ChainKind}
use Rattle.nb_chains.specs.declared.kind.ChainKind.TheVariants as kind
use Rattle.nb_chains.specs.Chains.{IsReadyChain, below_ids, chain_ids, completes_notices, last_below, last_serial}
use Rattle.nb_chains.specs.Kinds.{count_below}
use Rattle.nb_chains.proofs.FreshOnes.{sole_is}
use Rattle.nb_chains.proofs.GoingOn.{keeps_both}
use Rattle.nb_chains.proofs.OfTwo.{of_two}
use Rattle.nb_closings.proofs.Beginning.{one_first}
use Rattle.nb_webchains.specs.declared.web_chain.WebChain.{WebChain}
use Rattle.nb_webchains.specs.WebChains.{GrowsTo, IsInOrder, web_ids}
use Rattle.nb_drivechains.specs.declared.drive_chain.DriveChain.{DriveChain}
use Rattle.nb_drivechains.specs.DriveChains.{drive_ids, three_of}
use Rattle.nb_open.specs.declared.beginning.Begun.{Begun}
use Rattle.nb_open.specs.declared.objects.OpenObjects.{OpenObjects}
use Rattle.nb_open.specs.declared.objects.OpenObjects.TheVariants as objects
use Rattle.nb_open.specs.declared.opening.Opening.{Opening}
use Rattle.nb_open.specs.Begins.{LeavesElse, count_after, count_waiting}
use Rattle.nb_open.specs.Making.{DriveMade, GoesOnOr, IsFetchOf, MakesChain, MakesObjectsOf, WebMade, count_made, count_made_web}
use Rattle.nb_open.specs.Objects.{objects_ids}
use Rattle.nb_open.proofs.Newest.{drive_run, lower_events, making_drive_events, making_web_events, run_is, web_run}

-- a serial of a chain is that of its top object, or of the one below it
pub of_chain_ids : (x : ℕ) (below : Option ObjId) (y : ℕ) → is_one_of (x ∷ below_ids below) y ≡ true → (y ≡ x) ⊎ ((t : ObjId) × (below ≡ Some t) × (y ≡ t.0))
of_chain_ids x None y h = inl (sole_is x y h)
of_chain_ids x (Some t) y h = of_two x t.0 (λ z. (z ≡ x) ⊎ ((u : ObjId) × (Some t ≡ Some u) × (z ≡ u.0))) (inl refl) (inr (t, refl, refl)) y h

pub length_is : (k : ChainKind) (c : Chain) (g : Objects Obj) → IsReadyChain k c g → length (chain_ids c) ≡ 1 + count_below k
length_is kind.File c g ready = ap (λ z. length (c.top.0 ∷ below_ids z)) ready.1
length_is kind.Name c g ready = ap (λ z. length (c.top.0 ∷ below_ids z)) ready.0
length_is kind.Lease c g ready = ap (λ z. length (c.top.0 ∷ below_ids z)) ready.0
length_is kind.Echo c g ready = ap (λ z. length (c.top.0 ∷ below_ids z)) ready.0
length_is kind.Drive c g ready = ap (λ z. length (c.top.0 ∷ below_ids z)) ready.0

few_below : (k : ChainKind) → count_below k ≤ 1
few_below kind.File = omega arith
few_below kind.Name = omega arith
few_below kind.Lease = omega arith
few_below kind.Echo = omega arith
few_below kind.Drive = omega arith

some_id : {x y : ObjId} → Some x ≡ Some y → x.0 ≡ y.0
some_id {x} {y} e = cc

module _ (k : ChainKind) (w : Option Chain) (c : Chain) (old new : Objects Obj) (m n : Heard) where
  -- what is below the top object was made
  pub below_new : (t : ObjId) → MakesChain k w c old new m n → c.below ≡ Some t → old.book.made < t.0
  below_new t made below = by k w made
    where
      two : (w : Option Chain) (made : MakesChain kind.File w c old new m n) → old.book.made < t.0
      two None made =
          let same : t.0 ≡ made.ready.0.0 = some_id (sym below ∙ made.ready.1) in
          omega (arith, same, made.top, made.ready.2.joined.two.older)
      two (Some v) made =
          let run = run_is _ old new m n (completes_notices kind.File c) (lower_events c.top.0 (last_serial c)) refl made.gives in
          let last : last_serial c ≡ t.0 = ap (last_below c.top.0) below in
          omega (arith, last, run.1.1)

      none : {P : Type 0} → c.below ≡ None → P
      none {P} e = absurd (let no : Some t ≡ None = sym below ∙ e in cc)

      by : (k : ChainKind) (w : Option Chain) → MakesChain k w c old new m n → old.book.made < t.0
      by kind.File w made = two w made
      by kind.Name w made = none made.ready.0
      by kind.Lease w made = none made.ready.0
      by kind.Echo w made = none made.ready.0
      by kind.Drive w made = none made.ready.0

-- what both calls make: so many objects more, of which those that are no part of what waits are new
pub record Grown (w : Option Chain) (ids : List ℕ) (old mid : Objects Obj) : Type 0 where
  pub few : mid.book.made ≤ old.book.made + 3
  pub later : old.book.made ≤ mid.book.made
  pub same_room : mid.book.room ≡ old.book.room
  pub number : length mid.book.objects + count_waiting w ≡ length old.book.objects + length ids
  pub others : (y : ℕ) → y ≤ old.book.made → is_one_of ids y ≡ false → KeepsObject old mid y
  pub fresh : (y : ℕ) → is_one_of ids y ≡ true → y ≤ old.book.made → (c : Chain) × (w ≡ Some c) × (y ≡ c.top.0)

-- OF A CHAIN

module _ (k : ChainKind) (c : Chain) (old mid : Objects Obj) (m n : Heard) where
  count_is : (w : Option Chain) → length (chain_ids c) ≡ 1 + count_below k → length (chain_ids c) ≡ count_made w k + count_waiting w
  count_is None e = omega (arith, e)
  count_is (Some v) e = omega (arith, e)

  few_made : (w : Option Chain) → count_made w k ≤ 2
  few_made None = omega (arith, few_below k)
  few_made (Some v) = omega (arith, few_below k)

  fresh_by : (w : Option Chain) → MakesChain k w c old mid m n → (y : ℕ) → is_one_of (chain_ids c) y ≡ true → y ≤ old.book.made → (v : Chain) × (w ≡ Some v) × (y ≡ v.top.0)
  fresh_by w made y own low = by w made (of_chain_ids c.top.0 c.below y own)
    where
      by : (w : Option Chain) → MakesChain k w c old mid m n → ((y ≡ c.top.0) ⊎ ((t : ObjId) × (c.below ≡ Some t) × (y ≡ t.0))) → (v : Chain) × (w ≡ Some v) × (y ≡ v.top.0)
      by None made (inl e) = absurd (let top = made.top in omega (arith, e, top, low))
      by (Some v) made (inl e) = (v, refl, e ∙ ap (λ (x : ObjId). x.0) made.top)
      by w made (inr (t, below, e)) = absurd (let new = below_new k w c old mid m n t made below in omega (arith, e, low, new))

  chain_grown : (w : Option Chain) → MakesChain k w c old mid m n → Grown w (chain_ids c) old mid
  chain_grown w made =
      let ids = count_is w (length_is k c mid made.ready) in
      let count = made.made in
      let number = made.number in
      let few = few_made w in
      record {
        few = omega (arith, count, few);
        later = omega (arith, count);
        same_room = made.same_room;
        number = omega (arith, number, ids);
        others = made.others;
        fresh = fresh_by w made;
      }

-- OF THREE

module _ (c : WebChain) (old mid : Objects Obj) (m n : Heard) where
  web_count : (w : Option Chain) → count_made_web w + count_waiting w ≡ 3
  web_count None = refl
  web_count (Some v) = refl

  -- those below the first are new
  record MadeThree (w : Option Chain) : Type 0 where
    order : IsInOrder c
    top : IsFetchOf w old c
    middle : old.book.made < c.web.0
    grows : GrowsTo (count_made_web w) (web_ids c) old mid

  -- what is below the Fetch was made
  web_new : (w : Option Chain) → WebMade w c old mid m n → old.book.made < c.web.0
  web_new None made = let later = made.ready.order.web_later in let top = made.top in omega (arith, later, top)
  web_new (Some v) made = let run : GraphRunOf (run_state old.book []) (making_web_events (Some v) c) (run_state mid.book []) = web_run (Some v) c old mid m n made in let first = run.1.1 in omega (arith, first)

  web_fresh : (w : Option Chain) → MadeThree w → (y : ℕ) → is_one_of (web_ids c) y ≡ true → y ≤ old.book.made → (v : Chain) × (w ≡ Some v) × (y ≡ v.top.0)
  web_fresh w made y own low =
      let new = made.middle in
      let later = made.order.conn_later in
      elim (one_first c.fetch.0 (c.web.0 ∷ c.conn.0 ∷ []) y own) [
        | inl e ↦ by w made e
        | inr below ↦ elim (one_first c.web.0 (c.conn.0 ∷ []) y below) [
          | inl e ↦ absurd (omega (arith, e, low, new))
          | inr last ↦ absurd (let e = sole_is c.conn.0 y last in omega (arith, e, low, new, later))
        ]
      ]
    where
      by : (w : Option Chain) → MadeThree w → y ≡ c.fetch.0 → (v : Chain) × (w ≡ Some v) × (y ≡ v.top.0)
      by None made e = absurd (let top = made.top in omega (arith, e, top, low))
      by (Some v) made e = (v, refl, e ∙ ap (λ (x : ObjId). x.0) made.top)

  three_grown : (w : Option Chain) → MadeThree w → Grown w (web_ids c) old mid
  three_grown w made =
      let count = web_count w in
      let grown = made.grows.made in
      let number = made.grows.number in
      record {
        few = omega (arith, grown, count);
        later = omega (arith, grown);
        same_room = made.grows.same_room;
        number = omega (arith, number, count);
        others = made.grows.others;
        fresh = web_fresh w made;
      }

  web_grown : (w : Option Chain) → WebMade w c old mid m n → Grown w (web_ids c) old mid
  web_grown w made = three_grown w (record { order = made.ready.order; top = made.top; middle = web_new w made; grows = made.grows })

module _ (c : DriveChain) (old mid : Objects Obj) (m n : Heard) where
  -- what is below the unit was made
  drive_new : (w : Option Chain) → DriveMade w c old mid m n → old.book.made < c.session.0
  drive_new None made = let later = made.ready.order.web_later in let top = made.top in omega (arith, later, top)
  drive_new (Some v) made = let run : GraphRunOf (run_state old.book []) (making_drive_events (Some v) c) (run_state mid.book []) = drive_run (Some v) c old mid m n made in let first = run.1.1 in omega (arith, first)

  drive_grown : (w : Option Chain) → DriveMade w c old mid m n → Grown w (drive_ids c) old mid
  drive_grown w made = three_grown (three_of c) old mid m n w (record { order = made.ready.order; top = made.top; middle = drive_new w made; grows = made.grows })

pub objects_grown : (a : Opening) (w : Option Chain) (o : OpenObjects) (old mid : Objects Obj) (m n : Heard) → MakesObjectsOf a w o old mid m n → Grown w (objects_ids o) old mid
objects_grown a w (objects.Chain kind chain) old mid m n (other, same, made) = chain_grown kind chain old mid m n w made
objects_grown a w (objects.Web port own chain) old mid m n (by_web, same, from, made) = web_grown chain old mid m n w made.made
objects_grown a w (objects.Drive port own chain) old mid m n (by_drive, same, from, made) = drive_grown chain old mid m n w made.made

-- what both calls leave
module _ (w : Option Chain) (b : Begun) (old mid new : Objects Obj) (grown : Grown w (objects_ids b.«open».objects) old mid) where
  leaves_with : (others : KeepsOthers (is_one_of (objects_ids b.«open».objects)) mid new) → new.book.room ≡ mid.book.room → length new.book.objects + count_waiting w ≡ length old.book.objects + count_after b.ended b.«open» → LeavesElse w b old new
  leaves_with others room number =
      let same = others.same_made in
      let few = grown.few in
      let later = grown.later in
      record {
        same_room = room ∙ grown.same_room;
        few = omega (arith, same, few);
        later = omega (arith, same, later);
        number = number;
        others = λ y low far. keeps_both old mid new y (grown.others y low far) (others.others y (omega (arith, low, later)) far);
        fresh = grown.fresh;
      }

  pub leaves_else : GoesOnOr b.ended b.«open» mid new → LeavesElse w b old new
  leaves_else = by b.ended refl
    where
      by : (ended : Option Cause) → b.ended ≡ ended → GoesOnOr ended b.«open» mid new → LeavesElse w b old new
      by None e on = leaves_with on.others on.same_room
          (let after : count_after b.ended b.«open» ≡ length (objects_ids b.«open».objects) = ap (λ z. count_after z b.«open») e in let same = on.same_number in let number = grown.number in omega (arith, after, same, number))
      by (Some cause) e released = leaves_with released.others released.same_room
          (let after : count_after b.ended b.«open» ≡ 0 = ap (λ z. count_after z b.«open») e in let gone = released.number in let number = grown.number in omega (arith, after, gone, number))
