-- The objects of a chain are made.
use Rattle.std.proofs.Common.{◌≡◌, ℕ, ◌<◌, ◌≤◌, true, [], ◌∷◌, ◌++◌, Option, Some, None, refl, sym, ap, ◌∙◌, subst, arith}
use Rattle.nb_ledger.specs.declared.port.ObjId.{ObjId}
use Rattle.nb_ledger.specs.declared.event.GraphEvent.TheVariants.{Held, Plugged}
use Rattle.nb_ledger.specs.declared.port.PortState.TheVariants as port
use Rattle.nb_ledger.specs.Flat.{Heard}
use Rattle.nb_ledger.specs.Ledger.{rank, port as port_in}
use Rattle.nb_graph.specs.Deeds.{MustMake, MustPlug, Wants}
use Rattle.nb_graph.specs.Noded.{AreNoded}
use Rattle.nb_graph.specs.Went.{WentOne}
use Rattle.nb_graph.specs.Whole.{Objects, IsMade, port_at}
use Rattle.nb_frames.specs.Frames.{graph_of, is_one_of}
use Rattle.nb_frames.proofs.MadeLemmas.{made_keeps}
use Rattle.nb_nodes.specs.declared.obj.Obj.{Obj}
use Rattle.nb_nodes.specs.Objects.{obj_nature, rank_of_obj, kind_of_obj, mark_of_obj}
use Rattle.nb_nodes.specs.Standing.{ObjStands}
use Rattle.nb_opens.specs.AloneNotices.{alone_made}
use Rattle.nb_opens.specs.Alones.{IsUnasked}
use Rattle.nb_opens.specs.Notices.{tells, completed_notices}
use Rattle.nb_opens.specs.Pairs.{AreMade, IsNewTftp}
use Rattle.nb_chains.specs.declared.chain.Chain.{Chain}
use Rattle.nb_chains.specs.declared.kind.ChainKind.{ChainKind}
use Rattle.nb_chains.specs.declared.kind.ChainKind.TheVariants.{File, Name, Lease, Echo, Drive}
use Rattle.nb_chains.specs.Kinds.{IsLowerOf, top_mark, top_number, top_rank}
use Rattle.nb_chains.specs.Chains.{Awaits, GrowsBy, IsFresh, IsReadyChain, below_ids, chain_ids, completes_notices, waits_notices}
use Rattle.nb_chains.specs.Giving.{CallGives, IsMakeWithin, MakingGives}
use Rattle.nb_chains.proofs.ChainDoes.{top_in}
use Rattle.nb_chains.proofs.FreshOnes.{fresh_kept, fresh_ready, made_fresh, made_gives, one_grows, sole_in, sole_is}
use Rattle.nb_chains.proofs.GivingLemmas.{gives_both, gives_more, gives_none, more_making}
use Rattle.nb_chains.proofs.GoingOn.{keeps_both}
use Rattle.nb_chains.proofs.MakingOne.{OneMade, one_made}
use Rattle.nb_chains.proofs.OfTwo.{other_in}
use Rattle.nb_chains.proofs.Plugging.{plug_chained, plug_gives, plug_made, plug_number, plug_others, plug_ready, plug_room}

-- the top object
module _ (g h : Objects Obj) (m n : Heard) (kind : ChainKind) (x : ObjId) (node : Obj) (stands : ObjStands node []) (made : IsMade g h node (rank_of_obj node) x) (k : WentOne ObjStands obj_nature 0 (MustMake x node ∷ Wants (Held x) ∷ []) g h m n) where
  top_one : OneMade g h x.0 node
  top_one = one_made g h m n 0 x node stands made k

  pub top_awaits : rank_of_obj node ≡ top_rank kind → mark_of_obj node ≡ top_mark kind → Awaits kind (record { top = x; below = None }) h
  top_awaits r i = record { alone = refl; fresh = subst (λ (z : ℕ). IsFresh h x.0 (top_rank kind) z) i (subst (λ (z : ℕ). IsFresh h x.0 z (mark_of_obj node)) r (made_fresh g h m n x node top_one)) }

  pub top_grows : GrowsBy 1 (record { top = x; below = None }) g h
  top_grows = one_grows g h m n x node stands made k top_one

  pub top_gives : kind_of_obj node ≡ top_number kind → MakingGives (record { top = x; below = None }) g h m n (waits_notices kind x.0)
  top_gives e = subst (λ (z : ℕ). CallGives (IsMakeWithin (is_one_of (x.0 ∷ []))) g h m n (alone_made x.0 z)) e (made_gives g h m n x node k (is_one_of (x.0 ∷ [])) (sole_in x.0))

-- one that has nothing below it is ready as it waits
pub ready_so : (kind : ChainKind) (c : Chain) (g : Objects Obj) → AreNoded rank_of_obj g → Awaits kind c g → IsLowerOf kind None → IsReadyChain kind c g
ready_so File c g noded w h = absurd h
ready_so Name c g noded w h = (w.alone, subst (λ (b : Option ObjId). IsUnasked (graph_of (c.top.0 ∷ below_ids b) g) c.top.0 5) (sym w.alone) (fresh_ready g noded c.top.0 2 5 w.fresh))
ready_so Lease c g noded w h = (w.alone, subst (λ (b : Option ObjId). IsUnasked (graph_of (c.top.0 ∷ below_ids b) g) c.top.0 6) (sym w.alone) (fresh_ready g noded c.top.0 2 6 w.fresh))
ready_so Echo c g noded w h = (w.alone, subst (λ (b : Option ObjId). IsUnasked (graph_of (c.top.0 ∷ below_ids b) g) c.top.0 7) (sym w.alone) (fresh_ready g noded c.top.0 5 7 w.fresh))
ready_so Drive c g noded w h = (w.alone, subst (λ (b : Option ObjId). IsUnasked (graph_of (c.top.0 ∷ below_ids b) g) c.top.0 9) (sym w.alone) (fresh_ready g noded c.top.0 5 9 w.fresh))

-- and nothing more is made of it
pub completes_none : (kind : ChainKind) (c : Chain) (g : Objects Obj) (m : Heard) → IsLowerOf kind None → MakingGives c g g m m (completes_notices kind c)
completes_none File c g m h = absurd h
completes_none Name c g m h = gives_none (IsMakeWithin (is_one_of (chain_ids c))) g m
completes_none Lease c g m h = gives_none (IsMakeWithin (is_one_of (chain_ids c))) g m
completes_none Echo c g m h = gives_none (IsMakeWithin (is_one_of (chain_ids c))) g m
completes_none Drive c g m h = gives_none (IsMakeWithin (is_one_of (chain_ids c))) g m

-- a Tftp is made below a Fetch that waits
module _ (g a : Objects Obj) (m n : Heard) (x : ℕ) (y : ObjId) (node : Obj) (f : IsFresh g x 5 0) (stands : ObjStands node []) (is : IsNewTftp node) (made : IsMade g a node (rank_of_obj node) y) (k : WentOne ObjStands obj_nature 0 (MustMake y node ∷ Wants (Held y) ∷ []) g a m n) where
  low_one : OneMade g a y.0 node
  low_one = one_made g a m n 0 y node stands made k

  pub older : x < y.0
  older = let i = f.given in let e = made.serial in omega (arith, i, e)

  later : g.book.made ≤ a.book.made
  later = let i = low_one.made in let e = made.serial in omega (arith, i, e)

  pub top_fresh : IsFresh a x 5 0
  top_fresh = fresh_kept g a x 5 0 f (made_keeps obj_nature ObjStands 0 y node g a m n k x f.given) later

  pub low_fresh : IsFresh a y.0 2 0
  low_fresh = subst (λ (z : ℕ). IsFresh a y.0 2 z) is.2 (subst (λ (z : ℕ). IsFresh a y.0 z (mark_of_obj node)) is.1 (made_fresh g a m n y node low_one))

  pub ranks_fall : rank a.book y.0 < rank a.book x
  ranks_fall = let i = top_fresh.ranked in let j = low_fresh.ranked in omega (arith, i, j)

  pub upper_open : port_in a.book x 1 ≡ port.Open
  upper_open = top_fresh.ports 1

  pub lower_open : port_in a.book y.0 0 ≡ port.Open
  lower_open = low_fresh.ports 0

  module _ (h : Objects Obj) (o : Heard) (j : WentOne ObjStands obj_nature 0 (MustPlug (port_at x 1) (port_at y.0 0) ∷ []) a h n o) where
    pub two_ready : AreNoded rank_of_obj h → AreMade (graph_of (x ∷ y.0 ∷ []) h) x y.0
    two_ready noded = plug_ready a h n o x y.0 older top_fresh low_fresh j noded

    pub two_grow : GrowsBy 1 (record { top = record { 0 = x }; below = Some y }) g h
    two_grow = record {
      chained = plug_chained a h n o x y.0 older top_fresh low_fresh j;
      made = plug_made a h n o x y.0 older top_fresh low_fresh j ∙ (low_one.made ∙ made.serial);
      number = plug_number a h n o x y.0 older top_fresh low_fresh j ∙ low_one.number;
      same_room = plug_room a h n o x y.0 older top_fresh low_fresh j ∙ low_one.room;
      others = λ z low far. keeps_both g a h z (made_keeps obj_nature ObjStands 0 y node g a m n k z low) ((plug_others a h n o x y.0 older top_fresh low_fresh j).others z (let i = later in omega (arith, i, low)) far);
    }

    pub two_give : MakingGives (record { top = record { 0 = x }; below = Some y }) g h m o (completed_notices x y.0)
    two_give =
        let own = is_one_of (x ∷ y.0 ∷ []) in
        let low = subst (λ (z : ℕ). CallGives (IsMakeWithin own) g a m n (alone_made y.0 z)) is.0 (made_gives g a m n y node k own (other_in x y.0)) in
        gives_both (IsMakeWithin own) g a h m n o (alone_made y.0 4) (tells (Plugged (port_at x 1) (port_at y.0 0)) ∷ []) low (plug_gives a h n o x y.0 older top_fresh low_fresh j)

-- a chain is made, and then the rest of it: the top object is one of the whole
pub gives_all : (kind : ChainKind) (c d : Chain) (g a h : Objects Obj) (m n o : Heard) → Awaits kind c a → d.top ≡ c.top → MakingGives c g a m n (waits_notices kind c.top.0) → MakingGives d a h n o (completes_notices kind d)
    → MakingGives d g h m o (waits_notices kind d.top.0 ++ completes_notices kind d)
gives_all kind c d g a h m n o waits same i j =
    let x : d.top.0 ≡ c.top.0 = ap (λ (z : ObjId). z.0) same in
    let own = IsMakeWithin (is_one_of (chain_ids d)) in
    let sole : Option ObjId → Type 0 = λ b. (y : ℕ) → is_one_of (c.top.0 ∷ below_ids b) y ≡ true → is_one_of (chain_ids d) y ≡ true in
    let among : sole c.below = subst sole (sym waits.alone) (λ y e. ap (is_one_of (chain_ids d)) (sole_is c.top.0 y e ∙ sym x) ∙ top_in d) in
    let first = gives_more (IsMakeWithin (is_one_of (chain_ids c))) own (λ e q. more_making (is_one_of (chain_ids c)) (is_one_of (chain_ids d)) among e q) g a m n (waits_notices kind c.top.0) i in
    gives_both own g a h m n o (waits_notices kind d.top.0) (completes_notices kind d) (subst (λ (z : ℕ). CallGives own g a m n (waits_notices kind z)) (sym x) first) j
