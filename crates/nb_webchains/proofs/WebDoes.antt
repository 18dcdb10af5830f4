-- A call on the three is one on the graph of these alone, and ends all of them or none.
use Rattle.std.proofs.Common.{◌≡◌, ℕ, List, [], ◌∷◌, Option, Some, None, ◌∙◌, subst}
use Rattle.nb_ledger.specs.declared.event.Way.TheVariants as way
use Rattle.nb_ledger.specs.declared.event.GraphEvent.{GraphEvent}
use Rattle.nb_ledger.specs.declared.event.GraphEvent.TheVariants.{Entered}
use Rattle.nb_ledger.specs.Flat.{Heard, all}
use Rattle.nb_ledger.specs.Ledger.{port, rank}
use Rattle.nb_graph.specs.Deeds.{Offers, Stage, Ticks, told_of}
use Rattle.nb_graph.specs.Noded.{AreNoded}
use Rattle.nb_graph.specs.Trace.{Said}
use Rattle.nb_graph.specs.Went.{WentOne, all_of}
use Rattle.nb_graph.specs.Whole.{IsLinked, Objects, node_at, port_at}
use Rattle.nb_graph.proofs.MarkLemmas.{mark_stays}
use Rattle.nb_frames.specs.Frames.{IsOwnCall, is_one_of}
use Rattle.nb_frames.specs.Within.{ArePlain, AreStagesWithin}
use Rattle.nb_frames.proofs.FrameLemmas.{deeds_within}
use Rattle.nb_nodes.specs.declared.load.Load.{Load}
use Rattle.nb_nodes.specs.declared.obj.Obj.{Obj}
use Rattle.nb_nodes.specs.Objects.{obj_nature, rank_of_obj}
use Rattle.nb_nodes.specs.Standing.{ObjStands}
use Rattle.nb_opens.specs.Marks.{IsOfKind}
use Rattle.nb_opens.specs.Notices.{first_close}
use Rattle.nb_opens.proofs.QuietLemmas.{AreQuiet}
use Rattle.nb_chains.specs.Chains.{AreChained}
use Rattle.nb_chains.proofs.ChainCalls.{ChainCalled, chain_call, own_call}
use Rattle.nb_chains.proofs.GivingLemmas.{known_notices}
use Rattle.nb_closings.specs.Chained.{IsArrival, goes_through, offers_it, shuts_through, ticks_it}
use Rattle.nb_closings.proofs.Whole.{chains_end_whole}
use Rattle.nb_webchains.specs.declared.web_chain.WebChain.{WebChain}
use Rattle.nb_webchains.specs.Orders.{StandInOrder}
use Rattle.nb_webchains.specs.WebCalls.{AreShort, ComesOfWeb, DoesWeb, goes_on, has_closed}
use Rattle.nb_webchains.specs.WebChains.{AreOfWeb, IsOpenWeb, KeepKinds, web_ids}
use Rattle.nb_webchains.proofs.FirstCloses.{none_closed, some_closed}
use Rattle.nb_webchains.proofs.Three.{begins_none, conn_in, fetch_in, web_in}
use Rattle.nb_webchains.proofs.WebOrders.{BeginsSo, by_begin, by_segment, by_tick, in_order}

module _ (c : WebChain) (now : ℕ) (asks : List (Stage Obj Load)) (g h : Objects Obj) (m n : Heard) (chained : AreChained g (web_ids c)) (within : AreStagesWithin (is_one_of (web_ids c)) asks)
    (plain : ArePlain asks) (quiet : AreQuiet g.book.made asks) (before : AreNoded rank_of_obj g) (after : AreNoded rank_of_obj h) (k : WentOne ObjStands obj_nature now asks g h m n) where
  pub called : ChainCalled (web_ids c) now asks g h m n
  called = chain_call (web_ids c) now asks g h m n chained within plain quiet before after k

  pub its_own : IsOwnCall (web_ids c) asks g h (all_of k.deeds)
  its_own = own_call (web_ids c) now asks g h m n chained within plain quiet k

  mark_kept : (x mark : ℕ) → IsOfKind g x mark → IsOfKind h x mark
  mark_kept x mark was =
      let w = deeds_within obj_nature ObjStands now asks g h m n (is_one_of (web_ids c)) within chained.links k its_own.makes in
      mark_stays obj_nature ObjStands (node_at g) (node_at h) x mark (all_of k.deeds) (begins_none (web_ids c) x (all_of k.deeds) w.0) k.hosts was

  -- they are what they were
  pub keep_kinds : KeepKinds (web_ids c) g h
  keep_kinds = record {
    ranks = λ x i. (k.ages.kept x (chained.given x i) (its_own.stays x i)).1;
    marks = λ x mark i was. mark_kept x mark was;
  }

  pub kinds_kept : AreOfWeb c g → AreOfWeb c h
  kinds_kept are = record {
    fetch_rank = keep_kinds.ranks c.fetch.0 (fetch_in c) ∙ are.fetch_rank;
    fetch = keep_kinds.marks c.fetch.0 0 (fetch_in c) are.fetch;
    web = keep_kinds.marks c.web.0 2 (web_in c) are.web;
    conn = keep_kinds.marks c.conn.0 3 (conn_in c) are.conn;
  }

-- the same call, of which the outside knows all
module _ (c : WebChain) (now : ℕ) (asks : List (Stage Obj Load)) (g h : Objects Obj) (m n : Heard) (chained : AreChained g (web_ids c)) (within : AreStagesWithin (is_one_of (web_ids c)) asks)
    (plain : ArePlain asks) (quiet : AreQuiet g.book.made asks) (z : ChainCalled (web_ids c) now asks g h m n) (links : IsLinked (port g.book) (rank g.book)) (arrives : IsArrival asks) where
  known : WentOne ObjStands obj_nature now asks g h (all []) (all z.ns)
  known = z.whole []

  told : told_of (all_of known.deeds) ≡ z.ns
  told = known_notices z.ns (told_of (all_of known.deeds)) known.tells

  pub comes_so : IsOpenWeb c g → ComesOfWeb c h z.ns
  comes_so o =
      elim (chains_end_whole (web_ids c) now asks g h (all []) (all z.ns) links known (own_call (web_ids c) now asks g h (all []) (all z.ns) chained within plain quiet known) arrives o.through) [
        | goes_through e t ↦ goes_on (subst (λ xs. first_close xs ≡ None) told (none_closed (all_of known.deeds) e)) (record { order = o.order; through = t })
        | shuts_through e t ↦ let i = some_closed (all_of known.deeds) e in has_closed i.0 (subst (λ xs. first_close xs ≡ Some i.0) told i.1) (record { order = o.order; through = t })
      ]

-- what a message or a time does to them
module _ (c : WebChain) (now : ℕ) (entry : Option GraphEvent) (asks : List (Stage Obj Load)) (g h : Objects Obj) (m n : Heard) (chained : AreChained g (web_ids c)) (within : AreStagesWithin (is_one_of (web_ids c)) asks)
    (plain : ArePlain asks) (quiet : AreQuiet g.book.made asks) (before : AreNoded rank_of_obj g) (after : AreNoded rank_of_obj h) (links : IsLinked (port g.book) (rank g.book)) (arrives : IsArrival asks) (begins_so : BeginsSo c entry asks) (k : WentOne ObjStands obj_nature now asks g h m n) where
  ordered : (z : ChainCalled (web_ids c) now asks g h m n) → IsOpenWeb c g → AreOfWeb c g → AreShort asks → StandInOrder c.conn.0 entry z.ns
  ordered z o are short =
      let known = z.whole [] in
      subst (StandInOrder c.conn.0 entry) (known_notices z.ns (told_of (all_of known.deeds)) known.tells)
      (in_order c entry asks begins_so short now g h (all []) (all z.ns) chained within links after (kinds_kept c now asks g h m n chained within plain quiet before after k are) known (own_call (web_ids c) now asks g h (all []) (all z.ns) chained within plain quiet known) o)

  pub does_web : DoesWeb c now asks entry g h m n
  does_web =
      let z = called c now asks g h m n chained within plain quiet before after k in
      record {
        ns = z.ns;
        gives = z.gives;
        own = z.alone;
        comes = comes_so c now asks g h m n chained within plain quiet z links arrives;
        order = ordered z;
        kinds = kinds_kept c now asks g h m n chained within plain quiet before after k;
        keeps = keep_kinds c now asks g h m n chained within plain quiet before after k;
        noded = after;
        still = z.on.chained;
      }

module _ (c : WebChain) (now : ℕ) (g h : Objects Obj) (m n : Heard) (chained : AreChained g (web_ids c)) (before : AreNoded rank_of_obj g) (after : AreNoded rank_of_obj h) where
  pub offered_top : (w : Said) → WentOne ObjStands obj_nature now (Offers (port_at c.fetch.0 0) w ∷ []) g h m n → ChainCalled (web_ids c) now (Offers (port_at c.fetch.0 0) w ∷ []) g h m n
  offered_top w k = called c now (Offers (port_at c.fetch.0 0) w ∷ []) g h m n chained (fetch_in c, tt) (tt, tt) (tt, tt) before after k

  pub offered_last : (w : Said) → WentOne ObjStands obj_nature now (Offers (port_at c.conn.0 1) w ∷ []) g h m n → ChainCalled (web_ids c) now (Offers (port_at c.conn.0 1) w ∷ []) g h m n
  offered_last w k = called c now (Offers (port_at c.conn.0 1) w ∷ []) g h m n chained (conn_in c, tt) (tt, tt) (tt, tt) before after k

  pub ticked_last : WentOne ObjStands obj_nature now (Ticks c.conn.0 ∷ []) g h m n → ChainCalled (web_ids c) now (Ticks c.conn.0 ∷ []) g h m n
  ticked_last k = called c now (Ticks c.conn.0 ∷ []) g h m n chained (conn_in c, tt) (tt, tt) (tt, tt) before after k

  pub top_keeps : (w : Said) → WentOne ObjStands obj_nature now (Offers (port_at c.fetch.0 0) w ∷ []) g h m n → KeepKinds (web_ids c) g h
  top_keeps w k = keep_kinds c now (Offers (port_at c.fetch.0 0) w ∷ []) g h m n chained (fetch_in c, tt) (tt, tt) (tt, tt) before after k

  pub last_keeps : (w : Said) → WentOne ObjStands obj_nature now (Offers (port_at c.conn.0 1) w ∷ []) g h m n → KeepKinds (web_ids c) g h
  last_keeps w k = keep_kinds c now (Offers (port_at c.conn.0 1) w ∷ []) g h m n chained (conn_in c, tt) (tt, tt) (tt, tt) before after k

  pub tick_keeps : WentOne ObjStands obj_nature now (Ticks c.conn.0 ∷ []) g h m n → KeepKinds (web_ids c) g h
  tick_keeps k = keep_kinds c now (Ticks c.conn.0 ∷ []) g h m n chained (conn_in c, tt) (tt, tt) (tt, tt) before after k

  module _ (links : IsLinked (port g.book) (rank g.book)) where
    pub does_top : (w : Said) → WentOne ObjStands obj_nature now (Offers (port_at c.fetch.0 0) w ∷ []) g h m n → DoesWeb c now (Offers (port_at c.fetch.0 0) w ∷ []) None g h m n
    does_top w k = does_web c now None (Offers (port_at c.fetch.0 0) w ∷ []) g h m n chained (fetch_in c, tt) (tt, tt) (tt, tt) before after links (offers_it (port_at c.fetch.0 0) w) (by_begin w) k

    pub does_last : (w : Said) → WentOne ObjStands obj_nature now (Offers (port_at c.conn.0 1) w ∷ []) g h m n → DoesWeb c now (Offers (port_at c.conn.0 1) w ∷ []) (Some (Entered (port_at c.conn.0 1) way.Up)) g h m n
    does_last w k = does_web c now (Some (Entered (port_at c.conn.0 1) way.Up)) (Offers (port_at c.conn.0 1) w ∷ []) g h m n chained (conn_in c, tt) (tt, tt) (tt, tt) before after links (offers_it (port_at c.conn.0 1) w) (by_segment w) k

    pub does_tick : WentOne ObjStands obj_nature now (Ticks c.conn.0 ∷ []) g h m n → DoesWeb c now (Ticks c.conn.0 ∷ []) (Some (Entered (port_at c.conn.0 4) way.Time)) g h m n
    does_tick k = does_web c now (Some (Entered (port_at c.conn.0 4) way.Time)) (Ticks c.conn.0 ∷ []) g h m n chained (conn_in c, tt) (tt, tt) (tt, tt) before after links (ticks_it c.conn.0) by_tick k
