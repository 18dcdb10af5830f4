-- Where the user closes both ports of the top one, all three end.
use Rattle.std.proofs.Common.{◌≡◌, ℕ, List, [], ◌∷◌, ◌++◌, None, refl, sym, ap, ◌∙◌, subst}
use Rattle.nb_terms.specs.declared.cause.Cause.{Cause}
use Rattle.nb_ledger.specs.declared.event.GraphEvent.TheVariants.{Closed}
use Rattle.nb_ledger.specs.Flat.{Heard, Notice, all}
use Rattle.nb_ledger.specs.Ledger.{port, rank}
use Rattle.nb_graph.specs.Deeds.{Closes, told_of}
use Rattle.nb_graph.specs.Noded.{AreNoded}
use Rattle.nb_graph.specs.Scene.{scene_of}
use Rattle.nb_graph.specs.Went.{WentOne, all_of}
use Rattle.nb_graph.specs.Whole.{IsLinked, Objects, port_at}
use Rattle.nb_frames.specs.Frames.{is_one_of}
use Rattle.nb_frames.specs.Within.{IsEventWithin}
use Rattle.nb_nodes.specs.declared.obj.Obj.{Obj}
use Rattle.nb_nodes.specs.Objects.{obj_nature, rank_of_obj}
use Rattle.nb_nodes.specs.Standing.{ObjStands}
use Rattle.nb_opens.specs.Notices.{tells}
use Rattle.nb_opens.proofs.Shutting.{ClosesAlone, closes_alone}
use Rattle.nb_chains.specs.Chains.{AreChained, AreStillChained}
use Rattle.nb_chains.proofs.ChainCalls.{ChainCalled, own_call}
use Rattle.nb_chains.proofs.GivingLemmas.{gives_both, known_notices}
use Rattle.nb_chains.proofs.GoingOn.{goes_both}
use Rattle.nb_closings.proofs.Whole.{chains_are_shut}
use Rattle.nb_webchains.specs.declared.web_chain.WebChain.{WebChain}
use Rattle.nb_webchains.specs.Orders.{StandInOrder}
use Rattle.nb_webchains.specs.WebCalls.{ClosesWeb}
use Rattle.nb_webchains.specs.WebChains.{AreOfWeb, IsOpenWeb, IsShutWeb, KeepKinds, web_graph, web_ids}
use Rattle.nb_webchains.proofs.Downward.{port_closed_opens}
use Rattle.nb_webchains.proofs.EntryDowns.{hidden_later}
use Rattle.nb_webchains.proofs.Three.{fetch_in}
use Rattle.nb_webchains.proofs.WebDoes.{called, its_own, keep_kinds, kinds_kept}
use Rattle.nb_webchains.proofs.WebOrders.{closing_order, is_hidden}

module _ (c : WebChain) (g a h : Objects Obj) (m n o : Heard) (now : ℕ) (cause : Cause) (chained : AreChained g (web_ids c)) (first : AreNoded rank_of_obj g) (mid : AreNoded rank_of_obj a) (end : AreNoded rank_of_obj h)
    (one : WentOne ObjStands obj_nature now (Closes (port_at c.fetch.0 0) cause ∷ []) g a m n) (two : WentOne ObjStands obj_nature now (Closes (port_at c.fetch.0 1) cause ∷ []) a h n o) where
  one_called : ChainCalled (web_ids c) now (Closes (port_at c.fetch.0 0) cause ∷ []) g a m n
  one_called = called c now (Closes (port_at c.fetch.0 0) cause ∷ []) g a m n chained (fetch_in c, tt) (tt, tt) (tt, tt) first mid one

  two_called : ChainCalled (web_ids c) now (Closes (port_at c.fetch.0 1) cause ∷ []) a h n o
  two_called = called c now (Closes (port_at c.fetch.0 1) cause ∷ []) a h n o one_called.on.chained (fetch_in c, tt) (tt, tt) (tt, tt) mid end two

  pub close_on : AreStillChained (web_ids c) g h
  close_on = goes_both (web_ids c) g a h one_called.on two_called.on

  abbrev ns : List Notice
  ns = one_called.ns ++ two_called.ns

  pub close_keeps : KeepKinds (web_ids c) g h
  close_keeps =
      let i = keep_kinds c now (Closes (port_at c.fetch.0 0) cause ∷ []) g a m n chained (fetch_in c, tt) (tt, tt) (tt, tt) first mid one in
      let j = keep_kinds c now (Closes (port_at c.fetch.0 1) cause ∷ []) a h n o one_called.on.chained (fetch_in c, tt) (tt, tt) (tt, tt) mid end two in
      record { ranks = λ x own. j.ranks x own ∙ i.ranks x own; marks = λ x mark own was. j.marks x mark own (i.marks x mark own was) }

  all_kinds : AreOfWeb c g → AreOfWeb c h
  all_kinds are = kinds_kept c now (Closes (port_at c.fetch.0 1) cause ∷ []) a h n o one_called.on.chained (fetch_in c, tt) (tt, tt) (tt, tt) mid end two
      (kinds_kept c now (Closes (port_at c.fetch.0 0) cause ∷ []) g a m n chained (fetch_in c, tt) (tt, tt) (tt, tt) first mid one are)

  module _ (links : IsLinked (port g.book) (rank g.book)) where
    all_shut : IsOpenWeb c g → IsShutWeb c h
    all_shut is = record {
      order = is.order;
      through = chains_are_shut c.fetch.0 (c.web.0 ∷ c.conn.0 ∷ []) now cause g a h m n o links one (its_own c now (Closes (port_at c.fetch.0 0) cause ∷ []) g a m n chained (fetch_in c, tt) (tt, tt) (tt, tt) first mid one)
          two (its_own c now (Closes (port_at c.fetch.0 1) cause ∷ []) a h n o one_called.on.chained (fetch_in c, tt) (tt, tt) (tt, tt) mid end two) is.through;
    }

    -- first the port to the user is closed alone
    module _ (is : IsOpenWeb c g) where
      alone : ClosesAlone g a (all []) (all one_called.ns) (port_at c.fetch.0 0) cause
      alone = closes_alone g a (all []) (all one_called.ns) now (port_at c.fetch.0 0) cause is.through.ports.0 (one_called.whole [])

      one_told : one_called.ns ≡ tells (Closed (port_at c.fetch.0 0) cause) ∷ []
      one_told = sym (known_notices one_called.ns (tells (Closed (port_at c.fetch.0 0) cause) ∷ []) alone.told)

      begins : (rest : List Notice) × (ns ≡ tells (Closed (port_at c.fetch.0 0) cause) ∷ rest)
      begins = (two_called.ns, ap (λ xs. xs ++ two_called.ns) one_told)

      -- what goes down then does so on an entry of the connection
      in_order : AreOfWeb c g → StandInOrder c.conn.0 None ns
      in_order are =
          let known = two_called.whole [] in
          let hidden = hidden_later (web_ids c) c.fetch.0 c.conn.0 (scene_of g.book) (scene_of a.book) (port_closed_opens (scene_of g.book) (scene_of a.book) (port_at c.fetch.0 0) alone.ports) (is_hidden c g is links) in
          let rest = closing_order c (port_at c.fetch.0 1) cause now a h (all []) (all two_called.ns) one_called.on.chained (fetch_in c) end (all_kinds are) known
          (own_call (web_ids c) now (Closes (port_at c.fetch.0 1) cause ∷ []) a h (all []) (all two_called.ns) one_called.on.chained (fetch_in c, tt) (tt, tt) (tt, tt) known) is.order hidden in
          let r : StandInOrder c.conn.0 None two_called.ns = subst (StandInOrder c.conn.0 None) (known_notices two_called.ns (told_of (all_of known.deeds)) known.tells) rest in
          subst (StandInOrder c.conn.0 None) (sym (ap (λ xs. xs ++ two_called.ns) one_told)) (r.0, ((Closed (port_at c.fetch.0 0) cause, refl, tt), r.1))

    pub closes_web : ClosesWeb c g h cause m o
    closes_web = record {
      ns = ns;
      gives = gives_both (IsEventWithin (is_one_of (web_ids c))) g a h m n o one_called.ns two_called.ns one_called.gives two_called.gives;
      own = record { now = now; mid = web_graph c a; first = one_called.ns; second = two_called.ns; are = refl; upper = one_called.alone; lower = two_called.alone };
      shut = all_shut;
      first = begins;
      order = in_order;
      kinds = all_kinds;
      keeps = close_keeps;
      noded = end;
      still = close_on.chained;
    }
