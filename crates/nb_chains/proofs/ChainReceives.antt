-- What a chain does where a message or a time comes to its last object.
use Rattle.std.proofs.Common.{ℕ, ◌<◌, ◌^◌, List, [], ◌∷◌, length, Option, Some, subst}
use Rattle.nb_ledger.specs.declared.event.GraphEvent.{GraphEvent}
use Rattle.nb_ledger.specs.declared.event.GraphEvent.TheVariants.{Entered}
use Rattle.nb_ledger.specs.declared.event.Way.TheVariants as way
use Rattle.nb_ledger.specs.declared.port.ObjId.{ObjId}
use Rattle.nb_ledger.specs.Flat.{Heard, all}
use Rattle.nb_graph.specs.Deeds.{Offers, Stage, Ticks, told_of}
use Rattle.nb_graph.specs.Noded.{AreNoded}
use Rattle.nb_graph.specs.Trace.{Said}
use Rattle.nb_graph.specs.Went.{WentOne, all_of}
use Rattle.nb_graph.specs.Whole.{Objects, port_at}
use Rattle.nb_nodes.specs.declared.load.Load.{Load}
use Rattle.nb_nodes.specs.declared.obj.Obj.{Obj}
use Rattle.nb_nodes.specs.EchoExchanges.{ping_service}
use Rattle.nb_nodes.specs.LeaseExchanges.{lease_service}
use Rattle.nb_nodes.specs.LookupExchanges.{lookup_service}
use Rattle.nb_nodes.specs.Objects.{obj_nature, rank_of_obj}
use Rattle.nb_nodes.specs.Standing.{ObjStands}
use Rattle.nb_opens.specs.Pairs.{CallDoes}
use Rattle.nb_opens.proofs.Hearing.{hear_does, tick_does}
use Rattle.nb_opens.proofs.LoneCertain.{LookAsks, LeaseAsks, PingAsks}
use Rattle.nb_opens.proofs.LoneDoes.{receives_each, ticks_each}
use Rattle.nb_opens.proofs.LoneStarts.{look_kind, lease_kind, ping_kind}
use Rattle.nb_tftp.specs.History.{came, ticked}
use Rattle.nb_tftp.specs.Received.{received}
use Rattle.nb_chains.specs.declared.chain.Chain.{Chain}
use Rattle.nb_chains.specs.declared.kind.ChainKind.{ChainKind}
use Rattle.nb_chains.specs.declared.kind.ChainKind.TheVariants.{File, Name, Lease, Echo, Drive}
use Rattle.nb_chains.specs.Calls.{CallsTwo, ComesOf, IsChainUnderWay, ReceivesAny, ReceivesChain, ReceivesOne, TicksAny, TicksChain, TicksOne}
use Rattle.nb_chains.specs.Chains.{AreChained, chain_ids, last_below, last_serial, own_graph, source_for}
use Rattle.nb_chains.specs.Shapes.{HasShapeOrFails}
use Rattle.nb_chains.proofs.ChainCalls.{ChainCalled}
use Rattle.nb_chains.proofs.ChainDoes.{at_lower, at_top, offered_last}
use Rattle.nb_chains.proofs.Comings.{one_comes, one_receives_so, two_comes}
use Rattle.nb_chains.proofs.GivingLemmas.{known_notices}
use Rattle.nb_chains.proofs.ShapesDone.{lease_gives, lookup_gives, one_asks, one_receives, ping_gives, two_called}

-- the entries by which they come
abbrev from_below : ℕ → Option GraphEvent
from_below x = Some (Entered (port_at x 1) way.Up)

abbrev by_time : ℕ → Option GraphEvent
by_time x = Some (Entered (port_at x 4) way.Time)

-- a message, by what is below the top object
abbrev pub message_at : ℕ → Option ObjId → ℕ → ℕ → ℕ → List ℕ → List (Stage Obj Load)
message_at x b rec port source bytes = Offers (port_at (last_below x b) 1) (record { tag = 2; rec = rec; a = port; b = source_for b source; bytes = bytes }) ∷ []

pub message_on : (c : Chain) (g h : Objects Obj) (m n : Heard) (now : ℕ) → AreChained g (chain_ids c) → AreNoded rank_of_obj g → AreNoded rank_of_obj h → (rec port source : ℕ) (bytes : List ℕ)
    → WentOne ObjStands obj_nature now (message_at c.top.0 c.below rec port source bytes) g h m n → ChainCalled (chain_ids c) now (message_at c.top.0 c.below rec port source bytes) g h m n
message_on c g h m n now chained before after rec port source bytes k = offered_last c g h m n now chained before after (record { tag = 2; rec = rec; a = port; b = source_for c.below source; bytes = bytes }) k

module _ (c : Chain) (g h : Objects Obj) (m n : Heard) (now rec port source : ℕ) (bytes : List ℕ) (small : port < 2 ^ 16) (short : length bytes < 2 ^ 32) (z : ChainCalled (chain_ids c) now (message_at c.top.0 c.below rec port source bytes) g h m n) where
  -- on its objects alone
  abbrev Alone : List (Stage Obj Load) → Type 0
  Alone asks = WentOne ObjStands obj_nature now asks (own_graph c g) (own_graph c h) (all []) (all z.ns)

  abbrev said : Said
  said = record { tag = 2; rec = rec; a = port; b = source; bytes = bytes }

  receives_two : CallsTwo c g h (λ t. port_at t 1) way.Up rec (came (received rec port bytes) now) z.ns
  receives_two = λ t e b start calls body down.
      let d = hear_does (own_graph c g) (own_graph c h) (all []) (all z.ns) now c.top.0 t.0 rec port bytes small short z.noded
      (subst (λ (w : Option ObjId). Alone (message_at c.top.0 w rec port source bytes)) e (z.alone [])) in
      subst (CallDoes (own_graph c h) c.top.0 t.0 b start calls body (port_at t.0 1) way.Up rec (came (received rec port bytes) now)) (known_notices z.ns d.0 d.1) (d.2 b start calls body down)

  receives_one : ReceivesOne c g h said now z.ns
  receives_one = λ e.
      let x = c.top.0 in
      let w : Alone (Offers (port_at x 1) said ∷ []) = subst (λ (b : Option ObjId). Alone (message_at x b rec port source bytes)) e (z.alone []) in
      subst (ReceivesAny (own_graph c g) (own_graph c h) x said now) (known_notices z.ns (told_of (all_of w.deeds)) w.tells) (record {
        lookup = receives_each lookup_service LookAsks 5 look_kind (own_graph c g) (own_graph c h) (all []) (all z.ns) now x said short z.noded w;
        lease = receives_each lease_service LeaseAsks 6 lease_kind (own_graph c g) (own_graph c h) (all []) (all z.ns) now x said short z.noded w;
        ping = receives_each ping_service PingAsks 7 ping_kind (own_graph c g) (own_graph c h) (all []) (all z.ns) now x said short z.noded w;
      })

  receives_shape : (kind : ChainKind) → IsChainUnderWay kind c g → HasShapeOrFails (last_serial c) (from_below (last_serial c)) z.ns
  receives_shape File (t, e, (b, start, calls, body, d)) =
      at_lower c t from_below z.ns e (two_called (own_graph c h) c.top.0 t.0 b start calls body (port_at t.0 1) way.Up rec (came (received rec port bytes) now) z.ns d.joined.two.older (receives_two t e b start calls body d))
  receives_shape Name (e, (b, start, calls, d)) =
      at_top c from_below z.ns e (one_receives lookup_service 5 (own_graph c h) c.top.0 b lookup_gives start calls said now z.ns ((receives_one e).lookup b start calls d))
  receives_shape Lease (e, (b, start, calls, d)) =
      at_top c from_below z.ns e (one_receives lease_service 6 (own_graph c h) c.top.0 b lease_gives start calls said now z.ns ((receives_one e).lease b start calls d))
  receives_shape Echo (e, (b, start, calls, d)) =
      at_top c from_below z.ns e (one_receives ping_service 7 (own_graph c h) c.top.0 b ping_gives start calls said now z.ns ((receives_one e).ping b start calls d))
  receives_shape Drive u = absurd u

  receives_so : (kind : ChainKind) → IsChainUnderWay kind c g → ComesOf kind c h z.ns
  receives_so File (t, e, (b, start, calls, body, d)) = two_comes c h t e b start calls body (port_at t.0 1) way.Up rec (came (received rec port bytes) now) z.ns (receives_two t e b start calls body d)
  receives_so Name (e, (b, start, calls, d)) = one_receives_so c h e Name lookup_service 5 (λ w. (e, w)) b start calls said now z.ns ((receives_one e).lookup b start calls d)
  receives_so Lease (e, (b, start, calls, d)) = one_receives_so c h e Lease lease_service 6 (λ w. (e, w)) b start calls said now z.ns ((receives_one e).lease b start calls d)
  receives_so Echo (e, (b, start, calls, d)) = one_receives_so c h e Echo ping_service 7 (λ w. (e, w)) b start calls said now z.ns ((receives_one e).ping b start calls d)
  receives_so Drive u = absurd u

  pub receives_chain : ReceivesChain c g h rec (came (received rec port bytes) now) said now m n
  receives_chain = record { ns = z.ns; gives = z.gives; file = receives_two; one = receives_one; shape = receives_shape; comes = receives_so }

module _ (c : Chain) (g h : Objects Obj) (m n : Heard) (now : ℕ) (z : ChainCalled (chain_ids c) now (Ticks (last_serial c) ∷ []) g h m n) where
  abbrev TickedAlone : ℕ → Type 0
  TickedAlone x = WentOne ObjStands obj_nature now (Ticks x ∷ []) (own_graph c g) (own_graph c h) (all []) (all z.ns)

  ticks_two : CallsTwo c g h (λ t. port_at t 4) way.Time 0 (ticked now) z.ns
  ticks_two = λ t e b start calls body down.
      let d = tick_does (own_graph c g) (own_graph c h) (all []) (all z.ns) now c.top.0 t.0 z.noded (subst (λ (w : Option ObjId). TickedAlone (last_below c.top.0 w)) e (z.alone [])) in
      subst (CallDoes (own_graph c h) c.top.0 t.0 b start calls body (port_at t.0 4) way.Time 0 (ticked now)) (known_notices z.ns d.0 d.1) (d.2 b start calls body down)

  ticks_one : TicksOne c g h now z.ns
  ticks_one = λ e.
      let x = c.top.0 in
      let w : TickedAlone x = subst (λ (b : Option ObjId). TickedAlone (last_below x b)) e (z.alone []) in
      subst (TicksAny (own_graph c g) (own_graph c h) x now) (known_notices z.ns (told_of (all_of w.deeds)) w.tells) (record {
        lookup = ticks_each lookup_service LookAsks 5 look_kind (own_graph c g) (own_graph c h) (all []) (all z.ns) now x z.noded w;
        lease = ticks_each lease_service LeaseAsks 6 lease_kind (own_graph c g) (own_graph c h) (all []) (all z.ns) now x z.noded w;
        ping = ticks_each ping_service PingAsks 7 ping_kind (own_graph c g) (own_graph c h) (all []) (all z.ns) now x z.noded w;
      })

  ticks_shape : (kind : ChainKind) → IsChainUnderWay kind c g → HasShapeOrFails (last_serial c) (by_time (last_serial c)) z.ns
  ticks_shape File (t, e, (b, start, calls, body, d)) =
      at_lower c t by_time z.ns e (two_called (own_graph c h) c.top.0 t.0 b start calls body (port_at t.0 4) way.Time 0 (ticked now) z.ns d.joined.two.older (ticks_two t e b start calls body d))
  ticks_shape Name (e, (b, start, calls, d)) =
      at_top c by_time z.ns e (one_asks lookup_service 5 (own_graph c h) c.top.0 b lookup_gives start calls (port_at c.top.0 4) way.Time 0 _ z.ns ((ticks_one e).lookup b start calls d))
  ticks_shape Lease (e, (b, start, calls, d)) =
      at_top c by_time z.ns e (one_asks lease_service 6 (own_graph c h) c.top.0 b lease_gives start calls (port_at c.top.0 4) way.Time 0 _ z.ns ((ticks_one e).lease b start calls d))
  ticks_shape Echo (e, (b, start, calls, d)) =
      at_top c by_time z.ns e (one_asks ping_service 7 (own_graph c h) c.top.0 b ping_gives start calls (port_at c.top.0 4) way.Time 0 _ z.ns ((ticks_one e).ping b start calls d))
  ticks_shape Drive u = absurd u

  ticks_so : (kind : ChainKind) → IsChainUnderWay kind c g → ComesOf kind c h z.ns
  ticks_so File (t, e, (b, start, calls, body, d)) = two_comes c h t e b start calls body (port_at t.0 4) way.Time 0 (ticked now) z.ns (ticks_two t e b start calls body d)
  ticks_so Name (e, (b, start, calls, d)) = one_comes c h e Name lookup_service 5 (λ w. (e, w)) b start calls (port_at c.top.0 4) way.Time 0 _ z.ns ((ticks_one e).lookup b start calls d)
  ticks_so Lease (e, (b, start, calls, d)) = one_comes c h e Lease lease_service 6 (λ w. (e, w)) b start calls (port_at c.top.0 4) way.Time 0 _ z.ns ((ticks_one e).lease b start calls d)
  ticks_so Echo (e, (b, start, calls, d)) = one_comes c h e Echo ping_service 7 (λ w. (e, w)) b start calls (port_at c.top.0 4) way.Time 0 _ z.ns ((ticks_one e).ping b start calls d)
  ticks_so Drive u = absurd u

  pub ticks_chain : TicksChain c g h (ticked now) now m n
  ticks_chain = record { ns = z.ns; gives = z.gives; file = ticks_two; one = ticks_one; shape = ticks_shape; comes = ticks_so }
