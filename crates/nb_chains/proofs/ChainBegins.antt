-- What a chain does where the user begins it.
use Rattle.std.proofs.Common.{◌≡◌, ℕ, ◌<◌, ◌^◌, List, [], ◌∷◌, length, None, refl, subst}
use Rattle.nb_ledger.specs.Flat.{Heard, all}
use Rattle.nb_graph.specs.Deeds.{Offers}
use Rattle.nb_graph.specs.Trace.{Said}
use Rattle.nb_graph.specs.Whole.{Objects, port_at}
use Rattle.nb_nodes.specs.declared.obj.Obj.{Obj}
use Rattle.nb_nodes.specs.Asking.{begun_with}
use Rattle.nb_nodes.specs.EchoExchanges.{ping_service}
use Rattle.nb_nodes.specs.Exchanges.{Service}
use Rattle.nb_nodes.specs.LeaseExchanges.{lease_service}
use Rattle.nb_nodes.specs.LookupExchanges.{lookup_service}
use Rattle.nb_opens.specs.Alones.{Begins}
use Rattle.nb_opens.specs.Pairs.{BeginDoes}
use Rattle.nb_opens.proofs.Beginning.{begin_does}
use Rattle.nb_opens.proofs.LoneCertain.{LookAsks, LeaseAsks, PingAsks}
use Rattle.nb_opens.proofs.LoneDoes.{ask_does}
use Rattle.nb_opens.proofs.LoneStarts.{IsKind, look_kind, lease_kind, ping_kind}
use Rattle.nb_chains.specs.declared.chain.Chain.{Chain}
use Rattle.nb_chains.specs.declared.kind.ChainKind.{ChainKind}
use Rattle.nb_chains.specs.declared.kind.ChainKind.TheVariants.{File, Name, Lease, Echo, Drive}
use Rattle.nb_chains.specs.Calls.{BeginsChain, BeginsOne, BeginsTwo, ComesOf, IsAsk}
use Rattle.nb_chains.specs.Chains.{IsReadyChain, chain_ids, last_serial, own_graph}
use Rattle.nb_chains.specs.Shapes.{HasShapeOrFails}
use Rattle.nb_chains.proofs.ChainCalls.{ChainCalled}
use Rattle.nb_chains.proofs.ChainDoes.{at_lower, at_top}
use Rattle.nb_chains.proofs.Comings.{one_begins, two_begins}
use Rattle.nb_chains.proofs.GivingLemmas.{known_notices}
use Rattle.nb_chains.proofs.ShapesDone.{one_begun, two_begun}

-- the message by which it does
abbrev pub begin_said : ℕ → List ℕ → Said
begin_said rec bytes = record { tag = 1; rec = rec; a = 0; b = 0; bytes = bytes }

module _ (c : Chain) (g h : Objects Obj) (m n : Heard) (now rec : ℕ) (bytes : List ℕ) (short : length bytes < 2 ^ 32) (z : ChainCalled (chain_ids c) now (Offers (port_at c.top.0 0) (begin_said rec bytes) ∷ []) g h m n) where
  begins_two : BeginsTwo c g h bytes now rec z.ns
  begins_two = λ t a e made ask.
      let d = begin_does (own_graph c g) (own_graph c h) (all []) (all z.ns) now c.top.0 t.0 rec a bytes made ask short z.noded (z.alone []) in
      subst (BeginDoes (own_graph c h) c.top.0 t.0 (begun_with a) now rec) (known_notices z.ns d.0 d.1) d.2

  begins_one : {S B C : Type 0} (svc : Service S B C) (known : B → List C → Type 0) (kind : ℕ) → IsKind svc known kind → ((b : B) → (svc.opening b).over ≡ None) → BeginsOne svc kind c g h bytes now rec z.ns
  begins_one svc known kind law goes = λ b ask ready.
      let d = ask_does svc known kind law (own_graph c g) (own_graph c h) (all []) (all z.ns) now c.top.0 (begin_said rec bytes) b ready refl ask (goes b) z.noded (z.alone []) in
      subst (Begins svc kind (own_graph c h) c.top.0 b now rec) (known_notices z.ns d.0 d.1) d.2

  looks : BeginsOne lookup_service 5 c g h bytes now rec z.ns
  looks = begins_one lookup_service LookAsks 5 look_kind (λ b. refl)

  leases : BeginsOne lease_service 6 c g h bytes now rec z.ns
  leases = begins_one lease_service LeaseAsks 6 lease_kind (λ b. refl)

  pings : BeginsOne ping_service 7 c g h bytes now rec z.ns
  pings = begins_one ping_service PingAsks 7 ping_kind (λ b. refl)

  begins_shape : (kind : ChainKind) → IsReadyChain kind c g → IsAsk kind bytes → HasShapeOrFails (last_serial c) None z.ns
  begins_shape File r a = at_lower c r.0 (λ x. None) z.ns r.1 (two_begun (own_graph c h) c.top.0 r.0.0 (begun_with a.0) now rec z.ns (begins_two r.0 a.0 r.1 r.2 a.1))
  begins_shape Name r a = at_top c (λ x. None) z.ns r.0 (one_begun lookup_service 5 (own_graph c h) c.top.0 a.0 now rec z.ns (looks a.0 a.1 r.1))
  begins_shape Lease r a = at_top c (λ x. None) z.ns r.0 (one_begun lease_service 6 (own_graph c h) c.top.0 a.0 now rec z.ns (leases a.0 a.1 r.1))
  begins_shape Echo r a = at_top c (λ x. None) z.ns r.0 (one_begun ping_service 7 (own_graph c h) c.top.0 a.0 now rec z.ns (pings a.0 a.1 r.1))
  begins_shape Drive r a = absurd a

  begins_so : (kind : ChainKind) → IsReadyChain kind c g → IsAsk kind bytes → ComesOf kind c h z.ns
  begins_so File r a = two_begins c h r.0 r.1 (begun_with a.0) now rec z.ns (begins_two r.0 a.0 r.1 r.2 a.1)
  begins_so Name r a = one_begins c h r.0 Name lookup_service 5 (λ d. (r.0, d)) a.0 now rec z.ns refl (looks a.0 a.1 r.1)
  begins_so Lease r a = one_begins c h r.0 Lease lease_service 6 (λ d. (r.0, d)) a.0 now rec z.ns refl (leases a.0 a.1 r.1)
  begins_so Echo r a = one_begins c h r.0 Echo ping_service 7 (λ d. (r.0, d)) a.0 now rec z.ns refl (pings a.0 a.1 r.1)
  begins_so Drive r a = absurd a

  pub begins_chain : BeginsChain c g h bytes now rec m n
  begins_chain = record { ns = z.ns; gives = z.gives; file = begins_two; lookup = looks; lease = leases; echo = pings; shape = begins_shape; comes = begins_so }
