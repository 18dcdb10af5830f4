-- An open by HTTP beside other objects: where it was made it is open, what waits is none of it, and others stay.
use Rattle.std.proofs.Common.{inl, inr, ◌≡◌, ℕ, Bool, true, false, List, [], ◌∷◌, Option, refl, sym, ap, ◌∙◌, subst, nat_lt, if◌then◌else◌, arith}
use Rattle.nb_ledger.specs.declared.port.ObjId.{ObjId}
use Rattle.nb_ledger.specs.declared.port.PortState.TheVariants as port
use Rattle.nb_ledger.specs.GraphRun.{link_count, new_ports}
use Rattle.nb_ledger.specs.Ledger.{port as port_in}
use Rattle.nb_graph.specs.Noded.{AreNoded}
use Rattle.nb_graph.specs.Whole.{Objects}
use Rattle.nb_frames.specs.Frames.{is_one_of}
use Rattle.nb_nodes.specs.declared.obj.Obj.{Obj}
use Rattle.nb_nodes.specs.Objects.{rank_of_obj}
use Rattle.nb_chains.specs.declared.chain.Chain.{Chain}
use Rattle.nb_chains.specs.declared.kind.ChainKind.{ChainKind}
use Rattle.nb_chains.specs.Chains.{AreChained, AreOthers, Awaits, StaysChained, below_ids, chain_ids}
use Rattle.nb_chains.proofs.FreshOnes.{sole_is}
use Rattle.nb_chains.proofs.Staying.{stays}
use Rattle.nb_closings.proofs.Beginning.{one_first}
use Rattle.nb_webchains.specs.declared.web_chain.WebChain.{WebChain}
use Rattle.nb_webchains.specs.WebChains.{AreReleased, GrowsTo, IsOpenWeb, IsReadyWeb, web_ids}

-- a port that is new has no link
pub no_link : (k : ℕ) → link_count (new_ports k) ≡ 0
no_link k = pick (nat_lt k 4)
  where
    pick : (b : Bool) → link_count (if b then port.Open else port.Closed) ≡ 0
    pick true = refl
    pick false = refl

pub ready_open : (c : WebChain) (g : Objects Obj) → IsReadyWeb c g → IsOpenWeb c g
ready_open c g r = record {
  order = r.order;
  through = record {
    ports = r.ready.ports;
    loose = λ x k o low. ap link_count (r.ready.rest x k o low) ∙ no_link k;
    going = λ x o. ([], r.ready.stands x o, refl);
  };
}

pub grows_stays : (count : ℕ) (ids others : List ℕ) (g h : Objects Obj) → AreNoded rank_of_obj h → AreChained g others → AreOthers ids others → GrowsTo count ids g h → StaysChained others g h
grows_stays count ids others g h noded k far on = stays others g h noded k (λ x o. on.others x (k.given x o) (far x o)) (let e = on.made in omega (arith, e))

pub released_stays : (ids others : List ℕ) (g h : Objects Obj) → AreNoded rank_of_obj h → AreChained g others → AreOthers ids others → AreReleased ids g h → StaysChained others g h
released_stays ids others g h noded k far on = stays others g h noded k (λ x o. on.others.others x (k.given x o) (far x o)) (let e = on.others.same_made in omega (arith, e))

-- each of the three is plugged, and what waits isn't
module _ (v : ℕ) (c : WebChain) (g : Objects Obj) (ports : (k : ℕ) → port_in g.book v k ≡ new_ports k) (o : IsOpenWeb c g) where
  not_plugged : is_one_of (web_ids c) v ≡ true → ⊥
  not_plugged i = elim (one_first c.fetch.0 (c.web.0 ∷ c.conn.0 ∷ []) v i) [
    | inl e ↦ let z = sym (ports 1) ∙ (ap (λ x. port_in g.book x 1) e ∙ o.through.ports.1.0) in cc
    | inr j ↦ elim (one_first c.web.0 (c.conn.0 ∷ []) v j) [
      | inl e ↦ let z = sym (ports 1) ∙ (ap (λ x. port_in g.book x 1) e ∙ o.through.ports.1.2.0) in cc
      | inr k ↦ let z = sym (ports 0) ∙ (ap (λ x. port_in g.book x 0) (sole_is c.conn.0 v k) ∙ o.through.ports.1.2.1) in cc
    ]
  ]

  apart_or : (b : Bool) → is_one_of (web_ids c) v ≡ b → is_one_of (web_ids c) v ≡ false
  apart_or true e = absurd (not_plugged e)
  apart_or false e = e

  pub unplugged_apart : is_one_of (web_ids c) v ≡ false
  unplugged_apart = apart_or (is_one_of (web_ids c) v) refl

pub waits_apart : (kind : ChainKind) (w : Chain) (c : WebChain) (g : Objects Obj) → Awaits kind w g → IsOpenWeb c g → AreOthers (web_ids c) (chain_ids w)
waits_apart kind w c g waits o x i =
    let same : x ≡ w.top.0 = sole_is w.top.0 x (subst (λ (b : Option ObjId). is_one_of (w.top.0 ∷ below_ids b) x ≡ true) waits.alone i) in
    ap (is_one_of (web_ids c)) same ∙ unplugged_apart w.top.0 c g waits.fresh.ports o
