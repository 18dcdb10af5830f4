-- What the three have brought, or where it is instead.
use Rattle.std.proofs.Common.{◌≡◌, ◌≢◌, ℕ, ◌≤◌, Bool, true, false, List, length, Option, Some, None, sym, ap, ◌∙◌, subst, arith, if◌then◌else◌}
use Rattle.std.proofs.lemmas.Bool.{false≢true}
use Rattle.nb_ledger.specs.Ledger.{Ledger, object_lives, holds, rank, port as port_in}
use Rattle.nb_graph.specs.Lived.{KeepsTraces, ObjectStands}
use Rattle.nb_graph.specs.Noded.{AreNoded}
use Rattle.nb_graph.specs.Trace.{NodeEntry}
use Rattle.nb_graph.specs.Whole.{Objects, Harvests, node_at}
use Rattle.nb_frames.specs.Frames.{is_one_of}
use Rattle.nb_frames.specs.Within.{AreLinkedWithin}
use Rattle.nb_nodes.specs.declared.fetch.Fetch.{Fetch}
use Rattle.nb_nodes.specs.declared.fetch.Fetch.TheVariants.{Gathering, Whole, HandedOut, Moved, Failed}
use Rattle.nb_nodes.specs.declared.load.Load.{Load}
use Rattle.nb_nodes.specs.declared.obj.Obj.{Obj}
use Rattle.nb_nodes.specs.declared.obj.Obj.TheVariants as obj
use Rattle.nb_nodes.specs.Fetches.{FetchStands, FetchHarvests, closed_well, moved_in, taken_below}
use Rattle.nb_nodes.specs.Objects.{mark_of_obj, rank_of_obj}
use Rattle.nb_nodes.specs.Standing.{ObjStands, ObjHarvests}
use Rattle.nb_opens.specs.Pairs.{body_in}
use Rattle.nb_chains.specs.Chains.{AreChained, AreStillChained}
use Rattle.nb_closings.specs.Chained.{IsShutThrough, HaveNoOthers}
use Rattle.nb_webchains.specs.declared.web_chain.WebChain.{WebChain}
use Rattle.nb_webchains.specs.WebCalls.{file_brought, text_of_obj}
use Rattle.nb_webchains.specs.WebChains.{AreOfWeb, IsShutWeb, web_ids}
use Rattle.nb_webchains.proofs.Three.{fetch_in}

-- of a trace that isn't closed well nothing was brought
none_brought : (t : List (NodeEntry Obj Load)) → false ≡ closed_well t → None ≡ file_brought t
none_brought t e = ap (λ (b : Bool). if b then Some (taken_below t) else None) e

whole_brought : (t : List (NodeEntry Obj Load)) (b : List ℕ) → true ≡ closed_well t → b ≡ taken_below t → Some b ≡ file_brought t
whole_brought t b e i = ap Some i ∙ ap (λ (b : Bool). if b then Some (taken_below t) else None) e

fetch_brings : (fe after : Fetch) (r : Option Load) (t : List (NodeEntry Obj Load)) → FetchStands fe t → mark_of_obj (obj.Fetch fe) ≡ 0 → FetchHarvests fe r after → body_in r ≡ file_brought t
fetch_brings (Gathering b al) after r t s zero h = ap body_in h.0 ∙ none_brought t s.whole
fetch_brings (Whole b) after r t s zero h = ap body_in h.0 ∙ whole_brought t b s.whole s.body
fetch_brings HandedOut after r t s zero h = absurd (omega (arith, zero))
fetch_brings (Moved u) after r t s zero h = ap body_in h.0 ∙ none_brought t s.whole
fetch_brings Failed after r t s zero h = ap body_in h.0 ∙ none_brought t s.whole

node_brings : (n after : Obj) (r : Option Load) (t : List (NodeEntry Obj Load)) → rank_of_obj n ≡ 5 → ObjStands n t → mark_of_obj n ≡ 0 → ObjHarvests n r after → body_in r ≡ file_brought t
node_brings (obj.Fetch fe) (obj.Fetch after) r t at s zero h = fetch_brings fe after r t s zero h
node_brings (obj.Fetch fe) (obj.Tftp q) r t at s zero h = absurd h
node_brings (obj.Fetch fe) (obj.Resolver q) r t at s zero h = absurd h
node_brings (obj.Fetch fe) (obj.Dhcp q) r t at s zero h = absurd h
node_brings (obj.Fetch fe) (obj.Ping q) r t at s zero h = absurd h
node_brings (obj.Fetch fe) (obj.Http q) r t at s zero h = absurd h
node_brings (obj.Fetch fe) (obj.Tcp q) r t at s zero h = absurd h
node_brings (obj.Fetch fe) (obj.Iscsi q) r t at s zero h = absurd h
node_brings (obj.Fetch fe) (obj.Disk q) r t at s zero h = absurd h
node_brings (obj.Tftp p) after r t at s zero h = absurd (omega (arith, at))
node_brings (obj.Resolver p) after r t at s zero h = absurd (omega (arith, at))
node_brings (obj.Dhcp p) after r t at s zero h = absurd (omega (arith, at))
node_brings (obj.Ping p) after r t at s zero h = absurd (omega (arith, zero))
node_brings (obj.Http p) after r t at s zero h = absurd (omega (arith, at))
node_brings (obj.Tcp p) after r t at s zero h = absurd (omega (arith, at))
node_brings (obj.Iscsi p) after r t at s zero h = absurd (omega (arith, at))
node_brings (obj.Disk p) after r t at s zero h = absurd (omega (arith, zero))

-- the text of the move that has ended it
node_moved : (n : Obj) (t : List (NodeEntry Obj Load)) → rank_of_obj n ≡ 5 → ObjStands n t → mark_of_obj n ≡ 0 → text_of_obj n ≡ moved_in t
node_moved (obj.Fetch fe) t at s zero = s.moved
node_moved (obj.Tftp p) t at s zero = absurd (omega (arith, at))
node_moved (obj.Resolver p) t at s zero = absurd (omega (arith, at))
node_moved (obj.Dhcp p) t at s zero = absurd (omega (arith, at))
node_moved (obj.Ping p) t at s zero = absurd (omega (arith, zero))
node_moved (obj.Http p) t at s zero = absurd (omega (arith, at))
node_moved (obj.Tcp p) t at s zero = absurd (omega (arith, at))
node_moved (obj.Iscsi p) t at s zero = absurd (omega (arith, at))
node_moved (obj.Disk p) t at s zero = absurd (omega (arith, zero))

module _ (c : WebChain) (g : Objects Obj) (are : AreOfWeb c g) (t : List (NodeEntry Obj Load)) (stands : ObjectStands ObjStands g c.fetch.0 t) where
  pub moves_so : (n : Obj) → node_at g c.fetch.0 ≡ Some n → rank_of_obj n ≡ rank g.book c.fetch.0 → text_of_obj n ≡ moved_in t
  moves_so n is at = node_moved n t (at ∙ are.fetch_rank) (stands n is).0 (are.fetch n is)

  pub brings_so : (h : Objects Obj) (r : Option Load) → AreNoded rank_of_obj g → object_lives g.book c.fetch.0 ≡ true → Harvests ObjHarvests g h c.fetch r → body_in r ≡ file_brought t
  brings_so h r noded lives k =
      let n = noded c.fetch.0 lives in
      let z : Some n.node ≡ Some k.before = sym n.is_node ∙ k.had in
      let same : n.node ≡ k.before = cc in
      let at : rank_of_obj k.before ≡ 5 = ap rank_of_obj (sym same) ∙ (n.at_rank ∙ are.fetch_rank) in
      node_brings k.before k.after r t at (stands k.before k.had).0 (are.fetch k.before k.had) k.gave

-- the book stays
module _ (c : WebChain) (g h : Objects Obj) (same : h.book ≡ g.book) where
  pub still_shut : IsShutWeb c g → IsShutWeb c h
  still_shut s = record {
    order = s.order;
    through = record {
      ports = subst (λ (l : Ledger). IsShutThrough (port_in l) (web_ids c)) (sym same) s.through.ports;
      loose = subst (λ (l : Ledger). HaveNoOthers (port_in l) (web_ids c)) (sym same) s.through.loose;
    };
  }

  module _ (chained : AreChained g (web_ids c)) (keeps : KeepsTraces ObjStands g h) (apart : (x : ℕ) → x ≢ c.fetch.0 → node_at h x ≡ node_at g x) where
    far_node : (y : ℕ) → is_one_of (web_ids c) y ≡ false → node_at h y ≡ node_at g y
    far_node y far = apart y (λ e. false≢true (sym far ∙ (ap (is_one_of (web_ids c)) e ∙ fetch_in c)))

    pub collect_on : AreStillChained (web_ids c) g h
    collect_on = record {
      chained = record {
        given = λ x o. subst (λ (l : Ledger). x ≤ l.made) (sym same) (chained.given x o);
        lives = λ x o. ap (λ (l : Ledger). object_lives l x) same ∙ chained.lives x o;
        held = λ x o. ap (λ (l : Ledger). holds l x) same ∙ chained.held x o;
        stands = λ x o. let t = chained.stands x o in (t.0, keeps x t.0 t.1);
        links = subst (λ (l : Ledger). AreLinkedWithin (is_one_of (web_ids c)) (port_in l)) (sym same) chained.links;
      };
      others = record {
        same_made = ap (λ (l : Ledger). l.made) same;
        others = λ y low far. record {
          live = ap (λ (l : Ledger). object_lives l y) same;
          held = ap (λ (l : Ledger). holds l y) same;
          ports = λ k. ap (λ (l : Ledger). port_in l y k) same;
          ranked = ap (λ (l : Ledger). rank l y) same;
          node = λ n e. sym (far_node y far) ∙ e;
        };
      };
      same_number = ap (λ (l : Ledger). length l.objects) same;
      same_room = ap (λ (l : Ledger). l.room) same;
    }
