-- A chain hands out what it has brought.
use Rattle.std.proofs.Common.{◌≡◌, ◌≢◌, ℕ, ◌≤◌, true, false, List, length, Option, Some, None, sym, ap, ◌∙◌, subst}
use Rattle.std.proofs.lemmas.Bool.{false≢true}
use Rattle.nb_ledger.specs.declared.port.ObjId.{ObjId}
use Rattle.nb_ledger.specs.Ledger.{Ledger, object_lives, holds, rank, port as port_in}
use Rattle.nb_graph.specs.Lived.{KeepsTraces}
use Rattle.nb_graph.specs.Noded.{AreNoded}
use Rattle.nb_graph.specs.Whole.{Objects, Harvests, node_at}
use Rattle.nb_frames.specs.Frames.{is_one_of}
use Rattle.nb_frames.specs.Within.{AreLinkedWithin}
use Rattle.nb_frames.proofs.OwnLemmas.{AreThere, are_there}
use Rattle.nb_frames.proofs.OwnCallLemmas.{node_own, noded_own}
use Rattle.nb_nodes.specs.declared.load.Load.{Load}
use Rattle.nb_nodes.specs.declared.obj.Obj.{Obj}
use Rattle.nb_nodes.specs.Objects.{rank_of_obj}
use Rattle.nb_nodes.specs.Standing.{ObjStands, ObjHarvests}
use Rattle.nb_opens.specs.Alones.{IsShutLone}
use Rattle.nb_opens.specs.Pairs.{AreShut, HasHandedOut, body_in}
use Rattle.nb_opens.proofs.Harvesting.{harvests_body}
use Rattle.nb_chains.specs.declared.chain.Chain.{Chain}
use Rattle.nb_chains.specs.Chains.{AreChained, AreStillChained, IsShutBy, IsShutChain, chain_ids, own_graph}
use Rattle.nb_chains.proofs.ChainDoes.{top_in}

-- what is said of a graph's book alone, whatever its nodes are
shut_two : (g : Objects Obj) (ns : List Obj) (f t : ℕ) → AreShut g f t → AreShut (record { book = g.book; nodes = ns }) f t
shut_two g ns f t s = record {
  two = record {
    older = s.two.older;
    last = s.two.last;
    fetch_lives = s.two.fetch_lives;
    tftp_lives = s.two.tftp_lives;
    alone = s.two.alone;
    fetch_held = s.two.fetch_held;
    tftp_held = s.two.tftp_held;
    fetch_rank = s.two.fetch_rank;
    tftp_rank = s.two.tftp_rank;
    fetch_2 = s.two.fetch_2;
    fetch_3 = s.two.fetch_3;
    tftp_2 = s.two.tftp_2;
    tftp_3 = s.two.tftp_3;
  };
  user = s.user;
  link = s.link;
  back = s.back;
  below = s.below;
}

shut_sole : (g : Objects Obj) (ns : List Obj) (x : ℕ) → IsShutLone g x → IsShutLone (record { book = g.book; nodes = ns }) x
shut_sole g ns x s = record { last = s.last; lives = s.lives; others = s.others; held = s.held; ports = s.ports }

shut_by : (b : Option ObjId) (g : Objects Obj) (ns : List Obj) (x : ℕ) → IsShutBy b x g → IsShutBy b x (record { book = g.book; nodes = ns })
shut_by None g ns x s = shut_sole g ns x s
shut_by (Some t) g ns x s = shut_two g ns x t.0 s

module _ (c : Chain) (g h : Objects Obj) (same : h.book ≡ g.book) where
  own_book : (own_graph c h).book ≡ (own_graph c g).book
  own_book = ap (λ (l : Ledger). (own_graph c (record { book = l; nodes = h.nodes })).book) same

  pub still_shut : IsShutChain c g → IsShutChain c h
  still_shut s = subst (λ (l : Ledger). IsShutBy c.below c.top.0 (record { book = l; nodes = (own_graph c h).nodes })) (sym own_book) (shut_by c.below (own_graph c g) (own_graph c h).nodes c.top.0 s)

  module _ (chained : AreChained g (chain_ids c)) (keeps : KeepsTraces ObjStands g h) (apart : (x : ℕ) → x ≢ c.top.0 → node_at h x ≡ node_at g x) where
    far_node : (y : ℕ) → is_one_of (chain_ids c) y ≡ false → node_at h y ≡ node_at g y
    far_node y far = apart y (λ e. false≢true (sym far ∙ (ap (is_one_of (chain_ids c)) e ∙ top_in c)))

    pub collect_on : AreStillChained (chain_ids c) g h
    collect_on = record {
      chained = record {
        given = λ x o. subst (λ (l : Ledger). x ≤ l.made) (sym same) (chained.given x o);
        lives = λ x o. ap (λ (l : Ledger). object_lives l x) same ∙ chained.lives x o;
        held = λ x o. ap (λ (l : Ledger). holds l x) same ∙ chained.held x o;
        stands = λ x o. let t = chained.stands x o in (t.0, keeps x t.0 t.1);
        links = subst (λ (l : Ledger). AreLinkedWithin (is_one_of (chain_ids c)) (port_in l)) (sym same) chained.links;
      };
      others = record {
        same_made = ap (λ (l : Ledger). l.made) same;
        others = λ y low far. record {
          live = ap (λ (l : Ledger). object_lives l y) same;
          held = ap (λ (l : Ledger). holds l y) same;
          ports = λ k. ap (λ (l : Ledger). port_in l y k) same;
          ranked = ap (λ (l : Ledger). rank l y) same;
          node = λ n e. sym (far_node y far) ∙ e;
        };
      };
      same_number = ap (λ (l : Ledger). length l.objects) same;
      same_room = ap (λ (l : Ledger). l.room) same;
    }

    -- the file
    pub collects : (r : Option Load) → AreNoded rank_of_obj g → AreNoded rank_of_obj h → Harvests ObjHarvests g h c.top r → (t : ObjId) (body : Option (List ℕ)) → HasHandedOut (own_graph c g) c.top.0 t.0 body → body_in r ≡ body
    collects r before after k t body e =
        let here : AreThere (chain_ids c) g = are_there (chain_ids c) g chained.lives (λ x o. let i = before x (chained.lives x o) in (i.node, i.is_node)) in
        let lives : (x : ℕ) → is_one_of (chain_ids c) x ≡ true → object_lives h.book x ≡ true = λ x o. ap (λ (l : Ledger). object_lives l x) same ∙ chained.lives x o in
        let there : AreThere (chain_ids c) h = are_there (chain_ids c) h lives (λ x o. let i = after x (lives x o) in (i.node, i.is_node)) in
        harvests_body (own_graph c g) (own_graph c h) c.top.0 t.0 r body (noded_own rank_of_obj (chain_ids c) g here before)
        (record { before = k.before; after = k.after; had = node_own (chain_ids c) g here c.top.0 (top_in c) ∙ k.had; has = node_own (chain_ids c) h there c.top.0 (top_in c) ∙ k.has; gave = k.gave }) e
