-- What stays of the three where, as a graph of their own, they are as they were.
use Rattle.std.proofs.Common.{◌≡◌, ℕ, ◌==◌, ◌||◌, Bool, true, false, [], ◌∷◌, ◌++◌, Option, Some, None, refl, sym, ap, ◌∙◌, subst}
use Rattle.std.proofs.lemmas.Bool.{eqb-true}
use Rattle.nb_ledger.specs.GraphRun.{link_count}
use Rattle.nb_ledger.specs.Ledger.{port as port_in, rank}
use Rattle.nb_graph.specs.Trace.{in_list}
use Rattle.nb_graph.specs.Whole.{Objects, node_at}
use Rattle.nb_frames.specs.Frames.{is_one_of, nodes_of}
use Rattle.nb_frames.proofs.OwnLemmas.{AreThere, are_there}
use Rattle.nb_frames.proofs.OwnCallLemmas.{node_own, port_own, rank_own}
use Rattle.nb_nodes.specs.declared.obj.Obj.{Obj}
use Rattle.nb_chains.specs.Chains.{AreChained}
use Rattle.nb_webchains.specs.declared.web_chain.WebChain.{WebChain}
use Rattle.nb_webchains.specs.WebChains.{AreOfWeb, IsOpenWeb, web_graph, web_ids}
use Rattle.nb_webchains.proofs.Three.{conn_in, fetch_in, web_in}
use Rattle.nb_webtalks.specs.TalkStands.{AreHosted}

-- a fact of each of the three is one of all
pub of_three : (c : WebChain) (P : ℕ → Type 0) → P c.fetch.0 → P c.web.0 → P c.conn.0 → (x : ℕ) → is_one_of (web_ids c) x ≡ true → P x
of_three c P f w t x is = by (x == c.fetch.0) (x == c.web.0) (x == c.conn.0) refl refl refl is
  where
    by : (one two three : Bool) → (x == c.fetch.0) ≡ one → (x == c.web.0) ≡ two → (x == c.conn.0) ≡ three → (one || (two || (three || false))) ≡ true → P x
    by true two three a b d h = subst P (sym (eqb-true x c.fetch.0 a)) f
    by false true three a b d h = subst P (sym (eqb-true x c.web.0 b)) w
    by false false true a b d h = subst P (sym (eqb-true x c.conn.0 d)) t
    by false false false a b d h = absurd (let z = h in cc)

three_some : {N : Type 0} (a b c : Option N) (x y z : N) → in_list a ++ (in_list b ++ (in_list c ++ [])) ≡ x ∷ (y ∷ (z ∷ [])) → (a ≡ Some x) × (b ≡ Some y) × (c ≡ Some z)
three_some (Some a) (Some b) (Some c) x y z e = (cc, cc, cc)
three_some (Some a) (Some b) None x y z e = absurd (let h = e in cc)
three_some (Some a) None (Some c) x y z e = absurd (let h = e in cc)
three_some (Some a) None None x y z e = absurd (let h = e in cc)
three_some None (Some b) (Some c) x y z e = absurd (let h = e in cc)
three_some None (Some b) None x y z e = absurd (let h = e in cc)
three_some None None (Some c) x y z e = absurd (let h = e in cc)
three_some None None None x y z e = absurd (let h = e in cc)

module _ (c : WebChain) (g h : Objects Obj) (was : AreChained g (web_ids c)) (is : AreChained h (web_ids c)) (same : web_graph c h ≡ web_graph c g) (hosted : AreHosted c g) where
  -- they have the same nodes
  pub hosted_still : AreHosted c h
  hosted_still =
      let n1 = hosted c.fetch.0 (fetch_in c) in
      let n2 = hosted c.web.0 (web_in c) in
      let n3 = hosted c.conn.0 (conn_in c) in
      let nodes : nodes_of (web_ids c) g ≡ n1.0 ∷ (n2.0 ∷ (n3.0 ∷ [])) = rw (n1.1, n2.1, n3.1) refl in
      let all = three_some (node_at h c.fetch.0) (node_at h c.web.0) (node_at h c.conn.0) n1.0 n2.0 n3.0 (ap (λ (z : Objects Obj). z.nodes) same ∙ nodes) in
      of_three c (λ x. (n : Obj) × (node_at h x ≡ Some n)) (n1.0, all.0) (n2.0, all.1) (n3.0, all.2)

  there : AreThere (web_ids c) g
  there = are_there (web_ids c) g was.lives hosted

  there_still : AreThere (web_ids c) h
  there_still = are_there (web_ids c) h is.lives hosted_still

  same_port : (x k : ℕ) → is_one_of (web_ids c) x ≡ true → port_in h.book x k ≡ port_in g.book x k
  same_port x k o = sym (port_own (web_ids c) h there_still x k o) ∙ ap (λ (z : Objects Obj). port_in z.book x k) same ∙ port_own (web_ids c) g there x k o

  same_node : (x : ℕ) → is_one_of (web_ids c) x ≡ true → node_at h x ≡ node_at g x
  same_node x o = sym (node_own (web_ids c) h there_still x o) ∙ ap (λ (z : Objects Obj). node_at z x) same ∙ node_own (web_ids c) g there x o

  -- all stays open
  pub open_still : IsOpenWeb c g → IsOpenWeb c h
  open_still o =
      let p = o.through.ports in
      record {
        order = o.order;
        through = record {
          ports = (same_port c.fetch.0 0 (fetch_in c) ∙ p.0, (same_port c.fetch.0 1 (fetch_in c) ∙ p.1.0, same_port c.web.0 0 (web_in c) ∙ p.1.1, (same_port c.web.0 1 (web_in c) ∙ p.1.2.0, same_port c.conn.0 0 (conn_in c) ∙ p.1.2.1, same_port c.conn.0 1 (conn_in c) ∙ p.1.2.2)));
          loose = λ x k own two. ap link_count (same_port x k own) ∙ o.through.loose x k own two;
          going = λ x own. let s = o.through.going x own in (s.0, λ n e. s.1 n (sym (same_node x own) ∙ e), s.2);
        };
      }

  -- they are what they were
  pub kinds_still : AreOfWeb c g → AreOfWeb c h
  kinds_still are = record {
    fetch_rank = sym (rank_own (web_ids c) h there_still c.fetch.0 (fetch_in c)) ∙ ap (λ (z : Objects Obj). rank z.book c.fetch.0) same ∙ rank_own (web_ids c) g there c.fetch.0 (fetch_in c) ∙ are.fetch_rank;
    fetch = λ n e. are.fetch n (sym (same_node c.fetch.0 (fetch_in c)) ∙ e);
    web = λ n e. are.web n (sym (same_node c.web.0 (web_in c)) ∙ e);
    conn = λ n e. are.conn n (sym (same_node c.conn.0 (conn_in c)) ∙ e);
  }
