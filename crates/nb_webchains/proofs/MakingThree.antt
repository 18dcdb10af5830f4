-- The objects of an open by HTTP are made.
use Rattle.std.proofs.Common.{◌≡◌, ℕ, ◌+◌, true, List, [], ◌∷◌, ◌++◌, Option, Some, None, sym, ap, ◌∙◌, subst, arith}
use Rattle.nb_ledger.specs.declared.port.ObjId.{ObjId}
use Rattle.nb_ledger.specs.Flat.{Heard}
use Rattle.nb_ledger.specs.Ledger.{port as port_in}
use Rattle.nb_graph.specs.Lived.{ObjectStands}
use Rattle.nb_graph.specs.Whole.{Objects}
use Rattle.nb_frames.specs.Frames.{is_one_of}
use Rattle.nb_nodes.specs.declared.obj.Obj.{Obj}
use Rattle.nb_nodes.specs.Objects.{kind_of_obj, mark_of_obj}
use Rattle.nb_nodes.specs.Standing.{ObjStands}
use Rattle.nb_opens.specs.Marks.{IsOfKind}
use Rattle.nb_chains.specs.declared.chain.Chain.{Chain}
use Rattle.nb_chains.specs.declared.kind.ChainKind.TheVariants.{File}
use Rattle.nb_chains.specs.Chains.{Awaits, GrowsBy, IsFresh, below_ids, chain_ids, waits_notices}
use Rattle.nb_chains.specs.Giving.{CallGives, IsMakeWithin, MakingGives}
use Rattle.nb_chains.proofs.FreshOnes.{fresh_chained, sole_is}
use Rattle.nb_chains.proofs.GivingLemmas.{gives_both, gives_more, more_making}
use Rattle.nb_chains.proofs.GoingOn.{keeps_both}
use Rattle.nb_closings.proofs.Joining.{first_in, later_in}
use Rattle.nb_webchains.specs.declared.web_chain.WebChain.{WebChain}
use Rattle.nb_webchains.specs.Plugs.{Extends, IsNewNode, plugged_notices, web_notices}
use Rattle.nb_webchains.specs.WebCalls.{WebMakes}
use Rattle.nb_webchains.specs.WebChains.{AreReady, GrowsTo, IsReadyWeb, web_ids}
use Rattle.nb_webchains.proofs.Lists.{not_fewer, still_one}

-- a Fetch that waits is ready alone
pub alone_ready : (g : Objects Obj) (x r mark : ℕ) → IsFresh g x r mark → AreReady g (x ∷ [])
alone_ready g x r mark f = record {
  chained = fresh_chained g x r mark f;
  ports = (f.ports 0, f.ports 1);
  rest = λ v k o low. ap (λ w. port_in g.book w k) (sole_is x v o) ∙ f.ports k;
  stands = λ v o. subst (λ w. ObjectStands ObjStands g w []) (sym (sole_is x v o)) f.stands;
}

-- two more are made
module _ (g a h : Objects Obj) (m n o : Heard) (x y w : ObjId) (web conn : Obj) (f : IsFresh g x.0 5 0) (is_web : IsNewNode 2 3 2 web) (is_conn : IsNewNode 3 2 3 conn)
    (first : Extends (x.0 ∷ []) x.0 y.0 web g a m n) (other : Extends (x.0 ∷ y.0 ∷ []) y.0 w.0 conn a h n o) where
  abbrev chain : WebChain
  chain = record { fetch = x; web = y; conn = w }

  abbrev two : List ℕ
  two = x.0 ∷ y.0 ∷ []

  abbrev three : List ℕ
  three = x.0 ∷ y.0 ∷ w.0 ∷ []

  module _ (y_is : y.0 ≡ g.book.made + 1) (w_is : w.0 ≡ a.book.made + 1) (y_kind : IsOfKind a y.0 (mark_of_obj web)) (w_kind : IsOfKind h w.0 (mark_of_obj conn)) where
    pub ready_web : IsReadyWeb chain h
    ready_web = record {
      order = record { web_later = (let e = f.given in omega (arith, e, y_is)); conn_later = (let e = first.grows.made in omega (arith, e, y_is, w_is)) };
      ready = other.ready;
      kinds = record {
        fetch_rank = other.ranks x.0 (first_in x.0 (y.0 ∷ [])) ∙ (first.ranks x.0 (first_in x.0 []) ∙ f.ranked);
        fetch = other.kinds x.0 0 (first_in x.0 (y.0 ∷ [])) (first.kinds x.0 0 (first_in x.0 []) f.of_kind);
        web = other.kinds y.0 2 (later_in x.0 (y.0 ∷ []) y.0 (first_in y.0 [])) (subst (IsOfKind a y.0) is_web.mark y_kind);
        conn = subst (IsOfKind h w.0) is_conn.mark w_kind;
      };
    }

  pub grows_two : GrowsTo 2 three g h
  grows_two = record {
    made = let i = first.grows.made in let j = other.grows.made in omega (arith, i, j);
    number = let i = first.grows.number in let j = other.grows.number in omega (arith, i, j);
    same_room = other.grows.same_room ∙ first.grows.same_room;
    others = λ v low far. keeps_both g a h v (first.grows.others v low (not_fewer two three v (still_one two w.0 v) far)) (other.grows.others v (let i = first.grows.made in omega (arith, i, low)) far);
  }

  pub gives_two : WebMakes chain g h m o (web_notices chain)
  gives_two =
      let own = IsMakeWithin (is_one_of three) in
      let one = gives_more (IsMakeWithin (is_one_of two)) own (λ e q. more_making (is_one_of two) (is_one_of three) (still_one two w.0) e q) g a m n (plugged_notices x.0 y.0 (kind_of_obj web)) first.gives in
      gives_both own g a h m n o (plugged_notices x.0 y.0 2) (plugged_notices y.0 w.0 3) (subst (λ k. CallGives own g a m n (plugged_notices x.0 y.0 k)) is_web.number one) (subst (λ k. CallGives own a h n o (plugged_notices y.0 w.0 k)) is_conn.number other.gives)

-- all three
module _ (c : Chain) (d : WebChain) (g a h : Objects Obj) (m n o : Heard) (waits : Awaits File c a) (top : d.fetch ≡ c.top) where
  sole : (v : ℕ) → is_one_of (chain_ids c) v ≡ true → is_one_of (web_ids d) v ≡ true
  sole = by c.below waits.alone
    where
      by : (b : Option ObjId) → b ≡ None → (v : ℕ) → is_one_of (c.top.0 ∷ below_ids b) v ≡ true → is_one_of (web_ids d) v ≡ true
      by None e v i = ap (is_one_of (web_ids d)) (sole_is c.top.0 v i ∙ sym (ap (λ (z : ObjId). z.0) top)) ∙ first_in d.fetch.0 (d.web.0 ∷ d.conn.0 ∷ [])
      by (Some t) e v i = absurd (let z = e in cc)

  pub grows_three : GrowsBy 1 c g a → GrowsTo 2 (web_ids d) a h → GrowsTo 3 (web_ids d) g h
  grows_three i j = record {
    made = let s = i.made in let t = j.made in omega (arith, s, t);
    number = let s = i.number in let t = j.number in omega (arith, s, t);
    same_room = j.same_room ∙ i.same_room;
    others = λ v low far. keeps_both g a h v (i.others v low (not_fewer (chain_ids c) (web_ids d) v (sole v) far)) (j.others v (let s = i.made in omega (arith, s, low)) far);
  }

  pub gives_three : MakingGives c g a m n (waits_notices File c.top.0) → WebMakes d a h n o (web_notices d) → WebMakes d g h m o (waits_notices File d.fetch.0 ++ web_notices d)
  gives_three i j =
      let own = IsMakeWithin (is_one_of (web_ids d)) in
      let one = gives_more (IsMakeWithin (is_one_of (chain_ids c))) own (λ e q. more_making (is_one_of (chain_ids c)) (is_one_of (web_ids d)) sole e q) g a m n (waits_notices File c.top.0) i in
      gives_both own g a h m n o (waits_notices File d.fetch.0) (web_notices d) (subst (λ (z : ObjId). CallGives own g a m n (waits_notices File z.0)) (sym top) one) j
