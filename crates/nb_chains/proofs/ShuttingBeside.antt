-- The end of a run for a chain beside which another one waits.
use Rattle.std.proofs.Common.{inl, inr, ◌≡◌, ℕ, ◌≤◌, true, false, List, [], ◌∷◌, ◌++◌, Option, Some, None, refl, sym, ap, ◌∙◌, subst, arith}
use Rattle.nb_terms.specs.declared.cause.Cause.{Cause}
use Rattle.nb_ledger.specs.declared.port.ObjId.{ObjId}
use Rattle.nb_ledger.specs.Flat.{Heard, Notice}
use Rattle.nb_ledger.specs.declared.port.PortState.{PortState}
use Rattle.nb_ledger.specs.declared.port.PortState.TheVariants as port
use Rattle.nb_ledger.specs.Ledger.{object_lives, port as port_in}
use Rattle.nb_graph.specs.Noded.{AreNoded}
use Rattle.nb_graph.specs.Whole.{Objects}
use Rattle.nb_frames.specs.Frames.{is_one_of, graph_of, KeepsObject, KeepsOthers}
use Rattle.nb_frames.specs.Within.{IsEventWithin, LeadsWithin}
use Rattle.nb_frames.proofs.OwnCallLemmas.{either_way}
use Rattle.nb_nodes.specs.declared.obj.Obj.{Obj}
use Rattle.nb_nodes.specs.Objects.{rank_of_obj}
use Rattle.nb_opens.specs.AloneNotices.{all_closed, alone_freed}
use Rattle.nb_chains.specs.declared.chain.Chain.{Chain}
use Rattle.nb_chains.specs.declared.kind.ChainKind.{ChainKind}
use Rattle.nb_chains.specs.Calls.{ClosesPorts, IsOpenBy, IsOpenChain, ReleasesChain, ShutsChainBeside, beside_notices, closing_notices, ports_closed_notices}
use Rattle.nb_chains.specs.Chains.{AreChained, AreOthers, Awaits, AreStillChained, below_ids, chain_ids, last_below, last_serial, released_by, released_notices}
use Rattle.nb_chains.specs.Ends.{HasNoLinks, first_close_among, free_notices, free_slot_notices}
use Rattle.nb_chains.specs.Giving.{CallGives}
use Rattle.nb_chains.specs.Kinds.{top_mark, top_rank}
use Rattle.nb_chains.specs.Shapes.{SendsNone, StaysAbove}
use Rattle.nb_chains.proofs.ChainCloses.{close_stays}
use Rattle.nb_chains.proofs.ChainDoes.{top_in}
use Rattle.nb_chains.proofs.FreshOnes.{fresh_chained, fresh_ready, sole_in, sole_is}
use Rattle.nb_chains.proofs.GivingLemmas.{each_append, gives_both}
use Rattle.nb_chains.proofs.GoingOn.{others_both}
use Rattle.nb_chains.proofs.LettingGo.{loose_kept}
use Rattle.nb_chains.proofs.OfBoth.{away_from, gives_of_more, in_either, in_first, in_last, others_of_more}
use Rattle.nb_chains.proofs.OfTwo.{first_in, other_in}
use Rattle.nb_chains.proofs.ShapesOf.{all_closed_stay, alone_freed_stays, freed_stays, two_closed_stay}
use Rattle.nb_chains.proofs.Staying.{goes_stays}

-- WHAT IT GIVES

-- nothing goes down
all_free_stay : (y x : ℕ) (b : Option ObjId) (z : Cause) → SendsNone y (free_notices x b z)
all_free_stay y x None z = two_closed_stay y x 2 3 z
all_free_stay y x (Some t) z = each_append (StaysAbove y) (free_slot_notices x z) (free_slot_notices t.0 z) (two_closed_stay y x 2 3 z) (two_closed_stay y t.0 2 3 z)

released_stays_above : (x : ℕ) (b : Option ObjId) → SendsNone (last_below x b) (released_by x b)
released_stays_above x None = alone_freed_stays x x
released_stays_above x (Some t) = freed_stays x t.0

beside_stays : (w : ℕ) (c : Chain) (z : Cause) → SendsNone (last_serial c) (beside_notices w c z)
beside_stays w c z =
    let x = last_serial c in
    let ports = each_append (StaysAbove x) (closing_notices c.top.0 c.below z) (free_notices c.top.0 c.below z) (close_stays c.top.0 c.below z) (all_free_stay x c.top.0 c.below z) in
    let gone = each_append (StaysAbove x) (alone_freed w) (released_notices c) (alone_freed_stays x w) (released_stays_above c.top.0 c.below) in
    let rest = each_append (StaysAbove x) (ports_closed_notices c.top.0 c.below z) (alone_freed w ++ released_notices c) ports gone in
    each_append (StaysAbove x) (all_closed w z) (ports_closed_notices c.top.0 c.below z ++ (alone_freed w ++ released_notices c)) (all_closed_stay x w z) rest

-- its first close is after those of what waits
past_others : (ids : List ℕ) (w : ℕ) (z : Cause) (ns : List Notice) → is_one_of ids w ≡ false → first_close_among ids (all_closed w z ++ ns) ≡ first_close_among ids ns
past_others ids w z ns far = rw far refl

own_close : (ids : List ℕ) (x : ℕ) (b : Option ObjId) (z : Cause) (ns : List Notice) → is_one_of ids x ≡ true → first_close_among ids (ports_closed_notices x b z ++ ns) ≡ Some z
own_close ids x None z ns is = rw is refl
own_close ids x (Some t) z ns is = rw is refl

beside_close : (c : Chain) (w : ℕ) (z : Cause) → is_one_of (chain_ids c) w ≡ false → first_close_among (chain_ids c) (beside_notices w c z) ≡ Some z
beside_close c w z far =
    past_others (chain_ids c) w z (ports_closed_notices c.top.0 c.below z ++ (alone_freed w ++ released_notices c)) far ∙ own_close (chain_ids c) c.top.0 c.below z (alone_freed w ++ released_notices c) (top_in c)

-- WHAT STAYS AS IT IS

-- objects without a link, which stay as they are
no_links_kept : (b : Option ObjId) (x : ℕ) (g h : Objects Obj) → ((y : ℕ) → is_one_of (x ∷ below_ids b) y ≡ true → KeepsObject g h y) → h.book.made ≡ g.book.made → HasNoLinks b x g → HasNoLinks b x h
no_links_kept None x g h k e l = loose_kept g h x l (k x (sole_in x)) e
no_links_kept (Some t) x g h k e l = record {
  different = l.different;
  first = loose_kept g h x l.first (k x (first_in x t.0)) e;
  other = loose_kept g h t.0 l.other (k t.0 (other_in x t.0)) e;
}

module _ (kind : ChainKind) (w : Chain) (g : Objects Obj) (waits : Awaits kind w g) where
  pub waits_chained : AreChained g (chain_ids w)
  waits_chained = subst (λ (b : Option ObjId). AreChained g (w.top.0 ∷ below_ids b)) (sym waits.alone) (fresh_chained g w.top.0 (top_rank kind) (top_mark kind) waits.fresh)

  waits_open : AreNoded rank_of_obj g → IsOpenChain w g
  waits_open noded = subst (λ (b : Option ObjId). IsOpenBy b w.top.0 (graph_of (w.top.0 ∷ below_ids b) g)) (sym waits.alone) (fresh_ready g noded w.top.0 (top_rank kind) (top_mark kind) waits.fresh).lone

-- a chain is still there after the ports of an object were closed that waits, whichever that is
module _ (ids : List ℕ) (x : ℕ) (g a : Objects Obj) (chained : AreChained g ids) (on : AreStillChained (x ∷ []) g a) where
  leads_more : (v : PortState) → is_one_of ids x ≡ true → LeadsWithin (is_one_of (x ∷ [])) v → LeadsWithin (is_one_of ids) v
  leads_more port.Open o k = tt
  leads_more (port.Linked q) o k = ap (is_one_of ids) (sole_is x q.obj.0 k) ∙ o
  leads_more (port.Leaving q) o k = ap (is_one_of ids) (sole_is x q.obj.0 k) ∙ o
  leads_more port.Closed o k = tt

  kept : (y : ℕ) → is_one_of ids y ≡ true → is_one_of (x ∷ []) y ≡ false → KeepsObject g a y
  kept y o far = on.others.others y (chained.given y o) far

  pub still_chained : AreChained a ids
  still_chained = record {
    given = λ y o. let i = chained.given y o in let e = on.others.same_made in omega (arith, i, e);
    lives = λ y o. elim (either_way (is_one_of (x ∷ []) y)) [ inl p ↦ on.chained.lives y p | inr p ↦ (kept y o p).live ∙ chained.lives y o ];
    held = λ y o. elim (either_way (is_one_of (x ∷ []) y)) [ inl p ↦ on.chained.held y p | inr p ↦ (kept y o p).held ∙ chained.held y o ];
    stands = λ y o. elim (either_way (is_one_of (x ∷ []) y)) [ inl p ↦ on.chained.stands y p | inr p ↦ (let t = chained.stands y o in (t.0, λ n e. t.1 n ((kept y o p).node n e))) ];
    links = λ y k o. elim (either_way (is_one_of (x ∷ []) y)) [
      | inl p ↦ leads_more (port_in a.book y k) (ap (is_one_of ids) (sym (sole_is x y p)) ∙ o) (on.chained.links y k p)
      | inr p ↦ subst (LeadsWithin (is_one_of ids)) (sym ((kept y o p).ports k)) (chained.links y k o)
    ];
  }

-- so it is of what waits
pub chained_beside : (kind : ChainKind) (c w : Chain) (g a : Objects Obj) → AreChained g (chain_ids c) → Awaits kind w g → AreStillChained (chain_ids w) g a → AreChained a (chain_ids c)
chained_beside kind c w g a chained waits on = still_chained (chain_ids c) w.top.0 g a chained (subst (λ (b : Option ObjId). AreStillChained (w.top.0 ∷ below_ids b) g a) waits.alone on)

-- and where it isn't one of the chain's objects, the chain's ports are still open
still_open : (c w : Chain) (g a : Objects Obj) → AreNoded rank_of_obj a → AreChained g (chain_ids c) → AreOthers (chain_ids c) (chain_ids w) → AreStillChained (chain_ids w) g a → IsOpenChain c g → IsOpenChain c a
still_open c w g a noded chained apart w_on is =
    subst (IsOpenBy c.below c.top.0) (sym (goes_stays (chain_ids w) (chain_ids c) g a noded chained (away_from (chain_ids c) (chain_ids w) apart) w_on).same_graph) is

-- BOTH

module _ (kind : ChainKind) (c w : Chain) (g a b d h : Objects Obj) (l m n o q : Heard) (z : Cause) (chained : AreChained g (chain_ids c)) (waits : Awaits kind w g)
    (g_noded : AreNoded rank_of_obj g) (a_noded : AreNoded rank_of_obj a) (w_on : AreStillChained (chain_ids w) g a) (w_closes : IsOpenChain w g → ClosesPorts w g a z l m)
    (c_on : AreStillChained (chain_ids c) a b) (c_closes : IsOpenChain c a → ClosesPorts c a b z m n)
    (w_goes : HasNoLinks w.below w.top.0 b → ReleasesChain w b d n o) (c_goes : HasNoLinks c.below c.top.0 d → ReleasesChain c d h o q) (apart : AreOthers (chain_ids c) (chain_ids w)) where
  abbrev both : List ℕ
  both = chain_ids c ++ chain_ids w

  w_closed : ClosesPorts w g a z l m
  w_closed = w_closes (waits_open kind w g waits g_noded)

  away : AreOthers (chain_ids w) (chain_ids c)
  away = away_from (chain_ids c) (chain_ids w) apart

  w_gone : ReleasesChain w b d n o
  w_gone = w_goes (no_links_kept w.below w.top.0 a b (λ y i. c_on.others.others y (w_on.chained.given y i) (apart y i)) c_on.others.same_made w_closed.unlinked)

  module _ (is : IsOpenChain c g) where
    c_closed : ClosesPorts c a b z m n
    c_closed = c_closes (still_open c w g a a_noded chained apart w_on is)

    c_gone : ReleasesChain c d h o q
    c_gone = c_goes (no_links_kept c.below c.top.0 b d (λ y i. w_gone.released.others.others y (c_on.chained.given y i) (away y i)) w_gone.released.others.same_made c_closed.unlinked)

    gone_in : (x : ℕ) → is_one_of both x ≡ true → object_lives h.book x ≡ false
    gone_in x i = elim (in_either (chain_ids c) (chain_ids w) x i) [
      | inl j ↦ c_gone.released.gone x j
      | inr j ↦ let low : x ≤ d.book.made = (let e = w_gone.released.others.same_made in let f = c_on.others.same_made in let k = w_on.chained.given x j in omega (arith, e, f, k)) in
          (c_gone.released.others.others x low (apart x j)).live ∙ w_gone.released.gone x j
    ]

    of_c : (x : ℕ) → is_one_of (chain_ids c) x ≡ true → is_one_of both x ≡ true
    of_c x i = in_first (chain_ids c) (chain_ids w) x i

    of_w : (x : ℕ) → is_one_of (chain_ids w) x ≡ true → is_one_of both x ≡ true
    of_w x i = in_last (chain_ids c) (chain_ids w) x i

    all_others : KeepsOthers (is_one_of both) g h
    all_others =
        let more = is_one_of both in
        let i = others_of_more (is_one_of (chain_ids w)) more g a of_w w_on.others in
        let j = others_of_more (is_one_of (chain_ids c)) more a b of_c c_on.others in
        let k = others_of_more (is_one_of (chain_ids w)) more b d of_w w_gone.released.others in
        let p = others_of_more (is_one_of (chain_ids c)) more d h of_c c_gone.released.others in
        others_both more g a h i (others_both more a b h j (others_both more b d h k p))

    -- what is given, by what waits
    abbrev given_by : Option ObjId → List Notice
    given_by u = ports_closed_notices w.top.0 u z ++ (ports_closed_notices c.top.0 c.below z ++ (released_by w.top.0 u ++ released_notices c))

    all_gives : CallGives (IsEventWithin (is_one_of both)) g h l q (beside_notices w.top.0 c z)
    all_gives =
        let more = IsEventWithin (is_one_of both) in
        let i = gives_of_more (is_one_of (chain_ids w)) (is_one_of both) g a l m (ports_closed_notices w.top.0 w.below z) of_w w_closed.gives in
        let j = gives_of_more (is_one_of (chain_ids c)) (is_one_of both) a b m n (ports_closed_notices c.top.0 c.below z) of_c c_closed.gives in
        let k = gives_of_more (is_one_of (chain_ids w)) (is_one_of both) b d n o (released_notices w) of_w w_gone.gives in
        let p = gives_of_more (is_one_of (chain_ids c)) (is_one_of both) d h o q (released_notices c) of_c c_gone.gives in
        let last = gives_both more b d h n o q (released_notices w) (released_notices c) k p in
        let later = gives_both more a b h m n q (ports_closed_notices c.top.0 c.below z) (released_notices w ++ released_notices c) j last in
        let all = gives_both more g a h l m q (ports_closed_notices w.top.0 w.below z) (ports_closed_notices c.top.0 c.below z ++ (released_notices w ++ released_notices c)) i later in
        subst (λ (u : Option ObjId). CallGives more g h l q (given_by u)) waits.alone all

    pub shuts_beside : ShutsChainBeside c w g h z l q
    shuts_beside = record {
      gives = all_gives;
      gone = gone_in;
      others = all_others;
      number = (let i = w_on.same_number in let j = c_on.same_number in let k = w_gone.released.number in let p = c_gone.released.number in omega (arith, i, j, k, p));
      same_room = c_gone.released.same_room ∙ (w_gone.released.same_room ∙ (c_on.same_room ∙ w_on.same_room));
      shape = beside_stays w.top.0 c z;
      close = beside_close c w.top.0 z (apart w.top.0 (top_in w));
    }
