-- Two chains stay beside one another.
use Rattle.std.proofs.Common.{inl, inr, ◌≡◌, ℕ, ◌+◌, ◌<◌, ◌≤◌, true, ◌∷◌, Option, None, sym, subst, arith}
use Rattle.nb_terms.specs.declared.cause.Cause.{Cause}
use Rattle.nb_ledger.specs.declared.port.ObjId.{ObjId}
use Rattle.nb_ledger.specs.Flat.{Heard}
use Rattle.nb_graph.specs.Noded.{AreNoded}
use Rattle.nb_graph.specs.Whole.{Objects}
use Rattle.nb_nodes.specs.declared.obj.Obj.{Obj}
use Rattle.nb_nodes.specs.Objects.{rank_of_obj}
use Rattle.nb_opens.specs.Pairs.{AreMade}
use Rattle.nb_chains.specs.declared.chain.Chain.{Chain}
use Rattle.nb_chains.specs.declared.kind.ChainKind.TheVariants.{File, Name, Lease, Echo, Drive}
use Rattle.nb_chains.specs.declared.kind.ChainKind.{ChainKind}
use Rattle.nb_chains.specs.Kinds.{count_below, top_mark, top_rank}
use Rattle.nb_frames.specs.Frames.{is_one_of, KeepsObject}
use Rattle.nb_frames.proofs.OwnCallLemmas.{either_way}
use Rattle.nb_chains.proofs.ChainDoes.{top_in}
use Rattle.nb_chains.proofs.FreshOnes.{fresh_kept, sole_is}
use Rattle.nb_chains.proofs.Opened.{ready_open}
use Rattle.nb_chains.proofs.OfTwo.{of_two}
use Rattle.nb_chains.specs.Calls.{ClosesChain, IsOpenChain, ShutsChain}
use Rattle.nb_chains.specs.Chains.{AreChained, AreOthers, Awaits, GrowsBy, AreStillChained, IsReadyChain, IsReleased, IsShutChain, below_ids, chain_ids}
use Rattle.nb_chains.proofs.Staying.{goes_stays, grows_stays, released_stays}
use Rattle.nb_chain_tests.specs.Beside.{AreBeside, WaitsAside}

module _ (g h : Objects Obj) (c d : Chain) (noded : AreNoded rank_of_obj h) (b : AreBeside g c d) (on : AreStillChained (chain_ids c) g h) where
  pub stay_beside : AreBeside h c d
  stay_beside = record { one = on.chained; other = (goes_stays (chain_ids c) (chain_ids d) g h noded b.other b.apart on).chained; apart = b.apart; away = b.away }

  pub stay_back : AreBeside h d c
  stay_back = record { one = stay_beside.other; other = stay_beside.one; apart = b.away; away = b.apart }

  pub stay_ready : IsReadyChain File d g → IsReadyChain File d h
  stay_ready r = (r.0, r.1, subst (λ (z : Objects Obj). AreMade z d.top.0 r.0.0) (sym (goes_stays (chain_ids c) (chain_ids d) g h noded b.other b.apart on).same_graph) r.2)

-- a file's open that was just made is closed, and can be let go
module _ (g h : Objects Obj) (c : Chain) (cause : Cause) (m n : Heard) where
  pub shut_then : IsReadyChain File c g → ClosesChain c g h cause m n → IsShutChain c h
  shut_then r k = k.shut (ready_open File c g r)

  -- at the end of a run it is let go
  pub gone_then : IsReadyChain File c g → (IsOpenChain c g → ShutsChain c g h cause m n) → IsReleased c g h
  gone_then r k = (k (ready_open File c g r)).released

-- the other stays
module _ (c : Chain) (h : Objects Obj) where
  pub other_stays : (o : Objects Obj) (d : Chain) → AreNoded rank_of_obj o → AreBeside h c d → IsReleased c h o → AreChained o (chain_ids d)
  other_stays o d noded b gone = (released_stays c (chain_ids d) h o noded b.other b.apart gone).chained

-- at most one object is below the top one
pub few_below : (k : ChainKind) → count_below k ≤ 1
few_below File = omega arith
few_below Name = omega arith
few_below Lease = omega arith
few_below Echo = omega arith
few_below Drive = omega arith

sole_above : (lo x : ℕ) (b : Option ObjId) → b ≡ None → lo < x → (y : ℕ) → is_one_of (x ∷ below_ids b) y ≡ true → lo < y
sole_above lo x b e i = subst (λ (z : Option ObjId). (y : ℕ) → is_one_of (x ∷ below_ids z) y ≡ true → lo < y) (sym e) (λ y o. let s = sole_is x y o in omega (arith, s, i))

-- the serials of one that was just made are above those before
pub ids_above : (k : ChainKind) (d : Chain) (h : Objects Obj) (lo : ℕ) → IsReadyChain k d h → d.top.0 ≡ lo + 1 → (y : ℕ) → is_one_of (chain_ids d) y ≡ true → lo < y
ids_above File d h lo r e =
    let lt = r.2.joined.two.older in
    subst (λ (z : Option ObjId). (y : ℕ) → is_one_of (d.top.0 ∷ below_ids z) y ≡ true → lo < y) (sym r.1) (of_two d.top.0 r.0.0 (λ y. lo < y) (omega (arith, e)) (omega (arith, e, lt)))
ids_above Name d h lo r e = sole_above lo d.top.0 d.below r.0 (omega (arith, e))
ids_above Lease d h lo r e = sole_above lo d.top.0 d.below r.0 (omega (arith, e))
ids_above Echo d h lo r e = sole_above lo d.top.0 d.below r.0 (omega (arith, e))
ids_above Drive d h lo r e = sole_above lo d.top.0 d.below r.0 (omega (arith, e))

-- two that were made one after the other
pub made_beside : (one two : ChainKind) (c d : Chain) (g a h : Objects Obj) → AreNoded rank_of_obj h → GrowsBy (1 + count_below one) c g a → GrowsBy (1 + count_below two) d a h → IsReadyChain two d h → d.top.0 ≡ a.book.made + 1 → AreBeside h c d
made_beside one two c d g a h noded i j r e =
    let above = ids_above two d h a.book.made r e in
    let away : AreOthers (chain_ids d) (chain_ids c) = λ x o. elim (either_way (is_one_of (chain_ids d) x)) [ inl p ↦ absurd (let lt = above x p in let le = i.chained.given x o in omega (arith, lt, le)) | inr p ↦ p ] in
    let apart : AreOthers (chain_ids c) (chain_ids d) = λ x o. elim (either_way (is_one_of (chain_ids c) x)) [ inl p ↦ absurd (let lt = above x o in let le = i.chained.given x p in omega (arith, lt, le)) | inr p ↦ p ] in
    record { one = (grows_stays (1 + count_below two) d (chain_ids c) a h noded i.chained away j).chained; other = j.chained; apart = apart; away = away }

-- what waits stays as it is where its object does
waits_still : (kind : ChainKind) (w : Chain) (g h : Objects Obj) → Awaits kind w g → KeepsObject g h w.top.0 → g.book.made ≤ h.book.made → Awaits kind w h
waits_still kind w g h a k later = record { alone = a.alone; fresh = fresh_kept g h w.top.0 (top_rank kind) (top_mark kind) a.fresh k later }

-- one that waits, and another that was made after it
pub made_after : (kind two : ChainKind) (w c : Chain) (g a h : Objects Obj) → AreNoded rank_of_obj h → Awaits kind w a → GrowsBy 1 w g a → GrowsBy (1 + count_below two) c a h → IsReadyChain two c h → c.top.0 ≡ a.book.made + 1 → WaitsAside kind h w c
made_after kind two w c g a h noded waits i j r e =
    let b = made_beside Name two w c g a h noded i j r e in
    record {
      waits = waits_still kind w a h waits (j.others w.top.0 waits.fresh.given (b.away w.top.0 (top_in w))) (let k = j.made in omega (arith, k));
      chained = b.other;
      apart = b.away;
    }

-- it still waits after a call on the other
pub stays_waiting : (kind : ChainKind) (w c : Chain) (g h : Objects Obj) → WaitsAside kind g w c → AreStillChained (chain_ids c) g h → WaitsAside kind h w c
stays_waiting kind w c g h b on = record {
  waits = waits_still kind w g h b.waits (on.others.others w.top.0 b.waits.fresh.given (b.apart w.top.0 (top_in w))) (let e = on.others.same_made in omega (arith, e));
  chained = on.chained;
  apart = b.apart;
}
