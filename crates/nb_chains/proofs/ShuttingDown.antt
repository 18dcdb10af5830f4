-- The end of a run: all ports of a chain are closed, and its objects are let go.
use Rattle.std.proofs.Common.{◌≡◌, ℕ, ◌++◌, Option, Some, None, refl, ◌∙◌, subst}
use Rattle.nb_terms.specs.declared.cause.Cause.{Cause}
use Rattle.nb_ledger.specs.declared.port.ObjId.{ObjId}
use Rattle.nb_ledger.specs.Flat.{Heard}
use Rattle.nb_graph.specs.Whole.{Objects}
use Rattle.nb_frames.specs.Frames.{is_one_of}
use Rattle.nb_frames.specs.Within.{IsEventWithin}
use Rattle.nb_nodes.specs.declared.obj.Obj.{Obj}
use Rattle.nb_chains.specs.declared.chain.Chain.{Chain}
use Rattle.nb_chains.specs.Calls.{ClosesPorts, IsOpenChain, ReleasesChain, ShutsChain, ports_closed_notices, shutting_notices}
use Rattle.nb_chains.specs.Chains.{AreStillChained, IsReleased, chain_ids, last_below, released_by, released_notices}
use Rattle.nb_chains.specs.Ends.{HasNoLinks}
use Rattle.nb_chains.specs.Shapes.{SendsNone}
use Rattle.nb_chains.proofs.GivingLemmas.{gives_both}
use Rattle.nb_chains.proofs.GoingOn.{others_both}
use Rattle.nb_chains.proofs.ShapesOf.{alone_shut_stays, shut_stays}
use Rattle.nb_chains.specs.Giving.{ChainGives}

-- what is released after it went on is released
released_after : (c : Chain) (g a h : Objects Obj) → AreStillChained (chain_ids c) g a → IsReleased c a h → IsReleased c g h
released_after c g a h on r = record {
  gone = r.gone;
  others = others_both (is_one_of (chain_ids c)) g a h on.others r.others;
  number = r.number ∙ on.same_number;
  same_room = r.same_room ∙ on.same_room;
}

-- what it is given: the closes, and then that they are let go
shut_parts : (x : ℕ) (b : Option ObjId) (z : Cause) → ports_closed_notices x b z ++ released_by x b ≡ shutting_notices x b z
shut_parts x None z = refl
shut_parts x (Some t) z = refl

shutting_stays : (x : ℕ) (b : Option ObjId) (z : Cause) → SendsNone (last_below x b) (shutting_notices x b z)
shutting_stays x None z = alone_shut_stays x z
shutting_stays x (Some t) z = shut_stays x t.0 z

pub shuts_chain : (c : Chain) (g a h : Objects Obj) (m n o : Heard) (z : Cause) → AreStillChained (chain_ids c) g a → (IsOpenChain c g → ClosesPorts c g a z m n) → (HasNoLinks c.below c.top.0 a → ReleasesChain c a h n o) → IsOpenChain c g → ShutsChain c g h z m o
shuts_chain c g a h m n o z on closes goes is =
    let p = closes is in
    let r = goes p.unlinked in
    let all = gives_both (IsEventWithin (is_one_of (chain_ids c))) g a h m n o (ports_closed_notices c.top.0 c.below z) (released_notices c) p.gives r.gives in
    record {
      gives = subst (ChainGives c g h m o) (shut_parts c.top.0 c.below z) all;
      released = released_after c g a h on r.released;
      shape = shutting_stays c.top.0 c.below z;
    }
