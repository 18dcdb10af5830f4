-- What the Fetch of an open that has ended hands out.
use Rattle.std.proofs.Common.{◌≡◌, ℕ, true, false, List, Option, Some, None, is_some, refl, ap, sym, ◌∙◌, arith}
use Rattle.std.specs.Prelude.{IfSome}
use Rattle.nb_graph.specs.Trace.{NodeEntry}
use Rattle.nb_graph.specs.Whole.{Objects, Harvests}
use Rattle.nb_graph.specs.Noded.{AreNoded}
use Rattle.nb_nodes.specs.declared.fetch.Fetch.{Fetch}
use Rattle.nb_nodes.specs.declared.fetch.Fetch.TheVariants.{Gathering, Whole, HandedOut, Moved, Failed}
use Rattle.nb_nodes.specs.declared.load.Load.{Load}
use Rattle.nb_nodes.specs.declared.obj.Obj.{Obj}
use Rattle.nb_nodes.specs.declared.obj.Obj.TheVariants as obj
use Rattle.nb_nodes.specs.Fetches.{FetchStands, FetchHarvests, closed_well, taken_below}
use Rattle.nb_nodes.specs.Objects.{rank_of_obj, mark_of_obj}
use Rattle.nb_nodes.specs.Standing.{ObjStands, ObjHarvests}
use Rattle.nb_opens.specs.Notices.{serial}
use Rattle.nb_opens.specs.Pairs.{HasHandedOut, body_in}

no_body : (body : Option (List ℕ)) → false ≡ is_some body → body ≡ None
no_body None h = refl
no_body (Some bytes) h = absurd (let z = h in cc)

whole_body : (body : Option (List ℕ)) (b taken : List ℕ) → true ≡ is_some body → b ≡ taken → IfSome body (λ bytes. taken ≡ bytes) → Some b ≡ body
whole_body None b taken h i j = absurd (let z = h in cc)
whole_body (Some bytes) b taken h i j = ap Some (i ∙ j)

from_fetch : (fe after : Fetch) (r : Option Load) (t : List (NodeEntry Obj Load)) (body : Option (List ℕ)) → FetchStands fe t → closed_well t ≡ is_some body → IfSome body (λ bytes. taken_below t ≡ bytes) → mark_of_obj (obj.Fetch fe) ≡ 0 → FetchHarvests fe r after
    → body_in r ≡ body
from_fetch (Gathering b al) after r t body s well taken zero h = ap body_in h.0 ∙ sym (no_body body (s.whole ∙ well))
from_fetch (Whole b) after r t body s well taken zero h = ap body_in h.0 ∙ whole_body body b (taken_below t) (s.whole ∙ well) s.body taken
from_fetch HandedOut after r t body s well taken zero h = absurd (omega (arith, zero))
from_fetch (Moved u) after r t body s well taken zero h = ap body_in h.0 ∙ sym (no_body body (s.whole ∙ well))
from_fetch Failed after r t body s well taken zero h = ap body_in h.0 ∙ sym (no_body body (s.whole ∙ well))

from_node : (n after : Obj) (r : Option Load) (t : List (NodeEntry Obj Load)) (body : Option (List ℕ)) → rank_of_obj n ≡ 5 → ObjStands n t → closed_well t ≡ is_some body → IfSome body (λ bytes. taken_below t ≡ bytes) → mark_of_obj n ≡ 0 → ObjHarvests n r after
    → body_in r ≡ body
from_node (obj.Fetch fe) (obj.Fetch after) r t body at s well taken zero h = from_fetch fe after r t body s well taken zero h
from_node (obj.Fetch fe) (obj.Tftp q) r t body at s well taken zero h = absurd h
from_node (obj.Fetch fe) (obj.Resolver q) r t body at s well taken zero h = absurd h
from_node (obj.Fetch fe) (obj.Dhcp q) r t body at s well taken zero h = absurd h
from_node (obj.Fetch fe) (obj.Ping q) r t body at s well taken zero h = absurd h
from_node (obj.Fetch fe) (obj.Http q) r t body at s well taken zero h = absurd h
from_node (obj.Fetch fe) (obj.Tcp q) r t body at s well taken zero h = absurd h
from_node (obj.Fetch fe) (obj.Iscsi q) r t body at s well taken zero h = absurd h
from_node (obj.Fetch fe) (obj.Disk q) r t body at s well taken zero h = absurd h
from_node (obj.Tftp p) after r t body at s well taken zero h = absurd (omega (arith, at))
from_node (obj.Resolver p) after r t body at s well taken zero h = absurd (omega (arith, at))
from_node (obj.Dhcp p) after r t body at s well taken zero h = absurd (omega (arith, at))
from_node (obj.Ping p) after r t body at s well taken zero h = absurd (omega (arith, zero))
from_node (obj.Http p) after r t body at s well taken zero h = absurd (omega (arith, at))
from_node (obj.Tcp p) after r t body at s well taken zero h = absurd (omega (arith, at))
from_node (obj.Iscsi p) after r t body at s well taken zero h = absurd (omega (arith, at))
from_node (obj.Disk p) after r t body at s well taken zero h = absurd (omega (arith, zero))

-- it is the body of the open
pub harvests_body : (g h : Objects Obj) (f t : ℕ) (r : Option Load) (body : Option (List ℕ)) → AreNoded rank_of_obj g → Harvests ObjHarvests g h (serial f) r → HasHandedOut g f t body → body_in r ≡ body
harvests_body g h f t r body noded k e =
    let n = noded f e.shut.two.fetch_lives in
    let z : Some n.node ≡ Some k.before = sym n.is_node ∙ k.had in
    let same : n.node ≡ k.before = cc in
    let at : rank_of_obj k.before ≡ 5 = ap rank_of_obj (sym same) ∙ (n.at_rank ∙ e.shut.two.fetch_rank) in
    from_node k.before k.after r e.above body at (e.fetch k.before k.had).0 e.well e.taken (e.unharvested.0 k.before k.had) k.gave
