-- The objects of a drive are made.
use Rattle.std.proofs.Common.{◌≡◌, ℕ, ◌+◌, true, List, [], ◌∷◌, ◌++◌, sym, ap, ◌∙◌, subst, arith}
use Rattle.nb_ledger.specs.declared.event.GraphEvent.TheVariants.{Held}
use Rattle.nb_ledger.specs.declared.port.ObjId.{ObjId}
use Rattle.nb_ledger.specs.Flat.{Heard}
use Rattle.nb_graph.specs.Deeds.{MustMake, Wants}
use Rattle.nb_graph.specs.Went.{WentOne}
use Rattle.nb_graph.specs.Whole.{IsMade, Objects}
use Rattle.nb_frames.specs.Frames.{is_one_of}
use Rattle.nb_nodes.specs.declared.obj.Obj.{Obj}
use Rattle.nb_nodes.specs.Objects.{kind_of_obj, mark_of_obj, obj_nature, rank_of_obj}
use Rattle.nb_nodes.specs.Standing.{ObjStands}
use Rattle.nb_opens.specs.AloneNotices.{alone_made}
use Rattle.nb_opens.specs.Marks.{IsOfKind}
use Rattle.nb_chains.specs.Chains.{IsFresh}
use Rattle.nb_chains.specs.Giving.{CallGives, IsMakeWithin}
use Rattle.nb_chains.proofs.FreshOnes.{made_fresh, made_gives, one_grows, sole_in, sole_is}
use Rattle.nb_chains.proofs.GivingLemmas.{gives_both, gives_more, more_making}
use Rattle.nb_chains.proofs.GoingOn.{keeps_both}
use Rattle.nb_chains.proofs.MakingOne.{OneMade, one_made}
use Rattle.nb_closings.proofs.Joining.{first_in, later_in}
use Rattle.nb_webchains.specs.Plugs.{Extends, IsNewNode, plugged_notices}
use Rattle.nb_webchains.specs.WebCalls.{WebMakes}
use Rattle.nb_webchains.specs.WebChains.{GrowsTo}
use Rattle.nb_webchains.proofs.Lists.{not_fewer, still_one}
use Rattle.nb_drivechains.specs.declared.drive_chain.DriveChain.{DriveChain}
use Rattle.nb_drivechains.specs.DriveChains.{IsReadyDrive, IsWaitingUnit, UnitMakes, drive_ids, drive_notices, three_of, unit_notices}

-- a unit is made alone
module _ (g h : Objects Obj) (m n : Heard) (x : ObjId) (node : Obj) (is : IsNewNode 9 5 9 node) (made : IsMade g h node (rank_of_obj node) x) (k : WentOne ObjStands obj_nature 0 (MustMake x node ∷ Wants (Held x) ∷ []) g h m n) where
  one : OneMade g h x.0 node
  one = one_made g h m n 0 x node is.stands made k

  pub unit_waits : IsWaitingUnit x h
  unit_waits = subst (IsFresh h x.0 5) is.mark (subst (λ r. IsFresh h x.0 r (mark_of_obj node)) is.ranked (made_fresh g h m n x node one))

  pub unit_grows : GrowsTo 1 (x.0 ∷ []) g h
  unit_grows = let i = one_grows g h m n x node is.stands made k one in record { made = i.made; number = i.number; same_room = i.same_room; others = i.others }

  pub unit_gives : UnitMakes x g h m n (unit_notices x)
  unit_gives = subst (λ e. CallGives (IsMakeWithin (is_one_of (x.0 ∷ []))) g h m n (alone_made x.0 e)) is.number (made_gives g h m n x node k (is_one_of (x.0 ∷ [])) (sole_in x.0))

-- two more are made
module _ (g a h : Objects Obj) (m n o : Heard) (x y w : ObjId) (session conn : Obj) (f : IsWaitingUnit x g) (is_session : IsNewNode 8 3 8 session) (is_conn : IsNewNode 3 2 3 conn)
    (first : Extends (x.0 ∷ []) x.0 y.0 session g a m n) (other : Extends (x.0 ∷ y.0 ∷ []) y.0 w.0 conn a h n o) where
  abbrev chain : DriveChain
  chain = record { unit = x; session = y; conn = w }

  abbrev two : List ℕ
  two = x.0 ∷ y.0 ∷ []

  abbrev three : List ℕ
  three = x.0 ∷ y.0 ∷ w.0 ∷ []

  module _ (y_is : y.0 ≡ g.book.made + 1) (w_is : w.0 ≡ a.book.made + 1) (y_kind : IsOfKind a y.0 (mark_of_obj session)) (w_kind : IsOfKind h w.0 (mark_of_obj conn)) where
    pub ready_drive : IsReadyDrive chain h
    ready_drive = record {
      order = record { web_later = (let e = f.given in omega (arith, e, y_is)); conn_later = (let e = first.grows.made in omega (arith, e, y_is, w_is)) };
      ready = other.ready;
      kinds = record {
        unit_rank = other.ranks x.0 (first_in x.0 (y.0 ∷ [])) ∙ (first.ranks x.0 (first_in x.0 []) ∙ f.ranked);
        unit = other.kinds x.0 9 (first_in x.0 (y.0 ∷ [])) (first.kinds x.0 9 (first_in x.0 []) f.of_kind);
        session = other.kinds y.0 8 (later_in x.0 (y.0 ∷ []) y.0 (first_in y.0 [])) (subst (IsOfKind a y.0) is_session.mark y_kind);
        conn = subst (IsOfKind h w.0) is_conn.mark w_kind;
      };
    }

  pub grows_two : GrowsTo 2 three g h
  grows_two = record {
    made = let i = first.grows.made in let j = other.grows.made in omega (arith, i, j);
    number = let i = first.grows.number in let j = other.grows.number in omega (arith, i, j);
    same_room = other.grows.same_room ∙ first.grows.same_room;
    others = λ v low far. keeps_both g a h v (first.grows.others v low (not_fewer two three v (still_one two w.0 v) far)) (other.grows.others v (let i = first.grows.made in omega (arith, i, low)) far);
  }

  pub gives_two : WebMakes (three_of chain) g h m o (drive_notices chain)
  gives_two =
      let own = IsMakeWithin (is_one_of three) in
      let one = gives_more (IsMakeWithin (is_one_of two)) own (λ e q. more_making (is_one_of two) (is_one_of three) (still_one two w.0) e q) g a m n (plugged_notices x.0 y.0 (kind_of_obj session)) first.gives in
      gives_both own g a h m n o (plugged_notices x.0 y.0 8) (plugged_notices y.0 w.0 3) (subst (λ k. CallGives own g a m n (plugged_notices x.0 y.0 k)) is_session.number one) (subst (λ k. CallGives own a h n o (plugged_notices y.0 w.0 k)) is_conn.number other.gives)

-- all three
module _ (x : ObjId) (d : DriveChain) (g a h : Objects Obj) (m n o : Heard) (top : d.unit ≡ x) where
  sole : (v : ℕ) → is_one_of (x.0 ∷ []) v ≡ true → is_one_of (drive_ids d) v ≡ true
  sole v i = ap (is_one_of (drive_ids d)) (sole_is x.0 v i ∙ sym (ap (λ (z : ObjId). z.0) top)) ∙ first_in d.unit.0 (d.session.0 ∷ d.conn.0 ∷ [])

  pub grows_three : GrowsTo 1 (x.0 ∷ []) g a → GrowsTo 2 (drive_ids d) a h → GrowsTo 3 (drive_ids d) g h
  grows_three i j = record {
    made = let s = i.made in let t = j.made in omega (arith, s, t);
    number = let s = i.number in let t = j.number in omega (arith, s, t);
    same_room = j.same_room ∙ i.same_room;
    others = λ v low far. keeps_both g a h v (i.others v low (not_fewer (x.0 ∷ []) (drive_ids d) v (sole v) far)) (j.others v (let s = i.made in omega (arith, s, low)) far);
  }

  pub gives_three : UnitMakes x g a m n (unit_notices x) → WebMakes (three_of d) a h n o (drive_notices d) → WebMakes (three_of d) g h m o (unit_notices d.unit ++ drive_notices d)
  gives_three i j =
      let own = IsMakeWithin (is_one_of (drive_ids d)) in
      let one = gives_more (IsMakeWithin (is_one_of (x.0 ∷ []))) own (λ e q. more_making (is_one_of (x.0 ∷ [])) (is_one_of (drive_ids d)) sole e q) g a m n (unit_notices x) i in
      gives_both own g a h m n o (unit_notices d.unit) (drive_notices d) (subst (λ (z : ObjId). CallGives own g a m n (unit_notices z)) (sym top) one) j
