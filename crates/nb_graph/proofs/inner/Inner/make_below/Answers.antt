use Rattle.nb_ledger.proofs.RunLemmas.{Given-append}
use Rattle.std.proofs.Common.{◌≡◌, ℕ, ◌<◌, refl, ap, sym, ◌∙◌, subst, true, false, [], ◌∷◌, ◌++◌}
use Rattle.std.proofs.lemmas.Bool.{false≢true}
use Rattle.nb_ledger.specs.Ledger.{Ledger, object_lives, busy, port, rank, place}
use Rattle.nb_ledger.specs.Changes.{Adds}
use Rattle.nb_ledger.specs.declared.event.GraphEvent.TheVariants.{Made, Plugged}
use Rattle.nb_effects.specs.Scene.{IsGraphFull, scene_of, state_at, after_noted}
use Rattle.nb_effects.proofs.SceneLemmas.{roomy-below, scene-adds, scene-ports}
use Rattle.nb_ledger.specs.declared.port.Port.{Port}
use Rattle.nb_ledger.specs.GraphRun.{new_ports}
use Rattle.nb_ledger.specs.declared.port.PortState.TheVariants.{Open}
use Rattle.nb_ledger.proofs.PortLemmas.{live_by}
use Rattle.nb_effects.proofs.MannedLemmas.{IsManned-same}
use Rattle.nb_effects.proofs.WholeLemmas.{but_same, but_other, ports_other, ports_same, IsWhole-plug, IsLinked-add, CountedBut-add}
use Rattle.nb_effects.proofs.GraphLemmas.{dead-loose, small-add}
use Rattle.nb_graph.proofs.LivelyLemmas.{Lively-make, dead-busy}
use Rattle.nb_graph.proofs.LivesLemmas.{Lives-make}
use Rattle.nb_graph.proofs.MakeLemmas.{Livens-make}
use Rattle.nb_graph.proofs.SeatLemmas.{made-seat, other-seat}
use Rattle.nb_graph.proofs.inner.Inner.make_below.Goals as goal

pub plug-requires-clause-upper_open : goal.plug-requires-clause-upper_open
plug-requires-clause-upper_open g c =
    let a = c.add-id.ensures.adds in
    let x = c.args.at.obj.0 in
    a.port_set x c.args.at.slot ∙ ports_other c.add-id.result.0 new_ports (port c.args.self.now.book) x c.args.at.slot (λ e. false≢true (sym c.add-id.ensures.fresh ∙ subst (λ y. object_lives c.args.self.now.book y ≡ true) e (live_by _ _ _ Open tt c.requires.free).0)) ∙ c.requires.free

-- the new object's slot 0 is open
fresh_open : (b : Ledger) (new : Ledger) (x r : ℕ) → Adds b new x r → port new x 0 ≡ Open
fresh_open b new x r a = a.port_set x 0 ∙ ports_same x new_ports (port b) x 0 refl

-- the maker has the higher rank
higher : (b new : Ledger) (x y r : ℕ) → Adds b new x r → (y ≡ x → ⊥) → r < rank b y → rank new x < rank new y
higher b new x y r a n h = rw (a.rank_set x ∙ but_same x r (rank b) x refl, a.rank_set y ∙ but_other x r (rank b) y n) h

-- the maker is another object
another : (b : Ledger) (p : Port) (x : ℕ) → object_lives b x ≡ false → port b p.obj.0 p.slot ≡ Open → p.obj.0 ≡ x → ⊥
another b p x d h e = false≢true (sym d ∙ subst (λ y. object_lives b y ≡ true) e (live_by b p.obj.0 p.slot Open tt h).0)

-- the maker's port is still open
still_open : (b new : Ledger) (p : Port) (x r : ℕ) → Adds b new x r → object_lives b x ≡ false → port b p.obj.0 p.slot ≡ Open → port new p.obj.0 p.slot ≡ Open
still_open b new p x r a d h = a.port_set p.obj.0 p.slot ∙ ports_other x new_ports (port b) p.obj.0 p.slot (another b p x d h) ∙ h

pub returns-clause-lives : goal.returns-clause-lives
unfolding Lively-make
returns-clause-lives g c = λ now.
    let s = c.plug.ensures.sets in
    let a = c.add-id.ensures.adds in
    let nodes = c.args.self.now.nodes.items in
    let more : c.add-id.new.self.nodes.items ≡ nodes ++ c.args.node ∷ [] = c.add-id.ensures.nodes in
    let same : (y : ℕ) → place c.plug.new.self y ≡ place c.add-id.new.self.book y = λ y. s.2.objects.same_place y ∙ s.1.objects.same_place y in
    let manned = rw more at c.add-id.ensures.manned in
    let added : scene_of c.add-id.new.self.book ≡ after_noted (Made c.add-id.result (g.N.Node.kind_of c.args.node)) (scene_of c.args.self.now.book) = scene-adds c.add-id.result (g.N.Node.kind_of c.args.node) a c.add-id.ensures.len in
    let seen : (p : Port) → state_at (scene_of c.add-id.new.self.book) p ≡ state_at (after_noted (Made c.add-id.result (g.N.Node.kind_of c.args.node)) (scene_of c.args.self.now.book)) p = λ p. ap (λ z. state_at z p) added in
    let roomy : (IsGraphFull (scene_of c.args.self.now.book) → ⊥) = roomy-below _ c.requires.room c.requires.serial in
    record {
      lively = Lively-make _ _ _ _ _ _ _ c.args.at _ _ _ c.add-id.ensures.serial a c.add-id.ensures.fresh s.1 s.2 (still_open _ _ c.args.at _ _ a c.add-id.ensures.fresh c.requires.free) (fresh_open _ _ _ _ a) c.add-id.ensures.told c.add-id.ensures.step c.plug.ensures.told c.plug.ensures.step;
      lives = rw more (Lives-make g.N.Node.stands now (busy c.args.self.now.book) _ _ c.add-id.result c.args.at (record { obj = c.add-id.result; slot = 0 }) c.args.node c.requires.stands (dead-busy _ _ c.add-id.ensures.fresh) c.requires.free roomy c.add-id.ensures.serial (sym (seen c.args.at) ∙ still_open _ _ c.args.at _ _ a c.add-id.ensures.fresh c.requires.free) (sym (seen (record { obj = c.add-id.result; slot = 0 })) ∙ fresh_open _ _ _ _ a) (scene-ports s.1 s.2 ∙ ap (λ z. after_noted (Plugged c.args.at (record { obj = c.add-id.result; slot = 0 })) z) added) (Given-append _ _ _ _ _ c.add-id.ensures.given c.plug.ensures.given) (made-seat c.plug.new.self c.args.node c.requires.steady.manned a manned c.add-id.ensures.place same) (other-seat c.plug.new.self c.args.node c.requires.steady.manned a manned c.add-id.ensures.place same) (Livens-make _ _ _ _ _ c.args.at (record { obj = c.add-id.result; slot = 0 }) _ _ c.args.node a c.add-id.ensures.fresh c.add-id.ensures.serial s.1 s.2 c.requires.free c.requires.slot refl c.plug.ensures.made.0 (another _ c.args.at _ c.add-id.ensures.fresh c.requires.free)) refl);
    }

pub returns-clause-steady : goal.returns-clause-steady
returns-clause-steady g c =
    let s = c.plug.ensures.sets in
    let a = c.add-id.ensures.adds in
    let d = c.add-id.ensures.fresh in
    let w = c.requires.steady.whole in
    record {
      whole = IsWhole-plug s.1 s.2 (still_open _ _ c.args.at _ _ a d c.requires.free) (fresh_open _ _ _ _ a) c.requires.slot refl (higher _ _ _ _ _ a (another _ c.args.at _ d c.requires.free) c.requires.lower) (IsLinked-add a (dead-loose _ _ d) w.links) (CountedBut-add a w.counted) (small-add a c.add-id.ensures.small w.small);
      manned = IsManned-same s.2.objects (IsManned-same s.1.objects c.add-id.ensures.manned);
    }
