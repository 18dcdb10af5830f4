-- The user closes the two ports of the one object of an open.
use Rattle.std.proofs.Common.{◌≡◌, ℕ, cond, eqb, [], ◌∷◌, refl, ap, ◌∙◌}
use Rattle.std.proofs.lemmas.Bool.{eq-eqb}
use Rattle.nb_terms.specs.declared.cause.Cause.{Cause}
use Rattle.nb_ledger.specs.declared.port.PortState.{PortState}
use Rattle.nb_ledger.specs.declared.port.PortState.TheVariants as port
use Rattle.nb_ledger.specs.declared.event.GraphEvent.TheVariants.{Closed}
use Rattle.nb_ledger.specs.Flat.{Heard, Given}
use Rattle.nb_ledger.specs.GraphRun.{but_at, new_ports}
use Rattle.nb_ledger.proofs.RunLemmas.{Given-append}
use Rattle.nb_graph.specs.Deeds.{Closes}
use Rattle.nb_graph.specs.Whole.{Objects, port_at}
use Rattle.nb_graph.specs.Went.{WentOne}
use Rattle.nb_nodes.specs.declared.obj.Obj.{Obj}
use Rattle.nb_nodes.specs.Objects.{obj_nature}
use Rattle.nb_nodes.specs.Standing.{ObjStands}
use Rattle.nb_opens.specs.Notices.{tells}
use Rattle.nb_opens.specs.AloneNotices.{alone_closed}
use Rattle.nb_opens.specs.Alones.{IsLone, IsOpenLone, IsShutLone}
use Rattle.nb_opens.proofs.Shutting.{closes_alone}

-- one of its ports is closed
slot_closed : (g h : Objects Obj) (m n : Heard) (now x slot : ℕ) (c : Cause) (f : ℕ → PortState) → IsLone g x f → f slot ≡ port.Open
    → WentOne ObjStands obj_nature now (Closes (port_at x slot) c ∷ []) g h m n → IsLone h x (λ k. but_at slot port.Closed f k) × Given m n (tells (Closed (port_at x slot) c) ∷ [])
slot_closed g h m n now x slot c f l o k =
    let z = closes_alone g h m n now (port_at x slot) c (l.ports slot ∙ o) k in (
      record {
        last = z.made ∙ l.last;
        lives = z.live x ∙ l.lives;
        others = λ y a. z.live y ∙ l.others y a;
        held = z.held x ∙ l.held;
        ports = λ i. z.ports x i ∙ rw (eq-eqb x x refl) (ap (λ (y : PortState). cond (eqb i slot) port.Closed y) (l.ports i));
      },
      z.told,
    )

pub both_slots : (g a h : Objects Obj) (m n o : Heard) (now x : ℕ) (c : Cause) → IsOpenLone g x → WentOne ObjStands obj_nature now (Closes (port_at x 0) c ∷ []) g a m n
    → WentOne ObjStands obj_nature now (Closes (port_at x 1) c ∷ []) a h n o → IsShutLone h x × Given m o (alone_closed x c)
both_slots g a h m n o now x c l i j =
    let one = slot_closed g a m n now x 0 c new_ports l refl i in
    let two = slot_closed a h n o now x 1 c (λ k. but_at 0 port.Closed new_ports k) one.0 refl j in
    (two.0, Given-append m n o _ _ one.1 two.1)
