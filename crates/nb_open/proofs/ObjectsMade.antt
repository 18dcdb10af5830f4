-- The objects of an open as they were made, and what else is on the graph.
use Rattle.std.proofs.Common.{◌≡◌, ℕ, true, false, List, [], ◌∷◌, ◌++◌, map, Option, Some, None, refl, sym, ◌∙◌, ap, subst}
use Rattle.std.specs.List.{AllByRecursion}
use Rattle.std.proofs.lemmas.List.{map-append}
use Rattle.nb_defs.specs.Records.{out_texts}
use Rattle.nb_ledger.specs.declared.event.GraphEvent.{GraphEvent}
use Rattle.nb_ledger.specs.declared.event.GraphEvent.TheVariants.{Made, Held}
use Rattle.nb_ledger.specs.declared.port.ObjId.{ObjId}
use Rattle.nb_ledger.specs.GraphRun.{GraphRunOf}
use Rattle.nb_ledger.specs.Flat.{Given, Heard, Notice}
use Rattle.nb_ledger.specs.Ledger.{port as port_in, run_state}
use Rattle.nb_ledger.proofs.RunLemmas.{Run-append}
use Rattle.nb_graph.specs.Noded.{AreNoded}
use Rattle.nb_graph.specs.Whole.{Objects}
use Rattle.nb_frames.specs.Frames.{is_one_of}
use Rattle.nb_frames.proofs.OwnLemmas.{AreThere, are_there}
use Rattle.nb_frames.proofs.OwnCallLemmas.{port_own}
use Rattle.nb_nodes.specs.declared.obj.Obj.{Obj}
use Rattle.nb_nodes.specs.Objects.{rank_of_obj}
use Rattle.nb_opens.specs.Notices.{serial, tells}
use Rattle.nb_stack.specs.Client.{Client}
use Rattle.nb_machine.specs.Lives.{kind_number}
use Rattle.nb_wire.specs.declared.address.Ip4.{Ip4}
use Rattle.nb_traced.specs.Holdings.{AreJoined, GraphObject, kinds, objects_for}
use Rattle.nb_traced.specs.Outputs.{IsNewest}
use Rattle.nb_traced.specs.Pieces.{IsMaking, pieces_made}
use Rattle.nb_chains.specs.declared.chain.Chain.{Chain}
use Rattle.nb_chains.specs.declared.kind.ChainKind.{ChainKind}
use Rattle.nb_chains.specs.declared.kind.ChainKind.TheVariants as kind
use Rattle.nb_chains.specs.Chains.{AreChained, IsReadyChain, below_ids, chain_ids, completes_notices, last_below, last_serial, waits_notices}
use Rattle.nb_chains.specs.Kinds.{top_number}
use Rattle.nb_chains.proofs.ChainDoes.{top_in, last_in}
use Rattle.nb_closings.specs.Chained.{IsOpenThrough}
use Rattle.nb_webchains.specs.declared.web_chain.WebChain.{WebChain}
use Rattle.nb_webchains.specs.WebChains.{web_ids}
use Rattle.nb_drivechains.specs.declared.drive_chain.DriveChain.{DriveChain}
use Rattle.nb_drivechains.specs.DriveChains.{drive_ids, three_of}
use Rattle.nb_teller.specs.declared.speaker.Speaker.{Speaker}
use Rattle.nb_teller.specs.Spelling.{IsSpelled, Spelling}
use Rattle.nb_teller.specs.Tellings.{told_records}
use Rattle.nb_open.specs.declared.objects.OpenObjects.{OpenObjects}
use Rattle.nb_open.specs.declared.objects.OpenObjects.TheVariants as objects
use Rattle.nb_open.specs.declared.open.Open.{Open}
use Rattle.nb_open.specs.declared.opening.Opening.{Opening}
use Rattle.nb_open.specs.declared.opening.Opening.TheVariants.{File, Web, Drive, Name, Lease, Echo}
use Rattle.nb_open.specs.Begins.{AwaitsFor, IsLatest, MakesObjects, waiting_pieces}
use Rattle.nb_open.specs.Making.{IsFetchOf, MakesChain, MakesDrive, MakesObjectsOf, MakesWeb, making_drive_notices, making_notices, making_web_notices}
use Rattle.nb_open.specs.Objects.{objects_ids}
use Rattle.nb_open.specs.Open.{drive_pieces, objects_pieces, pieces_below, pieces_of, web_pieces}
use Rattle.nb_open.specs.Opening.{chain_kind, is_drive_opening, is_joined, is_web, kind_by}
use Rattle.nb_open.proofs.Callings.{each_append, events_told}
use Rattle.nb_open.proofs.Endings.{last_object, lowest_is, serials_are}
use Rattle.nb_open.proofs.Newest.{drive_run, lower_events, making_drive_are, making_drive_events, making_web_are, making_web_events, run_is, web_run}

-- THE EVENTS

-- by which they are made
abbrev pub top_events : ℕ → ℕ → List GraphEvent
top_events x kind = Made (serial x) kind ∷ Held (serial x) ∷ []

abbrev pub below_events : ChainKind → ℕ → ℕ → List GraphEvent
below_events kind.File f t = lower_events f t
below_events kind.Name f t = []
below_events kind.Lease f t = []
below_events kind.Echo f t = []
below_events kind.Drive f t = []

abbrev pub making_events : Option Chain → ChainKind → Chain → List GraphEvent
making_events None k c = top_events c.top.0 (top_number k) ++ below_events k c.top.0 (last_serial c)
making_events (Some w) k c = below_events k c.top.0 (last_serial c)

below_notices : (k : ChainKind) (c : Chain) → completes_notices k c ≡ map tells (below_events k c.top.0 (last_serial c))
below_notices kind.File c = refl
below_notices kind.Name c = refl
below_notices kind.Lease c = refl
below_notices kind.Echo c = refl
below_notices kind.Drive c = refl

pub making_are : (w : Option Chain) (k : ChainKind) (c : Chain) → making_notices w k c ≡ map tells (making_events w k c)
making_are None k c = ap (λ z. waits_notices k c.top.0 ++ z) (below_notices k c)
making_are (Some w) k c = below_notices k c

below_making : (k : ChainKind) (f t : ℕ) → AllByRecursion IsMaking (below_events k f t)
below_making kind.File f t = (tt, (tt, (tt, tt)))
below_making kind.Name f t = tt
below_making kind.Lease f t = tt
below_making kind.Echo f t = tt
below_making kind.Drive f t = tt

pub all_making : (w : Option Chain) (k : ChainKind) (c : Chain) → AllByRecursion IsMaking (making_events w k c)
all_making None k c = (tt, (tt, below_making k c.top.0 (last_serial c)))
all_making (Some w) k c = below_making k c.top.0 (last_serial c)

-- THE PIECES

below_pieces : (k : ChainKind) (c : Chain) (g : Objects Obj) → IsReadyChain k c g → pieces_below c.below ≡ pieces_made (below_events k c.top.0 (last_serial c))
below_pieces kind.File c g ready = ap pieces_below ready.1 ∙ ap (λ z. record { serial = z; kind = 4 } ∷ []) (sym (ap (last_below c.top.0) ready.1))
below_pieces kind.Name c g ready = ap pieces_below ready.0
below_pieces kind.Lease c g ready = ap pieces_below ready.0
below_pieces kind.Echo c g ready = ap pieces_below ready.0
below_pieces kind.Drive c g ready = ap pieces_below ready.0

pub made_pieces : (w : Option Chain) (k : ChainKind) (c : Chain) (old new : Objects Obj) (m n : Heard) → MakesChain k w c old new m n → AwaitsFor k w old → pieces_of k c ≡ waiting_pieces k w ++ pieces_made (making_events w k c)
made_pieces None k c old new m n made awaits = ap (λ z. record { serial = c.top.0; kind = top_number k } ∷ z) (below_pieces k c new made.ready)
made_pieces (Some w) k c old new m n made awaits =
    ap (λ (x : ObjId). record { serial = x.0; kind = top_number k } ∷ pieces_below c.below) made.top
    ∙ (ap (λ z. record { serial = w.top.0; kind = top_number k } ∷ z) (below_pieces k c new made.ready)
    ∙ ap (λ z. (record { serial = w.top.0; kind = top_number k } ∷ z) ++ pieces_made (below_events k c.top.0 (last_serial c))) (sym (ap pieces_below awaits.alone)))

kinds_made : (a : Opening) (c : Chain) (g : Objects Obj) → is_joined a ≡ false → IsReadyChain (chain_kind a) c g → kinds (pieces_of (chain_kind a) c) ≡ objects_for (kind_number (kind_by a))
kinds_made (File a) c g other ready = ap (λ z. 1 ∷ kinds (pieces_below z)) ready.1
kinds_made (Web a) c g other ready = absurd (cc)
kinds_made (Drive a) c g other ready = absurd (cc)
kinds_made (Name a) c g other ready = ap (λ z. 5 ∷ kinds (pieces_below z)) ready.0
kinds_made (Lease a) c g other ready = ap (λ z. 6 ∷ kinds (pieces_below z)) ready.0
kinds_made (Echo a) c g other ready = ap (λ z. 7 ∷ kinds (pieces_below z)) ready.0

-- THEIR LINKS

joined_below : (c : Chain) (g : Objects Obj) (below : Option ObjId) → c.below ≡ below → AreJoined (run_state g.book []) (c.top.0 ∷ below_ids below) → AreJoined (run_state g.book []) (chain_ids c)
joined_below c g below e h = subst (λ z. AreJoined (run_state g.book []) (c.top.0 ∷ below_ids z)) (sym e) h

pub joined_made : (k : ChainKind) (c : Chain) (g : Objects Obj) → AreChained g (chain_ids c) → AreNoded rank_of_obj g → IsReadyChain k c g → AreJoined (run_state g.book []) (chain_ids c)
joined_made kind.File c g chained noded ready =
    let t = ready.0 in
    let there : AreThere (chain_ids c) g = are_there (chain_ids c) g chained.lives (λ x o. let i = noded x (chained.lives x o) in (i.node, i.is_node)) in
    let last : last_serial c ≡ t.0 = ap (last_below c.top.0) ready.1 in
    let below : is_one_of (chain_ids c) t.0 ≡ true = subst (λ z. is_one_of (chain_ids c) z ≡ true) last (last_in c) in
    joined_below c g (Some t) ready.1 (sym (port_own (chain_ids c) g there c.top.0 1 (top_in c)) ∙ ready.2.joined.link, sym (port_own (chain_ids c) g there t.0 0 below) ∙ ready.2.joined.back, tt)
joined_made kind.Name c g chained noded ready = joined_below c g None ready.0 tt
joined_made kind.Lease c g chained noded ready = joined_below c g None ready.0 tt
joined_made kind.Echo c g chained noded ready = joined_below c g None ready.0 tt
joined_made kind.Drive c g chained noded ready = joined_below c g None ready.0 tt

-- THEY WERE MADE

-- what is told then
abbrev pub making_told : Option Chain → OpenObjects → List Notice
making_told waits (objects.Chain kind chain) = making_notices waits kind chain
making_told waits (objects.Web port own chain) = making_web_notices waits chain
making_told waits (objects.Drive port own chain) = making_drive_notices waits chain

-- These objects were made for what is asked, or those that are missing of what waits, by these events.
pub record MadeFor (a : Opening) (waits : Option Chain) (o : OpenObjects) (old new : Objects Obj) (m n : Heard) : Type 0 where
  pub events : List GraphEvent
  pub given : Given m n (making_told waits o)
  pub are : making_told waits o ≡ map tells events
  pub makes : AllByRecursion IsMaking events
  pub run : GraphRunOf (run_state old.book []) events (run_state new.book [])
  pub pieces : AwaitsFor (chain_kind a) waits old → objects_pieces o ≡ waiting_pieces (chain_kind a) waits ++ pieces_made events
  pub kinds_are : kinds (objects_pieces o) ≡ objects_for (kind_number (kind_by a))
  pub joined : AreJoined (run_state new.book []) (objects_ids o)
  pub newest : IsLatest waits old → IsNewest (run_state new.book []) (last_object o)

module _ (a : Opening) (waits : Option Chain) (old new : Objects Obj) (m n : Heard) where
  chain_made : (c : Chain) → is_joined a ≡ false → (k : ChainKind) → k ≡ chain_kind a → MakesChain k waits c old new m n → MadeFor a waits (objects.Chain k c) old new m n
  chain_made c other k same made = subst (λ k. MakesChain k waits c old new m n → MadeFor a waits (objects.Chain k c) old new m n) (sym same) by made
    where
      by : MakesChain (chain_kind a) waits c old new m n → MadeFor a waits (objects.Chain (chain_kind a) c) old new m n
      by made = record {
        events = making_events waits (chain_kind a) c;
        given = made.gives.given;
        are = making_are waits (chain_kind a) c;
        makes = all_making waits (chain_kind a) c;
        run = run_is _ old new m n (making_notices waits (chain_kind a) c) (making_events waits (chain_kind a) c) (making_are waits (chain_kind a) c) made.gives;
        pieces = made_pieces waits (chain_kind a) c old new m n made;
        kinds_are = kinds_made a c new other made.ready;
        joined = joined_made (chain_kind a) c new made.chained made.noded made.ready;
        newest = made.newest;
      }

  web_making : (w : Option Chain) (c : WebChain) → AllByRecursion IsMaking (making_web_events w c)
  web_making None c = (tt, (tt, (tt, (tt, (tt, (tt, (tt, (tt, tt))))))))
  web_making (Some w) c = (tt, (tt, (tt, (tt, (tt, (tt, tt))))))

  web_pieces_are : (w : Option Chain) (c : WebChain) → IsFetchOf w old c → AwaitsFor kind.File w old → web_pieces c ≡ waiting_pieces kind.File w ++ pieces_made (making_web_events w c)
  web_pieces_are None c top awaits = refl
  web_pieces_are (Some w) c top awaits =
      let lower : List GraphObject = record { serial = c.web.0; kind = 2 } ∷ record { serial = c.conn.0; kind = 3 } ∷ [] in
      ap (λ (x : ObjId). record { serial = x.0; kind = 1 } ∷ lower) top ∙ ap (λ z. (record { serial = w.top.0; kind = 1 } ∷ pieces_below z) ++ lower) (sym awaits.alone)

  web_made : (port : ℕ) (own : Ip4) (c : WebChain) (a : Opening) → is_web a ≡ true → MakesWeb waits c old new m n → MadeFor a waits (objects.Web port own c) old new m n
  web_made port own c (File a) is made = absurd (cc)
  web_made port own c (Web a) is made =
      let through : IsOpenThrough (port_in new.book) (web_ids c) = made.made.ready.ready.ports in
      record {
        events = making_web_events waits c;
        given = made.made.gives.given;
        are = making_web_are waits c;
        makes = web_making waits c;
        run = web_run waits c old new m n made.made;
        pieces = web_pieces_are waits c made.made.top;
        kinds_are = refl;
        joined = (through.1.0, through.1.1, (through.1.2.0, through.1.2.1, tt));
        newest = made.newest;
      }
  web_made port own c (Drive a) is made = absurd (cc)
  web_made port own c (Name a) is made = absurd (cc)
  web_made port own c (Lease a) is made = absurd (cc)
  web_made port own c (Echo a) is made = absurd (cc)

  drive_making : (w : Option Chain) (c : DriveChain) → AllByRecursion IsMaking (making_drive_events w c)
  drive_making None c = (tt, (tt, (tt, (tt, (tt, (tt, (tt, (tt, tt))))))))
  drive_making (Some w) c = (tt, (tt, (tt, (tt, (tt, (tt, tt))))))

  drive_pieces_are : (w : Option Chain) (c : DriveChain) → IsFetchOf w old (three_of c) → AwaitsFor kind.Drive w old → drive_pieces c ≡ waiting_pieces kind.Drive w ++ pieces_made (making_drive_events w c)
  drive_pieces_are None c top awaits = refl
  drive_pieces_are (Some w) c top awaits =
      let lower : List GraphObject = record { serial = c.session.0; kind = 8 } ∷ record { serial = c.conn.0; kind = 3 } ∷ [] in
      ap (λ (x : ObjId). record { serial = x.0; kind = 9 } ∷ lower) top ∙ ap (λ z. (record { serial = w.top.0; kind = 9 } ∷ pieces_below z) ++ lower) (sym awaits.alone)

  drive_made : (port : ℕ) (own : Ip4) (c : DriveChain) (a : Opening) → is_drive_opening a ≡ true → MakesDrive waits c old new m n → MadeFor a waits (objects.Drive port own c) old new m n
  drive_made port own c (File a) is made = absurd (cc)
  drive_made port own c (Web a) is made = absurd (cc)
  drive_made port own c (Drive a) is made =
      let through : IsOpenThrough (port_in new.book) (drive_ids c) = made.made.ready.ready.ports in
      record {
        events = making_drive_events waits c;
        given = made.made.gives.given;
        are = making_drive_are waits c;
        makes = drive_making waits c;
        run = drive_run waits c old new m n made.made;
        pieces = drive_pieces_are waits c made.made.top;
        kinds_are = refl;
        joined = (through.1.0, through.1.1, (through.1.2.0, through.1.2.1, tt));
        newest = made.newest;
      }
  drive_made port own c (Name a) is made = absurd (cc)
  drive_made port own c (Lease a) is made = absurd (cc)
  drive_made port own c (Echo a) is made = absurd (cc)

  pub objects_made : (o : OpenObjects) → MakesObjectsOf a waits o old new m n → MadeFor a waits o old new m n
  objects_made (objects.Chain kind chain) (other, same, made) = chain_made chain other kind same made
  objects_made (objects.Web port own chain) (is, same, from, made) = web_made port own chain a is made
  objects_made (objects.Drive port own chain) (is, same, from, made) = drive_made port own chain a is made

-- after these pieces, where they were made by such events
module _ (a : Opening) (waits : Option Chain) (o : Open) (old mid new : Objects Obj) (m n : Heard) (made : MadeFor a waits o.objects mid new m n) where
  pub makes_after : (first : List GraphObject) (es : List GraphEvent) (ns : List Notice) (net : Client) (who : Speaker) (s : Spelling) → ns ≡ map tells es → AllByRecursion IsMaking es → GraphRunOf (run_state old.book []) es (run_state mid.book [])
      → first ++ objects_pieces o.objects ≡ waiting_pieces (chain_kind a) waits ++ pieces_made (es ++ made.events) → (IsLatest waits old → IsLatest waits mid) → IsSpelled net who s (ns ++ making_told waits o.objects)
      → MakesObjects first (chain_kind a) (kind_number (kind_by a)) waits o old s (run_state new.book [])
  makes_after first es ns net who s are makes run pieces later spelled =
      let all : ns ++ making_told waits o.objects ≡ map tells (es ++ made.events) = ap (λ z. z ++ making_told waits o.objects) are ∙ (ap (λ z. map tells es ++ z) made.are ∙ sym (map-append tells es made.events)) in
      record {
        events = es ++ made.events;
        text = spelled.1 ∙ ap out_texts (ap (told_records net who) all ∙ events_told net who (es ++ made.events));
        makes = each_append IsMaking es made.events makes made.makes;
        run = Run-append (run_state old.book []) (run_state mid.book []) (run_state new.book []) es made.events run made.run;
        pieces = pieces;
        kinds_are = made.kinds_are;
        joined = subst (AreJoined (run_state new.book [])) (sym (serials_are o)) made.joined;
        newest = λ latest. subst (IsNewest (run_state new.book [])) (sym (lowest_is o)) (made.newest (later latest));
      }

-- no others were made before
pub makes_objects : (a : Opening) (waits : Option Chain) (o : Open) (old new : Objects Obj) (m n : Heard) → MadeFor a waits o.objects old new m n → AwaitsFor (chain_kind a) waits old → (net : Client) (who : Speaker) (s : Spelling) →
    IsSpelled net who s (making_told waits o.objects) → MakesObjects [] (chain_kind a) (kind_number (kind_by a)) waits o old s (run_state new.book [])
makes_objects a waits o old new m n made awaits net who s spelled = makes_after a waits o old old new m n made [] [] [] net who s refl tt refl (made.pieces awaits) (λ latest. latest) spelled
