-- The user closes an open, and its objects are let go.
use Rattle.std.proofs.Common.{◌≡◌, ℕ, [], ◌∷◌, List, ◌++◌, Option, None, Some, refl, sym, ap, subst}
use Rattle.nb_terms.specs.declared.cause.Cause.{Cause}
use Rattle.nb_defs.specs.Records.{Out, graph}
use Rattle.nb_ledger.specs.declared.event.GraphEvent.TheVariants.{Closed}
use Rattle.nb_ledger.specs.declared.port.ObjId.{ObjId}
use Rattle.nb_ledger.specs.declared.port.Port.{Port}
use Rattle.nb_ledger.specs.Flat.{Heard, Notice, flat}
use Rattle.nb_graph.specs.Whole.{Objects, port_at}
use Rattle.nb_nodes.specs.declared.obj.Obj.{Obj}
use Rattle.nb_opens.specs.Notices.{tells}
use Rattle.nb_stack.specs.Client.{Client}
use Rattle.nb_traced.specs.Plain.{without_graph}
use Rattle.nb_machine.specs.Kinds.{Keeps}
use Rattle.nb_machine.specs.Lives.{Live}
use Rattle.nb_chains.specs.Calls.{closing_notices}
use Rattle.nb_chains.proofs.Opened.{under_way_open}
use Rattle.nb_teller.specs.declared.speaker.Speaker.{Speaker}
use Rattle.nb_teller.specs.declared.teller.Teller.{Teller}
use Rattle.nb_teller.specs.Spelling.{IsBlank, IsWholeSpelling, Spelling}
use Rattle.nb_teller.specs.Tellings.{told_records}
use Rattle.nb_teller.proofs.Tellers.{told_is}
use Rattle.nb_open.specs.declared.objects.OpenObjects.{OpenObjects}
use Rattle.nb_open.specs.declared.objects.OpenObjects.TheVariants as objects
use Rattle.nb_open.specs.declared.open.Open.{Open}
use Rattle.nb_open.specs.Ends.{ClosesOpen, closed_open}
use Rattle.nb_open.specs.Objects.{AreObjectsOpen, AreObjectsShut, AreObjectsStill, ClosesObjects, ReleasesObjects}
use Rattle.nb_open.specs.Open.{IsOpenOf, LivesSome, kind_for}
use Rattle.nb_open.specs.Settling.{told_so_far}
use Rattle.nb_open.proofs.Doings.{chain_hushed}
use Rattle.nb_open.proofs.Endings.{calls_open, closes_open, end_among_last}
use Rattle.nb_open.proofs.Keepings.{closed_keeps}
use Rattle.nb_open.proofs.Leaving.{closes_then, closing_told, leaving_events, leaving_notices, releases_leave}
use Rattle.nb_open.proofs.Quiet.{events_add, others_more}
use Rattle.nb_open.proofs.Receiving.{kinds_are, lives_open, under_way_by}
use Rattle.nb_open.proofs.DriveCloses.{drive_closed_keeps}
use Rattle.nb_open.proofs.WebCloses.{web_closed_keeps}

pub closed_shut : (os : OpenObjects) (old new : Objects Obj) (m n : Heard) (cause : Cause) → AreObjectsOpen os old → ClosesObjects os old new cause m n → AreObjectsShut os new
closed_shut (objects.Chain kind c) old new m n cause is_open k = k.shut is_open
closed_shut (objects.Web port own c) old new m n cause is_open k = k.shut is_open
closed_shut (objects.Drive port own c) old new m n cause is_open k = k.shut is_open

-- WHAT IS TOLD FIRST

-- all but the first
abbrev pub others_of : {A : Type 0} → List A → List A
others_of [] = []
others_of (x ∷ xs) = xs

-- a port is closed first
abbrev pub BeginsByClose : Cause → List Notice → Type 0
BeginsByClose cause ns = (p : Port) × (rest : List Notice) × (ns ≡ tells (Closed p cause) ∷ rest)

chain_begins : (x : ℕ) (b : Option ObjId) (cause : Cause) → BeginsByClose cause (closing_notices x b cause)
chain_begins x None cause = (port_at x 0, others_of (closing_notices x None cause), refl)
chain_begins x (Some t) cause = (port_at x 0, others_of (closing_notices x (Some t) cause), refl)

begins_by_close : (os : OpenObjects) (old new : Objects Obj) (m n : Heard) (cause : Cause) → AreObjectsOpen os old → (k : ClosesObjects os old new cause m n) → BeginsByClose cause (closing_told os cause old new m n k)
begins_by_close (objects.Chain kind c) old new m n cause is_open k = subst (BeginsByClose cause) (sym (k.are is_open)) (chain_begins c.top.0 c.below cause)
begins_by_close (objects.Web port own c) old new m n cause is_open k = let f = k.first is_open in (port_at c.fetch.0 0, f.0, f.1)
begins_by_close (objects.Drive port own c) old new m n cause is_open k = let f = k.first is_open in (port_at c.unit.0 0, f.0, f.1)

-- so the first record says
pub first_record : (link : Client) (who : Speaker) (cause : Cause) (ns more : List Notice) → BeginsByClose cause ns → (p : Port) × (rest : List Out) × (told_records link who (ns ++ more) ≡ graph (flat (Closed p cause)) ∷ rest)
first_record link who cause ns more (p, rest, is) = (p, told_records link who (rest ++ more), ap (λ z. told_records link who (z ++ more)) is)

-- WHAT IT PROMISES

closing_keeps : (who : Speaker) (os : OpenObjects) (l : Live) (old new : Objects Obj) (link : Client) (m n : Heard) (cause : Cause) → IsOpenOf old (record { speaker = who; objects = os }) l → (k : ClosesObjects os old new cause m n) →
    Keeps (closed_open l cause link (without_graph (told_records link who (closing_told os cause old new m n k))))
closing_keeps who (objects.Chain kind c) l old new link m n cause is k =
    let is_open = under_way_open (kind_for l.kind) c old (under_way_by l.kind c old l is.under_way) in
    subst (λ z. Keeps (closed_open l cause link z)) (sym (chain_hushed link who c old new m n cause is_open k).others) (closed_keeps c old l cause link is.under_way)
closing_keeps who (objects.Web port own c) l old new link m n cause is k = web_closed_keeps who port own c l old new link m n cause is k
closing_keeps who (objects.Drive port own c) l old new link m n cause is k = drive_closed_keeps who port own c l old new link m n cause is k

-- ALL

pub closes_so : (o : Open) (cause : Cause) (link : Client) (old mid new : Objects Obj) (before middle last : Teller) (s : Spelling) → LivesSome old o → before.net.now ≡ link → before.who.now ≡ o.speaker → IsBlank before.told.value →
    AreObjectsStill o.objects old mid → ClosesObjects o.objects old mid cause (told_so_far before) (told_so_far middle) → ReleasesObjects o.objects mid new (told_so_far middle) (told_so_far last) → s ≡ last.told.value → IsWholeSpelling s → ClosesOpen o cause link old new s
closes_so o cause link old mid new before middle last s lives same_net same_who blank on closes releases same whole =
    let first = closing_told o.objects cause old mid (told_so_far before) (told_so_far middle) closes in
    let ns = first ++ leaving_notices o.objects in
    let is_open = lives_open old o lives in
    let both = closes_then o.objects cause old mid new (told_so_far before) (told_so_far middle) (told_so_far last) is_open (kinds_are o.objects old lives.0 lives.1.chained lives.1.under_way) on closes
    (releases_leave o.objects mid new (told_so_far middle) (told_so_far last) releases) in
    let spelled = told_is link o.speaker before last s ns same_net same_who blank both.left.gives.given same whole in
    let put = others_more link o.speaker first (leaving_notices o.objects) (events_add link o.speaker (leaving_notices o.objects) (leaving_events o.objects)) in
    record {
      records = told_records link o.speaker ns;
      text = spelled.1;
      keeps = λ l is. subst (λ z. Keeps (closed_open l cause link z)) (sym put) (closing_keeps o.speaker o.objects l old mid link (told_so_far before) (told_so_far middle) cause is closes);
      its_end = λ k. end_among_last k link o.speaker ns cause;
      closes_first = first_record link o.speaker cause first (leaving_notices o.objects) (begins_by_close o.objects old mid (told_so_far before) (told_so_far middle) cause is_open closes);
      released = both.left.released;
      call = calls_open o link None None old new (told_so_far before) (told_so_far last) ns refl both.left.order both.left.gives;
      close = closes_open o link None None old new (told_so_far before) (told_so_far last) ns refl (Some cause) both.left.gives both.close;
    }
