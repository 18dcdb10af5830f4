-- What waits is let go.
use Rattle.std.proofs.Common.{◌≡◌, List, [], ◌∷◌, map, refl, sym, ◌∙◌, ap, subst}
use Rattle.std.specs.List.{AllByRecursion}
use Rattle.nb_defs.specs.Records.{out_texts}
use Rattle.nb_ledger.specs.declared.event.GraphEvent.{GraphEvent}
use Rattle.nb_ledger.specs.declared.event.GraphEvent.TheVariants.{LetGo, Freed}
use Rattle.nb_ledger.specs.declared.port.ObjId.{ObjId}
use Rattle.nb_ledger.specs.Flat.{events_part}
use Rattle.nb_graph.specs.Whole.{Objects}
use Rattle.nb_frames.specs.Frames.{is_one_of}
use Rattle.nb_frames.specs.Within.{IsEventWithin}
use Rattle.nb_nodes.specs.declared.obj.Obj.{Obj}
use Rattle.nb_opens.specs.Notices.{tells}
use Rattle.nb_traced.specs.Pieces.{AreInner, event_records}
use Rattle.nb_chains.specs.declared.chain.Chain.{Chain}
use Rattle.nb_chains.specs.declared.kind.ChainKind.{ChainKind}
use Rattle.nb_chains.specs.Calls.{ReleasesChain}
use Rattle.nb_chains.specs.Chains.{Awaits, released_by, released_notices}
use Rattle.nb_teller.specs.declared.teller.Teller.{Teller}
use Rattle.nb_teller.specs.Spelling.{IsBlank, IsWholeSpelling, Spelling}
use Rattle.nb_teller.specs.Tellings.{told_records}
use Rattle.nb_teller.proofs.Tellers.{told_is}
use Rattle.nb_open.specs.Ends.{GivesUp}
use Rattle.nb_open.specs.Settling.{told_so_far}
use Rattle.nb_open.proofs.Callings.{events_told}
use Rattle.nb_open.proofs.Endings.{serials_below}
use Rattle.nb_open.proofs.FlatEvents.{same_flat}

-- the events by which an object is let go
abbrev freed_events : ObjId → List GraphEvent
freed_events x = LetGo x ∷ Freed x ∷ []

pub gives_up_so : (kind : ChainKind) (waits : Chain) (old new : Objects Obj) (before last : Teller) (s : Spelling) → Awaits kind waits old → IsBlank before.told.value → ReleasesChain waits old new (told_so_far before) (told_so_far last) →
    s ≡ last.told.value → IsWholeSpelling s → GivesUp kind waits old new s
gives_up_so kind waits old new before last s awaits blank r same whole =
    let es = freed_events waits.top in
    let are : released_notices waits ≡ map tells es = ap (released_by waits.top.0) awaits.alone in
    let events : r.gives.events ≡ es = same_flat r.gives.events es (sym r.gives.are ∙ ap events_part are) in
    let spelled = told_is before.net.now before.who.now before last s (released_notices waits) refl refl blank r.gives.given same whole in
    record {
      events = r.gives.events;
      text = spelled.1 ∙ ap out_texts (ap (told_records before.net.now before.who.now) are ∙ (events_told before.net.now before.who.now es ∙ ap event_records (sym events)));
      run = r.gives.run;
      within = subst (λ ids. AllByRecursion (IsEventWithin (is_one_of ids)) r.gives.events) (sym (ap (λ z. waits.top.0 ∷ z) (serials_below waits.below))) r.gives.within;
      inner = λ x. subst (AreInner x) (sym events) (tt, (tt, tt));
      released = r.released;
    }
