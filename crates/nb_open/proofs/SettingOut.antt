-- The user asks, of objects of which nothing was asked: the open sets out, or is turned back.
use Rattle.std.proofs.Common.{◌≡◌, inl, inr, ℕ, true, false, List, [], ◌++◌, Option, Some, None, refl, sym, ◌∙◌, ap, subst}
use Rattle.std.specs.Option.{option_map}
use Rattle.nb_terms.specs.declared.cause.Cause.{Cause}
use Rattle.nb_ledger.specs.Flat.{Given, Heard, Notice}
use Rattle.nb_ledger.specs.Ledger.{run_state}
use Rattle.nb_graph.specs.Deeds.{no_memory}
use Rattle.nb_graph.specs.Noded.{AreNoded}
use Rattle.nb_graph.specs.Whole.{Objects}
use Rattle.nb_frames.specs.Frames.{is_one_of}
use Rattle.nb_frames.specs.Within.{IsEventWithin}
use Rattle.nb_nodes.specs.declared.obj.Obj.{Obj}
use Rattle.nb_nodes.specs.Objects.{rank_of_obj}
use Rattle.nb_opens.specs.Notices.{first_close, or_else}
use Rattle.nb_opens.proofs.CloseLemmas.{first_close-append}
use Rattle.nb_stack.specs.Client.{Client}
use Rattle.nb_machine.specs.CommandRecords.{no_route}
use Rattle.nb_machine.specs.Kinds.{first_records}
use Rattle.nb_traced.specs.Outputs.{own_serials}
use Rattle.nb_traced.specs.Pieces.{AreGone, first_close_of}
use Rattle.nb_traced.specs.Plain.{without_graph}
use Rattle.nb_chains.specs.Chains.{IsReadyChain, last_serial}
use Rattle.nb_chains.specs.Shapes.{HasShapeOrFails}
use Rattle.nb_chains.proofs.GivingLemmas.{gives_both}
use Rattle.nb_webchains.specs.WebCalls.{begin_said, short_message}
use Rattle.nb_webchains.proofs.Opened.{ready_open}
use Rattle.nb_teller.specs.declared.teller.Teller.{Teller}
use Rattle.nb_teller.specs.Spelling.{HasSpelled, IsBlank, IsSpelled, IsWholeSpelling, Spelling}
use Rattle.nb_teller.specs.Tellings.{any_lacks_route, told_records}
use Rattle.nb_teller.proofs.Tellers.{told_is}
use Rattle.nb_open.specs.declared.ended.Ended.{Ended}
use Rattle.nb_open.specs.declared.objects.OpenObjects.{OpenObjects}
use Rattle.nb_open.specs.declared.objects.OpenObjects.TheVariants as objects
use Rattle.nb_open.specs.declared.open.Open.{Open}
use Rattle.nb_open.specs.declared.opening.Opening.{Opening}
use Rattle.nb_open.specs.Making.{AsksObjects, StartsOpen, host_length}
use Rattle.nb_open.specs.Objects.{AreObjectsChained, AreObjectsOpen, AreObjectsReady, AreObjectsStill, ClosesObjects, objects_ids}
use Rattle.nb_open.specs.Open.{IsOpenOf, IsSpeakerOf, kin_of_open}
use Rattle.nb_open.specs.Opening.{CanOpen, chain_kind, kind_by, live_by, server_by, speaker_for}
use Rattle.nb_open.specs.Settling.{LetsObjectsGo, MaySettle, SettlesOpen, has_come_to_end, told_so_far, stays_open, is_turned_back}
use Rattle.nb_open.proofs.AskingFirst.{Sets, SetsOrFails, asks_kind, called_by, chain_begins, runs_short, sets}
use Rattle.nb_open.proofs.Callings.{AreInOrder, chain_order, order_more, web_order}
use Rattle.nb_open.proofs.Comings.{ComesOfObjects, chain_comes, drive_comes, may_settle, spelled_by, web_comes}
use Rattle.nb_open.proofs.Endings.{ObjectsGive, calls_open, closes_open, last_object, released_after, serials_are}
use Rattle.nb_open.proofs.Leaving.{closes_leave, closing_quiet, closing_told, leaving_notices, leaving_quiet}
use Rattle.nb_open.proofs.Quiet.{both_silent, others_then, quiet_others}
use Rattle.nb_drivechains.proofs.BesideDrives.{drive_kinds, drive_open}
use Rattle.nb_open.proofs.DriveBegins.{drive_begins_so, drive_closes_silent}
use Rattle.nb_drivechains.specs.DriveChains.{three_of}
use Rattle.nb_drivetalks.specs.Calls.{DriveIsCalled}
use Rattle.nb_drivetalks.specs.Orders.{by_user}
use Rattle.nb_webtalks.proofs.Starting.{are_hosted}
use Rattle.nb_open.proofs.DriveOrders.{HandsUp, drive_order}
use Rattle.nb_open.proofs.Receiving.{kinds_are}
use Rattle.nb_open.proofs.WebBegins.{web_begins, web_closes_silent}

-- WHAT THE CALL SAYS

-- what is told where the user asks
asked_told : (a : Opening) (x : OpenObjects) (old mid : Objects Obj) (now rec : ℕ) (m n : Heard) → AsksObjects a x old mid now rec m n → List Notice
asked_told a (objects.Chain kind chain) old mid now rec m n k = k.begins.ns
asked_told a (objects.Web port own chain) old mid now rec m n k = k.does.ns
asked_told a (objects.Drive port own chain) old mid now rec m n k = k.does.ns

-- of objects of either kind
record Asked (x : OpenObjects) (old mid : Objects Obj) (m n : Heard) (ns : List Notice) : Type 0 where
  gives : ObjectsGive x old mid m n ns
  comes : ComesOfObjects x mid ns
  order : (first_close ns ≡ Some no_memory → ⊥) → AreNoded rank_of_obj old → HandsUp x ns → AreInOrder (last_object x) None ns

shaped : (x : ℕ) (ns : List Notice) → HasShapeOrFails x None ns → (first_close ns ≡ Some no_memory → ⊥) → AreInOrder x None ns
shaped x ns (inl h) kept = chain_order x None ns h
shaped x ns (inr memory) kept = absurd (kept memory)

asked : (a : Opening) (x : OpenObjects) (old mid : Objects Obj) (now rec : ℕ) (m n : Heard) (k : AsksObjects a x old mid now rec m n) → AreObjectsReady a x old → Asked x old mid m n (asked_told a x old mid now rec m n k)
unfolding asked_told
asked a (objects.Chain kind chain) old mid now rec m n k (other, same, ready) =
    let is : IsReadyChain (chain_kind a) chain old = subst (λ z. IsReadyChain z chain old) same ready in
    record {
      gives = k.begins.gives;
      comes = chain_comes kind (chain_kind a) chain mid k.begins.ns (k.begins.comes (chain_kind a) is (asks_kind a k.bytes other k.asks));
      order = λ no noded up. shaped (last_serial chain) k.begins.ns (k.begins.shape (chain_kind a) is (asks_kind a k.bytes other k.asks)) no;
    }
asked a (objects.Web port own chain) old mid now rec m n k (is, same, from, ready) =
    let is_open = ready_open chain old ready in
    record {
      gives = k.does.gives;
      comes = web_comes port own chain mid k.does.ns (k.does.comes is_open);
      order = λ no noded up. web_order chain.conn.0 None k.does.ns (k.does.order is_open ready.kinds (short_message _ _ k.short));
    }
asked a (objects.Drive port own chain) old mid now rec m n k (is, same, from, ready) =
    let is_open = drive_open chain old ready in
    record {
      gives = k.does.gives;
      comes = drive_comes port own chain mid k.does.ns (k.does.comes is_open);
      order = λ no noded up.
          let called : DriveIsCalled chain old mid = record {
            was = ready.ready.chained;
            is = k.does.still;
            hosted = are_hosted (three_of chain) old ready.ready.chained noded;
            noded = k.does.noded;
            opened = is_open;
            kinds = drive_kinds chain old mid k.does.keeps ready.kinds;
          } in
          drive_order chain old mid m n now _ _ called (by_user (begin_said rec (host_length a) k.bytes)) (short_message _ _ k.short) k.does up;
    }

module _ (a : Opening) (number now : ℕ) (link : Client) (o : Open) (old mid : Objects Obj) (rec : ℕ) (m n : Heard) (can : CanOpen a) (called : IsSpeakerOf o (live_by a number now)) (before : AreNoded rank_of_obj old) (after : AreNoded rank_of_obj mid) where
  sets_of : (x : OpenObjects) (k : AsksObjects a x old mid now rec m n) → AreObjectsReady a x old → AreObjectsChained mid x → SetsOrFails a number now link o x mid (asked_told a x old mid now rec m n k)
  unfolding asked_told
  sets_of (objects.Chain kind chain) k (other, same, ready) chained = chain_begins number now link o kind chain old mid k.bytes rec m n k.begins a other can k.asks (subst (λ z. IsReadyChain z chain old) same ready) called
  sets_of (objects.Web port own chain) k (is, same, from, ready) chained = web_begins number now link o port own chain old mid rec m n ready before chained after a k is can from called
  sets_of (objects.Drive port own chain) k (is, same, from, ready) chained = drive_begins_so number now link o port own chain old mid rec m n ready before chained after a k is can from called

-- a close of what found no route puts nothing
closes_silent : (a : Opening) (number now : ℕ) (link : Client) (o : Open) (mid new : Objects Obj) (cause : Cause) (m n : Heard) (x : OpenObjects) (old : Objects Obj) → AreObjectsReady a x old → IsOpenOf mid (record { speaker = o.speaker; objects = x }) (live_by a number now) →
    (closes : ClosesObjects x mid new cause m n) → AreObjectsOpen x mid → first_records (kind_by a) (live_by a number now) link ≡ None → without_graph (told_records link o.speaker (closing_told x cause mid new m n closes)) ≡ []
closes_silent a number now link o mid new cause m n (objects.Chain kind chain) old ready lives closes is_open lost = quiet_others link o.speaker closes.ns (closing_quiet chain cause mid new m n closes is_open)
closes_silent a number now link o mid new cause m n (objects.Web port own chain) old (is, same, from, ready) lives closes is_open lost = web_closes_silent a number now link o port own chain mid new cause m n is lives closes lost
closes_silent a number now link o mid new cause m n (objects.Drive port own chain) old (is, same, from, ready) lives closes is_open lost = drive_closes_silent a number now link o port own chain mid new cause m n is lives closes lost

-- IT SETS OUT, OR IS TURNED BACK

module _ (a : Opening) (now : ℕ) (link : Client) (o : Open) (old mid new : Objects Obj) (rec : ℕ) (before after last : Teller) (s : Spelling) (same_net : before.net.now ≡ link) (same_who : before.who.now ≡ o.speaker) (blank : IsBlank before.told.value)
    (k : AsksObjects a o.objects old mid now rec (told_so_far before) (told_so_far after)) (ready : AreObjectsReady a o.objects old) where
  abbrev ns : List Notice
  ns = asked_told a o.objects old mid now rec (told_so_far before) (told_so_far after) k

  says : Asked o.objects old mid (told_so_far before) (told_so_far after) ns
  says = asked a o.objects old mid now rec (told_so_far before) (told_so_far after) k ready

  spelled : after.told.value.is_lost ≡ false → IsSpelled link o.speaker after.told.value ns
  spelled kept = spelled_by o link before after same_net same_who blank ns says.gives.given kept

  pub begin_may : MaySettle o after.told.value mid
  begin_may = may_settle o link mid after.told.value ns spelled says.comes

  module _ (number : ℕ) (can : CanOpen a) (speaker : o.speaker ≡ speaker_for a number) (on : AreObjectsStill o.objects old mid) (noded : AreNoded rank_of_obj old) (noded_then : AreNoded rank_of_obj mid) (same : s ≡ last.told.value) (whole : IsWholeSpelling s) where
    called : IsSpeakerOf o (live_by a number now)
    called = called_by a number now o old speaker ready

    closed_is : (c : Option Cause) → HasSpelled after.told.value c → first_close ns ≡ c
    closed_is c has = sym (spelled has.0).2 ∙ has.1

    not_short : (c : Option Cause) → HasSpelled after.told.value c → first_close ns ≡ Some no_memory → ⊥
    not_short c has memory = has.2 (sym (closed_is c has) ∙ memory)

    spells : (all : List Notice) → Given (told_so_far before) (told_so_far last) all → IsSpelled link o.speaker s all
    spells all given = told_is link o.speaker before last s all same_net same_who blank given same whole

    lives_by : Sets a number now link o o.objects mid ns → IsOpenOf mid o (live_by a number now)
    lives_by t = record { chained = on.chained; called = called; under_way = t.under_way }

    sets_so : HasSpelled after.told.value None → after.told.value.is_stuck ≡ false → new ≡ mid → told_so_far last ≡ told_so_far after → Sets a number now link o o.objects mid ns → StartsOpen a number now link o old new s None
    sets_so has free same_graph same_heard t =
        let gives : ObjectsGive o.objects old new (told_so_far before) (told_so_far last) ns =
        subst (λ z. ObjectsGive o.objects old z (told_so_far before) (told_so_far last) ns) (sym same_graph) (subst (λ z. ObjectsGive o.objects old mid (told_so_far before) z ns) (sym same_heard) says.gives) in
        let finds : any_lacks_route link o.speaker ns ≡ false = sym (spelled has.0).5 ∙ free in
        record {
          records = told_records link o.speaker ns;
          text = (spells ns gives.given).1;
          sets_out = record {
            first = t.found finds;
            lives = subst (λ z. IsOpenOf z o (live_by a number now)) (sym same_graph) (lives_by t);
            call = calls_open o link None None old new (told_so_far before) (told_so_far last) ns refl (says.order (not_short None has) noded t.up) gives;
            no_close = closes_open o link None None old new (told_so_far before) (told_so_far last) ns refl None gives t.none;
          };
          leaves = subst (AreObjectsStill o.objects old) (sym same_graph) on;
        }

    back_so : (e : Ended) (b : Objects Obj) (told : Heard) (closes : ClosesObjects o.objects mid b e.cause (told_so_far after) told) → AreObjectsStill o.objects mid b → LetsObjectsGo o.objects e b new told (told_so_far last) → HasSpelled after.told.value None →
        after.told.value.is_stuck ≡ true → e.cause ≡ no_route (server_by a) → Sets a number now link o o.objects mid ns → StartsOpen a number now link o old new s (Some e.cause)
    back_so e b told closes on' lets has stuck is t =
        let is_open : AreObjectsOpen o.objects mid = begin_may.unshut has in
        let closing = closing_told o.objects e.cause mid b (told_so_far after) told closes in
        let more = closing ++ leaving_notices o.objects in
        let all = ns ++ more in
        let end = closes_leave o.objects e e.cause mid b new (told_so_far after) told (told_so_far last) is_open (kinds_are o.objects mid (live_by a number now) on.chained t.under_way) on' closes lets in
        let gives : ObjectsGive o.objects old new (told_so_far before) (told_so_far last) all =
        gives_both (IsEventWithin (is_one_of (objects_ids o.objects))) old mid new (told_so_far before) (told_so_far after) (told_so_far last) ns more says.gives end.left.gives in
        let lacks : any_lacks_route link o.speaker ns ≡ true = sym (spelled has.0).5 ∙ stuck in
        let first : first_close all ≡ Some e.cause = first_close-append ns more ∙ (ap (λ z. or_else z (first_close more)) t.none ∙ end.close) in
        let released = released_after (objects_ids o.objects) old mid new on end.left.released in
        let silent : without_graph (told_records link o.speaker more) ≡ [] =
        others_then link o.speaker closing (leaving_notices o.objects) (leaving_quiet o.objects) ∙ closes_silent a number now link o mid b e.cause (told_so_far after) told o.objects old ready (lives_by t) closes is_open (t.lost lacks).0 in
        record {
          records = told_records link o.speaker all;
          text = (spells all gives.given).1;
          sets_out = (
            is,
            record {
              first = (t.lost lacks).0;
              silent = both_silent link o.speaker ns more (t.lost lacks).1 silent;
              call = calls_open o link None None old new (told_so_far before) (told_so_far last) all refl (order_more (last_object o.objects) None ns more (says.order (not_short None has) noded t.up) end.left.order) gives;
              close = subst (λ z. first_close_of (own_serials (kin_of_open o)) (told_records link o.speaker all) ≡ Some z) is (closes_open o link None None old new (told_so_far before) (told_so_far last) all refl (Some e.cause) gives first);
              gone = subst (λ z. AreGone z (run_state new.book [])) (sym (serials_are o)) released.gone;
            },
          );
          leaves = released;
        }

    starts_by : (ended : Option Ended) → SettlesOpen o after.told.value mid new (told_so_far after) (told_so_far last) ended → SetsOrFails a number now link o o.objects mid ns → StartsOpen a number now link o old new s (option_map (λ e. e.cause) ended)
    starts_by ended (stays_open has free same_graph same_heard) (sets t) = sets_so has free same_graph same_heard t
    starts_by ended (has_come_to_end e has lets) (sets t) = absurd (let no : Some e.cause ≡ None = sym (closed_is (Some e.cause) has) ∙ t.none in cc)
    starts_by ended (is_turned_back e b told has stuck is on' closes lets) (sets t) = back_so e b told closes on' lets has stuck (is ∙ ap (λ z. no_route z.server.0) speaker) t
    starts_by ended (stays_open has free same_graph same_heard) (runs_short memory) = absurd (not_short None has memory)
    starts_by ended (has_come_to_end e has lets) (runs_short memory) = absurd (not_short (Some e.cause) has memory)
    starts_by ended (is_turned_back e b told has stuck is on' closes lets) (runs_short memory) = absurd (not_short None has memory)

    pub starts_so : (ended : Option Ended) → SettlesOpen o after.told.value mid new (told_so_far after) (told_so_far last) ended → StartsOpen a number now link o old new s (option_map (λ e. e.cause) ended)
    starts_so ended settles = starts_by ended settles (sets_of a number now link o old mid rec (told_so_far before) (told_so_far after) can called noded noded_then o.objects k ready on.chained)
