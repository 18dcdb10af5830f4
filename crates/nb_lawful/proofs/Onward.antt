-- A command has looked up its server, or its file was moved: its next open is made, or finds no route, or no more may be made.
use Rattle.std.specs.Prelude.{find}
use Rattle.std.specs.List.{list_any}
use Rattle.std.specs.Option.{option_and_then}
use Rattle.std.proofs.Common.{◌≡◌, ℕ, ◌-◌, ◌<◌, ◌==◌, ◌||◌, cond, false, List, [], ◌∷◌, ◌++◌, Some, None, refl, sym, ◌∙◌, ap, subst, length, Ok, Option, true}
use Rattle.nb_defs.specs.Records.{Out, result}
use Rattle.nb_stack.specs.Client.{Client}
use Rattle.nb_machine.specs.Starting.{own_port}
use Rattle.nb_machine.specs.Conclusions.{fails, conclusion_records}
use Rattle.nb_machine.specs.Effects.{Effect, inquires, ShownWords, full_opens, onward_effect, hooks_disk, next_at_target}
use Rattle.nb_machine.specs.Errands.{Wanted, Errand, fetches_then, echoes_then, Onward, fetches_now, echoes_now, looks_up_now, onward, hooks_now, hooks_then}
use Rattle.nb_imagecmd.specs.Asking.{target_port, target_text}
use Rattle.nb_machine.specs.Queries.{for_echo, for_host}
use Rattle.nb_machine.specs.Running.{Running, with_result}
use Rattle.nb_machine.specs.CommandRecords.{no_route}
use Rattle.nb_machine.specs.Lives.{kind_number, open_record, end_record}
use Rattle.nb_machine.specs.Kinds.{first_records}
use Rattle.nb_machine.specs.States.{State, with_opened, with_one_made}
use Rattle.nb_machine.specs.Scripts.{transfer_for, live_onward, job_onward, awaited_onward}
use Rattle.nb_machine.specs.Courses as course
use Rattle.nb_laws.specs.Events.{Event, puts}
use Rattle.nb_laws.specs.Lists.{hardware, port_offset, Opening, made, last_end, openings, came_ok}
use Rattle.nb_laws.specs.CommandsSoFar.{CommandsSoFar, so_far, shown_table, comes_by, comes_after, ComesTo, conclusion_so_far, concluded_in, left_table}
use Rattle.nb_laws.specs.Moves.{moves, MovedOpen}
use Rattle.nb_laws.specs.Wanting.{wanted_by, wanted_of_host, target_kind}
use Rattle.nb_laws.specs.Webs.{opens_a_file}
use Rattle.nb_laws.specs.Openings.{onward_fields, open_fields, OpensFor, opens_onward, opens_moved, FindsHost, opens_for_disk, LooksUpTarget, opens_disk_onward}
use Rattle.nb_laws.specs.Agreement.{AsksQuery, asks_at_once, echoes_next}
use Rattle.nb_laws.proofs.Tellings.{told}
use Rattle.nb_laws.proofs.Commands.{script_as, script_told}
use Rattle.nb_laws.proofs.Afterwards.{after_stays, after_keeps, after_none, host_leaves, looks_up_no_disk_after}
use Rattle.nb_laws.proofs.SoFar.{over_so_far, result_so_far, opened_no_file, hooks_failed}
use Rattle.nb_laws.proofs.Stays.{IsAsking}
use Rattle.nb_laws.specs.Frames.{by_full_next, HoldsOf, HoldsResult, by_full_hooking}
use Rattle.nb_laws.specs.Hookings.{hooked_drives, BootsBy, HasRead}
use Rattle.nb_openlaws.specs.Standings.{live_opening}
use Rattle.nb_openlaws.proofs.NextOpens.{HooksRightly}
use Rattle.nb_lawful.specs.Results.{CommandsSo}
use Rattle.nb_lawful.specs.ScriptAgreement.{SettingsAre, IsToReach, reaches_host, reaches_place, ScriptsAgree, OpensNoDrive, ReachesHookedDisk, reaches_disk, reaches_looked_up_disk, HasFreeNumber, HooksBy}
use Rattle.nb_lawful.proofs.AtOnce.{Goes, images_as}
use Rattle.nb_lawful.proofs.Opened.{UnderWay, ConcludesNot, Purpose, for_file, for_query, begins_open, finds_none, awaited_of, for_disk, for_disk_host, for_boot}
use Rattle.nb_lawful.proofs.Opening.{Based, kind_is_for, transfer_is_for, live_is_for}
use Rattle.nb_lawful.proofs.HookedLives.{LivesSo, drives_still}
use Rattle.nb_lawful.proofs.Disks.{disk_leaves, no_drive_last, hooking_is}
use Rattle.nb_lawful.proofs.Targets.{AsksTarget, asks_server, target_next, asks_address}
use Rattle.nb_lawful.proofs.Fresh.{fresh_answers_none}
use Rattle.nb_drivecmd.specs.HookedDrives.{is_drive}
use Rattle.nb_drivecmd.specs.declared.outcome.Hooking.{Hooking}
use Rattle.nb_terms.specs.declared.cause.Cause.{Cause}
use Rattle.nb_lawful.proofs.NoBlocks.{made_some, no_block_later, no_block_last}
use Rattle.nb_drivecmd.specs.declared.outcome.AfterHook.{AfterHook}
use Rattle.nb_drivecmd.specs.declared.outcome.AfterHook.TheVariants.{Keep, Boot}
use Rattle.nb_laws.specs.Drives.{hooks_to_boot, is_booted_then}
use Rattle.nb_laws.specs.CommandOpens.{command_open}

pub reached_under_way : (es : List Event) (outs : List Out) (s : State) (inner : Running) (outer : List Running) (next : Onward) → Based es s → ScriptsAgree es outs (course.reaching s inner outer next) → UnderWay es outs s inner outer
reached_under_way es outs s inner outer next b a = record { script = a.0; settings = a.1; images = a.2; none_left = a.3; fewer = b.fewer; none_yet = b.none_yet }

next_number : (s : State) (next : Onward) → (live_onward s next).number ≡ s.opens
next_number s (fetches_now wanted) = refl
next_number s (echoes_now server) = refl
next_number s (hooks_now hooking server) = refl
next_number s (looks_up_now errand name by) = refl

-- THE OPEN'S REASON

next_fields : (offset : ℕ) (s : State) (next : Onward) → offset ≡ s.w →
    open_fields (kind_number (live_onward s next).kind) (live_onward s next).server (live_onward s next).port (live_onward s next).own (live_onward s next).target ≡ onward_fields offset (live_onward s next).number next
next_fields offset s (fetches_now wanted) e =
    ap (λ k. open_fields k wanted.server (target_port wanted.asking.target) (own_port s.w s.opens) (target_text wanted.asking.target)) (kind_is_for s wanted.asking.target)
    ∙ ap (λ z. open_fields (target_kind wanted.asking.target) wanted.server (target_port wanted.asking.target) (own_port z s.opens) (target_text wanted.asking.target)) (sym e)
next_fields offset s (echoes_now server) e = refl
next_fields offset s (hooks_now hooking server) e = ap (λ z. open_fields 3 server hooking.disk.port (own_port z s.opens) (hooking.disk.name ++ 0 ∷ hooking.disk.lun)) (sym e)
next_fields offset s (looks_up_now errand name by) e = ap (λ z. open_fields 4 by 53 (own_port z s.opens) name) (sym e)

next_is_for : (es : List Event) (s : State) (next : Onward) → Based es s → IsToReach es next →
    OpensFor es (live_onward s next).number (kind_number (live_onward s next).kind) (live_onward s next).server (live_onward s next).port (live_onward s next).own (live_onward s next).target
next_is_for es s next b (reaches_host errand name by address names finds is) = opens_onward (record {
  errand = errand;
  name = name;
  by = by;
  names = names;
  address = address;
  finds = finds;
  fields_are = next_fields (port_offset es) s next b.offset_is ∙ ap (onward_fields (port_offset es) (live_onward s next).number) is;
})
next_is_for es s next b (reaches_disk r) = opens_for_disk (record {
  first = r.first;
  hooking = r.hooking;
  names = subst (λ k. ComesTo es k (hooks_disk r.hooking)) (b.opens ∙ sym (next_number s next)) r.names;
  next = next;
  gone = r.gone;
  asks = subst (λ k. next_at_target k (so_far es).table (hooked_drives es) r.hooking ≡ Ok next) (b.opens ∙ sym (next_number s next)) r.asks;
  fields_are = next_fields (port_offset es) s next b.offset_is;
})
next_is_for es s next b (reaches_looked_up_disk r) = opens_disk_onward (record {
  hooking = r.hooking;
  names = subst (λ k. ComesTo es k (hooks_disk r.hooking)) (b.opens ∙ sym (next_number s next)) r.names;
  name = r.name;
  by = r.by;
  address = r.address;
  asked = r.asked;
  gone = r.gone;
  finds = r.finds;
  fields_are = next_fields (port_offset es) s next b.offset_is ∙ ap (onward_fields (port_offset es) (live_onward s next).number) r.is_next;
})
next_is_for es s next b (reaches_place moved names more no_drive) = opens_moved (record {
  moved = moved;
  next = next;
  names = subst (λ k. ComesTo es k (onward_effect next)) (b.opens ∙ sym (next_number s next)) names;
  fields_are = next_fields (port_offset es) s next b.offset_is;
})

next_stands : (es : List Event) (outs : List Out) (s : State) (inner : Running) (outer : List Running) (next : Onward) → Based es s → ScriptsAgree es outs (course.reaching s inner outer next) → CommandsSo es (puts (open_record (live_onward s next)))
next_stands es outs s inner outer next b a = record { next = next_number s next ∙ sym b.opens; is_open = a.1.is_open; none_left = a.3; is_for = next_is_for es s next b a.4 }

-- WHAT IS ASKED FOR

wanted_onward : (errand : Errand) (name : List ℕ) (by address : ℕ) (wanted : Wanted) (o : Opening) → o.server ≡ wanted.server → fetches_now wanted ≡ onward errand address → wanted_of_host (for_host errand name by) o ≡ Some wanted
wanted_onward (fetches_then asking) name by address wanted o of is =
    let same : ◌≡◌ {A = Wanted} wanted (record { server = address; asking = asking }) = cc is in
    ap (λ server. Some (record { server = server; asking = asking })) (of ∙ ap (λ (x : Wanted). x.server) same) ∙ ap (λ (x : Wanted). Some x) (sym same)
wanted_onward echoes_then name by address wanted o of is = absurd (let no : fetches_now wanted ≡ echoes_now address = is in cc no)
wanted_onward (hooks_then hooking) name by address wanted o of is = absurd (let no : fetches_now wanted ≡ hooks_now hooking address = is in cc no)

echo_onward : (e : Effect) (errand : Errand) (name : List ℕ) (by address server : ℕ) → e ≡ inquires (for_host errand name by) → echoes_now server ≡ onward errand address → AsksQuery e (for_echo server)
echo_onward e (fetches_then asking) name by address server is next = absurd (let no : echoes_now server ≡ fetches_now (record { server = address; asking = asking }) = next in cc no)
echo_onward e echoes_then name by address server is next = echoes_next name by server is refl
echo_onward e (hooks_then hooking) name by address server is next = absurd (let no : echoes_now server ≡ hooks_now hooking address = next in cc no)

-- nothing is looked up of a server whose address is known
not_looked_up : (errand other : Errand) (name : List ℕ) (by address : ℕ) → looks_up_now other name by ≡ onward errand address → ⊥
not_looked_up (fetches_then asking) other name by address is = let no : looks_up_now other name by ≡ fetches_now (record { server = address; asking = asking }) = is in cc no
not_looked_up echoes_then other name by address is = let no : looks_up_now other name by ≡ echoes_now address = is in cc no
not_looked_up (hooks_then hooking) other name by address is = let no : looks_up_now other name by ≡ hooks_now hooking address = is in cc no

-- nor a disk hooked by a server that is looked up for a file or an echo
not_hooked : (errand : Errand) (hooking : Hooking) (server address : ℕ) (k : ℕ) (m : CommandsSoFar) (shown : ShownWords) (ms : List MovedOpen) (name : List ℕ) (by : ℕ) → hooks_now hooking server ≡ onward errand address → comes_after k m shown ms ≡ inquires (for_host errand name by) → ⊥
not_hooked (fetches_then asking) hooking server address k m shown ms name by is names = let no : hooks_now hooking server ≡ fetches_now (record { server = address; asking = asking }) = is in cc no
not_hooked echoes_then hooking server address k m shown ms name by is names = let no : hooks_now hooking server ≡ echoes_now address = is in cc no
not_hooked (hooks_then other) hooking server address k m shown ms name by is names = looks_up_no_disk_after k m shown ms other name by names

-- by what was looked up: what the command came to before, it comes to now
host_purpose : (es : List Event) (s : State) (next : Onward) (shown : ShownWords) (errand : Errand) (name : List ℕ) (by address : ℕ) → Based es s → (so_far es).shown ≡ Some shown → next ≡ onward errand address →
    comes_after s.opens (so_far es) shown (moves es) ≡ inquires (for_host errand name by) → Purpose es s.drives (moves es) (live_onward s next) (job_onward next)
host_purpose es s (fetches_now wanted) shown errand name by address b said is names = for_file wanted refl (record {
  shown = shown;
  said = said;
  asked = ap (λ e. wanted_by e (live_opening (transfer_for s wanted))) names ∙ wanted_onward errand name by address wanted (live_opening (transfer_for s wanted)) refl is;
  kind_is = transfer_is_for (hardware es) s wanted.asking.target b.hardware_is;
  server_is = refl;
  port_is = refl;
  target_is = refl;
})
host_purpose es s (echoes_now server) shown errand name by address b said is names = for_query (for_echo server) refl (record {
  shown = shown;
  said = said;
  asked = echo_onward (comes_after s.opens (so_far es) shown (moves es)) errand name by address server names is;
  is_for = refl;
})
host_purpose es s (hooks_now hooking server) shown errand name by address b said is names = absurd (not_hooked errand hooking server address s.opens (so_far es) shown (moves es) name by is names)
host_purpose es s (looks_up_now other text server) shown errand name by address b said is names = absurd (not_looked_up errand other text server address is)

-- or by the place to which its file was moved
place_purpose : (es : List Event) (s : State) (next : Onward) (shown : ShownWords) → OpensNoDrive next → Based es s → (so_far es).shown ≡ Some shown → comes_after s.opens (so_far es) shown (moves es) ≡ onward_effect next →
    Purpose es s.drives (moves es) (live_onward s next) (job_onward next)
place_purpose es s (fetches_now wanted) shown plain b said names = for_file wanted refl (record {
  shown = shown;
  said = said;
  asked = ap (λ e. wanted_by e (live_opening (transfer_for s wanted))) names;
  kind_is = transfer_is_for (hardware es) s wanted.asking.target b.hardware_is;
  server_is = refl;
  port_is = refl;
  target_is = refl;
})
place_purpose es s (echoes_now server) shown plain b said names = for_query (for_echo server) refl (record { shown = shown; said = said; asked = asks_at_once names; is_for = refl })
place_purpose es s (hooks_now hooking server) shown plain b said names = absurd plain
place_purpose es s (looks_up_now errand name by) shown plain b said names =
    for_query (for_host errand name by) refl (record { shown = shown; said = said; asked = asks_at_once names; is_for = live_is_for (hardware es) s (for_host errand name by) b.hardware_is })

-- or the disk that is hooked, on its server
disk_purpose : (es : List Event) (s : State) (hooking : Hooking) (server : ℕ) → Based es s → ComesTo es (made es) (hooks_disk hooking) → HasFreeNumber hooking s.drives →
    Purpose es s.drives (moves es) (live_onward s (hooks_now hooking server)) (job_onward (hooks_now hooking server))
disk_purpose es s hooking server b (shown, said, names) gone = by hooking.after refl
  where
    on : HooksBy (so_far es) (moves es) (live_onward s (hooks_now hooking server)) hooking
    on = record { shown = shown; said = said; names = subst (λ k. comes_after k (so_far es) shown (moves es) ≡ hooks_disk hooking) b.opens names; is_drive = (_, _, refl) }

    by : (after : AfterHook) → hooking.after ≡ after → Purpose es s.drives (moves es) (live_onward s (hooks_now hooking server)) (job_onward (hooks_now hooking server))
    by Keep is = for_disk hooking refl is on (fresh_answers_none s hooking server) gone
    by (Boot keep) is = for_boot hooking keep refl is on (ap hooks_to_boot (hooking_is es hooking (shown, said, names)) ∙ ap is_booted_then is) tt (fresh_answers_none s hooking server) gone

-- or for its server's address
disk_host_purpose : (es : List Event) (s : State) (hooking : Hooking) (name : List ℕ) (by : ℕ) → Based es s → ComesTo es (made es) (hooks_disk hooking) → LooksUpTarget (so_far es).table hooking name by → length hooking.disk.lun ≡ 8 → HasFreeNumber hooking s.drives →
    Purpose es s.drives (moves es) (live_onward s (looks_up_now (hooks_then hooking) name by)) (job_onward (looks_up_now (hooks_then hooking) name by))
disk_host_purpose es s hooking name by b (shown, said, names) asked unit gone = for_disk_host hooking refl (record {
  shown = shown;
  said = said;
  names = subst (λ k. comes_after k (so_far es) shown (moves es) ≡ hooks_disk hooking) b.opens names;
  name = name;
  by = by;
  asked = asked;
  is_for = live_is_for (hardware es) s (for_host (hooks_then hooking) name by) b.hardware_is;
  unit = unit;
}) gone

-- the drives that are hooked are the state's
still_free : (es : List Event) (s : State) (hooking : Hooking) → LivesSo es s → HasFreeNumber hooking (hooked_drives es) → HasFreeNumber hooking s.drives
still_free es s hooking lives gone = sym (ap (list_any (is_drive hooking.number)) lives) ∙ gone

target_purpose : (es : List Event) (s : State) (next : Onward) (r : ReachesHookedDisk es next) → Based es s → LivesSo es s → AsksTarget (made es) (so_far es).table r.hooking next → Purpose es s.drives (moves es) (live_onward s next) (job_onward next)
target_purpose es s next r b lives (asks_server server is more) =
    subst (λ n. Purpose es s.drives (moves es) (live_onward s n) (job_onward n)) (sym is) (disk_purpose es s r.hooking server b r.names (still_free es s r.hooking lives r.gone))
target_purpose es s next r b lives (asks_address name by is asked more) =
    subst (λ n. Purpose es s.drives (moves es) (live_onward s n) (job_onward n)) (sym is) (disk_host_purpose es s r.hooking name by b r.names asked r.unit (still_free es s r.hooking lives r.gone))

target_asks : (es : List Event) (next : Onward) (r : ReachesHookedDisk es next) → AsksTarget (made es) (so_far es).table r.hooking next
target_asks es next r = target_next (made es) (so_far es).table (hooked_drives es) r.hooking next r.asks

next_purpose : (es : List Event) (s : State) (next : Onward) → Based es s → LivesSo es s → s.opens < 16384 → IsToReach es next → Purpose es s.drives (moves es) (live_onward s next) (job_onward next)
next_purpose es s next b lives few (reaches_host errand name by address (shown, said, names) finds is) =
    host_purpose es s next shown errand name by address b said is (after_stays (made es - 1) s.opens (so_far es) shown (moves es) few (subst IsAsking (sym names) tt) ∙ names)
next_purpose es s next b lives few (reaches_disk r) = target_purpose es s next r b lives (target_asks es next r)
next_purpose es s next b lives few (reaches_looked_up_disk r) =
    subst (λ n. Purpose es s.drives (moves es) (live_onward s n) (job_onward n)) (sym r.is_next) (disk_purpose es s r.hooking r.address b r.names (still_free es s r.hooking lives r.gone))
next_purpose es s next b lives few (reaches_place moved (shown, said, names) more plain) = place_purpose es s next shown plain b said (subst (λ k. comes_after k (so_far es) shown (moves es) ≡ onward_effect next) b.opens names)

-- ITS COMMAND ASKS

pub onward_asks : (next : Onward) → IsAsking (onward_effect next)
onward_asks (fetches_now wanted) = tt
onward_asks (echoes_now server) = tt
onward_asks (hooks_now hooking server) = tt
onward_asks (looks_up_now errand name by) = tt

-- a command that has begun asks for something, with so many opens made
pub record AsksStill (es : List Event) : Type 0 where
  pub opens : ℕ
  pub shown : ShownWords
  pub said : (so_far es).shown ≡ Some shown
  pub asks : IsAsking (comes_after opens (so_far es) shown (moves es))

disk_asks : (es : List Event) (hooking : Hooking) → ComesTo es (made es) (hooks_disk hooking) → AsksStill es
disk_asks es hooking (shown, said, names) = record { opens = made es; shown = shown; said = said; asks = subst IsAsking (sym names) tt }

pub reached_asks : (es : List Event) (next : Onward) → IsToReach es next → AsksStill es
reached_asks es next (reaches_host errand name by address (shown, said, names) finds is) = record { opens = made es - 1; shown = shown; said = said; asks = subst IsAsking (sym names) tt }
reached_asks es next (reaches_disk r) = disk_asks es r.hooking r.names
reached_asks es next (reaches_looked_up_disk r) = disk_asks es r.hooking r.names
reached_asks es next (reaches_place moved (shown, said, names) more plain) = record { opens = made es; shown = shown; said = said; asks = subst IsAsking (sym names) (onward_asks next) }

reached_keeps : (es : List Event) (next : Onward) → IsToReach es next → shown_table (so_far es).table (so_far es).shown ≡ (so_far es).table
reached_keeps es next r =
    let a = reached_asks es next r in
    ap (shown_table (so_far es).table) a.said ∙ after_keeps a.opens (so_far es) a.shown (moves es) (comes_after a.opens (so_far es) a.shown (moves es)) refl a.asks

reached_quiet : (es : List Event) (next : Onward) → IsToReach es next → ConcludesNot (so_far es)
reached_quiet es next r =
    let a = reached_asks es next r in
    λ j. ap (option_and_then (λ x. concluded_in (comes_by j (so_far es) x))) a.said ∙ after_none a.opens j (so_far es) a.shown (moves es) a.asks

-- IT IS MADE

onward_awaits : (next : Onward) (number : ℕ) → awaited_onward next number ≡ awaited_of (job_onward next) number
onward_awaits (fetches_now wanted) number = refl
onward_awaits (echoes_now server) number = refl
onward_awaits (hooks_now hooking server) number = refl
onward_awaits (looks_up_now errand name by) number = refl

pub onward_goes : (es : List Event) (outs : List Out) (s : State) (inner : Running) (outer : List Running) (next : Onward) (link : Client) (put : List Out) → Based es s → LivesSo es s → s.opens < 16384 →
    first_records (live_onward s next).kind (live_onward s next) link ≡ Some put → ScriptsAgree es outs (course.reaching s inner outer next) →
    Goes es outs (open_record (live_onward s next) ∷ put) (course.waiting (with_opened s (live_onward s next)) (record { script = inner; outer = outer; awaited = awaited_onward next (live_onward s next).number; job = job_onward next }))
onward_goes es outs s inner outer next link put b lives few first a =
    begins_open es outs s inner outer (live_onward s next) link put (awaited_onward next (live_onward s next).number) (job_onward next) (reached_under_way es outs s inner outer next b a) first (next_number s next) (next_stands es outs s inner outer next b a)
    (onward_awaits next (live_onward s next).number) (next_purpose es s next b lives few a.4)

pub no_way_goes : (es : List Event) (outs : List Out) (s : State) (inner : Running) (outer : List Running) (next : Onward) → Based es s → ScriptsAgree es outs (course.reaching s inner outer next) →
    Goes es outs (open_record (live_onward s next) ∷ end_record (live_onward s next) (no_route (live_onward s next).server) ∷ conclusion_records (fails (no_route (live_onward s next).server)))
    (course.running (with_one_made s) (with_result inner (no_route (live_onward s next).server)) outer)
no_way_goes es outs s inner outer next b a =
    finds_none es outs s inner outer (live_onward s next) (reached_under_way es outs s inner outer next b a) (next_stands es outs s inner outer next b a) (reached_keeps es next a.4) (reached_quiet es next a.4) b.silent

-- WHERE IT IS A DRIVE'S

same_next : (a b : Hooking) (x y : ℕ) → hooks_now a x ≡ hooks_now b y → b ≡ a
same_next a b x y is = sym (cc is)

-- the settings are the history's, and its unit has eight bytes
pub next_rightly : (es : List Event) (s : State) (next : Onward) → (so_far es).table ≡ s.table → IsToReach es next → HooksRightly es s next
next_rightly es s (fetches_now wanted) table r = tt
next_rightly es s (echoes_now server) table r = tt
next_rightly es s (looks_up_now errand name by) table r = tt
next_rightly es s (hooks_now hooking server) table (reaches_host errand name by address (shown, said, names) finds is) = absurd (not_hooked errand hooking server address (made es - 1) (so_far es) shown (moves es) name by is names)
next_rightly es s (hooks_now hooking server) table (reaches_place moved names more plain) = absurd plain
next_rightly es s (hooks_now hooking server) table (reaches_looked_up_disk r) = (table, subst (λ (h : Hooking). length h.disk.lun ≡ 8) (same_next hooking r.hooking server r.address r.is_next) r.unit)
next_rightly es s (hooks_now hooking server) table (reaches_disk r) = by (target_asks es (hooks_now hooking server) r)
  where
    by : AsksTarget (made es) (so_far es).table r.hooking (hooks_now hooking server) → ((so_far es).table ≡ s.table) × (length hooking.disk.lun ≡ 8)
    by (asks_server other is more) = (table, subst (λ (h : Hooking). length h.disk.lun ≡ 8) (same_next hooking r.hooking server other is) r.unit)
    by (asks_address name at is asked more) = absurd (let clash : hooks_now hooking server ≡ looks_up_now (hooks_then r.hooking) name at = is in cc clash)

-- the words of its command hook it
pub next_hooks : (es : List Event) (hooking : Hooking) (server : ℕ) → IsToReach es (hooks_now hooking server) → ComesTo es (made es) (hooks_disk hooking)
next_hooks es hooking server (reaches_host errand name by address (shown, said, names) finds is) = absurd (not_hooked errand hooking server address (made es - 1) (so_far es) shown (moves es) name by is names)
next_hooks es hooking server (reaches_place moved names more plain) = absurd plain
next_hooks es hooking server (reaches_looked_up_disk r) = subst (λ h. ComesTo es (made es) (hooks_disk h)) (same_next hooking r.hooking server r.address r.is_next) r.names
next_hooks es hooking server (reaches_disk r) = by (target_asks es (hooks_now hooking server) r)
  where
    by : AsksTarget (made es) (so_far es).table r.hooking (hooks_now hooking server) → ComesTo es (made es) (hooks_disk hooking)
    by (asks_server other is more) = subst (λ h. ComesTo es (made es) (hooks_disk h)) (same_next hooking r.hooking server other is) r.names
    by (asks_address name at is asked more) = absurd (let clash : hooks_now hooking server ≡ looks_up_now (hooks_then r.hooking) name at = is in cc clash)

-- THERE ARE TOO MANY

-- what is known where one more open isn't made
record IsFull (es : List Event) : Type 0 where
  opening : Opening
  opened : openings (made es - 1) es ≡ opening ∷ []
  kind : opening.kind ≡ 4
  concludes : conclusion_so_far (last_end es) es (so_far es) ≡ None
  leaves : left_table es (so_far es).table (so_far es).shown ≡ shown_table (so_far es).table (so_far es).shown
  holds : HoldsResult es full_opens
  ended : (cause : Cause) × (last_end es ≡ Some cause)

full_so : (es : List Event) (outs : List Out) (s : State) (inner : Running) (outer : List Running) (next : Onward) → IsFull es → ScriptsAgree es outs (course.reaching s inner outer next) →
    Goes es outs (result full_opens ∷ []) (course.running s (with_result inner full_opens) outer)
full_so es outs s inner outer next f a =
    let o = result full_opens in
    let there = made_some (command_open es) f.ended.0 f.ended.1 in
    let unread : (k : ℕ) (bytes : List ℕ) → BootsBy k es → HasRead k es bytes → ⊥ = no_block_later es there.0 there.1 (λ d bytes read. no_block_last es f.opening 4 f.opened f.kind refl bytes read) in
    let over_is : so_far (es ++ told (o ∷ [])) ≡ over_so_far None (so_far es) = result_so_far es full_opens None a.3 f.concludes f.leaves ∙ ap (over_so_far None) (hooks_failed es full_opens refl) in
    record {
      stands = (
        record {
          is_open = a.1.is_open;
          holds = subst (λ l. HoldsOf l es full_opens) (sym a.3) f.holds;
          hooks = λ none some disk answer. absurd (no_drive_last es f.opening 4 f.opened f.kind refl answer);
          reads = λ none k bytes boots_it read. absurd (unread k bytes boots_it read);
          frees = λ none some disk bytes read. absurd (no_block_last es f.opening 4 f.opened f.kind refl bytes read);
        },
        tt,
      );
      agrees = (
        script_as (es ++ told (o ∷ [])) inner (with_result inner full_opens) outer (record { same = refl; depth = refl; begun = refl }) (script_told es (o ∷ []) inner outer (tt, tt) refl a.0),
        subst (λ m. SettingsAre m s false) (sym over_is) (record { table = reached_keeps es next a.4 ∙ a.1.table; up = a.1.up; now = a.1.now; is_open = refl }),
        images_as es (es ++ told (o ∷ [])) outs (o ∷ []) s s (ap (λ (m : CommandsSoFar). m.images) over_is) refl (drives_still (so_far es) (so_far (es ++ told (o ∷ []))) s s (ap (λ (m : CommandsSoFar). m.hooked) over_is) refl refl refl a.2.drives) (tt, tt) a.2,
        ap (λ (m : CommandsSoFar). m.left) over_is ∙ a.3,
      );
    }

pub ended_well : (x : Option Cause) → came_ok x ≡ true → (cause : Cause) × (x ≡ Some cause)
ended_well None well = absurd (let no : false ≡ true = well in cc no)
ended_well (Some cause) well = (cause, refl)

-- the last open has looked up a host
full_concludes : (es : List Event) (name : List ℕ) (by address : ℕ) (shown : ShownWords) → FindsHost es name by address → (so_far es).shown ≡ Some shown → concluded_in (comes_by (made es) (so_far es) shown) ≡ None → conclusion_so_far (last_end es) es (so_far es) ≡ None
full_concludes es name by address shown finds said none = opened_no_file es (so_far es) shown said (ap (find opens_a_file) finds.opened ∙ ap (λ k. cond ((k == 1) || (k == 2)) (Some finds.opening) None) finds.kind) none

target_fits : (es : List Event) (hooking : Hooking) (next : Onward) → AsksTarget (made es) (so_far es).table hooking next → made es ≡ 16384 → ⊥
target_fits es hooking next (asks_server server is more) = more
target_fits es hooking next (asks_address name by is asked more) = more

-- no more opens may be made
pub full_goes : (es : List Event) (outs : List Out) (s : State) (inner : Running) (outer : List Running) (next : Onward) → Based es s → s.opens ≡ 16384 → ScriptsAgree es outs (course.reaching s inner outer next) →
    Goes es outs (result full_opens ∷ []) (course.running s (with_result inner full_opens) outer)
full_goes es outs s inner outer next b full a = by a.4
  where
    by : IsToReach es next → Goes es outs (result full_opens ∷ []) (course.running s (with_result inner full_opens) outer)
    by (reaches_place moved names more plain) = absurd (more (b.opens ∙ full))
    by (reaches_disk r) = absurd (target_fits es r.hooking next (target_asks es next r) (b.opens ∙ full))
    by (reaches_looked_up_disk r) = full_so es outs s inner outer next (record {
      opening = r.finds.opening;
      opened = r.finds.opened;
      kind = r.finds.kind;
      concludes = (let asks = disk_asks es r.hooking r.names in full_concludes es r.name r.by r.address asks.shown r.finds asks.said (after_none asks.opens (made es) (so_far es) asks.shown (moves es) asks.asks));
      leaves = disk_leaves es r.hooking r.names;
      holds = by_full_hooking (record { hooking = r.hooking; names = r.names }) r.finds.ended (record { opening = r.finds.opening; opened = r.finds.opened; kind_is = r.finds.kind }) (b.opens ∙ full) refl;
      ended = ended_well (last_end es) r.finds.ended;
    }) a
    by (reaches_host errand name server address (shown, said, names) finds is) = full_so es outs s inner outer next (record {
      opening = finds.opening;
      opened = finds.opened;
      kind = finds.kind;
      concludes = full_concludes es name server address shown finds said (after_none (made es - 1) (made es) (so_far es) shown (moves es) (subst IsAsking (sym names) tt));
      leaves = host_leaves es (so_far es) shown (moves es) errand name server said names;
      holds = by_full_next errand name server finds.ended (shown, said, names) (record { opening = finds.opening; opened = finds.opened; kind_is = finds.kind }) (b.opens ∙ full) refl;
      ended = ended_well (last_end es) finds.ended;
    }) a
