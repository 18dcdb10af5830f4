-- The open that a command makes next: its number, its kind, and what a drive's login is begun with.
use Rattle.std.proofs.Common.{◌≡◌, ℕ, ◌-◌, List, [], ◌∷◌, ◌++◌, length, take, drop, refl, sym, ◌∙◌, ap, subst, append_assoc, arith, Bool}
use Rattle.std.proofs.lemmas.List.{length-append}
use Rattle.nb_settings.specs.Tables.{TableLists}
use Rattle.nb_uri.specs.declared.target.UriTarget.{UriTarget}
use Rattle.nb_uri.specs.declared.target.UriTarget.TheVariants.{Tftp, Http, Iscsi}
use Rattle.nb_drivecmd.specs.declared.disk_names.NamedDisk.{NamedDisk}
use Rattle.nb_drivecmd.specs.declared.outcome.Hooking.{Hooking}
use Rattle.nb_drivelogin.specs.DriveLogins.{login_by}
use Rattle.nb_machine.specs.Effects.{Effect, says, asks, goes, sleeps, shuts_device, inquires, on_images, on_drives, hooks_disk, unhooks_drive, boots_drive, concludes_at_once}
use Rattle.nb_machine.specs.Queries.{Query, for_lease, for_echo, for_host, for_address}
use Rattle.nb_machine.specs.Errands.{Wanted, Onward, fetches_now, echoes_now, hooks_now, looks_up_now}
use Rattle.nb_machine.specs.Findings.{open_words}
use Rattle.nb_machine.specs.Lives.{Live}
use Rattle.nb_machine.specs.States.{State, with_settings}
use Rattle.nb_machine.specs.Scripts.{Job, opens, doing_by, transfer_kind, transfer_for, drive_for, live_for, live_onward, net0_mac}
use Rattle.nb_machine.specs.Courses as course
use Rattle.nb_machine.specs.Courses.{Standing}
use Rattle.nb_laws.specs.CommandsSoFar.{so_far}
use Rattle.nb_laws.specs.Drives.{disk_at}
use Rattle.nb_laws.specs.Events.{Event}
use Rattle.nb_openlaws.specs.Standings.{live_opening, IsKindBy}
use Rattle.nb_openlaws.proofs.OpenStates.{IsNext, IsLoginBy, SaysSettings}

pub query_next : (s : State) (q : Query) → IsNext s (live_for s q)
query_next s for_lease = record { number_is = refl; device_is = refl; since_is = refl; bare = refl; kind_is = (refl, refl, refl, refl, refl); login = tt }
query_next s (for_echo server) = record { number_is = refl; device_is = refl; since_is = refl; bare = refl; kind_is = (refl, refl); login = tt }
query_next s (for_host errand name by) = record { number_is = refl; device_is = refl; since_is = refl; bare = refl; kind_is = (refl, refl); login = tt }
query_next s (for_address setting name by) = record { number_is = refl; device_is = refl; since_is = refl; bare = refl; kind_is = (refl, refl); login = tt }

pub transfer_next : (s : State) (wanted : Wanted) → IsNext s (transfer_for s wanted)
transfer_next s wanted = record { number_is = refl; device_is = refl; since_is = refl; bare = refl; kind_is = by wanted.asking.target; login = none wanted.asking.target }
  where
    by : (target : UriTarget) → IsKindBy (record { mac = net0_mac s.devices; identity = s.machine }) s.opens (transfer_kind s target) (live_opening (transfer_for s wanted))
    by (Tftp name port path whole) = tt
    by (Http name port path whole) = refl
    by (Iscsi name port lun disk whole) = tt

    none : (target : UriTarget) → IsLoginBy s (transfer_kind s target) s.opens (live_opening (transfer_for s wanted))
    none (Tftp name port path whole) = tt
    none (Http name port path whole) = tt
    none (Iscsi name port lun disk whole) = tt

-- a disk's unit has eight bytes
abbrev pub HasUnit : Onward → Type 0
HasUnit (fetches_now wanted) = Unit {0}
HasUnit (echoes_now server) = Unit {0}
HasUnit (hooks_now hooking server) = length hooking.disk.lun ≡ 8
HasUnit (looks_up_now errand name by) = Unit {0}

front_taken : (xs ys : List ℕ) → take (length xs) (xs ++ ys) ≡ xs
front_taken [] ys = refl
front_taken (x ∷ xs) ys = ap (λ z. x ∷ z) (front_taken xs ys)

front_dropped : (xs ys : List ℕ) → drop (length xs) (xs ++ ys) ≡ ys
front_dropped [] ys = refl
front_dropped (x ∷ xs) ys = front_dropped xs ys

name_back : (name lun : List ℕ) → length lun ≡ 8 → take (length (name ++ 0 ∷ lun) - 9) (name ++ 0 ∷ lun) ≡ name
name_back name lun unit =
    let many = length-append name (0 ∷ lun) in
    ap (λ n. take n (name ++ 0 ∷ lun)) (let at : length (name ++ 0 ∷ lun) - 9 ≡ length name = omega (arith, many, unit) in at) ∙ front_taken name (0 ∷ lun)

unit_back : (name lun : List ℕ) → length lun ≡ 8 → drop (length (name ++ 0 ∷ lun) - 8) (name ++ 0 ∷ lun) ≡ lun
unit_back name lun unit =
    let many = length-append name (0 ∷ lun) in
    let two = length-append name (0 ∷ []) in
    ap (λ n. drop n (name ++ 0 ∷ lun)) (let at : length (name ++ 0 ∷ lun) - 8 ≡ length (name ++ 0 ∷ []) = omega (arith, many, two, unit) in at)
    ∙ ap (λ z. drop (length (name ++ 0 ∷ [])) z) (sym (append_assoc name (0 ∷ []) lun)) ∙ front_dropped (name ++ 0 ∷ []) lun

-- the login of a disk is that of its open's target
login_back : (disk : NamedDisk) (words : List ℕ) (table : TableLists) → length disk.lun ≡ 8 → login_by disk words table ≡ login_by (disk_at disk.port (disk.name ++ 0 ∷ disk.lun)) words table
unfolding login_by
login_back disk words table unit = rw (name_back disk.name disk.lun unit, unit_back disk.name disk.lun unit) refl

drive_next : (s : State) (hooking : Hooking) (server : ℕ) → length hooking.disk.lun ≡ 8 → IsNext s (drive_for s hooking server)
drive_next s hooking server unit =
    record { number_is = refl; device_is = refl; since_is = refl; bare = refl; kind_is = refl; login = login_back hooking.disk (open_words s.machine s.opens) s.table unit }

pub onward_next : (s : State) (next : Onward) → HasUnit next → IsNext s (live_onward s next)
onward_next s (fetches_now wanted) unit = transfer_next s wanted
onward_next s (echoes_now server) unit = query_next s (for_echo server)
onward_next s (hooks_now hooking server) unit = drive_next s hooking server unit
onward_next s (looks_up_now errand name by) unit = query_next s (for_host errand name by)

-- where a drive's open is next, the history says the settings
abbrev pub HooksRightly : List Event → State → Onward → Type 0
HooksRightly es s (fetches_now wanted) = Unit {0}
HooksRightly es s (echoes_now server) = Unit {0}
HooksRightly es s (hooks_now hooking server) = ((so_far es).table ≡ s.table) × (length hooking.disk.lun ≡ 8)
HooksRightly es s (looks_up_now errand name by) = Unit {0}

has_unit : (es : List Event) (s : State) (next : Onward) → HooksRightly es s next → HasUnit next
has_unit es s (fetches_now wanted) h = tt
has_unit es s (echoes_now server) h = tt
has_unit es s (hooks_now hooking server) h = h.1
has_unit es s (looks_up_now errand name by) h = tt

pub onward_settings : (es : List Event) (s : State) (next : Onward) → HooksRightly es s next → SaysSettings es s (live_onward s next).kind
onward_settings es s (fetches_now wanted) h = by wanted.asking.target
  where
    by : (target : UriTarget) → SaysSettings es s (transfer_kind s target)
    by (Tftp name port path whole) = tt
    by (Http name port path whole) = tt
    by (Iscsi name port lun disk whole) = tt
onward_settings es s (echoes_now server) h = tt
onward_settings es s (hooks_now hooking server) h = h.0
onward_settings es s (looks_up_now errand name by) h = tt

-- the next open of this place in a course
pub onward_so : (es : List Event) (s : State) (next : Onward) → HooksRightly es s next → IsNext s (live_onward s next)
onward_so es s next h = onward_next s next (has_unit es s next h)

-- of where a course stands
abbrev pub MayHook : List Event → Standing → Type 0
MayHook es (course.reaching s inner outer next) = HooksRightly es s next
MayHook es course.ready = Unit {0}
MayHook es (course.running s inner outer) = Unit {0}
MayHook es (course.waiting s w) = Unit {0}
MayHook es (course.yielded s inner outer) = Unit {0}
MayHook es (course.handing s rest) = Unit {0}
MayHook es (course.left s outer cause) = Unit {0}
MayHook es (course.handed_off s) = Unit {0}
MayHook es (course.stopped s) = Unit {0}

-- a command at once opens no drive
pub opens_settings : (es : List Event) (s t : State) (table : TableLists) (up : Bool) (e : Effect) (l : Live) (job : Job) → doing_by s table up e ≡ opens t l job → SaysSettings es t l.kind
opens_settings es s t table up (asks wanted) l job e =
    let it : transfer_for s wanted ≡ l = cc in subst (λ (z : Live). SaysSettings es t z.kind) it (by wanted.asking.target)
  where
    by : (target : UriTarget) → SaysSettings es t (transfer_kind s target)
    by (Tftp name port path whole) = tt
    by (Http name port path whole) = tt
    by (Iscsi name port lun disk whole) = tt
opens_settings es s t table up (inquires q) l job e =
    let it : live_for (with_settings s table up) q ≡ l = cc in subst (λ (z : Live). SaysSettings es t z.kind) it (by q)
  where
    by : (query : Query) → SaysSettings es t (live_for (with_settings s table up) query).kind
    by for_lease = tt
    by (for_echo server) = tt
    by (for_host errand name server) = tt
    by (for_address setting name server) = tt
opens_settings es s t table up (says c) l job e = absurd (cc)
opens_settings es s t table up (goes name) l job e = absurd (cc)
opens_settings es s t table up (sleeps seconds) l job e = absurd (cc)
opens_settings es s t table up shuts_device l job e = absurd (cc)
opens_settings es s t table up (on_images c) l job e = absurd (cc)
opens_settings es s t table up (on_drives c) l job e = absurd (cc)
opens_settings es s t table up (hooks_disk hooking) l job e = absurd (cc)
opens_settings es s t table up (unhooks_drive number cause) l job e = absurd (cc)
opens_settings es s t table up (boots_drive number) l job e = absurd (cc)
opens_settings es s t table up (concludes_at_once c) l job e = absurd (cc)
