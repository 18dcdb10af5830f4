-- Which disk the words of a command hook, and that its result is Ok only where that has answered.
use Rattle.std.proofs.Common.{◌≡◌, ◌⊎◌, inl, inr, ℕ, ◌-◌, ◌==◌, nat_lt, Bool, true, false, cond, ◌||◌, List, [], ◌∷◌, ◌++◌, Option, Some, None, Result, Ok, Err, filter, find, length, nat_le, option_and_then, IsSome, refl, sym, ◌∙◌, ap, subst, arith, eq-eqb, ltb-false, lt-ltb}
use Rattle.std.specs.List.{list_any, AllByRecursion}
use Rattle.std.specs.Option.{option_map_or}
use Rattle.std.proofs.lemmas.Bool.{eqb-true, eqb-false}
use Rattle.std.proofs.lemmas.Option.{none-some}
use Rattle.nb_terms.specs.declared.cause.Cause.{Cause}
use Rattle.nb_defs.specs.Causes.{ok, is_ok_cause}
use Rattle.nb_tftp.proofs.BlockLemmas.{either_way}
use Rattle.nb_drivecmd.specs.declared.drive.Drive.{Drive}
use Rattle.nb_drivecmd.specs.declared.outcome.AfterHook.TheVariants.{Keep, Boot}
use Rattle.nb_drivecmd.specs.declared.outcome.Hooking.{Hooking}
use Rattle.nb_machine.specs.Drives.{DriveAnswer, last_read}
use Rattle.nb_drivecmd.specs.HookedDrives.{is_drive, with_hooked, drive_numbered}
use Rattle.nb_settings.specs.Tables.{TableLists}
use Rattle.nb_uri.specs.Addresses.{four_decimals}
use Rattle.nb_wire.specs.declared.address.Ip4.{Ip4}
use Rattle.nb_dns.specs.WrittenNames.{is_lookup_name}
use Rattle.nb_machine.specs.Effects.{Effect, says, asks, goes, sleeps, shuts_device, inquires, on_images, on_drives, hooks_disk, unhooks_drive, boots_drive, concludes_at_once, ShownWords, full_opens, next_open, next_look_up, next_by_name, next_at_host, is_host_text, next_at_target, full_drives}
use Rattle.nb_machine.specs.Errands.{Wanted, Errand, Onward, onward, hooks_then}
use Rattle.nb_machine.specs.Queries.{for_host, dns_in, with_domain, bad_name}
use Rattle.nb_machine.specs.Conclusions.{Conclusion}
use Rattle.nb_laws.specs.Events.{Event}
use Rattle.nb_laws.specs.Lists.{Opening, openings, live, made}
use Rattle.nb_laws.specs.Moves.{moves}
use Rattle.nb_laws.specs.Wanting.{wanted_by}
use Rattle.nb_laws.specs.Webs.{opens_a_file}
use Rattle.nb_laws.specs.CommandOpens.{command_open}
use Rattle.nb_laws.specs.Drives.{answered_so_far}
use Rattle.nb_laws.specs.CommandsSoFar.{so_far, comes_by, comes_after, ComesTo, hooking_in, hooking_so_far, booted_in, booted_drive, has_opening, drive_lives, wanted_so_far, arrived_so_far, file_fetched, concluded_by_open}
use Rattle.nb_laws.specs.Hookings.{is_on_open, hooked_drives, serves_drive, HasDriveAnswer, HooksDisk, KeepsDisk, BootsDisk, boots_hooking, boots_hooked, HasRead}
use Rattle.nb_laws.specs.Frames.{HoldsResult, by_words, by_jump, by_no_label, by_shut, by_sleep, by_failed_end, by_found, by_images, by_file, by_move, by_full_next, by_echo_of_host, by_unhook, by_no_hooking, by_full_hooking, by_hooking, by_booting, by_lost_drive}
use Rattle.nb_laws.proofs.Afterwards.{after_unhooked, after_by_words}
use Rattle.nb_laws.proofs.Settling.{comes_hooking}

-- THE WORDS

-- where the command comes to anything but a disk, its words hook none
unhooked_so : (es : List Event) (n : ℕ) (e : Effect) → hooking_in e ≡ None → ComesTo es n e → hooking_so_far (so_far es) ≡ None
unhooked_so es n e none (shown, said, is) =
    ap (λ (x : Option ShownWords). option_and_then (λ s. hooking_in (comes_by 0 (so_far es) s)) x) said ∙ after_unhooked n (so_far es) shown (moves es) e none is

-- where it comes to a disk, they hook it
pub hooks_so : (es : List Event) (h : HooksDisk es) → hooking_so_far (so_far es) ≡ Some h.hooking
hooks_so es h =
    let (shown, said, is) = h.names in
    ap (λ (x : Option ShownWords). option_and_then (λ s. hooking_in (comes_by 0 (so_far es) s)) x) said
    ∙ ap hooking_in (comes_hooking (made es) 0 (so_far es) shown (hooks_disk h.hooking) (λ no. no) (after_by_words (made es) (so_far es) shown (moves es) (hooks_disk h.hooking) (λ no. no) is))

wanted_hooks : (e : Effect) (o : Opening) (wanted : Wanted) → wanted_by e o ≡ Some wanted → hooking_in e ≡ None
wanted_hooks (hooks_disk hooking) o wanted is = absurd (none-some wanted is)
wanted_hooks (says outcome) o wanted is = refl
wanted_hooks (asks w) o wanted is = refl
wanted_hooks (goes name) o wanted is = refl
wanted_hooks (sleeps seconds) o wanted is = refl
wanted_hooks shuts_device o wanted is = refl
wanted_hooks (inquires q) o wanted is = refl
wanted_hooks (on_images c) o wanted is = refl
wanted_hooks (on_drives c) o wanted is = refl
wanted_hooks (unhooks_drive number cause) o wanted is = refl
wanted_hooks (boots_drive number) o wanted is = refl
wanted_hooks (concludes_at_once c) o wanted is = refl

-- nor do they where a file is fetched
file_unhooked : (es : List Event) (c : Conclusion) → concluded_by_open es (so_far es) ≡ Some c → hooking_so_far (so_far es) ≡ None
file_unhooked es c is = by (find opens_a_file (openings (made es - 1) es)) is
  where
    by_shown : (o : Opening) (wanted : Wanted) (shown : Option ShownWords) → (so_far es).shown ≡ shown → option_and_then (λ s. wanted_by (comes_after (made es - 1) (so_far es) s (moves es)) o) shown ≡ Some wanted → hooking_so_far (so_far es) ≡ None
    by_shown o wanted None said at = absurd (none-some wanted at)
    by_shown o wanted (Some shown) said at =
        ap (λ (x : Option ShownWords). option_and_then (λ s. hooking_in (comes_by 0 (so_far es) s)) x) said
        ∙ after_unhooked (made es - 1) (so_far es) shown (moves es) (comes_after (made es - 1) (so_far es) shown (moves es)) (wanted_hooks (comes_after (made es - 1) (so_far es) shown (moves es)) o wanted at) refl

    by_wanted : (o : Opening) (w : Option Wanted) → wanted_so_far (made es - 1) (so_far es) (moves es) o ≡ w → option_and_then (arrived_so_far (file_fetched (made es - 1) es o) (so_far es) o) w ≡ Some c → hooking_so_far (so_far es) ≡ None
    by_wanted o None at some = absurd (none-some c some)
    by_wanted o (Some wanted) at some = by_shown o wanted (so_far es).shown refl at

    by : (x : Option Opening) → option_and_then (λ o. option_and_then (arrived_so_far (file_fetched (made es - 1) es o) (so_far es) o) (wanted_so_far (made es - 1) (so_far es) (moves es) o)) x ≡ Some c → hooking_so_far (so_far es) ≡ None
    by None some = absurd (none-some c some)
    by (Some o) some = by_wanted o (wanted_so_far (made es - 1) (so_far es) (moves es) o) refl some

-- WHY NOTHING IS ASKED

abbrev IsBad : Result Onward Cause → Type 0
IsBad (Ok next) = Unit {0}
IsBad (Err cause) = is_ok_cause cause ≡ false

open_bad : (opens : ℕ) (next : Onward) → IsBad (next_open opens next)
open_bad opens next = by (opens == 16384)
  where
    by : (b : Bool) → IsBad (cond b (Err full_opens) (Ok next))
    by true = refl
    by false = tt

look_up_bad : (errand : Errand) (name : List ℕ) (by : Option Ip4) → IsBad (next_look_up errand name by)
look_up_bad errand name None = refl
look_up_bad errand name (Some by) = tt

host_bad : (opens : ℕ) (table : TableLists) (text : List ℕ) (errand : Errand) → IsBad (next_at_host opens table text errand)
host_bad opens table text errand = by (four_decimals text)
  where
    wanted : (name : List ℕ) (named full : Bool) → IsBad (cond named (cond full (Err full_opens) (next_look_up errand name (dns_in table))) (Err bad_name))
    wanted name true true = refl
    wanted name true false = look_up_bad errand name (dns_in table)
    wanted name false full = refl

    by : (x : Option ℕ) → IsBad (option_map_or (λ address. next_open opens (onward errand address)) x (next_by_name opens table errand (with_domain table text)))
    by None = wanted (with_domain table text) (is_lookup_name (with_domain table text)) (opens == 16384)
    by (Some address) = open_bad opens (onward errand address)

target_bad : (opens : ℕ) (table : TableLists) (drives : List Drive) (hooking : Hooking) → IsBad (next_at_target opens table drives hooking)
target_bad opens table drives hooking = by (is_host_text table hooking.disk.host) (nat_le 2 (length drives))
  where
    by : (text full : Bool) → IsBad (cond text (cond full (Err full_drives) (next_at_host opens table hooking.disk.host (hooks_then hooking))) (Err bad_name))
    by true true = refl
    by true false = host_bad opens table hooking.disk.host (hooks_then hooking)
    by false full = refl

none_asked : (opens : ℕ) (table : TableLists) (drives : List Drive) (hooking : Hooking) (cause : Cause) → next_at_target opens table drives hooking ≡ Err cause → is_ok_cause cause ≡ false
none_asked opens table drives hooking cause is = subst IsBad is (target_bad opens table drives hooking)

-- A RESULT

-- it keeps the disk, or has read its first block
pub data HooksHow (es : List Event) (hooking : Hooking) : Type 0 where
  hooks_kept : hooking.after ≡ Keep → HooksHow es hooking
  hooks_booted : (keep : Bool) (bytes : List ℕ) → hooking.after ≡ Boot keep → HasRead (made es - 1) es bytes → HooksHow es hooking

-- what a command has that hooks its disk with it
pub record Hooks (es : List Event) (cause : Cause) : Type 0 where
  pub disk : HooksDisk es
  pub has_open : IsSome (command_open es)
  pub answer : HasDriveAnswer es
  pub how : HooksHow es disk.hooking
  pub is : cause ≡ ok

-- where a block was read, the capacity is known
answer_by : (x : Option DriveAnswer) (bytes : List ℕ) → option_and_then last_read x ≡ Some bytes → (a : DriveAnswer) × (x ≡ Some a)
answer_by None bytes is = absurd (none-some bytes is)
answer_by (Some a) bytes is = (a, refl)

pub read_answers : (es : List Event) (bytes : List ℕ) → HasRead (made es - 1) es bytes → HasDriveAnswer es
read_answers es bytes r =
    let a = answer_by (answered_so_far (made es - 1) r.session es) bytes r.read in record { session = r.session; is = r.is; answer = a.0; answered = a.1 }

pub keeps_by : (es : List Event) (cause : Cause) (d : KeepsDisk es) → IsSome (command_open es) → HasDriveAnswer es → cause ≡ ok → Hooks es cause
keeps_by es cause d has answer is = record { disk = record { hooking = d.hooking; names = d.names }; has_open = has; answer = answer; how = hooks_kept d.keeps; is = is }

pub reads_by : (es : List Event) (cause : Cause) (d : BootsDisk es) (bytes : List ℕ) → IsSome (command_open es) → HasRead (made es - 1) es bytes → cause ≡ ok → Hooks es cause
reads_by es cause d bytes has read is =
    record { disk = record { hooking = d.hooking; names = d.names }; has_open = has; answer = read_answers es bytes read; how = hooks_booted d.keep bytes d.boots read; is = is }

-- words that hook a disk boot no hooked drive
boots_or_hooks : (e : Effect) (hooking : Hooking) → hooking_in e ≡ Some hooking → booted_in e ≡ None
boots_or_hooks (hooks_disk h) hooking is = refl
boots_or_hooks (boots_drive number) hooking is = absurd (none-some hooking is)
boots_or_hooks (says outcome) hooking is = refl
boots_or_hooks (asks w) hooking is = refl
boots_or_hooks (goes name) hooking is = refl
boots_or_hooks (sleeps seconds) hooking is = refl
boots_or_hooks shuts_device hooking is = refl
boots_or_hooks (inquires q) hooking is = refl
boots_or_hooks (on_images c) hooking is = refl
boots_or_hooks (on_drives c) hooking is = refl
boots_or_hooks (unhooks_drive number cause) hooking is = refl
boots_or_hooks (concludes_at_once c) hooking is = refl

pub hooks_boots_none : (es : List Event) (hooking : Hooking) → hooking_so_far (so_far es) ≡ Some hooking → booted_drive (so_far es) ≡ None
hooks_boots_none es hooking is = by (so_far es).shown is
  where
    by : (x : Option ShownWords) → option_and_then (λ s. hooking_in (comes_by 0 (so_far es) s)) x ≡ Some hooking →
        option_and_then (λ number. drive_numbered number (so_far es).drives) (option_and_then (λ s. booted_in (comes_by 0 (so_far es) s)) x) ≡ None
    by None at = refl
    by (Some shown) at = ap (option_and_then (λ number. drive_numbered number (so_far es).drives)) (boots_or_hooks (comes_by 0 (so_far es) shown) hooking at)

not_hooking : (x : Option Hooking) (hooking : Hooking) → x ≡ None → x ≡ Some hooking → ⊥
not_hooking x hooking none some = none-some hooking (sym none ∙ some)

not_ok : (cause why : Cause) → cause ≡ why → is_ok_cause why ≡ false → is_ok_cause cause ≡ true → ⊥
not_ok cause why is bad well = let no : false ≡ true = sym bad ∙ sym (ap is_ok_cause is) ∙ well in cc no

-- a command whose words hook a disk ends Ok only by that
pub hooks_by : (es : List Event) (cause : Cause) (hooking : Hooking) → HoldsResult es cause → hooking_so_far (so_far es) ≡ Some hooking → is_ok_cause cause ≡ true → Hooks es cause
hooks_by es cause hooking (by_words o none comes is) some well = absurd (not_hooking _ hooking (unhooked_so es (made es) (says o) refl comes) some)
hooks_by es cause hooking (by_jump name line none comes there is) some well = absurd (not_hooking _ hooking (unhooked_so es (made es) (goes name) refl comes) some)
hooks_by es cause hooking (by_no_label name none comes nowhere is) some well = absurd (not_hooking _ hooking (unhooked_so es (made es) (goes name) refl comes) some)
hooks_by es cause hooking (by_shut none comes is) some well = absurd (not_hooking _ hooking (unhooked_so es (made es) shuts_device refl comes) some)
hooks_by es cause hooking (by_sleep seconds none comes due is) some well = absurd (not_hooking _ hooking (unhooked_so es (made es) (sleeps seconds) refl comes) some)
hooks_by es cause hooking (by_failed_end end bad) some well = absurd (let no : false ≡ true = sym bad ∙ well in cc no)
hooks_by es cause hooking (by_found query last fine comes is) some well = absurd (not_hooking _ hooking (unhooked_so es (made es - 1) (inquires query) refl comes) some)
hooks_by es cause hooking (by_images c none comes gives) some well = absurd (not_hooking _ hooking (unhooked_so es (made es) (concludes_at_once c) refl comes) some)
hooks_by es cause hooking (by_file c fine comes gives) some well = absurd (not_hooking _ hooking (file_unhooked es c comes) some)
hooks_by es cause hooking (by_move o moved comes is) some well = absurd (not_hooking _ hooking (unhooked_so es (made es) (says o) refl comes) some)
hooks_by es cause hooking (by_full_next errand name by fine comes kind full is) some well = absurd (not_hooking _ hooking (unhooked_so es (made es - 1) (inquires (for_host errand name by)) refl comes) some)
hooks_by es cause hooking (by_echo_of_host name by fine comes kind is) some well = absurd (not_hooking _ hooking (unhooked_so es (made es - 1) (inquires (for_host _ name by)) refl comes) some)
hooks_by es cause hooking (by_unhook number why none comes is) some well = absurd (not_hooking _ hooking (unhooked_so es (made es) (unhooks_drive number why) refl comes) some)
hooks_by es cause hooking (by_no_hooking disk none comes err) some well =
    absurd (let no : false ≡ true = sym (none_asked (made es) (so_far es).table (hooked_drives es) disk cause err) ∙ well in cc no)
hooks_by es cause hooking (by_full_hooking disk fine kind full is) some well = absurd (not_ok cause full_opens is refl well)
hooks_by es cause hooking (by_hooking disk has answer is) some well = keeps_by es cause disk has answer is
hooks_by es cause hooking (by_booting k bytes (boots_hooking disk has own) read is) some well = reads_by es cause disk bytes has (subst (λ j. HasRead j es bytes) own read) is
hooks_by es cause hooking (by_booting k bytes (boots_hooked drive none names own) read is) some well = absurd (none-some drive (sym (hooks_boots_none es hooking some) ∙ names))
hooks_by es cause hooking (by_lost_drive drive none names ended) some well = absurd (none-some drive (sym (hooks_boots_none es hooking some) ∙ names))

-- THE DRIVES OF AN OPEN

-- a drive was hooked on open k
abbrev pub HookedOn : ℕ → List Drive → Type 0
HookedOn k drives = list_any (is_on_open k) drives ≡ true

later_true : (a b : Bool) → b ≡ true → (a || b) ≡ true
later_true true b e = refl
later_true false b e = e

any_front : (f : Drive → Bool) (xs ys : List Drive) → list_any f xs ≡ true → list_any f (xs ++ ys) ≡ true
any_front f [] ys e = absurd (let no : false ≡ true = e in cc no)
any_front f (x ∷ xs) ys e = either_way (f x) (λ here. ap (λ b. b || list_any f (xs ++ ys)) here) (λ other. later_true (f x) (list_any f (xs ++ ys)) (any_front f xs ys (ap (λ b. b || list_any f xs) (sym other) ∙ e)))

any_back : (f : Drive → Bool) (xs ys : List Drive) → list_any f ys ≡ true → list_any f (xs ++ ys) ≡ true
any_back f [] ys e = e
any_back f (x ∷ xs) ys e = later_true (f x) (list_any f (xs ++ ys)) (any_back f xs ys e)

one_more : (k : ℕ) (x : Drive) (b : Bool) (ys : List Drive) → HookedOn k ys → HookedOn k (cond b (x ∷ ys) ys)
one_more k x true ys some = later_true (is_on_open k x) (list_any (is_on_open k) ys) some
one_more k x false ys some = some

-- an open that lives is a drive's, if one was hooked on it
alive : (k : ℕ) (es : List Event) (o : Opening) → live k es ≡ o ∷ [] → (d : Drive) → is_on_open k d ≡ true → drive_lives es d ≡ true
alive k es o lives d on = ap (λ j. has_opening (live j es)) (eqb-true d.open_number k on) ∙ ap has_opening lives

pub serves : (k : ℕ) (es : List Event) (o : Opening) → live k es ≡ o ∷ [] → HookedOn k (so_far es).hooked → serves_drive k es ≡ true
serves k es o lives hooked = by (so_far es).hooked hooked
  where
    by : (ds : List Drive) → HookedOn k ds → list_any (is_on_open k) (filter (drive_lives es) ds) ≡ true
    by [] h = absurd (let no : false ≡ true = h in cc no)
    by (d ∷ ds) h = either_way (is_on_open k d)
        (λ on. ap (λ b. list_any (is_on_open k) (cond b (d ∷ filter (drive_lives es) ds) (filter (drive_lives es) ds))) (alive k es o lives d on) ∙ ap (λ b. b || list_any (is_on_open k) (filter (drive_lives es) ds)) on)
        (λ other. one_more k d (drive_lives es d) (filter (drive_lives es) ds) (by ds (ap (λ b. b || list_any (is_on_open k) ds) (sym other) ∙ h)))

-- WITH ANOTHER DRIVE

-- the drive that is hooked is on its open
pub hooked_itself : (d : Drive) (ds : List Drive) → HookedOn d.open_number (with_hooked d ds)
hooked_itself d ds =
    any_back (is_on_open d.open_number) (filter (λ other. nat_lt other.number d.number) ds) (d ∷ filter (λ other. nat_lt d.number other.number) ds)
    (ap (λ b. b || list_any (is_on_open d.open_number) (filter (λ other. nat_lt d.number other.number) ds)) (eq-eqb d.open_number d.open_number refl))

-- and displaces none of an open that lives, where none of its number does
abbrev IsElse : ℕ → ℕ → Drive → Type 0
IsElse k number d = is_on_open k d ≡ true → is_drive number d ≡ false

beside_one : (k : ℕ) (es : List Event) (o : Opening) (number : ℕ) → live k es ≡ o ∷ [] → (ds : List Drive) → list_any (is_drive number) (filter (drive_lives es) ds) ≡ false → AllByRecursion (IsElse k number) ds
beside_one k es o number lives [] free = tt
beside_one k es o number lives (d ∷ ds) free = (here, beside_one k es o number lives ds (rest (drive_lives es d) free))
  where
    first : (a b : Bool) → (a || b) ≡ false → a ≡ false
    first true b e = e
    first false b e = refl

    second : (a b : Bool) → (a || b) ≡ false → b ≡ false
    second true b e = absurd (let no : true ≡ false = e in cc no)
    second false b e = e

    here : IsElse k number d
    here on = first (is_drive number d) (list_any (is_drive number) (filter (drive_lives es) ds))
        (sym (ap (λ b. list_any (is_drive number) (cond b (d ∷ filter (drive_lives es) ds) (filter (drive_lives es) ds))) (alive k es o lives d on)) ∙ free)

    rest : (b : Bool) → list_any (is_drive number) (cond b (d ∷ filter (drive_lives es) ds) (filter (drive_lives es) ds)) ≡ false → list_any (is_drive number) (filter (drive_lives es) ds) ≡ false
    rest true e = second (is_drive number d) (list_any (is_drive number) (filter (drive_lives es) ds)) e
    rest false e = e

-- one of another number stands below or above
parted : (n m : ℕ) → (n == m) ≡ false → (nat_lt n m ≡ true) ⊎ (nat_lt m n ≡ true)
parted n m other = either_way (nat_lt n m) (λ below. inl below) (λ no. inr (lt-ltb m n (omega (arith, ltb-false n m no, eqb-false n m other))))

abbrev KeptBeside : ℕ → Drive → List Drive → Type 0
KeptBeside k d ds = HookedOn k (filter (λ other. nat_lt other.number d.number) ds) ⊎ HookedOn k (filter (λ other. nat_lt d.number other.number) ds)

one_taken : (k : ℕ) (x : Drive) (b : Bool) (ys : List Drive) → is_on_open k x ≡ true → b ≡ true → HookedOn k (cond b (x ∷ ys) ys)
one_taken k x true ys on is = ap (λ z. z || list_any (is_on_open k) ys) on
one_taken k x false ys on is = absurd (let no : false ≡ true = is in cc no)

kept_beside : (k : ℕ) (d : Drive) (ds : List Drive) → AllByRecursion (IsElse k d.number) ds → HookedOn k ds → KeptBeside k d ds
kept_beside k d [] each h = absurd (let no : false ≡ true = h in cc no)
kept_beside k d (x ∷ xs) each h = either_way (is_on_open k x)
    (λ on. elim (parted x.number d.number (each.0 on)) [
      | inl below ↦ inl (one_taken k x (nat_lt x.number d.number) (filter (λ other. nat_lt other.number d.number) xs) on below)
      | inr above ↦ inr (one_taken k x (nat_lt d.number x.number) (filter (λ other. nat_lt d.number other.number) xs) on above)
    ])
    (λ other. elim (kept_beside k d xs each.1 (ap (λ b. b || list_any (is_on_open k) xs) (sym other) ∙ h)) [
      | inl below ↦ inl (one_more k x (nat_lt x.number d.number) (filter (λ other. nat_lt other.number d.number) xs) below)
      | inr above ↦ inr (one_more k x (nat_lt d.number x.number) (filter (λ other. nat_lt d.number other.number) xs) above)
    ])

pub hooked_beside : (k : ℕ) (es : List Event) (o : Opening) (d : Drive) → live k es ≡ o ∷ [] → list_any (is_drive d.number) (hooked_drives es) ≡ false → HookedOn k (so_far es).hooked → HookedOn k (with_hooked d (so_far es).hooked)
hooked_beside k es o d lives free hooked = elim (kept_beside k d (so_far es).hooked (beside_one k es o d.number lives (so_far es).hooked free) hooked) [
  | inl below ↦ any_front (is_on_open k) (filter (λ other. nat_lt other.number d.number) (so_far es).hooked) (d ∷ filter (λ other. nat_lt d.number other.number) (so_far es).hooked) below
  | inr above ↦ any_back (is_on_open k) (filter (λ other. nat_lt other.number d.number) (so_far es).hooked) (d ∷ filter (λ other. nat_lt d.number other.number) (so_far es).hooked)
      (later_true (is_on_open k d) (list_any (is_on_open k) (filter (λ other. nat_lt d.number other.number) (so_far es).hooked)) above)
]
