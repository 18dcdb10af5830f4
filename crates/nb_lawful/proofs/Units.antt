-- The unit of a disk that words name has eight bytes.
use Rattle.std.proofs.Common.{◌≡◌, ℕ, zero, suc, Bool, true, false, cond, List, [], ◌∷◌, length, Option, Some, None, Result, Ok, Err, refl, sym, ◌∙◌, ap, subst, arith, length-append, ◌==◌, ◌*◌, replicate, codes, drop}
use Rattle.std.specs.Option.{option_map, option_and_then}
use Rattle.std.specs.List.{flat_map}
use Rattle.std.specs.Prelude.{nat_lt, unwrap_or}
use Rattle.std.specs.Str.{is_utf8, bytes_eq}
use Rattle.std.proofs.lemmas.Option.{none-some}
use Rattle.std.specs.Int.{to_be_bytes, w16}
use Rattle.nb_drivecmd.specs.declared.commands.DriveCommand.{DriveCommand}
use Rattle.nb_drivecmd.specs.declared.commands.DriveCommand.TheVariants as command
use Rattle.nb_drivecmd.specs.declared.error.DriveFailure.{DriveFailure}
use Rattle.nb_drivecmd.specs.declared.outcome.DriveOutcome.{DriveOutcome}
use Rattle.nb_drivecmd.specs.declared.outcome.DriveOutcome.TheVariants as outcome
use Rattle.nb_drivecmd.specs.declared.outcome.Hooking.{Hooking}
use Rattle.nb_drivecmd.specs.DiskNames.{disk_by}
use Rattle.nb_drivecmd.specs.DriveEffect.{drive_effect, outcome_for, hooks, letting_go, unhooked_by, given_drive}
use Rattle.nb_drivecmd.specs.declared.drive.Drive.{Drive}
use Rattle.nb_drivecmd.specs.declared.error.DriveFailure.TheVariants as failure
use Rattle.nb_drivecmd.specs.declared.error.DriveFailure.TheVariants.{NoDrive}
use Rattle.nb_drivecmd.specs.declared.disk_names.NamedDisk.{NamedDisk}
use Rattle.nb_drivecmd.specs.DriveNumbers.{chosen_drive}
use Rattle.nb_drivecmd.specs.declared.outcome.AfterHook.{AfterHook}
use Rattle.nb_uri.specs.declared.target.UriTarget.{UriTarget}
use Rattle.nb_uri.specs.declared.target.UriTarget.TheVariants.{Tftp, Http, Iscsi}
use Rattle.nb_uri.specs.declared.target.UriError.{UriError}
use Rattle.nb_uri.specs.declared.target.UriError.TheVariants.{BadUri, NoScheme, TooLong}
use Rattle.nb_uri.specs.IscsiNames.{IscsiTarget, is_iscsi, iscsi_target, iscsi_lun, iscsi_port, lun_word, lun_words, lun_groups, fields_target}
use Rattle.nb_uri.specs.Resolutions.{resolution, disk_target, url_target, host_target, scheme_target, url_of, whole_of, tftp_file, tftp_path, http_file, http_path, has_zero}
use Rattle.nb_uri.specs.Pieces.{cut_at_first}
use Rattle.url.specs.Host.{host_text}
use Rattle.url.specs.Parts.{Parts, nonempty_host}
use Rattle.nb_machine.specs.Effects.{Effect, hooks_disk, drive_answer_effect, drives_effect, Surroundings, ShownWords}
use Rattle.nb_machine.proofs.Eithers.{images_either}
use Rattle.nb_command.specs.Bases.{base_by}
use Rattle.nb_laws.specs.CommandsSoFar.{CommandsSoFar, comes_by, hooking_in, surroundings_in}
use Rattle.nb_laws.proofs.Settling.{WordsAre, images_words, drives_words, other_words, words_are, images_come, drives_come, plain_comes, IsPlain}

-- what a text names, if it is a disk
abbrev HasUnitOf : Result UriTarget UriError → Type 0
HasUnitOf (Ok (Tftp host port path whole)) = Unit {0}
HasUnitOf (Ok (Http host port path whole)) = Unit {0}
HasUnitOf (Ok (Iscsi host port lun name whole)) = length lun ≡ 8
HasUnitOf (Err why) = Unit {0}

either : (b : Bool) (x y : Result UriTarget UriError) → HasUnitOf x → HasUnitOf y → HasUnitOf (cond b x y)
either true x y p q = p
either false x y p q = q

-- ITS WORDS

abbrev IsWhole : Option (List ℕ) → Type 0
IsWhole None = Unit {0}
IsWhole (Some unit) = length unit ≡ 8

abbrev AreWords : ℕ → Option (List ℕ) → Type 0
AreWords count None = Unit {0}
AreWords count (Some words) = length words ≡ count

abbrev no_words : ℕ → List ℕ
no_words count = replicate count 0

zeros : (count : ℕ) → length (no_words count) ≡ count
zeros zero = refl
zeros (suc count) = ap suc (zeros count)

one_more : (count word : ℕ) (o : Option (List ℕ)) → AreWords count o → AreWords (suc count) (option_map (λ words. word ∷ words) o)
one_more count word None h = tt
one_more count word (Some words) h = ap suc h

next_word : (count : ℕ) (rest : Option (List ℕ)) (o : Option ℕ) → AreWords count rest → AreWords (suc count) (option_and_then (λ word. option_map (λ words. word ∷ words) rest) o)
next_word count rest None h = tt
next_word count rest (Some word) h = one_more count word rest h

all_words : (count : ℕ) (groups : List (List ℕ)) → AreWords count (lun_words count groups)
all_words count [] = zeros count
all_words zero (group ∷ groups) = tt
all_words (suc count) (group ∷ groups) = next_word count (lun_words count groups) (lun_word group) (all_words count groups)

two_bytes : (word : ℕ) → length (to_be_bytes w16 word) ≡ 2
two_bytes word = refl

all_bytes : (words : List ℕ) → length (flat_map (to_be_bytes w16) words) ≡ 2 * length words
all_bytes [] = refl
all_bytes (word ∷ words) =
    let rest = all_bytes words in
    let two = two_bytes word in
    let both = length-append (to_be_bytes w16 word) (flat_map (to_be_bytes w16) words) in
    omega (arith, rest, two, both)

whole_unit : (o : Option (List ℕ)) → AreWords 4 o → IsWhole (option_map (flat_map (to_be_bytes w16)) o)
whole_unit None h = tt
whole_unit (Some words) h = let all = all_bytes words in omega (arith, all, h)

whole_lun : (text : List ℕ) → IsWhole (iscsi_lun text)
whole_lun text = whole_unit (lun_words 4 (lun_groups (cond (length text == 0) None (Some text)))) (all_words 4 (lun_groups (cond (length text == 0) None (Some text))))

-- THE TARGET

abbrev IsDisk : Option IscsiTarget → Type 0
IsDisk None = Unit {0}
IsDisk (Some disk) = length disk.lun ≡ 8

and_then : {A : Type 0} (f : A → Option IscsiTarget) → ((a : A) → IsDisk (f a)) → (o : Option A) → IsDisk (option_and_then f o)
and_then {A} f h None = tt
and_then {A} f h (Some a) = h a

with_unit : (server target : List ℕ) (number : ℕ) (o : Option (List ℕ)) → IsWhole o → IsDisk (option_map (λ unit. record { server = server; port = number; lun = unit; target = target }) o)
with_unit server target number None h = tt
with_unit server target number (Some unit) h = h

if_named : (b : Bool) (o : Option IscsiTarget) → IsDisk o → IsDisk (cond b o None)
if_named true o h = h
if_named false o h = tt

whole_fields : (server protocol port lun target : List ℕ) → IsDisk (fields_target server protocol port lun target)
whole_fields server protocol port lun target = if_named _ _ (and_then _ (λ number. with_unit server target number (iscsi_lun lun) (whole_lun lun)) (iscsi_port port))

whole_target : (text : List ℕ) → IsDisk (iscsi_target text)
whole_target text = and_then _ (λ one. and_then _ (λ two. and_then _ (λ three. and_then _ (λ four. whole_fields one.0 two.0 three.0 four.0 four.1) (cut_at_first 58 three.1)) (cut_at_first 58 two.1)) (cut_at_first 58 one.1)) (cut_at_first 58 text)

of_disk : (text : List ℕ) (o : Option IscsiTarget) → IsDisk o → HasUnitOf (disk_target text o)
of_disk text None h = tt
of_disk text (Some disk) h = either (nat_lt 16384 (length text)) (Err TooLong) (Ok (Iscsi disk.server disk.port disk.lun disk.target text)) tt h

-- a URL names none
of_scheme : (url : Parts) (host : List ℕ) → HasUnitOf (scheme_target url host)
of_scheme url host = either (bytes_eq url.scheme (codes "tftp")) (tftp_file url host) _
    (either (has_zero (tftp_path url)) (Err BadUri) _ tt (either _ (Err TooLong) (Ok (Tftp host (unwrap_or url.port 69) (tftp_path url) (whole_of url))) tt tt))
    (either (bytes_eq url.scheme (codes "http")) (http_file url host) (Err NoScheme) (either _ (Err TooLong) (Ok (Http host (unwrap_or url.port 80) (http_path url) (whole_of url))) tt tt) tt)

of_host : (url : Parts) (o : Option (List ℕ)) → HasUnitOf (host_target url o)
of_host url None = tt
of_host url (Some host) = of_scheme url host

of_url : (o : Option Parts) → HasUnitOf (url_target o)
of_url None = tt
of_url (Some url) = of_host url (option_map host_text (nonempty_host url))

resolved_unit : (base : Option (List ℕ)) (text : List ℕ) → HasUnitOf (resolution base text)
unfolding resolution
resolved_unit base text = either (is_utf8 text) _ (Err BadUri) (either (is_iscsi text) _ _ (of_disk text (iscsi_target (drop 6 text)) (whole_target (drop 6 text))) (of_url (url_of base text))) tt

-- a drive's outcome, if a disk is hooked
abbrev HooksWhole : Result DriveOutcome DriveFailure → Type 0
HooksWhole (Ok (outcome.Hook hooking)) = length hooking.disk.lun ≡ 8
HooksWhole (Ok (outcome.Boot number keep)) = Unit {0}
HooksWhole (Ok (outcome.Unhook number)) = Unit {0}
HooksWhole (Err why) = Unit {0}

of_disk_named : (number : ℕ) (described : Bool) (after : AfterHook) (has_none : Bool) (why : DriveFailure) (disk : NamedDisk) → length disk.lun ≡ 8 → HooksWhole (hooks number described after (cond has_none (Err why) (Ok disk)))
of_disk_named number described after true why disk h = tt
of_disk_named number described after false why disk h = h

of_named : (number : ℕ) (described : Bool) (after : AfterHook) (r : Result UriTarget UriError) → HasUnitOf r → HooksWhole (hooks number described after (disk_by r))
of_named number described after (Ok (Tftp host port path whole)) h = tt
of_named number described after (Ok (Http host port path whole)) h = tt
of_named number described after (Ok (Iscsi host port lun name whole)) h = of_disk_named number described after (has_zero name) failure.BadUri (record { host = host; port = port; lun = lun; name = name }) h
of_named number described after (Err why) h = tt

if_there : (b : Bool) (comes : DriveOutcome) (why : DriveFailure) → HooksWhole (Ok comes) → HooksWhole (cond b (Ok comes) (Err why))
if_there true comes why h = h
if_there false comes why h = tt

of_outcome : (number : ℕ) (c : DriveCommand) (base : Option (List ℕ)) (drives : List Drive) → HooksWhole (outcome_for number c base drives)
of_outcome number (command.Hook drive describe uri) base drives = of_named number describe _ (resolution base uri) (resolved_unit base uri)
of_outcome number (command.Boot drive describe keep (Some uri)) base drives = of_named number describe _ (resolution base uri) (resolved_unit base uri)
of_outcome number (command.Boot drive describe keep None) base drives = if_there _ (outcome.Boot number keep) NoDrive tt
of_outcome number (command.Unhook drive) base drives = if_there _ (outcome.Unhook number) NoDrive tt

abbrev AnswersWhole : Effect → Type 0
AnswersWhole e = (hooking : Hooking) → e ≡ hooks_disk hooking → length hooking.disk.lun ≡ 8

same_hooking : (a b : Hooking) → hooks_disk a ≡ hooks_disk b → a ≡ b
same_hooking a b is = cc is

of_answer : (unhooks : Option ℕ) (r : Result DriveOutcome DriveFailure) → HooksWhole r → AnswersWhole (drive_answer_effect (letting_go unhooks r))
of_answer unhooks (Ok (outcome.Hook other)) h hooking is = subst (λ (x : Hooking). length x.disk.lun ≡ 8) (same_hooking other hooking is) h
of_answer unhooks (Ok (outcome.Boot number keep)) h hooking is = absurd (cc is)
of_answer unhooks (Ok (outcome.Unhook number)) h hooking is = absurd (cc is)
of_answer None (Err why) h hooking is = absurd (cc is)
of_answer (Some number) (Err why) h hooking is = absurd (cc is)

drives_whole : (x : Surroundings) (c : DriveCommand) → AnswersWhole (drives_effect x c)
unfolding drive_effect
drives_whole x c = of_answer (unhooked_by c (chosen_drive (given_drive c) x.table)) (outcome_for (chosen_drive (given_drive c) x.table) c (base_by x.base x.table) x.drives) (of_outcome (chosen_drive (given_drive c) x.table) c (base_by x.base x.table) x.drives)

-- so it is of the words of a command
pub unit_is_whole : (k : ℕ) (m : CommandsSoFar) (shown : ShownWords) (hooking : Hooking) → comes_by k m shown ≡ hooks_disk hooking → length hooking.disk.lun ≡ 8
unit_is_whole k m shown hooking is = by (words_are m.table shown.expanded shown.words)
  where
    by : WordsAre m.table shown.expanded shown.words → length hooking.disk.lun ≡ 8
    by (images_words c at keeps stays) = absurd (none-some hooking (sym (images_either (λ e. hooking_in e ≡ None) (λ o. refl) (λ y. refl) (λ wanted. refl) (λ q. refl) (surroundings_in k m) c) ∙ ap hooking_in (sym (images_come k m shown c (at k)) ∙ is)))
    by (drives_words c at keeps stays) = drives_whole (surroundings_in k m) c hooking (sym (drives_come k m shown c (at k)) ∙ is)
    by (other_words plain) = absurd (subst IsPlain (sym (plain_comes k m shown (plain k)) ∙ is) (plain k))
