-- A command that asks for a file has a URI that resolves to it, and asks a server of its host.
use Rattle.std.proofs.Common.{◌≡◌, ℕ, ◌==◌, ◌||◌, not, Bool, true, false, cond, length, List, Option, Some, None, Result, Ok, Err, refl, sym, ◌∙◌, ap, subst}
use Rattle.std.specs.Prelude.{nat_lt, slice_get, unwrap_or}
use Rattle.std.specs.List.{join_with_byte}
use Rattle.std.specs.Option.{option_map_or}
use Rattle.std.proofs.lemmas.Option.{none-some, same_Some}
use Rattle.nb_terms.specs.declared.cause.Cause.{Cause}
use Rattle.nb_defs.specs.Commands.{CommandOutcome, refused}
use Rattle.nb_settings.specs.Tables.{TableLists}
use Rattle.nb_expand.specs.declared.error.ExpandError.{ExpandError}
use Rattle.nb_uri.specs.declared.target.UriTarget.{UriTarget}
use Rattle.nb_uri.specs.declared.target.UriTarget.TheVariants.{Tftp, Http, Iscsi}
use Rattle.nb_uri.specs.declared.target.UriError.{UriError}
use Rattle.nb_uri.specs.Addresses.{four_decimals}
use Rattle.nb_uri.specs.ImageNames.{image_name}
use Rattle.nb_uri.specs.Resolutions.{resolution}
use Rattle.nb_command.specs.declared.command_plan.CommandPlan.{CommandPlan}
use Rattle.nb_command.specs.declared.command_plan.CommandPlan.TheVariants as plan
use Rattle.nb_command.specs.Bases.{base_by}
use Rattle.nb_command.specs.Planning.{planned}
use Rattle.nb_dns.specs.WrittenNames.{is_lookup_name}
use Rattle.nb_image.specs.declared.image.Image.{Image}
use Rattle.nb_image.specs.declared.kind.ImageKind.{ImageKind}
use Rattle.nb_image.specs.declared.kind.ImageKind.TheVariants.{Script, BzImage, Elf, Efi, Other}
use Rattle.nb_image.specs.Images.{ImageList, image_place}
use Rattle.nb_image.specs.Kinds.{kind_of}
use Rattle.nb_imagecmd.specs.declared.asking.After.{After}
use Rattle.nb_imagecmd.specs.declared.asking.After.TheVariants as after
use Rattle.nb_imagecmd.specs.declared.asking.Asking.{Asking}
use Rattle.nb_imagecmd.specs.declared.commands.ImageCommand.{ImageCommand}
use Rattle.nb_imagecmd.specs.declared.commands.ImageCommand.TheVariants as command
use Rattle.nb_imagecmd.specs.declared.error.ImageFailure.{ImageFailure}
use Rattle.nb_imagecmd.specs.declared.error.ImageFailure.TheVariants.{NoImage, NoScheme, LongPath}
use Rattle.nb_imagecmd.specs.declared.error.PlanError.{PlanError}
use Rattle.nb_imagecmd.specs.declared.outcome.ImageOutcome.{ImageOutcome}
use Rattle.nb_imagecmd.specs.declared.outcome.ImageOutcome.TheVariants.{Done, Print, Ask, Run, Boot}
use Rattle.nb_imagecmd.specs.declared.outcome.ScriptImage.{ScriptImage}
use Rattle.nb_imagecmd.specs.Failures.{image_cause}
use Rattle.nb_imagecmd.specs.Asking.{target_host, target_uri, is_file, has_long_path, asked_name, asking_of, asked_resolved, asked_file}
use Rattle.nb_imagecmd.specs.CarryingOut.{asking_answer, select_at, execute_at, set_args_at, image_effect}
use Rattle.nb_imagecmd.specs.Executing.{ImageAnswer, selected_with, executed_kind, executed_image, executed_selected, script_taken}
use Rattle.nb_imagecmd.specs.Freeing.{are_all_listed, kept_list}
use Rattle.nb_wire.specs.declared.address.Ip4.{Ip4}
use Rattle.nb_machine.specs.Conclusions.{Conclusion, keeps, tells, boots_selected, runs_script}
use Rattle.nb_machine.specs.Effects.{Effect, says, asks, goes, sleeps, shuts_device, inquires, on_images, on_drives, hooks_disk, unhooks_drive, boots_drive, concludes_at_once, full_opens, next_effect, next_open, next_look_up, next_by_name, at_host, planned_effect, words_effect, ShownWords, effect, expansion, expanded_effect, Surroundings, asked_effect, taken_effect, image_outcome_effect, image_answer_effect, images_effect, drives_effect, settled_effect}
use Rattle.nb_machine.specs.Errands.{Wanted, fetches_then, echoes_then, hooks_then, Onward, onward}
use Rattle.nb_machine.specs.Queries.{for_lease, for_echo, for_host, for_address, bad_name, no_server, dns_in, with_domain}
use Rattle.nb_machine.proofs.Eithers.{host_either}
use Rattle.nb_laws.specs.CommandsSoFar.{CommandsSoFar, shown_effect, surroundings_in, comes_by, asking_in}
use Rattle.nb_laws.specs.Fetching.{expanded_shown, IsServerOf, by_decimals, by_look_up, AsksBy, by_fetch, by_select, by_exec}
use Rattle.nb_laws.specs.Lists.{Opening}
use Rattle.nb_laws.specs.Wanting.{wanted_by}
use Rattle.nb_drivecmd.specs.declared.commands.DriveCommand.{DriveCommand}
use Rattle.nb_machine.proofs.Eithers.{drives_either}
use Rattle.nb_laws.proofs.Settling.{IsPlain, plain_settles, PlanIs, images_plan, drives_plan, other_plan, plan_is, WordsAre, images_words, drives_words, other_words, words_are, images_come, drives_come, plain_comes}

-- WHICH FILE A COMMAND ASKS FOR

-- by its URI, with this name and these arguments
record AskedBy (c : ImageCommand) (base : Option (List ℕ)) (asking : Asking) : Type 0 where
  given : Option (List ℕ)
  uri : List ℕ
  args : List (List ℕ)
  next : After
  asks : AsksBy c given uri args
  file : asked_file base given uri args next ≡ Ok asking

no_answer : (why : ImageFailure) (x : ImageOutcome × ImageList) → ◌≡◌ {A = Result (ImageOutcome × ImageList) ImageFailure} (Err why) (Ok x) → ⊥
no_answer why x is = cc

same_answer : (x y : ImageOutcome × ImageList) → ◌≡◌ {A = Result (ImageOutcome × ImageList) ImageFailure} (Ok x) (Ok y) → x ≡ y
same_answer x y is = cc

same_asking : (x y : Asking) → Ask x ≡ Ask y → x ≡ y
same_asking x y is = cc

same_outcome : (x y : ImageOutcome) (a b : ImageList) → ◌≡◌ {A = Result (ImageOutcome × ImageList) ImageFailure} (Ok (x, a)) (Ok (y, b)) → x ≡ y
same_outcome x y a b is = ap (λ (z : ImageOutcome × ImageList). z.0) (same_answer (x, a) (y, b) is)

answered : (r : Result Asking ImageFailure) (list left : ImageList) (asking : Asking) → asking_answer r list ≡ Ok (Ask asking, left) → r ≡ Ok asking
answered (Ok x) list left asking is = ap (λ z. Ok z) (same_asking x asking (same_outcome (Ask x) (Ask asking) list left is))
answered (Err why) list left asking is = absurd (no_answer why (Ask asking, left) is)

-- no other outcome asks
abbrev AsksNot : ImageOutcome → Type 0
AsksNot (Ask asking) = ⊥
AsksNot Done = Unit {0}
AsksNot (Print lines) = Unit {0}
AsksNot (Run image replace) = Unit {0}
AsksNot Boot = Unit {0}

never : (o : ImageOutcome) (list left : ImageList) (asking : Asking) → AsksNot o → ◌≡◌ {A = Result (ImageOutcome × ImageList) ImageFailure} (Ok (o, list)) (Ok (Ask asking, left)) → ⊥
never o list left asking not is = subst AsksNot (same_outcome o (Ask asking) list left is) not

kind_never : (kind : ImageKind) (i : ℕ) (replace : Bool) (list booting left : ImageList) (asking : Asking) → executed_kind kind i replace list booting ≡ Ok (Ask asking, left) → ⊥
kind_never Script i replace list booting left asking is = never (Run i replace) list left asking tt is
kind_never BzImage i replace list booting left asking is = never Boot booting left asking tt is
kind_never Elf i replace list booting left asking is = never Boot booting left asking tt is
kind_never Efi i replace list booting left asking is = never Boot booting left asking tt is
kind_never Other i replace list booting left asking is = no_answer _ _ is

image_never : (o : Option Image) (i : ℕ) (replace : Bool) (list booting left : ImageList) (asking : Asking) → executed_image o i replace list booting ≡ Ok (Ask asking, left) → ⊥
image_never None i replace list booting left asking is = no_answer _ _ is
image_never (Some image) i replace list booting left asking is = kind_never (kind_of image.body) i replace list booting left asking is

selected_never : (o : Option ℕ) (replace : Bool) (list left : ImageList) (asking : Asking) → executed_selected o replace list ≡ Ok (Ask asking, left) → ⊥
selected_never None replace list left asking is = no_answer _ _ is
selected_never (Some i) replace list left asking is = image_never (slice_get list.images i) i replace list list left asking is

select_asks : (o : Option ℕ) (args : List (List ℕ)) (r : Result Asking ImageFailure) (list left : ImageList) (asking : Asking) → select_at o args r list ≡ Ok (Ask asking, left) → r ≡ Ok asking
select_asks (Some i) args r list left asking is = absurd (never Done (selected_with i args list) left asking tt is)
select_asks None args r list left asking is = answered r list left asking is

execute_asks : (o : Option ℕ) (args : List (List ℕ)) (replace : Bool) (r : Result Asking ImageFailure) (list left : ImageList) (asking : Asking) → execute_at o args replace r list ≡ Ok (Ask asking, left) → r ≡ Ok asking
execute_asks (Some i) args replace r list left asking is = absurd (image_never (slice_get list.images i) i replace list (selected_with i args list) left asking is)
execute_asks None args replace r list left asking is = answered r list left asking is

set_never : (o : Option ℕ) (args : List ℕ) (list left : ImageList) (asking : Asking) → set_args_at o args list ≡ Ok (Ask asking, left) → ⊥
set_never None args list left asking is = no_answer _ _ is
set_never (Some i) args list left asking is = never Done _ left asking tt is

free_never : (b : Bool) (list left : ImageList) (asking : Asking) → ◌≡◌ {A = Result (ImageOutcome × ImageList) ImageFailure} (cond b (Ok (Done, list)) (Err NoImage)) (Ok (Ask asking, left)) → ⊥
free_never true list left asking is = never Done list left asking tt is
free_never false list left asking is = no_answer _ _ is

image_asks : (c : ImageCommand) (base : Option (List ℕ)) (list left : ImageList) (asking : Asking) → image_effect c base list ≡ Ok (Ask asking, left) → AskedBy c base asking
unfolding image_effect
image_asks (command.Fetch name uri args) base list left asking is =
    record { given = name; uri = uri; args = args; next = after.Keep; asks = by_fetch name uri args; file = answered (asked_file base name uri args after.Keep) list left asking is }
image_asks (command.Select name uri args) base list left asking is =
    record { given = name; uri = uri; args = args; next = after.Select; asks = by_select name uri args; file = select_asks (image_place uri list.images) args (asked_file base name uri args after.Select) list left asking is }
image_asks (command.Exec name autofree replace None args) base list left asking is = absurd (selected_never list.selected replace list left asking is)
image_asks (command.Exec name autofree replace (Some uri) args) base list left asking is = record {
  given = name;
  uri = uri;
  args = args;
  next = after.Run replace;
  asks = by_exec name autofree replace uri args;
  file = execute_asks (image_place uri list.images) args replace (asked_file base name uri args (after.Run replace)) list left asking is;
}
image_asks (command.Imgargs name args) base list left asking is = absurd (set_never (image_place name list.images) (join_with_byte 32 args) list left asking is)
image_asks (command.Imgfree names) base list left asking is = absurd (free_never (are_all_listed names list.images) (kept_list names list) left asking is)
image_asks command.Imgstat base list left asking is = absurd (never (Print _) list left asking tt is)

-- the target of its URI
record IsAskingOf (r : Result UriTarget UriError) (given : Option (List ℕ)) (args : List (List ℕ)) (next : After) (asking : Asking) : Type 0 where
  target : UriTarget
  resolves : r ≡ Ok target
  file : is_file target ≡ true
  same : asking_of target (asked_name given target) args next ≡ asking

target_of : (r : Result UriTarget UriError) (given : Option (List ℕ)) (args : List (List ℕ)) (next : After) (asking : Asking) → asked_resolved r given args next ≡ Ok asking → IsAskingOf r given args next asking
target_of (Err why) given args next asking is = absurd (cc)
target_of (Ok target) given args next asking is =
    by (is_file target) (has_long_path target || nat_lt 255 (length (asked_name given target))) refl is
  where
    one : Asking
    one = asking_of target (asked_name given target) args next

    by : (a b : Bool) → is_file target ≡ a → ◌≡◌ {A = Result Asking ImageFailure} (cond (not a) (Err NoScheme) (cond b (Err LongPath) (Ok one))) (Ok asking) → IsAskingOf (Ok target) given args next asking
    by false b at e = absurd (let impossible : ◌≡◌ {A = Result Asking ImageFailure} (Err NoScheme) (Ok asking) = e in cc)
    by true true at e = absurd (let impossible : ◌≡◌ {A = Result Asking ImageFailure} (Err LongPath) (Ok asking) = e in cc)
    by true false at e = record { target = target; resolves = refl; file = at; same = cc }

-- What a command on images asks for first, before any move: the file of its URI.
pub record IsFirst (x : Surroundings) (c : ImageCommand) (asking : Asking) : Type 0 where
  pub given : Option (List ℕ)
  pub uri : List ℕ
  pub args : List (List ℕ)
  pub asks : AsksBy c given uri args
  pub resolves : resolution (base_by x.base x.table) uri ≡ Ok asking.target
  pub file : is_file asking.target ≡ true
  pub name : asking.name ≡ unwrap_or given (image_name (target_uri asking.target) (target_host asking.target))
  pub arguments : asking.args ≡ join_with_byte 32 args
  pub unmoved : asking.moves ≡ 0

abbrev name_by : Option (List ℕ) → UriTarget → List ℕ
name_by given target = unwrap_or given (image_name (target_uri target) (target_host target))

named_so : (given : Option (List ℕ)) (target : UriTarget) → asked_name given target ≡ name_by given target
named_so None (Tftp host port path whole) = refl
named_so None (Http host port path whole) = refl
named_so None (Iscsi host port lun name whole) = refl
named_so (Some name) target = refl

first_asked : (x : Surroundings) (c : ImageCommand) (asking : Asking) → AskedBy c (base_by x.base x.table) asking → IsFirst x c asking
first_asked x c asking a =
    let t = target_of (resolution (base_by x.base x.table) a.uri) a.given a.args a.next asking a.file in
    let target : t.target ≡ asking.target = ap (λ (y : Asking). y.target) t.same in
    record {
      given = a.given;
      uri = a.uri;
      args = a.args;
      asks = a.asks;
      resolves = t.resolves ∙ ap (λ y. Ok y) target;
      file = subst (λ y. is_file y ≡ true) target t.file;
      name = sym (ap (λ (y : Asking). y.name) t.same) ∙ named_so a.given t.target ∙ ap (name_by a.given) target;
      arguments = sym (ap (λ (y : Asking). y.args) t.same);
      unmoved = sym (ap (λ (y : Asking). y.moves) t.same);
    }

-- WHICH SERVER IT ASKS

-- a file that is wanted is the one that is asked for
pub wanted_asks : (e : Effect) (o : Opening) (wanted : Wanted) → wanted_by e o ≡ Some wanted → asking_in e ≡ Some wanted.asking
wanted_asks (asks other) o wanted is = ap (λ w. Some w.asking) (same_Some other wanted is)
wanted_asks (inquires (for_host (fetches_then asking) name by)) o wanted is = ap (λ w. Some w.asking) (same_Some (record { server = o.server; asking = asking }) wanted is)
wanted_asks (inquires (for_host echoes_then name by)) o wanted is = absurd (none-some wanted is)
wanted_asks (inquires (for_host (hooks_then hooking) name by)) o wanted is = absurd (none-some wanted is)
wanted_asks (inquires for_lease) o wanted is = absurd (none-some wanted is)
wanted_asks (inquires (for_echo server)) o wanted is = absurd (none-some wanted is)
wanted_asks (inquires (for_address setting name by)) o wanted is = absurd (none-some wanted is)
wanted_asks (says x) o wanted is = absurd (none-some wanted is)
wanted_asks (goes name) o wanted is = absurd (none-some wanted is)
wanted_asks (sleeps seconds) o wanted is = absurd (none-some wanted is)
wanted_asks shuts_device o wanted is = absurd (none-some wanted is)
wanted_asks (on_images c) o wanted is = absurd (none-some wanted is)
wanted_asks (on_drives c) o wanted is = absurd (none-some wanted is)
wanted_asks (hooks_disk hooking) o wanted is = absurd (none-some wanted is)
wanted_asks (unhooks_drive number cause) o wanted is = absurd (none-some wanted is)
wanted_asks (boots_drive number) o wanted is = absurd (none-some wanted is)
wanted_asks (concludes_at_once c) o wanted is = absurd (none-some wanted is)

-- of a host no other file is asked for
abbrev AsksOnly : Asking → Effect → Type 0
AsksOnly asking e = (other : Asking) → asking_in e ≡ Some other → asking ≡ other

pub host_asks : (opens : ℕ) (table : TableLists) (host : List ℕ) (asking : Asking) → AsksOnly asking (at_host opens table host (fetches_then asking))
host_asks opens table host asking =
    host_either (AsksOnly asking) (λ o other is. absurd (none-some other is)) opens table host (fetches_then asking) (λ name by other is. same_Some asking other is) (λ address other is. same_Some asking other is)

-- and the server is one of that host
abbrev AsksServer : TableLists → List ℕ → Effect → Type 0
AsksServer table host e = (o : Opening) (wanted : Wanted) → wanted_by e o ≡ Some wanted → IsServerOf table host wanted.server

pub host_serves : (opens : ℕ) (table : TableLists) (host : List ℕ) (asking : Asking) → AsksServer table host (at_host opens table host (fetches_then asking))
host_serves opens table host asking = by (four_decimals host) refl
  where
    P : Result Onward Cause → Type 0
    P next = AsksServer table host (next_effect next)

    refuses : (why : Cause) → P (Err why)
    refuses why = λ o wanted is. absurd (none-some wanted is)

    either : (b : Bool) (next other : Result Onward Cause) → P next → P other → P (cond b next other)
    either true next other p q = p
    either false next other p q = q

    given : (server : ℕ) (wanted : Wanted) → IsServerOf table host server → ◌≡◌ {A = Option Wanted} (Some (record { server = server; asking = asking })) (Some wanted) → IsServerOf table host wanted.server
    given server wanted of is = subst (λ (w : Wanted). IsServerOf table host w.server) (same_Some (record { server = server; asking = asking }) wanted is) of

    by_server : (o : Option Ip4) → four_decimals host ≡ None → is_lookup_name (with_domain table host) ≡ true → dns_in table ≡ o → P (next_look_up (fetches_then asking) (with_domain table host) o)
    by_server None none can e = refuses no_server
    by_server (Some server) none can e = λ o wanted is. given o.server wanted (by_look_up server none can e) is

    named : (b : Bool) → four_decimals host ≡ None → is_lookup_name (with_domain table host) ≡ b →
        P (cond b (cond (opens == 16384) (Err full_opens) (next_look_up (fetches_then asking) (with_domain table host) (dns_in table))) (Err bad_name))
    named true none e = either (opens == 16384) _ _ (refuses full_opens) (by_server (dns_in table) none e refl)
    named false none e = refuses bad_name

    by : (o : Option ℕ) → four_decimals host ≡ o → P (option_map_or (λ address. next_open opens (onward (fetches_then asking) address)) o (next_by_name opens table (fetches_then asking) (with_domain table host)))
    by None e = named (is_lookup_name (with_domain table host)) e refl
    by (Some address) e = either (opens == 16384) _ _ (refuses full_opens) (λ o wanted is. given address wanted (by_decimals e) is)

-- A COMMAND ON IMAGES

at_its_host : (target : UriTarget) (x : Surroundings) (asking : Asking) → is_file target ≡ true → asked_effect target x asking ≡ at_host x.opens x.table (target_host target) (fetches_then asking)
at_its_host (Tftp host port path whole) x asking file = refl
at_its_host (Http host port path whole) x asking file = refl
at_its_host (Iscsi host port lun name whole) x asking file = absurd (let impossible : false ≡ true = file in cc)

-- it is refused, concludes at once, or asks the host of its file for that
images_walk : (P : Effect → Type 0) → ((o : CommandOutcome) → P (says o)) → ((c : Conclusion) → P (concludes_at_once c)) → (x : Surroundings) (c : ImageCommand) →
    ((asking : Asking) → IsFirst x c asking → P (at_host x.opens x.table (target_host asking.target) (fetches_then asking))) → P (images_effect x c)
images_walk P said concluded x c asked = by (image_effect c (base_by x.base x.table) x.images) refl
  where
    by_taken : (replace : Bool) (r : Result (ScriptImage × ImageList) ImageFailure) → P (taken_effect replace r)
    by_taken replace (Ok taken) = concluded (runs_script taken.1 taken.0 replace)
    by_taken replace (Err why) = said (refused (image_cause why))

    by_outcome : (y : ImageOutcome) (list : ImageList) → image_effect c (base_by x.base x.table) x.images ≡ Ok (y, list) → P (image_outcome_effect x y list)
    by_outcome Done list at = concluded (keeps list)
    by_outcome (Print lines) list at = concluded (tells list lines)
    by_outcome (Ask asking) list at =
        let f = first_asked x c asking (image_asks c (base_by x.base x.table) x.images list asking at) in
        subst P (sym (at_its_host asking.target x asking f.file)) (asked asking f)
    by_outcome (Run image replace) list at = by_taken replace (script_taken image replace x.depth list)
    by_outcome Boot list at = concluded (boots_selected list)

    by : (r : ImageAnswer) → image_effect c (base_by x.base x.table) x.images ≡ r → P (image_answer_effect x r)
    by (Ok (y, list)) at = by_outcome y list at
    by (Err why) at = said (refused (image_cause why))

images_ask : (x : Surroundings) (c : ImageCommand) (asking : Asking) → asking_in (images_effect x c) ≡ Some asking → IsFirst x c asking
images_ask x c asking = images_walk (λ e. asking_in e ≡ Some asking → IsFirst x c asking) (λ o is. absurd (none-some asking is)) (λ y is. absurd (none-some asking is)) x c
    (λ first f is. subst (IsFirst x c) (host_asks x.opens x.table (target_host first.target) first asking is) f)

images_serve : (x : Surroundings) (c : ImageCommand) (o : Opening) (wanted : Wanted) → wanted_by (images_effect x c) o ≡ Some wanted → IsServerOf x.table (target_host wanted.asking.target) wanted.server
images_serve x c o wanted = images_walk (λ e. wanted_by e o ≡ Some wanted → IsServerOf x.table (target_host wanted.asking.target) wanted.server) (λ y is. absurd (none-some wanted is)) (λ y is. absurd (none-some wanted is)) x c
    (λ first f is.
    let host = target_host first.target in
    let same : first ≡ wanted.asking = host_asks x.opens x.table host first wanted.asking (wanted_asks (at_host x.opens x.table host (fetches_then first)) o wanted is) in
    subst (λ (a : Asking). IsServerOf x.table (target_host a.target) wanted.server) same (host_serves x.opens x.table host first o wanted is))

-- ITS WORDS

-- a drive command asks for no file
pub drives_ask : (x : Surroundings) (c : DriveCommand) (asking : Asking) → asking_in (drives_effect x c) ≡ Some asking → ⊥
drives_ask x c asking = drives_either (λ e. asking_in e ≡ Some asking → ⊥) (λ o is. none-some asking is) (λ hooking is. none-some asking is) (λ number cause is. none-some asking is) (λ number is. none-some asking is) x c

-- no other command asks for a file
pub plain_asks : (e : Effect) → IsPlain e → asking_in e ≡ None
plain_asks (says x) is = refl
plain_asks (asks wanted) is = absurd is
plain_asks (goes name) is = refl
plain_asks (sleeps seconds) is = refl
plain_asks shuts_device is = refl
plain_asks (inquires for_lease) is = refl
plain_asks (inquires (for_echo server)) is = refl
plain_asks (inquires (for_address setting name by)) is = refl
plain_asks (inquires (for_host echoes_then name by)) is = refl
plain_asks (inquires (for_host (hooks_then hooking) name by)) is = refl
plain_asks (inquires (for_host (fetches_then asking) name by)) is = absurd is
plain_asks (on_images c) is = refl
plain_asks (on_drives c) is = refl
plain_asks (hooks_disk hooking) is = refl
plain_asks (unhooks_drive number cause) is = refl
plain_asks (boots_drive number) is = refl
plain_asks (concludes_at_once c) is = absurd is

-- the words of a command on images, which asks first for a file
pub record AsksFirst (x : Surroundings) (shown : ShownWords) (asking : Asking) : Type 0 where
  pub words : List (List ℕ)
  pub expanded : expanded_shown x.table shown ≡ Ok words
  pub images : ImageCommand
  pub planned_so : planned words ≡ Ok (plan.Images images)
  pub first : IsFirst x images asking

words_ask : (x : Surroundings) (shown : ShownWords) (words : List (List ℕ)) (asking : Asking) → expanded_shown x.table shown ≡ Ok words → asking_in (settled_effect x (words_effect x.opens x.table words)) ≡ Some asking → AsksFirst x shown asking
unfolding words_effect
words_ask x shown words asking expanded e = by (planned words) refl e
  where
    by_plan : (p : CommandPlan) → PlanIs x.table p → planned words ≡ Ok p → asking_in (settled_effect x (planned_effect x.opens x.table (Ok p))) ≡ Some asking → AsksFirst x shown asking
    by_plan p (images_plan c at) is asked = record {
      words = words;
      expanded = expanded;
      images = c;
      planned_so = is ∙ ap (λ y. Ok y) at;
      first = images_ask x c asking (subst (λ y. asking_in (settled_effect x (planned_effect x.opens x.table (Ok y))) ≡ Some asking) at asked);
    }
    by_plan p (drives_plan c at) is asked =
        absurd (drives_ask x c asking (subst (λ y. asking_in (settled_effect x (planned_effect x.opens x.table (Ok y))) ≡ Some asking) at asked))
    by_plan p (other_plan plain) is asked =
        absurd (none-some asking (sym (ap asking_in (plain_settles x (planned_effect x.opens x.table (Ok p)) (plain x.opens)) ∙ plain_asks (planned_effect x.opens x.table (Ok p)) (plain x.opens)) ∙ asked))

    by : (r : Result CommandPlan PlanError) → planned words ≡ r → asking_in (settled_effect x (planned_effect x.opens x.table r)) ≡ Some asking → AsksFirst x shown asking
    by (Ok p) is asked = by_plan p (plan_is x.table p) is asked
    by (Err why) is asked = absurd (none-some asking asked)

-- what a command asks for first
pub asks_first : (x : Surroundings) (shown : ShownWords) (asking : Asking) → asking_in (settled_effect x (shown_effect x.opens x.table shown)) ≡ Some asking → AsksFirst x shown asking
unfolding effect
asks_first x shown asking e = by_shown shown.expanded refl e
  where
    by_expansion : (r : Result (List (List ℕ)) ExpandError) → expansion x.table shown.words ≡ r → shown.expanded ≡ false → asking_in (settled_effect x (expanded_effect x.opens x.table r)) ≡ Some asking → AsksFirst x shown asking
    by_expansion (Ok words) is off asked = words_ask x shown words asking (ap (λ b. cond b (Ok shown.words) (expansion x.table shown.words)) off ∙ is) asked
    by_expansion (Err why) is off asked = absurd (none-some asking asked)

    by_shown : (b : Bool) → shown.expanded ≡ b → asking_in (settled_effect x (cond b (words_effect x.opens x.table shown.words) (effect x.opens x.table shown.words))) ≡ Some asking → AsksFirst x shown asking
    by_shown true is asked = words_ask x shown shown.words asking (ap (λ b. cond b (Ok shown.words) (expansion x.table shown.words)) is) asked
    by_shown false is asked = by_expansion (expansion x.table shown.words) refl is asked

-- and of which server
pub asks_server : (k : ℕ) (m : CommandsSoFar) (shown : ShownWords) (o : Opening) (wanted : Wanted) → wanted_by (comes_by k m shown) o ≡ Some wanted → IsServerOf m.table (target_host wanted.asking.target) wanted.server
asks_server k m shown o wanted e = by (words_are m.table shown.expanded shown.words)
  where
    by : WordsAre m.table shown.expanded shown.words → IsServerOf m.table (target_host wanted.asking.target) wanted.server
    by (images_words c at same still) = images_serve (surroundings_in k m) c o wanted (subst (λ (y : Effect). wanted_by y o ≡ Some wanted) (images_come k m shown c (at k)) e)
    by (drives_words c at same still) = absurd (drives_ask (surroundings_in k m) c wanted.asking (sym (ap asking_in (drives_come k m shown c (at k))) ∙ wanted_asks (comes_by k m shown) o wanted e))
    by (other_words plain) = absurd (none-some wanted.asking (sym (ap asking_in (plain_comes k m shown (plain k)) ∙ plain_asks (shown_effect k m.table shown) (plain k)) ∙ wanted_asks (comes_by k m shown) o wanted e))
