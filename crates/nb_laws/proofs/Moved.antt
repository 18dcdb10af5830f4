-- What a command comes to once its servers have moved its file: the same file, at its new place.
use Rattle.std.proofs.Common.{◌≡◌, ℕ, ◌+◌, ◌<◌, ◌≤◌, ◌==◌, not, Bool, true, false, cond, length, List, [], ◌∷◌, ◌++◌, Option, Some, None, Result, Ok, Err, refl, sym, ◌∙◌, ap, subst, fold, arith, append_assoc, append-nil, eq-eqb}
use Rattle.std.specs.Prelude.{nat_lt}
use Rattle.std.specs.List.{AllByRecursion}
use Rattle.std.specs.Option.{option_map_or}
use Rattle.std.proofs.lemmas.Bool.Decides.{nat_tests}
use Rattle.std.proofs.lemmas.List.Sums.{fold-append}
use Rattle.std.proofs.lemmas.Option.{none-some}
use Rattle.nb_terms.specs.declared.cause.Cause.{Cause}
use Rattle.nb_defs.specs.Records.{Out, step, sent, text as prints_text, command, result, script, opened, tried, advanced, ended, graph, part, done}
use Rattle.nb_settings.specs.Tables.{TableLists}
use Rattle.nb_dns.specs.WrittenNames.{is_lookup_name}
use Rattle.nb_uri.specs.declared.target.UriTarget.{UriTarget}
use Rattle.nb_uri.specs.declared.target.UriError.{UriError}
use Rattle.nb_uri.specs.Addresses.{four_decimals}
use Rattle.nb_uri.specs.Resolutions.{resolution}
use Rattle.nb_imagecmd.specs.declared.asking.Asking.{Asking}
use Rattle.nb_imagecmd.specs.declared.error.ImageFailure.{ImageFailure}
use Rattle.nb_imagecmd.specs.declared.error.ImageFailure.TheVariants.{NoScheme, LongPath, ManyMoves}
use Rattle.nb_imagecmd.specs.Asking.{target_host, target_uri, is_file, has_long_path}
use Rattle.nb_imagecmd.specs.Moving.{place_resolved, with_place, place_of_move, moved_file}
use Rattle.nb_machine.specs.Effects.{Effect, says, asks, goes, sleeps, shuts_device, inquires, on_images, on_drives, hooks_disk, unhooks_drive, boots_drive, concludes_at_once, full_opens, next_effect, next_by_name, next_look_up, next_moved, at_host, ShownWords}
use Rattle.nb_machine.specs.Errands.{Wanted, fetches_then, Onward, onward}
use Rattle.nb_machine.specs.Queries.{dns_in, with_domain}
use Rattle.nb_laws.specs.CommandsSoFar.{CommandsSoFar, surroundings_in, comes_by, asking_in, asking_moved, asking_after, effect_moved, comes_after}
use Rattle.nb_laws.specs.Events.{Event, puts}
use Rattle.nb_laws.specs.Fetching.{IsServerOf, by_decimals, by_look_up, AreMoved, stays_there, moves_on, FetchesFile}
use Rattle.nb_laws.specs.Lists.{Opening}
use Rattle.nb_laws.specs.Moves.{MovedOpen, moves_by, moves}
use Rattle.nb_laws.specs.Wanting.{wanted_by, may_serve, is_open_for}
use Rattle.nb_laws.proofs.Fetching.{wanted_asks, host_asks, host_serves, asks_first, asks_server}
use Rattle.nb_laws.proofs.Histories.{followed_one}
use Rattle.nb_laws.proofs.Settling.{comes_stays}
use Rattle.nb_laws.proofs.Stays.{IsAsking}
use Rattle.nb_laws.proofs.Tellings.{told}

-- THE MOVES

pub moves_more : (es : List Event) (e : Event) → moves (es ++ e ∷ []) ≡ moves_by es (moves es) e
unfolding moves
moves_more es e = followed_one moves_by [] es e

-- no COMMAND and no ENDED
abbrev pub IsUnmoving : Out → Type 0
IsUnmoving (command depth line place expanded words) = ⊥
IsUnmoving (ended number cause) = ⊥
IsUnmoving (step number) = Unit {0}
IsUnmoving (sent bytes) = Unit {0}
IsUnmoving (prints_text bytes) = Unit {0}
IsUnmoving (result cause) = Unit {0}
IsUnmoving (script what depth cause) = Unit {0}
IsUnmoving (opened number kind server port own target) = Unit {0}
IsUnmoving (tried number count) = Unit {0}
IsUnmoving (advanced number place) = Unit {0}
IsUnmoving (graph happens) = Unit {0}
IsUnmoving (part kind index offset bytes) = Unit {0}
IsUnmoving (done status) = Unit {0}

unmoved_by : (es : List Event) (ms : List MovedOpen) (o : Out) → IsUnmoving o → moves_by es ms (puts o) ≡ ms
unmoved_by es ms (command depth line place expanded words) h = absurd h
unmoved_by es ms (ended number cause) h = absurd h
unmoved_by es ms (step number) h = refl
unmoved_by es ms _ h = refl

-- other records leave them
pub unmoved : (es : List Event) (outs : List Out) → AllByRecursion IsUnmoving outs → moves (es ++ told outs) ≡ moves es
unmoved es [] h = ap (λ (z : List Event). moves z) (append-nil es)
unmoved es (o ∷ outs) h =
    ap (λ (z : List Event). moves z) (sym (append_assoc es (puts o ∷ []) (told outs))) ∙ unmoved (es ++ puts o ∷ []) outs h.1
    ∙ moves_more es (puts o) ∙ unmoved_by es (moves es) o h.0

-- THE FILE THAT A COMMAND ASKS FOR, AFTER THESE MOVES

-- its words ask for a first file, which was moved so
pub record HasAsking (m : CommandsSoFar) (shown : ShownWords) (ms : List MovedOpen) (asking : Asking) : Type 0 where
  pub first : Asking
  pub words : asking_in (comes_by 0 m shown) ≡ Some first
  pub now : asking_after first ms ≡ Ok asking

pub asking_asks : (e : Effect) (asking : Asking) → asking_in e ≡ Some asking → IsAsking e
asking_asks (asks wanted) asking is = tt
asking_asks (inquires q) asking is = tt
asking_asks (says o) asking is = absurd (none-some asking is)
asking_asks (goes name) asking is = absurd (none-some asking is)
asking_asks (sleeps seconds) asking is = absurd (none-some asking is)
asking_asks shuts_device asking is = absurd (none-some asking is)
asking_asks (on_images c) asking is = absurd (none-some asking is)
asking_asks (on_drives c) asking is = absurd (none-some asking is)
asking_asks (hooks_disk hooking) asking is = absurd (none-some asking is)
asking_asks (unhooks_drive number cause) asking is = absurd (none-some asking is)
asking_asks (boots_drive number) asking is = absurd (none-some asking is)
asking_asks (concludes_at_once c) asking is = absurd (none-some asking is)

-- by its words, however many opens were made
words_asking : (k : ℕ) (m : CommandsSoFar) (shown : ShownWords) (asking : Asking) → asking_in (comes_by k m shown) ≡ Some asking → asking_in (comes_by 0 m shown) ≡ Some asking
words_asking k m shown asking is = ap asking_in (comes_stays k 0 m shown (omega arith) (asking_asks (comes_by k m shown) asking is)) ∙ is

-- what it comes to, by the first file
abbrev moved_effect : ℕ → TableLists → Result Asking ImageFailure → Effect
moved_effect k table r = next_effect (next_moved k table r)

-- a fact of what it comes to, by its words or of a file that was moved
pub after_either : (P : Effect → Type 0) (k : ℕ) (m : CommandsSoFar) (shown : ShownWords) (ms : List MovedOpen) → P (comes_by k m shown) →
    ((first : Asking) → asking_in (comes_by 0 m shown) ≡ Some first → P (moved_effect k m.table (asking_after first ms))) → P (comes_after k m shown ms)
after_either P k m shown [] here moved = here
after_either P k m shown (x ∷ xs) here moved = by (asking_in (comes_by 0 m shown)) refl
  where
    by : (a : Option Asking) → asking_in (comes_by 0 m shown) ≡ a → P (effect_moved k m.table (comes_by k m shown) (x ∷ xs) a)
    by None is = here
    by (Some first) is = moved first is

moved_asks : (k : ℕ) (table : TableLists) (r : Result Asking ImageFailure) (asking : Asking) → asking_in (moved_effect k table r) ≡ Some asking → r ≡ Ok asking
moved_asks k table (Ok other) asking is = ap (λ a. Ok a) (host_asks k table (target_host other.target) other asking is)
moved_asks k table (Err why) asking is = absurd (none-some asking is)

pub after_asking : (k : ℕ) (m : CommandsSoFar) (shown : ShownWords) (ms : List MovedOpen) (asking : Asking) → asking_in (comes_after k m shown ms) ≡ Some asking → HasAsking m shown ms asking
after_asking k m shown [] asking is = record { first = asking; words = words_asking k m shown asking is; now = refl }
after_asking k m shown (x ∷ xs) asking is = by (asking_in (comes_by 0 m shown)) refl is
  where
    by : (a : Option Asking) → asking_in (comes_by 0 m shown) ≡ a → asking_in (effect_moved k m.table (comes_by k m shown) (x ∷ xs) a) ≡ Some asking → HasAsking m shown (x ∷ xs) asking
    by None at e = absurd (none-some asking (sym at ∙ words_asking k m shown asking e))
    by (Some first) at e = record { first = first; words = at; now = moved_asks k m.table (asking_after first (x ∷ xs)) asking e }

pub has_asking : (k : ℕ) (m : CommandsSoFar) (shown : ShownWords) (ms : List MovedOpen) (o : Opening) (wanted : Wanted) → wanted_by (comes_after k m shown ms) o ≡ Some wanted → HasAsking m shown ms wanted.asking
has_asking k m shown ms o wanted is = after_asking k m shown ms wanted.asking (wanted_asks (comes_after k m shown ms) o wanted is)

-- a further move
pub then_moved : (m : CommandsSoFar) (shown : ShownWords) (ms : List MovedOpen) (asking : Asking) → HasAsking m shown ms asking → (k : ℕ) (x : MovedOpen) →
    comes_after k m shown (ms ++ x ∷ []) ≡ next_effect (next_moved k m.table (asking_moved (Ok asking) x))
then_moved m shown ms asking h k x = by ms h.now
  where
    moved : (ys : List MovedOpen) → asking_after h.first ys ≡ Ok asking → moved_effect k m.table (asking_after h.first (ys ++ x ∷ [])) ≡ moved_effect k m.table (asking_moved (Ok asking) x)
    moved ys now = ap (moved_effect k m.table) (fold-append asking_moved (Ok h.first) ys (x ∷ []) ∙ ap (λ r. asking_moved r x) now)

    by : (ys : List MovedOpen) → asking_after h.first ys ≡ Ok asking → comes_after k m shown (ys ++ x ∷ []) ≡ moved_effect k m.table (asking_moved (Ok asking) x)
    by [] now = ap (effect_moved k m.table (comes_by k m shown) (x ∷ [])) h.words ∙ moved [] now
    by (y ∷ ys) now = ap (effect_moved k m.table (comes_by k m shown) (y ∷ (ys ++ x ∷ []))) h.words ∙ moved (y ∷ ys) now

-- where none may be made no more is asked
pub full_none : (table : TableLists) (r : Result Asking ImageFailure) (next : Onward) → next_moved 16384 table r ≡ Ok next → ⊥
full_none table (Err why) next is = cc
full_none table (Ok asking) next is = by (four_decimals (target_host asking.target)) is
  where
    text : List ℕ
    text = target_host asking.target

    refused : (why : Cause) → ◌≡◌ {A = Result Onward Cause} (Err why) (Ok next) → ⊥
    refused why e = cc

    named : (b : Bool) (other : Result Onward Cause) (why : Cause) → cond b (cond (16384 == 16384) (Err full_opens) other) (Err why) ≡ Ok next → ⊥
    named true other why e = refused full_opens e
    named false other why e = refused why e

    by : (o : Option ℕ) → option_map_or (λ address. cond (16384 == 16384) (Err full_opens) (Ok (onward (fetches_then asking) address))) o (next_by_name 16384 table (fetches_then asking) (with_domain table text)) ≡ Ok next → ⊥
    by None e = named (is_lookup_name (with_domain table text)) (next_look_up (fetches_then asking) (with_domain table text) (dns_in table)) _ e
    by (Some address) e = refused full_opens e

-- WHICH SERVER IT ASKS

moved_server : (k : ℕ) (table : TableLists) (r : Result Asking ImageFailure) (o : Opening) (wanted : Wanted) → wanted_by (moved_effect k table r) o ≡ Some wanted → IsServerOf table (target_host wanted.asking.target) wanted.server
moved_server k table (Err why) o wanted is = absurd (none-some wanted is)
moved_server k table (Ok asking) o wanted is =
    let host = target_host asking.target in
    let same : asking ≡ wanted.asking = host_asks k table host asking wanted.asking (wanted_asks (at_host k table host (fetches_then asking)) o wanted is) in
    subst (λ (a : Asking). IsServerOf table (target_host a.target) wanted.server) same (host_serves k table host asking o wanted is)

pub after_server : (k : ℕ) (m : CommandsSoFar) (shown : ShownWords) (ms : List MovedOpen) (o : Opening) (wanted : Wanted) → wanted_by (comes_after k m shown ms) o ≡ Some wanted → IsServerOf m.table (target_host wanted.asking.target) wanted.server
after_server k m shown ms o wanted = after_either (λ e. wanted_by e o ≡ Some wanted → IsServerOf m.table (target_host wanted.asking.target) wanted.server) k m shown ms
    (λ is. asks_server k m shown o wanted is) (λ first at is. moved_server k m.table (asking_after first ms) o wanted is)

serves : (table : TableLists) (host : List ℕ) (server : ℕ) → IsServerOf table host server → may_serve host server ≡ true
serves table host server (by_decimals is) = ap (λ o. option_map_or (λ address. address == server) o true) is ∙ eq-eqb server server refl
serves table host server (by_look_up by none can is) = ap (λ o. option_map_or (λ address. address == server) o true) none

pub serves_so : (k : ℕ) (m : CommandsSoFar) (shown : ShownWords) (ms : List MovedOpen) (o : Opening) (wanted : Wanted) → wanted_by (comes_after k m shown ms) o ≡ Some wanted → may_serve (target_host wanted.asking.target) wanted.server ≡ true
serves_so k m shown ms o wanted is = serves m.table (target_host wanted.asking.target) wanted.server (after_server k m shown ms o wanted is)

-- HOW IT WAS MOVED

-- one move, to the next place
record IsMove (asking : Asking) (m : MovedOpen) (next : Asking) : Type 0 where
  asked : is_open_for asking.target m.opening ≡ true
  resolves : resolution (Some (target_uri asking.target)) m.place ≡ Ok next.target
  file : is_file next.target ≡ true
  name : next.name ≡ asking.name
  arguments : next.args ≡ asking.args
  count : next.moves ≡ asking.moves + 1
  few : next.moves ≤ 5

one_move : (asking : Asking) (m : MovedOpen) (next : Asking) → asking_moved (Ok asking) m ≡ Ok next → IsMove asking m next
one_move asking m next is = by_asked (is_open_for asking.target m.opening) refl is
  where
    no : (why : ImageFailure) → ◌≡◌ {A = Result Asking ImageFailure} (Err why) (Ok next) → ⊥
    no why e = cc

    at : UriTarget → Asking
    at target = record asking { target = target; moves = asking.moves + 1 }

    to : (target : UriTarget) → is_open_for asking.target m.opening ≡ true → asking.moves < 5 → resolution (Some (target_uri asking.target)) m.place ≡ Ok target → is_file target ≡ true → at target ≡ next → IsMove asking m next
    to target asked few resolves file same = subst (IsMove asking m) same (record { asked = asked; resolves = resolves; file = file; name = refl; arguments = refl; count = refl; few = omega (arith, few) })

    by_file : (target : UriTarget) (f l : Bool) → is_file target ≡ f → is_open_for asking.target m.opening ≡ true → asking.moves < 5 → resolution (Some (target_uri asking.target)) m.place ≡ Ok target →
        with_place asking (cond (not f) (Err NoScheme) (cond l (Err LongPath) (Ok target))) ≡ Ok next → IsMove asking m next
    by_file target false l file asked few resolves e = absurd (no NoScheme e)
    by_file target true true file asked few resolves e = absurd (no LongPath e)
    by_file target true false file asked few resolves e = to target asked few resolves file (cc)

    by_place : (r : Result UriTarget UriError) → is_open_for asking.target m.opening ≡ true → asking.moves < 5 → resolution (Some (target_uri asking.target)) m.place ≡ r → with_place asking (place_resolved r) ≡ Ok next → IsMove asking m next
    by_place (Ok target) asked few resolves e = by_file target (is_file target) (has_long_path target) refl asked few resolves e
    by_place (Err why) asked few resolves e = absurd (no _ e)

    by_count : (b : Bool) → nat_lt asking.moves 5 ≡ b → is_open_for asking.target m.opening ≡ true → cond b (with_place asking (place_of_move asking.target m.place)) (Err ManyMoves) ≡ Ok next → IsMove asking m next
    by_count true at asked e = by_place (resolution (Some (target_uri asking.target)) m.place) asked (grind (arith, nat_tests)) refl e
    by_count false at asked e = absurd (no ManyMoves e)

    by_asked : (b : Bool) → is_open_for asking.target m.opening ≡ b → cond b (moved_file asking m.place) (Err NoScheme) ≡ Ok next → IsMove asking m next
    by_asked true asked e = by_count (nat_lt asking.moves 5) refl asked e
    by_asked false asked e = absurd (no NoScheme e)

-- and all of them
record IsChain (first : Asking) (ms : List MovedOpen) (last : Asking) : Type 0 where
  moved : AreMoved first.target ms last.target
  name : last.name ≡ first.name
  arguments : last.args ≡ first.args
  count : last.moves ≡ first.moves + length ms
  few : first.moves ≤ 5 → last.moves ≤ 5

failed_stays : (why : ImageFailure) (ms : List MovedOpen) → fold asking_moved (Err why) ms ≡ Err why
failed_stays why [] = refl
failed_stays why (m ∷ ms) = failed_stays why ms

chain_of : (first : Asking) (ms : List MovedOpen) (last : Asking) → asking_after first ms ≡ Ok last → IsChain first ms last
chain_of first [] last is =
    let same : first ≡ last = cc in
    subst (IsChain first []) same (record { moved = stays_there first.target; name = refl; arguments = refl; count = omega arith; few = λ h. h })
chain_of first (m ∷ ms) last is = by (asking_moved (Ok first) m) refl is (λ next e. chain_of next ms last e)
  where
    by : (r : Result Asking ImageFailure) → asking_moved (Ok first) m ≡ r → fold asking_moved r ms ≡ Ok last → ((next : Asking) → asking_after next ms ≡ Ok last → IsChain next ms last) → IsChain first (m ∷ ms) last
    by (Ok next) at e later =
        let one = one_move first m next at in
        let rest = later next e in
        record {
          moved = moves_on first.target next.target last.target m ms one.asked one.resolves one.file rest.moved;
          name = rest.name ∙ one.name;
          arguments = rest.arguments ∙ one.arguments;
          count = omega (arith, rest.count, one.count);
          few = λ h. rest.few one.few;
        }
    by (Err why) at e later = absurd (let impossible : ◌≡◌ {A = Result Asking ImageFailure} (Err why) (Ok last) = sym (failed_stays why ms) ∙ e in cc)

-- which file a command fetches by an open
pub fetches_file : (k : ℕ) (m : CommandsSoFar) (shown : ShownWords) (ms : List MovedOpen) (o : Opening) (wanted : Wanted) → wanted_by (comes_after k m shown ms) o ≡ Some wanted → FetchesFile (surroundings_in k m) shown ms wanted
fetches_file k m shown ms o wanted is =
    let h = has_asking k m shown ms o wanted is in
    let a = asks_first (surroundings_in 0 m) shown h.first h.words in
    let chain = chain_of h.first ms wanted.asking h.now in
    let unmoved_first : h.first.moves ≡ 0 = a.first.unmoved in
    let last_few : wanted.asking.moves ≤ 5 = chain.few (omega (arith, unmoved_first)) in
    record {
      words = a.words;
      expanded = a.expanded;
      images = a.images;
      planned_so = a.planned_so;
      given = a.first.given;
      uri = a.first.uri;
      args = a.first.args;
      asks = a.first.asks;
      first = h.first.target;
      resolves = a.first.resolves;
      file = a.first.file;
      moved = chain.moved;
      few = omega (arith, unmoved_first, last_few, chain.count);
      server = after_server k m shown ms o wanted is;
      name = chain.name ∙ a.first.name;
      arguments = chain.arguments ∙ a.first.arguments;
    }
