-- The open of a command that fetches a file has ended: what the history says that comes of it.
use Rattle.std.proofs.Common.{◌≡◌, ℕ, ◌==◌, ◌&&◌, ◌||◌, Bool, true, false, cond, length, List, ◌++◌, Option, Some, None, Ok, Err, refl, sym, ◌∙◌, ap, subst, append-nil}
use Rattle.std.specs.Prelude.{find}
use Rattle.std.specs.List.{flat_map}
use Rattle.std.specs.Option.{option_and_then}
use Rattle.std.specs.Str.{bytes_eq}
use Rattle.std.proofs.lemmas.Option.{none-some}
use Rattle.std.proofs.lemmas.Slice.Eq.{bytes_eq-Decides}
use Rattle.nb_terms.specs.declared.cause.Cause.{Cause}
use Rattle.nb_defs.specs.Causes.{ok, is_ok_cause}
use Rattle.nb_defs.specs.Records.{Out}
use Rattle.nb_tftp.specs.Blocks.{file, is_whole_transfer}
use Rattle.nb_tftp.specs.History.{received_by}
use Rattle.nb_responses.specs.Chunks as chunks
use Rattle.nb_responses.specs.Chunks.{Verdict, Response}
use Rattle.nb_readings.specs.Ends as ends
use Rattle.nb_readings.specs.Ends.{text_of}
use Rattle.nb_uri.specs.declared.target.UriTarget.{UriTarget}
use Rattle.nb_uri.specs.declared.target.UriTarget.TheVariants.{Tftp, Http, Iscsi}
use Rattle.nb_image.specs.Images.{ImageList}
use Rattle.nb_imagecmd.specs.declared.arriving.Arrival.TheVariants as arrival
use Rattle.nb_imagecmd.specs.Arriving.{ArrivalAnswer, arrived}
use Rattle.nb_imagecmd.specs.Asking.{target_port, target_text, target_uri}
use Rattle.nb_machine.specs.Conclusions.{Conclusion, tells, fails, file_conclusion, conclusion, conclusion_records}
use Rattle.nb_machine.specs.Errands.{Wanted}
use Rattle.nb_machine.specs.Running.{Running}
use Rattle.nb_machine.specs.Lives.{OpenKind, tftp, http, iscsi, dns, dhcp, ping, kind_number, Live}
use Rattle.nb_machine.specs.Kinds as kinds
use Rattle.nb_machine.specs.Kinds.{fetched, fetched_by, moved_by}
use Rattle.nb_machine.specs.Scripts.{place_moved_to}
use Rattle.nb_machine.specs.States.{State}
use Rattle.nb_machine.specs.Webs.{web_response, web_body}
use Rattle.nb_machine.specs.Courses.{Standing, ConclusionLeads}
use Rattle.nb_laws.specs.Cores.{answers_open, has_its_answer}
use Rattle.nb_laws.specs.CommandsSoFar.{CommandsSoFar, so_far, shown_table, comes_by, comes_after, concluded_in, wanted_so_far, body_of, file_of, file_fetched, arrived_so_far, concluded_by_open, conclusion_so_far, GivesCause}
use Rattle.nb_laws.specs.Events.{Event}
use Rattle.nb_laws.specs.Lists.{Hardware, Opening, openings, made, hardware, datagrams_of, came_ok, last_end}
use Rattle.nb_laws.specs.Moves.{MovedOpen, moved_open, moves}
use Rattle.nb_laws.specs.Wanting.{wanted_by, target_kind, is_open_at, is_open_of}
use Rattle.nb_laws.specs.Webs.{opens_a_file, is_body, response_so_far, has_response}
use Rattle.nb_laws.proofs.Moved.{HasAsking, has_asking}
use Rattle.nb_laws.proofs.Afterwards.{asked_keeps, asked_leaves, asked_none, asking_hooks}
use Rattle.nb_laws.proofs.SoFar.{concludes_at_once_so, hooks_none}
use Rattle.nb_laws.proofs.Tellings.{same_number}
use Rattle.nb_openlaws.specs.Standings.{live_opening, heard_calls, IsKindBy}
use Rattle.nb_laws.specs.CommandOpens.{command_end}
use Rattle.nb_laws.specs.Frames.{HoldsResult, by_failed_end, by_file}
use Rattle.nb_lawful.specs.Results.{HasEndedOpens}
use Rattle.nb_lawful.specs.ScriptAgreement.{open_kind_for, FetchesWith}
use Rattle.nb_lawful.proofs.Begun.{depth_is}
use Rattle.nb_lawful.proofs.AtOnce.{Goes}
use Rattle.nb_lawful.proofs.CommandEnds.{ended_so, HasEnded, ends_with, response_is, file_heard}
use Rattle.nb_lawful.proofs.Fits.{Fits, conclusion_fits}
use Rattle.nb_lawful.proofs.Leading.{ConcludedSo, concluded_so, failed_so, Concluding, conclusion_goes}
use Rattle.nb_lawful.proofs.Disks.{no_disk_where}
use Rattle.nb_lawful.proofs.NoBlocks.{kept_disk, booted_disk, no_block_later}

-- ITS KIND

-- an open of a file is by TFTP or by HTTP
abbrev IsFileKind : OpenKind → Type 0
IsFileKind tftp = Unit {0}
IsFileKind (http isn) = Unit {0}
IsFileKind (iscsi isn i) = ⊥
IsFileKind (dns id) = ⊥
IsFileKind (dhcp a) = ⊥
IsFileKind ping = ⊥

kind_for_file : (h : Hardware) (k : ℕ) (target : UriTarget) → IsFileKind (open_kind_for h k target)
kind_for_file h k (Tftp host port path whole) = tt
kind_for_file h k (Http host port path whole) = tt
kind_for_file h k (Iscsi host port lun name whole) = tt

kind_fetches : (kind : OpenKind) → IsFileKind kind → ((kind_number kind == 1) || (kind_number kind == 2)) ≡ true
kind_fetches tftp is = refl
kind_fetches (http isn) is = refl
kind_fetches (iscsi isn i) is = absurd is
kind_fetches (dns id) is = absurd is
kind_fetches (dhcp a) is = absurd is
kind_fetches ping is = absurd is

kind_of_target : (h : Hardware) (k : ℕ) (target : UriTarget) → kind_number (open_kind_for h k target) ≡ target_kind target
kind_of_target h k (Tftp host port path whole) = refl
kind_of_target h k (Http host port path whole) = refl
kind_of_target h k (Iscsi host port lun name whole) = refl

file_kind : (h : Hardware) (m : CommandsSoFar) (moved : List MovedOpen) (l : Live) (wanted : Wanted) → FetchesWith h m moved l wanted → IsFileKind l.kind
file_kind h m moved l wanted f = subst IsFileKind (sym f.kind_is) (kind_for_file h l.number wanted.asking.target)

-- WHAT HAS COME

-- it asks for its file
pub asks_its_target : (h : Hardware) (m : CommandsSoFar) (moved : List MovedOpen) (l : Live) (wanted : Wanted) → FetchesWith h m moved l wanted → is_open_at wanted.asking.target (live_opening l) ≡ true
asks_its_target h m moved l wanted f =
    let target = wanted.asking.target in
    let kind = target_kind target in
    let port = target_port target in
    let text = target_text target in
    ap (λ n. (n == kind) && ((l.port == port) && bytes_eq l.target text)) (ap kind_number f.kind_is ∙ kind_of_target h l.number target)
    ∙ ap (λ n. (kind == kind) && ((n == port) && bytes_eq l.target text)) f.port_is
    ∙ ap (λ b. b && ((port == port) && bytes_eq l.target text)) (same_number kind)
    ∙ ap (λ b. b && bytes_eq l.target text) (same_number port)
    ∙ (bytes_eq-Decides l.target text).1 f.target_is

asks_its_file : (h : Hardware) (m : CommandsSoFar) (moved : List MovedOpen) (l : Live) (wanted : Wanted) → FetchesWith h m moved l wanted → is_open_of wanted (live_opening l) ≡ true
asks_its_file h m moved l wanted f =
    ap (λ n. (n == wanted.server) && is_open_at wanted.asking.target (live_opening l)) f.server_is
    ∙ ap (λ b. b && is_open_at wanted.asking.target (live_opening l)) (same_number wanted.server)
    ∙ asks_its_target h m moved l wanted f

-- a response that is whole, and moves nothing, has a body; and one that moves has none
whole_body : (v : Verdict) → ends.is_whole v ≡ true → text_of v ≡ None → is_body v ≡ true
whole_body chunks.body is none = refl
whole_body (chunks.moved text) is none = absurd (none-some text (sym none))
whole_body chunks.more is none = absurd (let no : false ≡ true = is in cc no)
whole_body chunks.open_body is none = absurd (let no : false ≡ true = is in cc no)
whole_body (chunks.status code) is none = absurd (let no : false ≡ true = is in cc no)
whole_body chunks.broken is none = absurd (let no : false ≡ true = is in cc no)
whole_body chunks.large is none = absurd (let no : false ≡ true = is in cc no)
whole_body chunks.long is none = absurd (let no : false ≡ true = is in cc no)
whole_body chunks.many is none = absurd (let no : false ≡ true = is in cc no)

moved_body : (v : Verdict) (place : List ℕ) → text_of v ≡ Some place → is_body v ≡ false
moved_body (chunks.moved text) place is = refl
moved_body chunks.body place is = absurd (none-some place is)
moved_body chunks.more place is = refl
moved_body chunks.open_body place is = refl
moved_body (chunks.status code) place is = refl
moved_body chunks.broken place is = refl
moved_body chunks.large place is = refl
moved_body chunks.long place is = refl
moved_body chunks.many place is = refl

-- where it has ended well, and its server has moved nothing, its file has come
file_is : (es : List Event) (outs : List Out) (s : State) (inner : Running) (outer : List Running) (moved : List MovedOpen) (l : Live) (cause : Cause) → HasEnded es outs s inner outer moved l cause → is_ok_cause cause ≡ true → place_moved_to (ended_so l cause) ≡ None →
    (kind : OpenKind) → l.kind ≡ kind → IsFileKind kind → file_fetched l.number es (live_opening l) ≡ Some (fetched l)
file_is es outs s inner outer moved l cause h well stays tftp is fits =
    let ds = datagrams_of l.number es in
    let whole : is_whole_transfer ds ≡ true = sym (h.answered ∙ ap (λ k. has_its_answer l.number (record { kind = kind_number k; server = l.server; port = l.port; own = l.own; target = l.target; since = l.since }) es) is) ∙ well in
    ap (λ k. cond (kind_number k == 2) (body_of (response_so_far l.number (live_opening l) es)) (file_of ds)) is
    ∙ ap (λ b. cond b (Some (file ds)) None) whole
    ∙ ap (λ z. Some (file (flat_map received_by z))) (h.received ∙ ap (λ k. heard_calls k l.exchanges) is)
    ∙ ap (λ z. Some (file z)) (file_heard l.exchanges)
    ∙ ap (λ z. Some z) (sym (ap (λ k. fetched_by k l) is))
file_is es outs s inner outer moved l cause h well stays (http isn) is fits =
    let r = response_is es l isn (subst (λ k. IsKindBy (hardware es) l.number k (live_opening l)) is h.kind_is) h.streams in
    let whole : ends.is_whole (web_response isn l).verdict ≡ true =
    sym (ap (λ (x : Response). ends.is_whole x.verdict) r)
    ∙ sym (h.answered ∙ ap (λ k. cond (kind_number k == 2) (has_response l.number (live_opening l) es) (answers_open (hardware es) l.number (live_opening l) (datagrams_of l.number es))) is) ∙ well in
    let none : text_of (web_response isn l).verdict ≡ None = sym (ap (λ b. cond b (kinds.moved l) None) well ∙ ap (λ k. moved_by k l) is) ∙ stays in
    ap (λ k. cond (kind_number k == 2) (body_of (response_so_far l.number (live_opening l) es)) (file_of (datagrams_of l.number es))) is
    ∙ ap (λ (x : Response). cond (is_body x.verdict) (Some x.bytes) None) r
    ∙ ap (λ b. cond b (Some (web_body isn l)) None) (whole_body (web_response isn l).verdict whole none)
    ∙ ap (λ z. Some z) (sym (ap (λ k. fetched_by k l) is))
file_is es outs s inner outer moved l cause h well stays (iscsi isn i) is fits = absurd fits
file_is es outs s inner outer moved l cause h well stays (dns id) is fits = absurd fits
file_is es outs s inner outer moved l cause h well stays (dhcp a) is fits = absurd fits
file_is es outs s inner outer moved l cause h well stays ping is fits = absurd fits

-- and where it was moved none has
pub no_file_where_moved : (es : List Event) (outs : List Out) (s : State) (inner : Running) (outer : List Running) (moved : List MovedOpen) (l : Live) (cause : Cause) (place : List ℕ) → HasEnded es outs s inner outer moved l cause → kinds.moved l ≡ Some place →
    (kind : OpenKind) → l.kind ≡ kind → file_fetched l.number es (live_opening l) ≡ None
no_file_where_moved es outs s inner outer moved l cause place h goes (http isn) is =
    let r = response_is es l isn (subst (λ k. IsKindBy (hardware es) l.number k (live_opening l)) is h.kind_is) h.streams in
    ap (λ k. cond (kind_number k == 2) (body_of (response_so_far l.number (live_opening l) es)) (file_of (datagrams_of l.number es))) is
    ∙ ap (λ (x : Response). cond (is_body x.verdict) (Some x.bytes) None) r
    ∙ ap (λ b. cond b (Some (web_body isn l)) None) (moved_body (web_response isn l).verdict place (sym (ap (λ k. moved_by k l) is) ∙ goes))
no_file_where_moved es outs s inner outer moved l cause place h goes tftp is = absurd (none-some place (sym (ap (λ k. moved_by k l) is) ∙ goes))
no_file_where_moved es outs s inner outer moved l cause place h goes (iscsi isn i) is = absurd (none-some place (sym (ap (λ k. moved_by k l) is) ∙ goes))
no_file_where_moved es outs s inner outer moved l cause place h goes (dns id) is = absurd (none-some place (sym (ap (λ k. moved_by k l) is) ∙ goes))
no_file_where_moved es outs s inner outer moved l cause place h goes (dhcp a) is = absurd (none-some place (sym (ap (λ k. moved_by k l) is) ∙ goes))
no_file_where_moved es outs s inner outer moved l cause place h goes ping is = absurd (none-some place (sym (ap (λ k. moved_by k l) is) ∙ goes))

-- what comes of it, by the history
abbrev brings : ℕ → List Event → CommandsSoFar → Opening → Option Conclusion
brings n es m o = option_and_then (arrived_so_far (file_fetched n es o) m o) (wanted_so_far n m (moves es) o)

pub open_brings : (es : List Event) (outs : List Out) (s : State) (inner : Running) (outer : List Running) (moved : List MovedOpen) (l : Live) (cause : Cause) (wanted : Wanted) → HasEnded es outs s inner outer moved l cause → FetchesWith (hardware es) (so_far es) moved l wanted →
    concluded_by_open es (so_far es) ≡ brings l.number es (so_far es) (live_opening l)
open_brings es outs s inner outer moved l cause wanted h f =
    let m = so_far es in
    ap (λ n. option_and_then (brings n es m) (find opens_a_file (openings n es))) h.number
    ∙ ap (λ os. option_and_then (brings l.number es m) (find opens_a_file os)) h.opening
    ∙ ap (λ b. option_and_then (brings l.number es m) (cond b (Some (live_opening l)) None)) (kind_fetches l.kind (file_kind (hardware es) m moved l wanted f))

open_concludes : (es : List Event) (outs : List Out) (s : State) (inner : Running) (outer : List Running) (moved : List MovedOpen) (l : Live) (cause : Cause) (wanted : Wanted) → HasEnded es outs s inner outer moved l cause → FetchesWith (hardware es) (so_far es) moved l wanted →
    place_moved_to (ended_so l cause) ≡ None → is_ok_cause cause ≡ true → concluded_by_open es (so_far es) ≡ Some (conclusion ok wanted.asking (fetched l) inner.depth s.images)
open_concludes es outs s inner outer moved l cause wanted h f stays well =
    let m = so_far es in
    let o = live_opening l in
    let unmoved : moves es ≡ moved = h.moved_so ∙ ap (λ z. moved ++ moved_open o z) stays ∙ append-nil moved in
    open_brings es outs s inner outer moved l cause wanted h f
    ∙ ap (λ z. option_and_then (arrived_so_far z m o) (wanted_so_far l.number m (moves es) o)) (file_is es outs s inner outer moved l cause h well stays l.kind refl (file_kind (hardware es) m moved l wanted f))
    ∙ ap (λ x. option_and_then (arrived_so_far (Some (fetched l)) m o) (option_and_then (λ shown. wanted_by (comes_after l.number m shown (moves es)) o) x)) f.said
    ∙ ap (λ z. option_and_then (arrived_so_far (Some (fetched l)) m o) (wanted_by (comes_after l.number m f.shown z) o)) unmoved
    ∙ ap (λ x. option_and_then (arrived_so_far (Some (fetched l)) m o) x) f.asked
    ∙ ap (λ b. cond b (Some (conclusion ok wanted.asking (fetched l) (length m.scripts) m.images)) None) (asks_its_file (hardware es) m moved l wanted f)
    ∙ ap (λ d. Some (conclusion ok wanted.asking (fetched l) d m.images)) (depth_is es inner outer h.script)
    ∙ ap (λ list. Some (conclusion ok wanted.asking (fetched l) inner.depth list)) h.images.list

-- WHAT IT LEAVES

pub concluding_file : (es : List Event) (outs : List Out) (s : State) (inner : Running) (outer : List Running) (moved : List MovedOpen) (l : Live) (cause : Cause) (wanted : Wanted) → HasEnded es outs s inner outer moved l cause → FetchesWith (hardware es) (so_far es) moved l wanted →
    place_moved_to (ended_so l cause) ≡ None → Concluding es outs s inner outer (conclusion cause wanted.asking (fetched l) inner.depth s.images)
concluding_file es outs s inner outer moved l cause wanted h f stays = record {
  base = h.base;
  script = h.script;
  settings = h.settings;
  images = h.images;
  none_left = h.none_left;
  concluded = concluded (is_ok_cause cause) refl;
  keeps_table = ap (shown_table m.table) f.said ∙ asked_keeps m f.shown asking.first asking.words;
  leaves_table = asked_leaves es m f.shown asking.first f.said asking.words;
  holds = holds (is_ok_cause cause) refl;
  ended = subst HasEndedOpens (sym h.its_end) (cause, refl);
  unhooked = λ given gives. hooks_none es given f.shown f.said (asking_hooks (comes_by 0 m f.shown) asking.first asking.words);
  no_disk = λ given gives left some disk. absurd (no_disk_where es f.shown f.said (asking_hooks (comes_by 0 m f.shown) asking.first asking.words) (kept_disk es disk));
  no_block = no_block_later es _ h.its_end (λ d bytes read. no_disk_where es f.shown f.said (asking_hooks (comes_by 0 m f.shown) asking.first asking.words) (booted_disk es d));
  settled = h.settled;
  fits = subst (λ d. Fits d (conclusion cause wanted.asking (fetched l) inner.depth s.images)) (sym (depth_is es inner outer h.script)) (conclusion_fits cause wanted.asking (fetched l) inner.depth s.images);
}
  where
    m : CommandsSoFar
    m = so_far es

    asking : HasAsking m f.shown moved wanted.asking
    asking = has_asking l.number (so_far es) f.shown moved (live_opening l) wanted f.asked

    came : came_ok (last_end es) ≡ is_ok_cause cause
    came = ap came_ok h.last

    at : (b : Bool) → is_ok_cause cause ≡ b → conclusion cause wanted.asking (fetched l) inner.depth s.images ≡ cond b (conclusion ok wanted.asking (fetched l) inner.depth s.images) (fails cause)
    at true well = ap (λ b. cond b (file_conclusion (arrived wanted.asking (fetched l) (target_uri wanted.asking.target) inner.depth s.images)) (fails cause)) well
    at false bad = ap (λ b. cond b (file_conclusion (arrived wanted.asking (fetched l) (target_uri wanted.asking.target) inner.depth s.images)) (fails cause)) bad

    by_open : is_ok_cause cause ≡ true → concluded_by_open es (so_far es) ≡ Some (conclusion cause wanted.asking (fetched l) inner.depth s.images)
    by_open well = open_concludes es outs s inner outer moved l cause wanted h f stays well ∙ ap (λ z. Some z) (sym (at true well))

    concluded : (b : Bool) → is_ok_cause cause ≡ b → ConcludedSo (conclusion_so_far (last_end es) es (so_far es)) (conclusion cause wanted.asking (fetched l) inner.depth s.images)
    concluded true well = concluded_so (ap (λ b. cond b (concluded_by_open es (so_far es)) (option_and_then (λ shown. concluded_in (comes_by (made es) (so_far es) shown)) (so_far es).shown)) (came ∙ well) ∙ by_open well)
    concluded false bad = failed_so cause (at false bad) (concludes_at_once_so es (so_far es) f.shown (came ∙ bad) f.said ∙ asked_none (made es) (so_far es) f.shown asking.first asking.words)

    ended : command_end es ≡ Some cause
    ended = ends_with es outs s inner outer moved l cause h

    holds : (b : Bool) → is_ok_cause cause ≡ b → (given : Cause) → GivesCause (conclusion cause wanted.asking (fetched l) inner.depth s.images) given → HoldsResult es given
    holds true well given gives = by_file (conclusion cause wanted.asking (fetched l) inner.depth s.images) (ap came_ok ended ∙ well) (by_open well) gives
    holds false bad given gives =
        let same : given ≡ cause = subst (λ c. GivesCause c given) (at false bad) gives in
        subst (HoldsResult es) (sym same) (by_failed_end ended bad)

-- A FILE TELLS NOTHING

-- it prints nothing
abbrev TellsNone : Conclusion → Type 0
TellsNone c = (list : ImageList) (lines : List (List ℕ)) → c ≡ tells list lines → ⊥

file_tells : (r : ArrivalAnswer) → TellsNone (file_conclusion r)
file_tells (Ok (arrival.Kept, list)) = λ l x e. absurd (cc e)
file_tells (Ok (arrival.Run script replace, list)) = λ l x e. absurd (cc e)
file_tells (Ok (arrival.Boot, list)) = λ l x e. absurd (cc e)
file_tells (Err why) = λ l x e. absurd (cc e)

conclusion_tells : (b : Bool) (r : ArrivalAnswer) (cause : Cause) → TellsNone (cond b (file_conclusion r) (fails cause))
conclusion_tells true r cause = file_tells r
conclusion_tells false r cause = λ l x e. absurd (cc e)

-- a command that fetches a file is over, or a script runs
pub fetch_goes : (es : List Event) (outs : List Out) (s : State) (inner : Running) (outer : List Running) (moved : List MovedOpen) (l : Live) (cause : Cause) (wanted : Wanted) (more : List Out) (p : Standing) → HasEnded es outs s inner outer moved l cause →
    FetchesWith (hardware es) (so_far es) moved l wanted → place_moved_to (ended_so l cause) ≡ None → ConclusionLeads s inner outer (conclusion cause wanted.asking (fetched l) inner.depth s.images) more p →
    Goes es outs (conclusion_records (conclusion cause wanted.asking (fetched l) inner.depth s.images) ++ more) p
fetch_goes es outs s inner outer moved l cause wanted more p h f stays leads =
    conclusion_goes es outs s inner outer (conclusion cause wanted.asking (fetched l) inner.depth s.images) more p
    (conclusion_tells (is_ok_cause cause) (arrived wanted.asking (fetched l) (target_uri wanted.asking.target) inner.depth s.images) cause) (concluding_file es outs s inner outer moved l cause wanted h f stays) leads
