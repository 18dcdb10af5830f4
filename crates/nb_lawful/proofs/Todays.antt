-- A history that keeps the laws of courses keeps those of nb_laws, as long as no open outlives its command but a drive's.
use Rattle.std.proofs.Common.{◌≡◌, ◌⊎◌, ◌||◌, inl, inr, ℕ, ◌==◌, Bool, cond, true, false, List, [], ◌∷◌, ◌++◌, Option, Some, None, if◌then◌else◌, refl, sym, ◌∙◌, ap, subst, append_assoc, append-nil}
use Rattle.nb_terms.specs.declared.cause.Cause.{Cause}
use Rattle.nb_command.specs.SettingAddresses.{host}
use Rattle.nb_defs.specs.Causes.{ok}
use Rattle.std.specs.List.{AllByRecursion}
use Rattle.nb_defs.specs.Records.{Out, step, sent, text, command, result, script, opened, tried, advanced, ended, graph, part, done}
use Rattle.nb_stack.specs.Client.{Client}
use Rattle.nb_stack.specs.Route.{route_of, packet_route}
use Rattle.nb_stack.specs.Sends.{fate_of}
use Rattle.nb_stack.specs.declared.taken.Fate.{Fate}
use Rattle.nb_stack.specs.declared.taken.Fate.TheVariants as fate
use Rattle.nb_stack.proofs.WayLaws.{same_way}
use Rattle.nb_machine.specs.Sendings.{is_on_its_way}
use Rattle.nb_machine.specs.Link.{address_in_table}
use Rattle.nb_machine.specs.Effects.{shuts_device}
use Rattle.nb_laws.specs.Events.{Event, starts, hears, waits, stops, puts, outputs, EachEvent}
use Rattle.nb_laws.specs.CommandsSoFar.{CommandsSoFar, so_far, so_far_by, comes_by, ComesTo}
use Rattle.nb_laws.specs.Endings.{fate_to, Holds, EndsSo, HadWay, IsKind, MayStandBehind, ClosesToBoot, ClosesToBootDisk, closes_off, closes_down, closes_booted, closes_booted_disk, by_lost_drive, by_drive_down, by_drive_boot, by_disk_boot}
use Rattle.nb_laws.specs.Hookings.{LivesOn, as_drive, as_hooked}
use Rattle.nb_lawful.specs.ScriptAgreement.{HandsOver, HandsEither, HandsWhatCame}
use Rattle.nb_laws.specs.Frames.{IsPut, by_closing, by_drive_end, HoldsResult, HoldsOf, WritesSo}
use Rattle.nb_laws.specs.Webs.{opens_connection}
use Rattle.nb_laws.specs.HandOff.{HandsOff, HandsDiskOff}
use Rattle.nb_laws.specs.Histories.{client}
use Rattle.nb_laws.specs.Lawful.{HandsAsBrought, IsLawful}
use Rattle.nb_laws.specs.Lists.{made, Opening, openings, open_has_ended, live}
use Rattle.nb_laws.specs.Moves.{moves}
use Rattle.nb_laws.specs.Progress.{StepsSo}
use Rattle.nb_laws.proofs.Histories.{client_linked}
use Rattle.nb_laws.proofs.Afterwards.{after_by_words}
use Rattle.nb_laws.proofs.SoFar.{so_far_more}
use Rattle.nb_laws.proofs.Stays.{IsAsking}
use Rattle.nb_laws.proofs.Settling.{same_shown}
use Rattle.nb_laws.proofs.Tellings.{told}
use Rattle.nb_openlaws.specs.OpenEndings.{EndsBecause, by_itself, by_lost_way, by_device, by_hand_off, by_disk_off, IsPutOrCloses, by_reason, by_close, by_drive_close, OpensEndSo, FramesSo}
use Rattle.nb_laws.specs.CommandOpens.{command_open}
use Rattle.nb_lawful.specs.Lawful.{KeepsLaws}
use Rattle.nb_lawful.specs.Results.{ResultStands, CommandsSo}
use Rattle.nb_lawful.proofs.Awaited.{its}
use Rattle.nb_lawful.proofs.Shuts.{comes_shuts}
use Rattle.nb_lawful.proofs.HookWords.{HookedOn, serves}
use Rattle.nb_lawful.proofs.Solitude.{HasAsked, IsSettled, IsRunning, Solitude, over_by, only_hooked, only_drives, hooked_kind, settled_for}
use Rattle.nb_lawful.proofs.Alone.{solitude_first, solitude_then, result_over}

-- ENDS

-- a command that has made an open doesn't set the device down
pub not_shut : (es : List Event) (k : ℕ) → Solitude es → command_open es ≡ its k None → (so_far es).is_open ≡ true → (so_far es).left ≡ None → ComesTo es (made es) shuts_device → ⊥
not_shut es k a own still none (shown, said, shuts) = by (subst (λ z. HasAsked z (so_far es)) own (a.running still none).asked)
  where
    by : HasAsked (its k None) (so_far es) → ⊥
    by (n, words, is, asks_so) =
        let same : shown ≡ words = same_shown (so_far es).shown shown words said is in
        let then_shuts : comes_by n (so_far es) shown ≡ shuts_device = comes_shuts (made es) n (so_far es) shown (after_by_words (made es) (so_far es) shown (moves es) shuts_device (λ no. no) shuts) in
        subst IsAsking then_shuts (subst (λ x. IsAsking (comes_by n (so_far es) x)) (sym same) asks_so)

-- an open that lives where the device is set down is a drive's
shut_hooked : (es : List Event) (k : ℕ) (o : Opening) → Solitude es → live k es ≡ o ∷ [] → (so_far es).is_open ≡ true → ComesTo es (made es) shuts_device → HookedOn k (so_far es).hooked
shut_hooked es k o a lives still comes = by (so_far es).left refl
  where
    by : (left : Option Cause) → (so_far es).left ≡ left → HookedOn k (so_far es).hooked
    by None at = elim ((a.running still at).own k o lives) [
      | inl own ↦ absurd (not_shut es k a own still at comes)
      | inr hooked ↦ hooked
    ]
    by (Some cause) at = a.handed cause at k o lives

one_alone : (es : List Event) (m : CommandsSoFar) (o : Out) → MayStandBehind o → so_far_by es m (puts o) ≡ m
one_alone es m (command depth line place expanded words) h = absurd h
one_alone es m (result cause) h = absurd h
one_alone es m (script what depth cause) h = absurd h
one_alone es m (opened number kind server port own target) h = absurd h
one_alone es m (done status) h = absurd h
one_alone es m (step number) h = refl
one_alone es m _ h = refl

alone_over : (es : List Event) (outs : List Out) → AllByRecursion MayStandBehind outs → (so_far (es ++ told outs)).is_open ≡ (so_far es).is_open
alone_over es [] h = ap (λ (z : List Event). (so_far z).is_open) (append-nil es)
alone_over es (o ∷ outs) h =
    ap (λ (z : List Event). (so_far z).is_open) (sym (append_assoc es (puts o ∷ []) (told outs))) ∙ alone_over (es ++ puts o ∷ []) outs h.1
    ∙ ap (λ (m : CommandsSoFar). m.is_open) (so_far_more es (puts o) ∙ one_alone es (so_far es) o h.0)

-- so is one that lives after a RESULT
over_hooked : (es : List Event) (k : ℕ) (o : Opening) (before : List Event) (since : List Out) → Solitude es → live k es ≡ o ∷ [] → es ≡ before ++ puts (result ok) ∷ told since → AllByRecursion MayStandBehind since → HookedOn k (so_far es).hooked
over_hooked es k o before since a lives ends behind =
    let at : es ≡ (before ++ puts (result ok) ∷ []) ++ told since = ends ∙ sym (append_assoc before (puts (result ok) ∷ []) (told since)) in
    let off : (so_far es).is_open ≡ false =
    ap (λ (z : List Event). (so_far z).is_open) at ∙ alone_over (before ++ puts (result ok) ∷ []) since behind ∙ ap (λ (m : CommandsSoFar). m.is_open) (so_far_more before (puts (result ok)))
    ∙ result_over (so_far before).left before (so_far before) in
    a.idle off k o lives

-- where a command has booted what was brought, or a disk
booted_hooked : (es : List Event) (k : ℕ) (o : Opening) → Solitude es → live k es ≡ o ∷ [] → ClosesToBoot es → HookedOn k (so_far es).hooked
booted_hooked es k o a lives b = over_hooked es k o b.before b.since a lives b.ends b.behind

disk_hooked : (es : List Event) (k : ℕ) (o : Opening) → Solitude es → live k es ≡ o ∷ [] → ClosesToBootDisk es → HookedOn k (so_far es).hooked
disk_hooked es k o a lives b = over_hooked es k o b.before b.since a lives b.ends b.behind

-- whether there is a way hangs on the device's state and its address alone
on_its_way : (f : Fate) → is_on_its_way f ≡ false → f ≡ fate.NoRoute
on_its_way fate.NoRoute e = refl
on_its_way fate.Sent e = let no : true ≡ false = e in absurd (cc no)
on_its_way fate.Asked e = let no : true ≡ false = e in absurd (cc no)

nowhere_by : (x y : Fate) → x ≡ fate.NoRoute → is_on_its_way x ≡ is_on_its_way y → y ≡ fate.NoRoute
nowhere_by x y is same = on_its_way y (sym same ∙ ap is_on_its_way is)

same_fate : (c d : Client) (o : Opening) → d.up ≡ c.up → d.address ≡ c.address → fate_to c o ≡ fate.NoRoute → fate_to d o ≡ fate.NoRoute
same_fate c d o up address e =
    nowhere_by (fate_of c (if (o.kind == 6) || opens_connection o then packet_route d.up d.address (host o.server) else route_of d.up d.address (host o.server) o.own)) (fate_to d o)
    (ap (λ u. fate_of c (if (o.kind == 6) || opens_connection o then packet_route u d.address (host o.server) else route_of u d.address (host o.server) o.own)) up
    ∙ ap (λ x. fate_of c (if (o.kind == 6) || opens_connection o then packet_route c.up x (host o.server) else route_of c.up x (host o.server) o.own)) address ∙ e)
    (same_way is_on_its_way refl c d (if (o.kind == 6) || opens_connection o then packet_route d.up d.address (host o.server) else route_of d.up d.address (host o.server) o.own))

address_by : (es : List Event) → (client es).address ≡ address_in_table (so_far es).table
address_by es = sym (ap (λ (c : Client). c.address) (client_linked es))

up_by : (es : List Event) → (client es).up ≡ (so_far es).up
up_by es = sym (ap (λ (c : Client). c.up) (client_linked es))

-- no way is lost while a command waits
way_stays : (es : List Event) (k : ℕ) (o x : Opening) → IsRunning es → command_open es ≡ its k None → live k es ≡ x ∷ [] → fate_to (client es) o ≡ fate.NoRoute → HadWay k es o → ⊥
way_stays es k o x r own lives lost way =
    let s = r.stay k x o way.before way.since lives own way.all way.opened in
    way.goes (same_fate (client es) (client way.before) o (up_by way.before ∙ s.1 ∙ sym (up_by es)) (address_by way.before ∙ ap address_in_table s.0 ∙ sym (address_by es)) lost)

-- so it is a drive's whose way is lost
lost_hooked : (es : List Event) (k : ℕ) (o x : Opening) → Solitude es → live k es ≡ x ∷ [] → fate_to (client es) o ≡ fate.NoRoute → HadWay k es o → HookedOn k (so_far es).hooked
lost_hooked es k o x a lives lost way = by (so_far es).is_open refl (so_far es).left refl
  where
    by : (b : Bool) → (so_far es).is_open ≡ b → (left : Option Cause) → (so_far es).left ≡ left → HookedOn k (so_far es).hooked
    by false is left at = a.idle is k x lives
    by true is (Some cause) at = a.handed cause at k x lives
    by true is None at = elim ((a.running is at).own k x lives) [
      | inl own ↦ absurd (way_stays es k o x (a.running is at) own lives lost way)
      | inr hooked ↦ hooked
    ]

-- an open that lives has its opening
opening_of : (es : List Event) (k : ℕ) (o : Opening) → live k es ≡ o ∷ [] → openings k es ≡ o ∷ []
unfolding live
opening_of es k o lives = by (open_has_ended k es) lives
  where
    by : (b : Bool) → cond b [] (openings k es) ≡ o ∷ [] → openings k es ≡ o ∷ []
    by true is = absurd (let no : [] ≡ o ∷ [] = is in cc no)
    by false is = is

drive_kind : (es : List Event) (k : ℕ) (o : Opening) → Solitude es → live k es ≡ o ∷ [] → HookedOn k (so_far es).hooked → IsKind 3 k es o
drive_kind es k o a lives hooked = record { opening = opening_of es k o lives; kind_is = hooked_kind es a k o (opening_of es k o lives) hooked }

holds_by : (es : List Event) (k : ℕ) (cause : Cause) (x : Opening) → Solitude es → live k es ≡ x ∷ [] → EndsBecause k es cause → Holds k es cause
holds_by es k cause x a lives (by_itself h) = h
holds_by es k cause x a lives (by_lost_way o opening is lost way) =
    by_lost_drive o (record { opening = opening; kind_is = hooked_kind es a k o opening (lost_hooked es k o x a lives lost way) }) is lost way
holds_by es k cause x a lives (by_device is still comes) = by_drive_down x (drive_kind es k x a lives (shut_hooked es k x a lives still comes)) is still comes
holds_by es k cause x a lives (by_hand_off is booted) = by_drive_boot x (drive_kind es k x a lives (booted_hooked es k x a lives booted)) is booted
holds_by es k cause x a lives (by_disk_off is booted) = by_disk_boot x (drive_kind es k x a lives (disk_hooked es k x a lives booted)) is booted

ends_so : (es : List Event) (e : Event) → Solitude es → OpensEndSo es e → EndsSo es e
ends_so es (puts (ended k cause)) a (because, o, lives, well) = (holds_by es k cause o a lives because, o, lives, well)
ends_so es (puts (step number)) a h = tt
ends_so es (puts (sent bytes)) a h = tt
ends_so es (puts (text bytes)) a h = tt
ends_so es (puts (command depth line place expanded words)) a h = tt
ends_so es (puts (result cause)) a h = tt
ends_so es (puts (script what depth cause)) a h = tt
ends_so es (puts (opened number kind server port own target)) a h = tt
ends_so es (puts (tried number count)) a h = tt
ends_so es (puts (advanced number place)) a h = tt
ends_so es (puts (graph happens)) a h = tt
ends_so es (puts (part kind index offset bytes)) a h = tt
ends_so es (puts (done status)) a h = tt
ends_so es (starts n s) a h = tt
ends_so es (hears n bytes m) a h = tt
ends_so es (waits n ms) a h = tt
ends_so es (stops n) a h = tt

-- FRAMES

-- a connection of another kind is closed only where the power is switched off: at another close only drives live
not_web : (es : List Event) (k : ℕ) (o : Opening) → Solitude es → live k es ≡ o ∷ [] → o.kind ≡ 2 → HookedOn k (so_far es).hooked → ⊥
not_web es k o a lives kind hooked = let no : 2 ≡ 3 = sym kind ∙ (drive_kind es k o a lives hooked).kind_is in cc no

frames_so : (es : List Event) (bytes : List ℕ) → Solitude es → IsPutOrCloses es bytes → IsPut es bytes
frames_so es bytes a (by_reason is) = is
frames_so es bytes a (by_close k sends kind closes (closes_off off)) = by_closing k sends kind closes off
frames_so es bytes a (by_close k sends kind closes (closes_down still comes)) = absurd (not_web es k sends.opening a sends.lives kind (shut_hooked es k sends.opening a sends.lives still comes))
frames_so es bytes a (by_close k sends kind closes (closes_booted booted)) = absurd (not_web es k sends.opening a sends.lives kind (booted_hooked es k sends.opening a sends.lives booted))
frames_so es bytes a (by_close k sends kind closes (closes_booted_disk booted)) = absurd (not_web es k sends.opening a sends.lives kind (disk_hooked es k sends.opening a sends.lives booted))
frames_so es bytes a (by_drive_close k sends kind closes why) = by_drive_end k sends kind closes why

-- where a RESULT stands, what lives is a drive's, or the disk that the command hooks
lives_on : (es : List Event) (cause : Cause) → Solitude es → ResultStands es cause → (k : ℕ) (o : Opening) → live k es ≡ o ∷ [] → LivesOn k es
lives_on es cause a r k o lives = by (so_far es).left refl
  where
    on_its : HoldsResult es cause → command_open es ≡ its k None → LivesOn k es
    on_its holds own = elim (over_by es cause holds) [
      | inl settled ↦ absurd (subst IsSettled own settled)
      | inr hooks ↦ as_hooked own hooks.disk hooks.answer
    ]

    by : (left : Option Cause) → (so_far es).left ≡ left → LivesOn k es
    by None at = elim ((a.running r.is_open at).own k o lives) [
      | inl own ↦ on_its (subst (λ z. HoldsOf z es cause) at r.holds) own
      | inr hooked ↦ as_drive (serves k es o lives hooked)
    ]
    by (Some given) at = as_drive (serves k es o lives (a.handed given at k o lives))

writes_so : (es : List Event) (e : Event) → Solitude es → CommandsSo es e → FramesSo es e → WritesSo es e
writes_so es (puts (sent bytes)) a c f = frames_so es bytes a f
writes_so es (puts (command depth line place expanded words)) a c f = c
writes_so es (puts (result cause)) a c f = record { is_open = c.is_open; beside = lives_on es cause a c; holds = c.holds; hooks = λ none has disk answer. (c.hooks none has disk answer).0; reads = c.reads }
writes_so es (puts (opened number kind server port own target)) a c f =
    record {
      next = c.next;
      is_open = c.is_open;
      none_left = c.none_left;
      beside = only_drives es (only_hooked es (a.running c.is_open c.none_left) (settled_for es number kind server port own target c.is_for));
      is_for = c.is_for;
    }
writes_so es (puts (step number)) a c f = tt
writes_so es (puts (done status)) a c f = c
writes_so es (puts (text bytes)) a c f = tt
writes_so es (puts (script what depth cause)) a c f = c.stands
writes_so es (puts (tried number count)) a c f = tt
writes_so es (puts (advanced number place)) a c f = tt
writes_so es (puts (ended number cause)) a c f = tt
writes_so es (puts (graph happens)) a c f = tt
writes_so es (puts (part kind index offset bytes)) a c f = tt
writes_so es (starts n s) a c f = tt
writes_so es (hears n bytes m) a c f = tt
writes_so es (waits n ms) a c f = tt
writes_so es (stops n) a c f = tt

-- WHAT IS HANDED OFF

pub handed_as_brought : (es : List Event) (outs rest : List Out) → HandsOver es outs rest → HandsOff es outs rest
handed_as_brought es outs rest hands = record { booted = hands.booted; place = hands.place; list_is = hands.list_is; before = hands.before; none = hands.none; ends = hands.ends }

pub handed_so : (es : List Event) (outs rest : List Out) → HandsEither es outs rest → HandsOff es outs rest ⊎ HandsDiskOff es outs rest
handed_so es outs rest (inl hands) = inl (handed_as_brought es outs rest hands)
handed_so es outs rest (inr hands) = inr hands

-- EACH EVENT

todays_each : (before es : List Event) → Solitude before → EachEvent StepsSo before es → EachEvent CommandsSo before es → EachEvent OpensEndSo before es → EachEvent FramesSo before es → EachEvent EndsSo before es × EachEvent WritesSo before es
todays_each before [] a steps commands ends frames = (tt, tt)
todays_each before (e ∷ es) a steps commands ends frames =
    let next = todays_each (before ++ e ∷ []) es (solitude_then before e steps.0 commands.0 ends.0 a) steps.1 commands.1 ends.1 frames.1 in
    ((ends_so before e a ends.0, next.0), (writes_so before e a commands.0 frames.0, next.1))

-- what courses keep, today's laws have
pub todays_laws : (es : List Event) → KeepsLaws es → IsLawful es
todays_laws es k =
    let t = todays_each [] es solitude_first k.steps k.commands k.ends k.frames in
    record {
      steps = k.steps;
      ends = t.0;
      writes = t.1;
      tries = k.tries;
      advances = k.advances;
      advanced = k.advanced;
      unfinished = k.unfinished;
      unhooked = k.unhooked;
      rested = k.rested;
      parts = parts_so (outputs es) k.parts;
    }
  where
    parts_so : (outs : List Out) → HandsWhatCame es outs → HandsAsBrought es outs
    parts_so outs (inl none) = inl none
    parts_so outs (inr (rest, inl hands)) = inr (inl (rest, handed_as_brought es outs rest hands))
    parts_so outs (inr (rest, inr hands)) = inr (inr (rest, hands))
