-- The device of a course is the client that the history says, and each frame is read as it stands then.
use Rattle.std.proofs.Common.{◌≡◌, ℕ, Bool, true, false, List, [], ◌∷◌, ◌++◌, Option, Some, None, subst, refl, sym, ◌∙◌, ap}
use Rattle.nb_defs.specs.Records.{Out, step, sent, text, command, result, script, opened, tried, advanced, ended, graph, part, done}
use Rattle.nb_stack.specs.Client.{Client}
use Rattle.nb_terms.specs.declared.cause.Cause.{Cause}
use Rattle.nb_defs.specs.ScriptLines.{script_reading}
use Rattle.nb_machine.specs.Conclusions.{Conclusion, keeps, tells, fails, boots, runs_script}
use Rattle.nb_machine.specs.FirstText.{text_refusal}
use Rattle.nb_machine.specs.Running.{Running, entered}
use Rattle.nb_machine.specs.Effects.{Effect}
use Rattle.nb_machine.specs.Link.{link_by}
use Rattle.nb_machine.specs.Lives.{Live}
use Rattle.nb_machine.specs.States.{State, following, with_images, with_live, with_opened, with_one_made}
use Rattle.nb_machine.specs.Scripts.{Job, live_onward}
use Rattle.nb_machine.specs.Courses as course
use Rattle.nb_machine.specs.Courses.{Standing, Progress, text_standing, ConclusionLeads, Proceeds, DropsDrive, ReadsBlock, block_standing}
use Rattle.nb_laws.specs.Events.{Event, puts, EachEvent}
use Rattle.nb_laws.specs.Histories.{IsRead, client}
use Rattle.nb_laws.specs.CommandsSoFar.{so_far}
use Rattle.nb_laws.proofs.Histories.{client_linked}
use Rattle.nb_laws.proofs.Tellings.{told, client_told}
use Rattle.nb_openlaws.specs.Standings.{AgreesDevice}
use Rattle.nb_openlaws.proofs.Doings.{left_by, ends_by, shuts_by, OpensBy, opens_transfer, opens_query, opens_by}
use Rattle.nb_lawful.specs.Results.{CommandsSo}
use Rattle.nb_lawful.specs.ScriptAgreement.{SettingsAre, ScriptsAgree}
use Rattle.nb_drivecmd.specs.declared.drive.Drive.{Drive}
use Rattle.nb_machine.specs.Takings.{Over}

-- while a script runs or waits, the device is the client of the history
abbrev pub DeviceAgrees : List Event → Standing → Type 0
DeviceAgrees es course.ready = Unit {0}
DeviceAgrees es (course.running s inner outer) = AgreesDevice es s
DeviceAgrees es (course.waiting s w) = AgreesDevice es s
DeviceAgrees es (course.reaching s inner outer next) = AgreesDevice es s
DeviceAgrees es (course.yielded s inner outer) = AgreesDevice es s
DeviceAgrees es (course.handing s rest) = Unit {0}
DeviceAgrees es (course.left s outer cause) = AgreesDevice es s
DeviceAgrees es (course.handed_off s) = Unit {0}
DeviceAgrees es (course.stopped s) = Unit {0}

-- WRITTEN RECORDS ARE NO STEPS

stands_read : (before : List Event) (o : Out) → CommandsSo before (puts o) → IsRead before (puts o)
stands_read before (step number) h = absurd h
stands_read before (sent bytes) h = tt
stands_read before (text bytes) h = tt
stands_read before (command depth line place expanded words) h = tt
stands_read before (result cause) h = tt
stands_read before (script what depth cause) h = tt
stands_read before (opened number kind server port own target) h = tt
stands_read before (tried number count) h = tt
stands_read before (advanced number place) h = tt
stands_read before (ended number cause) h = tt
stands_read before (graph happens) h = tt
stands_read before (part kind index offset bytes) h = tt
stands_read before (done status) h = tt

pub told_read : (es : List Event) (outs : List Out) → EachEvent CommandsSo es (told outs) → EachEvent IsRead es (told outs)
told_read es [] h = tt
told_read es (o ∷ outs) h = (stands_read es o h.0, told_read (es ++ puts o ∷ []) outs h.1)

-- THE CLIENT AFTER RECORDS

-- its settings and its state follow those of the state
follows_to : (es : List Event) (outs : List Out) (devices : List Client) (s' : State) (still : Bool) → devices ≡ client es ∷ [] → SettingsAre (so_far (es ++ told outs)) s' still → following s'.table s'.up devices ≡ client (es ++ told outs) ∷ []
follows_to es outs devices s' still is settings =
    ap (following s'.table s'.up) is
    ∙ ap (λ c. c ∷ []) (sym (client_told es outs ∙ ap (λ t. link_by t (so_far (es ++ told outs)).up (client es)) settings.table ∙ ap (λ u. link_by s'.table u (client es)) settings.up))

pub device_moves : (es : List Event) (outs : List Out) (s s' : State) (still : Bool) → s'.devices ≡ following s'.table s'.up s.devices → AgreesDevice es s → SettingsAre (so_far (es ++ told outs)) s' still → AgreesDevice (es ++ told outs) s'
device_moves es outs s s' still is d settings = is ∙ follows_to es outs s.devices s' still d settings

-- they stay
pub device_stays : {before after : Bool} (es : List Event) (outs : List Out) (s s' : State) → s'.devices ≡ s.devices → s'.table ≡ s.table → s'.up ≡ s.up → AgreesDevice es s → SettingsAre (so_far es) s before → SettingsAre (so_far (es ++ told outs)) s' after → AgreesDevice (es ++ told outs) s'
device_stays es outs s s' devices table up d settings later =
    devices ∙ d ∙ ap (λ c. c ∷ []) (sym (client_told es outs
    ∙ ap (λ t. link_by t (so_far (es ++ told outs)).up (client es)) (later.table ∙ table ∙ sym settings.table)
    ∙ ap (λ u. link_by (so_far es).table u (client es)) (later.up ∙ up ∙ sym settings.up)
    ∙ client_linked es))

-- where a conclusion leads
text_device : {still : Bool} (es : List Event) (more outs : List Out) (s s' : State) (new : Running) (outer : List Running) (refused : Option Cause) → s'.devices ≡ s.devices → s'.table ≡ s.table → s'.up ≡ s.up → AgreesDevice es s → SettingsAre (so_far es) s still →
    ScriptsAgree (es ++ told more) outs (text_standing s' new outer refused) → DeviceAgrees (es ++ told more) (text_standing s' new outer refused)
text_device {still} es more outs s s' new outer None devices table up d settings later = device_stays es more s s' devices table up d settings later.1
text_device {still} es more outs s s' new outer (Some cause) devices table up d settings later = device_stays es more s s' devices table up d settings later.3

pub concludes_device : {still : Bool} (es : List Event) (more : List Out) (s : State) (inner : Running) (outer : List Running) (c : Conclusion) (put : List Out) (p : Standing) (outs : List Out) → ConclusionLeads s inner outer c put p → AgreesDevice es s →
    SettingsAre (so_far es) s still → ScriptsAgree (es ++ told more) outs p → DeviceAgrees (es ++ told more) p
concludes_device {still} es more s inner outer (keeps list) put p outs (none, is) d settings later =
    subst (DeviceAgrees (es ++ told more)) (sym is) (device_stays es more s (with_images s list) refl refl refl d settings (subst (ScriptsAgree (es ++ told more) outs) is later).1)
concludes_device {still} es more s inner outer (tells list lines) put p outs (none, is) d settings later =
    subst (DeviceAgrees (es ++ told more)) (sym is) (device_stays es more s (with_images s list) refl refl refl d settings (subst (ScriptsAgree (es ++ told more) outs) is later).1)
concludes_device {still} es more s inner outer (fails cause) put p outs (none, is) d settings later =
    subst (DeviceAgrees (es ++ told more)) (sym is) (device_stays es more s s refl refl refl d settings (subst (ScriptsAgree (es ++ told more) outs) is later).1)
concludes_device {still} es more s inner outer (boots list kernel) put p outs (over, all, is) d settings later = subst (DeviceAgrees (es ++ told more)) (sym is) tt
concludes_device {still} es more s inner outer (runs_script list image false) put p outs (puts_so, is) d settings later =
    subst (DeviceAgrees (es ++ told more)) (sym is) (text_device es more outs s (with_images s list) _ (inner ∷ outer) (text_refusal (script_reading image.text)) refl refl refl d settings (subst (ScriptsAgree (es ++ told more) outs) is later))
concludes_device {still} es more s inner outer (runs_script list image true) put p outs (puts_so, is) d settings later =
    subst (DeviceAgrees (es ++ told more)) (sym is) (text_device es more outs s (with_images s list) _ outer (text_refusal (script_reading image.text)) refl refl refl d settings (subst (ScriptsAgree (es ++ told more) outs) is later))

-- A MOVE

pub opens_device : (es : List Event) (outs : List Out) (s s' t : State) (ws : List (List ℕ)) (l : Live) (job : Job) (e : Effect) (still : Bool) → OpensBy s s' (left_by s ws).table (left_by s ws).up e l job → t.devices ≡ s'.devices → t.table ≡ s'.table → t.up ≡ s'.up →
    AgreesDevice es s → SettingsAre (so_far es) s false → SettingsAre (so_far (es ++ told outs)) t still → AgreesDevice (es ++ told outs) t
opens_device es outs s s' t ws l job e still (opens_transfer wanted is state live work) devices table up d settings later =
    device_stays es outs s t (devices ∙ ap (λ (z : State). z.devices) state) (table ∙ ap (λ (z : State). z.table) state) (up ∙ ap (λ (z : State). z.up) state) d settings later
opens_device es outs s s' t ws l job e still (opens_query query is state live work) devices table up d settings later =
    device_moves es outs s t still (devices ∙ ap (λ (z : State). z.devices) state ∙ ap (λ z. following z (left_by s ws).up s.devices) (sym (table ∙ ap (λ (z : State). z.table) state)) ∙ ap (λ z. following t.table z s.devices) (sym (up ∙ ap (λ (z : State). z.up) state))) d later

-- a drive is closed
dropped_device : {before after : Bool} (es : List Event) (outs : List Out) (s s' : State) (number : ℕ) (put : List Out) → DropsDrive s number put s' → AgreesDevice es s → SettingsAre (so_far es) s before → SettingsAre (so_far (es ++ told outs)) s' after →
    AgreesDevice (es ++ told outs) s'
dropped_device es outs s s' number put d device settings later =
    device_stays es outs s s' (ap (λ (z : State). z.devices) d.leaves) (ap (λ (z : State). z.table) d.leaves) (ap (λ (z : State). z.up) d.leaves) device settings later

-- a drive is asked for its first block
pub reads_device : {still : Bool} (es : List Event) (more outs : List Out) (s : State) (inner : Running) (outer : List Running) (number : ℕ) (x : Option Drive) (put : List Out) (p : Standing) → ReadsBlock s inner outer number x put p →
    AgreesDevice es s → SettingsAre (so_far es) s still →
    ScriptsAgree (es ++ told more) outs p → DeviceAgrees (es ++ told more) p
reads_device {still} es more outs s inner outer number x put p r d settings later = by r.over refl
  where
    stays : {after : Bool} → SettingsAre (so_far (es ++ told more)) r.next after → AgreesDevice (es ++ told more) r.next
    stays {after} then = device_stays es more s r.next (ap (λ (z : State). z.devices) r.asks.leaves) (ap (λ (z : State). z.table) r.asks.leaves) (ap (λ (z : State). z.up) r.asks.leaves) d settings then

    by : (over : List Over) → r.over ≡ over → DeviceAgrees (es ++ told more) p
    by [] is =
        let at = r.stands_so ∙ ap (block_standing r.next inner outer number x) is in
        subst (DeviceAgrees (es ++ told more)) (sym at) (stays (subst (ScriptsAgree (es ++ told more) outs) at later).1)
    by (o ∷ over) is =
        let at = r.stands_so ∙ ap (block_standing r.next inner outer number x) is in
        subst (DeviceAgrees (es ++ told more)) (sym at) (stays (subst (ScriptsAgree (es ++ told more) outs) at later).1)

pub move_device : (es : List Event) (outs : List Out) (m : Progress) (added : List Out) (m2 : Progress) → Proceeds m added m2 → DeviceAgrees es m.standing → ScriptsAgree es outs m.standing → ScriptsAgree (es ++ told added) (outs ++ added) m2.standing → DeviceAgrees (es ++ told added) m2.standing
move_device es outs m added m2 (course.passes n s inner next outer comes) d h later = device_stays es [] s s refl refl refl d h.1 later.1
move_device es outs m added m2 (course.is_left n s inner outer cause comes) d h later = device_stays es added s s refl refl refl d h.1 later.3
move_device es outs m added m2 (course.hands_back n s inner outer cause) d h later = device_stays es added s s refl refl refl d h.3 later.1
move_device es outs m added m2 (course.concludes_there n s inner outer c cs x put p comes few is leads) d h later = concludes_device es added s (entered inner) outer x put p (outs ++ added) leads d h.1 later
move_device es outs m added m2 (course.yields n s inner outer c cs comes full) d h later = device_stays es [] s s refl refl refl d h.1 later.1
move_device es outs m added m2 (course.does n s s2 inner outer c cs x comes few is stays) d h later =
    let same = (ends_by s inner (c ∷ cs) x s2 is).1 in
    device_moves es added s s2 false (ap (λ (z : State). z.devices) same ∙ ap (λ (z : State). following z.table z.up s.devices) (sym same)) d later.1
move_device es outs m added m2 (course.closes_device n s s2 inner outer c cs put over comes few is all) d h later =
    let same = (shuts_by s inner (c ∷ cs) s2 is).1 in
    device_moves es added s (with_live s2 []) false (ap (λ (z : State). z.devices) same ∙ ap (λ (z : State). following z.table z.up s.devices) (sym same)) d later.1
move_device es outs m added m2 (course.goes_to_hook n s s2 inner outer c cs hooking put next comes few is drops asks) d h later = dropped_device es added s s2 hooking.number put drops d h.1 later.1
move_device es outs m added m2 (course.hooks_none n s s2 inner outer c cs hooking put cause comes few is drops asks) d h later = dropped_device es added s s2 hooking.number put drops d h.1 later.1
move_device es outs m added m2 (course.unhooks n s s2 inner outer c cs number put cause comes few is drops) d h later = dropped_device es added s s2 number put drops d h.1 later.1
move_device es outs m added m2 (course.boots_hooked n s inner outer c cs number x put p comes few is got reads) d h later = reads_device es added (outs ++ added) s (entered inner) outer x.open_number None put p reads d h.1 later
move_device es outs m added m2 (course.leaves n s s2 inner outer c cs x comes few is away) d h later =
    let same = (ends_by s inner (c ∷ cs) x s2 is).1 in
    device_moves es added s s2 (so_far (es ++ told added)).is_open (ap (λ (z : State). z.devices) same ∙ ap (λ (z : State). following z.table z.up s.devices) (sym same)) d later.3
move_device es outs m added m2 (course.jumps n s inner outer c cs name line comes few is there) d h later = device_stays es added s s refl refl refl d h.1 later.1
move_device es outs m added m2 (course.finds_no_label n s inner outer c cs name comes few is none) d h later = device_stays es added s s refl refl refl d h.1 later.1
move_device es outs m added m2 (course.falls_asleep n s inner outer c cs t comes few is) d h later = device_stays es added s s refl refl refl d h.1 later.1
move_device es outs m added m2 (course.opens_one n s s2 inner outer c cs l job link put comes few is got first) d h later =
    opens_device es added s s2 (with_opened s2 l) (c ∷ cs) l job _ true (opens_by s inner (c ∷ cs) s2 l job is) refl refl refl d h.1 later.1
move_device es outs m added m2 (course.finds_no_route n s s2 inner outer c cs l job link comes few is got none) d h later =
    opens_device es added s s2 (with_one_made s2) (c ∷ cs) l job _ false (opens_by s inner (c ∷ cs) s2 l job is) refl refl refl d h.1 later.1
move_device es outs m added m2 (course.opens_onward n s inner outer next link put few got first) d h later = device_stays es added s (with_opened s (live_onward s next)) refl refl refl d h.1 later.1
move_device es outs m added m2 (course.finds_no_way n s inner outer next link few got none) d h later = device_stays es added s (with_one_made s) refl refl refl d h.1 later.1
move_device es outs m added m2 (course.opens_no_more n s inner outer next full) d h later = device_stays es added s s refl refl refl d h.1 later.1
move_device es outs m added m2 (course.hands n s r rest) d h later = tt
move_device es outs m added m2 (course.has_handed n s) d h later = tt
