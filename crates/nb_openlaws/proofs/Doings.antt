-- What a command does, by its effect.
use Rattle.std.proofs.Common.{◌≡◌, ℕ, ◌+◌, ◌*◌, Bool, List, refl, sym, ap, ◌∙◌}
use Rattle.nb_defs.specs.Commands.{CommandOutcome}
use Rattle.nb_settings.specs.Tables.{TableLists}
use Rattle.nb_machine.specs.Effects.{Effect, says, asks, goes, sleeps, shuts_device, inquires, on_images, on_drives, hooks_disk, unhooks_drive, boots_drive, concludes_at_once, Surroundings, settled_effect, effect, effect_in, table_after, up_after}
use Rattle.nb_machine.specs.Errands.{Wanted}
use Rattle.nb_machine.specs.Queries.{Query}
use Rattle.nb_machine.specs.Conclusions.{Conclusion}
use Rattle.nb_machine.specs.Running.{Running}
use Rattle.nb_machine.proofs.Eithers.{images_either}
use Rattle.nb_machine.proofs.Words.{KeepsTable, keeps_table_in, KeepsUp, keeps_up_in}
use Rattle.nb_machine.specs.Lives.{Live}
use Rattle.nb_machine.specs.States.{State, with_settings}
use Rattle.nb_machine.specs.Scripts.{Job, fetch, job_for, live_for, transfer_for, ends, opens, goes_to, waits_until, shuts, concludes_now, surroundings, doing_by, doing, hooks_one, lets_go, boots_one}
use Rattle.nb_terms.specs.declared.cause.Cause.{Cause}
use Rattle.nb_drivecmd.specs.declared.outcome.Hooking.{Hooking}
use Rattle.nb_machine.proofs.Eithers.{drives_either}

-- the settings and the device's state that words leave
abbrev pub left_by : State → List (List ℕ) → State
left_by s ws = with_settings s (table_after s.table ws) (up_after s.table s.up ws)

-- what they come to
abbrev pub comes_to : State → Running → List (List ℕ) → Effect
comes_to s inner ws = effect_in (surroundings s inner) ws

ends_so : (s : State) (table : TableLists) (up : Bool) (e : Effect) (o : CommandOutcome) (s' : State) → doing_by s table up e ≡ ends o s' → (e ≡ says o) × (s' ≡ with_settings s table up)
ends_so s table up (on_images c) o s' is = absurd (cc)
ends_so s table up (on_drives c) o s' is = absurd (cc)
ends_so s table up (hooks_disk hooking) o s' is = absurd (cc)
ends_so s table up (unhooks_drive number cause) o s' is = absurd (cc)
ends_so s table up (boots_drive number) o s' is = absurd (cc)
ends_so s table up (concludes_at_once c) o s' is = absurd (cc)
ends_so s table up (says x) o s' is = let same : x ≡ o = cc is in let state : with_settings s table up ≡ s' = cc is in (ap says same, sym state)
ends_so s table up (asks wanted) o s' is = absurd (cc)
ends_so s table up (goes name) o s' is = absurd (cc)
ends_so s table up (sleeps seconds) o s' is = absurd (cc)
ends_so s table up shuts_device o s' is = absurd (cc)
ends_so s table up (inquires q) o s' is = absurd (cc)

pub ends_by : (s : State) (inner : Running) (ws : List (List ℕ)) (o : CommandOutcome) (s' : State) → doing s inner ws ≡ ends o s' → (comes_to s inner ws ≡ says o) × (s' ≡ left_by s ws)
ends_by s inner ws o s' is = ends_so s (table_after s.table ws) (up_after s.table s.up ws) (comes_to s inner ws) o s' is

shuts_so : (s : State) (table : TableLists) (up : Bool) (e : Effect) (s' : State) → doing_by s table up e ≡ shuts s' → (e ≡ shuts_device) × (s' ≡ with_settings s table up)
shuts_so s table up (on_images c) s' is = absurd (cc)
shuts_so s table up (on_drives c) s' is = absurd (cc)
shuts_so s table up (hooks_disk hooking) s' is = absurd (cc)
shuts_so s table up (unhooks_drive number cause) s' is = absurd (cc)
shuts_so s table up (boots_drive number) s' is = absurd (cc)
shuts_so s table up (concludes_at_once c) s' is = absurd (cc)
shuts_so s table up (says x) s' is = absurd (cc)
shuts_so s table up (asks wanted) s' is = absurd (cc)
shuts_so s table up (goes name) s' is = absurd (cc)
shuts_so s table up (sleeps seconds) s' is = absurd (cc)
shuts_so s table up shuts_device s' is = let state : with_settings s table up ≡ s' = cc is in (refl, sym state)
shuts_so s table up (inquires q) s' is = absurd (cc)

pub shuts_by : (s : State) (inner : Running) (ws : List (List ℕ)) (s' : State) → doing s inner ws ≡ shuts s' → (comes_to s inner ws ≡ shuts_device) × (s' ≡ left_by s ws)
shuts_by s inner ws s' is = shuts_so s (table_after s.table ws) (up_after s.table s.up ws) (comes_to s inner ws) s' is

goes_so : (s : State) (table : TableLists) (up : Bool) (e : Effect) (name : List ℕ) → doing_by s table up e ≡ goes_to name → e ≡ goes name
goes_so s table up (on_images c) name is = absurd (cc)
goes_so s table up (on_drives c) name is = absurd (cc)
goes_so s table up (hooks_disk hooking) name is = absurd (cc)
goes_so s table up (unhooks_drive number cause) name is = absurd (cc)
goes_so s table up (boots_drive number) name is = absurd (cc)
goes_so s table up (concludes_at_once c) name is = absurd (cc)
goes_so s table up (says x) name is = absurd (cc)
goes_so s table up (asks wanted) name is = absurd (cc)
goes_so s table up (goes other) name is = let same : other ≡ name = cc is in ap goes same
goes_so s table up (sleeps seconds) name is = absurd (cc)
goes_so s table up shuts_device name is = absurd (cc)
goes_so s table up (inquires q) name is = absurd (cc)

pub goes_by : (s : State) (inner : Running) (ws : List (List ℕ)) (name : List ℕ) → doing s inner ws ≡ goes_to name → comes_to s inner ws ≡ goes name
goes_by s inner ws name is = goes_so s (table_after s.table ws) (up_after s.table s.up ws) (comes_to s inner ws) name is

waits_so : (s : State) (table : TableLists) (up : Bool) (e : Effect) (time : ℕ) → doing_by s table up e ≡ waits_until time → (seconds : ℕ) × (e ≡ sleeps seconds) × (time ≡ s.now + 1000 * seconds)
waits_so s table up (on_images c) time is = absurd (cc)
waits_so s table up (on_drives c) time is = absurd (cc)
waits_so s table up (hooks_disk hooking) time is = absurd (cc)
waits_so s table up (unhooks_drive number cause) time is = absurd (cc)
waits_so s table up (boots_drive number) time is = absurd (cc)
waits_so s table up (concludes_at_once c) time is = absurd (cc)
waits_so s table up (says x) time is = absurd (cc)
waits_so s table up (asks wanted) time is = absurd (cc)
waits_so s table up (goes name) time is = absurd (cc)
waits_so s table up (sleeps seconds) time is = let same : s.now + 1000 * seconds ≡ time = cc is in (seconds, refl, sym same)
waits_so s table up shuts_device time is = absurd (cc)
waits_so s table up (inquires q) time is = absurd (cc)

pub waits_by : (s : State) (inner : Running) (ws : List (List ℕ)) (time : ℕ) → doing s inner ws ≡ waits_until time → (seconds : ℕ) × (comes_to s inner ws ≡ sleeps seconds) × (time ≡ s.now + 1000 * seconds)
waits_by s inner ws time is = waits_so s (table_after s.table ws) (up_after s.table s.up ws) (comes_to s inner ws) time is

-- it opens something: for a file, or for what is asked by one exchange
pub data OpensBy (s s' : State) (table : TableLists) (up : Bool) (e : Effect) (l : Live) (job : Job) : Type 0 where
  opens_transfer : (wanted : Wanted) → e ≡ asks wanted → s' ≡ s → l ≡ transfer_for s wanted → job ≡ fetch wanted → OpensBy s s' table up e l job
  opens_query : (query : Query) → e ≡ inquires query → s' ≡ with_settings s table up → l ≡ live_for (with_settings s table up) query → job ≡ job_for query → OpensBy s s' table up e l job

opens_so : (s : State) (table : TableLists) (up : Bool) (e : Effect) (s' : State) (l : Live) (job : Job) → doing_by s table up e ≡ opens s' l job → OpensBy s s' table up e l job
opens_so s table up (on_images c) s' l job is = absurd (cc)
opens_so s table up (on_drives c) s' l job is = absurd (cc)
opens_so s table up (hooks_disk hooking) s' l job is = absurd (cc)
opens_so s table up (unhooks_drive number cause) s' l job is = absurd (cc)
opens_so s table up (boots_drive number) s' l job is = absurd (cc)
opens_so s table up (concludes_at_once c) s' l job is = absurd (cc)
opens_so s table up (says x) s' l job is = absurd (cc)
opens_so s table up (asks wanted) s' l job is =
    let state : s ≡ s' = cc is in
    let live : transfer_for s wanted ≡ l = cc is in
    let work : fetch wanted ≡ job = cc is in
    opens_transfer wanted refl (sym state) (sym live) (sym work)
opens_so s table up (goes name) s' l job is = absurd (cc)
opens_so s table up (sleeps seconds) s' l job is = absurd (cc)
opens_so s table up shuts_device s' l job is = absurd (cc)
opens_so s table up (inquires q) s' l job is =
    let state : with_settings s table up ≡ s' = cc is in
    let live : live_for (with_settings s table up) q ≡ l = cc is in
    let work : job_for q ≡ job = cc is in
    opens_query q refl (sym state) (sym live) (sym work)

pub opens_by : (s : State) (inner : Running) (ws : List (List ℕ)) (s' : State) (l : Live) (job : Job) → doing s inner ws ≡ opens s' l job → OpensBy s s' (table_after s.table ws) (up_after s.table s.up ws) (comes_to s inner ws) l job
opens_by s inner ws s' l job is = opens_so s (table_after s.table ws) (up_after s.table s.up ws) (comes_to s inner ws) s' l job is

-- a command on images is settled
abbrev IsSettled : Effect → Type 0
IsSettled (on_images c) = ⊥
IsSettled (on_drives c) = ⊥
IsSettled (hooks_disk hooking) = Unit {0}
IsSettled (unhooks_drive number cause) = Unit {0}
IsSettled (boots_drive number) = Unit {0}
IsSettled (says o) = Unit {0}
IsSettled (asks wanted) = Unit {0}
IsSettled (goes name) = Unit {0}
IsSettled (sleeps seconds) = Unit {0}
IsSettled shuts_device = Unit {0}
IsSettled (inquires q) = Unit {0}
IsSettled (concludes_at_once c) = Unit {0}

settles : (x : Surroundings) (e : Effect) → IsSettled (settled_effect x e)
settles x (on_images c) = images_either IsSettled (λ o. tt) (λ y. tt) (λ wanted. tt) (λ q. tt) x c
settles x (on_drives c) = drives_either IsSettled (λ o. tt) (λ hooking. tt) (λ number cause. tt) (λ number. tt) x c
settles x (hooks_disk hooking) = tt
settles x (unhooks_drive number cause) = tt
settles x (boots_drive number) = tt
settles x (says o) = tt
settles x (asks wanted) = tt
settles x (goes name) = tt
settles x (sleeps seconds) = tt
settles x shuts_device = tt
settles x (inquires q) = tt
settles x (concludes_at_once c) = tt

words_settle : (s : State) (inner : Running) (ws : List (List ℕ)) → IsSettled (comes_to s inner ws)
unfolding effect_in
words_settle s inner ws = settles (surroundings s inner) (effect s.opens s.table ws)

concludes_so : (s : State) (table : TableLists) (up : Bool) (e : Effect) (c : Conclusion) → IsSettled e → doing_by s table up e ≡ concludes_now c → e ≡ concludes_at_once c
concludes_so s table up (concludes_at_once x) c settled is = let same : x ≡ c = cc is in ap concludes_at_once same
concludes_so s table up (on_images x) c settled is = absurd settled
concludes_so s table up (on_drives y) c settled is = absurd settled
concludes_so s table up (hooks_disk hooking) c settled is = absurd (cc)
concludes_so s table up (unhooks_drive number cause) c settled is = absurd (cc)
concludes_so s table up (boots_drive number) c settled is = absurd (cc)
concludes_so s table up (says x) c settled is = absurd (cc)
concludes_so s table up (asks wanted) c settled is = absurd (cc)
concludes_so s table up (goes name) c settled is = absurd (cc)
concludes_so s table up (sleeps seconds) c settled is = absurd (cc)
concludes_so s table up shuts_device c settled is = absurd (cc)
concludes_so s table up (inquires q) c settled is = absurd (cc)

pub concludes_by : (s : State) (inner : Running) (ws : List (List ℕ)) (c : Conclusion) → doing s inner ws ≡ concludes_now c → comes_to s inner ws ≡ concludes_at_once c
concludes_by s inner ws c is = concludes_so s (table_after s.table ws) (up_after s.table s.up ws) (comes_to s inner ws) c (words_settle s inner ws) is

-- it hooks a disk
hooks_so : (s : State) (table : TableLists) (up : Bool) (e : Effect) (hooking : Hooking) → doing_by s table up e ≡ hooks_one hooking → e ≡ hooks_disk hooking
hooks_so s table up (on_images c) hooking is = absurd (cc)
hooks_so s table up (on_drives c) hooking is = absurd (cc)
hooks_so s table up (hooks_disk x) hooking is = let same : x ≡ hooking = cc is in ap hooks_disk same
hooks_so s table up (unhooks_drive number cause) hooking is = absurd (cc)
hooks_so s table up (boots_drive number) hooking is = absurd (cc)
hooks_so s table up (concludes_at_once c) hooking is = absurd (cc)
hooks_so s table up (says x) hooking is = absurd (cc)
hooks_so s table up (asks wanted) hooking is = absurd (cc)
hooks_so s table up (goes name) hooking is = absurd (cc)
hooks_so s table up (sleeps seconds) hooking is = absurd (cc)
hooks_so s table up shuts_device hooking is = absurd (cc)
hooks_so s table up (inquires q) hooking is = absurd (cc)

pub hooks_by : (s : State) (inner : Running) (ws : List (List ℕ)) (hooking : Hooking) → doing s inner ws ≡ hooks_one hooking → comes_to s inner ws ≡ hooks_disk hooking
hooks_by s inner ws hooking is = hooks_so s (table_after s.table ws) (up_after s.table s.up ws) (comes_to s inner ws) hooking is

-- it lets a drive go
lets_so : (s : State) (table : TableLists) (up : Bool) (e : Effect) (number : ℕ) (cause : Cause) → doing_by s table up e ≡ lets_go number cause → e ≡ unhooks_drive number cause
lets_so s table up (on_images c) number cause is = absurd (cc)
lets_so s table up (on_drives c) number cause is = absurd (cc)
lets_so s table up (hooks_disk hooking) number cause is = absurd (cc)
lets_so s table up (unhooks_drive x y) number cause is = let same : x ≡ number = cc is in let also : y ≡ cause = cc is in ap (λ z. unhooks_drive z y) same ∙ ap (unhooks_drive number) also
lets_so s table up (boots_drive n) number cause is = absurd (cc)
lets_so s table up (concludes_at_once c) number cause is = absurd (cc)
lets_so s table up (says x) number cause is = absurd (cc)
lets_so s table up (asks wanted) number cause is = absurd (cc)
lets_so s table up (goes name) number cause is = absurd (cc)
lets_so s table up (sleeps seconds) number cause is = absurd (cc)
lets_so s table up shuts_device number cause is = absurd (cc)
lets_so s table up (inquires q) number cause is = absurd (cc)

pub lets_by : (s : State) (inner : Running) (ws : List (List ℕ)) (number : ℕ) (cause : Cause) → doing s inner ws ≡ lets_go number cause → comes_to s inner ws ≡ unhooks_drive number cause
lets_by s inner ws number cause is = lets_so s (table_after s.table ws) (up_after s.table s.up ws) (comes_to s inner ws) number cause is

-- it boots a drive that is hooked
boots_so : (s : State) (table : TableLists) (up : Bool) (e : Effect) (number : ℕ) → doing_by s table up e ≡ boots_one number → e ≡ boots_drive number
boots_so s table up (on_images c) number is = absurd (cc)
boots_so s table up (on_drives c) number is = absurd (cc)
boots_so s table up (hooks_disk hooking) number is = absurd (cc)
boots_so s table up (unhooks_drive n cause) number is = absurd (cc)
boots_so s table up (boots_drive n) number is = let same : n ≡ number = cc is in ap boots_drive same
boots_so s table up (concludes_at_once c) number is = absurd (cc)
boots_so s table up (says x) number is = absurd (cc)
boots_so s table up (asks wanted) number is = absurd (cc)
boots_so s table up (goes name) number is = absurd (cc)
boots_so s table up (sleeps seconds) number is = absurd (cc)
boots_so s table up shuts_device number is = absurd (cc)
boots_so s table up (inquires q) number is = absurd (cc)

pub boots_by : (s : State) (inner : Running) (ws : List (List ℕ)) (number : ℕ) → doing s inner ws ≡ boots_one number → comes_to s inner ws ≡ boots_drive number
boots_by s inner ws number is = boots_so s (table_after s.table ws) (up_after s.table s.up ws) (comes_to s inner ws) number is

-- WHAT STAYS

-- the settings stay where its effect says so, and so does the device's state
pub table_stays : (s : State) (inner : Running) (e : Effect) (ws : List (List ℕ)) → comes_to s inner ws ≡ e → KeepsTable e s.table (table_after s.table ws)
table_stays s inner e ws is = keeps_table_in (surroundings s inner) e ws is

pub up_stays : (s : State) (inner : Running) (e : Effect) (ws : List (List ℕ)) → comes_to s inner ws ≡ e → KeepsUp e s.up (up_after s.table s.up ws)
up_stays s inner e ws is = keeps_up_in (surroundings s inner) e s.up ws is
