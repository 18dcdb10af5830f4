-- What a run does next is one.
use Rattle.std.proofs.Common.{◌≡◌, ℕ, ◌<◌, ◌==◌, Bool, true, false, List, [], ◌∷◌, ◌++◌, Option, Some, None, refl, sym, ◌∙◌, ap, subst, arith, eq-eqb, ne_eqb, append-nil}
use Rattle.std.specs.Prelude.{slice_get, filter, not, Result, Ok, Err}
use Rattle.nb_defs.specs.Causes.{ok}
use Rattle.nb_defs.specs.Records.{Out, result}
use Rattle.nb_defs.specs.ScriptLines.{label_place}
use Rattle.nb_stack.specs.Client.{Client}
use Rattle.nb_machine.specs.Errands.{Onward}
use Rattle.nb_machine.specs.Running.{Running, Coming, coming, passing, leaving, beginning, entered, further}
use Rattle.nb_machine.specs.Conclusions.{Conclusion, keeps, tells, fails, boots, runs_script, conclusion_records}
use Rattle.nb_machine.specs.CommandRecords.{command_record, stopped_cause}
use Rattle.nb_machine.specs.Effects.{shown_words}
use Rattle.nb_imagecmd.specs.declared.outcome.ScriptImage.{ScriptImage}
use Rattle.nb_machine.specs.Lives.{close, Live}
use Rattle.nb_machine.specs.Kinds.{first_records}
use Rattle.nb_machine.specs.States.{State, with_images}
use Rattle.nb_machine.specs.Takings.{Over, AllTake}
use Rattle.nb_machine.specs.Scripts.{Doing, ends, opens, goes_to, waits_until, shuts, concludes_now, doing, live_onward, hooks_one, lets_go, boots_one, has_number}
use Rattle.nb_machine.specs.Courses.{down_cause, ScriptLeads, ConclusionLeads, Standing, ready, running, waiting, reaching, yielded, handing, left, handed_off, stopped, Progress, stands, Proceeds, passes, is_left, hands_back, yields, does, closes_device, concludes_there, leaves, jumps, finds_no_label, falls_asleep, opens_one, finds_no_route, opens_onward, finds_no_way, opens_no_more, hands, has_handed, is_drives_own, drives_first, DropsDrive, goes_to_hook, hooks_none, unhooks, boots_hooked, ReadsBlock}
use Rattle.nb_onecourse.specs.Answers.{AreUnended, StandsUnended}
use Rattle.nb_onecourse.proofs.EachTakes.{all_take_one}
use Rattle.nb_onecourse.proofs.Numbered.{IsNumbered, StandsNumbered}
use Rattle.nb_onecourse.proofs.OneBlock.{reads_one}
use Rattle.nb_onecourse.proofs.Unended.{doing_leaves, some_unended}
use Rattle.nb_onecourse.proofs.Nexts.{Next, still, puts, shuts_all, closes_all, next_script, next_concluded, next_ended, next_route, next_opened, next_label, next_doing, next_begun, next_coming, next_way, next_link, next_onward, next_handed, what_next, drops, without_number, asks_one, next_hooked, next_booted, asked_then}
use Rattle.nb_drivecmd.specs.declared.drive.Drive.{Drive}
use Rattle.nb_drivecmd.specs.HookedDrives.{is_drive, drive_numbered}
use Rattle.nb_terms.specs.declared.cause.Cause.{Cause}

-- these records and this place are what is next
abbrev Is : Next → ℕ → List Out → Progress → Type 0
Is still n a m = ⊥
Is (puts put p) n a m = (a ≡ put) × (m ≡ stands n p)
Is (closes_all before s p) n a m = (put : List Out) × (over : List Over) × AllTake s.devices (close stopped_cause) s.live put [] over × (a ≡ before ++ put) × (m ≡ stands n p)
Is (shuts_all first s p) n a m = (put : List Out) × (over : List Over) × AllTake s.devices (close down_cause) (drives_first s.drives s.live) put [] over × (a ≡ first ∷ put ++ (result ok ∷ [])) × (m ≡ stands n p)
Is (asks_one first s inner outer number) n a m = (put : List Out) × (p : Standing) × ReadsBlock s inner outer number None put p × (a ≡ first ∷ put) × (m ≡ stands n p)
Is (drops first s number behind p) n a m = (put : List Out) × (s' : State) × DropsDrive s number put s' × (a ≡ first ∷ put ++ behind) × (m ≡ stands n p)

is_full : (n : ℕ) → n ≡ 4096 → (n == 4096) ≡ true
is_full n e = eq-eqb n 4096 e

not_full : (n : ℕ) → n < 4096 → (n == 4096) ≡ false
not_full n h = ne_eqb n 4096 (λ e. omega (arith, h, e))

not_all : (n : ℕ) → n < 16384 → (n == 16384) ≡ false
not_all n h = ne_eqb n 16384 (λ e. omega (arith, h, e))

-- a command that begins
begun : (s : State) (inner : Running) (outer : List Running) (c : List ℕ) (cs : List (List ℕ)) (d : Doing) → coming inner ≡ beginning c cs → inner.begun < 4096 → doing s inner (c ∷ cs) ≡ d →
    next_coming s inner outer (coming inner) ≡ next_doing s inner outer (c ∷ cs) d
begun s inner outer c cs d h early e =
    ap (next_coming s inner outer) h ∙ ap (next_begun s inner outer (c ∷ cs)) (not_full inner.begun early) ∙ ap (next_doing s inner outer (c ∷ cs)) e

-- what is next by another name
named : (x y : Next) (n : ℕ) (a : List Out) (m : Progress) → x ≡ y → Is y n a m → Is x n a m
named x y n a m e h = subst (λ z. Is z n a m) (sym e) h

-- where a script runs, and where a command leads that waits for nothing
script_leads_next : (s : State) (inner : Running) (outer : List Running) (before : List Out) (image : ScriptImage) (replaces : Bool) (put : List Out) (p : Standing) (n : ℕ) →
    ScriptLeads s inner outer image replaces put p → Is (next_script s inner outer before image replaces) n (before ++ put) (stands n p)
script_leads_next s inner outer before image false put p n h = (ap (λ z. before ++ z) h.0, ap (stands n) h.1)
script_leads_next s inner outer before image true put p n h = (ap (λ z. before ++ z) h.0, ap (stands n) h.1)

leads_next : (s : State) (inner : Running) (outer : List Running) (first : Out) (x : Conclusion) (put : List Out) (p : Standing) (n : ℕ) →
    ConclusionLeads s inner outer x put p → Is (next_concluded s inner outer first x) n (first ∷ conclusion_records x ++ put) (stands n p)
leads_next s inner outer first (keeps list) put p n h = (ap (λ z. first ∷ conclusion_records (keeps list) ++ z) h.0, ap (stands n) h.1)
leads_next s inner outer first (tells list lines) put p n h = (ap (λ z. first ∷ conclusion_records (tells list lines) ++ z) h.0, ap (stands n) h.1)
leads_next s inner outer first (fails cause) put p n h = (ap (λ z. first ∷ conclusion_records (fails cause) ++ z) h.0, ap (stands n) h.1)
leads_next s inner outer first (boots list kernel) put p n (over, all, h) = (put, over, all, refl, ap (stands n) h)
leads_next s inner outer first (runs_script list image replaces) put p n h =
    script_leads_next (with_images s list) inner outer (first ∷ conclusion_records (runs_script list image replaces)) image replaces put p n h

pub is_next : (m : Progress) (a : List Out) (m' : Progress) → Proceeds m a m' → Is (what_next m.standing) m.used a m'
is_next m a m' (passes n s inner next outer h) = named _ _ n a m' (ap (next_coming s inner outer) h) (refl, refl)
is_next m a m' (is_left n s inner outer cause h) = named _ _ n a m' (ap (next_coming s inner outer) h) (refl, refl)
is_next m a m' (yields n s inner outer c cs h full) = named _ _ n a m' (ap (next_coming s inner outer) h ∙ ap (next_begun s inner outer (c ∷ cs)) (is_full inner.begun full)) (refl, refl)
is_next m a m' (does n s s' inner outer c cs o h early e k) = named _ _ n a m' (begun s inner outer c cs (ends o s') h early e ∙ ap (next_ended s inner outer (c ∷ cs) o s') k) (refl, refl)
is_next m a m' (closes_device n s s' inner outer c cs put over h early e all) = named _ _ n a m' (begun s inner outer c cs (shuts s') h early e) (put, over, all, refl, refl)
is_next m a m' (goes_to_hook n s s' inner outer c cs hooking put next h early e dropped asks) =
    named _ _ n a m' (begun s inner outer c cs (hooks_one hooking) h early e ∙ ap (next_hooked s inner outer (c ∷ cs) hooking) (ap (λ z. asked_then z hooking) (sym dropped.leaves) ∙ asks))
    (put, s', dropped, ap (λ z. command_record inner (shown_words s.table (c ∷ cs)) ∷ z) (sym (append-nil put)), ap (λ z. stands n (reaching z (entered inner) outer next)) dropped.leaves)
is_next m a m' (hooks_none n s s' inner outer c cs hooking put cause h early e dropped asks) =
    named _ _ n a m' (begun s inner outer c cs (hooks_one hooking) h early e ∙ ap (next_hooked s inner outer (c ∷ cs) hooking) (ap (λ z. asked_then z hooking) (sym dropped.leaves) ∙ asks))
    (put, s', dropped, refl, ap (λ z. stands n (running z (further inner cause) outer)) dropped.leaves)
is_next m a m' (unhooks n s s' inner outer c cs number put cause h early e dropped) =
    named _ _ n a m' (begun s inner outer c cs (lets_go number cause) h early e) (put, s', dropped, refl, ap (λ z. stands n (running z (further inner cause) outer)) dropped.leaves)
is_next m a m' (boots_hooked n s inner outer c cs number d put p h early e hooked reads) =
    named _ _ n a m' (begun s inner outer c cs (boots_one number) h early e ∙ ap (next_booted s inner outer (c ∷ cs)) hooked) (put, p, reads, refl, refl)
is_next m a m' (leaves n s s' inner outer c cs o h early e k) = named _ _ n a m' (begun s inner outer c cs (ends o s') h early e ∙ ap (next_ended s inner outer (c ∷ cs) o s') k) (refl, refl)
is_next m a m' (jumps n s inner outer c cs name line h early e k) = named _ _ n a m' (begun s inner outer c cs (goes_to name) h early e ∙ ap (next_label s inner outer (c ∷ cs)) k) (refl, refl)
is_next m a m' (finds_no_label n s inner outer c cs name h early e k) = named _ _ n a m' (begun s inner outer c cs (goes_to name) h early e ∙ ap (next_label s inner outer (c ∷ cs)) k) (refl, refl)
is_next m a m' (falls_asleep n s inner outer c cs time h early e) = named _ _ n a m' (begun s inner outer c cs (waits_until time) h early e) (refl, refl)
is_next m a m' (opens_one n s s' inner outer c cs l job link put h early e got way) =
    named _ _ n a m' (begun s inner outer c cs (opens s' l job) h early e ∙ ap (next_opened s inner outer (c ∷ cs) s' l job) got ∙ ap (next_route s inner outer (c ∷ cs) s' l job) way) (refl, refl)
is_next m a m' (finds_no_route n s s' inner outer c cs l job link h early e got way) =
    named _ _ n a m' (begun s inner outer c cs (opens s' l job) h early e ∙ ap (next_opened s inner outer (c ∷ cs) s' l job) got ∙ ap (next_route s inner outer (c ∷ cs) s' l job) way) (refl, refl)
is_next m a m' (opens_onward n s inner outer next link put few got way) =
    named _ _ n a m' (ap (next_onward s inner outer next) (not_all s.opens few) ∙ ap (next_link s inner outer next) got ∙ ap (next_way s inner outer next) way) (refl, refl)
is_next m a m' (finds_no_way n s inner outer next link few got way) =
    named _ _ n a m' (ap (next_onward s inner outer next) (not_all s.opens few) ∙ ap (next_link s inner outer next) got ∙ ap (next_way s inner outer next) way) (refl, refl)
is_next m a m' (opens_no_more n s inner outer next full) = named _ _ n a m' (ap (next_onward s inner outer next) (eq-eqb s.opens 16384 full)) (refl, refl)
is_next m a m' (hands_back n s inner outer cause) = (refl, refl)
is_next m a m' (concludes_there n s inner outer c cs x put p h early e leads) =
    named _ _ n a m' (begun s inner outer c cs (concludes_now x) h early e) (leads_next s (entered inner) outer (command_record inner (shown_words s.table (c ∷ cs))) x put p n leads)
is_next m a m' (hands n s r rest) = (refl, refl)
is_next m a m' (has_handed n s) = (refl, refl)

-- the opens of the drives of this number
abbrev pub drives_own : State → ℕ → List Live
drives_own s number = filter (is_drives_own (filter (is_drive number) s.drives)) s.live

-- where all that lives is closed, nothing of it has ended; nor where a drive is asked, and the numbers of those that live rise
abbrev NextUnended : Next → Type 0
NextUnended still = Unit {0}
NextUnended (puts put p) = Unit {0}
NextUnended (shuts_all first s p) = AreUnended (drives_first s.drives s.live)
NextUnended (asks_one first s inner outer number) = AreUnended s.live × IsNumbered s
NextUnended (drops first s number behind p) = AreUnended (drives_own s number)
NextUnended (closes_all before s p) = AreUnended s.live

-- two moves of one place are one
pub record SameMove (a b : List Out) (m m' : Progress) : Type 0 where
  pub records : a ≡ b
  pub places : m ≡ m'

is_one : (x : Next) (n : ℕ) (a b : List Out) (m m' : Progress) → NextUnended x → Is x n a m → Is x n b m' → SameMove a b m m'
is_one still n a b m m' u h g = absurd h
is_one (puts put p) n a b m m' u h g = record { records = h.0 ∙ sym g.0; places = h.1 ∙ sym g.1 }
is_one (shuts_all first s p) n a b m m' u (put, over, all, ea, em) (put', over', all', eb, en) =
    let t = all_take_one s.devices (close down_cause) (drives_first s.drives s.live) put put' [] [] over over' u all all' in
    record { records = ea ∙ ap (λ z. first ∷ z ++ (result ok ∷ [])) t.records ∙ sym eb; places = em ∙ sym en }
is_one (closes_all before s p) n a b m m' u (put, over, all, ea, em) (put', over', all', eb, en) =
    let t = all_take_one s.devices (close stopped_cause) s.live put put' [] [] over over' u all all' in
    record { records = ea ∙ ap (λ z. before ++ z) t.records ∙ sym eb; places = em ∙ sym en }
is_one (asks_one first s inner outer number) n a b m m' u (put, p, h, ea, em) (put', p', g, eb, en) =
    let k = reads_one s inner outer number None put put' p p' u.0 u.1 h g in
    record { records = ea ∙ ap (λ z. first ∷ z) k.records ∙ sym eb; places = em ∙ ap (stands n) k.standing ∙ sym en }
is_one (drops first s number behind p) n a b m m' u (put, s1, d, ea, em) (put', s2, d', eb, en) =
    let t = all_take_one s.devices (close stopped_cause) (drives_own s number) put put' [] [] d.over d'.over u d.closes d'.closes in
    record { records = ea ∙ ap (λ z. first ∷ z ++ behind) t.records ∙ sym eb; places = em ∙ sym en }

-- some of them
unended_two : (xs ys : List Live) → AreUnended xs → AreUnended ys → AreUnended (xs ++ ys)
unended_two [] ys u v = v
unended_two (x ∷ xs) ys u v = (u.0, unended_two xs ys u.1 v)

unended_first : (drives : List Drive) (ls : List Live) → AreUnended ls → AreUnended (drives_first drives ls)
unended_first [] ls u = u
unended_first (d ∷ drives) ls u =
    unended_two (filter (has_number d.open_number) ls) (drives_first drives (filter (λ l. not (has_number d.open_number l)) ls)) (some_unended (has_number d.open_number) ls u)
    (unended_first drives (filter (λ l. not (has_number d.open_number l)) ls) (some_unended (λ l. not (has_number d.open_number l)) ls u))

script_next : (s : State) (inner : Running) (outer : List Running) (before : List Out) (image : ScriptImage) (replaces : Bool) → NextUnended (next_script s inner outer before image replaces)
script_next s inner outer before image false = tt
script_next s inner outer before image true = tt

concluded_next : (s : State) (inner : Running) (outer : List Running) (first : Out) (x : Conclusion) → AreUnended s.live → NextUnended (next_concluded s inner outer first x)
concluded_next s inner outer first (keeps list) u = tt
concluded_next s inner outer first (tells list lines) u = tt
concluded_next s inner outer first (fails cause) u = tt
concluded_next s inner outer first (boots list kernel) u = u
concluded_next s inner outer first (runs_script list image replaces) u = script_next (with_images s list) inner outer (first ∷ conclusion_records (runs_script list image replaces)) image replaces

doing_next : (s : State) (inner : Running) (outer : List Running) (ws : List (List ℕ)) (d : Doing) → doing s inner ws ≡ d → AreUnended s.live → IsNumbered s → NextUnended (next_doing s inner outer ws d)
doing_next s inner outer ws (ends o s') e u f = by_leaving o.leaves
  where
    by_leaving : (b : Bool) → NextUnended (next_ended s inner outer ws o s' b)
    by_leaving true = tt
    by_leaving false = tt
doing_next s inner outer ws (opens s' l job) e u f = by_link (slice_get s'.devices l.device)
  where
    by_route : (put : Option (List Out)) → NextUnended (next_route s inner outer ws s' l job put)
    by_route None = tt
    by_route (Some put) = tt

    by_link : (link : Option Client) → NextUnended (next_opened s inner outer ws s' l job link)
    by_link None = tt
    by_link (Some link) = by_route (first_records l.kind l link)
doing_next s inner outer ws (goes_to name) e u f = by_line (label_place name inner.code)
  where
    by_line : (line : Option ℕ) → NextUnended (next_label s inner outer ws line)
    by_line None = tt
    by_line (Some line) = tt
doing_next s inner outer ws (waits_until time) e u f = tt
doing_next s inner outer ws (concludes_now x) e u f = concluded_next s (entered inner) outer (command_record inner (shown_words s.table ws)) x u
doing_next s inner outer ws (hooks_one hooking) e u f = by_asked (asked_then (without_number s hooking.number) hooking)
  where
    by_asked : (r : Result Onward Cause) → NextUnended (next_hooked s inner outer ws hooking r)
    by_asked (Ok next) = some_unended (is_drives_own (filter (is_drive hooking.number) s.drives)) s.live u
    by_asked (Err cause) = some_unended (is_drives_own (filter (is_drive hooking.number) s.drives)) s.live u
doing_next s inner outer ws (lets_go number cause) e u f = some_unended (is_drives_own (filter (is_drive number) s.drives)) s.live u
doing_next s inner outer ws (boots_one number) e u f = by_drive (drive_numbered number s.drives)
  where
    by_drive : (d : Option Drive) → NextUnended (next_booted s inner outer ws d)
    by_drive None = tt
    by_drive (Some d) = (u, f)
doing_next s inner outer ws (shuts s') e u f = unended_first s'.drives s'.live (subst AreUnended (sym (doing_leaves s inner ws (shuts s') e)) u)

coming_next : (s : State) (inner : Running) (outer : List Running) (x : Coming) → AreUnended s.live → IsNumbered s → NextUnended (next_coming s inner outer x)
coming_next s inner outer (passing next) u f = tt
coming_next s inner outer (leaving cause) u f = tt
coming_next s inner outer (beginning c cs) u f = by_count (inner.begun == 4096)
  where
    by_count : (b : Bool) → NextUnended (next_begun s inner outer (c ∷ cs) b)
    by_count true = tt
    by_count false = doing_next s inner outer (c ∷ cs) (doing s inner (c ∷ cs)) refl u f

onward_next : (s : State) (inner : Running) (outer : List Running) (next : Onward) (full : Bool) → NextUnended (next_onward s inner outer next full)
onward_next s inner outer next true = tt
onward_next s inner outer next false = by_link (slice_get s.devices (live_onward s next).device)
  where
    by_way : (put : Option (List Out)) → NextUnended (next_way s inner outer next put)
    by_way None = tt
    by_way (Some put) = tt

    by_link : (link : Option Client) → NextUnended (next_link s inner outer next link)
    by_link None = tt
    by_link (Some link) = by_way (first_records (live_onward s next).kind (live_onward s next) link)

handed_next : (s : State) (rest : List Out) → NextUnended (next_handed s rest)
handed_next s [] = tt
handed_next s (r ∷ rest) = tt

next_unended : (p : Standing) → StandsUnended p → StandsNumbered p → NextUnended (what_next p)
next_unended ready u f = tt
next_unended (running s inner outer) u f = coming_next s inner outer (coming inner) u f
next_unended (waiting s w) u f = tt
next_unended (reaching s inner outer next) u f = onward_next s inner outer next (s.opens == 16384)
next_unended (yielded s inner outer) u f = tt
next_unended (handing s rest) u f = handed_next s rest
next_unended (left s [] cause) u f = tt
next_unended (left s (inner ∷ outer) cause) u f = tt
next_unended (handed_off s) u f = tt
next_unended (stopped s) u f = tt

pub proceeds_one : (m : Progress) (a b : List Out) (m1 m2 : Progress) → StandsUnended m.standing → StandsNumbered m.standing → Proceeds m a m1 → Proceeds m b m2 → SameMove a b m1 m2
proceeds_one m a b m1 m2 u f v w = is_one (what_next m.standing) m.used a b m1 m2 (next_unended m.standing u f) (is_next m a m1 v) (is_next m b m2 w)

pub still_proceeds : (m : Progress) (a : List Out) (m' : Progress) → what_next m.standing ≡ still → Proceeds m a m' → ⊥
still_proceeds m a m' e v = subst (λ z. Is z m.used a m') e (is_next m a m' v)
