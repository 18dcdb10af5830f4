-- A record is used: what its step does to the settings, the command and the open that it waits for.
use Rattle.std.proofs.Common.{◌≡◌, ◌⊎◌, inl, inr, ℕ, ◌+◌, ◌==◌, Bool, true, false, List, [], ◌∷◌, ◌++◌, Option, refl, sym, ◌∙◌, ap, subst, append_assoc, append-nil, add-zero, eq-eqb}
use Rattle.std.specs.List.{AllByRecursion}
use Rattle.nb_defs.specs.Records.{In, Out, step}
use Rattle.nb_stack.specs.Client.{Client}
use Rattle.nb_machine.specs.Kinds.{reply_beside}
use Rattle.nb_machine.specs.CommandRecords.{reply_records}
use Rattle.nb_machine.specs.Running.{Running, anew}
use Rattle.nb_streams.proofs.FlowLaws.{all_append}
use Rattle.nb_machine.specs.Lives.{OpenInput, Live}
use Rattle.nb_machine.specs.States.{State}
use Rattle.nb_machine.specs.Takings.{Over, AllTake}
use Rattle.nb_machine.specs.Network.{Network, passes_by, brings, brings_reply, brings_segment, passes_time}
use Rattle.nb_laws.specs.Events.{Event, starts, hears, waits, stops, puts}
use Rattle.nb_laws.specs.Lists.{time, ms_of, commands_by, commands_begun, hardware, hardware_by}
use Rattle.nb_laws.specs.CommandsSoFar.{CommandsSoFar, so_far, so_far_by}
use Rattle.nb_laws.specs.Moves.{moves_by, moves}
use Rattle.nb_laws.specs.Agreement.{AgreesScript}
use Rattle.nb_laws.proofs.Histories.{hardware_more, time_more}
use Rattle.nb_laws.proofs.Tellings.{told}
use Rattle.nb_laws.proofs.Commands.{script_used, script_told}
use Rattle.nb_laws.proofs.Moved.{moves_more}
use Rattle.nb_laws.proofs.SoFar.{so_far_more}
use Rattle.nb_openlaws.proofs.UsedEvents.{IsUsed, IsFurther}
use Rattle.nb_openlaws.proofs.Puts.{AreQuiet, take_quiet}
use Rattle.nb_laws.specs.CommandOpens.{CommandOpen, command_open_by, command_open}
use Rattle.nb_lawful.specs.Results.{CommandsSo}
use Rattle.nb_lawful.specs.ScriptAgreement.{SettingsAre, IsAnother, IsNoTask, HasImages, NoneLeft, HasDrives}
use Rattle.nb_lawful.proofs.Quiet.{reply_quiet, quiet_so_far, quiet_begin, quiet_parts, quiet_scripts, command_open_more}
use Rattle.nb_lawful.proofs.Awaited.{IsBeside, AreBeside, last_view, others_took, with_exchanges, Took, took_on, took_last, TookAmid, amid_on, amid_last, took_amid, snoc_both, took}
use Rattle.nb_lawful.proofs.AtOnce.{images_as}
use Rattle.nb_lawful.proofs.Opened.{told_hardware}
use Rattle.nb_lawful.proofs.HookedLives.{KeepsSome, drives_keep, network_keeps}

-- WHAT THE NETWORK LEAVES

-- the settings, the images and how many opens were made; and the records are those of opens, or replies
pub record Leaves (s s' : State) (put : List Out) : Type 0 where
  pub table : s'.table ≡ s.table
  pub up : s'.up ≡ s.up
  pub images : s'.images ≡ s.images
  pub opens : s'.opens ≡ s.opens
  pub quiet : AreQuiet put
  pub some : (m : CommandsSoFar) → HasDrives m s → KeepsSome s s'

-- all but the drives
record LeavesRest (s s' : State) (put : List Out) : Type 0 where
  table : s'.table ≡ s.table
  up : s'.up ≡ s.up
  images : s'.images ≡ s.images
  opens : s'.opens ≡ s.opens
  quiet : AreQuiet put

network_rest : (s s' : State) (n : ℕ) (r : In) (put : List Out) (over : List Over) → Network s n r put s' over → LeavesRest s s' put
network_rest s s' n r put over (passes_by _ device bytes link m on got brought none) = record { table = refl; up = refl; images = refl; opens = refl; quiet = reply_quiet (reply_beside device s.live link m) }
network_rest s s' n r put over (brings _ device bytes link p d before behind after l _ _ on got brought is mine before_none behind_none takes) = record { table = refl; up = refl; images = refl; opens = refl; quiet = take_quiet _ _ _ _ _ _ takes }
network_rest s s' n r put over (brings_reply _ device bytes link p e before behind after l _ _ on got brought is mine before_none behind_none takes) = record { table = refl; up = refl; images = refl; opens = refl; quiet = take_quiet _ _ _ _ _ _ takes }
network_rest s s' n r put over (brings_segment _ device bytes link from p g before behind after l _ _ on got brought is mine before_none behind_none takes) = record { table = refl; up = refl; images = refl; opens = refl; quiet = take_quiet _ _ _ _ _ _ takes }
network_rest s s' n r put over (passes_time ms after _ _ takes) = record { table = refl; up = refl; images = refl; opens = refl; quiet = take_quiet _ _ _ _ _ _ takes }

pub network_leaves : (s s' : State) (n : ℕ) (r : In) (put : List Out) (over : List Over) → Network s n r put s' over → Leaves s s' put
network_leaves s s' n r put over net =
    let rest = network_rest s s' n r put over net in
    record { table = rest.table; up = rest.up; images = rest.images; opens = rest.opens; quiet = rest.quiet; some = λ m h. network_keeps m s s' n r put over net rest.opens h }

-- THE COMMAND'S OPEN

all_front : {A : Type 0} (P : A → Type 0) (xs ys : List A) → AllByRecursion P (xs ++ ys) → AllByRecursion P xs
all_front P [] ys h = tt
all_front P (x ∷ xs) ys h = (h.0, all_front P xs ys h.1)

all_back : {A : Type 0} (P : A → Type 0) (xs ys : List A) → AllByRecursion P (xs ++ ys) → AllByRecursion P ys
all_back P [] ys h = h
all_back P (x ∷ xs) ys h = all_back P xs ys h.1

-- only one open takes what came
one_took : (devices : List Client) (input : OpenInput) (live before behind after : List Live) (l1 : Live) (put : List Out) (over : List Over) → live ≡ before ++ l1 ∷ behind → AllTake devices input (l1 ∷ []) put after over → IsNoTask input →
    (earlier : List Live) (l : Live) → live ≡ earlier ++ l ∷ [] → AllByRecursion (IsAnother l.number) earlier → Took l.number l put (before ++ after ++ behind) over
one_took devices input live before behind after l1 put over is takes untask earlier l last h = by (last_view behind)
  where
    by_last : before ≡ earlier → l1 ≡ l → behind ≡ [] → Took l.number l put after over → Took l.number l put (before ++ after ++ behind) over
    by_last same here none (took_on front xs at all missing beside plain) =
        took_on (before ++ front) xs
        (ap (λ z. (before ++ after) ++ z) none ∙ append-nil (before ++ after) ∙ ap (λ z. before ++ z) at ∙ sym (append_assoc before front (with_exchanges l xs ∷ [])))
        (all_append (IsAnother l.number) before front (subst (λ z. AllByRecursion (IsAnother l.number) z) (sym same) h) all) missing beside plain
    by_last same here none (took_last x cause front some at beside plain) = took_last x cause front some at beside plain

    by : (behind ≡ []) ⊎ ((front : List Live) × (z : Live) × (behind ≡ front ++ z ∷ [])) → Took l.number l put (before ++ after ++ behind) over
    by (inl none) =
        let two = snoc_both before earlier l1 l (ap (λ z. before ++ l1 ∷ z) (sym none) ∙ sym is ∙ last) in
        let here : l1 ∷ [] ≡ [] ++ l ∷ [] = ap (λ z. z ∷ []) two.1 in
        by_last two.0 two.1 none (took devices input (l1 ∷ []) put after over takes untask [] l here tt)
    by (inr (front, z, e)) =
        let two = snoc_both (before ++ l1 ∷ front) earlier z l (append_assoc before (l1 ∷ front) (z ∷ []) ∙ ap (λ y. before ++ l1 ∷ y) (sym e) ∙ sym is ∙ last) in
        let all : AllByRecursion (IsAnother l.number) (before ++ l1 ∷ front) = subst (λ y. AllByRecursion (IsAnother l.number) y) (sym two.0) h in
        let first = all_front (IsAnother l.number) before (l1 ∷ front) all in
        let rest = all_back (IsAnother l.number) before (l1 ∷ front) all in
        let o = others_took devices input (l1 ∷ []) put after over takes l.number (rest.0, tt) in
        took_on ((before ++ after) ++ front) l.exchanges
        (ap (λ y. (before ++ after) ++ y) (e ∙ ap (λ y. front ++ y ∷ []) two.1) ∙ sym (append_assoc (before ++ after) front (l ∷ [])))
        (all_append (IsAnother l.number) (before ++ after) front (all_append (IsAnother l.number) before after first o.others) rest.1) o.none o.beside ([], sym (append-nil l.exchanges), tt)

reply_aside : (k : ℕ) (bytes : List ℕ) → AreBeside k (reply_records bytes)
unfolding IsBeside
reply_aside k [] = tt
reply_aside k (b ∷ bytes) = (tt, tt)

pub network_took : (s s' : State) (n : ℕ) (r : In) (put : List Out) (over : List Over) → Network s n r put s' over → (earlier : List Live) (l : Live) → s.live ≡ earlier ++ l ∷ [] → AllByRecursion (IsAnother l.number) earlier → Took l.number l put s'.live over
network_took s s' n r put over (passes_by _ device bytes link m on got brought none) earlier l last h = took_on earlier l.exchanges last h refl (reply_aside l.number (reply_beside device s.live link m)) ([], sym (append-nil l.exchanges), tt)
network_took s s' n r put over (brings _ device bytes link p d before behind after l1 _ _ on got brought is mine before_none behind_none takes) earlier l last h = one_took _ _ s.live before behind after l1 put over is takes tt earlier l last h
network_took s s' n r put over (brings_reply _ device bytes link p e before behind after l1 _ _ on got brought is mine before_none behind_none takes) earlier l last h = one_took _ _ s.live before behind after l1 put over is takes tt earlier l last h
network_took s s' n r put over (brings_segment _ device bytes link from p g before behind after l1 _ _ on got brought is mine before_none behind_none takes) earlier l last h = one_took _ _ s.live before behind after l1 put over is takes tt earlier l last h
network_took s s' n r put over (passes_time ms after _ _ takes) earlier l last h = took _ _ s.live put after over takes tt earlier l last h

-- THE OPEN OF A HOOKED DRIVE

-- where two lists of those that live have one open each amid: it is one, or the one stands before the other
data Parting (before behind earlier later : List Live) (l1 l : Live) : Type 0 where
  parts_same : before ≡ earlier → l1 ≡ l → behind ≡ later → Parting before behind earlier later l1 l
  parts_first : (mid : List Live) → earlier ≡ before ++ l1 ∷ mid → behind ≡ mid ++ l ∷ later → Parting before behind earlier later l1 l
  parts_last : (mid : List Live) → before ≡ earlier ++ l ∷ mid → later ≡ mid ++ l1 ∷ behind → Parting before behind earlier later l1 l

parting : (before behind earlier later : List Live) (l1 l : Live) → before ++ l1 ∷ behind ≡ earlier ++ l ∷ later → Parting before behind earlier later l1 l
parting [] behind [] later l1 l e = let same : l1 ≡ l = cc in let rest : behind ≡ later = cc in parts_same refl same rest
parting [] behind (y ∷ earlier) later l1 l e = let same : l1 ≡ y = cc in let rest : behind ≡ earlier ++ l ∷ later = cc in parts_first earlier (ap (λ z. z ∷ earlier) (sym same)) rest
parting (b ∷ before) behind [] later l1 l e = let same : b ≡ l = cc in let rest : before ++ l1 ∷ behind ≡ later = cc in parts_last before (ap (λ z. z ∷ before) same) (sym rest)
parting (b ∷ before) behind (y ∷ earlier) later l1 l e = by (parting before behind earlier later l1 l rest)
  where
    same : b ≡ y
    same = cc

    rest : before ++ l1 ∷ behind ≡ earlier ++ l ∷ later
    rest = cc

    by : Parting before behind earlier later l1 l → Parting (b ∷ before) behind (y ∷ earlier) later l1 l
    by (parts_same a c d) = parts_same (ap (λ z. z ∷ before) same ∙ ap (λ z. y ∷ z) a) c d
    by (parts_first mid a d) = parts_first mid (ap (λ z. z ∷ earlier) (sym same) ∙ ap (λ z. b ∷ z) a) d
    by (parts_last mid a d) = parts_last mid (ap (λ z. z ∷ before) same ∙ ap (λ z. y ∷ z) a) d

-- one of a number has one place
pub same_place : (before behind earlier later : List Live) (l1 l : Live) → before ++ l1 ∷ behind ≡ earlier ++ l ∷ later → l1.number ≡ l.number → AllByRecursion (IsAnother l.number) earlier → AllByRecursion (IsAnother l.number) later →
    (before ≡ earlier) × (l1 ≡ l) × (behind ≡ later)
same_place before behind earlier later l1 l e number h t = by (parting before behind earlier later l1 l e)
  where
    itself : (l1.number == l.number) ≡ false → ⊥
    itself other = let no : true ≡ false = sym (eq-eqb l1.number l.number number) ∙ other in cc no

    by : Parting before behind earlier later l1 l → (before ≡ earlier) × (l1 ≡ l) × (behind ≡ later)
    by (parts_same a c d) = (a, c, d)
    by (parts_first mid front back) = absurd (itself (all_back (IsAnother l.number) before (l1 ∷ mid) (subst (AllByRecursion (IsAnother l.number)) front h)).0)
    by (parts_last mid front back) = absurd (itself (all_back (IsAnother l.number) mid (l1 ∷ behind) (subst (AllByRecursion (IsAnother l.number)) back t)).0)

-- one open alone takes what came
one_amid : (devices : List Client) (input : OpenInput) (live before behind after : List Live) (l1 : Live) (put : List Out) (over : List Over) → live ≡ before ++ l1 ∷ behind → AllTake devices input (l1 ∷ []) put after over →
    (earlier later : List Live) (l : Live) → live ≡ earlier ++ l ∷ later → AllByRecursion (IsAnother l.number) earlier → AllByRecursion (IsAnother l.number) later → TookAmid l.number l put (before ++ after ++ behind) over
one_amid devices input live before behind after l1 put over is takes earlier later l amid h t = by (parting before behind earlier later l1 l (sym is ∙ amid))
  where
    k : ℕ
    k = l.number

    here : before ≡ earlier → behind ≡ later → TookAmid k l put after over → TookAmid k l put (before ++ after ++ behind) over
    here front back (amid_on e1 t1 xs at all rear missing beside) =
        amid_on (before ++ e1) (t1 ++ behind) xs
        (ap (λ z. (before ++ z) ++ behind) at ∙ append_assoc before (e1 ++ with_exchanges l xs ∷ t1) behind ∙ ap (λ z. before ++ z) (append_assoc e1 (with_exchanges l xs ∷ t1) behind)
        ∙ sym (append_assoc before e1 (with_exchanges l xs ∷ (t1 ++ behind))))
        (all_append (IsAnother k) before e1 (subst (AllByRecursion (IsAnother k)) (sym front) h) all) (all_append (IsAnother k) t1 behind rear (subst (AllByRecursion (IsAnother k)) (sym back) t)) missing beside
    here front back (amid_last x cause f b some at beside rear) = amid_last x cause f b some at beside rear

    by : Parting before behind earlier later l1 l → TookAmid k l put (before ++ after ++ behind) over
    by (parts_same front same back) =
        here front back (took_amid devices input (l1 ∷ []) put after over takes [] [] l (ap (λ z. z ∷ []) same) tt tt)
    by (parts_first mid front back) =
        let all = subst (AllByRecursion (IsAnother k)) front h in
        let mine = all_back (IsAnother k) before (l1 ∷ mid) all in
        let o = others_took devices input (l1 ∷ []) put after over takes k (mine.0, tt) in
        amid_on ((before ++ after) ++ mid) later l.exchanges
        (ap (λ z. (before ++ after) ++ z) back ∙ sym (append_assoc (before ++ after) mid (l ∷ later)))
        (all_append (IsAnother k) (before ++ after) mid (all_append (IsAnother k) before after (all_front (IsAnother k) before (l1 ∷ mid) all) o.others) mine.1) t o.none o.beside
    by (parts_last mid front back) =
        let all = subst (AllByRecursion (IsAnother k)) back t in
        let mine = all_back (IsAnother k) mid (l1 ∷ behind) all in
        let o = others_took devices input (l1 ∷ []) put after over takes k (mine.0, tt) in
        amid_on earlier ((mid ++ after) ++ behind) l.exchanges
        (ap (λ z. (z ++ after) ++ behind) front ∙ ap (λ z. z ++ behind) (append_assoc earlier (l ∷ mid) after) ∙ append_assoc earlier (l ∷ (mid ++ after)) behind)
        h (all_append (IsAnother k) (mid ++ after) behind (all_append (IsAnother k) mid after (all_front (IsAnother k) mid (l1 ∷ behind) all) o.others) mine.1) o.none o.beside

pub network_amid : (s s' : State) (n : ℕ) (r : In) (put : List Out) (over : List Over) → Network s n r put s' over → (earlier later : List Live) (l : Live) → s.live ≡ earlier ++ l ∷ later → AllByRecursion (IsAnother l.number) earlier →
    AllByRecursion (IsAnother l.number) later → TookAmid l.number l put s'.live over
network_amid s s' n r put over (passes_by _ device bytes link m on got brought none) earlier later l amid h t = amid_on earlier later l.exchanges amid h t refl (reply_aside l.number (reply_beside device s.live link m))
network_amid s s' n r put over (brings _ device bytes link p d before behind after l1 _ _ on got brought is mine before_none behind_none takes) earlier later l amid h t = one_amid _ _ s.live before behind after l1 put over is takes earlier later l amid h t
network_amid s s' n r put over (brings_reply _ device bytes link p e before behind after l1 _ _ on got brought is mine before_none behind_none takes) earlier later l amid h t = one_amid _ _ s.live before behind after l1 put over is takes earlier later l amid h t
network_amid s s' n r put over (brings_segment _ device bytes link from p g before behind after l1 _ _ on got brought is mine before_none behind_none takes) earlier later l amid h t =
    one_amid _ _ s.live before behind after l1 put over is takes earlier later l amid h t
network_amid s s' n r put over (passes_time ms after _ _ takes) earlier later l amid h t = took_amid _ _ s.live put after over takes earlier later l amid h t

-- THE EVENT

-- what an event that is used, after START's, leaves of the commands
pub record Stepped (e : Event) : Type 0 where
  pub commands : (before : List Event) (m : CommandsSoFar) → so_far_by before m e ≡ record m { now = m.now + ms_of e }
  pub scripts : (before : List Event) (m : CommandsSoFar) → (so_far_by before m e).scripts ≡ m.scripts
  pub begun : (n : ℕ) → commands_by n e ≡ 0
  pub same_hardware : (es : List Event) → hardware_by (hardware es) e ≡ hardware es

pub stepped : (e : Event) → IsUsed e → IsFurther e → Stepped e
stepped (starts n s) u f = absurd f
stepped (hears n bytes m) u f = record { commands = λ before c. ap (λ t. record c { now = t }) (sym (add-zero c.now)); scripts = λ before m. refl; begun = λ k. refl; same_hardware = λ es. refl }
stepped (waits n ms) u f = record { commands = λ before c. refl; scripts = λ before m. refl; begun = λ k. refl; same_hardware = λ es. refl }
stepped (stops n) u f = record { commands = λ before c. ap (λ t. record c { now = t }) (sym (add-zero c.now)); scripts = λ before m. refl; begun = λ k. refl; same_hardware = λ es. refl }
stepped (puts o) u f = absurd u

pub used_stands : (es : List Event) (e : Event) → IsUsed e → CommandsSo es e
used_stands es (starts n s) u = tt
used_stands es (hears n bytes m) u = tt
used_stands es (waits n ms) u = tt
used_stands es (stops n) u = tt
used_stands es (puts o) u = absurd u

used_open : (last : Option CommandOpen) (e : Event) → IsUsed e → command_open_by last e ≡ last
used_open last (puts o) h = absurd h
used_open last (starts n s) h = refl
used_open last _ h = refl

-- nor makes an open of the command, nor ends it
pub used_command_open : (es : List Event) (e : Event) → IsUsed e → command_open (es ++ e ∷ []) ≡ command_open es
used_command_open es e h = command_open_more es e ∙ used_open (command_open es) e h

used_move : (es : List Event) (e : Event) → IsUsed e → moves_by es (moves es) e ≡ moves es
used_move es (puts o) h = absurd h
used_move es (starts n s) h = refl
used_move es _ h = refl

-- nor moves its file
pub used_moves : (es : List Event) (e : Event) → IsUsed e → moves (es ++ e ∷ []) ≡ moves es
used_moves es e h = moves_more es e ∙ used_move es e h

-- time passes by events that are used alone
pub told_time : (es : List Event) (outs : List Out) → time (es ++ told outs) ≡ time es
told_time es [] = ap time (append-nil es)
told_time es (o ∷ outs) = ap time (sym (append_assoc es (puts o ∷ []) (told outs))) ∙ told_time (es ++ puts o ∷ []) outs ∙ time_more es (puts o) ∙ add-zero (time es)

-- WHAT A STEP LEAVES

-- what the history says of the scripts once the network has done its part
pub record Came (es es2 : List Event) (outs : List Out) (s s' : State) (inner : Running) (outer : List Running) (still : Bool) (n : ℕ) (e : Event) (put : List Out) : Type 0 where
  pub script : AgreesScript es2 (anew inner) outer
  pub same : so_far es2 ≡ record (so_far es) { now = (so_far es).now + ms_of e }
  pub settings : SettingsAre (so_far es2) s' still
  pub images : HasImages es2 (outs ++ step n ∷ put) s'
  pub none_left : NoneLeft es2
  pub hard : hardware es2 ≡ hardware es
  pub opens : command_open (es ++ e ∷ []) ≡ command_open es

pub comes : (es : List Event) (outs : List Out) (s s' : State) (inner : Running) (outer : List Running) (still : Bool) (n : ℕ) (e : Event) (put : List Out) → IsUsed e → IsFurther e → Leaves s s' put → s'.now ≡ s.now + ms_of e →
    AgreesScript es inner outer → SettingsAre (so_far es) s still → HasImages es outs s → NoneLeft es → Came es ((es ++ e ∷ []) ++ told put) outs s s' inner outer still n e put
comes es outs s s' inner outer still n e put used further leaves now script settings images none_left =
    let es1 = es ++ e ∷ [] in
    let t = stepped e used further in
    let same : so_far (es1 ++ told put) ≡ record (so_far es) { now = (so_far es).now + ms_of e } = quiet_so_far es1 put leaves.quiet ∙ so_far_more es e ∙ t.commands es (so_far es) in
    record {
      script = script_told es1 put (anew inner) outer (quiet_scripts put leaves.quiet) (quiet_begin (commands_begun es1) put leaves.quiet) (script_used es e inner outer (t.scripts es (so_far es)) (t.begun (commands_begun es)) script);
      same = same;
      settings = subst (λ m. SettingsAre m s' still) (sym same) (record { table = settings.table ∙ sym leaves.table; up = settings.up ∙ sym leaves.up; now = ap (λ z. z + ms_of e) settings.now ∙ sym now; is_open = settings.is_open });
      images = images_as es (es1 ++ told put) outs (step n ∷ put) s s' (ap (λ (m : CommandsSoFar). m.images) same) leaves.images (drives_keep (so_far es) (so_far (es1 ++ told put)) s s' (ap (λ (m : CommandsSoFar). m.hooked) same) (leaves.some (so_far es) images.drives) images.drives) (tt, quiet_parts put leaves.quiet) images;
      none_left = ap (λ (m : CommandsSoFar). m.left) same ∙ none_left;
      hard = told_hardware es1 put ∙ hardware_more es e ∙ t.same_hardware es;
      opens = used_command_open es e used;
    }
