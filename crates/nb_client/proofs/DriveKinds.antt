-- What is kept of the opens that live: of which kind they are, and that no block was asked of them.
use Rattle.std.proofs.Common.{◌≡◌, ℕ, ◌+◌, ◌<◌, ◌≤◌, ◌==◌, ◌||◌, Bool, true, false, cond, List, [], ◌∷◌, ◌++◌, Option, Some, None, refl, sym, ◌∙◌, ap, subst, append-nil, arith, eq-eqb}
use Rattle.std.specs.Prelude.{filter, find, not}
use Rattle.std.specs.List.{AllByRecursion, list_any}
use Rattle.std.specs.Option.{is_some, option_and_then}
use Rattle.std.proofs.lemmas.Bool.{eqb-true}
use Rattle.nb_defs.specs.Records.{In, Out}
use Rattle.nb_graph.specs.Whole.{Objects}
use Rattle.nb_nodes.specs.declared.obj.Obj.{Obj}
use Rattle.nb_stack.specs.Client.{Client}
use Rattle.nb_drivecmd.specs.declared.drive.Drive.{Drive}
use Rattle.nb_machine.specs.Kinds.{answered, answered_by, is_connection}
use Rattle.nb_machine.specs.Lives.{OpenInput, message, tcp_segment, time, OpenKind, tftp, http, iscsi, dns, dhcp, ping, Exchange, Live, continued, exchange}
use Rattle.nb_machine.specs.Network.{Network, passes_by, brings, brings_reply, brings_segment, passes_time}
use Rattle.nb_machine.specs.Scripts.{has_number, is_number}
use Rattle.nb_machine.specs.States.{State}
use Rattle.nb_machine.specs.Takings.{AllTake, Over, all_have, lives_on, is_over}
use Rattle.nb_open.specs.declared.objects.OpenObjects.{OpenObjects}
use Rattle.nb_open.specs.declared.objects.OpenObjects.TheVariants as objects
use Rattle.nb_open.specs.Objects.{AreDriveObjects}
use Rattle.nb_open.specs.Open.{AreOfKind, AreUnderWay, IsDriveUnderWay, IsWebUnderWay}
use Rattle.nb_network.specs.Many.{AreOpensOf, AreRising}
use Rattle.nb_network.specs.Ones.{HasDrive}
use Rattle.nb_network.specs.declared.living.Living.{Living as Open}
use Rattle.nb_network.proofs.Lists.{all_append, all_back, all_front}
use Rattle.nb_client.specs.Soundness.{IsDriveAt, IsDriveKind, AsksNoTask, IsAskedNoTask, IsUnaskedBut}
use Rattle.nb_client.proofs.DriveFirsts.{RisingLives, lives_rise, none_above, none_left, one_of}
use Rattle.nb_client.proofs.DriveLists.{all_weaker, has_open_at}

-- WHAT A RECORD KEEPS

-- it stays so when this comes to it
abbrev pub StaysBy : (Live → Type 0) → OpenInput → Type 0
StaysBy P came = (l : Live) (link : Client) (put : List Out) → P l → P (continued l (exchange came link put))

pub all_take : (P : Live → Type 0) {devices : List Client} {came : OpenInput} {ls after : List Live} {put : List Out} {over : List Over} → StaysBy P came → AllTake devices came ls put after over → AllByRecursion P ls → AllByRecursion P after
all_take P f all_have h = tt
all_take P f (lives_on l ls after link put more over dev keeps none rest) h = (f l link put h.0, all_take P f rest h.1)
all_take P f (is_over l ls after link put more over cause dev keeps ends rest) h = all_take P f rest h.1

-- one among the others
pub among : (P : Live → Type 0) {devices : List Client} {came : OpenInput} {put : List Out} {over : List Over} {live : List Live} (before behind after : List Live) (l : Live) → StaysBy P came → live ≡ before ++ l ∷ behind →
    AllTake devices came (l ∷ []) put after over → AllByRecursion P live → AllByRecursion P (before ++ after ++ behind)
among P before behind after l f parted take h =
    let all : AllByRecursion P (before ++ l ∷ behind) = subst (AllByRecursion P) parted h in
    let back = all_back P before (l ∷ behind) all in
    all_append P (before ++ after) behind (all_append P before after (all_front P before (l ∷ behind) all) (all_take P f take (back.0, tt))) back.1

-- so a record keeps what no segment, message or time takes away
pub network_all : (P : Live → Type 0) (s : State) (n : ℕ) (r : In) (put : List Out) (s' : State) (over : List Over) → ((came : OpenInput) → AsksNoTask came → StaysBy P came) → Network s n r put s' over → AllByRecursion P s.live → AllByRecursion P s'.live
network_all P s n r put s' over f (passes_by _ device bytes link m on get brought none) h = h
network_all P s n r put s' over f (brings _ device bytes link p d before behind after l _ _ on get brought live is front back take) h = among P before behind after l (f _ tt) live take h
network_all P s n r put s' over f (brings_reply _ device bytes link p e before behind after l _ _ on get brought live is front back take) h = among P before behind after l (f _ tt) live take h
network_all P s n r put s' over f (brings_segment _ device bytes link from p g before behind after l _ _ on get brought live is front back take) h = among P before behind after l (f _ tt) live take h
network_all P s n r put s' over f (passes_time ms after _ _ take) h = all_take P (f _ tt) take h

-- OF WHICH KIND

pub kind_stays : (k : ℕ) (came : OpenInput) → StaysBy (λ l. l.number ≡ k → IsDriveKind l.kind) came
kind_stays k came l link put h = h

unasked_one : (came : OpenInput) → AsksNoTask came → StaysBy IsAskedNoTask came
unasked_one came is l link put h = all_append (λ (x : Exchange). AsksNoTask x.came) l.exchanges (exchange came link put ∷ []) h (is, tt)

pub unasked_stays : (asked : Option ℕ) (came : OpenInput) → AsksNoTask came → StaysBy (IsUnaskedBut asked) came
unasked_stays None came is l link put h = unasked_one came is l link put h
unasked_stays (Some k) came is l link put h = λ other. unasked_one came is l link put (h other)

pub unasked_weaker : (asked : Option ℕ) (ls : List Live) → AllByRecursion (IsUnaskedBut None) ls → AllByRecursion (IsUnaskedBut asked) ls
unasked_weaker asked ls h = all_weaker (IsUnaskedBut None) (IsUnaskedBut asked) (weaker asked) ls h
  where
    weaker : (a : Option ℕ) (l : Live) → IsAskedNoTask l → IsUnaskedBut a l
    weaker None l u = u
    weaker (Some k) l u = λ other. u

-- each of these drives
pub kinds_all : (ls ls' : List Live) → ((k : ℕ) → IsDriveAt k ls → IsDriveAt k ls') → (ds : List Drive) → AllByRecursion (λ (d : Drive). IsDriveAt d.open_number ls) ds → AllByRecursion (λ (d : Drive). IsDriveAt d.open_number ls') ds
kinds_all ls ls' f ds h = all_weaker (λ (d : Drive). IsDriveAt d.open_number ls) (λ (d : Drive). IsDriveAt d.open_number ls') (λ d x. f d.open_number x) ds h

-- WHERE NONE OF A NUMBER LIVES

abbrev pub has_none : ℕ → List Live → Type 0
has_none k ls = list_any (has_number k) ls ≡ false

pub none_has : (g : Objects Obj) (os : List Open) (ls : List Live) (k : ℕ) → AreOpensOf g os ls → list_any (λ (o : Open). o.speaker.number == k) os ≡ list_any (has_number k) ls
none_has g [] [] k are = refl
none_has g [] (l ∷ ls) k are = absurd are
none_has g (o ∷ os) [] k are = absurd are
none_has g (o ∷ os) (l ∷ ls) k are =
    ap (λ (n : ℕ). (n == k) || list_any (λ (x : Open). x.speaker.number == k) os) (sym are.0.called.number) ∙ ap (λ b. (l.number == k) || b) (none_has g os ls k are.1)

or_none : (a b : Bool) → (a || b) ≡ false → (a ≡ false) × (b ≡ false)
or_none true b e = absurd (let no : true ≡ false = e in cc)
or_none false b e = (refl, e)

not_number : (l : Live) (k : ℕ) → has_number k l ≡ false → l.number ≡ k → ⊥
not_number l k none same = let yes : (l.number == k) ≡ true = eq-eqb l.number k same in let two : true ≡ false = sym yes ∙ none in cc

-- no kind is wrong
pub none_kind : (k : ℕ) (ls : List Live) → has_none k ls → IsDriveAt k ls
none_kind k [] e = tt
none_kind k (l ∷ ls) e = let both = or_none (has_number k l) (list_any (has_number k) ls) e in ((λ same. absurd (not_number l k both.0 same)), none_kind k ls both.1)

-- and none was asked, where only that one was
pub none_asked_now : (asked : Option ℕ) (ls : List Live) → ((k : ℕ) → asked ≡ Some k → has_none k ls) → AllByRecursion (IsUnaskedBut asked) ls → AllByRecursion (IsUnaskedBut None) ls
none_asked_now None ls gone h = h
none_asked_now (Some k) ls gone h = each ls (gone k refl) h
  where
    each : (xs : List Live) → has_none k xs → AllByRecursion (IsUnaskedBut (Some k)) xs → AllByRecursion (IsUnaskedBut None) xs
    each [] e u = tt
    each (l ∷ xs) e u = let both = or_none (has_number k l) (list_any (has_number k) xs) e in (u.0 (not_number l k both.0), each xs both.1 u.1)

-- AN OPEN THAT HAS ENDED

some_over : (x y : Over) → Some x ≡ Some y → x ≡ y
some_over x y e = cc

-- what has ended was one of those
over_from : {devices : List Client} {came : OpenInput} {ls after : List Live} {put : List Out} {over : List Over} (k least : ℕ) (o : Over) → RisingLives least ls → AllTake devices came ls put after over → find (is_number k) over ≡ Some o → least ≤ k
over_from k least o rising all_have e = absurd (let no : None ≡ Some o = e in cc)
over_from k least o rising (lives_on l ls after link put more over dev keeps none rest) e = let later = over_from k (l.number + 1) o rising.1 rest e in omega (arith, rising.0, later)
over_from {came = came} k least o rising (is_over l ls after link put more over cause dev keeps ends rest) e = by (l.number == k) refl (λ is. over_from k (l.number + 1) o rising.1 rest is) e
  where
    by : (b : Bool) → (l.number == k) ≡ b → (find (is_number k) over ≡ Some o → l.number + 1 ≤ k) → cond b (Some (record { live = continued l (exchange came link put); cause = cause })) (find (is_number k) over) ≡ Some o → least ≤ k
    by true is later same = let number : l.number ≡ k = eqb-true l.number k is in omega (arith, rising.0, number)
    by false is later same = let more = later same in omega (arith, rising.0, more)

-- those that live on rise as they did
after_rise : {devices : List Client} {came : OpenInput} {ls after : List Live} {put : List Out} {over : List Over} (least : ℕ) → RisingLives least ls → AllTake devices came ls put after over → RisingLives least after
after_rise least rising all_have = tt
after_rise least rising (lives_on l ls after link put more over dev keeps none rest) = (rising.0, after_rise (l.number + 1) rising.1 rest)
after_rise least rising (is_over l ls after link put more over cause dev keeps ends rest) = rise_less (l.number + 1) least after (omega (arith, rising.0)) (after_rise (l.number + 1) rising.1 rest)
  where
    rise_less : (a b : ℕ) (xs : List Live) → b ≤ a → RisingLives a xs → RisingLives b xs
    rise_less a b [] less r = tt
    rise_less a b (x ∷ xs) less r = (omega (arith, less, r.0), r.1)

pub other_number : (a k : ℕ) → a < k → (a == k) ≡ false
other_number a k less = by (a == k) refl
  where
    by : (b : Bool) → (a == k) ≡ b → (a == k) ≡ false
    by true is = absurd (let same : a ≡ k = eqb-true a k is in omega (arith, same, less))
    by false is = is

-- it lives no longer, nor does another of its number
all_gone : {devices : List Client} {came : OpenInput} {ls after : List Live} {put : List Out} {over : List Over} (k least : ℕ) (o : Over) → RisingLives least ls → AllTake devices came ls put after over → find (is_number k) over ≡ Some o → has_none k after
all_gone k least o rising all_have e = absurd (let no : None ≡ Some o = e in cc)
all_gone k least o rising (lives_on l ls after link put more over dev keeps none rest) e =
    let later = over_from k (l.number + 1) o rising.1 rest e in
    ap (λ b. b || list_any (has_number k) after) (other_number l.number k (omega (arith, later))) ∙ all_gone k (l.number + 1) o rising.1 rest e
all_gone {came = came} k least o rising (is_over l ls after link put more over cause dev keeps ends rest) e = by (l.number == k) refl (λ is. all_gone k (l.number + 1) o rising.1 rest is) e
  where
    by : (b : Bool) → (l.number == k) ≡ b → (find (is_number k) over ≡ Some o → has_none k after) → cond b (Some (record { live = continued l (exchange came link put); cause = cause })) (find (is_number k) over) ≡ Some o → has_none k after
    by true is later same = let number : l.number ≡ k = eqb-true l.number k is in none_above k (l.number + 1) after (after_rise (l.number + 1) rising.1 rest) (omega (arith, number))
    by false is later same = later same

-- of one that took something alone
pub one_gone : {devices : List Client} {came : OpenInput} {after : List Live} {put : List Out} {over : List Over} (k : ℕ) (l : Live) (o : Over) → AllTake devices came (l ∷ []) put after over → find (is_number k) over ≡ Some o → (after ≡ []) × (l.number ≡ k)
one_gone k l o (lives_on _ _ _ link put more _ dev keeps none all_have) e = absurd (let no : None ≡ Some o = e in cc)
one_gone {came = came} k l o (is_over _ _ _ link put more _ cause dev keeps ends all_have) e = (refl, by (l.number == k) refl e)
  where
    by : (b : Bool) → (l.number == k) ≡ b → cond b (Some (record { live = continued l (exchange came link put); cause = cause })) None ≡ Some o → l.number ≡ k
    by true is same = eqb-true l.number k is
    by false is same = absurd (let no : None ≡ Some o = same in cc)

gone_among : {devices : List Client} {came : OpenInput} {put : List Out} {over : List Over} {live : List Live} (k : ℕ) (o : Over) (before behind after : List Live) (l : Live) → live ≡ before ++ l ∷ behind → RisingLives 0 live →
    AllTake devices came (l ∷ []) put after over → find (is_number k) over ≡ Some o → has_none k (before ++ after ++ behind)
gone_among k o before behind after l parted rising take e =
    let g = one_gone k l o take e in
    let split = one_of k before behind l 0 (subst (RisingLives 0) parted rising) g.1 in
    subst (λ z. has_none k (before ++ z ++ behind)) (sym g.0) (subst (λ z. has_none k (z ++ behind)) (sym (append-nil before)) (subst (has_none k) split.1 (none_left k (before ++ l ∷ behind))))

-- by a record
pub gone : (s : State) (n : ℕ) (r : In) (put : List Out) (s' : State) (over : List Over) (k : ℕ) (o : Over) → RisingLives 0 s.live → Network s n r put s' over → find (is_number k) over ≡ Some o → has_none k s'.live
gone s n r put s' over k o rising (passes_by _ device bytes link m on get brought none) e = absurd (let no : None ≡ Some o = e in cc)
gone s n r put s' over k o rising (brings _ device bytes link p d before behind after l _ _ on get brought live is front back take) e = gone_among k o before behind after l live rising take e
gone s n r put s' over k o rising (brings_reply _ device bytes link p d before behind after l _ _ on get brought live is front back take) e = gone_among k o before behind after l live rising take e
gone s n r put s' over k o rising (brings_segment _ device bytes link from p g before behind after l _ _ on get brought live is front back take) e = gone_among k o before behind after l live rising take e
gone s n r put s' over k o rising (passes_time ms after _ _ take) e = all_gone k 0 o rising take e

-- AN OPEN THAT HAS ANSWERED

kind_of_answer : (k : OpenKind) (l : Live) → true ≡ is_some (answered_by k l) → IsDriveKind k
kind_of_answer tftp l e = absurd (let no : true ≡ false = e in cc)
kind_of_answer (http isn) l e = absurd (let no : true ≡ false = e in cc)
kind_of_answer (iscsi isn i) l e = tt
kind_of_answer (dns id) l e = absurd (let no : true ≡ false = e in cc)
kind_of_answer (dhcp a) l e = absurd (let no : true ≡ false = e in cc)
kind_of_answer ping l e = absurd (let no : true ≡ false = e in cc)

-- is a drive's, and lives
answered_kind : (k least : ℕ) (ls : List Live) → RisingLives least ls → true ≡ is_some (option_and_then answered (find (has_number k) ls)) → IsDriveAt k ls × (list_any (has_number k) ls ≡ true)
answered_kind k least [] rising e = absurd (let no : true ≡ false = e in cc)
answered_kind k least (l ∷ ls) rising e = by (l.number == k) refl (λ is. answered_kind k (l.number + 1) ls rising.1 is) e
  where
    by : (b : Bool) → (l.number == k) ≡ b → (true ≡ is_some (option_and_then answered (find (has_number k) ls)) → IsDriveAt k ls × (list_any (has_number k) ls ≡ true)) →
        true ≡ is_some (option_and_then answered (cond b (Some l) (find (has_number k) ls))) → IsDriveAt k (l ∷ ls) × ((b || list_any (has_number k) ls) ≡ true)
    by true is rest same =
        let number : l.number ≡ k = eqb-true l.number k is in
        (((λ at. kind_of_answer l.kind l same), none_kind k ls (none_above k (l.number + 1) ls rising.1 (omega (arith, number)))), refl)
    by false is rest same = let more = rest same in (((λ at. absurd (not_number l k is at)), more.0), more.1)

objects_of : (os : OpenObjects) (k : OpenKind) (g : Objects Obj) (l : Live) → k ≡ l.kind → IsDriveKind k → AreOfKind os l → AreUnderWay os g l → AreDriveObjects os
objects_of os tftp g l same is of under = absurd is
objects_of os (http isn) g l same is of under = absurd is
objects_of (objects.Chain kind chain) (iscsi isn i) g l same is of under = absurd (let yes : is_connection l.kind ≡ true = ap is_connection (sym same) in let two : true ≡ false = sym yes ∙ of.0 in cc)
objects_of (objects.Web port own chain) (iscsi isn i) g l same is of under = absurd (subst (λ k. IsWebUnderWay k own chain g l) (sym same) under)
objects_of (objects.Drive port own chain) (iscsi isn i) g l same is of under = tt
objects_of os (dns id) g l same is of under = absurd is
objects_of os (dhcp a) g l same is of under = absurd is
objects_of os ping g l same is of under = absurd is

drive_objects : (g : Objects Obj) (os : List Open) (ls : List Live) (k : ℕ) → AreOpensOf g os ls → IsDriveAt k ls → AllByRecursion (λ (o : Open). o.speaker.number ≡ k → AreDriveObjects o.objects) os
drive_objects g [] ls k are h = tt
drive_objects g (o ∷ os) [] k are h = absurd are
drive_objects g (o ∷ os) (l ∷ ls) k are h =
    ((λ at. objects_of o.objects l.kind g l refl (h.0 (are.0.called.number ∙ at)) are.0.called.kind are.0.under_way), drive_objects g os ls k are.1 h.1)

-- the open of this number is a drive that lives
pub has_drive : (g : Objects Obj) (os : List Open) (ls : List Live) (k : ℕ) → AreOpensOf g os ls → IsDriveAt k ls → list_any (λ (o : Open). o.speaker.number == k) os ≡ true → HasDrive k os
has_drive g os ls k are kind lives = record { lives = has_open_at os k lives; drive = drive_objects g os ls k are kind }

pub answered_drive : (g : Objects Obj) (os : List Open) (ls : List Live) (k most : ℕ) → AreOpensOf g os ls → AreRising 0 most os → true ≡ is_some (option_and_then answered (find (has_number k) ls)) → HasDrive k os
answered_drive g os ls k most are rising e =
    let a = answered_kind k 0 ls (lives_rise g os ls 0 most are rising) e in
    has_drive g os ls k are a.0 (none_has g os ls k are ∙ a.1)

-- and of one that is, each of its number is of a drive's kind
drive_kind : (os : OpenObjects) (k : OpenKind) (g : Objects Obj) (l : Live) → k ≡ l.kind → AreDriveObjects os → AreUnderWay os g l → IsDriveKind k
drive_kind (objects.Chain kind chain) k g l same is under = absurd is
drive_kind (objects.Web port own chain) k g l same is under = absurd is
drive_kind (objects.Drive port own chain) tftp g l same is under = absurd (subst (λ z. IsDriveUnderWay z own chain g l) (sym same) under)
drive_kind (objects.Drive port own chain) (http isn) g l same is under = absurd (subst (λ z. IsDriveUnderWay z own chain g l) (sym same) under)
drive_kind (objects.Drive port own chain) (iscsi isn i) g l same is under = tt
drive_kind (objects.Drive port own chain) (dns id) g l same is under = absurd (subst (λ z. IsDriveUnderWay z own chain g l) (sym same) under)
drive_kind (objects.Drive port own chain) (dhcp a) g l same is under = absurd (subst (λ z. IsDriveUnderWay z own chain g l) (sym same) under)
drive_kind (objects.Drive port own chain) ping g l same is under = absurd (subst (λ z. IsDriveUnderWay z own chain g l) (sym same) under)

pub drive_kinds : (g : Objects Obj) (os : List Open) (ls : List Live) (k : ℕ) → AreOpensOf g os ls → AllByRecursion (λ (o : Open). o.speaker.number ≡ k → AreDriveObjects o.objects) os → IsDriveAt k ls
drive_kinds g [] [] k are h = tt
drive_kinds g [] (l ∷ ls) k are h = absurd are
drive_kinds g (o ∷ os) [] k are h = absurd are
drive_kinds g (o ∷ os) (l ∷ ls) k are h =
    ((λ at. drive_kind o.objects l.kind g l refl (h.0 (sym are.0.called.number ∙ at)) are.0.under_way), drive_kinds g os ls k are.1 h.1)
