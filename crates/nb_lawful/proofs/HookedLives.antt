-- The drives that are hooked, by the history: they stay with their opens.
use Rattle.std.proofs.Common.{◌≡◌, ℕ, ◌<◌, ◌==◌, ◌||◌, Bool, true, false, not, cond, List, [], ◌∷◌, ◌++◌, refl, sym, ◌∙◌, ap, subst, arith, eq-eqb, ne_eqb}
use Rattle.std.proofs.lemmas.Bool.{eqb-true}
use Rattle.std.specs.Prelude.{filter, nat_lt}
use Rattle.std.specs.List.{AllByRecursion, list_any}
use Rattle.nb_defs.specs.Records.{In, Out}
use Rattle.nb_login.specs.declared.info.LoginInfo.{LoginInfo}
use Rattle.nb_stack.specs.Client.{Client}
use Rattle.nb_streams.proofs.FlowLaws.{all_append}
use Rattle.nb_tftp.proofs.BlockLemmas.{either_way}
use Rattle.nb_drivecmd.specs.declared.drive.Drive.{Drive}
use Rattle.nb_drivecmd.specs.HookedDrives.{with_hooked, is_drive}
use Rattle.nb_machine.specs.Lives.{OpenInput, OpenKind, iscsi, Live}
use Rattle.nb_machine.specs.States.{State, has_open, still_hooked, with_live, with_opened, with_one_made, with_drive}
use Rattle.nb_machine.specs.Takings.{Over, AllTake, all_have, lives_on, is_over}
use Rattle.nb_machine.specs.Courses.{DropsDrive, AsksBlock, is_drives_own}
use Rattle.nb_machine.specs.Network.{Network, passes_by, brings, brings_reply, brings_segment, passes_time}
use Rattle.nb_laws.specs.Events.{Event}
use Rattle.nb_laws.specs.Lists.{live}
use Rattle.nb_laws.specs.CommandsSoFar.{CommandsSoFar, so_far, has_opening, drive_lives, still_living}
use Rattle.nb_openlaws.specs.Standings.{live_opening, AreLive, lives_among, AgreesState}
use Rattle.nb_openlaws.proofs.LiveParts.{all_filter}
use Rattle.nb_openlaws.proofs.KeptOpens.{around}
use Rattle.nb_openlaws.proofs.UsedEvents.{live_one}
use Rattle.nb_lawful.specs.ScriptAgreement.{IsDriveOf, WasHooked, HasDrives}

-- A FILTER

pub same_filter : (f g : Drive → Bool) (ds : List Drive) → AllByRecursion (λ d. f d ≡ g d) ds → filter f ds ≡ filter g ds
same_filter f g [] h = refl
same_filter f g (d ∷ ds) h = ap (λ b. cond b (d ∷ filter f ds) (filter f ds)) h.0 ∙ ap (λ z. cond (g d) (d ∷ z) z) (same_filter f g ds h.1)

pub all_of : {A : Type 0} (P : A → Type 0) (xs : List A) → ((x : A) → P x) → AllByRecursion P xs
all_of P [] h = tt
all_of P (x ∷ xs) h = (h x, all_of P xs h)

one_test : (f g : Drive → Bool) (d : Drive) (xs ys : List Drive) → (f d ≡ true → g d ≡ true) → (b : Bool) → g d ≡ b → (c : Bool) → f d ≡ c → filter f xs ≡ ys → filter f (cond b (d ∷ xs) xs) ≡ cond c (d ∷ ys) ys
one_test f g d xs ys imp true is c fis same = ap (λ z. cond z (d ∷ filter f xs) (filter f xs)) fis ∙ ap (λ z. cond c (d ∷ z) z) same
one_test f g d xs ys imp false is true fis same = absurd (let no : false ≡ true = sym is ∙ imp fis in cc no)
one_test f g d xs ys imp false is false fis same = same

-- one test after another
two_filters : (f g : Drive → Bool) (ds : List Drive) → ((d : Drive) → f d ≡ true → g d ≡ true) → filter f (filter g ds) ≡ filter f ds
two_filters f g [] imp = refl
two_filters f g (d ∷ ds) imp = one_test f g d (filter g ds) (filter f ds) (imp d) (g d) refl (f d) refl (two_filters f g ds imp)

one_swap : (f g : Drive → Bool) (d : Drive) (xs ys : List Drive) (b : Bool) → g d ≡ b → (c : Bool) → f d ≡ c → filter f xs ≡ filter g ys → filter f (cond b (d ∷ xs) xs) ≡ filter g (cond c (d ∷ ys) ys)
one_swap f g d xs ys true gis true fis same = ap (λ z. cond z (d ∷ filter f xs) (filter f xs)) fis ∙ ap (λ z. d ∷ z) same ∙ sym (ap (λ z. cond z (d ∷ filter g ys) (filter g ys)) gis)
one_swap f g d xs ys true gis false fis same = ap (λ z. cond z (d ∷ filter f xs) (filter f xs)) fis ∙ same
one_swap f g d xs ys false gis true fis same = same ∙ sym (ap (λ z. cond z (d ∷ filter g ys) (filter g ys)) gis)
one_swap f g d xs ys false gis false fis same = same

-- in either order
filters_swap : (f g : Drive → Bool) (ds : List Drive) → filter f (filter g ds) ≡ filter g (filter f ds)
filters_swap f g [] = refl
filters_swap f g (d ∷ ds) = one_swap f g d (filter g ds) (filter f ds) (g d) refl (f d) refl (filters_swap f g ds)

one_two : (b : Bool) (d : Drive) (xs ys : List Drive) → cond b (d ∷ xs ++ ys) (xs ++ ys) ≡ cond b (d ∷ xs) xs ++ ys
one_two true d xs ys = refl
one_two false d xs ys = refl

filter_two : (f : Drive → Bool) (xs ys : List Drive) → filter f (xs ++ ys) ≡ filter f xs ++ filter f ys
filter_two f [] ys = refl
filter_two f (x ∷ xs) ys = ap (λ z. cond (f x) (x ∷ z) z) (filter_two f xs ys) ∙ one_two (f x) x (filter f xs) (filter f ys)

-- THE STATE STAYS

was_so : (s s' : State) (d : Drive) → s'.live ≡ s.live → s'.opens ≡ s.opens → WasHooked s d → WasHooked s' d
was_so s s' d lives opens h = record { made_so = subst (λ n. d.open_number < n) (sym opens) h.made_so; is_drive = subst (AllByRecursion (IsDriveOf d)) (sym lives) h.is_drive }

pub all_map : {A : Type 0} (P Q : A → Type 0) (xs : List A) → ((x : A) → P x → Q x) → AllByRecursion P xs → AllByRecursion Q xs
all_map P Q [] so h = tt
all_map P Q (x ∷ xs) so h = (so x h.0, all_map P Q xs so h.1)

pub drives_still : (m m2 : CommandsSoFar) (s s' : State) → m2.hooked ≡ m.hooked → s'.drives ≡ s.drives → s'.live ≡ s.live → s'.opens ≡ s.opens → HasDrives m s → HasDrives m2 s'
drives_still m m2 s s' hooked drives lives opens h = record {
  are = drives ∙ h.are ∙ ap (λ l. still_hooked l m.hooked) (sym lives) ∙ ap (still_hooked s'.live) (sym hooked);
  were = subst (AllByRecursion (WasHooked s')) (sym hooked) (all_map (WasHooked s) (WasHooked s') m.hooked (λ d w. was_so s s' d lives opens w) h.were);
}

-- SOME OPENS END

-- those that live then are among those that lived before
abbrev pub IsAmong : List Live → ℕ → Live → Type 0
IsAmong before k l = (l.number == k) ≡ true → lives_among k before ≡ true

each_among : (k : ℕ) (before ls : List Live) → ((j : ℕ) → lives_among j ls ≡ true → lives_among j before ≡ true) → AllByRecursion (IsAmong before k) ls
each_among k before [] h = tt
each_among k before (l ∷ ls) h = (λ is. h k (ap (λ b. b || lives_among k ls) is), each_among k before ls (λ j some. h j (later (l.number == j) (lives_among j ls) some)))
  where
    later : (b c : Bool) → c ≡ true → (b || c) ≡ true
    later true c e = refl
    later false c e = e

has_among : (k : ℕ) (before ls : List Live) → AllByRecursion (IsAmong before k) ls → lives_among k ls ≡ true → lives_among k before ≡ true
has_among k before [] h some = absurd (let no : false ≡ true = some in cc no)
has_among k before (l ∷ ls) h some = either_way (l.number == k) (λ is. h.0 is) (λ other. has_among k before ls h.1 (rest (l.number == k) (lives_among k ls) other some))
  where
    rest : (b c : Bool) → b ≡ false → (b || c) ≡ true → c ≡ true
    rest true c e f = absurd (let no : true ≡ false = e in cc no)
    rest false c e f = f

-- the opens of a state that are kept: each is one that lived, of the same kind
pub record KeepsSome (s s' : State) : Type 0 where
  pub drives : s'.drives ≡ still_hooked s'.live s.drives
  pub opens : s'.opens ≡ s.opens
  pub among : (k : ℕ) → AllByRecursion (IsAmong s.live k) s'.live
  pub kinds : (d : Drive) → AllByRecursion (IsDriveOf d) s.live → AllByRecursion (IsDriveOf d) s'.live

pub drives_keep : (m m2 : CommandsSoFar) (s s' : State) → m2.hooked ≡ m.hooked → KeepsSome s s' → HasDrives m s → HasDrives m2 s'
drives_keep m m2 s s' hooked k h = record {
  are = k.drives ∙ ap (still_hooked s'.live) h.are
      ∙ two_filters (has_open s'.live) (has_open s.live) m.hooked (λ d some. has_among d.open_number s.live s'.live (k.among d.open_number) some)
      ∙ ap (still_hooked s'.live) (sym hooked);
  were = subst (AllByRecursion (WasHooked s')) (sym hooked)
      (all_map (WasHooked s) (WasHooked s') m.hooked (λ d w. record { made_so = subst (λ n. d.open_number < n) (sym k.opens) w.made_so; is_drive = k.kinds d w.is_drive }) h.were);
}

-- what holds of numbers and kinds holds of opens that took something
pub take_all : (P : ℕ → OpenKind → Type 0) (devices : List Client) (input : OpenInput) (ls : List Live) (put : List Out) (after : List Live) (over : List Over) → AllTake devices input ls put after over →
    AllByRecursion (λ l. P l.number l.kind) ls → AllByRecursion (λ l. P l.number l.kind) after
take_all P devices input ls put after over all_have h = tt
take_all P devices input ls0 put0 after0 over0 (lives_on l ls after link put more over got keeps none rest) h = (h.0, take_all P devices input ls more after over rest h.1)
take_all P devices input ls0 put0 after0 over0 (is_over l ls after link put more over cause got keeps some rest) h = take_all P devices input ls more after over rest h.1

one_of : (P : ℕ → OpenKind → Type 0) (before behind : List Live) (l : Live) → AllByRecursion (λ l. P l.number l.kind) (before ++ l ∷ behind) → P l.number l.kind
one_of P [] behind l h = h.0
one_of P (b ∷ before) behind l h = one_of P before behind l h.1

pub network_all : (P : ℕ → OpenKind → Type 0) (s s' : State) (n : ℕ) (r : In) (put : List Out) (over : List Over) → Network s n r put s' over → AllByRecursion (λ l. P l.number l.kind) s.live → AllByRecursion (λ l. P l.number l.kind) s'.live
network_all P s s' n r put over (passes_by _ device bytes link m on got brought none) h = h
network_all P s s' n r put over (brings _ device bytes link p d before behind after l _ _ on got brought is mine before_none behind_none takes) h =
    around (λ l. P l.number l.kind) s.live before behind after l is (take_all P _ _ _ _ _ _ takes (one_of P before behind l (subst (AllByRecursion (λ l. P l.number l.kind)) is h), tt)) h
network_all P s s' n r put over (brings_reply _ device bytes link p e before behind after l _ _ on got brought is mine before_none behind_none takes) h =
    around (λ l. P l.number l.kind) s.live before behind after l is (take_all P _ _ _ _ _ _ takes (one_of P before behind l (subst (AllByRecursion (λ l. P l.number l.kind)) is h), tt)) h
network_all P s s' n r put over (brings_segment _ device bytes link from p g before behind after l _ _ on got brought is mine before_none behind_none takes) h =
    around (λ l. P l.number l.kind) s.live before behind after l is (take_all P _ _ _ _ _ _ takes (one_of P before behind l (subst (AllByRecursion (λ l. P l.number l.kind)) is h), tt)) h
network_all P s s' n r put over (passes_time ms after _ _ takes) h = take_all P _ _ _ _ _ _ takes h

abbrev AmongBy : List Live → ℕ → ℕ → OpenKind → Type 0
AmongBy before k number kind = (number == k) ≡ true → lives_among k before ≡ true

abbrev KindBy : Drive → ℕ → OpenKind → Type 0
KindBy d number kind = number ≡ d.open_number → (isn : ℕ) × (i : LoginInfo) × (kind ≡ iscsi isn i)

-- the state's drives follow its opens
pub network_drives : (s s' : State) (n : ℕ) (r : In) (put : List Out) (over : List Over) → Network s n r put s' over → s.drives ≡ still_hooked s.live s.drives → s'.drives ≡ still_hooked s'.live s.drives
network_drives s s' n r put over (passes_by _ device bytes link m on got brought none) same = same
network_drives s s' n r put over (brings _ device bytes link p d before behind after l _ _ on got brought is mine before_none behind_none takes) same = refl
network_drives s s' n r put over (brings_reply _ device bytes link p e before behind after l _ _ on got brought is mine before_none behind_none takes) same = refl
network_drives s s' n r put over (brings_segment _ device bytes link from p g before behind after l _ _ on got brought is mine before_none behind_none takes) same = refl
network_drives s s' n r put over (passes_time ms after _ _ takes) same = refl

pub own_drives : (m : CommandsSoFar) (s : State) → HasDrives m s → s.drives ≡ still_hooked s.live s.drives
own_drives m s h = h.are ∙ sym (ap (still_hooked s.live) h.are ∙ two_filters (has_open s.live) (has_open s.live) m.hooked (λ d some. some))

pub network_keeps : (m : CommandsSoFar) (s s' : State) (n : ℕ) (r : In) (put : List Out) (over : List Over) → Network s n r put s' over → s'.opens ≡ s.opens → HasDrives m s → KeepsSome s s'
network_keeps m s s' n r put over net opens h = record {
  drives = network_drives s s' n r put over net (own_drives m s h);
  opens = opens;
  among = λ k. network_all (AmongBy s.live k) s s' n r put over net (each_among k s.live s.live (λ j some. some));
  kinds = λ d all. network_all (KindBy d) s s' n r put over net all;
}

-- a drive is closed
pub drop_keeps : (s s' : State) (number : ℕ) (put : List Out) → DropsDrive s number put s' → KeepsSome s s'
drop_keeps s s' number put d = subst (KeepsSome s) (sym d.leaves) (record {
  drives = refl;
  opens = refl;
  among = λ k. all_filter (IsAmong s.live k) (λ l. not (is_drives_own (filter (is_drive number) s.drives) l)) s.live (each_among k s.live s.live (λ j some. some));
  kinds = λ one all. all_filter (IsDriveOf one) (λ l. not (is_drives_own (filter (is_drive number) s.drives) l)) s.live all;
})

-- a drive is asked for its first block
ask_all : (P : ℕ → OpenKind → Type 0) (s s' : State) (number : ℕ) (put : List Out) (over : List Over) (a : AsksBlock s number put s' over) → AllByRecursion (λ l. P l.number l.kind) s.live →
    AllByRecursion (λ l. P l.number l.kind) (a.before ++ a.after ++ a.behind)
ask_all P s s' number put over a h =
    around (λ l. P l.number l.kind) s.live a.before a.behind a.after a.l a.parted (take_all P _ _ _ _ _ _ a.takes (one_of P a.before a.behind a.l (subst (AllByRecursion (λ l. P l.number l.kind)) a.parted h), tt)) h

pub asks_keeps : (s s' : State) (number : ℕ) (put : List Out) (over : List Over) → AsksBlock s number put s' over → KeepsSome s s'
asks_keeps s s' number put over a = subst (KeepsSome s) (sym a.leaves) (record {
  drives = refl;
  opens = refl;
  among = λ k. ask_all (AmongBy s.live k) s s' number put over a (each_among k s.live s.live (λ j some. some));
  kinds = λ d all. ask_all (KindBy d) s s' number put over a all;
})

-- NONE OF A NUMBER IS LEFT

-- where none of the number was hooked, none is hooked of those that are left
pub none_more : (f g : Drive → Bool) (ds : List Drive) → list_any f ds ≡ false → list_any f (filter g ds) ≡ false
none_more f g [] none = refl
none_more f g (d ∷ ds) none = one (f d) refl (g d) (none_more f g ds)
  where
    one : (b : Bool) → f d ≡ b → (c : Bool) → (list_any f ds ≡ false → list_any f (filter g ds) ≡ false) → list_any f (cond c (d ∷ filter g ds) (filter g ds)) ≡ false
    one true is c more = absurd (let no : true ≡ false = sym (ap (λ z. z || list_any f ds) is) ∙ none in cc no)
    one false is true more = ap (λ z. z || list_any f (filter g ds)) is ∙ more (sym (ap (λ z. z || list_any f ds) is) ∙ none)
    one false is false more = more (sym (ap (λ z. z || list_any f ds) is) ∙ none)

pub network_none : (f : Drive → Bool) (s s' : State) (n : ℕ) (r : In) (put : List Out) (over : List Over) → Network s n r put s' over → list_any f s.drives ≡ false → list_any f s'.drives ≡ false
network_none f s s' n r put over (passes_by _ device bytes link m on got brought none) free = free
network_none f s s' n r put over (brings _ device bytes link p d before behind after l _ _ on got brought is mine before_none behind_none takes) free = none_more f (has_open (before ++ after ++ behind)) s.drives free
network_none f s s' n r put over (brings_reply _ device bytes link p e before behind after l _ _ on got brought is mine before_none behind_none takes) free = none_more f (has_open (before ++ after ++ behind)) s.drives free
network_none f s s' n r put over (brings_segment _ device bytes link from p g before behind after l _ _ on got brought is mine before_none behind_none takes) free = none_more f (has_open (before ++ after ++ behind)) s.drives free
network_none f s s' n r put over (passes_time ms after _ _ takes) free = none_more f (has_open after) s.drives free

pub asks_none : (f : Drive → Bool) (s s' : State) (number : ℕ) (put : List Out) (over : List Over) → AsksBlock s number put s' over → list_any f s.drives ≡ false → list_any f s'.drives ≡ false
asks_none f s s' number put over a free = subst (λ (z : State). list_any f z.drives ≡ false) (sym a.leaves) (none_more f (has_open (a.before ++ a.after ++ a.behind)) s.drives free)

-- one of these drives has the open of this one
abbrev IsOnOwn : List Drive → Drive → Type 0
IsOnOwn own d = list_any (λ e. e.open_number == d.open_number) own ≡ true

-- each drive of the number is among those of the number
abbrev IsOwnOf : ℕ → List Drive → Drive → Type 0
IsOwnOf number ds d = is_drive number d ≡ true → IsOnOwn (filter (is_drive number) ds) d

own_more : (number : ℕ) (x : Drive) (ds : List Drive) (d : Drive) → IsOnOwn (filter (is_drive number) ds) d → IsOnOwn (filter (is_drive number) (x ∷ ds)) d
own_more number x ds d on = by (is_drive number x)
  where
    later : (b c : Bool) → c ≡ true → (b || c) ≡ true
    later true c e = refl
    later false c e = e

    by : (b : Bool) → IsOnOwn (cond b (x ∷ filter (is_drive number) ds) (filter (is_drive number) ds)) d
    by true = later (x.open_number == d.open_number) (list_any (λ e. e.open_number == d.open_number) (filter (is_drive number) ds)) on
    by false = on

each_own : (number : ℕ) (ds : List Drive) → AllByRecursion (IsOwnOf number ds) ds
each_own number [] = tt
each_own number (d ∷ ds) = (
  λ is. ap (λ b. list_any (λ e. e.open_number == d.open_number) (cond b (d ∷ filter (is_drive number) ds) (filter (is_drive number) ds))) is
      ∙ ap (λ b. b || list_any (λ e. e.open_number == d.open_number) (filter (is_drive number) ds)) (eq-eqb d.open_number d.open_number refl),
  all_map (IsOwnOf number ds) (IsOwnOf number (d ∷ ds)) ds (λ x h is. own_more number d ds x (h is)) (each_own number ds),
)

-- where the opens of drives are closed, none of these is open
own_shut : (own : List Drive) (ls : List Live) (d : Drive) → IsOnOwn own d → has_open (filter (λ l. not (is_drives_own own l)) ls) d ≡ false
own_shut own [] d on = refl
own_shut own (l ∷ ls) d on = by (is_drives_own own l) refl (l.number == d.open_number) refl (own_shut own ls d on)
  where
    rest : List Live
    rest = filter (λ x. not (is_drives_own own x)) ls

    by : (b : Bool) → is_drives_own own l ≡ b → (c : Bool) → (l.number == d.open_number) ≡ c → has_open rest d ≡ false → has_open (cond (not b) (l ∷ rest) rest) d ≡ false
    by true is c at later = later
    by false is true at later = absurd (let no : true ≡ false = sym on ∙ ap (λ k. list_any (λ e. e.open_number == k) own) (sym (eqb-true l.number d.open_number at)) ∙ is in cc no)
    by false is false at later = ap (λ z. z || has_open rest d) at ∙ later

none_open : (number : ℕ) (own : List Drive) (ls : List Live) (ds : List Drive) → AllByRecursion (λ d. is_drive number d ≡ true → IsOnOwn own d) ds →
    list_any (is_drive number) (still_hooked (filter (λ l. not (is_drives_own own l)) ls) ds) ≡ false
none_open number own ls [] h = refl
none_open number own ls (d ∷ ds) h = by (is_drive number d) refl (has_open left d) refl (none_open number own ls ds h.1)
  where
    left : List Live
    left = filter (λ l. not (is_drives_own own l)) ls

    by : (b : Bool) → is_drive number d ≡ b → (c : Bool) → has_open left d ≡ c → list_any (is_drive number) (still_hooked left ds) ≡ false →
        list_any (is_drive number) (cond c (d ∷ still_hooked left ds) (still_hooked left ds)) ≡ false
    by true is true at later = absurd (let no : true ≡ false = sym at ∙ own_shut own ls d (h.0 is) in cc no)
    by false is true at later = ap (λ z. z || list_any (is_drive number) (still_hooked left ds)) is ∙ later
    by b is false at later = later

-- the drive of the number is closed: none is left
pub drop_none : (s s' : State) (number : ℕ) (put : List Out) → DropsDrive s number put s' → list_any (is_drive number) s'.drives ≡ false
drop_none s s' number put d =
    subst (λ (z : State). list_any (is_drive number) z.drives ≡ false) (sym d.leaves) (none_open number (filter (is_drive number) s.drives) s.live s.drives (each_own number s.drives))

-- all is closed
pub none_keeps : (s : State) → KeepsSome s (with_live s [])
none_keeps s = record { drives = refl; opens = refl; among = λ k. tt; kinds = λ d all. tt }

-- AN OPEN BEGINS

among_snoc : (j : ℕ) (ls : List Live) (l : Live) → (l.number == j) ≡ false → list_any (λ x. x.number == j) (ls ++ l ∷ []) ≡ list_any (λ x. x.number == j) ls
among_snoc j [] l other = ap (λ b. b || false) other
among_snoc j (x ∷ ls) l other = ap (λ z. (x.number == j) || z) (among_snoc j ls l other)

pub drives_opened : (m m2 : CommandsSoFar) (s : State) (l : Live) → m2.hooked ≡ m.hooked → l.number ≡ s.opens → HasDrives m s → HasDrives m2 (with_opened s l)
drives_opened m m2 s l hooked number h = record {
  are = h.are
      ∙ sym (same_filter (has_open (s.live ++ l ∷ [])) (has_open s.live) m.hooked (all_map (WasHooked s) (λ d. has_open (s.live ++ l ∷ []) d ≡ has_open s.live d) m.hooked (λ d w. among_snoc d.open_number s.live l (not_new d w)) h.were))
      ∙ ap (still_hooked (s.live ++ l ∷ [])) (sym hooked);
  were = subst (AllByRecursion (WasHooked (with_opened s l))) (sym hooked) (all_map (WasHooked s) (WasHooked (with_opened s l)) m.hooked
      (λ d w. record { made_so = (let few = w.made_so in omega (arith, few)); is_drive = all_append (IsDriveOf d) s.live (l ∷ []) w.is_drive (λ same. absurd (let few = w.made_so in omega (arith, same, number, few)), tt) }) h.were);
}
  where
    not_new : (d : Drive) → WasHooked s d → (l.number == d.open_number) ≡ false
    not_new d w = ne_eqb l.number d.open_number (λ same. let few = w.made_so in omega (arith, same, number, few))

pub drives_made : (m m2 : CommandsSoFar) (s : State) → m2.hooked ≡ m.hooked → HasDrives m s → HasDrives m2 (with_one_made s)
drives_made m m2 s hooked h = record {
  are = h.are ∙ ap (still_hooked s.live) (sym hooked);
  were = subst (AllByRecursion (WasHooked (with_one_made s))) (sym hooked) (all_map (WasHooked s) (WasHooked (with_one_made s)) m.hooked
      (λ d w. record { made_so = (let few = w.made_so in omega (arith, few)); is_drive = w.is_drive }) h.were);
}

-- A DISK IS HOOKED

hooks_kept : (f : Drive → Bool) (d : Drive) (ds : List Drive) → filter f (with_hooked d (filter f ds)) ≡ filter f (with_hooked d ds)
hooks_kept f d ds =
    filter_two f (filter (below d) (filter f ds)) (d ∷ filter (above d) (filter f ds))
    ∙ ap (λ z. z ++ filter f (d ∷ filter (above d) (filter f ds))) (one (below d))
    ∙ ap (λ z. filter f (filter (below d) ds) ++ cond (f d) (d ∷ z) z) (one (above d))
    ∙ sym (filter_two f (filter (below d) ds) (d ∷ filter (above d) ds))
  where
    below : Drive → Drive → Bool
    below d other = nat_lt other.number d.number

    above : Drive → Drive → Bool
    above d other = nat_lt d.number other.number

    one : (g : Drive → Bool) → filter f (filter g (filter f ds)) ≡ filter f (filter g ds)
    one g = ap (filter f) (filters_swap g f ds) ∙ two_filters f f (filter g ds) (λ x some. some)

one_drive : (P : Drive → Type 0) (b : Bool) (d : Drive) (xs : List Drive) → P d → AllByRecursion P xs → AllByRecursion P (cond b (d ∷ xs) xs)
one_drive P true d xs p h = (p, h)
one_drive P false d xs p h = h

pub some_drives : (P : Drive → Type 0) (f : Drive → Bool) (xs : List Drive) → AllByRecursion P xs → AllByRecursion P (filter f xs)
some_drives P f [] h = tt
some_drives P f (x ∷ xs) h = one_drive P (f x) x (filter f xs) h.0 (some_drives P f xs h.1)

pub all_hooked : (P : Drive → Type 0) (d : Drive) (ds : List Drive) → P d → AllByRecursion P ds → AllByRecursion P (with_hooked d ds)
all_hooked P d ds p h = all_append P (filter (λ other. nat_lt other.number d.number) ds) (d ∷ filter (λ other. nat_lt d.number other.number) ds) (some_drives P (λ other. nat_lt other.number d.number) ds h) (p, some_drives P (λ other. nat_lt d.number other.number) ds h)

pub drives_hooked : (m m2 : CommandsSoFar) (s : State) (d : Drive) → m2.hooked ≡ with_hooked d m.hooked → WasHooked s d → HasDrives m s → HasDrives m2 (with_drive s d)
drives_hooked m m2 s d hooked w h = record {
  are = ap (λ z. still_hooked s.live (with_hooked d z)) h.are ∙ hooks_kept (has_open s.live) d m.hooked ∙ ap (still_hooked s.live) (sym hooked);
  were = subst (AllByRecursion (WasHooked (with_drive s d))) (sym hooked) (all_map (WasHooked s) (WasHooked (with_drive s d)) (with_hooked d m.hooked) (λ x y. record { made_so = y.made_so; is_drive = y.is_drive }) (all_hooked (WasHooked s) d m.hooked w h.were));
}

-- BY THE HISTORY

has_live : (es : List Event) (k : ℕ) (ls : List Live) → AreLive es ls → lives_among k ls ≡ true → has_opening (live k es) ≡ true
has_live es k [] a some = absurd (let no : false ≡ true = some in cc no)
has_live es k (l ∷ ls) a some =
    either_way (l.number == k) (λ is. ap (λ j. has_opening (live j es)) (sym (eqb-true l.number k is)) ∙ ap has_opening (live_one l.number es (live_opening l) a.0.opening a.0.lives))
    (λ other. has_live es k ls a.1 (rest (l.number == k) (lives_among k ls) other some))
  where
    rest : (b c : Bool) → b ≡ false → (b || c) ≡ true → c ≡ true
    rest true c e f = absurd (let no : true ≡ false = e in cc no)
    rest false c e f = f

pub lives_as : (es : List Event) (s : State) (k : ℕ) → AgreesState es s → has_opening (live k es) ≡ lives_among k s.live
lives_as es s k a = either_way (lives_among k s.live) (λ some. has_live es k s.live a.each some ∙ sym some) (λ none. ap has_opening (a.others k none) ∙ sym none)

-- the state's drives are those that live by the history
pub lives_so : (es : List Event) (s : State) → AgreesState es s → HasDrives (so_far es) s → still_living es (so_far es).hooked ≡ s.drives
lives_so es s a h = same_filter (drive_lives es) (has_open s.live) (so_far es).hooked (all_of (λ d. drive_lives es d ≡ has_open s.live d) (so_far es).hooked (λ d. lives_as es s d.open_number a)) ∙ sym h.are

-- the drives that live by the history are the state's
abbrev pub LivesSo : List Event → State → Type 0
LivesSo es s = still_living es (so_far es).hooked ≡ s.drives
