-- Something comes to opens that live, one after another: what the history says of each of them then.
use Rattle.std.proofs.Common.{◌≡◌, ℕ, ◌<◌, ◌==◌, Bool, true, false, ◌||◌, List, [], ◌∷◌, ◌++◌, Some, None, refl, sym, ◌∙◌, ap, subst, append_assoc, append-nil, map, ne_eqb}
use Rattle.std.specs.List.{flat_map, list_any, AllByRecursion}
use Rattle.std.specs.Option.{is_some}
use Rattle.std.proofs.lemmas.List.{map-append}
use Rattle.std.proofs.lemmas.List.Concat.{flat_map-append}
use Rattle.std.proofs.lemmas.Bool.{eqb-true, eqb-false}
use Rattle.std.proofs.Math.Bool.{or-false}
use Rattle.nb_terms.specs.declared.cause.Cause.{Cause}
use Rattle.nb_defs.specs.Records.{Out, step, sent, ended}
use Rattle.nb_stack.specs.Client.{Client}
use Rattle.nb_tftp.proofs.BlockLemmas.{either_way}
use Rattle.nb_machine.specs.Lives.{OpenKind, tftp, http, iscsi, dns, dhcp, ping, OpenInput, message, tcp_segment, time as time_came, task, close, Exchange, exchange, Live, continued}
use Rattle.nb_streams.specs.Trying.{TryMark, comes_in, tries_at}
use Rattle.nb_webs.specs.Webs.{call_of}
use Rattle.nb_machine.specs.Connections.{came_on}
use Rattle.nb_machine.specs.States.{net0}
use Rattle.nb_machine.specs.Takings.{end_among, Over, AllTake, all_have, lives_on, is_over}
use Rattle.nb_laws.specs.Drives.{sessions}
use Rattle.nb_laws.specs.Events.{Event, puts}
use Rattle.nb_laws.specs.Frames.{IsDue, stays_due}
use Rattle.nb_laws.specs.Lists.{time, made, port_offset, hardware, Opening, openings, open_has_ended, calls, tries, marks, mark_of_call}
use Rattle.nb_laws.specs.Webs.{brought_to, told_try_mark, try_marks_of}
use Rattle.nb_laws.specs.Endings.{HadWay}
use Rattle.nb_openlaws.specs.Standings.{heard_call, moment_in, told_try, told_tries, streamed, exchange_try_marks, streamed_marks, heard_calls, exchange_marks, heard_marks, live_opening, IsKindBy, HasLogin, ComesToOwnPort, IsOngoing, AgreesLive, AreLive, lives_among, HaveOwnNumbers}
use Rattle.nb_laws.proofs.Tellings.{told, try_marks_by, no_more}
use Rattle.nb_streams.proofs.FlowLaws.{all_append}
use Rattle.nb_openlaws.proofs.OpenRecords.{AreOf, ends_in, left, of_later, other_tries, other_try_marks, other_ends, end_among_is, IsFrame, PutsClose, IsPutBy, kept_puts}

-- the history says the same of open j
pub record SameAt (j : ℕ) (a b : List Event) : Type 0 where
  pub openings_are : openings j b ≡ openings j a
  pub sessions_are : sessions j b ≡ sessions j a
  pub over_are : open_has_ended j b ≡ open_has_ended j a
  pub calls_are : calls j b ≡ calls j a
  pub marks_are : marks j b ≡ marks j a
  pub came_are : brought_to j b ≡ brought_to j a
  pub try_marks_are : try_marks_of j b ≡ try_marks_of j a

pub then_same : (j : ℕ) (a b c : List Event) → SameAt j a b → SameAt j b c → SameAt j a c
then_same j a b c p q = record {
  openings_are = q.openings_are ∙ p.openings_are;
  sessions_are = q.sessions_are ∙ p.sessions_are;
  over_are = q.over_are ∙ p.over_are;
  calls_are = q.calls_are ∙ p.calls_are;
  marks_are = q.marks_are ∙ p.marks_are;
  came_are = q.came_are ∙ p.came_are;
  try_marks_are = q.try_marks_are ∙ p.try_marks_are;
}

-- a longer history says the same of what stood before
abbrev pub Grows : List Event → List Event → Type 0
Grows a b = (since : List Event) × (b ≡ a ++ since)

pub grown : (a : List Event) (since : List Event) → Grows a (a ++ since)
grown a since = (since, refl)

pub grows_on : (a b c : List Event) → Grows a b → Grows b c → Grows a c
grows_on a b c p q = (p.0 ++ q.0, q.1 ∙ ap (λ z. z ++ q.0) p.1 ∙ append_assoc a p.0 q.0)

-- a way that an open had stays
pub way_stays : (k : ℕ) (a b : List Event) (o : Opening) → Grows a b → HadWay k a o → HadWay k b o
way_stays k a b o g h = record {
  before = h.before;
  since = h.since ++ g.0;
  all = g.1 ∙ ap (λ z. z ++ g.0) h.all ∙ append_assoc h.before h.since g.0;
  opened = h.opened;
  goes = h.goes;
}

-- it came now
abbrev pub IsNow : OpenInput → ℕ → Type 0
IsNow (message rec port body now) t = t ≡ now
IsNow (tcp_segment rec g now) t = t ≡ now
IsNow (time_came now) t = t ≡ now
IsNow (task x now) t = t ≡ now
IsNow (close cause) t = Unit {0}

-- the record used last has brought it, unless it comes from above
abbrev pub IsDueBy : OpenInput → ℕ → List Event → Type 0
IsDueBy (message rec port body now) k es = IsDue k es
IsDueBy (tcp_segment rec g now) k es = IsDue k es
IsDueBy (time_came now) k es = IsDue k es
IsDueBy (task x now) k es = Unit {0}
IsDueBy (close cause) k es = Unit {0}

-- what came, as its connection's tries have it
abbrev pub came_marks : OpenInput → List TryMark
came_marks input = map (λ c. comes_in (call_of c)) (came_on input)

-- it has come to an open, which hasn't taken it yet
pub record HasCome (es : List Event) (input : OpenInput) (l : Live) : Type 0 where
  pub made_so : l.number < made es
  pub on_net0 : l.device ≡ net0
  pub kind_is : IsKindBy (hardware es) l.number l.kind (live_opening l)
  pub login : HasLogin l.number es l.kind (live_opening l)
  pub opening : openings l.number es ≡ live_opening l ∷ []
  pub lives : open_has_ended l.number es ≡ false
  pub received : calls l.number es ≡ heard_calls l.kind l.exchanges ++ heard_call l.kind input
  pub tells : marks l.number es ≡ (tries 1 l.since ∷ heard_marks l.kind l.number l.exchanges) ++ map mark_of_call (heard_call l.kind input)
  pub streams : brought_to l.number es ≡ streamed l.exchanges ++ came_on input
  pub tries_stand : try_marks_of l.number es ≡ (tries_at 1 l.since ∷ streamed_marks l.number l.exchanges) ++ came_marks input
  pub goes_on : AllByRecursion (IsOngoing l.kind l.number l.own) l.exchanges
  pub now : IsNow input (time es)
  pub own : ComesToOwnPort l.kind l.own input
  pub due : IsDueBy input l.number es

abbrev pub AllCome : List Event → OpenInput → List Live → Type 0
AllCome es input ls = AllByRecursion (HasCome es input) ls

-- what has come to it is for its own port
abbrev pub IsToOwnPort : OpenKind → (own : ℕ) → Exchange → Type 0
IsToOwnPort kind own x = ComesToOwnPort kind own x.came

pub own_ports : (kind : OpenKind) (k own : ℕ) (xs : List Exchange) → AllByRecursion (IsOngoing kind k own) xs → AllByRecursion (IsToOwnPort kind own) xs
own_ports kind k own [] h = tt
own_ports kind k own (x ∷ xs) h = (h.0.1, own_ports kind k own xs h.1)

-- an open that has ended: what the history says of it
pub record AgreesOver (es : List Event) (o : Over) : Type 0 where
  pub made_so : o.live.number < made es
  pub kind_is : IsKindBy (hardware es) o.live.number o.live.kind (live_opening o.live)
  pub opening : openings o.live.number es ≡ live_opening o.live ∷ []
  pub over : open_has_ended o.live.number es ≡ true
  pub received : calls o.live.number es ≡ heard_calls o.live.kind o.live.exchanges
  pub streams : brought_to o.live.number es ≡ streamed o.live.exchanges
  pub login : HasLogin o.live.number es o.live.kind (live_opening o.live)
  pub own : AllByRecursion (IsToOwnPort o.live.kind o.live.own) o.live.exchanges

abbrev pub AreOver : List Event → List Over → Type 0
AreOver es os = AllByRecursion (AgreesOver es) os

pub login_on : (k : ℕ) (a b : List Event) (kind : OpenKind) (o : Opening) → sessions k b ≡ sessions k a → HasLogin k a kind o → HasLogin k b kind o
login_on k a b tftp o same h = tt
login_on k a b (http isn) o same h = tt
login_on k a b (iscsi isn i) o same h = (h.0, same ∙ h.1)
login_on k a b (dns id) o same h = tt
login_on k a b (dhcp x) o same h = tt
login_on k a b ping o same h = tt

pub live_on : (a b : List Event) (l : Live) → Grows a b → made b ≡ made a → hardware b ≡ hardware a → SameAt l.number a b → AgreesLive a l → AgreesLive b l
live_on a b l g made_are hardware_are s h = record {
  made_so = subst (λ z. l.number < z) (sym made_are) h.made_so;
  on_net0 = h.on_net0;
  kind_is = subst (λ z. IsKindBy z l.number l.kind (live_opening l)) (sym hardware_are) h.kind_is;
  login = login_on l.number a b l.kind (live_opening l) s.sessions_are h.login;
  opening = s.openings_are ∙ h.opening;
  lives = s.over_are ∙ h.lives;
  received = s.calls_are ∙ h.received;
  tells = s.marks_are ∙ h.tells;
  streams = s.came_are ∙ h.streams;
  tries_stand = s.try_marks_are ∙ h.tries_stand;
  goes_on = h.goes_on;
}

over_on : (a b : List Event) (o : Over) → made b ≡ made a → hardware b ≡ hardware a → SameAt o.live.number a b → AgreesOver a o → AgreesOver b o
over_on a b o made_are hardware_are s h = record {
  made_so = subst (λ z. o.live.number < z) (sym made_are) h.made_so;
  kind_is = subst (λ z. IsKindBy z o.live.number o.live.kind (live_opening o.live)) (sym hardware_are) h.kind_is;
  opening = s.openings_are ∙ h.opening;
  over = s.over_are ∙ h.over;
  received = s.calls_are ∙ h.received;
  streams = s.came_are ∙ h.streams;
  login = login_on o.live.number a b o.live.kind (live_opening o.live) s.sessions_are h.login;
  own = h.own;
}

pub due_told : (k : ℕ) (es : List Event) (outs : List Out) → IsDue k es → IsDue k (es ++ told outs)
due_told k es [] d = subst (λ z. IsDue k z) (sym (append-nil es)) d
due_told k es (o ∷ outs) d = subst (λ z. IsDue k z) (append_assoc es (puts o ∷ []) (told outs)) (due_told k (es ++ puts o ∷ []) outs (stays_due es o d))

due_on : (input : OpenInput) (k : ℕ) (es : List Event) (outs : List Out) → IsDueBy input k es → IsDueBy input k (es ++ told outs)
due_on (message rec port body now) k es outs d = due_told k es outs d
due_on (tcp_segment rec g now) k es outs d = due_told k es outs d
due_on (time_came now) k es outs d = due_told k es outs d
due_on (task x now) k es outs d = tt
due_on (close cause) k es outs d = tt

come_on : (es : List Event) (put : List Out) (input : OpenInput) (l : Live) → made (es ++ told put) ≡ made es → hardware (es ++ told put) ≡ hardware es → time (es ++ told put) ≡ time es → SameAt l.number es (es ++ told put) →
    HasCome es input l → HasCome (es ++ told put) input l
come_on es put input l made_are hardware_are times_are s h = record {
  made_so = subst (λ z. l.number < z) (sym made_are) h.made_so;
  on_net0 = h.on_net0;
  kind_is = subst (λ z. IsKindBy z l.number l.kind (live_opening l)) (sym hardware_are) h.kind_is;
  login = login_on l.number es (es ++ told put) l.kind (live_opening l) s.sessions_are h.login;
  opening = s.openings_are ∙ h.opening;
  lives = s.over_are ∙ h.lives;
  received = s.calls_are ∙ h.received;
  tells = s.marks_are ∙ h.tells;
  streams = s.came_are ∙ h.streams;
  tries_stand = s.try_marks_are ∙ h.tries_stand;
  goes_on = h.goes_on;
  now = subst (IsNow input) (sym times_are) h.now;
  own = h.own;
  due = due_on input l.number es put h.due;
}

-- no try is told at a close
frame_try : (k now : ℕ) (o : Out) → IsFrame o → told_try k now o ≡ []
frame_try k now (sent bytes) h = refl
frame_try k now (step number) h = absurd h
frame_try k now _ h = absurd h

frame_try_mark : (k now : ℕ) (o : Out) → IsFrame o → told_try_mark k now o ≡ []
frame_try_mark k now (sent bytes) h = refl
frame_try_mark k now (step number) h = absurd h
frame_try_mark k now _ h = absurd h

frames_tell : {A : Type 0} (f : Out → List A) (outs more : List Out) → ((o : Out) → IsFrame o → f o ≡ []) → AllByRecursion IsFrame outs → flat_map f more ≡ [] → flat_map f (outs ++ more) ≡ []
frames_tell f [] more none h rest = rest
frames_tell f (o ∷ outs) more none h rest = ap (λ z. z ++ flat_map f (outs ++ more)) (none o h.0) ∙ frames_tell f outs more none h.1 rest

closing_tries : (k t : ℕ) (cause : Cause) (put : List Out) → PutsClose k cause put → told_tries k t put ≡ []
closing_tries k t cause put c = ap (λ z. told_tries k t z) c.put_is ∙ frames_tell (told_try k t) c.frames (ended k cause ∷ []) (frame_try k t) c.alone refl

closing_try_marks : (k t : ℕ) (cause : Cause) (put : List Out) → PutsClose k cause put → try_marks_by k t put ≡ []
closing_try_marks k t cause put c = ap (λ z. try_marks_by k t z) c.put_is ∙ frames_tell (told_try_mark k t) c.frames (ended k cause ∷ []) (frame_try_mark k t) c.alone refl

tries_now : (k t : ℕ) (came : OpenInput) (link : Client) (put : List Out) → IsNow came t → IsPutBy k (exchange came link put) → told_tries k t put ≡ told_tries k (moment_in came) put
tries_now k t (message rec port body now) link put e p = ap (λ z. told_tries k z put) e
tries_now k t (tcp_segment rec g now) link put e p = ap (λ z. told_tries k z put) e
tries_now k t (time_came now) link put e p = ap (λ z. told_tries k z put) e
tries_now k t (task x now) link put e p = ap (λ z. told_tries k z put) e
tries_now k t (close cause) link put e p = let c = p.closes cause refl in closing_tries k t cause put c ∙ sym (closing_tries k 0 cause put c)

try_marks_now : (k t : ℕ) (came : OpenInput) (link : Client) (put : List Out) → IsNow came t → IsPutBy k (exchange came link put) → try_marks_by k t put ≡ try_marks_by k (moment_in came) put
try_marks_now k t (message rec port body now) link put e p = ap (λ z. try_marks_by k z put) e
try_marks_now k t (tcp_segment rec g now) link put e p = ap (λ z. try_marks_by k z put) e
try_marks_now k t (time_came now) link put e p = ap (λ z. try_marks_by k z put) e
try_marks_now k t (task x now) link put e p = ap (λ z. try_marks_by k z put) e
try_marks_now k t (close cause) link put e p = let c = p.closes cause refl in closing_try_marks k t cause put c ∙ sym (closing_try_marks k 0 cause put c)

-- an open has taken what came, and lives on
pub one_takes : (es : List Event) (came : OpenInput) (l : Live) (link : Client) (put : List Out) → HasCome es came l → IsPutBy l.number (exchange came link put) → end_among l.number put ≡ None →
    AgreesLive (es ++ told put) (continued l (exchange came link put))
one_takes es came l link put c p none =
    let k = l.number in
    let x = exchange came link put in
    let f = left es put (of_later k put p.of) in
    record {
      made_so = subst (λ z. l.number < z) (sym f.made_is) c.made_so;
      on_net0 = c.on_net0;
      kind_is = subst (λ z. IsKindBy z k l.kind (live_opening l)) (sym f.hardware_is) c.kind_is;
      login = login_on k es (es ++ told put) l.kind (live_opening l) (f.sessions_is k) c.login;
      opening = f.openings_is k ∙ c.opening;
      lives = f.over_is k ∙ ap (λ b. b || ends_in k put) c.lives ∙ end_among_is k put ∙ ap is_some none;
      received = f.calls_is k ∙ c.received ∙ sym (flat_map-append (λ (y : Exchange). heard_call l.kind y.came) l.exchanges (x ∷ []) ∙ ap (λ z. heard_calls l.kind l.exchanges ++ z) (append-nil (heard_call l.kind came)));
      tells = f.marks_is k ∙ ap (λ z. z ++ told_tries k (time es) put) c.tells
          ∙ append_assoc (tries 1 l.since ∷ heard_marks l.kind k l.exchanges) (map mark_of_call (heard_call l.kind came)) (told_tries k (time es) put)
          ∙ ap (λ z. tries 1 l.since ∷ (heard_marks l.kind k l.exchanges ++ (map mark_of_call (heard_call l.kind came) ++ z))) (tries_now k (time es) came link put c.now p)
          ∙ ap (λ z. tries 1 l.since ∷ z) (sym (flat_map-append (exchange_marks l.kind k) l.exchanges (x ∷ []) ∙ ap (λ z. heard_marks l.kind k l.exchanges ++ z) (append-nil (exchange_marks l.kind k x))));
      streams = f.came_is k ∙ c.streams ∙ sym (flat_map-append (λ (y : Exchange). came_on y.came) l.exchanges (x ∷ []) ∙ ap (λ z. streamed l.exchanges ++ z) (append-nil (came_on came)));
      tries_stand = f.try_marks_is k ∙ ap (λ z. z ++ try_marks_by k (time es) put) c.tries_stand
          ∙ append_assoc (tries_at 1 l.since ∷ streamed_marks k l.exchanges) (came_marks came) (try_marks_by k (time es) put)
          ∙ ap (λ z. tries_at 1 l.since ∷ (streamed_marks k l.exchanges ++ (came_marks came ++ z))) (try_marks_now k (time es) came link put c.now p)
          ∙ ap (λ z. tries_at 1 l.since ∷ z) (sym (flat_map-append (exchange_try_marks k) l.exchanges (x ∷ []) ∙ ap (λ z. streamed_marks k l.exchanges ++ z) (append-nil (exchange_try_marks k x))));
      goes_on = all_append (IsOngoing l.kind k l.own) l.exchanges (x ∷ []) c.goes_on ((none, c.own), tt);
    }

-- an open has taken what came, and has ended
one_ends : (es : List Event) (came : OpenInput) (l : Live) (link : Client) (put : List Out) (cause : Cause) → HasCome es came l → IsPutBy l.number (exchange came link put) → end_among l.number put ≡ Some cause →
    AgreesOver (es ++ told put) (record { live = continued l (exchange came link put); cause = cause })
one_ends es came l link put cause c p some =
    let k = l.number in
    let x = exchange came link put in
    let f = left es put (of_later k put p.of) in
    record {
      made_so = subst (λ z. l.number < z) (sym f.made_is) c.made_so;
      kind_is = subst (λ z. IsKindBy z k l.kind (live_opening l)) (sym f.hardware_is) c.kind_is;
      opening = f.openings_is k ∙ c.opening;
      over = f.over_is k ∙ ap (λ b. b || ends_in k put) c.lives ∙ end_among_is k put ∙ ap is_some some;
      received = f.calls_is k ∙ c.received ∙ sym (flat_map-append (λ (y : Exchange). heard_call l.kind y.came) l.exchanges (x ∷ []) ∙ ap (λ z. heard_calls l.kind l.exchanges ++ z) (append-nil (heard_call l.kind came)));
      streams = f.came_is k ∙ c.streams ∙ sym (flat_map-append (λ (y : Exchange). came_on y.came) l.exchanges (x ∷ []) ∙ ap (λ z. streamed l.exchanges ++ z) (append-nil (came_on came)));
      login = login_on k es (es ++ told put) l.kind (live_opening l) (f.sessions_is k) c.login;
      own = all_append (IsToOwnPort l.kind l.own) l.exchanges (x ∷ []) (own_ports l.kind k l.own l.exchanges c.goes_on) (c.own, tt);
    }

-- records of an open leave all others as they were
pub others_same : (es : List Event) (k j : ℕ) (put : List Out) → AreOf k put → (k == j) ≡ false → SameAt j es (es ++ told put)
others_same es k j put of e =
    let f = left es put (of_later k put of) in
    record {
      openings_are = f.openings_is j;
      sessions_are = f.sessions_is j;
      over_are = f.over_is j ∙ ap (λ b. open_has_ended j es || b) (other_ends k j put of e) ∙ or-false (open_has_ended j es);
      calls_are = f.calls_is j;
      marks_are = f.marks_is j ∙ no_more (marks j es) _ (other_tries k j (time es) put of e);
      came_are = f.came_is j;
      try_marks_are = f.try_marks_is j ∙ no_more (try_marks_of j es) _ (other_try_marks k j (time es) put of e);
    }

-- NUMBERS

pub or_first : (a b : Bool) → (a || b) ≡ false → a ≡ false
or_first true b e = e
or_first false b e = refl

pub or_second : (a b : Bool) → (a || b) ≡ false → b ≡ false
or_second true b e = absurd (cc)
or_second false b e = e

or_other : (a b : Bool) → (a || b) ≡ true → a ≡ false → b ≡ true
or_other true b e f = absurd (cc)
or_other false b e f = e

pub both_false : (a b : Bool) → a ≡ false → b ≡ false → (a || b) ≡ false
both_false a b e f = ap (λ z. z || b) e ∙ f

pub flip_other : (k j : ℕ) → (k == j) ≡ false → (j == k) ≡ false
flip_other k j e = ne_eqb j k (λ same. eqb-false k j e (sym same))

pub tail_come : (es : List Event) (put : List Out) (came : OpenInput) (k : ℕ) (ls : List Live) → AreOf k put → lives_among k ls ≡ false → AllCome es came ls → AllCome (es ++ told put) came ls
tail_come es put came k [] of apart h = tt
tail_come es put came k (l ∷ ls) of apart h =
    let other : (k == l.number) ≡ false = flip_other l.number k (or_first (l.number == k) (lives_among k ls) apart) in
    let f = left es put (of_later k put of) in (
      come_on es put came l f.made_is f.hardware_is f.time_is (others_same es k l.number put of other) h.0,
      tail_come es put came k ls of (or_second (l.number == k) (lives_among k ls) apart) h.1,
    )

-- THEY HAVE ALL TAKEN IT

abbrev pub overs_among : ℕ → List Over → Bool
overs_among k os = list_any (λ o. o.live.number == k) os

-- From the first history to the second these opens took what came, and those live on.
pub record Taken (es es2 : List Event) (ls after : List Live) (over : List Over) : Type 0 where
  pub time_is : time es2 ≡ time es
  pub made_is : made es2 ≡ made es
  pub offset_is : port_offset es2 ≡ port_offset es
  pub hardware_is : hardware es2 ≡ hardware es
  pub each : AreLive es2 after
  pub ended : AreOver es2 over
  -- whose numbers are theirs
  pub theirs : (j : ℕ) → lives_among j ls ≡ false → overs_among j over ≡ false
  pub apart : HaveOwnNumbers after
  pub still : (j : ℕ) → lives_among j ls ≡ false → SameAt j es es2
  pub none_new : (j : ℕ) → lives_among j ls ≡ false → lives_among j after ≡ false
  pub gone : (j : ℕ) → lives_among j ls ≡ true → lives_among j after ≡ false → open_has_ended j es2 ≡ true

pub all_taken : (devices : List Client) (came : OpenInput) (ls : List Live) (put : List Out) (after : List Live) (over : List Over) → AllTake devices came ls put after over →
    (es : List Event) → AllCome es came ls → HaveOwnNumbers ls → Taken es (es ++ told put) ls after over
all_taken devices came ls put after over all_have es come apart = subst (λ z. Taken es z [] [] []) (sym (append-nil es)) (record {
  time_is = refl;
  made_is = refl;
  offset_is = refl;
  hardware_is = refl;
  each = tt;
  ended = tt;
  theirs = λ j none. refl;
  apart = tt;
  still = λ j none. record { openings_are = refl; sessions_are = refl; over_are = refl; calls_are = refl; marks_are = refl; came_are = refl; try_marks_are = refl };
  none_new = λ j none. refl;
  gone = λ j some none. absurd (cc);
})
all_taken devices came ls0 put0 after0 over0 (lives_on l ls after link put more over got keeps none rest) es come apart =
    let k = l.number in
    let x = exchange came link put in
    let p = kept_puts l x keeps in
    let f = left es put (of_later k put p.of) in
    let es1 = es ++ told put in
    let es2 = es1 ++ told more in
    let same : (j : ℕ) → (k == j) ≡ false → SameAt j es es1 = λ j other. others_same es k j put p.of other in
    let t = all_taken devices came ls more after over rest es1 (tail_come es put came k ls p.of apart.0 come.1) apart.1 in
    subst (λ z. Taken es z (l ∷ ls) (continued l x ∷ after) over) (append_assoc es (told put) (told more) ∙ ap (λ z. es ++ z) (sym (map-append puts put more)))
    (record {
      time_is = t.time_is ∙ f.time_is;
      made_is = t.made_is ∙ f.made_is;
      offset_is = t.offset_is ∙ f.offset_is;
      hardware_is = t.hardware_is ∙ f.hardware_is;
      each = (live_on es1 es2 (continued l x) (grown es1 (told more)) t.made_is t.hardware_is (t.still k apart.0) (one_takes es came l link put come.0 p none), t.each);
      ended = t.ended;
      theirs = λ j away. t.theirs j (or_second (k == j) (lives_among j ls) away);
      apart = (t.none_new k apart.0, t.apart);
      still = λ j away. then_same j es es1 es2 (same j (or_first (k == j) (lives_among j ls) away)) (t.still j (or_second (k == j) (lives_among j ls) away));
      none_new = λ j away. both_false (k == j) (lives_among j after) (or_first (k == j) (lives_among j ls) away) (t.none_new j (or_second (k == j) (lives_among j ls) away));
      gone = λ j some away. t.gone j (or_other (k == j) (lives_among j ls) some (or_first (k == j) (lives_among j after) away)) (or_second (k == j) (lives_among j after) away);
    })
all_taken devices came ls0 put0 after0 over0 (is_over l ls after link put more over cause got keeps some rest) es come apart =
    let k = l.number in
    let x = exchange came link put in
    let p = kept_puts l x keeps in
    let f = left es put (of_later k put p.of) in
    let es1 = es ++ told put in
    let es2 = es1 ++ told more in
    let same : (j : ℕ) → (k == j) ≡ false → SameAt j es es1 = λ j other. others_same es k j put p.of other in
    let t = all_taken devices came ls more after over rest es1 (tail_come es put came k ls p.of apart.0 come.1) apart.1 in
    let ends : open_has_ended k es2 ≡ true = (t.still k apart.0).over_are ∙ f.over_is k ∙ ap (λ b. b || ends_in k put) come.0.lives ∙ end_among_is k put ∙ ap is_some some in
    subst (λ z. Taken es z (l ∷ ls) after (record { live = continued l x; cause = cause } ∷ over)) (append_assoc es (told put) (told more) ∙ ap (λ z. es ++ z) (sym (map-append puts put more)))
    (record {
      time_is = t.time_is ∙ f.time_is;
      made_is = t.made_is ∙ f.made_is;
      offset_is = t.offset_is ∙ f.offset_is;
      hardware_is = t.hardware_is ∙ f.hardware_is;
      each = t.each;
      ended = (over_on es1 es2 (record { live = continued l x; cause = cause }) t.made_is t.hardware_is (t.still k apart.0) (one_ends es came l link put cause come.0 p some), t.ended);
      theirs = λ j away. both_false (k == j) (overs_among j over) (or_first (k == j) (lives_among j ls) away) (t.theirs j (or_second (k == j) (lives_among j ls) away));
      apart = t.apart;
      still = λ j away. then_same j es es1 es2 (same j (or_first (k == j) (lives_among j ls) away)) (t.still j (or_second (k == j) (lives_among j ls) away));
      none_new = λ j away. t.none_new j (or_second (k == j) (lives_among j ls) away);
      gone = λ j some2 away. either_way (k == j) (λ here. subst (λ z. open_has_ended z es2 ≡ true) (eqb-true k j here) ends) (λ other. t.gone j (or_other (k == j) (lives_among j ls) some2 other) away);
    })
