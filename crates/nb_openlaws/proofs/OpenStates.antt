-- The state after records that tell nothing of an open, and where an open begins.
use Rattle.std.proofs.Common.{◌≡◌, ℕ, ◌+◌, ◌≤◌, ◌==◌, Bool, true, false, cond, ◌||◌, List, [], ◌∷◌, ◌++◌, Some, None, refl, sym, ◌∙◌, ap, subst, append_assoc, append-nil, add-zero, arith, ne_eqb}
use Rattle.std.specs.List.{AllByRecursion, flat_map}
use Rattle.std.proofs.lemmas.Bool.{eqb-true}
use Rattle.std.proofs.Math.Bool.{or-false}
use Rattle.nb_terms.specs.declared.cause.Cause.{Cause}
use Rattle.nb_terms.specs.declared.acts.SendTo.{SendTo}
use Rattle.nb_defs.specs.Records.{Out, step, sent, opened, tried, ended}
use Rattle.nb_stack.specs.Client.{Client}
use Rattle.nb_stack.specs.Sends.{put_on, way_of}
use Rattle.nb_tftp.proofs.BlockLemmas.{either_way}
use Rattle.nb_machine.specs.Sendings.{has_route, request_of, send_records}
use Rattle.nb_dns.specs.Lookups.{query_to}
use Rattle.nb_dhcp.specs.Acting.{to_servers}
use Rattle.nb_dhcp.specs.Messages.{message_text}
use Rattle.nb_ping.specs.Pings.{echo_request}
use Rattle.nb_machine.specs.Cores.{look_up_of, ping_of}
use Rattle.nb_machine.specs.Transfers.{transfer_of}
use Rattle.nb_machine.specs.Connections.{connection_of, syn_message}
use Rattle.nb_streams.specs.Trying.{tries_at}
use Rattle.nb_laws.specs.Webs.{brought_to, told_try_mark, try_marks_of}
use Rattle.nb_machine.specs.Lives.{OpenKind, tftp, http, iscsi, dns, dhcp, ping, kind_number, Live, open_record, end_record}
use Rattle.nb_machine.specs.Kinds.{first_records}
use Rattle.nb_machine.specs.States.{State, net0, with_opened, with_one_made}
use Rattle.nb_machine.specs.Scripts.{net0_mac}
use Rattle.nb_laws.specs.Events.{Event, puts}
use Rattle.nb_laws.specs.Lists.{time, made, port_offset, Hardware, hardware, Opening, opening_at, openings, open_has_ended, calls, tries, marks}
use Rattle.nb_openlaws.specs.Standings.{heard_calls, heard_marks, streamed, streamed_marks, told_try, told_tries, IsKindBy, HasLogin, IsOngoing, live_opening, AgreesLive, AreLive, lives_among, HaveOwnNumbers, AgreesState}
use Rattle.nb_laws.specs.Agreement.{IsStill, AreStill}
use Rattle.nb_laws.proofs.Histories.{time_more, offset_more, hardware_more}
use Rattle.nb_laws.proofs.Tellings.{told, try_marks_by, made_more, openings_more, calls_more, came_more, try_marks_more, marks_more, over_more, no_more, live_same, same_number, sessions_stay, sessions_more}
use Rattle.nb_laws.proofs.Asides.{own_send}
use Rattle.nb_laws.specs.Drives.{hooks_to_boot, session_with, session_opening, session_at, login_at}
use Rattle.nb_laws.specs.CommandsSoFar.{so_far, hooking_so_far}
use Rattle.nb_laws.proofs.SessionOpenings.{no_session_unopened}
use Rattle.nb_streams.proofs.FlowLaws.{all_append}
use Rattle.nb_openlaws.proofs.OpenRecords.{AreOf, IsLater, AreLater, is_end_record, ends_in, left, of_later, of_send, other_tries, other_try_marks, other_ends}
use Rattle.nb_openlaws.proofs.Takings.{SameAt, then_same, or_first, or_second, both_false, login_on}
use Rattle.nb_openlaws.proofs.UsedEvents.{live_ended}
use Rattle.nb_openlaws.proofs.LiveStates.{quiet_state}

-- RECORDS THAT TELL NOTHING OF AN OPEN

still_is_later : (o : Out) → IsStill o → IsLater o
still_is_later (step number) h = absurd h
still_is_later (opened number kind server port own target) h = absurd h
still_is_later _ h = tt

pub still_later : (outs : List Out) → AreStill outs → AreLater outs
still_later [] h = tt
still_later (o ∷ outs) h = (still_is_later o h.0, still_later outs h.1)

still_end : (j : ℕ) (o : Out) → IsStill o → is_end_record j o ≡ false
still_end j (ended number cause) h = absurd h
still_end j (step number) h = refl
still_end j _ h = refl

still_ends : (j : ℕ) (outs : List Out) → AreStill outs → ends_in j outs ≡ false
still_ends j [] h = refl
still_ends j (o ∷ outs) h = both_false (is_end_record j o) (ends_in j outs) (still_end j o h.0) (still_ends j outs h.1)

still_try : (j now : ℕ) (o : Out) → IsStill o → told_try j now o ≡ []
still_try j now (tried number count) h = absurd h
still_try j now (step number) h = refl
still_try j now _ h = refl

still_tries : (j now : ℕ) (outs : List Out) → AreStill outs → told_tries j now outs ≡ []
still_tries j now [] h = refl
still_tries j now (o ∷ outs) h = ap (λ z. z ++ told_tries j now outs) (still_try j now o h.0) ∙ still_tries j now outs h.1

still_try_mark : (j now : ℕ) (o : Out) → IsStill o → told_try_mark j now o ≡ []
still_try_mark j now (tried number count) h = absurd h
still_try_mark j now (step number) h = refl
still_try_mark j now _ h = refl

still_try_marks : (j now : ℕ) (outs : List Out) → AreStill outs → try_marks_by j now outs ≡ []
still_try_marks j now [] h = refl
still_try_marks j now (o ∷ outs) h = ap (λ z. z ++ try_marks_by j now outs) (still_try_mark j now o h.0) ∙ still_try_marks j now outs h.1

pub still_state : (es : List Event) (outs : List Out) (s : State) → AreStill outs → AgreesState es s → AgreesState (es ++ told outs) s
still_state es outs s h a = quiet_state es outs s (still_later outs h) (λ j. still_ends j outs h) (λ j now. still_tries j now outs h) (λ j now. still_try_marks j now outs h) a

-- AN OPEN BEGINS

-- what a drive's login is begun with is what the settings say then
abbrev pub IsLoginBy : State → OpenKind → ℕ → Opening → Type 0
IsLoginBy s tftp k o = Unit {0}
IsLoginBy s (http isn) k o = Unit {0}
IsLoginBy s (iscsi isn i) k o = i ≡ login_at (record { mac = net0_mac s.devices; identity = s.machine }) k s.table o
IsLoginBy s (dns id) k o = Unit {0}
IsLoginBy s (dhcp a) k o = Unit {0}
IsLoginBy s ping k o = Unit {0}

-- where a drive's open begins, the history says the settings
abbrev pub SaysSettings : List Event → State → OpenKind → Type 0
SaysSettings es s tftp = Unit {0}
SaysSettings es s (http isn) = Unit {0}
SaysSettings es s (iscsi isn i) = (so_far es).table ≡ s.table
SaysSettings es s (dns id) = Unit {0}
SaysSettings es s (dhcp a) = Unit {0}
SaysSettings es s ping = Unit {0}

-- the next open of this state, to which nothing has come
pub record IsNext (s : State) (l : Live) : Type 0 where
  pub number_is : l.number ≡ s.opens
  pub device_is : l.device ≡ net0
  pub since_is : l.since ≡ s.now
  pub bare : l.exchanges ≡ []
  pub kind_is : IsKindBy (record { mac = net0_mac s.devices; identity = s.machine }) l.number l.kind (live_opening l)
  pub login : IsLoginBy s l.kind l.number (live_opening l)

pub opens_here : (es : List Event) (s : State) (l : Live) → IsNext s l → AgreesState es s → openings l.number (es ++ puts (open_record l) ∷ []) ≡ live_opening l ∷ []
opens_here es s l next a =
    openings_more l.number es (puts (open_record l))
    ∙ ap (λ z. z ++ opening_at l.number es (puts (open_record l))) (a.unopened l.number (omega (arith, a.opens, next.number_is)))
    ∙ ap (λ b. cond b (record { kind = (live_opening l).kind; server = l.server; port = l.port; own = l.own; target = l.target; since = time es } ∷ []) []) (same_number l.number)
    ∙ ap (λ t. record { kind = (live_opening l).kind; server = l.server; port = l.port; own = l.own; target = l.target; since = t } ∷ []) (a.time ∙ sym next.since_is)

opens_elsewhere : (es : List Event) (l : Live) (j : ℕ) → (l.number == j) ≡ false → SameAt j es (es ++ puts (open_record l) ∷ [])
opens_elsewhere es l j other = record {
  openings_are = openings_more j es (puts (open_record l)) ∙ no_more (openings j es) _ (ap (λ b. cond b (record { kind = (live_opening l).kind; server = l.server; port = l.port; own = l.own; target = l.target; since = time es } ∷ []) []) other);
  sessions_are = sessions_stay j es (puts (open_record l)) (ap (λ b. cond b (record { kind = (live_opening l).kind; server = l.server; port = l.port; own = l.own; target = l.target; since = time es } ∷ []) []) other);
  over_are = over_more j es (puts (open_record l)) ∙ or-false (open_has_ended j es);
  calls_are = calls_more j es (puts (open_record l)) ∙ append-nil (calls j es);
  marks_are = marks_more j es (puts (open_record l)) ∙ append-nil (marks j es);
  came_are = came_more j es (puts (open_record l)) ∙ append-nil (brought_to j es);
  try_marks_are = try_marks_more j es (puts (open_record l)) ∙ append-nil (try_marks_of j es);
}

-- what the history says of a state in which this open was made
record Opened (es es2 : List Event) (s : State) (l : Live) : Type 0 where
  time_is : time es2 ≡ time es
  made_is : made es2 ≡ made es + 1
  offset_is : port_offset es2 ≡ port_offset es
  hardware_is : hardware es2 ≡ hardware es
  opening_is : openings l.number es2 ≡ live_opening l ∷ []
  calls_is : calls l.number es2 ≡ []
  came_is : brought_to l.number es2 ≡ []
  elsewhere : (j : ℕ) → (l.number == j) ≡ false → SameAt j es es2

made_one : (es : List Event) (s : State) (l : Live) (put : List Out) → IsNext s l → AreOf l.number put → AgreesState es s → Opened es ((es ++ puts (open_record l) ∷ []) ++ told put) s l
made_one es s l put next of a =
    let k = l.number in
    let es1 = es ++ puts (open_record l) ∷ [] in
    let f = left es1 put (of_later k put of) in
    record {
      time_is = f.time_is ∙ time_more es (puts (open_record l)) ∙ add-zero (time es);
      made_is = f.made_is ∙ made_more es (puts (open_record l));
      offset_is = f.offset_is ∙ offset_more es (puts (open_record l));
      hardware_is = f.hardware_is ∙ hardware_more es (puts (open_record l));
      opening_is = f.openings_is k ∙ opens_here es s l next a;
      calls_is = f.calls_is k ∙ calls_more k es (puts (open_record l)) ∙ append-nil (calls k es) ∙ (a.untold k (omega (arith, a.opens, next.number_is))).0;
      came_is = f.came_is k ∙ came_more k es (puts (open_record l)) ∙ append-nil (brought_to k es) ∙ (a.unstreamed k (omega (arith, a.opens, next.number_is))).0;
      elsewhere = λ j other. then_same j es es1 (es1 ++ told put) (opens_elsewhere es l j other) (record {
        openings_are = f.openings_is j;
        sessions_are = f.sessions_is j;
        over_are = f.over_is j ∙ ap (λ b. open_has_ended j es1 || b) (other_ends k j put of other) ∙ or-false (open_has_ended j es1);
        calls_are = f.calls_is j;
        marks_are = f.marks_is j ∙ no_more (marks j es1) _ (other_tries k j (time es1) put of other);
        came_are = f.came_is j;
        try_marks_are = f.try_marks_is j ∙ no_more (try_marks_of j es1) _ (other_try_marks k j (time es1) put of other);
      });
    }

others_live : (es es2 : List Event) (s : State) (l : Live) (ls : List Live) → hardware es2 ≡ hardware es → made es2 ≡ made es + 1 → ((j : ℕ) → (l.number == j) ≡ false → SameAt j es es2) → l.number ≡ made es → AreLive es ls → AreLive es2 ls
others_live es es2 s l [] w m same e h = tt
others_live es es2 s l (x ∷ ls) w m same e h =
    let t = same x.number (ne_eqb l.number x.number (λ is. omega (arith, is, e, h.0.made_so))) in (
      record {
        made_so = omega (arith, m, h.0.made_so);
        on_net0 = h.0.on_net0;
        kind_is = subst (λ z. IsKindBy z x.number x.kind (live_opening x)) (sym w) h.0.kind_is;
        login = login_on x.number es es2 x.kind (live_opening x) t.sessions_are h.0.login;
        opening = t.openings_are ∙ h.0.opening;
        lives = t.over_are ∙ h.0.lives;
        received = t.calls_are ∙ h.0.received;
        tells = t.marks_are ∙ h.0.tells;
        streams = t.came_are ∙ h.0.streams;
        tries_stand = t.try_marks_are ∙ h.0.tries_stand;
        goes_on = h.0.goes_on;
      },
      others_live es es2 s l ls w m same e h.1,
    )

among_last : (j : ℕ) (ls : List Live) (l : Live) → lives_among j (ls ++ l ∷ []) ≡ false → (lives_among j ls ≡ false) × ((l.number == j) ≡ false)
among_last j [] l h = (refl, or_first (l.number == j) false h)
among_last j (x ∷ ls) l h =
    let rest = among_last j ls l (or_second (x.number == j) (lives_among j (ls ++ l ∷ [])) h) in
    (both_false (x.number == j) (lives_among j ls) (or_first (x.number == j) (lives_among j (ls ++ l ∷ [])) h) rest.0, rest.1)

apart_last : (es : List Event) (ls : List Live) (l : Live) → l.number ≡ made es → AreLive es ls → HaveOwnNumbers ls → HaveOwnNumbers (ls ++ l ∷ [])
apart_last es [] l e h a = (refl, tt)
apart_last es (x ∷ ls) l e h a = (last ls a.0, apart_last es ls l e h.1 a.1)
  where
    last : (ys : List Live) → lives_among x.number ys ≡ false → lives_among x.number (ys ++ l ∷ []) ≡ false
    last [] none = both_false (l.number == x.number) false (ne_eqb l.number x.number (λ is. omega (arith, is, e, h.0.made_so))) refl
    last (y ∷ ys) none = both_false (y.number == x.number) (lives_among x.number (ys ++ l ∷ [])) (or_first (y.number == x.number) (lives_among x.number ys) none) (last ys (or_second (y.number == x.number) (lives_among x.number ys) none))

-- the hardware of a state
pub hardware_now : (es : List Event) (s : State) → AgreesState es s → record { mac = net0_mac s.devices; identity = s.machine } ≡ hardware es
hardware_now es s a = rw (sym a.mac_is, sym a.identity_is) refl

-- its login is the history's
pub opens_login : (es : List Event) (s : State) (l : Live) → IsNext s l → SaysSettings es s l.kind → AgreesState es s → HasLogin l.number (es ++ puts (open_record l) ∷ []) l.kind (live_opening l)
opens_login es s l next said a = by l.kind refl next.login said
  where
    here : opening_at l.number es (puts (open_record l)) ≡ live_opening l ∷ []
    here =
        ap (λ b. cond b (record { kind = (live_opening l).kind; server = l.server; port = l.port; own = l.own; target = l.target; since = time es } ∷ []) []) (same_number l.number)
        ∙ ap (λ t. record { kind = (live_opening l).kind; server = l.server; port = l.port; own = l.own; target = l.target; since = t } ∷ []) (a.time ∙ sym next.since_is)

    by : (kind : OpenKind) → l.kind ≡ kind → IsLoginBy s kind l.number (live_opening l) → SaysSettings es s kind → HasLogin l.number (es ++ puts (open_record l) ∷ []) kind (live_opening l)
    by tftp is login settings = tt
    by (http isn) is login settings = tt
    by (iscsi isn i) is login settings =
        let boots = hooks_to_boot (hooking_so_far (so_far es)) in (
          boots,
          sessions_more l.number es (puts (open_record l)) ∙ ap (λ z. z ++ session_at l.number es (puts (open_record l))) (no_session_unopened l.number es (a.unopened l.number (omega (arith, a.opens, next.number_is))))
              ∙ ap (λ (os : List Opening). flat_map (session_opening l.number es) os) here
              ∙ ap (λ b. cond b (session_with l.number es (live_opening l) ∷ []) [] ++ []) (ap (λ z. kind_number z == 3) is)
              ∙ ap (λ z. record { opening = live_opening l; login = z; boots = boots } ∷ [])
              (ap (λ h. login_at h l.number (so_far es).table (live_opening l)) (sym (hardware_now es s a)) ∙ ap (λ t. login_at (record { mac = net0_mac s.devices; identity = s.machine }) l.number t (live_opening l)) settings ∙ sym login),
        )
    by (dns id) is login settings = tt
    by (dhcp x) is login settings = tt
    by ping is login settings = tt

-- it lives, and has had its first try
pub opened_state : (es : List Event) (s : State) (l : Live) (put : List Out) → IsNext s l → SaysSettings es s l.kind → AreOf l.number put → ends_in l.number put ≡ false → ((now : ℕ) → told_tries l.number now put ≡ tries 1 now ∷ []) → ((now : ℕ) → try_marks_by l.number now put ≡ tries_at 1 now ∷ []) → AgreesState es s →
    AgreesState (es ++ told (open_record l ∷ put)) (with_opened s l)
opened_state es s l put next settings of no_end first first_mark a =
    let k = l.number in
    let es1 = es ++ puts (open_record l) ∷ [] in
    let es2 = es1 ++ told put in
    let f = left es1 put (of_later k put of) in
    let o = made_one es s l put next of a in
    let now_made : l.number ≡ made es = next.number_is ∙ sym a.opens in
    let other : (j : ℕ) → made es2 ≤ j → (k == j) ≡ false = λ j more. ne_eqb k j (λ is. omega (arith, is, now_made, o.made_is, more)) in
    let few : (j : ℕ) → made es2 ≤ j → made es ≤ j = λ j more. omega (arith, o.made_is, more) in
    subst (λ z. AgreesState z (with_opened s l)) (append_assoc es (puts (open_record l) ∷ []) (told put))
    (record {
      time = o.time_is ∙ a.time;
      opens = o.made_is ∙ ap (λ z. z + 1) a.opens;
      offset = o.offset_is ∙ a.offset;
      mac_is = ap (λ (h : Hardware). h.mac) o.hardware_is ∙ a.mac_is;
      identity_is = ap (λ (h : Hardware). h.identity) o.hardware_is ∙ a.identity_is;
      each = all_append (AgreesLive es2) s.live (l ∷ []) (others_live es es2 s l s.live o.hardware_is o.made_is o.elsewhere now_made a.each) (
        record {
          made_so = omega (arith, o.made_is, now_made);
          on_net0 = next.device_is;
          kind_is = subst (λ z. IsKindBy z k l.kind (live_opening l)) (hardware_now es s a ∙ sym o.hardware_is) next.kind_is;
          login = login_on k es1 es2 l.kind (live_opening l) (f.sessions_is k) (opens_login es s l next settings a);
          opening = o.opening_is;
          lives = f.over_is k ∙ ap (λ b. open_has_ended k es1 || b) no_end ∙ or-false (open_has_ended k es1) ∙ over_more k es (puts (open_record l)) ∙ or-false (open_has_ended k es) ∙ a.unended k (omega (arith, now_made));
          received = o.calls_is ∙ sym (ap (heard_calls l.kind) next.bare);
          tells = f.marks_is k ∙ ap (λ z. z ++ told_tries k (time es1) put) (marks_more k es (puts (open_record l)) ∙ append-nil (marks k es) ∙ (a.untold k (omega (arith, now_made))).1)
              ∙ first (time es1) ∙ ap (λ t. tries 1 t ∷ []) (time_more es (puts (open_record l)) ∙ add-zero (time es) ∙ a.time ∙ sym next.since_is)
              ∙ ap (λ z. tries 1 l.since ∷ z) (sym (ap (heard_marks l.kind k) next.bare));
          streams = o.came_is ∙ sym (ap streamed next.bare);
          tries_stand = f.try_marks_is k ∙ ap (λ z. z ++ try_marks_by k (time es1) put) (try_marks_more k es (puts (open_record l)) ∙ append-nil (try_marks_of k es) ∙ (a.unstreamed k (omega (arith, now_made))).1)
              ∙ first_mark (time es1) ∙ ap (λ t. tries_at 1 t ∷ []) (time_more es (puts (open_record l)) ∙ add-zero (time es) ∙ a.time ∙ sym next.since_is)
              ∙ ap (λ z. tries_at 1 l.since ∷ z) (sym (ap (streamed_marks k) next.bare));
          goes_on = subst (AllByRecursion (IsOngoing l.kind k l.own)) (sym next.bare) tt;
        },
        tt,
      );
      apart = apart_last es s.live l now_made a.each a.apart;
      others = λ j away. let n = among_last j s.live l away in live_same j es2 es (o.elsewhere j n.1).openings_are (o.elsewhere j n.1).over_are ∙ a.others j n.0;
      unopened = λ j more. (o.elsewhere j (other j more)).openings_are ∙ a.unopened j (few j more);
      unended = λ j more. (o.elsewhere j (other j more)).over_are ∙ a.unended j (few j more);
      untold = λ j more. let u = a.untold j (few j more) in ((o.elsewhere j (other j more)).calls_are ∙ u.0, (o.elsewhere j (other j more)).marks_are ∙ u.1);
      unstreamed = λ j more. let u = a.unstreamed j (few j more) in ((o.elsewhere j (other j more)).came_are ∙ u.0, (o.elsewhere j (other j more)).try_marks_are ∙ u.1);
    })

-- it found no route, and has ended
pub failed_state : (es : List Event) (s : State) (l : Live) (cause : Cause) → IsNext s l → AgreesState es s → AgreesState (es ++ told (open_record l ∷ end_record l cause ∷ [])) (with_one_made s)
failed_state es s l cause next a =
    let k = l.number in
    let put = end_record l cause ∷ [] in
    let es1 = es ++ puts (open_record l) ∷ [] in
    let es2 = es1 ++ told put in
    let f = left es1 put (tt, tt) in
    let o = made_one es s l put next (refl, tt) a in
    let now_made : l.number ≡ made es = next.number_is ∙ sym a.opens in
    let other : (j : ℕ) → made es2 ≤ j → (k == j) ≡ false = λ j more. ne_eqb k j (λ is. omega (arith, is, now_made, o.made_is, more)) in
    let few : (j : ℕ) → made es2 ≤ j → made es ≤ j = λ j more. omega (arith, o.made_is, more) in
    let ends_here : open_has_ended k es2 ≡ true = f.over_is k ∙ ap (λ b. open_has_ended k es1 || (b || false)) (same_number k) ∙ or_true (open_has_ended k es1) in
    subst (λ z. AgreesState z (with_one_made s)) (append_assoc es (puts (open_record l) ∷ []) (told put))
    (record {
      time = o.time_is ∙ a.time;
      opens = o.made_is ∙ ap (λ z. z + 1) a.opens;
      offset = o.offset_is ∙ a.offset;
      mac_is = ap (λ (h : Hardware). h.mac) o.hardware_is ∙ a.mac_is;
      identity_is = ap (λ (h : Hardware). h.identity) o.hardware_is ∙ a.identity_is;
      each = others_live es es2 s l s.live o.hardware_is o.made_is o.elsewhere now_made a.each;
      apart = a.apart;
      others = λ j away. either_way (k == j) (λ here. live_ended j es2 (subst (λ z. open_has_ended z es2 ≡ true) (eqb-true k j here) ends_here))
          (λ not_it. live_same j es2 es (o.elsewhere j not_it).openings_are (o.elsewhere j not_it).over_are ∙ a.others j away);
      unopened = λ j more. (o.elsewhere j (other j more)).openings_are ∙ a.unopened j (few j more);
      unended = λ j more. (o.elsewhere j (other j more)).over_are ∙ a.unended j (few j more);
      untold = λ j more. let u = a.untold j (few j more) in ((o.elsewhere j (other j more)).calls_are ∙ u.0, (o.elsewhere j (other j more)).marks_are ∙ u.1);
      unstreamed = λ j more. let u = a.unstreamed j (few j more) in ((o.elsewhere j (other j more)).came_are ∙ u.0, (o.elsewhere j (other j more)).try_marks_are ∙ u.1);
    })
  where
    or_true : (b : Bool) → (b || true) ≡ true
    or_true true = refl
    or_true false = refl

-- records that open l begins with: its own, no end, and one try
abbrev pub BeginsSo : Live → List Out → Type 0
BeginsSo l put = AreOf l.number put × (ends_in l.number put ≡ false) × ((now : ℕ) → told_tries l.number now put ≡ tries 1 now ∷ []) × ((now : ℕ) → try_marks_by l.number now put ≡ tries_at 1 now ∷ [])

first_so : (l : Live) (b : Bool) (put out : List Out) → (b ≡ true → BeginsSo l out) → cond b (Some out) None ≡ Some put → BeginsSo l put
first_so l true put out begins e = let same : out ≡ put = cc in subst (BeginsSo l) same (begins refl)
first_so l false put out begins e = absurd (cc)

send_ends : (k : ℕ) (link : Client) (m : SendTo) → ends_in k (send_records link k (Some 1) m) ≡ false
send_ends k link m = by (has_route link m) (put_on link m (way_of link m))
  where
    by : (b : Bool) (bytes : List ℕ) → ends_in k (cond b (tried k 1 ∷ sent bytes ∷ []) []) ≡ false
    by true bytes = refl
    by false bytes = refl

first_mark : (k now : ℕ) (b : Bool) (bytes : List ℕ) → b ≡ true → try_marks_by k now (cond b (tried k 1 ∷ sent bytes ∷ []) []) ≡ tries_at 1 now ∷ []
first_mark k now true bytes e = ap (λ z. cond z (tries_at 1 now ∷ []) [] ++ []) (same_number k)
first_mark k now false bytes e = absurd (cc)

message_so : (link : Client) (l : Live) (put : List Out) (m : SendTo) → cond (has_route link m) (Some (send_records link l.number (Some 1) m)) None ≡ Some put → BeginsSo l put
message_so link l put m e =
    first_so l (has_route link m) put (send_records link l.number (Some 1) m)
    (λ is. (of_send link l.number (Some 1) m, send_ends l.number link m, λ now. own_send l.number now link (Some 1) m is, λ now. first_mark l.number now (has_route link m) (put_on link m (way_of link m)) is)) e

-- what an open begins with is its first try
pub begun_so : (link : Client) (l : Live) (put : List Out) → first_records l.kind l link ≡ Some put → BeginsSo l put
begun_so link l put e = by l.kind e
  where
    by : (kind : OpenKind) → first_records kind l link ≡ Some put → BeginsSo l put
    by tftp e = message_so link l put (request_of (transfer_of l)) e
    by (http isn) e = message_so link l put (syn_message (connection_of isn l)) e
    by (iscsi isn i) e = message_so link l put (syn_message (connection_of isn l)) e
    by (dns id) e = message_so link l put (query_to (look_up_of id l)) e
    by (dhcp a) e = message_so link l put (to_servers (message_text a None)) e
    by ping e = message_so link l put (echo_request (ping_of l)) e
