-- Records that opens put: which open's they are, and what they leave as it was.
use Rattle.std.proofs.Common.{◌≡◌, ℕ, ◌+◌, ◌==◌, Bool, true, false, cond, ◌||◌, List, [], ◌∷◌, ◌++◌, length, Option, Some, None, refl, sym, ◌∙◌, ap, subst, append_assoc, append-nil, add-zero, arith}
use Rattle.std.specs.List.{list_any, AllByRecursion}
use Rattle.std.specs.Option.{is_some}
use Rattle.std.proofs.lemmas.List.{length-append}
use Rattle.std.proofs.Math.Bool.{or-false, or_assoc}
use Rattle.nb_terms.specs.declared.acts.Acts.{Acts}
use Rattle.nb_terms.specs.declared.acts.SendTo.{SendTo}
use Rattle.nb_terms.specs.declared.cause.Cause.{Cause}
use Rattle.nb_defs.specs.Records.{Out, step, sent, text, command, result, script, opened, tried, advanced, ended, graph, part, done}
use Rattle.nb_stack.specs.Client.{Client}
use Rattle.nb_tftp.specs.History.{Call, came, ticked, Entry}
use Rattle.nb_nodes.specs.Exchanges.{Service}
use Rattle.nb_machine.specs.Sendings.{has_route, send_records, sends_records, acts_records, advance_records, try_records}
use Rattle.nb_machine.specs.Lives.{OpenKind, tftp, http, iscsi, dns, dhcp, ping, close, Exchange, exchange, Live, continued}
use Rattle.nb_machine.specs.Transfers.{arrival_of, end_records, Exchanged, at_first, takes, closes}
use Rattle.nb_machine.specs.Cores as cores
use Rattle.nb_machine.specs.Cores.{CoreExchanged}
use Rattle.nb_streams.proofs.FlowLaws.{all_append}
use Rattle.nb_streams.specs.Sending.{closing_segment}
use Rattle.nb_talks.specs.Talking.{Talk}
use Rattle.nb_talks.specs.TalkPromises.{Sends, Put, phase_of, close_put}
use Rattle.nb_streams.specs.Trying.{tries_at}
use Rattle.nb_tcp.specs.Messages.{outgoing_message}
use Rattle.nb_machine.specs.Connections.{Connection, connection_of, segment_records, talk_of, talk_end, put_records, PutsAt, KeepsAt, EachExchange, Talking}
use Rattle.nb_machine.specs.Drives.{session_talking}
use Rattle.nb_machine.specs.Webs.{web_talking}
use Rattle.nb_machine.specs.Kinds.{KeepsBy, Keeps}
use Rattle.nb_machine.specs.Takings.{end_told, end_among}
use Rattle.nb_laws.specs.Agreement.{IsAside, AreAside}
use Rattle.nb_laws.specs.Drives.{sessions}
use Rattle.nb_laws.specs.Events.{Event, puts}
use Rattle.nb_laws.specs.Lists.{time, made, port_offset, hardware, mark_at, opens_by, opening_at, openings, is_end_of, open_has_ended, calls, tries, marks}
use Rattle.nb_laws.specs.Webs.{brought_to, told_try_mark, try_marks_of}
use Rattle.nb_openlaws.specs.Standings.{told_try, told_tries}
use Rattle.nb_laws.proofs.DriveTalks.{IsNoCommand}
use Rattle.nb_laws.proofs.Tellings.{told, try_marks_by, made_more, openings_more, calls_more, came_more, try_marks_more, marks_more, over_more, no_more, sessions_stay}
use Rattle.nb_laws.proofs.Histories.{time_more, offset_more, hardware_more}

-- a record that open k puts: a frame, a try, a place, its end
abbrev pub IsOf : ℕ → Out → Type 0
IsOf k (step number) = ⊥
IsOf k (sent bytes) = Unit {0}
IsOf k (text bytes) = ⊥
IsOf k (command depth line place expanded words) = ⊥
IsOf k (result cause) = ⊥
IsOf k (script what depth cause) = ⊥
IsOf k (opened number kind server port own target) = ⊥
IsOf k (tried number count) = number ≡ k
IsOf k (advanced number place) = number ≡ k
IsOf k (ended number cause) = number ≡ k
IsOf k (graph happens) = ⊥
IsOf k (part kind index offset bytes) = ⊥
IsOf k (done status) = ⊥

abbrev pub AreOf : ℕ → List Out → Type 0
AreOf k outs = AllByRecursion (IsOf k) outs

-- neither STEP nor OPEN
abbrev pub IsLater : Out → Type 0
IsLater (step number) = ⊥
IsLater (sent bytes) = Unit {0}
IsLater (text bytes) = Unit {0}
IsLater (command depth line place expanded words) = Unit {0}
IsLater (result cause) = Unit {0}
IsLater (script what depth cause) = Unit {0}
IsLater (opened number kind server port own target) = ⊥
IsLater (tried number count) = Unit {0}
IsLater (advanced number place) = Unit {0}
IsLater (ended number cause) = Unit {0}
IsLater (graph happens) = Unit {0}
IsLater (part kind index offset bytes) = Unit {0}
IsLater (done status) = Unit {0}

abbrev pub AreLater : List Out → Type 0
AreLater outs = AllByRecursion IsLater outs

-- the end of open k stands among records
abbrev pub is_end_record : ℕ → Out → Bool
is_end_record k (ended number cause) = number == k
is_end_record k _ = false

abbrev pub ends_in : ℕ → List Out → Bool
ends_in k outs = list_any (is_end_record k) outs

-- WHAT THEY LEAVE

later_opening : (k : ℕ) (before : List Event) (o : Out) → IsLater o → opening_at k before (puts o) ≡ []
later_opening k before (opened number kind server port own target) h = absurd h
later_opening k before (step number) h = absurd h
later_opening k before _ h = refl

told_mark : (k : ℕ) (before : List Event) (o : Out) → mark_at k before (puts o) ≡ told_try k (time before) o
told_mark k before (tried number count) = refl
told_mark k before (step number) = refl
told_mark k before _ = refl

later_made : (o : Out) → IsLater o → opens_by (puts o) ≡ 0
later_made (opened number kind server port own target) h = absurd h
later_made (step number) h = absurd h
later_made _ h = refl

same_end : (k : ℕ) (o : Out) → is_end_of k (puts o) ≡ is_end_record k o
same_end k (ended number cause) = refl
same_end k (step number) = refl
same_end k _ = refl

-- what records leave as it was, the ends and the tries that they tell
pub record Left (a : List Event) (outs : List Out) : Type 0 where
  pub time_is : time (a ++ told outs) ≡ time a
  pub made_is : made (a ++ told outs) ≡ made a
  pub offset_is : port_offset (a ++ told outs) ≡ port_offset a
  pub hardware_is : hardware (a ++ told outs) ≡ hardware a
  pub openings_is : (k : ℕ) → openings k (a ++ told outs) ≡ openings k a
  pub sessions_is : (k : ℕ) → sessions k (a ++ told outs) ≡ sessions k a
  pub over_is : (k : ℕ) → open_has_ended k (a ++ told outs) ≡ (open_has_ended k a || ends_in k outs)
  pub calls_is : (k : ℕ) → calls k (a ++ told outs) ≡ calls k a
  pub marks_is : (k : ℕ) → marks k (a ++ told outs) ≡ marks k a ++ told_tries k (time a) outs
  pub came_is : (k : ℕ) → brought_to k (a ++ told outs) ≡ brought_to k a
  pub try_marks_is : (k : ℕ) → try_marks_of k (a ++ told outs) ≡ try_marks_of k a ++ try_marks_by k (time a) outs

left_none : (a : List Event) → Left a []
left_none a = let e : a ++ [] ≡ a = append-nil a in record {
  time_is = ap (λ z. time z) e;
  made_is = ap (λ z. made z) e;
  offset_is = ap (λ z. port_offset z) e;
  hardware_is = ap (λ z. hardware z) e;
  openings_is = λ k. ap (λ z. openings k z) e;
  sessions_is = λ k. ap (λ z. sessions k z) e;
  over_is = λ k. ap (λ z. open_has_ended k z) e ∙ sym (or-false (open_has_ended k a));
  calls_is = λ k. ap (λ z. calls k z) e;
  marks_is = λ k. ap (λ z. marks k z) e ∙ sym (append-nil (marks k a));
  came_is = λ k. ap (λ z. brought_to k z) e;
  try_marks_is = λ k. ap (λ z. try_marks_of k z) e ∙ sym (append-nil (try_marks_of k a));
}

pub left : (a : List Event) (outs : List Out) → AreLater outs → Left a outs
left a [] h = left_none a
left a (o ∷ outs) h =
    let next = a ++ puts o ∷ [] in
    let rest = left next outs h.1 in
    let time_one : time next ≡ time a = time_more a (puts o) ∙ omega arith in
    let e : a ++ told (o ∷ outs) ≡ next ++ told outs = sym (append_assoc a (puts o ∷ []) (told outs)) in
    record {
      time_is = ap (λ z. time z) e ∙ rest.time_is ∙ time_one;
      made_is = ap (λ z. made z) e ∙ rest.made_is ∙ made_more a (puts o) ∙ ap (λ z. made a + z) (later_made o h.0) ∙ add-zero (made a);
      offset_is = ap (λ z. port_offset z) e ∙ rest.offset_is ∙ offset_more a (puts o);
      hardware_is = ap (λ z. hardware z) e ∙ rest.hardware_is ∙ hardware_more a (puts o);
      openings_is = λ k. ap (λ z. openings k z) e ∙ rest.openings_is k ∙ openings_more k a (puts o) ∙ no_more (openings k a) _ (later_opening k a o h.0);
      sessions_is = λ k. ap (λ z. sessions k z) e ∙ rest.sessions_is k ∙ sessions_stay k a (puts o) (later_opening k a o h.0);
      over_is = λ k. ap (λ z. open_has_ended k z) e ∙ rest.over_is k ∙ ap (λ b. b || ends_in k outs) (over_more k a (puts o) ∙ ap (λ b. open_has_ended k a || b) (same_end k o))
          ∙ or_assoc (open_has_ended k a) (is_end_record k o) (ends_in k outs);
      calls_is = λ k. ap (λ z. calls k z) e ∙ rest.calls_is k ∙ calls_more k a (puts o) ∙ append-nil (calls k a);
      marks_is = λ k. ap (λ z. marks k z) e ∙ rest.marks_is k
          ∙ ap (λ z. marks k next ++ told_tries k z outs) time_one
          ∙ ap (λ z. z ++ told_tries k (time a) outs) (marks_more k a (puts o) ∙ ap (λ z. marks k a ++ z) (told_mark k a o))
          ∙ append_assoc (marks k a) (told_try k (time a) o) (told_tries k (time a) outs);
      came_is = λ k. ap (λ z. brought_to k z) e ∙ rest.came_is k ∙ came_more k a (puts o) ∙ append-nil (brought_to k a);
      try_marks_is = λ k. ap (λ z. try_marks_of k z) e ∙ rest.try_marks_is k
          ∙ ap (λ z. try_marks_of k next ++ try_marks_by k z outs) time_one
          ∙ ap (λ z. z ++ try_marks_by k (time a) outs) (try_marks_more k a (puts o))
          ∙ append_assoc (try_marks_of k a) (told_try_mark k (time a) o) (try_marks_by k (time a) outs);
    }

aside_later : (o : Out) → IsAside o → IsLater o
aside_later (step number) h = absurd h
aside_later (opened number kind server port own target) h = absurd h
aside_later _ h = tt

asides_later : (outs : List Out) → AreAside outs → AreLater outs
asides_later [] h = tt
asides_later (o ∷ outs) h = (aside_later o h.0, asides_later outs h.1)

-- records beside opens tell no session
pub aside_sessions : (k : ℕ) (a : List Event) (outs : List Out) → AreAside outs → sessions k (a ++ told outs) ≡ sessions k a
aside_sessions k a outs h = (left a outs (asides_later outs h)).sessions_is k

-- WHOSE THEY ARE

of_is_later : (k : ℕ) (o : Out) → IsOf k o → IsLater o
of_is_later k (step number) h = absurd h
of_is_later k (opened number kind server port own target) h = absurd h
of_is_later k _ h = tt

pub of_later : (k : ℕ) (outs : List Out) → AreOf k outs → AreLater outs
of_later k [] h = tt
of_later k (o ∷ outs) h = (of_is_later k o h.0, of_later k outs h.1)

of_no_command : (k : ℕ) (o : Out) → IsOf k o → IsNoCommand o
of_no_command k (command depth line place expanded words) h = absurd h
of_no_command k (step number) h = tt
of_no_command k _ h = tt

-- none of them is a COMMAND
pub are_no_command : (k : ℕ) (outs : List Out) → AreOf k outs → AllByRecursion IsNoCommand outs
are_no_command k [] h = tt
are_no_command k (o ∷ outs) h = (of_no_command k o h.0, are_no_command k outs h.1)

other_try : (k j now : ℕ) (o : Out) → IsOf k o → (k == j) ≡ false → told_try j now o ≡ []
other_try k j now (tried number count) h e = ap (λ z. cond (z == j) (tries count now ∷ []) []) h ∙ ap (λ b. cond b (tries count now ∷ []) []) e
other_try k j now (step number) h e = refl
other_try k j now _ h e = refl

pub other_tries : (k j now : ℕ) (outs : List Out) → AreOf k outs → (k == j) ≡ false → told_tries j now outs ≡ []
other_tries k j now [] h e = refl
other_tries k j now (o ∷ outs) h e = ap (λ z. z ++ told_tries j now outs) (other_try k j now o h.0 e) ∙ other_tries k j now outs h.1 e

other_try_mark : (k j now : ℕ) (o : Out) → IsOf k o → (k == j) ≡ false → told_try_mark j now o ≡ []
other_try_mark k j now (tried number count) h e = ap (λ z. cond (z == j) (tries_at count now ∷ []) []) h ∙ ap (λ b. cond b (tries_at count now ∷ []) []) e
other_try_mark k j now (step number) h e = refl
other_try_mark k j now _ h e = refl

pub other_try_marks : (k j now : ℕ) (outs : List Out) → AreOf k outs → (k == j) ≡ false → try_marks_by j now outs ≡ []
other_try_marks k j now [] h e = refl
other_try_marks k j now (o ∷ outs) h e = ap (λ z. z ++ try_marks_by j now outs) (other_try_mark k j now o h.0 e) ∙ other_try_marks k j now outs h.1 e

other_end : (k j : ℕ) (o : Out) → IsOf k o → (k == j) ≡ false → is_end_record j o ≡ false
other_end k j (ended number cause) h e = ap (λ z. z == j) h ∙ e
other_end k j (step number) h e = refl
other_end k j _ h e = refl

pub other_ends : (k j : ℕ) (outs : List Out) → AreOf k outs → (k == j) ≡ false → ends_in j outs ≡ false
other_ends k j [] h e = refl
other_ends k j (o ∷ outs) h e = ap (λ b. b || ends_in j outs) (other_end k j o h.0 e) ∙ other_ends k j outs h.1 e

end_one : (k : ℕ) (o : Out) (later : Option Cause) (rest : Bool) → rest ≡ is_some later → (is_end_record k o || rest) ≡ is_some (end_told k o later)
end_one k (ended number cause) later rest e = by (number == k)
  where
    by : (b : Bool) → (b || rest) ≡ is_some (cond b (Some cause) later)
    by true = refl
    by false = e
end_one k (step number) later rest e = e
end_one k _ later rest e = e

-- an end stands among records exactly where one is told
pub end_among_is : (k : ℕ) (outs : List Out) → ends_in k outs ≡ is_some (end_among k outs)
end_among_is k [] = refl
end_among_is k (o ∷ outs) = end_one k o (end_among k outs) (ends_in k outs) (end_among_is k outs)

-- WHAT AN EXCHANGE PUTS

pub of_try : (k : ℕ) (try : Option ℕ) → AreOf k (try_records k try)
of_try k None = tt
of_try k (Some n) = (refl, tt)

of_send_by : (k : ℕ) (b : Bool) (xs : List Out) (bytes : List ℕ) → AreOf k xs → AreOf k (cond b (xs ++ (sent bytes ∷ [])) [])
of_send_by k true xs bytes p = all_append (IsOf k) xs (sent bytes ∷ []) p (tt, tt)
of_send_by k false xs bytes p = tt

pub of_send : (net : Client) (k : ℕ) (try : Option ℕ) (m : SendTo) → AreOf k (send_records net k try m)
of_send net k try m = of_send_by k (has_route net m) (try_records k try) _ (of_try k try)

of_sends : (net : Client) (k : ℕ) (try : Option ℕ) (ms : List SendTo) → AreOf k (sends_records net k try ms)
unfolding sends_records
of_sends net k try [] = tt
of_sends net k try (m ∷ []) = of_send net k try m
of_sends net k try (m ∷ n ∷ ms) = all_append (IsOf k) (send_records net k None m) (sends_records net k try (n ∷ ms)) (of_send net k None m) (of_sends net k try (n ∷ ms))

pub of_advance : (k : ℕ) (place : Option ℕ) → AreOf k (advance_records k place)
of_advance k None = tt
of_advance k (Some place) = (refl, tt)

pub of_acts : (net : Client) (k : ℕ) (acts : Acts) → AreOf k (acts_records net k acts)
unfolding acts_records
of_acts net k acts = all_append (IsOf k) (advance_records k acts.advance) (sends_records net k acts.tried acts.sends.items) (of_advance k acts.advance) (of_sends net k acts.tried acts.sends.items)

of_end : (k : ℕ) (x : Option Cause) → AreOf k (end_records k x)
of_end k None = tt
of_end k (Some cause) = (refl, tt)

of_exchange : (net : Client) (k : ℕ) (acts : Acts) (x : Option Cause) → AreOf k (acts_records net k acts ++ end_records k x)
of_exchange net k acts x = all_append (IsOf k) (acts_records net k acts) (end_records k x) (of_acts net k acts) (of_end k x)

-- frames alone
abbrev pub IsFrame : Out → Type 0
IsFrame (sent bytes) = Unit {0}
IsFrame (step number) = ⊥
IsFrame _ = ⊥

-- what is put at a close: frames, of an open that has a connection, and the end
pub record PutsClose (k : ℕ) (cause : Cause) (put : List Out) : Type 0 where
  pub frames : List Out
  pub alone : AllByRecursion IsFrame frames
  pub put_is : put ≡ frames ++ ended k cause ∷ []

-- what was put when this came: records of this open, at a close its end last
pub record IsPutBy (k : ℕ) (x : Exchange) : Type 0 where
  pub of : AreOf k x.put
  pub closes : (cause : Cause) → x.came ≡ close cause → PutsClose k cause x.put

pub snoc_one : {A : Type 0} (xs ys : List A) (x y : A) → xs ++ x ∷ [] ≡ ys ++ y ∷ [] → (xs ≡ ys) × (x ≡ y)
snoc_one [] [] x y e = (refl, cc)
snoc_one [] (b ∷ ys) x y e = absurd (omega (arith, ap length e, length-append ys (y ∷ [])))
snoc_one (a ∷ xs) [] x y e = absurd (omega (arith, ap length e, length-append xs (x ∷ [])))
snoc_one (a ∷ xs) (b ∷ ys) x y e =
    let h : a ≡ b = cc in
    let t : xs ++ x ∷ [] ≡ ys ++ y ∷ [] = cc in
    let k = snoc_one xs ys x y t in
    let front : xs ≡ ys = k.0 in
    (cc, k.1)

pub no_snoc : {A : Type 0} (xs : List A) (x : A) → [] ≡ xs ++ x ∷ [] → ⊥
no_snoc xs x e = omega (arith, ap length e, length-append xs (x ∷ []))

by_entry : (k : ℕ) (call : Call) (link : Client) (acts : Acts) (x : Option Cause) → IsPutBy k (exchange (arrival_of call) link (acts_records link k acts ++ end_records k x))
by_entry k (came m now) link acts x = record { of = of_exchange link k acts x; closes = λ cause e. absurd (cc) }
by_entry k (ticked now) link acts x = record { of = of_exchange link k acts x; closes = λ cause e. absurd (cc) }

by_close : (k : ℕ) (link : Client) (cause : Cause) → IsPutBy k (exchange (close cause) link (ended k cause ∷ []))
by_close k link cause = record { of = (refl, tt); closes = λ c e. let same : cause ≡ c = cc in record { frames = []; alone = tt; put_is = ap (λ z. ended k z ∷ []) same } }

last_of_transfer : (k server : ℕ) (es : List Entry) (ys xs : List Exchange) (x : Exchange) → Exchanged k server es ys → ys ≡ xs ++ x ∷ [] → IsPutBy k x
last_of_transfer k server es ys xs x at_first e = absurd (no_snoc xs x e)
last_of_transfer k server es ys xs x (takes es0 xs0 link call acts h) e = subst (IsPutBy k) (snoc_one xs0 xs _ x e).1 (by_entry k call link acts _)
last_of_transfer k server es ys xs x (closes es0 xs0 link cause h) e = subst (IsPutBy k) (snoc_one xs0 xs _ x e).1 (by_close k link cause)

last_of_core : {S B C : Type 0} (s : Service S B C) (k server : ℕ) (cs : List C) (ys xs : List Exchange) (x : Exchange) → CoreExchanged s k server cs ys → ys ≡ xs ++ x ∷ [] → IsPutBy k x
last_of_core s k server cs ys xs x cores.at_first e = absurd (no_snoc xs x e)
last_of_core s k server cs ys xs x (cores.takes_message cs0 xs0 link rec port body now acts h) e =
    subst (IsPutBy k) (snoc_one xs0 xs _ x e).1 (record { of = of_exchange link k acts _; closes = λ cause no. absurd (cc) })
last_of_core s k server cs ys xs x (cores.takes_time cs0 xs0 link now acts h) e =
    subst (IsPutBy k) (snoc_one xs0 xs _ x e).1 (record { of = of_exchange link k acts _; closes = λ cause no. absurd (cc) })
last_of_core s k server cs ys xs x (cores.closes cs0 xs0 link cause h) e = subst (IsPutBy k) (snoc_one xs0 xs _ x e).1 (by_close k link cause)

-- an open on a connection
pub of_segments : (c : Connection) (link : Client) (sends : Sends) → AreOf c.number (segment_records c link sends)
of_segments c link [] = tt
of_segments c link (s ∷ sends) =
    all_append (IsOf c.number) (send_records link c.number s.1 (outgoing_message c.link s.0)) (segment_records c link sends) (of_send link c.number s.1 (outgoing_message c.link s.0)) (of_segments c link sends)

of_put : (c : Connection) (link : Client) (p : Put) → AreOf c.number (put_records c link p)
of_put c link p =
    all_append (IsOf c.number) (advance_records c.number p.advance ++ segment_records c link p.sends) (end_records c.number (talk_end c link p))
    (all_append (IsOf c.number) (advance_records c.number p.advance) (segment_records c link p.sends) (of_advance c.number p.advance) (of_segments c link p.sends)) (of_end c.number (talk_end c link p))

pub frame_by : (b : Bool) (bytes : List ℕ) → AllByRecursion IsFrame (cond b (sent bytes ∷ []) [] ++ [])
frame_by true bytes = (tt, tt)
frame_by false bytes = tt

-- its close is one segment at most, and the end
pub closed_talk : {T : Type 0} (isn : ℕ) (c : Connection) (link : Client) (d : Talk T) (cause : Cause) → PutsClose c.number cause (put_records c link (close_put isn d cause))
closed_talk isn c link d cause =
    let sends = (close_put isn d cause).sends in
    record {
      frames = segment_records c link sends;
      alone = frame_by (has_route link (outgoing_message c.link (closing_segment isn (phase_of isn d)))) _;
      put_is = refl;
    }

puts_talk : {T : Type 0} (t : Talking T) (c : Connection) (before : List Exchange) (x : Exchange) → KeepsAt t c before x → IsPutBy c.number x
puts_talk t c before x h = record {
  of = subst (AreOf c.number) (sym h.records) (of_put c x.link h.put);
  closes = λ cause is.
      let p : h.put ≡ close_put c.link.isn (talk_of t c before) cause = subst (λ z. PutsAt t c (talk_of t c before) z h.put) is h.puts in
      subst (PutsClose c.number cause) (ap (put_records c x.link) (sym p) ∙ sym h.records) (closed_talk c.link.isn c x.link (talk_of t c before) cause);
}

-- a fact of the last exchange
pub last_exchange : (P : List Exchange → Exchange → Type 0) (before xs : List Exchange) (x : Exchange) → EachExchange P before (xs ++ x ∷ []) → P (before ++ xs) x
last_exchange P before [] x h = subst (λ z. P z x) (sym (append-nil before)) h.0
last_exchange P before (y ∷ xs) x h = subst (λ z. P z x) (append_assoc before (y ∷ []) xs) (last_exchange P (before ++ y ∷ []) xs x h.1)

-- of each kind
pub kept_puts : (l : Live) (x : Exchange) → Keeps (continued l x) → IsPutBy l.number x
kept_puts l x h = by l.kind h
  where
    by : (kind : OpenKind) → KeepsBy kind (continued l x) → IsPutBy l.number x
    by tftp k = last_of_transfer l.number l.server k.entries _ l.exchanges x k.exchanged refl
    by (http isn) k = puts_talk (web_talking l.target) (connection_of isn l) l.exchanges x (last_exchange (KeepsAt (web_talking l.target) (connection_of isn l)) [] l.exchanges x k)
    by (iscsi isn i) k = puts_talk (session_talking i) (connection_of isn l) l.exchanges x (last_exchange (KeepsAt (session_talking i) (connection_of isn l)) [] l.exchanges x k)
    by (dns id) k = last_of_core _ l.number l.server k.calls _ l.exchanges x k.exchanged refl
    by (dhcp a) k = last_of_core _ l.number l.server k.calls _ l.exchanges x k.exchanged refl
    by ping k = last_of_core _ l.number l.server k.calls _ l.exchanges x k.exchanged refl
