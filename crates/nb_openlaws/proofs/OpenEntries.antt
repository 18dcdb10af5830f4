-- What an open has done in its exchanges, as entries: each call of its core, with what it asked then.
use Rattle.std.proofs.Common.{◌≡◌, ℕ, ◌==◌, Bool, true, false, cond, ◌||◌, not, List, [], ◌∷◌, ◌++◌, Option, Some, None, refl, sym, ◌∙◌, ap, subst, append-nil, map, if◌then◌else◌}
use Rattle.std.specs.Prelude.{unwrap_or}
use Rattle.std.specs.List.{flat_map, list_any, fold, AllByRecursion}
use Rattle.std.proofs.lemmas.List.Sums.{fold-append}
use Rattle.std.specs.Option.{is_some}
use Rattle.std.proofs.lemmas.List.{map-append}
use Rattle.std.proofs.lemmas.List.Concat.{flat_map-append}
use Rattle.nb_terms.specs.declared.acts.Acts.{Acts}
use Rattle.nb_terms.specs.declared.acts.SendTo.{SendTo}
use Rattle.nb_terms.specs.declared.cause.Cause.{Cause}
use Rattle.nb_defs.specs.Records.{Out, step, sent, advanced, ended}
use Rattle.nb_stack.specs.Client.{Client}
use Rattle.nb_stack.specs.Sends.{put_on, way_of}
use Rattle.nb_tftp.specs.Asks.{Begun}
use Rattle.nb_tftp.specs.Blocks.{file}
use Rattle.nb_tftp.specs.Received.{received}
use Rattle.nb_tftp.specs.History.{Call, came, ticked, Entry, entry, got, is_ended, last_advance, EachEntry}
use Rattle.nb_tftp.specs.Sentences.{AsksSo}
use Rattle.nb_tftp.proofs.HistoryLemmas.{is_ended-append, last_advance-append}
use Rattle.nb_tftp.proofs.PlainLaws.{EachEntry-last}
use Rattle.nb_tftp.proofs.TryLaws.{Sends, sends_none, sends_one, call_sends}
use Rattle.nb_command.specs.SettingAddresses.{host}
use Rattle.nb_nodes.specs.Exchanges.{Service}
use Rattle.nb_machine.specs.Sendings.{has_route, send_records, sends_records, acts_records, advance_records, try_records, end_with_body, is_over_limit, too_large_image}
use Rattle.nb_machine.specs.Saying.{datagram_from}
use Rattle.nb_machine.specs.CommandRecords.{no_route}
use Rattle.nb_laws.specs.Agreement.{moment, try_marks, entry_marks, IsAside, AreAside}
use Rattle.nb_laws.specs.Lists.{mark_of_call}
use Rattle.nb_laws.proofs.Asides.{aside_acts, own_send}
use Rattle.nb_laws.proofs.Tellings.{same_number}
use Rattle.nb_machine.specs.Lives.{OpenKind, tftp, OpenInput, message, time as time_came, close, Exchange, exchange}
use Rattle.nb_machine.specs.Transfers.{arrival_of, finds_none, earlier_end, end_records, transfer_end, transfer_records, Exchanged, at_first, takes, closes}
use Rattle.nb_machine.specs.Cores as cores
use Rattle.nb_machine.specs.Cores.{core_end, core_records, CoreExchanged}
use Rattle.nb_machine.specs.Takings.{end_told, end_among}
use Rattle.nb_openlaws.specs.Standings.{heard_port, heard_call, heard_calls, moment_in, told_try, told_tries, exchange_marks, heard_marks, ComesToOwnPort, IsOngoing}

-- ENDS AMONG RECORDS

aside_one : (k : ℕ) (o : Out) (later : Option Cause) → IsAside o → end_told k o later ≡ later
aside_one k (ended number cause) later h = absurd h
aside_one k _ later h = refl

pub aside_all : (k : ℕ) (outs more : List Out) → AreAside outs → end_among k (outs ++ more) ≡ end_among k more
aside_all k [] more h = refl
aside_all k (o ∷ outs) more h = aside_one k o (end_among k (outs ++ more)) h.0 ∙ aside_all k outs more h.1

pub own_end : (k : ℕ) (x : Option Cause) → end_among k (end_records k x) ≡ x
own_end k None = refl
own_end k (Some cause) = ap (λ b. cond b (Some cause) None) (same_number k)

-- the end among the records of an exchange
pub acts_end : (k : ℕ) (link : Client) (acts : Acts) (x : Option Cause) → end_among k (acts_records link k acts ++ end_records k x) ≡ x
acts_end k link acts x = aside_all k (acts_records link k acts) (end_records k x) (aside_acts link k acts) ∙ own_end k x

-- TRIES AMONG RECORDS

none_first : (a b : Bool) → (a || b) ≡ false → a ≡ false
none_first true b e = e
none_first false b e = refl

none_second : (a b : Bool) → (a || b) ≡ false → b ≡ false
none_second true b e = absurd (cc)
none_second false b e = e

not_not : (b : Bool) → not b ≡ false → b ≡ true
not_not true e = refl
not_not false e = absurd (cc)

-- what asks for nothing tries nothing
abbrev pub IsFit : Acts → Type 0
IsFit acts = acts.sends.items ≡ [] → acts.tried ≡ None

send_none : (k now : ℕ) (link : Client) (m : SendTo) → told_tries k now (send_records link k None m) ≡ []
send_none k now link m = by (has_route link m) (put_on link m (way_of link m))
  where
    by : (b : Bool) (bytes : List ℕ) → told_tries k now (cond b (sent bytes ∷ []) []) ≡ []
    by true bytes = refl
    by false bytes = refl

sends_tries : (k now : ℕ) (link : Client) (try : Option ℕ) (m : SendTo) (ms : List SendTo) → list_any (λ z. not (has_route link z)) (m ∷ ms) ≡ false → told_tries k now (sends_records link k try (m ∷ ms)) ≡ try_marks now try
unfolding sends_records
sends_tries k now link try m [] none = own_send k now link try m (not_not (has_route link m) (none_first (not (has_route link m)) false none))
sends_tries k now link try m (n ∷ ms) none =
    flat_map-append (told_try k now) (send_records link k None m) (sends_records link k try (n ∷ ms))
    ∙ ap (λ z. z ++ told_tries k now (sends_records link k try (n ∷ ms))) (send_none k now link m)
    ∙ sends_tries k now link try n ms (none_second (not (has_route link m)) (list_any (λ z. not (has_route link z)) (n ∷ ms)) none)

all_tries : (k now : ℕ) (link : Client) (try : Option ℕ) (ms : List SendTo) → list_any (λ z. not (has_route link z)) ms ≡ false → (ms ≡ [] → try ≡ None) → told_tries k now (sends_records link k try ms) ≡ try_marks now try
unfolding sends_records
all_tries k now link try [] none fit = ap (try_marks now) (sym (fit refl))
all_tries k now link try (m ∷ ms) none fit = sends_tries k now link try m ms none

-- no try is told where none is made
none_tries : (k now : ℕ) (link : Client) (ms : List SendTo) → told_tries k now (sends_records link k None ms) ≡ []
unfolding sends_records
none_tries k now link [] = refl
none_tries k now link (m ∷ []) = send_none k now link m
none_tries k now link (m ∷ n ∷ ms) =
    flat_map-append (told_try k now) (send_records link k None m) (sends_records link k None (n ∷ ms))
    ∙ ap (λ z. z ++ told_tries k now (sends_records link k None (n ∷ ms))) (send_none k now link m) ∙ none_tries k now link (n ∷ ms)

advance_tries : (k now : ℕ) (place : Option ℕ) → told_tries k now (advance_records k place) ≡ []
advance_tries k now None = refl
advance_tries k now (Some n) = refl

end_tries : (k now : ℕ) (x : Option Cause) → told_tries k now (end_records k x) ≡ []
end_tries k now None = refl
end_tries k now (Some cause) = refl

acts_as_sends : (k now : ℕ) (link : Client) (acts : Acts) (x : Option Cause) → told_tries k now (acts_records link k acts ++ end_records k x) ≡ told_tries k now (sends_records link k acts.tried acts.sends.items)
unfolding acts_records
acts_as_sends k now link acts x =
    flat_map-append (told_try k now) (acts_records link k acts) (end_records k x)
    ∙ ap (λ z. told_tries k now (acts_records link k acts) ++ z) (end_tries k now x)
    ∙ append-nil (told_tries k now (acts_records link k acts))
    ∙ flat_map-append (told_try k now) (advance_records k acts.advance) (sends_records link k acts.tried acts.sends.items)
    ∙ ap (λ z. z ++ told_tries k now (sends_records link k acts.tried acts.sends.items)) (advance_tries k now acts.advance)

-- what an exchange tries is told where all its messages find a way, or nothing is tried
pub routed_tries : (k now : ℕ) (link : Client) (acts : Acts) (x : Option Cause) → IsFit acts → finds_none link acts ≡ false → told_tries k now (acts_records link k acts ++ end_records k x) ≡ try_marks now acts.tried
routed_tries k now link acts x fit none = acts_as_sends k now link acts x ∙ all_tries k now link acts.tried acts.sends.items none fit

pub untried_tries : (k now : ℕ) (link : Client) (acts : Acts) (x : Option Cause) → acts.tried ≡ None → told_tries k now (acts_records link k acts ++ end_records k x) ≡ try_marks now acts.tried
untried_tries k now link acts x none =
    acts_as_sends k now link acts x ∙ ap (λ t. told_tries k now (sends_records link k t acts.sends.items)) none ∙ none_tries k now link acts.sends.items ∙ ap (try_marks now) (sym none)

-- THE LAST ADVANCE AMONG RECORDS

abbrev pub told_place : (k last : ℕ) → Out → ℕ
told_place k last (advanced number place) = if number == k then place else last
told_place k last (step number) = last
told_place k last _ = last

abbrev pub told_places : (k last : ℕ) → List Out → ℕ
told_places k last outs = fold (told_place k) last outs

try_place : (k p : ℕ) (try : Option ℕ) (bytes : List ℕ) → told_places k p (try_records k try ++ (sent bytes ∷ [])) ≡ p
try_place k p None bytes = refl
try_place k p (Some n) bytes = refl

send_place : (k p : ℕ) (link : Client) (try : Option ℕ) (m : SendTo) → told_places k p (send_records link k try m) ≡ p
send_place k p link try m = by (has_route link m)
  where
    by : (b : Bool) → told_places k p (cond b (try_records k try ++ (sent (put_on link m (way_of link m)) ∷ [])) []) ≡ p
    by true = try_place k p try (put_on link m (way_of link m))
    by false = refl

sends_place : (k p : ℕ) (link : Client) (try : Option ℕ) (ms : List SendTo) → told_places k p (sends_records link k try ms) ≡ p
unfolding sends_records
sends_place k p link try [] = refl
sends_place k p link try (m ∷ []) = send_place k p link try m
sends_place k p link try (m ∷ n ∷ ms) =
    fold-append (told_place k) p (send_records link k None m) (sends_records link k try (n ∷ ms))
    ∙ ap (λ z. told_places k z (sends_records link k try (n ∷ ms))) (send_place k p link None m) ∙ sends_place k p link try (n ∷ ms)

advance_place : (k p : ℕ) (place : Option ℕ) → told_places k p (advance_records k place) ≡ unwrap_or place p
advance_place k p None = refl
advance_place k p (Some n) = ap (λ b. cond b n p) (same_number k)

end_place : (k p : ℕ) (x : Option Cause) → told_places k p (end_records k x) ≡ p
end_place k p None = refl
end_place k p (Some cause) = refl

pub acts_place : (k p : ℕ) (link : Client) (acts : Acts) (x : Option Cause) → told_places k p (acts_records link k acts ++ end_records k x) ≡ unwrap_or acts.advance p
unfolding acts_records
acts_place k p link acts x =
    fold-append (told_place k) p (acts_records link k acts) (end_records k x) ∙ end_place k (told_places k p (acts_records link k acts)) x
    ∙ fold-append (told_place k) p (advance_records k acts.advance) (sends_records link k acts.tried acts.sends.items)
    ∙ sends_place k (told_places k p (advance_records k acts.advance)) link acts.tried acts.sends.items ∙ advance_place k p acts.advance

-- the place that open k's last ADVANCE has in these exchanges
abbrev pub exchange_places : ℕ → List Exchange → ℕ
exchange_places k xs = fold (λ last x. told_places k last x.put) 0 xs

-- WHAT AN OPEN HAS DONE

-- these exchanges are these entries, and none has ended
pub record Did (kind : OpenKind) (k : ℕ) (xs : List Exchange) (h : List Entry) : Type 0 where
  pub calls_are : heard_calls kind xs ≡ map (λ e. e.call) h
  pub marks_are : heard_marks kind k xs ≡ flat_map entry_marks h
  pub running : is_ended h ≡ false
  pub places_are : exchange_places k xs ≡ last_advance h

did_none : (kind : OpenKind) (k : ℕ) → Did kind k [] []
did_none kind k = record { calls_are = refl; marks_are = refl; running = refl; places_are = refl }

-- an exchange that is an entry, after which the open goes on
record DidOne (kind : OpenKind) (k : ℕ) (x : Exchange) (e : Entry) : Type 0 where
  call_is : heard_call kind x.came ≡ e.call ∷ []
  tries_are : told_tries k (moment_in x.came) x.put ≡ try_marks (moment e.call) e.acts.tried
  no_end : is_some e.acts.over ≡ false
  place_is : (p : ℕ) → told_places k p x.put ≡ unwrap_or e.acts.advance p

did_more : (kind : OpenKind) (k : ℕ) (xs : List Exchange) (h : List Entry) (x : Exchange) (e : Entry) → DidOne kind k x e → Did kind k xs h → Did kind k (xs ++ x ∷ []) (h ++ e ∷ [])
did_more kind k xs h x e one d = record {
  calls_are = flat_map-append (λ (y : Exchange). heard_call kind y.came) xs (x ∷ []) ∙ ap (λ z. heard_calls kind xs ++ z) (append-nil (heard_call kind x.came) ∙ one.call_is)
      ∙ ap (λ z. z ++ e.call ∷ []) d.calls_are ∙ sym (map-append (λ (y : Entry). y.call) h (e ∷ []));
  marks_are = flat_map-append (exchange_marks kind k) xs (x ∷ []) ∙ ap (λ z. heard_marks kind k xs ++ z) (append-nil (exchange_marks kind k x) ∙ ap (λ z. map mark_of_call z ++ told_tries k (moment_in x.came) x.put) one.call_is ∙ ap (λ z. mark_of_call e.call ∷ z) one.tries_are)
      ∙ ap (λ z. z ++ entry_marks e) d.marks_are ∙ ap (λ z. flat_map entry_marks h ++ z) (sym (append-nil (entry_marks e))) ∙ sym (flat_map-append entry_marks h (e ∷ []));
  running = is_ended-append h e ∙ ap (λ b. b || is_some e.acts.over) d.running ∙ one.no_end;
  places_are = fold-append (λ last (y : Exchange). told_places k last y.put) 0 xs (x ∷ []) ∙ one.place_is (exchange_places k xs) ∙ ap (unwrap_or e.acts.advance) d.places_are ∙ sym (last_advance-append h e);
}

pub all_front : {A : Type 0} (P : A → Type 0) (xs : List A) (x : A) → AllByRecursion P (xs ++ x ∷ []) → AllByRecursion P xs
all_front P [] x h = tt
all_front P (y ∷ xs) x h = (h.0, all_front P xs x h.1)

pub all_last : {A : Type 0} (P : A → Type 0) (xs : List A) (x : A) → AllByRecursion P (xs ++ x ∷ []) → P x
all_last P [] x h = h.0
all_last P (y ∷ xs) x h = all_last P xs x h.1

-- how it goes on: no end is asked, and each message finds a way
pub record NoEnd (over : Option Cause) (lost : Bool) : Type 0 where
  pub none : over ≡ None
  pub routed : lost ≡ false

pub no_end_of : (over : Option Cause) (lost : Bool) (cause : Cause) → earlier_end over (cond lost (Some cause) None) ≡ None → NoEnd over lost
no_end_of None false cause e = record { none = refl; routed = refl }
no_end_of None true cause e = absurd (cc)
no_end_of (Some c) lost cause e = absurd (cc)

within_limit : (body : List ℕ) (acts : Acts) (lost : Bool) (cause : Cause) → earlier_end (end_with_body body acts) (cond lost (Some cause) None) ≡ None → NoEnd acts.over lost
within_limit body acts lost cause e = by (is_over_limit body) e
  where
    by : (b : Bool) → earlier_end (cond b (Some too_large_image) acts.over) (cond lost (Some cause) None) ≡ None → NoEnd acts.over lost
    by true e = absurd (cc)
    by false e = no_end_of acts.over lost cause e

-- A TRANSFER

sends_fit : (b : Begun) (acts : Acts) → Sends b acts → IsFit acts
sends_fit b acts (sends_none items tried) = λ e. tried
sends_fit b acts (sends_one send items to own proto) = λ e. absurd (let no : send ∷ [] ≡ [] = sym items ∙ e in cc)

pub transfer_fit : (b : Begun) (h : List Entry) (call : Call) (acts : Acts) → AsksSo b h (entry call acts) → IsFit acts
transfer_fit b h call acts so = sends_fit b acts (call_sends true b h call acts so)

pub each_front : (P : List Entry → Entry → Type 0) (before h : List Entry) (e : Entry) → EachEntry P before (h ++ e ∷ []) → EachEntry P before h
each_front P before [] e each = tt
each_front P before (x ∷ h) e each = (each.0, each_front P (before ++ x ∷ []) h e each.1)

one_arrival : (call : Call) → heard_call tftp (arrival_of call) ≡ call ∷ []
one_arrival (came m now) = refl
one_arrival (ticked now) = refl

same_moment : (call : Call) → moment_in (arrival_of call) ≡ moment call
same_moment (came m now) = refl
same_moment (ticked now) = refl

pub did_transfer : (k server own : ℕ) (b : Begun) (h : List Entry) (xs : List Exchange) → Exchanged k server h xs → EachEntry (AsksSo b) [] h → AllByRecursion (IsOngoing tftp k own) xs → Did tftp k xs h
did_transfer k server own b h xs at_first each going = did_none tftp k
did_transfer k server own b h xs (takes es0 xs0 link call acts before) each going =
    let e = entry call acts in
    let body = file (got (es0 ++ e ∷ [])) in
    let x = exchange (arrival_of call) link (transfer_records k server link body acts) in
    let none = within_limit body acts (finds_none link acts) (no_route server) (sym (acts_end k link acts (transfer_end server link body acts)) ∙ (all_last (IsOngoing tftp k own) xs0 x going).0) in
    did_more tftp k xs0 es0 x e (record {
      call_is = one_arrival call;
      tries_are = routed_tries k (moment_in (arrival_of call)) link acts (transfer_end server link body acts) (transfer_fit b es0 call acts (EachEntry-last (AsksSo b) [] es0 e each)) none.routed ∙ ap (λ t. try_marks t acts.tried) (same_moment call);
      no_end = ap (λ (c : Option Cause). is_some c) none.none;
      place_is = λ p. acts_place k p link acts (transfer_end server link body acts);
    })
    (did_transfer k server own b es0 xs0 before (each_front (AsksSo b) [] es0 e each) (all_front (IsOngoing tftp k own) xs0 x going))
did_transfer k server own b h xs (closes es0 xs0 link cause before) each going =
    let x = exchange (close cause) link (ended k cause ∷ []) in
    absurd (let no : Some cause ≡ None = sym (own_end k (Some cause)) ∙ (all_last (IsOngoing tftp k own) xs0 x going).0 in cc)

-- A CORE OF ONE OBJECT

-- the calls of a core, as entries of what came to its open
pub record ReadsAs {S B C : Type 0} (s : Service S B C) (kind : OpenKind) (server own : ℕ) (conv : Entry → C) (acts_in : C → Acts) : Type 0 where
  pub by_message : (rec port : ℕ) (body : List ℕ) (now : ℕ) (acts : Acts) → ComesToOwnPort kind own (message rec port body now) →
      s.received (datagram_from rec port (host server) body) now acts ≡ conv (entry (came (received rec (heard_port kind port) body) now) acts)
  pub by_time : (now : ℕ) (acts : Acts) → s.timed now acts ≡ conv (entry (ticked now) acts)
  pub acts_are : (e : Entry) → acts_in (conv e) ≡ e.acts

pub record DidCore {C : Type 0} (kind : OpenKind) (k : ℕ) (xs : List Exchange) (calls : List C) (conv : Entry → C) : Type 0 where
  pub entries : List Entry
  pub calls_are : calls ≡ map conv entries
  pub did : Did kind k xs entries

core_more : {C : Type 0} (kind : OpenKind) (k : ℕ) (xs : List Exchange) (calls : List C) (conv : Entry → C) (x : Exchange) (c : C) (e : Entry) → c ≡ conv e → DidOne kind k x e → DidCore kind k xs calls conv →
    DidCore kind k (xs ++ x ∷ []) (calls ++ c ∷ []) conv
core_more kind k xs calls conv x c e is one d = record {
  entries = d.entries ++ e ∷ [];
  calls_are = ap (λ z. z ++ c ∷ []) d.calls_are ∙ ap (λ z. map conv d.entries ++ z ∷ []) is ∙ sym (map-append conv d.entries (e ∷ []));
  did = did_more kind k xs d.entries x e one d.did;
}

core_one : (kind : OpenKind) (k server own : ℕ) (call : Call) (link : Client) (acts : Acts) (input : OpenInput) → heard_call kind input ≡ call ∷ [] → moment_in input ≡ moment call → IsFit acts →
    IsOngoing kind k own (exchange input link (core_records k server link acts)) → DidOne kind k (exchange input link (core_records k server link acts)) (entry call acts)
core_one kind k server own call link acts input heard at fit going =
    let none = no_end_of acts.over (finds_none link acts) (no_route server) (sym (acts_end k link acts (core_end server link acts)) ∙ going.0) in
    record {
      call_is = heard;
      tries_are = routed_tries k (moment_in input) link acts (core_end server link acts) fit none.routed ∙ ap (λ t. try_marks t acts.tried) at;
      no_end = ap (λ (c : Option Cause). is_some c) none.none;
      place_is = λ p. acts_place k p link acts (core_end server link acts);
    }

pub did_core : {S B C : Type 0} (s : Service S B C) (kind : OpenKind) (k server own : ℕ) (conv : Entry → C) (acts_in : C → Acts) → ReadsAs s kind server own conv acts_in → (calls : List C) (xs : List Exchange) →
    CoreExchanged s k server calls xs → AllByRecursion (λ c. IsFit (acts_in c)) calls → AllByRecursion (IsOngoing kind k own) xs → DidCore kind k xs calls conv
did_core s kind k server own conv acts_in reads calls xs cores.at_first fits going = record { entries = []; calls_are = refl; did = did_none kind k }
did_core {S} {B} {C} s kind k server own conv acts_in reads calls xs (cores.takes_message calls0 xs0 link rec port body now acts before) fits going =
    let x = exchange (message rec port body now) link (core_records k server link acts) in
    let c = s.received (datagram_from rec port (host server) body) now acts in
    let e = entry (came (received rec (heard_port kind port) body) now) acts in
    let here = all_last (IsOngoing kind k own) xs0 x going in
    let is : c ≡ conv e = reads.by_message rec port body now acts here.1 in
    let fit : IsFit acts = subst IsFit (ap acts_in is ∙ reads.acts_are e) (all_last (λ (z : C). IsFit (acts_in z)) calls0 c fits) in
    core_more kind k xs0 calls0 conv x c e is (core_one kind k server own (came (received rec (heard_port kind port) body) now) link acts (message rec port body now) refl refl fit here)
    (did_core s kind k server own conv acts_in reads calls0 xs0 before (all_front (λ (z : C). IsFit (acts_in z)) calls0 c fits) (all_front (IsOngoing kind k own) xs0 x going))
did_core {S} {B} {C} s kind k server own conv acts_in reads calls xs (cores.takes_time calls0 xs0 link now acts before) fits going =
    let x = exchange (time_came now) link (core_records k server link acts) in
    let c = s.timed now acts in
    let e = entry (ticked now) acts in
    let here = all_last (IsOngoing kind k own) xs0 x going in
    let is : c ≡ conv e = reads.by_time now acts in
    let fit : IsFit acts = subst IsFit (ap acts_in is ∙ reads.acts_are e) (all_last (λ (z : C). IsFit (acts_in z)) calls0 c fits) in
    core_more kind k xs0 calls0 conv x c e is (core_one kind k server own (ticked now) link acts (time_came now) refl refl fit here)
    (did_core s kind k server own conv acts_in reads calls0 xs0 before (all_front (λ (z : C). IsFit (acts_in z)) calls0 c fits) (all_front (IsOngoing kind k own) xs0 x going))
did_core s kind k server own conv acts_in reads calls xs (cores.closes calls0 xs0 link cause before) fits going =
    let x = exchange (close cause) link (ended k cause ∷ []) in
    absurd (let no : Some cause ≡ None = sym (own_end k (Some cause)) ∙ (all_last (IsOngoing kind k own) xs0 x going).0 in cc)
