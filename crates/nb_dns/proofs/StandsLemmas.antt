-- A look-up goes on to stand for its calls.
use Rattle.std.proofs.Common.{◌≡◌, ℕ, ◌^◌, ◌<◌, List, [], ◌∷◌, ◌++◌, Option, Some, None, Bool, true, false, cond, ◌||◌, inl, inr, refl, ap, ◌∙◌, sym, subst}
use Rattle.std.specs.Prelude.{map, filter}
use Rattle.std.specs.Option.{option_map_or, is_some}
use Rattle.std.proofs.lemmas.Bool.{false≢true}
use Rattle.std.proofs.lemmas.List.{append-nil}
use Rattle.nb_retry.specs.declared.plan.Plan.TheVariants.{Common}
use Rattle.nb_retry.specs.declared.retry.Due.{Due}
use Rattle.nb_retry.specs.declared.retry.Due.TheVariants.{Not, Again, Over}
use Rattle.nb_retry.specs.Calls.{fires, TimerStands}
use Rattle.nb_retry.specs.Plans.{Asked, asked_at, firings, waits}
use Rattle.nb_retry.specs.Timer.{started, due_at, after}
use Rattle.nb_retry.proofs.PlanLemmas.{Stands-append as TimerStands-append, follows_plan, after-since}
use Rattle.nb_terms.specs.declared.acts.Acts.{Acts}
use Rattle.nb_wire.specs.declared.address.Ip4.{Ip4}
use Rattle.nb_dnsmsg.specs.declared.answer.Answer.{Answer}
use Rattle.nb_dnsmsg.specs.Messages.{question_text}
use Rattle.nb_dns.specs.declared.state.State.{State}
use Rattle.nb_dns.specs.declared.state.LookupPhase.TheVariants.{Asking, Found, Failed}
use Rattle.nb_dns.specs.Lookups.{Lookup, to_port_53, asks_lookup_nothing, asks_lookup_try, asks_lookup_end, asks_by, lookup_cause, address_given}
use Rattle.nb_dns.specs.LookupCalls.{DnsDatagram, arrived, clocked, LookupEntry, lookup_entry, datagrams, lookup_times, said_by, lookup_ended, IsReplyTo, IsNoReply, IsSilentCall, FirstReply}
use Rattle.nb_dns.specs.LookupPromises.{LookupMeets, AsksInTurn}
use Rattle.nb_dns.specs.LookupStands.{lookup_has_ended, phase_address, lookup_of, LookupStands}
use Rattle.nb_dns.specs.Steps.{phase_with, IsDatagramStep, after_end, no_reply, reply, lookup_due, after_saying, clock_acts, after_clock}
use Rattle.nb_dns.proofs.CallsLemmas.{datagrams-append, lookup_times-append, lookup_ended-append, each-append, silent-append, silent-last, no_first, first_is_last}

or_none : (a : Bool) → (a || false) ≡ a
or_none true = refl
or_none false = refl

or_some : (a : Bool) → (a || true) ≡ true
or_some true = refl
or_some false = refl

abbrev TimesFollow : ℕ → List Asked → Type 0
TimesFollow start times = filter (λ call. fires call.said) times ≡ firings start (waits Common) (map (λ call. call.at) times)

-- a datagram changes no time
times_same : (h : List LookupEntry) (m : DnsDatagram) (now : ℕ) (acts : Acts) → lookup_times (h ++ lookup_entry (arrived m now) acts ∷ []) ≡ lookup_times h
times_same h m now acts = lookup_times-append h (lookup_entry (arrived m now) acts) ∙ append-nil (lookup_times h)

-- an end changes what has ended, and nothing else does
ends_not : (h : List LookupEntry) (e : LookupEntry) → e.acts.over ≡ None → lookup_ended (h ++ e ∷ []) ≡ lookup_ended h
ends_not h e none = lookup_ended-append h e ∙ ap (λ o. lookup_ended h || is_some o) none ∙ or_none (lookup_ended h)

ignored_stands : (l : Lookup) (start : ℕ) (s : State) (h : List LookupEntry) (m : DnsDatagram) (now : ℕ) → LookupStands l start s h → lookup_has_ended s.phase ≡ false → IsNoReply l m
    → LookupStands l start s (h ++ lookup_entry (arrived m now) asks_lookup_nothing ∷ [])
ignored_stands l start s h m now stands running none =
    let e : LookupEntry = lookup_entry (arrived m now) asks_lookup_nothing in
    let looking = stands.looking running in
    let more : datagrams (h ++ e ∷ []) ≡ datagrams h ++ m ∷ [] = datagrams-append h e in
    let times = times_same h m now asks_lookup_nothing in
    let silent : IsSilentCall l (datagrams (h ++ e ∷ [])) = subst (λ (x : List DnsDatagram). IsSilentCall l x) (sym more) (silent-append l (datagrams h) m looking.silent none) in
    record {
      meets = record {
        asking = each-append (AsksInTurn l) [] h e stands.meets.asking (inr (none, refl));
        tries = subst (λ (x : List Asked). TimesFollow start x) (sym times) stands.meets.tries;
      };
      begun = stands.begun;
      query = stands.query;
      over = stands.over ∙ sym (ends_not h e refl);
      looking = λ _. record {
        silent = silent;
        timer = subst (λ (x : List Asked). TimerStands s.retry x) (sym times) looking.timer;
        since = looking.since;
        plan = looking.plan;
      };
      found = λ a first. absurd (no_first l (datagrams (h ++ e ∷ [])) a silent first);
      none = λ _. stands.none looking.silent;
    }

kept_address : (o : Option Ip4) → phase_address (option_map_or (λ address. Found address) o Failed) ≡ o
kept_address None = refl
kept_address (Some address) = refl

kept_end : (o : Option Ip4) → lookup_has_ended (option_map_or (λ address. Found address) o Failed) ≡ true
kept_end None = refl
kept_end (Some address) = refl

reply_stands : (l : Lookup) (start : ℕ) (s : State) (h : List LookupEntry) (m : DnsDatagram) (now : ℕ) (x : Answer) → LookupStands l start s h → lookup_has_ended s.phase ≡ false → IsReplyTo l m x
    → LookupStands l start (record s { phase = phase_with x }) (h ++ lookup_entry (arrived m now) (asks_lookup_end (lookup_cause m.rec x)) ∷ [])
reply_stands l start s h m now x stands running is =
    let acts : Acts = asks_lookup_end (lookup_cause m.rec x) in
    let e : LookupEntry = lookup_entry (arrived m now) acts in
    let looking = stands.looking running in
    let more : datagrams (h ++ e ∷ []) ≡ datagrams h ++ m ∷ [] = datagrams-append h e in
    let times = times_same h m now acts in
    let ended = kept_end (address_given x) in
    record {
      meets = record {
        asking = each-append (AsksInTurn l) [] h e stands.meets.asking (inl (record { answer = x; replies = is; ends = refl }));
        tries = subst (λ (y : List Asked). TimesFollow start y) (sym times) stands.meets.tries;
      };
      begun = stands.begun;
      query = stands.query;
      over = ended ∙ sym (lookup_ended-append h e ∙ or_some (lookup_ended h));
      looking = λ going. absurd (false≢true (sym going ∙ ended));
      found = λ a first.
          let same : a ≡ x = first_is_last l (datagrams h) m x a looking.silent is (subst (λ (y : List DnsDatagram). FirstReply l y a) more first) in
          kept_address (address_given x) ∙ ap address_given (sym same);
      none = λ silent. absurd (silent-last l (datagrams h) m (subst (λ (y : List DnsDatagram). IsSilentCall l y) more silent) x is);
    }

-- any datagram
pub datagram_stands : (l : Lookup) (start : ℕ) (a b : State) (h : List LookupEntry) (m : DnsDatagram) (now : ℕ) (acts : Acts) → IsDatagramStep a b m acts → LookupStands l start a h → lookup_ended h ≡ false
    → LookupStands l start b (h ++ lookup_entry (arrived m now) acts ∷ [])
datagram_stands l start a b h m now acts (after_end over same nothing) stands going = absurd (false≢true (sym (stands.over ∙ going) ∙ over))
datagram_stands l start a b h m now acts (no_reply none same nothing) stands going =
    subst (λ (y : State). LookupStands l start y (h ++ lookup_entry (arrived m now) acts ∷ [])) (sym same)
    (subst (λ (y : Acts). LookupStands l start a (h ++ lookup_entry (arrived m now) y ∷ [])) (sym nothing)
    (ignored_stands l start a h m now stands (stands.over ∙ going) (subst (λ (y : Lookup). IsNoReply y m) stands.begun none)))
datagram_stands l start a b h m now acts (reply x running is same ends) stands going =
    subst (λ (y : State). LookupStands l start y (h ++ lookup_entry (arrived m now) acts ∷ [])) (sym same)
    (subst (λ (y : Acts). LookupStands l start (record a { phase = phase_with x }) (h ++ lookup_entry (arrived m now) y ∷ [])) (sym ends)
    (reply_stands l start a h m now x stands running (subst (λ (y : Lookup). IsReplyTo y m x) stands.begun is)))

-- what has ended ignores a datagram
pub datagram_over : (l : Lookup) (start : ℕ) (a b : State) (h : List LookupEntry) (m : DnsDatagram) (acts : Acts) → IsDatagramStep a b m acts → LookupStands l start a h → lookup_ended h ≡ true
    → LookupStands l start b h × (acts ≡ asks_lookup_nothing)
datagram_over l start a b h m acts (after_end over same nothing) stands ended = (subst (λ (y : State). LookupStands l start y h) (sym same) stands, nothing)
datagram_over l start a b h m acts (no_reply none same nothing) stands ended = (subst (λ (y : State). LookupStands l start y h) (sym same) stands, nothing)
datagram_over l start a b h m acts (reply x running is same ends) stands ended = absurd (false≢true (sym running ∙ (stands.over ∙ ended)))

-- the timer's answer asks what the promises say
asks_same : (l : Lookup) (s : State) (due : Due) → lookup_of s ≡ l → s.query.items ≡ question_text l.id l.name → lookup_due s due ≡ asks_by l due
asks_same l s Not begun query = refl
asks_same l s (Again n) begun query =
    ap (λ (y : Lookup). asks_lookup_try (to_port_53 y.server y.own_port s.query.items) n) begun ∙ ap (λ (y : List ℕ). asks_lookup_try (to_port_53 l.server l.own_port y) n) query
asks_same l s Over begun query = refl

said_so : (s : State) (due : Due) → said_by (lookup_due s due) ≡ due
said_so s Not = refl
said_so s (Again n) = refl
said_so s Over = refl

-- the calls with one time more
record Clocked (l : Lookup) (start : ℕ) (s : State) (h : List LookupEntry) (now : ℕ) (due : Due) : Type 0 where
  pub meets : LookupMeets l start (h ++ lookup_entry (clocked now) (lookup_due s due) ∷ [])
  pub timer : TimerStands (after s.retry now) (lookup_times (h ++ lookup_entry (clocked now) (lookup_due s due) ∷ []))
  pub since : (after s.retry now).since ≡ start
  pub plan : (after s.retry now).plan ≡ Common
  pub silent : IsSilentCall l (datagrams (h ++ lookup_entry (clocked now) (lookup_due s due) ∷ []))

clocked_so : (l : Lookup) (start : ℕ) (s : State) (h : List LookupEntry) (now : ℕ) (due : Due) → LookupStands l start s h → lookup_has_ended s.phase ≡ false → now < 2 ^ 64 → due ≡ due_at s.retry now → Clocked l start s h now due
clocked_so l start s h now due stands running small is =
    let acts : Acts = lookup_due s due in
    let e : LookupEntry = lookup_entry (clocked now) acts in
    let looking = stands.looking running in
    let said = said_so s due in
    let times : lookup_times (h ++ e ∷ []) ≡ lookup_times h ++ asked_at now due ∷ [] = lookup_times-append h e ∙ ap (λ d. lookup_times h ++ asked_at now d ∷ []) said in
    let all : List Asked = lookup_times h ++ asked_at now due ∷ [] in
    let timer : TimerStands (after s.retry now) all = TimerStands-append s.retry (after s.retry now) (lookup_times h) now due small is refl looking.timer in
    let since = (after-since s.retry now).0 ∙ looking.since in
    let plan = (after-since s.retry now).1 ∙ looking.plan in
    let follows : TimesFollow start all = follows_plan (after s.retry now) all timer
    ∙ ap (λ x. firings x (waits (after s.retry now).plan) (map (λ call. call.at) all)) since
    ∙ ap (λ p. firings start (waits p) (map (λ call. call.at) all)) plan in
    record {
      meets = record {
        asking = each-append (AsksInTurn l) [] h e stands.meets.asking
            (asks_same l s due stands.begun stands.query ∙ ap (asks_by l) (sym said), looking.silent);
        tries = subst (λ (x : List Asked). TimesFollow start x) (sym times) follows;
      };
      timer = subst (λ (x : List Asked). TimerStands (after s.retry now) x) (sym times) timer;
      since = since;
      plan = plan;
      silent = subst (λ (x : List DnsDatagram). IsSilentCall l x) (sym (datagrams-append h e ∙ append-nil (datagrams h))) looking.silent;
    }

-- a time at which the look-up goes on
going_on : (l : Lookup) (start : ℕ) (s : State) (h : List LookupEntry) (now : ℕ) (due : Due) → LookupStands l start s h → lookup_has_ended s.phase ≡ false → Clocked l start s h now due → (lookup_due s due).over ≡ None
    → LookupStands l start (record s { retry = after s.retry now }) (h ++ lookup_entry (clocked now) (lookup_due s due) ∷ [])
going_on l start s h now due stands running c goes = record {
  meets = c.meets;
  begun = stands.begun;
  query = stands.query;
  over = stands.over ∙ sym (ends_not h (lookup_entry (clocked now) (lookup_due s due)) goes);
  looking = λ _. record { silent = c.silent; timer = c.timer; since = c.since; plan = c.plan };
  found = λ a first. absurd (no_first l _ a c.silent first);
  none = λ _. stands.none (stands.looking running).silent;
}

clock_by : (l : Lookup) (start : ℕ) (s : State) (h : List LookupEntry) (now : ℕ) (due : Due) → LookupStands l start s h → lookup_has_ended s.phase ≡ false → Clocked l start s h now due
    → LookupStands l start (after_saying (record s { retry = after s.retry now }) due) (h ++ lookup_entry (clocked now) (lookup_due s due) ∷ [])
clock_by l start s h now Not stands running c = going_on l start s h now Not stands running c refl
clock_by l start s h now (Again n) stands running c = going_on l start s h now (Again n) stands running c refl
clock_by l start s h now Over stands running c = record {
  meets = c.meets;
  begun = stands.begun;
  query = stands.query;
  over = sym (lookup_ended-append h (lookup_entry (clocked now) (lookup_due s Over)) ∙ or_some (lookup_ended h));
  looking = λ going. absurd (false≢true (sym going));
  found = λ a first. absurd (no_first l _ a c.silent first);
  none = λ _. refl;
}

-- any time
pub clock_stands : (l : Lookup) (start : ℕ) (s new : State) (h : List LookupEntry) (now : ℕ) (acts : Acts) → acts ≡ clock_acts s now → new ≡ after_clock s now → now < 2 ^ 64 → LookupStands l start s h → lookup_ended h ≡ false
    → LookupStands l start new (h ++ lookup_entry (clocked now) acts ∷ [])
clock_stands l start s new h now acts asks becomes small stands going =
    let running : lookup_has_ended s.phase ≡ false = stands.over ∙ going in
    let due : Due = due_at s.retry now in
    let asks2 : acts ≡ lookup_due s due = asks ∙ ap (λ t. cond t asks_lookup_nothing (lookup_due s due)) running in
    let becomes2 : new ≡ after_saying (record s { retry = after s.retry now }) due = becomes ∙ ap (λ t. cond t s (after_saying (record s { retry = after s.retry now }) due)) running in
    subst (λ (y : State). LookupStands l start y (h ++ lookup_entry (clocked now) acts ∷ [])) (sym becomes2)
    (subst (λ (y : Acts). LookupStands l start (after_saying (record s { retry = after s.retry now }) due) (h ++ lookup_entry (clocked now) y ∷ [])) (sym asks2)
    (clock_by l start s h now due stands running (clocked_so l start s h now due stands running small refl)))

abbrev begun_state : Lookup → List ℕ → ℕ → State
begun_state l name now = record { server = l.server; own_port = l.own_port; id = l.id; name = record { items = name }; query = record { items = question_text l.id name }; phase = Asking; retry = started now Common }

-- the look-up that was just started
pub start_stands : (l : Lookup) (name : List ℕ) (now : ℕ) → name ≡ l.name → LookupStands l now (begun_state l name now) []
start_stands l name now same = record {
  meets = record { asking = tt; tries = refl };
  begun = ap (λ (x : List ℕ). record l { name = x }) same;
  query = ap (question_text l.id) same;
  over = refl;
  looking = λ _. record { silent = tt; timer = refl; since = refl; plan = refl };
  found = λ a first. absurd first;
  none = λ _. refl;
}
