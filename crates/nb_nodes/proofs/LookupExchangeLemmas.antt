-- What one call of a Resolver's core makes of its exchange.
use Rattle.std.proofs.Common.{◌≡◌, ℕ, List, [], ◌∷◌, ◌++◌, length, ◌||◌, ◌&&◌, Bool, true, false, Option, Some, None, refl, ap, ◌∙◌, sym, subst, arith, nat_lt, nat_le, if◌then◌else◌}
use Rattle.std.specs.Prelude.{IfSome}
use Rattle.std.specs.List.{list_all, AllByRecursion}
use Rattle.std.specs.Option.{is_some, option_and_then}
use Rattle.std.proofs.lemmas.Bool.{lt-ltb, ltb-true, le-leb, leb-true, false≢true}
use Rattle.nb_terms.specs.declared.acts.Acts.{Acts}
use Rattle.nb_terms.specs.declared.cause.Cause.{Cause}
use Rattle.nb_wire.specs.declared.address.Ip4.{Ip4}
use Rattle.nb_effects.specs.declared.effects.Emit.{Emit}
use Rattle.nb_graph.specs.Trace.{Said}
use Rattle.nb_graph.specs.Effects.{IsUp}
use Rattle.nb_dnsmsg.specs.declared.answer.Answer.{Answer}
use Rattle.nb_dnsmsg.specs.Names.{IsLabel}
use Rattle.nb_dns.specs.declared.state.State.{State}
use Rattle.nb_dns.specs.WrittenNames.{name_labels, without_final_dot, IsLookupName}
use Rattle.nb_dns.specs.Lookups.{Lookup, AsksOneQuery, asks_lookup_try, query_to, address_given}
use Rattle.nb_dns.specs.LookupCalls.{DnsDatagram, LookupCall, arrived, LookupEntry, lookup_entry, datagrams, lookup_ended, IsSilentCall, FirstReply}
use Rattle.nb_dns.specs.LookupStands.{LookupStands}
use Rattle.nb_dns.proofs.CallsLemmas.{lookup_ended-append}
use Rattle.nb_nodes.specs.declared.load.Load.{Load}
use Rattle.nb_nodes.specs.Exchanges.{CallsMore, GivesAtEnd, GivesOnly, IsStarted, LeavesByZero, said_up}
use Rattle.nb_nodes.specs.LookupExchanges.{LookupAsked, lookup_ask_in, is_dns_label, can_look_up, lookup_for, lookup_asked, IsFoundBy, address_said, lookup_service, address_emit}

-- the look-up stands for one call more
abbrev pub LookupOnce : State → State → LookupCall → Acts → Type 0
LookupOnce old core call acts = (l : Lookup) (start : ℕ) (h : List LookupEntry) → LookupStands l start old h → lookup_ended h ≡ false → LookupStands l start core (h ++ lookup_entry call acts ∷ [])

-- and has found this
abbrev pub FindsByReply : State → Option Ip4 → Type 0
FindsByReply core found = (l : Lookup) (start : ℕ) (h : List LookupEntry) (a : Answer) → LookupStands l start core h → FirstReply l (datagrams h) a → found ≡ address_given a

abbrev pub FindsInSilence : State → Option Ip4 → Type 0
FindsInSilence core found = (l : Lookup) (start : ℕ) (h : List LookupEntry) → LookupStands l start core h → IsSilentCall l (datagrams h) → found ≡ None

abbrev said_at : ℕ → Option Cause → Option Ip4 → List Said
said_at rec over found = if is_some over then address_said rec found else []

gives_found : (rec : ℕ) (l : Lookup) (calls : List LookupEntry) (over : Option Cause) (found : Option Ip4) → IsFoundBy l calls found → GivesAtEnd lookup_service rec l calls over (said_at rec over found)
gives_found rec l calls None found is = refl
gives_found rec l calls (Some cause) found is = record { found = found; is_found = is; goes_up = refl }

more_said : (old core : State) (call : LookupCall) (acts : Acts) (rec : ℕ) (found : Option Ip4) → LookupOnce old core call acts → FindsByReply core found → FindsInSilence core found
    → CallsMore lookup_service old core (lookup_entry call) acts rec (said_at rec acts.over found)
more_said old core call acts rec found once replied silent = λ l start h stood going.
    let calls = h ++ lookup_entry call acts ∷ [] in
    let stands = once l start h stood going in
    record {
      stands = stands;
      ends = lookup_ended-append h (lookup_entry call acts) ∙ ap (λ b. b || is_some acts.over) going;
      gives = gives_found rec l calls acts.over found (record { by_reply = λ a first. replied l start calls a stands first; in_silence = λ none. silent l start calls stands none });
    }

pub arrived_by : (old core : State) (x y : DnsDatagram) (now : ℕ) (acts : Acts) → x ≡ y → LookupOnce old core (arrived x now) acts → LookupOnce old core (arrived y now) acts
arrived_by old core x y now acts same once = subst (λ (z : DnsDatagram). LookupOnce old core (arrived z now) acts) same once

-- the address as a message up
pub address_above : (ended : Bool) (found : Option Ip4) → IfSome (address_emit ended found) LeavesByZero
address_above true None = tt
address_above false None = tt
address_above true (Some address) = refl
address_above false (Some address) = tt

pub address_up : (len : ℕ) (ended : Bool) (found : Option Ip4) → IfSome (address_emit ended found) (IsUp len)
address_up len true None = tt
address_up len false None = tt
address_up len true (Some address) = (refl, (λ _. (omega arith, omega arith)))
address_up len false (Some address) = tt

pub address_says : (m : Said) (ended : Bool) (found : Option Ip4) → said_up m (address_emit ended found) ≡ (if ended then address_said m.rec found else [])
address_says m true None = refl
address_says m false None = refl
address_says m true (Some address) = refl
address_says m false (Some address) = refl

pub lookup_more : (old core : State) (call : LookupCall) (acts : Acts) (m : Said) (found : Option Ip4) (given : Option (Emit Load)) → LookupOnce old core call acts → FindsByReply core found → FindsInSilence core found → given ≡ address_emit (is_some acts.over) found
    → CallsMore lookup_service old core (lookup_entry call) acts m.rec (said_up m given)
lookup_more old core call acts m found given once replied silent e =
    subst (λ (z : List Said). CallsMore lookup_service old core (lookup_entry call) acts m.rec z) (sym (ap (said_up m) e ∙ address_says m (is_some acts.over) found)) (more_said old core call acts m.rec found once replied silent)

pub address_only : (len : ℕ) (acts : Acts) (found : Option Ip4) (given : Option (Emit Load)) → given ≡ address_emit (is_some acts.over) found → AsksOneQuery acts → GivesOnly len acts given
address_only len acts found given e simple =
    subst (λ (z : Option (Emit Load)). GivesOnly len acts z) (sym e) (record { few = simple.few; no_range = simple.gives; above = address_above (is_some acts.over) found; within = address_up len (is_some acts.over) found })

-- what bytes ask for
asked_of : Option LookupAsked → Option Lookup
asked_of o = option_and_then (λ v. if can_look_up v.name then Some (lookup_for v) else None) o

pub no_ask_no_lookup : (bytes : List ℕ) → lookup_ask_in bytes ≡ None → lookup_asked bytes ≡ None
unfolding asked_of
no_ask_no_lookup bytes h = ap asked_of h

pub asked_good : (bytes : List ℕ) (v : LookupAsked) → lookup_ask_in bytes ≡ Some v → can_look_up v.name ≡ true → lookup_asked bytes ≡ Some (lookup_for v)
unfolding asked_of
asked_good bytes v h good = ap asked_of h ∙ ap (λ b. if b then Some (lookup_for v) else None) good

pub asked_bad : (bytes : List ℕ) (v : LookupAsked) → lookup_ask_in bytes ≡ Some v → can_look_up v.name ≡ false → lookup_asked bytes ≡ None
unfolding asked_of
asked_bad bytes v h bad = ap asked_of h ∙ ap (λ b. if b then Some (lookup_for v) else None) bad

-- the test of a name
and_on : (a b : Bool) → a ≡ true → b ≡ true → (a && b) ≡ true
and_on a b h g = ap (λ z. z && b) h ∙ g

and_parts : (a b : Bool) → (a && b) ≡ true → (a ≡ true) × (b ≡ true)
and_parts true b h = (refl, h)
and_parts false b h = absurd (false≢true h)

label_on : (x : List ℕ) → IsLabel x → is_dns_label x ≡ true
label_on x is = and_on (nat_lt 0 (length x)) (nat_lt (length x) 64) (lt-ltb 0 (length x) is.some) (lt-ltb (length x) 64 is.few)

label_of : (x : List ℕ) → is_dns_label x ≡ true → IsLabel x
label_of x h =
    let both = and_parts (nat_lt 0 (length x)) (nat_lt (length x) 64) h in
    record { some = ltb-true 0 (length x) both.0; few = ltb-true (length x) 64 both.1 }

labels_on : (xs : List (List ℕ)) → AllByRecursion IsLabel xs → list_all is_dns_label xs ≡ true
labels_on [] are = refl
labels_on (x ∷ xs) are = and_on (is_dns_label x) (list_all is_dns_label xs) (label_on x are.0) (labels_on xs are.1)

labels_of : (xs : List (List ℕ)) → list_all is_dns_label xs ≡ true → AllByRecursion IsLabel xs
labels_of [] h = tt
labels_of (x ∷ xs) h =
    let both = and_parts (is_dns_label x) (list_all is_dns_label xs) h in
    (label_of x both.0, labels_of xs both.1)

pub good_name : (text : List ℕ) → IsLookupName text → can_look_up text ≡ true
good_name text is = and_on (list_all is_dns_label (name_labels text)) (nat_le (length (without_final_dot text)) 253) (labels_on (name_labels text) is.are) (le-leb (length (without_final_dot text)) 253 is.short)

is_good : (text : List ℕ) → can_look_up text ≡ true → IsLookupName text
is_good text h =
    let both = and_parts (list_all is_dns_label (name_labels text)) (nat_le (length (without_final_dot text)) 253) h in
    record { are = labels_of (name_labels text) both.0; short = leb-true (length (without_final_dot text)) 253 both.1 }

unless_true : (b : Bool) → (b ≡ true → ⊥) → b ≡ false
unless_true true isnt = absurd (isnt refl)
unless_true false isnt = refl

pub bad_name : (text : List ℕ) → (IsLookupName text → ⊥) → can_look_up text ≡ false
bad_name text isnt = unless_true (can_look_up text) (λ h. isnt (is_good text h))

-- a look-up of a name was started
pub lookup_started : (bytes : List ℕ) (v : LookupAsked) (now : ℕ) (core : State) (acts : Acts) → lookup_ask_in bytes ≡ Some v → IsLookupName v.name → acts ≡ asks_lookup_try (query_to (lookup_for v)) 1 → LookupStands (lookup_for v) now core [] → IsStarted lookup_service bytes now core acts
lookup_started bytes v now core acts asks good query stands = record {
  asked = lookup_for v;
  asks = asked_good bytes v asks (good_name v.name good);
  opening = query;
  stands = stands;
  opened = refl;
  goes_on = ap (λ (z : Acts). is_some z.over) query;
}
