-- What one call of a Dhcp's core makes of its exchange.
use Rattle.std.proofs.Common.{◌≡◌, ℕ, ◌-◌, ◌≤◌, ◌==◌, ◌&&◌, List, [], ◌∷◌, ◌++◌, length, take, ◌||◌, Bool, true, false, nat_le, Option, Some, None, refl, ap, ◌∙◌, sym, subst, arith}
use Rattle.std.proofs.lemmas.Bool.{leb-true, false≢true}
use Rattle.std.specs.Prelude.{IfSome}
use Rattle.std.specs.Option.{is_some, option_map}
use Rattle.std.proofs.Math.Seq.{take-length}
use Rattle.nb_terms.specs.declared.acts.Acts.{Acts}
use Rattle.nb_terms.specs.declared.cause.Cause.{Cause}
use Rattle.nb_effects.specs.declared.effects.Emit.{Emit}
use Rattle.nb_graph.specs.Trace.{Said, bytes_between}
use Rattle.nb_graph.specs.Effects.{IsUp}
use Rattle.nb_dhcp.specs.declared.asker.Asker.{Asker}
use Rattle.nb_dhcp.specs.declared.state.State.{State}
use Rattle.nb_dhcp.specs.History.{handed_body, LeaseCall, replied, elapsed, LeaseEntry, lease_entry, all_handed, acknowledgement_in, is_done}
use Rattle.nb_dhcp.specs.Acting.{AsksSimply, lease_asking}
use Rattle.nb_dhcp.specs.LeaseStands.{LeaseStands}
use Rattle.nb_dhcp.proofs.LeaseHistoryLemmas.{is_done-append}
use Rattle.nb_nodes.specs.declared.load.Load.{Load}
use Rattle.nb_nodes.specs.declared.tag.Tag.TheVariants.{Bytes}
use Rattle.nb_nodes.specs.Tags.{tag_number}
use Rattle.nb_nodes.specs.Exchanges.{CallsMore, GivesAtEnd, GivesOnly, IsStarted, LeavesByZero, said_up}
use Rattle.nb_nodes.specs.Conversations.{is_datagram}
use Rattle.nb_nodes.specs.LeaseExchanges.{is_from_servers, lease_asked, lease_said, lease_service, whole_emit}

-- the core stands for one call more
abbrev pub LeaseOnce : State → State → LeaseCall → Acts → Type 0
LeaseOnce old core call acts = (a : Asker) (start : ℕ) (h : List LeaseEntry) → LeaseStands a start old h → is_done h ≡ false → LeaseStands a start core (h ++ lease_entry call acts ∷ [])

-- what acknowledges is the datagram's body, and so many bytes of it were granted
abbrev pub IsBodyGranted : State → ℕ → List ℕ → ℕ → Acts → Type 0
IsBodyGranted old rec body now acts = (a : Asker) (start : ℕ) (h : List LeaseEntry) (bytes : List ℕ) → LeaseStands a start old h → is_done h ≡ false
    → acknowledgement_in a (all_handed (h ++ lease_entry (replied (handed_body rec body) now) acts ∷ [])) ≡ Some bytes → bytes ≡ body

abbrev pub IsLengthGranted : State → List ℕ → Option ℕ → Type 0
IsLengthGranted core body granted = (a : Asker) (start : ℕ) (h : List LeaseEntry) → LeaseStands a start core h → granted ≡ option_map (λ bytes. length body) (acknowledgement_in a (all_handed h))

pub record Received (old core : State) (rec : ℕ) (body : List ℕ) (now : ℕ) (acts : Acts) (granted : Option ℕ) : Type 0 where
  pub once : LeaseOnce old core (replied (handed_body rec body) now) acts
  pub is_body : IsBodyGranted old rec body now acts
  pub is_length : IsLengthGranted core body granted

less_none : (n : ℕ) → n - 0 ≡ n
less_none n = omega arith

all_between : (bytes : List ℕ) → bytes_between bytes 0 (length bytes) ≡ bytes
all_between bytes = ap (λ n. take n bytes) (less_none (length bytes)) ∙ take-length bytes

whole_says : (m : Said) (ack : Option (List ℕ)) → ((bytes : List ℕ) → ack ≡ Some bytes → bytes ≡ m.bytes) → said_up m (whole_emit true (option_map (λ bytes. length m.bytes) ack)) ≡ lease_said m.rec ack
whole_says m None its = refl
whole_says m (Some bytes) its = ap (λ z. record { tag = tag_number Bytes; rec = m.rec; a = 0; b = 0; bytes = z } ∷ []) (all_between m.bytes ∙ sym (its bytes refl))

not_yet : (m : Said) (granted : Option ℕ) → said_up m (whole_emit false granted) ≡ []
not_yet m None = refl
not_yet m (Some n) = refl

gives_lease : (m : Said) (a : Asker) (calls : List LeaseEntry) (over : Option Cause) (granted : Option ℕ) → granted ≡ option_map (λ bytes. length m.bytes) (acknowledgement_in a (all_handed calls))
    → ((bytes : List ℕ) → acknowledgement_in a (all_handed calls) ≡ Some bytes → bytes ≡ m.bytes) → GivesAtEnd lease_service m.rec a calls over (said_up m (whole_emit (is_some over) granted))
gives_lease m a calls None granted is its = not_yet m granted
gives_lease m a calls (Some cause) granted is its = ap (λ z. said_up m (whole_emit true z)) is ∙ whole_says m (acknowledgement_in a (all_handed calls)) its

more_whole : (old core : State) (m : Said) (now : ℕ) (acts : Acts) (granted : Option ℕ) → Received old core m.rec m.bytes now acts granted
    → CallsMore lease_service old core (lease_service.received m now) acts m.rec (said_up m (whole_emit (is_some acts.over) granted))
more_whole old core m now acts granted got = λ a start h stood going.
    let call = replied (handed_body m.rec m.bytes) now in
    let calls = h ++ lease_entry call acts ∷ [] in
    let stands = got.once a start h stood going in
    record {
      stands = stands;
      ends = is_done-append h (lease_entry call acts) ∙ ap (λ b. b || is_some acts.over) going;
      gives = gives_lease m a calls acts.over granted (got.is_length a start calls stands) (λ bytes some. got.is_body a start h bytes stood going some);
    }

pub message_more : (old core : State) (m : Said) (now : ℕ) (acts : Acts) (granted : Option ℕ) (given : Option (Emit Load)) → Received old core m.rec m.bytes now acts granted → given ≡ whole_emit (is_some acts.over) granted
    → CallsMore lease_service old core (lease_service.received m now) acts m.rec (said_up m given)
message_more old core m now acts granted given got e =
    subst (λ (z : Option (Emit Load)). CallsMore lease_service old core (lease_service.received m now) acts m.rec (said_up m z)) (sym e) (more_whole old core m now acts granted got)

-- no acknowledgement comes by a time
abbrev pub IsUngranted : State → ℕ → Acts → Type 0
IsUngranted old now acts = (a : Asker) (start : ℕ) (h : List LeaseEntry) → LeaseStands a start old h → is_done h ≡ false → acknowledgement_in a (all_handed (h ++ lease_entry (elapsed now) acts ∷ [])) ≡ None

gives_no_lease : (rec : ℕ) (a : Asker) (calls : List LeaseEntry) (over : Option Cause) → acknowledgement_in a (all_handed calls) ≡ None → GivesAtEnd lease_service rec a calls over []
gives_no_lease rec a calls None none = refl
gives_no_lease rec a calls (Some cause) none = sym (ap (lease_said rec) none)

pub time_more : (old core : State) (now : ℕ) (acts : Acts) → LeaseOnce old core (elapsed now) acts → IsUngranted old now acts → CallsMore lease_service old core (lease_service.timed now) acts 0 []
time_more old core now acts once none = λ a start h stood going. record {
  stands = once a start h stood going;
  ends = is_done-append h (lease_entry (elapsed now) acts) ∙ ap (λ b. b || is_some acts.over) going;
  gives = gives_no_lease 0 a (h ++ lease_entry (elapsed now) acts ∷ []) acts.over (none a start h stood going);
}

-- the bytes as a message up
pub whole_above : (ended : Bool) (granted : Option ℕ) → IfSome (whole_emit ended granted) LeavesByZero
whole_above true None = tt
whole_above false None = tt
whole_above true (Some n) = refl
whole_above false (Some n) = tt

pub whole_up : (len : ℕ) (ended : Bool) (granted : Option ℕ) → IfSome granted (λ n. n ≤ len) → IfSome (whole_emit ended granted) (IsUp len)
whole_up len true None few = tt
whole_up len false None few = tt
whole_up len true (Some n) few = (refl, (λ _. (omega arith, few)))
whole_up len false (Some n) few = tt

pub whole_only : (len : ℕ) (acts : Acts) (granted : Option ℕ) (given : Option (Emit Load)) → given ≡ whole_emit (is_some acts.over) granted → IfSome granted (λ k. k ≤ len) → AsksSimply acts → GivesOnly len acts given
whole_only len acts granted given e few simple =
    subst (λ (z : Option (Emit Load)). GivesOnly len acts z) (sym e) (record { few = simple.few; no_range = simple.gives; above = whole_above (is_some acts.over) granted; within = whole_up len (is_some acts.over) granted few })

-- a client was started
pub lease_started : (bytes : List ℕ) (a : Asker) (now : ℕ) (core : State) (acts : Acts) → lease_asked bytes ≡ Some a → acts ≡ lease_asking a None 1 → LeaseStands a now core [] → IsStarted lease_service bytes now core acts
lease_started bytes a now core acts asks discover stands = record {
  asked = a;
  asks = asks;
  opening = discover;
  stands = stands;
  opened = refl;
  goes_on = ap (λ (z : Acts). is_some z.over) discover;
}

-- a datagram that it takes is short
and_last : (a b : Bool) → (a && b) ≡ true → b ≡ true
and_last true b h = h
and_last false b h = absurd (false≢true h)

pub taken_short : (slot : ℕ) (m : Said) → is_from_servers slot m ≡ true → length m.bytes ≤ 1480
taken_short slot m h = leb-true (length m.bytes) 1480 (and_last (is_datagram slot m && (m.a == 67)) (nat_le (length m.bytes) 1480) h)
