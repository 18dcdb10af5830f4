-- All the calls of a core since its start, each with what it asked, and what can be read from them
use Rattle.std.specs.Prelude.{ℕ, ◌==◌, ◌||◌, Bool, false, List, [], ◌∷◌, ◌++◌, Option, None, Some, find, fold, if◌then◌else◌}
use Rattle.std.specs.List.{flat_map, list_any}
use Rattle.std.specs.Option.{option_map, option_map_or, option_and_then, is_some}
use Rattle.nb_retry.specs.Plans.{Asked, asked_at}
use Rattle.nb_retry.specs.declared.retry.Due.{Due}
use Rattle.nb_retry.specs.declared.retry.Due.TheVariants.{Not, Again, Over}
use Rattle.nb_terms.specs.declared.acts.Acts.{Acts}
use Rattle.nb_dhcp.specs.declared.asker.Asker.{Asker}
use Rattle.nb_dhcp.specs.declared.offer.Offer.{Offer}
use Rattle.nb_dhcp.specs.Replies.{offer_in, acknowledges_for, refuses_for}

-- a datagram's body, and its record's number
pub record Handed : Type 0 where
  pub rec : ℕ
  pub body : List ℕ

abbrev pub handed_body : ℕ → List ℕ → Handed
handed_body rec body = record { rec = rec; body = body }

-- a datagram at a time, or a time
pub data LeaseCall : Type 0 where
  replied : (m : Handed) (now : ℕ) → LeaseCall
  elapsed : (now : ℕ) → LeaseCall

-- a call, and what it asked of the caller
pub record LeaseEntry : Type 0 where
  pub call : LeaseCall
  pub acts : Acts

abbrev pub lease_entry : LeaseCall → Acts → LeaseEntry
lease_entry call acts = record { call = call; acts = acts }

abbrev pub handed_by : LeaseCall → List Handed
handed_by (replied m now) = m ∷ []
handed_by (elapsed now) = []

-- the datagrams that were handed over, in order
abbrev pub all_handed : List LeaseEntry → List Handed
all_handed entries = flat_map (λ e. handed_by e.call) entries

-- a valid offer, and the datagrams that came after it
pub record Offered : Type 0 where
  pub offer : Offer
  pub after : List Handed

-- the first valid offer
abbrev pub offered : Asker → List Handed → Option Offered
offered a [] = None
offered a (m ∷ ms) = option_map_or (λ offer. Some (record { offer = offer; after = ms })) (offer_in a m.body) (offered a ms)

-- the offer that is requested
abbrev pub taken_offer : Asker → List Handed → Option Offer
taken_offer a ms = option_map (λ first. first.offer) (offered a ms)

-- it acknowledges or refuses the offer that is requested
abbrev pub is_verdict : Asker → Offer → Handed → Bool
is_verdict a offer m = acknowledges_for a offer.server m.body || refuses_for a offer.server m.body

-- the first such datagram after the offer
abbrev pub verdict_after : Asker → Offered → Option Handed
verdict_after a first = find (is_verdict a first.offer) first.after

-- its bytes, where it acknowledges
abbrev pub granted_by : Asker → Offer → Handed → Option (List ℕ)
granted_by a offer m = if acknowledges_for a offer.server m.body then Some m.body else None

abbrev pub granted_after : Asker → Offered → Option (List ℕ)
granted_after a first = option_and_then (granted_by a first.offer) (verdict_after a first)

-- the acknowledgement of the first valid offer
abbrev pub acknowledgement_in : Asker → List Handed → Option (List ℕ)
acknowledgement_in a ms = option_and_then (granted_after a) (offered a ms)

-- an end was given
abbrev pub is_done : List LeaseEntry → Bool
is_done entries = list_any (λ e. is_some e.acts.over) entries

-- the end that was given is Ok
abbrev pub is_done_ok : Acts → Bool
is_done_ok acts = option_map_or (λ cause. cause.code == 0) acts.over false

-- what a call's answer says of a timer: a try, or the plan's end
abbrev pub timer_said : Acts → Due
timer_said acts = option_map_or (λ n. Again n) acts.tried (if is_some acts.over then Over else Not)

-- the last first sending: its time, and from then on the times with what was said at each, and the datagrams
pub record LeaseWatch : Type 0 where
  pub since : ℕ
  pub times : List Asked
  pub replies : List Handed

abbrev pub watch_since : ℕ → LeaseWatch
watch_since now = record { since = now; times = []; replies = [] }

abbrev pub watch_call : LeaseWatch → LeaseCall → Acts → LeaseWatch
watch_call w (elapsed now) acts = record w { times = w.times ++ asked_at now (timer_said acts) ∷ [] }
watch_call w (replied m now) acts = if is_some acts.tried then watch_since now else record w { replies = w.replies ++ m ∷ [] }

-- the watch of a core that was started at a time
abbrev pub lease_watch : ℕ → List LeaseEntry → LeaseWatch
lease_watch start entries = fold (λ w e. watch_call w e.call e.acts) (watch_since start) entries

-- a fact of each entry, with those before it
abbrev pub AtEach : (List LeaseEntry → LeaseEntry → Type 0) → List LeaseEntry → List LeaseEntry → Type 0
AtEach P before [] = Unit {0}
AtEach P before (e ∷ es) = P before e × AtEach P (before ++ e ∷ []) es
