-- What a core promises of all its calls, by what was handed over and when
use Rattle.std.specs.Prelude.{◌≡◌, ℕ, Bool, false, List, [], ◌∷◌, ◌++◌, Option, None, Some, map, filter}
use Rattle.std.specs.List.{list_any}
use Rattle.std.specs.Option.{is_some}
use Rattle.nb_retry.specs.declared.plan.Plan.TheVariants.{Dhcp}
use Rattle.nb_retry.specs.Calls.{fires}
use Rattle.nb_retry.specs.Plans.{firings, waits}
use Rattle.nb_terms.specs.declared.acts.Acts.{Acts}
use Rattle.nb_dhcp.specs.declared.asker.Asker.{Asker}
use Rattle.nb_dhcp.specs.declared.offer.Offer.{Offer}
use Rattle.nb_dhcp.specs.Replies.{offer_in}
use Rattle.nb_dhcp.specs.Acting.{reply_acts, timer_acts}
use Rattle.nb_dhcp.specs.History.{Handed, LeaseCall, replied, elapsed, LeaseEntry, all_handed, taken_offer, is_verdict, acknowledgement_in, is_done_ok, timer_said, LeaseWatch, lease_watch, AtEach}

-- what a call asks, by the datagrams that came before it
abbrev pub call_acts : Asker → List Handed → LeaseCall → Acts → Acts
call_acts a before (replied m now) acts = reply_acts a (taken_offer a before) m
call_acts a before (elapsed now) acts = timer_acts a (taken_offer a before) (timer_said acts)

abbrev pub ActsSo : Asker → List LeaseEntry → LeaseEntry → Type 0
ActsSo a before e = e.acts ≡ call_acts a (all_handed before) e.call e.acts

-- a call ends with Ok exactly where it brings the acknowledgement of the first valid offer
abbrev pub OkWhereGranted : Asker → List LeaseEntry → LeaseEntry → Type 0
OkWhereGranted a before e = is_done_ok e.acts ≡ is_some (acknowledgement_in a (all_handed (before ++ e ∷ [])))

-- it answers the DISCOVER, or the REQUEST of this offer
abbrev pub answers_asker : Asker → Option Offer → Handed → Bool
answers_asker a None m = is_some (offer_in a m.body)
answers_asker a (Some offer) m = is_verdict a offer m

-- no datagram since the last first sending has answered it
abbrev pub IsWithoutAnswer : Asker → ℕ → List LeaseEntry → Type 0
IsWithoutAnswer a start entries = list_any (answers_asker a (taken_offer a (all_handed entries))) (lease_watch start entries).replies ≡ false

abbrev pub IfElapsed : LeaseCall → Type 0 → Type 0
IfElapsed (replied m now) P = Unit {0}
IfElapsed (elapsed now) P = P

abbrev pub TriesInSilence : Asker → ℕ → List LeaseEntry → LeaseEntry → Type 0
TriesInSilence a start before e = IfElapsed e.call (IsWithoutAnswer a start before)

-- the tries of a watch stand at the plan's times, over all times since the last first sending
abbrev pub KeepsPlan : LeaseWatch → Type 0
KeepsPlan w = filter (λ call. fires call.said) w.times ≡ firings w.since (waits Dhcp) (map (λ call. call.at) w.times)

abbrev pub TriesInPlan : ℕ → List LeaseEntry → LeaseEntry → Type 0
TriesInPlan start before e = KeepsPlan (lease_watch start (before ++ e ∷ []))

-- The promises to a client that began to ask at a time.
pub record LeasePromises (a : Asker) (start : ℕ) (entries : List LeaseEntry) : Type 0 where
  -- each call sends, tries for the first time and ends as the datagrams before it say
  pub sending : AtEach (ActsSo a) [] entries
  -- the end is Ok exactly where the acknowledgement has come
  pub whole : AtEach (OkWhereGranted a) [] entries
  -- after each call the tries so far, and their end, stand at the plan's times
  pub tries : AtEach (TriesInPlan start) [] entries
  -- a try is made, and the tries are given up, only while no answer has come
  pub unanswered : AtEach (TriesInSilence a start) [] entries
