-- What a call of a core asks, whatever came before it, and which acknowledgement it brings.
use Rattle.std.proofs.Common.{◌≡◌, ℕ, List, [], ◌∷◌, ◌++◌, Bool, true, false, cond, eqb, Option, Some, None, refl, ap, ◌∙◌, sym, subst, lit≤}
use Rattle.std.specs.Option.{option_map_or}
use Rattle.std.proofs.lemmas.Bool.{false≢true}
use Rattle.std.proofs.lemmas.Option.{none-some, same_Some}
use Rattle.std.proofs.lemmas.List.{append-nil}
use Rattle.nb_retry.specs.declared.retry.Due.{Due}
use Rattle.nb_retry.specs.declared.retry.Due.TheVariants.{Not, Again, Over}
use Rattle.nb_retry.specs.Timer.{due_at, after}
use Rattle.nb_terms.specs.declared.acts.Acts.{Acts}
use Rattle.nb_dhcp.specs.declared.asker.Asker.{Asker}
use Rattle.nb_dhcp.specs.declared.offer.Offer.{Offer}
use Rattle.nb_dhcp.specs.declared.state.Phase.{Phase}
use Rattle.nb_dhcp.specs.declared.state.Phase.TheVariants.{Selecting, Requesting, Bound, Ended}
use Rattle.nb_dhcp.specs.declared.state.State.{State}
use Rattle.nb_dhcp.specs.Acting.{no_acts, lease_asking, lease_ending, lease_ok, lease_refused, verdict_acts, reply_acts, timer_acts, AsksSimply}
use Rattle.nb_dhcp.specs.History.{Handed, LeaseEntry, lease_entry, elapsed, all_handed, offered, acknowledgement_in, is_done}
use Rattle.nb_dhcp.specs.Replies.{offer_in, kind_from}
use Rattle.nb_dhcp.specs.LeaseStands.{LeaseStands}
use Rattle.nb_dhcp.specs.LeaseSteps.{offer_at, is_over_at, kept_at, after_offered, after_verdict, after_reply, acts_on_reply, acts_on_time}
use Rattle.nb_dhcp.proofs.LeaseHistoryLemmas.{all_handed-append, pending_none}

nothing_simple : AsksSimply no_acts
nothing_simple = record { few = lit≤ tt; udp = tt; gives = refl }

pub asking_simple : (a : Asker) (o : Option Offer) (n : ℕ) → AsksSimply (lease_asking a o n)
asking_simple a o n = record { few = lit≤ tt; udp = (refl, tt); gives = refl }

verdict_simple : (rec : ℕ) (kind : Option ℕ) → AsksSimply (verdict_acts rec kind)
verdict_simple rec None = nothing_simple
verdict_simple rec (Some kind) = by (eqb kind 5) (eqb kind 6)
  where
    by : (a b : Bool) → AsksSimply (cond a (lease_ending lease_ok) (cond b (lease_ending (lease_refused rec)) no_acts))
    by true b = record { few = lit≤ tt; udp = tt; gives = refl }
    by false true = record { few = lit≤ tt; udp = tt; gives = refl }
    by false false = nothing_simple

reply_simple : (a : Asker) (o : Option Offer) (m : Handed) → AsksSimply (reply_acts a o m)
reply_simple a None m = by (offer_in a m.body)
  where
    by : (x : Option Offer) → AsksSimply (option_map_or (λ offer. lease_asking a (Some offer) 1) x no_acts)
    by None = nothing_simple
    by (Some offer) = asking_simple a (Some offer) 1
reply_simple a (Some offer) m = verdict_simple m.rec (kind_from a offer.server m.body)

due_simple : (a : Asker) (o : Option Offer) (due : Due) → AsksSimply (timer_acts a o due)
due_simple a o Not = nothing_simple
due_simple a o (Again n) = asking_simple a o n
due_simple a o Over = record { few = lit≤ tt; udp = tt; gives = refl }

unless_over : (b : Bool) (acts : Acts) → AsksSimply acts → AsksSimply (cond b no_acts acts)
unless_over true acts simple = nothing_simple
unless_over false acts simple = simple

pub replied_simple : (s : State) (m : Handed) → AsksSimply (acts_on_reply s m)
replied_simple s m = unless_over (is_over_at s.phase) (reply_acts s.asker (offer_at s.phase) m) (reply_simple s.asker (offer_at s.phase) m)

pub elapsed_simple : (s : State) (now : ℕ) → AsksSimply (acts_on_time s now)
elapsed_simple s now = unless_over (is_over_at s.phase) (timer_acts s.asker (offer_at s.phase) (due_at s.retry now)) (due_simple s.asker (offer_at s.phase) (due_at s.retry now))

-- what is kept after a datagram, by a core that hadn't ended, is the datagram's body
abbrev KeepsBody : State → List ℕ → Type 0
KeepsBody s body = (bytes : List ℕ) → kept_at s.phase s.ack.items ≡ Some bytes → bytes ≡ body

keeps_none : (s : State) (body : List ℕ) → kept_at s.phase s.ack.items ≡ None → KeepsBody s body
keeps_none s body none = λ bytes some. absurd (none-some bytes (sym none ∙ some))

going_none : (p : Phase) (bytes : List ℕ) → is_over_at p ≡ false → kept_at p bytes ≡ None
going_none Selecting bytes h = refl
going_none (Requesting offer) bytes h = refl
going_none Bound bytes h = absurd (false≢true (sym h))
going_none Ended bytes h = refl

offered_keeps : (s : State) (o : Option Offer) (now : ℕ) (body : List ℕ) → is_over_at s.phase ≡ false → KeepsBody (after_offered s o now) body
offered_keeps s None now body h = keeps_none s body (going_none s.phase s.ack.items h)
offered_keeps s (Some offer) now body h = keeps_none (after_offered s (Some offer) now) body refl

verdict_keeps : (s : State) (kind : Option ℕ) (body : List ℕ) → is_over_at s.phase ≡ false → KeepsBody (after_verdict s kind body) body
verdict_keeps s None body h = keeps_none s body (going_none s.phase s.ack.items h)
verdict_keeps s (Some kind) body h = by (eqb kind 5) (eqb kind 6)
  where
    by : (a b : Bool) → KeepsBody (cond a (record s { phase = Bound; ack = record { items = body } }) (cond b (record s { phase = Ended }) s)) body
    by true b = λ bytes some. sym (same_Some body bytes some)
    by false true = keeps_none (record s { phase = Ended }) body refl
    by false false = keeps_none s body (going_none s.phase s.ack.items h)

reply_keeps : (s : State) (p : Phase) (m : Handed) (now : ℕ) → is_over_at s.phase ≡ false → is_over_at p ≡ false → KeepsBody (after_reply s p m now) m.body
reply_keeps s Selecting m now h g = offered_keeps s (offer_in s.asker m.body) now m.body h
reply_keeps s (Requesting offer) m now h g = verdict_keeps s (kind_from s.asker offer.server m.body) m.body h
reply_keeps s Bound m now h g = absurd (false≢true (sym g))
reply_keeps s Ended m now h g = absurd (false≢true (sym g))

-- an acknowledgement that comes by a datagram is its body
pub granted_body : (a : Asker) (start : ℕ) (s t : State) (before after : List LeaseEntry) (m : Handed) (now : ℕ) (bytes : List ℕ) → t ≡ after_reply s s.phase m now → LeaseStands a start s before → is_done before ≡ false → LeaseStands a start t after
    → acknowledgement_in a (all_handed after) ≡ Some bytes → bytes ≡ m.body
granted_body a start s t before after m now bytes becomes stood going stands granted =
    let running : is_over_at s.phase ≡ false = stood.over ∙ going in
    subst (λ (z : State). KeepsBody z m.body) (sym becomes) (reply_keeps s s.phase m now running running) bytes (stands.kept ∙ granted)

-- and by a time none comes
pub ungranted : (a : Asker) (start : ℕ) (s : State) (h : List LeaseEntry) (now : ℕ) (acts : Acts) → LeaseStands a start s h → is_done h ≡ false → acknowledgement_in a (all_handed (h ++ lease_entry (elapsed now) acts ∷ [])) ≡ None
ungranted a start s h now acts stands going =
    ap (acknowledgement_in a) (all_handed-append h (lease_entry (elapsed now) acts) ∙ append-nil (all_handed h))
    ∙ pending_none a (offered a (all_handed h)) (stands.asks (stands.over ∙ going)).pending
