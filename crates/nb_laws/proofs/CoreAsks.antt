-- What a core of one exchange asks at a call, and what the history says of its open.
use Rattle.std.proofs.Common.{◌≡◌, ℕ, List, [], ◌∷◌, None, ◌∙◌, ap}
use Rattle.std.specs.List.{flat_map}
use Rattle.nb_terms.specs.declared.acts.Acts.{Acts}
use Rattle.nb_terms.specs.declared.acts.SendTo.{SendTo}
use Rattle.nb_terms.specs.declared.cause.Cause.{Cause}
use Rattle.nb_defs.specs.Causes.{is_ok_cause}
use Rattle.nb_tftp.specs.History.{Entry, got}
use Rattle.nb_laws.specs.Events.{Event}
use Rattle.nb_laws.specs.Lists.{Opening, openings, datagrams_of, tries, marks}
use Rattle.nb_laws.specs.Cores.{has_its_answer}
use Rattle.nb_laws.specs.Endings.{Holds}
use Rattle.nb_laws.specs.Agreement.{entry_marks}

-- a message that goes the way of another
pub record GoesAs (first send : SendTo) : Type 0 where
  pub proto : send.proto ≡ first.proto
  pub to : send.to ≡ first.to
  pub own : send.own_port ≡ first.own_port

-- nothing is asked for but an end, or one message, which may be sent and goes the way of the first
pub data CoreAsks (May : SendTo → Type 0) (first : SendTo) (acts : Acts) : Type 0 where
  asks_none : acts.advance ≡ None → acts.sends.items ≡ [] → acts.tried ≡ None → CoreAsks May first acts
  asks_one : (send : SendTo) → acts.advance ≡ None → acts.sends.items ≡ send ∷ [] → GoesAs first send → May send → CoreAsks May first acts

-- the history says of open k that this came to it, and what it tried
pub record CoreTold (es : List Event) (k : ℕ) (o : Opening) (entries : List Entry) : Type 0 where
  pub opening : openings k es ≡ o ∷ []
  pub received : datagrams_of k es ≡ got entries
  pub marked : marks k es ≡ tries 1 o.since ∷ flat_map entry_marks entries

-- one that asks for nothing
pub nothing_asked : {May : SendTo → Type 0} {first : SendTo} (acts these : Acts) → acts ≡ these → these.advance ≡ None → these.sends.items ≡ [] → these.tried ≡ None → CoreAsks May first acts
nothing_asked acts these e advance items tried = asks_none (ap (λ (x : Acts). x.advance) e ∙ advance) (ap (λ (x : Acts). x.sends.items) e ∙ items) (ap (λ (x : Acts). x.tried) e ∙ tried)

-- an end of open k has its cause, and is Ok exactly where its answer has come
abbrev pub CoreEnds : ℕ → List Event → Opening → Cause → Type 0
CoreEnds k es o cause = Holds k es cause × (is_ok_cause cause ≡ has_its_answer k o es)
